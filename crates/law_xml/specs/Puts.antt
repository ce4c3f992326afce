-- What an end puts into its stream, where its framer stands, and what a pipe carries behind it (RFC 6120, sections 4.2
-- to 4.4).
use Rattle.std.specs.Prelude.{ℕ, ◌≡◌, ◌≤◌, List, [], ◌∷◌, ◌++◌, codes, length}
use Rattle.xml_trees.specs.Trees.{IsTree}
use Rattle.xml_names.specs.Scopes.{Scope}
use Rattle.xml_framer.specs.States.{State}
use Rattle.xml_framer.specs.declared.items.Item.{Item}
use Rattle.xml_framer.specs.declared.items.Item.TheVariants as item
use Rattle.xml_framer.specs.declared.limits.Limits.{Limits}
use Rattle.xml_framer.specs.declared.states.Phase.{Phase}
use Rattle.xml_framer.specs.declared.states.Phase.TheVariants as phase
use Rattle.xml_writer.specs.Items.{Closing, ItemOut, Opening, Whole, declaration, written_item}
use Rattle.law_xml.specs.Fitting.{Fits, HeaderFits}
use Rattle.law_xml.specs.Plain.{IsPlain, IsPlainHeader}
use Rattle.law_xml.specs.Spells.{as_written, written_scope}
use Rattle.law_xml.specs.Standing.{StandsOutside}
use Rattle.net_pipes.specs.Pipes.{Pipe, entered}
use Rattle.law_xml.specs.Carries.{Carries}

-- the item that is read of it, a header with its place
abbrev pub read_out : ℕ → ItemOut → Item
read_out at (Opening h) = item.Header at (as_written h)
read_out at (Whole e) = item.Element e
read_out at Closing = item.Footer

-- it is plain, and within the limits of the framer as it is written
abbrev pub OutFits : Limits → ItemOut → Type 0
OutFits limits (Opening h) = IsPlainHeader h × HeaderFits limits h × (length declaration ≤ limits.bytes)
OutFits limits (Whole e) = IsTree e × IsPlain e × Fits limits e
OutFits limits Closing = Unit {0}

-- first a header, then each, and after the footer none
abbrev pub MayPut : Phase → ItemOut → Type 0
MayPut phase.First (Opening h) = Unit {0}
MayPut phase.First (Whole e) = ⊥
MayPut phase.First Closing = ⊥
MayPut phase.FirstDeclared i = ⊥
MayPut phase.Between i = Unit {0}
MayPut phase.Declared i = ⊥
MayPut phase.Ended i = ⊥

abbrev pub phase_behind : ItemOut → Phase
phase_behind (Opening h) = phase.Between
phase_behind (Whole e) = phase.Between
phase_behind Closing = phase.Ended

-- before the first header, or behind a written one
abbrev pub StandsAt : State → Phase → Type 0
StandsAt t phase.First = StandsOutside t phase.First [] []
StandsAt t p = StandsOutside t p written_scope (codes "stream:stream")

-- bytes entered, and the pipe carries one item more
pub record Entered (s : State) (part : List ℕ) (p : Pipe) (items : List Item) (t : State) (bytes : List ℕ) (i : Item) (following : Phase) (scope : Scope) (name : List ℕ) : Type 0 where
  pub now : State
  pub carries : Carries s part (entered bytes p) (items ++ i ∷ []) now
  pub stands : StandsOutside now following scope name
  pub same_limits : now.limits ≡ t.limits

-- what an end puts entered
pub record HasPut (s : State) (part : List ℕ) (p : Pipe) (items : List Item) (t : State) (i : ItemOut) : Type 0 where
  pub at : ℕ
  pub entered_as : Entered s part p items t (written_item i) (read_out at i) (phase_behind i) written_scope (codes "stream:stream")
