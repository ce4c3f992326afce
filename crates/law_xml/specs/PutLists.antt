-- Items that an end puts one behind the other, and what a pipe carries behind them (RFC 6120, sections 4.2 to 4.4).
use Rattle.std.specs.Prelude.{ℕ, ◌≡◌, List, [], ◌∷◌, ◌++◌}
use Rattle.std.specs.List.{flat_map}
use Rattle.law_xml.specs.Carries.{Carries}
use Rattle.xml_framer.specs.States.{State}
use Rattle.xml_framer.specs.declared.items.Item.{Item}
use Rattle.xml_framer.specs.declared.states.Phase.{Phase}
use Rattle.net_pipes.specs.Pipes.{Pipe, entered}
use Rattle.xml_writer.specs.Items.{ItemOut, written_item}
use Rattle.law_xml.specs.Puts.{MayPut, StandsAt, phase_behind, read_out}

-- each may be put behind those before it
abbrev pub MayAll : Phase → List ItemOut → Type 0
MayAll p [] = Unit {0}
MayAll p (item ∷ rest) = MayPut p item × MayAll (phase_behind item) rest

-- where the stream stands behind items
abbrev pub phase_after : Phase → List ItemOut → Phase
phase_after p [] = p
phase_after p (item ∷ rest) = phase_after (phase_behind item) rest

-- the one are what is read of the other, a header with some place
abbrev pub AreRead : List ItemOut → List Item → Type 0
AreRead [] [] = Unit {0}
AreRead [] (i ∷ read) = ⊥
AreRead (item ∷ rest) [] = ⊥
AreRead (item ∷ rest) (i ∷ read) = (at : ℕ) × (i ≡ read_out at item) × AreRead rest read

-- items entered, as they are written, and the pipe carries what is read of them
pub record HavePut (s : State) (part : List ℕ) (p : Pipe) (items : List Item) (t : State) (from : Phase) (more : List ItemOut) : Type 0 where
  pub read : List Item
  pub are_read : AreRead more read
  pub now : State
  pub carries : Carries s part (entered (flat_map written_item more) p) (items ++ read) now
  pub stands : StandsAt now (phase_after from more)
  pub same_limits : now.limits ≡ t.limits
