-- What is read of bytes enters as the item that they give.
use Rattle.std.proofs.Common.{◌≡◌, ℕ, false, List, [], ◌∷◌, refl, sym, append-nil}
use Rattle.xml_names.specs.Scopes.{Scope}
use Rattle.xml_framer.specs.States.{State}
use Rattle.xml_framer.specs.declared.items.Item.{Item}
use Rattle.xml_framer.specs.declared.states.Phase.{Phase}
use Rattle.law_xml.specs.Spells.{placed}
use Rattle.law_xml.specs.Standing.{Gives, StandsOutside}
use Rattle.net_pipes.specs.Pipes.{Pipe}
use Rattle.law_xml.specs.Carries.{Carries}
use Rattle.law_xml.specs.Items.{AreWhole, GivesOne, no_more, one_more}
use Rattle.law_xml.proofs.PipeLaws.{enters}
use Rattle.law_xml.specs.Puts.{Entered}

pub gives_one : (s : State) (bytes : List ℕ) (i : Item) (following : Phase) (scope : Scope) (name : List ℕ) (g : Gives s [] bytes i following scope name) → GivesOne s bytes (placed s.positions.at i) g.following
gives_one s bytes i following scope name g = record { run_is = g.run_is; none_before = g.none_before; no_fault = g.stands.no_fault }

one_is_whole : (s : State) (bytes : List ℕ) (i : Item) (following : State) → GivesOne s bytes i following → AreWhole s bytes (i ∷ []) following
one_is_whole s bytes i following g = one_more false s bytes (i ∷ []) following bytes [] i [] following g (no_more false following [] [] following refl refl refl) (sym (append-nil bytes)) refl

pub one_enters : (s : State) (part : List ℕ) (p : Pipe) (items : List Item) (t : State) (bytes : List ℕ) (i : Item) (now : State) (following : Phase) (scope : Scope) (name : List ℕ)
    → Carries s part p items t → p.ended ≡ false → GivesOne t bytes i now → StandsOutside now following scope name → now.limits ≡ t.limits → Entered s part p items t bytes i following scope name
one_enters s part p items t bytes i now following scope name c open_still g stands same =
    record { now = now; carries = enters s part p items t bytes (i ∷ []) now c open_still (one_is_whole t bytes i now g); stands = stands; same_limits = same }

pub read_enters : (s : State) (part : List ℕ) (p : Pipe) (items : List Item) (t : State) (bytes : List ℕ) (i : Item) (following : Phase) (scope : Scope) (name : List ℕ)
    → Carries s part p items t → p.ended ≡ false → Gives t [] bytes i following scope name → Entered s part p items t bytes (placed t.positions.at i) following scope name
read_enters s part p items t bytes i following scope name c open_still g =
    one_enters s part p items t bytes (placed t.positions.at i) g.following following scope name c open_still (gives_one t bytes i following scope name g) g.stands g.same_limits
