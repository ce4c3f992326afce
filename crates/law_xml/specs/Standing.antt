-- Where a framer stands between the items of a stream (RFC 6120, section 4), and where an item leaves it.
use Rattle.std.specs.Prelude.{ℕ, ◌≡◌, ◌<◌, false, List, [], ◌∷◌, ◌++◌, None, length, take}
use Rattle.xml_names.specs.Scopes.{Scope}
use Rattle.xml_framer.specs.Machine.{run}
use Rattle.law_xml.specs.Spells.{SpellsItem, a_footer, a_header, an_element, placed}
use Rattle.xml_framer.specs.States.{State, turn}
use Rattle.xml_framer.specs.TagSteps.{scope_in}
use Rattle.law_xml.specs.Within.{IsElementWithin, IsNextHeaderWithin}
use Rattle.xml_framer.specs.declared.items.Item.{Item}
use Rattle.xml_framer.specs.declared.limits.Limits.{Limits}
use Rattle.xml_framer.specs.declared.states.Mode.TheVariants as mode
use Rattle.xml_framer.specs.declared.states.Phase.{Phase}
use Rattle.xml_framer.specs.declared.states.Phase.TheVariants as phase

-- Outside elements, with no fault and with no token or character in hand: in this phase of the stream, in this scope, and
-- behind a header with this name as it is spelled.
pub record StandsOutside (s : State) (p : Phase) (scope : Scope) (name : List ℕ) : Type 0 where
  pub no_fault : s.fault ≡ None
  pub outside : s.here ≡ None
  pub none_open : s.below ≡ []
  pub text : s.lexical.mode ≡ mode.Text
  pub no_quote : s.lexical.quote ≡ None
  pub not_spoiled : s.lexical.spoiled ≡ false
  pub no_token : s.token ≡ []
  pub no_pending : s.pending ≡ []
  pub none_used : s.positions.used ≡ 0
  pub phase_is : s.lexical.phase ≡ p
  pub scope_is : scope_in s.scopes ≡ scope
  pub name_is : s.name ≡ name

-- Bytes give this item and nothing else, at the last of them, and leave the framer outside elements.
pub record Gives (s : State) (items : List Item) (bytes : List ℕ) (i : Item) (p : Phase) (scope : Scope) (name : List ℕ) : Type 0 where
  pub following : State
  pub run_is : run (turn s items) bytes ≡ turn following (items ++ placed s.positions.at i ∷ [])
  pub none_before : (n : ℕ) → n < length bytes → (run (turn s items) (take n bytes)).items ≡ items
  pub stands : StandsOutside following p scope name
  pub same_limits : following.limits ≡ s.limits

-- what an item leaves: a header its own scope and name, and the others those in force
abbrev pub scope_left : (scope : Scope) (name bytes : List ℕ) (i : Item) → SpellsItem scope name bytes i → Scope
scope_left scope name bytes i (a_header _ _ _ _ next inner at h spelled is) = inner
scope_left scope name bytes i (an_element _ _ _ _ e spelled is) = scope
scope_left scope name bytes i (a_footer _ _ _ _ spelled is) = scope

abbrev pub name_left : (scope : Scope) (name bytes : List ℕ) (i : Item) → SpellsItem scope name bytes i → List ℕ
name_left scope name bytes i (a_header _ _ _ _ next inner at h spelled is) = next
name_left scope name bytes i (an_element _ _ _ _ e spelled is) = name
name_left scope name bytes i (a_footer _ _ _ _ spelled is) = name

-- nothing stands behind a footer
abbrev pub phase_left : (scope : Scope) (name bytes : List ℕ) (i : Item) → SpellsItem scope name bytes i → Phase
phase_left scope name bytes i (a_header _ _ _ _ next inner at h spelled is) = phase.Between
phase_left scope name bytes i (an_element _ _ _ _ e spelled is) = phase.Between
phase_left scope name bytes i (a_footer _ _ _ _ spelled is) = phase.Ended

-- A spelled item is within the limits. A footer has no limit.
abbrev pub IsItemWithin : (limits : Limits) (scope : Scope) (name bytes : List ℕ) (i : Item) → SpellsItem scope name bytes i → Type 0
IsItemWithin limits scope name bytes i (a_header _ _ _ _ next inner at h spelled is) = IsNextHeaderWithin limits scope bytes next inner h spelled
IsItemWithin limits scope name bytes i (an_element _ _ _ _ e spelled is) = IsElementWithin limits scope bytes e spelled.spelled
IsItemWithin limits scope name bytes i (a_footer _ _ _ _ spelled is) = Unit {0}
