-- What spells an item is read as that item.
use Rattle.std.proofs.Common.{◌≡◌, ℕ, ◌⊎◌, ◌≤◌, inl, inr, Bool, false, List, [], ◌∷◌, ◌++◌, None, length, refl, sym, ap, subst, ◌∙◌, arith}
use Rattle.std.proofs.lemmas.List.{append-nil}
use Rattle.std.specs.Option.{is_some}
use Rattle.xml_tokens.specs.Tags as tokens
use Rattle.xml_tokens.specs.Tags.{IsTag, end_tag}
use Rattle.xml_names.specs.Grammar.{IsStart}
use Rattle.xml_names.specs.Headers.{header_of}
use Rattle.xml_names.specs.Starts.{Tag}
use Rattle.xml_names.specs.Scopes.{Scope}
use Rattle.xml_names.specs.declared.headers.Header.{Header}
use Rattle.law_xml.proofs.ElementRuns.{element_read, front_of}
use Rattle.law_xml.proofs.ElementStates.{HasFront, IsWhole, none_before, none_held}
use Rattle.law_xml.proofs.HeaderRuns.{HasHead, MayHead, head_run, next_opens}
use Rattle.law_xml.proofs.Quiet.{HasRoom, IsQuiet}
use Rattle.law_xml.proofs.SpelledTrees.{spelled_stays}
use Rattle.law_xml.proofs.FooterRuns.{HasEnded, footer_run}
use Rattle.xml_framer.specs.Machine.{behind_byte, passed, run}
use Rattle.law_xml.specs.Spells.{IsHeaderName, SpellsFooter, SpellsHeader, SpellsItem, SpellsNextHeader, SpellsTop, a_footer, a_header, an_element, placed}
use Rattle.law_xml.specs.Standing.{Gives, IsItemWithin, StandsOutside, name_left, phase_left, scope_left}
use Rattle.xml_framer.specs.States.{State, item_ended, open_count, turn}
use Rattle.xml_framer.specs.TagSteps.{added, added_to, header_items, phase_behind, scope_in, tag_limits, text_joined}
use Rattle.xml_trees.specs.Tidied.{tidied}
use Rattle.xml_trees.specs.Trees.{Elem}
use Rattle.law_xml.specs.Within.{IsElementWithin, IsHeadWithin, IsHeaderWithin, IsNextHeadWithin, IsNextHeaderWithin}
use Rattle.xml_framer.specs.declared.items.Item.{Item}
use Rattle.xml_framer.specs.declared.items.Item.TheVariants as item
use Rattle.xml_framer.specs.declared.states.Phase.{Phase}
use Rattle.xml_framer.specs.declared.states.Phase.TheVariants as phase

pub quiet_there : (s : State) (p : Phase) (scope : Scope) (name : List ℕ) → StandsOutside s p scope name → IsQuiet s
quiet_there s p scope name at = record { no_fault = at.no_fault; text = at.text; no_token = at.no_token; no_pending = at.no_pending; no_quote = at.no_quote; not_spoiled = at.not_spoiled; counted = rw at.none_used (omega arith); uncounted = λ e. at.none_used }

pub room_there : (s : State) (bytes : List ℕ) → s.positions.used ≡ 0 → length bytes ≤ s.limits.bytes → HasRoom s bytes
room_there s bytes unused short = inl (omega (arith, unused, short))

-- ---- headers

stands_headed : (s t : State) (p : Phase) (scope inner : Scope) (name next : List ℕ) (ends : Bool) → StandsOutside s p scope name → HasHead s t ends inner next → StandsOutside t (phase_behind ends) inner next
stands_headed s t p scope inner name next ends stands has =
    let quiet = has.fresh.quiet in
    record {
      no_fault = quiet.no_fault;
      outside = has.here ∙ stands.outside;
      none_open = has.below ∙ stands.none_open;
      text = quiet.text;
      no_quote = quiet.no_quote;
      not_spoiled = quiet.not_spoiled;
      no_token = quiet.no_token;
      no_pending = quiet.no_pending;
      none_used = has.unused;
      phase_is = has.phase_is;
      scope_is = ap scope_in has.scopes ∙ append-nil inner;
      name_is = has.name_is;
    }

-- behind a header's tag, of an empty element or not
pub record HasHeaded (s : State) (items : List Item) (bytes : List ℕ) (h : Header) (ends : Bool) (inner : Scope) (next : List ℕ) : Type 0 where
  pub following : State
  pub run_is : run (turn s items) bytes ≡ turn following (items ++ header_items s.positions.at h ends)
  pub front : HasFront s items bytes
  pub stands : StandsOutside following (phase_behind ends) inner next
  pub same_limits : following.limits ≡ s.limits

pub head_read : (s : State) (items : List Item) (p : Phase) (scope inner : Scope) (name next bytes : List ℕ) (h : Header) (ends : Bool) (raw : List tokens.Attribute) (tag : Tag) → IsStart [] bytes raw tag → tag.empty ≡ ends
    → tag.spelled ≡ next → tag.bindings ≡ inner → h ≡ header_of tag → StandsOutside s p scope name → IsHeadWithin s.limits bytes raw tag → MayHead s bytes → HasHeaded s items bytes h ends inner next
head_read s items p scope inner name next bytes h ends raw tag start is_empty named binds says stands within may =
    let r =
    head_run s items bytes next inner h ends raw tag start is_empty named binds says (quiet_there s p scope name stands) (ap is_some stands.outside) (room_there s bytes stands.none_used within.short) within.tag
    may in
    record { following = r.0; run_is = r.1; front = r.3; stands = stands_headed s r.0 p scope inner name next ends stands r.2; same_limits = r.2.limits }

-- the tag of a later header may be one
pub may_head_next : (s : State) (p : Phase) (scope : Scope) (name bytes : List ℕ) (xs ys : List tokens.Attribute) (t u : Tag) → StandsOutside s p scope name
    → (s.lexical.phase ≡ phase.Between) ⊎ (s.lexical.phase ≡ phase.Declared) → IsStart [] bytes xs t → IsStart scope bytes ys u → IsHeaderName u.ns u.name → IsNextHeadWithin s.limits bytes xs t → MayHead s bytes
may_head_next s p scope name bytes xs ys t u stands later first next named within =
    inr (inr (later, rw stands.scope_is (next_opens (tag_limits s.limits) scope bytes xs ys t u first next named within.attributes_fit within.names_fit within.head.tag)))

head_gives : (s : State) (items : List Item) (p : Phase) (scope inner : Scope) (name next bytes : List ℕ) (at : ℕ) (h : Header) (i : Item) (spelled : SpellsHeader bytes next inner h) → StandsOutside s p scope name
    → IsHeaderWithin s.limits bytes next inner h spelled → MayHead s bytes → i ≡ item.Header at h → Gives s items bytes i phase.Between inner next
head_gives s items p scope inner name next bytes at h i spelled stands within may is =
    let r = head_read s items p scope inner name next bytes h false spelled.raw spelled.tag spelled.start spelled.not_empty spelled.name_is spelled.scope_is spelled.says stands within may in
    record {
      following = r.following;
      run_is = r.run_is ∙ ap (λ j. turn r.following (items ++ placed s.positions.at j ∷ [])) (sym is);
      none_before = none_before s items bytes r.front;
      stands = r.stands;
      same_limits = r.same_limits;
    }

next_header_gives : (s : State) (items : List Item) (p : Phase) (scope inner : Scope) (name next bytes : List ℕ) (at : ℕ) (h : Header) (i : Item) (spelled : SpellsNextHeader scope bytes next inner h)
    → StandsOutside s p scope name → (s.lexical.phase ≡ phase.Between) ⊎ (s.lexical.phase ≡ phase.Declared) → IsNextHeaderWithin s.limits scope bytes next inner h spelled → i ≡ item.Header at h
    → Gives s items bytes i phase.Between inner next
next_header_gives s items p scope inner name next bytes at h i spelled stands later within is =
    let may = may_head_next s p scope name bytes spelled.spelled.raw spelled.raw spelled.spelled.tag spelled.tag stands later spelled.spelled.start spelled.start spelled.named within in
    head_gives s items p scope inner name next bytes at h i spelled.spelled stands within.head may is

-- ---- elements

top_given : (s h : State) (items : List Item) (bytes : List ℕ) (e : Elem) → s.here ≡ None → IsWhole s h bytes → behind_byte (added (turn h items) e) 62 ≡ turn (passed (item_ended h) 62) (items ++ item.Element (tidied e) ∷ [])
top_given s h items bytes e outside whole = ap (λ o. behind_byte (added_to o (turn h items) e) 62) (whole.here ∙ ap (λ o. text_joined o s.chars) outside)

pub element_gives : (s : State) (items : List Item) (scope : Scope) (name bytes : List ℕ) (e : Elem) (i : Item) (spelled : SpellsTop scope bytes e) → StandsOutside s phase.Between scope name
    → IsElementWithin s.limits scope bytes e spelled.spelled → i ≡ item.Element e → Gives s items bytes i phase.Between scope name
element_gives s items scope name bytes e i spelled stands within is =
    let count : open_count s ≡ 0 = rw stands.outside refl in
    let shallow = within.shallow in
    let r =
    element_read scope bytes e spelled.spelled s items (quiet_there s phase.Between scope name stands) stands.scope_is (room_there s bytes stands.none_used within.short) within.tags (omega (arith, count, shallow))
    (inr (record { outside = stands.outside; none_open = stands.none_open; phase_is = stands.phase_is }, spelled.no_header)) in
    let h = r.0 in
    let whole : IsWhole s h bytes = r.2 in
    record {
      following = passed (item_ended h) 62;
      run_is =
          r.1 ∙ top_given s h items bytes e stands.outside whole
          ∙ ap (λ f. turn (passed (item_ended h) 62) (items ++ item.Element f ∷ [])) (spelled_stays scope bytes e spelled.spelled)
          ∙ ap (λ j. turn (passed (item_ended h) 62) (items ++ placed s.positions.at j ∷ [])) (sym is);
      stands = record {
        no_fault = whole.no_fault;
        outside = whole.here ∙ ap (λ o. text_joined o s.chars) stands.outside;
        none_open = whole.below ∙ stands.none_open;
        text = refl;
        no_quote = refl;
        not_spoiled = refl;
        no_token = refl;
        no_pending = none_held h.pending whole.no_pending;
        none_used = refl;
        phase_is = whole.phase ∙ stands.phase_is;
        scope_is = ap scope_in whole.scopes ∙ stands.scope_is;
        name_is = whole.name ∙ stands.name_is;
      };
      same_limits = whole.limits;
      none_before = none_before s items bytes r.3;
    }

-- ---- footers

pub footer_gives : (s : State) (items : List Item) (scope : Scope) (name bytes : List ℕ) (i : Item) → SpellsFooter bytes name → StandsOutside s phase.Between scope name → i ≡ item.Footer
    → Gives s items bytes i phase.Ended scope name
footer_gives s items scope name bytes i spelled stands is =
    let r =
    footer_run s items bytes (quiet_there s phase.Between scope name stands) (ap is_some stands.outside) stands.phase_is
    (subst (λ n. IsTag bytes (end_tag n)) (sym stands.name_is) spelled) in
    let has : HasEnded s r.0 = r.2 in
    let quiet = has.fresh.quiet in
    record {
      following = r.0;
      run_is = r.1 ∙ ap (λ j. turn r.0 (items ++ placed s.positions.at j ∷ [])) (sym is);
      stands = record {
        no_fault = quiet.no_fault;
        outside = has.here ∙ stands.outside;
        none_open = has.below ∙ stands.none_open;
        text = quiet.text;
        no_quote = quiet.no_quote;
        not_spoiled = quiet.not_spoiled;
        no_token = quiet.no_token;
        no_pending = quiet.no_pending;
        none_used = has.uncounted;
        phase_is = has.phase_is;
        scope_is = ap scope_in has.scopes ∙ stands.scope_is;
        name_is = has.name ∙ stands.name_is;
      };
      same_limits = has.limits;
      none_before = none_before s items bytes (front_of s items bytes r.3);
    }

-- ---- items

pub item_gives : (s : State) (items : List Item) (scope : Scope) (name bytes : List ℕ) (i : Item) (spelled : SpellsItem scope name bytes i) → StandsOutside s phase.Between scope name
    → IsItemWithin s.limits scope name bytes i spelled → Gives s items bytes i (phase_left scope name bytes i spelled) (scope_left scope name bytes i spelled) (name_left scope name bytes i spelled)
item_gives s items scope name bytes i (a_header _ _ _ _ next inner at h spelled is) stands within =
    next_header_gives s items phase.Between scope inner name next bytes at h i spelled stands (inl stands.phase_is) within is
item_gives s items scope name bytes i (an_element _ _ _ _ e spelled is) stands within = element_gives s items scope name bytes e i spelled stands within is
item_gives s items scope name bytes i (a_footer _ _ _ _ spelled is) stands within = footer_gives s items scope name bytes i spelled stands is

-- ---- headers elsewhere

pub first_gives : (s : State) (items : List Item) (scope inner : Scope) (name next bytes : List ℕ) (h : Header) (spelled : SpellsHeader bytes next inner h) → StandsOutside s phase.First scope name
    → IsHeaderWithin s.limits bytes next inner h spelled → Gives s items bytes (item.Header s.positions.at h) phase.Between inner next
first_gives s items scope inner name next bytes h spelled stands within =
    head_gives s items phase.First scope inner name next bytes s.positions.at h (item.Header s.positions.at h) spelled stands within (inl stands.phase_is) refl

pub first_declared_gives : (s : State) (items : List Item) (scope inner : Scope) (name next bytes : List ℕ) (h : Header) (spelled : SpellsHeader bytes next inner h) → StandsOutside s phase.FirstDeclared scope name
    → IsHeaderWithin s.limits bytes next inner h spelled → Gives s items bytes (item.Header s.positions.at h) phase.Between inner next
first_declared_gives s items scope inner name next bytes h spelled stands within =
    head_gives s items phase.FirstDeclared scope inner name next bytes s.positions.at h (item.Header s.positions.at h) spelled stands within (inr (inl stands.phase_is)) refl

pub declared_gives : (s : State) (items : List Item) (scope inner : Scope) (name next bytes : List ℕ) (h : Header) (spelled : SpellsNextHeader scope bytes next inner h) → StandsOutside s phase.Declared scope name
    → IsNextHeaderWithin s.limits scope bytes next inner h spelled → Gives s items bytes (item.Header s.positions.at h) phase.Between inner next
declared_gives s items scope inner name next bytes h spelled stands within =
    next_header_gives s items phase.Declared scope inner name next bytes s.positions.at h (item.Header s.positions.at h) spelled stands (inr stands.phase_is) within refl
