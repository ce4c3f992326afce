-- What the machine does at the end of a tag of an element.
use Rattle.std.proofs.Common.{◌≡◌, ℕ, ◌+◌, ◌≤◌, ◌⊎◌, inl, inr, ⊎_elim, true, false, List, [], Some, None, Result, Ok, Err, codes, length, refl, sym, ap, ◌∙◌, arith}
use Rattle.std.proofs.lemmas.Bool.{and_parts, cases_Bool, le-ltb}
use Rattle.std.proofs.lemmas.Slice.Eq.{bytes_eq-Decides}
use Rattle.std.specs.Option.{is_some}
use Rattle.std.specs.Str.{bytes_eq}
use Rattle.xml_tokens.specs.Tags as tokens
use Rattle.xml_tokens.specs.Tags.{is_end}
use Rattle.xml_names.proofs.StartLaws as laws
use Rattle.xml_names.specs.Ends.{end_of}
use Rattle.xml_names.specs.Grammar.{IsStart, IsWithin}
use Rattle.xml_names.specs.Headers.{opens_stream}
use Rattle.xml_names.specs.Scopes.{Scope}
use Rattle.xml_names.specs.Starts.{Tag, start_of}
use Rattle.xml_names.specs.declared.fault.StartWhy.{StartWhy}
use Rattle.xml_names.specs.declared.limits.TagLimits.{TagLimits}
use Rattle.xml_framer.proofs.LargerLimits.{shorter}
use Rattle.law_xml.proofs.Quiet.{HasInHand}
use Rattle.law_xml.specs.Spells.{IsHeaderName}
use Rattle.xml_framer.specs.States.{OpenElement, State, open_count, turn, with_text}
use Rattle.xml_framer.specs.TagSteps.{added, begun, closed, ends, element_from, is_header, is_too_deep, joined_text, largest_limits, leaf, level, says_stream, scope_in, shallower, tag_closes, tag_here, tag_inside, tag_limits, tag_outside}
use Rattle.xml_framer.specs.declared.items.Item.{Item}
use Rattle.xml_framer.specs.declared.states.Phase.TheVariants as phase

-- ---- one tag

larger : (a b : TagLimits) (scope : Scope) (bytes : List ℕ) (t : Tag) → a.attributes ≤ b.attributes → a.namespace_bytes ≤ b.namespace_bytes
    → start_of a scope bytes ≡ Ok t → start_of b scope bytes ≡ Ok t
larger a b scope bytes t few short e =
    let w = (laws.read a scope bytes t).0 e in
    let most : length w.0 ≤ a.attributes = w.2.0 in
    (laws.read b scope bytes t).1 (w.0, w.1, (omega (arith, most, few), shorter a.namespace_bytes b.namespace_bytes t.bindings short w.2.1))

same_value : (r : Result Tag StartWhy) (t u : Tag) → r ≡ Ok t → r ≡ Ok u → t ≡ u
same_value r t u e f = cc

-- the limits have no part in what a tag says
pub one_tag : (a b : TagLimits) (scope : Scope) (bytes : List ℕ) (t u : Tag) → start_of a scope bytes ≡ Ok t → start_of b scope bytes ≡ Ok u → t ≡ u
one_tag a b scope bytes t u e f =
    let both : TagLimits = record { attributes = a.attributes + b.attributes; namespace_bytes = a.namespace_bytes + b.namespace_bytes } in
    same_value (start_of both scope bytes) t u (larger a both scope bytes t (omega arith) (omega arith) e) (larger b both scope bytes u (omega arith) (omega arith) f)

not_stream : (a : TagLimits) (scope : Scope) (bytes : List ℕ) (t : Tag) → start_of a scope bytes ≡ Ok t → opens_stream t ≡ false
    → (r : Result Tag StartWhy) → start_of largest_limits scope bytes ≡ r → says_stream r ≡ false
not_stream a scope bytes t e other (Ok u) is = ap opens_stream (sym (one_tag a largest_limits scope bytes t u e is)) ∙ other
not_stream a scope bytes t e other (Err fault) is = refl

-- a tag without a header's name is none of a header
pub is_no_header : (t : Tag) → (IsHeaderName t.ns t.name → ⊥) → opens_stream t ≡ false
is_no_header t other =
    ⊎_elim
    (λ (opens : opens_stream t ≡ true).
    let both = and_parts (bytes_eq t.ns (codes "http://etherx.jabber.org/streams")) (bytes_eq t.name (codes "stream")) opens in
    absurd (other ((bytes_eq-Decides t.ns (codes "http://etherx.jabber.org/streams")).0 both.0, (bytes_eq-Decides t.name (codes "stream")).0 both.1)))
    (λ (none : opens_stream t ≡ false). none)
    (cases_Bool (opens_stream t))

-- ---- where a tag stands

-- outside elements behind a header, where none is open further out
pub record IsTopLevel (s : State) : Type 0 where
  pub outside : s.here ≡ None
  pub none_open : s.below ≡ []
  pub phase_is : s.lexical.phase ≡ phase.Between

-- a start tag with this name begins an element: in an element each does
abbrev pub MayBegin : State → List ℕ → List ℕ → Type 0
MayBegin s ns name = (is_some s.here ≡ true) ⊎ (IsTopLevel s × (IsHeaderName ns name → ⊥))

begins_inside : (h : State) (items : List Item) (tag : Tag) → is_some h.here ≡ true → is_end h.token ≡ false → tag_here h ≡ Ok tag → tag_closes (turn h items) ≡ begun (turn h items) tag
unfolding tag_closes tag_inside
begins_inside h items tag inner started e = rw (inner, started, e) refl

begins_outside : (h : State) (items : List Item) (tag : Tag) → is_some h.here ≡ false → h.lexical.phase ≡ phase.Between → is_header h ≡ false → tag_here h ≡ Ok tag
    → tag_closes (turn h items) ≡ begun (turn h items) tag
unfolding tag_closes tag_outside is_header
begins_outside h items tag outer p other e = rw (outer, p, other, e) refl

no_header_here : (h : State) (tag : Tag) → tag_here h ≡ Ok tag → opens_stream tag ≡ false → is_header h ≡ false
unfolding is_header
no_header_here h tag e other = not_stream (tag_limits h.limits) (scope_in h.scopes) h.token tag e other (start_of largest_limits (scope_in h.scopes) h.token) refl

-- the tag in hand is read as what it spells
pub reads_tag : (s h : State) (bytes : List ℕ) (raw : List tokens.Attribute) (tag : Tag) → HasInHand s h bytes → IsStart (scope_in s.scopes) bytes raw tag → IsWithin (tag_limits s.limits) raw tag → tag_here h ≡ Ok tag
reads_tag s h bytes raw tag hand start within =
    rw (hand.alike.limits, hand.alike.scopes, hand.token) ((laws.read (tag_limits s.limits) (scope_in s.scopes) bytes tag).1 (raw, start, within))

pub begins : (s h : State) (items : List Item) (bytes : List ℕ) (tag : Tag) → HasInHand s h bytes → is_end h.token ≡ false → tag_here h ≡ Ok tag → MayBegin s tag.ns tag.name
    → tag_closes (turn h items) ≡ begun (turn h items) tag
begins s h items bytes tag hand started e (inl inner) = begins_inside h items tag (ap is_some hand.alike.here ∙ inner) started e
begins s h items bytes tag hand started e (inr (top, other)) =
    begins_outside h items tag (ap is_some (hand.alike.here ∙ top.outside)) (hand.alike.phase ∙ top.phase_is) (no_header_here h tag e (is_no_header tag other)) e

-- ---- an element begins

pub near : (h : State) (n : ℕ) → open_count h ≡ n → n + 1 ≤ h.limits.depth → is_too_deep h ≡ false
near h n e le = rw e (le-ltb h.limits.depth (n + 1) le)

pub leaf_begins : (h : State) (items : List Item) (tag : Tag) → is_too_deep h ≡ false → tag.empty ≡ true → begun (turn h items) tag ≡ added (turn (joined_text h) items) (element_from tag)
unfolding begun leaf
leaf_begins h items tag shallow e = rw (shallow, e) refl

pub level_begins : (h : State) (items : List Item) (tag : Tag) → is_too_deep h ≡ false → tag.empty ≡ false → begun (turn h items) tag ≡ turn (level h tag) items
unfolding begun
level_begins h items tag shallow e = rw (shallow, e) refl

-- ---- an element ends

spelled_same : (o : OpenElement) (name : List ℕ) → name ≡ o.spelled → bytes_eq name o.spelled ≡ true
spelled_same o name e = (bytes_eq-Decides name o.spelled).1 e

pub closes : (h : State) (items : List Item) (o : OpenElement) (name : List ℕ) → h.here ≡ Some o → is_end h.token ≡ true → end_of h.token ≡ Some name → name ≡ o.spelled
    → tag_closes (turn h items) ≡ added (turn (shallower (joined_text h)) items) (with_text o h.chars).element
unfolding tag_closes tag_inside ends closed
closes h items o name here ended e same = rw (here, ended, e, spelled_same o name same) refl
