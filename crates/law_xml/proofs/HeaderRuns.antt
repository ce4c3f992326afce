-- What spells a header is read as that header.
use Rattle.std.proofs.Common.{◌≡◌, ℕ, ◌<◌, ◌^◌, ◌⊎◌, inl, inr, Bool, true, false, List, [], ◌∷◌, ◌++◌, Result, Ok, All, codes, refl, sym, ap, subst, ◌∙◌, arith}
use Rattle.std.proofs.lemmas.Slice.Eq.{bytes_eq-Decides}
use Rattle.std.specs.Option.{is_some}
use Rattle.xml_tokens.proofs.TagOutcomes.{tags_are_read}
use Rattle.xml_tokens.specs.Tags as tokens
use Rattle.xml_tokens.specs.Tags.{start_tag, tag_of}
use Rattle.xml_tokens.specs.declared.fault.TagWhy.{TagWhy}
use Rattle.xml_names.proofs.StartLaws as laws
use Rattle.xml_names.specs.Declarations.{bindings_of}
use Rattle.xml_names.specs.Grammar.{IsShort, IsStart, IsWithin}
use Rattle.xml_names.specs.Headers.{header_of, opens_stream}
use Rattle.xml_names.specs.Scopes.{Scope}
use Rattle.xml_names.specs.Starts.{Tag, start_of}
use Rattle.xml_names.specs.declared.headers.Header.{Header}
use Rattle.xml_names.specs.declared.limits.TagLimits.{TagLimits}
use Rattle.law_xml.proofs.ElementRuns.{front_of}
use Rattle.law_xml.proofs.ElementStates.{HasFront, none_held}
use Rattle.xml_framer.proofs.LargerLimits.{shorter}
use Rattle.law_xml.proofs.Quiet.{HasInHand, HasRoom, IsFresh, IsQuiet}
use Rattle.law_xml.proofs.TagRuns.{start_run}
use Rattle.xml_framer.specs.Machine.{behind_byte, passed, run}
use Rattle.law_xml.specs.Spells.{IsHeaderName}
use Rattle.xml_framer.specs.States.{State, turn}
use Rattle.xml_framer.specs.TagSteps.{header_items, header_tag, headed, is_header, largest_limits, phase_behind, says_stream, scope_in, tag_anew, tag_closes, tag_limits, tag_outside}
use Rattle.xml_framer.specs.declared.items.Item.{Item}
use Rattle.xml_framer.specs.declared.states.Phase.TheVariants as phase

-- ---- the tag of a later header

opens : (t : Tag) → IsHeaderName t.ns t.name → opens_stream t ≡ true
opens t (ns, name) = rw ((bytes_eq-Decides t.ns (codes "http://etherx.jabber.org/streams")).1 ns, (bytes_eq-Decides t.name (codes "stream")).1 name) refl

same_tag : (a b : List ℕ) (xs ys : List tokens.Attribute) (c d : Bool) (r : Result tokens.Tag TagWhy) → r ≡ Ok (start_tag a xs c) → r ≡ Ok (start_tag b ys d) → xs ≡ ys
same_tag a b xs ys c d r e f = cc

-- the attributes of a tag are the same in each scope
same_raw : (one other : Scope) (bytes : List ℕ) (xs ys : List tokens.Attribute) (t u : Tag) → IsStart one bytes xs t → IsStart other bytes ys u → xs ≡ ys
same_raw one other bytes xs ys t u a b =
    same_tag t.spelled u.spelled xs ys t.empty u.empty (tag_of bytes) (tags_are_read bytes (start_tag t.spelled xs t.empty) a.spelled) (tags_are_read bytes (start_tag u.spelled ys u.empty) b.spelled)

within_largest : (limits : TagLimits) (xs ys : List tokens.Attribute) (t u : Tag) → xs ≡ ys → t.bindings ≡ u.bindings → limits.attributes < 2 ^ 32 → limits.namespace_bytes < 2 ^ 32 → IsWithin limits ys u
    → IsWithin largest_limits xs t
within_largest limits xs ys t u same binds few short (most, all) =
    (rw same (omega (arith, most, few)), subst (All (IsShort largest_limits.namespace_bytes)) (sym binds) (shorter limits.namespace_bytes 4294967295 u.bindings (omega (arith, short)) all))

pub next_opens : (limits : TagLimits) (scope : Scope) (bytes : List ℕ) (xs ys : List tokens.Attribute) (t u : Tag) → IsStart [] bytes xs t → IsStart scope bytes ys u → IsHeaderName u.ns u.name
    → limits.attributes < 2 ^ 32 → limits.namespace_bytes < 2 ^ 32 → IsWithin limits xs t → says_stream (start_of largest_limits scope bytes) ≡ true
next_opens limits scope bytes xs ys t u first next named few short within =
    let same = same_raw scope [] bytes ys xs u t next first in
    let binds : u.bindings ≡ t.bindings = next.declarations ∙ ap bindings_of same ∙ sym first.declarations in
    let read = (laws.read largest_limits scope bytes u).1 (ys, next, within_largest limits ys xs u t same binds few short within) in
    ap says_stream read ∙ opens u named

-- ---- a header

-- a header may stand there: before the first one any tag is one, and behind it a tag with a header's name
abbrev pub MayHead : State → List ℕ → Type 0
MayHead s bytes =
    (s.lexical.phase ≡ phase.First) ⊎ ((s.lexical.phase ≡ phase.FirstDeclared)
    ⊎ (((s.lexical.phase ≡ phase.Between) ⊎ (s.lexical.phase ≡ phase.Declared)) × (says_stream (start_of largest_limits (scope_in s.scopes) bytes) ≡ true)))

heads_first : (h : State) (items : List Item) → is_some h.here ≡ false → h.lexical.phase ≡ phase.First → tag_closes (turn h items) ≡ header_tag (turn h items)
unfolding tag_closes tag_outside
heads_first h items outside p = rw (outside, p) refl

heads_declared : (h : State) (items : List Item) → is_some h.here ≡ false → h.lexical.phase ≡ phase.FirstDeclared → tag_closes (turn h items) ≡ header_tag (turn h items)
unfolding tag_closes tag_outside
heads_declared h items outside p = rw (outside, p) refl

heads_between : (h : State) (items : List Item) → is_some h.here ≡ false → h.lexical.phase ≡ phase.Between → is_header h ≡ true → tag_closes (turn h items) ≡ header_tag (turn h items)
unfolding tag_closes tag_outside is_header
heads_between h items outside p e = rw (outside, p, e) refl

heads_after : (h : State) (items : List Item) → is_some h.here ≡ false → h.lexical.phase ≡ phase.Declared → is_header h ≡ true → tag_closes (turn h items) ≡ header_tag (turn h items)
unfolding tag_closes tag_outside is_header
heads_after h items outside p e = rw (outside, p, e) refl

header_here : (s h : State) (bytes : List ℕ) → HasInHand s h bytes → says_stream (start_of largest_limits (scope_in s.scopes) bytes) ≡ true → is_header h ≡ true
unfolding is_header
header_here s h bytes hand e = rw (hand.alike.scopes, hand.token) e

heads_there : (s h : State) (items : List Item) (bytes : List ℕ) → HasInHand s h bytes → is_some h.here ≡ false → MayHead s bytes → tag_closes (turn h items) ≡ header_tag (turn h items)
heads_there s h items bytes hand outside (inl p) = heads_first h items outside (hand.alike.phase ∙ p)
heads_there s h items bytes hand outside (inr (inl p)) = heads_declared h items outside (hand.alike.phase ∙ p)
heads_there s h items bytes hand outside (inr (inr (inl p, e))) = heads_between h items outside (hand.alike.phase ∙ p) (header_here s h bytes hand e)
heads_there s h items bytes hand outside (inr (inr (inr p, e))) = heads_after h items outside (hand.alike.phase ∙ p) (header_here s h bytes hand e)

header_closes : (h : State) (items : List Item) (tag : Tag) → tag_anew h ≡ Ok tag → header_tag (turn h items) ≡ turn (headed h tag) (items ++ header_items h.positions.token_at (header_of tag) tag.empty)
unfolding header_tag
header_closes h items tag e = rw e refl

-- behind a header's tag
pub record HasHead (s t : State) (ends : Bool) (scope : Scope) (name : List ℕ) : Type 0 where
  pub fresh : IsFresh t
  pub phase_is : t.lexical.phase ≡ phase_behind ends
  pub scopes : t.scopes ≡ scope ∷ []
  pub name_is : t.name ≡ name
  pub unused : t.positions.used ≡ 0
  pub limits : t.limits ≡ s.limits
  pub here : t.here ≡ s.here
  pub below : t.below ≡ s.below
  pub spent : t.lexical.spent ≡ s.lexical.spent

has_head : (s h : State) (bytes name : List ℕ) (scope : Scope) (ends : Bool) (tag : Tag) → HasInHand s h bytes → tag.empty ≡ ends → tag.spelled ≡ name → tag.bindings ≡ scope
    → HasHead s (passed (headed h tag) 62) ends scope name
has_head s h bytes name scope ends tag hand is_empty named binds =
    record {
      fresh = record {
        quiet = record { no_fault = hand.no_fault; text = refl; no_token = refl; no_pending = none_held h.pending hand.no_pending; no_quote = refl; not_spoiled = refl; counted = omega arith; uncounted = λ e. refl };
        no_run = refl;
      };
      phase_is = ap phase_behind is_empty;
      scopes = ap (λ own. own ∷ []) binds;
      name_is = named;
      unused = refl;
      limits = hand.alike.limits;
      here = hand.alike.here;
      below = hand.alike.below;
      spent = hand.alike.spent;
    }

-- a header's tag, of an empty element or not
pub head_run : (s : State) (items : List Item) (bytes name : List ℕ) (scope : Scope) (h : Header) (ends : Bool) (raw : List tokens.Attribute) (tag : Tag) → IsStart [] bytes raw tag → tag.empty ≡ ends
    → tag.spelled ≡ name → tag.bindings ≡ scope → h ≡ header_of tag → IsQuiet s → is_some s.here ≡ false → HasRoom s bytes → IsWithin (tag_limits s.limits) raw tag → MayHead s bytes
    → (t : State) × (run (turn s items) bytes ≡ turn t (items ++ header_items s.positions.at h ends)) × HasHead s t ends scope name × HasFront s items bytes
head_run s items bytes name scope h ends raw tag start is_empty named binds says quiet outside room within may =
    let r = start_run s items [] bytes raw tag quiet room start in
    let u = r.0 in
    let hand : HasInHand s u bytes = r.2 in
    let read : tag_anew u ≡ Ok tag = rw (hand.alike.limits, hand.token) ((laws.read (tag_limits s.limits) [] bytes tag).1 (raw, start, within)) in
    let closed = heads_there s u items bytes hand (ap is_some hand.alike.here ∙ outside) may ∙ header_closes u items tag read in
    let is : items ++ header_items u.positions.token_at (header_of tag) tag.empty ≡ items ++ header_items s.positions.at h ends = λ i. items ++ header_items (hand.token_at i) (sym says i) (is_empty i) in (
      passed (headed u tag) 62,
      r.1 ∙ ap (λ w. behind_byte w 62) closed ∙ ap (turn (passed (headed u tag) 62)) is,
      has_head s u bytes name scope ends tag hand is_empty named binds,
      front_of s items bytes r.5,
    )
