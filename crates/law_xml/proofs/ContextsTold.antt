-- After bytes between tokens a state has the context that the bytes say.
use Rattle.std.proofs.Common.{◌≡◌, ℕ, ◌+◌, ◌<◌, ◌≤◌, ◌^◌, inl, inr, Bool, List, [], ◌∷◌, ◌++◌, map, length, Option, Some, None, refl, sym, ap, subst, ◌∙◌, arith, append-nil}
use Rattle.xml_names.specs.Scopes.{Scope}
use Rattle.xml_trees.specs.Tidied.{text_node}
use Rattle.xml_trees.specs.Trees.{depth, depth_below, name_of, namespace_of}
use Rattle.xml_framer.specs.States.{OpenElement, State, with_text}
use Rattle.xml_framer.specs.TagSteps.{scope_in}
use Rattle.xml_framer.specs.declared.items.Item.{Item}
use Rattle.xml_framer.specs.declared.limits.Limits.{Limits}
use Rattle.xml_framer.specs.declared.states.Mode.TheVariants as mode
use Rattle.xml_framer.specs.declared.states.Phase.TheVariants as phase
use Rattle.law_xml.proofs.OpenLevels.{AreCovered, CoveredLevel, level_covered}
use Rattle.law_xml.proofs.ReadCharacters.{Judged, judged_characters}
use Rattle.law_xml.proofs.ReadInside.{top_more}
use Rattle.law_xml.proofs.ReadSoFar.{Hand, TextIn, TopIsNoHeader, in_force}
use Rattle.law_xml.proofs.TextFronts.{seen_text}
use Rattle.law_xml.proofs.WithinParts.{AreShallow, counted_length, depth_text, shallow_own, shallow_with}
use Rattle.law_xml.specs.Contexts.{AreOpen, Context, HasContext, OpensElement}
use Rattle.law_xml.specs.Spells.{IsHeaderName}
use Rattle.law_xml.specs.Texts.{IsText, SpellsText}

-- ---- the context that a state has

abbrev pub names_of : List OpenElement → List (List ℕ)
names_of os = map (λ (o : OpenElement). o.spelled) os

abbrev pub opens_of : Option OpenElement → List OpenElement → List (List ℕ)
opens_of None below = []
opens_of (Some o) below = o.spelled ∷ names_of below

abbrev pub context_with : Option OpenElement → State → Context
context_with o s = record { phase = s.lexical.phase; name = s.name; opens = opens_of o s.below; scope = scope_in s.scopes }

abbrev pub context_of : State → Context
context_of s = context_with s.here s

-- ---- open elements

abbrev AllShallow : ℕ → List OpenElement → Type 0
AllShallow most [] = Unit {0}
AllShallow most (o ∷ os) = (depth o.element + length os ≤ most) × AllShallow most os

all_shallow : (most : ℕ) (o : OpenElement) (os : List OpenElement) → AreShallow most o os → AllShallow most (o ∷ os)
all_shallow most o [] h = (omega (arith, h), tt)
all_shallow most o (p ∷ ps) h = (h.0, all_shallow most p ps h.1)

abbrev NoneIsHeader : List OpenElement → Type 0
NoneIsHeader [] = Unit {0}
NoneIsHeader (o ∷ os) = TopIsNoHeader o os

none_below : (o : OpenElement) (os : List OpenElement) → TopIsNoHeader o os → NoneIsHeader os
none_below o [] h = tt
none_below o (p ∷ ps) h = h

pub some_none : (x : List ℕ) (xs : List (List ℕ)) → x ∷ xs ≡ [] → ⊥
some_none x xs e = cc

no_header : (limits : Limits) (around own : Scope) (o : OpenElement) (os : List OpenElement) (level : List ℕ) (h : CoveredLevel limits around own o level) → TopIsNoHeader o os → names_of os ≡ []
    → IsHeaderName h.tag.ns h.tag.name → ⊥
no_header limits around own o [] level h top none named = top (ap namespace_of h.element_is ∙ named.0, ap name_of h.element_is ∙ named.1)
no_header limits around own o (p ∷ ps) level h top none named = absurd (some_none p.spelled (names_of ps) none)

pub count_names : (os : List OpenElement) → length (names_of os) ≡ length os
count_names [] = refl
count_names (o ∷ os) = let n = count_names os in omega (arith, n)

opens_element : (limits : Limits) (around own : Scope) (o : OpenElement) (os : List OpenElement) (level : List ℕ) → CoveredLevel limits around own o level → TopIsNoHeader o os → depth o.element + length os ≤ limits.depth
    → OpensElement limits (names_of os) around (own ++ around) o.spelled level
opens_element limits around own o os level h top deep =
    let n = count_names os in
    let d : depth o.element ≡ depth_below h.kids + 1 = ap depth h.element_is in
    record {
      raw = h.raw;
      tag = h.tag;
      start = h.start;
      inside = h.inside;
      kids = h.kids;
      is_start = h.is_start;
      not_empty = h.not_empty;
      name_is = h.name_is;
      scope_is = ap (λ x. x ++ around) (sym h.own_is);
      content = h.content.1.0;
      no_header = no_header limits around own o os level h top;
      bytes_are = h.bytes_are;
      tag_within = h.tag_in;
      tags_within = h.content.1.1;
      shallow = omega (arith, n, d, deep);
    }

are_open : (limits : Limits) (base scopes : List Scope) (os : List OpenElement) (bytes : List ℕ) → AreCovered limits base scopes os bytes → AllShallow limits.depth os → NoneIsHeader os
    → AreOpen limits (scope_in base) (names_of os) (scope_in scopes) bytes
are_open limits base scopes [] bytes h deep top = (ap scope_in h.0, h.1)
are_open limits base [] (o ∷ os) bytes h deep top = absurd h
are_open limits base (own ∷ scopes) (o ∷ os) bytes h deep top =
    (scope_in scopes, h.0, h.1, are_open limits base scopes os h.0 h.2 deep.1 (none_below o os top), opens_element limits (scope_in scopes) own o os h.1 h.3 top deep.0, h.4)

-- ---- a state between tokens

text_is : (hand pending chars : List ℕ) (run returned : Bool) (brackets : ℕ) → TextIn hand pending chars run returned brackets → pending ≡ [] → IsText hand chars
text_is hand pending chars run returned brackets h none =
    let whole : hand ≡ h.whole = h.hand_is ∙ ap (λ p. h.whole ++ p) none ∙ append-nil h.whole in
    record { characters = judged_characters hand (subst (Judged hand) none h.judged); spelled = subst (λ l. SpellsText l chars) (sym whole) (seen_text h.whole chars _ _ h.seen) }

texted_top : (o : OpenElement) (chars : List ℕ) (below : List OpenElement) → TopIsNoHeader o below → TopIsNoHeader (with_text o chars) below
texted_top o chars below h = top_more o (text_node chars) below h

pub context_in : (o : Option OpenElement) (s : State) (used : ℕ) (items : List Item) (bytes : List ℕ) → s.limits.bytes < 2 ^ 64 → s.pending ≡ [] → Hand o mode.Text s used items bytes → HasContext s.limits (context_with o s) bytes
context_in None s used items bytes few none h =
    let w = h.1.2 none in
    record {
      now = in_force s.lexical.phase s.scopes s.name;
      items = items;
      done = bytes;
      opened = [];
      stream = w.0;
      within = w.1 few;
      phase_is = refl;
      name_is = refl;
      are_open = (refl, refl);
      between = inl refl;
      short = omega arith;
      bytes_are = sym (append-nil bytes);
    }
context_in (Some o) s used items bytes few none (hand, a, t) =
    let says = text_is hand s.pending s.chars s.lexical.in_run s.lexical.returned s.lexical.brackets t.1 none in
    let texted = with_text o s.chars in
    let level = level_covered s.limits (scope_in a.rest) a.own o a.level hand s.chars a.open_level says in
    let all : AreCovered s.limits a.base (a.own ∷ a.rest) (texted ∷ s.below) (a.outer ++ (a.level ++ hand)) = (a.outer, a.level ++ hand, a.covered, level, refl) in
    let same = depth_text o.element s.chars in
    let own = shallow_own s.limits.depth o s.below a.shallow in
    let shallow : AreShallow s.limits.depth texted s.below = shallow_with s.limits.depth o texted s.below a.shallow (rw same own) in
    let opens = are_open s.limits a.base (a.own ∷ a.rest) (texted ∷ s.below) (a.outer ++ (a.level ++ hand)) all (all_shallow s.limits.depth texted s.below shallow) (texted_top o s.chars s.below a.top) in
    let n = counted_length used a.done bytes (a.outer ++ (a.level ++ hand)) (a.count few) a.bytes_are in
    let most = a.fits few in
    let stream = a.stream in
    record {
      now = in_force phase.Between a.base s.name;
      items = items;
      done = a.done;
      opened = a.outer ++ (a.level ++ hand);
      stream = stream.0;
      within = stream.1 few;
      phase_is = sym a.between;
      name_is = refl;
      are_open = subst (λ l. AreOpen s.limits (scope_in a.base) (opens_of (Some o) s.below) (scope_in l) (a.outer ++ (a.level ++ hand))) (sym a.scopes_are) opens;
      between = inr a.between;
      short = omega (arith, n, most);
      bytes_are = a.bytes_are;
    }
