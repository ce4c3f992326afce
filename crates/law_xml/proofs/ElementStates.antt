-- States around the tags of an element.
use Rattle.std.proofs.Common.{◌≡◌, ℕ, zero, suc, ◌+◌, ◌<◌, ◌≤◌, ◌^◌, ◌⊎◌, inl, inr, true, true≢false, if◌then◌else◌, List, [], ◌∷◌, ◌++◌, Option, Some, None, length, length-append, take, drop, append_assoc, refl, sym, ap, subst, ◌∙◌, arith, add-one}
use Rattle.std.proofs.lemmas.List.{append-nil, take-append-drop}
use Rattle.std.specs.Option.{is_some}
use Rattle.xml_tokens.specs.Utf8.{held_after, utf8_next}
use Rattle.xml_names.specs.Starts.{Tag}
use Rattle.law_xml.proofs.ElementTags.{MayBegin}
use Rattle.xml_trees.proofs.Folds.{joined_assoc}
use Rattle.xml_framer.proofs.ItemsBefore.{run_grows}
use Rattle.xml_framer.proofs.Pieces.{run_append}
use Rattle.law_xml.proofs.Quiet.{HasInHand, HasRoom, HasSaid, IsFresh}
use Rattle.xml_framer.specs.Machine.{IsFrontOf, behind_byte, passed, run}
use Rattle.xml_framer.specs.States.{OpenElement, State, Turn, open_count, token_ended, turn, with_more, with_text}
use Rattle.xml_framer.specs.TagSteps.{added, added_to, covered, element_from, first_of, joined_text, level, rest_of, text_joined}
use Rattle.xml_trees.specs.Tidied.{text_node}
use Rattle.xml_trees.specs.Trees.{Elem, Nodes, child, element, joined, no_nodes, with_nodes}
use Rattle.xml_framer.specs.declared.items.Item.{Item}

-- ---- runs and room

pub then_run : (t u v : Turn) (a b : List ℕ) → run t a ≡ u → run u b ≡ v → run t (a ++ b) ≡ v
then_run t u v a b first second = run_append t a b ∙ ap (λ w. run w b) first ∙ second

pub split_run : (t u v : Turn) (bytes front rest : List ℕ) → bytes ≡ front ++ rest → run t front ≡ u → run u rest ≡ v → run t bytes ≡ v
split_run t u v bytes front rest are first second = ap (run t) are ∙ then_run t u v front rest first second

pub parts_run : (t u v w : Turn) (bytes front middle rest : List ℕ) → bytes ≡ front ++ (middle ++ rest) → run t front ≡ u → run u middle ≡ v → run v rest ≡ w → run t bytes ≡ w
parts_run t u v w bytes front middle rest are first second third = ap (run t) are ∙ then_run t u w front (middle ++ rest) first (then_run u v w middle rest second third)

pub room_front : (s : State) (a b : List ℕ) → HasRoom s (a ++ b) → HasRoom s a
room_front s a b (inl le) = inl (omega (arith, le, length-append a b))
room_front s a b (inr le) = inr le

pub room_rest : (s t : State) (a b : List ℕ) → t.limits ≡ s.limits → t.positions.used ≤ s.positions.used + length a → HasRoom s (a ++ b) → HasRoom t b
room_rest s t a b same used (inl le) = rw same (inl (omega (arith, le, used, length-append a b)))
room_rest s t a b same used (inr le) = rw same (inr le)

pub none_held : (held : List ℕ) → held ≡ [] → held_after held 62 ≡ []
unfolding utf8_next
none_held held e = ap (λ p. held_after p 62) e

-- The bytes give nothing before their last one, a `>`.
pub record HasFront (s : State) (items : List Item) (bytes : List ℕ) : Type 0 where
  pub front : List ℕ
  pub bytes_are : bytes ≡ front ++ 62 ∷ []
  pub before : State
  pub run_is : run (turn s items) front ≡ turn before items

pub longer_front : (s t : State) (items : List Item) (bytes front rest : List ℕ) → bytes ≡ front ++ rest → run (turn s items) front ≡ turn t items → HasFront t items rest → HasFront s items bytes
longer_front s t items bytes front rest are first h =
    record {
      front = front ++ h.front;
      bytes_are = are ∙ ap (λ l. front ++ l) h.bytes_are ∙ sym (append_assoc front h.front (62 ∷ []));
      before = h.before;
      run_is = then_run (turn s items) (turn t items) (turn h.before items) front h.front first h.run_is;
    }

more_is_none : (xs more : List Item) → xs ≡ xs ++ more → more ≡ []
more_is_none xs [] e = refl
more_is_none xs (m ∷ ms) e = absurd (omega (arith, ap length e, length-append xs (m ∷ ms)))

pub front_none : (a b : List Item) → a ++ b ≡ [] → a ≡ []
front_none [] b e = refl
front_none (x ∷ xs) b e = absurd (let is = e in cc)

-- lists that begin with one another are the same
both_fronts : (xs ys : List Item) → IsFrontOf xs ys → IsFrontOf ys xs → ys ≡ xs
both_fronts xs ys (a, e) (b, f) =
    let all : xs ≡ xs ++ (a ++ b) = f ∙ ap (λ l. l ++ b) e ∙ append_assoc xs a b in
    e ∙ ap (λ l. xs ++ l) (front_none a b (more_is_none xs (a ++ b) all)) ∙ append-nil xs

take_seam : (n : ℕ) (front : List ℕ) → n < length (front ++ 62 ∷ []) → take n (front ++ 62 ∷ []) ≡ take n front
take_seam zero front less = refl
take_seam (suc n) [] less = absurd (omega (arith, less))
take_seam (suc n) (b ∷ bs) less = ap (λ l. b ∷ l) (take_seam n bs (omega (arith, less)))

pub none_before : (s : State) (items : List Item) (bytes : List ℕ) → HasFront s items bytes → (n : ℕ) → n < length bytes → (run (turn s items) (take n bytes)).items ≡ items
none_before s items bytes h n less =
    let short : n < length (h.front ++ 62 ∷ []) = rw h.bytes_are at less in
    let taken : take n bytes ≡ take n h.front = ap (take n) h.bytes_are ∙ take_seam n h.front short in
    let whole : run (run (turn s items) (take n h.front)) (drop n h.front) ≡ turn h.before items =
    sym (run_append (turn s items) (take n h.front) (drop n h.front)) ∙ ap (run (turn s items)) (take-append-drop n h.front) ∙ h.run_is in
    let later : IsFrontOf (run (turn s items) (take n h.front)).items items =
    subst (λ (u : Turn). IsFrontOf (run (turn s items) (take n h.front)).items u.items) whole (run_grows (run (turn s items) (take n h.front)) (drop n h.front)) in
    ap (λ l. (run (turn s items) l).items) taken ∙ both_fronts items (run (turn s items) (take n h.front)).items (run_grows (turn s items) (take n h.front)) later

-- ---- what is open

pub more_and_more : (o : OpenElement) (a b : Nodes) → with_more (with_more o a) b ≡ with_more o (joined a b)
more_and_more o a b = ap (λ e. record { spelled = o.spelled; element = e }) (both o.element)
  where
    both : (e : Elem) → with_nodes (with_nodes e a) b ≡ with_nodes e (joined a b)
    both (element ns name attrs kids) = ap (element ns name attrs) (joined_assoc kids a b)

pub same_count : (s t : State) → t.here ≡ s.here → t.below ≡ s.below → open_count t ≡ open_count s
same_count s t here below = λ i. if is_some (here i) then length (below i) + 1 else 0

-- an element is open there, or none further out
abbrev pub IsCovered : Option OpenElement → List OpenElement → Type 0
IsCovered o below = (is_some o ≡ true) ⊎ ((o ≡ None) × (below ≡ []))

pub may_cover : (s : State) (ns name : List ℕ) → MayBegin s ns name → IsCovered s.here s.below
may_cover s ns name (inl inner) = inl inner
may_cover s ns name (inr (top, other)) = inr (top.outside, top.none_open)

none_or_some : (o : OpenElement) → Some o ≡ None → ⊥
none_or_some o e = cc

pub first_covered : (o : Option OpenElement) (chars : List ℕ) (below : List OpenElement) → IsCovered o below → first_of (covered (text_joined o chars) below) ≡ text_joined o chars
first_covered (Some o) chars below h = refl
first_covered None chars below (inl e) = absurd (true≢false (sym e))
first_covered None chars below (inr e) = ap first_of e.1

pub rest_covered : (o : Option OpenElement) (chars : List ℕ) (below : List OpenElement) → IsCovered o below → rest_of (covered (text_joined o chars) below) ≡ below
rest_covered (Some o) chars below h = refl
rest_covered None chars below (inl e) = absurd (true≢false (sym e))
rest_covered None chars below (inr e) = ap rest_of e.1 ∙ sym e.1

pub count_covered : (o : Option OpenElement) (chars : List ℕ) (below : List OpenElement) → IsCovered o below → length (covered (text_joined o chars) below) ≡ (if is_some o then length below + 1 else 0)
count_covered (Some o) chars below h = sym (add-one (length below))
count_covered None chars below (inl e) = absurd (true≢false (sym e))
count_covered None chars below (inr e) = ap length e.1

-- ---- an element has begun

-- the element that a start tag begins, as it stands open
abbrev pub opened : Tag → OpenElement
opened t = record { spelled = t.spelled; element = element_from t }

-- behind the start tag of an element with content
pub record HasBegun (s t : State) (bytes : List ℕ) (tag : Tag) : Type 0 where
  pub fresh : IsFresh t
  pub here : t.here ≡ Some (opened tag)
  pub no_chars : t.chars ≡ []
  pub limits : t.limits ≡ s.limits
  pub below : t.below ≡ covered (text_joined s.here s.chars) s.below
  pub scopes : t.scopes ≡ tag.bindings ∷ s.scopes
  pub name : t.name ≡ s.name
  pub phase : t.lexical.phase ≡ s.lexical.phase
  pub spent : t.lexical.spent ≡ s.lexical.spent
  pub used : t.positions.used ≤ s.positions.used + length bytes

pub level_has_begun : (s h : State) (bytes : List ℕ) (tag : Tag) → HasInHand s h bytes → HasBegun s (passed (level h tag) 62) bytes tag
unfolding level
level_has_begun s h bytes tag hand =
    record {
      fresh = record {
        quiet = record { no_fault = hand.no_fault; text = refl; no_token = refl; no_pending = none_held h.pending hand.no_pending; no_quote = refl; not_spoiled = refl; counted = hand.counted; uncounted = λ e. absurd (true≢false e) };
        no_run = refl;
      };
      here = refl;
      no_chars = refl;
      limits = hand.alike.limits;
      below = λ i. covered (text_joined (hand.alike.here i) (hand.chars i)) (hand.alike.below i);
      scopes = ap (λ cs. tag.bindings ∷ cs) hand.alike.scopes;
      name = hand.alike.name;
      phase = hand.alike.phase;
      spent = hand.alike.spent;
      used = hand.used;
    }

some_count : (t : State) (o : OpenElement) → t.here ≡ Some o → open_count t ≡ length t.below + 1
some_count t o e = rw e refl

pub both_open : (s t : State) (o p : OpenElement) → s.here ≡ Some o → t.here ≡ Some p → t.below ≡ s.below → open_count t ≡ open_count s
both_open s t o p first second below = some_count t p second ∙ ap (λ os. length os + 1) below ∙ sym (some_count s o first)

pub begun_count : (s t : State) (bytes : List ℕ) (tag : Tag) → IsCovered s.here s.below → HasBegun s t bytes tag → open_count t ≡ open_count s + 1
begun_count s t bytes tag may h = some_count t (opened tag) h.here ∙ ap (λ n. n + 1) (ap length h.below ∙ count_covered s.here s.chars s.below may)

-- ---- an element is whole

-- A whole element is in hand that stands where s stood: the text in front of it has joined what is around it.
pub record IsWhole (s h : State) (bytes : List ℕ) : Type 0 where
  pub no_fault : h.fault ≡ None
  pub counted : h.positions.used < 2 ^ 64
  pub no_pending : h.pending ≡ []
  pub here : h.here ≡ text_joined s.here s.chars
  pub no_chars : h.chars ≡ []
  pub limits : h.limits ≡ s.limits
  pub below : h.below ≡ s.below
  pub scopes : h.scopes ≡ s.scopes
  pub name : h.name ≡ s.name
  pub phase : h.lexical.phase ≡ s.lexical.phase
  pub spent : h.lexical.spent ≡ s.lexical.spent
  pub used : h.positions.used ≤ s.positions.used + length bytes

pub leaf_is_whole : (s h : State) (bytes : List ℕ) → HasInHand s h bytes → IsWhole s (joined_text h) bytes
leaf_is_whole s h bytes hand =
    record {
      counted = hand.counted;
      no_fault = hand.no_fault;
      no_pending = hand.no_pending;
      here = λ i. text_joined (hand.alike.here i) (hand.chars i);
      no_chars = refl;
      limits = hand.alike.limits;
      below = hand.alike.below;
      scopes = hand.alike.scopes;
      name = hand.alike.name;
      phase = hand.alike.phase;
      spent = hand.alike.spent;
      used = hand.used;
    }

-- Behind a tag by which the open element has these nodes more.
pub record HasNodes (s t : State) (o : OpenElement) (bytes : List ℕ) (kids : Nodes) : Type 0 where
  pub fresh : IsFresh t
  pub here : t.here ≡ Some (with_more o kids)
  pub no_chars : t.chars ≡ []
  pub limits : t.limits ≡ s.limits
  pub below : t.below ≡ s.below
  pub scopes : t.scopes ≡ s.scopes
  pub name : t.name ≡ s.name
  pub phase : t.lexical.phase ≡ s.lexical.phase
  pub spent : t.lexical.spent ≡ s.lexical.spent
  pub used : t.positions.used ≤ s.positions.used + length bytes

-- a text stands in front of them
pub text_and_nodes : (s t u : State) (o : OpenElement) (front says middle : List ℕ) (kids : Nodes) → s.chars ≡ [] → HasSaid s t front says → HasNodes t u (with_text o t.chars) middle kids
    → HasNodes s u o (front ++ middle) (joined (text_node says) kids)
text_and_nodes s t u o front says middle kids none first second =
    let a = first.used in
    let b = second.used in
    let said : t.chars ≡ says = first.chars ∙ ap (λ c. c ++ says) none in
    record {
      fresh = second.fresh;
      here = second.here ∙ ap Some (more_and_more o (text_node t.chars) kids ∙ ap (λ c. with_more o (joined (text_node c) kids)) said);
      no_chars = second.no_chars;
      limits = second.limits ∙ first.alike.limits;
      below = second.below ∙ first.alike.below;
      scopes = second.scopes ∙ first.alike.scopes;
      name = second.name ∙ first.alike.name;
      phase = second.phase ∙ first.alike.phase;
      spent = second.spent ∙ first.alike.spent;
      used = omega (arith, a, b, length-append front middle);
    }

pub child_added : (s h : State) (items : List Item) (o : OpenElement) (bytes : List ℕ) (e : Elem) → s.here ≡ Some o → IsWhole s h bytes
    → (t : State) × (behind_byte (added (turn h items) e) 62 ≡ turn t items) × HasNodes s t (with_text o s.chars) bytes (child e no_nodes)
child_added s h items o bytes e here whole =
    let around : h.here ≡ Some (with_text o s.chars) = whole.here ∙ ap (λ p. text_joined p s.chars) here in (
      passed (token_ended (record h { here = Some (with_more (with_text o s.chars) (child e no_nodes)) })) 62,
      ap (λ p. behind_byte (added_to p (turn h items) e) 62) around,
      record {
        fresh = record {
          quiet = record { no_fault = whole.no_fault; text = refl; no_token = refl; no_pending = none_held h.pending whole.no_pending; no_quote = refl; not_spoiled = refl; counted = whole.counted; uncounted = λ e. absurd (true≢false e) };
          no_run = refl;
        };
        here = refl;
        no_chars = whole.no_chars;
        limits = whole.limits;
        below = whole.below;
        scopes = whole.scopes;
        name = whole.name;
        phase = whole.phase;
        spent = whole.spent;
        used = whole.used;
      },
    )
