-- What is true of the marks of entries: what each gets from those that came before, under an append and a drop.
use Rattle.std.proofs.Common.{◌≡◌, ℕ, zero, suc, ◌+◌, ◌-◌, ◌<◌, ◌≤◌, inl, inr, true, false, true≢false, List, [], ◌∷◌, ◌++◌, Some, length, map, set, take, slice_get, if◌then◌else◌, refl, sym, ap, subst, ◌∙◌, arith}
use Rattle.std.proofs.lemmas.Bool.{false≢true, cases_Bool}
use Rattle.std.proofs.lemmas.Option.{none-some, same_Some}
use Rattle.std.specs.Str.{bytes_eq}
use Rattle.mam_archive.proofs.Keys.{same_text}
use Rattle.mam_archive.proofs.Linked.{IsBeside, first_beside, last_beside}
use Rattle.mam_archive.specs.Chained.{AreBefore, Mark, count_of, least_with_peer, is_text_of, greatest_with_peer, link_or, mark_of, marked, marks}
use Rattle.mam_archive.specs.declared.chains.Link.{Link}
use Rattle.base_lemmas.proofs.Bytes.{bytes_eq-from_same}

-- what the next entry with a peer gets behind these
abbrev pub mark_after : ℕ → (List ℕ → Mark) → List ℕ → List (List ℕ) → Mark
mark_after n before q [] = before q
mark_after n before q (p ∷ ps) = mark_after (suc n) (marked n p before) q ps

pub marks-push : (n : ℕ) (before : List ℕ → Mark) (ps : List (List ℕ)) (p : List ℕ) → marks n before (ps ++ p ∷ []) ≡ marks n before ps ++ mark_after n before p ps ∷ []
marks-push n before [] p = refl
marks-push n before (q ∷ qs) p = ap (λ t. before q ∷ t) (marks-push (suc n) (marked n q before) qs p)

-- the mark of an entry is what those in front of it left
pub mark_at : (n : ℕ) (before : List ℕ → Mark) (ps : List (List ℕ)) (i : ℕ) (p : List ℕ) → slice_get ps i ≡ Some p → slice_get (marks n before ps) i ≡ Some (mark_after n before p (take i ps))
mark_at n before [] i p is = absurd (none-some p is)
mark_at n before (q ∷ qs) zero p is = ap (λ t. Some (before t)) (same_Some q p is)
mark_at n before (q ∷ qs) (suc i) p is = mark_at (suc n) (marked n q before) qs i p is

pub ordinal_after : (n : ℕ) (before : List ℕ → Mark) (q : List ℕ) (ps : List (List ℕ)) → (mark_after n before q ps).ordinal ≡ (before q).ordinal + count_of q ps
ordinal_after n before q [] = omega arith
ordinal_after n before q (p ∷ ps) = elim (cases_Bool (bytes_eq p q)) [
  | inl same ↦
      let rest = ordinal_after (suc n) (marked n p before) q ps in
      let first : (marked n p before q).ordinal ≡ (before q).ordinal + 1 = rw same refl in
      rw same (omega arith)
  | inr other ↦
      let rest = ordinal_after (suc n) (marked n p before) q ps in
      let first : (marked n p before q).ordinal ≡ (before q).ordinal = rw other refl in
      rw other (omega arith)
]

pub previous_none : (n : ℕ) (before : List ℕ → Mark) (q : List ℕ) (ps : List (List ℕ)) → is_text_of q ps ≡ false → mark_after n before q ps ≡ before q
previous_none n before q [] none = refl
previous_none n before q (p ∷ ps) none = elim (cases_Bool (bytes_eq p q)) [
  | inl same ↦ absurd (true≢false (rw same at none))
  | inr other ↦
      let first : marked n p before q ≡ before q = rw other refl in
      previous_none (suc n) (marked n p before) q ps (rw other at none) ∙ first
]

pub previous_some : (n : ℕ) (before : List ℕ → Mark) (q : List ℕ) (ps : List (List ℕ)) → is_text_of q ps ≡ true → (mark_after n before q ps).previous ≡ greatest_with_peer q n ps
previous_some n before q [] has = absurd (false≢true has)
previous_some n before q (p ∷ ps) has = elim (cases_Bool (is_text_of q ps)) [
  | inl later ↦ rw later (previous_some (suc n) (marked n p before) q ps later)
  | inr none ↦ elim (cases_Bool (bytes_eq p q)) [
    | inl same ↦
        let first : (marked n p before q).previous ≡ n = rw same refl in
        let after : (mark_after (suc n) (marked n p before) q ps).previous ≡ (marked n p before q).previous =
        ap (λ (m : Mark). m.previous) (previous_none (suc n) (marked n p before) q ps none) in
        rw (none, same) (after ∙ first)
    | inr other ↦ absurd (false≢true (sym none ∙ rw other at has))
  ]
]

-- what is said of peers that have no entry doesn't matter
pub marks_same : (n : ℕ) (before other : List ℕ → Mark) (ps : List (List ℕ)) → ((q : List ℕ) → is_text_of q ps ≡ true → other q ≡ before q) → marks n other ps ≡ marks n before ps
marks_same n before other [] same = refl
marks_same n before other (p ∷ ps) same =
    rw (same p (rw (bytes_eq-from_same p p refl) refl), marks_same (suc n) (marked n p before) (marked n p other) ps later) refl
  where
    later : (q : List ℕ) → is_text_of q ps ≡ true → marked n p other q ≡ marked n p before q
    later q has = elim (cases_Bool (bytes_eq p q)) [
      | inl is ↦ rw (same q (rw is refl)) refl
      | inr unlike ↦ rw (same q (rw (unlike, has) refl)) refl
    ]

-- the same, but for a peer that no entry came with
abbrev pub anew : List ℕ → (List ℕ → Mark) → List ℕ → Mark
anew p before q = if bytes_eq p q then record { previous = 0; ordinal = 0 } else before q

pub marks-anew : (n : ℕ) (before : List ℕ → Mark) (p : List ℕ) (ps : List (List ℕ)) → is_text_of p ps ≡ false → marks n (anew p before) ps ≡ marks n before ps
marks-anew n before p ps none = marks_same n before (anew p before) ps same
  where
    same : (q : List ℕ) → is_text_of q ps ≡ true → anew p before q ≡ before q
    same q has = elim (same_text p q) [
      | inl is ↦ absurd (true≢false (sym has ∙ subst (λ t. is_text_of t ps ≡ false) is none))
      | inr other ↦ rw other refl
    ]

pub anew_after : (n : ℕ) (before : List ℕ → Mark) (p : List ℕ) (ps : List (List ℕ)) → is_text_of p ps ≡ false → mark_after n (anew p before) p ps ≡ record { previous = 0; ordinal = 0 }
anew_after n before p ps none = previous_none n (anew p before) p ps none ∙ rw (bytes_eq-from_same p p refl) refl

-- what came before stays below the number
pub anew_early : (n : ℕ) (before : List ℕ → Mark) (p : List ℕ) → AreBefore n before → AreBefore n (anew p before)
anew_early n before p early = record { previous = previous; ordinal = ordinal }
  where
    previous : (q : List ℕ) → (anew p before q).previous < n
    previous q = elim (cases_Bool (bytes_eq p q)) [
      | inl same ↦ rw same (omega (arith, early.previous q))
      | inr other ↦ rw other (early.previous q)
    ]

    ordinal : (q : List ℕ) → (anew p before q).ordinal < n
    ordinal q = elim (cases_Bool (bytes_eq p q)) [
      | inl same ↦ rw same (omega (arith, early.ordinal q))
      | inr other ↦ rw other (early.ordinal q)
    ]

pub marked_early : (n : ℕ) (before : List ℕ → Mark) (p : List ℕ) → AreBefore n before → AreBefore (suc n) (marked n p before)
marked_early n before p early = record { previous = previous; ordinal = ordinal }
  where
    previous : (q : List ℕ) → (marked n p before q).previous < suc n
    previous q = elim (cases_Bool (bytes_eq p q)) [
      | inl same ↦ rw same (omega arith)
      | inr other ↦ rw other (omega (arith, early.previous q))
    ]

    ordinal : (q : List ℕ) → (marked n p before q).ordinal < suc n
    ordinal q = elim (cases_Bool (bytes_eq p q)) [
      | inl same ↦ rw same (omega (arith, early.ordinal q))
      | inr other ↦ rw other (omega (arith, early.ordinal q))
    ]

-- how many stand beside a peer
pub count_none : (p : List ℕ) (ps : List (List ℕ)) → is_text_of p ps ≡ false → count_of p ps ≡ 0
count_none p [] none = refl
count_none p (q ∷ qs) none = elim (cases_Bool (bytes_eq q p)) [
  | inl same ↦ absurd (true≢false (rw same at none))
  | inr other ↦ rw other (count_none p qs (rw other at none))
]

pub count_within : (p : List ℕ) (ps : List (List ℕ)) → count_of p ps ≤ length ps
count_within p [] = omega arith
count_within p (q ∷ qs) = elim (cases_Bool (bytes_eq q p)) [
  | inl same ↦ rw same (omega (arith, count_within p qs))
  | inr other ↦ rw other (omega (arith, count_within p qs))
]

pub count_first : (p : List ℕ) (n : ℕ) (ps : List (List ℕ)) → is_text_of p ps ≡ true → count_of p (take (least_with_peer p n ps - n) ps) ≡ 0
count_first p n [] has = absurd (false≢true has)
count_first p n (q ∷ qs) has = elim (cases_Bool (bytes_eq q p)) [
  | inl same ↦
      let position : n - n ≡ zero = omega arith in
      rw (same, position) refl
  | inr other ↦
      let later : is_text_of p qs ≡ true = rw other at has in
      let beside : IsBeside p (least_with_peer p (suc n) qs) (suc n) qs = first_beside p (suc n) qs later in
      let position : least_with_peer p (suc n) qs - n ≡ suc (least_with_peer p (suc n) qs - suc n) = omega (arith, beside.low) in
      rw (other, position, other) (count_first p (suc n) qs later)
]

pub count_last : (p : List ℕ) (n : ℕ) (ps : List (List ℕ)) → is_text_of p ps ≡ true → count_of p ps ≡ suc (count_of p (take (greatest_with_peer p n ps - n) ps))
count_last p n [] has = absurd (false≢true has)
count_last p n (q ∷ qs) has = elim (cases_Bool (is_text_of p qs)) [
  | inl later ↦
      let beside : IsBeside p (greatest_with_peer p (suc n) qs) (suc n) qs = last_beside p (suc n) qs later in
      let position : greatest_with_peer p (suc n) qs - n ≡ suc (greatest_with_peer p (suc n) qs - suc n) = omega (arith, beside.low) in
      let rest = count_last p (suc n) qs later in
      elim (cases_Bool (bytes_eq q p)) [
        | inl same ↦ rw (later, position, same) (ap suc rest)
        | inr other ↦ rw (later, position, other) rest
      ]
  | inr none ↦ elim (cases_Bool (bytes_eq q p)) [
    | inl same ↦
        let position : n - n ≡ zero = omega arith in
        rw (none, same, position) (ap suc (count_none p qs none))
    | inr other ↦ absurd (false≢true (sym none ∙ rw other at has))
  ]
]

-- a link that gets a next one
pub nexts-set : (links : List Link) (at number : ℕ) → map (λ (l : Link). l.next) (set links at (record (link_or links at) { next = number })) ≡ set (map (λ (l : Link). l.next) links) at number
nexts-set [] at number = refl
nexts-set (l ∷ ls) zero number = refl
nexts-set (l ∷ ls) (suc at) number = ap (λ t. l.next ∷ t) (nexts-set ls at number)

pub marks-set : (links : List Link) (at number : ℕ) → map mark_of (set links at (record (link_or links at) { next = number })) ≡ map mark_of links
marks-set [] at number = refl
marks-set (l ∷ ls) zero number = refl
marks-set (l ∷ ls) (suc at) number = ap (λ t. mark_of l ∷ t) (marks-set ls at number)
