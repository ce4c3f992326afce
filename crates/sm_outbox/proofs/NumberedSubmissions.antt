-- The numbers of submissions: what keeps them, and what they tell of ids.
use Rattle.std.proofs.Common.{◌≡◌, ◌≢◌, ℕ, zero, suc, ◌+◌, ◌-◌, ◌*◌, ◌^◌, ◌<◌, ◌≤◌, ◌==◌, ◌||◌, Bool, true, false, List, [], ◌∷◌, ◌++◌, All, map, take, drop, refl, sym, ap, ap₂, subst, ◌∙◌, arith, inl, inr, bytes_eq}
use Rattle.std.proofs.lemmas.Bool.{cases_Bool}
use Rattle.std.proofs.lemmas.Bool.Decides.{nat_tests}
use Rattle.std.proofs.lemmas.List.{map-append, take-append-drop}
use Rattle.std.proofs.lemmas.Slice.Eq.{bytes_eq-Decides}
use Rattle.std.specs.List.{list_any}
use Rattle.sm_outbox.proofs.OriginIds.{origin_injective}
use Rattle.sm_outbox.specs.Kept.{IsNumbered, SubmissionsView, numbers_of}
use Rattle.sm_outbox.specs.Submissions.{all_said, in_state, is_submission, origin_of, position, position_of}
use Rattle.sm_outbox.specs.declared.said.Said.{Said}
use Rattle.sm_outbox.specs.declared.said.SaidState.{SaidState}

-- ---- a state that is set leaves the numbers

in_state_numbers : (state : SaidState) (items : List Said) → map numbers_of (map (in_state state) items) ≡ map numbers_of items
in_state_numbers state [] = refl
in_state_numbers state (x ∷ xs) = ap (λ l. numbers_of x ∷ l) (in_state_numbers state xs)

pub part_numbers : (state : SaidState) (items : List Said) (from to : ℕ) → from ≤ to → map numbers_of (take from items ++ map (in_state state) (take (to - from) (drop from items)) ++ drop to items) ≡ map numbers_of items
part_numbers state items zero to le =
    let e : to ≡ to - zero = omega arith in
    subst (λ k. map numbers_of (take zero items ++ map (in_state state) (take k (drop zero items)) ++ drop to items) ≡ map numbers_of items) e (front state items to)
  where
    front : (state : SaidState) (items : List Said) (to : ℕ) → map numbers_of (map (in_state state) (take to items) ++ drop to items) ≡ map numbers_of items
    front state items to =
        map-append numbers_of (map (in_state state) (take to items)) (drop to items)
        ∙ ap (λ l. l ++ map numbers_of (drop to items)) (in_state_numbers state (take to items))
        ∙ sym (map-append numbers_of (take to items) (drop to items))
        ∙ ap (map numbers_of) (take-append-drop to items)
part_numbers state items (suc from) zero le = absurd (omega arith)
part_numbers state [] (suc from) (suc to) le = let e : suc to - suc from ≡ to - from = omega arith in rw e (none (to - from))
  where
    none : (k : ℕ) → map numbers_of ([] ++ map (in_state state) (take k []) ++ []) ≡ []
    none zero = refl
    none (suc k) = refl
part_numbers state (x ∷ xs) (suc from) (suc to) le =
    let e : suc to - suc from ≡ to - from = omega arith in
    let h : from ≤ to = omega arith in
    rw e (ap (λ l. numbers_of x ∷ l) (part_numbers state xs from to h))

pub part_kept : (state : SaidState) (items new : List Said) (from to epoch n : ℕ) → from ≤ to → new ≡ take from items ++ map (in_state state) (take (to - from) (drop from items)) ++ drop to items → IsNumbered (map numbers_of items) epoch n → IsNumbered (map numbers_of new) epoch n
part_kept state items new from to epoch n le is numbered = subst (λ l. IsNumbered l epoch n) (sym (ap (map numbers_of) is ∙ part_numbers state items from to le)) numbered

-- ---- ids and places

abbrev Fits : ℕ × ℕ → Type 0
Fits of = (of.0 < 2 ^ 64) × (of.1 < 2 ^ 64)

same_at : (m n : ℕ) → (m == n) ≡ true → m ≡ n
same_at m n e = grind (arith, nat_tests)

clash : (m n : ℕ) → (m == n) ≡ false → m ≡ n → ⊥
clash m n e same = grind (arith, nat_tests)

one_test : (resource id : List ℕ) (epoch n : ℕ) (x : Said) → epoch < 2 ^ 64 → n < 2 ^ 64 → id ≡ origin_of resource epoch n → Fits (numbers_of x) → bytes_eq (origin_of resource x.epoch x.n) id ≡ (position_of x == position epoch n)
one_test resource id epoch n x small fits is of = go (position_of x == position epoch n) refl
  where
    here : (position_of x == position epoch n) ≡ true → bytes_eq (origin_of resource x.epoch x.n) id ≡ true
    here e =
        let at : x.epoch * 2 ^ 64 + x.n ≡ epoch * 2 ^ 64 + n = same_at (position_of x) (position epoch n) e in
        let low : x.n < 2 ^ 64 = of.1 in
        let first : x.epoch ≡ epoch = omega arith in
        let last : x.n ≡ n = omega arith in
        (bytes_eq-Decides (origin_of resource x.epoch x.n) id).1 (ap₂ (origin_of resource) first last ∙ sym is)

    apart : (position_of x == position epoch n) ≡ false → bytes_eq (origin_of resource x.epoch x.n) id ≡ false
    apart e = elim (cases_Bool (bytes_eq (origin_of resource x.epoch x.n) id)) [
      | inl hit ↦
          let numbers = origin_injective resource x.epoch x.n epoch n of.0 of.1 small fits ((bytes_eq-Decides (origin_of resource x.epoch x.n) id).0 hit ∙ is) in
          absurd (clash (position_of x) (position epoch n) e (ap₂ position numbers.0 numbers.1))
      | inr miss ↦ miss
    ]

    go : (b : Bool) → (position_of x == position epoch n) ≡ b → bytes_eq (origin_of resource x.epoch x.n) id ≡ (position_of x == position epoch n)
    go true e = here e ∙ sym e
    go false e = apart e ∙ sym e

pub same_test : (resource id : List ℕ) (epoch n : ℕ) (items : List Said) → epoch < 2 ^ 64 → n < 2 ^ 64 → id ≡ origin_of resource epoch n → All (λ of. (of.0 < 2 ^ 64) × (of.1 < 2 ^ 64)) (map numbers_of items)
    → list_any (λ said. bytes_eq (origin_of resource said.epoch said.n) id) items ≡ list_any (λ said. position_of said == position epoch n) items
same_test resource id epoch n [] small fits is all = refl
same_test resource id epoch n (x ∷ xs) small fits is all =
    ap₂ (λ a b. a || b) (one_test resource id epoch n x small fits is (all 0 (numbers_of x) (omega arith))) (same_test resource id epoch n xs small fits is (λ k d below. all (suc k) d (omega arith)))

pub no_test : (resource id : List ℕ) (items : List Said) → ((epoch n : ℕ) → epoch < 2 ^ 64 → n < 2 ^ 64 → id ≢ origin_of resource epoch n) → All (λ of. (of.0 < 2 ^ 64) × (of.1 < 2 ^ 64)) (map numbers_of items)
    → list_any (λ said. bytes_eq (origin_of resource said.epoch said.n) id) items ≡ false
no_test resource id [] none all = refl
no_test resource id (x ∷ xs) none all =
    let of : Fits (numbers_of x) = all 0 (numbers_of x) (omega arith) in
    ap₂ (λ a b. a || b) (other of) (no_test resource id xs none (λ k d below. all (suc k) d (omega arith)))
  where
    other : Fits (numbers_of x) → bytes_eq (origin_of resource x.epoch x.n) id ≡ false
    other of = elim (cases_Bool (bytes_eq (origin_of resource x.epoch x.n) id)) [
      | inl hit ↦ absurd (none x.epoch x.n of.0 of.1 (sym ((bytes_eq-Decides (origin_of resource x.epoch x.n) id).0 hit)))
      | inr miss ↦ miss
    ]

-- ---- the submissions that a struct keeps

abbrev kept : List Said → ℕ → ℕ → ℕ → ℕ → SubmissionsView
kept items settled epoch n spare = record { said = record { settled = take settled items; waiting = drop settled items }; epoch = epoch; n = n; spare = spare }

all_items : (items : List Said) (settled epoch n spare : ℕ) (now : SubmissionsView) → kept items settled epoch n spare ≡ now → all_said now.said ≡ items
all_items items settled epoch n spare now is = ap (λ (v : SubmissionsView). all_said v.said) (sym is) ∙ take-append-drop settled items

pub found_all : (resource id : List ℕ) (e m at : ℕ) (r : Bool) (items shown : List Said) (settled epoch n spare : ℕ) (now : SubmissionsView) → kept items settled epoch n spare ≡ now → IsNumbered (map numbers_of items) epoch n → shown ≡ items
    → (e < 2 ^ 64) × (m < 2 ^ 64) → id ≡ origin_of resource e m → at ≡ position e m → r ≡ list_any (λ said. position_of said == at) shown → r ≡ is_submission resource id now.said
found_all resource id e m at r items shown settled epoch n spare now is numbered slice fits origin position_is found =
    found
    ∙ ap₂ (λ k l. list_any (λ said. position_of said == k) l) position_is slice
    ∙ sym (same_test resource id e m items fits.0 fits.1 origin numbered.fit)
    ∙ sym (ap (list_any (λ (said : Said). bytes_eq (origin_of resource said.epoch said.n) id)) (all_items items settled epoch n spare now is))

pub found_none : (resource id : List ℕ) (items : List Said) (settled epoch n spare : ℕ) (now : SubmissionsView) → kept items settled epoch n spare ≡ now → IsNumbered (map numbers_of items) epoch n
    → ((e m : ℕ) → e < 2 ^ 64 → m < 2 ^ 64 → id ≢ origin_of resource e m) → false ≡ is_submission resource id now.said
found_none resource id items settled epoch n spare now is numbered none =
    sym (no_test resource id items none numbered.fit) ∙ sym (ap (list_any (λ (said : Said). bytes_eq (origin_of resource said.epoch said.n) id)) (all_items items settled epoch n spare now is))
