-- The counts that were stated ascend.
use Rattle.std.proofs.Common.{◌≡◌, ℕ, ◌≤◌, ◌+◌, List, [], ◌∷◌, ◌++◌, length, get_or, sym, subst, arith, inl, inr}
use Rattle.std.proofs.lemmas.Bool.{cases_lt}
use Rattle.std.proofs.lemmas.List.{get_or_append_left, get_or_push, length_push}
use Rattle.std.proofs.lemmas.List.Elements.{Contains-get_or}
use Rattle.std.specs.List.{Contains}
use Rattle.std.specs.List.Sorted.{IsNonDecreasing}
use Rattle.sm_acks.proofs.Directions.{Kept, kept_beginning, kept_move}
use Rattle.sm_acks.specs.Delivery.{Acknowledge, beginning, Cut, Direction, Handle, Move, Moves, Put, Reached, Reaches, Resume, State}

-- one more that is not below those before it
ascending_push : (ns : List ℕ) (n : ℕ) → IsNonDecreasing ns → ((m : ℕ) → Contains ns m → m ≤ n) → IsNonDecreasing (ns ++ n ∷ [])
ascending_push ns n ascending bound i j d order within =
    let size : length (ns ++ n ∷ []) ≡ length ns + 1 = length_push ns n in
    elim (cases_lt j (length ns)) [
      | inl early ↦ rw (get_or_append_left ns (n ∷ []) d i (omega arith), get_or_append_left ns (n ∷ []) d j early) (ascending i j d order early)
      | inr late ↦
          let at_end : length ns ≡ j = omega arith in
          elim (cases_lt i (length ns)) [
            | inl before ↦ rw (get_or_append_left ns (n ∷ []) d i before, get_or_push ns n d j at_end) (bound (get_or ns i d) (Contains-get_or ns i d before))
            | inr last ↦ rw (get_or_push ns n d i (omega arith), get_or_push ns n d j at_end) (omega arith)
          ]
    ]

none_ascending : IsNonDecreasing []
none_ascending i j d order within = absurd (omega arith)

ascending_move : {A : Type 0} (move : Move A) (d next : Direction A) → Moves move d next → Kept d → IsNonDecreasing d.stated → IsNonDecreasing next.stated
ascending_move {A = A} (Put a) d next is kept ascending = subst (λ (e : Direction A). IsNonDecreasing e.stated) (sym is) ascending
ascending_move {A = A} Handle d next is kept ascending = subst (λ (e : Direction A). IsNonDecreasing e.stated) (sym is.3) ascending
ascending_move {A = A} State d next is kept ascending = subst (λ (e : Direction A). IsNonDecreasing e.stated) (sym is) (ascending_push d.stated (length d.got) ascending kept.stated)
ascending_move {A = A} (Acknowledge n) d next is kept ascending = subst (λ (e : Direction A). IsNonDecreasing e.stated) (sym is.2) ascending
ascending_move {A = A} (Cut n) d next is kept ascending = subst (λ (e : Direction A). IsNonDecreasing e.stated) (sym is) ascending
ascending_move {A = A} Resume d next is kept ascending = subst (λ (e : Direction A). IsNonDecreasing e.stated) (sym is) ascending

ascending_along : {A : Type 0} (moves : List (Move A)) (d last : Direction A) → Reaches moves d last → Kept d → IsNonDecreasing d.stated → IsNonDecreasing last.stated
ascending_along {A = A} [] d last is kept ascending = subst (λ (e : Direction A). IsNonDecreasing e.stated) (sym is) ascending
ascending_along (move ∷ moves) d last reaches kept ascending =
    ascending_along moves reaches.0 last reaches.2 (kept_move move d reaches.0 reaches.1 kept) (ascending_move move d reaches.0 reaches.1 kept ascending)

pub stated_ascend : {A : Type 0} (d : Direction A) → Reached d → IsNonDecreasing d.stated
stated_ascend d reached = ascending_along reached.moves beginning d reached.reaches kept_beginning none_ascending
