-- Numbers that are read one after another, forward and backward.
use Rattle.std.proofs.Common.{◌≡◌, ℕ, zero, suc, ◌+◌, ◌-◌, ◌<◌, ◌≤◌, List, [], ◌∷◌, ◌++◌, Option, Some, length, take, drop, set, slice_get, unwrap_or, refl, sym, ap, ◌∙◌, arith}
use Rattle.std.proofs.Math.Seq.{take-set-lt}
use Rattle.std.proofs.lemmas.List.{length-take-le}
use Rattle.mam_pages.proofs.Positions.{drop_at, get_dropped, get_taken, get_within, take_at}
use Rattle.mam_pages.specs.Stretches.{IsBackRun, IsRun}

pub run_begin : (ns : List ℕ) (position number : ℕ) (items : List ℕ) → slice_get ns position ≡ Some number → items ≡ number ∷ [] → IsRun ns position 0 number items
run_begin ns position number items is are =
    let same : position + 0 ≡ position = omega arith in
    let one : take (0 + 1) (drop position ns) ≡ number ∷ [] = ap (take (0 + 1)) (drop_at position number ns is) in
    record { read = are ∙ sym one; here = rw same is }

pub run_more : (ns : List ℕ) (position at number after : ℕ) (items more : List ℕ) (found : Option ℕ) → IsRun ns position at number items → position + at + 1 < length ns →
    found ≡ slice_get ns (position + at + 1) → after ≡ unwrap_or found number → more ≡ items ++ after ∷ [] → IsRun ns position (at + 1) after more
run_more ns position at number after items more found run room is next are =
    let there = get_within (position + at + 1) ns room in
    let same : after ≡ there.0 = next ∙ ap (λ o. unwrap_or o number) (is ∙ there.1) in
    let sum : position + (at + 1) ≡ position + at + 1 = omega arith in
    let here : slice_get ns (position + (at + 1)) ≡ Some after = rw sum (there.1 ∙ ap Some (sym same)) in
    let one : at + 1 + 1 ≡ suc (at + 1) = omega arith in
    let all : take (at + 1 + 1) (drop position ns) ≡ take (at + 1) (drop position ns) ++ after ∷ [] =
    ap (λ n. take n (drop position ns)) one ∙ take_at (at + 1) after (drop position ns) (get_dropped position (at + 1) ns ∙ here) in
    record { read = are ∙ ap (λ t. t ++ after ∷ []) run.read ∙ sym all; here = here }

drop_set : (j x : ℕ) (ys : List ℕ) → j < length ys → drop j (set ys j x) ≡ x ∷ drop (suc j) ys
drop_set j x [] within = absurd (omega arith)
drop_set zero x (y ∷ ys) within = refl
drop_set (suc j) x (y ∷ ys) within = drop_set j x ys (omega arith)

pub back_more : (ns slots : List ℕ) (position count at number after : ℕ) (found : Option ℕ) → IsBackRun ns position count at number slots → at < count - 1 →
    count ≤ position + 1 → position < length ns → count ≤ length slots → found ≡ slice_get ns (position - at - 1) → after ≡ unwrap_or found number →
    IsBackRun ns position count (at + 1) after (set slots (count - 2 - at) after)
back_more ns slots position count at number after found run room fits inside size is next =
    let j = count - 2 - at in
    let i = position - at - 1 in
    let there = get_within i ns (omega (arith, room, fits, inside)) in
    let same : after ≡ there.0 = next ∙ ap (λ o. unwrap_or o number) (is ∙ there.1) in
    let here : slice_get ns i ≡ Some after = there.1 ∙ ap Some (sym same) in
    let taken : slice_get (take (position + 1) ns) i ≡ Some after = get_taken (position + 1) i ns (omega (arith, room, fits)) ∙ here in
    let after_slot : suc j ≡ count - 1 - at = omega (arith, room) in
    let slot : count - 1 - (at + 1) ≡ j = omega (arith, room) in
    let after_position : suc i ≡ position - at = omega (arith, room, fits) in
    let at_position : position - (at + 1) ≡ i = omega (arith, room, fits) in
    let left : drop j (take count (set slots j after)) ≡ after ∷ drop (suc j) (take count slots) =
    ap (drop j) (take-set-lt count slots j after (omega (arith, room))) ∙ drop_set j after (take count slots) (omega (arith, length-take-le count slots size, room)) in
    let right : drop i (take (position + 1) ns) ≡ after ∷ drop (suc i) (take (position + 1) ns) = drop_at i after (take (position + 1) ns) taken in
    let rest : drop (suc j) (take count slots) ≡ drop (suc i) (take (position + 1) ns) = rw (after_slot, after_position) run.read in
    record {
      read = rw (slot, at_position) (left ∙ ap (λ t. after ∷ t) rest ∙ sym right);
      here = rw at_position here;
    }
