-- Intents that are changed, and the room that they have.
use Rattle.std.proofs.Common.{◌≡◌, ◌<◌, ◌≤◌, ◌+◌, ℕ, zero, suc, Bool, true, false, cond, List, [], ◌∷◌, ◌++◌, Some, None, length, map, refl, sym, ap, ◌∙◌, add-one, arith}
use Rattle.std.proofs.lemmas.List.{map-append}
use Rattle.std.specs.List.{slice_get, slice_index_or, slice_set}
use Rattle.cl_intents.specs.Intents.{IntentsView, changed_at, index_under, new_intent, room_of, room_under, without_room}
use Rattle.cl_intents.specs.declared.intents.Intent.{Intent}

pub either_way : (b : Bool) (m n : ℕ) → m ≡ n → m ≡ cond b n m
either_way true m n same = same
either_way false m n same = refl

-- ---- at an index

pub same_there : (xs : List Intent) (index : ℕ) (old new : Intent) → index < length xs → old ≡ slice_index_or xs index old → without_room new ≡ without_room old →
    map without_room (slice_set xs index new) ≡ map without_room xs
same_there [] index old new within is same = absurd (omega (arith, within))
same_there (x ∷ xs) zero old new within is same = ap (λ y. y ∷ map without_room xs) (same ∙ ap without_room is)
same_there (x ∷ xs) (suc index) old new within is same = ap (λ rest. without_room x ∷ rest) (same_there xs index old new (omega (arith, within)) is same)

pub changed_there : (f : Intent → Intent) (xs : List Intent) (index : ℕ) (old new : Intent) → index < length xs → old ≡ slice_index_or xs index old → without_room new ≡ without_room (f old) →
    map without_room (slice_set xs index new) ≡ map without_room (changed_at index f xs)
changed_there f [] index old new within is becomes = absurd (omega (arith, within))
changed_there f (x ∷ xs) zero old new within is becomes = ap (λ y. y ∷ map without_room xs) (becomes ∙ ap (λ i. without_room (f i)) is)
changed_there f (x ∷ xs) (suc index) old new within is becomes = ap (λ rest. without_room x ∷ rest) (changed_there f xs index old new (omega (arith, within)) is becomes)

pub got_there : (xs : List Intent) (index : ℕ) (new : Intent) → index < length xs → slice_get (slice_set xs index new) index ≡ Some new
got_there [] index new within = absurd (omega (arith, within))
got_there (x ∷ xs) zero new within = refl
got_there (x ∷ xs) (suc index) new within = got_there xs index new (omega (arith, within))

-- what has room is there
pub room_within : (xs : List Intent) (index : ℕ) → 1 ≤ room_of (slice_get xs index) → index < length xs
room_within [] index room = absurd (omega arith)
room_within (x ∷ xs) zero room = omega arith
room_within (x ∷ xs) (suc index) room = (let low = room_within xs index room in omega arith)

pub room_of_there : (xs : List Intent) (index : ℕ) (old : Intent) → index < length xs → old ≡ slice_index_or xs index old → 1 ≤ room_of (slice_get xs index) → 1 ≤ old.tries.spare
room_of_there [] index old within is room = absurd (omega (arith, within))
room_of_there (x ∷ xs) zero old within is room = (let same = ap (λ (i : Intent). i.tries.spare) is in omega arith)
room_of_there (x ∷ xs) (suc index) old within is room = room_of_there xs index old (omega (arith, within)) is room

-- ---- under a number

pub index_one : (k index : ℕ) → index_under k ≡ Some index → k ≡ index + 1
index_one zero index is = absurd (let bad : ⊥ = cc in bad)
index_one (suc n) index is = (let same : n ≡ index = cc in omega arith)

pub index_none : (k : ℕ) → index_under k ≡ None → k ≡ 0
index_none zero is = refl
index_none (suc n) is = absurd (let bad : ⊥ = cc in bad)

-- ---- one more

at_end : (xs : List Intent) (i : Intent) → slice_get (xs ++ i ∷ []) (length xs) ≡ Some i
at_end [] i = refl
at_end (x ∷ xs) i = at_end xs i

pub room_at_end : (xs : List Intent) (i : Intent) → 1 ≤ i.tries.spare → 1 ≤ room_under (length xs + 1) (xs ++ i ∷ [])
room_at_end xs i room = rw (add-one, at_end xs i) room

pub one_added : (v : IntentsView) (i : Intent) (to text : List ℕ) → i.to ≡ to → i.text ≡ text → i.tries.items ≡ [] →
    map without_room (v.intents ++ i ∷ []) ≡ map without_room (v.intents ++ new_intent to text ∷ [])
one_added v i to text same_to same_text none =
    map-append without_room v.intents (i ∷ [])
    ∙ ap (λ j. map without_room v.intents ++ j ∷ []) (rw (same_to, same_text, none) refl)
    ∙ sym (map-append without_room v.intents (new_intent to text ∷ []))
