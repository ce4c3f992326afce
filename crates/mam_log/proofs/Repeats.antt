-- The first id that repeats, along a page.
use Rattle.std.proofs.Common.{◌≡◌, ℕ, ◌+◌, ◌<◌, Bool, true, false, cond, ◌||◌, List, [], ◌∷◌, ◌++◌, Option, Some, None, length, take, drop, get_or, add-one, append_assoc, refl, sym, ap, ◌∙◌}
use Rattle.std.proofs.Math.Seq.{drop-cons}
use Rattle.std.proofs.lemmas.List.{map-append, take_more}
use Rattle.std.proofs.lemmas.List.Folds.{list_any-append}
use Rattle.std.specs.List.{list_any}
use Rattle.std.specs.Str.{bytes_eq}
use Rattle.mam_log.specs.LogPages.{ids_of}
use Rattle.mam_log.specs.Views.{first_repeat}
use Rattle.mam_log.specs.declared.log_entry.LogEntry.{LogEntry}

first_at : (b : Bool) (id : List ℕ) (rest : Option (List ℕ)) → cond b (Some id) rest ≡ None → (b ≡ false) × (rest ≡ None)
first_at true id rest e = absurd cc
first_at false id rest e = (refl, e)

-- where none repeats, the first id is not known, and none of the others repeats behind it
pub first_id : (known : List (List ℕ)) (id : List ℕ) (ids : List (List ℕ)) → first_repeat known (id ∷ ids) ≡ None → (list_any (λ other. bytes_eq id other) known ≡ false) × (first_repeat (known ++ id ∷ []) ids ≡ None)
first_id known id ids none = first_at (list_any (λ other. bytes_eq id other) known) id (first_repeat (known ++ id ∷ []) ids) none

pub ids_of-push : (entries : List LogEntry) (e : LogEntry) → ids_of (entries ++ e ∷ []) ≡ ids_of entries ++ e.id ∷ []
ids_of-push entries e = map-append (λ (e : LogEntry). e.id) entries (e ∷ [])

-- the ids of one result more
pub ids_more : (rs : List LogEntry) (at : ℕ) (d : LogEntry) (id : List ℕ) → at < length rs → id ≡ (get_or rs at d).id → ids_of (take (at + 1) rs) ≡ ids_of (take at rs) ++ id ∷ []
ids_more rs at d id low here = rw here (ap ids_of (take_more rs at d low) ∙ ids_of-push (take at rs) (get_or rs at d))

-- what repeats from a result on: its own id, or what repeats behind it
repeat_step : (known : List (List ℕ)) (rs : List LogEntry) (at : ℕ) (d : LogEntry) (id : List ℕ) → at < length rs → id ≡ (get_or rs at d).id →
    first_repeat (known ++ ids_of (take at rs)) (ids_of (drop at rs))
    ≡ cond (list_any (λ other. bytes_eq id other) known || list_any (λ other. bytes_eq id other) (ids_of (take at rs))) (Some id)
    (first_repeat (known ++ ids_of (take (at + 1) rs)) (ids_of (drop (at + 1) rs)))
repeat_step known rs at d id low here =
    let rest : ids_of (drop at rs) ≡ id ∷ ids_of (drop (at + 1) rs) =
    ap ids_of (drop-cons rs at d low) ∙ rw (here, add-one at) refl in
    rw (rest, ids_more rs at d id low here, ← append_assoc known (ids_of (take at rs)) (id ∷ []), ← list_any-append (λ other. bytes_eq id other) known (ids_of (take at rs))) refl

-- the result's id is the first that repeats
pub repeat_here : (known : List (List ℕ)) (rs : List LogEntry) (at : ℕ) (d : LogEntry) (id : List ℕ) (b : Bool) → at < length rs → id ≡ (get_or rs at d).id →
    b ≡ (list_any (λ other. bytes_eq id other) known || list_any (λ other. bytes_eq id other) (ids_of (take at rs))) → b ≡ true →
    first_repeat (known ++ ids_of (take at rs)) (ids_of (drop at rs)) ≡ Some id
repeat_here known rs at d id b low here told holds =
    repeat_step known rs at d id low here ∙ ap (λ (t : Bool). cond t (Some id) (first_repeat (known ++ ids_of (take (at + 1) rs)) (ids_of (drop (at + 1) rs)))) (sym told ∙ holds)

-- it doesn't repeat, and the others are left
pub repeat_on : (known : List (List ℕ)) (rs : List LogEntry) (at : ℕ) (d : LogEntry) (id : List ℕ) (b : Bool) → at < length rs → id ≡ (get_or rs at d).id →
    b ≡ (list_any (λ other. bytes_eq id other) known || list_any (λ other. bytes_eq id other) (ids_of (take at rs))) → b ≡ false →
    first_repeat (known ++ ids_of (take at rs)) (ids_of (drop at rs)) ≡ first_repeat (known ++ ids_of (take (at + 1) rs)) (ids_of (drop (at + 1) rs))
repeat_on known rs at d id b low here told fails =
    repeat_step known rs at d id low here ∙ ap (λ (t : Bool). cond t (Some id) (first_repeat (known ++ ids_of (take (at + 1) rs)) (ids_of (drop (at + 1) rs)))) (sym told ∙ fails)
