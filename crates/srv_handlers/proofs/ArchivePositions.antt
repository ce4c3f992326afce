-- An archive among the archives, as it is seen, and the room in it.
use Rattle.std.proofs.Common.{◌≡◌, ◌≢◌, ◌<◌, ℕ, arith, length, zero, suc, List, [], ◌∷◌, Option, Some, None, map, ap, refl, sym, subst, ◌∙◌}
use Rattle.std.proofs.lemmas.List.{map-set}
use Rattle.std.proofs.lemmas.Option.{none-some, same_Some, slice_get-map}
use Rattle.std.specs.List.{slice_get, slice_set}
use Rattle.std.specs.Option.{option_map}
use Rattle.mam_archive.specs.Entries.{ArchiveView, EntryView}
use Rattle.srv_state.specs.Seen.{kept_of}
use Rattle.srv_state.specs.State.{Kept, ServerState}
use Rattle.srv_state.specs.Steps.{appended, archived_in}
use Rattle.srv_handlers.specs.Parts.{HasRoom, HasRoomAt, seen_at, with_entry}

pub seen_there : (archives : List ArchiveView) (position : ℕ) → slice_get (map kept_of archives) position ≡ option_map kept_of (slice_get archives position)
seen_there archives position = slice_get-map kept_of archives position

-- what is there is put there again
put_again : {A : Type 0} (l : List A) (i : ℕ) (a : A) → slice_get l i ≡ Some a → slice_set l i a ≡ l
put_again [] i a is = absurd (none-some a is)
put_again (x ∷ xs) zero a is = ap (λ y. y ∷ xs) (sym (same_Some x a is))
put_again (x ∷ xs) (suc i) a is = ap (λ l. x ∷ l) (put_again xs i a is)

-- an archive that is seen as it was
pub seen_same : (archives : List ArchiveView) (i : ℕ) (a b : ArchiveView) → slice_get archives i ≡ Some a → kept_of b ≡ kept_of a → map kept_of (slice_set archives i b) ≡ map kept_of archives
seen_same archives i a b is same =
    map-set kept_of archives i b
    ∙ put_again (map kept_of archives) i (kept_of b) (seen_there archives i ∙ ap (option_map kept_of) is ∙ ap Some (sym same))

-- an archive with an entry more
pub seen_longer : (archives : List ArchiveView) (i : ℕ) (a b : ArchiveView) (e : EntryView) → slice_get archives i ≡ Some a → kept_of b ≡ appended e (kept_of a)
    → map kept_of (slice_set archives i b) ≡ with_entry e i (seen_at i archives) (map kept_of archives)
seen_longer archives i a b e is longer =
    map-set kept_of archives i b
    ∙ ap (λ k. slice_set (map kept_of archives) i k) longer
    ∙ sym (ap (λ o. with_entry e i o (map kept_of archives)) (seen_there archives i ∙ ap (option_map kept_of) is))

-- ---- room

pub room_nowhere : (archives : List ArchiveView) (i : ℕ) → (i < length archives → ⊥) → HasRoomAt i archives
room_nowhere [] i none = tt
room_nowhere (x ∷ xs) zero none = absurd (none (omega arith))
room_nowhere (x ∷ xs) (suc i) none = room_nowhere xs i (λ within. none (omega (arith, within)))

pub room_there : (archives : List ArchiveView) (i : ℕ) (a b : ArchiveView) → slice_get archives i ≡ Some a → HasRoom b → HasRoomAt i (slice_set archives i b)
room_there [] i a b is room = absurd (none-some a is)
room_there (x ∷ xs) zero a b is room = room
room_there (x ∷ xs) (suc i) a b is room = room_there xs i a b is room

pub room_of : (archives : List ArchiveView) (i : ℕ) (a : ArchiveView) → slice_get archives i ≡ Some a → HasRoomAt i archives → HasRoom a
room_of [] i a is room = absurd (none-some a is)
room_of (x ∷ xs) zero a is room = subst HasRoom (same_Some x a is) room
room_of (x ∷ xs) (suc i) a is room = room_of xs i a is room

pub room_apart : (archives : List ArchiveView) (i other : ℕ) (b : ArchiveView) → other ≢ i → HasRoomAt other archives → HasRoomAt other (slice_set archives i b)
room_apart [] i other b apart room = room
room_apart (x ∷ xs) zero zero b apart room = absurd (apart refl)
room_apart (x ∷ xs) zero (suc other) b apart room = room
room_apart (x ∷ xs) (suc i) zero b apart room = room
room_apart (x ∷ xs) (suc i) (suc other) b apart room = room_apart xs i other b (λ same. apart (ap suc same)) room

pub room_kept : (archives : List ArchiveView) (i other : ℕ) (a b : ArchiveView) → slice_get archives i ≡ Some a → (HasRoom a → HasRoom b) → HasRoomAt other archives → HasRoomAt other (slice_set archives i b)
room_kept [] i other a b is kept room = absurd (none-some a is)
room_kept (x ∷ xs) zero zero a b is kept room = kept (subst HasRoom (same_Some x a is) room)
room_kept (x ∷ xs) zero (suc other) a b is kept room = room
room_kept (x ∷ xs) (suc i) zero a b is kept room = room
room_kept (x ∷ xs) (suc i) (suc other) a b is kept room = room_kept xs i other a b is kept room

-- ---- the step

pub entry_goes_in : {A : Type 0} (e : EntryView) (account : ℕ) (o : Option Kept) (h : ServerState A) → archived_in e account o h ≡ record h { archives = with_entry e account o h.archives }
entry_goes_in e account None h = refl
entry_goes_in e account (Some kept) h = refl
