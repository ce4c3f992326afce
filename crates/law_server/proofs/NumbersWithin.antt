-- No archive gives a number above the greatest.
use Rattle.std.proofs.Common.{◌≡◌, ◌≤◌, ℕ, zero, suc, ◌+◌, ◌==◌, ◌||◌, Bool, true, false, cond, List, [], ◌∷◌, Option, Some, None, map, refl, sym, subst, ◌∙◌, arith, inl, inr}
use Rattle.std.proofs.lemmas.Bool.{cases_Bool, false≢true}
use Rattle.std.proofs.lemmas.Bool.Decides.{nat_tests}
use Rattle.std.specs.Prelude.{IfSome, nat_le}
use Rattle.std.specs.List.{slice_get}
use Rattle.std.specs.Option.{option_map}
use Rattle.mam_archive.specs.Entries.{EntryView}
use Rattle.mam_archive.specs.declared.archive.TheConstants.{GREATEST_NUMBER}
use Rattle.srv_state.specs.State.{Kept, ServerState, archive_at}
use Rattle.srv_login.specs.declared.account.Account.{Account}
use Rattle.srv_handlers.specs.Messages.{is_full_at}
use Rattle.sm_resumption.proofs.RowFacts.{same_from_eqb}
use Rattle.srv_core.specs.Configs.{empty_kept}
use Rattle.law_server.specs.Taken.{Taken, all_appended, at_most_one, concerns, entries_for}

abbrev pub IsWithin : Option Kept → Type 0
IsWithin o = IfSome o (λ (kept : Kept). kept.last ≤ GREATEST_NUMBER)

one_more : (n : ℕ) → nat_le GREATEST_NUMBER n ≡ false → n + 1 ≤ GREATEST_NUMBER
one_more n is = grind (arith, nat_tests)

within_same : (o : Option Kept) → IsWithin o → IsWithin (option_map (all_appended []) o)
within_same None is = tt
within_same (Some kept) is = is

within_more : (e : EntryView) (o : Option Kept) → is_full_at o ≡ false → IsWithin (option_map (all_appended (e ∷ [])) o)
within_more e None room = tt
within_more e (Some kept) room = one_more kept.last room

either_of : (x y : Bool) → (x || y) ≡ true → y ≡ false → x ≡ true
either_of true y is other = refl
either_of false y is other = absurd (false≢true (sym other ∙ is))

room_of : {A : Type 0} (h : ServerState A) (t : Taken) (position : ℕ) → is_full_at (archive_at t.sender h) ≡ false → is_full_at (archive_at t.addressee h) ≡ false → concerns position t ≡ true → is_full_at (archive_at position h) ≡ false
room_of h t position sender addressee is =
    elim (cases_Bool (t.addressee == position)) [
      | inl here ↦ subst (λ n. is_full_at (archive_at n h) ≡ false) (same_from_eqb t.addressee position here) addressee
      | inr other ↦ subst (λ n. is_full_at (archive_at n h) ≡ false) (same_from_eqb t.sender position (either_of (t.sender == position) (t.addressee == position) is other)) sender
    ]

abbrev pub Rooms : {A : Type 0} → ServerState A → Taken → Type 0
Rooms h t = (is_full_at (archive_at t.sender h) ≡ false) × (is_full_at (archive_at t.addressee h) ≡ false)

within_one : {A : Type 0} (h : ServerState A) (t : Taken) (position : ℕ) (b : Bool) → concerns position t ≡ b → Rooms h t → IsWithin (archive_at position h) → IsWithin (option_map (all_appended (map (λ (x : Taken). x.entry) (cond b (t ∷ []) []))) (archive_at position h))
within_one h t position true is room within = within_more t.entry (archive_at position h) (room_of h t position room.0 room.1 is)
within_one h t position false is room within = within_same (archive_at position h) within

pub within_taken : {A : Type 0} (h : ServerState A) (o : Option Taken) (position : ℕ) → IfSome o (Rooms h) → IsWithin (archive_at position h) → IsWithin (option_map (all_appended (entries_for position (at_most_one o))) (archive_at position h))
within_taken h None position room within = within_same (archive_at position h) within
within_taken h (Some t) position room within = within_one h t position (concerns position t) refl room within

pub within_first : (domain : List ℕ) (keep : ℕ) (accounts : List Account) (position : ℕ) → IsWithin (slice_get (map (λ (a : Account). empty_kept domain keep a.name) accounts) position)
within_first domain keep [] position = tt
within_first domain keep (a ∷ accounts) zero = omega arith
within_first domain keep (a ∷ accounts) (suc position) = within_first domain keep accounts position
