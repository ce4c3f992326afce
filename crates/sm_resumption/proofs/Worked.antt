-- The definitions, evaluated at values that were worked out beforehand.
use Rattle.std.proofs.Common.{◌≡◌, ℕ, Bool, true, false, List, [], ◌∷◌, Option, Some, None, Ok, Err, pos, refl}
use Rattle.std.specs.Prelude.{codes, map, nat_lt}
use Rattle.std.specs.List.{find}
use Rattle.sm_acks.specs.Queues.{PoolView, list_among}
use Rattle.sm_resumption.specs.Moves.{is_expired, number_of, resume_answer, row_resumed, rows_parked, rows_resumed}
use Rattle.base_lemmas.specs.Hexadecimal.{hex16_of}
use Rattle.sm_resumption.specs.Previds.{previd_of}
use Rattle.sm_resumption.specs.Rows.{less, row_at, row_named, row_of}
use Rattle.sm_resumption.specs.Stored.{collected}
use Rattle.sm_resumption.specs.declared.session.Row.{Row}
use Rattle.sm_resumption.specs.declared.answers.ResumeFault.TheVariants.{TooHigh, UnknownPrevid}

first_previd : previd_of 1 ≡ codes "0000000000000001"
unfolding hex16_of
first_previd = refl

tenth_previd : previd_of 10 ≡ codes "000000000000000a"
unfolding hex16_of
tenth_previd = refl

highest_previd : previd_of 18446744073709551615 ≡ codes "ffffffffffffffff"
unfolding hex16_of
highest_previd = refl

-- a session of account 7, with its queue and what is acknowledged
abbrev session : ℕ → List ℕ → Option ℕ → ℕ → Bool → ℕ → ℕ → Row
session number resource conn parked_at resumable queue acked =
    record {
      shown = record { number = number; account = 7; resource = resource; conn = conn; parked_at = parked_at; available = true; priority = pos 0; carbons = false; counted = resumable; resumable = resumable; asked = false };
      end = record { queue = queue; acked = acked; handled = 3 };
    }

-- the first on connection 5, the second parked at 1,000 ms
abbrev phone : Row
phone = session 1 (codes "phone") (Some 5) 0 true 11 0

abbrev pad : Row
pad = session 2 (codes "pad") None 1000 true 12 4294967295

abbrev two : List Row
two = phone ∷ pad ∷ []

-- the phone's queue has one stanza, and the pad's has two
abbrev pool : PoolView
pool =
    record {
      queues = record { id = 11; stanzas = codes "a" ∷ [] } ∷ record { id = 12; stanzas = codes "b" ∷ codes "c" ∷ [] } ∷ [];
      made = 12;
      spare = 0;
    }

phone_by_connection : row_at 5 two ≡ Some phone
phone_by_connection = refl

nobody_by_connection : row_at 6 two ≡ None
nobody_by_connection = refl

pad_by_name : row_named 7 (codes "pad") two ≡ Some pad
pad_by_name = refl

other_account_by_name : row_named 8 (codes "pad") two ≡ None
other_account_by_name = refl

without_the_phone : less (Some phone) two ≡ pad ∷ []
without_the_phone = refl

first_of_all : find (λ n. nat_lt 0 n) (map number_of two) ≡ Some 1
first_of_all = refl

next_after_the_phone : find (λ n. nat_lt 1 n) (map number_of two) ≡ Some 2
next_after_the_phone = refl

none_after_the_pad : find (λ n. nat_lt 2 n) (map number_of two) ≡ None
none_after_the_pad = refl

-- the phone ended, and its number is listed still
the_dead_are_passed_over : find (λ n. nat_lt 0 n) (map number_of (collected (λ n. row_of n (pad ∷ [])) (1 ∷ 2 ∷ []))) ≡ Some 2
the_dead_are_passed_over = refl

the_phone_is_parked : rows_parked 2000 (row_at 5 two) two ≡ session 1 (codes "phone") None 2000 true 11 0 ∷ pad ∷ []
the_phone_is_parked = refl

what_is_not_resumable_ends : rows_parked 2000 (Some (session 1 (codes "phone") (Some 5) 0 false 11 0)) two ≡ pad ∷ []
what_is_not_resumable_ends = refl

kept_for_299999_ms : is_expired 300999 pad ≡ false
kept_for_299999_ms = refl

expired_after_300000_ms : is_expired 301000 pad ≡ true
expired_after_300000_ms = refl

attached_never_expires : is_expired 900000 phone ≡ false
attached_never_expires = refl

the_pad_by_previd : row_resumed (codes "0000000000000002") 7 two ≡ Some pad
unfolding hex16_of
the_pad_by_previd = refl

no_pad_of_another_account : row_resumed (codes "0000000000000002") 8 two ≡ None
unfolding hex16_of
no_pad_of_another_account = refl

-- the count wraps: of two stanzas behind 4,294,967,295, the peer handled both
the_pad_resumes : resume_answer 1 (Some pad) pool ≡ Ok (record { number = 2; handled = 3; former = None })
unfolding list_among
the_pad_resumes = refl

too_high_for_the_pad : resume_answer 2 (Some pad) pool ≡ Err (TooHigh 2 1 None)
unfolding list_among
too_high_for_the_pad = refl

the_phone_is_taken_over : resume_answer 0 (Some phone) pool ≡ Ok (record { number = 1; handled = 3; former = Some 5 })
unfolding list_among
the_phone_is_taken_over = refl

unknown : resume_answer 9 None pool ≡ Err UnknownPrevid
unknown = refl

too_high_ends_the_pad : rows_resumed 2 9 13 (Some pad) pool two ≡ phone ∷ []
unfolding list_among
too_high_ends_the_pad = refl

the_pad_is_resumed : rows_resumed 1 9 13 (Some pad) pool two ≡ phone ∷ session 2 (codes "pad") (Some 9) 1000 true 13 1 ∷ []
unfolding list_among
the_pad_is_resumed = refl
