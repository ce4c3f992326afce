-- The definitions, evaluated at values that were worked out beforehand.
use Rattle.std.proofs.Common.{◌≡◌, ℕ, Bool, true, false, List, [], ◌∷◌, Option, Some, None, Ok, Err, pos, refl}
use Rattle.std.specs.Prelude.{codes, map}
use Rattle.sm_live.specs.Sessions.{Session, ack_answer, acknowledged, after_resume, bound, lost, number_of, resent, resume_answer, session_at, unexpired, waits}
use Rattle.sm_resumption.specs.declared.answers.ResumeFault.TheVariants.{TooHigh}

-- a session of account 7
abbrev session : ℕ → List ℕ → Option ℕ → ℕ → Bool → ℕ → List ℕ → Session ℕ
session number resource conn parked_at resumable acked waiting =
    record {
      shown = record { number = number; account = 7; resource = resource; conn = conn; parked_at = parked_at; available = false; priority = pos 0; carbons = false; counted = resumable; resumable = resumable; asked = false };
      acked = acked;
      handled = 0;
      waiting = waiting;
    }

-- one that is attached, whose count is about to wrap, and one that is parked
abbrev phone : Session ℕ
phone = session 1 (codes "phone") (Some 4) 0 true 4294967295 (10 ∷ 11 ∷ 12 ∷ [])

abbrev context : Session ℕ
context = session 3 (codes "desk") None 1000 true 0 []

abbrev two : List (Session ℕ)
two = phone ∷ context ∷ []

-- a stanza joins behind the others
joins : (waits 13 phone).waiting ≡ 10 ∷ 11 ∷ 12 ∷ 13 ∷ []
joins = refl

-- a count beyond the wrap: 0 and 1 are one and two stanzas further, and 3 is one too many
taken : ack_answer 1 phone ≡ Ok 2
taken = refl

left : (acknowledged 1 phone).waiting ≡ 12 ∷ []
left = refl

sent_again : resent 0 phone ≡ 11 ∷ 12 ∷ []
sent_again = refl

refused : ack_answer 3 phone ≡ Err (record { h = 3; send_count = 2 })
refused = refl

-- a resumption, and one whose count is too high
moved : map number_of (after_resume 1 9 (Some phone) two) ≡ 1 ∷ 3 ∷ []
moved = refl

on_another : session_at 9 (after_resume 1 9 (Some phone) two) ≡ Some (session 1 (codes "phone") (Some 9) 0 true 1 (12 ∷ []))
on_another = refl

exceeded : resume_answer 3 (Some phone) ≡ Err (TooHigh 3 2 (Some 4))
exceeded = refl

ends : map number_of (after_resume 3 9 (Some phone) two) ≡ 3 ∷ []
ends = refl

-- a bind over the same name ends the older session
replaced : map number_of (bound 4 7 (codes "desk") 9 two) ≡ 1 ∷ 4 ∷ []
replaced = refl

beside : map number_of (bound 4 7 (codes "pad") 9 two) ≡ 1 ∷ 3 ∷ 4 ∷ []
beside = refl

-- a lost connection, and the end of what was parked for 300,000 ms
parks : lost 2000 (session_at 4 two) two ≡ session 1 (codes "phone") None 2000 true 4294967295 (10 ∷ 11 ∷ 12 ∷ []) ∷ context ∷ []
parks = refl

waits_still : map number_of (unexpired 300999 two) ≡ 1 ∷ 3 ∷ []
waits_still = refl

expires : map number_of (unexpired 301000 two) ≡ 1 ∷ []
expires = refl
