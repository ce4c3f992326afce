-- Counts above what was sent, and sessions whose connection was shut.
use Rattle.std.proofs.Common.{◌≡◌, ℕ, Bool, true, false, not, List, [], ◌∷◌, Some, Result, Err, IfSome, refl, sym, ap, inl, inr}
use Rattle.std.proofs.lemmas.Bool.{cases_Bool}
use Rattle.std.specs.List.{filter, find}
use Rattle.sm_acks.specs.declared.end.TooHigh.{TooHigh}
use Rattle.srv_state.specs.State.{Step}
use Rattle.srv_state.specs.Steps.{acted, part, shut}
use Rattle.srv_state.specs.Streams.{parting}
use Rattle.sm_live.specs.Sessions.{Session, ack_answer, is_at, is_resumed_by, is_too_high, send_count, session_of, session_resumed}
use Rattle.sm_live.specs.declared.told.SessionInfo.{SessionInfo}
use Rattle.im_replies.specs.Streams.{too_high_item}
use Rattle.srv_handlers.specs.Managements.{acknowledging, at_ack}
use Rattle.xml_writer.specs.Items.{ItemOut}

pub too_high : {A : Type 0} (say : ItemOut → A) (k h : ℕ) (t : SessionInfo) (old : Session A) (s : Step A) → session_of t.number s.server_state.sessions ≡ Some old → t.counted ≡ true → is_too_high h old ≡ true
    → acted say (at_ack say k h t s.server_state) s ≡ part say k (say (too_high_item h (send_count old))) s
too_high say k h t old s found counted high =
    let answer : ack_answer h old ≡ Err (record { h = h; send_count = send_count old }) = rw high refl in
    let acts : at_ack say k h t s.server_state ≡ parting say k (say (too_high_item h (send_count old))) = rw (counted, found) (ap (λ (r : Result ℕ TooHigh). acknowledging say k t.number h (Some r)) answer) in
    ap (λ a. acted say a s) acts

no_longer : (b : Bool) → not b ≡ true → b ≡ false
no_longer true is = sym is
no_longer false is = refl

found_among : {A : Type 0} (p q : Session A → Bool) (ss : List (Session A)) → IfSome (find p (filter (λ s. not (q s)) ss)) (λ s. q s ≡ false)
found_among p q [] = tt
found_among p q (s ∷ ss) =
    elim (cases_Bool (not (q s))) [
      | inl kept ↦ rw kept (elim (cases_Bool (p s)) [ inl here ↦ rw here (no_longer (q s) kept) | inr other ↦ rw other (found_among p q ss) ])
      | inr gone ↦ rw gone (found_among p q ss)
    ]

pub not_resumed : {A : Type 0} (k account : ℕ) (previd : List ℕ) (s : Step A) → IfSome (session_resumed previd account (shut k s).server_state.sessions) (λ found. is_at k found ≡ false)
not_resumed k account previd s = found_among (is_resumed_by previd account) (is_at k) s.server_state.sessions
