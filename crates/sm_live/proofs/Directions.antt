-- What happens to a session as moves of directions.
use Rattle.std.proofs.Common.{◌≡◌, ℕ, ◌+◌, ◌-◌, ◌%◌, ◌^◌, ◌≤◌, ◌<◌, ◌↔◌, ◌⊎◌, Bool, true, false, [], ◌∷◌, ◌++◌, Some, Ok, Err, IsErr, if◌then◌else◌, length, drop, refl, sym, ap, ◌∙◌, arith, length-append, length-drop}
use Rattle.std.proofs.lemmas.Bool.Decides.{nat_tests}
use Rattle.std.proofs.lemmas.List.{drop-append-le, drop-drop, length_push}
use Rattle.std.specs.Prelude.{nat_lt}
use Rattle.sm_acks.proofs.Directions.{got_prefix, kept_reached}
use Rattle.sm_acks.proofs.Senders.{ahead_exact, counted_more}
use Rattle.sm_acks.specs.Counters.{ahead}
use Rattle.sm_acks.specs.Delivery.{Acknowledge, Direction, Handle, Moves, Put, Reached, Resume}
use Rattle.sm_resumption.specs.declared.answers.ResumeFault.TheVariants.{TooHigh}
use Rattle.sm_live.specs.Directions.{Receives, Sends}
use Rattle.sm_live.specs.Sessions.{Session, ack_answer, acknowledged, handles, is_too_high, resume_answer, resume_ok, resumes, send_count, waits}

-- a stanza that is put
pub puts : {A : Type 0} (z : A) (s : Session A) (d next : Direction A) → Sends s d → Moves (Put z) d next → Sends (waits z s) next
puts {A = A} z s d next sends move =
    let put : next.put ≡ d.put ++ z ∷ [] = ap (λ (e : Direction A). e.put) move in
    let acked : next.acked ≡ d.acked = ap (λ (e : Direction A). e.acked) move in
    let size : length (d.put ++ z ∷ []) ≡ length d.put + 1 = length_push d.put z in
    let within : d.acked ≤ length d.put = sends.within in
    record {
      count = sends.count ∙ ap (λ m. m % 2 ^ 32) (sym acked);
      within = rw (put, acked) (omega arith);
      waiting = ap (λ l. l ++ z ∷ []) sends.waiting ∙ sym (drop-append-le d.acked d.put (z ∷ []) within) ∙ rw (put, acked) refl;
    }

-- a stanza that is handled
pub handled_one : {A : Type 0} (s : Session A) (d next : Direction A) → Receives s d → Moves Handle d next → Receives (handles s) next
handled_one {A = A} s d next receives move =
    let (a, rest, way, is) = move in
    let size : length (d.got ++ a ∷ []) ≡ length d.got + 1 = length_push d.got a in
    let got : length next.got ≡ length d.got + 1 = ap (λ (e : Direction A). length e.got) is ∙ size in
    record { count = ap (λ m. (m + 1) % 2 ^ 32) receives.count ∙ counted_more (length d.got) ∙ ap (λ m. m % 2 ^ 32) (sym got) }

-- what the sending end finds at a count that the receiving end stated, or could have stated
record Acks {A : Type 0} (s : Session A) (d : Direction A) (n h : ℕ) : Type 0 where
  pub exact : ahead h s.acked ≡ n - d.acked
  pub enough : n - d.acked ≤ length s.waiting
  pub within : n ≤ length d.put
  pub left : drop (n - d.acked) s.waiting ≡ drop n d.put

acks : {A : Type 0} (s : Session A) (d : Direction A) (n h : ℕ) → Reached d → Sends s d → n ≤ length d.got → d.acked ≤ n → h ≡ n % 2 ^ 32 → length s.waiting ≤ 10000 → Acks s d n h
acks s d n h reached sends handled above is few =
    let front = got_prefix d (kept_reached d reached) in
    let put : length d.put ≡ length d.got + length front.0 = ap length front.1 ∙ length-append d.got front.0 in
    let size : length s.waiting ≡ length d.put - d.acked = ap length sends.waiting ∙ length-drop d.acked d.put in
    let near : n - d.acked ≤ 10000 = omega arith in
    let sum : d.acked + (n - d.acked) ≡ n = omega arith in
    record {
      exact = rw (is, sends.count) (ahead_exact n d.acked above near);
      enough = omega arith;
      within = omega arith;
      left = ap (drop (n - d.acked)) sends.waiting ∙ drop-drop (n - d.acked) d.acked d.put ∙ ap (λ k. drop k d.put) sum;
    }

not_high : {A : Type 0} (s : Session A) (d : Direction A) (n h : ℕ) → Acks s d n h → is_too_high h s ≡ false
not_high s d n h facts = low (length s.waiting) (ahead h s.acked) (let exact = facts.exact in let enough = facts.enough in omega arith)
  where
    low : (q a : ℕ) → a ≤ q → nat_lt q a ≡ false
    low q a within = grind (arith, nat_tests)

-- the sending end after it took the count
took : {A : Type 0} (s after : Session A) (d next : Direction A) (n h : ℕ) → Acks s d n h → h ≡ n % 2 ^ 32 → after.acked ≡ h → after.waiting ≡ drop (ahead h s.acked) s.waiting → next.put ≡ d.put → next.acked ≡ n → Sends after next
took s after d next n h facts is count waiting put acked =
    record {
      count = count ∙ is ∙ ap (λ m. m % 2 ^ 32) (sym acked);
      within = rw (acked, put) facts.within;
      waiting = waiting ∙ ap (λ k. drop k s.waiting) facts.exact ∙ facts.left ∙ rw (acked, put) refl;
    }

-- a count that was stated
pub acknowledges : {A : Type 0} (h n : ℕ) (s : Session A) (d next : Direction A) → length s.waiting ≤ 10000 → Reached d → Sends s d → Moves (Acknowledge n) d next → h ≡ n % 2 ^ 32 →
    (ack_answer h s ≡ Ok (n - d.acked)) × Sends (acknowledged h s) next
acknowledges {A = A} h n s d next few reached sends move is =
    let facts : Acks s d n h = acks s d n h reached sends ((kept_reached d reached).stated n move.0) move.1 is few in
    let low : is_too_high h s ≡ false = not_high s d n h facts in (
      rw low (ap Ok facts.exact),
      took s (acknowledged h s) d next n h facts is refl refl (ap (λ (e : Direction A). e.put) move.2) (ap (λ (e : Direction A). e.acked) move.2),
    )

-- at a resumption, where the count is what was handled, or one that was stated before
resumed_at : {A : Type 0} (h n conn : ℕ) (s : Session A) (d next : Direction A) → Acks s d n h → h ≡ n % 2 ^ 32 → next.put ≡ d.put → next.acked ≡ n → (resume_answer h (Some s) ≡ Ok (resume_ok s)) × Sends (resumes h conn s) next
resumed_at h n conn s d next facts is put acked =
    let low : is_too_high h s ≡ false = not_high s d n h facts in
    (rw low refl, took s (resumes h conn s) d next n h facts is refl refl put acked)

pub resumption : {A : Type 0} (h conn : ℕ) (s : Session A) (d next : Direction A) → length s.waiting ≤ 10000 → Reached d → Sends s d → Moves Resume d next → h ≡ length d.got % 2 ^ 32 →
    (resume_answer h (Some s) ≡ Ok (resume_ok s)) × Sends (resumes h conn s) next
resumption {A = A} h conn s d next few reached sends move is =
    let facts : Acks s d (length d.got) h = acks s d (length d.got) h reached sends (omega arith) (kept_reached d reached).acked is few in
    resumed_at h (length d.got) conn s d next facts is (ap (λ (e : Direction A). e.put) move) (ap (λ (e : Direction A). e.acked) move)

pub late_resumption : {A : Type 0} (h n conn : ℕ) (s : Session A) (d next : Direction A) → length s.waiting ≤ 10000 → Reached d → Sends s d → Moves (Acknowledge n) d next → h ≡ n % 2 ^ 32 →
    (resume_answer h (Some s) ≡ Ok (resume_ok s)) × Sends (resumes h conn s) next
late_resumption {A = A} h n conn s d next few reached sends move is =
    let facts : Acks s d n h = acks s d n h reached sends ((kept_reached d reached).stated n move.0) move.1 is few in
    resumed_at h n conn s d next facts is (ap (λ (e : Direction A). e.put) move.2) (ap (λ (e : Direction A). e.acked) move.2)

-- how far a count is ahead of what is acknowledged, where neither wrapped
far_ahead : (h a p : ℕ) → a ≤ p → p < 2 ^ 32 → h < 2 ^ 32 → (nat_lt (p - a) (ahead h a) ≡ true) ↔ ((h < a) ⊎ (p < h))
far_ahead h a p within few low = (λ high. grind (arith, nat_tests), λ old. grind (arith, nat_tests))

by_test : {T E : Type 0} (b : Bool) (e : E) (v : T) → IsErr (if b then Err e else Ok v) ↔ (b ≡ true)
by_test true e v = (λ is. is, λ is. is)
by_test false e v = (λ is. is, λ is. is)

-- a count at a resumption, where fewer than 2 ^ 32 stanzas were put
pub old_counts : {A : Type 0} (h : ℕ) (s : Session A) (d : Direction A) → Sends s d → length d.put < 2 ^ 32 → h < 2 ^ 32 → IsErr (resume_answer h (Some s)) ↔ ((h < d.acked) ⊎ (length d.put < h))
old_counts h s d sends few low =
    let size : length s.waiting ≡ length d.put - d.acked = ap length sends.waiting ∙ length-drop d.acked d.put in
    let within : d.acked ≤ length d.put = sends.within in
    let small : d.acked % 2 ^ 32 ≡ d.acked = omega arith in
    let count : s.acked ≡ d.acked = sends.count ∙ small in
    let far = far_ahead h d.acked (length d.put) within few low in
    let same : is_too_high h s ≡ nat_lt (length d.put - d.acked) (ahead h d.acked) = rw (size, count) refl in
    let test = by_test (is_too_high h s) (TooHigh h (send_count s) s.shown.conn) (resume_ok s) in
    (λ err. far.0 (sym same ∙ test.0 err), λ old. test.1 (same ∙ far.1 old))
