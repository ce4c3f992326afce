-- What happens to what waits as moves of directions.
use Rattle.std.proofs.Common.{◌≡◌, ℕ, ◌+◌, ◌-◌, ◌%◌, ◌^◌, ◌≤◌, false, length, drop, refl, sym, ap, ◌∙◌, arith, length-append, length-drop}
use Rattle.std.proofs.lemmas.Bool.Decides.{nat_tests}
use Rattle.std.proofs.lemmas.List.{drop-drop}
use Rattle.std.specs.Prelude.{nat_lt}
use Rattle.sm_acks.proofs.Directions.{got_prefix, kept_reached}
use Rattle.sm_acks.proofs.Senders.{ahead_exact}
use Rattle.sm_acks.specs.Counters.{ahead}
use Rattle.sm_acks.specs.Delivery.{Acknowledge, Direction, Moves, Reached, Resume}
use Rattle.sm_outbox.specs.Directions.{Sends}
use Rattle.sm_outbox.specs.Waiting.{Waiting, acked, is_too_high, resent}

-- what the sending end finds at a count that the receiving end stated, or could have stated
record Acks {A : Type 0} (w : Waiting A) (d : Direction A) (n h : ℕ) : Type 0 where
  pub exact : ahead h w.acked ≡ n - d.acked
  pub enough : n - d.acked ≤ length w.queue
  pub within : n ≤ length d.put
  pub left : drop (n - d.acked) w.queue ≡ drop n d.put

acks : {A : Type 0} (w : Waiting A) (d : Direction A) (n h : ℕ) → Reached d → Sends w d → n ≤ length d.got → d.acked ≤ n → h ≡ n % 2 ^ 32 → length w.queue ≤ 10000 → Acks w d n h
acks w d n h reached sends handled above is few =
    let front = got_prefix d (kept_reached d reached) in
    let put : length d.put ≡ length d.got + length front.0 = ap length front.1 ∙ length-append d.got front.0 in
    let size : length w.queue ≡ length d.put - d.acked = ap length sends.queue ∙ length-drop d.acked d.put in
    let near : n - d.acked ≤ 10000 = omega arith in
    let sum : d.acked + (n - d.acked) ≡ n = omega arith in
    record {
      exact = rw (is, sends.count) (ahead_exact n d.acked above near);
      enough = omega arith;
      within = omega arith;
      left = ap (drop (n - d.acked)) sends.queue ∙ drop-drop (n - d.acked) d.acked d.put ∙ ap (λ k. drop k d.put) sum;
    }

not_high : {A : Type 0} (w : Waiting A) (d : Direction A) (n h : ℕ) → Acks w d n h → is_too_high w h ≡ false
not_high w d n h facts = low (length w.queue) (ahead h w.acked) (let exact = facts.exact in let enough = facts.enough in omega arith)
  where
    low : (q a : ℕ) → a ≤ q → nat_lt q a ≡ false
    low q a within = grind (arith, nat_tests)

-- the sending end after it took the count
took : {A : Type 0} (w : Waiting A) (d next : Direction A) (n h : ℕ) → Acks w d n h → h ≡ n % 2 ^ 32 → next.put ≡ d.put → next.acked ≡ n → Sends (acked w h) next
took w d next n h facts is put same =
    record {
      count = is ∙ ap (λ m. m % 2 ^ 32) (sym same);
      within = rw (same, put) facts.within;
      queue = ap (λ k. drop k w.queue) facts.exact ∙ facts.left ∙ rw (same, put) refl;
    }

-- a count that was stated
pub acknowledges : {A : Type 0} (h n : ℕ) (w : Waiting A) (d next : Direction A) → length w.queue ≤ 10000 → Reached d → Sends w d → Moves (Acknowledge n) d next → h ≡ n % 2 ^ 32 →
    (is_too_high w h ≡ false) × (ahead h w.acked ≡ n - d.acked) × Sends (acked w h) next
acknowledges {A = A} h n w d next few reached sends move is =
    let facts : Acks w d n h = acks w d n h reached sends ((kept_reached d reached).stated n move.0) move.1 is few in
    (not_high w d n h facts, facts.exact, took w d next n h facts is (ap (λ (e : Direction A). e.put) move.2) (ap (λ (e : Direction A). e.acked) move.2))

-- a resumption, where the count is what was handled
pub resumption : {A : Type 0} (h : ℕ) (w : Waiting A) (d next : Direction A) → length w.queue ≤ 10000 → Reached d → Sends w d → Moves Resume d next → h ≡ length d.got % 2 ^ 32 →
    (is_too_high w h ≡ false) × (resent w h ≡ next.way) × Sends (acked w h) next
resumption {A = A} h w d next few reached sends move is =
    let facts : Acks w d (length d.got) h = acks w d (length d.got) h reached sends (omega arith) (kept_reached d reached).acked is few in
    let way : next.way ≡ drop (length d.got) d.put = ap (λ (e : Direction A). e.way) move in (
      not_high w d (length d.got) h facts,
      ap (λ k. drop k w.queue) facts.exact ∙ facts.left ∙ sym way,
      took w d next (length d.got) h facts is (ap (λ (e : Direction A). e.put) move) (ap (λ (e : Direction A). e.acked) move),
    )
