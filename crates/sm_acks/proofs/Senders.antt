-- The calls of an end as moves of a direction.
use Rattle.std.proofs.Common.{◌≡◌, ℕ, ◌+◌, ◌-◌, ◌%◌, ◌^◌, ◌≤◌, List, [], Some, length, drop, refl, sym, ap, ◌∙◌, arith, length-append, length-drop}
use Rattle.std.proofs.lemmas.List.{drop-drop}
use Rattle.std.specs.Prelude.{unwrap_or}
use Rattle.sm_acks.proofs.Directions.{got_prefix, kept_reached}
use Rattle.sm_acks.specs.Counters.{AckView, ahead}
use Rattle.sm_acks.specs.Delivery.{Direction, IsSender, Reached}
use Rattle.sm_acks.specs.Queues.{list_of, PoolView, stanzas_of}

-- a count that is at most 10,000 above another is that far ahead, modulo 2 ^ 32
pub ahead_exact : (n a : ℕ) → a ≤ n → n - a ≤ 10000 → ahead (n % 2 ^ 32) (a % 2 ^ 32) ≡ n - a
ahead_exact n a above near = omega arith

-- one more, modulo 2 ^ 32
pub counted_more : (n : ℕ) → (n % 2 ^ 32 + 1) % 2 ^ 32 ≡ (n + 1) % 2 ^ 32
counted_more n = omega arith

-- what the sending end finds at a count that the receiving end stated, or could have stated
pub record Acks (end : AckView) (pool : PoolView) (d : Direction (List ℕ)) (n h : ℕ) : Type 0 where
  pub exact : ahead h end.acked ≡ n - d.acked
  pub enough : n - d.acked ≤ length (list_of end.queue pool)
  pub within : n ≤ length d.put
  pub left : drop (n - d.acked) (list_of end.queue pool) ≡ drop n d.put

pub acks : (end : AckView) (pool : PoolView) (d : Direction (List ℕ)) (n h : ℕ) → Reached d → IsSender end pool d → n ≤ length d.got → d.acked ≤ n →
    h ≡ n % 2 ^ 32 → length (list_of end.queue pool) ≤ 10000 → Acks end pool d n h
acks end pool d n h reached sender handled above is few =
    let front = got_prefix d (kept_reached d reached) in
    let put : length d.put ≡ length d.got + length front.0 = ap length front.1 ∙ length-append d.got front.0 in
    let list : list_of end.queue pool ≡ drop d.acked d.put = ap (λ o. unwrap_or o []) sender.queue in
    let size : length (list_of end.queue pool) ≡ length d.put - d.acked = ap length list ∙ length-drop d.acked d.put in
    let near : n - d.acked ≤ 10000 = omega arith in
    let sum : d.acked + (n - d.acked) ≡ n = omega arith in
    record {
      exact = rw (is, sender.count) (ahead_exact n d.acked above near);
      enough = omega arith;
      within = omega arith;
      left = ap (drop (n - d.acked)) list ∙ drop-drop (n - d.acked) d.acked d.put ∙ ap (λ k. drop k d.put) sum;
    }

-- the sending end after it took the count, where k of the oldest stanzas left its queue q
pub sender_acked : (end new_end : AckView) (pool new_pool : PoolView) (d next : Direction (List ℕ)) (n h q k : ℕ) → Acks end pool d n h →
    h ≡ n % 2 ^ 32 → q ≡ end.queue → k ≡ n - d.acked → stanzas_of q new_pool ≡ Some (drop k (list_of q pool)) → new_end.queue ≡ q →
    new_end.acked ≡ h → next.put ≡ d.put → next.acked ≡ n → IsSender new_end new_pool next
sender_acked end new_end pool new_pool d next n h q k facts is same number popped queue count put acked =
    let old : stanzas_of end.queue new_pool ≡ Some (drop k (list_of end.queue pool)) = rw same at popped in
    record {
      count = count ∙ is ∙ ap (λ m. m % 2 ^ 32) (sym acked);
      within = rw (acked, put) facts.within;
      queue = ap (λ m. stanzas_of m new_pool) (queue ∙ same) ∙ old ∙ ap (λ m. Some (drop m (list_of end.queue pool))) number
          ∙ ap Some facts.left ∙ rw (acked, put) refl;
    }
