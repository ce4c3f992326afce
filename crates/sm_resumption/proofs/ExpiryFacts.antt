-- Ending the sessions that expired, one after the other.
use Rattle.std.proofs.Common.{◌≡◌, ◌≢◌, ℕ, true, not, List, Option, Some, None, refl, sym, ap, ◌∙◌, inl, inr}
use Rattle.std.specs.List.{filter, find}
use Rattle.std.proofs.lemmas.Bool.{cases_eq, false≢true}
use Rattle.std.proofs.lemmas.Option.{none-some, same_Some}
use Rattle.sm_acks.specs.Queues.{PoolView, stanzas_of}
use Rattle.sm_resumption.proofs.RowFacts.{filter_none_found, filter_without, find_none_at, row_of_without_other}
use Rattle.sm_resumption.proofs.TableFacts.{from_without}
use Rattle.sm_resumption.specs.Housed.{IsGone}
use Rattle.sm_resumption.specs.Moves.{DropsExpired, is_expired}
use Rattle.sm_resumption.specs.Rows.{IsTable, row_of, without}
use Rattle.sm_resumption.specs.declared.session.Row.{Row}

-- some of the sessions that expired have ended
pub record Expiring (now : ℕ) (first rows : List Row) (old pool : PoolView) : Type 0 where
  pub stay : filter (λ r. not (is_expired now r)) rows ≡ filter (λ r. not (is_expired now r)) first
  pub among : (n : ℕ) (r : Row) → row_of n rows ≡ Some r → row_of n first ≡ Some r
  pub gone : (n : ℕ) (r : Row) → row_of n first ≡ Some r → is_expired now r ≡ true → row_of n rows ≡ None → stanzas_of r.end.queue pool ≡ None
  pub others : (queue : ℕ) → ((n : ℕ) (r : Row) → row_of n first ≡ Some r → is_expired now r ≡ true → queue ≢ r.end.queue) → stanzas_of queue pool ≡ stanzas_of queue old

pub expiring_begins : (now : ℕ) (rows : List Row) (pool : PoolView) → Expiring now rows rows pool pool
expiring_begins now rows pool =
    record { stay = refl; among = λ n r is. is; gone = λ n r is expired none. absurd (none-some r (sym none ∙ is)); others = λ queue apart. refl }

-- one session more
pub expiring_more : (now n next : ℕ) (r : Row) (first rows : List Row) (old pool after : PoolView) → IsTable rows next → row_of n rows ≡ Some r → is_expired now r ≡ true → IsGone r.end.queue pool after →
    Expiring now first rows old pool → Expiring now first (without n rows) old after
expiring_more now n next r first rows old pool after table is expired drops so_far =
    record { stay = stay; among = λ m s found. so_far.among m s (from_without m n s rows found).1; gone = gone; others = others }
  where
    stay : filter (λ s. not (is_expired now s)) (without n rows) ≡ filter (λ s. not (is_expired now s)) first
    stay = filter_without next 1 n (λ s. not (is_expired now s)) r rows table.ascending is (ap not expired) ∙ so_far.stay

    dropped : (queue : ℕ) → stanzas_of queue pool ≡ None → stanzas_of queue after ≡ None
    dropped queue none =
        elim (cases_eq queue r.end.queue) [
          | inl same ↦ ap (λ q. stanzas_of q after) same ∙ drops.gone
          | inr other ↦ drops.others queue other ∙ none
        ]

    gone : (m : ℕ) (s : Row) → row_of m first ≡ Some s → is_expired now s ≡ true → row_of m (without n rows) ≡ None → stanzas_of s.end.queue after ≡ None
    gone m s found was none =
        elim (cases_eq m n) [
          | inl same ↦
              let one : r ≡ s = same_Some r s (sym (so_far.among n r is) ∙ ap (λ k. row_of k first) (sym same) ∙ found) in
              ap (λ (t : Row). stanzas_of t.end.queue after) (sym one) ∙ drops.gone
          | inr other ↦ dropped s.end.queue (so_far.gone m s found was (sym (row_of_without_other m n rows other) ∙ none))
        ]

    others : (queue : ℕ) → ((m : ℕ) (s : Row) → row_of m first ≡ Some s → is_expired now s ≡ true → queue ≢ s.end.queue) → stanzas_of queue after ≡ stanzas_of queue old
    others queue apart = drops.others queue (apart n r (so_far.among n r is) expired) ∙ so_far.others queue apart

-- all of them
pub expiring_ends : (now : ℕ) (first rows : List Row) (old pool : PoolView) → find (is_expired now) rows ≡ None → Expiring now first rows old pool →
    (rows ≡ filter (λ r. not (is_expired now r)) first) × DropsExpired now first old pool
expiring_ends now first rows old pool none so_far =
    (sym (filter_none_found (is_expired now) rows none) ∙ so_far.stay, record { gone = gone; others = so_far.others })
  where
    absent : (n : ℕ) (r : Row) → row_of n first ≡ Some r → is_expired now r ≡ true → (o : Option Row) → row_of n rows ≡ o → o ≡ None
    absent n r found expired None is = refl
    absent n r found expired (Some s) is =
        let same : s ≡ r = same_Some s r (sym (so_far.among n s is) ∙ found) in
        absurd (false≢true (sym (find_none_at (is_expired now) n s rows none is) ∙ ap (is_expired now) same ∙ expired))

    gone : (n : ℕ) (r : Row) → row_of n first ≡ Some r → is_expired now r ≡ true → stanzas_of r.end.queue pool ≡ None
    gone n r found expired = so_far.gone n r found expired (absent n r found expired (row_of n rows) refl)
