-- What a change of the rows and of the pool leaves of it: each session's stanzas wait in a queue of its own.
use Rattle.std.proofs.Common.{None, ◌≡◌, ◌≢◌, ℕ, ◌<◌, ◌≤◌, List, [], ◌∷◌, ◌++◌, Option, Some, Result, Ok, Err, length, drop, refl, sym, ap, subst, ◌∙◌, arith, inl, inr}
use Rattle.std.specs.Prelude.{IsSome, MatchBool, Bool, true, false}
use Rattle.std.proofs.lemmas.Bool.{cases_eq, false≢true}
use Rattle.std.proofs.lemmas.List.{length-drop, length_push}
use Rattle.std.proofs.lemmas.Option.{none-some, same_Some}
use Rattle.std.specs.Option.{unwrap_or}
use Rattle.sm_acks.specs.Counters.{ahead}
use Rattle.sm_acks.specs.declared.end.TheConstants.{MOST_UNACKNOWLEDGED}
use Rattle.sm_acks.specs.Queues.{Lives, PoolView, list_of, stanzas_of}
use Rattle.sm_resumption.proofs.RowFacts.{KeepsNumber}
use Rattle.sm_resumption.proofs.TableFacts.{FromPush, FromWith, from_push, from_with, from_without}
use Rattle.sm_resumption.proofs.StoredFacts.{Tried}
use Rattle.sm_resumption.specs.Stored.{collected}
use Rattle.sm_resumption.specs.Housed.{IsFree, IsGone, IsHoused, IsSame}
use Rattle.sm_resumption.specs.Moves.{HandsOver, Joins, Leaves, PoolAcknowledged, acknowledged, attached, fresh_row, is_too_high}
use Rattle.sm_resumption.specs.Rows.{IsTable, row_of, with_row, without}
use Rattle.sm_resumption.specs.declared.session.Row.{Row}

-- what is said of a queue holds of one with the same stanzas
pub lives_as : (p q : ℕ) (old new : PoolView) → stanzas_of q new ≡ stanzas_of p old → Lives p old → Lives q new
lives_as p q old new same lives = let P : Option (List (List ℕ)) → Type 0 = λ o. IsSome o in subst P (sym same) lives

pub few_as : (p q : ℕ) (old new : PoolView) → stanzas_of q new ≡ stanzas_of p old → length (list_of p old) ≤ MOST_UNACKNOWLEDGED → length (list_of q new) ≤ 10000
few_as p q old new same few =
    let P : Option (List (List ℕ)) → Type 0 = λ o. length (unwrap_or o []) ≤ MOST_UNACKNOWLEDGED in subst P (sym same) few

pub housed_same : (rows : List Row) (old new : PoolView) → IsHoused rows old → IsSame old new → IsHoused rows new
housed_same rows old new housed same =
    record {
      lives = λ n r is. lives_as r.end.queue r.end.queue old new (same.each r.end.queue) (housed.lives n r is);
      few = λ n r is. few_as r.end.queue r.end.queue old new (same.each r.end.queue) (housed.few n r is);
      apart = housed.apart;
    }

pub housed_without : (n : ℕ) (r : Row) (rows : List Row) (old new : PoolView) → row_of n rows ≡ Some r → IsGone r.end.queue old new → IsHoused rows old → IsHoused (without n rows) new
housed_without n r rows old new is gone housed = record { lives = lives; few = few; apart = apart }
  where
    kept : (m : ℕ) (s : Row) → row_of m (without n rows) ≡ Some s → stanzas_of s.end.queue new ≡ stanzas_of s.end.queue old
    kept m s found = let from = from_without m n s rows found in gone.others s.end.queue (housed.apart m n s r from.1 is from.0)

    lives : (m : ℕ) (s : Row) → row_of m (without n rows) ≡ Some s → Lives s.end.queue new
    lives m s found = lives_as s.end.queue s.end.queue old new (kept m s found) (housed.lives m s (from_without m n s rows found).1)

    few : (m : ℕ) (s : Row) → row_of m (without n rows) ≡ Some s → length (list_of s.end.queue new) ≤ MOST_UNACKNOWLEDGED
    few m s found = few_as s.end.queue s.end.queue old new (kept m s found) (housed.few m s (from_without m n s rows found).1)

    apart : (l m : ℕ) (s t : Row) → row_of l (without n rows) ≡ Some s → row_of m (without n rows) ≡ Some t → l ≢ m → s.end.queue ≢ t.end.queue
    apart l m s t found also other = housed.apart l m s t (from_without l n s rows found).1 (from_without m n t rows also).1 other

-- a change that keeps the queue
pub record KeepsQueue (f : Row → Row) : Type 0 where
  pub same : (r : Row) → (f r).end.queue ≡ r.end.queue

pub queue_is : (m n : ℕ) (f : Row → Row) (s : Row) (rows : List Row) → KeepsQueue f → (from : FromWith m n f s rows) → from.was.end.queue ≡ s.end.queue
queue_is m n f s rows keeps from =
    elim (cases_eq m n) [
      | inl same ↦ sym (keeps.same from.was) ∙ ap (λ (r : Row). r.end.queue) (from.changed same)
      | inr other ↦ ap (λ (r : Row). r.end.queue) (from.same other)
    ]

pub housed_with : (n : ℕ) (f : Row → Row) (rows : List Row) (pool : PoolView) → KeepsNumber f → KeepsQueue f → IsHoused rows pool → IsHoused (with_row n f rows) pool
housed_with n f rows pool number keeps housed = record { lives = lives; few = few; apart = apart }
  where
    lives : (m : ℕ) (s : Row) → row_of m (with_row n f rows) ≡ Some s → Lives s.end.queue pool
    lives m s found =
        let from : FromWith m n f s rows = from_with m n f s rows number found in
        let P : ℕ → Type 0 = λ q. Lives q pool in subst P (queue_is m n f s rows keeps from) (housed.lives m from.was from.found)

    few : (m : ℕ) (s : Row) → row_of m (with_row n f rows) ≡ Some s → length (list_of s.end.queue pool) ≤ MOST_UNACKNOWLEDGED
    few m s found =
        let from : FromWith m n f s rows = from_with m n f s rows number found in
        let P : ℕ → Type 0 = λ q. length (list_of q pool) ≤ MOST_UNACKNOWLEDGED in subst P (queue_is m n f s rows keeps from) (housed.few m from.was from.found)

    apart : (l m : ℕ) (s t : Row) → row_of l (with_row n f rows) ≡ Some s → row_of m (with_row n f rows) ≡ Some t → l ≢ m → s.end.queue ≢ t.end.queue
    apart l m s t found also other same =
        let from : FromWith l n f s rows = from_with l n f s rows number found in
        let with_ : FromWith m n f t rows = from_with m n f t rows number also in
        housed.apart l m from.was with_.was from.found with_.found other (queue_is l n f s rows keeps from ∙ same ∙ sym (queue_is m n f t rows keeps with_))

-- a session more, on a queue that no session had
pub housed_push : (next account conn queue : ℕ) (resource : List ℕ) (rows : List Row) (pool : PoolView) → IsTable rows next → IsFree queue rows pool → IsHoused rows pool →
    IsHoused (rows ++ fresh_row next account resource conn queue ∷ []) pool
housed_push next account conn queue resource rows pool table free housed = record { lives = lives; few = few; apart = apart }
  where
    lives : (m : ℕ) (s : Row) → row_of m (rows ++ fresh_row next account resource conn queue ∷ []) ≡ Some s → Lives s.end.queue pool
    lives m s found =
        let from : FromPush m next (fresh_row next account resource conn queue) s rows = from_push m next (fresh_row next account resource conn queue) s rows table refl found in
        elim (cases_eq m next) [
          | inl new ↦
              let P : ℕ → Type 0 = λ q. Lives q pool in
              let Q : Option (List (List ℕ)) → Type 0 = λ o. IsSome o in
              subst P (ap (λ (t : Row). t.end.queue) (from.new new)) (subst Q (sym free.empty) refl)
          | inr old ↦ housed.lives m s (from.old old)
        ]

    few : (m : ℕ) (s : Row) → row_of m (rows ++ fresh_row next account resource conn queue ∷ []) ≡ Some s → length (list_of s.end.queue pool) ≤ MOST_UNACKNOWLEDGED
    few m s found =
        let from : FromPush m next (fresh_row next account resource conn queue) s rows = from_push m next (fresh_row next account resource conn queue) s rows table refl found in
        elim (cases_eq m next) [
          | inl new ↦
              let P : ℕ → Type 0 = λ q. length (list_of q pool) ≤ MOST_UNACKNOWLEDGED in
              let Q : Option (List (List ℕ)) → Type 0 = λ o. length (unwrap_or o []) ≤ MOST_UNACKNOWLEDGED in
              subst P (ap (λ (t : Row). t.end.queue) (from.new new)) (subst Q (sym free.empty) (omega arith))
          | inr old ↦ housed.few m s (from.old old)
        ]

    apart : (l m : ℕ) (s t : Row) → row_of l (rows ++ fresh_row next account resource conn queue ∷ []) ≡ Some s → row_of m (rows ++ fresh_row next account resource conn queue ∷ []) ≡ Some t → l ≢ m → s.end.queue ≢ t.end.queue
    apart l m s t found also other same =
        let from : FromPush l next (fresh_row next account resource conn queue) s rows = from_push l next (fresh_row next account resource conn queue) s rows table refl found in
        let with_ : FromPush m next (fresh_row next account resource conn queue) t rows = from_push m next (fresh_row next account resource conn queue) t rows table refl also in
        elim (cases_eq l next) [
          | inl first ↦
              elim (cases_eq m next) [
                | inl second ↦ other (first ∙ sym second)
                | inr two ↦ free.unused m t (with_.old two) (sym same ∙ sym (ap (λ (u : Row). u.end.queue) (from.new first)))
              ]
          | inr one ↦
              elim (cases_eq m next) [
                | inl second ↦ free.unused l s (from.old one) (same ∙ sym (ap (λ (u : Row). u.end.queue) (with_.new second)))
                | inr two ↦ housed.apart l m s t (from.old one) (with_.old two) other same
              ]
        ]

-- a queue that changes, and stays as short as it must
pub housed_changed : (n : ℕ) (x : Row) (rows : List Row) (old new : PoolView) → row_of n rows ≡ Some x → Lives x.end.queue new → length (list_of x.end.queue new) ≤ MOST_UNACKNOWLEDGED →
    ((other : ℕ) → other ≢ x.end.queue → stanzas_of other new ≡ stanzas_of other old) → IsHoused rows old → IsHoused rows new
housed_changed n x rows old new is live short others housed = record { lives = lives; few = few; apart = housed.apart }
  where
    kept : (m : ℕ) (s : Row) → row_of m rows ≡ Some s → m ≢ n → stanzas_of s.end.queue new ≡ stanzas_of s.end.queue old
    kept m s found other = others s.end.queue (housed.apart m n s x found is other)

    queue_same : (m : ℕ) (s : Row) → row_of m rows ≡ Some s → m ≡ n → x.end.queue ≡ s.end.queue
    queue_same m s found same = ap (λ (r : Row). r.end.queue) (same_Some x s (sym is ∙ ap (λ k. row_of k rows) (sym same) ∙ found))

    lives : (m : ℕ) (s : Row) → row_of m rows ≡ Some s → Lives s.end.queue new
    lives m s found =
        elim (cases_eq m n) [
          | inl same ↦ let P : ℕ → Type 0 = λ q. Lives q new in subst P (queue_same m s found same) live
          | inr other ↦ lives_as s.end.queue s.end.queue old new (kept m s found other) (housed.lives m s found)
        ]

    few : (m : ℕ) (s : Row) → row_of m rows ≡ Some s → length (list_of s.end.queue new) ≤ MOST_UNACKNOWLEDGED
    few m s found =
        elim (cases_eq m n) [
          | inl same ↦ let P : ℕ → Type 0 = λ q. length (list_of q new) ≤ MOST_UNACKNOWLEDGED in subst P (queue_same m s found same) short
          | inr other ↦ few_as s.end.queue s.end.queue old new (kept m s found other) (housed.few m s found)
        ]

-- what holds of a queue with these stanzas
pub lives_with : (q : ℕ) (stanzas : List (List ℕ)) (pool : PoolView) → stanzas_of q pool ≡ Some stanzas → Lives q pool
lives_with q stanzas pool is = let P : Option (List (List ℕ)) → Type 0 = λ o. IsSome o in subst P (sym is) refl

pub few_with : (q : ℕ) (stanzas : List (List ℕ)) (pool : PoolView) → stanzas_of q pool ≡ Some stanzas → length stanzas ≤ MOST_UNACKNOWLEDGED → length (list_of q pool) ≤ MOST_UNACKNOWLEDGED
few_with q stanzas pool is few = let P : Option (List (List ℕ)) → Type 0 = λ o. length (unwrap_or o []) ≤ MOST_UNACKNOWLEDGED in subst P (sym is) few

pub housed_acknowledged : (h n : ℕ) (x : Row) (rows : List Row) (old new : PoolView) → row_of n rows ≡ Some x → PoolAcknowledged h x old new → IsHoused rows old → IsHoused rows new
housed_acknowledged h n x rows old new is change housed = go (is_too_high h x old) change
  where
    go : (b : Bool) → MatchBool b (IsSame old new) (Leaves (ahead h x.end.acked) x old new) → IsHoused rows new
    go true same = housed_same rows old new housed same
    go false leaves =
        let short : length (drop (ahead h x.end.acked) (list_of x.end.queue old)) ≤ MOST_UNACKNOWLEDGED =
        (let size = length-drop (ahead h x.end.acked) (list_of x.end.queue old) in let before = housed.few n x is in omega arith) in
        housed_changed n x rows old new is (lives_with x.end.queue (drop (ahead h x.end.acked) (list_of x.end.queue old)) new leaves.rest)
        (few_with x.end.queue (drop (ahead h x.end.acked) (list_of x.end.queue old)) new leaves.rest short) leaves.others housed

pub housed_joined : (n : ℕ) (stanza : List ℕ) (x : Row) (rows : List Row) (old new : PoolView) → row_of n rows ≡ Some x → length (list_of x.end.queue old) < MOST_UNACKNOWLEDGED →
    Joins stanza x old new → IsHoused rows old → IsHoused rows new
housed_joined n stanza x rows old new is room joins housed =
    let size = length_push (list_of x.end.queue old) stanza in
    housed_changed n x rows old new is (lives_with x.end.queue (list_of x.end.queue old ++ stanza ∷ []) new joins.all)
    (few_with x.end.queue (list_of x.end.queue old ++ stanza ∷ []) new joins.all (omega arith)) joins.others housed

-- a session that gets another queue
pub housed_attached : (n conn queue : ℕ) (x : Row) (rows : List Row) (old new : PoolView) → row_of n rows ≡ Some x → IsFree queue rows old → HandsOver 0 queue x old new → IsHoused rows old →
    IsHoused (with_row n (attached conn queue) rows) new
housed_attached n conn queue x rows old new is free hands housed = record { lives = lives; few = few; apart = apart }
  where
    keeps : KeepsNumber (attached conn queue)
    keeps = record { same = λ r. refl }

    from : (m : ℕ) (s : Row) → row_of m (with_row n (attached conn queue) rows) ≡ Some s → FromWith m n (attached conn queue) s rows
    from m s found = from_with m n (attached conn queue) s rows keeps found

    moved : (m : ℕ) (s : Row) (found : row_of m (with_row n (attached conn queue) rows) ≡ Some s) → m ≡ n → queue ≡ s.end.queue
    moved m s found same = ap (λ (r : Row). r.end.queue) ((from m s found).changed same)

    still : (m : ℕ) (s : Row) (found : row_of m (with_row n (attached conn queue) rows) ≡ Some s) → m ≢ n → row_of m rows ≡ Some s
    still m s found other = (from m s found).found ∙ ap Some ((from m s found).same other)

    kept : (m : ℕ) (s : Row) (found : row_of m (with_row n (attached conn queue) rows) ≡ Some s) → m ≢ n → stanzas_of s.end.queue new ≡ stanzas_of s.end.queue old
    kept m s found other =
        hands.others s.end.queue (free.unused m s (still m s found other)) (housed.apart m n s x (still m s found other) is other)

    lives : (m : ℕ) (s : Row) → row_of m (with_row n (attached conn queue) rows) ≡ Some s → Lives s.end.queue new
    lives m s found =
        elim (cases_eq m n) [
          | inl same ↦ let P : ℕ → Type 0 = λ q. Lives q new in subst P (moved m s found same) (lives_with queue (list_of x.end.queue old) new hands.rest)
          | inr other ↦ lives_as s.end.queue s.end.queue old new (kept m s found other) (housed.lives m s (still m s found other))
        ]

    few : (m : ℕ) (s : Row) → row_of m (with_row n (attached conn queue) rows) ≡ Some s → length (list_of s.end.queue new) ≤ MOST_UNACKNOWLEDGED
    few m s found =
        elim (cases_eq m n) [
          | inl same ↦
              let P : ℕ → Type 0 = λ q. length (list_of q new) ≤ MOST_UNACKNOWLEDGED in
              subst P (moved m s found same) (few_with queue (list_of x.end.queue old) new hands.rest (housed.few n x is))
          | inr other ↦ few_as s.end.queue s.end.queue old new (kept m s found other) (housed.few m s (still m s found other))
        ]

    apart : (l m : ℕ) (s t : Row) → row_of l (with_row n (attached conn queue) rows) ≡ Some s → row_of m (with_row n (attached conn queue) rows) ≡ Some t → l ≢ m → s.end.queue ≢ t.end.queue
    apart l m s t found also other same =
        elim (cases_eq l n) [
          | inl first ↦
              elim (cases_eq m n) [
                | inl second ↦ other (first ∙ sym second)
                | inr two ↦ free.unused m t (still m t also two) (sym same ∙ sym (moved l s found first))
              ]
          | inr one ↦
              elim (cases_eq m n) [
                | inl second ↦ free.unused l s (still l s found one) (same ∙ sym (moved m t also second))
                | inr two ↦ housed.apart l m s t (still l s found one) (still m t also two) other same
              ]
        ]

-- the peer's count, taken or refused
pub housed_tried : {T E : Type 0} (result : Result T E) (h n next : ℕ) (x : Row) (get : ℕ → Option Row) (numbers : List ℕ) (rows : List Row) (old new : PoolView) →
    Tried result n next (acknowledged h) x get numbers rows → PoolAcknowledged h x old new → IsHoused rows old → IsHoused (collected get numbers) new
housed_tried (Ok v) h n next x get numbers rows old new tried change housed =
    rw tried.ok
    (housed_with n (acknowledged h) rows new (record { same = λ r. refl }) (record { same = λ r. refl }) (housed_acknowledged h n x rows old new tried.found change housed))
housed_tried (Err e) h n next x get numbers rows old new tried change housed =
    rw tried.err (housed_acknowledged h n x rows old new tried.found change housed)

-- before the first session
pub housed_nobody : (rows : List Row) (pool : PoolView) → rows ≡ [] → IsHoused rows pool
housed_nobody rows pool none = rw none (record { lives = λ n r is. absurd (none-some r is); few = λ n r is. absurd (none-some r is); apart = λ m n r s is also other. absurd (none-some r is) })

-- a queue that was just made is free
pub housed_made : (queue : ℕ) (rows : List Row) (old new : PoolView) → stanzas_of queue old ≡ None → stanzas_of queue new ≡ Some [] →
    ((other : ℕ) → other ≢ queue → stanzas_of other new ≡ stanzas_of other old) → IsHoused rows old → IsHoused rows new × IsFree queue rows new
housed_made queue rows old new fresh empty others housed = (
  record {
    lives = λ n r is. lives_as r.end.queue r.end.queue old new (others r.end.queue (unused n r is)) (housed.lives n r is);
    few = λ n r is. few_as r.end.queue r.end.queue old new (others r.end.queue (unused n r is)) (housed.few n r is);
    apart = housed.apart;
  },
  record { empty = empty; unused = unused },
)
  where
    unused : (n : ℕ) (r : Row) → row_of n rows ≡ Some r → r.end.queue ≢ queue
    unused n r is same =
        let P : Option (List (List ℕ)) → Type 0 = λ o. IsSome o in
        false≢true (subst P (ap (λ q. stanzas_of q old) same ∙ fresh) (housed.lives n r is))
