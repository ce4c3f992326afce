-- What is ready for the next session stays ready.
use Rattle.std.proofs.Common.{◌≡◌, ◌≢◌, ℕ, ◌+◌, ◌-◌, ◌^◌, ◌<◌, ◌≤◌, Bool, true, false, not, List, [], ◌∷◌, ◌==◌, Option, Some, None, Result, Ok, Err, refl, sym, ap, subst, ◌∙◌, arith, inl, inr, OnOk, OnErr, is_ok}
use Rattle.std.proofs.lemmas.Bool.{cases_Bool, false≢true}
use Rattle.std.specs.List.{filter, find}
use Rattle.sm_acks.specs.declared.end.TooHigh.{TooHigh as TooHighCount}
use Rattle.sm_live.specs.Kept.{IsReservationIn, IsReserved}
use Rattle.sm_live.specs.declared.reservation.Reservation.{Reservation}
use Rattle.sm_acks.specs.Queues.{PoolView, stanzas_of}
use Rattle.sm_resumption.proofs.HousedFacts.{KeepsQueue, queue_is}
use Rattle.sm_resumption.proofs.ResumeFacts.{ack_err, ack_ok, free_acknowledged, leaves_of}
use Rattle.sm_resumption.proofs.RowFacts.{KeepsNumber, found_by_number, row_of_rest}
use Rattle.sm_resumption.proofs.TableFacts.{FromWith, from_with, from_without}
use Rattle.sm_resumption.specs.Changes.{ChangesRow}
use Rattle.sm_resumption.specs.Housed.{Drops, IsFree, IsHoused, IsSame}
use Rattle.sm_resumption.specs.Moves.{DropsExpired, Joins, PoolAcknowledged, PoolResumed, ack_answer, acknowledged, is_expired, is_too_high, lost, parked, resume_answer, rows_parked, rows_resumed}
use Rattle.sm_resumption.specs.Rows.{IsTable, RisesTo, Table, row_of, with_row, without}
use Rattle.sm_resumption.specs.declared.answers.ResumeFault.{ResumeFault}
use Rattle.sm_resumption.specs.declared.answers.ResumeOk.{ResumeOk}
use Rattle.sm_resumption.specs.declared.session.Row.{Row}

-- a reservation stays where the table and the pool keep what it needs
pub reservation_stays : (reservation : Option Reservation) (table after : Table) (old new : PoolView) → table.spare ≤ after.spare → after.reservation ≡ table.reservation → after.next ≡ table.next →
    ((q : ℕ) → IsFree q table.rows old → IsFree q after.rows new) → IsReserved table old reservation → IsReserved after new reservation
reservation_stays None table after old new room account next free reserved = tt
reservation_stays (Some s) table after old new room account next free reserved =
    let enough = reserved.room in
    record { room = omega arith; account = account ∙ reserved.account; number = rw next reserved.number; free = free s.queue reserved.free }

-- the seat that is there
pub reservation_there : (s : Reservation) (reservation : Option Reservation) (table : Table) (pool : PoolView) → reservation ≡ Some s → IsReserved table pool reservation → IsReservationIn table pool s
reservation_there s reservation table pool is reserved = subst (IsReserved table pool) is reserved

-- ---- a free queue stays free

pub free_same : (queue : ℕ) (rows : List Row) (old new : PoolView) → stanzas_of queue new ≡ stanzas_of queue old → IsFree queue rows old → IsFree queue rows new
free_same queue rows old new same free = record { empty = same ∙ free.empty; unused = free.unused }

-- one row changed, but not its queue
pub free_with : (queue n : ℕ) (f : Row → Row) (rows : List Row) (old new : PoolView) → KeepsNumber f → KeepsQueue f → stanzas_of queue new ≡ stanzas_of queue old → IsFree queue rows old → IsFree queue (with_row n f rows) new
free_with queue n f rows old new number keeps same free =
    record {
      empty = same ∙ free.empty;
      unused = λ m r is has.
          (let from : FromWith m n f r rows = from_with m n f r rows number is in
          free.unused m from.was from.found (queue_is m n f r rows keeps from ∙ has));
    }

-- what the invariant says of the sessions after one was written
pub written_kept : (n : ℕ) (f : Row → Row) (table after : Table) (pool : PoolView) (reservation : Option Reservation) → KeepsNumber f → KeepsQueue f → ChangesRow n f table after → IsHoused table.rows pool → IsReserved table pool reservation →
    IsHoused after.rows pool × IsReserved after pool reservation
written_kept n f table after pool reservation number keeps change housed reserved = (
  change.housed pool housed,
  reservation_stays reservation table after pool pool change.spare change.reservation change.next
      (λ q free. subst (λ rows. IsFree q rows pool) (sym change.rows) (free_with q n f table.rows pool pool number keeps refl free)) reserved,
)

pub tried_kept : {T E : Type 0} (t : Result T E) (n : ℕ) (f : Row → Row) (table after : Table) (pool : PoolView) (reservation : Option Reservation) → KeepsNumber f → KeepsQueue f → OnOk t (ChangesRow n f table after) → OnErr t (after ≡ table) → IsHoused table.rows pool →
    IsReserved table pool reservation → IsHoused after.rows pool × IsReserved after pool reservation
tried_kept (Ok x) n f table after pool reservation number keeps change same housed reserved = written_kept n f table after pool reservation number keeps change housed reserved
tried_kept (Err e) n f table after pool reservation number keeps change same housed reserved =
    subst (λ (t : Table). IsHoused t.rows pool × IsReserved t pool reservation) (sym same) (housed, reserved)

pub free_joined : (queue n : ℕ) (stanza : List ℕ) (x : Row) (rows : List Row) (old new : PoolView) → row_of n rows ≡ Some x → Joins stanza x old new → IsFree queue rows old → IsFree queue rows new
free_joined queue n stanza x rows old new found joins free = free_same queue rows old new (joins.others queue (λ same. free.unused n x found (sym same))) free

-- a session ended, where one did
pub free_without : (queue n : ℕ) (o : Option Row) (rows : List Row) (old new : PoolView) → row_of n rows ≡ o → Drops o old new → IsFree queue rows old → IsFree queue (without n rows) new
free_without queue n None rows old new found same free = record { empty = same.each queue ∙ free.empty; unused = λ m r is. free.unused m r (from_without m n r rows is).1 }
free_without queue n (Some x) rows old new found gone free =
    record { empty = gone.others queue (λ same. free.unused n x found (sym same)) ∙ free.empty; unused = λ m r is. free.unused m r (from_without m n r rows is).1 }

-- a count was taken or refused
pub free_tried : (t : Result ℕ TooHighCount) (queue h n : ℕ) (x : Row) (rows after : List Row) (old new : PoolView) → row_of n rows ≡ Some x → t ≡ ack_answer h x old → OnOk t (after ≡ with_row n (acknowledged h) rows) → OnErr t (after ≡ rows) →
    PoolAcknowledged h x old new → IsFree queue rows old → IsFree queue after new
free_tried (Ok k) queue h n x rows after old new found is ok err change free =
    subst (λ rs. IsFree queue rs new) (sym ok) (free_acknowledged h n queue x rows old new found free (leaves_of h x old new (ack_ok h k x old is) change))
free_tried (Err e) queue h n x rows after old new found is ok err change free =
    let high : is_too_high h x old ≡ true = ack_err h e x old is in
    let same : IsSame old new = rw high at change in
    subst (λ rs. IsFree queue rs new) (sym err) (free_same queue rows old new (same.each queue) free)

-- a connection was lost
pub free_lost : (queue now next : ℕ) (p : Row → Bool) (rows : List Row) (old new : PoolView) → IsTable rows next → Drops (lost (find p rows)) old new → IsFree queue rows old → IsFree queue (rows_parked now (find p rows) rows) new
free_lost queue now next p rows old new table drops free = go (find p rows) refl drops
  where
    go : (o : Option Row) → find p rows ≡ o → Drops (lost o) old new → IsFree queue (rows_parked now o rows) new
    go None is same = free_same queue rows old new (same.each queue) free
    go (Some r) is gone =
        elim (cases_Bool r.shown.resumable) [
          | inl can ↦
              let same : IsSame old new = rw can at gone in
              rw can (free_with queue r.shown.number (parked now) rows old new (record { same = λ t. refl }) (record { same = λ t. refl }) (same.each queue) free)
          | inr cannot ↦ rw cannot (free_without queue r.shown.number (Some r) rows old new (found_by_number next 1 p r rows table.ascending is) (rw cannot at gone) free)
        ]

-- a resumption of a session that was found is refused where the count is too high alone
pub high_refused : (h : ℕ) (t : Result ResumeOk ResumeFault) (o : Option Row) (r : Row) (pool : PoolView) → t ≡ resume_answer h o pool → is_ok t ≡ false → o ≡ Some r → is_too_high h r pool ≡ true
high_refused h t o r pool answer refused found =
    elim (cases_Bool (is_too_high h r pool)) [
      | inl high ↦ high
      | inr low ↦ absurd (false≢true (sym refused ∙ ap is_ok (answer ∙ ap (λ k. resume_answer h k pool) found) ∙ taken low))
    ]
  where
    taken : is_too_high h r pool ≡ false → is_ok (resume_answer h (Some r) pool) ≡ true
    taken low = rw low refl

-- a resumption was refused
pub free_refused : (h conn other queue next : ℕ) (p : Row → Bool) (rows : List Row) (old new : PoolView) → IsTable rows next → PoolResumed h other (find p rows) old new →
    ((r : Row) → find p rows ≡ Some r → is_too_high h r old ≡ true) → IsFree queue rows old → IsFree queue (rows_resumed h conn other (find p rows) old rows) new
free_refused h conn other queue next p rows old new table change high free = go (find p rows) refl change
  where
    go : (o : Option Row) → find p rows ≡ o → PoolResumed h other o old new → IsFree queue (rows_resumed h conn other o old rows) new
    go None is same = free_same queue rows old new (same.each queue) free
    go (Some r) is gone =
        let too_high : is_too_high h r old ≡ true = high r is in
        rw too_high (free_without queue r.shown.number (Some r) rows old new (found_by_number next 1 p r rows table.ascending is) (rw too_high at gone) free)

-- some sessions expired
from_filter : (next low m : ℕ) (p : Row → Bool) (r : Row) (rows : List Row) → RisesTo next low rows → row_of m (filter p rows) ≡ Some r → row_of m rows ≡ Some r
from_filter next low m p r [] rise is = is
from_filter next low m p r (s ∷ rows) rise is =
    elim (cases_Bool (p s)) [
      | inl passed ↦
          elim (cases_Bool (s.shown.number == m)) [
            | inl here ↦ rw here (rw here at (rw passed at is))
            | inr other ↦ rw other (from_filter next (s.shown.number + 1) m p r rows rise.1 (rw other at (rw passed at is)))
          ]
      | inr failed ↦ row_of_rest next low m r s rows rise (from_filter next (s.shown.number + 1) m p r rows rise.1 (rw failed at is))
    ]

pub free_expired : (queue now next : ℕ) (rows : List Row) (old new : PoolView) → IsTable rows next → DropsExpired now rows old new → IsFree queue rows old → IsFree queue (filter (λ r. not (is_expired now r)) rows) new
free_expired queue now next rows old new table drops free =
    record {
      empty = drops.others queue (λ n r is expired same. free.unused n r is (sym same)) ∙ free.empty;
      unused = λ m r is. free.unused m r (from_filter next 1 m (λ s. not (is_expired now s)) r rows table.ascending is);
    }

-- a number that is not the greatest
pub number_low : (n old new : ℕ) → n ≡ old → new ≡ old → n ≢ 18446744073709551615 → old < 2 ^ 64 → new < 2 ^ 64 - 1
number_low n old new same kept other fits = omega arith
