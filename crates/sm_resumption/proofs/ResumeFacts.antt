-- Which session a previd names.
use Rattle.std.proofs.Common.{◌≡◌, ℕ, ◌<◌, ◌^◌, ◌+◌, ◌-◌, ◌==◌, true, false, List, Option, Some, None, Result, Ok, Err, [], refl, sym, ap, ◌∙◌, arith, inl, inr}
use Rattle.std.specs.Prelude.{IfSome, ◌&&◌}
use Rattle.std.proofs.lemmas.Option.{none-some, same_Some}
use Rattle.std.specs.Option.{option_map, unwrap_or}
use Rattle.std.proofs.lemmas.Bool.Decides.{nat_tests}
use Rattle.std.specs.Str.{bytes_eq}
use Rattle.std.proofs.lemmas.Bool.{cases_Bool}
use Rattle.std.proofs.lemmas.Slice.Eq.{bytes_eq-Decides}
use Rattle.sm_acks.specs.Counters.{ahead}
use Rattle.sm_acks.specs.declared.end.TooHigh.{TooHigh as TooHighCount}
use Rattle.sm_acks.specs.Queues.{PoolView}
use Rattle.sm_resumption.proofs.BindFacts.{and_parts}
use Rattle.sm_resumption.proofs.HousedFacts.{queue_is}
use Rattle.base_lemmas.proofs.HexDigits.{hex16_of_same}
use Rattle.sm_resumption.proofs.RowFacts.{eqb_same, find_no, find_only, number_is, found_by_number, row_of_bounds, row_of_with_same, same_from_eqb, with_row_twice}
use Rattle.sm_resumption.proofs.TableFacts.{FromWith, from_with, lawful_parked, table_with}
use Rattle.sm_resumption.specs.Housed.{IsFree}
use Rattle.sm_resumption.specs.Moves.{HandsOver, Leaves, PoolAcknowledged, PoolResumed, ack_answer, acknowledged, attached, is_resumed_by, is_too_high, number_of, parked, resume_answer, resume_ok, row_resumed, rows_resumed, send_count_of, too_high_of}
use Rattle.sm_resumption.specs.Previds.{previd_of}
use Rattle.sm_resumption.specs.Rows.{IsTable, is_at, row_at, row_of, with_row}
use Rattle.sm_resumption.specs.Laws.{ComesBackWhole}
use Rattle.sm_resumption.specs.declared.answers.ResumeFault.TheVariants.{TooHigh}
use Rattle.sm_resumption.specs.declared.answers.ResumeOk.{ResumeOk}
use Rattle.sm_resumption.specs.declared.session.Row.{Row}

-- what the test of a previd says
pub record Resumes (previd : List ℕ) (account : ℕ) (r : Row) : Type 0 where
  pub named : previd ≡ previd_of r.shown.number
  pub account_is : r.shown.account ≡ account
  pub can : r.shown.resumable ≡ true

pub resumes : (previd : List ℕ) (account : ℕ) (r : Row) → is_resumed_by previd account r ≡ true → Resumes previd account r
resumes previd account r is =
    let outer = and_parts (bytes_eq (previd_of r.shown.number) previd && (r.shown.account == account)) r.shown.resumable is in
    let inner = and_parts (bytes_eq (previd_of r.shown.number) previd) (r.shown.account == account) outer.0 in
    record { named = sym ((bytes_eq-Decides (previd_of r.shown.number) previd).0 inner.0); account_is = same_from_eqb r.shown.account account inner.1; can = outer.1 }

pub resumes_by : (previd : List ℕ) (account : ℕ) (r : Row) → Resumes previd account r → is_resumed_by previd account r ≡ true
resumes_by previd account r is =
    let equal : bytes_eq (previd_of r.shown.number) previd ≡ true = (bytes_eq-Decides (previd_of r.shown.number) previd).1 (sym is.named) in
    let same : (r.shown.account == account) ≡ true = rw is.account_is (eqb_same account) in
    rw (equal, same) is.can

-- the session with the number, where it is the account's and can be resumed
pub resumed_row : (n account next : ℕ) (previd : List ℕ) (r : Row) (rows : List Row) → IsTable rows next → n < 2 ^ 64 → previd ≡ previd_of n → row_of n rows ≡ Some r →
    r.shown.account ≡ account → r.shown.resumable ≡ true → row_resumed previd account rows ≡ Some r
resumed_row n account next previd r rows table low named is mine can =
    find_only next 1 (is_resumed_by previd account) n r rows table.ascending is
    (resumes_by previd account r (record { named = named ∙ ap previd_of (sym (number_is n r rows is)); account_is = mine; can = can })) only
  where
    only : (m : ℕ) (s : Row) → row_of m rows ≡ Some s → is_resumed_by previd account s ≡ true → m ≡ n
    only m s found passed =
        let its : Resumes previd account s = resumes previd account s passed in
        let bounds : m < next = (row_of_bounds next 1 m s rows table.ascending found).1 in
        let fits : next < 2 ^ 64 = table.fits in
        hex16_of_same m n (omega arith) low (ap previd_of (sym (number_is m s rows found)) ∙ sym its.named ∙ named)

-- none, where no session that can be resumed has the previd
pub resumed_none : (account next : ℕ) (previd : List ℕ) (rows : List Row) → IsTable rows next →
    ((m : ℕ) (s : Row) → m < 2 ^ 64 → row_of m rows ≡ Some s → previd ≡ previd_of m → s.shown.account ≡ account → s.shown.resumable ≡ true → ⊥) → row_resumed previd account rows ≡ None
resumed_none account next previd rows table none = find_no next 1 (is_resumed_by previd account) rows table.ascending fails
  where
    fails : (m : ℕ) (s : Row) → row_of m rows ≡ Some s → is_resumed_by previd account s ≡ false
    fails m s found =
        elim (cases_Bool (is_resumed_by previd account s)) [
          | inl passed ↦
              let its : Resumes previd account s = resumes previd account s passed in
              let bounds : m < next = (row_of_bounds next 1 m s rows table.ascending found).1 in
              let fits : next < 2 ^ 64 = table.fits in
              absurd (none m s (omega arith) found (its.named ∙ ap previd_of (number_is m s rows found)) its.account_is its.can)
          | inr failed ↦ failed
        ]

-- the same where the previd is a number's
pub resumed_not : (n account next : ℕ) (previd : List ℕ) (rows : List Row) → IsTable rows next → n < 2 ^ 64 → previd ≡ previd_of n →
    ((s : Row) → row_of n rows ≡ Some s → s.shown.account ≡ account → s.shown.resumable ≡ true → ⊥) → row_resumed previd account rows ≡ None
resumed_not n account next previd rows table low named none =
    resumed_none account next previd rows table
    (λ m s fits found is mine can.
    let same : m ≡ n = hex16_of_same m n fits low (sym is ∙ named) in
    none s (ap (λ k. row_of k rows) (sym same) ∙ found) mine can)

-- whether a count was too high, by the answer to it
pub ack_ok : (h n : ℕ) (r : Row) (pool : PoolView) → Ok n ≡ ack_answer h r pool → is_too_high h r pool ≡ false
ack_ok h n r pool is =
    elim (cases_Bool (is_too_high h r pool)) [
      | inl high ↦ absurd (no_ok (rw high at is))
      | inr fits ↦ fits
    ]
  where
    no_ok : ◌≡◌ {A = Result ℕ TooHighCount} (Ok n) (Err (record { h = h; send_count = send_count_of r pool })) → ⊥
    no_ok same = cc

pub ack_err : (h : ℕ) (e : TooHighCount) (r : Row) (pool : PoolView) → Err e ≡ ack_answer h r pool → is_too_high h r pool ≡ true
ack_err h e r pool is =
    elim (cases_Bool (is_too_high h r pool)) [
      | inl high ↦ high
      | inr fits ↦ absurd (no_err (rw fits at is))
    ]
  where
    no_err : ◌≡◌ {A = Result ℕ TooHighCount} (Err e) (Ok (ahead h r.end.acked)) → ⊥
    no_err same = cc

pub leaves_of : (h : ℕ) (r : Row) (old new : PoolView) → is_too_high h r old ≡ false → PoolAcknowledged h r old new → Leaves (ahead h r.end.acked) r old new
leaves_of h r old new fits change = rw fits at change

-- a free queue stays free while a count is taken
pub free_acknowledged : (h n queue : ℕ) (r : Row) (rows : List Row) (old new : PoolView) → row_of n rows ≡ Some r → IsFree queue rows old → Leaves (ahead h r.end.acked) r old new →
    IsFree queue (with_row n (acknowledged h) rows) new
free_acknowledged h n queue r rows old new is free leaves =
    record {
      empty = leaves.others queue (λ same. free.unused n r is (sym same)) ∙ free.empty;
      unused = λ m s found same.
          (let from : FromWith m n (acknowledged h) s rows = from_with m n (acknowledged h) s rows (record { same = λ t. refl }) found in
          free.unused m from.was from.found (queue_is m n (acknowledged h) s rows (record { same = λ t. refl }) from ∙ same));
    }

-- first the count, then the other queue
pub hands_over : (h queue : ℕ) (r : Row) (old mid new : PoolView) → Leaves (ahead h r.end.acked) r old mid → HandsOver 0 queue (acknowledged h r) mid new → HandsOver (ahead h r.end.acked) queue r old new
hands_over h queue r old mid new leaves hands =
    record {
      rest = hands.rest ∙ ap (λ (o : Option (List (List ℕ))). Some (unwrap_or o [])) leaves.rest;
      gone = hands.gone;
      others = λ other apart also. hands.others other apart also ∙ leaves.others other also;
    }

-- what a resumption answers, and what it leaves of the table and the pool
pub record ResumedWell (h conn queue n handled : ℕ) (former : Option ℕ) (rows after : List Row) (old new : PoolView) : Type 0 where
  pub answer : Ok (record { number = n; handled = handled; former = former }) ≡ resume_answer h (row_of n rows) old
  pub table : after ≡ rows_resumed h conn queue (row_of n rows) old rows
  pub pool : PoolResumed h queue (row_of n rows) old new

pub resumed_well : (h conn queue n handled : ℕ) (former : Option ℕ) (r : Row) (rows after : List Row) (old mid new : PoolView) → row_of n rows ≡ Some r → is_too_high h r old ≡ false →
    former ≡ r.shown.conn → handled ≡ r.end.handled → after ≡ with_row n (attached conn queue) (with_row n (acknowledged h) rows) → Leaves (ahead h r.end.acked) r old mid →
    HandsOver 0 queue (acknowledged h r) mid new → ResumedWell h conn queue n handled former rows after old new
resumed_well h conn queue n handled former r rows after old mid new is fits conn_is handled_is after_is leaves hands =
    let number : r.shown.number ≡ n = number_is n r rows is in
    record {
      answer = rw (is, fits, number, ← conn_is, ← handled_is);
      table = rw (is, fits, number) (after_is ∙ with_row_twice n (acknowledged h) (attached conn queue) rows (record { same = λ t. refl }));
      pool = rw (is, fits) (hands_over h queue r old mid new leaves hands);
    }

-- a count is not ahead of itself
pub ahead_same : (a : ℕ) → ahead a a ≡ 0
ahead_same a = let all : a + 2 ^ 32 - a ≡ 2 ^ 32 = omega arith in rw all

pub whole_not_high : (a : ℕ) (r : Row) (pool : PoolView) → r.end.acked ≡ a → is_too_high a r pool ≡ false
whole_not_high a r pool is = rw (is, ahead_same a) (grind (arith, nat_tests))

pub comes_back_whole : (rows : List Row) (next conn now queue : ℕ) (r : Row) (old new : PoolView) → IsTable rows next → row_at conn rows ≡ Some r → r.shown.resumable ≡ true → ComesBackWhole now queue r rows old new
comes_back_whole rows next conn now queue r old new table at can =
    let found : row_of r.shown.number rows ≡ Some r = found_by_number next 1 (is_at conn) r rows table.ascending at in
    let after : row_of r.shown.number (with_row r.shown.number (parked now) rows) ≡ Some (parked now r) =
    row_of_with_same r.shown.number (parked now) rows (record { same = λ t. refl }) ∙ ap (option_map (parked now)) found in
    let bounds : r.shown.number < next = (row_of_bounds next 1 r.shown.number r rows table.ascending found).1 in
    let fits : next < 2 ^ 64 = table.fits in
    let target : row_resumed (previd_of r.shown.number) r.shown.account (with_row r.shown.number (parked now) rows) ≡ Some (parked now r) =
    resumed_row r.shown.number r.shown.account next (previd_of r.shown.number) (parked now r) (with_row r.shown.number (parked now) rows)
    (table_with r.shown.number next (parked now) rows (lawful_parked r.shown.number next now rows table) table) (omega arith) refl after refl can in
    let low : is_too_high r.end.acked (parked now r) old ≡ false = whole_not_high r.end.acked (parked now r) old refl in
    record {
      answer = rw (can, target, low);
      whole = λ change. rw (ahead_same r.end.acked) at ((rw (can, target, low) at change).rest);
    }

-- the session of which this is told
pub told_number : (told : ResumeOk) (o : Option Row) → Some told ≡ option_map resume_ok o → Some told.number ≡ option_map number_of o
told_number told None is = absurd (none-some told (sym is))
told_number told (Some r) is = ap (λ (t : ResumeOk). Some t.number) (same_Some told (resume_ok r) is)

pub told_is : (told : ResumeOk) (o : Option Row) → Some told ≡ option_map resume_ok o → IfSome o (λ r. told ≡ resume_ok r)
told_is told None is = absurd (none-some told (sym is))
told_is told (Some r) is = same_Some told (resume_ok r) is

-- what a resumption would answer, where the count is told to be too high, and where it isn't
pub would_high : (h : ℕ) (told : ResumeOk) (e : TooHighCount) (r : Row) (pool : PoolView) → Some e ≡ too_high_of h r pool → told ≡ resume_ok r → Err (TooHigh e.h e.send_count told.former) ≡ resume_answer h (Some r) pool
would_high h told e r pool is same =
    elim (cases_Bool (is_too_high h r pool)) [
      | inl high ↦
          let count : e ≡ record { h = h; send_count = send_count_of r pool } = same_Some e _ (rw high at is) in
          rw high (ap (λ (f : TooHighCount). Err (TooHigh f.h f.send_count told.former)) count ∙ ap (λ (t : ResumeOk). Err (TooHigh h (send_count_of r pool) t.former)) same)
      | inr low ↦ absurd (none-some e (sym (rw low at is)))
    ]

pub would_ok : (h : ℕ) (told : ResumeOk) (r : Row) (pool : PoolView) → None ≡ too_high_of h r pool → told ≡ resume_ok r → Ok told ≡ resume_answer h (Some r) pool
would_ok h told r pool is same =
    elim (cases_Bool (is_too_high h r pool)) [
      | inl high ↦ absurd (none-some _ (rw high at is))
      | inr low ↦ rw low (ap Ok same)
    ]
