-- Tries along events, and a new one.
use Rattle.std.proofs.Common.{◌≡◌, ℕ, ◌≤◌, ◌<◌, true, false, List, [], ◌++◌, Some, sym, ap, ◌∙◌, subst, append_assoc, arith}
use Rattle.std.specs.List.{AllByRecursion, filter, slice_get}
use Rattle.std.specs.Prelude.{◌&&◌, nat_lt, not}
use Rattle.std.proofs.lemmas.Bool.{ltb-true, and_parts, not-true}
use Rattle.std.proofs.lemmas.List.{append-nil}
use Rattle.sim_1_applications.specs.Stanzas.{Submission}
use Rattle.sim_1_applications.specs.Devices.{Device, Take, AppWorld, epoch_of, last_of, log_of}
use Rattle.sim_1_applications.specs.Kept.{Read, Taken, ends_at, handled, is_of, numbers_by}
use Rattle.sim_1_applications.proofs.Lists.{all_weaker}
use Rattle.sim_1_applications.proofs.Tiles.{log_last, numbers_last, top_within}
use Rattle.law_intents.specs.Intents.{IsNext, Notes, Try, has_hole, is_absent, is_logged, is_taken, is_try}
use Rattle.law_intents.proofs.Absent.{Tried, absent_is_not_taken}
use Rattle.law_intents.proofs.Ends.{le_two, numbers_append}
use Rattle.law_intents.proofs.Nexts.{Prev, epoch_rises}
use Rattle.law_intents.proofs.Handled.{handled_within, none_numbered}
use Rattle.law_intents.proofs.Numbers.{last_or, last_or_none}
use Rattle.law_intents.proofs.Splits.{none_both, none_of_epoch}
use Rattle.law_intents.proofs.Watching.{Watched}

-- it wasn't taken, and its epoch is over
pub record Gone (i : ℕ) (t : Try) (takes : List Take) (epoch : ℕ) : Type 0 where
  pub none : is_taken i t takes ≡ false
  pub past : t.epoch < epoch

pub gone_next : (i : ℕ) (t : Try) (w next : AppWorld) (x : Device) (prev : Prev i w next x) → Gone i t w.takes (epoch_of prev.d.sessions) → Gone i t next.takes (epoch_of x.sessions)
gone_next i t w next x prev gone = record {
  none = ap (is_taken i t) prev.takes
      ∙ none_both (is_try i t) w.takes prev.new gone.none
      (none_of_epoch i (epoch_of prev.d.sessions) t prev.new gone.past
      (all_weaker (λ (y : Take). y.said.epoch ≡ epoch_of prev.d.sessions) (λ y. epoch_of prev.d.sessions ≤ y.said.epoch) (filter (is_of i) prev.new) (λ y same. low same) prev.later));
  past = le_two gone.past (epoch_rises i w next x prev);
}
  where
    low : {a b : ℕ} → a ≡ b → b ≤ a
    low is = omega arith

log_next : (i : ℕ) (w next : AppWorld) (x : Device) (prev : Prev i w next x) → Read w → Read next → slice_get next.devices i ≡ Some x →
    log_of x.reading ≡ log_of prev.d.reading ++ numbers_by next.keep (ends_at next.keep 0 prev.d.reading.tiles) prev.tiles.0
log_next i w next x prev read more at =
    (more.devices i x at).tiles.numbers
    ∙ ap (numbers_by next.keep 0) prev.tiles.1
    ∙ numbers_append next.keep 0 prev.d.reading.tiles prev.tiles.0
    ∙ ap (λ l. l ++ numbers_by next.keep (ends_at next.keep 0 prev.d.reading.tiles) prev.tiles.0)
    (ap (λ k. numbers_by k 0 prev.d.reading.tiles) prev.keep ∙ sym (read.devices i prev.d prev.at).tiles.numbers)

pub tried_next : (i : ℕ) (t : Try) (w next : AppWorld) (x : Device) (prev : Prev i w next x) → Read w → Read next → slice_get next.devices i ≡ Some x →
    Tried i t prev.d.account w.takes (log_of prev.d.reading) → Tried i t x.account next.takes (log_of x.reading)
tried_next i t w next x prev read more at tried =
    let new = numbers_by next.keep (ends_at next.keep 0 prev.d.reading.tiles) prev.tiles.0 in
    record {
      before = tried.before;
      since = tried.since ++ prev.new;
      takes_are = prev.takes ∙ ap (λ ts. ts ++ prev.new) tried.takes_are ∙ append_assoc tried.before tried.since prev.new;
      fresh = tried.fresh;
      front = tried.front;
      more = tried.more ++ new;
      log_is = log_next i w next x prev read more at ∙ ap (λ l. l ++ new) tried.log_is ∙ append_assoc tried.front tried.more new;
      long = tried.long;
      read = subst (λ a. last_or 0 tried.front ≤ last_of tried.before a) (sym prev.account) tried.read;
    }

-- the last number of a device's log
pub log_ends : (i : ℕ) (w : AppWorld) (d : Device) → Read w → slice_get w.devices i ≡ Some d → last_or 0 (log_of d.reading) ≡ ends_at w.keep 0 d.reading.tiles
log_ends i w d read at =
    let tiles = (read.devices i d at).tiles in
    ap (last_or 0) tiles.numbers ∙ sym (last_or_none (numbers_by w.keep 0 d.reading.tiles)) ∙ log_last w.keep (last_of w.takes d.account) d.reading.tiles read.keep tiles.tiles

log_within : (i : ℕ) (w : AppWorld) (d : Device) → Read w → slice_get w.devices i ≡ Some d → last_or 0 (log_of d.reading) ≤ last_of w.takes d.account
log_within i w d read at =
    let tiles = (read.devices i d at).tiles in
    let zeros : 0 ≤ 0 = omega arith in
    let last = last_of w.takes d.account in
    under (log_ends i w d read at) (le_two (numbers_last w.keep 0 0 last d.reading.tiles read.keep zeros tiles.tiles).1 (top_within w.keep 0 0 last d.reading.tiles tiles.tiles))
  where
    under : {a b c : ℕ} → a ≡ b → b ≤ c → a ≤ c
    under is low = omega arith

-- where the last try is absent, it wasn't taken and never is
pub absent_is_gone : (i : ℕ) (t : Try) (o : Notes) (w : AppWorld) (d : Device) → Taken w → Read w → slice_get w.devices i ≡ Some d → Watched i w o d →
    Tried i t d.account w.takes (log_of d.reading) → is_absent i t o w.takes d ≡ true → Gone i t w.takes (epoch_of d.sessions)
absent_is_gone i t o w d taken read at watched tried absent =
    let later : t.epoch < o.sure = ltb-true t.epoch o.sure ((and_parts (nat_lt t.epoch o.sure) (not (has_hole t.logged (log_of d.reading)) && not (is_logged i t w.takes d)) absent).0) in
    let rest = (and_parts (nat_lt t.epoch o.sure) (not (has_hole t.logged (log_of d.reading)) && not (is_logged i t w.takes d)) absent).1 in
    let whole = not-true (has_hole t.logged (log_of d.reading)) ((and_parts (not (has_hole t.logged (log_of d.reading))) (not (is_logged i t w.takes d)) rest).0) in
    let missing = not-true (is_logged i t w.takes d) ((and_parts (not (has_hole t.logged (log_of d.reading))) (not (is_logged i t w.takes d)) rest).1) in
    record {
      none = absent_is_not_taken i o.sure watched.sure.l t d.account w.takes (log_of d.reading) tried watched.sure.since later
          (over watched.sure.read (log_ends i w d read at)) (taken.devices i d at).takes.home whole missing;
      past = le_two later (le_two watched.low watched.rises);
    }
  where
    over : {a b c : ℕ} → a ≤ b → c ≡ b → a ≤ c
    over low is = omega arith

-- a submission that wasn't made yet isn't taken
module _ (i : ℕ) (w : AppWorld) (d : Device) (t : Try) (at : slice_get w.devices i ≡ Some d) (taken : Taken w) (read : Read w) (is : IsNext d t) where
  not_taken : is_taken i t w.takes ≡ false
  not_taken =
      let kept = taken.devices i d at in
      none_numbered i t w.takes
      (subst (AllByRecursion (λ (m : Submission). m.epoch ≡ t.epoch → m.n < t.n)) (sym kept.takes.are)
      (all_weaker (λ (m : Submission). m.epoch ≡ epoch_of d.sessions → m.n ≤ d.sessions.n) (λ m. m.epoch ≡ t.epoch → m.n < t.n) (handled w.accounts d.sessions)
      (λ m low same. under (low (same ∙ is.epoch)) is.n) (handled_within w.accounts d.sessions kept.sessions)))
    where
      under : {a b c : ℕ} → a ≤ b → b < c → a < c
      under low high = omega arith

  pub tried_now : Tried i t d.account w.takes (log_of d.reading)
  tried_now = record {
    before = w.takes;
    since = [];
    takes_are = sym (append-nil w.takes);
    fresh = not_taken;
    front = log_of d.reading;
    more = [];
    log_is = sym (append-nil (log_of d.reading));
    long = sym is.logged;
    read = log_within i w d read at;
  }
