-- Sessions as lists, and the rows and queues that stand for them.
use Rattle.std.proofs.Common.{◌≡◌, ◌≢◌, ℕ, ◌+◌, ◌≤◌, ◌==◌, Bool, true, false, not, List, [], ◌∷◌, ◌++◌, Option, Some, None, Result, Ok, Err, length, map, drop, refl, sym, ap, subst, ◌∙◌, inl, inr, if◌then◌else◌, IsSome, IfSome, IfOk, OnOk, OnErr}
use Rattle.std.proofs.lemmas.Bool.{cases_Bool, cases_eq, false≢true}
use Rattle.std.proofs.lemmas.Option.{none-some, same_Some}
use Rattle.std.specs.List.{filter, find}
use Rattle.std.specs.Option.{option_map, unwrap_or}
use Rattle.sm_acks.specs.Counters.{AckView, ahead}
use Rattle.sm_acks.specs.declared.end.TooHigh.{TooHigh as TooHighCount}
use Rattle.sm_live.specs.Kept.{all_seen, seen_in}
use Rattle.sm_live.specs.Rule.{IsRule, RisesTo}
use Rattle.sm_live.specs.Sessions.{Session, acknowledged, after_resume, bound, fresh, info_of, is_at, is_expired, is_named, is_numbered, is_resumed_by, less, lost, number_of, parked, resent, resume_answer, resumes, session_at, session_of, session_resumed, told, unexpired, waits, with_session, without, without_at}
use Rattle.sm_live.specs.declared.told.SessionInfo.{SessionInfo}
use Rattle.base_io.specs.Listed.{Listed}
use Rattle.sm_acks.specs.Queues.{PoolView, list_of, stanzas_in, stanzas_of}
use Rattle.sm_resumption.proofs.BindFacts.{parks}
use Rattle.sm_resumption.proofs.ResumeFacts.{ack_err, ack_ok, leaves_of}
use Rattle.sm_resumption.proofs.RowFacts.{eqb_other, eqb_same, find_passes, found_by_number, number_is, option_map_some, row_of_first, row_of_rest, same_from_eqb, same_row, with_row_id}
use Rattle.sm_resumption.proofs.StoredFacts.{at_conn}
use Rattle.sm_resumption.specs.Changes.{ChangesRow}
use Rattle.sm_resumption.specs.Housed.{Drops, IsFree, IsHoused, IsSame}
use Rattle.sm_resumption.specs.Moves.{DropsExpired, HandsOver, Joins, Leaves, PoolAcknowledged, PoolResumed, ack_answer as ack_answer_row, acknowledged as acknowledged_row, is_expired as is_expired_row, is_too_high as is_too_high_row, lost as lost_row, parked as parked_row, resume_answer as resume_answer_row, resumed as resumed_row, row_resumed, rows_parked, rows_resumed, fresh_row, number_of as number_of_row}
use Rattle.sm_resumption.specs.Rows.{IsTable, Table, RisesTo as RisesToRows, is_at as is_at_row, row_at, row_named, row_of, with_row, without as without_row, less as less_row}
use Rattle.sm_resumption.specs.declared.session.Row.{Row}
use Rattle.sm_resumption.specs.declared.session.SessionView.{SessionView}

-- ---- look-ups

-- what a test finds among the sessions, it finds among the rows
pub found_seen : (p : Session (List ℕ) → Bool) (pool : PoolView) (rows : List Row) → find p (all_seen pool rows) ≡ option_map (seen_in pool) (find (λ r. p (seen_in pool r)) rows)
found_seen p pool [] = refl
found_seen p pool (r ∷ rows) =
    elim (cases_Bool (p (seen_in pool r))) [
      | inl passed ↦ rw passed refl
      | inr failed ↦ rw failed (found_seen p pool rows)
    ]

-- a part of the session that a test finds is that part of its row
pub mapped_seen : {A : Type 0} (f : Session (List ℕ) → A) (g : Row → A) (p : Session (List ℕ) → Bool) (pool : PoolView) (rows : List Row) → ((r : Row) → g r ≡ f (seen_in pool r)) →
    option_map g (find (λ r. p (seen_in pool r)) rows) ≡ option_map f (find p (all_seen pool rows))
mapped_seen f g p pool [] same = refl
mapped_seen f g p pool (r ∷ rows) same =
    elim (cases_Bool (p (seen_in pool r))) [
      | inl passed ↦ rw passed (ap Some (same r))
      | inr failed ↦ rw failed (mapped_seen f g p pool rows same)
    ]

-- the numbers of those that pass a test
pub numbers_seen : (p : Session (List ℕ) → Bool) (pool : PoolView) (rows : List Row) → map number_of_row (filter (λ r. p (seen_in pool r)) rows) ≡ map number_of (filter p (all_seen pool rows))
numbers_seen p pool [] = refl
numbers_seen p pool (r ∷ rows) =
    elim (cases_Bool (p (seen_in pool r))) [
      | inl passed ↦ rw passed (ap (λ t. r.shown.number ∷ t) (numbers_seen p pool rows))
      | inr failed ↦ rw failed (numbers_seen p pool rows)
    ]

-- what is true of the row is true of the session
if_seen : (P : Session (List ℕ) → Type 0) (n : ℕ) (pool : PoolView) (rows : List Row) → IfSome (row_of n rows) (λ r. P (seen_in pool r)) → IfSome (session_of n (all_seen pool rows)) P
if_seen P n pool [] holds = holds
if_seen P n pool (r ∷ rows) holds =
    elim (cases_Bool (r.shown.number == n)) [
      | inl here ↦ rw here (rw here at holds)
      | inr other ↦ rw other (if_seen P n pool rows (rw other at holds))
    ]

if_row_in : (P : Session (List ℕ) → Type 0) (n : ℕ) (pool : PoolView) (rows : List Row) → IfSome (session_of n (all_seen pool rows)) P → IfSome (row_of n rows) (λ r. P (seen_in pool r))
if_row_in P n pool [] holds = holds
if_row_in P n pool (r ∷ rows) holds =
    elim (cases_Bool (r.shown.number == n)) [
      | inl here ↦ rw here (rw here at holds)
      | inr other ↦ rw other (if_row_in P n pool rows (rw other at holds))
    ]

pub if_row : (P : Session (List ℕ) → Type 0) (n : ℕ) (pool : PoolView) (rows : List Row) (sessions : List (Session (List ℕ))) → all_seen pool rows ≡ sessions → IfSome (session_of n sessions) P → IfSome (row_of n rows) (λ r. P (seen_in pool r))
if_row P n pool rows sessions seen holds = if_row_in P n pool rows (subst (λ ss. IfSome (session_of n ss) P) (sym seen) holds)

pub if_session : (P : Session (List ℕ) → Type 0) (n : ℕ) (pool : PoolView) (rows : List Row) (sessions : List (Session (List ℕ))) → all_seen pool rows ≡ sessions → IfSome (row_of n rows) (λ r. P (seen_in pool r)) → IfSome (session_of n sessions) P
if_session P n pool rows sessions seen holds = subst (λ ss. IfSome (session_of n ss) P) seen (if_seen P n pool rows holds)

-- a session that lives has a row
row_there_in : (n : ℕ) (pool : PoolView) (rows : List Row) → IsSome (session_of n (all_seen pool rows)) → IsSome (row_of n rows)
row_there_in n pool [] lives = lives
row_there_in n pool (r ∷ rows) lives =
    elim (cases_Bool (r.shown.number == n)) [
      | inl here ↦ rw here refl
      | inr other ↦ rw other (row_there_in n pool rows (rw other at lives))
    ]

pub row_there : (n : ℕ) (pool : PoolView) (rows : List Row) (sessions : List (Session (List ℕ))) → all_seen pool rows ≡ sessions → IsSome (session_of n sessions) → IsSome (row_of n rows)
row_there n pool rows sessions seen lives = row_there_in n pool rows (subst (λ ss. IsSome (session_of n ss)) (sym seen) lives)

-- no session is where no row is
none_row_in : (p : Session (List ℕ) → Bool) (pool : PoolView) (rows : List Row) → find p (all_seen pool rows) ≡ None → find (λ r. p (seen_in pool r)) rows ≡ None
none_row_in p pool [] none = refl
none_row_in p pool (r ∷ rows) none =
    elim (cases_Bool (p (seen_in pool r))) [
      | inl passed ↦ absurd (none-some (seen_in pool r) (sym none ∙ rw passed refl))
      | inr failed ↦ rw failed (none_row_in p pool rows (rw failed at none))
    ]

pub none_row : (p : Session (List ℕ) → Bool) (pool : PoolView) (rows : List Row) (sessions : List (Session (List ℕ))) → all_seen pool rows ≡ sessions → find p sessions ≡ None → find (λ r. p (seen_in pool r)) rows ≡ None
none_row p pool rows sessions seen none = none_row_in p pool rows (ap (find p) seen ∙ none)

absent_at : {A B : Type 0} (g : Row → A) (f : Session (List ℕ) → B) (pool : PoolView) (o : Option Row) → None ≡ option_map g o → None ≡ option_map f (option_map (seen_in pool) o)
absent_at g f pool None is = refl
absent_at g f pool (Some r) is = absurd (none-some (g r) is)

pub absent_seen : {A B : Type 0} (g : Row → A) (f : Session (List ℕ) → B) (p : Session (List ℕ) → Bool) (pool : PoolView) (rows : List Row) (sessions : List (Session (List ℕ))) → all_seen pool rows ≡ sessions →
    None ≡ option_map g (find (λ r. p (seen_in pool r)) rows) → None ≡ option_map f (find p sessions)
absent_seen g f p pool rows sessions seen none =
    absent_at g f pool (find (λ r. p (seen_in pool r)) rows) none ∙ ap (option_map f) (sym (found_seen p pool rows) ∙ ap (find p) seen)

pub lives_absent : {A : Type 0} (g : Row → A) (o : Option Row) → IsSome o → None ≡ option_map g o → ⊥
lives_absent g None lives none = false≢true lives
lives_absent g (Some r) lives none = none-some (g r) none

-- nobody is on the connection
nobody_in : (conn : ℕ) (sessions : List (Session (List ℕ))) → find (is_at conn) sessions ≡ None → without_at conn sessions ≡ sessions
nobody_in conn [] none = refl
nobody_in conn (s ∷ sessions) none =
    elim (cases_Bool (is_at conn s)) [
      | inl here ↦ absurd (none-some s (sym none ∙ rw here refl))
      | inr other ↦ rw other (ap (λ t. s ∷ t) (nobody_in conn sessions (rw other at none)))
    ]

none_of : {A B : Type 0} (f : A → B) (o : Option A) → None ≡ option_map f o → o ≡ None
none_of f None is = refl
none_of f (Some x) is = absurd (none-some (f x) is)

pub nobody_at : (conn : ℕ) (sessions : List (Session (List ℕ))) → None ≡ option_map number_of (session_at conn sessions) → without_at conn sessions ≡ sessions
nobody_at conn sessions none = nobody_in conn sessions (none_of number_of (session_at conn sessions) none)

-- the session that a test finds, by its number
pub same_session : (next n : ℕ) (p : Session (List ℕ) → Bool) (pool : PoolView) (rows : List Row) (sessions : List (Session (List ℕ))) → all_seen pool rows ≡ sessions → IsTable rows next →
    Some n ≡ option_map number_of_row (find (λ r. p (seen_in pool r)) rows) → session_of n sessions ≡ find p sessions
same_session next n p pool rows sessions seen table is =
    ap (session_of n) (sym seen) ∙ found_seen (is_numbered n) pool rows ∙ ap (option_map (seen_in pool)) (same_row next 1 n (λ r. p (seen_in pool r)) rows table.ascending is)
    ∙ sym (found_seen p pool rows) ∙ ap (find p) seen

session_number : (n : ℕ) (s : Session (List ℕ)) (sessions : List (Session (List ℕ))) → session_of n sessions ≡ Some s → s.shown.number ≡ n
session_number n s [] is = absurd (none-some s is)
session_number n s (t ∷ sessions) is =
    elim (cases_Bool (t.shown.number == n)) [
      | inl here ↦
          let first : t ≡ s = same_Some t s (rw here at is) in
          ap number_of (sym first) ∙ same_from_eqb t.shown.number n here
      | inr other ↦ session_number n s sessions (rw other at is)
    ]

pub same_told : (n : ℕ) (p : Session (List ℕ) → Bool) (o : Option SessionInfo) (sessions : List (Session (List ℕ))) → o ≡ info_of n sessions → session_of n sessions ≡ find p sessions →
    IfSome o (λ t. session_of t.number sessions ≡ find p sessions)
same_told n p None sessions is same = tt
same_told n p (Some t) sessions is same =
    let (s, found, told_is) = option_map_some told (session_of n sessions) t (sym is) in
    let number : t.number ≡ n = ap (λ (u : SessionInfo). u.number) (sym told_is) ∙ session_number n s sessions found in
    ap (λ k. session_of k sessions) number ∙ same

-- what is told of a session, by its row
abbrev pub told_with : SessionView → ℕ → ℕ → SessionInfo
told_with v h w = record { number = v.number; account = v.account; conn = v.conn; available = v.available; priority = v.priority; carbons = v.carbons; counted = v.counted; asked = v.asked; handled = h; waiting = w }

pub told_seen : (n : ℕ) (v : SessionView) (e : AckView) (h w : ℕ) (t : SessionInfo) (pool : PoolView) (rows : List Row) (sessions : List (Session (List ℕ))) → all_seen pool rows ≡ sessions →
    Some v ≡ option_map (λ r. r.shown) (row_of n rows) → Some e ≡ option_map (λ r. r.end) (row_of n rows) → h ≡ e.handled → w ≡ length (list_of e.queue pool) →
    t ≡ told_with v h w → Some t ≡ info_of n sessions
told_seen n v e h w t pool rows sessions seen shown end handled waiting is =
    let (r, found, shown_is) = option_map_some (λ (r : Row). r.shown) (row_of n rows) v (sym shown) in
    let (s, also, was) = option_map_some (λ (r : Row). r.end) (row_of n rows) e (sym end) in
    let same : s ≡ r = same_Some s r (sym also ∙ found) in
    let end_is : r.end ≡ e = ap (λ (t : Row). t.end) (sym same) ∙ was in
    let known : session_of n sessions ≡ Some (seen_in pool r) = ap (session_of n) (sym seen) ∙ found_seen (is_numbered n) pool rows ∙ ap (option_map (seen_in pool)) found in
    let one : t ≡ told (seen_in pool r) =
    is ∙ ap (λ x. told_with x h w) (sym shown_is) ∙ ap (λ x. told_with r.shown x w) (handled ∙ ap (λ (x : AckView). x.handled) (sym end_is))
    ∙ ap (λ x. told_with r.shown r.end.handled x) (waiting ∙ ap (λ (x : AckView). length (list_of x.queue pool)) (sym end_is)) in
    ap Some one ∙ sym (ap (option_map told) known)

-- ---- queues

pub list_as : (q : ℕ) (old new : PoolView) → stanzas_of q new ≡ stanzas_of q old → list_of q new ≡ list_of q old
list_as q old new same = ap (λ o. unwrap_or o []) same

pub list_is : (q : ℕ) (stanzas : List (List ℕ)) (pool : PoolView) → stanzas_of q pool ≡ Some stanzas → list_of q pool ≡ stanzas
list_is q stanzas pool is = ap (λ o. unwrap_or o []) is

seen_as : (r : Row) (old new : PoolView) → list_of r.end.queue new ≡ list_of r.end.queue old → seen_in new r ≡ seen_in old r
seen_as r old new same = ap (λ w. record { shown = r.shown; acked = r.end.acked; handled = r.end.handled; waiting = w }) same

-- ---- lists

-- a change of one row that the pool doesn't see
pub written_seen : (n : ℕ) (f : Session (List ℕ) → Session (List ℕ)) (g : Row → Row) (pool : PoolView) (rows : List Row) → ((r : Row) → seen_in pool (g r) ≡ f (seen_in pool r)) →
    all_seen pool (with_row n g rows) ≡ with_session n f (all_seen pool rows)
written_seen n f g pool [] same = refl
written_seen n f g pool (r ∷ rows) same =
    elim (cases_Bool (r.shown.number == n)) [
      | inl here ↦ rw here (rw (same r) (ap (λ t. f (seen_in pool r) ∷ t) (written_seen n f g pool rows same)))
      | inr other ↦ rw other (ap (λ t. seen_in pool r ∷ t) (written_seen n f g pool rows same))
    ]

pub tried_written : {T E : Type 0} (t : Result T E) (n : ℕ) (f : Session (List ℕ) → Session (List ℕ)) (g : Row → Row) (table after : Table) (pool : PoolView) (sessions : List (Session (List ℕ))) → all_seen pool table.rows ≡ sessions →
    ((r : Row) → seen_in pool (g r) ≡ f (seen_in pool r)) → OnOk t (ChangesRow n g table after) → OnOk t (all_seen pool after.rows ≡ with_session n f sessions)
tried_written (Ok x) n f g table after pool sessions seen same change = ap (all_seen pool) change.rows ∙ written_seen n f g pool table.rows same ∙ ap (with_session n f) seen
tried_written (Err e) n f g table after pool sessions seen same change = tt

-- a change of one row and its queue
pub record Alters (n : ℕ) (f : Session (List ℕ) → Session (List ℕ)) (g : Row → Row) (rows : List Row) (old new : PoolView) : Type 0 where
  pub here : (r : Row) → row_of n rows ≡ Some r → seen_in new (g r) ≡ f (seen_in old r)
  pub others : (m : ℕ) (r : Row) → row_of m rows ≡ Some r → m ≢ n → list_of r.end.queue new ≡ list_of r.end.queue old

altered_at : (n : ℕ) (f : Session (List ℕ) → Session (List ℕ)) (g : Row → Row) (r : Row) (all : List Row) (old new : PoolView) → row_of r.shown.number all ≡ Some r → Alters n f g all old new →
    seen_in new (if r.shown.number == n then g r else r) ≡ (if r.shown.number == n then f (seen_in old r) else seen_in old r)
altered_at n f g r all old new is alters =
    elim (cases_eq r.shown.number n) [
      | inl same ↦
          let here : (r.shown.number == n) ≡ true = rw same (eqb_same n) in
          rw here (alters.here r (ap (λ k. row_of k all) (sym same) ∙ is))
      | inr other ↦ rw (eqb_other r.shown.number n other) (seen_as r old new (alters.others r.shown.number r is other))
    ]

altered_in : (n next low : ℕ) (f : Session (List ℕ) → Session (List ℕ)) (g : Row → Row) (rows all : List Row) (old new : PoolView) → RisesToRows next low rows → ((m : ℕ) (r : Row) → row_of m rows ≡ Some r → row_of m all ≡ Some r) →
    Alters n f g all old new → all_seen new (with_row n g rows) ≡ with_session n f (all_seen old rows)
altered_in n next low f g [] all old new rise among alters = refl
altered_in n next low f g (r ∷ rows) all old new rise among alters =
    rw (altered_at n f g r all old new (among r.shown.number r (row_of_first r rows)) alters)
    (ap (λ t. (if r.shown.number == n then f (seen_in old r) else seen_in old r) ∷ t)
    (altered_in n next (r.shown.number + 1) f g rows all old new rise.1 (λ m s is. among m s (row_of_rest next low m s r rows rise is)) alters))

pub altered_seen : (n next : ℕ) (f : Session (List ℕ) → Session (List ℕ)) (g : Row → Row) (rows : List Row) (old new : PoolView) → IsTable rows next → Alters n f g rows old new →
    all_seen new (with_row n g rows) ≡ with_session n f (all_seen old rows)
altered_seen n next f g rows old new table alters = altered_in n next 1 f g rows rows old new table.ascending (λ m r is. is) alters

-- some sessions end
pub filtered_seen : (next low : ℕ) (q : Row → Bool) (p : Session (List ℕ) → Bool) (rows : List Row) (old new : PoolView) → RisesToRows next low rows → ((r : Row) → p (seen_in old r) ≡ q r) →
    ((m : ℕ) (r : Row) → row_of m rows ≡ Some r → q r ≡ true → list_of r.end.queue new ≡ list_of r.end.queue old) → all_seen new (filter q rows) ≡ filter p (all_seen old rows)
filtered_seen next low q p [] old new rise same kept = refl
filtered_seen next low q p (r ∷ rows) old new rise same kept =
    let rest : all_seen new (filter q rows) ≡ filter p (all_seen old rows) =
    filtered_seen next (r.shown.number + 1) q p rows old new rise.1 same (λ m s is. kept m s (row_of_rest next low m s r rows rise is)) in
    elim (cases_Bool (q r)) [
      | inl passed ↦
          let stays : p (seen_in old r) ≡ true = same r ∙ passed in
          let as_was : seen_in new r ≡ seen_in old r = seen_as r old new (kept r.shown.number r (row_of_first r rows) passed) in
          rw (passed, stays) (ap (λ t. seen_in new r ∷ t) rest ∙ ap (λ t. t ∷ filter p (all_seen old rows)) as_was)
      | inr failed ↦
          let goes : p (seen_in old r) ≡ false = same r ∙ failed in
          rw (failed, goes) rest
    ]

pub same_seen : (next : ℕ) (rows : List Row) (old new : PoolView) → IsTable rows next → IsSame old new → all_seen new rows ≡ all_seen old rows
same_seen next rows old new table same = go next 1 rows table.ascending
  where
    go : (top low : ℕ) (some : List Row) → RisesToRows top low some → all_seen new some ≡ all_seen old some
    go top low [] rise = refl
    go top low (r ∷ some) rise = ap (λ t. seen_in new r ∷ t) (go top (r.shown.number + 1) some rise.1) ∙ ap (λ t. t ∷ all_seen old some) (seen_as r old new (list_as r.end.queue old new (same.each r.end.queue)))

-- the queue of the session with a number, where it lives, is gone
kept_gone : (n m : ℕ) (o : Option Row) (r : Row) (rows : List Row) (old new : PoolView) → row_of n rows ≡ o → IsHoused rows old → Drops o old new → row_of m rows ≡ Some r → m ≢ n →
    list_of r.end.queue new ≡ list_of r.end.queue old
kept_gone n m None r rows old new found housed same is other = list_as r.end.queue old new (same.each r.end.queue)
kept_gone n m (Some x) r rows old new found housed gone is other = list_as r.end.queue old new (gone.others r.end.queue (housed.apart m n r x is found other))

pub ended_seen : (n next : ℕ) (rows : List Row) (old new : PoolView) → IsTable rows next → IsHoused rows old → Drops (row_of n rows) old new → all_seen new (without_row n rows) ≡ without n (all_seen old rows)
ended_seen n next rows old new table housed drops =
    filtered_seen next 1 (λ r. not (r.shown.number == n)) (λ s. not (s.shown.number == n)) rows old new table.ascending (λ r. refl) kept
  where
    kept : (m : ℕ) (r : Row) → row_of m rows ≡ Some r → not (r.shown.number == n) ≡ true → list_of r.end.queue new ≡ list_of r.end.queue old
    kept m r is stays =
        elim (cases_eq m n) [
          | inl same ↦
              let here : (r.shown.number == n) ≡ true = rw (number_is m r rows is, same) (eqb_same n) in
              cc
          | inr other ↦ kept_gone n m (row_of n rows) r rows old new refl housed drops is other
        ]

-- two tests that agree on the rows that are there
filters_same : (next low : ℕ) (p q : Row → Bool) (rows : List Row) → RisesToRows next low rows → ((m : ℕ) (r : Row) → row_of m rows ≡ Some r → p r ≡ q r) → filter p rows ≡ filter q rows
filters_same next low p q [] rise agree = refl
filters_same next low p q (r ∷ rows) rise agree =
    let rest : filter p rows ≡ filter q rows = filters_same next (r.shown.number + 1) p q rows rise.1 (λ m s is. agree m s (row_of_rest next low m s r rows rise is)) in
    let same : p r ≡ q r = agree r.shown.number r (row_of_first r rows) in
    elim (cases_Bool (q r)) [
      | inl passed ↦
          let also : p r ≡ true = same ∙ passed in
          rw (also, passed) (ap (λ t. r ∷ t) rest)
      | inr failed ↦
          let also : p r ≡ false = same ∙ failed in
          rw (also, failed) rest
    ]

-- the session on a connection is the only one there
only_at : (n next conn m : ℕ) (r : Row) (rows : List Row) → IsTable rows next → Some n ≡ option_map number_of_row (row_at conn rows) → row_of m rows ≡ Some r → (r.shown.number == n) ≡ is_at_row conn r
only_at n next conn m r rows table there is =
    let (x, at) = parks n next conn rows table there in
    elim (cases_eq m n) [
      | inl same ↦
          let one : x ≡ r = same_Some x r (sym at.found ∙ ap (λ k. row_of k rows) (sym same) ∙ is) in
          let here : (r.shown.number == n) ≡ true = rw (number_is m r rows is, same) (eqb_same n) in
          let on : is_at_row conn r ≡ true = ap (is_at_row conn) (sym one) ∙ find_passes (is_at_row conn) x rows at.at in
          here ∙ sym on
      | inr other ↦
          let away : (r.shown.number == n) ≡ false = rw (number_is m r rows is) (eqb_other m n other) in
          elim (cases_Bool (is_at_row conn r)) [
            | inl on ↦ absurd (other (table.conns m n conn r x is at.found (at_conn conn r.shown.conn on) (at_conn conn x.shown.conn (find_passes (is_at_row conn) x rows at.at))))
            | inr off ↦ away ∙ sym off
          ]
    ]

pub without_seen : (n next conn : ℕ) (pool : PoolView) (rows : List Row) (sessions : List (Session (List ℕ))) → all_seen pool rows ≡ sessions → IsTable rows next → Some n ≡ option_map number_of_row (row_at conn rows) →
    without n sessions ≡ without_at conn sessions
without_seen n next conn pool rows sessions seen table there =
    ap (without n) (sym seen) ∙ sym (filtered_seen next 1 (λ r. not (r.shown.number == n)) (λ s. not (s.shown.number == n)) rows pool pool table.ascending (λ r. refl) (λ m r is passed. refl))
    ∙ ap (all_seen pool) (filters_same next 1 (λ r. not (r.shown.number == n)) (λ r. not (is_at_row conn r)) rows table.ascending (λ m r is. ap not (only_at n next conn m r rows table there is)))
    ∙ filtered_seen next 1 (λ r. not (is_at_row conn r)) (λ s. not (is_at conn s)) rows pool pool table.ascending (λ r. refl) (λ m r is passed. refl) ∙ ap (without_at conn) seen

-- the session that a test finds, where it finds one, ends
pub less_seen : (next : ℕ) (p : Session (List ℕ) → Bool) (rows : List Row) (old new : PoolView) → IsTable rows next → IsHoused rows old → Drops (find (λ r. p (seen_in old r)) rows) old new →
    all_seen new (less_row (find (λ r. p (seen_in old r)) rows) rows) ≡ less (find p (all_seen old rows)) (all_seen old rows)
less_seen next p rows old new table housed drops = rw (found_seen p old rows) (go (find (λ r. p (seen_in old r)) rows) refl drops)
  where
    go : (o : Option Row) → find (λ r. p (seen_in old r)) rows ≡ o → Drops o old new → all_seen new (less_row o rows) ≡ less (option_map (seen_in old) o) (all_seen old rows)
    go None is same = same_seen next rows old new table same
    go (Some r) is gone =
        let found : row_of r.shown.number rows ≡ Some r = found_by_number next 1 (λ r. p (seen_in old r)) r rows table.ascending is in
        ended_seen r.shown.number next rows old new table housed (subst (λ o. Drops o old new) (sym found) gone)

-- one session more
pub pushed_seen : (pool : PoolView) (r : Row) (rows : List Row) → all_seen pool (rows ++ r ∷ []) ≡ all_seen pool rows ++ seen_in pool r ∷ []
pushed_seen pool r [] = refl
pushed_seen pool r (s ∷ rows) = ap (λ t. seen_in pool s ∷ t) (pushed_seen pool r rows)

-- ---- what the calls do

-- a stanza more waits
pub joined_seen : (n next : ℕ) (stanza : List ℕ) (x : Row) (rows : List Row) (old new : PoolView) → IsTable rows next → IsHoused rows old → row_of n rows ≡ Some x → Joins stanza x old new →
    all_seen new rows ≡ with_session n (waits stanza) (all_seen old rows)
joined_seen n next stanza x rows old new table housed found joins =
    ap (all_seen new) (sym (with_row_id n rows)) ∙ altered_seen n next (waits stanza) (λ r. r) rows old new table (record { here = here; others = others })
  where
    here : (r : Row) → row_of n rows ≡ Some r → seen_in new r ≡ waits stanza (seen_in old r)
    here r is =
        let one : x ≡ r = same_Some x r (sym found ∙ is) in
        let queue : list_of r.end.queue new ≡ list_of r.end.queue old ++ stanza ∷ [] =
        subst (λ (t : Row). list_of t.end.queue new ≡ list_of t.end.queue old ++ stanza ∷ []) one (list_is x.end.queue _ new joins.all) in
        ap (λ w. record { shown = r.shown; acked = r.end.acked; handled = r.end.handled; waiting = w }) queue

    others : (m : ℕ) (r : Row) → row_of m rows ≡ Some r → m ≢ n → list_of r.end.queue new ≡ list_of r.end.queue old
    others m r is other = list_as r.end.queue old new (joins.others r.end.queue (housed.apart m n r x is found other))

-- a count is taken
acked_seen : (h n next : ℕ) (x : Row) (rows : List Row) (old new : PoolView) → IsTable rows next → IsHoused rows old → row_of n rows ≡ Some x → Leaves (ahead h x.end.acked) x old new →
    all_seen new (with_row n (acknowledged_row h) rows) ≡ with_session n (acknowledged h) (all_seen old rows)
acked_seen h n next x rows old new table housed found leaves = altered_seen n next (acknowledged h) (acknowledged_row h) rows old new table (record { here = here; others = others })
  where
    here : (r : Row) → row_of n rows ≡ Some r → seen_in new (acknowledged_row h r) ≡ acknowledged h (seen_in old r)
    here r is =
        let one : x ≡ r = same_Some x r (sym found ∙ is) in
        let queue : list_of r.end.queue new ≡ drop (ahead h r.end.acked) (list_of r.end.queue old) =
        subst (λ (t : Row). list_of t.end.queue new ≡ drop (ahead h t.end.acked) (list_of t.end.queue old)) one (list_is x.end.queue _ new leaves.rest) in
        ap (λ w. record { shown = r.shown; acked = h; handled = r.end.handled; waiting = w }) queue

    others : (m : ℕ) (r : Row) → row_of m rows ≡ Some r → m ≢ n → list_of r.end.queue new ≡ list_of r.end.queue old
    others m r is other = list_as r.end.queue old new (leaves.others r.end.queue (housed.apart m n r x is found other))

-- a count is taken or refused
pub record Tried (t : Result ℕ TooHighCount) (h n : ℕ) (sessions : List (Session (List ℕ))) (after : List Row) (new : PoolView) : Type 0 where
  pub ok : OnOk t (all_seen new after ≡ with_session n (acknowledged h) sessions)
  pub err : OnErr t (all_seen new after ≡ sessions)

pub tried_seen : (t : Result ℕ TooHighCount) (h n next : ℕ) (x : Row) (rows after : List Row) (old new : PoolView) (sessions : List (Session (List ℕ))) → all_seen old rows ≡ sessions → IsTable rows next → IsHoused rows old → row_of n rows ≡ Some x →
    t ≡ ack_answer_row h x old → OnOk t (after ≡ with_row n (acknowledged_row h) rows) → OnErr t (after ≡ rows) → PoolAcknowledged h x old new → Tried t h n sessions after new
tried_seen (Ok k) h n next x rows after old new sessions seen table housed found is ok err change =
    record {
      ok = ap (all_seen new) ok ∙ acked_seen h n next x rows old new table housed found (leaves_of h x old new (ack_ok h k x old is) change) ∙ ap (with_session n (acknowledged h)) seen;
      err = tt;
    }
tried_seen (Err e) h n next x rows after old new sessions seen table housed found is ok err change =
    let high : is_too_high_row h x old ≡ true = ack_err h e x old is in
    let same : IsSame old new = rw high at change in
    record { ok = tt; err = ap (all_seen new) err ∙ same_seen next rows old new table same ∙ seen }

-- those that were parked for too long end
pub expired_seen : (now next : ℕ) (rows : List Row) (old new : PoolView) → IsTable rows next → IsHoused rows old → DropsExpired now rows old new → all_seen new (filter (λ r. not (is_expired_row now r)) rows) ≡ unexpired now (all_seen old rows)
expired_seen now next rows old new table housed drops =
    filtered_seen next 1 (λ r. not (is_expired_row now r)) (λ s. not (is_expired now s)) rows old new table.ascending (λ r. refl) kept
  where
    stays : (b : Bool) → not b ≡ true → b ≡ false
    stays true is = absurd (false≢true is)
    stays false is = refl

    apart : (m n : ℕ) (r s : Row) → row_of m rows ≡ Some r → row_of n rows ≡ Some s → is_expired_row now r ≡ false → is_expired_row now s ≡ true → r.end.queue ≢ s.end.queue
    apart m n r s is was alive dead = housed.apart m n r s is was (λ same.
        (let one : r ≡ s = same_Some r s (sym is ∙ ap (λ k. row_of k rows) same ∙ was) in
        false≢true (sym alive ∙ ap (is_expired_row now) one ∙ dead)))

    kept : (m : ℕ) (r : Row) → row_of m rows ≡ Some r → not (is_expired_row now r) ≡ true → list_of r.end.queue new ≡ list_of r.end.queue old
    kept m r is alive = list_as r.end.queue old new (drops.others r.end.queue (λ n s was dead. apart m n r s is was (stays (is_expired_row now r) alive) dead))

-- a connection is lost
pub lost_seen : (next now : ℕ) (p : Session (List ℕ) → Bool) (rows : List Row) (old new : PoolView) → IsTable rows next → IsHoused rows old → Drops (lost_row (find (λ r. p (seen_in old r)) rows)) old new →
    all_seen new (rows_parked now (find (λ r. p (seen_in old r)) rows) rows) ≡ lost now (find p (all_seen old rows)) (all_seen old rows)
lost_seen next now p rows old new table housed drops = rw (found_seen p old rows) (go (find (λ r. p (seen_in old r)) rows) refl drops)
  where
    stays : (r : Row) → IsSame old new → all_seen new (with_row r.shown.number (parked_row now) rows) ≡ with_session r.shown.number (parked now) (all_seen old rows)
    stays r same =
        altered_seen r.shown.number next (parked now) (parked_row now) rows old new table
        (record {
          here = λ s is. ap (λ w. record { shown = record s.shown { conn = None; parked_at = now }; acked = s.end.acked; handled = s.end.handled; waiting = w }) (list_as s.end.queue old new (same.each s.end.queue));
          others = λ m s is other. list_as s.end.queue old new (same.each s.end.queue);
        })

    go : (o : Option Row) → find (λ r. p (seen_in old r)) rows ≡ o → Drops (lost_row o) old new → all_seen new (rows_parked now o rows) ≡ lost now (option_map (seen_in old) o) (all_seen old rows)
    go None is same = same_seen next rows old new table same
    go (Some r) is gone =
        let found : row_of r.shown.number rows ≡ Some r = found_by_number next 1 (λ r. p (seen_in old r)) r rows table.ascending is in
        elim (cases_Bool r.shown.resumable) [
          | inl can ↦ rw can (stays r (rw can at gone))
          | inr cannot ↦ rw cannot (ended_seen r.shown.number next rows old new table housed (subst (λ o. Drops o old new) (sym found) (rw cannot at gone)))
        ]

-- a session is resumed, or ends
pub answer_seen : (h : ℕ) (pool : PoolView) (o : Option Row) → resume_answer_row h o pool ≡ resume_answer h (option_map (seen_in pool) o)
answer_seen h pool None = refl
answer_seen h pool (Some r) = refl

pub answered_seen : (h account : ℕ) (previd : List ℕ) (pool : PoolView) (rows : List Row) → resume_answer_row h (row_resumed previd account rows) pool ≡ resume_answer h (session_resumed previd account (all_seen pool rows))
answered_seen h account previd pool rows = answer_seen h pool (row_resumed previd account rows) ∙ ap (resume_answer h) (sym (found_seen (is_resumed_by previd account) pool rows))

attached_seen : (h conn queue next : ℕ) (x : Row) (rows : List Row) (old new : PoolView) → IsTable rows next → IsHoused rows old → IsFree queue rows old → row_of x.shown.number rows ≡ Some x → HandsOver (ahead h x.end.acked) queue x old new →
    all_seen new (with_row x.shown.number (resumed_row h conn queue) rows) ≡ with_session x.shown.number (resumes h conn) (all_seen old rows)
attached_seen h conn queue next x rows old new table housed free found hands = altered_seen x.shown.number next (resumes h conn) (resumed_row h conn queue) rows old new table (record { here = here; others = others })
  where
    here : (r : Row) → row_of x.shown.number rows ≡ Some r → seen_in new (resumed_row h conn queue r) ≡ resumes h conn (seen_in old r)
    here r is =
        let one : x ≡ r = same_Some x r (sym found ∙ is) in
        let rest : list_of queue new ≡ drop (ahead h r.end.acked) (list_of r.end.queue old) =
        subst (λ (t : Row). list_of queue new ≡ drop (ahead h t.end.acked) (list_of t.end.queue old)) one (list_is queue _ new hands.rest) in
        ap (λ w. record { shown = record r.shown { conn = Some conn }; acked = h; handled = r.end.handled; waiting = w }) rest

    others : (m : ℕ) (r : Row) → row_of m rows ≡ Some r → m ≢ x.shown.number → list_of r.end.queue new ≡ list_of r.end.queue old
    others m r is other = list_as r.end.queue old new (hands.others r.end.queue (free.unused m r is) (housed.apart m x.shown.number r x is found other))

pub resumed_seen : (h conn queue next : ℕ) (p : Session (List ℕ) → Bool) (rows : List Row) (old new : PoolView) → IsTable rows next → IsHoused rows old → IsFree queue rows old →
    PoolResumed h queue (find (λ r. p (seen_in old r)) rows) old new →
    all_seen new (rows_resumed h conn queue (find (λ r. p (seen_in old r)) rows) old rows) ≡ after_resume h conn (find p (all_seen old rows)) (all_seen old rows)
resumed_seen h conn queue next p rows old new table housed free change = rw (found_seen p old rows) (go (find (λ r. p (seen_in old r)) rows) refl change)
  where
    go : (o : Option Row) → find (λ r. p (seen_in old r)) rows ≡ o → PoolResumed h queue o old new → all_seen new (rows_resumed h conn queue o old rows) ≡ after_resume h conn (option_map (seen_in old) o) (all_seen old rows)
    go None is same = same_seen next rows old new table same
    go (Some r) is hands =
        let found : row_of r.shown.number rows ≡ Some r = found_by_number next 1 (λ r. p (seen_in old r)) r rows table.ascending is in
        elim (cases_Bool (is_too_high_row h r old)) [
          | inl high ↦ rw high (ended_seen r.shown.number next rows old new table housed (subst (λ o. Drops o old new) (sym found) (rw high at hands)))
          | inr low ↦ rw low (attached_seen h conn queue next r rows old new table housed free found (rw low at hands))
        ]

-- a session is bound
pub bound_seen : (next account conn queue : ℕ) (resource : List ℕ) (rows : List Row) (old new : PoolView) → IsTable rows next → IsHoused rows old → Drops (row_named account resource rows) old new → stanzas_of queue new ≡ Some [] →
    all_seen new (less_row (row_named account resource rows) rows ++ fresh_row next account resource conn queue ∷ []) ≡ bound next account resource conn (all_seen old rows)
bound_seen next account conn queue resource rows old new table housed drops empty =
    pushed_seen new (fresh_row next account resource conn queue) (less_row (row_named account resource rows) rows)
    ∙ ap (λ w. all_seen new (less_row (row_named account resource rows) rows) ++ record { shown = (fresh_row next account resource conn queue).shown; acked = 0; handled = 0; waiting = w } ∷ []) (list_is queue [] new empty)
    ∙ ap (λ ss. ss ++ fresh next account resource conn ∷ []) (less_seen next (is_named account resource) rows old new table housed drops)

-- what is sent again
pub resent_seen : {E : Type 0} (t : Result (Listed (Listed ℕ)) E) (h n k q : ℕ) (e : AckView) (pool : PoolView) (rows : List Row) (sessions : List (Session (List ℕ))) → all_seen pool rows ≡ sessions → Some e ≡ option_map (λ r. r.end) (row_of n rows) →
    q ≡ e.queue → k ≡ ahead h e.acked → IfOk t (λ list. stanzas_in list.items ≡ drop k (list_of q pool)) → IfOk t (λ list. IfSome (session_of n sessions) (λ s. stanzas_in list.items ≡ resent h s))
resent_seen (Err x) h n k q e pool rows sessions seen end queue count ok = tt
resent_seen (Ok list) h n k q e pool rows sessions seen end queue count ok =
    let (r, found, is) = option_map_some (λ (r : Row). r.end) (row_of n rows) e (sym end) in
    let rest : drop k (list_of q pool) ≡ drop (ahead h r.end.acked) (list_of r.end.queue pool) = rw (count, queue, is) refl in
    let all : stanzas_in list.items ≡ resent h (seen_in pool r) = ok ∙ rest in
    if_session (λ s. stanzas_in list.items ≡ resent h s) n pool rows sessions seen (subst (λ o. IfSome o (λ r. stanzas_in list.items ≡ resent h (seen_in pool r))) (sym found) all)

-- ---- the rule

rises_seen : (next low : ℕ) (pool : PoolView) (rows : List Row) → RisesToRows next low rows → RisesTo next low (all_seen pool rows)
rises_seen next low pool [] rise = rise
rises_seen next low pool (r ∷ rows) rise = (rise.0, rises_seen next (r.shown.number + 1) pool rows rise.1)

pub rule_seen : (next : ℕ) (pool : PoolView) (rows : List Row) → IsTable rows next → IsHoused rows pool → IsRule (all_seen pool rows) next
rule_seen next pool rows table housed = record { ascending = rises_seen next 1 pool rows table.ascending; fits = table.fits; conns = conns; names = names; few = few }
  where
    row : (n : ℕ) (s : Session (List ℕ)) → session_of n (all_seen pool rows) ≡ Some s → (r : Row) × (row_of n rows ≡ Some r) × (seen_in pool r ≡ s)
    row n s is = option_map_some (seen_in pool) (row_of n rows) s (sym (found_seen (is_numbered n) pool rows) ∙ is)

    conns : (m n conn : ℕ) (s t : Session (List ℕ)) → session_of m (all_seen pool rows) ≡ Some s → session_of n (all_seen pool rows) ≡ Some t → s.shown.conn ≡ Some conn → t.shown.conn ≡ Some conn → m ≡ n
    conns m n conn s t is was on at =
        let (r, found, same) = row m s is in
        let (u, also, equal) = row n t was in
        table.conns m n conn r u found also (ap (λ (x : Session (List ℕ)). x.shown.conn) same ∙ on) (ap (λ (x : Session (List ℕ)). x.shown.conn) equal ∙ at)

    names : (m n : ℕ) (s t : Session (List ℕ)) → session_of m (all_seen pool rows) ≡ Some s → session_of n (all_seen pool rows) ≡ Some t → s.shown.account ≡ t.shown.account → s.shown.resource ≡ t.shown.resource → m ≡ n
    names m n s t is was account resource =
        let (r, found, same) = row m s is in
        let (u, also, equal) = row n t was in
        table.names m n r u found also
        (ap (λ (x : Session (List ℕ)). x.shown.account) same ∙ account ∙ sym (ap (λ (x : Session (List ℕ)). x.shown.account) equal))
        (ap (λ (x : Session (List ℕ)). x.shown.resource) same ∙ resource ∙ sym (ap (λ (x : Session (List ℕ)). x.shown.resource) equal))

    few : (n : ℕ) (s : Session (List ℕ)) → session_of n (all_seen pool rows) ≡ Some s → length s.waiting ≤ 10000
    few n s is =
        let (r, found, same) = row n s is in
        subst (λ (x : Session (List ℕ)). length x.waiting ≤ 10000) same (housed.few n r found)
