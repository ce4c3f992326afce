-- The calls of sessions as moves of directions.
use Rattle.std.proofs.Common.{◌≡◌, ◌≢◌, ℕ, ◌+◌, ◌-◌, ◌%◌, ◌^◌, ◌<◌, ◌≤◌, Bool, true, false, cond, List, [], ◌∷◌, ◌++◌, Option, None, Some, Result, Ok, Err, length, drop, refl, sym, ap, ◌∙◌, arith, inl, inr}
use Rattle.std.specs.Prelude.{IfSome, MatchBool, filter, find, nat_lt, not, unwrap_or, ◌==◌}
use Rattle.std.proofs.lemmas.Bool.Decides.{nat_tests}
use Rattle.std.proofs.lemmas.Bool.{cases_Bool, cases_eq, false≢true}
use Rattle.std.proofs.lemmas.Option.{none-some, same_Some}
use Rattle.std.specs.Option.{option_map}
use Rattle.std.proofs.lemmas.List.{drop-append-le, length_push}
use Rattle.sm_acks.proofs.Directions.{kept_reached}
use Rattle.sm_acks.proofs.Senders.{Acks, acks, counted_more}
use Rattle.sm_acks.specs.Counters.{AckView, ahead}
use Rattle.sm_acks.specs.Delivery.{Acknowledge, beginning, Direction, Handle, IsReceiver, IsSender, Moves, Put, Reached, Resume}
use Rattle.sm_acks.specs.Queues.{PoolView, list_of, stanzas_of}
use Rattle.sm_resumption.proofs.RowFacts.{KeepsNumber, eqb_other, eqb_same, found_by_number, number_is, row_of_bounds, row_of_push_other, row_of_with_other, row_of_without_other, without_none}
use Rattle.sm_resumption.proofs.StoredFacts.{Tried}
use Rattle.sm_resumption.specs.Deliveries.{OthersStand, Stands}
use Rattle.sm_resumption.specs.Housed.{Drops, IsFree, IsGone, IsHoused, IsSame}
use Rattle.sm_resumption.specs.Moves.{DropsExpired, HandsOver, Joins, Leaves, PoolAcknowledged, PoolResumed, ack_answer, acknowledged, handling, is_expired, is_too_high, resume_answer, resume_ok, resumed, rows_resumed}
use Rattle.sm_resumption.specs.Rows.{IsTable, RisesTo, row_of, with_row, without}
use Rattle.sm_resumption.specs.Stored.{collected}
use Rattle.sm_resumption.specs.declared.answers.ResumeFault.{ResumeFault}
use Rattle.sm_resumption.specs.declared.answers.ResumeOk.{ResumeOk}
use Rattle.sm_resumption.specs.declared.session.Row.{Row}

-- a session whose queue is as it was
pub stands : (r after : Row) (old new : PoolView) → after.end ≡ r.end → stanzas_of r.end.queue new ≡ stanzas_of r.end.queue old → Stands r after old new
stands r after old new end same =
    record {
      sends = λ d is. rw end (record { count = is.count; within = is.within; queue = same ∙ is.queue });
      receives = λ d is. rw end is;
    }

-- a stanza that is put
pub sender_put : (stanza : List ℕ) (r : Row) (old new : PoolView) (d next : Direction (List ℕ)) → Joins stanza r old new → IsSender r.end old d → Moves (Put stanza) d next → IsSender r.end new next
sender_put stanza r old new d next joins sender move =
    let put : next.put ≡ d.put ++ stanza ∷ [] = ap (λ (e : Direction (List ℕ)). e.put) move in
    let acked : next.acked ≡ d.acked = ap (λ (e : Direction (List ℕ)). e.acked) move in
    let list : list_of r.end.queue old ≡ drop d.acked d.put = ap (λ o. unwrap_or o []) sender.queue in
    let size : length (d.put ++ stanza ∷ []) ≡ length d.put + 1 = length_push d.put stanza in
    let within : d.acked ≤ length d.put = sender.within in
    record {
      count = sender.count ∙ ap (λ m. m % 2 ^ 32) (sym acked);
      within = rw (put, acked) (omega arith);
      queue = joins.all ∙ ap (λ l. Some (l ++ stanza ∷ [])) list ∙ ap Some (sym (drop-append-le d.acked d.put (stanza ∷ []) within)) ∙ rw (put, acked) refl;
    }

-- the sending end after it took the count, with the stanzas that are left in its queue
sender_after : (h n : ℕ) (r : Row) (end : AckView) (old new : PoolView) (d next : Direction (List ℕ)) → Acks r.end old d n h → h ≡ n % 2 ^ 32 → end.acked ≡ h →
    stanzas_of end.queue new ≡ Some (drop (ahead h r.end.acked) (list_of r.end.queue old)) → next.put ≡ d.put → next.acked ≡ n → IsSender end new next
sender_after h n r end old new d next facts is count rest put acked =
    record {
      count = count ∙ is ∙ ap (λ m. m % 2 ^ 32) (sym acked);
      within = rw (acked, put) facts.within;
      queue = rest ∙ ap (λ k. Some (drop k (list_of r.end.queue old))) facts.exact ∙ ap Some facts.left ∙ rw (acked, put) refl;
    }

not_high : (h n : ℕ) (r : Row) (old : PoolView) (d : Direction (List ℕ)) → Acks r.end old d n h → is_too_high h r old ≡ false
not_high h n r old d facts = within (length (list_of r.end.queue old)) (ahead h r.end.acked) (let exact = facts.exact in let enough = facts.enough in omega arith)
  where
    within : (q a : ℕ) → a ≤ q → nat_lt q a ≡ false
    within q a low = grind (arith, nat_tests)

-- a count that was stated, at an acknowledgement
pub sender_acknowledged : (h n : ℕ) (r : Row) (old new : PoolView) (d next : Direction (List ℕ)) → length (list_of r.end.queue old) ≤ 10000 → PoolAcknowledged h r old new → Reached d → IsSender r.end old d → Moves (Acknowledge n) d next → h ≡ n % 2 ^ 32 →
    (ack_answer h r old ≡ Ok (n - d.acked)) × IsSender (acknowledged h r).end new next
sender_acknowledged h n r old new d next few change reached sender move is =
    let stated : n ≤ length d.got = (kept_reached d reached).stated n move.0 in
    let facts : Acks r.end old d n h = acks r.end old d n h reached sender stated move.1 is few in
    let low : is_too_high h r old ≡ false = not_high h n r old d facts in
    let leaves : Leaves (ahead h r.end.acked) r old new = rw low at change in (
      rw low (ap Ok facts.exact),
      sender_after h n r (acknowledged h r).end old new d next facts is refl leaves.rest (ap (λ (e : Direction (List ℕ)). e.put) move.2) (ap (λ (e : Direction (List ℕ)). e.acked) move.2),
    )

-- at a resumption, where the count is what was handled, or one that was stated before
resumed_at : (h n conn queue : ℕ) (r : Row) (old new : PoolView) (d next : Direction (List ℕ)) → PoolResumed h queue (Some r) old new → Acks r.end old d n h → h ≡ n % 2 ^ 32 → next.put ≡ d.put → next.acked ≡ n →
    (resume_answer h (Some r) old ≡ Ok (resume_ok r)) × IsSender (resumed h conn queue r).end new next
resumed_at h n conn queue r old new d next change facts is put acked =
    let low : is_too_high h r old ≡ false = not_high h n r old d facts in
    let hands : HandsOver (ahead h r.end.acked) queue r old new = rw low at change in
    (rw low refl, sender_after h n r (resumed h conn queue r).end old new d next facts is refl hands.rest put acked)

pub sender_resumed : (h conn queue : ℕ) (r : Row) (old new : PoolView) (d next : Direction (List ℕ)) → length (list_of r.end.queue old) ≤ 10000 → PoolResumed h queue (Some r) old new → Reached d → IsSender r.end old d → Moves Resume d next → h ≡ length d.got % 2 ^ 32 →
    (resume_answer h (Some r) old ≡ Ok (resume_ok r)) × IsSender (resumed h conn queue r).end new next
sender_resumed h conn queue r old new d next few change reached sender move is =
    let facts : Acks r.end old d (length d.got) h = acks r.end old d (length d.got) h reached sender (omega arith) (kept_reached d reached).acked is few in
    resumed_at h (length d.got) conn queue r old new d next change facts is (ap (λ (e : Direction (List ℕ)). e.put) move) (ap (λ (e : Direction (List ℕ)). e.acked) move)

pub sender_resumed_late : (h n conn queue : ℕ) (r : Row) (old new : PoolView) (d next : Direction (List ℕ)) → length (list_of r.end.queue old) ≤ 10000 → PoolResumed h queue (Some r) old new → Reached d → IsSender r.end old d → Moves (Acknowledge n) d next → h ≡ n % 2 ^ 32 →
    (resume_answer h (Some r) old ≡ Ok (resume_ok r)) × IsSender (resumed h conn queue r).end new next
sender_resumed_late h n conn queue r old new d next few change reached sender move is =
    let stated : n ≤ length d.got = (kept_reached d reached).stated n move.0 in
    let facts : Acks r.end old d n h = acks r.end old d n h reached sender stated move.1 is few in
    resumed_at h n conn queue r old new d next change facts is (ap (λ (e : Direction (List ℕ)). e.put) move.2) (ap (λ (e : Direction (List ℕ)). e.acked) move.2)

-- the other sessions
pub others_stand : (n : ℕ) (x : Row) (rows after : List Row) (old new : PoolView) → row_of n rows ≡ Some x → ((m : ℕ) → m ≢ n → row_of m after ≡ row_of m rows) →
    ((m : ℕ) (s : Row) → row_of m rows ≡ Some s → m ≢ n → stanzas_of s.end.queue new ≡ stanzas_of s.end.queue old) → OthersStand (Some x) rows after old new
others_stand n x rows after old new is same kept m s found apart =
    let number : x.shown.number ≡ n = number_is n x rows is in
    let other : m ≢ n = λ equal. apart (equal ∙ sym number) in
    (same m other ∙ found, stands s s old new refl (kept m s found other))

pub others_of_none : (rows after : List Row) (old new : PoolView) → after ≡ rows → IsSame old new → OthersStand None rows after old new
others_of_none rows after old new are same m s found apart = (ap (row_of m) are ∙ found, stands s s old new refl (same.each s.end.queue))

-- where the queue of one session alone changed
pub others_of_queue : (n : ℕ) (x : Row) (rows : List Row) (old new : PoolView) → row_of n rows ≡ Some x → IsHoused rows old → ((q : ℕ) → q ≢ x.end.queue → stanzas_of q new ≡ stanzas_of q old) →
    (m : ℕ) (s : Row) → row_of m rows ≡ Some s → m ≢ n → stanzas_of s.end.queue new ≡ stanzas_of s.end.queue old
others_of_queue n x rows old new is housed others m s found other = others s.end.queue (housed.apart m n s x found is other)

-- a stanza that is handled
receiver_handled : (r : Row) (d next : Direction (List ℕ)) → IsReceiver r.end d → Moves Handle d next → IsReceiver (handling r).end next
receiver_handled r d next receiver move =
    let got : next.got ≡ d.got ++ move.0 ∷ [] = ap (λ (e : Direction (List ℕ)). e.got) move.3 in
    let size : length (d.got ++ move.0 ∷ []) ≡ length d.got + 1 = length_push d.got move.0 in
    record { count = ap (λ m. (m + 1) % 2 ^ 32) receiver.count ∙ counted_more (length d.got) ∙ ap (λ m. m % 2 ^ 32) (sym size) ∙ ap (λ l. length l % 2 ^ 32) (sym got) }

pub handles_if : (o : Option Row) → IfSome o (λ r. (d next : Direction (List ℕ)) → IsReceiver r.end d → Moves Handle d next → IsReceiver (handling r).end next)
handles_if None = tt
handles_if (Some r) = receiver_handled r

-- a call that changes a session where it is well
pub tried_others : {T E : Type 0} (t : Result T E) (n next : ℕ) (f : Row → Row) (x : Row) (get : ℕ → Option Row) (numbers : List ℕ) (rows : List Row) → KeepsNumber f → Tried t n next f x get numbers rows →
    (m : ℕ) → m ≢ n → row_of m (collected get numbers) ≡ row_of m rows
tried_others (Ok v) n next f x get numbers rows keeps tried m other = ap (row_of m) tried.ok ∙ row_of_with_other m n f rows keeps other
tried_others (Err e) n next f x get numbers rows keeps tried m other = ap (row_of m) tried.err

pub acknowledged_others : (h : ℕ) (x : Row) (old new : PoolView) → PoolAcknowledged h x old new → (q : ℕ) → q ≢ x.end.queue → stanzas_of q new ≡ stanzas_of q old
acknowledged_others h x old new change q other = go (is_too_high h x old) change
  where
    go : (b : Bool) → MatchBool b (IsSame old new) (Leaves (ahead h x.end.acked) x old new) → stanzas_of q new ≡ stanzas_of q old
    go true same = same.each q
    go false leaves = leaves.others q other

-- a resumption, where a session is found
pub resumes_if : (h conn queue : ℕ) (o : Option Row) (result : Result ResumeOk ResumeFault) (old new : PoolView) → result ≡ resume_answer h o old → PoolResumed h queue o old new → ((r : Row) → o ≡ Some r → length (list_of r.end.queue old) ≤ 10000) →
    IfSome o (λ r. (d next : Direction (List ℕ)) → Reached d → IsSender r.end old d → Moves Resume d next → h ≡ length d.got % 2 ^ 32 → (result ≡ Ok (resume_ok r)) × IsSender (resumed h conn queue r).end new next)
resumes_if h conn queue None result old new answer change few = tt
resumes_if h conn queue (Some r) result old new answer change few = λ d next reached sender move is.
    let after = sender_resumed h conn queue r old new d next (few r refl) change reached sender move is in
    (answer ∙ after.0, after.1)

pub late_if : (h conn queue : ℕ) (o : Option Row) (result : Result ResumeOk ResumeFault) (old new : PoolView) → result ≡ resume_answer h o old → PoolResumed h queue o old new → ((r : Row) → o ≡ Some r → length (list_of r.end.queue old) ≤ 10000) →
    IfSome o (λ r. (n : ℕ) (d next : Direction (List ℕ)) → Reached d → IsSender r.end old d → Moves (Acknowledge n) d next → h ≡ n % 2 ^ 32 → (result ≡ Ok (resume_ok r)) × IsSender (resumed h conn queue r).end new next)
late_if h conn queue None result old new answer change few = tt
late_if h conn queue (Some r) result old new answer change few = λ n d next reached sender move is.
    let after = sender_resumed_late h n conn queue r old new d next (few r refl) change reached sender move is in
    (answer ∙ after.0, after.1)

-- the other sessions at a resumption
pub resumed_others : (h conn queue next : ℕ) (p : Row → Bool) (o : Option Row) (rows : List Row) (old new : PoolView) → IsTable rows next → find p rows ≡ o → IsHoused rows old → IsFree queue rows old → PoolResumed h queue o old new →
    OthersStand o rows (rows_resumed h conn queue o old rows) old new
resumed_others h conn queue next p None rows old new table is housed free change = others_of_none rows rows old new refl change
resumed_others h conn queue next p (Some r) rows old new table is housed free change = go (is_too_high h r old) change
  where
    found : row_of r.shown.number rows ≡ Some r
    found = found_by_number next 1 p r rows table.ascending is

    go : (b : Bool) → MatchBool b (IsGone r.end.queue old new) (HandsOver (ahead h r.end.acked) queue r old new) →
        OthersStand (Some r) rows (cond b (without r.shown.number rows) (with_row r.shown.number (resumed h conn queue) rows)) old new
    go true gone =
        others_stand r.shown.number r rows (without r.shown.number rows) old new found (λ m other. row_of_without_other m r.shown.number rows other)
        (others_of_queue r.shown.number r rows old new found housed gone.others)
    go false hands =
        others_stand r.shown.number r rows (with_row r.shown.number (resumed h conn queue) rows) old new found
        (λ m other. row_of_with_other m r.shown.number (resumed h conn queue) rows (record { same = λ s. refl }) other)
        (λ m s is_there other. hands.others s.end.queue (free.unused m s is_there) (housed.apart m r.shown.number s r is_there found other))

-- a session that ends, where there is one
pub ended_others : (n : ℕ) (o : Option Row) (rows : List Row) (old new : PoolView) → row_of n rows ≡ o → IsHoused rows old → Drops o old new → OthersStand o rows (without n rows) old new
ended_others n None rows old new is housed same = others_of_none rows (without n rows) old new (without_none n rows is) same
ended_others n (Some r) rows old new is housed gone =
    others_stand n r rows (without n rows) old new is (λ m other. row_of_without_other m n rows other) (others_of_queue n r rows old new is housed gone.others)

-- and then a session more
pub bound_others : (next low : ℕ) (o : Option Row) (x : Row) (rows rest : List Row) (old new : PoolView) → RisesTo next low rows → x.shown.number ≡ next → OthersStand o rows rest old new → OthersStand o rows (rest ++ x ∷ []) old new
bound_others next low o x rows rest old new rise number stand m s found apart =
    let kept = stand m s found apart in
    let below : m < next = (row_of_bounds next low m s rows rise found).1 in
    (row_of_push_other m x rest (omega arith) ∙ kept.0, kept.1)

-- a new session, on a queue that is free
pub begins : (end : AckView) (rows : List Row) (pool : PoolView) → end.acked ≡ 0 → end.handled ≡ 0 → IsFree end.queue rows pool → IsSender end pool beginning × IsReceiver end beginning
begins end rows pool acked handled free = (record { count = acked; within = omega arith; queue = free.empty }, record { count = handled })

pub none_mapped : {A : Type 0} (f : Row → A) (o : Option Row) → None ≡ option_map f o → o ≡ None
none_mapped f None is = refl
none_mapped f (Some r) is = absurd (none-some (f r) is)

-- a session that a test keeps
kept_by : (p : Row → Bool) (n : ℕ) (r : Row) (rows : List Row) → row_of n rows ≡ Some r → p r ≡ true → row_of n (filter p rows) ≡ Some r
kept_by p n r [] is passes = cc
kept_by p n r (s ∷ rows) is passes =
    elim (cases_eq s.shown.number n) [
      | inl same ↦
          let here : (s.shown.number == n) ≡ true = rw same (eqb_same n) in
          let first : s ≡ r = same_Some s r (rw here at is) in
          let passed : p s ≡ true = ap p first ∙ passes in
          rw passed (rw here (ap Some first))
      | inr other ↦
          let there : (s.shown.number == n) ≡ false = eqb_other s.shown.number n other in
          let rest : row_of n (filter p rows) ≡ Some r = kept_by p n r rows (rw there at is) passes in
          elim (cases_Bool (p s)) [
            | inl passed ↦ rw passed (rw there rest)
            | inr failed ↦ rw failed rest
          ]
    ]

-- the sessions that did not expire
pub unexpired_stand : (now : ℕ) (rows after : List Row) (old new : PoolView) → IsHoused rows old → after ≡ filter (λ r. not (is_expired now r)) rows → DropsExpired now rows old new →
    (n : ℕ) (r : Row) → row_of n rows ≡ Some r → is_expired now r ≡ false → (row_of n after ≡ Some r) × Stands r r old new
unexpired_stand now rows after old new housed are drops n r is stays = (
  ap (row_of n) are ∙ kept_by (λ s. not (is_expired now s)) n r rows is (ap not stays),
  stands r r old new refl (drops.others r.end.queue apart),
)
  where
    apart : (m : ℕ) (s : Row) → row_of m rows ≡ Some s → is_expired now s ≡ true → r.end.queue ≢ s.end.queue
    apart m s found expired same =
        elim (cases_eq m n) [
          | inl equal ↦
              let one : s ≡ r = same_Some s r (sym found ∙ ap (λ k. row_of k rows) equal ∙ is) in
              false≢true (sym stays ∙ ap (is_expired now) (sym one) ∙ expired)
          | inr other ↦ housed.apart m n s r found is other (sym same)
        ]
