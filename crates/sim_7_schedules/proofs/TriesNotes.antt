-- What is noted of a client, and what its log and its submissions tell of a try, beside the applications that these show.
use Rattle.std.proofs.Common.{◌≡◌, ◌⊎◌, ℕ, zero, suc, ◌+◌, ◌-◌, ◌==◌, Bool, true, false, cond, List, [], ◌∷◌, ◌++◌, Some, is_some, drop, length, map, take, refl, sym, ap, ap₂, ◌∙◌, subst, arith, append_assoc, inl, inr}
use Rattle.std.proofs.Math.Bool.{and-false}
use Rattle.std.proofs.lemmas.Bool.{and_from, false≢true, leb-false, lt-ltb, or_left, or_right}
use Rattle.std.proofs.lemmas.List.{drop-map, length-map}
use Rattle.std.proofs.lemmas.List.Folds.{list_any-append}
use Rattle.std.specs.List.{flat_map, list_any, slice_get}
use Rattle.std.specs.Option.{option_map_or}
use Rattle.std.specs.Prelude.{◌&&◌, ◌||◌, nat_lt, not}
use Rattle.cl_handlers.specs.Clients.{ClientView}
use Rattle.cl_intents.specs.Intents as intents
use Rattle.cl_intents.specs.Intents.{IntentsView, intent_state, last_try}
use Rattle.cl_intents.specs.States as states
use Rattle.cl_intents.specs.States.{has_gap, number_before, state_of}
use Rattle.cl_intents.specs.declared.intents.Intent.{Intent}
use Rattle.cl_intents.specs.declared.intents.Try.{Try}
use Rattle.cl_intents.specs.declared.states.IntentState.TheVariants as state
use Rattle.cmd_direct.specs.Direct.{as_logged}
use Rattle.cmd_network.specs.DeviceLines.{mark_of, said_line}
use Rattle.cmd_report.specs.declared.report.SaidLine.{SaidLine}
use Rattle.cmd_report.specs.declared.report.SaidMark.{SaidMark}
use Rattle.cmd_report.specs.declared.report.SaidMark.TheVariants as mark
use Rattle.law_intents.specs.Intents as law
use Rattle.law_intents.specs.Intents.{Notes}
use Rattle.mam_archive.specs.Entries.{EntryView}
use Rattle.mam_log.specs.declared.log_entry.LogEntry.{LogEntry}
use Rattle.sim_1_applications.specs.Devices.{Device, Session, Tile, up_put}
use Rattle.sim_1_applications.specs.Events.{is_among}
use Rattle.sim_1_applications.specs.Reported as reported
use Rattle.sim_1_applications.specs.Reported.{said_among, said_in, said_of}
use Rattle.sim_1_applications.specs.Stanzas.{Submission, Up, messages}
use Rattle.sim_1_applications.specs.Stanzas.Up.{Carbons, Presence, Message, Query}
use Rattle.sim_1_applications.proofs.Lists.{all_front, all_rest}
use Rattle.sim_1_applications.proofs.Spoken.{put_of, submitted}
use Rattle.sim_5_devices.proofs.Entries.{at_first, logged_at}
use Rattle.sim_5_devices.specs.Shown.{AreGiven, tile_shown}
use Rattle.sim_7_schedules.proofs.TriesSent.{GoesTo}
use Rattle.sm_outbox.specs.Submissions.{all_said}
use Rattle.sm_outbox.specs.declared.said.Said.{Said}
use Rattle.sm_outbox.specs.declared.said.SaidState.{SaidState}
use Rattle.sm_outbox.specs.declared.said.SaidState.TheVariants as said

-- ---- notes

abbrev pub as_notes : IntentsView → Notes
as_notes v = record { seen = v.seen; mark = v.mark; sure = v.sure }

complete_same : (keep : ℕ) (ts : List Tile) → intents.has_complete (map (tile_shown keep) ts) ≡ law.has_complete ts
complete_same keep [] = refl
complete_same keep (t ∷ ts) = ap (λ b. is_some t.total || b) (complete_same keep ts)

abbrev notes_with : IntentsView → ℕ → ℕ → Bool → Notes
notes_with v epoch many complete = record { seen = epoch; mark = cond (epoch == v.seen) v.mark many; sure = cond complete v.seen v.sure }

pub observed_same : (keep : ℕ) (c : ClientView (List ℕ)) (v : IntentsView) (epoch : ℕ) (ts : List Tile) → c.epoch ≡ epoch → c.log.tiles ≡ map (tile_shown keep) ts → as_notes (intents.observed c v) ≡ law.observed epoch ts (as_notes v)
observed_same keep c v epoch ts same tiles =
    ap (λ e. notes_with v e (length c.log.tiles) (intents.has_complete (drop v.mark c.log.tiles))) same
    ∙ ap (λ n. notes_with v epoch n (intents.has_complete (drop v.mark c.log.tiles))) (ap length tiles ∙ length-map ts (tile_shown keep))
    ∙ ap (notes_with v epoch (length ts)) (ap (λ l. intents.has_complete (drop v.mark l)) tiles ∙ ap intents.has_complete (drop-map (tile_shown keep) v.mark ts) ∙ complete_same keep (drop v.mark ts))

-- ---- tries

abbrev pub as_try : Try → law.Try
as_try t = record { epoch = t.epoch; n = t.n; logged = t.logged }

abbrev pub newest_first : List Try → List law.Try
newest_first [] = []
newest_first (t ∷ ts) = newest_first ts ++ as_try t ∷ []

pub newest_more : (ts : List Try) (t : Try) → newest_first (ts ++ t ∷ []) ≡ as_try t ∷ newest_first ts
newest_more [] t = refl
newest_more (u ∷ ts) t = ap (λ l. l ++ as_try u ∷ []) (newest_more ts t)

-- the last one is the newest
pub record HasLast (ts : List Try) : Type 0 where
  pub newest : Try
  pub older : List law.Try
  pub is : last_try ts ≡ Some newest
  pub first : newest_first ts ≡ as_try newest ∷ older

pub has_last : (t : Try) (ts : List Try) → HasLast (t ∷ ts)
has_last t [] = record { newest = t; older = []; is = refl; first = refl }
has_last t (u ∷ ts) =
    let rest = has_last u ts in
    let index : length (t ∷ u ∷ ts) - 1 ≡ suc (length (u ∷ ts) - 1) = omega arith in
    record { newest = rest.newest; older = rest.older ++ as_try t ∷ []; is = ap (slice_get (t ∷ u ∷ ts)) index ∙ rest.is; first = ap (λ l. l ++ as_try t ∷ []) rest.first }

-- ---- holes

abbrev number_of : LogEntry → ℕ
number_of e = e.entry.number

gap_same : (before : ℕ) (es : List LogEntry) → has_gap before es ≡ law.has_hole_from zero before (map number_of es)
gap_same before [] = refl
gap_same before (e ∷ es) = ap (λ b. not (e.entry.number == before + 1) || b) (gap_same e.entry.number es)

-- the number before an index
abbrev index_number : ℕ → ℕ → List LogEntry → ℕ
index_number zero before es = before
index_number (suc k) before es = number_before (suc k) es

hole_same : (k before : ℕ) (es : List LogEntry) → has_gap (index_number k before es) (drop k es) ≡ law.has_hole_from k before (map number_of es)
hole_same zero before es = gap_same before es
hole_same (suc k) before [] = refl
hole_same (suc zero) before (e ∷ es) = gap_same e.entry.number es
hole_same (suc (suc k)) before (e ∷ es) = hole_same (suc k) e.entry.number es

hole_at : (k : ℕ) (es : List LogEntry) → states.has_hole k es ≡ law.has_hole k (map number_of es)
hole_at zero es = hole_same zero 0 es
hole_at (suc k) es = hole_same (suc k) 0 es

numbers_are : (history : List EntryView) (ns : List ℕ) → AreGiven history ns → map number_of (logged_at history ns) ≡ ns
numbers_are history [] given = refl
numbers_are history (n ∷ ns) given = ap (λ es. map number_of (map as_logged es)) (at_first history n ns given.0) ∙ ap₂ (λ m l. m ∷ l) given.0.number (numbers_are history ns given.1)

pub hole_is : (history : List EntryView) (ns : List ℕ) (k : ℕ) (es : List LogEntry) → es ≡ logged_at history ns → AreGiven history ns → states.has_hole k es ≡ law.has_hole k ns
hole_is history ns k es are given = hole_at k es ∙ ap (λ l. law.has_hole k (map number_of l)) are ∙ ap (law.has_hole k) (numbers_are history ns given)

-- ---- acknowledgements

abbrev is_acknowledged : SaidMark → Bool
is_acknowledged mark.Acknowledged = true
is_acknowledged mark.Waiting = false
is_acknowledged mark.Undecided = false

abbrev is_line_of : Try → SaidLine → Bool
is_line_of t l = (l.epoch == t.epoch && l.n == t.n) && is_acknowledged l.state

same_mark : (s : SaidState) → states.is_acknowledged s ≡ is_acknowledged (mark_of s)
same_mark said.Acknowledged = refl
same_mark said.Waiting = refl
same_mark said.Undecided = refl

said_lines : (t : Try) (xs : List Said) → states.is_said states.is_acknowledged t xs ≡ list_any (is_line_of t) (map said_line xs)
said_lines t [] = refl
said_lines t (x ∷ xs) = ap₂ (λ a b. ((x.epoch == t.epoch && x.n == t.n) && a) || b) (same_mark x.state) (said_lines t xs)

either : (a b : Bool) → (a || b) ≡ true → (a ≡ true) ⊎ (b ≡ true)
either true b is = inl refl
either false b is = inr is

module _ (t : Try) (to : List ℕ) (accounts : List (List ℕ)) (among : is_among to accounts ≡ true) where
  abbrev exists : Submission → Bool
  exists m = law.is_submission (as_try t) m && is_among m.to accounts

  -- a line that isn't marked so is none
  none_marked : (m : SaidMark) (zs : List Up) → is_acknowledged m ≡ false → list_any (is_line_of t) (said_among 0 m zs) ≡ false
  none_marked m [] no_mark = refl
  none_marked m (Carbons ∷ zs) no_mark = none_marked m zs no_mark
  none_marked m (Presence ∷ zs) no_mark = none_marked m zs no_mark
  none_marked m (Query r ∷ zs) no_mark = none_marked m zs no_mark
  none_marked m (Message s ∷ zs) no_mark = ap₂ (λ a b. a || b) (ap (λ b. (s.epoch == t.epoch && s.n == t.n) && b) no_mark ∙ and-false (s.epoch == t.epoch && s.n == t.n)) (none_marked m zs no_mark)

  less_one : (a : ℕ) → suc a - 1 ≡ a
  less_one a = omega arith

  some_left : (a : ℕ) → nat_lt 0 (suc a) ≡ true
  some_left a = lt-ltb 0 (suc a) (omega arith)

  -- a message that is marked so, or one behind it
  among_by : (s : Submission) (rest : List SaidLine) (others : List Submission) (b : Bool) → law.is_submission (as_try t) s ≡ b → (law.is_submission (as_try t) s ≡ true → s.to ≡ to) → (list_any (is_line_of t) rest ≡ true → list_any exists others ≡ true)
      → ((b && true) || list_any (is_line_of t) rest) ≡ true → (exists s || list_any exists others) ≡ true
  among_by s rest others true own goes later found =
      or_left (exists s) (list_any exists others) (and_from (law.is_submission (as_try t) s) (is_among s.to accounts) own (ap (λ x. is_among x accounts) (goes own) ∙ among))
  among_by s rest others false own goes later found = or_right (exists s) (list_any exists others) (later found)

  among_lines : (a : ℕ) (m : SaidMark) (zs : List Up) → is_acknowledged m ≡ false → list_any (is_line_of t) (said_among a m zs) ≡ true → GoesTo to (as_try t) (messages zs) → list_any exists (messages (take a zs)) ≡ true
  among_lines zero m zs no_mark is goes = absurd (false≢true (sym (none_marked m zs no_mark) ∙ is))
  among_lines (suc a) m [] no_mark is goes = absurd (false≢true is)
  among_lines (suc a) m (Carbons ∷ zs) no_mark is goes = among_lines a m zs no_mark (sym (ap (λ k. list_any (is_line_of t) (said_among k m zs)) (less_one a)) ∙ is) goes
  among_lines (suc a) m (Presence ∷ zs) no_mark is goes = among_lines a m zs no_mark (sym (ap (λ k. list_any (is_line_of t) (said_among k m zs)) (less_one a)) ∙ is) goes
  among_lines (suc a) m (Query r ∷ zs) no_mark is goes = among_lines a m zs no_mark (sym (ap (λ k. list_any (is_line_of t) (said_among k m zs)) (less_one a)) ∙ is) goes
  among_lines (suc a) m (Message s ∷ zs) no_mark is goes =
      among_by s (said_among (suc a - 1) m zs) (messages (take a zs)) (law.is_submission (as_try t) s) refl goes.0
      (λ found. among_lines a m zs no_mark (sym (ap (λ k. list_any (is_line_of t) (said_among k m zs)) (less_one a)) ∙ found) goes.1)
      (sym (ap (λ b. (law.is_submission (as_try t) s && is_acknowledged (cond b mark.Acknowledged m)) || list_any (is_line_of t) (said_among (suc a - 1) m zs)) (some_left a)) ∙ is)

  abbrev is_session : Session → Bool
  is_session s = list_any exists (messages (take s.acked (up_put s)))

  among_sessions : (past : List Session) (now : Session) (m : SaidMark) → is_acknowledged m ≡ false → list_any (is_line_of t) (flat_map (said_in mark.Undecided) past ++ said_in m now) ≡ true
      → GoesTo to (as_try t) (flat_map put_of past ++ put_of now) → list_any is_session (past ++ now ∷ []) ≡ true
  among_sessions [] now m no_mark is goes = or_left (is_session now) false (among_lines now.acked m (up_put now) no_mark is goes)
  among_sessions (s ∷ past) now m no_mark is goes =
      let rest = flat_map (said_in mark.Undecided) past ++ said_in m now in
      let split : (said_in mark.Undecided s ++ flat_map (said_in mark.Undecided) past) ++ said_in m now ≡ said_in mark.Undecided s ++ rest = append_assoc (said_in mark.Undecided s) (flat_map (said_in mark.Undecided) past) (said_in m now) in
      let cut : (put_of s ++ flat_map put_of past) ++ put_of now ≡ put_of s ++ (flat_map put_of past ++ put_of now) = append_assoc (put_of s) (flat_map put_of past) (put_of now) in
      let all : GoesTo to (as_try t) (put_of s ++ (flat_map put_of past ++ put_of now)) = subst (GoesTo to (as_try t)) cut goes in
      elim (either (list_any (is_line_of t) (said_in mark.Undecided s)) (list_any (is_line_of t) rest) (sym (ap (list_any (is_line_of t)) split ∙ list_any-append (is_line_of t) (said_in mark.Undecided s) rest) ∙ is)) [
        | inl here ↦ or_left (is_session s) (list_any is_session (past ++ now ∷ [])) (among_lines s.acked mark.Undecided (up_put s) refl here (all_front _ (put_of s) (flat_map put_of past ++ put_of now) all))
        | inr later ↦ or_right (is_session s) (list_any is_session (past ++ now ∷ [])) (among_sessions past now m no_mark later (all_rest _ (put_of s) (flat_map put_of past ++ put_of now) all))
      ]

  no_mark_of : (online : Bool) → is_acknowledged (reported.mark_of online) ≡ false
  no_mark_of true = refl
  no_mark_of false = refl

  pub acknowledged_same : (c : ClientView (List ℕ)) (d : Device) → map said_line (all_said c.said) ≡ said_of d.sessions → GoesTo to (as_try t) (submitted d.sessions)
      → states.is_said states.is_acknowledged t (all_said c.said) ≡ true → law.is_acknowledged accounts (as_try t) d ≡ true
  acknowledged_same c d are goes is =
      among_sessions d.sessions.past d.sessions.now (reported.mark_of d.sessions.online) (no_mark_of d.sessions.online)
      (sym (said_lines t (all_said c.said) ∙ ap (list_any (is_line_of t)) are) ∙ is) goes

-- ---- states

-- what an absent one is, and a done one
absent_parts : (a l w u h : Bool) → cond (a || l) state.Done (cond w state.Waiting (cond u state.Undecided (cond h state.Unsure state.Absent))) ≡ state.Absent → (l ≡ false) × (u ≡ false) × (h ≡ false)
absent_parts true l w u h is = absurd (let bad : ⊥ = cc in bad)
absent_parts false true w u h is = absurd (let bad : ⊥ = cc in bad)
absent_parts false false true u h is = absurd (let bad : ⊥ = cc in bad)
absent_parts false false false true h is = absurd (let bad : ⊥ = cc in bad)
absent_parts false false false false true is = absurd (let bad : ⊥ = cc in bad)
absent_parts false false false false false is = (refl, refl, refl)

done_parts : (a l w u h : Bool) → cond (a || l) state.Done (cond w state.Waiting (cond u state.Undecided (cond h state.Unsure state.Absent))) ≡ state.Done → (a ≡ true) ⊎ (l ≡ true)
done_parts true l w u h is = inl refl
done_parts false true w u h is = inr refl
done_parts false false true u h is = absurd (let bad : ⊥ = cc in bad)
done_parts false false false true h is = absurd (let bad : ⊥ = cc in bad)
done_parts false false false false true is = absurd (let bad : ⊥ = cc in bad)
done_parts false false false false false is = absurd (let bad : ⊥ = cc in bad)

module _ (full : List ℕ) (sure : ℕ) (c : ClientView (List ℕ)) where
  pub record IsAbsent (t : Try) : Type 0 where
    pub later : nat_lt t.epoch sure ≡ true
    pub whole : states.has_hole t.logged c.log.entries ≡ false
    pub unlogged : states.is_logged full t c.log.entries ≡ false

  absent_of : (t : Try) → state_of full sure c t ≡ state.Absent → IsAbsent t
  absent_of t is =
      let parts = absent_parts _ _ _ _ _ is in
      record { later = lt-ltb t.epoch sure (leb-false sure t.epoch parts.1); whole = parts.2; unlogged = parts.0 }

  -- of an intent, by its newest try
  pub absent_newest : (x : Intent) → intent_state full sure c x ≡ state.Absent → (has : HasLast x.tries.items) × IsAbsent has.newest
  absent_newest x is = by x.tries.items refl is
    where
      by : (ts : List Try) → x.tries.items ≡ ts → option_map_or (state_of full sure c) (last_try ts) state.Fresh ≡ state.Absent → (has : HasLast ts) × IsAbsent has.newest
      by [] are none = absurd (let bad : ⊥ = cc in bad)
      by (t ∷ ts) are some = let has = has_last t ts in (has, absent_of has.newest (sym (ap (λ o. option_map_or (state_of full sure c) o state.Fresh) has.is) ∙ some))

  pub done_newest : (x : Intent) → intent_state full sure c x ≡ state.Done
      → (has : HasLast x.tries.items) × ((states.is_said states.is_acknowledged has.newest (all_said c.said) ≡ true) ⊎ (states.is_logged full has.newest c.log.entries ≡ true))
  done_newest x is = by x.tries.items is
    where
      by : (ts : List Try) → option_map_or (state_of full sure c) (last_try ts) state.Fresh ≡ state.Done
          → (has : HasLast ts) × ((states.is_said states.is_acknowledged has.newest (all_said c.said) ≡ true) ⊎ (states.is_logged full has.newest c.log.entries ≡ true))
      by [] none = absurd (let bad : ⊥ = cc in bad)
      by (t ∷ ts) some = let has = has_last t ts in (has, done_parts _ _ _ _ _ (sym (ap (λ o. option_map_or (state_of full sure c) o state.Fresh) has.is) ∙ some))
