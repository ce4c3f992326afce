-- A session ends that the server doesn't count yet, with its connection.
use Rattle.std.proofs.Common.{◌≡◌, ℕ, true, false, refl, sym, ap, ◌∙◌, subst, ◌⊎◌, inl, inr, None, Some}
use Rattle.std.proofs.lemmas.Bool.{cases_eq}
use Rattle.sim_2_links.proofs.Entries.{at_other, Entry, New, Old, entry}
use Rattle.sim_2_links.proofs.CutLinks.{not_true, some_one, there_cut}
use Rattle.sim_2_links.proofs.Hands.{no_entry}
use Rattle.sim_2_links.proofs.ReadResumed.{phase_session}
use Rattle.sim_2_links.proofs.Detached.{carries_at, on_stands, reason_ends, fair_reason}
use Rattle.sim_2_links.proofs.Parked.{gone_off}
use Rattle.sim_2_links.proofs.Ends.{shut_at, shut_piped, shut_off}
use Rattle.sim_2_links.proofs.StepParts.{on_no_other, on_nowhere, GoesDownStill}
use Rattle.sim_2_links.specs.Wires.{up_words}
use Rattle.sim_2_links.specs.Stages.{Stage, AsksResume, Refused, Resumes, Binds, AsksEnable, Enables, Runs, phase_of, Ending, Stands, Conn, IsAt}
use Rattle.sim_2_links.specs.Views.{with_at, has, Session, Row, View, on_phase, session_on, carries}
use Rattle.sim_2_links.specs.SessionMoves.{shut}
use Rattle.sim_2_links.specs.EndMoves.{IsUncountedShut, IsUncountedGone}
use Rattle.sim_2_links.specs.Links.{carried_of, ArePiped, ConnKept, IsPlaced, RowKept, IsCarried, LinkKept}

-- what the way down of a connection carries is the session that the server has on it, where it has one
pub carried_is_held : {A : Type 0} (s : Stage A) (c : Conn A) (p q : ℕ) → IsAt s c → carries c ≡ Some p → session_on c ≡ Some q → p ≡ q
carried_is_held {A = A} s c p q at carried held = row s (sym (carries_at s c at) ∙ carried) (ap (λ x. on_phase x c.ending c.gone) (sym at.phase) ∙ held)
  where
    row : (t : Stage A) → carried_of t ≡ Some p → on_phase (phase_of t) c.ending c.gone ≡ Some q → p ≡ q
    row (Resumes n h downs) e f = let one : n ≡ p = cc in sym one ∙ phase_session n q c.ending c.gone f
    row (Enables n downs) e f = let one : n ≡ p = cc in sym one ∙ phase_session n q c.ending c.gone f
    row (Runs n ups downs) e f = let one : n ≡ p = cc in sym one ∙ phase_session n q c.ending c.gone f
    row (AsksResume n h) e f = no_entry p e
    row (Refused n) e f = no_entry p e
    row (Binds n) e f = no_entry p e
    row (AsksEnable n) e f = no_entry p e
    row _ e f = no_entry p e

-- and where the stream stands, the server has what it carries on it
pub carried_holds : {A : Type 0} (s : Stage A) (c : Conn A) (p : ℕ) → IsAt s c → carries c ≡ Some p → c.ending ≡ Stands → c.gone ≡ false → session_on c ≡ Some p
carried_holds {A = A} s c p at carried stands untold =
    ap (λ x. on_phase x c.ending c.gone) at.phase ∙ ap (λ x. on_phase (phase_of s) x c.gone) stands ∙ ap (λ x. on_phase (phase_of s) Stands x) untold ∙ row s (sym (carries_at s c at) ∙ carried)
  where
    row : (t : Stage A) → carried_of t ≡ Some p → on_phase (phase_of t) Stands false ≡ Some p
    row (Resumes n h downs) e = e
    row (Enables n downs) e = e
    row (Runs n ups downs) e = e
    row (AsksResume n h) e = no_entry p e
    row (Refused n) e = no_entry p e
    row (Binds n) e = no_entry p e
    row (AsksEnable n) e = no_entry p e
    row _ e = no_entry p e

pub uncounted_keeps : {A : Type 0} (v : View A) (k : ℕ) (old new : Conn A) (r : Row A) (is : v.conns k ≡ Some old) → v.row ≡ Some r → r.on ≡ Some k → r.counted ≡ false → (kept : LinkKept v) →
    IsAt (kept.conns k old is).stage new → session_on new ≡ None → ArePiped (has v.here k) new → LinkKept (record v { conns = with_at k new v.conns; row = None })
uncounted_keeps {A = A} v k old new r is is_row on yet kept at' off piped = record {
  there = λ n here. there_cut v kept k new n here;
  conns = λ n c found. conn n c (entry k new v.conns n c found);
  row = λ x e. no_entry x e;
  own = kept.own;
  sessions = kept.sessions;
  goes_down = λ n c p here found carried. down n c p here carried (entry k new v.conns n c found);
  idle_up = λ p t found counted. elim (kept.idle_up p t found counted) [ inl q ↦ inl q | inr x ↦ absurd (not_counted p t found counted x) ];
  idle_down = λ p t found counted. elim (kept.idle_down p t found counted) [ inl q ↦ inl q | inr c ↦ inr (carried_on p c) ];
  late = λ n c p found gone here carried. absurd (on_nowhere k new v (λ q e. no_entry q (sym off ∙ e)) (on_no_other v k r kept is_row on) n c p here (entry k new v.conns n c found));
}
  where
    was_kept : ConnKept v k old
    was_kept = kept.conns k old is

    row : RowKept v.conns v.sessions r
    row = kept.row r is_row

    held : session_on old ≡ Some r.number
    held =
        let placed : IsPlaced v.conns r row.session (Some k) = subst (λ o. IsPlaced v.conns r row.session o) on row.placed in
        subst (λ x. session_on x ≡ Some r.number) (some_one (v.conns k) placed.0 old placed.1 is) placed.2

    not_counted : (p : ℕ) (t : Session A) → v.sessions p ≡ Some t → t.counted ≡ true → (x : Row A) × (v.row ≡ Some x) × (x.number ≡ p) → ⊥
    not_counted p t found counted x =
        let same : r.number ≡ p = ap (λ (y : Row A). y.number) (some_one v.row r x.0 is_row x.1) ∙ x.2 in
        let one : row.session ≡ t = some_one (v.sessions p) row.session t (subst (λ n. v.sessions n ≡ Some row.session) same row.is) found in
        not_true yet (row.counted ∙ ap (λ (y : Session A). y.counted) one ∙ counted)

    -- the way down of this connection carries nothing, where the client works on it
    silent : (c : Conn A) (p : ℕ) → v.here ≡ Some k → c ≡ old → carries c ≡ Some p → ⊥
    silent c p here same carried =
        let carried_old : carries old ≡ Some p = subst (λ x. carries x ≡ Some p) same carried in
        let before = kept.goes_down k old p here is carried_old in
        not_counted p before.0 before.1 before.2.counted (r, is_row, sym (carried_is_held was_kept.stage old p r.number was_kept.at carried_old held))

    same_carried : carries new ≡ carries old
    same_carried = carries_at was_kept.stage new at' ∙ sym (carries_at was_kept.stage old was_kept.at)

    conn : (n : ℕ) (c : Conn A) → Entry k new v.conns n c → ConnKept (record v { conns = with_at k new v.conns; row = None }) n c
    conn n c (New same this) =
        let here : ConnKept (record v { conns = with_at k new v.conns; row = None }) k new = record {
          piped = piped;
          stage = was_kept.stage;
          at = at';
          asked = was_kept.asked;
          fits = was_kept.fits;
          attached = λ p e. no_entry p (sym off ∙ e);
          uncounted = λ x f on e. no_entry x f;
          counting = λ x f on p e. no_entry x f;
        } in
        subst (λ x. ConnKept (record v { conns = with_at k new v.conns; row = None }) x c) same (subst (λ x. ConnKept (record v { conns = with_at k new v.conns; row = None }) k x) this here)
    conn n c (Old ne there) =
        let before = kept.conns n c there in
        record { piped = before.piped; stage = before.stage; at = before.at; asked = before.asked; fits = before.fits; attached = λ p e. absurd (on_no_other v k r kept is_row on n c p ne there e); uncounted = λ x f on e. no_entry x f; counting = λ x f on p e. no_entry x f }

    down : GoesDownStill k new v
    down n c p here carried (New same this) = absurd (silent old p (here ∙ ap Some (sym same)) refl (sym same_carried ∙ subst (λ x. carries x ≡ Some p) (sym this) carried))
    down n c p here carried (Old ne there) = kept.goes_down n c p here there carried

    carried_on : (p : ℕ) → IsCarried v p → IsCarried (record v { conns = with_at k new v.conns; row = None }) p
    carried_on p (n, c, here, found, carried) = by (cases_eq k n)
      where
        by : (k ≡ n) ⊎ (k ≡ n → ⊥) → IsCarried (record v { conns = with_at k new v.conns; row = None }) p
        by (inl same) = absurd (silent c p (here ∙ ap Some (sym same)) (some_one (v.conns k) c old (subst (λ x. v.conns x ≡ Some c) (sym same) found) is) carried)
        by (inr ne) = (n, c, here, at_other k new v.conns n ne ∙ found, carried)

pub uncounted_shut_keeps : {A : Type 0} (k : ℕ) (ending : Ending) (v next : View A) → IsUncountedShut k ending v next → LinkKept v → LinkKept next
uncounted_shut_keeps {A = A} k ending v next m kept = subst LinkKept (sym m.gives) (uncounted_keeps v k m.conn (shut ending m.conn) m.row m.is m.is_row m.on m.uncounted kept
    (shut_at old.stage m.conn ending old.at stands) (shut_off m.conn ending (reason_ends ending (up_words m.conn.wires) m.reason))
    (shut_piped (has v.here k) m.conn ending (fair_reason old.stage m.conn (has v.here k) old.piped old.at ending m.reason) old.piped))
  where
    old : ConnKept v k m.conn
    old = kept.conns k m.conn m.is

    stands : m.conn.ending ≡ Stands
    stands =
        let row = kept.row m.row m.is_row in
        let placed : IsPlaced v.conns m.row row.session (Some k) = subst (λ o. IsPlaced v.conns m.row row.session o) m.on row.placed in
        on_stands m.conn.phase m.conn.ending m.conn.gone m.row.number (subst (λ x. session_on x ≡ Some m.row.number) (some_one (v.conns k) placed.0 m.conn placed.1 m.is) placed.2)

pub uncounted_gone_keeps : {A : Type 0} (k : ℕ) (v next : View A) → IsUncountedGone k v next → LinkKept v → LinkKept next
uncounted_gone_keeps {A = A} k v next m kept = subst LinkKept (sym m.gives) (uncounted_keeps v k m.conn (record m.conn { gone = true }) m.row m.is m.is_row m.on m.uncounted kept
    (record { client = old.at.client; phase = old.at.phase; up = old.at.up; down = old.at.down }) (gone_off m.conn.phase m.conn.ending)
    (record {
      flowing = λ e. absurd (not_true m.ended e);
      unfooted = old.piped.unfooted;
      fair = old.piped.fair;
      left = old.piped.left;
      ended = old.piped.ended;
      gone = λ e. m.empty;
    }))
  where
    old : ConnKept v k m.conn
    old = kept.conns k m.conn m.is
