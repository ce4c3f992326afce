-- The server takes a session from its connection, and rows end.
use Rattle.std.proofs.Common.{◌≡◌, ℕ, Bool, true, false, ◌&&◌, if◌then◌else◌, List, [], ◌∷◌, ◌++◌, length, refl, sym, ap, ◌∙◌, subst, arith, append_assoc, ◌⊎◌, inl, inr, Option, None, Some}
use Rattle.std.proofs.lemmas.Bool.{cases_eq}
use Rattle.std.specs.List.{Contains}
use Rattle.sm_acks.specs.Delivery.{Reached, Cut}
use Rattle.sim_2_links.proofs.Entries.{same_number, at_same, at_other, Entry, New, Old, entry, was, altered, is_has}
use Rattle.sim_2_links.proofs.DeliveryRuns.{reached_more}
use Rattle.sim_2_links.proofs.Cuts.{reached_cut_if}
use Rattle.sim_2_links.proofs.Tables.{send_down_whole, send_down_whole_up, halt_whole_up, halt_whole_down}
use Rattle.std.proofs.lemmas.List.{append-nil, take_all}
use Rattle.sim_2_links.proofs.CutLinks.{not_true, some_one, here_or_not, there_cut, quiet_cut, off_row}
use Rattle.sim_2_links.proofs.Counting.{down_counts_with, down_stanzas_with}
use Rattle.sim_2_links.proofs.Hands.{no_entry, stopped_away}
use Rattle.sim_2_links.proofs.Heard.{same_session}
use Rattle.sim_2_links.proofs.StepParts.{on_no_other, on_nowhere, RowAfter, GoesDownAfter}
use Rattle.sim_2_links.specs.Words.{UpWord, Foot, Conflict, Constraint, TooHigh, down_stanzas, DownWord, Err, End, Cause, Phase, Start, Sasl, Challenge, Restart, Ready, AtSession}
use Rattle.sim_2_links.specs.Wires.{Wires, Flow, Stop, is_flowing, up_words, down_words, up_whole, down_whole, send_down, halt}
use Rattle.sim_2_links.specs.Stages.{Stage, Greets, Greeted, Offered, Proves, Challenged, Answers, Succeeded, Regreets, Regreeted, Reoffered, AsksResume, Refused, Resumes, AsksBind, Binds, AsksEnable, Enables, Runs, client_of, up_of, down_of, Ending, Stands, Errs, Closes, tail_of, foot_of, Conn, IsAt}
use Rattle.sim_2_links.specs.Views.{Table, with_at, alter, has, Session, Row, Own, View, on_phase, session_on, carried_by, carries, cut_if}
use Rattle.sim_2_links.specs.SessionMoves.{shut, IsReason, lost_if, IsDetached, IsRowEnded}
use Rattle.sim_2_links.specs.Links.{carried_of, IsFair, ArePiped, DownCounts, IsAsked, FitsOwn, ConnKept, GoesDown, IsIdle, IsPlaced, RowKept, SessionKept, IsCarried, LinkKept}

carried_row : {A : Type 0} (s : Stage A) (end : Ending) → carried_by (client_of s) (down_of s ++ tail_of end) ≡ carried_of s
carried_row (Resumes p h downs) end = refl
carried_row (Enables m downs) end = refl
carried_row (Runs p ups downs) end = refl
carried_row (AsksResume p h) Stands = refl
carried_row (AsksResume p h) (Errs x) = refl
carried_row (AsksResume p h) Closes = refl
carried_row (AsksEnable m) Stands = refl
carried_row (AsksEnable m) (Errs x) = refl
carried_row (AsksEnable m) Closes = refl
carried_row _ end = refl

pub carries_at : {A : Type 0} (s : Stage A) (c : Conn A) → IsAt s c → carries c ≡ carried_of s
carries_at s c at = ap (λ x. carried_by x (down_whole c.wires)) at.client ∙ ap (carried_by (client_of s)) at.down ∙ carried_row s c.ending

pub ended_off : (ph : Phase) (cause : Cause) (gone : Bool) → on_phase ph (Errs cause) gone ≡ None
ended_off Start cause gone = refl
ended_off Sasl cause gone = refl
ended_off Challenge cause gone = refl
ended_off Restart cause gone = refl
ended_off Ready cause gone = refl
ended_off (AtSession p) cause gone = refl

-- the streams that the server ended
abbrev pub IsEnd : Ending → Type 0
IsEnd Stands = ⊥
IsEnd (Errs cause) = Unit {0}
IsEnd Closes = Unit {0}

pub end_off : (ph : Phase) (end : Ending) (gone : Bool) → IsEnd end → on_phase ph end gone ≡ None
end_off ph Stands gone e = absurd e
end_off ph (Errs cause) gone e = ended_off ph cause gone
end_off Start Closes gone e = refl
end_off Sasl Closes gone e = refl
end_off Challenge Closes gone e = refl
end_off Restart Closes gone e = refl
end_off Ready Closes gone e = refl
end_off (AtSession q) Closes gone e = refl

pub reason_ends : {A : Type 0} (end : Ending) (ws : List (UpWord A)) → IsReason end ws → IsEnd end
reason_ends Stands ws r = absurd r
reason_ends (Errs cause) ws r = tt
reason_ends Closes ws r = tt

-- no row of the table has a footer
pub up_foot : {A C : Type 0} (s : Stage A) (rest : List (UpWord A)) → up_of s ≡ Foot ∷ rest → C
up_foot (Runs p (u ∷ ups) downs) rest e = absurd (let no_way : ⊥ = cc in no_way)
up_foot (Runs p [] downs) rest e = absurd (let no_way : ⊥ = cc in no_way)
up_foot (AsksResume p h) rest e = absurd (let no_way : ⊥ = cc in no_way)
up_foot (AsksEnable m) rest e = absurd (let no_way : ⊥ = cc in no_way)
up_foot _ rest e = absurd (let no_way : ⊥ = cc in no_way)

pub first_whole : {A : Type 0} (w : UpWord A) (rest : List (UpWord A)) (x : Wires A) → up_words x ≡ w ∷ rest → (more : List (UpWord A)) × (up_whole x ≡ w ∷ more)
first_whole w rest (Flow us ds) e = (rest, e)
first_whole w rest (Stop us ds lu ld) e = (rest ++ lu, ap (λ l. l ++ lu) e)

-- where the client works, no footer comes
pub no_foot_here : {A C : Type 0} (s : Stage A) (c : Conn A) (works : Bool) (rest : List (UpWord A)) → ArePiped works c → IsAt s c → up_words c.wires ≡ Foot ∷ rest → works ≡ true → C
no_foot_here s c works rest piped at first e =
    let whole = first_whole Foot rest c.wires first in
    up_foot s whole.0 (sym (append-nil (up_of s)) ∙ ap (λ x. up_of s ++ foot_of x) (sym (piped.unfooted e)) ∙ sym at.up ∙ whole.1)

pub fair_reason : {A : Type 0} (s : Stage A) (c : Conn A) (works : Bool) → ArePiped works c → IsAt s c → (end : Ending) → IsReason end (up_words c.wires) → works ≡ true → IsFair end
fair_reason s c works piped at Stands r e = absurd r
fair_reason s c works piped at (Errs Conflict) r e = tt
fair_reason s c works piped at (Errs Constraint) r e = tt
fair_reason s c works piped at (Errs TooHigh) r e = absurd r
fair_reason s c works piped at Closes r e = no_foot_here s c works r.0 piped at r.1 e

pub on_stands : (ph : Phase) (end : Ending) (gone : Bool) (p : ℕ) → on_phase ph end gone ≡ Some p → end ≡ Stands
on_stands ph Stands gone p e = refl
on_stands ph (Errs x) gone p e = no_entry p (sym (ended_off ph x gone) ∙ e)
on_stands Start Closes gone p e = no_entry p e
on_stands Sasl Closes gone p e = no_entry p e
on_stands Challenge Closes gone p e = no_entry p e
on_stands Restart Closes gone p e = no_entry p e
on_stands Ready Closes gone p e = no_entry p e
on_stands (AtSession q) Closes gone p e = no_entry p e

-- sessions that change in nothing that a row of the table speaks of
pub record IsStill {A : Type 0} (f : ℕ → Session A → Session A) : Type 0 where
  pub counted : (q : ℕ) (s : Session A) → (f q s).counted ≡ s.counted
  pub epoch : (q : ℕ) (s : Session A) → (f q s).epoch ≡ s.epoch
  pub read : (q : ℕ) (s : Session A) → (f q s).read ≡ s.read
  pub told : (q : ℕ) (s : Session A) (h : ℕ) → Contains s.down.stated h → Contains (f q s).down.stated h
  pub got : (q : ℕ) (s : Session A) → (f q s).up.got ≡ s.up.got
  pub stated : (q : ℕ) (s : Session A) (h : ℕ) → Contains s.up.stated h → Contains (f q s).up.stated h

pub still_asked : {A : Type 0} (f : ℕ → Session A → Session A) (sessions : Table (Session A)) (s : Stage A) → IsStill f → IsAsked sessions s → IsAsked (alter f sessions) s
still_asked f sessions (AsksResume q h) g (s, is, read, stated) = (f q s, altered f sessions q s is, g.read q s ∙ read, g.told q s h stated)
still_asked f sessions (AsksEnable m) g (s, e, is, epoch) = (f m s, e, altered f sessions m s is, g.epoch m s ∙ epoch)
still_asked f sessions _ g a = tt

pub still_fits : {A : Type 0} (own : Option (Own A)) (epoch : ℕ) (f : ℕ → Session A → Session A) (sessions : Table (Session A)) (s : Stage A) → IsStill f → FitsOwn own epoch sessions s → FitsOwn own epoch (alter f sessions) s
still_fits own epoch f sessions (AsksResume q h) g a = a
still_fits own epoch f sessions (Refused q) g a = a
still_fits {A = A} own epoch f sessions (Resumes q h downs) g a = (a.0, λ t is. moved t (was f sessions q t is))
  where
    moved : (t : Session A) → (s : Session A) × (sessions q ≡ Some s) × (f q s ≡ t) → (h ≡ length t.up.got) × Contains t.up.stated h
    moved t w =
        let b = a.1 w.0 w.1 in
        let here : (h ≡ length (f q w.0).up.got) × Contains (f q w.0).up.stated h = (b.0 ∙ ap length (sym (g.got q w.0)), g.stated q w.0 h b.1) in
        subst (λ (x : Session A). (h ≡ length x.up.got) × Contains x.up.stated h) w.2 here
still_fits own epoch f sessions AsksBind g a = a
still_fits own epoch f sessions (Binds m) g (none, b) = (none, (f m b.0, altered f sessions m b.0 b.1, g.epoch m b.0 ∙ b.2, g.counted m b.0 ∙ b.3))
still_fits own epoch f sessions (AsksEnable m) g (none, b) = (none, (f m b.0, altered f sessions m b.0 b.1, g.epoch m b.0 ∙ b.2))
still_fits own epoch f sessions (Enables m downs) g (none, b) = (none, (f m b.0, altered f sessions m b.0 b.1, g.epoch m b.0 ∙ b.2, g.counted m b.0 ∙ b.3, g.read m b.0 ∙ b.4))
still_fits own epoch f sessions (Runs q ups downs) g a = a
still_fits own epoch f sessions Greets g a = a
still_fits own epoch f sessions Greeted g a = a
still_fits own epoch f sessions Offered g a = a
still_fits own epoch f sessions Proves g a = a
still_fits own epoch f sessions Challenged g a = a
still_fits own epoch f sessions Answers g a = a
still_fits own epoch f sessions Succeeded g a = a
still_fits own epoch f sessions Regreets g a = a
still_fits own epoch f sessions Regreeted g a = a
still_fits own epoch f sessions Reoffered g a = a

pub halted : {A : Type 0} (ws : List (DownWord A)) (x : Wires A) → is_flowing (halt (send_down ws x)) ≡ false
halted ws (Flow us ds) = refl
halted ws (Stop us ds lu ld) = refl

pub halted_up : {A : Type 0} (ws : List (DownWord A)) (x : Wires A) → up_words (halt (send_down ws x)) ≡ []
halted_up ws (Flow us ds) = refl
halted_up ws (Stop us ds lu ld) = refl

pub halted_down : {A : Type 0} (ws : List (DownWord A)) (x : Wires A) → is_flowing x ≡ false → down_words (halt (send_down ws x)) ≡ down_words x
halted_down ws (Flow us ds) e = absurd (not_true e refl)
halted_down ws (Stop us ds lu ld) e = refl

halted_stanzas : {A : Type 0} (end : Ending) (x : Wires A) → down_stanzas (down_words (halt (send_down (tail_of end) x))) ≡ down_stanzas (down_words x)
halted_stanzas Stands (Flow us ds) = ap down_stanzas (append-nil ds)
halted_stanzas (Errs cause) (Flow us ds) = down_stanzas_with ds (Err cause ∷ End ∷ []) ∙ append-nil (down_stanzas ds)
halted_stanzas Closes (Flow us ds) = down_stanzas_with ds (End ∷ []) ∙ append-nil (down_stanzas ds)
halted_stanzas end (Stop us ds lu ld) = refl

halted_counts : {A : Type 0} (end : Ending) (low : ℕ) (stated : List ℕ) (x : Wires A) → DownCounts low stated (down_words x) → DownCounts low stated (down_words (halt (send_down (tail_of end) x)))
halted_counts Stands low stated (Flow us ds) u = subst (λ l. DownCounts low stated l) (sym (append-nil ds)) u
halted_counts Closes low stated (Flow us ds) u = down_counts_with low stated ds End (λ n. tt) u
halted_counts (Errs cause) low stated (Flow us ds) u = subst (λ l. DownCounts low stated l) (append_assoc ds (Err cause ∷ []) (End ∷ [])) (down_counts_with low stated (ds ++ Err cause ∷ []) End (λ n. tt) (down_counts_with low stated ds (Err cause) (λ n. tt) u))
halted_counts end low stated (Stop us ds lu ld) u = u

quiet_lost : {A : Type 0} (b c : Bool) (s : Session A) → IsIdle s.down → IsIdle (lost_if b c s).down
quiet_lost b false s q = record { way = q.way; is_open = q.is_open }
quiet_lost b true s q = record { way = q.way; is_open = refl }

lost_kept : {A : Type 0} (b : Bool) (c : Bool) (s : Session A) → (b ≡ true → s.counted ≡ true) → SessionKept s → SessionKept (lost_if b (s.counted && c) s)
lost_kept {A = A} b c s counted kept = record {
  up = reached_cut_if b 0 s.up kept.up;
  down = down (s.counted && c);
  begun = λ e. (up e b refl ∙ (kept.begun e).0, rw e (kept.begun e).1);
  read = kept.read;
  epoch = kept.epoch;
  unread = kept.unread;
  unheard = kept.unheard;
}
  where
    up : s.counted ≡ false → (x : Bool) → b ≡ x → cut_if b 0 s.up ≡ s.up
    up e false is = subst (λ y. cut_if y 0 s.up ≡ s.up) (sym is) refl
    up e true is = absurd (not_true e (counted is))

    down : (x : Bool) → Reached (record s.down { is_open = if x then false else s.down.is_open })
    down false = kept.down
    down true = reached_more (Cut (length s.down.way)) s.down (record s.down { is_open = false }) kept.down (ap (λ l. record s.down { way = l; is_open = false }) (sym (take_all (length s.down.way) s.down.way (omega arith))))

pub detached_keeps : {A : Type 0} (k : ℕ) (ending : Ending) (v next : View A) → IsDetached k ending v next → LinkKept v → LinkKept next
detached_keeps {A = A} k ending v next m kept = subst LinkKept (sym m.gives) (record {
  there = λ n here. there_cut v kept k this n here;
  conns = λ n d found. conn n d (entry k this v.conns n d found);
  row = λ r e. subst (λ x. RowKept (with_at k this v.conns) (alter f v.sessions) x) (let out : new ≡ r = cc in out) row_kept;
  own = λ o found. let before = kept.own o found in record {
    session = f o.number before.session;
    is = altered f v.sessions o.number before.session before.is;
    read = before.read;
    of_epoch = before.of_epoch;
    handled = before.handled;
    acked = before.acked;
    queue = before.queue;
  };
  sessions = λ q t found. let w = was f v.sessions q t found in subst SessionKept w.2 (lost_kept (has (Some m.row.number) q) (has v.here k && has (carries m.conn) q) w.0 (λ e. subst (λ (x : Session A). x.counted ≡ true) (same_session v m.row.number q row.session w.0 row.is e w.1) counted) (kept.sessions q w.0 w.1));
  goes_down = λ n d q here found carried. down n d q here carried (entry k this v.conns n d found);
  idle_up = λ q t found yes_counted.
      let w = was f v.sessions q t found in
      let before : w.0.counted ≡ true = ap (λ (x : Session A). x.counted) w.2 ∙ yes_counted in
      elim (kept.idle_up q w.0 w.1 before) [
        | inl still ↦ inl (subst (λ (x : Session A). IsIdle x.up) w.2 (quiet_cut (has (Some m.row.number) q) 0 w.0.up still))
        | inr x ↦ inr (new, refl, ap (λ (r : Row A). r.number) (some_one v.row m.row x.0 m.is_row x.1) ∙ x.2)
      ];
  idle_down = λ q t found yes_counted.
      let w = was f v.sessions q t found in
      let before : w.0.counted ≡ true = ap (λ (x : Session A). x.counted) w.2 ∙ yes_counted in
      elim (kept.idle_down q w.0 w.1 before) [ inl still ↦ inl (subst (λ (x : Session A). IsIdle x.down) w.2 (quiet_lost (has (Some m.row.number) q) (w.0.counted && (has v.here k && has (carries m.conn) q)) w.0 still)) | inr x ↦ inr (carried_on q x) ];
  late = λ n d q found away on carried. absurd (on_nowhere k this v off (on_no_other v k m.row kept m.is_row m.on) n d q on (entry k this v.conns n d found));
})
  where
    this : Conn A
    this = shut ending m.conn

    new : Row A
    new = record m.row { on = None }

    f : ℕ → Session A → Session A
    f = λ q s. lost_if (has (Some m.row.number) q) (s.counted && (has v.here k && has (carries m.conn) q)) s

    still : IsStill {A = A} (λ q s. lost_if (has (Some m.row.number) q) (s.counted && (has v.here k && has (carries m.conn) q)) s)
    still = record { counted = λ q s. refl; epoch = λ q s. refl; read = λ q s. refl; told = λ q s h c. c; got = λ q s. refl; stated = λ q s h c. c }

    old : ConnKept v k m.conn
    old = kept.conns k m.conn m.is

    row : RowKept v.conns v.sessions m.row
    row = kept.row m.row m.is_row

    counted : row.session.counted ≡ true
    counted = sym row.counted ∙ m.counted

    held : session_on m.conn ≡ Some m.row.number
    held =
        let placed : IsPlaced v.conns m.row row.session (Some k) = subst (λ o. IsPlaced v.conns m.row row.session o) m.on row.placed in
        subst (λ x. session_on x ≡ Some m.row.number) (some_one (v.conns k) placed.0 m.conn placed.1 m.is) placed.2

    stands : m.conn.ending ≡ Stands
    stands = on_stands m.conn.phase m.conn.ending m.conn.gone m.row.number held

    at : IsAt old.stage (shut ending m.conn)
    at = record {
      client = old.at.client;
      phase = old.at.phase;
      up = halt_whole_up (send_down (tail_of ending) m.conn.wires) ∙ send_down_whole_up (tail_of ending) m.conn.wires ∙ old.at.up;
      down =
          let bare : down_whole m.conn.wires ≡ down_of old.stage = old.at.down ∙ ap (λ x. down_of old.stage ++ tail_of x) stands ∙ append-nil (down_of old.stage) in
          halt_whole_down (send_down (tail_of ending) m.conn.wires) ∙ send_down_whole (tail_of ending) m.conn.wires ∙ ap (λ l. l ++ tail_of ending) bare;
    }

    same_carried : carries (shut ending m.conn) ≡ carries m.conn
    same_carried = carries_at old.stage (shut ending m.conn) at ∙ sym (carries_at old.stage m.conn old.at)

    off : (q : ℕ) → session_on (shut ending m.conn) ≡ Some q → ⊥
    off q e = no_entry q (sym (end_off m.conn.phase ending m.conn.gone (reason_ends ending (up_words m.conn.wires) m.reason)) ∙ e)

    row_kept : RowAfter k this v f new
    row_kept = record {
      session = f m.row.number row.session;
      is = altered f v.sessions m.row.number row.session row.is;
      counted = row.counted;
      handled = row.handled;
      acked = row.acked;
      queue = row.queue;
      placed = (m.counted, record { way = rw same_number refl; is_open = rw same_number refl });
    }

    conn : (n : ℕ) (d : Conn A) → Entry k this v.conns n d → ConnKept (record v { conns = with_at k this v.conns; row = Some new; sessions = alter f v.sessions }) n d
    conn n d (New same is) =
        let here : ConnKept (record v { conns = with_at k this v.conns; row = Some new; sessions = alter f v.sessions }) k this = record {
          piped = record {
            flowing = λ e. absurd (not_true (halted (tail_of ending) m.conn.wires) e);
            unfooted = old.piped.unfooted;
            fair = λ e. fair_reason old.stage m.conn (has v.here k) old.piped old.at ending m.reason e;
            left = λ e. halted_down (tail_of ending) m.conn.wires (stopped_away (has v.here k) m.conn old.piped e) ∙ old.piped.left e;
            ended = inr (halted_up (tail_of ending) m.conn.wires);
            gone = λ e. halted_up (tail_of ending) m.conn.wires;
          };
          stage = old.stage;
          at = at;
          asked = still_asked f v.sessions old.stage still old.asked;
          fits = λ e. still_fits v.own v.epoch f v.sessions old.stage still (old.fits e);
          attached = λ q e. absurd (off q e);
          uncounted = λ r f on e. off_row k new r f refl on;
          counting = λ r f on p e. off_row k new r f refl on;
        } in
        subst (λ x. ConnKept (record v { conns = with_at k this v.conns; row = Some new; sessions = alter f v.sessions }) x d) same (subst (λ x. ConnKept (record v { conns = with_at k this v.conns; row = Some new; sessions = alter f v.sessions }) k x) is here)
    conn n d (Old ne there) =
        let before = kept.conns n d there in
        record {
          piped = before.piped;
          stage = before.stage;
          at = before.at;
          asked = still_asked f v.sessions before.stage still before.asked;
          fits = λ e. still_fits v.own v.epoch f v.sessions before.stage still (before.fits e);
          attached = λ q e. absurd (on_no_other v k m.row kept m.is_row m.on n d q ne there e);
          uncounted = λ r f on e. off_row n new r f refl on;
          counting = λ r f on p e. off_row n new r f refl on;
        }

    down : GoesDownAfter k this v f
    down n d q here carried (New same is) =
        let here_k : v.here ≡ Some k = here ∙ ap Some (sym same) in
        let carried_k : carries m.conn ≡ Some q = sym same_carried ∙ subst (λ x. carries x ≡ Some q) (sym is) carried in
        let before = kept.goes_down k m.conn q here_k m.is carried_k in
        let after : GoesDown this (f q before.0) = record {
          counted = before.2.counted;
          way = before.2.way ∙ sym (halted_stanzas ending m.conn.wires);
          is_open = rw (before.2.counted, is_has v.here k here_k, is_has (carries m.conn) q carried_k) (sym (halted (tail_of ending) m.conn.wires));
          counts = halted_counts ending before.0.up.acked before.0.up.stated m.conn.wires before.2.counts;
        } in
        (f q before.0, altered f v.sessions q before.0 before.1, subst (λ x. GoesDown x (f q before.0)) is after)
    down n d q here carried (Old ne there) =
        let before = kept.goes_down n d q here there carried in
        let away : has v.here k ≡ false = here_or_not v k n ne here in (
          f q before.0,
          altered f v.sessions q before.0 before.1,
          record {
            counted = before.2.counted;
            way = before.2.way;
            is_open = rw (before.2.counted, away) before.2.is_open;
            counts = before.2.counts;
          },
        )

    carried_on : (q : ℕ) → IsCarried v q → IsCarried (record v { conns = with_at k this v.conns; row = Some new; sessions = alter f v.sessions }) q
    carried_on q (n, d, here, found, carried) = by (cases_eq k n)
      where
        by : (k ≡ n) ⊎ (k ≡ n → ⊥) → IsCarried (record v { conns = with_at k this v.conns; row = Some new; sessions = alter f v.sessions }) q
        by (inl same) =
            let one : d ≡ m.conn = some_one (v.conns k) d m.conn (subst (λ x. v.conns x ≡ Some d) (sym same) found) m.is in
            (k, this, here ∙ ap Some (sym same), at_same k this v.conns, same_carried ∙ subst (λ x. carries x ≡ Some q) one carried)
        by (inr ne) = (n, d, here, at_other k this v.conns n ne ∙ found, carried)

-- a row ends that is on no connection

pub row_ended_keeps : {A : Type 0} (v next : View A) → IsRowEnded v next → LinkKept v → LinkKept next
row_ended_keeps {A = A} v next m kept = subst LinkKept (sym m.gives) (record {
  there = kept.there;
  conns = λ n d found. let before = kept.conns n d found in record {
    piped = before.piped;
    stage = before.stage;
    at = before.at;
    asked = before.asked;
    fits = before.fits;
    attached = λ q e. absurd (none n (before.attached q e).0 (before.attached q e).1 (before.attached q e).3);
    uncounted = λ r f on e. no_entry r f;
    counting = λ r f on p e. no_entry r f;
  };
  row = λ r e. no_entry r e;
  own = kept.own;
  sessions = kept.sessions;
  goes_down = kept.goes_down;
  idle_up = λ q s found counted. elim (kept.idle_up q s found counted) [ inl still ↦ inl still | inr x ↦ inl (parked q s found x) ];
  idle_down = kept.idle_down;
  late = kept.late;
})
  where
    none : (n : ℕ) (x : Row A) → v.row ≡ Some x → x.on ≡ Some n → ⊥
    none n x is on = let same : x ≡ m.row = some_one v.row x m.row is m.is_row in no_entry n (sym m.off ∙ subst (λ (y : Row A). y.on ≡ Some n) same on)

    parked : (q : ℕ) (s : Session A) → v.sessions q ≡ Some s → (x : Row A) × (v.row ≡ Some x) × (x.number ≡ q) → IsIdle s.up
    parked q s found x =
        let row = kept.row m.row m.is_row in
        let placed : IsPlaced v.conns m.row row.session None = subst (λ o. IsPlaced v.conns m.row row.session o) m.off row.placed in
        let number : m.row.number ≡ q = ap (λ (r : Row A). r.number) (some_one v.row m.row x.0 m.is_row x.1) ∙ x.2 in
        subst (λ (y : Session A). IsIdle y.up) (some_one (v.sessions q) row.session s (subst (λ n. v.sessions n ≡ Some row.session) number row.is) found) placed.1
