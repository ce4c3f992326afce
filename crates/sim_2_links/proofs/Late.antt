-- The server takes an old word, on a connection that the client left, and resumes the session there.
use Rattle.std.proofs.Common.{◌≡◌, ℕ, ◌+◌, ◌-◌, ◌≤◌, Bool, true, false, ◌&&◌, if◌then◌else◌, List, [], ◌∷◌, ◌++◌, length, drop, map, refl, sym, ap, ◌∙◌, subst, arith, inl, inr, None, Some}
use Rattle.std.proofs.lemmas.Bool.{cases_Bool}
use Rattle.std.specs.List.{Contains}
use Rattle.sm_acks.specs.Delivery.{State, Acknowledge}
use Rattle.sim_2_links.proofs.Entries.{same_number, at_same, at_other, Entry, New, Old, entry, was, altered}
use Rattle.sim_2_links.proofs.DeliveryRuns.{reached_more}
use Rattle.sim_2_links.proofs.Tables.{send_down_whole, send_down_whole_up, left_up_whole_down}
use Rattle.std.proofs.lemmas.List.{drop-drop, append-nil}
use Rattle.std.proofs.lemmas.List.Elements.{Contains-append_left}
use Rattle.sim_2_links.proofs.CutLinks.{not_true, some_one, there_cut, on_other, some_same}
use Rattle.sim_2_links.proofs.Counting.{down_counts_more}
use Rattle.sim_2_links.proofs.Hands.{piped_up, taken_stands, up_words_down, flow_down, stopped_away}
use Rattle.sim_2_links.proofs.Detached.{IsStill, still_asked, still_fits}
use Rattle.sim_2_links.proofs.Resumption.{AsksFirst, asks_first}
use Rattle.sim_2_links.proofs.ReadResumed.{phase_session, bare_stanzas}
use Rattle.sim_2_links.proofs.Heard.{same_session}
use Rattle.sim_2_links.proofs.StepParts.{on_none, apart_from, RowAfter, GoesDownAfter}
use Rattle.sim_2_links.specs.Words.{St, UpWord, ResumeAt, Foot, DownWord, Resumed, Down, AtSession}
use Rattle.sim_2_links.specs.Wires.{Wires, Flow, Stop, is_flowing, up_words, down_words, up_whole, down_whole, send_down, left_up}
use Rattle.sim_2_links.specs.Stages.{AsksResume, Resumes, client_of, down_of, Stands, tail_of, foot_of, Conn}
use Rattle.sim_2_links.specs.Views.{with_at, alter, has, Session, Row, View, on_phase, session_on, sends}
use Rattle.sim_2_links.specs.SessionMoves.{IsResumedLate}
use Rattle.sim_2_links.specs.Links.{UpCounts, IsAsked, ConnKept, GoesUp, GoesDown, IsIdle, IsPlaced, RowKept, SessionKept, IsBare, LinkKept}

abbrev pub late_if : {A : Type 0} → Bool → ℕ → Session A → Session A
late_if b h s = record s {
  up = record s.up { stated = if b then s.up.stated ++ length s.up.got ∷ [] else s.up.stated };
  down = record s.down { acked = if b then h else s.down.acked };
}

late_kept : {A : Type 0} (b : Bool) (h : ℕ) (s : Session A) → (b ≡ true → (s.counted ≡ true) × Contains s.down.stated h × (s.down.acked ≤ h)) → SessionKept s → SessionKept (late_if b h s)
late_kept false h s good kept = kept
late_kept true h s good kept = record {
  up = reached_more State s.up (record s.up { stated = s.up.stated ++ length s.up.got ∷ [] }) kept.up refl;
  down = reached_more (Acknowledge h) s.down (record s.down { acked = h }) kept.down ((good refl).1, (good refl).2, refl);
  begun = λ e. absurd (not_true e (good refl).0);
  read = kept.read;
  epoch = kept.epoch;
  unread = kept.unread;
  unheard = kept.unheard;
}

late_contains : {A : Type 0} (b : Bool) (h : ℕ) (s : Session A) (n : ℕ) → Contains s.up.stated n → Contains (late_if b h s).up.stated n
late_contains false h s n c = c
late_contains true h s n c = Contains-append_left s.up.stated (length s.up.got ∷ []) n c

late_goes : {A : Type 0} (b : Bool) (h : ℕ) (c : Conn A) (s : Session A) → GoesDown c s → GoesDown c (late_if b h s)
late_goes false h c s g = g
late_goes true h c s g = record { counted = g.counted; way = g.way; is_open = g.is_open; counts = down_counts_more s.up.acked (length s.up.got) s.up.stated (down_words c.wires) g.counts }

foot_front : {A : Type 0} (foot : Bool) (xs ys : List (UpWord A)) → xs ++ ys ≡ foot_of foot → IsBare xs
foot_front foot [] ys e = inl refl
foot_front false (x ∷ xs) ys e = absurd (let no_way : ⊥ = cc in no_way)
foot_front true (x ∷ []) ys e = inr (let one : x ≡ Foot = cc in ap (λ w. w ∷ []) one)
foot_front true (x ∷ y ∷ xs) ys e = absurd (let no_way : ⊥ = cc in no_way)

pub bare_left : {A : Type 0} (foot : Bool) (rest : List (UpWord A)) (x : Wires A) → up_whole (left_up rest x) ≡ foot_of foot → IsBare rest
bare_left foot rest (Flow us ds) e = foot_front foot rest [] (append-nil rest ∙ e)
bare_left foot rest (Stop us ds lu ld) e = foot_front foot rest lu e

pub bare_counts : {A : Type 0} (low : ℕ) (stated : List ℕ) (ws : List (UpWord A)) → IsBare ws → UpCounts low stated ws
bare_counts low stated ws (inl e) = subst (λ l. UpCounts low stated l) (sym e) tt
bare_counts low stated ws (inr e) = subst (λ l. UpCounts low stated l) (sym e) tt

pub resumed_late_keeps : {A : Type 0} (k : ℕ) (v next : View A) → IsResumedLate k v next → LinkKept v → LinkKept next
resumed_late_keeps {A = A} k v next m kept = subst LinkKept (sym m.gives) (record {
  there = λ n here. there_cut v kept k this n here;
  conns = λ n d found. conn n d (entry k this v.conns n d found);
  row = λ r e. subst (λ x. RowKept (with_at k this v.conns) (alter f v.sessions) x) (let out : new ≡ r = cc in out) row_kept;
  own = λ o found. let before = kept.own o found in record {
    session = f o.number before.session;
    is = altered f v.sessions o.number before.session before.is;
    read = before.read;
    of_epoch = before.of_epoch;
    handled = before.handled;
    acked = before.acked;
    queue = before.queue;
  };
  sessions = λ q t found. let w = was f v.sessions q t found in subst SessionKept w.2 (late_kept (has (Some m.row.number) q) m.h w.0 (λ e. subst (λ (x : Session A). (x.counted ≡ true) × Contains x.down.stated m.h × (x.down.acked ≤ m.h)) (same_session v m.row.number q row.session w.0 row.is e w.1) (counted, stated, low)) (kept.sessions q w.0 w.1));
  goes_down = λ n d q here found carried. down n d q here carried (entry k this v.conns n d found);
  idle_up = λ q t found yes_counted.
      let w = was f v.sessions q t found in
      let before : w.0.counted ≡ true = ap (λ (x : Session A). x.counted) w.2 ∙ yes_counted in
      elim (kept.idle_up q w.0 w.1 before) [
        | inl quiet ↦ inl (subst (λ (x : Session A). IsIdle x.up) w.2 (record { way = quiet.way; is_open = quiet.is_open }))
        | inr x ↦ inr (new, refl, ap (λ (r : Row A). r.number) (some_one v.row m.row x.0 m.is_row x.1) ∙ x.2)
      ];
  idle_down = λ q t found yes_counted.
      let w = was f v.sessions q t found in
      let before : w.0.counted ≡ true = ap (λ (x : Session A). x.counted) w.2 ∙ yes_counted in
      elim (kept.idle_down q w.0 w.1 before) [
        | inl quiet ↦ inl (subst (λ (x : Session A). IsIdle x.down) w.2 (record { way = quiet.way; is_open = quiet.is_open }))
        | inr x ↦ inr (x.0, x.1, x.2, at_other k this v.conns x.0 (apart_from v.here k x.0 m.left x.2) ∙ x.3, x.4)
      ];
  late = λ n d q found away on carried. late n d q on (entry k this v.conns n d found);
})
  where
    puts : List (DownWord A)
    puts = Resumed m.row.number m.row.handled ∷ map Down (map St (drop (m.h - m.row.acked) m.row.queue))

    this : Conn A
    this = record m.conn { phase = AtSession m.row.number; wires = send_down (Resumed m.row.number m.row.handled ∷ map Down (map St (drop (m.h - m.row.acked) m.row.queue))) (left_up m.rest m.conn.wires) }

    new : Row A
    new = record m.row { on = Some k; acked = m.h; queue = drop (m.h - m.row.acked) m.row.queue }

    f : ℕ → Session A → Session A
    f = λ q s. late_if (has (Some m.row.number) q) m.h s

    gentle : IsStill {A = A} (λ q s. late_if (has (Some m.row.number) q) m.h s)
    gentle = record { counted = λ q s. refl; epoch = λ q s. refl; read = λ q s. refl; told = λ q s h c. c; got = λ q s. refl; stated = λ q s n c. late_contains (has (Some m.row.number) q) m.h s n c }

    old : ConnKept v k m.conn
    old = kept.conns k m.conn m.is

    asking : AsksFirst old.stage m.conn m.row.number m.h m.rest
    asking = asks_first old.stage m.conn m.row.number m.h m.rest old.at m.first

    stands : m.conn.ending ≡ Stands
    stands = taken_stands (has v.here k) m.conn (ResumeAt m.row.number m.h) m.rest old.piped m.first

    told : m.conn.gone ≡ false
    told = elim (cases_Bool m.conn.gone) [ inr e ↦ e | inl e ↦ absurd (let none = old.piped.gone e in let first = m.first in let no_way : ⊥ = cc in no_way) ]

    bare : IsBare m.rest
    bare = bare_left m.conn.footed m.rest m.conn.wires (sym asking.left)

    bare_this : IsBare (up_words (send_down puts (left_up m.rest m.conn.wires)))
    bare_this = subst IsBare (sym (up_words_down puts m.rest m.conn.wires)) bare

    dead : is_flowing m.conn.wires ≡ false
    dead = stopped_away (has v.here k) m.conn old.piped m.left

    nothing_down : down_whole m.conn.wires ≡ []
    nothing_down = old.at.down ∙ ap (λ x. down_of x ++ tail_of m.conn.ending) asking.is ∙ ap tail_of stands

    row : RowKept v.conns v.sessions m.row
    row = kept.row m.row m.is_row

    counted : row.session.counted ≡ true
    counted = sym row.counted ∙ m.counted

    quiet : IsIdle row.session.up
    quiet = let placed : IsPlaced v.conns m.row row.session None = subst (λ o. IsPlaced v.conns m.row row.session o) m.off row.placed in placed.1

    asked : IsAsked v.sessions (AsksResume m.row.number m.h)
    asked = subst (λ s. IsAsked v.sessions s) asking.is old.asked

    stated : Contains row.session.down.stated m.h
    stated = subst (λ (x : Session A). Contains x.down.stated m.h) (some_one (v.sessions m.row.number) asked.0 row.session asked.1 row.is) asked.3

    low : row.session.down.acked ≤ m.h
    low = let a = row.acked in let l = m.low in omega arith

    all : drop (m.h - m.row.acked) m.row.queue ≡ drop m.h row.session.down.put
    all =
        let l = low in
        let a = row.acked in
        let sum : row.session.down.acked + (m.h - m.row.acked) ≡ m.h = omega arith in
        ap (drop (m.h - m.row.acked)) row.queue ∙ drop-drop (m.h - m.row.acked) row.session.down.acked row.session.down.put ∙ ap (λ (n : ℕ). drop n row.session.down.put) sum

    goes_up : GoesUp this (f m.row.number row.session)
    goes_up = record {
      way = quiet.way ∙ sym (bare_stanzas (up_words (send_down puts (left_up m.rest m.conn.wires))) bare_this);
      is_open = quiet.is_open ∙ ap (λ x. x && sends m.conn.client) (sym (flow_down puts m.rest m.conn.wires ∙ dead));
      counts = bare_counts (f m.row.number row.session).down.acked row.session.down.stated (up_words (send_down puts (left_up m.rest m.conn.wires))) bare_this;
    }

    row_kept : RowAfter k this v f new
    row_kept = record {
      session = f m.row.number row.session;
      is = altered f v.sessions m.row.number row.session row.is;
      counted = row.counted;
      handled = row.handled;
      acked = rw same_number refl;
      queue = rw same_number all;
      placed = (this, at_same k this v.conns, ap (λ x. on_phase (AtSession m.row.number) x m.conn.gone) stands ∙ ap (λ x. on_phase (AtSession m.row.number) Stands x) told, λ e. goes_up);
    }

    conn : (n : ℕ) (d : Conn A) → Entry k this v.conns n d → ConnKept (record v { conns = with_at k this v.conns; row = Some new; sessions = alter f v.sessions }) n d
    conn n d (New same is) =
        let here : ConnKept (record v { conns = with_at k this v.conns; row = Some new; sessions = alter f v.sessions }) k this = record {
          piped = piped_up (has v.here k) m.conn (ResumeAt m.row.number m.h) m.rest (AtSession m.row.number) puts m.first old.piped;
          stage = Resumes m.row.number m.row.handled (map St (drop (m.h - m.row.acked) m.row.queue));
          at = record {
            client = old.at.client ∙ ap client_of asking.is;
            phase = refl;
            up = send_down_whole_up puts (left_up m.rest m.conn.wires) ∙ sym asking.left;
            down = send_down_whole puts (left_up m.rest m.conn.wires) ∙ ap (λ l. l ++ puts) (left_up_whole_down m.rest m.conn.wires ∙ nothing_down) ∙ sym (append-nil puts) ∙ ap (λ x. puts ++ tail_of x) (sym stands);
          };
          asked = tt;
          fits = λ e. absurd (not_true m.left e);
          attached = λ q e. (new, refl, phase_session m.row.number q m.conn.ending m.conn.gone e, refl);
          uncounted = λ r f on e. absurd (not_true refl e);
          counting = λ r f on p e. subst (λ (x : Row A). x.counted ≡ true) (some_same new r f) m.counted;
        } in
        subst (λ x. ConnKept (record v { conns = with_at k this v.conns; row = Some new; sessions = alter f v.sessions }) x d) same (subst (λ x. ConnKept (record v { conns = with_at k this v.conns; row = Some new; sessions = alter f v.sessions }) k x) is here)
    conn n d (Old ne there) =
        let before = kept.conns n d there in
        record {
          piped = before.piped;
          stage = before.stage;
          at = before.at;
          asked = still_asked f v.sessions before.stage gentle before.asked;
          fits = λ e. still_fits v.own v.epoch f v.sessions before.stage gentle (before.fits e);
          attached = λ q e. absurd (on_none v m.row kept m.is_row m.off n d q there e);
          uncounted = λ r f on e. on_other k n new r f refl ne on;
          counting = λ r f on p e. on_other k n new r f refl ne on;
        }

    down : GoesDownAfter k this v f
    down n d q here carried (New same is) = absurd (apart_from v.here k n m.left here same)
    down n d q here carried (Old ne there) =
        let before = kept.goes_down n d q here there carried in
        (f q before.0, altered f v.sessions q before.0 before.1, late_goes (has (Some m.row.number) q) m.h d before.0 before.2)

    late : (n : ℕ) (d : Conn A) (q : ℕ) → session_on d ≡ Some q → Entry k this v.conns n d → IsBare (up_words d.wires)
    late n d q on (New same is) = subst (λ x. IsBare (up_words x.wires)) is bare_this
    late n d q on (Old ne there) = absurd (on_none v m.row kept m.is_row m.off n d q there on)
