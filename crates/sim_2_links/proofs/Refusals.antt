-- The server refuses a resumption; a client's footer; a client that gives its session up.
use Rattle.std.proofs.Common.{◌≡◌, ℕ, ◌-◌, true, false, ◌&&◌, [], ◌∷◌, ◌++◌, length, refl, sym, ap, ◌∙◌, subst, arith, ◌⊎◌, inl, inr, Option, None, Some}
use Rattle.std.proofs.lemmas.Bool.{cases_Bool, cases_eq}
use Rattle.std.proofs.lemmas.List.{append-nil, length-append, length-drop}
use Rattle.sm_acks.proofs.Directions.{kept_reached}
use Rattle.sim_2_links.proofs.Entries.{at_same, at_other, Entry, New, Old, entry, has_is, is_has}
use Rattle.sim_2_links.proofs.Tables.{send_down_whole, send_down_whole_up, left_up_whole, left_up_whole_down}
use Rattle.sim_2_links.proofs.CutLinks.{not_true, some_one, there_cut}
use Rattle.sim_2_links.proofs.Counting.{up_counts_with, up_stanzas_with}
use Rattle.sim_2_links.proofs.Hands.{no_entry, piped_up, taken_stands}
use Rattle.sim_2_links.proofs.Asking.{unheld_keeps, off_ready}
use Rattle.sim_2_links.proofs.Detached.{carries_at, up_foot}
use Rattle.sim_2_links.proofs.Resumption.{asks, AsksFirst, asks_first}
use Rattle.sim_2_links.proofs.Ends.{left_keeps, shut_at, shut_piped, shut_off}
use Rattle.sim_2_links.proofs.Detached.{row_ended_keeps}
use Rattle.sim_2_links.proofs.StepParts.{carried_before, apart_from, GoesUpAs, GoesDownStill, StaysBare}
use Rattle.sim_2_links.specs.Words.{ResumeAt, Foot, Failed, TooHigh, Ready, up_stanzas}
use Rattle.sim_2_links.specs.Wires.{Wires, Flow, Stop, is_flowing, up_words, down_words, up_whole, down_whole, send_down, left_up}
use Rattle.sim_2_links.specs.Stages.{AsksResume, Refused, phase_of, up_of, Stands, Errs, tail_of, foot_of, Conn, IsAt}
use Rattle.sim_2_links.specs.Views.{with_at, has, Session, Row, View, session_on, sends}
use Rattle.sim_2_links.specs.SessionMoves.{shut}
use Rattle.sim_2_links.specs.EndMoves.{IsFailed, IsHigh, IsTooHigh, with_foot, up_lost, IsFooted, IsForgotten}
use Rattle.sim_2_links.specs.Links.{UpCounts, ArePiped, FitsOwn, ConnKept, GoesUp, IsPlaced, RowKept, IsCarried, IsBare, LinkKept}

-- the server says that it doesn't have the session

pub failed_keeps : {A : Type 0} (k : ℕ) (v next : View A) → IsFailed k v next → LinkKept v → LinkKept next
failed_keeps {A = A} k v next m kept = subst LinkKept (sym m.gives) (by (cases_Bool (has v.here k)))
  where
    this : Conn A
    this = record m.conn { wires = send_down (Failed ∷ []) (left_up m.rest m.conn.wires) }

    old : ConnKept v k m.conn
    old = kept.conns k m.conn m.is

    asking : AsksFirst old.stage m.conn m.p m.h m.rest
    asking = asks_first old.stage m.conn m.p m.h m.rest old.at m.first

    before : IsAt (AsksResume m.p m.h) m.conn
    before = subst (λ s. IsAt s m.conn) asking.is old.at

    stands : m.conn.ending ≡ Stands
    stands = taken_stands (has v.here k) m.conn (ResumeAt m.p m.h) m.rest old.piped m.first

    at : IsAt (Refused m.p) (record m.conn { wires = send_down (Failed ∷ []) (left_up m.rest m.conn.wires) })
    at = record {
      client = before.client;
      phase = before.phase;
      up = send_down_whole_up (Failed ∷ []) (left_up m.rest m.conn.wires) ∙ sym asking.left;
      down =
          let nothing : down_whole m.conn.wires ≡ [] = before.down ∙ ap tail_of stands in
          send_down_whole (Failed ∷ []) (left_up m.rest m.conn.wires) ∙ ap (λ l. l ++ Failed ∷ []) (left_up_whole_down m.rest m.conn.wires ∙ nothing) ∙ ap (λ x. Failed ∷ tail_of x) (sym stands);
    }

    piped : ArePiped (has v.here k) (record m.conn { wires = send_down (Failed ∷ []) (left_up m.rest m.conn.wires) })
    piped = piped_up (has v.here k) m.conn (ResumeAt m.p m.h) m.rest m.conn.phase (Failed ∷ []) m.first old.piped

    by : (has v.here k ≡ true) ⊎ (has v.here k ≡ false) → LinkKept (record v { conns = with_at k (record m.conn { wires = send_down (Failed ∷ []) (left_up m.rest m.conn.wires) }) v.conns })
    by (inl works) =
        let fits : FitsOwn v.own v.epoch v.sessions (AsksResume m.p m.h) = subst (λ s. FitsOwn v.own v.epoch v.sessions s) asking.is (old.fits works) in
        unheld_keeps v k m.conn this (Refused m.p) v.own (has_is v.here k works) m.is (off_ready m.conn before.phase) (carries_at (AsksResume m.p m.h) m.conn before) at (off_ready this before.phase) refl refl
        (subst (λ b. ArePiped b this) works piped) tt (fits.0, fits.1, fits.2) kept.own kept
    by (inr away) =
        left_keeps v k m.conn this (Refused m.p) away m.is (off_ready m.conn before.phase) (off_ready this before.phase) at (λ r f on e. absurd (not_true refl e)) (λ r f on p e. no_entry p e)
        (subst (λ b. ArePiped b this) away piped) tt kept

-- a count is too high only on a connection that the client left

pub too_high_left : {A : Type 0} (k : ℕ) (v next : View A) → IsTooHigh k v next → LinkKept v → has v.here k ≡ false
too_high_left {A = A} k v next m kept = elim (cases_Bool (has v.here k)) [ inr e ↦ e | inl e ↦ absurd (within e m.high) ]
  where
    old : ConnKept v k m.conn
    old = kept.conns k m.conn m.is

    row : RowKept v.conns v.sessions m.row
    row = kept.row m.row m.is_row

    asking : AsksFirst old.stage m.conn m.row.number m.h m.rest
    asking = asks_first old.stage m.conn m.row.number m.h m.rest old.at m.first

    within : has v.here k ≡ true → IsHigh m.row.acked m.row.queue m.h → ⊥
    within works high =
        let fits : FitsOwn v.own v.epoch v.sessions (AsksResume m.row.number m.h) = subst (λ s. FitsOwn v.own v.epoch v.sessions s) asking.is (old.fits works) in
        let o = kept.own fits.0 fits.1 in
        let same : o.session ≡ row.session = some_one (v.sessions m.row.number) o.session row.session (subst (λ (x : ℕ). v.sessions x ≡ Some o.session) fits.2 o.is) row.is in
        let count : m.h ≡ length row.session.down.got = sym fits.3 ∙ o.handled ∙ ap (λ (x : Session A). length x.down.got) same in
        let k = kept_reached row.session.down (kept.sessions m.row.number row.session row.is).down in
        let low = k.acked in
        let all = ap length k.front.1 in
        let a = length-append (row.session.down.got ++ row.session.down.way) k.front.0 in
        let b = length-append row.session.down.got row.session.down.way in
        let acked = row.acked in
        let queue : length m.row.queue ≡ length row.session.down.put - row.session.down.acked = ap length row.queue ∙ length-drop row.session.down.acked row.session.down.put in
        elim high [ inl below ↦ omega arith | inr above ↦ omega arith ]

pub too_high_keeps : {A : Type 0} (k : ℕ) (v next : View A) → IsTooHigh k v next → LinkKept v → LinkKept next
too_high_keeps {A = A} k v next m kept = subst LinkKept (sym m.gives) (row_ended_keeps mid (record mid { row = None }) (record { row = m.row; is_row = m.is_row; off = m.off; gives = refl })
    (left_keeps v k m.conn (shut (Errs TooHigh) m.conn) old.stage left m.is (off_ready m.conn ready) (shut_off m.conn (Errs TooHigh) tt)
    (shut_at old.stage m.conn (Errs TooHigh) old.at (taken_stands (has v.here k) m.conn (ResumeAt m.row.number m.h) m.rest old.piped m.first)) old.uncounted old.counting
    (subst (λ b. ArePiped b (shut (Errs TooHigh) m.conn)) left (shut_piped (has v.here k) m.conn (Errs TooHigh) (λ e. absurd (not_true left e)) old.piped)) old.asked kept))
  where
    old : ConnKept v k m.conn
    old = kept.conns k m.conn m.is

    left : has v.here k ≡ false
    left = too_high_left k v next m kept

    mid : View A
    mid = record v { conns = with_at k (shut (Errs TooHigh) m.conn) v.conns }

    ready : m.conn.phase ≡ Ready
    ready = old.at.phase ∙ ap phase_of (asks old.stage m.conn.footed m.row.number m.h (up_whole (left_up m.rest m.conn.wires)) (sym old.at.up ∙ left_up_whole (ResumeAt m.row.number m.h) m.rest m.conn.wires m.first)).is

-- a client with no connection gives its session up

pub forgotten_keeps : {A : Type 0} (v next : View A) → IsForgotten v next → LinkKept v → LinkKept next
forgotten_keeps {A = A} v next m kept = subst LinkKept (sym m.gives) (record {
  there = kept.there;
  conns = λ n d found. let before = kept.conns n d found in record {
    piped = before.piped;
    stage = before.stage;
    at = before.at;
    asked = before.asked;
    fits = λ e. no_entry n (sym m.idle ∙ has_is v.here n e);
    attached = before.attached;
    uncounted = before.uncounted;
    counting = before.counting;
  };
  row = kept.row;
  own = λ o e. no_entry o e;
  sessions = kept.sessions;
  goes_down = kept.goes_down;
  idle_up = kept.idle_up;
  idle_down = kept.idle_down;
  late = kept.late;
})

-- the client left with a footer

lost_whole : {A : Type 0} (x : Wires A) → up_lost x ≡ [] → up_whole x ≡ up_words x
lost_whole (Flow us ds) e = refl
lost_whole (Stop us ds lu ld) e = ap (λ l. us ++ l) e ∙ append-nil us

foot_words : {A : Type 0} (x : Wires A) → up_words (with_foot x) ≡ up_words x ++ Foot ∷ []
foot_words (Flow us ds) = refl
foot_words (Stop us ds lu ld) = refl

foot_whole : {A : Type 0} (x : Wires A) → up_lost x ≡ [] → up_whole (with_foot x) ≡ up_whole x ++ Foot ∷ []
foot_whole (Flow us ds) e = refl
foot_whole (Stop us ds lu ld) e = rw e (append-nil (us ++ Foot ∷ []) ∙ ap (λ l. l ++ Foot ∷ []) (sym (append-nil us)))

foot_down : {A : Type 0} (x : Wires A) → down_words (with_foot x) ≡ down_words x
foot_down (Flow us ds) = refl
foot_down (Stop us ds lu ld) = refl

foot_down_whole : {A : Type 0} (x : Wires A) → down_whole (with_foot x) ≡ down_whole x
foot_down_whole (Flow us ds) = refl
foot_down_whole (Stop us ds lu ld) = refl

foot_flow : {A : Type 0} (x : Wires A) → is_flowing (with_foot x) ≡ is_flowing x
foot_flow (Flow us ds) = refl
foot_flow (Stop us ds lu ld) = refl

pub footed_keeps : {A : Type 0} (k : ℕ) (v next : View A) → IsFooted k v next → LinkKept v → LinkKept next
footed_keeps {A = A} k v next m kept = subst LinkKept (sym m.gives) (record {
  there = λ n here. there_cut v kept k this n here;
  conns = λ n d found. conn n d (entry k this v.conns n d found);
  row = λ r found. row r (kept.row r found);
  own = kept.own;
  sessions = kept.sessions;
  goes_down = λ n d q here found carried. down n d q here carried (entry k this v.conns n d found);
  idle_up = kept.idle_up;
  idle_down = λ q t found counted. elim (kept.idle_down q t found counted) [ inl quiet ↦ inl quiet | inr x ↦ inr (x.0, x.1, x.2, at_other k this v.conns x.0 (apart_from v.here k x.0 m.left x.2) ∙ x.3, x.4) ];
  late = λ n d q found away on carried. late n d q away on (back q carried) (entry k this v.conns n d found);
})
  where
    this : Conn A
    this = record m.conn { footed = true; wires = with_foot m.conn.wires }

    old : ConnKept v k m.conn
    old = kept.conns k m.conn m.is

    bare_up : up_whole m.conn.wires ≡ up_of old.stage
    bare_up = old.at.up ∙ ap (λ x. up_of old.stage ++ foot_of x) m.unfooted ∙ append-nil (up_of old.stage)

    conn : (n : ℕ) (d : Conn A) → Entry k this v.conns n d → ConnKept (record v { conns = with_at k this v.conns }) n d
    conn n d (New same is) =
        let here : ConnKept (record v { conns = with_at k this v.conns }) k this = record {
          piped = record {
            flowing = λ e. absurd (not_true m.left (old.piped.flowing (sym (foot_flow m.conn.wires) ∙ e)).0);
            unfooted = λ e. absurd (not_true m.left e);
            fair = old.piped.fair;
            left = λ e. foot_down m.conn.wires ∙ old.piped.left e;
            ended = inl m.stands;
            gone = λ e. absurd (not_true m.untold e);
          };
          stage = old.stage;
          at = record {
            client = old.at.client;
            phase = old.at.phase;
            up = foot_whole m.conn.wires m.whole ∙ ap (λ l. l ++ Foot ∷ []) bare_up;
            down = foot_down_whole m.conn.wires ∙ old.at.down;
          };
          asked = old.asked;
          fits = λ e. absurd (not_true m.left e);
          attached = old.attached;
          uncounted = old.uncounted;
          counting = old.counting;
        } in
        subst (λ x. ConnKept (record v { conns = with_at k this v.conns }) x d) same (subst (λ x. ConnKept (record v { conns = with_at k this v.conns }) k x) is here)
    conn n d (Old ne there) =
        let before = kept.conns n d there in
        record { piped = before.piped; stage = before.stage; at = before.at; asked = before.asked; fits = before.fits; attached = before.attached; uncounted = before.uncounted; counting = before.counting }

    goes_up : GoesUpAs m.conn this
    goes_up s g = record {
      way = g.way ∙ sym (ap up_stanzas (foot_words m.conn.wires) ∙ up_stanzas_with (up_words m.conn.wires) (Foot ∷ []) ∙ append-nil (up_stanzas (up_words m.conn.wires)));
      is_open = g.is_open ∙ ap (λ x. x && sends m.conn.client) (sym (foot_flow m.conn.wires));
      counts = subst (λ ws. UpCounts s.down.acked s.down.stated ws) (sym (foot_words m.conn.wires)) (up_counts_with s.down.acked s.down.stated (up_words m.conn.wires) Foot (λ n. tt) g.counts);
    }

    placed : (r : Row A) (s : Session A) (o : Option ℕ) → IsPlaced v.conns r s o → IsPlaced (with_at k this v.conns) r s o
    placed r s None a = a
    placed r s (Some n) (d, found, held, goes) = by (cases_eq k n)
      where
        by : (k ≡ n) ⊎ (k ≡ n → ⊥) → IsPlaced (with_at k this v.conns) r s (Some n)
        by (inl same) =
            let one : d ≡ m.conn = some_one (v.conns k) d m.conn (subst (λ x. v.conns x ≡ Some d) (sym same) found) m.is in
            (this, subst (λ x. with_at k this v.conns x ≡ Some this) same (at_same k this v.conns), subst (λ x. session_on x ≡ Some r.number) one held, λ e. goes_up s (subst (λ x. GoesUp x s) one (goes e)))
        by (inr ne) = (d, at_other k this v.conns n ne ∙ found, held, goes)

    row : (r : Row A) → RowKept v.conns v.sessions r → RowKept (with_at k this v.conns) v.sessions r
    row r before = record {
      session = before.session;
      is = before.is;
      counted = before.counted;
      handled = before.handled;
      acked = before.acked;
      queue = before.queue;
      placed = placed r before.session r.on before.placed;
    }

    down : GoesDownStill k this v
    down n d q here carried (New same is) = absurd (apart_from v.here k n m.left here same)
    down n d q here carried (Old ne there) = kept.goes_down n d q here there carried

    back : (q : ℕ) → IsCarried (record v { conns = with_at k this v.conns }) q → IsCarried v q
    back q (n, d, here, found, carried) = carried_before k this v q (λ e at. absurd (not_true m.left (is_has v.here k e))) n d here carried (entry k this v.conns n d found)

    bare : IsBare (up_words m.conn.wires) → IsBare (up_words (with_foot m.conn.wires))
    bare (inl e) = inr (foot_words m.conn.wires ∙ ap (λ l. l ++ Foot ∷ []) e)
    bare (inr e) = up_foot old.stage [] (sym bare_up ∙ lost_whole m.conn.wires m.whole ∙ e)

    late : StaysBare k this v
    late n d q away on carried (New same is) =
        subst (λ x. IsBare (up_words x.wires)) is (bare (kept.late k m.conn q m.is m.left (subst (λ x. session_on x ≡ Some q) (sym is) on) carried))
    late n d q away on carried (Old ne there) = kept.late n d q there away on carried
