-- What the server puts on the connection of a session.
use Rattle.std.proofs.Common.{◌≡◌, ◌≢◌, ℕ, Bool, true, false, ◌&&◌, List, [], ◌∷◌, ◌++◌, length, refl, sym, ap, ◌∙◌, subst, ◌⊎◌, inl, inr, Option, Some}
use Rattle.std.proofs.lemmas.Bool.{cases_Bool, cases_eq}
use Rattle.std.proofs.lemmas.List.{append-nil, map-append}
use Rattle.sm_acks.specs.Delivery.{queue_of}
use Rattle.sim_2_links.proofs.Entries.{at_same, at_other, Entry, New, Old, entry, was, altered}
use Rattle.sim_2_links.proofs.Tables.{send_down_whole, send_down_whole_up}
use Rattle.sim_2_links.proofs.CutLinks.{not_true, some_one, some_same, there_cut, on_other}
use Rattle.sim_2_links.proofs.Hands.{no_entry, stopped_away}
use Rattle.sim_2_links.proofs.Detached.{IsStill, still_asked, still_fits, carries_at, on_stands}
use Rattle.sim_2_links.proofs.UncountedEnds.{carried_is_held, carried_holds}
use Rattle.sim_2_links.proofs.StepParts.{carried_before, GoesDownAfter, StaysBare, attached_after}
use Rattle.sim_2_links.specs.Words.{Traffic, up_stanzas, DownWord, Resumed, Enabled, Down}
use Rattle.sim_2_links.specs.Wires.{Wires, Flow, Stop, is_flowing, up_words, down_words, down_whole, send_down}
use Rattle.sim_2_links.specs.Stages.{Stage, AsksResume, Refused, Resumes, Binds, AsksEnable, Enables, Runs, client_of, phase_of, up_of, down_of, Ending, Stands, tail_of, foot_of, Conn, IsAt}
use Rattle.sim_2_links.specs.Views.{Table, with_at, alter, has, Session, Row, Own, View, on_phase, session_on, carries, sends}
use Rattle.sim_2_links.specs.Links.{carried_of, UpCounts, ArePiped, IsAsked, FitsOwn, is_yet, ConnKept, GoesUp, GoesDown, IsIdle, IsPlaced, RowKept, OwnKept, SessionKept, IsCarried, IsBare, LinkKept}

-- a row of the table at which the server counts the session takes more traffic down

pub record Takes {A : Type 0} (s : Stage A) (t : Traffic A) : Type 1 where
  pub row : Stage A
  pub client : client_of row ≡ client_of s
  pub phase : phase_of row ≡ phase_of s
  pub up : up_of row ≡ up_of s
  pub down : down_of row ≡ down_of s ++ Down t ∷ []
  pub carried : carried_of row ≡ carried_of s
  pub yet : is_yet row ≡ false
  pub asked : (sessions : Table (Session A)) → IsAsked sessions row
  pub fits : (own : Option (Own A)) (epoch : ℕ) (sessions : Table (Session A)) → FitsOwn own epoch sessions s → FitsOwn own epoch sessions row

pub takes : {A : Type 0} (s : Stage A) (t : Traffic A) (end : Ending) (gone : Bool) (p : ℕ) → on_phase (phase_of s) end gone ≡ Some p → is_yet s ≡ false → Takes s t
takes (Resumes q h downs) t end gone p e yet = record { row = Resumes q h (downs ++ t ∷ []); client = refl; phase = refl; up = refl; down = ap (λ l. Resumed q h ∷ l) (map-append Down downs (t ∷ [])); carried = refl; yet = refl; asked = λ sessions. tt; fits = λ own epoch sessions f. f }
takes (Enables q downs) t end gone p e yet = record { row = Enables q (downs ++ t ∷ []); client = refl; phase = refl; up = refl; down = ap (λ l. Enabled q ∷ l) (map-append Down downs (t ∷ [])); carried = refl; yet = refl; asked = λ sessions. tt; fits = λ own epoch sessions f. f }
takes (Runs q ups downs) t end gone p e yet = record { row = Runs q ups (downs ++ t ∷ []); client = refl; phase = refl; up = refl; down = map-append Down downs (t ∷ []); carried = refl; yet = refl; asked = λ sessions. tt; fits = λ own epoch sessions f. f }
takes (Binds q) t end gone p e yet = absurd (not_true yet refl)
takes (AsksEnable q) t end gone p e yet = absurd (not_true yet refl)
takes (AsksResume q h) t end gone p e yet = absurd (let no_way : ⊥ = no_entry p e in no_way)
takes (Refused q) t end gone p e yet = absurd (let no_way : ⊥ = no_entry p e in no_way)
takes _ t end gone p e yet = absurd (let no_way : ⊥ = no_entry p e in no_way)

abbrev pub sent_down : {A : Type 0} → Conn A → Traffic A → Conn A
sent_down c t = record c { wires = send_down (Down t ∷ []) c.wires }

sent_up_words : {A : Type 0} (ws : List (DownWord A)) (x : Wires A) → up_words (send_down ws x) ≡ up_words x
sent_up_words ws (Flow us ds) = refl
sent_up_words ws (Stop us ds lu ld) = refl

sent_flow : {A : Type 0} (ws : List (DownWord A)) (x : Wires A) → is_flowing (send_down ws x) ≡ is_flowing x
sent_flow ws (Flow us ds) = refl
sent_flow ws (Stop us ds lu ld) = refl

sent_stopped : {A : Type 0} (ws : List (DownWord A)) (x : Wires A) → is_flowing x ≡ false → down_words (send_down ws x) ≡ down_words x
sent_stopped ws (Flow us ds) e = absurd (not_true e refl)
sent_stopped ws (Stop us ds lu ld) e = refl

sent_piped : {A : Type 0} (works : Bool) (c : Conn A) (t : Traffic A) → ArePiped works c → ArePiped works (sent_down c t)
sent_piped works c t p = record {
  flowing = λ e. p.flowing (sym (sent_flow (Down t ∷ []) c.wires) ∙ e);
  unfooted = p.unfooted;
  fair = p.fair;
  left = λ e. sent_stopped (Down t ∷ []) c.wires (stopped_away works c p e) ∙ p.left e;
  ended = elim p.ended [ inl e ↦ inl e | inr e ↦ inr (sent_up_words (Down t ∷ []) c.wires ∙ e) ];
  gone = λ e. sent_up_words (Down t ∷ []) c.wires ∙ p.gone e;
}

pub record IsSent {A : Type 0} (v : View A) (k : ℕ) (c : Conn A) (r new : Row A) (t : Traffic A) (f : ℕ → Session A → Session A) : Type 0 where
  pub is : v.conns k ≡ Some c
  pub is_row : v.row ≡ Some r
  pub on : r.on ≡ Some k
  pub counted : r.counted ≡ true
  pub number : new.number ≡ r.number
  pub new_on : new.on ≡ r.on
  pub new_counted : new.counted ≡ r.counted
  pub handled : new.handled ≡ r.handled
  pub still : IsStill f
  pub sessions : (q : ℕ) (s : Session A) → v.sessions q ≡ Some s → SessionKept (f q s)
  pub ends : (s : Session A) → v.sessions r.number ≡ Some s → r.acked ≡ s.down.acked → r.queue ≡ queue_of s.down → (new.acked ≡ (f r.number s).down.acked) × (new.queue ≡ queue_of (f r.number s).down)
  pub own : (o : Own A) → OwnKept v.epoch v.sessions o → OwnKept v.epoch (alter f v.sessions) o
  pub up : (q : ℕ) (s : Session A) (d : Conn A) → GoesUp d s → GoesUp d (f q s)
  pub idle_up : (q : ℕ) (s : Session A) → IsIdle s.up → IsIdle (f q s).up
  pub down_this : (s : Session A) → v.sessions r.number ≡ Some s → GoesDown c s → GoesDown (sent_down c t) (f r.number s)
  pub down_other : (q : ℕ) (s : Session A) (d : Conn A) → (s.down.is_open ≡ false) ⊎ (r.number ≢ q) → GoesDown d s → GoesDown d (f q s)
  pub idle_down : (q : ℕ) (s : Session A) → IsIdle s.down → IsIdle (f q s).down

pub sent_keeps : {A : Type 0} (v : View A) (k : ℕ) (c : Conn A) (r new : Row A) (t : Traffic A) (f : ℕ → Session A → Session A) →
    IsSent v k c r new t f → LinkKept v → LinkKept (record v { conns = with_at k (sent_down c t) v.conns; row = Some new; sessions = alter f v.sessions })
sent_keeps {A = A} v k c r new t f m kept = record {
  there = λ n here. there_cut v kept k this n here;
  conns = λ n d found. conn n d (entry k this v.conns n d found);
  row = λ q e. subst (λ x. RowKept (with_at k (sent_down c t) v.conns) (alter f v.sessions) x) (let out : new ≡ q = cc in out) row_kept;
  own = λ o found. m.own o (kept.own o found);
  sessions = λ q s found. let w = was f v.sessions q s found in subst SessionKept w.2 (m.sessions q w.0 w.1);
  goes_down = λ n d q here found carried. down n d q here carried (entry k this v.conns n d found);
  idle_up = λ q s found counted.
      let w = was f v.sessions q s found in
      let before : w.0.counted ≡ true = sym (m.still.counted q w.0) ∙ ap (λ x. x.counted) w.2 ∙ counted in
      elim (kept.idle_up q w.0 w.1 before) [
        | inl quiet ↦ inl (subst (λ x. IsIdle x.up) w.2 (m.idle_up q w.0 quiet))
        | inr x ↦ inr (new, refl, m.number ∙ ap (λ (y : Row A). y.number) (some_one v.row r x.0 m.is_row x.1) ∙ x.2)
      ];
  idle_down = λ q s found counted.
      let w = was f v.sessions q s found in
      let before : w.0.counted ≡ true = sym (m.still.counted q w.0) ∙ ap (λ x. x.counted) w.2 ∙ counted in
      elim (kept.idle_down q w.0 w.1 before) [ inl quiet ↦ inl (subst (λ x. IsIdle x.down) w.2 (m.idle_down q w.0 quiet)) | inr carried ↦ inr (carried_on q carried) ];
  late = λ n d q found away on carried. late n d q away on (carried_back q carried) (entry k this v.conns n d found);
}
  where
    this : Conn A
    this = sent_down c t

    old : ConnKept v k c
    old = kept.conns k c m.is

    row : RowKept v.conns v.sessions r
    row = kept.row r m.is_row

    placed_old : (d : Conn A) × (v.conns k ≡ Some d) × (session_on d ≡ Some r.number) × (row.session.counted ≡ true → GoesUp d row.session)
    placed_old = subst (λ o. IsPlaced v.conns r row.session o) m.on row.placed

    one_conn : placed_old.0 ≡ c
    one_conn = some_one (v.conns k) placed_old.0 c placed_old.1 m.is

    held : session_on c ≡ Some r.number
    held = subst (λ x. session_on x ≡ Some r.number) one_conn placed_old.2

    not_yet : is_yet old.stage ≡ false
    not_yet = elim (cases_Bool (is_yet old.stage)) [ inr e ↦ e | inl e ↦ absurd (not_true (old.uncounted r m.is_row m.on e) m.counted) ]

    more : Takes old.stage t
    more = takes old.stage t c.ending c.gone r.number (ap (λ x. on_phase x c.ending c.gone) (sym old.at.phase) ∙ held) not_yet

    stands : c.ending ≡ Stands
    stands = on_stands c.phase c.ending c.gone r.number held

    at : IsAt more.row (sent_down c t)
    at = record {
      client = old.at.client ∙ sym more.client;
      phase = old.at.phase ∙ sym more.phase;
      up = send_down_whole_up (Down t ∷ []) c.wires ∙ old.at.up ∙ ap (λ l. l ++ foot_of c.footed) (sym more.up);
      down =
          let bare : down_whole c.wires ≡ down_of old.stage = old.at.down ∙ ap (λ x. down_of old.stage ++ tail_of x) stands ∙ append-nil (down_of old.stage) in
          send_down_whole (Down t ∷ []) c.wires ∙ ap (λ l. l ++ Down t ∷ []) bare ∙ sym more.down ∙ sym (append-nil (down_of more.row)) ∙ ap (λ x. down_of more.row ++ tail_of x) (sym stands);
    }

    same_carried : carries (sent_down c t) ≡ carries c
    same_carried = carries_at more.row (sent_down c t) at ∙ more.carried ∙ sym (carries_at old.stage c old.at)

    goes_up : (s : Session A) → GoesUp c s → GoesUp (sent_down c t) s
    goes_up s g = record {
      way = g.way ∙ ap up_stanzas (sym (sent_up_words (Down t ∷ []) c.wires));
      is_open = g.is_open ∙ ap (λ x. x && sends c.client) (sym (sent_flow (Down t ∷ []) c.wires));
      counts = subst (λ ws. UpCounts s.down.acked s.down.stated ws) (sym (sent_up_words (Down t ∷ []) c.wires)) g.counts;
    }

    row_kept : RowKept (with_at k (sent_down c t) v.conns) (alter f v.sessions) new
    row_kept =
        let ends = m.ends row.session row.is row.acked row.queue in
        record {
          session = f r.number row.session;
          is = ap (alter f v.sessions) m.number ∙ altered f v.sessions r.number row.session row.is;
          counted = m.new_counted ∙ row.counted ∙ sym (m.still.counted r.number row.session);
          handled = m.handled ∙ row.handled ∙ ap length (sym (m.still.got r.number row.session));
          acked = ends.0;
          queue = ends.1;
          placed = subst (λ o. IsPlaced (with_at k (sent_down c t) v.conns) new (f r.number row.session) o) (sym (m.new_on ∙ m.on)) (
            this,
            at_same k this v.conns,
            held ∙ ap Some (sym m.number),
            λ e. m.up r.number row.session this (goes_up row.session (subst (λ x. GoesUp x row.session) one_conn (placed_old.3 (sym (m.still.counted r.number row.session) ∙ e)))),
          );
        }

    conn : (n : ℕ) (d : Conn A) → Entry k this v.conns n d → ConnKept (record v { conns = with_at k (sent_down c t) v.conns; row = Some new; sessions = alter f v.sessions }) n d
    conn n d (New same is) =
        let here : ConnKept (record v { conns = with_at k (sent_down c t) v.conns; row = Some new; sessions = alter f v.sessions }) k (sent_down c t) = record {
          piped = sent_piped (has v.here k) c t old.piped;
          stage = more.row;
          at = at;
          asked = more.asked (alter f v.sessions);
          fits = λ e. more.fits v.own v.epoch (alter f v.sessions) (still_fits v.own v.epoch f v.sessions old.stage m.still (old.fits e));
          attached = attached_after v r new m.is_row m.number m.new_on k c old.attached;
          uncounted = λ x g on e. absurd (not_true more.yet e);
          counting = λ x g on p e. subst (λ (y : Row A). y.counted ≡ true) (some_same new x g) (m.new_counted ∙ m.counted);
        } in
        subst (λ x. ConnKept (record v { conns = with_at k (sent_down c t) v.conns; row = Some new; sessions = alter f v.sessions }) x d) same (subst (λ x. ConnKept (record v { conns = with_at k (sent_down c t) v.conns; row = Some new; sessions = alter f v.sessions }) k x) is here)
    conn n d (Old ne there) =
        let before = kept.conns n d there in
        record {
          piped = before.piped;
          stage = before.stage;
          at = before.at;
          asked = still_asked f v.sessions before.stage m.still before.asked;
          fits = λ e. still_fits v.own v.epoch f v.sessions before.stage m.still (before.fits e);
          attached = attached_after v r new m.is_row m.number m.new_on n d before.attached;
          uncounted = λ x g on e. on_other k n new x g (m.new_on ∙ m.on) ne on;
          counting = λ x g on p e. on_other k n new x g (m.new_on ∙ m.on) ne on;
        }

    down : GoesDownAfter k this v f
    down n d q here carried (New same is) =
        let carried_old : carries c ≡ Some q = sym same_carried ∙ subst (λ x. carries x ≡ Some q) (sym is) carried in
        let mine : q ≡ r.number = carried_is_held old.stage c q r.number old.at carried_old held in
        let before = kept.goes_down k c q (here ∙ ap Some (sym same)) m.is carried_old in
        let own_one : v.sessions r.number ≡ Some before.0 = subst (λ x. v.sessions x ≡ Some before.0) mine before.1 in
        let after : (s : Session A) × (alter f v.sessions r.number ≡ Some s) × GoesDown d s = (f r.number before.0, altered f v.sessions r.number before.0 own_one, subst (λ x. GoesDown x (f r.number before.0)) is (m.down_this before.0 own_one before.2)) in
        subst (λ x. (s : Session A) × (alter f v.sessions x ≡ Some s) × GoesDown d s) (sym mine) after
    down n d q here carried (Old ne there) =
        let before = kept.goes_down n d q here there carried in
        (f q before.0, altered f v.sessions q before.0 before.1, m.down_other q before.0 d (closed (cases_eq r.number q) before.2) before.2)
      where
        closed : {s : Session A} → (r.number ≡ q) ⊎ (r.number ≡ q → ⊥) → GoesDown d s → (s.down.is_open ≡ false) ⊎ (r.number ≢ q)
        closed (inr apart) g = inr apart
        closed (inl same) g = inl (g.is_open ∙ dead (cases_Bool (is_flowing d.wires)))
          where
            dead : (is_flowing d.wires ≡ true) ⊎ (is_flowing d.wires ≡ false) → is_flowing d.wires ≡ false
            dead (inr e) = e
            dead (inl e) =
                let there_kept = kept.conns n d there in
                let flows = there_kept.piped.flowing e in
                let held_there : session_on d ≡ Some q = carried_holds there_kept.stage d q there_kept.at carried flows.1 flows.2 in
                let a = there_kept.attached q held_there in
                let on_n : r.on ≡ Some n = subst (λ (x : Row A). x.on ≡ Some n) (some_one v.row a.0 r a.1 m.is_row) a.3 in
                absurd (ne (some_same k n (sym m.on ∙ on_n)))

    carried_on : (q : ℕ) → IsCarried v q → IsCarried (record v { conns = with_at k (sent_down c t) v.conns; row = Some new; sessions = alter f v.sessions }) q
    carried_on q (n, d, here, found, carried) = by (cases_eq k n)
      where
        by : (k ≡ n) ⊎ (k ≡ n → ⊥) → IsCarried (record v { conns = with_at k (sent_down c t) v.conns; row = Some new; sessions = alter f v.sessions }) q
        by (inl same) =
            let one : d ≡ c = some_one (v.conns k) d c (subst (λ x. v.conns x ≡ Some d) (sym same) found) m.is in
            (k, this, here ∙ ap Some (sym same), at_same k this v.conns, same_carried ∙ subst (λ x. carries x ≡ Some q) one carried)
        by (inr ne) = (n, d, here, at_other k this v.conns n ne ∙ found, carried)

    carried_back : (q : ℕ) → IsCarried (record v { conns = with_at k (sent_down c t) v.conns; row = Some new; sessions = alter f v.sessions }) q → IsCarried v q
    carried_back q (n, d, here, found, carried) = carried_before k (sent_down c t) v q (λ e at. (k, c, e, m.is, sym same_carried ∙ at)) n d here carried (entry k (sent_down c t) v.conns n d found)

    late : StaysBare k this v
    late n d q away on carried (New same is) =
        let bare = kept.late k c q m.is (subst (λ x. has v.here x ≡ false) (sym same) away) (subst (λ x. session_on x ≡ Some q) (sym is) on) carried in
        subst (λ x. IsBare (up_words x.wires)) is (subst IsBare (sym (sent_up_words (Down t ∷ []) c.wires)) bare)
    late n d q away on carried (Old ne there) = kept.late n d q there away on carried
