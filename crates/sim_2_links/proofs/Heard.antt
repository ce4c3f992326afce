-- Stanzas, requests and counts that the client takes on its connection.
use Rattle.std.proofs.Common.{◌≡◌, ◌≢◌, ℕ, ◌+◌, ◌-◌, ◌≤◌, Bool, true, false, ◌&&◌, List, [], ◌∷◌, ◌++◌, length, drop, map, refl, sym, ap, ◌∙◌, subst, arith, ◌⊎◌, inl, inr, Option, None, Some, nat_eq}
use Rattle.std.proofs.lemmas.Bool.{cases_eq}
use Rattle.std.specs.List.{Contains}
use Rattle.sm_acks.specs.Delivery.{Handle, State, Acknowledge, queue_of}
use Rattle.sim_2_links.proofs.Entries.{same_number, other_number, at_same, at_other, Entry, New, Old, entry, was, altered, has_is, is_has}
use Rattle.sim_2_links.proofs.DeliveryRuns.{reached_more}
use Rattle.sim_2_links.proofs.Tables.{send_up_whole, send_up_whole_down, left_down_whole, left_down_whole_up}
use Rattle.std.proofs.lemmas.List.{drop-drop, append-nil, map-append, length_push}
use Rattle.std.proofs.lemmas.List.Elements.{Contains-append_left}
use Rattle.sm_acks.proofs.Directions.{kept_reached}
use Rattle.sim_2_links.proofs.CutLinks.{not_true, some_one, here_or_not, there_cut}
use Rattle.sim_2_links.proofs.Counting.{up_counts_push, up_counts_more, up_stanzas_with}
use Rattle.sim_2_links.proofs.Hands.{piped_down, flow_up, stopped_away}
use Rattle.sim_2_links.specs.Words.{Traffic, St, Req, Ack, up_stanzas, down_stanzas, UpWord, Up, DownWord, Down, InOnline, AtSession}
use Rattle.sim_2_links.specs.Wires.{Wires, Flow, Stop, is_flowing, up_words, down_words, up_whole, down_whole, send_up, left_down}
use Rattle.sim_2_links.specs.Stages.{Stage, AsksResume, Resumes, AsksEnable, Runs, client_of, phase_of, up_of, down_of, Ending, Stands, Errs, Closes, tail_of, foot_of, Conn, IsAt}
use Rattle.sim_2_links.specs.Views.{Table, with_at, alter, has, Session, Row, Own, View, on_phase, session_on, carried_by, carries, sends}
use Rattle.sim_2_links.specs.LinkMoves.{read_if, IsDownStanza, told_if, IsDownRequest, heard_if, IsDownCount}
use Rattle.sim_2_links.specs.Links.{carried_of, UpCounts, DownCounts, ArePiped, IsAsked, ConnKept, GoesUp, GoesDown, IsIdle, IsPlaced, RowKept, OwnKept, SessionKept, IsCarried, IsBare, LinkKept}

pub record RunsDown {A : Type 0} (s : Stage A) (p : ℕ) : Type 0 where
  pub ups : List (Traffic A)
  pub downs : List (Traffic A)
  pub is : s ≡ Runs p ups downs

pub runs_down : {A : Type 0} (s : Stage A) (p : ℕ) → client_of s ≡ InOnline p → RunsDown s p
runs_down (Runs q ups downs) p e = let same : q ≡ p = cc in record { ups = ups; downs = downs; is = ap (λ x. Runs x ups downs) same }
runs_down (Resumes q h downs) p e = absurd (let no_way : ⊥ = cc in no_way)
runs_down _ p e = absurd (let no_way : ⊥ = cc in no_way)

pub record FirstDown {A : Type 0} (downs : List (Traffic A)) (tail : List (DownWord A)) (t : Traffic A) (rest : List (DownWord A)) : Type 0 where
  pub later : List (Traffic A)
  pub is : downs ≡ t ∷ later
  pub left : map Down later ++ tail ≡ rest

first_down : {A : Type 0} (downs : List (Traffic A)) (end : Ending) (t : Traffic A) (rest : List (DownWord A)) → map Down downs ++ tail_of end ≡ Down t ∷ rest → FirstDown downs (tail_of end) t rest
first_down [] Stands t rest e = absurd (let no_way : ⊥ = cc in no_way)
first_down [] (Errs x) t rest e = absurd (let no_way : ⊥ = cc in no_way)
first_down [] Closes t rest e = absurd (let no_way : ⊥ = cc in no_way)
first_down (u ∷ downs) end t rest e =
    let same : u ≡ t = cc in
    let left : map Down downs ++ tail_of end ≡ rest = cc in
    record { later = downs; is = ap (λ x. x ∷ downs) same; left = left }

taken : {A : Type 0} (downs : List (Traffic A)) (end : Ending) (t : Traffic A) (rest : List (DownWord A)) (x : Wires A) → map Down downs ++ tail_of end ≡ down_whole x → down_words x ≡ Down t ∷ rest →
    (later : List (Traffic A)) × (map Down later ++ tail_of end ≡ down_whole (left_down rest x))
taken downs end t rest x e first = let f = first_down downs end t (down_whole (left_down rest x)) (e ∙ left_down_whole (Down t) rest x first) in (f.later, f.left)

-- what the client puts then
abbrev pub answered : {A : Type 0} → Conn A → List (DownWord A) → List (Traffic A) → Conn A
answered c rest puts = record c { wires = send_up (map Up puts) (left_down rest c.wires) }

-- what a change of the sessions leaves, for the server's row and for connections that were left
pub record IsRelayable {A : Type 0} (p : ℕ) (f : ℕ → Session A → Session A) : Type 0 where
  pub counted : (q : ℕ) (s : Session A) → (f q s).counted ≡ s.counted
  pub epoch : (q : ℕ) (s : Session A) → (f q s).epoch ≡ s.epoch
  pub read : (q : ℕ) (s : Session A) → (f q s).read ≡ s.read
  pub stated : (q : ℕ) (s : Session A) (h : ℕ) → Contains s.down.stated h → Contains (f q s).down.stated h
  pub got : (q : ℕ) (s : Session A) → (f q s).up.got ≡ s.up.got
  pub acked : (q : ℕ) (s : Session A) → (f q s).down.acked ≡ s.down.acked
  pub put : (q : ℕ) (s : Session A) → (f q s).down.put ≡ s.down.put
  pub others : (q : ℕ) (s : Session A) → p ≢ q → f q s ≡ s

relayable_asked : {A : Type 0} (p : ℕ) (f : ℕ → Session A → Session A) (sessions : Table (Session A)) (s : Stage A) → IsRelayable p f → IsAsked sessions s → IsAsked (alter f sessions) s
relayable_asked p f sessions (AsksResume q h) g (s, is, read, stated) = (f q s, altered f sessions q s is, g.read q s ∙ read, g.stated q s h stated)
relayable_asked p f sessions (AsksEnable m) g (s, e, is, epoch) = (f m s, e, altered f sessions m s is, g.epoch m s ∙ epoch)
relayable_asked p f sessions _ g a = tt

pub record IsHeard {A : Type 0} (v : View A) (k : ℕ) (c : Conn A) (o new : Own A) (rest : List (DownWord A)) (puts : List (Traffic A)) (f : ℕ → Session A → Session A) : Type 0 where
  pub is : v.conns k ≡ Some c
  pub here : v.here ≡ Some k
  pub is_own : v.own ≡ Some o
  pub client : c.client ≡ InOnline o.number
  pub takes : (downs : List (Traffic A)) → map Down downs ++ tail_of c.ending ≡ down_whole c.wires → (later : List (Traffic A)) × (map Down later ++ tail_of c.ending ≡ down_whole (left_down rest c.wires))
  pub number : new.number ≡ o.number
  pub relayable : IsRelayable o.number f
  pub sessions : (q : ℕ) (s : Session A) → v.sessions q ≡ Some s → SessionKept (f q s)
  pub own : OwnKept v.epoch (alter f v.sessions) new
  pub up_other : (q : ℕ) (s : Session A) (d : Conn A) → is_flowing d.wires ≡ false → GoesUp d s → GoesUp d (f q s)
  pub up_this : (s : Session A) → v.sessions o.number ≡ Some s → GoesUp c s → GoesUp (answered c rest puts) (f o.number s)
  pub down : (s : Session A) → v.sessions o.number ≡ Some s → GoesDown c s → GoesDown (answered c rest puts) (f o.number s)
  pub idle_up : (q : ℕ) (s : Session A) → IsIdle s.up → IsIdle (f q s).up

pub heard_keeps : {A : Type 0} (v : View A) (k : ℕ) (c : Conn A) (o new : Own A) (rest : List (DownWord A)) (puts : List (Traffic A)) (f : ℕ → Session A → Session A) →
    IsHeard v k c o new rest puts f → LinkKept v → LinkKept (record v { conns = with_at k (answered c rest puts) v.conns; own = Some new; sessions = alter f v.sessions })
heard_keeps {A = A} v k c o new rest puts f m kept = record {
  there = λ n here. there_cut v kept k (answered c rest puts) n here;
  conns = λ n d found. conn n d (entry k (answered c rest puts) v.conns n d found);
  row = λ r found. row r found;
  own = λ q e. subst (λ x. OwnKept v.epoch (alter f v.sessions) x) (let out : new ≡ q = cc in out) m.own;
  sessions = λ q s found. let w = was f v.sessions q s found in subst SessionKept w.2 (m.sessions q w.0 w.1);
  goes_down = λ n d q here found carried. down n d q here carried (entry k (answered c rest puts) v.conns n d found);
  idle_up = λ q s found counted.
      let w = was f v.sessions q s found in
      let before : w.0.counted ≡ true = sym (m.relayable.counted q w.0) ∙ ap (λ x. x.counted) w.2 ∙ counted in
      elim (kept.idle_up q w.0 w.1 before) [ inl quiet ↦ inl (subst (λ x. IsIdle x.up) w.2 (m.idle_up q w.0 quiet)) | inr x ↦ inr x ];
  idle_down = λ q s found counted. idle_down q s (was f v.sessions q s found) counted (cases_eq o.number q);
  late = λ n d q found away on carried. late n d q away on (carried_back q carried) (entry k (answered c rest puts) v.conns n d found);
}
  where
    old : ConnKept v k c
    old = kept.conns k c m.is

    works : has v.here k ≡ true
    works = is_has v.here k m.here

    runs : RunsDown old.stage o.number
    runs = runs_down old.stage o.number (sym old.at.client ∙ m.client)

    firsts : (later : List (Traffic A)) × (map Down later ++ tail_of c.ending ≡ down_whole (left_down rest c.wires))
    firsts = m.takes runs.downs (ap (λ x. down_of x ++ tail_of c.ending) (sym runs.is) ∙ sym old.at.down)

    unfooted : c.footed ≡ false
    unfooted = old.piped.unfooted works

    carries_old : carries c ≡ Some o.number
    carries_old = ap (λ x. carried_by x (down_whole c.wires)) m.client

    carries_this : carries (answered c rest puts) ≡ Some o.number
    carries_this = ap (λ x. carried_by x (down_whole (send_up (map Up puts) (left_down rest c.wires)))) m.client

    at : IsAt (Runs o.number (runs.ups ++ puts) firsts.0) (answered c rest puts)
    at = record {
      client = m.client;
      phase = old.at.phase ∙ ap phase_of runs.is;
      up =
          let bare : up_whole c.wires ≡ map Up runs.ups = old.at.up ∙ ap (λ x. up_of x ++ foot_of c.footed) runs.is ∙ ap (λ x. map Up runs.ups ++ foot_of x) unfooted ∙ append-nil (map Up runs.ups) in
          send_up_whole (map Up puts) (left_down rest c.wires) ∙ ap (λ l. l ++ map Up puts) (left_down_whole_up rest c.wires ∙ bare) ∙ sym (map-append Up runs.ups puts) ∙ sym (append-nil (map Up (runs.ups ++ puts))) ∙ ap (λ x. map Up (runs.ups ++ puts) ++ foot_of x) (sym unfooted);
      down = send_up_whole_down (map Up puts) (left_down rest c.wires) ∙ sym firsts.1;
    }

    on_this : (q : ℕ) → session_on c ≡ Some q → o.number ≡ q
    on_this q e = read c.ending c.gone (ap (λ x. on_phase x c.ending c.gone) (sym (old.at.phase ∙ ap phase_of runs.is)) ∙ e)
      where
        read : (end : Ending) (gone : Bool) → on_phase (AtSession o.number) end gone ≡ Some q → o.number ≡ q
        read Stands false e = cc
        read Stands true e = absurd (let no_way : ⊥ = cc in no_way)
        read (Errs x) gone e = absurd (let no_way : ⊥ = cc in no_way)
        read Closes gone e = absurd (let no_way : ⊥ = cc in no_way)

    conn : (n : ℕ) (d : Conn A) → Entry k (answered c rest puts) v.conns n d → ConnKept (record v { conns = with_at k (answered c rest puts) v.conns; own = Some new; sessions = alter f v.sessions }) n d
    conn n d (New same is) =
        let this : ConnKept (record v { conns = with_at k (answered c rest puts) v.conns; own = Some new; sessions = alter f v.sessions }) k (answered c rest puts) = record {
          piped = subst (λ b. ArePiped b (answered c rest puts)) (sym works) (piped_down c rest c.client (map Up puts) (subst (λ b. ArePiped b c) works old.piped));
          stage = Runs o.number (runs.ups ++ puts) firsts.0;
          at = at;
          asked = tt;
          fits = λ e. (new, refl, m.number);
          attached = old.attached;
          uncounted = λ r f on e. absurd (not_true refl e);
          counting = λ r f on p e. old.counting r f on p (ap carried_of runs.is ∙ e);
        } in
        subst (λ x. ConnKept (record v { conns = with_at k (answered c rest puts) v.conns; own = Some new; sessions = alter f v.sessions }) x d) same (subst (λ x. ConnKept (record v { conns = with_at k (answered c rest puts) v.conns; own = Some new; sessions = alter f v.sessions }) k x) is this)
    conn n d (Old ne there) =
        let before = kept.conns n d there in
        record {
          piped = before.piped;
          stage = before.stage;
          at = before.at;
          asked = relayable_asked o.number f v.sessions before.stage m.relayable before.asked;
          fits = λ e. absurd (ne (let h : v.here ≡ Some n = has_is v.here n e in let here = m.here in let same : k ≡ n = cc in same));
          attached = before.attached;
          uncounted = before.uncounted;
          counting = before.counting;
        }

    placed : (r : Row A) (s : Session A) → v.row ≡ Some r → v.sessions r.number ≡ Some s → (x : Option ℕ) → IsPlaced v.conns r s x → IsPlaced (with_at k (answered c rest puts) v.conns) r (f r.number s) x
    placed r s is_row is None (counted, quiet) = (counted, m.idle_up r.number s quiet)
    placed r s is_row is (Some n) (d, found, held, goes) = by (cases_eq k n)
      where
        by : (k ≡ n) ⊎ (k ≡ n → ⊥) → IsPlaced (with_at k (answered c rest puts) v.conns) r (f r.number s) (Some n)
        by (inl same) =
            let one : d ≡ c = some_one (v.conns k) d c (subst (λ x. v.conns x ≡ Some d) (sym same) found) m.is in
            let held_this : session_on c ≡ Some r.number = subst (λ x. session_on x ≡ Some r.number) one held in
            let mine : o.number ≡ r.number = on_this r.number held_this in
            let goes_this : s.counted ≡ true → GoesUp (answered c rest puts) (f r.number s) = λ e. subst (λ x. GoesUp (answered c rest puts) (f x s)) mine (m.up_this s (subst (λ x. v.sessions x ≡ Some s) (sym mine) is) (subst (λ x. GoesUp x s) one (goes e))) in
            (answered c rest puts, subst (λ x. with_at k (answered c rest puts) v.conns x ≡ Some (answered c rest puts)) same (at_same k (answered c rest puts) v.conns), held_this, λ e. goes_this (sym (m.relayable.counted r.number s) ∙ e))
        by (inr ne) = (d, at_other k (answered c rest puts) v.conns n ne ∙ found, held, λ e. m.up_other r.number s d (stopped_away (has v.here n) d (kept.conns n d found).piped (here_or_not v n k (λ w. ne (sym w)) m.here)) (goes (sym (m.relayable.counted r.number s) ∙ e)))

    row : (r : Row A) → v.row ≡ Some r → RowKept (with_at k (answered c rest puts) v.conns) (alter f v.sessions) r
    row r found =
        let before = kept.row r found in
        record {
          session = f r.number before.session;
          is = altered f v.sessions r.number before.session before.is;
          counted = before.counted ∙ sym (m.relayable.counted r.number before.session);
          handled = before.handled ∙ ap length (sym (m.relayable.got r.number before.session));
          acked = before.acked ∙ sym (m.relayable.acked r.number before.session);
          queue = let a = m.relayable.acked r.number before.session in let p = m.relayable.put r.number before.session in before.queue ∙ ap (λ (n : ℕ). drop n before.session.down.put) (sym a) ∙ ap (drop (f r.number before.session).down.acked) (sym p);
          placed = placed r before.session found before.is r.on before.placed;
        }

    down : (n : ℕ) (d : Conn A) (q : ℕ) → v.here ≡ Some n → carries d ≡ Some q → Entry k (answered c rest puts) v.conns n d → (s : Session A) × (alter f v.sessions q ≡ Some s) × GoesDown d s
    down n d q here carried (New same is) =
        let e : Some o.number ≡ Some q = sym carries_this ∙ subst (λ x. carries x ≡ Some q) (sym is) carried in
        let mine : o.number ≡ q = cc in
        let before = kept.goes_down k c o.number m.here m.is carries_old in
        let after : (s : Session A) × (alter f v.sessions o.number ≡ Some s) × GoesDown d s = (f o.number before.0, altered f v.sessions o.number before.0 before.1, subst (λ x. GoesDown x (f o.number before.0)) is (m.down before.0 before.1 before.2)) in
        subst (λ x. (s : Session A) × (alter f v.sessions x ≡ Some s) × GoesDown d s) mine after
    down n d q here carried (Old ne there) = absurd (ne (let h = m.here in let same : k ≡ n = cc in same))

    idle_down : (q : ℕ) (s : Session A) → (a : Session A) × (v.sessions q ≡ Some a) × (f q a ≡ s) → s.counted ≡ true → (o.number ≡ q) ⊎ (o.number ≡ q → ⊥) →
        IsIdle s.down ⊎ IsCarried (record v { conns = with_at k (answered c rest puts) v.conns; own = Some new; sessions = alter f v.sessions }) q
    idle_down q s w counted (inl same) = inr (k, answered c rest puts, m.here, at_same k (answered c rest puts) v.conns, carries_this ∙ ap Some same)
    idle_down q s w counted (inr ne) =
        let stays : w.0 ≡ s = sym (m.relayable.others q w.0 ne) ∙ w.2 in
        let before : w.0.counted ≡ true = ap (λ x. x.counted) stays ∙ counted in
        elim (kept.idle_down q w.0 w.1 before) [
          | inl quiet ↦ inl (subst (λ x. IsIdle x.down) stays quiet)
          | inr x ↦ absurd (ne (mine q x))
        ]
      where
        mine : (q : ℕ) → IsCarried v q → o.number ≡ q
        mine q (n, d, here, found, carried) =
            let h = m.here in
            let same : k ≡ n = cc in
            let one : d ≡ c = some_one (v.conns k) d c (subst (λ x. v.conns x ≡ Some d) (sym same) found) m.is in
            let e : Some o.number ≡ Some q = sym carries_old ∙ subst (λ x. carries x ≡ Some q) one carried in
            cc

    carried_back : (q : ℕ) → IsCarried (record v { conns = with_at k (answered c rest puts) v.conns; own = Some new; sessions = alter f v.sessions }) q → IsCarried v q
    carried_back q (n, d, here, found, carried) = by (entry k (answered c rest puts) v.conns n d found)
      where
        by : Entry k (answered c rest puts) v.conns n d → IsCarried v q
        by (New same is) =
            let e : Some o.number ≡ Some q = sym carries_this ∙ subst (λ x. carries x ≡ Some q) (sym is) carried in
            (k, c, m.here, m.is, carries_old ∙ e)
        by (Old ne there) = (n, d, here, there, carried)

    late : (n : ℕ) (d : Conn A) (q : ℕ) → has v.here n ≡ false → session_on d ≡ Some q → IsCarried v q → Entry k (answered c rest puts) v.conns n d → IsBare (up_words d.wires)
    late n d q away on carried (New same is) = absurd (not_true away (subst (λ x. has v.here x ≡ true) same works))
    late n d q away on carried (Old ne there) = kept.late n d q there away on carried

-- the client's session, and its connection
pub record IsIn {A : Type 0} (v : View A) (c : Conn A) (o : Own A) (s : Session A) : Type 0 where
  pub is : v.sessions o.number ≡ Some s
  pub read : s.read ≡ true
  pub of_epoch : s.epoch ≡ Some v.epoch
  pub handled : o.handled ≡ length s.down.got
  pub acked : o.acked ≡ s.up.acked
  pub queue : o.queue ≡ queue_of s.up
  pub goes : GoesDown c s

abbrev pub OwnIn : {A : Type 0} → View A → Conn A → Own A → Type 0
OwnIn {A = A} v c o = (s : Session A) × IsIn v c o s

-- a count of what the client put, and those behind it
abbrev pub DownCounted : {A : Type 0} → ℕ → Session A → List (DownWord A) → Type 0
DownCounted h s rest = (s.up.acked ≤ h) × Contains s.up.stated h × DownCounts h s.up.stated rest

pub in_own : {A : Type 0} (v : View A) (k : ℕ) (c : Conn A) (o : Own A) → v.conns k ≡ Some c → v.here ≡ Some k → v.own ≡ Some o → c.client ≡ InOnline o.number → LinkKept v → OwnIn v c o
in_own v k c o is here is_own client kept =
    let old = kept.own o is_own in
    let goes = kept.goes_down k c o.number here is (ap (λ x. carried_by x (down_whole c.wires)) client) in
    let same : goes.0 ≡ old.session = some_one (v.sessions o.number) goes.0 old.session goes.1 old.is in (
      old.session,
      record {
        is = old.is;
        read = old.read;
        of_epoch = old.of_epoch;
        handled = old.handled;
        acked = old.acked;
        queue = old.queue;
        goes = subst (λ x. GoesDown c x) same goes.2;
      },
    )

pub same_session : {A : Type 0} (v : View A) (p q : ℕ) (s t : Session A) → v.sessions p ≡ Some s → has (Some p) q ≡ true → v.sessions q ≡ Some t → s ≡ t
same_session {A = A} v p q s t is e found = let same : Some p ≡ Some q = has_is (Some p) q e in let n : p ≡ q = cc in some_one (v.sessions q) s t (subst (λ x. v.sessions x ≡ Some s) n is) found

pub same_up : {A : Type 0} (rest : List (DownWord A)) (x : Wires A) → up_words (send_up [] (left_down rest x)) ≡ up_words x
same_up rest (Flow us ds) = append-nil us
same_up rest (Stop us ds lu ld) = refl

pub down_words_up : {A : Type 0} (puts : List (UpWord A)) (rest : List (DownWord A)) (x : Wires A) → down_words (send_up puts (left_down rest x)) ≡ rest
down_words_up puts rest (Flow us ds) = refl
down_words_up puts rest (Stop us ds lu ld) = refl

-- the connection takes another word down, and nothing goes up
goes_up_same : {A : Type 0} (c : Conn A) (rest : List (DownWord A)) (s : Session A) → GoesUp c s → GoesUp (answered c rest []) s
goes_up_same c rest s g = record {
  way = g.way ∙ ap up_stanzas (sym (same_up rest c.wires));
  is_open = g.is_open ∙ ap (λ x. x && sends c.client) (sym (flow_up [] rest c.wires));
  counts = subst (λ ws. UpCounts s.down.acked s.down.stated ws) (sym (same_up rest c.wires)) g.counts;
}

-- a stanza

read_kept : {A : Type 0} (b : Bool) (z : A) (ways : List A) (s : Session A) → (b ≡ true → (s.down.way ≡ z ∷ ways) × (s.counted ≡ true) × (s.read ≡ true)) → SessionKept s → SessionKept (read_if b z ways s)
read_kept false z ways s good kept = kept
read_kept true z ways s good kept = record {
  up = kept.up;
  down = reached_more Handle s.down (record s.down { got = s.down.got ++ z ∷ []; way = ways }) kept.down (z, ways, (good refl).0, refl);
  begun = λ e. absurd (not_true e (good refl).1);
  read = kept.read;
  epoch = kept.epoch;
  unread = kept.unread;
  unheard = λ e. absurd (not_true e (good refl).2);
}

read_relayable : {A : Type 0} (p : ℕ) (z : A) (ways : List A) → IsRelayable p (λ q s. read_if (has (Some p) q) z ways s)
read_relayable {A = A} p z ways = record {
  counted = λ q s. refl;
  epoch = λ q s. refl;
  read = λ q s. refl;
  stated = λ q s h c. c;
  got = λ q s. refl;
  acked = λ q s. refl;
  put = λ q s. refl;
  others = λ q s ne. none (nat_eq p q) s (other_number p q ne);
}
  where
    none : (b : Bool) (s : Session A) → b ≡ false → read_if b z ways s ≡ s
    none b s e = subst (λ x. read_if x z ways s ≡ s) (sym e) refl

pub down_stanza_keeps : {A : Type 0} (k : ℕ) (z : A) (v next : View A) → IsDownStanza k z v next → LinkKept v → LinkKept next
down_stanza_keeps {A = A} k z v next m kept = subst LinkKept (sym m.gives) (heard_keeps v k m.conn m.own (record m.own { handled = m.own.handled + 1 }) m.rest [] f (record {
  is = m.is;
  here = m.here;
  is_own = m.is_own;
  client = m.client;
  takes = λ downs e. taken downs m.conn.ending (St z) m.rest m.conn.wires e m.first;
  number = refl;
  relayable = read_relayable m.own.number z (down_stanzas m.rest);
  sessions = λ q s found. read_kept (has (Some m.own.number) q) z (down_stanzas m.rest) s
      (λ e. subst (λ (x : Session A). (x.down.way ≡ z ∷ down_stanzas m.rest) × (x.counted ≡ true) × (x.read ≡ true)) (same_session v m.own.number q on.0 s on.1.is e found) (split, on.1.goes.counted, on.1.read))
      (kept.sessions q s found);
  own = record {
    session = f m.own.number on.0;
    is = altered f v.sessions m.own.number on.0 on.1.is;
    read = on.1.read;
    of_epoch = on.1.of_epoch;
    handled = rw same_number (let h = on.1.handled in let l = length_push on.0.down.got z in omega arith);
    acked = on.1.acked;
    queue = on.1.queue;
  };
  up_other = λ q s d dead g. record { way = g.way; is_open = g.is_open; counts = g.counts };
  up_this = λ s found g. let h = goes_up_same m.conn m.rest s g in record { way = h.way; is_open = h.is_open; counts = h.counts };
  down = λ s found g. record {
    counted = g.counted;
    way = rw same_number (ap down_stanzas (sym (down_words_up [] m.rest m.conn.wires)));
    is_open = g.is_open ∙ sym (flow_up [] m.rest m.conn.wires);
    counts = subst (λ ws. DownCounts s.up.acked s.up.stated ws) (sym (down_words_up [] m.rest m.conn.wires)) (subst (λ ws. DownCounts s.up.acked s.up.stated ws) m.first g.counts);
  };
  idle_up = λ q s quiet. quiet;
}) kept)
  where
    f : ℕ → Session A → Session A
    f = λ q s. read_if (has (Some m.own.number) q) z (down_stanzas m.rest) s

    on : OwnIn v m.conn m.own
    on = in_own v k m.conn m.own m.is m.here m.is_own m.client kept

    split : on.0.down.way ≡ z ∷ down_stanzas m.rest
    split = on.1.goes.way ∙ ap down_stanzas m.first

-- a request

pub told_kept : {A : Type 0} (b : Bool) (s : Session A) → (b ≡ true → s.counted ≡ true) → SessionKept s → SessionKept (told_if b s)
told_kept false s counted kept = kept
told_kept true s counted kept = record {
  up = kept.up;
  down = reached_more State s.down (record s.down { stated = s.down.stated ++ length s.down.got ∷ [] }) kept.down refl;
  begun = λ e. absurd (not_true e (counted refl));
  read = kept.read;
  epoch = kept.epoch;
  unread = kept.unread;
  unheard = kept.unheard;
}

pub told_contains : {A : Type 0} (b : Bool) (s : Session A) (h : ℕ) → Contains s.down.stated h → Contains (told_if b s).down.stated h
told_contains false s h c = c
told_contains true s h c = Contains-append_left s.down.stated (length s.down.got ∷ []) h c

told_relayable : {A : Type 0} (p : ℕ) → IsRelayable {A = A} p (λ q s. told_if (has (Some p) q) s)
told_relayable {A = A} p = record {
  counted = λ q s. refl;
  epoch = λ q s. refl;
  read = λ q s. refl;
  stated = λ q s h c. told_contains (nat_eq p q) s h c;
  got = λ q s. refl;
  acked = λ q s. refl;
  put = λ q s. refl;
  others = λ q s ne. none (nat_eq p q) s (other_number p q ne);
}
  where
    none : (b : Bool) (s : Session A) → b ≡ false → told_if b s ≡ s
    none b s e = subst (λ x. told_if x s ≡ s) (sym e) refl

pub told_goes : {A : Type 0} (b : Bool) (c : Conn A) (s : Session A) → GoesUp c s → GoesUp c (told_if b s)
told_goes false c s g = g
told_goes true c s g = record { way = g.way; is_open = g.is_open; counts = up_counts_more s.down.acked (length s.down.got) s.down.stated (up_words c.wires) g.counts }

count_up : {A : Type 0} (n : ℕ) (rest : List (DownWord A)) (s : Session A) (x : Wires A) → n ≡ length s.down.got → SessionKept s → UpCounts s.down.acked s.down.stated (up_words x) →
    UpCounts s.down.acked (s.down.stated ++ length s.down.got ∷ []) (up_words (send_up (Up (Ack n) ∷ []) (left_down rest x)))
count_up n rest s (Flow us ds) e kept u =
    let k = kept_reached s.down kept.down in
    subst (λ (m : ℕ). UpCounts s.down.acked (s.down.stated ++ length s.down.got ∷ []) (us ++ Up (Ack m) ∷ [])) (sym e) (up_counts_push s.down.acked (length s.down.got) s.down.stated us k.stated k.acked u)
count_up n rest s (Stop us ds lu ld) e kept u = up_counts_more s.down.acked (length s.down.got) s.down.stated us u

same_stanzas_up : {A : Type 0} (n : ℕ) (rest : List (DownWord A)) (x : Wires A) → up_stanzas (up_words (send_up (Up (Ack n) ∷ []) (left_down rest x))) ≡ up_stanzas (up_words x)
same_stanzas_up n rest (Flow us ds) = up_stanzas_with us (Up (Ack n) ∷ []) ∙ append-nil (up_stanzas us)
same_stanzas_up n rest (Stop us ds lu ld) = refl

pub down_request_keeps : {A : Type 0} (k : ℕ) (v next : View A) → IsDownRequest k v next → LinkKept v → LinkKept next
down_request_keeps {A = A} k v next m kept = subst LinkKept (sym m.gives) (subst (λ x. LinkKept (record v { conns = with_at k (answered m.conn m.rest (Ack m.own.handled ∷ [])) v.conns; own = x; sessions = alter f v.sessions })) (sym m.is_own) (heard_keeps v k m.conn m.own m.own m.rest (Ack m.own.handled ∷ []) f (record {
  is = m.is;
  here = m.here;
  is_own = m.is_own;
  client = m.client;
  takes = λ downs e. taken downs m.conn.ending (Req) m.rest m.conn.wires e m.first;
  number = refl;
  relayable = told_relayable m.own.number;
  sessions = λ q s found. told_kept (has (Some m.own.number) q) s (λ e. subst (λ (x : Session A). x.counted ≡ true) (same_session v m.own.number q on.0 s on.1.is e found) on.1.goes.counted) (kept.sessions q s found);
  own = record {
    session = f m.own.number on.0;
    is = altered f v.sessions m.own.number on.0 on.1.is;
    read = on.1.read;
    of_epoch = on.1.of_epoch;
    handled = on.1.handled;
    acked = on.1.acked;
    queue = on.1.queue;
  };
  up_other = λ q s d dead g. told_goes (has (Some m.own.number) q) d s g;
  up_this = λ s found g.
      let same : on.0 ≡ s = some_one (v.sessions m.own.number) on.0 s on.1.is found in
      let handled : m.own.handled ≡ length s.down.got = on.1.handled ∙ ap (λ (x : Session A). length x.down.got) same in
      record {
        way = g.way ∙ sym (same_stanzas_up m.own.handled m.rest m.conn.wires);
        is_open = g.is_open ∙ ap (λ x. x && sends m.conn.client) (sym (flow_up (Up (Ack m.own.handled) ∷ []) m.rest m.conn.wires));
        counts = rw same_number (count_up m.own.handled m.rest s m.conn.wires handled (kept.sessions m.own.number s found) g.counts);
      };
  down = λ s found g. record {
    counted = g.counted;
    way = g.way ∙ ap down_stanzas m.first ∙ ap down_stanzas (sym (down_words_up (Up (Ack m.own.handled) ∷ []) m.rest m.conn.wires));
    is_open = g.is_open ∙ sym (flow_up (Up (Ack m.own.handled) ∷ []) m.rest m.conn.wires);
    counts = subst (λ ws. DownCounts s.up.acked s.up.stated ws) (sym (down_words_up (Up (Ack m.own.handled) ∷ []) m.rest m.conn.wires)) (subst (λ ws. DownCounts s.up.acked s.up.stated ws) m.first g.counts);
  };
  idle_up = λ q s quiet. quiet;
}) kept))
  where
    f : ℕ → Session A → Session A
    f = λ q s. told_if (has (Some m.own.number) q) s

    on : OwnIn v m.conn m.own
    on = in_own v k m.conn m.own m.is m.here m.is_own m.client kept

-- a count

heard_kept : {A : Type 0} (b : Bool) (h : ℕ) (s : Session A) → (b ≡ true → (s.counted ≡ true) × Contains s.up.stated h × (s.up.acked ≤ h)) → SessionKept s → SessionKept (heard_if b h s)
heard_kept false h s good kept = kept
heard_kept true h s good kept = record {
  up = reached_more (Acknowledge h) s.up (record s.up { acked = h }) kept.up ((good refl).1, (good refl).2, refl);
  down = kept.down;
  begun = λ e. absurd (not_true e (good refl).0);
  read = kept.read;
  epoch = kept.epoch;
  unread = kept.unread;
  unheard = kept.unheard;
}

heard_relayable : {A : Type 0} (p h : ℕ) → IsRelayable {A = A} p (λ q s. heard_if (has (Some p) q) h s)
heard_relayable {A = A} p h = record {
  counted = λ q s. refl;
  epoch = λ q s. refl;
  read = λ q s. refl;
  stated = λ q s h c. c;
  got = λ q s. refl;
  acked = λ q s. refl;
  put = λ q s. refl;
  others = λ q s ne. none (nat_eq p q) s (other_number p q ne);
}
  where
    none : (b : Bool) (s : Session A) → b ≡ false → heard_if b h s ≡ s
    none b s e = subst (λ x. heard_if x h s ≡ s) (sym e) refl

pub down_count_keeps : {A : Type 0} (k h : ℕ) (v next : View A) → IsDownCount k h v next → LinkKept v → LinkKept next
down_count_keeps {A = A} k h v next m kept = subst LinkKept (sym m.gives) (heard_keeps v k m.conn m.own new m.rest [] f (record {
  is = m.is;
  here = m.here;
  is_own = m.is_own;
  client = m.client;
  takes = λ downs e. taken downs m.conn.ending (Ack h) m.rest m.conn.wires e m.first;
  number = refl;
  relayable = heard_relayable m.own.number h;
  sessions = λ q s found. heard_kept (has (Some m.own.number) q) h s
      (λ e. subst (λ (x : Session A). (x.counted ≡ true) × Contains x.up.stated h × (x.up.acked ≤ h)) (same_session v m.own.number q on.0 s on.1.is e found) (on.1.goes.counted, counts.1, counts.0))
      (kept.sessions q s found);
  own = record {
    session = f m.own.number on.0;
    is = altered f v.sessions m.own.number on.0 on.1.is;
    read = on.1.read;
    of_epoch = on.1.of_epoch;
    handled = on.1.handled;
    acked = rw same_number refl;
    queue = rw same_number queue;
  };
  up_other = λ q s d dead g. record { way = g.way; is_open = g.is_open; counts = g.counts };
  up_this = λ s found g. let u = goes_up_same m.conn m.rest s g in record { way = u.way; is_open = u.is_open; counts = u.counts };
  down = λ s found g.
      let mine : (s.up.acked ≤ h) × Contains s.up.stated h × DownCounts h s.up.stated m.rest = subst (λ ws. DownCounts s.up.acked s.up.stated ws) m.first g.counts in
      record {
        counted = g.counted;
        way = g.way ∙ ap down_stanzas m.first ∙ ap down_stanzas (sym (down_words_up [] m.rest m.conn.wires));
        is_open = g.is_open ∙ sym (flow_up [] m.rest m.conn.wires);
        counts = rw same_number (subst (λ ws. DownCounts h s.up.stated ws) (sym (down_words_up [] m.rest m.conn.wires)) mine.2);
      };
  idle_up = λ q s quiet. record { way = quiet.way; is_open = quiet.is_open };
}) kept)
  where
    new : Own A
    new = record m.own { acked = h; queue = drop (h - m.own.acked) m.own.queue }

    f : ℕ → Session A → Session A
    f = λ q s. heard_if (has (Some m.own.number) q) h s

    on : OwnIn v m.conn m.own
    on = in_own v k m.conn m.own m.is m.here m.is_own m.client kept

    counts : DownCounted h on.0 m.rest
    counts = subst (λ ws. DownCounts on.0.up.acked on.0.up.stated ws) m.first on.1.goes.counts

    queue : drop (h - m.own.acked) m.own.queue ≡ drop h on.0.up.put
    queue =
        let low = counts.0 in
        let a = on.1.acked in
        let sum : on.0.up.acked + (h - m.own.acked) ≡ h = omega arith in
        ap (drop (h - m.own.acked)) on.1.queue ∙ drop-drop (h - m.own.acked) on.0.up.acked on.0.up.put ∙ ap (λ (n : ℕ). drop n on.0.up.put) sum
