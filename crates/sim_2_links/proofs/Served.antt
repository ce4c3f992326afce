-- Stanzas, requests and counts that the server takes on the connection that has the session.
use Rattle.std.proofs.Common.{◌≡◌, ◌≢◌, ℕ, ◌+◌, Bool, true, false, ◌&&◌, List, [], ◌∷◌, ◌++◌, length, map, refl, sym, ap, ◌∙◌, subst, arith, ◌⊎◌, inl, inr, Option, Some, nat_eq, ◌≤◌}
use Rattle.std.proofs.lemmas.Bool.{cases_eq}
use Rattle.std.specs.List.{Contains}
use Rattle.sm_acks.specs.Delivery.{Handle, queue_of}
use Rattle.sim_2_links.proofs.Entries.{same_number, other_number, at_same, at_other, Entry, New, Old, entry, was, altered, has_is}
use Rattle.sim_2_links.proofs.DeliveryRuns.{reached_more}
use Rattle.sim_2_links.proofs.Tables.{send_down_whole, send_down_whole_up, left_up_whole, left_up_whole_down}
use Rattle.std.proofs.lemmas.List.{append-nil, map-append, length_push}
use Rattle.sim_2_links.proofs.CutLinks.{not_true, some_one, here_or_not, there_cut, on_other, some_same}
use Rattle.sim_2_links.proofs.Hands.{piped_up, taken_stands, up_words_down, flow_down}
use Rattle.sim_2_links.proofs.Heard.{same_session}
use Rattle.sim_2_links.proofs.StepParts.{GoesDownAfter, StaysBare}
use Rattle.sim_2_links.specs.Words.{Traffic, St, up_stanzas, down_stanzas, UpWord, Up, Down, InOnline, AtSession}
use Rattle.sim_2_links.specs.Wires.{Wires, Flow, Stop, up_words, down_words, up_whole, down_whole, send_down, left_up}
use Rattle.sim_2_links.specs.Stages.{Stage, Greets, Greeted, Offered, Proves, Challenged, Answers, Succeeded, Regreets, Regreeted, Reoffered, AsksResume, Refused, Resumes, AsksBind, Binds, AsksEnable, Enables, Runs, client_of, phase_of, up_of, down_of, Ending, Stands, Errs, Closes, tail_of, foot_of, Conn, IsAt}
use Rattle.sim_2_links.specs.Views.{Table, with_at, alter, has, Session, Row, Own, View, on_phase, session_on, carried_by, carries, sends}
use Rattle.sim_2_links.specs.LinkMoves.{handled_if, IsUpStanza}
use Rattle.sim_2_links.specs.Links.{carried_of, UpCounts, DownCounts, IsAsked, FitsOwn, ConnKept, GoesUp, GoesDown, IsIdle, IsPlaced, RowKept, OwnKept, SessionKept, IsCarried, IsBare, LinkKept}

-- a word of traffic is first on the way up in the last row alone

pub record RunsUp {A : Type 0} (s : Stage A) (tail : List (UpWord A)) (t : Traffic A) (rest : List (UpWord A)) : Type 0 where
  pub p : ℕ
  pub ups : List (Traffic A)
  pub downs : List (Traffic A)
  pub is : s ≡ Runs p (t ∷ ups) downs
  pub left : map Up ups ++ tail ≡ rest

no_foot : {A C : Type 0} (foot : Bool) (t : Traffic A) (rest : List (UpWord A)) → foot_of foot ≡ Up t ∷ rest → C
no_foot false t rest e = absurd (let no_way : ⊥ = cc in no_way)
no_foot true t rest e = absurd (let no_way : ⊥ = cc in no_way)

runs_up : {A : Type 0} (s : Stage A) (foot : Bool) (t : Traffic A) (rest : List (UpWord A)) → up_of s ++ foot_of foot ≡ Up t ∷ rest → RunsUp s (foot_of foot) t rest
runs_up (Runs p (u ∷ ups) downs) foot t rest e =
    let same : u ≡ t = cc in
    let left : map Up ups ++ foot_of foot ≡ rest = cc in
    record { p = p; ups = ups; downs = downs; is = ap (λ x. Runs p (x ∷ ups) downs) same; left = left }
runs_up (Runs p [] downs) foot t rest e = no_foot foot t rest e
runs_up Greets foot t rest e = absurd (let no_way : ⊥ = cc in no_way)
runs_up Proves foot t rest e = absurd (let no_way : ⊥ = cc in no_way)
runs_up Answers foot t rest e = absurd (let no_way : ⊥ = cc in no_way)
runs_up Regreets foot t rest e = absurd (let no_way : ⊥ = cc in no_way)
runs_up (AsksResume p h) foot t rest e = absurd (let no_way : ⊥ = cc in no_way)
runs_up AsksBind foot t rest e = absurd (let no_way : ⊥ = cc in no_way)
runs_up (AsksEnable m) foot t rest e = absurd (let no_way : ⊥ = cc in no_way)
runs_up Greeted foot t rest e = no_foot foot t rest e
runs_up Offered foot t rest e = no_foot foot t rest e
runs_up Challenged foot t rest e = no_foot foot t rest e
runs_up Succeeded foot t rest e = no_foot foot t rest e
runs_up Regreeted foot t rest e = no_foot foot t rest e
runs_up Reoffered foot t rest e = no_foot foot t rest e
runs_up (Refused p) foot t rest e = no_foot foot t rest e
runs_up (Resumes p h downs) foot t rest e = no_foot foot t rest e
runs_up (Binds m) foot t rest e = no_foot foot t rest e
runs_up (Enables m downs) foot t rest e = no_foot foot t rest e

-- what the server puts then
abbrev pub served : {A : Type 0} → Conn A → List (UpWord A) → List (Traffic A) → Conn A
served c rest puts = record c { wires = send_down (map Down puts) (left_up rest c.wires) }

-- what a change of the sessions leaves, for the rows of the table
pub record IsGentle {A : Type 0} (p : ℕ) (f : ℕ → Session A → Session A) : Type 0 where
  pub counted : (q : ℕ) (s : Session A) → (f q s).counted ≡ s.counted
  pub epoch : (q : ℕ) (s : Session A) → (f q s).epoch ≡ s.epoch
  pub read : (q : ℕ) (s : Session A) → (f q s).read ≡ s.read
  pub stated : (q : ℕ) (s : Session A) → (f q s).down.stated ≡ s.down.stated
  pub others : (q : ℕ) (s : Session A) → p ≢ q → f q s ≡ s

gentle_asked : {A : Type 0} (p : ℕ) (f : ℕ → Session A → Session A) (sessions : Table (Session A)) (s : Stage A) → IsGentle p f → IsAsked sessions s → IsAsked (alter f sessions) s
gentle_asked p f sessions (AsksResume q h) g (s, is, read, stated) = (f q s, altered f sessions q s is, g.read q s ∙ read, subst (λ l. Contains l h) (sym (g.stated q s)) stated)
gentle_asked p f sessions (AsksEnable m) g (s, e, is, epoch) = (f m s, e, altered f sessions m s is, g.epoch m s ∙ epoch)
gentle_asked p f sessions _ g a = tt

-- the row that resumes the very session says what it has handled: there the change has to be none
abbrev pub IsResumed : {A : Type 0} → ℕ → Stage A → Type 0
IsResumed p (Resumes q h downs) = p ≡ q
IsResumed p _ = ⊥

gentle_fits : {A : Type 0} (own : Option (Own A)) (epoch p : ℕ) (f : ℕ → Session A → Session A) (sessions : Table (Session A)) (s : Stage A) → IsGentle p f → (IsResumed p s → ⊥) → FitsOwn own epoch sessions s → FitsOwn own epoch (alter f sessions) s
gentle_fits own epoch p f sessions (AsksResume q h) g apart a = a
gentle_fits own epoch p f sessions (Refused q) g apart a = a
gentle_fits {A = A} own epoch p f sessions (Resumes q h downs) g apart a = (a.0, λ t is. let w = was f sessions q t is in subst (λ (x : Session A). (h ≡ length x.up.got) × Contains x.up.stated h) (sym (g.others q w.0 apart) ∙ w.2) (a.1 w.0 w.1))
gentle_fits own epoch p f sessions AsksBind g apart a = a
gentle_fits own epoch p f sessions (Binds m) g apart (none, b) = (none, (f m b.0, altered f sessions m b.0 b.1, g.epoch m b.0 ∙ b.2, g.counted m b.0 ∙ b.3))
gentle_fits own epoch p f sessions (AsksEnable m) g apart (none, b) = (none, (f m b.0, altered f sessions m b.0 b.1, g.epoch m b.0 ∙ b.2))
gentle_fits own epoch p f sessions (Enables m downs) g apart (none, b) = (none, (f m b.0, altered f sessions m b.0 b.1, g.epoch m b.0 ∙ b.2, g.counted m b.0 ∙ b.3, g.read m b.0 ∙ b.4))
gentle_fits own epoch p f sessions (Runs q ups downs) g apart a = a
gentle_fits own epoch p f sessions Greets g apart a = a
gentle_fits own epoch p f sessions Greeted g apart a = a
gentle_fits own epoch p f sessions Offered g apart a = a
gentle_fits own epoch p f sessions Proves g apart a = a
gentle_fits own epoch p f sessions Challenged g apart a = a
gentle_fits own epoch p f sessions Answers g apart a = a
gentle_fits own epoch p f sessions Succeeded g apart a = a
gentle_fits own epoch p f sessions Regreets g apart a = a
gentle_fits own epoch p f sessions Regreeted g apart a = a
gentle_fits own epoch p f sessions Reoffered g apart a = a

resumed_carries : {A : Type 0} (p : ℕ) (s : Stage A) (c : Conn A) → IsAt s c → IsResumed p s → carries c ≡ Some p
resumed_carries {A = A} p s c at is = ap (λ x. carried_by x (down_whole c.wires)) at.client ∙ ap (carried_by (client_of s)) at.down ∙ row s is
  where
    row : (s : Stage A) → IsResumed p s → carried_by (client_of s) (down_of s ++ tail_of c.ending) ≡ Some p
    row (Resumes q h downs) e = ap Some (sym e)
    row (AsksResume q h) e = absurd e
    row _ e = absurd e

-- what a word of traffic that the server takes does: the connection, the row and one session change
pub record IsServed {A : Type 0} (v : View A) (k : ℕ) (c : Conn A) (r new : Row A) (t : Traffic A) (rest : List (UpWord A)) (puts : List (Traffic A)) (f : ℕ → Session A → Session A) : Type 0 where
  pub is : v.conns k ≡ Some c
  pub is_row : v.row ≡ Some r
  pub on : r.on ≡ Some k
  pub first : up_words c.wires ≡ Up t ∷ rest
  pub number : new.number ≡ r.number
  pub new_on : new.on ≡ r.on
  pub new_counted : new.counted ≡ r.counted
  pub gentle : IsGentle r.number f
  pub sessions : (q : ℕ) (s : Session A) → v.sessions q ≡ Some s → SessionKept (f q s)
  pub row : RowKept (with_at k (served c rest puts) v.conns) (alter f v.sessions) new
  pub own : (o : Own A) → v.own ≡ Some o → OwnKept v.epoch (alter f v.sessions) o
  pub down_other : (q : ℕ) (s : Session A) (d : Conn A) → GoesDown d s → GoesDown d (f q s)
  pub down_this : (s : Session A) → v.sessions r.number ≡ Some s → GoesDown c s → GoesDown (served c rest puts) (f r.number s)
  pub idle_down : (q : ℕ) (s : Session A) → IsIdle s.down → IsIdle (f q s).down

pub served_keeps : {A : Type 0} (v : View A) (k : ℕ) (c : Conn A) (r new : Row A) (t : Traffic A) (rest : List (UpWord A)) (puts : List (Traffic A)) (f : ℕ → Session A → Session A) →
    IsServed v k c r new t rest puts f → LinkKept v → LinkKept (record v { conns = with_at k (served c rest puts) v.conns; row = Some new; sessions = alter f v.sessions })
served_keeps {A = A} v k c r new t rest puts f m kept = record {
  there = λ n here. there_cut v kept k this n here;
  conns = λ n d found. conn n d (entry k this v.conns n d found);
  row = λ q e. subst (λ x. RowKept (with_at k (served c rest puts) v.conns) (alter f v.sessions) x) (let out : new ≡ q = cc in out) m.row;
  own = m.own;
  sessions = λ q s found. let w = was f v.sessions q s found in subst SessionKept w.2 (m.sessions q w.0 w.1);
  goes_down = λ n d q here found carried. down n d q here carried (entry k this v.conns n d found);
  idle_up = λ q s found counted. idle_up q s (was f v.sessions q s found) counted (cases_eq r.number q);
  idle_down = λ q s found counted.
      let w = was f v.sessions q s found in
      let before : w.0.counted ≡ true = sym (m.gentle.counted q w.0) ∙ ap (λ x. x.counted) w.2 ∙ counted in
      elim (kept.idle_down q w.0 w.1 before) [ inl quiet ↦ inl (subst (λ x. IsIdle x.down) w.2 (m.idle_down q w.0 quiet)) | inr carried ↦ inr (carried_on q carried) ];
  late = λ n d q found away on carried. late n d q away on (carried_back q carried) (entry k this v.conns n d found);
}
  where
    this : Conn A
    this = served c rest puts

    old : ConnKept v k c
    old = kept.conns k c m.is

    runs : RunsUp old.stage (foot_of c.footed) t (up_whole (left_up rest c.wires))
    runs = runs_up old.stage c.footed t (up_whole (left_up rest c.wires)) (sym old.at.up ∙ left_up_whole (Up t) rest c.wires m.first)

    client : c.client ≡ InOnline runs.p
    client = old.at.client ∙ ap client_of runs.is

    held : session_on c ≡ Some r.number
    held =
        let placed : IsPlaced v.conns r (kept.row r m.is_row).session (Some k) = subst (λ o. IsPlaced v.conns r (kept.row r m.is_row).session o) m.on (kept.row r m.is_row).placed in
        subst (λ x. session_on x ≡ Some r.number) (some_one (v.conns k) placed.0 c placed.1 m.is) placed.2

    number : runs.p ≡ r.number
    number =
        let e : on_phase (AtSession runs.p) c.ending c.gone ≡ Some r.number = ap (λ x. on_phase x c.ending c.gone) (sym (old.at.phase ∙ ap phase_of runs.is)) ∙ held in
        read c.ending c.gone e
      where
        read : (end : Ending) (gone : Bool) → on_phase (AtSession runs.p) end gone ≡ Some r.number → runs.p ≡ r.number
        read Stands false e = cc
        read Stands true e = absurd (let no_way : ⊥ = cc in no_way)
        read (Errs x) gone e = absurd (let no_way : ⊥ = cc in no_way)
        read Closes gone e = absurd (let no_way : ⊥ = cc in no_way)

    carries_old : carries c ≡ Some r.number
    carries_old = ap (λ x. carried_by x (down_whole c.wires)) client ∙ ap Some number

    carries_this : carries (served c rest puts) ≡ Some r.number
    carries_this = ap (λ x. carried_by x (down_whole (send_down (map Down puts) (left_up rest c.wires)))) client ∙ ap Some number

    stands : c.ending ≡ Stands
    stands = taken_stands (has v.here k) c (Up t) rest old.piped m.first

    at : IsAt (Runs runs.p runs.ups (runs.downs ++ puts)) (served c rest puts)
    at = record {
      client = client;
      phase = old.at.phase ∙ ap phase_of runs.is;
      up = send_down_whole_up (map Down puts) (left_up rest c.wires) ∙ sym runs.left;
      down =
          let bare : down_whole c.wires ≡ map Down runs.downs = old.at.down ∙ ap (λ x. down_of x ++ tail_of c.ending) runs.is ∙ ap (λ x. map Down runs.downs ++ tail_of x) stands ∙ append-nil (map Down runs.downs) in
          send_down_whole (map Down puts) (left_up rest c.wires) ∙ ap (λ l. l ++ map Down puts) (left_up_whole_down rest c.wires ∙ bare) ∙ sym (map-append Down runs.downs puts) ∙ sym (append-nil (map Down (runs.downs ++ puts))) ∙ ap (λ x. map Down (runs.downs ++ puts) ++ tail_of x) (sym stands);
    }

    attached : (q : ℕ) (n : ℕ) (d : Conn A) → ((q : ℕ) → session_on d ≡ Some q → (x : Row A) × (v.row ≡ Some x) × (x.number ≡ q) × (x.on ≡ Some n)) → session_on d ≡ Some q → (x : Row A) × (Some new ≡ Some x) × (x.number ≡ q) × (x.on ≡ Some n)
    attached q n d before e =
        let b = before q e in
        let same : b.0 ≡ r = some_one v.row b.0 r b.1 m.is_row in
        (new, refl, m.number ∙ subst (λ x. x.number ≡ q) same b.2, m.new_on ∙ subst (λ x. x.on ≡ Some n) same b.3)

    conn : (n : ℕ) (d : Conn A) → Entry k this v.conns n d → ConnKept (record v { conns = with_at k (served c rest puts) v.conns; row = Some new; sessions = alter f v.sessions }) n d
    conn n d (New same is) =
        let here : ConnKept (record v { conns = with_at k (served c rest puts) v.conns; row = Some new; sessions = alter f v.sessions }) k (served c rest puts) = record {
          piped = piped_up (has v.here k) c (Up t) rest c.phase (map Down puts) m.first old.piped;
          stage = Runs runs.p runs.ups (runs.downs ++ puts);
          at = at;
          asked = tt;
          fits = λ e. subst (λ s. FitsOwn v.own v.epoch v.sessions s) runs.is (old.fits e);
          attached = λ q e. attached q k c old.attached e;
          uncounted = λ r f on e. absurd (not_true refl e);
          counting = λ x g on p e. subst (λ (y : Row A). y.counted ≡ true) (some_same new x g) (m.new_counted ∙ old.counting r m.is_row m.on runs.p (ap carried_of runs.is));
        } in
        subst (λ x. ConnKept (record v { conns = with_at k (served c rest puts) v.conns; row = Some new; sessions = alter f v.sessions }) x d) same (subst (λ x. ConnKept (record v { conns = with_at k (served c rest puts) v.conns; row = Some new; sessions = alter f v.sessions }) k x) is here)
    conn n d (Old ne there) =
        let before = kept.conns n d there in
        record {
          piped = before.piped;
          stage = before.stage;
          at = before.at;
          asked = gentle_asked r.number f v.sessions before.stage m.gentle before.asked;
          fits = λ e. gentle_fits v.own v.epoch r.number f v.sessions before.stage m.gentle (not_resumed e before) (before.fits e);
          attached = λ q e. attached q n d before.attached e;
          uncounted = λ r f on e. on_other k n new r f (m.new_on ∙ m.on) ne on;
          counting = λ r f on p e. on_other k n new r f (m.new_on ∙ m.on) ne on;
        }
      where
        bare_not : IsBare (up_words c.wires) → ⊥
        bare_not (inl e) = let first = m.first in cc
        bare_not (inr e) = let first = m.first in cc

        not_resumed : has v.here n ≡ true → (b : ConnKept v n d) → IsResumed r.number b.stage → ⊥
        not_resumed e b resumed =
            let here : v.here ≡ Some n = has_is v.here n e in
            bare_not (kept.late k c r.number m.is (here_or_not v k n ne here) held (n, d, here, there, resumed_carries r.number b.stage d b.at resumed))

    down : GoesDownAfter k this v f
    down n d q here carried (New same is) =
        let mine : r.number ≡ q = let a = carries_this in let b : carries this ≡ Some q = subst (λ x. carries x ≡ Some q) (sym is) carried in let c : Some r.number ≡ Some q = sym a ∙ b in cc in
        let before = kept.goes_down k c r.number (here ∙ ap Some (sym same)) m.is carries_old in
        let after : (s : Session A) × (alter f v.sessions r.number ≡ Some s) × GoesDown d s = (f r.number before.0, altered f v.sessions r.number before.0 before.1, subst (λ x. GoesDown x (f r.number before.0)) is (m.down_this before.0 before.1 before.2)) in
        subst (λ x. (s : Session A) × (alter f v.sessions x ≡ Some s) × GoesDown d s) mine after
    down n d q here carried (Old ne there) =
        let before = kept.goes_down n d q here there carried in
        (f q before.0, altered f v.sessions q before.0 before.1, m.down_other q before.0 d before.2)

    idle_up : (q : ℕ) (s : Session A) → (a : Session A) × (v.sessions q ≡ Some a) × (f q a ≡ s) → s.counted ≡ true → (r.number ≡ q) ⊎ (r.number ≡ q → ⊥) → IsIdle s.up ⊎ ((x : Row A) × (Some new ≡ Some x) × (x.number ≡ q))
    idle_up q s w counted (inl same) = inr (new, refl, m.number ∙ same)
    idle_up q s w counted (inr ne) =
        let stays : w.0 ≡ s = sym (m.gentle.others q w.0 ne) ∙ w.2 in
        let before : w.0.counted ≡ true = ap (λ x. x.counted) stays ∙ counted in
        elim (kept.idle_up q w.0 w.1 before) [
          | inl quiet ↦ inl (subst (λ x. IsIdle x.up) stays quiet)
          | inr x ↦ absurd (ne (ap (λ (y : Row A). y.number) (some_one v.row r x.0 m.is_row x.1) ∙ x.2))
        ]

    carried_on : (q : ℕ) → IsCarried v q → IsCarried (record v { conns = with_at k (served c rest puts) v.conns; row = Some new; sessions = alter f v.sessions }) q
    carried_on q (n, d, here, found, carried) = by (cases_eq k n)
      where
        by : (k ≡ n) ⊎ (k ≡ n → ⊥) → IsCarried (record v { conns = with_at k (served c rest puts) v.conns; row = Some new; sessions = alter f v.sessions }) q
        by (inl same) =
            let one : d ≡ c = some_one (v.conns k) d c (subst (λ x. v.conns x ≡ Some d) (sym same) found) m.is in
            let e : Some r.number ≡ Some q = sym carries_old ∙ subst (λ x. carries x ≡ Some q) one carried in
            (k, served c rest puts, here ∙ ap Some (sym same), at_same k (served c rest puts) v.conns, carries_this ∙ e)
        by (inr ne) = (n, d, here, at_other k (served c rest puts) v.conns n ne ∙ found, carried)

    carried_back : (q : ℕ) → IsCarried (record v { conns = with_at k (served c rest puts) v.conns; row = Some new; sessions = alter f v.sessions }) q → IsCarried v q
    carried_back q (n, d, here, found, carried) = by (entry k (served c rest puts) v.conns n d found)
      where
        by : Entry k (served c rest puts) v.conns n d → IsCarried v q
        by (New same is) =
            let e : Some r.number ≡ Some q = sym carries_this ∙ subst (λ x. carries x ≡ Some q) (sym is) carried in
            (k, c, here ∙ ap Some (sym same), m.is, carries_old ∙ e)
        by (Old ne there) = (n, d, here, there, carried)

    late : StaysBare k this v
    late n d q away on carried (New same is) =
        let e : session_on c ≡ Some q = subst (λ x. session_on x ≡ Some q) (sym is) on in
        not_bare (kept.late k c q m.is (subst (λ x. has v.here x ≡ false) (sym same) away) e carried)
      where
        not_bare : {C : Type 0} → IsBare (up_words c.wires) → C
        not_bare (inl e) = absurd (let first = m.first in let no_way : ⊥ = cc in no_way)
        not_bare (inr e) = absurd (let first = m.first in let no_way : ⊥ = cc in no_way)
    late n d q away on carried (Old ne there) = kept.late n d q there away on carried

-- a stanza

handled_kept : {A : Type 0} (b : Bool) (z : A) (ways : List A) (s : Session A) → (b ≡ true → s.up.way ≡ z ∷ ways) → (b ≡ true → s.counted ≡ true) → SessionKept s → SessionKept (handled_if b z ways s)
handled_kept false z ways s split counted kept = kept
handled_kept true z ways s split counted kept = record {
  up = reached_more Handle s.up (record s.up { got = s.up.got ++ z ∷ []; way = ways }) kept.up (z, ways, split refl, refl);
  down = kept.down;
  begun = λ e. absurd (not_true e (counted refl));
  read = kept.read;
  epoch = kept.epoch;
  unread = kept.unread;
  unheard = kept.unheard;
}

pub handled_gentle : {A : Type 0} (p : ℕ) (z : A) (ways : List A) → IsGentle p (λ q s. handled_if (has (Some p) q) z ways s)
handled_gentle {A = A} p z ways = record {
  counted = λ q s. refl;
  epoch = λ q s. refl;
  read = λ q s. refl;
  stated = λ q s. refl;
  others = λ q s ne. let e = other_number p q ne in none (nat_eq p q) s e;
}
  where
    none : (b : Bool) (s : Session A) → b ≡ false → handled_if b z ways s ≡ s
    none b s e = subst (λ x. handled_if x z ways s ≡ s) (sym e) refl

-- the row, its session and the connection that it is on
pub record IsOn {A : Type 0} (v : View A) (k : ℕ) (c : Conn A) (r : Row A) (s : Session A) : Type 0 where
  pub is : v.sessions r.number ≡ Some s
  pub counted : s.counted ≡ true
  pub handled : r.handled ≡ length s.up.got
  pub acked : r.acked ≡ s.down.acked
  pub queue : r.queue ≡ queue_of s.down
  pub held : session_on c ≡ Some r.number
  pub goes : GoesUp c s

abbrev pub RowOn : {A : Type 0} → View A → ℕ → Conn A → Row A → Type 0
RowOn {A = A} v k c r = (s : Session A) × IsOn v k c r s

-- a count of what the server put, and those behind it
abbrev pub UpCounted : {A : Type 0} → ℕ → Session A → List (UpWord A) → Type 0
UpCounted h s rest = (s.down.acked ≤ h) × Contains s.down.stated h × UpCounts h s.down.stated rest

pub on_row : {A : Type 0} (v : View A) (k : ℕ) (c : Conn A) (r : Row A) → v.conns k ≡ Some c → v.row ≡ Some r → r.on ≡ Some k → r.counted ≡ true → LinkKept v → RowOn v k c r
on_row v k c r is is_row on counted kept =
    let old = kept.row r is_row in
    let placed : IsPlaced v.conns r old.session (Some k) = subst (λ o. IsPlaced v.conns r old.session o) on old.placed in
    let one : placed.0 ≡ c = some_one (v.conns k) placed.0 c placed.1 is in
    let yes_counted : old.session.counted ≡ true = sym old.counted ∙ counted in (
      old.session,
      record {
        is = old.is;
        counted = yes_counted;
        handled = old.handled;
        acked = old.acked;
        queue = old.queue;
        held = subst (λ x. session_on x ≡ Some r.number) one placed.2;
        goes = subst (λ x. GoesUp x old.session) one (placed.3 yes_counted);
      },
    )

pub nothing_sent : {A : Type 0} (rest : List (UpWord A)) (x : Wires A) → down_words (send_down [] (left_up rest x)) ≡ down_words x
nothing_sent rest (Flow us ds) = append-nil ds
nothing_sent rest (Stop us ds lu ld) = refl

pub up_stanza_keeps : {A : Type 0} (k : ℕ) (z : A) (v next : View A) → IsUpStanza k z v next → LinkKept v → LinkKept next
up_stanza_keeps {A = A} k z v next m kept = subst LinkKept (sym m.gives) (served_keeps v k m.conn m.row (record m.row { handled = m.row.handled + 1 }) (St z) m.rest [] f (record {
  is = m.is;
  is_row = m.is_row;
  on = m.on;
  first = m.first;
  number = refl;
  new_on = refl;
  new_counted = refl;
  gentle = handled_gentle m.row.number z (up_stanzas m.rest);
  sessions = λ q s found. handled_kept (has (Some m.row.number) q) z (up_stanzas m.rest) s
      (λ e. subst (λ x. x.up.way ≡ z ∷ up_stanzas m.rest) (same_session v m.row.number q on.0 s on.1.is e found) split)
      (λ e. subst (λ x. x.counted ≡ true) (same_session v m.row.number q on.0 s on.1.is e found) on.1.counted)
      (kept.sessions q s found);
  row = record {
    session = f m.row.number on.0;
    is = altered f v.sessions m.row.number on.0 on.1.is;
    counted = m.counted ∙ sym on.1.counted;
    handled = rw same_number (let h = on.1.handled in let l = length_push on.0.up.got z in omega arith);
    acked = on.1.acked;
    queue = on.1.queue;
    placed = subst (λ o. IsPlaced (with_at k (served m.conn m.rest []) v.conns) (record m.row { handled = m.row.handled + 1 }) (f m.row.number on.0) o) (sym m.on) (
      served m.conn m.rest [],
      at_same k (served m.conn m.rest []) v.conns,
      on.1.held,
      λ e. record {
        way = rw same_number (ap up_stanzas (sym (up_words_down [] m.rest m.conn.wires)));
        is_open = on.1.goes.is_open ∙ ap (λ x. x && sends m.conn.client) (sym (flow_down [] m.rest m.conn.wires));
        counts = subst (λ ws. UpCounts on.0.down.acked on.0.down.stated ws) (sym (up_words_down [] m.rest m.conn.wires)) counts;
      },
    );
  };
  own = λ o found. let old = kept.own o found in record {
    session = f o.number old.session;
    is = altered f v.sessions o.number old.session old.is;
    read = old.read;
    of_epoch = old.of_epoch;
    handled = old.handled;
    acked = old.acked;
    queue = old.queue;
  };
  down_other = λ q s d g. record { counted = g.counted; way = g.way; is_open = g.is_open; counts = g.counts };
  down_this = λ s found g. record {
    counted = g.counted;
    way = g.way ∙ ap down_stanzas (sym (nothing_sent m.rest m.conn.wires));
    is_open = g.is_open ∙ sym (flow_down [] m.rest m.conn.wires);
    counts = subst (λ ws. DownCounts s.up.acked s.up.stated ws) (sym (nothing_sent m.rest m.conn.wires)) g.counts;
  };
  idle_down = λ q s quiet. quiet;
}) kept)
  where
    f : ℕ → Session A → Session A
    f = λ q s. handled_if (has (Some m.row.number) q) z (up_stanzas m.rest) s

    on : RowOn v k m.conn m.row
    on = on_row v k m.conn m.row m.is m.is_row m.on m.counted kept

    split : on.0.up.way ≡ z ∷ up_stanzas m.rest
    split = on.1.goes.way ∙ ap up_stanzas m.first

    counts : UpCounts on.0.down.acked on.0.down.stated m.rest
    counts = subst (λ ws. UpCounts on.0.down.acked on.0.down.stated ws) m.first on.1.goes.counts
