-- The server resumes a session on the connection that the client works on.
use Rattle.std.proofs.Common.{◌≡◌, ◌≢◌, ℕ, ◌+◌, ◌-◌, ◌≤◌, Bool, true, false, cond, ◌&&◌, List, [], ◌∷◌, ◌++◌, length, drop, map, refl, sym, ap, ◌∙◌, subst, arith, ◌⊎◌, inl, inr, None, Some, nat_eq}
use Rattle.std.proofs.lemmas.Bool.{cases_Bool, cases_eq}
use Rattle.std.specs.List.{Contains}
use Rattle.sm_acks.specs.Delivery.{Direction, Reached, Cut, State, Resume}
use Rattle.sim_2_links.proofs.Entries.{same_number, other_number, at_same, Entry, New, Old, entry, was, altered, has_is, is_has}
use Rattle.sim_2_links.proofs.DeliveryRuns.{reached_more}
use Rattle.sim_2_links.proofs.Tables.{send_down_whole, send_down_whole_up, left_up_whole, left_up_whole_down}
use Rattle.std.proofs.lemmas.List.{drop-drop, append-nil}
use Rattle.std.proofs.lemmas.List.Elements.{Contains-push}
use Rattle.sm_acks.proofs.Directions.{kept_reached}
use Rattle.sim_2_links.proofs.CutLinks.{not_true, some_one, there_cut, on_other, some_same}
use Rattle.sim_2_links.proofs.Hands.{no_entry, piped_up, taken_stands, up_words_down, flow_down}
use Rattle.sim_2_links.proofs.StepParts.{none_carried, on_none, RowAfter, GoesDownAfter}
use Rattle.sim_2_links.proofs.Heard.{same_session}
use Rattle.sim_2_links.specs.Words.{St, up_stanzas, down_stanzas, UpWord, ResumeAt, DownWord, Resumed, Down, InResume, AtSession}
use Rattle.sim_2_links.specs.Wires.{Wires, Flow, Stop, is_flowing, up_words, down_words, up_whole, down_whole, send_down, left_up}
use Rattle.sim_2_links.specs.Stages.{Stage, Greets, Greeted, Offered, Proves, Challenged, Answers, Succeeded, Regreets, Regreeted, Reoffered, AsksResume, Refused, Resumes, AsksBind, Binds, AsksEnable, Enables, Runs, client_of, up_of, down_of, Ending, Stands, Errs, Closes, tail_of, foot_of, Conn, IsAt}
use Rattle.sim_2_links.specs.Views.{Table, with_at, alter, has, Session, Row, View, on_phase, session_on, carried_by, carries, sends}
use Rattle.sim_2_links.specs.SessionMoves.{resumed_if, IsResumedHere}
use Rattle.sim_2_links.specs.Links.{UpCounts, DownCounts, IsAsked, FitsOwn, ConnKept, GoesUp, GoesDown, IsIdle, IsPlaced, RowKept, SessionKept, IsCarried, LinkKept}

-- only one row of the table has the word that asks for it
pub record Asks {A : Type 0} (s : Stage A) (p h : ℕ) (tail : List (UpWord A)) (rest : List (UpWord A)) : Type 0 where
  pub is : s ≡ AsksResume p h
  pub left : tail ≡ rest

no_ask : {A C : Type 0} (foot : Bool) (p h : ℕ) (rest : List (UpWord A)) → foot_of foot ≡ ResumeAt p h ∷ rest → C
no_ask false p h rest e = absurd (let no_way : ⊥ = cc in no_way)
no_ask true p h rest e = absurd (let no_way : ⊥ = cc in no_way)

pub asks : {A : Type 0} (s : Stage A) (foot : Bool) (p h : ℕ) (rest : List (UpWord A)) → up_of s ++ foot_of foot ≡ ResumeAt p h ∷ rest → Asks s p h (foot_of foot) rest
asks (AsksResume q i) foot p h rest e =
    let one : q ≡ p = cc in
    let two : i ≡ h = cc in
    let left : foot_of foot ≡ rest = cc in
    record { is = ap (λ x. AsksResume x i) one ∙ ap (AsksResume p) two; left = left }
asks (Runs q (u ∷ ups) downs) foot p h rest e = absurd (let no_way : ⊥ = cc in no_way)
asks (Runs q [] downs) foot p h rest e = no_ask foot p h rest e
asks Greets foot p h rest e = absurd (let no_way : ⊥ = cc in no_way)
asks Proves foot p h rest e = absurd (let no_way : ⊥ = cc in no_way)
asks Answers foot p h rest e = absurd (let no_way : ⊥ = cc in no_way)
asks Regreets foot p h rest e = absurd (let no_way : ⊥ = cc in no_way)
asks AsksBind foot p h rest e = absurd (let no_way : ⊥ = cc in no_way)
asks (AsksEnable m) foot p h rest e = absurd (let no_way : ⊥ = cc in no_way)
asks Greeted foot p h rest e = no_ask foot p h rest e
asks Offered foot p h rest e = no_ask foot p h rest e
asks Challenged foot p h rest e = no_ask foot p h rest e
asks Succeeded foot p h rest e = no_ask foot p h rest e
asks Regreeted foot p h rest e = no_ask foot p h rest e
asks Reoffered foot p h rest e = no_ask foot p h rest e
asks (Refused q) foot p h rest e = no_ask foot p h rest e
asks (Resumes q i downs) foot p h rest e = no_ask foot p h rest e
asks (Binds m) foot p h rest e = no_ask foot p h rest e
asks (Enables m downs) foot p h rest e = no_ask foot p h rest e

-- it is the first word that goes up on this connection
abbrev pub AsksFirst : {A : Type 0} → Stage A → Conn A → ℕ → ℕ → List (UpWord A) → Type 0
AsksFirst s c p h rest = Asks s p h (foot_of c.footed) (up_whole (left_up rest c.wires))

pub asks_first : {A : Type 0} (s : Stage A) (c : Conn A) (p h : ℕ) (rest : List (UpWord A)) → IsAt s c → up_words c.wires ≡ ResumeAt p h ∷ rest → AsksFirst s c p h rest
asks_first s c p h rest at first = asks s c.footed p h (up_whole (left_up rest c.wires)) (sym at.up ∙ left_up_whole (ResumeAt p h) rest c.wires first)

-- a whole pipe with nothing has nothing
up_none : {A : Type 0} (x : Wires A) → up_whole x ≡ [] → up_words x ≡ []
up_none (Flow us ds) e = e
up_none (Stop [] ds lu ld) e = refl
up_none (Stop (u ∷ us) ds lu ld) e = absurd (let no_way : ⊥ = cc in no_way)

pub down_none : {A : Type 0} (x : Wires A) → down_whole x ≡ [] → down_words x ≡ []
down_none (Flow us ds) e = e
down_none (Stop us [] lu ld) e = refl
down_none (Stop us (d ∷ ds) lu ld) e = absurd (let no_way : ⊥ = cc in no_way)

sent_stanzas : {A : Type 0} (zs : List A) → down_stanzas (map Down (map St zs)) ≡ zs
sent_stanzas [] = refl
sent_stanzas (z ∷ zs) = ap (λ l. z ∷ l) (sent_stanzas zs)

sent_counts : {A : Type 0} (low : ℕ) (stated : List ℕ) (zs : List A) → DownCounts low stated (map Down (map St zs))
sent_counts low stated [] = tt
sent_counts low stated (z ∷ zs) = sent_counts low stated zs

-- what is behind the word, on a way down that had nothing: all if it flows
following : {A : Type 0} (p n : ℕ) (zs : List A) (rest : List (UpWord A)) (x : Wires A) → down_words x ≡ [] →
    down_stanzas (down_words (send_down (Resumed p n ∷ map Down (map St zs)) (left_up rest x))) ≡ cond (is_flowing x) zs []
following p n zs rest (Flow us ds) e = ap (λ l. down_stanzas (l ++ Resumed p n ∷ map Down (map St zs))) e ∙ sent_stanzas zs
following p n zs rest (Stop us ds lu ld) e = ap down_stanzas e

after_counts : {A : Type 0} (low p n : ℕ) (stated : List ℕ) (zs : List A) (rest : List (UpWord A)) (x : Wires A) → down_words x ≡ [] → low ≤ n → Contains stated n →
    DownCounts low stated (down_words (send_down (Resumed p n ∷ map Down (map St zs)) (left_up rest x)))
after_counts low p n stated zs rest (Flow us ds) e l c = subst (λ ws. DownCounts low stated (ws ++ Resumed p n ∷ map Down (map St zs))) (sym e) (l, c, sent_counts n stated zs)
after_counts low p n stated zs rest (Stop us ds lu ld) e l c = subst (λ ws. DownCounts low stated ws) (sym e) tt

resumed_kept : {A : Type 0} (b flows : Bool) (s : Session A) → (b ≡ true → s.counted ≡ true) → SessionKept s → SessionKept (resumed_if b flows s)
resumed_kept {A = A} false flows s counted kept = kept
resumed_kept {A = A} true flows s counted kept = record {
  up = reached_more State s.up (record s.up { stated = s.up.stated ++ length s.up.got ∷ [] }) kept.up refl;
  down = down flows;
  begun = λ e. absurd (not_true e (counted refl));
  read = kept.read;
  epoch = kept.epoch;
  unread = kept.unread;
  unheard = kept.unheard;
}
  where
    opened : Direction A
    opened = record s.down { acked = length s.down.got; way = drop (length s.down.got) s.down.put; is_open = true }

    is_opened : Reached (record s.down { acked = length s.down.got; way = drop (length s.down.got) s.down.put; is_open = true })
    is_opened = reached_more Resume s.down (record s.down { acked = length s.down.got; way = drop (length s.down.got) s.down.put; is_open = true }) kept.down refl

    down : (flows : Bool) → Reached (resumed_if true flows s).down
    down true = is_opened
    down false = reached_more (Cut 0) (record s.down { acked = length s.down.got; way = drop (length s.down.got) s.down.put; is_open = true }) (record s.down { acked = length s.down.got; way = []; is_open = false }) is_opened refl

-- the session of another number stays
resumed_other : {A : Type 0} (p : ℕ) (flows : Bool) (q : ℕ) (s : Session A) → p ≢ q → resumed_if (has (Some p) q) flows s ≡ s
resumed_other {A = A} p flows q s ne = none (nat_eq p q) (other_number p q ne)
  where
    none : (b : Bool) → b ≡ false → resumed_if b flows s ≡ s
    none b e = subst (λ x. resumed_if x flows s ≡ s) (sym e) refl

resumed_asked : {A : Type 0} (p : ℕ) (flows : Bool) (sessions : Table (Session A)) (s : Stage A) → IsAsked sessions s → IsAsked (alter (λ q t. resumed_if (has (Some p) q) flows t) sessions) s
resumed_asked p flows sessions (AsksResume q h) (s, is, read, stated) = (resumed_if (has (Some p) q) flows s, altered (λ q t. resumed_if (has (Some p) q) flows t) sessions q s is, read, stated)
resumed_asked p flows sessions (AsksEnable m) (s, e, is, epoch) = (resumed_if (has (Some p) m) flows s, e, altered (λ q t. resumed_if (has (Some p) q) flows t) sessions m s is, epoch)
resumed_asked p flows sessions _ a = tt

pub resumed_here_keeps : {A : Type 0} (k : ℕ) (v next : View A) → IsResumedHere k v next → LinkKept v → LinkKept next
resumed_here_keeps {A = A} k v next m kept = subst LinkKept (sym m.gives) (record {
  there = λ n here. there_cut v kept k this n here;
  conns = λ n d found. conn n d (entry k this v.conns n d found);
  row = λ r e. subst (λ x. RowKept (with_at k this v.conns) (alter f v.sessions) x) (let out : new ≡ r = cc in out) row_kept;
  own = λ o found. let old = kept.own o found in record {
    session = f o.number old.session;
    is = altered f v.sessions o.number old.session old.is;
    read = old.read;
    of_epoch = old.of_epoch;
    handled = old.handled;
    acked = old.acked;
    queue = old.queue;
  };
  sessions = λ q s found. let w = was f v.sessions q s found in subst SessionKept w.2 (resumed_kept (has (Some m.row.number) q) (is_flowing m.conn.wires) w.0 (λ e. subst (λ (x : Session A). x.counted ≡ true) (same_session v m.row.number q row.session w.0 row.is e w.1) counted) (kept.sessions q w.0 w.1));
  goes_down = λ n d q here found carried. down n d q here carried (entry k this v.conns n d found);
  idle_up = λ q s found yes_counted. idle_up q s (was f v.sessions q s found) yes_counted;
  idle_down = λ q s found yes_counted. idle_down q s (was f v.sessions q s found) yes_counted (cases_eq m.row.number q);
  late = λ n d q found away on carried. absurd (nowhere n d q away on (entry k this v.conns n d found));
})
  where
    this : Conn A
    this = record m.conn { phase = AtSession m.row.number; wires = send_down (Resumed m.row.number m.row.handled ∷ map Down (map St (drop (m.h - m.row.acked) m.row.queue))) (left_up m.rest m.conn.wires) }

    queue : List A
    queue = drop (m.h - m.row.acked) m.row.queue

    puts : List (DownWord A)
    puts = Resumed m.row.number m.row.handled ∷ map Down (map St (drop (m.h - m.row.acked) m.row.queue))

    new : Row A
    new = record m.row { on = Some k; acked = m.h; queue = drop (m.h - m.row.acked) m.row.queue }

    f : ℕ → Session A → Session A
    f = λ q s. resumed_if (has (Some m.row.number) q) (is_flowing m.conn.wires) s

    after : View A
    after = record v { conns = with_at k this v.conns; row = Some new; sessions = alter f v.sessions }

    old : ConnKept v k m.conn
    old = kept.conns k m.conn m.is

    works : has v.here k ≡ true
    works = is_has v.here k m.here

    asking : AsksFirst old.stage m.conn m.row.number m.h m.rest
    asking = asks_first old.stage m.conn m.row.number m.h m.rest old.at m.first

    stands : m.conn.ending ≡ Stands
    stands = taken_stands (has v.here k) m.conn (ResumeAt m.row.number m.h) m.rest old.piped m.first

    unfooted : m.conn.footed ≡ false
    unfooted = old.piped.unfooted works

    nothing_up : up_whole (left_up m.rest m.conn.wires) ≡ []
    nothing_up = sym asking.left ∙ ap foot_of unfooted

    no_rest : m.rest ≡ []
    no_rest = sym (up_words_down [] m.rest m.conn.wires) ∙ up_words_again m.conn.wires ∙ up_none (left_up m.rest m.conn.wires) nothing_up
      where
        up_words_again : (x : Wires A) → up_words (send_down [] (left_up m.rest x)) ≡ up_words (left_up m.rest x)
        up_words_again (Flow us ds) = refl
        up_words_again (Stop us ds lu ld) = refl

    nothing_down : down_whole m.conn.wires ≡ []
    nothing_down = old.at.down ∙ ap (λ x. down_of x ++ tail_of m.conn.ending) asking.is ∙ ap tail_of stands

    empty_down : down_words m.conn.wires ≡ []
    empty_down = down_none m.conn.wires nothing_down

    row : RowKept v.conns v.sessions m.row
    row = kept.row m.row m.is_row

    s : Session A
    s = row.session

    counted : row.session.counted ≡ true
    counted = sym row.counted ∙ m.counted

    quiet : IsIdle row.session.up
    quiet = let placed : IsPlaced v.conns m.row row.session None = subst (λ o. IsPlaced v.conns m.row row.session o) m.off row.placed in placed.1

    fits : FitsOwn v.own v.epoch v.sessions (AsksResume m.row.number m.h)
    fits = subst (λ x. FitsOwn v.own v.epoch v.sessions x) asking.is (old.fits works)

    present : m.h ≡ length row.session.down.got
    present =
        let o = kept.own fits.0 fits.1 in
        let same : o.session ≡ row.session = some_one (v.sessions m.row.number) o.session row.session (subst (λ (x : ℕ). v.sessions x ≡ Some o.session) fits.2 o.is) row.is in
        sym fits.3 ∙ o.handled ∙ ap (λ (x : Session A). length x.down.got) same

    got_all : drop (m.h - m.row.acked) m.row.queue ≡ drop (length row.session.down.got) row.session.down.put
    got_all =
        let low : row.session.down.acked ≤ length row.session.down.got = (kept_reached row.session.down (kept.sessions m.row.number row.session row.is).down).acked in
        let a = row.acked in
        let h = present in
        let sum : row.session.down.acked + (m.h - m.row.acked) ≡ length row.session.down.got = omega arith in
        ap (drop (m.h - m.row.acked)) row.queue ∙ drop-drop (m.h - m.row.acked) row.session.down.acked row.session.down.put ∙ ap (λ (n : ℕ). drop n row.session.down.put) sum

    up_words_this : up_words (send_down puts (left_up m.rest m.conn.wires)) ≡ []
    up_words_this = up_words_down puts m.rest m.conn.wires ∙ no_rest

    goes_up : GoesUp this (f m.row.number row.session)
    goes_up = record {
      way = quiet.way ∙ ap up_stanzas (sym up_words_this);
      is_open = quiet.is_open ∙ (never (is_flowing (send_down puts (left_up m.rest m.conn.wires))) ∙ ap (λ x. is_flowing (send_down puts (left_up m.rest m.conn.wires)) && sends x) (sym (old.at.client ∙ ap client_of asking.is)));
      counts = subst (λ ws. UpCounts (f m.row.number row.session).down.acked row.session.down.stated ws) (sym up_words_this) tt;
    }
      where
        never : (b : Bool) → false ≡ (b && false)
        never false = refl
        never true = refl

    row_kept : RowAfter k this v f new
    row_kept = record {
      session = f m.row.number row.session;
      is = altered f v.sessions m.row.number row.session row.is;
      counted = row.counted;
      handled = row.handled;
      acked = rw same_number present;
      queue = rw same_number got_all;
      placed = (this, at_same k this v.conns, ap (λ x. on_phase (AtSession m.row.number) x m.conn.gone) stands ∙ ap (λ x. on_phase (AtSession m.row.number) Stands x) told, λ e. goes_up);
    }
      where
        told : m.conn.gone ≡ false
        told = elim (cases_Bool m.conn.gone) [ inr e ↦ e | inl e ↦ absurd (let none = old.piped.gone e in let first = m.first in let no_way : ⊥ = cc in no_way) ]

    nowhere : (n : ℕ) (d : Conn A) (q : ℕ) → has v.here n ≡ false → session_on d ≡ Some q → Entry k this v.conns n d → ⊥
    nowhere n d q away on (New same is) = not_true away (subst (λ x. has v.here x ≡ true) same works)
    nowhere n d q away on (Old ne there) = on_none v m.row kept m.is_row m.off n d q there on

    conn : (n : ℕ) (d : Conn A) → Entry k this v.conns n d → ConnKept (record v { conns = with_at k this v.conns; row = Some new; sessions = alter f v.sessions }) n d
    conn n d (New same is) =
        let here : ConnKept (record v { conns = with_at k this v.conns; row = Some new; sessions = alter f v.sessions }) k this = record {
          piped = piped_up (has v.here k) m.conn (ResumeAt m.row.number m.h) m.rest (AtSession m.row.number) puts m.first old.piped;
          stage = Resumes m.row.number m.row.handled (map St queue);
          at = record {
            client = old.at.client ∙ ap client_of asking.is;
            phase = refl;
            up = send_down_whole_up puts (left_up m.rest m.conn.wires) ∙ sym asking.left;
            down = send_down_whole puts (left_up m.rest m.conn.wires) ∙ ap (λ l. l ++ puts) (left_up_whole_down m.rest m.conn.wires ∙ nothing_down) ∙ sym (append-nil puts) ∙ ap (λ x. puts ++ tail_of x) (sym stands);
          };
          asked = tt;
          fits = λ e. ((fits.0, fits.1, fits.2), λ t is. said t (was f v.sessions m.row.number t is));
          attached = λ q e. (new, refl, number q e, refl);
          uncounted = λ r f on e. absurd (not_true refl e);
          counting = λ r f on p e. subst (λ (x : Row A). x.counted ≡ true) (some_same new r f) m.counted;
        } in
        subst (λ x. ConnKept (record v { conns = with_at k this v.conns; row = Some new; sessions = alter f v.sessions }) x d) same (subst (λ x. ConnKept (record v { conns = with_at k this v.conns; row = Some new; sessions = alter f v.sessions }) k x) is here)
      where
        said : (t : Session A) → (a : Session A) × (v.sessions m.row.number ≡ Some a) × (f m.row.number a ≡ t) → (m.row.handled ≡ length t.up.got) × Contains t.up.stated m.row.handled
        said t w =
            let same : row.session ≡ w.0 = some_one (v.sessions m.row.number) row.session w.0 row.is w.1 in
            let both : (m.row.handled ≡ length row.session.up.got) × Contains (f m.row.number row.session).up.stated m.row.handled =
            (row.handled, rw same_number (subst (λ (n : ℕ). Contains (row.session.up.stated ++ length row.session.up.got ∷ []) n) (sym row.handled) (Contains-push row.session.up.stated (length row.session.up.got))))
            in
            subst (λ (x : Session A). (m.row.handled ≡ length x.up.got) × Contains x.up.stated m.row.handled) (ap (f m.row.number) same ∙ w.2) both

        number : (q : ℕ) → session_on this ≡ Some q → m.row.number ≡ q
        number q e = read m.conn.ending m.conn.gone e
          where
            read : (end : Ending) (gone : Bool) → on_phase (AtSession m.row.number) end gone ≡ Some q → m.row.number ≡ q
            read Stands false e = cc
            read Stands true e = absurd (let no_way : ⊥ = cc in no_way)
            read (Errs x) gone e = absurd (let no_way : ⊥ = cc in no_way)
            read Closes gone e = absurd (let no_way : ⊥ = cc in no_way)
    conn n d (Old ne there) =
        let before = kept.conns n d there in
        record {
          piped = before.piped;
          stage = before.stage;
          at = before.at;
          asked = resumed_asked m.row.number (is_flowing m.conn.wires) v.sessions before.stage before.asked;
          fits = λ e. absurd (ne (let h : v.here ≡ Some n = has_is v.here n e in let here = m.here in let same : k ≡ n = cc in same));
          attached = λ q e. absurd (on_none v m.row kept m.is_row m.off n d q there e);
          uncounted = λ r f on e. on_other k n new r f refl ne on;
          counting = λ r f on p e. on_other k n new r f refl ne on;
        }

    carries_this : carries this ≡ Some m.row.number
    carries_this =
        let all : down_whole (send_down puts (left_up m.rest m.conn.wires)) ≡ puts = send_down_whole puts (left_up m.rest m.conn.wires) ∙ ap (λ l. l ++ puts) (left_up_whole_down m.rest m.conn.wires ∙ nothing_down) in
        ap (λ x. carried_by x (down_whole (send_down puts (left_up m.rest m.conn.wires)))) (old.at.client ∙ ap client_of asking.is) ∙ ap (carried_by (InResume m.row.number)) all

    goes_down : GoesDown this (f m.row.number row.session)
    goes_down = record {
      counted = counted;
      way = rw (same_number, ← got_all) (sym (following m.row.number m.row.handled (drop (m.h - m.row.acked) m.row.queue) m.rest m.conn.wires empty_down));
      is_open = rw same_number (sym (flow_down puts m.rest m.conn.wires));
      counts = rw same_number (subst (λ (n : ℕ). DownCounts row.session.up.acked (row.session.up.stated ++ length row.session.up.got ∷ []) (down_words (send_down (Resumed m.row.number n ∷ map Down (map St (drop (m.h - m.row.acked) m.row.queue))) (left_up m.rest m.conn.wires)))) (sym row.handled)
          (after_counts row.session.up.acked m.row.number (length row.session.up.got) (row.session.up.stated ++ length row.session.up.got ∷ []) (drop (m.h - m.row.acked) m.row.queue) m.rest m.conn.wires empty_down
          (kept_reached row.session.up (kept.sessions m.row.number row.session row.is).up).acked (Contains-push row.session.up.stated (length row.session.up.got))));
    }

    down : GoesDownAfter k this v f
    down n d q here carried (New same is) =
        let e : Some m.row.number ≡ Some q = sym carries_this ∙ subst (λ x. carries x ≡ Some q) (sym is) carried in
        let one : m.row.number ≡ q = cc in
        let this_one : (t : Session A) × (alter f v.sessions m.row.number ≡ Some t) × GoesDown d t = (f m.row.number row.session, altered f v.sessions m.row.number row.session row.is, subst (λ x. GoesDown x (f m.row.number row.session)) is goes_down) in
        subst (λ x. (t : Session A) × (alter f v.sessions x ≡ Some t) × GoesDown d t) one this_one
    down n d q here carried (Old ne there) = absurd (ne (let h = m.here in let same : k ≡ n = cc in same))

    idle_up : (q : ℕ) (t : Session A) → (a : Session A) × (v.sessions q ≡ Some a) × (f q a ≡ t) → t.counted ≡ true → IsIdle t.up ⊎ ((r : Row A) × (Some new ≡ Some r) × (r.number ≡ q))
    idle_up q t w yes_counted =
        let before : w.0.counted ≡ true = ap (λ (x : Session A). x.counted) w.2 ∙ yes_counted in
        elim (kept.idle_up q w.0 w.1 before) [
          | inl still ↦ inl (subst (λ (x : Session A). IsIdle x.up) w.2 (record { way = still.way; is_open = still.is_open }))
          | inr x ↦ inr (new, refl, ap (λ (r : Row A). r.number) (some_one v.row m.row x.0 m.is_row x.1) ∙ x.2)
        ]

    idle_down : (q : ℕ) (t : Session A) → (a : Session A) × (v.sessions q ≡ Some a) × (f q a ≡ t) → t.counted ≡ true → (m.row.number ≡ q) ⊎ (m.row.number ≡ q → ⊥) →
        IsIdle t.down ⊎ IsCarried (record v { conns = with_at k this v.conns; row = Some new; sessions = alter f v.sessions }) q
    idle_down q t w yes_counted (inl same) = inr (k, this, m.here, at_same k this v.conns, carries_this ∙ ap Some same)
    idle_down q t w yes_counted (inr ne) =
        let stays : w.0 ≡ t = sym (resumed_other m.row.number (is_flowing m.conn.wires) q w.0 ne) ∙ w.2 in
        let before : w.0.counted ≡ true = ap (λ (x : Session A). x.counted) stays ∙ yes_counted in
        elim (kept.idle_down q w.0 w.1 before) [
          | inl still ↦ inl (subst (λ (x : Session A). IsIdle x.down) stays still)
          | inr x ↦ absurd (none_carried v k m.conn m.here m.is (λ p e. no_entry p (ap (carried_by {A = A} (InResume m.row.number)) (sym nothing_down) ∙ ap (λ x. carried_by x (down_whole m.conn.wires)) (sym (old.at.client ∙ ap client_of asking.is)) ∙ e)) q x)
        ]
