-- The server counts a session from here on.
use Rattle.std.proofs.Common.{◌≡◌, ◌≢◌, ℕ, Bool, true, false, ◌&&◌, if◌then◌else◌, List, [], ◌∷◌, ◌++◌, length, take, refl, sym, ap, ◌∙◌, subst, ◌⊎◌, inl, inr, Option, None, Some, nat_eq}
use Rattle.std.proofs.lemmas.Bool.{cases_Bool, cases_eq}
use Rattle.std.specs.List.{Contains}
use Rattle.sm_acks.specs.Delivery.{beginning, Direction, Reached, Cut}
use Rattle.sim_2_links.proofs.Entries.{same_number, other_number, at_same, at_other, Entry, New, Old, entry, was, altered, has_is, is_has}
use Rattle.sim_2_links.proofs.DeliveryRuns.{reached_more}
use Rattle.sim_2_links.proofs.Tables.{send_down_whole, send_down_whole_up, left_up_whole, left_up_whole_down}
use Rattle.sim_2_links.proofs.CutLinks.{not_true, some_one, some_same, there_cut, on_other}
use Rattle.sim_2_links.proofs.Hands.{no_entry, piped_up, taken_stands, stopped_away, up_words_down, flow_down}
use Rattle.sim_2_links.proofs.ReadResumed.{phase_session, bare_stanzas}
use Rattle.sim_2_links.proofs.Resumption.{down_none}
use Rattle.sim_2_links.proofs.Late.{bare_left, bare_counts}
use Rattle.sim_2_links.proofs.Detached.{carries_at}
use Rattle.sim_2_links.proofs.Heard.{same_session}
use Rattle.sim_2_links.proofs.StepParts.{RowAfter, GoesDownAfter, attached_after}
use Rattle.sim_2_links.specs.Words.{up_stanzas, down_stanzas, UpWord, Enable, Enabled, InEnable}
use Rattle.sim_2_links.specs.Wires.{Wires, Flow, Stop, is_flowing, up_words, down_words, up_whole, down_whole, send_down, left_up}
use Rattle.sim_2_links.specs.Stages.{Stage, Greets, Greeted, Offered, Proves, Challenged, Answers, Succeeded, Regreets, Regreeted, Reoffered, AsksResume, Refused, Resumes, AsksBind, Binds, AsksEnable, Enables, Runs, client_of, phase_of, up_of, down_of, Stands, tail_of, foot_of, Conn, IsAt}
use Rattle.sim_2_links.specs.Views.{Table, with_at, alter, has, Session, Row, Own, View, on_phase, session_on, carries, sends}
use Rattle.sim_2_links.specs.SessionMoves.{IsEnabled}
use Rattle.sim_2_links.specs.Links.{UpCounts, DownCounts, IsAsked, FitsOwn, ConnKept, GoesUp, GoesDown, IsIdle, IsPlaced, RowKept, SessionKept, IsCarried, IsBare, LinkKept}
use Rattle.std.proofs.Math.Bool.{and-true}

pub record AsksEnabled {A : Type 0} (s : Stage A) (tail rest : List (UpWord A)) : Type 0 where
  pub m : ℕ
  pub is : s ≡ AsksEnable m
  pub left : tail ≡ rest

no_enable : {A C : Type 0} (foot : Bool) (rest : List (UpWord A)) → foot_of foot ≡ Enable ∷ rest → C
no_enable false rest e = absurd (let no_way : ⊥ = cc in no_way)
no_enable true rest e = absurd (let no_way : ⊥ = cc in no_way)

pub asks_enabled : {A : Type 0} (s : Stage A) (foot : Bool) (rest : List (UpWord A)) → up_of s ++ foot_of foot ≡ Enable ∷ rest → AsksEnabled s (foot_of foot) rest
asks_enabled (AsksEnable m) foot rest e = record { m = m; is = refl; left = (let left : foot_of foot ≡ rest = cc in left) }
asks_enabled (Runs q (u ∷ ups) downs) foot rest e = absurd (let no_way : ⊥ = cc in no_way)
asks_enabled (Runs q [] downs) foot rest e = no_enable foot rest e
asks_enabled Greets foot rest e = absurd (let no_way : ⊥ = cc in no_way)
asks_enabled Proves foot rest e = absurd (let no_way : ⊥ = cc in no_way)
asks_enabled Answers foot rest e = absurd (let no_way : ⊥ = cc in no_way)
asks_enabled Regreets foot rest e = absurd (let no_way : ⊥ = cc in no_way)
asks_enabled (AsksResume p h) foot rest e = absurd (let no_way : ⊥ = cc in no_way)
asks_enabled AsksBind foot rest e = absurd (let no_way : ⊥ = cc in no_way)
asks_enabled Greeted foot rest e = no_enable foot rest e
asks_enabled Offered foot rest e = no_enable foot rest e
asks_enabled Challenged foot rest e = no_enable foot rest e
asks_enabled Succeeded foot rest e = no_enable foot rest e
asks_enabled Regreeted foot rest e = no_enable foot rest e
asks_enabled Reoffered foot rest e = no_enable foot rest e
asks_enabled (Refused q) foot rest e = no_enable foot rest e
asks_enabled (Resumes q i downs) foot rest e = no_enable foot rest e
asks_enabled (Binds m) foot rest e = no_enable foot rest e
asks_enabled (Enables m downs) foot rest e = no_enable foot rest e

abbrev pub enabled_if : {A : Type 0} → Bool → Bool → Session A → Session A
enabled_if b flows s = record s {
  counted = if b then true else s.counted;
  up = record s.up { is_open = if b then flows else s.up.is_open };
  down = record s.down { is_open = if b then flows else s.down.is_open };
}

opened : {A : Type 0} (flows : Bool) (d : Direction A) → d ≡ beginning → Reached d → Reached (record d { is_open = flows })
opened {A = A} true d is reached = subst (λ x. Reached (record x { is_open = true })) (sym is) (record { moves = []; reaches = refl })
opened {A = A} false d is reached = reached_more (Cut 0) d (record d { is_open = false }) reached (subst (λ (x : Direction A). record x { is_open = false } ≡ record x { way = take 0 x.way; is_open = false }) (sym is) refl)

enabled_kept : {A : Type 0} (b flows : Bool) (s : Session A) → (b ≡ true → (s.counted ≡ false) × ((e : ℕ) × (s.epoch ≡ Some e))) → SessionKept s → SessionKept (enabled_if b flows s)
enabled_kept false flows s good kept = kept
enabled_kept true flows s good kept =
    let g = good refl in
    let b = kept.begun g.0 in
    record {
      up = opened flows s.up b.0 kept.up;
      down = opened flows s.down b.1 kept.down;
      begun = λ e. absurd (let no_way : ⊥ = cc in no_way);
      read = λ e. refl;
      epoch = λ e. g.1;
      unread = kept.unread;
      unheard = kept.unheard;
    }

enabled_asked : {A : Type 0} (p : ℕ) (flows : Bool) (sessions : Table (Session A)) (s : Stage A) → IsAsked sessions s → IsAsked (alter (λ q t. enabled_if (has (Some p) q) flows t) sessions) s
enabled_asked p flows sessions (AsksResume q h) (s, is, read, stated) = (enabled_if (has (Some p) q) flows s, altered (λ q t. enabled_if (has (Some p) q) flows t) sessions q s is, read, stated)
enabled_asked p flows sessions (AsksEnable m) (s, e, is, epoch) = (enabled_if (has (Some p) m) flows s, e, altered (λ q t. enabled_if (has (Some p) q) flows t) sessions m s is, epoch)
enabled_asked p flows sessions _ a = tt

still_counted : {A : Type 0} (b flows : Bool) (s : Session A) → s.counted ≡ true → (enabled_if b flows s).counted ≡ true
still_counted false flows s e = e
still_counted true flows s e = refl

enabled_other : {A : Type 0} (p : ℕ) (flows : Bool) (q : ℕ) (s : Session A) → p ≢ q → enabled_if (has (Some p) q) flows s ≡ s
enabled_other {A = A} p flows q s ne = none (nat_eq p q) (other_number p q ne)
  where
    none : (b : Bool) → b ≡ false → enabled_if b flows s ≡ s
    none b e = subst (λ x. enabled_if x flows s ≡ s) (sym e) refl

enabled_fits : {A : Type 0} (own : Option (Own A)) (epoch p : ℕ) (flows : Bool) (sessions : Table (Session A)) (s : Stage A) → ((t : Session A) → sessions p ≡ Some t → t.epoch ≡ None → ⊥) →
    FitsOwn own epoch sessions s → FitsOwn own epoch (alter (λ q t. enabled_if (has (Some p) q) flows t) sessions) s
enabled_fits own epoch p flows sessions (AsksResume q h) named a = a
enabled_fits own epoch p flows sessions (Refused q) named a = a
enabled_fits {A = A} own epoch p flows sessions (Resumes q h downs) named a = (a.0, λ t is. moved t (was (λ q t. enabled_if (has (Some p) q) flows t) sessions q t is))
  where
    moved : (t : Session A) → (s : Session A) × (sessions q ≡ Some s) × (enabled_if (has (Some p) q) flows s ≡ t) → (h ≡ length t.up.got) × Contains t.up.stated h
    moved t w = let b = a.1 w.0 w.1 in subst (λ (x : Session A). (h ≡ length x.up.got) × Contains x.up.stated h) w.2 b
enabled_fits own epoch p flows sessions AsksBind named a = a
enabled_fits {A = A} own epoch p flows sessions (Binds m) named (none, b) = (none, (enabled_if (has (Some p) m) flows b.0, altered (λ q t. enabled_if (has (Some p) q) flows t) sessions m b.0 b.1, b.2, by (cases_eq p m)))
  where
    by : (p ≡ m) ⊎ (p ≡ m → ⊥) → (enabled_if (has (Some p) m) flows b.0).counted ≡ false
    by (inl same) = absurd (named b.0 (subst (λ x. sessions x ≡ Some b.0) (sym same) b.1) b.2)
    by (inr ne) = ap (λ (x : Session A). x.counted) (enabled_other p flows m b.0 ne) ∙ b.3
enabled_fits own epoch p flows sessions (AsksEnable m) named (none, b) = (none, (enabled_if (has (Some p) m) flows b.0, altered (λ q t. enabled_if (has (Some p) q) flows t) sessions m b.0 b.1, b.2))
enabled_fits own epoch p flows sessions (Enables m downs) named (none, b) = (none, (enabled_if (has (Some p) m) flows b.0, altered (λ q t. enabled_if (has (Some p) q) flows t) sessions m b.0 b.1, b.2, still_counted (has (Some p) m) flows b.0 b.3, b.4))
enabled_fits own epoch p flows sessions (Runs q ups downs) named a = a
enabled_fits own epoch p flows sessions Greets named a = a
enabled_fits own epoch p flows sessions Greeted named a = a
enabled_fits own epoch p flows sessions Offered named a = a
enabled_fits own epoch p flows sessions Proves named a = a
enabled_fits own epoch p flows sessions Challenged named a = a
enabled_fits own epoch p flows sessions Answers named a = a
enabled_fits own epoch p flows sessions Succeeded named a = a
enabled_fits own epoch p flows sessions Regreets named a = a
enabled_fits own epoch p flows sessions Regreeted named a = a
enabled_fits own epoch p flows sessions Reoffered named a = a

enabled_down : {A : Type 0} (m : ℕ) (rest : List (UpWord A)) (x : Wires A) → down_words x ≡ [] → down_stanzas (down_words (send_down (Enabled m ∷ []) (left_up rest x))) ≡ []
enabled_down m rest (Flow us ds) e = ap (λ l. down_stanzas (l ++ Enabled m ∷ [])) e
enabled_down m rest (Stop us ds lu ld) e = ap down_stanzas e

enabled_counts : {A : Type 0} (low m : ℕ) (stated : List ℕ) (rest : List (UpWord A)) (x : Wires A) → down_words x ≡ [] → DownCounts low stated (down_words (send_down (Enabled m ∷ []) (left_up rest x)))
enabled_counts low m stated rest (Flow us ds) e = subst (λ l. DownCounts low stated (l ++ Enabled m ∷ [])) (sym e) tt
enabled_counts low m stated rest (Stop us ds lu ld) e = subst (λ l. DownCounts low stated l) (sym e) tt

pub enabled_keeps : {A : Type 0} (k : ℕ) (v next : View A) → IsEnabled k v next → LinkKept v → LinkKept next
enabled_keeps {A = A} k v next m kept = subst LinkKept (sym m.gives) (record {
  there = λ n here. there_cut v kept k this n here;
  conns = λ n d found. conn n d (entry k this v.conns n d found);
  row = λ r e. subst (λ x. RowKept (with_at k this v.conns) (alter f v.sessions) x) (let out : new ≡ r = cc in out) row_kept;
  own = λ o found. let before = kept.own o found in record {
    session = f o.number before.session;
    is = altered f v.sessions o.number before.session before.is;
    read = before.read;
    of_epoch = before.of_epoch;
    handled = before.handled;
    acked = before.acked;
    queue = before.queue;
  };
  sessions = λ q s found. let w = was f v.sessions q s found in subst SessionKept w.2 (enabled_kept (has (Some m.row.number) q) (is_flowing m.conn.wires) w.0 (λ e. subst (λ (x : Session A). (x.counted ≡ false) × ((e : ℕ) × (x.epoch ≡ Some e))) (same_session v m.row.number q row.session w.0 row.is e w.1) (uncounted, named)) (kept.sessions q w.0 w.1));
  goes_down = λ n d q here found carried. down n d q here carried (entry k this v.conns n d found);
  idle_up = λ q t found yes_counted. idle_up q t (was f v.sessions q t found) yes_counted (cases_eq m.row.number q);
  idle_down = λ q t found yes_counted. idle_down q t (was f v.sessions q t found) yes_counted (cases_eq m.row.number q);
  late = λ n d q found away on carried. absurd (late n d q away on carried (entry k this v.conns n d found));
})
  where
    this : Conn A
    this = record m.conn { wires = send_down (Enabled m.row.number ∷ []) (left_up m.rest m.conn.wires) }

    new : Row A
    new = record m.row { counted = true }

    f : ℕ → Session A → Session A
    f = λ q s. enabled_if (has (Some m.row.number) q) (is_flowing m.conn.wires) s

    after : View A
    after = record v { conns = with_at k this v.conns; row = Some new; sessions = alter f v.sessions }

    old : ConnKept v k m.conn
    old = kept.conns k m.conn m.is

    row : RowKept v.conns v.sessions m.row
    row = kept.row m.row m.is_row

    uncounted : row.session.counted ≡ false
    uncounted = sym row.counted ∙ m.uncounted

    begun : (row.session.up ≡ beginning) × (row.session.down ≡ beginning)
    begun = (kept.sessions m.row.number row.session row.is).begun uncounted

    a : AsksEnabled old.stage (foot_of m.conn.footed) (up_whole (left_up m.rest m.conn.wires))
    a = asks_enabled old.stage m.conn.footed (up_whole (left_up m.rest m.conn.wires)) (sym old.at.up ∙ left_up_whole Enable m.rest m.conn.wires m.first)

    stands : m.conn.ending ≡ Stands
    stands = taken_stands (has v.here k) m.conn Enable m.rest old.piped m.first

    held : session_on m.conn ≡ Some m.row.number
    held =
        let placed : (d : Conn A) × (v.conns k ≡ Some d) × (session_on d ≡ Some m.row.number) × (row.session.counted ≡ true → GoesUp d row.session) = subst (λ o. IsPlaced v.conns m.row row.session o) m.on row.placed in
        subst (λ x. session_on x ≡ Some m.row.number) (some_one (v.conns k) placed.0 m.conn placed.1 m.is) placed.2

    number : a.m ≡ m.row.number
    number = phase_session a.m m.row.number m.conn.ending m.conn.gone (ap (λ x. on_phase x m.conn.ending m.conn.gone) (sym (old.at.phase ∙ ap phase_of a.is)) ∙ held)

    is_asks : old.stage ≡ AsksEnable m.row.number
    is_asks = a.is ∙ ap (λ x. AsksEnable x) number

    asked : IsAsked v.sessions (AsksEnable m.row.number)
    asked = subst (λ s. IsAsked v.sessions s) is_asks old.asked

    named : (e : ℕ) × (row.session.epoch ≡ Some e)
    named = (asked.1, subst (λ (x : Session A). x.epoch ≡ Some asked.1) (some_one (v.sessions m.row.number) asked.0 row.session asked.2 row.is) asked.3)

    client : m.conn.client ≡ InEnable
    client = old.at.client ∙ ap client_of is_asks

    nothing_down : down_whole m.conn.wires ≡ []
    nothing_down = old.at.down ∙ ap (λ x. down_of x ++ tail_of m.conn.ending) is_asks ∙ ap tail_of stands

    empty_down : down_words m.conn.wires ≡ []
    empty_down = down_none m.conn.wires nothing_down

    bare : IsBare m.rest
    bare = bare_left m.conn.footed m.rest m.conn.wires (sym a.left)

    at : IsAt (Enables m.row.number []) this
    at = record {
      client = client;
      phase = old.at.phase ∙ ap phase_of is_asks;
      up = send_down_whole_up (Enabled m.row.number ∷ []) (left_up m.rest m.conn.wires) ∙ sym a.left;
      down = send_down_whole (Enabled m.row.number ∷ []) (left_up m.rest m.conn.wires) ∙ ap (λ l. l ++ Enabled m.row.number ∷ []) (left_up_whole_down m.rest m.conn.wires ∙ nothing_down) ∙ ap (λ x. Enabled m.row.number ∷ tail_of x) (sym stands);
    }

    carries_this : carries this ≡ Some m.row.number
    carries_this = carries_at (Enables m.row.number []) this at

    silent : (q : ℕ) → carries m.conn ≡ Some q → ⊥
    silent q e = no_entry q (sym (carries_at (AsksEnable m.row.number) m.conn (subst (λ s. IsAt s m.conn) is_asks old.at)) ∙ e)

    never : (q : ℕ) → m.row.number ≡ q → IsCarried v q → ⊥
    never q same (n, d, here, found, carried) =
        let g = kept.goes_down n d q here found carried in
        let one : row.session ≡ g.0 = some_one (v.sessions q) row.session g.0 (subst (λ x. v.sessions x ≡ Some row.session) same row.is) g.1 in
        not_true uncounted (ap (λ (x : Session A). x.counted) one ∙ g.2.counted)

    up_words_this : up_words (send_down (Enabled m.row.number ∷ []) (left_up m.rest m.conn.wires)) ≡ m.rest
    up_words_this = up_words_down (Enabled m.row.number ∷ []) m.rest m.conn.wires

    goes_up : GoesUp this (f m.row.number row.session)
    goes_up = record {
      way = ap (λ (d : Direction A). d.way) begun.0 ∙ sym (ap up_stanzas up_words_this ∙ bare_stanzas m.rest bare);
      is_open = rw same_number (sym (and-true (is_flowing m.conn.wires)) ∙ ap (λ b. b && sends InEnable) (sym (flow_down (Enabled m.row.number ∷ []) m.rest m.conn.wires)) ∙ ap (λ x. is_flowing (send_down (Enabled m.row.number ∷ []) (left_up m.rest m.conn.wires)) && sends x) (sym client));
      counts = subst (λ ws. UpCounts row.session.down.acked row.session.down.stated ws) (sym up_words_this) (bare_counts row.session.down.acked row.session.down.stated m.rest bare);
    }

    goes_down : GoesDown this (f m.row.number row.session)
    goes_down = record {
      counted = rw same_number refl;
      way = ap (λ (d : Direction A). d.way) begun.1 ∙ sym (enabled_down m.row.number m.rest m.conn.wires empty_down);
      is_open = rw same_number (sym (flow_down (Enabled m.row.number ∷ []) m.rest m.conn.wires));
      counts = enabled_counts row.session.up.acked m.row.number row.session.up.stated m.rest m.conn.wires empty_down;
    }

    row_kept : RowAfter k this v f new
    row_kept = record {
      session = f m.row.number row.session;
      is = altered f v.sessions m.row.number row.session row.is;
      counted = rw same_number refl;
      handled = row.handled;
      acked = row.acked;
      queue = row.queue;
      placed = subst (λ o. IsPlaced (with_at k this v.conns) new (f m.row.number row.session) o) (sym m.on) (this, at_same k this v.conns, held, λ e. goes_up);
    }

    fits : FitsOwn v.own v.epoch v.sessions (AsksEnable m.row.number) → FitsOwn v.own v.epoch (alter f v.sessions) (Enables m.row.number [])
    fits (none, b) =
        let one : row.session ≡ b.0 = some_one (v.sessions m.row.number) row.session b.0 row.is b.1 in
        (none, (f m.row.number b.0, altered f v.sessions m.row.number b.0 b.1, b.2, rw same_number refl, unread (cases_Bool b.0.read) one))
      where
        unread : (b.0.read ≡ true) ⊎ (b.0.read ≡ false) → row.session ≡ b.0 → b.0.read ≡ false
        unread (inr e) one = e
        unread (inl e) one = absurd (not_true uncounted (ap (λ (x : Session A). x.counted) one ∙ (kept.sessions m.row.number b.0 b.1).read e))

    conn : (n : ℕ) (d : Conn A) → Entry k this v.conns n d → ConnKept (record v { conns = with_at k this v.conns; row = Some new; sessions = alter f v.sessions }) n d
    conn n d (New same is) =
        let here : ConnKept (record v { conns = with_at k this v.conns; row = Some new; sessions = alter f v.sessions }) k this = record {
          piped = piped_up (has v.here k) m.conn Enable m.rest m.conn.phase (Enabled m.row.number ∷ []) m.first old.piped;
          stage = Enables m.row.number [];
          at = at;
          asked = tt;
          fits = λ e. fits (subst (λ s. FitsOwn v.own v.epoch v.sessions s) is_asks (old.fits e));
          attached = attached_after v m.row new m.is_row refl refl k m.conn old.attached;
          uncounted = λ r g on e. absurd (not_true refl e);
          counting = λ r g on p e. subst (λ (x : Row A). x.counted ≡ true) (some_same new r g) refl;
        } in
        subst (λ x. ConnKept (record v { conns = with_at k this v.conns; row = Some new; sessions = alter f v.sessions }) x d) same (subst (λ x. ConnKept (record v { conns = with_at k this v.conns; row = Some new; sessions = alter f v.sessions }) k x) is here)
    conn n d (Old ne there) =
        let before = kept.conns n d there in
        record {
          piped = before.piped;
          stage = before.stage;
          at = before.at;
          asked = enabled_asked m.row.number (is_flowing m.conn.wires) v.sessions before.stage before.asked;
          fits = λ e. enabled_fits v.own v.epoch m.row.number (is_flowing m.conn.wires) v.sessions before.stage
              (λ t is none. no_entry named.0 (sym none ∙ subst (λ (x : Session A). x.epoch ≡ Some named.0) (some_one (v.sessions m.row.number) row.session t row.is is) named.1)) (before.fits e);
          attached = attached_after v m.row new m.is_row refl refl n d before.attached;
          uncounted = λ r g on e. on_other k n new r g m.on ne on;
          counting = λ r g on p e. on_other k n new r g m.on ne on;
        }

    down : GoesDownAfter k this v f
    down n d q here carried (New same is) =
        let e : Some m.row.number ≡ Some q = sym carries_this ∙ subst (λ x. carries x ≡ Some q) (sym is) carried in
        let after : (t : Session A) × (alter f v.sessions m.row.number ≡ Some t) × GoesDown d t = (f m.row.number row.session, altered f v.sessions m.row.number row.session row.is, subst (λ x. GoesDown x (f m.row.number row.session)) is goes_down) in
        subst (λ x. (t : Session A) × (alter f v.sessions x ≡ Some t) × GoesDown d t) (some_same m.row.number q e) after
    down n d q here carried (Old ne there) =
        let before = kept.goes_down n d q here there carried in
        let apart : m.row.number ≢ q = λ e. never q e (n, d, here, there, carried) in
        (f q before.0, altered f v.sessions q before.0 before.1, subst (λ x. GoesDown d x) (sym (enabled_other m.row.number (is_flowing m.conn.wires) q before.0 apart)) before.2)

    idle_up : (q : ℕ) (t : Session A) → (s : Session A) × (v.sessions q ≡ Some s) × (f q s ≡ t) → t.counted ≡ true → (m.row.number ≡ q) ⊎ (m.row.number ≡ q → ⊥) → IsIdle t.up ⊎ ((r : Row A) × (Some new ≡ Some r) × (r.number ≡ q))
    idle_up q t w yes_counted (inl same) = inr (new, refl, same)
    idle_up q t w yes_counted (inr ne) =
        let stays : w.0 ≡ t = sym (enabled_other m.row.number (is_flowing m.conn.wires) q w.0 ne) ∙ w.2 in
        elim (kept.idle_up q w.0 w.1 (ap (λ (x : Session A). x.counted) stays ∙ yes_counted)) [
          | inl still ↦ inl (subst (λ (x : Session A). IsIdle x.up) stays still)
          | inr x ↦ absurd (ne (ap (λ (r : Row A). r.number) (some_one v.row m.row x.0 m.is_row x.1) ∙ x.2))
        ]

    idle_down : (q : ℕ) (t : Session A) → (s : Session A) × (v.sessions q ≡ Some s) × (f q s ≡ t) → t.counted ≡ true → (m.row.number ≡ q) ⊎ (m.row.number ≡ q → ⊥) →
        IsIdle t.down ⊎ IsCarried (record v { conns = with_at k this v.conns; row = Some new; sessions = alter f v.sessions }) q
    idle_down q t w yes_counted (inl same) = elim (cases_Bool (has v.here k)) [
      | inl e ↦ inr (k, this, has_is v.here k e, at_same k this v.conns, carries_this ∙ ap Some same)
      | inr e ↦
          let dead : is_flowing m.conn.wires ≡ false = stopped_away (has v.here k) m.conn old.piped e in
          let quiet : IsIdle (f m.row.number row.session).down = record { way = ap (λ (d : Direction A). d.way) begun.1; is_open = rw same_number dead } in
          let one : f m.row.number row.session ≡ t = ap (f m.row.number) (some_one (v.sessions q) row.session w.0 (subst (λ x. v.sessions x ≡ Some row.session) same row.is) w.1) ∙ ap (λ (n : ℕ). f n w.0) same ∙ w.2 in
          inl (subst (λ (x : Session A). IsIdle x.down) one quiet)
    ]
    idle_down q t w yes_counted (inr ne) =
        let stays : w.0 ≡ t = sym (enabled_other m.row.number (is_flowing m.conn.wires) q w.0 ne) ∙ w.2 in
        elim (kept.idle_down q w.0 w.1 (ap (λ (x : Session A). x.counted) stays ∙ yes_counted)) [
          | inl still ↦ inl (subst (λ (x : Session A). IsIdle x.down) stays still)
          | inr x ↦ inr (carried_on q x)
        ]
      where
        carried_on : (q : ℕ) → IsCarried v q → IsCarried (record v { conns = with_at k this v.conns; row = Some new; sessions = alter f v.sessions }) q
        carried_on q (n, d, here, found, carried) = by (cases_eq k n)
          where
            by : (k ≡ n) ⊎ (k ≡ n → ⊥) → IsCarried (record v { conns = with_at k this v.conns; row = Some new; sessions = alter f v.sessions }) q
            by (inl same) =
                let one : d ≡ m.conn = some_one (v.conns k) d m.conn (subst (λ x. v.conns x ≡ Some d) (sym same) found) m.is in
                absurd (silent q (subst (λ x. carries x ≡ Some q) one carried))
            by (inr apart) = (n, d, here, at_other k this v.conns n apart ∙ found, carried)

    late : (n : ℕ) (d : Conn A) (q : ℕ) → has v.here n ≡ false → session_on d ≡ Some q → IsCarried (record v { conns = with_at k this v.conns; row = Some new; sessions = alter f v.sessions }) q → Entry k this v.conns n d → ⊥
    late n d q away on (j, c, here, found, carried) (New same is) =
        let mine_too : m.row.number ≡ q = some_same m.row.number q (sym held ∙ subst (λ x. session_on x ≡ Some q) (sym is) on) in
        by (entry k this v.conns j c found)
      where
        by : Entry k this v.conns j c → ⊥
        by (New one other) = not_true away (subst (λ x. has v.here x ≡ true) (sym one ∙ same) (is_has v.here j here))
        by (Old ne there) = never q (some_same m.row.number q (sym held ∙ subst (λ x. session_on x ≡ Some q) (sym is) on)) (j, c, here, there, carried)
    late n d q away on carried (Old ne there) =
        let b = (kept.conns n d there).attached q on in
        let both : m.row.on ≡ Some n = subst (λ (x : Row A). x.on ≡ Some n) (some_one v.row b.0 m.row b.1 m.is_row) b.3 in
        ne (some_same k n (sym m.on ∙ both))
