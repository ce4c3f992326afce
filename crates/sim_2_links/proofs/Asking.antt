-- The client asks for a session, or for its own one again.
use Rattle.std.proofs.Common.{◌≡◌, ℕ, true, false, List, [], ◌∷◌, ◌++◌, length, refl, sym, ap, ◌∙◌, subst, inl, inr, Option, None, Some}
use Rattle.std.specs.List.{Contains}
use Rattle.sim_2_links.proofs.Entries.{same_number, Entry, New, Old, entry, was, altered, has_is, is_has}
use Rattle.sim_2_links.proofs.Tables.{left_down_whole, NextDown}
use Rattle.std.proofs.lemmas.List.Elements.{Contains-push}
use Rattle.sim_2_links.proofs.CutLinks.{some_one, there_cut, not_true}
use Rattle.sim_2_links.proofs.Hands.{no_entry, piped_down, at_down, row_other, plain_on, plain_carries}
use Rattle.sim_2_links.proofs.Heard.{told_kept, told_contains, told_goes, same_session}
use Rattle.sim_2_links.proofs.Detached.{IsStill, still_asked, still_fits, carries_at}
use Rattle.sim_2_links.proofs.StepParts.{StaysPlaced, none_carried}
use Rattle.sim_2_links.specs.Words.{UpWord, ResumeAt, Bind, DownWord, Feat, Failed, Client, InFeatures2, InResume, InBind, Ready}
use Rattle.sim_2_links.specs.Wires.{down_words, down_whole, send_up, left_down}
use Rattle.sim_2_links.specs.Stages.{Stage, Reoffered, AsksResume, Refused, Resumes, AsksBind, client_of, phase_of, up_of, down_of, Ending, Stands, Errs, Closes, tail_of, Conn, IsAt, IsPlain, IsEarly}
use Rattle.sim_2_links.specs.Views.{with_at, alter, has, Session, Own, View, on_phase, session_on, carries}
use Rattle.sim_2_links.specs.LinkMoves.{told_if}
use Rattle.sim_2_links.specs.SessionMoves.{IsAskResume, IsAskBind, IsRefused}
use Rattle.sim_2_links.specs.Links.{carried_of, ArePiped, IsAsked, FitsOwn, is_yet, ConnKept, IsIdle, OwnKept, SessionKept, IsCarried, LinkKept}

-- the client states its count, and nothing else changes

pub told_keeps : {A : Type 0} (v : View A) (p : ℕ) (s : Session A) → v.sessions p ≡ Some s → s.counted ≡ true → LinkKept v → LinkKept (record v { sessions = alter (λ q t. told_if (has (Some p) q) t) v.sessions })
told_keeps {A = A} v p s is counted kept = record {
  there = kept.there;
  conns = λ n d found. let before = kept.conns n d found in record {
    piped = before.piped;
    stage = before.stage;
    at = before.at;
    asked = still_asked f v.sessions before.stage gentle before.asked;
    fits = λ e. still_fits v.own v.epoch f v.sessions before.stage gentle (before.fits e);
    attached = before.attached;
    uncounted = before.uncounted;
    counting = before.counting;
  };
  row = λ r found. let before = kept.row r found in record {
    session = f r.number before.session;
    is = altered f v.sessions r.number before.session before.is;
    counted = before.counted;
    handled = before.handled;
    acked = before.acked;
    queue = before.queue;
    placed = placed r before.session r.on before.placed;
  };
  own = λ o found. let before = kept.own o found in record {
    session = f o.number before.session;
    is = altered f v.sessions o.number before.session before.is;
    read = before.read;
    of_epoch = before.of_epoch;
    handled = before.handled;
    acked = before.acked;
    queue = before.queue;
  };
  sessions = λ q t found. let w = was f v.sessions q t found in subst SessionKept w.2 (told_kept (has (Some p) q) w.0 (λ e. subst (λ (x : Session A). x.counted ≡ true) (same_session v p q s w.0 is e w.1) counted) (kept.sessions q w.0 w.1));
  goes_down = λ n d q here found carried. let before = kept.goes_down n d q here found carried in
      (f q before.0, altered f v.sessions q before.0 before.1, record { counted = before.2.counted; way = before.2.way; is_open = before.2.is_open; counts = before.2.counts });
  idle_up = λ q t found yes_counted.
      let w = was f v.sessions q t found in
      elim (kept.idle_up q w.0 w.1 (ap (λ (x : Session A). x.counted) w.2 ∙ yes_counted)) [ inl quiet ↦ inl (subst (λ (x : Session A). IsIdle x.up) w.2 (record { way = quiet.way; is_open = quiet.is_open })) | inr x ↦ inr x ];
  idle_down = λ q t found yes_counted.
      let w = was f v.sessions q t found in
      elim (kept.idle_down q w.0 w.1 (ap (λ (x : Session A). x.counted) w.2 ∙ yes_counted)) [ inl quiet ↦ inl (subst (λ (x : Session A). IsIdle x.down) w.2 (record { way = quiet.way; is_open = quiet.is_open })) | inr x ↦ inr x ];
  late = kept.late;
}
  where
    f : ℕ → Session A → Session A
    f = λ q t. told_if (has (Some p) q) t

    gentle : IsStill {A = A} (λ q t. told_if (has (Some p) q) t)
    gentle = record { counted = λ q t. refl; epoch = λ q t. refl; read = λ q t. refl; told = λ q t h c. told_contains (has (Some p) q) t h c; got = λ q t. refl; stated = λ q t h c. c }

    placed : StaysPlaced v f
    placed r t None a = a
    placed r t (Some n) (d, found, held, goes) = (d, found, held, λ e. told_goes (has (Some p) r.number) d t (goes e))

-- a connection that has and carries no session comes to another row of this kind

pub unheld_keeps : {A : Type 0} (v : View A) (k : ℕ) (old new : Conn A) (s : Stage A) (own : Option (Own A)) → v.here ≡ Some k → v.conns k ≡ Some old → session_on old ≡ None → carries old ≡ None →
    IsAt s new → session_on new ≡ None → carried_of s ≡ None → is_yet s ≡ false → ArePiped true new → IsAsked v.sessions s → FitsOwn own v.epoch v.sessions s → ((o : Own A) → own ≡ Some o → OwnKept v.epoch v.sessions o) →
    LinkKept v → LinkKept (record v { conns = with_at k new v.conns; own = own })
unheld_keeps {A = A} v k old new s own here is off bare at off' bare' yet piped asked fits own_kept kept = record {
  there = λ n e. there_cut v kept k new n e;
  conns = λ n c found. conn n c (entry k new v.conns n c found);
  row = λ r row. row_other k new v.conns v.sessions r (λ d found e. no_entry r.number (sym off ∙ subst (λ x. session_on x ≡ Some r.number) (some_one (v.conns k) d old found is) e)) (kept.row r row);
  own = own_kept;
  sessions = kept.sessions;
  goes_down = λ n c p e found carried. absurd (silent n c p e carried (entry k new v.conns n c found));
  idle_up = kept.idle_up;
  idle_down = λ p t found counted. elim (kept.idle_down p t found counted) [ inl q ↦ inl q | inr c ↦ absurd (none_carried v k old here is (λ q e. no_entry q (sym bare ∙ e)) p c) ];
  late = λ n c p found away on carried. absurd (after p carried);
}
  where
    works : has v.here k ≡ true
    works = is_has v.here k here

    silent : (n : ℕ) (c : Conn A) (p : ℕ) → v.here ≡ Some n → carries c ≡ Some p → Entry k new v.conns n c → ⊥
    silent n c p e carried (New one this) = no_entry p (sym (carries_at s new at ∙ bare') ∙ subst (λ x. carries x ≡ Some p) (sym this) carried)
    silent n c p e carried (Old ne there) = ne (some_one v.here k n here e)

    after : (p : ℕ) → IsCarried (record v { conns = with_at k new v.conns; own = own }) p → ⊥
    after p (n, c, e, found, carried) = silent n c p e carried (entry k new v.conns n c found)

    conn : (n : ℕ) (c : Conn A) → Entry k new v.conns n c → ConnKept (record v { conns = with_at k new v.conns; own = own }) n c
    conn n c (New one this) =
        let now : ConnKept (record v { conns = with_at k new v.conns; own = own }) k new = record {
          piped = subst (λ b. ArePiped b new) (sym works) piped;
          stage = s;
          at = at;
          asked = asked;
          fits = λ e. fits;
          attached = λ p e. no_entry p (sym off' ∙ e);
          uncounted = λ r f on e. absurd (not_true yet e);
          counting = λ r f on p e. no_entry p (sym bare' ∙ e);
        } in
        subst (λ x. ConnKept (record v { conns = with_at k new v.conns; own = own }) x c) one (subst (λ x. ConnKept (record v { conns = with_at k new v.conns; own = own }) k x) this now)
    conn n c (Old ne there) =
        let was_kept = kept.conns n c there in
        record { piped = was_kept.piped; stage = was_kept.stage; at = was_kept.at; asked = was_kept.asked; fits = λ e. absurd (ne (some_one v.here k n here (has_is v.here n e))); attached = was_kept.attached; uncounted = was_kept.uncounted; counting = was_kept.counting }

-- the row of a client that has the features, and of one that asked for its session and was refused

pub at_features : {A : Type 0} (s : Stage A) → client_of s ≡ InFeatures2 → s ≡ Reoffered
at_features Reoffered e = refl
at_features (AsksResume p h) e = absurd (let no_way : ⊥ = cc in no_way)
at_features (Refused p) e = absurd (let no_way : ⊥ = cc in no_way)
at_features (Resumes p h downs) e = absurd (let no_way : ⊥ = cc in no_way)
at_features _ e = absurd (let no_way : ⊥ = cc in no_way)

no_tail : {A C : Type 0} (end : Ending) (rest : List (DownWord A)) → tail_of end ≡ Failed ∷ rest → C
no_tail Stands rest e = absurd (let no_way : ⊥ = cc in no_way)
no_tail (Errs x) rest e = absurd (let no_way : ⊥ = cc in no_way)
no_tail Closes rest e = absurd (let no_way : ⊥ = cc in no_way)

pub at_refused : {A : Type 0} (s : Stage A) (end : Ending) (p : ℕ) (rest : List (DownWord A)) → client_of s ≡ InResume p → down_of s ++ tail_of end ≡ Failed ∷ rest → s ≡ Refused p
at_refused (Refused q) end p rest e f = let one : q ≡ p = cc in ap (λ x. Refused x) one
at_refused (AsksResume q h) end p rest e f = no_tail end rest f
at_refused (Resumes q h downs) end p rest e f = absurd (let no_way : ⊥ = cc in no_way)
at_refused _ end p rest e f = absurd (let no_way : ⊥ = cc in no_way)

pub off_ready : {A : Type 0} (c : Conn A) → c.phase ≡ Ready → session_on c ≡ None
off_ready c e = ap (λ x. on_phase x c.ending c.gone) e

-- one word down, and these up
abbrev pub steps : {A : Type 0} → Conn A → Client → List (UpWord A) → List (DownWord A) → Conn A
steps c client puts rest = record c { client = client; wires = send_up puts (left_down rest c.wires) }

pub steps_at : {A : Type 0} (s s' : Stage A) (c : Conn A) (w : DownWord A) (rest : List (DownWord A)) (client : Client) (puts : List (UpWord A)) → IsAt s c → c.footed ≡ false → down_words c.wires ≡ w ∷ rest →
    client_of s' ≡ client → phase_of s' ≡ phase_of s → up_of s' ≡ up_of s ++ puts → down_of s ++ tail_of c.ending ≡ w ∷ (down_of s' ++ tail_of c.ending) → (IsEarly (client_of s) → IsPlain s') → IsAt s' (steps c client puts rest)
steps_at {A = A} s s' c w rest client puts at unfooted first state phase up down plain =
    let split : down_of s ++ tail_of c.ending ≡ w ∷ down_whole (left_down rest c.wires) = sym at.down ∙ left_down_whole w rest c.wires first in
    let left : down_of s' ++ tail_of c.ending ≡ down_whole (left_down rest c.wires) = cc in
    let next : NextDown s (tail_of c.ending) client puts (down_whole (left_down rest c.wires)) = record { row = s'; state = state; phase = phase; up = up; down = left; plain = plain } in
    at_down s c w rest client puts at unfooted first next

pub ask_bind_keeps : {A : Type 0} (k : ℕ) (v next : View A) → IsAskBind k v next → LinkKept v → LinkKept next
ask_bind_keeps {A = A} k v next m kept =
    let old = kept.conns k m.conn m.is in
    let works : has v.here k ≡ true = is_has v.here k m.here in
    let s : old.stage ≡ Reoffered = at_features old.stage (sym old.at.client ∙ m.client) in
    let at : IsAt Reoffered m.conn = subst (λ x. IsAt x m.conn) s old.at in
    let at' : IsAt AsksBind (steps m.conn InBind (Bind ∷ []) m.rest) = steps_at Reoffered AsksBind m.conn Feat m.rest InBind (Bind ∷ []) at (old.piped.unfooted works) m.first refl refl refl refl (λ e. absurd e) in
    subst LinkKept (sym m.gives) (unheld_keeps v k m.conn (steps m.conn InBind (Bind ∷ []) m.rest) AsksBind v.own m.here m.is (plain_on Reoffered m.conn at tt) (plain_carries Reoffered m.conn at tt) at' (off_ready (steps m.conn InBind (Bind ∷ []) m.rest) at.phase) refl refl
    (piped_down m.conn m.rest InBind (Bind ∷ []) (subst (λ b. ArePiped b m.conn) works old.piped)) tt m.none kept.own kept)

pub refused_keeps : {A : Type 0} (k : ℕ) (v next : View A) → IsRefused k v next → LinkKept v → LinkKept next
refused_keeps {A = A} k v next m kept =
    let old = kept.conns k m.conn m.is in
    let works : has v.here k ≡ true = is_has v.here k m.here in
    let s : old.stage ≡ Refused m.p = at_refused old.stage m.conn.ending m.p (down_whole (left_down m.rest m.conn.wires)) (sym old.at.client ∙ m.client) (sym old.at.down ∙ left_down_whole Failed m.rest m.conn.wires m.first) in
    let at : IsAt (Refused m.p) m.conn = subst (λ x. IsAt x m.conn) s old.at in
    let at' : IsAt AsksBind (steps m.conn InBind (Bind ∷ []) m.rest) = steps_at (Refused m.p) AsksBind m.conn Failed m.rest InBind (Bind ∷ []) at (old.piped.unfooted works) m.first refl refl refl refl (λ e. absurd e) in
    subst LinkKept (sym m.gives) (unheld_keeps v k m.conn (steps m.conn InBind (Bind ∷ []) m.rest) AsksBind None m.here m.is (off_ready m.conn at.phase) (carries_at (Refused m.p) m.conn at) at' (off_ready (steps m.conn InBind (Bind ∷ []) m.rest) at.phase) refl refl
    (piped_down m.conn m.rest InBind (Bind ∷ []) (subst (λ b. ArePiped b m.conn) works old.piped)) tt refl (λ o e. no_entry o e) kept)

pub ask_resume_keeps : {A : Type 0} (k : ℕ) (v next : View A) → IsAskResume k v next → LinkKept v → LinkKept next
ask_resume_keeps {A = A} k v next m kept =
    let own = kept.own m.own m.is_own in
    let told : LinkKept (record v { sessions = alter f v.sessions }) = told_keeps v m.own.number own.session own.is ((kept.sessions m.own.number own.session own.is).read own.read) kept in
    let old = told.conns k m.conn m.is in
    let works : has v.here k ≡ true = is_has v.here k m.here in
    let s : old.stage ≡ Reoffered = at_features old.stage (sym old.at.client ∙ m.client) in
    let at : IsAt Reoffered m.conn = subst (λ x. IsAt x m.conn) s old.at in
    let new : Conn A = steps m.conn (InResume m.own.number) (ResumeAt m.own.number m.own.handled ∷ []) m.rest in
    let at' : IsAt (AsksResume m.own.number m.own.handled) (steps m.conn (InResume m.own.number) (ResumeAt m.own.number m.own.handled ∷ []) m.rest) =
    steps_at Reoffered (AsksResume m.own.number m.own.handled) m.conn Feat m.rest (InResume m.own.number) (ResumeAt m.own.number m.own.handled ∷ []) at (old.piped.unfooted works) m.first refl refl refl refl (λ e. absurd e)
    in
    let now : Contains (told_if (has (Some m.own.number) m.own.number) own.session).down.stated m.own.handled =
    rw same_number (subst (λ (n : ℕ). Contains (own.session.down.stated ++ length own.session.down.got ∷ []) n) (sym own.handled) (Contains-push own.session.down.stated (length own.session.down.got)))
    in
    subst LinkKept (sym m.gives) (unheld_keeps (record v { sessions = alter f v.sessions }) k m.conn (steps m.conn (InResume m.own.number) (ResumeAt m.own.number m.own.handled ∷ []) m.rest) (AsksResume m.own.number m.own.handled) v.own m.here m.is
    (plain_on Reoffered m.conn at tt) (plain_carries Reoffered m.conn at tt) at' (off_ready (steps m.conn (InResume m.own.number) (ResumeAt m.own.number m.own.handled ∷ []) m.rest) at.phase) refl refl
    (piped_down m.conn m.rest (InResume m.own.number) (ResumeAt m.own.number m.own.handled ∷ []) (subst (λ b. ArePiped b m.conn) works old.piped))
    (f m.own.number own.session, altered f v.sessions m.own.number own.session own.is, own.read, now) (m.own, m.is_own, refl, refl) told.own told)
  where
    f : ℕ → Session A → Session A
    f = λ q t. told_if (has (Some m.own.number) q) t
