-- What the client puts without a connection, and its requests.
use Rattle.std.proofs.Common.{◌≡◌, ℕ, Bool, true, false, ◌&&◌, List, [], ◌∷◌, ◌++◌, refl, sym, ap, ◌∙◌, subst, ◌⊎◌, inl, inr, Option, None, Some}
use Rattle.std.proofs.lemmas.Bool.{cases_Bool}
use Rattle.std.proofs.lemmas.List.{append-nil, drop-append-le}
use Rattle.sim_2_links.proofs.Entries.{same_number, was, altered, has_is}
use Rattle.sim_2_links.proofs.CutLinks.{some_one}
use Rattle.sim_2_links.proofs.Counting.{up_counts_with, up_stanzas_with}
use Rattle.sim_2_links.proofs.Hands.{no_entry}
use Rattle.sim_2_links.proofs.Heard.{answered, heard_keeps, same_session}
use Rattle.sim_2_links.proofs.Puts.{putting, put_kept, put_quiet, same_wires}
use Rattle.sim_2_links.proofs.Putting.{unchanged, within}
use Rattle.sim_2_links.proofs.Detached.{IsStill, still_asked, still_fits}
use Rattle.sim_2_links.proofs.StepParts.{StaysPlaced, OwnAfter}
use Rattle.sim_2_links.specs.Words.{Req, up_stanzas, down_stanzas, Up}
use Rattle.sim_2_links.specs.Wires.{Wires, Flow, Stop, is_flowing, up_words, down_words, down_whole, send_up, left_down}
use Rattle.sim_2_links.specs.Stages.{Stage, Greets, Greeted, Offered, Proves, Challenged, Answers, Succeeded, Regreets, Regreeted, Reoffered, AsksResume, Refused, Resumes, AsksBind, Binds, AsksEnable, Enables, Runs, client_of, Conn}
use Rattle.sim_2_links.specs.Views.{Table, with_at, alter, has, Session, Row, Own, View, sends}
use Rattle.sim_2_links.specs.PutMoves.{is_online, IsClientQueued, IsClientRequest}
use Rattle.sim_2_links.specs.Links.{UpCounts, DownCounts, FitsOwn, GoesUp, IsIdle, RowKept, OwnKept, SessionKept, LinkKept}

-- a client with a session that is not online sends nothing
sends_nothing : {A : Type 0} (own : Option (Own A)) (epoch : ℕ) (sessions : Table (Session A)) (o : Own A) (s : Stage A) → own ≡ Some o → FitsOwn own epoch sessions s → is_online (client_of s) ≡ false → sends (client_of s) ≡ false
sends_nothing own epoch sessions o (AsksEnable m) is (none, b) away = no_entry o (sym none ∙ is)
sends_nothing own epoch sessions o (Enables m downs) is (none, b) away = no_entry o (sym none ∙ is)
sends_nothing own epoch sessions o (Runs p ups downs) is fits away = away
sends_nothing own epoch sessions o (AsksResume p h) is fits away = refl
sends_nothing own epoch sessions o (Refused p) is fits away = refl
sends_nothing own epoch sessions o (Resumes p h downs) is fits away = refl
sends_nothing own epoch sessions o (Binds m) is fits away = refl
sends_nothing own epoch sessions o _ is fits away = refl

putting_still : {A : Type 0} (p : ℕ) (z : A) → IsStill {A = A} (λ q s. putting (has (Some p) q) z s)
putting_still p z = record { counted = λ q s. refl; epoch = λ q s. refl; read = λ q s. refl; told = λ q s h c. c; got = λ q s. refl; stated = λ q s h c. c }

pub client_queued_keeps : {A : Type 0} (z : A) (v next : View A) → IsClientQueued z v next → LinkKept v → LinkKept next
client_queued_keeps {A = A} z v next m kept = subst LinkKept (sym m.gives) (record {
  there = kept.there;
  conns = λ n d found. let before = kept.conns n d found in record {
    piped = before.piped;
    stage = before.stage;
    at = before.at;
    asked = still_asked f v.sessions before.stage (putting_still p z) before.asked;
    fits = λ e. moved before.stage (before.fits e);
    attached = before.attached;
    uncounted = before.uncounted;
    counting = before.counting;
  };
  row = λ r found. row r found (kept.row r found);
  own = λ o e. subst (λ x. OwnKept v.epoch (alter f v.sessions) x) (let out : new ≡ o = cc in out) own_kept;
  sessions = λ q s found. let w = was f v.sessions q s found in subst SessionKept w.2 (put_kept (has (Some p) q) z w.0
      (λ e. let one = same_session v p q own.session w.0 own.is e w.1 in (sym (ap (λ (x : Session A). x.counted) one) ∙ (kept.sessions p own.session own.is).read own.read, sym (ap (λ (x : Session A). x.read) one) ∙ own.read))
      (kept.sessions q w.0 w.1));
  goes_down = λ n d q here found carried. let before = kept.goes_down n d q here found carried in
      (f q before.0, altered f v.sessions q before.0 before.1, record { counted = before.2.counted; way = before.2.way; is_open = before.2.is_open; counts = before.2.counts });
  idle_up = λ q s found counted.
      let w = was f v.sessions q s found in
      let before : w.0.counted ≡ true = ap (λ (x : Session A). x.counted) w.2 ∙ counted in
      elim (kept.idle_up q w.0 w.1 before) [
        | inl quiet ↦ inl (subst (λ (x : Session A). IsIdle x.up) w.2 (quiet_put (has (Some p) q) w.0 quiet))
        | inr x ↦ inr x
      ];
  idle_down = λ q s found counted.
      let w = was f v.sessions q s found in
      let before : w.0.counted ≡ true = ap (λ (x : Session A). x.counted) w.2 ∙ counted in
      elim (kept.idle_down q w.0 w.1 before) [ inl quiet ↦ inl (subst (λ (x : Session A). IsIdle x.down) w.2 (record { way = quiet.way; is_open = quiet.is_open })) | inr x ↦ inr x ];
  late = kept.late;
})
  where
    p : ℕ
    p = m.own.number

    new : Own A
    new = record m.own { queue = m.own.queue ++ z ∷ [] }

    f : ℕ → Session A → Session A
    f = λ q s. putting (has (Some m.own.number) q) z s

    own : OwnKept v.epoch v.sessions m.own
    own = kept.own m.own m.is_own

    moved : (s : Stage A) → FitsOwn v.own v.epoch v.sessions s → FitsOwn (Some new) v.epoch (alter f v.sessions) s
    moved (AsksResume q h) (o, is, number, handled) =
        let same : o ≡ m.own = some_one v.own o m.own is m.is_own in
        (new, refl, subst (λ (x : Own A). x.number ≡ q) same number, subst (λ (x : Own A). x.handled ≡ h) same handled)
    moved (Refused q) (o, is, number) = (new, refl, subst (λ (x : Own A). x.number ≡ q) (some_one v.own o m.own is m.is_own) number)
    moved (Resumes q h downs) ((o, is, number), said) =
        ((new, refl, subst (λ (x : Own A). x.number ≡ q) (some_one v.own o m.own is m.is_own) number), (still_fits v.own v.epoch f v.sessions (Resumes q h downs) (putting_still p z) ((o, is, number), said)).1)
    moved (Runs q ups downs) (o, is, number) = (new, refl, subst (λ (x : Own A). x.number ≡ q) (some_one v.own o m.own is m.is_own) number)
    moved AsksBind none = no_entry m.own (sym none ∙ m.is_own)
    moved (Binds q) (none, b) = no_entry m.own (sym none ∙ m.is_own)
    moved (AsksEnable q) (none, b) = no_entry m.own (sym none ∙ m.is_own)
    moved (Enables q downs) (none, b) = no_entry m.own (sym none ∙ m.is_own)
    moved Greets a = a
    moved Greeted a = a
    moved Offered a = a
    moved Proves a = a
    moved Challenged a = a
    moved Answers a = a
    moved Succeeded a = a
    moved Regreets a = a
    moved Regreeted a = a
    moved Reoffered a = a

    quiet_put : (b : Bool) (s : Session A) → IsIdle s.up → IsIdle (putting b z s).up
    quiet_put b s quiet = record { way = put_quiet b z s.up quiet.is_open ∙ quiet.way; is_open = quiet.is_open }

    -- its way up is closed, wherever the server has the session
    closed : (n : ℕ) (d : Conn A) → v.conns n ≡ Some d → (s : Session A) → GoesUp d s → s.up.is_open ≡ false
    closed n d found s g = g.is_open ∙ by (cases_Bool (is_flowing d.wires))
      where
        by : (is_flowing d.wires ≡ true) ⊎ (is_flowing d.wires ≡ false) → (is_flowing d.wires && sends d.client) ≡ false
        by (inr e) = ap (λ x. x && sends d.client) e
        by (inl e) =
            let before = kept.conns n d found in
            let works : has v.here n ≡ true = (before.piped.flowing e).0 in
            let away : is_online (client_of before.stage) ≡ false = ap is_online (sym before.at.client) ∙ m.away n d (has_is v.here n works) found in
            let silent : sends d.client ≡ false = ap sends before.at.client ∙ sends_nothing v.own v.epoch v.sessions m.own before.stage m.is_own (before.fits works) away in
            ap (λ x. x && sends d.client) e ∙ silent

    goes_up : (n : ℕ) (d : Conn A) → v.conns n ≡ Some d → (q : ℕ) (s : Session A) → GoesUp d s → GoesUp d (f q s)
    goes_up n d found q s g = record { way = put_quiet (has (Some m.own.number) q) z s.up (closed n d found s g) ∙ g.way; is_open = g.is_open; counts = g.counts }

    placed : StaysPlaced v f
    placed r s None (counted, quiet) = (counted, quiet_put (has (Some m.own.number) r.number) s quiet)
    placed r s (Some n) (d, found, held, goes) = (d, found, held, λ e. goes_up n d found r.number s (goes e))

    row : (r : Row A) → v.row ≡ Some r → RowKept v.conns v.sessions r → RowKept v.conns (alter f v.sessions) r
    row r found before = record {
      session = f r.number before.session;
      is = altered f v.sessions r.number before.session before.is;
      counted = before.counted;
      handled = before.handled;
      acked = before.acked;
      queue = before.queue;
      placed = placed r before.session r.on before.placed;
    }

    own_kept : OwnAfter v f new
    own_kept = record {
      session = f m.own.number own.session;
      is = altered f v.sessions m.own.number own.session own.is;
      read = own.read;
      of_epoch = own.of_epoch;
      handled = own.handled;
      acked = own.acked;
      queue = rw same_number (ap (λ l. l ++ z ∷ []) own.queue ∙ sym (drop-append-le own.session.up.acked own.session.up.put (z ∷ []) (within own.session.up (kept.sessions m.own.number own.session own.is).up)));
    }

-- a request of the client

same_stanzas : {A : Type 0} (x : Wires A) → up_stanzas (up_words (send_up (Up Req ∷ []) (left_down (down_words x) x))) ≡ up_stanzas (up_words x)
same_stanzas (Flow us ds) = up_stanzas_with us (Up Req ∷ []) ∙ append-nil (up_stanzas us)
same_stanzas (Stop us ds lu ld) = refl

same_flow : {A : Type 0} (x : Wires A) → is_flowing (send_up (Up Req ∷ []) (left_down (down_words x) x)) ≡ is_flowing x
same_flow (Flow us ds) = refl
same_flow (Stop us ds lu ld) = refl

same_down : {A : Type 0} (x : Wires A) → down_words (send_up (Up Req ∷ []) (left_down (down_words x) x)) ≡ down_words x
same_down (Flow us ds) = refl
same_down (Stop us ds lu ld) = refl

asked_counts : {A : Type 0} (low : ℕ) (stated : List ℕ) (x : Wires A) → UpCounts low stated (up_words x) → UpCounts low stated (up_words (send_up (Up Req ∷ []) (left_down (down_words x) x)))
asked_counts low stated (Flow us ds) u = up_counts_with low stated us (Up Req) (λ n. tt) u
asked_counts low stated (Stop us ds lu ld) u = u

pub client_request_keeps : {A : Type 0} (k : ℕ) (v next : View A) → IsClientRequest k v next → LinkKept v → LinkKept next
client_request_keeps {A = A} k v next m kept = subst LinkKept (sym m.gives) (subst (λ x. LinkKept (record v { conns = with_at k (record m.conn { wires = send_up (Up Req ∷ []) x }) v.conns })) (same_wires m.conn.wires)
    (subst (λ t. LinkKept (record v { conns = with_at k (answered m.conn (down_words m.conn.wires) (Req ∷ [])) v.conns; sessions = t })) (unchanged v.sessions)
    (subst (λ o. LinkKept (record v { conns = with_at k (answered m.conn (down_words m.conn.wires) (Req ∷ [])) v.conns; own = o; sessions = alter f v.sessions })) (sym m.is_own) (heard_keeps v k m.conn m.own m.own (down_words m.conn.wires) (Req ∷ []) f (record {
      is = m.is;
      here = m.here;
      is_own = m.is_own;
      client = m.client;
      takes = λ downs e. (downs, e ∙ ap down_whole (sym (same_wires m.conn.wires)));
      number = refl;
      relayable = record { counted = λ q s. refl; epoch = λ q s. refl; read = λ q s. refl; stated = λ q s h c. c; got = λ q s. refl; acked = λ q s. refl; put = λ q s. refl; others = λ q s ne. refl };
      sessions = λ q s found. kept.sessions q s found;
      own = (let old = kept.own m.own m.is_own in record { session = old.session; is = altered f v.sessions m.own.number old.session old.is; read = old.read; of_epoch = old.of_epoch; handled = old.handled; acked = old.acked; queue = old.queue });
      up_other = λ q s d dead g. g;
      up_this = λ s found g. record {
        way = g.way ∙ sym (same_stanzas m.conn.wires);
        is_open = g.is_open ∙ ap (λ x. x && sends m.conn.client) (sym (same_flow m.conn.wires));
        counts = asked_counts s.down.acked s.down.stated m.conn.wires g.counts;
      };
      down = λ s found g. record {
        counted = g.counted;
        way = g.way ∙ ap down_stanzas (sym (same_down m.conn.wires));
        is_open = g.is_open ∙ sym (same_flow m.conn.wires);
        counts = subst (λ ws. DownCounts s.up.acked s.up.stated ws) (sym (same_down m.conn.wires)) g.counts;
      };
      idle_up = λ q s quiet. quiet;
    }) kept))))
  where
    f : ℕ → Session A → Session A
    f = λ q s. s
