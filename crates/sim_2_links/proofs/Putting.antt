-- Stanzas and requests that both ends put at any time.
use Rattle.std.proofs.Common.{◌≡◌, ◌≢◌, ℕ, ◌≤◌, Bool, true, false, [], ◌∷◌, ◌++◌, length, refl, sym, ap, ◌∙◌, subst, arith, ◌⊎◌, inl, inr, Option, None, Some, nat_eq}
use Rattle.std.proofs.lemmas.Bool.{cases_Bool}
use Rattle.std.proofs.lemmas.List.{append-nil, drop-append-le, length-append}
use Rattle.sm_acks.specs.Delivery.{Direction, Reached, Put}
use Rattle.sm_acks.proofs.Directions.{kept_reached}
use Rattle.sim_2_links.proofs.Entries.{same_number, other_number, was, altered}
use Rattle.sim_2_links.proofs.DeliveryRuns.{reached_more}
use Rattle.sim_2_links.proofs.CutLinks.{not_true, some_one}
use Rattle.sim_2_links.proofs.Counting.{down_counts_with, down_stanzas_with}
use Rattle.sim_2_links.proofs.Hands.{no_entry}
use Rattle.sim_2_links.proofs.Heard.{same_session}
use Rattle.sim_2_links.proofs.Puts.{put_quiet}
use Rattle.sim_2_links.proofs.Detached.{IsStill, still_asked, still_fits}
use Rattle.sim_2_links.proofs.UncountedEnds.{carried_holds}
use Rattle.sim_2_links.proofs.Serving.{sent_down, sent_keeps}
use Rattle.sim_2_links.proofs.StepParts.{on_none}
use Rattle.sim_2_links.specs.Words.{St, Req, down_stanzas, Down}
use Rattle.sim_2_links.specs.Wires.{Wires, Flow, Stop, is_flowing, down_words, send_down}
use Rattle.sim_2_links.specs.Stages.{Conn}
use Rattle.sim_2_links.specs.Views.{Table, with_at, alter, changed, has, Session, Row, Own, View, carries}
use Rattle.sim_2_links.specs.SessionMoves.{put_if}
use Rattle.sim_2_links.specs.PutMoves.{IsServerPut, IsServerQueued, IsServerRequest}
use Rattle.sim_2_links.specs.Links.{DownCounts, GoesDown, IsIdle, IsPlaced, RowKept, OwnKept, SessionKept, LinkKept}

-- a table in which nothing changes is the same
pub unchanged : {B : Type 0} (t : Table B) → alter (λ q b. b) t ≡ t
unchanged {B = B} t = λ i. λ n. at (t n) i
  where
    at : (o : Option B) → changed (λ b. b) o ≡ o
    at None = refl
    at (Some b) = refl

-- a direction to which a stanza is put

abbrev pub serving : {A : Type 0} → Bool → A → Session A → Session A
serving b z s = record s { down = put_if b z s.down }

serving_still : {A : Type 0} (p : ℕ) (z : A) → IsStill {A = A} (λ q s. serving (has (Some p) q) z s)
serving_still p z = record { counted = λ q s. refl; epoch = λ q s. refl; read = λ q s. refl; told = λ q s h c. c; got = λ q s. refl; stated = λ q s h c. c }

serving_kept : {A : Type 0} (b : Bool) (z : A) (s : Session A) → (b ≡ true → s.counted ≡ true) → SessionKept s → SessionKept (serving b z s)
serving_kept false z s good kept = kept
serving_kept true z s good kept = record {
  up = kept.up;
  down = reached_more (Put z) s.down (put_if true z s.down) kept.down refl;
  begun = λ e. absurd (not_true e (good refl));
  read = kept.read;
  epoch = kept.epoch;
  unread = kept.unread;
  unheard = kept.unheard;
}

pub within : {A : Type 0} (d : Direction A) → Reached d → d.acked ≤ length d.put
within d reached =
    let k = kept_reached d reached in
    let low = k.acked in
    let all = ap length k.front.1 in
    let a = length-append (d.got ++ d.way) k.front.0 in
    let b = length-append d.got d.way in
    omega arith

serving_own : {A : Type 0} (p epoch : ℕ) (z : A) (sessions : Table (Session A)) (o : Own A) → OwnKept epoch sessions o → OwnKept epoch (alter (λ q s. serving (has (Some p) q) z s) sessions) o
serving_own p epoch z sessions o old = record {
  session = serving (has (Some p) o.number) z old.session;
  is = altered (λ q s. serving (has (Some p) q) z s) sessions o.number old.session old.is;
  read = old.read;
  of_epoch = old.of_epoch;
  handled = old.handled;
  acked = old.acked;
  queue = old.queue;
}

serving_quiet : {A : Type 0} (b : Bool) (z : A) (s : Session A) → IsIdle s.down → IsIdle (serving b z s).down
serving_quiet b z s quiet = record { way = put_quiet b z s.down quiet.is_open ∙ quiet.way; is_open = quiet.is_open }

serving_closed : {A : Type 0} (b : Bool) (z : A) (s : Session A) (d : Conn A) → s.down.is_open ≡ false → GoesDown d s → GoesDown d (serving b z s)
serving_closed b z s d closed g = record { counted = g.counted; way = put_quiet b z s.down closed ∙ g.way; is_open = g.is_open; counts = g.counts }

serving_other : {A : Type 0} (p q : ℕ) (z : A) (s : Session A) (d : Conn A) → (s.down.is_open ≡ false) ⊎ (p ≢ q) → GoesDown d s → GoesDown d (serving (has (Some p) q) z s)
serving_other p q z s d (inl closed) g = serving_closed (has (Some p) q) z s d closed g
serving_other {A = A} p q z s d (inr ne) g = none (nat_eq p q) (other_number p q ne)
  where
    none : (b : Bool) → b ≡ false → GoesDown d (serving b z s)
    none b e = subst (λ x. GoesDown d (serving x z s)) (sym e) g

serving_goes : {A : Type 0} (z : A) (c : Conn A) (s : Session A) → GoesDown c s → GoesDown (sent_down c (St z)) (serving true z s)
serving_goes {A = A} z c s g = record { counted = g.counted; way = way c.wires g.way g.is_open; is_open = g.is_open ∙ flow c.wires; counts = counts c.wires g.counts }
  where
    flow : (x : Wires A) → is_flowing x ≡ is_flowing (send_down (Down (St z) ∷ []) x)
    flow (Flow us ds) = refl
    flow (Stop us ds lu ld) = refl

    way : (x : Wires A) → s.down.way ≡ down_stanzas (down_words x) → s.down.is_open ≡ is_flowing x → (put_if true z s.down).way ≡ down_stanzas (down_words (send_down (Down (St z) ∷ []) x))
    way (Flow us ds) e o = rw o (ap (λ l. l ++ z ∷ []) e ∙ sym (down_stanzas_with ds (Down (St z) ∷ [])))
    way (Stop us ds lu ld) e o = rw o e

    counts : (x : Wires A) → DownCounts s.up.acked s.up.stated (down_words x) → DownCounts s.up.acked s.up.stated (down_words (send_down (Down (St z) ∷ []) x))
    counts (Flow us ds) u = down_counts_with s.up.acked s.up.stated ds (Down (St z)) (λ n. tt) u
    counts (Stop us ds lu ld) u = u

pub server_put_keeps : {A : Type 0} (k : ℕ) (z : A) (v next : View A) → IsServerPut k z v next → LinkKept v → LinkKept next
server_put_keeps {A = A} k z v next m kept = subst LinkKept (sym m.gives) (sent_keeps v k m.conn m.row new (St z) f (record {
  is = m.is;
  is_row = m.is_row;
  on = m.on;
  counted = m.counted;
  number = refl;
  new_on = refl;
  new_counted = refl;
  handled = refl;
  still = serving_still m.row.number z;
  sessions = λ q s found. serving_kept (has (Some m.row.number) q) z s (λ e. sym (ap (λ (x : Session A). x.counted) (same_session v m.row.number q row.session s row.is e found)) ∙ sym row.counted ∙ m.counted) (kept.sessions q s found);
  ends = λ s found acked queue. (acked, rw same_number (ap (λ l. l ++ z ∷ []) queue ∙ sym (drop-append-le s.down.acked s.down.put (z ∷ []) (within s.down (kept.sessions m.row.number s found).down))));
  own = λ o old. serving_own m.row.number v.epoch z v.sessions o old;
  up = λ q s d g. record { way = g.way; is_open = g.is_open; counts = g.counts };
  idle_up = λ q s quiet. quiet;
  down_this = λ s found g. rw same_number (serving_goes z m.conn s g);
  down_other = λ q s d closed g. serving_other m.row.number q z s d closed g;
  idle_down = λ q s quiet. serving_quiet (has (Some m.row.number) q) z s quiet;
}) kept)
  where
    new : Row A
    new = record m.row { queue = m.row.queue ++ z ∷ [] }

    f : ℕ → Session A → Session A
    f = λ q s. serving (has (Some m.row.number) q) z s

    row : RowKept v.conns v.sessions m.row
    row = kept.row m.row m.is_row

-- a request

asked_goes : {A : Type 0} (c : Conn A) (s : Session A) → GoesDown c s → GoesDown (sent_down c Req) s
asked_goes {A = A} c s g = record { counted = g.counted; way = g.way ∙ way c.wires; is_open = g.is_open ∙ flow c.wires; counts = counts c.wires g.counts }
  where
    flow : (x : Wires A) → is_flowing x ≡ is_flowing (send_down (Down Req ∷ []) x)
    flow (Flow us ds) = refl
    flow (Stop us ds lu ld) = refl

    way : (x : Wires A) → down_stanzas (down_words x) ≡ down_stanzas (down_words (send_down (Down Req ∷ []) x))
    way (Flow us ds) = sym (down_stanzas_with ds (Down Req ∷ []) ∙ append-nil (down_stanzas ds))
    way (Stop us ds lu ld) = refl

    counts : (x : Wires A) → DownCounts s.up.acked s.up.stated (down_words x) → DownCounts s.up.acked s.up.stated (down_words (send_down (Down Req ∷ []) x))
    counts (Flow us ds) u = down_counts_with s.up.acked s.up.stated ds (Down Req) (λ n. tt) u
    counts (Stop us ds lu ld) u = u

pub server_request_keeps : {A : Type 0} (k : ℕ) (v next : View A) → IsServerRequest k v next → LinkKept v → LinkKept next
server_request_keeps {A = A} k v next m kept = subst LinkKept (sym m.gives) (subst (λ t. LinkKept (record v { conns = with_at k (sent_down m.conn Req) v.conns; sessions = t })) (unchanged v.sessions)
    (subst (λ r. LinkKept (record v { conns = with_at k (sent_down m.conn Req) v.conns; row = r; sessions = alter f v.sessions })) (sym m.is_row) (sent_keeps v k m.conn m.row m.row Req f (record {
      is = m.is;
      is_row = m.is_row;
      on = m.on;
      counted = m.counted;
      number = refl;
      new_on = refl;
      new_counted = refl;
      handled = refl;
      still = record { counted = λ q s. refl; epoch = λ q s. refl; read = λ q s. refl; told = λ q s h c. c; got = λ q s. refl; stated = λ q s h c. c };
      sessions = λ q s found. kept.sessions q s found;
      ends = λ s found acked queue. (acked, queue);
      own = λ o old. record { session = old.session; is = altered f v.sessions o.number old.session old.is; read = old.read; of_epoch = old.of_epoch; handled = old.handled; acked = old.acked; queue = old.queue };
      up = λ q s d g. g;
      idle_up = λ q s quiet. quiet;
      down_this = λ s found g. asked_goes m.conn s g;
      down_other = λ q s d closed g. g;
      idle_down = λ q s quiet. quiet;
    }) kept)))
  where
    f : ℕ → Session A → Session A
    f = λ q s. s

-- a session that is parked

pub server_queued_keeps : {A : Type 0} (z : A) (v next : View A) → IsServerQueued z v next → LinkKept v → LinkKept next
server_queued_keeps {A = A} z v next m kept = subst LinkKept (sym m.gives) (record {
  there = kept.there;
  conns = λ n d found. let before = kept.conns n d found in record {
    piped = before.piped;
    stage = before.stage;
    at = before.at;
    asked = still_asked f v.sessions before.stage (serving_still m.row.number z) before.asked;
    fits = λ e. still_fits v.own v.epoch f v.sessions before.stage (serving_still m.row.number z) (before.fits e);
    attached = λ q e. absurd (on_none v m.row kept m.is_row m.off n d q found e);
    uncounted = λ x g on e. let one : x ≡ new = cc in no_entry n (sym m.off ∙ subst (λ (y : Row A). y.on ≡ Some n) one on);
    counting = λ x g on p e. let one : x ≡ new = cc in no_entry n (sym m.off ∙ subst (λ (y : Row A). y.on ≡ Some n) one on);
  };
  row = λ r e. subst (λ x. RowKept v.conns (alter f v.sessions) x) (let out : new ≡ r = cc in out) row_kept;
  own = λ o found. serving_own m.row.number v.epoch z v.sessions o (kept.own o found);
  sessions = λ q s found. let w = was f v.sessions q s found in subst SessionKept w.2 (serving_kept (has (Some m.row.number) q) z w.0 (λ e. sym (ap (λ (x : Session A). x.counted) (same_session v m.row.number q row.session w.0 row.is e w.1)) ∙ sym row.counted ∙ m.counted) (kept.sessions q w.0 w.1));
  goes_down = λ n d q here found carried.
      let before = kept.goes_down n d q here found carried in
      (f q before.0, altered f v.sessions q before.0 before.1, serving_closed (has (Some m.row.number) q) z before.0 d (before.2.is_open ∙ dead n d q found carried (cases_Bool (is_flowing d.wires))) before.2);
  idle_up = λ q s found counted.
      let w = was f v.sessions q s found in
      let before : w.0.counted ≡ true = ap (λ (x : Session A). x.counted) w.2 ∙ counted in
      elim (kept.idle_up q w.0 w.1 before) [
        | inl quiet ↦ inl (subst (λ (x : Session A). IsIdle x.up) w.2 (record { way = quiet.way; is_open = quiet.is_open }))
        | inr x ↦ inr (new, refl, ap (λ (r : Row A). r.number) (some_one v.row m.row x.0 m.is_row x.1) ∙ x.2)
      ];
  idle_down = λ q s found counted.
      let w = was f v.sessions q s found in
      let before : w.0.counted ≡ true = ap (λ (x : Session A). x.counted) w.2 ∙ counted in
      elim (kept.idle_down q w.0 w.1 before) [ inl quiet ↦ inl (subst (λ (x : Session A). IsIdle x.down) w.2 (serving_quiet (has (Some m.row.number) q) z w.0 quiet)) | inr x ↦ inr x ];
  late = kept.late;
})
  where
    new : Row A
    new = record m.row { queue = m.row.queue ++ z ∷ [] }

    f : ℕ → Session A → Session A
    f = λ q s. serving (has (Some m.row.number) q) z s

    row : RowKept v.conns v.sessions m.row
    row = kept.row m.row m.is_row

    dead : (n : ℕ) (d : Conn A) (q : ℕ) → v.conns n ≡ Some d → carries d ≡ Some q → (is_flowing d.wires ≡ true) ⊎ (is_flowing d.wires ≡ false) → is_flowing d.wires ≡ false
    dead n d q found carried (inr e) = e
    dead n d q found carried (inl e) =
        let before = kept.conns n d found in
        let flows = before.piped.flowing e in
        absurd (on_none v m.row kept m.is_row m.off n d q found (carried_holds before.stage d q before.at carried flows.1 flows.2))

    row_kept : RowKept v.conns (alter f v.sessions) new
    row_kept =
        let placed : IsPlaced v.conns m.row row.session None = subst (λ o. IsPlaced v.conns m.row row.session o) m.off row.placed in
        record {
          session = f m.row.number row.session;
          is = altered f v.sessions m.row.number row.session row.is;
          counted = row.counted;
          handled = row.handled;
          acked = row.acked;
          queue = rw same_number (ap (λ l. l ++ z ∷ []) row.queue ∙ sym (drop-append-le row.session.down.acked row.session.down.put (z ∷ []) (within row.session.down (kept.sessions m.row.number row.session row.is).down)));
          placed = subst (λ o. IsPlaced v.conns new (f m.row.number row.session) o) (sym m.off) (placed.0, record { way = placed.1.way; is_open = placed.1.is_open });
        }
