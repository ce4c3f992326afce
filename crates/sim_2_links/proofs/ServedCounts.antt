-- Requests and counts that the server takes.
use Rattle.std.proofs.Common.{◌≡◌, ℕ, ◌+◌, ◌-◌, ◌≤◌, Bool, true, false, ◌&&◌, List, [], ◌∷◌, ◌++◌, length, drop, refl, sym, ap, ◌∙◌, subst, arith, Some, nat_eq}
use Rattle.std.specs.List.{Contains}
use Rattle.sm_acks.specs.Delivery.{State, Acknowledge}
use Rattle.sim_2_links.proofs.Entries.{same_number, other_number, at_same, altered}
use Rattle.sim_2_links.proofs.DeliveryRuns.{reached_more}
use Rattle.std.proofs.lemmas.List.{drop-drop, append-nil}
use Rattle.sm_acks.proofs.Directions.{kept_reached}
use Rattle.sim_2_links.proofs.CutLinks.{not_true, some_one}
use Rattle.sim_2_links.proofs.Counting.{down_counts_push, down_counts_more, down_stanzas_with}
use Rattle.sim_2_links.proofs.Hands.{up_words_down, flow_down}
use Rattle.sim_2_links.proofs.Served.{served, IsGentle, served_keeps, on_row, RowOn, UpCounted, nothing_sent}
use Rattle.sim_2_links.proofs.Heard.{same_session}
use Rattle.sim_2_links.specs.Words.{Req, Ack, up_stanzas, down_stanzas, UpWord, DownWord, Down}
use Rattle.sim_2_links.specs.Wires.{Wires, Flow, Stop, down_words, send_down, left_up}
use Rattle.sim_2_links.specs.Stages.{Conn}
use Rattle.sim_2_links.specs.Views.{with_at, alter, has, Session, Row, View, sends}
use Rattle.sim_2_links.specs.LinkMoves.{stated_if, IsUpRequest, acked_if, IsUpCount}
use Rattle.sim_2_links.specs.Links.{UpCounts, DownCounts, GoesDown, IsPlaced, SessionKept, LinkKept}

-- a request

stated_kept : {A : Type 0} (b : Bool) (s : Session A) → (b ≡ true → s.counted ≡ true) → SessionKept s → SessionKept (stated_if b s)
stated_kept false s counted kept = kept
stated_kept true s counted kept = record {
  up = reached_more State s.up (record s.up { stated = s.up.stated ++ length s.up.got ∷ [] }) kept.up refl;
  down = kept.down;
  begun = λ e. absurd (not_true e (counted refl));
  read = kept.read;
  epoch = kept.epoch;
  unread = kept.unread;
  unheard = kept.unheard;
}

stated_gentle : {A : Type 0} (p : ℕ) → IsGentle {A = A} p (λ q s. stated_if (has (Some p) q) s)
stated_gentle {A = A} p = record {
  counted = λ q s. refl;
  epoch = λ q s. refl;
  read = λ q s. refl;
  stated = λ q s. refl;
  others = λ q s ne. let e = other_number p q ne in none (nat_eq p q) s e;
}
  where
    none : (b : Bool) (s : Session A) → b ≡ false → stated_if b s ≡ s
    none b s e = subst (λ x. stated_if x s ≡ s) (sym e) refl

more_counts : {A : Type 0} (b : Bool) (c : Conn A) (s : Session A) → GoesDown c s → GoesDown c (stated_if b s)
more_counts false c s g = g
more_counts true c s g = record { counted = g.counted; way = g.way; is_open = g.is_open; counts = down_counts_more s.up.acked (length s.up.got) s.up.stated (down_words c.wires) g.counts }

count_down : {A : Type 0} (n : ℕ) (rest : List (UpWord A)) (s : Session A) (x : Wires A) → n ≡ length s.up.got → SessionKept s → DownCounts s.up.acked s.up.stated (down_words x) →
    DownCounts s.up.acked (s.up.stated ++ length s.up.got ∷ []) (down_words (send_down (Down (Ack n) ∷ []) (left_up rest x)))
count_down n rest s (Flow us ds) e kept u =
    let k = kept_reached s.up kept.up in
    subst (λ (m : ℕ). DownCounts s.up.acked (s.up.stated ++ length s.up.got ∷ []) (ds ++ Down (Ack m) ∷ [])) (sym e) (down_counts_push s.up.acked (length s.up.got) s.up.stated ds k.stated k.acked u)
count_down n rest s (Stop us ds lu ld) e kept u = down_counts_more s.up.acked (length s.up.got) s.up.stated ds u

same_stanzas : {A : Type 0} (n : ℕ) (rest : List (UpWord A)) (x : Wires A) → down_stanzas (down_words (send_down (Down (Ack n) ∷ []) (left_up rest x))) ≡ down_stanzas (down_words x)
same_stanzas n rest (Flow us ds) = down_stanzas_with ds (Down (Ack n) ∷ []) ∙ append-nil (down_stanzas ds)
same_stanzas n rest (Stop us ds lu ld) = refl

pub up_request_keeps : {A : Type 0} (k : ℕ) (v next : View A) → IsUpRequest k v next → LinkKept v → LinkKept next
up_request_keeps {A = A} k v next m kept = subst LinkKept (sym m.gives) (subst (λ x. LinkKept (record v { conns = with_at k this v.conns; row = x; sessions = alter f v.sessions })) (sym m.is_row) (served_keeps v k m.conn m.row m.row Req m.rest (Ack m.row.handled ∷ []) f (record {
  is = m.is;
  is_row = m.is_row;
  on = m.on;
  first = m.first;
  number = refl;
  new_on = refl;
  new_counted = refl;
  gentle = stated_gentle m.row.number;
  sessions = λ q s found. stated_kept (has (Some m.row.number) q) s (λ e. subst (λ x. x.counted ≡ true) (same_session v m.row.number q on.0 s on.1.is e found) on.1.counted) (kept.sessions q s found);
  row = record {
    session = f m.row.number on.0;
    is = altered f v.sessions m.row.number on.0 on.1.is;
    counted = m.counted ∙ sym on.1.counted;
    handled = on.1.handled;
    acked = on.1.acked;
    queue = on.1.queue;
    placed = subst (λ o. IsPlaced (with_at k this v.conns) m.row (f m.row.number on.0) o) (sym m.on) (
      this,
      at_same k this v.conns,
      on.1.held,
      λ e. record {
        way = on.1.goes.way ∙ ap up_stanzas m.first ∙ ap up_stanzas (sym (up_words_down puts m.rest m.conn.wires));
        is_open = on.1.goes.is_open ∙ ap (λ x. x && sends m.conn.client) (sym (flow_down puts m.rest m.conn.wires));
        counts = subst (λ ws. UpCounts on.0.down.acked on.0.down.stated ws) (sym (up_words_down puts m.rest m.conn.wires)) counts;
      },
    );
  };
  own = λ o found. let old = kept.own o found in record {
    session = f o.number old.session;
    is = altered f v.sessions o.number old.session old.is;
    read = old.read;
    of_epoch = old.of_epoch;
    handled = old.handled;
    acked = old.acked;
    queue = old.queue;
  };
  down_other = λ q s d g. more_counts (has (Some m.row.number) q) d s g;
  down_this = λ s found g.
      let same : on.0 ≡ s = some_one (v.sessions m.row.number) on.0 s on.1.is found in
      let handled : m.row.handled ≡ length s.up.got = on.1.handled ∙ ap (λ (x : Session A). length x.up.got) same in
      record {
        counted = g.counted;
        way = g.way ∙ sym (same_stanzas m.row.handled m.rest m.conn.wires);
        is_open = g.is_open ∙ sym (flow_down puts m.rest m.conn.wires);
        counts = rw same_number (count_down m.row.handled m.rest s m.conn.wires handled (kept.sessions m.row.number s found) g.counts);
      };
  idle_down = λ q s quiet. quiet;
}) kept))
  where
    puts : List (DownWord A)
    puts = Down (Ack m.row.handled) ∷ []

    this : Conn A
    this = served m.conn m.rest (Ack m.row.handled ∷ [])

    f : ℕ → Session A → Session A
    f = λ q s. stated_if (has (Some m.row.number) q) s

    on : RowOn v k m.conn m.row
    on = on_row v k m.conn m.row m.is m.is_row m.on m.counted kept

    counts : UpCounts on.0.down.acked on.0.down.stated m.rest
    counts = subst (λ ws. UpCounts on.0.down.acked on.0.down.stated ws) m.first on.1.goes.counts

-- a count

acked_kept : {A : Type 0} (b : Bool) (h : ℕ) (s : Session A) → (b ≡ true → (s.counted ≡ true) × Contains s.down.stated h × (s.down.acked ≤ h)) → SessionKept s → SessionKept (acked_if b h s)
acked_kept false h s good kept = kept
acked_kept true h s good kept = record {
  up = kept.up;
  down = reached_more (Acknowledge h) s.down (record s.down { acked = h }) kept.down ((good refl).1, (good refl).2, refl);
  begun = λ e. absurd (not_true e (good refl).0);
  read = kept.read;
  epoch = kept.epoch;
  unread = kept.unread;
  unheard = kept.unheard;
}

acked_gentle : {A : Type 0} (p h : ℕ) → IsGentle {A = A} p (λ q s. acked_if (has (Some p) q) h s)
acked_gentle {A = A} p h = record {
  counted = λ q s. refl;
  epoch = λ q s. refl;
  read = λ q s. refl;
  stated = λ q s. refl;
  others = λ q s ne. let e = other_number p q ne in none (nat_eq p q) s e;
}
  where
    none : (b : Bool) (s : Session A) → b ≡ false → acked_if b h s ≡ s
    none b s e = subst (λ x. acked_if x h s ≡ s) (sym e) refl

drop_twice : {A : Type 0} (m n : ℕ) (xs : List A) → drop m (drop n xs) ≡ drop (m + n) xs
drop_twice m n xs = drop-drop m n xs ∙ ap (λ (k : ℕ). drop k xs) (let e : n + m ≡ m + n = omega arith in e)

pub up_count_keeps : {A : Type 0} (k h : ℕ) (v next : View A) → IsUpCount k h v next → LinkKept v → LinkKept next
up_count_keeps {A = A} k h v next m kept = subst LinkKept (sym m.gives) (served_keeps v k m.conn m.row new (Ack h) m.rest [] f (record {
  is = m.is;
  is_row = m.is_row;
  on = m.on;
  first = m.first;
  number = refl;
  new_on = refl;
  new_counted = refl;
  gentle = acked_gentle m.row.number h;
  sessions = λ q s found. acked_kept (has (Some m.row.number) q) h s (λ e. subst (λ (x : Session A). (x.counted ≡ true) × Contains x.down.stated h × (x.down.acked ≤ h)) (same_session v m.row.number q on.0 s on.1.is e found) (on.1.counted, counts.1, counts.0)) (kept.sessions q s found);
  row = record {
    session = f m.row.number on.0;
    is = altered f v.sessions m.row.number on.0 on.1.is;
    counted = m.counted ∙ sym on.1.counted;
    handled = on.1.handled;
    acked = rw same_number refl;
    queue = rw same_number queue;
    placed = subst (λ o. IsPlaced (with_at k this v.conns) new (f m.row.number on.0) o) (sym m.on) (
      this,
      at_same k this v.conns,
      on.1.held,
      λ e. record {
        way = on.1.goes.way ∙ ap up_stanzas m.first ∙ ap up_stanzas (sym (up_words_down [] m.rest m.conn.wires));
        is_open = on.1.goes.is_open ∙ ap (λ x. x && sends m.conn.client) (sym (flow_down [] m.rest m.conn.wires));
        counts = rw same_number (subst (λ ws. UpCounts h on.0.down.stated ws) (sym (up_words_down [] m.rest m.conn.wires)) counts.2);
      },
    );
  };
  own = λ o found. let old = kept.own o found in record {
    session = f o.number old.session;
    is = altered f v.sessions o.number old.session old.is;
    read = old.read;
    of_epoch = old.of_epoch;
    handled = old.handled;
    acked = old.acked;
    queue = old.queue;
  };
  down_other = λ q s d g. record { counted = g.counted; way = g.way; is_open = g.is_open; counts = g.counts };
  down_this = λ s found g. record {
    counted = g.counted;
    way = g.way ∙ ap down_stanzas (sym (nothing_sent m.rest m.conn.wires));
    is_open = g.is_open ∙ sym (flow_down [] m.rest m.conn.wires);
    counts = subst (λ ws. DownCounts s.up.acked s.up.stated ws) (sym (nothing_sent m.rest m.conn.wires)) g.counts;
  };
  idle_down = λ q s quiet. record { way = quiet.way; is_open = quiet.is_open };
}) kept)
  where
    new : Row A
    new = record m.row { acked = h; queue = drop (h - m.row.acked) m.row.queue }

    this : Conn A
    this = served m.conn m.rest []

    f : ℕ → Session A → Session A
    f = λ q s. acked_if (has (Some m.row.number) q) h s

    on : RowOn v k m.conn m.row
    on = on_row v k m.conn m.row m.is m.is_row m.on m.counted kept

    counts : UpCounted h on.0 m.rest
    counts = subst (λ ws. UpCounts on.0.down.acked on.0.down.stated ws) m.first on.1.goes.counts

    queue : drop (h - m.row.acked) m.row.queue ≡ drop h on.0.down.put
    queue =
        let low = counts.0 in
        let a = on.1.acked in
        let sum : (h - m.row.acked) + on.0.down.acked ≡ h = omega arith in
        ap (drop (h - m.row.acked)) on.1.queue ∙ drop_twice (h - m.row.acked) on.0.down.acked on.0.down.put ∙ ap (λ (n : ℕ). drop n on.0.down.put) sum
