-- The client puts a stanza of its session.
use Rattle.std.proofs.Common.{◌≡◌, ℕ, ◌≤◌, Bool, true, false, ◌&&◌, [], ◌∷◌, ◌++◌, length, refl, sym, ap, ◌∙◌, subst, arith, Some, nat_eq}
use Rattle.sm_acks.specs.Delivery.{Direction, Put}
use Rattle.sim_2_links.proofs.Entries.{same_number, other_number, altered}
use Rattle.sim_2_links.proofs.DeliveryRuns.{reached_more}
use Rattle.std.proofs.lemmas.List.{drop-append-le, length-append}
use Rattle.sm_acks.proofs.Directions.{kept_reached}
use Rattle.sim_2_links.proofs.CutLinks.{not_true}
use Rattle.sim_2_links.proofs.Counting.{up_counts_with, up_stanzas_with}
use Rattle.sim_2_links.proofs.Heard.{IsRelayable, heard_keeps, in_own, same_session, OwnIn}
use Rattle.sim_2_links.specs.Words.{St, up_stanzas, down_stanzas, Up, InOnline}
use Rattle.sim_2_links.specs.Wires.{Wires, Flow, Stop, is_flowing, up_words, down_words, down_whole, send_up, left_down}
use Rattle.sim_2_links.specs.Stages.{Conn}
use Rattle.sim_2_links.specs.Views.{with_at, alter, has, Session, Own, View, sends}
use Rattle.sim_2_links.specs.SessionMoves.{put_if, IsClientPut}
use Rattle.sim_2_links.specs.Links.{UpCounts, DownCounts, GoesUp, GoesDown, SessionKept, LinkKept}

abbrev pub putting : {A : Type 0} → Bool → A → Session A → Session A
putting b z s = record s { up = put_if b z s.up }

pub put_kept : {A : Type 0} (b : Bool) (z : A) (s : Session A) → (b ≡ true → (s.counted ≡ true) × (s.read ≡ true)) → SessionKept s → SessionKept (putting b z s)
put_kept false z s good kept = kept
put_kept true z s good kept = record {
  up = reached_more (Put z) s.up (put_if true z s.up) kept.up refl;
  down = kept.down;
  begun = λ e. absurd (not_true e (good refl).0);
  read = kept.read;
  epoch = kept.epoch;
  unread = λ e. absurd (not_true e (good refl).1);
  unheard = kept.unheard;
}

put_relayable : {A : Type 0} (p : ℕ) (z : A) → IsRelayable {A = A} p (λ q s. putting (has (Some p) q) z s)
put_relayable {A = A} p z = record {
  counted = λ q s. refl;
  epoch = λ q s. refl;
  read = λ q s. refl;
  stated = λ q s h c. c;
  got = λ q s. refl;
  acked = λ q s. refl;
  put = λ q s. refl;
  others = λ q s ne. none (nat_eq p q) s (other_number p q ne);
}
  where
    none : (b : Bool) (s : Session A) → b ≡ false → putting b z s ≡ s
    none b s e = subst (λ x. putting x z s ≡ s) (sym e) refl

pub put_quiet : {A : Type 0} (b : Bool) (z : A) (d : Direction A) → d.is_open ≡ false → (put_if b z d).way ≡ d.way
put_quiet false z d e = refl
put_quiet true z d e = rw e refl

pub same_wires : {A : Type 0} (x : Wires A) → left_down (down_words x) x ≡ x
same_wires (Flow us ds) = refl
same_wires (Stop us ds lu ld) = refl

and_true : (b : Bool) → (b && true) ≡ b
and_true false = refl
and_true true = refl

put_goes : {A : Type 0} (z : A) (c : Conn A) (s : Session A) (p : ℕ) → c.client ≡ InOnline p → GoesUp c s → GoesUp (record c { wires = send_up (Up (St z) ∷ []) c.wires }) (putting true z s)
put_goes {A = A} z c s p client g = record {
  way = way c.wires g.way is_open;
  is_open = g.is_open ∙ ap (λ x. x && sends c.client) (flow c.wires);
  counts = counts c.wires g.counts;
}
  where
    is_open : s.up.is_open ≡ is_flowing c.wires
    is_open = g.is_open ∙ ap (λ x. is_flowing c.wires && sends x) client ∙ and_true (is_flowing c.wires)

    flow : (x : Wires A) → is_flowing x ≡ is_flowing (send_up (Up (St z) ∷ []) x)
    flow (Flow us ds) = refl
    flow (Stop us ds lu ld) = refl

    way : (x : Wires A) → s.up.way ≡ up_stanzas (up_words x) → s.up.is_open ≡ is_flowing x → (put_if true z s.up).way ≡ up_stanzas (up_words (send_up (Up (St z) ∷ []) x))
    way (Flow us ds) e o = rw o (ap (λ l. l ++ z ∷ []) e ∙ sym (up_stanzas_with us (Up (St z) ∷ [])))
    way (Stop us ds lu ld) e o = rw o e

    counts : (x : Wires A) → UpCounts s.down.acked s.down.stated (up_words x) → UpCounts s.down.acked s.down.stated (up_words (send_up (Up (St z) ∷ []) x))
    counts (Flow us ds) u = up_counts_with s.down.acked s.down.stated us (Up (St z)) (λ n. tt) u
    counts (Stop us ds lu ld) u = u

same_down : {A : Type 0} (z : A) (x : Wires A) → down_words (send_up (Up (St z) ∷ []) x) ≡ down_words x
same_down z (Flow us ds) = refl
same_down z (Stop us ds lu ld) = refl

same_flow : {A : Type 0} (z : A) (x : Wires A) → is_flowing (send_up (Up (St z) ∷ []) x) ≡ is_flowing x
same_flow z (Flow us ds) = refl
same_flow z (Stop us ds lu ld) = refl

pub client_put_keeps : {A : Type 0} (k : ℕ) (z : A) (v next : View A) → IsClientPut k z v next → LinkKept v → LinkKept next
client_put_keeps {A = A} k z v next m kept = subst LinkKept (sym m.gives) (subst (λ x. LinkKept (record v { conns = with_at k (record m.conn { wires = send_up (Up (St z) ∷ []) x }) v.conns; own = Some new; sessions = alter f v.sessions })) (same_wires m.conn.wires) (heard_keeps v k m.conn m.own new (down_words m.conn.wires) (St z ∷ []) f (record {
  is = m.is;
  here = m.here;
  is_own = m.is_own;
  client = m.client;
  takes = λ downs e. (downs, e ∙ ap down_whole (sym (same_wires m.conn.wires)));
  number = refl;
  relayable = put_relayable m.own.number z;
  sessions = λ q s found. put_kept (has (Some m.own.number) q) z s (λ e. subst (λ (x : Session A). (x.counted ≡ true) × (x.read ≡ true)) (same_session v m.own.number q on.0 s on.1.is e found) (on.1.goes.counted, on.1.read)) (kept.sessions q s found);
  own = record {
    session = f m.own.number on.0;
    is = altered f v.sessions m.own.number on.0 on.1.is;
    read = on.1.read;
    of_epoch = on.1.of_epoch;
    handled = on.1.handled;
    acked = on.1.acked;
    queue = rw same_number (ap (λ l. l ++ z ∷ []) on.1.queue ∙ sym (drop-append-le on.0.up.acked on.0.up.put (z ∷ []) within));
  };
  up_other = λ q s d dead g.
      let closed : s.up.is_open ≡ false = g.is_open ∙ ap (λ x. x && sends d.client) dead in
      record { way = put_quiet (has (Some m.own.number) q) z s.up closed ∙ g.way; is_open = g.is_open; counts = g.counts };
  up_this = λ s found g. subst (λ x. GoesUp (record m.conn { wires = send_up (Up (St z) ∷ []) x }) (f m.own.number s)) (sym (same_wires m.conn.wires)) (rw same_number (put_goes z m.conn s m.own.number m.client g));
  down = λ s found g. subst (λ x. GoesDown (record m.conn { wires = send_up (Up (St z) ∷ []) x }) (f m.own.number s)) (sym (same_wires m.conn.wires)) (record {
    counted = g.counted;
    way = g.way ∙ ap down_stanzas (sym (same_down z m.conn.wires));
    is_open = g.is_open ∙ sym (same_flow z m.conn.wires);
    counts = subst (λ ws. DownCounts s.up.acked s.up.stated ws) (sym (same_down z m.conn.wires)) g.counts;
  });
  idle_up = λ q s quiet. record { way = put_quiet (has (Some m.own.number) q) z s.up quiet.is_open ∙ quiet.way; is_open = quiet.is_open };
}) kept))
  where
    new : Own A
    new = record m.own { queue = m.own.queue ++ z ∷ [] }

    f : ℕ → Session A → Session A
    f = λ q s. putting (has (Some m.own.number) q) z s

    on : OwnIn v m.conn m.own
    on = in_own v k m.conn m.own m.is m.here m.is_own m.client kept

    within : on.0.up.acked ≤ length on.0.up.put
    within =
        let k = kept_reached on.0.up (kept.sessions m.own.number on.0 on.1.is).up in
        let low = k.acked in
        let all = ap length k.front.1 in
        let a = length-append (on.0.up.got ++ on.0.up.way) k.front.0 in
        let b = length-append on.0.up.got on.0.up.way in
        omega arith
