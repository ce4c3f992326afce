-- The server takes a word of the handshake outside of sessions: that is one move of the links.
use Rattle.std.proofs.Common.{◌≡◌, ℕ, false, List, [], ◌∷◌, Option, Some, map, refl, sym, ap, subst, ◌∙◌}
use Rattle.std.specs.List.{All}
use Rattle.std.specs.Option.{option_map}
use Rattle.srv_state.specs.State.{ServerState, conn_at, with_conn}
use Rattle.srv_state.specs.Steps.{acted, in_phase}
use Rattle.srv_state.specs.Streams.{standing_at, standing_of}
use Rattle.srv_state.specs.declared.connection.Phase.{Phase as ServerPhase}
use Rattle.srv_state.specs.declared.connection.Tries.TheVariants as tries
use Rattle.sim_3_items.specs.Counted.{IsForClient}
use Rattle.sim_3_items.specs.Identities.{Identity, Login}
use Rattle.sim_3_items.specs.Pipes.{IsShown, IsWire}
use Rattle.sim_3_items.specs.Sent.{sent_under}
use Rattle.sim_3_items.specs.Servers.{open_conn, phase_shown}
use Rattle.sim_3_items.specs.WordItems.{down_item, is_after_login}
use Rattle.xml_framer.specs.declared.items.Item.{Item}
use Rattle.sim_3_items.specs.ItemMoves.{step_of}
use Rattle.sim_3_items.specs.ItemPipes.{ItemWire, handed_up, put_down}
use Rattle.sim_3_items.specs.ItemWorlds.{itself}
use Rattle.sim_2_links.proofs.Reached.{link_kept}
use Rattle.sim_2_links.specs.Links.{LinkKept}
use Rattle.sim_2_links.specs.Machine.{TakesHand}
use Rattle.sim_2_links.specs.Stages.{Conn, Goes, Stands, server_hand}
use Rattle.sim_2_links.specs.Views.{Table, View, with_at}
use Rattle.sim_2_links.specs.Wires.{left_up, send_down}
use Rattle.sim_2_links.specs.Words.{DownWord, Phase, UpWord, down_stanzas}
use Rattle.srv_core.specs.Table.{after_item, at_item, at_open}
use Rattle.sim_4_links_follow.proofs.Standing.{stands_at}
use Rattle.sim_4_links_follow.specs.Taking.{IsFirst, StepFollows}
use Rattle.sim_4_links_follow.proofs.Emitted.{puts_are_for, puts_at, puts_here}
use Rattle.sim_4_links_follow.proofs.Flows.{taken_flowing}
use Rattle.sim_4_links_follow.proofs.Placed.{keeps_at, shown_sent}
use Rattle.sim_4_links_follow.proofs.Servings.{phase_represents}
use Rattle.sim_4_links_follow.proofs.Taken.{wire_taken}
use Rattle.xml_writer.specs.Items.{ItemOut}

pub shown_wire : (who : Identity) (x : Login) (k : ℕ) (o : Option (Conn ItemOut)) (m : Option ItemWire) (c : Conn ItemOut) (w : ItemWire) → o ≡ Some c → m ≡ Some w → IsShown who x k o m → IsWire who x k c w
shown_wire who x k o m c w conn wire shown = subst (IsShown who x k (Some c)) wire (subst (λ p. IsShown who x k p m) conn shown)

module _ (who : Identity) (logins : ℕ → Login) (h : ServerState ItemOut) (wires : Table ItemWire) (v : View ItemOut) (k : ℕ) (word : UpWord ItemOut) (p : IsFirst who logins h wires v k word) where
  pub kept_here : LinkKept v
  kept_here = link_kept v p.reached

  pub wire_here : IsWire who (logins k) k p.conn p.wire
  wire_here = shown_wire who (logins k) k (v.conns k) (wires k) p.conn p.wire p.is p.there (p.pipes.each k)

  -- the connection is open at the server
  pub open_here : (phase : Phase) → p.conn.phase ≡ phase → conn_at k h ≡ Some (record { entropy = (logins k).yours; phase = phase_shown who (logins k) phase; tries = tries.Three })
  open_here phase is =
      let s = stands_at v k p.conn kept_here p.is word p.rest p.first in
      p.server.conns k p.conn p.is
      ∙ ap (λ e. open_conn who (logins k) p.conn.phase e p.conn.gone) s.0
      ∙ ap (λ b. open_conn who (logins k) p.conn.phase Stands b) s.1
      ∙ ap (λ q. open_conn who (logins k) q Stands false) is

  pub standing_here : (phase : Phase) → p.conn.phase ≡ phase → standing_at k h ≡ Some (standing_of (record { entropy = (logins k).yours; phase = phase_shown who (logins k) phase; tries = tries.Three }))
  standing_here phase is = ap (option_map standing_of) (open_here phase is)

  -- the row of the table is that of where it stands
  pub row_here : (phase : Phase) (i : Item) → p.conn.phase ≡ phase
      → after_item itself k i (step_of h) ≡ acted itself (at_item itself k i (standing_of (record { entropy = (logins k).yours; phase = phase_shown who (logins k) phase; tries = tries.Three })) h) (step_of h)
  row_here phase i is = ap (λ o. acted itself (at_open itself k i o h) (step_of h)) (standing_here phase is)

  -- the move
  pub hand_follows : (phase : Phase) (puts : List (DownWord ItemOut)) (shown : ServerPhase) (items : List ItemOut) → server_hand p.conn.phase word ≡ Goes phase puts → phase_shown who (logins k) phase ≡ shown
      → items ≡ map (down_item who (logins k) k (is_after_login p.conn.client)) puts → All IsForClient (down_stanzas puts)
      → StepFollows who logins wires v k p.wire (record { server_state = with_conn k (in_phase shown) h; outs = puts_at k items }) []
  hand_follows phase puts shown items hand stands same stanzas =
      let c : Conn ItemOut = p.conn in
      let d : Conn ItemOut = record c { phase = phase; wires = send_down puts (left_up p.rest c.wires) } in
      let next : View ItemOut = record v { conns = with_at k d v.conns } in
      let here : sent_under k (puts_at k items) (handed_up p.wire) ≡ put_down (map (down_item who (logins k) k (is_after_login c.client)) puts) (handed_up p.wire)
      = puts_here k items (handed_up p.wire) ∙ ap (λ l. put_down l (handed_up p.wire)) same in
      let s = stands_at v k c kept_here p.is word p.rest p.first in
      record {
        moves = TakesHand k ∷ [];
        next = next;
        leads = (next, record { conn = c; is = p.is; word = word; rest = p.rest; first = p.first; phase = phase; puts = puts; hand = hand; gives = refl }, refl);
        does = refl;
        server =
            phase_represents who logins h v p.server k c p.is (in_phase shown) (record { entropy = (logins k).yours; phase = phase_shown who (logins k) c.phase; tries = tries.Three }) d (open_here c.phase refl)
            (ap (λ e. open_conn who (logins k) phase e c.gone) s.0 ∙ ap (λ b. open_conn who (logins k) phase Stands b) s.1 ∙ ap (λ q. Some (record { entropy = (logins k).yours; phase = q; tries = tries.Three })) stands);
        pipes =
            shown_sent who logins wires v next k d p.wire (handed_up p.wire) (puts_at k items) p.pipes (λ j. refl) (puts_are_for k items)
            (subst (IsWire who (logins k) k d) (sym here) (wire_taken who (logins k) k c p.wire wire_here word p.rest puts phase p.first stanzas));
        client = record { here = refl; own = refl; epoch = refl; conns = keeps_at v.conns k c d p.is refl (λ ended. taken_flowing p.rest puts c.wires ∙ ended) };
      }
