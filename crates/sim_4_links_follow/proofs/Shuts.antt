-- The server ends the stream on a connection, and shuts it.
use Rattle.std.proofs.Common.{◌≡◌, ℕ, List, [], ◌∷◌, ◌++◌, Some, map, refl, sym, ap, subst, ◌∙◌}
use Rattle.srv_state.specs.State.{Out, Shut}
use Rattle.sim_3_items.specs.Frames.{KeepsClient, SameClient}
use Rattle.sim_3_items.specs.Identities.{Identity, Login}
use Rattle.sim_3_items.specs.Pipes.{IsWire, PipesRepresent}
use Rattle.sim_3_items.specs.Sent.{sent, sent_under}
use Rattle.sim_3_items.specs.WordItems.{down_item, is_after_login}
use Rattle.sim_3_items.specs.ItemPipes.{ItemWire, handed_up, put_down, shut}
use Rattle.sim_2_links.specs.SessionMoves.{shut as shut_conn}
use Rattle.sim_2_links.specs.Stages.{Conn, Ending, tail_of}
use Rattle.sim_2_links.specs.Views.{Table, View, with_at}
use Rattle.sim_2_links.specs.Wires.{send_down}
use Rattle.sim_4_links_follow.proofs.Emitted.{AreFor, both_are_for, one_here, puts_are_for, puts_at, puts_here, sent_both, shut_is_for}
use Rattle.sim_4_links_follow.proofs.Flows.{halted}
use Rattle.sim_4_links_follow.proofs.Placed.{keeps_at, shown_sent}
use Rattle.sim_4_links_follow.proofs.Taken.{wire_shut}
use Rattle.xml_writer.specs.Items.{ItemOut}

abbrev pub shuts_at : ℕ → List ItemOut → List (Out ItemOut)
shuts_at k items = puts_at k items ++ Shut k ∷ []

pub shuts_are_for : (k : ℕ) (items : List ItemOut) → AreFor k (shuts_at k items)
shuts_are_for k items = both_are_for k (puts_at k items) (Shut k ∷ []) (puts_are_for k items) (shut_is_for k)

pub shuts_here : (k : ℕ) (items : List ItemOut) (w : ItemWire) → sent_under k (shuts_at k items) w ≡ shut (put_down items w)
shuts_here k items w = sent_both k (puts_at k items) (Shut k ∷ []) w ∙ ap (sent_under k (Shut k ∷ [])) (puts_here k items w) ∙ one_here k shut (put_down items w)

module _ (who : Identity) (logins : ℕ → Login) (wires : Table ItemWire) (v next : View ItemOut) (k : ℕ) (c : Conn ItemOut) (w : ItemWire) (ending : Ending) where
  pub shut_pipes : PipesRepresent who logins wires v → IsWire who (logins k) k c w → ((j : ℕ) → next.conns j ≡ with_at k (shut_conn ending c) v.conns j) → (items : List ItemOut)
      → items ≡ map (down_item who (logins k) k (is_after_login c.client)) (tail_of ending) → PipesRepresent who logins (sent (shuts_at k items) (with_at k (handed_up w) wires)) next
  shut_pipes pipes is conns items same =
      shown_sent who logins wires v next k (shut_conn ending c) w (handed_up w) (shuts_at k items) pipes conns (shuts_are_for k items)
      (subst (IsWire who (logins k) k (shut_conn ending c)) (sym (shuts_here k items (handed_up w) ∙ ap (λ l. shut (put_down l (handed_up w))) same)) (wire_shut who (logins k) k c w is ending))

  pub shut_client : v.conns k ≡ Some c → next.here ≡ v.here → next.own ≡ v.own → next.epoch ≡ v.epoch → next.conns ≡ with_at k (shut_conn ending c) v.conns → SameClient v next
  shut_client is here own epoch conns = record {
    here = here;
    own = own;
    epoch = epoch;
    conns = subst (λ t. (j : ℕ) → KeepsClient (v.conns j) (t j)) (sym conns) (keeps_at v.conns k c (shut_conn ending c) is refl (λ ended. halted (send_down (tail_of ending) c.wires)));
  }
