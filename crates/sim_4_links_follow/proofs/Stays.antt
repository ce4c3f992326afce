-- Moves of one end leave the part of the other as it is.
use Rattle.std.proofs.Common.{◌≡◌, ◌⊎◌, ℕ, ◌+◌, ◌≤◌, false, List, [], ◌++◌, Option, Some, None, refl, sym, ap, subst, ◌∙◌, inl, inr}
use Rattle.std.proofs.lemmas.Bool.{cases_eq}
use Rattle.std.specs.Prelude.{is_none}
use Rattle.srv_state.specs.State.{ServerState}
use Rattle.sim_3_items.specs.Clients.{ClientRepresents, IsOwnRepresented, client_phase}
use Rattle.sim_3_items.specs.Labels.{labels_of}
use Rattle.sim_3_items.specs.Frames.{KeepsClient, KeepsServer, SameClient, SameServer}
use Rattle.sim_3_items.specs.Identities.{Identity, Login}
use Rattle.sim_3_items.specs.Servers.{IsRowRepresented, ServerRepresents, conn_shown, open_conn}
use Rattle.sim_3_items.specs.ItemWorlds.{ItemDevice}
use Rattle.sim_2_links.proofs.Entries.{at_other, at_same}
use Rattle.sim_2_links.specs.Machine.{LinkMove, LinkReached, LinkReaches, nothing_yet}
use Rattle.sim_2_links.specs.Stages.{Conn}
use Rattle.sim_2_links.specs.Views.{Session, Table, View, with_at}
use Rattle.sim_2_links.specs.Wires.{is_flowing}
use Rattle.sim_4_links_follow.proofs.MoreMoves.{labels_both, then_reaches}
use Rattle.sm_live.specs.Sessions.{session_named}
use Rattle.xml_writer.specs.Items.{ItemOut}

-- ---- moves, one after the other

-- none, and again none
pub no_labels : {A : Type 0} (moves more : List (LinkMove A)) → labels_of moves ≡ [] → labels_of more ≡ [] → labels_of (moves ++ more) ≡ []
no_labels moves more first then_so = labels_both moves more ∙ ap (λ ds. ds ++ labels_of more) first ∙ then_so

pub reached_along : {A : Type 0} (moves : List (LinkMove A)) (v last : View A) → LinkReached v → LinkReaches moves v last → LinkReached last
reached_along moves v last reached along = record { moves = reached.moves ++ moves; reaches = then_reaches reached.moves moves nothing_yet v last reached.reaches along }

-- ---- the server's part

server_was : (o : Option (Conn ItemOut)) (c : Conn ItemOut) → KeepsServer o (Some c) → (b : Conn ItemOut) × (o ≡ Some b) × (c.phase ≡ b.phase) × (c.ending ≡ b.ending) × (c.gone ≡ b.gone)
server_was None c kept = absurd kept
server_was (Some b) c kept = (b, refl, kept.0, kept.1, kept.2)

shown_same : (who : Identity) (x : Login) (b c : Conn ItemOut) → c.phase ≡ b.phase → c.ending ≡ b.ending → c.gone ≡ b.gone → conn_shown who x b ≡ conn_shown who x c
shown_same who x b c phase ending gone =
    ap (λ p. open_conn who x p b.ending b.gone) (sym phase) ∙ ap (λ e. open_conn who x c.phase e b.gone) (sym ending) ∙ ap (λ g. open_conn who x c.phase c.ending g) (sym gone)

pub server_stays : (who : Identity) (logins : ℕ → Login) (h : ServerState ItemOut) (v next : View ItemOut) → SameServer v next → ServerRepresents who logins h v → ServerRepresents who logins h next
server_stays who logins h v next same represents = record {
  served = represents.served;
  server_state = represents.server_state;
  conns = λ k c is. let b = was_so k c is in represents.conns k b.0 b.1 ∙ shown_same who (logins k) b.0 c b.2 b.3 b.4;
  row = subst (λ o. IsRowRepresented o (session_named who.account who.resource h.sessions)) (sym same.row) represents.row;
  seated = λ k c s is seat. let b = was_so k c is in represents.seated k b.0 s b.1 seat;
  owned = λ q t s is found. let old = same.known q t is in represents.owned q old.0 s old.1 found;
  free = subst (λ n. n ≤ h.next) (sym same.free) represents.free;
}
  where
    was_so : (k : ℕ) (c : Conn ItemOut) → next.conns k ≡ Some c → (b : Conn ItemOut) × (v.conns k ≡ Some b) × (c.phase ≡ b.phase) × (c.ending ≡ b.ending) × (c.gone ≡ b.gone)
    was_so k c is = server_was (v.conns k) c (subst (KeepsServer (v.conns k)) is (same.conns k))

pub keeps_server : (o : Option (Conn ItemOut)) → KeepsServer o o
keeps_server None = tt
keeps_server (Some c) = (refl, refl, refl)

pub keeps_server_at : (t : Table (Conn ItemOut)) (k : ℕ) (c next : Conn ItemOut) → t k ≡ Some c → next.phase ≡ c.phase → next.ending ≡ c.ending → next.gone ≡ c.gone → (j : ℕ) → KeepsServer (t j) (with_at k next t j)
keeps_server_at t k c next is phase ending gone j =
    elim (cases_eq k j) [
      | inl same ↦ subst (λ n. KeepsServer (t n) (with_at k next t n)) same
          (subst (λ o. KeepsServer o (with_at k next t k)) (sym is) (subst (KeepsServer (Some c)) (sym (at_same k next t)) (phase, ending, gone)))
      | inr apart ↦ subst (KeepsServer (t j)) (sym (at_other k next t j apart)) (keeps_server (t j))
    ]

pub keeps_servers : (a b c : Option (Conn ItemOut)) → KeepsServer a b → KeepsServer b c → KeepsServer a c
keeps_servers None None None first then_so = tt
keeps_servers None None (Some c) first then_so = absurd then_so
keeps_servers None (Some b) c first then_so = absurd first
keeps_servers (Some a) None c first then_so = absurd first
keeps_servers (Some a) (Some b) None first then_so = absurd then_so
keeps_servers (Some a) (Some b) (Some c) first then_so = (then_so.0 ∙ first.0, then_so.1 ∙ first.1, then_so.2 ∙ first.2)

pub same_servers : (u v w : View ItemOut) → SameServer u v → SameServer v w → SameServer u w
same_servers u v w first then_so = record {
  row = then_so.row ∙ first.row;
  free = then_so.free ∙ first.free;
  known = λ q t is. known q (then_so.known q t is);
  conns = λ k. keeps_servers (u.conns k) (v.conns k) (w.conns k) (first.conns k) (then_so.conns k);
}
  where
    known : (q : ℕ) → (t : Session ItemOut) × (v.sessions q ≡ Some t) → (s : Session ItemOut) × (u.sessions q ≡ Some s)
    known q t = first.known q t.0 t.1

-- ---- the client's part

client_was : (o : Option (Conn ItemOut)) (c : Conn ItemOut) → KeepsClient o (Some c) → (b : Conn ItemOut) × (o ≡ Some b) × (c.client ≡ b.client)
client_was None c kept = absurd kept
client_was (Some b) c kept = (b, refl, kept.0)

client_then : (o : Option (Conn ItemOut)) (b : Conn ItemOut) → KeepsClient (Some b) o → (c : Conn ItemOut) × (o ≡ Some c) × (is_flowing b.wires ≡ false → is_flowing c.wires ≡ false)
client_then None b kept = absurd kept
client_then (Some c) b kept = (c, refl, kept.1)

pub client_stays : (who : Identity) (logins : ℕ → Login) (d : ItemDevice) (v next : View ItemOut) → SameClient v next → ClientRepresents who logins d v → ClientRepresents who logins d next
client_stays who logins d v next same represents = record {
  account = represents.account;
  epoch = represents.epoch ∙ sym same.epoch;
  own = subst (λ o. IsOwnRepresented o d.client.session) (sym same.own) represents.own;
  apart = represents.apart ∙ ap is_none (sym same.here);
  here = λ k is. represents.here k (sym same.here ∙ is);
  has = λ position at. has position (represents.has position at);
  phase = λ k c here is.
      let b = client_was (v.conns k) c (subst (KeepsClient (v.conns k)) is (same.conns k)) in
      represents.phase k b.0 (sym same.here ∙ here) b.1 ∙ ap (client_phase who (logins k)) (sym b.2);
}
  where
    has : (position : ℕ) → (b : Conn ItemOut) × (v.conns (position + 1) ≡ Some b) × ((v.here ≡ Some (position + 1)) ⊎ (is_flowing b.wires ≡ false)) → (c : Conn ItemOut) × (next.conns (position + 1) ≡ Some c) × ((next.here ≡ Some (position + 1)) ⊎ (is_flowing c.wires ≡ false))
    has position b =
        let c = client_then (next.conns (position + 1)) b.0 (subst (λ o. KeepsClient o (next.conns (position + 1))) b.1 (same.conns (position + 1))) in
        (c.0, c.1, elim b.2 [ inl here ↦ inl (same.here ∙ here) | inr ended ↦ inr (c.2 ended) ])
