-- What is one device's is none of another's: connections, sessions, and the connection that a session is on.
use Rattle.std.proofs.Common.{◌≡◌, ◌≢◌, ℕ, true, [], Option, Some, None, refl, sym, ap, subst, ◌∙◌}
use Rattle.std.proofs.lemmas.Option.{same_Some}
use Rattle.srv_state.specs.State.{ServerState, Step}
use Rattle.sim_3_items.specs.Identities.{Identity, Login}
use Rattle.sim_3_items.specs.Pipes.{PipesRepresent}
use Rattle.sim_3_items.specs.Sent.{sent}
use Rattle.sim_3_items.specs.Servers.{IsRowRepresented, ServerFollows, ServerRepresents}
use Rattle.sim_3_items.specs.ItemPipes.{ItemWire, handed_up}
use Rattle.sim_2_links.proofs.Reached.{link_kept}
use Rattle.sim_2_links.specs.Links.{IsPlaced, LinkKept}
use Rattle.sim_2_links.specs.Stages.{Conn}
use Rattle.sim_2_links.specs.Views.{Row, Table, View, with_at}
use Rattle.sm_live.specs.Sessions.{Session, is_named, session_named, session_of}
use Rattle.sim_4_links_follow.proofs.Acts.{Stays}
use Rattle.sim_4_links_follow.proofs.OthersElsewhere.{sent_beside, with_beside}
use Rattle.sim_4_links_follow.proofs.OthersServerStates.{IsNotOf}
use Rattle.sim_4_links_follow.specs.OtherDevices.{IsOtherDevice}
use Rattle.sim_4_links_follow.proofs.Former.{has_wire}
use Rattle.sim_4_links_follow.proofs.ServersOthers.{not_its, nothing_moves}
use Rattle.sim_3_images.proofs.RuleKept.{found_is, named_as, numbered_here}
use Rattle.sim_4_links_follow.proofs.Servings.{live_of}
use Rattle.xml_writer.specs.Items.{ItemOut}

module _ (who whom : Identity) (logins others : ℕ → Login) (h : ServerState ItemOut) (wires : Table ItemWire) (v u : View ItemOut) (server : ServerRepresents who logins h v) (pipes : PipesRepresent who logins wires v) (beside : IsOtherDevice who whom others h wires u) where
  pub kept_beside : LinkKept u
  kept_beside = link_kept u beside.reached

  pub conn_not : (j : ℕ) (c : Conn ItemOut) → v.conns j ≡ Some c → u.conns j ≡ None
  conn_not j c is =
      let has = has_wire who logins wires v j c pipes is in
      not_its who whom others h wires u beside.apart beside.server beside.pipes j has.wire has.there has.is.of

  -- a session of the one has not the number of the other's
  pub session_not : (s : Session ItemOut) → session_of s.shown.number h.sessions ≡ Some s → is_named who.account who.resource s ≡ true → IsNotOf u s.shown.number
  session_not s there named r is same =
      let live = live_of whom others h u r beside.server is in
      let t : Session ItemOut = live.session in
      let found = numbered_here (is_named whom.account whom.resource) h.next 1 h.sessions t server.server_state.sessions.ascending live.named in
      let number : t.shown.number ≡ s.shown.number = live.row.number ∙ same in
      let alike : s ≡ t = same_Some s t (sym there ∙ ap (λ n. session_of n h.sessions) (sym number) ∙ found) in
      let a = named_as who.account who.resource s named in
      let b = named_as whom.account whom.resource t (found_is (is_named whom.account whom.resource) h.sessions t live.named) in
      beside.apart.name (sym a.0 ∙ ap (λ (x : Session ItemOut). x.shown.account) alike ∙ b.0) (sym a.1 ∙ ap (λ (x : Session ItemOut). x.shown.resource) alike ∙ b.1)

  -- where the session of the one is, there is no connection of the other
  pub former_not : LinkKept v → (s : Session ItemOut) → session_named who.account who.resource h.sessions ≡ Some s → (f : ℕ) → s.shown.conn ≡ Some f → u.conns f ≡ None
  former_not kept s named f on = go v.row refl (subst (IsRowRepresented v.row) named server.row)
    where
      go : (o : Option (Row ItemOut)) → v.row ≡ o → IsRowRepresented o (Some s) → u.conns f ≡ None
      go None is shown = absurd shown
      go (Some r) is shown =
          let seat : r.on ≡ Some f = sym shown.conn ∙ on in
          let placed = subst (IsPlaced v.conns r (kept.row r is).session) seat (kept.row r is).placed in
          conn_not f placed.0 placed.1

-- the other device is shown behind the step, and nothing moved
pub stays_follow : (whom : Identity) (others : ℕ → Login) (wires : Table ItemWire) (u : View ItemOut) (kept : LinkKept u) (k : ℕ) (w : ItemWire) (step : Step ItemOut) → PipesRepresent whom others wires u → u.conns k ≡ None → w.device ≢ whom.position
    → Stays whom others u kept step → ServerFollows whom others step.server_state (sent step.outs (with_at k (handed_up w) wires)) u []
stays_follow whom others wires u kept k w step pipes none foreign stays =
    nothing_moves whom others step.server_state (sent step.outs (with_at k (handed_up w) wires)) u stays.server
    (sent_beside whom others (with_at k (handed_up w) wires) u (with_beside whom others wires u pipes k (handed_up w) none foreign) step.outs stays.outs)
