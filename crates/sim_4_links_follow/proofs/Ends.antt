-- The end of a connection leaves other devices: the session that is parked, or ends, is of the device itself.
use Rattle.std.proofs.Common.{◌≡◌, ℕ, Bool, true, false, Option, Some, None, cond, refl, sym, ◌∙◌}
use Rattle.srv_state.specs.Moments.{gone_at}
use Rattle.srv_state.specs.State.{ServerState, with_sessions, without_conn}
use Rattle.sim_3_items.specs.Identities.{Identity, Login}
use Rattle.sim_3_items.specs.Servers.{ServerRepresents}
use Rattle.sim_3_items.specs.ItemPipes.{ItemWire, up_end_reported}
use Rattle.sim_2_links.specs.Links.{LinkKept}
use Rattle.sim_2_links.specs.Views.{Table, View, with_at}
use Rattle.sm_live.specs.Sessions.{Session, is_at, lost, parked, session_at, with_session, without}
use Rattle.sim_4_links_follow.proofs.Acts.{ended_stays, parked_stays}
use Rattle.sim_4_links_follow.proofs.OthersElsewhere.{with_beside}
use Rattle.sim_4_links_follow.proofs.OthersServerStates.{IsNotOf, conn_stays}
use Rattle.sim_4_links_follow.proofs.Parted.{conn_not, kept_beside, session_not}
use Rattle.sim_4_links_follow.specs.OtherDevices.{IsOtherDevice}
use Rattle.sim_4_links_follow.proofs.HandMoves.{shown_wire}
use Rattle.sim_4_links_follow.proofs.ServersOthers.{nothing_moves}
use Rattle.sim_4_links_follow.specs.Taking.{IsHeard, IsOver}
use Rattle.sim_3_images.proofs.RuleKept.{numbered_here}
use Rattle.xml_writer.specs.Items.{ItemOut}

module _ (who whom : Identity) (logins others : ℕ → Login) (h : ServerState ItemOut) (wires : Table ItemWire) (v u : View ItemOut) (k : ℕ) (p : IsOver who logins h wires v k) (beside : IsOtherDevice who whom others h wires u) where
  abbrev linked : LinkKept u
  linked = kept_beside who whom logins others h wires v u p.server p.pipes beside

  abbrev off : u.conns k ≡ None
  off = conn_not who whom logins others h wires v u p.server p.pipes beside k p.conn p.is

  abbrev left : ServerState ItemOut
  left = without_conn k h

  left_stays : ServerRepresents whom others left u
  left_stays = conn_stays whom others h u beside.server k off

  lost_stays : (o : Option (Session ItemOut)) → session_at k h.sessions ≡ o → ServerRepresents whom others (with_sessions (lost h.moment o h.sessions) left) u
  lost_stays None at = left_stays
  lost_stays (Some s) at = either s.shown.resumable
    where
      not_of : IsNotOf u s.shown.number
      not_of =
          session_not who whom logins others h wires v u p.server p.pipes beside s (numbered_here (is_at k) h.next 1 h.sessions s p.server.server_state.sessions.ascending at)
          (p.server.seated k p.conn s p.is at)

      either : (b : Bool) → ServerRepresents whom others (with_sessions (cond b (with_session s.shown.number (parked h.moment) h.sessions) (without s.shown.number h.sessions)) left) u
      either true = parked_stays whom others u linked s.shown.number h.moment left not_of left_stays
      either false = ended_stays whom others u linked s.shown.number left not_of left_stays

  pub end_stays : IsHeard whom others h wires u k p.wire
  end_stays =
      nothing_moves whom others (gone_at k h) (with_at k (up_end_reported p.wire) wires) u (lost_stays (session_at k h.sessions) refl)
      (with_beside whom others wires u beside.pipes k (up_end_reported p.wire) off
      (λ its. beside.apart.position (sym its ∙ (shown_wire who (logins k) k (v.conns k) (wires k) p.conn p.wire p.is p.there (p.pipes.each k)).of)))
