-- A call of a device's user by which its client puts one stanza.
use Rattle.std.proofs.Common.{◌≡◌, ℕ, List, [], ◌∷◌, Some, slice_get, refl, sym, ap, subst, ◌∙◌}
use Rattle.std.proofs.lemmas.Option.{same_Some}
use Rattle.cl_handlers.specs.Clients.{ClientStep}
use Rattle.sim_4_links_follow.proofs.Stays.{reached_along}
use Rattle.sim_4_links_follow.specs.Following.{WorldFollows}
use Rattle.sim_3_images.proofs.UserMoves.{get_set_same, length_where}
use Rattle.sim_3_images.specs.Devices.{identity_at}
use Rattle.sim_3_items.specs.Labels.{Says, awaits, labels_of}
use Rattle.sim_3_items.specs.Identities.{Identity}
use Rattle.sim_3_items.specs.Servers.{ServerRepresents}
use Rattle.sim_5_moves.proofs.FlagsKeptStepped.{same_ups, still_acked}
use Rattle.sim_5_moves.proofs.FlagsKeptFlags.{flags_session_step}
use Rattle.sim_3_items.specs.Items.{stanzas_read}
use Rattle.sim_3_items.specs.Ups.{up_stanza}
use Rattle.sim_3_items.specs.ItemMoves.{ItemMove, moved, spoke}
use Rattle.sim_3_items.specs.ItemPipes.{put_up}
use Rattle.sim_3_items.specs.ItemWorlds.{ItemDevice, ItemWorld}
use Rattle.sim_2_links.proofs.Reached.{link_kept}
use Rattle.sim_2_links.proofs.WithPremises.{prompt_runs}
use Rattle.sim_2_links.specs.Events.{Seen, seen}
use Rattle.sim_2_links.specs.Machine.{LinkReached}
use Rattle.sim_2_events.specs.Lists.{IsDevice}
use Rattle.sim_5_devices.proofs.Staying.{paging_stays, prompt_stays}
use Rattle.sim_5_devices.specs.InTime.{AreInTime}
use Rattle.sim_5_moves.specs.Moves.{IsOneDevice}
use Rattle.cmd_schedule.specs.Contents.{Owned}
use Rattle.cmd_schedule.specs.Schedules.{WireView}
use Rattle.sim_5_devices.proofs.Sorted.{session_steps_first}
use Rattle.sim_5_devices.proofs.SessionLabelsSteps.{moves_done}
use Rattle.sim_5_devices.specs.Labels.{DoesAll, DoesInterleaved, SessionStep, SessionSteps}
use Rattle.sim_3_items.specs.Built.{IsUpAs}
use Rattle.sim_3_items.specs.Served.{FlagsRepresent}
use Rattle.sim_3_items.specs.Submitted.{SubmissionsRepresent}
use Rattle.sim_1_applications.specs.Devices.{AppWorld, Sessions}
use Rattle.sim_1_applications.specs.Events as events
use Rattle.sim_1_applications.specs.Stanzas.{Up}
use Rattle.sim_5_devices.proofs.Served.{same_told}
use Rattle.sim_5_devices.specs.Told.{IsAcked, SameUps}
use Rattle.sim_5_moves.proofs.Called.{one_called, where_same}
use Rattle.cmd_network.specs.Positions.{changed_where}
use Rattle.sim_5_moves.proofs.BuiltAlong.{built_along}
use Rattle.sim_5_moves.specs.Going.{ArePutBuilt, DeviceGoes}
use Rattle.sim_5_moves.specs.Running.{Bounds, DeviceSimulates, IsOwned, WorldSimulates, history_for}
use Rattle.xml_writer.specs.Items.{ItemOut}

-- what is seen of the links tells nothing of the number of the last message
numbered : (v : Seen ItemOut) (d : Sessions) (n : ℕ) → IsDevice stanzas_read v d → IsDevice stanzas_read v (record d { n = n })
numbered v d n is = record {
  epoch = is.epoch;
  now = is.now;
  past = is.past;
  below = is.below;
  once = is.once;
  unread = is.unread;
  newest = is.newest;
  row = is.row;
  online = is.online;
}

module _ (schedule : WireView) (b : Bounds) (says : ℕ) (w : ItemWorld) (x : AppWorld) (runs : WorldSimulates schedule b says w x) (i : ℕ) (o : Owned) (owned : IsOwned schedule i o) where
  abbrev r : DeviceSimulates schedule w x i o
  r = runs.simulation.devices i o owned

  abbrev who : Identity
  who = identity_at schedule i o

  abbrev c : ItemDevice
  c = r.represents.device

  module _ (m : ItemMove) (t : ClientStep ItemOut ItemOut) (z : ItemOut) (y : Up) (is : moved m w ≡ spoke i c t w) (read : up_stanza z ≡ y) (built : IsUpAs o y z) (timely : AreInTime (Says z ∷ []) r.device.sessions.now)
      (follows : WorldFollows who r.logins (moved m w) r.view (Says z ∷ [])) where
    abbrev following : ItemDevice
    following = record c { client = t.client }

    pub one_device : IsOneDevice i w (moved m w)
    one_device =
        subst (IsOneDevice i w) (sym is)
        (one_called i w following (changed_where c.here (put_up t.out.put) w.wires) (length_where c.here (put_up t.out.put) w.wires) (where_same (put_up t.out.put) (λ v. refl) c.here w.wires))

    there : slice_get (moved m w).devices i ≡ Some following
    there = ap (λ (n : ItemWorld). slice_get n.devices i) is ∙ get_set_same w.devices i c following r.represents.there

    pub reached : LinkReached r.view
    reached = prompt_runs awaits r.view r.prompt

    pub done : (end : Sessions) × DoesInterleaved stanzas_read (labels_of follows.moves) r.device.sessions end × IsDevice stanzas_read (seen follows.next) end
    done = moves_done stanzas_read follows.moves r.view follows.next r.device.sessions reached follows.leads r.sessions

    pub put_built : ArePutBuilt o (history_for schedule x.takes o) (Says z ∷ [])
    put_built = (subst (λ u. IsUpAs o u z) (sym read) built, tt)

    abbrev pub g : DeviceGoes schedule (moved m w) i o (history_for schedule x.takes o) (Says z ∷ []) r.device.sessions r.view
    g = record {
      logins = r.logins;
      view = follows.next;
      leads = (follows.moves, follows.leads, follows.does);
      reached = reached_along follows.moves r.view follows.next reached follows.leads;
      in_time = paging_stays follows.moves r.view follows.next r.device.sessions r.in_time follows.leads follows.prompt r.sessions (subst (λ ds. AreInTime ds r.device.sessions.now) (sym follows.does) timely);
      prompt = prompt_stays follows.moves r.view follows.next r.prompt follows.leads follows.prompt;
      represents = follows.represents;
      end = done.0;
      interleaved = subst (λ ds. DoesInterleaved stanzas_read ds r.device.sessions done.0) follows.does done.1;
      sessions = done.2;
      built = built_along o (history_for schedule x.takes o) follows.moves r.view follows.next reached follows.leads (subst (ArePutBuilt o (history_for schedule x.takes o)) (sym follows.does) put_built) r.built;
    }

    pub session_stepped : (xs : List SessionStep) × (s : Sessions) × SessionSteps xs r.device.sessions s × DoesAll stanzas_read (Says z ∷ []) s g.end
    session_stepped = session_steps_first stanzas_read (Says z ∷ []) r.device.sessions g.end (tt, tt) g.interleaved

    abbrev pub at : Sessions
    at = session_stepped.1

    pub same_at : SameUps r.device.sessions at
    same_at = same_ups session_stepped.0 r.device.sessions at session_stepped.2

    pub end_is : g.end ≡ events.put_up y at
    end_is = session_stepped.3.2 ∙ session_stepped.3.1.1 ∙ ap (λ u. events.put_up u at) read

    pub ends_with : (n : ℕ) → IsDevice stanzas_read (seen g.view) (record (events.put_up y at) { n = n })
    ends_with n = numbered (seen g.view) (events.put_up y at) n (subst (IsDevice stanzas_read (seen g.view)) end_is g.sessions)

    pub client_is : g.represents.device ≡ following
    client_is = same_Some g.represents.device following (sym g.represents.there ∙ there)

    pub represents_at : SubmissionsRepresent c.client at
    represents_at = same_told c.client r.device.sessions at same_at r.submissions

    pub acked_at : IsAcked r.device.sessions → IsAcked at
    acked_at acked = still_acked session_stepped.0 r.device.sessions at session_stepped.2 acked

    pub flags_at : FlagsRepresent who.account o.device w.server at
    flags_at =
        flags_session_step who r.logins w.server r.view g.view r.device.sessions at g.end session_stepped.0 r.represents.server
        (subst (λ h. ServerRepresents who r.logins h g.view) one_device.server g.represents.server)
        (link_kept g.view g.reached) r.sessions g.sessions session_stepped.2 (ap (λ (s : Sessions). s.row) end_is) r.flags
