-- In a world beside the applications the links of a device, of which moves made what is shown, are its pairs.
use Rattle.std.proofs.Common.{◌≡◌, ℕ, ◌≤◌, List, Option, None, Some, length, map, refl, sym, ap, ◌∙◌, subst, ◌⊎◌, inl, inr}
use Rattle.std.proofs.lemmas.Option.{none-some, same_Some}
use Rattle.std.specs.List.{slice_get}
use Rattle.std.specs.Option.{option_map}
use Rattle.sm_acks.proofs.Directions.{got_prefix, kept_reached}
use Rattle.sm_acks.specs.Delivery.{IsPrefix}
use Rattle.law_client.specs.Rendered as client
use Rattle.srv_state.specs.State.{ServerState}
use Rattle.sim_3_images.specs.Devices.{account_position}
use Rattle.sim_3_items.specs.Clients.{IsOwnRepresented}
use Rattle.sim_3_items.specs.Labels.{awaits}
use Rattle.sim_3_items.specs.Servers.{IsRowRepresented}
use Rattle.sim_3_items.specs.WordItems.{told_count}
use Rattle.sim_3_images.proofs.NetworkMoves.{found_both}
use Rattle.sim_3_images.specs.WorldEncodings.{DeviceEncodes}
use Rattle.sim_3_items.specs.Items.{stanzas_read}
use Rattle.sim_3_items.specs.ItemWorlds.{ItemDevice}
use Rattle.sim_2_events.specs.Lists.{IsDevice, IsRow}
use Rattle.sim_5_moves.specs.Running.{DeviceSimulates}
use Rattle.cmd_network.specs.Devices.{DeviceState}
use Rattle.sim_2_links.proofs.Promised.{server_end}
use Rattle.sim_2_links.proofs.Reached.{link_kept}
use Rattle.sim_2_links.proofs.WithPremises.{prompt_runs}
use Rattle.sim_2_links.specs.Events.{SeenSession, row_number, seen, seen_as, seen_session}
use Rattle.sim_2_links.specs.Links.{LinkKept}
use Rattle.sim_2_links.specs.Machine.{LinkReached}
use Rattle.sim_2_links.specs.Views as links
use Rattle.sim_2_links.specs.Views.{Own, Row, View}
use Rattle.sm_live.specs.Sessions as live
use Rattle.sm_live.specs.Sessions.{session_named}
use Rattle.sm_outbox.specs.Sessions as outbox
use Rattle.sm_resumption.specs.Previds.{previd_of}
use Rattle.cmd_schedule.specs.Contents.{Owned, accounts_of}
use Rattle.cmd_schedule.specs.Schedules.{WireView}
use Rattle.sim_7_schedules.specs.Simulation.{Simulates}
use Rattle.law_server.proofs.SessionsRendered.{named_rendered}
use Rattle.law_server.specs.Rendered as server
use Rattle.sim_1_applications.specs.Devices as sessions
use Rattle.sim_1_applications.specs.Runs.{owned_of}
use Rattle.sim_7_schedules.proofs.ReachedEpochs.{AreReached, all_reached}
use Rattle.sim_7_schedules.specs.Pairs.{HasEpoch, HasPairs, IsClientsEnd, IsPair, IsServersEnd, IsUnused, Pair}
use Rattle.cmd_world.specs.Histories.{common_steps}
use Rattle.cmd_world.specs.Worlds.{ByteWorld}
use Rattle.xml_writer.specs.Items.{ItemOut, written_item}

abbrev pub pair_of : links.Session ItemOut → Pair
pair_of t = record { epoch = t.epoch; up = t.up; down = t.down }

module _ (v : View ItemOut) (kept : LinkKept v) where
  abbrev pairs_of : ℕ → Option Pair
  pairs_of number = option_map pair_of (v.sessions number)

  each_by : (o : Option (links.Session ItemOut)) (p : Pair) → ((t : links.Session ItemOut) → o ≡ Some t → IsPair (pair_of t)) → option_map pair_of o ≡ Some p → IsPair p
  each_by None p is at = absurd (none-some p at)
  each_by (Some t) p is at = subst IsPair (same_Some (pair_of t) p at) (is t refl)

  each_pair : (number : ℕ) (p : Pair) → pairs_of number ≡ Some p → IsPair p
  each_pair number p at = each_by (v.sessions number) p (λ t is. let s = kept.sessions number t is in record { up = s.up; down = s.down }) at

  -- ---- the server's end

  abbrev ServersPair : live.Session (List ℕ) → Type 0
  ServersPair t = (p : Pair) × (pairs_of t.shown.number ≡ Some p) × IsServersEnd t p

  server_by : (row : Option (Row ItemOut)) (found : Option (live.Session ItemOut)) (t : live.Session (List ℕ)) → v.row ≡ row → IsRowRepresented row found → option_map (server.session_rendered written_item) found ≡ Some t → ServersPair t
  server_by None None t row is at = absurd (none-some t at)
  server_by None (Some u) t row is at = absurd is
  server_by (Some r) None t row is at = absurd is
  server_by (Some r) (Some u) t row is at =
      let (s, there, end) = server_end v r kept row in
      subst ServersPair (same_Some (server.session_rendered written_item u) t at) (
        pair_of s,
        ap pairs_of is.number ∙ ap (option_map pair_of) there,
        record {
          handled = is.handled ∙ ap told_count end.handled;
          acked = is.acked ∙ ap told_count end.acked;
          waiting = ap (map written_item) (is.waiting ∙ end.queue);
        },
      )

  -- ---- the client's end

  abbrev ClientsPair : ℕ → outbox.SessionView (List ℕ) → Type 0
  ClientsPair epoch t = (number : ℕ) × (p : Pair) × (t.previd ≡ previd_of number) × (pairs_of number ≡ Some p) × (p.epoch ≡ Some epoch) × IsClientsEnd t p

  client_by : (epoch : ℕ) → epoch ≡ v.epoch → (own : Option (Own ItemOut)) (found : Option (outbox.SessionView ItemOut)) (t : outbox.SessionView (List ℕ)) → v.own ≡ own → IsOwnRepresented own found → option_map (client.session_rendered written_item) found ≡ Some t → ClientsPair epoch t
  client_by epoch same None None t own is at = absurd (none-some t at)
  client_by epoch same None (Some u) t own is at = absurd is
  client_by epoch same (Some o) None t own is at = absurd is
  client_by epoch same (Some o) (Some u) t own is at =
      let end = kept.own o own in
      subst (ClientsPair epoch) (same_Some (client.session_rendered written_item u) t at) (
        o.number,
        pair_of end.session,
        is.previd,
        ap (option_map pair_of) end.is,
        end.of_epoch ∙ ap Some (sym same),
        record {
          handled = is.handled ∙ ap told_count end.handled;
          acked = is.acked ∙ ap told_count end.acked;
          waiting = ap (map written_item) (is.queue ∙ end.queue);
        },
      )

  -- ---- epochs

  epoch_by : (number e : ℕ) (t : SeenSession ItemOut) (o : Option (links.Session ItemOut)) → v.sessions number ≡ o → seen_as o ≡ Some t → t.epoch ≡ Some e → HasEpoch pairs_of e
  epoch_by number e t None is at epoch = absurd (none-some t at)
  epoch_by number e t (Some u) is at epoch = (number, pair_of u, ap (option_map pair_of) is, ap (λ (x : SeenSession ItemOut). x.epoch) (same_Some (seen_session u) t at) ∙ epoch)

  pub has_epoch : (e : ℕ) → AreReached v.epoch (seen v).sessions → 1 ≤ e → e ≤ v.epoch → HasEpoch pairs_of e
  has_epoch e are low high = let x = are.each e low high in epoch_by x.0 e x.1 (v.sessions x.0) refl x.2 x.3

-- the session of which a pair is made
pub found_pair : (o : Option (links.Session ItemOut)) (p : Pair) → option_map pair_of o ≡ Some p → (t : links.Session ItemOut) × (o ≡ Some t) × (pair_of t ≡ p)
found_pair None p at = absurd (none-some p at)
found_pair (Some t) p at = (t, refl, same_Some (pair_of t) p at)

module _ (v : View ItemOut) (d : sessions.Sessions) (is : IsDevice stanzas_read (seen v) d) where
  abbrev pairs_in : ℕ → Option Pair
  pairs_in number = option_map pair_of (v.sessions number)

  once_by : (m n e : ℕ) (p q : Pair) → pairs_in m ≡ Some p → pairs_in n ≡ Some q → p.epoch ≡ Some e → q.epoch ≡ Some e → m ≡ n
  once_by m n e p q one two of_one of_two =
      let a = found_pair (v.sessions m) p one in
      let b = found_pair (v.sessions n) q two in
      is.once m n e (seen_session a.0) (seen_session b.0) (ap seen_as a.1) (ap seen_as b.1) (ap (λ (x : Pair). x.epoch) a.2 ∙ of_one) (ap (λ (x : Pair). x.epoch) b.2 ∙ of_two)

  unread_by : (number : ℕ) (p : Pair) → pairs_in number ≡ Some p → p.epoch ≡ None → IsUnused p.up × IsUnused p.down
  unread_by number p at none =
      let a = found_pair (v.sessions number) p at in
      let new = is.unread number (seen_session a.0) (ap seen_as a.1) (ap (λ (x : Pair). x.epoch) a.2 ∙ none) in
      subst (λ (x : Pair). IsUnused x.up × IsUnused x.down) a.2 (
        record { put = ap (λ (x : SeenSession ItemOut). x.up_put) new; got = ap (λ (x : SeenSession ItemOut). x.up_got) new },
        record { put = ap (λ (x : SeenSession ItemOut). x.down_put) new; got = ap (λ (x : SeenSession ItemOut). x.down_got) new },
      )

  -- the server has the session of the client's present epoch, or one of which the client hasn't read
  newest_by : (epoch : ℕ) → epoch ≡ v.epoch → (row : Option (Row ItemOut)) (found : Option (live.Session ItemOut)) (t : live.Session (List ℕ)) (p : Pair) → v.row ≡ row → IsRowRepresented row found → option_map (server.session_rendered written_item) found ≡ Some t →
      pairs_in t.shown.number ≡ Some p → (p.epoch ≡ None) ⊎ (p.epoch ≡ Some epoch)
  newest_by epoch same None None t p row shown at pair = absurd (none-some t at)
  newest_by epoch same None (Some u) t p row shown at pair = absurd shown
  newest_by epoch same (Some r) None t p row shown at pair = absurd shown
  newest_by epoch same (Some r) (Some u) t p row shown at pair =
      let rowed : IsRow (seen v) d.row (Some r.number) = subst (λ (y : Option (Row ItemOut)). IsRow (seen v) d.row (row_number y)) row is.row in
      let number : t.shown.number ≡ r.number = ap (λ (y : live.Session (List ℕ)). y.shown.number) (sym (same_Some (server.session_rendered written_item u) t at)) ∙ shown.number in
      let a = found_pair (v.sessions t.shown.number) p pair in
      let one : seen_session a.0 ≡ rowed.0 = same_Some (seen_session a.0) rowed.0 (sym (ap seen_as (ap v.sessions (sym number) ∙ a.1)) ∙ rowed.1) in
      let epochs : p.epoch ≡ rowed.0.epoch = ap (λ (x : Pair). x.epoch) (sym a.2) ∙ ap (λ (x : SeenSession ItemOut). x.epoch) one in
      elim rowed.2 [ inl unread ↦ inl (epochs ∙ unread.0) | inr present ↦ inr (epochs ∙ present.0 ∙ ap Some (sym same)) ]

  within_by : (epoch : ℕ) → epoch ≡ v.epoch → AreReached v.epoch (seen v).sessions → (number e : ℕ) (p : Pair) → pairs_in number ≡ Some p → p.epoch ≡ Some e → (1 ≤ e) × (e ≤ epoch)
  within_by epoch same are number e p at of =
      let a = found_pair (v.sessions number) p at in
      let one : a.0.epoch ≡ Some e = ap (λ (x : Pair). x.epoch) a.2 ∙ of in
      (are.some number e (seen_session a.0) (ap seen_as a.1) one, subst (λ n. e ≤ n) (sym same) (is.below number e (seen_session a.0) (ap seen_as a.1) one))

module _ (s : WireView) (W : ByteWorld) (x : sessions.AppWorld) (beside : Simulates s W x) (i : ℕ) (o : Owned) (owned : slice_get (owned_of s) i ≡ Some o) where
  abbrev dr : DeviceSimulates s beside.items x i o
  dr = beside.runs.simulation.devices i o owned

  abbrev reached : LinkReached dr.view
  reached = prompt_runs awaits dr.view dr.prompt

  -- the device of a world of bytes is that of items
  device_is : (d : DeviceState) → slice_get W.devices i ≡ Some d → (e : ItemDevice) × (d.client.client ≡ client.client_rendered written_item e.client) × (e ≡ dr.represents.device)
  device_is d here =
      let found = found_both DeviceEncodes d (slice_get W.devices i) (slice_get beside.items.devices i) here (beside.encodes.encoding.devices i) in
      (found.other, found.holds.client, same_Some found.other dr.represents.device (sym found.is ∙ dr.represents.there))

  pub epoch_is : (d : DeviceState) → slice_get W.devices i ≡ Some d → d.client.client.epoch ≡ dr.view.epoch
  epoch_is d here = let e = device_is d here in ap (λ c. c.epoch) e.1 ∙ ap (λ (y : ItemDevice). y.client.epoch) e.2 ∙ dr.represents.client.epoch

  abbrev position : ℕ
  position = account_position o.account (accounts_of (common_steps s))

  -- and so is the server
  rendered : (t : live.Session (List ℕ)) → session_named position o.device W.server.server_state.sessions ≡ Some t → option_map (server.session_rendered written_item) (session_named position o.device beside.items.server.sessions) ≡ Some t
  rendered t at = sym (named_rendered written_item position o.device beside.items.server.sessions) ∙ sym (ap (λ (h : ServerState (List ℕ)). session_named position o.device h.sessions) beside.encodes.encoding.server_state) ∙ at

  pub pairs_here : HasPairs s W i o
  pairs_here =
      let kept = link_kept dr.view reached in
      record {
        pairs = pairs_of dr.view kept;
        each = each_pair dr.view kept;
        server = λ t at. server_by dr.view kept dr.view.row (session_named position o.device beside.items.server.sessions) t refl dr.represents.server.row (rendered t at);
        newest = λ d t p here at. newest_by dr.view dr.device.sessions dr.sessions d.client.client.epoch (epoch_is d here) dr.view.row (session_named position o.device beside.items.server.sessions) t p refl dr.represents.server.row (rendered t at);
        client = λ d t here at.
            let e = device_is d here in
            let written : option_map (client.session_rendered written_item) e.0.client.session ≡ Some t = sym (ap (λ c. c.session) e.1) ∙ at in
            client_by dr.view kept d.client.client.epoch (epoch_is d here) dr.view.own e.0.client.session t refl (subst (λ (y : ItemDevice). IsOwnRepresented dr.view.own y.client.session) (sym e.2) dr.represents.client.own) written;
        reached = λ d here e low high. has_epoch dr.view kept e (all_reached dr.view reached) low (subst (λ n. e ≤ n) (epoch_is d here) high);
        within = λ d here. within_by dr.view dr.device.sessions dr.sessions d.client.client.epoch (epoch_is d here) (all_reached dr.view reached);
        once = once_by dr.view dr.device.sessions dr.sessions;
        unread = unread_by dr.view dr.device.sessions dr.sessions;
      }

pub pairs_are : (s : WireView) (W : ByteWorld) (x : sessions.AppWorld) (beside : Simulates s W x) (i : ℕ) (o : Owned) (owned : slice_get (owned_of s) i ≡ Some o) →
    (pairs_here s W x beside i o owned).pairs ≡ (λ number. option_map pair_of ((beside.runs.simulation.devices i o owned).view.sessions number))
unfolding pairs_here
pairs_are s W x beside i o owned = refl

pub delivered : (p : Pair) → IsPair p → IsPrefix p.up.got p.up.put × IsPrefix p.down.got p.down.put × (p.up.acked ≤ length p.up.got) × (p.down.acked ≤ length p.down.got)
delivered p is =
    let up = kept_reached p.up is.up in
    let down = kept_reached p.down is.down in
    (got_prefix p.up up, got_prefix p.down down, up.acked, down.acked)
