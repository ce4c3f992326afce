-- Behind a dial and a run a session that both ends had, and that the server has still, is resumed.
use Rattle.std.proofs.Common.{◌≡◌, ℕ, ◌+◌, ◌≤◌, true, List, Option, None, Some, refl, sym, ap, ◌∙◌, subst}
use Rattle.std.proofs.lemmas.Option.{none-some, same_Some}
use Rattle.std.specs.List.{slice_get}
use Rattle.std.specs.Option.{option_map}
use Rattle.cl_handlers.specs.declared.phase.Phase.TheVariants as phase
use Rattle.cl_login.specs.declared.login_state.LoginState.TheVariants as state
use Rattle.cmd_network.specs.Devices.{DeviceState}
use Rattle.cmd_schedule.specs.Contents.{Owned, accounts_of}
use Rattle.cmd_schedule.specs.LineLists.{IsLineList}
use Rattle.cmd_schedule.specs.Schedules.{WireView}
use Rattle.cmd_schedule.specs.declared.schedule.WireLine.{WireLine}
use Rattle.cmd_world.specs.Histories.{common_steps, world_of}
use Rattle.cmd_world.specs.Moves.{dialed_by}
use Rattle.cmd_world.specs.Worlds.{ByteWorld}
use Rattle.law_calm.proofs.Sparing.{resumed_then}
use Rattle.sim_7_schedules.proofs.Along.{Along, run_moves}
use Rattle.sim_7_schedules.proofs.Connected as connected
use Rattle.sim_7_schedules.proofs.LinksShown as shown
use Rattle.sim_7_schedules.specs.LastLines.{BothHave, EndsInDial, EndsInRun, IsConnected, server_session, world_behind}
use Rattle.law_client.specs.Rendered as client
use Rattle.law_server.proofs.SessionsRendered.{named_rendered}
use Rattle.law_server.specs.Rendered as server
use Rattle.sim_1_applications.specs.Devices.{AppWorld}
use Rattle.sim_2_links.proofs.Reached.{link_kept}
use Rattle.sim_2_links.specs.Events.{seen_as, seen_session}
use Rattle.sim_2_links.proofs.Numbers.{reached_rises}
use Rattle.sim_2_links.specs.Views.{Own, Row, View}
use Rattle.sim_2_links.specs.Words.{Client, InHeader1, InFeatures1, InAuth, InResponse, InHeader2, InFeatures2, InResume, InBind, InEnable, InOnline}
use Rattle.sim_3_images.specs.Devices.{account_position, identity_at}
use Rattle.sim_3_items.specs.Clients.{IsOwnRepresented, client_phase}
use Rattle.sim_3_items.specs.Identities.{Identity, Login}
use Rattle.sim_3_items.specs.Servers.{IsRowRepresented}
use Rattle.sim_5_devices.proofs.Worlds.{set_here}
use Rattle.sim_5_moves.specs.Running.{DeviceSimulates, IsOwned}
use Rattle.sim_7_schedules.specs.Simulation.{Simulates}
use Rattle.sim_7_schedules.proofs.DialledOpen.{dialled}
use Rattle.sm_live.specs.Sessions as live
use Rattle.sm_live.specs.Sessions.{session_named}
use Rattle.sm_outbox.specs.Sessions as outbox
use Rattle.sm_resumption.proofs.RowFacts.{option_map_some}
use Rattle.srv_state.specs.State.{ServerState}
use Rattle.xml_writer.specs.Items.{ItemOut, written_item}

-- ---- sessions, and the links

own_by : (own : Option (Own ItemOut)) (found : Option (outbox.SessionView ItemOut)) (u : outbox.SessionView ItemOut) → found ≡ Some u → IsOwnRepresented own found → (o : Own ItemOut) × (own ≡ Some o)
own_by None None u is shown = absurd (none-some u is)
own_by None (Some t) u is shown = absurd shown
own_by (Some o) None u is shown = absurd shown
own_by (Some o) (Some t) u is shown = (o, refl)

row_by : (row : Option (Row ItemOut)) (found : Option (live.Session ItemOut)) (u : live.Session ItemOut) → found ≡ Some u → IsRowRepresented row found → (r : Row ItemOut) × (row ≡ Some r) × (u.shown.number ≡ r.number) × (u.shown.counted ≡ r.counted)
row_by None None u is shown = absurd (none-some u is)
row_by None (Some t) u is shown = absurd shown
row_by (Some r) None u is shown = absurd shown
row_by (Some r) (Some t) u is shown =
    let same = same_Some t u is in
    (r, refl, ap (λ (x : live.Session ItemOut). x.shown.number) (sym same) ∙ shown.number, ap (λ (x : live.Session ItemOut). x.shown.counted) (sym same) ∙ shown.counted)

module _ (s : WireView) (W : ByteWorld) (x : AppWorld) (beside : Simulates s W x) (i : ℕ) (o : Owned) (owned : IsOwned s i o) where
  abbrev dr : DeviceSimulates s beside.items x i o
  dr = beside.runs.simulation.devices i o owned

  abbrev position : ℕ
  position = account_position o.account (accounts_of (common_steps s))

  rendered : (t : live.Session (List ℕ)) → server_session s o W ≡ Some t → option_map (server.session_rendered written_item) (session_named position o.device beside.items.server.sessions) ≡ Some t
  rendered t at = sym (named_rendered written_item position o.device beside.items.server.sessions) ∙ sym (ap (λ (h : ServerState (List ℕ)). session_named position o.device h.sessions) beside.encodes.encoding.server_state) ∙ at

  -- the server's session is the row
  pub row_is : (t : live.Session (List ℕ)) → server_session s o W ≡ Some t → (r : Row ItemOut) × (dr.view.row ≡ Some r) × (t.shown.number ≡ r.number) × (t.shown.counted ≡ r.counted)
  row_is t at =
      let u = option_map_some (server.session_rendered written_item) (session_named position o.device beside.items.server.sessions) t (rendered t at) in
      let r = row_by dr.view.row (session_named position o.device beside.items.server.sessions) u.0 u.1 dr.represents.server.row in
      (r.0, r.1, ap (λ (y : live.Session (List ℕ)). y.shown.number) (sym u.2) ∙ r.2, ap (λ (y : live.Session (List ℕ)). y.shown.counted) (sym u.2) ∙ r.3)

  -- the client has one
  pub own_is : (d : DeviceState) (t : outbox.SessionView (List ℕ)) → slice_get W.devices i ≡ Some d → d.client.client.session ≡ Some t → (one : Own ItemOut) × (dr.view.own ≡ Some one)
  own_is d t there at =
      let written : option_map (client.session_rendered written_item) dr.represents.device.client.session ≡ Some t = sym (ap (λ c. c.session) (shown.device_is s W x beside i o owned d there).client) ∙ at in
      let u = option_map_some (client.session_rendered written_item) dr.represents.device.client.session t written in
      own_by dr.view.own dr.represents.device.client.session u.0 u.1 dr.represents.client.own

  -- where the server counts its session, it is the client's
  pub one_session : (r : Row ItemOut) (one : Own ItemOut) → dr.view.row ≡ Some r → dr.view.own ≡ Some one → r.counted ≡ true → r.number ≡ one.number
  one_session r one is_row is_own counted =
      let reached = shown.reached s W x beside i o owned in
      let kept = link_kept dr.view reached in
      let row = kept.row r is_row in
      let own = kept.own one is_own in
      let epoch = (kept.sessions r.number row.session row.is).epoch (sym row.counted ∙ counted) in
      let now = (reached_rises dr.view reached).present r is_row row.session epoch.0 row.is epoch.1 in
      dr.sessions.once r.number one.number dr.view.epoch (seen_session row.session) (seen_session own.session) (ap seen_as row.is) (ap seen_as own.is) (epoch.1 ∙ ap Some now) own.of_epoch

-- ---- a dial

header_first : (who : Identity) (x : Login) (c : Client) (nonce : List ℕ) → client_phase who x c ≡ phase.Login (state.Header1 nonce) → c ≡ InHeader1
header_first who x InHeader1 nonce is = refl
header_first who x InFeatures1 nonce is = absurd (let no_way : ⊥ = cc in no_way)
header_first who x InAuth nonce is = absurd (let no_way : ⊥ = cc in no_way)
header_first who x InResponse nonce is = absurd (let no_way : ⊥ = cc in no_way)
header_first who x InHeader2 nonce is = absurd (let no_way : ⊥ = cc in no_way)
header_first who x InFeatures2 nonce is = absurd (let no_way : ⊥ = cc in no_way)
header_first who x (InResume p) nonce is = absurd (let no_way : ⊥ = cc in no_way)
header_first who x InBind nonce is = absurd (let no_way : ⊥ = cc in no_way)
header_first who x InEnable nonce is = absurd (let no_way : ⊥ = cc in no_way)
header_first who x (InOnline p) nonce is = absurd (let no_way : ⊥ = cc in no_way)

abbrev HasJustDialled : DeviceState → Type 0
HasJustDialled d = (nonce : List ℕ) × (d.client.client.phase ≡ phase.Login (state.Header1 nonce))

dialled_by : (i : ℕ) (W : ByteWorld) (e : Option DeviceState) (d : DeviceState) → slice_get W.devices i ≡ e → slice_get (dialed_by i e W).devices i ≡ Some d → HasJustDialled d
dialled_by i W None d is at = absurd (none-some d (sym is ∙ at))
dialled_by i W (Some e) d is at = subst HasJustDialled (same_Some _ d (sym (set_here W.devices i e _ is) ∙ at)) (_, refl)

just_dialled : (s : WireView) (lines : List WireLine) (i : ℕ) (d : DeviceState) → EndsInDial s lines i → slice_get (world_behind s lines).devices i ≡ Some d → HasJustDialled d
just_dialled s lines i d dial at =
    let W = world_behind s dial.before in
    dialled_by i W (slice_get W.devices i) d refl (ap (λ (V : ByteWorld). slice_get V.devices i) (sym (dialled s lines i dial)) ∙ at)

-- ---- the law

module _ (s : WireView) (right : IsLineList s) (before : List WireLine) (n : ℕ) (ends : EndsInRun s before n) (i : ℕ) (d : DeviceState) (position : ℕ) (is : IsConnected (world_of s) i d position) (dial : EndsInDial s before i) (o : Owned) (owned : IsOwned s i o) (both : BothHave s (world_behind s before) i o)
    (t : live.Session (List ℕ)) (at : server_session s o (world_of s) ≡ Some t) (number : t.shown.number ≡ both.session.shown.number) where
  abbrev behind : ByteWorld
  behind = connected.behind s right before n ends i d position is

  abbrev end : ByteWorld
  end = connected.end s right before n ends i d position is

  abbrev first : View ItemOut
  first = connected.first s right before n ends i d position is o owned

  abbrev last : View ItemOut
  last = connected.last s right before n ends i d position is o owned

  abbrev along_here : Along s (run_moves s before n) behind
  along_here = connected.along s right before n ends i d position is

  abbrev beside_first : Simulates s behind along_here.applications
  beside_first = along_here.by.beside

  abbrev beside_last : Simulates s end (connected.last_applications s right before n ends i d position is)
  beside_last = (connected.by_end s right before n ends i d position is).beside

  shown_first : (beside_first.runs.simulation.devices i o owned).view ≡ first
  shown_first = connected.shown_first s right before n ends i d position is o owned

  shown_last : (beside_last.runs.simulation.devices i o owned).view ≡ last
  shown_last = connected.shown_last s right before n ends i d position is o owned

  dialled_first : (connected.begins s right before n ends i d position is o owned).client ≡ InHeader1
  dialled_first =
      let c = connected.begins s right before n ends i d position is o owned in
      let now = just_dialled s before i both.device dial both.there in
      let here = ap (λ (v : View ItemOut). v.here) shown_first ∙ connected.here_first s right before n ends i d position is o owned in
      let conn = ap (λ (v : View ItemOut). v.conns (position + 1)) shown_first ∙ connected.is_begins s right before n ends i d position is o owned in
      header_first (identity_at s i o) ((beside_first.runs.simulation.devices i o owned).logins (position + 1)) c.client now.0 (sym (shown.phase_is s behind along_here.applications beside_first i o owned (position + 1) c both.device both.there here conn) ∙ now.1)

  pub resumed : 5 ≤ n → (d.client.client.phase ≡ phase.Online) × (d.client.client.epoch ≡ both.device.client.client.epoch)
  resumed enough =
      let own = own_is s behind along_here.applications beside_first i o owned both.device both.own both.there both.is_own in
      let row = row_is s behind along_here.applications beside_first i o owned both.session both.is_session in
      let there = ap (λ (W : ByteWorld). server_session s o W) (sym (connected.is_end s right before n ends i d position is)) ∙ at in
      let ended = row_is s end (connected.last_applications s right before n ends i d position is) beside_last i o owned t there in
      let same = one_session s behind along_here.applications beside_first i o owned row.0 own.0 row.1 own.1 (sym row.3 ∙ both.counted) in
      let it = resumed_then first last (position + 1) n
      (connected.begins s right before n ends i d position is o owned)
      (connected.becomes s right before n ends i d position is o owned)
      own.0
      row.0
      ended.0
      (connected.reached_first s right before n ends i d position is o owned)
      (connected.here_first s right before n ends i d position is o owned)
      (connected.is_begins s right before n ends i d position is o owned)
      (ap (λ (v : View ItemOut). v.own) (sym shown_first) ∙ own.1)
      (ap (λ (v : View ItemOut). v.row) (sym shown_first) ∙ row.1)
      same
      dialled_first
      (connected.rounds s right before n ends i d position is o owned)
      enough
      (connected.is_becomes s right before n ends i d position is o owned)
      (connected.flows s right before n ends i d position is o owned)
      (ap (λ (v : View ItemOut). v.row) (sym shown_last) ∙ ended.1)
      (sym ended.2 ∙ number ∙ row.2)
      in (
        connected.phase_last s right before n ends i d position is o owned own.0.number it.0,
        shown.epoch_is s end (connected.last_applications s right before n ends i d position is) beside_last i o owned d (connected.there_end s right before n ends i d position is)
            ∙ ap (λ (v : View ItemOut). v.epoch) shown_last
            ∙ it.1
            ∙ ap (λ (v : View ItemOut). v.epoch) (sym shown_first)
            ∙ sym (shown.epoch_is s behind along_here.applications beside_first i o owned both.device both.there),
      )
