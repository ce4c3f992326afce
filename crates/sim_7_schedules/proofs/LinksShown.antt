-- What a world of bytes shows of the links of a device, on the connection at a place.
use Rattle.std.proofs.Common.{◌≡◌, ◌⊎◌, ℕ, suc, ◌+◌, true, false, not, List, [], ◌∷◌, Option, None, Some, map, refl, sym, ap, ◌∙◌, subst, arith}
use Rattle.std.proofs.lemmas.Bool.{not-false}
use Rattle.std.proofs.lemmas.Option.{none-some, same_Some}
use Rattle.std.specs.List.{slice_get}
use Rattle.cmd_network.specs.Devices.{DeviceState}
use Rattle.cmd_network.specs.declared.wire.Wire.{Wire}
use Rattle.cmd_schedule.specs.Contents.{Owned}
use Rattle.cmd_schedule.specs.Schedules.{WireView}
use Rattle.cmd_world.specs.Worlds.{ByteWorld}
use Rattle.sim_7_schedules.proofs.Handing.{IsDownNone, IsUpNone}
use Rattle.sim_1_applications.specs.Devices.{AppWorld}
use Rattle.sim_2_links.proofs.WithPremises.{prompt_runs}
use Rattle.sim_2_links.specs.Machine.{LinkReached}
use Rattle.sim_2_links.specs.Stages.{Conn}
use Rattle.sim_2_links.specs.Wires.{down_words, is_flowing, up_words}
use Rattle.sim_3_images.proofs.Moves.{no_items_down, no_items_up}
use Rattle.sim_3_images.specs.Devices.{identity_at}
use Rattle.sim_3_images.specs.Relayable.{ClientFits, DownFits, ServerFits, UpFits}
use Rattle.sim_3_images.specs.Stands.{StandingServers}
use Rattle.sim_3_images.specs.WorldEncodings.{Both, DeviceEncodes, WireAt}
use Rattle.sim_3_items.specs.Clients.{client_phase}
use Rattle.sim_3_items.specs.Identities.{Identity, Login}
use Rattle.sim_3_items.specs.ItemPipes.{ItemWire}
use Rattle.sim_3_items.specs.Labels.{awaits}
use Rattle.sim_3_items.specs.Pipes.{IsShown, IsWire, by_number}
use Rattle.sim_5_moves.specs.Running.{DeviceSimulates, IsOwned}
use Rattle.sim_7_schedules.proofs.Settled.{both_there}
use Rattle.sim_7_schedules.specs.Simulation.{Simulates}
use Rattle.xml_writer.specs.Items.{ItemOut}

none_mapped : {A B : Type 0} (f : A → B) (xs : List A) → map f xs ≡ [] → xs ≡ []
none_mapped f [] is = refl
none_mapped f (x ∷ xs) is = absurd (let bad : ⊥ = cc in bad)

next_position : (wires : List ItemWire) (position : ℕ) → by_number wires (position + 1) ≡ slice_get wires position
next_position wires position = (let same : position + 1 ≡ suc position = omega arith in ap (by_number wires) same)

other_some : {A B : Type 0} (R : A → B → Type 0) (oa : Option A) (ob : Option B) (b : B) → ob ≡ Some b → Both R oa ob → (a : A) × (oa ≡ Some a) × R a b
other_some R oa None b is both = absurd (none-some b is)
other_some R None (Some y) b is both = absurd both
other_some R (Some x) (Some y) b is both = (x, refl, subst (λ z. R x z) (same_Some y b is) both)

shown_wire : (who : Identity) (x : Login) (k : ℕ) (c : Conn ItemOut) (o : Option ItemWire) → IsShown who x k (Some c) o → (p : ItemWire) × (o ≡ Some p) × IsWire who x k c p
shown_wire who x k c None is = absurd is
shown_wire who x k c (Some p) is = (p, refl, is)

module _ (s : WireView) (W : ByteWorld) (x : AppWorld) (beside : Simulates s W x) (i : ℕ) (o : Owned) (owned : IsOwned s i o) where
  abbrev pub links_here : DeviceSimulates s beside.items x i o
  links_here = beside.runs.simulation.devices i o owned

  abbrev who : Identity
  who = identity_at s i o

  pub reached : LinkReached links_here.view
  reached = prompt_runs awaits links_here.view links_here.prompt

  -- ---- the client

  pub device_is : (d : DeviceState) → slice_get W.devices i ≡ Some d → DeviceEncodes d links_here.represents.device
  device_is d at = both_there DeviceEncodes (slice_get W.devices i) (slice_get beside.items.devices i) d links_here.represents.device at links_here.represents.there (beside.encodes.encoding.devices i)

  -- the connection that it has
  pub conn_here : (position : ℕ) (d : DeviceState) → slice_get W.devices i ≡ Some d → d.here ≡ Some position → (c : Conn ItemOut) × (links_here.view.conns (position + 1) ≡ Some c) × ((links_here.view.here ≡ Some (position + 1)) ⊎ (is_flowing c.wires ≡ false))
  conn_here position d at here = links_here.represents.client.has position (sym (device_is d at).here ∙ here)

  pub phase_is : (k : ℕ) (c : Conn ItemOut) (d : DeviceState) → slice_get W.devices i ≡ Some d → links_here.view.here ≡ Some k → links_here.view.conns k ≡ Some c → d.client.client.phase ≡ client_phase who (links_here.logins k) c.client
  phase_is k c d at here is = ap (λ client. client.phase) (device_is d at).client ∙ links_here.represents.client.phase k c here is

  pub epoch_is : (d : DeviceState) → slice_get W.devices i ≡ Some d → d.client.client.epoch ≡ links_here.view.epoch
  epoch_is d at = ap (λ client. client.epoch) (device_is d at).client ∙ links_here.represents.client.epoch

  -- ---- a connection

  pub record Pair (position : ℕ) (c : Conn ItemOut) : Type 0 where
    pub bytes : Wire
    pub there : slice_get W.wires position ≡ Some bytes
    pub items : ItemWire
    pub there_items : slice_get beside.items.wires position ≡ Some items
    pub is_wire : IsWire who (links_here.logins (position + 1)) (position + 1) c items
    pub encodes : WireAt W beside.items position bytes items

  pub pair_at : (position : ℕ) (c : Conn ItemOut) → links_here.view.conns (position + 1) ≡ Some c → Pair position c
  pair_at position c is =
      let shown = links_here.represents.pipes.each (position + 1) in
      let by_conn = subst (λ q. IsShown who (links_here.logins (position + 1)) (position + 1) q (by_number beside.items.wires (position + 1))) is shown in
      let found = shown_wire who (links_here.logins (position + 1)) (position + 1) c (by_number beside.items.wires (position + 1)) by_conn in
      let there = sym (next_position beside.items.wires position) ∙ found.1 in
      let bytes = other_some (WireAt W beside.items position) (slice_get W.wires position) (slice_get beside.items.wires position) found.0 there (beside.encodes.encoding.wires position) in
      record { bytes = bytes.0; there = bytes.1; items = found.0; there_items = there; is_wire = found.2; encodes = bytes.2 }

  pub of_device : (position : ℕ) (c : Conn ItemOut) (pair : Pair position c) → pair.bytes.device ≡ i
  of_device position c pair = pair.encodes.device ∙ pair.is_wire.of

  flowing : (c : Conn ItemOut) → is_flowing c.wires ≡ true → not (is_flowing c.wires) ≡ false
  flowing c flows = ap not flows

  -- where no bytes are under way, no words are
  pub no_words_up : (position : ℕ) (c : Conn ItemOut) → links_here.view.conns (position + 1) ≡ Some c → is_flowing c.wires ≡ true → IsUpNone position W.wires → up_words c.wires ≡ []
  no_words_up position c is flows none =
      let p = pair_at position c is in
      let open_still : p.bytes.up.ended ≡ false = p.encodes.up.ended ∙ p.is_wire.up_ended ∙ flowing c flows in
      let items = no_items_up UpFits DownFits (StandingServers ServerFits) ClientFits W beside.items position p.bytes p.items beside.encodes p.there p.there_items open_still (none p.bytes p.there) in
      none_mapped _ (up_words c.wires) (sym p.is_wire.up ∙ items.1)

  pub no_words_down : (position : ℕ) (c : Conn ItemOut) → links_here.view.conns (position + 1) ≡ Some c → is_flowing c.wires ≡ true → IsDownNone position W.wires → down_words c.wires ≡ []
  no_words_down position c is flows none =
      let p = pair_at position c is in
      let open_still : p.bytes.down.ended ≡ false = p.encodes.down.ended ∙ p.is_wire.down_ended ∙ flowing c flows in
      let items = no_items_down UpFits DownFits (StandingServers ServerFits) ClientFits W beside.items position p.bytes p.items beside.encodes p.there p.there_items open_still (none p.bytes p.there) in
      none_mapped _ (down_words c.wires) (sym p.is_wire.down ∙ items.1)

  -- where no pipe has ended, the words flow
  pub flows_where : (position : ℕ) (c : Conn ItemOut) (b : Wire) → links_here.view.conns (position + 1) ≡ Some c → slice_get W.wires position ≡ Some b → b.up.ended ≡ false → is_flowing c.wires ≡ true
  flows_where position c b is at still =
      let p = pair_at position c is in
      let same : p.bytes ≡ b = same_Some p.bytes b (sym p.there ∙ at) in
      let ended : p.bytes.up.ended ≡ false = subst (λ (w : Wire). w.up.ended ≡ false) (sym same) still in
      not-false (is_flowing c.wires) (sym p.is_wire.up_ended ∙ sym p.encodes.up.ended ∙ ended)
