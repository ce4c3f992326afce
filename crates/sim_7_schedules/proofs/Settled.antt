-- A device of a world of bytes that is settled is at rest.
use Rattle.std.proofs.Common.{◌≡◌, ℕ, suc, ◌+◌, ◌&&◌, Bool, true, false, not, List, [], ◌∷◌, Option, Some, None, length, map, refl, sym, ap, subst, ◌∙◌, arith, inl, inr}
use Rattle.std.proofs.lemmas.Bool.{and_parts, eqb-true, false≢true}
use Rattle.std.proofs.lemmas.Option.{none-some, same_Some}
use Rattle.std.specs.Option.{option_map_or}
use Rattle.std.specs.Prelude.{slice_get}
use Rattle.sim_3_images.specs.Relayable.{ClientFits, DownFits, ServerFits, UpFits}
use Rattle.sim_3_images.specs.Devices.{identity_at}
use Rattle.sim_3_items.specs.Pipes.{IsShown, IsWire, by_number}
use Rattle.cmd_network.specs.Devices.{DeviceState}
use Rattle.sim_3_images.proofs.Moves.{no_items_down, no_items_up}
use Rattle.sim_3_images.specs.Stands.{StandingServers}
use Rattle.sim_3_images.specs.WorldEncodings.{Both, DeviceEncodes, WireAt, WorldEncodes}
use Rattle.sim_3_items.specs.ItemPipes.{ItemWire}
use Rattle.sim_3_items.specs.ItemWorlds.{ItemWorld}
use Rattle.sim_2_links.specs.Stages.{Conn}
use Rattle.sim_2_links.specs.Wires.{down_words, is_flowing, up_words}
use Rattle.sim_5_devices.proofs.Rest.{settled_rests}
use Rattle.net_pipes.specs.Pipes.{Pipe, is_empty}
use Rattle.cmd_schedule.specs.Contents.{Owned}
use Rattle.cmd_schedule.specs.Schedules.{WireView}
use Rattle.sim_1_applications.specs.Devices as sessions
use Rattle.sim_1_applications.specs.Reported.{IsAtRest}
use Rattle.sim_1_applications.proofs.Lists.{all_at}
use Rattle.cmd_network.specs.declared.wire.Wire.{Wire}
use Rattle.cmd_world.specs.WorldReports.{is_idle_wire, is_open, is_settled, is_settled_at, is_settled_on, server_holds_part}
use Rattle.cmd_world.specs.Worlds.{ByteWorld, number_at}
use Rattle.sim_3_images.specs.Kept.{IsFlowing, IsWorldKept}
use Rattle.sim_5_moves.specs.Running.{DeviceSimulates}
use Rattle.xml_writer.specs.Items.{ItemOut}
use Rattle.xml_trees.proofs.AttributeOrder.{nothing_left as none_long}

-- ---- lists

pub both_some : {A B : Type 0} (R : A → B → Type 0) (oa : Option A) (ob : Option B) (a : A) → oa ≡ Some a → Both R oa ob → (b : B) × (ob ≡ Some b) × R a b
both_some R None ob a is both = absurd (none-some a is)
both_some R (Some x) None a is both = absurd both
both_some R (Some x) (Some y) a is both = (y, refl, subst (λ z. R z y) (same_Some x a is) both)

pub both_there : {A B : Type 0} (R : A → B → Type 0) (oa : Option A) (ob : Option B) (a : A) (b : B) → oa ≡ Some a → ob ≡ Some b → Both R oa ob → R a b
both_there R oa ob a b is other both =
    let found = both_some R oa ob a is both in
    subst (λ y. R a y) (same_Some found.0 b (sym found.1 ∙ other)) found.2

none_mapped : {A B : Type 0} (f : A → B) (xs : List A) → map f xs ≡ [] → xs ≡ []
none_mapped f [] is = refl
none_mapped f (x ∷ xs) is = absurd (let bad : ⊥ = cc in bad)

empty_is : (p : Pipe) → is_empty p ≡ true → p.bytes ≡ []
empty_is p is = none_long p.bytes (eqb-true (length p.bytes) 0 is)

next_position : (wires : List ItemWire) (position : ℕ) → by_number wires (position + 1) ≡ slice_get wires position
next_position wires position = (let same : position + 1 ≡ suc position = omega arith in ap (by_number wires) same)

flows_by : (b : Bool) → false ≡ not b → b ≡ true
flows_by true is = refl
flows_by false is = absurd (false≢true is)

-- ---- a connection that is open and has no bytes

module _ (schedule : WireView) (w : ByteWorld) (v : ItemWorld) (x : sessions.AppWorld) (encodes : WorldEncodes UpFits DownFits (StandingServers ServerFits) ClientFits w v) (kept : IsWorldKept schedule w) (i : ℕ) (o : Owned) (runs : DeviceSimulates schedule v x i o)
    (d : DeviceState) (there : slice_get w.devices i ≡ Some d) where
  -- the device of items
  pub device_encodes : DeviceEncodes d runs.represents.device
  device_encodes = both_there DeviceEncodes (slice_get w.devices i) (slice_get v.devices i) d runs.represents.device there runs.represents.there (encodes.encoding.devices i)

  wire_shown : (position : ℕ) (c : Conn ItemOut) (p : ItemWire) → runs.view.conns (position + 1) ≡ Some c → slice_get v.wires position ≡ Some p → IsWire (identity_at schedule i o) (runs.logins (position + 1)) (position + 1) c p
  wire_shown position c p conn at =
      let shown = runs.represents.pipes.each (position + 1) in
      let who = identity_at schedule i o in
      let by_wire = subst (λ q. IsShown who (runs.logins (position + 1)) (position + 1) (runs.view.conns (position + 1)) q) (next_position v.wires position ∙ at) shown in
      subst (λ q. IsShown who (runs.logins (position + 1)) (position + 1) q (Some p)) conn by_wire

  rests_on : (position : ℕ) (b : Wire) → slice_get w.wires position ≡ Some b → is_open b.end ≡ true → b.up.bytes ≡ [] → b.down.bytes ≡ [] → d.newest ≡ Some position → IsAtRest runs.device.sessions
  rests_on position b at opened up_none down_none newest =
      let flowing = all_at IsFlowing w.wires position b kept.flowing at opened in
      let here = (kept.newest i d there).here position newest (ap (λ q. option_map_or (λ (e : Wire). is_open e.end) q false) at ∙ opened) in
      let has = runs.represents.client.has position (sym device_encodes.here ∙ here) in
      let wire = both_some (WireAt w v position) (slice_get w.wires position) (slice_get v.wires position) b at (encodes.encoding.wires position) in
      let up = no_items_up UpFits DownFits (StandingServers ServerFits) ClientFits w v position b wire.0 encodes at wire.1 flowing.0 up_none in
      let down = no_items_down UpFits DownFits (StandingServers ServerFits) ClientFits w v position b wire.0 encodes at wire.1 flowing.1 down_none in
      let shown = wire_shown position has.0 wire.0 has.1 wire.1 in
      let flows : is_flowing has.0.wires ≡ true = flows_by (is_flowing has.0.wires) (sym up.0 ∙ shown.up_ended) in
      let no_up : up_words has.0.wires ≡ [] = none_mapped _ (up_words has.0.wires) (sym shown.up ∙ up.1) in
      let no_down : down_words has.0.wires ≡ [] = none_mapped _ (down_words has.0.wires) (sym shown.down ∙ down.1) in
      let works : runs.view.here ≡ Some (position + 1) = elim has.2 [
        | inl is ↦ is
        | inr over ↦ absurd (false≢true (sym over ∙ flows))
      ] in
      settled_rests runs.view (position + 1) has.0 runs.device.sessions runs.prompt runs.sessions works has.1 flows no_up no_down

  settled_on : (position : ℕ) (q : Option Wire) → slice_get w.wires position ≡ q → d.newest ≡ Some position → option_map_or (is_settled_on position w.server d) q false ≡ true → IsAtRest runs.device.sessions
  settled_on position None at newest settled = absurd (false≢true settled)
  settled_on position (Some b) at newest settled =
      let outer = and_parts (is_open b.end && is_idle_wire b && not (server_holds_part (number_at position) w.server)) _ settled in
      let inner = and_parts (is_open b.end && is_idle_wire b) _ outer.0 in
      let both = and_parts (is_open b.end) (is_idle_wire b) inner.0 in
      let quiet = and_parts (is_empty b.up) (is_empty b.down) both.1 in
      rests_on position b at both.0 (empty_is b.up quiet.0) (empty_is b.down quiet.1) newest

  settled_at : (n : Option ℕ) → d.newest ≡ n → is_settled_at n d w ≡ true → IsAtRest runs.device.sessions
  settled_at None newest settled = absurd (false≢true settled)
  settled_at (Some position) newest settled = settled_on position (slice_get w.wires position) refl newest settled

  pub settled_device : is_settled w d ≡ true → IsAtRest runs.device.sessions
  settled_device settled = settled_at d.newest refl settled
