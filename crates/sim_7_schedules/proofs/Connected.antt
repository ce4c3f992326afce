-- Behind a run the clients whose connections are open are online.
use Rattle.std.proofs.Common.{◌≡◌, ◌⊎◌, ℕ, ◌+◌, ◌≤◌, ◌<◌, true, false, List, Some, length, sym, ap, ◌∙◌, subst, arith, inl, inr}
use Rattle.std.proofs.lemmas.Bool.{false≢true}
use Rattle.std.proofs.lemmas.Option.{slice_get_within}
use Rattle.std.specs.List.{slice_get}
use Rattle.std.specs.Option.{option_map_or}
use Rattle.cl_handlers.specs.declared.phase.Phase.TheVariants as phase
use Rattle.cmd_network.specs.Devices.{DeviceState}
use Rattle.cmd_network.specs.declared.wire.Wire.{Wire}
use Rattle.cmd_schedule.specs.Contents.{Owned}
use Rattle.cmd_schedule.specs.LineLists.{IsLineList}
use Rattle.cmd_schedule.specs.Schedules.{WireView}
use Rattle.cmd_schedule.specs.declared.schedule.WireLine.{WireLine}
use Rattle.cmd_world.specs.Histories.{world_of}
use Rattle.cmd_world.specs.Moves.{all_moved}
use Rattle.cmd_world.specs.WorldReports.{is_open}
use Rattle.cmd_world.specs.Worlds.{ByteWorld}
use Rattle.law_calm.proofs.Online.{online_then}
use Rattle.law_calm.proofs.Staying.{flows_rounds}
use Rattle.law_calm.specs.Rounds.{AreRounds, IsAny, rounds_to_go}
use Rattle.sim_7_schedules.proofs.Along.{Along, joined, moves_end, run_along, run_ends, run_moves}
use Rattle.sim_7_schedules.proofs.Handing.{HasHere, here_of, hands_before, rounds_hand}
use Rattle.sim_7_schedules.proofs.RunRounds.{conn_of, rounds_in}
use Rattle.sim_7_schedules.proofs.LinksShown as shown
use Rattle.sim_7_schedules.specs.LastLines.{AreLinks, EndsInRun, GoesByRounds, IsConnected, world_behind}
use Rattle.sim_1_applications.specs.Devices.{AppWorld}
use Rattle.sim_1_applications.specs.Histories.{state_after}
use Rattle.sim_1_applications.proofs.Lists.{all_at}
use Rattle.sim_2_links.specs.Machine.{LinkReached}
use Rattle.sim_2_links.specs.Stages.{Conn}
use Rattle.sim_2_links.specs.Views.{View}
use Rattle.sim_2_links.specs.Wires.{is_flowing}
use Rattle.sim_2_links.specs.Words.{Client, InHeader1, InFeatures1, InAuth, InResponse, InHeader2, InFeatures2, InResume, InBind, InEnable, InOnline}
use Rattle.sim_3_images.proofs.BookedMoves.{last_world}
use Rattle.sim_3_images.proofs.MovesKept.{kept_after, kept_first}
use Rattle.sim_3_images.specs.Devices.{identity_at}
use Rattle.sim_3_images.specs.Kept.{IsFlowing, IsWorldKept}
use Rattle.sim_3_images.specs.WorldEncodings.{DeviceEncodes}
use Rattle.sim_3_items.specs.Clients.{client_phase}
use Rattle.sim_5_moves.proofs.Known.{owned_there}
use Rattle.sim_5_moves.specs.Running.{IsOwned}
use Rattle.sim_7_schedules.proofs.Settled.{both_some}
use Rattle.sim_7_schedules.specs.Simulation.{SimulatesBy, bounds}
use Rattle.xml_writer.specs.Items.{ItemOut}

pub most_rounds : (c : Client) → rounds_to_go c ≤ 7
most_rounds InHeader1 = omega arith
most_rounds InFeatures1 = omega arith
most_rounds InAuth = omega arith
most_rounds InResponse = omega arith
most_rounds InHeader2 = omega arith
most_rounds InFeatures2 = omega arith
most_rounds (InResume p) = omega arith
most_rounds InBind = omega arith
most_rounds InEnable = omega arith
most_rounds (InOnline p) = omega arith

-- ---- a device whose connection is open

module _ (s : WireView) (right : IsLineList s) (before : List WireLine) (n : ℕ) (ends : EndsInRun s before n) (i : ℕ) (d : DeviceState) (position : ℕ) (connected : IsConnected (world_of s) i d position) where
  abbrev pub behind : ByteWorld
  behind = world_behind s before

  abbrev pub end : ByteWorld
  end = all_moved (run_moves s before n) behind

  pub is_end : world_of s ≡ end
  is_end = run_ends s before n ends

  pub along : Along s (run_moves s before n) behind
  along = run_along s right before n ends

  abbrev pub last_applications : AppWorld
  last_applications = state_after along.applications (joined along.events)

  pub by_end : SimulatesBy s end last_applications along.last
  by_end = moves_end s (run_moves s before n) along.events along.views along.last behind along.applications along.by along.go

  kept : IsWorldKept s (world_of s)
  kept = last_world (IsWorldKept s) (kept_after s) s (kept_first s)

  here : d.here ≡ Some position
  here = (kept.newest i d connected.there).here position connected.newest (ap (λ q. option_map_or (λ (b : Wire). is_open b.end) q false) connected.at ∙ connected.stands)

  still : connected.wire.up.ended ≡ false
  still = (all_at IsFlowing (world_of s).wires position connected.wire kept.flowing connected.at connected.stands).0

  pub there_end : slice_get end.devices i ≡ Some d
  there_end = ap (λ (W : ByteWorld). slice_get W.devices i) (sym is_end) ∙ connected.there

  at_end : slice_get end.wires position ≡ Some connected.wire
  at_end = ap (λ (W : ByteWorld). slice_get W.wires position) (sym is_end) ∙ connected.at

  has_here : HasHere i position end
  has_here = ap here_of there_end ∙ here

  pub has_here_before : HasHere i position behind
  has_here_before = hands_before (run_moves s before n) behind i position (rounds_hand n (length behind.wires)) has_here

  -- it is one of the schedule's
  pub owner : (o : Owned) × IsOwned s i o
  owner =
      let item = both_some DeviceEncodes (slice_get end.devices i) (slice_get by_end.beside.items.devices i) d there_end (by_end.beside.encodes.encoding.devices i) in
      owned_there s bounds by_end.beside.says by_end.beside.items last_applications by_end.beside.runs i item.0 item.1

  module _ (o : Owned) (owned : IsOwned s i o) where
    abbrev pub first : View ItemOut
    first = along.views i o owned

    abbrev pub last : View ItemOut
    last = along.last i o owned

    pub conn_first : (c : Conn ItemOut) × (first.conns (position + 1) ≡ Some c) × ((first.here ≡ Some (position + 1)) ⊎ (is_flowing c.wires ≡ false))
    conn_first = conn_of s i o owned position along.views behind along.applications along.by has_here_before

    pub conn_last : (c : Conn ItemOut) × (last.conns (position + 1) ≡ Some c) × ((last.here ≡ Some (position + 1)) ⊎ (is_flowing c.wires ≡ false))
    conn_last = conn_of s i o owned position along.last end last_applications by_end has_here

    abbrev pub begins : Conn ItemOut
    begins = conn_first.0

    abbrev pub becomes : Conn ItemOut
    becomes = conn_last.0

    pub is_begins : first.conns (position + 1) ≡ Some begins
    is_begins = conn_first.1

    pub is_becomes : last.conns (position + 1) ≡ Some becomes
    is_becomes = conn_last.1

    -- as the world beside has it
    pub shown_first : (along.by.beside.runs.simulation.devices i o owned).view ≡ first
    shown_first = along.by.shown i o owned

    pub shown_last : (by_end.beside.runs.simulation.devices i o owned).view ≡ last
    shown_last = by_end.shown i o owned

    pub flows : is_flowing becomes.wires ≡ true
    flows = shown.flows_where s end last_applications by_end.beside i o owned position becomes connected.wire (ap (λ (v : View ItemOut). v.conns (position + 1)) shown_last ∙ is_becomes) at_end still

    works_or : (v : View ItemOut) (c : Conn ItemOut) → is_flowing c.wires ≡ true → (v.here ≡ Some (position + 1)) ⊎ (is_flowing c.wires ≡ false) → v.here ≡ Some (position + 1)
    works_or v c goes (inl is) = is
    works_or v c goes (inr over) = absurd (false≢true (sym over ∙ goes))

    pub here_last : last.here ≡ Some (position + 1)
    here_last = works_or last becomes flows conn_last.2

    below : position < length behind.wires
    below =
        let p = shown.pair_at s behind along.applications along.by.beside i o owned position begins (ap (λ (v : View ItemOut). v.conns (position + 1)) shown_first ∙ is_begins) in
        slice_get_within behind.wires position p.bytes p.there

    pub rounds : AreRounds IsAny (position + 1) n first last
    rounds = rounds_in s i o owned position n (length behind.wires) along.events along.views along.last behind along.applications becomes along.by along.go below has_here is_becomes flows

    pub here_first : first.here ≡ Some (position + 1)
    here_first = works_or first begins (flows_rounds IsAny n first last (position + 1) begins becomes rounds is_begins is_becomes flows) conn_first.2

    pub reached_first : LinkReached first
    reached_first = subst LinkReached shown_first (shown.reached s behind along.applications along.by.beside i o owned)

    -- ---- the laws

    pub goes_by_rounds : GoesByRounds s behind (world_of s) i o position n
    goes_by_rounds = record {
      first = first;
      last = last;
      links = record { applications = along.applications; beside = along.by.beside; owned = owned; shown = shown_first };
      links_then = subst (λ W. AreLinks s W i o last) (sym is_end) (record { applications = last_applications; beside = by_end.beside; owned = owned; shown = shown_last });
      rounds = rounds;
    }

    pub phase_last : (p : ℕ) → becomes.client ≡ InOnline p → d.client.client.phase ≡ phase.Online
    phase_last p is =
        shown.phase_is s end last_applications by_end.beside i o owned (position + 1) becomes d there_end (ap (λ (v : View ItemOut). v.here) shown_last ∙ here_last) (ap (λ (v : View ItemOut). v.conns (position + 1)) shown_last ∙ is_becomes)
        ∙ ap (λ c. client_phase (identity_at s i o) ((by_end.beside.runs.simulation.devices i o owned).logins (position + 1)) c) is

    pub online : 7 ≤ n → (p : ℕ) × (becomes.client ≡ InOnline p)
    online enough = let low = most_rounds begins.client in online_then first last (position + 1) n begins becomes reached_first here_first is_begins rounds (omega (arith, low, enough)) is_becomes flows

  pub is_online : 7 ≤ n → d.client.client.phase ≡ phase.Online
  is_online enough = let it = online owner.0 owner.1 enough in phase_last owner.0 owner.1 it.0 it.1
