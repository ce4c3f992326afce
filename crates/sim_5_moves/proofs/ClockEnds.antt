-- The end of a connection is told to the server.
use Rattle.std.proofs.Common.{◌≡◌, ℕ, ◌+◌, ◌≤◌, Bool, true, false, List, [], Option, Some, None, max, length, slice_get, if◌then◌else◌, refl, sym, ap, subst, ◌∙◌, inl, inr, arith}
use Rattle.std.proofs.lemmas.Bool.{cases_eq}
use Rattle.sim_4_links_follow.specs.Following.{WorldFollows}
use Rattle.sim_5_moves.proofs.Still.{nobody_runs, told_runs}
use Rattle.sim_3_images.proofs.UserMoves.{length_where}
use Rattle.sim_3_images.specs.Relayable.{ClientFits, DownFits, ServerFits, UpFits}
use Rattle.srv_state.specs.Moments.{at_moment, gone_at}
use Rattle.srv_state.specs.State.{ServerState}
use Rattle.sim_3_images.specs.Devices.{identity_at}
use Rattle.sim_3_items.specs.Labels.{awaits}
use Rattle.sim_3_images.specs.Stands.{ServerStateStands}
use Rattle.sim_3_images.proofs.FittingEncodings.{keep_here, takes_any}
use Rattle.sim_3_images.proofs.MoveSteps.{move_fits}
use Rattle.sim_3_images.specs.Fitting.{FitsHere}
use Rattle.sim_3_items.specs.ItemMoves.{UpEnd, moved, reported_up}
use Rattle.sim_3_items.specs.ItemPipes.{ItemWire, is_end_due, up_end_reported}
use Rattle.sim_3_items.specs.ItemWorlds.{ItemWorld}
use Rattle.sim_2_links.proofs.WithPremises.{prompt_runs}
use Rattle.sim_2_links.specs.Machine.{LinkReached}
use Rattle.sim_5_moves.specs.Silent.{AreFlagsKept, SilentWorld}
use Rattle.cmd_schedule.specs.Contents.{Owned}
use Rattle.cmd_schedule.specs.Schedules.{WireView}
use Rattle.cmd_schedule.specs.LineLists.{IsLineList}
use Rattle.sim_3_images.proofs.Within.{gone_within, moment_within}
use Rattle.sim_3_images.specs.Unbound.{IsWithin}
use Rattle.sim_5_moves.proofs.Events.{gone_flags, gone_runs, moment_flags, moment_runs}
use Rattle.sim_1_applications.specs.Devices.{AppWorld}
use Rattle.sim_1_applications.specs.Runs.{owned_of}
use Rattle.sim_5_moves.proofs.Goes.{apart_of}
use Rattle.sim_5_moves.proofs.Kept.{kept_flags}
use Rattle.sim_5_moves.proofs.Quietly.{quiet_device, quiet_move}
use Rattle.sim_5_moves.proofs.Wires.{at_same}
use Rattle.cmd_network.specs.Positions.{changed_at}
use Rattle.sim_4_links_follow.proofs.StandMoves.{move_stands}
use Rattle.sim_4_links_follow.proofs.UpEnds.{end_beside, end_in}
use Rattle.sim_5_moves.specs.Running.{Bounds, DeviceSimulates, IsOwned, MoveSimulates, WorldSimulates, keep_in, names_of}
use Rattle.xml_writer.specs.Items.{ItemOut}

module _ (schedule : WireView) (b : Bounds) (says : ℕ) (w : ItemWorld) (x : AppWorld) (right : IsLineList schedule) (runs : WorldSimulates schedule b says w x) (position : ℕ) where
  module _ (wire : ItemWire) (there : slice_get w.wires position ≡ Some wire) (due : is_end_due wire.up ≡ true) where
    abbrev later : ServerState ItemOut
    later = at_moment w.moment w.server

    abbrev gone : ServerState ItemOut
    gone = gone_at (position + 1) later

    abbrev after : ItemWorld
    after = record w { server = gone; wires = changed_at position up_end_reported w.wires }

    is_after : moved (UpEnd position) w ≡ after
    is_after = ap (λ e. reported_up position e w) there ∙ ap (λ c. if c then after else w) due

    later_within : IsWithin (length w.wires) later
    later_within = moment_within w.moment (length w.wires) w.server runs.in_bounds.within

    many_wires : length after.wires ≡ length w.wires
    many_wires = length_where (Some position) up_end_reported w.wires

    -- ---- each device

    reached : (i : ℕ) (o : Owned) (old : DeviceSimulates schedule w x i o) → LinkReached old.view
    reached i o old = prompt_runs awaits old.view old.prompt

    beside : (i : ℕ) (o : Owned) → IsOwned schedule i o → (old : DeviceSimulates schedule w x i o) → (wire.device ≡ i → ⊥) → WorldFollows (identity_at schedule i o) old.logins (moved (UpEnd position) w) old.view []
    beside i o is old apart =
        let owner = runs.simulation.wires position wire there in
        let own = runs.simulation.devices wire.device owner.0 owner.1 in
        end_beside (identity_at schedule wire.device owner.0) own.logins w own.view own.represents (reached wire.device owner.0 own) position wire there refl (identity_at schedule i o) old.logins old.view
        (record { apart = apart_of schedule right wire.device i owner.0 o owner.1 is apart; reached = reached i o old; represents = old.represents })

    follows : (i : ℕ) (o : Owned) → IsOwned schedule i o → (old : DeviceSimulates schedule w x i o) → WorldFollows (identity_at schedule i o) old.logins (moved (UpEnd position) w) old.view []
    follows i o is old = elim (cases_eq wire.device i) [
      | inl same ↦ end_in (identity_at schedule i o) old.logins w old.view old.represents (reached i o old) position wire there same
      | inr apart ↦ beside i o is old apart
    ]

    flags : (account : ℕ) (resource : List ℕ) → AreFlagsKept account resource w.server gone
    flags account resource =
        kept_flags account resource w.server gone
        (λ d represents. gone_flags later account resource d later_within.ordered.sessions (moment_flags w.server account resource d runs.in_bounds.within.ordered.sessions represents w.moment) (position + 1))

    -- ---- the world

    wires_are : (q : ℕ) (other : ItemWire) → slice_get after.wires q ≡ Some other → (p : Owned) × IsOwned schedule other.device p
    wires_are q other at =
        let was = at_same up_end_reported (λ v. refl) position w.wires q other at in
        let owner = runs.simulation.wires q was.0 was.1 in
        (owner.0, subst (λ d. IsOwned schedule d owner.0) (sym was.2) owner.1)

    quiet : SilentWorld schedule b w x after 0
    quiet = record {
      devices = λ i o is old.
          quiet_device schedule w x after i o old refl (subst (λ (a : ItemWorld). WorldFollows (identity_at schedule i o) old.logins a old.view []) is_after (follows i o is old))
          (inl (flags (identity_at schedule i o).account o.device));
      many = refl;
      dialled = subst (λ n. n ≤ b.dials) (sym many_wires) runs.in_bounds.dialled;
      wires = wires_are;
      server = gone_runs (keep_in schedule) (owned_of schedule) (names_of schedule) x.takes later (moment_runs (keep_in schedule) (owned_of schedule) (names_of schedule) x.takes w.server runs.simulation.server w.moment) (position + 1);
      takes = refl;
      moment = let same : w.moment ≡ w.moment + 0 = omega arith in same;
      now = let shown = runs.simulation.now in let same : max w.server.moment w.moment ≡ w.moment = omega (arith, shown) in same;
      fits = subst FitsHere is_after (move_fits UpFits DownFits ServerFits ClientFits keep_here takes_any (UpEnd position) w runs.in_bounds.fits tt);
      stands = subst (λ (a : ItemWorld). ServerStateStands (length a.wires) a.server) is_after (move_stands (UpEnd position) w tt runs.in_bounds.stands);
      within = subst (λ n. IsWithin n gone) (sym many_wires) (gone_within (position + 1) (length w.wires) later later_within);
    }

    due_runs : MoveSimulates schedule b says (UpEnd position) w x runs
    due_runs = quiet_move schedule b says w x runs (UpEnd position) 0 refl (λ i d e same. same) (λ i. refl) (subst (λ (a : ItemWorld). SilentWorld schedule b w x a 0) (sym is_after) quiet)

  by_due : (wire : ItemWire) → slice_get w.wires position ≡ Some wire → (c : Bool) → is_end_due wire.up ≡ c → MoveSimulates schedule b says (UpEnd position) w x runs
  by_due wire there false early = told_runs schedule b says w x runs position wire there early
  by_due wire there true due = due_runs wire there due

  by_wire : (e : Option ItemWire) → slice_get w.wires position ≡ e → MoveSimulates schedule b says (UpEnd position) w x runs
  by_wire None none = nobody_runs schedule b says w x runs (UpEnd position) none
  by_wire (Some wire) there = by_due wire there (is_end_due wire.up) refl

  pub end_runs : MoveSimulates schedule b says (UpEnd position) w x runs
  end_runs = by_wire (slice_get w.wires position) refl
