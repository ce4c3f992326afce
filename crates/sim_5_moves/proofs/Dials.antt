-- A device dials: a connection more comes, and before it the moment may end sessions that were parked for too long.
use Rattle.std.proofs.Common.{◌≡◌, ◌≢◌, ◌⊎◌, ℕ, zero, suc, ◌+◌, ◌<◌, ◌≤◌, ◌==◌, ◌^◌, not, max, Bool, true, false, List, [], ◌∷◌, ◌++◌, Option, Some, None, length, map, slice_get, refl, sym, ap, subst, ◌∙◌, inl, inr, arith, length-append}
use Rattle.std.proofs.Math.Nat.{max-eq_left}
use Rattle.std.proofs.lemmas.Bool.Decides.{Decides-eqb}
use Rattle.std.proofs.lemmas.Option.{none-some, same_Some, slice_get_within}
use Rattle.mam_archive.proofs.NumberedEntries.{at_position}
use Rattle.cl_core.specs.UserCalls.{dials}
use Rattle.cl_handlers.specs.Clients.{ClientStep}
use Rattle.cl_handlers.specs.Speech.{in_items}
use Rattle.sim_4_links_follow.proofs.Comes.{dial_leaves, dial_lifts}
use Rattle.sim_4_links_follow.proofs.ConnectionsElsewhere.{of_its_own}
use Rattle.sim_4_links_follow.proofs.Numbered.{set_elsewhere}
use Rattle.sim_4_links_follow.specs.Following.{AreDialled, IsDrawn, WorldFollows, with_login}
use Rattle.sim_5_moves.proofs.Still.{nobody_runs}
use Rattle.sim_3_images.proofs.UserMoves.{get_set_same, length_where}
use Rattle.sim_3_images.specs.Relayable.{ClientFits, DownFits, ServerFits, UpFits}
use Rattle.srv_state.specs.Moments.{at_moment, with_fresh}
use Rattle.srv_state.specs.State.{ServerState}
use Rattle.sim_3_images.proofs.ScheduleLogins.{drawn_login}
use Rattle.sim_3_images.specs.Devices.{identity_at}
use Rattle.sim_3_images.specs.Logins.{HasLogin}
use Rattle.sim_3_items.specs.Labels.{awaits}
use Rattle.sim_3_items.specs.Identities.{Identity}
use Rattle.sim_3_items.specs.Pipes.{by_number}
use Rattle.sim_3_items.specs.Servers.{ServerFollows}
use Rattle.sim_5_moves.proofs.DownMovesTurns.{same_user}
use Rattle.sim_3_images.proofs.FittingEncodings.{keep_here, takes_any}
use Rattle.sim_3_images.proofs.MoveSteps.{move_fits}
use Rattle.sim_3_images.specs.Fitting.{FitsHere, MayItem}
use Rattle.sim_3_items.specs.ItemMoves.{Dial, dialed_by, fed_of, moved}
use Rattle.sim_3_items.specs.ItemPipes.{ItemWire, fresh_wire, left, put_up}
use Rattle.sim_3_items.specs.ItemWorlds.{ItemDevice, ItemWorld}
use Rattle.sim_2_links.proofs.WithPremises.{prompt_runs}
use Rattle.sm_live.specs.Rule.{IsRule}
use Rattle.sm_live.specs.Sessions.{is_expired, is_named}
use Rattle.sim_5_moves.proofs.Engine.{quiet_runs}
use Rattle.sim_5_moves.specs.Silent.{AreFlagsKept, SameUser, SilentDevice, SilentSimulates, SilentWorld}
use Rattle.cmd_schedule.specs.Contents.{Owned, accounts_of}
use Rattle.cmd_schedule.specs.Schedules.{WireView, keep_of}
use Rattle.cmd_schedule.specs.LineLists.{IsLineList}
use Rattle.sim_4_links_follow.proofs.MomentRows.{moment_follows}
use Rattle.sim_3_images.proofs.RuleKept.{none_left}
use Rattle.sim_3_images.proofs.WorldsWithin.{move_within}
use Rattle.sim_3_images.specs.Worlds.{IsWorldWithin}
use Rattle.sim_5_moves.proofs.Events.{fresh_runs, moment_flags, moment_runs}
use Rattle.sim_3_items.specs.Served.{ServerSimulates}
use Rattle.sim_1_applications.proofs.Runs.{taken_along, taken_beginning}
use Rattle.sim_1_applications.specs.Devices.{AppWorld}
use Rattle.sim_1_applications.specs.Kept.{Taken}
use Rattle.sim_1_applications.specs.Runs.{begins, owned_of, steps_in}
use Rattle.sim_5_moves.proofs.Called.{one_called, where_same}
use Rattle.cmd_network.specs.Positions.{changed_where}
use Rattle.cmd_world.specs.Worlds.{client_entropy, server_entropy}
use Rattle.sim_4_links_follow.proofs.StandMoves.{move_stands, stands_dialled}
use Rattle.sim_4_links_follow.specs.Standing.{ServerStands}
use Rattle.sim_5_moves.specs.Running.{AreSmall, Bounds, DeviceSimulates, IsInBounds, IsOwned, MoveSimulates, RunsOn, WorldSimulates, keep_in, names_of, DoesBy}
use Rattle.xml_writer.specs.Items.{ItemOut}
use Rattle.sim_5_moves.proofs.Doing.{without_labels}

-- ---- a list of one more

one_more_at : {T : Type 0} (l : List T) (x y : T) (p : ℕ) → slice_get (l ++ x ∷ []) p ≡ Some y → (slice_get l p ≡ Some y) ⊎ (x ≡ y)
one_more_at [] x y zero at = inr (same_Some x y at)
one_more_at [] x y (suc p) at = absurd (none-some y at)
one_more_at (z ∷ l) x y zero at = inl at
one_more_at (z ∷ l) x y (suc p) at = one_more_at l x y p at

module _ (schedule : WireView) (right : IsLineList schedule) (b : Bounds) (small : AreSmall b) (says : ℕ) (w : ItemWorld) (x : AppWorld) (runs : WorldSimulates schedule b says w x) (i : ℕ) (mine yours : List ℕ) (may : MayItem (Dial i mine yours))
    (bounds : IsInBounds b says (Dial i mine yours) w x) where
  module _ (o : Owned) (owned : IsOwned schedule i o) where
    abbrev n : ℕ
    n = length w.wires

    abbrev who : Identity
    who = identity_at schedule i o

    abbrev own : DeviceSimulates schedule w x i o
    own = runs.simulation.devices i o owned

    abbrev d : ItemDevice
    d = own.represents.device

    abbrev t : ClientStep ItemOut ItemOut
    t = (dials in_items mine (fed_of d.client)).turn

    abbrev dialling : ItemDevice
    dialling = record { client = t.client; here = Some n }

    abbrev fresh : ItemWire
    fresh = put_up t.out.put (fresh_wire i)

    abbrev server : ServerState ItemOut
    server = with_fresh (n + 1) yours (at_moment w.moment w.server)

    abbrev after : ItemWorld
    after = dialed_by i mine yours (Some d) w

    moved_so : moved (Dial i mine yours) w ≡ after
    moved_so = ap (λ e. dialed_by i mine yours e w) own.represents.there

    -- ---- the links

    draws : HasLogin who (client_entropy may.0) (server_entropy may.0)
    draws = drawn_login schedule i o right owned may.0

    drawn : IsDrawn who draws.login mine yours
    drawn = record { login = draws.is; mine = draws.at_client ∙ sym may.1; yours = draws.at_server ∙ sym may.2 }

    below : AreDialled n w.server
    below = stands_dialled w runs.in_bounds.stands

    moment_of : (j : ℕ) (p : Owned) (old : DeviceSimulates schedule w x j p) → ServerFollows (identity_at schedule j p) old.logins (at_moment w.moment w.server) (by_number w.wires) old.view []
    moment_of j p old = moment_follows (identity_at schedule j p) old.logins w.server (by_number w.wires) old.view w.moment old.represents.server old.represents.pipes

    rule : IsRule w.server.sessions w.server.next
    rule = runs.in_bounds.within.ordered.sessions

    kept_flags : (account : ℕ) (resource : List ℕ) → AreFlagsKept account resource w.server server
    kept_flags account resource = record {
      shown = λ s flags. moment_flags w.server account resource s rule flags w.moment;
      none = λ none. none_left (is_named account resource) (λ s. not (is_expired (max w.server.moment w.moment) s)) w.server.sessions none;
    }

    own_quiet : (old : DeviceSimulates schedule w x i o) → SilentDevice schedule w x i o old after
    own_quiet old = record {
      logins = with_login (n + 1) draws.login old.logins;
      follows =
          subst (λ v. WorldFollows who (with_login (n + 1) draws.login old.logins) v old.view []) moved_so
          (dial_lifts who old.logins w old.view old.represents (moment_of i o old) draws.login mine yours (prompt_runs awaits old.view old.prompt) drawn below);
      user = λ e at.
          subst (λ (y : ItemDevice). SameUser old.represents.device.client y.client) (same_Some dialling e (sym (get_set_same w.devices i d dialling own.represents.there) ∙ at))
          (subst (λ (y : ItemDevice). SameUser y.client dialling.client) (same_Some d old.represents.device (sym own.represents.there ∙ old.represents.there)) (same_user d.client t.client.phase));
      flags = inl (kept_flags who.account o.device);
    }

    other_quiet : (j : ℕ) (p : Owned) → j ≢ i → (old : DeviceSimulates schedule w x j p) → SilentDevice schedule w x j p old after
    other_quiet j p other old = record {
      logins = old.logins;
      follows =
          subst (λ v. WorldFollows (identity_at schedule j p) old.logins v old.view []) moved_so
          (dial_leaves (identity_at schedule j p) old.logins w old.view old.represents (moment_of j p old) i other d own.represents.there (of_its_own who own.logins w own.view own.represents j other) mine yours);
      user = λ e at.
          subst (λ (y : ItemDevice). SameUser old.represents.device.client y.client) (same_Some old.represents.device e (sym old.represents.there ∙ sym (set_elsewhere w.devices i j dialling other) ∙ at)) (same_user old.represents.device.client old.represents.device.client.phase);
      flags = inl (kept_flags (identity_at schedule j p).account p.device);
    }

    each_quiet : (j : ℕ) (p : Owned) → IsOwned schedule j p → (old : DeviceSimulates schedule w x j p) → SilentDevice schedule w x j p old after
    each_quiet j p is old = by (j == i) refl
      where
        here : (q : Owned) → IsOwned schedule i q → (r : DeviceSimulates schedule w x i q) → SilentDevice schedule w x i q r after
        here q at = subst (λ a. (r : DeviceSimulates schedule w x i a) → SilentDevice schedule w x i a r after) (same_Some o q (sym owned ∙ at)) own_quiet

        by : (at : Bool) → (j == i) ≡ at → SilentDevice schedule w x j p old after
        by true same = subst (λ k. (at : IsOwned schedule k p) (r : DeviceSimulates schedule w x k p) → SilentDevice schedule w x k p r after) (sym ((Decides-eqb j i).0 same)) (here p) is old
        by false other = other_quiet j p (λ e. let same : (j == i) ≡ true = (Decides-eqb j i).1 e in absurd (let no_way : ⊥ = cc in no_way)) old

    -- ---- the world

    many_wires : length after.wires ≡ n + 1
    many_wires =
        let before = length_where d.here left w.wires in
        let all = length-append (changed_where d.here left w.wires) (fresh ∷ []) in
        omega (arith, before, all)

    wires_are : (position : ℕ) (wire : ItemWire) → slice_get after.wires position ≡ Some wire → (q : Owned) × IsOwned schedule wire.device q
    wires_are position wire at = elim (one_more_at (changed_where d.here left w.wires) fresh wire position at) [
      | inl before ↦
          let was = where_same left (λ v. refl) d.here w.wires position wire before in
          let of = runs.simulation.wires position was.0 was.1 in
          (of.0, subst (λ k. IsOwned schedule k of.0) (sym was.2) of.1)
      | inr same ↦ (o, subst (λ (u : ItemWire). IsOwned schedule u.device o) same owned)
    ]

    runs_on : ServerSimulates (keep_in schedule) (owned_of schedule) (names_of schedule) x.takes server
    runs_on =
        fresh_runs (keep_in schedule) (owned_of schedule) (names_of schedule) x.takes (at_moment w.moment w.server)
        (moment_runs (keep_in schedule) (owned_of schedule) (names_of schedule) x.takes w.server runs.simulation.server w.moment) (n + 1) yours

    within_dials : n + 1 ≤ b.dials
    within_dials = bounds

    few : length (moved (Dial i mine yours) w).wires + 1 < 2 ^ 64
    few = subst (λ v. length v.wires + 1 < 2 ^ 64) (sym moved_so) (let long = many_wires in let most = small.dials in let here = within_dials in omega (arith, long, most, here))

    quiet : SilentWorld schedule b w x after 0
    quiet = record {
      devices = each_quiet;
      many = (one_called i w dialling w.wires refl (λ position u at. (u, at, refl))).devices;
      dialled = (let long = many_wires in let here = within_dials in omega (arith, long, here));
      wires = wires_are;
      server = runs_on;
      takes = refl;
      moment = (let same : w.moment ≡ w.moment + 0 = omega arith in same);
      now = max-eq_left (let looked = runs.simulation.now in omega (arith, looked)) ∙ runs.simulation.now;
      fits = subst FitsHere moved_so (move_fits UpFits DownFits ServerFits ClientFits keep_here takes_any (Dial i mine yours) w runs.in_bounds.fits may);
      stands = subst ServerStands moved_so (move_stands (Dial i mine yours) w tt runs.in_bounds.stands);
      within = subst IsWorldWithin moved_so (move_within (Dial i mine yours) w runs.in_bounds.within few);
    }

    taken : Taken x
    taken = taken_along runs.in_bounds.led.events (begins schedule) x runs.in_bounds.led.reaches (taken_beginning (keep_of schedule.version) (accounts_of (steps_in schedule)) (map (λ (p : Owned). p.account) (owned_of schedule)))

    dial_runs : MoveSimulates schedule b says (Dial i mine yours) w x runs
    dial_runs =
        let q : SilentSimulates schedule b says w x runs after = quiet_runs schedule b says w x runs taken after 0 quiet in
        let on : RunsOn schedule b says w x runs (DoesBy (Dial i mine yours) w) (says + 0) (moved (Dial i mine yours) w) q.next =
        subst (λ k. RunsOn schedule b says w x runs (DoesBy (Dial i mine yours) w) k (moved (Dial i mine yours) w) q.next) (let same : says ≡ says + 0 = omega arith in same)
        (subst (λ v. RunsOn schedule b says w x runs (DoesBy (Dial i mine yours) w) says v q.next) (sym moved_so) (without_labels schedule b says w x runs (DoesBy (Dial i mine yours) w) (λ j. refl) says after q.next q.on)) in
        record {
          events = q.events;
          next = q.next;
          reaches = q.reaches;
          spoken = q.silent;
          asked = q.asked;
          runs = on.runs;
          links = on.links;
        }

  -- ---- of a device, or of nobody

  pub each_dial : MoveSimulates schedule b says (Dial i mine yours) w x runs
  each_dial = go (slice_get w.devices i) refl
    where
      go : (e : Option ItemDevice) → slice_get w.devices i ≡ e → MoveSimulates schedule b says (Dial i mine yours) w x runs
      go None none = nobody_runs schedule b says w x runs (Dial i mine yours) none
      go (Some e) there =
          let within = slice_get_within w.devices i e there in
          let many = runs.simulation.many in
          let owner = at_position i (owned_of schedule) (omega (arith, within, many)) in
          dial_runs owner.0 owner.1
