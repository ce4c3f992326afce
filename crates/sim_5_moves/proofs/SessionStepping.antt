-- The links of one device move without a label, and the server stays: the device drifts, and the worlds are beside one
-- another still.
use Rattle.std.proofs.Common.{◌≡◌, ◌≢◌, ℕ, ◌+◌, ◌≤◌, ◌==◌, Bool, true, false, List, [], Some, length, slice_get, refl, sym, ap, subst, ◌∙◌, arith}
use Rattle.std.proofs.lemmas.Bool.Decides.{Decides-eqb}
use Rattle.std.proofs.lemmas.Option.{same_Some}
use Rattle.mam_archive.specs.Entries.{EntryView}
use Rattle.sim_5_moves.proofs.ClientsStepped.{stepped_to}
use Rattle.sim_4_links_follow.proofs.Numbered.{set_elsewhere}
use Rattle.sim_4_links_follow.proofs.Stays.{reached_along}
use Rattle.sim_4_links_follow.specs.Following.{WorldFollows}
use Rattle.sim_3_images.specs.Devices.{identity_at}
use Rattle.sim_3_items.specs.Labels.{awaits, labels_of}
use Rattle.sim_3_items.specs.Identities.{Identity}
use Rattle.sim_3_items.specs.Servers.{ServerRepresents}
use Rattle.sim_3_items.specs.Represents.{Represents}
use Rattle.sim_5_moves.proofs.FlagsKeptFlags.{flags_session_step}
use Rattle.sim_3_images.specs.Fitting.{FitsHere}
use Rattle.sim_3_items.specs.Items.{stanzas_read}
use Rattle.sim_3_items.specs.ItemMoves.{ItemMove, moved}
use Rattle.sim_3_items.specs.ItemWorlds.{ItemDevice, ItemWorld}
use Rattle.sim_2_links.proofs.Reached.{link_kept}
use Rattle.sim_2_links.proofs.WithPremises.{prompt_runs}
use Rattle.sim_2_links.specs.Events.{seen}
use Rattle.sim_2_links.specs.Machine.{LinkReached}
use Rattle.sim_2_events.specs.Lists.{IsDevice}
use Rattle.sim_5_devices.proofs.AllSessionSteps.{session_steps_silent}
use Rattle.sim_5_devices.proofs.Staying.{paging_stays, prompt_stays}
use Rattle.sim_5_devices.specs.InTime.{AreInTime}
use Rattle.sim_5_devices.specs.Shown.{LogRepresents}
use Rattle.sim_5_moves.proofs.Acting.{acted_on}
use Rattle.sim_5_moves.specs.Moves.{ActsAlone, IsOneDevice}
use Rattle.sim_5_moves.proofs.QuietWorldsUsers.{same_submissions, session_steps_show_submissions}
use Rattle.sim_5_moves.specs.Silent.{SameUser}
use Rattle.cmd_schedule.specs.Contents.{Owned}
use Rattle.cmd_schedule.specs.Schedules.{WireView}
use Rattle.sim_1_applications.specs.Counts.{IsUnanswered}
use Rattle.sim_5_devices.proofs.SessionLabelsSteps.{moves_done}
use Rattle.sim_5_devices.proofs.Worlds.{session_steps_reach, set_here}
use Rattle.sim_5_devices.specs.Labels.{DoesInterleaved, SessionStep, SessionSteps, session_step_events, with_device}
use Rattle.sim_3_items.specs.Served.{FlagsRepresent}
use Rattle.sim_1_applications.specs.Devices.{AppWorld, Device, Sessions}
use Rattle.sim_1_applications.specs.Events.{AppEvent, Reaches}
use Rattle.sim_1_applications.specs.Histories.{Spoken, spoken_in}
use Rattle.sim_1_applications.specs.Stanzas.{answers}
use Rattle.sim_5_moves.proofs.BuiltAlong.{built_along}
use Rattle.sim_5_moves.specs.Going.{ArePutBuilt}
use Rattle.sim_5_moves.specs.Running.{Bounds, DeviceSimulates, IsAskedBy, IsOwned, MoveSimulates, RunsOn, WorldSimulates, history_for, keep_in, spoken_by_move, DoesBy}

-- nor asks, and nothing comes to the client
abbrev pub IsStill : Device → Device → Type 0
IsStill d e = (e.reading.asked ≡ d.reading.asked) × (IsUnanswered d → IsUnanswered e)

module _ (schedule : WireView) (b : Bounds) (says : ℕ) (m : ItemMove) (w : ItemWorld) (x : AppWorld) (runs : WorldSimulates schedule b says w x) (i : ℕ) (o : Owned) (owned : IsOwned schedule i o) where
  abbrev old : DeviceSimulates schedule w x i o
  old = runs.simulation.devices i o owned

  abbrev who : Identity
  who = identity_at schedule i o

  abbrev history : List EntryView
  history = history_for schedule x.takes o

  -- behind the move is this world: one device's links have moved without a label, and its user has what he had
  pub record IsSessionStep (after : ItemWorld) : Type 0 where
    pub is : moved m w ≡ after
    pub alone : IsOneDevice i w after
    pub fits : FitsHere after
    pub follows : WorldFollows who old.logins after old.view []
    pub user : (e : ItemDevice) → slice_get after.devices i ≡ Some e → SameUser old.represents.device.client e.client
    pub others : (j : ℕ) (p : Owned) (q : IsOwned schedule j p) → j ≢ i → Represents (identity_at schedule j p) (runs.simulation.devices j p q).logins after (runs.simulation.devices j p q).view
    pub silent : spoken_by_move m w ≡ []
    pub asked : (j : ℕ) (d e : Device) → IsStill d e → IsAskedBy m w j d e
    pub nothing : (j : ℕ) → DoesBy m w j []

  module _ (after : ItemWorld) (c : IsSessionStep after) where
    abbrev f : WorldFollows who old.logins after old.view []
    f = c.follows

    -- ---- the links, and the sessions

    reached : LinkReached old.view
    reached = prompt_runs awaits old.view old.prompt

    abbrev done : (end : Sessions) × DoesInterleaved stanzas_read (labels_of f.moves) old.device.sessions end × IsDevice stanzas_read (seen f.next) end
    done = moves_done stanzas_read f.moves old.view f.next old.device.sessions reached f.leads old.sessions

    abbrev end : Sessions
    end = done.0

    interleaved : DoesInterleaved stanzas_read [] old.device.sessions end
    interleaved = subst (λ ds. DoesInterleaved stanzas_read ds old.device.sessions end) f.does done.1

    abbrev xs : List SessionStep
    xs = interleaved.0

    session_steps : SessionSteps xs old.device.sessions end
    session_steps = interleaved.1

    abbrev new : Device
    new = record old.device { sessions = end }

    abbrev next : AppWorld
    next = with_device i new x

    user : SameUser old.represents.device.client f.represents.device.client
    user = c.user f.represents.device f.represents.there

    flags_so : FlagsRepresent who.account o.device w.server end
    flags_so =
        flags_session_step who old.logins w.server old.view f.next old.device.sessions end end xs old.represents.server (subst (λ h. ServerRepresents who old.logins h f.next) c.alone.server f.represents.server)
        (link_kept f.next (reached_along f.moves old.view f.next reached f.leads)) old.sessions done.2 session_steps refl old.flags

    abbrev device_runs : DeviceSimulates schedule after next i o
    device_runs = record {
      logins = old.logins;
      view = f.next;
      in_time = paging_stays f.moves old.view f.next old.device.sessions old.in_time f.leads f.prompt old.sessions (subst (λ ds. AreInTime ds old.device.sessions.now) (sym f.does) tt);
      prompt = prompt_stays f.moves old.view f.next old.prompt f.leads f.prompt;
      represents = f.represents;
      device = new;
      there = set_here x.devices i old.device new old.there;
      account = old.account;
      sessions = done.2;
      built = built_along o history f.moves old.view f.next reached f.leads (subst (ArePutBuilt o history) (sym f.does) tt) old.built;
      submissions = same_submissions old.represents.device.client f.represents.device.client end user (session_steps_show_submissions xs old.represents.device.client old.device.sessions end session_steps old.submissions);
      log = subst (λ l. LogRepresents (keep_in schedule) history l old.device.reading) (sym user.log) old.log;
      pages = user.pages ∙ old.pages;
      flags = subst (λ h. FlagsRepresent who.account o.device h end) (sym c.alone.server) flags_so;
    }

    -- ---- the worlds

    abbrev events : List AppEvent
    events = session_step_events i xs

    silent : spoken_in events ≡ []
    silent = session_steps_silent i xs

    reaches : Reaches events x next
    reaches = session_steps_reach xs x i old.device end old.there session_steps

    abbrev acts : ActsAlone schedule b says w x runs i o after new
    acts = record {
      owned = owned;
      old = old.device;
      there = old.there;
      alone = c.alone;
      fits = c.fits;
      events = events;
      reaches = reaches;
      said = subst (λ (l : List Spoken). says + length l ≤ b.says) (sym silent) (let said = runs.in_bounds.said in omega (arith, said));
      asked = runs.in_bounds.asked i old.device old.there;
      device = device_runs;
      done = [];
      leads = (f.moves, f.leads, f.does);
      others = c.others;
    }

    new_still : IsStill old.device new
    new_still = (refl, λ none on. (let t = stepped_to xs old.device.sessions end session_steps in ap answers t.down_rest ∙ none (sym t.online ∙ on)))

    still : (j : ℕ) (d e : Device) → slice_get x.devices j ≡ Some d → slice_get next.devices j ≡ Some e → IsStill d e
    still j d e there following = by (j == i) refl
      where
        by : (at : Bool) → (j == i) ≡ at → IsStill d e
        by true same =
            let here : j ≡ i = (Decides-eqb j i).0 same in
            subst (λ y. IsStill y e) (same_Some old.device d (sym old.there ∙ subst (λ n. slice_get x.devices n ≡ Some d) here there))
            (subst (IsStill old.device) (same_Some new e (sym (set_here x.devices i old.device new old.there) ∙ subst (λ n. slice_get next.devices n ≡ Some e) here following)) new_still)
        by false other =
            let apart : j ≢ i = (λ e. let same : (j == i) ≡ true = (Decides-eqb j i).1 e in absurd (let no_way : ⊥ = cc in no_way)) in
            subst (IsStill d) (same_Some d e (sym there ∙ sym (set_elsewhere x.devices i j new apart) ∙ following)) (refl, λ none. none)

    on : RunsOn schedule b says w x runs (DoesBy m w) (says + length (spoken_by_move m w)) (moved m w) next
    on =
        subst (λ v. RunsOn schedule b says w x runs (DoesBy m w) (says + length (spoken_by_move m w)) v next) (sym c.is)
        (subst (λ (l : List Spoken). RunsOn schedule b says w x runs (DoesBy m w) (says + length l) after next) (silent ∙ sym c.silent)
        (acted_on schedule b says w x runs i o after new acts (DoesBy m w) (c.nothing i) (λ j other. c.nothing j)))

    pub session_step_runs : MoveSimulates schedule b says m w x runs
    session_step_runs = record {
      events = events;
      next = next;
      reaches = reaches;
      spoken = silent ∙ sym c.silent;
      asked = λ j d e there following. c.asked j d e (still j d e there following);
      runs = on.runs;
      links = on.links;
    }
