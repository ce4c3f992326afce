-- A device's client does one act of the applications, behind drifts, and each other device is shown as it was.
use Rattle.std.proofs.Common.{◌≡◌, ◌≢◌, ℕ, ◌+◌, ◌≤◌, List, [], ◌∷◌, ◌++◌, Some, length, slice_get, sym, subst, ◌∙◌}
use Rattle.std.proofs.lemmas.Option.{same_Some}
use Rattle.sim_4_links_follow.proofs.Numbered.{set_elsewhere}
use Rattle.sim_3_images.proofs.UserMoves.{get_set_same}
use Rattle.sim_3_images.specs.Devices.{identity_at}
use Rattle.sim_3_items.specs.Labels.{Label}
use Rattle.sim_3_items.specs.Represents.{Represents}
use Rattle.sim_3_images.specs.Fitting.{FitsHere}
use Rattle.sim_3_items.specs.Items.{stanzas_read}
use Rattle.sim_3_items.specs.ItemMoves.{ItemMove, moved}
use Rattle.sim_3_items.specs.ItemWorlds.{ItemWorld}
use Rattle.sim_2_links.specs.Events.{seen}
use Rattle.sim_2_events.specs.Lists.{IsDevice}
use Rattle.sim_5_devices.specs.Shown.{LogRepresents}
use Rattle.sim_5_moves.proofs.Acting.{act_reaches, act_spoken, acted_on, either}
use Rattle.sim_5_moves.specs.Moves.{ActsAlone, IsOneDevice}
use Rattle.cmd_schedule.specs.Contents.{Owned}
use Rattle.cmd_schedule.specs.Schedules.{WireView}
use Rattle.sim_5_devices.specs.Labels.{SessionStep, SessionSteps, session_step_events, with_device}
use Rattle.sim_3_items.specs.Served.{FlagsRepresent}
use Rattle.sim_3_items.specs.Submitted.{SubmissionsRepresent}
use Rattle.sim_1_applications.specs.Devices.{AppWorld, Device, Sessions}
use Rattle.sim_1_applications.specs.Events.{Act, AppEvent, At, May, around, own, taken_by}
use Rattle.sim_1_applications.specs.Histories.{Spoken, spoken_in}
use Rattle.xml_writer.specs.Items.{ItemOut}
use Rattle.sim_5_moves.specs.Going.{DeviceGoes}
use Rattle.sim_5_moves.specs.Running.{Bounds, DeviceSimulates, IsAskedBy, IsOwned, MoveSimulates, RunsOn, WorldSimulates, history_for, keep_in, spoken_by_move, DoesBy}

module _ (schedule : WireView) (b : Bounds) (says : ℕ) (m : ItemMove) (w : ItemWorld) (x : AppWorld) (runs : WorldSimulates schedule b says w x) (i : ℕ) (o : Owned) (owned : IsOwned schedule i o) where
  abbrev pub device_at : DeviceSimulates schedule w x i o
  device_at = runs.simulation.devices i o owned

  abbrev pub old : Device
  old = device_at.device

  -- the act of a device that drifted to these sessions
  abbrev pub stepped_to : Sessions → Device
  stepped_to s = record old { sessions = s }

  abbrev pub acted_by : Act → Sessions → Device
  acted_by act s = own (around x old) act (stepped_to s)

  -- What a turn of the client has to be, for the act and the sessions before it.
  pub record IsClientStep (done : List (Label ItemOut)) (g : DeviceGoes schedule (moved m w) i o (history_for schedule x.takes o) done old.sessions device_at.view) (act : Act) (there : Sessions) : Type 0 where
    pub may : May act (stepped_to there)
    pub alone : taken_by x.accounts x.clock i (stepped_to there) act ≡ []
    pub account : (acted_by act there).account ≡ old.account
    pub sessions : IsDevice stanzas_read (seen g.view) (acted_by act there).sessions
    pub submissions : SubmissionsRepresent g.represents.device.client (acted_by act there).sessions
    pub log : LogRepresents (keep_in schedule) (history_for schedule x.takes o) g.represents.device.client.log (acted_by act there).reading
    pub pages : g.represents.device.client.pages ≡ (acted_by act there).reading.asked
    pub flags : FlagsRepresent (identity_at schedule i o).account o.device w.server (acted_by act there).sessions
    pub spoken : spoken_in (At i act ∷ []) ≡ spoken_by_move m w
    pub said : says + length (spoken_by_move m w) ≤ b.says
    pub within : (acted_by act there).reading.asked ≤ b.pages + 1
    pub asked : IsAskedBy m w i old (acted_by act there)
    pub others_asked : (j : ℕ) (d : Device) → j ≢ i → IsAskedBy m w j d d
    pub does : DoesBy m w i done
    pub others_do : (j : ℕ) → j ≢ i → DoesBy m w j []

  module _ (alone : IsOneDevice i w (moved m w)) (fits : FitsHere (moved m w)) (others : (j : ℕ) (p : Owned) (is : IsOwned schedule j p) → j ≢ i → Represents (identity_at schedule j p) (runs.simulation.devices j p is).logins (moved m w) (runs.simulation.devices j p is).view)
      (done : List (Label ItemOut)) (g : DeviceGoes schedule (moved m w) i o (history_for schedule x.takes o) done old.sessions device_at.view) (xs : List SessionStep) (there : Sessions) (session_steps : SessionSteps xs old.sessions there) (act : Act) (t : IsClientStep done g act there) where
    abbrev new : Device
    new = acted_by act there

    abbrev events : List AppEvent
    events = session_step_events i xs ++ At i act ∷ []

    all_spoken : spoken_in events ≡ spoken_by_move m w
    all_spoken = act_spoken i xs act ∙ t.spoken

    abbrev acts : ActsAlone schedule b says w x runs i o (moved m w) new
    acts = record {
      owned = owned;
      old = old;
      there = device_at.there;
      alone = alone;
      fits = fits;
      events = events;
      reaches = act_reaches x i old device_at.there xs there session_steps act t.may t.alone;
      said = subst (λ (l : List Spoken). says + length l ≤ b.says) (sym all_spoken) t.said;
      asked = t.within;
      device = record {
        logins = g.logins;
        view = g.view;
        in_time = g.in_time;
        prompt = g.prompt;
        represents = g.represents;
        device = new;
        there = get_set_same x.devices i old new device_at.there;
        account = t.account ∙ device_at.account;
        sessions = t.sessions;
        built = g.built;
        submissions = t.submissions;
        log = t.log;
        pages = t.pages;
        flags = subst (λ h. FlagsRepresent (identity_at schedule i o).account o.device h new.sessions) (sym alone.server) t.flags;
      };
      done = done;
      leads = g.leads;
      others = others;
    }

    on : RunsOn schedule b says w x runs (DoesBy m w) (says + length (spoken_by_move m w)) (moved m w) (with_device i new x)
    on =
        subst (λ (l : List Spoken). RunsOn schedule b says w x runs (DoesBy m w) (says + length l) (moved m w) (with_device i new x)) all_spoken
        (acted_on schedule b says w x runs i o (moved m w) new acts (DoesBy m w) t.does t.others_do)

    pub move_runs : MoveSimulates schedule b says m w x runs
    move_runs = record {
      events = events;
      next = with_device i new x;
      reaches = acts.reaches;
      spoken = all_spoken;
      asked =
          either (λ j. (d e : Device) → slice_get x.devices j ≡ Some d → slice_get (with_device i new x).devices j ≡ Some e → IsAskedBy m w j d e) i
          (λ d e is at.
          subst (λ (y : Device). IsAskedBy m w i y e) (same_Some old d (sym device_at.there ∙ is))
          (subst (IsAskedBy m w i old) (same_Some new e (sym (get_set_same x.devices i old new device_at.there) ∙ at)) t.asked))
          (λ j other d e is at. subst (IsAskedBy m w j d) (same_Some d e (sym is ∙ sym (set_elsewhere x.devices i j new other) ∙ at)) (t.others_asked j d other));
      runs = on.runs;
      links = on.links;
    }
