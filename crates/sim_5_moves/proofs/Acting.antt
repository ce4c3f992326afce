-- One device of a world acts, and the worlds are related still.
use Rattle.std.proofs.Common.{◌≡◌, ◌≢◌, ℕ, ◌+◌, ◌≤◌, ◌==◌, Bool, true, false, List, [], ◌∷◌, ◌++◌, Some, length, slice_get, refl, sym, ap, subst, ◌∙◌, length-append}
use Rattle.std.proofs.lemmas.Bool.Decides.{Decides-eqb}
use Rattle.std.proofs.lemmas.Option.{same_Some}
use Rattle.sim_3_images.specs.Devices.{identity_at}
use Rattle.sim_3_items.specs.Represents.{Represents}
use Rattle.sim_3_images.specs.Stands.{ServerStateStands}
use Rattle.sim_3_items.specs.ItemWorlds.{ItemDevice, ItemWorld}
use Rattle.sim_4_links_follow.proofs.Numbered.{set_elsewhere}
use Rattle.cmd_schedule.specs.Contents.{Owned}
use Rattle.cmd_schedule.specs.Schedules.{WireView}
use Rattle.sim_3_images.specs.Unbound.{IsWithin}
use Rattle.sim_5_devices.proofs.AllSessionSteps.{reaches_both, session_steps_silent, spoken_both}
use Rattle.sim_5_devices.proofs.Worlds.{acted_alone, session_steps_reach, set_here, set_twice}
use Rattle.sim_5_devices.specs.Labels.{SessionStep, SessionSteps, session_step_events, with_device}
use Rattle.sim_3_items.specs.Served.{FlagsRepresent, ServerSimulates}
use Rattle.sim_3_items.specs.Submitted.{SubmissionsRepresent}
use Rattle.sim_5_devices.specs.Shown.{LogRepresents}
use Rattle.sim_1_applications.specs.Devices.{AppWorld, Device, Sessions}
use Rattle.sim_1_applications.specs.Events.{Act, At, May, Reaches, acted, around, own, taken_by}
use Rattle.sim_1_applications.specs.Histories.{spoken_in}
use Rattle.sim_1_applications.specs.Runs.{owned_of}
use Rattle.sim_5_moves.proofs.OneOwner.{of_owner}
use Rattle.sim_5_moves.proofs.ReplyEvents.{set_long}
use Rattle.sim_5_moves.specs.Moves.{ActsAlone, IsOneDevice}
use Rattle.sim_5_moves.specs.Running.{Bounds, DeviceSimulates, IsOwned, Leads, RunsOn, WorldSimulates, history_for, keep_in, names_of}
use Rattle.sim_3_items.specs.Labels.{Label}
use Rattle.xml_writer.specs.Items.{ItemOut}

-- ---- lists

-- what is so at one place, and at all others
pub either : (P : ℕ → Type 0) (i : ℕ) → P i → ((j : ℕ) → j ≢ i → P j) → (j : ℕ) → P j
either P i here beside j = by (j == i) refl
  where
    by : (b : Bool) → (j == i) ≡ b → P j
    by true same = subst P (sym ((Decides-eqb j i).0 same)) here
    by false other = beside j (λ e. let same : (j == i) ≡ true = (Decides-eqb j i).1 e in absurd (let no_way : ⊥ = cc in no_way))

-- ---- the world

module _ (schedule : WireView) (b : Bounds) (says : ℕ) (w : ItemWorld) (x : AppWorld) (runs : WorldSimulates schedule b says w x) (i : ℕ) (o : Owned) (next : ItemWorld) (d : Device) (a : ActsAlone schedule b says w x runs i o next d) where
  abbrev alone : IsOneDevice i w next
  alone = a.alone

  abbrev following : AppWorld
  following = with_device i d x

  -- another device
  module _ (j : ℕ) (p : Owned) (is : IsOwned schedule j p) (other : j ≢ i) where
    abbrev was : DeviceSimulates schedule w x j p
    was = runs.simulation.devices j p is

    abbrev shown : Represents (identity_at schedule j p) was.logins next was.view
    shown = a.others j p is other

    same : was.represents.device ≡ shown.device
    same = same_Some was.represents.device shown.device (sym was.represents.there ∙ sym (alone.beside j other) ∙ shown.there)

    abbrev other_runs : DeviceSimulates schedule next following j p
    other_runs = record {
      logins = was.logins;
      view = was.view;
      in_time = was.in_time;
      prompt = was.prompt;
      represents = shown;
      device = was.device;
      there = set_elsewhere x.devices i j d other ∙ was.there;
      account = was.account;
      sessions = was.sessions;
      built = was.built;
      submissions = subst (λ (e : ItemDevice). SubmissionsRepresent e.client was.device.sessions) same was.submissions;
      log = subst (λ (e : ItemDevice). LogRepresents (keep_in schedule) (history_for schedule x.takes p) e.client.log was.device.reading) same was.log;
      pages = subst (λ (e : ItemDevice). e.client.pages ≡ was.device.reading.asked) same was.pages;
      flags = subst (λ h. FlagsRepresent (identity_at schedule j p).account p.device h was.device.sessions) (sym alone.server) was.flags;
    }

  module _ (Does : ℕ → List (Label ItemOut) → Type 0) (here : Does i a.done) (beside : (j : ℕ) → j ≢ i → Does j []) where
    abbrev Comes : (j : ℕ) (p : Owned) → IsOwned schedule j p → Type 0
    Comes j p is = (e : DeviceSimulates schedule next following j p) × Leads (Does j) (runs.simulation.devices j p is).view e.view

    each_comes : (j : ℕ) (p : Owned) (is : IsOwned schedule j p) → Comes j p is
    each_comes =
        either (λ j. (p : Owned) (is : IsOwned schedule j p) → Comes j p is) i
        (of_owner schedule i (Comes i) o a.owned (a.device, (a.leads.0, a.leads.1, subst (Does i) (sym a.leads.2) here)))
        (λ j other p is. (other_runs j p is other, ([], refl, beside j other)))

    abbrev goes_on : WorldSimulates schedule b (says + length (spoken_in a.events)) next following
    goes_on = record {
      simulation = record {
        devices = λ j p is. (each_comes j p is).0;
        many = alone.devices ∙ runs.simulation.many;
        many_there = set_long x.devices i d ∙ runs.simulation.many_there;
        wires = λ position wire at. let was = alone.wires position wire at in let of = runs.simulation.wires position was.0 was.1 in (of.0, subst (λ n. IsOwned schedule n of.0) (sym was.2) of.1);
        server = subst (ServerSimulates (keep_in schedule) (owned_of schedule) (names_of schedule) x.takes) (sym alone.server) runs.simulation.server;
        takes = alone.takes ∙ runs.simulation.takes;
        clock = runs.simulation.clock ∙ sym alone.moment;
        now = (λ k. (alone.server k).moment) ∙ runs.simulation.now ∙ sym alone.moment;
      };
      in_bounds = record {
        led = record {
          events = runs.in_bounds.led.events ++ a.events;
          reaches = reaches_both runs.in_bounds.led.events a.events _ x following runs.in_bounds.led.reaches a.reaches;
          spoken = ap length (spoken_both runs.in_bounds.led.events a.events) ∙ length-append (spoken_in runs.in_bounds.led.events) (spoken_in a.events) ∙ ap (λ n. n + length (spoken_in a.events)) runs.in_bounds.led.spoken;
        };
        said = a.said;
        asked =
            either (λ j. (e : Device) → slice_get following.devices j ≡ Some e → e.reading.asked ≤ b.pages + 1) i
            (λ e at. subst (λ (y : Device). y.reading.asked ≤ b.pages + 1) (same_Some d e (sym (set_here x.devices i a.old d a.there) ∙ at)) a.asked)
            (λ j other e at. runs.in_bounds.asked j e (sym (set_elsewhere x.devices i j d other) ∙ at));
        dialled = subst (λ n. n ≤ b.dials) (sym alone.many) runs.in_bounds.dialled;
        fits = a.fits;
        stands = subst (λ n. ServerStateStands n next.server) (sym alone.many) (subst (ServerStateStands (length w.wires)) (sym alone.server) runs.in_bounds.stands);
        within = subst (λ n. IsWithin n next.server) (sym alone.many) (subst (IsWithin (length w.wires)) (sym alone.server) runs.in_bounds.within);
      };
    }

    pub acted_on : RunsOn schedule b says w x runs Does (says + length (spoken_in a.events)) next following
    acted_on = record { runs = goes_on; links = λ j p is. (each_comes j p is).1 }

-- ---- an act behind drifts

module _ (x : AppWorld) (i : ℕ) (d : Device) (there : slice_get x.devices i ≡ Some d) (xs : List SessionStep) (s : Sessions) (session_steps : SessionSteps xs d.sessions s) where
  abbrev stepped_to : Device
  stepped_to = record d { sessions = s }

  abbrev between : AppWorld
  between = with_device i stepped_to x

  pub act_reaches : (act : Act) → May act stepped_to → taken_by x.accounts x.clock i stepped_to act ≡ [] → Reaches (session_step_events i xs ++ At i act ∷ []) x (with_device i (own (around x d) act stepped_to) x)
  act_reaches act may none =
      let here : slice_get between.devices i ≡ Some stepped_to = set_here x.devices i d stepped_to there in
      let e : Device = own (around x d) act stepped_to in
      let is : acted between i act stepped_to ≡ with_device i e x =
      acted_alone between i act stepped_to here none ∙ ap (λ ds. record x { devices = ds }) (set_twice x.devices i stepped_to e) in
      reaches_both (session_step_events i xs) (At i act ∷ []) x between (with_device i e x) (session_steps_reach xs x i d s there session_steps) (with_device i e x, (stepped_to, here, may, sym is), refl)

pub act_spoken : (i : ℕ) (xs : List SessionStep) (act : Act) → spoken_in (session_step_events i xs ++ At i act ∷ []) ≡ spoken_in (At i act ∷ [])
act_spoken i xs act = spoken_both (session_step_events i xs) (At i act ∷ []) ∙ ap (λ l. l ++ spoken_in (At i act ∷ [])) (session_steps_silent i xs)
