-- The client reads that its session is no more: it gives it up.
use Rattle.std.proofs.Common.{◌≡◌, ℕ, List, [], ◌∷◌, ◌++◌, None, inl, inr, refl, sym, ap, subst, ◌∙◌}
use Rattle.cl_handlers.specs.Clients.{ClientStep}
use Rattle.cl_handlers.specs.SessionRows.{failed_row}
use Rattle.cl_handlers.specs.Speech.{in_items}
use Rattle.sim_3_items.specs.Labels.{Drops}
use Rattle.sim_3_items.specs.Reading.{noted}
use Rattle.sim_3_items.specs.Items.{stanzas_read}
use Rattle.sim_3_items.specs.ItemMoves.{Down}
use Rattle.sim_3_items.specs.ItemWorlds.{ItemWorld, silent_client_step}
use Rattle.sim_5_devices.specs.InTime.{AreInTime}
use Rattle.sim_5_devices.specs.Shown.{LogRepresents}
use Rattle.sim_5_moves.proofs.Acting.{act_reaches, act_spoken}
use Rattle.cmd_schedule.specs.Schedules.{WireView}
use Rattle.sim_5_devices.proofs.Sorted.{session_steps_first}
use Rattle.sim_5_devices.specs.Labels.{Does, DoesAll, DoesInterleaved, SessionStep, SessionSteps, session_step_events}
use Rattle.sim_3_items.specs.Submitted.{SubmissionsRepresent}
use Rattle.sim_1_applications.specs.Devices.{AppWorld, Sessions}
use Rattle.sim_1_applications.specs.Events.{At, Drop, goes_offline}
use Rattle.sim_5_moves.proofs.SessionWordsComing.{Coming, IsHeard, acted_by, between_both, d, end, flags_there, heard_runs, history, i, interleaved, old, represents_there, t}
use Rattle.sim_5_devices.proofs.SubmissionsEnds.{broken_told, failed_told}
use Rattle.sim_5_moves.specs.Going.{ArePutBuilt}
use Rattle.sim_5_moves.specs.Running.{Bounds, MoveSimulates, keep_in}
use Rattle.xml_writer.specs.Items.{ItemOut}

-- where there was one
gives_up : (there last : Sessions) → DoesAll stanzas_read (Drops ∷ []) there last → last ≡ goes_offline there
gives_up there last (next, does, same) = same ∙ by does
  where
    by : Does stanzas_read Drops there next → next ≡ goes_offline there
    by (inl on) = on.1
    by (inr off) = off.1 ∙ sym (ap (λ online. record there { online = online }) (sym off.0))

module _ (schedule : WireView) (b : Bounds) (says : ℕ) (w : ItemWorld) (x : AppWorld) (c : Coming schedule b says w x) where
  abbrev before : ClientStep ItemOut ItemOut
  before = silent_client_step (d schedule b says w x c).client

  module _ (turn : t schedule b says w x c ≡ failed_row in_items before) where
    notes_so : noted (t schedule b says w x c).out.notes ≡ Drops ∷ []
    notes_so = ap (λ (u : ClientStep ItemOut ItemOut). noted u.out.notes) turn

    sorted : (xs : List SessionStep) × (there : Sessions) × SessionSteps xs (old schedule b says w x c).device.sessions there × DoesAll stanzas_read (Drops ∷ []) there (end schedule b says w x c)
    sorted =
        session_steps_first stanzas_read (Drops ∷ []) (old schedule b says w x c).device.sessions (end schedule b says w x c) (tt, tt)
        (subst (λ ds. DoesInterleaved stanzas_read ds (old schedule b says w x c).device.sessions (end schedule b says w x c)) notes_so (interleaved schedule b says w x c))

    abbrev there : Sessions
    there = sorted.1

    ends_so : end schedule b says w x c ≡ goes_offline there
    ends_so = gives_up there (end schedule b says w x c) sorted.3

    drops : IsHeard schedule b says w x c (acted_by schedule b says w x c Drop there)
    drops = record {
      timely = subst (λ ds. AreInTime ds (old schedule b says w x c).device.sessions.now) (sym notes_so) tt;
      put = subst (ArePutBuilt c.o (history schedule b says w x c)) (sym notes_so) tt;
      events = session_step_events (i schedule b says w x c) sorted.0 ++ At (i schedule b says w x c) Drop ∷ [];
      reaches = act_reaches x (i schedule b says w x c) (old schedule b says w x c).device (old schedule b says w x c).there sorted.0 there sorted.2 Drop tt refl;
      silent = act_spoken (i schedule b says w x c) sorted.0 Drop;
      between = λ j. between_both j (i schedule b says w x c) sorted.0 [] Drop tt;
      account = refl;
      ends = ends_so;
      submissions = subst (λ (u : ClientStep ItemOut ItemOut). SubmissionsRepresent u.client (goes_offline there)) (sym turn) (failed_told before there (represents_there schedule b says w x c sorted.0 there sorted.2));
      log =
          subst (λ (u : ClientStep ItemOut ItemOut). LogRepresents (keep_in schedule) (history schedule b says w x c) u.client.log (record (old schedule b says w x c).device.reading { page = None })) (sym turn)
          (broken_told (keep_in schedule) (history schedule b says w x c) (d schedule b says w x c).client (old schedule b says w x c).device.reading (old schedule b says w x c).log).0;
      pages = ap (λ (u : ClientStep ItemOut ItemOut). u.client.pages) turn ∙ (old schedule b says w x c).pages;
      flags = flags_there schedule b says w x c sorted.0 there sorted.2 (ap (λ (s : Sessions). s.row) ends_so);
    }

    abbrev IsRunSo : Type 0
    IsRunSo = MoveSimulates schedule b says (Down c.position) w x c.runs

    pub failed_runs : IsRunSo
    failed_runs = heard_runs schedule b says w x c (acted_by schedule b says w x c Drop there) drops
