-- The client reads how many of its stanzas were handled, as the session is counted or where it is resumed.
use Rattle.std.proofs.Common.{◌≡◌, ℕ, ◌+◌, ◌≤◌, true, List, [], ◌∷◌, ◌++◌, Some, length, refl, sym, ap, subst, ◌∙◌, arith}
use Rattle.sm_acks.specs.declared.end.TheConstants.{MOST_UNACKNOWLEDGED}
use Rattle.cl_handlers.specs.Clients.{ClientStep}
use Rattle.sim_5_moves.proofs.ClientsStepped.{IsSteppedTo, stepped_to}
use Rattle.sim_3_items.specs.Labels.{Learns}
use Rattle.sim_3_items.specs.Reading.{noted}
use Rattle.sim_3_items.specs.WordItems.{told_count}
use Rattle.sim_3_items.specs.Items.{stanzas_read}
use Rattle.sim_3_items.specs.ItemMoves.{Down}
use Rattle.sim_3_items.specs.ItemWorlds.{ItemDevice, ItemWorld}
use Rattle.sim_5_devices.specs.InTime.{AreInTime}
use Rattle.mam_log.specs.Views.{LogView}
use Rattle.sim_5_devices.specs.Shown.{LogRepresents}
use Rattle.sim_5_moves.proofs.Acting.{act_reaches, act_spoken}
use Rattle.sm_outbox.specs.Sessions.{with_waiting}
use Rattle.sm_outbox.specs.Waiting.{acked}
use Rattle.cmd_schedule.specs.Schedules.{WireView}
use Rattle.sim_5_devices.proofs.Sorted.{session_steps_first}
use Rattle.sim_5_devices.specs.Labels.{DoesAll, DoesInterleaved, SessionStep, SessionSteps, session_step_events}
use Rattle.sim_3_items.specs.Submitted.{SubmissionsRepresent}
use Rattle.sim_1_applications.specs.Devices.{AppWorld, Sessions}
use Rattle.sim_1_applications.specs.Events.{Acknowledge, At, acknowledged}
use Rattle.sim_5_moves.proofs.SessionWordsComing as coming
use Rattle.sim_5_moves.proofs.SessionWordsComing.{Coming, IsHeard, acted_by, between_both, done, end, flags_there, follows, heard_runs, history, i, interleaved, kept_after, kept_before, old, represents_there, same_device, t, who}
use Rattle.sim_5_moves.proofs.Counted.{Learnt, acked_so, learns, none_above, told_so}
use Rattle.sim_5_moves.proofs.SessionWordsTurns.{HasSession}
use Rattle.sim_5_devices.specs.Told.{IsCounted}
use Rattle.sim_5_moves.specs.Going.{ArePutBuilt}
use Rattle.sim_5_moves.specs.Running.{Bounds, DeviceSimulates, MoveSimulates, keep_in}
use Rattle.xml_writer.specs.Items.{ItemOut}

module _ (schedule : WireView) (b : Bounds) (says : ℕ) (w : ItemWorld) (x : AppWorld) (c : Coming schedule b says w x) where
  abbrev d : ItemDevice
  d = coming.d schedule b says w x c

  abbrev was : DeviceSimulates schedule w x (i schedule b says w x c) c.o
  was = old schedule b says w x c

  -- The client has its session, and is told a count: of the session so much is acknowledged.
  pub record IsTold (h : ℕ) (s : HasSession d was.view) (e : ClientStep ItemOut ItemOut) : Type 0 where
    pub turn : t schedule b says w x c ≡ e
    pub notes : noted e.out.notes ≡ Learns ∷ []
    pub session : e.client.session ≡ Some (with_waiting s.session (acked s.session.waiting (told_count h)))
    pub told : (there : Sessions) (n : ℕ) → IsCounted d.client there s.session n (told_count h) → SubmissionsRepresent e.client (acknowledged n there)
    pub log : e.client.log ≡ d.client.log
    pub pages : e.client.pages ≡ d.client.pages

  module _ (h : ℕ) (s : HasSession d was.view) (e : ClientStep ItemOut ItemOut) (k : IsTold h s e) where
    notes_so : noted (t schedule b says w x c).out.notes ≡ Learns ∷ []
    notes_so = ap (λ (u : ClientStep ItemOut ItemOut). noted u.out.notes) k.turn ∙ k.notes

    sorted : (xs : List SessionStep) × (there : Sessions) × SessionSteps xs was.device.sessions there × DoesAll stanzas_read (Learns ∷ []) there (end schedule b says w x c)
    sorted =
        session_steps_first stanzas_read (Learns ∷ []) was.device.sessions (end schedule b says w x c) (tt, tt)
        (subst (λ ds. DoesInterleaved stanzas_read ds was.device.sessions (end schedule b says w x c)) notes_so (interleaved schedule b says w x c))

    abbrev there : Sessions
    there = sorted.1

    learnt_so : Learnt there (end schedule b says w x c) × (there.online ≡ true)
    learnt_so = learns there (end schedule b says w x c) sorted.3

    abbrev l : Learnt there (end schedule b says w x c)
    l = learnt_so.0

    session_stepped : IsSteppedTo was.device.sessions there
    session_stepped = stepped_to sorted.0 was.device.sessions there sorted.2

    has_after : (follows schedule b says w x c).represents.device.client.session ≡ Some (with_waiting s.session (acked s.session.waiting (told_count h)))
    has_after = ap (λ (y : ItemDevice). y.client.session) (sym (same_device schedule b says w x c)) ∙ ap (λ (u : ClientStep ItemOut ItemOut). u.client.session) k.turn ∙ k.session

    count_is : told_count h ≡ told_count l.count
    count_is =
        told_so (who schedule b says w x c) was.logins (follows schedule b says w x c).represents.device (follows schedule b says w x c).next (end schedule b says w x c) (with_waiting s.session (acked s.session.waiting (told_count h)))
        (follows schedule b says w x c).represents.client (kept_after schedule b says w x c) (done schedule b says w x c).2 has_after
        ∙ ap (λ (y : Sessions). told_count y.now.acked) l.is

    acked_there : s.own.acked ≡ there.now.acked
    acked_there = acked_so was.view was.device.sessions (kept_before schedule b says w x c) was.sessions s.own s.is_own ∙ sym session_stepped.acked

    few_waits : l.count ≤ there.now.acked + length s.session.waiting.queue
    few_waits =
        let top = l.high in
        let above = none_above was.view was.device.sessions (kept_before schedule b says w x c) was.sessions s.own s.is_own in
        let got = ap length session_stepped.up_got in
        let same = session_stepped.acked in
        let queue = ap length s.shown.queue in
        omega (arith, top, above, got, same, queue)

    counted : IsCounted d.client there s.session l.count (told_count h)
    counted = record {
      represents = represents_there schedule b says w x c sorted.0 there sorted.2;
      session = s.has;
      acked = s.shown.acked ∙ ap told_count acked_there;
      count = count_is;
      low = l.low;
      high = few_waits;
      few = subst (λ zs. length zs ≤ MOST_UNACKNOWLEDGED) (sym s.shown.queue) s.shown.few;
    }

    acts : IsHeard schedule b says w x c (acted_by schedule b says w x c (Acknowledge l.count) there)
    acts = record {
      timely = subst (λ ds. AreInTime ds was.device.sessions.now) (sym notes_so) tt;
      put = subst (ArePutBuilt c.o (history schedule b says w x c)) (sym notes_so) tt;
      events = session_step_events (i schedule b says w x c) sorted.0 ++ At (i schedule b says w x c) (Acknowledge l.count) ∷ [];
      reaches = act_reaches x (i schedule b says w x c) was.device was.there sorted.0 there sorted.2 (Acknowledge l.count) (learnt_so.1, l.low, l.high) refl;
      silent = act_spoken (i schedule b says w x c) sorted.0 (Acknowledge l.count);
      between = λ j. between_both j (i schedule b says w x c) sorted.0 [] (Acknowledge l.count) tt;
      account = refl;
      ends = l.is;
      submissions = subst (λ (u : ClientStep ItemOut ItemOut). SubmissionsRepresent u.client (acknowledged l.count there)) (sym k.turn) (k.told there l.count counted);
      log = subst (λ (y : LogView). LogRepresents (keep_in schedule) (history schedule b says w x c) y was.device.reading) (sym (ap (λ (u : ClientStep ItemOut ItemOut). u.client.log) k.turn ∙ k.log)) was.log;
      pages = ap (λ (u : ClientStep ItemOut ItemOut). u.client.pages) k.turn ∙ k.pages ∙ was.pages;
      flags = flags_there schedule b says w x c sorted.0 there sorted.2 (ap (λ (y : Sessions). y.row) l.is);
    }

    abbrev IsRunSo : Type 0
    IsRunSo = MoveSimulates schedule b says (Down c.position) w x c.runs

    pub learns_runs : IsRunSo
    learns_runs = heard_runs schedule b says w x c (acted_by schedule b says w x c (Acknowledge l.count) there) acts
