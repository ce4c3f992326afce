-- The report of a wire schedule is that of a run of the two applications.
use Rattle.std.proofs.Common.{◌≡◌, ℕ, ◌<◌, ◌≤◌, ◌^◌, List, [], ◌∷◌, ◌++◌, Some, length, get_or, refl, sym, ap, ◌∙◌, subst, arith, map}
use Rattle.std.proofs.lemmas.Option.{same_Some, slice_get-get_or, slice_get_within}
use Rattle.std.specs.List.{flat_map, slice_get}
use Rattle.mam_archive.specs.declared.archive.TheConstants.{GREATEST_NUMBER}
use Rattle.sim_3_items.specs.Labels.{awaits}
use Rattle.sim_3_items.specs.Items.{stanzas_read}
use Rattle.sim_3_items.specs.ItemWorlds.{ItemWorld}
use Rattle.sim_2_links.proofs.WithPremises.{prompt_runs}
use Rattle.sim_2_events.proofs.Counted.{epochs}
use Rattle.cmd_report.specs.LawfulRuns.{KeepsLaws}
use Rattle.sim_7_schedules.proofs.ByteMoves.{state_joined}
use Rattle.sim_7_schedules.proofs.Moves.{small}
use Rattle.sim_7_schedules.proofs.Shown.{world_shown}
use Rattle.sim_7_schedules.proofs.WorldTold.{reported}
use Rattle.sim_7_schedules.specs.ShownWorlds.{shown_of}
use Rattle.cmd_schedule.specs.Schedules.{WireView, seen_of}
use Rattle.cmd_schedule.specs.LineLists.{IsLineList}
use Rattle.cmd_schedule.specs.declared.schedule.WireLine.{WireLine}
use Rattle.sim_7_schedules.specs.Simulation.{LinesSimulate, MovesSimulate, ScheduleSimulates, Simulates, Views, bounds, views_of}
use Rattle.sim_1_applications.proofs.Said.{takes_few}
use Rattle.sim_1_applications.proofs.Taken.{of_all}
use Rattle.sim_1_applications.specs.Counts.{IsNumberedWithin}
use Rattle.sim_1_applications.specs.Devices as sessions
use Rattle.sim_1_applications.specs.Events.{AppEvent}
use Rattle.sim_1_applications.proofs.Lists.{all_weaker}
use Rattle.sim_1_applications.specs.Histories.{spoken_in, state_after, states_of}
use Rattle.sim_1_applications.proofs.Moments.{reaches_is}
use Rattle.sim_1_applications.specs.Reported.{AreRepresented, IsShown}
use Rattle.sim_1_applications.specs.Runs.{IsRunOf, LineRun, begins, moves_of, owned_of}
use Rattle.sim_1_applications.proofs.LawsOfBoth.{laws_kept}
use Rattle.sim_1_applications.specs.Counted.{AreCounted}
use Rattle.cmd_world.specs.Histories.{history_of, world_at_start, world_of, worlds_along, worlds_by}
use Rattle.cmd_world.specs.Lines as lines
use Rattle.cmd_world.specs.Lines.{all_stepped, stepped}
use Rattle.cmd_world.specs.Moves.{Move, all_moved, moved}
use Rattle.cmd_world.specs.WorldReports.{report_of}
use Rattle.cmd_world.specs.Worlds.{ByteWorld}
use Rattle.sim_3_images.proofs.MovesKept.{kept_after, kept_first}
use Rattle.sim_3_images.specs.Kept.{IsWorldKept}
use Rattle.sim_5_moves.specs.Running.{WorldSimulates}

-- the events of moves, one after another
abbrev joined : List (List AppEvent) → List AppEvent
joined moves = flat_map (λ one. one) moves

after_moves : (x : sessions.AppWorld) (front back : List (List AppEvent)) → state_after x (joined (front ++ back)) ≡ state_after (state_after x (joined front)) (joined back)
after_moves x [] back = refl
after_moves x (es ∷ front) back =
    state_joined x es (joined (front ++ back)) ∙ after_moves (state_after x es) front back ∙ ap (λ w. state_after w (joined back)) (sym (state_joined x es (joined front)))

module _ (s : WireView) (right : IsLineList s) where
  represents : (W : ByteWorld) (x : sessions.AppWorld) → IsWorldKept s W → Simulates s W x → IsShown (owned_of s) x (shown_of W)
  represents W x kept beside = world_shown s bounds beside.says W beside.items x right kept beside.encodes beside.runs

  -- along moves what is kept and what is beside stays
  along : (ms : List Move) (ess : List (List AppEvent)) (views last : Views s) (W : ByteWorld) (x : sessions.AppWorld) → IsWorldKept s W → Simulates s W x → MovesSimulate s ms ess views last W x → IsWorldKept s (all_moved ms W) × Simulates s (all_moved ms W) (state_after x (joined ess))
  along [] [] views last W x kept beside go = (kept, beside)
  along [] (es ∷ ess) views last W x kept beside go = absurd go
  along (m ∷ ms) [] views last W x kept beside go = absurd go
  along (m ∷ ms) (es ∷ ess) views last W x kept beside go =
      let rest = along ms ess go.0 last (moved m W) (state_after x es) (kept_after s m W kept) go.1.beside go.3 in
      (rest.0, subst (Simulates s (all_moved ms (moved m W))) (sym (state_joined x es (joined ess))) rest.1)

  along_lines : (rest : List WireLine) (runs : List LineRun) (views : Views s) (W : ByteWorld) (x : sessions.AppWorld) → IsWorldKept s W → Simulates s W x → LinesSimulate s rest runs views W x → IsWorldKept s (all_stepped rest W) × Simulates s (all_stepped rest W) (state_after x (joined (moves_of runs)))
  along_lines [] [] views W x kept beside go = (kept, beside)
  along_lines [] (run ∷ runs) views W x kept beside go = absurd go
  along_lines (line ∷ rest) [] views W x kept beside go = absurd go
  along_lines (line ∷ rest) (run ∷ runs) views W x kept beside go =
      let mid = along (lines.moves_of line W) run.moves views go.1 W x kept beside go.2 in
      let end = along_lines rest runs go.1 (stepped line W) (state_after x (joined run.moves)) mid.0 mid.1 go.3 in
      (end.0, subst (Simulates s (all_stepped rest (stepped line W))) (sym (after_moves x run.moves (moves_of runs))) end.1)

  -- what each world shows, along moves and what comes behind them
  represent_moves : (ms : List Move) (ess : List (List AppEvent)) (views last : Views s) (W : ByteWorld) (x : sessions.AppWorld) (more : List (List AppEvent)) (others : List ByteWorld) → IsWorldKept s W → Simulates s W x → MovesSimulate s ms ess views last W x →
      AreRepresented (owned_of s) (states_of (state_after x (joined ess)) more) (map shown_of (all_moved ms W ∷ others)) → AreRepresented (owned_of s) (states_of x (ess ++ more)) (map shown_of (W ∷ worlds_by ms W ++ others))
  represent_moves [] [] views last W x more others kept beside go following = following
  represent_moves [] (es ∷ ess) views last W x more others kept beside go following = absurd go
  represent_moves (m ∷ ms) [] views last W x more others kept beside go following = absurd go
  represent_moves (m ∷ ms) (es ∷ ess) views last W x more others kept beside go following = (
    represents W x kept beside,
    represent_moves ms ess go.0 last (moved m W) (state_after x es) more others (kept_after s m W kept) go.1.beside go.3
        (subst (λ w. AreRepresented (owned_of s) (states_of w more) (map shown_of (all_moved ms (moved m W) ∷ others))) (state_joined x es (joined ess)) following),
  )

  represent_lines : (rest : List WireLine) (runs : List LineRun) (views : Views s) (W : ByteWorld) (x : sessions.AppWorld) → IsWorldKept s W → Simulates s W x → LinesSimulate s rest runs views W x →
      AreRepresented (owned_of s) (states_of x (moves_of runs)) (map shown_of (W ∷ worlds_along rest W))
  represent_lines [] [] views W x kept beside go = (represents W x kept beside, tt)
  represent_lines [] (run ∷ runs) views W x kept beside go = absurd go
  represent_lines (line ∷ rest) [] views W x kept beside go = absurd go
  represent_lines (line ∷ rest) (run ∷ runs) views W x kept beside go =
      let mid = along (lines.moves_of line W) run.moves views go.1 W x kept beside go.2 in
      represent_moves (lines.moves_of line W) run.moves views go.1 W x (moves_of runs) (worlds_along rest (stepped line W)) kept beside go.2
      (represent_lines rest runs go.1 (stepped line W) (state_after x (joined run.moves)) mid.0 mid.1 go.3)

  of_lines : (rest : List WireLine) (runs : List LineRun) (views : Views s) (W : ByteWorld) (x : sessions.AppWorld) → LinesSimulate s rest runs views W x → map (λ (r : LineRun). r.line) runs ≡ rest
  of_lines [] [] views W x go = refl
  of_lines [] (run ∷ runs) views W x go = absurd go
  of_lines (line ∷ rest) [] views W x go = absurd go
  of_lines (line ∷ rest) (run ∷ runs) views W x go = ap (λ l. l ∷ map (λ (r : LineRun). r.line) runs) go.0 ∙ ap (λ ls. line ∷ ls) (of_lines rest runs go.1 (stepped line W) (state_after x (joined run.moves)) go.3)

  few_of : (W : ByteWorld) (x : sessions.AppWorld) → Simulates s W x → length x.takes ≤ GREATEST_NUMBER
  few_of W x beside =
      let led = beside.runs.in_bounds.led in
      let many = takes_few _ _ _ led.events x led.reaches in
      let spoken = led.spoken in
      let said = beside.runs.in_bounds.said in
      omega arith

  -- each device's epoch is no higher than the numbers that the server gave
  pub epoch_of_device : (says : ℕ) (v : ItemWorld) (x : sessions.AppWorld) (runs : WorldSimulates s bounds says v x) (i : ℕ) (d : sessions.Device) → slice_get x.devices i ≡ Some d → sessions.epoch_of d.sessions ≤ 10001
  epoch_of_device says v x runs i d at =
      let size = slice_get_within x.devices i d at in
      let many = runs.simulation.many_there in
      let o = get_or (owned_of s) i (record { device = []; account = [] }) in
      let owned : slice_get (owned_of s) i ≡ Some o = slice_get-get_or (owned_of s) i (record { device = []; account = [] }) (omega arith) in
      let dr = runs.simulation.devices i o owned in
      let same : dr.device ≡ d = same_Some dr.device d (sym dr.there ∙ at) in
      let low = epochs stanzas_read dr.view dr.device dr.sessions (prompt_runs awaits dr.view dr.prompt) in
      let high = dr.represents.server.free in
      let within = runs.in_bounds.within.few in
      let dialled = runs.in_bounds.dialled in
      subst (λ (e : sessions.Device). sessions.epoch_of e.sessions ≤ 10001) same (omega arith)

  counted_of : (W : ByteWorld) (x : sessions.AppWorld) → Simulates s W x → AreCounted x
  counted_of W x beside =
      let led = beside.runs.in_bounds.led in
      let spoken = led.spoken in
      let said = beside.runs.in_bounds.said in
      all_weaker (λ (t : sessions.Take). IsNumberedWithin 10001 (length (spoken_in led.events)) t.said) (λ (t : sessions.Take). (t.said.epoch < 2 ^ 64) × (t.said.n < 2 ^ 64)) x.takes
      (λ t few. let epoch = few.0 in let n = few.1 in (omega arith, omega arith))
      (of_all _ _ _ led.events x 10001 led.reaches (epoch_of_device beside.says beside.items x beside.runs))

  -- behind the last line the world that it leads to is beside the last one of the applications
  pub last_beside : (runs : ScheduleSimulates s) → IsWorldKept s (world_of s) × Simulates s (world_of s) runs.last
  unfolding world_of
  last_beside sr =
      let end = along_lines s.lines sr.runs (views_of sr.first.runs) (world_at_start s) (begins s) (kept_first s) sr.first sr.go in
      let is = reaches_is (joined (moves_of sr.runs)) (begins s) sr.last sr.reaches in
      (end.0, subst (Simulates s (world_of s)) (sym is) end.1)

  pub run_of : (runs : ScheduleSimulates s) → IsRunOf s (map shown_of (history_of s)) (report_of (world_of s))
  run_of sr =
      let end = last_beside sr in
      let last = end.1 in
      let told = reported s bounds last.says (world_of s) last.items sr.last right small end.0 last.encodes last.runs in
      record {
        right = right;
        runs = sr.runs;
        of_lines = of_lines s.lines sr.runs (views_of sr.first.runs) (world_at_start s) (begins s) sr.go;
        done = sr.done;
        last = sr.last;
        reaches = sr.reaches;
        few = few_of (world_of s) sr.last last;
        shown = represent_lines s.lines sr.runs (views_of sr.first.runs) (world_at_start s) (begins s) (kept_first s) sr.first sr.go;
        reported = record { version = told.version; wire = told.wire; takes = told.takes; accounts = told.accounts; devices = told.devices; refused = sr.refused };
      }

  pub last_is : (runs : ScheduleSimulates s) → (run_of runs).last ≡ runs.last
  unfolding run_of
  last_is sr = refl

  pub lawful : (runs : ScheduleSimulates s) → KeepsLaws (map shown_of (history_of s)) (seen_of s) (report_of (world_of s))
  lawful sr =
      laws_kept s (map shown_of (history_of s)) (report_of (world_of s)) (run_of sr)
      (subst AreCounted (sym (last_is sr)) (counted_of (world_of s) sr.last (last_beside sr).1))
