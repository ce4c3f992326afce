-- The worlds of a wire schedule's history are beside worlds of the two applications, and events lead from each to the next.
use Rattle.std.proofs.Common.{◌≡◌, ℕ, zero, suc, ◌+◌, List, [], ◌∷◌, ◌++◌, Some, refl, sym, ap, ◌∙◌, subst, arith, append_assoc}
use Rattle.std.proofs.lemmas.List.Concat.{flat_map-append}
use Rattle.std.proofs.lemmas.Option.{none-some, same_Some}
use Rattle.std.specs.List.{flat_map, slice_get}
use Rattle.sim_5_devices.proofs.AllSessionSteps.{reaches_both}
use Rattle.cmd_schedule.specs.Schedules.{WireView}
use Rattle.cmd_schedule.specs.LineLists.{IsLineList}
use Rattle.cmd_schedule.specs.declared.schedule.WireLine.{WireLine}
use Rattle.sim_1_applications.specs.Devices as sessions
use Rattle.sim_1_applications.specs.Events.{AppEvent, Reaches}
use Rattle.sim_1_applications.specs.Histories.{state_after}
use Rattle.sim_1_applications.proofs.Moments.{reaches_is}
use Rattle.sim_1_applications.specs.Runs.{LineRun, begins}
use Rattle.sim_1_applications.specs.Runs as lines
use Rattle.sim_7_schedules.proofs.ByteMoves.{state_joined}
use Rattle.sim_7_schedules.proofs.WholeRuns.{whole_run}
use Rattle.sim_7_schedules.specs.Simulation.{LinesSimulate, MovesSimulate, Simulates, SimulatesBy, Views, views_of}
use Rattle.cmd_world.specs.Histories.{history_of, world_at_start, worlds_along, worlds_by}
use Rattle.cmd_world.specs.Lines.{moves_of, stepped}
use Rattle.cmd_world.specs.Moves.{Move, moved}
use Rattle.cmd_world.specs.Worlds.{ByteWorld}

-- ---- events, cut in two

record Between (xs ys : List AppEvent) (x last : sessions.AppWorld) : Type 0 where
  mid : sessions.AppWorld
  first : Reaches xs x mid
  second : Reaches ys mid last

cut_run : (xs ys : List AppEvent) (x last : sessions.AppWorld) → Reaches (xs ++ ys) x last → Between xs ys x last
cut_run [] ys x last r = record { mid = x; first = refl; second = r }
cut_run (e ∷ xs) ys x last r = let rest = cut_run xs ys r.0 last r.2 in record { mid = rest.mid; first = (r.0, r.1, rest.first); second = rest.second }

pub cut_at : (xs ys : List AppEvent) (x last : sessions.AppWorld) → Reaches (xs ++ ys) x last → Reaches xs x (state_after x xs) × Reaches ys (state_after x xs) last
cut_at xs ys x last r =
    let b = cut_run xs ys x last r in
    let is = reaches_is xs x b.mid b.first in
    (subst (λ u. Reaches xs x u) is b.first, subst (λ u. Reaches ys u last) is b.second)

-- ---- worlds, one after another, and the links of each

abbrev pub Chain : (s : WireView) → sessions.AppWorld → Views s → List ByteWorld → Type 0
Chain s x views [] = Unit {0}
Chain s x views (W ∷ Ws) = (y : sessions.AppWorld) × (es : List AppEvent) × Reaches es x y × (next : Views s) × SimulatesBy s W y next × Chain s y next Ws

abbrev joined : List (List AppEvent) → List AppEvent
joined moves = flat_map (λ one. one) moves

chain_moves : (s : WireView) (ms : List Move) (ess : List (List AppEvent)) (views end : Views s) (W : ByteWorld) (x : sessions.AppWorld) (more : List AppEvent) (last : sessions.AppWorld) (Ws : List ByteWorld) → MovesSimulate s ms ess views end W x →
    Reaches (joined ess ++ more) x last → (Reaches more (state_after x (joined ess)) last → Chain s (state_after x (joined ess)) end Ws) → Chain s x views (worlds_by ms W ++ Ws)
chain_moves s [] [] views end W x more last Ws go reaches following = subst (λ (v : Views s). Chain s x v Ws) go (following reaches)
chain_moves s [] (es ∷ ess) views end W x more last Ws go reaches following = absurd go
chain_moves s (m ∷ ms) [] views end W x more last Ws go reaches following = absurd go
chain_moves s (m ∷ ms) (es ∷ ess) views end W x more last Ws go reaches following =
    let parts = cut_at es (joined ess ++ more) x last (subst (λ l. Reaches l x last) (append_assoc es (joined ess) more) reaches) in (
      state_after x es,
      es,
      parts.0,
      go.0,
      go.1,
      chain_moves s ms ess go.0 end (moved m W) (state_after x es) more last Ws go.3 parts.1 (subst (λ u. Reaches more u last → Chain s u end Ws) (state_joined x es (joined ess)) following),
    )

chain_lines : (s : WireView) (rest : List WireLine) (runs : List LineRun) (views : Views s) (W : ByteWorld) (x last : sessions.AppWorld) → LinesSimulate s rest runs views W x → Reaches (joined (lines.moves_of runs)) x last → Chain s x views (worlds_along rest W)
chain_lines s [] [] views W x last go reaches = tt
chain_lines s [] (run ∷ runs) views W x last go reaches = absurd go
chain_lines s (line ∷ rest) [] views W x last go reaches = absurd go
chain_lines s (line ∷ rest) (run ∷ runs) views W x last go reaches =
    chain_moves s (moves_of line W) run.moves views go.1 W x (joined (lines.moves_of runs)) last (worlds_along rest (stepped line W)) go.2
    (subst (λ es. Reaches es x last) (flat_map-append (λ l. l) run.moves (lines.moves_of runs)) reaches)
    (λ onward. chain_lines s rest runs go.1 (stepped line W) (state_after x (joined run.moves)) last go.3 onward)

abbrev pub first_views : (s : WireView) → IsLineList s → Views s
first_views s right = views_of (whole_run s right).first.runs

pub chain_of : (s : WireView) (right : IsLineList s) → Chain s (begins s) (first_views s right) (history_of s)
chain_of s right =
    let runs = whole_run s right in (
      begins s,
      [],
      refl,
      first_views s right,
      record { beside = runs.first; shown = λ i o is. refl },
      chain_lines s s.lines runs.runs (first_views s right) (world_at_start s) (begins s) runs.last runs.go runs.reaches,
    )

-- ---- one of them, and those behind it

pub record Picked (s : WireView) (x : sessions.AppWorld) (Ws : List ByteWorld) (j : ℕ) (W : ByteWorld) : Type 0 where
  pub world : sessions.AppWorld
  pub events : List AppEvent
  pub reaches : Reaches events x world
  pub beside : Simulates s W world
  pub rest : List ByteWorld
  pub views : Views s
  pub chain : Chain s world views (W ∷ rest)
  pub at : (d n : ℕ) → n ≡ j + d → slice_get (W ∷ rest) d ≡ slice_get Ws n

pub pick : (s : WireView) (Ws : List ByteWorld) (x : sessions.AppWorld) (views : Views s) (j : ℕ) (W : ByteWorld) → Chain s x views Ws → slice_get Ws j ≡ Some W → Picked s x Ws j W
pick s [] x views j W chain at = absurd (none-some W at)
pick s (V ∷ Ws) x views zero W chain at =
    let same = same_Some V W at in
    let by : SimulatesBy s W chain.0 chain.3 = subst (λ u. SimulatesBy s u chain.0 chain.3) same chain.4 in
    record {
      world = chain.0;
      events = chain.1;
      reaches = chain.2;
      beside = by.beside;
      rest = Ws;
      views = chain.3;
      chain = (chain.0, [], refl, chain.3, by, chain.5);
      at = λ d n is. ap (λ u. slice_get (u ∷ Ws) d) (sym same) ∙ ap (λ k. slice_get (V ∷ Ws) k) (let equal : d ≡ n = omega (arith, is) in equal);
    }
pick s (V ∷ Ws) x views (suc j) W chain at =
    let p = pick s Ws chain.0 chain.3 j W chain.5 at in
    record {
      world = p.world;
      events = chain.1 ++ p.events;
      reaches = reaches_both chain.1 p.events x chain.0 p.world chain.2 p.reaches;
      beside = p.beside;
      rest = p.rest;
      views = p.views;
      chain = p.chain;
      at = deeper p.rest p.at;
    }
  where
    deeper : (rest : List ByteWorld) → ((d n : ℕ) → n ≡ j + d → slice_get (W ∷ rest) d ≡ slice_get Ws n) → (d n : ℕ) → n ≡ suc j + d → slice_get (W ∷ rest) d ≡ slice_get (V ∷ Ws) n
    deeper rest below d zero is = absurd (let no_way : ⊥ = omega (arith, is) in no_way)
    deeper rest below d (suc n) is = below d n (omega (arith, is))
