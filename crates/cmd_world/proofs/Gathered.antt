-- What the lines of a schedule declare, and the world that begins with it.
use Rattle.std.proofs.Common.{◌≡◌, ℕ, List, [], ◌++◌, map, ap, ◌∙◌}
use Rattle.std.proofs.lemmas.List.{map-append}
use Rattle.std.proofs.lemmas.List.Concat.{flat_map-append}
use Rattle.std.specs.List.{flat_map}
use Rattle.srv_core.specs.Configs.{at_start}
use Rattle.cmd_network.specs.Starting.{accounts_at_start}
use Rattle.cmd_report.specs.Addresses.{domain}
use Rattle.cmd_schedule.specs.Contents.{Owned}
use Rattle.cmd_schedule.specs.Schedules.{common_at, keep_of, steps_of}
use Rattle.cmd_schedule.specs.declared.schedule.Line.{Line}
use Rattle.cmd_schedule.specs.declared.schedule.Step.{Step}
use Rattle.cmd_schedule.specs.declared.schedule.Version.{Version}
use Rattle.cmd_schedule.specs.declared.schedule.WireLine.{WireLine}
use Rattle.cmd_world.specs.Histories.{owned_at_start}
use Rattle.cmd_world.specs.Worlds.{ByteWorld}

-- what common steps of lines give
abbrev pub gathered : {A : Type 0} → (Step → List A) → List WireLine → List A
gathered give lines = flat_map give (steps_of (flat_map (λ (line : WireLine). common_at line.number line.step) lines))

pub gathered_append : {A : Type 0} (give : Step → List A) (xs ys : List WireLine) → gathered give (xs ++ ys) ≡ gathered give xs ++ gathered give ys
gathered_append give xs ys =
    let common = λ (line : WireLine). common_at line.number line.step in
    let step = λ (line : Line). line.step in
    ap (λ ls. flat_map give (map step ls)) (flat_map-append common xs ys)
    ∙ ap (flat_map give) (map-append step (flat_map common xs) (flat_map common ys))
    ∙ flat_map-append give (map step (flat_map common xs)) (map step (flat_map common ys))

-- a world at its start, of accounts and devices
abbrev pub made : Version → List (List ℕ) → List Owned → ByteWorld
made version accounts owned = record {
  version = version;
  moment = 0;
  server = at_start domain (accounts_at_start accounts) (keep_of version);
  accounts = accounts;
  names = map (λ (o : Owned). o.device) owned;
  devices = map owned_at_start owned;
  wires = [];
  takes = [];
}
