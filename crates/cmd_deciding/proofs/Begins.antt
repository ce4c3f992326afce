-- What a run begins with.
use Rattle.std.proofs.Common.{◌≡◌, ◌+◌, ℕ, zero, suc, List, [], ◌∷◌, ◌++◌, map, refl, sym, ap, ap₂, ◌∙◌}
use Rattle.std.proofs.lemmas.List.{map-append}
use Rattle.std.specs.Prelude.{IsTrue, slice_get}
use Rattle.cmd_intents.specs.Files.{FileView}
use Rattle.cmd_schedule.specs.Contents.{Owned, owned_at, owned_in}
use Rattle.cmd_schedule.specs.Grammar.{may_keep}
use Rattle.cmd_schedule.specs.Schedules.{WireView}
use Rattle.cmd_schedule.specs.WireGrammar.{IsWireSchedule}
use Rattle.cmd_schedule.specs.declared.schedule.Step.TheVariants.{Account, Device, Say, Private, Catchup, Tick}
use Rattle.cmd_schedule.specs.declared.schedule.WireLine.{WireLine}
use Rattle.cmd_schedule.specs.declared.schedule.WireStep.{WireStep}
use Rattle.cmd_schedule.specs.declared.schedule.WireStep.TheVariants.{Common, Dial, Forget, Close, Up, Down, Cut, Pass, Run}
use Rattle.cmd_world.specs.Histories.{common_steps, owned_at_start, world_at_start}
use Rattle.cmd_world.proofs.Gathered.{gathered, gathered_append}
use Rattle.cmd_resolving.specs.Expansion.{Watching, none_of, observed_by, observed_from, watching_at_start}
use Rattle.cmd_deciding.specs.Looks.{HasLooked, watching}
use Rattle.cmd_deciding.specs.Starts.{none_by, none_in}

-- ---- a file's schedule may be run

pub may_keep_first : (schedule : WireView) → IsWireSchedule schedule → IsTrue (may_keep schedule.version)
may_keep_first schedule is = is.keeps

-- ---- no intents, of the devices that lines declare

none_by_step : (n : ℕ) (step : WireStep) → none_by step ≡ map none_of (gathered owned_at (record { number = n; step = step } ∷ []))
none_by_step n (Common (Account name)) = refl
none_by_step n (Common (Device name account)) = refl
none_by_step n (Common (Say device to text)) = refl
none_by_step n (Common (Private device to text)) = refl
none_by_step n (Common (Catchup device most)) = refl
none_by_step n (Common (Tick ms)) = refl
none_by_step n (Dial device) = refl
none_by_step n (Forget device) = refl
none_by_step n (Close device) = refl
none_by_step n (Up conn count) = refl
none_by_step n (Down conn count) = refl
none_by_step n (Cut conn up down) = refl
none_by_step n (Pass conn times) = refl
none_by_step n (Run times) = refl

none_in_lines : (lines : List WireLine) → none_in lines ≡ map none_of (gathered owned_at lines)
none_in_lines [] = refl
none_in_lines (line ∷ lines) =
    ap₂ (λ xs ys. xs ++ ys) (none_by_step line.number line.step) (none_in_lines lines)
    ∙ sym (map-append none_of (gathered owned_at (line ∷ [])) (gathered owned_at lines))
    ∙ ap (map none_of) (sym (gathered_append owned_at (line ∷ []) lines))

pub started : (f : FileView) (schedule : WireView) (s : Watching) → schedule ≡ f.schedule → s ≡ watching (world_at_start schedule) (none_in schedule.lines) → s ≡ watching_at_start f
started f schedule s same is =
    is ∙ ap (λ t. watching (world_at_start t) (none_in t.lines)) same ∙ ap (watching (world_at_start f.schedule)) (none_in_lines f.schedule.lines)

-- ---- they have looked

fresh_looks : (n : ℕ) (os : List Owned) (o : Owned) → observed_by (slice_get (map owned_at_start os) n) (none_of o) ≡ none_of o
fresh_looks n [] o = refl
fresh_looks zero (x ∷ os) o = refl
fresh_looks (suc n) (x ∷ os) o = fresh_looks n os o

fresh_look_from : (n : ℕ) (os ps : List Owned) → observed_from n (map owned_at_start os) (map none_of ps) ≡ map none_of ps
fresh_look_from n os [] = refl
fresh_look_from n os (p ∷ ps) =
    ap (λ y. y ∷ observed_from (n + 1) (map owned_at_start os) (map none_of ps)) (fresh_looks n os p) ∙ ap (λ ys. none_of p ∷ ys) (fresh_look_from (n + 1) os ps)

pub start_looked : (f : FileView) → HasLooked (watching_at_start f)
start_looked f = fresh_look_from 0 (owned_in (common_steps f.schedule)) (owned_in (common_steps f.schedule))
