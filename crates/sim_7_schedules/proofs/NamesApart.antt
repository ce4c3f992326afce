-- No two devices of a schedule have one name.
use Rattle.std.proofs.Common.{◌≡◌, ℕ, false, not, List, [], ◌∷◌, ◌++◌, length, map, refl, sym, ap, subst, append-nil, append_assoc}
use Rattle.std.proofs.lemmas.Bool.{and_parts, not-true, or_parts}
use Rattle.std.specs.List.{AllByRecursion, flat_map}
use Rattle.std.specs.Prelude.{IsTrue, ◌&&◌, nat_lt}
use Rattle.std.specs.Str.{bytes_eq}
use Rattle.base_lemmas.proofs.Bytes.{bytes_eq-from_other, other-from_bytes_eq}
use Rattle.base_io.specs.Names.{is_among}
use Rattle.sim_7_schedules.specs.Refusals.{Noted, noted_in, noted_of}
use Rattle.cmd_schedule.specs.Contents.{Owned, owned_in}
use Rattle.cmd_schedule.specs.Grammar.{is_name}
use Rattle.cmd_schedule.specs.Schedules.{WireView, common_at, steps_of}
use Rattle.cmd_schedule.specs.LineLists.{AreListed, IsLineList}
use Rattle.cmd_schedule.specs.WireGrammar.{WireAbove, above_by, may_run, nothing_above}
use Rattle.cmd_schedule.specs.declared.schedule.Line.{Line}
use Rattle.cmd_schedule.specs.declared.schedule.Step.{Step}
use Rattle.cmd_schedule.specs.declared.schedule.Step.TheVariants as step
use Rattle.cmd_schedule.specs.declared.schedule.WireLine.{WireLine}
use Rattle.cmd_schedule.specs.declared.schedule.WireStep.{WireStep}
use Rattle.cmd_schedule.specs.declared.schedule.WireStep.TheVariants as wire
use Rattle.cmd_world.specs.Histories.{common_steps, owned_at_start, world_at_start}

-- either way, as names are compared
abbrev pub IsApart : List ℕ → List (List ℕ) → Type 0
IsApart name names = AllByRecursion (λ other. (bytes_eq name other ≡ false) × (bytes_eq other name ≡ false)) names

abbrev pub AreApart : List (List ℕ) → Type 0
AreApart [] = Unit {0}
AreApart (name ∷ names) = IsApart name names × AreApart names

with_last : (P : List ℕ → Type 0) (xs : List (List ℕ)) (x : List ℕ) → AllByRecursion P xs → P x → AllByRecursion P (xs ++ x ∷ [])
with_last P [] x all is = (is, tt)
with_last P (y ∷ ys) x all is = (all.0, with_last P ys x all.1 is)

with_new : (names : List (List ℕ)) (name : List ℕ) → AreApart names → is_among name names ≡ false → AreApart (names ++ name ∷ [])
with_new [] name are new = (tt, tt)
with_new (n ∷ names) name are new =
    let parts = or_parts (bytes_eq name n) (is_among name names) new in
    (with_last (λ other. (bytes_eq n other ≡ false) × (bytes_eq other n ≡ false)) names name are.0 (bytes_eq-from_other n name (λ same. other-from_bytes_eq name n parts.0 (sym same)), parts.0), with_new names name are.1 parts.1)

-- ---- the lines of a schedule

abbrev pub names_by : List Step → List (List ℕ)
names_by steps = map (λ (o : Owned). o.device) (owned_in steps)

new_name : (above : WireAbove) (name account : List ℕ) → IsTrue (may_run above (wire.Common (step.Device name account))) → is_among name above.names.devices ≡ false
new_name above name account may =
    let few = nat_lt (length above.names.devices) 100 in
    let fresh = not (is_among name above.names.devices) in
    let a = and_parts (few && is_name name && fresh) (is_among account above.names.accounts) may in
    let b = and_parts (few && is_name name) fresh a.0 in
    not-true (is_among name above.names.devices) b.1

by_step : (above : WireAbove) (number : ℕ) (s : WireStep) (rest : List Line) → IsTrue (may_run above s) → AreApart above.names.devices
    → (AreApart (above_by s above).names.devices → AreApart ((above_by s above).names.devices ++ names_by (steps_of rest)))
    → AreApart (above.names.devices ++ names_by (steps_of (common_at number s ++ rest)))
by_step above number (wire.Common (step.Account name)) rest may apart next = next apart
by_step above number (wire.Common (step.Device name account)) rest may apart next =
    subst AreApart (append_assoc above.names.devices (name ∷ []) (names_by (steps_of rest))) (next (with_new above.names.devices name apart (new_name above name account may)))
by_step above number (wire.Common (step.Say device to text)) rest may apart next = next apart
by_step above number (wire.Common (step.Private device to text)) rest may apart next = next apart
by_step above number (wire.Common (step.Catchup device most)) rest may apart next = next apart
by_step above number (wire.Common (step.Tick ms)) rest may apart next = next apart
by_step above number (wire.Dial device) rest may apart next = next apart
by_step above number (wire.Forget device) rest may apart next = next apart
by_step above number (wire.Close device) rest may apart next = next apart
by_step above number (wire.Up k bytes) rest may apart next = next apart
by_step above number (wire.Down k bytes) rest may apart next = next apart
by_step above number (wire.Cut k up down) rest may apart next = next apart
by_step above number (wire.Pass k times) rest may apart next = next apart
by_step above number (wire.Run times) rest may apart next = next apart

by_lines : (above : WireAbove) (lines : List WireLine) → AreListed above lines → AreApart above.names.devices
    → AreApart (above.names.devices ++ names_by (steps_of (flat_map (λ (line : WireLine). common_at line.number line.step) lines)))
by_lines above [] are apart = subst AreApart (sym (append-nil above.names.devices)) apart
by_lines above (line ∷ lines) are apart =
    by_step above line.number line.step (flat_map (λ (l : WireLine). common_at l.number l.step) lines) are.1 apart (by_lines (above_by line.step above) lines are.3)

-- ---- the devices of a world

abbrev pub names_of : List Noted → List (List ℕ)
names_of ns = map (λ (n : Noted). n.name) ns

pub first_names : (os : List Owned) → map (λ (o : Owned). o.device) os ≡ names_of (map noted_of (map owned_at_start os))
first_names [] = refl
first_names (o ∷ os) = ap (λ ns. o.device ∷ ns) (first_names os)

pub apart_at_start : (schedule : WireView) → IsLineList schedule → AreApart (names_of (noted_in (world_at_start schedule)))
apart_at_start schedule right = subst AreApart (first_names (owned_in (common_steps schedule))) (by_lines nothing_above schedule.lines right.lines tt)
