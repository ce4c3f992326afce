-- What each move adds to the lines that devices have refused: none but what a user asks for adds a line.
use Rattle.std.proofs.Common.{◌≡◌, ℕ, Bool, zero, suc, List, [], ◌∷◌, Option, Some, None, Result, Ok, Err, map, refl, sym, ap, append-nil, ◌∙◌}
use Rattle.std.proofs.lemmas.Option.{none-some, same_Some}
use Rattle.std.specs.Prelude.{slice_get, slice_set}
use Rattle.cl_core.specs.UserCalls.{catch_up_answer, say_answer}
use Rattle.cl_core.specs.declared.faults.CatchUpStart.{CatchUpStart}
use Rattle.cl_core.specs.declared.faults.CatchUpStart.TheVariants as start
use Rattle.cl_core.specs.declared.faults.SayFault.{SayFault}
use Rattle.cl_core.specs.declared.faults.SayFault.TheVariants as say
use Rattle.cmd_network.specs.Devices.{DeviceState, catches_up_by, says_by}
use Rattle.cmd_report.specs.Addresses.{bare_address}
use Rattle.cmd_report.specs.declared.report.RefusedLine.{RefusedLine}
use Rattle.sim_7_schedules.specs.Refusals.{Noted, asked_why, catch_up_whys, lines_at, more_at, noted_after, noted_in, noted_of, said_why, say_whys, with_more}
use Rattle.cmd_world.specs.Moves as moves
use Rattle.cmd_world.specs.Moves.{Move, caught_up_by, moved, said_by}
use Rattle.cmd_world.specs.Worlds.{ByteWorld}
use Rattle.sim_3_images.proofs.DevicesMoved.{SeesNoMore, seen_moved}

abbrev noted : List ℕ → List RefusedLine → Noted
noted name refused = record { name = name; refused = refused }

no_more : SeesNoMore noted_of
no_more d e name account refused = ap (λ n. noted n d.refused) name ∙ ap (noted e.name) refused

-- ---- lines that one device adds

nothing_more : (d : DeviceState) → noted_of d ≡ with_more [] (noted_of d)
nothing_more d = ap (λ (lines : List RefusedLine). record { name = d.name; refused = lines }) (sym (append-nil d.refused))

one_more : (devices : List DeviceState) (position : ℕ) (d new : DeviceState) (lines : List RefusedLine) → slice_get devices position ≡ Some d → noted_of new ≡ with_more lines (noted_of d)
    → map noted_of (slice_set devices position new) ≡ more_at position lines (map noted_of devices)
one_more [] position d new lines is more = refl
one_more (e ∷ devices) zero d new lines is more = ap (λ n. n ∷ map noted_of devices) (more ∙ ap (λ (x : DeviceState). with_more lines (noted_of x)) (sym (same_Some e d is)))
one_more (e ∷ devices) (suc position) d new lines is more = ap (λ ns. noted_of e ∷ ns) (one_more devices position d new lines is more)

-- nobody is there
pub none_more : (position : ℕ) (devices : List DeviceState) → slice_get devices position ≡ None → map noted_of devices ≡ more_at position [] (map noted_of devices)
none_more position [] is = refl
none_more zero (e ∷ devices) is = absurd (none-some e (sym is))
none_more (suc position) (e ∷ devices) is = ap (λ ns. noted_of e ∷ ns) (none_more position devices is)

-- ---- what its user asks for

said_more : (line : ℕ) (to text : List ℕ) (private : Bool) (r : Result ℕ SayFault) (d : DeviceState) → noted_of (says_by line to text private r d).device ≡ with_more (lines_at line (said_why r)) (noted_of d)
said_more line to text private (Ok n) d = nothing_more d
said_more line to text private (Err say.NotBound) d = refl
said_more line to text private (Err say.OutboxFull) d = refl
said_more line to text private (Err say.BadText) d = nothing_more d
said_more line to text private (Err say.NoMemory) d = nothing_more d

asked_more : (line most : ℕ) (r : Result (Unit {0}) CatchUpStart) (d : DeviceState) → noted_of (catches_up_by line most r d).device ≡ with_more (lines_at line (asked_why r)) (noted_of d)
asked_more line most (Ok done) d = nothing_more d
asked_more line most (Err start.NotBound) d = refl
asked_more line most (Err start.OutboxFull) d = refl
asked_more line most (Err start.Underway) d = refl
asked_more line most (Err start.NoMemory) d = nothing_more d

said : (position line : ℕ) (to text : List ℕ) (private : Bool) (o : Option DeviceState) (w : ByteWorld) → slice_get w.devices position ≡ o
    → noted_in (said_by position line to text private o w) ≡ more_at position (lines_at line (say_whys text o)) (noted_in w)
said position line to text private None w is = none_more position w.devices is
said position line to text private (Some d) w is = one_more w.devices position d _ _ is (said_more line (bare_address to) text private (say_answer d.client.client text) d)

asked : (position line most : ℕ) (o : Option DeviceState) (w : ByteWorld) → slice_get w.devices position ≡ o
    → noted_in (caught_up_by position line most o w) ≡ more_at position (lines_at line (catch_up_whys o)) (noted_in w)
asked position line most None w is = none_more position w.devices is
asked position line most (Some d) w is = one_more w.devices position d _ _ is (asked_more line most (catch_up_answer d.client.client) d)

pub noted_moved : (m : Move) (w : ByteWorld) → noted_in (moved m w) ≡ noted_after m w
noted_moved (moves.Dial position) w = seen_moved noted_of no_more (moves.Dial position) w tt
noted_moved (moves.Forget position) w = seen_moved noted_of no_more (moves.Forget position) w tt
noted_moved (moves.Close position) w = seen_moved noted_of no_more (moves.Close position) w tt
noted_moved (moves.Say position line to text private) w = said position line to text private (slice_get w.devices position) w refl
noted_moved (moves.CatchUp position line most) w = asked position line most (slice_get w.devices position) w refl
noted_moved (moves.Tick milliseconds) w = refl
noted_moved (moves.Up position count) w = seen_moved noted_of no_more (moves.Up position count) w tt
noted_moved (moves.Down position count) w = seen_moved noted_of no_more (moves.Down position count) w tt
noted_moved (moves.Cut position up down) w = refl
