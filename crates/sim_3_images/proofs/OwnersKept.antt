-- No move changes a device's name or its account.
use Rattle.std.proofs.Common.{◌≡◌, ℕ, Bool, List, Option, Some, None, Result, Ok, Err, map, refl, ap, ◌∙◌}
use Rattle.std.specs.Prelude.{slice_get}
use Rattle.cl_core.specs.declared.faults.CatchUpStart.{CatchUpStart}
use Rattle.cl_core.specs.declared.faults.CatchUpStart.TheVariants as start
use Rattle.cl_core.specs.declared.faults.SayFault.{SayFault}
use Rattle.cl_core.specs.declared.faults.SayFault.TheVariants as say
use Rattle.cmd_network.specs.Devices.{DeviceState, catches_up_by, catches_up_on, says_by}
use Rattle.cmd_schedule.specs.Contents.{Owned}
use Rattle.cmd_world.specs.Moves as moves
use Rattle.cmd_world.specs.Moves.{Move, caught_up_by, moved, said_by}
use Rattle.cmd_world.specs.Worlds.{ByteWorld}
use Rattle.sim_3_images.proofs.DevicesMoved.{SeesNoMore, same_seen, seen_moved}

abbrev owner : List ℕ → List ℕ → Owned
owner name account = record { device = name; account = account }

abbrev pub owned_by : DeviceState → Owned
owned_by d = owner d.name d.account

abbrev pub owners_of : ByteWorld → List Owned
owners_of w = map owned_by w.devices

no_more : SeesNoMore owned_by
no_more d e name account refused = ap (λ n. owner n d.account) name ∙ ap (owner e.name) account

-- ---- what users ask for

said_owned : (line : ℕ) (to text : List ℕ) (private : Bool) (r : Result ℕ SayFault) (d : DeviceState) → owned_by (says_by line to text private r d).device ≡ owned_by d
said_owned line to text private (Ok n) d = refl
said_owned line to text private (Err say.NotBound) d = refl
said_owned line to text private (Err say.OutboxFull) d = refl
said_owned line to text private (Err say.BadText) d = refl
said_owned line to text private (Err say.NoMemory) d = refl

caught_up_owned : (line most : ℕ) (r : Result (Unit {0}) CatchUpStart) (d : DeviceState) → owned_by (catches_up_by line most r d).device ≡ owned_by d
caught_up_owned line most (Ok done) d = refl
caught_up_owned line most (Err start.NotBound) d = refl
caught_up_owned line most (Err start.OutboxFull) d = refl
caught_up_owned line most (Err start.Underway) d = refl
caught_up_owned line most (Err start.NoMemory) d = refl

said : (position line : ℕ) (to text : List ℕ) (private : Bool) (o : Option DeviceState) (w : ByteWorld) → slice_get w.devices position ≡ o → owners_of (said_by position line to text private o w) ≡ owners_of w
said position line to text private None w is = refl
said position line to text private (Some d) w is = same_seen owned_by no_more w.devices position d _ is (said_owned line _ text private _ d)

caught_up : (position line most : ℕ) (o : Option DeviceState) (w : ByteWorld) → slice_get w.devices position ≡ o → owners_of (caught_up_by position line most o w) ≡ owners_of w
caught_up position line most None w is = refl
caught_up position line most (Some d) w is = same_seen owned_by no_more w.devices position d (catches_up_on line most d).device is (caught_up_owned line most _ d)

pub owners_kept : (m : Move) (w : ByteWorld) → owners_of (moved m w) ≡ owners_of w
owners_kept (moves.Dial position) w = seen_moved owned_by no_more (moves.Dial position) w tt
owners_kept (moves.Forget position) w = seen_moved owned_by no_more (moves.Forget position) w tt
owners_kept (moves.Close position) w = seen_moved owned_by no_more (moves.Close position) w tt
owners_kept (moves.Say position line to text private) w = said position line to text private (slice_get w.devices position) w refl
owners_kept (moves.CatchUp position line most) w = caught_up position line most (slice_get w.devices position) w refl
owners_kept (moves.Tick milliseconds) w = refl
owners_kept (moves.Up position count) w = seen_moved owned_by no_more (moves.Up position count) w tt
owners_kept (moves.Down position count) w = seen_moved owned_by no_more (moves.Down position count) w tt
owners_kept (moves.Cut position up down) w = refl
