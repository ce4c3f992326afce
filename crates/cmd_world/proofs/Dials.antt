-- A device that dials, and the world with its connection.
use Rattle.std.proofs.Common.{◌≡◌, ◌<◌, ◌+◌, ℕ, zero, suc, List, [], ◌∷◌, ◌++◌, length, Option, refl, sym, ◌∙◌, arith}
use Rattle.std.proofs.lemmas.Option.{slice_get_read}
use Rattle.std.specs.List.{slice_get, slice_index_or, slice_set}
use Rattle.cmd_network.specs.Devices.{DeviceState, dials_at}
use Rattle.srv_core.specs.Events.{Whole, after_connect}
use Rattle.cmd_network.specs.Positions.{changed_where}
use Rattle.cmd_network.specs.Wires.{fresh_wire, left, put_up}
use Rattle.cmd_network.specs.declared.wire.Wire.{Wire}
use Rattle.cmd_world.specs.Moves.{dialed_by}
use Rattle.cmd_world.specs.Worlds.{ByteWorld, client_entropy, server_entropy}

same_there : {T : Type 0} (xs : List T) (position : ℕ) (x y : T) → position < length xs → x ≡ slice_index_or xs position x → y ≡ slice_index_or xs position y → x ≡ y
same_there [] position x y within p q = absurd (omega (arith, within))
same_there (z ∷ xs) zero x y within p q = p ∙ sym q
same_there (z ∷ xs) (suc position) x y within p q = same_there xs position x y (omega (arith, within)) p q

pub dialed : (w : ByteWorld) (position n : ℕ) (here : Option ℕ) (shown d e : DeviceState) (drawn seed put : List ℕ) (server : Whole (List ℕ)) (wires : List Wire)
    → position < length w.devices → shown ≡ slice_index_or w.devices position shown → d ≡ slice_index_or w.devices position d → here ≡ shown.here → n ≡ length w.wires
    → drawn ≡ client_entropy (n + 1) → seed ≡ server_entropy (n + 1) → e ≡ (dials_at drawn n d).device → put ≡ (dials_at drawn n d).put
    → server ≡ after_connect (n + 1) seed w.moment w.server → wires ≡ changed_where here left w.wires ++ put_up put (fresh_wire position) ∷ []
    → record w { server = server; devices = slice_set w.devices position e; wires = wires } ≡ dialed_by position (slice_get w.devices position) w
dialed w position n here shown d e drawn seed put server wires within shown_is d_is here_is many draw seeds e_is put_is served wires_are =
    let same = same_there w.devices position shown d within shown_is d_is in
    let found = slice_get_read w.devices (length w.devices) position d refl within d_is in
    rw (found, served, e_is, wires_are, put_is, seeds, draw, many, here_is, same) refl
