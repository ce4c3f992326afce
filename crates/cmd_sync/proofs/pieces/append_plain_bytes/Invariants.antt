use Rattle.std.proofs.Common.{◌≡◌, ◌++◌, take}
use Rattle.cmd_sync.specs.Texts.{plain_field}
use Rattle.cmd_sync.proofs.pieces.append_plain_bytes.Given as goal

abbrev pub invariant-loop-b : goal.invariant-loop-b
invariant-loop-b l = l.out.items ≡ l.initial.out.items ++ plain_field (take l.b-index l.bytes)
