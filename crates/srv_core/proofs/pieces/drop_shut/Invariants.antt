use Rattle.std.proofs.Common.{◌≡◌, drop}
use Rattle.srv_core.specs.Events.{dropped}
use Rattle.srv_state.specs.Seen.{outs_of}
use Rattle.srv_core.proofs.pieces.drop_shut.Given as goal

-- what is dropped, and what is to be dropped still
abbrev pub invariant-loop-output : goal.invariant-loop-output
invariant-loop-output l = dropped (outs_of (drop l.output-index l.outputs)) l.framers.entries ≡ dropped (outs_of l.outputs) l.initial.framers.entries
