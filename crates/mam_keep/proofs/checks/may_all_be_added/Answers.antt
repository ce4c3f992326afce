use Rattle.std.proofs.Common.{refl, sym, subst, arith}
use Rattle.std.specs.List.{AllByRecursion}
use Rattle.mam_keep.proofs.Gathering.{take_whole}
use Rattle.mam_keep.proofs.Tables.{all_push, taken}
use Rattle.mam_keep.specs.Changes.{MayAppend}
use Rattle.mam_keep.proofs.checks.may_all_be_added.Goals as goal
use Rattle.std.proofs.Common.{take}

pub loop-append-preserved : goal.loop-append-preserved
loop-append-preserved c =
    subst (AllByRecursion MayAppend) (sym (taken c.args.appends.now c.loop-append.append-index c.append-item.result (omega (arith, c.loop-append-test.true)) c.append-item.is))
    (all_push MayAppend (take c.loop-append.append-index c.args.appends.now) c.append-item.result c.loop-append.invariant (c.if-not-may_be_added.ensures refl))

pub returns : goal.returns
returns c = λ _. take_whole MayAppend c.args.appends.now c.loop-append.append-index c.loop-append-test.false c.loop-append.invariant
