use Rattle.std.proofs.Common.{ap, ◌∙◌, refl, arith}
use Rattle.mam_keep.proofs.Checked.{seen_more, seen_whole}
use Rattle.mam_keep.specs.Kept.{OwnedTable}
use Rattle.mam_keep.proofs.checks.are_whole.Goals as goal

pub loop-archive-preserved : goal.loop-archive-preserved
loop-archive-preserved c = (
  seen_more c.args.archives.now c.loop-archive.archive-index c.archive-item.result c.loop-archive.before.now c.as_str-owner.result.now (omega (arith, c.loop-archive-test.true))
      c.archive-item.is c.loop-archive.invariant.0 (c.as_str-owner.ensures ∙ ap (λ (o : OwnedTable). o.owner) c.archive.view_is) (c.if-not-is_above.ensures refl) (c.if-not-is_whole.ensures refl),
  c.as_str-owner.utf8,
)

pub returns-clause-owned : goal.returns-clause-owned
returns-clause-owned c = λ _. (seen_whole c.args.archives.now c.loop-archive.archive-index c.loop-archive.before.now c.loop-archive-test.false c.loop-archive.invariant.0).owned

pub returns-clause-owners : goal.returns-clause-owners
returns-clause-owners c = λ _. (seen_whole c.args.archives.now c.loop-archive.archive-index c.loop-archive.before.now c.loop-archive-test.false c.loop-archive.invariant.0).owners
