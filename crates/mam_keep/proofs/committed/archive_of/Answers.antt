use Rattle.std.proofs.Common.{sym, ap, ◌∙◌, arith}
use Rattle.std.specs.Str.{bytes_eq}
use Rattle.mam_keep.proofs.Tables.{after_other, after_own}
use Rattle.mam_keep.specs.Changes.{AppendView}
use Rattle.mam_keep.specs.Kept.{blank}
use Rattle.mam_keep.proofs.committed.archive_of.Goals as goal
use Rattle.mam_keep.proofs.committed.archive_of.Goals.{then-eq+in_ok-add, else-eq}

pub loop-append-preserved : goal.loop-append-preserved
loop-append-preserved c =
    let own = c.as_str.ensures ∙ ap (λ (a : AppendView). a.owner) c.append.view_is in
    elim c.if-eq.branch [
      | then-eq+in_ok-add w ↦
          w.gathered-is ∙ w.in_ok-add.ensures ∙
          after_own c.args.owner.now c.args.log.now c.loop-append.append-index c.append-item.result blank c.loop-append.gathered (omega (arith, c.loop-append-test.true)) c.append-item.is (ap (λ n. bytes_eq n c.args.owner.now) (sym own) ∙ sym w.if-eq.ensures) c.loop-append.invariant
      | else-eq w ↦
          w.gathered-is ∙
          after_other c.args.owner.now c.args.log.now c.loop-append.append-index c.append-item.result blank c.loop-append.gathered (omega (arith, c.loop-append-test.true)) c.append-item.is (ap (λ n. bytes_eq n c.args.owner.now) (sym own) ∙ sym w.if-eq.ensures) c.loop-append.invariant
    ]
