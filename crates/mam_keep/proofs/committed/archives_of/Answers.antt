use Rattle.std.proofs.Common.{ap, sym, ◌∙◌, arith}
use Rattle.base_io.specs.Listed.{Listed}
use Rattle.mam_keep.proofs.Gathering.{gathered, gathers_new, gathers_old, has, owned_sums, take_whole, IsListed}
use Rattle.mam_keep.specs.Changes.{AppendView}
use Rattle.mam_keep.specs.Kept.{OwnedTable}
use Rattle.mam_keep.proofs.committed.archives_of.Goals as goal
use Rattle.mam_keep.proofs.committed.archives_of.Goals.{then-not-is_listed+in_ok-archive_of+in_ok-push, else-not-is_listed}

pub loop-append-preserved : goal.loop-append-preserved
loop-append-preserved c =
    let owner = c.as_str.ensures ∙ ap (λ (a : AppendView). a.owner) c.append.view_is in
    elim c.if-not-is_listed.branch [
      | then-not-is_listed+in_ok-archive_of+in_ok-push w ↦
          gathers_new c.args.log.now c.loop-append.archives.items c.if-not-is_listed.archives.items c.loop-append.append-index c.append-item.result w.in_ok-archive_of.field-0
          w.as_str-then-not-is_listed.result.now (omega (arith, c.loop-append-test.true)) c.append-item.is c.loop-append.invariant
          (ap (λ (l : Listed OwnedTable). l.items) w.archives-is ∙ w.in_ok-push.ensures.ok)
          w.in_ok-archive_of.ensures.owner w.in_ok-archive_of.ensures.table
          (w.as_str-then-not-is_listed.ensures ∙ ap (λ (a : AppendView). a.owner) c.append.view_is)
          (ap (λ n. has n c.loop-append.archives.items) (w.as_str-then-not-is_listed.ensures ∙ sym c.as_str.ensures) ∙ ap (has c.as_str.result.now) (sym c.as_slice.ensures)
          ∙ sym c.is_listed.ensures ∙ w.if-not-is_listed.true)
      | else-not-is_listed w ↦
          gathers_old c.args.log.now c.loop-append.archives.items c.if-not-is_listed.archives.items c.loop-append.append-index c.append-item.result c.as_str.result.now
          (omega (arith, c.loop-append-test.true)) c.append-item.is c.loop-append.invariant
          (ap (λ (l : Listed OwnedTable). l.items) w.archives-is) owner
          (ap (has c.as_str.result.now) (sym c.as_slice.ensures) ∙ sym c.is_listed.ensures ∙ w.if-not-is_listed.false)
    ]

pub returns-clause-each : goal.returns-clause-each
returns-clause-each c = owned_sums c.args.log.now c.loop-append.archives.items c.requires.each c.loop-append.invariant.0

pub returns-clause-owners : goal.returns-clause-owners
returns-clause-owners c = c.loop-append.invariant.1

pub returns-clause-told : goal.returns-clause-told
returns-clause-told c = λ owner.
    gathered owner c.loop-append.archives.items c.args.log.now c.loop-append.invariant.0
    (take_whole (IsListed c.loop-append.archives.items) c.args.log.now c.loop-append.append-index c.loop-append-test.false c.loop-append.invariant.2)
