use Rattle.std.proofs.Common.{◌∙◌}
use Rattle.mam_pages.proofs.Placed.{kept_consecutive, kept_first}
use Rattle.mam_pages.proofs.archive_look.ArchiveLookLook.first.Goals as goal

pub returns-clause-first : goal.returns-clause-first
returns-clause-first c =
    let a = c.args.self.now.archive.now in
    let kept = c.first.ensures.kept in
    c.first.ensures.first ∙ kept_first a.last a.entries kept.numbers kept.within kept.none

pub returns-clause-consecutive : goal.returns-clause-consecutive
returns-clause-consecutive c =
    let a = c.args.self.now.archive.now in
    let kept = c.first.ensures.kept in
    kept_consecutive a.last a.entries kept.numbers kept.within kept.none
