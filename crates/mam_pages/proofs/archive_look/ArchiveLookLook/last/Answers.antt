use Rattle.std.proofs.Common.{sym, ◌∙◌}
use Rattle.mam_pages.proofs.Placed.{kept_last}
use Rattle.mam_pages.proofs.archive_look.ArchiveLookLook.last.Goals as goal

pub returns : goal.returns
returns c =
    let a = c.args.self.now.archive.now in
    let kept = c.last.ensures.kept in
    c.last.ensures.last ∙ sym (kept_last a.last a.entries kept.numbers kept.within kept.none)
