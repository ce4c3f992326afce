use Rattle.std.proofs.Common.{◌≡◌, Some, refl}
use Rattle.std.proofs.lemmas.Option.{slice_get_read}
use Rattle.std.specs.List.{slice_get}
use Rattle.srv_handlers.proofs.ArchivePositions.{seen_longer}
use Rattle.srv_handlers.proofs.archives.append_at.Goals as goal

pub returns-in-Some-clause-seen : goal.returns-in-Some-clause-seen
returns-in-Some-clause-seen c =
    let v = c.args.archives.now in
    let is : slice_get v.items c.args.account ≡ Some c.in-Some.archive.now = slice_get_read v.items _ c.args.account c.in-Some.archive.now v.ok.0 (c.in-Some.ensures.variant.0 refl) c.in-Some.ensures.value in
    seen_longer v.items c.args.account c.in-Some.archive.now c.append.new.archive c.args.entry is c.append.ensures
