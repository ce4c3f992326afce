use Rattle.std.proofs.Common.{ap, ◌∙◌, arith}
use Rattle.mam_archive.proofs.Newest.{newest_tail}
use Rattle.mam_archive.specs.Entries.{newest}
use Rattle.mam_archive.proofs.archive.drop_past.Goals as goal

pub loop-entries-preserved-in-loop-entries : goal.loop-entries-preserved-in-loop-entries
loop-entries-preserved-in-loop-entries c =
    ap (newest c.args.keep) c.pop_front-oldest.ensures.rest
    ∙ newest_tail c.args.keep c.loop-entries.entries.items (omega (arith, c.loop-entries-test.true, c.len.ensures, c.loop-entries.entries.ok.0))
    ∙ c.loop-entries.invariant
