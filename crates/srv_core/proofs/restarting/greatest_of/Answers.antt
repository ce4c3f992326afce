use Rattle.std.proofs.Common.{◌≡◌, ◌+◌, drop, length, map, refl, subst}
use Rattle.std.proofs.lemmas.Option.{slice_get_read}
use Rattle.srv_core.proofs.Restarts.{archive_more, next}
use Rattle.srv_core.proofs.restarting.greatest_of.Goals as goal
use Rattle.srv_core.specs.Restarts.{greatest, stamps_of}
use Rattle.srv_state.specs.Seen.{kept_of}

pub loop-archive-preserved : goal.loop-archive-preserved
loop-archive-preserved c =
    archive_more c.loop-archive.moment c.greatest_in-moment.result (greatest c.args.now (stamps_of (map kept_of c.args.archives.now))) c.archive-item.result (drop (c.loop-archive.archive-index + 1) c.args.archives.now) c.greatest_in-moment.ensures
    (subst (λ xs. greatest c.loop-archive.moment (stamps_of (map kept_of xs)) ≡ greatest c.args.now (stamps_of (map kept_of c.args.archives.now)))
    (next c.args.archives.now c.loop-archive.archive-index c.archive-item.result
    (slice_get_read c.args.archives.now (length c.args.archives.now) c.loop-archive.archive-index c.archive-item.result refl c.loop-archive-test.true c.archive-item.is)) c.loop-archive.invariant)
