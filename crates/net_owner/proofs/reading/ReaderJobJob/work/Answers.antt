use Rattle.std.proofs.Common.{ap}
use Rattle.crossbeam_channel.specs.Claims.{view}
use Rattle.net_owner.specs.declared.item.Item.{Item}
use Rattle.net_owner.specs.Feeds.{is_last}
use Rattle.net_owner.proofs.LongerFeeds.{has_read, not_ended}
use Rattle.net_owner.proofs.reading.ReaderJobJob.work.Goals as goal
use Rattle.net_owner.proofs.reading.ReaderJobJob.work.Goals.{in-Ok, in-Err}

pub returns : goal.returns
returns g c =
    let job = c.args.self in let told = g.I.Incoming.told in let read = c.read_on.ensures in
    let item : Item g.row.P.Denot = record { from = job.from; what = c.match-read_on.what } in
    elim c.match-read_on.branch [
      | in-Ok w ↦ let r = rw w.in-Ok.is at read.ok in let s = rw w.in-Ok.is at read.stopped in
          has_read told job c.read_on.new.half c.post.new.pass (view c.read_on.new.pass) item c.post.ensures.channel c.post.ensures.put read.shape read.pieces (ap is_last w.what-is) read.number (λ _. r.read) (λ _. r.silent) (λ _. s)
      | in-Err w ↦
          has_read told job c.read_on.new.half c.post.new.pass (view c.read_on.new.pass) item c.post.ensures.channel c.post.ensures.put read.shape read.pieces (ap is_last w.what-is) read.number (not_ended c.match-read_on.what w.what-is) (not_ended c.match-read_on.what w.what-is) (not_ended c.match-read_on.what w.what-is)
    ]
