use Rattle.std.proofs.Common.{refl, sym, ap, ◌∙◌, ◌+◌, List, ℕ, length}
use Rattle.crossbeam_channel.specs.Claims.{view}
use Rattle.net_owner.specs.declared.item.Item.{Item}
use Rattle.net_owner.specs.declared.item.What.TheVariants.{Gave}
use Rattle.net_owner.proofs.LongerFeeds.{starts, reads_on, counts_on}
use Rattle.net_owner.proofs.reading.read_on.Goals as goal

pub loop-init : goal.loop-init
loop-init g c = let s = starts c.args.from (view c.args.pass.now) (g.I.Incoming.told c.args.half.now) c.requires.unused in (c.requires.channel, s.0, s.1)

pub loop-preserved : goal.loop-preserved
loop-preserved g c =
    let item : Item g.row.P.Denot = record { from = c.args.from; what = Gave c.in-Some-2.piece } in
    let told = g.I.Incoming.told in
    let more = rw c.in-Some-2.is at c.in_ok-next_piece.ensures.some in (
      c.post.ensures.channel,
      reads_on c.args.from (view c.loop.pass) (view c.post.new.pass) item (told c.args.half.now) (told c.loop.half) (told c.next_piece.new.half) c.loop.invariant.1 c.post.ensures.put refl more c.next_piece.ensures.silent c.next_piece.ensures.number,
      counts_on (view c.loop.pass) (view c.post.new.pass) item c.loop.total c.post.ensures.put c.loop.invariant.2 ∙ ap (λ (l : List ℕ). c.loop.total + length l) (sym c.as_slice.ensures),
    )
