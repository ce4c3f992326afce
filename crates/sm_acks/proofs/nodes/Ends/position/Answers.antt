use Rattle.std.proofs.Common.{◌≡◌, ◌-◌, arith, refl}
use Rattle.sm_acks.proofs.Paths.{walk_held, walk_on}
use Rattle.sm_acks.proofs.nodes.Ends.position.Goals as goal

pub loop-k-init : goal.loop-k-init
loop-k-init c =
    let all : c.args.self.now.len - 0 ≡ c.args.self.now.len = omega arith in
    record { within = omega arith; is = rw all refl }

pub next_of-at-requires : goal.next_of-at-requires
next_of-at-requires c =
    let e = c.args.self.now in
    walk_held c.args.nodes.now.slots e.len e.first c.loop-k.k c.loop-k.at c.requires.linked.held (omega (arith, c.requires.within, c.loop-k-test.true)) c.loop-k.invariant.is

pub loop-k-preserved : goal.loop-k-preserved
loop-k-preserved c =
    let e = c.args.self.now in
    let on = walk_on c.args.nodes.now.slots e.len e.first c.loop-k.k c.loop-k.at (omega (arith, c.requires.within, c.loop-k-test.true)) c.loop-k.invariant.is in
    record { within = omega (arith, c.loop-k-test.true); is = rw c.next_of-at.ensures on }

pub returns : goal.returns
returns c =
    let same : c.loop-k.k ≡ c.args.i = omega (arith, c.loop-k.invariant.within, c.loop-k-test.false) in
    rw (← same) c.loop-k.invariant.is
