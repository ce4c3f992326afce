use Rattle.std.proofs.Common.{refl, ◌∙◌, arith, subst}
use Rattle.crossbeam_channel.specs.Claims.{view}
use Rattle.net_traits.specs.Opens.{IsFaultCounted}
use Rattle.net_owner.specs.declared.item.Item.{Item}
use Rattle.net_owner.specs.declared.item.What.TheVariants.{Came}
use Rattle.net_owner.proofs.LongerArrivals.{accepts_none, accepts_on}
use Rattle.net_owner.proofs.accepting.accept_all.Goals as goal

pub loop-taken-init : goal.loop-taken-init
loop-taken-init g c = (c.requires.channel, accepts_none (view c.args.pass.now) (g.D.Door.handed c.args.door.now) c.requires.unused, omega arith, refl, refl)

pub loop-taken-preserved : goal.loop-taken-preserved
loop-taken-preserved g c =
    let before = c.loop-taken.invariant in
    let item : Item _ = record { from = 0; what = Came c.in-Ok.pair } in (
      c.post.ensures.channel,
      accepts_on (view c.loop-taken.pass) (view c.post.new.pass) item c.loop-taken.taken (g.D.Door.handed c.args.door.now) (g.D.Door.handed c.loop-taken.door) (g.D.Door.handed c.accept_halves.new.self)
          before.1 c.post.ensures.put refl (c.in-Ok.ensures.handed),
      (let less = c.loop-taken-test.true in omega arith),
      c.in-Ok.ensures.cause ∙ before.3,
      c.in-Ok.ensures.given ∙ before.4,
    )

pub returns-in-Err-clause-cause : goal.returns-in-Err-clause-cause
returns-in-Err-clause-cause g c =
    subst (λ n. IsFaultCounted n (g.D.Door.faults c.accept_halves.new.self) c.in-Err.fault) c.loop-taken.invariant.3 c.in-Err.ensures.cause
