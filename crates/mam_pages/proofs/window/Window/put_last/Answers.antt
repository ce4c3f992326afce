use Rattle.std.proofs.Common.{rules, ◌≡◌, ◌<◌, arith}
use Rattle.mam_pages.proofs.Slots.{ring_step}
use Rattle.mam_pages.proofs.window.Window.put_last.Goals as goal

pub returns-then-self-gt0-clause-numbers : goal.returns-then-self-gt0-clause-numbers
returns-then-self-gt0-clause-numbers c =
    let w = c.self.inside in
    let full : w.filled ≡ w.most = omega (arith, c.self.invariant.1, c.if-self.false) in
    let below : w.at < w.most = search rules in
    let step = ring_step w.slots w.most w.at c.args.number below (omega (arith, c.self.invariant.0, c.self.told)) in
    rw (← c.self.view_is, full) step
