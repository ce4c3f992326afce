use Rattle.std.proofs.Common.{◌≡◌, ◌≤◌, length, ap, subst, sym, ◌∙◌}
use Rattle.cmd_resolving.specs.Expansion.{Watching}
use Rattle.cmd_deciding.proofs.Looked.{nobody_looks_past}
use Rattle.cmd_deciding.proofs.watch.Watch.look_at.Goals as goal

pub returns-in-None : goal.returns-in-None
returns-in-None c =
    let past : length c.devices.result.now ≤ c.args.index = c.in-None.ensures.lookup.3 in
    let same : c.devices.result.now ≡ c.args.self.now.world.devices = c.devices.ensures ∙ ap (λ (s : Watching). s.world.devices) c.self.view_is in
    sym (nobody_looks_past c.args.index c.args.self.now (subst (λ ds. length ds ≤ c.args.index) same past))
