use Rattle.std.proofs.Common.{◌∷◌}
use Rattle.srv_route.proofs.Chosen.{chosen_of}
use Rattle.srv_route.specs.Plans.{wants_copy}
use Rattle.srv_route.proofs.recipients.copied_sessions.Goals as goal

pub loop-number-init : goal.loop-number-init
loop-number-init c =
    let live = c.args.live.now in
    rw (c.new-found.ensures, c.of_account-number-items.ensures) (chosen_of (wants_copy (c.args.sender ∷ c.args.deliver.now)) live.next 1 c.args.account live.sessions c.keeps_rule.ensures.ascending)
