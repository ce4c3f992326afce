use Rattle.std.proofs.Common.{◌≡◌, map, subst, sym, arith}
use Rattle.std.proofs.lemmas.Grind.{common_steps}
use Rattle.std.specs.List.Sorted.{IsStrictlySortedBy}
use Rattle.std.specs.Ordering.{nat_cmp}
use Rattle.sm_live.specs.Sessions.{number_of}
use Rattle.srv_route.proofs.Chosen.{chosen_of}
use Rattle.srv_route.proofs.Rising.{chosen_ascend}
use Rattle.srv_route.specs.Plans.{is_ready, ready_of}
use Rattle.srv_route.proofs.recipients.ready_sessions.Goals as goal

pub loop-number-init : goal.loop-number-init
loop-number-init c =
    let live = c.args.live.now in
    rw (c.new-found.ensures, c.of_account-number-items.ensures) (chosen_of is_ready live.next 1 c.args.account live.sessions c.keeps_rule.ensures.ascending)

pub returns-clause-rising : goal.returns-clause-rising
returns-clause-rising c =
    let live = c.args.live.now in
    let all : c.loop-number.found.items ≡ map number_of (ready_of c.args.account live.sessions) = grind (arith, common_steps) in
    subst (IsStrictlySortedBy nat_cmp) (sym all) (chosen_ascend (λ t. is_ready t.shown) live.next 1 c.args.account live.sessions c.keeps_rule.ensures.ascending)
