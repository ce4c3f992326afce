use Rattle.srv_route.proofs.Rising.{one_ascends}
use Rattle.srv_route.proofs.planning.to_full.Goals as goal

pub route_to-requires : goal.route_to-requires
route_to-requires c = record { rising = rw (c.in_ok-push-in-Some.ensures.ok, c.new-deliver.ensures) (one_ascends c.in-Some.told.number) }
