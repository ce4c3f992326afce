use Rattle.srv_route.proofs.Rising.{none_ascend}
use Rattle.srv_route.proofs.planning.to_absent.Goals as goal

pub to_user-requires : goal.to_user-requires
to_user-requires c = record { rising = rw c.new.ensures none_ascend }
