-- A plan as the code has it is the plan with sessions by their numbers.
use Rattle.std.proofs.Common.{◌≡◌, refl}
use Rattle.sm_live.specs.Sessions.{Session, number_of}
use Rattle.srv_handlers.specs.Parts.{plan_view}
use Rattle.srv_route.specs.Numbered.{numbered}
use Rattle.srv_route.specs.Routes.{PlanOf, Bounced, Routed, archives_in, plan_renamed}

pub viewed : {A : Type 0} (p : PlanOf (Session A)) → plan_view (numbered p) ≡ plan_renamed number_of p
viewed (Bounced e) = refl
viewed (Routed r) = refl

pub viewed_archives : {A : Type 0} (p : PlanOf (Session A)) → archives_in (plan_view (numbered p)) ≡ archives_in p
viewed_archives (Bounced e) = refl
viewed_archives (Routed r) = refl
