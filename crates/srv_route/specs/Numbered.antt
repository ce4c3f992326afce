-- A plan as the code has it: sessions by their numbers.
use Rattle.sm_live.specs.Sessions.{Session, number_of}
use Rattle.srv_route.specs.Routes.{PlanOf, Bounced, Routed, renamed}
use Rattle.srv_route.specs.declared.routes.Plan.{Plan}
use Rattle.srv_route.specs.declared.routes.Plan.TheVariants as plan

abbrev pub numbered : {A : Type 0} → PlanOf (Session A) → Plan
numbered (Bounced e) = plan.Bounced e
numbered (Routed r) = plan.Routed (renamed number_of r)
