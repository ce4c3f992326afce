-- What the code asks of sessions by their numbers, and what it makes of that.
use Rattle.std.specs.Prelude.{ℕ, Bool, false, List, Option, Some, None, filter, map, if◌then◌else◌}
use Rattle.sm_live.specs.Sessions.{Session, number_of, session_of}
use Rattle.sm_live.specs.declared.told.SessionInfo.{SessionInfo}
use Rattle.sm_resumption.specs.declared.session.SessionView.{SessionView}
use Rattle.srv_route.specs.Messages.{is_for_users}
use Rattle.srv_route.specs.Numbered.{numbered}
use Rattle.srv_route.specs.Plans.{archiving_of, received_copies, refused, sent_copies}
use Rattle.srv_route.specs.Routes.{RouteOf}
use Rattle.srv_route.specs.declared.routes.Plan.{Plan}
use Rattle.srv_route.specs.declared.routes.Plan.TheVariants as plan
use Rattle.im_stanza.specs.declared.conditions.Condition.TheVariants.{ServiceUnavailable}
use Rattle.im_stanza.specs.Views.{MessageView}

-- a session that lives and passes the test
abbrev pub passes : {A : Type 0} → (SessionView → Bool) → Option (Session A) → Bool
passes p None = false
passes p (Some t) = p t.shown

-- the numbers of those that do, among these
abbrev pub chosen : {A : Type 0} → (SessionView → Bool) → List (Session A) → List ℕ → List ℕ
chosen p sessions numbers = filter (λ n. passes p (session_of n sessions)) numbers

-- the way of a message to the sessions of an account that have these numbers
abbrev pub route_to : {A : Type 0} → MessageView → SessionInfo → ℕ → List ℕ → List (Session A) → RouteOf ℕ
route_to m sender account deliver sessions = record {
  archiving = archiving_of m sender.account account;
  deliver = deliver;
  sent = map number_of (sent_copies m sender deliver sessions);
  received = map number_of (received_copies m sender account deliver sessions);
}

-- the plan for it, where it is a message for users
abbrev pub user_plan : {A : Type 0} → MessageView → SessionInfo → ℕ → List ℕ → List (Session A) → Plan
user_plan {A = A} m sender account deliver sessions =
    if is_for_users m.kind then plan.Routed (route_to m sender account deliver sessions)
    else numbered (refused {A = A} ServiceUnavailable m.kind)
