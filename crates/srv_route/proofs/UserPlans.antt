-- A plan by the numbers of sessions is the plan.
use Rattle.std.proofs.Common.{◌≡◌, ℕ, List, [], ◌∷◌, Option, Some, None, map, refl, ap, sym, inl, inr, option_map}
use Rattle.std.proofs.lemmas.Bool.{cases_Bool}
use Rattle.std.proofs.lemmas.Option.{none-some, same_Some}
use Rattle.sm_live.specs.Sessions.{Session, number_of, told as told_by}
use Rattle.sm_live.specs.declared.told.SessionInfo.{SessionInfo}
use Rattle.srv_route.specs.Choices.{route_to, user_plan}
use Rattle.srv_route.specs.Messages.{is_for_users}
use Rattle.srv_route.specs.Numbered.{numbered}
use Rattle.srv_route.specs.Plans.{to_full, to_user}
use Rattle.srv_route.specs.declared.routes.Plan.TheVariants as plan
use Rattle.im_stanza.specs.Views.{MessageView}

pub user_plan_is : {A : Type 0} (m : MessageView) (sender : SessionInfo) (account : ℕ) (deliver sessions : List (Session A)) →
    user_plan m sender account (map number_of deliver) sessions ≡ numbered (to_user m sender account deliver sessions)
user_plan_is m sender account deliver sessions =
    elim (cases_Bool (is_for_users m.kind)) [
      | inl right ↦ rw right refl
      | inr wrong ↦ rw wrong refl
    ]

-- the resource is a session's
pub full_plan_is : {A : Type 0} (m : MessageView) (sender : SessionInfo) (account : ℕ) (t : SessionInfo) (o : Option (Session A)) (sessions : List (Session A)) → Some t ≡ option_map told_by o →
    plan.Routed (route_to m sender account (t.number ∷ []) sessions) ≡ numbered (to_full m sender account o sessions)
full_plan_is m sender account t None sessions is = absurd (none-some t (sym is))
full_plan_is m sender account t (Some s) sessions is = ap (λ (x : SessionInfo). plan.Routed (route_to m sender account (x.number ∷ []) sessions)) (same_Some t (told_by s) is)

-- and where it is nobody's
pub empty_plan_is : {A : Type 0} (m : MessageView) (sender : SessionInfo) (account : ℕ) (o : Option (Session A)) (sessions : List (Session A)) → None ≡ option_map told_by o →
    numbered (to_full m sender account None sessions) ≡ numbered (to_full m sender account o sessions)
empty_plan_is m sender account None sessions is = refl
empty_plan_is m sender account (Some s) sessions is = absurd (none-some (told_by s) is)
