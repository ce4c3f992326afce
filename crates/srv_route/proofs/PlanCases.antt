-- A plan is a refusal, or leads to some sessions of one account: what is true of all these is true of it.
use Rattle.std.proofs.Common.{◌≡◌, ℕ, List, [], ◌∷◌, Option, Some, None, refl, inl, inr}
use Rattle.std.proofs.lemmas.Bool.{cases_Bool}
use Rattle.sm_live.specs.Sessions.{Session, session_named}
use Rattle.sm_live.specs.declared.told.SessionInfo.{SessionInfo}
use Rattle.srv_route.specs.Destinations.{Destination, RemoteDomain, NoUser, Bare, Full}
use Rattle.srv_route.specs.Messages.{is_chat, is_for_users}
use Rattle.srv_route.specs.Plans.{planned, ready_of, refused, routed, to_full, to_user}
use Rattle.srv_route.specs.Routes.{PlanOf}
use Rattle.im_stanza.specs.Views.{MessageView}
use Rattle.im_stanza.specs.declared.conditions.Condition.{Condition}
use Rattle.im_stanza.specs.declared.conditions.Condition.TheVariants.{RemoteServerNotFound, ServiceUnavailable}

module _ {A : Type 0} (m : MessageView) (sender : SessionInfo) (sessions : List (Session A)) (P : PlanOf (Session A) → Type 0) where
  user_has : (account : ℕ) (deliver : List (Session A)) → P (refused ServiceUnavailable m.kind) → P (routed m sender account deliver sessions) → P (to_user m sender account deliver sessions)
  user_has account deliver refuses goes =
      elim (cases_Bool (is_for_users m.kind)) [
        | inl right ↦ rw right goes
        | inr wrong ↦ rw wrong refuses
      ]

  full_has : (account : ℕ) (resource : List ℕ) (o : Option (Session A)) → session_named account resource sessions ≡ o → P (refused ServiceUnavailable m.kind) → P (routed m sender account (ready_of account sessions) sessions)
      → P (routed m sender account [] sessions) → ((t : Session A) → session_named account resource sessions ≡ Some t → P (routed m sender account (t ∷ []) sessions)) → P (to_full m sender account o sessions)
  full_has account resource (Some t) is refuses ready nobody one = one t is
  full_has account resource None is refuses ready nobody one =
      elim (cases_Bool (is_chat m.kind)) [
        | inl right ↦ rw right (user_has account (ready_of account sessions) refuses ready)
        | inr wrong ↦ rw wrong (user_has account [] refuses nobody)
      ]

  -- to those that are ready, to nobody, or to the one that has the resource
  pub planned_has : ((condition : Condition) → P (refused condition m.kind)) → ((account : ℕ) → P (routed m sender account (ready_of account sessions) sessions)) → ((account : ℕ) → P (routed m sender account [] sessions))
      → ((account : ℕ) (resource : List ℕ) (t : Session A) → session_named account resource sessions ≡ Some t → P (routed m sender account (t ∷ []) sessions)) → (d : Destination) → P (planned d m sender sessions)
  planned_has refuses ready nobody one RemoteDomain = refuses RemoteServerNotFound
  planned_has refuses ready nobody one NoUser = refuses ServiceUnavailable
  planned_has refuses ready nobody one (Bare account) = user_has account (ready_of account sessions) (refuses ServiceUnavailable) (ready account)
  planned_has refuses ready nobody one (Full account resource) =
      full_has account resource (session_named account resource sessions) refl (refuses ServiceUnavailable) (ready account) (nobody account) (one account resource)

  -- to any sessions
  pub planned_has_all : ((condition : Condition) → P (refused condition m.kind)) → ((account : ℕ) (deliver : List (Session A)) → P (routed m sender account deliver sessions)) → (d : Destination) → P (planned d m sender sessions)
  planned_has_all refuses goes d =
      planned_has refuses (λ account. goes account (ready_of account sessions)) (λ account. goes account []) (λ account resource t is. goes account (t ∷ [])) d
