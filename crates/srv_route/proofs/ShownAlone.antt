-- A plan asks for nothing of sessions but what is shown of them.
use Rattle.std.proofs.Common.{◌≡◌, ℕ, Bool, not, ◌&&◌, ◌==◌, List, [], ◌∷◌, Option, Some, None, filter, find, map, option_map, bytes_eq, refl, ap, ◌∙◌, inl, inr}
use Rattle.std.proofs.lemmas.Bool.{cases_Bool}
use Rattle.sm_live.specs.Sessions.{Session, number_of, session_named, sessions_of}
use Rattle.sm_live.specs.declared.told.SessionInfo.{SessionInfo}
use Rattle.sm_resumption.specs.declared.session.SessionView.{SessionView}
use Rattle.srv_route.specs.Destinations.{Destination, RemoteDomain, NoUser, Bare, Full}
use Rattle.srv_route.specs.Messages.{is_chat, is_copied, is_for_users}
use Rattle.srv_route.specs.Plans.{having_it, is_ready, planned, ready_of, received_copies, refused, routed, sent_copies, to_bare, to_full, to_user, wants_copy}
use Rattle.srv_route.specs.Routes.{plan_renamed}
use Rattle.im_stanza.specs.Kinds.{answers_message}
use Rattle.im_stanza.specs.Views.{MessageView}
use Rattle.im_stanza.specs.declared.conditions.Condition.{Condition}
use Rattle.im_stanza.specs.declared.conditions.Condition.TheVariants.{RemoteServerNotFound, ServiceUnavailable}
use Rattle.im_stanza.specs.declared.kinds.MessageKind.{MessageKind}

module _ {A B : Type 0} (g : Session A → Session B) (keeps : (s : Session A) → (g s).shown ≡ s.shown) where
  filtered : (p : SessionView → Bool) (ss : List (Session A)) → filter (λ (s : Session B). p s.shown) (map g ss) ≡ map g (filter (λ (s : Session A). p s.shown) ss)
  filtered p [] = refl
  filtered p (s ∷ ss) =
      let same : p (g s).shown ≡ p s.shown = ap p (keeps s) in
      elim (cases_Bool (p s.shown)) [
        | inl passed ↦ rw (same ∙ passed, passed) (ap (λ l. g s ∷ l) (filtered p ss))
        | inr failed ↦ rw (same ∙ failed, failed) (filtered p ss)
      ]

  found_same : (p : SessionView → Bool) (ss : List (Session A)) → find (λ (s : Session B). p s.shown) (map g ss) ≡ option_map g (find (λ (s : Session A). p s.shown) ss)
  found_same p [] = refl
  found_same p (s ∷ ss) =
      let same : p (g s).shown ≡ p s.shown = ap p (keeps s) in
      elim (cases_Bool (p s.shown)) [
        | inl passed ↦ rw (same ∙ passed, passed) refl
        | inr failed ↦ rw (same ∙ failed, failed) (found_same p ss)
      ]

  numbers_same : (ss : List (Session A)) → map number_of (map g ss) ≡ map number_of ss
  numbers_same [] = refl
  numbers_same (s ∷ ss) = rw (ap (λ (v : SessionView). v.number) (keeps s), numbers_same ss) refl

  of_same : (account : ℕ) (ss : List (Session A)) → sessions_of account (map g ss) ≡ map g (sessions_of account ss)
  of_same account ss = filtered (λ v. v.account == account) ss

  some_same : (p : SessionView → Bool) (account : ℕ) (ss : List (Session A)) → filter (λ (s : Session B). p s.shown) (sessions_of account (map g ss)) ≡ map g (filter (λ (s : Session A). p s.shown) (sessions_of account ss))
  some_same p account ss = ap (filter (λ (s : Session B). p s.shown)) (of_same account ss) ∙ filtered p (sessions_of account ss)

  sent_same : (m : MessageView) (sender : SessionInfo) (deliver : List ℕ) (ss : List (Session A)) → sent_copies m sender deliver (map g ss) ≡ map g (sent_copies m sender deliver ss)
  sent_same m sender deliver ss =
      elim (cases_Bool (is_copied m)) [
        | inl copied ↦ rw copied (some_same (wants_copy (having_it sender deliver)) sender.account ss)
        | inr uncopied ↦ rw uncopied refl
      ]

  received_same : (m : MessageView) (sender : SessionInfo) (account : ℕ) (deliver : List ℕ) (ss : List (Session A)) → received_copies m sender account deliver (map g ss) ≡ map g (received_copies m sender account deliver ss)
  received_same m sender account deliver ss =
      elim (cases_Bool (is_copied m && not (sender.account == account))) [
        | inl copied ↦ rw copied (some_same (wants_copy (having_it sender deliver)) account ss)
        | inr uncopied ↦ rw uncopied refl
      ]

  routed_same : (m : MessageView) (sender : SessionInfo) (account : ℕ) (deliver ss : List (Session A)) → routed m sender account (map g deliver) (map g ss) ≡ plan_renamed g (routed m sender account deliver ss)
  routed_same m sender account deliver ss =
      rw (numbers_same deliver, sent_same m sender (map number_of deliver) ss, received_same m sender account (map number_of deliver) ss) refl

  refused_same : (condition : Condition) (kind : MessageKind) → refused {A = B} condition kind ≡ plan_renamed g (refused {A = A} condition kind)
  refused_same condition kind =
      elim (cases_Bool (answers_message kind)) [
        | inl answered ↦ rw answered refl
        | inr unanswered ↦ rw unanswered refl
      ]

  user_same : (m : MessageView) (sender : SessionInfo) (account : ℕ) (deliver ss : List (Session A)) → to_user m sender account (map g deliver) (map g ss) ≡ plan_renamed g (to_user m sender account deliver ss)
  user_same m sender account deliver ss =
      elim (cases_Bool (is_for_users m.kind)) [
        | inl right ↦ rw right (routed_same m sender account deliver ss)
        | inr wrong ↦ rw wrong (refused_same ServiceUnavailable m.kind)
      ]

  bare_same : (m : MessageView) (sender : SessionInfo) (account : ℕ) (ss : List (Session A)) → to_bare m sender account (map g ss) ≡ plan_renamed g (to_bare m sender account ss)
  bare_same m sender account ss =
      ap (λ l. to_user m sender account l (map g ss)) (some_same is_ready account ss) ∙ user_same m sender account (ready_of account ss) ss

  full_same : (m : MessageView) (sender : SessionInfo) (account : ℕ) (o : Option (Session A)) (ss : List (Session A)) → to_full m sender account (option_map g o) (map g ss) ≡ plan_renamed g (to_full m sender account o ss)
  full_same m sender account (Some t) ss = routed_same m sender account (t ∷ []) ss
  full_same m sender account None ss =
      elim (cases_Bool (is_chat m.kind)) [
        | inl right ↦ rw right (bare_same m sender account ss)
        | inr wrong ↦ rw wrong (user_same m sender account [] ss)
      ]

  pub planned_same : (d : Destination) (m : MessageView) (sender : SessionInfo) (ss : List (Session A)) → planned d m sender (map g ss) ≡ plan_renamed g (planned d m sender ss)
  planned_same RemoteDomain m sender ss = refused_same RemoteServerNotFound m.kind
  planned_same NoUser m sender ss = refused_same ServiceUnavailable m.kind
  planned_same (Bare account) m sender ss = bare_same m sender account ss
  planned_same (Full account resource) m sender ss =
      ap (λ o. to_full m sender account o (map g ss)) (found_same (λ v. (v.account == account) && bytes_eq v.resource resource) ss) ∙ full_same m sender account (session_named account resource ss) ss
