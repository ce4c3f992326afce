-- The numbers of those who get a message, and of those who get a copy, ascend.
use Rattle.std.proofs.Common.{◌≡◌, ℕ, not, ◌&&◌, ◌==◌, List, [], ◌∷◌, map, inl, inr}
use Rattle.std.proofs.lemmas.Bool.{cases_Bool}
use Rattle.std.specs.List.Sorted.{IsStrictlySortedBy}
use Rattle.std.specs.Ordering.{nat_cmp}
use Rattle.sm_live.specs.Rule.{RisesTo}
use Rattle.sm_live.specs.Sessions.{Session, number_of}
use Rattle.sm_live.specs.declared.told.SessionInfo.{SessionInfo}
use Rattle.srv_route.proofs.CopyLaws.{refused_received, refused_sent}
use Rattle.srv_route.proofs.GivenOnce.{refused_delivered}
use Rattle.srv_route.proofs.PlanCases.{planned_has}
use Rattle.srv_route.proofs.Rising.{chosen_ascend, none_ascend, one_ascends}
use Rattle.srv_route.specs.Destinations.{Destination}
use Rattle.srv_route.specs.Messages.{is_copied}
use Rattle.srv_route.specs.Plans.{having_it, is_ready, planned, ready_of, received_copies, sent_copies, wants_copy}
use Rattle.srv_route.specs.Routes.{delivered_in, received_in, sent_in}
use Rattle.im_stanza.specs.Views.{MessageView}

abbrev Ascend : {A : Type 0} → List (Session A) → Type 0
Ascend sessions = IsStrictlySortedBy nat_cmp (map number_of sessions)

sent_ascend : {A : Type 0} (next : ℕ) (m : MessageView) (sender : SessionInfo) (deliver : List ℕ) (sessions : List (Session A)) → RisesTo next 1 sessions → Ascend (sent_copies m sender deliver sessions)
sent_ascend next m sender deliver sessions rise =
    elim (cases_Bool (is_copied m)) [
      | inl copied ↦ rw copied (chosen_ascend (λ t. wants_copy (having_it sender deliver) t.shown) next 1 sender.account sessions rise)
      | inr uncopied ↦ rw uncopied none_ascend
    ]

received_ascend : {A : Type 0} (next : ℕ) (m : MessageView) (sender : SessionInfo) (account : ℕ) (deliver : List ℕ) (sessions : List (Session A)) → RisesTo next 1 sessions → Ascend (received_copies m sender account deliver sessions)
received_ascend next m sender account deliver sessions rise =
    elim (cases_Bool (is_copied m && not (sender.account == account))) [
      | inl copied ↦ rw copied (chosen_ascend (λ t. wants_copy (having_it sender deliver) t.shown) next 1 account sessions rise)
      | inr uncopied ↦ rw uncopied none_ascend
    ]

route_ascends : {A : Type 0} (next account : ℕ) (m : MessageView) (sender : SessionInfo) (deliver sessions : List (Session A)) → RisesTo next 1 sessions → Ascend deliver →
    Ascend deliver × Ascend (sent_copies m sender (map number_of deliver) sessions) × Ascend (received_copies m sender account (map number_of deliver) sessions)
route_ascends next account m sender deliver sessions rise ascend =
    (ascend, sent_ascend next m sender (map number_of deliver) sessions rise, received_ascend next m sender account (map number_of deliver) sessions rise)

pub plans_ascend : {A : Type 0} (next : ℕ) (d : Destination) (m : MessageView) (sender : SessionInfo) (sessions : List (Session A)) → RisesTo next 1 sessions →
    IsStrictlySortedBy nat_cmp (map number_of (delivered_in (planned d m sender sessions))) × IsStrictlySortedBy nat_cmp (map number_of (sent_in (planned d m sender sessions))) × IsStrictlySortedBy nat_cmp (map number_of (received_in (planned d m sender sessions)))
plans_ascend {A = A} next d m sender sessions rise =
    planned_has m sender sessions (λ p. Ascend (delivered_in p) × Ascend (sent_in p) × Ascend (received_in p))
    (λ condition. rw (refused_delivered {A = A} condition m.kind, refused_sent {A = A} condition m.kind, refused_received {A = A} condition m.kind) (none_ascend, none_ascend, none_ascend))
    (λ account. route_ascends next account m sender (ready_of account sessions) sessions rise (chosen_ascend (λ t. is_ready t.shown) next 1 account sessions rise))
    (λ account. route_ascends next account m sender [] sessions rise none_ascend) (λ account resource t is. route_ascends next account m sender (t ∷ []) sessions rise (one_ascends (number_of t))) d
