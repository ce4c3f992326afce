-- What becomes of a message, for any way in which sessions are named.
use Rattle.std.specs.Prelude.{ℕ, Bool, true, false, List, [], ◌∷◌, map}
use Rattle.srv_route.specs.declared.archiving.Archiving.{Archiving}
use Rattle.srv_route.specs.declared.archiving.Archiving.TheVariants.{Nowhere, Once, Both}
use Rattle.im_stanza.specs.declared.errors.StanzaError.{StanzaError}

-- in which accounts' archives it goes; which sessions it is delivered to, and which get a copy of it as a message that
-- their account sent or received; each list in the order of the sessions
pub record RouteOf (S : Type 0) : Type 0 where
  pub archiving : Archiving
  pub deliver : List S
  pub sent : List S
  pub received : List S

-- it is answered with an error, or goes its way
pub data PlanOf (S : Type 0) : Type 0 where
  Bounced : StanzaError → PlanOf S
  Routed : RouteOf S → PlanOf S

-- the accounts, the sender's first
abbrev pub archives_of : Archiving → List ℕ
archives_of Nowhere = []
archives_of (Once account) = account ∷ []
archives_of (Both sender recipient) = sender ∷ recipient ∷ []

-- the same under other names of the sessions
abbrev pub renamed : {S T : Type 0} → (S → T) → RouteOf S → RouteOf T
renamed f r = record { archiving = r.archiving; deliver = map f r.deliver; sent = map f r.sent; received = map f r.received }

abbrev pub plan_renamed : {S T : Type 0} → (S → T) → PlanOf S → PlanOf T
plan_renamed f (Bounced e) = Bounced e
plan_renamed f (Routed r) = Routed (renamed f r)

-- what a plan has, where it has it
abbrev pub archives_in : {S : Type 0} → PlanOf S → List ℕ
archives_in (Bounced e) = []
archives_in (Routed r) = archives_of r.archiving

abbrev pub delivered_in : {S : Type 0} → PlanOf S → List S
delivered_in (Bounced e) = []
delivered_in (Routed r) = r.deliver

abbrev pub sent_in : {S : Type 0} → PlanOf S → List S
sent_in (Bounced e) = []
sent_in (Routed r) = r.sent

abbrev pub received_in : {S : Type 0} → PlanOf S → List S
received_in (Bounced e) = []
received_in (Routed r) = r.received

abbrev pub is_bounced : {S : Type 0} → PlanOf S → Bool
is_bounced (Bounced e) = true
is_bounced (Routed r) = false
