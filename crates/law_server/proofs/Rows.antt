-- What a row is made of, for the laws of messages that go out live and of who is logged in.
use Rattle.std.proofs.Common.{◌≡◌, ℕ, List, [], ◌∷◌, Some, None, Ok}
use Rattle.std.specs.List.{AllByRecursion}
use Rattle.law_server.specs.Live.{GoesWhereDue}
use Rattle.law_server.specs.Proved.{IsExchange}
use Rattle.sm_live.specs.Sessions.{session_at}
use Rattle.srv_login.specs.Negotiations.{LoginView, final_answer}
use Rattle.srv_login.specs.declared.negotiation.Negotiation.{Negotiation}
use Rattle.srv_state.specs.Logins.{negotiation_at}
use Rattle.srv_state.specs.State.{ServerState}
use Rattle.srv_state.specs.Steps as steps
use Rattle.srv_state.specs.Steps.{Act}
use Rattle.srv_state.specs.declared.connection.Phase.{Phase}
use Rattle.srv_state.specs.declared.connection.Phase.TheVariants as phase
use Rattle.srv_state.specs.declared.connection.Stage.{Stage}
use Rattle.srv_state.specs.declared.connection.Stage.TheVariants as stage
use Rattle.srv_state.specs.declared.connection.Standing.{Standing}
use Rattle.xml_framer.specs.declared.items.Item.{Item}
use Rattle.xml_framer.specs.declared.items.Item.TheVariants as item
use Rattle.xml_trees.specs.Trees.{Elem}
use Rattle.xml_writer.specs.Items.{ItemOut}

-- no login stands behind the connection's last header
abbrev pub IsBeforeReady : Stage → Type 0
IsBeforeReady (stage.Ready account) = ⊥
IsBeforeReady stage.Start = Unit {0}
IsBeforeReady stage.Login = Unit {0}
IsBeforeReady stage.Challenge = Unit {0}
IsBeforeReady (stage.Restart account) = Unit {0}

-- the item ends the exchange in hand
pub record Answers {A : Type 0} (k : ℕ) (i : Item) (h : ServerState A) (account : ℕ) : Type 0 where
  pub n : Negotiation
  pub in_hand : negotiation_at k h ≡ Some n
  pub element : Elem
  pub is : i ≡ item.Element element
  pub login : LoginView
  pub succeeds : final_answer element n ≡ Ok login
  pub account_is : login.account ≡ account

-- the phases that the item may lead to
abbrev pub MayEnter : {A : Type 0} → ℕ → Item → Standing → ServerState A → Phase → Type 0
MayEnter k i st h phase.Start = ⊥
MayEnter k i st h phase.Login = Unit {0}
MayEnter k i st h (phase.Challenge n) = IsExchange h.accounts st.entropy n
MayEnter k i st h (phase.Restart account) = Answers k i h account
MayEnter k i st h (phase.Ready account) = st.stage ≡ stage.Restart account

-- what leaves logins and sessions as they are, or leads to a phase
abbrev pub IsSteady : {A : Type 0} → ℕ → Item → Standing → ServerState A → Act A → Type 0
IsSteady k i st h (steps.Enter j phase) = (j ≡ k) × (IsBeforeReady st.stage) × (MayEnter k i st h phase)
IsSteady k i st h (steps.Fail j left) = (j ≡ k) × (IsBeforeReady st.stage)
IsSteady k i st h (steps.Bind account resource j) = ⊥
IsSteady k i st h (steps.Resume previd account n j) = ⊥
IsSteady k i st h act = Unit {0}

abbrev pub IsCalm : {A : Type 0} → (ItemOut → A) → ℕ → Item → Standing → ServerState A → Act A → Type 0
IsCalm say k i st h act = GoesWhereDue say k i h act × IsSteady k i st h act

abbrev pub AreCalm : {A : Type 0} → (ItemOut → A) → ℕ → Item → Standing → ServerState A → List (Act A) → Type 0
AreCalm say k i st h acts = AllByRecursion (IsCalm say k i st h) acts

-- a session comes on the connection, which is logged in and has none
abbrev pub Seats : {A : Type 0} → ℕ → Standing → ServerState A → ℕ → ℕ → Type 0
Seats k st h account j = (j ≡ k) × (session_at k h.sessions ≡ None) × (st.stage ≡ stage.Ready account)

-- that comes first, where it does
abbrev pub IsRow : {A : Type 0} → (ItemOut → A) → ℕ → Item → Standing → ServerState A → List (Act A) → Type 0
IsRow say k i st h [] = Unit {0}
IsRow say k i st h (steps.Bind account resource j ∷ acts) = Seats k st h account j × AreCalm say k i st h acts
IsRow say k i st h (steps.Resume previd account n j ∷ acts) = Seats k st h account j × AreCalm say k i st h acts
IsRow say k i st h (act ∷ acts) = IsCalm say k i st h act × AreCalm say k i st h acts

pub calm_row : {A : Type 0} (say : ItemOut → A) (k : ℕ) (i : Item) (st : Standing) (h : ServerState A) (acts : List (Act A)) → AreCalm say k i st h acts → IsRow say k i st h acts
calm_row say k i st h [] all = tt
calm_row say k i st h (steps.Bind account resource j ∷ acts) all = absurd all.0.1
calm_row say k i st h (steps.Resume previd account n j ∷ acts) all = absurd all.0.1
calm_row say k i st h (act ∷ acts) all = all

calm_due : {A : Type 0} (say : ItemOut → A) (k : ℕ) (i : Item) (st : Standing) (h : ServerState A) (acts : List (Act A)) → AreCalm say k i st h acts → AllByRecursion (GoesWhereDue say k i h) acts
calm_due say k i st h [] all = tt
calm_due say k i st h (act ∷ acts) all = (all.0.0, calm_due say k i st h acts all.1)

pub row_due : {A : Type 0} (say : ItemOut → A) (k : ℕ) (i : Item) (st : Standing) (h : ServerState A) (acts : List (Act A)) → IsRow say k i st h acts → AllByRecursion (GoesWhereDue say k i h) acts
row_due say k i st h [] row = tt
row_due say k i st h (steps.Bind account resource j ∷ acts) row = (tt, calm_due say k i st h acts row.1)
row_due say k i st h (steps.Resume previd account n j ∷ acts) row = (tt, calm_due say k i st h acts row.1)
row_due say k i st h (act ∷ acts) row = (row.0.0, calm_due say k i st h acts row.1)
