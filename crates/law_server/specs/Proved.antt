-- A password was proved on a connection (RFC 5802, section 3).
use Rattle.std.specs.Prelude.{◌≡◌, ℕ, false, List, [], ◌∷◌, ◌++◌, Some, slice_get}
use Rattle.std.specs.List.{AllByRecursion}
use Rattle.auth_scram.specs.Exchange.{added_nonce, begun_server}
use Rattle.auth_scram.specs.declared.client_first.ClientFirst.{ClientFirst}
use Rattle.law_server.specs.Events.{Connect, Event, Run, after_events, run}
use Rattle.law_server.specs.Happenings.{IsBringing, comes}
use Rattle.srv_core.specs.Configs.{at_start}
use Rattle.srv_core.specs.Events.{begun, framer_at, turn_of}
use Rattle.srv_core.specs.Table.{after_items}
use Rattle.srv_login.specs.Logins.{HasRightProof}
use Rattle.srv_login.specs.Negotiations.{LoginView}
use Rattle.srv_login.specs.declared.account.Account.{Account}
use Rattle.srv_login.specs.declared.negotiation.Negotiation.{Negotiation}
use Rattle.srv_state.specs.State.{ServerState, conn_at}
use Rattle.srv_state.specs.declared.connection.Connection.{Connection}
use Rattle.srv_state.specs.declared.connection.Phase.TheVariants as phase
use Rattle.xml_framer.specs.States as framing
use Rattle.xml_framer.specs.declared.items.Item.{Item}
use Rattle.xml_framer.specs.declared.items.Item.TheVariants as item
use Rattle.xml_trees.specs.Trees.{Elem}
use Rattle.xml_writer.specs.Items.{ItemOut}

-- ---- an exchange

-- It is with the credentials that the server has of the account at this place, and the server's part of its nonce is made
-- of the bytes that were drawn for its connection.
pub record IsExchange (accounts : List Account) (entropy : List ℕ) (n : Negotiation) : Type 0 where
  pub named : Account
  pub there : slice_get accounts n.account ≡ Some named
  pub first : ClientFirst
  pub begun_so : n.exchange ≡ begun_server first named.credentials (added_nonce entropy)

-- ---- an item

-- The connection awaits the end of such an exchange with the account, and the item is a `response` with a final message
-- within the grammar, with the whole nonce and with the right proof for the account's stored key.
pub record IsProof {A : Type 0} (accounts : List Account) (entropy : List ℕ) (k account : ℕ) (i : Item) (h : ServerState A) : Type 0 where
  pub conn : Connection
  pub is_open : conn_at k h ≡ Some conn
  pub exchange : Negotiation
  pub awaited : conn.phase ≡ phase.Challenge exchange
  pub begun : IsExchange accounts entropy exchange
  pub with_account : exchange.account ≡ account
  pub element : Elem
  pub is : i ≡ item.Element element
  pub login : LoginView
  pub right : HasRightProof exchange element login

-- ---- bytes

-- one of the items that the bytes give is one, where those before it have taken effect
pub record BringsProof {A : Type 0} (say : ItemOut → A) (accounts : List Account) (entropy : List ℕ) (k account : ℕ) (piece : List ℕ) (now : ℕ) (r : Run A) : Type 0 where
  pub framer : framing.State
  pub framed : framer_at k r.server.framers ≡ Some framer
  pub front : List Item
  pub i : Item
  pub rest : List Item
  pub items : (turn_of piece framer).items ≡ front ++ i ∷ rest
  pub proof : IsProof accounts entropy k account i (after_items say k front (begun now r.server.server_state r.outs)).server_state

-- ---- events

-- a server as it begins, which has put out nothing
abbrev pub at_first : {A : Type 0} → List ℕ → List Account → ℕ → Run A
at_first domain accounts keep = run (at_start domain accounts keep) []

-- Since the connection last came, bytes came on it that brought a proof for the account, in an exchange whose nonce has
-- what was drawn for it then.
pub record HasProved {A : Type 0} (say : ItemOut → A) (accounts : List Account) (start : Run A) (events : List Event) (k account : ℕ) : Type 0 where
  pub before : List Event
  pub entropy : List ℕ
  pub came : ℕ
  pub between : List Event
  pub piece : List ℕ
  pub now : ℕ
  pub event : Event
  pub brings : IsBringing k piece now event
  pub later : List Event
  pub are : events ≡ before ++ Connect k entropy came ∷ (between ++ event ∷ later)
  pub last : AllByRecursion (λ (e : Event). comes k e ≡ false) (between ++ event ∷ later)
  pub brought : BringsProof say accounts entropy k account piece now (after_events say (before ++ Connect k entropy came ∷ between) start)
