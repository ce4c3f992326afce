-- Which sessions a message to an account is for (RFC 6121, section 8.5).
use Rattle.std.specs.Prelude.{◌≡◌, ℕ, int_le, pos, true, false, Some}
use Rattle.im_stanza.specs.Views.{MessageView}
use Rattle.im_stanza.specs.declared.kinds.MessageKind.{MessageKind}
use Rattle.im_stanza.specs.declared.kinds.MessageKind.TheVariants.{Chat, Headline, Normal}
use Rattle.law_server.specs.Live.{IsMessageTo}
use Rattle.sm_live.specs.Sessions.{Session, session_of, told}
use Rattle.srv_core.specs.Stanzas.{is_own}
use Rattle.srv_handlers.specs.Messages.{is_full_at}
use Rattle.srv_state.specs.State.{ServerState, archive_at}
use Rattle.srv_state.specs.Streams.{standing_at}
use Rattle.srv_state.specs.declared.connection.Stage.TheVariants as stage
use Rattle.srv_state.specs.declared.connection.Standing.{Standing}
use Rattle.xml_framer.specs.declared.items.Item.{Item}

-- a session of the account that announced itself, with a priority that is not negative (section 8.5.2.1)
pub record IsReady {A : Type 0} (h : ServerState A) (account : ℕ) (t : Session A) : Type 0 where
  pub lives : session_of t.shown.number h.sessions ≡ Some t
  pub account_is : t.shown.account ≡ account
  pub available : t.shown.available ≡ true
  pub priority : int_le (pos 0) t.shown.priority ≡ true

-- The item is a message of the session on its connection, which is open behind a login, and it is from that session, as it
-- says. Both archives that it may go to can take an entry.
pub record IsTaken {A : Type 0} (k : ℕ) (i : Item) (h : ServerState A) (sender : Session A) (m : MessageView) (addressee : ℕ) : Type 0 where
  pub standing : Standing
  pub is_open : standing_at k h ≡ Some standing
  pub login : ℕ
  pub ready : standing.stage ≡ stage.Ready login
  pub is : IsMessageTo k i h sender m addressee
  pub own : is_own m.from (told sender) h ≡ true
  pub sender_room : is_full_at (archive_at sender.shown.account h) ≡ false
  pub addressee_room : is_full_at (archive_at addressee h) ≡ false

-- the types of messages that are for users, and not for a room, nor errors (section 5.2.2)
pub data IsForUsers (kind : MessageKind) : Type 0 where
  chat : kind ≡ Chat → IsForUsers kind
  normal : kind ≡ Normal → IsForUsers kind
  headline : kind ≡ Headline → IsForUsers kind
