-- What each core puts for the other, beside that it is within the limits of who reads it.
use Rattle.std.specs.Prelude.{◌≡◌, ◌≤◌, true, IfSome, Option, None, codes, length}
use Rattle.std.specs.List.{AllByRecursion}
use Rattle.law_limits.specs.Answerable.{IsItemAnswerable}
use Rattle.law_limits.specs.Within.{IsClientWithin}
use Rattle.law_client.specs.Order.{HasNoEnd}
use Rattle.cl_handlers.specs.Clients.{ClientView}
use Rattle.srv_state.specs.State.{ServerState}
use Rattle.xml_framer.specs.Limits.{client_limits, server_limits}
use Rattle.sim_3_items.specs.ItemWorlds.{read_of}
use Rattle.sm_live.specs.Sessions.{Session}
use Rattle.sm_outbox.specs.Sessions.{SessionView}
use Rattle.im_payload.specs.Names.{archive}
use Rattle.im_login.specs.Sasl.{is_sasl}
use Rattle.law_limits.specs.Keeps.{ServerKeeps}
use Rattle.im_stanza.specs.Names.{client_ns}
use Rattle.xml_trees.specs.Readers.{first_named, is_named, text_of}
use Rattle.xml_trees.specs.Trees.{Elem, nodes_of}
use Rattle.xml_writer.specs.Items.{Closing, ItemOut, Opening, Whole}
use Rattle.law_xml.specs.Puts.{OutFits}

-- ---- what a client puts

-- Its messages have no result of an archive in them, so that none of its making comes to another client; and the payload
-- of an `auth` is short, so that a challenge, in which the client's nonce is, is short too.
pub record IsRelayableElement (e : Elem) : Type 0 where
  pub message : is_named client_ns (codes "message") e ≡ true → first_named archive (codes "result") (nodes_of e) ≡ None
  pub auth : is_sasl (codes "auth") e ≡ true → length (text_of (nodes_of e)) ≤ 400

abbrev pub IsRelayable : ItemOut → Type 0
IsRelayable (Opening h) = Unit {0}
IsRelayable (Whole e) = IsRelayableElement e
IsRelayable Closing = Unit {0}

abbrev pub UpFits : ItemOut → Type 0
UpFits i = OutFits server_limits i × IsRelayable i

-- so are those that wait
abbrev pub HasRelayable : Option (SessionView ItemOut) → Type 0
HasRelayable o = IfSome o (λ (s : SessionView ItemOut). AllByRecursion IsRelayable s.waiting.queue)

pub record IsClientRelayable (c : ClientView ItemOut) : Type 0 where
  pub name : length c.account.login.name ≤ 32
  pub queue : HasRelayable c.session

pub record ClientFits (c : ClientView ItemOut) : Type 0 where
  pub within : IsClientWithin c
  pub no_end : HasNoEnd c.session
  pub relayable : IsClientRelayable c

-- ---- what the server puts

-- a client can answer it
abbrev pub IsAnswered : ItemOut → Type 0
IsAnswered i = IsItemAnswerable (read_of i)

abbrev pub DownFits : ItemOut → Type 0
DownFits i = OutFits client_limits i × IsAnswered i

-- so are those that wait
abbrev pub SessionAnswers : Session ItemOut → Type 0
SessionAnswers s = AllByRecursion IsAnswered s.waiting

abbrev pub ServerStateAnswers : ServerState ItemOut → Type 0
ServerStateAnswers h = AllByRecursion SessionAnswers h.sessions

abbrev pub ServerFits : ServerState ItemOut → Type 0
ServerFits h = ServerKeeps h × ServerStateAnswers h
