-- What a server of items keeps to, so that its clients read each thing that it puts as it is written: what waits, what is
-- archived, and the texts that it holds.
use Rattle.std.specs.Prelude.{ℕ, ◌≡◌, ◌<◌, ◌≤◌, ◌^◌, nat_lt, List, Some, length, true}
use Rattle.std.specs.List.{AllByRecursion, list_all}
use Rattle.srv_state.specs.State.{Kept, Out, Put, ServerState, Shut, Step, Took}
use Rattle.srv_state.specs.Steps as steps
use Rattle.srv_state.specs.Steps.{Act}
use Rattle.srv_state.specs.declared.connection.Connection.{Connection}
use Rattle.srv_state.specs.declared.limits.TheConstants.{MOST_STANZA_BYTES}
use Rattle.xml_framer.specs.Limits.{client_limits}
use Rattle.xml_framer.specs.declared.items.Item.{Item}
use Rattle.xml_framer.specs.declared.items.Item.TheVariants as item
use Rattle.xml_framer.specs.declared.limits.Limits.{Limits}
use Rattle.law_xml.specs.Plain.{IsPlain}
use Rattle.law_xml.specs.WrittenStreams.{CanPass}
use Rattle.sm_live.specs.Sessions.{Session}
use Rattle.srv_login.specs.declared.account.Account.{Account}
use Rattle.law_limits.specs.Messages.{EntryFits}
use Rattle.law_limits.specs.Texts.{Said}
use Rattle.im_stanza.specs.Stanzas.{attr_named}
use Rattle.xml_trees.specs.Readers.{text_of}
use Rattle.xml_trees.specs.Trees.{Elem, nodes_of}
use Rattle.xml_writer.specs.Items.{ItemOut}
use Rattle.law_xml.specs.Puts.{OutFits}

-- ---- what is put

-- its writing enters an open pipe to a client as the one item that it is read as
abbrev pub IsRead : ItemOut → Type 0
IsRead i = OutFits client_limits i

abbrev pub OutIsRead : Out ItemOut → Type 0
OutIsRead (Put k i) = IsRead i
OutIsRead (Shut k) = Unit {0}
OutIsRead (Took from to origin) = Unit {0}

-- ---- what comes

-- a stanza that is handled takes at most so many bytes as it is written
abbrev pub stanza_limits : Limits
stanza_limits = record { bytes = MOST_STANZA_BYTES; depth = 32; attributes = 256; namespace_bytes = 255 }

-- no text of the element itself is longer than what a server admits
pub record IsShort (e : Elem) : Type 0 where
  pub attribute : (name value : List ℕ) → attr_named name e ≡ Some value → length value ≤ 65536
  pub content : length (text_of (nodes_of e)) ≤ 65536

-- what a framer with a server's limits gives
abbrev pub Comes : Item → Type 0
Comes (item.Header at h) = Unit {0}
Comes (item.Element e) = IsPlain e × CanPass stanza_limits (item.Element e) × IsShort e
Comes item.Footer = Unit {0}

-- ---- what is held

pub record AccountKeeps (a : Account) : Type 0 where
  pub name : Said 6138 a.name
  pub salt : list_all (λ b. nat_lt b 256) a.credentials.salt ≡ true
  pub short : length a.credentials.salt ≤ 1000
  pub count : a.credentials.iterations < 2 ^ 64

pub record ArchiveKeeps (a : Kept) : Type 0 where
  pub entries : AllByRecursion EntryFits a.entries
  pub few : length a.entries < 2 ^ 64
  pub keep : a.keep < 2 ^ 64

pub record SessionKeeps (s : Session ItemOut) : Type 0 where
  pub resource : Said 6138 s.shown.resource
  pub acked : s.acked < 2 ^ 32
  pub handled : s.handled < 2 ^ 32
  pub waiting : AllByRecursion IsRead s.waiting

-- what was drawn for a connection
pub record IsDrawn (entropy : List ℕ) : Type 0 where
  pub short : length entropy ≤ 1000
  pub bytes : list_all (λ b. nat_lt b 256) entropy ≡ true

abbrev pub ConnectionKeeps : Connection → Type 0
ConnectionKeeps c = IsDrawn c.entropy

pub record ServerKeeps (h : ServerState ItemOut) : Type 0 where
  pub domain : Said 6138 h.domain
  pub accounts : AllByRecursion AccountKeeps h.accounts
  pub archives : AllByRecursion ArchiveKeeps h.archives
  pub sessions : AllByRecursion SessionKeeps h.sessions
  pub conns : AllByRecursion (λ (entry : ℕ × Connection). ConnectionKeeps entry.1) h.conns

pub record StepKeeps (s : Step ItemOut) : Type 0 where
  pub server_state : ServerKeeps s.server_state
  pub outs : AllByRecursion OutIsRead s.outs

-- ---- a small step

abbrev pub ActKeeps : Act ItemOut → Type 0
ActKeeps (steps.Say k i) = IsRead i
ActKeeps (steps.Send n i) = IsRead i
ActKeeps (steps.Bind account resource k) = Said 6138 resource
ActKeeps (steps.Resume previd account h k) = h < 2 ^ 32
ActKeeps (steps.Acknowledge n h) = h < 2 ^ 32
ActKeeps (steps.Archive account e) = EntryFits e
ActKeeps a = Unit {0}

abbrev pub ActsKeep : List (Act ItemOut) → Type 0
ActsKeep acts = AllByRecursion ActKeeps acts
