-- Which messages are kept, and which sessions get copies of them (XEP-0313, section 5; XEP-0280, sections 6 to 8).
use Rattle.std.specs.Prelude.{◌≡◌, ◌≢◌, ◌⊎◌, true, Some, codes, is_some}
use Rattle.im_stanza.specs.Names.{client_ns}
use Rattle.im_stanza.specs.Views.{MessageView}
use Rattle.im_stanza.specs.declared.kinds.MessageKind.TheVariants.{Chat, Normal}
use Rattle.mam_archive.specs.Entries.{EntryView}
use Rattle.im_messages.specs.Entries.{entry_of}
use Rattle.law_server.specs.Live.{going_on}
use Rattle.sm_live.specs.Sessions.{Session, session_of}
use Rattle.srv_state.specs.State.{ServerState}
use Rattle.xml_trees.specs.Readers.{first_named}

-- a chat or a normal message in which there is a body
pub record IsForArchives (m : MessageView) : Type 0 where
  pub kind : (m.kind ≡ Chat) ⊎ (m.kind ≡ Normal)
  pub body : is_some (first_named client_ns (codes "body") m.payload) ≡ true

-- what an archive keeps of it, but for the number
abbrev pub entry : {A : Type 0} → Session A → MessageView → ServerState A → EntryView
entry sender m h = entry_of 0 h.moment (going_on sender m h)

-- another session than the one that sent the message, which asked for copies
pub record IsCopied {A : Type 0} (h : ServerState A) (sender : Session A) (t : Session A) : Type 0 where
  pub lives : session_of t.shown.number h.sessions ≡ Some t
  pub asked : t.shown.carbons ≡ true
  pub other : t.shown.number ≢ sender.shown.number
