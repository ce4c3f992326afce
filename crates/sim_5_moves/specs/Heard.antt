-- Which sessions hear of a message that one of them sends to an account.
use Rattle.std.specs.Prelude.{int_le, pos, ◌≡◌, ℕ, ◌==◌, Bool, true, false, not, ◌&&◌, ◌||◌, List, ◌∷◌, ◌++◌, None, Ok}
use Rattle.srv_state.specs.State.{ServerState, archive_at}
use Rattle.sim_3_items.specs.Meant.{submitted}
use Rattle.im_jid.specs.Cuts.{resource_of}
use Rattle.im_jid.specs.Normal.{normal}
use Rattle.sm_live.specs.declared.told.SessionInfo.{SessionInfo}
use Rattle.srv_handlers.specs.Messages.{is_full_at}
use Rattle.sm_resumption.specs.declared.session.SessionView.{SessionView}
use Rattle.cmd_schedule.specs.Grammar.{is_name}
use Rattle.sim_1_applications.specs.Stanzas.{Submission}
use Rattle.xml_trees.specs.Trees.{Elem}
use Rattle.xml_writer.specs.Items.{ItemOut, Whole}

-- one of the recipient's that is available; and of a message that isn't private each other one, of the sender or of the
-- recipient, that wants copies
abbrev pub hears : SessionInfo → ℕ → Bool → SessionView → Bool
hears t account private v =
    ((v.account == account) && v.available) || (((not private && v.carbons) && ((v.account == t.account) || (v.account == account))) && not (t.number == v.number))

abbrev pub address_in : Submission → ServerState ItemOut → List ℕ
address_in m h = m.to ++ 64 ∷ h.domain

-- the element is that of a submission of a device, to an account of this server
pub record IsSubmission (resource : List ℕ) (m : Submission) (h : ServerState ItemOut) (e : Elem) : Type 0 where
  pub item : submitted resource h.domain m ≡ Whole e
  pub name : is_name m.to ≡ true
  pub normal : normal (address_in m h) ≡ Ok (address_in m h)
  pub bare : resource_of (address_in m h) ≡ None

-- the archives of the two accounts have room
pub record HasRoom (t : SessionInfo) (account : ℕ) (h : ServerState ItemOut) : Type 0 where
  pub senders : is_full_at (archive_at t.account h) ≡ false
  pub recipients : is_full_at (archive_at account h) ≡ false

-- a session that is available gets what is sent to its account: its priority isn't negative (RFC 6121, section 8.5.2.1)
abbrev pub IsReadyWhereAvailable : SessionView → Type 0
IsReadyWhereAvailable v = v.available ≡ true → int_le (pos 0) v.priority ≡ true
