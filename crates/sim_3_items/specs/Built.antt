-- The stanzas that this project's ends build, by what they mean to the two applications.
use Rattle.std.specs.Prelude.{◌≡◌, ◌⊎◌, ℕ, Bool, true, List, Option, None, Some, codes}
use Rattle.mam_archive.specs.Entries.{EntryView, entry_numbered}
use Rattle.im_forwarding.specs.Copies.{CopyView, copy_item}
use Rattle.im_forwarding.specs.Passed.{passed_item}
use Rattle.im_forwarding.specs.Queries.{no_such_place}
use Rattle.im_forwarding.specs.Results.{AskerView, entry_item, fin_item}
use Rattle.sim_3_items.specs.Downs.{down_stanza}
use Rattle.sim_3_items.specs.Meant.{Fits, IsEntryNumber, IsOrigin, IsPage, IsRequest, IsSubmitted, requested, submitted}
use Rattle.sim_3_items.specs.Ups.{up_stanza}
use Rattle.sm_outbox.specs.Submissions.{origin_of}
use Rattle.mam_pages.specs.Cuts.{CutView}
use Rattle.im_replies.specs.Requests.{EnvelopeView, bounce_item, iq_error_item, result_item}
use Rattle.cmd_report.specs.Addresses.{bare_address, domain, full_address}
use Rattle.im_requests.specs.Messages.{queryid_text}
use Rattle.im_requests.specs.Sessions.{available_item, carbons_item}
use Rattle.cmd_schedule.specs.Contents.{Owned}
use Rattle.cmd_schedule.specs.Grammar.{is_name, is_text}
use Rattle.sim_1_applications.specs.Answers.{last_in}
use Rattle.sim_1_applications.specs.Stanzas.{Accepted, Bounced, Carbons, Down, Fin, Live, Message, NotFound, Presence, Query, Res, Submission, Up}
use Rattle.im_stanza.specs.Views.{MessageView}
use Rattle.im_stanza.specs.Written.{IsNormal}
use Rattle.im_stanza.specs.declared.errors.StanzaError.{StanzaError}
use Rattle.xml_trees.specs.Trees.{no_nodes}
use Rattle.xml_writer.specs.Items.{ItemOut}

-- ---- from a client of a device

-- a submission of the device: to an account by its name, with a text
pub record IsSaid (o : Owned) (m : Submission) : Type 0 where
  pub origin : IsOrigin o.device m.epoch m.n
  pub named : is_name m.to ≡ true
  pub plain : is_text m.text ≡ true

abbrev pub IsUpAs : Owned → Up → ItemOut → Type 0
IsUpAs o Carbons z = z ≡ carbons_item
IsUpAs o Presence z = z ≡ available_item
IsUpAs o (Message m) z = (z ≡ submitted o.device domain m) × IsSaid o m
IsUpAs o (Query r) z = (z ≡ requested r) × IsRequest r

-- it is built as it is read
abbrev pub IsUp : Owned → ItemOut → Type 0
IsUp o z = IsUpAs o (up_stanza z) z

-- ---- from the server, to a session of a device, whose account has this history

-- the account itself, to the device
abbrev pub asker_for : Owned → ℕ → AskerView
asker_for o q = record { by = bare_address o.account; full = full_address o.account o.device; queryid = queryid_text q }

-- an answer to what was asked with this id of nobody in particular
pub record IsAnswer (id : List ℕ) (a : EnvelopeView) : Type 0 where
  pub from : a.from ≡ None
  pub to : IsNormal a.to
  pub id_is : a.id ≡ id

-- a message that came back
pub record IsBounce (o : Owned) (epoch n : ℕ) (z : ItemOut) : Type 0 where
  pub from : List ℕ
  pub error : StanzaError
  pub is : z ≡ bounce_item from (origin_of o.device epoch n) error
  pub address : IsNormal (Some from)
  pub origin : IsOrigin o.device epoch n

-- the message itself, or a copy of it
pub record IsPassed (o : Owned) (n : ℕ) (z : ItemOut) : Type 0 where
  pub message : MessageView
  pub is : z ≡ passed_item (bare_address o.account) (Some n) message
  pub sender : IsNormal message.from
  pub addressee : IsNormal message.to
  pub submission : IsSubmitted message

pub record IsCopied (o : Owned) (n : ℕ) (z : ItemOut) : Type 0 where
  pub copy : CopyView
  pub is : z ≡ copy_item copy (full_address o.account o.device)
  pub by : copy.by ≡ bare_address o.account
  pub number : copy.number ≡ Some n
  pub sender : IsNormal copy.message.from
  pub addressee : IsNormal copy.message.to
  pub submission : IsSubmitted copy.message

abbrev pub IsLive : Owned → ℕ → ItemOut → Type 0
IsLive o n z = IsEntryNumber n × (IsPassed o n z ⊎ IsCopied o n z)

-- a result: the entry with the number
pub record IsResult (o : Owned) (history : List EntryView) (q n : ℕ) (z : ItemOut) : Type 0 where
  pub entry : EntryView
  pub there : entry_numbered n history ≡ Some entry
  pub numbered : IsEntryNumber n
  pub is : z ≡ entry_item (asker_for o q) entry

-- the end of a page
pub record IsEnd (o : Owned) (q : ℕ) (complete : Bool) (last : Option ℕ) (count : ℕ) (z : ItemOut) : Type 0 where
  pub envelope : EnvelopeView
  pub answer : IsAnswer (queryid_text q) envelope
  pub cut : CutView
  pub page : IsPage cut
  pub index : Fits cut.first_index
  pub told : (cut.complete ≡ complete) × (last_in cut.numbers ≡ last) × (cut.count ≡ count)
  pub is : z ≡ fin_item envelope cut

abbrev pub IsDownAs : Owned → List EntryView → Down → ItemOut → Type 0
IsDownAs o history Accepted z = (a : EnvelopeView) × IsAnswer (codes "carbons") a × (z ≡ result_item a no_nodes)
IsDownAs o history (Bounced epoch n) z = IsBounce o epoch n z
IsDownAs o history (Live n) z = IsLive o n z
IsDownAs o history (Res q n) z = IsResult o history q n z
IsDownAs o history (Fin q complete last count) z = IsEnd o q complete last count z
IsDownAs o history (NotFound q) z = (a : EnvelopeView) × IsAnswer (queryid_text q) a × (z ≡ iq_error_item a no_such_place)

abbrev pub IsDown : Owned → List EntryView → ItemOut → Type 0
IsDown o history z = IsDownAs o history (down_stanza z) z
