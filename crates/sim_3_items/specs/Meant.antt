-- What this project's ends say: the names and numbers of it, and the items.
use Rattle.std.specs.Prelude.{◌≡◌, ℕ, ◌^◌, ◌≤◌, ◌<◌, Bool, true, List, ◌∷◌, ◌++◌}
use Rattle.std.specs.List.{AllByRecursion}
use Rattle.std.specs.Option.{IfSome, option_map}
use Rattle.mam_archive.specs.Ids.{id_of}
use Rattle.sm_outbox.specs.Submissions.{origin_of}
use Rattle.mam_pages.specs.Cuts.{CutView}
use Rattle.im_requests.specs.Messages.{page_item, queryid_text, submission_item, submission_nodes}
use Rattle.cmd_schedule.specs.Grammar.{is_name}
use Rattle.sim_1_applications.specs.Stanzas.{Request, Submission}
use Rattle.im_stanza.specs.Views.{MessageView}
use Rattle.im_stanza.specs.declared.kinds.MessageKind.TheVariants.{Chat}
use Rattle.xml_writer.specs.Items.{ItemOut}

-- ---- numbers

-- a number of 64 bits
abbrev pub Fits : ℕ → Type 0
Fits n = n < 2 ^ 64

-- that of an entry: entries are numbered from 1
pub record IsEntryNumber (n : ℕ) : Type 0 where
  pub some : 1 ≤ n
  pub fits : Fits n

-- ---- submissions

-- the n-th submission of a device in an epoch: devices and accounts have names
pub record IsOrigin (resource : List ℕ) (epoch n : ℕ) : Type 0 where
  pub device : is_name resource ≡ true
  pub epoch_fits : Fits epoch
  pub n_fits : Fits n

-- it is put to the account at the domain
abbrev pub submitted : List ℕ → List ℕ → Submission → ItemOut
submitted resource domain m = submission_item (origin_of resource m.epoch m.n) (m.to ++ 64 ∷ domain) m.text m.private

-- a message is one of these: it has the type, and what is in it
pub record IsSubmitted (m : MessageView) : Type 0 where
  pub chat : m.kind ≡ Chat
  pub origin : List ℕ
  pub said : List ℕ
  pub apart : Bool
  pub contains : m.payload ≡ submission_nodes origin said apart

-- ---- requests

pub record IsRequest (r : Request) : Type 0 where
  pub number_fits : Fits r.number
  pub position : IfSome r.after IsEntryNumber
  pub max_fits : Fits r.max

abbrev pub requested : Request → ItemOut
requested r = page_item (queryid_text r.number) (option_map id_of r.after) r.max

-- ---- pages

pub record IsPage (cut : CutView) : Type 0 where
  pub entries : AllByRecursion IsEntryNumber cut.numbers
  pub count_fits : Fits cut.count
