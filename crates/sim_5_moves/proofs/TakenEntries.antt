-- What an archive keeps of a submission is the entry of its take.
use Rattle.std.proofs.Common.{◌≡◌, ℕ, Bool, true, false, List, [], ◌∷◌, ◌++◌, unwrap_or, refl, sym, ap, ◌∙◌}
use Rattle.mam_archive.specs.Entries.{EntryView}
use Rattle.mam_archive.specs.declared.entry.Body.{Body}
use Rattle.srv_state.specs.State.{ServerState, session_address}
use Rattle.im_extensions.specs.Given.{origin_of as origin_given}
use Rattle.sim_5_moves.proofs.AnswersMessages.{as_sent}
use Rattle.sm_live.specs.Sessions.{Session, told}
use Rattle.im_messages.specs.Bodies.{bodies_of}
use Rattle.im_messages.specs.Entries.{entry_of}
use Rattle.sim_5_moves.proofs.Positions.{full_is}
use Rattle.sim_5_moves.specs.Submits.{Submits}
use Rattle.cmd_report.specs.Addresses.{domain, full_address, origin_of}
use Rattle.cmd_report.specs.Takes as report
use Rattle.im_requests.specs.Messages.{submission_nodes}
use Rattle.cmd_schedule.specs.Contents.{Owned}
use Rattle.sim_1_applications.specs.Devices.{Take}
use Rattle.sim_1_applications.specs.Stanzas.{Submission}
use Rattle.sim_1_applications.proofs.Owners.{name_is}
use Rattle.sim_1_applications.specs.Reported.{name_at, take_of}
use Rattle.xml_trees.proofs.TidyReads.{text_of-text_node}
use Rattle.xml_trees.specs.Trees.{Elem}
use Rattle.xml_writer.specs.Items.{ItemOut}

-- ---- what a submission contains

origin_there : (id text : List ℕ) (private : Bool) → unwrap_or (origin_given (submission_nodes id text private)) [] ≡ id
origin_there id text true = refl
origin_there id text false = refl

one_body : List ℕ → List Body
one_body text = record { lang = []; text = text } ∷ []

body_there : (id text : List ℕ) (private : Bool) → bodies_of (submission_nodes id text private) ≡ record { lang = []; text = text } ∷ []
body_there id text true = ap (λ (t : List ℕ). let b : List Body = record { lang = []; text = t } ∷ [] in b) (text_of-text_node text)
body_there id text false = ap (λ (t : List ℕ). let b : List Body = record { lang = []; text = t } ∷ [] in b) (text_of-text_node text)

-- ---- the take

abbrev pub take_now : ServerState ItemOut → ℕ → Owned → Submission → Take
take_now h i o m = record { device = i; account = o.account; said = m; moment = h.moment }

abbrev pub entry_now : ServerState ItemOut → Owned → Session ItemOut → Submission → ℕ → EntryView
entry_now h o s m account = entry_of 0 h.moment (as_sent o.device m (told s) h account)

module _ {keep : ℕ} {owned : List Owned} {names : List (List ℕ)} {takes : List Take} {h : ServerState ItemOut} {i : ℕ} {o : Owned} {s : Session ItemOut} {m : Submission} {e : Elem} (x : Submits keep owned names takes h i o s m e) where
  pub name_here : name_at owned i ≡ o.device
  name_here = name_is owned i o x.session.device

  pub entry_same : (account : ℕ) → entry_now h o s m account ≡ report.entry_of (take_of owned (take_now h i o m))
  entry_same account =
      let from : session_address s.shown.number h ≡ full_address o.account (name_at owned i) =
      full_is names h x.runs.configured owned i o s x.session ∙ ap (full_address o.account) (sym name_here) in
      let to : m.to ++ 64 ∷ h.domain ≡ m.to ++ 64 ∷ domain = ap (λ d. m.to ++ 64 ∷ d) x.runs.configured.domain in
      let id : origin_of o.device m.epoch m.n ≡ origin_of (name_at owned i) m.epoch m.n = ap (λ d. origin_of d m.epoch m.n) (sym name_here) in
      let origin = origin_there (origin_of o.device m.epoch m.n) m.text m.private ∙ id in
      let bodies = body_there (origin_of o.device m.epoch m.n) m.text m.private in
      λ k. record { number = 0; stamp = h.moment; from = from k; to = to k; normal = false; id = id k; origin = origin k; bodies = bodies k }
