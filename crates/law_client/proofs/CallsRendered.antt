-- A submission and a catch-up go through, and what is answered to them.
use Rattle.std.proofs.Common.{◌≡◌, ℕ, Bool, true, List, Option, Some, None, Ok, Err, is_some, nat_le, if◌then◌else◌, refl, ap, ◌∙◌}
use Rattle.std.proofs.lemmas.List.{length-map}
use Rattle.std.specs.Option.{option_map}
use Rattle.cl_core.specs.UserCalls.{catch_up_answer, catch_up_in, catches_up, catches_up_in, outbox_bound, says, submission_of, submits}
use Rattle.cl_core.specs.declared.faults.CatchUpStart.TheVariants as start
use Rattle.law_client.proofs.OnlineRendered.{page_begun_rendered, requested_rendered}
use Rattle.law_client.specs.Rendered.{IsRendered, client_rendered, session_rendered, turn_rendered}
use Rattle.cl_handlers.specs.Clients.{ClientStep, ClientView}
use Rattle.cl_handlers.specs.Speech.{Note, Speech}
use Rattle.sm_outbox.specs.Sessions.{SessionView}
use Rattle.sm_outbox.specs.Submissions.{said_of, with_said}
use Rattle.sm_outbox.specs.declared.said.Said.{Said}
use Rattle.xml_writer.specs.Items.{ItemOut}
use Rattle.law_client.proofs.TableRendered.{start_rendered}

pub start_answer_rendered : {A B : Type 0} (f : A → B) (c : ClientView A) → catch_up_answer (client_rendered f c) ≡ catch_up_answer c
start_answer_rendered f c = start_rendered f c c.session

module _ {A B X Y : Type 0} {p : Speech A X} {q : Speech B Y} {f : A → B} {g : X → List Y} {k : List (Note A) → List (Note B)} (h : IsRendered p q f g k) where
  submitted_rendered : (t : ClientStep A X) (o : Option (SessionView A)) (item : ItemOut) (said : Said) → submits q (turn_rendered f g k t) (option_map (session_rendered f) o) (q.say item) said ≡ turn_rendered f g k (submits p t o (p.say item) said)
  submitted_rendered t None item said = refl
  submitted_rendered t (Some s) item said =
      ap (λ stanza. submits q (turn_rendered f g k t) (Some (session_rendered f s)) stanza said) (h.say item)
      ∙ requested_rendered h (record t { client = record t.client { n = said.n; said = with_said t.client.said said } }) s (p.say item) true

  pub says_rendered : (t : ClientStep A X) (to text : List ℕ) (private : Bool) → says q (turn_rendered f g k t) to text private ≡ turn_rendered f g k (says p t to text private)
  says_rendered t to text private = submitted_rendered t t.client.session (submission_of t.client to text private) (said_of t.client.epoch t.client.n to text private)

  asked_rendered : (t : ClientStep A X) (o : Option (SessionView A)) (max : ℕ) → catches_up_in q (turn_rendered f g k t) (option_map (session_rendered f) o) max ≡ turn_rendered f g k (catches_up_in p t o max)
  asked_rendered t None max = refl
  asked_rendered t (Some s) max = page_begun_rendered h t s max

  pub catches_up_rendered : (t : ClientStep A X) (max : ℕ) → catches_up q (turn_rendered f g k t) max ≡ turn_rendered f g k (catches_up p t max)
  catches_up_rendered t max = asked_rendered t t.client.session max
