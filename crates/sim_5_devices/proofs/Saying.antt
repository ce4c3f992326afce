-- What becomes of a submission that the user makes.
use Rattle.std.proofs.Common.{◌≡◌, ℕ, ◌+◌, ◌<◌, ◌^◌, Bool, true, false, List, [], ◌∷◌, ◌++◌, Option, Some, None, Ok, Err, refl, ap, subst, ◌∙◌, arith, if◌then◌else◌}
use Rattle.std.proofs.Math.Nat.{min-eq_left}
use Rattle.std.proofs.lemmas.List.{map-append}
use Rattle.cl_core.specs.UserCalls.{is_bad_text, say_in, says, submission_of, submits}
use Rattle.cl_core.specs.declared.faults.SayFault.TheVariants as say
use Rattle.cl_handlers.specs.Clients.{ClientStep, ClientView}
use Rattle.cl_handlers.specs.Speech.{in_items}
use Rattle.sim_3_items.specs.Labels.{Says}
use Rattle.sim_3_items.specs.Reading.{noted}
use Rattle.cmd_network.specs.DeviceLines as device
use Rattle.sim_3_items.proofs.TextsTold.{name_again}
use Rattle.sim_3_items.specs.Meant.{submitted}
use Rattle.sim_3_items.specs.ItemWorlds.{silent_client_step}
use Rattle.sm_outbox.specs.Sessions.{SessionView, with_waiting}
use Rattle.sm_outbox.specs.Submissions.{next_number, origin_of, said_of}
use Rattle.sm_outbox.specs.Waiting.{queued}
use Rattle.cmd_report.specs.Addresses.{bare_address, domain}
use Rattle.cmd_report.specs.declared.report.SaidMark.TheVariants.{Waiting}
use Rattle.im_requests.specs.Messages.{submission_item}
use Rattle.cmd_schedule.specs.Contents.{Owned}
use Rattle.sim_3_items.specs.Built.{IsUpAs}
use Rattle.sim_3_items.specs.Submitted.{SubmissionsRepresent}
use Rattle.sim_1_applications.specs.Devices.{Sessions}
use Rattle.sim_1_applications.specs.Events.{CatchUp, May, ask, put_up}
use Rattle.sim_1_applications.specs.Events as events
use Rattle.sim_1_applications.specs.Stanzas.{Message, Submission}
use Rattle.sim_1_applications.specs.Reported.{said_line}
use Rattle.sim_5_devices.proofs.Lines.{lines}
use Rattle.sim_5_devices.proofs.Puts.{put_stands}
use Rattle.sim_5_devices.proofs.Shown.{Stands, shown, stands}
use Rattle.sim_5_devices.specs.Told.{IsSaying, SameLog, next_submission}
use Rattle.xml_writer.specs.Items.{ItemOut}

-- a number is followed by the next one
pub next_is : (n : ℕ) → n + 1 < 2 ^ 64 → next_number n ≡ n + 1
next_is n few = min-eq_left (omega (arith, few))

-- ---- submissions

module _ (o : Owned) (c : ClientView ItemOut) (d : Sessions) (to text : List ℕ) (private : Bool) (p : IsSaying o c d to text) where
  number : next_number c.n ≡ d.n + 1
  number = next_is c.n p.n_fits ∙ ap (λ n. n + 1) p.represents.n

  abbrev next_one : Submission
  next_one = next_submission d to text private

  abbrev stanza : ItemOut
  stanza = submission_of c (bare_address to) text private

  -- the item is the submission's
  stanza_is : stanza ≡ submitted o.device domain next_one
  stanza_is = λ i. submission_item (origin_of (p.resource i) (p.represents.epoch i) (number i)) (bare_address to) text private

  pub built_so : IsUpAs o (Message next_one) (submitted o.device domain next_one)
  built_so = (
    refl,
    record {
      origin = record {
        device = p.device;
        epoch_fits = subst (λ e. e < 2 ^ 64) p.represents.epoch p.epoch_fits;
        n_fits = subst (λ n. n + 1 < 2 ^ 64) p.represents.n p.n_fits;
      };
      named = p.named;
      plain = p.plain;
    },
  )

  -- its line
  line_is : device.said_line (said_of c.epoch c.n (bare_address to) text private) ≡ said_line Waiting next_one
  line_is = λ i. record { epoch = p.represents.epoch i; n = number i; state = Waiting; to = name_again to domain p.named i; text = text }

  -- what the call comes to
  record IsClientStep (t : ClientStep ItemOut ItemOut) : Type 0 where
    represents : SubmissionsRepresent t.client (events.says to text private d)
    same : SameLog c t.client
    put : noted t.out.notes ≡ Says (submitted o.device domain next_one) ∷ []
    may : d.online ≡ true

  abbrev client_step_in : Option (SessionView ItemOut) → ClientStep ItemOut ItemOut
  client_step_in session = submits in_items (silent_client_step c) session stanza (said_of c.epoch c.n (bare_address to) text private)

  attached : (s : SessionView ItemOut) → c.session ≡ Some s → IsClientStep (client_step_in (Some s))
  attached s is = record {
    represents =
        shown (client_step_in (Some s)).client (events.says to text private d) u refl
        (put_stands c (client_step_in (Some s)).client d s u (Message next_one) (d.n + 1) st p.acked refl number refl
        (map-append device.said_line c.said.waiting (said_of c.epoch c.n (bare_address to) text private ∷ []) ∙ ap (λ l. lines c.said.waiting ++ l ∷ []) line_is) refl);
    same = record { account = refl; epoch = refl; log = refl; pages = refl };
    put = ap (λ z. Says z ∷ []) stanza_is;
    may = st.online;
  }
    where
      u : SessionView ItemOut
      u = with_waiting s (queued s.waiting stanza true)

      st : Stands c d s
      st = stands c d s is p.represents

  by : (session : Option (SessionView ItemOut)) → c.session ≡ session → (bad : Bool) → (if bad then Err say.BadText else say_in c session) ≡ Ok p.n → IsClientStep (client_step_in session)
  by session is true e = absurd (let no_way : ⊥ = cc in no_way)
  by None is false e = absurd (let no_way : ⊥ = cc in no_way)
  by (Some s) is false e = attached s is

  said_client_step : IsClientStep (says in_items (silent_client_step c) (bare_address to) text private)
  said_client_step = by c.session refl (is_bad_text text) p.taken

  pub says_represents : SubmissionsRepresent (says in_items (silent_client_step c) (bare_address to) text private).client (events.says to text private d)
  says_represents = said_client_step.represents

  pub says_same : SameLog c (says in_items (silent_client_step c) (bare_address to) text private).client
  says_same = said_client_step.same

  pub says_put : noted (says in_items (silent_client_step c) (bare_address to) text private).out.notes ≡ Says (submitted o.device domain next_one) ∷ []
  says_put = said_client_step.put

  pub says_may : d.online ≡ true
  says_may = said_client_step.may
