-- A client that is online counts a stanza, and then does what it does on it. What is shown of it behind that.
use Rattle.std.proofs.Common.{◌≡◌, ℕ, ◌+◌, true, false, List, [], ◌∷◌, Some, None, refl, sym, ap, subst, ◌∙◌, codes, arith, if◌then◌else◌}
use Rattle.std.proofs.lemmas.Option.{none-some}
use Rattle.mam_archive.specs.Entries.{EntryView}
use Rattle.cl_core.specs.PageRows.{iq_row}
use Rattle.cl_core.specs.Steps.{connected_step, element_row, handles, item_step, online_in, stanza_row}
use Rattle.cl_handlers.specs.Clients.{ClientStep, ClientView}
use Rattle.cl_handlers.specs.MessageRows.{message_row}
use Rattle.cl_handlers.specs.SessionRows.{is_stanza}
use Rattle.cl_handlers.specs.Speech.{Handled, Put, in_items}
use Rattle.cl_handlers.specs.ClientSteps.{is_apart}
use Rattle.cl_handlers.specs.declared.phase.Phase.TheVariants.{Apart, Online}
use Rattle.sim_3_items.specs.Reading.{noted}
use Rattle.xml_framer.specs.declared.items.Item.TheVariants.{Element}
use Rattle.sim_3_items.specs.Meant.{IsRequest, requested}
use Rattle.sim_3_items.specs.ItemWorlds.{ItemDevice, silent_client_step}
use Rattle.mam_log.specs.Views.{LogView}
use Rattle.sim_5_devices.specs.Shown.{IsReadingGiven, LogRepresents}
use Rattle.sm_outbox.specs.Sessions.{SessionView, with_waiting}
use Rattle.sm_outbox.specs.Submissions.{next_number}
use Rattle.sm_outbox.specs.Waiting.{counted_in, is_full, queued}
use Rattle.cmd_schedule.specs.Contents.{Owned}
use Rattle.sim_1_applications.specs.Devices.{Reading}
use Rattle.sim_1_applications.specs.Events.{Reaction, quiet}
use Rattle.sim_1_applications.specs.Stanzas.{Request}
use Rattle.im_stanza.specs.Names.{streams_ns}
use Rattle.im_stanza.specs.Readings.{stanza_of}
use Rattle.im_stanza.specs.Views.{IqView, MessageView}
use Rattle.im_stanza.specs.Written.{IsNormal, iq_elem, message_elem}
use Rattle.sim_5_devices.proofs.Stanzas.{iq_read, message_read}
use Rattle.sim_5_devices.specs.Logged.{HasRoomFor, IsLeftAs, IsOnline, IsReadAs}
use Rattle.xml_trees.specs.Readers.{is_named}
use Rattle.xml_trees.specs.Trees.{Elem}
use Rattle.xml_writer.specs.Items.{ItemOut, Whole}

-- the stanza is counted
abbrev pub counted_client_step : ClientView ItemOut → SessionView ItemOut → Elem → ClientStep ItemOut ItemOut
counted_client_step c s e = handles in_items (silent_client_step c) s e

module _ (c : ClientView ItemOut) (s : SessionView ItemOut) (online : c.phase ≡ Online) (session : c.session ≡ Some s) where
  pub read_online : (e : Elem) → is_named streams_ns (codes "error") e ≡ false → is_stanza e ≡ true
      → item_step in_items (silent_client_step c) (Element e) ≡ stanza_row in_items (counted_client_step c s e) (stanza_of e)
  read_online e other stanza =
      ap (λ p. if is_apart p then silent_client_step c else connected_step in_items (silent_client_step c) (Element e)) online
      ∙ rw other (ap (λ p. element_row in_items (silent_client_step c) p e) online ∙ ap (λ s. online_in in_items (silent_client_step c) s e) session ∙ rw stanza refl)

  pub message_client_step : (m : MessageView) → IsNormal m.from → IsNormal m.to → item_step in_items (silent_client_step c) (Element (message_elem m)) ≡ message_row (counted_client_step c s (message_elem m)) m
  message_client_step m from to = read_online (message_elem m) refl refl ∙ ap (stanza_row in_items (counted_client_step c s (message_elem m))) (message_read m from to)

  pub iq_client_step : (q : IqView) → IsNormal q.from → IsNormal q.to → item_step in_items (silent_client_step c) (Element (iq_elem q)) ≡ iq_row in_items (counted_client_step c s (iq_elem q)) q
  iq_client_step q from to = read_online (iq_elem q) refl refl ∙ ap (stanza_row in_items (counted_client_step c s (iq_elem q))) (iq_read q from to)

-- ---- what is shown behind it

module _ (o : Owned) (keep : ℕ) (history : List EntryView) (d : ItemDevice) (s : SessionView ItemOut) (b : Reading) (is : IsOnline o keep history d s b) (e : Elem) where
  -- no more than the log changed
  pub quiet_read : (t : ClientStep ItemOut ItemOut) (log : LogView) (next : Reading) → t.client ≡ record (counted_client_step d.client s e).client { log = log } → t.out.notes ≡ Handled e ∷ []
      → LogRepresents keep history log next → IsReadingGiven history next → next.asked ≡ b.asked → IsReadAs o keep history d s (Whole e) (quiet next) t
  quiet_read t log next client notes represents given asked = record {
    log = subst (λ (c : ClientView ItemOut). LogRepresents keep history c.log next) (sym client) represents;
    given = given;
    pages = ap (λ (c : ClientView ItemOut). c.pages) client ∙ is.pages ∙ sym asked;
    account = ap (λ (c : ClientView ItemOut). c.account) client;
    said = ap (λ (c : ClientView ItemOut). c.said) client;
    epoch = ap (λ (c : ClientView ItemOut). c.epoch) client;
    n = ap (λ (c : ClientView ItemOut). c.n) client;
    phase = ap (λ (c : ClientView ItemOut). c.phase) client ∙ is.online;
    session = ap (λ (c : ClientView ItemOut). c.session) client;
    noted = ap noted notes;
    request = tt;
  }

  pub number_after : next_number d.client.pages ≡ b.asked + 1
  number_after = ap next_number is.pages ∙ (let more = is.more in omega (arith, more))

  -- a page was asked for
  pub asking_read : (t : ClientStep ItemOut ItemOut) (log : LogView) (next : Reading) (r : Request) (z : ItemOut) → z ≡ requested r
      → t.client ≡ record (counted_client_step d.client s e).client { log = log; pages = next_number d.client.pages; session = Some (with_waiting s (queued (counted_in s.waiting) z false)) }
      → t.out.notes ≡ Handled e ∷ Put z ∷ [] → LogRepresents keep history log next → IsReadingGiven history next → next.asked ≡ b.asked + 1 → IsRequest r
      → IsReadAs o keep history d s (Whole e) (record { reading = next; request = Some r }) t
  asking_read t log next r z same client notes represents given asked request = record {
    log = subst (λ (c : ClientView ItemOut). LogRepresents keep history c.log next) (sym client) represents;
    given = given;
    pages = ap (λ (c : ClientView ItemOut). c.pages) client ∙ number_after ∙ sym asked;
    account = ap (λ (c : ClientView ItemOut). c.account) client;
    said = ap (λ (c : ClientView ItemOut). c.said) client;
    epoch = ap (λ (c : ClientView ItemOut). c.epoch) client;
    n = ap (λ (c : ClientView ItemOut). c.n) client;
    phase = ap (λ (c : ClientView ItemOut). c.phase) client ∙ is.online;
    session = ap (λ (c : ClientView ItemOut). c.session) client ∙ ap (λ z. Some (with_waiting s (queued (counted_in s.waiting) z false))) same;
    noted = ap noted notes ∙ ap (λ z. noted (Handled e ∷ Put z ∷ [])) same;
    request = (refl, request);
  }

  -- the connection was left
  pub left_read : (t : ClientStep ItemOut ItemOut) (log : LogView) (x : Reaction) → t.client ≡ record (counted_client_step d.client s e).client { log = log; phase = Apart } → t.out.notes ≡ Handled e ∷ []
      → LogRepresents keep history log (record x.reading { page = None }) → IsReadingGiven history (record x.reading { page = None }) → IsLeftAs keep history d s (Whole e) x t
  left_read t log x client notes represents given = record {
    log = subst (λ (c : ClientView ItemOut). LogRepresents keep history c.log (record x.reading { page = None })) (sym client) represents;
    given = given;
    account = ap (λ (c : ClientView ItemOut). c.account) client;
    said = ap (λ (c : ClientView ItemOut). c.said) client;
    epoch = ap (λ (c : ClientView ItemOut). c.epoch) client;
    n = ap (λ (c : ClientView ItemOut). c.n) client;
    pages = ap (λ (c : ClientView ItemOut). c.pages) client;
    phase = ap (λ (c : ClientView ItemOut). c.phase) client;
    session = ap (λ (c : ClientView ItemOut). c.session) client;
    noted = ap noted notes;
  }

-- ---- both

-- where there is place for a request, and where there is none
pub record IsDone (o : Owned) (keep : ℕ) (history : List EntryView) (d : ItemDevice) (s : SessionView ItemOut) (z : ItemOut) (x : Reaction) (t : ClientStep ItemOut ItemOut) : Type 0 where
  pub goes_on : HasRoomFor s x.request → IsReadAs o keep history d s z x t
  pub leaves : (r : Request) → x.request ≡ Some r → is_full s.waiting ≡ true → IsLeftAs keep history d s z x t

pub quietly : (o : Owned) (keep : ℕ) (history : List EntryView) (d : ItemDevice) (s : SessionView ItemOut) (z : ItemOut) (next : Reading) (t : ClientStep ItemOut ItemOut)
    → IsReadAs o keep history d s z (quiet next) t → IsDone o keep history d s z (quiet next) t
quietly o keep history d s z next t read = record { goes_on = λ room. read; leaves = λ r asks full. absurd (none-some r asks) }
