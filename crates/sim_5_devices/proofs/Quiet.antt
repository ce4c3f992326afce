-- What leaves the log as it is: that carbons are on, and a message that came back.
use Rattle.std.proofs.Common.{◌≡◌, ℕ, Bool, true, false, find, if◌then◌else◌, List, [], Option, Some, None, refl, sym, ap, subst, ◌∙◌, codes}
use Rattle.std.specs.Option.{option_map}
use Rattle.mam_archive.specs.Entries.{EntryView}
use Rattle.cl_core.specs.PageRows.{page_answered}
use Rattle.cl_handlers.specs.Clients.{ClientStep}
use Rattle.cl_handlers.specs.MessageRows.{bounce_of, copied_in, held_row, is_own, itself, live_in, tells_where}
use Rattle.cl_handlers.specs.Speech.{in_items}
use Rattle.cl_handlers.specs.declared.events.Event.{Event}
use Rattle.sim_3_items.specs.Reading.{client_step_on}
use Rattle.im_extensions.specs.Carbons.{is_carbon}
use Rattle.sim_3_items.specs.ItemWorlds.{ItemDevice}
use Rattle.mam_log.specs.Views.{page_for}
use Rattle.sim_5_devices.specs.Shown.{page_shown}
use Rattle.sm_outbox.specs.Sessions.{SessionView}
use Rattle.sm_outbox.specs.Submissions.{origin_of}
use Rattle.im_replies.specs.Requests.{EnvelopeView, result_item}
use Rattle.cmd_schedule.specs.Contents.{Owned}
use Rattle.sim_3_items.specs.Built.{IsAnswer, IsBounce}
use Rattle.sim_1_applications.specs.Devices.{OpenPage, Reading}
use Rattle.sim_1_applications.specs.Events.{quiet}
use Rattle.im_stanza.specs.Errors.{error_elem}
use Rattle.im_stanza.specs.Views.{IqView, MessageView}
use Rattle.im_stanza.specs.Written.{IsNormal, iq_elem, message_elem}
use Rattle.im_stanza.specs.declared.errors.StanzaError.{StanzaError}
use Rattle.im_stanza.specs.declared.kinds.IqKind.TheVariants.{Result}
use Rattle.im_stanza.specs.declared.kinds.MessageKind.TheVariants.{Error}
use Rattle.sim_5_devices.proofs.ClientSteps.{counted_client_step, iq_client_step, message_client_step, quiet_read}
use Rattle.sim_5_devices.specs.Logged.{IsOnline, IsReadAs}
use Rattle.xml_trees.specs.Readers.{elements_of}
use Rattle.xml_trees.specs.Trees.{child, no_nodes}
use Rattle.xml_writer.specs.Items.{ItemOut, Whole}

-- no page has such an id
no_page : (history : List EntryView) (page : Option OpenPage) → page_for (codes "carbons") (option_map (page_shown history) page) ≡ None
no_page history None = refl
no_page history (Some page) = refl

module _ (o : Owned) (keep : ℕ) (history : List EntryView) (d : ItemDevice) (s : SessionView ItemOut) (b : Reading) (is : IsOnline o keep history d s b) where
  abbrev result : EnvelopeView → IqView
  result a = record { from = a.from; to = a.to; id = a.id; kind = Result; payload = no_nodes }

  pub accepted : (a : EnvelopeView) (z : ItemOut) → IsAnswer (codes "carbons") a → z ≡ result_item a no_nodes → IsReadAs o keep history d s z (quiet b) (client_step_on z d)
  accepted a z answer same =
      let q = result a in
      let e = iq_elem q in
      let none = ap (λ id. page_for id d.client.log.page) answer.id_is ∙ ap (page_for (codes "carbons")) is.log.page ∙ no_page history b.page in
      let from = subst IsNormal (sym answer.from) tt in
      let step : client_step_on (Whole e) d ≡ counted_client_step d.client s e = iq_client_step d.client s is.online is.session q from answer.to ∙ ap (page_answered in_items (counted_client_step d.client s e) q) none in
      subst (λ z. IsReadAs o keep history d s z (quiet b) (client_step_on z d)) (sym same)
      (quiet_read o keep history d s b is e (client_step_on (Whole e) d) d.client.log b
      (ap (λ (t : ClientStep ItemOut ItemOut). t.client) step) (ap (λ (t : ClientStep ItemOut ItemOut). t.out.notes) step) is.log is.given refl)

-- ---- a message that came back

-- an event changes neither the client nor what is noted down
pub told_client : (t : ClientStep ItemOut ItemOut) (event : Option Event) → (tells_where t event).client ≡ t.client
told_client t None = refl
told_client t (Some event) = refl

pub told_notes : (t : ClientStep ItemOut ItemOut) (event : Option Event) → (tells_where t event).out.notes ≡ t.out.notes
told_notes t None = refl
told_notes t (Some event) = refl

-- one that has no copy in it is the live one itself, whoever it is from
pub live_itself : (bare : List ℕ) (m : MessageView) → find is_carbon (elements_of m.payload) ≡ None → live_in bare m ≡ itself m
live_itself bare m none = by (is_own bare m.from)
  where
    by : (own : Bool) → (if own then copied_in m (find is_carbon (elements_of m.payload)) else itself m) ≡ itself m
    by true = ap (copied_in m) none
    by false = refl

module _ (o : Owned) (keep : ℕ) (history : List EntryView) (d : ItemDevice) (s : SessionView ItemOut) (b : Reading) (is : IsOnline o keep history d s b) where
  abbrev error : List ℕ → List ℕ → StanzaError → MessageView
  error from id e = record { from = Some from; to = None; id = id; kind = Error; lang = []; payload = child (error_elem e) no_nodes }

  pub bounced : (epoch n : ℕ) (z : ItemOut) → IsBounce o epoch n z → IsReadAs o keep history d s z (quiet b) (client_step_on z d)
  bounced epoch n z built =
      let m = error built.from (origin_of o.device epoch n) built.error in
      let e = message_elem m in
      let h = counted_client_step d.client s e in
      let event = bounce_of h.client m in
      let step : client_step_on (Whole e) d ≡ tells_where h event =
      message_client_step d.client s is.online is.session m built.address tt ∙ ap (λ live. tells_where (held_row h live) event) (live_itself d.client.account.bare m refl) in
      subst (λ z. IsReadAs o keep history d s z (quiet b) (client_step_on z d)) (sym built.is)
      (quiet_read o keep history d s b is e (client_step_on (Whole e) d) d.client.log b
      (ap (λ (t : ClientStep ItemOut ItemOut). t.client) step ∙ told_client h event) (ap (λ (t : ClientStep ItemOut ItemOut). t.out.notes) step ∙ told_notes h event) is.log is.given refl)
