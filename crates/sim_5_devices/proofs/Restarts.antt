-- Where the place of a page isn't kept any more, the page is asked for anew.
use Rattle.std.proofs.Common.{◌≡◌, ℕ, ◌+◌, ◌==◌, true, false, ◌&&◌, if◌then◌else◌, is_some, List, Option, Some, None, refl, sym, ap, subst, ◌∙◌}
use Rattle.std.proofs.lemmas.Bool.{and_parts}
use Rattle.std.proofs.lemmas.Option.{none-some, same_Some}
use Rattle.std.specs.Option.{IfSome, option_map, option_map_or}
use Rattle.mam_archive.specs.Entries.{EntryView}
use Rattle.mam_archive.specs.Ids.{id_of}
use Rattle.cl_core.specs.PageRows.{answered_page, next_queryid, numbered, page_answered, page_stanza, requests, restarts}
use Rattle.cl_handlers.specs.Clients.{ClientStep}
use Rattle.cl_handlers.specs.MessageRows.{is_own_or_absent, refuses}
use Rattle.cl_handlers.specs.Speech.{in_items}
use Rattle.cl_handlers.specs.ClientSteps.{ends, with_log}
use Rattle.cl_handlers.specs.declared.events.CatchUpFault.TheVariants.{Refused}
use Rattle.cl_handlers.specs.declared.events.PeerFault.TheVariants.{Unacknowledged}
use Rattle.sim_3_items.specs.Reading.{client_step_on}
use Rattle.im_forwarding.specs.Queries.{no_such_place}
use Rattle.sim_3_items.specs.Meant.{Fits}
use Rattle.sim_3_items.specs.ItemWorlds.{ItemDevice}
use Rattle.mam_log.specs.LogCalls.{with_restart}
use Rattle.mam_log.specs.Views.{page_for, without_page}
use Rattle.sim_5_devices.proofs.LogReadingsSteps.{dropped_represents, restarted_represents}
use Rattle.sim_5_devices.specs.Shown.{LogRepresents, page_shown}
use Rattle.sm_outbox.specs.Sessions.{SessionView, with_waiting}
use Rattle.sm_outbox.specs.Waiting.{counted_in, is_full}
use Rattle.im_replies.specs.Requests.{EnvelopeView, iq_error_item}
use Rattle.im_requests.specs.Messages.{page_item, queryid_text}
use Rattle.cmd_schedule.specs.Contents.{Owned}
use Rattle.sim_3_items.specs.Built.{IsAnswer}
use Rattle.sim_1_applications.specs.Devices.{OpenPage, Reading}
use Rattle.sim_1_applications.specs.Events.{asking, restart, with_page}
use Rattle.sim_1_applications.specs.Stanzas.{Request}
use Rattle.im_stanza.specs.Errors.{error_elem}
use Rattle.im_stanza.specs.Views.{IqView}
use Rattle.im_stanza.specs.Written.{IsNormal, iq_elem}
use Rattle.im_stanza.specs.declared.kinds.IqKind.TheVariants.{Error}
use Rattle.sim_5_devices.proofs.Faults.{page_well, taken_well}
use Rattle.sim_5_devices.proofs.Results.{page_found}
use Rattle.sim_5_devices.proofs.ClientSteps.{IsDone, asking_read, counted_client_step, iq_client_step, left_read, number_after}
use Rattle.sim_5_devices.specs.Logged.{IsLeftAs, IsOnline, IsReadAs}
use Rattle.xml_trees.specs.Trees.{Elem, child, no_nodes}
use Rattle.xml_writer.specs.Items.{ItemOut, Whole}

-- the most entries of the open page
pub most_of : (o : Option OpenPage) (page : OpenPage) → o ≡ Some page → IfSome o (λ page. Fits page.max) → Fits page.max
most_of None page there most = absurd (none-some page there)
most_of (Some p) page there most = subst (λ (q : OpenPage). Fits q.max) (same_Some p page there) most

some_position : (after : Option ℕ) → option_map_or (λ n. true) after false ≡ true → is_some (option_map id_of after) ≡ true
some_position None some = some
some_position (Some n) some = refl

-- an answer to the open page
module _ (o : Owned) (keep : ℕ) (history : List EntryView) (d : ItemDevice) (s : SessionView ItemOut) (b : Reading) (is : IsOnline o keep history d s b) (q : ℕ) (page : OpenPage)
    (there : b.page ≡ Some page) (same : (page.number == q) ≡ true) where
  pub page_answers : (v : IqView) (e : Elem) → v.from ≡ None → v.id ≡ queryid_text q
      → page_answered in_items (counted_client_step d.client s e) v (page_for v.id d.client.log.page) ≡ answered_page in_items (counted_client_step d.client s e) v (page_shown history page) v.kind
  page_answers v e from id =
      let h = counted_client_step d.client s e in
      ap (λ page. page_answered in_items h v page)
      (ap (λ id. page_for id d.client.log.page) id ∙ ap (page_for (queryid_text q)) (is.log.page ∙ ap (option_map (page_shown history)) there) ∙ page_found history page q same)
      ∙ ap (λ from. if is_own_or_absent d.client.account.bare from then answered_page in_items h v (page_shown history page) v.kind else h) from

module _ (o : Owned) (keep : ℕ) (history : List EntryView) (d : ItemDevice) (s : SessionView ItemOut) (b : Reading) (is : IsOnline o keep history d s b) (q : ℕ) (z : ItemOut)
    (a : EnvelopeView) (answer : IsAnswer (queryid_text q) a) (built : z ≡ iq_error_item a no_such_place) where
  abbrev error : IqView
  error = record { from = a.from; to = a.to; id = a.id; kind = Error; payload = child (error_elem no_such_place) no_nodes }

  abbrev e : Elem
  e = iq_elem error

  abbrev h : ClientStep ItemOut ItemOut
  h = counted_client_step d.client s e

  abbrev session : SessionView ItemOut
  session = with_waiting s (counted_in s.waiting)

  module _ (page : OpenPage) (there : b.page ≡ Some page) (same : (page.number == q) ≡ true) (position : option_map_or (λ n. true) page.after false ≡ true) where
    abbrev asked : Request
    asked = record { number = b.asked + 1; after = None; max = page.max }

    abbrev anew : ClientStep ItemOut ItemOut
    anew = requests in_items (with_log (numbered h) (with_restart d.client.log (next_queryid h))) session (page_stanza in_items h None page.max) false

    abbrev gives_up : ClientStep ItemOut ItemOut
    gives_up = ends (with_log h (without_page d.client.log)) Unacknowledged

    restarted : client_step_on (Whole e) d ≡ (if is_full s.waiting then gives_up else anew)
    restarted =
        iq_client_step d.client s is.online is.session error (subst IsNormal (sym answer.from) tt) answer.to
        ∙ page_answers o keep history d s b is q page there same error e answer.from answer.id_is
        ∙ ap (λ some. if some then restarts in_items h (Some session) page.max else refuses h (Refused no_such_place.condition)) (some_position page.after position)

    represents : LogRepresents keep history (with_restart d.client.log (next_queryid h)) (asking None page.max page.began b).reading
    represents =
        subst (λ n. LogRepresents keep history (with_restart d.client.log (queryid_text n)) (asking None page.max page.began b).reading) (sym (number_after o keep history d s b is e))
        (restarted_represents keep history d.client.log b is.log page page.began there)

    asked_anew : is_full s.waiting ≡ false → IsReadAs o keep history d s z (asking None page.max page.began b) (client_step_on z d)
    asked_anew room =
        let step : client_step_on (Whole e) d ≡ anew = restarted ∙ ap (λ full. if full then gives_up else anew) room in
        subst (λ z. IsReadAs o keep history d s z (asking None page.max page.began b) (client_step_on z d)) (sym built)
        (asking_read o keep history d s b is e (client_step_on (Whole e) d) (with_restart d.client.log (next_queryid h)) (asking None page.max page.began b).reading asked
        (page_stanza in_items h None page.max)
        (ap (λ n. page_item (queryid_text n) None page.max) (number_after o keep history d s b is e))
        (ap (λ (t : ClientStep ItemOut ItemOut). t.client) step) (ap (λ (t : ClientStep ItemOut ItemOut). t.out.notes) step) represents
        (record { logged = is.given.logged; page = tt; held = is.given.held }) refl
        (record { number_fits = is.more; position = tt; max_fits = most_of b.page page there is.most }))

    left_there : is_full s.waiting ≡ true → IsLeftAs keep history d s z (asking None page.max page.began b) (client_step_on z d)
    left_there full =
        let step : client_step_on (Whole e) d ≡ gives_up = restarted ∙ ap (λ full. if full then gives_up else anew) full in
        let none = dropped_represents keep history d.client.log b is.log in
        subst (λ z. IsLeftAs keep history d s z (asking None page.max page.began b) (client_step_on z d)) (sym built)
        (left_read o keep history d s b is e (client_step_on (Whole e) d) (without_page d.client.log) (asking None page.max page.began b)
        (ap (λ (t : ClientStep ItemOut ItemOut). t.client) step) (ap (λ (t : ClientStep ItemOut ItemOut). t.out.notes) step)
        (record { entries = none.entries; tiles = none.tiles; page = none.page; held = none.held }) (record { logged = is.given.logged; page = tt; held = is.given.held }))

  pub restart_comes : (with_page (restart q) b).reading.faulty ≡ false → IsDone o keep history d s z (with_page (restart q) b) (client_step_on z d)
  restart_comes =
      page_well (λ x. IsDone o keep history d s z x (client_step_on z d)) b (restart q)
      (λ page there. taken_well (λ x. IsDone o keep history d s z x (client_step_on z d)) b (page.number == q && option_map_or (λ n. true) page.after false) (asking None page.max page.began b)
      (λ good. (let parts = and_parts (page.number == q) (option_map_or (λ n. true) page.after false) good in record { goes_on = asked_anew page there parts.0 parts.1; leaves = λ r asks full. left_there page there parts.0 parts.1 full })))
