-- A message that came live, and a copy of one, is held by its number in the account's archive.
use Rattle.std.proofs.Common.{◌≡◌, ℕ, ◌<◌, ◌^◌, min, Bool, true, false, find, if◌then◌else◌, List, [], ◌∷◌, ◌++◌, Option, Some, None, Ok, inl, inr, refl, sym, ap, ap₂, subst, ◌∙◌, codes}
use Rattle.std.specs.List.{AllByRecursion}
use Rattle.std.specs.Str.{bytes_eq}
use Rattle.mam_archive.specs.Entries.{EntryView}
use Rattle.mam_archive.specs.Ids.{id_of}
use Rattle.cl_handlers.specs.Clients.{ClientStep}
use Rattle.cl_handlers.specs.MessageRows.{bounce_of, copied_in, held_by, held_row, is_own, itself, live_in, logged, message_with, copied as live_copied, own_id, tells_where}
use Rattle.cl_handlers.specs.Speech.{Handled}
use Rattle.cl_handlers.specs.declared.events.Event.{Event}
use Rattle.sim_3_items.specs.Reading.{client_step_on}
use Rattle.im_extensions.specs.Carbons.{carbon_elem, is_carbon}
use Rattle.im_extensions.specs.Forwarding.{forwarded_elem}
use Rattle.im_extensions.specs.declared.forwarding.Forwarded.{Forwarded}
use Rattle.im_forwarding.specs.Copies.{copy_elem, copy_message}
use Rattle.im_forwarding.specs.Passed.{passed_elem, passed_message, passed_nodes}
use Rattle.sim_3_items.specs.Meant.{IsEntryNumber, IsSubmitted}
use Rattle.sim_3_items.specs.ItemWorlds.{ItemDevice}
use Rattle.im_jid.specs.Normal.{normal}
use Rattle.mam_log.specs.LogCalls.{after_hold}
use Rattle.sim_5_devices.proofs.LogReadingsSteps.{held_represents}
use Rattle.sim_5_devices.specs.Shown.{IsReadingGiven}
use Rattle.sm_outbox.specs.Sessions.{SessionView}
use Rattle.im_payload.specs.Names.{archive}
use Rattle.law_payloads.specs.AsRead.{last_moment}
use Rattle.cmd_report.specs.Addresses.{bare_address, full_address}
use Rattle.im_requests.specs.Messages.{submission_nodes}
use Rattle.cmd_schedule.specs.Contents.{Owned}
use Rattle.sim_3_items.specs.Built.{IsCopied, IsLive, IsPassed}
use Rattle.sim_3_items.proofs.FullAddresses.{full_normal}
use Rattle.sim_1_applications.specs.Devices.{Reading}
use Rattle.sim_1_applications.specs.Events.{hold, holds, quiet}
use Rattle.im_stamp.specs.Dates.{stamp_at}
use Rattle.im_stanza.specs.Views.{MessageView}
use Rattle.im_stanza.specs.Written.{IsNormal, message_elem}
use Rattle.sim_5_devices.proofs.Forwards.{carbon_again}
use Rattle.sim_5_devices.proofs.Names.{bare_normal}
use Rattle.sim_5_devices.proofs.Quiet.{live_itself, told_client, told_notes}
use Rattle.sim_5_devices.proofs.ClientSteps.{counted_client_step, message_client_step, quiet_read}
use Rattle.sim_5_devices.specs.Logged.{IsOnline, IsReadAs}
use Rattle.xml_trees.specs.Readers.{elements_of, first_named}
use Rattle.xml_trees.specs.Trees.{Elem, child, no_nodes}
use Rattle.xml_writer.specs.Items.{ItemOut, Whole}
use Rattle.base_lemmas.proofs.Bytes.{bytes_eq-self}

-- ---- what is inside a message that is passed on

module _ (by : List ℕ) (number : ℕ) where
  id_among : (origin said : List ℕ) (apart : Bool) → own_id by (elements_of (passed_nodes by (Some number) (submission_nodes origin said apart))) ≡ Some (id_of number)
  id_among origin said true = rw (bytes_eq-self by) refl
  id_among origin said false = rw (bytes_eq-self by) refl

  plain_inside : (origin said : List ℕ) (apart : Bool) → find is_carbon (elements_of (passed_nodes by (Some number) (submission_nodes origin said apart))) ≡ None
  plain_inside origin said true = refl
  plain_inside origin said false = refl

  module _ (m : MessageView) (submitted : IsSubmitted m) where
    inside : m.payload ≡ submission_nodes submitted.origin submitted.said submitted.apart
    inside = submitted.contains

    pub own_id_passed : own_id by (elements_of (passed_message by (Some number) m).payload) ≡ Some (id_of number)
    own_id_passed = ap (λ nodes. own_id by (elements_of (passed_nodes by (Some number) nodes))) inside ∙ id_among submitted.origin submitted.said submitted.apart

    pub passed_plainly : find is_carbon (elements_of (passed_message by (Some number) m).payload) ≡ None
    passed_plainly = ap (λ nodes. find is_carbon (elements_of (passed_nodes by (Some number) nodes))) inside ∙ plain_inside submitted.origin submitted.said submitted.apart

  no_result : (m : MessageView) → IsSubmitted m → first_named archive (codes "result") (passed_message by (Some number) m).payload ≡ None
  no_result m submitted =
      ap (λ nodes. first_named archive (codes "result") (passed_nodes by (Some number) nodes)) submitted.contains
      ∙ none submitted.origin submitted.said submitted.apart
    where
      none : (origin said : List ℕ) (apart : Bool) → first_named archive (codes "result") (passed_nodes by (Some number) (submission_nodes origin said apart)) ≡ None
      none origin said true = refl
      none origin said false = refl

-- ---- it is held

module _ (o : Owned) (keep : ℕ) (history : List EntryView) (d : ItemDevice) (s : SessionView ItemOut) (b : Reading) (is : IsOnline o keep history d s b) (n : ℕ) (numbered : IsEntryNumber n) where
  held_given : IsReadingGiven history (hold n b)
  held_given = record { logged = is.given.logged; page = is.given.page; held = by (holds n b) }
    where
      following : (hs : List ℕ) → AllByRecursion (λ m. m < 2 ^ 64) hs → AllByRecursion (λ m. m < 2 ^ 64) (hs ++ n ∷ [])
      following [] all = (numbered.fits, tt)
      following (h ∷ hs) all = (all.0, following hs all.1)

      by : (h : Bool) → AllByRecursion (λ m. m < 2 ^ 64) (if h then b.held else b.held ++ n ∷ [])
      by true = is.given.held
      by false = following b.held is.given.held

  held_read : (e : Elem) (live : Forwarded) (event : Option Event) → own_id (bare_address o.account) (elements_of live.message.payload) ≡ Some (id_of n)
      → client_step_on (Whole e) d ≡ tells_where (held_row (counted_client_step d.client s e) live) event → IsReadAs o keep history d s (Whole e) (quiet (hold n b)) (client_step_on (Whole e) d)
  held_read e live event own step =
      let c = (counted_client_step d.client s e).client in
      let found = ap (λ bare. own_id bare (elements_of live.message.payload)) is.bare ∙ own in
      let log = after_hold d.client.log (logged (id_of n) live.stamp live.message) in
      let client : (client_step_on (Whole e) d).client ≡ record c { log = log } =
      ap (λ (t : ClientStep ItemOut ItemOut). t.client) step ∙ told_client (held_row (counted_client_step d.client s e) live) event ∙ ap (held_by c live) found in
      let notes : (client_step_on (Whole e) d).out.notes ≡ Handled e ∷ [] = ap (λ (t : ClientStep ItemOut ItemOut). t.out.notes) step ∙ told_notes (held_row (counted_client_step d.client s e) live) event in
      quiet_read o keep history d s b is e (client_step_on (Whole e) d) log (hold n b) client notes
      (held_represents keep history d.client.log b is.log (logged (id_of n) live.stamp live.message) n refl numbered.fits is.given) held_given refl

  passed_live : (z : ItemOut) → IsPassed o n z → IsReadAs o keep history d s z (quiet (hold n b)) (client_step_on z d)
  passed_live z passed =
      let by = bare_address o.account in
      let m = passed_message by (Some n) passed.message in
      let e = message_elem m in
      let h = counted_client_step d.client s e in
      let event = bounce_of h.client m in
      let step : client_step_on (Whole e) d ≡ tells_where (held_row h (itself m)) event =
      message_client_step d.client s is.online is.session m passed.sender passed.addressee
      ∙ ap (message_with h m) (no_result by n passed.message passed.submission)
      ∙ ap (λ live. tells_where (held_row h live) event) (live_itself d.client.account.bare m (passed_plainly by n passed.message passed.submission)) in
      subst (λ z. IsReadAs o keep history d s z (quiet (hold n b)) (client_step_on z d)) (sym passed.is)
      (held_read e (itself m) event (own_id_passed by n passed.message passed.submission) step)

  -- a copy is from the account itself
  module _ (z : ItemOut) (copied : IsCopied o n z) where
    abbrev by : List ℕ
    by = bare_address o.account

    abbrev full : List ℕ
    full = full_address o.account o.device

    -- the message in it, with its moment
    abbrev within : Forwarded
    within = record { stamp = min copied.copy.moment last_moment; message = passed_message copied.copy.by copied.copy.number copied.copy.message }

    abbrev outside : MessageView
    outside = copy_message copied.copy full

    found_in : (sent : Bool) (e : Elem) → find is_carbon (elements_of (child (carbon_elem sent e) no_nodes)) ≡ Some (carbon_elem sent e)
    found_in true e = refl
    found_in false e = refl

    none_in : (sent : Bool) (e : Elem) → first_named archive (codes "result") (child (carbon_elem sent e) no_nodes) ≡ None
    none_in true e = refl
    none_in false e = refl

    own_copy : is_own d.client.account.bare outside.from ≡ true
    own_copy = ap₂ (λ from bare. bytes_eq from bare) copied.by is.bare ∙ bytes_eq-self by

    live_within : live_in d.client.account.bare outside ≡ within
    live_within =
        rw own_copy
        (ap (copied_in outside) (found_in copied.copy.sent (forwarded_elem (stamp_at copied.copy.moment) (passed_elem copied.copy.by copied.copy.number copied.copy.message)))
        ∙ ap (live_copied outside) (carbon_again copied.copy.moment within.message copied.sender copied.addressee copied.copy.sent))

    own_within : own_id by (elements_of within.message.payload) ≡ Some (id_of n)
    own_within =
        ap₂ (λ address number. own_id by (elements_of (passed_message address number copied.copy.message).payload)) copied.by copied.number
        ∙ own_id_passed by n copied.copy.message copied.submission

    copied_live : IsReadAs o keep history d s z (quiet (hold n b)) (client_step_on z d)
    copied_live =
        let e = copy_elem copied.copy full in
        let h = counted_client_step d.client s e in
        let event = bounce_of h.client outside in
        let from : IsNormal outside.from = subst (λ t. normal t ≡ Ok t) (sym copied.by) (bare_normal o.account is.account_named) in
        let to : IsNormal outside.to = full_normal o.account o.device is.account_named is.device_named in
        let inner = forwarded_elem (stamp_at copied.copy.moment) (passed_elem copied.copy.by copied.copy.number copied.copy.message) in
        let step : client_step_on (Whole e) d ≡ tells_where (held_row h within) event =
        message_client_step d.client s is.online is.session outside from to ∙ ap (message_with h outside) (none_in copied.copy.sent inner)
        ∙ ap (λ live. tells_where (held_row h live) event) live_within in
        subst (λ z. IsReadAs o keep history d s z (quiet (hold n b)) (client_step_on z d)) (sym copied.is) (held_read e within event own_within step)

pub live_read : (o : Owned) (keep : ℕ) (history : List EntryView) (d : ItemDevice) (s : SessionView ItemOut) (b : Reading) (is : IsOnline o keep history d s b) (n : ℕ) (z : ItemOut) → IsLive o n z
    → IsReadAs o keep history d s z (quiet (hold n b)) (client_step_on z d)
live_read o keep history d s b is n z (numbered, inl passed) = passed_live o keep history d s b is n numbered z passed
live_read o keep history d s b is n z (numbered, inr copied) = copied_live o keep history d s b is n numbered z copied
