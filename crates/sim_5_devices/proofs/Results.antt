-- A result comes to the open page as the entry that it is of.
use Rattle.std.proofs.Common.{◌≡◌, ℕ, ◌==◌, min, nat_le, nat_lt, true, false, ◌&&◌, if◌then◌else◌, List, [], ◌∷◌, ◌++◌, Some, None, Ok, length, refl, sym, ap, ap₂, subst, ◌∙◌, arith}
use Rattle.std.proofs.lemmas.Bool.{and_parts, lt-leb, ltb-true}
use Rattle.std.proofs.lemmas.Bool.Decides.{Decides-eqb}
use Rattle.std.specs.Option.{option_map}
use Rattle.std.specs.Str.{bytes_eq}
use Rattle.mam_archive.specs.Entries.{EntryView}
use Rattle.mam_archive.specs.Ids.{id_of}
use Rattle.cl_core.specs.Steps.{stanza_row}
use Rattle.cl_handlers.specs.Clients.{ClientStep}
use Rattle.cl_handlers.specs.MessageRows.{is_own_or_absent, logged, other_message, result_row, result_to}
use Rattle.cl_handlers.specs.Speech.{in_items}
use Rattle.cl_handlers.specs.ClientSteps.{with_log}
use Rattle.sim_3_items.specs.Reading.{client_step_on}
use Rattle.cmd_direct.specs.Direct.{as_logged}
use Rattle.im_forwarding.proofs.EntryLaws.{entry_again}
use Rattle.im_forwarding.specs.Results.{archived_message, archived_result, entry_elem}
use Rattle.sim_3_items.proofs.TextsTold as told
use Rattle.sim_3_items.specs.ItemWorlds.{ItemDevice}
use Rattle.mam_log.specs.Views.{page_for, with_result}
use Rattle.sim_5_devices.proofs.Entries.{length_at}
use Rattle.sim_5_devices.proofs.LogReadingsSteps.{result_represents}
use Rattle.sim_5_devices.specs.Shown.{AreGiven, IsGiven, LogRepresents, page_shown}
use Rattle.im_mam.specs.Readings.{result_read, result_with}
use Rattle.im_mam.specs.declared.archive_answers.MamResult.{MamResult}
use Rattle.im_messages.specs.Entries.{entry_of}
use Rattle.sm_outbox.specs.Sessions.{SessionView}
use Rattle.law_payloads.specs.AsRead.{last_moment}
use Rattle.cmd_report.specs.Addresses.{bare_address, full_address}
use Rattle.im_requests.specs.Messages.{queryid_text}
use Rattle.cmd_schedule.specs.Contents.{Owned}
use Rattle.sim_3_items.specs.Built.{IsResult, asker_for}
use Rattle.sim_3_items.proofs.FullAddresses.{full_normal}
use Rattle.sim_1_applications.specs.Devices.{OpenPage, Reading}
use Rattle.sim_1_applications.specs.Events.{passed, quiet, result, with_page}
use Rattle.sim_5_devices.proofs.Faults.{page_well, taken_well}
use Rattle.sim_5_devices.proofs.Forwards.{forward_again}
use Rattle.sim_5_devices.proofs.Found.{both_given, found_entry, results_given}
use Rattle.sim_5_devices.proofs.Names.{bare_normal}
use Rattle.sim_5_devices.proofs.Stanzas.{archived, archived_read}
use Rattle.sim_5_devices.proofs.ClientSteps.{IsDone, counted_client_step, quiet_read, quietly, read_online}
use Rattle.sim_5_devices.specs.Logged.{IsOnline, IsReadAs}
use Rattle.sim_5_devices.specs.Plain.{IsPlain, IsPlainEntry}
use Rattle.xml_trees.specs.Trees.{Elem}
use Rattle.xml_writer.specs.Items.{ItemOut, Whole}
use Rattle.base_lemmas.proofs.Bytes.{bytes_eq-self}

-- ---- what is read of a result

-- the result of an entry to the request with a number
abbrev pub read_result : ℕ → EntryView → MamResult
read_result q e = record { queryid = queryid_text q; id = id_of e.number; forwarded = record { stamp = min e.stamp last_moment; message = archived_message e } }

pub result_again : (q : ℕ) (e : EntryView) → IsPlainEntry e → result_read (archived_result (queryid_text q) e) ≡ Ok (read_result q e)
result_again q e plain = ap (result_with (queryid_text q) (Some (id_of e.number))) (forward_again e.stamp (archived_message e) plain.sender plain.addressee None)

-- it is logged as the entry
pub logged_again : (e : EntryView) → IsPlainEntry e → logged (id_of e.number) (min e.stamp last_moment) (archived_message e) ≡ as_logged e
logged_again e plain =
    let number = told.entry_again e.number plain.number in
    let low = plain.moment in
    let moment : min e.stamp last_moment ≡ e.stamp = omega (arith, low) in
    ap₂ (λ n stamp. record { id = id_of e.number; entry = entry_of n stamp (archived_message e) }) number moment ∙ ap (λ entry. record { id = id_of e.number; entry = entry }) (entry_again e)

-- the open page is found by the number of its request
pub page_found : (history : List EntryView) (page : OpenPage) (q : ℕ) → (page.number == q) ≡ true → page_for (queryid_text q) (Some (page_shown history page)) ≡ Some (page_shown history page)
page_found history page q same =
    ap (λ n. page_for (queryid_text n) (Some (page_shown history page))) (sym ((Decides-eqb page.number q).0 same)) ∙ rw (bytes_eq-self (queryid_text page.number)) refl

not_full : (max n : ℕ) → nat_lt n max ≡ true → nat_le max n ≡ false
not_full max n below = lt-leb max n (ltb-true n max below)

module _ (o : Owned) (keep : ℕ) (history : List EntryView) (d : ItemDevice) (s : SessionView ItemOut) (b : Reading) (is : IsOnline o keep history d s b) (plain : IsPlain history)
    (q n : ℕ) (z : ItemOut) (built : IsResult o history q n z) where
  abbrev entry : EntryView
  entry = built.entry

  found : IsPlainEntry entry × (entry.number ≡ n)
  found = found_entry n history plain entry built.there

  abbrev given : IsGiven history n
  given = record { entry = entry; there = built.there; number = found.1; small = built.numbered.fits }

  abbrev e : Elem
  e = entry_elem (asker_for o q) entry

  abbrev h : ClientStep ItemOut ItemOut
  h = counted_client_step d.client s e

  abbrev bare : List ℕ
  bare = bare_address o.account

  abbrev full : List ℕ
  full = full_address o.account o.device

  own_one : is_own_or_absent d.client.account.bare (Some bare) ≡ true
  own_one = ap (λ own. bytes_eq bare own) is.bare ∙ bytes_eq-self bare

  -- the client looks for the page
  looks_for : client_step_on (Whole e) d ≡ result_to h (page_for (queryid_text q) d.client.log.page) (as_logged entry)
  looks_for =
      let result = archived_result (queryid_text q) entry in
      let sender = bare_normal o.account is.account_named in
      let addressee = full_normal o.account o.device is.account_named is.device_named in
      let m = archived bare full result sender addressee in
      read_online d.client s is.online is.session e refl refl
      ∙ ap (stanza_row in_items h) (archived_read bare full result sender addressee)
      ∙ ap (λ own. if own then result_row h (result_read result) else other_message h m) own_one
      ∙ ap (result_row h) (result_again q entry found.0)
      ∙ ap (result_to h (page_for (queryid_text q) d.client.log.page)) (logged_again entry found.0)

  abbrev following : OpenPage → Reading
  following page = record b { page = Some (record page { results = page.results ++ n ∷ []; answer = option_map passed page.answer }) }

  module _ (page : OpenPage) (there : b.page ≡ Some page) (same : (page.number == q) ≡ true) (position : nat_lt (length page.results) page.max ≡ true) where
    results : AreGiven history page.results
    results = results_given history b.page page there is.given.page

    takes : client_step_on (Whole e) d ≡ with_log h (with_result d.client.log (as_logged entry))
    takes =
        looks_for
        ∙ ap (λ page. result_to h page (as_logged entry)) (ap (page_for (queryid_text q)) (is.log.page ∙ ap (option_map (page_shown history)) there) ∙ page_found history page q same)
        ∙ rw (ap (nat_le page.max) (length_at history page.results results) ∙ not_full page.max (length page.results) position) refl

    represents : LogRepresents keep history (with_result d.client.log (as_logged entry)) (following page)
    represents = (let other = result_represents keep history d.client.log b is.log n page given there in record { entries = other.entries; tiles = other.tiles; page = other.page; held = other.held })

    taken : IsReadAs o keep history d s z (quiet (following page)) (client_step_on z d)
    taken =
        subst (λ z. IsReadAs o keep history d s z (quiet (following page)) (client_step_on z d)) (sym built.is)
        (quiet_read o keep history d s b is e (client_step_on (Whole e) d) (with_result d.client.log (as_logged entry)) (following page)
        (ap (λ (t : ClientStep ItemOut ItemOut). t.client) takes) (ap (λ (t : ClientStep ItemOut ItemOut). t.out.notes) takes) represents
        (record { logged = is.given.logged; page = both_given history page.results (n ∷ []) results (given, tt); held = is.given.held }) refl)

  pub result_comes : (with_page (result q n) b).reading.faulty ≡ false → IsDone o keep history d s z (with_page (result q n) b) (client_step_on z d)
  result_comes =
      page_well (λ x. IsDone o keep history d s z x (client_step_on z d)) b (result q n)
      (λ page there. taken_well (λ x. IsDone o keep history d s z x (client_step_on z d)) b (page.number == q && nat_lt (length page.results) page.max) (quiet (following page))
      (λ good. (let parts = and_parts (page.number == q) (nat_lt (length page.results) page.max) good in quietly o keep history d s z (following page) (client_step_on z d) (taken page there parts.0 parts.1))))
