-- A page whose end came is taken over, and behind one that isn't the last the next one is asked for.
use Rattle.std.proofs.Common.{◌≡◌, ℕ, ◌+◌, ◌<◌, ◌^◌, ◌==◌, Bool, true, false, ◌&&◌, ◌||◌, not, if◌then◌else◌, List, [], ◌∷◌, ◌++◌, Option, Some, Ok, refl, sym, ap, ap₂, subst, ◌∙◌, append_assoc, append-nil, arith}
use Rattle.std.proofs.lemmas.Bool.{and_parts, false≢true}
use Rattle.std.proofs.lemmas.List.Concat.{flat_map-append}
use Rattle.std.proofs.lemmas.Option.{none-some, same_Some}
use Rattle.std.specs.List.{AllByRecursion, flat_map}
use Rattle.std.specs.Option.{IfSome, option_map}
use Rattle.std.specs.Result.{result_ok}
use Rattle.mam_archive.specs.Entries.{EntryView}
use Rattle.mam_archive.specs.Ids.{id_of}
use Rattle.cl_core.specs.PageRows.{begins_page, next_queryid, page_done, page_ended, page_stanza, result_of_page}
use Rattle.cl_handlers.specs.Clients.{ClientStep}
use Rattle.cl_handlers.specs.Speech.{in_items}
use Rattle.cl_handlers.specs.ClientSteps.{ends, tells, with_log}
use Rattle.cl_handlers.specs.declared.events.Event.TheVariants.{PageDone}
use Rattle.cl_handlers.specs.declared.events.PeerFault.TheVariants.{Unacknowledged}
use Rattle.sim_3_items.specs.Reading.{client_step_on}
use Rattle.sim_3_items.proofs.PagesDown.{last_position}
use Rattle.sim_3_items.specs.Meant.{Fits, IsEntryNumber}
use Rattle.sim_3_items.specs.ItemWorlds.{ItemDevice}
use Rattle.mam_log.specs.LogPages.{last_id}
use Rattle.mam_log.specs.Views.{LogView, after_fin, outcome_of, with_begun}
use Rattle.mam_log.specs.declared.fin.PageOutcome.TheVariants.{Complete, More}
use Rattle.sim_1_applications.proofs.Tiles.{last_append}
use Rattle.sim_5_devices.proofs.LogReadingsEnds.{ends_well, over_represents}
use Rattle.sim_5_devices.proofs.Entries.{last_at}
use Rattle.sim_5_devices.proofs.LogReadingsSteps.{begun_represents}
use Rattle.sim_5_devices.specs.Shown.{AreGiven, IsFinOf, IsReadingGiven, LogRepresents, page_shown}
use Rattle.im_forwarding.specs.Results.{end_elem}
use Rattle.im_mam.specs.ArchiveAnswers.{fin_elem, fin_elem_without_index}
use Rattle.im_mam.specs.Readings.{fin_read}
use Rattle.sm_outbox.specs.Sessions.{SessionView, with_waiting}
use Rattle.sm_outbox.specs.Waiting.{counted_in, is_full}
use Rattle.mam_pages.specs.Cuts.{CutView, fin_of}
use Rattle.mam_pages.specs.declared.fin.Fin.{Fin}
use Rattle.law_payloads.proofs.FinReads.{fin_written, fin_written_without_index}
use Rattle.im_requests.specs.Messages.{page_item, queryid_text}
use Rattle.cmd_schedule.specs.Contents.{Owned}
use Rattle.sim_3_items.specs.Built.{IsEnd}
use Rattle.sim_1_applications.proofs.Lists.{all_filter}
use Rattle.sim_1_applications.specs.Answers.{last_in}
use Rattle.sim_1_applications.specs.Devices.{OpenPage, Reading, log_of}
use Rattle.sim_1_applications.specs.Events as events
use Rattle.sim_1_applications.specs.Events.{Around, Reaction, are_new, asking, is_broken, is_empty, is_number_among, over, quiet, same_position, with_page}
use Rattle.sim_1_applications.specs.Stanzas.{Request}
use Rattle.im_stanza.specs.Views.{IqView}
use Rattle.im_stanza.specs.Written.{IsNormal, iq_elem}
use Rattle.im_stanza.specs.declared.kinds.IqKind.TheVariants as iq
use Rattle.sim_5_devices.proofs.Faults.{page_well, taken_well}
use Rattle.sim_5_devices.proofs.Found.{both_given, number_given, results_given}
use Rattle.sim_5_devices.proofs.Restarts.{most_of, page_answers}
use Rattle.sim_5_devices.proofs.ClientSteps.{IsDone, asking_read, counted_client_step, iq_client_step, left_read, number_after, quiet_read, quietly}
use Rattle.sim_5_devices.specs.Logged.{IsCountOf, IsLeftAs, IsOnline, IsReadAs}
use Rattle.sim_5_devices.specs.Plain.{IsPlain}
use Rattle.xml_trees.specs.Trees.{Elem, child, no_nodes}
use Rattle.xml_writer.specs.Items.{ItemOut, Whole}

-- ---- what is read of an end

abbrev pub end : List ℕ → ℕ → ℕ → Bool → Fin
end ns index count complete = fin_of (record { numbers = ns; first_index = index; count = count; complete = complete; backward = false })

-- without an entry no place is told of a first one
abbrev pub read_end : List ℕ → ℕ → ℕ → Bool → Fin
read_end [] index count complete = end [] 0 count complete
read_end (n ∷ ns) index count complete = end (n ∷ ns) index count complete

-- the place of the first one, as it is read: 0 where it isn't told
abbrev pub told_position : Bool → ℕ → ℕ
told_position backward index = if backward then 0 else index

pub end_again : (backward : Bool) (ns : List ℕ) (index count : ℕ) (complete : Bool) → Fits index → Fits count →
    fin_read (if backward then fin_elem_without_index (end ns index count complete) else fin_elem (end ns index count complete)) ≡ Ok (read_end ns (told_position backward index) count complete)
end_again true [] index count complete index_fits count_fits = fin_written_without_index (end [] index count complete) count_fits
end_again true (n ∷ ns) index count complete index_fits count_fits = fin_written_without_index (end (n ∷ ns) index count complete) count_fits
end_again false [] index count complete index_fits count_fits = fin_written (end [] 0 count complete) (omega arith) count_fits (λ none. refl)
end_again false (n ∷ ns) index count complete index_fits count_fits = fin_written (end (n ∷ ns) index count complete) index_fits count_fits (λ none. absurd (none-some (id_of n) (sym none)))

pub end_is : (ns : List ℕ) (index count : ℕ) (complete : Bool) → IsFinOf (read_end ns index count complete) complete (last_in ns) count
end_is [] index count complete = record { complete = refl; last = refl; count = refl }
end_is (n ∷ ns) index count complete = record { complete = refl; last = ap (option_map id_of) (last_position (n ∷ ns)); count = refl }

last_fits : (ns : List ℕ) → AllByRecursion IsEntryNumber ns → (k : ℕ) → last_in ns ≡ Some k → k < 2 ^ 64
last_fits [] all k is = absurd (none-some k is)
last_fits (n ∷ []) all k is = subst (λ m. m < 2 ^ 64) (same_Some n k is) all.0.fits
last_fits (n ∷ m ∷ ns) all k is = last_fits (m ∷ ns) all.1 k is

-- ---- the reading behind the page

last_after : (xs ys : List ℕ) → not (is_empty ys) ≡ true → last_in (xs ++ ys) ≡ last_in ys
last_after xs [] some = absurd (false≢true some)
last_after xs (y ∷ ys) some = last_append xs y ys

last_numbered : (history : List EntryView) → IsPlain history → (ns : List ℕ) → AreGiven history ns → IfSome (last_in ns) IsEntryNumber
last_numbered history plain [] given = tt
last_numbered history plain (n ∷ []) given = number_given history plain n given.0
last_numbered history plain (n ∷ m ∷ ns) given = last_numbered history plain (m ∷ ns) given.1

module _ (a : Around) (complete : Bool) (count : ℕ) (page : OpenPage) (b : Reading) where
  log_after : log_of (over a complete count page b) ≡ log_of b ++ page.results
  log_after = by (is_broken page.after b.run page.results)
    where
      by : (way : Bool) → flat_map (λ run. run) (if way then b.broken ++ b.run ∷ [] else b.broken) ++ (if way then page.results else b.run ++ page.results) ≡ log_of b ++ page.results
      by true = ap (λ l. l ++ page.results) (flat_map-append (λ run. run) b.broken (b.run ∷ []) ∙ ap (λ l. flat_map (λ run. run) b.broken ++ l) (append-nil b.run))
      by false = sym (append_assoc (flat_map (λ run. run) b.broken) b.run page.results)

  -- where the page has an entry, its last one is that of the log, and of its last run
  last_of_both : not (is_empty page.results) ≡ true → last_in (log_of (over a complete count page b)) ≡ last_in (over a complete count page b).run
  last_of_both some = ap last_in log_after ∙ last_after (log_of b) page.results some ∙ sym (by (is_broken page.after b.run page.results))
    where
      by : (way : Bool) → last_in (if way then page.results else b.run ++ page.results) ≡ last_in page.results
      by true = refl
      by false = last_after b.run page.results some

  over_given : (history : List EntryView) → IsReadingGiven history b → AreGiven history page.results → IsReadingGiven history (over a complete count page b)
  over_given history given results = record {
    logged = subst (AreGiven history) (sym log_after) (both_given history (log_of b) page.results given.logged results);
    page = tt;
    held = all_filter (λ n. n < 2 ^ 64) (λ h. not (is_number_among h page.results)) b.held given.held;
  }

-- ---- the client

module _ (o : Owned) (keep : ℕ) (history : List EntryView) (d : ItemDevice) (s : SessionView ItemOut) (b : Reading) (is : IsOnline o keep history d s b) (plain : IsPlain history)
    (a : Around) (q : ℕ) (complete : Bool) (last : Option ℕ) (count : ℕ) (z : ItemOut) (built : IsEnd o q complete last count z) where
  abbrev cut : CutView
  cut = built.cut

  abbrev fin : Fin
  fin = read_end cut.numbers (told_position cut.backward cut.first_index) cut.count cut.complete

  fits : IsFinOf fin complete last count
  fits =
      let is_it = end_is cut.numbers (told_position cut.backward cut.first_index) cut.count cut.complete in record {
        complete = is_it.complete ∙ built.told.0;
        last = is_it.last ∙ ap (option_map id_of) built.told.1;
        count = is_it.count ∙ built.told.2;
      }

  small : (k : ℕ) → last ≡ Some k → k < 2 ^ 64
  small k is_it = last_fits cut.numbers built.page.entries k (built.told.1 ∙ is_it)

  abbrev v : IqView
  v = record { from = built.envelope.from; to = built.envelope.to; id = built.envelope.id; kind = iq.Result; payload = child (end_elem cut) no_nodes }

  abbrev e : Elem
  e = iq_elem v

  abbrev h : ClientStep ItemOut ItemOut
  h = counted_client_step d.client s e

  abbrev session : SessionView ItemOut
  session = with_waiting s (counted_in s.waiting)

  abbrev log : LogView
  log = after_fin d.client.log fin

  -- what the application asks of the end
  abbrev IsGood : OpenPage → Type 0
  IsGood page = (page.number == q && same_position last (last_in page.results) && are_new (log_of b) page.results && (complete || not (is_empty page.results))) ≡ true

  module _ (page : OpenPage) (there : b.page ≡ Some page) (total : IsCountOf keep a page count) (good : IsGood page) where
    abbrev next : Reading
    next = over a complete count page b

    same : (page.number == q) ≡ true
    same =
        let parts = and_parts (page.number == q && same_position last (last_in page.results) && are_new (log_of b) page.results) (complete || not (is_empty page.results)) good in
        let before = and_parts (page.number == q && same_position last (last_in page.results)) (are_new (log_of b) page.results) parts.0 in
        (and_parts (page.number == q) (same_position last (last_in page.results)) before.0).0

    represents : LogRepresents keep history log next
    represents = over_represents keep history d.client.log b is.log is.given page there a complete last count fin fits total

    given : IsReadingGiven history next
    given = over_given a complete count page b history is.given (results_given history b.page page there is.given.page)

    ended : client_step_on (Whole e) d ≡ page_done in_items h (page_shown history page) fin (outcome_of complete)
    ended =
        iq_client_step d.client s is.online is.session v (subst IsNormal (sym built.answer.from) tt) built.answer.to
        ∙ page_answers o keep history d s b is q page there same v e built.answer.from built.answer.id_is
        ∙ ap (λ read. result_of_page in_items h (page_shown history page) (result_ok read)) (end_again cut.backward cut.numbers cut.first_index cut.count cut.complete built.index built.page.count_fits)
        ∙ ap (page_ended in_items h (page_shown history page) fin) (ends_well keep history d.client.log b is.log is.given page there q complete last count fin fits small good)

    -- the last page
    last_one : complete ≡ true → IsReadAs o keep history d s z (quiet next) (client_step_on z d)
    last_one whole =
        let step : client_step_on (Whole e) d ≡ tells (with_log h log) (PageDone Complete) = ended ∙ ap (λ c. page_done in_items h (page_shown history page) fin (outcome_of c)) whole in
        subst (λ z. IsReadAs o keep history d s z (quiet next) (client_step_on z d)) (sym built.is)
        (quiet_read o keep history d s b is e (client_step_on (Whole e) d) log next (ap (λ (t : ClientStep ItemOut ItemOut). t.client) step) (ap (λ (t : ClientStep ItemOut ItemOut). t.out.notes) step) represents given refl)

    -- one behind which the next is asked for
    abbrev told : ClientStep ItemOut ItemOut
    told = tells (with_log h log) (PageDone More)

    abbrev asks : ClientStep ItemOut ItemOut
    asks = begins_page in_items told session page.max

    abbrev position : Option ℕ
    position = last_in (log_of next)

    abbrev gives_up : ClientStep ItemOut ItemOut
    gives_up = ends told Unacknowledged

    goes : complete ≡ false → client_step_on (Whole e) d ≡ (if is_full s.waiting then gives_up else asks)
    goes whole = ended ∙ ap (λ c. page_done in_items h (page_shown history page) fin (outcome_of c)) whole

    begun : LogRepresents keep history (with_begun log (next_queryid told) page.max) (asking position page.max a.last next).reading
    begun =
        subst (λ n. LogRepresents keep history (with_begun log (queryid_text n) page.max) (asking position page.max a.last next).reading) (sym (number_after o keep history d s b is e))
        (begun_represents keep history log next represents page.max a.last given.logged)

    abbrev asked : Request
    asked = record { number = b.asked + 1; after = position; max = page.max }

    one_more : complete ≡ false → is_full s.waiting ≡ false → IsReadAs o keep history d s z (asking position page.max a.last next) (client_step_on z d)
    one_more whole room =
        let step : client_step_on (Whole e) d ≡ asks = goes whole ∙ ap (λ full. if full then gives_up else asks) room in
        subst (λ z. IsReadAs o keep history d s z (asking position page.max a.last next) (client_step_on z d)) (sym built.is)
        (asking_read o keep history d s b is e (client_step_on (Whole e) d) (with_begun log (next_queryid told) page.max) (asking position page.max a.last next).reading asked
        (page_stanza in_items told (last_id log.entries) page.max)
        (ap₂ (λ n after. page_item (queryid_text n) after page.max) (number_after o keep history d s b is e) (ap last_id represents.entries ∙ last_at history (log_of next) given.logged))
        (ap (λ (t : ClientStep ItemOut ItemOut). t.client) step) (ap (λ (t : ClientStep ItemOut ItemOut). t.out.notes) step) begun
        (record { logged = given.logged; page = tt; held = given.held }) refl
        (record { number_fits = is.more; position = last_numbered history plain (log_of next) given.logged; max_fits = most_of b.page page there is.most }))

    left_there : complete ≡ false → is_full s.waiting ≡ true → IsLeftAs keep history d s z (asking position page.max a.last next) (client_step_on z d)
    left_there whole full =
        let step : client_step_on (Whole e) d ≡ gives_up = goes whole ∙ ap (λ full. if full then gives_up else asks) full in
        subst (λ z. IsLeftAs keep history d s z (asking position page.max a.last next) (client_step_on z d)) (sym built.is)
        (left_read o keep history d s b is e (client_step_on (Whole e) d) log (asking position page.max a.last next)
        (ap (λ (t : ClientStep ItemOut ItemOut). t.client) step) (ap (λ (t : ClientStep ItemOut ItemOut). t.out.notes) step)
        (record { entries = represents.entries; tiles = represents.tiles; page = represents.page; held = represents.held }) (record { logged = given.logged; page = tt; held = given.held }))

    -- the next page begins behind the last entry
    some_results : complete ≡ false → not (is_empty page.results) ≡ true
    some_results whole =
        ap (λ c. c || not (is_empty page.results)) (sym whole)
        ∙ (and_parts (page.number == q && same_position last (last_in page.results) && are_new (log_of b) page.results) (complete || not (is_empty page.results)) good).1

    abbrev reaction : Bool → Reaction
    reaction c = if c then quiet next else asking (last_in next.run) page.max a.last next

    either : (c : Bool) → complete ≡ c → IsDone o keep history d s z (reaction c) (client_step_on z d)
    either true whole = quietly o keep history d s z next (client_step_on z d) (last_one whole)
    either false whole =
        subst (λ after. IsDone o keep history d s z (asking after page.max a.last next) (client_step_on z d)) (last_of_both a complete count page b (some_results whole))
        (record { goes_on = one_more whole; leaves = λ r asks full. left_there whole full })

  pub end_comes : ((page : OpenPage) → b.page ≡ Some page → IsCountOf keep a page count) → (with_page (events.fin a q complete last count) b).reading.faulty ≡ false → IsDone o keep history d s z (with_page (events.fin a q complete last count) b) (client_step_on z d)
  end_comes total =
      page_well (λ x. IsDone o keep history d s z x (client_step_on z d)) b (events.fin a q complete last count)
      (λ page there. taken_well (λ x. IsDone o keep history d s z x (client_step_on z d)) b
      (page.number == q && same_position last (last_in page.results) && are_new (log_of b) page.results && (complete || not (is_empty page.results)))
      (if complete then quiet (over a complete count page b) else asking (last_in (over a complete count page b).run) page.max a.last (over a complete count page b))
      (λ good. either page there (total page there) good complete refl))
