-- What becomes of a request for the archive.
use Rattle.std.proofs.Common.{◌≡◌, ℕ, ◌+◌, ◌<◌, ◌^◌, Bool, true, false, List, [], ◌∷◌, ◌++◌, Option, Some, None, Ok, Err, length, is_some, refl, sym, ap, subst, ◌∙◌, arith, if◌then◌else◌}
use Rattle.std.specs.List.{AllByRecursion, flat_map}
use Rattle.std.specs.Option.{IfSome, option_map}
use Rattle.std.specs.Prelude.{nat_le}
use Rattle.mam_archive.specs.Entries.{EntryView}
use Rattle.mam_archive.specs.Ids.{id_of}
use Rattle.cl_core.specs.UserCalls.{catch_up_in, catches_up, catches_up_in, outbox_bound}
use Rattle.cl_core.specs.declared.faults.CatchUpStart.TheVariants as start
use Rattle.cl_handlers.specs.Clients.{ClientStep, ClientView}
use Rattle.cl_handlers.specs.Speech.{in_items}
use Rattle.sim_3_items.specs.Labels.{Says}
use Rattle.sim_3_items.specs.Reading.{noted}
use Rattle.sim_3_items.specs.Meant.{IsEntryNumber, requested}
use Rattle.sim_3_items.specs.ItemWorlds.{silent_client_step}
use Rattle.sim_5_devices.proofs.Entries.{last_at}
use Rattle.sim_5_devices.proofs.LogReadingsSteps.{begun_represents}
use Rattle.sim_5_devices.specs.Shown.{AreGiven, IsGiven, LogRepresents, page_shown, queryid_of}
use Rattle.mam_log.specs.LogPages.{last_id}
use Rattle.mam_log.specs.Views.{with_begun}
use Rattle.sm_outbox.specs.Sessions.{SessionView}
use Rattle.sm_outbox.specs.Submissions.{next_number}
use Rattle.im_requests.specs.Messages.{page_item}
use Rattle.cmd_schedule.specs.Contents.{Owned}
use Rattle.sim_3_items.specs.Built.{IsUpAs}
use Rattle.sim_3_items.specs.Submitted.{SubmissionsRepresent}
use Rattle.sim_1_applications.proofs.Lists.{all_rest}
use Rattle.sim_1_applications.proofs.Logs.{last_of_run}
use Rattle.sim_1_applications.proofs.Tiles.{last_append}
use Rattle.sim_1_applications.specs.Answers.{following, last_in}
use Rattle.sim_1_applications.specs.Devices.{Device, Reading, log_of}
use Rattle.sim_1_applications.specs.Events.{CatchUp, May, ask}
use Rattle.sim_1_applications.specs.Events as events
use Rattle.sim_1_applications.specs.Stanzas.{Query}
use Rattle.sim_5_devices.proofs.Puts.{request_told}
use Rattle.sim_5_devices.proofs.Shown.{stands}
use Rattle.sim_5_devices.specs.Told.{IsCatchingUp, SameSaid, next_request}
use Rattle.xml_writer.specs.Items.{ItemOut}
use Rattle.sim_5_devices.proofs.Saying.{next_is}
use Rattle.xml_framer.proofs.PlainTexts.{none_is}

-- the last number of all runs is that of the last one
same_last : (broken : List (List ℕ)) (run : List ℕ) → (run ≡ [] → broken ≡ []) → last_in (flat_map (λ r. r) broken ++ run) ≡ last_in run
same_last broken [] none = ap (λ (rs : List (List ℕ)). last_in (flat_map (λ r. r) rs ++ [])) (none refl)
same_last broken (n ∷ run) none = last_append (flat_map (λ r. r) broken) n run

all_last : (P : ℕ → Type 0) (xs : List ℕ) → AllByRecursion P xs → IfSome (last_in xs) P
all_last P [] all = tt
all_last P (n ∷ []) all = all.0
all_last P (n ∷ m ∷ xs) all = all_last P (m ∷ xs) all.1

no_page : {A B : Type 0} (f : A → B) (o : Option A) → option_map f o ≡ None → o ≡ None
no_page f None e = refl
no_page f (Some a) e = absurd (let no_way : ⊥ = cc in no_way)

module _ (keep : ℕ) (history : List EntryView) (c : ClientView ItemOut) (x : Device) (most : ℕ) (p : IsCatchingUp keep history c x most) where
  abbrev b : Reading
  b = x.reading

  page_number : next_number c.pages ≡ b.asked + 1
  page_number = next_is c.pages p.pages_fit ∙ ap (λ n. n + 1) p.pages

  log_last : last_in (log_of b) ≡ last_in b.run
  log_last = same_last b.broken b.run p.runs.none

  after_is : last_id c.log.entries ≡ option_map id_of (last_in b.run)
  after_is = ap last_id p.log.entries ∙ last_at history (log_of b) p.given.logged ∙ ap (option_map id_of) log_last

  abbrev request_put : ItemOut
  request_put = page_item (queryid_of (next_number c.pages)) (last_id c.log.entries) most

  request_is : request_put ≡ requested (next_request b most)
  request_is = λ i. page_item (queryid_of (page_number i)) (after_is i) most

  -- it is an entry's
  position_is : IfSome (last_in b.run) IsEntryNumber
  position_is = by b.run p.runs.is_run (all_rest (IsGiven history) (flat_map (λ r. r) b.broken) b.run p.given.logged)
    where
      by : (run : List ℕ) → run ≡ following p.runs.from (length run) → AreGiven history run → IfSome (last_in run) IsEntryNumber
      by [] is given = tt
      by (n ∷ run) is given =
          let last = last_of_run p.runs.from n run is in
          let small = subst (λ o. IfSome o (IsGiven history)) last (all_last (IsGiven history) (n ∷ run) given) in
          subst (λ o. IfSome o IsEntryNumber) (sym last) (record { some = omega arith; fits = small.small })

  pub request_built : (o : Owned) → IsUpAs o (Query (next_request b most)) (requested (next_request b most))
  request_built o = (
    refl,
    record {
      number_fits = subst (λ n. n + 1 < 2 ^ 64) p.pages p.pages_fit;
      position = position_is;
      max_fits = let few = p.few in omega (arith, few);
    },
  )

  record IsAsking (t : ClientStep ItemOut ItemOut) : Type 0 where
    represents : (began : ℕ) → SubmissionsRepresent t.client (ask (last_in b.run) most began x).sessions
    log : (began : ℕ) → LogRepresents keep history t.client.log (ask (last_in b.run) most began x).reading
    pages : t.client.pages ≡ b.asked + 1
    same : SameSaid c t.client
    account : t.client.account ≡ c.account
    put : noted t.out.notes ≡ Says (requested (next_request b most)) ∷ []
    may : May (CatchUp most) x

  asking : (s : SessionView ItemOut) → c.session ≡ Some s → is_some c.log.page ≡ false → IsAsking (catches_up_in in_items (silent_client_step c) (Some s) most)
  asking s is free = record {
    represents = λ began. request_told c e x.sessions s request_put (next_request b most) p.represents p.acked same is refl;
    log = λ began. begun began;
    pages = page_number;
    same = same;
    account = refl;
    put = ap (λ z. Says z ∷ []) request_is;
    may = ((stands c x.sessions s is p.represents).online, no_open, p.some, p.few);
  }
    where
      e : ClientView ItemOut
      e = (catches_up_in in_items (silent_client_step c) (Some s) most).client

      same : SameSaid c e
      same = record { epoch = refl; n = refl; said = refl }

      begun : (began : ℕ) → LogRepresents keep history e.log (ask (last_in b.run) most began x).reading
      begun began =
          subst (λ k. LogRepresents keep history (with_begun c.log (queryid_of k) most) (ask (last_in b.run) most began x).reading) (sym page_number)
          (subst (λ after. LogRepresents keep history (with_begun c.log (queryid_of (b.asked + 1)) most) (events.asking after most began b).reading) log_last
          (begun_represents keep history c.log b p.log most began p.given.logged))

      no_open : b.page ≡ None
      no_open = no_page (page_shown history) b.page (sym p.log.page ∙ none_is c.log.page free)

  by : (session : Option (SessionView ItemOut)) → c.session ≡ session → catch_up_in c session ≡ Ok tt → IsAsking (catches_up_in in_items (silent_client_step c) session most)
  by None is e = absurd (let no_way : ⊥ = cc in no_way)
  by (Some s) is e = within (nat_le outbox_bound (length s.waiting.queue)) (is_some c.log.page) tt refl e
    where
      within : (full busy : Bool) (done : Unit {0}) → is_some c.log.page ≡ busy → (if full then Err start.OutboxFull else (if busy then Err start.Underway else Ok done)) ≡ Ok done → IsAsking (catches_up_in in_items (silent_client_step c) (Some s) most)
      within true busy done at e = absurd (let no_way : ⊥ = cc in no_way)
      within false true done at e = absurd (let no_way : ⊥ = cc in no_way)
      within false false done at e = asking s is at

  asked : IsAsking (catches_up in_items (silent_client_step c) most)
  asked = by c.session refl p.taken

  pub asks_represents : (began : ℕ) → SubmissionsRepresent (catches_up in_items (silent_client_step c) most).client (ask (last_in b.run) most began x).sessions
  asks_represents = asked.represents

  pub asks_log : (began : ℕ) → LogRepresents keep history (catches_up in_items (silent_client_step c) most).client.log (ask (last_in b.run) most began x).reading
  asks_log = asked.log

  pub asks_pages : (catches_up in_items (silent_client_step c) most).client.pages ≡ b.asked + 1
  asks_pages = asked.pages

  pub asks_same : SameSaid c (catches_up in_items (silent_client_step c) most).client × ((catches_up in_items (silent_client_step c) most).client.account ≡ c.account)
  asks_same = (asked.same, asked.account)

  pub asks_put : noted (catches_up in_items (silent_client_step c) most).out.notes ≡ Says (requested (next_request b most)) ∷ []
  asks_put = asked.put

  pub asks_may : May (CatchUp most) x
  asks_may = asked.may
