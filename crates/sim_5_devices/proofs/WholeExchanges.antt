-- A catch-up of client and server over a session, answer by answer.
use Rattle.std.proofs.Common.{◌≡◌, ℕ, zero, suc, ◌+◌, ◌-◌, ◌<◌, ◌≤◌, ◌^◌, ◌==◌, min, leb, Bool, true, false, List, [], ◌∷◌, ◌++◌, Option, Some, None, Ok, length, map, refl, sym, ap, ap₂, subst, ◌∙◌, ◌⊎◌, arith, inl, inr, append_assoc, ne_eqb, if◌then◌else◌}
use Rattle.std.proofs.lemmas.Bool.{false≢true}
use Rattle.std.proofs.lemmas.Option.{same_Some}
use Rattle.std.specs.List.{AllByRecursion}
use Rattle.std.specs.Option.{IsSome, option_map}
use Rattle.std.specs.Result.{result_ok}
use Rattle.cl_core.specs.PageRows.{begins_page, page_answered, page_done, page_ended, page_stanza, result_of_page}
use Rattle.cl_core.specs.Steps.{handles}
use Rattle.cl_core.specs.UserCalls.{catches_up, catches_up_in}
use Rattle.cl_handlers.specs.Clients.{ClientStep, ClientView}
use Rattle.cl_handlers.specs.Speech.{in_items}
use Rattle.cl_handlers.specs.ClientSteps.{ends, tells, with_log}
use Rattle.cl_handlers.specs.declared.account.Account.{Account}
use Rattle.cl_handlers.specs.declared.events.Event.TheVariants.{PageDone}
use Rattle.cl_handlers.specs.declared.events.PeerFault.TheVariants.{Unacknowledged}
use Rattle.cl_handlers.specs.declared.phase.Phase.TheVariants.{Online}
use Rattle.cmd_direct.specs.Direct.{as_logged}
use Rattle.im_forwarding.specs.Results.{end_elem, entry_item, fin_item}
use Rattle.im_jid.specs.Normal.{normal}
use Rattle.im_requests.specs.Messages.{page_item, queryid_text}
use Rattle.im_stanza.specs.Views.{IqView}
use Rattle.im_stanza.specs.Written.{iq_elem}
use Rattle.im_stanza.specs.declared.kinds.IqKind.TheVariants as iq
use Rattle.law_client.specs.CatchUps.{from_id, pages_for}
use Rattle.mam_archive.specs.Entries.{EntryView}
use Rattle.mam_archive.specs.Ids.{id_of}
use Rattle.mam_log.specs.LogPages.{ids_of, last_id}
use Rattle.mam_log.specs.Views.{LogView, OpenPage, after_fin, first_repeat, is_among, outcome_of, page_for, with_page}
use Rattle.mam_log.specs.declared.fin.PageOutcome.TheVariants.{More}
use Rattle.mam_log.specs.declared.log_entry.LogEntry.{LogEntry}
use Rattle.mam_log.specs.declared.tile.Tile.{Tile}
use Rattle.mam_pages.proofs.Behind.{length-numbers_after}
use Rattle.mam_pages.proofs.CutViews.{view}
use Rattle.mam_pages.specs.Cuts.{CutView}
use Rattle.mam_pages.specs.Kept.{kept_by}
use Rattle.mam_pages.specs.Spans.{numbers_after}
use Rattle.mam_pages.specs.declared.fin.Fin.{Fin}
use Rattle.sim_1_applications.specs.Answers.{last_in}
use Rattle.sim_1_applications.specs.Reported.{entries_at}
use Rattle.sim_5_devices.proofs.AnswersSent.{answers_are, asker, envelope}
use Rattle.sim_5_devices.proofs.AnswersTaken.{IsAlong, all_along, iq_comes, page_found, taken_both}
use Rattle.sim_5_devices.proofs.Entries.{at_both, at_first, ids_at, last_at, length_at, logged_at}
use Rattle.sim_5_devices.proofs.Found.{found_entry}
use Rattle.sim_5_devices.proofs.LogsEnds.{end_again, end_is, read_end}
use Rattle.sim_5_devices.proofs.PagesCut.{IsPageOf, all_given, page_cut}
use Rattle.sim_5_devices.proofs.PagesEnded.{after_is, end_is_well, goes_or_ends, last_after, last_of_both, no_repeat, still_unlogged}
use Rattle.sim_5_devices.specs.Exchanges.{Between, HasAsked, HasPlace, IsArchive, IsCaughtUp, Lacks, Serves, TakesAnswers, answers_to, last_of, last_put, taken, tiles_behind}
use Rattle.sim_5_devices.specs.Plain.{IsPlain, IsPlainEntry}
use Rattle.sim_5_devices.specs.Shown.{AreGiven, IsFinOf}
use Rattle.sm_acks.specs.declared.end.TheConstants.{MOST_UNACKNOWLEDGED}
use Rattle.sm_live.specs.declared.told.SessionInfo.{SessionInfo}
use Rattle.sm_outbox.specs.Sessions.{SessionView, with_waiting}
use Rattle.sm_outbox.specs.Waiting.{counted_in, is_full, queued}
use Rattle.srv_state.specs.State.{Kept, ServerState}
use Rattle.xml_trees.specs.Trees.{child, no_nodes}
use Rattle.xml_writer.specs.Items.{ItemOut}
use Rattle.law_client.proofs.CaughtUp.{more_left, all_taken, one_page, next_page}

-- ---- numbers

one_more : (last base most : ℕ) → 1 ≤ most → most < last - base → pages_for (last - base) most ≡ suc (pages_for (last - (base + most)) most)
one_more last base most some more =
    let left : last - base - most ≡ last - (base + most) = omega arith in
    next_page (last - base) most some more ∙ ap (λ n. suc (pages_for n most)) left

-- the numbers behind one, cut behind the first so many
behind_both : (b m n : ℕ) → numbers_after b (m + n) ≡ numbers_after b m ++ numbers_after (b + m) n
behind_both b zero n = let none : zero + n ≡ n = omega arith in let same : b + zero ≡ b = omega arith in rw (none, same) refl
behind_both b (suc m) n =
    let sum : suc m + n ≡ suc (m + n) = omega arith in
    let next : suc b + m ≡ b + suc m = omega arith in
    ap (numbers_after b) sum ∙ ap (λ ns. suc b ∷ ns) (behind_both (suc b) m n ∙ ap (λ k. numbers_after (suc b) m ++ numbers_after k n) next)

last_number : (b n : ℕ) → 1 ≤ n → last_in (numbers_after b n) ≡ Some (b + n)
last_number b zero some = absurd (omega arith)
last_number b (suc n) some = last_after b n

plain_at : (entries : List EntryView) (ns : List ℕ) → IsPlain entries → AreGiven entries ns → AllByRecursion IsPlainEntry (entries_at entries ns)
plain_at entries [] plain given = tt
plain_at entries (n ∷ ns) plain given =
    subst (AllByRecursion IsPlainEntry) (sym (at_first entries n ns given.0)) ((found_entry n entries plain given.0.entry given.0.there).0, plain_at entries ns plain given.1)

last_more : (zs : List ItemOut) (z : ItemOut) → last_of (zs ++ z ∷ []) ≡ Some z
last_more [] z = refl
last_more (y ∷ []) z = refl
last_more (y ∷ x ∷ zs) z = last_more (x ∷ zs) z

-- ---- one answer

-- the next request is put
record Asks (bare : List ℕ) (most : ℕ) (queue : List ItemOut) (w : ClientStep ItemOut ItemOut) : Type 0 where
  stanza : ItemOut
  put : last_put w.client.session ≡ Some stanza
  asked : HasAsked bare most stanza w
  session : SessionView ItemOut
  stands : w.client.session ≡ Some session
  waits : session.waiting.queue ≡ queue ++ stanza ∷ []

-- the entries and the tile of the page behind a number
abbrev page_at : Kept → ℕ → ℕ → ℕ → List LogEntry
page_at kept last most base = logged_at kept.entries (numbers_after base (min (last - base) most))

abbrev tile_at : ℕ → ℕ → ℕ → ℕ → Option (List ℕ) → Tile
tile_at first last most base after = record { after = after; count = min (last - base) most; complete = leb (last - base) most; total = last - (first - 1) }

-- what the client is behind an answer
record Answered (bare : List ℕ) (kept : Kept) (first last most base : ℕ) (c : ClientView ItemOut) (queue : List ItemOut) (w : ClientStep ItemOut ItemOut) : Type 0 where
  account : w.client.account ≡ c.account
  online : w.client.phase ≡ Online
  entries : w.client.log.entries ≡ c.log.entries ++ page_at kept last most base
  tiles : w.client.log.tiles ≡ c.log.tiles ++ tile_at first last most base (last_id c.log.entries) ∷ []
  whole : leb (last - base) most ≡ true → w.client.log.page ≡ None
  asks : leb (last - base) most ≡ false → Asks bare most queue w

module _ (bare full : List ℕ) (kept : Kept) (first last most : ℕ) (bare_normal : normal bare ≡ Ok bare) (full_normal : normal full ≡ Ok full) (archive : IsArchive first last kept) (some : 1 ≤ most) (small : most ≤ 100) where
  abbrev Ends : ℕ → ClientView ItemOut → List ItemOut → ClientStep ItemOut ItemOut → Type 0
  Ends base c queue w = Answered bare kept first last most base c queue w

  module _ (base : ℕ) (z : ItemOut) (t : ClientStep ItemOut ItemOut) (told : SessionInfo) (h : ServerState ItemOut) (asked : HasAsked bare most z t) (position : HasPlace t) (lacks : Lacks first last base t.client.log)
      (serves : Serves bare full kept told h) where
    abbrev c : ClientView ItemOut
    c = t.client

    abbrev queue : List ItemOut
    queue = position.session.waiting.queue

    abbrev q : ℕ
    q = c.pages

    abbrev after : Option (List ℕ)
    after = last_id c.log.entries

    abbrev count : ℕ
    count = min (last - base) most

    abbrev complete : Bool
    complete = leb (last - base) most

    abbrev ns : List ℕ
    ns = numbers_after base count

    abbrev es : List EntryView
    es = entries_at kept.entries ns

    abbrev rs : List LogEntry
    rs = map as_logged es

    page : IsPageOf (kept_by kept.owner kept.entries) after most first last base
    page = page_cut (kept_by kept.owner kept.entries) after most first last base archive.numbered archive.fits small lacks.follow

    within : base + count ≤ last
    within = (let end = page.end in omega (arith, end))

    given : AreGiven kept.entries ns
    given = all_given first last base count kept.entries archive.numbered archive.fits page.start within

    abbrev cut : CutView
    cut = view ns page.index (last - (first - 1)) complete false

    abbrev opened : OpenPage
    opened = record { queryid = queryid_text q; max = most; after = after; results = [] }

    abbrev v : IqView
    v = record { from = None; to = Some full; id = queryid_text q; kind = iq.Result; payload = child (end_elem cut) no_nodes }

    answers : answers_to z told h ≡ map (entry_item (asker bare full q)) es ++ fin_item (envelope full q) cut ∷ []
    answers = ap (λ x. answers_to x told h) asked.stanza ∙ answers_are bare full kept told h q most after cut serves small page.is given

    size : length rs ≡ count
    size = length_at kept.entries ns given ∙ length-numbers_after base count

    abbrev u : ClientStep ItemOut ItemOut
    u = taken t (map (entry_item (asker bare full q)) es)

    along : IsAlong c opened queue rs u
    along =
        let is = size in
        all_along bare full bare_normal full_normal c opened queue q asked.bare_is refl es t []
        (record { account = refl; online = asked.online; pages = refl; session = position.session; stands = position.stands; waits = refl; entries = refl; tiles = refl; page_is = asked.page })
        (omega (arith, is)) (plain_at kept.entries ns archive.plain given)

    abbrev fin : Fin
    fin = read_end ns page.index (last - (first - 1)) complete

    fin_is : IsFinOf fin complete (last_in ns) (last - (first - 1))
    fin_is = end_is ns page.index (last - (first - 1)) complete

    abbrev whole_page : OpenPage
    whole_page = record opened { results = rs }

    abbrev x : ClientStep ItemOut ItemOut
    x = handles in_items u along.session (iq_elem v)

    index_fits : page.index < 2 ^ 64
    index_fits = (let low = page.index_low in let few = archive.fits in omega (arith, low, few))

    count_fits : last - (first - 1) < 2 ^ 64
    count_fits = (let few = archive.fits in omega (arith, few))

    none_repeats : first_repeat (ids_of u.client.log.entries) (ids_of rs) ≡ None
    none_repeats =
        let few = archive.fits in
        let high = within in
        ap₂ (λ l ids. first_repeat (ids_of l) ids) along.entries (ids_at kept.entries ns given)
        ∙ no_repeat (ids_of c.log.entries) base count (omega (arith, few, high)) (λ k above below. lacks.unlogged k above (omega (arith, below, high)))

    some_come : complete ≡ false → 1 ≤ count
    some_come less = (let more = more_left (last - base) most less in omega (arith, more, some))

    -- the end is taken
    ended : taken t (answers_to z told h) ≡ page_done in_items x whole_page fin (outcome_of complete)
    ended =
        ap (taken t) answers ∙ taken_both t (map (entry_item (asker bare full q)) es) (fin_item (envelope full q) cut ∷ [])
        ∙ iq_comes u along.session v along.online along.stands tt full_normal
        ∙ ap (page_answered in_items x v) (ap (page_for (queryid_text q)) along.page_is ∙ page_found whole_page (queryid_text q) refl)
        ∙ ap (λ r. result_of_page in_items x whole_page (result_ok r)) (end_again false ns page.index (last - (first - 1)) complete index_fits count_fits)
        ∙ ap (page_ended in_items x whole_page fin)
        (end_is_well u.client.log whole_page fin complete fin_is.complete (fin_is.last ∙ sym (last_at kept.entries ns given)) none_repeats (goes_or_ends whole_page complete count size some_come))

    abbrev log : LogView
    log = after_fin u.client.log fin

    log_is : log ≡ with_page u.client.log whole_page fin
    log_is = after_is u.client.log whole_page fin along.page_is

    entries_are : log.entries ≡ c.log.entries ++ page_at kept last most base
    entries_are = ap (λ (l : LogView). l.entries) log_is ∙ ap (λ l. l ++ rs) along.entries

    abbrev told_tile : ℕ → Bool → ℕ → Tile
    told_tile n b k = record { after = after; count = n; complete = b; total = k }

    tile_is : told_tile (length rs) fin.complete fin.count ≡ told_tile count complete (last - (first - 1))
    tile_is = λ i. told_tile (size i) (fin_is.complete i) (fin_is.count i)

    tiles_are : log.tiles ≡ c.log.tiles ++ tile_at first last most base after ∷ []
    tiles_are = ap (λ (l : LogView). l.tiles) log_is ∙ ap₂ (λ l o. l ++ o ∷ []) along.tiles tile_is

    abbrev asking : ClientStep ItemOut ItemOut
    asking = tells (with_log x log) (PageDone More)

    abbrev session : SessionView ItemOut
    session = with_waiting along.session (counted_in along.session.waiting)

    room : is_full along.session.waiting ≡ false
    room = ap (λ (zs : List ItemOut). length zs == MOST_UNACKNOWLEDGED) along.waits ∙ position.position

    answered : Ends base c queue (taken t (answers_to z told h))
    answered = by complete refl
      where
        by : (b : Bool) → complete ≡ b → Ends base c queue (taken t (answers_to z told h))
        by true all =
            subst (Ends base c queue) (sym (ended ∙ ap (λ b. page_done in_items x whole_page fin (outcome_of b)) all))
            (record {
              account = along.account;
              online = along.online;
              entries = entries_are;
              tiles = tiles_are;
              whole = λ is. ap (λ (l : LogView). l.page) log_is;
              asks = λ less. absurd (false≢true (sym less ∙ all));
            })
        by false less =
            let next = begins_page in_items asking session most in
            let stanza = page_stanza in_items asking (last_id log.entries) most in
            subst (Ends base c queue)
            (sym (ended ∙ ap (λ b. page_done in_items x whole_page fin (outcome_of b)) less ∙ ap (λ full. if full then ends asking Unacknowledged else next) room))
            (record {
              account = along.account;
              online = along.online;
              entries = entries_are;
              tiles = tiles_are;
              whole = λ all. absurd (false≢true (sym less ∙ all));
              asks = λ is. record {
                stanza = stanza;
                put = last_more along.session.waiting.queue stanza;
                asked = record { bare_is = ap (λ (a : Account). a.bare) along.account ∙ asked.bare_is; online = along.online; page = refl; stanza = refl };
                session = with_waiting session (queued session.waiting stanza false);
                stands = refl;
                waits = ap (λ zs. zs ++ stanza ∷ []) along.waits;
              };
            })

  -- ---- what follows it

  -- the request of a client that did no more between
  still_asked : (y : ItemOut) (w x : ClientStep ItemOut ItemOut) → HasAsked bare most y w → Between w x → HasAsked bare most y x
  still_asked y w x asked between =
      let entries : w.client.log.entries ≡ x.client.log.entries = ap (λ (l : LogView). l.entries) (sym between.log) in
      record {
        bare_is = ap (λ (a : Account). a.bare) between.account ∙ asked.bare_is;
        online = between.online;
        page =
            ap (λ (l : LogView). l.page) between.log ∙ asked.page
            ∙ ap₂ (λ n es. Some (record { queryid = queryid_text n; max = most; after = last_id es; results = [] })) (sym between.pages) entries;
        stanza = asked.stanza ∙ ap₂ (λ n es. page_item (queryid_text n) (last_id es) most) (sym between.pages) entries;
      }

  module _ (base : ℕ) (old : LogView) (lacks : Lacks first last base old) (less : leb (last - base) most ≡ false) where
    more : most < last - base
    more = more_left (last - base) most less

    count_is : min (last - base) most ≡ most
    count_is = (let over = more in omega (arith, over))

    next_given : AreGiven kept.entries (numbers_after base most)
    next_given =
        let page = page_cut (kept_by kept.owner kept.entries) (last_id old.entries) most first last base archive.numbered archive.fits small lacks.follow in
        let over = more in
        all_given first last base most kept.entries archive.numbered archive.fits page.start (omega (arith, over))

    last_told : last_id (old.entries ++ page_at kept last most base) ≡ Some (id_of (base + most))
    last_told =
        ap (λ n. last_id (old.entries ++ logged_at kept.entries (numbers_after base n))) count_is
        ∙ last_of_both old.entries (logged_at kept.entries (numbers_after base most)) (id_of (base + most))
        (last_at kept.entries (numbers_after base most) next_given ∙ ap (option_map id_of) (last_number base most some))

    lacks_rest : (log : LogView) → log.entries ≡ old.entries ++ page_at kept last most base → Lacks first last (base + most) log
    lacks_rest log is =
        let over = more in
        let page = page_cut (kept_by kept.owner kept.entries) (last_id old.entries) most first last base archive.numbered archive.fits small lacks.follow in
        let start = page.start in
        let entries : log.entries ≡ old.entries ++ logged_at kept.entries (numbers_after base most) = is ∙ ap (λ n. old.entries ++ logged_at kept.entries (numbers_after base n)) count_is in
        record {
          follow = from_id (ap last_id is ∙ last_told) (omega (arith, start, some)) (omega (arith, over));
          unlogged = λ k above below.
              ap (λ l. is_among (id_of k) (ids_of l)) entries
              ∙ still_unlogged old.entries (logged_at kept.entries (numbers_after base most)) base most last (ids_at kept.entries (numbers_after base most) next_given) archive.fits lacks.unlogged k above below;
        }

    entries_join : old.entries ++ (page_at kept last most base ++ logged_at kept.entries (numbers_after (base + most) (last - (base + most)))) ≡ old.entries ++ logged_at kept.entries (numbers_after base (last - base))
    entries_join =
        let over = more in
        let sum : most + (last - (base + most)) ≡ last - base = omega (arith, over) in
        ap (λ l. old.entries ++ l)
        (ap (λ n. logged_at kept.entries (numbers_after base n) ++ logged_at kept.entries (numbers_after (base + most) (last - (base + most)))) count_is
        ∙ sym (at_both kept.entries (numbers_after base most) (numbers_after (base + most) (last - (base + most))))
        ∙ ap (logged_at kept.entries) (sym (behind_both base most (last - (base + most))) ∙ ap (numbers_after base) sum))

  -- ---- all of them

  none_some_page : (o : Option OpenPage) → o ≡ None → IsSome o → ⊥
  none_some_page None is there = false≢true there
  none_some_page (Some p) is there = absurd (let no_way : ⊥ = cc in no_way)

  some_page : (o : Option OpenPage) (p : OpenPage) → o ≡ Some p → IsSome o
  some_page None p is = absurd (let no_way : ⊥ = cc in no_way)
  some_page (Some other) p is = refl

  last_comes : (base n : ℕ) (old : LogView) (w u : ClientStep ItemOut ItemOut) → leb (last - base) most ≡ true → w.client.log.entries ≡ old.entries ++ page_at kept last most base → w.client.log.tiles ≡ old.tiles ++ tile_at first last most base (last_id old.entries) ∷ []
      → w.client.log.page ≡ None → n ≡ 0 → u ≡ w → (suc n ≡ pages_for (last - base) most) × IsCaughtUp first last base most (suc n) kept old u.client.log
  last_comes base n old w u all entries tiles page none same =
      let low = all_taken (last - base) most all in
      let count : min (last - base) most ≡ last - base = omega (arith, low) in (
        ap (λ k. suc k) none ∙ sym (one_page (last - base) most some low),
        record {
          entries = ap (λ (x : ClientStep ItemOut ItemOut). x.client.log.entries) same ∙ entries ∙ ap (λ k. old.entries ++ logged_at kept.entries (numbers_after base k)) count;
          tiles =
              ap (λ (x : ClientStep ItemOut ItemOut). x.client.log.tiles) same ∙ tiles
              ∙ ap (λ k. old.tiles ++ tile_at first last most base (last_id old.entries) ∷ tiles_behind k (last - (first - 1)) last most (Some (id_of (base + most))) (base + most)) (sym none);
          page = ap (λ (x : ClientStep ItemOut ItemOut). x.client.log.page) same ∙ page;
        },
      )

  -- one of them, and then the rest
  one_step : (n base : ℕ) (z : ItemOut) (t u : ClientStep ItemOut ItemOut) → HasAsked bare most z t → HasPlace t → Lacks first last base t.client.log → (told : SessionInfo) (h : ServerState ItemOut) (w : ClientStep ItemOut ItemOut) → Serves bare full kept told h
      → w ≡ taken t (answers_to z told h)
      → ((y : ItemOut) (x : ClientStep ItemOut ItemOut) → HasAsked bare most y x → HasPlace x → Lacks first last (base + most) x.client.log → TakesAnswers bare full kept n y x u
      → (n ≡ pages_for (last - (base + most)) most) × IsCaughtUp first last (base + most) most n kept x.client.log u.client.log)
      → (b : Bool) → leb (last - base) most ≡ b
      → (((w.client.log.page ≡ None) × (n ≡ 0) × (u ≡ w)) ⊎ ((y : ItemOut) × (x : ClientStep ItemOut ItemOut) × IsSome w.client.log.page × (last_put w.client.session ≡ Some y) × Between w x × TakesAnswers bare full kept n y x u))
      → (suc n ≡ pages_for (last - base) most) × IsCaughtUp first last base most (suc n) kept t.client.log u.client.log
  one_step n base z t u asked position lacks told h w serves is others true all (inl (page, none, same)) =
      let a : Ends base t.client position.session.waiting.queue w = subst (Ends base t.client position.session.waiting.queue) (sym is) (answered base z t told h asked position lacks serves) in
      last_comes base n t.client.log w u all a.entries a.tiles page none same
  one_step n base z t u asked position lacks told h w serves is others true all (inr (y, x, open_page, put, between, rest)) =
      let a : Ends base t.client position.session.waiting.queue w = subst (Ends base t.client position.session.waiting.queue) (sym is) (answered base z t told h asked position lacks serves) in
      absurd (none_some_page w.client.log.page (a.whole all) open_page)
  one_step n base z t u asked position lacks told h w serves is others false less (inl (page, none, same)) =
      let a : Ends base t.client position.session.waiting.queue w = subst (Ends base t.client position.session.waiting.queue) (sym is) (answered base z t told h asked position lacks serves) in
      absurd (none_some_page w.client.log.page page (some_page w.client.log.page _ (a.asks less).asked.page))
  one_step n base z t u asked position lacks told h w serves is others false less (inr (y, x, open_page, put, between, rest)) =
      let a : Ends base t.client position.session.waiting.queue w = subst (Ends base t.client position.session.waiting.queue) (sym is) (answered base z t told h asked position lacks serves) in
      let next : Asks bare most position.session.waiting.queue w = a.asks less in
      let stanza : next.stanza ≡ y = same_Some next.stanza y (sym next.put ∙ put) in
      let asked_next : HasAsked bare most y x = still_asked y w x (subst (λ (s : ItemOut). HasAsked bare most s w) stanza next.asked) between in
      let entries : x.client.log.entries ≡ t.client.log.entries ++ page_at kept last most base = ap (λ (l : LogView). l.entries) between.log ∙ a.entries in
      let tiles : x.client.log.tiles ≡ t.client.log.tiles ++ tile_at first last most base (last_id t.client.log.entries) ∷ [] = ap (λ (l : LogView). l.tiles) between.log ∙ a.tiles in
      let ih : (n ≡ pages_for (last - (base + most)) most) × IsCaughtUp first last (base + most) most n kept x.client.log u.client.log =
      others y x asked_next between.position (lacks_rest base t.client.log lacks less x.client.log entries) rest in
      let after : last_id x.client.log.entries ≡ Some (id_of (base + most)) = ap last_id entries ∙ last_told base t.client.log lacks less in (
        ap (λ k. suc k) ih.0 ∙ sym (one_more last base most some (more base t.client.log lacks less)),
        record {
          entries =
              ih.1.entries ∙ ap (λ l. l ++ logged_at kept.entries (numbers_after (base + most) (last - (base + most)))) entries
              ∙ append_assoc t.client.log.entries (page_at kept last most base) (logged_at kept.entries (numbers_after (base + most) (last - (base + most))))
              ∙ entries_join base t.client.log lacks less;
          tiles =
              ih.1.tiles
              ∙ ap₂ (λ l o. l ++ tiles_behind n (last - (first - 1)) last most o (base + most)) tiles after
              ∙ append_assoc t.client.log.tiles (tile_at first last most base (last_id t.client.log.entries) ∷ []) (tiles_behind n (last - (first - 1)) last most (Some (id_of (base + most))) (base + most));
          page = ih.1.page;
        },
      )

  pub exactly : (n base : ℕ) (z : ItemOut) (t u : ClientStep ItemOut ItemOut) → HasAsked bare most z t → HasPlace t → Lacks first last base t.client.log → TakesAnswers bare full kept n z t u
      → (n ≡ pages_for (last - base) most) × IsCaughtUp first last base most n kept t.client.log u.client.log
  exactly zero base z t u asked position lacks these = absurd these
  exactly (suc n) base z t u asked position lacks (told, h, w, serves, is, choice) =
      one_step n base z t u asked position lacks told h w serves is (λ y x asked_next place_next lacks_next rest. exactly n (base + most) y x u asked_next place_next lacks_next rest) (leb (last - base) most) refl choice

  not_full : (n : ℕ) → n < MOST_UNACKNOWLEDGED → (n == MOST_UNACKNOWLEDGED) ≡ false
  not_full n low = ne_eqb n MOST_UNACKNOWLEDGED (λ is. omega (arith, is, low))

  length_more : (xs : List ItemOut) (y : ItemOut) → length (xs ++ y ∷ []) ≡ length xs + 1
  length_more [] y = refl
  length_more (x ∷ xs) y = let rest : length (xs ++ y ∷ []) ≡ length xs + 1 = length_more xs y in omega (arith, rest)

  least : (n : ℕ) → 1 ≤ pages_for n most
  least n = omega arith

  -- that so many are taken
  abbrev Ways : ℕ → ItemOut → ClientStep ItemOut ItemOut → Type 0
  Ways n z t = (u : ClientStep ItemOut ItemOut) × TakesAnswers bare full kept n z t u

  takes_with : (base : ℕ) (z : ItemOut) (t : ClientStep ItemOut ItemOut) (s : SessionView ItemOut) (told : SessionInfo) (h : ServerState ItemOut) → HasAsked bare most z t → t.client.session ≡ Some s
      → length s.waiting.queue + pages_for (last - base) most ≤ MOST_UNACKNOWLEDGED → Lacks first last base t.client.log → Serves bare full kept told h
      → ((y : ItemOut) (v : ClientStep ItemOut ItemOut) (next : SessionView ItemOut) → most < last - base → HasAsked bare most y v → v.client.session ≡ Some next
      → length next.waiting.queue + pages_for (last - (base + most)) most ≤ MOST_UNACKNOWLEDGED → Lacks first last (base + most) v.client.log → Ways (pages_for (last - (base + most)) most) y v)
      → (b : Bool) → leb (last - base) most ≡ b → Ways (pages_for (last - base) most) z t
  takes_with base z t s told h asked stands fits lacks serves others true all =
      let one = least (last - base) in
      let position : HasPlace t = record { session = s; stands = stands; position = not_full (length s.waiting.queue) (omega (arith, fits, one)) } in
      let v = taken t (answers_to z told h) in
      let a : Ends base t.client s.waiting.queue v = answered base z t told h asked position lacks serves in
      subst (λ n. Ways n z t) (sym (one_page (last - base) most some (all_taken (last - base) most all)))
      (v, (told, h, v, serves, refl, inl (a.whole all, refl, refl)))
  takes_with base z t s told h asked stands fits lacks serves others false less =
      let one = least (last - base) in
      let position : HasPlace t = record { session = s; stands = stands; position = not_full (length s.waiting.queue) (omega (arith, fits, one)) } in
      let v = taken t (answers_to z told h) in
      let a : Ends base t.client s.waiting.queue v = answered base z t told h asked position lacks serves in
      let next : Asks bare most s.waiting.queue v = a.asks less in
      let over : most < last - base = more_left (last - base) most less in
      let pages : pages_for (last - base) most ≡ suc (pages_for (last - (base + most)) most) = one_more last base most some over in
      let size : length next.session.waiting.queue ≡ length s.waiting.queue + 1 = ap (λ (zs : List ItemOut). length zs) next.waits ∙ length_more s.waiting.queue next.stanza in
      let fits_next : length next.session.waiting.queue + pages_for (last - (base + most)) most ≤ MOST_UNACKNOWLEDGED = omega (arith, fits, pages, size) in
      let more_come = least (last - (base + most)) in
      let between : Between v v = record {
        account = refl;
        log = refl;
        pages = refl;
        online = a.online;
        position = record { session = next.session; stands = next.stands; position = not_full (length next.session.waiting.queue) (omega (arith, fits_next, more_come)) };
      } in
      let rest = others next.stanza v next.session over next.asked next.stands fits_next (lacks_rest base t.client.log lacks less v.client.log a.entries) in
      subst (λ n. Ways n z t) (sym pages)
      (rest.0, (told, h, v, serves, refl, inr (next.stanza, v, some_page v.client.log.page _ next.asked.page, next.put, between, rest.1)))

  takes_at : (fuel base : ℕ) (z : ItemOut) (t : ClientStep ItemOut ItemOut) (s : SessionView ItemOut) (told : SessionInfo) (h : ServerState ItemOut) → last - base ≤ fuel → HasAsked bare most z t → t.client.session ≡ Some s
      → length s.waiting.queue + pages_for (last - base) most ≤ MOST_UNACKNOWLEDGED → Lacks first last base t.client.log → Serves bare full kept told h → Ways (pages_for (last - base) most) z t
  takes_at zero base z t s told h low asked stands fits lacks serves =
      takes_with base z t s told h asked stands fits lacks serves (λ y v next over asked_next stands_next fits_next lacks_next. absurd (omega (arith, over, low))) (leb (last - base) most) refl
  takes_at (suc fuel) base z t s told h low asked stands fits lacks serves =
      takes_with base z t s told h asked stands fits lacks serves
      (λ y v next over asked_next stands_next fits_next lacks_next. takes_at fuel (base + most) y v next told h (omega (arith, over, low, some)) asked_next stands_next fits_next lacks_next serves) (leb (last - base) most) refl

  pub takes : (base : ℕ) (z : ItemOut) (t : ClientStep ItemOut ItemOut) (s : SessionView ItemOut) (told : SessionInfo) (h : ServerState ItemOut) → HasAsked bare most z t → t.client.session ≡ Some s
      → length s.waiting.queue + pages_for (last - base) most ≤ MOST_UNACKNOWLEDGED → Lacks first last base t.client.log → Serves bare full kept told h → (u : ClientStep ItemOut ItemOut) × TakesAnswers bare full kept (pages_for (last - base) most) z t u
  takes base z t s told h asked stands fits lacks serves = takes_at (last - base) base z t s told h (omega arith) asked stands fits lacks serves

-- ---- the user asks

begun : (t : ClientStep ItemOut ItemOut) (s : SessionView ItemOut) (most : ℕ) → t.client.session ≡ Some s → catches_up in_items t most ≡ begins_page in_items t s most
begun t s most stands = ap (λ o. catches_up_in in_items t o most) stands

pub asks_first : (t : ClientStep ItemOut ItemOut) (s : SessionView ItemOut) (bare : List ℕ) (most : ℕ) → t.client.session ≡ Some s → t.client.phase ≡ Online → t.client.account.bare ≡ bare
    → (z : ItemOut) × (last_put (catches_up in_items t most).client.session ≡ Some z) × HasAsked bare most z (catches_up in_items t most) × ((catches_up in_items t most).client.log.entries ≡ t.client.log.entries)
asks_first t s bare most stands online own =
    let z = page_stanza in_items t (last_id t.client.log.entries) most in
    let is = begun t s most stands in (
      z,
      ap (λ (u : ClientStep ItemOut ItemOut). last_put u.client.session) is ∙ last_more s.waiting.queue z,
      subst (HasAsked bare most z) (sym is) (record { bare_is = own; online = online; page = refl; stanza = refl }),
      ap (λ (u : ClientStep ItemOut ItemOut). u.client.log.entries) is,
    )
