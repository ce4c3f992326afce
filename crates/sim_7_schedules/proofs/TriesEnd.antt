-- What was taken of an intent where the run of its file ends.
use Rattle.std.proofs.Common.{◌≡◌, ℕ, zero, suc, ◌-◌, ◌<◌, ◌≤◌, ◌==◌, ◌&&◌, ◌||◌, Bool, true, false, cond, List, [], ◌∷◌, ◌++◌, Some, None, length, map, refl, sym, ap, ap₂, ◌∙◌, subst, arith, inl, inr}
use Rattle.std.proofs.lemmas.Bool.{or_parts}
use Rattle.std.proofs.lemmas.List.{length-map}
use Rattle.std.proofs.lemmas.List.Folds.{list_any-append}
use Rattle.std.proofs.lemmas.Option.{none-some, same_Some, slice_get-map}
use Rattle.std.specs.List.{AllByRecursion, filter, list_any, slice_get}
use Rattle.std.specs.Option.{option_map}
use Rattle.std.specs.Prelude.{drop}
use Rattle.cl_intents.specs.Intents.{IntentsView, intent_state, intent_under}
use Rattle.cl_intents.specs.States as states
use Rattle.cl_intents.specs.declared.intents.Try.{Try}
use Rattle.cl_intents.specs.declared.states.IntentState.TheVariants.{Absent, Done}
use Rattle.cmd_intents.specs.Files.{FileView, IsIntentFile}
use Rattle.base_io.specs.Names.{is_among}
use Rattle.cmd_report.specs.Addresses.{full_address}
use Rattle.cmd_report.specs.Lines.{take_line}
use Rattle.cmd_report.specs.declared.report.TakeLine.{TakeLine}
use Rattle.cmd_resolving.proofs.Declared.{expanded_is_run, start_same}
use Rattle.cmd_resolving.proofs.Expanded.{line_in}
use Rattle.cmd_resolving.proofs.Listed.{file_listed}
use Rattle.cmd_resolving.specs.Expansion.{Watching, all_lines, as_schedule, expand, none_of, watched_end, watching_at_start}
use Rattle.cmd_schedule.specs.Contents.{Owned, owned_in}
use Rattle.cmd_schedule.specs.LineLists.{IsLineList}
use Rattle.cmd_schedule.specs.Schedules.{WireView}
use Rattle.cmd_schedule.specs.declared.schedule.Version.{Version}
use Rattle.cmd_world.proofs.Declares.{some_kept}
use Rattle.cmd_world.specs.Histories.{common_steps, world_at_start, world_of}
use Rattle.cmd_world.specs.Worlds.{ByteWorld}
use Rattle.cmd_world.proofs.AllMoves.{kept_by_lines}
use Rattle.law_intents.specs.Intents as law
use Rattle.law_intents.specs.Intents.{IntentReached, IntentWorld}
use Rattle.sim_1_applications.proofs.Owners.{Differ, name_tells, names_of}
use Rattle.sim_1_applications.proofs.Spoken.{submitted}
use Rattle.sim_1_applications.specs.Devices as sessions
use Rattle.sim_1_applications.specs.Devices.{AppWorld, Device, log_of}
use Rattle.sim_1_applications.specs.Reported.{take_of}
use Rattle.sim_1_applications.specs.Runs.{begins, owned_of}
use Rattle.sim_3_images.proofs.ChangedLists.{all_found}
use Rattle.sim_3_images.proofs.MovesKept.{kept_after, kept_first}
use Rattle.sim_3_images.specs.Kept.{IsWorldKept, owned_by}
use Rattle.sim_5_moves.specs.Running.{IsOwned, keep_in}
use Rattle.sim_5_moves.specs.Running as running
use Rattle.sim_7_schedules.proofs.Moves.{each_runs}
use Rattle.sim_7_schedules.proofs.TriesDue.{all_due}
use Rattle.sim_7_schedules.proofs.TriesFacts.{Facts, account_named, accounts_are, device_named, differ, takes_are}
use Rattle.sim_7_schedules.proofs.TriesLists.{items_in, tries_under}
use Rattle.sim_7_schedules.proofs.TriesLogged.{IsKnownTake, logged_same}
use Rattle.sim_7_schedules.proofs.TriesNotes.{acknowledged_same, as_notes, as_try, done_newest, newest_first, newest_more}
use Rattle.sim_7_schedules.proofs.TriesSent.{GoesTo}
use Rattle.sim_7_schedules.proofs.TriesWalk.{Ahead, IsKeptTry, Within, absent_beside, facts_in, intent_world, run_file}
use Rattle.sim_7_schedules.proofs.WholeSchedules.{schedule_runs}
use Rattle.sim_7_schedules.specs.Simulation.{LinesSimulate, ScheduleSimulates, Simulates, views_of}
use Rattle.sim_7_schedules.specs.Tries.{HasIntent, is_taken_for, state_in, taken_for}

-- ---- takes

filter_mapped : {A B : Type 0} (p : B → Bool) (q : A → Bool) (g : A → B) (P : A → Type 0) → ((a : A) → P a → p (g a) ≡ q a) → (xs : List A) → AllByRecursion P xs → filter p (map g xs) ≡ map g (filter q xs)
filter_mapped p q g P same [] all = refl
filter_mapped p q g P same (x ∷ xs) all =
    ap (λ b. cond b (g x ∷ filter p (map g xs)) (filter p (map g xs))) (same x all.0) ∙ by (q x) (filter_mapped p q g P same xs all.1)
  where
    by : (b : Bool) → filter p (map g xs) ≡ map g (filter q xs) → cond b (g x ∷ filter p (map g xs)) (filter p (map g xs)) ≡ map g (cond b (x ∷ filter q xs) (filter q xs))
    by true rest = ap (λ l. g x ∷ l) rest
    by false rest = rest

either_way : (a b : Bool) → (a || b) ≡ (b || (a || false))
either_way true true = refl
either_way true false = refl
either_way false true = refl
either_way false false = refl

-- the order of tries is nothing to it
reversed : (q : law.Try → Bool) (ts : List Try) → list_any (λ t. q (as_try t)) ts ≡ list_any q (newest_first ts)
reversed q [] = refl
reversed q (t ∷ ts) =
    ap (λ b. q (as_try t) || b) (reversed q ts) ∙ either_way (q (as_try t)) (list_any q (newest_first ts)) ∙ sym (list_any-append q (newest_first ts) (as_try t ∷ []))

none_of_all : (i : ℕ) (ts : List law.Try) (takes : List sessions.Take) → AllByRecursion (λ u. law.is_taken i u takes ≡ false) ts → law.taken_of i ts takes ≡ []
none_of_all i ts [] all = refl
none_of_all i ts (x ∷ takes) all =
    let parts = heads ts all in
    ap (λ b. cond b (x ∷ law.taken_of i ts takes) (law.taken_of i ts takes)) parts.0 ∙ none_of_all i ts takes parts.1
  where
    heads : (us : List law.Try) → AllByRecursion (λ u. law.is_taken i u (x ∷ takes) ≡ false) us → (list_any (λ u. law.is_try i u x) us ≡ false) × AllByRecursion (λ u. law.is_taken i u takes ≡ false) us
    heads [] all_here = (refl, tt)
    heads (u ∷ us) all_here =
        let parts = or_parts (law.is_try i u x) (law.is_taken i u takes) all_here.0 in
        let rest = heads us all_here.1 in
        (ap (λ b. b || list_any (λ v. law.is_try i v x) us) parts.0 ∙ rest.0, (parts.1, rest.1))

map_nil : {A B : Type 0} (g : A → B) (xs : List A) → xs ≡ [] → map g xs ≡ []
map_nil g xs none = ap (map g) none

module _ (owned : List Owned) (version : Version) (i : ℕ) (o : Owned) (apart : Differ (names_of owned)) (owner : slice_get owned i ≡ Some o) where
  abbrev line_of : sessions.Take → TakeLine
  line_of t = take_line version (take_of owned t)

  one_same : (t : Try) (one : sessions.Take) → one.device < length owned → is_taken_for o.device (line_of one) t ≡ law.is_try i (as_try t) one
  one_same t one placed = ap (λ b. b && (one.said.epoch == t.epoch && one.said.n == t.n)) (name_tells owned i one.device o apart owner placed)

  any_same : (ts : List Try) (one : sessions.Take) → one.device < length owned → list_any (is_taken_for o.device (line_of one)) ts ≡ list_any (λ t. law.is_try i (as_try t) one) ts
  any_same [] one placed = refl
  any_same (t ∷ ts) one placed = ap₂ (λ a b. a || b) (one_same t one placed) (any_same ts one placed)

  mapped_twice : (takes : List sessions.Take) → map (take_line version) (map (take_of owned) takes) ≡ map line_of takes
  mapped_twice [] = refl
  mapped_twice (t ∷ takes) = ap (λ l. line_of t ∷ l) (mapped_twice takes)

  -- the takes of tries are those of the applications
  takes_same : (account : List ℕ) (ts : List Try) (takes : List sessions.Take) → AllByRecursion (IsKnownTake owned i account) takes
      → taken_for o.device ts (map (take_line version) (map (take_of owned) takes)) ≡ map line_of (law.taken_of i (newest_first ts) takes)
  takes_same account ts takes known =
      ap (taken_for o.device ts) (mapped_twice takes)
      ∙ filter_mapped (λ taken. list_any (is_taken_for o.device taken) ts) (λ one. list_any (λ t. law.is_try i t one) (newest_first ts)) line_of (IsKnownTake owned i account)
      (λ one is. any_same ts one is.placed ∙ reversed (λ t. law.is_try i t one) ts) takes known

-- ---- worlds

kept_whole : (s : WireView) → IsWorldKept s (world_of s)
unfolding world_of
kept_whole s = kept_by_lines (IsWorldKept s) (kept_after s) s.lines (world_at_start s) (kept_first s)

no_intent : (k : ℕ) → intent_under k [] ≡ None
no_intent zero = refl
no_intent (suc k) = refl

-- ---- a file

-- each device of the end was declared
kept_end : (f : FileView) → IsWorldKept (as_schedule f) (watched_end f).world
kept_end f = subst (IsWorldKept (as_schedule f)) (sym (expanded_is_run f)) (kept_whole (as_schedule f))

module _ (f : FileView) (right : IsIntentFile f) (i k : ℕ) (has : HasIntent (watched_end f) i k) where
  abbrev s : WireView
  s = as_schedule f

  listed : IsLineList s
  listed = file_listed f right

  abbrev o : Owned
  o = owned_by has.device

  owned : IsOwned s i o
  owned = ap (λ (os : List Owned). slice_get os i) (sym (kept_end f).owners) ∙ slice_get-map owned_by (watched_end f).world.devices i ∙ ap (option_map owned_by) has.there

  simulates : ScheduleSimulates s
  simulates = schedule_runs s listed (each_runs s listed)

  declared_same : owned_in (common_steps f.schedule) ≡ owned_in (common_steps s)
  declared_same = sym (kept_first f.schedule).owners ∙ ap (λ (w : ByteWorld). map owned_by w.devices) (sym (start_same f)) ∙ (kept_first s).owners

  abbrev start : Watching
  start = watching_at_start f

  started : IntentReached i (intent_world (begins s) (none_of o) (newest_first (tries_under k [])))
  started = record {
    keep = keep_in s;
    some = some_kept s.version listed.keeps;
    accounts = running.names_of s;
    homes = map (λ (p : Owned). p.account) (owned_of s);
    events = [];
    reaches = ap (λ l. intent_world (begins s) (none_of o) (newest_first l)) (ap items_in (no_intent k));
  }

  begins_so : Within s listed i o owned (newest_first (tries_under k [])) [] start (begins s)
  begins_so = record {
    beside = subst (λ W. Simulates s W (begins s)) (start_same f) simulates.first;
    kept = subst (IsWorldKept s) (start_same f) (kept_first s);
    view = none_of o;
    at = slice_get-map none_of (owned_in (common_steps f.schedule)) i ∙ ap (option_map none_of) (ap (λ (os : List Owned). slice_get os i) declared_same ∙ owned);
    is_full = refl;
    same = refl;
    reached = started;
  }

  ahead : Ahead s listed i o owned k (map line_in (all_lines f f.schedule.lines start)) start
  unfolding expand
  ahead = record {
    x = begins s;
    leads = record {
      runs = simulates.runs;
      views = views_of simulates.first.runs;
      go = subst (λ W. LinesSimulate s s.lines simulates.runs (views_of simulates.first.runs) W (begins s)) (start_same f) simulates.go;
      done_so = simulates.done;
      last = simulates.last;
      reaches = simulates.reaches;
    };
    xs = [];
    now = begins_so;
    tries = λ y is. absurd (none-some y (sym (no_intent k) ∙ is));
  }

  ended : Ahead s listed i o owned k [] (watched_end f)
  unfolding watched_end
  ended = run_file s listed i o owned k f f.schedule.lines start (all_due f f.schedule.lines start) ahead

  -- ---- the end

  abbrev x : AppWorld
  x = ended.x

  abbrev ts : List Try
  ts = has.intent.tries.items

  abbrev v : IntentsView
  v = has.view

  F : Facts s listed i o owned (watched_end f).world x
  F = facts_in s listed i o owned (newest_first (tries_under k ended.xs)) ended.xs (watched_end f) x ended.now

  view_is : ended.now.view ≡ v
  view_is = same_Some ended.now.view v (sym ended.now.at ∙ has.of)

  found : intent_under k ended.xs ≡ Some has.intent
  found = ap (intent_under k) (sym ended.now.same ∙ ap (λ (u : IntentsView). u.intents) view_is) ∙ has.is

  reached : IntentReached i (intent_world x v (newest_first ts))
  reached = subst (λ (u : IntentsView). IntentReached i (intent_world x u (newest_first ts))) view_is (subst (λ us. IntentReached i (intent_world x ended.now.view (newest_first us))) (ap items_in found) ended.now.reached)

  is_full : v.full ≡ full_address o.account o.device
  is_full = sym (ap (λ (u : IntentsView). u.full) view_is) ∙ ended.now.is_full

  kept_tries : AllByRecursion (IsKeptTry i x has.intent.to) ts
  kept_tries = ended.tries has.intent found

  state_is : F.state ≡ has.device
  state_is = same_Some F.state has.device (sym F.there ∙ has.there)

  taken_same : (us : List Try) → taken_for has.device.name us (watched_end f).world.takes ≡ map (λ one. take_line s.version (take_of (owned_of s) one)) (law.taken_of i (newest_first us) x.takes)
  taken_same us =
      ap (taken_for has.device.name us) (takes_are s listed i o owned (watched_end f).world x ended.now.beside ended.now.kept)
      ∙ takes_same (owned_of s) s.version i o (differ s listed i o owned) owned o.account us x.takes F.known

  many_same : (us : List Try) → length (taken_for has.device.name us (watched_end f).world.takes) ≡ length (law.taken_of i (newest_first us) x.takes)
  many_same us = ap length (taken_same us) ∙ length-map (law.taken_of i (newest_first us) x.takes) _

  abbrev end_world : IntentWorld
  end_world = intent_world x v (newest_first ts)

  pub once_at_most : ((j : ℕ) (w : IntentWorld) → IntentReached j w → (d : Device) → slice_get w.world.devices j ≡ Some d → length (law.taken_of j w.tries w.world.takes) ≤ 1) → length (taken_for has.device.name ts (watched_end f).world.takes) ≤ 1
  once_at_most once = (let same = many_same ts in let few = once i end_world reached F.device F.is in omega (arith, same, few))

  pub none_before : ((j : ℕ) (w : IntentWorld) → IntentReached j w → (d : Device) → slice_get w.world.devices j ≡ Some d → (t : law.Try) (us : List law.Try) → w.tries ≡ t ∷ us → AllByRecursion (λ u. law.is_taken j u w.world.takes ≡ false) us)
      → (front : List Try) (t : Try) → ts ≡ front ++ t ∷ [] → taken_for has.device.name front (watched_end f).world.takes ≡ []
  none_before newest front t are =
      taken_same front
      ∙ map_nil _ (law.taken_of i (newest_first front) x.takes)
      (none_of_all i (newest_first front) x.takes (newest i end_world reached F.device F.is (as_try t) (newest_first front) (ap newest_first are ∙ newest_more front t)))

  absent_is : state_in has ≡ Absent → (t : law.Try) × (older : List law.Try) × (newest_first ts ≡ t ∷ older) × (law.is_absent i t (as_notes v) x.takes F.device ≡ true)
  absent_is absent = absent_beside s listed i o owned (watched_end f).world x F v has.intent is_full (ap (λ d. intent_state v.full v.sure d.client.client has.intent) state_is ∙ absent) kept_tries

  pub none_of_absent : ((j : ℕ) (w : IntentWorld) → IntentReached j w → (d : Device) → slice_get w.world.devices j ≡ Some d → (t : law.Try) (us : List law.Try) → w.tries ≡ t ∷ us → law.is_absent j t w.notes w.world.takes d ≡ true
      → law.taken_of j w.tries w.world.takes ≡ []) → state_in has ≡ Absent → taken_for has.device.name ts (watched_end f).world.takes ≡ []
  none_of_absent none absent =
      let is = absent_is absent in
      taken_same ts ∙ map_nil _ (law.taken_of i (newest_first ts) x.takes) (none i end_world reached F.device F.is is.0 is.1 is.2 is.3)

  pub once_where_done : ((j : ℕ) (w : IntentWorld) → IntentReached j w → (d : Device) → slice_get w.world.devices j ≡ Some d → (t : law.Try) (us : List law.Try) → w.tries ≡ t ∷ us → law.is_logged j t w.world.takes d ≡ true
      → length (law.taken_of j w.tries w.world.takes) ≡ 1)
      → ((j : ℕ) (w : IntentWorld) → IntentReached j w → (d : Device) → slice_get w.world.devices j ≡ Some d → (t : law.Try) (us : List law.Try) → w.tries ≡ t ∷ us → law.is_acknowledged w.world.accounts t d ≡ true
      → length (law.taken_of j w.tries w.world.takes) ≡ 1)
      → is_among has.intent.to (watched_end f).world.accounts ≡ true → state_in has ≡ Done → length (taken_for has.device.name ts (watched_end f).world.takes) ≡ 1
  once_where_done logged acknowledged among done =
      let c = F.state.client.client in
      let d = done_newest v.full v.sure c has.intent (ap (λ e. intent_state v.full v.sure e.client.client has.intent) state_is ∙ done) in
      let newest = d.0.newest in
      let kept = all_found (IsKeptTry i x has.intent.to) ts (length ts - 1) newest d.0.is kept_tries in
      many_same ts ∙ elim d.1 [
        | inl said ↦
            acknowledged i end_world reached F.device F.is (as_try newest) d.0.older d.0.first
            (acknowledged_same newest has.intent.to x.accounts (ap (is_among has.intent.to) (accounts_are s listed i o owned (watched_end f).world x ended.now.beside ended.now.kept) ∙ among) c F.device F.said
            (subst (λ (e : Device). GoesTo has.intent.to (as_try newest) (submitted e.sessions)) (same_Some kept.sent.device F.device (sym kept.sent.at ∙ F.is)) kept.sent.goes)
            said)
        | inr there ↦
            logged i end_world reached F.device F.is (as_try newest) d.0.older d.0.first
            (ap (λ account. list_any (law.is_entry i (as_try newest) account x.takes) (drop newest.logged (log_of F.device.reading))) F.account
            ∙ sym (logged_same (owned_of s) s.version i o (differ s listed i o owned) owned (account_named s listed i o owned) (device_named s listed i o owned) newest kept.epoch kept.n x.takes F.known F.last c.log.entries (log_of F.device.reading) F.entries F.given F.within)
            ∙ ap (λ full. states.is_logged full newest c.log.entries) (sym is_full) ∙ there)
      ]
