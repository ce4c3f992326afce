-- The run of a file beside the two applications, with what is noted of a device and the tries of one of its intents.
use Rattle.std.proofs.Common.{◌≡◌, ◌≢◌, ◌⊎◌, ℕ, zero, suc, ◌+◌, ◌-◌, ◌<◌, ◌≤◌, ◌^◌, ◌&&◌, true, false, not, List, [], ◌∷◌, ◌++◌, Option, Some, None, length, map, min, refl, sym, ap, ap₂, ◌∙◌, subst, arith, inl, inr}
use Rattle.std.proofs.lemmas.Bool.{and_from}
use Rattle.std.proofs.lemmas.Bool.Decides.{eqb_tells}
use Rattle.std.proofs.lemmas.List.{map-append}
use Rattle.std.proofs.lemmas.List.Concat.{flat_map-append}
use Rattle.std.proofs.lemmas.Option.{none-some, same_Some}
use Rattle.std.specs.List.{AllByRecursion, flat_map, list_any, slice_get}
use Rattle.std.specs.Option.{option_map}
use Rattle.std.specs.Prelude.{drop, nat_lt}
use Rattle.cl_intents.specs.Intents.{IntentsView, changed_under, intent_state, intent_under, new_intent, observed, tried_again, with_intent, with_try}
use Rattle.cl_intents.specs.States as states
use Rattle.cl_intents.specs.declared.intents.Intent.{Intent}
use Rattle.cl_intents.specs.declared.intents.Try.{Try}
use Rattle.cl_intents.specs.declared.states.IntentState.TheVariants.{Absent}
use Rattle.cmd_intents.specs.Files.{FileView}
use Rattle.cmd_network.specs.Devices.{DeviceState}
use Rattle.cmd_network.specs.Positions.{changed_at, position_under}
use Rattle.cmd_report.specs.Addresses.{full_address}
use Rattle.cmd_resolving.proofs.Expanded.{followed_world, line_in}
use Rattle.cmd_resolving.specs.Expansion.{Asked, RunLine, Submitted, Watching, all_done, all_gone, all_lines, asked, begun, done, gone, lines_of, looked_at, noted, noted_try, observed_by, observed_from, try_of, watched, watched_line, watched_move, watched_step}
use Rattle.cmd_schedule.specs.Contents.{Owned}
use Rattle.cmd_schedule.specs.LineLists.{IsLineList}
use Rattle.cmd_schedule.specs.Schedules.{WireView}
use Rattle.cmd_schedule.specs.declared.schedule.Step.TheVariants as step
use Rattle.cmd_schedule.specs.declared.schedule.WireLine.{WireLine}
use Rattle.cmd_schedule.specs.declared.schedule.WireStep.{WireStep}
use Rattle.cmd_schedule.specs.declared.schedule.WireStep.TheVariants as wire
use Rattle.cmd_world.specs.Lines.{moves_of, passes_where, rounds_of, step_moves, stepped}
use Rattle.cmd_world.specs.Moves.{Move, all_moved, moved}
use Rattle.cmd_world.specs.Worlds.{ByteWorld}
use Rattle.law_intents.specs.Intents as law
use Rattle.law_intents.specs.Intents.{Happens, IntentEvent, IntentMoves, IntentReached, IntentReaches, IntentWorld, IsNext, Looks, MaySubmit, Notes, Tries}
use Rattle.sim_1_applications.proofs.Moments.{reaches_is}
use Rattle.sim_1_applications.proofs.Spoken.{submitted}
use Rattle.sim_1_applications.specs.Devices.{AppWorld, Device, epoch_of, log_of}
use Rattle.sim_1_applications.specs.Events.{AppEvent, Reaches, after}
use Rattle.sim_1_applications.specs.Histories.{Spoken, spoken_in, state_after}
use Rattle.sim_1_applications.specs.Runs as lines
use Rattle.sim_1_applications.specs.Runs.{IsDone, IsLineDone, LineRun, Refusal, begins, events_in, owned_of}
use Rattle.sim_3_images.proofs.ChangedLists.{all_found}
use Rattle.sim_3_images.proofs.MovesKept.{kept_after}
use Rattle.sim_3_images.specs.Kept.{IsWorldKept}
use Rattle.sim_5_moves.specs.Running.{IsOwned, keep_in}
use Rattle.sim_7_schedules.proofs.ByteMoves.{state_joined}
use Rattle.sim_7_schedules.proofs.Chains.{cut_at}
use Rattle.sim_7_schedules.proofs.TriesDue.{AreAllDue, AreDue, IsDue, IsDueAt, IsOpen}
use Rattle.sim_7_schedules.proofs.TriesFacts.{Facts, account_named, device_named, differ, facts}
use Rattle.sim_7_schedules.proofs.TriesLists.{IsOther, at_other, at_same, is_it, items_in, tries_under, tries_with, under_other, under_same}
use Rattle.sim_7_schedules.proofs.TriesLogged.{logged_same}
use Rattle.sim_7_schedules.proofs.TriesMade.{IsMade, try_made}
use Rattle.sim_7_schedules.proofs.TriesNotes.{absent_newest, as_notes, as_try, hole_is, newest_first, newest_more, observed_same}
use Rattle.sim_7_schedules.proofs.TriesSent.{AreTo, GoesTo, IsBehind, IsSent, MayGo, goes_along, none_yet, sent_along}
use Rattle.sim_7_schedules.specs.Simulation.{LinesSimulate, MovesSimulate, Simulates, SimulatesBy, Views}
use Rattle.sm_outbox.specs.Submissions.{next_number}

-- ---- the observer

abbrev pub intent_world : AppWorld → IntentsView → List law.Try → IntentWorld
intent_world x v tries = record { world = x; notes = as_notes v; tries = tries }

reaches_on : (i : ℕ) (all : List IntentEvent) (event : IntentEvent) (s last next : IntentWorld) → IntentReaches i all s last → IntentMoves i event last next → IntentReaches i (all ++ event ∷ []) s next
reaches_on i [] event s last next is moves = (next, subst (λ v. IntentMoves i event v next) is moves, refl)
reaches_on i (e ∷ all) event s last next is moves = (is.0, is.1, reaches_on i all event is.0 last next is.2 moves)

reached_on : (i : ℕ) (event : IntentEvent) (s next : IntentWorld) → IntentMoves i event s next → IntentReached i s → IntentReached i next
reached_on i event s next moves is = record {
  keep = is.keep;
  some = is.some;
  accounts = is.accounts;
  homes = is.homes;
  events = is.events ++ event ∷ [];
  reaches = reaches_on i is.events event (law.intent_beginning is.keep is.accounts is.homes) s next is.reaches moves;
}

happened : (i : ℕ) (es : List AppEvent) (s : IntentWorld) (last : AppWorld) → Reaches es s.world last → IntentReached i s → IntentReached i (record s { world = last })
happened i [] s last is reached = subst (λ w. IntentReached i (record s { world = w })) (sym is) reached
happened i (e ∷ es) s last is reached =
    happened i es (record s { world = is.0 }) last is.2 (reached_on i (Happens e) s (record s { world = is.0 }) (is.0, is.1, refl) reached)

-- ---- a file

-- of the devices from an index on, what is seen of the one at a place
observed_at : (index : ℕ) (ds : List DeviceState) (vs : List IntentsView) (j : ℕ) → slice_get (observed_from index ds vs) j ≡ option_map (observed_by (slice_get ds (index + j))) (slice_get vs j)
observed_at index ds [] j = refl
observed_at index ds (v ∷ vs) zero = (let same : index ≡ index + 0 = omega arith in ap (λ n. Some (observed_by (slice_get ds n) v)) same)
observed_at index ds (v ∷ vs) (suc j) =
    observed_at (index + 1) ds vs j ∙ (let same : index + 1 + j ≡ index + suc j = omega arith in ap (λ n. option_map (observed_by (slice_get ds n)) (slice_get vs j)) same)

-- an intent that is found behind a new one was there, or has no try
added : (k : ℕ) (to text : List ℕ) (xs : List Intent) (y : Intent) → intent_under k (xs ++ new_intent to text ∷ []) ≡ Some y → (intent_under k xs ≡ Some y) ⊎ (y.tries.items ≡ [])
added zero to text xs y is = absurd (none-some y is)
added (suc k) to text xs y is = by k xs is
  where
    by : (p : ℕ) (zs : List Intent) → slice_get (zs ++ new_intent to text ∷ []) p ≡ Some y → (slice_get zs p ≡ Some y) ⊎ (y.tries.items ≡ [])
    by zero [] at = inr (sym (ap (λ (x : Intent). x.tries.items) (same_Some (new_intent to text) y at)))
    by (suc p) [] at = absurd (none-some y at)
    by zero (z ∷ zs) at = inl at
    by (suc p) (z ∷ zs) at = by p zs at

-- the try was submitted to the account, and its numbers have 64 bits
pub record IsKeptTry (i : ℕ) (x : AppWorld) (to : List ℕ) (t : Try) : Type 0 where
  pub sent : IsSent to (as_try t) i x
  pub epoch : t.epoch < 2 ^ 64
  pub n : t.n < 2 ^ 64

-- those of an intent under a number
abbrev pub AreKeptTries : ℕ → ℕ → AppWorld → List Intent → Type 0
AreKeptTries i k x xs = (y : Intent) → intent_under k xs ≡ Some y → AllByRecursion (IsKeptTry i x y.to) y.tries.items

tries_along : (i : ℕ) (x : AppWorld) (es : List AppEvent) (last : AppWorld) → Reaches es x last → (to : List ℕ) (ts : List Try) → AllByRecursion (IsKeptTry i x to) ts → AllByRecursion (IsKeptTry i last to) ts
tries_along i x es last reaches to [] are = tt
tries_along i x es last reaches to (t ∷ ts) are =
    (record { sent = sent_along to (as_try t) i es x last reaches are.0.sent; epoch = are.0.epoch; n = are.0.n }, tries_along i x es last reaches to ts are.1)

one_more : {A : Type 0} (P : A → Type 0) (xs : List A) (x : A) → AllByRecursion P xs → P x → AllByRecursion P (xs ++ x ∷ [])
one_more P [] x all is = (is, tt)
one_more P (y ∷ ys) x all is = (all.0, one_more P ys x all.1 is)

module _ (s : WireView) (right : IsLineList s) (i : ℕ) (o : Owned) (owned : IsOwned s i o) where
  abbrev full : List ℕ
  full = full_address o.account o.device

  -- what an absent intent is beside the applications
  pub absent_beside : (W : ByteWorld) (x : AppWorld) (F : Facts s right i o owned W x) (v : IntentsView) (y : Intent) → v.full ≡ full → intent_state v.full v.sure F.state.client.client y ≡ Absent → AllByRecursion (IsKeptTry i x y.to) y.tries.items
      → (t : law.Try) × (older : List law.Try) × (newest_first y.tries.items ≡ t ∷ older) × (law.is_absent i t (as_notes v) x.takes F.device ≡ true)
  absent_beside W x F v y is_full absent kept =
      let c = F.state.client.client in
      let a = absent_newest v.full v.sure c y absent in
      let newest = a.0.newest in
      let small = all_found (IsKeptTry i x y.to) y.tries.items (length y.tries.items - 1) newest a.0.is kept in
      let whole : law.has_hole newest.logged (log_of F.device.reading) ≡ false = sym (hole_is _ (log_of F.device.reading) newest.logged c.log.entries F.entries F.given) ∙ a.1.whole in
      let unlogged : law.is_logged i (as_try newest) x.takes F.device ≡ false =
      ap (λ account. list_any (law.is_entry i (as_try newest) account x.takes) (drop newest.logged (log_of F.device.reading))) F.account
      ∙ sym (logged_same (owned_of s) s.version i o (differ s right i o owned) owned (account_named s right i o owned) (device_named s right i o owned) newest small.epoch small.n x.takes F.known F.last c.log.entries (log_of F.device.reading) F.entries F.given F.within)
      ∙ ap (λ f. states.is_logged f newest c.log.entries) (sym is_full) ∙ a.1.unlogged in (
        as_try newest,
        a.0.older,
        a.0.first,
        and_from (nat_lt newest.epoch v.sure) (not (law.has_hole newest.logged (log_of F.device.reading)) && not (law.is_logged i (as_try newest) x.takes F.device)) a.1.later
            (and_from (not (law.has_hole newest.logged (log_of F.device.reading))) (not (law.is_logged i (as_try newest) x.takes F.device)) (ap not whole) (ap not unlogged)),
      )

  -- ---- in a line

  -- the world beside the applications, and what is noted of the device, with tries that the observer counts
  pub record Within (ts : List law.Try) (xs : List Intent) (w : Watching) (x : AppWorld) : Type 0 where
    pub beside : Simulates s w.world x
    pub kept : IsWorldKept s w.world
    pub view : IntentsView
    pub at : slice_get w.intents i ≡ Some view
    pub is_full : view.full ≡ full
    pub same : view.intents ≡ xs
    pub reached : IntentReached i (intent_world x view ts)

  pub facts_in : (ts : List law.Try) (xs : List Intent) (w : Watching) (x : AppWorld) → Within ts xs w x → Facts s right i o owned w.world x
  facts_in ts xs w x now = facts s right i o owned w.world x now.beside now.kept

  looks : (ts : List law.Try) (xs : List Intent) (w : Watching) (x : AppWorld) → Within ts xs w x → Within ts xs (looked_at w.world w.intents) x
  looks ts xs w x now =
      let F = facts_in ts xs w x now in
      let c = F.state.client.client in
      record {
        beside = now.beside;
        kept = now.kept;
        view = observed c now.view;
        at = observed_at 0 w.world.devices w.intents i
            ∙ (let index : 0 + i ≡ i = omega arith in ap (λ n. option_map (observed_by (slice_get w.world.devices n)) (slice_get w.intents i)) index)
            ∙ ap₂ (λ (d : Option DeviceState) (v : Option IntentsView). option_map (observed_by d) v) F.there now.at;
        is_full = now.is_full;
        same = now.same;
        reached = reached_on i Looks (intent_world x now.view ts) (intent_world x (observed c now.view) ts)
            (F.device, F.is, ap (λ n. record { world = x; notes = n; tries = ts }) (observed_same (keep_in s) c now.view (epoch_of F.device.sessions) F.device.reading.tiles F.epoch F.tiles))
            now.reached;
      }

  move : (ts : List law.Try) (xs : List Intent) (w : Watching) (x : AppWorld) (m : Move) (es : List AppEvent) (next : Views s) → SimulatesBy s (moved m w.world) (state_after x es) next → Reaches es x (state_after x es) → Within ts xs w x
      → Within ts xs (record w { world = moved m w.world }) (state_after x es)
  move ts xs w x m es next by reaches now = record {
    beside = by.beside;
    kept = kept_after s m w.world now.kept;
    view = now.view;
    at = now.at;
    is_full = now.is_full;
    same = now.same;
    reached = happened i es (intent_world x now.view ts) (state_after x es) reaches now.reached;
  }

  -- each move is looked at
  moves_seen : (ts : List law.Try) (xs : List Intent) (ms : List Move) (ess : List (List AppEvent)) (views last : Views s) (w : Watching) (x : AppWorld) → MovesSimulate s ms ess views last w.world x
      → Reaches (flat_map (λ e. e) ess) x (state_after x (flat_map (λ e. e) ess)) → Within ts xs w x → Within ts xs (watched ms w) (state_after x (flat_map (λ e. e) ess))
  moves_seen ts xs [] [] views last w x go reaches now = now
  moves_seen ts xs [] (es ∷ ess) views last w x go reaches now = absurd go
  moves_seen ts xs (m ∷ ms) [] views last w x go reaches now = absurd go
  moves_seen ts xs (m ∷ ms) (es ∷ ess) views last w x go reaches now =
      let rest = flat_map (λ e. e) ess in
      let split = cut_at es rest x (state_after x (es ++ rest)) reaches in
      let y = state_after x es in
      let seen = looks ts xs (record w { world = moved m w.world }) y (move ts xs w x m es go.0 go.1 split.0 now) in
      subst (Within ts xs (watched ms (watched_move m w))) (sym (state_joined x es rest))
      (moves_seen ts xs ms ess go.0 last (watched_move m w) y go.3 (subst (Reaches rest y) (state_joined x es rest) split.1) seen)

  -- moves that are looked at in the end
  moves_only : (ts : List law.Try) (xs : List Intent) (ms : List Move) (ess : List (List AppEvent)) (views last : Views s) (w : Watching) (x : AppWorld) → MovesSimulate s ms ess views last w.world x
      → Reaches (flat_map (λ e. e) ess) x (state_after x (flat_map (λ e. e) ess)) → Within ts xs w x → Within ts xs (record w { world = all_moved ms w.world }) (state_after x (flat_map (λ e. e) ess))
  moves_only ts xs [] [] views last w x go reaches now = now
  moves_only ts xs [] (es ∷ ess) views last w x go reaches now = absurd go
  moves_only ts xs (m ∷ ms) [] views last w x go reaches now = absurd go
  moves_only ts xs (m ∷ ms) (es ∷ ess) views last w x go reaches now =
      let rest = flat_map (λ e. e) ess in
      let split = cut_at es rest x (state_after x (es ++ rest)) reaches in
      let y = state_after x es in
      let then = record w { world = moved m w.world } in
      subst (Within ts xs (record w { world = all_moved ms (moved m w.world) })) (sym (state_joined x es rest))
      (moves_only ts xs ms ess go.0 last then y go.3 (subst (Reaches rest y) (state_joined x es rest) split.1) (move ts xs w x m es go.0 go.1 split.0 now))

  -- the moves of a line
  module _ (ts : List law.Try) (xs : List Intent) (line : WireLine) (ess : List (List AppEvent)) (views last : Views s) (w : Watching) (x : AppWorld) (go : MovesSimulate s (moves_of line w.world) ess views last w.world x)
      (reaches : Reaches (flat_map (λ e. e) ess) x (state_after x (flat_map (λ e. e) ess))) (now : Within ts xs w x) where
    abbrev behind : AppWorld
    behind = state_after x (flat_map (λ e. e) ess)

    at_once : Within ts xs (looked_at (stepped line w.world) w.intents) behind
    at_once = looks ts xs (record w { world = stepped line w.world }) behind (moves_only ts xs (moves_of line w.world) ess views last w x go reaches now)

    by_step : (st : WireStep) → line.step ≡ st → Within ts xs (watched_step st line w) behind
    by_step (wire.Pass conn times) is =
        moves_seen ts xs (passes_where times (position_under conn)) ess views last w x (subst (λ u. MovesSimulate s (step_moves w.world.names (length w.world.wires) line.number u) ess views last w.world x) is go) reaches now
    by_step (wire.Run times) is =
        moves_seen ts xs (rounds_of times (length w.world.wires)) ess views last w x (subst (λ u. MovesSimulate s (step_moves w.world.names (length w.world.wires) line.number u) ess views last w.world x) is go) reaches now
    by_step (wire.Common st) is = at_once
    by_step (wire.Dial device) is = at_once
    by_step (wire.Forget device) is = at_once
    by_step (wire.Close device) is = at_once
    by_step (wire.Up conn count) is = at_once
    by_step (wire.Down conn count) is = at_once
    by_step (wire.Cut conn up down) is = at_once

    line_seen : Within ts xs (watched_line line w) behind
    line_seen = by_step line.step refl

  -- ---- what is noted

  -- the intents of the device are changed, and nothing else of what is known of it
  changed : (ts : List law.Try) (xs : List Intent) (w : Watching) (x : AppWorld) (g : IntentsView → IntentsView) (h : List Intent → List Intent) → ((v : IntentsView) → g v ≡ record v { intents = h v.intents }) → Within ts xs w x
      → Within ts (h xs) (record w { intents = changed_at i g w.intents }) x
  changed ts xs w x g h is now = record {
    beside = now.beside;
    kept = now.kept;
    view = record now.view { intents = h now.view.intents };
    at = at_same i g w.intents ∙ ap (option_map g) now.at ∙ ap (λ v. Some v) (is now.view);
    is_full = now.is_full;
    same = ap h now.same;
    reached = now.reached;
  }

  -- those of another device are
  elsewhere : (ts : List law.Try) (xs : List Intent) (w : Watching) (x : AppWorld) (j : ℕ) (g : IntentsView → IntentsView) → i ≢ j → Within ts xs w x → Within ts xs (record w { intents = changed_at j g w.intents }) x
  elsewhere ts xs w x j g other now = record {
    beside = now.beside;
    kept = now.kept;
    view = now.view;
    at = at_other j i g w.intents other ∙ now.at;
    is_full = now.is_full;
    same = now.same;
    reached = now.reached;
  }

  -- ---- before lines

  module _ (k : ℕ) where
    -- what leads on along these lines
    pub record Leads (rest : List WireLine) (w : Watching) (x : AppWorld) : Type 0 where
      pub runs : List LineRun
      pub views : Views s
      pub go : LinesSimulate s rest runs views w.world x
      pub done_so : AllByRecursion (IsLineDone (owned_of s)) runs
      pub last : AppWorld
      pub reaches : Reaches (flat_map (λ m. m) (lines.moves_of runs)) x last

    pub record Ahead (rest : List WireLine) (w : Watching) : Type 0 where
      pub x : AppWorld
      pub leads : Leads rest w x
      pub xs : List Intent
      pub now : Within (newest_first (tries_under k xs)) xs w x
      pub tries : AreKeptTries i k x xs

    -- what leads on depends on the world alone
    leads_same : (rest : List WireLine) (v w : Watching) (x : AppWorld) → w.world ≡ v.world → Leads rest v x → Leads rest w x
    leads_same rest v w x same l = record {
      runs = l.runs;
      views = l.views;
      go = subst (λ W. LinesSimulate s rest l.runs l.views W x) (sym same) l.go;
      done_so = l.done_so;
      last = l.last;
      reaches = l.reaches;
    }

    -- ---- a line

    module _ (l : RunLine) (rest : List WireLine) (w : Watching) (x : AppWorld) (r : LineRun) (views next : Views s) (xs : List Intent) (go : MovesSimulate s (moves_of l.line w.world) r.moves views next w.world x)
        (reaches : Reaches (events_in r) x (state_after x (events_in r))) (now : Within (newest_first (tries_under k xs)) xs w x) (tries : AreKeptTries i k x xs)
        (further : Leads rest (watched_line l.line w) (state_after x (events_in r))) where
      abbrev then : AppWorld
      then = state_after x (events_in r)

      abbrev seen : Watching
      seen = watched_line l.line w

      abbrev ts : List law.Try
      ts = newest_first (tries_under k xs)

      seen_so : Within ts xs seen then
      seen_so = line_seen ts xs l.line r.moves views next w x go reaches now

      kept_then : AreKeptTries i k then xs
      kept_then y at = tries_along i x (events_in r) then reaches y.to y.tries.items (tries y at)

      -- where no try is noted
      unchanged : Ahead rest seen
      unchanged = record { x = then; leads = further; xs = xs; now = seen_so; tries = kept_then }

      -- one of another intent
      another : (at : Submitted) (t : Try) → IsOther (record { device = i; intent = k }) at → Ahead rest (record seen { intents = changed_at at.device (with_try at.intent t) seen.intents })
      another at t (inl device) = record {
        x = then;
        leads = leads_same rest seen _ then refl further;
        xs = xs;
        now = elsewhere ts xs seen then at.device (with_try at.intent t) device seen_so;
        tries = kept_then;
      }
      another at t (inr both) =
          let more = changed_under at.intent (tried_again t) xs in
          let same : intent_under k more ≡ intent_under k xs = under_other at.intent k (tried_again t) xs both.1 in
          subst (λ j. Ahead rest (record seen { intents = changed_at j (with_try at.intent t) seen.intents })) both.0 (record {
            x = then;
            leads = leads_same rest seen _ then refl further;
            xs = more;
            now = subst (λ us. Within (newest_first us) more (record seen { intents = changed_at i (with_try at.intent t) seen.intents }) then) (sym (ap items_in same))
                (changed ts xs seen then (with_try at.intent t) (changed_under at.intent (tried_again t)) (λ v. refl) seen_so);
            tries = λ y is. kept_then y (sym same ∙ is);
          })

      -- ---- one of the intent itself

      module _ (due : IsDue (record { device = i; intent = k }) l.line w) (t : Try) (made : try_of l.line i w.world ≡ Some t) (line_is : r.line ≡ l.line) (done_so : IsLineDone (owned_of s) r) where
        here : Facts s right i o owned w.world x
        here = facts_in ts xs w x now

        of_line : IsMade l.line i w.world here.state t
        of_line = try_made l.line due.name due.intent.to due.intent.text due.says i w.world due.named here.state here.there t made

        due_there : intent_under k xs ≡ Some due.intent
        due_there = ap (intent_under k) (sym (ap (λ (v : IntentsView). v.intents) (same_Some due.view now.view (sym due.of ∙ now.at)) ∙ now.same)) ∙ due.is

        due_tries : tries_under k xs ≡ due.intent.tries.items
        due_tries = ap items_in due_there

        n_next : t.n ≡ here.device.sessions.n + 1
        n_next = of_line.n ∙ ap next_number here.n ∙ (let few = here.few in least (here.device.sessions.n + 1) (2 ^ 64 - 1) (omega (arith, few)))
          where
            least : (a b : ℕ) → a ≤ b → min a b ≡ a
            least a b low = omega (arith, low)

        is_next : IsNext here.device (as_try t)
        is_next = record {
          epoch = of_line.epoch ∙ here.epoch;
          n = (let number = n_next in omega (arith, number));
          logged = of_line.logged ∙ here.many;
        }

        -- what the line knew of it is what is noted here
        absent_here : (d : DeviceState) → d ≡ here.state → intent_state due.view.full due.view.sure d.client.client due.intent ≡ Absent → intent_state now.view.full now.view.sure here.state.client.client due.intent ≡ Absent
        absent_here d same absent =
            subst (λ (v : IntentsView). intent_state v.full v.sure here.state.client.client due.intent ≡ Absent) (same_Some due.view now.view (sym due.of ∙ now.at))
            (subst (λ (e : DeviceState). intent_state due.view.full due.view.sure e.client.client due.intent ≡ Absent) same absent)

        may : MaySubmit i (as_notes now.view) x here.device ts
        may = by_device (slice_get w.world.devices i) here.there due.open_there
          where
            by_tries : due.intent.tries.items ≡ [] → MaySubmit i (as_notes now.view) x here.device ts
            by_tries none = subst (MaySubmit i (as_notes now.view) x here.device) (sym (ap newest_first (due_tries ∙ none))) tt

            by_device : (od : Option DeviceState) → od ≡ Some here.state → IsOpen od due.view due.intent → MaySubmit i (as_notes now.view) x here.device ts
            by_device None at none = by_tries none
            by_device (Some d) at (inl none) = by_tries none
            by_device (Some d) at (inr absent) =
                let is = absent_beside w.world x here now.view due.intent now.is_full (absent_here d (same_Some d here.state at) absent) (tries due.intent due_there) in
                subst (MaySubmit i (as_notes now.view) x here.device) (sym (ap newest_first due_tries ∙ is.2)) is.3

        tried : Within (as_try t ∷ ts) xs w x
        tried = record {
          beside = now.beside;
          kept = now.kept;
          view = now.view;
          at = now.at;
          is_full = now.is_full;
          same = now.same;
          reached = reached_on i (Tries (as_try t)) (intent_world x now.view ts) (intent_world x now.view (as_try t ∷ ts)) (here.device, here.is, may, is_next, refl) now.reached;
        }

        tried_seen : Within (as_try t ∷ ts) xs seen then
        tried_seen = line_seen (as_try t ∷ ts) xs l.line r.moves views next w x go reaches tried

        -- the message is for the intent's account
        goes_there : AreTo due.intent.to i (spoken_in (events_in r))
        goes_there = said (spoken_in (events_in r)) (subst (λ st. IsDone (owned_of s) st r.line.number (spoken_in (events_in r)) r.refused) (ap (λ (m : WireLine). m.step) line_is ∙ due.says) done_so)
          where
            said : (spoken : List Spoken) → IsDone (owned_of s) (wire.Common (step.Say due.name due.intent.to due.intent.text)) r.line.number spoken r.refused → AreTo due.intent.to i spoken
            said spoken (inl one) = subst (AreTo due.intent.to i) (sym one.4) ((λ at. refl), tt)
            said spoken (inr none) = subst (AreTo due.intent.to i) (sym none.0) tt

        goes_then : MayGo due.intent.to (as_try t) i then
        goes_then =
            goes_along due.intent.to (as_try t) i (events_in r) x then reaches goes_there
            (record { device = here.device; at = here.is; goes = none_yet due.intent.to (as_try t) here.device is_next here.sessions })

        there_then : Facts s right i o owned seen.world then
        there_then = facts_in (as_try t ∷ ts) xs seen then tried_seen

        behind_then : IsBehind (as_try t) there_then.device.sessions
        behind_then =
            let after_is : of_line.after ≡ there_then.state = same_Some of_line.after there_then.state (sym of_line.there ∙ sym (ap (λ (W : ByteWorld). slice_get W.devices i) (followed_world l.line w)) ∙ there_then.there) in
            let epoch : t.epoch ≡ epoch_of there_then.device.sessions = of_line.epoch ∙ sym of_line.said.epoch ∙ ap (λ (d : DeviceState). d.client.client.epoch) after_is ∙ there_then.epoch in
            let number : t.n ≡ there_then.device.sessions.n = sym of_line.said.number ∙ ap (λ (d : DeviceState). d.client.client.n) after_is ∙ there_then.n in
            inr (epoch, omega (arith, number))

        kept_try : IsKeptTry i then due.intent.to t
        kept_try = record {
          sent = record {
            device = there_then.device;
            at = there_then.is;
            goes = subst (λ (d : Device). GoesTo due.intent.to (as_try t) (submitted d.sessions)) (same_Some goes_then.device there_then.device (sym goes_then.at ∙ there_then.is)) goes_then.goes;
            behind = behind_then;
          };
          epoch = (let low = here.few_epochs in let same = is_next.epoch in omega (arith, low, same));
          n = (let low = here.few in let same = n_next in omega (arith, low, same));
        }

        itself : Ahead rest (record seen { intents = changed_at i (with_try k t) seen.intents })
        itself =
            let more = changed_under k (tried_again t) xs in
            let found : intent_under k more ≡ Some (tried_again t due.intent) = under_same k (tried_again t) xs ∙ ap (option_map (tried_again t)) due_there in
            let items : tries_under k more ≡ due.intent.tries.items ++ t ∷ [] = ap items_in found in
            record {
              x = then;
              leads = leads_same rest seen _ then refl further;
              xs = more;
              now = subst (λ us. Within us more (record seen { intents = changed_at i (with_try k t) seen.intents }) then) (ap (λ us. as_try t ∷ newest_first us) due_tries ∙ sym (newest_more due.intent.tries.items t) ∙ sym (ap newest_first items))
                  (changed (as_try t ∷ ts) xs seen then (with_try k t) (changed_under k (tried_again t)) (λ v. refl) tried_seen);
              tries = λ y is.
                  subst (λ (z : Intent). AllByRecursion (IsKeptTry i then z.to) z.tries.items) (same_Some (tried_again t due.intent) y (sym found ∙ is))
                  (one_more (IsKeptTry i then due.intent.to) due.intent.tries.items t (kept_then due.intent due_there) kept_try);
            }

      by_submits : r.line ≡ l.line → IsLineDone (owned_of s) r → (os : Option Submitted) → IsDueAt os l.line w → Ahead rest (noted os l.line w.world seen)
      by_submits line_is done_so None due = unchanged
      by_submits line_is done_so (Some at) due = by_try (try_of l.line at.device w.world) refl
        where
          by_try : (ot : Option Try) → try_of l.line at.device w.world ≡ ot → Ahead rest (noted_try at ot seen)
          by_try None made = unchanged
          by_try (Some t) made = elim (is_it (record { device = i; intent = k }) at) [
            | inr other ↦ another at t other
            | inl same ↦
                subst (λ (a : Submitted). Ahead rest (record seen { intents = changed_at a.device (with_try a.intent t) seen.intents })) (sym same)
                (itself (subst (λ (a : Submitted). IsDue a l.line w) same due) t (subst (λ (a : Submitted). try_of l.line a.device w.world ≡ Some t) same made) line_is done_so)
          ]

    run_line : (l : RunLine) (rest : List WireLine) (w : Watching) → IsDueAt l.submits l.line w → Ahead (l.line ∷ rest) w → Ahead rest (done l w)
    run_line l rest w due a = by a.leads.runs a.leads.go a.leads.done_so a.leads.reaches
      where
        by : (runs : List LineRun) → LinesSimulate s (l.line ∷ rest) runs a.leads.views w.world a.x → AllByRecursion (IsLineDone (owned_of s)) runs → Reaches (flat_map (λ m. m) (lines.moves_of runs)) a.x a.leads.last → Ahead rest (done l w)
        by [] go done_so reaches = absurd go
        by (r ∷ rs) go done_so reaches =
            let later = flat_map (λ m. m) (lines.moves_of rs) in
            let split = cut_at (events_in r) later a.x a.leads.last (subst (λ es. Reaches es a.x a.leads.last) (flat_map-append (λ m. m) r.moves (lines.moves_of rs)) reaches) in
            by_submits l rest w a.x r a.leads.views go.1 a.xs go.2 split.0 a.now a.tries
            (record {
              runs = rs;
              views = go.1;
              go = subst (λ W. LinesSimulate s rest rs go.1 W (state_after a.x (events_in r))) (sym (followed_world l.line w)) go.3;
              done_so = done_so.1;
              last = a.leads.last;
              reaches = split.1;
            })
            go.0 done_so.0 l.submits due

    run_lines : (ls : List RunLine) (rest : List WireLine) (w : Watching) → AreDue ls w → Ahead (map line_in ls ++ rest) w → Ahead rest (all_done ls w)
    run_lines [] rest w due a = a
    run_lines (l ∷ ls) rest w due a = run_lines ls rest (done l w) due.1 (run_line l (map line_in ls ++ rest) w due.0 a)

    -- ---- a line of the file

    begins_so : (b : Asked) (rest : List WireLine) (w : Watching) → Ahead rest w → Ahead rest (begun b w)
    begins_so Asked.Plain rest w a = a
    begins_so (Asked.Resolve device index most) rest w a = a
    begins_so Asked.Nothing rest w a = a
    begins_so (Asked.NewIntent index to text) rest w a = elim (eqb_tells i index) [
      | inr other ↦ record {
        x = a.x;
        leads = leads_same rest w _ a.x refl a.leads;
        xs = a.xs;
        now = elsewhere (newest_first (tries_under k a.xs)) a.xs w a.x index (with_intent to text) other.1 a.now;
        tries = a.tries;
      }
      | inl same ↦
          let more = a.xs ++ new_intent to text ∷ [] in
          subst (λ j. Ahead rest (record w { intents = changed_at j (with_intent to text) w.intents })) same.1 (record {
            x = a.x;
            leads = leads_same rest w _ a.x refl a.leads;
            xs = more;
            now = subst (λ us. Within (newest_first us) more (record w { intents = changed_at i (with_intent to text) w.intents }) a.x) (sym (tries_with k to text a.xs))
                (changed (newest_first (tries_under k a.xs)) a.xs w a.x (with_intent to text) (λ xs. xs ++ new_intent to text ∷ []) (λ v. refl) a.now);
            tries = λ y is. elim (added k to text a.xs y is) [
              | inl old ↦ a.tries y old
              | inr none ↦ subst (AllByRecursion (IsKeptTry i a.x y.to)) (sym none) tt
            ];
          })
    ]

    pub run_file : (f : FileView) (ls : List WireLine) (w : Watching) → AreAllDue f ls w → Ahead (map line_in (all_lines f ls w)) w → Ahead [] (all_gone f ls w)
    run_file f [] w due a = a
    run_file f (line ∷ ls) w due a =
        let first = lines_of f line w in
        let later = all_lines f ls (gone f line w) in
        let begins = begun (asked f w.world.names line) w in
        run_file f ls (gone f line w) due.1
        (run_lines first (map line_in later) begins due.0 (begins_so (asked f w.world.names line) (map line_in first ++ map line_in later) w (subst (λ xs. Ahead xs w) (map-append line_in first later) a)))
