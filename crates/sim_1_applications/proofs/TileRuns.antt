-- A8 along every run.
use Rattle.std.proofs.Common.{◌≡◌, ℕ, ◌+◌, ◌-◌, ◌<◌, ◌≤◌, ◌≢◌, ◌==◌, Bool, true, false, cond, List, [], ◌∷◌, ◌++◌, Option, Some, None, length, map, refl, sym, ap, ◌∙◌, ◌⊎◌, subst, arith, inl, inr}
use Rattle.std.specs.List.{slice_get, flat_map}
use Rattle.std.specs.Option.{option_map}
use Rattle.std.specs.Prelude.{nat_le}
use Rattle.std.proofs.lemmas.List.{length-append}
use Rattle.sim_1_applications.specs.Stanzas.{Up, Down, answers}
use Rattle.sim_1_applications.specs.Stanzas.Up.{Carbons, Presence, Message, Query}
use Rattle.sim_1_applications.specs.Stanzas.Down.{Accepted, Bounced, Live, Res, Fin, NotFound}
use Rattle.sim_1_applications.specs.Devices.{Reading, Device, Take, AppWorld, OpenPage, Answer, last_of, log_of, new_device}
use Rattle.sim_1_applications.specs.Answers.{page_answer_of, is_position, edge, last_in, size}
use Rattle.sim_1_applications.specs.Events.{number_or_none}
use Rattle.sim_1_applications.specs.Events as events
use Rattle.sim_1_applications.specs.Events.AppEvent.{At, Tick}
use Rattle.sim_1_applications.specs.Kept.{AreTiles, IsTile, TilesKept, Taken, Read, ends_at, numbers_by, top_of}
use Rattle.sim_1_applications.proofs.Intervals.{length_after}
use Rattle.sim_1_applications.proofs.Logs.{run_after}
use Rattle.sim_1_applications.proofs.Answered.{IsNext, Next, next_answer, Kind, AResult, AnEnd, NoPlace, kind_of, numbers_of, end_of, reads_result, lost_position, reads_restart, ended, TakenThen, taken_then, end_is_read}
use Rattle.sim_1_applications.proofs.Handled.{ReadKept, log_grown}
use Rattle.sim_1_applications.proofs.Tiles.{IsEnded, last_of_log, log_last, numbers_end, numbers_push, page_ended, tile_end, tiles_grow, tiles_push, top_push, top_within}
use Rattle.sim_1_applications.proofs.Archives.{last_grows}
use Rattle.sim_1_applications.proofs.Takes.{account_hear_all, account_own}
use Rattle.sim_1_applications.proofs.ReadRuns.{PagesKept, ReadAt, pages_moves, pages_beginning}
use Rattle.sim_1_applications.proofs.Runs.{taken_moves, taken_beginning, one_of}
use Rattle.sim_1_applications.proofs.Worlds.{same_position, at_position, was_device}

-- no page is over, and one that is under way is the same or was asked for now
pub record SameLog (last : ℕ) (b c : Reading) : Type 0 where
  pub tiles : c.tiles ≡ b.tiles
  pub broken : c.broken ≡ b.broken
  pub run : c.run ≡ b.run
  pub page : (q : OpenPage) → c.page ≡ Some q → ((p : OpenPage) × (b.page ≡ Some p) × (q.began ≡ p.began)) ⊎ (q.began ≡ last)

tiled_same : (keep last : ℕ) (b c : Reading) → SameLog last b c → TilesKept keep last b → TilesKept keep last c
tiled_same keep last b c same kept = record {
  tiles = subst (AreTiles keep 0 0 last) (sym same.tiles) kept.tiles;
  numbers = ap (λ bs. flat_map (λ r. r) bs ++ c.run) same.broken ∙ ap (λ r. flat_map (λ l. l) b.broken ++ r) same.run ∙ kept.numbers ∙ ap (numbers_by keep 0) (sym same.tiles);
  page = λ q at.
      let top = ap (top_of 0) same.tiles in
      elim (same.page q at) [
        | inl was ↦ let low = kept.page was.0 was.1 in let began = was.2 in omega arith
        | inr new ↦ let low = top_within keep 0 0 last b.tiles kept.tiles in omega arith
      ];
}

itself : (last : ℕ) (b : Reading) → SameLog last b b
itself last b = record { tiles = refl; broken = refl; run = refl; page = λ q at. inl (q, at, refl) }

some_is : {A : Type 0} (x y : A) → Some x ≡ Some y → x ≡ y
some_is x y e = cc

-- without a page
pageless : (last : ℕ) (b c : Reading) → c.tiles ≡ b.tiles → c.broken ≡ b.broken → c.run ≡ b.run → c.page ≡ None → SameLog last b c
pageless last b c tiles broken run none = record { tiles = tiles; broken = broken; run = run; page = λ q at. absurd (let bad : ⊥ = cc in bad) }

-- with a page that was asked for now
asked_now : (last : ℕ) (b c : Reading) (q : OpenPage) → c.tiles ≡ b.tiles → c.broken ≡ b.broken → c.run ≡ b.run → c.page ≡ Some q → q.began ≡ last → SameLog last b c
asked_now last b c q tiles broken run is began = record {
  tiles = tiles;
  broken = broken;
  run = run;
  page = λ r at. inr (let same : q.began ≡ r.began = ap (λ (p : OpenPage). p.began) (some_is q r (sym is ∙ at)) in sym same ∙ began);
}

-- with the page that was there
with_same : (last : ℕ) (b c : Reading) (p q : OpenPage) → c.tiles ≡ b.tiles → c.broken ≡ b.broken → c.run ≡ b.run → b.page ≡ Some p → c.page ≡ Some q → q.began ≡ p.began → SameLog last b c
with_same last b c p q tiles broken run was is began = record {
  tiles = tiles;
  broken = broken;
  run = run;
  page = λ r at. inl (p, was, let same : q.began ≡ r.began = ap (λ (y : OpenPage). y.began) (some_is q r (sym is ∙ at)) in sym same ∙ began);
}

same_served : (a : events.Around) (z : Up) (b : Reading) → SameLog a.last b (events.reading_served a z b)
same_served a Carbons b = itself a.last b
same_served a Presence b = itself a.last b
same_served a (Message m) b = itself a.last b
same_served a (Query r) b = of_page b.page refl
  where
    began_of : (p : OpenPage) (c : Bool) → (cond c (record p { answer = Some (record { first = a.first; last = a.last; rest = page_answer_of a.first a.last r }) }) p).began ≡ p.began
    began_of p true = refl
    began_of p false = refl

    of_page : (o : Option OpenPage) → b.page ≡ o → SameLog a.last b (record b { page = option_map (events.answered a r) o })
    of_page None is = pageless a.last b (record b { page = None }) refl refl refl refl
    of_page (Some p) is = with_same a.last b (record b { page = Some (events.answered a r p) }) p (events.answered a r p) refl refl refl is refl (began_of p (p.number == r.number))

same_server : (a : events.Around) (fits : ℕ) (zs : List Up) (d : Device) → SameLog a.last d.reading (events.served a fits zs d).reading
same_server a fits [] d = itself a.last d.reading
same_server a fits (z ∷ rest) d = same_served a z d.reading

same_own : (a : events.Around) (act : events.Act) (d : Device) → act ≢ events.Act.ClientHandles → SameLog a.last d.reading (events.own a act d).reading
same_own a events.Act.Bind d other = itself a.last d.reading
same_own a (events.Act.ReadBound live) d other = itself a.last d.reading
same_own a events.Act.Enable d other = itself a.last d.reading
same_own a events.Act.ReadEnabled d other = itself a.last d.reading
same_own a events.Act.End d other = itself a.last d.reading
same_own a events.Act.Drop d other = pageless a.last d.reading (record d.reading { page = None }) refl refl refl refl
same_own a (events.Act.Acknowledge n) d other = itself a.last d.reading
same_own a (events.Act.Say to text private) d other = itself a.last d.reading
same_own a (events.Act.CatchUp max) d other =
    asked_now a.last d.reading (events.own a (events.Act.CatchUp max) d).reading
    (record { number = d.reading.asked + 1; after = last_in d.reading.run; max = max; results = []; began = a.last; answer = None }) refl refl refl refl refl
same_own a (events.Act.ServerHandles fits full) d other = same_server a fits d.sessions.now.up_rest d
same_own a events.Act.ClientHandles d other = absurd (other refl)

pub same_hear_all : (takes : List Take) (full : List ℕ) (ts : List Take) (j : ℕ) (d : Device) → (events.hear_all takes full ts j d).reading ≡ d.reading
same_hear_all takes full [] j d = refl
same_hear_all takes full (t ∷ ts) j d = same_hear_all takes full ts j (events.hear takes full t j d)

-- the end of a page
tiled_end : (keep : ℕ) (x : events.Around) (d : Device) (page : OpenPage) (a : Answer) (rest tail : List Down) → 1 ≤ keep →
    IsNext keep x.first x.last d page a (end_of a page) rest tail → is_position a.first a.last page.after ≡ true → page.results ≡ numbers_of a page →
    ReadKept keep x.first x.last d → TilesKept keep x.last d.reading → TilesKept keep x.last (events.reads x (end_of a page) d.reading).reading
tiled_end keep x d page a rest tail some next placed results kept tiled =
    subst (λ reaction. TilesKept keep x.last reaction.reading) (sym (end_is_read keep x d page a rest tail next results then))
    (chosen (nat_le (a.last - edge a.first page.after) page.max) refl)
  where
    count : ℕ
    count = a.last + 1 - a.first

    then : TakenThen d.reading page a
    then = taken_then keep x.first x.last d page a (end_of a page) rest tail some next placed kept.log.runs

    n : ℕ
    n = ends_at keep 0 d.reading.tiles

    number : ends_at keep 0 d.reading.tiles ≡ number_or_none (last_in d.reading.run)
    number = sym (ap number_or_none (sym (last_of_log x.first x.last d.reading.broken d.reading.run kept.log.runs) ∙ ap last_in tiled.numbers) ∙ log_last keep x.last d.reading.tiles some tiled.tiles)

    ended_is : IsEnded keep (ends_at keep 0 d.reading.tiles) page a
    ended_is =
        let low = next.answered.logged in
        let same = number in
        page_ended keep (ends_at keep 0 d.reading.tiles) d.reading.run page a number next.answered.kept next.answered.position placed (omega arith)

    grown : log_of (events.logged page d.reading) ≡ log_of d.reading ++ page.results
    grown = log_grown (events.is_broken page.after d.reading.run page.results) d.reading.broken d.reading.run page.results

    one : (complete : Bool) → nat_le (a.last - edge a.first page.after) page.max ≡ complete →
        IsTile keep (ends_at keep 0 d.reading.tiles) (top_of 0 d.reading.tiles) (events.tile x complete (a.last + 1 - a.first) page)
    one complete is = tile_end keep (ends_at keep 0 d.reading.tiles) (top_of 0 d.reading.tiles) x page a some next.opened.some next.answer_is ended_is results
        (tiled.page page next.page_is) next.answered.began next.answered.last_rises complete is

    laid : (complete : Bool) → nat_le (a.last - edge a.first page.after) page.max ≡ complete → (c : Reading) → c.tiles ≡ (events.over x complete (a.last + 1 - a.first) page d.reading).tiles →
        log_of c ≡ log_of (events.logged page d.reading) → ((q : OpenPage) → c.page ≡ Some q → q.began ≡ x.last) → TilesKept keep x.last c
    laid complete is c tiles log new =
        let t = events.tile x complete (a.last + 1 - a.first) page in
        record {
          tiles = subst (AreTiles keep 0 0 x.last) (sym tiles) (tiles_push keep 0 0 x.last x.last d.reading.tiles t (one complete is) (let z : x.last ≤ x.last = omega arith in z) tiled.tiles);
          numbers = log ∙ grown ∙ ap (λ l. l ++ page.results) tiled.numbers
              ∙ ap (λ l. numbers_by keep 0 d.reading.tiles ++ l) (numbers_end keep (ends_at keep 0 d.reading.tiles) x complete (a.last + 1 - a.first) page a next.answer_is ended_is results)
              ∙ sym (numbers_push keep 0 d.reading.tiles t) ∙ ap (numbers_by keep 0) (sym tiles);
          page = λ q at. let began = new q at in let top = ap (top_of 0) tiles ∙ top_push 0 d.reading.tiles t in omega arith;
        }

    chosen : (complete : Bool) → nat_le (a.last - edge a.first page.after) page.max ≡ complete → TilesKept keep x.last (ended x complete count page d.reading).reading
    chosen true is = laid true is (ended x true count page d.reading).reading refl refl (λ q at. absurd (let bad : ⊥ = cc in bad))
    chosen false is = laid false is (ended x false count page d.reading).reading refl refl (λ q at. began_now (run_after page.after d.reading.run page.results) q at)
      where
        began_now : (run : List ℕ) (q : OpenPage) → Some (record { number = d.reading.asked + 1; after = last_in run; max = page.max; results = []; began = x.last; answer = None }) ≡ Some q → q.began ≡ x.last
        began_now run q at = ap (λ (p : OpenPage). p.began) (sym (some_is _ q at))

tiled_answer : (keep : ℕ) (x : events.Around) (z : Down) (rest : List Down) (d : Device) → 1 ≤ keep → d.sessions.now.down_rest ≡ z ∷ rest → answers (z ∷ []) ≡ z ∷ [] →
    d.sessions.online ≡ true → ReadKept keep x.first x.last d → TilesKept keep x.last d.reading → TilesKept keep x.last (events.reads x z d.reading).reading
tiled_answer keep x z rest d some split is on kept tiled = of_next (next_answer keep x.first x.last d z rest on split is kept.page)
  where
    of_kind : (page : OpenPage) (a : Answer) (tail : List Down) → IsNext keep x.first x.last d page a z rest tail → Kind page a z tail → TilesKept keep x.last (events.reads x z d.reading).reading
    of_kind page a tail next (AResult n more z_is numbers tail_is) =
        let size_is = length_after (edge a.first page.after) (size (edge a.first page.after) a.last page.max) in
        let both = length-append page.results (n ∷ more) in
        let whole = ap length numbers in
        let short : length page.results < page.max = omega arith in
        subst (λ y. TilesKept keep x.last (events.reads x y d.reading).reading) (sym z_is)
        (subst (λ reaction. TilesKept keep x.last reaction.reading) (sym (reads_result x d.reading page a n tail next.page_is next.answer_is (next.split ∙ ap (λ y. y ∷ tail) z_is) short))
        (tiled_same keep x.last d.reading (record d.reading { page = Some (record page { results = page.results ++ n ∷ []; answer = Some (record a { rest = tail }) }) })
        (with_same x.last d.reading (record d.reading { page = Some (record page { results = page.results ++ n ∷ []; answer = Some (record a { rest = tail }) }) })
        page (record page { results = page.results ++ n ∷ []; answer = Some (record a { rest = tail }) }) refl refl refl next.page_is refl refl) tiled))
    of_kind page a tail next (AnEnd placed z_is results over) =
        subst (λ y. TilesKept keep x.last (events.reads x y d.reading).reading) (sym z_is)
        (tiled_end keep x d page a rest tail some (subst (λ y. IsNext keep x.first x.last d page a y rest tail) z_is next) placed results kept tiled)
    of_kind page a tail next (NoPlace lost z_is results over) =
        let position = lost_position a.first a.last d.reading.run page.after lost next.answered.position next.answered.logged in
        subst (λ y. TilesKept keep x.last (events.reads x y d.reading).reading) (sym z_is)
        (subst (λ reaction. TilesKept keep x.last reaction.reading) (sym (reads_restart x d.reading page position.0 next.page_is position.1))
        (tiled_same keep x.last d.reading (events.asking None page.max page.began d.reading).reading
        (with_same x.last d.reading (events.asking None page.max page.began d.reading).reading page
        (record { number = d.reading.asked + 1; after = None; max = page.max; results = []; began = page.began; answer = None }) refl refl refl next.page_is refl refl) tiled))

    of_next : Next keep x.first x.last d z rest → TilesKept keep x.last (events.reads x z d.reading).reading
    of_next n = of_kind n.page n.a n.tail n.is (kind_of n.page n.a z n.tail (ap (λ l. map (Res n.page.number) n.page.results ++ l) (sym n.is.split) ∙ n.is.answered.answer))

tiled_read : (keep : ℕ) (x : events.Around) (zs : List Down) (d : Device) → 1 ≤ keep → d.sessions.now.down_rest ≡ zs → d.sessions.online ≡ true → ReadKept keep x.first x.last d →
    TilesKept keep x.last d.reading → TilesKept keep x.last (events.read x zs d).reading
tiled_read keep x [] d some split on kept tiled = tiled
tiled_read keep x (Accepted ∷ rest) d some split on kept tiled = tiled
tiled_read keep x (Bounced e n ∷ rest) d some split on kept tiled = tiled
tiled_read keep x (Live n ∷ rest) d some split on kept tiled = tiled_same keep x.last d.reading (events.hold n d.reading) (record { tiles = refl; broken = refl; run = refl; page = λ q at. inl (q, at, refl) }) tiled
tiled_read keep x (Res q n ∷ rest) d some split on kept tiled = tiled_answer keep x (Res q n) rest d some split refl on kept tiled
tiled_read keep x (Fin q c l t ∷ rest) d some split on kept tiled = tiled_answer keep x (Fin q c l t) rest d some split refl on kept tiled
tiled_read keep x (NotFound q ∷ rest) d some split on kept tiled = tiled_answer keep x (NotFound q) rest d some split refl on kept tiled

tiled_own : (keep : ℕ) (a : events.Around) (act : events.Act) (d : Device) → 1 ≤ keep → events.May act d → ReadKept keep a.first a.last d → TilesKept keep a.last d.reading →
    TilesKept keep a.last (events.own a act d).reading
tiled_own keep a act d some may kept tiled = by_act act may
  where
    others : (x : events.Act) → x ≢ events.Act.ClientHandles → TilesKept keep a.last (events.own a x d).reading
    others x other = tiled_same keep a.last d.reading (events.own a x d).reading (same_own a x d other) tiled

    by_act : (x : events.Act) → events.May x d → TilesKept keep a.last (events.own a x d).reading
    by_act events.Act.ClientHandles m = tiled_read keep a d.sessions.now.down_rest d some refl m.0 kept tiled
    by_act events.Act.Bind m = others events.Act.Bind (λ e. let bad : ⊥ = cc in bad)
    by_act (events.Act.ReadBound live) m = others (events.Act.ReadBound live) (λ e. let bad : ⊥ = cc in bad)
    by_act events.Act.Enable m = others events.Act.Enable (λ e. let bad : ⊥ = cc in bad)
    by_act events.Act.ReadEnabled m = others events.Act.ReadEnabled (λ e. let bad : ⊥ = cc in bad)
    by_act events.Act.End m = others events.Act.End (λ e. let bad : ⊥ = cc in bad)
    by_act events.Act.Drop m = others events.Act.Drop (λ e. let bad : ⊥ = cc in bad)
    by_act (events.Act.Acknowledge n) m = others (events.Act.Acknowledge n) (λ e. let bad : ⊥ = cc in bad)
    by_act (events.Act.Say to text private) m = others (events.Act.Say to text private) (λ e. let bad : ⊥ = cc in bad)
    by_act (events.Act.CatchUp max) m = others (events.Act.CatchUp max) (λ e. let bad : ⊥ = cc in bad)
    by_act (events.Act.ServerHandles fits full) m = others (events.Act.ServerHandles fits full) (λ e. let bad : ⊥ = cc in bad)

abbrev pub TiledAt : ℕ → List Take → Device → Type 0
TiledAt keep takes d = TilesKept keep (last_of takes d.account) d.reading

tiled_becomes : (w : AppWorld) (new : List Take) (i : ℕ) (act : events.Act) (own : Device) (j : ℕ) (d : Device) → 1 ≤ w.keep →
    slice_get w.devices i ≡ Some own → events.May act own → slice_get w.devices j ≡ Some d → ReadAt w.keep w.takes d → TiledAt w.keep w.takes d →
    TiledAt w.keep (w.takes ++ new) (events.becomes w new i act j d)
tiled_becomes w new i act own j d some at may here kept tiled =
    at_position (j == i) _ _ (λ e. TiledAt w.keep (w.takes ++ new) (events.hear_all (w.takes ++ new) (events.full_of act) new j e))
    (λ is.
    let j_is_i = same_position j i is in
    let same : own ≡ d = (let g : slice_get w.devices j ≡ slice_get w.devices i = ap (slice_get w.devices) j_is_i in cc) in
    let acted = events.own (events.around w d) act d in
    heard acted (subst (λ a. TilesKept w.keep (last_of w.takes a) acted.reading) (sym (account_own (events.around w d) act d))
    (tiled_own w.keep (events.around w d) act d some (subst (events.May act) same may) kept tiled)))
    (λ _. heard d tiled)
  where
    heard : (e : Device) → TiledAt w.keep w.takes e → TiledAt w.keep (w.takes ++ new) (events.hear_all (w.takes ++ new) (events.full_of act) new j e)
    heard e was =
        let grows = last_grows w.takes new e.account in
        let last = last_of (w.takes ++ new) e.account in
        subst (λ a. TilesKept w.keep (last_of (w.takes ++ new) a) (events.hear_all (w.takes ++ new) (events.full_of act) new j e).reading)
        (sym (account_hear_all (w.takes ++ new) (events.full_of act) new j e))
        (subst (TilesKept w.keep last) (sym (same_hear_all (w.takes ++ new) (events.full_of act) new j e))
        (record { tiles = tiles_grow w.keep 0 0 (last_of w.takes e.account) last e.reading.tiles (omega arith) was.tiles; numbers = was.numbers; page = was.page }))

AllTiled : AppWorld → Type 0
AllTiled w = (i : ℕ) (d : Device) → slice_get w.devices i ≡ Some d → TiledAt w.keep w.takes d

tiled_moves : (event : events.AppEvent) (w next : AppWorld) → events.Moves event w next → PagesKept w → AllTiled w → AllTiled next
unfolding AllTiled
tiled_moves (Tick ms) w next is kept tiled = subst AllTiled (sym is) (λ i d at. tiled i d at)
tiled_moves (At i act) w next is kept tiled = subst AllTiled (sym is.3) (λ j e here.
    let new = events.taken_by w.accounts w.clock i is.0 act in
    let before = was_device (events.becomes w new i act) w.devices j e here in
    subst (TiledAt w.keep (w.takes ++ new)) (sym before.2)
    (tiled_becomes w new i act is.0 j before.0 kept.some is.1 is.2 before.1 (kept.devices j before.0 before.1) (tiled j before.0 before.1)))

-- both together
both_kept : (w : AppWorld) → PagesKept w → AllTiled w → Read w
unfolding AllTiled
both_kept w pages tiled = record {
  keep = pages.some;
  devices = λ i d at. let p = pages.devices i d at in record { page = p.page; log = p.log; tiles = tiled i d at };
}

-- A6 to A9 are kept by each event
pub read_moves : (event : events.AppEvent) (w next : AppWorld) → events.Moves event w next → Taken w → Read w → Read next
unfolding AllTiled
read_moves event w next is taken kept =
    let pages : PagesKept w = record { some = kept.keep; devices = λ i d at. let k = kept.devices i d at in record { page = k.page; log = k.log } } in
    both_kept next (pages_moves event w next is taken pages) (tiled_moves event w next is pages (λ i d at. (kept.devices i d at).tiles))

new_tiles : (keep : ℕ) (account : List ℕ) → TiledAt keep [] (new_device account)
new_tiles keep account = record {
  tiles = (let z : 0 ≤ last_of [] account = omega arith in z);
  numbers = refl;
  page = λ p none. absurd (let bad : ⊥ = cc in bad);
}

-- they hold at the beginning
pub read_beginning : (keep : ℕ) → 1 ≤ keep → (accounts homes : List (List ℕ)) → Read (events.beginning keep accounts homes)
unfolding AllTiled
read_beginning keep some accounts homes =
    both_kept (events.beginning keep accounts homes) (pages_beginning keep some accounts homes)
    (λ i d at. one_of (λ j e. TiledAt keep [] e) homes i d (new_tiles keep) at)

pub read_along : (all : List events.AppEvent) (w last : AppWorld) → events.Reaches all w last → Taken w → Read w → Read last
read_along [] w last is taken kept = subst Read (sym is) kept
read_along (event ∷ all) w last reaches taken kept =
    read_along all reaches.0 last reaches.2 (taken_moves event w reaches.0 reaches.1 taken) (read_moves event w reaches.0 reaches.1 taken kept)

-- and in each world that is reached
pub read_reached : (w : AppWorld) → events.Reached w → Read w
read_reached w reached =
    read_along reached.events (events.beginning reached.keep reached.accounts reached.homes) w reached.reaches
    (taken_beginning reached.keep reached.accounts reached.homes) (read_beginning reached.keep reached.some reached.accounts reached.homes)
