-- A6, A7 and A9 along every run.
use Rattle.std.proofs.Common.{◌≡◌, ℕ, suc, zero, ◌+◌, ◌-◌, ◌≤◌, ◌≢◌, ◌==◌, Bool, true, false, cond, List, [], ◌∷◌, ◌++◌, Option, Some, length, map, take, refl, sym, ap, ◌∙◌, subst, arith}
use Rattle.std.specs.List.{slice_get, flat_map, filter, AllByRecursion}
use Rattle.std.specs.Prelude.{◌&&◌, ◌||◌, not, nat_le}
use Rattle.std.specs.Str.{bytes_eq}
use Rattle.sim_1_applications.specs.Stanzas.{Up, Down, lives}
use Rattle.sim_1_applications.specs.Stanzas.Up.{Carbons, Presence, Message, Query}
use Rattle.sim_1_applications.specs.Stanzas.Down.{Accepted, Bounced, Live, Res, Fin, NotFound}
use Rattle.sim_1_applications.specs.Devices.{Reading, Device, Take, AppWorld, first_of, last_of, log_of, concerns, new_device}
use Rattle.sim_1_applications.specs.Answers.{following, last_in, is_position, page_from, edge, size}
use Rattle.sim_1_applications.specs.Events.{number_or_none, is_number_among}
use Rattle.sim_1_applications.specs.Events as events
use Rattle.sim_1_applications.specs.Events.AppEvent.{At, Tick}
use Rattle.sim_1_applications.specs.Kept.{LogKept, AreLogged, AreApart, SessionsKept, Taken}
use Rattle.sim_1_applications.proofs.Numbered.{lives_append}
use Rattle.sim_1_applications.proofs.Lists.{all_append, all_weaker}
use Rattle.sim_1_applications.proofs.Logs.{logged_grows, number_of_run}
use Rattle.sim_1_applications.proofs.Pages.{page_own, page_quiet, page_grown, quiet_hear}
use Rattle.sim_1_applications.proofs.Archives.{last_grows}
use Rattle.sim_1_applications.proofs.Takes.{account_hear_all, account_own}
use Rattle.sim_1_applications.proofs.Handled.{ReadKept, read_kept}
use Rattle.sim_1_applications.proofs.Worlds.{same_position, at_position, was_device}
use Rattle.sim_1_applications.proofs.Runs.{taken_moves, taken_beginning, one_of}

-- A7 where an act happens that isn't the client's

lives_none : (P : ℕ → Type 0) (k : ℕ) (zs : List Down) → lives zs ≡ [] → AllByRecursion P (lives (take k zs))
lives_none P k [] none = nil k
  where
    nil : (n : ℕ) → AllByRecursion P (lives (take n []))
    nil zero = tt
    nil (suc n) = tt
lives_none P zero (z ∷ zs) none = tt
lives_none P (suc k) (Accepted ∷ zs) none = lives_none P k zs none
lives_none P (suc k) (Bounced e n ∷ zs) none = lives_none P k zs none
lives_none P (suc k) (Live n ∷ zs) none = absurd (let wrong : n ∷ lives zs ≡ [] = none in let bad : ⊥ = cc in bad)
lives_none P (suc k) (Res q n ∷ zs) none = lives_none P k zs none
lives_none P (suc k) (Fin q c l t ∷ zs) none = lives_none P k zs none
lives_none P (suc k) (NotFound q ∷ zs) none = lives_none P k zs none

page_no_lives : (q p : ℕ) (ns : List ℕ) (c : Bool) (l : Option ℕ) (t : ℕ) → lives (map (Res p) ns ++ Fin q c l t ∷ []) ≡ []
page_no_lives q p [] c l t = refl
page_no_lives q p (n ∷ ns) c l t = page_no_lives q p ns c l t

reply_no_lives : (a : events.Around) (z : Up) → lives (events.reply a z) ≡ []
reply_no_lives a Carbons = refl
reply_no_lives a Presence = refl
reply_no_lives a (Message m) = chosen (events.is_among m.to a.accounts)
  where
    chosen : (b : Bool) → (let zs : List Down = cond b [] (Bounced m.epoch m.n ∷ []) in lives zs ≡ [])
    chosen true = refl
    chosen false = refl
reply_no_lives a (Query r) = chosen (is_position a.first a.last r.after)
  where
    chosen : (b : Bool) → (let zs : List Down = cond b (page_from (edge a.first r.after) a.first a.last r) (NotFound r.number ∷ []) in lives zs ≡ [])
    chosen true = page_no_lives r.number r.number (following (edge a.first r.after) (size (edge a.first r.after) a.last r.max)) (nat_le (a.last - edge a.first r.after) r.max)
        (last_in (following (edge a.first r.after) (size (edge a.first r.after) a.last r.max))) (a.last + 1 - a.first)
    chosen false = refl

-- the log is the same, and the live messages under way are of the archive
log_frame : (first last : ℕ) (d e : Device) → e.reading.broken ≡ d.reading.broken → e.reading.run ≡ d.reading.run → e.reading.held ≡ d.reading.held →
    AllByRecursion (λ n. (1 ≤ n) × (n ≤ last)) (lives e.sessions.now.down_rest) → LogKept first last d → LogKept first last e
log_frame first last d e broken run held live kept = record {
  runs = subst (λ bs. AreLogged first last bs e.reading.run) (sym broken) (subst (AreLogged first last d.reading.broken) (sym run) kept.runs);
  apart = subst AreApart (sym held) kept.apart;
  held = subst (λ hs. AllByRecursion (λ h. (is_number_among h (log_of e.reading) ≡ false) × (1 ≤ h) × (h ≤ last)) hs) (sym held)
      (subst (λ l. AllByRecursion (λ h. (is_number_among h l ≡ false) × (1 ≤ h) × (h ≤ last)) d.reading.held)
      (ap (λ bs. flat_map (λ r. r) bs ++ d.reading.run) (sym broken) ∙ ap (λ r. flat_map (λ l. l) e.reading.broken ++ r) (sym run)) kept.held);
  live = live;
}

reading_served_same : (a : events.Around) (z : Up) (b : Reading) → ((events.reading_served a z b).broken ≡ b.broken) × ((events.reading_served a z b).run ≡ b.run) × ((events.reading_served a z b).held ≡ b.held)
reading_served_same a Carbons b = (refl, refl, refl)
reading_served_same a Presence b = (refl, refl, refl)
reading_served_same a (Message m) b = (refl, refl, refl)
reading_served_same a (Query r) b = (refl, refl, refl)

log_served : (first last : ℕ) (a : events.Around) (fits : ℕ) (zs : List Up) (d : Device) → LogKept first last d → LogKept first last (events.served a fits zs d)
log_served first last a fits [] d kept = kept
log_served first last a fits (z ∷ rest) d kept =
    let same = reading_served_same a z d.reading in
    log_frame first last d (events.served a fits (z ∷ rest) d) same.0 same.1 same.2
    (subst (AllByRecursion (λ n. (1 ≤ n) × (n ≤ last))) (sym (lives_append d.sessions.now.down_rest (take fits (events.reply a z))))
    (all_append (λ n. (1 ≤ n) × (n ≤ last)) (lives d.sessions.now.down_rest) _ kept.live (lives_none (λ n. (1 ≤ n) × (n ≤ last)) fits (events.reply a z) (reply_no_lives a z)))) kept

log_own : (first last : ℕ) (a : events.Around) (act : events.Act) (d : Device) → act ≢ events.Act.ClientHandles → LogKept first last d → LogKept first last (events.own a act d)
log_own first last a events.Act.Bind d other kept = log_frame first last d _ refl refl refl kept.live kept
log_own first last a (events.Act.ReadBound live) d other kept = log_frame first last d (events.own a (events.Act.ReadBound live) d) refl refl refl tt kept
log_own first last a events.Act.Enable d other kept = log_frame first last d _ refl refl refl kept.live kept
log_own first last a events.Act.ReadEnabled d other kept = log_frame first last d _ refl refl refl kept.live kept
log_own first last a events.Act.End d other kept = log_frame first last d _ refl refl refl kept.live kept
log_own first last a events.Act.Drop d other kept = log_frame first last d (events.own a events.Act.Drop d) refl refl refl kept.live kept
log_own first last a (events.Act.Acknowledge n) d other kept = log_frame first last d (events.own a (events.Act.Acknowledge n) d) refl refl refl kept.live kept
log_own first last a (events.Act.Say to text private) d other kept = log_frame first last d _ refl refl refl kept.live kept
log_own first last a (events.Act.CatchUp max) d other kept = log_frame first last d (events.own a (events.Act.CatchUp max) d) refl refl refl kept.live kept
log_own first last a (events.Act.ServerHandles fits full) d other kept = log_served first last a fits d.sessions.now.up_rest d kept
log_own first last a events.Act.ClientHandles d other kept = absurd (other refl)

-- A6 and A7 of the device where an act happens
pub read_own : (keep : ℕ) (a : events.Around) (act : events.Act) (d : Device) → 1 ≤ keep → events.May act d → a.first ≡ first_of keep a.last → SessionsKept d.sessions →
    ReadKept keep a.first a.last d → ReadKept keep a.first a.last (events.own a act d)
read_own keep a act d some may first sessions kept = by_act act may
  where
    logged : number_or_none (last_in d.reading.run) ≤ a.last
    logged = let n = number_of_run kept.log.runs.from d.reading.run kept.log.runs.is_run in let t = kept.log.runs.through in omega arith

    others : (x : events.Act) → events.May x d → x ≢ events.Act.ClientHandles → ReadKept keep a.first a.last (events.own a x d)
    others x m other = record {
      page = page_own keep a x d m other first logged kept.log.runs.reaches sessions kept.page;
      log = log_own a.first a.last a x d other kept.log;
    }

    by_act : (x : events.Act) → events.May x d → ReadKept keep a.first a.last (events.own a x d)
    by_act events.Act.ClientHandles m = read_kept keep a d.sessions.now.down_rest d some refl m.0 (sessions.epochs.online m.0) kept
    by_act events.Act.Bind m = others events.Act.Bind m (λ e. let bad : ⊥ = cc in bad)
    by_act (events.Act.ReadBound live) m = others (events.Act.ReadBound live) m (λ e. let bad : ⊥ = cc in bad)
    by_act events.Act.Enable m = others events.Act.Enable m (λ e. let bad : ⊥ = cc in bad)
    by_act events.Act.ReadEnabled m = others events.Act.ReadEnabled m (λ e. let bad : ⊥ = cc in bad)
    by_act events.Act.End m = others events.Act.End m (λ e. let bad : ⊥ = cc in bad)
    by_act events.Act.Drop m = others events.Act.Drop m (λ e. let bad : ⊥ = cc in bad)
    by_act (events.Act.Acknowledge n) m = others (events.Act.Acknowledge n) m (λ e. let bad : ⊥ = cc in bad)
    by_act (events.Act.Say to text private) m = others (events.Act.Say to text private) m (λ e. let bad : ⊥ = cc in bad)
    by_act (events.Act.CatchUp max) m = others (events.Act.CatchUp max) m (λ e. let bad : ⊥ = cc in bad)
    by_act (events.Act.ServerHandles fits full) m = others (events.Act.ServerHandles fits full) m (λ e. let bad : ⊥ = cc in bad)

-- the archive grows, and what is taken is heard

pub read_grown : (keep first last first2 last2 : ℕ) (d : Device) → first ≤ first2 → last ≤ last2 → ReadKept keep first last d → ReadKept keep first2 last2 d
read_grown keep first last first2 last2 d low high kept = record {
  page = page_grown keep first last first2 last2 d low high kept.page;
  log = record {
    runs = logged_grows first last first2 last2 d.reading.broken d.reading.run low high kept.log.runs;
    apart = kept.log.apart;
    held = all_weaker (λ h. (is_number_among h (log_of d.reading) ≡ false) × (1 ≤ h) × (h ≤ last)) (λ h. (is_number_among h (log_of d.reading) ≡ false) × (1 ≤ h) × (h ≤ last2)) d.reading.held
        (λ h k. (k.0, k.1, let b = k.2 in omega arith)) kept.log.held;
    live = all_weaker (λ n. (1 ≤ n) × (n ≤ last)) (λ n. (1 ≤ n) × (n ≤ last2)) (lives d.sessions.now.down_rest) (λ n k. (k.0, let b = k.1 in omega arith)) kept.log.live;
  };
}

-- who hears of a take is concerned
heard_concerned : (p q v n c x o e : Bool) → (p && ((q && v) || (n && c && (x || q) && e))) ≡ true → (x || q) ≡ true
heard_concerned false q v n c x o e heard = absurd (let bad : ⊥ = cc in bad)
heard_concerned true true v n c true o e heard = refl
heard_concerned true true v n c false o e heard = refl
heard_concerned true false v n c true o e heard = refl
heard_concerned true false v true true false o e heard = absurd (let bad : ⊥ = cc in bad)
heard_concerned true false v true false false o e heard = absurd (let bad : ⊥ = cc in bad)
heard_concerned true false v false c false o e heard = absurd (let bad : ⊥ = cc in bad)

is_concerned : (t : Take) (j : ℕ) (d : Device) → events.hears_of t j d ≡ true → concerns d.account t ≡ true
is_concerned t j d heard =
    heard_concerned (events.is_present d.sessions.row) (bytes_eq d.account t.said.to) d.sessions.now.available (not t.said.private) d.sessions.now.carbons (bytes_eq d.account t.account) true (not (j == t.device)) heard

-- the archives of whom a take concerns have an entry
concerned_some : (account : List ℕ) (ts : List Take) → AllByRecursion (λ t. concerns account t ≡ true → 1 ≤ last_of ts account) ts
unfolding last_of
concerned_some account [] = tt
concerned_some account (t ∷ ts) = (
  λ is. subst (λ b. 1 ≤ length (cond b (t ∷ filter (concerns account) ts) (filter (concerns account) ts))) (sym is) (omega arith),
  all_weaker (λ u. concerns account u ≡ true → 1 ≤ last_of ts account) (λ u. concerns account u ≡ true → 1 ≤ last_of (t ∷ ts) account) ts
      (λ u some is. more (concerns account t) (some is)) (concerned_some account ts),
)
  where
    more : (b : Bool) → 1 ≤ length (filter (concerns account) ts) → 1 ≤ length (cond b (t ∷ filter (concerns account) ts) (filter (concerns account) ts))
    more true some = omega arith
    more false some = some

read_hear : (keep first : ℕ) (takes : List Take) (full : List ℕ) (t : Take) (j : ℕ) (d : Device) → (concerns d.account t ≡ true → 1 ≤ last_of takes d.account) →
    ReadKept keep first (last_of takes d.account) d → ReadKept keep first (last_of takes d.account) (events.hear takes full t j d)
read_hear keep first takes full t j d some kept = record {
  page = page_quiet keep first (last_of takes d.account) d _ (quiet_hear takes full t j d) kept.page;
  log = log_frame first (last_of takes d.account) d (events.hear takes full t j d) refl refl refl
      (subst (AllByRecursion (λ n. (1 ≤ n) × (n ≤ last_of takes d.account))) (sym (lives_append d.sessions.now.down_rest _))
      (all_append (λ n. (1 ≤ n) × (n ≤ last_of takes d.account)) (lives d.sessions.now.down_rest) _ kept.log.live (told_live (events.hears_of t j d) (is_number_among j full) refl))) kept.log;
}
  where
    told_live : (h f : Bool) → events.hears_of t j d ≡ h → AllByRecursion (λ n. (1 ≤ n) × (n ≤ last_of takes d.account)) (lives (cond (h && not f) (Live (last_of takes d.account) ∷ []) []))
    told_live true true is = tt
    told_live true false is = ((some (is_concerned t j d is), omega arith), tt)
    told_live false f is = tt

read_hear_all : (keep first : ℕ) (takes : List Take) (full : List ℕ) (ts : List Take) (j : ℕ) (d : Device) → AllByRecursion (λ t. concerns d.account t ≡ true → 1 ≤ last_of takes d.account) ts →
    ReadKept keep first (last_of takes d.account) d → ReadKept keep first (last_of takes d.account) (events.hear_all takes full ts j d)
read_hear_all keep first takes full [] j d some kept = kept
read_hear_all keep first takes full (t ∷ ts) j d some kept = read_hear_all keep first takes full ts j (events.hear takes full t j d) some.1 (read_hear keep first takes full t j d some.0 kept)

-- at the ends of the archive of the device's account after these takes
abbrev pub ReadAt : ℕ → List Take → Device → Type 0
ReadAt keep takes d = ReadKept keep (first_of keep (last_of takes d.account)) (last_of takes d.account) d

read_becomes : (w : AppWorld) (new : List Take) (i : ℕ) (act : events.Act) (own : Device) (j : ℕ) (d : Device) → 1 ≤ w.keep →
    slice_get w.devices i ≡ Some own → events.May act own → slice_get w.devices j ≡ Some d → SessionsKept d.sessions → ReadAt w.keep w.takes d →
    ReadAt w.keep (w.takes ++ new) (events.becomes w new i act j d)
read_becomes w new i act own j d some at may here sessions kept =
    at_position (j == i) _ _ (λ e. ReadAt w.keep (w.takes ++ new) (events.hear_all (w.takes ++ new) (events.full_of act) new j e))
    (λ is.
    let j_is_i = same_position j i is in
    let same : own ≡ d = (let g : slice_get w.devices j ≡ slice_get w.devices i = ap (slice_get w.devices) j_is_i in cc) in
    let acted = events.own (events.around w d) act d in
    let account : acted.account ≡ d.account = account_own (events.around w d) act d in
    heard acted (subst (λ a. ReadKept w.keep (first_of w.keep (last_of w.takes a)) (last_of w.takes a) acted) (sym account)
    (read_own w.keep (events.around w d) act d some (subst (events.May act) same may) refl sessions kept)))
    (λ _. heard d kept)
  where
    heard : (e : Device) → ReadAt w.keep w.takes e → ReadAt w.keep (w.takes ++ new) (events.hear_all (w.takes ++ new) (events.full_of act) new j e)
    heard e was =
        let grows = last_grows w.takes new e.account in
        let first = first_of w.keep (last_of (w.takes ++ new) e.account) in
        subst (λ a. ReadKept w.keep (first_of w.keep (last_of (w.takes ++ new) a)) (last_of (w.takes ++ new) a) (events.hear_all (w.takes ++ new) (events.full_of act) new j e))
        (sym (account_hear_all (w.takes ++ new) (events.full_of act) new j e))
        (read_hear_all w.keep first (w.takes ++ new) (events.full_of act) new j e
        (all_weaker (λ t. concerns e.account t ≡ true → 1 ≤ last_of new e.account) (λ t. concerns e.account t ≡ true → 1 ≤ last_of (w.takes ++ new) e.account) new
        (λ t k is. let low = k is in omega arith) (concerned_some e.account new))
        (read_grown w.keep _ _ first (last_of (w.takes ++ new) e.account) e (omega arith) (omega arith) was))

-- One event.

pub record PagesKept (w : AppWorld) : Type 0 where
  pub some : 1 ≤ w.keep
  pub devices : (i : ℕ) (d : Device) → slice_get w.devices i ≡ Some d → ReadAt w.keep w.takes d

pages_acted : (w : AppWorld) (i : ℕ) (act : events.Act) (own : Device) → slice_get w.devices i ≡ Some own → events.May act own → Taken w → PagesKept w → PagesKept (events.acted w i act own)
pages_acted w i act own at may taken kept =
    let new = events.taken_by w.accounts w.clock i own act in
    record {
      some = kept.some;
      devices = λ j e here.
          let before = was_device (events.becomes w new i act) w.devices j e here in
          subst (ReadAt w.keep (w.takes ++ new)) (sym before.2)
          (read_becomes w new i act own j before.0 kept.some at may before.1 (taken.devices j before.0 before.1).sessions (kept.devices j before.0 before.1));
    }

pub pages_moves : (event : events.AppEvent) (w next : AppWorld) → events.Moves event w next → Taken w → PagesKept w → PagesKept next
pages_moves (Tick ms) w next is taken kept = subst PagesKept (sym is) (record { some = kept.some; devices = kept.devices })
pages_moves (At i act) w next is taken kept = subst PagesKept (sym is.3) (pages_acted w i act is.0 is.1 is.2 taken kept)

new_read : (keep : ℕ) (account : List ℕ) → ReadAt keep [] (new_device account)
new_read keep account = record {
  page = record { early = λ _. refl; offline = λ _. refl; page = λ (e : false ≡ true). absurd (let bad : ⊥ = cc in bad); no_fault = refl };
  log = record {
    runs = record { from = 0; is_run = refl; through = omega arith; reaches = λ n at. absurd (let bad : ⊥ = cc in bad); earlier = let z : 0 ≤ 0 = omega arith in z; none = λ _. refl };
    apart = tt;
    held = tt;
    live = tt;
  };
}

pages_along : (all : List events.AppEvent) (w last : AppWorld) → events.Reaches all w last → Taken w → PagesKept w → PagesKept last
pages_along [] w last is taken kept = subst PagesKept (sym is) kept
pages_along (event ∷ all) w last reaches taken kept =
    pages_along all reaches.0 last reaches.2 (taken_moves event w reaches.0 reaches.1 taken) (pages_moves event w reaches.0 reaches.1 taken kept)

pub pages_beginning : (keep : ℕ) → 1 ≤ keep → (accounts homes : List (List ℕ)) → PagesKept (events.beginning keep accounts homes)
pages_beginning keep some accounts homes =
    record { some = some; devices = λ i d at. one_of (λ j e. ReadAt keep [] e) homes i d (λ account. new_read keep account) at }

-- A6, A7 and A9 hold in each world that is reached
pub pages_reached : (w : AppWorld) → events.Reached w → PagesKept w
pages_reached w reached =
    let begins = events.beginning reached.keep reached.accounts reached.homes in
    pages_along reached.events begins w reached.reaches (taken_beginning reached.keep reached.accounts reached.homes) (pages_beginning reached.keep reached.some reached.accounts reached.homes)
