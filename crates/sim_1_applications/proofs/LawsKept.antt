-- The report of each run keeps the five laws of version 2.
use Rattle.std.proofs.Common.{◌≡◌, ℕ, zero, suc, ◌-◌, ◌<◌, ◌≤◌, true, List, [], ◌∷◌, ◌++◌, Some, length, drop, map, refl, sym, ap, ◌∙◌, subst, arith}
use Rattle.std.proofs.lemmas.Bool.{false≢true}
use Rattle.std.proofs.lemmas.List.{length-map}
use Rattle.std.proofs.lemmas.List.Concat.{flat_map-append}
use Rattle.std.proofs.lemmas.Option.{none-some, same_Some}
use Rattle.std.specs.List.{AllByRecursion, flat_map, slice_get}
use Rattle.mam_archive.specs.Entries.{EntryView, newest}
use Rattle.base_io.specs.Names.{is_among}
use Rattle.mam_pages.specs.Kept.{first_number, last_number}
use Rattle.cmd_report.specs.Lawful.{AreOutcomes, IsAcknowledgedRight, IsOfSchedule, IsOnceInOrder}
use Rattle.cmd_report.specs.LawfulRuns.{ArePagesOfRuns, IsLawfulKeeping, IsNewestOf, IsRunsOf, history_of}
use Rattle.cmd_report.specs.Lines.{entry_line, page_line}
use Rattle.cmd_report.specs.Reports.{AccountView, DeviceView, ReportView}
use Rattle.cmd_report.specs.Takes.{archive_of}
use Rattle.cmd_report.specs.Worlds.{ReportWorld}
use Rattle.cmd_schedule.proofs.Lists.{all_map, all_of, map-map, map_nothing}
use Rattle.cmd_schedule.proofs.StandingSteps.{AreStanding, home_in, homes_are, homes_exist}
use Rattle.cmd_schedule.specs.Contents.{Owned, accounts_of, devices_of}
use Rattle.cmd_schedule.specs.Schedules.{WireView, keep_of, seen_of}
use Rattle.cmd_schedule.specs.WireGrammar.{nothing_above}
use Rattle.cmd_schedule.specs.declared.schedule.Version.TheVariants.{Two}
use Rattle.sim_1_applications.proofs.Later.{later_along}
use Rattle.sim_1_applications.proofs.Runs.{taken_along, taken_beginning}
use Rattle.sim_1_applications.proofs.Spoken.{all_spoken, said_along, spoken_at}
use Rattle.sim_1_applications.proofs.TileRuns.{read_along, read_beginning}
use Rattle.sim_1_applications.specs.Devices as sessions
use Rattle.sim_1_applications.specs.Devices.{Tile, first_of, last_of, new_device}
use Rattle.sim_1_applications.specs.Events.{AppEvent, devices_of as new_devices}
use Rattle.sim_1_applications.specs.Histories.{asked_of, state_after}
use Rattle.sim_1_applications.specs.Kept.{LogKept, Read, Taken, TilesKept}
use Rattle.sim_1_applications.proofs.Ground.{Ground}
use Rattle.sim_1_applications.proofs.LogLaws.{Logged, runs_right}
use Rattle.sim_1_applications.proofs.Moments.{passed_at, reaches_is, was_device}
use Rattle.sim_1_applications.proofs.Outcomes.{AreTexts, common_lines, events_of, outcomes, said_texts}
use Rattle.sim_1_applications.proofs.Owners.{LineAt, names_differ}
use Rattle.sim_1_applications.proofs.PageLaws.{Paged, pages_right}
use Rattle.sim_1_applications.proofs.Shown.{ends_with, shown_at, shown_numbers}
use Rattle.sim_1_applications.proofs.TakenLaws.{device_acknowledged, device_epochs, device_first, device_gapless, device_numbered, device_settled, each_device, history_is, moments_rise, takes_exist, takes_rise, takes_submitted}
use Rattle.sim_1_applications.proofs.Rendered.{history_few, history_follows, history_long}
use Rattle.sim_1_applications.specs.Reported.{AreDeviceLines, IsShown, account_line, history_at, pages_with}
use Rattle.sim_1_applications.proofs.WireSteps.{wire_stand}
use Rattle.sim_1_applications.specs.Runs.{IsRunOf, LineRun, begins, events_in, moves_of, owned_of, refused_by, steps_in}
use Rattle.sim_1_applications.proofs.Lists.{all_at}
use Rattle.cmd_direct.proofs.LawsKept.{keeps_some}

-- What is known of the last state.

pub standing : (s : WireView) (worlds : List ReportWorld) (r : ReportView) → IsRunOf s worlds r → AreStanding [] (steps_in s)
standing s worlds r run = wire_stand [] nothing_above s.lines refl run.right.lines

pub tiles_many : (keep : ℕ) (history : List EntryView) (ts : List Tile) (numbers : List ℕ) → length (map page_line (pages_with keep history ts numbers)) ≡ length ts
tiles_many keep history [] numbers = refl
tiles_many keep history (t ∷ ts) numbers = ap suc (tiles_many keep history ts (drop t.count numbers))

pub home_at : (owned : List Owned) (i : ℕ) (o : Owned) → slice_get owned i ≡ Some o → slice_get (new_devices (map (λ (p : Owned). p.account) owned)) i ≡ Some (new_device o.account)
home_at [] i o at = absurd (none-some o at)
home_at (p ∷ owned) zero o at = ap (λ (q : Owned). Some (new_device q.account)) (same_Some p o at)
home_at (p ∷ owned) (suc i) o at = home_at owned i o at

pub many_homes : (owned : List Owned) → length (new_devices (map (λ (p : Owned). p.account) owned)) ≡ length owned
many_homes [] = refl
many_homes (p ∷ owned) = ap suc (many_homes owned)

run_taken : (s : WireView) (worlds : List ReportWorld) (r : ReportView) (run : IsRunOf s worlds r) → Taken run.last
run_taken s worlds r run =
    taken_along (flat_map (λ move. move) (moves_of run.runs)) (begins s) run.last run.reaches
    (taken_beginning (keep_of s.version) (accounts_of (steps_in s)) (map (λ (o : Owned). o.account) (owned_of s)))

run_read : (s : WireView) (worlds : List ReportWorld) (r : ReportView) (run : IsRunOf s worlds r) → Read run.last
run_read s worlds r run =
    read_along (flat_map (λ move. move) (moves_of run.runs)) (begins s) run.last run.reaches
    (taken_beginning (keep_of s.version) (accounts_of (steps_in s)) (map (λ (o : Owned). o.account) (owned_of s)))
    (read_beginning (keep_of s.version) (keeps_some s.version run.right.keeps) (accounts_of (steps_in s)) (map (λ (o : Owned). o.account) (owned_of s)))

pub ground_of : (s : WireView) (worlds : List ReportWorld) (r : ReportView) (run : IsRunOf s worlds r) → Ground (keep_of s.version) s.version (owned_of s) (accounts_of (steps_in s)) run.last r
ground_of s worlds r run =
    let later = later_along (flat_map (λ move. move) (moves_of run.runs)) (begins s) run.last run.reaches in
    record {
      some = keeps_some s.version run.right.keeps;
      few = run.few;
      differ = names_differ (steps_in s) (standing s worlds r run);
      taken = run_taken s worlds r run;
      read = run_read s worlds r run;
      keeps = later.keep;
      exist = later.accounts;
      many = later.many ∙ many_homes (owned_of s);
      homes = λ i o d owner at.
          let following = later.devices i (new_device o.account) (home_at (owned_of s) i o owner) in
          let same : following.device ≡ d = same_Some following.device d (sym following.at ∙ at) in
          ap (λ (e : sessions.Device). e.account) (sym same) ∙ following.later.account;
      takes = run.reported.takes;
      devices = run.reported.devices;
    }

-- Lines of the report.

owned_lines : (keep : ℕ) (history : List ℕ → List EntryView) (owned : List Owned) (ds : List sessions.Device) (lines : List DeviceView) → AreDeviceLines keep history owned ds lines →
    map (λ (d : DeviceView). (let o : Owned = record { device = d.name; account = d.account } in o)) lines ≡ owned
owned_lines keep history [] [] [] known = refl
owned_lines keep history [] [] (l ∷ lines) known = absurd known
owned_lines keep history [] (d ∷ ds) [] known = absurd known
owned_lines keep history [] (d ∷ ds) (l ∷ lines) known = absurd known
owned_lines keep history (o ∷ owned) [] [] known = absurd known
owned_lines keep history (o ∷ owned) [] (l ∷ lines) known = absurd known
owned_lines keep history (o ∷ owned) (d ∷ ds) [] known = absurd known
owned_lines keep history (o ∷ owned) (d ∷ ds) (l ∷ lines) known =
    ap (λ name. record { device = name; account = l.account } ∷ map (λ (e : DeviceView). (let p : Owned = record { device = e.name; account = e.account } in p)) lines) known.0.name
    ∙ ap (λ account. record { device = o.device; account = account } ∷ map (λ (e : DeviceView). (let p : Owned = record { device = e.name; account = e.account } in p)) lines) known.0.account
    ∙ ap (λ os. o ∷ os) (owned_lines keep history owned ds lines known.1)

pub of_schedule : (s : WireView) (worlds : List ReportWorld) (r : ReportView) → IsRunOf s worlds r → IsOfSchedule (seen_of s) r
of_schedule s worlds r run =
    let accounts = accounts_of (steps_in s) in
    let keep = keep_of s.version in
    let line : List ℕ → AccountView = λ name. account_line keep (history_at (owned_of s) run.last.takes name) name in
    record {
      mode = run.reported.wire;
      accounts = ap (map (λ (a : AccountView). a.name)) run.reported.accounts ∙ map-map line (λ (a : AccountView). a.name) accounts ∙ map_nothing (λ name. name) accounts (all_of (λ name. name ≡ name) (λ name. refl) accounts);
      devices = owned_lines keep (history_at (owned_of s) run.last.takes) (owned_of s) run.last.devices r.devices run.reported.devices;
      counts = subst (AllByRecursion (λ a. a.count ≡ length a.entries)) (sym run.reported.accounts)
          (all_map (λ a. a.count ≡ length a.entries) line accounts
          (all_of (λ name. (line name).count ≡ length (line name).entries) (λ name. sym (length-map (newest keep (history_at (owned_of s) run.last.takes name)) entry_line)) accounts));
      conns = λ direct. absurd (false≢true (sym direct));
    }

-- What became of the lines.

same_events : (runs : List LineRun) → flat_map (λ (move : List AppEvent). move) (moves_of runs) ≡ events_of runs
same_events [] = refl
same_events (r ∷ runs) = flat_map-append (λ (move : List AppEvent). move) r.moves (moves_of runs) ∙ ap (λ es. events_in r ++ es) (same_events runs)

device_outcomes : (s : WireView) (worlds : List ReportWorld) (r : ReportView) (run : IsRunOf s worlds r) (i : ℕ) (line : DeviceView) →
    LineAt (keep_of s.version) (history_at (owned_of s) run.last.takes) (owned_of s) run.last.devices i line → AreOutcomes line.name (seen_of s).lines line.said (refused_by line.name run.runs)
device_outcomes s worlds r run i line at =
    let g = ground_of s worlds r run in
    let all = flat_map (λ (move : List AppEvent). move) (moves_of run.runs) in
    let said = said_along all (begins s) run.last i [] run.reaches (record { device = new_device at.o.account; at = home_at (owned_of s) i at.o at.owner; whole = refl }) in
    let same : said.device ≡ at.d = same_Some said.device at.d (sym said.at ∙ at.device) in
    let spoken : all_spoken i at.d.sessions ≡ spoken_at i (events_of run.runs) = ap (λ (d : sessions.Device). all_spoken i d.sessions) (sym same) ∙ said.whole ∙ ap (spoken_at i) (same_events run.runs) in
    let texts : AreTexts (spoken_at i (events_of run.runs)) line.said = subst (λ xs. AreTexts xs line.said) spoken (subst (AreTexts (all_spoken i at.d.sessions)) (sym at.is.said) (said_texts i at.d.sessions)) in
    let mine : AreOutcomes at.o.device (common_lines (map (λ (q : LineRun). q.line) run.runs)) line.said (refused_by at.o.device run.runs) = outcomes (owned_of s) i at.o run.runs line.said g.differ at.owner run.done texts in
    subst (λ name. AreOutcomes name (seen_of s).lines line.said (refused_by name run.runs)) (sym at.is.name) (subst (λ lines. AreOutcomes at.o.device (common_lines lines) line.said (refused_by at.o.device run.runs)) run.of_lines mine)

all_pairs : (P Q : DeviceView → Type 0) (R : DeviceView → Type 0) → ((d : DeviceView) → P d → Q d → R d) → (ds : List DeviceView) → AllByRecursion P ds → AllByRecursion Q ds → AllByRecursion R ds
all_pairs P Q R each [] first second = tt
all_pairs P Q R each (d ∷ ds) first second = (each d first.0 second.0, all_pairs P Q R each ds first.1 second.1)

pub said_right : (s : WireView) (worlds : List ReportWorld) (r : ReportView) → IsRunOf s worlds r → AllByRecursion (λ d. AreOutcomes d.name (seen_of s).lines d.said d.refused) r.devices
said_right s worlds r run =
    all_pairs (λ d. AreOutcomes d.name (seen_of s).lines d.said (refused_by d.name run.runs)) (λ d. d.refused ≡ refused_by d.name run.runs) (λ d. AreOutcomes d.name (seen_of s).lines d.said d.refused)
    (λ d are is. subst (AreOutcomes d.name (seen_of s).lines d.said) (sym is) are) r.devices
    (each_device (λ d. AreOutcomes d.name (seen_of s).lines d.said (refused_by d.name run.runs)) (keep_of s.version) s.version (owned_of s) (accounts_of (steps_in s)) run.last r (ground_of s worlds r run) (device_outcomes s worlds r run))
    run.reported.refused

-- Logs and pages.

accounts_exist : (s : WireView) → AreStanding [] (steps_in s) → AllByRecursion (λ (o : Owned). is_among o.account (accounts_of (steps_in s)) ≡ true) (owned_of s)
accounts_exist s known =
    let all = steps_in s in
    subst (AllByRecursion (λ (o : Owned). is_among o.account (accounts_of all) ≡ true)) (homes_are all [] all refl known)
    (all_map (λ (o : Owned). is_among o.account (accounts_of all) ≡ true) (home_in all) (devices_of all) (homes_exist all [] all refl known))

pub device_logged : (s : WireView) (worlds : List ReportWorld) (r : ReportView) (run : IsRunOf s worlds r) (i : ℕ) (line : DeviceView) →
    (at : LineAt (keep_of s.version) (history_at (owned_of s) run.last.takes) (owned_of s) run.last.devices i line) → Logged (keep_of s.version) (history_at (owned_of s) run.last.takes at.o.account) at.d
device_logged s worlds r run i line at =
    let g = ground_of s worlds r run in
    let known = g.read.devices i at.d at.device in
    let history = history_at (owned_of s) run.last.takes at.o.account in
    let home : at.d.account ≡ at.o.account = g.homes i at.o at.d at.owner at.device in
    let long : last_of run.last.takes at.d.account ≡ length history = ap (last_of run.last.takes) home ∙ sym (history_long (owned_of s) run.last.takes at.o.account) in
    let few = history_few (owned_of s) run.last.takes at.o.account in
    let all_few = run.few in
    record {
      some = g.some;
      first = first_of run.last.keep (last_of run.last.takes at.d.account);
      tiles = subst (λ k. TilesKept k (length history) at.d.reading) g.keeps (subst (λ n. TilesKept run.last.keep n at.d.reading) long known.tiles);
      log = subst (λ n. LogKept (first_of run.last.keep (last_of run.last.takes at.d.account)) n at.d) long known.log;
      follow = history_follows (owned_of s) run.last.takes at.o.account;
      few = omega arith;
    }

-- the world at a place, beside the device as it was
record AtWorld (s : WireView) (account : List ℕ) (d : sessions.Device) (line : DeviceView) (shown : ReportWorld) : Type 0 where
  last : ℕ
  is_last : last_number (shown.archive line.account) ≡ last
  is_first : first_number (shown.archive line.account) ≡ suc (last - keep_of s.version)
  asked : (k : ℕ) (t : Tile) → slice_get d.reading.tiles k ≡ Some t → shown.asked line.name ≤ k → last ≤ t.given
  over : (k : ℕ) (t : Tile) → slice_get d.reading.tiles k ≡ Some t → k < length (shown.pages line.name) → t.given ≤ last

at_world : (s : WireView) (worlds : List ReportWorld) (r : ReportView) (run : IsRunOf s worlds r) (i : ℕ) (line : DeviceView) →
    (at : LineAt (keep_of s.version) (history_at (owned_of s) run.last.takes) (owned_of s) run.last.devices i line) → (j : ℕ) (shown : ReportWorld) → slice_get worlds j ≡ Some shown →
    AtWorld s at.o.account at.d line shown
at_world s worlds r run i line at j shown found =
    let g = ground_of s worlds r run in
    let accounts = accounts_of (steps_in s) in
    let homes = map (λ (o : Owned). o.account) (owned_of s) in
    let v = shown_at (owned_of s) _ worlds j shown run.shown found in
    let passed = passed_at (moves_of run.runs) (begins s) run.last j v.state run.reaches (taken_beginning (keep_of s.version) accounts homes)
    (read_beginning (keep_of s.version) (keeps_some s.version run.right.keeps) accounts homes) v.at in
    let later = later_along passed.onward v.state run.last passed.reaches in
    let was = was_device v.state run.last i at.d passed g.read at.device in
    let home : was.was.account ≡ at.o.account = was.account ∙ g.homes i at.o at.d at.owner at.device in
    let keeps : v.state.keep ≡ keep_of s.version = sym later.keep ∙ g.keeps in
    let exist : is_among at.o.account v.state.accounts ≡ true =
    ap (is_among at.o.account) (sym later.accounts ∙ g.exist) ∙ all_at (λ (o : Owned). is_among o.account accounts ≡ true) (owned_of s) i at.o (accounts_exist s (standing s worlds r run)) at.owner in
    let numbers = shown_numbers (owned_of s) v.state shown at.o.account passed.read.keep v.is exist in
    let last_is : last_of v.state.takes was.was.account ≡ last_of v.state.takes at.o.account = ap (last_of v.state.takes) home in
    let pages : length (shown.pages line.name) ≡ length was.was.reading.tiles = ap (λ name. length (shown.pages name)) at.is.name ∙ v.is.pages i at.o was.was at.owner was.at in
    let asked : shown.asked line.name ≡ asked_of was.was.reading = ap shown.asked at.is.name ∙ v.is.asked i at.o was.was at.owner was.at in
    record {
      last = last_of v.state.takes at.o.account;
      is_last = ap (λ account. last_number (shown.archive account)) at.is.account ∙ numbers.last;
      is_first = ap (λ account. first_number (shown.archive account)) at.is.account ∙ numbers.first ∙ ap (λ k. suc (last_of v.state.takes at.o.account - k)) keeps;
      asked = λ k t there early. let low = was.asked k t there (omega arith) in omega arith;
      over = λ k t there few. let high = was.over k t there (omega arith) in omega arith;
    }

pub device_paged : (s : WireView) (worlds : List ReportWorld) (r : ReportView) (run : IsRunOf s worlds r) (i : ℕ) (line : DeviceView) →
    (at : LineAt (keep_of s.version) (history_at (owned_of s) run.last.takes) (owned_of s) run.last.devices i line) → Paged (keep_of s.version) worlds (history_at (owned_of s) run.last.takes at.o.account) at.d line
device_paged s worlds r run i line at =
    record {
      of_log = device_logged s worlds r run i line at;
      pages_are = at.is.pages;
      logged_are = at.is.logged;
      asked = λ k t there j asking found early.
          let v = at_world s worlds r run i line at j asking found in
          let low = v.asked k t there early in
          let last = v.is_last in
          let first = v.is_first in
          (omega arith, omega arith);
      over = λ k t there j taken found few.
          let v = at_world s worlds r run i line at j taken found in
          let high = v.over k t there few in
          let last = v.is_last in
          let first = v.is_first in
          (omega arith, omega arith);
      ends = ends_with (owned_of s) (moves_of run.runs) (begins s) worlds line run.shown
          (λ shown is.
          let last : run.last ≡ state_after (begins s) (flat_map (λ (move : List AppEvent). move) (moves_of run.runs)) = reaches_is (flat_map (λ (move : List AppEvent). move) (moves_of run.runs)) (begins s) run.last run.reaches in
          let here : IsShown (owned_of s) run.last shown = subst (λ v. IsShown (owned_of s) v shown) (sym last) is in
          ap (λ name. length (shown.pages name)) at.is.name ∙ here.pages i at.o at.d at.owner at.device ∙ sym (tiles_many (keep_of s.version) (history_at (owned_of s) run.last.takes at.o.account) at.d.reading.tiles _) ∙ sym (ap length at.is.pages));
    }

-- The laws.

history_same : (keep : ℕ) (s : WireView) (worlds : List ReportWorld) (r : ReportView) (run : IsRunOf s worlds r) → s.version ≡ Two keep → (account : List ℕ) → history_of r account ≡ history_at (owned_of s) run.last.takes account
history_same keep s worlds r run version account =
    ap (archive_of account)
    (history_is (keep_of s.version) (owned_of s) (accounts_of (steps_in s)) run.last r
    (subst (λ v. Ground (keep_of s.version) v (owned_of s) (accounts_of (steps_in s)) run.last r) (version ∙ ap Two (sym (ap keep_of version))) (ground_of s worlds r run)))

newest_kept : (keep : ℕ) (s : WireView) (worlds : List ReportWorld) (r : ReportView) (run : IsRunOf s worlds r) → s.version ≡ Two keep → AllByRecursion (λ a. IsNewestOf (keep_of s.version) (history_of r a.name) a) r.accounts
newest_kept keep s worlds r run version =
    let line : List ℕ → AccountView = λ name. account_line (keep_of s.version) (history_at (owned_of s) run.last.takes name) name in
    subst (AllByRecursion (λ a. IsNewestOf (keep_of s.version) (history_of r a.name) a)) (sym run.reported.accounts)
    (all_map (λ a. IsNewestOf (keep_of s.version) (history_of r a.name) a) line (accounts_of (steps_in s))
    (all_of (λ name. IsNewestOf (keep_of s.version) (history_of r name) (line name))
    (λ name. subst (λ history. IsNewestOf (keep_of s.version) history (line name)) (sym (history_same keep s worlds r run version name)) (record { entries = refl; last = refl })) (accounts_of (steps_in s))))

pub once_in_order : (s : WireView) (worlds : List ReportWorld) (r : ReportView) → IsRunOf s worlds r → IsOnceInOrder (seen_of s) r
once_in_order s worlds r run =
    let g = ground_of s worlds r run in
    record {
      whole = of_schedule s worlds r run;
      rise = takes_rise (keep_of s.version) s.version (owned_of s) (accounts_of (steps_in s)) run.last r g;
      gapless = device_gapless (keep_of s.version) s.version (seen_of s) (owned_of s) run.last r g;
    }

pub acknowledged_right : (s : WireView) (worlds : List ReportWorld) (r : ReportView) → IsRunOf s worlds r → IsAcknowledgedRight (seen_of s) r
acknowledged_right s worlds r run =
    let g = ground_of s worlds r run in
    record {
      whole = of_schedule s worlds r run;
      taken = device_acknowledged (keep_of s.version) s.version (seen_of s) (owned_of s) run.last r g;
      first = device_first (keep_of s.version) s.version (owned_of s) (accounts_of (steps_in s)) run.last r g;
      settled = device_settled (keep_of s.version) s.version (owned_of s) (accounts_of (steps_in s)) run.last r g;
      direct = λ direct. absurd (false≢true (sym direct));
    }

lawful_two : (keep : ℕ) (s : WireView) (worlds : List ReportWorld) (r : ReportView) → s.version ≡ Two keep → IsRunOf s worlds r → IsLawfulKeeping (keep_of s.version) worlds (seen_of s) r
lawful_two keep s worlds r version run =
    let g = ground_of s worlds r run in
    let accounts = accounts_of (steps_in s) in
    let whole = of_schedule s worlds r run in
    let timed = subst (λ v. Ground (keep_of s.version) v (owned_of s) accounts run.last r) (version ∙ ap Two (sym (ap keep_of version))) g in
    record {
      taken = record {
        whole = whole;
        archives = newest_kept keep s worlds r run version;
        moments = moments_rise (keep_of s.version) (owned_of s) accounts run.last r timed;
        submitted = takes_submitted (keep_of s.version) s.version (owned_of s) accounts run.last r g;
        exist = takes_exist (keep_of s.version) s.version (owned_of s) accounts run.last r g;
        numbered = device_numbered (keep_of s.version) s.version (owned_of s) accounts run.last r g;
        epochs = device_epochs (keep_of s.version) s.version (owned_of s) accounts run.last r g;
        said = said_right s worlds r run;
      };
      in_order = once_in_order s worlds r run;
      acknowledged = acknowledged_right s worlds r run;
      logged = record {
        whole = whole;
        runs = each_device (λ d. IsRunsOf (keep_of s.version) (history_of r d.account) d) (keep_of s.version) s.version (owned_of s) accounts run.last r g
            (λ i line at. subst (λ history. IsRunsOf (keep_of s.version) history line) (sym (ap (history_of r) at.is.account ∙ history_same keep s worlds r run version at.o.account))
            (runs_right (keep_of s.version) (history_at (owned_of s) run.last.takes at.o.account) at.d line (device_logged s worlds r run i line at) at.is.logged at.is.held));
      };
      paged = record {
        whole = whole;
        pages = each_device (λ d. ArePagesOfRuns (keep_of s.version) worlds (seen_of s) (history_of r d.account) d) (keep_of s.version) s.version (owned_of s) accounts run.last r g
            (λ i line at. subst (λ history. ArePagesOfRuns (keep_of s.version) worlds (seen_of s) history line) (sym (ap (history_of r) at.is.account ∙ history_same keep s worlds r run version at.o.account))
            (pages_right (keep_of s.version) worlds (seen_of s) (history_at (owned_of s) run.last.takes at.o.account) at.d line refl (device_paged s worlds r run i line at)));
      };
    }

pub lawful_keeping : (keep : ℕ) (s : WireView) (worlds : List ReportWorld) (r : ReportView) → s.version ≡ Two keep → IsRunOf s worlds r → IsLawfulKeeping keep worlds (seen_of s) r
lawful_keeping keep s worlds r version run = subst (λ k. IsLawfulKeeping k worlds (seen_of s) r) (ap keep_of version) (lawful_two keep s worlds r version run)
