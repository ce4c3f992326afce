-- The report of each run of a wire schedule can be read.
use Rattle.std.proofs.Common.{◌≡◌, ℕ, zero, suc, ◌<◌, ◌≤◌, ◌^◌, true, List, [], ◌∷◌, Some, length, map, refl, sym, ap, subst, ◌∙◌, arith, inl, inr}
use Rattle.std.proofs.lemmas.Bool.{cases_Bool}
use Rattle.std.proofs.lemmas.Option.{none-some, same_Some}
use Rattle.std.specs.List.{AllByRecursion}
use Rattle.std.specs.Prelude.{◌==◌, ◌&&◌}
use Rattle.std.specs.Str.{bytes_eq}
use Rattle.base_lemmas.proofs.Lists.{AllByRecursion-weaker}
use Rattle.cmd_direct.proofs.LawLists.{all_among}
use Rattle.base_io.specs.Names.{is_among}
use Rattle.law_reports.proofs.Archived.{IsLined, all_unmap, archive_lined, logged_right, pages_right}
use Rattle.law_reports.proofs.Declared.{IsNamed, IsTaken, both}
use Rattle.law_reports.proofs.DirectReports.{history_right, take_right}
use Rattle.law_reports.proofs.Fields.{id_visible, name_visible, text_on_line, visible_field}
use Rattle.law_reports.proofs.RunLines.{IsCome, IsLineRight, IsSchedules, numbers_few, outcomes_come, wire_lines_few, wire_lines_right}
use Rattle.law_reports.specs.Numbers.{HasNumbers}
use Rattle.cmd_report.specs.Lawful.{AreSubmissions, device_named, submission}
use Rattle.cmd_report.specs.Lines.{logged_from, page_line, take_line}
use Rattle.cmd_report.specs.ReportText.{text_of}
use Rattle.cmd_report.specs.Reports.{AccountView, DeviceView, ReportView}
use Rattle.cmd_report.specs.Worlds.{ReportWorld}
use Rattle.cmd_report.specs.declared.report.HeldLine.{HeldLine}
use Rattle.cmd_report.specs.declared.report.LoggedLine.{LoggedLine}
use Rattle.cmd_report.specs.declared.report.RefusedLine.{RefusedLine}
use Rattle.cmd_report.specs.declared.report.SaidLine.{SaidLine}
use Rattle.cmd_report_reader.proofs.Answered.{apart_of}
use Rattle.cmd_report_reader.specs.Readable.{IsAccount, IsDevice, IsEntry, IsField, IsNumber, IsPage, IsReadable, IsSaid, IsTake, IsUnderway}
use Rattle.cmd_schedule.proofs.Lists.{all_flat_map, all_map, all_of}
use Rattle.cmd_schedule.proofs.StandingSteps.{home_in, homes_are, homes_exist}
use Rattle.cmd_schedule.specs.Contents.{Owned, account_name, accounts_of, device_name, devices_of, home_of}
use Rattle.cmd_schedule.specs.Grammar.{is_name, is_text, may_keep}
use Rattle.cmd_schedule.specs.Schedules.{WireView, keep_of, seen_of}
use Rattle.cmd_schedule.specs.WireGrammar.{nothing_above}
use Rattle.cmd_schedule.specs.declared.schedule.Line.{Line}
use Rattle.sim_1_applications.specs.Devices as sessions
use Rattle.sim_1_applications.specs.Kept.{AreMoments}
use Rattle.sim_1_applications.proofs.Ground.{IsTakeLine, take_lines, takes_within}
use Rattle.sim_1_applications.proofs.LawsKept.{device_logged, ground_of, of_schedule, said_right, standing}
use Rattle.sim_1_applications.proofs.LogLaws.{rendered, rising}
use Rattle.sim_1_applications.proofs.Owners.{LineAt}
use Rattle.sim_1_applications.proofs.TakenLaws.{device_epochs, device_numbered, each_device}
use Rattle.sim_1_applications.proofs.Rendered.{history_few, turns_of}
use Rattle.sim_1_applications.specs.Reported.{account_line, held_line, history_at, name_at, said_line, take_of}
use Rattle.sim_1_applications.specs.Runs.{IsRunOf, owned_of, steps_in}

-- ---- devices and accounts

pub record IsOwner (o : Owned) : Type 0 where
  pub device : is_name o.device ≡ true
  pub account : is_name o.account ≡ true

lines_right : (s : WireView) (worlds : List ReportWorld) (r : ReportView) → IsRunOf s worlds r → AllByRecursion IsLineRight (seen_of s).lines
lines_right s worlds r run = wire_lines_right nothing_above s.lines run.right.lines

accounts_named : (s : WireView) (worlds : List ReportWorld) (r : ReportView) → IsRunOf s worlds r → AllByRecursion IsNamed (accounts_of (steps_in s))
accounts_named s worlds r run =
    all_flat_map IsNamed account_name (steps_in s)
    (all_map (λ step. AllByRecursion IsNamed (account_name step)) (λ (line : Line). line.step) (seen_of s).lines
    (AllByRecursion-weaker IsLineRight (λ (line : Line). AllByRecursion IsNamed (account_name line.step)) (λ line is. is.account) (seen_of s).lines (lines_right s worlds r run)))

devices_named : (s : WireView) (worlds : List ReportWorld) (r : ReportView) → IsRunOf s worlds r → AllByRecursion IsNamed (devices_of (steps_in s))
devices_named s worlds r run =
    all_flat_map IsNamed device_name (steps_in s)
    (all_map (λ step. AllByRecursion IsNamed (device_name step)) (λ (line : Line). line.step) (seen_of s).lines
    (AllByRecursion-weaker IsLineRight (λ (line : Line). AllByRecursion IsNamed (device_name line.step)) (λ line is. is.device) (seen_of s).lines (lines_right s worlds r run)))

owners_right : (s : WireView) (worlds : List ReportWorld) (r : ReportView) → IsRunOf s worlds r → AllByRecursion IsOwner (owned_of s)
owners_right s worlds r run =
    let all = steps_in s in
    let stand = standing s worlds r run in
    let accounts = accounts_named s worlds r run in
    subst (AllByRecursion IsOwner) (homes_are all [] all refl stand)
    (all_map IsOwner (home_in all) (devices_of all)
    (AllByRecursion-weaker (λ name. IsNamed name × (is_among (home_of all name) (accounts_of all) ≡ true)) (λ name. IsOwner (home_in all name))
    (λ name is. record { device = is.0; account = all_among IsNamed (home_of all name) (accounts_of all) accounts is.1 }) (devices_of all)
    (both IsNamed (λ name. is_among (home_of all name) (accounts_of all) ≡ true) (devices_of all) (devices_named s worlds r run) (homes_exist all [] all refl stand))))

-- ---- lines of devices

pub record IsKnownSaid (said : SaidLine) : Type 0 where
  pub to : is_name said.to ≡ true
  pub text : is_text said.text ≡ true
  pub epoch : said.epoch < 2 ^ 64
  pub n : said.n < 2 ^ 64

pub record IsKnownLine (d : DeviceView) : Type 0 where
  pub name : is_name d.name ≡ true
  pub account : is_name d.account ≡ true
  pub epoch : d.epoch < 2 ^ 64
  pub said : AllByRecursion IsKnownSaid d.said
  pub refused : AllByRecursion (λ (r : RefusedLine). r.line < 2 ^ 32) d.refused

abbrev AreEpochs : DeviceView → Type 0
AreEpochs d = AllByRecursion (λ (said : SaidLine). (1 ≤ said.epoch) × (said.epoch ≤ d.epoch)) d.said

known_said : (epoch many : ℕ) → epoch < 2 ^ 64 → many < 2 ^ 32 → (said : SaidLine) → IsSchedules said × ((said.n ≤ many) × ((1 ≤ said.epoch) × (said.epoch ≤ epoch))) → IsKnownSaid said
known_said epoch many low few said is = record {
  to = is.0.0;
  text = is.0.1;
  epoch = omega (arith, is.1.1.1, low);
  n = omega (arith, is.1.0, few);
}

known_line : (many : ℕ) → many < 2 ^ 32 → (d : DeviceView) → (o : Owned) → o ≡ record { device = d.name; account = d.account } → IsOwner o → IsCome many d.said d.refused → AreSubmissions d.said → AreEpochs d → IsNumber d.epoch → IsKnownLine d
known_line many few d o same owner come numbered epochs low =
    let short : length d.said < 2 ^ 32 = omega (arith, come.few, few) in
    let numbers = numbers_few d.said numbered in
    record {
      name = subst (λ (p : Owned). is_name p.device ≡ true) same owner.device;
      account = subst (λ (p : Owned). is_name p.account ≡ true) same owner.account;
      epoch = low;
      said = AllByRecursion-weaker (λ (x : SaidLine). IsSchedules x × ((x.n ≤ length d.said) × ((1 ≤ x.epoch) × (x.epoch ≤ d.epoch)))) IsKnownSaid (known_said d.epoch (length d.said) low short) d.said
          (both IsSchedules (λ (x : SaidLine). (x.n ≤ length d.said) × ((1 ≤ x.epoch) × (x.epoch ≤ d.epoch))) d.said come.each
          (both (λ (x : SaidLine). x.n ≤ length d.said) (λ (x : SaidLine). (1 ≤ x.epoch) × (x.epoch ≤ d.epoch)) d.said numbers epochs));
      refused = come.numbers;
    }

abbrev owner_of : DeviceView → Owned
owner_of d = record { device = d.name; account = d.account }

known_lines : (s : WireView) (worlds : List ReportWorld) (r : ReportView) → IsRunOf s worlds r → HasNumbers r → AllByRecursion IsKnownLine r.devices
known_lines s worlds r run has =
    let many = length (seen_of s).lines in
    let short : length s.lines ≤ 4294967294 = run.right.few in
    let few : many < 2 ^ 32 = omega (arith, wire_lines_few s.lines, short) in
    let g = ground_of s worlds r run in
    let owners : AllByRecursion (λ d. IsOwner (owner_of d)) r.devices =
    all_unmap IsOwner owner_of r.devices (subst (AllByRecursion IsOwner) (sym (of_schedule s worlds r run).devices) (owners_right s worlds r run)) in
    let comes : AllByRecursion (λ (d : DeviceView). IsCome many d.said d.refused) r.devices =
    AllByRecursion-weaker _ (λ (d : DeviceView). IsCome many d.said d.refused) (λ d are. outcomes_come d.name (seen_of s).lines d.said d.refused (lines_right s worlds r run) are) r.devices (said_right s worlds r run) in
    let numbered = device_numbered (keep_of s.version) s.version (owned_of s) (accounts_of (steps_in s)) run.last r g in
    let epochs = device_epochs (keep_of s.version) s.version (owned_of s) (accounts_of (steps_in s)) run.last r g in
    AllByRecursion-weaker (λ d. IsOwner (owner_of d) × (IsCome many d.said d.refused × (AreSubmissions d.said × (AreEpochs d × IsNumber d.epoch)))) IsKnownLine
    (λ d is. known_line many few d (owner_of d) refl is.0 is.1.0 is.1.1.0 is.1.1.1.0 is.1.1.1.1) r.devices
    (both (λ d. IsOwner (owner_of d)) (λ d. IsCome many d.said d.refused × (AreSubmissions d.said × (AreEpochs d × IsNumber d.epoch))) r.devices owners
    (both (λ (d : DeviceView). IsCome many d.said d.refused) (λ d. AreSubmissions d.said × (AreEpochs d × IsNumber d.epoch)) r.devices comes
    (both (λ (d : DeviceView). AreSubmissions d.said) (λ d. AreEpochs d × IsNumber d.epoch) r.devices numbered
    (both AreEpochs (λ (d : DeviceView). IsNumber d.epoch) r.devices epochs has.epochs))))

-- ---- takes

named_has : (P : DeviceView → Type 0) (name : List ℕ) (ds : List DeviceView) (d : DeviceView) → AllByRecursion P ds → device_named name ds ≡ Some d → P d
named_has P name [] d all is = absurd (none-some d is)
named_has P name (x ∷ ds) d all is =
    elim (cases_Bool (bytes_eq name x.name)) [
      | inl same ↦ subst P (same_Some x d (rw same at is)) all.0
      | inr other ↦ named_has P name ds d all.1 (rw other at is)
    ]

submission_has : (P : SaidLine → Type 0) (epoch n : ℕ) (lines : List SaidLine) (said : SaidLine) → AllByRecursion P lines → submission epoch n lines ≡ Some said → P said
submission_has P epoch n [] said all is = absurd (none-some said is)
submission_has P epoch n (x ∷ lines) said all is =
    elim (cases_Bool (x.epoch == epoch && x.n == n)) [
      | inl same ↦ subst P (same_Some x said (rw same at is)) all.0
      | inr other ↦ submission_has P epoch n lines said all.1 (rw other at is)
    ]

name_at_named : (owned : List Owned) (i : ℕ) → i < length owned → AllByRecursion IsOwner owned → is_name (name_at owned i) ≡ true
name_at_named [] i within all = absurd (omega (arith, within))
name_at_named (o ∷ owned) zero within all = all.0.device
name_at_named (o ∷ owned) (suc i) within all = name_at_named owned i (omega (arith, within)) all.1

moments_end : (low now : ℕ) (takes : List sessions.Take) → AreMoments low now takes → low ≤ now
moments_end low now [] are = are
moments_end low now (t ∷ takes) are = omega (arith, are.0, moments_end t.moment now takes are.1)

moments_low : (low now : ℕ) (takes : List sessions.Take) → AreMoments low now takes → AllByRecursion (λ (t : sessions.Take). t.moment ≤ now) takes
moments_low low now [] are = tt
moments_low low now (t ∷ takes) are = (moments_end t.moment now takes are.1, moments_low t.moment now takes are.1)

taken_one : (owned : List Owned) (r : ReportView) (clock : ℕ) → clock < 2 ^ 64 → AllByRecursion IsOwner owned → AllByRecursion IsKnownLine r.devices → (t : sessions.Take) →
    IsTakeLine owned r t.device t → t.device < length owned → t.moment ≤ clock → IsTaken (take_of owned t)
taken_one owned r clock low owners lines t is within early =
    let line = named_has IsKnownLine (name_at owned t.device) r.devices is.line lines is.named in
    let said : IsKnownSaid (said_line is.found.0 t.said) = submission_has IsKnownSaid t.said.epoch t.said.n is.line.said (said_line is.found.0 t.said) line.said is.found.1 in
    record {
      device = name_at_named owned t.device within owners;
      account = subst (λ name. is_name name ≡ true) is.account line.account;
      epoch = said.epoch;
      n = said.n;
      to = said.to;
      text = said.text;
      moment = omega (arith, early, low);
    }

takes_known : (s : WireView) (worlds : List ReportWorld) (r : ReportView) (run : IsRunOf s worlds r) → run.last.clock < 2 ^ 64 → HasNumbers r →
    AllByRecursion IsTaken (map (take_of (owned_of s)) run.last.takes)
takes_known s worlds r run low has =
    let g = ground_of s worlds r run in
    let owned = owned_of s in
    let takes = run.last.takes in
    all_map IsTaken (take_of owned) takes
    (AllByRecursion-weaker (λ (t : sessions.Take). IsTakeLine owned r t.device t × ((t.device < length owned) × (t.moment ≤ run.last.clock))) (λ t. IsTaken (take_of owned t))
    (λ t is. taken_one owned r run.last.clock low (owners_right s worlds r run) (known_lines s worlds r run has) t is.0 is.1.0 is.1.1) takes
    (both (λ (t : sessions.Take). IsTakeLine owned r t.device t) (λ (t : sessions.Take). (t.device < length owned) × (t.moment ≤ run.last.clock)) takes
    (take_lines (keep_of s.version) s.version owned (accounts_of (steps_in s)) run.last r g)
    (both (λ (t : sessions.Take). t.device < length owned) (λ (t : sessions.Take). t.moment ≤ run.last.clock) takes
    (takes_within (keep_of s.version) s.version owned (accounts_of (steps_in s)) run.last r g) (moments_low 0 run.last.clock takes g.taken.moments))))

-- ---- logs and pages

record IsRead (d : DeviceView) : Type 0 where
  pub pages : AllByRecursion IsPage d.pages
  pub logged : AllByRecursion (λ (l : LoggedLine). IsEntry l.entry) d.logged
  pub held : AllByRecursion (λ (h : HeldLine). IsField h.id) d.held

read_line : (s : WireView) (worlds : List ReportWorld) (r : ReportView) (run : IsRunOf s worlds r) → AllByRecursion IsTaken (map (take_of (owned_of s)) run.last.takes) → (i : ℕ) (line : DeviceView) →
    LineAt (keep_of s.version) (history_at (owned_of s) run.last.takes) (owned_of s) run.last.devices i line → IsRead line
read_line s worlds r run takes i line at =
    let keep = keep_of s.version in
    let history = history_at (owned_of s) run.last.takes at.o.account in
    let log = device_logged s worlds r run i line at in
    let turns = turns_of at.d.reading.tiles in
    let same = rendered keep history at.d log in
    let lined : AllByRecursion IsLined history = archive_lined at.o.account (map (take_of (owned_of s)) run.last.takes) takes in
    record {
      pages = subst (AllByRecursion IsPage) (sym (at.is.pages ∙ ap (map page_line) same)) (pages_right keep 0 0 (length history) history turns log.few log.few (rising keep history at.d log));
      logged = subst (AllByRecursion (λ (l : LoggedLine). IsEntry l.entry)) (sym (at.is.logged ∙ ap (logged_from 0) same)) (logged_right keep history turns lined);
      held = subst (AllByRecursion (λ (h : HeldLine). IsField h.id)) (sym at.is.held)
          (all_map (λ (h : HeldLine). IsField h.id) held_line at.d.reading.held (all_of (λ n. IsField (held_line n).id) (λ n. visible_field (held_line n).id (id_visible n)) at.d.reading.held));
    }

device_right : (d : DeviceView) → IsKnownLine d × (IsRead d × AllByRecursion IsUnderway d.underway) → IsDevice d
device_right d is = record {
  name = visible_field d.name (name_visible d.name is.0.name);
  account = visible_field d.account (name_visible d.account is.0.account);
  epoch = is.0.epoch;
  said = AllByRecursion-weaker IsKnownSaid IsSaid (λ said known. record {
    epoch = known.epoch;
    n = known.n;
    to = visible_field said.to (name_visible said.to known.to);
    text = text_on_line said.text known.text;
  }) d.said is.0.said;
  refused = AllByRecursion-weaker (λ (r : RefusedLine). r.line < 2 ^ 32) (λ (r : RefusedLine). IsNumber r.line) (λ r low. omega (arith, low)) d.refused is.0.refused;
  pages = is.1.0.pages;
  underway = is.1.1;
  logged = is.1.0.logged;
  held = is.1.0.held;
}

-- ---- the report

run_accounts : (s : WireView) (worlds : List ReportWorld) (r : ReportView) (run : IsRunOf s worlds r) → AllByRecursion IsTaken (map (take_of (owned_of s)) run.last.takes) →
    AllByRecursion (IsAccount s.version) r.accounts
run_accounts s worlds r run takes =
    let keep = keep_of s.version in
    let line : List ℕ → AccountView = λ name. account_line keep (history_at (owned_of s) run.last.takes name) name in
    subst (AllByRecursion (IsAccount s.version)) (sym run.reported.accounts)
    (all_map (IsAccount s.version) line (accounts_of (steps_in s))
    (AllByRecursion-weaker IsNamed (λ name. IsAccount s.version (line name))
    (λ name named. history_right s.version name (history_at (owned_of s) run.last.takes name) named (omega (arith, history_few (owned_of s) run.last.takes name, run.few))
    (archive_lined name (map (take_of (owned_of s)) run.last.takes) takes))
    (accounts_of (steps_in s)) (accounts_named s worlds r run)))

run_devices : (s : WireView) (worlds : List ReportWorld) (r : ReportView) (run : IsRunOf s worlds r) → HasNumbers r → AllByRecursion IsTaken (map (take_of (owned_of s)) run.last.takes) →
    AllByRecursion IsDevice r.devices
run_devices s worlds r run has takes =
    let g = ground_of s worlds r run in
    AllByRecursion-weaker (λ d. IsKnownLine d × (IsRead d × AllByRecursion IsUnderway d.underway)) IsDevice device_right r.devices
    (both IsKnownLine (λ d. IsRead d × AllByRecursion IsUnderway d.underway) r.devices (known_lines s worlds r run has)
    (both IsRead (λ (d : DeviceView). AllByRecursion IsUnderway d.underway) r.devices
    (each_device IsRead (keep_of s.version) s.version (owned_of s) (accounts_of (steps_in s)) run.last r g (read_line s worlds r run takes)) has.underway))

pub run_readable : (s : WireView) (worlds : List ReportWorld) (r : ReportView) (run : IsRunOf s worlds r) → run.last.clock < 2 ^ 64 → HasNumbers r → IsReadable r
run_readable s worlds r run low has =
    let takes = takes_known s worlds r run low has in
    let lines : AllByRecursion (IsTake s.version) r.takes =
    subst (AllByRecursion (IsTake s.version)) (sym run.reported.takes)
    (all_map (IsTake s.version) (take_line s.version) (map (take_of (owned_of s)) run.last.takes)
    (AllByRecursion-weaker IsTaken (λ t. IsTake s.version (take_line s.version t)) (take_right s.version) (map (take_of (owned_of s)) run.last.takes) takes)) in
    record {
      keeps = subst (λ version. may_keep version ≡ true) (sym run.reported.version) run.right.keeps;
      takes = subst (λ version. AllByRecursion (IsTake version) r.takes) (sym run.reported.version) lines;
      accounts = subst (λ version. AllByRecursion (IsAccount version) r.accounts) (sym run.reported.version) (run_accounts s worlds r run takes);
      conns = has.conns;
      devices = run_devices s worlds r run has takes;
    }

pub run_told_apart : (s t : WireView) (worlds others : List ReportWorld) (one other : ReportView) (run : IsRunOf s worlds one) (again : IsRunOf t others other) →
    run.last.clock < 2 ^ 64 → again.last.clock < 2 ^ 64 → HasNumbers one → HasNumbers other → text_of one ≡ text_of other → one ≡ other
run_told_apart s t worlds others one other run again low high has holds same =
    apart_of one other (run_readable s worlds one run low has) (run_readable t others other again high holds) same
