-- The report of each run has the form of its version, and keeps its laws.
use Rattle.std.proofs.Common.{◌≡◌, ℕ, zero, suc, ◌+◌, ◌<◌, ◌≤◌, ◌^◌, true, false, List, [], ◌∷◌, ◌++◌, Option, Some, None, IsTrue, is_some, length, map, refl, sym, ap, ◌∙◌, subst, arith, inl, inr}
use Rattle.std.proofs.lemmas.Bool.{and_parts, cases_Bool, eqb-true, false≢true, true≢false}
use Rattle.std.proofs.lemmas.List.{length-append}
use Rattle.std.proofs.lemmas.Slice.Eq.{bytes_eq-Decides}
use Rattle.std.specs.List.{AllByRecursion, filter, flat_map, list_all, slice_get}
use Rattle.std.specs.List.Sorted.{IsNonDecreasing}
use Rattle.std.specs.Str.{bytes_eq}
use Rattle.mam_archive.proofs.Newest.{newest_few}
use Rattle.mam_archive.proofs.NumberedEntries.{at_position}
use Rattle.mam_archive.specs.Entries.{EntryView, newest}
use Rattle.base_lemmas.proofs.Bytes.{bytes_eq-self}
use Rattle.base_lemmas.proofs.Lists.{AllByRecursion-weaker}
use Rattle.cmd_direct.proofs.LawLists.{is_name_byte, name_bytes, pairs_filter, pairs_not_falling}
use Rattle.cmd_direct.proofs.LawMoments.{timeless}
use Rattle.cmd_direct.proofs.LawTakes.{untimed}
use Rattle.base_io.specs.Names.{is_among}
use Rattle.mam_pages.specs.Kept.{last_number}
use Rattle.cmd_report.proofs.Pairs.{pairs_by_both, pairs_map}
use Rattle.cmd_report.specs.Addresses.{origin_of}
use Rattle.cmd_report.specs.EntryLines.{EntryLineView}
use Rattle.cmd_report.specs.Lawful.{AgreeOnStamp, ArePages, IsLawful, IsPrefixOfAccount, account_named, at_any_time, device_named, submission, take_named, takes_in, text_named}
use Rattle.cmd_report.specs.LawfulRuns.{IsInForm, IsLastNumber, KeepsLaws, KeepsLawsOf, tells_moments}
use Rattle.cmd_report.specs.Lines.{entry_line, reported_moment, take_line}
use Rattle.cmd_report.specs.Reports.{AccountView, DeviceView, ReportView}
use Rattle.cmd_report.specs.Takes.{Take, archive_of, concerns, entry_of, numbered_from}
use Rattle.cmd_report.specs.Worlds.{ReportWorld}
use Rattle.cmd_report.specs.declared.report.TakeLine.{TakeLine}
use Rattle.cmd_schedule.proofs.Lists.{all_append, all_filter, all_flat_map, all_map, all_of, map-map, map_same}
use Rattle.cmd_schedule.proofs.StandingSteps.{home_in, homes_are, homes_exist}
use Rattle.cmd_schedule.specs.Contents.{Owned, accounts_of, device_name, devices_of}
use Rattle.cmd_schedule.specs.Grammar.{is_name, may_stand}
use Rattle.cmd_schedule.specs.Schedules.{WireView, common_at, keep_of, seen_of, steps_of}
use Rattle.cmd_schedule.specs.LineLists.{AreListed}
use Rattle.cmd_schedule.specs.WireGrammar.{WireAbove, above_by, may_run, nothing_above}
use Rattle.cmd_schedule.specs.declared.schedule.Line.{Line}
use Rattle.cmd_schedule.specs.declared.schedule.Step.{Step}
use Rattle.cmd_schedule.specs.declared.schedule.Step.TheVariants.{Device}
use Rattle.cmd_schedule.specs.declared.schedule.Version.{Version}
use Rattle.cmd_schedule.specs.declared.schedule.Version.TheVariants.{One, Two}
use Rattle.cmd_schedule.specs.declared.schedule.WireLine.{WireLine}
use Rattle.cmd_schedule.specs.declared.schedule.WireStep.{WireStep}
use Rattle.cmd_schedule.specs.declared.schedule.WireStep.TheVariants.{Common}
use Rattle.sim_1_applications.proofs.Later.{later_along}
use Rattle.sim_1_applications.proofs.Orders.{once_in_order}
use Rattle.sim_1_applications.proofs.Runs.{taken_beginning}
use Rattle.sim_1_applications.proofs.TileRuns.{read_beginning}
use Rattle.sim_1_applications.specs.Devices as sessions
use Rattle.sim_1_applications.proofs.Ground.{IsTakeLine, line_by, take_lines, takes_within}
use Rattle.sim_1_applications.proofs.LawsKept.{acknowledged_right, device_logged, device_paged, ground_of, lawful_keeping, of_schedule, once_in_order as in_order, said_right, standing}
use Rattle.sim_1_applications.proofs.Moments.{passed_at}
use Rattle.sim_1_applications.proofs.Owners.{Differ, LineAt, name_is, name_tells, names_are, names_of}
use Rattle.sim_1_applications.proofs.PageLaws.{pages_right}
use Rattle.sim_1_applications.proofs.Shown.{last_newest, shown_at}
use Rattle.sim_1_applications.proofs.TakenLaws.{device_epochs, device_numbered, each_device, moments_from, takes_exist, takes_submitted}
use Rattle.sim_1_applications.proofs.Rendered.{history_few, history_follows}
use Rattle.sim_1_applications.specs.Reported.{account_line, history_at, name_at, take_of}
use Rattle.sim_1_applications.specs.Runs.{IsRunOf, begins, moves_of, owned_of, steps_in}
use Rattle.sim_1_applications.proofs.Stamps.{IsStamped, moment_in, moments_found, stamps_agree, takes_apart}
use Rattle.sim_1_applications.proofs.WholeLogs.{prefix_right, tiles_right, unbroken_right}
use Rattle.sim_1_applications.specs.Counted.{AreCounted}
use Rattle.sim_1_applications.proofs.Lists.{all_at}

-- Names.

named_step : (above : WireAbove) (step : Step) → IsTrue (may_stand above.names step) → AllByRecursion (λ name. is_name name ≡ true) (device_name step)
named_step above (Device name account) may =
    let outer = and_parts _ _ may in
    let inner = and_parts _ _ outer.0 in
    let named = and_parts _ _ inner.0 in
    (named.1, tt)
named_step above step may = tt

named_one : (above : WireAbove) (step : WireStep) (number : ℕ) (later : List Line) → IsTrue (may_run above step) → AllByRecursion (λ name. is_name name ≡ true) (devices_of (steps_of later)) →
    AllByRecursion (λ name. is_name name ≡ true) (devices_of (steps_of (common_at number step ++ later)))
named_one above (Common step) number later may others = all_append (λ name. is_name name ≡ true) (device_name step) (devices_of (steps_of later)) (named_step above step may) others
named_one above step number later may others = others

wire_named : (above : WireAbove) (lines : List WireLine) → AreListed above lines →
    AllByRecursion (λ name. is_name name ≡ true) (devices_of (steps_of (flat_map (λ (line : WireLine). common_at line.number line.step) lines)))
wire_named above [] known = tt
wire_named above (line ∷ lines) known =
    named_one above line.step line.number (flat_map (λ (l : WireLine). common_at l.number l.step) lines) known.1 (wire_named (above_by line.step above) lines known.3)

name_has : (P : List ℕ → Type 0) (owned : List Owned) (i : ℕ) → AllByRecursion P (names_of owned) → i < length owned → P (name_at owned i)
name_has P [] i all within = absurd (omega arith)
name_has P (o ∷ owned) zero all within = all.0
name_has P (o ∷ owned) (suc i) all within = name_has P owned i all.1 (omega arith)

names_tell : (owned : List Owned) → Differ (names_of owned) → (i j : ℕ) → i < length owned → j < length owned → name_at owned i ≡ name_at owned j → i ≡ j
names_tell owned differ i j first second same =
    let o = at_position i owned first in
    let hit : bytes_eq o.0.device (name_at owned j) ≡ true = ap (bytes_eq o.0.device) (sym same ∙ name_is owned i o.0 o.1) ∙ bytes_eq-self o.0.device in
    sym (eqb-true j i (sym (name_tells owned i j o.0 differ o.1 second) ∙ hit))

-- What is known of a run whose archives keep all.

few_of : (s : WireView) (worlds : List ReportWorld) (r : ReportView) (run : IsRunOf s worlds r) (account : List ℕ) → length (history_at (owned_of s) run.last.takes account) ≤ 4294967295
few_of s worlds r run account = let few = history_few (owned_of s) run.last.takes account in let all = run.few in omega arith

whole_of : (s : WireView) (worlds : List ReportWorld) (r : ReportView) (run : IsRunOf s worlds r) (keep : ℕ) → keep ≡ 4294967295 → (account : List ℕ) →
    newest keep (history_at (owned_of s) run.last.takes account) ≡ history_at (owned_of s) run.last.takes account
whole_of s worlds r run keep wide account = newest_few keep (history_at (owned_of s) run.last.takes account) (let few = few_of s worlds r run account in omega arith)

each_account : (P : AccountView → Type 0) (s : WireView) (worlds : List ReportWorld) (r : ReportView) (run : IsRunOf s worlds r) →
    ((name : List ℕ) → P (account_line (keep_of s.version) (history_at (owned_of s) run.last.takes name) name)) → AllByRecursion P r.accounts
each_account P s worlds r run each =
    subst (AllByRecursion P) (sym run.reported.accounts)
    (all_map P (λ name. account_line (keep_of s.version) (history_at (owned_of s) run.last.takes name) name) (accounts_of (steps_in s))
    (all_of (λ name. P (account_line (keep_of s.version) (history_at (owned_of s) run.last.takes name) name)) each (accounts_of (steps_in s))))

-- The form.

moment_told : (version : Version) (moment : ℕ) → is_some (reported_moment version moment) ≡ tells_moments version
moment_told One moment = refl
moment_told (Two keep) moment = refl

keeps_all : (version : Version) → tells_moments version ≡ false → keep_of version ≡ 4294967295
keeps_all One untold = refl
keeps_all (Two keep) untold = absurd (true≢false untold)

form_of : (s : WireView) (worlds : List ReportWorld) (r : ReportView) → IsRunOf s worlds r → IsInForm s.version r
form_of s worlds r run =
    let g = ground_of s worlds r run in
    record {
      is = run.reported.version;
      moments = subst (AllByRecursion (λ line. is_some line.moment ≡ tells_moments s.version)) (sym run.reported.takes)
          (all_map (λ line. is_some line.moment ≡ tells_moments s.version) (take_line s.version) (map (take_of (owned_of s)) run.last.takes)
          (all_of (λ take. is_some (take_line s.version take).moment ≡ tells_moments s.version) (λ take. moment_told s.version take.moment) (map (take_of (owned_of s)) run.last.takes)));
      lasts = λ untold. each_account (λ a. a.last ≡ a.count) s worlds r run (λ name. sym (ap length (whole_of s worlds r run (keep_of s.version) (keeps_all s.version untold) name)));
      unbroken = λ untold. each_device (λ d. AllByRecursion (λ l. l.broken ≡ false) d.logged) (keep_of s.version) s.version (owned_of s) (accounts_of (steps_in s)) run.last r g
          (λ i line at. unbroken_right (keep_of s.version) (history_at (owned_of s) run.last.takes at.o.account) at.d line (device_logged s worlds r run i line at)
          (let few = few_of s worlds r run at.o.account in let wide = keeps_all s.version untold in omega arith) at.is.logged);
    }

-- Law 1.

named_back : (owned : List Owned) (report : ReportView) (version : Version) (t : sessions.Take) → IsTakeLine owned report t.device t →
    take_named (line_by version owned t) (device_named (name_at owned t.device) report.devices) ≡ record (take_of owned t) { moment = 0 }
named_back owned report version t is =
    ap (take_named (line_by version owned t)) is.named
    ∙ ap (λ account. record { device = name_at owned t.device; account = account; epoch = t.said.epoch; n = t.said.n; to = t.said.to; text = text_named (submission t.said.epoch t.said.n is.line.said); moment = 0 }) is.account
    ∙ ap (λ said. record { device = name_at owned t.device; account = t.account; epoch = t.said.epoch; n = t.said.n; to = t.said.to; text = text_named said; moment = 0 }) is.found.1

takes_untimed : (s : WireView) (worlds : List ReportWorld) (r : ReportView) (run : IsRunOf s worlds r) → takes_in r ≡ map untimed (map (take_of (owned_of s)) run.last.takes)
takes_untimed s worlds r run =
    let owned = owned_of s in
    let named : TakeLine → Take = λ line. take_named line (device_named line.device r.devices) in
    ap (map named) run.reported.takes
    ∙ map-map (take_line s.version) named (map (take_of owned) run.last.takes)
    ∙ map-map (take_of owned) (λ t. named (take_line s.version t)) run.last.takes
    ∙ map_same (λ t. named (line_by s.version owned t)) (λ t. untimed (take_of owned t)) run.last.takes
    (AllByRecursion-weaker (λ t. IsTakeLine owned r t.device t) (λ t. named (line_by s.version owned t) ≡ untimed (take_of owned t)) (λ t is. named_back owned r s.version t is) run.last.takes
    (take_lines (keep_of s.version) s.version owned (accounts_of (steps_in s)) run.last r (ground_of s worlds r run)))
    ∙ sym (map-map (take_of owned) untimed run.last.takes)

abbrev stamp_of : EntryLineView → ℕ
stamp_of e = e.stamp

abbrev moment_taken : Take → ℕ
moment_taken take = take.moment

stamps_are : (n : ℕ) (takes : List Take) → map stamp_of (map entry_line (numbered_from n (map entry_of takes))) ≡ map moment_taken takes
stamps_are n [] = refl
stamps_are n (take ∷ takes) = ap (λ rest. take.moment ∷ rest) (stamps_are (n + 1) takes)

stamps_rise : (s : WireView) (worlds : List ReportWorld) (r : ReportView) (run : IsRunOf s worlds r) (name : List ℕ) → IsNonDecreasing (map stamp_of (map entry_line (history_at (owned_of s) run.last.takes name)))
stamps_rise s worlds r run name =
    let g = ground_of s worlds r run in
    let mine : List Take = filter (concerns name) (map (take_of (owned_of s)) run.last.takes) in
    subst IsNonDecreasing (sym (stamps_are 1 mine))
    (pairs_not_falling (map moment_taken mine)
    (pairs_map (λ x y. x ≤ y) moment_taken mine
    (pairs_filter (λ (a b : Take). a.moment ≤ b.moment) (concerns name) (map (take_of (owned_of s)) run.last.takes)
    (pairs_map (λ (a b : Take). a.moment ≤ b.moment) (take_of (owned_of s)) run.last.takes (moments_from 0 run.last.clock run.last.takes g.taken.moments).1))))

-- each entry is of a take
record OfTake (owned : List Owned) (all : List sessions.Take) (take : Take) : Type 0 where
  t : sessions.Take
  is : take ≡ take_of owned t
  device : t.device < length owned
  plain : list_all is_name_byte (name_at owned t.device) ≡ true
  epoch : t.said.epoch < 2 ^ 64
  n : t.said.n < 2 ^ 64
  moment : t.moment ≡ moment_in t.device t.said.epoch t.said.n all

numbered_stamped : (owned : List Owned) (all : List sessions.Take) (n : ℕ) (takes : List Take) → AllByRecursion (OfTake owned all) takes → AllByRecursion (IsStamped owned all) (map entry_line (numbered_from n (map entry_of takes)))
numbered_stamped owned all n [] known = tt
numbered_stamped owned all n (take ∷ takes) known =
    let k = known.0 in (
      record {
        t = k.t;
        device = k.device;
        plain = k.plain;
        epoch = k.epoch;
        n = k.n;
        origin = ap (λ (u : Take). origin_of u.device u.epoch u.n) k.is;
        stamp = ap (λ (u : Take). u.moment) k.is ∙ k.moment;
      },
      numbered_stamped owned all (n + 1) takes known.1,
    )

all_four : (P Q R S : sessions.Take → Type 0) → ((x : sessions.Take) → P x → Q x → R x → S x) → (xs : List sessions.Take) → AllByRecursion P xs → AllByRecursion Q xs → AllByRecursion R xs → AllByRecursion S xs
all_four P Q R S each [] first second third = tt
all_four P Q R S each (x ∷ xs) first second third = (each x first.0 second.0 third.0, all_four P Q R S each xs first.1 second.1 third.1)

takes_known : (s : WireView) (worlds : List ReportWorld) (r : ReportView) (run : IsRunOf s worlds r) → AreCounted run.last → AllByRecursion (λ t. OfTake (owned_of s) run.last.takes (take_of (owned_of s) t)) run.last.takes
takes_known s worlds r run counted =
    let owned = owned_of s in
    let g = ground_of s worlds r run in
    let within = takes_within (keep_of s.version) s.version owned (accounts_of (steps_in s)) run.last r g in
    let plain : AllByRecursion (λ name. list_all is_name_byte name ≡ true) (names_of owned) =
    subst (AllByRecursion (λ name. list_all is_name_byte name ≡ true)) (sym (names_are (steps_in s)))
    (AllByRecursion-weaker (λ name. is_name name ≡ true) (λ name. list_all is_name_byte name ≡ true) (λ name is. name_bytes name is) (devices_of (steps_in s)) (wire_named nothing_above s.lines run.right.lines)) in
    let many = g.many in
    let apart = takes_apart (length owned) run.last.takes within (λ i low.
    let d = at_position i run.last.devices (omega arith) in (once_in_order run.last g.taken i d.0 d.1).rise) in
    all_four (λ t. t.device < length owned) (λ t. (t.said.epoch < 2 ^ 64) × (t.said.n < 2 ^ 64)) (λ t. t.moment ≡ moment_in t.device t.said.epoch t.said.n run.last.takes)
    (λ t. OfTake owned run.last.takes (take_of owned t))
    (λ t low counts moment. record {
      t = t;
      is = refl;
      device = low;
      plain = name_has (λ name. list_all is_name_byte name ≡ true) owned t.device plain low;
      epoch = counts.0;
      n = counts.1;
      moment = moment;
    })
    run.last.takes within counted (moments_found run.last.takes apart)

entries_stamped : (s : WireView) (worlds : List ReportWorld) (r : ReportView) (run : IsRunOf s worlds r) → AreCounted run.last → keep_of s.version ≡ 4294967295 → (name : List ℕ) →
    AllByRecursion (IsStamped (owned_of s) run.last.takes) (account_line (keep_of s.version) (history_at (owned_of s) run.last.takes name) name).entries
entries_stamped s worlds r run counted wide name =
    let owned = owned_of s in
    subst (λ (kept : List EntryView). AllByRecursion (IsStamped owned run.last.takes) (map entry_line kept)) (sym (whole_of s worlds r run (keep_of s.version) wide name))
    (numbered_stamped owned run.last.takes 1 (filter (concerns name) (map (take_of owned) run.last.takes))
    (all_filter (OfTake owned run.last.takes) (concerns name) (map (take_of owned) run.last.takes) (all_map (OfTake owned run.last.takes) (take_of owned) run.last.takes (takes_known s worlds r run counted))))

-- Laws 4 and 5.

account_found : (line : List ℕ → AccountView) → ((name : List ℕ) → (line name).name ≡ name) → (name : List ℕ) (names : List (List ℕ)) → is_among name names ≡ true → account_named name (map line names) ≡ Some (line name)
account_found line is name [] known = absurd (false≢true known)
account_found line is name (other ∷ names) known =
    elim (cases_Bool (bytes_eq name other)) [
      | inl same ↦
          let hit : bytes_eq name (line other).name ≡ true = ap (bytes_eq name) (is other) ∙ same in
          rw hit (ap (λ n. Some (line n)) (sym ((bytes_eq-Decides name other).0 same)))
      | inr differs ↦
          let miss : bytes_eq name (line other).name ≡ false = ap (bytes_eq name) (is other) ∙ differs in
          rw miss (account_found line is name names (rw differs at known))
    ]

account_exists : (s : WireView) (worlds : List ReportWorld) (r : ReportView) (run : IsRunOf s worlds r) (i : ℕ) (o : Owned) → slice_get (owned_of s) i ≡ Some o → is_among o.account (accounts_of (steps_in s)) ≡ true
account_exists s worlds r run i o owner =
    let all = steps_in s in
    let known = standing s worlds r run in
    all_at (λ (p : Owned). is_among p.account (accounts_of all) ≡ true) (owned_of s) i o
    (subst (AllByRecursion (λ (p : Owned). is_among p.account (accounts_of all) ≡ true)) (homes_are all [] all refl known)
    (all_map (λ (p : Owned). is_among p.account (accounts_of all) ≡ true) (home_in all) (devices_of all) (homes_exist all [] all refl known)))
    owner

prefix_of : (s : WireView) (worlds : List ReportWorld) (r : ReportView) (run : IsRunOf s worlds r) → keep_of s.version ≡ 4294967295 → (i : ℕ) (line : DeviceView) →
    LineAt (keep_of s.version) (history_at (owned_of s) run.last.takes) (owned_of s) run.last.devices i line → IsPrefixOfAccount line (account_named line.account r.accounts)
prefix_of s worlds r run wide i line at =
    let history = history_at (owned_of s) run.last.takes at.o.account in
    let account : List ℕ → AccountView = λ name. account_line (keep_of s.version) (history_at (owned_of s) run.last.takes name) name in
    let found : account_named line.account r.accounts ≡ Some (account at.o.account) =
    ap (λ name. account_named name r.accounts) at.is.account ∙ ap (account_named at.o.account) run.reported.accounts
    ∙ account_found account (λ name. refl) at.o.account (accounts_of (steps_in s)) (account_exists s worlds r run i at.o at.owner) in
    subst (IsPrefixOfAccount line) (sym found)
    (prefix_right (keep_of s.version) history at.d line (account at.o.account).entries (device_logged s worlds r run i line at) (let few = few_of s worlds r run at.o.account in omega arith) at.is.logged at.is.held
    (ap (map entry_line) (whole_of s worlds r run (keep_of s.version) wide at.o.account)))

-- what a world's archive has is as long as its last number says
long_world : (s : WireView) (worlds : List ReportWorld) (r : ReportView) (run : IsRunOf s worlds r) → keep_of s.version ≡ 4294967295 → (account : List ℕ) → is_among account (accounts_of (steps_in s)) ≡ true →
    (j : ℕ) (shown : ReportWorld) → slice_get worlds j ≡ Some shown → length (shown.archive account) ≡ last_number (shown.archive account)
long_world s worlds r run wide account exists j shown found =
    let g = ground_of s worlds r run in
    let accounts = accounts_of (steps_in s) in
    let homes = map (λ (o : Owned). o.account) (owned_of s) in
    let v = shown_at (owned_of s) _ worlds j shown run.shown found in
    let passed = passed_at (moves_of run.runs) (begins s) run.last j v.state run.reaches (taken_beginning (keep_of s.version) accounts homes) (read_beginning (keep_of s.version) g.some accounts homes) v.at in
    let later = later_along passed.onward v.state run.last passed.reaches in
    let history = history_at (owned_of s) v.state.takes account in
    let keeps : v.state.keep ≡ 4294967295 = sym later.keep ∙ g.keeps ∙ wide in
    let exist : is_among account v.state.accounts ≡ true = ap (is_among account) (sym later.accounts ∙ g.exist) ∙ exists in
    let more = ap length later.takes.1 ∙ length-append v.state.takes later.takes.0 in
    let few = history_few (owned_of s) v.state.takes account in
    let all = run.few in
    let archive = v.is.archive account exist in
    let whole : newest v.state.keep history ≡ history = newest_few v.state.keep history (omega arith) in
    ap length (archive ∙ whole) ∙ sym (ap last_number archive ∙ last_newest v.state.keep history passed.read.keep (history_follows (owned_of s) v.state.takes account))

last_small : (o : Option (List ℕ)) (n : ℕ) → IsLastNumber o n → n ≤ 4294967295
last_small None n is = omega arith
last_small (Some id) n is = is.1

pages_of : (s : WireView) (worlds : List ReportWorld) (r : ReportView) (run : IsRunOf s worlds r) → keep_of s.version ≡ 4294967295 → (i : ℕ) (line : DeviceView) →
    LineAt (keep_of s.version) (history_at (owned_of s) run.last.takes) (owned_of s) run.last.devices i line → ArePages worlds (seen_of s) line
pages_of s worlds r run wide i line at =
    let history = history_at (owned_of s) run.last.takes at.o.account in
    let all = pages_right (keep_of s.version) worlds (seen_of s) history at.d line refl (device_paged s worlds r run i line at) in
    let exists = account_exists s worlds r run i at.o at.owner in
    let long : (j : ℕ) (shown : ReportWorld) → slice_get worlds j ≡ Some shown → length (shown.archive line.account) ≡ last_number (shown.archive line.account) =
    λ j shown found. subst (λ account. length (shown.archive account) ≡ last_number (shown.archive account)) (sym at.is.account) (long_world s worlds r run wide at.o.account exists j shown found) in
    record {
      tiles = tiles_right (keep_of s.version) history at.d line (device_logged s worlds r run i line at) (let few = few_of s worlds r run at.o.account in omega arith) at.is.logged at.is.pages;
      distinct = all.distinct;
      fresh = λ k total page found is m j asking asked taking taken here next asks there further takes.
          let whole = all.complete k total page found is in
          let bounds = all.fresh k total whole.last page found is whole.number m j asking asked taking taken here next asks there further takes in
          let small = last_small _ whole.last whole.number in
          let many = whole.many in
          let first = long m asking here in
          let last = long (j + 1) taken further in
          let low = bounds.0 in
          let high = bounds.1 in
          (omega arith, omega arith);
      last = all.last;
      answered = λ direct. absurd (false≢true (sym direct));
    }

-- The laws.

lawful_one : (s : WireView) (worlds : List ReportWorld) (r : ReportView) (run : IsRunOf s worlds r) → AreCounted run.last → keep_of s.version ≡ 4294967295 → IsLawful worlds (seen_of s) r
lawful_one s worlds r run counted wide =
    let g = ground_of s worlds r run in
    let accounts = accounts_of (steps_in s) in
    let whole = of_schedule s worlds r run in
    let owned = owned_of s in
    record {
      taken = record {
        whole = whole;
        archives = each_account (λ a. map at_any_time a.entries ≡ map (λ e. at_any_time (entry_line e)) (archive_of a.name (takes_in r))) s worlds r run
            (λ name. ap (λ kept. map at_any_time (map entry_line kept)) (whole_of s worlds r run (keep_of s.version) wide name)
            ∙ map-map entry_line at_any_time (history_at owned run.last.takes name)
            ∙ timeless name (map (take_of owned) run.last.takes)
            ∙ ap (λ takes. map (λ e. at_any_time (entry_line e)) (archive_of name takes)) (sym (takes_untimed s worlds r run)));
        stamps = each_account (λ a. IsNonDecreasing (map (λ e. e.stamp) a.entries)) s worlds r run
            (λ name. subst (λ (kept : List EntryView). IsNonDecreasing (map stamp_of (map entry_line kept))) (sym (whole_of s worlds r run (keep_of s.version) wide name)) (stamps_rise s worlds r run name));
        one_stamp = pairs_by_both (IsStamped owned run.last.takes) AgreeOnStamp (stamps_agree owned run.last.takes (names_tell owned g.differ)) (flat_map (λ a. a.entries) r.accounts)
            (all_flat_map (IsStamped owned run.last.takes) (λ (a : AccountView). a.entries) r.accounts
            (each_account (λ a. AllByRecursion (IsStamped owned run.last.takes) a.entries) s worlds r run (entries_stamped s worlds r run counted wide)));
        submitted = takes_submitted (keep_of s.version) s.version owned accounts run.last r g;
        exist = takes_exist (keep_of s.version) s.version owned accounts run.last r g;
        numbered = device_numbered (keep_of s.version) s.version owned accounts run.last r g;
        epochs = device_epochs (keep_of s.version) s.version owned accounts run.last r g;
        said = said_right s worlds r run;
      };
      in_order = in_order s worlds r run;
      acknowledged = acknowledged_right s worlds r run;
      logged = record {
        whole = whole;
        prefix = each_device (λ d. IsPrefixOfAccount d (account_named d.account r.accounts)) (keep_of s.version) s.version owned accounts run.last r g (prefix_of s worlds r run wide);
      };
      paged = record {
        whole = whole;
        pages = each_device (ArePages worlds (seen_of s)) (keep_of s.version) s.version owned accounts run.last r g (pages_of s worlds r run wide);
      };
    }

laws_of : (version : Version) (s : WireView) (worlds : List ReportWorld) (r : ReportView) (run : IsRunOf s worlds r) → AreCounted run.last → s.version ≡ version → KeepsLawsOf version worlds (seen_of s) r
laws_of One s worlds r run counted is = lawful_one s worlds r run counted (ap keep_of is)
laws_of (Two keep) s worlds r run counted is = lawful_keeping keep s worlds r is run

pub laws_kept : (s : WireView) (worlds : List ReportWorld) (r : ReportView) (run : IsRunOf s worlds r) → AreCounted run.last → KeepsLaws worlds (seen_of s) r
laws_kept s worlds r run counted = record { form = form_of s worlds r run; laws = laws_of s.version s worlds r run counted refl }
