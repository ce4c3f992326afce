-- Where what was taken is what devices submitted, the archives are those of the submissions.
use Rattle.std.proofs.Common.{◌≡◌, ℕ, ◌+◌, ◌||◌, Bool, true, false, cond, List, [], ◌∷◌, Option, Some, None, length, map, refl, sym, ap, ap₂, subst, ◌∙◌, ◌≤◌, arith}
use Rattle.std.specs.List.{AllByRecursion, filter}
use Rattle.std.specs.Str.{bytes_eq}
use Rattle.mam_archive.specs.Entries.{EntryView}
use Rattle.mam_archive.proofs.Newest.{newest_few}
use Rattle.mam_archive.specs.declared.archive.TheConstants.{GREATEST_NUMBER}
use Rattle.base_lemmas.proofs.Lists.{AllByRecursion-weaker}
use Rattle.cmd_report.specs.Lawful.{at_any_time, device_named, take_named, takes_in}
use Rattle.cmd_report.specs.LawfulRuns as runs
use Rattle.cmd_report.specs.LawfulRuns.{IsNewestOf, timed_take}
use Rattle.cmd_report.specs.Lines.{entry_line}
use Rattle.cmd_report.specs.Reports.{AccountView, DeviceView, ReportView}
use Rattle.cmd_report.specs.Takes as report
use Rattle.cmd_report.specs.Takes.{Take, archive_of, entry_of, numbered_from}
use Rattle.cmd_report.specs.declared.report.TakeLine.{TakeLine}
use Rattle.cmd_schedule.proofs.Lists.{map-map}
use Rattle.cmd_schedule.specs.declared.schedule.TheConstants.{MOST_KEPT}
use Rattle.cmd_schedule.specs.declared.schedule.Version.{Version}
use Rattle.cmd_schedule.specs.declared.schedule.Version.TheVariants.{One, Two}
use Rattle.cmd_schedule.specs.declared.schedule.WireLine.{WireLine}
use Rattle.sim_3_images.specs.ReportTakes.{AreOfTakes, IsOfLine, Taken, concerns, history_of, line_of}
use Rattle.sim_3_images.specs.Submitted.{AreAsSubmitted, IsAsSubmitted, submission_named, unstamped}

-- ---- one message

concerns_same : (account : List ℕ) (t : Taken) (take : Take) → t.sender ≡ take.account → take.to ≡ t.addressee → concerns account t ≡ report.concerns account take
concerns_same account t take sender to = ap₂ (λ (x y : List ℕ). bytes_eq account x || bytes_eq account y) sender (sym to)

to_named : (line : TakeLine) (o : Option DeviceView) → (take_named line o).to ≡ line.account
to_named line None = refl
to_named line (Some device) = refl

to_submitted : (r : ReportView) (line : TakeLine) → (submission_named r line).to ≡ line.account
to_submitted r line = to_named line (device_named line.device r.devices)

-- ---- messages, each with the entry of its submission

entries_by : (account : List ℕ) (version : Version) (r : ReportView) (f : EntryView → EntryView) (g : Taken → Take) → ((t : Taken) → IsOfLine (line_of version t) t → IsAsSubmitted r (line_of version t) t → f t.entry ≡ entry_of (g t))
    → ((t : Taken) → IsOfLine (line_of version t) t → IsAsSubmitted r (line_of version t) t → concerns account t ≡ report.concerns account (g t))
    → (takes : List Taken) → AllByRecursion (λ (t : Taken). IsOfLine (line_of version t) t) takes → AreAsSubmitted version r takes
    → map f (map (λ (t : Taken). t.entry) (filter (concerns account) takes)) ≡ map entry_of (filter (report.concerns account) (map g takes))
entries_by account version r f g entry here [] each as_said = refl
entries_by account version r f g entry here (t ∷ takes) each as_said =
    ap (λ c. map f (map (λ (x : Taken). x.entry) (cond c (t ∷ filter (concerns account) takes) (filter (concerns account) takes)))) (here t each.0 as_said.0)
    ∙ one (report.concerns account (g t)) (entry t each.0 as_said.0) (entries_by account version r f g entry here takes each.1 as_said.1)
  where
    one : (c : Bool) → f t.entry ≡ entry_of (g t) → map f (map (λ (x : Taken). x.entry) (filter (concerns account) takes)) ≡ map entry_of (filter (report.concerns account) (map g takes))
        → map f (map (λ (x : Taken). x.entry) (cond c (t ∷ filter (concerns account) takes) (filter (concerns account) takes))) ≡ map entry_of (cond c (g t ∷ filter (report.concerns account) (map g takes)) (filter (report.concerns account) (map g takes)))
    one true first rest = ap₂ (λ (e : EntryView) (es : List EntryView). e ∷ es) first rest
    one false first rest = rest

-- ---- version 2

nothing_changed : (es : List EntryView) → map (λ (e : EntryView). e) es ≡ es
nothing_changed [] = refl
nothing_changed (e ∷ es) = ap (λ (l : List EntryView). e ∷ l) (nothing_changed es)

timed_entry : (keep : ℕ) (r : ReportView) (t : Taken) → IsAsSubmitted r (line_of (Two keep) t) t → t.entry ≡ entry_of (timed_take r (line_of (Two keep) t))
timed_entry keep r t is = ap (λ (e : EntryView). record e { stamp = t.entry.stamp }) is.entry

history_same : (keep : ℕ) (lines : List WireLine) (r : ReportView) (takes : List Taken) (account : List ℕ) → AreOfTakes (record { version = Two keep; lines = lines }) takes r → AreAsSubmitted (Two keep) r takes
    → history_of account takes ≡ runs.history_of r account
history_same keep lines r takes account is as_said =
    let g = λ (t : Taken). timed_take r (line_of (Two keep) t) in
    let named : map g takes ≡ map (timed_take r) r.takes = sym (ap (map (timed_take r)) is.lines ∙ map-map (line_of (Two keep)) (timed_take r) takes) in
    let entries = entries_by account (Two keep) r (λ (e : EntryView). e) g (λ t line said. timed_entry keep r t said) (λ t line said. concerns_same account t (g t) said.sender (to_submitted r (line_of (Two keep) t) ∙ line.account)) takes is.each as_said in
    ap (numbered_from 1) (sym (nothing_changed (map (λ (t : Taken). t.entry) (filter (concerns account) takes))) ∙ entries) ∙ ap (archive_of account) named

pub kept_submissions : (keep : ℕ) (lines : List WireLine) (r : ReportView) (takes : List Taken) → AreOfTakes (record { version = Two keep; lines = lines }) takes r → AreAsSubmitted (Two keep) r takes
    → AllByRecursion (λ a. IsNewestOf keep (runs.history_of r a.name) a) r.accounts
kept_submissions keep lines r takes is as_said =
    AllByRecursion-weaker (λ a. IsNewestOf keep (history_of a.name takes) a) (λ a. IsNewestOf keep (runs.history_of r a.name) a)
    (λ (a : AccountView) newest_is. subst (λ (h : List EntryView). IsNewestOf keep h a) (history_same keep lines r takes a.name is as_said) newest_is) r.accounts is.archives

-- ---- version 1, which tells no moments

numbered_unstamped : (n : ℕ) (es : List EntryView) → map unstamped (numbered_from n es) ≡ numbered_from n (map unstamped es)
numbered_unstamped n [] = refl
numbered_unstamped n (e ∷ es) = ap (λ (l : List EntryView). record e { stamp = 0; number = n } ∷ l) (numbered_unstamped (n + 1) es)

unstamped_history : (lines : List WireLine) (r : ReportView) (takes : List Taken) (account : List ℕ) → AreOfTakes (record { version = One; lines = lines }) takes r → AreAsSubmitted One r takes
    → map unstamped (history_of account takes) ≡ archive_of account (takes_in r)
unstamped_history lines r takes account is as_said =
    let g = λ (t : Taken). submission_named r (line_of One t) in
    let named : map g takes ≡ takes_in r = sym (ap (map (submission_named r)) is.lines ∙ map-map (line_of One) (submission_named r) takes) in
    let entries = entries_by account One r unstamped g (λ t line said. said.entry) (λ t line said. concerns_same account t (g t) said.sender (to_submitted r (line_of One t) ∙ line.account)) takes is.each as_said in
    numbered_unstamped 1 (map (λ (t : Taken). t.entry) (filter (concerns account) takes)) ∙ ap (numbered_from 1) entries ∙ ap (archive_of account) named

-- lines of entries without their stamps
lines_unstamped : (es : List EntryView) → map (λ e. at_any_time (entry_line e)) es ≡ map entry_line (map unstamped es)
lines_unstamped es = sym (map-map unstamped entry_line es)

unstamped_again : (es fs : List EntryView) → map unstamped es ≡ fs → map unstamped fs ≡ fs
unstamped_again es fs same = ap (map unstamped) (sym same) ∙ map-map unstamped unstamped es ∙ same

both : {X : Type 0} (P Q R : X → Type 0) → ((x : X) → P x → Q x → R x) → (xs : List X) → AllByRecursion P xs → AllByRecursion Q xs → AllByRecursion R xs
both P Q R each [] p q = tt
both P Q R each (x ∷ xs) p q = (each x p.0 q.0, both P Q R each xs p.1 q.1)

pub all_submissions : (lines : List WireLine) (r : ReportView) (takes : List Taken) → AreOfTakes (record { version = One; lines = lines }) takes r → AreAsSubmitted One r takes
    → AllByRecursion (λ a. map at_any_time a.entries ≡ map (λ e. at_any_time (entry_line e)) (archive_of a.name (takes_in r))) r.accounts
all_submissions lines r takes is as_said =
    both (λ (a : AccountView). IsNewestOf MOST_KEPT (history_of a.name takes) a) (λ (a : AccountView). a.last ≤ GREATEST_NUMBER)
    (λ (a : AccountView). map at_any_time a.entries ≡ map (λ e. at_any_time (entry_line e)) (archive_of a.name (takes_in r))) each r.accounts is.archives is.numbers
  where
    each : (a : AccountView) → IsNewestOf MOST_KEPT (history_of a.name takes) a → a.last ≤ GREATEST_NUMBER → map at_any_time a.entries ≡ map (λ e. at_any_time (entry_line e)) (archive_of a.name (takes_in r))
    each a newest_is within =
        let history = history_of a.name takes in
        let submitted = archive_of a.name (takes_in r) in
        let same : map unstamped history ≡ submitted = unstamped_history lines r takes a.name is as_said in
        let few : length history ≤ MOST_KEPT = (let last = newest_is.last in omega (arith, within, last)) in
        ap (map at_any_time) (newest_is.entries ∙ ap (map entry_line) (newest_few MOST_KEPT history few)) ∙ map-map entry_line at_any_time history ∙ lines_unstamped history
        ∙ ap (map entry_line) (same ∙ sym (unstamped_again history submitted same)) ∙ sym (lines_unstamped submitted)
