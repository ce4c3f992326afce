-- What the direct run takes and reports as said: each take is of a submission, the submissions of a device are
-- numbered 1, 2, 3 and so on, and each to an account that exists was taken. A private message is taken as another.
use Rattle.std.proofs.Common.{◌≡◌, ℕ, ◌+◌, ◌<◌, ◌≤◌, ◌==◌, ◌&&◌, true, false, cond, List, [], ◌∷◌, ◌++◌, Some, map, refl, sym, ap, ◌∙◌, arith, inl, inr, eq-eqb, ne_eqb}
use Rattle.std.proofs.lemmas.Bool.{cases_Bool, or_right}
use Rattle.std.proofs.lemmas.List.{append_assoc, map-append}
use Rattle.std.proofs.lemmas.List.Folds.{list_any-append}
use Rattle.std.proofs.lemmas.List.Sums.{sum_by-append}
use Rattle.std.proofs.lemmas.Slice.Eq.{bytes_eq-Decides}
use Rattle.std.specs.List.{AllByRecursion, filter}
use Rattle.std.specs.Str.{bytes_eq}
use Rattle.cmd_schedule.proofs.Lists.{all_append, all_if, all_map, map-map, map_nothing, map_same}
use Rattle.cmd_schedule.proofs.Prefixes.{along-append, sent_push}
use Rattle.cmd_schedule.proofs.StandingSteps.{AreStanding, Stands, all_along, device_kept, home_kept}
use Rattle.cmd_direct.proofs.LawLists.{device_found}
use Rattle.cmd_report.specs.Takes.{Take, archive_of}
use Rattle.cmd_schedule.specs.Contents.{accounts_of, along, devices_of, home_of, is_said_by, moment_after, sent_by}
use Rattle.cmd_direct.specs.Direct.{device_line, report_by, said_at, said_line, take_at, taken, takes_of}
use Rattle.cmd_report.specs.Lines.{take_line}
use Rattle.base_io.specs.Names.{is_among}
use Rattle.cmd_report.specs.Lawful.{AreNumberedAfter, AreOutcomes, AreSubmissions, EachPair, IsOfSubmission, IsOutcome, Precedes, device_named, is_taken, submission, take_named, takes_in}
use Rattle.cmd_report.specs.LawfulRuns.{history_of, timed_take}
use Rattle.cmd_schedule.specs.Schedules.{steps_of}
use Rattle.cmd_report.specs.declared.report.RefusedLine.{RefusedLine}
use Rattle.cmd_report.specs.declared.report.SaidLine.{SaidLine}
use Rattle.cmd_report.specs.declared.report.SaidMark.TheVariants.{Acknowledged}
use Rattle.cmd_report.specs.declared.report.TakeLine.{TakeLine}
use Rattle.cmd_schedule.specs.declared.schedule.Line.{Line}
use Rattle.cmd_schedule.specs.declared.schedule.Step.{Step}
use Rattle.cmd_schedule.specs.declared.schedule.Step.TheVariants.{Say, Private, Catchup}
use Rattle.cmd_schedule.specs.declared.schedule.Version.{Version}
use Rattle.cmd_schedule.specs.declared.schedule.Version.TheVariants.{One, Two}
use Rattle.base_lemmas.proofs.Bytes.{bytes_eq-self}
use Rattle.base_lemmas.proofs.Lists.{AllByRecursion-weaker}

-- a device has sent one more message, or no more
pub sent_one : (device : List ℕ) (step : Step) (before : List Step) → is_said_by device step ≡ true → sent_by device (before ++ step ∷ []) ≡ sent_by device before + 1
sent_one device step before said = sent_push device before step ∙ ap (λ hit. sent_by device before + cond hit 1 0) said

pub sent_none : (device : List ℕ) (step : Step) (before : List Step) → is_said_by device step ≡ false → sent_by device (before ++ step ∷ []) ≡ sent_by device before
sent_none device step before other =
    let none : sent_by device (before ++ step ∷ []) ≡ sent_by device before + 0 = sent_push device before step ∙ ap (λ hit. sent_by device before + cond hit 1 0) other in
    omega arith

pub sent_no_less : (device : List ℕ) (before rest : List Step) → sent_by device before ≤ sent_by device (before ++ rest)
sent_no_less device before rest = omega (arith, sum_by-append (λ step. cond (is_said_by device step) 1 0) before rest)

abbrev submitted : ℕ → List ℕ → List ℕ → SaidLine
submitted n to text = record { epoch = 1; n = n; state = Acknowledged; to = to; text = text }

-- the submissions before one have lower numbers
lower_one : (device : List ℕ) (n : ℕ) (step : Step) (before steps : List Step) (name to text : List ℕ) (rest : List SaidLine) →
    is_said_by device step ≡ bytes_eq device name → sent_by device (before ++ step ∷ steps) < n →
    submission 1 n (said_line device before name to text ++ rest) ≡ submission 1 n rest
lower_one device n step before steps name to text rest by low =
    elim (cases_Bool (bytes_eq device name)) [
      | inl same ↦
          let one : sent_by device (before ++ step ∷ []) ≡ sent_by device before + 1 = sent_one device step before (by ∙ same) in
          let more : sent_by device (before ++ step ∷ []) ≤ sent_by device ((before ++ step ∷ []) ++ steps) = sent_no_less device (before ++ step ∷ []) steps in
          let joined : sent_by device ((before ++ step ∷ []) ++ steps) ≡ sent_by device (before ++ step ∷ steps) = ap (sent_by device) (append_assoc before (step ∷ []) steps) in
          let differs : (sent_by device before + 1 == n) ≡ false = ne_eqb (sent_by device before + 1) n (λ is. omega arith) in
          rw (same, differs)
      | inr other ↦ rw other
    ]

after_lower : (device : List ℕ) (n : ℕ) (before steps : List Step) (rest : List SaidLine) → sent_by device (before ++ steps) < n →
    submission 1 n (along (said_at device) before steps ++ rest) ≡ submission 1 n rest
after_lower device n before [] rest low = refl
after_lower device n before (Say name to text ∷ steps) rest low =
    let later = along (said_at device) (before ++ Say name to text ∷ []) steps in
    ap (submission 1 n) (append_assoc (said_line device before name to text) later rest)
    ∙ lower_one device n (Say name to text) before steps name to text (later ++ rest) refl low
    ∙ after_lower device n (before ++ Say name to text ∷ []) steps rest (rw (append_assoc before (Say name to text ∷ []) steps) low)
after_lower device n before (Private name to text ∷ steps) rest low =
    let later = along (said_at device) (before ++ Private name to text ∷ []) steps in
    ap (submission 1 n) (append_assoc (said_line device before name to text) later rest)
    ∙ lower_one device n (Private name to text) before steps name to text (later ++ rest) refl low
    ∙ after_lower device n (before ++ Private name to text ∷ []) steps rest (rw (append_assoc before (Private name to text ∷ []) steps) low)
after_lower device n before (step ∷ steps) rest low =
    after_lower device n (before ++ step ∷ []) steps rest (rw (append_assoc before (step ∷ []) steps) low)

-- a submission is found by its number
submission_found : (device to text : List ℕ) (before rest : List Step) (step : Step) → said_at device before step ≡ submitted (sent_by device before + 1) to text ∷ [] →
    submission 1 (sent_by device before + 1) (along (said_at device) [] (before ++ step ∷ rest))
    ≡ Some (submitted (sent_by device before + 1) to text)
submission_found device to text before rest step said =
    let low : sent_by device before < sent_by device before + 1 = omega arith in
    let same : (sent_by device before + 1 == sent_by device before + 1) ≡ true = eq-eqb (sent_by device before + 1) (sent_by device before + 1) refl in
    rw (along-append (said_at device) [] before (step ∷ rest))
    (after_lower device (sent_by device before + 1) [] before (along (said_at device) before (step ∷ rest)) low
    ∙ rw (said, same))

said_itself : (device to text : List ℕ) (before : List Step) → said_line device before device to text ≡ submitted (sent_by device before + 1) to text ∷ []
said_itself device to text before = rw (bytes_eq-self device)

-- what is known of each take
pub record IsTake (all : List Step) (take : Take) : Type 0 where
  pub device : is_among take.device (devices_of all) ≡ true
  pub said : submission take.epoch take.n (along (said_at take.device) [] all) ≡ Some (submitted take.n take.to take.text)
  pub home : home_of all take.device ≡ take.account
  pub exists : is_among take.to (accounts_of all) ≡ true

taken_known : (all before rest : List Step) (step : Step) (device to text : List ℕ) → before ++ step ∷ rest ≡ all → is_among device (devices_of before) ≡ true →
    said_at device before step ≡ submitted (sent_by device before + 1) to text ∷ [] → AllByRecursion (IsTake all) (taken all before device to text)
taken_known all before rest step device to text whole known said =
    all_if (IsTake all) (is_among to (accounts_of all)) (record { device = device; account = home_of before device; epoch = 1; n = sent_by device before + 1; to = to; text = text; moment = moment_after before })
    (λ there. record {
      device = rw whole at (device_kept device before (step ∷ rest) known);
      said = rw whole at (submission_found device to text before rest step said);
      home = rw whole at (home_kept device before (step ∷ rest) known);
      exists = there;
    })

take_known : (all before rest : List Step) (step : Step) → before ++ step ∷ rest ≡ all → Stands before step → AllByRecursion (IsTake all) (take_at all before step)
take_known all before rest (Say device to text) whole known = taken_known all before rest (Say device to text) device to text whole known (said_itself device to text before)
take_known all before rest (Private device to text) whole known = taken_known all before rest (Private device to text) device to text whole known (said_itself device to text before)
take_known all before rest step whole known = tt

pub takes_known : (all : List Step) → AreStanding [] all → AllByRecursion (IsTake all) (takes_of all all)
takes_known all known = all_along (IsTake all) (take_at all) all (take_known all) [] all refl known

-- a take without its moment
abbrev pub untimed : Take → Take
untimed take = record take { moment = 0 }

-- the takes that a report's lines name: without their moments, and with those that version 2 tells
untimed_back : (version : Version) (keep : ℕ) (all : List Step) (take : Take) → IsTake all take →
    take_named (take_line version take) (device_named take.device (map (device_line keep all) (devices_of all))) ≡ untimed take
untimed_back version keep all take known = rw (device_found keep all take.device (devices_of all) known.device, known.said, known.home)

pub takes_untimed : (all : List Step) → AreStanding [] all → takes_in (report_by One all) ≡ map untimed (takes_of all all)
takes_untimed all known =
    map-map (take_line One) (λ line. take_named line (device_named line.device (report_by One all).devices)) (takes_of all all)
    ∙ map_same (λ take. take_named (take_line One take) (device_named take.device (report_by One all).devices)) untimed (takes_of all all)
    (AllByRecursion-weaker (IsTake all) (λ take. take_named (take_line One take) (device_named take.device (report_by One all).devices) ≡ untimed take)
    (untimed_back One 4294967295 all) (takes_of all all) (takes_known all known))

timed_back : (keep : ℕ) (all : List Step) (take : Take) → IsTake all take → timed_take (report_by (Two keep) all) (take_line (Two keep) take) ≡ take
timed_back keep all take known = ap (λ (t : Take). record t { moment = take.moment }) (untimed_back (Two keep) keep all take known)

pub takes_back : (keep : ℕ) (all : List Step) → AreStanding [] all → map (timed_take (report_by (Two keep) all)) (report_by (Two keep) all).takes ≡ takes_of all all
takes_back keep all known =
    map-map (take_line (Two keep)) (timed_take (report_by (Two keep) all)) (takes_of all all)
    ∙ map_nothing (λ take. timed_take (report_by (Two keep) all) (take_line (Two keep) take)) (takes_of all all)
    (AllByRecursion-weaker (IsTake all) (λ take. timed_take (report_by (Two keep) all) (take_line (Two keep) take) ≡ take) (timed_back keep all) (takes_of all all) (takes_known all known))

-- an account's history is what its archive would hold of the takes
pub history_is : (keep : ℕ) (all : List Step) → AreStanding [] all → (account : List ℕ) → history_of (report_by (Two keep) all) account ≡ archive_of account (takes_of all all)
history_is keep all known account = ap (archive_of account) (takes_back keep all known)

take_submitted : (version : Version) (keep : ℕ) (all : List Step) (take : Take) → IsTake all take →
    IsOfSubmission (take_line version take) (device_named take.device (map (device_line keep all) (devices_of all)))
take_submitted version keep all take known = rw (device_found keep all take.device (devices_of all) known.device, known.said) refl

pub takes_submitted : (version : Version) (keep : ℕ) (all : List Step) → AreStanding [] all →
    AllByRecursion (λ line. IsOfSubmission line (device_named line.device (map (device_line keep all) (devices_of all)))) (map (take_line version) (takes_of all all))
takes_submitted version keep all known =
    all_map (λ line. IsOfSubmission line (device_named line.device (map (device_line keep all) (devices_of all)))) (take_line version) (takes_of all all)
    (AllByRecursion-weaker (IsTake all) (λ take. IsOfSubmission (take_line version take) (device_named take.device (map (device_line keep all) (devices_of all)))) (take_submitted version keep all) (takes_of all all) (takes_known all known))

pub takes_exist : (version : Version) (all : List Step) → AreStanding [] all → AllByRecursion (λ line. is_among line.account (accounts_of all) ≡ true) (map (take_line version) (takes_of all all))
takes_exist version all known =
    all_map (λ line. is_among line.account (accounts_of all) ≡ true) (take_line version) (takes_of all all)
    (AllByRecursion-weaker (IsTake all) (λ take. is_among take.to (accounts_of all) ≡ true) (λ take is. is.exists) (takes_of all all) (takes_known all known))

-- the submissions of a device are numbered
numbered_one : (device : List ℕ) (step : Step) (before : List Step) (name to text : List ℕ) (last : SaidLine) (later : List SaidLine) →
    is_said_by device step ≡ bytes_eq device name → last.epoch ≡ 1 → last.n ≡ sent_by device before →
    ((next : SaidLine) → next.epoch ≡ 1 → next.n ≡ sent_by device (before ++ step ∷ []) → AreNumberedAfter next later) →
    AreNumberedAfter last (said_line device before name to text ++ later)
numbered_one device step before name to text last later by epoch number rest =
    elim (cases_Bool (bytes_eq device name)) [
      | inl same ↦
          rw same (inl (sym epoch, ap (λ n. n + 1) (sym number)), rest (submitted (sent_by device before + 1) to text) refl (sym (sent_one device step before (by ∙ same))))
      | inr other ↦ rw other (rest last epoch (number ∙ sym (sent_none device step before (by ∙ other))))
    ]

numbered_after : (device : List ℕ) (before steps : List Step) (last : SaidLine) → last.epoch ≡ 1 → last.n ≡ sent_by device before →
    AreNumberedAfter last (along (said_at device) before steps)
numbered_after device before [] last epoch number = tt
numbered_after device before (Say name to text ∷ steps) last epoch number =
    numbered_one device (Say name to text) before name to text last (along (said_at device) (before ++ Say name to text ∷ []) steps) refl epoch number
    (numbered_after device (before ++ Say name to text ∷ []) steps)
numbered_after device before (Private name to text ∷ steps) last epoch number =
    numbered_one device (Private name to text) before name to text last (along (said_at device) (before ++ Private name to text ∷ []) steps) refl epoch number
    (numbered_after device (before ++ Private name to text ∷ []) steps)
numbered_after device before (step ∷ steps) last epoch number =
    numbered_after device (before ++ step ∷ []) steps last epoch (number ∙ sym (sent_none device step before refl))

submissions_one : (device : List ℕ) (step : Step) (before : List Step) (name to text : List ℕ) (later : List SaidLine) →
    is_said_by device step ≡ bytes_eq device name → sent_by device before ≡ 0 →
    ((next : SaidLine) → next.epoch ≡ 1 → next.n ≡ sent_by device (before ++ step ∷ []) → AreNumberedAfter next later) →
    (sent_by device (before ++ step ∷ []) ≡ 0 → AreSubmissions later) →
    AreSubmissions (said_line device before name to text ++ later)
submissions_one device step before name to text later by none rest still =
    elim (cases_Bool (bytes_eq device name)) [
      | inl same ↦
          let first : sent_by device before + 1 ≡ 1 = omega arith in
          rw same (first, rest (submitted (sent_by device before + 1) to text) refl (sym (sent_one device step before (by ∙ same))))
      | inr other ↦ rw other (still (sent_none device step before (by ∙ other) ∙ none))
    ]

numbered_from_none : (device : List ℕ) (before steps : List Step) → sent_by device before ≡ 0 → AreSubmissions (along (said_at device) before steps)
numbered_from_none device before [] none = tt
numbered_from_none device before (Say name to text ∷ steps) none =
    submissions_one device (Say name to text) before name to text (along (said_at device) (before ++ Say name to text ∷ []) steps) refl none
    (numbered_after device (before ++ Say name to text ∷ []) steps) (numbered_from_none device (before ++ Say name to text ∷ []) steps)
numbered_from_none device before (Private name to text ∷ steps) none =
    submissions_one device (Private name to text) before name to text (along (said_at device) (before ++ Private name to text ∷ []) steps) refl none
    (numbered_after device (before ++ Private name to text ∷ []) steps) (numbered_from_none device (before ++ Private name to text ∷ []) steps)
numbered_from_none device before (step ∷ steps) none =
    numbered_from_none device (before ++ step ∷ []) steps (sent_none device step before refl ∙ none)

pub are_submissions : (device : List ℕ) (all : List Step) → AreSubmissions (along (said_at device) [] all)
are_submissions device all = numbered_from_none device [] all refl

-- they are what became of the lines of the schedule
outcome_is : (device : List ℕ) (before : List Step) (number : ℕ) (step : Step) (Behind : List SaidLine → List RefusedLine → Type 0) (later : List SaidLine) → Behind later [] →
    IsOutcome device step number Behind (said_at device before step ++ later) []
outcome_is device before number (Say name to text) Behind later known =
    elim (cases_Bool (bytes_eq device name)) [
      | inl same ↦ rw same (inl (refl, refl, known))
      | inr other ↦ rw other known
    ]
outcome_is device before number (Private name to text) Behind later known =
    elim (cases_Bool (bytes_eq device name)) [
      | inl same ↦ rw same (inl (refl, refl, known))
      | inr other ↦ rw other known
    ]
outcome_is device before number (Catchup name most) Behind later known =
    elim (cases_Bool (bytes_eq device name)) [
      | inl same ↦ rw same (inl known)
      | inr other ↦ rw other known
    ]
outcome_is device before number step Behind later known = known

pub are_outcomes : (device : List ℕ) (before : List Step) (lines : List Line) → AreOutcomes device lines (along (said_at device) before (steps_of lines)) []
are_outcomes device before [] = (refl, refl)
are_outcomes device before (line ∷ lines) =
    outcome_is device before line.number line.step (AreOutcomes device lines) (along (said_at device) (before ++ line.step ∷ []) (steps_of lines))
    (are_outcomes device (before ++ line.step ∷ []) lines)

-- what holds of each submission of the first epoch that is acknowledged
each_said : (P : SaidLine → Type 0) → ((n : ℕ) (to text : List ℕ) → P (submitted n to text)) → (device : List ℕ) (before steps : List Step) →
    AllByRecursion P (along (said_at device) before steps)
each_said P each device before [] = tt
each_said P each device before (Say name to text ∷ steps) =
    all_append P (said_line device before name to text) (along (said_at device) (before ++ Say name to text ∷ []) steps)
    (all_if P (bytes_eq device name) (submitted (sent_by device before + 1) to text) (λ same. each (sent_by device before + 1) to text))
    (each_said P each device (before ++ Say name to text ∷ []) steps)
each_said P each device before (Private name to text ∷ steps) =
    all_append P (said_line device before name to text) (along (said_at device) (before ++ Private name to text ∷ []) steps)
    (all_if P (bytes_eq device name) (submitted (sent_by device before + 1) to text) (λ same. each (sent_by device before + 1) to text))
    (each_said P each device (before ++ Private name to text ∷ []) steps)
each_said P each device before (step ∷ steps) = each_said P each device (before ++ step ∷ []) steps

pub acknowledged : (device : List ℕ) (before steps : List Step) → AllByRecursion (λ said. said.state ≡ Acknowledged) (along (said_at device) before steps)
acknowledged device before steps = each_said (λ said. said.state ≡ Acknowledged) (λ n to text. refl) device before steps

pub first_epoch : (device : List ℕ) (before steps : List Step) → AllByRecursion (λ said. (1 ≤ said.epoch) × (said.epoch ≤ 1)) (along (said_at device) before steps)
first_epoch device before steps = each_said (λ said. (1 ≤ said.epoch) × (said.epoch ≤ 1)) (λ n to text. (omega arith, omega arith)) device before steps

-- takes of one epoch that rise from above a number
record Rise (low : ℕ) (takes : List TakeLine) : Type 0 where
  pub above : AllByRecursion (λ t. (t.epoch ≡ 1) × (low < t.n)) takes
  pub pairs : EachPair Precedes takes

rise_lower : (low high : ℕ) (takes : List TakeLine) → low ≤ high → Rise high takes → Rise low takes
rise_lower low high takes less rise = record {
  above = AllByRecursion-weaker (λ t. (t.epoch ≡ 1) × (high < t.n)) (λ t. (t.epoch ≡ 1) × (low < t.n)) (λ t is. (is.0, omega (arith, is.1))) takes rise.above;
  pairs = rise.pairs;
}

rise_more : (low : ℕ) (take : TakeLine) (takes : List TakeLine) → take.epoch ≡ 1 → take.n ≡ low + 1 → Rise (low + 1) takes → Rise low (take ∷ takes)
rise_more low take takes epoch number rise = record {
  above = ((epoch, omega arith), (rise_lower low (low + 1) takes (omega arith) rise).above);
  pairs = (AllByRecursion-weaker (λ t. (t.epoch ≡ 1) × (low + 1 < t.n)) (Precedes take) (λ t is. inr (epoch ∙ sym is.0, omega (arith, is.1))) takes rise.above, rise.pairs);
}

-- the lines of takes that are of a device
abbrev lines_by : Version → List ℕ → List Take → List TakeLine
lines_by version device takes = filter (λ t. bytes_eq device t.device) (map (take_line version) takes)

rises_one : (version : Version) (all : List Step) (device : List ℕ) (step : Step) (before : List Step) (name to text : List ℕ) (later : List Take) →
    is_said_by device step ≡ bytes_eq device name → Rise (sent_by device (before ++ step ∷ [])) (lines_by version device later) →
    Rise (sent_by device before) (lines_by version device (taken all before name to text ++ later))
rises_one version all device step before name to text later by rise =
    let lower = rise_lower (sent_by device before) (sent_by device (before ++ step ∷ [])) (lines_by version device later) (sent_no_less device before (step ∷ [])) rise in
    elim (cases_Bool (is_among to (accounts_of all))) [
      | inl there ↦
          elim (cases_Bool (bytes_eq device name)) [
            | inl same ↦
                let number : sent_by name before + 1 ≡ sent_by device before + 1 = ap (λ d. sent_by d before + 1) (sym ((bytes_eq-Decides device name).0 same)) in
                rw (there, same)
                (rise_more (sent_by device before) _ (lines_by version device later) refl number
                (rw (sent_one device step before (by ∙ same)) at rise))
            | inr other ↦ rw (there, other) lower
          ]
      | inr none ↦ rw none lower
    ]

rises_from : (version : Version) (all : List Step) (device : List ℕ) (before steps : List Step) → Rise (sent_by device before) (lines_by version device (along (take_at all) before steps))
rises_from version all device before [] = record { above = tt; pairs = tt }
rises_from version all device before (Say name to text ∷ steps) =
    rises_one version all device (Say name to text) before name to text (along (take_at all) (before ++ Say name to text ∷ []) steps) refl
    (rises_from version all device (before ++ Say name to text ∷ []) steps)
rises_from version all device before (Private name to text ∷ steps) =
    rises_one version all device (Private name to text) before name to text (along (take_at all) (before ++ Private name to text ∷ []) steps) refl
    (rises_from version all device (before ++ Private name to text ∷ []) steps)
rises_from version all device before (step ∷ steps) =
    rw (sent_none device step before refl) at (rises_from version all device (before ++ step ∷ []) steps)

pub takes_rise : (version : Version) (all : List Step) (device : List ℕ) → EachPair Precedes (filter (λ t. bytes_eq device t.device) (map (take_line version) (takes_of all all)))
takes_rise version all device = (rises_from version all device [] all).pairs

-- a submission to an account that exists was taken
abbrev IsTakenIn : List Step → List TakeLine → List ℕ → SaidLine → Type 0
IsTakenIn all takes device said = is_among said.to (accounts_of all) ≡ true → is_taken takes device said ≡ true

taken_here : (version : Version) (all : List Step) (name to text : List ℕ) (device : List ℕ) (before : List Step) (rest : List Take) → bytes_eq device name ≡ true →
    IsTakenIn all (map (take_line version) (taken all before name to text ++ rest)) device (submitted (sent_by device before + 1) to text)
taken_here version all name to text device before rest same there =
    let number : sent_by name before + 1 ≡ sent_by device before + 1 = ap (λ d. sent_by d before + 1) (sym ((bytes_eq-Decides device name).0 same)) in
    let equal : (sent_by name before + 1 == sent_by device before + 1) ≡ true = eq-eqb _ _ number in
    rw (there, same, equal)

taken_later : (version : Version) (all : List Step) (device : List ℕ) (first rest : List Take) (said : SaidLine) →
    IsTakenIn all (map (take_line version) rest) device said → IsTakenIn all (map (take_line version) (first ++ rest)) device said
taken_later version all device first rest said known there =
    rw (map-append (take_line version) first rest, list_any-append (λ t. bytes_eq device t.device && t.epoch == said.epoch && t.n == said.n) (map (take_line version) first) (map (take_line version) rest))
    (or_right _ _ (known there))

taken_one : (version : Version) (all : List Step) (device : List ℕ) (before : List Step) (name to text : List ℕ) (later : List Take) (others : List SaidLine) →
    AllByRecursion (IsTakenIn all (map (take_line version) later) device) others →
    AllByRecursion (IsTakenIn all (map (take_line version) (taken all before name to text ++ later)) device) (said_line device before name to text ++ others)
taken_one version all device before name to text later others known =
    all_append (IsTakenIn all (map (take_line version) (taken all before name to text ++ later)) device) (said_line device before name to text) others
    (all_if (IsTakenIn all (map (take_line version) (taken all before name to text ++ later)) device) (bytes_eq device name) (submitted (sent_by device before + 1) to text)
    (taken_here version all name to text device before later))
    (AllByRecursion-weaker (IsTakenIn all (map (take_line version) later) device) (IsTakenIn all (map (take_line version) (taken all before name to text ++ later)) device)
    (taken_later version all device (taken all before name to text) later) others known)

pub taken_from : (version : Version) (all : List Step) (device : List ℕ) (before steps : List Step) →
    AllByRecursion (IsTakenIn all (map (take_line version) (along (take_at all) before steps)) device) (along (said_at device) before steps)
taken_from version all device before [] = tt
taken_from version all device before (Say name to text ∷ steps) =
    taken_one version all device before name to text (along (take_at all) (before ++ Say name to text ∷ []) steps) (along (said_at device) (before ++ Say name to text ∷ []) steps)
    (taken_from version all device (before ++ Say name to text ∷ []) steps)
taken_from version all device before (Private name to text ∷ steps) =
    taken_one version all device before name to text (along (take_at all) (before ++ Private name to text ∷ []) steps) (along (said_at device) (before ++ Private name to text ∷ []) steps)
    (taken_from version all device (before ++ Private name to text ∷ []) steps)
taken_from version all device before (step ∷ steps) = taken_from version all device (before ++ step ∷ []) steps
