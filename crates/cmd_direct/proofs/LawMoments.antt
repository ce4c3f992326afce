-- The clock of the direct run: the moments of its takes don't fall, and entries of one message have one stamp. An origin
-- id tells the message, for a device's name has no full stop.
use Rattle.std.proofs.Common.{◌≡◌, ℕ, ◌+◌, ◌<◌, ◌≤◌, ◌==◌, ◌^◌, ◌&&◌, true, false, cond, List, [], ◌∷◌, ◌++◌, length, map, IsTrue, refl, sym, ap, subst, ◌∙◌, arith, inl, inr, eq-eqb, ne_eqb}
use Rattle.std.proofs.lemmas.Bool.{and_left, and_parts, and_right, cases_Bool}
use Rattle.std.proofs.lemmas.Fmt.{decimal_injective}
use Rattle.std.proofs.lemmas.List.{append_assoc, append-nil, append_cancel_left, length-append}
use Rattle.std.specs.Fmt.{decimal}
use Rattle.std.specs.List.{AllByRecursion, filter, list_all}
use Rattle.std.specs.List.Sorted.{IsNonDecreasing}
use Rattle.std.specs.Prelude.{if◌then◌else◌}
use Rattle.mam_archive.specs.Entries.{numbered}
use Rattle.base_lemmas.proofs.Bytes.{bytes_eq-self}
use Rattle.base_lemmas.proofs.Lists.{AllByRecursion-weaker}
use Rattle.base_io.specs.Names.{is_among}
use Rattle.cmd_report.proofs.Pairs.{pairs_map}
use Rattle.cmd_report.specs.Addresses.{origin_of}
use Rattle.cmd_report.specs.EntryLines.{EntryLineView}
use Rattle.cmd_report.specs.Lawful.{AgreeOnStamp, EachPair, at_any_time}
use Rattle.cmd_report.specs.LawfulRuns.{moment_of}
use Rattle.cmd_report.specs.Lines.{entry_line, take_line}
use Rattle.cmd_report.specs.Takes.{Take, archive_of, concerns, entry_of, numbered_from}
use Rattle.cmd_report.specs.declared.report.TakeLine.{TakeLine}
use Rattle.cmd_schedule.proofs.Lists.{all_append, all_filter, all_if}
use Rattle.cmd_schedule.proofs.Moments.{moment_push}
use Rattle.cmd_schedule.proofs.Prefixes.{sent_few}
use Rattle.cmd_schedule.proofs.StandingSteps.{AreStanding, Stands, all_along, device_kept}
use Rattle.cmd_schedule.specs.Contents.{accounts_of, along, device_name, devices_of, home_of, is_said_by, moment_after, sent_by}
use Rattle.cmd_schedule.specs.Grammar.{AreLines, Declared, declared_by, is_name, may_stand}
use Rattle.cmd_schedule.specs.Schedules.{steps_of}
use Rattle.cmd_schedule.specs.declared.schedule.Line.{Line}
use Rattle.cmd_schedule.specs.declared.schedule.Step.{Step}
use Rattle.cmd_schedule.specs.declared.schedule.Step.TheVariants.{Device, Say, Private}
use Rattle.cmd_schedule.specs.declared.schedule.Version.TheVariants.{Two}
use Rattle.cmd_direct.proofs.LawLists.{all_among, fronts_same, is_name_byte, name_bytes, pairs_filter, pairs_not_falling}
use Rattle.cmd_direct.proofs.LawTakes.{sent_no_less, sent_one, untimed}
use Rattle.cmd_direct.specs.Direct.{take_at, taken, takes_of}

-- Moments don't fall.

abbrev pub IsNoLater : Take → Take → Type 0
IsNoLater a b = a.moment ≤ b.moment

-- takes that begin at a moment
record Onward (low : ℕ) (takes : List Take) : Type 0 where
  pub above : AllByRecursion (λ t. low ≤ t.moment) takes
  pub pairs : EachPair IsNoLater takes

onward_from : (low high : ℕ) (takes : List Take) → low ≤ high → Onward high takes → Onward low takes
onward_from low high takes less onward = record {
  above = AllByRecursion-weaker (λ t. high ≤ t.moment) (λ t. low ≤ t.moment) (λ t is. omega (arith, less, is)) takes onward.above;
  pairs = onward.pairs;
}

clock_goes : (before : List Step) (step : Step) → moment_after before ≤ moment_after (before ++ step ∷ [])
clock_goes before step = omega (arith, moment_push before step)

onward_one : (all before : List Step) (name to text : List ℕ) (later : List Take) → Onward (moment_after before) later →
    Onward (moment_after before) (taken all before name to text ++ later)
onward_one all before name to text later onward =
    elim (cases_Bool (is_among to (accounts_of all))) [
      | inl there ↦ rw there (record { above = (omega arith, onward.above); pairs = (onward.above, onward.pairs) })
      | inr none ↦ rw none onward
    ]

onward_steps : (all before steps : List Step) → Onward (moment_after before) (along (take_at all) before steps)
onward_steps all before [] = record { above = tt; pairs = tt }
onward_steps all before (Say name to text ∷ steps) =
    let later = along (take_at all) (before ++ Say name to text ∷ []) steps in
    onward_one all before name to text later
    (onward_from (moment_after before) (moment_after (before ++ Say name to text ∷ [])) later (clock_goes before (Say name to text))
    (onward_steps all (before ++ Say name to text ∷ []) steps))
onward_steps all before (Private name to text ∷ steps) =
    let later = along (take_at all) (before ++ Private name to text ∷ []) steps in
    onward_one all before name to text later
    (onward_from (moment_after before) (moment_after (before ++ Private name to text ∷ [])) later (clock_goes before (Private name to text))
    (onward_steps all (before ++ Private name to text ∷ []) steps))
onward_steps all before (step ∷ steps) =
    onward_from (moment_after before) (moment_after (before ++ step ∷ [])) (along (take_at all) (before ++ step ∷ []) steps) (clock_goes before step)
    (onward_steps all (before ++ step ∷ []) steps)

pub moments_rise : (all : List Step) → EachPair IsNoLater (takes_of all all)
moments_rise all = (onward_steps all [] all).pairs

-- as the lines of version 2 tell them
pub told_rise : (keep : ℕ) (all : List Step) → IsNonDecreasing (map moment_of (map (take_line (Two keep)) (takes_of all all)))
told_rise keep all =
    pairs_not_falling (map moment_of (map (take_line (Two keep)) (takes_of all all)))
    (pairs_map (λ x y. x ≤ y) moment_of (map (take_line (Two keep)) (takes_of all all))
    (pairs_map (λ (a b : TakeLine). moment_of a ≤ moment_of b) (take_line (Two keep)) (takes_of all all) (moments_rise all)))

abbrev pub stamp_of : EntryLineView → ℕ
stamp_of e = e.stamp

abbrev pub moment_taken : Take → ℕ
moment_taken take = take.moment

stamps_are : (n : ℕ) (takes : List Take) → map stamp_of (map entry_line (numbered_from n (map entry_of takes))) ≡ map moment_taken takes
stamps_are n [] = refl
stamps_are n (take ∷ takes) = ap (λ rest. take.moment ∷ rest) (stamps_are (n + 1) takes)

-- along an archive the stamps don't fall
pub stamps_rise : (all : List Step) (name : List ℕ) → IsNonDecreasing (map stamp_of (map entry_line (archive_of name (takes_of all all))))
stamps_rise all name =
    let of_account : List Take = filter (concerns name) (takes_of all all) in
    subst IsNonDecreasing (sym (stamps_are 1 of_account))
    (pairs_not_falling (map moment_taken of_account)
    (pairs_map (λ x y. x ≤ y) moment_taken of_account
    (pairs_filter IsNoLater (concerns name) (takes_of all all) (moments_rise all))))

-- The moment of a message by its device and number.

abbrev pub message_moment : List ℕ → ℕ → List Step → List Step → ℕ
message_moment device n before [] = 0
message_moment device n before (step ∷ steps) =
    if is_said_by device step && (sent_by device before + 1 == n) then moment_after before else message_moment device n (before ++ step ∷ []) steps

-- the messages before one have lower numbers
moment_behind : (device : List ℕ) (n : ℕ) (before steps rest : List Step) → sent_by device (before ++ steps) < n →
    message_moment device n before (steps ++ rest) ≡ message_moment device n (before ++ steps) rest
moment_behind device n before [] rest low = ap (λ b. message_moment device n b rest) (sym (append-nil before))
moment_behind device n before (step ∷ steps) rest low =
    let joined : (before ++ step ∷ []) ++ steps ≡ before ++ step ∷ steps = append_assoc before (step ∷ []) steps in
    let later : message_moment device n (before ++ step ∷ []) (steps ++ rest) ≡ message_moment device n ((before ++ step ∷ []) ++ steps) rest =
    moment_behind device n (before ++ step ∷ []) steps rest (rw joined low) in
    let passed : (is_said_by device step && (sent_by device before + 1 == n)) ≡ false = elim (cases_Bool (is_said_by device step)) [
      | inl said ↦
          let one : sent_by device (before ++ step ∷ []) ≡ sent_by device before + 1 = sent_one device step before said in
          let more : sent_by device (before ++ step ∷ []) ≤ sent_by device ((before ++ step ∷ []) ++ steps) = sent_no_less device (before ++ step ∷ []) steps in
          let whole : sent_by device ((before ++ step ∷ []) ++ steps) ≡ sent_by device (before ++ step ∷ steps) = ap (sent_by device) joined in
          and_right (is_said_by device step) (sent_by device before + 1 == n) (ne_eqb (sent_by device before + 1) n (λ is. omega arith))
      | inr other ↦ and_left (is_said_by device step) (sent_by device before + 1 == n) other
    ] in
    ap (λ hit. cond hit (moment_after before) (message_moment device n (before ++ step ∷ []) (steps ++ rest))) passed
    ∙ later ∙ ap (λ b. message_moment device n b rest) joined

moment_found : (device : List ℕ) (before rest : List Step) (step : Step) → is_said_by device step ≡ true →
    message_moment device (sent_by device before + 1) [] (before ++ step ∷ rest) ≡ moment_after before
moment_found device before rest step said =
    let low : sent_by device before < sent_by device before + 1 = omega arith in
    let same : (sent_by device before + 1 == sent_by device before + 1) ≡ true = eq-eqb (sent_by device before + 1) (sent_by device before + 1) refl in
    moment_behind device (sent_by device before + 1) [] before (step ∷ rest) low ∙ rw (said, same)

-- each device is named by a name
abbrev pub AreNamed : List Step → Type 0
AreNamed all = AllByRecursion (λ name. is_name name ≡ true) (devices_of all)

step_named : (above : Declared) (step : Step) → IsTrue (may_stand above step) → AllByRecursion (λ name. is_name name ≡ true) (device_name step)
step_named above (Device name account) may =
    let outer = and_parts _ _ may in
    let inner = and_parts _ _ outer.0 in
    let named = and_parts _ _ inner.0 in
    (named.1, tt)
step_named above step may = tt

pub are_named : (above : Declared) (n : ℕ) (lines : List Line) → AreLines above n lines → AreNamed (steps_of lines)
are_named above n [] known = tt
are_named above n (line ∷ lines) known =
    all_append (λ name. is_name name ≡ true) (device_name line.step) (devices_of (steps_of lines)) (step_named above line.step known.2)
    (are_named (declared_by line.step above) (n + 1) lines known.3)

-- what is known of the moment of each take
record HasMoment (all : List Step) (take : Take) : Type 0 where
  pub plain : list_all is_name_byte take.device ≡ true
  pub few : take.n < 2 ^ 64
  pub epoch : take.epoch ≡ 1
  pub moment : take.moment ≡ message_moment take.device take.n [] all

moment_one : (all : List Step) → AreNamed all → length all < 2 ^ 64 → (before rest : List Step) (step : Step) (device to text : List ℕ) → before ++ step ∷ rest ≡ all →
    is_among device (devices_of before) ≡ true → is_said_by device step ≡ true → AllByRecursion (HasMoment all) (taken all before device to text)
moment_one all named few before rest step device to text whole known said =
    all_if (HasMoment all) (is_among to (accounts_of all)) (record { device = device; account = home_of before device; epoch = 1; n = sent_by device before + 1; to = to; text = text; moment = moment_after before })
    (λ there. record {
      plain = name_bytes device (all_among (λ name. is_name name ≡ true) device (devices_of all) named (rw whole at (device_kept device before (step ∷ rest) known)));
      few = omega (arith, few, sent_few device before, length-append before (step ∷ rest), ap length whole);
      epoch = refl;
      moment = rw whole at (sym (moment_found device before rest step said));
    })

moment_at : (all : List Step) → AreNamed all → length all < 2 ^ 64 → (before rest : List Step) (step : Step) → before ++ step ∷ rest ≡ all → Stands before step →
    AllByRecursion (HasMoment all) (take_at all before step)
moment_at all named few before rest (Say device to text) whole known = moment_one all named few before rest (Say device to text) device to text whole known (bytes_eq-self device)
moment_at all named few before rest (Private device to text) whole known = moment_one all named few before rest (Private device to text) device to text whole known (bytes_eq-self device)
moment_at all named few before rest step whole known = tt

moments_known : (all : List Step) → AreStanding [] all → AreNamed all → length all < 2 ^ 64 → AllByRecursion (HasMoment all) (takes_of all all)
moments_known all known named few = all_along (HasMoment all) (take_at all) all (moment_at all named few) [] all refl known

-- Entries of one message.

-- the message that an entry's line is of, and its moment
pub record IsStamped (all : List Step) (e : EntryLineView) : Type 0 where
  pub device : List ℕ
  pub n : ℕ
  pub plain : list_all is_name_byte device ≡ true
  pub few : n < 2 ^ 64
  pub origin : e.origin ≡ origin_of device 1 n
  pub stamp : e.stamp ≡ message_moment device n [] all

numbered_stamped : (all : List Step) (n : ℕ) (takes : List Take) → AllByRecursion (HasMoment all) takes →
    AllByRecursion (IsStamped all) (map entry_line (numbered_from n (map entry_of takes)))
numbered_stamped all n [] known = tt
numbered_stamped all n (take ∷ takes) known = (
  record {
    device = take.device;
    n = take.n;
    plain = known.0.plain;
    few = known.0.few;
    origin = ap (λ epoch. origin_of take.device epoch take.n) known.0.epoch;
    stamp = known.0.moment;
  },
  numbered_stamped all (n + 1) takes known.1,
)

pub archive_stamped : (all : List Step) → AreStanding [] all → AreNamed all → length all < 2 ^ 64 → (name : List ℕ) →
    AllByRecursion (IsStamped all) (map entry_line (archive_of name (takes_of all all)))
archive_stamped all known named few name =
    numbered_stamped all 1 (filter (concerns name) (takes_of all all))
    (all_filter (HasMoment all) (concerns name) (takes_of all all) (moments_known all known named few))

-- an origin id tells the device and the number
pub stamps_agree : (all : List Step) (a b : EntryLineView) → IsStamped all a → IsStamped all b → AgreeOnStamp a b
stamps_agree all a b first second from origin =
    let ids : origin_of first.device 1 first.n ≡ origin_of second.device 1 second.n = sym first.origin ∙ origin ∙ second.origin in
    let same : first.device ++ 46 ∷ (decimal 1 ++ 46 ∷ decimal first.n) ≡ second.device ++ 46 ∷ (decimal 1 ++ 46 ∷ decimal second.n) =
    sym (append_assoc first.device (46 ∷ decimal 1) (46 ∷ decimal first.n)) ∙ ids ∙ append_assoc second.device (46 ∷ decimal 1) (46 ∷ decimal second.n) in
    let parts = fronts_same first.device second.device (decimal 1 ++ 46 ∷ decimal first.n) (decimal 1 ++ 46 ∷ decimal second.n) first.plain second.plain same in
    let tails : 46 ∷ decimal first.n ≡ 46 ∷ decimal second.n = append_cancel_left (decimal 1) (46 ∷ decimal first.n) (46 ∷ decimal second.n) parts.rest in
    let digits : decimal first.n ≡ decimal second.n = cc tails in
    let number : first.n ≡ second.n = decimal_injective first.n second.n first.few second.few digits in
    first.stamp ∙ ap (λ device. message_moment device first.n [] all) parts.front ∙ ap (λ n. message_moment second.device n [] all) number ∙ sym second.stamp

-- Archives but for the moments are those of takes without moments.

timeless_from : (account : List ℕ) (n : ℕ) (takes : List Take) →
    map (λ e. at_any_time (entry_line e)) (numbered_from n (map entry_of (filter (concerns account) takes)))
    ≡ map (λ e. at_any_time (entry_line e)) (numbered_from n (map entry_of (filter (concerns account) (map untimed takes))))
timeless_from account n [] = refl
timeless_from account n (take ∷ takes) =
    elim (cases_Bool (concerns account take)) [
      | inl hit ↦ rw hit (ap (λ rest. at_any_time (entry_line (numbered n (entry_of take))) ∷ rest) (timeless_from account (n + 1) takes))
      | inr miss ↦ rw miss (timeless_from account n takes)
    ]

pub timeless : (account : List ℕ) (takes : List Take) →
    map (λ e. at_any_time (entry_line e)) (archive_of account takes) ≡ map (λ e. at_any_time (entry_line e)) (archive_of account (map untimed takes))
timeless account takes = timeless_from account 1 takes
