-- What a schedule's lines declare and send has names, texts and moments as its grammar has them.
use Rattle.std.proofs.Common.{◌≡◌, ℕ, ◌+◌, ◌<◌, ◌≤◌, ◌^◌, true, List, [], ◌∷◌, ◌++◌, length, take, Some, IsTrue, refl, ap, subst, arith}
use Rattle.std.proofs.lemmas.Bool.{and_parts}
use Rattle.std.proofs.lemmas.List.{length-append, take_at}
use Rattle.std.specs.List.{AllByRecursion, slice_get}
use Rattle.std.specs.Str.{bytes_eq}
use Rattle.cmd_direct.proofs.LawLists.{all_among}
use Rattle.cmd_direct.proofs.TurnRuns.{all_positions}
use Rattle.cmd_direct.specs.Direct.{said_at, said_line, take_at as taken_at, taken, takes_of}
use Rattle.base_io.specs.Names.{is_among}
use Rattle.cmd_report.specs.Takes.{Take}
use Rattle.cmd_report.specs.declared.report.SaidMark.TheVariants.{Acknowledged}
use Rattle.cmd_report_reader.specs.Readable.{IsSaid}
use Rattle.law_reports.proofs.Fields.{name_visible, text_on_line, visible_field}
use Rattle.cmd_schedule.proofs.Lists.{all_flat_map, all_if}
use Rattle.cmd_schedule.proofs.Moments.{moment_fits}
use Rattle.cmd_schedule.proofs.Prefixes.{sent_few}
use Rattle.cmd_schedule.proofs.StandingSteps.{AreStanding, all_along, device_kept, home_kept, homes_exist}
use Rattle.cmd_schedule.specs.Contents.{account_name, accounts_of, device_name, along, devices_of, home_of, moment_after, sent_by}
use Rattle.cmd_schedule.specs.Grammar.{Declared, is_name, is_text, may_stand}
use Rattle.cmd_schedule.specs.Standing.{AreRight, declared_in}
use Rattle.cmd_schedule.specs.declared.schedule.Step.{Step}
use Rattle.cmd_schedule.specs.declared.schedule.Step.TheVariants.{Account, Device, Say, Private, Catchup, Tick}

-- ---- names

abbrev pub IsNamed : List ℕ → Type 0
IsNamed name = is_name name ≡ true

pub named_account : (above : Declared) (step : Step) → IsTrue (may_stand above step) → AllByRecursion IsNamed (account_name step)
named_account above (Account name) may = ((and_parts _ _ (and_parts _ _ may).0).1, tt)
named_account above (Device name account) may = tt
named_account above (Say device to text) may = tt
named_account above (Private device to text) may = tt
named_account above (Catchup device most) may = tt
named_account above (Tick ms) may = tt

pub named_device : (above : Declared) (step : Step) → IsTrue (may_stand above step) → AllByRecursion IsNamed (device_name step)
named_device above (Account name) may = tt
named_device above (Device name account) may = ((and_parts _ _ (and_parts _ _ (and_parts _ _ may).0).0).1, tt)
named_device above (Say device to text) may = tt
named_device above (Private device to text) may = tt
named_device above (Catchup device most) may = tt
named_device above (Tick ms) may = tt

-- what is known of all steps of a schedule
pub record IsKnown (all : List Step) : Type 0 where
  pub right : AreRight all
  pub stand : AreStanding [] all
  pub accounts : AllByRecursion IsNamed (accounts_of all)
  pub devices : AllByRecursion IsNamed (devices_of all)

pub known : (all : List Step) → AreRight all → AreStanding [] all → IsKnown all
known all right stand = record {
  right = right;
  stand = stand;
  accounts = all_flat_map IsNamed account_name all
      (all_positions (λ step. AllByRecursion IsNamed (account_name step)) all (λ i step at. named_account (declared_in (take i all)) step (right.each i step at)));
  devices = all_flat_map IsNamed device_name all
      (all_positions (λ step. AllByRecursion IsNamed (device_name step)) all (λ i step at. named_device (declared_in (take i all)) step (right.each i step at)));
}

-- what is true of each is true of each with the other
pub both : {A : Type 0} (P Q : A → Type 0) (xs : List A) → AllByRecursion P xs → AllByRecursion Q xs → AllByRecursion (λ x. P x × Q x) xs
both P Q [] p q = tt
both P Q (x ∷ xs) p q = ((p.0, q.0), both P Q xs p.1 q.1)

-- a step in its place may stand there
item_after : {A : Type 0} (front rest : List A) (x : A) → slice_get (front ++ x ∷ rest) (length front) ≡ Some x
item_after [] rest x = refl
item_after (y ∷ front) rest x = item_after front rest x

pub may_here : (all before rest : List Step) (step : Step) → before ++ step ∷ rest ≡ all → IsKnown all → IsTrue (may_stand (declared_in before) step)
may_here all before rest step whole is =
    let at : slice_get all (length before) ≡ Some step = subst (λ steps. slice_get steps (length before) ≡ Some step) whole (item_after before rest step) in
    let front : take (length before) all ≡ before = subst (λ steps. take (length before) steps ≡ before) whole (take_at before (step ∷ rest) (length before) refl) in
    subst (λ b. IsTrue (may_stand (declared_in b) step)) front (is.right.each (length before) step at)

-- the clock before a step
moment_here : (all before rest : List Step) → before ++ rest ≡ all → IsKnown all → moment_after before < 2 ^ 64
moment_here all before rest whole is =
    let front : take (length before) all ≡ before = subst (λ steps. take (length before) steps ≡ before) whole (take_at before rest (length before) refl) in
    subst (λ b. moment_after b < 2 ^ 64) front (moment_fits all (length before) is.right)

few_before : (all before rest : List Step) → before ++ rest ≡ all → length all ≤ 100000 → length before ≤ 100000
few_before all before rest whole few = omega (arith, few, ap length whole, length-append before rest)

-- ---- a device that is declared above, and its account

pub device_named : (all before rest : List Step) (device : List ℕ) → before ++ rest ≡ all → IsKnown all → is_among device (devices_of before) ≡ true → is_name device ≡ true
device_named all before rest device whole is among =
    all_among IsNamed device (devices_of all) is.devices (subst (λ steps. is_among device (devices_of steps) ≡ true) whole (device_kept device before rest among))

-- the account of a declared device
pub home_named : (all : List Step) (device : List ℕ) → IsKnown all → is_among device (devices_of all) ≡ true → is_name (home_of all device) ≡ true
home_named all device is among =
    all_among IsNamed (home_of all device) (accounts_of all) is.accounts
    (all_among (λ name. is_among (home_of all name) (accounts_of all) ≡ true) device (devices_of all) (homes_exist all [] all refl is.stand) among)

home_here : (all before rest : List Step) (device : List ℕ) → before ++ rest ≡ all → IsKnown all → is_among device (devices_of before) ≡ true → is_name (home_of before device) ≡ true
home_here all before rest device whole is among =
    let there : is_among device (devices_of all) ≡ true = subst (λ steps. is_among device (devices_of steps) ≡ true) whole (device_kept device before rest among) in
    let same : home_of all device ≡ home_of before device = subst (λ steps. home_of steps device ≡ home_of before device) whole (home_kept device before rest among) in
    subst (λ home. is_name home ≡ true) same (home_named all device is there)

-- ---- what is sent

-- a message, as its line may send it
record IsSent (before : List Step) (device to text : List ℕ) : Type 0 where
  pub declared : is_among device (devices_of before) ≡ true
  pub named : is_name to ≡ true
  pub written : is_text text ≡ true

sent : (before : List Step) (device to text : List ℕ) → IsTrue (may_stand (declared_in before) (Say device to text)) → IsSent before device to text
sent before device to text may =
    let outer = and_parts _ _ may in
    let inner = and_parts _ _ outer.0 in
    record { declared = inner.0; named = inner.1; written = outer.1 }

pub record IsTaken (take : Take) : Type 0 where
  pub device : is_name take.device ≡ true
  pub account : is_name take.account ≡ true
  pub epoch : take.epoch < 2 ^ 64
  pub n : take.n < 2 ^ 64
  pub to : is_name take.to ≡ true
  pub text : is_text take.text ≡ true
  pub moment : take.moment < 2 ^ 64

taken_right : (all before rest : List Step) (device to text : List ℕ) → before ++ rest ≡ all → IsKnown all → IsSent before device to text →
    AllByRecursion IsTaken (taken all before device to text)
taken_right all before rest device to text whole is line =
    all_if IsTaken (is_among to (accounts_of all)) (record { device = device; account = home_of before device; epoch = 1; n = sent_by device before + 1; to = to; text = text; moment = moment_after before })
    (λ there. record {
      device = device_named all before rest device whole is line.declared;
      account = home_here all before rest device whole is line.declared;
      epoch = omega arith;
      n = omega (arith, sent_few device before, few_before all before rest whole is.right.few);
      to = line.named;
      text = line.written;
      moment = moment_here all before rest whole is;
    })

take_right : (all before rest : List Step) (step : Step) → before ++ step ∷ rest ≡ all → IsKnown all → AllByRecursion IsTaken (taken_at all before step)
take_right all before rest (Say device to text) whole is =
    taken_right all before (Say device to text ∷ rest) device to text whole is (sent before device to text (may_here all before rest (Say device to text) whole is))
take_right all before rest (Private device to text) whole is =
    taken_right all before (Private device to text ∷ rest) device to text whole is (sent before device to text (may_here all before rest (Private device to text) whole is))
take_right all before rest (Account name) whole is = tt
take_right all before rest (Device name account) whole is = tt
take_right all before rest (Catchup device most) whole is = tt
take_right all before rest (Tick ms) whole is = tt

pub takes_right : (all : List Step) → IsKnown all → AllByRecursion IsTaken (takes_of all all)
takes_right all is = all_along IsTaken (taken_at all) all (λ before rest step whole stands. take_right all before rest step whole is) [] all refl is.stand

said_line_right : (all before rest : List Step) (name device to text : List ℕ) → before ++ rest ≡ all → IsKnown all → IsSent before device to text →
    AllByRecursion IsSaid (said_line name before device to text)
said_line_right all before rest name device to text whole is line =
    all_if IsSaid (bytes_eq name device) (record { epoch = 1; n = sent_by name before + 1; state = Acknowledged; to = to; text = text })
    (λ same. record {
      epoch = omega arith;
      n = omega (arith, sent_few name before, few_before all before rest whole is.right.few);
      to = visible_field to (name_visible to line.named);
      text = text_on_line text line.written;
    })

said_step_right : (all before rest : List Step) (name : List ℕ) (step : Step) → before ++ step ∷ rest ≡ all → IsKnown all → AllByRecursion IsSaid (said_at name before step)
said_step_right all before rest name (Say device to text) whole is =
    said_line_right all before (Say device to text ∷ rest) name device to text whole is (sent before device to text (may_here all before rest (Say device to text) whole is))
said_step_right all before rest name (Private device to text) whole is =
    said_line_right all before (Private device to text ∷ rest) name device to text whole is (sent before device to text (may_here all before rest (Private device to text) whole is))
said_step_right all before rest name (Account other) whole is = tt
said_step_right all before rest name (Device other account) whole is = tt
said_step_right all before rest name (Catchup device most) whole is = tt
said_step_right all before rest name (Tick ms) whole is = tt

pub said_right : (all : List Step) (name : List ℕ) → IsKnown all → AllByRecursion IsSaid (along (said_at name) [] all)
said_right all name is = all_along IsSaid (said_at name) all (λ before rest step whole stands. said_step_right all before rest name step whole is) [] all refl is.stand
