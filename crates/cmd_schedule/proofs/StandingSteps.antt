-- The steps of a schedule stand where they may: a device's account and a message's device are declared above. What is
-- found among the declarations by that.
use Rattle.std.proofs.Common.{◌≡◌, ℕ, ◌+◌, ◌≤◌, true, false, List, [], ◌∷◌, ◌++◌, length, map, IsTrue, refl, ◌∙◌, arith, inl, inr}
use Rattle.std.proofs.lemmas.Bool.{and_parts, cases_Bool, false≢true, leb-true, not-true, or_left, or_parts}
use Rattle.std.proofs.lemmas.List.{append_assoc, append-nil}
use Rattle.std.proofs.lemmas.List.Concat.{flat_map-append}
use Rattle.std.proofs.lemmas.List.Folds.{list_any-append}
use Rattle.std.specs.List.{AllByRecursion}
use Rattle.std.specs.Str.{bytes_eq}
use Rattle.cmd_schedule.proofs.Lists.{all_append}
use Rattle.cmd_schedule.specs.Contents.{account_name, accounts_of, along, device_name, devices_of, home_of, Owned, owned_in}
use Rattle.cmd_schedule.specs.Grammar.{AreLines, Declared, declared_by, may_stand}
use Rattle.base_io.specs.Names.{is_among}
use Rattle.cmd_schedule.specs.Schedules.{steps_of}
use Rattle.cmd_schedule.specs.declared.schedule.Line.{Line}
use Rattle.cmd_schedule.specs.declared.schedule.Step.{Step}
use Rattle.cmd_schedule.specs.declared.schedule.Step.TheVariants.{Account, Device, Say, Private, Catchup, Tick}
use Rattle.cmd_schedule.specs.declared.schedule.TheConstants.{MOST_TICK}
use Rattle.base_lemmas.proofs.Bytes.{bytes_eq-self}

-- what a step says of the steps above it
abbrev pub Stands : List Step → Step → Type 0
Stands before (Account name) = Unit {0}
Stands before (Device name account) = (is_among name (devices_of before) ≡ false) × (is_among account (accounts_of before) ≡ true)
Stands before (Say device to text) = is_among device (devices_of before) ≡ true
Stands before (Private device to text) = is_among device (devices_of before) ≡ true
Stands before (Catchup device most) = (is_among device (devices_of before) ≡ true) × (1 ≤ most) × (most ≤ 100)
Stands before (Tick ms) = ms ≤ MOST_TICK

abbrev pub AreStanding : List Step → List Step → Type 0
AreStanding before [] = Unit {0}
AreStanding before (step ∷ steps) = Stands before step × AreStanding (before ++ step ∷ []) steps

abbrev pub declared_of : List Step → Declared
declared_of before = record { accounts = accounts_of before; devices = devices_of before }

declared_step : (before : List Step) (step : Step) → declared_by step (declared_of before) ≡ declared_of (before ++ step ∷ [])
declared_step before (Account name) =
    let accounts : accounts_of (before ++ Account name ∷ []) ≡ accounts_of before ++ name ∷ [] = flat_map-append account_name before (Account name ∷ []) in
    let devices : devices_of (before ++ Account name ∷ []) ≡ devices_of before = flat_map-append device_name before (Account name ∷ []) ∙ append-nil (devices_of before) in
    rw (accounts, devices)
declared_step before (Device name account) =
    let accounts : accounts_of (before ++ Device name account ∷ []) ≡ accounts_of before = flat_map-append account_name before (Device name account ∷ []) ∙ append-nil (accounts_of before) in
    let devices : devices_of (before ++ Device name account ∷ []) ≡ devices_of before ++ name ∷ [] = flat_map-append device_name before (Device name account ∷ []) in
    rw (accounts, devices)
declared_step before (Say device to text) =
    let accounts : accounts_of (before ++ Say device to text ∷ []) ≡ accounts_of before = flat_map-append account_name before (Say device to text ∷ []) ∙ append-nil (accounts_of before) in
    let devices : devices_of (before ++ Say device to text ∷ []) ≡ devices_of before = flat_map-append device_name before (Say device to text ∷ []) ∙ append-nil (devices_of before) in
    rw (accounts, devices)
declared_step before (Private device to text) =
    let accounts : accounts_of (before ++ Private device to text ∷ []) ≡ accounts_of before = flat_map-append account_name before (Private device to text ∷ []) ∙ append-nil (accounts_of before) in
    let devices : devices_of (before ++ Private device to text ∷ []) ≡ devices_of before = flat_map-append device_name before (Private device to text ∷ []) ∙ append-nil (devices_of before) in
    rw (accounts, devices)
declared_step before (Catchup device most) =
    let accounts : accounts_of (before ++ Catchup device most ∷ []) ≡ accounts_of before = flat_map-append account_name before (Catchup device most ∷ []) ∙ append-nil (accounts_of before) in
    let devices : devices_of (before ++ Catchup device most ∷ []) ≡ devices_of before = flat_map-append device_name before (Catchup device most ∷ []) ∙ append-nil (devices_of before) in
    rw (accounts, devices)
declared_step before (Tick ms) =
    let accounts : accounts_of (before ++ Tick ms ∷ []) ≡ accounts_of before = flat_map-append account_name before (Tick ms ∷ []) ∙ append-nil (accounts_of before) in
    let devices : devices_of (before ++ Tick ms ∷ []) ≡ devices_of before = flat_map-append device_name before (Tick ms ∷ []) ∙ append-nil (devices_of before) in
    rw (accounts, devices)

stands : (before : List Step) (step : Step) → IsTrue (may_stand (declared_of before) step) → Stands before step
stands before (Account name) may = tt
stands before (Device name account) may =
    let outer = and_parts _ _ may in
    let inner = and_parts _ _ outer.0 in
    (not-true (is_among name (devices_of before)) inner.1, outer.1)
stands before (Say device to text) may = (and_parts _ _ (and_parts _ _ may).0).0
stands before (Private device to text) may = (and_parts _ _ (and_parts _ _ may).0).0
stands before (Catchup device most) may =
    let outer = and_parts _ _ may in
    let inner = and_parts _ _ outer.0 in
    (inner.0, leb-true 1 most inner.1, leb-true most 100 outer.1)
stands before (Tick ms) may = leb-true ms MOST_TICK may

pub steps_stand : (before : List Step) (n : ℕ) (lines : List Line) → AreLines (declared_of before) n lines → AreStanding before (steps_of lines)
steps_stand before n [] known = tt
steps_stand before n (line ∷ lines) known =
    (stands before line.step known.2, steps_stand (before ++ line.step ∷ []) (n + 1) lines (rw (declared_step before line.step) at known.3))

pub few_lines : (above : Declared) (n : ℕ) (lines : List Line) → n ≤ 100001 → AreLines above n lines → length lines + n ≤ 100001
few_lines above n [] low known = omega arith
few_lines above n (line ∷ lines) low known =
    let within : n ≤ 100000 = known.1 in
    let rest : length lines + (n + 1) ≤ 100001 = few_lines (declared_by line.step above) (n + 1) lines (omega arith) known.3 in
    omega arith

pub standing_front : (before xs ys : List Step) → AreStanding before (xs ++ ys) → AreStanding before xs
standing_front before [] ys known = tt
standing_front before (x ∷ xs) ys known = (known.0, standing_front (before ++ x ∷ []) xs ys known.1)

pub standing_rest : (before xs ys : List Step) → AreStanding before (xs ++ ys) → AreStanding (before ++ xs) ys
standing_rest before [] ys known = rw (append-nil before) known
standing_rest before (x ∷ xs) ys known = rw (append_assoc before (x ∷ []) xs) at (standing_rest (before ++ x ∷ []) xs ys known.1)

-- what steps give one by one has what each gives
pub all_along : {A : Type 0} (P : A → Type 0) (f : List Step → Step → List A) (all : List Step) →
    ((before rest : List Step) (step : Step) → before ++ step ∷ rest ≡ all → Stands before step → AllByRecursion P (f before step)) →
    (before steps : List Step) → before ++ steps ≡ all → AreStanding before steps → AllByRecursion P (along f before steps)
all_along P f all each before [] whole known = tt
all_along P f all each before (step ∷ steps) whole known =
    all_append P (f before step) (along f (before ++ step ∷ []) steps) (each before steps step whole known.0)
    (all_along P f all each (before ++ step ∷ []) steps (append_assoc before (step ∷ []) steps ∙ whole) known.1)

-- what is declared above is declared
pub account_kept : (name : List ℕ) (before rest : List Step) → is_among name (accounts_of before) ≡ true → is_among name (accounts_of (before ++ rest)) ≡ true
account_kept name before rest known =
    let joined : accounts_of (before ++ rest) ≡ accounts_of before ++ accounts_of rest = flat_map-append account_name before rest in
    rw (joined, list_any-append (λ other. bytes_eq name other) (accounts_of before) (accounts_of rest)) (or_left _ _ known)

pub device_kept : (name : List ℕ) (before rest : List Step) → is_among name (devices_of before) ≡ true → is_among name (devices_of (before ++ rest)) ≡ true
device_kept name before rest known =
    let joined : devices_of (before ++ rest) ≡ devices_of before ++ devices_of rest = flat_map-append device_name before rest in
    rw (joined, list_any-append (λ other. bytes_eq name other) (devices_of before) (devices_of rest)) (or_left _ _ known)

-- the account of a device that is declared above, and of one that isn't
pub home_kept : (name : List ℕ) (before rest : List Step) → is_among name (devices_of before) ≡ true → home_of (before ++ rest) name ≡ home_of before name
home_kept name [] rest known = absurd (false≢true known)
home_kept name (Device other account ∷ before) rest known =
    elim (cases_Bool (bytes_eq name other)) [
      | inl same ↦ rw same
      | inr differs ↦ rw differs (home_kept name before rest (rw differs at known))
    ]
home_kept name (step ∷ before) rest known = home_kept name before rest known

home_after : (name : List ℕ) (before rest : List Step) → is_among name (devices_of before) ≡ false → home_of (before ++ rest) name ≡ home_of rest name
home_after name [] rest known = refl
home_after name (Device other account ∷ before) rest known =
    let parts = or_parts (bytes_eq name other) (is_among name (devices_of before)) known in
    rw parts.0 (home_after name before rest parts.1)
home_after name (step ∷ before) rest known = home_after name before rest known

home_here : (name account : List ℕ) (before rest : List Step) → is_among name (devices_of before) ≡ false → home_of (before ++ Device name account ∷ rest) name ≡ account
home_here name account before rest known = home_after name before (Device name account ∷ rest) known ∙ rw (bytes_eq-self name)

abbrev pub home_in : List Step → List ℕ → Owned
home_in all name = record { device = name; account = home_of all name }

pub homes_are : (all before steps : List Step) → before ++ steps ≡ all → AreStanding before steps → map (home_in all) (devices_of steps) ≡ owned_in steps
homes_are all before [] whole known = refl
homes_are all before (Device name account ∷ steps) whole known =
    let here : home_of all name ≡ account = rw whole at (home_here name account before steps known.0.0) in
    let rest = homes_are all (before ++ Device name account ∷ []) steps (append_assoc before (Device name account ∷ []) steps ∙ whole) known.1 in
    rw (here, rest)
homes_are all before (step ∷ steps) whole known = homes_are all (before ++ step ∷ []) steps (append_assoc before (step ∷ []) steps ∙ whole) known.1

-- the account of each device is declared
pub homes_exist : (all before steps : List Step) → before ++ steps ≡ all → AreStanding before steps →
    AllByRecursion (λ name. is_among (home_of all name) (accounts_of all) ≡ true) (devices_of steps)
homes_exist all before [] whole known = tt
homes_exist all before (Device name account ∷ steps) whole known =
    let here : home_of all name ≡ account = rw whole at (home_here name account before steps known.0.0) in
    let exists : is_among account (accounts_of all) ≡ true = rw whole at (account_kept account before (Device name account ∷ steps) known.0.1) in
    (rw here exists, homes_exist all (before ++ Device name account ∷ []) steps (append_assoc before (Device name account ∷ []) steps ∙ whole) known.1)
homes_exist all before (step ∷ steps) whole known = homes_exist all (before ++ step ∷ []) steps (append_assoc before (step ∷ []) steps ∙ whole) known.1
