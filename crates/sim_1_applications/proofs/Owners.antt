-- Devices by their places and by their names, which differ.
use Rattle.std.proofs.Common.{◌≡◌, ◌≢◌, ℕ, zero, suc, ◌<◌, ◌==◌, true, false, List, [], ◌∷◌, ◌++◌, Some, length, map, refl, sym, ap, ◌∙◌, subst, arith, inl, inr}
use Rattle.std.proofs.lemmas.Bool.{or_parts}
use Rattle.std.proofs.lemmas.Bool.Decides.{eqb_tells}
use Rattle.std.proofs.lemmas.List.Folds.{list_any-append}
use Rattle.std.proofs.lemmas.Option.{none-some, same_Some}
use Rattle.std.specs.List.{AllByRecursion, slice_get}
use Rattle.std.specs.Str.{bytes_eq}
use Rattle.mam_archive.specs.Entries.{EntryView}
use Rattle.base_lemmas.proofs.Bytes.{bytes_eq-self, bytes_eq-from_other, other-from_bytes_eq}
use Rattle.base_lemmas.proofs.Lists.{AllByRecursion-weaker}
use Rattle.base_io.specs.Names.{is_among}
use Rattle.cmd_report.specs.Lawful.{EachPair, device_named}
use Rattle.cmd_report.specs.Reports.{DeviceView}
use Rattle.cmd_schedule.proofs.Prefixes.{devices_push}
use Rattle.cmd_schedule.proofs.StandingSteps.{AreStanding}
use Rattle.cmd_schedule.specs.Contents.{Owned, device_name, devices_of, owned_in}
use Rattle.cmd_schedule.specs.declared.schedule.Step.{Step}
use Rattle.cmd_schedule.specs.declared.schedule.Step.TheVariants.{Device}
use Rattle.sim_1_applications.specs.Devices as sessions
use Rattle.sim_1_applications.specs.Reported.{AreDeviceLines, IsDeviceLine, name_at}

abbrev pub names_of : List Owned → List (List ℕ)
names_of owned = map (λ (o : Owned). o.device) owned

pub names_are : (steps : List Step) → names_of (owned_in steps) ≡ devices_of steps
names_are [] = refl
names_are (Device name account ∷ steps) = ap (λ names. name ∷ names) (names_are steps)
names_are (step ∷ steps) = names_are steps

-- no two names are the same
abbrev pub Differ : List (List ℕ) → Type 0
Differ names = EachPair (λ a b. bytes_eq b a ≡ false) names

among_parts : (name : List ℕ) (before : List Step) (step : Step) → is_among name (devices_of (before ++ step ∷ [])) ≡ false →
    (is_among name (devices_of before) ≡ false) × (is_among name (device_name step) ≡ false)
among_parts name before step none =
    or_parts (is_among name (devices_of before)) (is_among name (device_name step))
    (sym (list_any-append (λ other. bytes_eq name other) (devices_of before) (device_name step)) ∙ ap (is_among name) (sym (devices_push before step)) ∙ none)

differ_from : (before steps : List Step) → AreStanding before steps →
    AllByRecursion (λ name. is_among name (devices_of before) ≡ false) (devices_of steps) × Differ (devices_of steps)
differ_from before [] known = (tt, tt)
differ_from before (Device name account ∷ steps) known =
    let rest = differ_from (before ++ Device name account ∷ []) steps known.1 in (
      (
        known.0.0,
        AllByRecursion-weaker (λ m. is_among m (devices_of (before ++ Device name account ∷ [])) ≡ false) (λ m. is_among m (devices_of before) ≡ false)
            (λ m none. (among_parts m before (Device name account) none).0) (devices_of steps) rest.0,
      ),
      (
        AllByRecursion-weaker (λ m. is_among m (devices_of (before ++ Device name account ∷ [])) ≡ false) (λ m. bytes_eq m name ≡ false)
            (λ m none. (or_parts (bytes_eq m name) false (among_parts m before (Device name account) none).1).0) (devices_of steps) rest.0,
        rest.1,
      ),
    )
differ_from before (step ∷ steps) known =
    let rest = differ_from (before ++ step ∷ []) steps known.1 in (
      AllByRecursion-weaker (λ m. is_among m (devices_of (before ++ step ∷ [])) ≡ false) (λ m. is_among m (devices_of before) ≡ false)
          (λ m none. (among_parts m before step none).0) (devices_of steps) rest.0,
      rest.1,
    )

pub names_differ : (steps : List Step) → AreStanding [] steps → Differ (names_of (owned_in steps))
names_differ steps known = subst Differ (sym (names_are steps)) (differ_from [] steps known).1

-- Names and places.

pub name_is : (owned : List Owned) (i : ℕ) (o : Owned) → slice_get owned i ≡ Some o → name_at owned i ≡ o.device
name_is [] i o at = absurd (none-some o at)
name_is (p ∷ owned) zero o at = ap (λ (q : Owned). q.device) (same_Some p o at)
name_is (p ∷ owned) (suc i) o at = name_is owned i o at

name_differs : (first : List ℕ) (owned : List Owned) (j : ℕ) → AllByRecursion (λ b. bytes_eq b first ≡ false) (names_of owned) → j < length owned → bytes_eq (name_at owned j) first ≡ false
name_differs first [] j others within = absurd (omega arith)
name_differs first (p ∷ owned) zero others within = others.0
name_differs first (p ∷ owned) (suc j) others within = name_differs first owned j others.1 (omega arith)

pub name_other : (owned : List Owned) (i j : ℕ) (o : Owned) → Differ (names_of owned) → slice_get owned i ≡ Some o → j < length owned → j ≢ i → bytes_eq o.device (name_at owned j) ≡ false
name_other [] i j o differ at within other = absurd (omega arith)
name_other (p ∷ owned) zero zero o differ at within other = absurd (other refl)
name_other (p ∷ owned) zero (suc j) o differ at within other =
    ap (λ (q : Owned). bytes_eq q.device (name_at owned j)) (sym (same_Some p o at))
    ∙ bytes_eq-from_other p.device (name_at owned j) (λ same. other-from_bytes_eq (name_at owned j) p.device (name_differs p.device owned j differ.0 (omega arith)) (sym same))
name_other (p ∷ owned) (suc i) zero o differ at within other =
    ap (λ name. bytes_eq name p.device) (sym (name_is owned i o at)) ∙ name_differs p.device owned i differ.0 (within_of owned i o at)
  where
    within_of : (xs : List Owned) (k : ℕ) (x : Owned) → slice_get xs k ≡ Some x → k < length xs
    within_of [] k x found = absurd (none-some x found)
    within_of (y ∷ xs) zero x found = omega arith
    within_of (y ∷ xs) (suc k) x found = let rest = within_of xs k x found in omega arith
name_other (p ∷ owned) (suc i) (suc j) o differ at within other = name_other owned i j o differ.1 at (omega arith) (λ e. other (ap suc e))

-- a name tells the place
pub name_tells : (owned : List Owned) (i j : ℕ) (o : Owned) → Differ (names_of owned) → slice_get owned i ≡ Some o → j < length owned → bytes_eq o.device (name_at owned j) ≡ (j == i)
name_tells owned i j o differ at within =
    elim (eqb_tells j i) [
      | inl same ↦ ap (λ k. bytes_eq o.device (name_at owned k)) same.1 ∙ ap (bytes_eq o.device) (name_is owned i o at) ∙ bytes_eq-self o.device ∙ sym same.0
      | inr other ↦ name_other owned i j o differ at within other.1 ∙ sym other.0
    ]

-- Lines of devices.

-- the line at a place is that of a device
pub record LineAt (keep : ℕ) (history : List ℕ → List EntryView) (owned : List Owned) (ds : List sessions.Device) (i : ℕ) (line : DeviceView) : Type 0 where
  pub o : Owned
  pub d : sessions.Device
  pub owner : slice_get owned i ≡ Some o
  pub device : slice_get ds i ≡ Some d
  pub is : IsDeviceLine keep (history o.account) o d line

pub line_at : (keep : ℕ) (history : List ℕ → List EntryView) (owned : List Owned) (ds : List sessions.Device) (lines : List DeviceView) (i : ℕ) (line : DeviceView) →
    AreDeviceLines keep history owned ds lines → slice_get lines i ≡ Some line → LineAt keep history owned ds i line
line_at keep history [] [] [] i line known at = absurd (none-some line at)
line_at keep history [] [] (l ∷ lines) i line known at = absurd known
line_at keep history [] (d ∷ ds) [] i line known at = absurd known
line_at keep history [] (d ∷ ds) (l ∷ lines) i line known at = absurd known
line_at keep history (o ∷ owned) [] [] i line known at = absurd known
line_at keep history (o ∷ owned) [] (l ∷ lines) i line known at = absurd known
line_at keep history (o ∷ owned) (d ∷ ds) [] i line known at = absurd known
line_at keep history (o ∷ owned) (d ∷ ds) (l ∷ lines) zero line known at =
    record { o = o; d = d; owner = refl; device = refl; is = subst (IsDeviceLine keep (history o.account) o d) (same_Some l line at) known.0 }
line_at keep history (o ∷ owned) (d ∷ ds) (l ∷ lines) (suc i) line known at =
    let rest = line_at keep history owned ds lines i line known.1 at in
    record { o = rest.o; d = rest.d; owner = rest.owner; device = rest.device; is = rest.is }

-- the line of a device is found by its name
pub record LineOf (keep : ℕ) (history : List ℕ → List EntryView) (ds : List sessions.Device) (lines : List DeviceView) (i : ℕ) (o : Owned) : Type 0 where
  pub d : sessions.Device
  pub line : DeviceView
  pub device : slice_get ds i ≡ Some d
  pub named : device_named o.device lines ≡ Some line
  pub is : IsDeviceLine keep (history o.account) o d line

pub line_of : (keep : ℕ) (history : List ℕ → List EntryView) (owned : List Owned) (ds : List sessions.Device) (lines : List DeviceView) (i : ℕ) (o : Owned) →
    Differ (names_of owned) → AreDeviceLines keep history owned ds lines → slice_get owned i ≡ Some o → LineOf keep history ds lines i o
line_of keep history [] ds lines i o differ known at = absurd (none-some o at)
line_of keep history (p ∷ owned) [] [] i o differ known at = absurd known
line_of keep history (p ∷ owned) [] (l ∷ lines) i o differ known at = absurd known
line_of keep history (p ∷ owned) (d ∷ ds) [] i o differ known at = absurd known
line_of keep history (p ∷ owned) (d ∷ ds) (l ∷ lines) zero o differ known at =
    let same : p ≡ o = same_Some p o at in
    let is : IsDeviceLine keep (history o.account) o d l = subst (λ (q : Owned). IsDeviceLine keep (history q.account) q d l) same known.0 in
    let hit : bytes_eq o.device l.name ≡ true = ap (bytes_eq o.device) is.name ∙ bytes_eq-self o.device in
    record { d = d; line = l; device = refl; named = rw hit refl; is = is }
line_of keep history (p ∷ owned) (d ∷ ds) (l ∷ lines) (suc i) o differ known at =
    let rest = line_of keep history owned ds lines i o differ.1 known.1 at in
    let position : name_at owned i ≡ o.device = name_is owned i o at in
    let miss : bytes_eq o.device l.name ≡ false = ap (bytes_eq o.device) known.0.name ∙ name_other (p ∷ owned) (suc i) 0 o differ at (omega arith) (λ e. omega arith) in
    record { d = rest.d; line = rest.line; device = rest.device; named = rw miss rest.named; is = rest.is }
