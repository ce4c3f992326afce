-- What one step more adds to what steps declare and say.
use Rattle.std.proofs.Common.{◌≡◌, ℕ, zero, suc, zero-add, ◌+◌, ◌≤◌, Bool, true, false, cond, ◌||◌, List, [], ◌∷◌, ◌++◌, Some, IsTrue, length, take, refl, sym, ap, ◌∙◌, subst, arith}
use Rattle.std.proofs.lemmas.List.{append-nil, append_assoc, length-append, length-map}
use Rattle.std.proofs.lemmas.List.Concat.{flat_map-append}
use Rattle.std.proofs.lemmas.List.Folds.{list_any-append}
use Rattle.std.proofs.lemmas.List.Sums.{count_by-le-length, sum_by-append}
use Rattle.std.proofs.lemmas.Option.{none-some, same_Some}
use Rattle.std.specs.List.{slice_get}
use Rattle.std.specs.Str.{bytes_eq}
use Rattle.cmd_schedule.specs.Contents.{account_name, accounts_of, along, device_name, devices_of, home_of, is_said_by, sent_by}
use Rattle.cmd_schedule.specs.Grammar.{Declared, AreLines, declared_by, may_stand, nothing_declared}
use Rattle.base_io.specs.Names.{is_among}
use Rattle.cmd_schedule.specs.Schedules.{steps_of}
use Rattle.cmd_schedule.specs.Standing.{AreRight}
use Rattle.cmd_schedule.specs.declared.schedule.Line.{Line}
use Rattle.cmd_schedule.specs.declared.schedule.Step.{Step}
use Rattle.cmd_schedule.specs.declared.schedule.Step.TheVariants.{Account, Device, Say, Private, Catchup, Tick}

pub along_push : {A : Type 0} (f : List Step → Step → List A) (before steps : List Step) (step : Step) →
    along f before (steps ++ step ∷ []) ≡ along f before steps ++ f (before ++ steps) step
along_push f before [] step = append-nil (f before step) ∙ ap (λ b. f b step) (sym (append-nil before))
along_push f before (first ∷ steps) step =
    ap (λ t. f before first ++ t) (along_push f (before ++ first ∷ []) steps step)
    ∙ sym (append_assoc (f before first) (along f (before ++ first ∷ []) steps) (f (before ++ first ∷ [] ++ steps) step))
    ∙ ap (λ b. f before first ++ along f (before ++ first ∷ []) steps ++ f b step) (append_assoc before (first ∷ []) steps)

pub along-append : {A : Type 0} (f : List Step → Step → List A) (before xs ys : List Step) →
    along f before (xs ++ ys) ≡ along f before xs ++ along f (before ++ xs) ys
along-append f before [] ys = ap (λ b. along f b ys) (sym (append-nil before))
along-append f before (x ∷ xs) ys =
    ap (λ rest. f before x ++ rest) (along-append f (before ++ x ∷ []) xs ys ∙ ap (λ b. along f (before ++ x ∷ []) xs ++ along f b ys) (append_assoc before (x ∷ []) xs))
    ∙ sym (append_assoc (f before x) (along f (before ++ x ∷ []) xs) (along f (before ++ x ∷ xs) ys))

pub sent_push : (device : List ℕ) (before : List Step) (step : Step) →
    sent_by device (before ++ step ∷ []) ≡ sent_by device before + cond (is_said_by device step) 1 0
sent_push device before step =
    sum_by-append (λ s. cond (is_said_by device s) 1 0) before (step ∷ [])
    ∙ ap (λ n. sent_by device before + n) (zero-add (cond (is_said_by device step) 1 0))

pub sent_few : (device : List ℕ) (steps : List Step) → sent_by device steps ≤ length steps
sent_few device steps = count_by-le-length (is_said_by device) steps

pub devices_push : (before : List Step) (step : Step) → devices_of (before ++ step ∷ []) ≡ devices_of before ++ device_name step
devices_push before step = flat_map-append device_name before (step ∷ []) ∙ ap (λ t. devices_of before ++ t) (append-nil (device_name step))

pub accounts_push : (before : List Step) (step : Step) → accounts_of (before ++ step ∷ []) ≡ accounts_of before ++ account_name step
accounts_push before step = flat_map-append account_name before (step ∷ []) ∙ ap (λ t. accounts_of before ++ t) (append-nil (account_name step))

pub among_push : (name : List ℕ) (before : List Step) (step : Step) →
    is_among name (devices_of (before ++ step ∷ [])) ≡ (is_among name (devices_of before) || is_among name (device_name step))
among_push name before step =
    ap (is_among name) (devices_push before step)
    ∙ list_any-append (λ other. bytes_eq name other) (devices_of before) (device_name step)

or_further : {X : Type 0} (hit later : Bool) (b a x y : X) → a ≡ cond later x y → cond hit b a ≡ cond (hit || later) (cond hit b x) y
or_further true later b a x y e = refl
or_further false later b a x y e = e

-- a device's account is the one of its first line
pub home_push : (before : List Step) (step : Step) (name : List ℕ) →
    home_of (before ++ step ∷ []) name ≡ cond (is_among name (devices_of before)) (home_of before name) (home_of (step ∷ []) name)
home_push [] step name = refl
home_push (Device other account ∷ before) step name =
    or_further (bytes_eq name other) (is_among name (devices_of before)) account (home_of (before ++ step ∷ []) name) (home_of before name) (home_of (step ∷ []) name)
    (home_push before step name)
home_push (Account other ∷ before) step name = home_push before step name
home_push (Say other to text ∷ before) step name = home_push before step name
home_push (Private other to text ∷ before) step name = home_push before step name
home_push (Catchup other most ∷ before) step name = home_push before step name
home_push (Tick ms ∷ before) step name = home_push before step name

pub along_few : {A : Type 0} (f : List Step → Step → List A) → ((b : List Step) (s : Step) → length (f b s) ≤ 1) → (before steps : List Step) → length (along f before steps) ≤ length steps
along_few f one before [] = omega arith
along_few f one before (step ∷ steps) =
    omega (arith, length-append (f before step) (along f (before ++ step ∷ []) steps), one before step, along_few f one (before ++ step ∷ []) steps)

-- what stands above the steps, with what they declare
abbrev further : Declared → List Step → Declared
further above steps = record { accounts = above.accounts ++ accounts_of steps; devices = above.devices ++ devices_of steps }

further_on : (above : Declared) (step : Step) (steps : List Step) → further (declared_by step above) steps ≡ further above (step ∷ steps)
further_on above (Account name) steps = ap (λ a. record { accounts = a; devices = above.devices ++ devices_of steps }) (append_assoc above.accounts (name ∷ []) (accounts_of steps))
further_on above (Device name account) steps = ap (λ d. record { accounts = above.accounts ++ accounts_of steps; devices = d }) (append_assoc above.devices (name ∷ []) (devices_of steps))
further_on above (Say device to text) steps = refl
further_on above (Private device to text) steps = refl
further_on above (Catchup device most) steps = refl
further_on above (Tick ms) steps = refl

further_none : (above : Declared) → above ≡ further above []
further_none above =
    ap (λ a. record { accounts = a; devices = above.devices }) (sym (append-nil above.accounts))
    ∙ ap (λ d. record { accounts = above.accounts ++ []; devices = d }) (sym (append-nil above.devices))

lines_right : (above : Declared) (n : ℕ) (lines : List Line) → AreLines above n lines →
    (i : ℕ) (step : Step) → slice_get (steps_of lines) i ≡ Some step → IsTrue (may_stand (further above (take i (steps_of lines))) step)
lines_right above n [] are i step is = absurd (none-some step is)
lines_right above n (line ∷ lines) are zero step is =
    let same : line.step ≡ step = same_Some line.step step is in
    subst (λ (s : Step). IsTrue (may_stand (further above []) s)) same
    (subst (λ (d : Declared). IsTrue (may_stand d line.step)) (further_none above) are.2)
lines_right above n (line ∷ lines) are (suc i) step is =
    subst (λ (d : Declared). IsTrue (may_stand d step)) (further_on above line.step (take i (steps_of lines)))
    (lines_right (declared_by line.step above) (n + 1) lines are.3 i step is)

lines_few : (above : Declared) (n : ℕ) (lines : List Line) → AreLines above n lines → n ≤ 100001 → n + length lines ≤ 100001
lines_few above n [] are low = omega arith
lines_few above n (line ∷ lines) are low =
    let here : n ≤ 100000 = are.1 in
    let rest : n + 1 + length lines ≤ 100001 = lines_few (declared_by line.step above) (n + 1) lines are.3 (omega arith) in
    omega arith

pub right_steps : (lines : List Line) → AreLines nothing_declared 2 lines → AreRight (steps_of lines)
right_steps lines are = record {
  few = omega (arith, lines_few nothing_declared 2 lines are (omega arith), length-map lines (λ (l : Line). l.step));
  each = lines_right nothing_declared 2 lines are;
}
