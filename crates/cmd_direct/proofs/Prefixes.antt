-- What one step more adds to each part of the definitions.
use Rattle.std.proofs.Common.{◌≡◌, ℕ, ◌≤◌, List, [], ◌∷◌, ◌++◌, length, sym, ap, ◌∙◌, arith}
use Rattle.std.proofs.lemmas.Bool.{cond_both}
use Rattle.std.proofs.lemmas.List.{append-nil, append_assoc}
use Rattle.mam_log.specs.LogPages.{LogPage}
use Rattle.cmd_report.specs.Takes.{Take}
use Rattle.cmd_schedule.specs.Contents.{accounts_of}
use Rattle.cmd_direct.specs.Direct.{pages_after, pages_from, pages_of, take_at, taken, takes_of}
use Rattle.base_io.specs.Names.{is_among}
use Rattle.cmd_schedule.specs.declared.schedule.Step.{Step}
use Rattle.cmd_schedule.specs.declared.schedule.Step.TheVariants.{Account, Device, Say, Private, Catchup, Tick}
use Rattle.cmd_schedule.proofs.Prefixes.{along_push, along_few}

pub takes_push : (all before : List Step) (step : Step) → takes_of all (before ++ step ∷ []) ≡ takes_of all before ++ take_at all before step
takes_push all before step = along_push (take_at all) [] before step

pub pages_from_push : (keep : ℕ) (all : List Step) (device : List ℕ) (before steps : List Step) (pages : List LogPage) (step : Step) →
    pages_from keep all device before pages (steps ++ step ∷ []) ≡ pages_after keep all device (before ++ steps) (pages_from keep all device before pages steps) step
pages_from_push keep all device before [] pages step = ap (λ b. pages_after keep all device b pages step) (sym (append-nil before))
pages_from_push keep all device before (first ∷ steps) pages step =
    pages_from_push keep all device (before ++ first ∷ []) steps (pages_after keep all device before pages first) step
    ∙ ap (λ b. pages_after keep all device b (pages_from keep all device (before ++ first ∷ []) (pages_after keep all device before pages first) steps) step)
    (append_assoc before (first ∷ []) steps)

pub pages_push : (keep : ℕ) (all before : List Step) (device : List ℕ) (step : Step) →
    pages_of keep all device (before ++ step ∷ []) ≡ pages_after keep all device before (pages_of keep all device before) step
pages_push keep all before device step = pages_from_push keep all device [] before [] step

taken_few : (all before : List Step) (device to text : List ℕ) → length (taken all before device to text) ≤ 1
taken_few all before device to text = cond_both (is_among to (accounts_of all)) _ _ (λ (ts : List Take). length ts ≤ 1) (λ e. omega arith) (λ e. omega arith)

pub take_at_few : (all before : List Step) (step : Step) → length (take_at all before step) ≤ 1
take_at_few all before (Account name) = omega arith
take_at_few all before (Device name account) = omega arith
take_at_few all before (Catchup name most) = omega arith
take_at_few all before (Tick ms) = omega arith
take_at_few all before (Say name to text) = taken_few all before name to text
take_at_few all before (Private name to text) = taken_few all before name to text

pub takes_few : (all before : List Step) → length (takes_of all before) ≤ length before
takes_few all before = along_few (take_at all) (take_at_few all) [] before
