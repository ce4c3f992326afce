-- What follows from a reader's answer.
use Rattle.std.proofs.Common.{◌≡◌, ℕ, List, Result, Ok, Err, sym, ap, ◌∙◌, inl, inr}
use Rattle.std.specs.Prelude.{◌⊎◌, IfOk, IfErr}
use Rattle.cmd_journal.proofs.Again.{accounts_again, rerun_again}
use Rattle.cmd_journal.proofs.Found.{accounts_found, rerun_found}
use Rattle.cmd_journal.specs.AccountsFiles.{AccountsView, IsAccountsFile, accounts_text}
use Rattle.cmd_journal.specs.Journals.{InputView, Says}
use Rattle.cmd_journal.specs.Reading.{accounts_reading, rerun_reading}
use Rattle.cmd_journal.specs.declared.fault.InputFault.{InputFault}
use Rattle.cmd_journal.specs.declared.fault.InputFault.TheVariants as faults

abbrev answer : {A : Type 0} → A → Result A InputFault
answer x = Ok x

module _ {A : Type 0} where
  abbrev refusal : InputFault → Result A InputFault
  refusal e = Err e

  same_fault : (e d : InputFault) → refusal e ≡ refusal d → e ≡ d
  same_fault e d h = cc

  not_both : (e : InputFault) (x : A) → refusal e ≡ answer x → ⊥
  not_both e x h = cc

  -- what was read is right, where all that reading gives is
  pub right_of : {P : A → Type 0} (r read : Result A InputFault) → ((x : A) → read ≡ Ok x → P x) → (r ≡ refusal faults.NoMemory) ⊎ (r ≡ read) → IfOk r P
  right_of (Ok x) read each (inl e) = absurd cc
  right_of (Ok x) read each (inr e) = each x (sym e)
  right_of (Err e) read each given = tt

  -- what is refused is nothing's text, where each text is read
  pub bad_of : {P : A → Type 0} (r read : Result A InputFault) → ((x : A) → P x → read ≡ Ok x) → (r ≡ refusal faults.NoMemory) ⊎ (r ≡ read) → IfErr r (λ e. (e ≡ faults.NoMemory) ⊎ ((x : A) → ¬ (P x)))
  bad_of (Ok x) read each given = tt
  bad_of (Err e) read each (inl h) = inl (same_fault e faults.NoMemory h)
  bad_of (Err e) read each (inr h) = inr (λ x is. not_both e x (h ∙ each x is))

pub accounts_right : (bytes : List ℕ) (r : Result AccountsView InputFault) → (r ≡ Err faults.NoMemory) ⊎ (r ≡ accounts_reading bytes) → IfOk r (λ file. IsAccountsFile file × (bytes ≡ accounts_text file))
accounts_right bytes r given = right_of r (accounts_reading bytes) (λ file e. accounts_found bytes file e) given

pub accounts_bad : (bytes : List ℕ) (r : Result AccountsView InputFault) → (r ≡ Err faults.NoMemory) ⊎ (r ≡ accounts_reading bytes)
    → IfErr r (λ e. (e ≡ faults.NoMemory) ⊎ ((file : AccountsView) → ¬ (IsAccountsFile file × (bytes ≡ accounts_text file))))
accounts_bad bytes r given = bad_of r (accounts_reading bytes) (λ file is. ap accounts_reading is.1 ∙ accounts_again file is.0) given

pub rerun_right : (bytes : List ℕ) (r : Result InputView InputFault) → (r ≡ Err faults.NoMemory) ⊎ (r ≡ rerun_reading bytes) → IfOk r (Says bytes)
rerun_right bytes r given = right_of r (rerun_reading bytes) (λ input e. rerun_found bytes input e) given

pub rerun_bad : (bytes : List ℕ) (r : Result InputView InputFault) → (r ≡ Err faults.NoMemory) ⊎ (r ≡ rerun_reading bytes) → IfErr r (λ e. (e ≡ faults.NoMemory) ⊎ ((input : InputView) → ¬ (Says bytes input)))
rerun_bad bytes r given = bad_of r (rerun_reading bytes) (λ input is. rerun_again bytes input is) given
