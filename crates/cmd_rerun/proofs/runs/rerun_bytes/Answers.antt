use Rattle.std.proofs.Common.{ℕ, List, subst, sym, inl, inr}
use Rattle.cmd_journal.specs.Journals.{Says}
use Rattle.cmd_rerun.proofs.runs.rerun_bytes.Goals as goal

pub returns-clause-bad : goal.returns-clause-bad
returns-clause-bad c =
    elim c.in-Err.ensures.bad [
      | inl none ↦ inl none
      | inr unsaid ↦ inr (λ says. unsaid says.0 (subst (λ (bytes : List ℕ). Says bytes says.0) (sym c.as_slice.ensures) says.1))
    ]
