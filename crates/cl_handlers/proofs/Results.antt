-- What the log answers to a result is what comes of it.
use Rattle.std.proofs.Common.{◌≡◌, ◌≢◌, ℕ, ◌≤◌, Bool, true, false, Option, Some, None, IsSomeAnd, List, length, refl, arith, if◌then◌else◌}
use Rattle.std.proofs.lemmas.Bool.Decides.{nat_tests}
use Rattle.std.specs.Prelude.{nat_le}
use Rattle.cl_handlers.specs.Clients.{ClientStep}
use Rattle.cl_handlers.specs.MessageRows.{refuses, result_to}
use Rattle.cl_handlers.specs.ClientSteps.{with_log}
use Rattle.cl_handlers.specs.declared.events.CatchUpFault.TheVariants.{Overrun}
use Rattle.mam_log.specs.Views.{OpenPage, with_result}
use Rattle.mam_log.specs.declared.log_entry.LogEntry.{LogEntry}

abbrev T : Type 0
T = ClientStep (List ℕ) ℕ

full : (m n : ℕ) → m ≤ n → nat_le m n ≡ true
full m n h = grind (arith, nat_tests)

position : (m n : ℕ) → ¬ (m ≤ n) → nat_le m n ≡ false
position m n h = grind (arith, nat_tests)

pub taken : (t : T) (o : Option OpenPage) (entry : LogEntry) → o ≢ None → ¬ (IsSomeAnd o (λ page. page.max ≤ length page.results))
    → with_log t (with_result t.client.log entry) ≡ result_to t o entry
taken t None entry there few = absurd (there refl)
taken t (Some page) entry there few = rw (position page.max (length page.results) few) refl

pub dropped : (t : T) (o : Option OpenPage) (entry : LogEntry) → o ≡ None → t ≡ result_to t o entry
dropped t o entry none = rw none refl

pub overrun : (t : T) (o : Option OpenPage) (entry : LogEntry) → IsSomeAnd o (λ page. page.max ≤ length page.results) → refuses t Overrun ≡ result_to t o entry
overrun t None entry most = absurd most
overrun t (Some page) entry most = rw (full page.max (length page.results) most) refl
