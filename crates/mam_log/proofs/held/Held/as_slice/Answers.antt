use Rattle.std.proofs.Common.{◌≢◌, ℕ, List, AllPairs, drop, subst}
use Rattle.mam_log.proofs.Unheld.{apart_pairs}
use Rattle.mam_log.specs.LogPages.{ids_of}
use Rattle.mam_log.specs.declared.log_entry.LogEntry.{LogEntry}
use Rattle.mam_log.proofs.held.Held.as_slice.Goals as goal

pub returns-clause-apart : goal.returns-clause-apart
returns-clause-apart c =
    subst (λ (es : List LogEntry). AllPairs (λ (a b : List ℕ). a ≢ b) (ids_of es)) c.self.view_is (apart_pairs (drop c.self.inside.start c.self.inside.items.items) c.self.invariant.1.apart)
