use Rattle.std.proofs.Common.{ap, sym, ◌∙◌}
use Rattle.std.specs.List.{list_any}
use Rattle.std.specs.List.Sorted.{IsNonDecreasingBy}
use Rattle.std.proofs.Common.{subst}
use Rattle.std.proofs.lemmas.List.Sorted.{IsNonDecreasingBy-insert}
use Rattle.sm_resumption.proofs.IndexFacts.{waits_more}
use Rattle.sm_resumption.specs.Indexed.{is_wait}
use Rattle.sm_resumption.specs.declared.index.Wait.{Wait}
use Rattle.sm_resumption.proofs.index.Index.wait.Goals as goal

pub returns-in-Ok-clause-waits : goal.returns-in-Ok-clause-waits
returns-in-Ok-clause-waits c = λ s q has.
    ap (list_any (is_wait s q)) c.in-Ok.ensures.items
    ∙ waits_more s q c.before-position.result (record { since = c.args.since; number = c.args.number }) c.args.self.now.waits.items has

pub returns-in-Ok-clause-ordered : goal.returns-in-Ok-clause-ordered
returns-in-Ok-clause-ordered c =
    subst (IsNonDecreasingBy (λ (w : Wait). w.since)) (sym c.in-Ok.ensures.items)
    (IsNonDecreasingBy-insert (λ (w : Wait). w.since) c.args.self.now.waits.items c.before-position.result (record { since = c.args.since; number = c.args.number }) c.requires c.before-position.ensures.bound
    (λ k d below. c.before-position.ensures.low k d below) (λ k d after within. c.before-position.ensures.high k d after within))
