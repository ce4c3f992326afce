use Rattle.std.proofs.Common.{ap, refl, rules, subst, sym, ◌∙◌}
use Rattle.std.specs.Prelude.{nat_eq}
use Rattle.std.specs.HashMap as hash
use Rattle.std.specs.List.{list_any}
use Rattle.std.specs.List.Sorted.{IsNonDecreasingBy}
use Rattle.std.proofs.lemmas.Fn.{filter_same}
use Rattle.sm_resumption.proofs.IndexFacts.{ordered_filter, parked_stays}
use Rattle.sm_resumption.specs.Indexed.{is_parked_at, is_wait}
use Rattle.sm_resumption.specs.Stored.{passes}
use Rattle.sm_resumption.specs.declared.index.Wait.{Wait}
use Rattle.sm_resumption.proofs.index.Index.sweep.Goals as goal

pub returns-then-len-capacity-clause-waits : goal.returns-then-len-capacity-clause-waits
returns-then-len-capacity-clause-waits c = λ n r is off has.
    let kept = filter_same _ (λ (w : Wait). passes (is_parked_at w.since) (hash.get nat_eq c.args.rows.now w.number)) _ (λ x b f k. search rules) _ _ c.retain.ensures.filtered in
    ap (list_any (is_wait r.shown.parked_at n)) kept ∙ parked_stays r.shown.parked_at n r (hash.get nat_eq c.args.rows.now) c.args.self.now.waits.items is off refl has

pub returns-then-len-capacity-clause-ordered : goal.returns-then-len-capacity-clause-ordered
returns-then-len-capacity-clause-ordered c =
    let kept = filter_same _ (λ (w : Wait). passes (is_parked_at w.since) (hash.get nat_eq c.args.rows.now w.number)) _ (λ x b f k. search rules) _ _ c.retain.ensures.filtered in
    subst (IsNonDecreasingBy (λ (w : Wait). w.since)) (sym kept) (ordered_filter (λ (w : Wait). passes (is_parked_at w.since) (hash.get nat_eq c.args.rows.now w.number)) c.args.self.now.waits.items c.requires)
