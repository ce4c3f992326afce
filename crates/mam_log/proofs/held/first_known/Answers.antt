use Rattle.std.proofs.Common.{◌≡◌, false, arith, subst, sym, ◌∙◌}
use Rattle.std.specs.BTreeSet.{contains_text}
use Rattle.mam_log.proofs.Unheld.{filter_pass}
use Rattle.mam_log.proofs.held.first_known.Goals as goal

pub loop-at-preserved : goal.loop-at-preserved
loop-at-preserved c =
    let unknown = subst (λ id. contains_text c.args.ids.now id ≡ false) c.as_str.ensures (sym c.contains.ensures ∙ c.if-not-contains.true) in
    record {
      bound = omega (arith, c.loop-at-test.true);
      left = filter_pass (λ id. contains_text c.args.ids.now id) c.args.items.now c.loop-at.at c.index-items-at.result c.loop-at-test.true unknown ∙ c.loop-at.invariant.left;
    }
