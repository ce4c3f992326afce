use Rattle.std.proofs.Common.{◌≤◌, List, [], Option, Ok, IfSome, length, arith, ap, subst, sym, ◌∙◌}
use Rattle.mam_log.proofs.Rendered.{begun_after, due, position_after, rendered}
use Rattle.mam_log.specs.Views.{LogView, OpenPage}
use Rattle.mam_log.specs.declared.log_entry.LogEntry.{LogEntry}
use Rattle.mam_pages.specs.declared.span.TheConstants.{MOST_RESULTS}
use Rattle.mam_log.proofs.device_log.Log.fin_then_begin.Goals as goal

-- the next page was asked for behind the last entry
pub invariant_of-self : goal.invariant_of-self
invariant_of-self c =
    let bound = subst (λ (o : Option OpenPage). IfSome o (λ p. (length p.results ≤ p.max) × (p.max ≤ MOST_RESULTS))) c.in-Some.is c.self.invariant.bound in
    record {
      ordered = c.self-2.invariant.ordered;
      tiling = c.self-2.invariant.tiling;
      broken = c.self-2.invariant.broken;
      following = position_after c.args.self.now c.fin.new.self c.args.queryid.now c.args.fin.now c.in_ok-after.after c.self-2.inside.entries.items (due c.fin.result _ _ (c.in-Ok-More.is ∙ ap Ok c.in-Ok-More.field-0-is) c.fin.ensures.exact) c.in-Ok-More.ensures.ok (ap (λ (l : LogView). l.entries) c.self-2.view_is) (c.in_ok-after.ensures ∙ c.borrowed.ensures);
      bound = (omega (arith, ap (λ (es : List LogEntry). length es) c.new.ensures), subst (λ m. m ≤ MOST_RESULTS) (sym (ap (λ (p : OpenPage). p.max) c.page.view_is)) bound.1);
      unlogged = c.self-2.invariant.unlogged;
    }

pub returns-in-Ok-More-clause-more : goal.returns-in-Ok-More-clause-more
returns-in-Ok-More-clause-more c = λ _.
    let after = c.in_ok-after.after in
    ap (λ (l : LogView). rendered l c.args.next c.page.inside.max after c.new.result.items) c.self-2.view_is
    ∙ (ap (λ (es : List LogEntry). rendered c.fin.new.self c.args.next c.page.inside.max after es) c.new.ensures
    ∙ (ap (λ (p : OpenPage). rendered c.fin.new.self c.args.next p.max after []) c.page.view_is
    ∙ begun_after c.args.self.now c.fin.new.self c.in-Some.page c.args.queryid.now c.args.next c.args.fin.now after (due c.fin.result _ _ (c.in-Ok-More.is ∙ ap Ok c.in-Ok-More.field-0-is) c.fin.ensures.exact) c.in-Ok-More.ensures.ok (c.in_ok-after.ensures ∙ c.borrowed.ensures) (sym (ap (λ (l : LogView). l.page) c.self.view_is) ∙ c.in-Some.is)))
