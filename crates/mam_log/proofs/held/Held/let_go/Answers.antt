use Rattle.std.proofs.Common.{List, length, drop, ap, sym, subst, ◌∙◌}
use Rattle.mam_log.proofs.Unheld.{found_unheld}
use Rattle.mam_log.specs.HeldIds.{IsIndexOf}
use Rattle.mam_log.specs.LogPages.{ids_of}
use Rattle.mam_log.specs.Views.{unheld}
use Rattle.mam_log.specs.declared.log_entry.LogEntry.{LogEntry}
use Rattle.mam_log.proofs.held.Held.let_go.Goals as goal

pub settle-self-inside-requires-clause-count : goal.settle-self-inside-requires-clause-count
settle-self-inside-requires-clause-count c =
    let held = drop c.self.inside.start c.self.inside.items.items in
    let indexed = c.remove_ids.ensures held c.self.invariant.1 in
    indexed.count ∙ sym (ap (λ (es : List LogEntry). length es) (found_unheld c.remove_ids.new.ids (ids_of c.args.results.now) held indexed))

pub invariant_of-self : goal.invariant_of-self
invariant_of-self c =
    let held = drop c.self.inside.start c.self.inside.items.items in
    let indexed = c.remove_ids.ensures held c.self.invariant.1 in
    let left = c.settle-self-inside.ensures.left ∙ found_unheld c.remove_ids.new.ids (ids_of c.args.results.now) held indexed in
    (c.settle-self-inside.ensures.bound, subst (λ (es : List LogEntry). IsIndexOf c.remove_ids.new.ids es) (sym left) indexed)

pub returns : goal.returns
returns c =
    let held = drop c.self.inside.start c.self.inside.items.items in
    let indexed = c.remove_ids.ensures held c.self.invariant.1 in
    c.settle-self-inside.ensures.left ∙ (found_unheld c.remove_ids.new.ids (ids_of c.args.results.now) held indexed ∙ ap (λ (es : List LogEntry). unheld (ids_of c.args.results.now) es) c.self.view_is)
