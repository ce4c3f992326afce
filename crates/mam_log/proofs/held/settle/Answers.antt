use Rattle.std.proofs.Common.{◌≡◌, ◌-◌, length, drop, filter, arith, ap, sym, ◌∙◌}
use Rattle.std.proofs.lemmas.List.{length-drop}
use Rattle.std.specs.BTreeSet.{contains_text}
use Rattle.mam_log.proofs.Unheld.{filter_whole}
use Rattle.mam_log.specs.declared.log_entry.LogEntry.{LogEntry}
use Rattle.mam_log.proofs.held.settle.Goals as goal

pub returns-then-first-len-clause-left : goal.returns-then-first-len-clause-left
returns-then-first-len-clause-left c =
    let items = c.args.items.now.items in
    let first = c.first_known-first.result in
    let left : filter (λ (e : LogEntry). contains_text c.args.ids.now e.id) (drop first items) ≡ filter (λ (e : LogEntry). contains_text c.args.ids.now e.id) (drop c.args.start items) =
    rw c.as_slice.ensures.value at c.first_known-first.ensures.left in
    let size : length (drop first items) ≡ length items - first = length-drop first items in
    sym (filter_whole (λ (e : LogEntry). contains_text c.args.ids.now e.id) (drop first items) (omega (arith, ap length left, c.requires.count, size, c.if-len-first.true, c.len.ensures, c.len-2.ensures.len))) ∙ left
