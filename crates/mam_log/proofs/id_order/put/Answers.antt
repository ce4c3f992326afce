use Rattle.std.proofs.Common.{length, sym}
use Rattle.std.proofs.lemmas.List.{length-map}
use Rattle.mam_log.proofs.Orders.{order-push}
use Rattle.mam_log.specs.LogPages.{ids_of}
use Rattle.mam_log.specs.declared.log_entry.LogEntry.{LogEntry}
use Rattle.mam_log.proofs.id_order.put.Goals as goal

pub returns-clause-order : goal.returns-clause-order
returns-clause-order c =
    let gap = rw c.deref.ensures.value at c.in-Some.ensures.gap in
    rw c.in-Ok.ensures.items
    (order-push c.args.positions.now.items (ids_of c.args.entries.now) c.args.id.now c.in-Some.at (length c.args.entries.now)
    (sym (length-map c.args.entries.now (λ (e : LogEntry). e.id))) c.requires.order gap)
