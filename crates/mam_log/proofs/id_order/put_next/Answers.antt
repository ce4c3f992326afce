use Rattle.std.proofs.Common.{◌≡◌, ◌∷◌, [], ◌++◌, length, sym, subst, ◌∙◌}
use Rattle.std.proofs.lemmas.List.{length-map}
use Rattle.std.proofs.lemmas.List.Edits.{insert_end}
use Rattle.std.specs.List.{insert}
use Rattle.mam_log.proofs.Orders.{order-push}
use Rattle.mam_log.proofs.Rising.{gap_above}
use Rattle.mam_log.specs.LogPages.{ids_of}
use Rattle.mam_log.specs.Orders.{IsOrderOf}
use Rattle.mam_log.specs.declared.log_entry.LogEntry.{LogEntry}
use Rattle.mam_log.proofs.id_order.put_next.Goals as goal

pub returns-then-above-clause-order : goal.returns-then-above-clause-order
returns-then-above-clause-order c =
    let positions = c.args.positions.now.items in
    let ids = ids_of c.args.entries.now in
    let id = c.args.id.now in
    let count = length c.args.entries.now in
    let end : insert positions (length positions) count ≡ c.push_reserved.new.self.items = insert_end positions count ∙ sym c.push_reserved.ensures.items in
    subst (λ now. IsOrderOf now (ids ++ id ∷ [])) end
    (order-push positions ids id (length positions) count (sym (length-map c.args.entries.now (λ (e : LogEntry). e.id))) c.requires.order
    (gap_above positions ids id c.requires.order (c.requires.above c.if-above.true)))
