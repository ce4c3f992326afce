use Rattle.std.proofs.Common.{◌≡◌, ◌+◌, ◌-◌, length, arith, sym}
use Rattle.mam_archive.proofs.Items.{copied_item, item_at}
use Rattle.mam_archive.proofs.NumberedEntries.{entry_at, follow_numbered, none_outside}
use Rattle.mam_archive.proofs.archive.Archive.get.Goals as goal

pub returns-in_err-position-clause-entry : goal.returns-in_err-position-clause-entry
returns-in_err-position-clause-entry c =
    rw c.from_residual.ensures (sym (none_outside c.args.number c.args.self.now.last c.args.self.now.entries c.position.ensures.kept c.in_err-position.ensures.none))

pub returns-clause-entry : goal.returns-clause-entry
returns-clause-entry c =
    let entries = c.self.inside.entries.items in
    let first = c.self.inside.last + 1 - length entries in
    let kept = c.self.invariant.0 in
    let inside = rw (← c.self.view_is) at c.in_ok-position.ensures.some in
    let follow = follow_numbered c.self.inside.last entries kept.numbers kept.within in
    let position : c.args.number - first ≡ c.in_ok-position.field-0 = omega (arith, inside.1, kept.within) in
    rw (← c.self.view_is, entry_at c.args.number first entries follow (omega (arith, inside.1, kept.within)), position)
    (copied_item entries c.in_ok-position.field-0 c.get.result c.get.ensures.item)

pub returns-clause-found : goal.returns-clause-found
returns-clause-found c =
    let entries = c.self.inside.entries.items in
    let inside = rw (← c.self.view_is) at c.in_ok-position.ensures.some in
    let position : c.args.number + length entries - 1 - c.self.inside.last ≡ c.in_ok-position.field-0 = omega (arith, inside.1) in
    rw (← c.self.view_is, position) (item_at entries c.in_ok-position.field-0 c.get.result c.get.ensures.item)
