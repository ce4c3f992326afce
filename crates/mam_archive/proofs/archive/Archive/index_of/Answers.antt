use Rattle.std.proofs.Common.{◌≡◌, ◌+◌, ◌-◌, None, length, arith, sym, refl}
use Rattle.mam_archive.proofs.ChainPositions.{index_has}
use Rattle.mam_archive.proofs.NumberedEntries.{follow_numbered, none_outside}
use Rattle.mam_archive.specs.Entries.{entry_numbered}
use Rattle.mam_archive.proofs.archive.Archive.index_of.Goals as goal

pub returns-in_err-at : goal.returns-in_err-at
returns-in_err-at c =
    let kept = c.position.ensures.kept in
    let none : entry_numbered c.args.number c.args.self.now.entries ≡ None = none_outside c.args.number c.args.self.now.last c.args.self.now.entries kept c.in_err-at.ensures.none in
    rw (c.from_residual.ensures, none) refl

pub returns : goal.returns
returns c =
    let entries = c.self.inside.entries.items in
    let first = c.self.inside.last + 1 - length entries in
    let kept = c.self.invariant.0 in
    let inside = rw (← c.self.view_is) at c.in_ok-at.ensures.some in
    let follow = follow_numbered c.self.inside.last entries kept.numbers kept.within in
    let count = rw c.as_str.ensures at c.index_at.ensures in
    rw (← c.self.view_is) (sym (index_has c.self.inside.owner first c.args.number c.in_ok-at.at c.index_at.result entries follow (omega (arith, inside.1, kept.within)) inside.0 count))
