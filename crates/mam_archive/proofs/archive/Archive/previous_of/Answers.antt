use Rattle.std.proofs.Common.{◌≡◌, ◌+◌, ◌-◌, None, length, arith, sym, ap, refl}
use Rattle.mam_archive.proofs.ChainPositions.{position_has}
use Rattle.mam_archive.proofs.ChainSteps.{links_of_entries}
use Rattle.mam_archive.proofs.NumberedEntries.{follow_numbered, none_outside}
use Rattle.mam_archive.specs.Entries.{ArchiveView, entry_numbered}
use Rattle.mam_archive.specs.Peers.{peer_of}
use Rattle.mam_archive.proofs.archive.Archive.previous_of.Goals as goal

pub returns-in_err-position : goal.returns-in_err-position
returns-in_err-position c =
    let kept = c.position.ensures.kept in
    let none : entry_numbered c.args.number c.args.self.now.entries ≡ None = none_outside c.args.number c.args.self.now.last c.args.self.now.entries kept c.in_err-position.ensures.none in
    rw (c.from_residual.ensures, none) refl

pub previous_at-requires : goal.previous_at-requires
previous_at-requires c =
    let entries = c.self.inside.entries.items in
    let size = links_of_entries (c.self.inside.last + 1 - length entries) (peer_of c.self.inside.owner) entries c.self.inside.links.links.items c.self.inside.links.chains.items c.self.invariant.1 in
    let view : length c.args.self.now.entries ≡ length entries = ap (λ (v : ArchiveView). length v.entries) (sym c.self.view_is) in
    omega (arith, c.in_ok-position.ensures.some.0)

pub returns : goal.returns
returns c =
    let entries = c.self.inside.entries.items in
    let first = c.self.inside.last + 1 - length entries in
    let kept = c.self.invariant.0 in
    let inside = rw (← c.self.view_is) at c.in_ok-position.ensures.some in
    let follow = follow_numbered c.self.inside.last entries kept.numbers kept.within in
    let position = position_has c.self.inside.owner first c.args.number c.in_ok-position.field-0 entries c.self.inside.links.links.items c.self.inside.links.chains.items c.self.invariant.1
    follow (omega (arith, kept.within)) (omega (arith, inside.1, kept.within)) inside.0 in
    let start : c.first.result ≡ first = rw (← c.self.view_is) at c.first.ensures.first in
    rw (c.previous_at.ensures, start, ← c.self.view_is) (sym position.1)
