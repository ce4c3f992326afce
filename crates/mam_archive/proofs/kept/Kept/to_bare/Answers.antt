use Rattle.mam_archive.proofs.BareEnds.{bare_boundary}
use Rattle.mam_archive.proofs.kept.Kept.to_bare.Goals as goal

pub range-requires-clause-end_boundary : goal.range-requires-clause-end_boundary
range-requires-clause-end_boundary c = rw (c.as_str-text.ensures, c.self.invariant.1) (bare_boundary c.self.inside.message.to)
