use Rattle.std.proofs.Common.{take}
use denote.Shadow.{shadow}
use denote.Text.{Utf8}
use Rattle.mam_keep.proofs.Checked.{AreSeen}
use Rattle.mam_keep.proofs.checks.are_whole.Given as goal

-- those so far are whole and in order, and the last one's owner is a text
abbrev pub invariant-loop-archive : goal.invariant-loop-archive
invariant-loop-archive l = AreSeen (take l.archive-index l.archives) l.before × shadow (Utf8 l.before)
