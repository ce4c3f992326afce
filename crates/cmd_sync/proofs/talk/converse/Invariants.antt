-- So much was said so far, and where something is awaited still there is room for a piece.
use Rattle.std.proofs.Common.{◌≡◌, ◌-◌, ◌≤◌, true}
use Rattle.cmd_sync.specs.Courses.{is_awaiting}
use Rattle.cmd_sync.specs.Talks.{IsSpoken}
use Rattle.cmd_sync.specs.Views.{course_of, course_step_of}
use Rattle.cmd_sync.proofs.talk.converse.Given as goal

abbrev pub invariant-loop-alloc : goal.invariant-loop-alloc
invariant-loop-alloc g l = record {
  spoken : IsSpoken (course_step_of l.fn.course l.first) (g.L.Link.told l.fn.link) (g.L.Link.told l.link) (course_of l.course);
  few : is_awaiting l.course.stage ≡ true → l.course.total ≤ 67108864;
}

-- each piece has a byte
abbrev pub decreases-loop-alloc : goal.decreases-loop-alloc
decreases-loop-alloc g l = 67108865 - l.course.total
