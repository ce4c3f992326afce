-- What clauses see of a course of the code.
use Rattle.std.specs.Prelude.{ℕ, List}
use Rattle.cl_core.specs.Feeds.{Fed}
use Rattle.cl_core.specs.Values.{fed_of}
use Rattle.cl_handlers.specs.declared.events.ClientOut.{ClientOut}
use Rattle.cmd_sync.specs.Courses.{Course as CourseView, CourseStep}
use Rattle.cmd_sync.specs.declared.progress.Course.{Course}

abbrev pub course_of : Course → CourseView
course_of c = record { client = c.client; stage = c.stage; steps = c.steps.items; total = c.total }

-- with what was put
abbrev pub course_step_of : Course → List ℕ → CourseStep
course_step_of c put = record { course = course_of c; put = put }

-- the client, with what it put and told
abbrev pub fed_in : Course → ClientOut → Fed (List ℕ) ℕ
fed_in c out = fed_of c.client out
