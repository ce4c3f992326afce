use Rattle.std.proofs.Common.{List, ℕ, refl, inl, ap, ◌∙◌}
use Rattle.cmd_sync.proofs.Outcomes.{run_err, run_ok}
use Rattle.cmd_sync.specs.Courses.{CourseStep}
use Rattle.cmd_sync.specs.Views.{course_step_of}
use Rattle.cmd_sync.proofs.running.run.Goals as goal

pub begin-requires : goal.begin-requires
begin-requires g c = c.requires

pub returns-in-Err-clause-err : goal.returns-in-Err-clause-err
returns-in-Err-clause-err g c = inl refl

pub through-answer-requires : goal.through-answer-requires
through-answer-requires g c = ap (λ (t : CourseStep). t.course.total) c.in-Ok.ensures

pub returns-clause-ok : goal.returns-clause-ok
returns-clause-ok g c = run_ok c.through-answer.result (λ text. text.items) _ _ _ _ (ap (λ (put : List ℕ). course_step_of c.in-Ok.begun.0 put) c.as_slice.ensures ∙ c.in-Ok.ensures) c.through-answer.ensures.ok

pub returns-clause-err : goal.returns-clause-err
returns-clause-err g c = run_err c.through-answer.result _ _ _ _ (ap (λ (put : List ℕ). course_step_of c.in-Ok.begun.0 put) c.as_slice.ensures ∙ c.in-Ok.ensures) c.through-answer.ensures.err
