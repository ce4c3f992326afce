use Rattle.std.proofs.Common.{IfErr, subst}
use Rattle.im_mam.specs.ArchiveAnswers.{fin_checks, is_fin}
use Rattle.im_payload.specs.Checks.{IsFirstWrong}
use Rattle.im_payload.specs.Faults.{IsFault}
use Rattle.im_mam.proofs.archive_answers.read_fin.Goals as goal

pub returns-clause-err : goal.returns-clause-err
returns-clause-err c = subst (λ e. IfErr c.read_fin_element.result (IsFault (is_fin e) (IsFirstWrong (fin_checks e)))) c.element.ensures c.read_fin_element.ensures.err
