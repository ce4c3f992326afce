use Rattle.sim_3_images.proofs.SubmittedArchives.{all_submissions, kept_submissions}
use Rattle.sim_3_images.proofs.archived_takes.archives_are_those_of_submissions.Goals as goal

pub returns : goal.returns
returns g = record { kept = kept_submissions; all = all_submissions }
