use Rattle.law_limits.proofs.MomentsKept.{fresh_kept, gone_kept, moment_kept}
use Rattle.law_limits.proofs.server_fits.moments_keep_what_is_read.Goals as goal

pub returns : goal.returns
returns c = record { moment = moment_kept; fresh = fresh_kept; gone = gone_kept }
