use Rattle.std.proofs.Common.{◌*◌, ◌-◌, le-leb, leb-true, refl}
use Rattle.sm_resumption.specs.declared.answers.TheConstants.{RESUMABLE_SECONDS}
use Rattle.law_server.proofs.server_tables.a_resumption_time_that_is_told_is_kept.Goals as goal

pub returns-clause-told : goal.returns-clause-told
returns-clause-told g c number = refl

pub returns-clause-kept : goal.returns-clause-kept
returns-clause-kept g c now s off = rw off (λ late. leb-true (1000 * RESUMABLE_SECONDS) (now - s.shown.parked_at) late, λ late. le-leb (1000 * RESUMABLE_SECONDS) (now - s.shown.parked_at) late)
