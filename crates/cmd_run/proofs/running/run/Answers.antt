use Rattle.cmd_run.proofs.Dialers.{not_risen}
use Rattle.cmd_run.proofs.Statuses.{answered, exactly, replayed, summed_up}
use Rattle.cmd_run.proofs.running.run.Goals as goal

pub returns-clause-done_replay : goal.returns-clause-done_replay
returns-clause-done_replay g c = λ zero words. replayed _ _ _ _ _ _ _ _ _ c.write_due.ensures.told zero words

pub returns-clause-done_generate : goal.returns-clause-done_generate
returns-clause-done_generate g c = λ number size zero words. summed_up _ _ _ _ _ _ _ _ _ number size c.write_due.ensures.told zero words

pub returns-clause-answered : goal.returns-clause-answered
returns-clause-answered g c = answered _ _ _ _ _ _ _ _ _ c.write_due.ensures.told

pub returns-clause-exactly : goal.returns-clause-exactly
returns-clause-exactly g c = λ outcome input is must still.
    exactly _ _ _ _ _ _ _ _ _ _ input outcome (not_risen _ _) (λ five. not_risen _ _ still (c.write_due.ensures.prefix five).0) is must c.write_due.ensures.told
