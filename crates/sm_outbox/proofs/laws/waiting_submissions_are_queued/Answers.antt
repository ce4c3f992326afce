use Rattle.sm_outbox.proofs.QueuedSubmissions.{acked_queued, as_many, left_queue, other_queued, said_queued}
use Rattle.sm_outbox.proofs.laws.waiting_submissions_are_queued.Goals as goal

pub returns-clause-says : goal.returns-clause-says
returns-clause-says g c stanza said w s are = said_queued stanza said w s are

pub returns-clause-puts : goal.returns-clause-puts
returns-clause-puts g c stanza z w s are = other_queued stanza z w s are

pub returns-clause-acknowledges : goal.returns-clause-acknowledges
returns-clause-acknowledges g c stanza h w s are = acked_queued stanza h w s are

pub returns-clause-left : goal.returns-clause-left
returns-clause-left g c stanza h w s are = left_queue stanza h w s are

pub returns-clause-number : goal.returns-clause-number
returns-clause-number g c stanza w s are = as_many stanza w s are
