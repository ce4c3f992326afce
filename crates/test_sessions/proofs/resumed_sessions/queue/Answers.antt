use Rattle.sm_resumption.proofs.HousedFacts.{housed_made}
use Rattle.test_sessions.proofs.resumed_sessions.queue.Goals as goal

pub returns-clause-free : goal.returns-clause-free
returns-clause-free c =
    (housed_made c.in_ok-make_queue.field-0 c.args.sessions.now.rows c.args.pool.now c.make_queue.new.self c.in_ok-make_queue.ensures.fresh c.in_ok-make_queue.ensures.queue c.in_ok-make_queue.ensures.others c.requires.housed).1
