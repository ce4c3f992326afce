use Rattle.srv_state.specs.Seen.{step_of}
use Rattle.srv_core.proofs.Counted.{lives_on}
use Rattle.srv_core.proofs.stanzas.on_announcement.Goals as goal

pub announce-requires : goal.announce-requires
announce-requires c = lives_on c.args.told.now (step_of c.args.context.now) (step_of c.count.new.self) c.requires c.count.ensures.step
