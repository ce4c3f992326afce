use Rattle.srv_handlers.proofs.Resumed.{copies_resumed, lives_resumed}
use Rattle.srv_handlers.proofs.resuming.waiting.Goals as goal

pub resent-requires : goal.resent-requires
resent-requires c = record { lives = lives_resumed c.args.h c.args.context.now.live.next c.args.account c.args.previd.now c.args.resumed c.args.context.now.live.sessions c.keeps_rule.ensures c.requires }

pub returns-clause-all : goal.returns-clause-all
returns-clause-all c = (copies_resumed c.resent.result c.args.h c.args.context.now.live.next c.args.account c.args.previd.now c.args.resumed c.args.context.now.live.sessions c.keeps_rule.ensures c.requires c.resent.ensures).all

pub returns-clause-few : goal.returns-clause-few
returns-clause-few c = (copies_resumed c.resent.result c.args.h c.args.context.now.live.next c.args.account c.args.previd.now c.args.resumed c.args.context.now.live.sessions c.keeps_rule.ensures c.requires c.resent.ensures).few
