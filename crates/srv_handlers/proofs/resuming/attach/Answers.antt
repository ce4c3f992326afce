use Rattle.std.proofs.Common.{false, refl}
use Rattle.sm_live.specs.Sessions.{asks, with_session}
use Rattle.srv_handlers.proofs.Resumed.{attached}
use Rattle.srv_handlers.proofs.resuming.attach.Goals as goal

pub set_asked-requires : goal.set_asked-requires
set_asked-requires c = record {
  lives =
      (attached c.args.h c.args.conn c.args.context.now.live.next c.args.account c.args.previd.now c.args.resumed c.args.context.now.live.sessions c.resume.new.self.sessions (with_session c.args.resumed.number (asks false) c.resume.new.self.sessions)
      c.keeps_rule.ensures c.requires.conn c.requires.answer c.resume.ensures.sessions refl).lives;
}

pub returns-clause-lives : goal.returns-clause-lives
returns-clause-lives c =
    (attached c.args.h c.args.conn c.args.context.now.live.next c.args.account c.args.previd.now c.args.resumed c.args.context.now.live.sessions c.resume.new.self.sessions c.set_asked.new.self.sessions
    c.keeps_rule.ensures c.requires.conn c.requires.answer c.resume.ensures.sessions c.set_asked.ensures.sessions).left_lives

pub returns-clause-stays : goal.returns-clause-stays
returns-clause-stays c =
    (attached c.args.h c.args.conn c.args.context.now.live.next c.args.account c.args.previd.now c.args.resumed c.args.context.now.live.sessions c.resume.new.self.sessions c.set_asked.new.self.sessions
    c.keeps_rule.ensures c.requires.conn c.requires.answer c.resume.ensures.sessions c.set_asked.ensures.sessions).stays
