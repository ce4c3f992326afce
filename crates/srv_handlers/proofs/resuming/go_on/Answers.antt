use Rattle.std.proofs.Common.{ap, length, ◌∙◌}
use Rattle.srv_state.specs.Seen.{outs_of, server_state_of, step_of}
use Rattle.sm_live.specs.Sessions.{session_resumed}
use Rattle.srv_handlers.proofs.Sayings.{gone_on}
use Rattle.srv_handlers.specs.Resumptions.{resent_where}
use Rattle.xml_writer.specs.Items.{written_item}
use Rattle.srv_handlers.proofs.resuming.go_on.Goals as goal

pub returns-clause-ok : goal.returns-clause-ok
returns-clause-ok c =
    let begun = c.reserve_session.ensures.step ∙ ap (λ items. record { server_state = server_state_of c.args.context.now; outs = outs_of items }) c.reserve.ensures.items in
    gone_on written_item c.args.conn c.args.account c.args.h (length c.as_slice-count.result.now) c.args.previd.now c.in_ok-conflict.conflict.items c.in_ok-answer.answer.items c.args.resumed c.in_ok-stanzas.stanzas.items
    (resent_where c.args.h (session_resumed c.args.previd.now c.args.account c.args.context.now.live.sessions)) (step_of c.args.context.now) (step_of c.reserve_session.new.self) (step_of c.attach.new.context) (step_of c.part_where.new.self)
    (step_of c.put.new.self) (step_of c.say_all.new.context) (step_of c.ask_where.new.context) c.in_ok-conflict.ensures c.in_ok-answer.ensures c.in_ok-stanzas.ensures.all (ap length c.as_slice-count.ensures) begun
    c.attach.ensures.step c.part_where.ensures.step c.put.ensures.step c.say_all.ensures.step c.ask_where.ensures
