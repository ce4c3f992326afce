use Rattle.std.proofs.Common.{ap, refl, take}
use Rattle.xml_framer.proofs.PlainTags.{tag_run_taken}
use Rattle.xml_framer.specs.States.{State}
use Rattle.xml_framer.proofs.framer.Framer.take_tag_run.Goals as goal

pub returns : goal.returns
returns c =
    let seen = ap (λ (s : State). s.lexical.quote) c.self.view_is in
    let inside = c.tag_front-len.ensures.inside in
    tag_run_taken c.args.self.now c.take_tag.new.self c.args.bytes.now c.within-within.result.now (take c.tag_front-len.result.0 c.within-within.result.now) c.tag_front-len.result.0 c.requires
    c.within-within.ensures.front c.within-within.ensures.bound refl c.tag_front-len.ensures.bound c.within-within.ensures.room (cc) c.in_ok-take_tag.ensures
