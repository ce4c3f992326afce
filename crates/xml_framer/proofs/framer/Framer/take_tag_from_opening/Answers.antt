use Rattle.std.proofs.Common.{ap, sym, take, ◌∙◌}
use Rattle.xml_framer.proofs.Openings.{opening_run}
use Rattle.xml_framer.specs.ManyBytes.{tag_taken}
use Rattle.xml_framer.proofs.framer.Framer.take_tag_from_opening.Goals as goal

pub returns : goal.returns
returns c =
    let within = c.within-within.result.now in
    let front = take c.opening_front-len.result.0 within in
    opening_run c.args.self.now c.take_tag.new.self c.opening_front-len.result.1 c.args.bytes.now within c.opening_front-len.result.0
    (sym c.takes_opening.ensures ∙ c.if-not-takes_opening.false) (sym c.begins_tag.ensures ∙ c.if-not-begins_tag.false)
    c.within-within.ensures.front c.within-within.ensures.bound c.within-within.ensures.room c.opening_front-len.ensures.goes c.opening_front-len.ensures.both
    (c.in_ok-take_tag.ensures ∙ ap (λ s. tag_taken s front) c.begin_token.ensures)
