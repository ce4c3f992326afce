use Rattle.std.proofs.Common.{ap, sym, ◌∙◌, Some}
use Rattle.xml_tokens.proofs.Texts.{text_is, text_fails}
use Rattle.xml_tokens.proofs.attributes.text_of.Goals as goal

pub returns-in-Ok : goal.returns-in-Ok
returns-in-Ok c = ap Some c.in-Ok.ensures.cases.0 ∙ sym (text_is c.args.bytes.now c.in-Ok.ensures.cases.1)

pub returns-in-Err : goal.returns-in-Err
returns-in-Err c = sym (text_fails c.args.bytes.now c.in-Err.ensures.cases.0)
