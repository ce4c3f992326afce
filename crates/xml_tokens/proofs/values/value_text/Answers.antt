use Rattle.std.proofs.Common.{sym, ◌∙◌}
use Rattle.std.proofs.lemmas.Result.{IfOk-weaker}
use Rattle.xml_tokens.proofs.PlainValues.{plain_value}
use Rattle.xml_tokens.proofs.values.value_text.Goals as goal

pub returns-then-are_plain_ascii : goal.returns-then-are_plain_ascii
returns-then-are_plain_ascii c =
    let plain = sym c.are_plain_ascii.ensures ∙ c.if-are_plain_ascii.true in
    IfOk-weaker c.plain_text.result _ _ (λ o e. e ∙ sym (plain_value c.args.raw.now plain)) c.plain_text.ensures
