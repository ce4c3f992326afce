use Rattle.std.proofs.Common.{◌∙◌}
use Rattle.auth_scram.specs.Exchange.{base64_of}
use Rattle.auth_scram.proofs.spelling.base64.Goals as goal

pub returns : goal.returns
unfolding base64_of
returns c = c.from.ensures ∙ c.in_ok-encode.ensures.text
