use Rattle.std.proofs.Common.{◌∙◌}
use Rattle.srv_route.proofs.Rising.{searched_is}
use Rattle.srv_route.proofs.recipients.is_among.Goals as goal

pub returns : goal.returns
returns c = c.is_ok.ensures.value ∙ searched_is c.args.numbers.now c.args.number c.binary_search.result c.requires c.binary_search.ensures.position
