use Rattle.std.proofs.Common.{◌≡◌, string_bytes, rules}
use Rattle.xml_framer.proofs.OpenText.{empty_joins}
use Rattle.xml_framer.proofs.elements_in_hand.join_to.Goals as goal

pub returns-then-is_empty-clause-joined : goal.returns-then-is_empty-clause-joined
returns-then-is_empty-clause-joined c =
    let text : c.as_str.result.now ≡ string_bytes c.args.chars.now = search rules in
    empty_joins c.args.opens.now (string_bytes c.args.chars.now) c.as_str.result.now c.is_empty.result c.if-is_empty.true c.is_empty.ensures text
