use Rattle.std.proofs.Common.{sym, ◌∙◌}
use Rattle.xml_framer.proofs.PlainTags.{one_further}
use Rattle.xml_framer.proofs.many_bytes.part_by_bytes.Goals as goal

pub returns-in-Some : goal.returns-in-Some
returns-in-Some c =
    let found = c.in-Some.ensures.lookup.3 in
    one_further c.args.quote c.quote_behind.result c.args.bytes.now c.same_quote_len-len.result c.in-Some.b.now c.same_quote_len-len.ensures found.0 (found.1 0) (sym c.goes_on_in.ensures ∙ c.if-goes_on_in.true) c.quote_behind.ensures
