use Rattle.std.proofs.Common.{Some, length, sym, subst, ◌∙◌, arith}
use Rattle.std.proofs.lemmas.Bool.Decides.{nat_tests}
use Rattle.xml_framer.proofs.CalmTags.{calm_at_end}
use Rattle.xml_framer.specs.ManyBytes.{GoesOnTo}
use Rattle.xml_framer.proofs.many_bytes.quote_after_calm.Goals as goal

pub returns-then-calm : goal.returns-then-calm
returns-then-calm c =
    subst (GoesOnTo (Some c.args.quote) c.args.bytes.now (length c.args.bytes.now)) (sym c.open_quote.ensures)
    (calm_at_end c.args.quote c.other_quote-other.result c.loop-b.b-index c.args.bytes.now c.loop-b.calm c.loop-b.inside
    (sym c.is_quote.ensures ∙ c.if-not-is_quote.false) c.other_quote-other.ensures
    (grind (arith, nat_tests, c.loop-b-test.false)) c.loop-b.invariant.0 c.loop-b.invariant.1 c.if-calm.true)
