use Rattle.std.proofs.Common.{sym, ◌∙◌}
use Rattle.std.proofs.lemmas.Bool.{or_left}
use Rattle.xml_tokens.specs.Declarations.{has_other, is_other}
use Rattle.xml_tokens.specs.SpelledView.{spelled_view}
use Rattle.xml_tokens.proofs.DeclarationLaws.{other_found, other_none, or_skips}
use Rattle.xml_tokens.proofs.TagWords.{spelled_shorter}
use Rattle.xml_tokens.proofs.declarations.has_other.Goals as goal

pub returns-then-is_other : goal.returns-then-is_other
returns-then-is_other c =
    let s = spelled_view c.in-Some.item in
    sym (sym c.loop-item.invariant ∙ other_found c.loop-item.rest.now s c.in-Some.ensures ∙ or_left (is_other s) (has_other s.rest) (sym c.is_other.ensures ∙ c.if-is_other.true))

pub loop-item-smaller : goal.loop-item-smaller
loop-item-smaller c = spelled_shorter c.loop-item.rest.now (spelled_view c.in-Some.item) (sym c.in-Some.ensures)

pub loop-item-preserved : goal.loop-item-preserved
loop-item-preserved c =
    let s = spelled_view c.in-Some.item in
    sym (other_found c.loop-item.rest.now s c.in-Some.ensures ∙ or_skips (is_other s) (has_other s.rest) (sym c.is_other.ensures ∙ c.if-is_other.false)) ∙ c.loop-item.invariant

pub returns : goal.returns
returns c = sym (sym c.loop-item.invariant ∙ other_none c.loop-item.rest.now (c.in_default.ensures))
