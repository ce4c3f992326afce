use Rattle.std.proofs.Common.{◌++◌, sym, ◌∙◌}
use Rattle.xml_names.proofs.NamePairs.{other_next, same_next, unnamed_next, none_left}
use Rattle.xml_names.specs.Expansion.{borrowed_name}
use Rattle.xml_names.specs.Scopes.{scope_of}
use Rattle.xml_names.proofs.pairs.have_names_in_pairs.Goals as goal

pub returns-then-some_is_named : goal.returns-then-some_is_named
returns-then-some_is_named c =
    same_next (c.args.own.now ++ scope_of c.args.stack.now) c.args.others.now c.loop-at.at c.loop-at-test.true c.index-others-at.result (borrowed_name c.in-Some.name) c.in-Some.ensures
    (sym c.some_is_named.ensures ∙ c.if-some_is_named.true) ∙ c.loop-at.invariant

pub returns-in-None : goal.returns-in-None
returns-in-None c =
    unnamed_next (c.args.own.now ++ scope_of c.args.stack.now) c.args.others.now c.loop-at.at c.loop-at-test.true c.index-others-at.result c.in-None.ensures ∙ c.loop-at.invariant

pub loop-at-preserved : goal.loop-at-preserved
loop-at-preserved c =
    other_next (c.args.own.now ++ scope_of c.args.stack.now) c.args.others.now c.loop-at.at c.loop-at-test.true c.index-others-at.result (borrowed_name c.in-Some.name) c.in-Some.ensures
    (sym c.some_is_named.ensures ∙ c.if-some_is_named.false) ∙ c.loop-at.invariant

pub returns : goal.returns
returns c = none_left (c.args.own.now ++ scope_of c.args.stack.now) c.args.others.now c.loop-at.at c.loop-at-test.false ∙ c.loop-at.invariant
