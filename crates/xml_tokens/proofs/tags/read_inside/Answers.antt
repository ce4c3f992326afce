use Rattle.std.proofs.Common.{sym, ap, ◌∙◌, map}
use Rattle.std.proofs.lemmas.List.{map_push}
use Rattle.xml_tokens.proofs.InsideRuns.{inside_ends, inside_goes_on, inside_fails}
use Rattle.xml_tokens.specs.RawTags.{attribute_of}
use Rattle.xml_tokens.specs.Tags.{end_in, with_more}
use Rattle.xml_tokens.proofs.tags.read_inside.Goals as goal

pub returns-in-Some : goal.returns-in-Some
returns-in-Some c =
    sym (inside_ends (map attribute_of c.loop-empty.attributes.items) c.loop-empty.rest.now c.end_in.result c.in-Some.empty (c.end_in.ensures ∙ ap end_in c.split_white.ensures.following) c.in-Some.is)
    ∙ c.loop-empty.invariant

pub returns-in-None : goal.returns-in-None
returns-in-None c =
    sym (ap (with_more (map attribute_of c.loop-empty.attributes.items))
    (inside_fails c.loop-empty.rest.now c.end_in.result (c.end_in.ensures ∙ ap end_in c.split_white.ensures.following) c.in_default.is (sym (rw c.in-None.is at c.in_ok-attribute.ensures.found))))
    ∙ c.loop-empty.invariant

pub loop-empty-preserved : goal.loop-empty-preserved
loop-empty-preserved c =
    inside_goes_on (map attribute_of c.loop-empty.attributes.items) (map attribute_of c.add.new.attributes.items) c.loop-empty.rest.now c.end_in.result (attribute_of c.in-Some-2.attribute) c.in-Some-2.left.now
    (c.end_in.ensures ∙ ap end_in c.split_white.ensures.following) c.in_default.is (sym (rw c.in-Some-2.is at c.in_ok-attribute.ensures.found))
    (ap (map attribute_of) c.in_ok-add-in-Some-2.ensures ∙ map_push attribute_of c.loop-empty.attributes.items c.in-Some-2.attribute)
    ∙ c.loop-empty.invariant
