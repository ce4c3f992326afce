use Rattle.std.proofs.Common.{◌≡◌, length}
use Rattle.xml_names.specs.Headers.{all_put, values_of}
use Rattle.xml_names.proofs.headers.values_of.Given as goal

-- what is left, put into the values so far, gives the values of all
abbrev pub invariant-loop-attribute : goal.invariant-loop-attribute
invariant-loop-attribute l = all_put l.rest.items l.values ≡ values_of l.fn.attributes.items

abbrev pub decreases-loop-attribute : goal.decreases-loop-attribute
decreases-loop-attribute l = length l.rest.items
