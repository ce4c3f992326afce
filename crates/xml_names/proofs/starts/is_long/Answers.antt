use Rattle.std.proofs.Common.{◌∙◌}
use Rattle.xml_names.proofs.SpelledLengths.{few_are_within}
use Rattle.xml_names.proofs.starts.is_long.Goals as goal

pub returns-then-most-ge-LONGEST_UNMEASURED : goal.returns-then-most-ge-LONGEST_UNMEASURED
returns-then-most-ge-LONGEST_UNMEASURED c =
    few_are_within c.args.most c.args.binding.now.ns c.as_bytes-ns.result.now (c.as_bytes-ns.ensures.value ∙ c.as_str.ensures) c.if-ns-le-UNMEASURED.true c.if-most-ge-LONGEST_UNMEASURED.true
