use Rattle.std.proofs.Common.{◌≡◌, ◌&&◌, true, drop}
use Rattle.std.specs.List.{list_all}
use Rattle.xml_framer.proofs.CalmTags.{inside_after, is_calm}
use Rattle.xml_framer.proofs.many_bytes.quote_after_calm.Given as goal

-- what was seen and what is left decide
abbrev pub invariant-loop-b : goal.invariant-loop-b
invariant-loop-b l =
    ((l.calm && list_all (is_calm l.other) (drop l.b-index l.bytes)) ≡ list_all (is_calm l.other) l.bytes)
    × (inside_after l.quote l.inside (drop l.b-index l.bytes) ≡ inside_after l.quote true l.bytes)
