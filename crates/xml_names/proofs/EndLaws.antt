-- End tags are read as the grammar has them.
use Rattle.std.proofs.Common.{◌≡◌, ◌↔◌, ℕ, List, Some, Result, Ok, Err, ap}
use Rattle.xml_tokens.proofs.TagOutcomes.{tags_are_read, what_is_read_is_a_tag}
use Rattle.xml_tokens.specs.Tags.{Tag, start_tag, end_tag, tag_of, end_name, IsEndTag}
use Rattle.xml_tokens.specs.declared.fault.TagWhy.{TagWhy}
use Rattle.xml_names.specs.Ends.{end_of}

was_read : (r : Result Tag TagWhy) (name : List ℕ) → end_name r ≡ Some name → r ≡ Ok (end_tag name)
was_read (Ok (end_tag n)) name e = let same : n ≡ name = cc in ap (λ x. Ok (end_tag x)) same
was_read (Ok (start_tag n xs b)) name e = absurd cc
was_read (Err f) name e = absurd cc

pub end_tags_are_read : (bytes name : List ℕ) → ((end_of bytes ≡ Some name) ↔ IsEndTag bytes name)
unfolding end_of
end_tags_are_read bytes name =
    (λ e. what_is_read_is_a_tag bytes (end_tag name) (was_read (tag_of bytes) name e), λ h. ap end_name (tags_are_read bytes (end_tag name) h))
