-- End tags (XML 1.0, section 3.1).
use Rattle.std.specs.Prelude.{ℕ, List, Option}
use Rattle.xml_tokens.specs.Tags.{end_name, tag_of}

-- the spelled name of the end tag that bytes are
unfoldable pub end_of : List ℕ → Option (List ℕ)
end_of bytes = end_name (tag_of bytes)
