-- The lines that tell of a stream's items and of what is wrong with it.
use Rattle.std.specs.Prelude.{ℕ, ◌&&◌, Bool, if◌then◌else◌, List, [], ◌∷◌, ◌++◌, Option, Some, None, codes}
use Rattle.std.specs.Fmt.{decimal}
use Rattle.std.specs.Str.{bytes_eq}
use Rattle.xml_names.specs.declared.headers.Header.{Header}
use Rattle.xml_writer.specs.Canon.{canon, client_namespace, streams_namespace, written_footer, written_header}
use Rattle.xml_framer.specs.declared.fault.Why.{Why}
use Rattle.xml_framer.specs.declared.fault.Why.TheVariants as why
use Rattle.xml_framer.specs.declared.items.Item.{Item}
use Rattle.xml_framer.specs.declared.items.Item.TheVariants as item

-- an item as it is written
abbrev pub written_item : Item → List ℕ
written_item (item.Header at h) = written_header h
written_item (item.Element e) = canon e
written_item item.Footer = written_footer

abbrev pub item_line : Item → List ℕ
item_line i = written_item i ++ 10 ∷ []

-- a header that opens a stream between a client and its server (RFC 6120, sections 4.8.1 and 4.8.2)
unfoldable pub is_of_client : Header → Bool
is_of_client h = bytes_eq h.ns streams_namespace && (bytes_eq h.name (codes "stream") && bytes_eq h.content client_namespace)

-- the place of a header that opens another
abbrev pub strange_at : Item → Option ℕ
strange_at (item.Header at h) = if is_of_client h then None else Some at
strange_at (item.Element e) = None
strange_at item.Footer = None

-- what a fault is called
abbrev pub why_name : Why → List ℕ
why_name why.Restricted = codes "Restricted"
why_name why.NotWellFormed = codes "NotWellFormed"
why_name why.Encoding = codes "Encoding"
why_name why.TooLong = codes "TooLong"
why_name why.TooDeep = codes "TooDeep"
why_name why.TooManyAttributes = codes "TooManyAttributes"
why_name why.LongNamespace = codes "LongNamespace"

abbrev pub fault_line : ℕ → List ℕ → List ℕ
fault_line at name = codes "fault " ++ (decimal at ++ (32 ∷ (name ++ 10 ∷ [])))

abbrev pub truncated_line : ℕ → List ℕ
truncated_line at = codes "truncated " ++ (decimal at ++ 10 ∷ [])

abbrev pub end_line : List ℕ
end_line = codes "end" ++ 10 ∷ []
