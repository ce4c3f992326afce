-- What the readers of payloads have in common: booleans, numbers and texts, in attributes and in children.
use Rattle.std.specs.Prelude.{ℕ, nat_lt, Bool, false, ◌&&◌, ◌||◌, List, [], length, Option, Some, None, codes, unwrap_or, if◌then◌else◌}
use Rattle.std.specs.Option.{option_and_then, option_map}
use Rattle.std.specs.Str.{all_ascii_digits, bytes_eq}
use Rattle.std.specs.Str.Parse.{digits_value}
use Rattle.im_stanza.specs.Stanzas.{attr_named}
use Rattle.xml_trees.specs.Readers.{child_of, text_of}
use Rattle.xml_trees.specs.Trees.{Elem, nodes_of}

-- The true spellings of a boolean (XML Schema Part 2, section 3.2.2.1).
abbrev pub is_true : List ℕ → Bool
is_true spelled = bytes_eq spelled (codes "true") || bytes_eq spelled (codes "1")

-- a boolean that is false where it is absent
abbrev pub flag : Option (List ℕ) → Bool
flag None = false
flag (Some spelled) = is_true spelled

-- one decimal digit or more whose number is below the limit; zeros may lead
abbrev pub is_number : ℕ → List ℕ → Bool
is_number limit spelled = (nat_lt 0 (length spelled) && all_ascii_digits spelled) && nat_lt (digits_value 10 spelled) limit

-- the number that a text spells, where it spells one below the limit
abbrev pub number_below : ℕ → List ℕ → Option ℕ
number_below limit spelled = if is_number limit spelled then Some (digits_value 10 spelled) else None

-- the same of a text that has to be there
abbrev pub required_number : ℕ → Option (List ℕ) → Option ℕ
required_number limit spelled = option_and_then (number_below limit) spelled

-- of a text that may be absent: `Some None` where it is, and `None` where it is there and spells no such number
abbrev pub optional_number : ℕ → Option (List ℕ) → Option (Option ℕ)
optional_number limit None = Some None
optional_number limit (Some spelled) = option_map Some (number_below limit spelled)

-- the value of an attribute without a namespace, empty where there is none
abbrev pub attr_or_empty : List ℕ → Elem → List ℕ
attr_or_empty name e = unwrap_or (attr_named name e) []

-- the text directly in the first child of this namespace and name
abbrev pub child_text : List ℕ → List ℕ → Elem → Option (List ℕ)
child_text ns name e = option_map (λ c. text_of (nodes_of c)) (child_of ns name e)

-- the same, empty where there is none
abbrev pub child_text_or_empty : List ℕ → List ℕ → Elem → List ℕ
child_text_or_empty ns name e = unwrap_or (child_text ns name e) []
