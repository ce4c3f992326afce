-- The priority of a presence (RFC 6121 section 4.7.2.3).
use Rattle.std.specs.Prelude.{ℕ, nat_lt, nat_le, Bool, ◌&&◌, List, drop, length, ℤ, pos, neg_ℤ, Option, Some, None, codes, if◌then◌else◌}
use Rattle.std.specs.Str.{all_ascii_digits}
use Rattle.std.specs.Str.Parse.{digits_value, starts_with_minus}
use Rattle.xml_trees.specs.Readers.{child_of, text_of}
use Rattle.xml_trees.specs.Trees.{Elem, nodes_of}
use Rattle.im_stanza.specs.Names.{client_ns}

-- one decimal digit or more, whose number is at most this
abbrev pub is_number_to : ℕ → List ℕ → Bool
is_number_to most digits = nat_lt 0 (length digits) && all_ascii_digits digits && nat_le (digits_value 10 digits) most

-- A text is a priority where it is an optional `-` and one or more digits whose number is from -128 to 127. Any other
-- text counts as 0.
abbrev pub priority_of : List ℕ → ℤ
priority_of spelled =
    if starts_with_minus spelled
    then (if is_number_to 128 (drop 1 spelled) then neg_ℤ (pos (digits_value 10 (drop 1 spelled))) else pos 0)
    else (if is_number_to 127 spelled then pos (digits_value 10 spelled) else pos 0)

-- that of an element, from the text directly in it; 0 where there is no element
abbrev pub priority_in : Option Elem → ℤ
priority_in None = pos 0
priority_in (Some e) = priority_of (text_of (nodes_of e))

-- that of a presence, from its first child `priority`
abbrev pub presence_priority : Elem → ℤ
presence_priority e = priority_in (child_of client_ns (codes "priority") e)
