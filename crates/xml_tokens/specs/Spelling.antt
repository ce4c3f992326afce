-- Texts and values as they are written (XML 1.0, sections 2.4, 2.11, 3.3.3 and 4.6).
use Rattle.std.specs.Prelude.{ℕ, ◌==◌, Bool, true, false, not, ◌&&◌, ◌||◌, if◌then◌else◌, List, [], ◌∷◌, ◌++◌, Option, Some, None, codes}
use Rattle.std.specs.List.{flat_map}
use Rattle.xml_tokens.specs.References.{referred}
use Rattle.xml_tokens.specs.declared.written.Written.{Written}
use Rattle.xml_tokens.specs.declared.written.Written.TheVariants.{Text, Value}
use Rattle.xml_tokens.specs.Values.{InHand, text, reference, in_front, said}

-- what a text escapes: `&`, `<`, `>`, and CR, which would be read as a line feed
unfoldable pub text_byte : ℕ → List ℕ
text_byte b =
    if b == 38 then codes "&amp;"
    else (if b == 60 then codes "&lt;"
    else (if b == 62 then codes "&gt;"
    else (if b == 13 then codes "&#xD;" else b ∷ [])))

-- what a value in single quotes escapes: these, `'`, and the tab and line feed, which would be read as spaces
unfoldable pub value_byte : ℕ → List ℕ
value_byte b =
    if b == 39 then codes "&apos;"
    else (if b == 9 then codes "&#x9;"
    else (if b == 10 then codes "&#xA;" else text_byte b))

abbrev pub spelled_text : List ℕ → List ℕ
spelled_text bytes = flat_map text_byte bytes

abbrev pub spelled_value : List ℕ → List ℕ
spelled_value bytes = flat_map value_byte bytes

-- a byte that a text is written with as it is
abbrev pub is_text_plain : ℕ → Bool
is_text_plain b = not (b == 38 || (b == 60 || (b == 62 || b == 13)))

-- a byte that a value is written with as it is
abbrev pub is_value_plain : ℕ → Bool
is_value_plain b = is_text_plain b && not (b == 39 || (b == 9 || b == 10))

-- a byte, as a text or a value is written with it
abbrev pub written_byte : Written → ℕ → List ℕ
written_byte Text b = text_byte b
written_byte Value b = value_byte b

abbrev pub written : Written → List ℕ → List ℕ
written form bytes = flat_map (written_byte form) bytes

-- a byte that a text or a value is written with as it is
abbrev pub is_plain_as : Written → ℕ → Bool
is_plain_as Text b = is_text_plain b
is_plain_as Value b = is_value_plain b

-- The text that bytes between tags say, but for `]]>` and CDATA sections: references are replaced, and a line end (a
-- carriage return, a line feed, or the two in this order) is a line feed. `<` says nothing.
abbrev pub text_from : InHand → List ℕ → Option (List ℕ)
text_from (text returned) [] = Some []
text_from (text returned) (b ∷ bs) =
    if returned && b == 10 then text_from (text false) bs
    else (if b == 38 then text_from (reference []) bs
    else (if b == 60 then None
    else (if b == 13 then in_front (10 ∷ []) (text_from (text true) bs)
    else in_front (b ∷ []) (text_from (text false) bs))))
text_from (reference name) [] = None
text_from (reference name) (b ∷ bs) =
    if b == 59 then said (referred name) (text_from (text false) bs) else text_from (reference (name ++ b ∷ [])) bs
