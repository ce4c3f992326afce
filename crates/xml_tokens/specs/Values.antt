-- What an attribute's value says (XML 1.0, sections 2.11, 3.1 and 3.3.3). `raw` is what stands between its quotes.
use Rattle.std.specs.Prelude.{ℕ, ◌==◌, Bool, true, false, not, ◌&&◌, ◌||◌, if◌then◌else◌, List, [], ◌∷◌, ◌++◌, Option, Some, None, Result, Err, encode_utf8}
use Rattle.std.specs.Int.{is_in_range}
use Rattle.std.specs.Option.{option_map, ok_or}
use Rattle.std.specs.Str.{is_utf8}
use Rattle.xml_tokens.specs.Characters.{is_name_byte, are_characters}
use Rattle.xml_tokens.specs.Fronts.{front, following}
use Rattle.xml_tokens.specs.References.{referred}
use Rattle.xml_tokens.specs.declared.fault.TagWhy.{TagWhy}
use Rattle.xml_tokens.specs.declared.fault.TagWhy.TheVariants.{Restricted, NotWellFormed}
use Rattle.xml_tokens.specs.declared.references.Reference.{Reference}
use Rattle.xml_tokens.specs.declared.references.Reference.TheVariants.{Character, Unknown, Malformed}

-- What a reader of a value has in hand: text, and whether the last byte was a carriage return, or the name of a
-- reference so far.
pub data InHand : Type 0 where
  text : Bool → InHand
  reference : List ℕ → InHand

-- more in front of what is read
abbrev pub in_front : List ℕ → Option (List ℕ) → Option (List ℕ)
in_front more rest = option_map (λ v. more ++ v) rest

-- what a reference says in front of what is read
abbrev pub said : Reference → Option (List ℕ) → Option (List ℕ)
said (Character c) rest = in_front (encode_utf8 c) rest
said Unknown rest = None
said Malformed rest = None

-- The value that bytes say. References are replaced. A literal tab is a space, and so is a literal line end: a
-- carriage return, a line feed, or the two in this order. `<` says nothing.
abbrev pub value_from : InHand → List ℕ → Option (List ℕ)
value_from (text returned) [] = Some []
value_from (text returned) (b ∷ bs) =
    if returned && b == 10 then value_from (text false) bs
    else (if b == 38 then value_from (reference []) bs
    else (if b == 60 then None
    else (if b == 13 then in_front (32 ∷ []) (value_from (text true) bs)
    else (if b == 9 || b == 10 then in_front (32 ∷ []) (value_from (text false) bs)
    else in_front (b ∷ []) (value_from (text false) bs)))))
value_from (reference name) [] = None
value_from (reference name) (b ∷ bs) =
    if b == 59 then said (referred name) (value_from (text false) bs) else value_from (reference (name ++ b ∷ [])) bs

-- what is UTF-8
abbrev pub as_text : Option (List ℕ) → Option (List ℕ)
as_text None = None
as_text (Some v) = if is_utf8 v then Some v else None

-- the value that a spelled one says, where its characters are XML's and it says one
unfoldable pub value_of : List ℕ → Option (List ℕ)
value_of raw = if are_characters raw then as_text (value_from (text false) raw) else None

abbrev pub is_unknown : Reference → Bool
is_unknown (Character c) = false
is_unknown Unknown = true
is_unknown Malformed = false

abbrev pub begins_with : ℕ → List ℕ → Bool
begins_with b [] = false
begins_with b (x ∷ xs) = x == b

-- bytes behind `&` begin with an unknown name and `;`
abbrev pub begins_unknown : List ℕ → Bool
begins_unknown bs = begins_with 59 (following is_name_byte bs) && is_unknown (referred (front is_name_byte bs))

-- some reference has an unknown name
abbrev pub has_unknown : List ℕ → Bool
has_unknown [] = false
has_unknown (b ∷ bs) = (b == 38 && begins_unknown bs) || has_unknown bs

-- a byte that a value says as it is
abbrev pub is_plain : ℕ → Bool
is_plain b = not (b == 38 || (b == 60 || (b == 13 || (b == 9 || b == 10))))

-- an ASCII character that a value says as it is
abbrev pub is_plain_ascii : ℕ → Bool
is_plain_ascii b = is_in_range 32 127 b && not (b == 38 || b == 60)

-- what a spelled value comes to: an unknown name in a reference, wherever it stands, is told before all else
abbrev pub outcome_of : List ℕ → Result (List ℕ) TagWhy
outcome_of raw = if has_unknown raw then Err Restricted else ok_or (value_of raw) NotWellFormed
