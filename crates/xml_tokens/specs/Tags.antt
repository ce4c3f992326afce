-- The inside of a tag (XML 1.0, sections 2.3 and 3.1; Namespaces in XML 1.0, section 3), first as a grammar: the bytes
-- of a tag, from its `<` to its `>`, and what they say.
use Rattle.std.specs.Prelude.{ℕ, zero, suc, ◌≡◌, ◌≢◌, ◌==◌, Bool, true, false, not, ◌&&◌, ◌||◌, if◌then◌else◌, List, [], ◌∷◌, ◌++◌, Option, Some, None, Result, Ok, Err, length, map, AllPairs}
use Rattle.std.specs.List.{list_all}
use Rattle.std.specs.Option.{option_map, option_and_then, ok_or}
use Rattle.std.specs.Str.{bytes_eq, is_utf8}
use Rattle.base_lemmas.specs.Distinct.{are_distinct_by}
use Rattle.xml_tokens.specs.Characters.{is_white, is_name_byte, is_name}
use Rattle.xml_tokens.specs.Fronts.{front, following}
use Rattle.xml_tokens.specs.ValueGrammar.{IsValue}
use Rattle.xml_tokens.specs.Values.{value_of, begins_unknown}
use Rattle.xml_tokens.specs.declared.fault.TagWhy.{TagWhy}
use Rattle.xml_tokens.specs.declared.fault.TagWhy.TheVariants.{Restricted, NotWellFormed}

-- an attribute: its name as it is spelled, and its value
pub record Attribute : Type 0 where
  pub name : List ℕ
  pub value : List ℕ

-- a start tag has a name, attributes, and is the tag of an empty element or not; an end tag has a name
pub data Tag : Type 0 where
  start_tag : List ℕ → List Attribute → Bool → Tag
  end_tag : List ℕ → Tag

abbrev pub are_white : List ℕ → Bool
are_white bs = list_all is_white bs

-- `"` or `'`
abbrev pub is_quote : ℕ → Bool
is_quote b = b == 34 || b == 39

abbrev pub not_byte : ℕ → ℕ → Bool
not_byte c b = not (b == c)

-- a name, or two with a colon between (Namespaces, section 3, QName)
abbrev pub is_after_colon : List ℕ → Bool
is_after_colon [] = true
is_after_colon (c ∷ bs) = is_name bs

abbrev pub has_parts : List ℕ → Bool
has_parts bs = is_name (front (λ b. not (b == 58)) bs) && is_after_colon (following (λ b. not (b == 58)) bs)

unfoldable pub is_qualified : List ℕ → Bool
is_qualified bs = has_parts bs && is_utf8 bs

-- ---- the grammar

-- bytes spell an attribute whose value is spelled raw, and then the rest: S Name S? '=' S? and the value in its quotes
pub record IsSpelled (bytes name raw rest : List ℕ) : Type 0 where
  pub space : List ℕ
  pub before : List ℕ
  pub after : List ℕ
  pub quote : ℕ
  pub bytes_are : bytes ≡ space ++ (name ++ (before ++ (61 ∷ (after ++ (quote ∷ (raw ++ (quote ∷ rest)))))))
  pub some_space : space ≢ []
  pub space_white : are_white space ≡ true
  pub name_is : is_qualified name ≡ true
  pub before_white : are_white before ≡ true
  pub after_white : are_white after ≡ true
  pub quote_is : is_quote quote ≡ true
  pub raw_inside : list_all (λ b. not (b == quote)) raw ≡ true

-- bytes spell an attribute and then the rest
abbrev pub IsAttribute : List ℕ → Attribute → List ℕ → Type 0
IsAttribute bytes a rest = (raw : List ℕ) × IsSpelled bytes a.name raw rest × IsValue raw a.value

-- bytes spell attributes and then the rest
abbrev pub AreAttributes : List ℕ → List Attribute → List ℕ → Type 0
AreAttributes bytes [] rest = bytes ≡ rest
AreAttributes bytes (a ∷ more) rest = (next : List ℕ) × IsAttribute bytes a next × AreAttributes next more rest

abbrev pub names_of : List Attribute → List (List ℕ)
names_of attributes = map (λ a. a.name) attributes

-- no name twice (3.1, Unique Att Spec)
abbrev pub AreDistinct : List (List ℕ) → Type 0
AreDistinct names = AllPairs (λ a b. a ≢ b) names

-- how a start tag ends
abbrev pub tag_end : Bool → List ℕ
tag_end true = 47 ∷ 62 ∷ []
tag_end false = 62 ∷ []

-- '<' Name (S Attribute)* S? '>' (STag), or with '/>' (EmptyElemTag)
pub record IsStartTag (bytes name : List ℕ) (attributes : List Attribute) (empty : Bool) : Type 0 where
  pub inside : List ℕ
  pub space : List ℕ
  pub bytes_are : bytes ≡ 60 ∷ (name ++ inside)
  pub name_is : is_qualified name ≡ true
  pub inside_is : AreAttributes inside attributes (space ++ tag_end empty)
  pub space_white : are_white space ≡ true
  pub distinct : AreDistinct (names_of attributes)

-- '</' Name S? '>' (ETag)
pub record IsEndTag (bytes name : List ℕ) : Type 0 where
  pub space : List ℕ
  pub bytes_are : bytes ≡ 60 ∷ 47 ∷ (name ++ (space ++ (62 ∷ [])))
  pub name_is : is_qualified name ≡ true
  pub space_white : are_white space ≡ true

abbrev pub IsTag : List ℕ → Tag → Type 0
IsTag bytes (start_tag name attributes empty) = IsStartTag bytes name attributes empty
IsTag bytes (end_tag name) = IsEndTag bytes name

-- ---- references in quotes

-- the quote that is open behind a byte
abbrev pub quote_behind : Option ℕ → ℕ → Option ℕ
quote_behind None b = if is_quote b then Some b else None
quote_behind (Some q) b = if b == q then None else Some q

abbrev pub is_open : Option ℕ → Bool
is_open None = false
is_open (Some q) = true

-- some reference inside quotes has an unknown name
abbrev pub has_unknown_quoted : Option ℕ → List ℕ → Bool
has_unknown_quoted quote [] = false
has_unknown_quoted quote (b ∷ bs) = (is_open quote && (b == 38 && begins_unknown bs)) || has_unknown_quoted (quote_behind quote b) bs

abbrev pub is_end : List ℕ → Bool
is_end [] = false
is_end (a ∷ []) = false
is_end (a ∷ b ∷ bs) = a == 60 && b == 47

-- a tag that is no end tag, and has a reference with an unknown name in its quotes
abbrev pub is_restricted : List ℕ → Bool
is_restricted bytes = not (is_end bytes) && has_unknown_quoted None bytes

-- ---- reading

-- an attribute as it is spelled, and what is behind it
pub record Spelled : Type 0 where
  pub name : List ℕ
  pub raw : List ℕ
  pub rest : List ℕ

abbrev pub closed : List ℕ → List ℕ → List ℕ → Option Spelled
closed name raw [] = None
closed name raw (q ∷ rest) = Some (record { name = name; raw = raw; rest = rest })

abbrev pub quoted : List ℕ → List ℕ → Option Spelled
quoted name [] = None
quoted name (q ∷ bs) = if is_quote q then closed name (front (λ b. not (b == q)) bs) (following (λ b. not (b == q)) bs) else None

abbrev pub assigned : List ℕ → List ℕ → Option Spelled
assigned name [] = None
assigned name (b ∷ bs) = if b == 61 then quoted name (following is_white bs) else None

-- a byte of a qualified name
abbrev pub is_qualified_byte : ℕ → Bool
is_qualified_byte b = is_name_byte b || b == 58

abbrev pub named : List ℕ → List ℕ → Option Spelled
named name rest = if is_qualified name then assigned name (following is_white rest) else None

abbrev pub is_empty : List ℕ → Bool
is_empty [] = true
is_empty (b ∷ bs) = false

-- the attribute that bytes begin with
unfoldable pub spelled_at : List ℕ → Option Spelled
spelled_at bs =
    if is_empty (front is_white bs) then None
    else named (front is_qualified_byte (following is_white bs)) (following is_qualified_byte (following is_white bs))

-- how a start tag ends that has only these bytes left: `>`, or `/>`, behind white space
abbrev pub end_in : List ℕ → Option Bool
end_in bs = if bytes_eq bs (62 ∷ []) then Some false else (if bytes_eq bs (47 ∷ 62 ∷ []) then Some true else None)

-- attributes, and whether the tag is that of an empty element
pub record Inside : Type 0 where
  pub attributes : List Attribute
  pub empty : Bool

-- more attributes in front
abbrev pub with_more : List Attribute → Option Inside → Option Inside
with_more more inside = option_map (λ i. record { attributes = more ++ i.attributes; empty = i.empty }) inside

-- an attribute and what is behind it
pub record Found : Type 0 where
  pub attribute : Attribute
  pub rest : List ℕ

abbrev pub found : Spelled → Option Found
found s = option_map (λ v. record { attribute = record { name = s.name; value = v }; rest = s.rest }) (value_of s.raw)

-- the attribute that bytes begin with, with its value
abbrev pub attribute_at : List ℕ → Option Found
attribute_at bs = option_and_then found (spelled_at bs)

abbrev pub ended_inside : Bool → Option Inside
ended_inside empty = Some (record { attributes = []; empty = empty })

abbrev pub unless_ended : Option Bool → Option Inside → Option Inside
unless_ended None inside = inside
unless_ended (Some empty) inside = ended_inside empty

-- the attributes and the end that bytes say, fewer of them than a number
abbrev pub inside_within : ℕ → List ℕ → Option Inside
inside_within zero bs = None
inside_within (suc k) bs = unless_ended (end_in (following is_white bs)) (option_and_then (λ f. with_more (f.attribute ∷ []) (inside_within k f.rest)) (attribute_at bs))

-- all of them: each takes a byte at least
unfoldable pub inside_of : List ℕ → Option Inside
inside_of bs = inside_within (suc (length bs)) bs

abbrev pub are_distinct : List (List ℕ) → Bool
are_distinct names = are_distinct_by bytes_eq names

abbrev pub start_with : List ℕ → Inside → Option Tag
start_with name i = if are_distinct (names_of i.attributes) then Some (start_tag name i.attributes i.empty) else None

-- behind `<`
unfoldable pub start_at : List ℕ → Option Tag
start_at bs =
    if is_qualified (front is_qualified_byte bs)
    then option_and_then (start_with (front is_qualified_byte bs)) (inside_of (following is_qualified_byte bs))
    else None

-- behind `</`
unfoldable pub end_at : List ℕ → Option Tag
end_at bs =
    if is_qualified (front is_qualified_byte bs) && bytes_eq (following is_white (following is_qualified_byte bs)) (62 ∷ [])
    then Some (end_tag (front is_qualified_byte bs))
    else None

abbrev pub begun_at : List ℕ → Option Tag
begun_at [] = None
begun_at (b ∷ bs) = if b == 47 then end_at bs else start_at (b ∷ bs)

abbrev pub tag_at : List ℕ → Option Tag
tag_at [] = None
tag_at (b ∷ bs) = if b == 60 then begun_at bs else None

-- What a tag comes to: an unknown name in a reference in quotes is told before all else.
unfoldable pub tag_of : List ℕ → Result Tag TagWhy
tag_of bytes = if is_restricted bytes then Err Restricted else ok_or (tag_at bytes) NotWellFormed

-- the name of an end tag, as it is spelled
abbrev pub end_name : Result Tag TagWhy → Option (List ℕ)
end_name (Ok (end_tag name)) = Some name
end_name (Ok (start_tag name attributes empty)) = None
end_name (Err fault) = None
