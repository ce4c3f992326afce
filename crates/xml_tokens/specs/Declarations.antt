-- XML declarations (XML 1.0, sections 2.8 and 2.9), from `<?xml` to `?>`: what is well formed, and where the encoding
-- isn't UTF-8 (RFC 6120, section 11.6).
use Rattle.std.specs.Prelude.{ℕ, zero, suc, ◌≡◌, ◌⊎◌, Bool, true, false, not, ◌&&◌, ◌||◌, if◌then◌else◌, List, ◌++◌, Option, Some, None, length, take, drop, codes, unwrap_or}
use Rattle.std.specs.Option.{option_and_then}
use Rattle.std.specs.Str.{bytes_eq, str_eq_ignore_ascii_case}
use Rattle.xml_tokens.specs.Characters.{is_white}
use Rattle.xml_tokens.specs.Fronts.{following}
use Rattle.xml_tokens.specs.Tags.{IsSpelled, Spelled, are_white, spelled_at}
use Rattle.xml_tokens.specs.declared.declarations.Declaration.{Declaration}
use Rattle.xml_tokens.specs.declared.declarations.Declaration.TheVariants.{Good, Encoding, NotWellFormed}

-- UTF-8, in any case (4.3.3)
unfoldable pub is_utf8_label : List ℕ → Bool
is_utf8_label raw = str_eq_ignore_ascii_case raw (codes "UTF-8")

abbrev pub is_one_zero : List ℕ → Bool
is_one_zero raw = bytes_eq raw (codes "1.0")

abbrev pub is_yes_or_no : List ℕ → Bool
is_yes_or_no raw = bytes_eq raw (codes "yes") || bytes_eq raw (codes "no")

-- ---- the grammar

-- bytes may spell an item `name = 'value'` with this name and a value that fits, and then the rest
abbrev pub MaySpell : List ℕ → List ℕ → (List ℕ → Bool) → List ℕ → Type 0
MaySpell bytes name fits rest = (rest ≡ bytes) ⊎ ((raw : List ℕ) × IsSpelled bytes name raw rest × (fits raw ≡ true))

-- '<?xml' version (encoding)? (standalone)? S? '?>' (XMLDecl), with version 1.0 and encoding UTF-8
pub record IsGood (bytes : List ℕ) : Type 0 where
  pub items : List ℕ
  pub after_version : List ℕ
  pub after_encoding : List ℕ
  pub after_standalone : List ℕ
  pub space : List ℕ
  pub bytes_are : bytes ≡ codes "<?xml" ++ items
  pub version : IsSpelled items (codes "version") (codes "1.0") after_version
  pub encoding : MaySpell after_version (codes "encoding") is_utf8_label after_encoding
  pub standalone : MaySpell after_encoding (codes "standalone") is_yes_or_no after_standalone
  pub end_is : after_standalone ≡ space ++ codes "?>"
  pub space_white : are_white space ≡ true

-- bytes spell items `name = 'value'`, and one of them is an encoding other than UTF-8
pub data HasOther : List ℕ → Type 0 where
  here : (bytes raw rest : List ℕ) → IsSpelled bytes (codes "encoding") raw rest → is_utf8_label raw ≡ false → HasOther bytes
  later : (bytes name raw rest : List ℕ) → IsSpelled bytes name raw rest → HasOther rest → HasOther bytes

-- ---- reading

abbrev pub is_other : Spelled → Bool
is_other s = bytes_eq s.name (codes "encoding") && not (is_utf8_label s.raw)

abbrev pub found_other : Option Spelled → (List ℕ → Bool) → Bool
found_other None more = false
found_other (Some s) more = is_other s || more s.rest

-- some encoding other than UTF-8, among fewer items than a number
abbrev pub other_within : ℕ → List ℕ → Bool
other_within zero bs = false
other_within (suc k) bs = found_other (spelled_at bs) (λ rest. other_within k rest)

unfoldable pub has_other : List ℕ → Bool
has_other bs = other_within (suc (length bs)) bs

abbrev pub fitting : List ℕ → (List ℕ → Bool) → Spelled → Option (List ℕ)
fitting name fits s = if bytes_eq s.name name && fits s.raw then Some s.rest else None

-- what is behind an item with this name and a value that fits
abbrev pub item_at : List ℕ → (List ℕ → Bool) → List ℕ → Option (List ℕ)
item_at name fits bs = option_and_then (fitting name fits) (spelled_at bs)

-- the same, or all where there is none
abbrev pub optional_at : List ℕ → (List ℕ → Bool) → List ℕ → List ℕ
optional_at name fits bs = unwrap_or (item_at name fits bs) bs

abbrev pub is_closed : List ℕ → Bool
is_closed bs = bytes_eq (following is_white bs) (codes "?>")

abbrev pub is_good_after : Option (List ℕ) → Bool
is_good_after None = false
is_good_after (Some bs) = is_closed (optional_at (codes "standalone") is_yes_or_no (optional_at (codes "encoding") is_utf8_label bs))

-- behind `<?xml`
unfoldable pub is_good : List ℕ → Bool
is_good bs = is_good_after (item_at (codes "version") is_one_zero bs)

abbrev pub declared : List ℕ → Declaration
declared bs = if has_other bs then Encoding else (if is_good bs then Good else NotWellFormed)

-- What a declaration comes to. An encoding other than UTF-8 is told wherever it stands before the first departure from
-- the form `name = 'value'`.
unfoldable pub declaration_of : List ℕ → Declaration
declaration_of bytes = if bytes_eq (take 5 bytes) (codes "<?xml") then declared (drop 5 bytes) else NotWellFormed
