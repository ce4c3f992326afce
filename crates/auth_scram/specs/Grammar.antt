-- The grammar of SCRAM's messages (RFC 5802, section 7), as relations over lists of bytes. Channel binding isn't
-- offered, and no mandatory extension is known: an `m=` is in no message.
use Rattle.std.specs.Prelude.{◌≡◌, ℕ, ◌<◌, ◌==◌, nat_le, Bool, true, false, ◌&&◌, ◌||◌, not, List, [], ◌∷◌, ◌++◌, Option, Some, None, IsTrue, length, codes, if◌then◌else◌}
use Rattle.std.specs.List.{AllByRecursion, flat_map, list_all}
use Rattle.std.specs.Str.{IsUtf8}
use Rattle.base64.specs.Engines.{standard}
use Rattle.base64.specs.GeneralPurpose.{IsBytes, encode_of}
use Rattle.auth_scram.specs.Classes.{is_within, is_printable, is_letter, is_digit, is_count_start, is_binding, is_value_ascii}
use Rattle.auth_scram.specs.Values.{value_of}
use Rattle.auth_scram.specs.declared.binding_flag.BindingFlag.{BindingFlag}
use Rattle.auth_scram.specs.declared.binding_flag.BindingFlag.TheVariants.{Unsupported, NotOffered}
use Rattle.auth_scram.specs.declared.values.Until.{Until}
use Rattle.auth_scram.specs.declared.values.Until.TheVariants.{End, Proof}

-- one or more bytes of a class
abbrev pub are_some : (ℕ → Bool) → List ℕ → Bool
are_some is [] = false
are_some is (b ∷ bytes) = is b && list_all is bytes

-- nonce: one or more printable
abbrev pub is_nonce : List ℕ → Bool
is_nonce text = are_some is_printable text

abbrev pub IsNonce : List ℕ → Type 0
IsNonce text = IsTrue (is_nonce text)

-- a byte of a value-char: a value-char is a character of UTF-8 (RFC 3629) but U+0000 and the comma
abbrev pub is_value_byte : ℕ → Bool
is_value_byte b = is_value_ascii b || nat_le 128 b

-- value: one or more value-char
pub record IsValue (text : List ℕ) : Type 0 where
  pub some : 0 < length text
  pub utf8 : IsUtf8 text
  pub bytes : IsTrue (list_all is_value_byte text)

-- a byte of a character of a name: any of UTF-8 but U+0000
abbrev pub is_name_byte : ℕ → Bool
is_name_byte b = is_within 1 127 b || nat_le 128 b

-- a comma is spelled `=2C`, an equals sign `=3D`
abbrev pub escaped_byte : ℕ → List ℕ
escaped_byte b = if b == 44 then codes "=2C" else (if b == 61 then codes "=3D" else b ∷ [])

abbrev pub escaped : List ℕ → List ℕ
escaped name = flat_map escaped_byte name

-- saslname: one or more of value-safe-char, `=2C` and `=3D`
pub record IsName (name text : List ℕ) : Type 0 where
  pub some : 0 < length name
  pub utf8 : IsUtf8 name
  pub bytes : IsTrue (list_all is_name_byte name)
  pub spelled : text ≡ escaped name

-- posit-number: a digit that is no 0, and digits
abbrev pub is_count : List ℕ → Bool
is_count [] = false
is_count (d ∷ digits) = is_count_start d && list_all is_digit digits

-- the name of an extension: a letter but `m`, and in front of a proof but `p`
abbrev pub names_extension : Until → ℕ → Bool
names_extension End b = is_letter b && not (b == 109)
names_extension Proof b = is_letter b && not (b == 109) && not (b == 112)

-- attr-val: the name of an extension, `=`, and a value
pub record IsExtension (until : Until) (text : List ℕ) : Type 0 where
  pub letter : ℕ
  pub value : List ℕ
  pub named : IsTrue (names_extension until letter)
  pub valued : IsValue value
  pub spelled : text ≡ letter ∷ 61 ∷ value

-- any number of extensions, each behind a comma
abbrev pub AreExtensions : Until → List ℕ → Type 0
AreExtensions until text = (each : List (List ℕ)) × AllByRecursion (IsExtension until) each × (text ≡ flat_map (λ extension. 44 ∷ extension) each)

-- gs2-cbind-flag; none where it is `p`
abbrev pub IsFlag : Option BindingFlag → List ℕ → Type 0
IsFlag (Some Unsupported) text = text ≡ codes "n"
IsFlag (Some NotOffered) text = text ≡ codes "y"
IsFlag None text = (binding : List ℕ) × IsTrue (are_some is_binding binding) × (text ≡ codes "p=" ++ binding)

-- an authorization identity, or nothing
abbrev pub IsAuthzid : Bool → List ℕ → Type 0
IsAuthzid true text = (name : List ℕ) × (spelled : List ℕ) × IsName name spelled × (text ≡ codes "a=" ++ spelled)
IsAuthzid false text = text ≡ []

-- client-first-message-bare
pub record IsBare (name nonce bare : List ℕ) : Type 0 where
  pub name_text : List ℕ
  pub extensions : List ℕ
  pub named : IsName name name_text
  pub random : IsNonce nonce
  pub extended : AreExtensions End extensions
  pub spelled : bare ≡ codes "n=" ++ name_text ++ codes ",r=" ++ nonce ++ extensions

-- client-first-message: the GS2 header and the bare message
pub record IsClientFirst (flag : Option BindingFlag) (authorizes : Bool) (name nonce bare bytes : List ℕ) : Type 0 where
  pub flag_text : List ℕ
  pub authzid_text : List ℕ
  pub flagged : IsFlag flag flag_text
  pub identified : IsAuthzid authorizes authzid_text
  pub said : IsBare name nonce bare
  pub spelled : bytes ≡ flag_text ++ codes "," ++ authzid_text ++ codes "," ++ bare

-- server-first-message
pub record IsServerFirst (nonce salt : List ℕ) (count : ℕ) (bytes : List ℕ) : Type 0 where
  pub digits : List ℕ
  pub extensions : List ℕ
  pub random : IsNonce nonce
  pub salted : IsBytes salt
  pub counted : IsTrue (is_count digits) × (count ≡ value_of digits)
  pub extended : AreExtensions End extensions
  pub spelled : bytes ≡ codes "r=" ++ nonce ++ codes ",s=" ++ encode_of standard salt ++ codes ",i=" ++ digits ++ extensions

-- the GS2 header of a client that asks for no channel binding and no authorization identity
abbrev pub gs2_header : BindingFlag → List ℕ
gs2_header Unsupported = codes "n,,"
gs2_header NotOffered = codes "y,,"

-- client-final-message, where the client's first message had this flag. The proof is its last attribute, and the one that
-- is named `p`
pub record IsClientFinal (flag : BindingFlag) (without_proof nonce proof bytes : List ℕ) : Type 0 where
  pub extensions : List ℕ
  pub random : IsNonce nonce
  pub extended : AreExtensions Proof extensions
  pub front : without_proof ≡ codes "c=" ++ encode_of standard (gs2_header flag) ++ codes ",r=" ++ nonce ++ extensions
  pub proved : IsBytes proof
  pub spelled : bytes ≡ without_proof ++ codes ",p=" ++ encode_of standard proof

pub record IsServerVerifier (verifier bytes : List ℕ) : Type 0 where
  pub extensions : List ℕ
  pub verified : IsBytes verifier
  pub extended : AreExtensions End extensions
  pub spelled : bytes ≡ codes "v=" ++ encode_of standard verifier ++ extensions

pub record IsServerError (bytes : List ℕ) : Type 0 where
  pub error : List ℕ
  pub extensions : List ℕ
  pub valued : IsValue error
  pub extended : AreExtensions End extensions
  pub spelled : bytes ≡ codes "e=" ++ error ++ extensions

-- server-final-message: a verifier, or none where it tells an error
abbrev pub IsServerFinal : Option (List ℕ) → List ℕ → Type 0
IsServerFinal (Some verifier) bytes = IsServerVerifier verifier bytes
IsServerFinal None bytes = IsServerError bytes

-- the messages, whatever they say

abbrev pub InClientFirst : List ℕ → Type 0
InClientFirst bytes =
    (flag : Option BindingFlag) × (authorizes : Bool) × (name : List ℕ) × (nonce : List ℕ) × (bare : List ℕ) × IsClientFirst flag authorizes name nonce bare bytes

abbrev pub InServerFirst : List ℕ → Type 0
InServerFirst bytes = (nonce : List ℕ) × (salt : List ℕ) × (count : ℕ) × IsServerFirst nonce salt count bytes

abbrev pub InClientFinal : BindingFlag → List ℕ → Type 0
InClientFinal flag bytes = (without_proof : List ℕ) × (nonce : List ℕ) × (proof : List ℕ) × IsClientFinal flag without_proof nonce proof bytes

abbrev pub InServerFinal : List ℕ → Type 0
InServerFinal bytes = (verifier : Option (List ℕ)) × IsServerFinal verifier bytes
