-- The spellings of an account's address that clients take for it. They are compared as the widest of the rules do that
-- clients follow: the local part without regard to case, width and other compatible forms (RFC 7622 section 3.3,
-- RFC 3454 table B.2), and without the characters that the older rule leaves out (RFC 3454 table B.1); the domain in
-- its ASCII form. The resource is not looked at.
use Rattle.std.specs.Prelude.{ℕ, Bool, true, false, ◌&&◌, ◌||◌, ◌==◌, List, [], flat_map, chars, encode_utf8, if◌then◌else◌, Option, Some, None, Result, Ok, Err}
use Rattle.std.specs.Int.{is_in_range}
use Rattle.std.specs.Str.{bytes_eq}
use Rattle.caseless.specs.Caseless.{compatibility_key}
use Rattle.im_jid.specs.declared.fault.JidFault.{JidFault}
use Rattle.im_jid.specs.Cuts.{local_of, domain_of}
use Rattle.im_jid.specs.Forms.{domain_form}

-- a character that is left out before two local parts are compared (RFC 3454 table B.1)
abbrev pub is_left_out : ℕ → Bool
is_left_out c =
    (c == 0xAD) || (c == 0x34F) || (c == 0x1806) || is_in_range 0x180B 0x180D c || is_in_range 0x200B 0x200D c || (c == 0x2060) || is_in_range 0xFE00 0xFE0F c || (c == 0xFEFF)

-- what is compared of a character, in UTF-8
abbrev pub kept_character : ℕ → List ℕ
kept_character c = if is_left_out c then [] else encode_utf8 c

abbrev pub kept_text : List ℕ → List ℕ
kept_text text = flat_map kept_character (chars text)

-- what two local parts share where a client takes one for the other (Unicode, D146)
abbrev pub local_key : List ℕ → List ℕ
local_key part = compatibility_key (chars (kept_text part))

abbrev pub is_same_local : Option (List ℕ) → Option (List ℕ) → Bool
is_same_local None None = true
is_same_local None (Some part) = false
is_same_local (Some part) None = false
is_same_local (Some part) (Some other) = bytes_eq (local_key part) (local_key other)

-- the form is this domain
abbrev pub is_form : List ℕ → Result (List ℕ) JidFault → Bool
is_form domain (Ok form) = bytes_eq form domain
is_form domain (Err e) = false

-- the text, up to its first `/`, is a spelling of the account's address
abbrev pub spells_account : List ℕ → List ℕ → Bool
spells_account account text = is_form (domain_of account) (domain_form (domain_of text)) && is_same_local (local_of text) (local_of account)
