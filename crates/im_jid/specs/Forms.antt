-- The normal form of each part of an address, or why it has none. Of one part an empty one is refused first, then
-- what breaks the part's own rule, then what is too long in normal form.
use Rattle.std.specs.Prelude.{ℕ, ◌-◌, Bool, not, ◌&&◌, ◌||◌, ◌==◌, nat_le, List, map, length, take, slice_index, codes, chars, encode_utf8_all, Option, Some, None, Result, Ok, Err, if◌then◌else◌}
use Rattle.std.specs.Char.{to_ascii_lowercase}
use Rattle.std.specs.Int.{is_in_range}
use Rattle.std.specs.List.{list_all, list_any}
use Rattle.std.specs.Str.{all_scalars}
use Rattle.idna.specs.Uts46.{domain_to_ascii}
use Rattle.idna.specs.declared.deny_list.TheConstants.AsciiDenyList.{STD3}
use Rattle.unicode_normalization.specs.Forms.{nfc}
use Rattle.im_jid.specs.declared.fault.JidFault.{JidFault}
use Rattle.im_jid.specs.declared.fault.JidFault.TheVariants.{Empty, BadLocal, BadDomain, BadResource, TooLong}

-- a part in normal form has at most 1,023 bytes (RFC 7622 sections 3.2 to 3.4)
abbrev pub fitting : List ℕ → Result (List ℕ) JidFault
fitting part = if nat_le (length part) 1023 then Ok part else Err TooLong

-- printable ASCII without space and without `"&'/:<>@` (RFC 7622 section 3.3.1, in the range of ASCII)
abbrev pub is_local_byte : ℕ → Bool
is_local_byte b = is_in_range 0x21 0x7E b && not (list_any (λ x. x == b) (codes "\"&'/:<>@"))

-- The local part, in lower case.
abbrev pub local_form : List ℕ → Result (List ℕ) JidFault
local_form given =
    if length given == 0 then Err Empty
    else (if list_all is_local_byte given then fitting (map to_ascii_lowercase given) else Err BadLocal)

abbrev pub ends_in_dot : List ℕ → Bool
ends_in_dot name = slice_index name (length name - 1) == 46

-- without one full stop at the end (RFC 7622 section 3.2)
abbrev pub less_dot : List ℕ → List ℕ
less_dot given = if ends_in_dot given then take (length given - 1) given else given

-- an ASCII form that is empty or ends in a full stop is no domain
abbrev pub whole_domain : Option (List ℕ) → Result (List ℕ) JidFault
whole_domain None = Err BadDomain
whole_domain (Some ascii) = if (length ascii == 0) || ends_in_dot ascii then Err BadDomain else fitting ascii

-- The domain in its ASCII form: that of UTS 46 with the deny list STD3, of the domain less one trailing full stop.
abbrev pub domain_form : List ℕ → Result (List ℕ) JidFault
domain_form given = if length given == 0 then Err Empty else whole_domain (domain_to_ascii STD3 (less_dot given))

-- no control character of C0 or C1, and no DEL
abbrev pub is_resource_char : ℕ → Bool
is_resource_char c = nat_le 0x20 c && not (is_in_range 0x7F 0x9F c)

abbrev pub fits_resource : List ℕ → Bool
fits_resource characters = all_scalars characters && list_all is_resource_char characters

-- The resource in Unicode's normalization form C, without control characters (RFC 7622 section 3.4). `all_scalars`
-- asks only that the characters can be spelled in UTF-8.
abbrev pub resource_form : List ℕ → Result (List ℕ) JidFault
resource_form given =
    let characters = nfc (chars given) in
    if length given == 0 then Err Empty
    else (if fits_resource characters then fitting (encode_utf8_all characters) else Err BadResource)
