-- The judgement of a stream's header (RFC 6120, sections 4.7, 4.8 and 4.9.3).
use Rattle.std.specs.Prelude.{ℕ, ◌==◌, nat_le, nat_lt, Bool, true, not, ◌&&◌, if◌then◌else◌, List, [], Option, Some, None, codes, length, unwrap_or}
use Rattle.std.specs.Char.{is_ascii_digit}
use Rattle.std.specs.List.{after_first, before_first, list_all, position_or_len}
use Rattle.std.specs.Str.{bytes_eq}
use Rattle.std.specs.Str.Parse.{digits_value}
use Rattle.im_jid.specs.Normal.{normal}
use Rattle.srv_login.specs.Accounts.{is_form}
use Rattle.srv_login.specs.declared.header_judgement.HeaderAnswer.{HeaderAnswer}
use Rattle.srv_login.specs.declared.header_judgement.HeaderAnswer.TheVariants.{Opens, Refused}
use Rattle.srv_login.specs.declared.header_judgement.HeaderFault.{HeaderFault}
use Rattle.srv_login.specs.declared.header_judgement.HeaderFault.TheVariants.{InvalidNamespace, UnsupportedVersion, HostUnknown}
use Rattle.xml_names.specs.declared.headers.Header.{Header}
use Rattle.im_stanza.specs.Names.{client_ns, streams_ns}

-- a root that opens a stream between a client and its server (section 4.8)
abbrev pub is_of_client : Header → Bool
is_of_client h = bytes_eq h.ns streams_ns && (bytes_eq h.name (codes "stream") && bytes_eq h.content client_ns)

abbrev pub is_dot : ℕ → Bool
is_dot b = b == 46

abbrev pub has_dot : List ℕ → Bool
has_dot text = nat_lt (position_or_len is_dot text) (length text)

-- a number: one or more digits
abbrev pub are_digits : List ℕ → Bool
are_digits text = nat_lt 0 (length text) && list_all is_ascii_digit text

-- the number of a major version is 1 or more
abbrev pub is_major : List ℕ → Bool
is_major text = are_digits text && nat_le 1 (digits_value 10 text)

-- two numbers with a dot between them, the major one at least 1 (section 4.7.5)
abbrev pub is_version : List ℕ → Bool
is_version text = has_dot text && (is_major (before_first is_dot text) && are_digits (after_first is_dot text))

-- an absent version is none that is supported
abbrev pub has_version : Header → Bool
has_version h = is_version (unwrap_or h.version [])

-- the domain is the one that is addressed, which may be left out
abbrev pub is_host : List ℕ → Option (List ℕ) → Bool
is_host domain None = true
is_host domain (Some to) = is_form (normal to) domain

-- the stream opens, or the condition of the stream error
abbrev pub header_answer : List ℕ → Header → HeaderAnswer
header_answer domain h =
    if not (is_of_client h) then Refused InvalidNamespace
    else (if not (has_version h) then Refused UnsupportedVersion
    else (if not (is_host domain h.to) then Refused HostUnknown
    else Opens))

-- the name of the condition's element (section 4.9.3)
abbrev pub condition_name : HeaderFault → List ℕ
condition_name InvalidNamespace = codes "invalid-namespace"
condition_name UnsupportedVersion = codes "unsupported-version"
condition_name HostUnknown = codes "host-unknown"
