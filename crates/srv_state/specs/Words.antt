-- An element is read before a row looks at it (XEP-0198, sections 3 to 5; RFC 6120, sections 6 and 8).
use Rattle.std.specs.Prelude.{ℕ, nat_lt, Bool, ◌||◌, if◌then◌else◌, Result, Ok, Err, codes, length}
use Rattle.im_bad_fields.specs.BadFields.{has_bad_management_field, has_bad_sasl_field}
use Rattle.im_extensions.specs.Readings.{resumption_read}
use Rattle.im_extensions.specs.StreamManagement.{ack_read, enable_read, is_management}
use Rattle.im_payload.specs.declared.fault.ExtFault.{ExtFault}
use Rattle.im_login.specs.Sasl.{is_sasl}
use Rattle.srv_state.specs.declared.limits.TheConstants.{MOST_STANZA_BYTES}
use Rattle.srv_state.specs.declared.word.Word.{Word}
use Rattle.srv_state.specs.declared.word.Word.TheVariants as word
use Rattle.im_stanza.specs.Names.{client_ns, streams_ns}
use Rattle.im_stanza.specs.Readings.{stanza_of}
use Rattle.xml_trees.specs.Readers.{is_named}
use Rattle.xml_trees.specs.Trees.{Elem}
use Rattle.xml_writer.specs.Canon.{canon}

-- ---- stanzas

abbrev pub is_stanza : Elem → Bool
is_stanza e = is_named client_ns (codes "message") e || (is_named client_ns (codes "presence") e || is_named client_ns (codes "iq") e)

abbrev pub is_long : Elem → Bool
is_long e = nat_lt MOST_STANZA_BYTES (length (canon e))

-- ---- SASL, a stream error, and all else

abbrev pub is_stream_error : Elem → Bool
is_stream_error e = is_named streams_ns (codes "error") e

abbrev pub other_word : Elem → Word
other_word e = if is_stream_error e then word.StreamError else word.Other

-- a field of the element is bad
unfoldable pub is_bad_sasl : Elem → Bool
is_bad_sasl e = has_bad_sasl_field e

unfoldable pub sasl_word : Elem → Word
sasl_word e =
    if is_sasl (codes "auth") e then word.Auth e (is_bad_sasl e)
    else (if is_sasl (codes "response") e then word.Response e (is_bad_sasl e)
    else (if is_sasl (codes "abort") e then word.Abort
    else (if is_bad_sasl e then word.BadField else other_word e)))

-- ---- stream management

-- what is read, or else another word
abbrev pub if_read : {V : Type 0} → (V → Word) → Result V ExtFault → Word → Word
if_read word (Ok v) next = word v
if_read word (Err why) next = next

unfoldable pub is_bad_management : Elem → Bool
is_bad_management e = has_bad_management_field e

unfoldable pub resume_word : Elem → Word
resume_word e = if_read (λ v. word.Resume v.0 v.1) (resumption_read (codes "resume") e) (sasl_word e)

unfoldable pub management_word : Elem → Word
management_word e =
    if_read (λ v. word.Enable v.resume) (enable_read e)
    (if is_management (codes "r") e then word.Request
    else (if_read (λ v. word.Ack v.h) (ack_read e) (resume_word e)))

-- ---- any element

unfoldable pub word_of : Elem → Word
word_of e =
    if is_stanza e then word.Stanza (is_long e) (stanza_of e)
    else (if is_bad_management e then word.BadField else management_word e)
