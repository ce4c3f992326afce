-- What a server says of a login, and its header (RFC 6120, sections 4.7 and 6.4).
use Rattle.std.proofs.Common.{◌≡◌, ℕ, zero, suc, ◌+◌, ◌*◌, ◌/◌, ◌%◌, ◌<◌, ◌≤◌, nat_lt, Bool, true, ◌&&◌, List, [], ◌∷◌, ◌++◌, Some, codes, drop, length, replicate, refl, arith, ltb-true, length-append, subst}
use Rattle.std.proofs.lemmas.Bool.{and_from, and_parts}
use Rattle.std.proofs.lemmas.Bool.Decides.{nat_tests}
use Rattle.std.proofs.lemmas.List.Sums.{AllPass-from_list_all}
use Rattle.std.specs.List.{AllByRecursion, list_all}
use Rattle.std.specs.Prelude.{slice_index}
use Rattle.base64.specs.Engines.{standard}
use Rattle.base64.specs.GeneralPurpose.{encode_of}
use Rattle.base64.specs.Rfc4648.{encode_symbols, padding_len}
use Rattle.base_lemmas.specs.Hexadecimal.{hex16_of, hex_digits}
use Rattle.xml_framer.specs.Limits.{client_limits}
use Rattle.law_xml.specs.Fitting.{HeaderFits}
use Rattle.law_xml.specs.Plain.{IsPlainHeader}
use Rattle.law_xml.specs.Spells.{written_scope}
use Rattle.xml_names.specs.Grammar.{IsShort}
use Rattle.im_payload.specs.Names.{sasl}
use Rattle.law_limits.proofs.PutParts.{bounded_bare, bounded_element, no_attributes, other_space, reads, said_bounded, space, word}
use Rattle.law_limits.proofs.PutReplies.{bounded_around}
use Rattle.law_limits.specs.Bounded.{ClientReads, IsWord}
use Rattle.im_replies.specs.Streams.{hex_of, server_header, stream_id}
use Rattle.im_login.specs.Payloads.{base64_of}
use Rattle.im_login.specs.Sasl.{carrier, failure_of}
use Rattle.auth_scram.proofs.Base64.{length_of}
use Rattle.law_limits.proofs.Characters.{printable_append, said_append, said_printable, said_word}
use Rattle.law_limits.proofs.ElementSizes.{assignment_is}
use Rattle.law_limits.proofs.Numerals.{hex_length, hex_printable, said_hex}
use Rattle.law_limits.specs.Texts.{Said, is_printable, value_size}
use Rattle.im_stanza.specs.Names.{client_ns}
use Rattle.im_payload.proofs.Written.{after_text}
use Rattle.xml_tokens.specs.Spelling.{text_byte, value_byte}
use Rattle.xml_trees.proofs.TidyLaws.{tidied_IsTree}
use Rattle.xml_trees.specs.Tidied.{text_node}
use Rattle.xml_trees.specs.Trees.{element, no_nodes, IsTree}
use Rattle.xml_writer.specs.Canon.{written_given, written_header}

-- ---- base64

abbrev symbols : List ℕ
symbols = standard.encode_table

abbrev pub is_byte : ℕ → Bool
is_byte b = nat_lt b 256

symbol_printable : (i : ℕ) → i < 64 → is_printable (slice_index symbols i) ≡ true
symbol_printable i small = AllPass-from_list_all is_printable symbols refl i 0 small

symbols_printable : (m : List ℕ) → list_all is_byte m ≡ true → list_all is_printable (encode_symbols symbols m) ≡ true
unfolding encode_symbols
symbols_printable [] h = refl
symbols_printable (a ∷ []) h =
    let one = ltb-true a 256 (and_parts (is_byte a) true h).0 in
    and_from _ _ (symbol_printable (a / 4) (omega (arith, one))) (and_from _ _ (symbol_printable (a % 4 * 16) (omega arith)) refl)
symbols_printable (a ∷ b ∷ []) h =
    let p = and_parts (is_byte a) (is_byte b && true) h in
    let one = ltb-true a 256 p.0 in
    let two = ltb-true b 256 (and_parts (is_byte b) true p.1).0 in
    and_from _ _ (symbol_printable (a / 4) (omega (arith, one))) (and_from _ _ (symbol_printable (a % 4 * 16 + b / 16) (omega (arith, two))) (and_from _ _ (symbol_printable (b % 16 * 4) (omega arith)) refl))
symbols_printable (a ∷ b ∷ c ∷ rest) h =
    let p = and_parts (is_byte a) (is_byte b && (is_byte c && list_all is_byte rest)) h in
    let q = and_parts (is_byte b) (is_byte c && list_all is_byte rest) p.1 in
    let r = and_parts (is_byte c) (list_all is_byte rest) q.1 in
    let one = ltb-true a 256 p.0 in
    let two = ltb-true b 256 q.0 in
    let three = ltb-true c 256 r.0 in
    and_from _ _ (symbol_printable (a / 4) (omega (arith, one)))
    (and_from _ _ (symbol_printable (a % 4 * 16 + b / 16) (omega (arith, two)))
    (and_from _ _ (symbol_printable (b % 16 * 4 + c / 64) (omega (arith, three))) (and_from _ _ (symbol_printable (c % 64) (omega arith)) (symbols_printable rest r.1))))

padding_printable : (n : ℕ) → list_all is_printable (replicate n 61) ≡ true
padding_printable zero = refl
padding_printable (suc n) = padding_printable n

pub base64_printable : (m : List ℕ) → list_all is_byte m ≡ true → list_all is_printable (encode_of standard m) ≡ true
base64_printable m h = printable_append (encode_symbols symbols m) (replicate (padding_len (length m)) 61) (symbols_printable m h) (padding_printable (padding_len (length m)))

pub base64_short : (m : List ℕ) → length (encode_of standard m) ≤ 2 * length m + 4
base64_short m = let long = length_of m in omega (arith, long)

printable_byte : (b : ℕ) → is_printable b ≡ true → is_byte b ≡ true
printable_byte b h = grind (arith, nat_tests)

pub printable_bytes : (t : List ℕ) → list_all is_printable t ≡ true → list_all is_byte t ≡ true
printable_bytes [] h = refl
printable_bytes (b ∷ t) h = let p = and_parts (is_printable b) (list_all is_printable t) h in and_from _ _ (printable_byte b p.0) (printable_bytes t p.1)

-- ---- SASL (RFC 6120, section 6.4)

pub carrier_read : (name payload : List ℕ) → IsWord name → list_all is_byte payload ≡ true → length payload ≤ 200000 → ClientReads (carrier name payload)
unfolding base64_of sasl
carrier_read name payload w bytes short =
    let given = encode_of standard payload in
    let long = base64_short payload in
    let said = said_printable 2500000 given (base64_printable payload bytes) (omega (arith, long, short)) in
    reads (carrier name payload) 1 (0 + 2500000 + 400) (subst IsTree (λ i. element sasl name [] (after_text given i)) (tidied_IsTree (carrier name payload)))
    (bounded_element client_ns sasl name [] (text_node given) 0 0 0 2500000 (space sasl refl) w no_attributes (omega arith) (said_bounded _ given 2500000 said)) (other_space sasl name refl) (omega arith) (omega arith)

pub failure_read : (condition : List ℕ) → IsWord condition → ClientReads (failure_of condition)
unfolding sasl
failure_read condition w =
    reads (failure_of condition) 2 800 (tidied_IsTree (failure_of condition))
    (bounded_around client_ns sasl (codes "failure") 1 400 (element sasl condition [] no_nodes) (space sasl refl) (word (codes "failure") refl) (bounded_bare _ sasl condition (space sasl refl) w)) (other_space sasl (codes "failure") refl)
    (omega arith) (omega arith)

-- ---- the header (RFC 6120, section 4.7)

hex_said : (bs : List ℕ) → list_all is_printable (hex_of bs) ≡ true
hex_said [] = refl
hex_said (b ∷ bs) = printable_append (hex_digits 2 b) (hex_of bs) (hex_printable 2 b) (hex_said bs)

hex_long : (bs : List ℕ) → length (hex_of bs) ≡ 2 * length bs
hex_long [] = refl
hex_long (b ∷ bs) = let one = hex_length 2 b in let rest = hex_long bs in omega (arith, one, rest, length-append (hex_digits 2 b) (hex_of bs))

pub stream_id_said : (k : ℕ) (entropy : List ℕ) → length (drop 18 entropy) ≤ 1000 → Said 12096 (stream_id k entropy)
stream_id_said k entropy short =
    let long = hex_long (drop 18 entropy) in
    said_append 12000 96 12096 (hex_of (drop 18 entropy)) (hex16_of k) (said_printable 12000 (hex_of (drop 18 entropy)) (hex_said (drop 18 entropy)) (omega (arith, long, short))) (said_hex k) (omega arith)

pub header_plain : (domain id : List ℕ) (m n : ℕ) → Said m domain → Said n id → IsPlainHeader (server_header domain id)
header_plain domain id m n h k =
    record { to = tt; from = h.characters; id = k.characters; version = (said_word 60 (codes "1.0") refl refl).characters; lang = (said_word 60 (codes "en") refl refl).characters }

given_is : (name value : List ℕ) → length (written_given name (Some value)) ≡ 4 + length name + value_size value
given_is name value = assignment_is name value

header_short : (domain id : List ℕ) → value_size domain ≤ 6138 → value_size id ≤ 12096 → length (written_header (server_header domain id)) ≤ 4194304
header_short domain id a b =
    let from = written_given (codes "from") (Some domain) in
    let own = written_given (codes "id") (Some id) in
    let version = written_given (codes "version") (Some (codes "1.0")) in
    let lang = written_given (codes "xml:lang") (Some (codes "en")) in
    let end = codes " xmlns='jabber:client' xmlns:stream='http://etherx.jabber.org/streams'>" in
    let c = given_is (codes "from") domain in
    let d = given_is (codes "id") id in
    let e = given_is (codes "version") (codes "1.0") in
    let f = given_is (codes "xml:lang") (codes "en") in
    let g = (said_word 60 (codes "1.0") refl refl).short in
    let h = (said_word 60 (codes "en") refl refl).short in
    omega (
      arith,
      a,
      b,
      c,
      d,
      e,
      f,
      g,
      h,
      length-append (codes "<stream:stream") (from ++ (own ++ ([] ++ (version ++ (lang ++ end))))),
      length-append from (own ++ ([] ++ (version ++ (lang ++ end)))),
      length-append own (version ++ (lang ++ end)),
      length-append version (lang ++ end),
      length-append lang end,
    )

declared_short : AllByRecursion (IsShort 255) written_scope
unfolding value_byte text_byte
declared_short = (omega arith, (omega arith, tt))

pub header_fits : (domain id : List ℕ) → Said 6138 domain → Said 12096 id → HeaderFits client_limits (server_header domain id)
header_fits domain id h k = record { short = header_short domain id h.short k.short; attributes = omega arith; declared = declared_short }
