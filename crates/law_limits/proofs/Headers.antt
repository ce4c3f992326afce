-- The header of a client's stream.
use Rattle.std.proofs.Common.{◌≡◌, ℕ, ◌+◌, ◌≤◌, List, [], ◌∷◌, ◌++◌, length, codes, refl, arith, length-append}
use Rattle.cl_login.specs.LoginRows.{client_header}
use Rattle.xml_framer.specs.Limits.{server_limits}
use Rattle.law_xml.specs.Fitting.{HeaderFits}
use Rattle.law_xml.specs.Plain.{IsPlainHeader}
use Rattle.xml_names.proofs.SpelledLengths.{value_short}
use Rattle.law_limits.specs.Bounds.{IsTextWithin, most_part}
use Rattle.law_limits.proofs.Ascii.{printable_IsCharacters}
use Rattle.xml_tokens.specs.Spelling.{spelled_value, text_byte, value_byte}
use Rattle.xml_writer.specs.Canon.{assignment, spelled, written_header}

pub header_plain : (domain : List ℕ) → IsTextWithin most_part domain → IsPlainHeader (client_header domain)
header_plain domain h = record { to = h.characters; from = tt; id = tt; version = printable_IsCharacters (codes "1.0") refl; lang = tt }

given_long : (value following : List ℕ) → length (assignment (spelled (codes "to") value) ++ following) ≡ 6 + length (spelled_value value) + length following
unfolding assignment
given_long value following =
    omega (arith, length-append (spelled_value value ++ (39 ∷ [])) following, length-append (spelled_value value) (39 ∷ []))

after_long : length (assignment (spelled (codes "version") (codes "1.0")) ++ codes " xmlns='jabber:client' xmlns:stream='http://etherx.jabber.org/streams'>") ≡ 85
unfolding assignment value_byte text_byte
after_long = refl

pub header_short : (domain : List ℕ) → IsTextWithin most_part domain → length (written_header (client_header domain)) ≤ 65536
header_short domain h =
    let following = assignment (spelled (codes "version") (codes "1.0")) ++ codes " xmlns='jabber:client' xmlns:stream='http://etherx.jabber.org/streams'>" in
    let short = h.short in
    omega (arith, given_long domain following, after_long, value_short domain, short)

pub header_fits : (domain : List ℕ) → IsTextWithin most_part domain → HeaderFits server_limits (client_header domain)
unfolding text_byte value_byte
header_fits domain h = record { short = header_short domain h; attributes = omega arith; declared = (omega arith, (omega arith, tt)) }
