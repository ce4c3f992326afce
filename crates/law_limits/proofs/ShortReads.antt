-- What is read of a plain element with short texts is plain and short.
use Rattle.std.proofs.Common.{◌≡◌, ℕ, ◌≤◌, Bool, true, false, cond, List, [], ◌∷◌, ◌++◌, codes, length, unwrap_or, Option, Some, None, IfSome, Result, Ok, Err, refl, sym, ap, ◌∙◌, subst, arith, length-append, if◌then◌else◌}
use Rattle.std.proofs.lemmas.Str.{IsUtf8-append, IsUtf8-nil}
use Rattle.std.proofs.lemmas.Bool.{leb-true}
use Rattle.std.specs.Char.{to_ascii_lowercase}
use Rattle.std.specs.List.{AllByRecursion, list_all}
use Rattle.std.specs.Option.{option_map}
use Rattle.std.specs.Prelude.{◌^◌, ◌==◌, ◌||◌, nat_le, map, chars, encode_utf8_all}
use Rattle.std.specs.Str.{IsUtf8, bytes_eq}
use Rattle.base64.proofs.EngineFacts.{decode_of_strict}
use Rattle.base64.specs.Engines.{standard}
use Rattle.base64.specs.GeneralPurpose.{decode_of, encode_of}
use Rattle.base64.specs.declared.decode.DecodeError.{DecodeError}
use Rattle.auth_primitives.proofs.GroupRuns.{more_text, one_text, two_text}
use Rattle.auth_primitives.proofs.TextRuns.{IsBytes-from_utf8}
use Rattle.law_limits.specs.Answerable.{IsAnswerable}
use Rattle.law_limits.specs.Short.{AreShort, IsShort, IsShortValue}
use Rattle.im_extensions.specs.Readings.{enabled_read, enabled_with}
use Rattle.im_extensions.specs.StreamManagement.{is_management}
use Rattle.im_extensions.specs.declared.stream_management.Enabled.{Enabled}
use Rattle.im_extensions.specs.declared.forwarding.Forwarded.{Forwarded}
use Rattle.im_extensions.specs.ForwardReadings.{forward_read}
use Rattle.im_extensions.specs.Forwarding.{the_forwarded}
use Rattle.law_xml.specs.Plain.{ArePlainNodes, IsPlainAttribute, IsPlainElement}
use Rattle.im_jid.specs.Cuts.{domain_of, local_of, resource_of}
use Rattle.idna.specs.Uts46.{domain_to_ascii}
use Rattle.idna.specs.declared.deny_list.TheConstants.AsciiDenyList.{STD3}
use Rattle.unicode_normalization.specs.Forms.{nfc}
use Rattle.im_jid.specs.Forms.{domain_form, ends_in_dot, fits_resource, fitting, is_local_byte, less_dot, local_form, resource_form, whole_domain}
use Rattle.im_jid.specs.Normal.{after_slash, followed_by_at, joined, local_front, normal, resource_back}
use Rattle.im_jid.specs.declared.fault.JidFault.{JidFault}
use Rattle.im_jid.specs.declared.fault.JidFault.TheVariants.{BadDomain, BadLocal, BadResource, Empty, TooLong}
use Rattle.im_mam.specs.ArchiveAnswers.{is_result}
use Rattle.im_mam.specs.Readings.{result_read, result_with}
use Rattle.im_mam.specs.declared.archive_answers.MamResult.{MamResult}
use Rattle.im_payload.specs.Names.{archive}
use Rattle.im_payload.specs.Readings.{where_this}
use Rattle.im_payload.specs.Shapes.{attr_or_empty, optional_number}
use Rattle.im_payload.specs.declared.fault.ExtFault.{ExtFault}
use Rattle.law_limits.proofs.Ascii.{printable_IsCharacters}
use Rattle.law_limits.specs.Bounds.{IsTextWithin, most_address, most_id}
use Rattle.im_login.specs.Readings.{carrier_read, decoded, payload_read}
use Rattle.im_login.specs.Sasl.{is_sasl}
use Rattle.im_stanza.proofs.ReadingLaws.{iq_law, message_law}
use Rattle.im_stanza.specs.Kinds.{answers_iq}
use Rattle.im_stanza.specs.Readings.{stanza_of}
use Rattle.im_stanza.specs.Stanzas.{IsAddressOf, attr_named}
use Rattle.im_stanza.specs.Views.{IqView, MessageView}
use Rattle.im_stanza.specs.declared.stanzas.Stanza.TheVariants.{Iq, Message}
use Rattle.xml_tokens.specs.Lines.{IsCharacters}
use Rattle.xml_trees.specs.Attributes.{Attribute, found, has_name}
use Rattle.xml_trees.specs.Readers.{attr_of, first_named, is_named, text_of}
use Rattle.xml_trees.specs.Trees.{Elem, Nodes, child, element, no_nodes, nodes_of, text}

-- ---- attributes

found_within : (ns name : List ℕ) (attrs : List Attribute) → AllByRecursion IsPlainAttribute attrs → AllByRecursion IsShortValue attrs → IfSome (option_map (λ (a : Attribute). a.value) (found ns name attrs)) (IsTextWithin most_id)
found_within ns name [] plain short = tt
found_within ns name (a ∷ more) plain short = by_case (has_name ns name a) (found_within ns name more plain.1 short.1)
  where
    by_case : (c : Bool) → IfSome (option_map (λ (x : Attribute). x.value) (found ns name more)) (IsTextWithin most_id) → IfSome (option_map (λ (x : Attribute). x.value) (cond c (Some a) (found ns name more))) (IsTextWithin most_id)
    by_case true rest = record { characters = plain.0.value; short = short.0 }
    by_case false rest = rest

attribute_within : (ns name : List ℕ) (e : Elem) → IsPlainElement e → IsShort e → IfSome (attr_of ns name e) (IsTextWithin most_id)
attribute_within ns name (element ns' name' attrs kids) plain short = found_within ns name attrs plain.1 short.0

nothing_within : IsTextWithin most_id []
nothing_within = record { characters = printable_IsCharacters [] refl; short = omega arith }

or_empty_within : (o : Option (List ℕ)) → IfSome o (IsTextWithin most_id) → IsTextWithin most_id (unwrap_or o [])
or_empty_within None h = nothing_within
or_empty_within (Some t) h = h

some_within : (o : Option (List ℕ)) (t : List ℕ) → IfSome o (IsTextWithin most_id) → o ≡ Some t → IsTextWithin most_id t
some_within o t h is = subst (λ p. IfSome p (IsTextWithin most_id)) is h

-- ---- children

record IsBounded (e : Elem) : Type 0 where
  plain : IsPlainElement e
  short : IsShort e

child_bounded : (ns name : List ℕ) (ks : Nodes) (given : Elem) → ArePlainNodes ks → AreShort ks → first_named ns name ks ≡ Some given → IsBounded given
child_bounded ns name no_nodes given plain short is = cc is
child_bounded ns name (child e rest) given plain short is = by_case (is_named ns name e) (child_bounded ns name rest given plain.1 short.1) is
  where
    by_case : (c : Bool) → (first_named ns name rest ≡ Some given → IsBounded given) → (if c then Some e else first_named ns name rest) ≡ Some given → IsBounded given
    by_case true later same = let here : e ≡ given = cc in subst IsBounded here (record { plain = plain.0; short = short.0 })
    by_case false later same = later same
child_bounded ns name (text t rest) given plain short is = child_bounded ns name rest given plain.1 short is

in_nodes : (ns name : List ℕ) (e given : Elem) → IsPlainElement e → IsShort e → first_named ns name (nodes_of e) ≡ Some given → IsBounded given
in_nodes ns name (element ns' name' attrs kids) given plain short is = child_bounded ns name kids given plain.2 short.2 is

-- ---- ids

session_within : (e : Elem) (v : Enabled) → IsPlainElement e → IsShort e → enabled_read e ≡ Ok v → IsTextWithin most_id v.id
session_within e v plain short = by_case (is_management (codes "enabled") e) (optional_number (2 ^ 32) (attr_named (codes "max") e))
  where
    id : IsTextWithin most_id (attr_or_empty (codes "id") e)
    id = or_empty_within (attr_named (codes "id") e) (attribute_within [] (codes "id") e plain short)

    by_case : (b : Bool) (o : Option (Option ℕ)) → where_this b (enabled_with e o) ≡ Ok v → IsTextWithin most_id v.id
    by_case true (Some max) is = let same : attr_or_empty (codes "id") e ≡ v.id = cc in subst (IsTextWithin most_id) same id
    by_case true None is = cc is
    by_case false o is = cc is

result_id : (given : Elem) (r : MamResult) → IsBounded given → result_read given ≡ Ok r → IsTextWithin most_id r.id
result_id given r bounded = by_case (is_result given) (attr_named (codes "id") given) (forward_read None (the_forwarded given)) (attribute_within [] (codes "id") given bounded.plain bounded.short)
  where
    by_case : (b : Bool) (o : Option (List ℕ)) (f : Result Forwarded ExtFault) → IfSome o (IsTextWithin most_id) → where_this b (result_with (attr_or_empty (codes "queryid") given) o f) ≡ Ok r → IsTextWithin most_id r.id
    by_case true (Some id) (Ok f) within is = let same : id ≡ r.id = cc in subst (IsTextWithin most_id) same within
    by_case true (Some id) (Err why) within is = cc is
    by_case true None f within is = cc is
    by_case false o f within is = cc is

result_within : (e : Elem) (m : MessageView) (given : Elem) (r : MamResult) → IsPlainElement e → IsShort e → stanza_of e ≡ Ok (Message m) → first_named archive (codes "result") m.payload ≡ Some given → result_read given ≡ Ok r
    → IsTextWithin most_id r.id
result_within e m given r plain short is first read =
    let payload = ((message_law e m).0 is).payload in
    result_id given r (in_nodes archive (codes "result") e given plain short (sym (ap (first_named archive (codes "result")) payload) ∙ first)) read

-- ---- addresses

-- what stands there, if it is a form, has so many bytes at most
abbrev IsOfAtMost : ℕ → Result (List ℕ) JidFault → Type 0
IsOfAtMost most (Ok form) = length form ≤ most
IsOfAtMost most (Err why) = Unit {0}

most_either : (most : ℕ) (c : Bool) (x y : Result (List ℕ) JidFault) → IsOfAtMost most x → IsOfAtMost most y → IsOfAtMost most (if c then x else y)
most_either most true x y here there = here
most_either most false x y here there = there

fitting_short : (part : List ℕ) → IsOfAtMost 1023 (fitting part)
fitting_short part = by_case (nat_le (length part) 1023) refl
  where
    by_case : (c : Bool) → nat_le (length part) 1023 ≡ c → IsOfAtMost 1023 (if c then Ok part else Err TooLong)
    by_case true is = leb-true (length part) 1023 is
    by_case false is = tt

local_short : (given : List ℕ) → IsOfAtMost 1023 (local_form given)
local_short given =
    let form = fitting (map to_ascii_lowercase given) in
    most_either 1023 (length given == 0) (Err Empty) (if list_all is_local_byte given then form else Err BadLocal) tt (most_either 1023 (list_all is_local_byte given) form (Err BadLocal) (fitting_short (map to_ascii_lowercase given)) tt)

whole_short : (o : Option (List ℕ)) → IsOfAtMost 1023 (whole_domain o)
whole_short None = tt
whole_short (Some ascii) = most_either 1023 ((length ascii == 0) || ends_in_dot ascii) (Err BadDomain) (fitting ascii) tt (fitting_short ascii)

domain_short : (given : List ℕ) → IsOfAtMost 1023 (domain_form given)
domain_short given =
    let ascii = domain_to_ascii STD3 (less_dot given) in
    most_either 1023 (length given == 0) (Err Empty) (whole_domain ascii) tt (whole_short ascii)

resource_short : (given : List ℕ) → IsOfAtMost 1023 (resource_form given)
resource_short given =
    let characters = nfc (chars given) in
    let form = fitting (encode_utf8_all characters) in
    most_either 1023 (length given == 0) (Err Empty) (if fits_resource characters then form else Err BadResource) tt (most_either 1023 (fits_resource characters) form (Err BadResource) (fitting_short (encode_utf8_all characters)) tt)

at_short : (r : Result (List ℕ) JidFault) → IsOfAtMost 1023 r → IsOfAtMost 1024 (followed_by_at r)
at_short (Ok local) h = omega (arith, length-append local (64 ∷ []), h)
at_short (Err why) h = tt

slash_short : (r : Result (List ℕ) JidFault) → IsOfAtMost 1023 r → IsOfAtMost 1024 (after_slash r)
slash_short (Ok resource) h = omega (arith, h)
slash_short (Err why) h = tt

front_short : (o : Option (List ℕ)) → IsOfAtMost 1024 (local_front o)
front_short None = omega arith
front_short (Some given) = at_short (local_form given) (local_short given)

back_short : (o : Option (List ℕ)) → IsOfAtMost 1024 (resource_back o)
back_short None = omega arith
back_short (Some given) = slash_short (resource_form given) (resource_short given)

joined_short : (local domain resource : Result (List ℕ) JidFault) → IsOfAtMost 1024 local → IsOfAtMost 1023 domain → IsOfAtMost 1024 resource → IsOfAtMost most_address (joined local domain resource)
joined_short (Err e) domain resource h k l = tt
joined_short (Ok local) (Err e) resource h k l = tt
joined_short (Ok local) (Ok domain) (Err e) h k l = tt
joined_short (Ok local) (Ok domain) (Ok resource) h k l = omega (arith, length-append (local ++ domain) resource, length-append local domain, h, k, l)

address_short : (value form : List ℕ) → normal value ≡ Ok form → length form ≤ most_address
address_short value form is =
    subst (IsOfAtMost most_address) is
    (joined_short (local_front (local_of value)) (domain_form (domain_of value)) (resource_back (resource_of value)) (front_short (local_of value)) (domain_short (domain_of value)) (back_short (resource_of value)))

-- the characters are those of the address that is told
from_within : (attribute address : Option (List ℕ)) → IsAddressOf attribute address → IfSome address IsCharacters → IfSome address (IsTextWithin most_address)
from_within None address is plain = subst (λ a. IfSome a (IsTextWithin most_address)) (sym is) tt
from_within (Some value) address is plain =
    let within : IfSome (Some is.0) (IsTextWithin most_address) = record { characters = subst (λ a. IfSome a IsCharacters) is.2 plain; short = address_short value is.0 is.1 } in
    subst (λ a. IfSome a (IsTextWithin most_address)) (sym is.2) within

request_within : (e : Elem) (q : IqView) → IsPlainElement e → IsShort e → stanza_of e ≡ Ok (Iq q) → IfSome q.from IsCharacters → IfSome q.from (IsTextWithin most_address) × IsTextWithin most_id q.id
request_within e q plain short is from =
    let read = (iq_law e q).0 is in
    (from_within (attr_named (codes "from") e) q.from read.from from, some_within (attr_named (codes "id") e) q.id (attribute_within [] (codes "id") e plain short) read.id)

-- ---- challenges

text_utf8 : (ks : Nodes) → ArePlainNodes ks → IsUtf8 (text_of ks)
text_utf8 no_nodes plain = IsUtf8-nil
text_utf8 (child e rest) plain = text_utf8 rest plain.1
text_utf8 (text t rest) plain = IsUtf8-append t (text_of rest) plain.0.utf8 (text_utf8 rest plain.1)

pub encoded_long : (bytes : List ℕ) → length bytes ≤ length (encode_of standard bytes)
encoded_long [] = omega arith
encoded_long (a ∷ []) = rw (one_text a) (omega arith)
encoded_long (a ∷ b ∷ []) = rw (two_text a b) (omega arith)
encoded_long (a ∷ b ∷ c ∷ bytes) = rw (more_text a b c bytes) (omega (arith, encoded_long bytes))

decoded_short : (t payload : List ℕ) → IsUtf8 t → decode_of standard t ≡ Ok payload → length payload ≤ length t
decoded_short t payload utf8 is =
    let same = ap length (decode_of_strict standard t payload (refl, refl) (IsBytes-from_utf8 t utf8) is) in
    omega (arith, same, encoded_long payload)

payload_short : (t payload : List ℕ) → IsUtf8 t → payload_read t ≡ Ok payload → length payload ≤ length t
unfolding payload_read
payload_short t payload utf8 = by_case (bytes_eq t (codes "=")) (decode_of standard t) refl
  where
    by_case : (b : Bool) (r : Result (List ℕ) DecodeError) → decode_of standard t ≡ r → (if b then Ok [] else decoded r) ≡ Ok payload → length payload ≤ length t
    by_case true r from is = let none : [] ≡ payload = cc in subst (λ p. length p ≤ length t) none (omega arith)
    by_case false (Ok bytes) from is = let same : bytes ≡ payload = cc in subst (λ p. length p ≤ length t) same (decoded_short t bytes utf8 from)
    by_case false (Err why) from is = cc is

challenge_short : (e : Elem) (payload : List ℕ) → IsPlainElement e → IsShort e → carrier_read (codes "challenge") e ≡ Ok payload → length payload ≤ most_id
challenge_short (element ns name attrs kids) payload plain short = by_case (is_sasl (codes "challenge") (element ns name attrs kids))
  where
    by_case : (b : Bool) → where_this b (payload_read (text_of kids)) ≡ Ok payload → length payload ≤ most_id
    by_case true is = omega (arith, payload_short (text_of kids) payload (text_utf8 kids plain.2) is, short.1)
    by_case false is = cc is

-- ---- what can be answered

pub answerable : (e : Elem) → IsPlainElement e → IsShort e → ((q : IqView) → stanza_of e ≡ Ok (Iq q) → answers_iq q.kind ≡ true → IfSome q.from IsCharacters) → IsAnswerable e
answerable e plain short from = record {
  request = λ q is asks. request_within e q plain short is (from q is asks);
  result = λ m given r. result_within e m given r plain short;
  session = λ v. session_within e v plain short;
  challenge = λ payload. challenge_short e payload plain short;
}
