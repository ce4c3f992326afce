-- What a server says of logins is read.
use Rattle.std.proofs.Common.{◌≡◌, ℕ, zero, suc, ◌+◌, ◌*◌, ◌/◌, ◌%◌, ◌<◌, ◌≤◌, ◌^◌, nat_lt, Bool, true, false, List, [], ◌∷◌, ◌++◌, Option, Some, None, IfSome, Result, Ok, Err, IsUtf8, bytes_eq, cond, codes, length, take, encode_utf8_all, refl, ap, subst, sym, ◌∙◌, arith, inl, inr, length-append, ltb-true}
use Rattle.std.proofs.lemmas.Bool.{and_from, and_parts, cases_Bool}
use Rattle.std.proofs.lemmas.Bool.Decides.{nat_tests}
use Rattle.std.proofs.lemmas.Fmt.{length-decimal-le}
use Rattle.std.proofs.lemmas.List.Folds.{list_all-append}
use Rattle.std.specs.Fmt.{decimal}
use Rattle.std.specs.List.{AllByRecursion, list_all}
use Rattle.std.specs.Str.{all_scalars}
use lib.Utf8.{encode, scalar, scalar_cases}
use Rattle.base64.proofs.EngineFacts.{decode_of_strict}
use Rattle.base64.specs.Engines.{standard}
use Rattle.base64.specs.GeneralPurpose.{IsBytes, decode_of, encode_of}
use Rattle.base64.specs.declared.decode.DecodeError.{DecodeError}
use Rattle.srv_login.specs.Accounts.{FoundView, account_from, account_named}
use Rattle.srv_login.specs.Negotiations.{LoginView, auth_answer, begun_by, begun_of, begun_with, condition_name, ended_of, ended_with, final_answer, is_scram}
use Rattle.srv_login.specs.declared.account.Account.{Account}
use Rattle.srv_login.specs.declared.negotiation.AuthAnswer.{AuthAnswer}
use Rattle.srv_login.specs.declared.negotiation.AuthAnswer.TheVariants as auth
use Rattle.srv_login.specs.declared.negotiation.Negotiation.{Negotiation}
use Rattle.srv_login.specs.declared.sasl_condition.SaslCondition.{SaslCondition}
use Rattle.srv_login.specs.declared.sasl_condition.SaslCondition.TheVariants as condition
use Rattle.law_xml.specs.Plain.{IsPlain}
use Rattle.auth_primitives.specs.Hashes.{hmac_of, verifier_of}
use Rattle.im_payload.specs.declared.fault.ExtFault.{ExtFault}
use Rattle.law_limits.proofs.Forwarding.{text_characters}
use Rattle.law_limits.proofs.Logins.{base64_printable, base64_short, carrier_read, failure_read, is_byte, printable_bytes}
use Rattle.law_limits.proofs.PutParts.{word}
use Rattle.law_limits.specs.Bounded.{IsWord}
use Rattle.im_replies.specs.Sasl.{challenge_item, failure_item, success_item}
use Rattle.im_login.specs.Readings.{auth_read, auth_with, carrier_read as carried, decoded, payload_read}
use Rattle.im_login.specs.Sasl.{auth_mechanism, is_sasl, mechanism_of}
use Rattle.auth_scram.proofs.Base64.{length_of}
use Rattle.auth_scram.proofs.Digests.{IsBytes-hmac_of, length-hmac_of}
use Rattle.auth_scram.proofs.MessageLaws.{first_found}
use Rattle.auth_scram.specs.Classes as classes
use Rattle.auth_scram.specs.Exchange.{ServerView, added_nonce, base64_of, is_proof, last_of, sent, server_auth, server_final_message, server_first_message, then_judge, verifier_for}
use Rattle.auth_scram.specs.Grammar.{IsClientFirst, is_nonce}
use Rattle.auth_scram.specs.Messages.{ClientFinalView, client_final_of, client_first_of}
use Rattle.auth_scram.specs.declared.client_first.ClientFirst.{ClientFirst}
use Rattle.auth_scram.specs.declared.fault.ScramFault.{ScramFault}
use Rattle.law_limits.proofs.Readings.{plain_inside, this_is}
use Rattle.law_limits.proofs.ServerStepsKept.{whole_read}
use Rattle.law_limits.specs.Keeps.{AccountKeeps, IsDrawn, IsRead, IsShort}
use Rattle.law_limits.proofs.Characters.{printable_append}
use Rattle.law_limits.proofs.Numerals.{decimal_printable}
use Rattle.law_limits.specs.Texts.{is_printable}
use Rattle.xml_trees.specs.Readers.{text_of}
use Rattle.xml_trees.specs.Trees.{Elem, nodes_of}
use Rattle.law_limits.proofs.ShortReads.{encoded_long as encoded_longer}

-- ---- conditions

condition_word : (c : SaslCondition) → IsWord (condition_name c)
condition_word condition.Aborted = word (codes "aborted") refl
condition_word condition.IncorrectEncoding = word (codes "incorrect-encoding") refl
condition_word condition.InvalidAuthzid = word (codes "invalid-authzid") refl
condition_word condition.InvalidMechanism = word (codes "invalid-mechanism") refl
condition_word condition.MalformedRequest = word (codes "malformed-request") refl
condition_word condition.NotAuthorized = word (codes "not-authorized") refl

pub failure_item_read : (c : SaslCondition) → IsRead (failure_item (condition_name c))
failure_item_read c = whole_read _ (failure_read (condition_name c) (condition_word c))

-- ---- bytes

small_byte : (b : ℕ) → b < 256 → is_byte b ≡ true
small_byte b h = grind (arith, nat_tests)

scalar_bytes : (c : ℕ) → scalar c ≡ true → list_all is_byte (encode c) ≡ true
unfolding encode
scalar_bytes c h =
    let small : c < 1114112 = elim (scalar_cases c h) [ inl low ↦ omega (arith, low) | inr high ↦ high.1 ] in
    let last = small_byte (128 + c % 64) (omega arith) in
    let third = small_byte (128 + c / 64 % 64) (omega arith) in
    let second = small_byte (128 + c / 4096 % 64) (omega arith) in
    elim (cases_Bool (nat_lt c 128)) [
      | inl a ↦ let low = ltb-true c 128 a in rw a (and_from _ _ (small_byte c (omega (arith, low))) refl)
      | inr a ↦
          elim (cases_Bool (nat_lt c 2048)) [
            | inl b ↦ let low = ltb-true c 2048 b in rw (a, b) (and_from _ _ (small_byte (192 + c / 64) (omega (arith, low))) (and_from _ _ last refl))
            | inr b ↦
                elim (cases_Bool (nat_lt c 65536)) [
                  | inl d ↦ let low = ltb-true c 65536 d in rw (a, b, d) (and_from _ _ (small_byte (224 + c / 4096) (omega (arith, low))) (and_from _ _ third (and_from _ _ last refl)))
                  | inr d ↦ rw (a, b, d) (and_from _ _ (small_byte (240 + c / 262144) (omega (arith, small))) (and_from _ _ second (and_from _ _ third (and_from _ _ last refl))))
                ]
          ]
    ]

scalars_bytes : (cs : List ℕ) → all_scalars cs ≡ true → list_all is_byte (encode_utf8_all cs) ≡ true
scalars_bytes [] h = refl
scalars_bytes (c ∷ cs) h =
    let parts = and_parts (scalar c) (all_scalars cs) h in
    list_all-append is_byte (encode c) (encode_utf8_all cs) ∙ and_from _ _ (scalar_bytes c parts.0) (scalars_bytes cs parts.1)

utf8_bytes : (t : List ℕ) → IsUtf8 t → list_all is_byte t ≡ true
utf8_bytes t h = subst (λ x. list_all is_byte x ≡ true) h.1.1 (scalars_bytes h.0 h.1.0)

byte_small : (b : ℕ) → is_byte b ≡ true → b < 256
byte_small b h = grind (arith, nat_tests)

bytes_of : (t : List ℕ) → list_all is_byte t ≡ true → IsBytes t
bytes_of [] h i = omega arith
bytes_of (b ∷ t) h zero = byte_small b (and_parts (is_byte b) (list_all is_byte t) h).0
bytes_of (b ∷ t) h (suc i) = bytes_of t (and_parts (is_byte b) (list_all is_byte t) h).1 i

pub all_bytes : (t : List ℕ) → IsBytes t → list_all is_byte t ≡ true
all_bytes [] h = refl
all_bytes (b ∷ t) h = and_from _ _ (small_byte b (h 0)) (all_bytes t (λ i. h (suc i)))

pub first_bytes : (n : ℕ) (t : List ℕ) → list_all is_byte t ≡ true → list_all is_byte (take n t) ≡ true
first_bytes zero t h = refl
first_bytes (suc n) [] h = refl
first_bytes (suc n) (b ∷ t) h = let parts = and_parts (is_byte b) (list_all is_byte t) h in and_from _ _ parts.0 (first_bytes n t parts.1)

-- ---- the client's first message

pub take_shorter : (n : ℕ) (xs : List ℕ) → length (take n xs) ≤ length xs
take_shorter zero xs = omega arith
take_shorter (suc n) [] = omega arith
take_shorter (suc n) (x ∷ xs) = let ih = take_shorter n xs in omega (arith, ih)

taken_short : (entropy : List ℕ) → length entropy ≤ 1000 → length (take 18 entropy) ≤ 1000
taken_short entropy h = let less = take_shorter 18 entropy in omega (arith, h, less)

nonce_within : (most : ℕ) (bytes : List ℕ) (first : ClientFirst) (found : IsClientFirst (Some first.flag) false first.name first.nonce first.bare bytes) → length bytes ≤ most → length first.nonce ≤ most
nonce_within most bytes first found short =
    let said = found.said in
    let whole = ap length found.spelled in
    let bare = ap length said.spelled in
    let front = found.flag_text ++ codes "," ++ found.authzid_text ++ codes "," in
    let before = codes "n=" ++ said.name_text ++ codes ",r=" in
    omega (
      arith,
      short,
      whole,
      bare,
      length-append front first.bare,
      length-append (before ++ first.nonce) said.extensions,
      length-append before first.nonce,
    )

decoded_short : (text : List ℕ) (r : Result (List ℕ) DecodeError) (b : List ℕ) → list_all is_byte text ≡ true → decode_of standard text ≡ r → decoded r ≡ Ok b → length b ≤ length text
decoded_short text (Ok bytes) b h is ok =
    let same : bytes ≡ b = cc in
    let text_is : text ≡ encode_of standard bytes = decode_of_strict standard text bytes (refl, refl) (bytes_of text h) is in
    let long : length bytes ≤ length (encode_of standard bytes) = encoded_longer bytes in
    subst (λ x. length x ≤ length text) same (subst (λ t. length bytes ≤ length t) (sym text_is) long)
decoded_short text (Err why) b h is ok = absurd cc

pub payload_short : (text b : List ℕ) → list_all is_byte text ≡ true → payload_read text ≡ Ok b → length b ≤ length text
unfolding payload_read
payload_short text b h is =
    elim (cases_Bool (bytes_eq text (codes "="))) [
      | inl lone ↦ let none : Ok [] ≡ Ok b = rw lone at is in let same : [] ≡ b = cc in subst (λ x. length x ≤ length text) same (omega arith)
      | inr other ↦ decoded_short text (decode_of standard text) b h refl (rw other at is)
    ]

auth_payload : (m : Option (List ℕ)) (r : Result (List ℕ) ExtFault) (v : List ℕ × List ℕ) → auth_with m r ≡ Ok v → r ≡ Ok v.1
auth_payload None r v is = absurd cc
auth_payload (Some m) (Err f) v is = absurd cc
auth_payload (Some m) (Ok p) v is = cc

auth_short : (most : ℕ) (e : Elem) (v : List ℕ × List ℕ) → IsPlain e → (is_sasl (codes "auth") e ≡ true → length (text_of (nodes_of e)) ≤ most) → auth_read e ≡ Ok v → length v.1 ≤ most
auth_short most e v plain short is =
    let text = text_of (nodes_of e) in
    let bytes = utf8_bytes text (text_characters (nodes_of e) (plain_inside e plain.inside)).utf8 in
    let read = this_is (is_sasl (codes "auth") e) (auth_with (mechanism_of e) (payload_read text)) v is in
    let content = short read.0 in
    let within = payload_short text v.1 bytes (auth_payload (mechanism_of e) (payload_read text) v read.1) in
    omega (arith, content, within)

nonce_byte : (b : ℕ) → classes.is_printable b ≡ true → is_printable b ≡ true
nonce_byte b h = grind (arith, nat_tests)

nonce_bytes : (t : List ℕ) → list_all classes.is_printable t ≡ true → list_all is_printable t ≡ true
nonce_bytes [] h = refl
nonce_bytes (b ∷ t) h = let parts = and_parts (classes.is_printable b) (list_all classes.is_printable t) h in and_from _ _ (nonce_byte b parts.0) (nonce_bytes t parts.1)

some_printable : (t : List ℕ) → is_nonce t ≡ true → list_all is_printable t ≡ true
some_printable [] h = refl
some_printable (b ∷ t) h = nonce_bytes (b ∷ t) h

-- printable, and of so many bytes
pub record IsSmall (most : ℕ) (t : List ℕ) : Type 0 where
  pub printable : list_all is_printable t ≡ true
  pub short : length t ≤ most

small_append : (m n : ℕ) (s t : List ℕ) → IsSmall m s → IsSmall n t → IsSmall (m + n) (s ++ t)
small_append m n s t h k =
    let a = h.short in let b = k.short in record { printable = printable_append s t h.printable k.printable; short = omega (arith, a, b, length-append s t) }

nonce_small : (most : ℕ) (bytes : List ℕ) (first : ClientFirst) → client_first_of bytes ≡ Ok first → length bytes ≤ most → IsSmall most first.nonce
nonce_small most bytes first is short =
    let found = first_found bytes first is in
    let said = found.said in
    let printable : is_nonce first.nonce ≡ true = said.random in
    record { printable = some_printable first.nonce printable; short = nonce_within most bytes first found short }

-- ---- the challenge

pub encoded_small : (m n : ℕ) (t : List ℕ) → list_all is_byte t ≡ true → length t ≤ m → 2 * m + 4 ≤ n → IsSmall n (base64_of t)
unfolding base64_of
encoded_small m n t h short within = let long = base64_short t in record { printable = base64_printable t h; short = omega (arith, long, short, within) }

first_small : (most : ℕ) (nonce salt : List ℕ) (count : ℕ) → IsSmall most nonce → list_all is_byte salt ≡ true → length salt ≤ 1000 → count < 2 ^ 64 → IsSmall (most + 2032) (server_first_message nonce salt count)
first_small most nonce salt count h bytes short small =
    let salted = encoded_small 1000 2004 salt bytes short (omega arith) in
    let digits : IsSmall 20 (decimal count) = record { printable = decimal_printable count small; short = length-decimal-le 20 count (omega arith) (omega (arith, small)) small } in
    let a = small_append 2 most (codes "r=") nonce (record { printable = refl; short = omega arith }) h in
    let b = small_append (2 + most) 3 (codes "r=" ++ nonce) (codes ",s=") a (record { printable = refl; short = omega arith }) in
    let c = small_append (2 + most + 3) 2004 (codes "r=" ++ nonce ++ codes ",s=") (base64_of salt) b salted in
    let d = small_append (2 + most + 3 + 2004) 3 (codes "r=" ++ nonce ++ codes ",s=" ++ base64_of salt) (codes ",i=") c (record { printable = refl; short = omega arith }) in
    let e = small_append (2 + most + 3 + 2004 + 3) 20 (codes "r=" ++ nonce ++ codes ",s=" ++ base64_of salt ++ codes ",i=") (decimal count) d digits in
    let long = e.short in
    record { printable = e.printable; short = omega (arith, long) }

challenge_read : (t : List ℕ) → IsSmall 69968 t → IsRead (challenge_item t)
challenge_read t h = let short = h.short in whole_read _ (carrier_read (codes "challenge") t (word (codes "challenge") refl) (printable_bytes t h.printable) (omega (arith, short)))

-- ---- answers to the first message

-- the challenge that begins an exchange
abbrev pub IsSmallAnswer : ℕ → AuthAnswer → Type 0
IsSmallAnswer most (auth.Begins n) = IsSmall most n.exchange.message
IsSmallAnswer most (auth.Fails why) = Unit {0}

abbrev FoundKeeps : FoundView → Type 0
FoundKeeps f = (list_all is_byte f.credentials.salt ≡ true) × (length f.credentials.salt ≤ 1000) × (f.credentials.iterations < 2 ^ 64)

found_keeps : (position : ℕ) (name : List ℕ) (accounts : List Account) → AllByRecursion AccountKeeps accounts → IfSome (account_from position name accounts) FoundKeeps
found_keeps position name [] h = tt
found_keeps position name (a ∷ more) h =
    elim (cases_Bool (bytes_eq name a.name)) [
      | inl here ↦ rw here (h.0.salt, h.0.short, h.0.count)
      | inr other ↦ rw other (found_keeps (position + 1) name more h.1)
    ]

begun_small : (most more : ℕ) (first : ClientFirst) (tail : List ℕ) (o : Option FoundView) → IsSmall most first.nonce → IsSmall more tail → IfSome o FoundKeeps → IsSmallAnswer (most + more + 2032) (begun_by first tail o)
begun_small most more first tail None h k o = tt
begun_small most more first tail (Some f) h k o = first_small (most + more) (first.nonce ++ tail) f.credentials.salt f.credentials.iterations (small_append most more first.nonce tail h k) o.0 o.1 o.2

with_small : (most more : ℕ) (tail bytes : List ℕ) (accounts : List Account) (r : Result ClientFirst ScramFault) → client_first_of bytes ≡ r → length bytes ≤ most → IsSmall more tail → AllByRecursion AccountKeeps accounts
    → IsSmallAnswer (most + more + 2032) (begun_with tail accounts r)
with_small most more tail bytes accounts (Ok first) is short k h =
    begun_small most more first tail (account_named first.name accounts) (nonce_small most bytes first is short) k (found_keeps 0 first.name accounts h)
with_small most more tail bytes accounts (Err fault) is short k h = tt

of_small : (most more : ℕ) (tail : List ℕ) (accounts : List Account) (r : Result (List ℕ × List ℕ) ExtFault) → ((v : List ℕ × List ℕ) → r ≡ Ok v → length v.1 ≤ most) → IsSmall more tail → AllByRecursion AccountKeeps accounts
    → IsSmallAnswer (most + more + 2032) (begun_of tail accounts r)
of_small most more tail accounts (Ok v) short k h = with_small most more tail v.1 accounts (client_first_of v.1) refl (short v refl) k h
of_small most more tail accounts (Err fault) short k h = tt

either_answer : (most : ℕ) (b : Bool) (x y : AuthAnswer) → IsSmallAnswer most x → IsSmallAnswer most y → IsSmallAnswer most (cond b x y)
either_answer most true x y h k = h
either_answer most false x y h k = k

-- it is no longer than what is in the `auth`, and what is added
pub auth_small : (most more : ℕ) (e : Elem) (entropy : List ℕ) (accounts : List Account) → IsPlain e → (is_sasl (codes "auth") e ≡ true → length (text_of (nodes_of e)) ≤ most) → IsSmall more (added_nonce entropy) → AllByRecursion AccountKeeps accounts
    → IsSmallAnswer (most + more + 2032) (auth_answer e entropy accounts)
auth_small most more e entropy accounts plain short tail h =
    either_answer (most + more + 2032) (is_scram (auth_mechanism e)) (begun_of (added_nonce entropy) accounts (auth_read e)) (auth.Fails condition.InvalidMechanism)
    (of_small most more (added_nonce entropy) accounts (auth_read e) (λ v is. auth_short most e v plain short is) tail h) tt

tail_small : (entropy : List ℕ) → IsDrawn entropy → IsSmall 2400 (added_nonce entropy)
tail_small entropy h = encoded_small 1000 2400 (take 18 entropy) (first_bytes 18 entropy h.bytes) (taken_short entropy h.short) (omega arith)

abbrev pub AnswerKeeps : AuthAnswer → Type 0
AnswerKeeps (auth.Begins n) = IsRead (challenge_item n.exchange.message)
AnswerKeeps (auth.Fails why) = Unit {0}

answer_keeps : (answer : AuthAnswer) → IsSmallAnswer 69968 answer → AnswerKeeps answer
answer_keeps (auth.Begins n) small = challenge_read n.exchange.message small
answer_keeps (auth.Fails why) small = tt

pub auth_keeps : (e : Elem) (entropy : List ℕ) (accounts : List Account) → IsPlain e → IsShort e → IsDrawn entropy → AllByRecursion AccountKeeps accounts → AnswerKeeps (auth_answer e entropy accounts)
auth_keeps e entropy accounts plain short drawn h = answer_keeps (auth_answer e entropy accounts) (auth_small 65536 2400 e entropy accounts plain (λ is. short.content) (tail_small entropy drawn) h)

-- ---- the success

verifier_read : (key message : List ℕ) → IsRead (success_item (server_final_message (verifier_of key message)))
verifier_read key message =
    let long = length-hmac_of key message in
    let told = encoded_small 32 100 (verifier_of key message) (all_bytes (hmac_of key message) (IsBytes-hmac_of key message)) (omega (arith, long)) (omega arith) in
    let whole = small_append 2 100 (codes "v=") (base64_of (verifier_of key message)) (record { printable = refl; short = omega arith }) told in
    let short = whole.short in
    whole_read _ (carrier_read (codes "success") (server_final_message (verifier_of key message)) (word (codes "success") refl) (printable_bytes (server_final_message (verifier_of key message)) whole.printable) (omega (arith, short)))

-- what is sent where a login succeeds
abbrev pub LoginKeeps : Result LoginView SaslCondition → Type 0
LoginKeeps (Ok login) = IsRead (success_item login.message)
LoginKeeps (Err why) = Unit {0}

abbrev MessageKeeps : Result (List ℕ) ScramFault → Type 0
MessageKeeps (Ok m) = IsRead (success_item m)
MessageKeeps (Err why) = Unit {0}

abbrev VerifierKeeps : Result (List ℕ) ScramFault → Type 0
VerifierKeeps (Ok v) = IsRead (success_item (server_final_message v))
VerifierKeeps (Err why) = Unit {0}

either_verifier : (b : Bool) (x y : Result (List ℕ) ScramFault) → VerifierKeeps x → VerifierKeeps y → VerifierKeeps (cond b x y)
either_verifier true x y h k = h
either_verifier false x y h k = k

judged_keeps : (s : ServerView) (without nonce : List ℕ) (proof : Option (List ℕ)) → VerifierKeeps (verifier_for s without nonce proof)
judged_keeps s without nonce proof =
    either_verifier (bytes_eq nonce s.nonce) _ _
    (either_verifier (is_proof s.stored_key (server_auth s without) proof) (Ok (verifier_of s.server_key (server_auth s without))) _ (verifier_read s.server_key (server_auth s without)) tt) tt

then_keeps : (s : ServerView) (r : Result ClientFinalView ScramFault) → VerifierKeeps (then_judge (λ m. verifier_for s m.without_proof m.nonce m.proof) r)
then_keeps s (Ok m) = judged_keeps s m.without_proof m.nonce m.proof
then_keeps s (Err fault) = tt

sent_keeps : (r : Result (List ℕ) ScramFault) → VerifierKeeps r → MessageKeeps (sent server_final_message r)
sent_keeps (Ok v) h = h
sent_keeps (Err fault) h = tt

ended_keeps : (account : ℕ) (r : Result (List ℕ) ScramFault) → MessageKeeps r → LoginKeeps (ended_with account r)
ended_keeps account (Ok m) h = h
ended_keeps account (Err fault) h = tt

final_by : (n : Negotiation) (r : Result (List ℕ) ExtFault) → LoginKeeps (ended_of n r)
final_by n (Ok payload) = ended_keeps n.account (last_of n.exchange payload) (sent_keeps _ (then_keeps n.exchange (client_final_of n.exchange.flag payload)))
final_by n (Err fault) = tt

pub final_keeps : (e : Elem) (n : Negotiation) → LoginKeeps (final_answer e n)
final_keeps e n = final_by n (carried (codes "response") e)
