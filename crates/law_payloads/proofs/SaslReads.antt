-- The elements of SASL are read as the grammar says, and what is written is read as it was.
use Rattle.std.proofs.Common.{◌≡◌, ◌≢◌, ◌↔◌, ℕ, Bool, true, false, cond, List, [], Option, Some, None, Result, Ok, Err, codes, is_ok, refl, sym, ap, ◌∙◌, subst, inl, inr}
use Rattle.std.proofs.lemmas.Bool.{cases_Bool, false≢true}
use Rattle.std.specs.Str.{bytes_eq}
use Rattle.base64.proofs.EngineFacts.{decode_of-encode_of, decode_of_strict}
use Rattle.base64.proofs.OnLiterals.{base64_on_literals}
use Rattle.base64.specs.Engines.{standard}
use Rattle.base64.specs.GeneralPurpose.{IsBytes, decode_of}
use Rattle.base64.specs.declared.decode.DecodeError.{DecodeError}
use Rattle.auth_primitives.proofs.DecodedRuns.{decoded_are_bytes}
use Rattle.im_payload.proofs.FaultLemmas.{for_memory, one_field, same_inside, some_is_there}
use Rattle.im_payload.specs.Faults.{LacksNothing}
use Rattle.im_payload.specs.Names.{sasl}
use Rattle.im_payload.specs.Readings.{or_bad, where_this}
use Rattle.im_payload.specs.declared.fault.ExtFault.{ExtFault}
use Rattle.im_payload.specs.declared.fault.ExtFault.TheVariants.{NotThis, Bad, NoMemory}
use Rattle.im_payload.specs.declared.fault.Field.{Field}
use Rattle.im_payload.specs.declared.fault.Field.TheVariants as field
use Rattle.law_payloads.proofs.Judged.{Fits, answers, there}
use Rattle.law_payloads.proofs.ManagementReads.{bare_answers}
use Rattle.law_payloads.specs.Answers.{IsAnswer}
use Rattle.im_login.proofs.PayloadLaws.{payload_one}
use Rattle.im_login.proofs.SaslLaws.{auth_refused, carrier_refused}
use Rattle.im_login.specs.Payloads.{HasNoPayload, IsPayload, base64_of}
use Rattle.im_login.specs.Readings.{auth_read, auth_with, carrier_read, decoded, failure_read, payload_read}
use Rattle.im_login.specs.Sasl.{AuthLacks, CarrierLacks, FailureLacks, IsAuth, IsCarrier, IsFailure, abort_of, abort_read, auth_of, carrier, failure_of, is_sasl, mechanism_of}
use Rattle.im_login.specs.declared.sasl.Abort.{Abort}
use Rattle.im_stanza.proofs.KindLemmas.{equal_bytes, same_bytes}
use Rattle.im_stanza.specs.Conditions.{condition_in}
use Rattle.xml_trees.proofs.TidyReads.{text_of-text_node}
use Rattle.xml_trees.specs.Readers.{text_of}
use Rattle.xml_trees.specs.Trees.{Elem, nodes_of}
use Rattle.base_lemmas.proofs.Bytes.{bytes_eq-from_other}

-- ---- the bytes that a text stands for

-- base64 decodes to what it is the base64 of
decodes : (text bytes : List ℕ) → IsBytes bytes → text ≡ base64_of bytes → decode_of standard text ≡ Ok bytes
unfolding base64_of
decodes text bytes fits is = rw is (decode_of-encode_of standard bytes refl fits)

decodes_so : (text bytes : List ℕ) → IsBytes text → decode_of standard text ≡ Ok bytes → text ≡ base64_of bytes
unfolding base64_of
decodes_so text bytes fits is = decode_of_strict standard text bytes (refl, refl) fits is

none_so : (text : List ℕ) (why : DecodeError) → bytes_eq text (codes "=") ≡ false → decode_of standard text ≡ Err why → HasNoPayload text field.Payload
none_so text why other is bytes (inl spelled) = let both = sym (decodes text bytes spelled.0 spelled.1) ∙ is in cc both
none_so text why other is bytes (inr alone) = let both = sym other ∙ equal_bytes text (codes "=") alone.0 in cc both

decoded_fits : (text : List ℕ) (r : Result (List ℕ) DecodeError) → IsBytes text → bytes_eq text (codes "=") ≡ false → decode_of standard text ≡ r → Fits true (HasNoPayload text) (IsPayload text) (decoded r)
decoded_fits text (Ok bytes) fits other is = inl (decoded_are_bytes standard text bytes fits is, decodes_so text bytes fits is)
decoded_fits text (Err why) fits other is = (refl, none_so text why other is)

either_fits : (text : List ℕ) (b : Bool) → IsBytes text → bytes_eq text (codes "=") ≡ b → Fits true (HasNoPayload text) (IsPayload text) (cond b (Ok []) (decoded (decode_of standard text)))
either_fits text true fits is = inr (same_bytes text (codes "=") is, refl)
either_fits text false fits is = decoded_fits text (decode_of standard text) fits is refl

payload_fits : (text : List ℕ) → IsBytes text → Fits true (HasNoPayload text) (IsPayload text) (payload_read text)
unfolding payload_read
payload_fits text fits = either_fits text (bytes_eq text (codes "=")) fits refl

-- a lone `=` is no base64
equals_alone : is_ok (decode_of standard (codes "=")) ≡ false
unfolding base64_on_literals
equals_alone = refl

unlike_equals : (bytes : List ℕ) → IsBytes bytes → bytes_eq (base64_of bytes) (codes "=") ≡ false
unlike_equals bytes fits =
    elim (cases_Bool (bytes_eq (base64_of bytes) (codes "="))) [
      | inl same ↦
          let spelled : codes "=" ≡ base64_of bytes = sym (same_bytes (base64_of bytes) (codes "=") same) in
          absurd (false≢true (sym equals_alone ∙ ap is_ok (decodes (codes "=") bytes fits spelled)))
      | inr other ↦ other
    ]

-- what is written of bytes is read as these bytes
payload_again : (bytes : List ℕ) → IsBytes bytes → payload_read (base64_of bytes) ≡ Ok bytes
unfolding payload_read
payload_again bytes fits = rw (unlike_equals bytes fits) (ap decoded (decodes (base64_of bytes) bytes fits refl))

-- ---- challenge, response and success

carrier_fits : (name : List ℕ) (e : Elem) (b : Bool) (r : Result (List ℕ) ExtFault) → is_sasl name e ≡ b
    → Fits true (HasNoPayload (text_of (nodes_of e))) (IsPayload (text_of (nodes_of e))) r → Fits b (CarrierLacks e) (IsCarrier name e) (where_this b r)
carrier_fits name e false r named fits = refl
carrier_fits name e true (Ok payload) named fits = record { named = named; spelled = fits }
carrier_fits name e true (Err NotThis) named fits = fits
carrier_fits name e true (Err (Bad f)) named fits = fits
carrier_fits name e true (Err NoMemory) named fits = fits

payload_alone : (text : List ℕ) (f : Field) → HasNoPayload text f → f ≡ field.Payload
payload_alone text field.Payload lacks = refl
payload_alone text _ lacks = absurd lacks

pub carrier_answers : (name : List ℕ) (e : Elem) → IsBytes (text_of (nodes_of e)) → IsAnswer (carrier_read name e) (is_sasl name e) (CarrierLacks e) (IsCarrier name e)
carrier_answers name e bytes =
    let text = text_of (nodes_of e) in
    answers (is_sasl name e) (CarrierLacks e) (IsCarrier name e) (λ v w a b. payload_one text v w a.spelled b.spelled) (carrier_refused name e) (one_field _ field.Payload (payload_alone text))
    (carrier_read name e) (carrier_fits name e (is_sasl name e) (payload_read text) refl (payload_fits text bytes))

named_so : (name payload : List ℕ) → is_sasl name (carrier name payload) ≡ true
named_so name payload = let a = equal_bytes sasl sasl refl in let b = equal_bytes name name refl in rw (a, b) refl

pub carrier_written : (name payload : List ℕ) → IsBytes payload → carrier_read name (carrier name payload) ≡ Ok payload
carrier_written name payload fits =
    rw (named_so name payload) (ap payload_read (text_of-text_node (base64_of payload)) ∙ payload_again payload fits)

-- ---- auth

auth_fits : (e : Elem) (b : Bool) (mechanism : Option (List ℕ)) (r : Result (List ℕ) ExtFault) → is_sasl (codes "auth") e ≡ b → mechanism_of e ≡ mechanism
    → Fits true (HasNoPayload (text_of (nodes_of e))) (IsPayload (text_of (nodes_of e))) r
    → Fits b (AuthLacks e) (λ (v : List ℕ × List ℕ). IsAuth e v.0 v.1) (where_this b (auth_with mechanism r))
auth_fits e false mechanism r named chosen fits = refl
auth_fits e true None r named chosen fits = (refl, chosen)
auth_fits e true (Some m) (Ok payload) named chosen fits = record { named = named; chosen = chosen; spelled = fits }
auth_fits e true (Some m) (Err NotThis) named chosen fits = fits
auth_fits e true (Some m) (Err (Bad f)) named chosen fits =
    let only = payload_alone (text_of (nodes_of e)) f fits.1 in
    (refl, subst (AuthLacks e) (sym only) (there (mechanism_of e) m chosen, subst (HasNoPayload (text_of (nodes_of e))) only fits.1))
auth_fits e true (Some m) (Err NoMemory) named chosen fits = fits

auth_first : (e : Elem) (f g : Field) → AuthLacks e f → AuthLacks e g → f ≡ g
auth_first e field.Mechanism field.Mechanism a b = refl
auth_first e field.Mechanism field.Payload a b = absurd (some_is_there _ b.0 a)
auth_first e field.Mechanism _ a b = absurd b
auth_first e field.Payload field.Mechanism a b = absurd (some_is_there _ a.0 b)
auth_first e field.Payload field.Payload a b = refl
auth_first e field.Payload _ a b = absurd b
auth_first e _ _ a b = absurd a

auth_one : (e : Elem) (v w : List ℕ × List ℕ) → IsAuth e v.0 v.1 → IsAuth e w.0 w.1 → v ≡ w
auth_one e v w a b i = (same_inside v.0 w.0 (sym a.chosen ∙ b.chosen) i, payload_one (text_of (nodes_of e)) v.1 w.1 a.spelled b.spelled i)

pub auth_answers : (e : Elem) → IsBytes (text_of (nodes_of e)) → IsAnswer (auth_read e) (is_sasl (codes "auth") e) (AuthLacks e) (λ (v : List ℕ × List ℕ). IsAuth e v.0 v.1)
auth_answers e bytes =
    let text = text_of (nodes_of e) in
    answers (is_sasl (codes "auth") e) (AuthLacks e) (λ (v : List ℕ × List ℕ). IsAuth e v.0 v.1) (auth_one e) (λ v. auth_refused e v.0 v.1) (auth_first e)
    (auth_read e) (auth_fits e (is_sasl (codes "auth") e) (mechanism_of e) (payload_read text) refl refl (payload_fits text bytes))

auth_named : (mechanism payload : List ℕ) → is_sasl (codes "auth") (auth_of mechanism payload) ≡ true
unfolding sasl
auth_named mechanism payload = refl

pub auth_written : (mechanism payload : List ℕ) → IsBytes payload → auth_read (auth_of mechanism payload) ≡ Ok (mechanism, payload)
auth_written mechanism payload fits =
    rw (auth_named mechanism payload) (ap (auth_with (Some mechanism)) (ap payload_read (text_of-text_node (base64_of payload)) ∙ payload_again payload fits))

-- ---- failure

failure_fits : (e : Elem) (b : Bool) (condition : Option (List ℕ)) → is_sasl (codes "failure") e ≡ b → condition_in sasl (nodes_of e) ≡ condition
    → Fits b (FailureLacks e) (IsFailure e) (where_this b (or_bad field.Condition condition))
failure_fits e false condition named first = refl
failure_fits e true None named first = (refl, first)
failure_fits e true (Some condition) named first = record { named = named; first = first }

condition_alone : (e : Elem) (f : Field) → FailureLacks e f → f ≡ field.Condition
condition_alone e field.Condition lacks = refl
condition_alone e _ lacks = absurd lacks

failure_right : (e : Elem) (c : List ℕ) (f : Field) → IsFailure e c → FailureLacks e f → ⊥
failure_right e c field.Condition is lacks = let both = sym is.first ∙ lacks in cc both
failure_right e c _ is lacks = lacks

pub failure_answers : (e : Elem) → IsAnswer (failure_read e) (is_sasl (codes "failure") e) (FailureLacks e) (IsFailure e)
failure_answers e =
    answers (is_sasl (codes "failure") e) (FailureLacks e) (IsFailure e) (λ v w a b. same_inside v w (sym a.first ∙ b.first)) (λ v fault is. for_memory _ _ fault is.named (λ f. failure_right e v f is))
    (one_field _ field.Condition (condition_alone e)) (failure_read e) (failure_fits e (is_sasl (codes "failure") e) (condition_in sasl (nodes_of e)) refl refl)

pub failure_written : (condition : List ℕ) → condition ≢ codes "text" → failure_read (failure_of condition) ≡ Ok condition
unfolding sasl
failure_written condition other = rw (bytes_eq-from_other condition (codes "text") other) refl

-- ---- abort

pub abort_answers : (e : Elem) → IsAnswer (abort_read e) (is_sasl (codes "abort") e) LacksNothing (λ (v : Abort). is_sasl (codes "abort") e ≡ true)
abort_answers = bare_answers sasl (codes "abort") (record {}) (λ v w. refl)

pub abort_written : abort_read abort_of ≡ Ok (record {})
unfolding sasl
abort_written = refl

pub payload_law : (text bytes : List ℕ) → IsBytes text → (payload_read text ≡ Ok bytes) ↔ IsPayload text bytes
payload_law text bytes fits =
    (answers true (HasNoPayload text) (IsPayload text) (payload_one text) (λ v fault is. for_memory _ _ fault refl (λ f. payload_right text v f is)) (one_field _ field.Payload (payload_alone text)) (payload_read text) (payload_fits text fits)).ok bytes
  where
    payload_right : (text p : List ℕ) (f : Field) → IsPayload text p → HasNoPayload text f → ⊥
    payload_right text p field.Payload is lacks = lacks p is
    payload_right text p _ is lacks = lacks
