-- What is read to an end is base64, and is what is decoded.
use Rattle.std.proofs.Common.{◌≡◌, ◌↔◌, ℕ, Bool, true, false, List, [], ◌∷◌, ◌++◌, Option, Some, None, Result, Ok, Err, is_ok, refl, sym, ap, ◌∙◌, inl, inr}
use Rattle.std.specs.Option.{option_and_then}
use Rattle.base64.proofs.EngineFacts.{decode_of-encode_of, decode_of_strict}
use Rattle.base64.specs.Engines.{standard}
use Rattle.base64.specs.GeneralPurpose.{IsBytes, decode_of, encode_of}
use Rattle.base64.specs.declared.decode.DecodeError.{DecodeError}
use Rattle.auth_primitives.proofs.DecodedRuns.{decoded_are_bytes}
use Rattle.auth_primitives.proofs.GroupRuns.{IsWhole, encoded_whole, whole_encoded}
use Rattle.auth_primitives.specs.Canonical.{IsBase64, is_base64}
use Rattle.auth_primitives.specs.Reading.{base64_after, base64_goes_on, base64_may_end, is_accepted, is_at_end}
use Rattle.auth_primitives.specs.declared.text.Base64Text.{Base64Text}
use Rattle.auth_primitives.specs.declared.text.Base64Text.TheVariants.{Whole}
use Rattle.base_lemmas.proofs.Options.{option_cases}

at_end : (o : Option Base64Text) → is_at_end o ≡ true → (t : Base64Text) × (o ≡ Some t) × (base64_may_end t ≡ true)
at_end None h = cc h
at_end (Some t) h = (t, refl, h)

accepted_whole : (text : List ℕ) → is_accepted text ≡ true → IsBase64 text
accepted_whole text h =
    let end = at_end (base64_after Whole text) h in
    whole_encoded text end.0 end.1 end.2

whole_accepted : (text : List ℕ) → IsWhole text → is_accepted text ≡ true
whole_accepted text whole = ap is_at_end whole.1 ∙ whole.2

encoded_accepted : (text : List ℕ) → IsBase64 text → is_accepted text ≡ true
encoded_accepted text b = ap is_accepted b.2 ∙ whole_accepted (encode_of standard b.0) (encoded_whole b.0 b.1)

pub accepted_is_base64 : (text : List ℕ) → (is_accepted text ≡ true) ↔ IsBase64 text
accepted_is_base64 text = (accepted_whole text, encoded_accepted text)

decoded_so : (text : List ℕ) → IsBase64 text → is_base64 text ≡ true
unfolding is_base64
decoded_so text b = ap (λ (t : List ℕ). is_ok (decode_of standard t)) b.2 ∙ ap is_ok (decode_of-encode_of standard b.0 refl b.1)

encoded_so : (text : List ℕ) (r : Result (List ℕ) DecodeError) → IsBytes text → decode_of standard text ≡ r → is_ok r ≡ true → IsBase64 text
encoded_so text (Ok bytes) fits is ok = (bytes, decoded_are_bytes standard text bytes fits is, decode_of_strict standard text bytes (refl, refl) fits is)
encoded_so text (Err why) fits is ok = cc ok

decoded_encoded : (text : List ℕ) → IsBytes text → is_base64 text ≡ true → IsBase64 text
unfolding is_base64
decoded_encoded text fits ok = encoded_so text (decode_of standard text) fits refl ok

both_or_neither : (a b : Bool) → (a ≡ true → b ≡ true) → (b ≡ true → a ≡ true) → a ≡ b
both_or_neither true b there back = sym (there refl)
both_or_neither false true there back = back refl
both_or_neither false false there back = refl

pub accepted_is_decoded : (text : List ℕ) → IsBytes text → is_accepted text ≡ is_base64 text
accepted_is_decoded text fits =
    both_or_neither (is_accepted text) (is_base64 text) (λ h. decoded_so text (accepted_whole text h)) (λ h. encoded_accepted text (decoded_encoded text fits h))

pub after_append : (state : Base64Text) (front rest : List ℕ) → base64_after state (front ++ rest) ≡ option_and_then (λ s. base64_after s rest) (base64_after state front)
after_append state [] rest = refl
after_append state (b ∷ front) rest =
    elim (option_cases (base64_goes_on state b)) [
      | inl none ↦ rw none refl
      | inr some ↦ rw some.1 (after_append some.0 front rest)
    ]
