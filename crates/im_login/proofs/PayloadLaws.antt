-- A text stands for the bytes of one payload at most.
use Rattle.std.proofs.Common.{◌≡◌, ℕ, false, List, [], codes, Ok, is_ok, refl, sym, ap, ◌∙◌, arith, inl, inr}
use Rattle.std.proofs.lemmas.Bool.{false≢true}
use Rattle.base64.proofs.EngineFacts.{decode_of-encode_of, encode_of-nil}
use Rattle.base64.proofs.OnLiterals.{base64_on_literals}
use Rattle.base64.specs.Engines.{standard}
use Rattle.base64.specs.GeneralPurpose.{IsBytes, decode_of}
use Rattle.im_login.specs.Payloads.{IsPayload, base64_of}

-- base64 decodes to what it is the base64 of
decodes : (text bytes : List ℕ) → IsBytes bytes → text ≡ base64_of bytes → decode_of standard text ≡ Ok bytes
unfolding base64_of
decodes text bytes fits is_text = rw is_text (decode_of-encode_of standard bytes refl fits)

-- a lone `=` is no base64
equals_alone : is_ok (decode_of standard (codes "=")) ≡ false
unfolding base64_on_literals
equals_alone = refl

equals_is_none : (text bytes : List ℕ) → text ≡ codes "=" → IsBytes bytes → text ≡ base64_of bytes → ⊥
equals_is_none text bytes alone fits is_text =
    let spelled : codes "=" ≡ base64_of bytes = sym alone ∙ is_text in
    false≢true (sym equals_alone ∙ ap is_ok (decodes (codes "=") bytes fits spelled))

pub payload_one : (text a b : List ℕ) → IsPayload text a → IsPayload text b → a ≡ b
payload_one text a b (inl p) (inl q) =
    let same = sym (decodes text a p.0 p.1) ∙ decodes text b q.0 q.1 in
    cc same
payload_one text a b (inl p) (inr q) = absurd (equals_is_none text a q.0 p.0 p.1)
payload_one text a b (inr p) (inl q) = absurd (equals_is_none text b p.0 q.0 q.1)
payload_one text a b (inr p) (inr q) = p.1 ∙ sym q.1

no_bytes : IsBytes []
no_bytes i = omega arith

pub empty_payload : IsPayload [] []
unfolding base64_of
empty_payload = inl (no_bytes, sym (encode_of-nil standard))
