-- What the port of base64 decodes.
use Rattle.std.proofs.Common.{◌≡◌, ℕ, ◌+◌, ◌-◌, ◌*◌, ◌/◌, ◌≤◌, false, cond, nat_lt, List, [], ◌++◌, length, replicate, drop, Option, Some, None, Result, Ok, Err, refl, sym, ap, ◌∙◌, arith, inl, inr, lt-ltb, le-ltb, eq-eqb, ne_eqb}
use Rattle.std.proofs.lemmas.List.{length-append, length-replicate, append-nil, drop_all}
use Rattle.std.proofs.lemmas.Bool.{cases_lt}
use Rattle.base64.specs.Decode.{decode_error, decode_outcome, or_else, or_error, lone_error, groups_error, suffix_error, groups_before_last, bytes_fit}
use Rattle.base64.specs.Engines.{standard}
use Rattle.base64.specs.GeneralPurpose.{IsBytes, decode_of, decode_slice_of, decoded_bytes_of, encode_of}
use Rattle.base64.specs.Rfc4648.{encode_symbols, padding_len, unpadded_len}
use Rattle.base64.specs.declared.engine.DecodePaddingMode.TheVariants.{RequireCanonical}
use Rattle.base64.specs.declared.decode.DecodeError.{DecodeError}
use Rattle.base64.specs.declared.decode.DecodeSliceError.{DecodeSliceError}
use Rattle.base64.specs.declared.decode.DecodeSliceError.TheVariants.{OutputSliceTooSmall as too_small}
use Rattle.base64.proofs.EngineFacts.{decode_of-encode_of}
use Rattle.base64.proofs.RoundTrip.{length-encode_symbols}
use Rattle.auth_primitives.specs.Canonical.{IsBase64}
use Rattle.auth_scram.specs.Values.{base64_bytes, hash_of}

outcome_ok : (e : Option DecodeError) (b v : List ℕ) → decode_outcome e b ≡ Ok v → (e ≡ None) × (b ≡ v)
outcome_ok None b v h = (refl, cc h)
outcome_ok (Some e) b v h = cc h

-- what a base64 text decodes to
pub decodes : (text bytes : List ℕ) → IsBytes bytes → text ≡ encode_of standard bytes → decode_of standard text ≡ Ok bytes
decodes text bytes fits is_text = rw is_text (decode_of-encode_of standard bytes refl fits)

pub bytes_are : (text bytes : List ℕ) → decode_of standard text ≡ Ok bytes → base64_bytes text ≡ bytes
unfolding base64_bytes
bytes_are text bytes h = (outcome_ok _ (decoded_bytes_of standard text) bytes h).1

-- the bytes that a text of bytes is the base64 of
pub bytes_again : (text bytes : List ℕ) → IsBytes bytes → text ≡ encode_of standard bytes → base64_bytes text ≡ bytes
bytes_again text bytes fits is_text = bytes_are text bytes (decodes text bytes fits is_text)

pub length_of : (bytes : List ℕ) → length (encode_of standard bytes) ≡ unpadded_len (length bytes) + padding_len (length bytes)
length_of bytes =
    omega (
      arith,
      length-append (encode_symbols standard.encode_table bytes) (replicate (padding_len (length bytes)) 61),
      length-encode_symbols standard.encode_table bytes,
      length-replicate {A = ℕ} (padding_len (length bytes)) 61,
    )

abbrev refused : Result ℕ DecodeSliceError
refused = Err too_small

abbrev sliced : Option DecodeError → Option DecodeError → ℕ → ℕ → Result ℕ DecodeSliceError
sliced lone rest groups n = or_error lone (cond (nat_lt 10 groups) refused (or_error rest (bytes_fit n 32)))

or_else_none : (x y : Option DecodeError) → or_else x y ≡ None → (x ≡ None) × (y ≡ None)
or_else_none None y h = (refl, h)
or_else_none (Some e) y h = cc h

sliced_as : (lone rest : Option DecodeError) (groups n : ℕ) → or_else lone rest ≡ None → sliced lone rest groups n ≡ cond (nat_lt 10 groups) refused (bytes_fit n 32)
sliced_as lone rest groups n none =
    let parts = or_else_none lone rest none in
    rw (parts.0, parts.1) refl

-- 32 bytes are decoded into a place for 32, and no other number is taken for it
fits_32 : (groups n : ℕ) → groups ≡ (unpadded_len n + padding_len n - 1) / 4 → n ≡ 32 → cond (nat_lt 10 groups) refused (bytes_fit n 32) ≡ Ok 32
fits_32 groups n is_groups is_n =
    let small : groups ≤ 10 = omega arith in
    rw (le-ltb 10 groups small, is_n) refl

other_than_32 : (groups n m : ℕ) → cond (nat_lt 10 groups) refused (bytes_fit n 32) ≡ Ok m → n ≡ m
other_than_32 groups n m h =
    elim (cases_lt 10 groups) [
      | inl a ↦ cc (rw (lt-ltb 10 groups a) at h)
      | inr a ↦
          let fit : bytes_fit n 32 ≡ Ok m = rw (le-ltb 10 groups a) at h in
          elim (cases_lt 32 n) [
            | inl b ↦ cc (rw (lt-ltb 32 n b) at fit)
            | inr b ↦ cc (rw (le-ltb 32 n b) at fit)
          ]
    ]

slice_as : (text bytes : List ℕ) → IsBytes bytes → text ≡ encode_of standard bytes
    → decode_slice_of standard text 32 ≡ cond (nat_lt 10 (groups_before_last (length text))) refused (bytes_fit (length bytes) 32)
slice_as text bytes fits is_text =
    let parts = outcome_ok (decode_error standard.decode_table 61 false RequireCanonical text) (decoded_bytes_of standard text) bytes (decodes text bytes fits is_text) in
    let lone = lone_error standard.decode_table 61 text in
    let rest = or_else (groups_error standard.decode_table text (groups_before_last (length text)))
    (suffix_error standard.decode_table 61 false RequireCanonical (4 * groups_before_last (length text)) text) in
    sliced_as lone rest (groups_before_last (length text)) (length (decoded_bytes_of standard text)) parts.0
    ∙ ap (λ (b : List ℕ). cond (nat_lt 10 (groups_before_last (length text))) refused (bytes_fit (length b) 32)) parts.1

-- where a text is decoded into a place for 32 bytes, so many are decoded
pub sliced_ok : (text : List ℕ) (n : ℕ) → IsBase64 text → decode_slice_of standard text 32 ≡ Ok n → length (base64_bytes text) ≡ n
sliced_ok text n b h =
    let same = bytes_again text b.0 b.1 b.2 in
    rw same (other_than_32 (groups_before_last (length text)) (length b.0) n (sym (slice_as text b.0 b.1 b.2) ∙ h))

-- 32 bytes are decoded
pub sliced_32 : (text : List ℕ) → IsBase64 text → length (base64_bytes text) ≡ 32 → decode_slice_of standard text 32 ≡ Ok 32
sliced_32 text b h =
    let same = bytes_again text b.0 b.1 b.2 in
    let is_32 = rw same at h in
    let size : length text ≡ unpadded_len (length b.0) + padding_len (length b.0) = ap length b.2 ∙ length_of b.0 in
    slice_as text b.0 b.1 b.2 ∙ fits_32 (groups_before_last (length text)) (length b.0) (rw size refl) is_32

pub hash_some : (bytes : List ℕ) → length bytes ≡ 32 → hash_of bytes ≡ Some bytes
hash_some bytes h = rw (eq-eqb (length bytes) 32 h) refl

pub hash_none : (bytes : List ℕ) → (length bytes ≡ 32 → ⊥) → hash_of bytes ≡ None
hash_none bytes h = rw (ne_eqb (length bytes) 32 h) refl

pub written_32 : (text old new : List ℕ) → length old ≡ 32 → length (base64_bytes text) ≡ 32 → new ≡ decoded_bytes_of standard text ++ drop (length (decoded_bytes_of standard text)) old
    → new ≡ base64_bytes text
unfolding base64_bytes
written_32 text old new l h is_new =
    let none : drop (length (decoded_bytes_of standard text)) old ≡ [] = drop_all (length (decoded_bytes_of standard text)) old (omega arith) in
    is_new ∙ rw none (append-nil (decoded_bytes_of standard text))
