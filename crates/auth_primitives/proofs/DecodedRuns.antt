-- What base64 decodes to are bytes, where it was bytes.
use Rattle.std.proofs.Common.{◌≡◌, ℕ, zero, suc, ◌+◌, ◌*◌, ◌<◌, List, [], ◌∷◌, length, take, drop, slice_index, Option, Some, None, Result, Ok, Err, refl, sym, ap, ◌∙◌, subst, arith, inl, inr, ◌⊎◌}
use Rattle.std.proofs.lemmas.List.{get_or-drop, take-append-drop}
use Rattle.base64.proofs.Decoding.{IsLeftover, IsLeftover_next, scan-cons_err, scan-cons_ok, scan-nil}
use Rattle.base64.proofs.EngineFacts.{decode_of_bytes, front_bytes}
use Rattle.base64.proofs.Tables.{IsDecodeTable_from, are_tables_inverse}
use Rattle.base64.specs.Decode.{IsDecodeTable, decode_error, decode_group, decode_outcome, group_bytes, group_error, groups_before_last, groups_bytes, groups_error, leftover_bytes, lone_error, no_leftover, or_else, push_leftover, scan, scan_bytes, scan_last, suffix_bytes, suffix_error, symbol_error}
use Rattle.base64.specs.GeneralPurpose.{IsBytes, decode_of, decoded_bytes_of}
use Rattle.base64.specs.declared.decode.DecodeError.{DecodeError}
use Rattle.base64.specs.declared.engine.general_purpose.GeneralPurpose.{GeneralPurpose}
use Rattle.auth_primitives.proofs.ByteSteps.{IsBytes-append, IsBytes-nil}

bytes_dropped : (n : ℕ) (s : List ℕ) → IsBytes s → IsBytes (drop n s)
bytes_dropped n s bytes i = rw (get_or-drop n s i 0) (bytes (n + i))

bytes_taken : (n : ℕ) (s : List ℕ) → IsBytes s → IsBytes (take n s)
bytes_taken n s bytes = front_bytes (take n s) (drop n s) (subst IsBytes (sym (take-append-drop n s)) bytes)

-- four values of symbols are three bytes
group_fits : (a b c d : ℕ) → a < 64 → b < 64 → c < 64 → d < 64 → IsBytes (decode_group a b c d)
group_fits a b c d p q r t zero = omega (arith, p, q)
group_fits a b c d p q r t (suc zero) = omega (arith, q, r)
group_fits a b c d p q r t (suc (suc zero)) = omega (arith, r, t)
group_fits a b c d p q r t (suc (suc (suc i))) = omega arith

no_error : (x y : Option DecodeError) → or_else x y ≡ None → (x ≡ None) × (y ≡ None)
no_error None y is = (refl, is)
no_error (Some e) y is = cc is

symbol_low : (dec s : List ℕ) (i : ℕ) → IsDecodeTable dec → IsBytes s → symbol_error dec s i ≡ None → slice_index dec (slice_index s i) < 64
symbol_low dec s i table bytes none = elim (table (slice_index s i) (bytes i)) [ inl bad ↦ cc (rw bad at none) | inr low ↦ low ]

groups_fit : (dec s : List ℕ) (q : ℕ) → IsDecodeTable dec → IsBytes s → groups_error dec s q ≡ None → IsBytes (groups_bytes dec s q)
unfolding groups_error groups_bytes
groups_fit dec s zero table bytes none = IsBytes-nil
groups_fit dec s (suc q) table bytes none =
    let i : ℕ = 4 * q in
    let both = no_error (groups_error dec s q) (group_error dec s i) none in
    let p = no_error (symbol_error dec s i) _ both.1 in
    let r = no_error (symbol_error dec s (i + 1)) _ p.1 in
    let t = no_error (symbol_error dec s (i + 2)) (symbol_error dec s (i + 3)) r.1 in
    IsBytes-append (groups_bytes dec s q) (group_bytes dec s i) (groups_fit dec s q table bytes both.0)
    (group_fits _ _ _ _ (symbol_low dec s i table bytes p.0) (symbol_low dec s (i + 1) table bytes r.0) (symbol_low dec s (i + 2) table bytes t.0) (symbol_low dec s (i + 3) table bytes t.1))

result_cases : {A E : Type 0} (r : Result A E) → ((x : A) × (r ≡ Ok x)) ⊎ ((e : E) × (r ≡ Err e))
result_cases (Ok x) = inl (x, refl)
result_cases (Err e) = inr (e, refl)

-- what the scan of the last group keeps is values of symbols
scan_keeps : (dec : List ℕ) (pad at : ℕ) (bs : List ℕ) (st fin : _) (i : ℕ) → IsDecodeTable dec → IsBytes bs → IsLeftover st i → scan dec pad at st i bs ≡ Ok fin → (j : ℕ) × IsLeftover fin j
scan_keeps dec pad at [] st fin i table bytes held is =
    let both = sym (scan-nil dec pad at st i) ∙ is in
    let same : st ≡ fin = cc both in
    (i, subst (λ l. IsLeftover l i) same held)
scan_keeps dec pad at (b ∷ bs) st fin i table bytes held is =
    elim (result_cases (push_leftover dec pad at st i b)) [
      | inl ok ↦ scan_keeps dec pad at bs ok.0 fin (i + 1) table (λ k. bytes (suc k)) (IsLeftover_next dec pad at st i b ok.0 table held (bytes 0) ok.1) (sym (scan-cons_ok dec pad at st i b bs ok.0 ok.1) ∙ is)
      | inr err ↦ let both = sym (scan-cons_err dec pad at st i b bs err.0 err.1) ∙ is in cc both
    ]

zeros_low : (k : ℕ) → slice_index (0 ∷ 0 ∷ 0 ∷ 0 ∷ []) k < 64
zeros_low zero = omega arith
zeros_low (suc zero) = omega arith
zeros_low (suc (suc zero)) = omega arith
zeros_low (suc (suc (suc zero))) = omega arith
zeros_low (suc (suc (suc (suc k)))) = omega arith

suffix_fits : (dec : List ℕ) (pad at : ℕ) (s : List ℕ) → IsDecodeTable dec → IsBytes s → IsBytes (suffix_bytes dec pad at s)
suffix_fits dec pad at s table bytes =
    elim (result_cases (scan_last dec pad at s)) [
      | inl ok ↦
          let kept = scan_keeps dec pad at (drop at s) no_leftover ok.0 0 table (bytes_dropped at s bytes) (omega arith, omega arith, omega arith, zeros_low) ok.1 in
          let low = kept.1.3 in
          let fits : IsBytes (leftover_bytes ok.0) = bytes_taken _ _ (group_fits _ _ _ _ (low 0) (low 1) (low 2) (low 3)) in
          subst IsBytes (sym (ap scan_bytes ok.1)) fits
      | inr err ↦ subst IsBytes (sym (ap scan_bytes err.1)) IsBytes-nil
    ]

outcome_none : (error : Option DecodeError) (bytes b : List ℕ) → decode_outcome error bytes ≡ Ok b → error ≡ None
outcome_none None bytes b is = refl
outcome_none (Some e) bytes b is = cc is

pub decoded_are_bytes : (e : GeneralPurpose) (s b : List ℕ) → IsBytes s → decode_of e s ≡ Ok b → IsBytes b
decoded_are_bytes e s b bytes is =
    let dec = e.decode_table in
    let q = groups_before_last (length s) in
    let table = IsDecodeTable_from e.encode_table dec (are_tables_inverse e.encode_table dec e.padding.value e.tables) in
    let none : decode_error dec e.padding.value e.config.decode_allow_trailing_bits e.config.decode_padding_mode s ≡ None = outcome_none _ (decoded_bytes_of e s) b is in
    let following = no_error (lone_error dec e.padding.value s) _ none in
    let groups = no_error (groups_error dec s q) (suffix_error dec e.padding.value e.config.decode_allow_trailing_bits e.config.decode_padding_mode (4 * q) s) following.1 in
    decode_of_bytes e s b (IsBytes-append (groups_bytes dec s q) (suffix_bytes dec e.padding.value (4 * q) s) (groups_fit dec s q table bytes groups.0) (suffix_fits dec e.padding.value (4 * q) s table bytes)) is
