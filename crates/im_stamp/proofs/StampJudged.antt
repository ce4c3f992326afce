-- What is answered for a text, by the stamps that it is of.
use Rattle.std.proofs.Common.{◌≡◌, ℕ, ◌+◌, ◌*◌, ◌<◌, ◌≤◌, ◌⊎◌, inl, inr, Bool, true, false, nat_le, List, Result, Ok, Err, refl, sym, ap, subst, ◌∙◌, ◌↔◌, arith, ℤ, pos, negsuc, ◌<ℤ◌, ◌+ℤ◌, ◌*ℤ◌}
use Rattle.std.proofs.lemmas.Bool.Decides.{nat_tests}
use Rattle.std.proofs.lemmas.Bool.{cases_lt}
use Rattle.jiff_core.proofs.SignedLemmas.{signed_arith}
use Rattle.im_stamp.specs.Stamps.{IsStamp, Parts, millis, moment, seconds}
use Rattle.im_stamp.specs.StampReading.{is_stamp, moment_at, moment_of}
use Rattle.im_stamp.specs.declared.fault.StampFault.{StampFault}
use Rattle.im_stamp.specs.declared.fault.StampFault.TheVariants.{BadStamp, BeforeEpoch}
use Rattle.im_stamp.proofs.StampLaws.{stamp_read}
use Rattle.im_stamp.proofs.StampShapes.{millis_low, stamp_found}

at_most : (n m : ℕ) → n ≤ m → nat_le n m ≡ true
at_most n m low = grind (arith, nat_tests)

above : (n m : ℕ) → m < n → nat_le n m ≡ false
above n m high = grind (arith, nat_tests)

-- a number of milliseconds, and what is answered for it
data Judged (total : ℤ) (answer : Result ℕ StampFault) : Type 0 where
  told : (n : ℕ) → total ≡ pos n → n ≤ 253402207200000 → answer ≡ Ok n → Judged total answer
  past : (n : ℕ) → total ≡ pos n → 253402207200000 < n → answer ≡ Err BadStamp → Judged total answer
  early : total <ℤ pos 0 → answer ≡ Err BeforeEpoch → Judged total answer

total_pos : (s m : ℕ) → (pos s *ℤ pos 1000) +ℤ pos m ≡ pos (s * 1000 + m)
total_pos s m = omega (arith, signed_arith)

total_neg : (s m : ℕ) → m < 1000 → ((negsuc s *ℤ pos 1000) +ℤ pos m) <ℤ pos 0
total_neg s m low = omega (arith, signed_arith)

low_pos : (s m : ℕ) → s * 1000 + m ≤ 253402207200000 → moment_at (pos s) m ≡ Ok (s * 1000 + m)
unfolding moment_at
low_pos s m low = rw (at_most (s * 1000 + m) 253402207200000 low) refl

high_pos : (s m : ℕ) → 253402207200000 < s * 1000 + m → moment_at (pos s) m ≡ Err BadStamp
unfolding moment_at
high_pos s m high = rw (above (s * 1000 + m) 253402207200000 high) refl

negative : (s m : ℕ) → moment_at (negsuc s) m ≡ Err BeforeEpoch
unfolding moment_at
negative s m = refl

judged_at : (z : ℤ) (m : ℕ) → m < 1000 → Judged ((z *ℤ pos 1000) +ℤ pos m) (moment_at z m)
judged_at (pos s) m low =
    elim (cases_lt 253402207200000 (s * 1000 + m)) [
      | inl high ↦ past (s * 1000 + m) (total_pos s m) high (high_pos s m high)
      | inr at ↦ told (s * 1000 + m) (total_pos s m) at (low_pos s m at)
    ]
judged_at (negsuc s) m low = early (total_neg s m low) (negative s m)

judged : (text : List ℕ) (p : Parts) → IsStamp text p → Judged (moment p) (moment_of text)
judged text p w = rw (stamp_read text p w) (judged_at (seconds p) (millis p.digits) (millis_low p.digits w.fraction))

no_stamp : (text : List ℕ) → is_stamp text ≡ false → moment_of text ≡ Err BadStamp
unfolding moment_of
no_stamp text h = rw h refl

two_ways : (b : Bool) → (b ≡ true) ⊎ (b ≡ false)
two_ways true = inl refl
two_ways false = inr refl

Ok_same : (m n : ℕ) (r : Result ℕ StampFault) → r ≡ Ok m → r ≡ Ok n → m ≡ n
Ok_same m n r a b = let both = sym a ∙ b in cc both

pos_same : (m n : ℕ) (z : ℤ) → z ≡ pos m → z ≡ pos n → m ≡ n
pos_same m n z a b = let both = sym a ∙ b in cc both

not_below : (n : ℕ) (z : ℤ) → z ≡ pos n → z <ℤ pos 0 → ⊥
not_below n z is low = let P : ℤ → Type 0 = λ y. y <ℤ pos 0 in none n (subst P is low)
  where
    none : (n : ℕ) → pos n <ℤ pos 0 → ⊥
    none n h = omega (arith, signed_arith)

far : (n : ℕ) (z : ℤ) → z ≡ pos n → 253402207200000 < n → pos 253402207200000 <ℤ z
far n z is high = rw is (omega (arith, signed_arith))

not_far : (n : ℕ) (z : ℤ) → z ≡ pos n → n ≤ 253402207200000 → pos 253402207200000 <ℤ z → ⊥
not_far n z is low high = let P : ℤ → Type 0 = λ y. pos 253402207200000 <ℤ y in none n low (subst P is high)
  where
    none : (n : ℕ) → n ≤ 253402207200000 → pos 253402207200000 <ℤ pos n → ⊥
    none n low h = omega (arith, signed_arith)

below_and_far : (z : ℤ) → z <ℤ pos 0 → pos 253402207200000 <ℤ z → ⊥
below_and_far z low high = omega (arith, signed_arith)

-- ---- Ok

ok_of : (total : ℤ) (answer : Result ℕ StampFault) (ms : ℕ) → Judged total answer → answer ≡ Ok ms → (total ≡ pos ms) × (ms ≤ 253402207200000)
ok_of total answer ms (told n is low a) h = let e = Ok_same n ms answer a h in (is ∙ ap pos e, omega (arith, e))
ok_of total answer ms (past n is high a) h = let both = sym a ∙ h in cc both
ok_of total answer ms (early low a) h = let both = sym a ∙ h in cc both

of_ok : (total : ℤ) (answer : Result ℕ StampFault) (ms : ℕ) → Judged total answer → total ≡ pos ms → ms ≤ 253402207200000 → answer ≡ Ok ms
of_ok total answer ms (told n is low a) t last = a ∙ ap Ok (pos_same n ms total is t)
of_ok total answer ms (past n is high a) t last = let e = pos_same n ms total is t in absurd (omega (arith, e))
of_ok total answer ms (early low a) t last = absurd (not_below ms total t low)

ok_found : (text : List ℕ) (ms : ℕ) → moment_of text ≡ Ok ms → (p : Parts) × IsStamp text p × (moment p ≡ pos ms) × (ms ≤ 253402207200000)
ok_found text ms h =
    elim (two_ways (is_stamp text)) [
      | inl is ↦
          let f = stamp_found text is in
          let e = ok_of (moment f.0) (moment_of text) ms (judged text f.0 f.1) h in
          (f.0, f.1, e.0, e.1)
      | inr not_one ↦ let both = sym (no_stamp text not_one) ∙ h in cc both
    ]

pub judged_ok : (text : List ℕ) (ms : ℕ) → (moment_of text ≡ Ok ms) ↔ ((p : Parts) × IsStamp text p × (moment p ≡ pos ms) × (ms ≤ 253402207200000))
judged_ok text ms = (ok_found text ms, λ f. of_ok (moment f.0) (moment_of text) ms (judged text f.0 f.1) f.2 f.3)

-- ---- before 1970

before_of : (total : ℤ) (answer : Result ℕ StampFault) → Judged total answer → answer ≡ Err BeforeEpoch → total <ℤ pos 0
before_of total answer (told n is low a) h = let both = sym a ∙ h in cc both
before_of total answer (past n is high a) h = let both = sym a ∙ h in cc both
before_of total answer (early low a) h = low

of_before : (total : ℤ) (answer : Result ℕ StampFault) → Judged total answer → total <ℤ pos 0 → answer ≡ Err BeforeEpoch
of_before total answer (told n is low a) h = absurd (not_below n total is h)
of_before total answer (past n is high a) h = absurd (not_below n total is h)
of_before total answer (early low a) h = a

before_found : (text : List ℕ) → moment_of text ≡ Err BeforeEpoch → (p : Parts) × IsStamp text p × (moment p <ℤ pos 0)
before_found text h =
    elim (two_ways (is_stamp text)) [
      | inl is ↦
          let f = stamp_found text is in
          (f.0, f.1, before_of (moment f.0) (moment_of text) (judged text f.0 f.1) h)
      | inr not_one ↦ let both = sym (no_stamp text not_one) ∙ h in cc both
    ]

pub judged_before : (text : List ℕ) → (moment_of text ≡ Err BeforeEpoch) ↔ ((p : Parts) × IsStamp text p × (moment p <ℤ pos 0))
judged_before text = (before_found text, λ f. of_before (moment f.0) (moment_of text) (judged text f.0 f.1) f.2)

-- ---- no stamp, or too late

bad_of : (total : ℤ) (answer : Result ℕ StampFault) → Judged total answer → answer ≡ Err BadStamp → pos 253402207200000 <ℤ total
bad_of total answer (told n is low a) h = let both = sym a ∙ h in cc both
bad_of total answer (past n is high a) h = far n total is high
bad_of total answer (early low a) h = let both = sym a ∙ h in cc both

of_bad : (total : ℤ) (answer : Result ℕ StampFault) → Judged total answer → pos 253402207200000 <ℤ total → answer ≡ Err BadStamp
of_bad total answer (told n is low a) h = absurd (not_far n total is low h)
of_bad total answer (past n is high a) h = a
of_bad total answer (early low a) h = absurd (below_and_far total low h)

bad_found : (text : List ℕ) → ((p : Parts) → IsStamp text p → pos 253402207200000 <ℤ moment p) → moment_of text ≡ Err BadStamp
bad_found text h =
    elim (two_ways (is_stamp text)) [
      | inl is ↦
          let f = stamp_found text is in
          of_bad (moment f.0) (moment_of text) (judged text f.0 f.1) (h f.0 f.1)
      | inr not_one ↦ no_stamp text not_one
    ]

pub judged_bad : (text : List ℕ) → (moment_of text ≡ Err BadStamp) ↔ ((p : Parts) → IsStamp text p → pos 253402207200000 <ℤ moment p)
judged_bad text = (λ h p w. bad_of (moment p) (moment_of text) (judged text p w) h, bad_found text)
