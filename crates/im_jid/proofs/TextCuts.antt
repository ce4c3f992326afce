-- Where the text of an address may be cut.
use Rattle.std.proofs.Common.{◌≡◌, ◌≢◌, ℕ, Some, None, ◌+◌, ◌-◌, ◌<◌, ◌≤◌, List, length, get_or, take, drop, IsUtf8, refl, sym, ap, ◌∙◌, inl, inr, arith, eqb-true, ltb-true}
use Rattle.std.specs.List.{position_or_len}
use Rattle.std.specs.Str.{IsCharBoundary}
use Rattle.std.proofs.lemmas.Bool.{cases_Bool, cases_lt}
use Rattle.std.proofs.lemmas.List.{length-take-le, get_or-take, drop-take, take-take}
use Rattle.std.proofs.lemmas.List.Sums.{passes_at_first, prefix_len-le-length}
use Rattle.std.proofs.lemmas.Str.{IsCharBoundary-start, IsCharBoundary-end, IsCharBoundary-before_ascii, IsCharBoundary-after_ascii}
use Rattle.im_jid.specs.Cuts.{is_slash, is_at, bare_len, bare_of, has_local, domain_start, domain_of, local_of, local_of_bare}

pub bare_len_within : (text : List ℕ) → bare_len text ≤ length text
bare_len_within text = prefix_len-le-length _ text

slash_there : (text : List ℕ) → bare_len text < length text → get_or text (bare_len text) 0 ≡ 47
slash_there text lt = eqb-true _ _ (passes_at_first is_slash text 0 lt)

-- where the bare text ends
pub bare_boundary : (text : List ℕ) → IsCharBoundary text (bare_len text)
bare_boundary text =
    elim (cases_lt (bare_len text) (length text)) [
      | inl lt ↦ IsCharBoundary-before_ascii text (bare_len text) lt (omega (arith, slash_there text lt))
      | inr ge ↦
          let all : bare_len text ≡ length text = omega (arith, bare_len_within text) in
          rw all (IsCharBoundary-end text)
    ]

-- where the resource begins
pub resource_boundary : (text : List ℕ) → IsUtf8 text → bare_len text < length text → IsCharBoundary text (bare_len text + 1)
resource_boundary text utf8 lt = IsCharBoundary-after_ascii text (bare_len text) utf8 lt (omega (arith, slash_there text lt))

-- the `@` of a local part
record HasAt (text : List ℕ) (i : ℕ) : Type 0 where
  within : i < length text
  there : get_or text i 0 ≡ 64

at_there : (text : List ℕ) → position_or_len is_at (bare_of text) < length (bare_of text) → HasAt text (position_or_len is_at (bare_of text))
at_there text lt =
    let bare = bare_len_within text in
    let size : length (bare_of text) ≡ bare_len text = length-take-le (bare_len text) text bare in
    let here : get_or (bare_of text) (position_or_len is_at (bare_of text)) 0 ≡ 64 = eqb-true _ _ (passes_at_first is_at (bare_of text) 0 lt) in
    record {
      within = omega arith;
      there = sym (get_or-take (bare_len text) text (position_or_len is_at (bare_of text)) 0 (omega arith)) ∙ here;
    }

-- where the domain begins
pub domain_boundary : (text : List ℕ) → IsUtf8 text → IsCharBoundary text (domain_start (bare_of text))
domain_boundary text utf8 =
    elim (cases_Bool (has_local (bare_of text))) [
      | inl there ↦
          let h = at_there text (ltb-true _ _ there) in
          rw there (IsCharBoundary-after_ascii text (position_or_len is_at (bare_of text)) utf8 h.within (omega (arith, h.there)))
      | inr none ↦ rw none (IsCharBoundary-start text utf8)
    ]

-- where the local part ends
pub local_boundary : (text : List ℕ) → IsUtf8 text → IsCharBoundary text (domain_start (bare_of text) - 1)
local_boundary text utf8 =
    elim (cases_Bool (has_local (bare_of text))) [
      | inl there ↦
          let h = at_there text (ltb-true _ _ there) in
          let same : position_or_len is_at (bare_of text) + 1 - 1 ≡ position_or_len is_at (bare_of text) = omega arith in
          rw (there, same) (IsCharBoundary-before_ascii text (position_or_len is_at (bare_of text)) h.within (omega (arith, h.there)))
      | inr none ↦ rw none (IsCharBoundary-start text utf8)
    ]

-- the domain begins where the bare text ends, or before
pub domain_within : (text : List ℕ) → domain_start (bare_of text) ≤ bare_len text
domain_within text =
    elim (cases_Bool (has_local (bare_of text))) [
      | inl there ↦
          let size : length (bare_of text) ≡ bare_len text = length-take-le (bare_len text) text (bare_len_within text) in
          let lt : position_or_len is_at (bare_of text) < length (bare_of text) = ltb-true _ _ there in
          rw there (omega arith)
      | inr none ↦ rw none (omega arith)
    ]

-- the domain, cut out of the whole text
pub domain_cut : (text : List ℕ) → take (bare_len text - domain_start (bare_of text)) (drop (domain_start (bare_of text)) text) ≡ domain_of text
domain_cut text =
    let start = domain_start (bare_of text) in
    let ends : start + (bare_len text - start) ≡ bare_len text = omega (arith, domain_within text) in
    sym (drop-take start (bare_len text - start) text) ∙ ap (λ n. drop start (take n text)) ends

-- the local part, cut out of the whole text
pub local_cut : (text : List ℕ) → domain_start (bare_of text) ≢ 0 → local_of text ≡ Some (take (domain_start (bare_of text) - 1) text)
local_cut text some =
    elim (cases_Bool (has_local (bare_of text))) [
      | inl there ↦
          let size : length (bare_of text) ≡ bare_len text = length-take-le (bare_len text) text (bare_len_within text) in
          let lt : position_or_len is_at (bare_of text) < length (bare_of text) = ltb-true _ _ there in
          let same : position_or_len is_at (bare_of text) + 1 - 1 ≡ position_or_len is_at (bare_of text) = omega arith in
          rw (there, same) (ap Some (take-take (position_or_len is_at (bare_of text)) (bare_len text) text (omega arith)))
      | inr none ↦ absurd (some (rw none refl))
    ]

pub local_none : (text : List ℕ) → domain_start (bare_of text) ≡ 0 → local_of text ≡ None
local_none text zero_start =
    elim (cases_Bool (has_local (bare_of text))) [
      | inl there ↦ absurd (omega (arith, rw there at zero_start))
      | inr none ↦ rw none refl
    ]

pub bare_size : (text : List ℕ) → length (bare_of text) ≡ bare_len text
bare_size text = length-take-le (bare_len text) text (bare_len_within text)

-- the domain begins after the `@` of the local part
pub start_after : (bare local : List ℕ) → Some local ≡ local_of_bare bare → domain_start bare ≡ length local + 1
start_after bare local is =
    elim (cases_Bool (has_local bare)) [
      | inl there ↦
          let at : Some local ≡ Some (take (position_or_len is_at bare) bare) = rw there at is in
          let same : local ≡ take (position_or_len is_at bare) bare = cc in
          let lt : position_or_len is_at bare < length bare = ltb-true _ _ there in
          rw there (omega (arith, ap length same, length-take-le (position_or_len is_at bare) bare (omega arith)))
      | inr none ↦
          let at : Some local ≡ None = rw none at is in cc
    ]

pub start_none : (bare : List ℕ) → None ≡ local_of_bare bare → domain_start bare ≡ 0
start_none bare is =
    elim (cases_Bool (has_local bare)) [
      | inl there ↦
          let at : None ≡ Some (take (position_or_len is_at bare) bare) = rw there at is in cc
      | inr none ↦ rw none refl
    ]
