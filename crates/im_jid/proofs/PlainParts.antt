-- Parts that pass a quick test are in normal form as they stand.
use Rattle.std.proofs.Common.{◌≡◌, ℕ, ◌<◌, Bool, true, false, not, ◌&&◌, ◌||◌, ◌==◌, List, [], ◌∷◌, ◌++◌, length, Some, Err, All, IsUtf8, chars, encode_utf8_all, refl, sym, ap, ◌∙◌, inl, inr, arith, if◌then◌else◌}
use Rattle.std.specs.Char.{is_ascii_uppercase}
use Rattle.std.specs.List.{list_all, slice_index}
use Rattle.std.specs.Str.{all_scalars}
use Rattle.std.proofs.lemmas.Bool.{cases_Bool, and_parts, and_from, or_parts, or_from, not-true, and_left, and_right}
use Rattle.std.proofs.lemmas.Bool.Decides.{nat_tests}
use Rattle.std.proofs.lemmas.List.Sums.{AllPass-from_list_all}
use Rattle.std.proofs.lemmas.Str.{chars-IsAscii, encodes-IsAscii, scalars-chars, IsUtf8-from_ascii, encodes_same, encodes-chars}
use Rattle.std.proofs.lemmas.Str.Ascii.{IsAscii-from_all}
use Rattle.idna.specs.AsciiDenyList.{denies}
use Rattle.idna.specs.Labels.{labels_of, join_labels}
use Rattle.idna.specs.Uts46.{domain_to_ascii}
use Rattle.idna.specs.Validity.{has_hyphens_third_and_fourth, is_valid_char, passes_hyphens}
use Rattle.idna.specs.declared.deny_list.TheConstants.AsciiDenyList.{STD3}
use Rattle.idna.specs.declared.options.Hyphens.TheVariants.{Allow}
use Rattle.idna.proofs.LabelsLemmas.{join_labels-labels_of}
use Rattle.idna.proofs.Uts46Lemmas.{to_ascii-plain}
use Rattle.idna.proofs.ValidityLemmas.{denies-may_be_denied, has_ace_prefix_by_index, is_valid_char-ascii}
use Rattle.unicode_normalization.specs.Forms.{nfc, Nfc}
use Rattle.unicode_normalization.proofs.FormsLemmas.{normalize-ascii}
use Rattle.im_jid.specs.declared.fault.JidFault.TheVariants.{BadResource}
use Rattle.im_jid.specs.Forms.{fitting, less_dot, whole_domain, domain_form, is_resource_char, fits_resource, resource_form}
use Rattle.im_jid.specs.Plain.{is_plain_byte, is_plain_name, is_printable}

-- ---- the domain

-- two hyphens stand side by side
abbrev has_pair : List ℕ → Bool
has_pair [] = false
has_pair (b ∷ []) = false
has_pair (b ∷ c ∷ bs) = ((b == 0x2D) && (c == 0x2D)) || has_pair (c ∷ bs)

pair_left : (xs ys : List ℕ) → has_pair (xs ++ ys) ≡ false → has_pair xs ≡ false
pair_left [] ys e = refl
pair_left (x ∷ []) ys e = refl
pair_left (x ∷ y ∷ xs) ys e =
    let parts = or_parts ((x == 0x2D) && (y == 0x2D)) (has_pair (y ∷ xs ++ ys)) e in or_from _ _ parts.0 (pair_left (y ∷ xs) ys parts.1)

pair_tail : (x : ℕ) (xs : List ℕ) → has_pair (x ∷ xs) ≡ false → has_pair xs ≡ false
pair_tail x [] e = refl
pair_tail x (y ∷ xs) e = (or_parts ((x == 0x2D) && (y == 0x2D)) (has_pair (y ∷ xs)) e).1

pair_right : (xs ys : List ℕ) → has_pair (xs ++ ys) ≡ false → has_pair ys ≡ false
pair_right [] ys e = e
pair_right (x ∷ xs) ys e = pair_right xs ys (pair_tail x (xs ++ ys) e)

no_pair_no_prefix : (label : List ℕ) → has_pair label ≡ false → passes_hyphens Allow label ≡ true
unfolding passes_hyphens
no_pair_no_prefix label e = rw (has_ace_prefix_by_index label) (by_length label e)
  where
    by_length : (xs : List ℕ) → has_pair xs ≡ false → not (has_hyphens_third_and_fourth xs && (slice_index xs 0 == 120) && (slice_index xs 1 == 110)) ≡ true
    by_length [] e' = refl
    by_length (a ∷ []) e' = refl
    by_length (a ∷ b ∷ []) e' = refl
    by_length (a ∷ b ∷ c ∷ []) e' =
        let none : has_hyphens_third_and_fourth (a ∷ b ∷ c ∷ []) ≡ false = and_right (c == 0x2D) false refl in rw none refl
    by_length (a ∷ b ∷ c ∷ d ∷ xs) e' =
        let none : has_hyphens_third_and_fourth (a ∷ b ∷ c ∷ d ∷ xs) ≡ false =
        (or_parts ((c == 0x2D) && (d == 0x2D)) (has_pair (d ∷ xs)) (pair_tail b (c ∷ d ∷ xs) (pair_tail a (b ∷ c ∷ d ∷ xs) e'))).0 in
        rw none refl

joined_no_pair : (labels : List (List ℕ)) → has_pair (join_labels labels) ≡ false → list_all (passes_hyphens Allow) labels ≡ true
joined_no_pair [] e = refl
joined_no_pair (label ∷ []) e = and_from _ _ (no_pair_no_prefix label e) refl
joined_no_pair (label ∷ next ∷ labels) e =
    let rest = join_labels (next ∷ labels) in
    and_from _ _ (no_pair_no_prefix label (pair_left label (0x2E ∷ rest) e))
    (joined_no_pair (next ∷ labels) (pair_tail 0x2E rest (pair_right label (0x2E ∷ rest) e)))

plain_no_pair : (hyphen : Bool) (x : ℕ) (name : List ℕ) → hyphen ≡ (x == 0x2D) → is_plain_name hyphen name ≡ true → has_pair (x ∷ name) ≡ false
plain_no_pair hyphen x [] before e = refl
plain_no_pair hyphen x (b ∷ name) before e =
    elim (cases_Bool (b == 0x2D)) [
      | inl yes' ↦
          let parts = and_parts (not hyphen) (is_plain_name true name) (rw yes' at e) in
          let single : (x == 0x2D) ≡ false = sym before ∙ not-true hyphen parts.0 in
          or_from _ _ (and_left _ _ single) (plain_no_pair true b name (sym yes') parts.1)
      | inr no' ↦
          let parts = and_parts (is_plain_byte b) (is_plain_name false name) (rw no' at e) in
          or_from _ _ (and_right _ _ no') (plain_no_pair false b name (sym no') parts.1)
    ]

abbrev is_name_byte : ℕ → Bool
is_name_byte b = is_plain_byte b || (b == 0x2D)

plain_bytes : (hyphen : Bool) (name : List ℕ) → is_plain_name hyphen name ≡ true → list_all is_name_byte name ≡ true
plain_bytes hyphen [] e = refl
plain_bytes hyphen (b ∷ name) e =
    elim (cases_Bool (b == 0x2D)) [
      | inl yes' ↦
          let parts = and_parts (not hyphen) (is_plain_name true name) (rw yes' at e) in
          and_from _ _ (or_true (is_plain_byte b) (b == 0x2D) yes') (plain_bytes true name parts.1)
      | inr no' ↦
          let parts = and_parts (is_plain_byte b) (is_plain_name false name) (rw no' at e) in
          and_from _ _ (true_or (is_plain_byte b) (b == 0x2D) parts.0) (plain_bytes false name parts.1)
    ]
  where
    or_true : (x y : Bool) → y ≡ true → (x || y) ≡ true
    or_true true y e' = refl
    or_true false y e' = e'

    true_or : (x y : Bool) → x ≡ true → (x || y) ≡ true
    true_or x y e' = rw e' refl

name_byte_valid : (b : ℕ) → is_name_byte b ≡ true → (b < 128) × (is_valid_char STD3 b ≡ true)
name_byte_valid b e =
    let small : b < 128 = grind (arith, nat_tests) in
    let lower : is_ascii_uppercase b ≡ false = grind (arith, nat_tests) in
    let allowed : denies STD3 b ≡ false = denies-may_be_denied STD3 b (grind (arith, nat_tests)) in
    (small, rw (is_valid_char-ascii STD3 b small, lower, allowed) refl)

-- a plain name is its own ASCII form
pub domain_to_ascii-plain : (name : List ℕ) → is_plain_name false name ≡ true → domain_to_ascii STD3 name ≡ Some name
domain_to_ascii-plain name e =
    let bytes = AllPass-from_list_all is_name_byte name (plain_bytes false name e) in
    let single = pair_tail 0 name (plain_no_pair false 0 name refl e) in
    to_ascii-plain STD3 Allow name
    (record {
      valid = λ k d lt. name_byte_valid _ (bytes k d lt);
      placed = joined_no_pair (labels_of name) (rw (join_labels-labels_of name) single);
    })

pub domain_form-plain : (given : List ℕ) → (length given == 0) ≡ false → is_plain_name false (less_dot given) ≡ true → domain_form given ≡ whole_domain (Some (less_dot given))
domain_form-plain given some e = rw (some, domain_to_ascii-plain (less_dot given) e) refl

-- ---- the resource

printable_char : (b : ℕ) → is_printable b ≡ true → (b < 128) × (is_resource_char b ≡ true)
printable_char b e = (grind (arith, nat_tests), grind (arith, nat_tests))

printable_chars : (text : List ℕ) → list_all is_printable text ≡ true → list_all is_resource_char text ≡ true
printable_chars [] e = refl
printable_chars (b ∷ text) e =
    let parts = and_parts (is_printable b) (list_all is_printable text) e in
    and_from _ _ (printable_char b parts.0).1 (printable_chars text parts.1)

printable_ascii : (text : List ℕ) → list_all is_printable text ≡ true → All (λ b. b < 128) text
printable_ascii text e = let each = AllPass-from_list_all is_printable text e in λ k d lt. (printable_char _ (each k d lt)).0

-- printable ASCII is its own form NFC
pub resource_form-printable : (text : List ℕ) → (length text == 0) ≡ false → list_all is_printable text ≡ true → resource_form text ≡ fitting text
resource_form-printable text some e =
    let small = printable_ascii text e in
    let ascii = IsAscii-from_all text small in
    let same : nfc (chars text) ≡ text = ap nfc (chars-IsAscii text ascii) ∙ normalize-ascii Nfc text small in
    let scalars : all_scalars text ≡ true = rw (chars-IsAscii text ascii) at (scalars-chars text (IsUtf8-from_ascii text ascii)) in
    let fits : fits_resource text ≡ true = and_from _ _ scalars (printable_chars text e) in
    rw (some, same, fits, encodes-IsAscii text ascii) refl

-- a text in form NFC that spells the characters of a resource
pub resource_form-spelled : (given spelled : List ℕ) → (length given == 0) ≡ false → IsUtf8 spelled → spelled ≡ encode_utf8_all (nfc (chars given)) → resource_form given ≡ (if list_all is_resource_char (chars spelled) then fitting spelled else Err BadResource)
resource_form-spelled given spelled some utf8 is =
    let same : chars spelled ≡ nfc (chars given) = encodes_same (chars spelled) (nfc (chars given)) (encodes-chars spelled utf8 ∙ is) in
    let scalars : all_scalars (nfc (chars given)) ≡ true = rw (← same) (scalars-chars spelled utf8) in
    rw (some, scalars, ← is, ← same) refl
