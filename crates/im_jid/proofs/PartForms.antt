-- What the normal form of each part has, and that it is its own normal form.
use Rattle.std.proofs.Common.{◌≡◌, ℕ, ◌<◌, ◌≤◌, Bool, true, false, ◌||◌, ◌==◌, nat_le, List, [], ◌∷◌, map, length, flat_map, Option, Some, None, Ok, Err, Result, All, IsAscii, IsUtf8, if◌then◌else◌, chars, encode_utf8_all, refl, sym, ap, ◌∙◌, arith, length-append, leb-true, le-leb, ap₂}
use Rattle.std.specs.Char.{to_ascii_lowercase, is_ascii_uppercase}
use Rattle.std.specs.List.{list_all, list_any}
use Rattle.std.specs.Str.{all_scalars}
use Rattle.std.proofs.lemmas.Bool.{and_parts, and_from, or_parts, or_from}
use Rattle.std.proofs.lemmas.Bool.Decides.{nat_tests}
use Rattle.std.proofs.lemmas.List.{length-map}
use Rattle.std.proofs.lemmas.List.Folds.{list_any_none}
use Rattle.std.proofs.lemmas.List.Sums.{AllPass-from_list_all}
use Rattle.std.proofs.lemmas.Str.{chars-encodes, encodes-chars, length-le-encodes}
use Rattle.std.proofs.lemmas.Str.Ascii.{IsAscii-from_all}
use Rattle.idna.specs.Uts46.{domain_to_ascii}
use Rattle.idna.specs.declared.deny_list.TheConstants.AsciiDenyList.{STD3}
use Rattle.idna.proofs.Uts46Lemmas.{IsOutputByte, All-to_ascii, to_ascii_idem}
use Rattle.idna.proofs.ValidityLemmas.{denies-STD3}
use Rattle.unicode_normalization.specs.Decompose.{decompose}
use Rattle.unicode_normalization.specs.Forms.{decomposed, nfc, nfd, Nfd}
use Rattle.unicode_normalization.proofs.DecomposeLemmas.{length-from_decompose}
use Rattle.unicode_normalization.proofs.OrderLemmas.{length-canonical_order}
use Rattle.unicode_normalization.proofs.FormsLemmas.{nfc_idem, nfd-nfc, normalize-nil, normalize-Nfd}
use Rattle.im_jid.specs.declared.fault.JidFault.{JidFault}
use Rattle.im_jid.specs.declared.fault.JidFault.TheVariants.{Empty, BadLocal, BadDomain, BadResource, TooLong}
use Rattle.im_jid.specs.Cuts.{is_slash, is_at}
use Rattle.im_jid.specs.Forms.{fitting, is_local_byte, local_form, ends_in_dot, less_dot, whole_domain, domain_form, fits_resource, resource_form}
use Rattle.im_jid.specs.Normal.{IsPartLength}

-- a choice that came out well took the branch that can
pub ok_from_else : {T : Type 0} (b : Bool) (fault : JidFault) (other : Result T JidFault) (value : T) → (if b then Err fault else other) ≡ Ok value → (b ≡ false) × (other ≡ Ok value)
ok_from_else true fault other value e = cc
ok_from_else false fault other value e = (refl, e)

pub ok_from_then : {T : Type 0} (b : Bool) (fault : JidFault) (other : Result T JidFault) (value : T) → (if b then other else Err fault) ≡ Ok value → (b ≡ true) × (other ≡ Ok value)
ok_from_then true fault other value e = (refl, e)
ok_from_then false fault other value e = cc

pub fitting_ok : (given part : List ℕ) → fitting given ≡ Ok part → (given ≡ part) × (length part ≤ 1023)
fitting_ok given part e =
    let parts = ok_from_then (nat_le (length given) 1023) TooLong (Ok given) part e in
    let same : given ≡ part = cc in
    (same, leb-true _ 1023 (rw same at parts.0))

pub fitting_again : (part : List ℕ) → length part ≤ 1023 → fitting part ≡ Ok part
fitting_again part few = rw (le-leb (length part) 1023 few) refl

some_from : (part : List ℕ) → (length part == 0) ≡ false → 1 ≤ length part
some_from part e = grind (arith, nat_tests)

not_empty : (part : List ℕ) → 1 ≤ length part → (length part == 0) ≡ false
not_empty part some = grind (arith, nat_tests)

-- ---- the local part

pub record IsLocalForm (part : List ℕ) : Type 0 where
  pub size : IsPartLength part
  pub valid : list_all is_local_byte part ≡ true
  pub lower : list_any is_ascii_uppercase part ≡ false

local_byte-lower : (b : ℕ) → is_local_byte b ≡ true → is_local_byte (to_ascii_lowercase b) ≡ true
local_byte-lower b e = grind (arith, nat_tests)

uppercase-lower : (b : ℕ) → is_ascii_uppercase (to_ascii_lowercase b) ≡ false
uppercase-lower b = grind (arith, nat_tests)

lower_valid : (xs : List ℕ) → list_all is_local_byte xs ≡ true → list_all is_local_byte (map to_ascii_lowercase xs) ≡ true
lower_valid [] e = refl
lower_valid (x ∷ xs) e =
    let parts = and_parts (is_local_byte x) (list_all is_local_byte xs) e in
    and_from _ _ (local_byte-lower x parts.0) (lower_valid xs parts.1)

lower_lower : (xs : List ℕ) → list_any is_ascii_uppercase (map to_ascii_lowercase xs) ≡ false
lower_lower [] = refl
lower_lower (x ∷ xs) = or_from _ _ (uppercase-lower x) (lower_lower xs)

pub lower_kept : (xs : List ℕ) → list_any is_ascii_uppercase xs ≡ false → map to_ascii_lowercase xs ≡ xs
lower_kept [] e = refl
lower_kept (x ∷ xs) e =
    let parts = or_parts (is_ascii_uppercase x) (list_any is_ascii_uppercase xs) e in
    let first : to_ascii_lowercase x ≡ x = grind (arith, nat_tests) in
    ap₂ (λ y ys. y ∷ ys) first (lower_kept xs parts.1)

pub local_form_ok : (given part : List ℕ) → local_form given ≡ Ok part → IsLocalForm part
local_form_ok given part e =
    let some = ok_from_else (length given == 0) Empty _ part e in
    let valid = ok_from_then (list_all is_local_byte given) BadLocal _ part some.1 in
    let fits = fitting_ok _ part valid.1 in
    let same : length (map to_ascii_lowercase given) ≡ length given = simp length-map in
    let size = some_from given some.0 in
    record {
      size = (omega (arith, ap length fits.0), fits.1);
      valid = rw (← fits.0) (lower_valid given valid.0);
      lower = rw (← fits.0) (lower_lower given);
    }

pub local_form_again : (part : List ℕ) → IsLocalForm part → local_form part ≡ Ok part
local_form_again part h = rw (not_empty part h.size.0, h.valid, lower_kept part h.lower) (fitting_again part h.size.1)

local_byte_kept : (b : ℕ) → is_local_byte b ≡ true → (is_slash b ≡ false) × (is_at b ≡ false)
local_byte_kept b e = (grind (arith, nat_tests), grind (arith, nat_tests))

pub local_uncut : (xs : List ℕ) → list_all is_local_byte xs ≡ true → (list_any is_slash xs ≡ false) × (list_any is_at xs ≡ false)
local_uncut [] e = (refl, refl)
local_uncut (x ∷ xs) e =
    let parts = and_parts (is_local_byte x) (list_all is_local_byte xs) e in
    let first = local_byte_kept x parts.0 in
    let rest = local_uncut xs parts.1 in
    (or_from _ _ first.0 rest.0, or_from _ _ first.1 rest.1)

local_byte_ascii : (b : ℕ) → is_local_byte b ≡ true → b < 128
local_byte_ascii b e = grind (arith, nat_tests)

pub local_ascii : (part : List ℕ) → IsLocalForm part → IsAscii part
local_ascii part h =
    let each = AllPass-from_list_all is_local_byte part h.valid in IsAscii-from_all part (λ k d lt. local_byte_ascii _ (each k d lt))

-- ---- the domain

pub record IsDomainForm (part : List ℕ) : Type 0 where
  pub size : IsPartLength part
  pub dotless : ends_in_dot part ≡ false
  pub ascii : domain_to_ascii STD3 part ≡ Some part
  pub bytes : All (IsOutputByte STD3) part

whole_domain_ok : (given : List ℕ) (ascii : Option (List ℕ)) (part : List ℕ) → domain_to_ascii STD3 given ≡ ascii → whole_domain ascii ≡ Ok part → IsDomainForm part
whole_domain_ok given None part is e = cc
whole_domain_ok given (Some ascii) part is e =
    let whole = ok_from_else ((length ascii == 0) || ends_in_dot ascii) BadDomain _ part e in
    let sides = or_parts (length ascii == 0) (ends_in_dot ascii) whole.0 in
    let fits = fitting_ok ascii part whole.1 in
    let same : domain_to_ascii STD3 given ≡ Some part = is ∙ ap Some fits.0 in
    record {
      size = (some_from part (rw (← fits.0) sides.0), fits.1);
      dotless = rw (← fits.0) sides.1;
      ascii = to_ascii_idem _ _ _ _ _ same;
      bytes = All-to_ascii _ _ _ _ _ same;
    }

pub domain_form_ok : (given part : List ℕ) → domain_form given ≡ Ok part → IsDomainForm part
domain_form_ok given part e =
    let some = ok_from_else (length given == 0) Empty _ part e in whole_domain_ok (less_dot given) _ part refl some.1

pub domain_form_again : (part : List ℕ) → IsDomainForm part → domain_form part ≡ Ok part
domain_form_again part h =
    rw (not_empty part h.size.0, h.dotless, h.ascii, not_empty part h.size.0, h.dotless) (fitting_again part h.size.1)

domain_byte_kept : (b : ℕ) → IsOutputByte STD3 b → (is_slash b ≡ false) × (is_at b ≡ false)
domain_byte_kept b h = let allowed = sym (denies-STD3 b) ∙ h.allowed in (grind (arith, nat_tests), grind (arith, nat_tests))

pub domain_uncut : (part : List ℕ) → IsDomainForm part → (list_any is_slash part ≡ false) × (list_any is_at part ≡ false)
domain_uncut part h = (
  list_any_none is_slash part (λ k d lt. (domain_byte_kept _ (h.bytes k d lt)).0),
  list_any_none is_at part (λ k d lt. (domain_byte_kept _ (h.bytes k d lt)).1),
)

pub domain_ascii : (part : List ℕ) → IsDomainForm part → IsAscii part
domain_ascii part h = IsAscii-from_all part (λ k d lt. (h.bytes k d lt).ascii)

-- ---- the resource

pub record IsResourceForm (part : List ℕ) : Type 0 where
  pub size : IsPartLength part
  pub utf8 : IsUtf8 part
  pub composed : nfc (chars part) ≡ chars part
  pub fits : fits_resource (chars part) ≡ true

decomposed_some : (cs : List ℕ) → 1 ≤ length cs → 1 ≤ length (flat_map (decompose Nfd) cs)
decomposed_some [] some = some
decomposed_some (c ∷ cs) some =
    omega (arith, (length-from_decompose Nfd c _ refl).0, length-append (decompose Nfd c) (flat_map (decompose Nfd) cs))

nfd_some : (cs : List ℕ) → 1 ≤ length cs → 1 ≤ length (nfd cs)
unfolding decomposed
nfd_some cs some =
    rw (normalize-Nfd cs, length-canonical_order) (decomposed_some cs some)

-- what isn't empty has a form NFC that isn't empty
nfc_some : (cs : List ℕ) → 1 ≤ length cs → 1 ≤ length (nfc cs)
nfc_some cs some = by_form (nfc cs) refl
  where
    by_form : (form : List ℕ) → nfc cs ≡ form → 1 ≤ length form
    by_form [] e =
        let none : nfd cs ≡ [] = sym (nfd-nfc cs) ∙ ap nfd e ∙ normalize-nil Nfd in
        absurd (omega (arith, nfd_some cs some, ap length none))
    by_form (c ∷ form) e = omega arith

chars_some : (bs : List ℕ) → IsUtf8 bs → 1 ≤ length bs → 1 ≤ length (chars bs)
chars_some bs utf8 some = by_chars (chars bs) refl
  where
    by_chars : (cs : List ℕ) → chars bs ≡ cs → 1 ≤ length cs
    by_chars [] e = absurd (omega (arith, ap length (sym (encodes-chars bs utf8) ∙ ap encode_utf8_all e)))
    by_chars (c ∷ cs) e = omega arith

pub resource_form_ok : (given part : List ℕ) → IsUtf8 given → resource_form given ≡ Ok part → IsResourceForm part
resource_form_ok given part utf8 e =
    let some = ok_from_else (length given == 0) Empty _ part e in
    let fit = ok_from_then (fits_resource (nfc (chars given))) BadResource _ part some.1 in
    let fits = fitting_ok _ part fit.1 in
    let scalars = (and_parts (all_scalars (nfc (chars given))) _ fit.0).0 in
    let back : chars part ≡ nfc (chars given) = ap chars (sym fits.0) ∙ chars-encodes _ scalars in
    let many = nfc_some (chars given) (chars_some given utf8 (some_from given some.0)) in
    record {
      size = (omega (arith, ap length fits.0, length-le-encodes (nfc (chars given))), fits.1);
      utf8 = (nfc (chars given), (scalars, fits.0));
      composed = ap nfc back ∙ nfc_idem (chars given) ∙ sym back;
      fits = rw back fit.0;
    }

pub resource_form_again : (part : List ℕ) → IsResourceForm part → resource_form part ≡ Ok part
resource_form_again part h =
    rw (not_empty part h.size.0, h.composed, h.fits, encodes-chars part h.utf8) (fitting_again part h.size.1)

-- a resource in normal form is UTF-8
pub resource_form_utf8 : (given part : List ℕ) → resource_form given ≡ Ok part → IsUtf8 part
resource_form_utf8 given part e =
    let some = ok_from_else (length given == 0) Empty _ part e in
    let fit = ok_from_then (fits_resource (nfc (chars given))) BadResource _ part some.1 in
    let fits = fitting_ok _ part fit.1 in
    (nfc (chars given), ((and_parts (all_scalars (nfc (chars given))) _ fit.0).0, fits.0))
