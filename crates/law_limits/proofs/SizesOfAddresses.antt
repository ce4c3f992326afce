-- Addresses in normal form are texts of XML's characters, and short (RFC 7622, sections 3.1 to 3.4).
use Rattle.std.proofs.Common.{◌≡◌, ℕ, ◌+◌, ◌<◌, nat_lt, get_or, true, ◌&&◌, ◌==◌, List, [], ◌∷◌, ◌++◌, Option, Some, None, Result, Ok, Err, IfSome, IsUtf8, chars, drop, take, length, encode_utf8_all, refl, sym, subst, ap, ◌∙◌, inl, inr, arith, ltb-true, eqb-true}
use Rattle.std.proofs.lemmas.Bool.{and_from, and_parts, cases_Bool}
use Rattle.std.proofs.lemmas.Bool.Decides.{nat_tests}
use Rattle.std.proofs.lemmas.List.{take-append-drop}
use Rattle.std.proofs.lemmas.List.Folds.{list_all-append}
use Rattle.std.proofs.lemmas.List.Sums.{list_all-from_AllPass, passes_at_first}
use Rattle.std.proofs.lemmas.Str.{IsCharBoundary-after_ascii, IsUtf8-drop, IsUtf8-take, chars-append, chars_from_encodes}
use Rattle.std.specs.List.{list_all}
use Rattle.std.specs.Str.{IsCharBoundary, all_scalars}
use Rattle.idna.proofs.Uts46Lemmas.{IsOutputByte}
use Rattle.idna.proofs.ValidityLemmas.{denies-STD3}
use Rattle.idna.specs.declared.deny_list.TheConstants.AsciiDenyList.{STD3}
use Rattle.unicode_normalization.specs.Forms.{nfc}
use Rattle.im_jid.proofs.PartForms.{domain_form_ok, fitting_ok, local_form_ok, ok_from_else, ok_from_then}
use Rattle.im_jid.specs.Cuts.{bare_len, domain_of, is_slash, local_of, resource_of}
use Rattle.im_jid.specs.Forms.{domain_form, fits_resource, is_local_byte, is_resource_char, local_form, resource_form}
use Rattle.im_jid.specs.Normal.{after_slash, followed_by_at, joined, local_front, normal, resource_back}
use Rattle.im_jid.specs.declared.fault.JidFault.{JidFault}
use Rattle.im_jid.specs.declared.fault.JidFault.TheVariants.{BadResource, Empty}
use Rattle.law_limits.proofs.Characters.{from_those, said_append, said_printable, said_word, those_of}
use Rattle.law_limits.proofs.NormalForms.{is_sound, nfc_sound}
use Rattle.law_limits.proofs.TextSizes.{value_short}
use Rattle.law_limits.specs.Texts.{Said, is_printable}
use Rattle.xml_tokens.specs.Characters.{is_character}
use Rattle.xml_tokens.specs.Lines.{IsCharacters}

-- ---- the local part and the domain, which are ASCII

local_printable : (b : ℕ) → is_local_byte b ≡ true → is_printable b ≡ true
local_printable b e = grind (arith, nat_tests)

locals_printable : (t : List ℕ) → list_all is_local_byte t ≡ true → list_all is_printable t ≡ true
locals_printable [] h = refl
locals_printable (b ∷ t) h = let parts = and_parts (is_local_byte b) (list_all is_local_byte t) h in and_from _ _ (local_printable b parts.0) (locals_printable t parts.1)

pub local_said : (given part : List ℕ) → local_form given ≡ Ok part → Said 6138 part
local_said given part is =
    let form = local_form_ok given part is in
    let few = form.size.1 in
    said_printable 6138 part (locals_printable part form.valid) (omega (arith, few))

domain_printable : (b : ℕ) → IsOutputByte STD3 b → is_printable b ≡ true
domain_printable b h =
    let allowed = sym (denies-STD3 b) ∙ h.allowed in
    let low = h.ascii in
    let lower = h.lower in
    grind (arith, nat_tests)

pub domain_said : (given part : List ℕ) → domain_form given ≡ Ok part → Said 6138 part
domain_said given part is =
    let form = domain_form_ok given part is in
    let few = form.size.1 in
    said_printable 6138 part (list_all-from_AllPass is_printable part (λ k d lt. domain_printable _ (form.bytes k d lt))) (omega (arith, few))

-- ---- the resource

resource_character : (c : ℕ) → all_scalars (c ∷ []) ≡ true → is_resource_char c ≡ true → is_sound c ≡ true → is_character c ≡ true
resource_character c h k l = grind (arith, nat_tests)

sound_character : (c : ℕ) → is_character c ≡ true → is_sound c ≡ true
sound_character c h = grind (arith, nat_tests)

sound_characters : (cs : List ℕ) → list_all is_character cs ≡ true → list_all is_sound cs ≡ true
sound_characters [] h = refl
sound_characters (c ∷ cs) h = let parts = and_parts (is_character c) (list_all is_character cs) h in and_from _ _ (sound_character c parts.0) (sound_characters cs parts.1)

resource_characters : (cs : List ℕ) → all_scalars cs ≡ true → list_all is_resource_char cs ≡ true → list_all is_sound cs ≡ true → list_all is_character cs ≡ true
resource_characters [] h k l = refl
resource_characters (c ∷ cs) h k l =
    let a = and_parts _ (all_scalars cs) h in
    let b = and_parts (is_resource_char c) (list_all is_resource_char cs) k in
    let d = and_parts (is_sound c) (list_all is_sound cs) l in
    and_from _ _ (resource_character c (and_from _ _ a.0 refl) b.0 d.0) (resource_characters cs a.1 b.1 d.1)

pub resource_said : (given part : List ℕ) → IsCharacters given → resource_form given ≡ Ok part → Said 6138 part
resource_said given part h is =
    let made = nfc (chars given) in
    let some = ok_from_else (length given == 0) Empty _ part is in
    let fit = ok_from_then (fits_resource made) BadResource _ part some.1 in
    let fits = fitting_ok (encode_utf8_all made) part fit.1 in
    let parts = and_parts (all_scalars made) (list_all is_resource_char made) fit.0 in
    let utf8 : IsUtf8 part = (made, (parts.0, fits.0)) in
    let same : made ≡ chars part = chars_from_encodes made part utf8 fits.0 in
    let each = resource_characters made parts.0 parts.1 (nfc_sound (chars given) (sound_characters (chars given) (those_of given h))) in
    let size = value_short part in
    let few = fits.1 in
    record { characters = from_those part utf8 (ap (list_all is_character) (sym same) ∙ each); short = omega (arith, size, few) }

-- ---- what stands behind the first `/` of a text

characters_after : (t : List ℕ) (n : ℕ) → IsCharacters t → IsCharBoundary t n → IsCharacters (drop n t)
characters_after t n h cut =
    let front = IsUtf8-take t n h.utf8 cut in
    let back = IsUtf8-drop t n h.utf8 cut in
    let all : list_all is_character (chars (take n t ++ drop n t)) ≡ true = ap (λ x. list_all is_character (chars x)) (take-append-drop n t) ∙ those_of t h in
    let both : (list_all is_character (chars (take n t)) && list_all is_character (chars (drop n t))) ≡ true =
    sym (ap (list_all is_character) (chars-append (take n t) (drop n t) front) ∙ list_all-append is_character (chars (take n t)) (chars (drop n t))) ∙ all in
    from_those (drop n t) back (and_parts _ _ both).1

resource_given : (t : List ℕ) → IsCharacters t → IfSome (resource_of t) IsCharacters
resource_given t h =
    elim (cases_Bool (nat_lt (bare_len t) (length t))) [
      | inl there ↦
          let lt : bare_len t < length t = ltb-true _ _ there in
          let slash = eqb-true (get_or t (bare_len t) 0) 47 (passes_at_first is_slash t 0 lt) in
          let cut = IsCharBoundary-after_ascii t (bare_len t) h.utf8 lt (omega arith) in
          rw there (characters_after t (bare_len t + 1) h cut)
      | inr none ↦ rw none tt
    ]

-- ---- whole addresses

pub bare_said : (name domain : List ℕ) → Said 6138 name → Said 6138 domain → Said 12282 (name ++ 64 ∷ domain)
bare_said name domain h k = said_append 6138 6144 12282 name (64 ∷ domain) h (said_append 6 6138 6144 (64 ∷ []) domain (said_word 6 (64 ∷ []) refl refl) k (omega arith)) (omega arith)

pub full_said : (bare resource : List ℕ) → Said 12282 bare → Said 6138 resource → Said 18426 (bare ++ 47 ∷ resource)
full_said bare resource h k =
    said_append 12282 6144 18426 bare (47 ∷ resource) h (said_append 6 6138 6144 (47 ∷ []) resource (said_word 6 (47 ∷ []) refl refl) k (omega arith)) (omega arith)

local_followed : (given p : List ℕ) (r : Result (List ℕ) JidFault) → local_form given ≡ r → followed_by_at r ≡ Ok p → Said 6144 p
local_followed given p (Err e) form is = cc
local_followed given p (Ok part) form is =
    let same : part ++ 64 ∷ [] ≡ p = cc in
    subst (Said 6144) same (said_append 6138 6 6144 part (64 ∷ []) (local_said given part form) (said_word 6 (64 ∷ []) refl refl) (omega arith))

front_said : (given : Option (List ℕ)) (p : List ℕ) → local_front given ≡ Ok p → Said 6144 p
front_said None p is = let same : [] ≡ p = cc in subst (Said 6144) same (said_word 6144 [] refl refl)
front_said (Some given) p is = local_followed given p (local_form given) refl is

resource_after : (given p : List ℕ) (r : Result (List ℕ) JidFault) → IsCharacters given → resource_form given ≡ r → after_slash r ≡ Ok p → Said 6144 p
resource_after given p (Err e) h form is = cc
resource_after given p (Ok part) h form is =
    let same : 47 ∷ part ≡ p = cc in
    subst (Said 6144) same (said_append 6 6138 6144 (47 ∷ []) part (said_word 6 (47 ∷ []) refl refl) (resource_said given part h form) (omega arith))

back_said : (given : Option (List ℕ)) (p : List ℕ) → IfSome given IsCharacters → resource_back given ≡ Ok p → Said 6144 p
back_said None p h is = let same : [] ≡ p = cc in subst (Said 6144) same (said_word 6144 [] refl refl)
back_said (Some given) p h is = resource_after given p (resource_form given) h refl is

joined_said : (l d r : Result (List ℕ) JidFault) (out : List ℕ) → ((p : List ℕ) → l ≡ Ok p → Said 6144 p) → ((p : List ℕ) → d ≡ Ok p → Said 6138 p) → ((p : List ℕ) → r ≡ Ok p → Said 6144 p)
    → joined l d r ≡ Ok out → Said 18426 out
joined_said (Err e) d r out h k m is = cc
joined_said (Ok l) (Err e) r out h k m is = cc
joined_said (Ok l) (Ok d) (Err e) out h k m is = cc
joined_said (Ok l) (Ok d) (Ok r) out h k m is =
    let same : l ++ d ++ r ≡ out = cc in
    subst (Said 18426) same (said_append 12282 6144 18426 (l ++ d) r (said_append 6144 6138 12282 l d (h l refl) (k d refl) (omega arith)) (m r refl) (omega arith))

pub normal_said : (text out : List ℕ) → IsCharacters text → normal text ≡ Ok out → Said 18426 out
normal_said text out h is =
    joined_said (local_front (local_of text)) (domain_form (domain_of text)) (resource_back (resource_of text)) out (front_said (local_of text)) (λ p form. domain_said (domain_of text) p form)
    (λ p form. back_said (resource_of text) p (resource_given text h) form) is
