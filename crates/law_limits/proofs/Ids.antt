-- The ids of what a client says.
use Rattle.std.proofs.Common.{◌≡◌, ℕ, ◌^◌, ◌<◌, true, not, List, [], ◌∷◌, ◌++◌, codes, refl, arith, length-append}
use Rattle.std.proofs.lemmas.Bool.{and_from, and_parts}
use Rattle.std.proofs.lemmas.Str.{IsUtf8-append}
use Rattle.std.specs.Fmt.{decimal}
use Rattle.std.specs.List.{list_all}
use Rattle.sm_outbox.specs.Submissions.{origin_of}
use Rattle.xml_tokens.specs.Characters.{are_characters, are_characters_after, ends_forbidden}
use Rattle.xml_tokens.specs.Lines.{IsCharacters}
use Rattle.law_limits.specs.Bounds.{IsTextWithin, most_part}
use Rattle.law_limits.proofs.Ascii.{is_printable, printable_IsCharacters, printable_after}
use Rattle.law_limits.proofs.Submissions.{most_origin}
use Rattle.law_limits.proofs.Texts.{decimal_printable, decimal_within, printable_append}

-- ---- a text with printable ASCII behind it

characters_after : (a b : ℕ) (xs ys : List ℕ) → are_characters_after a b xs ≡ true → list_all is_printable ys ≡ true → are_characters_after a b (xs ++ ys) ≡ true
characters_after a b [] ys h k = printable_after a b ys k
characters_after a b (x ∷ xs) ys h k =
    let p = and_parts (not (ends_forbidden a b x)) (are_characters_after b x xs) h in
    and_from (not (ends_forbidden a b x)) (are_characters_after b x (xs ++ ys)) p.0 (characters_after b x xs ys p.1 k)

pub IsCharacters-append : (xs ys : List ℕ) → IsCharacters xs → list_all is_printable ys ≡ true → IsCharacters (xs ++ ys)
unfolding are_characters
IsCharacters-append xs ys h k = record { utf8 = IsUtf8-append xs ys h.utf8 (printable_IsCharacters ys k).utf8; characters = characters_after 0 0 xs ys h.characters k }

-- ---- ids

pub origin_within : (resource : List ℕ) (epoch n : ℕ) → IsTextWithin most_part resource → epoch < 2 ^ 64 → n < 2 ^ 64 → IsTextWithin most_origin (origin_of resource epoch n)
origin_within resource epoch n h low_epoch low_n =
    let e = decimal epoch in
    let d = decimal n in
    let front = printable_append (46 ∷ []) e refl (decimal_printable epoch low_epoch) in
    let back = printable_append (46 ∷ []) d refl (decimal_printable n low_n) in
    let e_short = (decimal_within 20 epoch (omega arith) (omega arith) low_epoch).short in
    let d_short = (decimal_within 20 n (omega arith) (omega arith) low_n).short in
    let short = h.short in
    let first = resource ++ (46 ∷ e) in
    record {
      characters = IsCharacters-append first (46 ∷ d) (IsCharacters-append resource (46 ∷ e) h.characters front) back;
      short = omega (arith, length-append first (46 ∷ d), length-append resource (46 ∷ e), e_short, d_short, short);
    }

pub queryid_within : (n : ℕ) → n < 2 ^ 64 → IsTextWithin 21 (codes "q" ++ decimal n)
queryid_within n low =
    let short = (decimal_within 20 n (omega arith) (omega arith) low).short in
    record { characters = printable_IsCharacters (codes "q" ++ decimal n) (printable_append (codes "q") (decimal n) refl (decimal_printable n low)); short = omega (arith, length-append (codes "q") (decimal n), short) }
