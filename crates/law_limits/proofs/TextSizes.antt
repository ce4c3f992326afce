-- How long texts are as they are written.
use Rattle.std.proofs.Common.{◌≡◌, ℕ, ◌+◌, ◌*◌, ◌≤◌, ◌==◌, Bool, true, false, List, [], ◌∷◌, ◌++◌, cond, length, refl, ap, ◌∙◌, arith, length-append}
use Rattle.std.proofs.lemmas.Grind.{flat_map-append}
use Rattle.law_limits.specs.Texts.{text_size, value_size}
use Rattle.xml_tokens.specs.Spelling.{spelled_text, spelled_value, text_byte, value_byte}

-- the shorter and the longer of two choices
pub either_short : (b : Bool) (n : ℕ) (xs ys : List ℕ) → length xs ≤ n → length ys ≤ n → length (cond b xs ys) ≤ n
either_short true n xs ys h k = h
either_short false n xs ys h k = k

either_longer : (b : Bool) (n : ℕ) (xs ys : List ℕ) → n ≤ length xs → n ≤ length ys → n ≤ length (cond b xs ys)
either_longer true n xs ys h k = h
either_longer false n xs ys h k = k

text_byte_short : (b : ℕ) → length (text_byte b) ≤ 5
unfolding text_byte
text_byte_short b =
    either_short (b == 38) 5 _ _ (omega arith)
    (either_short (b == 60) 5 _ _ (omega arith) (either_short (b == 62) 5 _ _ (omega arith) (either_short (b == 13) 5 _ _ (omega arith) (omega arith))))

value_byte_short : (b : ℕ) → length (value_byte b) ≤ 6
unfolding value_byte
value_byte_short b =
    let text = text_byte_short b in
    either_short (b == 39) 6 _ _ (omega arith) (either_short (b == 9) 6 _ _ (omega arith) (either_short (b == 10) 6 _ _ (omega arith) (omega (arith, text))))

-- a value is no shorter than a text
byte_no_longer : (b : ℕ) → length (text_byte b) ≤ length (value_byte b)
unfolding value_byte
byte_no_longer b =
    let text = text_byte_short b in
    either_longer (b == 39) (length (text_byte b)) _ _ (omega (arith, text))
    (either_longer (b == 9) (length (text_byte b)) _ _ (omega (arith, text)) (either_longer (b == 10) (length (text_byte b)) _ _ (omega (arith, text)) (omega arith)))

-- ---- whole texts

pub value_nothing : value_size [] ≡ 0
unfolding value_size
value_nothing = refl

pub text_nothing : text_size [] ≡ 0
unfolding text_size
text_nothing = refl

pub value_append : (s t : List ℕ) → value_size (s ++ t) ≡ value_size s + value_size t
unfolding value_size
value_append s t = ap length (flat_map-append value_byte s t) ∙ length-append (spelled_value s) (spelled_value t)

pub text_append : (s t : List ℕ) → text_size (s ++ t) ≡ text_size s + text_size t
unfolding text_size
text_append s t = ap length (flat_map-append text_byte s t) ∙ length-append (spelled_text s) (spelled_text t)

pub value_short : (t : List ℕ) → value_size t ≤ 6 * length t
unfolding value_size
value_short [] = omega arith
value_short (b ∷ t) = let first = value_byte_short b in let rest = value_short t in omega (arith, first, rest, length-append (value_byte b) (spelled_value t))

pub text_no_longer : (t : List ℕ) → text_size t ≤ value_size t
unfolding value_size text_size
text_no_longer [] = omega arith
text_no_longer (b ∷ t) =
    let first = byte_no_longer b in
    let rest = text_no_longer t in
    omega (arith, first, rest, length-append (value_byte b) (spelled_value t), length-append (text_byte b) (spelled_text t))

pub text_short : (t : List ℕ) → text_size t ≤ 6 * length t
text_short t = let value = text_no_longer t in let short = value_short t in omega (arith, value, short)
