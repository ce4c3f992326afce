-- A byte is spelled with so many at most.
use Rattle.std.proofs.Common.{◌≡◌, ℕ, ◌*◌, ◌==◌, ◌≤◌, Bool, true, false, List, [], ◌∷◌, length, codes, length-append, if◌then◌else◌, ap, arith}
use Rattle.std.proofs.lemmas.Bool.Decides.{nat_tests}
use Rattle.std.specs.Prelude.{nat_lt}
use Rattle.xml_tokens.specs.Spelling.{spelled_text, spelled_value, text_byte, value_byte}

pub either : (c : Bool) (x y : List ℕ) (n : ℕ) → length x ≤ n → length y ≤ n → length (if c then x else y) ≤ n
either true x y n here there = here
either false x y n here there = there

text_byte_short : (b : ℕ) → length (text_byte b) ≤ 5
unfolding text_byte
text_byte_short b =
    let cr = if b == 13 then codes "&#xD;" else b ∷ [] in
    let more = if b == 62 then codes "&gt;" else cr in
    let less = if b == 60 then codes "&lt;" else more in
    let c = either (b == 13) (codes "&#xD;") (b ∷ []) 5 (omega arith) (omega arith) in
    let m = either (b == 62) (codes "&gt;") cr 5 (omega arith) c in
    let l = either (b == 60) (codes "&lt;") more 5 (omega arith) m in
    either (b == 38) (codes "&amp;") less 5 (omega arith) l

value_byte_short : (b : ℕ) → length (value_byte b) ≤ 6
unfolding value_byte
value_byte_short b =
    let short = text_byte_short b in
    let feed = if b == 10 then codes "&#xA;" else text_byte b in
    let tab = if b == 9 then codes "&#x9;" else feed in
    let f = either (b == 10) (codes "&#xA;") (text_byte b) 6 (omega arith) (omega (arith, short)) in
    let t = either (b == 9) (codes "&#x9;") feed 6 (omega arith) f in
    either (b == 39) (codes "&apos;") tab 6 (omega arith) t

pub text_short : (t : List ℕ) → length (spelled_text t) ≤ 5 * length t
text_short [] = omega arith
text_short (b ∷ bs) = omega (arith, length-append (text_byte b) (spelled_text bs), text_byte_short b, text_short bs)

pub value_short : (v : List ℕ) → length (spelled_value v) ≤ 6 * length v
value_short [] = omega arith
value_short (b ∷ bs) = omega (arith, length-append (value_byte b) (spelled_value bs), value_byte_short b, value_short bs)

pub few_are_within : (most : ℕ) (v w : List ℕ) → w ≡ v → length w ≤ 42 → 252 ≤ most → false ≡ nat_lt most (length (spelled_value v))
few_are_within most v w is few wide =
    let short = value_short v in
    let length_is = ap length is in grind (arith, nat_tests)
