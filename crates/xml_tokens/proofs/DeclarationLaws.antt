-- The items of a declaration, one at a time.
use Rattle.std.proofs.Common.{◌≡◌, ℕ, zero, suc, ◌<◌, Bool, false, ◌||◌, List, Option, Some, None, length, take, refl, sym, ap, ◌∙◌, arith, length-take}
use Rattle.std.proofs.lemmas.Bool.{false_from_ne_true}
use Rattle.std.proofs.lemmas.Slice.Eq.{bytes_eq-Decides}
use Rattle.std.specs.Prelude.{codes}
use Rattle.std.specs.Str.{bytes_eq}
use Rattle.xml_tokens.specs.Declarations.{is_other, found_other, other_within, has_other}
use Rattle.xml_tokens.specs.Tags.{Spelled, spelled_at}
use Rattle.xml_tokens.proofs.TagWords.{spelled_shorter}

found_same : (bs : List ℕ) (o : Option Spelled) (f g : List ℕ → Bool) → spelled_at bs ≡ o → ((rest : List ℕ) → length rest < length bs → f rest ≡ g rest) → found_other o f ≡ found_other o g
found_same bs None f g is same = refl
found_same bs (Some s) f g is same = ap (λ b. is_other s || b) (same s.rest (spelled_shorter bs s is))

enough : (k j : ℕ) (bs : List ℕ) → length bs < k → length bs < j → other_within k bs ≡ other_within j bs
enough zero j bs p q = absurd (omega arith)
enough (suc k) zero bs p q = absurd (omega arith)
enough (suc k) (suc j) bs p q = found_same bs (spelled_at bs) (other_within k) (other_within j) refl (λ rest less. enough k j rest (omega arith) (omega arith))

pub other_step : (bs : List ℕ) → has_other bs ≡ found_other (spelled_at bs) has_other
unfolding has_other
other_step bs = found_same bs (spelled_at bs) (other_within (length bs)) (λ rest. other_within (suc (length rest)) rest) refl (λ rest less. enough (length bs) (suc (length rest)) rest (omega arith) (omega arith))

pub short_opening : (bs : List ℕ) → length bs < 5 → bytes_eq (take 5 bs) (codes "<?xml") ≡ false
short_opening bs short =
    false_from_ne_true _ (λ e. let same = ap length ((bytes_eq-Decides (take 5 bs) (codes "<?xml")).0 e) in let five : length (codes "<?xml") ≡ 5 = refl in omega (arith, length-take 5 bs, same))

pub other_found : (bs : List ℕ) (s : Spelled) → Some s ≡ spelled_at bs → has_other bs ≡ (is_other s || has_other s.rest)
other_found bs s is = other_step bs ∙ ap (λ o. found_other o has_other) (sym is)

pub other_none : (bs : List ℕ) → None ≡ spelled_at bs → has_other bs ≡ false
other_none bs is = other_step bs ∙ ap (λ o. found_other o has_other) (sym is)

pub or_skips : (a b : Bool) → a ≡ false → (a || b) ≡ b
or_skips a b h = rw h refl
