-- Where no `&` stands, no reference does.
use Rattle.std.proofs.Common.{◌≡◌, ℕ, Bool, true, false, eqb, ◌&&◌, ◌||◌, List, [], ◌∷◌, Option, refl}
use Rattle.std.proofs.lemmas.Bool.{and_left, or_parts, or_from}
use Rattle.std.specs.List.{list_any}
use Rattle.xml_tokens.specs.Tags.{is_open, quote_behind, has_unknown_quoted}
use Rattle.xml_tokens.specs.Values.{begins_unknown, has_unknown}

pub no_unknown : (bs : List ℕ) → list_any (λ b. eqb b 38) bs ≡ false → has_unknown bs ≡ false
no_unknown [] h = refl
no_unknown (b ∷ bs) h =
    let p = or_parts (eqb b 38) _ h in
    or_from (eqb b 38 && begins_unknown bs) (has_unknown bs) (and_left _ _ p.0) (no_unknown bs p.1)

beside : (open_quote other : Bool) → other ≡ false → ((open_quote && false) || other) ≡ false
beside true other h = h
beside false other h = h

-- whatever quote is open
pub no_unknown_quoted : (quote : Option ℕ) (bs : List ℕ) → list_any (λ b. eqb b 38) bs ≡ false → has_unknown_quoted quote bs ≡ false
no_unknown_quoted quote [] h = refl
no_unknown_quoted quote (b ∷ bs) h =
    let p = or_parts (eqb b 38) _ h in
    rw p.0 (beside (is_open quote) (has_unknown_quoted (quote_behind quote b) bs) (no_unknown_quoted (quote_behind quote b) bs p.1))
