-- What a reader that has ended brought: its pieces, and its end.
use Rattle.std.proofs.Common.{◌≡◌, ℕ, Bool, true, false, true≢false, ◌&&◌, List, [], ◌∷◌, ◌++◌, map, Option, Some, None, IfSome, ap, refl, subst, sym, ◌∙◌}
use Rattle.std.specs.Io.KnownBytes.{Appends}
use Rattle.std.specs.Option.{ForSome}
use Rattle.net_hub.specs.Served.{joined}
use Rattle.net_owner.specs.Events.{Gave, Gone, Told, told_of}
use Rattle.net_owner.specs.Feeds.{are_pieces, bytes_in, bytes_of, is_piece}
use Rattle.net_owner.specs.declared.item.Item.{Item}
use Rattle.net_owner.specs.declared.item.What.{What}
use Rattle.net_owner.specs.declared.item.What.TheVariants as what
use Rattle.net_owner.proofs.WholeFeeds.{and_left}

module _ {P : Type 0} where
  -- the bytes of each piece
  abbrev pub pieces_of : List (Item P) → List (List ℕ)
  pieces_of [] = []
  pieces_of (x ∷ xs) = bytes_in x.what ∷ pieces_of xs

  one_told : (w : What P) (rest : List Told) → is_piece w ≡ true → Rattle.net_owner.specs.Events.told_in w ++ rest ≡ Gave (bytes_in w) ∷ rest
  one_told (what.Came p) rest e = absurd (true≢false (sym e))
  one_told (what.Gave piece) rest e = refl
  one_told what.Ended rest e = absurd (true≢false (sym e))
  one_told what.Closed rest e = absurd (true≢false (sym e))
  one_told what.Wanted rest e = absurd (true≢false (sym e))

  pub told_pieces : (body : List (Item P)) (last : Item P) → are_pieces body ≡ true → last.what ≡ what.Ended → told_of (body ++ last ∷ []) ≡ map Gave (pieces_of body) ++ Gone ∷ []
  unfolding told_of are_pieces
  told_pieces [] last all ends = ap (λ (w : What P). Rattle.net_owner.specs.Events.told_in w ++ []) ends
  told_pieces (x ∷ xs) last all ends =
      let both = and_left (is_piece x.what) (are_pieces xs) all in
      one_told x.what (told_of (xs ++ last ∷ [])) both.0 ∙ ap (λ l. Gave (bytes_in x.what) ∷ l) (told_pieces xs last both.1 ends)

  pub bytes_pieces : (body : List (Item P)) (last : Item P) → last.what ≡ what.Ended → bytes_of (body ++ last ∷ []) ≡ joined (pieces_of body)
  unfolding bytes_of
  bytes_pieces [] last ends = ap (λ (w : What P). bytes_in w ++ []) ends
  bytes_pieces (x ∷ xs) last ends = ap (λ l. bytes_in x.what ++ l) (bytes_pieces xs last ends)

-- what was read of a half that was new
pub read_all : (old new : Option (List ℕ)) (bytes all : List ℕ) → ForSome old (λ b. b ≡ []) → Appends old new bytes → (old ≡ None → new ≡ None) → bytes ≡ all → IfSome new (λ b. b ≡ all)
read_all None new bytes all none more silent is = subst (λ (o : Option (List ℕ)). IfSome o (λ b. b ≡ all)) (sym (silent refl)) tt
read_all (Some xs) None bytes all none more silent is = tt
read_all (Some xs) (Some ys) bytes all none more silent is = more ∙ ap (λ l. l ++ bytes) (none xs refl) ∙ is
