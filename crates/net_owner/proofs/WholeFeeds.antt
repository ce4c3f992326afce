-- Of a reader whose last item was taken, nothing is left.
use Rattle.std.proofs.Common.{◌≡◌, ℕ, suc, Bool, true, false, true≢false, ◌&&◌, List, [], ◌∷◌, ◌++◌, length, drop, sym, refl, ap, ◌∙◌, append-nil, arith, cond}
use Rattle.net_owner.specs.declared.item.Item.{Item}
use Rattle.net_owner.specs.declared.item.What.{What}
use Rattle.net_owner.specs.declared.item.What.TheVariants.{Came, Gave, Ended, Closed, Wanted}
use Rattle.net_owner.specs.Merge.{items_of}
use Rattle.net_owner.specs.Feeds.{number, is_piece, is_end, are_pieces, has_end, IsFeed}
use Rattle.net_owner.proofs.ItemsOf.{items_of-append}

pub and_left : (a b : Bool) → (a && b) ≡ true → (a ≡ true) × (b ≡ true)
and_left true b e = (refl, e)
and_left false b e = absurd (true≢false (sym e))

module _ {P : Type 0} where
  unfoldable pub head_is : Item P → List (Item P) → Item P
  head_is d [] = d
  head_is d (x ∷ xs) = x

  piece_goes_on : (what : What P) (b : Bool) → is_piece what ≡ true → cond (is_end what) true b ≡ true → b ≡ true
  piece_goes_on (Came i) b e h = h
  piece_goes_on (Gave p) b e h = h
  piece_goes_on Ended b e h = absurd (true≢false (sym e))
  piece_goes_on Closed b e h = absurd (true≢false (sym e))
  piece_goes_on Wanted b e h = absurd (true≢false (sym e))

  none_behind : (xs ys : List (Item P)) → xs ++ ys ≡ [] → ys ≡ []
  none_behind [] ys e = e
  none_behind (x ∷ xs) ys e = absurd (let n : suc (length (xs ++ ys)) ≡ 0 = ap length e in omega arith)

  one_last : (a b body : List (Item P)) (last : Item P) → a ++ b ≡ body ++ last ∷ [] → are_pieces body ≡ true → has_end a ≡ true → b ≡ []
  unfolding are_pieces has_end head_is
  one_last [] b body last e pieces h = absurd (true≢false (sym h))
  one_last (x ∷ xs) b [] last e pieces h = none_behind xs b (ap (drop 1) e)
  one_last (x ∷ xs) b (y ∷ ys) last e pieces h = let both = and_left (is_piece y.what) (are_pieces ys) pieces in
      let same : x ≡ y = ap (head_is x) e in
      one_last xs b ys last (ap (drop 1) e) both.1 (piece_goes_on x.what (has_end xs) (ap (λ (z : Item P). is_piece z.what) same ∙ both.0) h)

  -- among pieces and one last item, the end is the last
  pub end_is_last : (body : List (Item P)) (last : Item P) → are_pieces body ≡ true → has_end (body ++ last ∷ []) ≡ true → is_end last.what ≡ true
  unfolding are_pieces has_end
  end_is_last [] last pieces h = elim (is_end last.what) as (λ b. cond b true false ≡ true → b ≡ true) [ true ↦ (λ e. refl) | false ↦ (λ e. e) ] h
  end_is_last (y ∷ ys) last pieces h = let both = and_left (is_piece y.what) (are_pieces ys) pieces in end_is_last ys last both.1 (piece_goes_on y.what (has_end (ys ++ last ∷ [])) both.0 h)

  pub whole : (k : ℕ) (got rest put : List (Item P)) → items_of number k (got ++ rest) ≡ put → IsFeed put → has_end (items_of number k got) ≡ true → items_of number k got ≡ put
  whole k got rest put all feed h = let split = sym (items_of-append number k got rest) ∙ all in
      let none : items_of number k rest ≡ [] = one_last (items_of number k got) (items_of number k rest) feed.body feed.last (split ∙ feed.whole) feed.pieces h in
      sym (append-nil (items_of number k got)) ∙ ap (λ l. items_of number k got ++ l) (sym none) ∙ split
