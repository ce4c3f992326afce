-- What an acceptor has sent, one item longer.
use Rattle.std.proofs.Common.{◌≡◌, ℕ, suc, ◌+◌, true, false, ◌&&◌, List, [], ◌∷◌, ◌++◌, length, sym, refl, ap, ◌∙◌, subst, length-append, arith}
use Rattle.base_io.specs.Counts.{counted}
use Rattle.net_owner.specs.Rule.{sender, with_put}
use Rattle.net_owner.specs.declared.rule.Known.{Known}
use Rattle.net_owner.specs.Acceptors.{are_arrivals, counted_times, is_arrival}
use Rattle.net_owner.specs.Feeds.{has_sent}
use Rattle.net_owner.specs.declared.item.Item.{Item}

module _ {P : Type 0} where
  pub arrivals_more : (xs : List (Item P)) (x : Item P) → are_arrivals xs ≡ true → is_arrival x.what ≡ true → are_arrivals (xs ++ x ∷ []) ≡ true
  unfolding are_arrivals
  arrivals_more [] x all one = rw one refl
  arrivals_more (y ∷ ys) x all one = elim (is_arrival y.what) as (λ b. (b && are_arrivals ys) ≡ true → (b && are_arrivals (ys ++ x ∷ [])) ≡ true) [ true ↦ (λ rest. arrivals_more ys x rest one) | false ↦ (λ e. e) ] all

  -- so many connections came in and were sent, and the door's count of links went up with each
  pub record IsAccepting (v : Known (Item P)) (taken start now : ℕ) : Type 0 where
    pub shape : v ≡ has_sent 0 v.put
    pub arrivals : are_arrivals v.put ≡ true
    pub many : length v.put ≡ taken
    pub handed : now ≡ counted_times taken start

  pub accepts_none : (v : Known (Item P)) (start : ℕ) → v ≡ sender 0 → IsAccepting v 0 start start
  unfolding are_arrivals counted_times
  accepts_none v start is = subst (λ v. IsAccepting v 0 start start) (sym is) (record { shape = refl; arrivals = refl; many = refl; handed = refl })

  pub accepts_on : (v w : Known (Item P)) (x : Item P) (taken start now next : ℕ) → IsAccepting v taken start now → w ≡ with_put v x → is_arrival x.what ≡ true → next ≡ counted now → IsAccepting w (taken + 1) start next
  unfolding counted_times
  accepts_on v w x taken start now next before is one rose = subst (λ w. IsAccepting w (taken + 1) start next) (sym is) (record {
    shape = ap (λ u. with_put u x) before.shape;
    arrivals = arrivals_more v.put x before.arrivals one;
    many = length-append v.put (x ∷ []) ∙ ap (λ n. n + 1) before.many;
    handed = rose ∙ ap counted before.handed ∙ sym (ap (λ n. counted_times n start) (next_is taken));
  })
    where
      next_is : (n : ℕ) → n + 1 ≡ suc n
      next_is n = omega arith
