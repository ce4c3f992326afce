-- The items of one sender in a list that is longer by others.
use Rattle.std.proofs.Common.{◌≡◌, ◌≢◌, ℕ, List, [], ◌∷◌, ◌++◌, refl, ap, ◌∙◌, append-nil, eq-eqb, ne_eqb}
use mathlib.Core.Logic.{dite}
use native.Mathlib.Decide.{ℕ_discrete}
use Rattle.net_owner.specs.Merge.{items_of}

module _ {T : Type 0} (from : T → ℕ) where
  pub items_of-append : (k : ℕ) (xs ys : List T) → items_of from k (xs ++ ys) ≡ items_of from k xs ++ items_of from k ys
  unfolding items_of
  items_of-append k [] ys = refl
  items_of-append k (x ∷ xs) ys = dite (ℕ_discrete (from x) k)
      (λ e. rw (eq-eqb (from x) k e) (ap (λ l. x ∷ l) (items_of-append k xs ys)))
      (λ ne. rw (ne_eqb (from x) k ne) (items_of-append k xs ys))

  pub items_of-own : (k : ℕ) (x : T) → from x ≡ k → items_of from k (x ∷ []) ≡ x ∷ []
  unfolding items_of
  items_of-own k x e = rw (eq-eqb (from x) k e) refl

  pub items_of-other : (k : ℕ) (x : T) → from x ≢ k → items_of from k (x ∷ []) ≡ []
  unfolding items_of
  items_of-other k x ne = rw (ne_eqb (from x) k ne) refl

  -- what a sender sent is longer by its next item, and what another sent is as before
  pub items_of-next : (k : ℕ) (x : T) (all : List T) → from x ≡ k → items_of from k (all ++ x ∷ []) ≡ items_of from k all ++ x ∷ []
  items_of-next k x all e = items_of-append k all (x ∷ []) ∙ ap (λ l. items_of from k all ++ l) (items_of-own k x e)

  pub items_of-another : (k : ℕ) (x : T) (all : List T) → from x ≢ k → items_of from k (all ++ x ∷ []) ≡ items_of from k all
  items_of-another k x all ne = items_of-append k all (x ∷ []) ∙ ap (λ l. items_of from k all ++ l) (items_of-other k x ne) ∙ append-nil (items_of from k all)
