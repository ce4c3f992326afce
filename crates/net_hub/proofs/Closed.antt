-- Halves that are closed stay so.
use Rattle.std.proofs.Common.{◌≡◌, ◌≢◌, ℕ, zero, suc, ◌+◌, ◌<◌, Bool, true, List, [], ◌∷◌, length, set, get_or, ap, refl, subst, sym, ◌∙◌, arith}
use Rattle.std.proofs.lemmas.List.{length-map}
use mathlib.Core.Logic.{dite}
use mathlib.Core.Option.{some, some-injective}
use native.Mathlib.Decide.{ℕ_discrete}
use lib.ListN.{get_elem?}
use Rattle.atomic_table.proofs.Lists.{at_index}
use Rattle.net_traits.specs.Halves.{OutgoingView}
use Rattle.net_hub.specs.Sendings.{IsClosed, StayClosed, numbers_of}
use Rattle.net_hub.specs.declared.sender.Sender.{Sender}

module _ {O : Type 0} where
  at_its_position : (senders : List (Sender O)) (i : ℕ) (t : Sender O) → i < length senders → get_elem? (set senders i t) i ≡ some t
  at_its_position [] i t below = absurd (omega (arith, below))
  at_its_position (s ∷ senders) zero t below = refl
  at_its_position (s ∷ senders) (suc i) t below = at_its_position senders i t (omega (arith, below))

  at_another : (senders : List (Sender O)) (i j : ℕ) (t : Sender O) → j ≢ i → get_elem? (set senders i t) j ≡ get_elem? senders j
  at_another [] i j t other = refl
  at_another (s ∷ senders) zero zero t other = absurd (other refl)
  at_another (s ∷ senders) zero (suc j) t other = refl
  at_another (s ∷ senders) (suc i) zero t other = refl
  at_another (s ∷ senders) (suc i) (suc j) t other = at_another senders i j t (λ e. other (ap suc e))

-- there are as many halves as numbers
pub as_many : {O : Type 0} (told : O → OutgoingView) (old new : List (Sender O)) → numbers_of told new ≡ numbers_of told old → length new ≡ length old
as_many told old new same = sym (length-map new (λ s. (told s.half).number)) ∙ ap length same ∙ length-map old (λ s. (told s.half).number)

module _ {O : Type 0} (closed : O → Bool) where
  -- a half at index i goes on, or is closed
  pub one_stays : (senders : List (Sender O)) (i : ℕ) (s t : Sender O) → i < length senders → s ≡ get_or senders i s → (closed s.half ≡ true → closed t.half ≡ true) → StayClosed closed senders (set senders i t)
  one_stays senders i s t below there stays j was = dite (ℕ_discrete j i)
      (λ same. let is : was.0 ≡ s = some-injective was.0 s (sym was.1 ∙ ap (get_elem? senders) same ∙ at_index senders i s below there) in
      (t, ap (get_elem? (set senders i t)) same ∙ at_its_position senders i t below, stays (ap (λ (x : Sender O). closed x.half) (sym is) ∙ was.2)))
      (λ other. (was.0, at_another senders i j t other ∙ was.1, was.2))

  -- the half at index i was closed
  pub one_is : (senders : List (Sender O)) (i j : ℕ) (t : Sender O) → i < length senders → j ≡ i → closed t.half ≡ true → IsClosed closed (set senders i t) j
  one_is senders i j t below same is = (t, ap (get_elem? (set senders i t)) same ∙ at_its_position senders i t below, is)

  -- so many are closed, and the next one
  pub next_is : (n : ℕ) (old new : List (Sender O)) → length new ≡ length old → StayClosed closed old new → ((i : ℕ) → i + 1 ≡ n + 1 → i < length old → IsClosed closed new i)
      → ((i : ℕ) → i < n → i < length old → IsClosed closed old i) → (i : ℕ) → i < n + 1 → i < length new → IsClosed closed new i
  next_is n old new many stays this before i within below =
      let there : i < length old = subst (λ m. i < m) many below in
      dite (ℕ_discrete i n) (λ same. this i (ap (λ m. m + 1) same) there) (λ other. stays i (before i (less i n within other) there))
    where
      less : (i n : ℕ) → i < n + 1 → i ≢ n → i < n
      less zero zero within other = absurd (other refl)
      less zero (suc n) within other = omega arith
      less (suc i) zero within other = absurd (omega (arith, within))
      less (suc i) (suc n) within other = let below = less i n (omega (arith, within)) (λ e. other (ap suc e)) in omega (arith, below)
