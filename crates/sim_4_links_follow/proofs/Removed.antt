-- Sessions that live, of which some are left out.
use Rattle.std.proofs.Common.{◌≡◌, ℕ, Bool, true, not, List, [], ◌∷◌, Some, None, refl, ap, inl, inr}
use Rattle.std.proofs.lemmas.Bool.{cases_Bool}
use Rattle.std.specs.List.{filter, find}
use Rattle.sim_3_images.proofs.RuleKept.{found_is, numbered_here, of_left}
use Rattle.sm_live.specs.Rule.{IsRule}
use Rattle.sm_live.specs.Sessions.{Session, is_at, session_at, session_of}
use Rattle.srv_route.proofs.Rising.{rises_filter}

-- nothing is left out where nothing fits
pub all_left : {A : Type 0} (p : A → Bool) (ss : List A) → find p ss ≡ None → filter (λ s. not (p s)) ss ≡ ss
all_left p [] none = refl
all_left p (x ∷ ss) none =
    elim (cases_Bool (p x)) [
      | inl here ↦ let found : Some x ≡ None = rw here at none in absurd (let no_way : ⊥ = cc in no_way)
      | inr other ↦ rw other (ap (λ xs. x ∷ xs) (all_left p ss (rw other at none)))
    ]

-- a session on a connection was on it
pub seat_left : {A : Type 0} (q : Session A → Bool) (k next : ℕ) (ss : List (Session A)) (s : Session A) → IsRule ss next → session_at k (filter q ss) ≡ Some s → (session_of s.shown.number ss ≡ Some s) × (is_at k s ≡ true) × (q s ≡ true)
seat_left q k next ss s rule is =
    let there = of_left q next 1 s.shown.number ss s rule.ascending (numbered_here (is_at k) next 1 (filter q ss) s (rises_filter q next 1 ss rule.ascending) is) in
    (there.0, found_is (is_at k) (filter q ss) s is, there.1)
