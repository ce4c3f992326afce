-- A moment that was told for an event.
use Rattle.std.proofs.Common.{◌≡◌, ℕ, List, [], ◌∷◌, ◌++◌, append-nil, subst, sym, Result, Ok, Err, OnOk}
use Rattle.net_traits.proofs.ToldSince.{since_more, since_then}
use Rattle.net_traits.specs.ToldSince.{ToldSince}

-- what is so once one moment more was told, and no bytes were drawn
pub told_once : {A E : Type 0} (told drawn told_now drawn_now told_new : List ℕ) (moment : ℕ) (P Q : List ℕ → List ℕ → Type 0) (r : Result A E) → told_new ≡ told_now ++ moment ∷ []
    → ((ms bs : List ℕ) → P ms bs → OnOk r (Q (ms ++ moment ∷ []) bs)) → ToldSince told drawn told_now drawn_now P → OnOk r (ToldSince told drawn told_new drawn_now Q)
told_once told drawn told_now drawn_now told_new moment P Q (Ok a) more f since =
    since_more told drawn told_now drawn_now told_new drawn_now (moment ∷ []) [] P Q more (sym (append-nil drawn_now))
    (λ ms bs is. subst (λ l. Q (ms ++ moment ∷ []) l) (sym (append-nil bs)) (f ms bs is)) since
told_once told drawn told_now drawn_now told_new moment P Q (Err e) more f since = tt
