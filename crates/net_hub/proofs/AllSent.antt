-- What the halves of all connections have sent.
use Rattle.std.proofs.Common.{◌≡◌, ◌≢◌, ℕ, zero, suc, ◌+◌, ◌<◌, ◌⊎◌, ⊎_elim, Bool, true, false, List, [], ◌∷◌, ◌++◌, length, set, get_or, append-nil, ap, subst, sym, ◌∙◌, cond, arith}
use mathlib.Core.Option.{some, some-ne-none}
use lib.ListN.{get_elem?}
use Rattle.atomic_table.proofs.Lists.{at_set, at_index}
use Rattle.srv_state.specs.State.{is_number}
use Rattle.net_traits.specs.Halves.{OutgoingView}
use Rattle.net_hub.proofs.Sent.{moved}
use Rattle.net_hub.proofs.Numbers.{other_number, same_number}
use Rattle.net_hub.specs.Sendings.{HasSent, HaveSent, numbers_of}
use Rattle.net_hub.specs.declared.sender.Sender.{Sender}

module _ {O : Type 0} (told : O → OutgoingView) where
  pub numbers_set : (senders : List (Sender O)) (i : ℕ) (s t : Sender O) → i < length senders → s ≡ get_or senders i s → (told t.half).number ≡ (told s.half).number
      → numbers_of told (set senders i t) ≡ numbers_of told senders
  numbers_set [] i s t below there same = absurd (omega (arith, below))
  numbers_set (r ∷ rs) zero s t below there same = ap (λ n. n ∷ numbers_of told rs) (same ∙ ap (λ (x : Sender O). (told x.half).number) there)
  numbers_set (r ∷ rs) (suc i) s t below there same = ap (λ l. (told r.half).number ∷ l) (numbers_set rs i s t (omega (arith, below)) there same)

  -- one half at index i goes on, and the others stay
  pub one_sent : (senders new : List (Sender O)) (i conn : ℕ) (s t : Sender O) (bytes : List ℕ) → i + 1 ≡ conn → i < length senders → s ≡ get_or senders i s → new ≡ set senders i t
      → ((before : List ℕ) → HasSent before s.broken (told s.half) → HasSent (before ++ bytes) t.broken (told t.half))
      → (before : ℕ → List ℕ) → HaveSent told before senders → HaveSent told (λ k. before k ++ cond (is_number k conn) bytes []) new
  one_sent senders new i conn s t bytes position below there are goes before have j r at = ⊎_elim
      (λ (e : (j ≡ i) × (t ≡ r)). here j r e.0 e.1)
      (λ (e : (j ≢ i) × (get_elem? senders j ≡ some r)). elsewhere j r e.0 e.1)
      (at_set senders i j t r (sym (ap (λ l. get_elem? l j) are) ∙ at))
    where
      here : (j : ℕ) (r : Sender O) → j ≡ i → t ≡ r → HasSent (before (j + 1) ++ cond (is_number (j + 1) conn) bytes []) r.broken (told r.half)
      here j r same is =
          let number : is_number (j + 1) conn ≡ true = same_number (j + 1) conn (ap (λ n. n + 1) same ∙ position) in
          let sent = goes (before (i + 1)) (have i s (at_index senders i s below there)) in
          subst (λ (b : Bool). HasSent (before (j + 1) ++ cond b bytes []) r.broken (told r.half)) (sym number)
          (subst (λ (x : Sender O). HasSent (before (j + 1) ++ bytes) x.broken (told x.half)) is
          (subst (λ n. HasSent (before (n + 1) ++ bytes) t.broken (told t.half)) (sym same) sent))

      elsewhere : (j : ℕ) (r : Sender O) → j ≢ i → get_elem? senders j ≡ some r → HasSent (before (j + 1) ++ cond (is_number (j + 1) conn) bytes []) r.broken (told r.half)
      elsewhere j r other there_at =
          let number : is_number (j + 1) conn ≡ false = other_number (j + 1) conn (λ e. other (omega (arith, e, position))) in
          subst (λ (b : Bool). HasSent (before (j + 1) ++ cond b bytes []) r.broken (told r.half)) (sym number)
          (subst (λ l. HasSent l r.broken (told r.half)) (sym (append-nil (before (j + 1)))) (have j r there_at))

  at_below : (l : List (Sender O)) (i : ℕ) (s : Sender O) → get_elem? l i ≡ some s → i < length l
  at_below [] i s e = absurd (some-ne-none s (sym e))
  at_below (x ∷ xs) zero s e = omega arith
  at_below (x ∷ xs) (suc i) s e = let b = at_below xs i s e in omega arith

  -- bytes for a connection that has no half
  pub none_sent : (senders : List (Sender O)) (conn : ℕ) (bytes : List ℕ) → (conn ≡ 0) ⊎ (length senders < conn) → (before : ℕ → List ℕ) → HaveSent told before senders
      → HaveSent told (λ k. before k ++ cond (is_number k conn) bytes []) senders
  none_sent senders conn bytes out before have j r at =
      let below = at_below senders j r at in
      let number : is_number (j + 1) conn ≡ false = other_number (j + 1) conn (λ e. ⊎_elim (λ (z : conn ≡ 0). omega (arith, e, z)) (λ (lt : length senders < conn). omega (arith, e, lt, below)) out) in
      subst (λ (b : Bool). HasSent (before (j + 1) ++ cond b bytes []) r.broken (told r.half)) (sym number)
      (subst (λ l. HasSent l r.broken (told r.half)) (sym (append-nil (before (j + 1)))) (have j r at))

  -- a half at index i is closed
  pub one_closed : (senders new : List (Sender O)) (i : ℕ) (s t : Sender O) → i < length senders → s ≡ get_or senders i s → new ≡ set senders i t → told t.half ≡ told s.half → t.broken ≡ s.broken
      → (bytes : ℕ → List ℕ) → HaveSent told bytes senders → HaveSent told bytes new
  one_closed senders new i s t below there are same broken bytes have j r at = ⊎_elim
      (λ (e : (j ≡ i) × (t ≡ r)). subst (λ (x : Sender O). HasSent (bytes (j + 1)) x.broken (told x.half)) e.1
      (subst (λ n. HasSent (bytes (n + 1)) t.broken (told t.half)) (sym e.0) (moved (bytes (i + 1)) s.broken t.broken (told s.half) (told t.half) broken same (have i s (at_index senders i s below there)))))
      (λ (e : (j ≢ i) × (get_elem? senders j ≡ some r)). have j r e.1)
      (at_set senders i j t r (sym (ap (λ l. get_elem? l j) are) ∙ at))

  -- the same bytes
  pub same_sent : (a b : ℕ → List ℕ) (senders : List (Sender O)) → ((k : ℕ) → b k ≡ a k) → HaveSent told a senders → HaveSent told b senders
  same_sent a b senders same have i s at = subst (λ l. HasSent l s.broken (told s.half)) (sym (same (i + 1))) (have i s at)
