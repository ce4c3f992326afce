-- The numbers of what was taken of a device.
use Rattle.std.proofs.Common.{◌≡◌, ℕ, zero, suc, ◌+◌, ◌≤◌, ◌<◌, ◌==◌, Bool, true, false, cond, List, [], ◌∷◌, ◌++◌, length, map, refl, sym, ap, ◌∙◌, subst, arith}
use Rattle.std.specs.List.{AllByRecursion, filter, flat_map, list_any}
use Rattle.std.specs.Prelude.{◌&&◌, ◌||◌}
use Rattle.std.proofs.lemmas.Bool.{cases_Bool, eqb-true, ne_eqb}
use Rattle.std.proofs.lemmas.List.{length-append}
use Rattle.sim_1_applications.specs.Stanzas.{Submission, messages}
use Rattle.sim_1_applications.specs.Devices.{Session, Sessions, Take, epoch_of, up_put}
use Rattle.sim_1_applications.specs.Events.{is_among}
use Rattle.sim_1_applications.specs.Kept.{AreNumbered, ArePast, IsNumbered, SessionsKept, accepted, handled, is_of, said_in}
use Rattle.sim_1_applications.proofs.Lists.{all_append, all_filter, all_front, all_weaker}
use Rattle.sim_1_applications.proofs.Numbered.{messages_append}
use Rattle.law_intents.specs.Intents.{Try, is_taken}

pub numbers_within : (e n : ℕ) (ms : List Submission) → AreNumbered e n ms → AllByRecursion (λ m. (m.epoch ≡ e) × (m.n ≤ n + length ms)) ms
numbers_within e n [] known = tt
numbers_within e n (m ∷ ms) known =
    let is = known.1 in (
      (known.0, omega arith),
      all_weaker (λ k. (k.epoch ≡ e) × (k.n ≤ suc n + length ms)) (λ k. (k.epoch ≡ e) × (k.n ≤ n + suc (length ms))) ms (λ k a. (a.0, let high = a.1 in omega arith)) (numbers_within e (suc n) ms known.2),
    )

-- of a session, what was handled
got_within : (e : ℕ) (s : Session) → IsNumbered e s → AllByRecursion (λ m. (m.epoch ≡ e) × (m.n ≤ 0 + length (messages (up_put s)))) (messages s.up_got)
got_within e s known =
    all_front (λ m. (m.epoch ≡ e) × (m.n ≤ 0 + length (messages (up_put s)))) (messages s.up_got) (messages s.up_rest)
    (subst (AllByRecursion (λ m. (m.epoch ≡ e) × (m.n ≤ 0 + length (messages (up_put s))))) (messages_append s.up_got s.up_rest) (numbers_within e 0 (messages (up_put s)) known.numbers))

accepted_within : (accounts : List (List ℕ)) (e : ℕ) (s : Session) → IsNumbered e s → AllByRecursion (λ m. (m.epoch ≡ e) × (m.n ≤ 0 + length (messages (up_put s)))) (accepted accounts s)
accepted_within accounts e s known = all_filter (λ m. (m.epoch ≡ e) × (m.n ≤ 0 + length (messages (up_put s)))) (λ m. is_among m.to accounts) (messages s.up_got) (got_within e s known)

-- of the sessions before the present one
past_below : (accounts : List (List ℕ)) (e : ℕ) (ss : List Session) → ArePast e ss → AllByRecursion (λ m. m.epoch < e + length ss) (flat_map (accepted accounts) ss)
past_below accounts e [] known = tt
past_below accounts e (s ∷ ss) known =
    all_append (λ m. m.epoch < e + suc (length ss)) (accepted accounts s) (flat_map (accepted accounts) ss)
    (all_weaker (λ m. (m.epoch ≡ e) × (m.n ≤ 0 + length (messages (up_put s)))) (λ m. m.epoch < e + suc (length ss)) (accepted accounts s) (λ m is. let same = is.0 in omega arith) (accepted_within accounts e s known.0))
    (all_weaker (λ m. m.epoch < suc e + length ss) (λ m. m.epoch < e + suc (length ss)) (flat_map (accepted accounts) ss) (λ m low. omega arith) (past_below accounts (suc e) ss known.1))

-- what was handled in the present epoch is no more than was said in it
pub handled_within : (accounts : List (List ℕ)) (s : Sessions) → SessionsKept s → AllByRecursion (λ m. m.epoch ≡ epoch_of s → m.n ≤ s.n) (handled accounts s)
handled_within accounts s kept =
    all_append (λ m. m.epoch ≡ epoch_of s → m.n ≤ s.n) (flat_map (accepted accounts) s.past) (accepted accounts s.now)
    (all_weaker (λ m. m.epoch < 0 + length s.past) (λ m. m.epoch ≡ epoch_of s → m.n ≤ s.n) (flat_map (accepted accounts) s.past) (λ m low same. absurd (not_both m.epoch (length s.past) low same)) (past_below accounts 0 s.past kept.past))
    (all_weaker (λ m. (m.epoch ≡ epoch_of s) × (m.n ≤ 0 + length (messages (up_put s.now)))) (λ m. m.epoch ≡ epoch_of s → m.n ≤ s.n) (accepted accounts s.now) (λ m is same. high m.n (length (messages (up_put s.now))) s.n is.1 kept.n)
    (accepted_within accounts (epoch_of s) s.now kept.now))
  where
    not_both : (a b : ℕ) → a < 0 + b → a ≡ b → ⊥
    not_both a b low same = omega arith

    high : (a b c : ℕ) → a ≤ 0 + b → c ≡ b → a ≤ c
    high a b c low same = omega arith

-- a later number isn't among them
pub none_numbered : (i : ℕ) (t : Try) (takes : List Take) → AllByRecursion (λ m. m.epoch ≡ t.epoch → m.n < t.n) (map said_in (filter (is_of i) takes)) → is_taken i t takes ≡ false
none_numbered i t [] all = refl
none_numbered i t (x ∷ takes) all = chosen (x.device == i) (none_numbered i t takes) all
  where
    chosen : (b : Bool) → (AllByRecursion (λ m. m.epoch ≡ t.epoch → m.n < t.n) (map said_in (filter (is_of i) takes)) → is_taken i t takes ≡ false)
        → AllByRecursion (λ m. m.epoch ≡ t.epoch → m.n < t.n) (map said_in (cond b (x ∷ filter (is_of i) takes) (filter (is_of i) takes)))
        → ((b && (x.said.epoch == t.epoch && x.said.n == t.n)) || is_taken i t takes) ≡ false
    chosen false others known = others known
    chosen true others known = ap (λ c. c || is_taken i t takes) (differs (x.said.epoch == t.epoch) refl known.0) ∙ others known.1
      where
        differs : (c : Bool) → (x.said.epoch == t.epoch) ≡ c → (x.said.epoch ≡ t.epoch → x.said.n < t.n) → (c && x.said.n == t.n) ≡ false
        differs false is low = refl
        differs true is low = (let under = low (eqb-true x.said.epoch t.epoch is) in ne_eqb x.said.n t.n (λ same. omega arith))
