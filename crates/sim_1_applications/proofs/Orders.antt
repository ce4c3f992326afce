-- Law 2: the takes of a device rise.
use Rattle.std.proofs.Common.{◌≡◌, ℕ, suc, ◌+◌, ◌<◌, ◌≤◌, Bool, true, false, cond, List, [], ◌∷◌, ◌++◌, Some, length, sym, ◌∙◌, subst, arith, append_assoc, inl, inr}
use Rattle.std.specs.List.{slice_get, flat_map, filter, AllByRecursion}
use Rattle.sim_1_applications.specs.Stanzas.{Submission, messages}
use Rattle.sim_1_applications.specs.Devices.{Session, Device, AppWorld}
use Rattle.sim_1_applications.specs.Events.{is_among}
use Rattle.sim_1_applications.specs.Kept.{AreNumbered, ArePast, IsNumbered, accepted, Taken}
use Rattle.sim_1_applications.specs.Laws.{EachPair, Precedes, IsOnceInOrder}
use Rattle.sim_1_applications.proofs.Lists.{all_append, all_weaker, all_filter}
use Rattle.sim_1_applications.proofs.Numbered.{messages_append, numbered_front}
use Rattle.sim_1_applications.proofs.SaidLines.{numbered_all as above}

pairs_filter : {A : Type 0} (R : A → A → Type 0) (p : A → Bool) (xs : List A) → EachPair R xs → EachPair R (filter p xs)
pairs_filter R p [] known = tt
pairs_filter R p (x ∷ xs) known = chosen (p x) (pairs_filter R p xs known.1)
  where
    chosen : (b : Bool) → EachPair R (filter p xs) → EachPair R (cond b (x ∷ filter p xs) (filter p xs))
    chosen true others = (all_filter (R x) p xs known.0, others)
    chosen false others = others

pairs_append : {A : Type 0} (R : A → A → Type 0) (xs ys : List A) → EachPair R xs → EachPair R ys → AllByRecursion (λ x. AllByRecursion (R x) ys) xs → EachPair R (xs ++ ys)
pairs_append R [] ys first second between = second
pairs_append R (x ∷ xs) ys first second between = (all_append (R x) xs ys first.0 between.0, pairs_append R xs ys first.1 second between.1)

pairs_numbered : (e n : ℕ) (ms : List Submission) → AreNumbered e n ms → EachPair Precedes ms
pairs_numbered e n [] known = tt
pairs_numbered e n (m ∷ ms) known = (
  all_weaker (λ k. (k.epoch ≡ e) × (suc n < k.n)) (Precedes m) ms (λ k a. let mine = known.0 in let number = known.1 in inr (known.0 ∙ sym a.0, let b = a.1 in omega arith)) (above e (suc n) ms known.2),
  pairs_numbered e (suc n) ms known.2,
)

-- what was accepted of a session
accepted_numbered : (accounts : List (List ℕ)) (e : ℕ) (s : Session) → IsNumbered e s → EachPair Precedes (accepted accounts s) × AllByRecursion (λ m. m.epoch ≡ e) (accepted accounts s)
accepted_numbered accounts e s known =
    let front : AreNumbered e 0 (messages s.up_got) = numbered_front e 0 (messages s.up_got) (messages s.up_rest) (subst (AreNumbered e 0) (messages_append s.up_got s.up_rest) known.numbers) in (
      pairs_filter Precedes (λ m. is_among m.to accounts) (messages s.up_got) (pairs_numbered e 0 (messages s.up_got) front),
      all_filter (λ m. m.epoch ≡ e) (λ m. is_among m.to accounts) (messages s.up_got)
          (all_weaker (λ m. (m.epoch ≡ e) × (0 < m.n)) (λ m. m.epoch ≡ e) (messages s.up_got) (λ m a. a.0) (above e 0 (messages s.up_got) front)),
    )

all_pairs : (e f : ℕ) (xs ys : List Submission) → e < f → AllByRecursion (λ m. m.epoch ≡ e) xs → AllByRecursion (λ m. f ≤ m.epoch) ys → AllByRecursion (λ x. AllByRecursion (Precedes x) ys) xs
all_pairs e f xs ys low first second =
    all_weaker (λ m. m.epoch ≡ e) (λ x. AllByRecursion (Precedes x) ys) xs (λ x is. all_weaker (λ m. f ≤ m.epoch) (Precedes x) ys (λ y high. inl (omega arith)) second) first

-- the sessions from an epoch on, and the present one
from_epoch : (accounts : List (List ℕ)) (e : ℕ) (past : List Session) (now : Session) → ArePast e past → IsNumbered (e + length past) now →
    EachPair Precedes (flat_map (accepted accounts) past ++ accepted accounts now) × AllByRecursion (λ m. e ≤ m.epoch) (flat_map (accepted accounts) past ++ accepted accounts now)
from_epoch accounts e [] now past known =
    let both = accepted_numbered accounts (e + 0) now known in
    (both.0, all_weaker (λ m. m.epoch ≡ e + 0) (λ m. e ≤ m.epoch) (accepted accounts now) (λ m is. omega arith) both.1)
from_epoch accounts e (s ∷ past) now known present =
    let others = from_epoch accounts (suc e) past now known.1 (subst (λ k. IsNumbered k now) (let same : e + suc (length past) ≡ suc e + length past = omega arith in same) present) in
    let one = accepted_numbered accounts e s known.0 in
    let rest = flat_map (accepted accounts) past ++ accepted accounts now in
    let joined = append_assoc (accepted accounts s) (flat_map (accepted accounts) past) (accepted accounts now) in (
      subst (EachPair Precedes) (sym joined) (pairs_append Precedes (accepted accounts s) rest one.0 others.0 (all_pairs e (suc e) (accepted accounts s) rest (omega arith) one.1 others.1)),
      subst (AllByRecursion (λ m. e ≤ m.epoch)) (sym joined) (all_append (λ m. e ≤ m.epoch) (accepted accounts s) rest
          (all_weaker (λ m. m.epoch ≡ e) (λ m. e ≤ m.epoch) (accepted accounts s) (λ m is. omega arith) one.1)
          (all_weaker (λ m. suc e ≤ m.epoch) (λ m. e ≤ m.epoch) rest (λ m high. omega arith) others.1)),
    )

pub once_in_order : (w : AppWorld) → Taken w → (i : ℕ) (d : Device) → slice_get w.devices i ≡ Some d → IsOnceInOrder w.takes i
once_in_order w kept i d at =
    let was = kept.devices i d at in
    let sessions = was.sessions in
    record {
      rise = subst (EachPair Precedes) (sym was.takes.are)
          (from_epoch w.accounts 0 d.sessions.past d.sessions.now sessions.past (subst (λ k. IsNumbered k d.sessions.now) (let same : length d.sessions.past ≡ 0 + length d.sessions.past = omega arith in same) sessions.now)).0;
    }
