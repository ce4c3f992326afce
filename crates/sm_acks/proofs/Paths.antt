-- What a queue's path through the nodes is after some of them changed.
use Rattle.std.proofs.Common.{◌≡◌, ◌≢◌, ℕ, zero, suc, ◌+◌, ◌-◌, ◌<◌, ◌≤◌, true, true≢false, List, [], ◌∷◌, ◌++◌, Option, Some, None, is_some, IsSome, IfSome, length, length-append, min, get_or, set, drop, count_by, cond, refl, sym, ap, ◌∙◌, arith, inl, inr}
use Rattle.std.proofs.lemmas.Bool.{cases_eq}
use Rattle.std.proofs.lemmas.List.{append_assoc, drop-drop, map-append, length-map}
use Rattle.std.proofs.lemmas.List.Sums.{sum_by-cons}
use Rattle.std.specs.List.{concat, slice_get}
use Rattle.slab.specs.Slab.{Slab, ContainsKey, with_value}
use Rattle.slab.proofs.SlabLemmas.{Updates-with_value}
use Rattle.sm_acks.specs.Arena.{Slots, node_at, next_in, bytes_in, path, path_of, bytes_along, stanzas_at, Lacks, AreOnce, AreApart, AreHeld, EndsIn, IsLinked, LeavesOthers}
use Rattle.base_io.specs.Listed.{Listed}
use Rattle.sm_acks.specs.Queues.{stanzas_in}
use Rattle.sm_acks.specs.declared.nodes.Ends.{Ends}
use Rattle.sm_acks.specs.declared.nodes.Node.{Node}

-- ---- the same nodes

-- both have the same at each of these places
abbrev pub Agree : Slots → Slots → List ℕ → Type 0
Agree s t [] = Unit {0}
Agree s t (p ∷ positions) = (node_at t p ≡ node_at s p) × Agree s t positions

path_agrees : (s t : Slots) (n at : ℕ) → Agree s t (path s n at) → path t n at ≡ path s n at
path_agrees s t zero at a = refl
path_agrees s t (suc n) at a = rw a.0 (ap (λ l. at ∷ l) (path_agrees s t n (next_in (node_at s at)) a.1))

bytes_agree : (s t : Slots) (positions : List ℕ) → Agree s t positions → bytes_along t positions ≡ bytes_along s positions
bytes_agree s t [] a = refl
bytes_agree s t (p ∷ positions) a = rw a.0 (ap (λ l. bytes_in (node_at s p) ∷ l) (bytes_agree s t positions a.1))

held_agree : (s t : Slots) (positions : List ℕ) → Agree s t positions → AreHeld s positions → AreHeld t positions
held_agree s t [] a h = tt
held_agree s t (p ∷ positions) a h = (rw a.0 h.0, held_agree s t positions a.1 h.1)

-- ---- places

apart_parts : (xs ys : List ℕ) (y : ℕ) → AreApart xs (y ∷ ys) → Lacks y xs × AreApart xs ys
apart_parts [] ys y a = (tt, tt)
apart_parts (x ∷ xs) ys y a =
    let rest = apart_parts xs ys y a.1 in
    ((λ e. a.0.0 (sym e), rest.0), (a.0.1, rest.1))

pub lacks_drop : (k n : ℕ) (positions : List ℕ) → Lacks k positions → Lacks k (drop n positions)
lacks_drop k zero positions away = away
lacks_drop k (suc n) [] away = tt
lacks_drop k (suc n) (p ∷ positions) away = lacks_drop k n positions away.1

pub apart_drop : (n : ℕ) (xs ys : List ℕ) → AreApart xs ys → AreApart (drop n xs) ys
apart_drop zero xs ys a = a
apart_drop (suc n) [] ys a = tt
apart_drop (suc n) (x ∷ xs) ys a = apart_drop n xs ys a.1

-- what is left after one more
pub drop_next : {A : Type 0} (i : ℕ) (all : List A) (x : A) (rest : List A) → drop i all ≡ x ∷ rest → rest ≡ drop (i + 1) all
drop_next i all x rest split = sym (ap (drop 1) split) ∙ drop-drop 1 i all

pub drop_all : {A : Type 0} (all : List A) → drop (length all) all ≡ []
drop_all [] = refl
drop_all (x ∷ all) = drop_all all

pub apart_none : (xs : List ℕ) → AreApart xs []
apart_none [] = tt
apart_none (x ∷ xs) = (tt, apart_none xs)

pub apart_sym : (xs ys : List ℕ) → AreApart xs ys → AreApart ys xs
apart_sym xs [] a = tt
apart_sym xs (y ∷ ys) a = let parts = apart_parts xs ys y a in (parts.0, apart_sym xs ys parts.1)

pub apart_append : (xs ys zs : List ℕ) → AreApart xs zs → AreApart ys zs → AreApart (xs ++ ys) zs
apart_append [] ys zs a b = b
apart_append (x ∷ xs) ys zs a b = (a.0, apart_append xs ys zs a.1 b)

lacks_append : (p : ℕ) (xs ys : List ℕ) → Lacks p xs → Lacks p ys → Lacks p (xs ++ ys)
lacks_append p [] ys a b = b
lacks_append p (x ∷ xs) ys a b = (a.0, lacks_append p xs ys a.1 b)

once_append : (xs ys : List ℕ) → AreOnce xs → AreOnce ys → AreApart xs ys → AreOnce (xs ++ ys)
once_append [] ys a b apart = b
once_append (x ∷ xs) ys a b apart = (lacks_append x xs ys a.0 apart.0, once_append xs ys a.1 b apart.1)

held_append : (s : Slots) (xs ys : List ℕ) → AreHeld s xs → AreHeld s ys → AreHeld s (xs ++ ys)
held_append s [] ys a b = b
held_append s (x ∷ xs) ys a b = (a.0, held_append s xs ys a.1 b)

ends_append : (last : ℕ) (xs : List ℕ) (y : ℕ) (ys : List ℕ) → EndsIn last (y ∷ ys) → EndsIn last (xs ++ y ∷ ys)
ends_append last [] y ys e = e
ends_append last (x ∷ []) y ys e = e
ends_append last (x ∷ z ∷ xs) y ys e = ends_append last (z ∷ xs) y ys e

ends_tail : (last p : ℕ) (positions : List ℕ) → EndsIn last (p ∷ positions) → EndsIn last positions
ends_tail last p [] e = tt
ends_tail last p (q ∷ positions) e = e

not_last : (at last p : ℕ) (positions : List ℕ) → Lacks at (p ∷ positions) → EndsIn last (p ∷ positions) → at ≢ last
not_last at last p [] lacks ends = λ e. lacks.0 (e ∙ sym ends)
not_last at last p (q ∷ positions) lacks ends = not_last at last q positions lacks.1 ends

held_last : (s : Slots) (last p : ℕ) (positions : List ℕ) → AreHeld s (p ∷ positions) → EndsIn last (p ∷ positions) → IsSome (node_at s last)
held_last s last p [] held ends = rw (← ends) held.0
held_last s last p (q ∷ positions) held ends = held_last s last q positions held.1 ends

-- a place without a node is none of those that have one
pub held_lacks : (s : Slots) (k : ℕ) (positions : List ℕ) → AreHeld s positions → node_at s k ≡ None → Lacks k positions
held_lacks s k [] held none = tt
held_lacks s k (p ∷ positions) held none =
    (λ e. let same : is_some (node_at s k) ≡ true = rw e held.0 in absurd (true≢false (sym same ∙ ap is_some none)), held_lacks s k positions held.1 none)

agree_but : (s t : Slots) (k : ℕ) (positions : List ℕ) → ((p : ℕ) → p ≢ k → node_at t p ≡ node_at s p) → Lacks k positions → Agree s t positions
agree_but s t k [] same lacks = tt
agree_but s t k (p ∷ positions) same lacks = (same p (λ e. lacks.0 (sym e)), agree_but s t k positions same lacks.1)

pub agree_apart : (s t : Slots) (own positions : List ℕ) → ((p : ℕ) → IsSome (node_at s p) → Lacks p own → node_at t p ≡ node_at s p) → AreHeld s positions → AreApart own positions → Agree s t positions
agree_apart s t own [] same held apart = tt
agree_apart s t own (p ∷ positions) same held apart =
    let parts = apart_parts own positions p apart in
    (same p held.0 parts.0, agree_apart s t own positions same held.1 parts.1)

-- ---- a queue that keeps its nodes

pub path_stays : (s t : Slots) (e : Ends) → Agree s t (path_of s e) → path_of t e ≡ path_of s e
path_stays s t e a = path_agrees s t e.len e.first a

pub linked_stays : (s t : Slots) (e : Ends) → Agree s t (path_of s e) → IsLinked s e → IsLinked t e
linked_stays s t e a h =
    let same = path_stays s t e a in
    record { held = rw same (held_agree s t (path_of s e) a h.held); once = rw same h.once; ended = rw same h.ended }

pub stanzas_stay : (s t : Slots) (e : Ends) → Agree s t (path_of s e) → stanzas_at t e ≡ stanzas_at s e
unfolding stanzas_at
stanzas_stay s t e a = rw (path_stays s t e a) (bytes_agree s t (path_of s e) a)

-- ---- how long a queue is

path_length : (s : Slots) (n at : ℕ) → length (path s n at) ≡ n
path_length s zero at = refl
path_length s (suc n) at = ap suc (path_length s n (next_in (node_at s at)))

pub stanzas_length : (s : Slots) (e : Ends) → length (stanzas_at s e) ≡ e.len
unfolding stanzas_at
stanzas_length s e = length-map (path_of s e) (λ at. bytes_in (node_at s at)) ∙ path_length s e.len e.first

-- ---- one node written

-- the node at a place says which one stands behind it, and nothing else changed
pub record IsRelinked (s t : Slots) (last first : ℕ) : Type 0 where
  pub others : (p : ℕ) → p ≢ last → node_at t p ≡ node_at s p
  pub linked : next_in (node_at t last) ≡ first
  pub bytes : (p : ℕ) → bytes_in (node_at t p) ≡ bytes_in (node_at s p)
  pub held : (p : ℕ) → IsSome (node_at s p) → IsSome (node_at t p)

count_written : (slots : Slots) (k : ℕ) (node : Node) → IsSome (get_or slots k None) → count_by is_some (set slots k (Some node)) ≡ count_by is_some slots
count_written [] k node there = absurd (true≢false (sym there))
count_written (None ∷ slots) zero node there = absurd (true≢false (sym there))
count_written (Some old ∷ slots) zero node there =
    sum_by-cons (λ x. cond (is_some x) 1 0) (Some node) slots ∙ sym (sum_by-cons (λ x. cond (is_some x) 1 0) (Some old) slots)
count_written (x ∷ slots) (suc k) node there =
    sum_by-cons (λ x. cond (is_some x) 1 0) x (set slots k (Some node)) ∙ ap (λ n. cond (is_some x) 1 0 + n) (count_written slots k node there)
    ∙ sym (sum_by-cons (λ x. cond (is_some x) 1 0) x slots)

relinked : (s t : Slab Node) (last first : ℕ) (node : Node) → node_at s.slots last ≡ Some node → t ≡ with_value s last (record node { next = first }) → IsRelinked s.slots t.slots last first
relinked s t last first node is written =
    let there : ContainsKey s last = rw is refl in
    let updates = Updates-with_value s last (record node { next = first }) there in
    let new : node_at t.slots last ≡ Some (record node { next = first }) = rw written updates.changed in
    let same : (p : ℕ) → p ≢ last → node_at t.slots p ≡ node_at s.slots p = λ p away. rw written (updates.others p away) in
    record {
      others = same;
      linked = rw new refl;
      bytes = λ p. elim (cases_eq p last) [
        | inl e ↦ rw (e, new, is) refl
        | inr e ↦ ap bytes_in (same p e)
      ];
      held = λ p some. elim (cases_eq p last) [
        | inl e ↦ rw (e, new) refl
        | inr e ↦ rw (same p e) some
      ];
    }

bytes_same : (s t : Slots) (positions : List ℕ) → ((p : ℕ) → bytes_in (node_at t p) ≡ bytes_in (node_at s p)) → bytes_along t positions ≡ bytes_along s positions
bytes_same s t [] same = refl
bytes_same s t (p ∷ positions) same = rw (same p) (ap (λ l. bytes_in (node_at s p) ∷ l) (bytes_same s t positions same))

held_same : (s t : Slots) (positions : List ℕ) → ((p : ℕ) → IsSome (node_at s p) → IsSome (node_at t p)) → AreHeld s positions → AreHeld t positions
held_same s t [] same held = tt
held_same s t (p ∷ positions) same held = (same p held.0, held_same s t positions same held.1)

-- ---- a queue behind another

path_on : (s t : Slots) (n m at last first : ℕ) → EndsIn last (path s (suc n) at) → AreOnce (path s (suc n) at) → IsRelinked s t last first → path t (suc n + m) at ≡ path s (suc n) at ++ path t m first
path_on s t zero m at last first ends once h =
    let next : next_in (node_at t at) ≡ first = rw ends h.linked in
    let step : suc zero + m ≡ suc m = omega arith in
    rw (step, next) refl
path_on s t (suc n) m at last first ends once h =
    let away = not_last at last (next_in (node_at s at)) (path s n (next_in (node_at s (next_in (node_at s at))))) once.0 ends in
    let same = h.others at away in
    let step : suc (suc n) + m ≡ suc (suc n + m) = omega arith in
    rw (step, same) (ap (λ l. at ∷ l) (path_on s t n m (next_in (node_at s at)) last first ends once.1 h))

-- a queue that got the nodes of another
pub record IsJoined (s t : Slots) (e f g : Ends) : Type 0 where
  pub linked : IsLinked t g
  pub path : path_of t g ≡ path_of s e ++ path_of s f
  pub stanzas : stanzas_at t g ≡ stanzas_at s e ++ stanzas_at s f

lacks_last : (last p : ℕ) (positions others : List ℕ) → EndsIn last (p ∷ positions) → AreApart (p ∷ positions) others → Lacks last others
lacks_last last p [] others ends apart = rw (← ends) apart.0
lacks_last last p (q ∷ positions) others ends apart = lacks_last last q positions others ends apart.1

-- the ends of a queue
abbrev pub ends_as : ℕ → ℕ → ℕ → Ends
ends_as first last len = record { first = first; last = last; len = len }

joined_ends : (s t : Slots) (n m at last first end : ℕ) → IsLinked s (ends_as at last (suc n)) → IsLinked s (ends_as first end (suc m))
    → AreApart (path s (suc n) at) (path s (suc m) first) → IsRelinked s t last first
    → IsJoined s t (ends_as at last (suc n)) (ends_as first end (suc m)) (ends_as at end (suc n + suc m))
unfolding stanzas_at
joined_ends s t n m at last first end front following apart h =
    let xs = path s (suc n) at in
    let ys = path s (suc m) first in
    let away : Lacks last ys = lacks_last last at (path s n (next_in (node_at s at))) ys front.ended apart in
    let stays : path t (suc m) first ≡ ys = path_agrees s t (suc m) first (agree_but s t last ys h.others away) in
    let whole : path t (suc n + suc m) at ≡ xs ++ ys = path_on s t n (suc m) at last first front.ended front.once h ∙ ap (λ l. xs ++ l) stays in
    record {
      linked = record {
        held = rw whole (held_append t xs ys (held_same s t xs h.held front.held) (held_same s t ys h.held following.held));
        once = rw whole (once_append xs ys front.once following.once apart);
        ended = rw whole (ends_append end xs first (path s m (next_in (node_at s first))) following.ended);
      };
      path = whole;
      stanzas = ap (bytes_along t) whole ∙ bytes_same s t (xs ++ ys) h.bytes ∙ map-append (λ p. bytes_in (node_at s p)) xs ys;
    }

pub joined_from : (s t : Slots) (l k at last first end : ℕ) → l ≢ 0 → k ≢ 0 → IsLinked s (ends_as at last l) → IsLinked s (ends_as first end k)
    → AreApart (path s l at) (path s k first) → IsRelinked s t last first → IsJoined s t (ends_as at last l) (ends_as first end k) (ends_as at end (l + k))
joined_from s t zero k at last first end some others front following apart h = absurd (some refl)
joined_from s t (suc n) zero at last first end some others front following apart h = absurd (others refl)
joined_from s t (suc n) (suc m) at last first end some others front following apart h = joined_ends s t n m at last first end front following apart h

-- the last node of a queue that isn't empty
pub last_held : (s : Slots) (l at last : ℕ) → l ≢ 0 → IsLinked s (ends_as at last l) → IsSome (node_at s last)
last_held s zero at last some h = absurd (some refl)
last_held s (suc n) at last some h = held_last s last at (path s n (next_in (node_at s at))) h.held h.ended

some_from : (o : Option Node) → IsSome o → (node : Node) × (o ≡ Some node)
some_from None some = absurd (true≢false (sym some))
some_from (Some node) some = (node, refl)

pub relinked_by : (s t : Slab Node) (last first : ℕ) → IsSome (node_at s.slots last)
    → IfSome (node_at s.slots last) (λ node. t ≡ with_value s last (record node { next = first })) → IsRelinked s.slots t.slots last first
relinked_by s t last first there written =
    let node = some_from (node_at s.slots last) there in
    relinked s t last first node.0 node.1 (rw node.1 at written)

outside : (s : Slots) (l at last p : ℕ) → l ≢ 0 → EndsIn last (path s l at) → Lacks p (path s l at) → p ≢ last
outside s zero at last p some ends lacks = absurd (some refl)
outside s (suc n) at last p some ends lacks = not_last p last at (path s n (next_in (node_at s at))) lacks ends

pub leaves_by : (s t : Slab Node) (l at last first : ℕ) → l ≢ 0 → EndsIn last (path s.slots l at) → IsSome (node_at s.slots last)
    → IfSome (node_at s.slots last) (λ node. t ≡ with_value s last (record node { next = first })) → LeavesOthers s t (path s.slots l at)
leaves_by s t l at last first some ends there written =
    let node = some_from (node_at s.slots last) there in
    let is = rw node.1 at written in
    let h = relinked s t last first node.0 node.1 is in
    record {
      others = λ p lacks. h.others p (outside s.slots l at last p some ends lacks);
      len = rw is (count_written s.slots last (record node.0 { next = first }) there);
      capacity = rw is refl;
    }

pub stanzas_none : (s : Slots) (e : Ends) → e.len ≡ 0 → stanzas_at s e ≡ []
unfolding stanzas_at
stanzas_none s e none = rw none refl

-- ---- a queue less its first node

pub record IsTaken (s t : Slots) (e g : Ends) (node : Node) : Type 0 where
  pub linked : IsLinked t g
  pub path : path_of s e ≡ e.first ∷ path_of t g
  pub stanzas : stanzas_at s e ≡ node.bytes.items ∷ stanzas_at t g

taken_ends : (s t : Slots) (n at last : ℕ) (node : Node) → IsLinked s (ends_as at last (suc n)) → node_at s at ≡ Some node
    → ((p : ℕ) → p ≢ at → node_at t p ≡ node_at s p) → IsTaken s t (ends_as at last (suc n)) (ends_as node.next last n) node
unfolding stanzas_at
taken_ends s t n at last node h is others =
    let next : next_in (node_at s at) ≡ node.next = rw is refl in
    let tail : path s n (next_in (node_at s at)) ≡ path s n node.next = ap (path s n) next in
    let lacks : Lacks at (path s n node.next) = rw tail at h.once.0 in
    let agree = agree_but s t at (path s n node.next) others lacks in
    let stays : path t n node.next ≡ path s n node.next = path_agrees s t n node.next agree in
    record {
      linked = record {
        held = rw stays (held_agree s t (path s n node.next) agree (rw tail at h.held.1));
        once = rw stays (rw tail at h.once.1);
        ended = rw stays (ends_tail last at (path s n node.next) (rw tail at h.ended));
      };
      path = ap (λ l. at ∷ l) (tail ∙ sym stays);
      stanzas =
          let first : bytes_in (node_at s at) ≡ node.bytes.items = rw is refl in
          rw (first, tail, stays) (ap (λ l. node.bytes.items ∷ l) (sym (bytes_agree s t (path s n node.next) agree)));
    }

pub taken_from : (s t : Slots) (l at last : ℕ) (node : Node) → 0 < l → IsLinked s (ends_as at last l) → node_at s at ≡ Some node
    → ((p : ℕ) → p ≢ at → node_at t p ≡ node_at s p) → IsTaken s t (ends_as at last l) (ends_as node.next last (l - 1)) node
taken_from s t zero at last node some h is others = absurd (omega (arith, some))
taken_from s t (suc n) at last node some h is others =
    let less : suc n - 1 ≡ n = omega arith in
    rw less (taken_ends s t n at last node h is others)

-- ---- a queue of one node

pub stanzas_one : (s : Slots) (k : ℕ) (node : Node) → node_at s k ≡ Some node → stanzas_at s (ends_as k k 1) ≡ node.bytes.items ∷ []
unfolding stanzas_at
stanzas_one s k node is =
    let first : bytes_in (node_at s k) ≡ node.bytes.items = rw is refl in
    rw first refl

pub vacant_differs : (s : Slots) (k p : ℕ) → node_at s k ≡ None → IsSome (node_at s p) → p ≢ k
vacant_differs s k p none some = λ e. let there : is_some (node_at s k) ≡ true = rw (← e) some in absurd (true≢false (sym there ∙ ap is_some none))

-- the place of a node that is new is none of a queue's
pub new_apart : (s : Slots) (k : ℕ) (positions : List ℕ) → AreHeld s positions → node_at s k ≡ None → AreApart (k ∷ []) positions
new_apart s k positions held none = (held_lacks s k positions held none, tt)

-- a node more, and each other as it was
pub agree_more : (s t : Slots) (k : ℕ) (positions : List ℕ) → AreHeld s positions → node_at s k ≡ None → ((p : ℕ) → p ≢ k → node_at t p ≡ node_at s p) → Agree s t positions
agree_more s t k positions held none same = agree_but s t k positions same (held_lacks s k positions held none)

-- ---- a walk along a path

path_step : (s : Slots) (n at : ℕ) → 0 < n → path s n at ≡ at ∷ path s (n - 1) (next_in (node_at s at))
path_step s zero at some = absurd (omega (arith, some))
path_step s (suc n) at some =
    let less : suc n - 1 ≡ n = omega arith in rw less refl

held_drop : (s : Slots) (k : ℕ) (positions : List ℕ) → AreHeld s positions → AreHeld s (drop k positions)
held_drop s zero positions held = held
held_drop s (suc k) [] held = tt
held_drop s (suc k) (p ∷ positions) held = held_drop s k positions held.1

drop_tail : (k x : ℕ) (xs rest : List ℕ) → drop k xs ≡ x ∷ rest → drop (k + 1) xs ≡ rest
drop_tail zero x [] rest is = cc
drop_tail zero x (y ∷ xs) rest is = cc
drop_tail (suc k) x [] rest is = cc
drop_tail (suc k) x (y ∷ xs) rest is =
    let step : suc k + 1 ≡ suc (k + 1) = omega arith in rw step (drop_tail k x xs rest is)

-- the node that a walk has come to
pub walk_held : (s : Slots) (n first k at : ℕ) → AreHeld s (path s n first) → k < n → drop k (path s n first) ≡ path s (n - k) at → IsSome (node_at s at)
walk_held s n first k at held within is =
    let here = is ∙ path_step s (n - k) at (omega (arith, within)) in
    (rw here at (held_drop s k (path s n first) held)).0

pub walk_on : (s : Slots) (n first k at : ℕ) → k < n → drop k (path s n first) ≡ path s (n - k) at → drop (k + 1) (path s n first) ≡ path s (n - (k + 1)) (next_in (node_at s at))
walk_on s n first k at within is =
    let less : n - k - 1 ≡ n - (k + 1) = omega arith in
    rw less at (drop_tail k at (path s n first) (path s (n - k - 1) (next_in (node_at s at))) (is ∙ path_step s (n - k) at (omega (arith, within))))

-- what stands from there on
pub walk_rest : (s : Slots) (n first k at : ℕ) → AreHeld s (path s n first) → drop k (path s n first) ≡ path s (n - k) at → AreHeld s (path s (n - k) at)
walk_rest s n first k at held is = rw is at (held_drop s k (path s n first) held)

bytes_get : (s : Slots) (k at : ℕ) (xs rest : List ℕ) → drop k xs ≡ at ∷ rest → slice_get (bytes_along s xs) k ≡ Some (bytes_in (node_at s at))
bytes_get s zero at [] rest is = cc
bytes_get s zero at (x ∷ xs) rest is = let same : x ≡ at = cc in rw same refl
bytes_get s (suc k) at [] rest is = cc
bytes_get s (suc k) at (x ∷ xs) rest is = bytes_get s k at xs rest is

pub stanza_at : (s : Slots) (e : Ends) (k at : ℕ) → k < e.len → drop k (path_of s e) ≡ path s (e.len - k) at → slice_get (stanzas_at s e) k ≡ Some (bytes_in (node_at s at))
unfolding stanzas_at
stanza_at s e k at within is = bytes_get s k at (path_of s e) (path s (e.len - k - 1) (next_in (node_at s at))) (is ∙ path_step s (e.len - k) at (omega (arith, within)))

bytes_drop : (s : Slots) (k : ℕ) (xs : List ℕ) → drop k (bytes_along s xs) ≡ bytes_along s (drop k xs)
bytes_drop s zero xs = refl
bytes_drop s (suc k) [] = refl
bytes_drop s (suc k) (x ∷ xs) = bytes_drop s k xs

pub stanzas_drop : (s : Slots) (e : Ends) (k at : ℕ) → drop k (path_of s e) ≡ path s (e.len - k) at → drop k (stanzas_at s e) ≡ bytes_along s (path s (e.len - k) at)
unfolding stanzas_at
stanzas_drop s e k at is = bytes_drop s k (path_of s e) ∙ ap (bytes_along s) is

-- the first of so many nodes
pub front_held : (s : Slots) (n at : ℕ) → 0 < n → AreHeld s (path s n at) → IsSome (node_at s at) × AreHeld s (path s (n - 1) (next_in (node_at s at)))
front_held s n at some held = rw (path_step s n at some) at held

pub front_bytes : (s : Slots) (n at : ℕ) → 0 < n → concat (bytes_along s (path s n at)) ≡ bytes_in (node_at s at) ++ concat (bytes_along s (path s (n - 1) (next_in (node_at s at))))
front_bytes s n at some = ap (λ positions. concat (bytes_along s positions)) (path_step s n at some)

pub front_stanzas : (s : Slots) (n at : ℕ) → 0 < n → bytes_along s (path s n at) ≡ bytes_in (node_at s at) ∷ bytes_along s (path s (n - 1) (next_in (node_at s at)))
front_stanzas s n at some = ap (bytes_along s) (path_step s n at some)

-- ---- bytes on their way out: some now, and the rest later

pub left_room : (all now first rest : List ℕ) (spare : ℕ) → all ≡ first ++ rest → now ≡ first → length all ≤ spare → length now ≤ spare
left_room all now first rest spare whole is room = omega (arith, room, ap length whole, length-append first rest, ap length is)

pub room_left : (all now first rest : List ℕ) (spare less : ℕ) → all ≡ first ++ rest → now ≡ first → length all ≤ spare → spare ≤ less + length now → length rest ≤ less
room_left all now first rest spare less whole is room lower = omega (arith, room, lower, ap length whole, length-append first rest, ap length is)

pub left_items : (all now first rest out new due : List ℕ) → all ≡ first ++ rest → now ≡ first → out ++ all ≡ due → new ≡ out ++ now → new ++ rest ≡ due
left_items all now first rest out new due whole is was put =
    rw (put, is) (append_assoc out first rest ∙ ap (λ l. out ++ l) (sym whole) ∙ was)

pub left_sum : (all now first rest : List ℕ) (len new most due : ℕ) → all ≡ first ++ rest → now ≡ first → min (len + length all) most ≡ due → new ≡ min (len + length now) most → min (new + length rest) most ≡ due
left_sum all now first rest len new most due whole is was put =
    rw (put, ← was, whole, is, length-append first rest) (arithmetic len (length first) (length rest))
  where
    arithmetic : (a b c : ℕ) → min (min (a + b) most + c) most ≡ min (a + (b + c)) most
    arithmetic a b c = omega arith

-- the same of whole stanzas
pub left_stanzas : (out new : List (Listed ℕ)) (copy : Listed ℕ) (first : List ℕ) (all rest due : List (List ℕ)) → all ≡ first ∷ rest → copy.items ≡ first → stanzas_in out ++ all ≡ due → new ≡ out ++ copy ∷ [] → stanzas_in new ++ rest ≡ due
left_stanzas out new copy first all rest due whole is was put =
    let added : stanzas_in new ≡ stanzas_in out ++ first ∷ [] = rw (put, map-append (λ (b : Listed ℕ). b.items) out (copy ∷ []), is) refl in
    rw added (append_assoc (stanzas_in out) (first ∷ []) rest ∙ ap (λ l. stanzas_in out ++ l) (sym whole) ∙ was)
