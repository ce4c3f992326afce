-- What was taken is of epochs that its device reached, and its numbers are no more than were said.
use Rattle.std.proofs.Common.{◌≡◌, ℕ, suc, ◌+◌, ◌<◌, ◌≤◌, ◌==◌, Bool, true, false, cond, List, [], ◌∷◌, Some, length, map, refl, sym, ap, subst, arith}
use Rattle.std.proofs.lemmas.Bool.{eq-eqb}
use Rattle.std.proofs.lemmas.List.{length-append}
use Rattle.std.specs.List.{AllByRecursion, filter, flat_map, slice_get}
use Rattle.sim_1_applications.specs.Stanzas.{Submission, messages}
use Rattle.sim_1_applications.specs.Devices.{AppWorld, Device, Session, Sessions, Take, epoch_of, up_put}
use Rattle.sim_1_applications.specs.Events as events
use Rattle.sim_1_applications.specs.Events.{is_among}
use Rattle.sim_1_applications.specs.Histories.{Spoken, spoken_in}
use Rattle.sim_1_applications.specs.Kept.{AreNumbered, ArePast, IsNumbered, IsOfDevice, SessionsKept, Taken, accepted, handled, is_of, said_in}
use Rattle.sim_1_applications.proofs.Lists.{all_append, all_filter, all_front, all_rest, all_weaker}
use Rattle.sim_1_applications.proofs.Numbered.{messages_append, numbered_front}
use Rattle.sim_1_applications.proofs.Runs.{taken_along, taken_beginning}
use Rattle.sim_1_applications.specs.Counts.{IsNumberedWithin, said_by, sessions_of}
use Rattle.sim_1_applications.proofs.Said.{messages_few}
use Rattle.mam_archive.proofs.NumberedEntries.{at_position as there_is}

-- Of one session.

abbrev IsFew : ℕ → Session → Type 0
IsFew n s = length (messages (up_put s)) ≤ n

numbers_within : (e k high n : ℕ) (ms : List Submission) → AreNumbered e k ms → e ≤ high → k + length ms ≤ n → AllByRecursion (IsNumberedWithin high n) ms
numbers_within e k high n [] known epoch few = tt
numbers_within e k high n (m ∷ ms) known epoch few =
    let of = known.0 in
    let number = known.1 in
    ((omega arith, omega arith), numbers_within e (suc k) high n ms known.2 epoch (omega arith))

accepted_within : (accounts : List (List ℕ)) (e high n : ℕ) (s : Session) → IsNumbered e s → e ≤ high → IsFew n s → AllByRecursion (IsNumberedWithin high n) (accepted accounts s)
accepted_within accounts e high n s known epoch few =
    let both = ap length (messages_append s.up_got s.up_rest) in
    let more = length-append (messages s.up_got) (messages s.up_rest) in
    all_filter (IsNumberedWithin high n) (λ m. is_among m.to accounts) (messages s.up_got)
    (numbers_within e 0 high n (messages s.up_got) (numbered_front e 0 (messages s.up_got) (messages s.up_rest) (subst (AreNumbered e 0) (messages_append s.up_got s.up_rest) known.numbers)) epoch (omega arith))

past_within : (accounts : List (List ℕ)) (e high n : ℕ) (ss : List Session) → ArePast e ss → e + length ss ≤ high → AllByRecursion (IsFew n) ss → AllByRecursion (IsNumberedWithin high n) (flat_map (accepted accounts) ss)
past_within accounts e high n [] known epochs few = tt
past_within accounts e high n (s ∷ ss) known epochs few =
    all_append (IsNumberedWithin high n) (accepted accounts s) (flat_map (accepted accounts) ss) (accepted_within accounts e high n s known.0 (omega arith) few.0)
    (past_within accounts (suc e) high n ss known.1 (omega arith) few.1)

handled_within : (accounts : List (List ℕ)) (s : Sessions) (n : ℕ) → SessionsKept s → AllByRecursion (IsFew n) (sessions_of s) → AllByRecursion (IsNumberedWithin (epoch_of s) n) (handled accounts s)
handled_within accounts s n kept few =
    all_append (IsNumberedWithin (epoch_of s) n) (flat_map (accepted accounts) s.past) (accepted accounts s.now)
    (past_within accounts 0 (epoch_of s) n s.past kept.past (omega arith) (all_front (IsFew n) s.past (s.now ∷ []) few))
    (accepted_within accounts (epoch_of s) (epoch_of s) n s.now kept.now (omega arith) (all_rest (IsFew n) s.past (s.now ∷ []) few).0)

-- Of the takes.

pub of_mapped : {A B : Type 0} (P : B → Type 0) (f : A → B) (xs : List A) → AllByRecursion P (map f xs) → AllByRecursion (λ x. P (f x)) xs
of_mapped P f [] known = tt
of_mapped P f (x ∷ xs) known = (known.0, of_mapped P f xs known.1)

pub of_device : (keep : ℕ) (accounts homes : List (List ℕ)) (all : List events.AppEvent) (w : AppWorld) → events.Reaches all (events.beginning keep accounts homes) w →
    (i : ℕ) (d : Device) → slice_get w.devices i ≡ Some d → AllByRecursion (λ t. IsNumberedWithin (epoch_of d.sessions) (length (said_by i all)) t.said) (filter (is_of i) w.takes)
of_device keep accounts homes all w led i d at =
    let known = (taken_along all (events.beginning keep accounts homes) w led (taken_beginning keep accounts homes)).devices i d at in
    let within = IsNumberedWithin (epoch_of d.sessions) (length (said_by i all)) in
    of_mapped within said_in (filter (is_of i) w.takes)
    (subst (AllByRecursion within) (sym known.takes.are)
    (handled_within w.accounts d.sessions (length (said_by i all)) known.sessions (messages_few keep accounts homes all w led i d at)))

-- what holds of those of each device holds of all
each_take : (P : Take → Type 0) (many : ℕ) (ts : List Take) → AllByRecursion (λ t. t.device < many) ts → ((i : ℕ) → i < many → AllByRecursion P (filter (is_of i) ts)) → AllByRecursion P ts
each_take P many [] placed known = tt
each_take P many (t ∷ ts) placed known = (first (t.device == t.device) (eq-eqb t.device t.device refl) (known t.device placed.0), each_take P many ts placed.1 (λ i low. rest (t.device == i) (filter (is_of i) ts) (known i low)))
  where
    first : (b : Bool) → b ≡ true → AllByRecursion P (cond b (t ∷ filter (is_of t.device) ts) (filter (is_of t.device) ts)) → P t
    first true is all = all.0
    first false is all = absurd (let no : ⊥ = cc in no)

    rest : (b : Bool) (us : List Take) → AllByRecursion P (cond b (t ∷ us) us) → AllByRecursion P us
    rest true us all = all.1
    rest false us all = all

filter_few : (p : Spoken → Bool) (xs : List Spoken) → length (filter p xs) ≤ length xs
filter_few p [] = omega arith
filter_few p (x ∷ xs) = chosen (p x) (filter_few p xs)
  where
    chosen : (b : Bool) → length (filter p xs) ≤ length xs → length (cond b (x ∷ filter p xs) (filter p xs)) ≤ suc (length xs)
    chosen true few = omega arith
    chosen false few = omega arith

-- a device said no more than all
pub said_few : (i : ℕ) (all : List events.AppEvent) → length (said_by i all) ≤ length (spoken_in all)
said_few i all = filter_few (λ s. s.device == i) (spoken_in all)

pub of_all : (keep : ℕ) (accounts homes : List (List ℕ)) (all : List events.AppEvent) (w : AppWorld) (high : ℕ) → events.Reaches all (events.beginning keep accounts homes) w →
    ((i : ℕ) (d : Device) → slice_get w.devices i ≡ Some d → epoch_of d.sessions ≤ high) → AllByRecursion (λ t. IsNumberedWithin high (length (spoken_in all)) t.said) w.takes
of_all keep accounts homes all w high led epochs =
    each_take (λ t. IsNumberedWithin high (length (spoken_in all)) t.said) (length w.devices) w.takes
    (all_weaker (IsOfDevice w.accounts (length w.devices)) (λ t. t.device < length w.devices) w.takes (λ t is. is.device) taken.placed) of_one
  where
    taken : Taken w
    taken = taken_along all (events.beginning keep accounts homes) w led (taken_beginning keep accounts homes)

    of_one : (i : ℕ) → i < length w.devices → AllByRecursion (λ t. IsNumberedWithin high (length (spoken_in all)) t.said) (filter (is_of i) w.takes)
    of_one i low =
        let there = there_is i w.devices low in
        let few = said_few i all in
        let epoch = epochs i there.0 there.1 in
        all_weaker (λ t. IsNumberedWithin (epoch_of there.0.sessions) (length (said_by i all)) t.said) (λ t. IsNumberedWithin high (length (spoken_in all)) t.said) (filter (is_of i) w.takes)
        (λ t is. (let e = is.0 in omega arith, let n = is.1 in omega arith)) (of_device keep accounts homes all w led i there.0 there.1)
