-- What a connection's feed shows is what the events say of it.
use Rattle.std.proofs.Common.{◌≡◌, ◌||◌, ℕ, Bool, true, false, List, [], ◌∷◌, ◌++◌, map, ap, refl, subst, sym, ◌∙◌, inl, inr}
use Rattle.std.proofs.lemmas.Bool.{cases_Bool, eq-eqb}
use Rattle.std.proofs.lemmas.List.Concat.{flat_map-cons}
use Rattle.std.specs.List.{AllByRecursion}
use Rattle.std.specs.Prelude.{if◌then◌else◌, nat_eq}
use Rattle.srv_state.specs.State.{is_number}
use Rattle.net_hub.specs.Served.{feed_of, joined}
use Rattle.cmd_journal.specs.Journals.{Connect, EventView, Gone, Piece}
use Rattle.net_owner.specs.Events as owner
use Rattle.net_owner.specs.Events.{Told, shown}
use Rattle.net_hub.specs.Records.{bare}
use Rattle.cmd_rerun.proofs.Entries.{apart_eqb, same_is}
use Rattle.law_hub.specs.Again.{bytes_in, in_bytes, is_gone, leaves}
use Rattle.cmd_rerun.specs.Silence.{IsOther}

-- ---- numbers are compared in either way

number_is : (k j : ℕ) → nat_eq j k ≡ is_number k j
number_is k j = elim (cases_Bool (is_number k j)) [
  | inl same ↦ eq-eqb j k (sym (same_is k j same)) ∙ sym same
  | inr apart ↦ apart_eqb k j apart ∙ sym apart
]

either_way : {A : Type 0} (a : A) (b : Bool) → a ≡ (if b then a else a)
either_way a true = refl
either_way a false = refl

abbrev shows : ℕ → EventView → Bool
shows k event = nat_eq (bare event).conn k

-- ---- the bytes

abbrev told_bytes : Told → List ℕ
told_bytes owner.Connect = []
told_bytes (owner.Gave bytes) = bytes
told_bytes owner.Gone = []

abbrev all_bytes : List Told → List ℕ
all_bytes [] = []
all_bytes (t ∷ ts) = told_bytes t ++ all_bytes ts

bytes_if : (b : Bool) (t : Told) (ts : List Told) → all_bytes (if b then t ∷ ts else ts) ≡ (if b then told_bytes t else []) ++ all_bytes ts
bytes_if true t ts = refl
bytes_if false t ts = refl

event_bytes : (k : ℕ) (event : EventView) → in_bytes k event ≡ (if shows k event then told_bytes (bare event).told else [])
event_bytes k (Connect j moment entropy) = either_way [] (nat_eq j k)
event_bytes k (Piece j moment bytes) = ap (λ b. if b then bytes else []) (sym (number_is k j))
event_bytes k (Gone j moment) = either_way [] (nat_eq j k)

events_bytes : (k : ℕ) (events : List EventView) → bytes_in k events ≡ all_bytes (shown k (map bare events))
unfolding shown
events_bytes k [] = refl
events_bytes k (event ∷ events) =
    flat_map-cons (in_bytes k) event events ∙ ap (λ b. b ++ bytes_in k events) (event_bytes k event)
    ∙ ap (λ b. (if shows k event then told_bytes (bare event).told else []) ++ b) (events_bytes k events)
    ∙ sym (bytes_if (shows k event) (bare event).told (shown k (map bare events)))

feed_bytes : (pieces : List (List ℕ)) → all_bytes (map owner.Gave pieces ++ owner.Gone ∷ []) ≡ joined pieces
feed_bytes [] = refl
feed_bytes (piece ∷ pieces) = ap (λ b. piece ++ b) (feed_bytes pieces) ∙ sym (flat_map-cons (λ p. p) piece pieces)

-- the pieces of a feed, joined
pub pieces_joined : (k : ℕ) (events : List EventView) (pieces : List (List ℕ)) → shown k (map bare events) ≡ feed_of pieces → bytes_in k events ≡ joined pieces
pieces_joined k events pieces feed = events_bytes k events ∙ ap all_bytes feed ∙ feed_bytes pieces

-- ---- whether it is gone

abbrev is_over : Told → Bool
is_over owner.Connect = false
is_over (owner.Gave bytes) = false
is_over owner.Gone = true

abbrev are_over : List Told → Bool
are_over [] = false
are_over (t ∷ ts) = is_over t || are_over ts

over_if : (b : Bool) (t : Told) (ts : List Told) → are_over (if b then t ∷ ts else ts) ≡ ((if b then is_over t else false) || are_over ts)
over_if true t ts = refl
over_if false t ts = refl

event_over : (k : ℕ) (event : EventView) → is_gone k event ≡ (if shows k event then is_over (bare event).told else false)
event_over k (Connect j moment entropy) = either_way false (nat_eq j k)
event_over k (Piece j moment bytes) = either_way false (nat_eq j k)
event_over k (Gone j moment) = sym (number_is k j) ∙ whole_if (nat_eq j k)
  where
    whole_if : (b : Bool) → b ≡ (if b then true else false)
    whole_if true = refl
    whole_if false = refl

events_over : (k : ℕ) (events : List EventView) → leaves k events ≡ are_over (shown k (map bare events))
unfolding shown
events_over k [] = refl
events_over k (event ∷ events) =
    ap (λ b. b || leaves k events) (event_over k event)
    ∙ ap (λ b. (if shows k event then is_over (bare event).told else false) || b) (events_over k events)
    ∙ sym (over_if (shows k event) (bare event).told (shown k (map bare events)))

feed_over : (pieces : List (List ℕ)) → are_over (map owner.Gave pieces ++ owner.Gone ∷ []) ≡ true
feed_over [] = refl
feed_over (piece ∷ pieces) = feed_over pieces

pub feed_leaves : (k : ℕ) (events : List EventView) (pieces : List (List ℕ)) → shown k (map bare events) ≡ feed_of pieces → leaves k events ≡ true
feed_leaves k events pieces feed = events_over k events ∙ ap are_over feed ∙ feed_over pieces

-- ---- a connection of which nothing is shown doesn't come

not_shown : (b : Bool) (t : Told) (ts : List Told) → (if b then t ∷ ts else ts) ≡ [] → (b ≡ false) × (ts ≡ [])
not_shown true t ts none = absurd (subst (λ (l : List Told). HasSome l) none tt)
  where
    HasSome : List Told → Type 0
    HasSome [] = ⊥
    HasSome (x ∷ xs) = Unit {0}
not_shown false t ts none = (refl, none)

event_other : (k : ℕ) (event : EventView) → shows k event ≡ false → IsOther k event
event_other k (Connect j moment entropy) apart = sym (number_is k j) ∙ apart
event_other k (Piece j moment bytes) apart = tt
event_other k (Gone j moment) apart = tt

pub none_come : (k : ℕ) (events : List EventView) → shown k (map bare events) ≡ [] → AllByRecursion (IsOther k) events
unfolding shown
none_come k [] none = tt
none_come k (event ∷ events) none =
    let parts = not_shown (shows k event) (bare event).told (shown k (map bare events)) none in (event_other k event parts.0, none_come k events parts.1)
