-- The intents of a device, and what becomes of them.
use Rattle.std.specs.Prelude.{ℕ, zero, suc, ◌+◌, ◌-◌, ◌≤◌, ◌==◌, Bool, true, false, List, [], ◌∷◌, ◌++◌, Option, Some, None, drop, length, map, slice_get, if◌then◌else◌}
use Rattle.std.specs.List.{list_any}
use Rattle.std.specs.Option.{option_map, option_map_or}
use Rattle.cl_handlers.specs.Clients.{ClientView}
use Rattle.mam_log.specs.declared.tile.Tile.{Tile}
use Rattle.cl_intents.specs.States.{state_of}
use Rattle.cl_intents.specs.declared.intents.Intent.{Intent}
use Rattle.cl_intents.specs.declared.intents.Next.{Next}
use Rattle.cl_intents.specs.declared.intents.Next.TheVariants.{CatchUp, Rest, Submit}
use Rattle.cl_intents.specs.declared.intents.Try.{Try}
use Rattle.cl_intents.specs.declared.states.IntentState.{IntentState}
use Rattle.cl_intents.specs.declared.states.IntentState.TheVariants as state

-- The device's full address, and its intents in the order in which they came, each with the room that it has for further
-- tries. And what was noted of its client: the epoch that was seen last, how many pages there were when it was seen first,
-- and an epoch since whose beginning a complete page was asked for.
pub record IntentsView : Type 0 where
  pub full : List ℕ
  pub intents : List Intent
  pub seen : ℕ
  pub mark : ℕ
  pub sure : ℕ

abbrev pub nothing_intended : List ℕ → IntentsView
nothing_intended full = record { full = full; intents = []; seen = 0; mark = 0; sure = 0 }

-- ---- intents under their numbers, from 1

abbrev pub index_under : ℕ → Option ℕ
index_under zero = None
index_under (suc index) = Some index

abbrev pub intent_at : Option ℕ → List Intent → Option Intent
intent_at None intents = None
intent_at (Some index) intents = slice_get intents index

abbrev pub intent_under : ℕ → List Intent → Option Intent
intent_under k intents = intent_at (index_under k) intents

-- for how many tries an intent has room
abbrev pub room_of : Option Intent → ℕ
room_of None = 0
room_of (Some i) = i.tries.spare

abbrev pub room_under : ℕ → List Intent → ℕ
room_under k intents = room_of (intent_under k intents)

abbrev pub changed_at : ℕ → (Intent → Intent) → List Intent → List Intent
changed_at index f [] = []
changed_at zero f (i ∷ is) = f i ∷ is
changed_at (suc index) f (i ∷ is) = i ∷ changed_at index f is

abbrev pub changed_where : Option ℕ → (Intent → Intent) → List Intent → List Intent
changed_where None f intents = intents
changed_where (Some index) f intents = changed_at index f intents

abbrev pub changed_under : ℕ → (Intent → Intent) → List Intent → List Intent
changed_under k f intents = changed_where (index_under k) f intents

-- ---- what is the same, whatever room there is

abbrev pub without_room : Intent → Intent
without_room i = record i { tries = record { items = i.tries.items; spare = 0 } }

abbrev pub without_rooms : IntentsView → IntentsView
without_rooms v = record v { intents = map without_room v.intents }

-- ---- intents and tries

abbrev pub new_intent : List ℕ → List ℕ → Intent
new_intent to text = record { to = to; text = text; tries = record { items = []; spare = 0 } }

abbrev pub with_intent : List ℕ → List ℕ → IntentsView → IntentsView
with_intent to text v = record v { intents = v.intents ++ new_intent to text ∷ [] }

abbrev pub tried_again : Try → Intent → Intent
tried_again t i = record i { tries = record i.tries { items = i.tries.items ++ t ∷ [] } }

abbrev pub with_try : ℕ → Try → IntentsView → IntentsView
with_try k t v = record v { intents = changed_under k (tried_again t) v.intents }

-- ---- what is noted of the client

abbrev pub has_complete : List Tile → Bool
has_complete tiles = list_any (λ (t : Tile). t.complete) tiles

-- A complete page at the mark or after it was asked for in the epoch seen. Then the epoch is looked at.
abbrev pub observed : {A : Type 0} → ClientView A → IntentsView → IntentsView
observed c v = record v {
  seen = c.epoch;
  mark = if c.epoch == v.seen then v.mark else length c.log.tiles;
  sure = if has_complete (drop v.mark c.log.tiles) then v.seen else v.sure;
}

-- ---- what is known of an intent, by its last try

abbrev pub last_try : List Try → Option Try
last_try tries = slice_get tries (length tries - 1)

abbrev pub intent_state : {A : Type 0} → List ℕ → ℕ → ClientView A → Intent → IntentState
intent_state full sure c i = option_map_or (state_of full sure c) (last_try i.tries.items) state.Fresh

abbrev pub state_under : {A : Type 0} → ℕ → ClientView A → IntentsView → Option IntentState
state_under k c v = option_map (intent_state v.full v.sure c) (intent_under k v.intents)

-- ---- what is wanted next

abbrev pub is_due : IntentState → Bool
is_due state.Fresh = true
is_due state.Absent = true
is_due _ = false

abbrev pub is_undecided : IntentState → Bool
is_undecided state.Undecided = true
is_undecided _ = false

-- the number of the first due one of these, which are numbered from k
abbrev pub first_due : {A : Type 0} → List ℕ → ℕ → ClientView A → ℕ → List Intent → Option ℕ
first_due full sure c k [] = None
first_due full sure c k (i ∷ is) = if is_due (intent_state full sure c i) then Some k else first_due full sure c (k + 1) is

abbrev pub some_undecided : {A : Type 0} → List ℕ → ℕ → ClientView A → List Intent → Bool
some_undecided full sure c intents = list_any (λ i. is_undecided (intent_state full sure c i)) intents

abbrev pub next_by : Option ℕ → Bool → Next
next_by (Some k) undecided = Submit k
next_by None undecided = if undecided then CatchUp else Rest

abbrev pub next_of : {A : Type 0} → ClientView A → IntentsView → Next
next_of c v = next_by (first_due v.full v.sure c 1 v.intents) (some_undecided v.full v.sure c v.intents)

-- an intent that is to be submitted has room for a try
abbrev pub HasRoom : Next → IntentsView → Type 0
HasRoom (Submit k) v = 1 ≤ room_under k v.intents
HasRoom _ v = Unit {0}
