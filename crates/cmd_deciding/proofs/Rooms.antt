-- Intents as they are, whatever room there is for tries.
use Rattle.std.proofs.Common.{◌≡◌, ◌<◌, ◌≤◌, ◌+◌, ℕ, zero, suc, Bool, cond, List, [], ◌∷◌, ◌++◌, Option, Some, None, length, map, refl, sym, ap, ◌∙◌, arith}
use Rattle.std.proofs.lemmas.List.{length-map, map-append}
use Rattle.std.proofs.lemmas.Option.{slice_get_past, slice_get_read}
use Rattle.std.specs.List.{list_any, slice_index_or, slice_set}
use Rattle.std.specs.Option.{option_and_then, option_map}
use Rattle.std.specs.Prelude.{◌||◌, slice_get}
use Rattle.cl_handlers.specs.Clients.{ClientView}
use Rattle.cl_intents.specs.Intents as intents
use Rattle.cl_intents.specs.Intents.{IntentsView, first_due, intent_state, intent_under, is_due, is_undecided, new_intent, next_by, next_of, observed, some_undecided, tried_again, with_intent, with_try, without_room, without_rooms}
use Rattle.cl_intents.specs.declared.intents.Intent.{Intent as OneIntent}
use Rattle.cl_intents.specs.declared.intents.Next.{Next}
use Rattle.cl_intents.specs.declared.intents.Next.TheVariants.{Rest}
use Rattle.cl_intents.specs.declared.intents.Try.{Try}
use Rattle.cmd_network.specs.Devices.{DeviceState}
use Rattle.cmd_resolving.specs.Expansion.{Watching, count_at, intent_in, next_at, next_where}
use Rattle.cmd_network.specs.Positions.{changed_at}
use Rattle.cmd_deciding.specs.Turns.{next_in}
use Rattle.cmd_deciding.proofs.Changed.{changed_beyond, changed_same, got_mapped, set_changes}

tried_under : (index : ℕ) (t : Try) (is : List OneIntent) → map without_room (intents.changed_at index (tried_again t) is) ≡ intents.changed_at index (tried_again t) (map without_room is)
tried_under index t [] = refl
tried_under zero t (i ∷ is) = refl
tried_under (suc index) t (i ∷ is) = ap (λ js. without_room i ∷ js) (tried_under index t is)

pub tried_rooms : (k : ℕ) (t : Try) (v : IntentsView) → without_rooms (with_try k t v) ≡ with_try k t (without_rooms v)
tried_rooms zero t v = refl
tried_rooms (suc index) t v = ap (λ is. record v { intents = is }) (tried_under index t v.intents)

pub added_rooms : (to text : List ℕ) (v : IntentsView) → without_rooms (with_intent to text v) ≡ with_intent to text (without_rooms v)
added_rooms to text v = ap (λ is. record v { intents = is }) (map-append without_room v.intents (new_intent to text ∷ []))

pub under_rooms : (k : ℕ) (is : List OneIntent) → intent_under k (map without_room is) ≡ option_map without_room (intent_under k is)
under_rooms zero is = refl
under_rooms (suc index) is = got_mapped without_room index is

-- ---- what is wanted next

due_rooms : {A : Type 0} (full : List ℕ) (sure : ℕ) (c : ClientView A) (k : ℕ) (is : List OneIntent) → first_due full sure c k (map without_room is) ≡ first_due full sure c k is
due_rooms full sure c k [] = refl
due_rooms full sure c k (i ∷ is) = ap (λ o. cond (is_due (intent_state full sure c i)) (Some k) o) (due_rooms full sure c (k + 1) is)

undecided_rooms : {A : Type 0} (full : List ℕ) (sure : ℕ) (c : ClientView A) (is : List OneIntent) → some_undecided full sure c (map without_room is) ≡ some_undecided full sure c is
undecided_rooms full sure c [] = refl
undecided_rooms full sure c (i ∷ is) = ap (λ b. is_undecided (intent_state full sure c i) || b) (undecided_rooms full sure c is)

pub next_rooms : {A : Type 0} (c : ClientView A) (v : IntentsView) → next_of c (without_rooms v) ≡ next_of c v
next_rooms c v =
    ap (λ o. next_by o (some_undecided v.full v.sure c (map without_room v.intents))) (due_rooms v.full v.sure c 1 v.intents)
    ∙ ap (next_by (first_due v.full v.sure c 1 v.intents)) (undecided_rooms v.full v.sure c v.intents)

-- ---- among those of all devices

pub many_rooms : (vs : List IntentsView) → length (map without_rooms vs) ≡ length vs
many_rooms vs = length-map vs without_rooms

pub view_at : (vs : List IntentsView) (index : ℕ) (v : IntentsView) → slice_get vs index ≡ Some v → slice_get (map without_rooms vs) index ≡ Some (without_rooms v)
view_at vs index v there = got_mapped without_rooms index vs ∙ ap (option_map without_rooms) there

pub intent_at : (vs : List IntentsView) (index k : ℕ) (v : IntentsView) → slice_get vs index ≡ Some v → intent_in index k (map without_rooms vs) ≡ option_map without_room (intent_under k v.intents)
intent_at vs index k v there = ap (λ o. option_and_then (λ (u : IntentsView). intent_under k u.intents) o) (view_at vs index v there) ∙ under_rooms k v.intents

pub no_intent_there : (vs : List IntentsView) (index k : ℕ) → slice_get vs index ≡ None → intent_in index k (map without_rooms vs) ≡ None
no_intent_there vs index k nowhere = ap (λ o. option_and_then (λ (u : IntentsView). intent_under k u.intents) o) (got_mapped without_rooms index vs ∙ ap (option_map without_rooms) nowhere)

-- ---- a try is noted

pub noted_rooms : (k : ℕ) (t : Try) (old room new : IntentsView) → without_rooms room ≡ without_rooms old → without_rooms new ≡ without_rooms (with_try k t room) → without_rooms new ≡ without_rooms (with_try k t old)
noted_rooms k t old room new same tries = tries ∙ tried_rooms k t room ∙ ap (with_try k t) same ∙ sym (tried_rooms k t old)

tried_beyond : (index : ℕ) (t : Try) (is : List OneIntent) → length is ≤ index → intents.changed_at index (tried_again t) is ≡ is
tried_beyond index t [] beyond = refl
tried_beyond zero t (i ∷ is) beyond = absurd (omega (arith, beyond))
tried_beyond (suc index) t (i ∷ is) beyond = ap (λ js. i ∷ js) (tried_beyond index t is (omega (arith, beyond)))

pub not_noted : (k : ℕ) (t : Try) (v : IntentsView) → length v.intents < k → without_rooms v ≡ without_rooms (with_try k t v)
not_noted zero t v beyond = absurd (omega (arith, beyond))
not_noted (suc index) t v beyond = ap (λ is. without_rooms (record v { intents = is })) (sym (tried_beyond index t v.intents (omega (arith, beyond))))

pub nothing_noted : (k : ℕ) (t : Try) (v : IntentsView) → k ≡ 0 → without_rooms v ≡ without_rooms (with_try k t v)
nothing_noted zero t v none = refl
nothing_noted (suc index) t v none = absurd (omega (arith, none))

-- ---- one of all devices is changed

changed_there : (f : IntentsView → IntentsView) (vs : List IntentsView) (index : ℕ) (old new : IntentsView) → ((v : IntentsView) → without_rooms (f v) ≡ f (without_rooms v)) → index < length vs →
    old ≡ slice_index_or vs index old → without_rooms new ≡ without_rooms (f old) → map without_rooms (slice_set vs index new) ≡ changed_at index f (map without_rooms vs)
changed_there f vs index old new keeps within is becomes = set_changes without_rooms f vs index old new within is (becomes ∙ keeps old)

changed_nowhere : (f : IntentsView → IntentsView) (vs : List IntentsView) (index : ℕ) → length vs ≤ index → changed_at index f (map without_rooms vs) ≡ map without_rooms vs
changed_nowhere f vs index beyond = changed_beyond f index (map without_rooms vs) (let same = length-map vs without_rooms in omega (arith, beyond, same))

pub observed_there : (vs : List IntentsView) (index : ℕ) (old new : IntentsView) (c : ClientView (List ℕ)) → index < length vs → old ≡ slice_index_or vs index old → new ≡ observed c old →
    map without_rooms (slice_set vs index new) ≡ changed_at index (observed c) (map without_rooms vs)
observed_there vs index old new c within is becomes = changed_there (observed c) vs index old new (λ v. refl) within is (ap without_rooms becomes)

pub observed_nowhere : (vs : List IntentsView) (index : ℕ) (c : ClientView (List ℕ)) → length vs ≤ index → changed_at index (observed c) (map without_rooms vs) ≡ map without_rooms vs
observed_nowhere vs index c beyond = changed_nowhere (observed c) vs index beyond

pub tried_there : (vs : List IntentsView) (index k : ℕ) (t : Try) (old new : IntentsView) → index < length vs → old ≡ slice_index_or vs index old → without_rooms new ≡ without_rooms (with_try k t old) →
    map without_rooms (slice_set vs index new) ≡ changed_at index (with_try k t) (map without_rooms vs)
tried_there vs index k t old new within is becomes = changed_there (with_try k t) vs index old new (tried_rooms k t) within is becomes

pub tried_nowhere : (vs : List IntentsView) (index k : ℕ) (t : Try) → length vs ≤ index → changed_at index (with_try k t) (map without_rooms vs) ≡ map without_rooms vs
tried_nowhere vs index k t beyond = changed_nowhere (with_try k t) vs index beyond

pub added_there : (vs : List IntentsView) (index : ℕ) (to text : List ℕ) (old new : IntentsView) → index < length vs → old ≡ slice_index_or vs index old → without_rooms new ≡ without_rooms (with_intent to text old) →
    map without_rooms (slice_set vs index new) ≡ changed_at index (with_intent to text) (map without_rooms vs)
added_there vs index to text old new within is becomes = changed_there (with_intent to text) vs index old new (added_rooms to text) within is becomes

pub added_nowhere : (vs : List IntentsView) (index : ℕ) (to text : List ℕ) → length vs ≤ index → changed_at index (with_intent to text) (map without_rooms vs) ≡ map without_rooms vs
added_nowhere vs index to text beyond = changed_nowhere (with_intent to text) vs index beyond

-- the same but for its room
pub roomed_there : (vs : List IntentsView) (index : ℕ) (old new : IntentsView) → index < length vs → old ≡ slice_index_or vs index old → without_rooms new ≡ without_rooms old →
    map without_rooms (slice_set vs index new) ≡ map without_rooms vs
roomed_there vs index old new within is becomes = changed_there (λ v. v) vs index old new (λ v. refl) within is becomes ∙ changed_same index (map without_rooms vs)

pub count_rooms : (vs : List IntentsView) (index : ℕ) → count_at index (map without_rooms vs) ≡ count_at index vs
count_rooms [] index = refl
count_rooms (v ∷ vs) zero = length-map v.intents without_room
count_rooms (v ∷ vs) (suc index) = count_rooms vs index

-- ---- what is wanted next, of a device

pub next_of_there : (vs : List IntentsView) (index : ℕ) (c : ClientView (List ℕ)) (v : IntentsView) (x : Next) → index < length vs → v ≡ slice_index_or vs index v → x ≡ next_of c v → x ≡ next_in c (slice_get (map without_rooms vs) index)
next_of_there vs index c v x within is wants =
    wants ∙ sym (next_rooms c v) ∙ ap (next_in c) (sym (view_at vs index v (slice_get_read vs (length vs) index v refl within is)))

pub nothing_next : (vs : List IntentsView) (index : ℕ) (c : ClientView (List ℕ)) → length vs ≤ index → next_in c (slice_get (map without_rooms vs) index) ≡ Rest
nothing_next vs index c beyond = ap (next_in c) (got_mapped without_rooms index vs ∙ ap (option_map without_rooms) (slice_get_past vs index beyond))

next_where_there : (d : DeviceState) (o : Option IntentsView) → next_where (Some d) o ≡ next_in d.client.client o
next_where_there d None = refl
next_where_there d (Some v) = refl

pub next_there : (s : Watching) (index : ℕ) (d : DeviceState) → slice_get s.world.devices index ≡ Some d → next_at index s ≡ next_in d.client.client (slice_get s.intents index)
next_there s index d device = ap (λ o. next_where o (slice_get s.intents index)) device ∙ next_where_there d (slice_get s.intents index)

pub no_device : (s : Watching) (index : ℕ) → slice_get s.world.devices index ≡ None → next_at index s ≡ Rest
no_device s index nowhere = ap (λ o. next_where o (slice_get s.intents index)) nowhere

-- ---- one intent

pub intent_there : (vs : List IntentsView) (index k : ℕ) (v : IntentsView) (o : Option OneIntent) → slice_get vs index ≡ Some v → o ≡ intent_under k v.intents → intent_in index k (map without_rooms vs) ≡ option_map without_room o
intent_there vs index k v o there is = intent_at vs index k v there ∙ ap (option_map without_room) (sym is)
