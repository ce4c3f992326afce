-- Intents are for names of accounts, whatever becomes of them.
use Rattle.std.proofs.Common.{◌≡◌, ◌+◌, ℕ, zero, suc, false, List, [], ◌∷◌, ◌++◌, Option, Some, None, map, refl, sym, ap, subst, ◌∙◌}
use Rattle.std.specs.Option.{option_map}
use Rattle.std.specs.Prelude.{IfSome, IsTrue, slice_get}
use Rattle.cl_intents.specs.Intents as intents
use Rattle.cl_intents.specs.Intents.{IntentsView, intent_under, new_intent, with_intent, with_try, without_room, without_rooms}
use Rattle.cl_intents.specs.declared.intents.Intent.{Intent as OneIntent}
use Rattle.cl_intents.specs.declared.intents.Next.{Next}
use Rattle.cl_intents.specs.declared.intents.Next.TheVariants as next
use Rattle.cl_intents.specs.declared.intents.Try.{Try}
use Rattle.cmd_network.specs.Devices.{DeviceState}
use Rattle.cmd_network.specs.Positions.{changed_at}
use Rattle.cmd_schedule.specs.Grammar.{is_name}
use Rattle.cmd_schedule.specs.declared.schedule.Step.TheVariants.{Say as SayStep}
use Rattle.cmd_schedule.specs.declared.schedule.WireStep.{WireStep}
use Rattle.cmd_schedule.specs.declared.schedule.WireStep.TheVariants.{Common}
use Rattle.cmd_world.specs.Moves.{CatchUp, Say, moved}
use Rattle.cmd_world.specs.Standing.{MayStep}
use Rattle.cmd_world.specs.Worlds.{ByteWorld}
use Rattle.cmd_resolving.specs.Expansion.{Asked, Submitted, Watching, begun, intent_in, looked_at, next_at, noted_try, observed_by, observed_from, try_at}
use Rattle.cmd_deciding.specs.Looks.{AreNamed, EachNamed}
use Rattle.cmd_deciding.specs.Turns.{said_for, submitted_for, submitted_where, turned, turned_by}
use Rattle.cmd_deciding.proofs.Rooms.{intent_at}

observed_named : (n : ℕ) (ds : List DeviceState) (vs : List IntentsView) → EachNamed vs → EachNamed (observed_from n ds vs)
observed_named n ds [] named = tt
observed_named n ds (v ∷ vs) named = (one (slice_get ds n), observed_named (n + 1) ds vs named.1)
  where
    one : (o : Option DeviceState) → AreNamed (observed_by o v).intents
    one None = named.0
    one (Some d) = named.0

changed_named : (k : ℕ) (f : IntentsView → IntentsView) (vs : List IntentsView) → ((v : IntentsView) → AreNamed v.intents → AreNamed (f v).intents) → EachNamed vs → EachNamed (changed_at k f vs)
changed_named k f [] keeps named = tt
changed_named zero f (v ∷ vs) keeps named = (keeps v named.0, named.1)
changed_named (suc k) f (v ∷ vs) keeps named = (named.0, changed_named k f vs keeps named.1)

tried_under : (index : ℕ) (t : Try) (is : List OneIntent) → AreNamed is → AreNamed (intents.changed_at index (intents.tried_again t) is)
tried_under index t [] named = tt
tried_under zero t (i ∷ is) named = (named.0, named.1)
tried_under (suc index) t (i ∷ is) named = (named.0, tried_under index t is named.1)

tried_named : (k : ℕ) (t : Try) (v : IntentsView) → AreNamed v.intents → AreNamed (with_try k t v).intents
tried_named zero t v named = named
tried_named (suc index) t v named = tried_under index t v.intents named

noted_named : (at : Submitted) (o : Option Try) (s : Watching) → EachNamed s.intents → EachNamed (noted_try at o s).intents
noted_named at None s named = named
noted_named at (Some t) s named = changed_named at.device (with_try at.intent t) s.intents (λ v are. tried_named at.intent t v are) named

submitted_named : (number index k : ℕ) (o : Option OneIntent) (s : Watching) → EachNamed s.intents → EachNamed (submitted_where number index k o s).intents
submitted_named number index k None s named = named
submitted_named number index k (Some i) s named =
    noted_named (submitted_for index k) (try_at i.text (slice_get s.world.devices index)) (said_for number index i s)
    (observed_named 0 (moved (Say index number i.to i.text false) s.world).devices s.intents named)

turned_by_named : (number index most : ℕ) (x : Next) (s : Watching) → EachNamed s.intents → EachNamed (turned_by number index most x s).intents
turned_by_named number index most (next.Submit k) s named = submitted_named number index k (intent_in index k s.intents) s named
turned_by_named number index most next.CatchUp s named = observed_named 0 (moved (CatchUp index number most) s.world).devices s.intents named
turned_by_named number index most next.Rest s named = named

pub turned_named : (number index most : ℕ) (s : Watching) → EachNamed s.intents → EachNamed (turned number index most s).intents
turned_named number index most s named = turned_by_named number index most (next_at index s) s named

one_more_named : (is : List OneIntent) (to text : List ℕ) → AreNamed is → IsTrue (is_name to) → AreNamed (is ++ new_intent to text ∷ [])
one_more_named [] to text named name = (name, tt)
one_more_named (i ∷ is) to text named name = (named.0, one_more_named is to text named.1 name)

pub begun_named : (index : ℕ) (to text : List ℕ) (s : Watching) → IsTrue (is_name to) → EachNamed s.intents → EachNamed (begun (Asked.NewIntent index to text) s).intents
begun_named index to text s name named = changed_named index (with_intent to text) s.intents (λ v are. one_more_named v.intents to text are name) named

-- ---- one of them

under_named : (index : ℕ) (is : List OneIntent) (i : OneIntent) → slice_get is index ≡ Some i → AreNamed is → IsTrue (is_name i.to)
under_named index [] i there named = absurd (let bad : ⊥ = cc in bad)
under_named zero (j ∷ is) i there named = (let same : j ≡ i = cc in subst (λ (h : OneIntent). IsTrue (is_name h.to)) same named.0)
under_named (suc index) (j ∷ is) i there named = under_named index is i there named.1

one_named : (k : ℕ) (is : List OneIntent) (i : OneIntent) → intent_under k is ≡ Some i → AreNamed is → IsTrue (is_name i.to)
one_named zero is i there named = absurd (let bad : ⊥ = cc in bad)
one_named (suc index) is i there named = under_named index is i there named

pub named_in : (vs : List IntentsView) (index k : ℕ) (i : OneIntent) → intent_in index k vs ≡ Some i → EachNamed vs → IsTrue (is_name i.to)
named_in [] index k i there named = absurd (let bad : ⊥ = cc in bad)
named_in (v ∷ vs) zero k i there named = one_named k v.intents i there named.0
named_in (v ∷ vs) (suc index) k i there named = named_in vs index k i there named.1

-- among intents with their rooms
pub named_there : (vs : List IntentsView) (index k : ℕ) (v : IntentsView) (i : OneIntent) → EachNamed (map without_rooms vs) → slice_get vs index ≡ Some v → intent_under k v.intents ≡ Some i → IsTrue (is_name i.to)
named_there vs index k v i named there is =
    named_in (map without_rooms vs) index k (without_room i) (intent_at vs index k v there ∙ ap (option_map without_room) is) named

pub named_by_line : (step : WireStep) (w : ByteWorld) (device to text : List ℕ) (index : ℕ) (s : Watching) → MayStep step w → step ≡ Common (SayStep device to text) → EachNamed s.intents →
    EachNamed (begun (Asked.NewIntent index to text) s).intents
named_by_line step w device to text index s may is named = begun_named index to text s (subst (λ st. MayStep st w) is may) named

pub if_named : {B : Type 0} (o : Option B) (seen : B → OneIntent) (x : Option OneIntent) → option_map seen o ≡ x → ((i : OneIntent) → x ≡ Some i → IsTrue (is_name i.to)) → IfSome o (λ b. IsTrue (is_name (seen b).to))
if_named None seen x is each = tt
if_named (Some b) seen x is each = each (seen b) (sym is)
