-- The lines that a file stands for are a list of lines within the bounds of such lists.
use Rattle.std.proofs.Common.{◌≡◌, ℕ, zero, suc, ◌+◌, ◌*◌, ◌<◌, ◌≤◌, ◌==◌, ◌^◌, Bool, true, false, cond, List, [], ◌∷◌, ◌++◌, Option, Some, None, length, map, refl, sym, ap, subst, ◌∙◌, length-append, arith}
use Rattle.std.proofs.lemmas.Bool.{and_from, and_parts, eqb-true, leb-false, leb-true}
use Rattle.std.proofs.lemmas.List.{length-map, map-append}
use Rattle.std.specs.Prelude.{IsTrue, ◌&&◌, nat_le, slice_get}
use Rattle.base_io.specs.Names.{is_among, position_of}
use Rattle.cl_intents.specs.Intents as intents
use Rattle.cl_intents.specs.Intents.{IntentsView, intent_under, with_intent, with_try}
use Rattle.cl_intents.specs.declared.intents.Intent.{Intent as OneIntent}
use Rattle.cl_intents.specs.declared.intents.Next.{Next}
use Rattle.cl_intents.specs.declared.intents.Next.TheVariants as next
use Rattle.cl_intents.specs.declared.intents.Try.{Try}
use Rattle.cmd_network.specs.Devices.{DeviceState}
use Rattle.cmd_network.specs.Positions.{changed_at, position_under}
use Rattle.cmd_schedule.proofs.LineLists.{counted_one, listed}
use Rattle.cmd_schedule.specs.Contents.{Owned, owned_in}
use Rattle.cmd_schedule.specs.Grammar.{is_name, is_text}
use Rattle.cmd_schedule.specs.LineLists.{AreListed, IsLineList, counted_in, ticked_in, ticked_of}
use Rattle.cmd_schedule.specs.WireGrammar.{AreWireLines, WireAbove, above_by, are_few, may_run, nothing_above}
use Rattle.cmd_schedule.specs.declared.schedule.Step.TheVariants.{Account, Device, Say, Private, Catchup, Tick}
use Rattle.cmd_schedule.specs.declared.schedule.WireLine.{WireLine}
use Rattle.cmd_schedule.specs.declared.schedule.WireStep.{WireStep}
use Rattle.cmd_schedule.specs.declared.schedule.WireStep.TheVariants as wire
use Rattle.cmd_world.specs.Histories.{common_steps}
use Rattle.cmd_world.specs.Lines.{passes_where, rounds_of, stepped}
use Rattle.cmd_world.specs.Moves.{Move, moved}
use Rattle.cmd_world.specs.Worlds.{ByteWorld}
use Rattle.cmd_resolving.specs.Expansion.{Asked, RunLine, Watching, expand}
use Rattle.cmd_resolving.specs.Expansion as expansion
use Rattle.cmd_intents.specs.Files.{FileView, IsIntentFile}

-- ---- the messages of intents are such as a line may have

abbrev pub CanSay : OneIntent → Type 0
CanSay i = IsTrue (is_name i.to) × IsTrue (is_text i.text)

abbrev pub CanAllSay : List OneIntent → Type 0
CanAllSay [] = Unit {0}
CanAllSay (i ∷ is) = CanSay i × CanAllSay is

abbrev pub CanEachSay : List IntentsView → Type 0
CanEachSay [] = Unit {0}
CanEachSay (v ∷ vs) = CanAllSay v.intents × CanEachSay vs

abbrev line_of : RunLine → WireLine
line_of l = l.line

abbrev lines_in : List RunLine → List WireLine
lines_in ls = map line_of ls

-- which stay so

each_observed : (index : ℕ) (devices : List DeviceState) (vs : List IntentsView) → CanEachSay vs → CanEachSay (expansion.observed_from index devices vs)
each_observed index devices [] can = tt
each_observed index devices (v ∷ vs) can = (one (slice_get devices index), each_observed (index + 1) devices vs can.1)
  where
    one : (o : Option DeviceState) → CanAllSay (expansion.observed_by o v).intents
    one None = can.0
    one (Some d) = can.0

tried_under : (index : ℕ) (t : Try) (is : List OneIntent) → CanAllSay is → CanAllSay (intents.changed_at index (intents.tried_again t) is)
tried_under index t [] can = tt
tried_under zero t (i ∷ is) can = (can.0, can.1)
tried_under (suc index) t (i ∷ is) can = (can.0, tried_under index t is can.1)

tried_in : (k : ℕ) (t : Try) (v : IntentsView) → CanAllSay v.intents → CanAllSay (with_try k t v).intents
tried_in zero t v can = can
tried_in (suc index) t v can = tried_under index t v.intents can

one_more_in : (is : List OneIntent) (to text : List ℕ) → CanAllSay is → IsTrue (is_name to) → IsTrue (is_text text) → CanAllSay (is ++ intents.new_intent to text ∷ [])
one_more_in [] to text can name tells = ((name, tells), tt)
one_more_in (i ∷ is) to text can name tells = (can.0, one_more_in is to text can.1 name tells)

each_changed : (index : ℕ) (f : IntentsView → IntentsView) (vs : List IntentsView) → ((v : IntentsView) → CanAllSay v.intents → CanAllSay (f v).intents) → CanEachSay vs → CanEachSay (changed_at index f vs)
each_changed index f [] keeps can = tt
each_changed zero f (v ∷ vs) keeps can = (keeps v can.0, can.1)
each_changed (suc index) f (v ∷ vs) keeps can = (can.0, each_changed index f vs keeps can.1)

each_watched : (moves : List Move) (s : Watching) → CanEachSay s.intents → CanEachSay (expansion.watched moves s).intents
each_watched [] s can = can
each_watched (m ∷ moves) s can =
    each_watched moves (expansion.watched_move m s) (each_observed 0 (moved m s.world).devices s.intents can)

each_looked : (w : ByteWorld) (vs : List IntentsView) → CanEachSay vs → CanEachSay (expansion.looked_at w vs).intents
each_looked w vs can = each_observed 0 w.devices vs can

each_followed : (step : WireStep) (line : WireLine) (s : Watching) → CanEachSay s.intents → CanEachSay (expansion.watched_step step line s).intents
each_followed (wire.Pass conn times) line s can = each_watched (passes_where times (position_under conn)) s can
each_followed (wire.Run times) line s can = each_watched (rounds_of times (length s.world.wires)) s can
each_followed (wire.Common step) line s can = each_looked (stepped line s.world) s.intents can
each_followed (wire.Dial device) line s can = each_looked (stepped line s.world) s.intents can
each_followed (wire.Forget device) line s can = each_looked (stepped line s.world) s.intents can
each_followed (wire.Close device) line s can = each_looked (stepped line s.world) s.intents can
each_followed (wire.Up conn count) line s can = each_looked (stepped line s.world) s.intents can
each_followed (wire.Down conn count) line s can = each_looked (stepped line s.world) s.intents can
each_followed (wire.Cut conn up down) line s can = each_looked (stepped line s.world) s.intents can

each_noted : (o : Option expansion.Submitted) (line : WireLine) (w : ByteWorld) (s : Watching) → CanEachSay s.intents → CanEachSay (expansion.noted o line w s).intents
each_noted None line w s can = can
each_noted (Some at) line w s can = by_try (expansion.try_of line at.device w)
  where
    by_try : (o : Option Try) → CanEachSay (expansion.noted_try at o s).intents
    by_try None = can
    by_try (Some t) = each_changed at.device (with_try at.intent t) s.intents (tried_in at.intent t) can

pub each_done : (l : RunLine) (s : Watching) → CanEachSay s.intents → CanEachSay (expansion.done l s).intents
each_done l s can = each_noted l.submits l.line s.world (expansion.watched_line l.line s) (each_followed l.line.step l.line s can)

pub each_all_done : (ls : List RunLine) (s : Watching) → CanEachSay s.intents → CanEachSay (expansion.all_done ls s).intents
each_all_done [] s can = can
each_all_done (l ∷ ls) s can = each_all_done ls (expansion.done l s) (each_done l s can)

one_under : (index : ℕ) (is : List OneIntent) (i : OneIntent) → slice_get is index ≡ Some i → CanAllSay is → CanSay i
one_under index [] i there can = absurd (let bad : ⊥ = cc in bad)
one_under zero (j ∷ is) i there can = (let same : j ≡ i = cc in subst CanSay same can.0)
one_under (suc index) (j ∷ is) i there can = one_under index is i there can.1

one_in : (k : ℕ) (is : List OneIntent) (i : OneIntent) → intent_under k is ≡ Some i → CanAllSay is → CanSay i
one_in zero is i there can = absurd (let bad : ⊥ = cc in bad)
one_in (suc index) is i there can = one_under index is i there can

pub one_of : (index k : ℕ) (vs : List IntentsView) (i : OneIntent) → expansion.intent_in index k vs ≡ Some i → CanEachSay vs → CanSay i
one_of index k [] i there can = absurd (let bad : ⊥ = cc in bad)
one_of zero k (v ∷ vs) i there can = one_in k v.intents i there can.0
one_of (suc index) k (v ∷ vs) i there can = one_of index k vs i there can.1

-- ---- a resolve line

module _ (above : WireAbove) (number : ℕ) (device : List ℕ) (most : ℕ) (small : number < 2 ^ 32) (may : IsTrue (may_run above (wire.Common (Catchup device most)))) where
  among : IsTrue (is_among device above.names.devices)
  among = (and_parts (is_among device above.names.devices) (nat_le 1 most) (and_parts (is_among device above.names.devices && nat_le 1 most) (nat_le most 100) may).0).0

  may_say : (i : OneIntent) → CanSay i → IsTrue (may_run above (wire.Common (Say device i.to i.text)))
  may_say i can = and_from (is_among device above.names.devices && is_name i.to) (is_text i.text) (and_from (is_among device above.names.devices) (is_name i.to) among can.0) can.1

  -- one turn of it, where those after it are listed
  turn_listed : (index : ℕ) (more : Watching → List RunLine) (s : Watching) (ys : List WireLine) → ((after : Watching) → CanEachSay after.intents → AreListed above (lines_in (more after) ++ ys))
      → CanEachSay s.intents → AreListed above ys → (x : Next) → AreListed above (lines_in (expansion.wanted number device index most more s x) ++ ys)
  turn_listed index more s ys rest can are next.CatchUp = (small, may, refl, are)
  turn_listed index more s ys rest can are next.Rest = are
  turn_listed index more s ys rest can are (next.Submit k) = and_on (expansion.intent_in index k s.intents) refl
    where
      if_accepted : (i : OneIntent) (b : Bool) → AreListed above (lines_in (cond b (more (expansion.done (expansion.submission (expansion.say_line number device i.to i.text) index k) s)) []) ++ ys)
      if_accepted i true =
          rest (expansion.done (expansion.submission (expansion.say_line number device i.to i.text) index k) s) (each_done (expansion.submission (expansion.say_line number device i.to i.text) index k) s can)
      if_accepted i false = are

      and_on : (o : Option OneIntent) → expansion.intent_in index k s.intents ≡ o → AreListed above (lines_in (expansion.submission_and_on number device index more s k o) ++ ys)
      and_on None there = are
      and_on (Some i) there =
          (small, may_say i (one_of index k s.intents i there can), refl, if_accepted i (expansion.is_try (expansion.try_of (expansion.say_line number device i.to i.text) index s.world)))

  resolved_listed : (left index : ℕ) (s : Watching) (ys : List WireLine) → CanEachSay s.intents → AreListed above ys → AreListed above (lines_in (expansion.resolved left number device index most s) ++ ys)
  resolved_listed zero index s ys can are = are
  resolved_listed (suc left) index s ys can are =
      turn_listed index (expansion.resolved left number device index most) s ys (λ after say. resolved_listed left index after ys say are) can are (expansion.next_at index s)

-- so many lines at most
turn_few : (number : ℕ) (device : List ℕ) (index most left : ℕ) (more : Watching → List RunLine) (s : Watching) → ((after : Watching) → length (more after) ≤ left) → (x : Next)
    → length (expansion.wanted number device index most more s x) ≤ suc left
turn_few number device index most left more s rest next.CatchUp = omega arith
turn_few number device index most left more s rest next.Rest = omega arith
turn_few number device index most left more s rest (next.Submit k) = and_on (expansion.intent_in index k s.intents)
  where
    if_accepted : (b : Bool) (after : Watching) → length (cond b (more after) []) ≤ left
    if_accepted true after = rest after
    if_accepted false after = omega arith

    and_on : (o : Option OneIntent) → length (expansion.submission_and_on number device index more s k o) ≤ suc left
    and_on None = omega arith
    and_on (Some i) =
        let line = expansion.say_line number device i.to i.text in
        let few = if_accepted (expansion.is_try (expansion.try_of line index s.world)) (expansion.done (expansion.submission line index k) s) in
        omega (arith, few)

resolved_few : (left number : ℕ) (device : List ℕ) (index most : ℕ) (s : Watching) → length (expansion.resolved left number device index most s) ≤ left
resolved_few zero number device index most s = omega arith
resolved_few (suc left) number device index most s =
    turn_few number device index most left (expansion.resolved left number device index most) s (λ after. resolved_few left number device index most after) (expansion.next_at index s)

-- which leave the clock
turn_ticks : (number : ℕ) (device : List ℕ) (index most : ℕ) (more : Watching → List RunLine) (s : Watching) → ((after : Watching) → ticked_in (lines_in (more after)) ≡ 0) → (x : Next)
    → ticked_in (lines_in (expansion.wanted number device index most more s x)) ≡ 0
turn_ticks number device index most more s rest next.CatchUp = refl
turn_ticks number device index most more s rest next.Rest = refl
turn_ticks number device index most more s after_each (next.Submit k) = and_on (expansion.intent_in index k s.intents)
  where
    if_accepted : (b : Bool) (after : Watching) → ticked_in (lines_in (cond b (more after) [])) ≡ 0
    if_accepted true after = after_each after
    if_accepted false after = refl

    and_on : (o : Option OneIntent) → ticked_in (lines_in (expansion.submission_and_on number device index more s k o)) ≡ 0
    and_on None = refl
    and_on (Some i) =
        let line = expansion.say_line number device i.to i.text in
        let rest = if_accepted (expansion.is_try (expansion.try_of line index s.world)) (expansion.done (expansion.submission line index k) s) in
        omega (arith, rest)

resolved_ticks : (left number : ℕ) (device : List ℕ) (index most : ℕ) (s : Watching) → ticked_in (lines_in (expansion.resolved left number device index most s)) ≡ 0
resolved_ticks zero number device index most s = refl
resolved_ticks (suc left) number device index most s =
    turn_ticks number device index most (expansion.resolved left number device index most) s (λ after. resolved_ticks left number device index most after) (expansion.next_at index s)

-- ---- numbers among others

-- those of at least n
abbrev many : ℕ → List ℕ → ℕ
many n [] = 0
many n (m ∷ ms) = cond (nat_le n m) (suc (many n ms)) (many n ms)

by_two : (n m x y : ℕ) → x ≤ y → cond (nat_le (n + 1) m) (suc x) x ≤ cond (nat_le n m) (suc y) y
by_two n m x y low = by_both (nat_le (n + 1) m) (nat_le n m) refl refl
  where
    by_both : (a b : Bool) → nat_le (n + 1) m ≡ a → nat_le n m ≡ b → cond a (suc x) x ≤ cond b (suc y) y
    by_both true true above below = omega (arith, low)
    by_both true false above below = absurd (let p = leb-true (n + 1) m above in let q = leb-false n m below in omega (arith, p, q))
    by_both false true above below = omega (arith, low)
    by_both false false above below = low

by_here : (n m x y : ℕ) → m ≡ n → x ≤ y → suc (cond (nat_le (n + 1) m) (suc x) x) ≤ cond (nat_le n m) (suc y) y
by_here n m x y same low = by_both (nat_le (n + 1) m) (nat_le n m) refl refl
  where
    by_both : (a b : Bool) → nat_le (n + 1) m ≡ a → nat_le n m ≡ b → suc (cond a (suc x) x) ≤ cond b (suc y) y
    by_both true b above below = absurd (let p = leb-true (n + 1) m above in omega (arith, p, same))
    by_both false true above below = omega (arith, low)
    by_both false false above below = absurd (let q = leb-false n m below in omega (arith, q, same))

by_there : (n m x y : ℕ) → suc x ≤ y → suc (cond (nat_le (n + 1) m) (suc x) x) ≤ cond (nat_le n m) (suc y) y
by_there n m x y low = subst (λ k. k ≤ cond (nat_le n m) (suc y) y) (one_more (nat_le (n + 1) m)) (by_two n m (suc x) y low)
  where
    one_more : (b : Bool) → cond b (suc (suc x)) (suc x) ≡ suc (cond b (suc x) x)
    one_more true = refl
    one_more false = refl

many_fewer : (n : ℕ) (ms : List ℕ) → many (n + 1) ms ≤ many n ms
many_fewer n [] = omega arith
many_fewer n (m ∷ ms) = by_two n m (many (n + 1) ms) (many n ms) (many_fewer n ms)

at_most_more : (b : Bool) (x y : ℕ) → x ≤ y → cond b (suc x) x ≤ suc y
at_most_more true x y low = omega (arith, low)
at_most_more false x y low = omega (arith, low)

all_many : (n : ℕ) (ms : List ℕ) → many n ms ≤ length ms
all_many n [] = omega arith
all_many n (m ∷ ms) = at_most_more (nat_le n m) (many n ms) (length ms) (all_many n ms)

one_among : (n : ℕ) (ms : List ℕ) → expansion.is_number_among n ms ≡ true → suc (many (n + 1) ms) ≤ many n ms
one_among n [] is = absurd (let bad : ⊥ = cc in bad)
one_among n (m ∷ ms) is = by_same (m == n) refl (one_among n ms)
  where
    by_same : (b : Bool) → (m == n) ≡ b → (expansion.is_number_among n ms ≡ true → suc (many (n + 1) ms) ≤ many n ms)
        → suc (cond (nat_le (n + 1) m) (suc (many (n + 1) ms)) (many (n + 1) ms)) ≤ cond (nat_le n m) (suc (many n ms)) (many n ms)
    by_same true same more = by_here n m (many (n + 1) ms) (many n ms) (eqb-true m n same) (many_fewer n ms)
    by_same false other more = by_there n m (many (n + 1) ms) (many n ms) (more (rw other at is))

-- how many of these lines have a number among others
abbrev count_among : List ℕ → List WireLine → ℕ
count_among ms [] = 0
count_among ms (line ∷ lines) = cond (expansion.is_number_among line.number ms) (suc (count_among ms lines)) (count_among ms lines)

count_one : (ms : List ℕ) (n number x : ℕ) → number ≡ n → x ≤ many (n + 1) ms → cond (expansion.is_number_among number ms) (suc x) x ≤ many n ms
count_one ms n number x same low = by_among (expansion.is_number_among number ms) refl
  where
    by_among : (b : Bool) → expansion.is_number_among number ms ≡ b → cond b (suc x) x ≤ many n ms
    by_among true is = (let more = one_among n ms (ap (λ k. expansion.is_number_among k ms) (sym same) ∙ is) in omega (arith, low, more))
    by_among false is = (let more = many_fewer n ms in omega (arith, low, more))

count_many : (ms : List ℕ) (above : WireAbove) (n : ℕ) (lines : List WireLine) → AreWireLines above n lines → count_among ms lines ≤ many n ms
count_many ms above n [] are = omega arith
count_many ms above n (line ∷ lines) are = count_one ms n line.number (count_among ms lines) are.0 (count_many ms (above_by line.step above) (n + 1) lines are.4)

few_among : (ms : List ℕ) (above : WireAbove) (n : ℕ) (lines : List WireLine) → AreWireLines above n lines → count_among ms lines ≤ length ms
few_among ms above n lines are = (let a = count_many ms above n lines are in let b = all_many n ms in omega (arith, a, b))

-- ---- how many intents each device has

abbrev AreFew : ℕ → List IntentsView → Type 0
AreFew most [] = Unit {0}
AreFew most (v ∷ vs) = (length v.intents ≤ most) × AreFew most vs

few_observed : (most index : ℕ) (devices : List DeviceState) (vs : List IntentsView) → AreFew most vs → AreFew most (expansion.observed_from index devices vs)
few_observed most index devices [] few = tt
few_observed most index devices (v ∷ vs) few = (one (slice_get devices index), few_observed most (index + 1) devices vs few.1)
  where
    one : (o : Option DeviceState) → length (expansion.observed_by o v).intents ≤ most
    one None = few.0
    one (Some d) = few.0

few_changed : (most index : ℕ) (f : IntentsView → IntentsView) (vs : List IntentsView) → ((v : IntentsView) → length (f v).intents ≡ length v.intents) → AreFew most vs → AreFew most (changed_at index f vs)
few_changed most index f [] same few = tt
few_changed most zero f (v ∷ vs) same few = (omega (arith, few.0, same v), few.1)
few_changed most (suc index) f (v ∷ vs) same few = (few.0, few_changed most index f vs same few.1)

few_wider : (most n : ℕ) (vs : List IntentsView) → most ≤ n → AreFew most vs → AreFew n vs
few_wider most n [] low few = tt
few_wider most n (v ∷ vs) low few = (omega (arith, low, few.0), few_wider most n vs low few.1)

one_more_few : (most index : ℕ) (to text : List ℕ) (vs : List IntentsView) → AreFew most vs → AreFew (most + 1) (changed_at index (with_intent to text) vs)
one_more_few most index to text [] few = tt
one_more_few most zero to text (v ∷ vs) few =
    ((let e = length-append v.intents (intents.new_intent to text ∷ []) in let low : length v.intents ≤ most = few.0 in omega (arith, e, low)), few_wider most (most + 1) vs (omega arith) few.1)
one_more_few most (suc index) to text (v ∷ vs) few = (omega (arith, few.0), one_more_few most index to text vs few.1)

tried_length : (index : ℕ) (t : Try) (is : List OneIntent) → length (intents.changed_at index (intents.tried_again t) is) ≡ length is
tried_length index t [] = refl
tried_length zero t (i ∷ is) = refl
tried_length (suc index) t (i ∷ is) = ap suc (tried_length index t is)

tried_count : (k : ℕ) (t : Try) (v : IntentsView) → length (with_try k t v).intents ≡ length v.intents
tried_count zero t v = refl
tried_count (suc index) t v = tried_length index t v.intents

few_watched : (most : ℕ) (moves : List Move) (s : Watching) → AreFew most s.intents → AreFew most (expansion.watched moves s).intents
few_watched most [] s few = few
few_watched most (m ∷ moves) s few = few_watched most moves (expansion.watched_move m s) (few_observed most 0 (moved m s.world).devices s.intents few)

few_looked : (most : ℕ) (w : ByteWorld) (vs : List IntentsView) → AreFew most vs → AreFew most (expansion.looked_at w vs).intents
few_looked most w vs few = few_observed most 0 w.devices vs few

few_followed : (most : ℕ) (step : WireStep) (line : WireLine) (s : Watching) → AreFew most s.intents → AreFew most (expansion.watched_step step line s).intents
few_followed most (wire.Pass conn times) line s few = few_watched most (passes_where times (position_under conn)) s few
few_followed most (wire.Run times) line s few = few_watched most (rounds_of times (length s.world.wires)) s few
few_followed most (wire.Common step) line s few = few_looked most (stepped line s.world) s.intents few
few_followed most (wire.Dial device) line s few = few_looked most (stepped line s.world) s.intents few
few_followed most (wire.Forget device) line s few = few_looked most (stepped line s.world) s.intents few
few_followed most (wire.Close device) line s few = few_looked most (stepped line s.world) s.intents few
few_followed most (wire.Up conn count) line s few = few_looked most (stepped line s.world) s.intents few
few_followed most (wire.Down conn count) line s few = few_looked most (stepped line s.world) s.intents few
few_followed most (wire.Cut conn up down) line s few = few_looked most (stepped line s.world) s.intents few

few_noted : (most : ℕ) (o : Option expansion.Submitted) (line : WireLine) (w : ByteWorld) (s : Watching) → AreFew most s.intents → AreFew most (expansion.noted o line w s).intents
few_noted most None line w s few = few
few_noted most (Some at) line w s few = by_try (expansion.try_of line at.device w)
  where
    by_try : (o : Option Try) → AreFew most (expansion.noted_try at o s).intents
    by_try None = few
    by_try (Some t) = few_changed most at.device (with_try at.intent t) s.intents (tried_count at.intent t) few

few_done : (most : ℕ) (l : RunLine) (s : Watching) → AreFew most s.intents → AreFew most (expansion.done l s).intents
few_done most l s few = few_noted most l.submits l.line s.world (expansion.watched_line l.line s) (few_followed most l.line.step l.line s few)

few_all_done : (most : ℕ) (ls : List RunLine) (s : Watching) → AreFew most s.intents → AreFew most (expansion.all_done ls s).intents
few_all_done most [] s few = few
few_all_done most (l ∷ ls) s few = few_all_done most ls (expansion.done l s) (few_done most l s few)

few_at : (most index : ℕ) (vs : List IntentsView) → AreFew most vs → expansion.count_at index vs ≤ most
few_at most index [] few = omega arith
few_at most zero (v ∷ vs) few = few.0
few_at most (suc index) (v ∷ vs) few = few_at most index vs few.1

-- ---- a line of the file

ticked_join : (xs ys : List WireLine) → ticked_in (xs ++ ys) ≡ ticked_in xs + ticked_in ys
ticked_join [] ys = omega arith
ticked_join (x ∷ xs) ys = (let rest = ticked_join xs ys in omega (arith, rest))

few_either : (b : Bool) (most : ℕ) (vs : List IntentsView) → AreFew most vs → AreFew (cond b (most + 1) most) vs
few_either true most vs few = few_wider most (most + 1) vs (omega arith) few
few_either false most vs few = few

-- These lines of the run may stand where the line stands, with others after them; they are few, and move the clock on no further
-- than the line does. After them the intents can be said still, and are few.
record IsListed (ls : List RunLine) (most count : ℕ) (above : WireAbove) (line : WireLine) (s : Watching) : Type 0 where
  listed : (ys : List WireLine) → AreListed (above_by line.step above) ys → AreListed above (lines_in ls ++ ys)
  short : length ls ≤ most
  ticked : ticked_in (lines_in ls) ≤ ticked_of line.step
  can : CanEachSay (expansion.all_done ls s).intents
  few : AreFew count (expansion.all_done ls s).intents

module _ (above : WireAbove) (line : WireLine) (count : ℕ) (s : Watching) (small : line.number < 2 ^ 32) (may : IsTrue (may_run above line.step)) (fits : IsTrue (are_few above line.step))
    (can : CanEachSay s.intents) (few : AreFew count s.intents) where
  -- what it asks for, where it is an intent line or not, and a resolve line or not
  abbrev IsSo : Bool → Bool → Asked → Type 0
  IsSo b c a = IsListed (expansion.lines_by a line (expansion.begun a s)) (1 + cond c count 0) (cond b (count + 1) count) above line (expansion.begun a s)

  as_plain : (b c : Bool) → IsSo b c Asked.Plain
  as_plain b c = record {
    listed = λ ys are. (small, may, fits, are);
    short = omega arith;
    ticked = omega arith;
    can = each_done (expansion.plain_line line) s can;
    few = few_either b count (expansion.done (expansion.plain_line line) s).intents (few_done count (expansion.plain_line line) s few);
  }

  -- what stands after such a line may stand before it
  abbrev IsSteady : WireStep → Type 0
  IsSteady step = (ys : List WireLine) → AreListed (above_by step above) ys → AreListed above ys

  as_nothing : (b c : Bool) → IsSteady line.step → IsSo b c Asked.Nothing
  as_nothing b c steady = record { listed = steady; short = omega arith; ticked = omega arith; can = can; few = few_either b count s.intents few }

  -- a message of an intent stands where the line stood
  abbrev begun_by : ℕ → List ℕ → List ℕ → Watching
  begun_by index to text = expansion.begun (Asked.NewIntent index to text) s

  as_intent : (c : Bool) (device to text : List ℕ) (index : ℕ) → line.step ≡ wire.Common (Say device to text) → IsSteady line.step → IsSo true c (Asked.NewIntent index to text)
  as_intent c device to text index is steady = by_view (slice_get (begun_by index to text).intents index)
    where
      parts : IsTrue (is_among device above.names.devices && is_name to) × IsTrue (is_text text)
      parts = and_parts (is_among device above.names.devices && is_name to) (is_text text) (subst (λ st. IsTrue (may_run above st)) is may)

      can_begun : CanEachSay (begun_by index to text).intents
      can_begun =
          each_changed index (with_intent to text) s.intents
          (λ v say. one_more_in v.intents to text say (and_parts (is_among device above.names.devices) (is_name to) parts.0).1 parts.1) can

      few_begun : AreFew (count + 1) (begun_by index to text).intents
      few_begun = one_more_few count index to text s.intents few

      by_view : (o : Option IntentsView) → IsListed (expansion.first_submission line index o) (1 + cond c count 0) (count + 1) above line (begun_by index to text)
      by_view None = record { listed = steady; short = omega arith; ticked = omega arith; can = can_begun; few = few_begun }
      by_view (Some v) = record {
        listed = λ ys are. (small, may, fits, are);
        short = omega arith;
        ticked = omega arith;
        can = each_done (expansion.submission line index (length v.intents)) (begun_by index to text) can_begun;
        few = few_done (count + 1) (expansion.submission line index (length v.intents)) (begun_by index to text) few_begun;
      }

  as_resolve : (b : Bool) (device : List ℕ) (index most : ℕ) → line.step ≡ wire.Common (Catchup device most) → IsSteady line.step → IsSo b true (Asked.Resolve device index most)
  as_resolve b device index most is steady =
      let left = expansion.count_at index s.intents + 1 in
      let ls = expansion.resolved left line.number device index most s in
      record {
        listed = λ ys are. resolved_listed above line.number device most small (subst (λ st. IsTrue (may_run above st)) is may) left index s ys can (steady ys are);
        short = (let a = resolved_few left line.number device index most s in let low = few_at count index s.intents few in omega (arith, a, low));
        ticked = (let a = resolved_ticks left line.number device index most s in omega (arith, a));
        can = each_all_done ls s can;
        few = few_either b count (expansion.all_done ls s).intents (few_all_done count ls s few);
      }

  -- ---- by what it asks for

  intent_listed : (c : Bool) (step : WireStep) → line.step ≡ step → IsSo true c (expansion.asked_by_intent s.world.names step)
  intent_listed c (wire.Common (Say device to text)) is = by_position (position_of device s.world.names)
    where
      steady : IsSteady line.step
      steady ys are = subst (λ st. AreListed (above_by st above) ys) is are

      by_position : (p : Option ℕ) → IsSo true c (expansion.intent_of to text p)
      by_position None = as_nothing true c steady
      by_position (Some index) = as_intent c device to text index is steady
  intent_listed c (wire.Common (Account name)) is = as_plain true c
  intent_listed c (wire.Common (Device name account)) is = as_plain true c
  intent_listed c (wire.Common (Private device to text)) is = as_plain true c
  intent_listed c (wire.Common (Catchup device most)) is = as_plain true c
  intent_listed c (wire.Common (Tick milliseconds)) is = as_plain true c
  intent_listed c (wire.Dial device) is = as_plain true c
  intent_listed c (wire.Forget device) is = as_plain true c
  intent_listed c (wire.Close device) is = as_plain true c
  intent_listed c (wire.Up conn bytes) is = as_plain true c
  intent_listed c (wire.Down conn bytes) is = as_plain true c
  intent_listed c (wire.Cut conn up down) is = as_plain true c
  intent_listed c (wire.Pass conn times) is = as_plain true c
  intent_listed c (wire.Run times) is = as_plain true c

  resolve_listed : (b : Bool) (step : WireStep) → line.step ≡ step → IsSo b true (expansion.asked_by_resolve s.world.names step)
  resolve_listed b (wire.Common (Catchup device most)) is = by_position (position_of device s.world.names)
    where
      steady : IsSteady line.step
      steady ys are = subst (λ st. AreListed (above_by st above) ys) is are

      by_position : (p : Option ℕ) → IsSo b true (expansion.resolve_of device most p)
      by_position None = as_nothing b true steady
      by_position (Some index) = as_resolve b device index most is steady
  resolve_listed b (wire.Common (Account name)) is = as_plain b true
  resolve_listed b (wire.Common (Device name account)) is = as_plain b true
  resolve_listed b (wire.Common (Say device to text)) is = as_plain b true
  resolve_listed b (wire.Common (Private device to text)) is = as_plain b true
  resolve_listed b (wire.Common (Tick milliseconds)) is = as_plain b true
  resolve_listed b (wire.Dial device) is = as_plain b true
  resolve_listed b (wire.Forget device) is = as_plain b true
  resolve_listed b (wire.Close device) is = as_plain b true
  resolve_listed b (wire.Up conn bytes) is = as_plain b true
  resolve_listed b (wire.Down conn bytes) is = as_plain b true
  resolve_listed b (wire.Cut conn up down) is = as_plain b true
  resolve_listed b (wire.Pass conn times) is = as_plain b true
  resolve_listed b (wire.Run times) is = as_plain b true

  asked_listed : (b c : Bool) → IsSo b c (cond b (expansion.asked_by_intent s.world.names line.step) (cond c (expansion.asked_by_resolve s.world.names line.step) Asked.Plain))
  asked_listed true c = intent_listed c line.step refl
  asked_listed false true = resolve_listed false line.step refl
  asked_listed false false = as_plain false false

  line_listed : (f : FileView) → IsSo (expansion.is_number_among line.number f.intents) (expansion.is_number_among line.number f.resolves) (expansion.asked f s.world.names line)
  line_listed f = asked_listed (expansion.is_number_among line.number f.intents) (expansion.is_number_among line.number f.resolves)

-- ---- all lines of a file

-- The lines of the run are listed, they are few, and tick no more.
record AreAllListed (f : FileView) (above : WireAbove) (lines : List WireLine) (s : Watching) : Type 0 where
  listed : AreListed above (lines_in (expansion.all_lines f lines s))
  short : length (expansion.all_lines f lines s) ≤ length lines + 1000 * count_among f.resolves lines
  ticked : ticked_in (lines_in (expansion.all_lines f lines s)) ≤ ticked_in lines

intents_fit : (b : Bool) (count rest : ℕ) → count + cond b (suc rest) rest ≤ 1000 → cond b (count + 1) count + rest ≤ 1000
intents_fit true count rest low = omega (arith, low)
intents_fit false count rest low = low

lines_fit : (c : Bool) (count first later lines resolves : ℕ) → count ≤ 1000 → first ≤ 1 + cond c count 0 → later ≤ lines + 1000 * resolves → first + later ≤ suc lines + 1000 * cond c (suc resolves) resolves
lines_fit true count first later lines resolves low few rest = omega (arith, low, few, rest)
lines_fit false count first later lines resolves low few rest = omega (arith, few, rest)

-- a line and those after it
module _ (f : FileView) (above : WireAbove) (line : WireLine) (lines : List WireLine) (count : ℕ) (s : Watching) (first later : List RunLine)
    (one : IsListed first (1 + cond (expansion.is_number_among line.number f.resolves) count 0) (cond (expansion.is_number_among line.number f.intents) (count + 1) count) above line s) where
  both_listed : AreListed (above_by line.step above) (lines_in later) → AreListed above (lines_in (first ++ later))
  both_listed rest = subst (AreListed above) (sym (map-append line_of first later)) (one.listed (lines_in later) rest)

  both_short : count ≤ 1000 → length later ≤ length lines + 1000 * count_among f.resolves lines → length (first ++ later) ≤ length (line ∷ lines) + 1000 * count_among f.resolves (line ∷ lines)
  both_short low rest =
      let joined = length-append first later in
      let fits = lines_fit (expansion.is_number_among line.number f.resolves) count (length first) (length later) (length lines) (count_among f.resolves lines) low one.short rest in
      omega (arith, joined, fits)

  both_ticked : ticked_in (lines_in later) ≤ ticked_in lines → ticked_in (lines_in (first ++ later)) ≤ ticked_in (line ∷ lines)
  both_ticked rest =
      let joined = ap ticked_in (map-append line_of first later) ∙ ticked_join (lines_in first) (lines_in later) in
      let ticked = one.ticked in
      omega (arith, joined, ticked, rest)

all_listed : (f : FileView) (lines : List WireLine) (above : WireAbove) (n count : ℕ) (s : Watching) → AreWireLines above n lines → count + count_among f.intents lines ≤ 1000 → CanEachSay s.intents → AreFew count s.intents
    → AreAllListed f above lines s
all_listed f [] above n count s are fits can few = record { listed = tt; short = omega arith; ticked = omega arith }
all_listed f (line ∷ lines) above n count s are fits can few =
    let is_intent = expansion.is_number_among line.number f.intents in
    let first = expansion.lines_of f line s in
    let after = expansion.gone f line s in
    let later = expansion.all_lines f lines after in
    let begun = expansion.begun (expansion.asked f s.world.names line) s in
    let one = line_listed above line count s (omega (arith, are.0, are.1)) are.2 are.3 can few f in
    let rest = all_listed f lines (above_by line.step above) (n + 1) (cond is_intent (count + 1) count) after are.4 (intents_fit is_intent count (count_among f.intents lines) fits) one.can one.few in
    let low : count ≤ 1000 = omega (arith, fits) in
    record {
      listed = both_listed f above line lines count begun first later one rest.listed;
      short = both_short f above line lines count begun first later one low rest.short;
      ticked = both_ticked f above line lines count begun first later one rest.ticked;
    }

-- ---- the lines that are left, at what the world is

pub record Stands (f : FileView) (lines : List WireLine) (s : Watching) : Type 0 where
  pub above : WireAbove
  pub n : ℕ
  pub count : ℕ
  pub are : AreWireLines above n lines
  pub fits : count + count_among f.intents lines ≤ 1000
  pub can : CanEachSay s.intents
  pub few : AreFew count s.intents

pub stands_next : (f : FileView) (line : WireLine) (lines : List WireLine) (s : Watching) → Stands f (line ∷ lines) s → Stands f lines (expansion.gone f line s)
stands_next f line lines s stands =
    let is_intent = expansion.is_number_among line.number f.intents in
    let are = stands.are in
    let one = line_listed stands.above line stands.count s (omega (arith, are.0, are.1)) are.2 are.3 stands.can stands.few f in
    record {
      above = above_by line.step stands.above;
      n = stands.n + 1;
      count = cond is_intent (stands.count + 1) stands.count;
      are = are.4;
      fits = intents_fit is_intent stands.count (count_among f.intents lines) stands.fits;
      can = one.can;
      few = one.few;
    }

-- its lines of the run tick no more than it does
pub line_ticked : (f : FileView) (line : WireLine) (lines : List WireLine) (s : Watching) → Stands f (line ∷ lines) s → ticked_in (lines_in (expansion.lines_of f line s)) ≤ ticked_of line.step
line_ticked f line lines s stands =
    let are = stands.are in
    (line_listed stands.above line stands.count s (omega (arith, are.0, are.1)) are.2 are.3 stands.can stands.few f).ticked

-- ---- a file

none_say : (os : List Owned) → CanEachSay (map expansion.none_of os)
none_say [] = tt
none_say (o ∷ os) = (tt, none_say os)

none_few : (os : List Owned) → AreFew 0 (map expansion.none_of os)
none_few [] = tt
none_few (o ∷ os) = (omega arith, none_few os)

pub stands_start : (f : FileView) → IsIntentFile f → Stands f f.schedule.lines (expansion.watching_at_start f)
stands_start f is = record {
  above = nothing_above;
  n = 2;
  count = 0;
  are = is.schedule.lines;
  fits = (let a = few_among f.intents nothing_above 2 f.schedule.lines is.schedule.lines in let b = is.intents in omega (arith, a, b));
  can = none_say (owned_in (common_steps f.schedule));
  few = none_few (owned_in (common_steps f.schedule));
}

counted_few : (lines : List WireLine) → counted_in lines ≤ length lines
counted_few [] = omega arith
counted_few (line ∷ lines) = (let one = counted_one line.step in let rest = counted_few lines in omega (arith, one, rest))

lines_short : (above : WireAbove) (n : ℕ) (lines : List WireLine) → n ≤ 100001 → AreWireLines above n lines → length lines + n ≤ 100001
lines_short above n [] low are = omega (arith, low)
lines_short above n (line ∷ lines) low are = (let rest = lines_short (above_by line.step above) (n + 1) lines (omega (arith, are.1)) are.4 in omega (arith, rest))

pub file_listed : (f : FileView) → IsIntentFile f → IsLineList (expansion.as_schedule f)
unfolding expand
file_listed f is =
    let lines = f.schedule.lines in
    let start = expansion.watching_at_start f in
    let whole = listed f.schedule is.schedule in
    let intents_few = few_among f.intents nothing_above 2 lines is.schedule.lines in
    let resolves_few = few_among f.resolves nothing_above 2 lines is.schedule.lines in
    let bound_intents = is.intents in
    let bound_resolves = is.resolves in
    let all = all_listed f lines nothing_above 2 0 start is.schedule.lines (omega (arith, intents_few, bound_intents)) (none_say (owned_in (common_steps f.schedule))) (none_few (owned_in (common_steps f.schedule))) in
    let short = all.short in
    let ticked = all.ticked in
    let whole_ticked = whole.ticked in
    let all_short = lines_short nothing_above 2 lines (omega arith) is.schedule.lines in
    let same : length (lines_in (expansion.all_lines f lines start)) ≡ length (expansion.all_lines f lines start) = length-map (expansion.all_lines f lines start) line_of in
    let counted = counted_few (lines_in (expansion.all_lines f lines start)) in
    record {
      keeps = is.schedule.keeps;
      lines = all.listed;
      few = omega (arith, short, all_short, same, resolves_few, bound_resolves);
      counted = omega (arith, short, all_short, same, counted, resolves_few, bound_resolves);
      ticked = omega (arith, ticked, whole_ticked);
    }
