-- Connections that are open behind a change were open before it.
use Rattle.std.proofs.Common.{◌≡◌, ℕ, zero, suc, ◌+◌, ◌<◌, ◌≤◌, true, false, List, [], ◌∷◌, ◌++◌, Option, Some, None, length, refl, sym, ap, subst, ◌∙◌, arith}
use Rattle.std.proofs.lemmas.Bool.{false≢true}
use Rattle.std.proofs.lemmas.List.{length-set}
use Rattle.std.proofs.lemmas.Option.{none-some, same_Some}
use Rattle.std.specs.Prelude.{slice_get, slice_set}
use Rattle.std.specs.List.{AllByRecursion}
use Rattle.srv_state.specs.State.{Out, Put, Shut, Took}
use Rattle.cmd_report.specs.declared.report.ConnEnd.{ConnEnd}
use Rattle.cmd_report.specs.declared.report.ConnEnd.TheVariants as end
use Rattle.cmd_schedule.specs.declared.schedule.Version.{Version}
use Rattle.cmd_network.specs.Positions.{changed_at, changed_where, position_under}
use Rattle.cmd_network.specs.Wires.{cut_at, first_end, left, put_down, put_up, shut}
use Rattle.cmd_network.specs.declared.wire.Wire.{Wire}
use Rattle.cmd_world.specs.Effects.{Effects, all_emitted, emitted}
use Rattle.cmd_world.specs.WorldReports.{is_open}
use Rattle.sim_3_images.proofs.PutSteps.{ended_entered}
use Rattle.sim_3_images.specs.Kept.{IsFlowing, is_open_at}

-- ---- one connection

-- it is open behind a change only where it was before
abbrev pub NeverOpens : (Wire → Wire) → Type 0
NeverOpens f = (b : Wire) → is_open (f b).end ≡ true → is_open b.end ≡ true

first_opens : (e later : ConnEnd) → is_open (first_end e later) ≡ true → is_open e ≡ true
first_opens end.Open later is = refl
first_opens end.Cut later is = is
first_opens end.Left later is = is
first_opens end.Shut later is = is

pub left_opens : NeverOpens left
left_opens b is = first_opens b.end end.Left is

pub shut_opens : NeverOpens shut
shut_opens b is = first_opens b.end end.Shut is

pub cut_opens : (up down : ℕ) → NeverOpens (cut_at up down)
cut_opens up down b is = first_opens b.end end.Cut is

left_end : (e : ConnEnd) → is_open (first_end e end.Left) ≡ false
left_end end.Open = refl
left_end end.Cut = refl
left_end end.Left = refl
left_end end.Shut = refl

pub left_closes : (b : Wire) → is_open (left b).end ≡ false
left_closes b = left_end b.end

-- ---- connections, one list behind another

-- there are no fewer, and none of the earlier ones was opened
pub record Onward (wires later : List Wire) : Type 0 where
  pub many : length wires ≤ length later
  pub opens : (p : ℕ) → p < length wires → is_open_at p later ≡ true → is_open_at p wires ≡ true

pub same_on : (wires : List Wire) → Onward wires wires
same_on wires = record { many = omega arith; opens = λ p low is. is }

pub then_on : (a b c : List Wire) → Onward a b → Onward b c → Onward a c
then_on a b c first second =
    let m = first.many in
    let n = second.many in
    record { many = omega (arith, m, n); opens = λ p low is. first.opens p low (second.opens p (omega (arith, low, m)) is) }

-- ---- a change at a place

length_changed : (f : Wire → Wire) (wires : List Wire) (q : ℕ) → length (changed_at q f wires) ≡ length wires
length_changed f [] q = refl
length_changed f (b ∷ wires) zero = refl
length_changed f (b ∷ wires) (suc q) = ap suc (length_changed f wires q)

open_before : (f : Wire → Wire) → NeverOpens f → (wires : List Wire) (q p : ℕ) → is_open_at p (changed_at q f wires) ≡ true → is_open_at p wires ≡ true
open_before f never [] q p is = is
open_before f never (b ∷ wires) zero zero is = never b is
open_before f never (b ∷ wires) zero (suc p) is = is
open_before f never (b ∷ wires) (suc q) zero is = is
open_before f never (b ∷ wires) (suc q) (suc p) is = open_before f never wires q p is

pub changed_on : (f : Wire → Wire) → NeverOpens f → (wires : List Wire) (q : ℕ) → Onward wires (changed_at q f wires)
changed_on f never wires q = let size = length_changed f wires q in record { many = omega (arith, size); opens = λ p low is. open_before f never wires q p is }

pub where_on : (f : Wire → Wire) → NeverOpens f → (wires : List Wire) (o : Option ℕ) → Onward wires (changed_where o f wires)
where_on f never wires None = same_on wires
where_on f never wires (Some q) = changed_on f never wires q

-- one that is left is open no more
pub closed_there : (wires : List Wire) (q : ℕ) → is_open_at q (changed_at q left wires) ≡ false
closed_there [] q = refl
closed_there (b ∷ wires) zero = left_closes b
closed_there (b ∷ wires) (suc q) = closed_there wires q

-- ---- another in its place

set_before : (wires : List Wire) (q p : ℕ) (old new : Wire) → slice_get wires q ≡ Some old → (is_open new.end ≡ true → is_open old.end ≡ true) → is_open_at p (slice_set wires q new) ≡ true → is_open_at p wires ≡ true
set_before [] q p old new found never is = is
set_before (b ∷ wires) zero zero old new found never is = subst (λ (c : Wire). is_open c.end ≡ true) (sym (same_Some b old found)) (never is)
set_before (b ∷ wires) zero (suc p) old new found never is = is
set_before (b ∷ wires) (suc q) zero old new found never is = is
set_before (b ∷ wires) (suc q) (suc p) old new found never is = set_before wires q p old new found never is

pub set_on : (wires : List Wire) (q : ℕ) (old new : Wire) → slice_get wires q ≡ Some old → (is_open new.end ≡ true → is_open old.end ≡ true) → Onward wires (slice_set wires q new)
set_on wires q old new found never = let size = length-set wires q new in record { many = omega (arith, size); opens = λ p low is. set_before wires q p old new found never is }

pub set_closed : (wires : List Wire) (q : ℕ) (old new : Wire) → slice_get wires q ≡ Some old → is_open new.end ≡ false → is_open_at q (slice_set wires q new) ≡ false
set_closed [] q old new found closes = absurd (none-some old found)
set_closed (b ∷ wires) zero old new found closes = closes
set_closed (b ∷ wires) (suc q) old new found closes = set_closed wires q old new found closes

-- ---- one more

more_before : (wires : List Wire) (x : Wire) (p : ℕ) → p < length wires → is_open_at p (wires ++ x ∷ []) ≡ true → is_open_at p wires ≡ true
more_before [] x p low is = absurd (omega (arith, low))
more_before (b ∷ wires) x zero low is = is
more_before (b ∷ wires) x (suc p) low is = more_before wires x p (omega (arith, low)) is

pub length_more : (wires : List Wire) (x : Wire) → length (wires ++ x ∷ []) ≡ length wires + 1
length_more [] x = refl
length_more (b ∷ wires) x = let rest = length_more wires x in omega (arith, rest)

pub more_on : (wires : List Wire) (x : Wire) → Onward wires (wires ++ x ∷ [])
more_on wires x = let size = length_more wires x in record { many = omega (arith, size); opens = λ p low is. more_before wires x p low is }

-- ---- what the server puts out

one_on : (version : Version) (moment : ℕ) (out : Out (List ℕ)) (e : Effects) → Onward e.wires (emitted version moment out e).wires
one_on version moment (Put k bytes) e = where_on (put_down bytes) (λ b is. is) e.wires (position_under k)
one_on version moment (Shut k) e = where_on shut shut_opens e.wires (position_under k)
one_on version moment (Took from to origin) e = same_on e.wires

pub emitted_on : (version : Version) (moment : ℕ) (outs : List (Out (List ℕ))) (e : Effects) → Onward e.wires (all_emitted version moment outs e).wires
emitted_on version moment [] e = same_on e.wires
emitted_on version moment (out ∷ outs) e =
    then_on e.wires (emitted version moment out e).wires (all_emitted version moment outs (emitted version moment out e)).wires (one_on version moment out e) (emitted_on version moment outs (emitted version moment out e))

-- ---- no pipe of an open connection has ended

-- the change keeps that
abbrev pub StaysFlowing : (Wire → Wire) → Type 0
StaysFlowing f = (b : Wire) → IsFlowing b → IsFlowing (f b)

not_open : (e : ConnEnd) (P : Type 0) → is_open e ≡ false → is_open e ≡ true → P
not_open e P closes opens = absurd (false≢true (sym closes ∙ opens))

cut_end : (e : ConnEnd) → is_open (first_end e end.Cut) ≡ false
cut_end end.Open = refl
cut_end end.Cut = refl
cut_end end.Left = refl
cut_end end.Shut = refl

shut_end : (e : ConnEnd) → is_open (first_end e end.Shut) ≡ false
shut_end end.Open = refl
shut_end end.Cut = refl
shut_end end.Left = refl
shut_end end.Shut = refl

pub left_flows : StaysFlowing left
left_flows b is = not_open (left b).end _ (left_end b.end)

pub shut_flows : StaysFlowing shut
shut_flows b is = not_open (shut b).end _ (shut_end b.end)

pub cut_flows : (up down : ℕ) → StaysFlowing (cut_at up down)
cut_flows up down b is = not_open (cut_at up down b).end _ (cut_end b.end)

pub put_up_flows : (more : List ℕ) → StaysFlowing (put_up more)
put_up_flows more b is opens = (ended_entered more b.up ∙ (is opens).0, (is opens).1)

pub put_down_flows : (more : List ℕ) → StaysFlowing (put_down more)
put_down_flows more b is opens = ((is opens).0, ended_entered more b.down ∙ (is opens).1)

pub changed_flows : (f : Wire → Wire) → StaysFlowing f → (wires : List Wire) (q : ℕ) → AllByRecursion IsFlowing wires → AllByRecursion IsFlowing (changed_at q f wires)
changed_flows f stays [] q all = tt
changed_flows f stays (b ∷ wires) zero all = (stays b all.0, all.1)
changed_flows f stays (b ∷ wires) (suc q) all = (all.0, changed_flows f stays wires q all.1)

pub where_flows : (f : Wire → Wire) → StaysFlowing f → (wires : List Wire) (o : Option ℕ) → AllByRecursion IsFlowing wires → AllByRecursion IsFlowing (changed_where o f wires)
where_flows f stays wires None all = all
where_flows f stays wires (Some q) all = changed_flows f stays wires q all

pub set_flows : (wires : List Wire) (q : ℕ) (old new : Wire) → slice_get wires q ≡ Some old → (IsFlowing old → IsFlowing new) → AllByRecursion IsFlowing wires → AllByRecursion IsFlowing (slice_set wires q new)
set_flows [] q old new found stays all = absurd (none-some old found)
set_flows (b ∷ wires) zero old new found stays all = (stays (subst IsFlowing (same_Some b old found) all.0), all.1)
set_flows (b ∷ wires) (suc q) old new found stays all = (all.0, set_flows wires q old new found stays all.1)

pub more_flows : (wires : List Wire) (x : Wire) → AllByRecursion IsFlowing wires → IsFlowing x → AllByRecursion IsFlowing (wires ++ x ∷ [])
more_flows [] x all is = (is, tt)
more_flows (b ∷ wires) x all is = (all.0, more_flows wires x all.1 is)

one_flows : (version : Version) (moment : ℕ) (out : Out (List ℕ)) (e : Effects) → AllByRecursion IsFlowing e.wires → AllByRecursion IsFlowing (emitted version moment out e).wires
one_flows version moment (Put k bytes) e all = where_flows (put_down bytes) (put_down_flows bytes) e.wires (position_under k) all
one_flows version moment (Shut k) e all = where_flows shut shut_flows e.wires (position_under k) all
one_flows version moment (Took from to origin) e all = all

pub emitted_flows : (version : Version) (moment : ℕ) (outs : List (Out (List ℕ))) (e : Effects) → AllByRecursion IsFlowing e.wires → AllByRecursion IsFlowing (all_emitted version moment outs e).wires
emitted_flows version moment [] e all = all
emitted_flows version moment (out ∷ outs) e all = emitted_flows version moment outs (emitted version moment out e) (one_flows version moment out e all)
