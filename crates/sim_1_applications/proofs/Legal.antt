-- Premises as a test, so that worked runs are evaluated: what passes it is a run.
use Rattle.std.proofs.Common.{◌≡◌, ◌≢◌, length, refl, ap, List, [], ◌∷◌, Option, Some, None, true, false, Bool}
use Rattle.std.specs.Prelude.{◌&&◌, not, nat_le}
use Rattle.std.specs.List.{slice_get}
use Rattle.std.specs.Option.{option_map_or}
use Rattle.std.proofs.lemmas.Bool.{leb-true, not-true}
use Rattle.sim_1_applications.specs.Devices.{AppWorld, Device, OpenPage, Stage, Row}
use Rattle.sim_1_applications.specs.Devices.Stage.{Named, Counted, Known}
use Rattle.sim_1_applications.specs.Devices.Row.{NoRow, Unread, Present}
use Rattle.sim_1_applications.specs.Events.{AppEvent, Act, May, Moves, Reaches, after, acted, is_present}
use Rattle.sim_1_applications.specs.Events.AppEvent.{At, Tick}
use Rattle.sim_1_applications.specs.Histories.{state_after}
use Rattle.sim_1_applications.specs.Events.Act.{Bind, ReadBound, Enable, ReadEnabled, End, Drop, Acknowledge, Say, CatchUp, ServerHandles, ClientHandles}

abbrev is_unread : Row → Bool
is_unread Unread = true
is_unread _ = false

abbrev is_named : Stage → Bool
is_named Named = true
is_named _ = false

abbrev is_counted : Stage → Bool
is_counted Counted = true
is_counted _ = false

abbrev has_no_page : Option OpenPage → Bool
has_no_page None = true
has_no_page (Some page) = false

abbrev may : Act → Device → Bool
may Bind d = true
may (ReadBound true) d = not d.sessions.online && is_unread d.sessions.row
may (ReadBound false) d = not d.sessions.online && not (is_present d.sessions.row)
may Enable d = is_present d.sessions.row && is_named d.sessions.now.stage
may ReadEnabled d = not d.sessions.online && is_counted d.sessions.now.stage
may End d = true
may Drop d = true
may (Acknowledge n) d = d.sessions.online && (nat_le d.sessions.now.acked n && nat_le n (length d.sessions.now.up_got))
may (Say to text private) d = d.sessions.online
may (CatchUp max) d = d.sessions.online && (has_no_page d.reading.page && (nat_le 1 max && nat_le max 100))
may (ServerHandles fits full) d = is_present d.sessions.row && (not (is_named d.sessions.now.stage) && nat_le 1 (length d.sessions.now.up_rest))
may ClientHandles d = d.sessions.online && nat_le 1 (length d.sessions.now.down_rest)

both : (b c : Bool) → (b && c) ≡ true → (b ≡ true) × (c ≡ true)
both true c e = (refl, e)
both false c e = absurd (let bad : ⊥ = cc in bad)

present : (r : Row) → is_present r ≡ true → r ≡ Present
present NoRow e = absurd (let bad : ⊥ = cc in bad)
present Unread e = absurd (let bad : ⊥ = cc in bad)
present Present e = refl

absent : (r : Row) → not (is_present r) ≡ true → r ≢ Present
absent NoRow e same = let bad : ⊥ = cc in bad
absent Unread e same = let bad : ⊥ = cc in bad
absent Present e same = let bad : ⊥ = cc in bad

unread : (r : Row) → is_unread r ≡ true → r ≡ Unread
unread NoRow e = absurd (let bad : ⊥ = cc in bad)
unread Unread e = refl
unread Present e = absurd (let bad : ⊥ = cc in bad)

named : (s : Stage) → is_named s ≡ true → s ≡ Named
named Named e = refl
named Counted e = absurd (let bad : ⊥ = cc in bad)
named Known e = absurd (let bad : ⊥ = cc in bad)

unnamed : (s : Stage) → not (is_named s) ≡ true → s ≢ Named
unnamed Named e same = let bad : ⊥ = cc in bad
unnamed Counted e same = let bad : ⊥ = cc in bad
unnamed Known e same = let bad : ⊥ = cc in bad

counted : (s : Stage) → is_counted s ≡ true → s ≡ Counted
counted Named e = absurd (let bad : ⊥ = cc in bad)
counted Counted e = refl
counted Known e = absurd (let bad : ⊥ = cc in bad)

no_page : (p : Option OpenPage) → has_no_page p ≡ true → p ≡ None
no_page None e = refl
no_page (Some page) e = absurd (let bad : ⊥ = cc in bad)

may_is : (act : Act) (d : Device) → may act d ≡ true → May act d
may_is Bind d e = tt
may_is (ReadBound true) d e = let p = both _ _ e in (not-true _ p.0, unread _ p.1)
may_is (ReadBound false) d e = let p = both _ _ e in (not-true _ p.0, absent _ p.1)
may_is Enable d e = let p = both _ _ e in (present _ p.0, named _ p.1)
may_is ReadEnabled d e = let p = both _ _ e in (not-true _ p.0, counted _ p.1)
may_is End d e = tt
may_is Drop d e = tt
may_is (Acknowledge n) d e = let p = both _ _ e in let q = both _ _ p.1 in (p.0, leb-true _ _ q.0, leb-true _ _ q.1)
may_is (Say to text private) d e = e
may_is (CatchUp max) d e = let p = both _ _ e in let q = both _ _ p.1 in let r = both _ _ q.1 in (p.0, no_page _ q.0, leb-true _ _ r.0, leb-true _ _ r.1)
may_is (ServerHandles fits full) d e = let p = both _ _ e in let q = both _ _ p.1 in (present _ p.0, unnamed _ q.0, leb-true _ _ q.1)
may_is ClientHandles d e = let p = both _ _ e in (p.0, leb-true _ _ p.1)

abbrev pub happens : AppEvent → AppWorld → Bool
happens (Tick ms) w = true
happens (At i act) w = option_map_or (may act) (slice_get w.devices i) false

abbrev pub is_run : List AppEvent → AppWorld → Bool
is_run [] w = true
is_run (event ∷ all) w = happens event w && is_run all (after w event)

moves : (event : AppEvent) (w : AppWorld) → happens event w ≡ true → Moves event w (after w event)
moves (Tick ms) w e = refl
moves (At i act) w e = found (slice_get w.devices i) refl e
  where
    found : (o : Option Device) → slice_get w.devices i ≡ o → option_map_or (may act) o false ≡ true →
        (d : Device) × (slice_get w.devices i ≡ Some d) × May act d × (after w (At i act) ≡ acted w i act d)
    found None at e2 = absurd (let bad : ⊥ = cc in bad)
    found (Some d) at e2 = (d, at, may_is act d e2, ap (λ o. option_map_or (acted w i act) o w) at)

-- what passes the test is a run
pub runs : (all : List AppEvent) (w : AppWorld) → is_run all w ≡ true → Reaches all w (state_after w all)
runs [] w e = refl
runs (event ∷ all) w e = let p = both _ _ e in (after w event, moves event w p.0, runs all (after w event) p.1)
