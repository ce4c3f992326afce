-- The states that a run passes, and what is known of pages at each.
use Rattle.std.proofs.Common.{◌≡◌, ℕ, zero, suc, ◌<◌, ◌≤◌, List, [], ◌∷◌, ◌++◌, Some, length, refl, sym, ap, ◌∙◌, subst, arith}
use Rattle.std.proofs.lemmas.Option.{none-some, same_Some, slice_get_within}
use Rattle.std.specs.List.{flat_map, slice_get}
use Rattle.std.specs.Option.{option_map_or}
use Rattle.sim_1_applications.proofs.Fresh.{Seen}
use Rattle.sim_1_applications.proofs.FreshRuns.{fresh}
use Rattle.sim_1_applications.proofs.Later.{later_along}
use Rattle.sim_1_applications.proofs.Runs.{taken_along}
use Rattle.sim_1_applications.proofs.TileRuns.{read_along}
use Rattle.sim_1_applications.specs.Devices.{AppWorld, Device, Tile, last_of}
use Rattle.sim_1_applications.specs.Events as events
use Rattle.sim_1_applications.specs.Events.AppEvent.{At, Tick}
use Rattle.sim_1_applications.specs.Histories.{asked_of, state_after, states_of}
use Rattle.sim_1_applications.specs.Kept.{AreTiles, Read, Taken, end_of}
use Rattle.sim_1_applications.proofs.Rendered.{tiles_within as tiles_low}

-- a state that the run passes on its way to the last one
pub record Passed (v last : AppWorld) : Type 0 where
  pub taken : Taken v
  pub read : Read v
  pub onward : List events.AppEvent
  pub reaches : events.Reaches onward v last

moves_is : (event : events.AppEvent) (w next : AppWorld) → events.Moves event w next → next ≡ events.after w event
moves_is (Tick ms) w next is = is
moves_is (At i act) w next is = is.3 ∙ sym (ap (λ o. option_map_or (events.acted w i act) o w) is.1)

pub reaches_is : (all : List events.AppEvent) (w last : AppWorld) → events.Reaches all w last → last ≡ state_after w all
reaches_is [] w last is = is
reaches_is (event ∷ all) w last reaches = reaches_is all reaches.0 last reaches.2 ∙ ap (λ v. state_after v all) (moves_is event w reaches.0 reaches.1)

record Between (xs ys : List events.AppEvent) (w last : AppWorld) : Type 0 where
  mid : AppWorld
  first : events.Reaches xs w mid
  second : events.Reaches ys mid last

split_run : (xs ys : List events.AppEvent) (w last : AppWorld) → events.Reaches (xs ++ ys) w last → Between xs ys w last
split_run [] ys w last reaches = record { mid = w; first = refl; second = reaches }
split_run (x ∷ xs) ys w last reaches =
    let rest = split_run xs ys reaches.0 last reaches.2 in
    record { mid = rest.mid; first = (reaches.0, reaches.1, rest.first); second = rest.second }

pub passed_at : (moves : List (List events.AppEvent)) (w last : AppWorld) (j : ℕ) (v : AppWorld) → events.Reaches (flat_map (λ move. move) moves) w last → Taken w → Read w → slice_get (states_of w moves) j ≡ Some v → Passed v last
passed_at [] w last zero v reaches taken read at =
    subst (λ u. Passed u last) (same_Some w v at) (record { taken = taken; read = read; onward = []; reaches = reaches })
passed_at [] w last (suc j) v reaches taken read at = absurd (none-some v at)
passed_at (move ∷ moves) w last zero v reaches taken read at =
    subst (λ u. Passed u last) (same_Some w v at) (record { taken = taken; read = read; onward = flat_map (λ m. m) (move ∷ moves); reaches = reaches })
passed_at (move ∷ moves) w last (suc j) v reaches taken read at =
    let parts = split_run move (flat_map (λ m. m) moves) w last reaches in
    let same : parts.mid ≡ state_after w move = reaches_is move w parts.mid parts.first in
    passed_at moves parts.mid last j v parts.second (taken_along move w parts.mid parts.first taken) (read_along move w parts.mid parts.first taken read)
    (subst (λ u. slice_get (states_of u moves) j ≡ Some v) (sym same) at)

-- Pages.

pub record TileKnown (high : ℕ) (t : Tile) : Type 0 where
  pub answered : t.began ≤ t.given
  pub over : t.given ≤ t.last
  pub within : t.last ≤ high

pub tile_known : (keep n low high : ℕ) (ts : List Tile) (k : ℕ) (t : Tile) → AreTiles keep n low high ts → slice_get ts k ≡ Some t → TileKnown high t
tile_known keep n low high [] k t known at = absurd (none-some t at)
tile_known keep n low high (u ∷ ts) zero t known at =
    subst (TileKnown high) (same_Some u t at) (record { answered = known.0.answered; over = known.0.over; within = tiles_low keep (end_of keep n u) u.last high ts known.1 })
tile_known keep n low high (u ∷ ts) (suc k) t known at = tile_known keep (end_of keep n u) u.last high ts k t known.1 at

get_front : (xs more : List Tile) (k : ℕ) (t : Tile) → k < length xs → slice_get (xs ++ more) k ≡ Some t → slice_get xs k ≡ Some t
get_front [] more k t within at = absurd (omega arith)
get_front (x ∷ xs) more zero t within at = at
get_front (x ∷ xs) more (suc k) t within at = get_front xs more k t (omega arith) at

-- the device as it was
pub record WasDevice (v last : AppWorld) (i : ℕ) (d : Device) : Type 0 where
  pub was : Device
  pub at : slice_get v.devices i ≡ Some was
  pub account : was.account ≡ d.account
  -- each page that wasn't asked for then was answered by an archive that had given no less
  pub asked : (k : ℕ) (t : Tile) → slice_get d.reading.tiles k ≡ Some t → asked_of was.reading ≤ k → last_of v.takes was.account ≤ t.given
  -- each page that had been taken over by then was answered by one that had given no more
  pub over : (k : ℕ) (t : Tile) → slice_get d.reading.tiles k ≡ Some t → k < length was.reading.tiles → t.given ≤ last_of v.takes was.account

position_there : (v : AppWorld) (i : ℕ) → i < length v.devices → (d : Device) × (slice_get v.devices i ≡ Some d)
position_there v i within = found v.devices i within
  where
    found : (ds : List Device) (j : ℕ) → j < length ds → (d : Device) × (slice_get ds j ≡ Some d)
    found [] j low = absurd (omega arith)
    found (d ∷ ds) zero low = (d, refl)
    found (d ∷ ds) (suc j) low = found ds j (omega arith)

pub was_device : (v last : AppWorld) (i : ℕ) (d : Device) → Passed v last → Read last → slice_get last.devices i ≡ Some d → WasDevice v last i d
was_device v last i d passed read at =
    let later = later_along passed.onward v last passed.reaches in
    let many = later.many in
    let within = slice_get_within last.devices i d at in
    let there = position_there v i (omega arith) in
    let following = later.devices i there.0 there.1 in
    let same : following.device ≡ d = same_Some following.device d (sym following.at ∙ at) in
    let tiles = subst (λ (e : Device). (more : List Tile) × (e.reading.tiles ≡ there.0.reading.tiles ++ more)) same following.later.tiles in
    let seen = fresh passed.onward v last i there.0 passed.reaches there.1 in
    let seen_same : seen.d ≡ d = same_Some seen.d d (sym seen.at ∙ at) in
    let known = (read.devices i d at).tiles.tiles in
    record {
      was = there.0;
      at = there.1;
      account = sym (following.later.account) ∙ ap (λ (e : Device). e.account) same;
      asked = λ k t found early.
          let began = subst (λ (e : Device). Seen (last_of v.takes there.0.account) (asked_of there.0.reading) (last_of last.takes e.account) e.reading) seen_same seen.seen in
          let low = began.tiles k t found early in
          let high = (tile_known last.keep 0 0 (last_of last.takes d.account) d.reading.tiles k t known found).answered in
          omega arith;
      over = λ k t found few.
          let there_too = get_front there.0.reading.tiles tiles.0 k t few (ap (λ ts. slice_get ts k) (sym tiles.1) ∙ found) in
          let is = tile_known v.keep 0 0 (last_of v.takes there.0.account) there.0.reading.tiles k t (passed.read.devices i there.0 there.1).tiles.tiles there_too in
          let a = is.over in
          let b = is.within in
          omega arith;
    }
