-- All devices of a world drift, one behind the other.
use Rattle.std.proofs.Common.{◌≡◌, ℕ, zero, suc, ◌+◌, List, [], ◌∷◌, ◌++◌, Some, length, refl, sym, ap, ap₂, subst, ◌∙◌, append_assoc, arith}
use Rattle.std.proofs.lemmas.Option.{none-some, same_Some}
use Rattle.std.proofs.lemmas.List.{length_push}
use Rattle.std.proofs.lemmas.List.Concat.{flat_map-append}
use Rattle.std.specs.List.{slice_get, slice_set}
use Rattle.sim_5_devices.proofs.Worlds.{session_steps_reach}
use Rattle.sim_5_devices.specs.Labels.{AllStep, Binds, Counts, Ends, HasSessionSteps, SessionStep, session_step_events}
use Rattle.sim_1_applications.specs.Devices.{AppWorld, Device, Sessions}
use Rattle.sim_1_applications.specs.Events.{AppEvent, Reaches}
use Rattle.sim_1_applications.specs.Histories.{spoken_by, spoken_in}

pub reaches_both : (xs ys : List AppEvent) (w mid last : AppWorld) → Reaches xs w mid → Reaches ys mid last → Reaches (xs ++ ys) w last
reaches_both [] ys w mid last same more = subst (λ v. Reaches ys v last) same more
reaches_both (x ∷ xs) ys w mid last (next, by, along) more = (next, by, reaches_both xs ys next mid last along more)

pub spoken_both : (xs ys : List AppEvent) → spoken_in (xs ++ ys) ≡ spoken_in xs ++ spoken_in ys
spoken_both xs ys = flat_map-append spoken_by xs ys

pub session_steps_silent : (i : ℕ) (xs : List SessionStep) → spoken_in (session_step_events i xs) ≡ []
session_steps_silent i [] = refl
session_steps_silent i (Binds ∷ xs) = session_steps_silent i xs
session_steps_silent i (Counts ∷ xs) = session_steps_silent i xs
session_steps_silent i (Ends ∷ xs) = session_steps_silent i xs

-- ---- the one behind some

get_after : (pre : List Device) (d : Device) (ds : List Device) → slice_get (pre ++ d ∷ ds) (length pre) ≡ Some d
get_after [] d ds = refl
get_after (x ∷ pre) d ds = get_after pre d ds

set_after : (pre : List Device) (d e : Device) (ds : List Device) → slice_set (pre ++ d ∷ ds) (length pre) e ≡ pre ++ e ∷ ds
set_after [] d e ds = refl
set_after (x ∷ pre) d e ds = ap (λ l. x ∷ l) (set_after pre d e ds)

-- ---- all behind some

module _ (Is : ℕ → Device → Sessions → Type 0) (w : AppWorld) where
  -- each of these drifts, those behind some
  abbrev Each : ℕ → List Device → Type 0
  Each k ds = (i : ℕ) (d : Device) → slice_get ds i ≡ Some d → (x : HasSessionSteps d) × Is (k + i) d x.last

  record SessionStepping (pre ds : List Device) : Type 0 where
    events : List AppEvent
    devices : List Device
    reaches : Reaches events (record w { devices = pre ++ ds }) (record w { devices = pre ++ devices })
    silent : spoken_in events ≡ []
    each : (i : ℕ) (d : Device) → slice_get ds i ≡ Some d → (last : Sessions) × Is (length pre + i) d last × (slice_get devices i ≡ Some (record d { sessions = last }))
    many : length devices ≡ length ds

  drifting : (pre ds : List Device) → Each (length pre) ds → SessionStepping pre ds
  drifting pre [] each = record { events = []; devices = []; reaches = refl; silent = refl; each = λ i d there. absurd (none-some d there); many = refl }
  drifting pre (d ∷ ds) each =
      let x = each 0 d refl in
      let e : Device = record d { sessions = x.0.last } in
      let events = session_step_events (length pre) x.0.session_steps in
      let rest = drifting (pre ++ e ∷ []) ds (λ i y there. let z = each (suc i) y there in (z.0, subst (λ n. Is n y z.0.last) (positions pre e i) z.1)) in
      let first : Reaches events (record w { devices = pre ++ d ∷ ds }) (record w { devices = pre ++ e ∷ ds }) =
      subst (λ l. Reaches events (record w { devices = pre ++ d ∷ ds }) (record w { devices = l })) (set_after pre d e ds)
      (session_steps_reach x.0.session_steps (record w { devices = pre ++ d ∷ ds }) (length pre) d x.0.last (get_after pre d ds) x.0.leads) in
      record {
        events = events ++ rest.events;
        devices = e ∷ rest.devices;
        reaches =
            reaches_both events rest.events (record w { devices = pre ++ d ∷ ds }) (record w { devices = pre ++ e ∷ ds }) (record w { devices = pre ++ e ∷ rest.devices }) first
            (subst (λ l. Reaches rest.events (record w { devices = l }) (record w { devices = pre ++ e ∷ rest.devices })) (append_assoc pre (e ∷ []) ds)
            (subst (λ l. Reaches rest.events (record w { devices = (pre ++ e ∷ []) ++ ds }) (record w { devices = l })) (append_assoc pre (e ∷ []) rest.devices) rest.reaches));
        silent = spoken_both events rest.events ∙ ap₂ (λ a b. a ++ b) (session_steps_silent (length pre) x.0.session_steps) rest.silent;
        each = at x rest.devices rest.each;
        many = ap suc rest.many;
      }
    where
      positions : (pre : List Device) (e : Device) (i : ℕ) → length pre + suc i ≡ length (pre ++ e ∷ []) + i
      positions pre e i = (let more = length_push pre e in omega (arith, more))

      at : (x : (x : HasSessionSteps d) × Is (length pre + 0) d x.last) (devices : List Device)
          → ((i : ℕ) (y : Device) → slice_get ds i ≡ Some y → (last : Sessions) × Is (length (pre ++ (record d { sessions = x.0.last }) ∷ []) + i) y last × (slice_get devices i ≡ Some (record y { sessions = last })))
          → (i : ℕ) (y : Device) → slice_get (d ∷ ds) i ≡ Some y → (last : Sessions) × Is (length pre + i) y last × (slice_get ((record d { sessions = x.0.last }) ∷ devices) i ≡ Some (record y { sessions = last }))
      at x devices rest zero y there =
          let same = same_Some d y there in
          (x.0.last, subst (λ z. Is (length pre + 0) z x.0.last) same x.1, ap (λ (z : Device). Some (record z { sessions = x.0.last })) same)
      at x devices rest (suc i) y there =
          let z = rest i y there in
          (z.0, subst (λ n. Is n y z.0) (sym (positions pre (record d { sessions = x.0.last }) i)) z.1, z.2)

  pub all_session_step : ((i : ℕ) (d : Device) → slice_get w.devices i ≡ Some d → (x : HasSessionSteps d) × Is i d x.last) → AllStep Is w
  all_session_step each =
      let all = drifting [] w.devices (λ i d there. let x = each i d there in (x.0, subst (λ n. Is n d x.0.last) (let e : i ≡ 0 + i = omega arith in e) x.1)) in
      record {
        events = all.events;
        devices = all.devices;
        reaches = all.reaches;
        silent = all.silent;
        each = λ i d there. let x = all.each i d there in (x.0, subst (λ n. Is n d x.0) (let e : 0 + i ≡ i = omega arith in e) x.1, x.2);
        many = all.many;
      }
