-- Pages that weren't asked for in an earlier world, along one event.
use Rattle.std.proofs.Common.{◌≡◌, ℕ, ◌+◌, ◌≤◌, ◌==◌, Bool, true, false, List, [], ◌∷◌, ◌++◌, Some, refl, sym, ap, ◌∙◌, subst, arith}
use Rattle.std.specs.List.{slice_get}
use Rattle.std.specs.Option.{option_map}
use Rattle.sim_1_applications.specs.Devices.{Device, Take, AppWorld, last_of}
use Rattle.sim_1_applications.specs.Events as events
use Rattle.sim_1_applications.specs.Events.AppEvent.{At, Tick}
use Rattle.sim_1_applications.proofs.Archives.{last_grows}
use Rattle.sim_1_applications.proofs.Fresh.{Seen, seen_grows, seen_own}
use Rattle.sim_1_applications.proofs.FreshRuns.{SeenAt, Then}
use Rattle.sim_1_applications.proofs.Takes.{account_hear_all, account_own}
use Rattle.sim_1_applications.proofs.TileRuns.{same_hear_all}
use Rattle.sim_1_applications.proofs.Worlds.{at_position, get_each}

seen_becomes : (l n : ℕ) (w : AppWorld) (new : List Take) (i : ℕ) (act : events.Act) (j : ℕ) (d : Device) → SeenAt l n w.takes d → SeenAt l n (w.takes ++ new) (events.becomes w new i act j d)
seen_becomes l n w new i act j d seen =
    at_position (j == i) _ _ (λ e. SeenAt l n (w.takes ++ new) (events.hear_all (w.takes ++ new) (events.full_of act) new j e))
    (λ _.
    let acted = events.own (events.around w d) act d in
    heard acted (subst (λ a. Seen l n (last_of w.takes a) acted.reading) (sym (account_own (events.around w d) act d)) (seen_own l n (events.around w d) act d seen)))
    (λ _. heard d seen)
  where
    heard : (e : Device) → SeenAt l n w.takes e → SeenAt l n (w.takes ++ new) (events.hear_all (w.takes ++ new) (events.full_of act) new j e)
    heard e was =
        let grows = last_grows w.takes new e.account in
        subst (λ a. Seen l n (last_of (w.takes ++ new) a) (events.hear_all (w.takes ++ new) (events.full_of act) new j e).reading)
        (sym (account_hear_all (w.takes ++ new) (events.full_of act) new j e))
        (subst (Seen l n (last_of (w.takes ++ new) e.account)) (sym (same_hear_all (w.takes ++ new) (events.full_of act) new j e))
        (seen_grows l n (last_of w.takes e.account) (last_of (w.takes ++ new) e.account) e.reading (omega arith) was))

pub seen_moves : (l n : ℕ) (event : events.AppEvent) (w next : AppWorld) (i : ℕ) (d : Device) → events.Moves event w next → slice_get w.devices i ≡ Some d → SeenAt l n w.takes d → Then l n next i
seen_moves l n (Tick ms) w next i d is at seen = subst (λ v. Then l n v i) (sym is) (record { d = d; at = at; seen = seen })
seen_moves l n (At j act) w next i d is at seen =
    let new = events.taken_by w.accounts w.clock j is.0 act in
    subst (λ v. Then l n v i) (sym is.3) (record {
      d = events.becomes w new j act (0 + i) d;
      at = get_each 0 (events.becomes w new j act) w.devices i ∙ ap (option_map (events.becomes w new j act (0 + i))) at;
      seen = seen_becomes l n w new j act (0 + i) d seen;
    })
