-- Numbers of entries of a history.
use Rattle.std.proofs.Common.{◌≡◌, ℕ, zero, suc, ◌+◌, ◌-◌, ◌<◌, ◌≤◌, ◌^◌, List, [], ◌∷◌, ◌++◌, length, sym, subst, ◌∙◌, arith}
use Rattle.std.specs.List.{AllByRecursion, flat_map}
use Rattle.mam_archive.proofs.NumberedEntries.{FollowFrom, at_position, entry_at, follow_at}
use Rattle.mam_archive.specs.Entries.{EntryView}
use Rattle.sim_5_devices.specs.Shown.{AreGiven, IsGiven}
use Rattle.cmd_schedule.proofs.Lists.{all_append}
use Rattle.sim_1_applications.proofs.Lists.{all_weaker}
use Rattle.sim_1_applications.specs.Answers.{following}
use Rattle.sim_1_applications.specs.Kept.{AreLogged, AreRuns}

abbrev pub IsWithin : ℕ → ℕ → Type 0
IsWithin last n = (1 ≤ n) × (n ≤ last)

abbrev pub AreWithin : ℕ → List ℕ → Type 0
AreWithin last ns = AllByRecursion (IsWithin last) ns

pub after_within : (last n k : ℕ) → k ≤ last - n → AreWithin last (following n k)
after_within last n zero few = tt
after_within last n (suc k) few = ((omega arith, omega (arith, few)), after_within last (suc n) k (omega (arith, few)))

run_within : (last from : ℕ) (run : List ℕ) → run ≡ following from (length run) → from + length run ≤ last → AreWithin last run
run_within last from run is through = subst (AreWithin last) (sym is) (after_within last from (length run) (omega (arith, through)))

runs_within : (last low high : ℕ) (runs : List (List ℕ)) → AreRuns low high runs → high ≤ last → (low ≤ high) × AreWithin last (flat_map (λ run. run) runs)
runs_within last low high [] known below = (known, tt)
runs_within last low high (run ∷ runs) known below =
    let more = runs_within last (known.0 + length run) high runs known.4 below in
    let low_here = known.1 in
    let through = more.0 in (
      omega (arith, low_here, through),
      all_append (IsWithin last) run (flat_map (λ run. run) runs) (run_within last known.0 run known.3 (omega (arith, through, below))) more.1,
    )

pub log_within : (first last : ℕ) (broken : List (List ℕ)) (run : List ℕ) → AreLogged first last broken run → AreWithin last (flat_map (λ run. run) broken ++ run)
log_within first last broken run known =
    let through = known.through in
    all_append (IsWithin last) (flat_map (λ run. run) broken) run (runs_within last 0 known.from broken known.earlier (omega (arith, through))).1 (run_within last known.from run known.is_run through)

-- ---- each is of an entry

module _ (history : List EntryView) (follow : FollowFrom 1 history) (last : ℕ) (long : length history ≡ last) (few : last < 2 ^ 64) where
  pub is_given : (n : ℕ) → IsWithin last n → IsGiven history n
  is_given n within =
      let some = within.0 in
      let most = within.1 in
      let there = at_position (n - 1) history (omega (arith, some, most, long)) in
      let number = follow_at 1 history (n - 1) there.0 follow there.1 in record {
        entry = there.0;
        there = entry_at n 1 history follow some ∙ there.1;
        number = omega (arith, number, some);
        small = omega (arith, most, few);
      }

  pub are_given : (ns : List ℕ) → AreWithin last ns → AreGiven history ns
  are_given ns within = all_weaker (IsWithin last) (IsGiven history) ns is_given within
