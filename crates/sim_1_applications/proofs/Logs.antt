-- A7: the log with the results of a page.
use Rattle.std.proofs.Common.{◌≡◌, ℕ, suc, zero, ◌+◌, ◌-◌, ◌<◌, ◌≤◌, true, false, cond, List, [], ◌∷◌, ◌++◌, Option, Some, None, length, refl, sym, ap, ◌∙◌, subst, arith, inl, inr}
use Rattle.std.specs.List.{slice_get, flat_map}
use Rattle.std.specs.Prelude.{◌&&◌, nat_le}
use Rattle.std.proofs.lemmas.Bool.{leb-true, and_parts}
use Rattle.std.proofs.lemmas.List.{length-append}
use Rattle.sim_1_applications.specs.Devices.{first_of}
use Rattle.sim_1_applications.specs.Answers.{following, last_in, is_position, edge, size}
use Rattle.sim_1_applications.specs.Events.{number_or_none, is_number_among, is_broken}
use Rattle.sim_1_applications.specs.Kept.{IsPosition, AreRuns, AreLogged}
use Rattle.sim_1_applications.proofs.Intervals.{length_after, after_append, last_after, none_among, among_append}

-- the last number of a run
pub last_of_run : (from : ℕ) (n : ℕ) (run : List ℕ) → n ∷ run ≡ following from (length (n ∷ run)) → last_in (n ∷ run) ≡ Some (from + length (n ∷ run))
last_of_run from n run is = ap last_in is ∙ last_after from (length run)

pub number_of_run : (from : ℕ) (run : List ℕ) → run ≡ following from (length run) → number_or_none (last_in run) ≤ from + length run
number_of_run from [] is = omega arith
number_of_run from (n ∷ run) is = let e = ap number_or_none (last_of_run from n run is) in omega arith

pub runs_push : (low from high : ℕ) (runs : List (List ℕ)) (run : List ℕ) → AreRuns low from runs → run ≡ following from (length run) → 1 ≤ length run → from + length run ≤ high →
    AreRuns low high (runs ++ run ∷ [])
runs_push low from high [] run known is some through = (from, known, some, is, through)
runs_push low from high (r ∷ runs) run known is some through = (known.0, known.1, known.2, known.3, runs_push (known.0 + length r) from high runs run known.4 is some through)

-- above all runs
high_of : (low high : ℕ) (runs : List (List ℕ)) → AreRuns low high runs → low ≤ high
high_of low high [] known = known
high_of low high (r ∷ runs) known = let below = known.1 in let more = high_of (known.0 + length r) high runs known.4 in omega arith

above_runs : (low high m : ℕ) (runs : List (List ℕ)) → AreRuns low high runs → high < m → is_number_among m (flat_map (λ r. r) runs) ≡ false
above_runs low high m [] known above = refl
above_runs low high m (r ∷ runs) known above =
    let more = high_of (known.0 + length r) high runs known.4 in
    among_append m r (flat_map (λ r. r) runs)
    (ap (is_number_among m) known.3 ∙ none_among m known.0 (length r) (inr (omega arith)))
    (above_runs (known.0 + length r) high m runs known.4 above)

pub above_log : (first last m : ℕ) (broken : List (List ℕ)) (run : List ℕ) (known : AreLogged first last broken run) → known.from + length run < m →
    is_number_among m (flat_map (λ r. r) broken ++ run) ≡ false
above_log first last m broken run known above =
    among_append m (flat_map (λ r. r) broken) run (above_runs 0 known.from m broken known.earlier (omega arith))
    (ap (is_number_among m) known.is_run ∙ none_among m known.from (length run) (inr above))

-- the log behind a page with its results
abbrev pub broken_after : Option ℕ → List (List ℕ) → List ℕ → List ℕ → List (List ℕ)
broken_after after broken run results = cond (is_broken after run results) (broken ++ run ∷ []) broken

abbrev pub run_after : Option ℕ → List ℕ → List ℕ → List ℕ
run_after after run results = cond (is_broken after run results) results (run ++ results)

pub record IsTaken (first last after_edge k : ℕ) (broken : List (List ℕ)) (run : List ℕ) (broken2 : List (List ℕ)) (run2 : List ℕ) : Type 0 where
  pub logged : AreLogged first last broken2 run2
  pub top : after_edge + k ≤ logged.from + length run2
  pub empty : run2 ≡ [] → (after_edge + 1 ≡ first) × (k ≡ 0)
  pub new : (m : ℕ) → after_edge < m → is_number_among m (flat_map (λ r. r) broken ++ run) ≡ false

-- the log was empty
taken_first : (first last low k : ℕ) (broken : List (List ℕ)) → broken ≡ [] → low + 1 ≡ first → low + k ≤ last → IsTaken first last low k broken [] broken (following low k)
taken_first first last low k broken none below through =
    let long = length_after low k in
    record {
      logged = record {
        from = low;
        is_run = ap (following low) (sym long);
        through = omega arith;
        reaches = λ n at. head k n at;
        earlier = subst (AreRuns 0 low) (sym none) (let z : 0 ≤ low = omega arith in z);
        none = λ _. none;
      };
      top = omega arith;
      empty = λ e. (below, let z = ap length e in omega arith);
      new = λ m high. subst (λ b. is_number_among m (flat_map (λ r. r) b ++ []) ≡ false) (sym none) refl;
    }
  where
    head : (j n : ℕ) → slice_get (following low j) 0 ≡ Some n → n ≤ first
    head zero n at = absurd (let bad : ⊥ = cc in bad)
    head (suc j) n at = let e : suc low ≡ n = cc in omega arith

-- the run goes on
taken_on : (first last k n : ℕ) (broken : List (List ℕ)) (run : List ℕ) (known : AreLogged first last broken (n ∷ run)) → known.from + length (n ∷ run) + k ≤ last →
    IsTaken first last (known.from + length (n ∷ run)) k broken (n ∷ run) broken ((n ∷ run) ++ following (known.from + length (n ∷ run)) k)
taken_on first last k n broken run known through =
    let more = following (known.from + length (n ∷ run)) k in
    let long = length_after (known.from + length (n ∷ run)) k in
    let both = length-append (n ∷ run) more in
    let whole : (n ∷ run) ++ more ≡ following known.from (length ((n ∷ run) ++ more)) =
    ap (λ l. l ++ more) known.is_run ∙ sym (after_append known.from (length (n ∷ run)) k)
    ∙ (let e : length (n ∷ run) + k ≡ length ((n ∷ run) ++ more) = omega arith in ap (following known.from) e) in
    record {
      logged = record {
        from = known.from;
        is_run = whole;
        through = omega arith;
        reaches = known.reaches;
        earlier = known.earlier;
        none = λ (e : n ∷ (run ++ more) ≡ []). absurd (let bad : ⊥ = cc in bad);
      };
      top = omega arith;
      empty = λ e. absurd (let bad : ⊥ = cc in bad);
      new = λ m high. above_log first last m broken (n ∷ run) known high;
    }

-- a new run begins
taken_anew : (first last low k n : ℕ) (broken : List (List ℕ)) (run : List ℕ) (known : AreLogged first last broken (n ∷ run)) → known.from + length (n ∷ run) ≤ low → low < first → low + suc k ≤ last →
    IsTaken first last low (suc k) broken (n ∷ run) (broken ++ (n ∷ run) ∷ []) (following low (suc k))
taken_anew first last low k n broken run known above below through =
    let long = length_after low (suc k) in
    record {
      logged = record {
        from = low;
        is_run = ap (following low) (sym long);
        through = omega arith;
        reaches = λ m at. let e : suc low ≡ m = cc in omega arith;
        earlier = runs_push 0 known.from low broken (n ∷ run) known.earlier known.is_run (omega arith) above;
        none = λ e. absurd (let bad : ⊥ = cc in bad);
      };
      top = omega arith;
      empty = λ e. absurd (let bad : ⊥ = cc in bad);
      new = λ m high. above_log first last m broken (n ∷ run) known (omega arith);
    }

-- A page of an answer goes behind the log.
pub taken : (keep first last afirst alast max : ℕ) (broken : List (List ℕ)) (run : List ℕ) (after : Option ℕ) → AreLogged first last broken run → IsPosition afirst run after →
    is_position afirst alast after ≡ true → afirst ≡ first_of keep alast → 1 ≤ keep → 1 ≤ max → afirst ≡ first → alast ≤ last →
    IsTaken first last (edge afirst after) (size (edge afirst after) alast max) broken run
    (broken_after after broken run (following (edge afirst after) (size (edge afirst after) alast max))) (run_after after run (following (edge afirst after) (size (edge afirst after) alast max)))
taken keep first last afirst alast max broken [] None known position is begun some most low high =
    taken_first first last (afirst - 1) (size (afirst - 1) alast max) broken (known.none refl) (omega arith) (omega arith)
taken keep first last afirst alast max broken [] (Some m) known position is begun some most low high =
    absurd (elim position.following [ inl e ↦ (let bad : ⊥ = cc in bad) | inr e ↦ (let w = e.0 in let bad : ⊥ = cc in bad) ])
taken keep first last afirst alast max broken (n ∷ run) (Some m) known position is begun some most low high =
    elim position.following [
      | inr e ↦ absurd (let w = e.0 in let bad : ⊥ = cc in bad)
      | inl e ↦
          let same : m ≡ known.from + length (n ∷ run) = ap number_or_none (e ∙ last_of_run known.from n run known.is_run) in
          let kept : m ≤ alast = within_position is in
          subst (λ p. IsTaken first last p (size p alast max) broken (n ∷ run) broken ((n ∷ run) ++ following p (size p alast max))) (sym same)
          (taken_on first last (size (known.from + length (n ∷ run)) alast max) n broken run known (omega arith))
    ]
  where
    within_position : (nat_le afirst m && nat_le m alast) ≡ true → m ≤ alast
    within_position e = leb-true m alast ((and_parts (nat_le afirst m) (nat_le m alast) e).1)
taken keep first last afirst alast max broken (n ∷ run) None known position is begun some most low high =
    anew (size (afirst - 1) alast max) refl
  where
    purged : number_or_none (last_in (n ∷ run)) < afirst
    purged = elim position.following [ inl e ↦ absurd (let w = last_of_run known.from n run known.is_run in let bad : ⊥ = cc in bad) | inr e ↦ e.1 ]

    above : known.from + length (n ∷ run) ≤ afirst - 1
    above = let p = purged in let e = ap number_or_none (last_of_run known.from n run known.is_run) in omega arith

    anew : (k : ℕ) → k ≡ size (afirst - 1) alast max → IsTaken first last (afirst - 1) k broken (n ∷ run)
        (broken_after None broken (n ∷ run) (following (afirst - 1) k)) (run_after None (n ∷ run) (following (afirst - 1) k))
    anew zero short = absurd (let p = purged in let e = ap number_or_none (last_of_run known.from n run known.is_run) in omega arith)
    anew (suc k) short = let p = above in taken_anew first last (afirst - 1) k n broken run known above (omega arith) (omega arith)

-- the archive grows
pub logged_grows : (first last first2 last2 : ℕ) (broken : List (List ℕ)) (run : List ℕ) → first ≤ first2 → last ≤ last2 → AreLogged first last broken run → AreLogged first2 last2 broken run
logged_grows first last first2 last2 broken run low high known = record {
  from = known.from;
  is_run = known.is_run;
  through = let t = known.through in omega arith;
  reaches = λ n at. let r = known.reaches n at in omega arith;
  earlier = known.earlier;
  none = known.none;
}

-- the log as it was when the page was asked for
pub logged_then : (first last afirst alast : ℕ) (broken : List (List ℕ)) (run : List ℕ) → AreLogged first last broken run → ((n : ℕ) → slice_get run 0 ≡ Some n → n ≤ afirst) →
    number_or_none (last_in run) ≤ alast → AreLogged afirst alast broken run
logged_then first last afirst alast broken [] known reaches below = record {
  from = 0;
  is_run = refl;
  through = omega arith;
  reaches = reaches;
  earlier = subst (AreRuns 0 0) (sym (known.none refl)) (let z : 0 ≤ 0 = omega arith in z);
  none = known.none;
}
logged_then first last afirst alast broken (n ∷ run) known reaches below = record {
  from = known.from;
  is_run = known.is_run;
  through = let e = ap number_or_none (last_of_run known.from n run known.is_run) in omega arith;
  reaches = reaches;
  earlier = known.earlier;
  none = known.none;
}
