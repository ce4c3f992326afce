-- The laws of version 2 hold of a right report of a wire schedule whose archives keep two entries: with two sessions of a
-- device, a message of unknown fate, one that waits, a refused line, a page under way, held messages, and a break where
-- entries were purged between two pages.
use Rattle.std.proofs.Common.{◌≡◌, ◌≢◌, ℕ, ◌+◌, ◌^◌, ◌≤◌, ◌<◌, add-one, [], ◌∷◌, Some, None, length, refl, sym, codes, arith, inl, inr}
use Rattle.std.proofs.lemmas.Bool.{false≢true}
use Rattle.std.proofs.lemmas.Option.{none-some, same_Some}
use Rattle.std.specs.Fmt.{digits}
use Rattle.std.specs.List.Sorted.{IsNonDecreasing}
use Rattle.mam_archive.proofs.IdDigits.{id_of_same}
use Rattle.mam_archive.specs.Ids.{id_of}
use Rattle.mam_archive.specs.declared.archive.TheConstants.{GREATEST_NUMBER}
use Rattle.base_lemmas.specs.Hexadecimal.{hex16_of}
use Rattle.mam_pages.specs.Kept.{first_number, last_number}
use Rattle.cmd_report.specs.Lawful.{AreOutcomes, IsAcknowledgedRight, IsOfSchedule, IsOnceInOrder, Passes, last_logged}
use Rattle.cmd_report.specs.LawfulRuns.{ArePagesOfRuns, EndsWhole, IsFirstNumber, IsFreshTo, IsGivenBy, IsInForm, IsKeptWhenAsked, IsLastNumber, IsLoggedInRuns, IsOldestKept, IsPagedInRuns, IsPurgedBy, IsRunsOf, IsTakenAndKept, KeepsLaws, lines_of_page, logged_before}
use Rattle.cmd_report.specs.Reports.{DeviceView}
use Rattle.cmd_report.specs.Worlds.{ReportWorld}
use Rattle.cmd_report.specs.declared.report.RefusedWhy.TheVariants.{NotBound}
use Rattle.cmd_schedule.specs.declared.schedule.Version.TheVariants.{Two}
use Rattle.test_commands.proofs.EachOf.{EachMove, not_falling, one_at, one_move}
use Rattle.test_commands.proofs.RunReports.{of_a, of_b, p_right, q_right, right, run_lines, run_schedule, s, said_by_p, said_by_q, worlds, x, z}

form : IsInForm (Two 2) right
form = record {
  is = refl;
  moments = (refl, (refl, (refl, (refl, (refl, (refl, tt))))));
  lasts = λ told. absurd (false≢true (sym told));
  unbroken = λ told. absurd (false≢true (sym told));
}

of_schedule : IsOfSchedule run_schedule right
of_schedule = record {
  mode = refl;
  accounts = refl;
  devices = refl;
  counts = (refl, (refl, tt));
  conns = λ direct. absurd (false≢true (sym direct));
}

-- Law 1.

moments_right : IsNonDecreasing (10 ∷ 20 ∷ 30 ∷ 30 ∷ 40 ∷ 50 ∷ [])
moments_right =
    not_falling (10 ∷ 20 ∷ 30 ∷ 30 ∷ 40 ∷ 50 ∷ []) (
      (omega arith, (omega arith, (omega arith, (omega arith, (omega arith, tt))))),
      (
        (omega arith, (omega arith, (omega arith, (omega arith, tt)))),
        ((omega arith, (omega arith, (omega arith, tt))), ((omega arith, (omega arith, tt)), ((omega arith, tt), (tt, tt)))),
      ),
    )

said_right_p : AreOutcomes (codes "p") run_lines said_by_p (record { line = 16; why = NotBound } ∷ [])
said_right_p = inl (inl (refl, refl, inl (refl, refl, inl (refl, refl, inl (refl, refl, inl (refl, refl, inr (refl, (refl, refl))))))))

said_right_q : AreOutcomes (codes "q") run_lines said_by_q []
said_right_q = inl (refl, refl, inl (inl (refl, refl, inl (refl, refl))))

law_1 : IsTakenAndKept 2 run_schedule right
unfolding digits hex16_of
law_1 = record {
  whole = of_schedule;
  archives = (record { entries = refl; last = refl }, (record { entries = refl; last = refl }, tt));
  moments = moments_right;
  submitted = (refl, (refl, (refl, (refl, (refl, (refl, tt))))));
  exist = (refl, (refl, (refl, (refl, (refl, (refl, tt))))));
  numbered = (
    (refl, (inl (refl, refl), (inr (omega arith, refl), (inl (refl, refl), (inl (refl, refl), tt))))),
    ((refl, (inl (refl, refl), tt)), tt),
  );
  epochs = (
    ((omega arith, omega arith), ((omega arith, omega arith), ((omega arith, omega arith), ((omega arith, omega arith), ((omega arith, omega arith), tt))))),
    (((omega arith, omega arith), ((omega arith, omega arith), tt)), tt),
  );
  said = (said_right_p, (said_right_q, tt));
}

-- Laws 2 and 3.

law_2 : IsOnceInOrder run_schedule right
law_2 = record {
  whole = of_schedule;
  rise = (
    (
      (inl (omega arith), (inl (omega arith), (inl (omega arith), tt))),
      ((inr (refl, omega arith), (inr (refl, omega arith), tt)), ((inr (refl, omega arith), tt), (tt, tt))),
    ),
    (((inr (refl, omega arith), tt), (tt, tt)), tt),
  );
  gapless = (
    (
      (λ epoch exists later. refl, (λ epoch exists later. refl, (λ epoch exists later. refl, (λ epoch exists later. refl, tt)))),
      (
        (λ epoch. absurd (omega arith), (λ epoch. absurd (omega arith), (λ epoch. absurd (omega arith), tt))),
        (
          (λ epoch exists later. refl, (λ epoch exists later. refl, tt)),
          ((λ epoch exists later. refl, tt), (tt, tt)),
        ),
      ),
    ),
    (((λ epoch exists later. refl, tt), (tt, tt)), tt),
  );
}

law_3 : IsAcknowledgedRight run_schedule right
law_3 = record {
  whole = of_schedule;
  taken = (
    (
      λ acknowledged exists. refl,
      (
        λ acknowledged. absurd (cc acknowledged),
        (λ acknowledged exists. refl, (λ acknowledged exists. refl, (λ acknowledged. absurd (cc acknowledged), tt))),
      ),
    ),
    ((λ acknowledged exists. refl, (λ acknowledged exists. refl, tt)), tt),
  );
  first = (
    (
      (λ epoch later. refl, (λ epoch later. refl, (λ epoch later. refl, (λ epoch later. refl, tt)))),
      (
        (λ epoch. absurd (omega arith), (λ epoch. absurd (omega arith), (λ epoch. absurd (omega arith), tt))),
        (
          (λ epoch later. refl, (λ epoch later. refl, tt)),
          ((λ epoch later. refl, tt), (tt, tt)),
        ),
      ),
    ),
    (((λ epoch later. refl, tt), (tt, tt)), tt),
  );
  settled = (λ yes. absurd (false≢true yes), (λ yes. absurd (false≢true yes), tt));
  direct = λ direct. absurd (false≢true (sym direct));
}

-- Law 4.

p_runs : IsRunsOf 2 of_a p_right
unfolding digits hex16_of
p_runs = record {
  entries = [];
  lines = refl;
  each = tt;
  runs = tt;
  kept = (λ low. absurd (omega (arith, low)), (λ low. absurd (omega (arith, low)), tt));
  apart = (tt, tt);
  held = (refl, tt);
}

q_runs : IsRunsOf 2 of_b q_right
unfolding digits hex16_of
q_runs = record {
  entries = x 1 ∷ z 3 ∷ s 4 ∷ [];
  lines = refl;
  each = (refl, (refl, (refl, tt)));
  runs = (refl, (omega arith, λ unbroken. absurd (false≢true (sym unbroken)), (omega arith, λ unbroken. refl, tt)));
  kept = (λ low. refl, (λ low. absurd (omega (arith, low)), tt));
  apart = (tt, tt);
  held = (refl, tt);
}

law_4 : IsLoggedInRuns 2 run_schedule right
unfolding digits hex16_of
law_4 = record { whole = of_schedule; runs = (p_runs, (q_runs, tt)) }

-- Law 5.

-- the ids of different numbers differ
last_of : (n last : ℕ) → n ≤ GREATEST_NUMBER → IsLastNumber (Some (id_of n)) last → n ≡ last
last_of n last low is = id_of_same n last (omega (arith, low)) (omega (arith, is.1)) is.2

-- the moves at which the page was asked for, and those at which it was taken over
abbrev Asks : DeviceView → ℕ → ℕ → ReportWorld → ReportWorld → Type 0
Asks d k last before after = Passes k (before.asked d.name) (after.asked d.name) → last_number (before.archive d.account) ≤ last

abbrev Takes : DeviceView → ℕ → ℕ → ReportWorld → ReportWorld → Type 0
Takes d k last before after = Passes k (length (before.pages d.name)) (length (after.pages d.name)) → last ≤ last_number (after.archive d.account)

abbrev AsksKept : DeviceView → ℕ → ℕ → ReportWorld → ReportWorld → Type 0
AsksKept d k first before after = Passes k (before.asked d.name) (after.asked d.name) → first_number (before.archive d.account) ≤ first

abbrev TakesOldest : DeviceView → ℕ → ℕ → ReportWorld → ReportWorld → Type 0
TakesOldest d k first before after = Passes k (length (before.pages d.name)) (length (after.pages d.name)) → first ≤ first_number (after.archive d.account)

abbrev Purges : DeviceView → ℕ → ℕ → ReportWorld → ReportWorld → Type 0
Purges d k last before after = Passes k (length (before.pages d.name)) (length (after.pages d.name)) → last < first_number (after.archive d.account)

fresh_by_moves : (d : DeviceView) (k last : ℕ) → EachMove (Asks d k last) worlds → EachMove (Takes d k last) worlds → IsFreshTo worlds d k last
fresh_by_moves d k last asks takes i j asking asked taking taken at_asking at_asked passes at_taking at_taken over = (
  one_move (Asks d k last) worlds asks i asking asked at_asking (rw (add-one i) at at_asked) passes,
  one_move (Takes d k last) worlds takes j taking taken at_taking (rw (add-one j) at at_taken) over,
)

purged_by_moves : (d : DeviceView) (k last : ℕ) → EachMove (Purges d k last) worlds → IsPurgedBy worlds d k last
purged_by_moves d k last moves j taking taken at_taking at_taken over =
    one_move (Purges d k last) worlds moves j taking taken at_taking (rw (add-one j) at at_taken) over

oldest_by_moves : (d : DeviceView) (k first : ℕ) → EachMove (AsksKept d k first) worlds → EachMove (TakesOldest d k first) worlds → IsOldestKept worlds d k first
oldest_by_moves d k first asks takes i j asking asked taking taken at_asking at_asked passes at_taking at_taken over = (
  one_move (AsksKept d k first) worlds asks i asking asked at_asking (rw (add-one i) at at_asked) passes,
  one_move (TakesOldest d k first) worlds takes j taking taken at_taking (rw (add-one j) at at_taken) over,
)

kept_by_moves : (d : DeviceView) (k last : ℕ) → EachMove (AsksKept d k last) worlds → IsKeptWhenAsked worlds d k last
kept_by_moves d k last asks i asking asked at_asking at_asked passes =
    one_move (AsksKept d k last) worlds asks i asking asked at_asking (rw (add-one i) at at_asked) passes

given_by_moves : (d : DeviceView) (k last : ℕ) → EachMove (Takes d k last) worlds → IsGivenBy worlds d k last
given_by_moves d k last takes j taking taken at_taking at_taken over =
    one_move (Takes d k last) worlds takes j taking taken at_taking (rw (add-one j) at at_taken) over

p_fresh : IsFreshTo worlds p_right 0 0
p_fresh =
    fresh_by_moves p_right 0 0
    (λ p. omega (arith, p), (λ p. omega (arith, p.0), (λ p. omega (arith, p.0), (λ p. omega (arith, p.0), (λ p. omega (arith, p.0), (λ p. omega (arith, p.0), (λ p. omega (arith, p.0), (λ p. omega (arith, p.0), (λ p. omega (arith, p.0), (λ p. omega (arith, p.0), (λ p. omega (arith, p.0), (λ p. omega (arith, p.0), tt))))))))))))
    (λ p. omega arith, (λ p. omega arith, (λ p. omega arith, (λ p. omega arith, (λ p. omega arith, (λ p. omega arith, (λ p. omega arith, (λ p. omega arith, (λ p. omega arith, (λ p. omega arith, (λ p. omega arith, (λ p. omega arith, tt))))))))))))

q_fresh : IsFreshTo worlds q_right 2 4
q_fresh =
    fresh_by_moves q_right 2 4
    (λ p. omega arith, (λ p. omega arith, (λ p. omega arith, (λ p. omega arith, (λ p. omega arith, (λ p. omega arith, (λ p. omega arith, (λ p. omega arith, (λ p. omega arith, (λ p. omega arith, (λ p. omega arith, (λ p. omega (arith, p.0), tt))))))))))))
    (λ p. omega (arith, p.1), (λ p. omega (arith, p.1), (λ p. omega (arith, p.1), (λ p. omega (arith, p.1), (λ p. omega (arith, p.1), (λ p. omega (arith, p.1), (λ p. omega (arith, p.1), (λ p. omega (arith, p.1), (λ p. omega (arith, p.1), (λ p. omega arith, (λ p. omega arith, (λ p. omega arith, tt))))))))))))

q_purged : IsPurgedBy worlds q_right 1 1
q_purged =
    purged_by_moves q_right 1 1
    (λ p. omega (arith, p.1), (λ p. omega (arith, p.1), (λ p. omega (arith, p.1), (λ p. omega (arith, p.1), (λ p. omega (arith, p.1), (λ p. omega (arith, p.1), (λ p. omega (arith, p.1), (λ p. omega arith, (λ p. omega arith, (λ p. omega arith, (λ p. omega arith, (λ p. omega arith, tt))))))))))))

-- its first page begins with x, its second with z
q_oldest_first : IsOldestKept worlds q_right 0 1
q_oldest_first =
    oldest_by_moves q_right 0 1
    (λ p. omega arith, (λ p. omega arith, (λ p. omega arith, (λ p. omega arith, (λ p. omega arith, (λ p. omega (arith, p.0), (λ p. omega (arith, p.0), (λ p. omega (arith, p.0), (λ p. omega (arith, p.0), (λ p. omega (arith, p.0), (λ p. omega (arith, p.0), (λ p. omega (arith, p.0), tt))))))))))))
    (λ p. omega arith, (λ p. omega arith, (λ p. omega arith, (λ p. omega arith, (λ p. omega arith, (λ p. omega arith, (λ p. omega arith, (λ p. omega arith, (λ p. omega arith, (λ p. omega arith, (λ p. omega arith, (λ p. omega arith, tt))))))))))))

q_oldest_second : IsOldestKept worlds q_right 1 3
q_oldest_second =
    oldest_by_moves q_right 1 3
    (λ p. omega arith, (λ p. omega arith, (λ p. omega arith, (λ p. omega arith, (λ p. omega arith, (λ p. omega arith, (λ p. omega arith, (λ p. omega arith, (λ p. omega arith, (λ p. omega arith, (λ p. omega arith, (λ p. omega (arith, p.0), tt))))))))))))
    (λ p. omega (arith, p.1), (λ p. omega (arith, p.1), (λ p. omega (arith, p.1), (λ p. omega (arith, p.1), (λ p. omega (arith, p.1), (λ p. omega (arith, p.1), (λ p. omega (arith, p.1), (λ p. omega arith, (λ p. omega arith, (λ p. omega arith, (λ p. omega arith, (λ p. omega arith, tt))))))))))))

-- its third was asked for behind z
q_after : IsKeptWhenAsked worlds q_right 2 3
q_after = kept_by_moves q_right 2 3 (λ p. omega arith, (λ p. omega arith, (λ p. omega arith, (λ p. omega arith, (λ p. omega arith, (λ p. omega arith, (λ p. omega arith, (λ p. omega arith, (λ p. omega arith, (λ p. omega arith, (λ p. omega arith, (λ p. omega (arith, p.0), tt))))))))))))

p_given : IsGivenBy worlds p_right 0 0
p_given = given_by_moves p_right 0 0 (λ p. omega arith, (λ p. omega arith, (λ p. omega arith, (λ p. omega arith, (λ p. omega arith, (λ p. omega arith, (λ p. omega arith, (λ p. omega arith, (λ p. omega arith, (λ p. omega arith, (λ p. omega arith, (λ p. omega arith, tt))))))))))))

q_given_first : IsGivenBy worlds q_right 0 1
q_given_first = given_by_moves q_right 0 1 (λ p. omega (arith, p.1), (λ p. omega (arith, p.1), (λ p. omega (arith, p.1), (λ p. omega (arith, p.1), (λ p. omega arith, (λ p. omega arith, (λ p. omega arith, (λ p. omega arith, (λ p. omega arith, (λ p. omega arith, (λ p. omega arith, (λ p. omega arith, tt))))))))))))

q_given_second : IsGivenBy worlds q_right 1 3
q_given_second = given_by_moves q_right 1 3 (λ p. omega (arith, p.1), (λ p. omega (arith, p.1), (λ p. omega (arith, p.1), (λ p. omega (arith, p.1), (λ p. omega (arith, p.1), (λ p. omega (arith, p.1), (λ p. omega (arith, p.1), (λ p. omega arith, (λ p. omega arith, (λ p. omega arith, (λ p. omega arith, (λ p. omega arith, tt))))))))))))

q_given_third : IsGivenBy worlds q_right 2 4
q_given_third = given_by_moves q_right 2 4 (λ p. omega (arith, p.1), (λ p. omega (arith, p.1), (λ p. omega (arith, p.1), (λ p. omega (arith, p.1), (λ p. omega (arith, p.1), (λ p. omega (arith, p.1), (λ p. omega (arith, p.1), (λ p. omega (arith, p.1), (λ p. omega (arith, p.1), (λ p. omega arith, (λ p. omega arith, (λ p. omega arith, tt))))))))))))

first_of : (n first : ℕ) → n ≤ GREATEST_NUMBER → first ≤ GREATEST_NUMBER → id_of n ≡ id_of first → n ≡ first
first_of n first low high same = id_of_same n first (omega (arith, low)) (omega (arith, high)) same

p_paged : ArePagesOfRuns 2 worlds run_schedule of_a p_right
unfolding digits hex16_of
p_paged = record {
  tiles = (inl refl, omega arith, λ none. absurd (none-some 0 (sym none)), λ anew. absurd (false≢true anew), tt, refl);
  distinct = tt;
  complete = λ k total page here told.
      one_at (λ k page. (total : ℕ) → page.total ≡ Some total → EndsWhole 2 of_a (logged_before (k + 1) p_right) total) 0 p_right.pages
      (λ total is. rw (← same_Some 0 total is) (record { last = 0; number = refl; many = refl; entries = refl }), tt)
      k k page here (omega arith) total told;
  fresh = λ k total last page here told is.
      one_at (λ k page. (last : ℕ) → IsLastNumber (last_logged (logged_before (k + 1) p_right)) last → IsFreshTo worlds p_right k last) 0 p_right.pages
      (λ last is. rw (is) p_fresh, tt)
      k k page here (omega arith) last is;
  purged = λ k last page here none some one is.
      one_at (λ k page. (last : ℕ) → 0 < page.count → IsPurgedBy worlds p_right k last) 0 p_right.pages
      (λ last some. absurd (omega (arith, some)), tt)
      k k page here (omega arith) last some;
  oldest = λ k first page here none is.
      one_at (λ k page. (first : ℕ) → IsFirstNumber (lines_of_page k p_right) first → IsOldestKept worlds p_right k first) 0 p_right.pages
      (λ first is. absurd is, tt)
      k k page here (omega arith) first is;
  following = λ k last page here one is.
      one_at (λ k page. (last : ℕ) → 1 ≤ last → IsLastNumber page.after last → IsKeptWhenAsked worlds p_right k last) 0 p_right.pages
      (λ last one is. absurd (omega (arith, one, is)), tt)
      k k page here (omega arith) last one is;
  known = λ k last page here is.
      one_at (λ k page. (last : ℕ) → IsLastNumber (last_logged (logged_before (k + 1) p_right)) last → IsGivenBy worlds p_right k last) 0 p_right.pages
      (λ last is. rw (is) p_given, tt)
      k k page here (omega arith) last is;
  last = refl;
  answered = λ direct. absurd (false≢true (sym direct));
}

differ : (m n : ℕ) → m < 2 ^ 64 → n < 2 ^ 64 → m ≢ n → id_of m ≢ id_of n
differ m n low high apart same = apart (id_of_same m n low high same)

q_paged : ArePagesOfRuns 2 worlds run_schedule of_b q_right
unfolding digits hex16_of
q_paged = record {
  tiles = (
    inl refl,
    omega arith,
    λ none. omega arith,
    λ anew. omega arith,
    (refl, tt),
    (
      inl refl,
      omega arith,
      λ none. omega arith,
      λ anew. omega arith,
      (refl, tt),
      (inr refl, omega arith, λ none. omega arith, λ anew. omega arith, (refl, tt), refl),
    ),
  );
  distinct = (
    (differ 1 3 (omega arith) (omega arith) (λ e. omega (arith, e)), (differ 1 4 (omega arith) (omega arith) (λ e. omega (arith, e)), tt)),
    ((differ 3 4 (omega arith) (omega arith) (λ e. omega (arith, e)), tt), (tt, tt)),
  );
  complete = λ k total page here told.
      one_at (λ k page. (total : ℕ) → page.total ≡ Some total → EndsWhole 2 of_b (logged_before (k + 1) q_right) total) 0 q_right.pages (
        λ total is. absurd (none-some total is),
        (
          λ total is. absurd (none-some total is),
          (λ total is. rw (← same_Some 2 total is) (record { last = 4; number = (omega arith, omega arith, refl); many = refl; entries = refl }), tt),
        ),
      )
      k k page here (omega arith) total told;
  fresh = λ k total last page here told is.
      one_at (λ k page. (total last : ℕ) → page.total ≡ Some total → IsLastNumber (last_logged (logged_before (k + 1) q_right)) last → IsFreshTo worlds q_right k last) 0 q_right.pages (
        λ total last told is. absurd (none-some total told),
        (
          λ total last told is. absurd (none-some total told),
          (λ total last told is. rw (← last_of 4 last (omega arith) is) q_fresh, tt),
        ),
      )
      k k page here (omega arith) total last told is;
  purged = λ k last page here none some one is.
      one_at (λ k page. (last : ℕ) → page.after ≡ None → 1 ≤ last → IsLastNumber (last_logged (logged_before k q_right)) last → IsPurgedBy worlds q_right k last) 0 q_right.pages (
        λ last none one is. absurd (omega (arith, one, is)),
        (
          λ last none one is. rw (← last_of 1 last (omega arith) is) q_purged,
          (λ last none one is. absurd (none-some (id_of 3) (sym none)), tt),
        ),
      )
      k k page here (omega arith) last none one is;
  oldest = λ k first page here none is.
      one_at (λ k page. (first : ℕ) → page.after ≡ None → IsFirstNumber (lines_of_page k q_right) first → IsOldestKept worlds q_right k first) 0 q_right.pages (
        λ first none is. rw (← first_of 1 first (omega arith) is.1 is.2) q_oldest_first,
        (
          λ first none is. rw (← first_of 3 first (omega arith) is.1 is.2) q_oldest_second,
          (λ first none is. absurd (none-some (id_of 3) (sym none)), tt),
        ),
      )
      k k page here (omega arith) first none is;
  following = λ k last page here one is.
      one_at (λ k page. (last : ℕ) → 1 ≤ last → IsLastNumber page.after last → IsKeptWhenAsked worlds q_right k last) 0 q_right.pages (
        λ last one is. absurd (omega (arith, one, is)),
        (
          λ last one is. absurd (omega (arith, one, is)),
          (λ last one is. rw (← last_of 3 last (omega arith) is) q_after, tt),
        ),
      )
      k k page here (omega arith) last one is;
  known = λ k last page here is.
      one_at (λ k page. (last : ℕ) → IsLastNumber (last_logged (logged_before (k + 1) q_right)) last → IsGivenBy worlds q_right k last) 0 q_right.pages (
        λ last is. rw (← last_of 1 last (omega arith) is) q_given_first,
        (
          λ last is. rw (← last_of 3 last (omega arith) is) q_given_second,
          (λ last is. rw (← last_of 4 last (omega arith) is) q_given_third, tt),
        ),
      )
      k k page here (omega arith) last is;
  last = refl;
  answered = λ direct. absurd (false≢true (sym direct));
}

law_5 : IsPagedInRuns 2 worlds run_schedule right
unfolding digits hex16_of
law_5 = record { whole = of_schedule; pages = (p_paged, (q_paged, tt)) }

lawful : KeepsLaws worlds run_schedule right
lawful = record { form = form; laws = record { taken = law_1; in_order = law_2; acknowledged = law_3; logged = law_4; paged = law_5 } }
