-- What a change leaves of the rows that the table keeps by number, and of the list of the numbers.
use Rattle.std.proofs.Common.{◌≡◌, ℕ, zero, suc, ◌+◌, ◌-◌, ◌^◌, ◌<◌, ◌≤◌, Bool, true, false, not, cond, drop, List, [], ◌∷◌, ◌++◌, Option, Some, None, Result, Ok, Err, length, get_or, map, refl, sym, ap, subst, ◌∙◌, arith, inl, inr}
use Rattle.std.specs.Prelude.{MatchOption, IsSome, OnErr, OnOk, nat_eq, nat_lt, is_some, ◌==◌, ◌&&◌}
use Rattle.std.specs.List.{filter, find}
use Rattle.std.specs.Option.{option_map}
use Rattle.std.proofs.lemmas.Bool.{cases_Bool, cases_eq, false≢true}
use Rattle.std.proofs.lemmas.List.{length-map, map_push}
use Rattle.std.proofs.lemmas.List.Elements.{filter-append}
use Rattle.std.proofs.lemmas.Bool.Decides.{nat_tests}
use Rattle.sm_resumption.proofs.RowFacts.{keeps_all, eqb_other, eqb_same, find_no, find_only, number_is, numbers_with, row_of_first, row_of_push_other, row_of_push_same, row_of_rest, row_of_with_other, row_of_with_same, row_of_without_other, row_of_without_same, same_from_eqb, with_row_id}
use Rattle.sm_resumption.proofs.TableFacts.{IsLawfulChange, lawful_kept, table_push, table_with, table_without}
use Rattle.sm_resumption.specs.Moves.{fresh_row, number_of}
use Rattle.sm_resumption.specs.Rows.{IsTable, RisesTo, is_at, is_some_number, row_at, row_named, row_of, with_row, without}
use Rattle.sm_resumption.specs.Stored.{Climbs, IsStored, Meets, ahead_of, collected, passes}
use Rattle.sm_resumption.specs.declared.session.Row.{Row}

pub collects : (next low : ℕ) (get : ℕ → Option Row) (rows : List Row) → RisesTo next low rows → ((n : ℕ) (r : Row) → row_of n rows ≡ Some r → get n ≡ Some r) → collected get (map number_of rows) ≡ rows
collects next low get [] rise has = refl
collects next low get (r ∷ rows) rise has =
    rw (has r.shown.number r (row_of_first r rows))
    (ap (λ t. r ∷ t) (collects next (r.shown.number + 1) get rows rise.1 (λ n s is. has n s (row_of_rest next low n s r rows rise is))))

-- what is kept of a list by a test, where the test is another with the same answers
pub filter_as : (p q : ℕ → Bool) (numbers : List ℕ) → ((n : ℕ) → p n ≡ q n) → filter p numbers ≡ filter q numbers
filter_as p q [] same = refl
filter_as p q (n ∷ numbers) same = rw (same n, filter_as p q numbers same)

-- one test after the other
pub filter_twice : (p q both : ℕ → Bool) (numbers : List ℕ) → ((n : ℕ) → both n ≡ (p n && q n)) → filter both numbers ≡ filter q (filter p numbers)
filter_twice p q both [] is = refl
filter_twice p q both (n ∷ numbers) is =
    let rest : filter both numbers ≡ filter q (filter p numbers) = filter_twice p q both numbers is in
    elim (cases_Bool (p n)) [
      | inl first ↦
          elim (cases_Bool (q n)) [
            | inl second ↦ rw (is n, first, second) (ap (λ t. n ∷ t) rest)
            | inr second ↦ rw (is n, first, second) rest
          ]
      | inr first ↦ rw (is n, first) rest
    ]

-- the rows of the numbers that live are the rows of all
collected_more : (get : ℕ → Option Row) (n : ℕ) (numbers : List ℕ) (o : Option Row) → get n ≡ o → collected get numbers ≡ collected get (filter (λ m. is_some (get m)) numbers) →
    collected get (n ∷ numbers) ≡ collected get (filter (λ m. is_some (get m)) (n ∷ numbers))
collected_more get n numbers None is rest =
    ap (λ o. ahead_of o (collected get numbers)) is ∙ rest
    ∙ sym (ap (λ o. collected get (cond (is_some o) (n ∷ filter (λ m. is_some (get m)) numbers) (filter (λ m. is_some (get m)) numbers))) is)
collected_more get n numbers (Some r) is rest =
    ap (λ o. ahead_of o (collected get numbers)) is ∙ ap (λ t. r ∷ t) rest
    ∙ sym (ap (λ o. ahead_of o (collected get (filter (λ m. is_some (get m)) numbers))) is)
    ∙ sym (ap (λ o. collected get (cond (is_some o) (n ∷ filter (λ m. is_some (get m)) numbers) (filter (λ m. is_some (get m)) numbers))) is)

pub collected_living : (get : ℕ → Option Row) (numbers : List ℕ) → collected get numbers ≡ collected get (filter (λ n. is_some (get n)) numbers)
collected_living get [] = refl
collected_living get (n ∷ numbers) = collected_more get n numbers (get n) refl (collected_living get numbers)

-- the numbers that ascend are at least the first bound, and below the next
pub climbs_order : (next low : ℕ) (numbers : List ℕ) → Climbs next low numbers → low ≤ next
climbs_order next low [] climbing = climbing
climbs_order next low (n ∷ numbers) climbing = let rest : n + 1 ≤ next = climbs_order next (n + 1) numbers climbing.1 in omega arith

climbs_at : (next low k d : ℕ) (numbers : List ℕ) → Climbs next low numbers → k < length numbers → low ≤ get_or numbers k d
climbs_at next low k d [] climbing within = absurd (omega arith)
climbs_at next low zero d (n ∷ numbers) climbing within = climbing.0
climbs_at next low (suc k) d (n ∷ numbers) climbing within =
    let rest : n + 1 ≤ get_or numbers k d = climbs_at next (n + 1) k d numbers climbing.1 (omega arith) in
    omega arith

pub climbs_pair : (next low : ℕ) (numbers : List ℕ) → Climbs next low numbers → (i j d : ℕ) → i ≤ j → j < length numbers → get_or numbers i d ≤ get_or numbers j d
climbs_pair next low [] climbing i j d order within = absurd (omega arith)
climbs_pair next low (n ∷ numbers) climbing zero zero d order within = omega arith
climbs_pair next low (n ∷ numbers) climbing zero (suc j) d order within =
    let rest : n + 1 ≤ get_or numbers j d = climbs_at next (n + 1) j d numbers climbing.1 (omega arith) in
    omega arith
climbs_pair next low (n ∷ numbers) climbing (suc i) zero d order within = absurd (omega arith)
climbs_pair next low (n ∷ numbers) climbing (suc i) (suc j) d order within = climbs_pair next (n + 1) numbers climbing.1 i j d (omega arith) (omega arith)

climbs_weaker : (next low high : ℕ) (numbers : List ℕ) → low ≤ high → Climbs next high numbers → Climbs next low numbers
climbs_weaker next low high [] order climbing = omega arith
climbs_weaker next low high (n ∷ numbers) order climbing = (let bound : high ≤ n = climbing.0 in omega arith, climbing.1)

-- some of them ascend too, and so does a list with the next behind it
pub climbs_filter : (next low : ℕ) (p : ℕ → Bool) (numbers : List ℕ) → Climbs next low numbers → Climbs next low (filter p numbers)
climbs_filter next low p [] climbing = climbing
climbs_filter next low p (n ∷ numbers) climbing =
    let rest : Climbs next (n + 1) (filter p numbers) = climbs_filter next (n + 1) p numbers climbing.1 in
    elim (cases_Bool (p n)) [
      | inl passed ↦ rw passed (climbing.0, rest)
      | inr failed ↦ rw failed (let bound : low ≤ n = climbing.0 in climbs_weaker next low (n + 1) (filter p numbers) (omega arith) rest)
    ]

pub climbs_push : (next low : ℕ) (numbers : List ℕ) → Climbs next low numbers → Climbs (next + 1) low (numbers ++ next ∷ [])
climbs_push next low [] climbing = (climbing, omega arith)
climbs_push next low (n ∷ numbers) climbing = (climbing.0, climbs_push next (n + 1) numbers climbing.1)

-- tests that agree below the next keep the same numbers
pub filter_below : (next low : ℕ) (p q : ℕ → Bool) (numbers : List ℕ) → Climbs next low numbers → ((n : ℕ) → n < next → p n ≡ q n) → filter p numbers ≡ filter q numbers
filter_below next low p q [] climbing same = refl
filter_below next low p q (n ∷ numbers) climbing same =
    let order : n + 1 ≤ next = climbs_order next (n + 1) numbers climbing.1 in
    rw (same n (omega arith), filter_below next (n + 1) p q numbers climbing.1 same)

-- the numbers of the rows but one
pub numbers_without : (n : ℕ) (rows : List Row) → filter (λ m. not (m == n)) (map number_of rows) ≡ map number_of (without n rows)
numbers_without n [] = refl
numbers_without n (r ∷ rows) =
    elim (cases_Bool (r.shown.number == n)) [
      | inl here ↦ rw here (numbers_without n rows)
      | inr other ↦ rw other (ap (λ t. r.shown.number ∷ t) (numbers_without n rows))
    ]

-- what the table shows, and that it is kept
pub record ShownAs (get : ℕ → Option Row) (numbers : List ℕ) (next : ℕ) (rows : List Row) : Type 0 where
  pub shown : collected get numbers ≡ rows
  pub kept : IsStored get numbers next (collected get numbers)

pub shows : (get : ℕ → Option Row) (numbers : List ℕ) (next : ℕ) (rows : List Row) → IsStored get numbers next rows → ShownAs get numbers next rows
shows get numbers next rows stored =
    let shown : collected get numbers ≡ rows = collected_living get numbers ∙ ap (collected get) stored.listed ∙ collects next 1 get rows stored.table.ascending (λ n r is. stored.found n ∙ is) in
    let P : List Row → Type 0 = λ rs. IsStored get numbers next rs in
    record { shown = shown; kept = subst P (sym shown) stored }

-- what a table that is seen keeps
pub opened : (get : ℕ → Option Row) (numbers : List ℕ) (next : ℕ) (rows : List Row) → collected get numbers ≡ rows → IsStored get numbers next (collected get numbers) → IsStored get numbers next rows
opened get numbers next rows shown kept = let P : List Row → Type 0 = λ rs. IsStored get numbers next rs in subst P shown kept

pub same_collected : (f g : ℕ → Option Row) (numbers : List ℕ) → ((n : ℕ) → g n ≡ f n) → collected g numbers ≡ collected f numbers
same_collected f g [] same = refl
same_collected f g (n ∷ numbers) same = rw (same n, same_collected f g numbers same)

pub same_stored : (f g : ℕ → Option Row) (numbers : List ℕ) (next : ℕ) (rows : List Row) → ((n : ℕ) → g n ≡ f n) → IsStored f numbers next rows → IsStored g numbers next rows
same_stored f g numbers next rows same stored = record { listed = filter_as (λ n. is_some (g n)) (λ n. is_some (f n)) numbers (λ n. ap is_some (same n)) ∙ stored.listed; climbing = stored.climbing; found = λ n. same n ∙ stored.found n; table = stored.table }

-- what a change of a row leaves
pub record Changed (n next : ℕ) (f : Row → Row) (x : Row) (get : ℕ → Option Row) (numbers : List ℕ) (rows : List Row) : Type 0 where
  pub found : row_of n rows ≡ Some x
  pub written : collected get numbers ≡ with_row n f rows
  pub kept : IsStored get numbers next (collected get numbers)

pub changed_row : (n next : ℕ) (f : Row → Row) (x y : Row) (old new : ℕ → Option Row) (numbers : List ℕ) (rows : List Row) → collected old numbers ≡ rows → IsStored old numbers next (collected old numbers) →
    Some x ≡ old n → ((q : ℕ) → new q ≡ cond (nat_eq n q) (Some y) (old q)) → y ≡ f x → IsLawfulChange n f rows → Changed n next f x new numbers rows
changed_row n next f x y old new numbers rows seen kept is updates changed lawful =
    let stored : IsStored old numbers next rows = opened old numbers next rows seen kept in
    let found : row_of n rows ≡ Some x = sym (stored.found n) ∙ sym is in
    let each : (q : ℕ) → new q ≡ row_of q (with_row n f rows) = λ q.
    elim (cases_eq q n) [
      | inl same ↦
          let test : nat_eq n q ≡ true = rw same (eqb_same n) in
          let after : row_of q (with_row n f rows) ≡ Some (f x) =
          ap (λ k. row_of k (with_row n f rows)) same ∙ row_of_with_same n f rows lawful.number ∙ ap (option_map f) found in
          updates q ∙ rw test (ap Some changed ∙ sym after)
      | inr other ↦
          let test : nat_eq n q ≡ false = eqb_other n q (λ is. other (sym is)) in
          updates q ∙ rw test (stored.found q ∙ sym (row_of_with_other q n f rows lawful.number other))
    ] in
    let living : (q : ℕ) → is_some (new q) ≡ is_some (old q) = λ q.
    elim (cases_eq q n) [
      | inl same ↦
          let test : nat_eq n q ≡ true = rw same (eqb_same n) in
          let after : new q ≡ Some y = updates q ∙ rw test in
          let before : Some x ≡ old q = is ∙ ap old (sym same) in
          ap is_some after ∙ ap is_some before
      | inr other ↦
          let test : nat_eq n q ≡ false = eqb_other n q (λ is. other (sym is)) in
          let after : new q ≡ old q = updates q ∙ rw test in
          ap is_some after
    ] in
    let end : ShownAs new numbers next (with_row n f rows) =
    shows new numbers next (with_row n f rows)
    (record { listed = filter_as (λ q. is_some (new q)) (λ q. is_some (old q)) numbers living ∙ stored.listed ∙ sym (numbers_with n f rows lawful.number); climbing = stored.climbing; found = each; table = table_with n next f rows lawful stored.table }) in
    record { found = found; written = end.shown; kept = end.kept }

-- a change that is made where a call is well, and isn't where it fails
pub record Tried {T E : Type 0} (r : Result T E) (n next : ℕ) (f : Row → Row) (x : Row) (get : ℕ → Option Row) (numbers : List ℕ) (rows : List Row) : Type 0 where
  pub found : row_of n rows ≡ Some x
  pub ok : OnOk r (collected get numbers ≡ with_row n f rows)
  pub err : OnErr r (collected get numbers ≡ rows)
  pub kept : IsStored get numbers next (collected get numbers)

pub tried_row : {T E : Type 0} (r : Result T E) (n next : ℕ) (f : Row → Row) (x y : Row) (old new : ℕ → Option Row) (numbers : List ℕ) (rows : List Row) → collected old numbers ≡ rows → IsStored old numbers next (collected old numbers) →
    Some x ≡ old n → ((q : ℕ) → new q ≡ cond (nat_eq n q) (Some y) (old q)) → OnOk r (y ≡ f x) → OnErr r (y ≡ x) → IsLawfulChange n f rows → Tried r n next f x new numbers rows
tried_row (Ok v) n next f x y old new numbers rows seen kept is updates ok err lawful =
    let changed = changed_row n next f x y old new numbers rows seen kept is updates ok lawful in
    record { found = changed.found; ok = changed.written; err = tt; kept = changed.kept }
tried_row (Err e) n next f x y old new numbers rows seen kept is updates ok err lawful =
    let table : IsTable rows next = (opened old numbers next rows seen kept).table in
    let changed = changed_row n next (λ s. s) x y old new numbers rows seen kept is updates err
    (lawful_kept n next (λ s. s) rows table keeps_all) in
    record { found = changed.found; ok = tt; err = changed.written ∙ with_row_id n rows; kept = changed.kept }

-- what the removal of a row leaves
pub removed_row : (n next : ℕ) (old new : ℕ → Option Row) (numbers : List ℕ) (rows : List Row) → IsStored old numbers next rows →
    ((q : ℕ) → new q ≡ cond (nat_eq n q) None (old q)) → ShownAs new numbers next (without n rows)
removed_row n next old new numbers rows stored updates =
    let each : (q : ℕ) → new q ≡ row_of q (without n rows) = λ q.
    elim (cases_eq q n) [
      | inl same ↦
          let test : nat_eq n q ≡ true = rw same (eqb_same n) in
          updates q ∙ rw test (sym (ap (λ k. row_of k (without n rows)) same ∙ row_of_without_same n rows))
      | inr other ↦
          let test : nat_eq n q ≡ false = eqb_other n q (λ is. other (sym is)) in
          updates q ∙ rw test (stored.found q ∙ sym (row_of_without_other q n rows other))
    ] in
    let living : (q : ℕ) → is_some (new q) ≡ (is_some (old q) && not (q == n)) = λ q.
    elim (cases_eq q n) [
      | inl same ↦
          let test : nat_eq n q ≡ true = rw same (eqb_same n) in
          let here : (q == n) ≡ true = rw same (eqb_same n) in
          let after : new q ≡ None = updates q ∙ rw test in
          ap is_some after ∙ rw here (sym (and_no (is_some (old q))))
      | inr other ↦
          let test : nat_eq n q ≡ false = eqb_other n q (λ is. other (sym is)) in
          let after : new q ≡ old q = updates q ∙ rw test in
          ap is_some after ∙ rw (eqb_other q n other) (sym (and_yes (is_some (old q))))
    ] in
    shows new numbers next (without n rows)
    (record {
      listed = filter_twice (λ q. is_some (old q)) (λ q. not (q == n)) (λ q. is_some (new q)) numbers living ∙ ap (filter (λ q. not (q == n))) stored.listed ∙ numbers_without n rows;
      climbing = stored.climbing;
      found = each;
      table = table_without n next rows stored.table;
    })
  where
    and_no : (b : Bool) → (b && false) ≡ false
    and_no true = refl
    and_no false = refl

    and_yes : (b : Bool) → (b && true) ≡ b
    and_yes true = refl
    and_yes false = refl

-- what is left where the numbers of sessions that ended are struck off
pub pruned_list : (next : ℕ) (get : ℕ → Option Row) (numbers : List ℕ) (rows : List Row) → IsStored get numbers next rows → ShownAs get (filter (λ n. is_some (get n)) numbers) next rows
pruned_list next get numbers rows stored =
    shows get (filter (λ n. is_some (get n)) numbers) next rows
    (record {
      listed = sym (filter_twice (λ n. is_some (get n)) (λ n. is_some (get n)) (λ n. is_some (get n)) numbers (λ n. and_same (is_some (get n)))) ∙ stored.listed;
      climbing = climbs_filter next 1 (λ n. is_some (get n)) numbers stored.climbing;
      found = stored.found;
      table = stored.table;
    })
  where
    and_same : (b : Bool) → b ≡ (b && b)
    and_same true = refl
    and_same false = refl

-- what a row more leaves
pub pushed_row : (next account conn queue : ℕ) (resource : List ℕ) (old new : ℕ → Option Row) (numbers : List ℕ) (rows : List Row) → IsStored old numbers next rows → next < 2 ^ 64 - 1 →
    row_at conn rows ≡ None → row_named account resource rows ≡ None → ((q : ℕ) → new q ≡ cond (nat_eq next q) (Some (fresh_row next account resource conn queue)) (old q)) →
    ShownAs new (numbers ++ next ∷ []) (next + 1) (rows ++ fresh_row next account resource conn queue ∷ [])
pushed_row next account conn queue resource old new numbers rows stored low free unnamed updates =
    let row : Row = fresh_row next account resource conn queue in
    let each : (q : ℕ) → new q ≡ row_of q (rows ++ row ∷ []) = λ q.
    elim (cases_eq q next) [
      | inl same ↦
          let test : nat_eq next q ≡ true = rw same (eqb_same next) in
          updates q ∙ rw test (sym (ap (λ k. row_of k (rows ++ row ∷ [])) same ∙ row_of_push_same next 1 row rows stored.table.ascending (omega arith)))
      | inr other ↦
          let test : nat_eq next q ≡ false = eqb_other next q (λ is. other (sym is)) in
          updates q ∙ rw test (stored.found q ∙ sym (row_of_push_other q row rows other))
    ] in
    let before : (q : ℕ) → q < next → is_some (new q) ≡ is_some (old q) = λ q below.
    (let test : nat_eq next q ≡ false = eqb_other next q (omega arith) in
    let after : new q ≡ old q = updates q ∙ rw test in
    ap is_some after) in
    let first : new next ≡ Some row = updates next ∙ rw (eqb_same next) in
    let last : is_some (new next) ≡ true = ap is_some first in
    shows new (numbers ++ next ∷ []) (next + 1) (rows ++ row ∷ [])
    (record {
      listed = filter-append (λ q. is_some (new q)) numbers (next ∷ [])
          ∙ ap (λ t. t ++ filter (λ q. is_some (new q)) (next ∷ [])) (filter_below next 1 (λ q. is_some (new q)) (λ q. is_some (old q)) numbers stored.climbing before ∙ stored.listed)
          ∙ ap (λ b. map number_of rows ++ cond b (next ∷ []) []) last ∙ sym (map_push number_of rows row);
      climbing = climbs_push next 1 numbers stored.climbing;
      found = each;
      table = table_push next account conn queue resource rows stored.table low free unnamed;
    })

-- the rows are gone through
pub number_at : (n : ℕ) (r : Row) (rows : List Row) → row_of n rows ≡ Some r → (k : ℕ) × (k < length rows) × (get_or (map number_of rows) k 0 ≡ n)
number_at n r [] is = cc
number_at n r (s ∷ rows) is =
    elim (cases_eq s.shown.number n) [
      | inl same ↦ (0, omega arith, same)
      | inr other ↦
          let rest = number_at n r rows (rw (eqb_other s.shown.number n other) at is) in
          let within : rest.0 < length rows = rest.1 in
          (suc rest.0, omega arith, rest.2)
    ]

-- what a test keeps of a list stands in the list
kept_at : (p : ℕ → Bool) (k : ℕ) (numbers : List ℕ) → k < length (filter p numbers) → (j : ℕ) × (j < length numbers) × (get_or numbers j 0 ≡ get_or (filter p numbers) k 0)
kept_at p k [] within = absurd (omega arith)
kept_at p k (n ∷ numbers) within = kept_more n numbers (filter p numbers) (p n) k within (λ l inside. kept_at p l numbers inside)
  where
    kept_more : (n : ℕ) (numbers kept : List ℕ) (b : Bool) (k : ℕ) → k < length (cond b (n ∷ kept) kept) → ((l : ℕ) → l < length kept → (j : ℕ) × (j < length numbers) × (get_or numbers j 0 ≡ get_or kept l 0)) →
        (j : ℕ) × (j < length (n ∷ numbers)) × (get_or (n ∷ numbers) j 0 ≡ get_or (cond b (n ∷ kept) kept) k 0)
    kept_more n numbers kept true zero within rest = (zero, omega arith, refl)
    kept_more n numbers kept true (suc k) within rest =
        let at = rest k (omega arith) in
        let bound : at.0 < length numbers = at.1 in
        (suc at.0, omega arith, at.2)
    kept_more n numbers kept false k within rest =
        let at = rest k within in
        let bound : at.0 < length numbers = at.1 in
        (suc at.0, omega arith, at.2)

-- where the number of a row is listed
pub listed_at : (n : ℕ) (r : Row) (p : ℕ → Bool) (numbers : List ℕ) (rows : List Row) → filter p numbers ≡ map number_of rows → row_of n rows ≡ Some r →
    (j : ℕ) × (j < length numbers) × (get_or numbers j 0 ≡ n)
listed_at n r p numbers rows are is =
    let at = number_at n r rows is in
    let within : at.0 < length rows = at.1 in
    let long : length (filter p numbers) ≡ length rows = ap length are ∙ length-map rows number_of in
    let kept = kept_at p at.0 numbers (omega arith) in
    (kept.0, kept.1, kept.2 ∙ ap (λ ns. get_or ns at.0 0) are ∙ at.2)

-- what a scan of all numbers finds
pub scanned_none : (next count : ℕ) (p : Row → Bool) (numbers : List ℕ) (rows : List Row) → filter (λ n. is_some (row_of n rows)) numbers ≡ map number_of rows → IsTable rows next → length numbers ≤ count →
    ((k : ℕ) → k < count → passes p (row_of (get_or numbers k 0) rows) ≡ false) → find p rows ≡ None
scanned_none next count p numbers rows are table all fails =
    find_no next 1 p rows table.ascending
    (λ m s is.
    let at = listed_at m s (λ n. is_some (row_of n rows)) numbers rows are is in
    let here : row_of (get_or numbers at.0 0) rows ≡ Some s = ap (λ k. row_of k rows) at.2 ∙ is in
    let within : at.0 < length numbers = at.1 in
    let fact : passes p (row_of (get_or numbers at.0 0) rows) ≡ false = fails at.0 (omega arith) in
    sym (ap (passes p) here) ∙ fact)

-- the first number of a session behind those that are no greater than a number
pub first_from : (number : ℕ) (living : ℕ → Bool) (numbers : List ℕ) (from : ℕ) → from ≤ length numbers → ((k : ℕ) → k < from → get_or numbers k 0 ≤ number) →
    ((k : ℕ) → from ≤ k → k < length numbers → number < get_or numbers k 0) → find living (drop from numbers) ≡ find (λ n. nat_lt number n) (filter living numbers)
first_from number living [] zero bound low high = refl
first_from number living [] (suc from) bound low high = absurd (omega arith)
first_from number living (n ∷ numbers) zero bound low high =
    let above : number < n = high zero (omega arith) (omega arith) in
    let test : nat_lt number n ≡ true = grind (arith, nat_tests) in
    let rest : find living (drop zero numbers) ≡ find (λ n. nat_lt number n) (filter living numbers) =
    first_from number living numbers zero (omega arith) (λ k below. absurd (omega arith)) (λ k after within. high (suc k) (omega arith) (omega arith)) in
    elim (cases_Bool (living n)) [
      | inl lives ↦ rw (lives, test) refl
      | inr gone ↦ rw gone rest
    ]
first_from number living (n ∷ numbers) (suc from) bound low high =
    let below : n ≤ number = low zero (omega arith) in
    let test : nat_lt number n ≡ false = grind (arith, nat_tests) in
    let rest : find living (drop from numbers) ≡ find (λ n. nat_lt number n) (filter living numbers) =
    first_from number living numbers from (omega arith) (λ k before. low (suc k) (omega arith)) (λ k after within. high (suc k) (omega arith) (omega arith)) in
    elim (cases_Bool (living n)) [
      | inl lives ↦ rw (lives, test) rest
      | inr gone ↦ rw gone rest
    ]

pub meets_of : (p : Row → Bool) (n : ℕ) (rows : List Row) (o : Option Row) → row_of n rows ≡ o → passes p o ≡ true → Meets p n rows
meets_of p n rows None is passed = absurd (false≢true passed)
meets_of p n rows (Some r) is passed = (r, is, passed)

-- the one that meets a test is found by it
pub met_only : (n next : ℕ) (p : Row → Bool) (rows : List Row) → IsTable rows next → Meets p n rows → ((m : ℕ) (s : Row) → row_of m rows ≡ Some s → p s ≡ true → m ≡ n) →
    Some n ≡ option_map number_of (find p rows)
met_only n next p rows table meets only =
    sym (ap (option_map number_of) (find_only next 1 p n meets.0 rows table.ascending meets.1 meets.2 only) ∙ ap Some (number_is n meets.0 rows meets.1))

pub there_is : (r : Row) (o : Option Row) → Some r ≡ o → IsSome o
there_is r o is = let P : Option Row → Type 0 = λ o. IsSome o in subst P is refl

-- what the reading of a connection and of a name says
pub at_conn : (conn : ℕ) (o : Option ℕ) → is_some_number conn o ≡ true → o ≡ Some conn
at_conn conn None passed = absurd (false≢true passed)
at_conn conn (Some m) passed = ap Some (same_from_eqb m conn passed)

pub conn_answer : (conn next : ℕ) (rows : List Row) (result : Option ℕ) → IsTable rows next → MatchOption result (find (is_at conn) rows ≡ None) (λ n. Meets (is_at conn) n rows) →
    result ≡ option_map number_of (row_at conn rows)
conn_answer conn next rows None table none = sym (ap (option_map number_of) none)
conn_answer conn next rows (Some n) table meets =
    met_only n next (is_at conn) rows table meets
    (λ m s is passed. table.conns m n conn s meets.0 is meets.1 (at_conn conn s.shown.conn passed) (at_conn conn meets.0.shown.conn meets.2))

pub same_kept : (f g : ℕ → Option Row) (numbers : List ℕ) (next : ℕ) → ((n : ℕ) → g n ≡ f n) → IsStored f numbers next (collected f numbers) → IsStored g numbers next (collected g numbers)
same_kept f g numbers next same stored = rw (same_collected f g numbers same) (same_stored f g numbers next (collected f numbers) same stored)
