-- What a change leaves of the index: each session is found by its connection or among the parked, and by its account.
use Rattle.std.proofs.Common.{◌+◌, ◌≡◌, ◌≢◌, ℕ, zero, suc, ◌-◌, ◌<◌, ◌≤◌, Bool, true, false, length, get_or, map, take, drop, List, [], ◌∷◌, ◌++◌, Option, Some, None, Result, Ok, Err, refl, sym, ap, subst, ◌∙◌, arith, inl, inr}
use Rattle.std.specs.Prelude.{IfNone, IfSome, MatchOption, nat_eq, nat_le, is_none, is_some, ◌&&◌, ◌||◌, ◌==◌, not}
use Rattle.std.specs.List.{filter, find, insert, list_any}
use Rattle.std.specs.List.Sorted.{IsNonDecreasingBy}
use Rattle.std.proofs.lemmas.List.Folds.{list_any-append}
use Rattle.std.proofs.lemmas.Map.Views.{any-filter_same}
use Rattle.sm_resumption.proofs.StoredFacts.{Tried, at_conn, listed_at, meets_of, numbers_without}
use Rattle.sm_resumption.specs.Stored.{Meets, collected, passes}
use Rattle.sm_resumption.specs.declared.answers.TheConstants.{RESUMABLE_FOR}
use Rattle.std.proofs.lemmas.Bool.{cases_Bool, cases_eq, false≢true}
use Rattle.std.proofs.lemmas.Bool.Decides.{nat_tests}
use Rattle.std.proofs.lemmas.List.{take-append-drop}
use Rattle.std.proofs.lemmas.Option.{none-some, same_Some}
use Rattle.sm_resumption.proofs.RowFacts.{KeepsNumber, KeepsSession, eqb_other, eqb_same, filter_without, filters_commute, find_no, reservations_push, reservations_push_other, reservations_with, same_from_eqb}
use Rattle.sm_resumption.proofs.TableFacts.{FromPush, FromWith, from_push, from_with, from_without, not_at}
use Rattle.sm_resumption.specs.Indexed.{AreApart, AreInOrder, HasFirst, IsFound, IsIndexed, KeepsParked, account_sessions, conn_in, is_parked_at, is_wait, waits_in}
use Rattle.sm_resumption.specs.declared.index.Wait.{Wait}
use Rattle.sm_resumption.specs.Moves.{HasExpired, attached, fresh_row, is_expired, number_of, parked}
use Rattle.sm_resumption.specs.Rows.{IsTable, is_at, is_of, row_at, row_of, with_row, without}
use Rattle.sm_resumption.specs.declared.index.Index.{Index}
use Rattle.sm_resumption.specs.declared.session.Row.{Row}

pub found_still : (m : ℕ) (o : Option ℕ) (since : ℕ) (i j : Index) → (waits_in i since m ≡ true → waits_in j since m ≡ true) → ((c : ℕ) → o ≡ Some c → conn_in j c ≡ conn_in i c) → IsFound i m o since → IsFound j m o since
found_still m None since i j waits conns found = waits found
found_still m (Some c) since i j waits conns found = conns c refl ∙ found

-- the same entries
pub waits_same : (s q : ℕ) (i j : Index) → j.waits ≡ i.waits → waits_in i s q ≡ true → waits_in j s q ≡ true
waits_same s q i j waits has = ap (λ ws. waits_in (record i { waits = ws }) s q) waits ∙ has

pub reservations_same : (a : ℕ) (i j : Index) → j.sessions_by_account ≡ i.sessions_by_account → account_sessions j a ≡ account_sessions i a
reservations_same a i j sessions_by_account = ap (λ ss. account_sessions (record i { sessions_by_account = ss }) a) sessions_by_account

pub ordered_same : (i j : Index) → j.waits ≡ i.waits → AreInOrder i → AreInOrder j
ordered_same i j waits ordered = subst (λ ws. AreInOrder (record i { waits = ws })) (sym waits) ordered

-- the other sessions are found as before where a connection is told no more
pub spared : (n m next : ℕ) (r s : Row) (i j : Index) (rows : List Row) → IsTable rows next → row_of n rows ≡ Some r → row_of m rows ≡ Some s → m ≢ n → ((q : ℕ) → r.shown.conn ≢ Some q → conn_in j q ≡ conn_in i q) →
    j.waits ≡ i.waits → IsFound i m s.shown.conn s.shown.parked_at → IsFound j m s.shown.conn s.shown.parked_at
spared n m next r s i j rows table is was other conns waits found =
    found_still m s.shown.conn s.shown.parked_at i j (waits_same s.shown.parked_at m i j waits)
    (λ c on. conns c (λ same. other (table.conns m n c s r was is on same))) found

-- a change of a row that keeps its name
pub indexed_with : (n : ℕ) (f : Row → Row) (r : Row) (i j : Index) (rows : List Row) → KeepsNumber f → ((s : Row) → (f s).shown.account ≡ s.shown.account) →
    row_of n rows ≡ Some r → (j.whole ≡ true → i.whole ≡ true) → ((m : ℕ) (s : Row) → row_of m rows ≡ Some s → m ≢ n → IsFound i m s.shown.conn s.shown.parked_at → IsFound j m s.shown.conn s.shown.parked_at) →
    (j.whole ≡ true → IsFound j n (f r).shown.conn (f r).shown.parked_at) → j.sessions_by_account ≡ i.sessions_by_account → AreInOrder j → IsIndexed i rows → IsIndexed j (with_row n f rows)
indexed_with n f r i j rows keeps account is whole others mine sessions_by_account ordered indexed = record { placed = placed; reserved = reserved; ordered = ordered }
  where
    placed : j.whole ≡ true → (m : ℕ) (s : Row) → row_of m (with_row n f rows) ≡ Some s → IsFound j m s.shown.conn s.shown.parked_at
    placed w m s was =
        let from : FromWith m n f s rows = from_with m n f s rows keeps was in
        elim (cases_eq m n) [
          | inl same ↦
              let first : r ≡ from.was = same_Some r from.was (sym is ∙ ap (λ k. row_of k rows) (sym same) ∙ from.found) in
              let is_now : f r ≡ s = ap f first ∙ from.changed same in
              let P : ℕ → Row → Type 0 = λ k t. IsFound j k t.shown.conn t.shown.parked_at in
              let here : P n s = subst (P n) is_now (mine w) in
              subst (λ k. P k s) (sym same) here
          | inr other ↦
              let P : Row → Type 0 = λ t. IsFound j m t.shown.conn t.shown.parked_at in
              subst P (from.same other) (others m from.was from.found other (indexed.placed (whole w) m from.was from.found))
        ]

    reserved : (a : ℕ) → account_sessions j a ≡ map number_of (filter (is_of a) (with_row n f rows))
    reserved a = reservations_same a i j sessions_by_account ∙ indexed.reserved a ∙ sym (reservations_with a n f rows keeps account)

-- a change that keeps the connection and the moment too, and the index
pub indexed_kept : (n : ℕ) (f : Row → Row) (r : Row) (i : Index) (rows : List Row) → KeepsSession f → row_of n rows ≡ Some r → IsIndexed i rows → IsIndexed i (with_row n f rows)
indexed_kept n f r i rows keeps is indexed =
    indexed_with n f r i i rows keeps.number keeps.account is (λ w. w) (λ m s was other found. found)
    (λ w. rw (keeps.conn r, keeps.parked_at r) (indexed.placed w n r is)) refl indexed.ordered indexed

-- a session that is parked
pub indexed_parked : (n next now : ℕ) (r : Row) (i j k : Index) (rows : List Row) → IsTable rows next → row_of n rows ≡ Some r → ((q : ℕ) → r.shown.conn ≢ Some q → conn_in j q ≡ conn_in i q) → j.waits ≡ i.waits → j.whole ≡ i.whole →
    j.sessions_by_account ≡ i.sessions_by_account → k.conns ≡ j.conns → (k.whole ≡ true → waits_in k now n ≡ true) → ((s q : ℕ) → waits_in j s q ≡ true → waits_in k s q ≡ true) → (k.whole ≡ true → j.whole ≡ true) → k.sessions_by_account ≡ j.sessions_by_account → AreInOrder k →
    IsIndexed i rows → IsIndexed k (with_row n (parked now) rows)
indexed_parked n next now r i j k rows table is conns waits_j whole sessions_by_account conns_k here waits whole_k reservations_k ordered indexed =
    indexed_with n (parked now) r i k rows (record { same = λ s. refl }) (λ s. refl) is (λ w. sym whole ∙ whole_k w)
    (λ m s was other found. found_still m s.shown.conn s.shown.parked_at j k (waits s.shown.parked_at m) (λ c on. ap (λ cs. conn_in (record j { conns = cs }) c) conns_k) (spared n m next r s i j rows table is was other conns waits_j found))
    here (reservations_k ∙ sessions_by_account) ordered indexed

-- a session that gets another connection
pub indexed_attached : (n next conn queue : ℕ) (r : Row) (i j k : Index) (rows : List Row) → IsTable rows next → row_of n rows ≡ Some r → row_at conn rows ≡ None → ((q : ℕ) → r.shown.conn ≢ Some q → conn_in j q ≡ conn_in i q) →
    j.waits ≡ i.waits → j.whole ≡ i.whole → j.sessions_by_account ≡ i.sessions_by_account → (k.whole ≡ true → conn_in k conn ≡ Some n) → ((q : ℕ) → q ≢ conn → conn_in k q ≡ conn_in j q) → k.waits ≡ j.waits → (k.whole ≡ true → j.whole ≡ true) →
    k.sessions_by_account ≡ j.sessions_by_account → IsIndexed i rows → IsIndexed k (with_row n (attached conn queue) rows)
indexed_attached n next conn queue r i j k rows table is free conns_j waits_j whole sessions_by_account here conns waits whole_k reservations_k indexed =
    indexed_with n (attached conn queue) r i k rows (record { same = λ s. refl }) (λ s. refl) is (λ w. sym whole ∙ whole_k w)
    (λ m s was other found. found_still m s.shown.conn s.shown.parked_at j k (waits_same s.shown.parked_at m j k waits)
    (λ c on. conns c (λ same. not_at conn m s rows free was (on ∙ ap Some same))) (spared n m next r s i j rows table is was other conns_j waits_j found))
    here (reservations_k ∙ sessions_by_account) (ordered_same i k (waits ∙ waits_j) indexed.ordered) indexed

-- a session that is gone
pub indexed_without : (n next : ℕ) (r : Row) (i j k : Index) (rows : List Row) → IsTable rows next → row_of n rows ≡ Some r → ((q : ℕ) → r.shown.conn ≢ Some q → conn_in j q ≡ conn_in i q) → j.waits ≡ i.waits → j.whole ≡ i.whole → j.sessions_by_account ≡ i.sessions_by_account →
    k.conns ≡ j.conns → k.waits ≡ j.waits → k.whole ≡ j.whole → account_sessions k r.shown.account ≡ filter (λ m. not (m == n)) (account_sessions j r.shown.account) →
    ((q : ℕ) → q ≢ r.shown.account → account_sessions k q ≡ account_sessions j q) → IsIndexed i rows → IsIndexed k (without n rows)
indexed_without n next r i j k rows table is conns waits whole sessions_by_account conns_k waits_k whole_k mine others indexed =
    record { placed = placed; reserved = reserved; ordered = ordered_same i k (waits_k ∙ waits) indexed.ordered }
  where
    placed : k.whole ≡ true → (m : ℕ) (s : Row) → row_of m (without n rows) ≡ Some s → IsFound k m s.shown.conn s.shown.parked_at
    placed w m s was =
        let from = from_without m n s rows was in
        found_still m s.shown.conn s.shown.parked_at j k (waits_same s.shown.parked_at m j k waits_k) (λ c on. ap (λ cs. conn_in (record j { conns = cs }) c) conns_k)
        (spared n m next r s i j rows table is from.1 from.0 conns waits (indexed.placed (sym whole ∙ sym whole_k ∙ w) m s from.1))

    before : (a : ℕ) → account_sessions j a ≡ map number_of (filter (is_of a) rows)
    before a = reservations_same a i j sessions_by_account ∙ indexed.reserved a

    reserved : (a : ℕ) → account_sessions k a ≡ map number_of (filter (is_of a) (without n rows))
    reserved a =
        elim (cases_eq a r.shown.account) [
          | inl same ↦
              ap (account_sessions k) same ∙ mine ∙ ap (λ q. filter (λ m. not (m == n)) (account_sessions j q)) (sym same)
              ∙ ap (filter (λ m. not (m == n))) (before a) ∙ numbers_without n (filter (is_of a) rows) ∙ ap (map number_of) (filters_commute (λ s. not (s.shown.number == n)) (is_of a) rows)
          | inr other ↦
              let fails : is_of a r ≡ false = eqb_other r.shown.account a (λ same. other (sym same)) in
              others a other ∙ before a ∙ ap (map number_of) (sym (filter_without next 1 n (is_of a) r rows table.ascending is fails))
        ]

-- a session more
pub indexed_pushed : (next account conn queue : ℕ) (resource : List ℕ) (i j k : Index) (rows : List Row) → IsTable rows next → row_at conn rows ≡ None →
    (j.whole ≡ true → conn_in j conn ≡ Some next) → ((q : ℕ) → q ≢ conn → conn_in j q ≡ conn_in i q) → j.waits ≡ i.waits → (j.whole ≡ true → i.whole ≡ true) → j.sessions_by_account ≡ i.sessions_by_account →
    account_sessions k account ≡ account_sessions j account ++ next ∷ [] → ((q : ℕ) → q ≢ account → account_sessions k q ≡ account_sessions j q) → k.conns ≡ j.conns → k.waits ≡ j.waits → k.whole ≡ j.whole →
    IsIndexed i rows → IsIndexed k (rows ++ fresh_row next account resource conn queue ∷ [])
indexed_pushed next account conn queue resource i j k rows table free here conns waits whole sessions_by_account mine others conns_k waits_k whole_k indexed =
    record { placed = placed; reserved = reserved; ordered = ordered_same i k (waits_k ∙ waits) indexed.ordered }
  where
    placed : k.whole ≡ true → (m : ℕ) (s : Row) → row_of m (rows ++ fresh_row next account resource conn queue ∷ []) ≡ Some s → IsFound k m s.shown.conn s.shown.parked_at
    placed w m s was =
        let from : FromPush m next (fresh_row next account resource conn queue) s rows = from_push m next (fresh_row next account resource conn queue) s rows table refl was in
        let before : j.whole ≡ true = sym whole_k ∙ w in
        elim (cases_eq m next) [
          | inl same ↦
              let P : ℕ → Row → Type 0 = λ n t. IsFound k n t.shown.conn t.shown.parked_at in
              let first : P next (fresh_row next account resource conn queue) = ap (λ cs. conn_in (record j { conns = cs }) conn) conns_k ∙ here before in
              let second : P next s = subst (P next) (from.new same) first in
              subst (λ n. P n s) (sym same) second
          | inr other ↦
              found_still m s.shown.conn s.shown.parked_at i k (waits_same s.shown.parked_at m i k (waits_k ∙ waits))
              (λ c on. ap (λ cs. conn_in (record j { conns = cs }) c) conns_k ∙ conns c (λ same. not_at conn m s rows free (from.old other) (on ∙ ap Some same)))
              (indexed.placed (whole before) m s (from.old other))
        ]

    before : (a : ℕ) → account_sessions j a ≡ map number_of (filter (is_of a) rows)
    before a = reservations_same a i j sessions_by_account ∙ indexed.reserved a

    reserved : (a : ℕ) → account_sessions k a ≡ map number_of (filter (is_of a) (rows ++ fresh_row next account resource conn queue ∷ []))
    reserved a =
        elim (cases_eq a account) [
          | inl same ↦
              let passes_ : is_of a (fresh_row next account resource conn queue) ≡ true = rw same (eqb_same account) in
              ap (account_sessions k) same ∙ mine ∙ ap (λ q. account_sessions j q ++ next ∷ []) (sym same) ∙ ap (λ l. l ++ next ∷ []) (before a)
              ∙ sym (reservations_push a (fresh_row next account resource conn queue) rows passes_)
          | inr other ↦
              let fails : is_of a (fresh_row next account resource conn queue) ≡ false = eqb_other account a (λ same. other (sym same)) in
              others a other ∙ before a ∙ sym (reservations_push_other a (fresh_row next account resource conn queue) rows fails)
        ]

-- the number and the moment of an entry
pub wait_is : (s q : ℕ) (w : Wait) → is_wait s q w ≡ true → (s ≡ w.since) × (q ≡ w.number)
wait_is s q w is =
    elim (cases_Bool (nat_eq s w.since)) [
      | inl same ↦ (same_from_eqb s w.since same, same_from_eqb q w.number (rw same at is))
      | inr other ↦ absurd (false≢true (rw other at is))
    ]

-- an entry more
pub waits_more : (s q i : ℕ) (w : Wait) (ws : List Wait) → list_any (is_wait s q) ws ≡ true → list_any (is_wait s q) (insert ws i w) ≡ true
waits_more s q i w ws has =
    (let parts : list_any (is_wait s q) (take i ws ++ drop i ws) ≡ true = rw (take-append-drop i ws) has in
    rw (list_any-append (is_wait s q) (take i ws) (w ∷ drop i ws))
    (go (list_any (is_wait s q) (take i ws)) (list_any (is_wait s q) (drop i ws)) (is_wait s q w) (rw (list_any-append (is_wait s q) (take i ws) (drop i ws)) at parts)))
  where
    go : (a b c : Bool) → (a || b) ≡ true → (a || (c || b)) ≡ true
    go true b c is = refl
    go false b true is = refl
    go false b false is = is

pub waits_here : (s q i : ℕ) (ws : List Wait) → list_any (is_wait s q) (insert ws i (record { since = s; number = q })) ≡ true
waits_here s q i ws =
    rw (list_any-append (is_wait s q) (take i ws) (record { since = s; number = q } ∷ drop i ws), eqb_same s, eqb_same q) (or_true (list_any (is_wait s q) (take i ws)))
  where
    or_true : (a : Bool) → (a || true) ≡ true
    or_true true = refl
    or_true false = refl

-- entries in order
least_below : (low : ℕ) (p : Wait → Bool) (ws : List Wait) → ((k : ℕ) (d : Wait) → k < length ws → low ≤ (get_or ws k d).since) → (k : ℕ) (d : Wait) → k < length (filter p ws) → low ≤ (get_or (filter p ws) k d).since
least_below low p [] bounds k d within = absurd (omega arith)
least_below low p (w ∷ ws) bounds k d within =
    least_more low p w ws (p w) refl (bounds zero d (omega arith)) (λ l e inside. least_below low p ws (λ m f more. bounds (suc m) f (omega arith)) l e inside) k d within
  where
    least_more : (low : ℕ) (p : Wait → Bool) (w : Wait) (ws : List Wait) (b : Bool) → p w ≡ b → low ≤ w.since → ((l : ℕ) (e : Wait) → l < length (filter p ws) → low ≤ (get_or (filter p ws) l e).since) →
        (k : ℕ) (d : Wait) → k < length (filter p (w ∷ ws)) → low ≤ (get_or (filter p (w ∷ ws)) k d).since
    least_more low p w ws true is first rest zero d within = rw is first
    least_more low p w ws true is first rest (suc k) d within = rw is (rest k d (let inside : suc k < length (w ∷ filter p ws) = rw is at within in omega arith))
    least_more low p w ws false is first rest k d within = rw is (rest k d (rw is at within))

ordered_cons : (w : Wait) (ws : List Wait) → ((k : ℕ) (d : Wait) → k < length ws → w.since ≤ (get_or ws k d).since) → IsNonDecreasingBy (λ v. v.since) ws → IsNonDecreasingBy (λ v. v.since) (w ∷ ws)
ordered_cons w ws least ordered zero zero d order within = omega arith
ordered_cons w ws least ordered zero (suc j) d order within = least j d (omega arith)
ordered_cons w ws least ordered (suc i) zero d order within = absurd (omega arith)
ordered_cons w ws least ordered (suc i) (suc j) d order within = ordered i j d (omega arith) (omega arith)

pub ordered_rest : (w : Wait) (ws : List Wait) → IsNonDecreasingBy (λ v. v.since) (w ∷ ws) → IsNonDecreasingBy (λ v. v.since) ws
ordered_rest w ws ordered i j d order within = ordered (suc i) (suc j) d (omega arith) (omega arith)

pub ordered_filter : (p : Wait → Bool) (ws : List Wait) → IsNonDecreasingBy (λ v. v.since) ws → IsNonDecreasingBy (λ v. v.since) (filter p ws)
ordered_filter p [] ordered = ordered
ordered_filter p (w ∷ ws) ordered =
    let rest : IsNonDecreasingBy (λ v. v.since) (filter p ws) = ordered_filter p ws (ordered_rest w ws ordered) in
    elim (cases_Bool (p w)) [
      | inl passed ↦ rw passed (ordered_cons w (filter p ws) (least_below w.since p ws (λ k d within. ordered zero (suc k) d (omega arith) (omega arith))) rest)
      | inr failed ↦ rw failed rest
    ]

-- the first entry is the earliest
pub earliest : (s q : ℕ) (w : Wait) (ws : List Wait) → IsNonDecreasingBy (λ v. v.since) ws → w ≡ get_or ws 0 w → list_any (is_wait s q) ws ≡ true → w.since ≤ s
earliest s q w [] ordered first has = absurd (false≢true has)
earliest s q w (v ∷ vs) ordered first has =
    let least : v.since ≤ s = go v.since (v ∷ vs) (λ k d within. ordered zero k d (omega arith) within) has in
    let same : w.since ≡ v.since = ap (λ (u : Wait). u.since) first in
    omega arith
  where
    go : (low : ℕ) (us : List Wait) → ((k : ℕ) (d : Wait) → k < length us → low ≤ (get_or us k d).since) → list_any (is_wait s q) us ≡ true → low ≤ s
    go low [] least has = absurd (false≢true has)
    go low (u ∷ us) least has =
        elim (cases_Bool (is_wait s q u)) [
          | inl here ↦
              let same : s ≡ u.since = (wait_is s q u here).0 in
              let bound : low ≤ u.since = least zero u (omega arith) in
              omega arith
          | inr other ↦ go low us (λ k d within. least (suc k) d (omega arith)) (rw other at has)
        ]

-- a parked session that stays parked is among what is kept
pub parked_stays : (s q : ℕ) (r : Row) (get : ℕ → Option Row) (ws : List Wait) → get q ≡ Some r → r.shown.conn ≡ None → r.shown.parked_at ≡ s → list_any (is_wait s q) ws ≡ true →
    list_any (is_wait s q) (filter (λ w. passes (is_parked_at w.since) (get w.number)) ws) ≡ true
parked_stays s q r get ws is off since has =
    any-filter_same (is_wait s q) (λ w. passes (is_parked_at w.since) (get w.number)) true
    (λ w here.
    let same = wait_is s q w here in
    let found : get w.number ≡ Some r = ap get (sym same.1) ∙ is in
    rw (found, off, since, same.0) (eqb_same w.since))
    ws ∙ has

-- what the index doesn't have is not there
pub conn_absent : (conn next : ℕ) (i : Index) (rows : List Row) → IsTable rows next → IsIndexed i rows → i.whole ≡ true → IfSome (conn_in i conn) (λ n. passes (is_at conn) (row_of n rows) ≡ false) → find (is_at conn) rows ≡ None
conn_absent conn next i rows table indexed whole fails =
    find_no next 1 (is_at conn) rows table.ascending
    (λ m s is.
    elim (cases_Bool (is_at conn s)) [
      | inl passed ↦
          let P : Option ℕ → Type 0 = λ o. IsFound i m o s.shown.parked_at in
          let found : conn_in i conn ≡ Some m = subst P (at_conn conn s.shown.conn passed) (indexed.placed whole m s is) in
          sym (ap (passes (is_at conn)) is) ∙ (rw found at fails)
      | inr failed ↦ failed
    ])

pub no_conn : (o : Option ℕ) (b : Bool) → (is_none o && b) ≡ true → o ≡ None
no_conn None b passed = refl
no_conn (Some c) b passed = absurd (false≢true passed)

pub expired_absent : (now next : ℕ) (i : Index) (get : ℕ → Option Row) (rows : List Row) → IsTable rows next → IsIndexed i rows → ((n : ℕ) → get n ≡ row_of n rows) → i.whole ≡ true →
    ((n : ℕ) (r : Row) → get n ≡ Some r → r.shown.conn ≡ None → waits_in i r.shown.parked_at n ≡ true → is_expired now r ≡ false) → find (is_expired now) rows ≡ None
expired_absent now next i get rows table indexed found whole fails =
    find_no next 1 (is_expired now) rows table.ascending
    (λ m s is.
    elim (cases_Bool (is_expired now s)) [
      | inl passed ↦
          let off : s.shown.conn ≡ None = no_conn s.shown.conn (nat_le RESUMABLE_FOR (now - s.shown.parked_at)) passed in
          let P : Option ℕ → Type 0 = λ o. IsFound i m o s.shown.parked_at in
          let waits : waits_in i s.shown.parked_at m ≡ true = subst P off (indexed.placed whole m s is) in
          fails m s (found m ∙ is) off waits
      | inr failed ↦ failed
    ])

-- an index that has the same
pub indexed_same : (i j : Index) (rows : List Row) → ((q : ℕ) → conn_in j q ≡ conn_in i q) → j.waits.items ≡ i.waits.items → j.whole ≡ i.whole → ((q : ℕ) → account_sessions j q ≡ account_sessions i q) → IsIndexed i rows → IsIndexed j rows
indexed_same i j rows conns waits whole sessions_by_account indexed =
    record {
      placed = λ w n r is. found_still n r.shown.conn r.shown.parked_at i j (λ waiting. ap (list_any (is_wait r.shown.parked_at n)) waits ∙ waiting) (λ c on. conns c) (indexed.placed (sym whole ∙ w) n r is);
      reserved = λ a. sessions_by_account a ∙ indexed.reserved a;
      ordered = subst (λ ws. IsNonDecreasingBy (λ v. v.since) ws) (sym waits) indexed.ordered;
    }

-- an index that has of the parked what it needs
pub indexed_swept : (i j : Index) (get : ℕ → Option Row) (rows : List Row) → ((n : ℕ) → get n ≡ row_of n rows) → j.conns ≡ i.conns → KeepsParked get i j → j.whole ≡ i.whole → j.sessions_by_account ≡ i.sessions_by_account → AreInOrder j → IsIndexed i rows → IsIndexed j rows
indexed_swept i j get rows found conns waits whole sessions_by_account ordered indexed =
    record {
      placed = λ w n r is. still n r r.shown.conn refl is (indexed.placed (sym whole ∙ w) n r is);
      reserved = λ a. reservations_same a i j sessions_by_account ∙ indexed.reserved a;
      ordered = ordered;
    }
  where
    still : (n : ℕ) (r : Row) (o : Option ℕ) → r.shown.conn ≡ o → row_of n rows ≡ Some r → IsFound i n o r.shown.parked_at → IsFound j n o r.shown.parked_at
    still n r None off is has = waits n r (found n ∙ is) off has
    still n r (Some c) on is has = ap (λ cs. conn_in (record i { conns = cs }) c) conns ∙ has

-- no session is there
pub indexed_nobody : (i : Index) (rows : List Row) → rows ≡ [] → ((a : ℕ) → account_sessions i a ≡ []) → AreInOrder i → IsIndexed i rows
indexed_nobody i rows none sessions_by_account ordered = rw none (record { placed = λ w n r is. absurd (none-some r is); reserved = sessions_by_account; ordered = ordered })

-- what a table that is seen has indexed
pub indexed_as : (i : Index) (inside rows : List Row) → inside ≡ rows → IsIndexed i inside → IsIndexed i rows
indexed_as i inside rows seen indexed = let P : List Row → Type 0 = λ rs. IsIndexed i rs in subst P seen indexed

-- a call that changes a row where it is well, and doesn't where it fails
pub indexed_tried : {T E : Type 0} (t : Result T E) (n next : ℕ) (f : Row → Row) (x : Row) (i : Index) (get : ℕ → Option Row) (numbers : List ℕ) (rows : List Row) → KeepsSession f → Tried t n next f x get numbers rows → IsIndexed i rows → IsIndexed i (collected get numbers)
indexed_tried (Ok v) n next f x i get numbers rows keeps tried indexed = rw tried.ok (indexed_kept n f x i rows keeps tried.found indexed)
indexed_tried (Err e) n next f x i get numbers rows keeps tried indexed = rw tried.err indexed

-- the answers of the index
pub absent_conn : (conn next : ℕ) (i : Index) (rows : List Row) (o result : Option ℕ) → IsTable rows next → IsIndexed i rows → i.whole ≡ true → o ≡ conn_in i conn →
    MatchOption result (IfSome o (λ n. passes (is_at conn) (row_of n rows) ≡ false)) (λ n. Meets (is_at conn) n rows) →
    MatchOption result (find (is_at conn) rows ≡ None) (λ n. Meets (is_at conn) n rows)
absent_conn conn next i rows o None table indexed whole is fails =
    let P : Option ℕ → Type 0 = λ o. IfSome o (λ n. passes (is_at conn) (row_of n rows) ≡ false) in
    conn_absent conn next i rows table indexed whole (subst P is fails)
absent_conn conn next i rows o (Some n) table indexed whole is meets = meets

pub found_conn : (n d since : ℕ) (j : Index) (o : Option ℕ) → o ≡ Some d → IsFound j n o since → conn_in j d ≡ Some n
found_conn n d since j None is has = absurd (none-some d is)
found_conn n d since j (Some e) is has = ap (conn_in j) (sym (same_Some e d is)) ∙ has

-- a session that is put back, and those before it
pub mended : (count number : ℕ) (x : Row) (i j : Index) (numbers : List ℕ) (get : ℕ → Option Row) → AreApart get → get number ≡ Some x → number ≡ get_or numbers count 0 →
    ((s q : ℕ) → waits_in i s q ≡ true → waits_in j s q ≡ true) → ((q : ℕ) → x.shown.conn ≢ Some q → conn_in j q ≡ conn_in i q) → IsFound j number x.shown.conn x.shown.parked_at →
    HasFirst count i numbers get → HasFirst (count + 1) j numbers get
mended count number x i j numbers get apart is at waits conns here first k r below there =
    elim (cases_eq k count) [
      | inl same ↦
          let equal : number ≡ get_or numbers k 0 = at ∙ ap (λ m. get_or numbers m 0) (sym same) in
          let row : x ≡ r = same_Some x r (sym is ∙ ap get equal ∙ there) in
          let P : ℕ → Row → Type 0 = λ m s. IsFound j m s.shown.conn s.shown.parked_at in
          let one : P number r = subst (P number) row here in
          subst (λ m. P m r) equal one
      | inr other ↦ go r.shown.conn refl (first k r (omega arith) there)
    ]
  where
    go : (o : Option ℕ) → r.shown.conn ≡ o → IsFound i (get_or numbers k 0) o r.shown.parked_at → IsFound j (get_or numbers k 0) o r.shown.parked_at
    go None on found = waits r.shown.parked_at (get_or numbers k 0) found
    go (Some c) on found = at_c x.shown.conn refl
      where
        at_c : (o : Option ℕ) → x.shown.conn ≡ o → conn_in j c ≡ Some (get_or numbers k 0)
        at_c None mine = conns c (λ both. none-some c (sym mine ∙ both)) ∙ found
        at_c (Some d) mine =
            elim (cases_eq d c) [
              | inl equal ↦
                  let same : get_or numbers k 0 ≡ number = apart (get_or numbers k 0) number c r x there is on (mine ∙ ap Some equal) in
                  ap (conn_in j) (sym equal) ∙ found_conn number d x.shown.parked_at j x.shown.conn mine here ∙ ap Some (sym same)
              | inr differs ↦ conns c (λ both. differs (same_Some d c (sym mine ∙ both))) ∙ found
            ]

pub mended_none : (count : ℕ) (i : Index) (numbers : List ℕ) (get : ℕ → Option Row) → get (get_or numbers count 0) ≡ None → HasFirst count i numbers get → HasFirst (count + 1) i numbers get
mended_none count i numbers get none first k r below there =
    elim (cases_eq k count) [
      | inl same ↦ absurd (none-some r (sym none ∙ ap (λ m. get (get_or numbers m 0)) (sym same) ∙ there))
      | inr other ↦ first k r (omega arith) there
    ]

pub found_some : (n conn since : ℕ) (i : Index) (o : Option ℕ) → o ≡ Some conn → conn_in i conn ≡ Some n → IsFound i n o since
found_some n conn since i o is has = let P : Option ℕ → Type 0 = λ o. IsFound i n o since in subst P (sym is) has

pub found_none : (n since : ℕ) (i : Index) (o : Option ℕ) → o ≡ None → waits_in i since n ≡ true → IsFound i n o since
found_none n since i o is has = let P : Option ℕ → Type 0 = λ o. IsFound i n o since in subst P (sym is) has

-- all sessions are put back
pub indexed_mended : (next : ℕ) (i j : Index) (numbers : List ℕ) (get : ℕ → Option Row) (rows : List Row) → filter (λ n. is_some (get n)) numbers ≡ map number_of rows → ((n : ℕ) → get n ≡ row_of n rows) →
    (j.whole ≡ true → HasFirst (length numbers) j numbers get) → j.sessions_by_account ≡ i.sessions_by_account → AreInOrder j → IsIndexed i rows → IsIndexed j rows
indexed_mended next i j numbers get rows listed found placed sessions_by_account ordered indexed =
    record {
      placed = λ w n r is.
          (let at = listed_at n r (λ m. is_some (get m)) numbers rows listed is in
          subst (λ m. IsFound j m r.shown.conn r.shown.parked_at) at.2 (placed w at.0 r at.1 (ap get at.2 ∙ found n ∙ is)));
      reserved = λ a. reservations_same a i j sessions_by_account ∙ indexed.reserved a;
      ordered = ordered;
    }

pub apart_of : (next : ℕ) (get : ℕ → Option Row) (rows : List Row) → IsTable rows next → ((n : ℕ) → get n ≡ row_of n rows) → AreApart get
apart_of next get rows table found m n conn r s is was on at = table.conns m n conn r s (sym (found m) ∙ is) (sym (found n) ∙ was) on at

-- an entry that says nothing any more is dropped
pub popped : (now n : ℕ) (w : Wait) (get : ℕ → Option Row) (i j : Index) → i.waits.items ≡ w ∷ j.waits.items → w.number ≡ n → RESUMABLE_FOR ≤ now - w.since → passes (is_expired now) (get n) ≡ false → KeepsParked get i j
popped now n w get i j are number old fails m r is off has =
    elim (cases_Bool (is_wait r.shown.parked_at m w)) [
      | inl here ↦
          let same = wait_is r.shown.parked_at m w here in
          let found : get n ≡ Some r = ap get (sym number ∙ sym same.1) ∙ is in
          let since : r.shown.parked_at ≡ w.since = same.0 in
          let expired : is_expired now r ≡ true = rw off (late r.shown.parked_at (omega arith)) in
          absurd (false≢true (sym (ap (passes (is_expired now)) (sym found) ∙ fails) ∙ expired))
      | inr other ↦ rw other at (ap (list_any (is_wait r.shown.parked_at m)) (sym are) ∙ has)
    ]
  where
    late : (s : ℕ) → RESUMABLE_FOR ≤ now - s → nat_le RESUMABLE_FOR (now - s) ≡ true
    late s old = grind (arith, nat_tests)

-- none is expired where none has been parked for so long
pub not_yet : (now n : ℕ) (r : Row) (i : Index) → ((s q : ℕ) → waits_in i s q ≡ true → now - s < RESUMABLE_FOR) → waits_in i r.shown.parked_at n ≡ true → is_expired now r ≡ false
not_yet now n r i early has = go r.shown.conn (early r.shown.parked_at n has)
  where
    go : (o : Option ℕ) → now - r.shown.parked_at < RESUMABLE_FOR → (is_none o && nat_le RESUMABLE_FOR (now - r.shown.parked_at)) ≡ false
    go (Some c) low = refl
    go None low = grind (arith, nat_tests)

-- what is told of the session that was parked first
pub overdue_answer : (now next : ℕ) (i : Index) (get : ℕ → Option Row) (rows : List Row) (result : Option ℕ) → IsTable rows next → IsIndexed i rows → ((n : ℕ) → get n ≡ row_of n rows) → i.whole ≡ true →
    IfSome result (λ n. passes (is_expired now) (get n) ≡ true) →
    IfNone result ((n : ℕ) (r : Row) → get n ≡ Some r → r.shown.conn ≡ None → waits_in i r.shown.parked_at n ≡ true → is_expired now r ≡ false) →
    MatchOption result (find (is_expired now) rows ≡ None) (λ n. HasExpired now n rows)
overdue_answer now next i get rows None table indexed found whole some none = expired_absent now next i get rows table indexed found whole none
overdue_answer now next i get rows (Some n) table indexed found whole some none = meets_of (is_expired now) n rows (row_of n rows) refl (sym (ap (passes (is_expired now)) (found n)) ∙ some)
