-- What a change of the rows leaves of the table: numbers ascend, and connections and names have one session each.
use Rattle.std.proofs.Common.{◌≡◌, ◌≢◌, ℕ, ◌+◌, ◌-◌, ◌^◌, ◌<◌, true, false, List, [], ◌∷◌, ◌++◌, Option, Some, None, refl, sym, ap, subst, ◌∙◌, arith, inl, inr}
use Rattle.std.specs.Prelude.{IsSome}
use Rattle.std.specs.Str.{bytes_eq}
use Rattle.std.proofs.lemmas.Bool.{cases_eq, false≢true}
use Rattle.std.proofs.lemmas.Option.{none-some, same_Some}
use Rattle.std.proofs.lemmas.Slice.Eq.{bytes_eq-Decides}
use Rattle.sm_resumption.proofs.RowFacts.{KeepsNumber, KeepsSession, eqb_same, find_none_at, option_map_some, rises_push, rises_with, rises_without, row_of_push_other, row_of_push_same, row_of_with_other, row_of_with_same, row_of_without_other, row_of_without_same}
use Rattle.sm_resumption.specs.Moves.{fresh_row, parked, attached}
use Rattle.sm_resumption.specs.Rows.{IsTable, is_at, is_named, row_at, row_named, row_of, with_row, without}
use Rattle.sm_resumption.specs.declared.session.Row.{Row}

pub from_without : (m n : ℕ) (r : Row) (rows : List Row) → row_of m (without n rows) ≡ Some r → (m ≢ n) × (row_of m rows ≡ Some r)
from_without m n r rows is =
    let other : m ≢ n = λ same. none-some r (sym (row_of_without_same n rows) ∙ ap (λ k. row_of k (without n rows)) (sym same) ∙ is) in
    (other, sym (row_of_without_other m n rows other) ∙ is)

pub table_without : (n next : ℕ) (rows : List Row) → IsTable rows next → IsTable (without n rows) next
table_without n next rows table =
    record {
      ascending = rises_without next 1 n rows table.ascending;
      fits = table.fits;
      conns = λ l m conn r s is was on at. table.conns l m conn r s (from_without l n r rows is).1 (from_without m n s rows was).1 on at;
      names = λ l m r s is was account resource. table.names l m r s (from_without l n r rows is).1 (from_without m n s rows was).1 account resource;
    }

-- a row after a change of one
pub record FromWith (m n : ℕ) (f : Row → Row) (s : Row) (rows : List Row) : Type 0 where
  pub was : Row
  pub found : row_of m rows ≡ Some was
  pub same : m ≢ n → was ≡ s
  pub changed : m ≡ n → f was ≡ s

pub from_with : (m n : ℕ) (f : Row → Row) (s : Row) (rows : List Row) → KeepsNumber f → row_of m (with_row n f rows) ≡ Some s → FromWith m n f s rows
from_with m n f s rows keeps is =
    elim (cases_eq m n) [
      | inl same ↦
          let old = option_map_some f (row_of n rows) s (sym (row_of_with_same n f rows keeps) ∙ ap (λ k. row_of k (with_row n f rows)) (sym same) ∙ is) in
          record { was = old.0; found = ap (λ k. row_of k rows) same ∙ old.1; same = λ other. absurd (other same); changed = λ _. old.2 }
      | inr other ↦
          record { was = s; found = sym (row_of_with_other m n f rows keeps other) ∙ is; same = λ _. refl; changed = λ same. absurd (other same) }
    ]

-- a change that keeps number, account and resource, and gives no connection that another session has
pub record IsLawfulChange (n : ℕ) (f : Row → Row) (rows : List Row) : Type 0 where
  pub number : KeepsNumber f
  pub account : (r : Row) → (f r).shown.account ≡ r.shown.account
  pub resource : (r : Row) → (f r).shown.resource ≡ r.shown.resource
  pub conn : (r : Row) (c : ℕ) → row_of n rows ≡ Some r → (f r).shown.conn ≡ Some c → (m : ℕ) (s : Row) → row_of m rows ≡ Some s → s.shown.conn ≡ Some c → m ≡ n

pub table_with : (n next : ℕ) (f : Row → Row) (rows : List Row) → IsLawfulChange n f rows → IsTable rows next → IsTable (with_row n f rows) next
table_with n next f rows lawful table = record { ascending = rises_with next 1 n f rows lawful.number table.ascending; fits = table.fits; conns = conns; names = names }
  where
    account_is : (m : ℕ) (s : Row) (from : FromWith m n f s rows) → from.was.shown.account ≡ s.shown.account
    account_is m s from =
        elim (cases_eq m n) [
          | inl same ↦ sym (lawful.account from.was) ∙ ap (λ (r : Row). r.shown.account) (from.changed same)
          | inr other ↦ ap (λ (r : Row). r.shown.account) (from.same other)
        ]

    resource_is : (m : ℕ) (s : Row) (from : FromWith m n f s rows) → from.was.shown.resource ≡ s.shown.resource
    resource_is m s from =
        elim (cases_eq m n) [
          | inl same ↦ sym (lawful.resource from.was) ∙ ap (λ (r : Row). r.shown.resource) (from.changed same)
          | inr other ↦ ap (λ (r : Row). r.shown.resource) (from.same other)
        ]

    names : (l m : ℕ) (r s : Row) → row_of l (with_row n f rows) ≡ Some r → row_of m (with_row n f rows) ≡ Some s → r.shown.account ≡ s.shown.account → r.shown.resource ≡ s.shown.resource → l ≡ m
    names l m r s is was account resource =
        let from : FromWith l n f r rows = from_with l n f r rows lawful.number is in
        let also : FromWith m n f s rows = from_with m n f s rows lawful.number was in
        table.names l m from.was also.was from.found also.found
        (account_is l r from ∙ account ∙ sym (account_is m s also)) (resource_is l r from ∙ resource ∙ sym (resource_is m s also))

    conns : (l m conn : ℕ) (r s : Row) → row_of l (with_row n f rows) ≡ Some r → row_of m (with_row n f rows) ≡ Some s → r.shown.conn ≡ Some conn → s.shown.conn ≡ Some conn → l ≡ m
    conns l m conn r s is was on at =
        let from : FromWith l n f r rows = from_with l n f r rows lawful.number is in
        let also : FromWith m n f s rows = from_with m n f s rows lawful.number was in
        elim (cases_eq l n) [
          | inl first ↦
              elim (cases_eq m n) [
                | inl second ↦ first ∙ sym second
                | inr other ↦
                    let kept : also.was ≡ s = also.same other in
                    let found : row_of n rows ≡ Some from.was = ap (λ k. row_of k rows) (sym first) ∙ from.found in
                    let gives : (f from.was).shown.conn ≡ Some conn = ap (λ (t : Row). t.shown.conn) (from.changed first) ∙ on in
                    first ∙ sym (lawful.conn from.was conn found gives m also.was also.found (ap (λ (t : Row). t.shown.conn) kept ∙ at))
              ]
          | inr one ↦
              let kept : from.was ≡ r = from.same one in
              elim (cases_eq m n) [
                | inl second ↦
                    let found : row_of n rows ≡ Some also.was = ap (λ k. row_of k rows) (sym second) ∙ also.found in
                    let gives : (f also.was).shown.conn ≡ Some conn = ap (λ (t : Row). t.shown.conn) (also.changed second) ∙ at in
                    lawful.conn also.was conn found gives l from.was from.found (ap (λ (t : Row). t.shown.conn) kept ∙ on) ∙ sym second
                | inr two ↦
                    table.conns l m conn from.was also.was from.found also.found (ap (λ (t : Row). t.shown.conn) kept ∙ on)
                    (ap (λ (t : Row). t.shown.conn) (also.same two) ∙ at)
              ]
        ]

-- a change that keeps the connection too
pub lawful_kept : (n next : ℕ) (f : Row → Row) (rows : List Row) → IsTable rows next → KeepsSession f → IsLawfulChange n f rows
lawful_kept n next f rows table keeps =
    record { number = keeps.number; account = keeps.account; resource = keeps.resource; conn = λ r c is gives m s was at. table.conns m n c s r was is at (sym (keeps.conn r) ∙ gives) }

-- nobody is on a connection
pub not_at : (conn m : ℕ) (s : Row) (rows : List Row) → row_at conn rows ≡ None → row_of m rows ≡ Some s → s.shown.conn ≡ Some conn → ⊥
not_at conn m s rows none is at =
    let fails : is_at conn s ≡ false = find_none_at (is_at conn) m s rows none is in
    let passes : is_at conn s ≡ true = rw at (eqb_same conn) in
    false≢true (sym fails ∙ passes)

pub not_named : (account m : ℕ) (resource : List ℕ) (s : Row) (rows : List Row) → row_named account resource rows ≡ None → row_of m rows ≡ Some s →
    s.shown.account ≡ account → s.shown.resource ≡ resource → ⊥
not_named account m resource s rows none is of_ named =
    let fails : is_named account resource s ≡ false = find_none_at (is_named account resource) m s rows none is in
    let equal : bytes_eq resource resource ≡ true = (bytes_eq-Decides resource resource).1 refl in
    let passes : is_named account resource s ≡ true = rw (of_, named, eqb_same account) equal in
    false≢true (sym fails ∙ passes)

-- a row more
pub record FromPush (m next : ℕ) (r s : Row) (rows : List Row) : Type 0 where
  pub new : m ≡ next → r ≡ s
  pub old : m ≢ next → row_of m rows ≡ Some s

pub from_push : (m next : ℕ) (r s : Row) (rows : List Row) → IsTable rows next → r.shown.number ≡ next → row_of m (rows ++ r ∷ []) ≡ Some s → FromPush m next r s rows
from_push m next r s rows table number is =
    record {
      new = λ same. same_Some r s (sym (row_of_push_same next 1 r rows table.ascending (omega arith)) ∙ ap (λ k. row_of k (rows ++ r ∷ [])) (number ∙ sym same) ∙ is);
      old = λ other. sym (row_of_push_other m r rows (λ same. other (same ∙ number))) ∙ is;
    }

pub table_push : (next account conn queue : ℕ) (resource : List ℕ) (rows : List Row) → IsTable rows next → next < 2 ^ 64 - 1 → row_at conn rows ≡ None → row_named account resource rows ≡ None →
    IsTable (rows ++ fresh_row next account resource conn queue ∷ []) (next + 1)
table_push next account conn queue resource rows table low free unnamed =
    record { ascending = rises_push next 1 (fresh_row next account resource conn queue) rows table.ascending refl; fits = omega arith; conns = conns; names = names }
  where
    conns : (l m c : ℕ) (r s : Row) → row_of l (rows ++ fresh_row next account resource conn queue ∷ []) ≡ Some r → row_of m (rows ++ fresh_row next account resource conn queue ∷ []) ≡ Some s → r.shown.conn ≡ Some c → s.shown.conn ≡ Some c → l ≡ m
    conns l m c r s is was on at =
        let from : FromPush l next (fresh_row next account resource conn queue) r rows = from_push l next (fresh_row next account resource conn queue) r rows table refl is in
        let also : FromPush m next (fresh_row next account resource conn queue) s rows = from_push m next (fresh_row next account resource conn queue) s rows table refl was in
        elim (cases_eq l next) [
          | inl first ↦
              elim (cases_eq m next) [
                | inl second ↦ first ∙ sym second
                | inr two ↦
                    let same : conn ≡ c = same_Some conn c (ap (λ (t : Row). t.shown.conn) (from.new first) ∙ on) in
                    absurd (not_at conn m s rows free (also.old two) (at ∙ ap Some (sym same)))
              ]
          | inr one ↦
              elim (cases_eq m next) [
                | inl second ↦
                    let same : conn ≡ c = same_Some conn c (ap (λ (t : Row). t.shown.conn) (also.new second) ∙ at) in
                    absurd (not_at conn l r rows free (from.old one) (on ∙ ap Some (sym same)))
                | inr two ↦ table.conns l m c r s (from.old one) (also.old two) on at
              ]
        ]

    names : (l m : ℕ) (r s : Row) → row_of l (rows ++ fresh_row next account resource conn queue ∷ []) ≡ Some r → row_of m (rows ++ fresh_row next account resource conn queue ∷ []) ≡ Some s → r.shown.account ≡ s.shown.account → r.shown.resource ≡ s.shown.resource → l ≡ m
    names l m r s is was same_account same_resource =
        let from : FromPush l next (fresh_row next account resource conn queue) r rows = from_push l next (fresh_row next account resource conn queue) r rows table refl is in
        let also : FromPush m next (fresh_row next account resource conn queue) s rows = from_push m next (fresh_row next account resource conn queue) s rows table refl was in
        elim (cases_eq l next) [
          | inl first ↦
              elim (cases_eq m next) [
                | inl second ↦ first ∙ sym second
                | inr two ↦
                    let is_row : fresh_row next account resource conn queue ≡ r = from.new first in
                    absurd (not_named account m resource s rows unnamed (also.old two)
                    (sym same_account ∙ sym (ap (λ (t : Row). t.shown.account) is_row)) (sym same_resource ∙ sym (ap (λ (t : Row). t.shown.resource) is_row)))
              ]
          | inr one ↦
              elim (cases_eq m next) [
                | inl second ↦
                    let is_row : fresh_row next account resource conn queue ≡ s = also.new second in
                    absurd (not_named account l resource r rows unnamed (from.old one)
                    (same_account ∙ sym (ap (λ (t : Row). t.shown.account) is_row)) (same_resource ∙ sym (ap (λ (t : Row). t.shown.resource) is_row)))
                | inr two ↦ table.names l m r s (from.old one) (also.old two) same_account same_resource
              ]
        ]

pub lawful_parked : (n next now : ℕ) (rows : List Row) → IsTable rows next → IsLawfulChange n (parked now) rows
lawful_parked n next now rows table =
    record { number = record { same = λ r. refl }; account = λ r. refl; resource = λ r. refl; conn = λ r c is gives m s was at. absurd (none-some c gives) }

pub lawful_attached : (n conn queue : ℕ) (rows : List Row) → row_at conn rows ≡ None → IsLawfulChange n (attached conn queue) rows
lawful_attached n conn queue rows free =
    record {
      number = record { same = λ r. refl };
      account = λ r. refl;
      resource = λ r. refl;
      conn = λ r c is gives m s was at. absurd (not_at conn m s rows free was (at ∙ ap Some (sym (same_Some conn c gives))));
    }

-- the place of a number that is there
pub position_is_some : (n : ℕ) (rows shown : List Row) → rows ≡ shown → IsSome (row_of n shown) → row_of n rows ≡ None → ⊥
position_is_some n rows shown are lives none =
    let P : Option Row → Type 0 = λ o. IsSome o in
    false≢true (subst P (ap (row_of n) (sym are) ∙ none) lives)

pub table_of : (next : ℕ) (rows shown : List Row) → rows ≡ shown → IsTable rows next → IsTable shown next
table_of next rows shown are table = let P : List Row → Type 0 = λ rs. IsTable rs next in subst P are table
