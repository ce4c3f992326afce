-- What binding, parking and ending leave of the table and of the pool.
use Rattle.std.proofs.Common.{◌≡◌, ℕ, Bool, true, false, List, Option, Some, None, refl, sym, subst, ◌∙◌, inl, inr}
use Rattle.std.specs.Prelude.{IsSome, ◌&&◌, ◌==◌}
use Rattle.std.specs.List.{find}
use Rattle.std.specs.Option.{option_map}
use Rattle.std.specs.Str.{bytes_eq}
use Rattle.std.proofs.lemmas.Bool.{cases_Bool, false≢true}
use Rattle.std.proofs.lemmas.Slice.Eq.{bytes_eq-Decides}
use Rattle.sm_acks.specs.Queues.{PoolView}
use Rattle.sm_resumption.proofs.HousedFacts.{housed_same, housed_without}
use Rattle.sm_resumption.proofs.RowFacts.{find_no, find_none_at, find_passes, found_by_number, option_map_some, same_from_eqb, same_row, without_none}
use Rattle.sm_resumption.proofs.TableFacts.{from_without, table_without}
use Rattle.sm_resumption.specs.Housed.{Drops, IsFree, IsHoused}
use Rattle.sm_resumption.specs.Moves.{number_of}
use Rattle.sm_resumption.specs.Rows.{IsTable, is_at, is_named, is_of, less, row_at, row_named, row_of, without}
use Rattle.sm_resumption.specs.declared.session.Row.{Row}

-- a session that ends
pub housed_end : (n : ℕ) (o : Option Row) (rows : List Row) (old new : PoolView) → row_of n rows ≡ o → Drops o old new → IsHoused rows old → IsHoused (without n rows) new
housed_end n None rows old new is drops housed = rw (without_none n rows is) (housed_same rows old new housed drops)
housed_end n (Some r) rows old new is drops housed = housed_without n r rows old new is drops housed

-- a row that was found is there
pub found_is_there : (n next : ℕ) (p : Row → Bool) (rows : List Row) → IsTable rows next → Some n ≡ option_map number_of (find p rows) → IsSome (row_of n rows)
found_is_there n next p rows table is =
    let found = option_map_some number_of (find p rows) n (sym is) in
    let P : Option Row → Type 0 = λ o. IsSome o in
    subst P (sym (same_row next 1 n p rows table.ascending is ∙ found.1)) refl

-- the session on a connection, by its number
pub record Parks (n conn : ℕ) (r : Row) (rows : List Row) : Type 0 where
  pub at : row_at conn rows ≡ Some r
  pub number : r.shown.number ≡ n
  pub found : row_of n rows ≡ Some r

pub parks : (n next conn : ℕ) (rows : List Row) → IsTable rows next → Some n ≡ option_map number_of (row_at conn rows) → (r : Row) × Parks n conn r rows
parks n next conn rows table is =
    let found = option_map_some number_of (row_at conn rows) n (sym is) in
    (found.0, record { at = found.1; number = found.2; found = same_row next 1 n (is_at conn) rows table.ascending is ∙ found.1 })

-- who is on no connection is on none when others ended
pub none_at_less : (conn next : ℕ) (o : Option Row) (rows : List Row) → IsTable rows next → row_at conn rows ≡ None → row_at conn (less o rows) ≡ None
none_at_less conn next None rows table none = none
none_at_less conn next (Some r) rows table none =
    find_no next 1 (is_at conn) (without r.shown.number rows) (table_without r.shown.number next rows table).ascending
    (λ m s is. find_none_at (is_at conn) m s rows none (from_without m r.shown.number s rows is).1)

pub table_less : (next : ℕ) (o : Option Row) (rows : List Row) → IsTable rows next → IsTable (less o rows) next
table_less next None rows table = table
table_less next (Some r) rows table = table_without r.shown.number next rows table

-- what a test of the name says
pub record Named (account : ℕ) (resource : List ℕ) (r : Row) : Type 0 where
  pub account_is : r.shown.account ≡ account
  pub resource_is : r.shown.resource ≡ resource

pub and_parts : (a b : Bool) → (a && b) ≡ true → (a ≡ true) × (b ≡ true)
and_parts true b is = (refl, is)
and_parts false b is = absurd (false≢true is)

pub named : (account : ℕ) (resource : List ℕ) (r : Row) → is_named account resource r ≡ true → Named account resource r
named account resource r is =
    let parts = and_parts (r.shown.account == account) (bytes_eq r.shown.resource resource) is in
    record { account_is = same_from_eqb r.shown.account account parts.0; resource_is = (bytes_eq-Decides r.shown.resource resource).0 parts.1 }

pub named_of : (account : ℕ) (resource : List ℕ) (r : Row) → is_named account resource r ≡ true → is_of account r ≡ true
named_of account resource r is = (and_parts (r.shown.account == account) (bytes_eq r.shown.resource resource) is).0

-- the older session is gone, and with it the name
pub none_named_less : (account next : ℕ) (resource : List ℕ) (rows : List Row) → IsTable rows next → row_named account resource (less (row_named account resource rows) rows) ≡ None
none_named_less account next resource rows table = go (row_named account resource rows) refl
  where
    other : (r : Row) → row_named account resource rows ≡ Some r → (m : ℕ) (s : Row) → row_of m (without r.shown.number rows) ≡ Some s → is_named account resource s ≡ true → ⊥
    other r is m s found passed =
        let from = from_without m r.shown.number s rows found in
        let mine : Named account resource r = named account resource r (find_passes (is_named account resource) r rows is) in
        let its : Named account resource s = named account resource s passed in
        from.0 (table.names m r.shown.number s r from.1 (found_by_number next 1 (is_named account resource) r rows table.ascending is) (its.account_is ∙ sym mine.account_is) (its.resource_is ∙ sym mine.resource_is))

    fails : (r : Row) → row_named account resource rows ≡ Some r → (m : ℕ) (s : Row) → row_of m (without r.shown.number rows) ≡ Some s → is_named account resource s ≡ false
    fails r is m s found =
        elim (cases_Bool (is_named account resource s)) [
          | inl passed ↦ absurd (other r is m s found passed)
          | inr failed ↦ failed
        ]

    go : (o : Option Row) → row_named account resource rows ≡ o → row_named account resource (less o rows) ≡ None
    go None is = is
    go (Some r) is =
        find_no next 1 (is_named account resource) (without r.shown.number rows) (table_without r.shown.number next rows table).ascending (fails r is)

-- a free queue stays free
pub free_less : (queue next : ℕ) (p : Row → Bool) (rows : List Row) (old new : PoolView) → IsTable rows next → IsFree queue rows old → Drops (find p rows) old new → IsFree queue (less (find p rows) rows) new
free_less queue next p rows old new table free drops = go (find p rows) refl drops
  where
    go : (o : Option Row) → find p rows ≡ o → Drops o old new → IsFree queue (less o rows) new
    go None is same = record { empty = same.each queue ∙ free.empty; unused = free.unused }
    go (Some r) is gone =
        record {
          empty = gone.others queue (λ same. free.unused r.shown.number r (found_by_number next 1 p r rows table.ascending is) (sym same)) ∙ free.empty;
          unused = λ n s found. free.unused n s (from_without n r.shown.number s rows found).1;
        }
