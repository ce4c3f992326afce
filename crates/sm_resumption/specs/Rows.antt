-- The table of sessions: a row for each session that lives.
use Rattle.std.specs.Prelude.{◌≡◌, ℕ, ◌+◌, ◌^◌, ◌<◌, ◌≤◌, ◌==◌, Bool, false, not, ◌&&◌, if◌then◌else◌, List, [], ◌∷◌, Option, None, Some, filter, find, map}
use Rattle.std.specs.Str.{bytes_eq}
use Rattle.sm_resumption.specs.declared.session.Row.{Row}

-- what clauses see of the table: the rows, ascending by number; the number that the next session gets; the account for
-- whose sessions room was made last; and how many more sessions of it fit without further memory
pub record Table : Type 0 where
  pub rows : List Row
  pub next : ℕ
  pub reservation : ℕ
  pub spare : ℕ

-- the session with a number
abbrev pub row_of : ℕ → List Row → Option Row
row_of n rows = find (λ r. r.shown.number == n) rows

abbrev pub is_some_number : ℕ → Option ℕ → Bool
is_some_number n None = false
is_some_number n (Some m) = m == n

-- the session on a connection
abbrev pub is_at : ℕ → Row → Bool
is_at conn r = is_some_number conn r.shown.conn

abbrev pub row_at : ℕ → List Row → Option Row
row_at conn rows = find (is_at conn) rows

-- a session of an account
abbrev pub is_of : ℕ → Row → Bool
is_of account r = r.shown.account == account

-- the session of an account with a resource
abbrev pub is_named : ℕ → List ℕ → Row → Bool
is_named account resource r = (r.shown.account == account) && bytes_eq r.shown.resource resource

abbrev pub row_named : ℕ → List ℕ → List Row → Option Row
row_named account resource rows = find (is_named account resource) rows

-- the rows but that of a number
abbrev pub without : ℕ → List Row → List Row
without n rows = filter (λ r. not (r.shown.number == n)) rows

-- the rows but that of a session, where there is one
abbrev pub less : Option Row → List Row → List Row
less None rows = rows
less (Some r) rows = without r.shown.number rows

-- the rows with that of a number changed
abbrev pub with_row : ℕ → (Row → Row) → List Row → List Row
with_row n f rows = map (λ r. if r.shown.number == n then f r else r) rows

-- each number is at least `low` and above those before it, and `next` is above them all
abbrev pub RisesTo : ℕ → ℕ → List Row → Type 0
RisesTo next low [] = low ≤ next
RisesTo next low (r ∷ rows) = (low ≤ r.shown.number) × RisesTo next (r.shown.number + 1) rows

-- numbers ascend from 1 and stay below the next, which fits 64 bits; a connection has one session at most, and so has a resource of an
-- account (RFC 6120 section 7.7.2.2)
pub record IsTable (rows : List Row) (next : ℕ) : Type 0 where
  pub ascending : RisesTo next 1 rows
  pub fits : next < 2 ^ 64
  pub conns : (m n conn : ℕ) (r s : Row) → row_of m rows ≡ Some r → row_of n rows ≡ Some s → r.shown.conn ≡ Some conn → s.shown.conn ≡ Some conn → m ≡ n
  pub names : (m n : ℕ) (r s : Row) → row_of m rows ≡ Some r → row_of n rows ≡ Some s → r.shown.account ≡ s.shown.account → r.shown.resource ≡ s.shown.resource → m ≡ n
