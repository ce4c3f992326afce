-- How the table keeps its rows: by number, beside a list of the numbers in which those of ended sessions may stand too.
use Rattle.std.specs.Prelude.{◌≡◌, ℕ, ◌+◌, ◌≤◌, Bool, true, false, List, [], ◌∷◌, Option, None, Some, filter, is_some, map}
use Rattle.sm_resumption.specs.Moves.{is_expired, number_of}
use Rattle.sm_resumption.specs.Rows.{IsTable, is_at, is_named, row_of}
use Rattle.sm_resumption.specs.declared.session.Row.{Row}
use Rattle.sm_resumption.specs.declared.sought.Sought.{Sought}
use Rattle.sm_resumption.specs.declared.sought.Sought.TheVariants.{Conn, Expired, Named}

abbrev pub ahead_of : Option Row → List Row → List Row
ahead_of None rows = rows
ahead_of (Some r) rows = r ∷ rows

-- the rows of numbers, in their order
abbrev pub collected : (ℕ → Option Row) → List ℕ → List Row
collected get [] = []
collected get (n ∷ numbers) = ahead_of (get n) (collected get numbers)

-- the numbers ascend from `low`, and `next` is above them
abbrev pub Climbs : ℕ → ℕ → List ℕ → Type 0
Climbs next low [] = low ≤ next
Climbs next low (n ∷ numbers) = (low ≤ n) × Climbs next (n + 1) numbers

-- the rows are found by their numbers, which are listed in order, among those of sessions that ended
pub record IsStored (get : ℕ → Option Row) (numbers : List ℕ) (next : ℕ) (rows : List Row) : Type 0 where
  pub listed : filter (λ n. is_some (get n)) numbers ≡ map number_of rows
  pub climbing : Climbs next 1 numbers
  pub found : (n : ℕ) → get n ≡ row_of n rows
  pub table : IsTable rows next

-- a session that is sought by something else than its number
abbrev pub seeks : Sought → Row → Bool
seeks (Conn conn) r = is_at conn r
seeks (Named account resource) r = is_named account resource.now r
seeks (Expired now) r = is_expired now r

abbrev pub passes : (Row → Bool) → Option Row → Bool
passes p None = false
passes p (Some r) = p r

-- a session with a number passes a test
abbrev pub Meets : (Row → Bool) → ℕ → List Row → Type 0
Meets p n rows = (r : Row) × (row_of n rows ≡ Some r) × (p r ≡ true)
