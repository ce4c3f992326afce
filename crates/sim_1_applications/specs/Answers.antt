-- What the server answers to a request, by numbers: the archive keeps the entries first, first + 1, .., last.
use Rattle.std.specs.Prelude.{ℕ, zero, suc, ◌+◌, ◌-◌, min, nat_le, Bool, true, ◌&&◌, List, [], ◌∷◌, ◌++◌, Option, Some, None, map, if◌then◌else◌}
use Rattle.sim_1_applications.specs.Stanzas.{Request, Down}
use Rattle.sim_1_applications.specs.Stanzas.Down.{Res, Fin, NotFound}

-- the next so many numbers behind n
abbrev pub following : ℕ → ℕ → List ℕ
following n zero = []
following n (suc k) = suc n ∷ following (suc n) k

abbrev pub last_in : List ℕ → Option ℕ
last_in [] = None
last_in (n ∷ []) = Some n
last_in (n ∷ m ∷ ns) = last_in (m ∷ ns)

-- the place is the archive's beginning, or an entry that it keeps
abbrev pub is_position : ℕ → ℕ → Option ℕ → Bool
is_position first last None = true
is_position first last (Some n) = nat_le first n && nat_le n last

-- the number behind which the page begins
abbrev pub edge : ℕ → Option ℕ → ℕ
edge first None = first - 1
edge first (Some n) = n

-- how many entries it has
abbrev pub size : ℕ → ℕ → ℕ → ℕ
size low last max = min max (last - low)

abbrev pub page_from : ℕ → ℕ → ℕ → Request → List Down
page_from low first last r =
    map (Res r.number) (following low (size low last r.max))
    ++ Fin r.number (nat_le (last - low) r.max) (last_in (following low (size low last r.max))) (last + 1 - first) ∷ []

abbrev pub page_answer_of : ℕ → ℕ → Request → List Down
page_answer_of first last r =
    if is_position first last r.after then page_from (edge first r.after) first last r else NotFound r.number ∷ []
