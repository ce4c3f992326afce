-- Which event each move tells, if it tells one.
use Rattle.std.specs.Prelude.{◌≡◌, ℕ, Option, None, Some}
use Rattle.std.specs.Option.{option_map}
use Rattle.sim_2_links.specs.Events.{Bound, Counted, Dropped, Ended, Handled, Heard, Known, Learned, LinkEvent, Named, Said, Served, own_number, row_number}
use Rattle.sim_2_links.specs.Machine.{EndsRow, Forgets, HearsEarly, Keeps, LinkMove, Puts, Queues, ReadsBound, ReadsCount, ReadsEnabled, ReadsFailed, ReadsResumed, ReadsStanza, Serves, Shuts, TakesBind, TakesEnable, TakesHighResume, TakesStanza}
use Rattle.sim_2_links.specs.Views.{View}

-- an event of the session that the server has live, or of the client's
abbrev pub of_row : {A : Type 0} → (ℕ → LinkEvent A) → View A → Option (LinkEvent A)
of_row tell v = option_map tell (row_number v.row)

abbrev pub of_own : {A : Type 0} → (ℕ → LinkEvent A) → View A → Option (LinkEvent A)
of_own tell v = option_map tell (own_number v.own)

abbrev pub Tells : {A : Type 0} → LinkMove A → View A → Option (LinkEvent A) → Type 0
Tells Forgets v e = e ≡ of_own Dropped v
Tells (Puts k z) v e = e ≡ of_own (λ p. Said p z) v
Tells (Queues z) v e = e ≡ of_own (λ p. Said p z) v
Tells (ReadsFailed k) v e = e ≡ of_own Dropped v
Tells (ReadsResumed k) v e = (h : ℕ) × (e ≡ of_own (λ p. Learned p h) v)
Tells (ReadsBound k m) v e = e ≡ Some (Named m)
Tells (ReadsEnabled k m) v e = e ≡ Some (Known m)
Tells (ReadsStanza k z) v e = e ≡ of_own (λ p. Heard p z) v
Tells (ReadsCount k h) v e = e ≡ of_own (λ p. Learned p h) v
Tells (TakesHighResume k) v e = e ≡ of_row Ended v
Tells (TakesBind k m) v e = e ≡ Some (Bound m)
Tells (TakesEnable k) v e = e ≡ of_row Counted v
Tells (TakesStanza k z) v e = e ≡ of_row (λ p. Handled p z) v
Tells (HearsEarly k) v e = e ≡ of_row Ended v
Tells (Shuts k ending) v e = e ≡ of_row Ended v
Tells EndsRow v e = e ≡ of_row Ended v
Tells (Serves k z) v e = e ≡ of_row (λ p. Served p z) v
Tells (Keeps z) v e = e ≡ of_row (λ p. Served p z) v
Tells _ v e = e ≡ None
