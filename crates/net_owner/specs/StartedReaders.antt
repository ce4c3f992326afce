-- The readers that were started, at their places, and the count of the spawner that started them.
use Rattle.std.specs.Prelude.{◌≡◌, ℕ, suc, List, [], ◌∷◌, ◌++◌, map, Option, Some, None}
use Rattle.net_owner.specs.declared.position.Slot.{Slot}
use Rattle.net_owner.specs.Acceptors.{counted_times}
use Rattle.net_owner.specs.declared.reader.ReaderJob.{ReaderJob}

-- how many there are
unfoldable pub count_some : {W : Type 0} → List (Option W) → ℕ
count_some [] = 0
count_some (None ∷ ws) = count_some ws
count_some (Some w ∷ ws) = suc (count_some ws)

module _ {R I P : Type 0} where
  -- the reader at each place, where one was started
  abbrev pub workers_of : List (Slot R I P) → List (Option (ReaderJob R I P))
  workers_of positions = map (λ p. p.worker) positions

  -- how many readers were started
  abbrev pub readers_in : List (Slot R I P) → ℕ
  readers_in positions = count_some (workers_of positions)

  -- Each reader that stood at its place stands there, and behind these stand those that were started since: they are as many as
  -- the spawner counted.
  pub record HasStarted (old new : List (Slot R I P)) (started_old started_new : ℕ) : Type 0 where
    pub more : List (Option (ReaderJob R I P))
    pub workers : workers_of new ≡ workers_of old ++ more
    pub started : started_new ≡ counted_times (count_some more) started_old
