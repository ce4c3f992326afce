-- The readers that were started, one more or as they were.
use Rattle.std.proofs.Common.{◌≡◌, ℕ, zero, suc, List, [], ◌∷◌, ◌++◌, set, Option, Some, None, append-nil, append_assoc, refl, ap, sym, ◌∙◌}
use Rattle.std.proofs.lemmas.List.{map-append}
use mathlib.Core.Option.{some, some-ne-none, some-injective}
use lib.ListN.{get_elem?}
use Rattle.base_io.specs.Counts.{counted}
use Rattle.net_owner.specs.StartedReaders.{HasStarted, count_some, workers_of}
use Rattle.net_owner.specs.declared.position.Slot.{Slot}
use Rattle.net_owner.specs.Acceptors.{counted_times}
use Rattle.net_owner.specs.declared.reader.ReaderJob.{ReaderJob}

-- those behind the others are counted behind them
pub counts_on : {W : Type 0} (xs ys : List (Option W)) (n : ℕ) → counted_times (count_some (xs ++ ys)) n ≡ counted_times (count_some ys) (counted_times (count_some xs) n)
unfolding count_some counted_times
counts_on [] ys n = refl
counts_on (None ∷ xs) ys n = counts_on xs ys n
counts_on (Some x ∷ xs) ys n = ap counted (counts_on xs ys n) ∙ later (count_some ys) (counted_times (count_some xs) n)
  where
    later : (m k : ℕ) → counted (counted_times m k) ≡ counted_times m (counted k)
    later zero k = refl
    later (suc m) k = ap counted (later m k)

module _ {R I P : Type 0} where
  -- none was started
  pub as_they_were : (old new : List (Slot R I P)) (s t : ℕ) → workers_of new ≡ workers_of old → t ≡ s → HasStarted old new s t
  unfolding count_some counted_times
  as_they_were old new s t workers same = record { more = []; workers = workers ∙ sym (append-nil (workers_of old)); started = same }

  -- what was started in two steps
  pub started_on : (old mid new : List (Slot R I P)) (s t u : ℕ) → HasStarted old mid s t → HasStarted mid new t u → HasStarted old new s u
  started_on old mid new s t u first next = record {
    more = first.more ++ next.more;
    workers = next.workers ∙ ap (λ l. l ++ next.more) first.workers ∙ append_assoc (workers_of old) first.more next.more;
    started = next.started ∙ ap (λ n. counted_times (count_some next.more) n) first.started ∙ sym (counts_on first.more next.more s);
  }

  -- a reader was started at a place behind the others
  pub one_more : (old new : List (Slot R I P)) (p : Slot R I P) (job : ReaderJob R I P) (s t : ℕ) → new ≡ old ++ p ∷ [] → p.worker ≡ Some job → t ≡ counted s → HasStarted old new s t
  unfolding count_some counted_times
  one_more old new p job s t grown is counts = record {
    more = Some job ∷ [];
    workers = ap workers_of grown ∙ map-append (λ (q : Slot R I P). q.worker) old (p ∷ []) ∙ ap (λ w. workers_of old ++ w ∷ []) is;
    started = counts;
  }

  -- none was started at a place behind the others
  pub none_more : (old new : List (Slot R I P)) (p : Slot R I P) (s t : ℕ) → new ≡ old ++ p ∷ [] → p.worker ≡ None → t ≡ s → HasStarted old new s t
  unfolding count_some counted_times
  none_more old new p s t grown is same = record {
    more = None ∷ [];
    workers = ap workers_of grown ∙ map-append (λ (q : Slot R I P). q.worker) old (p ∷ []) ∙ ap (λ w. workers_of old ++ w ∷ []) is;
    started = same;
  }

  -- a place is marked
  pub still_there : (positions : List (Slot R I P)) (i : ℕ) (p q : Slot R I P) → get_elem? positions i ≡ some p → q.worker ≡ p.worker → workers_of (set positions i q) ≡ workers_of positions
  still_there [] i p q at same = absurd (some-ne-none p (sym at))
  still_there (r ∷ positions) zero p q at same = ap (λ w. w ∷ workers_of positions) (same ∙ ap (λ (x : Slot R I P). x.worker) (sym (some-injective r p at)))
  still_there (r ∷ positions) (suc i) p q at same = ap (λ l. r.worker ∷ l) (still_there positions i p q at same)
