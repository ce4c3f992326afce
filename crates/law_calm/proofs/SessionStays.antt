-- Each move leaves the server the session that it counts, but where it ends it.
use Rattle.std.proofs.Common.{◌≡◌, ◌⊎◌, ℕ, true, false, List, refl, ap, ◌∙◌, inl, inr, Option, Some}
use Rattle.sim_2_links.proofs.CutLinks.{some_one}
use Rattle.sim_2_links.proofs.Reached.{link_kept}
use Rattle.sim_2_links.proofs.Refusals.{too_high_left}
use Rattle.sim_2_links.specs.Views.{View, Row}
use Rattle.sim_2_links.specs.Links.{LinkKept}
use Rattle.sim_2_links.specs.Machine.{LinkMove, Cuts, Dials, LetsGo, Foots, Forgets, Puts, Queues, Requests, ReadsHand, AsksToResume, AsksToBind, ReadsFailed, ReadsResumed, ReadsBound, ReadsEnabled, ReadsStanza, ReadsRequest, ReadsCount, TakesHand, TakesResume, TakesLateResume, TakesStrangeResume, TakesHighResume, TakesBind, TakesEnable, TakesStanza, TakesRequest, TakesCount, TakesFoot, Parks, Hears, HearsEarly, Detaches, Shuts, EndsRow, Serves, Keeps, Demands, LinkMoves, LinkReached, LinkReaches}
use Rattle.law_calm.proofs.StaysOpen.{until}
use Rattle.law_calm.specs.Ends.{EndsSession, HasCounted, IsAmong}

abbrev row_of : {A : Type 0} (v : View A) → Option (Row A)
row_of v = v.row

module _ {A : Type 0} (p : ℕ) (v next : View A) (kept : LinkKept v) (has : HasCounted p v) where
  -- the row is as it was
  same : next.row ≡ v.row → HasCounted p next
  same gives = record { row = has.row; is = gives ∙ has.is; number = has.number; counted = has.counted }

  -- or it is changed, and of the same session
  turned : (old new : Row A) → v.row ≡ Some old → next.row ≡ Some new → new.number ≡ old.number → (old.counted ≡ true → new.counted ≡ true) → HasCounted p next
  turned old new was now number counted =
      let one : old ≡ has.row = some_one v.row old has.row was has.is in
      record { row = new; is = now; number = number ∙ ap (λ (r : Row A). r.number) one ∙ has.number; counted = counted (ap (λ (r : Row A). r.counted) one ∙ has.counted) }

  -- none that isn't counted
  uncounted : (row : Row A) → v.row ≡ Some row → row.counted ≡ false → ⊥
  uncounted row is un =
      let one : row ≡ has.row = some_one v.row row has.row is has.is in
      let counted : row.counted ≡ true = ap (λ (r : Row A). r.counted) one ∙ has.counted in
      let no_way : ⊥ = cc in no_way

  goes : (move : LinkMove A) → LinkMoves move v next → HasCounted p next ⊎ EndsSession move v
  goes (Cuts j a b) m = inl (same (ap row_of m.gives))
  goes (Dials j) m = inl (same (ap row_of m.gives))
  goes (LetsGo j) m = inl (same (ap row_of m.gives))
  goes (Foots j) m = inl (same (ap row_of m.gives))
  goes Forgets m = inl (same (ap row_of m.gives))
  goes (Puts j z) m = inl (same (ap row_of m.gives))
  goes (Queues z) m = inl (same (ap row_of m.gives))
  goes (Requests j) m = inl (same (ap row_of m.gives))
  goes (ReadsHand j) m = inl (same (ap row_of m.gives))
  goes (AsksToResume j) m = inl (same (ap row_of m.gives))
  goes (AsksToBind j) m = inl (same (ap row_of m.gives))
  goes (ReadsFailed j) m = inl (same (ap row_of m.gives))
  goes (ReadsResumed j) m = inl (same (ap row_of m.gives))
  goes (ReadsBound j n) m = inl (same (ap row_of m.gives))
  goes (ReadsEnabled j n) m = inl (same (ap row_of m.gives))
  goes (ReadsStanza j z) m = inl (same (ap row_of m.gives))
  goes (ReadsRequest j) m = inl (same (ap row_of m.gives))
  goes (ReadsCount j h) m = inl (same (ap row_of m.gives))
  goes (TakesHand j) m = inl (same (ap row_of m.gives))
  goes (TakesResume j) m = inl (turned m.row _ m.is_row (ap row_of m.gives) refl (λ e. e))
  goes (TakesLateResume j) m = inl (turned m.row _ m.is_row (ap row_of m.gives) refl (λ e. e))
  goes (TakesStrangeResume j) m = inl (same (ap row_of m.gives))
  goes (TakesHighResume j) m = inr (too_high_left j v next m kept)
  goes (TakesBind j n) m = absurd (let none = m.none in let is = has.is in let no_way : ⊥ = cc in no_way)
  goes (TakesEnable j) m = absurd (uncounted m.row m.is_row m.uncounted)
  goes (TakesStanza j z) m = inl (turned m.row _ m.is_row (ap row_of m.gives) refl (λ e. e))
  goes (TakesRequest j) m = inl (same (ap row_of m.gives))
  goes (TakesCount j h) m = inl (turned m.row _ m.is_row (ap row_of m.gives) refl (λ e. e))
  goes (TakesFoot j) m = inl (same (ap row_of m.gives))
  goes (Parks j) m = inl (turned m.row _ m.is_row (ap row_of m.gives) refl (λ e. e))
  goes (Hears j) m = inl (same (ap row_of m.gives))
  goes (HearsEarly j) m = absurd (uncounted m.row m.is_row m.uncounted)
  goes (Detaches j ending) m = inl (turned m.row _ m.is_row (ap row_of m.gives) refl (λ e. e))
  goes (Shuts j ending) m = absurd (uncounted m.row m.is_row m.uncounted)
  goes EndsRow m = inr tt
  goes (Serves j z) m = inl (turned m.row _ m.is_row (ap row_of m.gives) refl (λ e. e))
  goes (Keeps z) m = inl (turned m.row _ m.is_row (ap row_of m.gives) refl (λ e. e))
  goes (Demands j) m = inl (same (ap row_of m.gives))

pub session_stays : {A : Type 0} (moves : List (LinkMove A)) (v last : View A) (p : ℕ) → LinkReached v → HasCounted p v → LinkReaches moves v last → HasCounted p last ⊎ IsAmong (HasCounted p) EndsSession moves v last
session_stays {A = A} moves v last p reached has leads =
    until (HasCounted p) EndsSession (λ (move : LinkMove A) (u next : View A) kept so made. goes p u next kept so move made) moves v last (link_kept v reached) has leads
