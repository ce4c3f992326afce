-- Looking twice notes no more than looking once.
use Rattle.std.proofs.Common.{◌≡◌, ℕ, zero, suc, ◌==◌, Bool, true, false, cond, List, [], ◌∷◌, length, refl, ap, ◌∙◌}
use Rattle.std.specs.Prelude.{drop}
use Rattle.std.proofs.lemmas.Bool.{eq-eqb, eqb-true}
use Rattle.sim_1_applications.specs.Devices.{Tile}
use Rattle.law_intents.specs.Intents.{Notes, has_complete, observed}

abbrev notes : ℕ → ℕ → ℕ → Notes
notes seen mark sure = record { seen = seen; mark = mark; sure = sure }

drop_all : (ts : List Tile) → drop (length ts) ts ≡ []
drop_all [] = refl
drop_all (t ∷ ts) = drop_all ts

pub look_again : (e : ℕ) (ts : List Tile) (o : Notes) → observed e ts (observed e ts o) ≡ observed e ts o
look_again e ts o =
    ap (λ m. notes e m (cond (has_complete (drop (observed e ts o).mark ts)) e (observed e ts o).sure)) (ap (λ b. cond b (observed e ts o).mark (length ts)) (eq-eqb e e refl))
    ∙ ap (notes e (observed e ts o).mark) (chosen (e == o.seen) refl)
  where
    by_complete : (c : Bool) → e ≡ o.seen → cond c e (cond c o.seen o.sure) ≡ cond c o.seen o.sure
    by_complete true same = same
    by_complete false same = refl

    chosen : (b : Bool) → (e == o.seen) ≡ b → cond (has_complete (drop (cond b o.mark (length ts)) ts)) e (cond (has_complete (drop o.mark ts)) o.seen o.sure) ≡ cond (has_complete (drop o.mark ts)) o.seen o.sure
    chosen true is = by_complete (has_complete (drop o.mark ts)) (eqb-true e o.seen is)
    chosen false is = ap (λ l. cond (has_complete l) e (cond (has_complete (drop o.mark ts)) o.seen o.sure)) (drop_all ts)
