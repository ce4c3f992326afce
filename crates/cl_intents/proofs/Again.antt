-- Who looks again notes nothing new.
use Rattle.std.proofs.Common.{◌≡◌, ℕ, ◌==◌, Bool, true, false, cond, List, length, refl, ap, ◌∙◌}
use Rattle.std.specs.Prelude.{drop}
use Rattle.std.proofs.Math.Seq.{drop-length}
use Rattle.std.proofs.lemmas.Bool.{eq-eqb, eqb-true}
use Rattle.cl_handlers.specs.Clients.{ClientView}
use Rattle.mam_log.specs.declared.tile.Tile.{Tile}
use Rattle.cl_intents.specs.Intents.{IntentsView, has_complete, observed}

abbrev noted : IntentsView → ℕ → ℕ → ℕ → IntentsView
noted v seen mark sure = record v { seen = seen; mark = mark; sure = sure }

marks : (e mark count : ℕ) → cond (e == e) mark count ≡ mark
marks e mark count = ap (λ b. cond b mark count) (eq-eqb e e refl)

module _ (e : ℕ) (ts : List Tile) (v : IntentsView) where
  by_complete : (c : Bool) → e ≡ v.seen → cond c e (cond c v.seen v.sure) ≡ cond c v.seen v.sure
  by_complete true same = same
  by_complete false same = refl

  by_epoch : (b : Bool) → (e == v.seen) ≡ b → cond (has_complete (drop (cond b v.mark (length ts)) ts)) e (cond (has_complete (drop v.mark ts)) v.seen v.sure) ≡ cond (has_complete (drop v.mark ts)) v.seen v.sure
  by_epoch true is = by_complete (has_complete (drop v.mark ts)) (eqb-true e v.seen is)
  by_epoch false is = ap (λ l. cond (has_complete l) e (cond (has_complete (drop v.mark ts)) v.seen v.sure)) (drop-length ts)

pub look_again : (c : ClientView (List ℕ)) (v : IntentsView) → observed c (observed c v) ≡ observed c v
look_again c v =
    let once = observed c v in
    ap (λ m. noted v c.epoch m (cond (has_complete (drop once.mark c.log.tiles)) c.epoch once.sure)) (marks c.epoch once.mark (length c.log.tiles))
    ∙ ap (noted v c.epoch once.mark) (by_epoch c.epoch c.log.tiles v (c.epoch == v.seen) refl)
