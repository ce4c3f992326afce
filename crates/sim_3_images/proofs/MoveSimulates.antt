-- The moves of items that a move of bytes is are such as keep all within limits.
use Rattle.std.proofs.Common.{ℕ, zero, suc, Bool, true, false, List, inl, inr, refl, sym, subst}
use Rattle.std.specs.List.{AllByRecursion}
use Rattle.law_xml.proofs.PlainElements.{append_each}
use Rattle.sim_3_images.specs.ItemRuns.{AreServedUps, IsRunOf, MayMove, downs, moved_where, ups}
use Rattle.sim_3_images.specs.Fitting.{MayItem}
use Rattle.sim_3_items.specs.ItemMoves as items
use Rattle.sim_3_items.specs.ItemMoves.{ItemMove}
use Rattle.cmd_world.specs.Moves as bytes
use Rattle.cmd_world.specs.Moves.{Move}

abbrev May : List ItemMove → Type 0
May ms = AllByRecursion MayItem ms

ups_may : (position count : ℕ) → May (ups position count)
ups_may position zero = tt
ups_may position (suc count) = (tt, ups_may position count)

downs_may : (position count : ℕ) → May (downs position count)
downs_may position zero = tt
downs_may position (suc count) = (tt, downs_may position count)

where_may : (m : ItemMove) (here : Bool) → MayItem m → May (moved_where m here)
where_may m true may = (may, tt)
where_may m false may = tt

served_may : (position : ℕ) (ms : List ItemMove) → AreServedUps position ms → May ms
served_may position ms (inl none) = subst May (sym none) tt
served_may position ms (inr some) = subst May (sym some.1) (tt, ups_may position some.0)

pub runs_may : (m : Move) (ms : List ItemMove) → IsRunOf m ms → MayMove m → May ms
runs_may (bytes.Dial device) ms run may = subst May (sym run.1) ((run.0, refl, refl), tt)
runs_may (bytes.Forget device) ms run may = subst May (sym run) (tt, tt)
runs_may (bytes.Close device) ms run may = subst May (sym run) (tt, tt)
runs_may (bytes.Say device line to text private) ms run may = subst May (sym run) ((to, refl, may.0, may.1), tt)
runs_may (bytes.CatchUp device line most) ms run may = subst May (sym run) (may, tt)
runs_may (bytes.Tick milliseconds) ms run may = subst May (sym run) (tt, tt)
runs_may (bytes.Up position amount) ms run may =
    subst May (sym run.3) (append_each MayItem run.0 (moved_where (items.UpEnd position) run.1) (served_may position run.0 run.2) (where_may (items.UpEnd position) run.1 tt))
runs_may (bytes.Down position amount) ms run may =
    subst May (sym run.2) (append_each MayItem (downs position run.0) (moved_where (items.DownEnd position) run.1) (downs_may position run.0) (where_may (items.DownEnd position) run.1 tt))
runs_may (bytes.Cut position up down) ms run may = subst May (sym run.2) (tt, tt)
