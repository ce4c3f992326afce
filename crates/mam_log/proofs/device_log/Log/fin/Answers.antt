use Rattle.std.proofs.Common.{◌≡◌, ap, ◌∙◌}
use Rattle.mam_log.proofs.Tilings.{IsSound-joined}
use Rattle.mam_log.specs.Views.{OpenPage}
use Rattle.mam_log.proofs.device_log.Log.fin.Goals as goal

-- the page's results joined the entries
pub invariant_of-self-in-Ok : goal.invariant_of-self-in-Ok
invariant_of-self-in-Ok c =
    let entries : c.as_slice-2.result.now ≡ c.self.inside.entries.items = c.as_slice-2.ensures ∙ c.make_room.ensures.entries in
    IsSound-joined c.self.inside.order.items _ c.self.inside.entries.items _ c.self.inside.tiles.items _ c.self.inside.breaks.items _ c.self.inside.held _ c.self.inside.page c.take_page.new.page c.args.queryid.now c.in-Some.page c.args.fin.now.complete c.args.fin.now.count
    c.self.invariant
    c.in-Some.ensures.taken
    c.in-Some.ensures.left
    c.take_over.ensures.order
    (rw entries at c.in-Ok.ensures.fresh)
    c.in-Ok.ensures.advances
    (rw c.make_room.ensures.entries at c.take_over.ensures.entries)
    (rw c.make_room.ensures.tiles at c.take_over.ensures.tiles)
    (rw (c.make_room.ensures.breaks, c.make_room.ensures.entries) at c.take_over.ensures.breaks)
    (rw (c.as_slice-in-Ok.ensures ∙ ap (λ (p : OpenPage). p.results) c.page.view_is) at c.let_go.ensures)
