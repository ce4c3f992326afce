use Rattle.std.proofs.Common.{◌≡◌, ◌+◌, ◌++◌, ◌∷◌, drop, get_or, sym}
use Rattle.std.proofs.lemmas.List.{drop_more}
use Rattle.cmd_sync.specs.Texts.{entries_text}
use Rattle.cmd_sync.proofs.LoggedPages.{entries_step}
use Rattle.cmd_sync.proofs.logged.append_entries.Goals as goal

pub loop-tile-preserved : goal.loop-tile-preserved
loop-tile-preserved c =
    let at = c.loop-tile in
    let tiles = c.args.tiles.now in
    let tile = c.tile-item.result in
    let following = drop (at.tile-index + 1) tiles in
    let here : drop at.tile-index tiles ≡ tile ∷ following =
    let more : drop at.tile-index tiles ≡ get_or tiles at.tile-index tile ∷ following = drop_more tiles at.tile-index tile c.loop-tile-test.true in
    rw (sym c.tile-item.is) at more in
    rw (c.in_ok-append_logged_page.ensures, c.first_entries.ensures.page, c.first_entries.ensures.rest, c.is_break.ensures)
    (entries_step at.out.items (c.args.out.now.items ++ entries_text 0 tiles c.args.entries.now) at.before c.saturating_add-before.result tile following
    at.rest.now c.saturating_add-before.ensures (rw here at at.invariant))
