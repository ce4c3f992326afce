-- The names that clauses see are those of the accounts.
use Rattle.std.proofs.Common.{sym, ap, ◌∙◌}
use Rattle.std.specs.List.{slice_get}
use Rattle.cmd_replay.proofs.HomeLists.{name_there, position_in_view}
use Rattle.cmd_replay.specs.Homes.{HomesView, names_of}
use Rattle.cmd_replay.proofs.run.accounts.Accounts.name.Goals as goal

pub returns : goal.returns
returns c =
    ap (λ (v : HomesView). slice_get (names_of v.homes) c.args.position) (sym c.self.view_is)
    ∙ name_there c.self.inside.accounts.items c.args.position c.index.result.now c.index.ensures
    (position_in_view c.self.inside.keep c.self.inside.accounts.items c.args.self.now c.args.position c.self.view_is c.requires)
