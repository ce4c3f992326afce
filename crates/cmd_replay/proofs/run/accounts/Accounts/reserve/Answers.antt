-- The account at the place has its archive with more room, and the lists that clauses see are as they were.
use Rattle.std.proofs.Common.{sym, ap, ◌∙◌, arith}
use Rattle.std.proofs.lemmas.Grind.{common_steps}
use Rattle.cmd_replay.proofs.HomeLists.{few_of_view, few_there, homes_kept, keeps_set, keeps_there, position_in_view, rooms_raised, room_there}
use Rattle.cmd_replay.specs.Homes.{HomesView, names_of}
use Rattle.cmd_replay.proofs.run.accounts.Accounts.reserve.Goals as goal
use Rattle.cmd_replay.proofs.run.accounts.Accounts.reserve.Goals.{in-Ok, in-Err-NoMemory}

pub unreachable-requires : goal.unreachable-requires
unreachable-requires c =
    let items = c.self.inside.accounts.items in
    let few = few_there items c.args.position c.index_mut.result.now c.index_mut.ensures.value
    (position_in_view c.self.inside.keep items c.args.self.now c.args.position c.self.view_is c.requires.there)
    (few_of_view c.self.inside.keep items c.args.self.now c.self.view_is c.requires.few) in
    grind (arith, common_steps, c.in-Err-Full.ensures.full, few)

pub invariant_of-self : goal.invariant_of-self
invariant_of-self c =
    let items = c.self.inside.accounts.items in
    let there = position_in_view c.self.inside.keep items c.args.self.now c.args.position c.self.view_is c.requires.there in
    let keeps = keeps_there c.self.inside.keep items c.args.position c.index_mut.result.now c.self.invariant.2 c.index_mut.ensures.value there in (
      c.self.invariant.0 ∙ ap names_of (sym (homes_kept items c.args.position c.index_mut.result.now c.reserve.new.self c.index_mut.ensures.value c.reserve.ensures.last c.reserve.ensures.entries)),
      c.self.invariant.1,
      keeps_set c.self.inside.keep items c.args.position (record { name = c.index_mut.result.now.name; archive = c.reserve.new.self }) c.self.invariant.2 (c.reserve.ensures.keep ∙ keeps),
    )

pub returns-clause-ok : goal.returns-clause-ok
returns-clause-ok c =
    let there = position_in_view c.self.inside.keep c.self.inside.accounts.items c.args.self.now c.args.position c.self.view_is c.requires.there in
    elim c.match-reserve.branch [
      | in-Ok w ↦ rw (w.result-is, room_there c.self.inside.accounts.items c.args.position _ there) w.in-Ok.ensures.spare
      | in-Err-NoMemory w ↦ rw w.result-is tt
    ]

pub returns-clause-homes : goal.returns-clause-homes
returns-clause-homes c =
    homes_kept c.self.inside.accounts.items c.args.position c.index_mut.result.now c.reserve.new.self c.index_mut.ensures.value c.reserve.ensures.last c.reserve.ensures.entries
    ∙ ap (λ (v : HomesView). v.homes) c.self.view_is

pub returns-clause-others : goal.returns-clause-others
returns-clause-others c k =
    rw (sym (ap (λ (v : HomesView). v.rooms) c.self.view_is))
    (rooms_raised c.self.inside.accounts.items c.args.position c.index_mut.result.now c.reserve.new.self c.index_mut.ensures.value c.reserve.ensures.kept k)
