-- The account at the place has the entry at its archive's end.
use Rattle.std.proofs.Common.{◌≡◌, [], ◌∷◌, ◌++◌, map, set, sym, ap, ◌∙◌}
use Rattle.mam_archive.specs.Entries.{newest, numbered}
use Rattle.cmd_replay.proofs.HomeLists.{few_of_view, few_there, homes_appended, keeps_set, keeps_there, names_kept, position_in_view, rooms_elsewhere}
use Rattle.cmd_replay.specs.Homes.{HomesView, appended_at, home_of_account, names_of}
use Rattle.cmd_replay.proofs.run.accounts.Accounts.append.Goals as goal

pub append_reserved-requires-clause-room : goal.append_reserved-requires-clause-room
append_reserved-requires-clause-room c =
    let items = c.self.inside.accounts.items in
    few_there items c.args.position c.index_mut.result.now c.index_mut.ensures.value
    (position_in_view c.self.inside.keep items c.args.self.now c.args.position c.self.view_is c.requires.there)
    (few_of_view c.self.inside.keep items c.args.self.now c.self.view_is c.requires.few)

keeps : (c : goal.After-self-1) → c.index_mut.result.now.archive.keep ≡ c.self.inside.keep
keeps c =
    let items = c.self.inside.accounts.items in
    keeps_there c.self.inside.keep items c.args.position c.index_mut.result.now c.self.invariant.2 c.index_mut.ensures.value
    (position_in_view c.self.inside.keep items c.args.self.now c.args.position c.self.view_is c.requires.there)

made : (c : goal.After-self-1) →
    map home_of_account (set c.self.inside.accounts.items c.args.position (record { name = c.index_mut.result.now.name; archive = c.append_reserved.new.self }))
    ≡ appended_at c.self.inside.keep c.args.position c.args.entry (map home_of_account c.self.inside.accounts.items)
made c =
    let archive = c.index_mut.result.now.archive in
    homes_appended c.self.inside.keep c.self.inside.accounts.items c.args.position c.index_mut.result.now c.append_reserved.new.self c.args.entry c.index_mut.ensures.value
    (position_in_view c.self.inside.keep c.self.inside.accounts.items c.args.self.now c.args.position c.self.view_is c.requires.there)
    (c.append_reserved.ensures.last ∙ c.append_reserved.ensures.number)
    (c.append_reserved.ensures.entries ∙ ap (λ k. newest k (archive.entries ++ numbered c.append_reserved.result c.args.entry ∷ [])) (keeps c)
    ∙ ap (λ n. newest c.self.inside.keep (archive.entries ++ numbered n c.args.entry ∷ [])) c.append_reserved.ensures.number)

pub invariant_of-self : goal.invariant_of-self
invariant_of-self c =
    let items = c.self.inside.accounts.items in (
      c.self.invariant.0 ∙ sym (names_kept c.self.inside.keep (map home_of_account items) c.args.position c.args.entry) ∙ ap names_of (sym (made c)),
      c.self.invariant.1,
      keeps_set c.self.inside.keep items c.args.position (record { name = c.index_mut.result.now.name; archive = c.append_reserved.new.self }) c.self.invariant.2 (c.append_reserved.ensures.keep ∙ keeps c),
    )

pub returns-clause-homes : goal.returns-clause-homes
returns-clause-homes c =
    made c ∙ ap (λ (v : HomesView). appended_at v.keep c.args.position c.args.entry v.homes) c.self.view_is

pub returns-clause-others : goal.returns-clause-others
returns-clause-others c k apart =
    rw (sym (ap (λ (v : HomesView). v.rooms) c.self.view_is))
    (rooms_elsewhere c.self.inside.accounts.items c.args.position _ k apart)
