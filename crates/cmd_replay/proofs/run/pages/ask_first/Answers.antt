-- An archive has a first page.
use Rattle.std.proofs.Common.{sym, ◌∙◌, arith}
use Rattle.std.proofs.lemmas.Option.{none-some}
use Rattle.cmd_direct.proofs.NextPages.{page_of_first}
use Rattle.cmd_replay.proofs.run.pages.ask_first.Goals as goal

pub unreachable-requires : goal.unreachable-requires
unreachable-requires c =
    let first = page_of_first 0 c.args.archive.now.last c.args.most c.args.archive.now.owner c.args.archive.now.entries c.requires (omega arith) in
    none-some _ (sym (c.in_ok-cut.ensures ∙ c.in-None.is) ∙ first)
