use Rattle.std.proofs.Common.{refl}
use Rattle.mam_pages.proofs.StretchCuts.{whole_is}
use Rattle.mam_pages.proofs.stretch.whole_stretch.Goals as goal

pub returns-clause-stretch : goal.returns-clause-stretch
returns-clause-stretch c numbers last rises ends reach edge =
    whole_is c.args.span.now last numbers c.args.chain.now
    (record { number = c.end_of.result; skipped = 0; found = c.args.chain.now.count; count = c.args.chain.now.count })
    rises ends reach edge refl refl refl c.end_of.ensures
