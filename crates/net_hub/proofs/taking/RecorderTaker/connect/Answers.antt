use Rattle.std.proofs.Common.{[], ◌∷◌, refl, rules, subst, sym}
use Rattle.cmd_journal.specs.Journals.{Connect}
use Rattle.net_owner.proofs.HeldHalves.{first_same}
use Rattle.net_hub.proofs.MoreEvents.{bares_more, is_moment_told}
use Rattle.net_hub.proofs.taking.RecorderTaker.connect.Goals as goal
use Rattle.net_hub.specs.Records.{IsKept}
use Rattle.net_traits.proofs.ToldSince.{since_more}
use Rattle.net_traits.specs.ToldSince.{ToldSince}

pub begin-requires-clause-kept : goal.begin-requires-clause-kept
begin-requires-clause-kept g c = c.requires.right

pub begin-requires-clause-moment : goal.begin-requires-clause-moment
begin-requires-clause-moment g c = is_moment_told c.now_ms-now.result c.now_ms-now.ensures.last

pub begin-requires-clause-entropy : goal.begin-requires-clause-entropy
begin-requires-clause-entropy g c = (search (rules, c.are_bytes.ensures), c.fill.array_long)

pub returns-clause-came : goal.returns-clause-came
returns-clause-came g c = bares_more c.args.self.now.events.items c.begin.new.self.events.items (Connect c.args.k c.now_ms-now.result c.fill.new.out) c.in_ok-begin.ensures.events

pub returns-clause-right : goal.returns-clause-right
returns-clause-right g c = λ told drawn since.
    since_more _ _ _ _ _ _ (c.now_ms-now.result ∷ []) c.fill.new.out (λ ms bs. IsKept g.O.Outgoing.told ms bs c.args.self.now) (λ ms bs. IsKept g.O.Outgoing.told ms bs c.begin.new.self)
    c.now_ms-now.ensures.told c.in-Ok.ensures.drawn c.in_ok-begin.ensures.kept since

pub returns-in-Err-clause-halves : goal.returns-in-Err-clause-halves
returns-in-Err-clause-halves g c = first_same _ _ refl

pub returns-in-Err-clause-right : goal.returns-in-Err-clause-right
returns-in-Err-clause-right g c = λ told drawn since.
    subst (λ now. ToldSince told drawn (g.C.Clock.told c.args.clock.now) now (λ ms bs. IsKept g.O.Outgoing.told ms bs c.args.self.now)) (sym c.in-Err.ensures.none) since
