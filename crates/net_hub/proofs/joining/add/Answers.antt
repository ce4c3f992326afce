use Rattle.std.proofs.Common.{◌++◌, [], ◌∷◌, ℕ, List, subst, sym}
use Rattle.std.specs.Prelude.{OnOk}
use Rattle.srv_state.specs.Seen.{out_of}
use Rattle.srv_state.specs.State.{Out}
use Rattle.srv_state.specs.declared.output.Output.{Output}
use Rattle.net_hub.proofs.Joins.{for_none}
use Rattle.net_hub.proofs.joining.add.Goals as goal
use Rattle.net_hub.specs.Bundles.{AreJoined}

pub returns-in-Put : goal.returns-in-Put
returns-in-Put c =
    subst (λ (o : Output). OnOk c.add_bytes.result ((outs : List (Out (List ℕ))) → AreJoined c.args.bundles.now outs → AreJoined c.add_bytes.new.bundles (outs ++ out_of o ∷ []))) (sym c.in-Put.is)
    c.add_bytes.ensures

pub returns-in-Shut : goal.returns-in-Shut
returns-in-Shut c =
    subst (λ (o : Output). OnOk c.add_shut.result ((outs : List (Out (List ℕ))) → AreJoined c.args.bundles.now outs → AreJoined c.add_shut.new.bundles (outs ++ out_of o ∷ []))) (sym c.in-Shut.is)
    c.add_shut.ensures

pub returns : goal.returns
returns c outs are =
    subst (λ (o : Output). AreJoined c.args.bundles.now (outs ++ out_of o ∷ [])) (sym c.in-Took.is) (for_none c.args.bundles.now _ _ _ outs are)
