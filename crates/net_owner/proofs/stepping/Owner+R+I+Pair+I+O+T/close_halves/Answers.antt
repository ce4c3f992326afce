use Rattle.net_owner.proofs.HeldHalves.{first_same, held_with}
use Rattle.net_owner.proofs.stepping.Owner+R+I+Pair+I+O+T.close_halves.Goals as goal

pub returns-clause-held : goal.returns-clause-held
returns-clause-held g c =
    let h = c.args.self.now in
    held_with g.I.Incoming.told g.T.Taker.numbers h c.close_all.new.self h.closed h.met (first_same _ _ c.close_all.ensures.halves) c.requires.held
