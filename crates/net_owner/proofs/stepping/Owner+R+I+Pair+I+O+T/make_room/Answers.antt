use Rattle.net_owner.proofs.HeldHalves.{held_roomed}
use Rattle.net_owner.proofs.OwnerSteps.{with_room}
use Rattle.net_owner.proofs.stepping.Owner+R+I+Pair+I+O+T.make_room.Goals as goal

pub returns-clause-coming : goal.returns-clause-coming
returns-clause-coming g c = with_room g.T.Taker.events c.args.self.now c.reserve.new.self c.requires.coming c.reserve.ensures.items

pub returns-clause-held : goal.returns-clause-held
returns-clause-held g c = held_roomed g.I.Incoming.told g.T.Taker.numbers c.args.self.now c.reserve.new.self c.reserve.ensures.items c.requires.held

pub returns-in_err-reserve-clause-held : goal.returns-in_err-reserve-clause-held
returns-in_err-reserve-clause-held g c = held_roomed g.I.Incoming.told g.T.Taker.numbers c.args.self.now c.reserve.new.self c.reserve.ensures.items c.requires.held
