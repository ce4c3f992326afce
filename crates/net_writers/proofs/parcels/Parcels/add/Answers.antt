use Rattle.std.proofs.Common.{refl}
use Rattle.net_writers.proofs.JoinedParcels.{added_to_last, first_added, first_within, last_within, next_added, next_within}
use Rattle.net_writers.proofs.parcels.Parcels.add.Goals as goal

pub returns-then-is_empty-clause-ok : goal.returns-then-is_empty-clause-ok
returns-then-is_empty-clause-ok c = first_added c.args.self.now _ c.args.bytes.items (c.is_empty.ensures.none c.if-is_empty.true) refl refl

pub returns-then-is_empty-clause-within : goal.returns-then-is_empty-clause-within
returns-then-is_empty-clause-within c = λ most room short. first_within c.args.self.now _ c.args.bytes.items refl refl most short
