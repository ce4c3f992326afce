use Rattle.sim_5_moves.proofs.LabelEvents.{beside, own_replied, own_taken}
use Rattle.sim_5_moves.proofs.stanza_events.labels_are_handled.Goals as goal

pub returns-clause-beside : goal.returns-clause-beside
returns-clause-beside g c = λ r zs t number j e last interleaved counted is. beside r t number j e last zs interleaved counted is

pub returns-clause-own : goal.returns-clause-own
returns-clause-own g c = λ r z zs t number i d last same interleaved is. own_taken r t number i d last z zs same interleaved is

pub returns-clause-replied : goal.returns-clause-replied
returns-clause-replied g c = λ r z zs reply d last interleaved whole. own_replied r z zs reply d last interleaved whole
