use Rattle.std.proofs.Common.{ap}
use Rattle.sim_2_links.proofs.Reached.{link_kept}
use Rattle.sim_2_links.proofs.Refusals.{too_high_left}
use Rattle.sim_2_links.proofs.Promised.{up_count_within, down_count_within, resumed_within, resume_is_present}
use Rattle.sim_2_links.specs.Views.{View}
use Rattle.sim_2_links.proofs.links.counts_are_too_high_only_where_the_client_left.Goals as goal

pub returns-clause-too_high : goal.returns-clause-too_high
returns-clause-too_high g c = λ v next k reached m. (too_high_left k v next m (link_kept v reached), ap (λ (x : View _). x.row) m.gives)

pub returns-clause-resumption : goal.returns-clause-resumption
returns-clause-resumption g c = λ v k h conn r rest reached here is is_row first. resume_is_present v k h conn r rest (link_kept v reached) here is is_row first

pub returns-clause-server : goal.returns-clause-server
returns-clause-server g c = λ v k h conn r rest reached is is_row on counted first. up_count_within v k h conn r rest (link_kept v reached) is is_row on counted first

pub returns-clause-client : goal.returns-clause-client
returns-clause-client g c = λ v k h conn o rest reached here is is_own first. down_count_within v k h conn o rest (link_kept v reached) here is is_own first

pub returns-clause-resumed : goal.returns-clause-resumed
returns-clause-resumed g c = λ v k p h conn o rest reached here is is_own first. resumed_within v k p h conn o rest (link_kept v reached) here is is_own first
