use Rattle.sim_2_links.proofs.Reached.{link_kept}
use Rattle.sim_2_links.proofs.Promised.{up_way, down_way}
use Rattle.sim_2_links.proofs.links.what_is_under_way_is_in_the_pipes.Goals as goal

pub returns-clause-up : goal.returns-clause-up
returns-clause-up g c = λ v k conn r reached is is_row on counted. up_way v k conn r (link_kept v reached) is is_row on counted

pub returns-clause-down : goal.returns-clause-down
returns-clause-down g c = λ v k p conn reached here is carried. down_way v k p conn (link_kept v reached) here is carried
