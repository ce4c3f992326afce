use Rattle.sim_2_links.proofs.Reached.{link_kept}
use Rattle.sim_2_links.proofs.Numbers.{reached_rises}
use Rattle.sim_2_links.proofs.Taking.{up_taken}
use Rattle.sim_2_links.proofs.Reading.{down_read}
use Rattle.sim_2_links.proofs.Expected.{expected_up, expected_down}
use Rattle.sim_2_links.proofs.links.words_come_where_they_are_expected.Goals as goal

pub returns-clause-up : goal.returns-clause-up
returns-clause-up g c = λ v k conn w rest reached is first. expected_up v k conn w rest (link_kept v reached) is first

pub returns-clause-down : goal.returns-clause-down
returns-clause-down g c = λ v k conn w rest reached here is first. expected_down v k conn w rest (link_kept v reached) here is first

pub returns-clause-taken : goal.returns-clause-taken
returns-clause-taken g c = λ v k conn w rest reached is first. up_taken v k conn w rest (link_kept v reached) (reached_rises v reached) is first

pub returns-clause-read : goal.returns-clause-read
returns-clause-read g c = λ v k conn w rest reached here is first. down_read v k conn w rest (link_kept v reached) here is first
