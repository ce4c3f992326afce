use Rattle.im_mam.proofs.FinLaws.{no_index_told}
use Rattle.im_mam.proofs.laws.no_index_is_told_where_it_is_left_out.Goals as goal

pub returns : goal.returns
returns c = no_index_told
