use Rattle.law_calm.proofs.Quiet.{empty_then}
use Rattle.law_calm.proofs.rounds.what_is_under_way_comes_to_its_end.Goals as goal

pub returns : goal.returns
returns g c = λ v last k p conn d reached here is online rounds at flows. empty_then v last k p conn d reached here is online rounds at flows
