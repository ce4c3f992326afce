use Rattle.sim_5_moves.proofs.ClockUps.{silent_runs}
use Rattle.sim_5_moves.proofs.clock.silent_words_go_up.Goals as goal

pub returns : goal.returns
returns c = λ schedule b right small says position w x runs wire i items there pipe o owned logins v has silent.
    silent_runs schedule b says w x right small runs position wire i items there pipe o owned logins v has silent
