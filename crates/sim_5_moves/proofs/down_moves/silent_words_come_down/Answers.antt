use Rattle.sim_5_moves.proofs.Silent.{quiet_word_runs}
use Rattle.sim_5_moves.proofs.down_moves.silent_words_come_down.Goals as goal

pub returns : goal.returns
returns c = quiet_word_runs
