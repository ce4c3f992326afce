use Rattle.sim_5_moves.proofs.SessionWordsWords.{session_word_runs}
use Rattle.sim_5_moves.proofs.session_words.session_words_come_down.Goals as goal

pub returns : goal.returns
returns c = session_word_runs
