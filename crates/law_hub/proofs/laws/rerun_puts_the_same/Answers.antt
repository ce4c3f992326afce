use Rattle.law_hub.proofs.JournalLaws.{put_again, put_out}
use Rattle.law_hub.proofs.laws.rerun_puts_the_same.Goals as goal

pub returns : goal.returns
returns c = record {
  puts = λ accounts n told drawn old new journal again served is. put_out accounts n told drawn old new journal served again is;
  carried = λ accounts n told drawn old new journal again served is. put_again accounts n told drawn old new journal served again is;
}
