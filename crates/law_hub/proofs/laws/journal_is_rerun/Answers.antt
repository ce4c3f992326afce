use Rattle.law_hub.proofs.JournalLaws.{ends_alike, journal_read, journal_says}
use Rattle.law_hub.proofs.laws.journal_is_rerun.Goals as goal

pub returns : goal.returns
returns c = record {
  says = journal_says;
  read = journal_read;
  ends = λ accounts n told drawn old new journal again served is. ends_alike accounts n told drawn old new journal served again is;
}
