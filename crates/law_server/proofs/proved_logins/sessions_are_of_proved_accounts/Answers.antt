use Rattle.law_server.proofs.ProvedEvents.{ready_proved, restart_proved, session_proved}
use Rattle.law_server.proofs.proved_logins.sessions_are_of_proved_accounts.Goals as goal

pub returns : goal.returns
returns g c = record {
  session = λ say domain accounts keep events k t may found. session_proved say domain accounts keep events may k t found;
  restart = λ say domain accounts keep events k account x may opened is. restart_proved say domain accounts keep events may k account x opened is;
  ready = λ say domain accounts keep events k account x may opened is. ready_proved say domain accounts keep events may k account x opened is;
}
