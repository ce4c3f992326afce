use Rattle.sim_4_links_follow.proofs.Downs.{ask_in, say_in}
use Rattle.sim_4_links_follow.proofs.worlds.users_are_followed.Goals as goal

pub returns : goal.returns
returns c = record {
  says = λ who logins w v d to text private n s reached is within. say_in who logins w v d s reached is within to text private n;
  asks = λ who logins w v d most s reached is within. ask_in who logins w v d s reached is within most;
}
