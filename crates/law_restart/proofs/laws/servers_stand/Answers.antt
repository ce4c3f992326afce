use Rattle.law_restart.proofs.Stands.{stands}
use Rattle.law_restart.proofs.laws.servers_stand.Goals as goal

pub returns : goal.returns
returns g c say domain accounts archives session now events within low may = stands say domain accounts archives session now events within low may
