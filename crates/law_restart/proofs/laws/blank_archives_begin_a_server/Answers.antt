use Rattle.std.proofs.Common.{ℕ, List, [], ap}
use Rattle.law_restart.proofs.Stamped.{no_stamps}
use Rattle.law_restart.proofs.laws.blank_archives_begin_a_server.Goals as goal
use Rattle.srv_core.specs.Configs.{archives_of}
use Rattle.srv_core.specs.Events.{whole}
use Rattle.srv_core.specs.Restarts.{greatest}

pub returns : goal.returns
returns g c domain accounts keep =
    ap (λ (stamps : List ℕ). whole (record { domain = domain; accounts = accounts; archives = archives_of domain keep accounts; sessions = []; next = 1; conns = []; moment = greatest 0 stamps }) []) (no_stamps domain keep accounts)
