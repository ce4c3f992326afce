use Rattle.law_server.proofs.TableRendered.{items_rendered}
use Rattle.law_server.proofs.server_tables.table_is_the_same_however_written.Goals as goal

pub returns : goal.returns
returns g c = items_rendered
