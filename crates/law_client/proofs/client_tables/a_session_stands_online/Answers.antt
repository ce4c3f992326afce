use Rattle.std.proofs.Common.{refl}
use Rattle.law_client.proofs.Standings.{first_stands, standing_law}
use Rattle.law_client.proofs.TableWalk.{calls_by, items_by}
use Rattle.law_client.proofs.client_tables.a_session_stands_online.Goals as goal

pub returns : goal.returns
returns g c = record {
  new = λ account. refl;
  begins = first_stands;
  items = λ speech items t. items_by (standing_law speech) items t;
  calls = λ speech calls f. calls_by (standing_law speech) calls f;
}
