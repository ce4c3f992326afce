use Rattle.law_client.proofs.LogLaws.{grown_law}
use Rattle.law_client.proofs.TableWalk.{calls_by, items_by}
use Rattle.law_client.proofs.client_tables.logs_grow_by_pages.Goals as goal

pub returns : goal.returns
returns g c = record {
  items = λ speech items t. items_by (grown_law speech) items t;
  calls = λ speech calls f. calls_by (grown_law speech) calls f;
}
