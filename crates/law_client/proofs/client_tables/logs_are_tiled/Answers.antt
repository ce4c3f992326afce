use Rattle.law_client.proofs.KeptLogs.{empty_kept}
use Rattle.law_client.proofs.LogLaws.{follow_unbroken, kept_law}
use Rattle.law_client.proofs.TableWalk.{calls_by, items_by}
use Rattle.law_client.proofs.client_tables.logs_are_tiled.Goals as goal

pub returns : goal.returns
returns g c = record {
  begins = λ account. empty_kept;
  items = λ speech items t. items_by (kept_law speech) items t;
  calls = λ speech calls f. calls_by (kept_law speech) calls f;
  breaks = follow_unbroken;
}
