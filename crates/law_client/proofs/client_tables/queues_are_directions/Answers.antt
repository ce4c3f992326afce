use Rattle.law_client.proofs.Directing.{acknowledged_directed, begun_directed, handled_directed, put_directed, requested_directed, resumed_directed}
use Rattle.law_client.proofs.client_tables.queues_are_directions.Goals as goal

pub returns : goal.returns
returns g c = record {
  begins = begun_directed;
  puts = put_directed;
  requests = requested_directed;
  handles = handled_directed;
  acknowledges = acknowledged_directed;
  resumes = resumed_directed;
}
