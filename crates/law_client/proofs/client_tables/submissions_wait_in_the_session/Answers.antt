use Rattle.std.proofs.Common.{refl}
use Rattle.law_client.proofs.SubmissionsKept.{as_many_wait, keeping_law}
use Rattle.law_client.proofs.TableWalk.{calls_by, items_by}
use Rattle.law_client.proofs.client_tables.submissions_wait_in_the_session.Goals as goal

pub returns : goal.returns
returns g c = record {
  begins = λ speech account. refl;
  items = λ speech items t stands wait. (items_by (keeping_law speech) items t (record { stands = stands; wait = wait })).wait;
  calls = λ speech calls f stands wait. (calls_by (keeping_law speech) calls f (record { stands = stands; wait = wait })).wait;
  number = as_many_wait;
}
