use Rattle.law_client.proofs.TableRendered.{calls_rendered, items_rendered}
use Rattle.law_client.proofs.client_tables.table_is_the_same_however_written.Goals as goal

pub returns : goal.returns
returns g c = record {
  items = λ p q f g k same items t. items_rendered same items t;
  calls = λ p q f g k same calls fed. calls_rendered same calls fed;
}
