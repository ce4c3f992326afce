use Rattle.law_client.proofs.TableRendered.{bytes_rendered, calls_rendered, items_rendered}
use Rattle.law_client.proofs.client_tables.bytes_are_those_of_items.Goals as goal

pub returns : goal.returns
returns c = record { rendered = items_rendered bytes_rendered; calls = calls_rendered bytes_rendered }
