use Rattle.law_client.proofs.CaughtUp.{exactly, later, takes}
use Rattle.law_client.proofs.NextPages.{next_page}
use Rattle.law_client.proofs.client_tables.pages_advance.Goals as goal

pub returns : goal.returns
returns g c = record { next = next_page; later = later; takes = takes; exactly = exactly }
