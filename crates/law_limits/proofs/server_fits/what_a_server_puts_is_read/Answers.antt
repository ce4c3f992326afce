use Rattle.law_limits.proofs.MomentsKept.{bytes_kept, client_step_kept}
use Rattle.law_limits.proofs.TableKept.{after_kept, fault_kept, items_kept}
use Rattle.law_limits.proofs.server_fits.what_a_server_puts_is_read.Goals as goal

pub returns : goal.returns
returns c = record { item = after_kept; items = items_kept; fault = fault_kept; turn = client_step_kept; bytes = bytes_kept }
