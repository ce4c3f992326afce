use Rattle.law_xml.proofs.FitsAgain as again
use Rattle.law_xml.proofs.PassedOn.{stream_can_pass}
use Rattle.law_xml.proofs.round_trips.what_is_read_fits.Goals as goal

pub returns-clause-fits : goal.returns-clause-fits
returns-clause-fits c = again.read_fits

pub returns-clause-server_to_client : goal.returns-clause-server_to_client
returns-clause-server_to_client c = again.relayed_fits

pub returns-clause-header : goal.returns-clause-header
returns-clause-header c = again.header_scope_short

pub returns-clause-passed_on : goal.returns-clause-passed_on
returns-clause-passed_on c = again.passed_on

pub returns-clause-stream : goal.returns-clause-stream
returns-clause-stream c = stream_can_pass
