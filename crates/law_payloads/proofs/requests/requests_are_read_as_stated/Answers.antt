use Rattle.std.proofs.Common.{codes, refl}
use Rattle.im_payload.specs.Names.{disco_info, pings, roster, sessions}
use Rattle.law_payloads.proofs.RequestReads.{switch_answers}
use Rattle.law_payloads.proofs.ManagementReads.{bare_answers}
use Rattle.law_payloads.proofs.requests.requests_are_read_as_stated.Goals as goal

pub returns-clause-switch : goal.returns-clause-switch
returns-clause-switch c = switch_answers

pub returns-clause-ping : goal.returns-clause-ping
returns-clause-ping c = bare_answers pings (codes "ping") (record {}) (λ v w. refl)

pub returns-clause-disco_info : goal.returns-clause-disco_info
returns-clause-disco_info c = bare_answers disco_info (codes "query") (record {}) (λ v w. refl)

pub returns-clause-roster : goal.returns-clause-roster
returns-clause-roster c = bare_answers roster (codes "query") (record {}) (λ v w. refl)

pub returns-clause-session : goal.returns-clause-session
returns-clause-session c = bare_answers sessions (codes "session") (record {}) (λ v w. refl)
