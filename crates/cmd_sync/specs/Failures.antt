-- Why a script is not done, which the server has to answer for.
use Rattle.std.specs.Prelude.{ℕ, List, Option, Some, None, codes}
use Rattle.cl_core.specs.declared.faults.CatchUpStart.{CatchUpStart}
use Rattle.cl_core.specs.declared.faults.CatchUpStart.TheVariants as start
use Rattle.cl_core.specs.declared.faults.SayFault.{SayFault}
use Rattle.cl_core.specs.declared.faults.SayFault.TheVariants as say
use Rattle.cl_handlers.specs.declared.events.CatchUpFault.{CatchUpFault}
use Rattle.cl_handlers.specs.declared.events.CatchUpFault.TheVariants as page
use Rattle.cl_handlers.specs.declared.events.Event.{Event}
use Rattle.cl_handlers.specs.declared.events.Event.TheVariants.{Ended, CatchUpRefused}
use Rattle.cl_handlers.specs.declared.events.PeerFault.{PeerFault}
use Rattle.cl_handlers.specs.declared.events.PeerFault.TheVariants as peer
use Rattle.im_stanza.specs.Conditions.{condition_name}
use Rattle.cmd_sync.specs.Conditions.{sent_condition}
use Rattle.cmd_sync.specs.declared.failure.PeerFailure.{PeerFailure}
use Rattle.cmd_sync.specs.declared.failure.PeerFailure.TheVariants.{Framing, Stream, Sasl, BadVerifier, Scram, NoFeature, Unexpected, TooHigh, Unacknowledged, Closed, Refused, Overrun, Mismatch, Repeats, NoAdvance, NotSaid, NotAsked, TooMuch}

abbrev pub peer_failure : PeerFault → PeerFailure
peer_failure (peer.Framing fault) = Framing
peer_failure (peer.Stream condition) = Stream (sent_condition condition)
peer_failure (peer.Sasl condition) = Sasl (sent_condition condition)
peer_failure peer.BadVerifier = BadVerifier
peer_failure peer.Scram = Scram
peer_failure peer.NoFeature = NoFeature
peer_failure peer.Unexpected = Unexpected
peer_failure (peer.TooHigh fault) = TooHigh
peer_failure peer.Unacknowledged = Unacknowledged
peer_failure peer.Closed = Closed

abbrev pub page_failure : CatchUpFault → PeerFailure
page_failure (page.Refused condition) = Refused (sent_condition (condition_name condition))
page_failure page.Overrun = Overrun
page_failure (page.Mismatch last got) = Mismatch
page_failure (page.Repeats id) = Repeats
page_failure page.NoAdvance = NoAdvance

-- the failure that an event tells: the connection was left, or a catch-up ended before its last page
abbrev pub failure_of : Event → Option PeerFailure
failure_of (Ended fault) = Some (peer_failure fault)
failure_of (CatchUpRefused fault) = Some (page_failure fault)
failure_of _ = None

-- ---- names

abbrev pub say_name : SayFault → List ℕ
say_name say.BadText = codes "BadText"
say_name say.NotBound = codes "NotBound"
say_name say.OutboxFull = codes "OutboxFull"
say_name say.NoMemory = codes "NoMemory"

abbrev pub ask_name : CatchUpStart → List ℕ
ask_name start.NotBound = codes "NotBound"
ask_name start.OutboxFull = codes "OutboxFull"
ask_name start.Underway = codes "Underway"
ask_name start.NoMemory = codes "NoMemory"

abbrev pub failure_name : PeerFailure → List ℕ
failure_name Framing = codes "Framing"
failure_name (Stream condition) = codes "Stream"
failure_name (Sasl condition) = codes "Sasl"
failure_name BadVerifier = codes "BadVerifier"
failure_name Scram = codes "Scram"
failure_name NoFeature = codes "NoFeature"
failure_name Unexpected = codes "Unexpected"
failure_name TooHigh = codes "TooHigh"
failure_name Unacknowledged = codes "Unacknowledged"
failure_name Closed = codes "Closed"
failure_name (Refused condition) = codes "Refused"
failure_name Overrun = codes "Overrun"
failure_name Mismatch = codes "Mismatch"
failure_name Repeats = codes "Repeats"
failure_name NoAdvance = codes "NoAdvance"
failure_name (NotSaid fault) = say_name fault
failure_name (NotAsked fault) = ask_name fault
failure_name TooMuch = codes "TooMuch"
