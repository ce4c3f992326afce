-- The rows of a client, evaluated at small clients whose items are told as they are.
use Rattle.std.proofs.Common.{◌≡◌, ℕ, true, false, List, [], ◌∷◌, Some, None, Err, refl, codes}
use Rattle.std.specs.Option.{option_map}
use Rattle.cl_handlers.specs.AckRows.{ack_row}
use Rattle.cl_handlers.specs.Clients.{ClientStep, ClientView}
use Rattle.cl_core.specs.PageRows.{restarts}
use Rattle.cl_handlers.specs.SessionRows.{begins, begins_epoch, failed_row, resumed_row, resumes_or_binds}
use Rattle.cl_handlers.specs.Speech.{in_items, Acknowledged as AcknowledgedNote, Ended as EndedNote}
use Rattle.cl_handlers.specs.ClientSteps.{left}
use Rattle.cl_core.specs.UserCalls.{catch_up_answer, catches_up}
use Rattle.cl_handlers.specs.declared.account.Account.{Account}
use Rattle.cl_handlers.specs.declared.events.Event.TheVariants.{Acked, Ended, ResumeFailed, Resumed}
use Rattle.cl_handlers.specs.declared.events.PeerFault.TheVariants.{TooHigh}
use Rattle.cl_core.specs.declared.faults.CatchUpStart.TheVariants.{Underway}
use Rattle.cl_handlers.specs.declared.phase.Phase.TheVariants as phase
use Rattle.mam_log.specs.Views.{LogView}
use Rattle.sm_outbox.specs.Sessions.{SessionView}
use Rattle.sm_outbox.specs.Waiting.{Waiting}
use Rattle.sm_outbox.specs.declared.said.Said.{Said}
use Rattle.sm_outbox.specs.declared.said.SaidState.{SaidState}
use Rattle.sm_outbox.specs.declared.said.SaidState.TheVariants.{Acknowledged, Undecided, Waiting as StillWaiting}
use Rattle.im_replies.specs.Management.{request_item}
use Rattle.im_replies.specs.Streams.{too_high_item}
use Rattle.im_requests.specs.Messages.{page_item, queryid_text, submission_item}
use Rattle.im_requests.specs.Sessions.{available_item, bind_item, carbons_item, enable_item, resume_item}
use Rattle.xml_writer.specs.Items.{Closing, ItemOut}

abbrev a : List ℕ
a = 97 ∷ []

abbrev account : Account
account = record { bare = a; resource = a; login = record { name = a; domain = a; password = a } }

abbrev empty_log : LogView
empty_log = record { entries = []; tiles = []; page = None; held = [] }

abbrev one : SaidState → Said
one state = record { epoch = 1; n = 1; to = a; text = a; private = false; state = state }

abbrev hi : ItemOut
hi = submission_item a a a false

-- the two stanzas of a session's beginning and a submission wait
abbrev three : Waiting ItemOut
three = record { acked = 0; handled = 5; queue = carbons_item ∷ available_item ∷ hi ∷ []; submissions = false ∷ false ∷ true ∷ [] }

abbrev session : SessionView ItemOut
session = record { previd = a; waiting = three }

abbrev bound : ClientView ItemOut
bound = record { account = account; log = empty_log; said = record { settled = []; waiting = one StillWaiting ∷ [] }; epoch = 1; n = 1; pages = 0; session = Some session; phase = phase.Online }

abbrev now : ClientStep ItemOut ItemOut
now = record { client = bound; out = record { put = []; events = []; notes = [] } }

-- ---- acknowledgements

-- a count of two acknowledges no submission, one of three acknowledges it
two_acknowledged : (ack_row in_items now session 2).client.said ≡ record { settled = []; waiting = one StillWaiting ∷ [] }
two_acknowledged = refl

all_acknowledged : (ack_row in_items now session 3).client.said ≡ record { settled = one Acknowledged ∷ []; waiting = [] }
all_acknowledged = refl

all_noted : (ack_row in_items now session 3).out ≡ record { put = []; events = Acked 3 ∷ []; notes = AcknowledgedNote 3 ∷ [] }
all_noted = refl

-- one more is too high: the session ends, and what became of the submission isn't known
too_high_ends : (ack_row in_items now session 4).client ≡ record bound { session = None; phase = phase.Apart; said = record { settled = one Undecided ∷ []; waiting = [] } }
too_high_ends = refl

too_high_put : (ack_row in_items now session 4).out ≡ record { put = too_high_item 4 3 ∷ Closing ∷ []; events = Ended (TooHigh (record { h = 4; send_count = 3 })) ∷ []; notes = EndedNote ∷ [] }
too_high_put = refl

-- ---- sessions

-- the session is to go on, of which five stanzas were handled
resumption_asked : (resumes_or_binds in_items now bound.session).out.put ≡ resume_item a 5 ∷ []
resumption_asked = refl

-- at a count of two the submission is put again, and at one of three nothing is
one_put_again : (resumed_row in_items now session 2).out.put ≡ hi ∷ request_item ∷ []
one_put_again = refl

nothing_put_again : (resumed_row in_items now session 3).out ≡ record { put = []; events = Acked 3 ∷ Resumed ∷ []; notes = AcknowledgedNote 3 ∷ [] }
nothing_put_again = refl

-- a loss of the connection keeps the session
parked : (left now).client.session ≡ Some session
parked = refl

-- a resource is bound where the session can't be resumed
failed_binds : (failed_row in_items now).out ≡ record { put = bind_item a ∷ []; events = ResumeFailed ∷ []; notes = EndedNote ∷ [] }
failed_binds = refl

epoch_rises : (begins_epoch in_items now).client.epoch ≡ 2
epoch_rises = refl

first_put : (begins in_items now a).out.put ≡ carbons_item ∷ available_item ∷ []
first_put = refl

-- ---- pages

-- a page is asked for behind the last entry, of which there is none, and another isn't while it is open
page_asked : (catches_up in_items now 10).out.put ≡ page_item (queryid_text 1) None 10 ∷ request_item ∷ []
page_asked = refl

underway : catch_up_answer (catches_up in_items now 10).client ≡ Err Underway
underway = refl

-- the page asked for anew has another id
asked_anew : (restarts in_items (catches_up in_items now 10) (catches_up in_items now 10).client.session 10).client.pages ≡ 2
asked_anew = refl
