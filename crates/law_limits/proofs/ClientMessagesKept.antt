-- The rows of messages keep to the bounds.
use Rattle.std.proofs.Common.{◌≡◌, ℕ, Bool, true, false, List, [], ◌∷◌, ◌++◌, codes, length, Option, Some, None, IfSome, Result, Ok, Err, refl, if◌then◌else◌}
use Rattle.std.specs.Option.{option_map}
use Rattle.std.specs.Prelude.{nat_le}
use Rattle.law_limits.proofs.TurnsKept.{logs_within, tells_within, within_either}
use Rattle.law_limits.specs.Within.{IsClientStepWithin, IsClientWithin, IsEntryWithin, IsLogWithin, IsPageWithin}
use Rattle.cl_handlers.specs.Clients.{ClientStep, ClientView}
use Rattle.cl_handlers.specs.MessageRows.{bounce_of, held_by, held_row, is_own_or_absent, live_in, logged, message_row, message_with, other_message, own_id, refuses, result_row, result_to, tells_where}
use Rattle.cl_handlers.specs.declared.events.CatchUpFault.{CatchUpFault}
use Rattle.cl_handlers.specs.declared.events.Event.{Event}
use Rattle.im_extensions.specs.declared.forwarding.Forwarded.{Forwarded}
use Rattle.law_xml.proofs.PlainElements.{append_each}
use Rattle.mam_log.specs.LogCalls.{after_hold, may_hold}
use Rattle.mam_log.specs.Views.{LogView, OpenPage, page_for, with_result, without_page}
use Rattle.mam_log.specs.declared.log_entry.LogEntry.{LogEntry}
use Rattle.im_mam.specs.Readings.{result_read}
use Rattle.im_mam.specs.declared.archive_answers.MamResult.{MamResult}
use Rattle.im_payload.specs.Names.{archive}
use Rattle.im_payload.specs.declared.fault.ExtFault.{ExtFault}
use Rattle.law_limits.specs.Bounds.{IsTextWithin, most_id}
use Rattle.im_stanza.specs.Views.{MessageView}
use Rattle.xml_trees.specs.Readers.{elements_of, first_named}
use Rattle.xml_trees.specs.Trees.{Elem}
use Rattle.xml_writer.specs.Items.{ItemOut}

-- ---- results of a page

pub refused_within : (t : ClientStep ItemOut ItemOut) (fault : CatchUpFault) → IsClientStepWithin t → IsClientStepWithin (refuses t fault)
refused_within t fault h = tells_within _ _ (logs_within t (without_page t.client.log) h (record { entries = h.client.log.entries; page = tt }))

page_with : (o : Option OpenPage) (entry : LogEntry) → IfSome o IsPageWithin → IsEntryWithin entry → IfSome (option_map (λ (page : OpenPage). record page { results = page.results ++ entry ∷ [] }) o) IsPageWithin
page_with None entry h one = tt
page_with (Some page) entry h one = record { results = append_each IsEntryWithin page.results (entry ∷ []) h.results (one, tt); max = h.max }

result_to_within : (t : ClientStep ItemOut ItemOut) (o : Option OpenPage) (entry : LogEntry) → IsClientStepWithin t → IsEntryWithin entry → IsClientStepWithin (result_to t o entry)
result_to_within t None entry h one = h
result_to_within t (Some page) entry h one =
    let log = h.client.log in
    within_either (nat_le page.max (length page.results)) _ _ (refused_within t _ h)
    (logs_within t (with_result t.client.log entry) h (record { entries = log.entries; page = page_with t.client.log.page entry log.page one }))

result_within : (t : ClientStep ItemOut ItemOut) (read : Result MamResult ExtFault) → IsClientStepWithin t → ((r : MamResult) → read ≡ Ok r → IsTextWithin most_id r.id) → IsClientStepWithin (result_row t read)
result_within t (Ok r) h short = result_to_within t (page_for r.queryid t.client.log.page) (logged r.id r.forwarded.stamp r.forwarded.message) h (short r refl)
result_within t (Err why) h short = h

-- ---- live messages, and bounces

hold_within : (log : LogView) (live : LogEntry) → IsLogWithin log → IsLogWithin (after_hold log live)
hold_within log live h = by_case (may_hold log live.id)
  where
    by_case : (c : Bool) → IsLogWithin (if c then record log { held = log.held ++ live ∷ [] } else log)
    by_case true = record { entries = h.entries; page = h.page }
    by_case false = h

held_by_within : (c : ClientView ItemOut) (live : Forwarded) (o : Option (List ℕ)) → IsClientWithin c → IsClientWithin (held_by c live o)
held_by_within c live None h = h
held_by_within c live (Some id) h = record { account = h.account; log = hold_within c.log (logged id live.stamp live.message) h.log; epoch = h.epoch; session = h.session; phase = h.phase }

held_within : (t : ClientStep ItemOut ItemOut) (live : Forwarded) → IsClientStepWithin t → IsClientStepWithin (held_row t live)
held_within t live h = record { client = held_by_within t.client live (own_id t.client.account.bare (elements_of live.message.payload)) h.client; put = h.put }

told_within : (t : ClientStep ItemOut ItemOut) (o : Option Event) → IsClientStepWithin t → IsClientStepWithin (tells_where t o)
told_within t None h = h
told_within t (Some event) h = tells_within t event h

other_within : (t : ClientStep ItemOut ItemOut) (m : MessageView) → IsClientStepWithin t → IsClientStepWithin (other_message t m)
other_within t m h = told_within (held_row t (live_in t.client.account.bare m)) (bounce_of t.client m) (held_within t (live_in t.client.account.bare m) h)

-- ---- messages

with_within : (t : ClientStep ItemOut ItemOut) (m : MessageView) (o : Option Elem) → IsClientStepWithin t → ((given : Elem) (r : MamResult) → o ≡ Some given → result_read given ≡ Ok r → IsTextWithin most_id r.id) → IsClientStepWithin (message_with t m o)
with_within t m None h short = other_within t m h
with_within t m (Some given) h short =
    within_either (is_own_or_absent t.client.account.bare m.from) _ _ (result_within t (result_read given) h (λ r is. short given r refl is)) (other_within t m h)

pub message_within : (t : ClientStep ItemOut ItemOut) (m : MessageView) → IsClientStepWithin t → ((given : Elem) (r : MamResult) → first_named archive (codes "result") m.payload ≡ Some given → result_read given ≡ Ok r → IsTextWithin most_id r.id)
    → IsClientStepWithin (message_row t m)
message_within t m h short = with_within t m (first_named archive (codes "result") m.payload) h short
