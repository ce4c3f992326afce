-- What is sent of a page of an archive to the session with a number (XEP-0313, sections 4.2 and 4.3).
use Rattle.std.specs.Prelude.{ℕ, List, [], ◌∷◌, Option, Some, None}
use Rattle.mam_archive.specs.Entries.{EntryView}
use Rattle.srv_state.specs.Steps.{Act, Send}
use Rattle.im_forwarding.specs.Queries.{no_such_place}
use Rattle.im_forwarding.specs.Results.{AskerView, fin_item}
use Rattle.mam_pages.specs.Cuts.{CutView}
use Rattle.im_replies.specs.Requests.{EnvelopeView, iq_error_item}
use Rattle.srv_handlers.specs.Requests.{sending_entries}
use Rattle.xml_writer.specs.Items.{ItemOut}

-- the refusal where there is no such place; else each result, and then the end of the page
abbrev pub page_sent : {A : Type 0} → (ItemOut → A) → ℕ → AskerView → EnvelopeView → List EntryView → Option CutView → List (Act A)
page_sent say n asker envelope entries None = Send n (say (iq_error_item envelope no_such_place)) ∷ []
page_sent say n asker envelope entries (Some cut) = sending_entries say n asker entries cut.numbers (Send n (say (fin_item envelope cut)) ∷ [])
