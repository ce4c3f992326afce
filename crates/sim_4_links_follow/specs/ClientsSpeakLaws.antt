-- What the laws of `clients_speak` say.
use Rattle.std.specs.Prelude.{◌≡◌, ℕ, ◌<◌, ◌^◌, Bool, true, IfSome, List, Ok, Option}
use Rattle.cl_core.specs.PageRows.{answer_to}
use Rattle.cl_core.specs.UserCalls.{catch_up_answer, catches_up, say_answer, says}
use Rattle.law_limits.specs.Answerable.{IsItemAnswerable}
use Rattle.law_limits.specs.Within.{IsClientWithin}
use Rattle.cl_handlers.specs.Speech.{in_items}
use Rattle.sim_4_links_follow.specs.Speaking.{IsBareAddress}
use Rattle.sim_3_items.specs.Counted.{IsForServer}
use Rattle.sim_3_items.specs.Identities.{Identity, Login}
use Rattle.sim_3_items.specs.Reading.{IsNextDown, IsRead, IsRepresentedHere, SpeakingFollows}
use Rattle.sim_3_items.specs.ItemPipes.{ItemWire}
use Rattle.sim_3_items.specs.ItemWorlds.{ItemDevice, read_of, silent_client_step}
use Rattle.sim_2_links.specs.Views.{Table, View}
use Rattle.sim_2_links.specs.Words.{Down, St}
use Rattle.sm_outbox.specs.Submissions.{origin_of}
use Rattle.cmd_report.specs.Addresses.{bare_address}
use Rattle.im_requests.specs.Messages.{page_item, queryid_text, submission_item}
use Rattle.im_requests.specs.Sessions.{available_item, carbons_item}
use Rattle.law_limits.specs.Bounds.{IsTextWithin, most_address, most_id, most_part, most_text}
use Rattle.cmd_schedule.specs.Grammar.{is_name}
use Rattle.im_stanza.specs.Views.{IqView}
use Rattle.xml_writer.specs.Items.{ItemOut}

abbrev pub WhatAClientPutsIsTakenCarbons : Type 0
WhatAClientPutsIsTakenCarbons =
    IsForServer carbons_item

abbrev pub WhatAClientPutsIsTakenAvailable : Type 0
WhatAClientPutsIsTakenAvailable =
    IsForServer available_item

abbrev pub WhatAClientPutsIsTakenPage : Type 0
WhatAClientPutsIsTakenPage =
    (number max : ℕ) (after : Option (List ℕ)) → number < 2 ^ 64 → IfSome after (IsTextWithin most_id) → max < 2 ^ 32 → IsForServer (page_item (queryid_text number) after max)

abbrev pub WhatAClientPutsIsTakenAnswer : Type 0
WhatAClientPutsIsTakenAnswer =
    (q : IqView) (ping : Bool) → IfSome q.from (IsTextWithin most_address) → IsTextWithin most_id q.id → IsForServer (answer_to q ping)

abbrev pub WhatAClientPutsIsTakenSubmission : Type 0
WhatAClientPutsIsTakenSubmission =
    (resource to text : List ℕ) (epoch n : ℕ) (private : Bool) → IsTextWithin most_part resource → epoch < 2 ^ 64 → n < 2 ^ 64 → IsBareAddress to → IsTextWithin most_text text
    → IsForServer (submission_item (origin_of resource epoch n) to text private)

abbrev pub StanzasAreRead : Type 0
StanzasAreRead =
    (who : Identity) (logins : ℕ → Login) (d : ItemDevice) (wires : Table ItemWire) (v : View ItemOut) (k : ℕ) (z : ItemOut) (p : IsNextDown who logins d wires v k (Down (St z)))
    → IsClientWithin d.client → IsItemAnswerable (read_of z) → IsRead who logins d wires v k p.conn p.wire (Down (St z))

abbrev pub SubmissionsFollow : Type 0
SubmissionsFollow =
    (who : Identity) (logins : ℕ → Login) (d : ItemDevice) (wires : Table ItemWire) (v : View ItemOut) (shown : IsRepresentedHere who logins d wires v) (to text : List ℕ) (private : Bool) (n : ℕ)
    → IsClientWithin d.client → IsBareAddress to → IsTextWithin most_text text → say_answer d.client text ≡ Ok n
    → SpeakingFollows who logins d wires v (says in_items (silent_client_step d.client) to text private)

abbrev pub CatchUpsFollow : Type 0
CatchUpsFollow =
    (who : Identity) (logins : ℕ → Login) (d : ItemDevice) (wires : Table ItemWire) (v : View ItemOut) (shown : IsRepresentedHere who logins d wires v) (most : ℕ)
    → IsClientWithin d.client → most < 2 ^ 32 → catch_up_answer d.client ≡ Ok tt
    → SpeakingFollows who logins d wires v (catches_up in_items (silent_client_step d.client) most)

abbrev pub AccountsHaveBareAddresses : Type 0
AccountsHaveBareAddresses =
    (account : List ℕ) → is_name account ≡ true → IsBareAddress (bare_address account)
