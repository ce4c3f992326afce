-- What the sessions of a server hear of a submission, in the words of the applications.
use Rattle.std.specs.Prelude.{ℕ, ◌==◌, int_le, pos, Bool, not, ◌&&◌, ◌||◌, if◌then◌else◌, List, [], ◌∷◌}
use Rattle.std.specs.Str.{bytes_eq}
use Rattle.srv_state.specs.State.{ServerState}
use Rattle.sm_live.specs.Sessions.{Session}
use Rattle.cmd_schedule.specs.Contents.{Owned}
use Rattle.sim_1_applications.specs.Devices.{Take, concerns, last_of}
use Rattle.sim_1_applications.specs.Events.{taking}
use Rattle.sim_1_applications.specs.Stanzas.{Down, Submission}
use Rattle.sim_1_applications.specs.Stanzas.Down.{Live}
use Rattle.sim_1_applications.specs.Stanzas.Up.{Message}
use Rattle.xml_writer.specs.Items.{ItemOut}

-- what is taken now: the message, where an account has the name that it is to
abbrev pub taken_now : List (List ℕ) → ServerState ItemOut → ℕ → Owned → Submission → List Take
taken_now names h i o m = taking names h.moment i o.account (Message m ∷ [])

-- the session of the device at a place hears of a take: as one of the recipient's that gets messages, or by a carbon
-- (`hears_of` of the applications)
abbrev pub hears_in : Take → ℕ → Owned → Session ItemOut → Bool
hears_in t j o u =
    (bytes_eq o.account t.said.to && (u.shown.available && int_le (pos 0) u.shown.priority))
    || (not t.said.private && u.shown.carbons && concerns o.account t && not (j == t.device))

-- what it reads of what was taken, of which there is one at most: the last number of the archive of its account
abbrev pub heard_in : List Take → List Take → ℕ → Owned → Session ItemOut → List Down
heard_in takes [] j o u = []
heard_in takes (t ∷ more) j o u = if hears_in t j o u then Live (last_of takes o.account) ∷ [] else []

-- a reply is for one session
abbrev pub only_at : ℕ → ℕ → List Down → List Down
only_at number own reply = if number == own then reply else []
