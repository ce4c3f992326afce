-- What is known of a try, by what its device's client says of its submissions and has in its log.
use Rattle.std.specs.Prelude.{ℕ, zero, suc, ◌+◌, ◌==◌, nat_le, Bool, true, false, ◌&&◌, ◌||◌, not, List, [], ◌∷◌, drop, slice_get, if◌then◌else◌}
use Rattle.std.specs.List.{list_any}
use Rattle.std.specs.Option.{option_map_or}
use Rattle.std.specs.Str.{bytes_eq}
use Rattle.cl_handlers.specs.Clients.{ClientView}
use Rattle.mam_log.specs.declared.log_entry.LogEntry.{LogEntry}
use Rattle.sm_outbox.specs.Submissions.{all_said, origin_of}
use Rattle.sm_outbox.specs.declared.said.Said.{Said}
use Rattle.sm_outbox.specs.declared.said.SaidState.{SaidState}
use Rattle.sm_outbox.specs.declared.said.SaidState.TheVariants as said
use Rattle.cl_intents.specs.declared.intents.Try.{Try}
use Rattle.cl_intents.specs.declared.states.IntentState.{IntentState}
use Rattle.cl_intents.specs.declared.states.IntentState.TheVariants.{Absent, Done, Undecided, Unsure, Waiting}

-- ---- what the client says of its submissions

abbrev pub is_acknowledged : SaidState → Bool
is_acknowledged said.Acknowledged = true
is_acknowledged said.Waiting = false
is_acknowledged said.Undecided = false

abbrev pub is_waiting : SaidState → Bool
is_waiting said.Acknowledged = false
is_waiting said.Waiting = true
is_waiting said.Undecided = false

-- the try's submission is among these, in a state of such a kind
abbrev pub is_said : (SaidState → Bool) → Try → List Said → Bool
is_said kind t submissions = list_any (λ (s : Said). (s.epoch == t.epoch && s.n == t.n) && kind s.state) submissions

-- ---- what its log has

-- the resource of a full address: what follows its first `/` (RFC 7622, section 3.1)
abbrev pub resource_of : List ℕ → List ℕ
resource_of [] = []
resource_of (b ∷ bs) = if b == 47 then bs else resource_of bs

-- the entry is of the try: its sender is the device, and its origin id is the submission's (XEP-0359)
abbrev pub is_entry : List ℕ → Try → LogEntry → Bool
is_entry full t e = bytes_eq e.entry.from full && bytes_eq (origin_of (resource_of full) t.epoch t.n) e.entry.origin

-- such an entry was logged after the try
abbrev pub is_logged : List ℕ → Try → List LogEntry → Bool
is_logged full t entries = list_any (is_entry full t) (drop t.logged entries)

-- some number isn't one more than the one before it
abbrev pub has_gap : ℕ → List LogEntry → Bool
has_gap before [] = false
has_gap before (e ∷ es) = not (e.entry.number == before + 1) || has_gap e.entry.number es

-- the number before the entry at an index; before the first one it is 0
abbrev pub number_before : ℕ → List LogEntry → ℕ
number_before zero entries = 0
number_before (suc index) entries = option_map_or (λ (e : LogEntry). e.entry.number) (slice_get entries index) 0

-- the log has a hole at an index or after it: entries between were purged before they could be logged
abbrev pub has_hole : ℕ → List LogEntry → Bool
has_hole index entries = has_gap (number_before index entries) (drop index entries)

-- ---- both

-- The first line that fits decides. The device has the full address, and an epoch is sure: a complete page was asked for
-- since it began.
abbrev pub state_of : {A : Type 0} → List ℕ → ℕ → ClientView A → Try → IntentState
state_of full sure c t =
    if is_said is_acknowledged t (all_said c.said) || is_logged full t c.log.entries then Done
    else (if is_said is_waiting t (all_said c.said) then Waiting
    else (if nat_le sure t.epoch then Undecided
    else (if has_hole t.logged c.log.entries then Unsure else Absent)))
