-- What waits to be acknowledged in a client's session (XEP-0198, sections 4 and 5), over any type of what is put.
use Rattle.std.specs.Prelude.{ℕ, ◌+◌, ◌%◌, ◌^◌, ◌==◌, nat_lt, Bool, true, false, List, [], ◌∷◌, ◌++◌, Option, Some, None, length, take, drop, if◌then◌else◌}
use Rattle.sm_acks.specs.Counters.{ahead}
use Rattle.sm_acks.specs.declared.end.TheConstants.{MOST_UNACKNOWLEDGED}
use Rattle.sm_acks.specs.declared.end.TooHigh.{TooHigh}

-- how many stanzas are acknowledged, and how many of the server's were handled, both modulo 2 ^ 32; the stanzas that are
-- not acknowledged, the oldest first; and which of them are submissions
pub record Waiting (A : Type 0) : Type 0 where
  pub acked : ℕ
  pub handled : ℕ
  pub queue : List A
  pub submissions : List Bool

abbrev pub nothing_waits : {A : Type 0} → Waiting A
nothing_waits = record { acked = 0; handled = 0; queue = []; submissions = [] }

-- ---- what happens to it

-- a stanza more waits
abbrev pub queued : {A : Type 0} → Waiting A → A → Bool → Waiting A
queued w stanza is_submission = record w { queue = w.queue ++ stanza ∷ []; submissions = w.submissions ++ is_submission ∷ [] }

-- a stanza more of the server is handled
abbrev pub counted_in : {A : Type 0} → Waiting A → Waiting A
counted_in w = record w { handled = (w.handled + 1) % 2 ^ 32 }

-- the server has handled h stanzas
abbrev pub acked : {A : Type 0} → Waiting A → ℕ → Waiting A
acked w h = record w { acked = h; queue = drop (ahead h w.acked) w.queue; submissions = drop (ahead h w.acked) w.submissions }

-- as many stanzas wait as may
abbrev pub is_full : {A : Type 0} → Waiting A → Bool
is_full w = length w.queue == MOST_UNACKNOWLEDGED

-- a stanza of the server is handled, and an answer to it waits, where not as many wait as may
abbrev pub answered : {A : Type 0} → Waiting A → A → Waiting A
answered w stanza = if is_full w then counted_in w else queued (counted_in w) stanza false

-- ---- counts that the server states

-- the count is further ahead than stanzas wait: it is above what was sent
abbrev pub is_too_high : {A : Type 0} → Waiting A → ℕ → Bool
is_too_high w h = nat_lt (length w.queue) (ahead h w.acked)

-- the count, and how many stanzas were sent, modulo 2 ^ 32
abbrev pub too_high : {A : Type 0} → Waiting A → ℕ → TooHigh
too_high w h = record { h = h; send_count = (w.acked + length w.queue) % 2 ^ 32 }

abbrev pub count_true : List Bool → ℕ
count_true [] = 0
count_true (true ∷ rest) = count_true rest + 1
count_true (false ∷ rest) = count_true rest

-- 1 for a submission
abbrev pub counted : Option Bool → ℕ
counted (Some true) = 1
counted (Some false) = 0
counted None = 0

-- how many submissions are among the stanzas up to a count
abbrev pub submissions_to : {A : Type 0} → Waiting A → ℕ → ℕ
submissions_to w h = count_true (take (ahead h w.acked) w.submissions)

-- what a resumption with the count h sends again (section 5)
abbrev pub resent : {A : Type 0} → Waiting A → ℕ → List A
resent w h = drop (ahead h w.acked) w.queue
