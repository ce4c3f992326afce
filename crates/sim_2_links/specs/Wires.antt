-- The two pipes of a connection, and one flag: they flow both, or are both ended. What was lost in an ended pipe is
-- remembered, so that a cut changes no whole pipe.
use Rattle.std.specs.Prelude.{ℕ, Bool, true, false, List, [], ◌++◌, take, drop}
use Rattle.sim_2_links.specs.Words.{UpWord, DownWord}

-- up and down while both flow; or what stays of up and down, and what was lost of up and down
pub data Wires (A : Type 0) : Type 0 where
  Flow : List (UpWord A) → List (DownWord A) → Wires A
  Stop : List (UpWord A) → List (DownWord A) → List (UpWord A) → List (DownWord A) → Wires A

abbrev pub is_flowing : {A : Type 0} → Wires A → Bool
is_flowing (Flow us ds) = true
is_flowing (Stop us ds lu ld) = false

-- what will be taken
abbrev pub up_words : {A : Type 0} → Wires A → List (UpWord A)
up_words (Flow us ds) = us
up_words (Stop us ds lu ld) = us

abbrev pub down_words : {A : Type 0} → Wires A → List (DownWord A)
down_words (Flow us ds) = ds
down_words (Stop us ds lu ld) = ds

-- what will be taken, and behind it what was lost
abbrev pub up_whole : {A : Type 0} → Wires A → List (UpWord A)
up_whole (Flow us ds) = us
up_whole (Stop us ds lu ld) = us ++ lu

abbrev pub down_whole : {A : Type 0} → Wires A → List (DownWord A)
down_whole (Flow us ds) = ds
down_whole (Stop us ds lu ld) = ds ++ ld

-- words are put: into a pipe that flows, or they are lost
abbrev pub send_up : {A : Type 0} → List (UpWord A) → Wires A → Wires A
send_up ws (Flow us ds) = Flow (us ++ ws) ds
send_up ws (Stop us ds lu ld) = Stop us ds (lu ++ ws) ld

abbrev pub send_down : {A : Type 0} → List (DownWord A) → Wires A → Wires A
send_down ws (Flow us ds) = Flow us (ds ++ ws)
send_down ws (Stop us ds lu ld) = Stop us ds lu (ld ++ ws)

-- the first words were taken, and these are left
abbrev pub left_up : {A : Type 0} → List (UpWord A) → Wires A → Wires A
left_up us (Flow _ ds) = Flow us ds
left_up us (Stop _ ds lu ld) = Stop us ds lu ld

abbrev pub left_down : {A : Type 0} → List (DownWord A) → Wires A → Wires A
left_down ds (Flow us _) = Flow us ds
left_down ds (Stop us _ lu ld) = Stop us ds lu ld

-- the connection is cut: of what was under way the first words stay
abbrev pub cut : {A : Type 0} → ℕ → ℕ → Wires A → Wires A
cut i j (Flow us ds) = Stop (take i us) (take j ds) (drop i us) (drop j ds)
cut i j (Stop us ds lu ld) = Stop (take i us) (take j ds) (drop i us ++ lu) (drop j ds ++ ld)

-- the server shuts the connection: it takes no more
abbrev pub halt : {A : Type 0} → Wires A → Wires A
halt (Flow us ds) = Stop [] ds us []
halt (Stop us ds lu ld) = Stop [] ds (us ++ lu) ld
