-- The submissions of a client: messages that its user gave it to send.
use Rattle.std.specs.Prelude.{ℕ, ◌+◌, ◌-◌, ◌*◌, ◌^◌, min, Bool, List, [], ◌∷◌, ◌++◌, map, take, drop}
use Rattle.std.specs.Fmt.{decimal}
use Rattle.std.specs.List.{list_any}
use Rattle.std.specs.Str.{bytes_eq}
use Rattle.sm_outbox.specs.declared.said.Said.{Said}
use Rattle.sm_outbox.specs.declared.said.SaidState.{SaidState}
use Rattle.sm_outbox.specs.declared.said.SaidState.TheVariants.{Acknowledged, Undecided, Waiting}

-- those that are settled, which came first, and those that wait in the queue of the session
pub record SaidView : Type 0 where
  pub settled : List Said
  pub waiting : List Said

abbrev pub nothing_said : SaidView
nothing_said = record { settled = []; waiting = [] }

abbrev pub all_said : SaidView → List Said
all_said s = s.settled ++ s.waiting

-- ---- what happens to them

-- one more waits
abbrev pub with_said : SaidView → Said → SaidView
with_said s one = record s { waiting = s.waiting ++ one ∷ [] }

abbrev pub in_state : SaidState → Said → Said
in_state state said = record said { state = state }

-- the first so many that wait are acknowledged
abbrev pub acknowledged : ℕ → SaidView → SaidView
acknowledged n s = record { settled = s.settled ++ map (in_state Acknowledged) (take n s.waiting); waiting = drop n s.waiting }

-- the session ended: of all that wait it is not known what became of them
abbrev pub undecided : SaidView → SaidView
undecided s = record { settled = s.settled ++ map (in_state Undecided) s.waiting; waiting = [] }

-- ---- their numbers and ids

-- Epochs and numbers rise by 1, and stay at 2 ^ 64 - 1 once there.
abbrev pub next_number : ℕ → ℕ
next_number n = min (n + 1) (2 ^ 64 - 1)

-- where the n-th submission of an epoch stands among all
abbrev pub position : ℕ → ℕ → ℕ
position epoch n = epoch * 2 ^ 64 + n

abbrev pub position_of : Said → ℕ
position_of said = position said.epoch said.n

-- a submission behind the n-th one of its epoch
abbrev pub said_of : ℕ → ℕ → List ℕ → List ℕ → Bool → Said
said_of epoch n to text private = record { epoch = epoch; n = next_number n; to = to; text = text; private = private; state = Waiting }

-- the origin id of the n-th submission of a resource in an epoch (XEP-0359, section 3.2): the three with dots between
abbrev pub origin_of : List ℕ → ℕ → ℕ → List ℕ
origin_of resource epoch n = resource ++ 46 ∷ decimal epoch ++ 46 ∷ decimal n

-- the id is that of a submission of the resource
abbrev pub is_submission : List ℕ → List ℕ → SaidView → Bool
is_submission resource id s = list_any (λ said. bytes_eq (origin_of resource said.epoch said.n) id) (all_said s)
