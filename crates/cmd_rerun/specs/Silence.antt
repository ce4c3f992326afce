-- What is put out for other connections, and events in which a connection does not come.
use Rattle.std.specs.Prelude.{◌≡◌, ℕ, false, List}
use Rattle.std.specs.List.{AllByRecursion}
use Rattle.srv_state.specs.State.{Out, Put, Shut, Took, is_number}
use Rattle.cmd_journal.specs.Journals.{Connect, EventView}

-- it is not of connection k
abbrev pub IsApart : {A : Type 0} → ℕ → Out A → Type 0
IsApart k (Put j a) = is_number k j ≡ false
IsApart k (Shut j) = is_number k j ≡ false
IsApart k (Took from to origin) = Unit {0}

-- none of these is
abbrev pub Quiet : {A : Type 0} → ℕ → List (Out A) → Type 0
Quiet k outs = AllByRecursion (IsApart k) outs

-- the event is not that connection k comes
abbrev pub IsOther : ℕ → EventView → Type 0
IsOther k (Connect j moment entropy) = is_number k j ≡ false
IsOther k event = Unit {0}
