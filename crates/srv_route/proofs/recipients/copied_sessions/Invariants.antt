use Rattle.std.proofs.Common.{◌≡◌, ◌∷◌, ◌++◌, drop, map}
use Rattle.sm_live.specs.Sessions.{number_of}
use Rattle.srv_route.specs.Choices.{chosen}
use Rattle.srv_route.specs.Plans.{copied_of, wants_copy}
use Rattle.srv_route.proofs.recipients.copied_sessions.Given as goal

-- what was found, and what is ahead
abbrev pub invariant-loop-number : goal.invariant-loop-number
invariant-loop-number l = l.found.items ++ chosen (wants_copy (l.sender ∷ l.deliver)) l.live.sessions (drop l.number-index l.number-items) ≡ map number_of (copied_of l.account (l.sender ∷ l.deliver) l.live.sessions)
