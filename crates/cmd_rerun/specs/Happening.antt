-- What events make of a server that has put out nothing yet, and when they happen.
use Rattle.std.specs.Prelude.{◌≡◌, ℕ, List, [], ◌∷◌, Option, IfSome}
use Rattle.cmd_journal.specs.Journals.{Connect, EventView, Gone, Piece}
use Rattle.cmd_rerun.specs.Reruns.{Run, after_events}
use Rattle.srv_core.specs.Events.{Whole}

-- a server that has put out nothing yet
abbrev pub still : Whole (List ℕ) → Run
still w = record { server = w; outs = [] }

-- what events make of a server, and what comes out of them
unfoldable pub happens : List EventView → Whole (List ℕ) → Run
happens events w = after_events events (still w)

abbrev pub moment_of : EventView → ℕ
moment_of (Connect k moment entropy) = moment
moment_of (Piece k moment bytes) = moment
moment_of (Gone k moment) = moment

-- each event is at the moment that is told, where one is
abbrev pub AreAt : Option ℕ → List EventView → Type 0
AreAt told [] = Unit {0}
AreAt told (event ∷ events) = IfSome told (λ m. moment_of event ≡ m) × AreAt told events
