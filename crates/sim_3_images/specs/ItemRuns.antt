-- Which moves of items a move of bytes is.
use Rattle.std.specs.Prelude.{ℕ, zero, suc, ◌≡◌, ◌≤◌, ◌⊎◌, Bool, true, false, List, [], ◌∷◌, ◌++◌, IsTrue}
use Rattle.sim_3_items.specs.ItemMoves as items
use Rattle.sim_3_items.specs.ItemMoves.{ItemMove}
use Rattle.cmd_report.specs.Addresses.{bare_address}
use Rattle.cmd_schedule.specs.Grammar.{is_name, is_text}
use Rattle.cmd_world.specs.Moves as bytes
use Rattle.cmd_world.specs.Moves.{Move}
use Rattle.cmd_world.specs.Worlds.{client_entropy, server_entropy}

-- so many items of a connection go to the server, one after another
abbrev pub ups : ℕ → ℕ → List ItemMove
ups position zero = []
ups position (suc count) = items.Up position ∷ ups position count

abbrev pub downs : ℕ → ℕ → List ItemMove
downs position zero = []
downs position (suc count) = items.Down position ∷ downs position count

abbrev pub moved_where : ItemMove → Bool → List ItemMove
moved_where m true = m ∷ []
moved_where m false = []

-- where bytes come to the server it looks at the clock first
abbrev pub AreServedUps : ℕ → List ItemMove → Type 0
AreServedUps position ms = (ms ≡ []) ⊎ ((count : ℕ) × (ms ≡ items.Tick 0 ∷ ups position count))

-- Of bytes that are handed over, those items are of which the last byte is among them; behind them perhaps the end is told.
-- Of a cut some first items stay.
abbrev pub IsRunOf : Move → List ItemMove → Type 0
IsRunOf (bytes.Dial device) ms = (k : ℕ) × (ms ≡ items.Dial device (client_entropy k) (server_entropy k) ∷ [])
IsRunOf (bytes.Forget device) ms = ms ≡ items.Forget device ∷ []
IsRunOf (bytes.Close device) ms = ms ≡ items.Close device ∷ []
IsRunOf (bytes.Say device line to text private) ms = ms ≡ items.Say device (bare_address to) text private ∷ []
IsRunOf (bytes.CatchUp device line most) ms = ms ≡ items.CatchUp device most ∷ []
IsRunOf (bytes.Tick milliseconds) ms = ms ≡ items.Tick milliseconds ∷ []
IsRunOf (bytes.Up position amount) ms = (first : List ItemMove) × (ended : Bool) × AreServedUps position first × (ms ≡ first ++ moved_where (items.UpEnd position) ended)
IsRunOf (bytes.Down position amount) ms = (count : ℕ) × (ended : Bool) × (ms ≡ downs position count ++ moved_where (items.DownEnd position) ended)
IsRunOf (bytes.Cut position up down) ms = (i j : ℕ) × (ms ≡ items.Cut position i j ∷ [])

-- what is asked of a move: a message is for a name and has a text, and a page has 1 to 100 results
abbrev pub MayMove : Move → Type 0
MayMove (bytes.Say device line to text private) = IsTrue (is_name to) × IsTrue (is_text text)
MayMove (bytes.CatchUp device line most) = (1 ≤ most) × (most ≤ 100)
MayMove m = Unit {0}
