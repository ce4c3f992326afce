-- Runs worked out. Each passes the test of its premises, so that its states are reached ones.
use Rattle.std.proofs.Common.{◌≡◌, ◌≤◌, ℕ, refl, List, [], ◌∷◌, ◌++◌, Option, Some, None, true, false, Bool, arith}
use Rattle.std.specs.List.{slice_get}
use Rattle.std.specs.Option.{option_map}
use Rattle.sim_1_applications.proofs.Legal.{is_run, runs}
use Rattle.sim_1_applications.specs.Devices.{AppWorld, Row, last_of, log_of, epoch_of}
use Rattle.sim_1_applications.specs.Devices.Row.{NoRow, Unread}
use Rattle.sim_1_applications.specs.Events.{AppEvent, Reached, beginning}
use Rattle.sim_1_applications.specs.Events.AppEvent.{At}
use Rattle.sim_1_applications.specs.Events.Act.{Bind, ReadBound, Enable, ReadEnabled, End, Drop, Say, CatchUp, ServerHandles, ClientHandles}
use Rattle.sim_1_applications.specs.Histories.{state_after}
use Rattle.sim_1_applications.specs.Stanzas.{Down}

abbrev ann : List ℕ
ann = 97 ∷ []

abbrev bob : List ℕ
bob = 98 ∷ []

-- a session begins, and the server handles carbons and presence
abbrev begin : ℕ → List AppEvent
begin i = At i Bind ∷ At i (ReadBound true) ∷ At i Enable ∷ At i ReadEnabled ∷ At i (ServerHandles 100 []) ∷ At i (ServerHandles 100 []) ∷ At i ClientHandles ∷ []

abbrev sends : ℕ → List ℕ → List AppEvent
sends i to = At i (Say to [] false) ∷ At i (ServerHandles 100 []) ∷ []

abbrev start : ℕ → AppWorld
start keep = beginning keep (ann ∷ bob ∷ []) (ann ∷ bob ∷ [])

abbrev following : List AppEvent → ℕ → AppWorld
following events keep = state_after (start keep) events

-- what passes the test is reached
reached : (events : List AppEvent) (keep : ℕ) → 1 ≤ keep → is_run events (start keep) ≡ true → Reached (following events keep)
reached events keep some legal = record {
  keep = keep;
  some = some;
  accounts = ann ∷ bob ∷ [];
  homes = ann ∷ bob ∷ [];
  events = events;
  reaches = runs events (start keep) legal;
}

-- the log, the results of the page under way, and what is held
abbrev seen : AppWorld → Option (List ℕ × Option (List ℕ) × List ℕ)
seen w = option_map (λ d. (log_of d.reading, option_map (λ page. page.results) d.reading.page, d.reading.held)) (slice_get w.devices 1)

-- A page is under way where the session is lost: three messages came, one of them as a result of a page too.
abbrev lost : List AppEvent
lost =
    begin 0 ++ begin 1 ++ sends 0 bob ++ sends 0 bob ++ sends 0 bob
    ++ At 1 ClientHandles ∷ At 1 ClientHandles ∷ At 1 ClientHandles ∷ At 1 (CatchUp 2) ∷ At 1 (ServerHandles 100 []) ∷ At 1 ClientHandles ∷ []

lost_page : seen (following lost 1000) ≡ Some ([], Some (1 ∷ []), 1 ∷ 2 ∷ 3 ∷ [])
unfolding last_of
lost_page = refl

after_drop : seen (following (lost ++ At 1 End ∷ At 1 Drop ∷ []) 1000) ≡ Some ([], None, 1 ∷ 2 ∷ 3 ∷ [])
unfolding last_of
after_drop = refl

drop_happens : is_run (lost ++ At 1 End ∷ At 1 Drop ∷ []) (start 1000) ≡ true
unfolding last_of
drop_happens = refl

pub after_drop_reached : Reached (following (lost ++ At 1 End ∷ At 1 Drop ∷ []) 1000)
after_drop_reached = reached (lost ++ At 1 End ∷ At 1 Drop ∷ []) 1000 (omega arith) drop_happens

-- The archives keep one entry: the log's last number is purged, and the page begins anew behind a break.
abbrev restarted : List AppEvent
restarted =
    begin 0 ++ begin 1 ++ sends 0 bob ++ At 1 ClientHandles ∷ At 1 (CatchUp 1) ∷ At 1 (ServerHandles 100 []) ∷ At 1 ClientHandles ∷ At 1 ClientHandles ∷ []
    ++ sends 0 bob ++ sends 0 bob
    ++ At 1 ClientHandles ∷ At 1 ClientHandles ∷ At 1 (CatchUp 5) ∷ At 1 (ServerHandles 100 []) ∷ At 1 ClientHandles ∷ At 1 (ServerHandles 100 []) ∷ At 1 ClientHandles ∷ At 1 ClientHandles ∷ []

broken_log : option_map {U = List (List ℕ) × List ℕ × List ℕ × Bool} (λ d. (d.reading.broken, d.reading.run, d.reading.held, d.reading.faulty)) (slice_get (following restarted 1).devices 1)
    ≡ Some ((1 ∷ []) ∷ [], 3 ∷ [], 2 ∷ [], false)
unfolding last_of
broken_log = refl

restart_happens : is_run restarted (start 1) ≡ true
unfolding last_of
restart_happens = refl

pub restarted_reached : Reached (following restarted 1)
restarted_reached = reached restarted 1 (omega arith) restart_happens

-- A late bind leaves a session that the client doesn't know of: it reads the older result first, and goes on in a session
-- that is gone.
abbrev late : List AppEvent
late = At 0 Bind ∷ At 0 Bind ∷ At 0 (ReadBound false) ∷ At 0 (ReadBound true) ∷ At 0 Enable ∷ At 0 Bind ∷ At 0 ReadEnabled ∷ At 0 (Say bob [] false) ∷ []

late_row : option_map {U = ℕ × ℕ × Row × Bool} (λ d. (epoch_of d.sessions, d.sessions.bound, d.sessions.row, d.sessions.online)) (slice_get (following late 1).devices 0) ≡ Some (2, 2, Unread, true)
late_row = refl

late_happens : is_run late (start 1) ≡ true
late_happens = refl

pub late_reached : Reached (following late 1)
late_reached = reached late 1 (omega arith) late_happens

-- The queue is full in the middle of an answer: a front of it was put, and nothing follows it.
abbrev overrun : List AppEvent
overrun =
    begin 0 ++ begin 1 ++ sends 0 bob ++ sends 0 bob
    ++ At 1 ClientHandles ∷ At 1 ClientHandles ∷ At 1 (CatchUp 5) ∷ At 1 (ServerHandles 1 []) ∷ At 1 ClientHandles ∷ []

overrun_page : option_map {U = Row × List Down × Option (List ℕ)} (λ d. (d.sessions.row, d.sessions.now.down_rest, option_map (λ page. page.results) d.reading.page)) (slice_get (following overrun 1000).devices 1)
    ≡ Some (NoRow, [], Some (1 ∷ []))
unfolding last_of
overrun_page = refl

overrun_happens : is_run overrun (start 1000) ≡ true
unfolding last_of
overrun_happens = refl

pub overrun_reached : Reached (following overrun 1000)
overrun_reached = reached overrun 1000 (omega arith) overrun_happens

-- A message to a session whose queue is full ends it.
full_queue : option_map (λ d. d.sessions.row) (slice_get (following (begin 0 ++ begin 1 ++ At 0 (Say bob [] false) ∷ At 0 (ServerHandles 100 (1 ∷ [])) ∷ []) 1).devices 1) ≡ Some NoRow
unfolding last_of
full_queue = refl
