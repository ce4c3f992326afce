-- A server that serves several connections, and what is so of it between two events.
use Rattle.std.specs.Prelude.{◌≡◌, ℕ, ◌<◌, ◌≤◌, ◌^◌, List, [], ◌∷◌, ◌++◌, length, map}
use Rattle.std.specs.List.{flat_map}
use Rattle.net_traits.specs.Halves.{OutgoingView}
use Rattle.cmd_journal.specs.AccountsFiles.{AccountsView, IsAccountsFile}
use Rattle.cmd_journal.specs.Journals.{AreEvents, Connect, EventView, Gone, Piece, begun_last, event_view}
use Rattle.cmd_journal.specs.declared.event.Event.{Event}
use Rattle.cmd_journal.specs.declared.event.TheConstants.{LAST_CONNECTION}
use Rattle.net_owner.specs.Events as owner
use Rattle.net_hub.specs.declared.recorder.Recorder.{Recorder}
use Rattle.cmd_rerun.specs.Reruns.{Run, run_at_start}
use Rattle.net_hub.specs.Puts.{put_for}
use Rattle.net_hub.specs.Sendings.{HasSent, HaveSent}
use Rattle.net_hub.specs.declared.sender.Sender.{Sender}
use Rattle.srv_core.specs.Events.{Whole}
use Rattle.cmd_rerun.specs.Happening.{happens, moment_of}

-- an event, without its moment and the bytes that were drawn
abbrev pub bare : EventView → owner.Event
bare (Connect k moment entropy) = owner.event k owner.Connect
bare (Piece k moment bytes) = owner.event k (owner.Gave bytes)
bare (Gone k moment) = owner.event k owner.Gone

-- the events of the code, as clauses see them
abbrev pub views_of : List Event → List EventView
views_of events = map event_view events

abbrev pub bares_of : List Event → List owner.Event
bares_of events = map (λ e. bare (event_view e)) events

-- the moments of events, in order
abbrev pub moments_of : List EventView → List ℕ
moments_of events = map moment_of events

-- the bytes that were drawn for a connection that begins
abbrev pub entropy_of : EventView → List ℕ
entropy_of (Connect k moment entropy) = entropy
entropy_of event = []

-- those of all connections that began, in order
abbrev pub entropies_of : List EventView → List ℕ
entropies_of events = flat_map entropy_of events

-- the number of the connection that began last
abbrev pub last_begun : ℕ → List EventView → ℕ
last_begun last [] = last
last_begun last (event ∷ events) = last_begun (begun_last last event) events

-- what events make of the server of an accounts file, and what comes out of them
abbrev pub run_of_file : AccountsView → List EventView → Run
run_of_file file events = happens events (run_at_start file).server

module _ {O : Type 0} (told : O → OutgoingView) where
  -- The server of an accounts file is what its events make of it. These are the events of a journal, their moments are those that
  -- were told, and the bytes of those that begin are those that were drawn. To each connection went what the server put for it.
  pub record IsKeptBy (moments drawn : List ℕ) (file : AccountsView) (events : List EventView) (server : Whole (List ℕ)) (senders : List (Sender O)) : Type 0 where
    pub right : IsAccountsFile file
    pub few : length file.accounts < 2 ^ 32
    pub are : AreEvents 0 events
    pub moments_are : moments_of events ≡ moments
    pub entropies : entropies_of events ≡ drawn
    pub last : last_begun 0 events ≡ length senders
    pub small : length senders ≤ LAST_CONNECTION
    pub made : server ≡ (run_of_file file events).server
    pub sent : HaveSent told (λ k. put_for k (run_of_file file events).outs) senders

  -- so is a recorder between two events
  abbrev pub IsKept : List ℕ → List ℕ → Recorder O → Type 0
  IsKept moments drawn r = IsKeptBy moments drawn r.file (views_of r.events.items) r.server r.senders.items

  -- the half of a connection that begins stands behind the others, and nothing was sent on it
  pub record AddsHalf (half : O) (old new : List (Sender O)) : Type 0 where
    pub sender : Sender O
    pub added : new ≡ old ++ sender ∷ []
    pub half_is : sender.half ≡ half
    pub sent : HasSent [] sender.broken (told sender.half)
