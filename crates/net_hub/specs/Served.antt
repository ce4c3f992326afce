-- What is so once a server has served connections at the same time.
use Rattle.std.specs.Prelude.{◌≡◌, ◌⊎◌, ℕ, ◌+◌, ◌<◌, ◌≤◌, List, [], ◌∷◌, ◌++◌, length, map, Err, IfSome}
use Rattle.std.specs.List.{flat_map}
use Rattle.cmd_journal.specs.AccountsFiles.{AccountsView, IsAccountsFile, accounts_text}
use Rattle.cmd_journal.specs.Journals.{AreEvents, EventView}
use Rattle.cmd_journal.specs.Reading.{accounts_reading}
use Rattle.cmd_journal.specs.declared.fault.InputFault.TheVariants as inputs
use Rattle.net_traits.specs.Links.{LinkView}
use Rattle.net_owner.specs.Events.{Connect, Gave, Gone, Told, shown}
use Rattle.net_owner.specs.declared.reading.TheConstants.{MOST_BYTES_GIVEN}
use Rattle.net_hub.specs.Records.{bare, entropies_of, moments_of, run_of_file}
use Rattle.net_hub.specs.Puts.{IsFront, put_for}
use Rattle.cmd_rerun.specs.Journaling.{journal_text}
use Rattle.net_hub.specs.declared.fault.HubFault.{HubFault}
use Rattle.net_hub.specs.declared.fault.HubFault.TheVariants.{BadLine}

-- the feed of a connection: it begins, brings these pieces, and is gone
abbrev pub feed_of : List (List ℕ) → List Told
feed_of pieces = Connect ∷ (map Gave pieces ++ Gone ∷ [])

abbrev pub joined : List (List ℕ) → List ℕ
joined pieces = flat_map (λ piece. piece) pieces

-- The events of connection k are its feed, and the pieces of this are what its link gave, joined, where the link tells it: all,
-- since a read failed, or found the end, or the link gave as much as one may. What was written on the link is what the server
-- put for the connection, or the front of that where a write failed.
pub record IsLinkServed (file : AccountsView) (events : List EventView) (k : ℕ) (link : LinkView) : Type 0 where
  pub pieces : List (List ℕ)
  pub feed : shown k (map bare events) ≡ feed_of pieces
  pub read : IfSome link.read (λ bytes. bytes ≡ joined pieces)
  pub over : (0 < link.read_faults) ⊎ (0 < link.ends) ⊎ (MOST_BYTES_GIVEN ≤ length (joined pieces))
  pub written : IfSome link.written (λ bytes. IsFront bytes (put_for k (run_of_file file events).outs))
  pub all_written : link.write_faults ≡ 0 → IfSome link.written (λ bytes. bytes ≡ put_for k (run_of_file file events).outs)

-- the links of the connections from k on
abbrev pub AreServed : AccountsView → List EventView → ℕ → List LinkView → Type 0
AreServed file events k [] = Unit {0}
AreServed file events k (link ∷ links) = IsLinkServed file events k link × AreServed file events (k + 1) links

-- A server of this accounts file served n connections, with the numbers from 1, and its journal is this text: of these events,
-- which are a merge of the connections' feeds. `told` and `drawn` are the moments that the clock told meanwhile and the random
-- bytes that were drawn: the events' own, in order. `old` and `new` are the links that were given back to the door before and
-- behind it.
pub record IsWritten (file : AccountsView) (n : ℕ) (told drawn : List ℕ) (old new : List LinkView) (text : List ℕ) : Type 0 where
  pub events : List EventView
  pub links : List LinkView
  pub many : length links ≡ n
  pub given : new ≡ old ++ links
  pub served : AreServed file events 1 links
  pub others : (k : ℕ) → (k ≡ 0) ⊎ (n < k) → shown k (map bare events) ≡ []
  pub are : AreEvents 0 events
  pub moments : moments_of events ≡ told
  pub entropies : entropies_of events ≡ drawn
  pub journal : text ≡ journal_text file events

-- the same of the accounts file with this text
pub record HasServed (accounts : List ℕ) (n : ℕ) (told drawn : List ℕ) (old new : List LinkView) (text : List ℕ) : Type 0 where
  pub file : AccountsView
  pub right : IsAccountsFile file
  pub whole : accounts ≡ accounts_text file
  pub is : IsWritten file n told drawn old new text

-- the accounts are refused by what reading them gives, and are the text of no accounts file
abbrev pub IsRefusal : List ℕ → HubFault → Type 0
IsRefusal accounts (BadLine line reason) =
    (accounts_reading accounts ≡ Err (inputs.BadLine line reason)) × ((file : AccountsView) → ¬ (IsAccountsFile file × (accounts ≡ accounts_text file)))
IsRefusal accounts fault = Unit {0}

-- it has a cause outside, and not in the accounts
abbrev pub IsOwn : HubFault → Type 0
IsOwn (BadLine line reason) = ⊥
IsOwn fault = Unit {0}
