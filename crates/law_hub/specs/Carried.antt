-- What links carried is what the journal of several connections says, and what is put out again.
use Rattle.std.specs.Prelude.{◌≡◌, ◌⊎◌, ℕ, ◌+◌, ◌<◌, ◌≤◌, true, List, [], ◌∷◌, ◌++◌, length, IfSome, codes}
use Rattle.std.specs.List.{AllByRecursion, flat_map}
use Rattle.srv_state.specs.State.{Out}
use Rattle.cmd_journal.specs.Journals.{EventView, events_text, journal_header}
use Rattle.cmd_journal.specs.Texts.{NamedView, OutputView, output_text}
use Rattle.net_traits.specs.Links.{LinkView}
use Rattle.net_owner.specs.declared.reading.TheConstants.{MOST_BYTES_GIVEN}
use Rattle.cmd_schedule.specs.declared.schedule.Version.{Version}
use Rattle.net_hub.specs.Puts.{IsFront, put_for}
use Rattle.srv_core.specs.Telling.{is_told}
use Rattle.cmd_rerun.specs.Journaling.{ending_text}
use Rattle.law_hub.specs.Again.{IsWithin, bytes_in, bytes_out, leaves, shuts}

-- The answer of a rerun has these lines of what is put out again: for each connection, the bytes that a server put for it, and
-- whether the server shut it.
pub record IsOutOf (outs : List (Out (List ℕ))) (again : List ℕ) : Type 0 where
  pub version : Version
  pub lines : List OutputView
  pub archives : List NamedView
  pub again_is : again ≡ codes "xmpp-rerun 1" ++ 10 ∷ (flat_map output_text lines ++ ending_text version archives)
  pub puts : (k : ℕ) → bytes_out k lines ≡ put_for k outs
  pub shut : (k : ℕ) → shuts k lines ≡ is_told k outs

-- Where the link of connection k tells its bytes, what was read is what its pieces brought: all, since a read failed, or found
-- the end, or the link gave as much as one may. What was written is what is put out again, or the front of that where a write
-- failed. The connection is gone.
pub record IsCarried (k : ℕ) (events : List EventView) (lines : List OutputView) (link : LinkView) : Type 0 where
  pub read : IfSome link.read (λ bytes. bytes ≡ bytes_in k events)
  pub all_read : (0 < link.read_faults) ⊎ (0 < link.ends) ⊎ (MOST_BYTES_GIVEN ≤ length (bytes_in k events))
  pub written : IfSome link.written (λ bytes. IsFront bytes (bytes_out k lines))
  pub all_written : link.write_faults ≡ 0 → IfSome link.written (λ bytes. bytes ≡ bytes_out k lines)
  pub gone : leaves k events ≡ true

-- the links of the connections from number k on
abbrev pub AreCarried : ℕ → List EventView → List OutputView → List LinkView → Type 0
AreCarried k events lines [] = Unit {0}
AreCarried k events lines (link ∷ links) = IsCarried k events lines link × AreCarried (k + 1) events lines links

-- The events of the journal, and the lines of what is put out again, are what went over the links of n connections, which were
-- given back to the door since.
pub record ArePutAgain (n : ℕ) (old new : List LinkView) (journal again : List ℕ) : Type 0 where
  pub version : Version
  pub events : List EventView
  pub lines : List OutputView
  pub archives : List NamedView
  pub links : List LinkView
  pub journal_is : journal ≡ journal_header version ++ 10 ∷ (events_text events ++ ending_text version archives)
  pub again_is : again ≡ codes "xmpp-rerun 1" ++ 10 ∷ (flat_map output_text lines ++ ending_text version archives)
  pub given : new ≡ old ++ links
  pub many : length links ≡ n
  pub within : AllByRecursion (IsWithin n) lines
  pub carried : AreCarried 1 events lines links
