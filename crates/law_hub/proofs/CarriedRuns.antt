-- Links carried what the events and the lines of a rerun say.
use Rattle.std.proofs.Common.{◌≡◌, ◌⊎◌, ℕ, ◌+◌, ◌<◌, ◌≤◌, List, [], ◌∷◌, IfSome, length, subst, sym}
use Rattle.net_hub.specs.Served.{AreServed, IsLinkServed}
use Rattle.law_hub.proofs.PutRuns.{outs, puts_are_lines}
use Rattle.law_hub.proofs.ShownRuns.{feed_leaves, pieces_joined}
use Rattle.law_hub.specs.Carried.{AreCarried, IsCarried}
use Rattle.cmd_journal.specs.AccountsFiles.{AccountsView}
use Rattle.cmd_journal.specs.Journals.{EventView}
use Rattle.net_traits.specs.Links.{LinkView}
use Rattle.net_owner.specs.declared.reading.TheConstants.{MOST_BYTES_GIVEN}
use Rattle.cmd_rerun.specs.Reruns.{lines_of}
use Rattle.net_hub.specs.Puts.{IsFront}

module _ (file : AccountsView) (events : List EventView) where
  link_carried : (k : ℕ) (link : LinkView) → IsLinkServed file events k link → IsCarried k events (lines_of (outs file events)) link
  link_carried k link served =
      let bytes = sym (pieces_joined k events served.pieces served.feed) in
      let puts = puts_are_lines file events k in
      record {
        read = subst (λ all. IfSome link.read (λ b. b ≡ all)) bytes served.read;
        all_read = subst (λ (all : List ℕ). (0 < link.read_faults) ⊎ (0 < link.ends) ⊎ (MOST_BYTES_GIVEN ≤ length all)) bytes served.over;
        written = subst (λ all. IfSome link.written (λ b. IsFront b all)) puts served.written;
        all_written = λ none. subst (λ all. IfSome link.written (λ b. b ≡ all)) puts (served.all_written none);
        gone = feed_leaves k events served.pieces served.feed;
      }

  pub all_carried : (k : ℕ) (links : List LinkView) → AreServed file events k links → AreCarried k events (lines_of (outs file events)) links
  all_carried k [] served = tt
  all_carried k (link ∷ links) served = (link_carried k link served.0, all_carried (k + 1) links served.1)
