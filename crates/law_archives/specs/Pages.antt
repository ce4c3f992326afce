-- Which entries a page has, in words that name no filter and no cut (XEP-0313, section 4.1; XEP-0059, section 2).
use Rattle.std.specs.Prelude.{◌≡◌, ◌↔◌, ℕ, ◌≤◌, true, List, [], ◌∷◌, ◌++◌, IfSome, length, map}
use Rattle.std.specs.Bool.{MatchBool}
use Rattle.std.specs.List.{AllByRecursion}
use Rattle.mam_archive.specs.Entries.{EntryView}
use Rattle.mam_archive.specs.Peers.{peer_of}
use Rattle.mam_pages.specs.Cuts.{CutView}
use Rattle.mam_pages.specs.Kept.{Kept}
use Rattle.mam_pages.specs.Parties.{is_full, other_party}
use Rattle.mam_pages.specs.declared.query.PageQuery.{PageQuery}
use Rattle.mam_pages.specs.declared.span.TheConstants.{MOST_RESULTS}

-- the other party of the entry has this address; or this is the bare address of the other party
abbrev pub IsWithPeer : List ℕ → EntryView → List ℕ → Type 0
IsWithPeer owner e peer = MatchBool (is_full peer) (other_party owner e ≡ peer) (peer_of owner e ≡ peer)

-- the entry was asked for: it is with the peer, and neither earlier nor later than is said
pub record IsAskedFor (owner : List ℕ) (query : PageQuery) (e : EntryView) : Type 0 where
  pub peer : IfSome query.peer (IsWithPeer owner e)
  pub start : IfSome query.start (λ start. start ≤ e.stamp)
  pub end : IfSome query.end (λ end. e.stamp ≤ end)

-- These are the entries of a list that were asked for, in their order: each stands there, or wasn't asked for.
pub data AreAskedFor (owner : List ℕ) (query : PageQuery) : List EntryView → List EntryView → Type 0 where
  none : AreAskedFor owner query [] []
  one : {e : EntryView} {asked entries : List EntryView} → IsAskedFor owner query e → AreAskedFor owner query asked entries → AreAskedFor owner query (e ∷ asked) (e ∷ entries)
  other : {e : EntryView} {asked entries : List EntryView} → (IsAskedFor owner query e → ⊥) → AreAskedFor owner query asked entries → AreAskedFor owner query asked (e ∷ entries)

-- the page has such entries, and few enough
pub record HasAsked (kept : Kept) (query : PageQuery) (cut : CutView) : Type 0 where
  pub page : List EntryView
  pub numbers : cut.numbers ≡ map (λ e. e.number) page
  pub asked : AllByRecursion (IsAskedFor kept.owner query) page
  pub few : length page ≤ MOST_RESULTS
  pub most : IfSome query.max (λ max. length page ≤ max)

-- it has the first of those that were asked for, or all
pub record HasFirst (kept : Kept) (query : PageQuery) (cut : CutView) : Type 0 where
  pub asked : List EntryView
  pub are : AreAskedFor kept.owner query asked kept.entries
  pub page : List EntryView
  pub rest : List EntryView
  pub front : asked ≡ page ++ rest
  pub numbers : cut.numbers ≡ map (λ e. e.number) page
  pub count : cut.count ≡ length asked
  pub complete : (cut.complete ≡ true) ↔ (rest ≡ [])

-- it has the last of them, or all
pub record HasLast (kept : Kept) (query : PageQuery) (cut : CutView) : Type 0 where
  pub asked : List EntryView
  pub are : AreAskedFor kept.owner query asked kept.entries
  pub rest : List EntryView
  pub page : List EntryView
  pub back : asked ≡ rest ++ page
  pub numbers : cut.numbers ≡ map (λ e. e.number) page
  pub count : cut.count ≡ length asked
  pub complete : (cut.complete ≡ true) ↔ (rest ≡ [])
