-- The entries of a chain, walked backward and counted.
use Rattle.std.proofs.Common.{◌≡◌, ℕ, zero, suc, ◌+◌, ◌-◌, ◌<◌, ◌≤◌, inl, inr, Bool, true, false, List, [], ◌∷◌, Some, None, length, take, slice_get, ltb, refl, ap, ◌∙◌, arith}
use Rattle.std.proofs.lemmas.Bool.{cases_Bool}
use Rattle.std.proofs.lemmas.Bool.Decides.{nat_tests}
use Rattle.std.proofs.lemmas.List.{length-take-le}
use Rattle.std.proofs.lemmas.Option.{none-some, slice_get_within, same_Some}
use Rattle.std.proofs.lemmas.Slice.Eq.{bytes_eq-Decides}
use Rattle.std.specs.List.{filter}
use Rattle.std.specs.Option.{option_map}
use Rattle.mam_archive.proofs.ChainPositions.{filter_below}
use Rattle.mam_archive.proofs.NumberedEntries.{FollowFrom, entry_at, follow_numbered}
use Rattle.mam_archive.proofs.Walks.{step_at}
use Rattle.mam_archive.specs.Entries.{AreNumbered, EntryView, entry_numbered}
use Rattle.mam_archive.specs.Peers.{chain_below, chain_ends, chain_of, index_of, is_with, last_entry, peer_of, previous_of}

abbrev number_of : EntryView → ℕ
number_of e = e.number

slice_get-take : (k i : ℕ) (es : List EntryView) → i < k → slice_get (take k es) i ≡ slice_get es i
slice_get-take zero i es within = absurd (omega arith)
slice_get-take (suc k) i [] within = refl
slice_get-take (suc k) zero (e ∷ es) within = refl
slice_get-take (suc k) (suc i) (e ∷ es) within = slice_get-take k i es (omega arith)

-- those below an entry of a chain are those in front of it
below_item : (t : EntryView → Bool) (s i : ℕ) (es : List EntryView) (e : EntryView) → FollowFrom s es → slice_get (filter t es) i ≡ Some e →
    filter (λ f. ltb f.number e.number) (filter t es) ≡ take i (filter t es)
below_item t s i [] e follow is = absurd (none-some e is)
below_item t s i (f ∷ es) e follow is = elim (cases_Bool (t f)) [
  | inl passes ↦ rw passes (here i (λ j. below_item t (suc s) j es e follow.1) (rw passes at is))
  | inr fails ↦ rw fails (below_item t (suc s) i es e follow.1 (rw fails at is))
]
  where
    here : (j : ℕ) → ((k : ℕ) → slice_get (filter t es) k ≡ Some e → filter (λ g. ltb g.number e.number) (filter t es) ≡ take k (filter t es)) → slice_get (f ∷ filter t es) j ≡ Some e →
        filter (λ g. ltb g.number e.number) (f ∷ filter t es) ≡ take j (f ∷ filter t es)
    here zero rest is =
        let number : f.number ≡ e.number = ap number_of (same_Some f e is) in
        let test : ltb f.number e.number ≡ false = grind (arith, nat_tests) in
        let position : e.number - suc s ≡ zero = omega (arith, follow.0) in
        rw test (rw position at (filter_below t e.number (suc s) es follow.1))
    here (suc j) rest is =
        let step = step_at t (suc s) j es e follow.1 is in
        let low : f.number < e.number = omega (arith, follow.0, step.low) in
        let test : ltb f.number e.number ≡ true = grind (arith, nat_tests) in
        rw test (ap (λ l. f ∷ l) (rest j is))

-- an entry of a chain is found by its number, and what stands in front of it
record IsPlaced (owner peer : List ℕ) (i : ℕ) (es : List EntryView) (e : EntryView) : Type 0 where
  entry : entry_numbered e.number es ≡ Some e
  peer_is : peer_of owner e ≡ peer
  below : chain_below owner peer e.number es ≡ take i (chain_of owner peer es)
  size : length (take i (chain_of owner peer es)) ≡ i

placed : (last i : ℕ) (owner peer : List ℕ) (es : List EntryView) (e : EntryView) → AreNumbered last es → length es ≤ last → slice_get (chain_of owner peer es) i ≡ Some e → IsPlaced owner peer i es e
placed last i owner peer es e known within is =
    let s = last + 1 - length es in
    let follow = follow_numbered last es known within in
    let step = step_at (is_with owner peer) s i es e follow is in
    let inside : i < length (chain_of owner peer es) = slice_get_within (chain_of owner peer es) i e is in
    record {
      entry = entry_at e.number s es follow step.low ∙ step.there;
      peer_is = (bytes_eq-Decides (peer_of owner e) peer).0 step.passes;
      below = below_item (is_with owner peer) s i es e follow is;
      size = length-take-le i (chain_of owner peer es) (omega arith);
    }

pub walk_previous : (last i : ℕ) (owner peer : List ℕ) (es : List EntryView) (e : EntryView) → AreNumbered last es → length es ≤ last →
    slice_get (chain_of owner peer es) i ≡ Some e → 1 ≤ i → previous_of owner e.number es ≡ option_map (λ f. f.number) (slice_get (chain_of owner peer es) (i - 1))
walk_previous last i owner peer es e known within is later =
    let position = placed last i owner peer es e known within is in
    let end : last_entry (take i (chain_of owner peer es)) ≡ slice_get (chain_of owner peer es) (i - 1) =
    ap (λ n. slice_get (take i (chain_of owner peer es)) (n - 1)) position.size ∙ slice_get-take i (i - 1) (chain_of owner peer es) (omega arith) in
    rw (position.entry, position.peer_is, position.below) (ap (option_map number_of) end)

pub walk_start : (last : ℕ) (owner peer : List ℕ) (es : List EntryView) (e : EntryView) → AreNumbered last es → length es ≤ last →
    slice_get (chain_of owner peer es) 0 ≡ Some e → previous_of owner e.number es ≡ None
walk_start last owner peer es e known within is =
    let position = placed last 0 owner peer es e known within is in
    rw (position.entry, position.peer_is, position.below) refl

pub walk_index : (last i : ℕ) (owner peer : List ℕ) (es : List EntryView) (e : EntryView) → AreNumbered last es → length es ≤ last →
    slice_get (chain_of owner peer es) i ≡ Some e → index_of owner e.number es ≡ Some i
walk_index last i owner peer es e known within is =
    let position = placed last i owner peer es e known within is in
    rw (position.entry, position.peer_is, position.below) (ap Some position.size)

pub walk_ends : (owner peer : List ℕ) (es : List EntryView) (e f : EntryView) → slice_get (chain_of owner peer es) 0 ≡ Some e →
    slice_get (chain_of owner peer es) (length (chain_of owner peer es) - 1) ≡ Some f →
    chain_ends owner peer es ≡ Some (record { first = e.number; last = f.number; count = length (chain_of owner peer es) })
walk_ends owner peer es e f first last = rw (first, last) refl

pub walk_none : (owner peer : List ℕ) (es : List EntryView) → chain_of owner peer es ≡ [] → chain_ends owner peer es ≡ None
walk_none owner peer es none = rw none refl
