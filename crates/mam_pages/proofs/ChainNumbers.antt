-- The numbers of the entries with an account: how they are walked, and where one of them stands.
use Rattle.std.proofs.Common.{◌≡◌, ℕ, zero, suc, ◌+◌, ◌-◌, ◌≤◌, Bool, true, List, [], ◌∷◌, Option, Some, None, length, slice_get, eqb, refl, sym, ap, ◌∙◌, arith, inl, inr}
use Rattle.std.proofs.lemmas.Bool.{cases_Bool}
use Rattle.std.proofs.lemmas.Bool.Decides.{nat_tests}
use Rattle.std.proofs.lemmas.List.{length-map}
use Rattle.std.proofs.lemmas.Option.{none-some, slice_get-map, same_Some}
use Rattle.std.specs.List.{filter}
use Rattle.std.specs.Option.{option_map}
use Rattle.mam_archive.proofs.ChainLaw.{walk_index, walk_none, walk_previous}
use Rattle.mam_archive.proofs.Walks.{walk_first, walk_next}
use Rattle.mam_archive.specs.Entries.{EntryView, entry_numbered}
use Rattle.mam_archive.specs.Peers.{chain_ends, chain_of, ends_of, first_of, index_of, is_with, next_of, previous_of}
use Rattle.mam_archive.specs.declared.chains.Chain.{Chain}
use Rattle.mam_pages.proofs.Placed.{placed_self}
use Rattle.mam_pages.proofs.Rising.{rises_entries, rises_weaken}
use Rattle.mam_pages.specs.Kept.{AreConsecutive, Kept, first_number, last_number}
use Rattle.mam_pages.specs.Spans.{Rises, number_of_entry, numbers_of}
use Rattle.mam_pages.specs.Stretches.{IsEndsOf, chain_numbers}
use Rattle.mam_pages.specs.Looks.{is_found_with, is_number_with}

-- the entry at a place of which the number is known
record IsEntryAt (es : List EntryView) (i x : ℕ) : Type 0 where
  entry : EntryView
  there : slice_get es i ≡ Some entry
  is : entry.number ≡ x

entry_of : (i x : ℕ) (es : List EntryView) → slice_get (numbers_of es) i ≡ Some x → IsEntryAt es i x
entry_of i x [] is = absurd (none-some x is)
entry_of zero x (e ∷ es) is = record { entry = e; there = refl; is = same_Some e.number x is }
entry_of (suc i) x (e ∷ es) is =
    let rest = entry_of i x es is in
    record { entry = rest.entry; there = rest.there; is = rest.is }

module _ (kept : Kept) (peer : List ℕ) where
  abbrev with_peer : List EntryView
  with_peer = chain_of kept.owner peer kept.entries

  number_at : (i : ℕ) → option_map (λ f. f.number) (slice_get with_peer i) ≡ slice_get (chain_numbers kept peer) i
  number_at i = sym (slice_get-map number_of_entry with_peer i)

  pub numbers_next : (i x : ℕ) → AreConsecutive kept.entries → slice_get (chain_numbers kept peer) i ≡ Some x →
      next_of kept.owner x kept.entries ≡ slice_get (chain_numbers kept peer) (i + 1)
  numbers_next i x known is =
      let at = entry_of i x with_peer is in
      rw (← at.is) (walk_next (last_number kept.entries) i kept.owner peer kept.entries at.entry known.numbers known.from_one at.there ∙ number_at (i + 1))

  pub numbers_previous : (i x : ℕ) → AreConsecutive kept.entries → slice_get (chain_numbers kept peer) i ≡ Some x → 1 ≤ i →
      previous_of kept.owner x kept.entries ≡ slice_get (chain_numbers kept peer) (i - 1)
  numbers_previous i x known is later =
      let at = entry_of i x with_peer is in
      rw (← at.is) (walk_previous (last_number kept.entries) i kept.owner peer kept.entries at.entry known.numbers known.from_one at.there later ∙ number_at (i - 1))

  pub numbers_index : (i x : ℕ) → AreConsecutive kept.entries → slice_get (chain_numbers kept peer) i ≡ Some x → index_of kept.owner x kept.entries ≡ Some i
  numbers_index i x known is =
      let at = entry_of i x with_peer is in
      rw (← at.is) (walk_index (last_number kept.entries) i kept.owner peer kept.entries at.entry known.numbers known.from_one at.there)

  pub numbers_size : length (chain_numbers kept peer) ≡ length with_peer
  numbers_size = length-map with_peer number_of_entry

  pub numbers_rise : AreConsecutive kept.entries → Rises 0 (last_number kept.entries) (chain_numbers kept peer)
  numbers_rise known =
      let at = placed_self kept.entries known in
      let base = first_number kept.entries - 1 in
      rises_weaken 0 base (last_number kept.entries) (chain_numbers kept peer) (omega arith)
      (rises_entries (is_with kept.owner peer) base (last_number kept.entries) kept.entries at.1.follow (omega (arith, at.1.end)))

  pub first_is_head : first_of kept.owner peer kept.entries ≡ slice_get (chain_numbers kept peer) 0
  first_is_head = walk_first kept.owner peer kept.entries ∙ number_at 0

-- an entry that passes a test stands among those that pass
position_passing : (t : EntryView → Bool) (n : ℕ) (es : List EntryView) (e : EntryView) → entry_numbered n es ≡ Some e → t e ≡ true →
    (i : ℕ) × (slice_get (numbers_of (filter t es)) i ≡ Some n)
position_passing t n [] e is passes = absurd (none-some e is)
position_passing t n (f ∷ es) e is passes =
    elim (cases_Bool (eqb f.number n)) [
      | inl here ↦
          let same : f ≡ e = same_Some f e (rw here at is) in
          let holds : t f ≡ true = rw same passes in
          let number : f.number ≡ n = grind (arith, nat_tests, here) in
          rw holds (0, ap Some number)
      | inr other ↦
          let rest = position_passing t n es e (rw other at is) passes in
          elim (cases_Bool (t f)) [
            | inl holds ↦ rw holds (suc rest.0, rest.1)
            | inr fails ↦ rw fails rest
          ]
    ]

found_with : (owner peer : List ℕ) (n : ℕ) (es : List EntryView) (found : Option EntryView) → found ≡ entry_numbered n es → is_found_with owner peer found ≡ true →
    (i : ℕ) × (slice_get (numbers_of (chain_of owner peer es)) i ≡ Some n)
found_with owner peer n es None is passes = absurd (grind (arith, passes))
found_with owner peer n es (Some e) is passes = position_passing (is_with owner peer) n es e (sym is) passes

-- where a number with an account stands among the account's
pub numbers_there : (kept : Kept) (peer : List ℕ) (n : ℕ) → is_number_with kept peer n ≡ true → (i : ℕ) × (slice_get (chain_numbers kept peer) i ≡ Some n)
numbers_there kept peer n passes = found_with kept.owner peer n kept.entries (entry_numbered n kept.entries) refl passes

-- the ends of a chain, by numbers
abbrev ends_with : EntryView → ℕ → EntryView → Chain
ends_with e count f = record { first = e.number; last = f.number; count = count }

last_entry : (e : EntryView) (some : List EntryView) → (f : EntryView) × (slice_get (e ∷ some) (length some) ≡ Some f)
last_entry e [] = (e, refl)
last_entry e (f ∷ some) = last_entry f some

ends_some : (owner peer : List ℕ) (es some : List EntryView) (e f : EntryView) → chain_of owner peer es ≡ e ∷ some → slice_get (e ∷ some) (length some) ≡ Some f →
    chain_ends owner peer es ≡ Some (ends_with e (length (e ∷ some)) f)
ends_some owner peer es some e f are is =
    let size : length (e ∷ some) - 1 ≡ length some = omega arith in
    let there : slice_get (e ∷ some) (length (e ∷ some) - 1) ≡ Some f = ap (slice_get (e ∷ some)) size ∙ is in
    ap ends_of are ∙ ap (option_map (ends_with e (length (e ∷ some)))) there

ends_are : (owner peer : List ℕ) (es : List EntryView) (some : List EntryView) (ends : Chain) → chain_of owner peer es ≡ some → chain_ends owner peer es ≡ Some ends →
    IsEndsOf (numbers_of some) ends
ends_are owner peer es [] ends are is = absurd (none-some ends (sym (walk_none owner peer es are) ∙ is))
ends_are owner peer es (e ∷ some) ends are is =
    let last = last_entry e some in
    let here = ends_some owner peer es some e last.0 are last.1 in
    let same : ends_with e (length (e ∷ some)) last.0 ≡ ends = same_Some (ends_with e (length (e ∷ some)) last.0) ends (sym here ∙ is) in
    let count : length (numbers_of (e ∷ some)) ≡ length (e ∷ some) = length-map (e ∷ some) number_of_entry in
    let end : slice_get (numbers_of (e ∷ some)) (length some) ≡ Some last.0.number =
    slice_get-map number_of_entry (e ∷ some) (length some) ∙ ap (option_map number_of_entry) last.1 in
    let at_end : length (numbers_of (e ∷ some)) - 1 ≡ length some = omega (arith, count) in
    record {
      first = ap (λ (x : Chain). Some x.first) same;
      last = ap (slice_get (numbers_of (e ∷ some))) at_end ∙ end ∙ ap (λ (x : Chain). Some x.last) same;
      count = sym (count ∙ ap (λ (x : Chain). x.count) same);
    }

pub numbers_ends : (kept : Kept) (peer : List ℕ) (ends : Chain) → chain_ends kept.owner peer kept.entries ≡ Some ends → IsEndsOf (chain_numbers kept peer) ends
numbers_ends kept peer ends is = ends_are kept.owner peer kept.entries (chain_of kept.owner peer kept.entries) ends refl is

none_are : (owner peer : List ℕ) (es : List EntryView) (some : List EntryView) → chain_of owner peer es ≡ some → chain_ends owner peer es ≡ None → numbers_of some ≡ []
none_are owner peer es [] are is = refl
none_are owner peer es (e ∷ some) are is =
    let last = last_entry e some in
    absurd (none-some (ends_with e (length (e ∷ some)) last.0) (sym is ∙ ends_some owner peer es some e last.0 are last.1))

pub numbers_none : (kept : Kept) (peer : List ℕ) → chain_ends kept.owner peer kept.entries ≡ None → chain_numbers kept peer ≡ []
numbers_none kept peer is = none_are kept.owner peer kept.entries (chain_of kept.owner peer kept.entries) refl is
