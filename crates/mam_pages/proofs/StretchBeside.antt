-- The candidates beside an entry of a chain.
use Rattle.std.proofs.Common.{◌≡◌, ℕ, ◌+◌, ◌-◌, ◌<◌, ◌≤◌, min, if◌then◌else◌, true, List, Option, Some, length, slice_get, unwrap_or, sym, ap, ◌∙◌, arith, inl, inr}
use Rattle.std.proofs.lemmas.Bool.{cases_Bool}
use Rattle.std.proofs.lemmas.Option.{slice_get_within}
use Rattle.mam_archive.specs.Peers.{chain_ends, index_of, next_of, previous_of}
use Rattle.mam_archive.specs.declared.chains.Chain.{Chain}
use Rattle.mam_pages.proofs.ChainNumbers.{numbers_ends, numbers_index, numbers_next, numbers_previous, numbers_rise, numbers_there}
use Rattle.mam_pages.proofs.Positions.{get_within}
use Rattle.mam_pages.proofs.StretchCuts.{beside_is}
use Rattle.mam_pages.specs.Kept.{AreConsecutive, Kept, last_number}
use Rattle.mam_pages.specs.Stretches.{IsOpenSpan, IsStretch, chain_numbers, edge_of, number_or, start_of, stretch_at}
use Rattle.mam_pages.specs.declared.span.Span.{Span}
use Rattle.mam_pages.specs.declared.stretch.Stretch.{Stretch}
use Rattle.mam_pages.specs.Looks.{is_number_with}

-- the entry stands at this index
pub record IsFound (kept : Kept) (peer : List ℕ) (number index count : ℕ) : Type 0 where
  pub here : slice_get (chain_numbers kept peer) index ≡ Some number
  pub within : index < count
  pub all : count ≡ length (chain_numbers kept peer)

pub found_at : (kept : Kept) (peer : List ℕ) (number index : ℕ) (found : Option ℕ) (chain : Chain) → AreConsecutive kept.entries →
    chain_ends kept.owner peer kept.entries ≡ Some chain → is_number_with kept peer number ≡ true → found ≡ index_of kept.owner number kept.entries →
    index ≡ unwrap_or found 0 → IsFound kept peer number index chain.count
found_at kept peer number index found chain known ends passes is at =
    let there = numbers_there kept peer number passes in
    let position : index ≡ there.0 = at ∙ ap (λ o. unwrap_or o 0) (is ∙ numbers_index kept peer there.0 number known there.1) in
    let all = (numbers_ends kept peer chain ends).count in
    let inside = slice_get_within (chain_numbers kept peer) there.0 number there.1 in
    record { here = rw position there.1; within = omega (arith, position, all, inside); all = all }

-- the nearest candidate is the neighbour
pub nearest_is : (kept : Kept) (peer : List ℕ) (span : Span) (number nearest index : ℕ) (s : Stretch) → AreConsecutive kept.entries →
    slice_get (chain_numbers kept peer) index ≡ Some number →
    nearest ≡ number_or (if span.backward then previous_of kept.owner number kept.entries else next_of kept.owner number kept.entries) number →
    s ≡ stretch_at span nearest index (length (chain_numbers kept peer)) → 1 ≤ min s.found span.most →
    slice_get (chain_numbers kept peer) (start_of span s) ≡ Some nearest
nearest_is kept peer span number nearest index s known here near is some = elim (cases_Bool span.backward) [
  | inl back ↦
      let shape : s ≡ record { number = nearest; skipped = 0; found = index; count = length (chain_numbers kept peer) } = rw back at is in
      let found : s.found ≡ index = ap (λ (t : Stretch). t.found) shape in
      let none : s.skipped ≡ 0 = ap (λ (t : Stretch). t.skipped) shape in
      let position : s.skipped + s.found - 1 ≡ index - 1 = omega (arith, found, none) in
      let inside = slice_get_within (chain_numbers kept peer) index number here in
      let at = get_within (index - 1) (chain_numbers kept peer) (omega (arith, inside)) in
      let previous = numbers_previous kept peer index number known here (omega (arith, some, found)) ∙ at.1 in
      let same : nearest ≡ at.0 = (rw back at near) ∙ ap (λ o. number_or o number) previous in
      rw back (rw position (at.1 ∙ ap Some (sym same)))
  | inr front ↦
      let shape : s ≡ record { number = nearest; skipped = index + 1; found = length (chain_numbers kept peer) - index - 1; count = length (chain_numbers kept peer) } = rw front at is in
      let found : s.found ≡ length (chain_numbers kept peer) - index - 1 = ap (λ (t : Stretch). t.found) shape in
      let before : s.skipped ≡ index + 1 = ap (λ (t : Stretch). t.skipped) shape in
      let at = get_within (index + 1) (chain_numbers kept peer) (omega (arith, some, found)) in
      let next = numbers_next kept peer index number known here ∙ at.1 in
      let same : nearest ≡ at.0 = (rw front at near) ∙ ap (λ o. number_or o number) next in
      rw front (rw before (at.1 ∙ ap Some (sym same)))
]

pub beside_fewer : (span : Span) (number index count : ℕ) (s : Stretch) → index < count → s ≡ stretch_at span number index count → s.found + 1 ≤ s.count
beside_fewer span number index count s within is = elim (cases_Bool span.backward) [
  | inl back ↦
      let shape : s ≡ record { number = number; skipped = 0; found = index; count = count } = rw back at is in
      omega (arith, ap (λ (t : Stretch). t.found) shape, ap (λ (t : Stretch). t.count) shape)
  | inr front ↦
      let shape : s ≡ record { number = number; skipped = index + 1; found = count - index - 1; count = count } = rw front at is in
      omega (arith, ap (λ (t : Stretch). t.found) shape, ap (λ (t : Stretch). t.count) shape)
]

-- the stretch beside an entry, where no candidate is wanted and where one is
pub stretch_none : (kept : Kept) (peer : List ℕ) (span : Span) (number index count : ℕ) (s : Stretch) → AreConsecutive kept.entries → IsOpenSpan (last_number kept.entries) span →
    edge_of span (last_number kept.entries) ≡ Some number → IsFound kept peer number index count → s ≡ stretch_at span number index count → min s.found span.most ≡ 0 →
    IsStretch span (chain_numbers kept peer) s
stretch_none kept peer span number index count s known reach edge at is none =
    beside_is span (last_number kept.entries) index number number (chain_numbers kept peer) s (numbers_rise kept peer known) reach edge at.here
    (is ∙ ap (stretch_at span number index) at.all) (λ some. absurd (omega (arith, some, none)))

pub stretch_some : (kept : Kept) (peer : List ℕ) (span : Span) (number nearest index count : ℕ) (s : Stretch) → AreConsecutive kept.entries → IsOpenSpan (last_number kept.entries) span →
    edge_of span (last_number kept.entries) ≡ Some number → IsFound kept peer number index count → s ≡ stretch_at span nearest index count →
    nearest ≡ number_or (if span.backward then previous_of kept.owner number kept.entries else next_of kept.owner number kept.entries) number →
    IsStretch span (chain_numbers kept peer) s
stretch_some kept peer span number nearest index count s known reach edge at is near =
    let same = is ∙ ap (stretch_at span nearest index) at.all in
    beside_is span (last_number kept.entries) index number nearest (chain_numbers kept peer) s (numbers_rise kept peer known) reach edge at.here
    same (λ some. nearest_is kept peer span number nearest index s known at.here near same some)
