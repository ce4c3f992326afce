-- Where the bare form of an address ends.
use Rattle.std.proofs.Common.{◌≡◌, ℕ, ◌≤◌, List, length, arith, inl, inr, eqb-true}
use Rattle.std.specs.List.{position_or_len}
use Rattle.std.specs.Str.{IsCharBoundary}
use Rattle.std.proofs.lemmas.Bool.{cases_lt}
use Rattle.std.proofs.lemmas.List.{length-take-le}
use Rattle.std.proofs.lemmas.List.Sums.{passes_at_first, prefix_len-le-length}
use Rattle.std.proofs.lemmas.Str.{IsCharBoundary-end, IsCharBoundary-before_ascii}
use Rattle.mam_archive.specs.Peers.{bare_form, is_slash}

bare_size : (address : List ℕ) → length (bare_form address) ≡ position_or_len is_slash address
bare_size address = length-take-le (position_or_len is_slash address) address (prefix_len-le-length _ address)

-- there the address may be cut
pub bare_boundary : (address : List ℕ) → IsCharBoundary address (length (bare_form address))
bare_boundary address =
    let at = position_or_len is_slash address in
    rw (bare_size address) (elim (cases_lt at (length address)) [
      | inl lt ↦ IsCharBoundary-before_ascii address at lt (omega (arith, eqb-true _ _ (passes_at_first is_slash address 0 lt)))
      | inr ge ↦
          let within : at ≤ length address = prefix_len-le-length _ address in
          let all : at ≡ length address = omega arith in
          rw all (IsCharBoundary-end address)
    ])
