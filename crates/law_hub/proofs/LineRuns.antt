-- What the lines of outputs say of one connection.
use Rattle.std.proofs.Common.{◌≡◌, ◌⊎◌, ◌||◌, ℕ, ◌+◌, ◌<◌, ◌≤◌, false, List, [], ◌∷◌, ◌++◌, append-nil, ap, refl, sym, ◌∙◌, inl, inr, arith}
use Rattle.std.proofs.lemmas.Bool.{cases_lt, false≢true}
use Rattle.std.proofs.lemmas.Grind.{flat_map-append}
use Rattle.std.proofs.lemmas.List.Concat.{flat_map-cons}
use Rattle.std.specs.List.{AllByRecursion}
use Rattle.srv_state.specs.State.{Out, Put, Shut, Took, is_number}
use Rattle.cmd_journal.specs.Texts as texts
use Rattle.cmd_journal.specs.Texts.{OutputView}
use Rattle.cmd_rerun.specs.Reruns.{line_of, lines_of}
use Rattle.cmd_schedule.proofs.Lists.{all_flat_map}
use Rattle.srv_core.specs.Telling.{is_shut, is_told}
use Rattle.net_hub.specs.Puts.{bytes_put, put_for}
use Rattle.cmd_rerun.proofs.Entries.{same_itself}
use Rattle.law_hub.specs.Again.{IsWithin, bytes_out, out_bytes, shuts}
use Rattle.cmd_rerun.specs.Silence.{IsApart, Quiet}

line_bytes : (k : ℕ) (o : Out (List ℕ)) → bytes_out k (line_of o) ≡ bytes_put k o
line_bytes k (Put j bytes) = append-nil (out_bytes k (texts.Put j bytes))
line_bytes k (Shut j) = refl
line_bytes k (Took from to origin) = refl

pub lines_bytes : (k : ℕ) (outs : List (Out (List ℕ))) → bytes_out k (lines_of outs) ≡ put_for k outs
lines_bytes k [] = refl
lines_bytes k (o ∷ outs) =
    ap (bytes_out k) (flat_map-cons line_of o outs) ∙ flat_map-append (out_bytes k) (line_of o) (lines_of outs)
    ∙ ap (λ b. b ++ bytes_out k (lines_of outs)) (line_bytes k o) ∙ ap (λ b. bytes_put k o ++ b) (lines_bytes k outs) ∙ sym (flat_map-cons (bytes_put k) o outs)

line_shuts : (k : ℕ) (o : Out (List ℕ)) (lines : List OutputView) → shuts k (line_of o ++ lines) ≡ (is_shut k o || shuts k lines)
line_shuts k (Put j bytes) lines = refl
line_shuts k (Shut j) lines = refl
line_shuts k (Took from to origin) lines = refl

pub lines_shut : (k : ℕ) (outs : List (Out (List ℕ))) → shuts k (lines_of outs) ≡ is_told k outs
lines_shut k [] = refl
lines_shut k (o ∷ outs) = ap (shuts k) (flat_map-cons line_of o outs) ∙ line_shuts k o (lines_of outs) ∙ ap (λ c. is_shut k o || c) (lines_shut k outs)

-- ---- they are of the first n connections

-- none of n numbers from k on
abbrev pub IsOutside : ℕ → ℕ → ℕ → Type 0
IsOutside m k n = (m < k) ⊎ (k + n ≤ m)

-- a number that none outside of the first n has
in_range : (n j : ℕ) → ((m : ℕ) → IsOutside m 1 n → is_number m j ≡ false) → (1 ≤ j) × (j ≤ n)
in_range n j apart = (at_least, at_most)
  where
    not_outside : IsOutside j 1 n → ⊥
    not_outside outside = false≢true (sym (apart j outside) ∙ same_itself j)

    at_least : 1 ≤ j
    at_least = elim (cases_lt j 1) [ inl below ↦ absurd (not_outside (inl below)) | inr other ↦ omega (arith, other) ]

    at_most : j ≤ n
    at_most = elim (cases_lt n j) [ inl above ↦ absurd (not_outside (inr (omega (arith, above)))) | inr other ↦ omega (arith, other) ]

line_within : (n : ℕ) (o : Out (List ℕ)) → ((m : ℕ) → IsOutside m 1 n → IsApart m o) → AllByRecursion (IsWithin n) (line_of o)
line_within n (Put j bytes) apart = (in_range n j apart, tt)
line_within n (Shut j) apart = (in_range n j apart, tt)
line_within n (Took from to origin) apart = tt

each_within : (n : ℕ) (outs : List (Out (List ℕ))) → ((m : ℕ) → IsOutside m 1 n → Quiet m outs) → AllByRecursion (λ o. AllByRecursion (IsWithin n) (line_of o)) outs
each_within n [] quiet = tt
each_within n (o ∷ outs) quiet = (line_within n o (λ m outside. (quiet m outside).0), each_within n outs (λ m outside. (quiet m outside).1))

pub lines_within : (n : ℕ) (outs : List (Out (List ℕ))) → ((m : ℕ) → IsOutside m 1 n → Quiet m outs) → AllByRecursion (IsWithin n) (lines_of outs)
lines_within n outs quiet = all_flat_map (IsWithin n) line_of outs (each_within n outs quiet)
