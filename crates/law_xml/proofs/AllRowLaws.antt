-- The rows on bytes are all.
use Rattle.std.proofs.Common.{◌≡◌, ℕ, ◌↔◌, ◌<◌, ◌^◌, ◌⊎◌, inl, inr, ⊎_elim, true, false, List, [], ◌∷◌, ◌++◌, Option, Some, None, sym, ap, subst, ◌∙◌}
use Rattle.std.proofs.lemmas.Bool.{cases_Bool, false≢true}
use Rattle.xml_framer.proofs.Pieces.{run_append}
use Rattle.xml_framer.specs.Machine.{is_too_long, run}
use Rattle.xml_framer.specs.Readings.{fault_of, framed}
use Rattle.xml_framer.specs.States.{State, Turn, from_start, turn}
use Rattle.xml_framer.specs.declared.fault.Fault.{Fault}
use Rattle.xml_framer.specs.declared.fault.Why.{Why}
use Rattle.xml_framer.specs.declared.fault.Why.TheVariants as why
use Rattle.xml_framer.specs.declared.limits.Limits.{Limits}
use Rattle.law_xml.proofs.ByteRowLaws.{near_decides}
use Rattle.law_xml.proofs.LongRowLaws.{long_decides, long_far, long_is}
use Rattle.law_xml.proofs.OpenRowLaws.{open_decides}
use Rattle.law_xml.proofs.OpenRowsTold.{row_told}
use Rattle.law_xml.proofs.PrefixRuns.{long_told}
use Rattle.law_xml.proofs.RowsTold.{one_some}
use Rattle.law_xml.specs.AllRows.{FaultRow, IsShortEnough, of_context, of_token, too_many}
use Rattle.law_xml.specs.ByteRows.{ByteRow}
use Rattle.law_xml.specs.FaultRows.{Decides}
use Rattle.law_xml.specs.OpenRows.{OpenRow}

module _ (limits : Limits) (few_bytes : limits.bytes < 2 ^ 64) (few : limits.attributes < 2 ^ 32) (short : limits.namespace_bytes < 2 ^ 32) (bytes : List ℕ) (none : fault_of limits bytes ≡ None) (b offset : ℕ) (w : Why) where
  abbrev s : State
  s = (framed limits bytes).state

  abbrev Decided : Type 0
  Decided = fault_of limits (bytes ++ b ∷ []) ≡ Some (record { at = offset; why = w })

  -- what the state tells as too long is that
  far_told : is_too_long s b ≡ true → Decided → w ≡ why.TooLong
  unfolding framed
  far_told far is = let told = long_told limits bytes b few short none far in same told.0 (sym is ∙ later told.0 told.2)
    where
      later : (n : ℕ) → Decides (run (turn (from_start limits) []) bytes) b n why.TooLong → fault_of limits (bytes ++ b ∷ []) ≡ Some (record { at = n; why = why.TooLong })
      later n d = ap (λ (u : Turn). u.state.fault) (run_append (turn (from_start limits) []) bytes (b ∷ [])) ∙ d

      same : (n : ℕ) → ◌≡◌ {A = Option Fault} (Some (record { at = offset; why = w })) (Some (record { at = n; why = why.TooLong })) → w ≡ why.TooLong
      same n e = ap (λ (f : Fault). f.why) (one_some _ _ e)

  near_enough : is_too_long s b ≡ false → IsShortEnough limits bytes b
  near_enough near n l = false≢true (sym near ∙ long_far limits few_bytes few short bytes none b n l)

  near_is : IsShortEnough limits bytes b → is_too_long s b ≡ false
  unfolding framed
  near_is brief =
      ⊎_elim
      (λ (far : is_too_long s b ≡ true).
      let told = long_told limits bytes b few short none far in
      absurd (brief told.0 (long_is limits few_bytes few short bytes none b told.0 far (ap (λ (u : Turn). u.state.fault) (run_append (turn (from_start limits) []) bytes (b ∷ [])) ∙ told.2))))
      (λ (near : is_too_long s b ≡ false). near) (cases_Bool (is_too_long s b))

  told : Decided → FaultRow limits bytes b offset w
  told is =
      ⊎_elim
      (λ (far : is_too_long s b ≡ true).
      let w_is = far_told far is in
      too_many limits bytes b offset w (long_is limits few_bytes few short bytes none b offset far (subst (λ x. fault_of limits (bytes ++ b ∷ []) ≡ Some (record { at = offset; why = x })) w_is is)) w_is)
      (λ (near : is_too_long s b ≡ false). by_row (near_enough near) (row_told limits few_bytes few short bytes none b offset w is near)) (cases_Bool (is_too_long s b))
    where
      by_row : IsShortEnough limits bytes b → ByteRow bytes b offset w ⊎ OpenRow limits bytes b offset w → FaultRow limits bytes b offset w
      by_row brief (inl row) = of_token limits bytes b offset w brief row
      by_row brief (inr row) = of_context limits bytes b offset w brief row

  decided : FaultRow limits bytes b offset w → Decided
  decided (too_many _ _ _ _ _ long w_is) =
      subst (λ x. fault_of limits (bytes ++ b ∷ []) ≡ Some (record { at = offset; why = x })) (sym w_is) (long_decides limits few_bytes few short bytes none b offset long)
  decided (of_token _ _ _ _ _ brief row) = near_decides limits bytes b offset w none (near_is brief) row
  decided (of_context _ _ _ _ _ brief row) = open_decides limits few_bytes few short bytes none b offset w (near_is brief) row

pub rows_are_all : (limits : Limits) (bytes : List ℕ) (b offset : ℕ) (w : Why) → limits.bytes < 2 ^ 64 → limits.attributes < 2 ^ 32 → limits.namespace_bytes < 2 ^ 32 → fault_of limits bytes ≡ None
    → (fault_of limits (bytes ++ b ∷ []) ≡ Some (record { at = offset; why = w })) ↔ FaultRow limits bytes b offset w
rows_are_all limits bytes b offset w few_bytes few short none = (told limits few_bytes few short bytes none b offset w, decided limits few_bytes few short bytes none b offset w)
