-- The place where bytes leave a grammar is one, and it is where the reader leaves off.
use Rattle.std.proofs.Common.{◌≡◌, ℕ, ◌+◌, ◌-◌, ◌<◌, List, [], ◌∷◌, ◌++◌, length, take, drop, Result, Err, refl, sym, ap, ◌∙◌, arith, append_assoc, subst, inl, inr}
use Rattle.std.proofs.Math.Seq.{take-add}
use Rattle.std.proofs.lemmas.Bool.{cases_lt}
use Rattle.std.proofs.lemmas.List.{length-append, take-append-drop, take_at}
use Rattle.auth_scram.specs.Positions.{LeavesAt}
use Rattle.auth_scram.proofs.Runs.{Alike, result_cases}
use Rattle.auth_scram.proofs.Sequences.{Reads, alike_itself}

module _ (G : List ℕ → Type 0) where
  -- bytes that leave the grammar aren't in it
  pub outside : (bytes : List ℕ) (at : ℕ) → LeavesAt G bytes at → G bytes → ⊥
  outside bytes at leaves word =
      elim (cases_lt at (length bytes)) [
        | inl l ↦ leaves.departs l (drop (at + 1) bytes) (subst G (sym (take-append-drop (at + 1) bytes)) word)
        | inr e ↦ (let within = leaves.within in leaves.ends (omega arith) word)
      ]

  earlier : (bytes : List ℕ) (at later : ℕ) → LeavesAt G bytes at → LeavesAt G bytes later → at < later → ⊥
  earlier bytes at later first second lt =
      let within = second.within in
      let apart : later ≡ at + 1 + (later - (at + 1)) = omega arith in
      let front : take later bytes ≡ take (at + 1) bytes ++ take (later - (at + 1)) (drop (at + 1) bytes) = ap (λ (n : ℕ). take n bytes) apart ∙ take-add (at + 1) (later - (at + 1)) bytes in
      let begun = second.begins in
      let whole : take later bytes ++ begun.0 ≡ take (at + 1) bytes ++ (take (later - (at + 1)) (drop (at + 1) bytes) ++ begun.0) =
      ap (λ (x : List ℕ). x ++ begun.0) front ∙ append_assoc (take (at + 1) bytes) (take (later - (at + 1)) (drop (at + 1) bytes)) begun.0 in
      first.departs (omega arith) (take (later - (at + 1)) (drop (at + 1) bytes) ++ begun.0) (subst G whole begun.1)

  pub one_position : (bytes : List ℕ) (at other : ℕ) → LeavesAt G bytes at → LeavesAt G bytes other → at ≡ other
  one_position bytes at other first second =
      elim (cases_lt at other) [
        | inl l ↦ absurd (earlier bytes at other first second l)
        | inr l ↦ elim (cases_lt other at) [
          | inl m ↦ absurd (earlier bytes other at second first m)
          | inr m ↦ omega arith
        ]
      ]

module _ {V : Type 0} (read : List ℕ → Result V (List ℕ)) (M : V → List ℕ → Type 0) (reads : Reads read M) (G : List ℕ → Type 0) (to : (v : V) (bytes : List ℕ) → M v bytes → G bytes)
    (from : (bytes : List ℕ) → G bytes → (v : V) × M v bytes) where
  refused : (bytes rest : List ℕ) → read bytes ≡ Err rest → G bytes → ⊥
  refused bytes rest h word =
      let w = from bytes word in
      let ok = reads.only w.0 bytes w.1 in
      cc (sym ok ∙ h)

  departs_after : (front rest : List ℕ) → ((other : List ℕ) → Alike rest other → read (front ++ other) ≡ Err other) → length front < length (front ++ rest) → (more : List ℕ)
      → G (take (length front + 1) (front ++ rest) ++ more) → ⊥
  departs_after front [] again lt more word = absurd (omega (arith, length-append front []))
  departs_after front (c ∷ rest) again lt more word =
      let apart : front ++ c ∷ rest ≡ (front ++ c ∷ []) ++ rest = sym (append_assoc front (c ∷ []) rest) in
      let size : length (front ++ c ∷ []) ≡ length front + 1 = length-append front (c ∷ []) in
      let taken : take (length front + 1) (front ++ c ∷ rest) ≡ front ++ c ∷ [] = ap (take (length front + 1)) apart ∙ take_at (front ++ c ∷ []) rest (length front + 1) size in
      let whole : take (length front + 1) (front ++ c ∷ rest) ++ more ≡ front ++ c ∷ more = ap (λ (x : List ℕ). x ++ more) taken ∙ append_assoc front (c ∷ []) more in
      refused (front ++ c ∷ more) (c ∷ more) (again (c ∷ more) refl) (subst G whole word)

  leaves_after : (front rest : List ℕ) → ((v : V) × (more : List ℕ) × M v (front ++ more)) → ((other : List ℕ) → Alike rest other → read (front ++ other) ≡ Err other)
      → LeavesAt G (front ++ rest) (length front)
  leaves_after front rest word again =
      let taken : take (length front) (front ++ rest) ≡ front = take_at front rest (length front) refl in
      record {
        within = omega (arith, length-append front rest);
        begins = (word.1, subst (λ (x : List ℕ). G (x ++ word.1)) (sym taken) (to word.0 (front ++ word.1) word.2));
        departs = λ lt more in_it. departs_after front rest again lt more in_it;
        ends = λ e in_it. refused (front ++ rest) rest (again rest (alike_itself rest)) in_it;
      }

  -- where the reader leaves off
  pub position : (bytes rest : List ℕ) → read bytes ≡ Err rest → LeavesAt G bytes (length bytes - length rest)
  position bytes rest h =
      let left = reads.leaves bytes rest h in
      let e : bytes ≡ left.front ++ rest = left.whole in
      let at : length bytes - length rest ≡ length left.front = omega (arith, ap length e, length-append left.front rest) in
      subst (LeavesAt G bytes) (sym at) (subst (λ (x : List ℕ). LeavesAt G x (length left.front)) (sym e) (leaves_after left.front rest left.word left.again))

  -- and the other way: it leaves off where the bytes leave the grammar
  pub position_read : (bytes : List ℕ) (at : ℕ) → LeavesAt G bytes at → (rest : List ℕ) × (read bytes ≡ Err rest) × (length bytes - length rest ≡ at)
  position_read bytes at leaves =
      elim (result_cases (read bytes)) [
        | inl ok ↦ absurd (outside G bytes at leaves (to ok.0 bytes (reads.found bytes ok.0 ok.1)))
        | inr err ↦ (err.0, err.1, one_position G bytes (length bytes - length err.0) at (position bytes err.0 err.1) leaves)
      ]
