-- Each step keeps the rule of the queue.
use Rattle.std.proofs.Common.{◌≡◌, ◌≢◌, ℕ, zero, suc, true, false, true≢false, List, [], ◌∷◌, ◌++◌, length, set, sym, refl, ap, ◌∙◌, subst, ⊎_elim, append_assoc, length-append, arith, ◌≤◌, ◌+◌}
use mathlib.Core.Option.{some, some-ne-none}
use lib.ListN.{get_elem?}
use Rattle.crossbeam_channel.specs.Fifo.{Pushes, Pops, Forks, Merges, Learns}
use Rattle.atomic_table.proofs.Lists.{at_set, at_snoc}
use Rattle.net_queues.specs.declared.rule.Side.{Side}
use Rattle.net_queues.specs.Rule.{side, Fits, IsRelayed, with_got, with_put}

module _ {T : Type 0} where
  at_end : (l : List (Side T)) (a b : Side T) (j : ℕ) → get_elem? l j ≢ some b → get_elem? (l ++ a ∷ []) j ≡ some b → j ≡ length l
  at_end [] a b zero n e = refl
  at_end [] a b (suc j) n e = absurd (some-ne-none b (sym e))
  at_end (x ∷ xs) a b zero n e = absurd (n e)
  at_end (x ∷ xs) a b (suc j) n e = ap suc (at_end xs a b j n e)

  abbrev All : (ℕ → Side T → Type 0) → List (Side T) → Type 0
  All F views = (pass : ℕ) (v : Side T) → get_elem? views pass ≡ some v → F pass v

  all_set : (F : ℕ → Side T → Type 0) (views : List (Side T)) (pass : ℕ) (w : Side T) → F pass w → ((j : ℕ) (u : Side T) → j ≢ pass → get_elem? views j ≡ some u → F j u) → All F (set views pass w)
  all_set F views pass w mine others j u e = ⊎_elim (λ (x : (j ≡ pass) × (w ≡ u)). subst (λ (y : ℕ × Side T). F y.0 y.1) (λ i. (sym x.0 i, x.1 i)) mine)
      (λ (x : (j ≢ pass) × (get_elem? views j ≡ some u)). others j u x.0 x.1) (at_set views pass j w u e)

  pub begins : IsRelayed {T = T} [] (side true true [] [] ∷ [])
  begins = (0, 0, [], [], refl, all_set (Fits 0 0 [] []) (side true true [] [] ∷ []) 0 (side true true [] []) ((λ _. (refl, refl)), λ _. (refl, refl)) (λ j u other e. absurd (other (at_end [] _ u j (λ x. some-ne-none u (sym x)) e))))

  pub sends : (n pass : ℕ) (v : Side T) (x : T) → v.puts ≡ true → Pushes IsRelayed n pass v x (λ w. w ≡ with_put v x)
  sends n pass v x may items views _ h at = let w : Side T = side v.puts v.takes (v.put ++ x ∷ []) v.got in let mine = h.5 pass v at in let sent = h.2 ++ x ∷ [] in (
    w,
    (
      h.0,
      h.1,
      sent,
      h.3,
      ap (λ l. l ++ x ∷ []) h.4 ∙ append_assoc h.3 items (x ∷ []),
      all_set (Fits h.0 h.1 sent h.3) views pass w ((λ _. ((mine.0 may).0, ap (λ l. l ++ x ∷ []) (mine.0 may).1)), mine.1)
          (λ j u other e. ((λ p. absurd (other (((h.5 j u e).0 p).0 ∙ sym (mine.0 may).0))), (h.5 j u e).1)),
    ),
    refl,
  )

  pub gets : (pass : ℕ) (v : Side T) → v.takes ≡ true → Pops IsRelayed pass v (λ x w. w ≡ with_got v x)
  gets pass v may x items views h at = let w : Side T = side v.puts v.takes v.put (v.got ++ x ∷ []) in let mine = h.5 pass v at in let got = h.3 ++ x ∷ [] in (
    w,
    (
      h.0,
      h.1,
      h.2,
      got,
      h.4 ∙ sym (append_assoc h.3 (x ∷ []) items),
      all_set (Fits h.0 h.1 h.2 got) views pass w (mine.0, λ _. ((mine.1 may).0, ap (λ l. l ++ x ∷ []) (mine.1 may).1))
          (λ j u other e. ((h.5 j u e).0, λ p. absurd (other (((h.5 j u e).1 p).0 ∙ sym (mine.1 may).0)))),
    ),
    refl,
  )

  pub forks : (pass : ℕ) (v : Side T) → v.puts ≡ true → v.takes ≡ true → Forks IsRelayed pass v (side true false v.put []) (side false true [] v.got)
  forks pass v a b items views h at = let l : Side T = side true false v.put [] in let r : Side T = side false true [] v.got in let mine = h.5 pass v at in let vs : List (Side T) = set views pass l in
      let Old : ℕ → Side T → Type 0 = λ j u. (u.puts ≡ true → (j ≡ h.0) × (u.put ≡ h.2)) × (u.takes ≢ true) in
      let old : All Old vs = all_set Old views pass l ((λ _. mine.0 a), λ p. true≢false (sym p)) (λ j u other e. ((h.5 j u e).0, λ p. other (((h.5 j u e).1 p).0 ∙ sym (mine.1 b).0))) in (
        h.0,
        length vs,
        h.2,
        h.3,
        h.4,
        λ j u e. ⊎_elim (λ x. ((old j u x).0, λ p. absurd ((old j u x).1 p)))
            (λ (is : r ≡ u). ((λ p. absurd (true≢false (sym (ap (λ (y : Side T). y.puts) is ∙ p)))), λ p. (at_end vs r u j (λ x. (old j u x).1 p) e, ap (λ (y : Side T). y.got) (sym is) ∙ (mine.1 b).1))) (at_snoc vs r u j e),
      )

  pub merges : (pass : ℕ) (v : Side T) (other : ℕ) (u : Side T) → v.puts ≡ true → u.takes ≡ true → Merges IsRelayed pass v other u (side true true v.put u.got) (side false false [] [])
  merges pass v other u a b items views h at two at' = let both : Side T = side true true v.put u.got in let mine = h.5 pass v at in let vs : List (Side T) = set views pass both in
      let was : get_elem? views other ≡ some u = ⊎_elim (λ x. absurd (two x.0)) (λ x. x.1) (at_set views pass other both u at') in let theirs = (h.5 other u was).1 b in
      let Now : ℕ → Side T → Type 0 = λ j y. j ≢ other → Fits h.0 pass h.2 h.3 j y in
      let now : All Now vs = all_set Now views pass both (λ _. ((λ _. mine.0 a), λ _. (refl, theirs.1))) (λ j y _ e apart. ((h.5 j y e).0, λ p. absurd (apart (((h.5 j y e).1 p).0 ∙ sym theirs.0)))) in
      (h.0, pass, h.2, h.3, h.4, all_set (Fits h.0 pass h.2 h.3) vs other (side false false [] []) ((λ p. absurd (true≢false (sym p))), λ p. absurd (true≢false (sym p))) (λ j y apart e. now j y e apart))

  pub totals : (pass : ℕ) (v : Side T) → v.puts ≡ true → v.takes ≡ true → Learns IsRelayed pass v (λ items. v.put ≡ v.got ++ items)
  totals pass v a b items views h at = let mine = h.5 pass v at in (mine.0 a).1 ∙ h.4 ∙ ap (λ l. l ++ items) (sym (mine.1 b).1)

  -- of what was put at least as much as the queue holds
  pub bounds : (pass : ℕ) (v : Side T) → v.puts ≡ true → Learns IsRelayed pass v (λ items. length items ≤ length v.put)
  bounds pass v may items views h at = let mine = h.5 pass v at in let all = ap length ((mine.0 may).1 ∙ h.4) ∙ length-append h.3 items in omega arith
