-- Each step keeps the rule of the queue.
use Rattle.std.proofs.Common.{◌≡◌, ◌≢◌, ℕ, zero, suc, ◌<◌, ◌⊎◌, inl, inr, true, false, true≢false, List, [], ◌∷◌, ◌++◌, length, set, sym, refl, ap, ◌∙◌, subst, ⊎_elim, append_assoc, arith, cond, eqb, eq-eqb, ne_eqb, lt_of_not-le}
use mathlib.Core.Option.{Option, some, none, some-ne-none, some-injective}
use lib.ListN.{get_elem?}
use Rattle.crossbeam_channel.specs.Fifo.{Pushes, Pops, Forks, Merges, Learns}
use Rattle.atomic_table.proofs.Lists.{at_set}
use Rattle.net_owner.specs.declared.rule.Known.{Known}
use Rattle.net_owner.specs.Merge.{items_of}
use Rattle.net_owner.proofs.ItemsOf.{items_of-next, items_of-another}
use Rattle.net_owner.specs.Rule.{nobody, owner, sender, with_put, with_got, with_more, with_told, IsTold, FitsSender, FitsOwner, Carries}

module _ {T : Type 0} (from : T → ℕ) where
  -- All passes fit.
  abbrev All : (ℕ → Known T → Type 0) → List (Known T) → Type 0
  All F views = (pass : ℕ) (v : Known T) → get_elem? views pass ≡ some v → F pass v

  all_set : (F : ℕ → Known T → Type 0) (views : List (Known T)) (pass : ℕ) (w : Known T) → F pass w
      → ((j : ℕ) (u : Known T) → j ≢ pass → get_elem? views j ≡ some u → F j u) → All F (set views pass w)
  all_set F views pass w mine others j u e = ⊎_elim (λ (x : (j ≡ pass) × (w ≡ u)). subst (λ (y : ℕ × Known T). F y.0 y.1) (λ i. (sym x.0 i, x.1 i)) mine)
      (λ (x : (j ≢ pass) × (get_elem? views j ≡ some u)). others j u x.0 x.1) (at_set views pass j w u e)

  at_end : (l : List (Known T)) (a b : Known T) (j : ℕ) → get_elem? (l ++ a ∷ []) j ≡ some b → (get_elem? l j ≡ some b) ⊎ ((j ≡ length l) × (a ≡ b))
  at_end [] a b zero e = inr (refl, some-injective a b e)
  at_end [] a b (suc j) e = absurd (some-ne-none b (sym e))
  at_end (x ∷ xs) a b zero e = inl e
  at_end (x ∷ xs) a b (suc j) e = ⊎_elim (λ t. inl t) (λ t. inr (ap suc t.0, t.1)) (at_end xs a b j e)

  abbrev Fits : ℕ → (ℕ → Option ℕ) → List T → List T → ℕ → Known T → Type 0
  Fits position seat got all pass v = FitsSender from seat all pass v × FitsOwner from position seat got all pass v

  pub begins : Carries from [] (owner ∷ [])
  unfolding items_of
  begins = (0, (λ _. none), [], [], refl, first)
    where
      first : All (Fits 0 (λ _. none) [] []) (owner ∷ [])
      first zero v e = subst (λ v. Fits 0 (λ _. none) [] [] 0 v) (some-injective owner v e) ((λ p. absurd (true≢false (sym p))), (λ _. (refl, refl, (λ k _. (refl, refl)), λ p. absurd (true≢false (sym p)))))
      first (suc j) v e = absurd (some-ne-none v (sym e))

  -- an owner's knowledge stays while another sender sends
  stays : (position : ℕ) (seat : ℕ → Option ℕ) (got all : List T) (x : T) (port j : ℕ) (u : Known T) → seat (from x) ≡ some port
      → FitsOwner from position seat got all j u → FitsOwner from position seat got (all ++ x ∷ []) j u
  stays position seat got all x port j u at fits takes = let f = fits takes in
      let apart : (k : ℕ) → seat k ≡ none → from x ≢ k = λ k free e. some-ne-none port (sym at ∙ ap seat e ∙ free) in (
        f.0,
        f.1,
        (λ k le. let r = f.2 k le in (r.0, items_of-another from k x all (apart k r.0) ∙ r.1)),
        λ told. let r = f.3 told in (r.0, r.1, items_of-another from u.told_from x all (apart u.told_from r.1) ∙ r.2),
      )

  pub puts : (n pass : ℕ) (v : Known T) (x : T) → v.sends ≡ true → from x ≡ v.from → Pushes (Carries from) n pass v x (λ w. w ≡ with_put v x)
  puts n pass v x may is items views _ h at = let w : Known T = with_put v x in let mine = h.5 pass v at in let here = mine.0 may in let all = h.3 ++ x ∷ [] in
      let seated : h.1 (from x) ≡ some pass = ap h.1 is ∙ here.0 in (
        w,
        (
          h.0,
          h.1,
          h.2,
          all,
          ap (λ l. l ++ x ∷ []) h.4 ∙ append_assoc h.2 items (x ∷ []),
          all_set (Fits h.0 h.1 h.2 all) views pass w
              ((λ _. (here.0, ap (λ l. l ++ x ∷ []) here.1 ∙ sym (items_of-next from v.from x h.3 is))), stays h.0 h.1 h.2 h.3 x pass pass w seated mine.1)
              (λ j u other e. let theirs = h.5 j u e in (
                (λ p. let t = theirs.0 p in (t.0, t.1 ∙ sym (items_of-another from u.from x h.3 (λ q. other (some-injective j pass (sym t.0 ∙ ap h.1 (sym q) ∙ seated)))))),
                stays h.0 h.1 h.2 h.3 x pass j u seated theirs.1,
              )),
        ),
        refl,
      )

  pub takes : (pass : ℕ) (v : Known T) → v.takes ≡ true → Pops (Carries from) pass v (λ x w. w ≡ with_got v x)
  takes pass v may x items views h at = let w : Known T = with_got v x in let mine = h.5 pass v at in let here = mine.1 may in let got = h.2 ++ x ∷ [] in (
    w,
    (
      h.0,
      h.1,
      got,
      h.3,
      h.4 ∙ sym (append_assoc h.2 (x ∷ []) items),
      all_set (Fits h.0 h.1 got h.3) views pass w
          (mine.0, λ _. (here.0, ap (λ l. l ++ x ∷ []) here.1, here.2, here.3))
          (λ j u other e. let theirs = h.5 j u e in (theirs.0, λ p. absurd (other ((theirs.1 p).0 ∙ sym here.0)))),
    ),
    refl,
  )

  -- where a reservation is given to one number
  abbrev given : (ℕ → Option ℕ) → ℕ → Option ℕ → ℕ → Option ℕ
  given seat k o j = cond (eqb j k) o (seat j)

  given_here : (seat : ℕ → Option ℕ) (k : ℕ) (o : Option ℕ) (j : ℕ) → j ≡ k → given seat k o j ≡ o
  given_here seat k o j e = rw (eq-eqb j k e) refl

  given_else : (seat : ℕ → Option ℕ) (k : ℕ) (o : Option ℕ) (j : ℕ) → j ≢ k → given seat k o j ≡ seat j
  given_else seat k o j ne = rw (ne_eqb j k ne) refl

  pub forks : (pass : ℕ) (v : Known T) → v.takes ≡ true → v.sends ≡ false → Forks (Carries from) pass v (with_more v) (sender v.made)
  forks pass v may mute items views h at = let l : Known T = with_more v in let r : Known T = sender v.made in let mine = h.5 pass v at in let here = mine.1 may in
      let vs : List (Known T) = set views pass l in let n = length vs in let k = v.made in let new = here.2 k (omega arith) in
      let seat : ℕ → Option ℕ = given h.1 k (some n) in
      -- a sender that has a reservation is not the new one
      let apart : (j p : ℕ) → h.1 j ≡ some p → j ≢ k = λ j p e q. some-ne-none p (sym e ∙ ap h.1 q ∙ new.0) in
      let old : All (Fits h.0 seat h.2 h.3) vs = all_set (Fits h.0 seat h.2 h.3) views pass l (
        (λ p. absurd (true≢false (sym p ∙ mute))),
        λ _. (
          here.0,
          here.1,
          (λ j le. let e = here.2 j (omega arith) in (given_else h.1 k (some n) j (λ q. omega arith) ∙ e.0, e.1)),
          λ told. let t = here.3 told in (omega (arith, t.0), given_else h.1 k (some n) v.told_from (λ q. let lt = t.0 in omega arith) ∙ t.1, t.2),
        ),
      )
      (λ j u other e. let theirs = h.5 j u e in (
        (λ p. let t = theirs.0 p in (given_else h.1 k (some n) u.from (apart u.from j t.0) ∙ t.0, t.1)),
        λ p. absurd (other ((theirs.1 p).0 ∙ sym here.0)),
      )) in (
        h.0,
        seat,
        h.2,
        h.3,
        h.4,
        λ j u e. ⊎_elim (λ x. old j u x)
            (λ (x : (j ≡ n) × (r ≡ u)). subst (λ (y : ℕ × Known T). Fits h.0 seat h.2 h.3 y.0 y.1) (λ i. (sym x.0 i, x.1 i))
            ((λ _. (given_here h.1 k (some n) k refl, sym new.1)), λ p. absurd (true≢false (sym p))))
            (at_end vs r u j e),
      )

  pub merges : (pass : ℕ) (v : Known T) (other : ℕ) (u : Known T) → v.takes ≡ true → v.sends ≡ false → u.sends ≡ true → Merges (Carries from) pass v other u (with_told v u) nobody
  merges pass v other u may mute sends items views h at two at' = let both : Known T = with_told v u in let mine = h.5 pass v at in let here = mine.1 may in
      let vs : List (Known T) = set views pass both in let k = u.from in let seat : ℕ → Option ℕ = given h.1 k none in
      let was : get_elem? views other ≡ some u = ⊎_elim (λ x. absurd (two x.0)) (λ x. x.1) (at_set views pass other both u at') in
      let theirs = (h.5 other u was).0 sends in
      let below : k < v.made = lt_of_not-le (λ le. some-ne-none other (sym theirs.0 ∙ (here.2 k le).0)) in
      let Now : ℕ → Known T → Type 0 = λ j y. j ≢ other → Fits h.0 seat h.2 h.3 j y in
      let now : All Now vs = all_set Now views pass both
      (λ _. (
        (λ p. absurd (true≢false (sym p ∙ mute))),
        λ _. (
          here.0,
          here.1,
          (λ j le. let e = here.2 j le in (given_else h.1 k none j (λ q. omega arith) ∙ e.0, e.1)),
          λ _. (below, given_here h.1 k none k refl, sym theirs.1),
        ),
      ))
      (λ j y mover e apart. let its = h.5 j y e in (
        (λ p. let t = its.0 p in (given_else h.1 k none y.from (λ q. apart (some-injective j other (sym t.0 ∙ ap h.1 q ∙ theirs.0))) ∙ t.0, t.1)),
        λ p. absurd (mover ((its.1 p).0 ∙ sym here.0)),
      )) in (
        h.0,
        seat,
        h.2,
        h.3,
        h.4,
        all_set (Fits h.0 seat h.2 h.3) vs other nobody ((λ p. absurd (true≢false (sym p))), λ p. absurd (true≢false (sym p))) (λ j y apart e. now j y e apart),
      )

  pub tells : (pass : ℕ) (v : Known T) → v.takes ≡ true → Learns (Carries from) pass v (IsTold from v)
  tells pass v may items views h at told = let here = (h.5 pass v at).1 may in
      ap (λ l. items_of from v.told_from (l ++ items)) here.1 ∙ ap (items_of from v.told_from) (sym h.4) ∙ (here.3 told).2

  pub first_none : (xs ys : List T) → xs ++ ys ≡ [] → xs ≡ []
  first_none [] ys e = refl
  first_none (x ∷ xs) ys e = absurd (let n : suc (length (xs ++ ys)) ≡ 0 = ap length e in omega arith)

  pub none_yet : (pass : ℕ) (v : Known T) → v.takes ≡ true → Learns (Carries from) pass v (λ items. items_of from v.made (v.got ++ items) ≡ [])
  none_yet pass v may items views h at = let here = (h.5 pass v at).1 may in
      ap (λ l. items_of from v.made (l ++ items)) here.1 ∙ ap (items_of from v.made) (sym h.4) ∙ (here.2 v.made (omega arith)).1
