-- Once all readers were started and have ended, they can be settled.
use Rattle.std.proofs.Common.{◌≡◌, ℕ, zero, suc, ◌+◌, Bool, true, false, true≢false, List, [], ◌∷◌, length, Option, Some, None, IfSome, is_some, cond, ap, refl, subst, sym, ◌∙◌, arith}
use mathlib.Core.Option.{some, some-ne-none, some-injective}
use lib.ListN.{get_elem?}
use Rattle.net_traits.specs.Halves.{IncomingView, OutgoingView}
use Rattle.net_hub.specs.Backs.{AreReady}
use Rattle.net_owner.specs.Events as owner
use Rattle.net_owner.specs.Halves.{IsNew}
use Rattle.net_owner.specs.Positions.{IsPlaced, are_over, are_started}
use Rattle.net_owner.specs.declared.position.Slot.{Slot}
use Rattle.net_owner.specs.declared.item.Item.{Item}
use Rattle.net_owner.specs.declared.reader.ReaderJob.{ReaderJob}
use Rattle.net_hub.specs.Sendings.{numbers_of}
use Rattle.net_hub.specs.declared.sender.Sender.{Sender}

if_both : (a b : Bool) → cond a b false ≡ true → (a ≡ true) × (b ≡ true)
if_both true b e = (refl, e)
if_both false b e = absurd (true≢false (sym e))

over_both : (a e b : Bool) → cond (cond a e true) b false ≡ true → (a ≡ true → e ≡ true) × (b ≡ true)
over_both true true b h = ((λ _. refl), h)
over_both true false b h = absurd (true≢false (sym h))
over_both false e b h = ((λ f. absurd (true≢false (sym f))), h)

the_some : {A : Type 0} (o : Option A) → is_some o ≡ true → (a : A) × (o ≡ Some a)
the_some None e = absurd (true≢false (sym e))
the_some (Some a) e = (a, refl)

module _ {R I O P : Type 0} (told : I → IncomingView) (out : O → OutgoingView) (es : List owner.Event) (got : List (Item P)) (same : ReaderJob R I P → Type 0) where
  pub ready : (k : ℕ) (ps : List (Slot R I P)) (ss : List (Sender O)) → length ss ≡ length ps → are_started ps ≡ true → are_over ps ≡ true
      → ((i : ℕ) (p : Slot R I P) → get_elem? ps i ≡ some p → IsPlaced es got (k + i) p × IfSome p.worker same)
      → ((i : ℕ) (p : Slot R I P) → get_elem? ps i ≡ some p → IfSome p.worker (λ job. (get_elem? (numbers_of out ss) i ≡ some (told job.half).number) × IsNew (told job.half)))
      → AreReady told out got same k ps ss
  unfolding are_started are_over
  ready k [] [] many started over placed held = tt
  ready k [] (s ∷ ss) many started over placed held = absurd (omega (arith, many))
  ready k (p ∷ ps) [] many started over placed held = absurd (omega (arith, many))
  ready k (p ∷ ps) (s ∷ ss) many started over placed held =
      let go = if_both (is_some p.worker) (are_started ps) started in
      let ends = over_both (is_some p.worker) p.ended (are_over ps) over in
      let job = the_some p.worker go.0 in
      let here : k + 0 ≡ k = omega arith in
      let first = placed 0 p refl in
      let pair = subst (λ w. IfSome w (λ j. (get_elem? (numbers_of out (s ∷ ss)) 0 ≡ some (told j.half).number) × IsNew (told j.half))) job.1 (held 0 p refl) in
      let is = subst (λ n. IsPlaced es got n p) here first.0 in (
        record {
          job = job.0;
          worker = job.1;
          queue = subst (λ w. IfSome w same) job.1 first.1;
          from = subst (λ w. IfSome w (λ j. j.from ≡ k)) job.1 is.number_is;
          ended = is.ended (ends.0 go.0);
          pair = sym (some-injective (out s.half).number (told job.0.half).number pair.0);
          new = pair.1;
        },
        ready (k + 1) ps ss (omega (arith, many)) go.1 ends.1
            (λ i q at. let next : k + suc i ≡ k + 1 + i = omega arith in subst (λ n. IsPlaced es got n q × IfSome q.worker same) next (placed (suc i) q at))
            (λ i q at. held (suc i) q at),
      )

module _ {R I P : Type 0} where
  -- none of them has no reader
  pub all_some : (ps : List (Slot R I P)) → are_started ps ≡ true → (i : ℕ) (p : Slot R I P) → get_elem? ps i ≡ some p → p.worker ≡ None → ⊥
  unfolding are_started
  all_some [] started i p at none = some-ne-none p (sym at)
  all_some (q ∷ ps) started zero p at none =
      let go = if_both (is_some q.worker) (are_started ps) started in true≢false (sym go.0 ∙ ap is_some (ap (λ (r : Slot R I P). r.worker) (some-injective q p at) ∙ none))
  all_some (q ∷ ps) started (suc i) p at none = all_some ps (if_both (is_some q.worker) (are_started ps) started).1 i p at none
