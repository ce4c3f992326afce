-- The connections that came in are counted by their places, and by what the acceptor sent.
use Rattle.std.proofs.Common.{◌≡◌, ◌≢◌, ℕ, zero, suc, ◌+◌, ◌⊎◌, ⊎_elim, Bool, true, false, true≢false, List, [], ◌∷◌, ◌++◌, length, length-append, length-set, set, drop, Option, Some, None, is_some, cond, sym, refl, ap, ◌∙◌, subst, arith}
use mathlib.Core.Logic.{dite}
use native.Mathlib.Decide.{ℕ_discrete}
use Rattle.net_owner.proofs.WholeFeeds.{and_left, head_is}
use Rattle.net_owner.specs.Arrivals.{AreHere, arrivals, has_closed, is_closed}
use Rattle.net_owner.specs.Positions.{are_started}
use Rattle.net_owner.specs.Troubles.{first_of}
use Rattle.net_owner.specs.declared.position.Slot.{Slot}
use Rattle.net_owner.specs.declared.trouble.Trouble.{Trouble}
use Rattle.net_owner.proofs.ItemsOf.{items_of-another, items_of-next}
use Rattle.net_owner.specs.Merge.{items_of}
use Rattle.net_owner.specs.Acceptors.{are_arrivals, closed_item, is_arrival}
use Rattle.net_owner.specs.Feeds.{number}
use Rattle.net_owner.specs.declared.item.Item.{Item}
use Rattle.net_owner.specs.declared.item.What.{What}
use Rattle.net_owner.specs.declared.item.What.TheVariants.{Came, Gave, Ended, Closed, Wanted}

module _ {P : Type 0} where
  one_more : (xs : List (Item P)) (x : Item P) → is_arrival x.what ≡ true → arrivals (xs ++ x ∷ []) ≡ arrivals xs + 1
  unfolding arrivals
  one_more [] x is = rw is refl
  one_more (y ∷ ys) x is = elim (is_arrival y.what) as (λ b. cond b (suc (arrivals (ys ++ x ∷ []))) (arrivals (ys ++ x ∷ [])) ≡ cond b (suc (arrivals ys)) (arrivals ys) + 1)
      [ true ↦ (let rest = one_more ys x is in omega (arith, rest)) | false ↦ one_more ys x is ]

  no_more : (xs : List (Item P)) (x : Item P) → is_arrival x.what ≡ false → arrivals (xs ++ x ∷ []) ≡ arrivals xs
  unfolding arrivals
  no_more [] x is = rw is refl
  no_more (y ∷ ys) x is = elim (is_arrival y.what) as (λ b. cond b (suc (arrivals (ys ++ x ∷ []))) (arrivals (ys ++ x ∷ [])) ≡ cond b (suc (arrivals ys)) (arrivals ys))
      [ true ↦ ap suc (no_more ys x is) | false ↦ no_more ys x is ]

  still_closed : (xs : List (Item P)) (x : Item P) → has_closed xs ≡ true → has_closed (xs ++ x ∷ []) ≡ true
  unfolding has_closed
  still_closed [] x e = absurd (true≢false (sym e))
  still_closed (y ∷ ys) x e = elim (is_closed y.what) as (λ b. cond b true (has_closed ys) ≡ true → cond b true (has_closed (ys ++ x ∷ [])) ≡ true) [ true ↦ (λ _. refl) | false ↦ (λ h. still_closed ys x h) ] e

  closed_here : (xs : List (Item P)) (x : Item P) → is_closed x.what ≡ true → has_closed (xs ++ x ∷ []) ≡ true
  unfolding has_closed
  closed_here [] x e = rw e refl
  closed_here (y ∷ ys) x e = elim (is_closed y.what) as (λ b. cond b true (has_closed (ys ++ x ∷ [])) ≡ true) [ true ↦ refl | false ↦ closed_here ys x e ]

  closed_is : (what : What P) → is_closed what ≡ true → is_arrival what ≡ false
  closed_is (Came p) e = absurd (true≢false (sym e))
  closed_is (Gave piece) e = refl
  closed_is Ended e = refl
  closed_is Closed e = refl
  closed_is Wanted e = refl

  came_goes_on : (what : What P) (b : Bool) → is_arrival what ≡ true → cond (is_closed what) true b ≡ true → b ≡ true
  came_goes_on (Came p) b e h = h
  came_goes_on (Gave piece) b e h = absurd (true≢false (sym e))
  came_goes_on Ended b e h = absurd (true≢false (sym e))
  came_goes_on Closed b e h = absurd (true≢false (sym e))
  came_goes_on Wanted b e h = absurd (true≢false (sym e))

  none_left : (xs ys : List (Item P)) → xs ++ ys ≡ [] → arrivals xs ≡ 0
  unfolding arrivals
  none_left [] ys e = refl
  none_left (x ∷ xs) ys e = absurd (let n : suc (length (xs ++ ys)) ≡ 0 = ap length e in omega arith)

  -- of the acceptor all connections were taken, once its last item was
  pub all_came : (a b body : List (Item P)) → a ++ b ≡ body ++ closed_item ∷ [] → are_arrivals body ≡ true → has_closed a ≡ true → arrivals a ≡ length body
  unfolding are_arrivals arrivals has_closed head_is
  all_came [] b body e all h = absurd (true≢false (sym h))
  all_came (x ∷ xs) b [] e all h =
      let is : x ≡ closed_item = ap (head_is x) e in
      ap (λ (z : Item P). cond (is_arrival z.what) (suc (arrivals xs)) (arrivals xs)) is ∙ none_left xs b (ap (drop 1) e)
  all_came (x ∷ xs) b (y ∷ ys) e all h =
      let both = and_left (is_arrival y.what) (are_arrivals ys) all in
      let is : is_arrival x.what ≡ true = ap (λ (z : Item P). is_arrival z.what) (ap (head_is x) e) ∙ both.0 in
      rw is (ap suc (all_came xs b ys (ap (drop 1) e) both.1 (came_goes_on x.what (has_closed xs) is h)))

-- what was met stays
pub never_none : (met new : Option Trouble) (trouble : Trouble) → new ≡ first_of met trouble → new ≡ None → ⊥
never_none None new trouble is e = true≢false (ap is_some (sym is ∙ e))
never_none (Some met) new trouble is e = true≢false (ap is_some (sym is ∙ e))

module _ {R I P : Type 0} where
  started_more : (ps : List (Slot R I P)) (p : Slot R I P) → are_started ps ≡ true → is_some p.worker ≡ true → are_started (ps ++ p ∷ []) ≡ true
  unfolding are_started
  started_more [] p all one = rw one refl
  started_more (q ∷ ps) p all one = elim (is_some q.worker) as (λ b. cond b (are_started ps) false ≡ true → cond b (are_started (ps ++ p ∷ [])) false ≡ true) [ true ↦ (λ rest. started_more ps p rest one) | false ↦ (λ e. e) ] all

  started_set : (ps : List (Slot R I P)) (i : ℕ) (p : Slot R I P) → are_started ps ≡ true → is_some p.worker ≡ true → are_started (set ps i p) ≡ true
  unfolding are_started
  started_set [] i p all one = refl
  started_set (q ∷ ps) zero p all one = elim (is_some q.worker) as (λ b. cond b (are_started ps) false ≡ true → cond (is_some p.worker) (are_started ps) false ≡ true) [ true ↦ (λ rest. rw one rest) | false ↦ (λ e. absurd (true≢false (sym e))) ] all
  started_set (q ∷ ps) (suc i) p all one = elim (is_some q.worker) as (λ b. cond b (are_started ps) false ≡ true → cond b (are_started (set ps i p)) false ≡ true) [ true ↦ (λ rest. started_set ps i p rest one) | false ↦ (λ e. e) ] all

  -- an item was taken that is no connection of the acceptor
  pub here_past : (waiting : ℕ) (got : List (Item P)) (closed : Bool) (met : Option Trouble) (positions : List (Slot R I P)) (x : Item P) → (x.from ≢ 0) ⊎ (is_arrival x.what ≡ false)
      → AreHere waiting got closed met positions → AreHere waiting (got ++ x ∷ []) closed met positions
  here_past waiting got closed met positions x why here = dite (ℕ_discrete x.from 0)
      (λ is. let more = items_of-next number 0 x got is in record {
        last = λ e. subst (λ l. has_closed l ≡ true) (sym more) (still_closed (items_of number 0 got) x (here.last e));
        started = here.started;
        many = λ e. here.many e ∙ sym (no_more (items_of number 0 got) x (⊎_elim (λ (ne : x.from ≢ 0). absurd (ne is)) (λ (not : is_arrival x.what ≡ false). not) why)) ∙ ap arrivals (sym more);
      })
      (λ ne. let same = items_of-another number 0 x got ne in record {
        last = λ e. subst (λ l. has_closed l ≡ true) (sym same) (here.last e);
        started = here.started;
        many = λ e. here.many e ∙ ap arrivals (sym same);
      })

  -- a connection was taken, and waits for its place
  pub here_came : (got : List (Item P)) (closed : Bool) (met : Option Trouble) (positions : List (Slot R I P)) (x : Item P) → x.from ≡ 0 → is_arrival x.what ≡ true
      → AreHere 0 got closed met positions → AreHere 1 (got ++ x ∷ []) closed met positions
  here_came got closed met positions x from is here = let more = items_of-next number 0 x got from in record {
    last = λ e. subst (λ l. has_closed l ≡ true) (sym more) (still_closed (items_of number 0 got) x (here.last e));
    started = here.started;
    many = λ e. (let before = here.many e in let one = one_more (items_of number 0 got) x is in
        let next : length positions + 1 ≡ arrivals (items_of number 0 got ++ x ∷ []) = omega (arith, before, one) in next ∙ ap arrivals (sym more));
  }

  -- the acceptor's last item was taken
  pub here_closed : (got : List (Item P)) (closed : Bool) (met : Option Trouble) (positions : List (Slot R I P)) (x : Item P) → x.from ≡ 0 → is_closed x.what ≡ true
      → AreHere 0 got closed met positions → AreHere 0 (got ++ x ∷ []) true met positions
  here_closed got closed met positions x from is here = let more = items_of-next number 0 x got from in record {
    last = λ e. subst (λ l. has_closed l ≡ true) (sym more) (closed_here (items_of number 0 got) x is);
    started = here.started;
    many = λ e. here.many e ∙ sym (no_more (items_of number 0 got) x (closed_is x.what is)) ∙ ap arrivals (sym more);
  }

  -- a connection has got its place, and its reader, or something went wrong
  pub here_placed : (got : List (Item P)) (closed : Bool) (met new : Option Trouble) (positions : List (Slot R I P)) (p : Slot R I P) → (new ≡ None → (met ≡ None) × (is_some p.worker ≡ true))
      → AreHere 1 got closed met positions → AreHere 0 got closed new (positions ++ p ∷ [])
  here_placed got closed met new positions p bounded here = record {
    last = here.last;
    started = λ e. started_more positions p (here.started (bounded e).0) (bounded e).1;
    many = λ e. (let before = here.many (bounded e).0 in let n = length-append positions (p ∷ []) in omega (arith, before, n));
  }

  -- a connection was refused
  pub here_refused : (got : List (Item P)) (closed : Bool) (met new : Option Trouble) (positions : List (Slot R I P)) → (new ≡ None → ⊥) → AreHere 1 got closed met positions → AreHere 0 got closed new positions
  here_refused got closed met new positions bad here = record {
    last = here.last;
    started = λ e. absurd (bad e);
    many = λ e. absurd (bad e);
  }

  -- the end of a reader was marked
  pub here_marked : (got : List (Item P)) (closed : Bool) (met : Option Trouble) (positions : List (Slot R I P)) (i : ℕ) (p : Slot R I P) → is_some p.worker ≡ true
      → AreHere 0 got closed met positions → AreHere 0 got closed met (set positions i p)
  here_marked got closed met positions i p one here = record {
    last = here.last;
    started = λ e. started_set positions i p (here.started e) one;
    many = λ e. ap (λ n. n + 0) (length-set positions i p) ∙ here.many e;
  }
