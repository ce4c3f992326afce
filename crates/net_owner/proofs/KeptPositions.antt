-- What happens to connections stays what was taken of their readers, where one event more happened.
use Rattle.std.proofs.Common.{◌≡◌, ◌≢◌, ℕ, zero, suc, ◌+◌, ◌<◌, ◌⊎◌, inl, inr, true, false, true≢false, List, [], ◌∷◌, ◌++◌, length, length-set, set, sym, refl, ap, ◌∙◌, subst, ⊎_elim, append_assoc, append-nil, length-append, arith, cond, eq-eqb, ne_eqb}
use Rattle.std.specs.Prelude.{Option, Some, None, IfSome}
use mathlib.Core.Option.{some, some-ne-none, some-injective}
use mathlib.Core.Logic.{dite}
use native.Mathlib.Decide.{ℕ_discrete}
use lib.ListN.{get_elem?}
use Rattle.atomic_table.proofs.Lists.{at_set}
use Rattle.net_owner.specs.declared.item.Item.{Item}
use Rattle.net_owner.specs.declared.position.Slot.{Slot}
use Rattle.net_owner.specs.Merge.{items_of}
use Rattle.net_owner.specs.Events.{Connect, Event, Told, event, shown, told_in, told_of}
use Rattle.net_owner.specs.Positions.{AreKept, HasNoReader, IsPlaced, feed_from}
use Rattle.net_owner.specs.Feeds.{has_end, is_end, number}
use Rattle.net_owner.proofs.ItemsOf.{items_of-next, items_of-another}

-- the event of connection k that happened
abbrev pub Adds : List Event → List Event → ℕ → Told → Type 0
Adds old new k t = new ≡ old ++ event k t ∷ []

shown_append : (k : ℕ) (xs ys : List Event) → shown k (xs ++ ys) ≡ shown k xs ++ shown k ys
unfolding shown
shown_append k [] ys = refl
shown_append k (x ∷ xs) ys = dite (ℕ_discrete x.conn k)
    (λ e. rw (eq-eqb x.conn k e) (ap (λ l. x.told ∷ l) (shown_append k xs ys)))
    (λ ne. rw (ne_eqb x.conn k ne) (shown_append k xs ys))

pub shown_more : (k : ℕ) (x : Event) (xs : List Event) → x.conn ≡ k → shown k (xs ++ x ∷ []) ≡ shown k xs ++ x.told ∷ []
unfolding shown
shown_more k x xs e = shown_append k xs (x ∷ []) ∙ ap (λ l. shown k xs ++ l) (rw (eq-eqb x.conn k e) refl)

pub shown_same : (k : ℕ) (x : Event) (xs : List Event) → x.conn ≢ k → shown k (xs ++ x ∷ []) ≡ shown k xs
unfolding shown
shown_same k x xs ne = shown_append k xs (x ∷ []) ∙ ap (λ l. shown k xs ++ l) (rw (ne_eqb x.conn k ne) refl) ∙ append-nil (shown k xs)

module _ {P : Type 0} where
  told_more : (xs : List (Item P)) (x : Item P) → told_of (xs ++ x ∷ []) ≡ told_of xs ++ told_in x.what
  unfolding told_of
  told_more [] x = append-nil (told_in x.what)
  told_more (y ∷ ys) x = ap (λ l. told_in y.what ++ l) (told_more ys x) ∙ sym (append_assoc (told_in y.what) (told_of ys) (told_in x.what))

  last_kept : (xs : List (Item P)) (x : Item P) → has_end xs ≡ true → has_end (xs ++ x ∷ []) ≡ true
  unfolding has_end
  last_kept [] x e = absurd (true≢false (sym e))
  last_kept (y ∷ ys) x e = elim (is_end y.what) as (λ b. cond b true (has_end ys) ≡ true → cond b true (has_end (ys ++ x ∷ [])) ≡ true) [ true ↦ (λ _. refl) | false ↦ (λ h. last_kept ys x h) ] e

  pub last_here : (xs : List (Item P)) (x : Item P) → is_end x.what ≡ true → has_end (xs ++ x ∷ []) ≡ true
  unfolding has_end
  last_here [] x e = rw e refl
  last_here (y ∷ ys) x e = elim (is_end y.what) as (λ b. cond b true (has_end (ys ++ x ∷ [])) ≡ true) [ true ↦ refl | false ↦ last_here ys x e ]

module _ {R I P : Type 0} where
  pub at_below : (l : List (Slot R I P)) (i : ℕ) (p : Slot R I P) → get_elem? l i ≡ some p → i < length l
  at_below [] i p e = absurd (some-ne-none p (sym e))
  at_below (x ∷ xs) zero p e = omega arith
  at_below (x ∷ xs) (suc i) p e = let b = at_below xs i p e in omega arith

  -- what a reader that wasn't the sender is known for stays
  stays : (events : List Event) (got : List (Item P)) (x : Item P) (k : ℕ) (p : Slot R I P) → x.from ≢ k → IsPlaced events got k p → IsPlaced events (got ++ x ∷ []) k p
  stays events got x k p ne h = let same = items_of-another number k x got ne in record {
    number_is = h.number_is;
    events_are = h.events_are ∙ ap (λ l. Connect ∷ feed_from p.worker l) (sym same);
    ended = λ e. subst (λ l. has_end l ≡ true) (sym same) (h.ended e);
  }

  -- an item that says nothing of its connection
  quiet : (events : List Event) (got : List (Item P)) (x : Item P) (k : ℕ) (p : Slot R I P) → x.from ≡ k → (p.worker ≡ None) ⊎ (told_in x.what ≡ []) → IsPlaced events got k p → IsPlaced events (got ++ x ∷ []) k p
  quiet events got x k p is why h = let more = items_of-next number k x got is in record {
    number_is = h.number_is;
    events_are = h.events_are ∙ ap (λ l. Connect ∷ l) (⊎_elim
        (λ none. ap (λ w. feed_from w (items_of number k got)) none ∙ sym (ap (λ w. feed_from w (items_of number k (got ++ x ∷ []))) none))
        (λ nothing. silent p.worker nothing more)
        why);
    ended = λ e. subst (λ l. has_end l ≡ true) (sym more) (last_kept (items_of number k got) x (h.ended e));
  }
    where
      silent : {W : Type 0} {now : List (Item P)} (w : Option W) → told_in x.what ≡ [] → now ≡ items_of number k got ++ x ∷ [] → feed_from w (items_of number k got) ≡ feed_from w now
      silent None nothing more = refl
      silent (Some _) nothing more = sym (ap told_of more ∙ told_more (items_of number k got) x ∙ ap (λ l. told_of (items_of number k got) ++ l) nothing ∙ append-nil (told_of (items_of number k got)))

  -- the item's own event was written
  heard : (events new : List Event) (got : List (Item P)) (x : Item P) (k : ℕ) (p : Slot R I P) (t : Told) → x.from ≡ k → (p.worker ≡ None → ⊥) → told_in x.what ≡ t ∷ [] → Adds events new k t
      → IsPlaced events got k p → IsPlaced new (got ++ x ∷ []) k p
  heard events new got x k p t is there says n h = let more = items_of-next number k x got is in record {
    number_is = h.number_is;
    events_are = ap (shown k) n ∙ shown_more k (event k t) events refl ∙ ap (λ l. l ++ t ∷ []) h.events_are ∙ ap (λ l. Connect ∷ l) (loud p.worker there);
    ended = λ e. subst (λ l. has_end l ≡ true) (sym more) (last_kept (items_of number k got) x (h.ended e));
  }
    where
      loud : {W : Type 0} (w : Option W) → (w ≡ None → ⊥) → feed_from w (items_of number k got) ++ t ∷ [] ≡ feed_from w (items_of number k (got ++ x ∷ []))
      loud None some_one = absurd (some_one refl)
      loud (Some _) some_one = sym (ap told_of (items_of-next number k x got is) ∙ told_more (items_of number k got) x ∙ ap (λ l. told_of (items_of number k got) ++ l) says)

  -- another connection's event changes nothing
  elsewhere : (events new : List Event) (got : List (Item P)) (k j : ℕ) (p : Slot R I P) (t : Told) → j ≢ k → Adds events new j t → IsPlaced events got k p → IsPlaced new got k p
  elsewhere events new got k j p t ne n h = record {
    number_is = h.number_is;
    events_are = ap (shown k) n ∙ shown_same k (event j t) events ne ∙ h.events_are;
    ended = h.ended;
  }

  -- an item that is no event was taken
  pub ignored : (events : List Event) (got : List (Item P)) (positions : List (Slot R I P)) (x : Item P) → (HasNoReader positions x.from) ⊎ (told_in x.what ≡ []) → AreKept events got positions → AreKept events (got ++ x ∷ []) positions
  ignored events got positions x why h = record {
    placed = λ i p at. dite (ℕ_discrete x.from (i + 1))
        (λ is. quiet events got x (i + 1) p is (⊎_elim (λ (n : HasNoReader positions x.from). inl (n i p at (sym is))) (λ e. inr e) why) (h.placed i p at))
        (λ ne. stays events got x (i + 1) p ne (h.placed i p at));
    others = h.others;
  }

  -- an item that is an event was taken, and the event written
  pub noted : (events new : List Event) (got : List (Item P)) (positions : List (Slot R I P)) (x : Item P) (t : Told) (i : ℕ) (p : Slot R I P) → get_elem? positions i ≡ some p → (p.worker ≡ None → ⊥) → i + 1 ≡ x.from
      → told_in x.what ≡ t ∷ [] → Adds events new x.from t → AreKept events got positions → AreKept new (got ++ x ∷ []) positions
  noted events new got positions x t i p at there is says n h = record {
    placed = λ j q there_at. dite (ℕ_discrete x.from (j + 1))
        (λ same. let j_is : j ≡ i = omega arith in let q_is : q ≡ p = some-injective q p (sym there_at ∙ ap (get_elem? positions) j_is ∙ at) in
        heard events new got x (j + 1) q t same (λ e. there (ap (λ (r : Slot R I P). r.worker) (sym q_is) ∙ e)) says (subst (λ k. Adds events new k t) same n) (h.placed j q there_at))
        (λ ne. elsewhere events new (got ++ x ∷ []) (j + 1) x.from q t ne n (stays events got x (j + 1) q ne (h.placed j q there_at)));
    others = λ k out. ap (shown k) n ∙ shown_same k (event x.from t) events (within k out) ∙ h.others k out;
  }
    where
      below : i < length positions
      below = at_below positions i p at

      within : (k : ℕ) → (k ≡ 0) ⊎ (length positions < k) → x.from ≡ k → ⊥
      within k out f = ⊎_elim (λ (e : k ≡ 0). omega arith) (λ (e : length positions < k). let b = below in omega arith) out

  -- a reader's end was noted at its place
  pub marked : (events : List Event) (got : List (Item P)) (positions : List (Slot R I P)) (i : ℕ) (p q : Slot R I P) → get_elem? positions i ≡ some p → q.worker ≡ p.worker → has_end (items_of number (i + 1) got) ≡ true
      → AreKept events got positions → AreKept events got (set positions i q)
  marked events got positions i p q at same last h = record {
    placed = λ j r there. ⊎_elim
        (λ (e : (j ≡ i) × (q ≡ r)). subst (λ (y : ℕ × Slot R I P). IsPlaced events got (y.0 + 1) y.1) (λ n. (sym e.0 n, e.1 n)) (record {
          number_is = subst (λ w. IfSome w (λ job. job.from ≡ i + 1)) (sym same) (h.placed i p at).number_is;
          events_are = (h.placed i p at).events_are ∙ ap (λ w. Connect ∷ feed_from w (items_of number (i + 1) got)) (sym same);
          ended = λ _. last;
        }))
        (λ (e : (j ≢ i) × (get_elem? positions j ≡ some r)). h.placed j r e.1)
        (at_set positions i j q r there);
    others = λ k out. h.others k (⊎_elim (λ (e : k ≡ 0). inl e) (λ (e : length (set positions i q) < k). inr (let n = length-set positions i q in omega arith)) out);
  }

  pub at_end : (l : List (Slot R I P)) (a b : Slot R I P) (j : ℕ) → get_elem? (l ++ a ∷ []) j ≡ some b → (get_elem? l j ≡ some b) ⊎ ((j ≡ length l) × (a ≡ b))
  at_end [] a b zero e = inr (refl, some-injective a b e)
  at_end [] a b (suc j) e = absurd (some-ne-none b (sym e))
  at_end (x ∷ xs) a b zero e = inl e
  at_end (x ∷ xs) a b (suc j) e = ⊎_elim (λ t. inl t) (λ t. inr (ap suc t.0, t.1)) (at_end xs a b j e)

  -- a connection came
  pub welcomed : (events new : List Event) (got : List (Item P)) (positions : List (Slot R I P)) (p : Slot R I P) (k : ℕ) → k ≡ length positions + 1 → items_of number k got ≡ [] → IfSome p.worker (λ job. job.from ≡ k) → p.ended ≡ false
      → ((j : ℕ) → k ≢ j → shown j new ≡ shown j events) → shown k new ≡ shown k events ++ Connect ∷ feed_from {P = P} p.worker []
      → AreKept events got positions → AreKept new got (positions ++ p ∷ [])
  welcomed events new got positions p k k_is none its_number open_yet apart here h = record {
    placed = λ j q there. ⊎_elim
        (λ (old : get_elem? positions j ≡ some q). let b = at_below positions j q old in let was = h.placed j q old in record {
          number_is = was.number_is;
          events_are = apart (j + 1) (λ e. omega arith) ∙ was.events_are;
          ended = was.ended;
        })
        (λ (e : (j ≡ length positions) × (p ≡ q)). let k_j : k ≡ j + 1 = let a = e.0 in omega arith in subst (λ (y : ℕ × Slot R I P). IsPlaced new got y.0 y.1) (λ n. (k_j n, e.1 n)) (record {
          number_is = its_number;
          events_are = here ∙ ap (λ l. l ++ Connect ∷ feed_from {P = P} p.worker []) (h.others k (inr (omega arith))) ∙ ap (λ l. Connect ∷ feed_from p.worker l) (sym none);
          ended = λ e. absurd (true≢false (sym e ∙ open_yet));
        }))
        (at_end positions p q j there);
    others = λ j out. apart j (λ e. elsewhere_is j out e) ∙ h.others j (⊎_elim (λ (e : j ≡ 0). inl e) (λ (e : length (positions ++ p ∷ []) < j). inr (let n = length-append positions (p ∷ []) in omega arith)) out);
  }
    where
      elsewhere_is : (j : ℕ) → (j ≡ 0) ⊎ (length (positions ++ p ∷ []) < j) → k ≡ j → ⊥
      elsewhere_is j out e = ⊎_elim (λ (z : j ≡ 0). omega arith) (λ (lt : length (positions ++ p ∷ []) < j). let n = length-append positions (p ∷ []) in omega arith) out

  pub past_end : (positions : List (Slot R I P)) (k : ℕ) → (k ≡ 0) ⊎ (length positions < k) → HasNoReader positions k
  past_end positions k out i p at e = absurd (let b = at_below positions i p at in ⊎_elim (λ (z : k ≡ 0). omega arith) (λ (z : length positions < k). omega arith) out)
