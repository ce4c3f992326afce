-- The half of each reader stays of the same link as the taker's half at its place.
use Rattle.std.proofs.Common.{◌≡◌, ◌≢◌, ℕ, zero, suc, ⊎_elim, Bool, true, List, [], ◌∷◌, ◌++◌, length, set, Option, Some, None, IfSome, Vec, append-nil, ap, refl, subst, sym, ◌∙◌}
use Rattle.std.specs.declared.alloc.Global.{Global}
use mathlib.Core.Option.{some, some-ne-none}
use lib.ListN.{get_elem?}
use Rattle.atomic_table.proofs.Lists.{at_set}
use Rattle.crossbeam_channel.specs.Claims.{Pass, view, IsSeatAt}
use Rattle.crossbeam_channel.specs.Ends.{receives_on, sends_on}
use Rattle.net_traits.specs.Halves.{IncomingView}
use Rattle.net_owner.proofs.KeptPositions.{at_end}
use Rattle.net_owner.specs.Halves.{AreFirst, IsHeld, IsNew}
use Rattle.net_owner.specs.declared.owner.Owner.{Owner}
use Rattle.net_owner.specs.declared.position.Slot.{Slot}
use Rattle.net_owner.specs.declared.trouble.Trouble.{Trouble}
use Rattle.net_owner.specs.declared.rule.Known.{Known}
use Rattle.net_owner.specs.declared.item.Item.{Item}

pub first_same : (xs ys : List ℕ) → ys ≡ xs → AreFirst xs ys
first_same xs ys is = ([], is ∙ sym (append-nil xs))

grows : (xs more : List ℕ) (i n : ℕ) → get_elem? xs i ≡ some n → get_elem? (xs ++ more) i ≡ some n
grows [] more i n e = absurd (some-ne-none n (sym e))
grows (x ∷ xs) more zero n e = e
grows (x ∷ xs) more (suc i) n e = grows xs more i n e

pub at_first : (xs ys : List ℕ) (i n : ℕ) → AreFirst xs ys → get_elem? xs i ≡ some n → get_elem? ys i ≡ some n
at_first xs ys i n first e = ap (λ l. get_elem? l i) first.1 ∙ grows xs first.0 i n e

last_at : (xs : List ℕ) (n : ℕ) → get_elem? (xs ++ n ∷ []) (length xs) ≡ some n
last_at [] n = refl
last_at (x ∷ xs) n = last_at xs n

map_some : {A : Type 0} (P Q : A → Type 0) (o : Option A) → ((a : A) → P a → Q a) → IfSome o P → IfSome o Q
map_some P Q None f h = tt
map_some P Q (Some a) f h = f a h

module _ {R I P T : Type 0} (told : I → IncomingView) (numbers : T → List ℕ) where
  -- the reader at index i has a half of the link that stands there
  abbrev pub Matches : List ℕ → ℕ → Slot R I P → Type 0
  Matches ns i p = IfSome p.worker (λ job. (get_elem? ns i ≡ some (told job.half).number) × IsNew (told job.half))

  still_matches : (xs ys : List ℕ) (i : ℕ) (p : Slot R I P) → AreFirst xs ys → Matches xs i p → Matches ys i p
  still_matches xs ys i p first h =
      map_some (λ job. (get_elem? xs i ≡ some (told job.half).number) × IsNew (told job.half)) (λ job. (get_elem? ys i ≡ some (told job.half).number) × IsNew (told job.half)) p.worker
      (λ job e. (at_first xs ys i (told job.half).number first e.0, e.1)) h

  -- what the owner does to anything but its queue and its readers
  pub held_with : (h : Owner R I P T) (taker : T) (closed : Bool) (met : Option Trouble) → AreFirst (numbers h.taker) (numbers taker) → IsHeld told numbers h
      → IsHeld told numbers (record h { taker = taker; closed = closed; met = met })
  held_with h taker closed met first held = record {
    ends = held.ends;
    seat = held.seat;
    takes = held.takes;
    paired = λ i p at. still_matches (numbers h.taker) (numbers taker) i p first (held.paired i p at);
  }

  -- a place is marked
  pub held_marked : (h : Owner R I P T) (positions : Vec (Slot R I P) Global) (taker : T) (i : ℕ) (p q : Slot R I P) → AreFirst (numbers h.taker) (numbers taker) → positions.items ≡ set h.positions.items i q
      → get_elem? h.positions.items i ≡ some p → q.worker ≡ p.worker → IsHeld told numbers h → IsHeld told numbers (record h { positions = positions; taker = taker })
  held_marked h positions taker i p q first are at same held = record {
    ends = held.ends;
    seat = held.seat;
    takes = held.takes;
    paired = λ j r there. still_matches (numbers h.taker) (numbers taker) j r first (⊎_elim
        (λ (e : (j ≡ i) × (q ≡ r)). subst (λ (y : ℕ × Slot R I P). Matches (numbers h.taker) y.0 y.1) (λ n. (sym e.0 n, e.1 n))
        (subst (λ w. IfSome w (λ job. (get_elem? (numbers h.taker) i ≡ some (told job.half).number) × IsNew (told job.half))) (sym same) (held.paired i p at)))
        (λ (e : (j ≢ i) × (get_elem? h.positions.items j ≡ some r)). held.paired j r e.1)
        (at_set h.positions.items i j q r (sym (ap (λ l. get_elem? l j) are) ∙ there)));
  }

  -- there is more room for places
  pub held_roomed : (h : Owner R I P T) (positions : Vec (Slot R I P) Global) → positions.items ≡ h.positions.items → IsHeld told numbers h → IsHeld told numbers (record h { positions = positions })
  held_roomed h positions same held = record {
    ends = held.ends;
    seat = held.seat;
    takes = held.takes;
    paired = λ i p at. held.paired i p (sym (ap (λ l. get_elem? l i) same) ∙ at);
  }

  -- the owner's pass knows more
  pub held_passed : (h : Owner R I P T) (pass : Pass (Item P) (Known (Item P))) (taker : T) (met : Option Trouble) → IsSeatAt (sends_on h.to) pass → (view pass).takes ≡ true → AreFirst (numbers h.taker) (numbers taker)
      → IsHeld told numbers h → IsHeld told numbers (record h { pass = pass; taker = taker; met = met })
  held_passed h pass taker met seat takes first held = record {
    ends = held.ends;
    seat = seat;
    takes = takes;
    paired = λ i p at. still_matches (numbers h.taker) (numbers taker) i p first (held.paired i p at);
  }

  -- a connection has got its place
  pub held_came : (h : Owner R I P T) (pass : Pass (Item P) (Known (Item P))) (positions : Vec (Slot R I P) Global) (taker : T) (met : Option Trouble) (p : Slot R I P) (n : ℕ)
      → IsSeatAt (sends_on h.to) pass → (view pass).takes ≡ true → positions.items ≡ h.positions.items ++ p ∷ [] → length (numbers h.taker) ≡ length h.positions.items
      → numbers taker ≡ numbers h.taker ++ n ∷ [] → IfSome p.worker (λ job. (n ≡ (told job.half).number) × IsNew (told job.half))
      → IsHeld told numbers h → IsHeld told numbers (record h { pass = pass; positions = positions; taker = taker; met = met })
  held_came h pass positions taker met p n seat takes grown many wider same held = record {
    ends = held.ends;
    seat = seat;
    takes = takes;
    paired = λ i q there. ⊎_elim
        (λ (e : get_elem? h.positions.items i ≡ some q). still_matches (numbers h.taker) (numbers taker) i q (n ∷ [], wider) (held.paired i q e))
        (λ (e : (i ≡ length h.positions.items) × (p ≡ q)). subst (λ (y : ℕ × Slot R I P). Matches (numbers taker) y.0 y.1) (λ m. (sym (e.0 ∙ sym many) m, e.1 m))
        (map_some (λ job. (n ≡ (told job.half).number) × IsNew (told job.half)) (λ job. (get_elem? (numbers taker) (length (numbers h.taker)) ≡ some (told job.half).number) × IsNew (told job.half)) p.worker
        (λ job is. (ap (λ l. get_elem? l (length (numbers h.taker))) wider ∙ last_at (numbers h.taker) n ∙ ap some is.0, is.1)) same))
        (at_end h.positions.items p q i (sym (ap (λ l. get_elem? l i) grown) ∙ there));
  }

  -- nothing was taken yet
  pub held_at_first : (h : Owner R I P T) → (receives_on h.at ≡ sends_on h.to) × IsSeatAt (sends_on h.to) h.pass → (view h.pass).takes ≡ true → h.positions.items ≡ [] → IsHeld told numbers h
  held_at_first h ends takes none = record {
    ends = ends.0;
    seat = ends.1;
    takes = takes;
    paired = λ i p at. absurd (some-ne-none p (sym (sym (ap (λ l. get_elem? l i) none) ∙ at)));
  }
