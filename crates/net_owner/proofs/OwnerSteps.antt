-- What is so of the owner stays so with each kind of item.
use Rattle.std.proofs.Common.{◌≡◌, ◌≢◌, ℕ, zero, suc, ◌+◌, ◌-◌, ◌<◌, ◌≤◌, ◌⊎◌, inr, Bool, true, false, true≢false, List, [], ◌∷◌, ◌++◌, length, length-append, append_assoc, length-set, get_or, set, sym, refl, ap, ◌∙◌, subst, ⊎_elim, arith, is_some, Option, Some, None, IfSome, Vec, Result, Ok, Err, OnOk, cond}
use Rattle.std.specs.declared.alloc.Global.{Global}
use mathlib.Core.Option.{some, some-ne-none, some-injective}
use lib.ListN.{get_elem?}
use Rattle.atomic_table.proofs.Lists.{at_set, at_snoc, at_index}
use Rattle.crossbeam_channel.specs.Claims.{Pass, view, IsSeatAt}
use Rattle.crossbeam_channel.specs.Ends.{receives_on, sends_on}
use Rattle.net_owner.specs.declared.item.Item.{Item}
use Rattle.net_owner.specs.declared.position.Slot.{Slot}
use Rattle.net_owner.specs.declared.owner.Owner.{Owner}
use Rattle.net_owner.specs.declared.trouble.Trouble.{Trouble}
use Rattle.net_owner.specs.declared.rule.Known.{Known}
use Rattle.net_owner.specs.Merge.{items_of}
use Rattle.net_owner.specs.Rule.{owner, with_more}
use Rattle.net_owner.specs.Events.{Connect, Event, Gone, Told, event, shown, told_in, told_of}
use Rattle.net_owner.specs.Feeds.{has_end, is_end, number}
use Rattle.net_owner.specs.Positions.{AreKept, HasNoReader, IsStarted, are_started, feed_from}
use Rattle.net_owner.specs.Arrivals.{AreHere, arrivals, is_closed}
use Rattle.net_owner.specs.Owners.{IsComing, IsGoing, IsPending}
use Rattle.net_owner.proofs.ItemsOf.{items_of-next}
use Rattle.net_owner.specs.Acceptors.{is_arrival}
use Rattle.net_owner.specs.declared.item.What.{What}
use Rattle.net_owner.specs.declared.item.What.TheVariants as what
use Rattle.net_owner.proofs.CountedArrivals.{here_came, here_closed, here_marked, here_past, here_placed, here_refused}
use Rattle.net_owner.proofs.KeptPositions.{Adds, shown_more, shown_same, welcomed, ignored, noted, marked, last_here, at_below}

pub on_ok : {T E : Type 0} {P Q : Type 0} (r : Result T E) → (P → Q) → OnOk r P → OnOk r Q
on_ok (Ok t) f p = f p
on_ok (Err e) f p = p

none_is : {A : Type 0} (o : Option A) → is_some o ≡ false → o ≡ None
none_is None e = refl
none_is (Some a) e = absurd (true≢false e)

some_is : {A : Type 0} (o : Option A) → is_some o ≡ true → o ≡ None → ⊥
some_is None e none = true≢false (sym e)
some_is (Some a) e none = true≢false (sym e ∙ ap is_some none)

-- a connection came: it begins, and where no reader was started, it is gone
abbrev pub HasCome : {W : Type 0} → List Event → List Event → ℕ → Option W → Type 0
HasCome old new k (Some _) = Adds old new k Connect
HasCome old new k None = (mid : List Event) × Adds old mid k Connect × Adds mid new k Gone

-- what happened to a connection that came
come : (P : Type 0) {W : Type 0} (old new : List Event) (k : ℕ) (w : Option W) → HasCome old new k w → (shown k new ≡ shown k old ++ Connect ∷ feed_from {P = P} w []) × ((j : ℕ) → k ≢ j → shown j new ≡ shown j old)
unfolding told_of
come P old new k (Some _) n = (
  ap (shown k) n ∙ shown_more k (event k Connect) old refl,
  λ j ne. ap (shown j) n ∙ shown_same j (event k Connect) old ne,
)
come P old new k None r = let a = r.1 in let b = r.2 in (
  ap (shown k) b ∙ shown_more k (event k Gone) r.0 refl ∙ ap (λ l. l ++ Gone ∷ []) (ap (shown k) a ∙ shown_more k (event k Connect) old refl)
      ∙ append_assoc (shown k old) (Connect ∷ []) (Gone ∷ []),
  λ j ne. ap (shown j) b ∙ shown_same j (event k Gone) r.0 ne ∙ ap (shown j) a ∙ shown_same j (event k Connect) old ne,
)

-- a connection that was not refused began
pub connected : (came : Bool) (old new : List Event) (e : Event) → came ≡ true → new ≡ cond came (old ++ e ∷ []) old → new ≡ old ++ e ∷ []
connected true old new e came is = is
connected false old new e came is = absurd (true≢false (sym came))

-- what an `if` chose
pub chosen : {A : Type 0} (b : Bool) (x y z : A) → b ≡ true → z ≡ cond b x y → z ≡ x
chosen true x y z is e = e
chosen false x y z is e = absurd (true≢false (sym is))

if_both : {A : Type 0} (P Q : A → Type 0) (o : Option A) → IfSome o (λ a. P a × Q a) → IfSome o P × IfSome o Q
if_both P Q None h = (tt, tt)
if_both P Q (Some a) h = h

module _ {R I P : Type 0} where
  pub is_started : (positions : List (Slot R I P)) (i : ℕ) (p : Slot R I P) → i < length positions → p ≡ get_or positions i p → is_some (get_or positions i p).worker ≡ true → IsStarted positions i
  is_started positions i p below is there = record {
    position = p;
    there = at_index positions i p below is;
    some_one = some_is p.worker (ap (λ (q : Slot R I P). is_some q.worker) is ∙ there);
  }

  pub no_start : (positions : List (Slot R I P)) (from : ℕ) (p : Slot R I P) → (from ≡ 0 → ⊥) → from ≤ length positions → p ≡ get_or positions (from - 1) p → is_some (get_or positions (from - 1) p).worker ≡ false → HasNoReader positions from
  no_start positions from p some_number within is not i q there at =
      let i_is : from - 1 ≡ i = omega arith in
      let q_is : q ≡ p = some-injective q p (sym there ∙ ap (get_elem? positions) (sym i_is) ∙ at_index positions (from - 1) p (below from some_number within) is) in
      ap (λ (r : Slot R I P). r.worker) q_is ∙ none_is p.worker (ap (λ (r : Slot R I P). is_some r.worker) is ∙ not)
    where
      below : (n : ℕ) → (n ≡ 0 → ⊥) → n ≤ length positions → n - 1 < length positions
      below zero positive le = absurd (positive refl)
      below (suc n) positive le = omega arith

  pub started_below : (positions : List (Slot R I P)) (i : ℕ) → IsStarted positions i → i < length positions
  started_below positions i s = at_below positions i s.position s.there

  pub started_is : (positions : List (Slot R I P)) (i : ℕ) (s : IsStarted positions i) (p : Slot R I P) → p ≡ get_or positions i p → p ≡ s.position
  started_is positions i s p is = some-injective p s.position (sym (at_index positions i p (started_below positions i s) is) ∙ s.there)

module _ {P : Type 0} where
  arrival_is_no_event : (w : What P) → is_arrival w ≡ true → told_in w ≡ []
  arrival_is_no_event (what.Came p) e = refl
  arrival_is_no_event (what.Gave piece) e = absurd (true≢false (sym e))
  arrival_is_no_event what.Ended e = absurd (true≢false (sym e))
  arrival_is_no_event what.Closed e = refl
  arrival_is_no_event what.Wanted e = refl

  closed_is_no_event : (w : What P) → is_closed w ≡ true → told_in w ≡ []
  closed_is_no_event (what.Came p) e = refl
  closed_is_no_event (what.Gave piece) e = absurd (true≢false (sym e))
  closed_is_no_event what.Ended e = absurd (true≢false (sym e))
  closed_is_no_event what.Closed e = refl
  closed_is_no_event what.Wanted e = refl

  event_is_no_arrival : (w : What P) (t : Told) → told_in w ≡ t ∷ [] → is_arrival w ≡ false
  event_is_no_arrival (what.Came p) t e = absurd (let n : 0 ≡ 1 = ap length e in omega (arith, n))
  event_is_no_arrival (what.Gave piece) t e = refl
  event_is_no_arrival what.Ended t e = refl
  event_is_no_arrival what.Closed t e = refl
  event_is_no_arrival what.Wanted t e = refl

module _ {R I P T : Type 0} (events : T → List Event) where
  pub pass_over : (h : Owner R I P T) (x : Item P) → IsPending events h x → (HasNoReader h.positions.items x.from) ⊎ (told_in x.what ≡ []) → (x.from ≢ 0) ⊎ (is_arrival x.what ≡ false) → IsGoing events h
  pass_over h x w why apart = record {
    still = w.still;
    kept = subst (λ g. AreKept (events h.taker) g h.positions.items) (sym w.took) (ignored (events h.taker) w.got h.positions.items x why w.kept);
    here = subst (λ g. AreHere 0 g h.closed h.met h.positions.items) (sym w.took) (here_past 0 w.got h.closed h.met h.positions.items x apart w.here);
  }

  -- a connection was taken of the acceptor, and has no place yet
  pub comes : (h : Owner R I P T) (x : Item P) → IsPending events h x → x.from ≡ 0 → is_arrival x.what ≡ true → IsComing events h
  comes h x w from is = record {
    still = w.still;
    kept = subst (λ g. AreKept (events h.taker) g h.positions.items) (sym w.took) (ignored (events h.taker) w.got h.positions.items x (inr (arrival_is_no_event x.what is)) w.kept);
    here = subst (λ g. AreHere 1 g h.closed h.met h.positions.items) (sym w.took) (here_came w.got h.closed h.met h.positions.items x from is w.here);
  }

  pub write_down : (h : Owner R I P T) (x : Item P) (taker : T) (t : Told) (i : ℕ) → IsPending events h x → IsStarted h.positions.items i → i + 1 ≡ x.from → told_in x.what ≡ t ∷ [] → Adds (events h.taker) (events taker) x.from t
      → IsGoing events (record h { taker = taker })
  write_down h x taker t i w s is says n = record {
    still = record { ends = w.still.ends; seat = w.still.seat; takes = w.still.takes; mute = w.still.mute; made = w.still.made; same = w.still.same };
    kept = subst (λ g. AreKept (events taker) g h.positions.items) (sym w.took) (noted (events h.taker) (events taker) w.got h.positions.items x t i s.position s.there s.some_one is says n w.kept);
    here = subst (λ g. AreHere 0 g h.closed h.met h.positions.items) (sym w.took) (here_past 0 w.got h.closed h.met h.positions.items x (inr (event_is_no_arrival x.what t says)) w.here);
  }

  pub write_end : (h : Owner R I P T) (x : Item P) (taker : T) (positions : Vec (Slot R I P) Global) (t : Told) (i : ℕ) (q : Slot R I P) → IsPending events h x → (s : IsStarted h.positions.items i) → i + 1 ≡ x.from → told_in x.what ≡ t ∷ [] → Adds (events h.taker) (events taker) x.from t
      → is_end x.what ≡ true → q.worker ≡ s.position.worker → positions.items ≡ set h.positions.items i q
      → IsGoing events (record h { taker = taker; positions = positions })
  write_end h x taker positions t i q w s is says n last same positions_are = let before = write_down h x taker t i w s is says n in
      let over : has_end (items_of number (i + 1) (view h.pass).got) ≡ true = subst (λ l. has_end l ≡ true) (sym (ap (items_of number (i + 1)) w.took ∙ items_of-next number (i + 1) x w.got (sym is))) (last_here (items_of number (i + 1) w.got) x last) in record {
        still = record {
          ends = w.still.ends;
          seat = w.still.seat;
          takes = w.still.takes;
          mute = w.still.mute;
          made = w.still.made ∙ ap (λ m. m + 1) (sym (ap length positions_are ∙ length-set h.positions.items i q));
          same = λ j p there. ⊎_elim
              (λ (e : (j ≡ i) × (q ≡ p)). subst (λ w. IfSome w (λ job. sends_on job.to ≡ sends_on h.to)) (sym same ∙ ap (λ (r : Slot R I P). r.worker) e.1) (w.still.same i s.position s.there))
              (λ (e : (j ≢ i) × (get_elem? h.positions.items j ≡ some p)). w.still.same j p e.1)
              (at_set h.positions.items i j q p (sym (ap (λ l. get_elem? l j) positions_are) ∙ there));
        };
        kept = subst (λ l. AreKept (events taker) (view h.pass).got l) (sym positions_are) (marked (events taker) (view h.pass).got h.positions.items i s.position q s.there same over before.kept);
        here = subst (λ l. AreHere 0 (view h.pass).got h.closed h.met l) (sym positions_are) (here_marked (view h.pass).got h.closed h.met h.positions.items i q (ap is_some same ∙ is_there s.position.worker s.some_one) before.here);
      }
    where
      is_there : {A : Type 0} (o : Option A) → (o ≡ None → ⊥) → is_some o ≡ true
      is_there None some_one = absurd (some_one refl)
      is_there (Some a) some_one = refl

  -- the acceptor's last item was taken
  pub shut_door : (h : Owner R I P T) (x : Item P) → IsPending events h x → x.from ≡ 0 → is_closed x.what ≡ true → IsGoing events (record h { closed = true })
  shut_door h x w from is = record {
    still = record { ends = w.still.ends; seat = w.still.seat; takes = w.still.takes; mute = w.still.mute; made = w.still.made; same = w.still.same };
    kept = subst (λ g. AreKept (events h.taker) g h.positions.items) (sym w.took) (ignored (events h.taker) w.got h.positions.items x (inr (closed_is_no_event x.what is)) w.kept);
    here = subst (λ g. AreHere 0 g true h.met h.positions.items) (sym w.took) (here_closed w.got h.closed h.met h.positions.items x from is w.here);
  }

  pub came : (h : Owner R I P T) (pass : Pass (Item P) (Known (Item P))) (positions : Vec (Slot R I P) Global) (taker : T) (met : Option Trouble) (p : Slot R I P) → IsComing events h
      → IsSeatAt (sends_on h.to) pass → view pass ≡ with_more (view h.pass) → items_of number (view h.pass).made (view h.pass).got ≡ []
      → positions.items ≡ h.positions.items ++ p ∷ [] → IfSome p.worker (λ job. (job.from ≡ length h.positions.items + 1) × (sends_on job.to ≡ sends_on h.to)) → p.ended ≡ false
      → HasCome (events h.taker) (events taker) (length h.positions.items + 1) p.worker → (met ≡ None → (h.met ≡ None) × (is_some p.worker ≡ true))
      → IsGoing events (record h { pass = pass; positions = positions; taker = taker; met = met })
  came h pass positions taker met p g seat more none grown job open_yet wrote bounded =
      let k = length h.positions.items + 1 in let w = come P (events h.taker) (events taker) k p.worker wrote in let both = if_both (λ job. job.from ≡ k) (λ job. sends_on job.to ≡ sends_on h.to) p.worker job in
      let got : (view pass).got ≡ (view h.pass).got = ap (λ (v : Known (Item P)). v.got) more in record {
        still = record {
          ends = g.still.ends;
          seat = seat;
          takes = ap (λ (v : Known (Item P)). v.takes) more ∙ g.still.takes;
          mute = ap (λ (v : Known (Item P)). v.sends) more ∙ g.still.mute;
          made = ap (λ (v : Known (Item P)). v.made) more ∙ ap (λ n. n + 1) g.still.made ∙ ap (λ n. n + 1) (sym (ap length grown ∙ length-append h.positions.items (p ∷ [])));
          same = λ i q there. ⊎_elim (λ (e : get_elem? h.positions.items i ≡ some q). g.still.same i q e)
              (λ (e : p ≡ q). subst (λ (r : Slot R I P). IfSome r.worker (λ job. sends_on job.to ≡ sends_on h.to)) e both.1)
              (at_snoc h.positions.items p q i (ap (λ l. get_elem? l i) (sym grown) ∙ there));
        };
        kept = subst (λ (y : List (Slot R I P) × List (Item P)). AreKept (events taker) y.1 y.0) (λ n. (sym grown n, sym got n))
            (welcomed (events h.taker) (events taker) (view h.pass).got h.positions.items p k refl (subst (λ n. items_of number n (view h.pass).got ≡ []) g.still.made none) both.0 open_yet w.1 w.0 g.kept);
        here = subst (λ (y : List (Slot R I P) × List (Item P)). AreHere 0 y.1 h.closed met y.0) (λ n. (sym grown n, sym got n)) (here_placed (view h.pass).got h.closed h.met met h.positions.items p bounded g.here);
      }

  pub with_room : (h : Owner R I P T) (positions : Vec (Slot R I P) Global) → IsComing events h → positions.items ≡ h.positions.items → IsComing events (record h { positions = positions })
  with_room h positions g ps = record {
    still = record {
      ends = g.still.ends;
      seat = g.still.seat;
      takes = g.still.takes;
      mute = g.still.mute;
      made = g.still.made ∙ ap (λ (l : List (Slot R I P)). length l + 1) (sym ps);
      same = subst (λ (l : List (Slot R I P)). (i : ℕ) (p : Slot R I P) → get_elem? l i ≡ some p → IfSome p.worker (λ job. sends_on job.to ≡ sends_on h.to)) (sym ps) g.still.same;
    };
    kept = subst (λ (l : List (Slot R I P)). AreKept (events h.taker) (view h.pass).got l) (sym ps) g.kept;
    here = subst (λ (l : List (Slot R I P)). AreHere 1 (view h.pass).got h.closed h.met l) (sym ps) g.here;
  }

  -- nothing happened to a connection that is to come, nor to any later one
  pub none_yet : (h : Owner R I P T) → IsComing events h → (j : ℕ) → length h.positions.items + 1 ≤ j → shown j (events h.taker) ≡ []
  none_yet h g j later = g.kept.others j (inr (omega arith))

  -- the event of a connection that was refused is none
  pub refused : (h : Owner R I P T) (taker : T) (met : Option Trouble) → IsComing events h → events taker ≡ events h.taker → (met ≡ None → ⊥) → IsGoing events (record h { taker = taker; met = met })
  refused h taker met g same bad = record {
    still = record { ends = g.still.ends; seat = g.still.seat; takes = g.still.takes; mute = g.still.mute; made = g.still.made; same = g.still.same };
    kept = subst (λ (es : List Event). AreKept es (view h.pass).got h.positions.items) (sym same) g.kept;
    here = here_refused (view h.pass).got h.closed h.met met h.positions.items bad g.here;
  }

  -- nothing was taken, and nothing happened
  pub begins : (h : Owner R I P T) → receives_on h.at ≡ sends_on h.to → IsSeatAt (sends_on h.to) h.pass → view h.pass ≡ with_more owner → h.positions.items ≡ [] → events h.taker ≡ [] → h.closed ≡ false → IsGoing events h
  unfolding shown are_started arrivals items_of
  begins h ends seat is none quiet open_yet = record {
    still = record {
      ends = ends;
      seat = seat;
      takes = ap (λ (v : Known (Item P)). v.takes) is;
      mute = ap (λ (v : Known (Item P)). v.sends) is;
      made = ap (λ (v : Known (Item P)). v.made) is ∙ ap (λ (l : List (Slot R I P)). length l + 1) (sym none);
      same = λ i p at. absurd (nobody i p at);
    };
    kept = record { placed = λ i p at. absurd (nobody i p at); others = λ k out. ap (shown k) quiet };
    here = record {
      last = λ e. absurd (true≢false (sym e ∙ open_yet));
      started = λ e. ap are_started none;
      many = λ e. ap (λ (l : List (Slot R I P)). length l + 0) none ∙ sym (ap (λ (v : Known (Item P)). arrivals (items_of number 0 v.got)) is);
    };
  }
    where
      nobody : (i : ℕ) (p : Slot R I P) → get_elem? h.positions.items i ≡ some p → ⊥
      nobody i p at = some-ne-none p (sym (sym (ap (λ (l : List (Slot R I P)). get_elem? l i) none) ∙ at))
