-- What was handed over for a connection, one parcel longer.
use Rattle.std.proofs.Common.{◌≡◌, ◌⊎◌, ⊎_elim, inl, inr, ℕ, ◌+◌, ◌≤◌, Bool, true, false, true≢false, cond, List, [], ◌∷◌, ◌++◌, length, sym, refl, ap, subst, ◌∙◌, append_assoc, append-nil, arith, length-append}
use Rattle.net_queues.specs.Rule.{side, with_put}
use Rattle.net_queues.specs.declared.rule.Side.{Side}
use Rattle.net_writers.specs.Takings.{is_put, are_puts, bytes_in, bytes_of}
use Rattle.net_writers.specs.declared.parcel.Parcel.{Parcel}
use Rattle.net_writers.specs.declared.parcel.Parcel.TheVariants.{End}
use Rattle.net_writers.proofs.LongerTakings.{puts_more, bytes_more}
use Rattle.net_writers.specs.declared.lane.TheConstants.{MOST_WAITING}
use Rattle.crossbeam_channel.specs.Claims.{view}
use Rattle.net_writers.specs.declared.lane.Lane.{Lane}
use Rattle.net_writers.specs.Lanes.{IsLane, IsPut}

abbrev end_of : Bool → List Parcel
end_of ended = cond ended (End ∷ []) []

pub begins : (v : Side Parcel) → v ≡ side true false [] [] → IsPut [] 0 false false false v
unfolding are_puts bytes_of
begins v is = record {
  body = [];
  shape = is;
  puts = refl;
  rest = [];
  whole = refl;
  many = omega arith;
  all = λ _. refl;
  full = λ e. absurd (true≢false (sym e));
  due = λ e. absurd (true≢false (sym e));
}

-- the queue may be put to
pub may_put : (bytes : List ℕ) (n : ℕ) (o s e : Bool) (v : Side Parcel) → IsPut bytes n o s e v → v.puts ≡ true
may_put bytes n o s e v h = ap (λ (u : Side Parcel). u.puts) h.shape

-- the end was not put where it is not due
not_ended : (o s e : Bool) → o ≡ false → s ≡ false → (e ≡ true → (o ≡ true) ⊎ (s ≡ true)) → e ≡ false
not_ended o s true a b due = ⊎_elim (λ x. absurd (true≢false (sym x ∙ a))) (λ x. absurd (true≢false (sym x ∙ b))) (due refl)
not_ended o s false a b due = refl

put_is : (bytes : List ℕ) (n : ℕ) (o s e : Bool) (v : Side Parcel) (h : IsPut bytes n o s e v) → e ≡ false → v.put ≡ h.body
put_is bytes n o s e v h none = ap (λ (u : Side Parcel). u.put) h.shape ∙ ap (λ b. h.body ++ end_of b) none ∙ append-nil h.body

-- a parcel of bytes more
pub put_more : (bytes : List ℕ) (n : ℕ) (o s e : Bool) (v w : Side Parcel) (x : Parcel) → o ≡ false → s ≡ false → is_put x ≡ true → IsPut bytes n o s e v → w ≡ with_put v x
    → IsPut (bytes ++ bytes_in x) (n + 1) o s e w
put_more bytes n o s e v w x a b one h is =
    let none = not_ended o s e a b h.due in
    let all : h.rest ≡ [] = h.all a in
    record {
      body = h.body ++ x ∷ [];
      shape = is ∙ ap (λ (u : Side Parcel). with_put u x) h.shape ∙ ap (λ l. side true false l [])
          (ap (λ c. (h.body ++ end_of c) ++ x ∷ []) none ∙ ap (λ l. l ++ x ∷ []) (append-nil h.body) ∙ sym (append-nil (h.body ++ x ∷ [])) ∙ ap (λ c. (h.body ++ x ∷ []) ++ end_of c) (sym none));
      puts = puts_more h.body x h.puts one;
      rest = [];
      whole = ap (λ l. l ++ bytes_in x) (h.whole ∙ ap (λ l. bytes_of h.body ++ l) all ∙ append-nil (bytes_of h.body)) ∙ sym (bytes_more h.body x) ∙ sym (append-nil (bytes_of (h.body ++ x ∷ [])));
      many = let m = h.many in let l = length-append h.body (x ∷ []) in omega (arith, m, l);
      all = λ _. refl;
      full = λ over. absurd (true≢false (sym over ∙ a));
      due = h.due;
    }

-- it is dropped: after it was refused, or since the connection is overrun
dropped : (bytes more : List ℕ) (n : ℕ) (o s e : Bool) (v : Side Parcel) (h : IsPut bytes n o s e v) → (o ≡ true → MOST_WAITING ≤ length h.body) → MOST_WAITING ≤ length h.body → (e ≡ true → (true ≡ true) ⊎ (s ≡ true))
    → IsPut (bytes ++ more) (n + 1) true s e v
dropped bytes more n o s e v h was full due = record {
  body = h.body;
  shape = h.shape;
  puts = h.puts;
  rest = h.rest ++ more;
  whole = ap (λ l. l ++ more) h.whole ∙ append_assoc (bytes_of h.body) h.rest more;
  many = let m = h.many in omega (arith, m);
  all = λ x. absurd (true≢false x);
  full = λ _. full;
  due = due;
}

pub put_refused : (bytes more : List ℕ) (n : ℕ) (o s e : Bool) (v : Side Parcel) → o ≡ false → s ≡ false → IsPut bytes n o s e v → MOST_WAITING ≤ length v.put → IsPut (bytes ++ more) (n + 1) true s e v
put_refused bytes more n o s e v a b h full =
    dropped bytes more n o s e v h h.full (subst (λ l. MOST_WAITING ≤ length l) (put_is bytes n o s e v h (not_ended o s e a b h.due)) full) (λ _. inl refl)

pub put_dropped : (bytes more : List ℕ) (n : ℕ) (o s e : Bool) (v : Side Parcel) → o ≡ true → IsPut bytes n o s e v → IsPut (bytes ++ more) (n + 1) o s e v
put_dropped bytes more n true s e v is h = dropped bytes more n true s e v h h.full (h.full refl) (λ _. inl refl)
put_dropped bytes more n false s e v is h = absurd (true≢false (sym is))

-- the connection is shut
pub shuts : (bytes : List ℕ) (n : ℕ) (o s e : Bool) (v : Side Parcel) → IsPut bytes n o s e v → IsPut bytes n o true e v
shuts bytes n o s e v h = record { body = h.body; shape = h.shape; puts = h.puts; rest = h.rest; whole = h.whole; many = h.many; all = h.all; full = h.full; due = λ _. inr refl }

-- the end was put
pub end_put : (bytes : List ℕ) (n : ℕ) (o s e : Bool) (v w : Side Parcel) → e ≡ false → (o ≡ true) ⊎ (s ≡ true) → IsPut bytes n o s e v → w ≡ with_put v End → IsPut bytes n o s true w
end_put bytes n o s e v w none due h is = record {
  body = h.body;
  shape = is ∙ ap (λ (u : Side Parcel). with_put u End) h.shape ∙ ap (λ l. side true false (l ++ End ∷ []) []) (ap (λ c. h.body ++ end_of c) none ∙ append-nil h.body);
  puts = h.puts;
  rest = h.rest;
  whole = h.whole;
  many = h.many;
  all = h.all;
  full = h.full;
  due = λ _. due;
}

-- it was refused
pub end_refused : (bytes : List ℕ) (n : ℕ) (o s e : Bool) (v : Side Parcel) → e ≡ false → IsPut bytes n o s e v → MOST_WAITING ≤ length v.put → IsPut bytes n true s e v
end_refused bytes n o s e v none h full = record {
  body = h.body;
  shape = h.shape;
  puts = h.puts;
  rest = h.rest;
  whole = h.whole;
  many = h.many;
  all = λ x. absurd (true≢false x);
  full = λ _. subst (λ l. MOST_WAITING ≤ length l) (put_is bytes n o s e v h none) full;
  due = λ x. absurd (true≢false (sym x ∙ none));
}

-- more outputs were handed over than it takes to say so
pub of_more : (bytes : List ℕ) (n m : ℕ) (o s e : Bool) (v : Side Parcel) → n ≤ m → IsPut bytes n o s e v → IsPut bytes m o s e v
of_more bytes n m o s e v more h = record { body = h.body; shape = h.shape; puts = h.puts; rest = h.rest; whole = h.whole; many = let l = h.many in omega (arith, l, more); all = h.all; full = h.full; due = h.due }

pub of_more_lane : {R O : Type 0} (bytes : List ℕ) (n m : ℕ) (lane : Lane R O) → n ≤ m → IsLane bytes n lane → IsLane bytes m lane
of_more_lane bytes n m lane more h = record { seat = h.seat; room = h.room; queue = h.queue; put = of_more bytes n m lane.overrun lane.shut lane.ended (view lane.pass) more h.put }
