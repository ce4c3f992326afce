-- What a writer has left, of what was put into its queue.
use Rattle.std.proofs.Common.{◌≡◌, ℕ, ◌+◌, Bool, true, false, true≢false, List, [], ◌∷◌, ◌++◌, Option, Some, None, IfSome, sym, refl, ap, subst, ◌∙◌, append_assoc, append-nil, arith}
use Rattle.std.proofs.lemmas.Bool.{and_parts}
use Rattle.net_traits.specs.Halves.{OutgoingView}
use Rattle.net_queues.specs.declared.rule.Side.{Side}
use Rattle.net_writers.specs.Takings.{is_put, are_puts, bytes_of}
use Rattle.net_writers.specs.Sent.{HasSent, IsPrefix}
use Rattle.net_writers.specs.declared.parcel.Parcel.{Parcel}
use Rattle.net_writers.specs.declared.parcel.Parcel.TheVariants.{End}
use Rattle.net_writers.specs.Lanes.{IsPut, HasLeft}

abbrev first : List Parcel → Parcel → Parcel
first [] d = d
first (x ∷ xs) d = x

abbrev tail : List Parcel → List Parcel
tail [] = []
tail (x ∷ xs) = xs

not_put : {Y : Type 0} (x : Parcel) (xs : List Parcel) → are_puts (x ∷ xs) ≡ true → is_put x ≡ false → Y
unfolding are_puts
not_put x xs all none = absurd (true≢false (sym (and_parts (is_put x) (are_puts xs) all).0 ∙ none))

-- the writer took all that was put, up to the end
same_body : (xs ys rest : List Parcel) → are_puts xs ≡ true → are_puts ys ≡ true → xs ++ End ∷ [] ≡ (ys ++ End ∷ []) ++ rest → xs ≡ ys
unfolding are_puts
same_body [] [] rest a b e = refl
same_body [] (y ∷ ys) rest a b e = not_put y ys b (ap (λ l. is_put (first l End)) (sym e))
same_body (x ∷ xs) [] rest a b e = not_put x xs a (ap (λ l. is_put (first l End)) e)
same_body (x ∷ xs) (y ∷ ys) rest a b e =
    let head : x ≡ y = ap (λ l. first l End) e in
    ap (λ z. z ∷ xs) head ∙ ap (λ l. y ∷ l) (same_body xs ys rest (and_parts (is_put x) (are_puts xs) a).1 (and_parts (is_put y) (are_puts ys) b).1 (ap tail e))

longer : (written : Option (List ℕ)) (some all more : List ℕ) → all ≡ some ++ more → IfSome written (λ w. IsPrefix w some) → IfSome written (λ w. IsPrefix w all)
longer None some all more e h = tt
longer (Some w) some all more e h = (h.0 ++ more, e ∙ ap (λ l. l ++ more) h.1 ∙ append_assoc w h.0 more)

unbroken : (broken : Bool) (half : OutgoingView) (bytes : List ℕ) → HasSent bytes broken half → half.faults ≡ 0 → IfSome half.written (λ w. w ≡ bytes)
unbroken false half bytes h none = h.all refl
unbroken true half bytes h none = absurd (let some = h.broke refl in omega (arith, some, none))

pub left : (bytes : List ℕ) (n : ℕ) (o s : Bool) (v : Side Parcel) (body rest got : List Parcel) (broken : Bool) (half now : OutgoingView)
    → IsPut bytes n o s true v → v.put ≡ got ++ rest → got ≡ body ++ End ∷ [] → are_puts body ≡ true → HasSent (bytes_of body) broken now → now.number ≡ half.number → HasLeft bytes n o half now
left bytes n o s v body rest got broken half now h whole taken puts sent number =
    let put : v.put ≡ h.body ++ End ∷ [] = ap (λ (u : Side Parcel). u.put) h.shape in
    let same : h.body ≡ body = same_body h.body body rest h.puts puts (sym put ∙ whole ∙ ap (λ l. l ++ rest) taken) in
    let all : bytes ≡ bytes_of body ++ h.rest = h.whole ∙ ap (λ b. bytes_of b ++ h.rest) same in
    record {
      number = number;
      prefix = longer now.written (bytes_of body) bytes h.rest all sent.prefix;
      all = λ fits none. subst (λ l. IfSome now.written (λ w. w ≡ l)) (sym (all ∙ ap (λ l. bytes_of body ++ l) (h.all fits) ∙ append-nil (bytes_of body))) (unbroken broken now (bytes_of body) sent none);
      full = λ over. let many = h.full over in let more = h.many in omega (arith, many, more);
    }
