-- What a writer has taken, one parcel longer.
use Rattle.std.proofs.Common.{◌≡◌, true, false, ◌&&◌, List, [], ◌∷◌, ◌++◌, sym, refl, ap, subst, ◌∙◌, append_assoc, append-nil}
use Rattle.net_queues.specs.Rule.{side, with_got}
use Rattle.net_queues.specs.declared.rule.Side.{Side}
use Rattle.net_writers.specs.Takings.{is_put, bytes_in, are_puts, bytes_of, has_taken}
use Rattle.net_writers.specs.declared.parcel.Parcel.{Parcel}

pub puts_more : (xs : List Parcel) (x : Parcel) → are_puts xs ≡ true → is_put x ≡ true → are_puts (xs ++ x ∷ []) ≡ true
unfolding are_puts
puts_more [] x all one = rw one refl
puts_more (y ∷ ys) x all one = elim (is_put y) as (λ b. (b && are_puts ys) ≡ true → (b && are_puts (ys ++ x ∷ [])) ≡ true) [ true ↦ (λ rest. puts_more ys x rest one) | false ↦ (λ e. e) ] all

pub bytes_more : (xs : List Parcel) (x : Parcel) → bytes_of (xs ++ x ∷ []) ≡ bytes_of xs ++ bytes_in x
unfolding bytes_of
bytes_more [] x = append-nil (bytes_in x)
bytes_more (y ∷ ys) x = ap (λ l. bytes_in y ++ l) (bytes_more ys x) ∙ sym (append_assoc (bytes_in y) (bytes_of ys) (bytes_in x))

-- nothing was taken yet
pub starts : (v : Side Parcel) → v ≡ side false true [] [] → (v ≡ has_taken v.got) × (are_puts v.got ≡ true) × (bytes_of v.got ≡ [])
unfolding are_puts bytes_of
starts v is = subst (λ v. (v ≡ has_taken v.got) × (are_puts v.got ≡ true) × (bytes_of v.got ≡ [])) (sym is) (refl, refl, refl)

-- the next parcel was taken
pub takes_on : (v w : Side Parcel) (x : Parcel) → v ≡ has_taken v.got → w ≡ with_got v x → w ≡ has_taken (v.got ++ x ∷ [])
takes_on v w x shape is = is ∙ ap (λ (u : Side Parcel). with_got u x) shape

-- so it stands in what was taken
pub goes_on : (v w : Side Parcel) (x : Parcel) → v ≡ has_taken v.got → are_puts v.got ≡ true → w ≡ with_got v x → is_put x ≡ true
    → (w ≡ has_taken w.got) × (are_puts w.got ≡ true) × (bytes_of w.got ≡ bytes_of v.got ++ bytes_in x)
goes_on v w x shape puts is one = let now = takes_on v w x shape is in let got : w.got ≡ v.got ++ x ∷ [] = ap (λ (u : Side Parcel). u.got) is in
    (now ∙ ap has_taken (sym got), ap are_puts got ∙ puts_more v.got x puts one, ap bytes_of got ∙ bytes_more v.got x)
