-- The lines of outputs, and the archives under their names.
use Rattle.std.proofs.Common.{◌≡◌, ◌+◌, ℕ, zero, suc, List, [], ◌∷◌, ◌++◌, drop, Option, Some, None, ap, append_assoc, refl, sym, ◌∙◌, arith}
use Rattle.std.proofs.lemmas.List.Concat.{flat_map-cons}
use Rattle.std.specs.List.{slice_get}
use Rattle.srv_state.specs.Seen.{out_of, outs_of}
use Rattle.srv_state.specs.State.{Kept}
use Rattle.srv_state.specs.declared.output.Output.{Output}
use Rattle.cmd_journal.specs.declared.accounts_file.Registration.{Registration}
use Rattle.cmd_journal.specs.Texts.{NamedView, OutputView}
use Rattle.cmd_rerun.specs.Reruns.{line_of, lines_of, named_archives, named_kept}

-- ---- outputs

-- the lines so far and those of what is left are those of all
pub line_more : (made more : List OutputView) (o : Output) (left : List Output) (due : List OutputView) → more ≡ made ++ line_of (out_of o) → made ++ lines_of (outs_of (o ∷ left)) ≡ due
    → more ++ lines_of (outs_of left) ≡ due
line_more made more o left due is was =
    ap (λ l. l ++ lines_of (outs_of left)) is ∙ append_assoc made (line_of (out_of o)) (lines_of (outs_of left))
    ∙ ap (λ l. made ++ l) (sym (flat_map-cons line_of (out_of o) (outs_of left))) ∙ was

-- ---- archives

-- what is left from a place on
left_after : {A : Type 0} (xs : List A) (i : ℕ) (x : A) → slice_get xs i ≡ Some x → drop i xs ≡ x ∷ drop (suc i) xs
left_after [] i x at = absurd (cc at)
left_after (y ∷ xs) zero x at = let same : y ≡ x = cc at in ap (λ z. z ∷ xs) same
left_after (y ∷ xs) (suc i) x at = left_after xs i x at

left_at : {A : Type 0} (xs : List A) (i : ℕ) (x : A) → slice_get xs i ≡ Some x → drop i xs ≡ x ∷ drop (i + 1) xs
left_at xs i x at = let next : i + 1 ≡ suc i = omega arith in rw next (left_after xs i x at)

none_left : {A : Type 0} (xs : List A) (i : ℕ) → slice_get xs i ≡ None → drop i xs ≡ []
none_left [] zero at = refl
none_left [] (suc i) at = refl
none_left (y ∷ xs) zero at = absurd (cc at)
none_left (y ∷ xs) (suc i) at = none_left xs i at

none_behind : {A : Type 0} (xs : List A) (i : ℕ) → slice_get xs i ≡ None → drop (suc i) xs ≡ []
none_behind [] i at = refl
none_behind (y ∷ xs) zero at = absurd (cc at)
none_behind (y ∷ xs) (suc i) at = none_behind xs i at

none_after : {A : Type 0} (xs : List A) (i : ℕ) → slice_get xs i ≡ None → drop (i + 1) xs ≡ []
none_after xs i at = let next : i + 1 ≡ suc i = omega arith in rw next (none_behind xs i at)

none_named : (rs : List Registration) → named_archives rs [] ≡ []
none_named [] = refl
none_named (r ∷ rs) = refl

-- the first of those that are left
named_next : (r : Registration) (rs : List Registration) (archives : List Kept) (i : ℕ) (o : Option Kept) → slice_get archives i ≡ o
    → named_archives (r ∷ rs) (drop i archives) ≡ named_kept r.name o ++ named_archives rs (drop (i + 1) archives)
named_next r rs archives i (Some kept) at = ap (named_archives (r ∷ rs)) (left_at archives i kept at)
named_next r rs archives i None at = ap (named_archives (r ∷ rs)) (none_left archives i at) ∙ sym (ap (named_archives rs) (none_after archives i at) ∙ none_named rs)

-- the archives so far and those of the accounts that are left are those of all
pub named_more : (made more : List NamedView) (r : Registration) (rs : List Registration) (archives : List Kept) (i : ℕ) (o : Option Kept) (due : List NamedView)
    → o ≡ slice_get archives i → more ≡ made ++ named_kept r.name o → made ++ named_archives (r ∷ rs) (drop i archives) ≡ due
    → more ++ named_archives rs (drop (i + 1) archives) ≡ due
named_more made more r rs archives i o due at is was =
    ap (λ l. l ++ named_archives rs (drop (i + 1) archives)) is ∙ append_assoc made (named_kept r.name o) (named_archives rs (drop (i + 1) archives))
    ∙ ap (λ l. made ++ l) (sym (named_next r rs archives i o (sym at))) ∙ was
