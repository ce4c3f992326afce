-- The namespaces of a prefix, where an index changes at one key.
use Rattle.std.proofs.Common.{◌≡◌, ℕ, ◌-◌, Bool, true, false, cond, List, [], ◌∷◌, ◌++◌, Option, Some, Vec, length, take, refl, sym, ap, ◌∙◌, ⊎_elim, arith}
use Rattle.std.proofs.Math.Seq.{take-append_seam}
use Rattle.std.proofs.lemmas.Bool.{cases_Bool, cond-true, cond-false}
use Rattle.std.proofs.lemmas.List.{length-append}
use Rattle.std.proofs.lemmas.Slice.Eq.{bytes_eq-Decides}
use Rattle.std.specs.List.{slice_get}
use Rattle.std.specs.Map.{update}
use Rattle.std.specs.Str.{bytes_eq}
use Rattle.std.specs.declared.alloc.Global.{Global}
use Rattle.xml_names.specs.Bound.{items_in, with_name, with_names, without_name}
use Rattle.xml_names.specs.Scopes.{Scope, first_bound}

-- at one key another list, at the others the same
pub changed : (f g : List ℕ → Option (Vec (List ℕ) Global)) (key : List ℕ) (w : Option (Vec (List ℕ) Global)) (step : List (List ℕ) → List (List ℕ))
    → ((q : List ℕ) → g q ≡ update bytes_eq f key w q) → items_in w ≡ step (items_in (f key))
    → (q : List ℕ) → items_in (g q) ≡ cond (bytes_eq key q) (step (items_in (f q))) (items_in (f q))
changed f g key w step h is q =
    ⊎_elim
    (λ (y : bytes_eq key q ≡ true).
    ap items_in (h q) ∙ ap items_in (cond-true (bytes_eq key q) w (f q) y) ∙ is ∙ ap (λ l. step (items_in (f l))) ((bytes_eq-Decides key q).0 y)
    ∙ sym (cond-true (bytes_eq key q) (step (items_in (f q))) (items_in (f q)) y))
    (λ (n : bytes_eq key q ≡ false).
    ap items_in (h q) ∙ ap items_in (cond-false (bytes_eq key q) w (f q) n) ∙ sym (cond-false (bytes_eq key q) (step (items_in (f q))) (items_in (f q)) n))
    (cases_Bool (bytes_eq key q))

either : (b : Bool) (names : List (List ℕ)) → cond b names names ≡ names
either true names = refl
either false names = refl

-- at one key a list of the same items
pub unchanged : (f g : List ℕ → Option (Vec (List ℕ) Global)) (key : List ℕ) (w : Option (Vec (List ℕ) Global))
    → ((q : List ℕ) → g q ≡ update bytes_eq f key w q) → items_in w ≡ items_in (f key) → (q : List ℕ) → items_in (g q) ≡ items_in (f q)
unchanged f g key w h is q = changed f g key w (λ names. names) h is q ∙ either (bytes_eq key q) (items_in (f q))

-- ---- the last of a list that grew

less_one : {X : Type 0} (xs : List X) (x : X) → length (xs ++ x ∷ []) - 1 ≡ length xs
less_one xs x = let long = length-append xs (x ∷ []) in (omega arith)

pub front_of_more : {X : Type 0} (xs : List X) (x : X) → take (length (xs ++ x ∷ []) - 1) (xs ++ x ∷ []) ≡ xs
front_of_more xs x = ap (λ n. take n (xs ++ x ∷ [])) (less_one xs x) ∙ take-append_seam xs (x ∷ [])

back_if : (b : Bool) (ns : List ℕ) (names rest : List (List ℕ)) → names ≡ cond b (rest ++ ns ∷ []) rest → cond b (take (length names - 1) names) names ≡ rest
back_if true ns names rest e = ap (λ xs. take (length xs - 1) xs) e ∙ front_of_more rest ns
back_if false ns names rest e = e

-- what a declaration adds and its end takes away
pub back : (prefix ns asked : List ℕ) (names rest : List (List ℕ)) → names ≡ with_name prefix ns asked rest → without_name prefix asked names ≡ rest
back prefix ns asked names rest e = back_if (bytes_eq prefix asked) ns names rest e

last_there : (names : List (List ℕ)) (ns : List ℕ) → slice_get (names ++ ns ∷ []) (length names) ≡ Some ns
last_there [] ns = refl
last_there (n ∷ names) ns = last_there names ns

last_if : (b : Bool) (ns : List ℕ) (rest : List (List ℕ)) (o : Option (List ℕ)) → slice_get rest (length rest - 1) ≡ o → slice_get (cond b (rest ++ ns ∷ []) rest) (length (cond b (rest ++ ns ∷ []) rest) - 1) ≡ cond b (Some ns) o
last_if true ns rest o e = ap (slice_get (rest ++ ns ∷ [])) (less_one rest ns) ∙ last_there rest ns
last_if false ns rest o e = e

-- the innermost namespace of a prefix is what its first binding says
pub innermost : (scope : Scope) (asked : List ℕ) → slice_get (with_names scope asked []) (length (with_names scope asked []) - 1) ≡ first_bound scope asked
innermost [] asked = refl
innermost (b ∷ outer) asked = last_if (bytes_eq b.prefix asked) b.ns (with_names outer asked []) (first_bound outer asked) (innermost outer asked)

pub with_append : (a b : Scope) (asked : List ℕ) (names : List (List ℕ)) → with_names (a ++ b) asked names ≡ with_names a asked (with_names b asked names)
with_append [] b asked names = refl
with_append (x ∷ a) b asked names = ap (with_name x.prefix x.ns asked) (with_append a b asked names)
