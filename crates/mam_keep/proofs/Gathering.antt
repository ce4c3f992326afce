-- The archives that were gathered, each account's once.
use Rattle.std.proofs.Common.{zero, suc, ◌≡◌, ◌≢◌, ℕ, ◌+◌, ◌<◌, ◌≤◌, get_or, length, take, arith, Bool, true, false, List, [], ◌∷◌, ◌++◌, refl, sym, ap, ◌∙◌, inl, inr, subst}
use Rattle.std.proofs.lemmas.Bool.{both_ways, cases_Bool}
use Rattle.std.proofs.lemmas.Slice.Eq.{bytes_eq-Decides}
use Rattle.std.specs.List.{AllByRecursion, list_any}
use Rattle.std.specs.Str.{bytes_eq}
use Rattle.mam_keep.proofs.Tables.{all_push, taken, table_after, table_blank}
use Rattle.mam_keep.specs.Changes.{AppendView, MayAppend, after}
use Rattle.mam_keep.specs.Kept.{Differ, IsOwnedTable, OwnedTable, blank, table_in}

-- one of these archives is this account's
abbrev pub has : List ℕ → List OwnedTable → Bool
has owner os = list_any (λ o. bytes_eq o.owner owner) os

-- an archive is what the changes come to
abbrev pub IsSum : List AppendView → OwnedTable → Type 0
IsSum log o = o.table ≡ after o.owner log blank

abbrev pub IsListed : List OwnedTable → AppendView → Type 0
IsListed os a = has a.owner os ≡ true

pub owned_sums : (log : List AppendView) (os : List OwnedTable) → AllByRecursion MayAppend log → AllByRecursion (IsSum log) os → AllByRecursion IsOwnedTable os
owned_sums log [] may sums = tt
owned_sums log (o ∷ os) may sums =
    (rw sums.0 (table_after o.owner log blank (table_blank o.owner) may), owned_sums log os may sums.1)

split_none : (owner : List ℕ) (p : OwnedTable) (os : List OwnedTable) → has owner (p ∷ os) ≡ false → (bytes_eq p.owner owner ≡ false) × (has owner os ≡ false)
split_none owner p os none = elim (cases_Bool (bytes_eq p.owner owner)) [
  | inl own ↦ absurd (both_ways (has owner (p ∷ os)) none (rw own refl))
  | inr other ↦ (other, rw other at none)
]

unequal : (a b : List ℕ) → bytes_eq a b ≡ false → a ≢ b
unequal a b other is = both_ways (bytes_eq a b) other ((bytes_eq-Decides a b).1 is)

pub differ_push : (os : List OwnedTable) (o : OwnedTable) → Differ os → has o.owner os ≡ false → Differ (os ++ o ∷ [])
differ_push [] o known none = (tt, tt)
differ_push (p ∷ os) o known none =
    let parts = split_none o.owner p os none in
    (all_push (λ q. q.owner ≢ p.owner) os o known.0 (λ is. unequal p.owner o.owner parts.0 (sym is)), differ_push os o known.1 parts.1)

pub has_push : (owner : List ℕ) (os : List OwnedTable) (o : OwnedTable) → has owner os ≡ true → has owner (os ++ o ∷ []) ≡ true
has_push owner [] o is = absurd (both_ways false refl is)
has_push owner (p ∷ os) o is = elim (cases_Bool (bytes_eq p.owner owner)) [
  | inl own ↦ rw own refl
  | inr other ↦ rw other (has_push owner os o (rw other at is))
]

pub has_pushed : (os : List OwnedTable) (o : OwnedTable) → has o.owner (os ++ o ∷ []) ≡ true
has_pushed [] o = rw ((bytes_eq-Decides o.owner o.owner).1 refl) refl
has_pushed (p ∷ os) o = elim (cases_Bool (bytes_eq p.owner o.owner)) [
  | inl own ↦ rw own refl
  | inr other ↦ rw other (has_pushed os o)
]

pub listed_push : (os : List OwnedTable) (o : OwnedTable) (log : List AppendView) → AllByRecursion (IsListed os) log → AllByRecursion (IsListed (os ++ o ∷ [])) log
listed_push os o [] all = tt
listed_push os o (a ∷ more) all = (has_push a.owner os o all.0, listed_push os o more all.1)

-- changes of other accounts leave an archive
after_none : (owner : List ℕ) (os : List OwnedTable) (log : List AppendView) → AllByRecursion (IsListed os) log → has owner os ≡ false → after owner log blank ≡ blank
after_none owner os [] all none = refl
after_none owner os (a ∷ more) all none = elim (cases_Bool (bytes_eq a.owner owner)) [
  | inl own ↦
      let same : a.owner ≡ owner = (bytes_eq-Decides a.owner owner).0 own in
      absurd (both_ways (has owner os) none (subst (λ o. has o os ≡ true) same all.0))
  | inr other ↦ rw other (after_none owner os more all.1 none)
]

found : (owner : List ℕ) (os : List OwnedTable) (log : List AppendView) → AllByRecursion (IsSum log) os → has owner os ≡ true → table_in owner os ≡ after owner log blank
found owner [] log sums is = absurd (both_ways false refl is)
found owner (o ∷ os) log sums is = elim (cases_Bool (bytes_eq o.owner owner)) [
  | inl own ↦
      let same : o.owner ≡ owner = (bytes_eq-Decides o.owner owner).0 own in
      rw own (sums.0 ∙ ap (λ w. after w log blank) same)
  | inr other ↦ rw other (found owner os log sums.1 (rw other at is))
]

absent : (owner : List ℕ) (os : List OwnedTable) → has owner os ≡ false → table_in owner os ≡ blank
absent owner [] none = refl
absent owner (o ∷ os) none = elim (cases_Bool (bytes_eq o.owner owner)) [
  | inl own ↦ absurd (both_ways (has owner (o ∷ os)) none (rw own refl))
  | inr other ↦ rw other (absent owner os (rw other at none))
]

-- all archives together say what the changes come to
pub gathered : (owner : List ℕ) (os : List OwnedTable) (log : List AppendView) → AllByRecursion (IsSum log) os → AllByRecursion (IsListed os) log → table_in owner os ≡ after owner log blank
gathered owner os log sums all = elim (cases_Bool (has owner os)) [
  | inl is ↦ found owner os log sums is
  | inr none ↦ absent owner os none ∙ sym (after_none owner os log all none)
]

-- what holds of the archives after the first so many changes
abbrev pub Gathers : List AppendView → List OwnedTable → ℕ → Type 0
Gathers log os i = AllByRecursion (IsSum log) os × Differ os × AllByRecursion (IsListed os) (take i log)

-- the archive of a change whose account has none there is added
pub gathers_new : (log : List AppendView) (os new : List OwnedTable) (i : ℕ) (a : AppendView) (o : OwnedTable) (name : List ℕ) → i < length log → a ≡ get_or log i a → Gathers log os i →
    new ≡ os ++ o ∷ [] → o.owner ≡ name → o.table ≡ after name log blank → name ≡ a.owner → has name os ≡ false → Gathers log new (i + 1)
gathers_new log os new i a o name within is known made owner table from none =
    let sum : IsSum log o = table ∙ ap (λ w. after w log blank) (sym owner) in
    let fresh : has o.owner os ≡ false = ap (λ w. has w os) owner ∙ none in
    let here : IsListed (os ++ o ∷ []) a = subst (λ w. has w (os ++ o ∷ []) ≡ true) (owner ∙ from) (has_pushed os o) in
    let listed = all_push (IsListed (os ++ o ∷ [])) (take i log) a (listed_push os o (take i log) known.2) here in
    rw made (
      all_push (IsSum log) os o known.0 sum,
      differ_push os o known.1 fresh,
      subst (AllByRecursion (IsListed (os ++ o ∷ []))) (sym (taken log i a within is)) listed,
    )

-- the account of a change has its archive already
pub gathers_old : (log : List AppendView) (os new : List OwnedTable) (i : ℕ) (a : AppendView) (name : List ℕ) → i < length log → a ≡ get_or log i a → Gathers log os i →
    new ≡ os → name ≡ a.owner → has name os ≡ true → Gathers log new (i + 1)
gathers_old log os new i a name within is known same from there =
    let here : IsListed os a = subst (λ w. has w os ≡ true) from there in
    rw same (
      known.0,
      known.1,
      subst (AllByRecursion (IsListed os)) (sym (taken log i a within is)) (all_push (IsListed os) (take i log) a known.2 here),
    )

pub take_whole : {A : Type 0} (P : A → Type 0) (xs : List A) (i : ℕ) → length xs ≤ i → AllByRecursion P (take i xs) → AllByRecursion P xs
take_whole P [] i over all = tt
take_whole P (x ∷ xs) zero over all = absurd (omega arith)
take_whole P (x ∷ xs) (suc i) over all = (all.0, take_whole P xs i (omega arith) all.1)
