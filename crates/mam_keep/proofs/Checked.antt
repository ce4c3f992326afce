-- What a check of all rows gathers.
use Rattle.std.proofs.Common.{◌≡◌, ◌≢◌, ℕ, zero, suc, ◌+◌, ◌-◌, ◌<◌, ◌≤◌, arith, ◌⊎◌, inl, inr, List, [], ◌∷◌, ◌++◌, get_or, length, take, refl, sym, ap, subst, ◌∙◌}
use Rattle.std.proofs.lemmas.Bool.{false≢true}
use Rattle.std.proofs.lemmas.Map.Text.{is_eq-slice_cmp}
use Rattle.std.proofs.lemmas.Slice.Eq.{bytes_eq-Decides}
use Rattle.std.specs.Cmp.Lexicographic.{slice_cmp}
use Rattle.std.specs.List.{AllByRecursion}
use Rattle.std.specs.Ordering.{nat_cmp, is_eq}
use Rattle.std.specs.Str.{bytes_eq}
use Rattle.mam_archive.proofs.Keys.{below-trans}
use Rattle.mam_archive.proofs.NumberedEntries.{FollowFrom, follow_push, numbered_following}
use Rattle.mam_archive.specs.Entries.{AreNumbered, EntryView}
use Rattle.mam_archive.specs.Chained.{IsBelow}
use Rattle.mam_keep.proofs.Tables.{all_push, taken}
use Rattle.mam_keep.specs.Kept.{Differ, IsOf, IsOwnedTable, OwnedTable}

below_itself : (p : List ℕ) → IsBelow p p → ⊥
below_itself p low =
    let test : is_eq (slice_cmp nat_cmp p p) ≡ bytes_eq p p = is_eq-slice_cmp p p in
    false≢true (rw low at test ∙ (bytes_eq-Decides p p).1 refl)

-- no owner stands behind this one
abbrev pub UpTo : List ℕ → OwnedTable → Type 0
UpTo b o = (o.owner ≡ b) ⊎ IsBelow o.owner b

below_new : (b p q : List ℕ) → (p ≡ b) ⊎ IsBelow p b → IsBelow b q → IsBelow p q
below_new b p q (inl same) up = subst (λ t. IsBelow t q) (sym same) up
below_new b p q (inr low) up = below-trans p b q low up

all_up : (b : List ℕ) (o : OwnedTable) (os : List OwnedTable) → AllByRecursion (UpTo b) os → IsBelow b o.owner → AllByRecursion (UpTo o.owner) os
all_up b o [] all up = tt
all_up b o (p ∷ os) all up = (inr (below_new b p.owner o.owner all.0 up), all_up b o os all.1 up)

differ_after : (b : List ℕ) (o : OwnedTable) (os : List OwnedTable) → AllByRecursion (UpTo b) os → IsBelow b o.owner → Differ os → Differ (os ++ o ∷ [])
differ_after b o [] all up known = (tt, tt)
differ_after b o (p ∷ os) all up known =
    let low = below_new b p.owner o.owner all.0 up in
    (all_push (λ q. q.owner ≢ p.owner) os o known.0 (λ same. below_itself p.owner (subst (λ t. IsBelow p.owner t) same low)), differ_after b o os all.1 up known.1)

-- what holds of the archives that were looked at
pub record AreSeen (os : List OwnedTable) (b : List ℕ) : Type 0 where
  pub owned : AllByRecursion IsOwnedTable os
  pub owners : Differ os
  pub up : AllByRecursion (UpTo b) os

pub seen_more : (os : List OwnedTable) (i : ℕ) (o : OwnedTable) (b owner : List ℕ) → i < length os → o ≡ get_or os i o → AreSeen (take i os) b → owner ≡ o.owner → IsBelow b owner → IsOwnedTable o →
    AreSeen (take (i + 1) os) owner
seen_more os i o b owner within is seen own following whole =
    let up : IsBelow b o.owner = subst (IsBelow b) own following in
    rw (taken os i o within is) (record {
      owned = all_push IsOwnedTable (take i os) o seen.owned whole;
      owners = differ_after b o (take i os) seen.up up seen.owners;
      up = all_push (UpTo owner) (take i os) o (subst (λ t. AllByRecursion (UpTo t) (take i os)) (sym own) (all_up b o (take i os) seen.up up)) (inl (sym own));
    })

take_past : {A : Type 0} (xs : List A) (i : ℕ) → length xs ≤ i → take i xs ≡ xs
take_past [] zero past = refl
take_past [] (suc i) past = refl
take_past (x ∷ xs) zero past = absurd (omega arith)
take_past (x ∷ xs) (suc i) past = ap (λ l. x ∷ l) (take_past xs i (omega arith))

take_size : {A : Type 0} (xs : List A) (i : ℕ) → i ≤ length xs → length (take i xs) ≡ i
take_size xs zero within = refl
take_size [] (suc i) within = absurd (omega arith)
take_size (x ∷ xs) (suc i) within = ap suc (take_size xs i (omega arith))

-- what holds of the first entries that were looked at, of which the next is to have a number
pub record AreNumberedSoFar (owner : List ℕ) (first next : ℕ) (es : List EntryView) (i : ℕ) : Type 0 where
  pub counted : next ≡ first + i
  pub follow : FollowFrom first (take i es)
  pub each : AllByRecursion (IsOf owner) (take i es)

pub entries_more : (owner : List ℕ) (first next : ℕ) (es : List EntryView) (i : ℕ) (e : EntryView) → i < length es → e ≡ get_or es i e → AreNumberedSoFar owner first next es i →
    e.number ≡ next → IsOf owner e → AreNumberedSoFar owner first (next + 1) es (i + 1)
entries_more owner first next es i e within is known number own =
    let size : length (take i es) ≡ i = take_size es i (omega arith) in
    let so = known.counted in
    record {
      counted = omega (arith, so);
      follow = rw (taken es i e within is) (follow_push first e.number (take i es) e known.follow (omega (arith, so, size, number)));
      each = rw (taken es i e within is) (all_push (IsOf owner) (take i es) e known.each own);
    }

pub numbers_seen : (owner : List ℕ) (last next i : ℕ) (es : List EntryView) → length es ≤ last → length es ≤ i → AreNumberedSoFar owner (last + 1 - length es) next es i → AreNumbered last es
numbers_seen owner last next i es within end known =
    numbered_following (last + 1 - length es) last es (subst (FollowFrom (last + 1 - length es)) (take_past es i end) known.follow) (omega (arith, within))

pub each_seen : (owner : List ℕ) (last next i : ℕ) (es : List EntryView) → length es ≤ i → AreNumberedSoFar owner (last + 1 - length es) next es i → AllByRecursion (IsOf owner) es
each_seen owner last next i es end known = subst (AllByRecursion (IsOf owner)) (take_past es i end) known.each

pub seen_whole : (os : List OwnedTable) (i : ℕ) (b : List ℕ) → length os ≤ i → AreSeen (take i os) b → AreSeen os b
seen_whole os i b end seen = subst (λ l. AreSeen l b) (take_past os i end) seen
