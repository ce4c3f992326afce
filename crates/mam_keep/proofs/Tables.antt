-- What changes come to that were made one after the other: archives that may be answered.
use Rattle.std.proofs.Common.{◌≡◌, ℕ, zero, suc, ◌+◌, ◌-◌, ◌<◌, ◌≤◌, ◌==◌, true, false, List, [], ◌∷◌, ◌++◌, Some, slice_get, get_or, length, take, drop, unwrap_or, refl, sym, ap, ◌∙◌, arith, inl, inr, subst, if◌then◌else◌}
use Rattle.std.proofs.lemmas.Bool.{cases_Bool, eqb-true}
use Rattle.std.proofs.lemmas.List.{length-drop, length_push, take_more}
use Rattle.std.proofs.lemmas.Option.{none-some}
use Rattle.std.proofs.lemmas.Slice.Eq.{bytes_eq-Decides}
use Rattle.std.specs.List.{AllByRecursion}
use Rattle.std.specs.Str.{bytes_eq}
use Rattle.mam_archive.proofs.NumberedEntries.{FollowFrom, follow_drop, follow_numbered, follow_push, numbered_following}
use Rattle.mam_archive.specs.Entries.{EntryView, newest}
use Rattle.mam_keep.specs.Changes.{AppendView, MayAppend, Rise, after, with_entry}
use Rattle.mam_keep.specs.Kept.{IsOf, IsTable, Table, blank}

pub all_push : {A : Type 0} (P : A → Type 0) (xs : List A) (x : A) → AllByRecursion P xs → P x → AllByRecursion P (xs ++ x ∷ [])
all_push P [] x all last = (last, tt)
all_push P (y ∷ ys) x all last = (all.0, all_push P ys x all.1 last)

all_drop : {A : Type 0} (P : A → Type 0) (k : ℕ) (xs : List A) → AllByRecursion P xs → AllByRecursion P (drop k xs)
all_drop P zero xs all = all
all_drop P (suc k) [] all = tt
all_drop P (suc k) (x ∷ xs) all = all_drop P k xs all.1

-- entries before a new one: numbered up to it, or none
record AreBelow (owner : List ℕ) (n : ℕ) (es : List EntryView) : Type 0 where
  first : ℕ
  low : 1 ≤ first
  follow : FollowFrom first es
  next : first + length es ≡ n
  each : AllByRecursion (IsOf owner) es

grown : (owner : List ℕ) (keep : ℕ) (e : EntryView) (es : List EntryView) → AreBelow owner e.number es → 1 ≤ keep → e.number ≤ 4294967295 → IsOf owner e →
    IsTable owner (record { last = e.number; entries = newest keep (es ++ e ∷ []) })
grown owner keep e es below some high is =
    let cut = length (es ++ e ∷ []) - keep in
    let whole : length (es ++ e ∷ []) ≡ length es + 1 = length_push es e in
    let size : length (drop cut (es ++ e ∷ [])) ≡ length (es ++ e ∷ []) - cut = length-drop cut (es ++ e ∷ []) in
    let all : FollowFrom below.first (es ++ e ∷ []) = follow_push below.first e.number es e below.follow below.next in
    let kept : FollowFrom (below.first + cut) (drop cut (es ++ e ∷ [])) = follow_drop cut below.first (es ++ e ∷ []) all in
    let low = below.low in
    let next = below.next in
    record {
      numbers = numbered_following (below.first + cut) e.number (drop cut (es ++ e ∷ [])) kept (omega (arith, size, whole, some, next));
      within = omega (arith, size, whole, some, next, low);
      most = high;
      none = λ empty. absurd (omega (arith, size, whole, some, empty));
      each = all_drop (IsOf owner) cut (es ++ e ∷ []) (all_push (IsOf owner) es e below.each is);
    }

pub table_blank : (owner : List ℕ) → IsTable owner blank
table_blank owner = record {
  numbers = record { each = λ i e is. absurd (none-some e is) };
  within = omega arith;
  most = omega arith;
  none = λ _. refl;
  each = tt;
}

-- an archive with one entry more
pub table_more : (owner : List ℕ) (a : AppendView) (t : Table) → IsTable owner t → MayAppend a → a.owner ≡ owner → IsTable owner (with_entry a t)
table_more owner a t known may own =
    let is : IsOf owner a.entry = subst (λ o. IsOf o a.entry) own may.entry in
    elim (cases_Bool (a.entry.number == t.last + 1)) [
      | inl next ↦
          let number : a.entry.number ≡ t.last + 1 = eqb-true a.entry.number (t.last + 1) next in
          let within = known.within in
          rw next (grown owner a.keep a.entry t.entries (record {
            first = t.last + 1 - length t.entries;
            low = omega (arith, within);
            follow = follow_numbered t.last t.entries known.numbers known.within;
            next = omega (arith, within, number);
            each = known.each;
          }) may.keep may.high is)
      | inr other ↦
          rw other (grown owner a.keep a.entry [] (record {
            first = a.entry.number;
            low = may.low;
            follow = tt;
            next = omega arith;
            each = tt;
          }) may.keep may.high is)
    ]

-- an account's archive may be answered after changes that may be made
pub table_after : (owner : List ℕ) (log : List AppendView) (t : Table) → IsTable owner t → AllByRecursion MayAppend log → IsTable owner (after owner log t)
table_after owner [] t known may = known
table_after owner (a ∷ more) t known may = elim (cases_Bool (bytes_eq a.owner owner)) [
  | inl own ↦ rw own (table_after owner more (with_entry a t) (table_more owner a t known may.0 ((bytes_eq-Decides a.owner owner).0 own)) may.1)
  | inr other ↦ rw other (table_after owner more t known may.1)
]

pub after_append : (owner : List ℕ) (xs ys : List AppendView) (t : Table) → after owner (xs ++ ys) t ≡ after owner ys (after owner xs t)
after_append owner [] ys t = refl
after_append owner (a ∷ more) ys t = after_append owner more ys (if bytes_eq a.owner owner then with_entry a t else t)

-- numbers that rise, and then rise on
pub rise_append : (owner : List ℕ) (xs ys : List AppendView) (t : Table) → Rise owner xs t.last → Rise owner ys (after owner xs t).last → Rise owner (xs ++ ys) t.last
rise_append owner [] ys t first later = later
rise_append owner (a ∷ more) ys t first later = elim (cases_Bool (bytes_eq a.owner owner)) [
  | inl own ↦
      let rest : Rise owner more a.entry.number = rw own at first.1 in
      let rises : Rise owner ys (after owner more (with_entry a t)).last = subst (λ b. Rise owner ys (after owner more (if b then with_entry a t else t)).last) own later in
      (first.0, rw own (rise_append owner more ys (with_entry a t) rest rises))
  | inr other ↦
      let rest : Rise owner more t.last = rw other at first.1 in
      let rises : Rise owner ys (after owner more t).last = subst (λ b. Rise owner ys (after owner more (if b then with_entry a t else t)).last) other later in
      (first.0, rw other (rise_append owner more ys t rest rises))
]

pub all_append : {A : Type 0} (P : A → Type 0) (xs ys : List A) → AllByRecursion P xs → AllByRecursion P ys → AllByRecursion P (xs ++ ys)
all_append P [] ys first later = later
all_append P (x ∷ xs) ys first later = (first.0, all_append P xs ys first.1 later)

-- an item at a place is one of all
pub all_at : {A : Type 0} (P : A → Type 0) (xs : List A) (i : ℕ) (x : A) → AllByRecursion P xs → slice_get xs i ≡ Some x → P x
all_at P [] i x all is = absurd (none-some x is)
all_at P (y ∷ ys) zero x all is = let same : y ≡ x = ap (λ o. unwrap_or o x) is in subst P same all.0
all_at P (y ∷ ys) (suc i) x all is = all_at P ys i x all.1 is

-- the oldest of too many may go first
pub newest_tail : {A : Type 0} (keep : ℕ) (xs : List A) → keep < length xs → newest keep (drop 1 xs) ≡ newest keep xs
newest_tail keep [] many = absurd (omega arith)
newest_tail keep (x ∷ xs) many = let over : length (x ∷ xs) - keep ≡ suc (length xs - keep) = omega arith in rw over refl

-- one item more from the front
pub taken : {A : Type 0} (xs : List A) (i : ℕ) (x : A) → i < length xs → x ≡ get_or xs i x → take (i + 1) xs ≡ take i xs ++ x ∷ []
taken xs i x within is = take_more xs i x within ∙ ap (λ y. take i xs ++ y ∷ []) (sym is)

-- one change more
pub after_more : (owner : List ℕ) (log : List AppendView) (i : ℕ) (a : AppendView) (t : Table) → i < length log → a ≡ get_or log i a →
    after owner (take (i + 1) log) t ≡ (if bytes_eq a.owner owner then with_entry a (after owner (take i log) t) else after owner (take i log) t)
after_more owner log i a t within is = ap (λ l. after owner l t) (taken log i a within is) ∙ after_append owner (take i log) (a ∷ []) t

pub after_own : (owner : List ℕ) (log : List AppendView) (i : ℕ) (a : AppendView) (t s : Table) → i < length log → a ≡ get_or log i a → bytes_eq a.owner owner ≡ true →
    s ≡ after owner (take i log) t → with_entry a s ≡ after owner (take (i + 1) log) t
after_own owner log i a t s within is own held =
    ap (with_entry a) held ∙ sym (after_more owner log i a t within is ∙ ap (λ b. if b then with_entry a (after owner (take i log) t) else after owner (take i log) t) own)

pub after_other : (owner : List ℕ) (log : List AppendView) (i : ℕ) (a : AppendView) (t s : Table) → i < length log → a ≡ get_or log i a → bytes_eq a.owner owner ≡ false →
    s ≡ after owner (take i log) t → s ≡ after owner (take (i + 1) log) t
after_other owner log i a t s within is other held =
    held ∙ sym (after_more owner log i a t within is ∙ ap (λ b. if b then with_entry a (after owner (take i log) t) else after owner (take i log) t) other)

-- an item of all, as a loop reads it
pub all_read : {A : Type 0} (P : A → Type 0) (xs : List A) (i : ℕ) (x : A) → AllByRecursion P xs → i < length xs → x ≡ get_or xs i x → P x
all_read P [] i x all within is = absurd (omega arith)
all_read P (y ∷ ys) zero x all within is = subst P (sym is) all.0
all_read P (y ∷ ys) (suc i) x all within is = all_read P ys i x all.1 (omega arith) is
