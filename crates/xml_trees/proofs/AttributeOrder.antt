-- Attributes in the order of their names.
use Rattle.std.proofs.Common.{◌≡◌, ℕ, Bool, true, false, true≢false, cond, ◌&&◌, List, [], ◌∷◌, Option, Some, None, IsSome, Ordering, Less, Equal, Greater, is_eq, is_lt, not, refl, sym, ap, ◌∙◌, subst, nat_cmp, length, arith}
use Rattle.std.proofs.lemmas.Cmp.{nat_list_cmp_total, on_total, then_total, tied_back, tied_itself}
use Rattle.std.proofs.lemmas.List.Kept.{IsStrictlySortedBy-dedup}
use Rattle.std.proofs.lemmas.Map.Text.{is_eq-slice_cmp}
use Rattle.std.specs.Cmp.{IsTotalOrder, Equal-is}
use Rattle.std.specs.Cmp.Lexicographic.{slice_cmp}
use Rattle.std.proofs.lemmas.List.Elements.{All-from_recursion}
use Rattle.std.specs.List.{All, AllByRecursion, dedup, dedup_from, filter, find}
use Rattle.std.specs.List.Sorted.{IsSorted, IsStable, IsStrictlySortedBy, ties}
use Rattle.std.specs.Ordering.{eq_by_cmp, match_ordering, ordering_reverse, ordering_then}
use Rattle.xml_trees.specs.Attributes.{Attribute, IsAttrsOf, found, has_name, name_order, put_attribute, sorted_attributes}

pub name_order_total : IsTotalOrder name_order
name_order_total = then_total (on_total (λ (a : Attribute). a.ns) nat_list_cmp_total) (on_total (λ (a : Attribute). a.name) nat_list_cmp_total)

by_ordering : {P : Type 0} (o : Ordering) → (o ≡ Less → P) → (o ≡ Equal → P) → (o ≡ Greater → P) → P
by_ordering Less l e g = l refl
by_ordering Equal l e g = e refl
by_ordering Greater l e g = g refl

by_test : {P : Type 0} (b : Bool) → (b ≡ true → P) → (b ≡ false → P) → P
by_test true t f = t refl
by_test false t f = f refl

-- an attribute that has a name and nothing else
abbrev pub named : List ℕ → List ℕ → Attribute
named ns name = record { ns = ns; name = name; value = [] }

is_eq-then : (o p : Ordering) → is_eq (ordering_then o p) ≡ (is_eq o && is_eq p)
is_eq-then Less p = refl
is_eq-then Equal p = refl
is_eq-then Greater p = refl

-- two have one name where neither is below the other
pub has_name-order : (ns name : List ℕ) (a : Attribute) → has_name ns name a ≡ is_eq (name_order a (named ns name))
has_name-order ns name a =
    rw (is_eq-then (slice_cmp nat_cmp a.ns ns) (slice_cmp nat_cmp a.name name), is_eq-slice_cmp a.ns ns, is_eq-slice_cmp a.name name)

is_Equal : (ns name : List ℕ) (a : Attribute) → has_name ns name a ≡ true → name_order a (named ns name) ≡ Equal
is_Equal ns name a h = (Equal-is (name_order a (named ns name))).0 (sym (has_name-order ns name a) ∙ h)

-- whoever has the name of one has that of another in its place
one_name : (ns name : List ℕ) (a b : Attribute) → has_name ns name a ≡ true → has_name ns name b ≡ true → name_order a b ≡ Equal
one_name ns name a b p q =
    name_order_total.congr a (named ns name) b (is_Equal ns name a p) ∙ tied_back name_order_total b (named ns name) (is_Equal ns name b q)

same_test : (ns name : List ℕ) (a b : Attribute) → name_order a b ≡ Equal → has_name ns name a ≡ has_name ns name b
same_test ns name a b e =
    has_name-order ns name a ∙ ap is_eq (name_order_total.congr a b (named ns name) e) ∙ sym (has_name-order ns name b)

own_name : (a : Attribute) → has_name a.ns a.name a ≡ true
own_name a = has_name-order a.ns a.name a ∙ ap is_eq (name_order_total.congr a a (named a.ns a.name) (tied_itself name_order_total a)) ∙ ap is_eq (tied_itself name_order_total a)

-- ---- put

put_step : (P : List Attribute → Type 0) (a b : Attribute) (bs : List Attribute) → (name_order a b ≡ Less → P (a ∷ b ∷ bs)) → (name_order a b ≡ Equal → P (a ∷ bs)) → (name_order a b ≡ Greater → P (b ∷ put_attribute a bs)) → P (put_attribute a (b ∷ bs))
put_step P a b bs less equal greater =
    let at = λ (o : Ordering). P (match_ordering o (a ∷ b ∷ bs) (a ∷ bs) (b ∷ put_attribute a bs)) in
    by_ordering (name_order a b) (λ e. subst at (sym e) (less e)) (λ e. subst at (sym e) (equal e)) (λ e. subst at (sym e) (greater e))

first_or : (p q : Bool) (x y : Option Attribute) (r : Option Attribute) → (p ≡ true → q ≡ true → x ≡ y) → cond q y (cond p x r) ≡ cond p x (cond q y r)
first_or true true x y r h = sym (h refl refl)
first_or true false x y r h = refl
first_or false true x y r h = refl
first_or false false x y r h = refl

skipped : (p q : Bool) (x y r : Option Attribute) → p ≡ q → cond p x r ≡ cond p x (cond q y r)
skipped true true x y r e = refl
skipped false false x y r e = refl
skipped true false x y r e = absurd (true≢false e)
skipped false true x y r e = absurd (true≢false (sym e))

pub found-put : (ns name : List ℕ) (a : Attribute) (bs : List Attribute) → found ns name (put_attribute a bs) ≡ found ns name (a ∷ bs)
found-put ns name a [] = refl
found-put ns name a (b ∷ bs) =
    put_step (λ l. found ns name l ≡ found ns name (a ∷ b ∷ bs)) a b bs (λ e. refl)
    (λ e. skipped (has_name ns name a) (has_name ns name b) (Some a) (Some b) (found ns name bs) (same_test ns name a b e))
    (λ e. ap (λ o. cond (has_name ns name b) (Some b) o) (found-put ns name a bs)
    ∙ first_or (has_name ns name a) (has_name ns name b) (Some a) (Some b) (found ns name bs) (λ p q. let same = one_name ns name a b p q in cc))

all_put : (P : Attribute → Type 0) (a : Attribute) (bs : List Attribute) → P a → AllByRecursion P bs → AllByRecursion P (put_attribute a bs)
all_put P a [] one all = (one, tt)
all_put P a (b ∷ bs) one all =
    put_step (AllByRecursion P) a b bs (λ e. (one, all)) (λ e. (one, all.1)) (λ e. (all.0, all_put P a bs one all.1))

pub all_weaker : (P Q : Attribute → Type 0) → ((a : Attribute) → P a → Q a) → (bs : List Attribute) → AllByRecursion P bs → AllByRecursion Q bs
all_weaker P Q h [] all = tt
all_weaker P Q h (b ∷ bs) all = (h b all.0, all_weaker P Q h bs all.1)

pub ascending-put : (a : Attribute) (bs : List Attribute) → IsStrictlySortedBy name_order bs → IsStrictlySortedBy name_order (put_attribute a bs)
unfolding IsStrictlySortedBy
ascending-put a [] up = (tt, tt)
ascending-put a (b ∷ bs) up =
    put_step (IsStrictlySortedBy name_order) a b bs
    (λ e. ((e, all_weaker (λ z. name_order b z ≡ Less) (λ z. name_order a z ≡ Less) (λ z. name_order_total.trans a b z e) bs up.0), up))
    (λ e. (all_weaker (λ z. name_order b z ≡ Less) (λ z. name_order a z ≡ Less) (λ z below. name_order_total.congr a b z e ∙ below) bs up.0, up.1))
    (λ e. (all_put (λ z. name_order b z ≡ Less) a bs (name_order_total.antisymm b a ∙ ap ordering_reverse e) up.0, ascending-put a bs up.1))

-- the sort that the definition calls keeps what is asked of it
pub sorted_attributes_IsAttrsOf : (given : List Attribute) → IsAttrsOf given (sorted_attributes given)
unfolding IsStrictlySortedBy
sorted_attributes_IsAttrsOf [] = record { ascending = tt; firsts = λ ns name. refl }
sorted_attributes_IsAttrsOf (a ∷ rest) =
    let more = sorted_attributes_IsAttrsOf rest in record {
      ascending = ascending-put a (sorted_attributes rest) more.ascending;
      firsts = λ ns name. found-put ns name a (sorted_attributes rest) ∙ ap (λ o. cond (has_name ns name a) (Some a) o) (more.firsts ns name);
    }

-- ---- one list alone keeps it

-- where all are above one of this name, none has the name
pub absent : (ns name : List ℕ) (a : Attribute) (bs : List Attribute) → has_name ns name a ≡ true → AllByRecursion (λ z. name_order a z ≡ Less) bs → found ns name bs ≡ None
absent ns name a [] h above = refl
absent ns name a (b ∷ bs) h above =
    by_test (has_name ns name b) (λ t. let same = one_name ns name a b h t in let below = above.0 in cc)
    (λ f. rw f (absent ns name a bs h above.1))

pub found_head : (ns name : List ℕ) (a : Attribute) (rest : List Attribute) → has_name ns name a ≡ true → found ns name (a ∷ rest) ≡ Some a
found_head ns name a rest h = rw h

pub found_later : (ns name : List ℕ) (a : Attribute) (rest : List Attribute) → has_name ns name a ≡ false → found ns name (a ∷ rest) ≡ found ns name rest
found_later ns name a rest h = rw h

pub same_attributes : (xs ys : List Attribute) → IsStrictlySortedBy name_order xs → IsStrictlySortedBy name_order ys → ((ns name : List ℕ) → found ns name xs ≡ found ns name ys) → xs ≡ ys
unfolding IsStrictlySortedBy
same_attributes [] [] up over same = refl
same_attributes [] (y ∷ ys) up over same = let is = same y.ns y.name ∙ found_head y.ns y.name y ys (own_name y) in cc
same_attributes (x ∷ xs) [] up over same = let is = sym (found_head x.ns x.name x xs (own_name x)) ∙ same x.ns x.name in cc
same_attributes (x ∷ xs) (y ∷ ys) up over same =
    let first = sym (found_head x.ns x.name x xs (own_name x)) ∙ same x.ns x.name in
    let other = sym (same y.ns y.name) in
    let above = λ (w z : Attribute) (zs : List Attribute) (e : name_order w z ≡ Less) (all : AllByRecursion (λ v. name_order z v ≡ Less) zs). absent w.ns w.name w (z ∷ zs) (own_name w) (e, all_weaker (λ v. name_order z v ≡ Less) (λ v. name_order w v ≡ Less) (λ v. name_order_total.trans w z v e) zs all) in
    by_ordering (name_order x y)
    (λ e. let is = first ∙ above x y ys e over.0 in cc)
    (λ e.
    let test : has_name x.ns x.name y ≡ true = sym (same_test x.ns x.name x y e) ∙ own_name x in
    let heads = first ∙ found_head x.ns x.name y ys test in
    let head : x ≡ y = cc in
    let tails = same_attributes xs ys up.1 over.1 (λ ns name. by_test (has_name ns name x)
    (λ t. absent ns name x xs t up.0 ∙ sym (absent ns name y ys (sym (same_test ns name x y e) ∙ t) over.0))
    (λ f. sym (found_later ns name x xs f) ∙ same ns name ∙ found_later ns name y ys (sym (same_test ns name x y e) ∙ f))) in
    λ i. head i ∷ tails i)
    (λ e. let is = sym (found_head y.ns y.name y ys (own_name y)) ∙ other ∙ above y x xs (name_order_total.antisymm y x ∙ ap ordering_reverse e) up.0 in cc)

pub one_IsAttrsOf : (given xs ys : List Attribute) → IsAttrsOf given xs → IsAttrsOf given ys → xs ≡ ys
one_IsAttrsOf given xs ys p q = same_attributes xs ys p.ascending q.ascending (λ ns name. p.firsts ns name ∙ sym (q.firsts ns name))

-- attributes in order stay as they are
pub sorted_attributes_stay : (xs : List Attribute) → IsStrictlySortedBy name_order xs → sorted_attributes xs ≡ xs
sorted_attributes_stay xs up = one_IsAttrsOf xs (sorted_attributes xs) xs (sorted_attributes_IsAttrsOf xs) (record { ascending = up; firsts = λ ns name. refl })

-- ---- a stable sort, and then the first of each run of one name

find-filter : (p : Attribute → Bool) (xs : List Attribute) → find p (filter p xs) ≡ find p xs
find-filter p [] = refl
find-filter p (x ∷ xs) = by_test (p x) (λ t. rw (t, t)) (λ f. rw (f) (find-filter p xs))

ties-is_eq : (o p : Ordering) → p ≡ ordering_reverse o → (not (is_lt p) && not (is_lt o)) ≡ is_eq o
ties-is_eq Less p e = rw e
ties-is_eq Equal p e = rw e
ties-is_eq Greater p e = rw e

has_name-ties : (ns name : List ℕ) (a : Attribute) → has_name ns name a ≡ ties (λ x y. is_lt (name_order x y)) (named ns name) a
has_name-ties ns name a =
    has_name-order ns name a ∙ sym (ties-is_eq (name_order a (named ns name)) (name_order (named ns name) a) (name_order_total.antisymm (named ns name) a))

filter_same : (p q : Attribute → Bool) → ((a : Attribute) → p a ≡ q a) → (xs : List Attribute) → filter p xs ≡ filter q xs
filter_same p q h [] = refl
filter_same p q h (x ∷ xs) = rw (h x, filter_same p q h xs)

pub found-stable : (ns name : List ℕ) (given sorted : List Attribute) → IsStable name_order given sorted → found ns name sorted ≡ found ns name given
found-stable ns name given sorted stable =
    let p = has_name ns name in
    let q : Attribute → Bool = ties (λ x y. is_lt (name_order x y)) (named ns name) in
    let alike : filter p sorted ≡ filter p given = filter_same p q (has_name-ties ns name) sorted ∙ stable (named ns name) ∙ sym (filter_same p q (has_name-ties ns name) given) in
    sym (find-filter p sorted) ∙ ap (find p) alike ∙ find-filter p given

found-dedup_from : (ns name : List ℕ) (k : Attribute) (xs : List Attribute) → found ns name (dedup_from (eq_by_cmp name_order) k xs) ≡ found ns name (k ∷ xs)
found-dedup_from ns name k [] = refl
found-dedup_from ns name k (x ∷ xs) =
    let at = λ (b : Bool). found ns name (cond b (dedup_from (eq_by_cmp name_order) k xs) (k ∷ dedup_from (eq_by_cmp name_order) x xs)) ≡ found ns name (k ∷ x ∷ xs) in
    by_test (is_eq (name_order x k))
    (λ t. subst at (sym t) (found-dedup_from ns name k xs ∙ skipped (has_name ns name k) (has_name ns name x) (Some k) (Some x) (found ns name xs) (sym (same_test ns name x k ((Equal-is (name_order x k)).0 t)))))
    (λ f. subst at (sym f) (ap (λ o. cond (has_name ns name k) (Some k) o) (found-dedup_from ns name x xs)))

pub found-dedup : (ns name : List ℕ) (xs : List Attribute) → found ns name (dedup (eq_by_cmp name_order) xs) ≡ found ns name xs
found-dedup ns name [] = refl
found-dedup ns name (x ∷ xs) = found-dedup_from ns name x xs

pub sorted_then_deduped : (given sorted : List Attribute) → IsSorted name_order sorted → IsStable name_order given sorted → dedup (eq_by_cmp name_order) sorted ≡ sorted_attributes given
sorted_then_deduped given sorted up stable =
    let kept : IsAttrsOf given (dedup (eq_by_cmp name_order) sorted) = record {
      ascending = IsStrictlySortedBy-dedup name_order_total (λ x y. refl) sorted up;
      firsts = λ ns name. found-dedup ns name sorted ∙ found-stable ns name given sorted stable;
    } in
    one_IsAttrsOf given (dedup (eq_by_cmp name_order) sorted) (sorted_attributes given) kept (sorted_attributes_IsAttrsOf given)

pub nothing_left : {A : Type 0} (l : List A) → length l ≡ 0 → l ≡ []
nothing_left [] h = refl
nothing_left (x ∷ xs) h = absurd (omega arith)

-- ---- attribute by attribute

both_weaker : (P Q R : Attribute → Type 0) → ((a : Attribute) → P a → Q a → R a) → (xs : List Attribute) → AllByRecursion P xs → AllByRecursion Q xs → AllByRecursion R xs
both_weaker P Q R h [] all more = tt
both_weaker P Q R h (x ∷ xs) all more = (h x all.0 more.0, both_weaker P Q R h xs all.1 more.1)

-- whoever stands above another has another name
other_name : (x a : Attribute) → name_order x a ≡ Less → has_name a.ns a.name x ≡ false
other_name x a below = by_test (has_name a.ns a.name x) (λ t. let same = one_name a.ns a.name x a t (own_name a) in cc) (λ f. f)

own_first : (xs : List Attribute) → IsStrictlySortedBy name_order xs → AllByRecursion (λ a. found a.ns a.name xs ≡ Some a) xs
unfolding IsStrictlySortedBy
own_first [] up = tt
own_first (x ∷ xs) up = (
  found_head x.ns x.name x xs (own_name x),
  both_weaker (λ a. name_order x a ≡ Less) (λ a. found a.ns a.name xs ≡ Some a) (λ a. found a.ns a.name (x ∷ xs) ≡ Some a)
      (λ a below is. found_later a.ns a.name x xs (other_name x a below) ∙ is) xs up.0 (own_first xs up.1),
)

some_or : (b : Bool) (x : Attribute) (o : Option Attribute) → IsSome o → IsSome (cond b (Some x) o)
some_or true x o h = refl
some_or false x o h = h

own_there : (xs : List Attribute) → AllByRecursion (λ a. IsSome (found a.ns a.name xs)) xs
own_there [] = tt
own_there (x ∷ xs) = (
  rw (found_head x.ns x.name x xs (own_name x)) refl,
  all_weaker (λ a. IsSome (found a.ns a.name xs)) (λ a. IsSome (found a.ns a.name (x ∷ xs))) (λ a h. some_or (has_name a.ns a.name x) x (found a.ns a.name xs) h) xs (own_there xs),
)

-- each attribute that is kept is the first of its name among those given
pub kept_is_first : (given : List Attribute) → All (λ a. found a.ns a.name given ≡ Some a) (sorted_attributes given)
kept_is_first given =
    let is = sorted_attributes_IsAttrsOf given in
    All-from_recursion (λ a. found a.ns a.name given ≡ Some a) (sorted_attributes given)
    (all_weaker (λ a. found a.ns a.name (sorted_attributes given) ≡ Some a) (λ a. found a.ns a.name given ≡ Some a) (λ a h. sym (is.firsts a.ns a.name) ∙ h)
    (sorted_attributes given) (own_first (sorted_attributes given) is.ascending))

-- each name that was given is there
pub given_is_there : (given : List Attribute) → All (λ a. IsSome (found a.ns a.name (sorted_attributes given))) given
given_is_there given =
    let is = sorted_attributes_IsAttrsOf given in
    All-from_recursion (λ a. IsSome (found a.ns a.name (sorted_attributes given))) given
    (all_weaker (λ a. IsSome (found a.ns a.name given)) (λ a. IsSome (found a.ns a.name (sorted_attributes given))) (λ a h. subst IsSome (sym (is.firsts a.ns a.name)) h)
    given (own_there given))
