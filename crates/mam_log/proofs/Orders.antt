-- Texts in order, by their places: where one stands, and one more.
use Rattle.std.proofs.Common.{◌≡◌, ℕ, zero, suc, ◌+◌, ◌-◌, ◌<◌, ◌≤◌, Bool, true, false, ◌||◌, List, [], ◌∷◌, ◌++◌, Option, Some, None, length, get_or, not, refl, sym, ap, ◌∙◌, arith}
use Rattle.std.proofs.Math.Bool.{or-false, or_comm}
use Rattle.std.proofs.lemmas.Bool.Decides.{same_from_decides}
use Rattle.std.proofs.lemmas.List.{get_or_append_left, get_or_at, length-append, length-map}
use Rattle.std.proofs.lemmas.List.Folds.{list_any-append}
use Rattle.std.proofs.lemmas.Option.{none-some, slice_get_past}
use Rattle.std.proofs.lemmas.Slice.Eq.{bytes_eq-Decides}
use Rattle.std.specs.List.{AllByRecursion, insert, list_any, slice_get}
use Rattle.std.specs.Option.{IfNone, IfSome, is_some}
use Rattle.std.specs.Str.{bytes_eq}
use Rattle.mam_archive.proofs.ChainSteps.{below_more}
use Rattle.mam_archive.proofs.Keys.{ascend-insert, at_is_text, gap_absent, map-insert, text-insert}
use Rattle.mam_archive.specs.Chained.{IsBelow, IsGap, is_text_of}
use Rattle.mam_log.specs.Orders.{IsOrderOf, text_at, texts_at}

-- ---- the two ways to ask for a text

pub bytes_eq-sym : (a b : List ℕ) → bytes_eq a b ≡ bytes_eq b a
bytes_eq-sym a b =
    let there = bytes_eq-Decides a b in
    let back = bytes_eq-Decides b a in
    same_from_decides (bytes_eq a b) (bytes_eq b a) there (λ e. sym (back.0 e), λ e. back.1 (sym e))

pub is_known : (id : List ℕ) (ids : List (List ℕ)) → list_any (λ other. bytes_eq id other) ids ≡ is_text_of id ids
is_known id [] = refl
is_known id (d ∷ ds) = rw (bytes_eq-sym id d, is_known id ds) refl

-- ---- what stands at a place

pub all_at : {A : Type 0} (P : A → Type 0) (xs : List A) (i : ℕ) (d : A) → AllByRecursion P xs → i < length xs → P (get_or xs i d)
all_at P [] i d all low = absurd (omega arith)
all_at P (x ∷ xs) zero d all low = all.0
all_at P (x ∷ xs) (suc i) d all low = all_at P xs i d all.1 (omega arith)

pub text_here : (texts : List (List ℕ)) (positions : List ℕ) (m d : ℕ) → m < length positions → slice_get (texts_at texts positions) m ≡ Some (text_at texts (get_or positions m d))
text_here texts [] m d low = absurd (omega arith)
text_here texts (p ∷ ps) zero d low = refl
text_here texts (p ∷ ps) (suc m) d low = text_here texts ps m d (omega arith)

-- a text that stands in the order is one of them
pub found_text : (positions : List ℕ) (texts : List (List ℕ)) (p q : List ℕ) (m : ℕ) → IsOrderOf positions texts → slice_get (texts_at texts positions) m ≡ Some q → q ≡ p → is_text_of p texts ≡ true
found_text positions texts p q m order is same = sym (order.every p) ∙ rw (← same) (at_is_text (texts_at texts positions) m q is)

-- a text that has a gap is none of them
pub gap_text : (positions : List ℕ) (texts : List (List ℕ)) (p : List ℕ) (at : ℕ) → IsOrderOf positions texts → IsGap (texts_at texts positions) p at → is_text_of p texts ≡ false
gap_text positions texts p at order gap = sym (order.every p) ∙ gap_absent (texts_at texts positions) p at gap

-- whether there is such a text, by whether it has a gap
pub has_text : (positions : List ℕ) (texts : List (List ℕ)) (p : List ℕ) (gap : Option ℕ) (b : Bool) → IsOrderOf positions texts → IfSome gap (λ at. IsGap (texts_at texts positions) p at) →
    IfNone gap (is_text_of p texts ≡ true) → is_some gap ≡ not b → b ≡ list_any (λ other. bytes_eq p other) texts
has_text positions texts p None true order some none e = sym (is_known p texts ∙ none)
has_text positions texts p None false order some none e = absurd cc
has_text positions texts p (Some at) true order some none e = absurd cc
has_text positions texts p (Some at) false order some none e = sym (is_known p texts ∙ gap_text positions texts p at order some)

-- a text that is above the last one has its gap at the end
pub gap_after : (positions : List ℕ) (texts : List (List ℕ)) (p q : List ℕ) (count : ℕ) → count ≡ length positions → 1 ≤ count → IsOrderOf positions texts →
    slice_get (texts_at texts positions) (count - 1) ≡ Some q → IsBelow q p → IsGap (texts_at texts positions) p count
gap_after positions texts p q count whole some order is low =
    let size : length (texts_at texts positions) ≡ length positions = length-map positions (text_at texts) in
    record {
      bound = omega arith;
      below = λ i r front here. below_more (texts_at texts positions) (count - 1) q p order.ascend is low i r (omega arith) here;
      above = λ i r following here. absurd (none-some r (sym (slice_get_past (texts_at texts positions) i (omega arith)) ∙ here));
    }

-- ---- one text more

all-insert : {A : Type 0} (P : A → Type 0) (xs : List A) (at : ℕ) (x : A) → P x → AllByRecursion P xs → AllByRecursion P (insert xs at x)
all-insert P [] zero x new all = (new, all)
all-insert P [] (suc at) x new all = (new, all)
all-insert P (y ∷ ys) zero x new all = (new, all)
all-insert P (y ∷ ys) (suc at) x new all = (all.0, all-insert P ys at x new all.1)

all_more : (texts more : List (List ℕ)) (positions : List ℕ) → AllByRecursion (λ i. i < length texts) positions → AllByRecursion (λ i. i < length (texts ++ more)) positions
all_more texts more [] all = tt
all_more texts more (p ∷ ps) all = (omega (arith, all.0, length-append texts more), all_more texts more ps all.1)

same_texts : (texts more : List (List ℕ)) (positions : List ℕ) → AllByRecursion (λ i. i < length texts) positions → texts_at (texts ++ more) positions ≡ texts_at texts positions
same_texts texts more [] all = refl
same_texts texts more (p ∷ ps) all = rw (get_or_append_left texts more [] p all.0, same_texts texts more ps all.1) refl

pub text-push : (texts : List (List ℕ)) (p q : List ℕ) → is_text_of q (texts ++ p ∷ []) ≡ (bytes_eq p q || is_text_of q texts)
text-push texts p q =
    list_any-append (λ t. bytes_eq t q) texts (p ∷ [])
    ∙ (ap (λ b. is_text_of q texts || b) (or-false (bytes_eq p q)) ∙ or_comm (is_text_of q texts) (bytes_eq p q))

pub order-push : (positions : List ℕ) (texts : List (List ℕ)) (p : List ℕ) (at n : ℕ) → n ≡ length texts → IsOrderOf positions texts → IsGap (texts_at texts positions) p at → IsOrderOf (insert positions at n) (texts ++ p ∷ [])
order-push positions texts p at n last order gap =
    let size : length (texts ++ p ∷ []) ≡ length texts + 1 = length-append texts (p ∷ []) in
    let here : text_at (texts ++ p ∷ []) n ≡ p = get_or_at texts p [] [] n (sym last) in
    let keys : texts_at (texts ++ p ∷ []) (insert positions at n) ≡ insert (texts_at texts positions) at p =
    map-insert (text_at (texts ++ p ∷ [])) positions at n ∙ rw (here, same_texts texts (p ∷ []) positions order.within) refl in
    record {
      within = all-insert (λ i. i < length (texts ++ p ∷ [])) positions at n (omega (arith, size)) (all_more texts (p ∷ []) positions order.within);
      ascend = rw keys (ascend-insert (texts_at texts positions) p at gap order.ascend);
      every = λ q. rw keys (text-insert (texts_at texts positions) p at q ∙ (ap (λ b. bytes_eq p q || b) (order.every q) ∙ sym (text-push texts p q)));
    }
