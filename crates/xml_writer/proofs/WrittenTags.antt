-- Numbers and tags as they are written.
use Rattle.std.proofs.Common.{◌≡◌, ℕ, ◌+◌, ◌<◌, ◌≤◌, ◌^◌, Bool, true, false, ◌||◌, eqb, List, [], ◌++◌, bytes_eq, codes, if◌then◌else◌, refl, sym, ap, ◌∙◌, arith, ⊎_elim, length, get_or, drop, cond, min, append_assoc, length-append, length-drop}
use Rattle.std.specs.Fmt.{decimal}
use Rattle.std.proofs.lemmas.Bool.{cases_Bool, eqb-true, false≢true}
use Rattle.std.proofs.lemmas.Fmt.{decimal_digit, decimal-digits_of}
use Rattle.std.proofs.lemmas.Bool.Decides.{nat_tests}
use Rattle.std.proofs.lemmas.Grind.{flat_map-append}
use Rattle.xml_names.specs.Scopes.{xml_namespace}
use Rattle.xml_trees.specs.Attributes.{Attribute}
use Rattle.xml_writer.specs.Canon.{has_prefix, spelled_name, streams_namespace, number_text, next_number, is_foreign, assignment, assignments, spelled_attribute, spelled_attributes}
use Rattle.xml_trees.proofs.AttributeOrder.{nothing_left}
use Rattle.xml_trees.proofs.RuleSteps.{drop_item}

pub decimal_is : (n : ℕ) → n < 2 ^ 64 → decimal n ≡ number_text n
unfolding number_text
decimal_is n small =
    ⊎_elim (λ (zero_is : eqb n 0 ≡ true). rw zero_is (ap decimal (eqb-true n 0 zero_is) ∙ decimal_digit 0 (omega arith)))
    (λ (other : eqb n 0 ≡ false). rw other (decimal-digits_of n (grind (arith, nat_tests, other)) small))
    (cases_Bool (eqb n 0))

-- ---- a name

pub name_alone : (ns name : List ℕ) → has_prefix ns ≡ false → spelled_name ns name ≡ name
unfolding spelled_name
name_alone ns name h = alone (bytes_eq ns streams_namespace) (bytes_eq ns xml_namespace) h
  where
    alone : (s x : Bool) → (s || x) ≡ false → (if s then codes "stream:" ++ name else (if x then codes "xml:" ++ name else name)) ≡ name
    alone true x e = absurd (false≢true (sym e))
    alone false true e = absurd (false≢true (sym e))
    alone false false e = refl

-- ---- a part is put, and then the rest

pub items_step : (old mid new part rest whole : List ℕ) → mid ++ (part ++ rest) ≡ old ++ whole → new ≡ mid ++ part → new ++ rest ≡ old ++ whole
items_step old mid new part rest whole was put = ap (λ l. l ++ rest) put ∙ append_assoc mid part rest ∙ was

pub spare_step : (old mid new : ℕ) (part rest whole : List ℕ) → old + length (part ++ rest) ≤ mid + length whole → mid ≤ new + length part → old + length rest ≤ new + length whole
spare_step old mid new part rest whole was put = omega (arith, was, put, length-append part rest)

pub room_step : (mid new : ℕ) (part rest : List ℕ) → length (part ++ rest) ≤ mid → mid ≤ new + length part → length rest ≤ new
room_step mid new part rest was put = omega (arith, was, put, length-append part rest)

pub room_here : (mid : ℕ) (part rest : List ℕ) → length (part ++ rest) ≤ mid → length part ≤ mid
room_here mid part rest was = omega (arith, was, length-append part rest)

pub seven_items : (o0 o1 o2 o3 o4 o5 o6 o7 a b c d e f g : List ℕ) → o1 ≡ o0 ++ a → o2 ≡ o1 ++ b → o3 ≡ o2 ++ c → o4 ≡ o3 ++ d → o5 ≡ o4 ++ e → o6 ≡ o5 ++ f → o7 ≡ o6 ++ g
    → o7 ≡ o0 ++ (a ++ (b ++ (c ++ (d ++ (e ++ (f ++ g))))))
seven_items o0 o1 o2 o3 o4 o5 o6 o7 a b c d e f g p1 p2 p3 p4 p5 p6 p7 = rw (p7, p6, p5, p4, p3, p2, p1) (simp append_assoc)

pub seventh_room : (s0 s1 s2 s3 s4 s5 s6 : ℕ) (a b c d e f g : List ℕ) → length (a ++ (b ++ (c ++ (d ++ (e ++ (f ++ g)))))) ≤ s0
    → s0 ≤ s1 + length a → s1 ≤ s2 + length b → s2 ≤ s3 + length c → s3 ≤ s4 + length d → s4 ≤ s5 + length e → s5 ≤ s6 + length f → length g ≤ s6
seventh_room s0 s1 s2 s3 s4 s5 s6 a b c d e f g h p1 p2 p3 p4 p5 p6 =
    room_step s5 s6 f g (room_step s4 s5 e (f ++ g) (room_step s3 s4 d (e ++ (f ++ g)) (room_step s2 s3 c (d ++ (e ++ (f ++ g))) (room_step s1 s2 b (c ++ (d ++ (e ++ (f ++ g)))) (room_step s0 s1 a (b ++ (c ++ (d ++ (e ++ (f ++ g))))) h p1) p2) p3) p4) p5) p6

-- ---- lengths that stop at the greatest

pub capped : (part rest : List ℕ) (x y r most : ℕ) → x ≡ min (length part) most → y ≡ min (length rest) most → r ≡ min (y + x) most → r ≡ min (length (part ++ rest)) most
capped part rest x y r most is_x is_y is_r = rw (is_r, is_x, is_y, length-append part rest) (arithmetic (length part) (length rest))
  where
    arithmetic : (a b : ℕ) → min (min b most + min a most) most ≡ min (a + b) most
    arithmetic a b = omega arith

pub len_step : (len x new whole most : ℕ) (part rest : List ℕ) → min (len + length (part ++ rest)) most ≡ whole → x ≡ min (length part) most → new ≡ min (len + x) most → min (new + length rest) most ≡ whole
len_step len x new whole most part rest was is_x is_new = rw (is_new, is_x, ← was, length-append part rest) (arithmetic len (length part) (length rest))
  where
    arithmetic : (a b c : ℕ) → min (min (a + min b most) most + c) most ≡ min (a + (b + c)) most
    arithmetic a b c = omega arith

pub len_whole : (len most : ℕ) → len ≤ most → len ≡ min (len + 0) most
len_whole len most h = omega arith

pub all_dropped : {A : Type 0} (xs : List A) (i : ℕ) → length xs ≤ i → drop i xs ≡ []
all_dropped xs i h = let n = length-drop i xs in nothing_left (drop i xs) (omega arith)

-- ---- attributes

pub attributes_more : (attrs : List Attribute) (i n next : ℕ) (a : Attribute) → i < length attrs → a ≡ get_or attrs i a → next ≡ next_number n a
    → assignments (spelled_attributes n (drop i attrs)) ≡ assignments (spelled_attribute n a) ++ assignments (spelled_attributes next (drop (i + 1) attrs))
attributes_more attrs i n next a within is next_is =
    ap (λ l. assignments (spelled_attributes n l)) (drop_item attrs i a within is)
    ∙ flat_map-append assignment (spelled_attribute n a) (spelled_attributes (next_number n a) (drop (i + 1) attrs))
    ∙ ap (λ m. assignments (spelled_attribute n a) ++ assignments (spelled_attributes m (drop (i + 1) attrs))) (sym next_is)

pub next_most : (n next : ℕ) (a : Attribute) → next ≡ next_number n a → next ≤ n + 1
unfolding next_number
next_most n next a is = rw is (either (is_foreign a))
  where
    either : (b : Bool) → cond b (n + 1) n ≤ n + 1
    either true = omega arith
    either false = omega arith
