-- Texts that begin with a prefix, or are cut at a byte, and slices.
use Rattle.std.proofs.Common.{◌≡◌, ◌≢◌, ℕ, suc, ◌<◌, ◌==◌, Bool, true, false, List, [], ◌∷◌, ◌++◌, length, get_or, take, drop, refl, sym, ap, ◌∙◌, append_assoc, decimal, inl, inr, arith}
use Rattle.std.proofs.lemmas.Bool.{cases_Bool, ne_eqb}
use Rattle.std.proofs.Math.Seq.{take-length}
use Rattle.std.proofs.lemmas.List.{append_cancel_left, length-drop}
use Rattle.std.proofs.lemmas.Slice.Eq.{bytes_eq-Decides}
use Rattle.std.specs.List.{slice_range}
use Rattle.std.specs.Prelude.{◌↔◌, IsTrue}
use Rattle.std.specs.Str.{bytes_eq}
use Rattle.sm_outbox.specs.Submissions.{origin_of}
use Rattle.cl_intents.specs.States.{resource_of}

pub after_prefix : (text prefix rest other : List ℕ) → text ≡ prefix ++ rest → text ≡ prefix ++ other → rest ≡ other
after_prefix text prefix rest other cut is = append_cancel_left prefix rest other (sym cut ∙ is)

pub differ : (a b : List ℕ) → (a ≡ b → ⊥) → bytes_eq a b ≡ false
differ a b apart = elim (cases_Bool (bytes_eq a b)) [
  | inl same ↦ absurd (apart ((bytes_eq-Decides a b).0 same))
  | inr other ↦ other
]

pub range_end : {A : Type 0} (a : ℕ) (xs : List A) → slice_range xs a (length xs) ≡ drop a xs
range_end a xs = ap (λ n. take n (drop a xs)) (sym (length-drop a xs)) ∙ take-length (drop a xs)

-- no byte of these is c
abbrev pub Lacks : ℕ → List ℕ → Type 0
Lacks c bytes = (i : ℕ) → i < length bytes → get_or bytes i 0 ≢ c

lacks_rest : (c b : ℕ) (bytes : List ℕ) → Lacks c (b ∷ bytes) → Lacks c bytes
lacks_rest c b bytes lacks i low = lacks (suc i) (omega arith)

differs : (c b : ℕ) (bytes : List ℕ) → Lacks c (b ∷ bytes) → (b == c) ≡ false
differs c b bytes lacks = ne_eqb b c (lacks 0 (omega arith))

pub resource_after : (front rest : List ℕ) → Lacks 47 front → resource_of (front ++ 47 ∷ rest) ≡ rest
resource_after [] rest lacks = refl
resource_after (b ∷ front) rest lacks = rw (differs 47 b front lacks) (resource_after front rest (lacks_rest 47 b front lacks))

pub no_resource : (bytes : List ℕ) → Lacks 47 bytes → resource_of bytes ≡ []
no_resource [] lacks = refl
no_resource (b ∷ bytes) lacks = rw (differs 47 b bytes lacks) (no_resource bytes (lacks_rest 47 b bytes lacks))

-- ---- ids of submissions

module _ (resource : List ℕ) (epoch n : ℕ) (id dotted : List ℕ) (cut : id ≡ resource ++ dotted) where
  pub dotted_is : origin_of resource epoch n ≡ id → dotted ≡ 46 ∷ (decimal epoch ++ 46 ∷ decimal n)
  dotted_is is = after_prefix id resource dotted (46 ∷ (decimal epoch ++ 46 ∷ decimal n)) cut (sym is ∙ append_assoc resource (46 ∷ decimal epoch) (46 ∷ decimal n))

  pub origin_is : dotted ≡ 46 ∷ (decimal epoch ++ 46 ∷ decimal n) → origin_of resource epoch n ≡ id
  origin_is is = append_assoc resource (46 ∷ decimal epoch) (46 ∷ decimal n) ∙ sym (ap (λ l. resource ++ l) is) ∙ sym cut

pub no_origin : (resource : List ℕ) (epoch n : ℕ) (id : List ℕ) → ((rest : List ℕ) → id ≢ resource ++ rest) → false ≡ bytes_eq (origin_of resource epoch n) id
no_origin resource epoch n id apart =
    sym (differ (origin_of resource epoch n) id (λ is. apart (46 ∷ (decimal epoch ++ 46 ∷ decimal n)) (sym is ∙ append_assoc resource (46 ∷ decimal epoch) (46 ∷ decimal n))))

pub no_dot : (resource : List ℕ) (epoch n : ℕ) (id dotted : List ℕ) → id ≡ resource ++ dotted → ((rest : List ℕ) → dotted ≢ 46 ∷ rest) → false ≡ bytes_eq (origin_of resource epoch n) id
no_dot resource epoch n id dotted cut apart =
    sym (differ (origin_of resource epoch n) id (λ is. apart (decimal epoch ++ 46 ∷ decimal n) (dotted_is resource epoch n id dotted cut is)))

-- two tests of which each follows from the other
same_test : (a b : Bool) → (a ≡ true → b ≡ true) → (b ≡ true → a ≡ true) → a ≡ b
same_test true b forth back = sym (forth refl)
same_test false true forth back = back refl
same_test false false forth back = refl

pub by_numbers : (resource : List ℕ) (epoch n : ℕ) (id dotted numbers : List ℕ) (result : Bool) → id ≡ resource ++ dotted → dotted ≡ 46 ∷ numbers → (IsTrue result ↔ (numbers ≡ decimal epoch ++ 46 ∷ decimal n))
    → result ≡ bytes_eq (origin_of resource epoch n) id
by_numbers resource epoch n id dotted numbers result cut dot are =
    let whole = origin_of resource epoch n in
    same_test result (bytes_eq whole id)
    (λ holds. (bytes_eq-Decides whole id).1 (origin_is resource epoch n id dotted cut (dot ∙ ap (λ l. 46 ∷ l) (are.0 holds))))
    (λ same.
    let is : 46 ∷ numbers ≡ 46 ∷ (decimal epoch ++ 46 ∷ decimal n) = sym dot ∙ dotted_is resource epoch n id dotted cut ((bytes_eq-Decides whole id).0 same) in
    are.1 (after_dot is))
  where
    after_dot : 46 ∷ numbers ≡ 46 ∷ (decimal epoch ++ 46 ∷ decimal n) → numbers ≡ decimal epoch ++ 46 ∷ decimal n
    after_dot is = cc

pub numbers_test : (text digits dotted rest others : List ℕ) (epoch n : ℕ) (result : Bool) → text ≡ digits ++ dotted → digits ≡ decimal epoch → dotted ≡ 46 ∷ rest → others ≡ decimal n → result ≡ bytes_eq rest others
    → (result ≡ true → text ≡ decimal epoch ++ 46 ∷ decimal n) × (text ≡ decimal epoch ++ 46 ∷ decimal n → result ≡ true)
numbers_test text digits dotted rest others epoch n result cut first dot second test = (
  λ holds.
      let same : rest ≡ others = (bytes_eq-Decides rest others).0 (sym test ∙ holds) in
      cut ∙ ap (λ l. digits ++ l) (dot ∙ ap (λ l. 46 ∷ l) (same ∙ second)) ∙ ap (λ d. d ++ 46 ∷ decimal n) first,
  λ is.
      let after : dotted ≡ 46 ∷ decimal n = after_prefix text digits dotted (46 ∷ decimal n) cut (is ∙ sym (ap (λ d. d ++ 46 ∷ decimal n) first)) in
      test ∙ (bytes_eq-Decides rest others).1 (after_dot (sym dot ∙ after) ∙ sym second),
)
  where
    after_dot : 46 ∷ rest ≡ 46 ∷ decimal n → rest ≡ decimal n
    after_dot is = cc
