-- What a rest gives: nothing, and no fault.
use Rattle.std.proofs.Common.{◌≡◌, ℕ, zero, suc, ◌+◌, ◌<◌, ◌≤◌, ⊎_elim, inl, inr, Bool, true, false, List, [], ◌∷◌, ◌++◌, None, length, take, drop, refl, sym, ap, subst, ◌∙◌, arith, append_assoc, length-append, ◌-◌, leb}
use Rattle.std.proofs.Math.Seq.{take-append-add, take-append_seam}
use Rattle.std.proofs.lemmas.Bool.{cases_Bool}
use Rattle.std.proofs.lemmas.Bool.Decides.{nat_tests}
use Rattle.std.proofs.lemmas.List.{take-append-drop, take-append-le}
use Rattle.xml_framer.proofs.ItemsBefore.{run_grows}
use Rattle.xml_framer.proofs.Pieces.{run_append}
use Rattle.xml_framer.specs.Machine.{run}
use Rattle.xml_framer.specs.States.{State, Turn, turn}
use Rattle.xml_framer.specs.declared.items.Item.{Item}
use Rattle.law_xml.specs.Items.{GivesOne, IsFront, IsRest}
use Rattle.law_xml.proofs.RunPositions.{no_fault_before}
use Rattle.law_xml.proofs.ElementStates.{front_none}

pub as_rest : (lost : Bool) (s : State) (bytes : List ℕ) → IsRest lost s bytes → IsRest true s bytes
as_rest false s bytes r = inl r
as_rest true s bytes r = r

-- the first bytes of an item are a front of it
pub front_of : (s : State) (bytes more : List ℕ) (i : Item) (following : State) → GivesOne s (bytes ++ more) i following → 0 < length more → IsFront s bytes
front_of s bytes more i following g some = record { more = more; given = i; following = following; gives = g; some_more = some }

longer : (a b : List ℕ) → 0 < length b → 0 < length (a ++ b)
longer a b some = omega (arith, length-append a b, some)

shorter : (a b : List ℕ) → 0 < length b → length a < length (a ++ b)
shorter a b some = omega (arith, length-append a b, some)

front_of_front : (s : State) (bytes : List ℕ) (n : ℕ) → IsFront s bytes → IsFront s (take n bytes)
front_of_front s bytes n f =
    let same : bytes ++ f.more ≡ take n bytes ++ (drop n bytes ++ f.more) = ap (λ l. l ++ f.more) (sym (take-append-drop n bytes)) ∙ append_assoc (take n bytes) (drop n bytes) f.more in
    front_of s (take n bytes) (drop n bytes ++ f.more) f.given f.following (subst (λ l. GivesOne s l f.given f.following) same f.gives) (longer (drop n bytes) f.more f.some_more)

none_of_none : (n : ℕ) → take {A = ℕ} n [] ≡ []
none_of_none zero = refl
none_of_none (suc n) = refl

pub rest_of_rest : (s : State) (bytes : List ℕ) (n : ℕ) → IsRest true s bytes → IsRest true s (take n bytes)
rest_of_rest s bytes n r =
    ⊎_elim (λ (none : bytes ≡ []). inl (ap (take n) none ∙ none_of_none n)) (λ (f : IsFront s bytes). inr (front_of_front s bytes n f)) r

front_gives_none : (s : State) (bytes : List ℕ) → IsFront s bytes → (run (turn s []) bytes).items ≡ []
front_gives_none s bytes f =
    ap (λ l. (run (turn s []) l).items) (sym (take-append_seam bytes f.more)) ∙ f.gives.none_before (length bytes) (shorter bytes f.more f.some_more)

front_no_fault : (s : State) (bytes : List ℕ) → IsFront s bytes → (run (turn s []) bytes).state.fault ≡ None
front_no_fault s bytes f =
    no_fault_before (run (turn s []) bytes) f.more (ap (λ (t : Turn). t.state.fault) (sym (run_append (turn s []) bytes f.more) ∙ f.gives.run_is) ∙ f.gives.no_fault)

pub rest_gives_none : (s : State) (bytes : List ℕ) → IsRest true s bytes → (run (turn s []) bytes).items ≡ []
rest_gives_none s bytes r =
    ⊎_elim (λ (none : bytes ≡ []). ap (λ l. (run (turn s []) l).items) none) (λ (f : IsFront s bytes). front_gives_none s bytes f) r

pub rest_no_fault : (s : State) (bytes : List ℕ) → s.fault ≡ None → IsRest true s bytes → (run (turn s []) bytes).state.fault ≡ None
rest_no_fault s bytes none_there r =
    ⊎_elim (λ (none : bytes ≡ []). ap (λ l. (run (turn s []) l).state.fault) none ∙ none_there) (λ (f : IsFront s bytes). front_no_fault s bytes f) r

-- ---- an item by its last byte

last_or_before : (n a : ℕ) → n < a + 1 → n ≤ a
last_or_before n a less = omega (arith, less)

fewer_give_none : (s : State) (bytes : List ℕ) (n : ℕ) → (run (turn s []) bytes).items ≡ [] → (run (turn s []) (take n bytes)).items ≡ []
fewer_give_none s bytes n none =
    let grows = run_grows (run (turn s []) (take n bytes)) (drop n bytes) in
    let whole : run (run (turn s []) (take n bytes)) (drop n bytes) ≡ run (turn s []) bytes = sym (run_append (turn s []) (take n bytes) (drop n bytes)) ∙ ap (run (turn s [])) (take-append-drop n bytes) in
    front_none (run (turn s []) (take n bytes)).items grows.0 (sym grows.1 ∙ ap (λ (t : Turn). t.items) whole ∙ none)

-- where nothing was given before the last byte, nothing was before an earlier one
pub by_last_byte : (s : State) (front : List ℕ) (last : ℕ) (i : Item) (following : State) → run (turn s []) (front ++ last ∷ []) ≡ turn following (i ∷ []) → (run (turn s []) front).items ≡ [] → following.fault ≡ None
    → GivesOne s (front ++ last ∷ []) i following
by_last_byte s front last i following runs none no_fault =
    record {
      run_is = runs;
      none_before = λ n less.
          let le : n ≤ length front = last_or_before n (length front) (subst (λ m. n < m) (length-append front (last ∷ [])) less) in
          ap (λ l. (run (turn s []) l).items) (take-append-le n front (last ∷ []) le) ∙ fewer_give_none s front n none;
      no_fault = no_fault;
    }

-- ---- bytes that give nothing before an item

after_front : (s t : State) (front bytes : List ℕ) → run (turn s []) front ≡ turn t [] → run (turn s []) (front ++ bytes) ≡ run (turn t []) bytes
after_front s t front bytes e = run_append (turn s []) front bytes ∙ ap (λ u. run u bytes) e

none_given_before : (s t u : State) (front bytes : List ℕ) (i : Item) → run (turn s []) front ≡ turn t [] → GivesOne t bytes i u → (n : ℕ) → n < length (front ++ bytes)
    → (run (turn s []) (take n (front ++ bytes))).items ≡ []
none_given_before s t u front bytes i e g n less =
    ⊎_elim
    (λ (within : leb n (length front) ≡ true).
    let le : n ≤ length front = grind (arith, nat_tests) in
    ap (λ l. (run (turn s []) l).items) (take-append-le n front bytes le) ∙ fewer_give_none s front n (ap (λ (v : Turn). v.items) e))
    (λ (past : leb n (length front) ≡ false).
    let k = n - length front in
    let sum : n ≡ length front + (n - length front) = grind (arith, nat_tests) in
    let fewer : n - length front < length bytes = omega (arith, length-append front bytes, sum, less) in
    let taken : take n (front ++ bytes) ≡ front ++ take k bytes = ap (λ m. take m (front ++ bytes)) sum ∙ take-append-add front bytes k in
    ap (λ l. (run (turn s []) l).items) taken ∙ ap (λ (v : Turn). v.items) (after_front s t front (take k bytes) e) ∙ g.none_before k fewer)
    (cases_Bool (leb n (length front)))

pub with_declaration : (s t u : State) (front bytes : List ℕ) (i : Item) → run (turn s []) front ≡ turn t [] → GivesOne t bytes i u → GivesOne s (front ++ bytes) i u
with_declaration s t u front bytes i e g =
    record { run_is = after_front s t front bytes e ∙ g.run_is; none_before = none_given_before s t u front bytes i e g; no_fault = g.no_fault }
