-- Where the first bytes of items end: behind some first items, with nothing or a front of the next in hand.
use Rattle.std.proofs.Common.{◌≡◌, ℕ, ◌+◌, ◌-◌, ◌<◌, leb, ⊎_elim, inr, Bool, true, false, List, [], ◌∷◌, ◌++◌, None, length, take, drop, refl, sym, ap, subst, ◌∙◌, arith, append_assoc, length-drop}
use Rattle.std.proofs.Math.Seq.{drop-append-add, take-append-add}
use Rattle.std.proofs.lemmas.Bool.{cases_Bool}
use Rattle.std.proofs.lemmas.Bool.Decides.{nat_tests}
use Rattle.std.proofs.lemmas.List.{take-append-drop, take-append-le}
use Rattle.xml_framer.proofs.ItemsBefore.{given_before}
use Rattle.xml_framer.proofs.Pieces.{run_append}
use Rattle.xml_framer.specs.Machine.{run}
use Rattle.xml_framer.specs.States.{State, Turn, turn}
use Rattle.xml_framer.specs.declared.items.Item.{Item}
use Rattle.law_xml.specs.Items.{AreItems, GivesOne, IsRest, no_more, one_more}
use Rattle.law_xml.proofs.RestRuns.{as_rest, front_of, rest_of_rest}

pub record Split (lost : Bool) (s : State) (bytes : List ℕ) (items : List Item) (t : State) (n : ℕ) : Type 0 where
  pub first : List Item
  pub others : List Item
  pub now : State
  pub done : List ℕ
  pub hand : List ℕ
  pub items_are : items ≡ first ++ others
  pub bytes_are : take n bytes ≡ done ++ hand
  pub run_is : run (turn s []) done ≡ turn now first
  pub hand_is : IsRest true now hand
  pub left : AreItems lost now (hand ++ drop n bytes) others t
  pub stay : AreItems true s (take n bytes) first now
  pub no_fault : now.fault ≡ None

-- The first bytes end before the first item does, or in the rest.
before_all : (lost : Bool) (s : State) (bytes : List ℕ) (items : List Item) (t : State) (n : ℕ) → s.fault ≡ None → IsRest true s (take n bytes) → AreItems lost s bytes items t → Split lost s bytes items t n
before_all lost s bytes items t n none hand all =
    record {
      first = [];
      others = items;
      now = s;
      done = [];
      hand = take n bytes;
      items_are = refl;
      bytes_are = refl;
      run_is = refl;
      hand_is = hand;
      left = subst (λ l. AreItems lost s l items t) (sym (take-append-drop n bytes)) all;
      stay = no_more true s (take n bytes) [] s hand refl refl;
      no_fault = none;
    }

-- the run of an item, and then of what is behind it
run_after : (s next now : State) (first done : List ℕ) (i : Item) (items : List Item) → run (turn s []) first ≡ turn next (i ∷ []) → run (turn next []) done ≡ turn now items
    → run (turn s []) (first ++ done) ≡ turn now (i ∷ items)
run_after s next now first done i items one rest =
    run_append (turn s []) first done ∙ ap (λ u. run u done) one ∙ given_before next (i ∷ []) done ∙ ap (λ (u : Turn). turn u.state ((i ∷ []) ++ u.items)) rest

after_one : (lost : Bool) (s : State) (first rest : List ℕ) (i : Item) (more : List Item) (next t : State) (k : ℕ) → GivesOne s first i next → Split lost next rest more t k
    → Split lost s (first ++ rest) (i ∷ more) t (length first + k)
after_one lost s first rest i more next t k g h =
    let front : take (length first + k) (first ++ rest) ≡ first ++ take k rest = take-append-add first rest k in
    let back : drop (length first + k) (first ++ rest) ≡ drop k rest = drop-append-add first rest k in
    record {
      first = i ∷ h.first;
      others = h.others;
      now = h.now;
      done = first ++ h.done;
      hand = h.hand;
      items_are = ap (λ l. i ∷ l) h.items_are;
      bytes_are = front ∙ ap (λ l. first ++ l) h.bytes_are ∙ sym (append_assoc first h.done h.hand);
      run_is = run_after s next h.now first h.done i h.first g.run_is h.run_is;
      hand_is = h.hand_is;
      left = subst (λ l. AreItems lost h.now (h.hand ++ l) h.others t) (sym back) h.left;
      stay = one_more true s (take (length first + k) (first ++ rest)) (i ∷ h.first) h.now first (take k rest) i h.first next g h.stay front refl;
      no_fault = h.no_fault;
    }

-- what is left of an item behind some of its first bytes
in_first : (s next : State) (first rest : List ℕ) (i : Item) (n : ℕ) → GivesOne s first i next → n < length first → IsRest true s (take n (first ++ rest))
in_first s next first rest i n g less =
    let same : take n (first ++ rest) ≡ take n first = take-append-le n first rest (omega (arith, less)) in
    subst (IsRest true s) (sym same)
    (inr (front_of s (take n first) (drop n first) i next (subst (λ l. GivesOne s l i next) (sym (take-append-drop n first)) g) (omega (arith, less, length-drop n first))))

pub split : (lost : Bool) (s : State) (bytes : List ℕ) (items : List Item) (t : State) (n : ℕ) → s.fault ≡ None → AreItems lost s bytes items t → Split lost s bytes items t n
split lost s bytes items t n none (no_more _ _ _ _ _ r no_items same) =
    before_all lost s bytes items t n none (rest_of_rest s bytes n (as_rest lost s bytes r)) (no_more lost s bytes items t r no_items same)
split lost s bytes items t n none (one_more _ _ _ _ _ first rest i more next g after bytes_are items_are) =
    ⊎_elim
    (λ (whole : leb (length first) n ≡ true).
    let sum : length first + (n - length first) ≡ n = grind (arith, nat_tests) in
    let h = after_one lost s first rest i more next t (n - length first) g (split lost next rest more t (n - length first) g.no_fault after) in
    subst (Split lost s bytes items t) sum (subst (λ l. Split lost s bytes l t (length first + (n - length first))) (sym items_are)
    (subst (λ l. Split lost s l (i ∷ more) t (length first + (n - length first))) (sym bytes_are) h)))
    (λ (cut : leb (length first) n ≡ false).
    let less : n < length first = grind (arith, nat_tests) in
    before_all lost s bytes items t n none (subst (λ l. IsRest true s (take n l)) (sym bytes_are) (in_first s next first rest i n g less))
    (one_more lost s bytes items t first rest i more next g after bytes_are items_are))
    (cases_Bool (leb (length first) n))
