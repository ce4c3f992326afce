-- Items are taken one by one, and it may stop at any.
use Rattle.std.proofs.Common.{◌≡◌, ℕ, zero, suc, ◌+◌, ◌<◌, ◌≤◌, List, [], ◌∷◌, ◌++◌, length, take, drop, refl, ap, sym, ◌∙◌, arith, add-one}
use Rattle.xml_framer.specs.declared.items.Item.{Item}
use Rattle.xml_framer.specs.Machine.{IsFrontOf}
use Rattle.cl_handlers.specs.Clients as clients
use Rattle.cl_core.specs.Feeds as feeds
use Rattle.cl_handlers.specs.Speech.{in_bytes}
use Rattle.cl_core.specs.Steps as steps
use Rattle.cl_handlers.specs.ClientSteps.{left}

abbrev ClientStep : Type 0
ClientStep = clients.ClientStep (List ℕ) ℕ

abbrev items_run : ClientStep → List Item → ClientStep
items_run = steps.items_run in_bytes

abbrev item_step : ClientStep → Item → ClientStep
item_step = steps.item_step in_bytes

abbrev IsAlong : ClientStep → List Item → ClientStep → List Item → Type 0
IsAlong = feeds.IsAlong in_bytes

abbrev IsStopped : ClientStep → List Item → ClientStep → Type 0
IsStopped = feeds.IsStopped in_bytes

run_push : (t : ClientStep) (xs : List Item) (x : Item) → items_run t (xs ++ x ∷ []) ≡ item_step (items_run t xs) x
run_push t [] x = refl
run_push t (y ∷ ys) x = run_push (item_step t y) ys x

take_front : (n : ℕ) (xs : List Item) (x : Item) (more : List Item) → drop n xs ≡ x ∷ more → take (suc n) xs ≡ take n xs ++ x ∷ []
take_front zero [] x more e = absurd cc
take_front zero (y ∷ ys) x more e = cc
take_front (suc n) [] x more e = absurd cc
take_front (suc n) (y ∷ ys) x more e = ap (λ (l : List Item). y ∷ l) (take_front n ys x more e)

drop_front : (n : ℕ) (xs : List Item) (x : Item) (more : List Item) → drop n xs ≡ x ∷ more → drop (suc n) xs ≡ more
drop_front zero [] x more e = absurd cc
drop_front zero (y ∷ ys) x more e = cc
drop_front (suc n) [] x more e = absurd cc
drop_front (suc n) (y ∷ ys) x more e = drop_front n ys x more e

below_front : (n : ℕ) (xs : List Item) (x : Item) (more : List Item) → drop n xs ≡ x ∷ more → n < length xs
below_front zero [] x more e = absurd cc
below_front zero (y ∷ ys) x more e = omega arith
below_front (suc n) [] x more e = absurd cc
below_front (suc n) (y ∷ ys) x more e = let h : n < length ys = below_front n ys x more e in omega arith

take_all : (n : ℕ) (xs : List Item) → drop n xs ≡ [] → take n xs ≡ xs
take_all zero [] e = refl
take_all zero (y ∷ ys) e = absurd cc
take_all (suc n) [] e = refl
take_all (suc n) (y ∷ ys) e = ap (λ (l : List Item). y ∷ l) (take_all n ys e)

-- no item was taken yet
pub along_begin : (t : ClientStep) (items : List Item) → IsAlong t items t items
along_begin t items = record { done = 0; within = omega arith; now_is = refl; rest_is = refl }

-- one more item was taken
pub along_step : (old : ClientStep) (items : List Item) (now next : ClientStep) (item : Item) (rest more : List Item) → IsAlong old items now rest → rest ≡ item ∷ more → next ≡ item_step now item → IsAlong old items next more
along_step old items now next item rest more h e f =
    let front : drop h.done items ≡ item ∷ more = sym h.rest_is ∙ e in
    let below : h.done < length items = below_front h.done items item more front in
    record {
      done = suc h.done;
      within = omega arith;
      now_is = f ∙ ap (λ t. item_step t item) h.now_is ∙ sym (ap (items_run old) (take_front h.done items item more front) ∙ run_push old (take h.done items) item);
      rest_is = sym (drop_front h.done items item more front);
    }

-- all items were taken
pub along_end : (old : ClientStep) (items : List Item) (now : ClientStep) (rest : List Item) → IsAlong old items now rest → rest ≡ [] → now ≡ items_run old items
along_end old items now rest h e = h.now_is ∙ ap (items_run old) (take_all h.done items (sym h.rest_is ∙ e))

-- the next item has no effect
pub along_stop : (old : ClientStep) (items : List Item) (now next : ClientStep) (rest : List Item) → IsAlong old items now rest → next ≡ left now → IsStopped old items next
along_stop old items now next rest h e = record { done = h.done; within = h.within; turn = e ∙ ap left h.now_is }

take_whole : (xs more : List Item) → take (length xs) (xs ++ more) ≡ xs
take_whole [] more = refl
take_whole (y ∷ ys) more = ap (λ (l : List Item). y ∷ l) (take_whole ys more)

within_whole : (xs more : List Item) → length xs ≤ length (xs ++ more)
within_whole [] more = omega arith
within_whole (y ∷ ys) more = let h : length ys ≤ length (ys ++ more) = within_whole ys more in omega arith

-- all that came had its effect, which may be less than what was due
pub stopped_after : (old : ClientStep) (front all : List Item) (now next : ClientStep) → IsFrontOf front all → now ≡ items_run old front → next ≡ left now → IsStopped old all next
stopped_after old front all now next h e f =
    rw h.1 (record {
      done = length front;
      within = within_whole front h.0;
      turn = f ∙ ap left (e ∙ ap (items_run old) (sym (take_whole front h.0)));
    })

-- all that was due had its effect
pub stopped_at_end : (old : ClientStep) (all : List Item) (now next : ClientStep) → now ≡ items_run old all → next ≡ left now → IsStopped old all next
stopped_at_end old all now next e f = stopped_after old all all now next ([], sym (append_nil_items all)) e f
  where
    append_nil_items : (xs : List Item) → xs ++ [] ≡ xs
    append_nil_items [] = refl
    append_nil_items (y ∷ ys) = ap (λ (l : List Item). y ∷ l) (append_nil_items ys)

take_shorter : (n : ℕ) (xs more : List Item) → n ≤ length xs → take n (xs ++ more) ≡ take n xs
take_shorter zero xs more h = refl
take_shorter (suc n) [] more h = absurd (omega arith)
take_shorter (suc n) (y ∷ ys) more h = let k : n ≤ length ys = omega arith in ap (λ (l : List Item). y ∷ l) (take_shorter n ys more k)

-- what stopped among the first items stopped among all
pub stopped_among : (old : ClientStep) (front all : List Item) (next : ClientStep) → IsFrontOf front all → IsStopped old front next → IsStopped old all next
stopped_among old front all next h s =
    rw h.1 (record {
      done = s.done;
      within = let k : length front ≤ length (front ++ h.0) = within_whole front h.0 in let m : s.done ≤ length front = s.within in omega arith;
      turn = s.turn ∙ ap (λ l. left (items_run old l)) (sym (take_shorter s.done front h.0 s.within));
    })
