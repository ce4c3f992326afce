-- Runs over pieces, and behind a fault.
use Rattle.std.proofs.Common.{◌≡◌, ℕ, ◌+◌, ◌-◌, ◌≤◌, List, [], ◌∷◌, ◌++◌, Some, take, drop, length, length-drop, refl, sym, ap, subst, ◌∙◌, arith}
use Rattle.std.proofs.lemmas.List.{drop-drop, take-append-drop, take_rest}
use Rattle.xml_framer.proofs.ItemsBefore.{run_grows}
use Rattle.xml_framer.specs.Machine.{IsFrontOf, TakesFront, run, step}
use Rattle.xml_framer.specs.States.{Turn}
use Rattle.xml_framer.specs.declared.fault.Fault.{Fault}
use Rattle.xml_framer.specs.declared.items.Item.{Item}

pub run_append : (t : Turn) (a b : List ℕ) → run t (a ++ b) ≡ run (run t a) b
run_append t [] b = refl
run_append t (x ∷ xs) b = run_append (step t x) xs b

-- what is left after the first n bytes
run_rest : (t : Turn) (bs : List ℕ) (n : ℕ) → run (run t (take n bs)) (drop n bs) ≡ run t bs
run_rest t bs n = sym (run_append t (take n bs) (drop n bs)) ∙ ap (run t) (take-append-drop n bs)

pub left_after : (t u v : Turn) (piece : List ℕ) (d n : ℕ) → u ≡ run t (take n (drop d piece)) → run t (drop d piece) ≡ run v piece → run u (drop (d + n) piece) ≡ run v piece
left_after t u v piece d n done left =
    let apart : drop (d + n) piece ≡ drop n (drop d piece) = sym (drop-drop n d piece) in
    rw (done, apart) (run_rest t (drop d piece) n ∙ left)

pub at_rest : (t u : Turn) (piece : List ℕ) (d n : ℕ) → TakesFront t u (take (length piece - d) (drop d piece)) n → TakesFront t u (drop d piece) n
at_rest t u piece d n h = subst (λ r. TakesFront t u r n) (take_rest piece d) h

pub bound_after : (t u : Turn) (piece : List ℕ) (d n : ℕ) → d ≤ length piece → TakesFront t u (drop d piece) n → d + n ≤ length piece
bound_after t u piece d n le h = let bound = h.bound in omega (arith, length-drop d piece)

pub front_taken : (t u : Turn) (bs : List ℕ) (n : ℕ) → TakesFront t u bs n → IsFrontOf t.items u.items
front_taken t u bs n h = subst (λ v. IsFrontOf t.items v.items) (sym h.done) (run_grows t (take n bs))

pub due_after : (t u : Turn) (items : List Item) (bs whole : List ℕ) → items ≡ t.items → run t bs ≡ run u whole → IsFrontOf items (run u whole).items
due_after t u items bs whole same left = subst (λ v. IsFrontOf items v.items) left (rw same (run_grows t bs))

-- behind a fault nothing changes
pub stays : (t : Turn) (bs : List ℕ) (f : Fault) → t.state.fault ≡ Some f → run t bs ≡ t
stays t [] f h = refl
stays t (b ∷ bs) f h = let same : step t b ≡ t = rw h refl in rw same (stays t bs f h)
