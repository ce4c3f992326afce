-- A full ring of slots takes a number in place of its oldest.
use Rattle.std.proofs.Common.{◌≡◌, ℕ, zero, suc, ◌+◌, ◌-◌, ◌%◌, ◌<◌, ◌≤◌, List, [], ◌∷◌, ◌++◌, length, get_or, take, drop, set, sym, ap, ◌∙◌, arith, inl, inr, append_assoc, append-nil, add-one}
use Rattle.std.proofs.Math.Nat.{mod-eq_of_lt, mod_self}
use Rattle.std.proofs.Math.Seq.{drop-cons, take-set-lt, take-suc-set}
use Rattle.std.proofs.Math.ListN.{drop_of_length-le}
use Rattle.std.proofs.lemmas.Bool.{cases_lt}
use Rattle.std.proofs.lemmas.List.{drop-set-lt, length-append, length-drop, length-take-le}
use Rattle.mam_archive.specs.Entries.{newest}

module _ (slots : List ℕ) (m a x : ℕ) (below : a < m) (fits : m ≤ length slots) where
  -- what both sides are
  abbrev rendered : List ℕ
  rendered = drop (a + 1) (take m slots) ++ (take a slots ++ x ∷ [])

  stored : take (a + 1) (set slots a x) ≡ take a slots ++ x ∷ []
  stored = ap (λ n. take n (set slots a x)) (add-one a) ∙ take-suc-set slots a x (omega arith)

  after_store : drop ((a + 1) % m) (take m (set slots a x)) ++ take ((a + 1) % m) (set slots a x) ≡ rendered
  after_store =
      elim (cases_lt (a + 1) m) [
        | inl inside ↦
            let position : (a + 1) % m ≡ a + 1 = mod-eq_of_lt inside in
            let kept : drop (a + 1) (take m (set slots a x)) ≡ drop (a + 1) (take m slots) =
            ap (drop (a + 1)) (take-set-lt m slots a x below) ∙ drop-set-lt (a + 1) (take m slots) a x (omega arith) in
            rw (position, kept, stored)
        | inr last ↦
            let end : m ≡ a + 1 = omega arith in
            let position : (a + 1) % m ≡ zero = rw end (mod_self (a + 1)) in
            let none : drop (a + 1) (take m slots) ≡ [] =
            drop_of_length-le (take m slots) (omega (arith, length-take-le m slots fits)) in
            let whole : take m (set slots a x) ≡ take a slots ++ x ∷ [] = ap (λ n. take n (set slots a x)) end ∙ stored in
            rw (position, none, whole) (append-nil (take a slots ++ x ∷ []))
      ]

  size : length ((drop a (take m slots) ++ take a slots) ++ x ∷ []) ≡ m + 1
  size =
      let s = length-append (drop a (take m slots) ++ take a slots) (x ∷ []) in
      let t = length-append (drop a (take m slots)) (take a slots) in
      omega (arith, s, t, length-drop a (take m slots), length-take-le m slots fits, length-take-le a slots (omega arith))

  last_ones : newest m ((drop a (take m slots) ++ take a slots) ++ x ∷ []) ≡ rendered
  last_ones =
      let rest : length ((drop a (take m slots) ++ take a slots) ++ x ∷ []) - m ≡ suc zero = omega (arith, size) in
      let oldest : drop a (take m slots) ≡ get_or (take m slots) a 0 ∷ drop (suc a) (take m slots) =
      drop-cons (take m slots) a 0 (omega (arith, length-take-le m slots fits)) in
      let next : drop (suc a) (take m slots) ≡ drop (a + 1) (take m slots) = ap (λ n. drop n (take m slots)) (sym (add-one a)) in
      rw rest (rw (oldest, next) (append_assoc (drop (a + 1) (take m slots)) (take a slots) (x ∷ [])))

  pub ring_step : drop ((a + 1) % m) (take m (set slots a x)) ++ take ((a + 1) % m) (set slots a x)
      ≡ newest m ((drop a (take m slots) ++ take a slots) ++ x ∷ [])
  ring_step = after_store ∙ sym last_ones
