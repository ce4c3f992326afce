-- Whether a name is a prefix, a colon and a local part, tested part by part.
use Rattle.std.proofs.Common.{◌≡◌, ℕ, Bool, true, false, List, [], ◌∷◌, ◌++◌, length, take, drop, refl, sym, ap, ◌∙◌, ⊎_elim}
use Rattle.std.proofs.Math.Seq.{take-append_seam}
use Rattle.std.proofs.lemmas.Bool.{cases_Bool, eq-eqb, false≢true}
use Rattle.std.proofs.lemmas.List.{take-append-drop}
use Rattle.std.proofs.lemmas.Slice.Eq.{bytes_eq-Decides}
use Rattle.std.specs.Str.{bytes_eq}

same_front : (front xs ys : List ℕ) → bytes_eq (front ++ xs) (front ++ ys) ≡ bytes_eq xs ys
same_front [] xs ys = refl
same_front (b ∷ front) xs ys = rw (eq-eqb b b refl) (same_front front xs ys)

module _ (prefix local name front back : List ℕ) (is_front : front ≡ take (length prefix) name) (is_back : back ≡ drop (length prefix) name) where
  pub joined_by_parts : (b : Bool) → b ≡ bytes_eq back (58 ∷ local) → true ≡ bytes_eq front prefix → b ≡ bytes_eq name (prefix ++ (58 ∷ local))
  joined_by_parts b following same =
      let is_prefix : front ≡ prefix = (bytes_eq-Decides front prefix).0 (sym same) in
      let whole : name ≡ prefix ++ back = sym (take-append-drop (length prefix) name) ∙ ap (λ f. f ++ drop (length prefix) name) (sym is_front ∙ is_prefix) ∙ ap (λ d. prefix ++ d) (sym is_back) in
      following ∙ sym (ap (λ n. bytes_eq n (prefix ++ (58 ∷ local))) whole ∙ same_front prefix back (58 ∷ local))

  pub not_joined : false ≡ bytes_eq front prefix → false ≡ bytes_eq name (prefix ++ (58 ∷ local))
  not_joined other =
      ⊎_elim
      (λ (is : bytes_eq name (prefix ++ (58 ∷ local)) ≡ true).
      let whole : name ≡ prefix ++ (58 ∷ local) = (bytes_eq-Decides name (prefix ++ (58 ∷ local))).0 is in
      let is_prefix : front ≡ prefix = is_front ∙ ap (take (length prefix)) whole ∙ take-append_seam prefix (58 ∷ local) in
      absurd (false≢true (other ∙ (bytes_eq-Decides front prefix).1 is_prefix)))
      (λ (other : bytes_eq name (prefix ++ (58 ∷ local)) ≡ false). sym other)
      (cases_Bool (bytes_eq name (prefix ++ (58 ∷ local))))
