-- Names as they are spelled, byte by byte.
use Rattle.std.proofs.Common.{◌≡◌, ℕ, suc, ◌+◌, ◌-◌, ◌<◌, cond, eqb, List, [], ◌∷◌, ◌++◌, length, drop, get_or, refl, arith, append_assoc, eq-eqb, ne_eqb}
use Rattle.std.proofs.lemmas.List.{drop_more}
use Rattle.auth_scram.specs.Values.{unescaped}

-- the name so far, and what the rest gives, one byte further
module _ (front after xs total : List ℕ) (left i : ℕ) (lt : i < length xs) (so_far : front ++ unescaped left (drop i xs) ≡ total) where
  -- an escape begins
  pub begins : (next : ℕ) → get_or xs i 0 ≡ 61 → left ≡ 0 → next ≡ 2 → after ≡ front → after ++ unescaped next (drop (i + 1) xs) ≡ total
  begins next e l n a =
      let old = rw (drop_more xs i 0 lt, l, eq-eqb (get_or xs i 0) 61 e) at so_far in
      rw (n, a) old

  -- a byte that stands for itself
  pub plain : (next : ℕ) → (get_or xs i 0 ≡ 61 → ⊥) → left ≡ 0 → next ≡ 0 → after ≡ front ++ get_or xs i 0 ∷ [] → after ++ unescaped next (drop (i + 1) xs) ≡ total
  plain next e l n a =
      let old = rw (drop_more xs i 0 lt, l, ne_eqb (get_or xs i 0) 61 e) at so_far in
      rw (n, a, append_assoc) old

  -- the last byte of an escape
  pub ended : (next v : ℕ) → left ≡ 1 → next ≡ 0 → v ≡ cond (eqb (get_or xs i 0) 67) 44 61 → after ≡ front ++ v ∷ [] → after ++ unescaped next (drop (i + 1) xs) ≡ total
  ended next v l n is_v a =
      let old = rw (drop_more xs i 0 lt, l) at so_far in
      rw (n, a, is_v, append_assoc) old

  -- inside an escape
  pub inside : (next : ℕ) → (left ≡ 0 → ⊥) → (left ≡ 1 → ⊥) → next ≡ 1 → after ≡ front → after ++ unescaped next (drop (i + 1) xs) ≡ total
  inside next l0 l1 n a =
      let more : left ≡ suc (suc (left - 2)) = omega arith in
      let old = rw (drop_more xs i 0 lt, more) at so_far in
      rw (n, a) old

-- which character an escape stands for
abbrev pub third : ℕ → ℕ
third b = cond (eqb b 67) 44 61

pub comma : (b : ℕ) → b ≡ 67 → third b ≡ 44
comma b e = rw (eq-eqb b 67 e) refl

pub equals : (b : ℕ) → (b ≡ 67 → ⊥) → third b ≡ 61
equals b n = rw (ne_eqb b 67 n) refl
