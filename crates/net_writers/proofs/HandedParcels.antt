-- Parcels that are handed over, one after another.
use Rattle.std.proofs.Common.{◌≡◌, ◌⊎◌, ⊎_elim, inr, ℕ, ◌+◌, ◌≤◌, List, [], ◌∷◌, ◌++◌, length, append-nil, append_assoc, ap, arith, refl, subst, sym, ◌∙◌}
use Rattle.base_io.specs.Listed.{Listed}
use Rattle.net_writers.specs.Parcels.{IsOf, joined}
use Rattle.net_writers.specs.declared.parcels.Parcels.{Parcels}

-- some were handed over, and with those that are left that makes all
abbrev pub IsHanded : (List ℕ → ℕ → Type 0) → List ℕ → ℕ → List (Listed ℕ) → Type 0
IsHanded P bytes count rest = (b : List ℕ) × (n : ℕ) × (b ++ joined rest ≡ bytes) × (n + length rest ≡ count) × P b n

pub none_handed : (P : List ℕ → ℕ → Type 0) (bytes : List ℕ) (count : ℕ) (all given : List (Listed ℕ)) → all ≡ given → P bytes count → IsHanded P (bytes ++ joined given) (count + length given) all
none_handed P bytes count all given is p = (bytes, count, ap (λ l. bytes ++ joined l) is, ap (λ l. count + length l) is, p)

pub next_handed : (P Q : List ℕ → ℕ → Type 0) (bytes : List ℕ) (count : ℕ) (left rest : List (Listed ℕ)) (x : Listed ℕ) → left ≡ x ∷ rest → ((b : List ℕ) (n : ℕ) → P b n → Q (b ++ x.items) (n + 1))
    → IsHanded P bytes count left → IsHanded Q bytes count rest
next_handed P Q bytes count left rest x is step h =
    let many : h.1 + length (x ∷ rest) ≡ count = ap (λ l. h.1 + length l) (sym is) ∙ h.3 in
    (h.0 ++ x.items, h.1 + 1, append_assoc h.0 x.items (joined rest) ∙ ap (λ l. h.0 ++ joined l) (sym is) ∙ h.2, omega (arith, many), step h.0 h.1 h.4)

pub all_handed : (P : List ℕ → ℕ → Type 0) (bytes : List ℕ) (count : ℕ) (left : List (Listed ℕ)) → length left ≡ 0 → IsHanded P bytes count left → P bytes count
all_handed P bytes count [] none h =
    let many : h.1 ≡ count = let e = h.3 in omega (arith, e) in
    let same : h.0 ≡ bytes = sym (append-nil h.0) ∙ h.2 in
    subst (λ (n : ℕ). P bytes n) many (subst (λ (b : List ℕ). P b h.1) same h.4)
all_handed P bytes count (x ∷ left) none h = absurd (omega (arith, none))

-- those of an event: these and the last
pub with_last : (P Q : List ℕ → ℕ → Type 0) (bytes more : List ℕ) (count n : ℕ) (parcels : Parcels) → IsOf more n parcels → ((b : List ℕ) (m k : ℕ) → m ≤ k → Q b m → Q b k)
    → ((b : List ℕ) (m : ℕ) → P b m → Q (b ++ parcels.last.items) (m + 1)) → 1 ≤ length parcels.last.items
    → P (bytes ++ joined parcels.whole.items) (count + length parcels.whole.items) → Q (bytes ++ more) (count + n)
with_last P Q bytes more count n parcels are weaker step some p =
    let whole = parcels.whole.items in let last = parcels.last.items in
    let many : length whole + 1 ≤ n = ⊎_elim (λ (e : last ≡ []). absurd (let none = ap length e in omega (arith, some, none))) (λ (e : length whole + 1 ≤ n). e) are.all in
    weaker (bytes ++ more) (count + length whole + 1) (count + n) (omega (arith, many))
    (subst (λ (b : List ℕ). Q b (count + length whole + 1)) (append_assoc bytes (joined whole) last ∙ ap (λ l. bytes ++ l) (sym are.bytes_are)) (step (bytes ++ joined whole) (count + length whole) p))

-- and none
pub without_last : (P : List ℕ → ℕ → Type 0) (bytes more : List ℕ) (count n : ℕ) (parcels : Parcels) → IsOf more n parcels → ((b : List ℕ) (m k : ℕ) → m ≤ k → P b m → P b k) → parcels.last.items ≡ []
    → P (bytes ++ joined parcels.whole.items) (count + length parcels.whole.items) → P (bytes ++ more) (count + n)
without_last P bytes more count n parcels are weaker none p =
    let whole = parcels.whole.items in let many = are.whole in
    weaker (bytes ++ more) (count + length whole) (count + n) (omega (arith, many))
    (subst (λ (b : List ℕ). P b (count + length whole)) (ap (λ l. bytes ++ l) (sym (are.bytes_are ∙ ap (λ l. joined whole ++ l) none ∙ append-nil (joined whole)))) p)

-- any parcels are of some outputs
pub of_some : (parcels : Parcels) → IsOf (joined parcels.whole.items ++ parcels.last.items) (length parcels.whole.items + 1) parcels
of_some parcels = record { bytes_are = refl; whole = omega arith; all = inr (omega arith) }
