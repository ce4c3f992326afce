-- The characters of RFC 3629 by their bytes.
use Rattle.std.proofs.Common.{◌≡◌, ℕ, ◌+◌, ◌-◌, ◌*◌, ◌/◌, ◌<◌, ◌≤◌, ◌⊎◌, true, List, [], ◌∷◌, ◌++◌, ◌∙◌, inl, inr, arith, lt-ltb, le-ltb, le-leb}
use Rattle.std.proofs.lemmas.Bool.{cases_lt, cases_eq}
use Rattle.std.specs.Str.{IsUtf8}
use Rattle.std.proofs.Math.Utf8.{scalar, encode, next, low_scalar}
use Rattle.auth_scram.specs.declared.values.Tails.{Tails}
use Rattle.auth_scram.specs.declared.values.Tails.TheVariants.{One, Two, Three, AfterE0, AfterED, AfterF0, AfterF4}

pub two : (c : ℕ) → 128 ≤ c → c < 2048 → encode c ≡ (192 + c / 64) ∷ next c ∷ []
unfolding encode
two c l h = rw (le-ltb c 128 l, lt-ltb c 2048 h)

pub three : (c : ℕ) → 2048 ≤ c → c < 65536 → encode c ≡ (224 + c / 4096) ∷ next (c / 64) ∷ next c ∷ []
unfolding encode
three c l h = rw (le-ltb c 128 (omega arith), le-ltb c 2048 l, lt-ltb c 65536 h)

pub four : (c : ℕ) → 65536 ≤ c → encode c ≡ (240 + c / 262144) ∷ next (c / 4096) ∷ next (c / 64) ∷ next c ∷ []
unfolding encode
four c l = rw (le-ltb c 128 (omega arith), le-ltb c 2048 (omega arith), le-ltb c 65536 l)

high_scalar : (c : ℕ) → 57344 ≤ c → c < 1114112 → scalar c ≡ true
high_scalar c l h = rw (le-ltb c 55296 (omega arith), le-leb 57344 c l, lt-ltb c 1114112 h)

cons : (c : ℕ) (front bs : List ℕ) → scalar c ≡ true → encode c ≡ front → IsUtf8 bs → IsUtf8 (front ++ bs)
cons c front bs ok e u = (c ∷ u.0, (rw ok u.1.0, λ i. e i ++ u.1.1 i))

-- a byte within bounds, and what follows it
abbrev pub Tail : ℕ → ℕ → (List ℕ → Type 0) → List ℕ → Type 0
Tail low high P x = (c : ℕ) × (cs : List ℕ) × (x ≡ c ∷ cs) × (low ≤ c) × (c ≤ high) × P cs

-- what may follow inside a character, and then a text
abbrev pub Rests : Tails → List ℕ → Type 0
Rests One = Tail 128 191 IsUtf8
Rests Two = Tail 128 191 (Tail 128 191 IsUtf8)
Rests Three = Tail 128 191 (Tail 128 191 (Tail 128 191 IsUtf8))
Rests AfterE0 = Tail 160 191 (Tail 128 191 IsUtf8)
Rests AfterED = Tail 128 159 (Tail 128 191 IsUtf8)
Rests AfterF0 = Tail 144 191 (Tail 128 191 (Tail 128 191 IsUtf8))
Rests AfterF4 = Tail 128 143 (Tail 128 191 (Tail 128 191 IsUtf8))

-- the first bytes of characters, by what follows them
abbrev pub Leads : ℕ → Tails → Type 0
Leads b One = (194 ≤ b) × (b ≤ 223)
Leads b Two = ((225 ≤ b) × (b ≤ 239)) × (b ≡ 237 → ⊥)
Leads b Three = (241 ≤ b) × (b ≤ 243)
Leads b AfterE0 = b ≡ 224
Leads b AfterED = b ≡ 237
Leads b AfterF0 = b ≡ 240
Leads b AfterF4 = b ≡ 244

cons_two : (x : ℕ) (bs : List ℕ) → (194 ≤ x) × (x ≤ 223) → Tail 128 191 IsUtf8 bs → IsUtf8 (x ∷ bs)
cons_two x bs h t =
    let y = t.0 in
    let c = (x - 192) * 64 + (y - 128) in
    let p : 192 + c / 64 ≡ x = omega arith in
    let q : next c ≡ y = omega arith in
    rw t.2 (cons c (x ∷ y ∷ []) t.1 (low_scalar c (omega arith)) (two c (omega arith) (omega arith) ∙ (λ k. p k ∷ q k ∷ [])) t.5)

three_bytes : (x y z : ℕ) → 224 ≤ x → (128 ≤ y) × (y ≤ 191) → (128 ≤ z) × (z ≤ 191)
    → let c = (x - 224) * 4096 + (y - 128) * 64 + (z - 128) in (224 + c / 4096 ≡ x) × (next (c / 64) ≡ y) × (next c ≡ z)
three_bytes x y z h f g = (omega arith, omega arith, omega arith)

four_bytes : (x y z w : ℕ) → 240 ≤ x → (128 ≤ y) × (y ≤ 191) → (128 ≤ z) × (z ≤ 191) → (128 ≤ w) × (w ≤ 191)
    → let c = (x - 240) * 262144 + (y - 128) * 4096 + (z - 128) * 64 + (w - 128) in (240 + c / 262144 ≡ x) × (next (c / 4096) ≡ y) × (next (c / 64) ≡ z) × (next c ≡ w)
four_bytes x y z w h f g j =
    let e : ((x - 240) * 262144 + (y - 128) * 4096 + (z - 128) * 64 + (w - 128)) / 64 ≡ (x - 240) * 4096 + (y - 128) * 64 + (z - 128) = omega arith in
    (omega arith, omega arith, rw e (omega arith), omega arith)

-- the second byte of a character of three
abbrev Second : ℕ → ℕ → Type 0
Second x y = (128 ≤ y) × (y ≤ 191) × (x ≡ 224 → 160 ≤ y) × (x ≡ 237 → y ≤ 159)

cons_three : (x y z : ℕ) (bs : List ℕ) → (224 ≤ x) × (x ≤ 239) → Second x y → (128 ≤ z) × (z ≤ 191) → IsUtf8 bs → IsUtf8 (x ∷ y ∷ z ∷ bs)
cons_three x y z bs h f g u =
    let c = (x - 224) * 4096 + (y - 128) * 64 + (z - 128) in
    let bytes = three_bytes x y z h.0 (f.0, f.1) g in
    let p = bytes.0 in
    let q = bytes.1 in
    let r = bytes.2 in
    let low : 2048 ≤ c = elim (cases_eq x 224) [ inl e ↦ (let low' = f.2 e in omega arith) | inr n ↦ omega arith ] in
    let apart : (c < 55296) ⊎ (57344 ≤ c) =
    elim (cases_eq x 237) [
      | inl e ↦ (let high' = f.3 e in inl (omega arith))
      | inr n ↦ elim (cases_lt x 237) [ inl a ↦ inl (omega arith) | inr a ↦ inr (omega arith) ]
    ] in
    let ok : scalar c ≡ true = elim apart [ inl a ↦ low_scalar c a | inr a ↦ high_scalar c a (omega arith) ] in
    cons c (x ∷ y ∷ z ∷ []) bs ok (three c low (omega arith) ∙ (λ k. p k ∷ q k ∷ r k ∷ [])) u

cons_four : (x y z w : ℕ) (bs : List ℕ) → (240 ≤ x) × (x ≤ 244) → (128 ≤ y) × (y ≤ 191) → (x ≡ 240 → 144 ≤ y) → (x ≡ 244 → y ≤ 143) → (128 ≤ z) × (z ≤ 191)
    → (128 ≤ w) × (w ≤ 191) → IsUtf8 bs → IsUtf8 (x ∷ y ∷ z ∷ w ∷ bs)
cons_four x y z w bs h f f0 f4 g j u =
    let c = (x - 240) * 262144 + (y - 128) * 4096 + (z - 128) * 64 + (w - 128) in
    let bytes = four_bytes x y z w h.0 f g j in
    let p = bytes.0 in
    let q = bytes.1 in
    let r = bytes.2 in
    let t = bytes.3 in
    let low : 65536 ≤ c = elim (cases_eq x 240) [ inl e ↦ (let low' = f0 e in omega arith) | inr n ↦ omega arith ] in
    let high : c < 1114112 = elim (cases_eq x 244) [ inl e ↦ (let high' = f4 e in omega arith) | inr n ↦ omega arith ] in
    cons c (x ∷ y ∷ z ∷ w ∷ []) bs (high_scalar c (omega arith) high) (four c low ∙ (λ k. p k ∷ q k ∷ r k ∷ t k ∷ [])) u

threes : (x low high : ℕ) (bs : List ℕ) → (224 ≤ x) × (x ≤ 239) → ((y : ℕ) → low ≤ y → y ≤ high → Second x y) → Tail low high (Tail 128 191 IsUtf8) bs → IsUtf8 (x ∷ bs)
threes x low high bs h f t =
    let s = t.5 in
    rw (t.2, s.2) (cons_three x t.0 s.0 s.1 h (f t.0 t.3 t.4) (s.3, s.4) s.5)

fours : (x low high : ℕ) (bs : List ℕ) → (240 ≤ x) × (x ≤ 244) → 128 ≤ low → high ≤ 191 → (x ≡ 240 → 144 ≤ low) → (x ≡ 244 → high ≤ 143)
    → Tail low high (Tail 128 191 (Tail 128 191 IsUtf8)) bs → IsUtf8 (x ∷ bs)
fours x low high bs h l g f0 f4 t =
    let s = t.5 in
    let r = s.5 in
    let y = t.0 in
    rw (t.2, s.2, r.2)
    (cons_four x y s.0 r.0 r.1 h (omega arith, omega arith) (λ e. let m = f0 e in omega arith) (λ e. let m = f4 e in omega arith) (s.3, s.4) (r.3, r.4) r.5)

-- a first byte and what follows it are a text
pub lead_text : (b : ℕ) (tails : Tails) (bs : List ℕ) → Leads b tails → Rests tails bs → IsUtf8 (b ∷ bs)
lead_text b One bs h t = cons_two b bs h t
lead_text b Two bs h t =
    let low = h.0.0 in
    let not_ed = h.1 in
    threes b 128 191 bs (omega arith, h.0.1) (λ y l u. (l, u, λ e. absurd (omega arith), λ e. absurd (not_ed e))) t
lead_text b Three bs h t = fours b 128 191 bs (omega arith, omega arith) (omega arith) (omega arith) (λ e. absurd (omega arith)) (λ e. absurd (omega arith)) t
lead_text b AfterE0 bs h t = threes b 160 191 bs (omega arith, omega arith) (λ y l u. (omega arith, u, λ e. l, λ e. absurd (omega arith))) t
lead_text b AfterED bs h t = threes b 128 159 bs (omega arith, omega arith) (λ y l u. (l, omega arith, λ e. absurd (omega arith), λ e. u)) t
lead_text b AfterF0 bs h t = fours b 144 191 bs (omega arith, omega arith) (omega arith) (omega arith) (λ e. omega arith) (λ e. absurd (omega arith)) t
lead_text b AfterF4 bs h t = fours b 128 143 bs (omega arith, omega arith) (omega arith) (omega arith) (λ e. absurd (omega arith)) (λ e. omega arith) t
