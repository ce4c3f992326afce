-- Texts read byte by byte are UTF-8, and UTF-8 is read so.
use Rattle.std.proofs.Common.{◌≡◌, ℕ, ◌+◌, ◌/◌, ◌<◌, ◌≤◌, ◌==◌, nat_le, Bool, true, false, cond, eqb, ◌||◌, List, [], ◌∷◌, ◌++◌, Option, Some, None, ◌∙◌, refl, sym, ap, subst, inl, inr, arith, le-leb, ne_eqb}
use Rattle.std.proofs.lemmas.Bool.{cases_lt, cases_eq, cases_Bool, and_parts, eqb-true, leb-true}
use Rattle.std.proofs.lemmas.Str.{encode_ascii, IsUtf8-nil, IsUtf8-append, IsUtf8-encode}
use Rattle.std.specs.List.{list_all}
use Rattle.std.specs.Option.{option_map}
use Rattle.std.specs.Str.{IsUtf8}
use Rattle.std.proofs.Math.Utf8.{scalar, scalars, encode, encodes, next, low_scalar, scalar_cases}
use Rattle.auth_scram.specs.Classes.{is_within}
use Rattle.auth_scram.specs.States.{tails_of, tails_step, where_so}
use Rattle.auth_scram.specs.declared.values.Tails.{Tails}
use Rattle.auth_scram.specs.declared.values.Tails.TheVariants.{One, Two, Three, AfterE0, AfterED, AfterF0, AfterF4}
use Rattle.auth_scram.proofs.Runs.{after_first, after_step, following}
use Rattle.auth_scram.proofs.PassedTests.{if_some, map_some, not_eq, within, within_high, within_yes}
use Rattle.base_lemmas.proofs.Conditions.{chosen}
use Rattle.auth_scram.proofs.Utf8.{Leads, Rests, Tail, four, lead_text, three, two}

-- inside a character or between two, where these bytes are characters
abbrev pub char_on : (ℕ → Bool) → Option Tails → ℕ → Option (Option Tails)
char_on plain None b = cond (plain b) (Some None) (option_map (λ tails. Some tails) (tails_of b))
char_on plain (Some tails) b = tails_step tails b

-- between two
abbrev pub char_end : Option Tails → Bool
char_end None = true
char_end (Some tails) = false

some_tails : (t u : Tails) → Some t ≡ Some u → t ≡ u
some_tails t u h = cc h

-- what the first byte of a character shows
pub leads : (b : ℕ) (tails : Tails) → tails_of b ≡ Some tails → Leads b tails
leads b tails h =
    elim (chosen (is_within 0xC2 0xDF b) (Some One) _ (Some tails) h) [
      | inl p ↦ subst (Leads b) (some_tails One tails p.1) (within 0xC2 0xDF b p.0)
      | inr q ↦ elim (chosen (b == 0xE0) (Some AfterE0) _ (Some tails) q.1) [
        | inl p ↦ subst (Leads b) (some_tails AfterE0 tails p.1) (eqb-true b 0xE0 p.0)
        | inr q ↦ elim (chosen (b == 0xED) (Some AfterED) _ (Some tails) q.1) [
          | inl p ↦ subst (Leads b) (some_tails AfterED tails p.1) (eqb-true b 0xED p.0)
          | inr r ↦ elim (chosen (is_within 0xE1 0xEF b) (Some Two) _ (Some tails) r.1) [
            | inl p ↦ subst (Leads b) (some_tails Two tails p.1) (within 0xE1 0xEF b p.0, not_eq b 0xED r.0)
            | inr q ↦ elim (chosen (b == 0xF0) (Some AfterF0) _ (Some tails) q.1) [
              | inl p ↦ subst (Leads b) (some_tails AfterF0 tails p.1) (eqb-true b 0xF0 p.0)
              | inr q ↦ elim (chosen (is_within 0xF1 0xF3 b) (Some Three) _ (Some tails) q.1) [
                | inl p ↦ subst (Leads b) (some_tails Three tails p.1) (within 0xF1 0xF3 b p.0)
                | inr q ↦
                    let so = if_some (b == 0xF4) AfterF4 tails q.1 in
                    subst (Leads b) (sym so.1) (eqb-true b 0xF4 so.0)
              ]
            ]
          ]
        ]
      ]
    ]

-- what a text has behind a state
abbrev pub Rest : Option Tails → List ℕ → Type 0
Rest None bytes = IsUtf8 bytes
Rest (Some tails) bytes = Rests tails bytes

tail_case : (low high b : ℕ) (next u : Option Tails) (bytes : List ℕ) → where_so (is_within low high b) next ≡ Some u → Rest u bytes → Tail low high (Rest next) (b ∷ bytes)
tail_case low high b next u bytes h rest =
    let so = if_some (is_within low high b) next u h in
    let w = within low high b so.0 in
    (b, bytes, refl, w.0, w.1, rw so.1 at rest)

-- inside a character, and behind it
tail_found : (tails : Tails) (b : ℕ) (u : Option Tails) (bytes : List ℕ) → tails_step tails b ≡ Some u → Rest u bytes → Rests tails (b ∷ bytes)
tail_found One b u bytes h rest = tail_case 0x80 0xBF b None u bytes h rest
tail_found Two b u bytes h rest = tail_case 0x80 0xBF b (Some One) u bytes h rest
tail_found Three b u bytes h rest = tail_case 0x80 0xBF b (Some Two) u bytes h rest
tail_found AfterE0 b u bytes h rest = tail_case 0xA0 0xBF b (Some One) u bytes h rest
tail_found AfterED b u bytes h rest = tail_case 0x80 0x9F b (Some One) u bytes h rest
tail_found AfterF0 b u bytes h rest = tail_case 0x90 0xBF b (Some Two) u bytes h rest
tail_found AfterF4 b u bytes h rest = tail_case 0x80 0x8F b (Some Two) u bytes h rest

pub one_more : (b : ℕ) (bytes : List ℕ) → b < 128 → IsUtf8 bytes → IsUtf8 (b ∷ bytes)
one_more b bytes lt text = IsUtf8-append (b ∷ []) bytes (subst IsUtf8 (encode_ascii b lt) (IsUtf8-encode b (low_scalar b (omega arith)))) text

-- ---- the first bytes of characters are told apart

apart : (b n : ℕ) → (b ≡ n → ⊥) → eqb b n ≡ false
apart b n h = ne_eqb b n h

of_lead : (b : ℕ) (tails : Tails) → Leads b tails → tails_of b ≡ Some tails
of_lead b One l = rw (within_yes 0xC2 0xDF b l.0 l.1) refl
of_lead b Two l =
    let low = l.0.0 in
    rw (within_high 0xC2 0xDF b (omega arith), apart b 0xE0 (omega arith), apart b 0xED l.1, within_yes 0xE1 0xEF b l.0.0 l.0.1) refl
of_lead b Three l =
    rw (
      within_high 0xC2 0xDF b (omega arith),
      apart b 0xE0 (omega arith),
      apart b 0xED (omega arith),
      within_high 0xE1 0xEF b (omega arith),
      apart b 0xF0 (omega arith),
      within_yes 0xF1 0xF3 b l.0 l.1,
    ) refl
of_lead b AfterE0 l = rw l refl
of_lead b AfterED l = rw l refl
of_lead b AfterF0 l = rw l refl
of_lead b AfterF4 l = rw l refl

-- the bytes of a character of two bytes or more
abbrev Continues : ℕ → Type 0
Continues y = (128 ≤ y) × (y ≤ 191)

so_some : {S : Type 0} (low high b : ℕ) (s : S) → low ≤ b → b ≤ high → where_so (is_within low high b) s ≡ Some s
so_some low high b s l h = rw (within_yes low high b l h) refl

module _ (plain : ℕ → Bool) (ascii : (b : ℕ) → plain b ≡ true → b < 128) where
  abbrev goes : Option Tails → List ℕ → Option (Option Tails)
  goes = following (char_on plain) char_end

  -- what is read between characters or inside one is text
  pub utf8_found : (s : Option Tails) (bytes : List ℕ) → goes s bytes ≡ Some None → Rest s bytes
  utf8_found None [] h = IsUtf8-nil
  utf8_found (Some tails) [] h = cc h
  utf8_found None (b ∷ bytes) h =
      let first = after_first (char_on plain) char_end None None b bytes h in
      elim (chosen (plain b) (Some None) (option_map (λ tails. Some tails) (tails_of b)) (Some first.0) first.1) [
        | inl p ↦
            let between : first.0 ≡ None = cc p.1 in
            one_more b bytes (ascii b p.0) (utf8_found None bytes (rw between at first.2))
        | inr q ↦
            let inside = map_some (λ tails. Some tails) (tails_of b) first.0 q.1 in
            lead_text b inside.0 bytes (leads b inside.0 inside.1) (utf8_found (Some inside.0) bytes (rw inside.2 at first.2))
      ]
  utf8_found (Some tails) (b ∷ bytes) h =
      let first = after_first (char_on plain) char_end (Some tails) None b bytes h in
      tail_found tails b first.0 bytes first.1 (utf8_found first.0 bytes first.2)

  not_plain : (b : ℕ) → 128 ≤ b → plain b ≡ false
  not_plain b l = elim (cases_Bool (plain b)) [ inl e ↦ (let lt = ascii b e in absurd (omega arith)) | inr e ↦ e ]

  lead_step : (b : ℕ) (tails : Tails) (bytes : List ℕ) → 128 ≤ b → Leads b tails → goes None (b ∷ bytes) ≡ goes (Some tails) bytes
  lead_step b tails bytes l lead =
      let on : char_on plain None b ≡ Some (Some tails) = rw (not_plain b l, of_lead b tails lead) refl in
      after_step (char_on plain) char_end None (Some tails) b bytes on

  tail_step : (tails : Tails) (next : Option Tails) (b : ℕ) (bytes : List ℕ) → tails_step tails b ≡ Some next → goes (Some tails) (b ∷ bytes) ≡ goes next bytes
  tail_step tails next b bytes h = after_step (char_on plain) char_end (Some tails) next b bytes h

  one_left : (y : ℕ) (bytes : List ℕ) → Continues y → goes (Some One) (y ∷ bytes) ≡ goes None bytes
  one_left y bytes h = tail_step One None y bytes (so_some 0x80 0xBF y None h.0 h.1)

  two_left : (y z : ℕ) (bytes : List ℕ) → Continues y → Continues z → goes (Some Two) (y ∷ z ∷ bytes) ≡ goes None bytes
  two_left y z bytes h g = tail_step Two (Some One) y (z ∷ bytes) (so_some 0x80 0xBF y (Some One) h.0 h.1) ∙ one_left z bytes g

  two_bytes : (x y : ℕ) (bytes : List ℕ) → (194 ≤ x) × (x ≤ 223) → Continues y → goes None (x ∷ y ∷ bytes) ≡ goes None bytes
  two_bytes x y bytes h f = lead_step x One (y ∷ bytes) (omega arith) h ∙ one_left y bytes f

  three_bytes : (x y z : ℕ) (bytes : List ℕ) → (224 ≤ x) × (x ≤ 239) → Continues y → (x ≡ 224 → 160 ≤ y) → (x ≡ 237 → y ≤ 159) → Continues z
      → goes None (x ∷ y ∷ z ∷ bytes) ≡ goes None bytes
  three_bytes x y z bytes h f f0 fd g =
      elim (cases_eq x 224) [
        | inl e ↦
            lead_step x AfterE0 (y ∷ z ∷ bytes) (omega arith) e
            ∙ tail_step AfterE0 (Some One) y (z ∷ bytes) (so_some 0xA0 0xBF y (Some One) (f0 e) f.1) ∙ one_left z bytes g
        | inr n ↦ elim (cases_eq x 237) [
          | inl e ↦
              lead_step x AfterED (y ∷ z ∷ bytes) (omega arith) e
              ∙ tail_step AfterED (Some One) y (z ∷ bytes) (so_some 0x80 0x9F y (Some One) f.0 (fd e)) ∙ one_left z bytes g
          | inr m ↦ lead_step x Two (y ∷ z ∷ bytes) (omega arith) ((omega arith, h.1), m) ∙ two_left y z bytes f g
        ]
      ]

  four_bytes : (x y z w : ℕ) (bytes : List ℕ) → (240 ≤ x) × (x ≤ 244) → Continues y → (x ≡ 240 → 144 ≤ y) → (x ≡ 244 → y ≤ 143) → Continues z → Continues w
      → goes None (x ∷ y ∷ z ∷ w ∷ bytes) ≡ goes None bytes
  four_bytes x y z w bytes h f f0 f4 g j =
      elim (cases_eq x 240) [
        | inl e ↦
            lead_step x AfterF0 (y ∷ z ∷ w ∷ bytes) (omega arith) e
            ∙ tail_step AfterF0 (Some Two) y (z ∷ w ∷ bytes) (so_some 0x90 0xBF y (Some Two) (f0 e) f.1) ∙ two_left z w bytes g j
        | inr n ↦ elim (cases_eq x 244) [
          | inl e ↦
              lead_step x AfterF4 (y ∷ z ∷ w ∷ bytes) (omega arith) e
              ∙ tail_step AfterF4 (Some Two) y (z ∷ w ∷ bytes) (so_some 0x80 0x8F y (Some Two) f.0 (f4 e)) ∙ two_left z w bytes g j
          | inr m ↦
              lead_step x Three (y ∷ z ∷ w ∷ bytes) (omega arith) (omega arith, omega arith)
              ∙ tail_step Three (Some Two) y (z ∷ w ∷ bytes) (so_some 0x80 0xBF y (Some Two) f.0 f.1) ∙ two_left z w bytes g j
        ]
      ]

  -- a byte that may stand in such a text: a plain one, or one of a longer character
  abbrev allowed : ℕ → Bool
  allowed b = plain b || nat_le 128 b

  plain_byte : (b : ℕ) → b < 128 → allowed b ≡ true → plain b ≡ true
  plain_byte b lt h = elim (cases_Bool (plain b)) [ inl e ↦ e | inr e ↦ (let high : nat_le 128 b ≡ true = rw e at h in let big = leb-true 128 b high in absurd (omega arith)) ]

  plain_step : (b : ℕ) (bytes : List ℕ) → plain b ≡ true → goes None (b ∷ bytes) ≡ goes None bytes
  plain_step b bytes h =
      let on : char_on plain None b ≡ Some None = rw h refl in
      after_step (char_on plain) char_end None None b bytes on

  rest_of : (b : ℕ) (bytes : List ℕ) → list_all allowed (b ∷ bytes) ≡ true → list_all allowed bytes ≡ true
  rest_of b bytes h = (and_parts (allowed b) (list_all allowed bytes) h).1

  characters : (cs : List ℕ) → scalars cs ≡ true → list_all allowed (encodes cs) ≡ true → goes None (encodes cs) ≡ Some None
  characters [] ok bounded = refl
  characters (c ∷ cs) ok bounded =
      let parts = and_parts (scalar c) (scalars cs) ok in
      let range = scalar_cases c parts.0 in
      let rest = encodes cs in
      elim (cases_lt c 128) [
        | inl a ↦
            let as_bytes : encode c ++ rest ≡ c ∷ rest = ap (λ (x : List ℕ). x ++ rest) (encode_ascii c a) in
            let bounded' = rw as_bytes at bounded in
            let own = and_parts (allowed c) (list_all allowed rest) bounded' in
            ap (goes None) as_bytes ∙ plain_step c rest (plain_byte c a own.0) ∙ characters cs parts.1 own.1
        | inr a ↦ elim (cases_lt c 2048) [
          | inl b ↦
              let x = 192 + c / 64 in
              let y = next c in
              let as_bytes : encode c ++ rest ≡ x ∷ y ∷ rest = ap (λ (x : List ℕ). x ++ rest) (two c a b) in
              let bounded' = rw as_bytes at bounded in
              ap (goes None) as_bytes ∙ two_bytes x y rest (omega arith, omega arith) (omega arith, omega arith)
              ∙ characters cs parts.1 (rest_of y rest (rest_of x (y ∷ rest) bounded'))
          | inr b ↦ elim (cases_lt c 65536) [
            | inl d ↦
                let x = 224 + c / 4096 in
                let y = next (c / 64) in
                let z = next c in
                let as_bytes : encode c ++ rest ≡ x ∷ y ∷ z ∷ rest = ap (λ (x : List ℕ). x ++ rest) (three c b d) in
                let bounded' = rw as_bytes at bounded in
                ap (goes None) as_bytes
                ∙ three_bytes x y z rest (omega arith, omega arith) (omega arith, omega arith) (λ e. omega arith) (λ e. omega arith) (omega arith, omega arith)
                ∙ characters cs parts.1 (rest_of z rest (rest_of y (z ∷ rest) (rest_of x (y ∷ z ∷ rest) bounded')))
            | inr d ↦
                let x = 240 + c / 262144 in
                let y = next (c / 4096) in
                let z = next (c / 64) in
                let w = next c in
                let as_bytes : encode c ++ rest ≡ x ∷ y ∷ z ∷ w ∷ rest = ap (λ (x : List ℕ). x ++ rest) (four c d) in
                let bounded' = rw as_bytes at bounded in
                ap (goes None) as_bytes
                ∙ four_bytes x y z w rest (omega arith, omega arith) (omega arith, omega arith) (λ e. omega arith) (λ e. omega arith) (omega arith, omega arith) (omega arith, omega arith)
                ∙ characters cs parts.1 (rest_of w rest (rest_of z (w ∷ rest) (rest_of y (z ∷ w ∷ rest) (rest_of x (y ∷ z ∷ w ∷ rest) bounded'))))
          ]
        ]
      ]

  -- text with such bytes is read
  pub utf8_only : (bytes : List ℕ) → IsUtf8 bytes → list_all allowed bytes ≡ true → goes None bytes ≡ Some None
  utf8_only bytes text bounded =
      let is : encodes text.0 ≡ bytes = text.1.1 in
      ap (goes None) (sym is) ∙ characters text.0 text.1.0 (rw (sym is) at bounded)

-- a byte inside a character is none of ASCII
pub tails_high : (tails : Tails) (b : ℕ) (u : Option Tails) → tails_step tails b ≡ Some u → 128 ≤ b
tails_high One b u h = (within 0x80 0xBF b (if_some (is_within 0x80 0xBF b) None u h).0).0
tails_high Two b u h = (within 0x80 0xBF b (if_some (is_within 0x80 0xBF b) (Some One) u h).0).0
tails_high Three b u h = (within 0x80 0xBF b (if_some (is_within 0x80 0xBF b) (Some Two) u h).0).0
tails_high AfterE0 b u h = (let w = within 0xA0 0xBF b (if_some (is_within 0xA0 0xBF b) (Some One) u h).0 in omega arith)
tails_high AfterED b u h = (within 0x80 0x9F b (if_some (is_within 0x80 0x9F b) (Some One) u h).0).0
tails_high AfterF0 b u h = (let w = within 0x90 0xBF b (if_some (is_within 0x90 0xBF b) (Some Two) u h).0 in omega arith)
tails_high AfterF4 b u h = (within 0x80 0x8F b (if_some (is_within 0x80 0x8F b) (Some Two) u h).0).0

-- so is the first byte of a longer one
pub lead_high : (b : ℕ) (tails : Tails) → Leads b tails → 128 ≤ b
lead_high b One l = omega arith
lead_high b Two l = (let low = l.0.0 in omega arith)
lead_high b Three l = omega arith
lead_high b AfterE0 l = omega arith
lead_high b AfterED l = omega arith
lead_high b AfterF0 l = omega arith
lead_high b AfterF4 l = omega arith

module _ (plain : ℕ → Bool) where
  -- the bytes of such a text
  pub allowed_found : (s : Option Tails) (bytes : List ℕ) → following (char_on plain) char_end s bytes ≡ Some None → list_all (λ b. plain b || nat_le 128 b) bytes ≡ true
  allowed_found s [] h = refl
  allowed_found None (b ∷ bytes) h =
      let first = after_first (char_on plain) char_end None None b bytes h in
      let rest = allowed_found first.0 bytes first.2 in
      elim (chosen (plain b) (Some None) (option_map (λ tails. Some tails) (tails_of b)) (Some first.0) first.1) [
        | inl p ↦ rw (p.0, rest) refl
        | inr q ↦
            let inside = map_some (λ tails. Some tails) (tails_of b) first.0 q.1 in
            rw (q.0, le-leb 128 b (lead_high b inside.0 (leads b inside.0 inside.1)), rest) refl
      ]
  allowed_found (Some tails) (b ∷ bytes) h =
      let first = after_first (char_on plain) char_end (Some tails) None b bytes h in
      let rest = allowed_found first.0 bytes first.2 in
      rw (le-leb 128 b (tails_high tails b first.0 first.1), or_true (plain b), rest) refl
    where
      or_true : (b : Bool) → (b || true) ≡ true
      or_true true = refl
      or_true false = refl
