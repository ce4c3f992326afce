-- What is read as a nonce, as the name of a channel binding, as a count and as a base64 text.
use Rattle.std.proofs.Common.{◌≡◌, ℕ, Bool, true, false, List, [], ◌∷◌, Some, None, refl, sym, ap, ◌∙◌, inl, inr}
use Rattle.std.proofs.lemmas.Bool.{and_parts}
use Rattle.std.specs.List.{list_all}
use Rattle.auth_scram.specs.Classes.{is_count_start, is_digit}
use Rattle.auth_scram.specs.Grammar.{are_some, is_count}
use Rattle.auth_scram.specs.Parts.{run}
use Rattle.auth_scram.specs.States.{class_goes_on, class_may_end, count_goes_on, count_may_end, is_of}
use Rattle.auth_primitives.specs.Canonical.{IsBase64}
use Rattle.auth_primitives.specs.Reading.{base64_after, base64_goes_on, base64_may_end}
use Rattle.auth_primitives.specs.declared.text.Base64Text.{Base64Text}
use Rattle.auth_primitives.specs.declared.text.Base64Text.TheVariants.{Whole, One, Two, Three, Padding, Padded}
use Rattle.auth_scram.specs.declared.classes.Class.{Class}
use Rattle.auth_scram.specs.declared.classes.Class.TheVariants.{Printable, Binding}
use Rattle.auth_scram.specs.declared.classes.Count.{Count}
use Rattle.auth_scram.specs.declared.classes.Count.TheVariants as count
use Rattle.auth_scram.specs.declared.classes.OneOrMore.{OneOrMore}
use Rattle.auth_primitives.proofs.GroupRuns.{encoded_whole, whole_encoded}
use Rattle.base_lemmas.proofs.Options.{option_cases}
use Rattle.auth_scram.proofs.Runs.{Stops, after_first, after_step, following}
use Rattle.auth_scram.proofs.Sequences.{IsPart, run_part}
use Rattle.auth_scram.proofs.PassedTests.{if_some}

-- what follows a part: nothing, or a comma
abbrev pub Closed : List ℕ → Type 0
Closed [] = Unit {0}
Closed (b ∷ rest) = b ≡ 44

-- ---- one or more bytes of a class

abbrev of : Class → Bool → OneOrMore
of class some = record { class = class; some = some }

class_step : (c : Class) (some : Bool) (t : OneOrMore) (b : ℕ) (bytes : List ℕ) → following class_goes_on class_may_end (of c some) (b ∷ bytes) ≡ Some t
    → (is_of c b ≡ true) × (following class_goes_on class_may_end (of c true) bytes ≡ Some t)
class_step c some t b bytes h =
    let first = after_first class_goes_on class_may_end (of c some) t b bytes h in
    let so = if_some (is_of c b) (of c true) first.0 first.1 in
    (so.0, rw so.1 at first.2)

class_all : (c : Class) (bytes : List ℕ) (t : OneOrMore) → following class_goes_on class_may_end (of c true) bytes ≡ Some t → list_all (is_of c) bytes ≡ true
class_all c [] t h = refl
class_all c (b ∷ bytes) t h =
    let s = class_step c true t b bytes h in
    rw (s.0, class_all c bytes t s.1) refl

class_after : (c : Class) (bytes : List ℕ) → list_all (is_of c) bytes ≡ true → following class_goes_on class_may_end (of c true) bytes ≡ Some (of c true)
class_after c [] h = refl
class_after c (b ∷ bytes) h =
    let parts = and_parts (is_of c b) (list_all (is_of c) bytes) h in
    let on : class_goes_on (of c true) b ≡ Some (of c true) = rw parts.0 refl in
    after_step class_goes_on class_may_end (of c true) (of c true) b bytes on ∙ class_after c bytes parts.1

class_found : (c : Class) (part : List ℕ) (t : OneOrMore) → following class_goes_on class_may_end (of c false) part ≡ Some t → t.some ≡ true → are_some (is_of c) part ≡ true
class_found c [] t h e = let same : of c false ≡ t = cc h in cc (rw (← same) at e)
class_found c (b ∷ bytes) t h e =
    let s = class_step c false t b bytes h in
    rw (s.0, class_all c bytes t s.1) refl

class_only : (c : Class) (part : List ℕ) → are_some (is_of c) part ≡ true
    → (t : OneOrMore) × (following class_goes_on class_may_end (of c false) part ≡ Some t) × (t.some ≡ true)
class_only c [] h = cc h
class_only c (b ∷ bytes) h =
    let parts = and_parts (is_of c b) (list_all (is_of c) bytes) h in
    let on : class_goes_on (of c false) b ≡ Some (of c true) = rw parts.0 refl in
    (of c true, after_step class_goes_on class_may_end (of c false) (of c true) b bytes on ∙ class_after c bytes parts.1, refl)

class_goes : (t : OneOrMore) → (more : List ℕ) × (u : OneOrMore) × (following class_goes_on class_may_end t more ≡ Some u) × (u.some ≡ true)
class_goes t = class_goes_from t.class t.some
  where
    class_goes_from : (c : Class) (some : Bool) → (more : List ℕ) × (u : OneOrMore) × (following class_goes_on class_may_end (of c some) more ≡ Some u) × (u.some ≡ true)
    class_goes_from Printable some = (65 ∷ [], of Printable true, refl, refl)
    class_goes_from Binding some = (65 ∷ [], of Binding true, refl, refl)

class_stops : (t : OneOrMore) (rest : List ℕ) → t.some ≡ true → Closed rest → Stops class_goes_on class_may_end t rest
class_stops t [] e closed = tt
class_stops t (b ∷ rest) e closed = rw closed (comma_stops t.class)
  where
    comma_stops : (c : Class) → class_goes_on (of c t.some) 44 ≡ None
    comma_stops Printable = refl
    comma_stops Binding = refl

pub class_part : (c : Class) → IsPart (run class_goes_on class_may_end (of c false)) (λ text part. (text ≡ part) × (are_some (is_of c) part ≡ true)) Closed
class_part c = run_part class_goes_on class_may_end (of c false) (λ part. are_some (is_of c) part ≡ true) Closed (class_found c) (class_only c) class_goes class_stops

-- ---- a number without leading zeros

count_all : (bytes : List ℕ) (t : Count) → following count_goes_on count_may_end count.Digits bytes ≡ Some t → list_all is_digit bytes ≡ true
count_all [] t h = refl
count_all (b ∷ bytes) t h =
    let first = after_first count_goes_on count_may_end count.Digits t b bytes h in
    let so = if_some (is_digit b) count.Digits first.0 first.1 in
    rw (so.0, count_all bytes t (rw so.1 at first.2)) refl

count_after : (bytes : List ℕ) → list_all is_digit bytes ≡ true → following count_goes_on count_may_end count.Digits bytes ≡ Some count.Digits
count_after [] h = refl
count_after (b ∷ bytes) h =
    let parts = and_parts (is_digit b) (list_all is_digit bytes) h in
    let on : count_goes_on count.Digits b ≡ Some count.Digits = rw parts.0 refl in
    after_step count_goes_on count_may_end count.Digits count.Digits b bytes on ∙ count_after bytes parts.1

count_found : (part : List ℕ) (t : Count) → following count_goes_on count_may_end count.Start part ≡ Some t → count_may_end t ≡ true → is_count part ≡ true
count_found [] t h e = let same : count.Start ≡ t = cc h in cc (rw (← same) at e)
count_found (b ∷ bytes) t h e =
    let first = after_first count_goes_on count_may_end count.Start t b bytes h in
    let so = if_some (is_count_start b) count.Digits first.0 first.1 in
    rw (so.0, count_all bytes t (rw so.1 at first.2)) refl

count_only : (part : List ℕ) → is_count part ≡ true → (t : Count) × (following count_goes_on count_may_end count.Start part ≡ Some t) × (count_may_end t ≡ true)
count_only [] h = cc h
count_only (b ∷ bytes) h =
    let parts = and_parts (is_count_start b) (list_all is_digit bytes) h in
    let on : count_goes_on count.Start b ≡ Some count.Digits = rw parts.0 refl in
    (count.Digits, after_step count_goes_on count_may_end count.Start count.Digits b bytes on ∙ count_after bytes parts.1, refl)

count_goes : (t : Count) → (more : List ℕ) × (u : Count) × (following count_goes_on count_may_end t more ≡ Some u) × (count_may_end u ≡ true)
count_goes count.Start = (49 ∷ [], count.Digits, refl, refl)
count_goes count.Digits = ([], count.Digits, refl, refl)

count_stops : (t : Count) (rest : List ℕ) → count_may_end t ≡ true → Closed rest → Stops count_goes_on count_may_end t rest
count_stops t [] e closed = tt
count_stops count.Start (b ∷ rest) e closed = cc e
count_stops count.Digits (b ∷ rest) e closed = rw closed refl

pub count_part : IsPart (run count_goes_on count_may_end count.Start) (λ text part. (text ≡ part) × (is_count part ≡ true)) Closed
count_part = run_part count_goes_on count_may_end count.Start (λ part. is_count part ≡ true) Closed count_found count_only count_goes count_stops

-- ---- base64

-- the state behind bytes, as `auth_primitives` has it
as_after : (s : Base64Text) (bytes : List ℕ) → following base64_goes_on base64_may_end s bytes ≡ base64_after s bytes
as_after s [] = refl
as_after s (b ∷ bytes) =
    elim (option_cases (base64_goes_on s b)) [
      | inl none ↦ rw none refl
      | inr some ↦ rw some.1 (as_after some.0 bytes)
    ]

base64_found : (part : List ℕ) (t : Base64Text) → following base64_goes_on base64_may_end Whole part ≡ Some t → base64_may_end t ≡ true → IsBase64 part
base64_found part t h e = whole_encoded part t (sym (as_after Whole part) ∙ h) e

base64_only : (part : List ℕ) → IsBase64 part → (t : Base64Text) × (following base64_goes_on base64_may_end Whole part ≡ Some t) × (base64_may_end t ≡ true)
base64_only part b =
    let whole = encoded_whole b.0 b.1 in
    (whole.0, as_after Whole part ∙ ap (base64_after Whole) b.2 ∙ whole.1, whole.2)

base64_goes : (t : Base64Text) → (more : List ℕ) × (u : Base64Text) × (following base64_goes_on base64_may_end t more ≡ Some u) × (base64_may_end u ≡ true)
base64_goes Whole = ([], Whole, refl, refl)
base64_goes One = (65 ∷ 65 ∷ 65 ∷ [], Whole, refl, refl)
base64_goes (Two true) = (65 ∷ 65 ∷ [], Whole, refl, refl)
base64_goes (Two false) = (65 ∷ 65 ∷ [], Whole, refl, refl)
base64_goes (Three true) = (65 ∷ [], Whole, refl, refl)
base64_goes (Three false) = (65 ∷ [], Whole, refl, refl)
base64_goes Padding = (61 ∷ [], Padded, refl, refl)
base64_goes Padded = ([], Padded, refl, refl)

base64_stops : (t : Base64Text) (rest : List ℕ) → base64_may_end t ≡ true → Closed rest → Stops base64_goes_on base64_may_end t rest
base64_stops t [] e closed = tt
base64_stops Whole (b ∷ rest) e closed = rw closed refl
base64_stops Padded (b ∷ rest) e closed = refl
base64_stops One (b ∷ rest) e closed = cc e
base64_stops (Two z) (b ∷ rest) e closed = cc e
base64_stops (Three z) (b ∷ rest) e closed = cc e
base64_stops Padding (b ∷ rest) e closed = cc e

pub base64_part : IsPart (run base64_goes_on base64_may_end Whole) (λ text part. (text ≡ part) × IsBase64 part) Closed
base64_part = run_part base64_goes_on base64_may_end Whole IsBase64 Closed base64_found base64_only base64_goes base64_stops
