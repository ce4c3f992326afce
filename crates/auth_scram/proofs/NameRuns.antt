-- The names that are read are those of the grammar.
use Rattle.std.proofs.Common.{◌≡◌, ℕ, ◌<◌, ◌==◌, ◌⊎◌, not, Bool, true, List, [], ◌∷◌, ◌++◌, length, Option, Some, None, refl, sym, ap, ◌∙◌, arith, inl, inr, ne_eqb}
use Rattle.std.proofs.lemmas.Bool.{and_parts, cases_eq, eqb-true}
use Rattle.std.specs.List.{flat_map}
use Rattle.std.specs.Option.{option_map}
use Rattle.std.specs.Str.{IsUtf8}
use Rattle.auth_scram.specs.Classes.{is_value_ascii, is_within}
use Rattle.auth_scram.specs.Grammar.{IsName, escaped_byte}
use Rattle.auth_scram.specs.Parts.{run}
use Rattle.auth_scram.specs.States.{character_step, name_goes_on, name_may_end, name_starts, placed, tails_of, tails_step, where_so}
use Rattle.auth_scram.specs.Values.{name_of}
use Rattle.auth_scram.specs.declared.names.Name.{Name}
use Rattle.auth_scram.specs.declared.names.Name.TheVariants.{Start, Between, Inside, Escape, EscapedComma, EscapedEquals}
use Rattle.auth_scram.specs.declared.values.Tails.{Tails}
use Rattle.auth_scram.specs.declared.values.Tails.TheVariants.{One, Two, Three, AfterE0, AfterED, AfterF0, AfterF4}
use Rattle.auth_scram.proofs.Characters.{allowed_found, char_end, char_on, lead_high, leads, tails_high, utf8_found, utf8_only}
use Rattle.auth_scram.proofs.Languages.{Closed}
use Rattle.auth_scram.proofs.Runs.{Stops, after_first, after_step, following}
use Rattle.auth_scram.proofs.Sequences.{IsPart, run_part}
use Rattle.auth_scram.proofs.PassedTests.{if_some, map_some, not_eq, within, within_high}
use Rattle.base_lemmas.proofs.Conditions.{chosen}

abbrev ascii : ℕ → Bool
ascii b = is_within 1 127 b

ascii_low : (b : ℕ) → ascii b ≡ true → b < 128
ascii_low b h = let w = within 1 127 b h in omega arith

-- the characters of a name, one after the other
abbrev named : Option Tails → List ℕ → Option (Option Tails)
named = following (char_on ascii) char_end

named_step : (q r : Option Tails) (b : ℕ) (bytes : List ℕ) → char_on ascii q b ≡ Some r → named q (b ∷ bytes) ≡ named r bytes
named_step q r b bytes h = after_step (char_on ascii) char_end q r b bytes h

abbrev in_name : Option Tails → Name
in_name = placed Between Inside

abbrev goes : Name → List ℕ → Option Name
goes = following name_goes_on name_may_end

-- bytes that spell the rest of a name
abbrev Spelt : Option Tails → List ℕ → Type 0
Spelt q text = (name : List ℕ) × (named q name ≡ Some None) × (text ≡ flat_map escaped_byte name)

abbrev Rest : Name → List ℕ → Type 0
Rest Start text = Spelt None text
Rest Between text = Spelt None text
Rest (Inside tails) text = Spelt (Some tails) text
Rest Escape text = (more : List ℕ) × ((text ≡ 50 ∷ 67 ∷ more) ⊎ (text ≡ 51 ∷ 68 ∷ more)) × Spelt None more
Rest EscapedComma text = (more : List ℕ) × (text ≡ 67 ∷ more) × Spelt None more
Rest EscapedEquals text = (more : List ℕ) × (text ≡ 68 ∷ more) × Spelt None more

itself : (b : ℕ) → (b ≡ 44 → ⊥) → (b ≡ 61 → ⊥) → escaped_byte b ≡ b ∷ []
itself b n m = rw (ne_eqb b 44 n, ne_eqb b 61 m) refl

-- a character of a value is one of a name
plain_named : (b : ℕ) (q : Option Tails) → character_step b ≡ Some q → char_on ascii None b ≡ Some q
plain_named b q h =
    elim (chosen (is_value_ascii b) (Some None) (option_map (λ tails. Some tails) (tails_of b)) (Some q) h) [
      | inl p ↦
          let one = (and_parts (is_within 1 127 b) (not (b == 44)) p.0).0 in
          rw one p.1
      | inr r ↦
          let inside = map_some (λ tails. Some tails) (tails_of b) q r.1 in
          let high = lead_high b inside.0 (leads b inside.0 inside.1) in
          rw (within_high 1 127 b (omega arith)) r.1
    ]

no_comma : (b : ℕ) (q : Option Tails) → character_step b ≡ Some q → b ≡ 44 → ⊥
no_comma b q h e = let bad = rw e at h in cc bad

with_byte : (q r : Option Tails) (b : ℕ) (text : List ℕ) → char_on ascii q b ≡ Some r → escaped_byte b ≡ b ∷ [] → Spelt r text → Spelt q (b ∷ text)
with_byte q r b text on alone rest = (b ∷ rest.0, named_step q r b rest.0 on ∙ rest.1, ap (λ (x : List ℕ). b ∷ x) rest.2 ∙ ap (λ (x : List ℕ). x ++ flat_map escaped_byte rest.0) (sym alone))

placed_rest : (q : Option Tails) (text : List ℕ) → Rest (in_name q) text → Spelt q text
placed_rest None text h = h
placed_rest (Some tails) text h = h

escape_rest : (text : List ℕ) → Rest Escape text → Spelt None (61 ∷ text)
escape_rest text h =
    elim h.1 [
      | inl e ↦ (44 ∷ h.2.0, h.2.1, rw (e, h.2.2) refl)
      | inr e ↦ (61 ∷ h.2.0, h.2.1, rw (e, h.2.2) refl)
    ]

begins_rest : (b : ℕ) (u : Name) (text : List ℕ) → name_starts b ≡ Some u → Rest u text → Spelt None (b ∷ text)
begins_rest b u text h rest =
    elim (chosen (b == 61) (Some Escape) (option_map in_name (character_step b)) (Some u) h) [
      | inl p ↦
          let is : u ≡ Escape = cc p.1 in
          rw (eqb-true b 61 p.0) (escape_rest text (rw is at rest))
      | inr r ↦
          let inside = map_some in_name (character_step b) u r.1 in
          let q = inside.0 in
          with_byte None q b text (plain_named b q inside.1) (itself b (no_comma b q inside.1) (not_eq b 61 r.0)) (placed_rest q text (rw inside.2 at rest))
    ]

both : (b c d : ℕ) (text more : List ℕ) → b ≡ c → text ≡ d ∷ more → b ∷ text ≡ c ∷ d ∷ more
both b c d text more e f = rw (e, f) refl

name_rest : (s : Name) (text : List ℕ) → goes s text ≡ Some Between → Rest s text
name_rest Start [] h = cc h
name_rest Between [] h = ([], refl, refl)
name_rest (Inside tails) [] h = cc h
name_rest Escape [] h = cc h
name_rest EscapedComma [] h = cc h
name_rest EscapedEquals [] h = cc h
name_rest Start (b ∷ text) h =
    let first = after_first name_goes_on name_may_end Start Between b text h in
    begins_rest b first.0 text first.1 (name_rest first.0 text first.2)
name_rest Between (b ∷ text) h =
    let first = after_first name_goes_on name_may_end Between Between b text h in
    begins_rest b first.0 text first.1 (name_rest first.0 text first.2)
name_rest (Inside tails) (b ∷ text) h =
    let first = after_first name_goes_on name_may_end (Inside tails) Between b text h in
    let inside = map_some in_name (tails_step tails b) first.0 first.1 in
    let q = inside.0 in
    let high = tails_high tails b q inside.1 in
    with_byte (Some tails) q b text inside.1 (itself b (λ e. absurd (omega arith)) (λ e. absurd (omega arith))) (placed_rest q text (rw inside.2 at (name_rest first.0 text first.2)))
name_rest Escape (b ∷ text) h =
    let first = after_first name_goes_on name_may_end Escape Between b text h in
    let rest = name_rest first.0 text first.2 in
    elim (chosen (b == 50) (Some EscapedComma) (where_so (b == 51) EscapedEquals) (Some first.0) first.1) [
      | inl p ↦
          let is : first.0 ≡ EscapedComma = cc p.1 in
          let found = rw is at rest in
          (found.0, inl (both b 50 67 text found.0 (eqb-true b 50 p.0) found.1), found.2)
      | inr r ↦
          let so = if_some (b == 51) EscapedEquals first.0 r.1 in
          let found = rw so.1 at rest in
          (found.0, inr (both b 51 68 text found.0 (eqb-true b 51 so.0) found.1), found.2)
    ]
name_rest EscapedComma (b ∷ text) h =
    let first = after_first name_goes_on name_may_end EscapedComma Between b text h in
    let so = if_some (b == 67) Between first.0 first.1 in
    (text, rw (eqb-true b 67 so.0) refl, rw so.1 at (name_rest first.0 text first.2))
name_rest EscapedEquals (b ∷ text) h =
    let first = after_first name_goes_on name_may_end EscapedEquals Between b text h in
    let so = if_some (b == 68) Between first.0 first.1 in
    (text, rw (eqb-true b 68 so.0) refl, rw so.1 at (name_rest first.0 text first.2))

is_between : (t : Name) → name_may_end t ≡ true → t ≡ Between
is_between Start h = cc h
is_between Between h = refl
is_between (Inside tails) h = cc h
is_between Escape h = cc h
is_between EscapedComma h = cc h
is_between EscapedEquals h = cc h

some_name : (name text : List ℕ) → text ≡ flat_map escaped_byte name → 0 < length text → 0 < length name
some_name [] text e lt = absurd (let none = ap length e in omega arith)
some_name (b ∷ name) text e lt = omega arith

-- what is read spells a name
pub name_found : (text : List ℕ) (t : Name) → goes Start text ≡ Some t → name_may_end t ≡ true → (name : List ℕ) × IsName name text
name_found [] t h e = let same : Start ≡ t = cc h in cc (rw (← same) at e)
name_found (b ∷ text) t h e =
    let spelt = name_rest Start (b ∷ text) (rw (is_between t e) at h) in (
      spelt.0,
      record {
        some = some_name spelt.0 (b ∷ text) spelt.2 (omega arith);
        utf8 = utf8_found ascii ascii_low None spelt.0 spelt.1;
        bytes = allowed_found ascii None spelt.0 spelt.1;
        spelled = spelt.2;
      },
    )

-- ---- each name is read

char_plain : (b : ℕ) (r : Option Tails) → (b ≡ 44 → ⊥) → char_on ascii None b ≡ Some r → character_step b ≡ Some r
char_plain b r n h =
    elim (chosen (ascii b) (Some None) (option_map (λ tails. Some tails) (tails_of b)) (Some r) h) [
      | inl p ↦ rw (p.0, ne_eqb b 44 n) p.1
      | inr q ↦ rw q.0 q.1
    ]

name_on : (q r : Option Tails) (b : ℕ) → char_on ascii q b ≡ Some r → (b ≡ 44 → ⊥) → (b ≡ 61 → ⊥) → name_goes_on (in_name q) b ≡ Some (in_name r)
name_on None r b h n m = rw (ne_eqb b 61 m, char_plain b r n h) refl
name_on (Some tails) r b h n m = rw h refl

never_inside : (tails : Tails) (b : ℕ) (r : Option Tails) → b < 128 → tails_step tails b ≡ Some r → ⊥
never_inside tails b r lt h = let high = tails_high tails b r h in absurd (omega arith)

escape_on : (q r : Option Tails) (c : ℕ) (text : List ℕ) → (c ≡ 44) ⊎ (c ≡ 61) → char_on ascii q c ≡ Some r → goes (in_name q) (escaped_byte c ++ text) ≡ goes (in_name r) text
escape_on None r c text (inl e) h =
    let is : char_on ascii None 44 ≡ Some r = rw e at h in
    let none : r ≡ None = cc is in
    rw (e, none) refl
escape_on None r c text (inr e) h =
    let is : char_on ascii None 61 ≡ Some r = rw e at h in
    let none : r ≡ None = cc is in
    rw (e, none) refl
escape_on (Some tails) r c text (inl e) h = absurd (never_inside tails c r (omega arith) h)
escape_on (Some tails) r c text (inr e) h = absurd (never_inside tails c r (omega arith) h)

byte_on : (q r : Option Tails) (b : ℕ) (text : List ℕ) → char_on ascii q b ≡ Some r → goes (in_name q) (escaped_byte b ++ text) ≡ goes (in_name r) text
byte_on q r b text h =
    elim (cases_eq b 44) [
      | inl e ↦ escape_on q r b text (inl e) h
      | inr n ↦ elim (cases_eq b 61) [
        | inl e ↦ escape_on q r b text (inr e) h
        | inr m ↦
            ap (λ (x : List ℕ). goes (in_name q) (x ++ text)) (itself b n m)
            ∙ after_step name_goes_on name_may_end (in_name q) (in_name r) b text (name_on q r b h n m)
      ]
    ]

name_goes : (q : Option Tails) (name : List ℕ) → named q name ≡ Some None → goes (in_name q) (flat_map escaped_byte name) ≡ Some Between
name_goes None [] h = refl
name_goes (Some tails) [] h = cc h
name_goes q (b ∷ name) h =
    let first = after_first (char_on ascii) char_end q None b name h in
    byte_on q first.0 b (flat_map escaped_byte name) first.1 ∙ name_goes first.0 name first.2

from_start : (text : List ℕ) → 0 < length text → goes Start text ≡ goes Between text
from_start [] lt = absurd (omega arith)
from_start (b ∷ text) lt = refl

some_text : (name : List ℕ) → 0 < length name → 0 < length (flat_map escaped_byte name)
some_text [] lt = absurd (omega arith)
some_text (b ∷ name) lt =
    elim (cases_eq b 44) [
      | inl e ↦ rw e (omega arith)
      | inr n ↦ elim (cases_eq b 61) [ inl e ↦ rw e (omega arith) | inr m ↦ rw (itself b n m) (omega arith) ]
    ]

pub name_only : (text : List ℕ) → (name : List ℕ) × IsName name text → (t : Name) × (goes Start text ≡ Some t) × (name_may_end t ≡ true)
name_only text is =
    let name = is.0 in
    let spelt = is.1.spelled in
    let read = utf8_only ascii ascii_low name is.1.utf8 is.1.bytes in
    rw spelt (Between, from_start (flat_map escaped_byte name) (some_text name is.1.some) ∙ name_goes None name read, refl)

tails_end : (tails : Tails) → (more : List ℕ) × (goes (Inside tails) more ≡ Some Between)
tails_end One = (128 ∷ [], refl)
tails_end Two = (128 ∷ 128 ∷ [], refl)
tails_end Three = (128 ∷ 128 ∷ 128 ∷ [], refl)
tails_end AfterE0 = (160 ∷ 128 ∷ [], refl)
tails_end AfterED = (128 ∷ 128 ∷ [], refl)
tails_end AfterF0 = (144 ∷ 128 ∷ 128 ∷ [], refl)
tails_end AfterF4 = (128 ∷ 128 ∷ 128 ∷ [], refl)

name_ends : (t : Name) → (more : List ℕ) × (u : Name) × (goes t more ≡ Some u) × (name_may_end u ≡ true)
name_ends Start = (65 ∷ [], Between, refl, refl)
name_ends Between = ([], Between, refl, refl)
name_ends (Inside tails) = let end = tails_end tails in (end.0, Between, end.1, refl)
name_ends Escape = (50 ∷ 67 ∷ [], Between, refl, refl)
name_ends EscapedComma = (67 ∷ [], Between, refl, refl)
name_ends EscapedEquals = (68 ∷ [], Between, refl, refl)

name_stops : (t : Name) (rest : List ℕ) → name_may_end t ≡ true → Closed rest → Stops name_goes_on name_may_end t rest
name_stops t [] e closed = tt
name_stops t (b ∷ rest) e closed = rw (is_between t e, closed) refl

pub name_part : IsPart (run name_goes_on name_may_end Start) (λ text part. (text ≡ part) × ((name : List ℕ) × IsName name part)) Closed
name_part = run_part name_goes_on name_may_end Start (λ part. (name : List ℕ) × IsName name part) Closed name_found name_only name_ends name_stops

-- ---- what a spelled name stands for

unescaped_byte : (b : ℕ) (text : List ℕ) → name_of (escaped_byte b ++ text) ≡ b ∷ name_of text
unescaped_byte b text =
    elim (cases_eq b 44) [
      | inl e ↦ rw e refl
      | inr n ↦ elim (cases_eq b 61) [ inl e ↦ rw e refl | inr m ↦ rw (itself b n m, ne_eqb b 61 m) refl ]
    ]

pub name_again : (name : List ℕ) → name_of (flat_map escaped_byte name) ≡ name
name_again [] = refl
name_again (b ∷ name) = unescaped_byte b (flat_map escaped_byte name) ∙ ap (λ (x : List ℕ). b ∷ x) (name_again name)

-- a spelled name is text
escaped_text : (q r : Option Tails) (b : ℕ) (text : List ℕ) → char_on ascii q b ≡ Some r → named q (escaped_byte b ++ text) ≡ named r text
escaped_text None r b text h =
    elim (cases_eq b 44) [
      | inl e ↦
          let is : char_on ascii None 44 ≡ Some r = rw e at h in
          let none : r ≡ None = cc is in
          rw (e, none) refl
      | inr n ↦ elim (cases_eq b 61) [
        | inl e ↦
            let is : char_on ascii None 61 ≡ Some r = rw e at h in
            let none : r ≡ None = cc is in
            rw (e, none) refl
        | inr m ↦ ap (λ (x : List ℕ). named None (x ++ text)) (itself b n m) ∙ named_step None r b text h
      ]
    ]
escaped_text (Some tails) r b text h =
    let high = tails_high tails b r h in
    ap (λ (x : List ℕ). named (Some tails) (x ++ text)) (itself b (λ e. absurd (omega arith)) (λ e. absurd (omega arith))) ∙ named_step (Some tails) r b text h

spelled_text : (q : Option Tails) (name : List ℕ) → named q name ≡ Some None → named q (flat_map escaped_byte name) ≡ Some None
spelled_text q [] h = h
spelled_text q (b ∷ name) h =
    let first = after_first (char_on ascii) char_end q None b name h in
    escaped_text q first.0 b (flat_map escaped_byte name) first.1 ∙ spelled_text first.0 name first.2

pub name_text : (name text : List ℕ) → IsName name text → IsUtf8 text
name_text name text is =
    let spelled : text ≡ flat_map escaped_byte name = is.spelled in
    rw spelled (utf8_found ascii ascii_low None (flat_map escaped_byte name) (spelled_text None name (utf8_only ascii ascii_low name is.utf8 is.bytes)))

pub name_is : (name text : List ℕ) → IsName name text → name_of text ≡ name
name_is name text is = ap name_of is.spelled ∙ name_again name
