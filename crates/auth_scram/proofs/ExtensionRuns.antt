-- The extensions that are read are those of the grammar.
use Rattle.std.proofs.Common.{◌≡◌, ℕ, ◌<◌, ◌==◌, ◌⊎◌, ◌&&◌, not, Bool, true, false, List, [], ◌∷◌, ◌++◌, length, Option, Some, None, refl, sym, ap, ◌∙◌, arith, inl, inr, ne_eqb, append_assoc}
use Rattle.std.proofs.lemmas.Bool.{and_parts, eqb-true}
use Rattle.std.proofs.lemmas.List.{append-nil}
use Rattle.std.specs.List.{AllByRecursion, flat_map}
use Rattle.std.specs.Option.{option_map}
use Rattle.auth_scram.specs.Classes.{is_letter, is_value_ascii, is_within}
use Rattle.auth_scram.specs.Grammar.{AreExtensions, IsExtension, IsValue, names_extension}
use Rattle.auth_scram.specs.Parts.{run}
use Rattle.auth_scram.specs.States.{character_step, extension_starts, extensions_go_on, extensions_may_end, in_value, tails_step, where_so}
use Rattle.auth_scram.specs.declared.values.Extensions.{Extensions}
use Rattle.auth_scram.specs.declared.values.Extensions.TheVariants.{Comma, Letter, Equals, First, Value, Inside, ProofEquals, ProofBegins}
use Rattle.auth_scram.specs.declared.values.Tails.{Tails}
use Rattle.auth_scram.specs.declared.values.Tails.TheVariants.{One, Two, Three, AfterE0, AfterED, AfterF0, AfterF4}
use Rattle.auth_scram.specs.declared.values.Until.{Until}
use Rattle.auth_scram.specs.declared.values.Until.TheVariants.{End, Proof}
use Rattle.auth_scram.proofs.Characters.{allowed_found, char_end, char_on, utf8_found, utf8_only}
use Rattle.auth_scram.proofs.Runs.{Stops, after_first, after_more, after_step, following}
use Rattle.auth_scram.proofs.Sequences.{IsPart, stopped_part}
use Rattle.auth_scram.proofs.PassedTests.{if_some, map_some, within}
use Rattle.base_lemmas.proofs.Conditions.{chosen}

plain_low : (b : ℕ) → is_value_ascii b ≡ true → b < 128
plain_low b h = let w = within 1 127 b (and_parts (is_within 1 127 b) (not (b == 44)) h).0 in omega arith

-- the characters of a value, one after the other
abbrev valued : Option Tails → List ℕ → Option (Option Tails)
valued = following (char_on is_value_ascii) char_end

valued_step : (q r : Option Tails) (b : ℕ) (bytes : List ℕ) → char_on is_value_ascii q b ≡ Some r → valued q (b ∷ bytes) ≡ valued r bytes
valued_step q r b bytes h = after_step (char_on is_value_ascii) char_end q r b bytes h

abbrev goes : Extensions → List ℕ → Option Extensions
goes = following extensions_go_on extensions_may_end

value_found : (text : List ℕ) → 0 < length text → valued None text ≡ Some None → IsValue text
value_found text lt h = record { some = lt; utf8 = utf8_found is_value_ascii plain_low None text h; bytes = allowed_found is_value_ascii None text h }

value_run : (text : List ℕ) → IsValue text → valued None text ≡ Some None
value_run text is = utf8_only is_value_ascii plain_low text is.utf8 is.bytes

-- what extensions are followed by, and that
abbrev pub Goal : Until → List ℕ → Type 0
Goal End text = AreExtensions End text
Goal Proof text = (extensions : List ℕ) × AreExtensions Proof extensions × (text ≡ extensions ++ 44 ∷ 112 ∷ 61 ∷ [])

no_extensions : (until : Until) → AreExtensions until []
no_extensions until = ([], tt, refl)

one_extension : (until : Until) (letter : ℕ) (value rest : List ℕ) → names_extension until letter ≡ true → IsValue value → AreExtensions until rest
    → AreExtensions until (44 ∷ letter ∷ 61 ∷ value ++ rest)
one_extension until letter value rest named is more = (
  (letter ∷ 61 ∷ value) ∷ more.0,
  (record { letter = letter; value = value; named = named; valued = is; spelled = refl }, more.1),
  ap (λ (x : List ℕ). 44 ∷ letter ∷ 61 ∷ value ++ x) more.2,
)

goal_more : (until : Until) (letter : ℕ) (value rest : List ℕ) → names_extension until letter ≡ true → IsValue value → Goal until rest → Goal until (44 ∷ letter ∷ 61 ∷ value ++ rest)
goal_more End letter value rest named is goal = one_extension End letter value rest named is goal
goal_more Proof letter value rest named is goal = (
  44 ∷ letter ∷ 61 ∷ value ++ goal.0,
  one_extension Proof letter value goal.0 named is goal.1,
  ap (λ (x : List ℕ). 44 ∷ letter ∷ 61 ∷ x) (ap (λ (x : List ℕ). value ++ x) goal.2 ∙ sym (append_assoc value goal.0 (44 ∷ 112 ∷ 61 ∷ []))),
)

-- a value's rest, and what follows it
abbrev Valued : Until → Option Tails → List ℕ → Type 0
Valued until q text = (value : List ℕ) × (rest : List ℕ) × (text ≡ value ++ rest) × (valued q value ≡ Some None) × Goal until rest

-- a whole value, and what follows it
abbrev pub Whole : Until → List ℕ → Type 0
Whole until text = (value : List ℕ) × (rest : List ℕ) × (text ≡ value ++ rest) × IsValue value × Goal until rest

abbrev Rest : Extensions → List ℕ → Type 0
Rest (Comma until) text = Goal until text
Rest (Letter until) text = Goal until (44 ∷ text)
Rest (Equals until) text = (more : List ℕ) × (text ≡ 61 ∷ more) × Whole until more
Rest (First until) text = Whole until text
Rest (Value until) text = Valued until None text
Rest (Inside until tails) text = Valued until (Some tails) text
Rest ProofEquals text = text ≡ 61 ∷ []
Rest ProofBegins text = text ≡ []

placed_rest : (until : Until) (q : Option Tails) (text : List ℕ) → Rest (in_value until q) text → Valued until q text
placed_rest until None text h = h
placed_rest until (Some tails) text h = h

with_byte : (until : Until) (q r : Option Tails) (b : ℕ) (text : List ℕ) → char_on is_value_ascii q b ≡ Some r → Valued until r text → Valued until q (b ∷ text)
with_byte until q r b text on rest = (b ∷ rest.0, rest.1, ap (λ (x : List ℕ). b ∷ x) rest.2, valued_step q r b rest.0 on ∙ rest.3, rest.4)

first_whole : (until : Until) (r : Option Tails) (b : ℕ) (text : List ℕ) → char_on is_value_ascii None b ≡ Some r → Valued until r text → Whole until (b ∷ text)
first_whole until r b text on rest =
    (b ∷ rest.0, rest.1, ap (λ (x : List ℕ). b ∷ x) rest.2, value_found (b ∷ rest.0) (omega arith) (valued_step None r b rest.0 on ∙ rest.3), rest.4)

letter_rest : (until : Until) (b : ℕ) (text : List ℕ) → names_extension until b ≡ true → Rest (Equals until) text → Goal until (44 ∷ b ∷ text)
letter_rest until b text named rest =
    let whole = rest.2 in
    let is : text ≡ 61 ∷ whole.0 ++ whole.1 = rest.1 ∙ ap (λ (x : List ℕ). 61 ∷ x) whole.2 in
    rw is (goal_more until b whole.0 whole.1 named whole.3 whole.4)

starts_rest : (until : Until) (b : ℕ) (u : Extensions) (text : List ℕ) → extension_starts until b ≡ Some u → Rest u text → Goal until (44 ∷ b ∷ text)
starts_rest End b u text h rest =
    let so = if_some (is_letter b && not (b == 109)) (Equals End) u h in
    letter_rest End b text so.0 (rw so.1 at rest)
starts_rest Proof b u text h rest =
    elim (chosen (b == 112) (Some ProofEquals) (where_so (is_letter b && not (b == 109)) (Equals Proof)) (Some u) h) [
      | inl p ↦
          let is : u ≡ ProofEquals = cc p.1 in
          let end : text ≡ 61 ∷ [] = rw is at rest in
          rw (eqb-true b 112 p.0, end) ([], no_extensions Proof, refl)
      | inr q ↦
          let so = if_some (is_letter b && not (b == 109)) (Equals Proof) u q.1 in
          letter_rest Proof b text (rw (so.0, q.0) refl) (rw so.1 at rest)
    ]

-- the state where extensions may end
ended_rest : (s : Extensions) → extensions_may_end s ≡ true → Rest s []
ended_rest (Comma End) e = no_extensions End
ended_rest (Comma Proof) e = cc e
ended_rest (Letter until) e = cc e
ended_rest (Equals until) e = cc e
ended_rest (First until) e = cc e
ended_rest (Value End) e = ([], [], refl, refl, no_extensions End)
ended_rest (Value Proof) e = cc e
ended_rest (Inside until tails) e = cc e
ended_rest ProofEquals e = cc e
ended_rest ProofBegins e = refl

module _ (t : Extensions) (ends : extensions_may_end t ≡ true) where
  extensions_rest : (s : Extensions) (text : List ℕ) → goes s text ≡ Some t → Rest s text
  extensions_rest s [] h = let same : t ≡ s = cc h in ended_rest s (rw (← same) ends)
  extensions_rest (Comma until) (b ∷ text) h =
      let first = after_first extensions_go_on extensions_may_end (Comma until) t b text h in
      let so = if_some (b == 44) (Letter until) first.0 first.1 in
      rw (eqb-true b 44 so.0) (rw so.1 at (extensions_rest first.0 text first.2))
  extensions_rest (Letter until) (b ∷ text) h =
      let first = after_first extensions_go_on extensions_may_end (Letter until) t b text h in
      starts_rest until b first.0 text first.1 (extensions_rest first.0 text first.2)
  extensions_rest (Equals until) (b ∷ text) h =
      let first = after_first extensions_go_on extensions_may_end (Equals until) t b text h in
      let so = if_some (b == 61) (First until) first.0 first.1 in
      (text, ap (λ (c : ℕ). c ∷ text) (eqb-true b 61 so.0), rw so.1 at (extensions_rest first.0 text first.2))
  extensions_rest (First until) (b ∷ text) h =
      let first = after_first extensions_go_on extensions_may_end (First until) t b text h in
      let inside = map_some (in_value until) (character_step b) first.0 first.1 in
      first_whole until inside.0 b text inside.1 (placed_rest until inside.0 text (rw inside.2 at (extensions_rest first.0 text first.2)))
  extensions_rest (Value until) (b ∷ text) h =
      let first = after_first extensions_go_on extensions_may_end (Value until) t b text h in
      let rest = extensions_rest first.0 text first.2 in
      elim (chosen (b == 44) (Some (Letter until)) (option_map (in_value until) (character_step b)) (Some first.0) first.1) [
        | inl p ↦
            let is : first.0 ≡ Letter until = cc p.1 in
            let goal : Goal until (44 ∷ text) = rw is at rest in
            ([], b ∷ text, refl, refl, rw (eqb-true b 44 p.0) goal)
        | inr q ↦
            let inside = map_some (in_value until) (character_step b) first.0 q.1 in
            with_byte until None inside.0 b text inside.1 (placed_rest until inside.0 text (rw inside.2 at rest))
      ]
  extensions_rest (Inside until tails) (b ∷ text) h =
      let first = after_first extensions_go_on extensions_may_end (Inside until tails) t b text h in
      let inside = map_some (in_value until) (tails_step tails b) first.0 first.1 in
      with_byte until (Some tails) inside.0 b text inside.1 (placed_rest until inside.0 text (rw inside.2 at (extensions_rest first.0 text first.2)))
  extensions_rest ProofEquals (b ∷ text) h =
      let first = after_first extensions_go_on extensions_may_end ProofEquals t b text h in
      let so = if_some (b == 61) ProofBegins first.0 first.1 in
      let none : text ≡ [] = rw so.1 at (extensions_rest first.0 text first.2) in
      rw (eqb-true b 61 so.0, none) refl
  extensions_rest ProofBegins (b ∷ text) h = cc h

extensions_found : (until : Until) (part : List ℕ) (t : Extensions) → goes (Comma until) part ≡ Some t → extensions_may_end t ≡ true → Goal until part
extensions_found until part t h e = extensions_rest t e (Comma until) part h

values_found : (part : List ℕ) (t : Extensions) → goes (First End) part ≡ Some t → extensions_may_end t ≡ true → Whole End part
values_found part t h e = extensions_rest t e (First End) part h

-- ---- each extension is read

no_comma : (b : ℕ) (q : Option Tails) → character_step b ≡ Some q → b ≡ 44 → ⊥
no_comma b q h e = let bad = rw e at h in cc bad

value_on : (until : Until) (q r : Option Tails) (b : ℕ) → char_on is_value_ascii q b ≡ Some r → extensions_go_on (in_value until q) b ≡ Some (in_value until r)
value_on until None r b h =
    let step : character_step b ≡ Some r = h in
    rw (step, ne_eqb b 44 (no_comma b r step)) refl
value_on until (Some tails) r b h =
    let step : tails_step tails b ≡ Some r = h in
    rw step refl

value_goes : (until : Until) (q : Option Tails) (value rest : List ℕ) → valued q value ≡ Some None → goes (in_value until q) (value ++ rest) ≡ goes (Value until) rest
value_goes until None [] rest h = refl
value_goes until (Some tails) [] rest h = cc h
value_goes until q (b ∷ value) rest h =
    let first = after_first (char_on is_value_ascii) char_end q None b value h in
    after_step extensions_go_on extensions_may_end (in_value until q) (in_value until first.0) b (value ++ rest) (value_on until q first.0 b first.1)
    ∙ value_goes until first.0 value rest first.2

first_goes : (until : Until) (value rest : List ℕ) → 0 < length value → valued None value ≡ Some None → goes (First until) (value ++ rest) ≡ goes (Value until) rest
first_goes until [] rest lt h = absurd (omega arith)
first_goes until (b ∷ value) rest lt h =
    let first = after_first (char_on is_value_ascii) char_end None None b value h in
    let step : character_step b ≡ Some first.0 = first.1 in
    let on : extensions_go_on (First until) b ≡ Some (in_value until first.0) = rw step refl in
    after_step extensions_go_on extensions_may_end (First until) (in_value until first.0) b (value ++ rest) on ∙ value_goes until first.0 value rest first.2

not_true : (b : Bool) → not b ≡ true → b ≡ false
not_true true h = cc h
not_true false h = refl

letter_on : (until : Until) (letter : ℕ) → names_extension until letter ≡ true → extension_starts until letter ≡ Some (Equals until)
letter_on End letter h = rw h refl
letter_on Proof letter h =
    let parts = and_parts (is_letter letter && not (letter == 109)) (not (letter == 112)) h in
    rw (not_true (letter == 112) parts.1, parts.0) refl

extension_goes : (until : Until) (extension rest : List ℕ) → IsExtension until extension → goes (Letter until) (extension ++ rest) ≡ goes (Value until) rest
extension_goes until extension rest is =
    let value = is.value in
    ap (λ (x : List ℕ). goes (Letter until) (x ++ rest)) is.spelled
    ∙ after_step extensions_go_on extensions_may_end (Letter until) (Equals until) is.letter (61 ∷ value ++ rest) (letter_on until is.letter is.named)
    ∙ first_goes until value rest is.valued.some (value_run value is.valued)

-- where a comma may stand
abbrev AtComma : Until → Extensions → Type 0
AtComma until s = (s ≡ Comma until) ⊎ (s ≡ Value until)

comma_on : (until : Until) (s : Extensions) → AtComma until s → extensions_go_on s 44 ≡ Some (Letter until)
comma_on until s (inl e) = rw e refl
comma_on until s (inr e) = rw e refl

each_goes : (until : Until) (each : List (List ℕ)) (rest : List ℕ) (s : Extensions) → AllByRecursion (IsExtension until) each → AtComma until s
    → (t : Extensions) × AtComma until t × (goes s (flat_map (λ extension. 44 ∷ extension) each ++ rest) ≡ goes t rest)
each_goes until [] rest s all at = (s, at, refl)
each_goes until (extension ∷ each) rest s all at =
    let more = each_goes until each rest (Value until) all.1 (inr refl) in
    let others = flat_map (λ (extension : List ℕ). 44 ∷ extension) each ++ rest in
    let regrouped : (44 ∷ extension ++ flat_map (λ (extension : List ℕ). 44 ∷ extension) each) ++ rest ≡ 44 ∷ (extension ++ others) =
    ap (λ (x : List ℕ). 44 ∷ x) (append_assoc extension (flat_map (λ (extension : List ℕ). 44 ∷ extension) each) rest) in (
      more.0,
      more.1,
      ap (goes s) regrouped ∙ after_step extensions_go_on extensions_may_end s (Letter until) 44 (extension ++ others) (comma_on until s at)
          ∙ extension_goes until extension others all.0 ∙ more.2,
    )

end_at : (s : Extensions) → AtComma End s → extensions_may_end s ≡ true
end_at s (inl e) = rw e refl
end_at s (inr e) = rw e refl

proof_at : (s : Extensions) → AtComma Proof s → goes s (44 ∷ 112 ∷ 61 ∷ []) ≡ Some ProofBegins
proof_at s (inl e) = rw e refl
proof_at s (inr e) = rw e refl

-- extensions to the end, from where a comma may stand
to_end : (s : Extensions) (part : List ℕ) → AtComma End s → AreExtensions End part → (t : Extensions) × (goes s part ≡ Some t) × (extensions_may_end t ≡ true)
to_end s part at are =
    let flat = flat_map (λ (extension : List ℕ). 44 ∷ extension) are.0 in
    let way = each_goes End are.0 [] s are.1 at in
    (way.0, ap (goes s) (are.2 ∙ sym (append-nil flat)) ∙ way.2, end_at way.0 way.1)

abbrev IsNothing : List ℕ → Type 0
IsNothing rest = rest ≡ []

nothing_stops : (t : Extensions) (rest : List ℕ) → IsNothing rest → Stops extensions_go_on extensions_may_end t rest
nothing_stops t rest none = rw none tt

end_only : (part : List ℕ) → AreExtensions End part
    → (t : Extensions) × (goes (Comma End) part ≡ Some t) × (extensions_may_end t ≡ true) × ((rest : List ℕ) → rest ≡ [] → Stops extensions_go_on extensions_may_end t rest)
end_only part are = let way = to_end (Comma End) part (inl refl) are in (way.0, way.1, way.2, λ rest none. nothing_stops way.0 rest none)

values_only : (part : List ℕ) → Whole End part
    → (t : Extensions) × (goes (First End) part ≡ Some t) × (extensions_may_end t ≡ true) × ((rest : List ℕ) → rest ≡ [] → Stops extensions_go_on extensions_may_end t rest)
values_only part whole =
    let way = to_end (Value End) whole.1 (inr refl) whole.4 in (
      way.0,
      ap (goes (First End)) whole.2 ∙ first_goes End whole.0 whole.1 whole.3.some (value_run whole.0 whole.3) ∙ way.1,
      way.2,
      λ rest none. nothing_stops way.0 rest none,
    )

proof_stops : (rest : List ℕ) → Stops extensions_go_on extensions_may_end ProofBegins rest
proof_stops [] = tt
proof_stops (b ∷ rest) = refl

proof_only : (part : List ℕ) → Goal Proof part
    → (t : Extensions) × (goes (Comma Proof) part ≡ Some t) × (extensions_may_end t ≡ true) × ((rest : List ℕ) → Unit {0} → Stops extensions_go_on extensions_may_end t rest)
proof_only part goal =
    let are = goal.1 in
    let flat = flat_map (λ (extension : List ℕ). 44 ∷ extension) are.0 in
    let way = each_goes Proof are.0 (44 ∷ 112 ∷ 61 ∷ []) (Comma Proof) are.1 (inl refl) in
    let spelled : part ≡ flat ++ 44 ∷ 112 ∷ 61 ∷ [] = goal.2 ∙ ap (λ (x : List ℕ). x ++ 44 ∷ 112 ∷ 61 ∷ []) are.2 in
    (ProofBegins, ap (goes (Comma Proof)) spelled ∙ way.2 ∙ proof_at way.0 way.1, refl, λ rest u. proof_stops rest)

abbrev Ends : Extensions → Type 0
Ends t = (more : List ℕ) × (u : Extensions) × (goes t more ≡ Some u) × (extensions_may_end u ≡ true)

inside_ends : (until : Until) (tails : Tails) → (more : List ℕ) × (goes (Inside until tails) more ≡ Some (Value until))
inside_ends until One = (128 ∷ [], refl)
inside_ends until Two = (128 ∷ 128 ∷ [], refl)
inside_ends until Three = (128 ∷ 128 ∷ 128 ∷ [], refl)
inside_ends until AfterE0 = (160 ∷ 128 ∷ [], refl)
inside_ends until AfterED = (128 ∷ 128 ∷ [], refl)
inside_ends until AfterF0 = (144 ∷ 128 ∷ 128 ∷ [], refl)
inside_ends until AfterF4 = (128 ∷ 128 ∷ 128 ∷ [], refl)

value_ends : (until : Until) → Ends (Value until)
value_ends End = ([], Value End, refl, refl)
value_ends Proof = (44 ∷ 112 ∷ 61 ∷ [], ProofBegins, refl, refl)

after_value : (until : Until) (t : Extensions) (more : List ℕ) → goes t more ≡ Some (Value until) → Ends t
after_value until t more h =
    let end = value_ends until in
    (more ++ end.0, end.1, after_more extensions_go_on extensions_may_end t (Value until) more end.0 h ∙ end.2, end.3)

extensions_end : (t : Extensions) → Ends t
extensions_end (Comma End) = ([], Comma End, refl, refl)
extensions_end (Comma Proof) = (44 ∷ 112 ∷ 61 ∷ [], ProofBegins, refl, refl)
extensions_end (Letter End) = after_value End (Letter End) (97 ∷ 61 ∷ 97 ∷ []) refl
extensions_end (Letter Proof) = (112 ∷ 61 ∷ [], ProofBegins, refl, refl)
extensions_end (Equals until) = after_value until (Equals until) (61 ∷ 97 ∷ []) refl
extensions_end (First until) = after_value until (First until) (97 ∷ []) refl
extensions_end (Value until) = value_ends until
extensions_end (Inside until tails) = let end = inside_ends until tails in after_value until (Inside until tails) end.0 end.1
extensions_end ProofEquals = (61 ∷ [], ProofBegins, refl, refl)
extensions_end ProofBegins = ([], ProofBegins, refl, refl)

pub end_part : IsPart (run extensions_go_on extensions_may_end (Comma End)) (λ text part. (text ≡ part) × AreExtensions End part) (λ rest. rest ≡ [])
end_part = stopped_part extensions_go_on extensions_may_end (Comma End) (AreExtensions End) (λ rest. rest ≡ []) (extensions_found End) end_only extensions_end

pub values_part : IsPart (run extensions_go_on extensions_may_end (First End)) (λ text part. (text ≡ part) × Whole End part) (λ rest. rest ≡ [])
values_part = stopped_part extensions_go_on extensions_may_end (First End) (Whole End) (λ rest. rest ≡ []) values_found values_only extensions_end

pub proof_part : IsPart (run extensions_go_on extensions_may_end (Comma Proof)) (λ text part. (text ≡ part) × Goal Proof part) (λ rest. Unit {0})
proof_part = stopped_part extensions_go_on extensions_may_end (Comma Proof) (Goal Proof) (λ rest. Unit {0}) (extensions_found Proof) proof_only extensions_end
