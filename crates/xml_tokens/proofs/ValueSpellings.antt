-- The values that are read are those that the grammar has.
use Rattle.std.proofs.Common.{◌≡◌, ℕ, zero, suc, ◌+◌, ◌<◌, inl, ⊎_elim, Bool, true, false, eqb, not, ◌&&◌, ◌||◌, List, [], ◌∷◌, ◌++◌, Option, Some, None, encode_utf8, length, refl, sym, ap, subst, ◌∙◌, arith, append-nil, length-append}
use Rattle.std.proofs.Math.Bool.{and-false}
use Rattle.std.proofs.lemmas.Bool.{and_parts, and_from, cases_Bool, cond-true, eqb-true, false_from_ne_true, false≢true, not-false, not-true, not_from_false, or_cases, or_parts}
use Rattle.std.proofs.lemmas.Bool.Decides.{nat_tests}
use Rattle.std.proofs.lemmas.Option.{none-some, same_Some}
use Rattle.std.proofs.lemmas.Str.{IsUtf8-encode, is_utf8-from_IsUtf8}
use Rattle.std.specs.List.{list_all}
use Rattle.std.specs.Option.{option_and_then}
use Rattle.std.specs.Str.{IsUtf8, is_utf8}
use Rattle.base_lemmas.proofs.Conditions.{by_test, guard_tells}
use Rattle.xml_tokens.proofs.Going.{references_go_on}
use Rattle.xml_tokens.proofs.Splits.{after_stops, following-append, front-append, front_passes, joined}
use Rattle.xml_tokens.proofs.Utf8Runs.{runs_are_text, text_runs}
use Rattle.xml_tokens.proofs.ValueRuns.{ended, in_front-append, in_front-nil, reference_run}
use Rattle.xml_tokens.proofs.ValueTexts.{Runs, ascii_step, begins_anew, in_front_tells, leads, legal_scalar, reference_names, runs_append, said_tells, value_runs}
use Rattle.xml_tokens.specs.Characters.{are_characters, is_white}
use Rattle.xml_tokens.specs.Fronts.{front, following}
use Rattle.xml_tokens.specs.Lines.{line_ends, line_ends_after}
use Rattle.xml_tokens.specs.References.{each_goes_on, number_goes_on, reference_goes_on, referred}
use Rattle.xml_tokens.specs.Utf8.{utf8_run}
use Rattle.xml_tokens.specs.ValueGrammar.{IsValue, IsValueData, SpellsValue, data_alone, with_reference, space_of, spaces}
use Rattle.xml_tokens.specs.Values.{as_text, in_front, reference, said, text, value_from, value_of}
use Rattle.xml_tokens.specs.declared.references.Reference.TheVariants.{Character, Malformed}

abbrev no_mark : ℕ → Bool
no_mark b = not (eqb b 60 || eqb b 38)

abbrev no_end : ℕ → Bool
no_end b = not (eqb b 59)

-- ---- data

-- it makes no difference whether a carriage return stands before these bytes
abbrev Settled : List ℕ → Type 0
Settled rest = (returned : Bool) → value_from (text returned) rest ≡ value_from (text false) rest

nothing_settled : Settled []
nothing_settled returned = refl

ampersand_settled : (after : List ℕ) → Settled (38 ∷ after)
ampersand_settled after true = refl
ampersand_settled after false = refl

less_settled : (after : List ℕ) → Settled (60 ∷ after)
less_settled after true = refl
less_settled after false = refl

white_space : (b : ℕ) → (eqb b 9 || eqb b 10) ≡ true → space_of b ≡ 32
white_space b h = let white : is_white b ≡ true = grind (arith, nat_tests) in cond-true (is_white b) 32 b white

other_space : (b : ℕ) → eqb b 13 ≡ false → (eqb b 9 || eqb b 10) ≡ false → space_of b ≡ b
other_space b n13 other = grind (arith, nat_tests)

-- one byte of data said, in front of what the rest says
one_said : (b s : ℕ) (more : List ℕ) (rest : List ℕ) (o : Option (List ℕ)) → s ≡ b → in_front (b ∷ []) (in_front more o) ≡ in_front (s ∷ more) o
one_said b s more rest o same = ap (λ x. in_front (x ∷ []) (in_front more o)) (sym same) ∙ sym (in_front-append (s ∷ []) more o)

pub data_said : (plain rest : List ℕ) (returned : Bool) → IsValueData plain → Settled rest
    → value_from (text returned) (plain ++ rest) ≡ in_front (spaces (line_ends_after returned plain)) (value_from (text false) rest)
data_said [] rest returned h settled = settled returned ∙ sym (in_front-nil (value_from (text false) rest))
data_said (b ∷ bs) rest returned h settled =
    let p = and_parts (no_mark b) (list_all no_mark bs) h in
    let q = or_parts (eqb b 60) (eqb b 38) (not-true _ p.0) in
    let o = value_from (text false) rest in
    ⊎_elim
    (λ (n13 : eqb b 13 ≡ true).
    let no_feed : eqb b 10 ≡ false = grind (arith, nat_tests) in
    let unjoined : (returned && eqb b 10) ≡ false = rw no_feed (and-false returned) in
    rw (unjoined, q.1, q.0, n13) (ap (in_front (32 ∷ [])) (data_said bs rest true p.1 settled) ∙ one_said 32 32 (spaces (line_ends_after true bs)) rest o refl))
    (λ (n13 : eqb b 13 ≡ false).
    ⊎_elim
    (λ (joins : (returned && eqb b 10) ≡ true). rw (joins, n13) (data_said bs rest false p.1 settled))
    (λ (unjoined : (returned && eqb b 10) ≡ false).
    ⊎_elim
    (λ (white : (eqb b 9 || eqb b 10) ≡ true).
    rw (unjoined, q.1, q.0, n13, white) (ap (in_front (32 ∷ [])) (data_said bs rest false p.1 settled) ∙ one_said 32 (space_of b) (spaces (line_ends_after false bs)) rest o (white_space b white)))
    (λ (other : (eqb b 9 || eqb b 10) ≡ false).
    rw (unjoined, q.1, q.0, n13, other) (ap (in_front (b ∷ [])) (data_said bs rest false p.1 settled) ∙ one_said b (space_of b) (spaces (line_ends_after false bs)) rest o (other_space b n13 other)))
    (cases_Bool (eqb b 9 || eqb b 10)))
    (cases_Bool (returned && eqb b 10)))
    (cases_Bool (eqb b 13))

-- ---- the name of a reference has no `;`

number_ends : (xs : List ℕ) → number_goes_on xs 59 ≡ false
number_ends [] = refl
number_ends (x ∷ xs) = by_test (eqb x 120) (λ t. rw t refl) (λ f. rw f refl)

reference_ends : (so_far : List ℕ) → reference_goes_on so_far 59 ≡ false
unfolding reference_goes_on
reference_ends [] = refl
reference_ends (x ∷ xs) = by_test (eqb x 35) (λ t. rw t (number_ends xs)) (λ f. rw f refl)

-- `;` goes on no reference
pub goes_unended : (so_far : List ℕ) (b : ℕ) → reference_goes_on so_far b ≡ true → eqb b 59 ≡ false
goes_unended so_far b h =
    false_from_ne_true (eqb b 59) (λ e. false≢true (sym (reference_ends so_far) ∙ subst (λ x. reference_goes_on so_far x ≡ true) (eqb-true b 59 e) h))

each_unended : (so name : List ℕ) → each_goes_on so name ≡ true → list_all no_end name ≡ true
each_unended so [] h = refl
each_unended so (b ∷ bs) h =
    let p = and_parts (reference_goes_on so b) (each_goes_on (so ++ b ∷ []) bs) h in
    and_from _ _ (not_from_false _ (goes_unended so b p.0)) (each_unended (so ++ b ∷ []) bs p.1)

pub name_unended : (name : List ℕ) (c : ℕ) → referred name ≡ Character c → list_all no_end name ≡ true
name_unended name c e = each_unended [] name (references_go_on name (λ bad. let clash : Malformed ≡ Character c = sym bad ∙ e in cc))

-- ---- what is spelled is read

pub reference_said : (name rest more : List ℕ) (c : ℕ) → referred name ≡ Character c → value_from (text false) rest ≡ Some more → value_from (reference []) (name ++ (59 ∷ rest)) ≡ Some (encode_utf8 c ++ more)
reference_said name rest more c known is =
    let all = name_unended name c known in
    reference_run [] (name ++ (59 ∷ rest))
    ∙ ap (λ n. ended n (following no_end (name ++ (59 ∷ rest)))) (front-append no_end name (59 ∷ rest) all refl)
    ∙ ap (ended name) (following-append no_end name (59 ∷ rest) all refl)
    ∙ ap (λ r. said r (value_from (text false) rest)) known ∙ ap (said (Character c)) is

pub spelled_is_said : (raw v : List ℕ) → SpellsValue raw v → value_from (text false) raw ≡ Some v
spelled_is_said raw v (data_alone _ _ plain says) =
    ap (value_from (text false)) (sym (append-nil raw)) ∙ data_said raw [] false plain nothing_settled
    ∙ ap Some (append-nil (spaces (line_ends raw)) ∙ sym says)
spelled_is_said raw v (with_reference _ _ plain name rest more c plainly known spelled is says) =
    let after = name ++ (59 ∷ rest) in
    ap (value_from (text false)) is ∙ data_said plain (38 ∷ after) false plainly (ampersand_settled after)
    ∙ ap (in_front (spaces (line_ends plain))) (reference_said name rest more c known (spelled_is_said rest more spelled))
    ∙ ap Some (sym says)

-- ---- what is read is spelled

-- what stands after the name of a reference
record Ends (after v : List ℕ) : Type 0 where
  name : List ℕ
  rest : List ℕ
  more : List ℕ
  c : ℕ
  known : referred name ≡ Character c
  says : value_from (text false) rest ≡ Some more
  is : after ≡ name ++ (59 ∷ rest)
  value_is : v ≡ encode_utf8 c ++ more

ends_after : (name tail after v : List ℕ) → front no_end after ≡ name → following no_end after ≡ tail → ended name tail ≡ Some v → Ends after v
ends_after name [] after v f b e = absurd (none-some v e)
ends_after name (x ∷ rest) after v f b e =
    let s = said_tells (referred name) (value_from (text false) rest) v e in
    let semicolon : x ≡ 59 = eqb-true x 59 (not-false _ (after_stops no_end after x rest b)) in
    record {
      name = name;
      rest = rest;
      more = s.2.more;
      c = s.0;
      known = s.1;
      says = s.2.is;
      is = sym (joined no_end after) ∙ ap (λ l. l ++ following no_end after) f ∙ ap (λ l. name ++ l) (b ∙ ap (λ y. y ∷ rest) semicolon);
      value_is = s.2.value_is;
    }

reference_tells : (after v : List ℕ) → value_from (reference []) after ≡ Some v → Ends after v
reference_tells after v e = ends_after (front no_end after) (following no_end after) after v refl refl (sym (reference_run [] after) ∙ e)

rest_shorter : (raw plain name rest : List ℕ) (k : ℕ) → raw ≡ plain ++ (38 ∷ (name ++ (59 ∷ rest))) → length raw < suc k → length rest < k
rest_shorter raw plain name rest k is less =
    let len : length raw ≡ length plain + suc (length name + suc (length rest)) = ap length is ∙ simp length-append in
    omega arith

module _ (k : ℕ) (ih : (raw v : List ℕ) → length raw < k → value_from (text false) raw ≡ Some v → SpellsValue raw v) (raw v : List ℕ) (less : length raw < suc k) (e : value_from (text false) raw ≡ Some v) where
  plainly : IsValueData (front no_mark raw)
  plainly = front_passes no_mark raw

  said_first : (tail : List ℕ) → following no_mark raw ≡ tail → Settled tail → in_front (spaces (line_ends (front no_mark raw))) (value_from (text false) tail) ≡ Some v
  said_first tail b settled =
      sym (data_said (front no_mark raw) tail false plainly settled) ∙ ap (λ l. value_from (text false) (front no_mark raw ++ l)) (sym b) ∙ ap (value_from (text false)) (joined no_mark raw) ∙ e

  with_ampersand : (after : List ℕ) → following no_mark raw ≡ 38 ∷ after → SpellsValue raw v
  with_ampersand after b =
      let s = in_front_tells (spaces (line_ends (front no_mark raw))) (value_from (reference []) after) v (said_first (38 ∷ after) b (ampersand_settled after)) in
      let r = reference_tells after s.more s.is in
      let is : raw ≡ front no_mark raw ++ (38 ∷ (r.name ++ (59 ∷ r.rest))) = sym (joined no_mark raw) ∙ ap (λ l. front no_mark raw ++ l) (b ∙ ap (λ l. 38 ∷ l) r.is) in
      with_reference raw v (front no_mark raw) r.name r.rest r.more r.c plainly r.known
      (ih r.rest r.more (rest_shorter raw (front no_mark raw) r.name r.rest k is less) r.says) is (s.value_is ∙ ap (λ l. spaces (line_ends (front no_mark raw)) ++ l) r.value_is)

  at_tail : (tail : List ℕ) → following no_mark raw ≡ tail → SpellsValue raw v
  at_tail [] b =
      let whole : front no_mark raw ≡ raw = sym (append-nil (front no_mark raw)) ∙ ap (λ l. front no_mark raw ++ l) (sym b) ∙ joined no_mark raw in
      let says : v ≡ spaces (line_ends raw) =
      sym (same_Some _ v (said_first [] b nothing_settled)) ∙ append-nil (spaces (line_ends (front no_mark raw))) ∙ ap (λ l. spaces (line_ends l)) whole in
      data_alone raw v (subst IsValueData whole plainly) says
  at_tail (x ∷ after) b =
      ⊎_elim
      (λ (less_than : eqb x 60 ≡ true).
      let b60 : following no_mark raw ≡ 60 ∷ after = b ∙ ap (λ y. y ∷ after) (eqb-true x 60 less_than) in
      absurd (none-some v (said_first (60 ∷ after) b60 (less_settled after))))
      (λ (ampersand : eqb x 38 ≡ true). with_ampersand after (b ∙ ap (λ y. y ∷ after) (eqb-true x 38 ampersand)))
      (or_cases (eqb x 60) (eqb x 38) (not-false _ (after_stops no_mark raw x after b)))

said_within : (k : ℕ) (raw v : List ℕ) → length raw < k → value_from (text false) raw ≡ Some v → SpellsValue raw v
said_within zero raw v less e = absurd (omega arith)
said_within (suc k) raw v less e = at_tail k (said_within k) raw v less e (following no_mark raw) refl

pub said_is_spelled : (raw v : List ℕ) → value_from (text false) raw ≡ Some v → SpellsValue raw v
said_is_spelled raw v e = said_within (suc (length raw)) raw v (omega arith) e

-- ---- what is said of a text is a text

-- where a byte of ASCII stands, no character is in hand before it or after it
record AtAscii (held bs : List ℕ) : Type 0 where
  nothing : held ≡ []
  goes : Runs [] bs

ascii_alone : (b : ℕ) (held bs : List ℕ) → b < 128 → Runs held (b ∷ bs) → AtAscii held bs
ascii_alone b held bs low h =
    let l = leads held b bs h in
    let nothing = begins_anew b held l.next (inl low) l.is in
    record { nothing = nothing; goes = sym (ascii_step b bs low) ∙ ap (λ x. utf8_run x (b ∷ bs)) (sym nothing) ∙ h }

record Parts (held plain after : List ℕ) : Type 0 where
  first : Runs held plain
  second : Runs [] after

parts_at : (b : ℕ) (plain after held : List ℕ) → b < 128 → Runs held (plain ++ (b ∷ after)) → Parts held plain after
parts_at b [] after held low h = let a = ascii_alone b held after low h in record { first = ap Some a.nothing; second = a.goes }
parts_at b (x ∷ xs) after held low h =
    let l = leads held x (xs ++ (b ∷ after)) h in
    let p = parts_at b xs after l.next low l.goes in
    record { first = ap (option_and_then (λ next. utf8_run next xs)) l.is ∙ p.first; second = p.second }

-- a byte of ASCII in place of another
spaced : (held : List ℕ) (bs : List ℕ) → held ≡ [] → Runs [] bs → Runs held (32 ∷ bs)
spaced held bs nothing h = ap (λ x. utf8_run x (32 ∷ bs)) nothing ∙ ascii_step 32 bs (omega arith) ∙ h

spaces_run : (bs : List ℕ) (returned : Bool) (held : List ℕ) → Runs held bs → Runs held (spaces (line_ends_after returned bs))
spaces_run [] returned held h = h
spaces_run (b ∷ bs) returned held h =
    ⊎_elim
    (λ (n13 : eqb b 13 ≡ true).
    let low : b < 128 = grind (arith, nat_tests) in
    let a = ascii_alone b held bs low h in
    rw n13 (spaced held (spaces (line_ends_after true bs)) a.nothing (spaces_run bs true [] a.goes)))
    (λ (n13 : eqb b 13 ≡ false).
    ⊎_elim
    (λ (joins : (returned && eqb b 10) ≡ true).
    let feed = (and_parts returned (eqb b 10) joins).1 in
    let low : b < 128 = grind (arith, nat_tests) in
    let a = ascii_alone b held bs low h in
    rw (n13, joins, a.nothing) (spaces_run bs false [] a.goes))
    (λ (unjoined : (returned && eqb b 10) ≡ false).
    ⊎_elim
    (λ (white : is_white b ≡ true).
    let low : b < 128 = grind (arith, nat_tests) in
    let a = ascii_alone b held bs low h in
    rw (n13, unjoined, white) (spaced held (spaces (line_ends_after false bs)) a.nothing (spaces_run bs false [] a.goes)))
    (λ (other : is_white b ≡ false).
    let l = leads held b bs h in
    rw (n13, unjoined, other) (ap (option_and_then (λ next. utf8_run next (spaces (line_ends_after false bs)))) l.is ∙ spaces_run bs false l.next l.goes))
    (cases_Bool (is_white b)))
    (cases_Bool (returned && eqb b 10)))
    (cases_Bool (eqb b 13))

said_runs : (raw v : List ℕ) → SpellsValue raw v → Runs [] raw → Runs [] v
said_runs raw v (data_alone _ _ plain says) h = ap (utf8_run []) says ∙ spaces_run raw false [] h
said_runs raw v (with_reference _ _ plain name rest more c plainly known spelled is says) h =
    let p = parts_at 38 plain (name ++ (59 ∷ rest)) [] (omega arith) (ap (utf8_run []) (sym is) ∙ h) in
    let n = reference_names name c known in
    let q = parts_at 59 name rest [] (omega arith) p.second in
    let character : Runs [] (encode_utf8 c) = text_runs (encode_utf8 c) (IsUtf8-encode c (legal_scalar c n.legal)) in
    ap (utf8_run []) says ∙ runs_append (spaces (line_ends plain)) (encode_utf8 c ++ more) [] (spaces_run plain false [] p.first)
    ∙ runs_append (encode_utf8 c) more [] character ∙ said_runs rest more spelled q.second

pub said_is_text : (raw v : List ℕ) → SpellsValue raw v → IsUtf8 raw → IsUtf8 v
said_is_text raw v spelled h = runs_are_text [] v tt (said_runs raw v spelled (text_runs raw h))

-- ---- a value

as_text_tells : (o : Option (List ℕ)) (v : List ℕ) → as_text o ≡ Some v → o ≡ Some v
as_text_tells None v e = absurd (none-some v e)
as_text_tells (Some w) v e = (guard_tells (is_utf8 w) (Some w) v e).1

pub is_value : (raw v : List ℕ) → value_of raw ≡ Some v → IsValue raw v
unfolding value_of
is_value raw v e =
    let g = guard_tells (are_characters raw) (as_text (value_from (text false) raw)) v e in
    record {
      characters = record { utf8 = runs_are_text [] raw tt (value_runs raw v e); characters = g.0 };
      spelled = said_is_spelled raw v (as_text_tells (value_from (text false) raw) v g.1);
    }

pub says_value : (raw v : List ℕ) → IsValue raw v → value_of raw ≡ Some v
unfolding value_of
says_value raw v h =
    cond-true (are_characters raw) (as_text (value_from (text false) raw)) None h.characters.characters
    ∙ ap as_text (spelled_is_said raw v h.spelled)
    ∙ cond-true (is_utf8 v) (Some v) None (is_utf8-from_IsUtf8 v (said_is_text raw v h.spelled h.characters.utf8))
