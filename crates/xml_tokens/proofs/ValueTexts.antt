-- What stands between the quotes of a value is UTF-8 where the value is.
use Rattle.std.proofs.Common.{◌≡◌, ℕ, ◌<◌, ◌≤◌, ◌⊎◌, inl, inr, ⊎_elim, Bool, true, false, cond, eqb, ltb, not, ◌&&◌, ◌||◌, List, [], ◌∷◌, ◌++◌, Option, Some, None, codes, bytes_eq, refl, sym, ap, subst, ◌∙◌, arith}
use Rattle.std.proofs.lemmas.Bool.{cases_Bool, cases_lt, and_parts, and_from, cond-true, cond-false, eqb-true, false_from_ne_true, false≢true, lt-ltb, le-ltb, ltb-true, or_cases}
use Rattle.std.proofs.lemmas.Bool.Decides.{nat_tests}
use Rattle.std.proofs.lemmas.Option.{none-some, same_Some}
use Rattle.std.proofs.lemmas.Slice.Eq.{bytes_eq-Decides}
use Rattle.std.proofs.lemmas.Str.{IsUtf8-encode, IsUtf8-from_is_utf8}
use Rattle.std.specs.List.{list_all}
use Rattle.std.specs.Option.{option_and_then}
use Rattle.std.specs.Prelude.{encode_utf8}
use Rattle.std.specs.Str.{IsUtf8, is_utf8}
use lib.Utf8.{scalar, encode}
use Rattle.base_lemmas.proofs.Conditions.{chosen}
use Rattle.xml_tokens.proofs.Utf8Runs.{text_runs}
use Rattle.xml_tokens.proofs.ValueRuns.{ended, reference_run}
use Rattle.xml_tokens.specs.Characters.{are_characters, is_character, is_digit, is_name}
use Rattle.xml_tokens.specs.Fronts.{front, following}
use Rattle.xml_tokens.specs.References.{character_numbered, character_reference, decimal_reference, entity_reference, hexadecimal_reference, is_hex_digit, number_of, referred}
use Rattle.xml_tokens.specs.Utf8.{is_lead, is_second, is_tail, utf8_next, utf8_run}
use Rattle.xml_tokens.specs.Values.{as_text, in_front, reference, said, text, value_from, value_of}
use Rattle.xml_tokens.specs.declared.references.Reference.{Reference}
use Rattle.xml_tokens.specs.declared.references.Reference.TheVariants.{Character, Unknown, Malformed}

abbrev pub Runs : List ℕ → List ℕ → Type 0
Runs held bs = utf8_run held bs ≡ Some []

abbrev pub are_ascii : List ℕ → Bool
are_ascii bs = list_all (λ b. ltb b 128) bs

-- ---- the character in hand

pub record Leads (held : List ℕ) (b : ℕ) (bs : List ℕ) : Type 0 where
  pub next : List ℕ
  pub is : utf8_next held b ≡ Some next
  pub goes : utf8_run next bs ≡ Some []

pub leads : (held : List ℕ) (b : ℕ) (bs : List ℕ) → utf8_run held (b ∷ bs) ≡ Some [] → Leads held b bs
leads held b bs h = from (utf8_next held b) refl h
  where
    from : (o : Option (List ℕ)) → utf8_next held b ≡ o → option_and_then (λ next. utf8_run next bs) o ≡ Some [] → Leads held b bs
    from None is h = absurd cc
    from (Some next) is h = record { next = next; is = is; goes = h }

pub runs_append : (a b held : List ℕ) → utf8_run held a ≡ Some [] → utf8_run held (a ++ b) ≡ utf8_run [] b
runs_append [] b held h = let same : held ≡ [] = same_Some held [] h in ap (λ l. utf8_run l b) same
runs_append (x ∷ xs) b held h =
    let l = leads held x xs h in
    ap (option_and_then (λ next. utf8_run next (xs ++ b))) l.is ∙ runs_append xs b l.next l.goes

pub ascii_step : (b : ℕ) (bs : List ℕ) → b < 128 → utf8_run [] (b ∷ bs) ≡ utf8_run [] bs
unfolding utf8_next
ascii_step b bs low = ap (option_and_then (λ next. utf8_run next bs)) (cond-true (ltb b 128) (Some []) (cond (is_lead b) (Some (b ∷ [])) None) (lt-ltb b 128 low))

pub ascii_runs : (bs : List ℕ) → are_ascii bs ≡ true → utf8_run [] bs ≡ Some []
ascii_runs [] h = refl
ascii_runs (b ∷ bs) h = let p = and_parts (ltb b 128) (are_ascii bs) h in ascii_step b bs (ltb-true b 128 p.0) ∙ ascii_runs bs p.1

-- a byte that is no tail of a character
abbrev pub Begins : ℕ → Type 0
Begins b = (b < 128) ⊎ (192 ≤ b)

no_second : (x b : ℕ) → Begins b → is_second x b ≡ false
no_second x b (inl low) = false_from_ne_true (is_second x b) (λ h. high x b low h)
  where
    high : (x b : ℕ) → b < 128 → is_second x b ≡ true → ⊥
    high x b low h = grind (arith, nat_tests)
no_second x b (inr top) = false_from_ne_true (is_second x b) (λ h. low x b top h)
  where
    low : (x b : ℕ) → 192 ≤ b → is_second x b ≡ true → ⊥
    low x b top h = grind (arith, nat_tests)

no_tail : (b : ℕ) → Begins b → is_tail b ≡ false
no_tail b (inl low) = grind (arith, nat_tests)
no_tail b (inr top) = grind (arith, nat_tests)

-- such a byte stands where no character is in hand
pub begins_anew : (b : ℕ) (held next : List ℕ) → Begins b → utf8_next held b ≡ Some next → held ≡ []
unfolding utf8_next
begins_anew b [] next h e = refl
begins_anew b (x ∷ []) next h e = absurd (none-some next (sym (cond-false (is_second x b) _ None (no_second x b h)) ∙ e))
begins_anew b (x ∷ y ∷ []) next h e = absurd (none-some next (sym (cond-false (is_tail b) _ None (no_tail b h)) ∙ e))
begins_anew b (x ∷ y ∷ z ∷ more) next h e = absurd (none-some next (sym (cond-false (is_tail b) _ None (no_tail b h)) ∙ e))

-- ---- the text of a reference

pub record Names (name : List ℕ) (c : ℕ) : Type 0 where
  pub ascii : are_ascii name ≡ true
  pub legal : is_character c ≡ true

each_ascii : (is_one : ℕ → Bool) → ((b : ℕ) → is_one b ≡ true → ltb b 128 ≡ true) → (bs : List ℕ) → list_all is_one bs ≡ true → are_ascii bs ≡ true
each_ascii is_one low [] h = refl
each_ascii is_one low (b ∷ bs) h = let p = and_parts (is_one b) (list_all is_one bs) h in and_from _ _ (low b p.0) (each_ascii is_one low bs p.1)

digit_low : (b : ℕ) → is_digit b ≡ true → ltb b 128 ≡ true
digit_low b h = grind (arith, nat_tests)

hex_digit_low : (b : ℕ) → is_hex_digit b ≡ true → ltb b 128 ≡ true
hex_digit_low b h = grind (arith, nat_tests)

malformed : (c : ℕ) → Malformed ≡ Character c → ⊥
malformed c e = cc

unknown : (c : ℕ) → Unknown ≡ Character c → ⊥
unknown c e = cc

same_character : (n c : ℕ) → Character n ≡ Character c → n ≡ c
same_character n c e = cc

numbered : (n c : ℕ) → character_numbered n ≡ Character c → is_character c ≡ true
numbered n c e =
    ⊎_elim
    (λ (t : is_character n ≡ true). subst (λ m. is_character m ≡ true) (same_character n c (sym (cond-true (is_character n) (Character n) Malformed t) ∙ e)) t)
    (λ (f : is_character n ≡ false). absurd (malformed c (sym (cond-false (is_character n) (Character n) Malformed f) ∙ e)))
    (cases_Bool (is_character n))

decimal_names : (ds : List ℕ) (c : ℕ) → decimal_reference ds ≡ Character c → Names ds c
decimal_names [] c e = absurd (malformed c e)
decimal_names (d ∷ ds) c e =
    ⊎_elim
    (λ (t : list_all is_digit (d ∷ ds) ≡ true).
    let is = sym (cond-true (list_all is_digit (d ∷ ds)) (character_numbered (number_of 10 (d ∷ ds))) Malformed t) ∙ e in
    let n : Names (d ∷ ds) c = record { ascii = each_ascii is_digit digit_low (d ∷ ds) t; legal = numbered (number_of 10 (d ∷ ds)) c is } in n)
    (λ (f : list_all is_digit (d ∷ ds) ≡ false). absurd (malformed c (sym (cond-false (list_all is_digit (d ∷ ds)) (character_numbered (number_of 10 (d ∷ ds))) Malformed f) ∙ e)))
    (cases_Bool (list_all is_digit (d ∷ ds)))

hexadecimal_names : (ds : List ℕ) (c : ℕ) → hexadecimal_reference ds ≡ Character c → Names ds c
hexadecimal_names [] c e = absurd (malformed c e)
hexadecimal_names (d ∷ ds) c e =
    ⊎_elim
    (λ (t : list_all is_hex_digit (d ∷ ds) ≡ true).
    let is = sym (cond-true (list_all is_hex_digit (d ∷ ds)) (character_numbered (number_of 16 (d ∷ ds))) Malformed t) ∙ e in
    let n : Names (d ∷ ds) c = record { ascii = each_ascii is_hex_digit hex_digit_low (d ∷ ds) t; legal = numbered (number_of 16 (d ∷ ds)) c is } in n)
    (λ (f : list_all is_hex_digit (d ∷ ds) ≡ false). absurd (malformed c (sym (cond-false (list_all is_hex_digit (d ∷ ds)) (character_numbered (number_of 16 (d ∷ ds))) Malformed f) ∙ e)))
    (cases_Bool (list_all is_hex_digit (d ∷ ds)))

after_ascii : (b n c : ℕ) (bs : List ℕ) → eqb b n ≡ true → ltb n 128 ≡ true → Names bs c → Names (b ∷ bs) c
after_ascii b n c bs e low h = record { ascii = and_from _ _ (ap (λ x. ltb x 128) (eqb-true b n e) ∙ low) h.ascii; legal = h.legal }

character_names : (bs : List ℕ) (c : ℕ) → character_reference bs ≡ Character c → Names bs c
character_names [] c e = absurd (malformed c e)
character_names (b ∷ bs) c e =
    ⊎_elim
    (λ (t : eqb b 120 ≡ true). after_ascii b 120 c bs t refl (hexadecimal_names bs c (sym (cond-true (eqb b 120) (hexadecimal_reference bs) (decimal_reference (b ∷ bs)) t) ∙ e)))
    (λ (f : eqb b 120 ≡ false). decimal_names (b ∷ bs) c (sym (cond-false (eqb b 120) (hexadecimal_reference bs) (decimal_reference (b ∷ bs)) f) ∙ e))
    (cases_Bool (eqb b 120))

-- one of the predefined entities, or what comes behind it
entity : (name what : List ℕ) (n c : ℕ) (other : Reference) → are_ascii what ≡ true → is_character n ≡ true → (other ≡ Character c → Names name c) → cond (bytes_eq name what) (Character n) other ≡ Character c → Names name c
entity name what n c other ascii legal rest e =
    ⊎_elim
    (λ (t : bytes_eq name what ≡ true).
    let same : n ≡ c = same_character n c (sym (cond-true (bytes_eq name what) (Character n) other t) ∙ e) in
    let named : Names name c = record { ascii = subst (λ l. are_ascii l ≡ true) (sym ((bytes_eq-Decides name what).0 t)) ascii; legal = subst (λ m. is_character m ≡ true) same legal } in named)
    (λ (f : bytes_eq name what ≡ false). rest (sym (cond-false (bytes_eq name what) (Character n) other f) ∙ e))
    (cases_Bool (bytes_eq name what))

no_entity : (b : Bool) (c : ℕ) → cond b Unknown Malformed ≡ Character c → ⊥
no_entity true c e = unknown c e
no_entity false c e = malformed c e

entity_names : (name : List ℕ) (c : ℕ) → entity_reference name ≡ Character c → Names name c
entity_names name c =
    entity name (codes "amp") 38 c _ refl refl
    (entity name (codes "lt") 60 c _ refl refl
    (entity name (codes "gt") 62 c _ refl refl
    (entity name (codes "apos") 39 c _ refl refl
    (entity name (codes "quot") 34 c _ refl refl (λ e. absurd (no_entity (is_name name) c e))))))

pub reference_names : (name : List ℕ) (c : ℕ) → referred name ≡ Character c → Names name c
unfolding referred
reference_names [] c e = absurd (malformed c e)
reference_names (b ∷ bs) c e =
    ⊎_elim
    (λ (t : eqb b 35 ≡ true). after_ascii b 35 c bs t refl (character_names bs c (sym (cond-true (eqb b 35) (character_reference bs) (entity_reference (b ∷ bs)) t) ∙ e)))
    (λ (f : eqb b 35 ≡ false). entity_names (b ∷ bs) c (sym (cond-false (eqb b 35) (character_reference bs) (entity_reference (b ∷ bs)) f) ∙ e))
    (cases_Bool (eqb b 35))

-- ---- a character that a reference says

pub legal_scalar : (c : ℕ) → is_character c ≡ true → scalar c ≡ true
legal_scalar c h = grind (arith, nat_tests)

record Started (bs : List ℕ) : Type 0 where
  first : ℕ
  others : List ℕ
  is : bs ≡ first ∷ others
  begins : Begins first

encoded_begins : (c : ℕ) → Started (encode c)
unfolding encode
encoded_begins c =
    ⊎_elim (λ small. rw (lt-ltb c 128 small) (record { first = c; others = []; is = refl; begins = inl small }))
    (λ a. ⊎_elim (λ small. rw (le-ltb c 128 a, lt-ltb c 2048 small) (record { first = _; others = _; is = refl; begins = inr (omega arith) }))
    (λ b. ⊎_elim (λ small. rw (le-ltb c 128 a, le-ltb c 2048 b, lt-ltb c 65536 small) (record { first = _; others = _; is = refl; begins = inr (omega arith) }))
    (λ d. rw (le-ltb c 128 a, le-ltb c 2048 b, le-ltb c 65536 d) (record { first = _; others = _; is = refl; begins = inr (omega arith) }))
    (cases_lt c 65536)) (cases_lt c 2048)) (cases_lt c 128)

-- it stands where no character is in hand
pub encoded_anew : (c : ℕ) (held more : List ℕ) → Runs held (encode c ++ more) → held ≡ []
encoded_anew c held more h =
    let s = encoded_begins c in
    let l = leads held s.first (s.others ++ more) (ap (λ e. utf8_run held (e ++ more)) (sym s.is) ∙ h) in
    begins_anew s.first held l.next s.begins l.is

pub encoded_after : (c : ℕ) (held more : List ℕ) → is_character c ≡ true → Runs held (encode c ++ more) → Runs [] more
encoded_after c held more legal h =
    let anew = encoded_anew c held more h in
    let alone : Runs [] (encode c) = text_runs (encode c) (IsUtf8-encode c (legal_scalar c legal)) in
    sym (runs_append (encode c) more [] alone) ∙ ap (λ l. utf8_run l (encode c ++ more)) (sym anew) ∙ h

-- ---- a value

pub record Says (c : ℕ) (o : Option (List ℕ)) (v : List ℕ) : Type 0 where
  pub more : List ℕ
  pub is : o ≡ Some more
  pub value_is : v ≡ encode_utf8 c ++ more

pub said_tells : (r : Reference) (o : Option (List ℕ)) (v : List ℕ) → said r o ≡ Some v → (c : ℕ) × (r ≡ Character c) × Says c o v
said_tells (Character c) None v e = absurd cc
said_tells (Character c) (Some w) v e = (c, refl, record { more = w; is = refl; value_is = same_Some v (encode_utf8 c ++ w) (sym e) })
said_tells Unknown o v e = absurd cc
said_tells Malformed o v e = absurd cc

pub record Fronted (first : List ℕ) (o : Option (List ℕ)) (v : List ℕ) : Type 0 where
  pub more : List ℕ
  pub is : o ≡ Some more
  pub value_is : v ≡ first ++ more

pub in_front_tells : (first : List ℕ) (o : Option (List ℕ)) (v : List ℕ) → in_front first o ≡ Some v → Fronted first o v
in_front_tells first None v e = absurd cc
in_front_tells first (Some w) v e = record { more = w; is = refl; value_is = same_Some v (first ++ w) (sym e) }

-- a byte of the name in hand
inside_name : (so more : List ℕ) (b : ℕ) → are_ascii ((so ++ b ∷ []) ++ more) ≡ true → b < 128
inside_name [] more b h = ltb-true b 128 (and_parts (ltb b 128) _ h).0
inside_name (x ∷ xs) more b h = inside_name xs more b (and_parts (ltb x 128) _ h).1

ended_tells : (name rest v : List ℕ) → ended name rest ≡ Some v → (c : ℕ) × (referred name ≡ Character c)
ended_tells name [] v e = absurd cc
ended_tells name (x ∷ xs) v e = let s = said_tells (referred name) (value_from (text false) xs) v e in (s.0, s.1)

name_byte : (bs so : List ℕ) (b : ℕ) (v : List ℕ) → value_from (reference (so ++ b ∷ [])) bs ≡ Some v → b < 128
name_byte bs so b v e =
    let rest = front (λ b. not (eqb b 59)) bs in
    let t = ended_tells ((so ++ b ∷ []) ++ front (λ b. not (eqb b 59)) bs) (following (λ b. not (eqb b 59)) bs) v (sym (reference_run (so ++ b ∷ []) bs) ∙ e) in
    inside_name so rest b (reference_names ((so ++ b ∷ []) ++ rest) t.0 t.1).ascii

-- a byte of ASCII where no character is in hand
plain_step : (b n : ℕ) (bs : List ℕ) → eqb b n ≡ true → n < 128 → Runs [] bs → Runs [] (b ∷ bs)
plain_step b n bs e low h = ap (λ x. utf8_run [] (x ∷ bs)) (eqb-true b n e) ∙ ascii_step n bs low ∙ h

record Spaced (held more : List ℕ) : Type 0 where
  nothing : held ≡ []
  goes : Runs [] more

space_tells : (held v : List ℕ) (o : Option (List ℕ)) → in_front (32 ∷ []) o ≡ Some v → Runs held v → (more : List ℕ) × (o ≡ Some more) × Spaced held more
space_tells held v o e h =
    let f = in_front_tells (32 ∷ []) o v e in
    let l = leads held 32 f.more (ap (utf8_run held) (sym f.value_is) ∙ h) in
    let nothing = begins_anew 32 held l.next (inl (omega arith)) l.is in
    let following : Runs [] f.more = sym (ascii_step 32 f.more (omega arith)) ∙ ap (λ s. utf8_run s (32 ∷ f.more)) (sym nothing) ∙ ap (utf8_run held) (sym f.value_is) ∙ h in
    (f.more, f.is, record { nothing = nothing; goes = following })

mutual
  text_after : (bs : List ℕ) (returned : Bool) (held v : List ℕ) → value_from (text returned) bs ≡ Some v → (returned ≡ true → held ≡ []) → Runs held v → Runs held bs
  text_after [] returned held v e anew h = let same : [] ≡ v = same_Some [] v e in ap (utf8_run held) same ∙ h
  text_after (b ∷ bs) returned held v e anew h =
      ⊎_elim (λ c.
      let p = and_parts returned (eqb b 10) c.0 in
      let nothing = anew p.0 in
      let rest = text_after bs false [] v c.1 (λ other. refl) (ap (λ s. utf8_run s v) (sym nothing) ∙ h) in
      ap (λ s. utf8_run s (b ∷ bs)) nothing ∙ plain_step b 10 bs p.1 (omega arith) rest)
      (λ c. ⊎_elim (λ d. let r = reference_after bs [] held v d.1 h in ap (λ s. utf8_run s (b ∷ bs)) r.nothing ∙ plain_step b 38 bs d.0 (omega arith) r.goes)
      (λ d. ⊎_elim (λ f. absurd (none-some v f.1))
      (λ f. ⊎_elim (λ g.
      let s = space_tells held v (value_from (text true) bs) g.1 h in
      ap (λ s. utf8_run s (b ∷ bs)) s.2.nothing ∙ plain_step b 13 bs g.0 (omega arith) (text_after bs true [] s.0 s.1 (λ other. refl) s.2.goes))
      (λ g. ⊎_elim (λ k.
      let s = space_tells held v (value_from (text false) bs) k.1 h in
      let rest = text_after bs false [] s.0 s.1 (λ other. refl) s.2.goes in
      ap (λ s. utf8_run s (b ∷ bs)) s.2.nothing
      ∙ ⊎_elim (λ tab. plain_step b 9 bs tab (omega arith) rest) (λ feed. plain_step b 10 bs feed (omega arith) rest) (or_cases (eqb b 9) (eqb b 10) k.0))
      (λ k.
      let s = in_front_tells (b ∷ []) (value_from (text false) bs) v k.1 in
      let l = leads held b s.more (ap (utf8_run held) (sym s.value_is) ∙ h) in
      ap (option_and_then (λ next. utf8_run next bs)) l.is ∙ text_after bs false l.next s.more s.is (λ never. absurd (false≢true never)) l.goes)
      (chosen (eqb b 9 || eqb b 10) _ _ (Some v) g.1)) (chosen (eqb b 13) _ _ (Some v) f.1)) (chosen (eqb b 60) _ _ (Some v) d.1)) (chosen (eqb b 38) _ _ (Some v) c.1)) (chosen (returned && eqb b 10) _ _ (Some v) e)

  reference_after : (bs so held v : List ℕ) → value_from (reference so) bs ≡ Some v → Runs held v → Spaced held bs
  reference_after [] so held v e h = absurd (none-some v e)
  reference_after (b ∷ bs) so held v e h =
      ⊎_elim
      (λ end.
      let s = said_tells (referred so) (value_from (text false) bs) v end.1 in
      let n = reference_names so s.0 s.1 in
      let whole : Runs held (encode_utf8 s.0 ++ s.2.more) = ap (utf8_run held) (sym s.2.value_is) ∙ h in
      let rest = text_after bs false [] s.2.more s.2.is (λ other. refl) (encoded_after s.0 held s.2.more n.legal whole) in
      let both : Spaced held (b ∷ bs) = record { nothing = encoded_anew s.0 held s.2.more whole; goes = plain_step b 59 bs end.0 (omega arith) rest } in both)
      (λ on.
      let r = reference_after bs (so ++ b ∷ []) held v on.1 h in
      let both : Spaced held (b ∷ bs) = record { nothing = r.nothing; goes = ascii_step b bs (name_byte bs so b v on.1) ∙ r.goes } in both)
      (chosen (eqb b 59) _ _ (Some v) e)

text_of : (o : Option (List ℕ)) (v : List ℕ) → as_text o ≡ Some v → (w : List ℕ) × (o ≡ Some w) × IsUtf8 w
text_of None v e = absurd cc
text_of (Some w) v e =
    ⊎_elim (λ (t : is_utf8 w ≡ true). (w, refl, IsUtf8-from_is_utf8 w t)) (λ (f : is_utf8 w ≡ false). absurd (none-some v (sym (cond-false (is_utf8 w) (Some w) None f) ∙ e))) (cases_Bool (is_utf8 w))

pub value_runs : (raw v : List ℕ) → value_of raw ≡ Some v → utf8_run [] raw ≡ Some []
unfolding value_of
value_runs raw v e =
    ⊎_elim (λ c. let w = text_of (value_from (text false) raw) v c.1 in text_after raw false [] w.0 w.1 (λ other. refl) (text_runs w.0 w.2)) (λ c. absurd (none-some v c.1)) (chosen (are_characters raw) _ _ (Some v) e)
