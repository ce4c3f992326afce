-- Reading a declaration is its grammar.
use Rattle.std.proofs.Common.{◌≡◌, ◌↔◌, ℕ, zero, suc, inl, inr, Bool, true, false, cond, not, ◌&&◌, ◌||◌, List, [], ◌∷◌, ◌++◌, Option, Some, None, length, take, drop, refl, sym, ap, subst, ◌∙◌, ⊎_elim}
use Rattle.std.proofs.lemmas.Bool.{and_parts, and_from, or_right, or_cases, false≢true, not-true, cond-true, cond-false}
use Rattle.std.proofs.lemmas.List.{take-append-drop}
use Rattle.std.proofs.lemmas.Slice.Eq.{bytes_eq-Decides}
use Rattle.std.specs.Option.{option_and_then}
use Rattle.std.specs.Prelude.{codes, unwrap_or}
use Rattle.std.specs.Str.{bytes_eq}
use Rattle.xml_tokens.specs.Characters.{is_white, is_name_start}
use Rattle.xml_tokens.specs.Declarations.{is_utf8_label, is_one_zero, is_yes_or_no, MaySpell, IsGood, HasOther, here, later, is_other, found_other, other_within, has_other, fitting, item_at, optional_at, is_closed, is_good_after, is_good, declaration_of}
use Rattle.xml_tokens.specs.Fronts.{front, following}
use Rattle.xml_tokens.specs.Tags.{IsSpelled, Spelled, are_white, spelled_at}
use Rattle.xml_tokens.specs.declared.declarations.Declaration.TheVariants.{Good, Encoding, NotWellFormed}
use Rattle.xml_tokens.proofs.DeclarationLaws.{other_found, other_none}
use Rattle.xml_tokens.proofs.Splits.{joined, front_passes, following-append}
use Rattle.xml_tokens.proofs.TagLaws.{qualified_begins, name_stops, spelled_again}
use Rattle.xml_tokens.proofs.TagWords.{is_spelled}

guard_tells : {X : Type 0} (b : Bool) (x y : X) → cond b (Some x) None ≡ Some y → (b ≡ true) × (x ≡ y)
guard_tells true x y e = (refl, cc)
guard_tells false x y e = absurd cc

-- what an item with a name and a value that fits is
abbrev Item : List ℕ → List ℕ → (List ℕ → Bool) → List ℕ → Type 0
Item bs name fits rest = (raw : List ℕ) × IsSpelled bs name raw rest × (fits raw ≡ true)

item_again : (bs name : List ℕ) (fits : List ℕ → Bool) (rest : List ℕ) → Item bs name fits rest → item_at name fits bs ≡ Some rest
item_again bs name fits rest h =
    ap (option_and_then (fitting name fits)) (spelled_again bs name h.0 rest h.1)
    ∙ cond-true (bytes_eq name name && fits h.0) (Some rest) None (and_from _ _ ((bytes_eq-Decides name name).1 refl) h.2)

item_found : (bs name : List ℕ) (fits : List ℕ → Bool) (rest : List ℕ) (o : Option Spelled) → spelled_at bs ≡ o → option_and_then (fitting name fits) o ≡ Some rest → Item bs name fits rest
item_found bs name fits rest None is e = absurd cc
item_found bs name fits rest (Some s) is e =
    let g = guard_tells (bytes_eq s.name name && fits s.raw) s.rest rest e in
    let p = and_parts (bytes_eq s.name name) (fits s.raw) g.0 in
    let named = (bytes_eq-Decides s.name name).0 p.0 in
    (s.raw, subst (λ n. IsSpelled bs n s.raw rest) named (subst (λ r. IsSpelled bs s.name s.raw r) g.1 (is_spelled bs s is)), p.1)

optional_tells : (bs name : List ℕ) (fits : List ℕ → Bool) (o : Option (List ℕ)) → item_at name fits bs ≡ o → MaySpell bs name fits (unwrap_or o bs)
optional_tells bs name fits None is = inl refl
optional_tells bs name fits (Some rest) is = inr (item_found bs name fits rest (spelled_at bs) refl is)

-- what closes a declaration begins no item
closes_none : (bs space : List ℕ) (o : Option Spelled) → bs ≡ space ++ codes "?>" → are_white space ≡ true → spelled_at bs ≡ o → o ≡ None
closes_none bs space None bs_are white is = refl
closes_none bs space (Some s) bs_are white is =
    let i = is_spelled bs s is in
    let gap = i.before ++ (61 ∷ (i.after ++ (i.quote ∷ (s.raw ++ (i.quote ∷ s.rest))))) in
    let b = qualified_begins s.name i.name_is in
    let left : following is_white bs ≡ codes "?>" = ap (following is_white) bs_are ∙ following-append is_white space (codes "?>") white refl in
    let right : following is_white bs ≡ s.name ++ gap = ap (following is_white) i.bytes_are ∙ following-append is_white i.space (s.name ++ gap) i.space_white (name_stops s.name gap i.name_is) in
    let e : 63 ∷ 62 ∷ [] ≡ b.first ∷ (b.others ++ gap) = sym left ∙ right ∙ ap (λ l. l ++ gap) b.name_is in
    let first : 63 ≡ b.first = cc in
    absurd (false≢true (subst (λ n. is_name_start n ≡ true) (sym first) b.starts))

no_item : (bs space : List ℕ) → bs ≡ space ++ codes "?>" → are_white space ≡ true → spelled_at bs ≡ None
no_item bs space bs_are white = closes_none bs space (spelled_at bs) bs_are white refl

-- ---- a good one

module _ (bytes : List ℕ) (h : IsGood bytes) where
  last_none : spelled_at h.after_standalone ≡ None
  last_none = no_item h.after_standalone h.space h.end_is h.space_white

  standalone_is : optional_at (codes "standalone") is_yes_or_no h.after_encoding ≡ h.after_standalone
  standalone_is =
      ⊎_elim
      (λ same. ap (λ o. unwrap_or (option_and_then (fitting (codes "standalone") is_yes_or_no) o) h.after_encoding) (ap spelled_at (sym same) ∙ last_none) ∙ sym same)
      (λ item. ap (λ o. unwrap_or o h.after_encoding) (item_again h.after_encoding (codes "standalone") is_yes_or_no h.after_standalone item))
      h.standalone

  -- behind the encoding no encoding stands
  no_encoding : item_at (codes "encoding") is_utf8_label h.after_encoding ≡ None
  no_encoding =
      ⊎_elim
      (λ same. ap (option_and_then (fitting (codes "encoding") is_utf8_label)) (ap spelled_at (sym same) ∙ last_none))
      (λ item. ap (option_and_then (fitting (codes "encoding") is_utf8_label)) (spelled_again h.after_encoding (codes "standalone") item.0 h.after_standalone item.1))
      h.standalone

  encoding_is : optional_at (codes "encoding") is_utf8_label h.after_version ≡ h.after_encoding
  encoding_is =
      ⊎_elim
      (λ same. ap (λ o. unwrap_or o h.after_version) (ap (item_at (codes "encoding") is_utf8_label) (sym same) ∙ no_encoding) ∙ sym same)
      (λ item. ap (λ o. unwrap_or o h.after_version) (item_again h.after_version (codes "encoding") is_utf8_label h.after_encoding item))
      h.encoding

  closed_is : is_closed h.after_standalone ≡ true
  closed_is = ap is_closed h.end_is ∙ ap (λ l. bytes_eq l (codes "?>")) (following-append is_white h.space (codes "?>") h.space_white refl)

  good_is : is_good h.items ≡ true
  unfolding is_good
  good_is =
      ap is_good_after (item_again h.items (codes "version") is_one_zero h.after_version (codes "1.0", h.version, refl))
      ∙ ap (λ l. is_closed (optional_at (codes "standalone") is_yes_or_no l)) encoding_is ∙ ap is_closed standalone_is ∙ closed_is

  none_behind : has_other h.after_encoding ≡ false
  none_behind =
      let last : has_other h.after_standalone ≡ false = other_none h.after_standalone (sym last_none) in
      ⊎_elim
      (λ same. ap has_other (sym same) ∙ last)
      (λ item. other_found h.after_encoding (record { name = codes "standalone"; raw = item.0; rest = h.after_standalone }) (sym (spelled_again h.after_encoding (codes "standalone") item.0 h.after_standalone item.1)) ∙ last)
      h.standalone

  none_other : has_other h.items ≡ false
  none_other =
      other_found h.items (record { name = codes "version"; raw = codes "1.0"; rest = h.after_version }) (sym (spelled_again h.items (codes "version") (codes "1.0") h.after_version h.version))
      ∙ ⊎_elim
      (λ same. ap has_other (sym same) ∙ none_behind)
      (λ item. other_found h.after_version (record { name = codes "encoding"; raw = item.0; rest = h.after_encoding }) (sym (spelled_again h.after_version (codes "encoding") item.0 h.after_encoding item.1))
      ∙ ap (λ b. not b || has_other h.after_encoding) item.2 ∙ none_behind)
      h.encoding

  good_again : declaration_of bytes ≡ Good
  unfolding declaration_of
  good_again =
      ap declaration_of h.bytes_are ∙ cond-false (has_other h.items) Encoding (cond (is_good h.items) Good NotWellFormed) none_other
      ∙ cond-true (is_good h.items) Good NotWellFormed good_is

good_after : (items : List ℕ) (o : Option (List ℕ)) → item_at (codes "version") is_one_zero items ≡ o → is_good_after o ≡ true → IsGood (codes "<?xml" ++ items)
good_after items None is e = absurd (false≢true e)
good_after items (Some rest) is e =
    let v = item_found items (codes "version") is_one_zero rest (spelled_at items) refl is in
    let one = (bytes_eq-Decides v.0 (codes "1.0")).0 v.2 in
    let second = optional_at (codes "encoding") is_utf8_label rest in
    let third = optional_at (codes "standalone") is_yes_or_no second in
    let closes = (bytes_eq-Decides (following is_white third) (codes "?>")).0 e in
    record {
      items = items;
      after_version = rest;
      after_encoding = second;
      after_standalone = third;
      space = front is_white third;
      bytes_are = refl;
      version = subst (λ r. IsSpelled items (codes "version") r rest) one v.1;
      encoding = optional_tells rest (codes "encoding") is_utf8_label (item_at (codes "encoding") is_utf8_label rest) refl;
      standalone = optional_tells second (codes "standalone") is_yes_or_no (item_at (codes "standalone") is_yes_or_no second) refl;
      end_is = sym (joined is_white third) ∙ ap (λ l. front is_white third ++ l) closes;
      space_white = front_passes is_white third;
    }

-- ---- an encoding other than UTF-8

pub other_again : (bs : List ℕ) → HasOther bs → has_other bs ≡ true
other_again bs (here bs' raw rest h wrong) =
    other_found bs' (record { name = codes "encoding"; raw = raw; rest = rest }) (sym (spelled_again bs' (codes "encoding") raw rest h))
    ∙ ap (λ b. not b || has_other rest) wrong
other_again bs (later bs' name raw rest h more) =
    other_found bs' (record { name = name; raw = raw; rest = rest }) (sym (spelled_again bs' name raw rest h))
    ∙ or_right (is_other (record { name = name; raw = raw; rest = rest })) (has_other rest) (other_again rest more)

other_after : (bs : List ℕ) (more : List ℕ → Bool) (o : Option Spelled) → ((rest : List ℕ) → more rest ≡ true → HasOther rest) → spelled_at bs ≡ o → found_other o more ≡ true → HasOther bs
other_after bs more None ih is e = absurd (false≢true e)
other_after bs more (Some s) ih is e =
    ⊎_elim
    (λ (this : is_other s ≡ true).
    let p = and_parts (bytes_eq s.name (codes "encoding")) (not (is_utf8_label s.raw)) this in
    let named = (bytes_eq-Decides s.name (codes "encoding")).0 p.0 in
    here bs s.raw s.rest (subst (λ n. IsSpelled bs n s.raw s.rest) named (is_spelled bs s is)) (not-true _ p.1))
    (λ (after_it : more s.rest ≡ true). later bs s.name s.raw s.rest (is_spelled bs s is) (ih s.rest after_it))
    (or_cases (is_other s) (more s.rest) e)

other_tells : (k : ℕ) (bs : List ℕ) → other_within k bs ≡ true → HasOther bs
other_tells zero bs e = absurd (false≢true e)
other_tells (suc k) bs e = other_after bs (λ rest. other_within k rest) (spelled_at bs) (λ rest h. other_tells k rest h) refl e

-- ---- what a declaration comes to

opened : (bytes : List ℕ) → bytes_eq (take 5 bytes) (codes "<?xml") ≡ true → bytes ≡ codes "<?xml" ++ drop 5 bytes
opened bytes h = sym (take-append-drop 5 bytes) ∙ ap (λ l. l ++ drop 5 bytes) ((bytes_eq-Decides (take 5 bytes) (codes "<?xml")).0 h)

told_good : (a b c : Bool) → cond a (cond b Encoding (cond c Good NotWellFormed)) NotWellFormed ≡ Good → (a ≡ true) × (c ≡ true)
told_good true true c e = absurd cc
told_good true false true e = (refl, refl)
told_good true false false e = absurd cc
told_good false b c e = absurd cc

told_encoding : (a b c : Bool) → cond a (cond b Encoding (cond c Good NotWellFormed)) NotWellFormed ≡ Encoding → (a ≡ true) × (b ≡ true)
told_encoding true true c e = (refl, refl)
told_encoding true false true e = absurd cc
told_encoding true false false e = absurd cc
told_encoding false b c e = absurd cc

good_tells : (bytes : List ℕ) → declaration_of bytes ≡ Good → IsGood bytes
unfolding declaration_of is_good
good_tells bytes e =
    let t = told_good (bytes_eq (take 5 bytes) (codes "<?xml")) (has_other (drop 5 bytes)) (is_good (drop 5 bytes)) e in
    subst IsGood (sym (opened bytes t.0)) (good_after (drop 5 bytes) (item_at (codes "version") is_one_zero (drop 5 bytes)) refl t.1)

pub good_declarations : (bytes : List ℕ) → (declaration_of bytes ≡ Good) ↔ IsGood bytes
good_declarations bytes = (good_tells bytes, good_again bytes)

encoding_tells : (bytes : List ℕ) → declaration_of bytes ≡ Encoding → (items : List ℕ) × (bytes ≡ codes "<?xml" ++ items) × HasOther items
unfolding declaration_of has_other
encoding_tells bytes e =
    let t = told_encoding (bytes_eq (take 5 bytes) (codes "<?xml")) (has_other (drop 5 bytes)) (is_good (drop 5 bytes)) e in
    (drop 5 bytes, opened bytes t.0, other_tells (suc (length (drop 5 bytes))) (drop 5 bytes) t.1)

encoding_again : (bytes : List ℕ) → ((items : List ℕ) × (bytes ≡ codes "<?xml" ++ items) × HasOther items) → declaration_of bytes ≡ Encoding
unfolding declaration_of
encoding_again bytes h =
    ap declaration_of h.1 ∙ cond-true (has_other h.0) Encoding (cond (is_good h.0) Good NotWellFormed) (other_again h.0 h.2)

pub other_encodings : (bytes : List ℕ) → (declaration_of bytes ≡ Encoding) ↔ ((items : List ℕ) × (bytes ≡ codes "<?xml" ++ items) × HasOther items)
other_encodings bytes = (encoding_tells bytes, encoding_again bytes)
