-- The bytes of a good declaration (XML 1.0, sections 2.8 and 2.9): only its last two are `?>`.
use Rattle.std.proofs.Common.{◌≡◌, ◌≢◌, ℕ, ⊎_elim, Bool, true, eqb, ltb, not, ◌&&◌, List, [], ◌∷◌, ◌++◌, bytes_eq, codes, map, refl, sym, ap, ◌∙◌, arith, append_assoc}
use Rattle.std.proofs.lemmas.Bool.{and_from, and_parts, or_cases, true≢false}
use Rattle.std.proofs.lemmas.Bool.Decides.{nat_tests}
use Rattle.std.proofs.lemmas.List.Folds.{list_all-append}
use Rattle.std.proofs.lemmas.Slice.Eq.{bytes_eq-Decides}
use Rattle.std.specs.Char.{to_ascii_lowercase}
use Rattle.std.specs.List.{list_all}
use Rattle.xml_tokens.specs.Characters.{is_white}
use Rattle.xml_tokens.specs.Declarations.{IsGood, MaySpell, is_utf8_label, is_yes_or_no}
use Rattle.xml_tokens.specs.Tags.{IsSpelled, are_white, is_quote}
use Rattle.law_xml.proofs.OneOffset.{heads as first_is}

-- a byte of ASCII other than `>` and `?`
abbrev pub is_unmarked : ℕ → Bool
is_unmarked b = (not (eqb b 62) && not (eqb b 63)) && ltb b 128

abbrev pub are_unmarked : List ℕ → Bool
are_unmarked bs = list_all is_unmarked bs

pub white_unmarked : (b : ℕ) → is_white b ≡ true → is_unmarked b ≡ true
white_unmarked b h = grind (arith, nat_tests)

quote_unmarked : (b : ℕ) → is_quote b ≡ true → is_unmarked b ≡ true
quote_unmarked b h = grind (arith, nat_tests)

lower_unmarked : (b : ℕ) → is_unmarked (to_ascii_lowercase b) ≡ true → is_unmarked b ≡ true
lower_unmarked b h = grind (arith, nat_tests)

whites_unmarked : (bs : List ℕ) → are_white bs ≡ true → are_unmarked bs ≡ true
whites_unmarked [] h = refl
whites_unmarked (b ∷ bs) h = let p = and_parts (is_white b) (are_white bs) h in and_from _ _ (white_unmarked b p.0) (whites_unmarked bs p.1)

lowers_unmarked : (bs : List ℕ) → are_unmarked (map to_ascii_lowercase bs) ≡ true → are_unmarked bs ≡ true
lowers_unmarked [] h = refl
lowers_unmarked (b ∷ bs) h = let p = and_parts (is_unmarked (to_ascii_lowercase b)) (are_unmarked (map to_ascii_lowercase bs)) h in and_from _ _ (lower_unmarked b p.0) (lowers_unmarked bs p.1)

both_unmarked : (xs ys : List ℕ) → are_unmarked xs ≡ true → are_unmarked ys ≡ true → are_unmarked (xs ++ ys) ≡ true
both_unmarked xs ys h k = list_all-append is_unmarked xs ys ∙ and_from _ _ h k

label_unmarked : (raw : List ℕ) → is_utf8_label raw ≡ true → are_unmarked raw ≡ true
unfolding is_utf8_label
label_unmarked raw h =
    let same : map to_ascii_lowercase raw ≡ map to_ascii_lowercase (codes "UTF-8") = (bytes_eq-Decides (map to_ascii_lowercase raw) (map to_ascii_lowercase (codes "UTF-8"))).0 h in
    lowers_unmarked raw (ap are_unmarked same)

word_unmarked : (raw : List ℕ) → is_yes_or_no raw ≡ true → are_unmarked raw ≡ true
word_unmarked raw h =
    ⊎_elim (λ e. ap are_unmarked ((bytes_eq-Decides raw (codes "yes")).0 e)) (λ e. ap are_unmarked ((bytes_eq-Decides raw (codes "no")).0 e))
    (or_cases (bytes_eq raw (codes "yes")) (bytes_eq raw (codes "no")) h)

-- bytes are some without `>` and `?`, and then the rest
record Unmarked (bytes rest : List ℕ) : Type 0 where
  front : List ℕ
  is : bytes ≡ front ++ rest
  unmarked : are_unmarked front ≡ true

unmarked_then : (xs ys zs : List ℕ) → Unmarked xs ys → Unmarked ys zs → Unmarked xs zs
unmarked_then xs ys zs a b = record { front = a.front ++ b.front; is = a.is ∙ ap (λ l. a.front ++ l) b.is ∙ sym (append_assoc a.front b.front zs); unmarked = both_unmarked a.front b.front a.unmarked b.unmarked }

spelled_unmarked : (bytes name raw rest : List ℕ) → IsSpelled bytes name raw rest → are_unmarked name ≡ true → are_unmarked raw ≡ true → Unmarked bytes rest
spelled_unmarked bytes name raw rest h named valued =
    let q = quote_unmarked h.quote h.quote_is in
    let value = h.quote ∷ (raw ++ (h.quote ∷ [])) in
    let assigned = 61 ∷ (h.after ++ value) in
    let value_unmarked : are_unmarked value ≡ true = and_from _ _ q (both_unmarked raw (h.quote ∷ []) valued (and_from _ _ q refl)) in
    let assigned_unmarked : are_unmarked assigned ≡ true = both_unmarked h.after value (whites_unmarked h.after h.after_white) value_unmarked in
    record {
      front = h.space ++ (name ++ (h.before ++ assigned));
      is = h.bytes_are ∙ sym (spread h.space name h.before h.after raw rest h.quote);
      unmarked = both_unmarked h.space (name ++ (h.before ++ assigned)) (whites_unmarked h.space h.space_white)
          (both_unmarked name (h.before ++ assigned) named (both_unmarked h.before assigned (whites_unmarked h.before h.before_white) assigned_unmarked));
    }
  where
    spread : (space name before after raw rest : List ℕ) (quote : ℕ) → (space ++ (name ++ (before ++ (61 ∷ (after ++ (quote ∷ (raw ++ (quote ∷ [])))))))) ++ rest
        ≡ space ++ (name ++ (before ++ (61 ∷ (after ++ (quote ∷ (raw ++ (quote ∷ rest)))))))
    spread space name before after raw rest quote = simp append_assoc

may_unmarked : (bytes name : List ℕ) (fits : List ℕ → Bool) (rest : List ℕ) → ((raw : List ℕ) → fits raw ≡ true → are_unmarked raw ≡ true) → are_unmarked name ≡ true → MaySpell bytes name fits rest → Unmarked bytes rest
may_unmarked bytes name fits rest each named h =
    ⊎_elim (λ same. record { front = []; is = sym same; unmarked = refl }) (λ item. spelled_unmarked bytes name item.0 rest item.1 named (each item.0 item.2)) h

-- a good declaration: `<?xml`, white space, bytes without `>` and `?`, and `?>`
pub record Shaped (bytes : List ℕ) : Type 0 where
  pub white : ℕ
  pub inner : List ℕ
  pub is : bytes ≡ codes "<?xml" ++ (white ∷ (inner ++ codes "?>"))
  pub is_space : is_white white ≡ true
  pub unmarked : are_unmarked inner ≡ true

begins_white : (space rest : List ℕ) → space ≢ [] → are_white space ≡ true → (w : ℕ) × (more : List ℕ) × (space ++ rest ≡ w ∷ more) × (is_white w ≡ true)
begins_white [] rest some white = absurd (some refl)
begins_white (w ∷ ws) rest some white = (w, ws ++ rest, refl, (and_parts (is_white w) (are_white ws) white).0)

shaped_by : (bytes items front : List ℕ) (w : ℕ) (more : List ℕ) → bytes ≡ codes "<?xml" ++ items → items ≡ front ++ codes "?>" → are_unmarked front ≡ true → items ≡ w ∷ more → is_white w ≡ true → Shaped bytes
shaped_by bytes items [] w more bytes_are is unmarked begins white =
    let same : w ≡ 63 = first_is w 63 more (62 ∷ []) (sym begins ∙ is) in
    absurd (true≢false (sym white ∙ ap is_white same))
shaped_by bytes items (x ∷ xs) w more bytes_are is unmarked begins white =
    let same : w ≡ x = first_is w x more (xs ++ codes "?>") (sym begins ∙ is) in
    record { white = x; inner = xs; is = bytes_are ∙ ap (λ l. codes "<?xml" ++ l) is; is_space = ap is_white (sym same) ∙ white; unmarked = (and_parts (is_unmarked x) (are_unmarked xs) unmarked).1 }

pub shaped : (bytes : List ℕ) → IsGood bytes → Shaped bytes
shaped bytes g =
    let version = spelled_unmarked g.items (codes "version") (codes "1.0") g.after_version g.version refl refl in
    let encoding = may_unmarked g.after_version (codes "encoding") is_utf8_label g.after_encoding label_unmarked refl g.encoding in
    let standalone = may_unmarked g.after_encoding (codes "standalone") is_yes_or_no g.after_standalone word_unmarked refl g.standalone in
    let space : Unmarked g.after_standalone (codes "?>") = record { front = g.space; is = g.end_is; unmarked = whites_unmarked g.space g.space_white } in
    let all = unmarked_then g.items g.after_version (codes "?>") version (unmarked_then g.after_version g.after_encoding (codes "?>") encoding (unmarked_then g.after_encoding g.after_standalone (codes "?>") standalone space)) in
    let v = g.version in
    let begins = begins_white v.space (codes "version" ++ (v.before ++ (61 ∷ (v.after ++ (v.quote ∷ (codes "1.0" ++ (v.quote ∷ g.after_version))))))) v.some_space v.space_white in
    shaped_by bytes g.items all.front begins.0 begins.1 g.bytes_are all.is all.unmarked (v.bytes_are ∙ begins.2) begins.3
