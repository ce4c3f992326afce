-- What is written is read back as itself.
use Rattle.std.proofs.Common.{◌≡◌, ℕ, Bool, true, false, eqb, not, ◌&&◌, List, [], ◌∷◌, ◌++◌, Some, None, refl, sym, ap, subst, ◌∙◌, ⊎_elim}
use Rattle.std.proofs.Math.Bool.{and-false}
use Rattle.std.proofs.lemmas.Bool.{cases_Bool, and_parts, and_from, or_from, eqb-true, cond-true, not-true}
use Rattle.std.proofs.lemmas.List.Folds.{list_all-append}
use Rattle.std.proofs.lemmas.Str.{is_utf8-from_IsUtf8}
use Rattle.std.specs.List.{flat_map, list_all}
use Rattle.std.specs.Str.{IsUtf8, is_utf8}
use lib.Utf8.{encode}
use Rattle.xml_tokens.specs.Characters.{is_control, ends_forbidden, are_characters, are_characters_after}
use Rattle.xml_tokens.specs.References.{referred}
use Rattle.xml_tokens.specs.Spelling.{text_byte, value_byte, spelled_text, spelled_value, text_from}
use Rattle.xml_tokens.specs.Values.{text, in_front, value_from, value_of, as_text}

abbrev ReadBack : ℕ → Type 0
ReadBack b = (rest : List ℕ) → value_from (text false) (value_byte b ++ rest) ≡ in_front (b ∷ []) (value_from (text false) rest)

apostrophe : ReadBack 39
unfolding referred encode value_byte text_byte
apostrophe rest = refl

tab : ReadBack 9
unfolding referred encode value_byte text_byte
tab rest = refl

feed : ReadBack 10
unfolding referred encode value_byte text_byte
feed rest = refl

ampersand : ReadBack 38
unfolding referred encode value_byte text_byte
ampersand rest = refl

less : ReadBack 60
unfolding referred encode value_byte text_byte
less rest = refl

greater : ReadBack 62
unfolding referred encode value_byte text_byte
greater rest = refl

return_byte : ReadBack 13
unfolding referred encode value_byte text_byte
return_byte rest = refl

at_byte : (P : ℕ → Type 0) (b n : ℕ) → eqb b n ≡ true → P n → P b
at_byte P b n e h = subst P (sym (eqb-true b n e)) h

byte_again : (b : ℕ) → ReadBack b
unfolding value_byte text_byte
byte_again b =
    ⊎_elim (λ e. at_byte ReadBack b 39 e apostrophe)
    (λ (n39 : eqb b 39 ≡ false). ⊎_elim (λ e. at_byte ReadBack b 9 e tab)
    (λ (n9 : eqb b 9 ≡ false). ⊎_elim (λ e. at_byte ReadBack b 10 e feed)
    (λ (n10 : eqb b 10 ≡ false). ⊎_elim (λ e. at_byte ReadBack b 38 e ampersand)
    (λ (n38 : eqb b 38 ≡ false). ⊎_elim (λ e. at_byte ReadBack b 60 e less)
    (λ (n60 : eqb b 60 ≡ false). ⊎_elim (λ e. at_byte ReadBack b 62 e greater)
    (λ (n62 : eqb b 62 ≡ false). ⊎_elim (λ e. at_byte ReadBack b 13 e return_byte)
    (λ (n13 : eqb b 13 ≡ false). λ rest. rw (n39, n9, n10, n38, n60, n62, n13) (rw (n38, n60, n13, n9, n10) refl))
    (cases_Bool (eqb b 13))) (cases_Bool (eqb b 62))) (cases_Bool (eqb b 60))) (cases_Bool (eqb b 38))) (cases_Bool (eqb b 10))) (cases_Bool (eqb b 9))) (cases_Bool (eqb b 39))

value_again : (v : List ℕ) → value_from (text false) (spelled_value v) ≡ Some v
value_again [] = refl
value_again (b ∷ bs) = byte_again b (spelled_value bs) ∙ ap (in_front (b ∷ [])) (value_again bs)

abbrev TextBack : ℕ → Type 0
TextBack b = (rest : List ℕ) → text_from (text false) (text_byte b ++ rest) ≡ in_front (b ∷ []) (text_from (text false) rest)

text_ampersand : TextBack 38
unfolding referred encode text_byte
text_ampersand rest = refl

text_less : TextBack 60
unfolding referred encode text_byte
text_less rest = refl

text_greater : TextBack 62
unfolding referred encode text_byte
text_greater rest = refl

text_return : TextBack 13
unfolding referred encode text_byte
text_return rest = refl

text_byte_again : (b : ℕ) → TextBack b
unfolding text_byte
text_byte_again b =
    ⊎_elim (λ e. at_byte TextBack b 38 e text_ampersand)
    (λ (n38 : eqb b 38 ≡ false). ⊎_elim (λ e. at_byte TextBack b 60 e text_less)
    (λ (n60 : eqb b 60 ≡ false). ⊎_elim (λ e. at_byte TextBack b 62 e text_greater)
    (λ (n62 : eqb b 62 ≡ false). ⊎_elim (λ e. at_byte TextBack b 13 e text_return)
    (λ (n13 : eqb b 13 ≡ false). λ rest. rw (n38, n60, n62, n13) (rw (n38, n60, n13) refl))
    (cases_Bool (eqb b 13))) (cases_Bool (eqb b 62))) (cases_Bool (eqb b 60))) (cases_Bool (eqb b 38))

pub text_again : (t : List ℕ) → text_from (text false) (spelled_text t) ≡ Some t
text_again [] = refl
text_again (b ∷ bs) = text_byte_again b (spelled_text bs) ∙ ap (in_front (b ∷ [])) (text_again bs)

-- ---- what is written holds no mark-up

abbrev pub no_quote : ℕ → Bool
no_quote b = not (eqb b 39) && not (eqb b 60)

abbrev pub no_mark : ℕ → Bool
no_mark b = not (eqb b 60) && not (eqb b 62)

abbrev Unquoted : ℕ → Type 0
Unquoted b = list_all no_quote (value_byte b) ≡ true

byte_unquoted : (b : ℕ) → Unquoted b
unfolding value_byte text_byte
byte_unquoted b =
    ⊎_elim (λ e. at_byte Unquoted b 39 e refl)
    (λ (n39 : eqb b 39 ≡ false). ⊎_elim (λ e. at_byte Unquoted b 9 e refl)
    (λ (n9 : eqb b 9 ≡ false). ⊎_elim (λ e. at_byte Unquoted b 10 e refl)
    (λ (n10 : eqb b 10 ≡ false). ⊎_elim (λ e. at_byte Unquoted b 38 e refl)
    (λ (n38 : eqb b 38 ≡ false). ⊎_elim (λ e. at_byte Unquoted b 60 e refl)
    (λ (n60 : eqb b 60 ≡ false). ⊎_elim (λ e. at_byte Unquoted b 62 e refl)
    (λ (n62 : eqb b 62 ≡ false). ⊎_elim (λ e. at_byte Unquoted b 13 e refl)
    (λ (n13 : eqb b 13 ≡ false). rw (n39, n9, n10, n38, n60, n62, n13) (rw (n39, n60) refl))
    (cases_Bool (eqb b 13))) (cases_Bool (eqb b 62))) (cases_Bool (eqb b 60))) (cases_Bool (eqb b 38))) (cases_Bool (eqb b 10))) (cases_Bool (eqb b 9))) (cases_Bool (eqb b 39))

pub value_unquoted : (v : List ℕ) → list_all no_quote (spelled_value v) ≡ true
value_unquoted [] = refl
value_unquoted (b ∷ bs) = list_all-append no_quote (value_byte b) (spelled_value bs) ∙ and_from _ _ (byte_unquoted b) (value_unquoted bs)

abbrev Unmarked : ℕ → Type 0
Unmarked b = list_all no_mark (text_byte b) ≡ true

byte_unmarked : (b : ℕ) → Unmarked b
unfolding text_byte
byte_unmarked b =
    ⊎_elim (λ e. at_byte Unmarked b 38 e refl)
    (λ (n38 : eqb b 38 ≡ false). ⊎_elim (λ e. at_byte Unmarked b 60 e refl)
    (λ (n60 : eqb b 60 ≡ false). ⊎_elim (λ e. at_byte Unmarked b 62 e refl)
    (λ (n62 : eqb b 62 ≡ false). ⊎_elim (λ e. at_byte Unmarked b 13 e refl)
    (λ (n13 : eqb b 13 ≡ false). rw (n38, n60, n62, n13) (rw (n60, n62) refl))
    (cases_Bool (eqb b 13))) (cases_Bool (eqb b 62))) (cases_Bool (eqb b 60))) (cases_Bool (eqb b 38))

pub text_unmarked : (t : List ℕ) → list_all no_mark (spelled_text t) ≡ true
text_unmarked [] = refl
text_unmarked (b ∷ bs) = list_all-append no_mark (text_byte b) (spelled_text bs) ∙ and_from _ _ (byte_unmarked b) (text_unmarked bs)

-- ---- what is written has the characters of XML

-- a byte that neither ends a forbidden character nor begins one
abbrev is_low : ℕ → Bool
is_low c = not (is_control c) && (not (eqb c 190) && (not (eqb c 191) && not (eqb c 239)))

first_forgotten : (c x : ℕ) (xs : List ℕ) → eqb c 239 ≡ false → are_characters_after c x xs ≡ are_characters_after 0 x xs
first_forgotten c x [] h = refl
first_forgotten c x (y ∷ ys) h = rw h refl

quiet : (a c x : ℕ) → eqb c 191 ≡ false → ends_forbidden a c x ≡ ends_forbidden 0 0 x
quiet a c x k = let e : (eqb a 239 && eqb c 191) ≡ false = rw k (and-false (eqb a 239)) in rw e refl

both_same : (p q r s : Bool) → p ≡ q → r ≡ s → (p && r) ≡ (q && s)
both_same p q r s e f = rw (e, f) refl

both_forgotten : (a c : ℕ) (xs : List ℕ) → eqb c 239 ≡ false → eqb c 191 ≡ false → are_characters_after a c xs ≡ are_characters_after 0 0 xs
both_forgotten a c [] h k = refl
both_forgotten a c (x ∷ xs) h k =
    both_same (not (ends_forbidden a c x)) (not (ends_forbidden 0 0 x)) (are_characters_after c x xs) (are_characters_after 0 x xs)
    (ap not (quiet a c x k)) (first_forgotten c x xs h)

-- low bytes change nothing
low_passes : (a b c : ℕ) (rest : List ℕ) → is_low c ≡ true → are_characters_after a b (c ∷ rest) ≡ are_characters_after 0 0 rest
low_passes a b c rest h =
    let p = and_parts (not (is_control c)) _ h in
    let q = and_parts (not (eqb c 190)) _ p.1 in
    let r = and_parts (not (eqb c 191)) _ q.1 in
    let no_end : ends_forbidden a b c ≡ false = or_from (is_control c) _ (not-true _ p.0) (rw (not-true _ q.0, not-true _ r.0) (and-false (eqb a 239 && eqb b 191))) in
    rw no_end (both_forgotten b c rest (not-true _ r.1) (not-true _ r.0))

low_run : (a b : ℕ) (es rest : List ℕ) → list_all is_low es ≡ true → are_characters_after 0 0 rest ≡ true → are_characters_after 0 0 (es ++ rest) ≡ true
low_run a b [] rest h k = k
low_run a b (e ∷ es) rest h k = let p = and_parts (is_low e) (list_all is_low es) h in low_passes 0 0 e (es ++ rest) p.0 ∙ low_run a b es rest p.1 k

-- what is escaped is low, or is written as it is
data Written (f : ℕ → List ℕ) (b : ℕ) : Type 0 where
  kept : f b ≡ b ∷ [] → Written f b
  escaped : (e : ℕ) (es : List ℕ) → f b ≡ e ∷ es → list_all is_low (e ∷ es) ≡ true → eqb b 239 ≡ false → eqb b 191 ≡ false → Written f b

characters_written : (f : ℕ → List ℕ) → ((b : ℕ) → Written f b) → (a b : ℕ) (v : List ℕ) → are_characters_after a b v ≡ true → are_characters_after a b (flat_map f v) ≡ true
characters_written f each a b [] h = refl
characters_written f each a b (c ∷ cs) h =
    let p = and_parts (not (ends_forbidden a b c)) (are_characters_after b c cs) h in
    by_case (each c) p.0 p.1 (characters_written f each b c cs p.1) (λ k. characters_written f each 0 0 cs k)
  where
    by_case : Written f c → not (ends_forbidden a b c) ≡ true → are_characters_after b c cs ≡ true → are_characters_after b c (flat_map f cs) ≡ true
        → (are_characters_after 0 0 cs ≡ true → are_characters_after 0 0 (flat_map f cs) ≡ true) → are_characters_after a b (f c ++ flat_map f cs) ≡ true
    by_case (kept is) here rest same low = rw is (and_from _ _ here same)
    by_case (escaped e es is all n239 n191) here rest same low =
        let q = and_parts (is_low e) (list_all is_low es) all in
        let calm : are_characters_after 0 0 cs ≡ true = sym (both_forgotten b c cs n239 n191) ∙ rest in
        rw is (low_passes a b e (es ++ flat_map f cs) q.0 ∙ low_run 0 0 es (flat_map f cs) q.1 (low calm))

byte_written : (b : ℕ) → Written value_byte b
unfolding value_byte text_byte
byte_written b =
    ⊎_elim (λ e. at_byte (Written value_byte) b 39 e (escaped 38 (97 ∷ 112 ∷ 111 ∷ 115 ∷ 59 ∷ []) refl refl refl refl))
    (λ (n39 : eqb b 39 ≡ false). ⊎_elim (λ e. at_byte (Written value_byte) b 9 e (escaped 38 (35 ∷ 120 ∷ 57 ∷ 59 ∷ []) refl refl refl refl))
    (λ (n9 : eqb b 9 ≡ false). ⊎_elim (λ e. at_byte (Written value_byte) b 10 e (escaped 38 (35 ∷ 120 ∷ 65 ∷ 59 ∷ []) refl refl refl refl))
    (λ (n10 : eqb b 10 ≡ false). ⊎_elim (λ e. at_byte (Written value_byte) b 38 e (escaped 38 (97 ∷ 109 ∷ 112 ∷ 59 ∷ []) refl refl refl refl))
    (λ (n38 : eqb b 38 ≡ false). ⊎_elim (λ e. at_byte (Written value_byte) b 60 e (escaped 38 (108 ∷ 116 ∷ 59 ∷ []) refl refl refl refl))
    (λ (n60 : eqb b 60 ≡ false). ⊎_elim (λ e. at_byte (Written value_byte) b 62 e (escaped 38 (103 ∷ 116 ∷ 59 ∷ []) refl refl refl refl))
    (λ (n62 : eqb b 62 ≡ false). ⊎_elim (λ e. at_byte (Written value_byte) b 13 e (escaped 38 (35 ∷ 120 ∷ 68 ∷ 59 ∷ []) refl refl refl refl))
    (λ (n13 : eqb b 13 ≡ false). kept (rw (n39, n9, n10, n38, n60, n62, n13) refl))
    (cases_Bool (eqb b 13))) (cases_Bool (eqb b 62))) (cases_Bool (eqb b 60))) (cases_Bool (eqb b 38))) (cases_Bool (eqb b 10))) (cases_Bool (eqb b 9))) (cases_Bool (eqb b 39))

text_byte_written : (b : ℕ) → Written text_byte b
unfolding text_byte
text_byte_written b =
    ⊎_elim (λ e. at_byte (Written text_byte) b 38 e (escaped 38 (97 ∷ 109 ∷ 112 ∷ 59 ∷ []) refl refl refl refl))
    (λ (n38 : eqb b 38 ≡ false). ⊎_elim (λ e. at_byte (Written text_byte) b 60 e (escaped 38 (108 ∷ 116 ∷ 59 ∷ []) refl refl refl refl))
    (λ (n60 : eqb b 60 ≡ false). ⊎_elim (λ e. at_byte (Written text_byte) b 62 e (escaped 38 (103 ∷ 116 ∷ 59 ∷ []) refl refl refl refl))
    (λ (n62 : eqb b 62 ≡ false). ⊎_elim (λ e. at_byte (Written text_byte) b 13 e (escaped 38 (35 ∷ 120 ∷ 68 ∷ 59 ∷ []) refl refl refl refl))
    (λ (n13 : eqb b 13 ≡ false). kept (rw (n38, n60, n62, n13) refl))
    (cases_Bool (eqb b 13))) (cases_Bool (eqb b 62))) (cases_Bool (eqb b 60))) (cases_Bool (eqb b 38))

pub text_characters : (t : List ℕ) → are_characters t ≡ true → are_characters (spelled_text t) ≡ true
unfolding are_characters
text_characters t h = characters_written text_byte text_byte_written 0 0 t h

value_characters : (v : List ℕ) → are_characters v ≡ true → are_characters (spelled_value v) ≡ true
unfolding are_characters
value_characters v h = characters_written value_byte byte_written 0 0 v h

pub value_is_read_back : (v : List ℕ) → IsUtf8 v → are_characters v ≡ true → value_of (spelled_value v) ≡ Some v
unfolding value_of
value_is_read_back v u h =
    cond-true (are_characters (spelled_value v)) (as_text (value_from (text false) (spelled_value v))) None (value_characters v h)
    ∙ ap as_text (value_again v) ∙ cond-true (is_utf8 v) (Some v) None (is_utf8-from_IsUtf8 v u)
