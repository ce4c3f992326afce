-- Names and texts of schedules are plain, and short.
use Rattle.std.proofs.Common.{◌≡◌, ℕ, ◌≤◌, Bool, true, false, ◌&&◌, ◌||◌, List, [], ◌∷◌, ◌++◌, length, chars, refl, sym, ap, ◌∙◌, arith, append-nil, length-append}
use Rattle.std.proofs.lemmas.Bool.{and_from, and_parts, leb-true}
use Rattle.std.proofs.lemmas.Bool.Decides.{nat_tests}
use Rattle.std.proofs.lemmas.Str.{IsUtf8-from_is_utf8}
use Rattle.std.specs.List.{list_all, list_any}
use Rattle.std.specs.Prelude.{nat_le}
use Rattle.std.specs.Str.{is_utf8}
use Rattle.cl_core.specs.Making.{account_of}
use Rattle.law_limits.specs.Within.{IsAccountWithin}
use Rattle.im_jid.proofs.CutLemmas.{cut_bare, cut_local}
use Rattle.im_jid.specs.Cuts.{domain_of, domain_of_bare, is_at, is_slash}
use Rattle.cmd_report.specs.Addresses.{bare_address, domain}
use Rattle.law_limits.proofs.Ascii.{is_printable, printable_IsCharacters}
use Rattle.law_limits.proofs.Texts.{literal, printable_append}
use Rattle.law_limits.specs.Bounds.{IsTextWithin, most_address, most_part, most_text}
use Rattle.cmd_schedule.specs.Grammar.{is_digit, is_lower, is_name, is_text, is_text_character}
use Rattle.xml_tokens.proofs.CharacterLaws.{characters_are_those}
use Rattle.xml_tokens.specs.Characters.{is_character}

-- ---- names

lower_printable : (c : ℕ) → is_lower c ≡ true → is_printable c ≡ true
lower_printable c h = grind (arith, nat_tests)

named_printable : (c : ℕ) → (is_lower c || is_digit c) ≡ true → is_printable c ≡ true
named_printable c h = grind (arith, nat_tests)

all_printable : (cs : List ℕ) → list_all (λ d. is_lower d || is_digit d) cs ≡ true → list_all is_printable cs ≡ true
all_printable [] h = refl
all_printable (c ∷ cs) h = let p = and_parts (is_lower c || is_digit c) _ h in and_from _ _ (named_printable c p.0) (all_printable cs p.1)

true_or : (x y : Bool) → x ≡ true → (x || y) ≡ true
true_or true y is = refl
true_or false y is = absurd (cc is)

record IsShortName (name : List ℕ) : Type 0 where
  named : list_all (λ d. is_lower d || is_digit d) name ≡ true
  printable : list_all is_printable name ≡ true
  short : length name ≤ 32

name_short : (name : List ℕ) → is_name name ≡ true → IsShortName name
name_short [] h = absurd (cc h)
name_short (c ∷ cs) h =
    let p = and_parts (is_lower c && nat_le (length cs) 31) (list_all (λ d. is_lower d || is_digit d) cs) h in
    let q = and_parts (is_lower c) (nat_le (length cs) 31) p.0 in
    let few = leb-true (length cs) 31 q.1 in
    record { named = and_from _ _ (true_or (is_lower c) (is_digit c) q.0) p.1; printable = and_from _ _ (lower_printable c q.0) (all_printable cs p.1); short = omega (arith, few) }

name_within : (most : ℕ) (name : List ℕ) → 32 ≤ most → is_name name ≡ true → IsTextWithin most name
name_within most name more h =
    let n = name_short name h in
    let short = n.short in
    record { characters = printable_IsCharacters name n.printable; short = omega (arith, short, more) }

-- ---- addresses

pub address_within : (account : List ℕ) → is_name account ≡ true → IsTextWithin most_address (bare_address account)
address_within account h =
    let n = name_short account h in
    let short = n.short in
    record { characters = printable_IsCharacters (bare_address account) (printable_append account (64 ∷ domain) n.printable refl); short = omega (arith, length-append account (64 ∷ domain), short) }

none_in : (p : ℕ → Bool) (free : (c : ℕ) → (is_lower c || is_digit c) ≡ true → p c ≡ false) (cs following : List ℕ) → list_all (λ d. is_lower d || is_digit d) cs ≡ true → list_any p following ≡ false → list_any p (cs ++ following) ≡ false
none_in p free [] following h none = none
none_in p free (c ∷ cs) following h none = let q = and_parts (is_lower c || is_digit c) _ h in rw (free c q.0) (none_in p free cs following q.1 none)

no_slash : (c : ℕ) → (is_lower c || is_digit c) ≡ true → is_slash c ≡ false
no_slash c h = grind (arith, nat_tests)

no_at : (c : ℕ) → (is_lower c || is_digit c) ≡ true → is_at c ≡ false
no_at c h = grind (arith, nat_tests)

pub domain_is : (account : List ℕ) → is_name account ≡ true → domain_of (bare_address account) ≡ domain
domain_is account h =
    let n = name_short account h in
    let whole = cut_bare (bare_address account) (none_in is_slash no_slash account (64 ∷ domain) n.named refl) in
    let none = ap (list_any is_at) (sym (append-nil account)) ∙ none_in is_at no_at account [] n.named refl in
    ap domain_of_bare whole.front ∙ (cut_local account domain none).back

pub account_within : (account password device : List ℕ) → is_name account ≡ true → is_name device ≡ true → IsAccountWithin (account_of (bare_address account) account password device)
account_within account password device h k =
    let n = name_short account h in
    let short = n.short in
    record {
      resource = name_within most_part device (omega arith) k;
      domain = rw (domain_is account h) (literal domain most_part refl refl);
      name = omega (arith, short);
    }

-- ---- texts

text_character : (c : ℕ) → is_text_character c ≡ true → is_character c ≡ true
text_character c h = grind (arith, nat_tests)

all_characters : (cs : List ℕ) → list_all is_text_character cs ≡ true → list_all is_character cs ≡ true
all_characters [] h = refl
all_characters (c ∷ cs) h = let p = and_parts (is_text_character c) _ h in and_from _ _ (text_character c p.0) (all_characters cs p.1)

pub text_within : (text : List ℕ) → is_text text ≡ true → IsTextWithin most_text text
text_within text h =
    let p = and_parts ((nat_le 1 (length text) && nat_le (length text) 1000) && is_utf8 text) (list_all is_text_character (chars text)) h in
    let q = and_parts (nat_le 1 (length text) && nat_le (length text) 1000) (is_utf8 text) p.0 in
    let few = leb-true (length text) 1000 (and_parts (nat_le 1 (length text)) (nat_le (length text) 1000) q.0).1 in
    let utf8 = IsUtf8-from_is_utf8 text q.1 in
    record { characters = record { utf8 = utf8; characters = characters_are_those text utf8 ∙ all_characters (chars text) p.1 }; short = omega (arith, few) }
