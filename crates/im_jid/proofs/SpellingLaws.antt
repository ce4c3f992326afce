-- Spellings of an account's address.
use Rattle.std.proofs.Common.{◌≡◌, ℕ, ◌<◌, Bool, true, false, List, [], ◌∷◌, ◌++◌, flat_map, map, length, ◌==◌, Option, Some, None, Ok, Err, Result, IsTrue, IsAscii, IfSome, All, ◌↔◌, chars, encode_utf8, refl, sym, ap, ap₂, ◌∙◌, append-nil, true≢false, inl, inr, arith, suc, suc-le-suc, zero-le}
use Rattle.std.specs.Str.{bytes_eq}
use Rattle.std.specs.Char.{to_ascii_lowercase}
use Rattle.std.specs.List.{list_all}
use Rattle.std.proofs.lemmas.Bool.{cases_Bool, and_from}
use Rattle.std.proofs.lemmas.Bool.Decides.{nat_tests}
use Rattle.std.proofs.lemmas.Slice.Eq.{bytes_eq-Decides}
use Rattle.std.proofs.lemmas.List.Sums.{AllPass-from_list_all}
use Rattle.std.proofs.lemmas.Str.{chars-IsAscii, encodes-IsAscii}
use Rattle.std.proofs.lemmas.Str.Ascii.{IsAscii-from_all}
use Rattle.caseless.specs.Caseless.{compatibility_key}
use Rattle.caseless.proofs.CaselessLemmas.{All-chars, compatibility_key-ascii, default_case_fold-ascii}
use Rattle.im_jid.specs.declared.fault.JidFault.{JidFault}
use Rattle.im_jid.specs.declared.fault.JidFault.TheVariants.{Empty, BadLocal}
use Rattle.im_jid.specs.Cuts.{bare_of, is_slash, local_of, local_of_bare, domain_of, domain_of_bare}
use Rattle.im_jid.specs.Forms.{is_local_byte, local_form, domain_form}
use Rattle.im_jid.specs.Normal.{normal, followed_by_at, local_front, local_text, resource_back}
use Rattle.im_jid.specs.Spellings.{is_left_out, is_same_local, kept_character, kept_text, local_key, spells_account}
use Rattle.im_jid.proofs.CutLemmas.{before_first_uncut, cut_bare}
use Rattle.im_jid.proofs.NormalAgain.{IsFrom, bare_cut, bare_stays, joined_from}
use Rattle.im_jid.proofs.PartForms.{IsLocalForm, domain_form_ok, fitting_ok, local_ascii, local_form_ok, lower_kept, ok_from_else, ok_from_then}

pub same_answer : (same : Bool) (xs ys : List ℕ) → (IsTrue same ↔ (xs ≡ ys)) → same ≡ bytes_eq xs ys
same_answer true xs ys iff = sym ((bytes_eq-Decides xs ys).1 (iff.0 refl))
same_answer false xs ys iff = elim (cases_Bool (bytes_eq xs ys)) [ inl e ↦ absurd (true≢false (sym (iff.1 ((bytes_eq-Decides xs ys).0 e)))) | inr e ↦ sym e ]

same_bytes : (xs : List ℕ) → bytes_eq xs xs ≡ true
same_bytes xs = (bytes_eq-Decides xs xs).1 refl

-- ---- a local part of ASCII is compared in lower case

kept_ascii : (c : ℕ) → c < 128 → kept_character c ≡ encode_utf8 c
kept_ascii c small =
    let stays : is_left_out c ≡ false = grind (arith, nat_tests) in rw stays refl

all_kept : (cs : List ℕ) → All (λ c. c < 128) cs → flat_map kept_character cs ≡ flat_map encode_utf8 cs
all_kept [] small = refl
all_kept (c ∷ cs) small = ap₂ ◌++◌ (kept_ascii c (small 0 0 (suc-le-suc zero-le))) (all_kept cs (λ k d lt. small (suc k) d (suc-le-suc lt)))

kept_text-ascii : (part : List ℕ) → IsAscii part → kept_text part ≡ part
kept_text-ascii part ascii =
    all_kept (chars part) (All-chars part ascii) ∙ ap (flat_map encode_utf8) (chars-IsAscii part ascii) ∙ encodes-IsAscii part ascii

pub local_key-ascii : (part : List ℕ) → IsAscii part → local_key part ≡ map to_ascii_lowercase part
local_key-ascii part ascii =
    let small = All-chars part ascii in
    ap (λ text. compatibility_key (chars text)) (kept_text-ascii part ascii) ∙ compatibility_key-ascii (chars part) small
    ∙ default_case_fold-ascii (chars part) small ∙ ap (map to_ascii_lowercase) (chars-IsAscii part ascii)

-- ---- a text that reads as the account's address

local_byte_ascii : (b : ℕ) → is_local_byte b ≡ true → b < 128
local_byte_ascii b e = grind (arith, nat_tests)

pub given_ascii : (given : List ℕ) → list_all is_local_byte given ≡ true → IsAscii given
given_ascii given valid =
    let each = AllPass-from_list_all is_local_byte given valid in IsAscii-from_all given (λ k d lt. local_byte_ascii _ (each k d lt))

same_part : (given part : List ℕ) → local_form given ≡ Ok part → is_same_local (Some given) (Some part) ≡ true
same_part given part form =
    let some = ok_from_else (length given == 0) Empty _ part form in
    let valid = ok_from_then (list_all is_local_byte given) BadLocal _ part some.1 in
    let lower : map to_ascii_lowercase given ≡ part = (fitting_ok _ part valid.1).0 in
    let is = local_form_ok given part form in
    let one = local_key-ascii given (given_ascii given valid.0) ∙ lower in
    let other = local_key-ascii part (local_ascii part is) ∙ lower_kept part is.lower in
    (bytes_eq-Decides (local_key given) (local_key part)).1 (one ∙ sym other)

-- a local part and what it reads as
record IsRead (given : Option (List ℕ)) (out : List ℕ) : Type 0 where
  part : Option (List ℕ)
  form : IfSome part IsLocalForm
  is : local_text part ≡ out
  same : is_same_local given part ≡ true

part_read : (given out : List ℕ) (form : Result (List ℕ) JidFault) → local_form given ≡ form → followed_by_at form ≡ Ok out → IsRead (Some given) out
part_read given out (Err e) f is = cc
part_read given out (Ok part) f is = record { part = Some part; form = local_form_ok given part f; is = cc; same = same_part given part f }

local_read : (given : Option (List ℕ)) (out : List ℕ) → local_front given ≡ Ok out → IsRead given out
local_read None out is = record { part = None; form = tt; is = cc; same = refl }
local_read (Some given) out is = part_read given out (local_form given) refl is

bare_spelling : (account text : List ℕ) → resource_back None ≡ Ok [] → IsFrom (bare_of text) (bare_of account) → spells_account account text ≡ true
bare_spelling account text none from =
    let bare = cut_bare (bare_of text) (before_first_uncut is_slash text) in
    let nothing : from.resource ≡ [] = let e : resource_back None ≡ Ok from.resource = rw bare.back at from.resource_is in cc in
    let read = local_read (local_of text) from.local (rw bare.front at from.local_is) in
    let form : domain_form (domain_of text) ≡ Ok from.domain = rw bare.front at from.domain_is in
    let whole : local_text read.part ++ from.domain ≡ bare_of account =
    ap (λ local. local ++ from.domain) read.is ∙ sym (append-nil (from.local ++ from.domain)) ∙ ap (λ r. (from.local ++ from.domain) ++ r) (sym nothing) ∙ from.joined_is in
    let cut = bare_cut read.part from.domain read.form (domain_form_ok (domain_of text) from.domain form) in
    let local : local_of account ≡ read.part = ap local_of_bare (sym whole) ∙ cut.front in
    let domain : domain_of account ≡ from.domain = ap domain_of_bare (sym whole) ∙ cut.back in
    rw (local, domain, form) (and_from _ _ (same_bytes from.domain) read.same)

pub read_spelling : (account text : List ℕ) → normal (bare_of text) ≡ Ok (bare_of account) → spells_account account text ≡ true
read_spelling account text is = bare_spelling account text refl (joined_from (bare_of text) (bare_of account) _ _ _ refl refl refl is)

pub own_spelling : (account : List ℕ) → normal account ≡ Ok account → spells_account account account ≡ true
own_spelling account is = read_spelling account account (bare_stays account is)
