-- The GS2 header, and the client's first message.
use Rattle.std.proofs.Common.{◌≡◌, ℕ, ◌==◌, ◌⊎◌, Bool, true, false, cond, List, [], ◌∷◌, ◌++◌, codes, Option, Some, None, Result, Ok, Err, refl, sym, ap, ◌∙◌, inl, inr, append_assoc}
use Rattle.std.proofs.lemmas.Bool.{cases_Bool}
use Rattle.auth_scram.specs.Classes.{is_binding}
use Rattle.auth_scram.specs.Grammar.{IsAuthzid, IsBare, IsClientFirst, IsFlag, IsName, are_some}
use Rattle.auth_scram.specs.Messages.{FirstParts, authzid, bare_parts, binding, binding_flag, binding_name, first_parts, identity, saslname}
use Rattle.auth_scram.specs.Parts.{◌>>=◌, literal}
use Rattle.auth_scram.specs.declared.binding_flag.BindingFlag.{BindingFlag}
use Rattle.auth_scram.specs.declared.binding_flag.BindingFlag.TheVariants.{Unsupported, NotOffered}
use Rattle.auth_scram.specs.declared.classes.Class.TheVariants.{Binding}
use Rattle.auth_scram.proofs.Choices.{IsGiven, Lacks, chosen_by, chosen_part, after_part, given_part, read_given, said_part, same_part}
use Rattle.auth_scram.proofs.FirstMessages.{BareParts, IsBareText, NamePart, Texts, a_name, bare_reads, bare_to, some_named}
use Rattle.auth_scram.proofs.Languages.{Closed, class_part}
use Rattle.auth_scram.proofs.NameRuns.{name_part}
use Rattle.auth_scram.proofs.Sequences.{After, IsPart, Reads, Then, after_word, anything, sequence}

closer : {A : Type 0} (p : List ℕ → Result (A × List ℕ) (List ℕ)) (P : A → List ℕ → Type 0) → IsPart p P anything → IsPart p P Closed
closer {A} p P part = record { took = part.took; takes = λ a x rest spelled closes. part.takes a x rest spelled tt; leaves = part.leaves }

-- ---- the flag

abbrev Bound : List ℕ → List ℕ → Type 0
Bound text part = (text ≡ part) × (are_some is_binding part ≡ true)

abbrev BindingRest : Option BindingFlag → List ℕ → Type 0
BindingRest flag part = (flag ≡ None) × ((name : List ℕ) × (are_some is_binding name ≡ true) × (part ≡ codes "=" ++ name))

binding_part : IsPart binding BindingRest Closed
unfolding binding
binding_part =
    said_part binding (λ flag part. (a : List ℕ) × (x : List ℕ) × (part ≡ codes "=" ++ x) × Bound a x × (flag ≡ None)) BindingRest Closed
    (λ flag part w. (w.4, (w.1, w.3.1, w.2)))
    (λ flag part w. (w.1.0, w.1.0, w.1.2, (refl, w.1.1), w.0))
    (after_part (codes "=") binding_name Bound Closed (λ text. None) (class_part Binding) (97 ∷ [], 97 ∷ [], (refl, refl)))

abbrev FlagRest : Type 0
FlagRest = Option BindingFlag × List ℕ

last : List ℕ → Result FlagRest (List ℕ)
last bytes = literal (112 ∷ []) bytes >>= λ rest. binding rest >>= λ x. Ok (x.0, x.1)

abbrev LastFlag : Option BindingFlag → List ℕ → Type 0
LastFlag flag part = (a : Option BindingFlag) × (x : List ℕ) × (part ≡ 112 ∷ x) × BindingRest a x × (flag ≡ a)

last_part : IsPart last LastFlag Closed
unfolding last
last_part = after_part (112 ∷ []) binding BindingRest Closed (λ flag. flag) binding_part (None, codes "=a", (refl, (97 ∷ [], refl, refl)))

abbrev NotOfferedFlag : Option BindingFlag → List ℕ → Type 0
NotOfferedFlag flag part = ((more : List ℕ) × (part ≡ 121 ∷ more) × IsGiven (Some NotOffered) flag more) ⊎ LastFlag flag part

abbrev AnyFlag : Option BindingFlag → List ℕ → Type 0
AnyFlag flag part = ((more : List ℕ) × (part ≡ 110 ∷ more) × IsGiven (Some Unsupported) flag more) ⊎ NotOfferedFlag flag part

given_flag : (flag : Option BindingFlag) → IsPart (read_given flag) (IsGiven flag) Closed
given_flag flag = closer (read_given flag) (IsGiven flag) (given_part flag)

lacks_head : (c d : ℕ) (part x rest : List ℕ) → (d == c) ≡ false → part ≡ d ∷ x → Lacks c (part ++ rest)
lacks_head c d part x rest h e = rw e h

lacks_n : (flag : Option BindingFlag) (part rest : List ℕ) → NotOfferedFlag flag part → Closed rest → Lacks 110 (part ++ rest)
lacks_n flag part rest (inl w) closed = lacks_head 110 121 part w.0 rest refl w.1
lacks_n flag part rest (inr w) closed = lacks_head 110 112 part w.1 rest refl w.2

abbrev flag_choice : List ℕ → Result FlagRest (List ℕ)
flag_choice = chosen_by 110 (read_given (Some Unsupported)) (chosen_by 121 (read_given (Some NotOffered)) last)

choice_part : IsPart flag_choice AnyFlag Closed
choice_part =
    chosen_part 110 (read_given (Some Unsupported)) (chosen_by 121 (read_given (Some NotOffered)) last) (IsGiven (Some Unsupported)) NotOfferedFlag Closed (given_flag (Some Unsupported))
    (chosen_part 121 (read_given (Some NotOffered)) last (IsGiven (Some NotOffered)) LastFlag Closed (given_flag (Some NotOffered)) last_part
    (λ flag part rest w closed. lacks_head 121 112 part w.1 rest refl w.2))
    lacks_n

bind_itself : (r : Result FlagRest (List ℕ)) → (r >>= λ x. Ok (x.0, x.1)) ≡ r
bind_itself (Ok x) = refl
bind_itself (Err e) = refl

last_is : (b : ℕ) (bytes : List ℕ) → cond (b == 112) (binding bytes) (Err (b ∷ bytes)) ≡ last (b ∷ bytes)
unfolding last
last_is b bytes =
    elim (cases_Bool (b == 112)) [
      | inl e ↦ rw e (sym (bind_itself (binding bytes)))
      | inr e ↦ rw e refl
    ]

flag_same : (bytes : List ℕ) → binding_flag bytes ≡ flag_choice bytes
unfolding last
flag_same [] = refl
flag_same (b ∷ bytes) = ap (λ (r : Result FlagRest (List ℕ)). cond (b == 110) (Ok (Some Unsupported, bytes)) (cond (b == 121) (Ok (Some NotOffered, bytes)) r)) (last_is b bytes)

flag_to : (flag : Option BindingFlag) (part : List ℕ) → AnyFlag flag part → IsFlag flag part
flag_to flag part (inl w) = rw (w.2.0, w.1, w.2.1) refl
flag_to flag part (inr (inl w)) = rw (w.2.0, w.1, w.2.1) refl
flag_to flag part (inr (inr w)) =
    let none : flag ≡ None = w.4 ∙ w.3.0 in
    let name = w.3.1 in
    rw none (name.0, name.1, w.2 ∙ ap (λ (x : List ℕ). 112 ∷ x) name.2)

flag_from : (flag : Option BindingFlag) (part : List ℕ) → IsFlag flag part → AnyFlag flag part
flag_from (Some Unsupported) part e = inl ([], e, (refl, refl))
flag_from (Some NotOffered) part e = inr (inl ([], e, (refl, refl)))
flag_from None part w = inr (inr (None, codes "=" ++ w.0, w.2, (refl, (w.0, w.1, refl)), refl))

pub flag_part : IsPart binding_flag IsFlag Closed
flag_part = said_part binding_flag AnyFlag IsFlag Closed flag_to flag_from (same_part flag_choice binding_flag AnyFlag Closed flag_same choice_part)

-- ---- the authorization identity

abbrev IdentityRest : Bool → List ℕ → Type 0
IdentityRest b part = (a : List ℕ) × (x : List ℕ) × (part ≡ codes "=" ++ x) × NamePart a x × (b ≡ true)

identity_part : IsPart identity IdentityRest Closed
unfolding identity
identity_part = after_part (codes "=") saslname NamePart Closed (λ text. true) name_part (97 ∷ [], 97 ∷ [], (refl, (97 ∷ [], a_name)))

abbrev AnyIdentity : Bool → List ℕ → Type 0
AnyIdentity b part = ((more : List ℕ) × (part ≡ 97 ∷ more) × IdentityRest b more) ⊎ IsGiven false b part

lacks_a : (b : Bool) (part rest : List ℕ) → IsGiven false b part → Closed rest → Lacks 97 (part ++ rest)
lacks_a b part rest is closed = rw is.1 (closed_lacks rest closed)
  where
    closed_lacks : (rest : List ℕ) → Closed rest → Lacks 97 rest
    closed_lacks [] closed = tt
    closed_lacks (c ∷ rest) closed = rw closed refl

authzid_same : (bytes : List ℕ) → authzid bytes ≡ chosen_by 97 identity (read_given false) bytes
authzid_same [] = refl
authzid_same (b ∷ bytes) = refl

authzid_to : (b : Bool) (part : List ℕ) → AnyIdentity b part → IsAuthzid b part
authzid_to b part (inl w) =
    let i = w.2 in
    rw i.4 (i.3.1.0, i.1, i.3.1.1, w.1 ∙ ap (λ (x : List ℕ). 97 ∷ x) i.2)
authzid_to b part (inr is) = rw is.0 is.1

authzid_from : (b : Bool) (part : List ℕ) → IsAuthzid b part → AnyIdentity b part
authzid_from true part w = inl (codes "=" ++ w.1, w.3, (w.1, w.1, refl, (refl, (w.0, w.2)), refl))
authzid_from false part e = inr (refl, e)

pub authzid_part : IsPart authzid IsAuthzid Closed
authzid_part =
    said_part authzid AnyIdentity IsAuthzid Closed authzid_to authzid_from
    (same_part (chosen_by 97 identity (read_given false)) authzid AnyIdentity Closed authzid_same
    (chosen_part 97 identity (read_given false) IdentityRest (IsGiven false) Closed identity_part (closer (read_given false) (IsGiven false) (given_part false)) lacks_a))

-- ---- the whole message

some_bare : (flag : Option BindingFlag) (authorizes : Bool) → (parts : FirstParts) × (bare : List ℕ) × BareParts flag authorizes parts bare
some_bare flag authorizes =
    let texts = some_named.0 in
    let bare = codes "n=" ++ some_named.1 in (
      record { flag = flag; authorizes = authorizes; name = texts.0; nonce = texts.1; bare = bare },
      bare,
      (texts, bare_to texts bare (some_named.1, refl, some_named.2), refl),
    )

abbrev Bared : Option BindingFlag → Bool → FirstParts → List ℕ → Type 0
Bared flag authorizes = After (codes ",") (BareParts flag authorizes)

some_bared : (flag : Option BindingFlag) (authorizes : Bool) → (parts : FirstParts) × (rest : List ℕ) × Bared flag authorizes parts rest
some_bared flag authorizes = let s = some_bare flag authorizes in (s.0, codes "," ++ s.1, (s.1, refl, s.2))

abbrev Identified : Option BindingFlag → FirstParts → List ℕ → Type 0
Identified flag = Then IsAuthzid (λ authorizes. Bared flag authorizes)

identified_reads : (flag : Option BindingFlag) → Reads (λ bytes. authzid bytes >>= λ a. literal (codes ",") a.1 >>= λ bare. bare_parts flag a.0 bare) (Identified flag)
identified_reads flag =
    sequence authzid (λ authorizes bytes. literal (codes ",") bytes >>= λ bare. bare_parts flag authorizes bare) IsAuthzid (λ authorizes. Bared flag authorizes) Closed authzid_part
    (λ authorizes. after_word (codes ",") (bare_parts flag authorizes) (BareParts flag authorizes) (bare_reads flag authorizes) (some_bare flag authorizes))
    (λ authorizes parts rest w. rw w.1 refl) (λ authorizes. some_bared flag authorizes)

some_identified : (flag : Option BindingFlag) → (parts : FirstParts) × (rest : List ℕ) × Identified flag parts rest
some_identified flag = let s = some_bared flag false in (s.0, s.1, (false, [], s.1, refl, refl, s.2))

abbrev pub Headed : FirstParts → List ℕ → Type 0
Headed = Then IsFlag (λ flag. After (codes ",") (Identified flag))

pub first_reads : Reads first_parts Headed
unfolding first_parts
first_reads =
    sequence binding_flag (λ flag bytes. literal (codes ",") bytes >>= λ identity. authzid identity >>= λ a. literal (codes ",") a.1 >>= λ bare. bare_parts flag a.0 bare) IsFlag
    (λ flag. After (codes ",") (Identified flag)) Closed flag_part
    (λ flag. after_word (codes ",") (λ bytes. authzid bytes >>= λ a. literal (codes ",") a.1 >>= λ bare. bare_parts flag a.0 bare) (Identified flag) (identified_reads flag) (some_identified flag))
    (λ flag parts rest w. rw w.1 refl) (λ flag. some_after flag)
  where
    some_after : (flag : Option BindingFlag) → (parts : FirstParts) × (rest : List ℕ) × After (codes ",") (Identified flag) parts rest
    some_after flag = let s = some_identified flag in (s.0, codes "," ++ s.1, (s.1, refl, s.2))

-- ---- in the grammar's words

five : (bytes a b c d r1 r2 r3 e : List ℕ) → bytes ≡ a ++ r1 → r1 ≡ b ++ r2 → r2 ≡ c ++ r3 → r3 ≡ d ++ e → bytes ≡ a ++ b ++ c ++ d ++ e
five bytes a b c d r1 r2 r3 e e1 e2 e3 e4 = rw (e1, e2, e3, e4) (simp append_assoc)

-- what the parts of a message say
pub record IsFirst (parts : FirstParts) (bytes : List ℕ) : Type 0 where
  pub name : List ℕ
  pub named : IsName name parts.name
  pub message : IsClientFirst parts.flag parts.authorizes name parts.nonce parts.bare bytes

bare_of : (name : List ℕ) (texts : Texts) (bare : List ℕ) → IsName name texts.0 → IsBareText texts bare → IsBare name texts.1 bare
bare_of name texts bare named is =
    record { name_text = texts.0; extensions = is.extensions; named = named; random = is.random; extended = is.extended; spelled = is.spelled }

pub first_to : (parts : FirstParts) (bytes : List ℕ) → Headed parts bytes → IsFirst parts bytes
first_to parts bytes w =
    let i = w.5.2 in
    let b = i.5.2 in
    let texts = b.0 in
    let is = b.1 in
    let parts_are : parts ≡ record { flag = w.0; authorizes = i.0; name = texts.0; nonce = texts.1; bare = i.5.0 } = b.2 in
    rw parts_are (record {
      name = is.named.0;
      named = is.named.1;
      message = record {
        flag_text = w.1;
        authzid_text = i.1;
        flagged = w.4;
        identified = i.4;
        said = bare_of is.named.0 texts i.5.0 is.named.1 is;
        spelled = five bytes w.1 (codes ",") i.1 (codes ",") w.2 w.5.0 i.2 i.5.0 w.3 w.5.1 i.3 i.5.1;
      };
    })

pub first_from : (flag : Option BindingFlag) (authorizes : Bool) (name nonce bare bytes : List ℕ) → IsClientFirst flag authorizes name nonce bare bytes
    → (text : List ℕ) × IsName name text × Headed (record { flag = flag; authorizes = authorizes; name = text; nonce = nonce; bare = bare }) bytes
first_from flag authorizes name nonce bare bytes is =
    let said = is.said in
    let text = said.name_text in
    let texts : Texts = (text, nonce) in (
      text,
      said.named,
      (
        flag,
        is.flag_text,
        codes "," ++ (is.authzid_text ++ (codes "," ++ bare)),
        is.spelled ∙ simp append_assoc,
        is.flagged,
        (
          is.authzid_text ++ (codes "," ++ bare),
          refl,
          (
            authorizes,
            is.authzid_text,
            codes "," ++ bare,
            refl,
            is.identified,
            (bare, refl, (texts, record { extensions = said.extensions; named = (name, said.named); random = said.random; extended = said.extended; spelled = said.spelled }, refl)),
          ),
        ),
      ),
    )
