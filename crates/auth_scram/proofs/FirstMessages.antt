-- The client's first message is read as the grammar has it.
use Rattle.std.proofs.Common.{◌≡◌, ℕ, Bool, true, List, [], ◌∷◌, ◌++◌, codes, Option, Ok, refl, sym, ap, ◌∙◌, arith, append_assoc, subst}
use Rattle.std.proofs.lemmas.List.{append-nil}
use Rattle.std.proofs.lemmas.Str.{IsUtf8-nil}
use Rattle.std.specs.List.{flat_map}
use Rattle.auth_scram.specs.Classes.{is_printable}
use Rattle.auth_scram.specs.Grammar.{AreExtensions, IsName, are_some}
use Rattle.auth_scram.specs.Messages.{FirstParts, bare_parts, bare_texts, extensions, nonce, saslname}
use Rattle.auth_scram.specs.Parts.{◌>>=◌, ends_here, literal}
use Rattle.auth_scram.specs.declared.binding_flag.BindingFlag.{BindingFlag}
use Rattle.auth_scram.specs.declared.classes.Class.TheVariants.{Printable}
use Rattle.auth_scram.specs.declared.values.Until.TheVariants.{End}
use Rattle.auth_scram.proofs.Characters.{one_more}
use Rattle.auth_scram.proofs.ExtensionRuns.{end_part}
use Rattle.auth_scram.proofs.Languages.{Closed, class_part}
use Rattle.auth_scram.proofs.NameRuns.{name_part}
use Rattle.auth_scram.proofs.Sequences.{After, IsEnd, Reads, Then, after_word, at_end, said, sequence, with_bytes}

-- ---- the bare message, from its end to its beginning

abbrev pub Texts : Type 0
Texts = List ℕ × List ℕ

abbrev pub Nonce : List ℕ → List ℕ → Type 0
Nonce text part = (text ≡ part) × (are_some is_printable part ≡ true)

abbrev pub NamePart : List ℕ → List ℕ → Type 0
NamePart text part = (text ≡ part) × ((name : List ℕ) × IsName name part)

abbrev pub Extended : List ℕ → List ℕ → Type 0
Extended text part = (text ≡ part) × AreExtensions End part

-- extensions and the end
abbrev pub Tail : {V : Type 0} → V → V → List ℕ → Type 0
Tail v = Then Extended (λ extensions. IsEnd v)

pub tail_reads : {V : Type 0} (v : V) → Reads (λ bytes. extensions bytes >>= λ x. ends_here x.1 >>= λ end. Ok v) (Tail v)
tail_reads {V} v =
    sequence extensions (λ text bytes. ends_here bytes >>= λ end. Ok v) Extended (λ text. IsEnd v) (λ rest. rest ≡ []) end_part (λ text. at_end v) (λ text w rest is. is.1) (λ text. (v, [], (refl, refl)))

pub extensions_closed : (part : List ℕ) → AreExtensions End part → Closed (part ++ [])
extensions_closed part are = subst Closed (sym (append-nil part)) (flat_closed are.0 part are.2)
  where
    flat_closed : (each : List (List ℕ)) (part : List ℕ) → part ≡ flat_map (λ extension. 44 ∷ extension) each → Closed part
    flat_closed [] part e = rw e tt
    flat_closed (extension ∷ each) part e = rw e refl

pub tail_closed : {V : Type 0} (v w : V) (rest : List ℕ) → Tail v w rest → Closed rest
tail_closed {V} v w rest t =
    let closed = extensions_closed t.1 t.4.1 in
    let whole : rest ≡ t.1 ++ [] = t.3 ∙ ap (λ (x : List ℕ). t.1 ++ x) t.5.1 in
    subst Closed (sym whole) closed

pub some_tail : {V : Type 0} (v : V) → (w : V) × (rest : List ℕ) × Tail v w rest
some_tail {V} v = (v, [], ([], [], [], refl, (refl, ([], tt, refl)), (refl, refl)))

-- the nonce, and what follows it
abbrev pub Random : List ℕ → Texts → List ℕ → Type 0
Random name = Then Nonce (λ nonce. Tail (name, nonce))

random_reads : (name : List ℕ) → Reads (λ bytes. nonce bytes >>= λ n. extensions n.1 >>= λ x. ends_here x.1 >>= λ end. Ok (name, n.0)) (Random name)
random_reads name =
    sequence nonce (λ n bytes. extensions bytes >>= λ x. ends_here x.1 >>= λ end. Ok (name, n)) Nonce (λ n. Tail (name, n)) Closed (class_part Printable) (λ n. tail_reads (name, n))
    (λ n v rest t. tail_closed (name, n) v rest t) (λ n. some_tail (name, n))

some_random : (name : List ℕ) → (v : Texts) × (rest : List ℕ) × Random name v rest
some_random name = let t = some_tail (name, 97 ∷ []) in (t.0, 97 ∷ t.1, (97 ∷ [], 97 ∷ [], t.1, refl, (refl, refl), t.2))

abbrev pub Named : Texts → List ℕ → Type 0
Named = Then NamePart (λ name. After (codes ",r=") (Random name))

named_reads : Reads (λ bytes. saslname bytes >>= λ name. literal (codes ",r=") name.1 >>= λ random. nonce random >>= λ n. extensions n.1 >>= λ x. ends_here x.1 >>= λ end. Ok (name.0, n.0)) Named
named_reads =
    sequence saslname (λ name bytes. literal (codes ",r=") bytes >>= λ random. nonce random >>= λ n. extensions n.1 >>= λ x. ends_here x.1 >>= λ end. Ok (name, n.0)) NamePart
    (λ name. After (codes ",r=") (Random name)) Closed name_part
    (λ name. after_word (codes ",r=") (λ bytes. nonce bytes >>= λ n. extensions n.1 >>= λ x. ends_here x.1 >>= λ end. Ok (name, n.0)) (Random name) (random_reads name) (some_random name))
    (λ name v rest a. rw a.1 refl) (λ name. some_after name)
  where
    some_after : (name : List ℕ) → (v : Texts) × (rest : List ℕ) × After (codes ",r=") (Random name) v rest
    some_after name = let r = some_random name in (r.0, codes ",r=" ++ r.1, (r.1, refl, r.2))

pub a_name : IsName (97 ∷ []) (97 ∷ [])
a_name = record { some = omega arith; utf8 = one_more 97 [] (omega arith) IsUtf8-nil; bytes = refl; spelled = refl }

pub some_named : (v : Texts) × (rest : List ℕ) × Named v rest
some_named =
    let r = some_random (97 ∷ []) in
    (r.0, 97 ∷ codes ",r=" ++ r.1, (97 ∷ [], 97 ∷ [], codes ",r=" ++ r.1, refl, (refl, (97 ∷ [], a_name)), (r.1, refl, r.2)))

-- the texts of a bare message
pub record IsBareText (texts : Texts) (bare : List ℕ) : Type 0 where
  pub extensions : List ℕ
  pub named : (name : List ℕ) × IsName name texts.0
  pub random : are_some is_printable texts.1 ≡ true
  pub extended : AreExtensions End extensions
  pub spelled : bare ≡ codes "n=" ++ texts.0 ++ codes ",r=" ++ texts.1 ++ extensions

five : (bytes a b c d e r1 r2 r3 r4 r5 : List ℕ) → bytes ≡ a ++ r1 → r1 ≡ b ++ r2 → r2 ≡ c ++ r3 → r3 ≡ d ++ r4 → r4 ≡ e ++ r5 → r5 ≡ [] → bytes ≡ a ++ b ++ c ++ d ++ e
five bytes a b c d e r1 r2 r3 r4 r5 e1 e2 e3 e4 e5 e6 = rw (e1, e2, e3, e4, e5, e6) (simp (append_assoc, append-nil))

pub bare_to : (texts : Texts) (bare : List ℕ) → After (codes "n=") Named texts bare → IsBareText texts bare
bare_to texts bare w =
    let n = w.2 in
    let r = n.5 in
    let c = r.2 in
    let t = c.5 in
    let is : texts ≡ (n.0, c.0) = t.5.0 in
    rw is (record {
      extensions = t.1;
      named = (n.4.1.0, rw n.4.0 n.4.1.1);
      random = rw c.4.0 c.4.1;
      extended = t.4.1;
      spelled = rw (n.4.0, c.4.0) (five bare (codes "n=") n.1 (codes ",r=") c.1 t.1 w.0 n.2 r.0 c.2 t.2 w.1 n.3 r.1 c.3 t.3 t.5.1);
    })

bare_from : (texts : Texts) (bare : List ℕ) → IsBareText texts bare → After (codes "n=") Named texts bare
bare_from texts bare is =
    let name = texts.0 in
    let random = texts.1 in
    let extensions = is.extensions in (
      name ++ (codes ",r=" ++ (random ++ extensions)),
      is.spelled ∙ simp append_assoc,
      (
        name,
        name,
        codes ",r=" ++ (random ++ extensions),
        refl,
        (refl, is.named),
        (random ++ extensions, refl, (random, random, extensions, refl, (refl, is.random), (extensions, extensions, [], sym (append-nil extensions), (refl, is.extended), (refl, refl)))),
      ),
    )

pub bare_text_reads : Reads bare_texts IsBareText
unfolding bare_texts
bare_text_reads =
    said bare_texts (After (codes "n=") Named) IsBareText bare_to bare_from
    (after_word (codes "n=") (λ bytes. saslname bytes >>= λ name. literal (codes ",r=") name.1 >>= λ random. nonce random >>= λ n. extensions n.1 >>= λ x. ends_here x.1 >>= λ end. Ok (name.0, n.0)) Named named_reads some_named)

-- the parts of a message whose header was read
abbrev pub BareParts : Option BindingFlag → Bool → FirstParts → List ℕ → Type 0
BareParts flag authorizes parts bare =
    (texts : Texts) × IsBareText texts bare × (parts ≡ record { flag = flag; authorizes = authorizes; name = texts.0; nonce = texts.1; bare = bare })

pub bare_reads : (flag : Option BindingFlag) (authorizes : Bool) → Reads (bare_parts flag authorizes) (BareParts flag authorizes)
unfolding bare_parts
bare_reads flag authorizes =
    with_bytes bare_texts IsBareText (λ bare texts. record { flag = flag; authorizes = authorizes; name = texts.0; nonce = texts.1; bare = bare }) bare_text_reads
