-- The server's messages and the client's final one are read as the grammar has them.
use Rattle.std.proofs.Common.{◌≡◌, ℕ, ◌-◌, ◌==◌, ◌⊎◌, true, cond, List, [], ◌∷◌, ◌++◌, length, take, codes, Option, Some, None, Result, Ok, Err, refl, sym, ap, ◌∙◌, arith, inl, inr, append_assoc, subst}
use Rattle.std.proofs.lemmas.Bool.{cases_Bool}
use Rattle.std.proofs.lemmas.List.{append-nil, length-append, take_at}
use Rattle.std.proofs.lemmas.Str.{IsUtf8-nil}
use Rattle.std.specs.List.{flat_map}
use Rattle.std.specs.Option.{option_map}
use Rattle.base64.specs.Engines.{standard}
use Rattle.base64.specs.GeneralPurpose.{IsBytes, encode_of}
use Rattle.base64.specs.Rfc4648.{encode_symbols}
use Rattle.base64.proofs.EngineFacts.{encode_of-nil}
use Rattle.auth_scram.specs.Grammar.{IsClientFinal, IsServerFinal, IsServerFirst, IsValue, gs2_header, is_count}
use Rattle.auth_scram.specs.Messages.{ClientFinalParts, ServerFirstParts, base64, before_proof, client_final_parts, count, error_part, extensions, gs2_base64, nonce, server_final_parts, server_first_parts, up_to_proof, value_and_extensions, verifier_part}
use Rattle.auth_scram.specs.Parts.{◌>>=◌, ends_here, literal}
use Rattle.auth_primitives.specs.Canonical.{IsBase64}
use Rattle.auth_scram.specs.Values.{value_of}
use Rattle.auth_scram.specs.declared.binding_flag.BindingFlag.{BindingFlag}
use Rattle.auth_scram.specs.declared.binding_flag.BindingFlag.TheVariants.{Unsupported, NotOffered}
use Rattle.auth_scram.specs.declared.classes.Class.TheVariants.{Printable}
use Rattle.auth_scram.specs.declared.values.Until.TheVariants.{End, Proof}
use Rattle.auth_scram.proofs.Characters.{one_more}
use Rattle.auth_scram.proofs.Choices.{Lacks, chosen_by, chosen_reads}
use Rattle.auth_scram.proofs.ExtensionRuns.{Goal, Whole, proof_part, values_part}
use Rattle.auth_scram.proofs.FirstMessages.{Nonce, Tail, some_tail, tail_closed, tail_reads}
use Rattle.auth_scram.proofs.Languages.{Closed, class_part, count_part, base64_part}
use Rattle.auth_scram.proofs.Sequences.{After, IsEnd, Reads, Then, after_word, anything, at_end, same_reads, sequence}

abbrev Based : List ℕ → List ℕ → Type 0
Based text part = (text ≡ part) × IsBase64 part

abbrev Counted : List ℕ → List ℕ → Type 0
Counted text part = (text ≡ part) × (is_count part ≡ true)

no_bytes : IsBase64 []
no_bytes = ([], λ i. omega arith, sym (encode_of-nil standard))

-- ---- the server's first message

abbrev counted : List ℕ → List ℕ → List ℕ → ServerFirstParts
counted random salt digits = record { nonce = random; salt = salt; count = digits }

abbrev CountTail : List ℕ → List ℕ → ServerFirstParts → List ℕ → Type 0
CountTail random salt = Then Counted (λ digits. Tail (counted random salt digits))

count_reads : (random salt : List ℕ) → Reads (λ bytes. count bytes >>= λ c. extensions c.1 >>= λ x. ends_here x.1 >>= λ end. Ok (counted random salt c.0)) (CountTail random salt)
count_reads random salt =
    sequence count (λ digits bytes. extensions bytes >>= λ x. ends_here x.1 >>= λ end. Ok (counted random salt digits)) Counted (λ digits. Tail (counted random salt digits)) Closed count_part
    (λ digits. tail_reads (counted random salt digits)) (λ digits v rest t. tail_closed (counted random salt digits) v rest t) (λ digits. some_tail (counted random salt digits))

some_count : (random salt : List ℕ) → (v : ServerFirstParts) × (rest : List ℕ) × CountTail random salt v rest
some_count random salt = let t = some_tail (counted random salt (49 ∷ [])) in (t.0, 49 ∷ t.1, (49 ∷ [], 49 ∷ [], t.1, refl, (refl, refl), t.2))

abbrev SaltTail : List ℕ → ServerFirstParts → List ℕ → Type 0
SaltTail random = Then Based (λ salt. After (codes ",i=") (CountTail random salt))

some_counted : (random salt : List ℕ) → (v : ServerFirstParts) × (rest : List ℕ) × After (codes ",i=") (CountTail random salt) v rest
some_counted random salt = let s = some_count random salt in (s.0, codes ",i=" ++ s.1, (s.1, refl, s.2))

salt_reads : (random : List ℕ)
    → Reads (λ bytes. base64 bytes >>= λ salt. literal (codes ",i=") salt.1 >>= λ counts. count counts >>= λ c. extensions c.1 >>= λ x. ends_here x.1 >>= λ end. Ok (counted random salt.0 c.0)) (SaltTail random)
salt_reads random =
    sequence base64 (λ salt bytes. literal (codes ",i=") bytes >>= λ counts. count counts >>= λ c. extensions c.1 >>= λ x. ends_here x.1 >>= λ end. Ok (counted random salt c.0)) Based
    (λ salt. After (codes ",i=") (CountTail random salt)) Closed base64_part
    (λ salt. after_word (codes ",i=") (λ bytes. count bytes >>= λ c. extensions c.1 >>= λ x. ends_here x.1 >>= λ end. Ok (counted random salt c.0)) (CountTail random salt) (count_reads random salt) (some_count random salt))
    (λ salt v rest w. rw w.1 refl) (λ salt. some_counted random salt)

some_salt : (random : List ℕ) → (v : ServerFirstParts) × (rest : List ℕ) × SaltTail random v rest
some_salt random = let s = some_counted random [] in (s.0, s.1, ([], [], s.1, refl, (refl, no_bytes), s.2))

some_salted : (random : List ℕ) → (v : ServerFirstParts) × (rest : List ℕ) × After (codes ",s=") (SaltTail random) v rest
some_salted random = let s = some_salt random in (s.0, codes ",s=" ++ s.1, (s.1, refl, s.2))

abbrev pub ServerRest : ServerFirstParts → List ℕ → Type 0
ServerRest = Then Nonce (λ random. After (codes ",s=") (SaltTail random))

server_rest_reads : Reads (λ bytes. nonce bytes >>= λ n. literal (codes ",s=") n.1 >>= λ salted. base64 salted >>= λ salt. literal (codes ",i=") salt.1 >>= λ counts. count counts >>= λ c. extensions c.1 >>= λ x. ends_here x.1 >>= λ end. Ok (counted n.0 salt.0 c.0)) ServerRest
server_rest_reads =
    sequence nonce (λ random bytes. literal (codes ",s=") bytes >>= λ salted. base64 salted >>= λ salt. literal (codes ",i=") salt.1 >>= λ counts. count counts >>= λ c. extensions c.1 >>= λ x. ends_here x.1 >>= λ end. Ok (counted random salt.0 c.0)) Nonce
    (λ random. After (codes ",s=") (SaltTail random)) Closed (class_part Printable)
    (λ random. after_word (codes ",s=") (λ bytes. base64 bytes >>= λ salt. literal (codes ",i=") salt.1 >>= λ counts. count counts >>= λ c. extensions c.1 >>= λ x. ends_here x.1 >>= λ end. Ok (counted random salt.0 c.0)) (SaltTail random) (salt_reads random) (some_salt random))
    (λ random v rest w. rw w.1 refl) some_salted

some_server : (v : ServerFirstParts) × (rest : List ℕ) × ServerRest v rest
some_server = let s = some_salted (97 ∷ []) in (s.0, 97 ∷ s.1, (97 ∷ [], 97 ∷ [], s.1, refl, (refl, refl), s.2))

pub server_first_reads : Reads server_first_parts (After (codes "r=") ServerRest)
unfolding server_first_parts
server_first_reads =
    after_word (codes "r=") (λ bytes. nonce bytes >>= λ n. literal (codes ",s=") n.1 >>= λ salted. base64 salted >>= λ salt. literal (codes ",i=") salt.1 >>= λ counts. count counts >>= λ c. extensions c.1 >>= λ x. ends_here x.1 >>= λ end. Ok (counted n.0 salt.0 c.0)) ServerRest server_rest_reads some_server

seven : (bytes a b c d e f g r1 r2 r3 r4 r5 r6 r7 : List ℕ) → bytes ≡ a ++ r1 → r1 ≡ b ++ r2 → r2 ≡ c ++ r3 → r3 ≡ d ++ r4 → r4 ≡ e ++ r5 → r5 ≡ f ++ r6 → r6 ≡ g ++ r7 → r7 ≡ []
    → bytes ≡ a ++ b ++ c ++ d ++ e ++ f ++ g
seven bytes a b c d e f g r1 r2 r3 r4 r5 r6 r7 e1 e2 e3 e4 e5 e6 e7 e8 = rw (e1, e2, e3, e4, e5, e6, e7, e8) (simp (append_assoc, append-nil))

seven_apart : (a b c d e f g : List ℕ) → a ++ b ++ c ++ d ++ e ++ f ++ g ≡ a ++ (b ++ (c ++ (d ++ (e ++ (f ++ g)))))
seven_apart a b c d e f g = simp append_assoc

-- what the texts of a server's first message say
pub record IsServer (parts : ServerFirstParts) (bytes : List ℕ) : Type 0 where
  pub salt : List ℕ
  pub salted : IsBytes salt
  pub based : parts.salt ≡ encode_of standard salt
  pub message : IsServerFirst parts.nonce salt (value_of parts.count) bytes

pub server_to : (parts : ServerFirstParts) (bytes : List ℕ) → After (codes "r=") ServerRest parts bytes → IsServer parts bytes
server_to parts bytes w =
    let n = w.2 in
    let s = n.5 in
    let b = s.2 in
    let i = b.5 in
    let c = i.2 in
    let t = c.5 in
    let base = b.4.1 in
    let is : parts ≡ counted n.0 b.0 c.0 = t.5.0 in
    rw is (record {
      salt = base.0;
      salted = base.1;
      based = b.4.0 ∙ base.2;
      message = record {
        digits = c.0;
        extensions = t.1;
        random = rw n.4.0 n.4.1;
        salted = base.1;
        counted = (rw c.4.0 c.4.1, refl);
        extended = t.4.1;
        spelled =
            rw (n.4.0, c.4.0, ← base.2)
            (seven bytes (codes "r=") n.1 (codes ",s=") b.1 (codes ",i=") c.1 t.1 w.0 n.2 s.0 b.2 i.0 c.2 t.2 w.1 n.3 s.1 b.3 i.1 c.3 t.3 t.5.1);
      };
    })

pub server_from : (random salt : List ℕ) (total : ℕ) (bytes : List ℕ) (is : IsServerFirst random salt total bytes)
    → After (codes "r=") ServerRest (counted random (encode_of standard salt) is.digits) bytes
server_from random salt total bytes is =
    let text = encode_of standard salt in
    let r5 = is.digits ++ is.extensions in
    let r3 = text ++ (codes ",i=" ++ r5) in (
      random ++ (codes ",s=" ++ r3),
      is.spelled ∙ seven_apart (codes "r=") random (codes ",s=") text (codes ",i=") is.digits is.extensions,
      (
        random,
        random,
        codes ",s=" ++ r3,
        refl,
        (refl, is.random),
        (
          r3,
          refl,
          (
            text,
            text,
            codes ",i=" ++ r5,
            refl,
            (refl, (salt, is.salted, refl)),
            (r5, refl, (is.digits, is.digits, is.extensions, refl, (refl, is.counted.0), (is.extensions, is.extensions, [], sym (append-nil is.extensions), (refl, is.extended), (refl, refl)))),
          ),
        ),
      ),
    )

-- ---- the client's final message

abbrev proved : List ℕ → List ℕ → ClientFinalParts
proved random proof = record { nonce = random; proof = proof }

abbrev ProofTail : List ℕ → ClientFinalParts → List ℕ → Type 0
ProofTail random = Then Based (λ proof. IsEnd (proved random proof))

end_closed : {V : Type 0} (v w : V) (rest : List ℕ) → IsEnd v w rest → Closed rest
end_closed {V} v w rest is = rw is.1 tt

proof_reads : (random : List ℕ) → Reads (λ bytes. base64 bytes >>= λ p. ends_here p.1 >>= λ end. Ok (proved random p.0)) (ProofTail random)
proof_reads random =
    sequence base64 (λ proof bytes. ends_here bytes >>= λ end. Ok (proved random proof)) Based (λ proof. IsEnd (proved random proof)) Closed base64_part (λ proof. at_end (proved random proof))
    (λ proof v rest is. end_closed (proved random proof) v rest is) (λ proof. (proved random proof, [], (refl, refl)))

some_proof : (random : List ℕ) → (v : ClientFinalParts) × (rest : List ℕ) × ProofTail random v rest
some_proof random = (proved random [], [], ([], [], [], refl, (refl, no_bytes), (refl, refl)))

abbrev UpTo : List ℕ → List ℕ → Type 0
UpTo text part = (text ≡ part) × Goal Proof part

abbrev UpToProof : List ℕ → ClientFinalParts → List ℕ → Type 0
UpToProof random = Then UpTo (λ text. ProofTail random)

up_to_reads : (random : List ℕ) → Reads (λ bytes. up_to_proof bytes >>= λ x. base64 x.1 >>= λ p. ends_here p.1 >>= λ end. Ok (proved random p.0)) (UpToProof random)
up_to_reads random =
    sequence up_to_proof (λ text bytes. base64 bytes >>= λ p. ends_here p.1 >>= λ end. Ok (proved random p.0)) UpTo (λ text. ProofTail random) anything proof_part (λ text. proof_reads random)
    (λ text v rest is. tt) (λ text. some_proof random)

some_up_to : (random : List ℕ) → (v : ClientFinalParts) × (rest : List ℕ) × UpToProof random v rest
some_up_to random =
    let s = some_proof random in
    (s.0, codes ",p=" ++ s.1, (codes ",p=", codes ",p=", s.1, refl, (refl, ([], ([], tt, refl), refl)), s.2))

goal_closed : (part rest : List ℕ) → Goal Proof part → Closed (part ++ rest)
goal_closed part rest goal = subst (λ (x : List ℕ). Closed (x ++ rest)) (sym (goal.2 ∙ ap (λ (x : List ℕ). x ++ codes ",p=") goal.1.2)) (flat_closed goal.1.0)
  where
    flat_closed : (each : List (List ℕ)) → Closed ((flat_map (λ extension. 44 ∷ extension) each ++ codes ",p=") ++ rest)
    flat_closed [] = refl
    flat_closed (extension ∷ each) = refl

up_to_closed : (random : List ℕ) (v : ClientFinalParts) (rest : List ℕ) → UpToProof random v rest → Closed rest
up_to_closed random v rest w = subst Closed (sym w.3) (goal_closed w.1 w.2 w.4.1)

abbrev FinalRest : ClientFinalParts → List ℕ → Type 0
FinalRest = Then Nonce UpToProof

final_rest_reads : Reads (λ bytes. nonce bytes >>= λ n. up_to_proof n.1 >>= λ x. base64 x.1 >>= λ p. ends_here p.1 >>= λ end. Ok (proved n.0 p.0)) FinalRest
final_rest_reads =
    sequence nonce (λ random bytes. up_to_proof bytes >>= λ x. base64 x.1 >>= λ p. ends_here p.1 >>= λ end. Ok (proved random p.0)) Nonce UpToProof Closed (class_part Printable) up_to_reads up_to_closed some_up_to

some_final : (v : ClientFinalParts) × (rest : List ℕ) × FinalRest v rest
some_final = let s = some_up_to (97 ∷ []) in (s.0, 97 ∷ s.1, (97 ∷ [], 97 ∷ [], s.1, refl, (refl, refl), s.2))

abbrev pub Bound : BindingFlag → ClientFinalParts → List ℕ → Type 0
Bound flag = After (gs2_base64 flag) (After (codes ",r=") FinalRest)

some_random : (v : ClientFinalParts) × (rest : List ℕ) × After (codes ",r=") FinalRest v rest
some_random = let s = some_final in (s.0, codes ",r=" ++ s.1, (s.1, refl, s.2))

some_bound : (flag : BindingFlag) → (v : ClientFinalParts) × (rest : List ℕ) × Bound flag v rest
some_bound flag = let s = some_random in (s.0, gs2_base64 flag ++ s.1, (s.1, refl, s.2))

abbrev final_rest : List ℕ → Result ClientFinalParts (List ℕ)
final_rest bytes = nonce bytes >>= λ n. up_to_proof n.1 >>= λ x. base64 x.1 >>= λ p. ends_here p.1 >>= λ end. Ok (proved n.0 p.0)

pub client_final_reads : (flag : BindingFlag) → Reads (client_final_parts flag) (After (codes "c=") (Bound flag))
unfolding client_final_parts
client_final_reads flag =
    after_word (codes "c=") (λ bytes. literal (gs2_base64 flag) bytes >>= λ bound. literal (codes ",r=") bound >>= final_rest) (Bound flag)
    (after_word (gs2_base64 flag) (λ bytes. literal (codes ",r=") bytes >>= final_rest) (After (codes ",r=") FinalRest) (after_word (codes ",r=") final_rest FinalRest final_rest_reads some_final) some_random)
    (some_bound flag)

-- the base64 of a GS2 header
pub header_is : (flag : BindingFlag) → gs2_base64 flag ≡ encode_of standard (gs2_header flag)
unfolding encode_symbols
header_is Unsupported = refl
header_is NotOffered = refl

pub before_is : (front text bytes : List ℕ) → bytes ≡ front ++ codes ",p=" ++ text → before_proof bytes text ≡ front
before_is front text bytes e =
    let apart : bytes ≡ front ++ (codes ",p=" ++ text) = e ∙ append_assoc front (codes ",p=") text in
    let size : length front ≡ length bytes - length text - 3 = omega (arith, ap length apart, length-append front (codes ",p=" ++ text), length-append (codes ",p=") text) in
    ap (take (length bytes - length text - 3)) apart ∙ take_at front (codes ",p=" ++ text) (length bytes - length text - 3) size

front_of : (bytes a b c d e r1 r2 r3 r4 p g r5 r6 : List ℕ) → bytes ≡ a ++ r1 → r1 ≡ b ++ r2 → r2 ≡ c ++ r3 → r3 ≡ d ++ r4 → r4 ≡ p ++ r5 → p ≡ e ++ codes ",p=" → r5 ≡ g ++ r6 → r6 ≡ []
    → bytes ≡ (a ++ b ++ c ++ d ++ e) ++ codes ",p=" ++ g
front_of bytes a b c d e r1 r2 r3 r4 p g r5 r6 e1 e2 e3 e4 e5 e6 e7 e8 = rw (e1, e2, e3, e4, e5, e6, e7, e8) (simp (append_assoc, append-nil))

six_apart : (a b c d e p g : List ℕ) → (a ++ b ++ c ++ d ++ e) ++ p ++ g ≡ a ++ (b ++ (c ++ (d ++ ((e ++ p) ++ g))))
six_apart a b c d e p g = simp append_assoc

-- what the texts of a client's final message say
pub record IsFinal (flag : BindingFlag) (parts : ClientFinalParts) (bytes : List ℕ) : Type 0 where
  pub proof : List ℕ
  pub is_bytes : IsBytes proof
  pub based : parts.proof ≡ encode_of standard proof
  pub message : IsClientFinal flag (before_proof bytes parts.proof) parts.nonce proof bytes

pub final_to : (flag : BindingFlag) (parts : ClientFinalParts) (bytes : List ℕ) → After (codes "c=") (Bound flag) parts bytes → IsFinal flag parts bytes
final_to flag parts bytes w =
    let h = w.2 in
    let r = h.2 in
    let n = r.2 in
    let u = n.5 in
    let b = u.5 in
    let goal = u.4.1 in
    let base = b.4.1 in
    let is : parts ≡ proved n.0 b.0 = b.5.0 in
    let front : List ℕ = codes "c=" ++ gs2_base64 flag ++ codes ",r=" ++ n.1 ++ goal.0 in
    let spelled : bytes ≡ front ++ codes ",p=" ++ b.1 = front_of bytes (codes "c=") (gs2_base64 flag) (codes ",r=") n.1 goal.0 w.0 h.0 r.0 n.2 u.1 b.1 u.2 b.2 w.1 h.1 r.1 n.3 u.3 goal.2 b.3 b.5.1 in
    let cut : before_proof bytes b.1 ≡ front = before_is front b.1 bytes spelled in
    rw is (record {
      proof = base.0;
      is_bytes = base.1;
      based = b.4.0 ∙ base.2;
      message = rw b.4.0 (record {
        extensions = goal.0;
        random = rw n.4.0 n.4.1;
        extended = goal.1;
        front = cut ∙ front_as flag n.1 n.0 goal.0 (sym n.4.0);
        proved = base.1;
        spelled = spelled ∙ both front (before_proof bytes b.1) b.1 (encode_of standard base.0) (sym cut) base.2;
      });
    })
  where
    front_as : (flag : BindingFlag) (n m extensions : List ℕ) → n ≡ m
        → codes "c=" ++ gs2_base64 flag ++ codes ",r=" ++ n ++ extensions ≡ codes "c=" ++ encode_of standard (gs2_header flag) ++ codes ",r=" ++ m ++ extensions
    front_as flag n m extensions e =
        ap (λ (x : List ℕ). codes "c=" ++ gs2_base64 flag ++ codes ",r=" ++ x ++ extensions) e ∙ ap (λ (x : List ℕ). codes "c=" ++ x ++ codes ",r=" ++ m ++ extensions) (header_is flag)

    both : (a b c d : List ℕ) → a ≡ b → c ≡ d → a ++ codes ",p=" ++ c ≡ b ++ codes ",p=" ++ d
    both a b c d e f = ap (λ (x : List ℕ). x ++ codes ",p=" ++ c) e ∙ ap (λ (x : List ℕ). b ++ codes ",p=" ++ x) f

pub final_from : (flag : BindingFlag) (without_proof random proof bytes : List ℕ) → IsClientFinal flag without_proof random proof bytes
    → After (codes "c=") (Bound flag) (proved random (encode_of standard proof)) bytes
final_from flag without_proof random proof bytes is =
    let text = encode_of standard proof in
    let extensions = is.extensions in
    let r4 = (extensions ++ codes ",p=") ++ text in
    let front : without_proof ≡ codes "c=" ++ gs2_base64 flag ++ codes ",r=" ++ random ++ extensions =
    is.front ∙ ap (λ (x : List ℕ). codes "c=" ++ x ++ codes ",r=" ++ random ++ extensions) (sym (header_is flag)) in
    let whole : bytes ≡ (codes "c=" ++ gs2_base64 flag ++ codes ",r=" ++ random ++ extensions) ++ codes ",p=" ++ text =
    is.spelled ∙ ap (λ (x : List ℕ). x ++ codes ",p=" ++ text) front in (
      gs2_base64 flag ++ (codes ",r=" ++ (random ++ r4)),
      whole ∙ six_apart (codes "c=") (gs2_base64 flag) (codes ",r=") random extensions (codes ",p=") text,
      (
        codes ",r=" ++ (random ++ r4),
        refl,
        (
          random ++ r4,
          refl,
          (
            random,
            random,
            r4,
            refl,
            (refl, is.random),
            (
              extensions ++ codes ",p=",
              extensions ++ codes ",p=",
              text,
              refl,
              (refl, (extensions, is.extended, refl)),
              (text, text, [], sym (append-nil text), (refl, (proof, is.proved, refl)), (refl, refl)),
            ),
          ),
        ),
      ),
    )

-- ---- the server's final message

abbrev Verifier : Option (List ℕ) → List ℕ → Type 0
Verifier = Then Based (λ text. Tail (Some text))

abbrev verifier_rest : List ℕ → Result (Option (List ℕ)) (List ℕ)
verifier_rest bytes = base64 bytes >>= λ v. extensions v.1 >>= λ x. ends_here x.1 >>= λ end. Ok (Some v.0)

verifier_rest_reads : Reads verifier_rest Verifier
verifier_rest_reads =
    sequence base64 (λ text bytes. extensions bytes >>= λ x. ends_here x.1 >>= λ end. Ok (Some text)) Based (λ text. Tail (Some text)) Closed base64_part (λ text. tail_reads (Some text))
    (λ text v rest t. tail_closed (Some text) v rest t) (λ text. some_tail (Some text))

some_verifier : (v : Option (List ℕ)) × (rest : List ℕ) × Verifier v rest
some_verifier = let t = some_tail {V = Option (List ℕ)} (Some []) in (t.0, t.1, ([], [], t.1, refl, (refl, no_bytes), t.2))

verifier_reads : Reads verifier_part (After (codes "=") Verifier)
unfolding verifier_part
verifier_reads = after_word (codes "=") verifier_rest Verifier verifier_rest_reads some_verifier

abbrev Told : List ℕ → List ℕ → Type 0
Told text part = (text ≡ part) × Whole End part

abbrev Error : Option (List ℕ) → List ℕ → Type 0
Error = Then Told (λ text. IsEnd None)

abbrev error_rest : List ℕ → Result (Option (List ℕ)) (List ℕ)
error_rest bytes = value_and_extensions bytes >>= λ v. ends_here v.1 >>= λ end. Ok None

error_rest_reads : Reads error_rest Error
error_rest_reads =
    sequence value_and_extensions (λ text bytes. ends_here bytes >>= λ end. Ok None) Told (λ text. IsEnd None) (λ rest. rest ≡ []) values_part (λ text. at_end None) (λ text v rest is. is.1)
    (λ text. (None, [], (refl, refl)))

a_value : IsValue (97 ∷ [])
a_value = record { some = omega arith; utf8 = one_more 97 [] (omega arith) IsUtf8-nil; bytes = refl }

some_error : (v : Option (List ℕ)) × (rest : List ℕ) × Error v rest
some_error = (None, 97 ∷ [], (97 ∷ [], 97 ∷ [], [], refl, (refl, (97 ∷ [], [], refl, a_value, ([], tt, refl))), (refl, refl)))

error_reads : Reads error_part (After (codes "=") Error)
unfolding error_part
error_reads = after_word (codes "=") error_rest Error error_rest_reads some_error

some_told : (v : Option (List ℕ)) × (rest : List ℕ) × After (codes "=") Error v rest
some_told = let s = some_error in (s.0, codes "=" ++ s.1, (s.1, refl, s.2))

abbrev told : List ℕ → Result (Option (List ℕ)) (List ℕ)
told bytes = literal (101 ∷ []) bytes >>= error_part

abbrev ToldError : Option (List ℕ) → List ℕ → Type 0
ToldError = After (101 ∷ []) (After (codes "=") Error)

abbrev pub FinalSaid : Option (List ℕ) → List ℕ → Type 0
FinalSaid v bytes = ((more : List ℕ) × (bytes ≡ 118 ∷ more) × After (codes "=") Verifier v more) ⊎ ToldError v bytes

told_is : (b : ℕ) (bytes : List ℕ) → cond (b == 101) (error_part bytes) (Err (b ∷ bytes)) ≡ told (b ∷ bytes)
told_is b bytes =
    elim (cases_Bool (b == 101)) [
      | inl e ↦ rw e refl
      | inr e ↦ rw e refl
    ]

final_same : (bytes : List ℕ) → server_final_parts bytes ≡ chosen_by 118 verifier_part told bytes
final_same [] = refl
final_same (b ∷ bytes) = ap (λ (r : Result (Option (List ℕ)) (List ℕ)). cond (b == 118) (verifier_part bytes) r) (told_is b bytes)

told_lacks : (v : Option (List ℕ)) (bytes : List ℕ) → ToldError v bytes → Lacks 118 bytes
told_lacks v bytes w = rw w.1 refl

pub server_final_reads : Reads server_final_parts FinalSaid
server_final_reads =
    same_reads (chosen_by 118 verifier_part told) server_final_parts FinalSaid final_same
    (chosen_reads 118 verifier_part told (After (codes "=") Verifier) ToldError verifier_reads (after_word (101 ∷ []) error_part (After (codes "=") Error) error_reads some_told) told_lacks)

-- what the text of a verifier says
abbrev pub Says : Option (List ℕ) → Option (List ℕ) → Type 0
Says None None = Unit {0}
Says (Some text) (Some verifier) = IsBytes verifier × (text ≡ encode_of standard verifier)
Says None (Some verifier) = ⊥
Says (Some text) None = ⊥

three_parts : (bytes a b c d r1 r2 r3 r4 : List ℕ) → bytes ≡ a ++ r1 → r1 ≡ b ++ r2 → r2 ≡ c ++ r3 → r3 ≡ d ++ r4 → r4 ≡ [] → bytes ≡ a ++ b ++ c ++ d
three_parts bytes a b c d r1 r2 r3 r4 e1 e2 e3 e4 e5 = rw (e1, e2, e3, e4, e5) (simp (append_assoc, append-nil))

pub server_final_to : (v : Option (List ℕ)) (bytes : List ℕ) → FinalSaid v bytes → (verifier : Option (List ℕ)) × Says v verifier × IsServerFinal verifier bytes
server_final_to v bytes (inl w) =
    let b = w.2.2 in
    let t = b.5 in
    let base = b.4.1 in
    let is : v ≡ Some b.0 = t.5.0 in
    rw is (
      Some base.0,
      (base.1, b.4.0 ∙ base.2),
      record {
        extensions = t.1;
        verified = base.1;
        extended = t.4.1;
        spelled = rw (← base.2) (three_parts bytes (codes "v") (codes "=") b.1 t.1 w.0 w.2.0 b.2 t.2 w.1 w.2.1 b.3 t.3 t.5.1);
      },
    )
server_final_to v bytes (inr w) =
    let e = w.2.2 in
    let whole = e.4.1 in
    let is : v ≡ None = e.5.0 in
    rw is (
      None,
      tt,
      record {
        error = whole.0;
        extensions = whole.1;
        valued = whole.3;
        extended = whole.4;
        spelled = error_spelled bytes whole.0 whole.1 w.0 w.2.0 e.1 e.2 w.1 w.2.1 e.3 whole.2 e.5.1;
      },
    )
  where
    error_spelled : (bytes value more r1 r2 part r3 : List ℕ) → bytes ≡ (101 ∷ []) ++ r1 → r1 ≡ codes "=" ++ r2 → r2 ≡ part ++ r3 → part ≡ value ++ more → r3 ≡ []
        → bytes ≡ codes "e=" ++ value ++ more
    error_spelled bytes value more r1 r2 part r3 e1 e2 e3 e4 e5 = rw (e1, e2, e3, e4, e5) (simp (append_assoc, append-nil))

two_apart : (a b c : List ℕ) → a ++ b ++ c ≡ a ++ (b ++ c)
two_apart a b c = simp append_assoc

pub server_final_from : (verifier : Option (List ℕ)) (bytes : List ℕ) → IsServerFinal verifier bytes → FinalSaid (option_map (encode_of standard) verifier) bytes
server_final_from (Some verifier) bytes is =
    let text = encode_of standard verifier in
    inl (
      61 ∷ (text ++ is.extensions),
      is.spelled ∙ two_apart (codes "v=") text is.extensions,
      (
        text ++ is.extensions,
        refl,
        (text, text, is.extensions, refl, (refl, (verifier, is.verified, refl)), (is.extensions, is.extensions, [], sym (append-nil is.extensions), (refl, is.extended), (refl, refl))),
      ),
    )
server_final_from None bytes is =
    let text = is.error ++ is.extensions in
    inr (
      61 ∷ text,
      is.spelled ∙ two_apart (codes "e=") is.error is.extensions,
      (text, refl, (text, text, [], sym (append-nil text), (refl, (is.error, is.extensions, refl, is.valued, is.extended)), (refl, refl))),
    )
