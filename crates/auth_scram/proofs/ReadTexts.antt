-- What the parts of a message that was read are: base64 texts, and texts in UTF-8.
use Rattle.std.proofs.Common.{◌≡◌, ℕ, ◌<◌, ◌&&◌, not, ◌==◌, Bool, true, false, List, [], ◌∷◌, ◌++◌, codes, Option, Some, None, Ok, refl, sym, arith, append_assoc, subst, ◌||◌, inl, inr, ◌⊎◌}
use Rattle.std.proofs.lemmas.Bool.{and_parts}
use Rattle.std.proofs.lemmas.Str.{IsUtf8-append, IsUtf8-nil}
use Rattle.std.specs.List.{AllByRecursion, flat_map, list_all}
use Rattle.std.specs.Str.{IsUtf8}
use Rattle.auth_scram.specs.Classes.{is_letter, is_printable, is_within}
use Rattle.auth_scram.specs.Grammar.{AreExtensions, IsExtension, are_some, names_extension}
use Rattle.auth_scram.specs.Messages.{ClientFinalParts, FirstParts, ServerFirstParts, client_final_parts, first_parts, server_final_parts, server_first_parts}
use Rattle.auth_primitives.specs.Canonical.{IsBase64}
use Rattle.auth_scram.specs.Values.{name_of}
use Rattle.auth_scram.specs.declared.binding_flag.BindingFlag.{BindingFlag}
use Rattle.auth_scram.specs.declared.values.Until.{Until}
use Rattle.auth_scram.specs.declared.values.Until.TheVariants.{End, Proof}
use Rattle.auth_scram.proofs.Characters.{one_more}
use Rattle.auth_scram.proofs.Headers.{first_reads, first_to}
use Rattle.auth_scram.proofs.NameRuns.{name_is, name_text}
use Rattle.auth_scram.proofs.OtherMessages.{Says, client_final_reads, final_to, server_final_reads, server_final_to, server_first_reads, server_to}
use Rattle.auth_scram.proofs.PassedTests.{within}

printable_low : (b : ℕ) → is_printable b ≡ true → b < 128
printable_low b h = elim (either (is_within 0x21 0x2B b) (is_within 0x2D 0x7E b) h) [
  | inl e ↦ (let w = within 0x21 0x2B b e in omega arith)
  | inr e ↦ (let w = within 0x2D 0x7E b e in omega arith)
]
  where
    either : (a b : Bool) → (a || b) ≡ true → (a ≡ true) ⊎ (b ≡ true)
    either true b h = inl refl
    either false b h = inr h

letter_low : (b : ℕ) → is_letter b ≡ true → b < 128
letter_low b h = elim (either (is_within 65 90 b) (is_within 97 122 b) h) [
  | inl e ↦ (let w = within 65 90 b e in omega arith)
  | inr e ↦ (let w = within 97 122 b e in omega arith)
]
  where
    either : (a b : Bool) → (a || b) ≡ true → (a ≡ true) ⊎ (b ≡ true)
    either true b h = inl refl
    either false b h = inr h

printable_text : (bytes : List ℕ) → list_all is_printable bytes ≡ true → IsUtf8 bytes
printable_text [] h = IsUtf8-nil
printable_text (b ∷ bytes) h =
    let parts = and_parts (is_printable b) (list_all is_printable bytes) h in
    one_more b bytes (printable_low b parts.0) (printable_text bytes parts.1)

pub nonce_text : (bytes : List ℕ) → are_some is_printable bytes ≡ true → IsUtf8 bytes
nonce_text [] h = IsUtf8-nil
nonce_text (b ∷ bytes) h = printable_text (b ∷ bytes) h

named_low : (until : Until) (b : ℕ) → names_extension until b ≡ true → b < 128
named_low End b h = letter_low b (and_parts (is_letter b) (not (b == 109)) h).0
named_low Proof b h = letter_low b (and_parts (is_letter b) (not (b == 109)) (and_parts (is_letter b && not (b == 109)) (not (b == 112)) h).0).0

each_text : (until : Until) (each : List (List ℕ)) → AllByRecursion (IsExtension until) each → IsUtf8 (flat_map (λ extension. 44 ∷ extension) each)
each_text until [] all = IsUtf8-nil
each_text until (extension ∷ each) all =
    let is = all.0 in
    let own : IsUtf8 extension = subst IsUtf8 (sym is.spelled) (one_more is.letter (61 ∷ is.value) (named_low until is.letter is.named) (one_more 61 is.value (omega arith) is.valued.utf8)) in
    one_more 44 (extension ++ flat_map (λ (extension : List ℕ). 44 ∷ extension) each) (omega arith) (IsUtf8-append extension (flat_map (λ (extension : List ℕ). 44 ∷ extension) each) own (each_text until each all.1))

extensions_text : (until : Until) (text : List ℕ) → AreExtensions until text → IsUtf8 text
extensions_text until text are = subst IsUtf8 (sym are.2) (each_text until are.0 are.1)

plain_text : (a b c : List ℕ) → IsUtf8 a → IsUtf8 b → IsUtf8 c → IsUtf8 (codes "n=" ++ a ++ codes ",r=" ++ b ++ c)
plain_text a b c ta tb tc =
    let random : IsUtf8 (codes ",r=" ++ (b ++ c)) = one_more 44 (114 ∷ 61 ∷ b ++ c) (omega arith) (one_more 114 (61 ∷ b ++ c) (omega arith) (one_more 61 (b ++ c) (omega arith) (IsUtf8-append b c tb tc))) in
    let named : IsUtf8 (a ++ (codes ",r=" ++ (b ++ c))) = IsUtf8-append a (codes ",r=" ++ (b ++ c)) ta random in
    let whole : IsUtf8 (codes "n=" ++ (a ++ (codes ",r=" ++ (b ++ c)))) = one_more 110 (61 ∷ a ++ (codes ",r=" ++ (b ++ c))) (omega arith) (one_more 61 (a ++ (codes ",r=" ++ (b ++ c))) (omega arith) named) in
    subst IsUtf8 (sym (apart (codes "n=") a (codes ",r=") b c)) whole
  where
    apart : (p a q b c : List ℕ) → p ++ a ++ q ++ b ++ c ≡ p ++ (a ++ (q ++ (b ++ c)))
    apart p a q b c = simp append_assoc

-- ---- by message

module _ (bytes : List ℕ) (parts : FirstParts) (read : first_parts bytes ≡ Ok parts) where
  pub first_name_text : IsUtf8 (name_of parts.name)
  first_name_text =
      let is = first_to parts bytes (first_reads.found bytes parts read) in
      subst IsUtf8 (sym (name_is is.name parts.name is.named)) is.named.utf8

  pub first_nonce_text : IsUtf8 parts.nonce
  first_nonce_text = let is = first_to parts bytes (first_reads.found bytes parts read) in nonce_text parts.nonce is.message.said.random

  pub first_bare_text : IsUtf8 parts.bare
  first_bare_text =
      let said = (first_to parts bytes (first_reads.found bytes parts read)).message.said in
      subst IsUtf8 (sym said.spelled)
      (plain_text said.name_text parts.nonce said.extensions (name_text _ said.name_text said.named) (nonce_text parts.nonce said.random) (extensions_text End said.extensions said.extended))

module _ (bytes : List ℕ) (parts : ServerFirstParts) (read : server_first_parts bytes ≡ Ok parts) where
  pub server_nonce_text : IsUtf8 parts.nonce
  server_nonce_text = let is = server_to parts bytes (server_first_reads.found bytes parts read) in nonce_text parts.nonce is.message.random

  pub server_salt_based : IsBase64 parts.salt
  server_salt_based = let is = server_to parts bytes (server_first_reads.found bytes parts read) in (is.salt, is.salted, is.based)

pub final_proof_based : (flag : BindingFlag) (bytes : List ℕ) (parts : ClientFinalParts) → client_final_parts flag bytes ≡ Ok parts → IsBase64 parts.proof
final_proof_based flag bytes parts read = let is = final_to flag parts bytes ((client_final_reads flag).found bytes parts read) in (is.proof, is.is_bytes, is.based)

based_of : (text : List ℕ) (verifier : Option (List ℕ)) → Says (Some text) verifier → IsBase64 text
based_of text None says = absurd says
based_of text (Some verifier) says = (verifier, says.0, says.1)

pub verifier_based : (bytes text : List ℕ) → server_final_parts bytes ≡ Ok (Some text) → IsBase64 text
verifier_based bytes text read = let is = server_final_to (Some text) bytes (server_final_reads.found bytes (Some text) read) in based_of text is.0 is.1
