-- That the two ends agree, from what it says of their messages that they are read back.
use Rattle.std.proofs.Common.{◌≡◌, ◌∙◌, ℕ, ◌<◌, ◌≤◌, Bool, true, false, cond, ◌&&◌, List, [], ◌∷◌, ◌++◌, length, Some, None, Ok, Err, refl, sym, ap, arith}
use Rattle.std.specs.Prelude.{nat_eq}
use Rattle.std.specs.List.{list_all, starts_with}
use Rattle.std.specs.Str.{bytes_eq}
use Rattle.std.proofs.Math.Seq.{take-append_seam}
use Rattle.std.proofs.lemmas.List.{length-append}
use Rattle.std.proofs.lemmas.List.Folds.{list_all-append}
use Rattle.std.proofs.lemmas.Bool.{and_parts, lt-ltb}
use Rattle.std.proofs.lemmas.Bool.Decides.{nat_tests}
use Rattle.base64.specs.GeneralPurpose.{IsBytes}
use Rattle.base_lemmas.proofs.Bytes.{bytes_eq-self}
use Rattle.auth_scram.specs.Agreement.{Given, GoesThrough, IsAllowed, server_given}
use Rattle.auth_scram.specs.Classes.{is_printable}
use Rattle.auth_scram.specs.Exchange.{ClientView, ReplyView, adds_to, begun_client, check_of, client_final_message, client_final_without_proof, client_first_bare, client_first_message, expecting, is_count_taken, is_expected, is_plain, is_proof, last_of, replied, reply_of, reply_to, sent, server_final_message, server_first_message, then_judge, verifier_for}
use Rattle.auth_scram.specs.Grammar.{is_nonce}
use Rattle.auth_primitives.specs.Hashes.{auth_message, client_key, client_signature, proof_of, salted_password, server_key, stored_key, verifier_of}
use Rattle.auth_scram.specs.Messages as reading
use Rattle.auth_scram.specs.Messages.{ClientFinalView, ServerFirstView}
use Rattle.auth_scram.specs.declared.fault.ScramFault.TheVariants.{BadName, BadNonce, BadProof, BadVerifier, Iterations}
use Rattle.auth_scram.specs.declared.binding_flag.BindingFlag.TheVariants.{Unsupported}
use Rattle.auth_scram.specs.declared.client_first.ClientFirst.{ClientFirst}
use Rattle.auth_scram.proofs.Digests.{IsBytes-hmac_of, IsBytes-xor_bytes, length-hmac_of, length-xor_bytes, xor_bytes-twice}

-- what the ends write is read as what they meant
pub record AreReadBack : Type 0 where
  pub first : (name nonce : List ℕ) → is_plain name ≡ true → is_nonce nonce ≡ true
      → reading.client_first_of (client_first_message name nonce)
      ≡ Ok (record { flag = Unsupported; name = name; nonce = nonce; bare = client_first_bare name nonce })
  pub server_first : (nonce salt : List ℕ) (i : ℕ) → is_nonce nonce ≡ true → IsBytes salt → 1 ≤ i → i ≤ 4294967295
      → reading.server_first_of (server_first_message nonce salt i) ≡ Ok (record { nonce = nonce; salt = salt; count = i })
  pub client_final : (nonce proof : List ℕ) → is_nonce nonce ≡ true → IsBytes proof → length proof ≡ 32
      → reading.client_final_of Unsupported (client_final_message nonce proof)
      ≡ Ok (record { without_proof = client_final_without_proof nonce; nonce = nonce; proof = Some proof })
  pub server_final : (verifier : List ℕ) → IsBytes verifier → length verifier ≡ 32
      → reading.server_final_of (server_final_message verifier) ≡ Ok (Some verifier)

-- ---- tests

starts_with-front : (xs ys : List ℕ) → starts_with nat_eq (xs ++ ys) xs ≡ true
starts_with-front xs ys = rw take-append_seam (bytes_eq-self xs)

adds_to-append : (own tail : List ℕ) → 0 < length tail → adds_to own (own ++ tail) ≡ true
adds_to-append own tail some = rw (starts_with-front own tail, lt-ltb (length own) (length (own ++ tail)) (omega (arith, length-append own tail))) refl

count_taken : (i : ℕ) → 4096 ≤ i → i ≤ 1000000 → is_count_taken i ≡ true
count_taken i least most = grind (arith, nat_tests)

one_pass : {A : Type 0} (x y : A) (b : Bool) → b ≡ true → cond b x y ≡ x
one_pass x y true e = refl
one_pass x y false e = absurd (cc)

both_pass : {A : Type 0} (x y z : A) (b d : Bool) → b ≡ true → d ≡ true → cond b (cond d x y) z ≡ x
both_pass x y z b d p q = one_pass (cond d x y) z b p ∙ one_pass x y d q

-- a nonce is one or more characters, each of which is printable
length-nonce : (nonce : List ℕ) → is_nonce nonce ≡ true → 0 < length nonce
length-nonce [] n = absurd (cc)
length-nonce (b ∷ nonce) n = omega arith

each_printable : (nonce : List ℕ) → is_nonce nonce ≡ true → list_all is_printable nonce ≡ true
each_printable [] n = refl
each_printable (b ∷ nonce) n = let parts = and_parts (is_printable b) (list_all is_printable nonce) n in rw (parts.0, parts.1) refl

-- a nonce and the part that is added to it are a nonce
pub is_nonce-append : (nonce tail : List ℕ) → is_nonce nonce ≡ true → is_nonce tail ≡ true → is_nonce (nonce ++ tail) ≡ true
is_nonce-append [] tail n t = absurd (cc)
is_nonce-append (b ∷ nonce) tail n t =
    let parts = and_parts (is_printable b) (list_all is_printable nonce) n in
    rw (parts.0, list_all-append is_printable nonce tail, parts.1, each_printable tail t) refl

-- ---- what the ends hold and send

abbrev salted : Given → List ℕ
salted given = salted_password given.password given.salt given.iterations

abbrev whole_nonce : Given → List ℕ
whole_nonce given = given.nonce ++ given.tail

abbrev client : Given → ClientView
client given = record {
  password = given.password;
  nonce = given.nonce;
  message = client_first_message given.name given.nonce;
  expected = None;
}

abbrev first : Given → ClientFirst
first given = record {
  flag = Unsupported;
  name = given.name;
  nonce = given.nonce;
  bare = client_first_bare given.name given.nonce;
}

abbrev challenge : Given → List ℕ
challenge given = server_first_message (whole_nonce given) given.salt given.iterations

abbrev without_proof : Given → List ℕ
without_proof given = client_final_without_proof (whole_nonce given)

abbrev auth : Given → List ℕ
auth given = auth_message (client_first_bare given.name given.nonce) (challenge given) (without_proof given)

abbrev stored : Given → List ℕ
stored given = stored_key (client_key (salted given))

abbrev signature : Given → List ℕ
signature given = client_signature (stored given) (auth given)

abbrev proof : Given → List ℕ
proof given = proof_of (client_key (salted given)) (signature given)

abbrev verifier : Given → List ℕ
verifier given = verifier_of (server_key (salted given)) (auth given)

abbrev reply : Given → ReplyView
reply given = replied (without_proof given) (salted given) (auth given)

-- ---- the steps

begins : (given : Given) → IsAllowed given → begun_client given.name given.password given.nonce ≡ Ok (client given)
begins given allowed =
    one_pass (Ok (client given)) (Err BadName) (is_plain given.name && is_plain given.password) (rw (allowed.name, allowed.password) refl)

replies : AreReadBack → (given : Given) → IsAllowed given → reply_of (client given) (challenge given) ≡ Ok (reply given)
replies back given allowed =
    let read = back.server_first (whole_nonce given) given.salt given.iterations
    (is_nonce-append given.nonce given.tail allowed.nonce allowed.tail) allowed.salt
    (omega (arith, allowed.least)) (omega (arith, allowed.most)) in
    ap (then_judge (λ (m : ServerFirstView). reply_to (client given) (challenge given) m.nonce m.salt m.count)) read
    ∙ both_pass (Ok (reply given)) (Err (Iterations given.iterations)) (Err BadNonce)
    (adds_to given.nonce (whole_nonce given)) (is_count_taken given.iterations)
    (adds_to-append given.nonce given.tail (length-nonce given.tail allowed.tail)) (count_taken given.iterations allowed.least allowed.most)

length-proof : (given : Given) → length (proof given) ≡ 32
length-proof given =
    length-xor_bytes (client_key (salted given)) (signature given) 32 (length-hmac_of _ _) (length-hmac_of _ _)

proves : (given : Given) → is_proof (stored given) (auth given) (Some (proof given)) ≡ true
proves given =
    let key = xor_bytes-twice (client_key (salted given)) (signature given) (length-hmac_of _ _ ∙ sym (length-hmac_of _ _)) in
    ap (λ k. bytes_eq (stored_key k) (stored given)) key ∙ bytes_eq-self (stored given)

accepts : AreReadBack → (given : Given) → IsAllowed given
    → last_of (server_given given (first given)) (reply given).message ≡ Ok (server_final_message (verifier given))
accepts back given allowed =
    let read = back.client_final (whole_nonce given) (proof given)
    (is_nonce-append given.nonce given.tail allowed.nonce allowed.tail)
    (IsBytes-xor_bytes (client_key (salted given)) (signature given) (IsBytes-hmac_of _ _) (IsBytes-hmac_of _ _))
    (length-proof given) in
    let server = server_given given (first given) in
    ap (λ r. sent server_final_message (then_judge (λ (m : ClientFinalView). verifier_for server m.without_proof m.nonce m.proof) r)) read
    ∙ ap (sent server_final_message)
    (both_pass (Ok (verifier given)) (Err BadProof) (Err BadNonce)
    (bytes_eq (whole_nonce given) (whole_nonce given)) (is_proof (stored given) (auth given) (Some (proof given)))
    (bytes_eq-self (whole_nonce given)) (proves given))

checks : AreReadBack → (given : Given)
    → check_of (expecting (client given) (Ok (reply given))) (server_final_message (verifier given)) ≡ Ok tt
checks back given =
    let read = back.server_final (verifier given) (IsBytes-hmac_of _ _) (length-hmac_of _ _) in
    ap (then_judge (is_expected (expecting (client given) (Ok (reply given))))) read
    ∙ one_pass (Ok tt) (Err BadVerifier) (bytes_eq (verifier given) (verifier given)) (bytes_eq-self (verifier given))

pub goes_through : AreReadBack → (given : Given) → IsAllowed given → GoesThrough given
goes_through back given allowed = record {
  client = client given;
  begins = begins given allowed;
  first = first given;
  is_read = back.first given.name given.nonce allowed.name allowed.nonce;
  name = refl;
  nonce = refl;
  reply = reply given;
  replies = replies back given allowed;
  accepts = accepts back given allowed;
  checks = checks back given;
}
