-- The answers of the two ends come exactly where they should.
use Rattle.std.proofs.Common.{◌≡◌, ◌∙◌, ◌≢◌, ℕ, ◌≤◌, Bool, true, false, cond, List, length, drop, Option, Some, None, Result, Ok, Err, refl, sym, ap, arith, Decides}
use Rattle.std.specs.Prelude.{◌↔◌, if◌then◌else◌, nat_eq, nat_le, nat_lt, MatchResult}
use Rattle.std.specs.List.{starts_with}
use Rattle.std.specs.Str.{bytes_eq}
use Rattle.std.proofs.lemmas.Bool.{and_parts, lt-ltb, ltb-true}
use Rattle.std.proofs.lemmas.Bool.Decides.{Decides-and, Decides-eqb, nat_tests}
use Rattle.std.proofs.lemmas.List.{length-append}
use Rattle.std.proofs.lemmas.Slice.Eq.{bytes_eq-Decides, starts_is}
use Rattle.auth_scram.specs.Exchange.{ClientView, ServerView, adds_to, client_auth, client_final_without_proof, is_count_taken, is_proof, is_verifier, replied, reply_to, sent, server_auth, server_final_message, then_judge, verifier_for}
use Rattle.auth_primitives.specs.Hashes.{client_signature, salted_password, stored_key, verifier_of, xor_bytes}
use Rattle.auth_scram.specs.Judgements.{Continues, IsCheck, IsCountTaken, IsLastAnswer, IsReply, IsRightProof, JudgementsAreExact}
use Rattle.auth_scram.specs.Messages as reading
use Rattle.auth_scram.specs.Messages.{ClientFinalView, ServerFirstView}
use Rattle.auth_scram.specs.declared.fault.ScramFault.{ScramFault}
use Rattle.auth_scram.specs.declared.fault.ScramFault.TheVariants.{BadNonce, BadProof, BadVerifier, Iterations}

-- an answer by two tests, of which the first is judged first
pub record ByTests {A : Type 0} (value : A) (first second : ScramFault) (P Q : Type 0) (answer : Result A ScramFault) : Type 0 where
  pub accepted : (x : A) → (answer ≡ Ok x) ↔ (P × Q × (x ≡ value))
  pub refused_first : (answer ≡ Err first) ↔ (¬ P)
  pub refused_second : (answer ≡ Err second) ↔ (P × (¬ Q))

pub by_tests : {A P Q : Type 0} (value : A) (first second : ScramFault) (b d : Bool) → first ≢ second
    → Decides b P → Decides d Q
    → ByTests value first second P Q (cond b (cond d (Ok value) (Err second)) (Err first))
by_tests value first second true true apart p q = record {
  accepted = λ x. (λ e. (p.0 refl, q.0 refl, cc), λ h. ap (λ y. Ok y) (sym h.2));
  refused_first = (λ e. absurd (cc), λ n. absurd (n (p.0 refl)));
  refused_second = (λ e. absurd (cc), λ h. absurd (h.1 (q.0 refl)));
}
by_tests value first second true false apart p q = record {
  accepted = λ x. (λ e. absurd (cc), λ h. let e = q.1 h.1 in absurd (cc));
  refused_first = (λ e. absurd (apart (cc)), λ n. absurd (n (p.0 refl)));
  refused_second = (λ e. (p.0 refl, λ h. let e' = q.1 h in absurd (cc)), λ h. refl);
}
by_tests value first second false d apart p q = record {
  accepted = λ x. (λ e. absurd (cc), λ h. let e = p.1 h.0 in absurd (cc));
  refused_first = (λ e h. let e' = p.1 h in absurd (cc), λ n. refl);
  refused_second = (λ e. absurd (apart (cc)), λ h. let e = p.1 h.0 in absurd (cc));
}

-- ---- the server's final answer

sent-by_tests : (f : List ℕ → List ℕ) (value : List ℕ) (first second : ScramFault) (b d : Bool)
    → sent f (cond b (cond d (Ok value) (Err second)) (Err first)) ≡ cond b (cond d (Ok (f value)) (Err second)) (Err first)
sent-by_tests f value first second true true = refl
sent-by_tests f value first second true false = refl
sent-by_tests f value first second false d = refl

is_proof-Decides : (stored auth : List ℕ) (proof : Option (List ℕ)) → Decides (is_proof stored auth proof) (IsRightProof stored auth proof)
is_proof-Decides stored auth None = (λ e. absurd (cc), λ right. let e = right.is in absurd (cc))
is_proof-Decides stored auth (Some proof) =
    let key : List ℕ → List ℕ = λ p. stored_key (xor_bytes p (client_signature stored auth)) in
    let same = bytes_eq-Decides (key proof) stored in (
      λ e. record { bytes = proof; is = refl; key = same.0 e },
      λ right.
          let is = right.is in
          let e : proof ≡ right.bytes = cc in
          same.1 (ap key e ∙ right.key),
    )

last_answer : (server : ServerView) (final : ClientFinalView)
    → IsLastAnswer server final (sent server_final_message (verifier_for server final.without_proof final.nonce final.proof))
last_answer server final =
    let auth = server_auth server final.without_proof in
    let value = verifier_of server.server_key auth in
    let b = bytes_eq final.nonce server.nonce in
    let d = is_proof server.stored_key auth final.proof in
    let tests = by_tests {P = final.nonce ≡ server.nonce} {Q = IsRightProof server.stored_key auth final.proof}
    (server_final_message value) BadNonce BadProof b d (λ e. absurd (cc)) (bytes_eq-Decides final.nonce server.nonce) (is_proof-Decides server.stored_key auth final.proof) in
    rw (sent-by_tests server_final_message value BadNonce BadProof b d)
    (record { accepted = tests.accepted; bad_nonce = tests.refused_first; bad_proof = tests.refused_second })

last_exact : (server : ServerView) (read : Result ClientFinalView ScramFault)
    → MatchResult read
    (λ final. IsLastAnswer server final (sent server_final_message (then_judge (λ m. verifier_for server m.without_proof m.nonce m.proof) read)))
    (λ fault. sent server_final_message (then_judge (λ m. verifier_for server m.without_proof m.nonce m.proof) read) ≡ Err fault)
last_exact server (Ok final) = last_answer server final
last_exact server (Err fault) = refl

-- ---- the client's reply

adds_to-Decides : (client : ClientView) (nonce : List ℕ) → Decides (adds_to client.nonce nonce) (Continues client nonce)
adds_to-Decides client nonce =
    let own = client.nonce in
    let begins = starts_is Decides-eqb nonce own (starts_with nat_eq nonce own) refl in (
      λ e.
          let parts = and_parts (starts_with nat_eq nonce own) (nat_lt (length own) (length nonce)) e in
          let is = begins.0 parts.0 in
          let tail = drop (length own) nonce in
          let longer = ltb-true (length own) (length nonce) parts.1 in
          record { tail = tail; some = omega (arith, longer, ap length is ∙ length-append own tail); is = is },
      λ goes_on.
          let size = ap length goes_on.is ∙ length-append own goes_on.tail in
          rw (begins.1 goes_on.tail goes_on.is, lt-ltb (length own) (length nonce) (omega (arith, size, goes_on.some))) refl,
    )

Decides-leb : (m n : ℕ) → Decides (nat_le m n) (m ≤ n)
Decides-leb m n = grind (arith, nat_tests)

is_count_taken-Decides : (i : ℕ) → Decides (is_count_taken i) (IsCountTaken i)
is_count_taken-Decides i =
    Decides-and (nat_le 4096 i) (nat_le i 1000000) (Decides-leb 4096 i) (Decides-leb i 1000000)

count_told : {A P Q : Type 0} (value : A) (i count : ℕ) (b d : Bool) → Decides b P → Decides d Q
    → (cond b (cond d (Ok value) (Err (Iterations i))) (Err BadNonce) ≡ Err (Iterations count)) ↔ (P × (¬ Q) × (count ≡ i))
count_told value i count true true p q = (λ e. absurd (cc), λ h. absurd (h.1 (q.0 refl)))
count_told value i count true false p q =
    ((λ e. (p.0 refl, λ h. let e' = q.1 h in absurd (cc), cc)), λ h. ap (λ n. Err (Iterations n)) (sym h.2))
count_told value i count false d p q = (λ e. absurd (cc), λ h. let e = p.1 h.0 in absurd (cc))

is_reply : (client : ClientView) (bytes : List ℕ) (first : ServerFirstView)
    → IsReply client bytes first (reply_to client bytes first.nonce first.salt first.count)
is_reply client bytes first =
    let value = replied (client_final_without_proof first.nonce) (salted_password client.password first.salt first.count) (client_auth client bytes first.nonce) in
    let b = adds_to client.nonce first.nonce in
    let d = is_count_taken first.count in
    let p = adds_to-Decides client first.nonce in
    let q = is_count_taken-Decides first.count in
    let tests = by_tests {P = Continues client first.nonce} {Q = IsCountTaken first.count}
    value BadNonce (Iterations first.count) b d (λ e. absurd (cc)) p q in
    record {
      accepted = tests.accepted;
      bad_nonce = tests.refused_first;
      iterations = λ count. count_told {P = Continues client first.nonce} {Q = IsCountTaken first.count} value first.count count b d p q;
    }

reply_exact : (client : ClientView) (bytes : List ℕ) (read : Result ServerFirstView ScramFault)
    → MatchResult read
    (λ first. IsReply client bytes first (then_judge (λ m. reply_to client bytes m.nonce m.salt m.count) read))
    (λ fault. then_judge (λ m. reply_to client bytes m.nonce m.salt m.count) read ≡ Err fault)
reply_exact client bytes (Ok first) = is_reply client bytes first
reply_exact client bytes (Err fault) = refl

-- ---- the client's check

is_verifier-Decides : (expected : List ℕ) (verifier : Option (List ℕ)) → Decides (is_verifier (Some expected) verifier) (verifier ≡ Some expected)
is_verifier-Decides expected None = (λ e. absurd (cc), λ e. absurd (cc))
is_verifier-Decides expected (Some verifier) =
    let same = bytes_eq-Decides verifier expected in
    (λ e. ap (λ v. Some v) (same.0 e), λ e. same.1 (cc))

is_check : (expected : List ℕ) (verifier : Option (List ℕ)) (b : Bool) → Decides b (verifier ≡ Some expected)
    → IsCheck expected verifier (cond b (Ok tt) (Err BadVerifier))
is_check expected verifier true p = record {
  accepted = (λ e. p.0 refl, λ e. refl);
  bad_verifier = (λ e. absurd (cc), λ n. absurd (n (p.0 refl)));
}
is_check expected verifier false p = record {
  accepted = (λ e. absurd (cc), λ e. let e' = p.1 e in absurd (cc));
  bad_verifier = (λ e h. let e' = p.1 h in absurd (cc), λ n. refl);
}

abbrev judged_by : Option (List ℕ) → Option (List ℕ) → Result (Unit {0}) ScramFault
judged_by expected verifier = if is_verifier expected verifier then Ok tt else Err BadVerifier

check_exact : (expected : List ℕ) (at : Option (List ℕ)) → at ≡ Some expected → (read : Result (Option (List ℕ)) ScramFault)
    → MatchResult read
    (λ verifier. IsCheck expected verifier (then_judge (judged_by at) read))
    (λ fault. then_judge (judged_by at) read ≡ Err fault)
check_exact expected at is (Ok verifier) =
    rw is (is_check expected verifier (is_verifier (Some expected) verifier) (is_verifier-Decides expected verifier))
check_exact expected at is (Err fault) = refl

pub all_exact : JudgementsAreExact
all_exact = record {
  last = λ server bytes. last_exact server (reading.client_final_of server.flag bytes);
  reply = λ client bytes. reply_exact client bytes (reading.server_first_of bytes);
  check = λ client expected bytes is. check_exact expected client.expected is (reading.server_final_of bytes);
}
