-- A client logs in only where the verifier is right, and wherever its password is the right one.
use Rattle.std.proofs.Common.{◌≡◌, ◌≢◌, ℕ, true, List, Option, Some, Result, Ok, Err, codes, refl, sym, ap, ◌∙◌}
use Rattle.std.specs.Prelude.{MatchResult}
use Rattle.cl_login.specs.LoginRows.{begun, challenged, checked, features1_row, offered, replied, responding_row, sends, succeeded}
use Rattle.cl_login.specs.Logins.{HasVerifier, PasswordsLogIn, VerifiersLogIn}
use Rattle.cl_login.specs.Puts.{Row}
use Rattle.xml_writer.specs.Items.{Whole}
use Rattle.cl_login.specs.declared.account.ClientAccount.{ClientAccount}
use Rattle.cl_login.specs.declared.answers.Next.TheVariants as next
use Rattle.cl_login.specs.declared.login_fault.LoginFault.TheVariants as fault
use Rattle.cl_login.specs.declared.login_state.LoginState.TheVariants as state
use Rattle.im_login.specs.Features.{features_read}
use Rattle.im_login.specs.declared.features.Features.{Features}
use Rattle.im_payload.specs.declared.fault.ExtFault.{ExtFault}
use Rattle.im_login.specs.Readings.{carrier_read}
use Rattle.im_login.specs.Sasl.{auth_of}
use Rattle.auth_scram.specs.Agreement.{EndsAgree}
use Rattle.auth_scram.specs.Exchange.{ClientView, begun_client, check_of, expecting, server_final_message}
use Rattle.auth_scram.specs.Judgements.{IsCheck, JudgementsAreExact}
use Rattle.auth_scram.specs.Messages.{server_final_of}
use Rattle.auth_scram.specs.declared.fault.ScramFault.{ScramFault}
use Rattle.auth_scram.specs.declared.fault.ScramFault.TheVariants.{BadVerifier}
use Rattle.xml_trees.specs.Trees.{Elem}

-- ---- the verifier

record Accepted (exchange : ClientView) (read : Result (List ℕ) ExtFault) : Type 0 where
  payload : List ℕ
  carried : read ≡ Ok payload
  accepts : check_of exchange payload ≡ Ok tt

accepted_by : (domain : List ℕ) (judged : Result (Unit {0}) ScramFault) → (checked domain judged).next ≡ next.Goes state.Header2 → judged ≡ Ok tt
accepted_by domain (Ok x) goes = refl
accepted_by domain (Err why) goes = absurd (cc goes)

accepted : (domain : List ℕ) (exchange : ClientView) (e : Elem) (read : Result (List ℕ) ExtFault)
    → (succeeded domain exchange e read).next ≡ next.Goes state.Header2 → Accepted exchange read
accepted domain exchange e (Ok payload) goes =
    record { payload = payload; carried = refl; accepts = accepted_by domain (check_of exchange payload) goes }
accepted domain exchange e (Err why) goes = absurd (cc goes)

verifier_by : (exchange : ClientView) (expected payload : List ℕ) (read : Result (Option (List ℕ)) ScramFault)
    → MatchResult read (λ verifier. IsCheck expected verifier (check_of exchange payload)) (λ why. check_of exchange payload ≡ Err why)
    → check_of exchange payload ≡ Ok tt → read ≡ Ok (Some expected)
verifier_by exchange expected payload (Ok verifier) exact accepts = ap (λ (v : Option (List ℕ)). Ok v) (exact.accepted.0 accepts)
verifier_by exchange expected payload (Err why) exact accepts = absurd (let both = sym exact ∙ accepts in cc both)

exact_of : (exchange : ClientView) (expected payload : List ℕ) (read : Result (Option (List ℕ)) ScramFault) (verifier : Option (List ℕ)) → read ≡ Ok verifier
    → MatchResult read (λ v. IsCheck expected v (check_of exchange payload)) (λ why. check_of exchange payload ≡ Err why)
    → IsCheck expected verifier (check_of exchange payload)
exact_of exchange expected payload read verifier is exact = rw is at exact

-- the row of a success whose payload was read and judged
row_is : (domain : List ℕ) (exchange : ClientView) (e : Elem) (payload : List ℕ) (judged : Result (Unit {0}) ScramFault)
    → carrier_read (codes "success") e ≡ Ok payload → check_of exchange payload ≡ judged → responding_row domain exchange e ≡ checked domain judged
row_is domain exchange e payload judged carried is = ap (succeeded domain exchange e) carried ∙ ap (checked domain) is

is_right : JudgementsAreExact → (domain : List ℕ) (exchange : ClientView) (expected : List ℕ) (e : Elem) → exchange.expected ≡ Some expected
    → (responding_row domain exchange e).next ≡ next.Goes state.Header2 → HasVerifier e (Some expected)
is_right exact domain exchange expected e expects goes =
    let by = accepted domain exchange e (carrier_read (codes "success") e) goes in
    record {
      payload = by.payload;
      carried = by.carried;
      is_read = verifier_by exchange expected by.payload (server_final_of by.payload) (exact.check exchange expected by.payload expects) by.accepts;
    }

check_exact : JudgementsAreExact → (exchange : ClientView) (expected : List ℕ) (e : Elem) (verifier : Option (List ℕ)) (has : HasVerifier e verifier) → exchange.expected ≡ Some expected
    → IsCheck expected verifier (check_of exchange has.payload)
check_exact exact exchange expected e verifier has expects =
    exact_of exchange expected has.payload (server_final_of has.payload) verifier has.is_read (exact.check exchange expected has.payload expects)

goes_by : JudgementsAreExact → (domain : List ℕ) (exchange : ClientView) (expected : List ℕ) (e : Elem) → exchange.expected ≡ Some expected
    → HasVerifier e (Some expected) → (responding_row domain exchange e).next ≡ next.Goes state.Header2
goes_by judgements domain exchange expected e expects has =
    let exact = check_exact judgements exchange expected e (Some expected) has expects in
    ap (λ (row : Row). row.next) (row_is domain exchange e has.payload (Ok tt) has.carried (exact.accepted.1 refl))

ends_by : JudgementsAreExact → (domain : List ℕ) (exchange : ClientView) (expected : List ℕ) (e : Elem) → exchange.expected ≡ Some expected
    → (verifier : Option (List ℕ)) → HasVerifier e verifier → verifier ≢ Some expected → (responding_row domain exchange e).next ≡ next.Ends fault.BadVerifier
ends_by judgements domain exchange expected e expects verifier has other =
    let exact = check_exact judgements exchange expected e verifier has expects in
    ap (λ (row : Row). row.next) (row_is domain exchange e has.payload (Err BadVerifier) has.carried (exact.bad_verifier.1 other))

pub verifiers_log_in : JudgementsAreExact → VerifiersLogIn
verifiers_log_in exact domain exchange expected e expects = record {
  goes_on = (is_right exact domain exchange expected e expects, goes_by exact domain exchange expected e expects);
  bad_verifier = ends_by exact domain exchange expected e expects;
}

-- ---- the password

offered_by : (account : ClientAccount) (nonce : List ℕ) (e : Elem) (features : Features) (exchange : ClientView)
    → features_read e ≡ Ok features → features.scram_sha_256 ≡ true → begun_client account.name account.password nonce ≡ Ok exchange
    → features1_row account nonce e ≡ sends (Whole (auth_of (codes "SCRAM-SHA-256") exchange.message)) (state.Authing exchange)
offered_by account nonce e features exchange is_read offers begins =
    ap (offered account nonce e) is_read ∙ (rw (offers) (ap begun begins))

pub passwords_log_in : EndsAgree → PasswordsLogIn
passwords_log_in agree account given allowed same_name same_password =
    let through = agree given allowed in
    let begins : begun_client account.name account.password given.nonce ≡ Ok through.client = rw (same_name, same_password) through.begins in
    record {
      client = through.client;
      begins = λ e features is_read offers. offered_by account given.nonce e features through.client is_read offers begins;
      first = through.first;
      is_read = through.is_read;
      name = through.name ∙ sym same_name;
      reply = through.reply;
      replies = λ e carried. ap (challenged through.client e) carried ∙ ap (replied through.client) through.replies;
      accepts = through.accepts;
      succeeds = λ e carried.
          row_is account.domain (expecting through.client (Ok through.reply)) e (server_final_message through.reply.verifier) (Ok tt) carried through.checks;
    }
