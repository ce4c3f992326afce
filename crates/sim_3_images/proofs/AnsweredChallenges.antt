-- The challenge that a server puts can be answered.
use Rattle.std.proofs.Common.{◌≡◌, ℕ, zero, suc, ◌≤◌, true, List, [], ◌∷◌, Ok, codes, length, take, refl, subst, arith}
use Rattle.std.specs.List.{AllByRecursion}
use Rattle.base64.specs.Engines.{standard}
use Rattle.base64.specs.GeneralPurpose.{encode_of}
use Rattle.sim_3_images.proofs.AnsweredItems.{no_enabled, no_message, no_request}
use Rattle.sim_3_images.proofs.AnsweredRows.{any_answers, ending_answers, failing_answers}
use Rattle.sim_3_images.proofs.AnsweredSteps.{ActsAnswer}
use Rattle.sim_3_images.specs.Relayable.{IsAnswered}
use Rattle.srv_state.specs.Logins.{at_login, at_login_other, beginning}
use Rattle.srv_state.specs.State.{ServerState}
use Rattle.srv_state.specs.declared.connection.Standing.{Standing}
use Rattle.srv_state.specs.declared.connection.Tries.{Tries}
use Rattle.srv_state.specs.declared.word.Word.{Word}
use Rattle.srv_state.specs.declared.word.Word.TheVariants as word
use Rattle.law_xml.specs.Plain.{IsPlain}
use Rattle.sim_3_items.specs.ItemWorlds.{itself}
use Rattle.srv_login.specs.Negotiations.{auth_answer}
use Rattle.srv_login.specs.declared.account.Account.{Account}
use Rattle.srv_login.specs.declared.negotiation.AuthAnswer.{AuthAnswer}
use Rattle.srv_login.specs.declared.negotiation.AuthAnswer.TheVariants as auth
use Rattle.law_limits.proofs.Logins.{base64_printable, printable_bytes}
use Rattle.im_replies.specs.Sasl.{challenge_item}
use Rattle.im_replies.specs.declared.conditions.StreamCondition.TheVariants as stream
use Rattle.law_limits.specs.Bounds.{most_id}
use Rattle.im_login.specs.Payloads.{base64_of as written_of}
use Rattle.im_login.specs.Readings.{payload_read}
use Rattle.im_login.specs.Sasl.{carrier, is_sasl}
use Rattle.auth_scram.proofs.Base64.{length_of}
use Rattle.auth_scram.specs.Exchange.{added_nonce}
use Rattle.law_limits.proofs.ServerLoginsKept.{IsSmall, IsSmallAnswer, auth_small, encoded_small, first_bytes, payload_short}
use Rattle.law_limits.proofs.Readings.{this_is}
use Rattle.law_limits.specs.Keeps.{AccountKeeps, IsDrawn, ServerKeeps}
use Rattle.xml_trees.proofs.TidyReads.{text_of-text_node}
use Rattle.xml_trees.specs.Readers.{text_of}
use Rattle.xml_trees.specs.Tidied.{text_node}
use Rattle.xml_trees.specs.Trees.{Elem, nodes_of}
use Rattle.xml_writer.specs.Items.{ItemOut}

taken_few : (n : ℕ) (xs : List ℕ) → length (take n xs) ≤ n
taken_few zero xs = omega arith
taken_few (suc n) [] = omega arith
taken_few (suc n) (x ∷ xs) = let ih = taken_few n xs in omega (arith, ih)

-- an `auth` has a short text
abbrev pub IsAuthRelayable : Elem → Type 0
IsAuthRelayable e = is_sasl (codes "auth") e ≡ true → length (text_of (nodes_of e)) ≤ 400

-- ---- the challenge

-- what is read of a carrier is no longer than its text
carried_short : (t payload : List ℕ) → IsSmall 2472 t → payload_read (text_of (text_node (written_of t))) ≡ Ok payload → length payload ≤ most_id
unfolding written_of
carried_short t payload h is =
    let given = encode_of standard t in
    let read : payload_read given ≡ Ok payload = subst (λ x. payload_read x ≡ Ok payload) (text_of-text_node given) is in
    let within = payload_short given payload (printable_bytes given (base64_printable t (printable_bytes t h.printable))) read in
    let long = length_of t in
    let short = h.short in
    omega (arith, within, long, short)

challenge_answers : (t : List ℕ) → IsSmall 2472 t → IsAnswered (challenge_item t)
challenge_answers t h =
    let e : Elem = carrier (codes "challenge") t in
    record {
      request = λ q is asks. absurd (no_request e refl q is);
      result = λ m given r is found reads. absurd (no_message e refl m is);
      session = λ v is. absurd (no_enabled e refl v is);
      challenge = λ payload is. carried_short t payload h (this_is (is_sasl (codes "challenge") e) (payload_read (text_of (nodes_of e))) payload is).1;
    }

-- ---- answers to the first message

abbrev pub AnswerAnswers : AuthAnswer → Type 0
AnswerAnswers (auth.Begins n) = IsAnswered (challenge_item n.exchange.message)
AnswerAnswers (auth.Fails why) = Unit {0}

answer_answers : (answer : AuthAnswer) → IsSmallAnswer 2472 answer → AnswerAnswers answer
answer_answers (auth.Begins n) small = challenge_answers n.exchange.message small
answer_answers (auth.Fails why) small = tt

tail_small : (entropy : List ℕ) → IsDrawn entropy → IsSmall 40 (added_nonce entropy)
tail_small entropy h = encoded_small 18 40 (take 18 entropy) (first_bytes 18 entropy h.bytes) (taken_few 18 entropy) (omega arith)

pub auth_answers : (e : Elem) (entropy : List ℕ) (accounts : List Account) → IsPlain e → IsAuthRelayable e → IsDrawn entropy → AllByRecursion AccountKeeps accounts → AnswerAnswers (auth_answer e entropy accounts)
auth_answers e entropy accounts plain relayable drawn h = answer_answers (auth_answer e entropy accounts) (auth_small 400 40 e entropy accounts plain relayable (tail_small entropy drawn) h)
