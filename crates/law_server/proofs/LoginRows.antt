-- The rows of streams and logins: each puts on its own connection, and enters a phase that its standing allows.
use Rattle.std.proofs.Common.{◌≡◌, ℕ, ◌+◌, suc, Bool, true, false, cond, List, [], ◌∷◌, Option, Some, None, Result, Ok, Err, refl, ap, subst, ◌∙◌, arith, inl, inr}
use Rattle.std.proofs.lemmas.Bool.{cases_Bool, false≢true}
use Rattle.std.specs.List.{slice_get}
use Rattle.std.specs.Option.{IfSome, option_map}
use Rattle.std.specs.Str.{bytes_eq}
use Rattle.auth_scram.specs.Exchange.{CredentialsView, added_nonce, begun_server}
use Rattle.auth_scram.specs.Messages.{client_first_of}
use Rattle.auth_scram.specs.declared.client_first.ClientFirst.{ClientFirst}
use Rattle.auth_scram.specs.declared.fault.ScramFault.{ScramFault}
use Rattle.im_login.specs.Readings.{auth_read}
use Rattle.im_login.specs.Sasl.{auth_mechanism}
use Rattle.im_payload.specs.declared.fault.ExtFault.{ExtFault}
use Rattle.im_replies.specs.Streams.{error_item}
use Rattle.im_replies.specs.declared.conditions.StreamCondition.{StreamCondition}
use Rattle.im_replies.specs.declared.conditions.StreamCondition.TheVariants as stream
use Rattle.law_server.proofs.Rows.{AreCalm, IsBeforeReady}
use Rattle.law_server.specs.Proved.{IsExchange}
use Rattle.srv_login.specs.Accounts.{FoundView, account_from, account_named}
use Rattle.srv_login.specs.Headers.{header_answer}
use Rattle.srv_login.specs.Negotiations.{LoginView, auth_answer, begun_by, begun_of, begun_with, final_answer, is_scram}
use Rattle.srv_login.specs.declared.account.Account.{Account}
use Rattle.srv_login.specs.declared.header_judgement.HeaderAnswer.{HeaderAnswer}
use Rattle.srv_login.specs.declared.header_judgement.HeaderAnswer.TheVariants.{Opens, Refused}
use Rattle.srv_login.specs.declared.negotiation.AuthAnswer.{AuthAnswer}
use Rattle.srv_login.specs.declared.negotiation.AuthAnswer.TheVariants as auth
use Rattle.srv_login.specs.declared.negotiation.Negotiation.{Negotiation}
use Rattle.srv_login.specs.declared.sasl_condition.SaslCondition.{SaslCondition}
use Rattle.srv_login.specs.declared.sasl_condition.SaslCondition.TheVariants.{Aborted}
use Rattle.srv_state.specs.Logins.{answering, at_challenge, at_login, at_login_other, beginning, failing, finishing, negotiation_at}
use Rattle.srv_state.specs.State.{ServerState}
use Rattle.srv_state.specs.Streams.{answering_header, at_any, at_header, awaits_header, closing, ending, ending_in, header_in, opening, parting}
use Rattle.srv_state.specs.declared.connection.Stage.{Stage}
use Rattle.srv_state.specs.declared.connection.Stage.TheVariants as stage
use Rattle.srv_state.specs.declared.connection.Standing.{Standing}
use Rattle.srv_state.specs.declared.connection.Tries.{Tries}
use Rattle.srv_state.specs.declared.connection.Tries.TheVariants as tries
use Rattle.srv_state.specs.declared.word.Word.{Word}
use Rattle.srv_state.specs.declared.word.Word.TheVariants as word
use Rattle.xml_framer.specs.declared.items.Item.{Item}
use Rattle.xml_framer.specs.declared.items.Item.TheVariants as item
use Rattle.xml_names.specs.declared.headers.Header.{Header}
use Rattle.xml_trees.specs.Trees.{Elem}
use Rattle.xml_writer.specs.Items.{ItemOut}

-- ---- an exchange that begins

record IsFoundFrom (start : ℕ) (accounts : List Account) (f : FoundView) : Type 0 where
  at : ℕ
  position : f.position ≡ start + at
  named : Account
  there : slice_get accounts at ≡ Some named
  credentials : f.credentials ≡ named.credentials

if_some : {T : Type 0} (P Q : T → Type 0) → ((t : T) → P t → Q t) → (o : Option T) → IfSome o P → IfSome o Q
if_some P Q f None is = tt
if_some P Q f (Some t) is = f t is

found_later : (start : ℕ) (a : Account) (accounts : List Account) (f : FoundView) → IsFoundFrom (start + 1) accounts f → IsFoundFrom start (a ∷ accounts) f
found_later start a accounts f is =
    let n = is.at in
    let was : f.position ≡ start + 1 + n = is.position in
    let more : start + 1 + n ≡ start + suc n = omega arith in
    record { at = suc n; position = was ∙ more; named = is.named; there = is.there; credentials = is.credentials }

found_from : (start : ℕ) (name : List ℕ) (accounts : List Account) → IfSome (account_from start name accounts) (IsFoundFrom start accounts)
found_from start name [] = tt
found_from start name (a ∷ accounts) =
    let first : start ≡ start + 0 = omega arith in
    elim (cases_Bool (bytes_eq name a.name)) [
      | inl here ↦ rw here (record { at = 0; position = first; named = a; there = refl; credentials = refl })
      | inr other ↦ rw other (if_some (IsFoundFrom (start + 1) accounts) (IsFoundFrom start (a ∷ accounts)) (found_later start a accounts) (account_from (start + 1) name accounts) (found_from (start + 1) name accounts))
    ]

-- an exchange that begins is with an account's credentials, and with what was drawn
abbrev IsBegun : List Account → List ℕ → AuthAnswer → Type 0
IsBegun accounts entropy (auth.Begins n) = IsExchange accounts entropy n
IsBegun accounts entropy (auth.Fails why) = Unit {0}

begun_either : (accounts : List Account) (entropy : List ℕ) (b : Bool) (x y : AuthAnswer) → IsBegun accounts entropy x → IsBegun accounts entropy y → IsBegun accounts entropy (cond b x y)
begun_either accounts entropy true x y here there = here
begun_either accounts entropy false x y here there = there

begun_there : (accounts : List Account) (entropy : List ℕ) (first : ClientFirst) (o : Option FoundView) → IfSome o (IsFoundFrom 0 accounts) → IsBegun accounts entropy (begun_by first (added_nonce entropy) o)
begun_there accounts entropy first None is = tt
begun_there accounts entropy first (Some found) is =
    let n = is.at in
    let was : found.position ≡ 0 + n = is.position in
    let position : n ≡ found.position = omega (arith, was) in
    record {
      named = is.named;
      there = subst (λ (p : ℕ). slice_get accounts p ≡ Some is.named) position is.there;
      first = first;
      begun_so = ap (λ (c : CredentialsView). begun_server first c (added_nonce entropy)) is.credentials;
    }

begun_right : (accounts : List Account) (entropy : List ℕ) (r : Result ClientFirst ScramFault) → IsBegun accounts entropy (begun_with (added_nonce entropy) accounts r)
begun_right accounts entropy (Ok first) = begun_there accounts entropy first (account_named first.name accounts) (found_from 0 first.name accounts)
begun_right accounts entropy (Err fault) = tt

begun_read : (accounts : List Account) (entropy : List ℕ) (r : Result (List ℕ × List ℕ) ExtFault) → IsBegun accounts entropy (begun_of (added_nonce entropy) accounts r)
begun_read accounts entropy (Ok read) = begun_right accounts entropy (client_first_of read.1)
begun_read accounts entropy (Err fault) = tt

auth_begun : (accounts : List Account) (e : Elem) (entropy : List ℕ) → IsBegun accounts entropy (auth_answer e entropy accounts)
auth_begun accounts e entropy = begun_either accounts entropy (is_scram (auth_mechanism e)) _ _ (begun_read accounts entropy (auth_read e)) tt

-- ---- the rows

-- a `response` is the element that the item is
abbrev pub IsResponseOfItem : Item → Word → Type 0
IsResponseOfItem i (word.Response e bad) = i ≡ item.Element e
IsResponseOfItem i w = Unit {0}

module _ {A : Type 0} (say : ItemOut → A) (k : ℕ) (i : Item) (st : Standing) (h : ServerState A) where
  pub calm_closing : AreCalm say k i st h (closing say k)
  calm_closing = ((inl refl, tt), ((tt, tt), tt))

  pub calm_parting : (error : A) → AreCalm say k i st h (parting say k error)
  calm_parting error = ((inl refl, tt), calm_closing)

  calm_ending_in : (c : StreamCondition) (s : Stage) (entropy : List ℕ) → AreCalm say k i st h (ending_in say k c s entropy h)
  calm_ending_in c stage.Start entropy = ((inl refl, tt), calm_parting (say (error_item c)))
  calm_ending_in c stage.Login entropy = calm_parting (say (error_item c))
  calm_ending_in c stage.Challenge entropy = calm_parting (say (error_item c))
  calm_ending_in c (stage.Restart account) entropy = calm_parting (say (error_item c))
  calm_ending_in c (stage.Ready account) entropy = calm_parting (say (error_item c))

  pub calm_ending : (c : StreamCondition) → AreCalm say k i st h (ending say k c st h)
  calm_ending c = calm_ending_in c st.stage st.entropy

  pub calm_any : (w : Word) → AreCalm say k i st h (at_any say k w st h)
  calm_any (word.Stanza long read) = calm_ending stream.UnsupportedStanzaType
  calm_any (word.Enable resume) = calm_ending stream.UnsupportedStanzaType
  calm_any word.Request = calm_ending stream.UnsupportedStanzaType
  calm_any (word.Ack handled) = calm_ending stream.UnsupportedStanzaType
  calm_any (word.Resume previd handled) = calm_ending stream.UnsupportedStanzaType
  calm_any (word.Auth e bad) = calm_ending _
  calm_any (word.Response e bad) = calm_ending _
  calm_any word.Abort = calm_ending stream.UnsupportedStanzaType
  calm_any word.BadField = calm_ending stream.BadFormat
  calm_any word.StreamError = calm_closing
  calm_any word.Other = calm_ending stream.UnsupportedStanzaType

  -- ---- headers

  before_if : (s : Stage) → awaits_header s ≡ true → IsBeforeReady s
  before_if stage.Start awaits = tt
  before_if stage.Login awaits = tt
  before_if stage.Challenge awaits = tt
  before_if (stage.Restart account) awaits = tt
  before_if (stage.Ready account) awaits = absurd (false≢true awaits)

  calm_opening : (s : Stage) → st.stage ≡ s → IsBeforeReady st.stage → AreCalm say k i st h (opening say k st.entropy s h)
  calm_opening stage.Start is before = ((inl refl, tt), ((inl refl, tt), ((tt, (refl, before, tt)), tt)))
  calm_opening stage.Login is before = ((inl refl, tt), ((inl refl, tt), ((tt, (refl, before, tt)), tt)))
  calm_opening stage.Challenge is before = ((inl refl, tt), ((inl refl, tt), ((tt, (refl, before, tt)), tt)))
  calm_opening (stage.Restart account) is before = ((inl refl, tt), ((inl refl, tt), ((tt, (refl, before, is)), tt)))
  calm_opening (stage.Ready account) is before = ((inl refl, tt), ((inl refl, tt), ((tt, (refl, before, tt)), tt)))

  calm_answering : (a : HeaderAnswer) → IsBeforeReady st.stage → AreCalm say k i st h (answering_header say k st a h)
  calm_answering Opens before = calm_opening st.stage refl before
  calm_answering (Refused why) before = calm_ending _

  calm_header_in : (header : Header) (b : Bool) → awaits_header st.stage ≡ b → AreCalm say k i st h (header_in say k header st b h)
  calm_header_in header true awaits = calm_answering (header_answer h.domain header) (before_if st.stage awaits)
  calm_header_in header false awaits = calm_ending stream.UnsupportedStanzaType

  pub calm_header : (header : Header) → AreCalm say k i st h (at_header say k header st h)
  calm_header header = calm_header_in header (awaits_header st.stage) refl

  -- ---- logins

  calm_failing : (why : SaslCondition) (left : Tries) → IsBeforeReady st.stage → AreCalm say k i st h (failing say k why left)
  calm_failing why tries.Three before = ((inl refl, tt), ((tt, (refl, before)), tt))
  calm_failing why tries.Two before = ((inl refl, tt), ((tt, (refl, before)), tt))
  calm_failing why tries.One before = ((inl refl, tt), calm_parting (say (error_item stream.PolicyViolation)))

  calm_beginning : (left : Tries) (a : AuthAnswer) → IsBeforeReady st.stage → IsBegun h.accounts st.entropy a → AreCalm say k i st h (beginning say k left a)
  calm_beginning left (auth.Begins n) before begun = ((inl refl, tt), ((tt, (refl, before, begun)), tt))
  calm_beginning left (auth.Fails why) before begun = calm_failing why left before

  calm_finishing : (e : Elem) → i ≡ item.Element e → (n : Negotiation) → negotiation_at k h ≡ Some n → (r : Result LoginView SaslCondition) → final_answer e n ≡ r → IsBeforeReady st.stage
      → AreCalm say k i st h (finishing say k st.tries r)
  calm_finishing e is n in_hand (Ok login) answer before =
      ((inl refl, tt), ((tt, (refl, before, record { n = n; in_hand = in_hand; element = e; is = is; login = login; succeeds = answer; account_is = refl })), tt))
  calm_finishing e is n in_hand (Err why) answer before = calm_failing why st.tries before

  calm_response : (e : Elem) → i ≡ item.Element e → (o : Option Negotiation) → negotiation_at k h ≡ o → IsBeforeReady st.stage → AreCalm say k i st h (answering say k st.tries (option_map (final_answer e) o))
  calm_response e is None in_hand before = tt
  calm_response e is (Some n) in_hand before = calm_finishing e is n in_hand (final_answer e n) refl before

  calm_other : (w : Word) → IsBeforeReady st.stage → AreCalm say k i st h (at_login_other say k w st h)
  calm_other (word.Stanza long read) before = calm_ending stream.NotAuthorized
  calm_other (word.Enable resume) before = calm_any (word.Enable resume)
  calm_other word.Request before = calm_any word.Request
  calm_other (word.Ack handled) before = calm_any (word.Ack handled)
  calm_other (word.Resume previd handled) before = calm_any (word.Resume previd handled)
  calm_other (word.Auth e bad) before = calm_any (word.Auth e bad)
  calm_other (word.Response e bad) before = calm_any (word.Response e bad)
  calm_other word.Abort before = calm_failing Aborted st.tries before
  calm_other word.BadField before = calm_any word.BadField
  calm_other word.StreamError before = calm_any word.StreamError
  calm_other word.Other before = calm_any word.Other

  pub calm_login : (w : Word) → IsBeforeReady st.stage → AreCalm say k i st h (at_login say k w st h)
  calm_login (word.Auth e bad) before = calm_beginning st.tries (auth_answer e st.entropy h.accounts) before (auth_begun h.accounts e st.entropy)
  calm_login (word.Stanza long read) before = calm_other (word.Stanza long read) before
  calm_login (word.Enable resume) before = calm_other (word.Enable resume) before
  calm_login word.Request before = calm_other word.Request before
  calm_login (word.Ack handled) before = calm_other (word.Ack handled) before
  calm_login (word.Resume previd handled) before = calm_other (word.Resume previd handled) before
  calm_login (word.Response e bad) before = calm_other (word.Response e bad) before
  calm_login word.Abort before = calm_other word.Abort before
  calm_login word.BadField before = calm_other word.BadField before
  calm_login word.StreamError before = calm_other word.StreamError before
  calm_login word.Other before = calm_other word.Other before

  pub calm_challenge : (w : Word) → IsResponseOfItem i w → IsBeforeReady st.stage → AreCalm say k i st h (at_challenge say k w st h)
  calm_challenge (word.Response e bad) is before = calm_response e is (negotiation_at k h) refl before
  calm_challenge (word.Stanza long read) is before = calm_other (word.Stanza long read) before
  calm_challenge (word.Enable resume) is before = calm_other (word.Enable resume) before
  calm_challenge word.Request is before = calm_other word.Request before
  calm_challenge (word.Ack handled) is before = calm_other (word.Ack handled) before
  calm_challenge (word.Resume previd handled) is before = calm_other (word.Resume previd handled) before
  calm_challenge (word.Auth e bad) is before = calm_other (word.Auth e bad) before
  calm_challenge word.Abort is before = calm_other word.Abort before
  calm_challenge word.BadField is before = calm_other word.BadField before
  calm_challenge word.StreamError is before = calm_other word.StreamError before
  calm_challenge word.Other is before = calm_other word.Other before
