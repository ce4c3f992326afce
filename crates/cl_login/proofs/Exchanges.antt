-- What an exchange is before and behind its reply.
use Rattle.std.proofs.Common.{◌≡◌, ℕ, Bool, true, false, cond, ◌&&◌, List, None, Result, Ok, Err, refl}
use Rattle.cl_login.specs.LoginRows.{unanswered}
use Rattle.auth_scram.specs.Exchange.{ClientView, ReplyView, begun_client, client_first_message, expecting, is_plain}
use Rattle.auth_scram.specs.declared.fault.ScramFault.{ScramFault}
use Rattle.auth_scram.specs.declared.fault.ScramFault.TheVariants.{BadName}

begins_by : (plain : Bool) (password nonce message : List ℕ) (exchange : ClientView)
    → cond plain (Ok (record { password = password; nonce = nonce; message = message; expected = None })) (Err BadName) ≡ Ok exchange → unanswered exchange ≡ exchange
begins_by true password nonce message exchange e =
    let is : record { password = password; nonce = nonce; message = message; expected = None } ≡ exchange = cc e in
    rw (← is) refl
begins_by false password nonce message exchange e = absurd (cc e)

-- an exchange that begins expects no verifier yet
pub begins_unanswered : (name password nonce : List ℕ) (exchange : ClientView) → begun_client name password nonce ≡ Ok exchange → unanswered exchange ≡ exchange
begins_unanswered name password nonce exchange e =
    begins_by (is_plain name && is_plain password) password nonce (client_first_message name nonce) exchange e

-- a reply changes nothing but the verifier that is expected
pub expecting_unanswered : (exchange : ClientView) (reply : Result ReplyView ScramFault) → unanswered (expecting exchange reply) ≡ unanswered exchange
expecting_unanswered exchange (Ok reply) = refl
expecting_unanswered exchange (Err fault) = refl
