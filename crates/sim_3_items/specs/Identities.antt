-- A device as both of its ends know it, and a login of it (RFC 6120, sections 6 and 7; RFC 5802).
use Rattle.std.specs.Prelude.{◌≡◌, ◌≢◌, ℕ, List, [], ◌∷◌, ◌++◌, Ok}
use Rattle.base64.specs.GeneralPurpose.{IsBytes}
use Rattle.cl_handlers.specs.declared.account.Account.{Account as ClientsAccount}
use Rattle.im_jid.specs.Forms.{resource_form}
use Rattle.im_jid.specs.Normal.{normal}
use Rattle.srv_login.specs.Accounts.{bare_text, account_of}
use Rattle.srv_login.specs.declared.account.Account.{Account}
use Rattle.auth_scram.specs.Exchange.{ClientView, ReplyView, ServerView, added_nonce, begun_client, begun_server, check_of, expecting, last_of, reply_of, server_final_message}
use Rattle.auth_scram.specs.Messages.{client_first_of}
use Rattle.auth_scram.specs.declared.client_first.ClientFirst.{ClientFirst}

-- the place of the device among the devices, and of its account among those of the server; the account's name, its
-- domain
-- and its password; and the device's resource
pub record Identity : Type 0 where
  pub position : ℕ
  pub account : ℕ
  pub name : List ℕ
  pub domain : List ℕ
  pub password : List ℕ
  pub resource : List ℕ

abbrev pub bare_of : Identity → List ℕ
bare_of who = bare_text who.name who.domain

-- RFC 7622, section 3.1
abbrev pub full_of : Identity → List ℕ
full_of who = bare_of who ++ 47 ∷ who.resource

-- the account as the server has it, and as the client has it
abbrev pub served_account : Identity → Account
served_account who = account_of who.name who.domain who.password

abbrev pub own_account : Identity → ClientsAccount
own_account who = record {
  bare = bare_of who;
  resource = who.resource;
  login = record { name = who.name; domain = who.domain; password = who.password };
}

-- its addresses are in normal form (RFC 7622, section 3), so that each end reads of the other what this wrote
pub record IsNormal (who : Identity) : Type 0 where
  pub domain : normal who.domain ≡ Ok who.domain
  pub resource : resource_form who.resource ≡ Ok who.resource
  pub chosen : who.resource ≢ []
  pub full : normal (full_of who) ≡ Ok (full_of who)

-- ---- logins

-- the bytes that were drawn for a connection, for the client's end and for the server's; and the client's first
-- message,
-- what is read of it, and the client's reply
pub record Login : Type 0 where
  pub mine : List ℕ
  pub yours : List ℕ
  pub client : ClientView
  pub first : ClientFirst
  pub reply : ReplyView

-- the server's end of it
abbrev pub exchange_of : Identity → Login → ServerView
exchange_of who x = begun_server x.first (served_account who).credentials (added_nonce x.yours)

-- The login goes through: what each end says is what the other awaits (RFC 5802, section 3), and is bytes.
pub record IsLogin (who : Identity) (x : Login) : Type 0 where
  pub begins : begun_client who.name who.password (added_nonce x.mine) ≡ Ok x.client
  pub is_read : client_first_of x.client.message ≡ Ok x.first
  pub name : x.first.name ≡ who.name
  pub replies : reply_of x.client (exchange_of who x).message ≡ Ok x.reply
  pub accepts : last_of (exchange_of who x) x.reply.message ≡ Ok (server_final_message x.reply.verifier)
  pub checks : check_of (expecting x.client (Ok x.reply)) (server_final_message x.reply.verifier) ≡ Ok tt
  pub auth : IsBytes x.client.message
  pub challenge : IsBytes (exchange_of who x).message
  pub response : IsBytes x.reply.message
  pub success : IsBytes (server_final_message x.reply.verifier)
