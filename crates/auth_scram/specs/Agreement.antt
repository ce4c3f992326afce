-- The two ends of an exchange under one password agree.
use Rattle.std.specs.Prelude.{◌≡◌, ℕ, ◌≤◌, true, List, Ok}
use Rattle.base64.specs.GeneralPurpose.{IsBytes}
use Rattle.auth_scram.specs.Exchange.{ClientView, ReplyView, ServerView, begun_client, begun_server, check_of, credentials_of, expecting, is_plain, last_of, reply_of, server_final_message}
use Rattle.auth_scram.specs.Grammar.{is_nonce}
use Rattle.auth_scram.specs.Messages as reading
use Rattle.auth_scram.specs.declared.client_first.ClientFirst.{ClientFirst}

-- what a client and a server are given for an exchange
pub record Given : Type 0 where
  pub name : List ℕ
  pub password : List ℕ
  pub salt : List ℕ
  pub iterations : ℕ
  pub nonce : List ℕ
  pub tail : List ℕ

-- names and passwords of printable ASCII, a salt of bytes, a count within bounds, and nonces in the grammar: the client's,
-- and the part that the server adds, which has one character at least
pub record IsAllowed (given : Given) : Type 0 where
  pub name : is_plain given.name ≡ true
  pub password : is_plain given.password ≡ true
  pub salt : IsBytes given.salt
  pub least : 4096 ≤ given.iterations
  pub most : given.iterations ≤ 1000000
  pub nonce : is_nonce given.nonce ≡ true
  pub tail : is_nonce given.tail ≡ true

-- the server's end, once it has read the client's first message
abbrev pub server_given : Given → ClientFirst → ServerView
server_given given first =
    begun_server first (credentials_of given.password given.salt given.iterations) given.tail

-- The exchange with credentials of the same password goes through: the client begins, the server reads its name and
-- nonce, the client replies, the server accepts, and the client accepts what the server says then, which has the
-- verifier that the client expects.
pub record GoesThrough (given : Given) : Type 0 where
  pub client : ClientView
  pub begins : begun_client given.name given.password given.nonce ≡ Ok client
  pub first : ClientFirst
  pub is_read : reading.client_first_of client.message ≡ Ok first
  pub name : first.name ≡ given.name
  pub nonce : first.nonce ≡ given.nonce
  pub reply : ReplyView
  pub replies : reply_of client (server_given given first).message ≡ Ok reply
  pub accepts : last_of (server_given given first) reply.message ≡ Ok (server_final_message reply.verifier)
  pub checks : check_of (expecting client (Ok reply)) (server_final_message reply.verifier) ≡ Ok tt

abbrev pub EndsAgree : Type 0
EndsAgree = (given : Given) → IsAllowed given → GoesThrough given
