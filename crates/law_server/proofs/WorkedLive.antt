-- A message at worked values: the one session that is ready gets it, and another account's gets nothing.
use Rattle.std.proofs.Common.{◌≡◌, ℕ, true, false, List, [], ◌∷◌, Some, None, codes, pos, refl}
use Rattle.im_stanza.specs.Views.{MessageView}
use Rattle.im_stanza.specs.declared.kinds.MessageKind.TheVariants.{Chat}
use Rattle.law_server.specs.Live.{delivery}
use Rattle.law_server.specs.Ready.{IsReady}
use Rattle.sm_live.specs.Sessions.{Session, told}
use Rattle.srv_handlers.specs.Messages.{at_message}
use Rattle.srv_login.specs.declared.account.Account.{Account}
use Rattle.srv_state.specs.State.{ServerState}
use Rattle.srv_state.specs.Steps.{Send}
use Rattle.xml_trees.specs.Trees.{no_nodes}
use Rattle.xml_writer.specs.Items.{ItemOut}

account : List ℕ → Account
account name = record { name = name; credentials = record { salt = []; iterations = 4096; stored_key = []; server_key = [] } }

-- a session of an account that announced itself, on the connection of its number
session : ℕ → ℕ → Session ItemOut
session number owner = record {
  shown = record { number = number; account = owner; resource = codes "r"; conn = Some number; parked_at = 0; available = true; priority = pos 0; carbons = true; counted = false; resumable = false; asked = false };
  acked = 0;
  handled = 0;
  waiting = [];
}

-- alice's session sends, bob has one, and carol has one
server_state : ServerState ItemOut
server_state = record {
  domain = codes "x";
  accounts = account (codes "alice") ∷ account (codes "bob") ∷ account (codes "carol") ∷ [];
  archives = [];
  sessions = session 1 0 ∷ session 2 1 ∷ session 3 2 ∷ [];
  next = 4;
  conns = [];
  moment = 0;
}

message : MessageView
message = record { from = None; to = Some (codes "bob@x"); id = codes "m"; kind = Chat; lang = []; payload = no_nodes }

bob_gets_it : at_message (λ item. item) message (told (session 1 0)) server_state ≡ Send 2 (delivery (session 1 0) message 1 server_state) ∷ []
unfolding account session server_state message
bob_gets_it = refl

bob_is_ready : IsReady server_state 1 (session 2 1)
unfolding account session server_state
bob_is_ready = record { lives = refl; account_is = refl; available = refl; priority = refl }
