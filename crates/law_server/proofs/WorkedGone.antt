-- Worked values: a session on a connection, with a count above what was sent, and what is so of its number behind that.
use Rattle.std.proofs.Common.{◌≡◌, true, false, [], ◌∷◌, Some, None, codes, pos, refl, arith}
use Rattle.base_lemmas.specs.Hexadecimal.{hex16_of}
use Rattle.sm_live.specs.Sessions.{Session, is_too_high, session_of, session_resumed}
use Rattle.sm_resumption.specs.Previds.{previd_of}
use Rattle.srv_state.specs.State.{ServerState}
use Rattle.srv_state.specs.Steps.{binds, shut}
use Rattle.srv_state.specs.declared.connection.Connection.{Connection}
use Rattle.srv_state.specs.declared.connection.Phase.TheVariants as phase
use Rattle.srv_state.specs.declared.connection.Tries.TheVariants as tries
use Rattle.law_server.specs.Gone.{IsGone, IsLoggedIn}
use Rattle.law_server.specs.Numbers.{HaveNumbers}
use Rattle.xml_writer.specs.Items.{ItemOut}

-- the session with the number 1, on the connection 7, to which nothing was sent
abbrev one : Session ItemOut
one = record {
  shown = record { number = 1; account = 0; resource = codes "a"; conn = Some 7; parked_at = 0; available = true; priority = pos 0; carbons = false; counted = true; resumable = true; asked = false };
  acked = 0;
  handled = 0;
  waiting = [];
}

abbrev conn : Connection
conn = record { entropy = []; phase = phase.Ready 0; tries = tries.Three }

abbrev server_state : ServerState ItemOut
server_state = record { domain = codes "b"; accounts = []; archives = []; sessions = one ∷ []; next = 2; conns = (7, conn) ∷ []; moment = 0 }

abbrev following : ServerState ItemOut
following = (shut 7 (record { server_state = server_state; outs = [] })).server_state

-- the premises are met
stands : IsLoggedIn 7 0 (Some one) server_state
stands = record { conn = conn; there = refl; login = refl; on = refl }

rises : HaveNumbers server_state
rises = (omega arith, omega arith)

high : is_too_high 1 one ≡ true
high = refl

-- before the shut it can be resumed, and behind it it can't, and the next session has another number
found : session_resumed (previd_of 1) 0 server_state.sessions ≡ Some one
unfolding hex16_of
found = refl

lost : session_resumed (previd_of 1) 0 following.sessions ≡ None
lost = refl

gone : IsGone 1 following
gone = record { none = refl; spent = omega arith }

next : session_of 1 (binds 0 (codes "a") 8 following).sessions ≡ None
next = refl
