-- Rounds on the links of one device: in each round what is under way on a connection is handed over, first to the server and
-- then to the client.
use Rattle.std.specs.Prelude.{◌≡◌, ℕ, zero, suc, List, [], ◌∷◌, Some}
use Rattle.sim_2_links.specs.Words.{Client, InHeader1, InFeatures1, InAuth, InResponse, InHeader2, InFeatures2, InResume, InBind, InEnable, InOnline}
use Rattle.sim_2_links.specs.Wires.{up_words, down_words}
use Rattle.sim_2_links.specs.Stages.{Conn}
use Rattle.sim_2_links.specs.Views.{View}
use Rattle.sim_2_links.specs.Machine.{LinkMove, Puts, Requests, Serves, Demands, LinkMoves}

-- ---- which moves there are

-- all that the links have
abbrev pub IsAny : {A : Type 0} → LinkMove A → Type 0
IsAny move = Unit {0}

-- neither end puts a stanza or a request of itself
abbrev pub IsStill : {A : Type 0} → LinkMove A → Type 0
IsStill (Puts k z) = ⊥
IsStill (Requests k) = ⊥
IsStill (Serves k z) = ⊥
IsStill (Demands k) = ⊥
IsStill move = Unit {0}

-- moves of one of these kinds lead, one after another, from the one view to the other
abbrev pub Leads : {A : Type 0} → (LinkMove A → Type 0) → List (LinkMove A) → View A → View A → Type 0
Leads kind [] v last = last ≡ v
Leads {A = A} kind (move ∷ moves) v last = (next : View A) × kind move × LinkMoves move v next × Leads kind moves next last

pub record Goes {A : Type 0} (kind : LinkMove A → Type 0) (v last : View A) : Type 0 where
  pub moves : List (LinkMove A)
  pub leads : Leads kind moves v last

-- ---- rounds

-- nothing is on its way to the server on the connection, or to the client
abbrev pub IsUpEmpty : {A : Type 0} → ℕ → View A → Type 0
IsUpEmpty {A = A} k v = (c : Conn A) × (v.conns k ≡ Some c) × (up_words c.wires ≡ [])

abbrev pub IsDownEmpty : {A : Type 0} → ℕ → View A → Type 0
IsDownEmpty {A = A} k v = (c : Conn A) × (v.conns k ≡ Some c) × (down_words c.wires ≡ [])

-- A round on the connection: at one time nothing is on its way to the server, and later nothing is on its way to the client.
-- What else happens before, between and behind, there and on other connections, is left open, but for its kind.
pub record IsRound {A : Type 0} (kind : LinkMove A → Type 0) (k : ℕ) (v last : View A) : Type 0 where
  pub taken : View A
  pub up : Goes kind v taken
  pub up_empty : IsUpEmpty k taken
  pub read : View A
  pub down : Goes kind taken read
  pub down_empty : IsDownEmpty k read
  pub rest : Goes kind read last

-- so many, one after another
abbrev pub AreRounds : {A : Type 0} → (LinkMove A → Type 0) → ℕ → ℕ → View A → View A → Type 0
AreRounds kind k zero v last = last ≡ v
AreRounds {A = A} kind k (suc n) v last = (next : View A) × IsRound kind k v next × AreRounds kind k n next last

-- ---- how many it takes

-- until the client is online, at most: one for each word of the handshake that it waits for (RFC 6120, sections 6 and 7;
-- XEP-0198, sections 3 and 5), where its session isn't resumed; where it is, the last two aren't needed
abbrev pub rounds_to_go : Client → ℕ
rounds_to_go InHeader1 = 7
rounds_to_go InFeatures1 = 7
rounds_to_go InAuth = 6
rounds_to_go InResponse = 5
rounds_to_go InHeader2 = 4
rounds_to_go InFeatures2 = 4
rounds_to_go (InResume p) = 3
rounds_to_go InBind = 2
rounds_to_go InEnable = 1
rounds_to_go (InOnline p) = 0
