-- What sessions are found by, other than their numbers: connections, accounts, and that they are parked.
use Rattle.std.specs.Prelude.{◌≡◌, ℕ, ◌-◌, ◌<◌, ◌==◌, ◌&&◌, get_or, Bool, true, List, [], Option, None, Some, Vec, filter, map, nat_eq, is_none, vec_capacity, vec_len}
use Rattle.std.specs.List.{list_any}
use Rattle.std.specs.List.Sorted.{IsNonDecreasingBy}
use Rattle.std.specs.HashMap as hash
use Rattle.std.specs.declared.alloc.Global.{Global}
use Rattle.sm_resumption.specs.Moves.{number_of}
use Rattle.sm_resumption.specs.Rows.{is_of, row_of}
use Rattle.sm_resumption.specs.declared.index.Index.{Index}
use Rattle.sm_resumption.specs.declared.index.Wait.{Wait}
use Rattle.sm_resumption.specs.declared.session.Row.{Row}

-- the session that the index has for a connection
abbrev pub conn_in : Index → ℕ → Option ℕ
conn_in i conn = hash.get nat_eq i.conns conn

-- the numbers that a list has, where there is one, and how many more fit it
abbrev pub numbers_in : Option (Vec ℕ Global) → List ℕ
numbers_in None = []
numbers_in (Some v) = v.items

abbrev pub room_in : Option (Vec ℕ Global) → ℕ
room_in None = 0
room_in (Some v) = vec_capacity v - vec_len v

-- the sessions that the index has for an account, and how many more fit
abbrev pub account_sessions : Index → ℕ → List ℕ
account_sessions i account = numbers_in (hash.get nat_eq i.sessions_by_account account)

abbrev pub account_room : Index → ℕ → ℕ
account_room i account = room_in (hash.get nat_eq i.sessions_by_account account)

-- whether the index has it that a session was parked at a moment
abbrev pub is_wait : ℕ → ℕ → Wait → Bool
is_wait since number w = nat_eq since w.since && nat_eq number w.number

abbrev pub waits_in : Index → ℕ → ℕ → Bool
waits_in i since number = list_any (is_wait since number) i.waits.items

-- a session is parked, and was so at a moment
abbrev pub is_parked_at : ℕ → Row → Bool
is_parked_at since r = is_none r.shown.conn && (r.shown.parked_at == since)

-- those that were parked stand in the order of the moments
abbrev pub AreInOrder : Index → Type 0
AreInOrder i = IsNonDecreasingBy (λ w. w.since) i.waits.items

-- a session is found by its connection, or since when it is parked
abbrev pub IsFound : Index → ℕ → Option ℕ → ℕ → Type 0
IsFound i n None since = waits_in i since n ≡ true
IsFound i n (Some conn) since = conn_in i conn ≡ Some n

pub record IsIndexed (i : Index) (rows : List Row) : Type 0 where
  pub placed : i.whole ≡ true → (n : ℕ) (r : Row) → row_of n rows ≡ Some r → IsFound i n r.shown.conn r.shown.parked_at
  pub reserved : (account : ℕ) → account_sessions i account ≡ map number_of (filter (is_of account) rows)
  pub ordered : AreInOrder i

-- no two sessions are on one connection
abbrev pub AreApart : (ℕ → Option Row) → Type 0
AreApart get = (m n conn : ℕ) (r s : Row) → get m ≡ Some r → get n ≡ Some s → r.shown.conn ≡ Some conn → s.shown.conn ≡ Some conn → m ≡ n

-- the sessions with the first numbers of a list are found
abbrev pub HasFirst : ℕ → Index → List ℕ → (ℕ → Option Row) → Type 0
HasFirst count i numbers get = (k : ℕ) (r : Row) → k < count → get (get_or numbers k 0) ≡ Some r → IsFound i (get_or numbers k 0) r.shown.conn r.shown.parked_at

-- what the index has of the parked sessions it has still
abbrev pub KeepsParked : (ℕ → Option Row) → Index → Index → Type 0
KeepsParked get i j = (n : ℕ) (r : Row) → get n ≡ Some r → r.shown.conn ≡ None → waits_in i r.shown.parked_at n ≡ true → waits_in j r.shown.parked_at n ≡ true
