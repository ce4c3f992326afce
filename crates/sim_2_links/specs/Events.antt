-- What the two applications see of the links: each session as what was put and handled, and the events that change it.
use Rattle.std.specs.Prelude.{◌≡◌, ℕ, ◌+◌, ◌≤◌, Bool, true, false, List, [], ◌∷◌, ◌++◌, length, Option, None, Some, if◌then◌else◌}
use Rattle.sim_2_links.specs.Views.{View, Table, with_at, alter, has, Session, Row, Own}

-- a session: the epoch that it has once the client read its bind result, whether the server counts it and whether the
-- client knows, what each end put and handled, and how many of the client's stanzas it knows to be handled
pub record SeenSession (A : Type 0) : Type 0 where
  pub epoch : Option ℕ
  pub counted : Bool
  pub known : Bool
  pub up_put : List A
  pub up_got : List A
  pub acked : ℕ
  pub down_put : List A
  pub down_got : List A

abbrev pub seen_session : {A : Type 0} → Session A → SeenSession A
seen_session s = record {
  epoch = s.epoch;
  counted = s.counted;
  known = s.read;
  up_put = s.up.put;
  up_got = s.up.got;
  acked = s.up.acked;
  down_put = s.down.put;
  down_got = s.down.got;
}

-- the number of the session that the server has live, that of the client's session, its epoch, and all sessions
pub record Seen (A : Type 0) : Type 0 where
  pub live : Option ℕ
  pub own : Option ℕ
  pub epoch : ℕ
  pub sessions : Table (SeenSession A)

abbrev pub row_number : {A : Type 0} → Option (Row A) → Option ℕ
row_number None = None
row_number (Some r) = Some r.number

abbrev pub own_number : {A : Type 0} → Option (Own A) → Option ℕ
own_number None = None
own_number (Some o) = Some o.number

abbrev pub seen_as : {A : Type 0} → Option (Session A) → Option (SeenSession A)
seen_as None = None
seen_as (Some s) = Some (seen_session s)

abbrev pub seen : {A : Type 0} → View A → Seen A
seen v = record { live = row_number v.row; own = own_number v.own; epoch = v.epoch; sessions = λ q. seen_as (v.sessions q) }

pub data LinkEvent (A : Type 0) : Type 0 where
  -- the server binds a session; the client reads so; the server counts it; the client knows that
  Bound : ℕ → LinkEvent A
  Named : ℕ → LinkEvent A
  Counted : ℕ → LinkEvent A
  Known : ℕ → LinkEvent A
  -- the server's session ends; the client gives its own up
  Ended : ℕ → LinkEvent A
  Dropped : ℕ → LinkEvent A
  -- the client puts a stanza; the server handles one; the server puts one; the client handles one
  Said : ℕ → A → LinkEvent A
  Handled : ℕ → A → LinkEvent A
  Served : ℕ → A → LinkEvent A
  Heard : ℕ → A → LinkEvent A
  -- the client learns how many of its stanzas were handled
  Learned : ℕ → ℕ → LinkEvent A

-- When an event comes. A session that is bound is newer than all others; one of which the client reads so is newer than
-- all that have an epoch; one that the server counts, or whose stanzas it handles or puts, is of the present epoch.
abbrev pub May : {A : Type 0} → LinkEvent A → Seen A → Type 0
May {A = A} (Bound m) s = (s.live ≡ None) × ((q : ℕ) (t : SeenSession A) → s.sessions q ≡ Some t → q + 1 ≤ m)
May {A = A} (Named m) s = (s.own ≡ None) × ((t : SeenSession A) × (s.sessions m ≡ Some t) × (t.epoch ≡ None) × (t.counted ≡ false)) × ((q e : ℕ) (t : SeenSession A) → s.sessions q ≡ Some t → t.epoch ≡ Some e → q + 1 ≤ m)
May {A = A} (Counted p) s = (s.live ≡ Some p) × ((t : SeenSession A) × (s.sessions p ≡ Some t) × (t.counted ≡ false) × (t.epoch ≡ Some s.epoch))
May {A = A} (Known p) s = (s.own ≡ None) × ((t : SeenSession A) × (s.sessions p ≡ Some t) × (t.counted ≡ true) × (t.known ≡ false) × (t.epoch ≡ Some s.epoch))
May (Ended p) s = s.live ≡ Some p
May (Dropped p) s = s.own ≡ Some p
May (Said p z) s = s.own ≡ Some p
May {A = A} (Handled p z) s = (s.live ≡ Some p) × ((t : SeenSession A) × (rest : List A) × (s.sessions p ≡ Some t) × (t.counted ≡ true) × (t.epoch ≡ Some s.epoch) × (t.up_put ≡ t.up_got ++ z ∷ rest))
May {A = A} (Served p z) s = (s.live ≡ Some p) × ((t : SeenSession A) × (s.sessions p ≡ Some t) × (t.counted ≡ true) × (t.epoch ≡ Some s.epoch))
May {A = A} (Heard p z) s = (s.own ≡ Some p) × ((t : SeenSession A) × (rest : List A) × (s.sessions p ≡ Some t) × (t.down_put ≡ t.down_got ++ z ∷ rest))
May {A = A} (Learned p n) s = (s.own ≡ Some p) × ((t : SeenSession A) × (s.sessions p ≡ Some t) × (t.acked ≤ n) × (n ≤ length t.up_got))

abbrev pub new_session : {A : Type 0} → SeenSession A
new_session = record { epoch = None; counted = false; known = false; up_put = []; up_got = []; acked = 0; down_put = []; down_got = [] }

-- what it changes
abbrev pub after : {A : Type 0} → LinkEvent A → Seen A → Seen A
after (Bound m) s = record s { live = Some m; sessions = with_at m new_session s.sessions }
after (Named m) s = record s { epoch = s.epoch + 1; sessions = alter (λ q t. record t { epoch = if has (Some m) q then Some (s.epoch + 1) else t.epoch }) s.sessions }
after (Counted p) s = record s { sessions = alter (λ q t. record t { counted = if has (Some p) q then true else t.counted }) s.sessions }
after (Known p) s = record s { own = Some p; sessions = alter (λ q t. record t { known = if has (Some p) q then true else t.known }) s.sessions }
after (Ended p) s = record s { live = None }
after (Dropped p) s = record s { own = None }
after (Said p z) s = record s { sessions = alter (λ q t. record t { up_put = if has (Some p) q then t.up_put ++ z ∷ [] else t.up_put }) s.sessions }
after (Handled p z) s = record s { sessions = alter (λ q t. record t { up_got = if has (Some p) q then t.up_got ++ z ∷ [] else t.up_got }) s.sessions }
after (Served p z) s = record s { sessions = alter (λ q t. record t { down_put = if has (Some p) q then t.down_put ++ z ∷ [] else t.down_put }) s.sessions }
after (Heard p z) s = record s { sessions = alter (λ q t. record t { down_got = if has (Some p) q then t.down_got ++ z ∷ [] else t.down_got }) s.sessions }
after (Learned p n) s = record s { sessions = alter (λ q t. record t { acked = if has (Some p) q then n else t.acked }) s.sessions }

-- nothing is to be seen, or one event
abbrev pub IsSeenAs : {A : Type 0} → Option (LinkEvent A) → Seen A → Seen A → Type 0
IsSeenAs None s t = t ≡ s
IsSeenAs (Some e) s t = May e s × (t ≡ after e s)

-- the events come, one after the other, and lead from the one to the other
abbrev pub Follows : {A : Type 0} → List (LinkEvent A) → Seen A → Seen A → Type 0
Follows [] s last = last ≡ s
Follows (e ∷ es) s last = May e s × Follows es (after e s) last
