-- Where the client is online on a connection that flows, the count that covers what it asked for is still to come.
use Rattle.std.proofs.Common.{◌≡◌, ◌≢◌, ℕ, Bool, true, ◌&&◌, ◌++◌, length, drop, refl, sym, ap, ◌∙◌, subst, inl, inr, Option, Some}
use Rattle.sm_acks.proofs.Directions.{kept_reached}
use Rattle.sim_2_links.proofs.Entries.{New, Old, entry, was}
use Rattle.sim_2_links.proofs.CutLinks.{some_one, some_same}
use Rattle.sim_2_links.proofs.UncountedEnds.{carried_holds}
use Rattle.sim_2_links.specs.Words.{up_stanzas, InOnline}
use Rattle.sim_2_links.specs.Wires.{is_flowing, up_words, down_whole}
use Rattle.sim_2_links.specs.Stages.{Conn}
use Rattle.sim_2_links.specs.Views.{Table, with_at, alter, Session, Row, Own, View, session_on, carried_by, sends}
use Rattle.sim_2_links.specs.PutMoves.{is_online}
use Rattle.sim_2_links.specs.Links.{ConnKept, GoesUp, IsPlaced, RowKept, OwnKept, LinkKept}
use Rattle.sim_2_links.specs.Covers.{NoneAsks, IsToCome, IsCoveredBy, IsCovered}

-- what a move does to the sessions leaves put and got of the client's session as they were
abbrev pub IsUnseen : {A : Type 0} → View A → Table (Session A) → Type 0
IsUnseen {A = A} v sessions = (o : Own A) (t : Session A) → v.own ≡ Some o → sessions o.number ≡ Some t → (s : Session A) × (v.sessions o.number ≡ Some s) × (t.up.put ≡ s.up.put) × (t.up.got ≡ s.up.got)

pub unseen_by : {A : Type 0} (v : View A) (f : ℕ → Session A → Session A) → ((q : ℕ) (s : Session A) → (f q s).up.put ≡ s.up.put) → ((q : ℕ) (s : Session A) → (f q s).up.got ≡ s.up.got) → IsUnseen v (alter f v.sessions)
unseen_by v f put got o t own is =
    let w = was f v.sessions o.number t is in
    (w.0, w.1, ap (λ (x : Session _). x.up.put) (sym w.2) ∙ put o.number w.0, ap (λ (x : Session _). x.up.got) (sym w.2) ∙ got o.number w.0)

pub unseen_same : {A : Type 0} (v : View A) → IsUnseen v v.sessions
unseen_same v o t own is = (t, is, refl, refl)

pub as_covered : {A : Type 0} (asks : A → Bool) (c : Conn A) (o : Own A) (s t : Session A) → t.up.put ≡ s.up.put → t.up.got ≡ s.up.got → IsCoveredBy asks c o s → IsCoveredBy asks c o t
as_covered asks c o s t put got g = record {
  count = g.count;
  comes = elim g.comes [ inl e ↦ inl e | inr x ↦ inr (elim x [ inl e ↦ inl e | inr e ↦ inr (subst (λ l. IsToCome g.count (length l) (up_words c.wires)) (sym got) e) ]) ];
  none = subst (λ l. NoneAsks asks (drop g.count l)) (sym put) g.none;
}

-- a connection changes, on which the client is not online now, or which doesn't flow
pub elsewhere_covered : {A : Type 0} (asks : A → Bool) (v : View A) (k : ℕ) (new : Conn A) (row : Option (Row A)) (epoch : ℕ) (sessions : Table (Session A)) → IsUnseen v sessions →
    (v.here ≡ Some k → is_online new.client ≡ true → is_flowing new.wires ≡ true → ⊥) → IsCovered asks v → IsCovered asks (record v { conns = with_at k new v.conns; row = row; epoch = epoch; sessions = sessions })
elsewhere_covered {A = A} asks v k new row epoch sessions unseen dead covered n c o t here found own online flows is = elim (entry k new v.conns n c found) [
  | New same this ↦ absurd (dead (here ∙ ap Some (sym same)) (ap (λ (x : Conn A). is_online x.client) this ∙ ap is_online online) (ap (λ (x : Conn A). is_flowing x.wires) this ∙ flows))
  | Old ne there ↦
      let u = unseen o t own is in
      as_covered asks c o u.0 t u.2 u.3 (covered n c o u.0 here there own online flows u.1)
]

-- nothing changes on the connections
pub silent_covered : {A : Type 0} (asks : A → Bool) (v : View A) (row : Option (Row A)) (sessions : Table (Session A)) → IsUnseen v sessions → IsCovered asks v → IsCovered asks (record v { row = row; sessions = sessions })
silent_covered asks v row sessions unseen covered n c o t here found own online flows is =
    let u = unseen o t own is in
    as_covered asks c o u.0 t u.2 u.3 (covered n c o u.0 here found own online flows u.1)

-- the server's connection changes, which may be the client's
pub server_covered : {A : Type 0} (asks : A → Bool) (v : View A) (k : ℕ) (old new : Conn A) (row : Option (Row A)) (sessions : Table (Session A)) → v.conns k ≡ Some old → new.client ≡ old.client → is_flowing new.wires ≡ is_flowing old.wires →
    ((n : ℕ) (c : Conn A) (o : Own A) (t : Session A) → v.here ≡ Some n → k ≢ n → v.conns n ≡ Some c → v.own ≡ Some o → c.client ≡ InOnline o.number → is_flowing c.wires ≡ true → sessions o.number ≡ Some t →
    (s : Session A) × (v.sessions o.number ≡ Some s) × (t.up.put ≡ s.up.put) × (t.up.got ≡ s.up.got)) →
    ((o : Own A) (t : Session A) → v.here ≡ Some k → v.own ≡ Some o → old.client ≡ InOnline o.number → is_flowing old.wires ≡ true → sessions o.number ≡ Some t →
    (s : Session A) × (v.sessions o.number ≡ Some s) × (IsCoveredBy asks old o s → IsCoveredBy asks new o t)) →
    IsCovered asks v → IsCovered asks (record v { conns = with_at k new v.conns; row = row; sessions = sessions })
server_covered {A = A} asks v k old new row sessions is_old client flow other this covered n c o t here found own online flows is = elim (entry k new v.conns n c found) [
  | New same one ↦
      let here_k : v.here ≡ Some k = here ∙ ap Some (sym same) in
      let online_old : old.client ≡ InOnline o.number = sym client ∙ ap (λ (x : Conn A). x.client) one ∙ online in
      let flows_old : is_flowing old.wires ≡ true = sym flow ∙ ap (λ (x : Conn A). is_flowing x.wires) one ∙ flows in
      let u = this o t here_k own online_old flows_old is in
      subst (λ x. IsCoveredBy asks x o t) one (u.2 (covered k old o u.0 here_k is_old own online_old flows_old u.1))
  | Old ne there ↦
      let u = other n c o t here ne there own online flows is in
      as_covered asks c o u.0 t u.2 u.3 (covered n c o u.0 here there own online flows u.1)
]

-- the client's connection changes
pub client_covered : {A : Type 0} (asks : A → Bool) (v : View A) (k : ℕ) (new : Conn A) (mine : Option (Own A)) (sessions : Table (Session A)) → v.here ≡ Some k →
    ((o : Own A) (t : Session A) → mine ≡ Some o → new.client ≡ InOnline o.number → is_flowing new.wires ≡ true → sessions o.number ≡ Some t → IsCoveredBy asks new o t) →
    IsCovered asks (record v { conns = with_at k new v.conns; own = mine; sessions = sessions })
client_covered {A = A} asks v k new mine sessions here_k this n c o t here found own online flows is = elim (entry k new v.conns n c found) [
  | New same one ↦ subst (λ x. IsCoveredBy asks x o t) one (this o t own (ap (λ (x : Conn A). x.client) one ∙ online) (ap (λ (x : Conn A). is_flowing x.wires) one ∙ flows) is)
  | Old ne there ↦ absurd (ne (some_same k n (sym here_k ∙ here)))
]

-- the client's own session is covered on its connection as it is now, where f changed the sessions
abbrev pub CoversAfter : {A : Type 0} → (A → Bool) → Conn A → View A → (ℕ → Session A → Session A) → Own A → Type 0
CoversAfter {A = A} asks this v f own = (t : Session A) → is_flowing this.wires ≡ true → alter f v.sessions own.number ≡ Some t → IsCoveredBy asks this own t

-- where the client is online and all flows, the server has its session on that connection, and what goes up is all
-- that it has not handled
pub record IsTogether {A : Type 0} (v : View A) (k : ℕ) (c : Conn A) (o : Own A) (s : Session A) : Type 0 where
  pub row : Row A
  pub is_row : v.row ≡ Some row
  pub number : row.number ≡ o.number
  pub on : row.on ≡ Some k
  pub counted : row.counted ≡ true
  pub session : v.sessions o.number ≡ Some s
  pub handled : row.handled ≡ length s.up.got
  pub acked : o.acked ≡ s.up.acked
  pub all : s.up.put ≡ s.up.got ++ up_stanzas (up_words c.wires)

pub together : {A : Type 0} (v : View A) (k : ℕ) (c : Conn A) (o : Own A) → LinkKept v → v.here ≡ Some k → v.conns k ≡ Some c → v.own ≡ Some o → c.client ≡ InOnline o.number → is_flowing c.wires ≡ true → (s : Session A) × IsTogether v k c o s
together {A = A} v k c o kept here is own online flows = (
  row.session,
  record {
    row = a.0;
    is_row = a.1;
    number = a.2;
    on = a.3;
    counted = row.counted ∙ counted;
    session = subst (λ n. v.sessions n ≡ Some row.session) a.2 row.is;
    handled = row.handled;
    acked = mine.acked ∙ ap (λ (x : Session A). x.up.acked) same;
    all = (kept_reached row.session.up (kept.sessions a.0.number row.session row.is).up).whole is_open ∙ ap (λ l. row.session.up.got ++ l) goes.way;
  },
)
  where
    old : ConnKept v k c
    old = kept.conns k c is

    a : (r : Row A) × (v.row ≡ Some r) × (r.number ≡ o.number) × (r.on ≡ Some k)
    a = old.attached o.number (carried_holds old.stage c o.number old.at (ap (λ x. carried_by x (down_whole c.wires)) online) (old.piped.flowing flows).1 (old.piped.flowing flows).2)

    row : RowKept v.conns v.sessions a.0
    row = kept.row a.0 a.1

    mine : OwnKept v.epoch v.sessions o
    mine = kept.own o own

    same : mine.session ≡ row.session
    same = some_one (v.sessions o.number) mine.session row.session mine.is (subst (λ n. v.sessions n ≡ Some row.session) a.2 row.is)

    counted : row.session.counted ≡ true
    counted = sym (ap (λ (x : Session A). x.counted) same) ∙ (kept.sessions o.number mine.session mine.is).read mine.read

    placed : (d : Conn A) × (v.conns k ≡ Some d) × (session_on d ≡ Some a.0.number) × (row.session.counted ≡ true → GoesUp d row.session)
    placed = subst (λ x. IsPlaced v.conns a.0 row.session x) a.3 row.placed

    goes : GoesUp c row.session
    goes = subst (λ x. GoesUp x row.session) (some_one (v.conns k) placed.0 c placed.1 is) (placed.3 counted)

    is_open : row.session.up.is_open ≡ true
    is_open = goes.is_open ∙ ap (λ b. b && sends c.client) flows ∙ ap sends online
