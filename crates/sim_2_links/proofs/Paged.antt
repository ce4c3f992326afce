-- What the moves keep of pages: of each session, of the client's connection and of its queue.
use Rattle.std.proofs.Common.{◌≡◌, ◌≢◌, ℕ, ◌+◌, ◌≤◌, true, false, List, length, sym, ap, ◌∙◌, subst, Option, None, Some, []}
use Rattle.sim_2_links.proofs.Entries.{Entry, New, Old, entry, was, is_has}
use Rattle.sim_2_links.proofs.CutLinks.{some_one, some_same}
use Rattle.sim_2_links.proofs.UncountedEnds.{carried_holds}
use Rattle.sim_2_links.specs.Wires.{is_flowing, send_down, send_up, left_up, left_down}
use Rattle.sim_2_links.specs.Stages.{Stands, Conn}
use Rattle.sim_2_links.specs.Views.{Table, with_at, alter, has, Session, Row, Own, View, carries}
use Rattle.sim_2_links.specs.Links.{ConnKept, LinkKept}
use Rattle.sim_2_links.specs.Paging.{Paging, many, Course, course_of, asked_now, IsInTime}
use Rattle.sim_2_links.specs.Words.{UpWord, DownWord}

-- the server ends no page that was not asked for; the client asks for one page after the other; and at most one request
-- that is not acknowledged is of a page that ended
pub record IsPaged {A : Type 0} (p : Paging A) (ends : List A) (t : Course A) : Type 0 where
  pub served : many p.ends ends ≤ many p.asks t.got
  pub asked : many p.asks t.put ≤ many p.ends t.heard + 1
  pub over : many p.ends t.heard ≤ asked_now p t + 1

abbrev pub PagesKept : {A : Type 0} → Paging A → Table (Session A) → Type 0
PagesKept {A = A} p sessions = (q : ℕ) (s : Session A) → sessions q ≡ Some s → IsPaged p s.down.put (course_of s)

abbrev pub TimeKept : {A : Type 0} → Paging A → View A → Type 0
TimeKept {A = A} p v = (n q : ℕ) (c : Conn A) (s : Session A) → v.here ≡ Some n → v.conns n ≡ Some c → carries c ≡ Some q → v.sessions q ≡ Some s → IsInTime p c.wires (course_of s)

abbrev pub RoomKept : {A : Type 0} → Paging A → Option (Own A) → Type 0
RoomKept {A = A} p own = (o : Own A) → own ≡ Some o → length o.queue ≤ p.most + many p.asks o.queue

pub record PagingKept {A : Type 0} (p : Paging A) (v : View A) : Type 0 where
  pub pages : PagesKept p v.sessions
  pub time : TimeKept p v
  pub room : RoomKept p v.own

-- sessions that change each by itself

-- ---- statements: the connection `new` stands at k now, and f changed the sessions

abbrev pub PagesAfter : {A : Type 0} → Paging A → View A → (ℕ → Session A → Session A) → Type 0
PagesAfter {A = A} p v f = (q : ℕ) (s : Session A) → v.sessions q ≡ Some s → IsPaged p s.down.put (course_of s) → IsPaged p (f q s).down.put (course_of (f q s))

abbrev pub InTimeAfter : {A : Type 0} → Paging A → ℕ → Conn A → View A → (ℕ → Session A → Session A) → Type 0
InTimeAfter {A = A} p k new v f = (q : ℕ) (t : Session A) → v.here ≡ Some k → carries new ≡ Some q → alter f v.sessions q ≡ Some t → IsInTime p new.wires (course_of t)

-- the server took a word and says nothing, or the client
abbrev pub InTimeAsTaken : {A : Type 0} → Paging A → ℕ → Conn A → List (UpWord A) → View A → (ℕ → Session A → Session A) → Type 0
InTimeAsTaken p k c rest v f = InTimeAfter p k (record c { wires = send_down [] (left_up rest c.wires) }) v f

abbrev pub InTimeAsRead : {A : Type 0} → Paging A → ℕ → Conn A → List (DownWord A) → View A → (ℕ → Session A → Session A) → Type 0
InTimeAsRead p k c rest v f = InTimeAfter p k (record c { wires = send_up [] (left_down rest c.wires) }) v f

pub pages_by : {A : Type 0} (p : Paging A) (f : ℕ → Session A → Session A) (sessions : Table (Session A)) →
    ((q : ℕ) (s : Session A) → sessions q ≡ Some s → IsPaged p s.down.put (course_of s) → IsPaged p (f q s).down.put (course_of (f q s))) → PagesKept p sessions → PagesKept p (alter f sessions)
pages_by p f sessions keeps pages q t is = let w = was f sessions q t is in subst (λ x. IsPaged p x.down.put (course_of x)) w.2 (keeps q w.0 w.1 (pages q w.0 w.1))

-- the connection that the client works on, where another one changes
abbrev pub Others : {A : Type 0} → Paging A → View A → Table (Session A) → ℕ → Type 0
Others {A = A} p v sessions k = (n q : ℕ) (c : Conn A) (t : Session A) → v.here ≡ Some n → k ≢ n → v.conns n ≡ Some c → carries c ≡ Some q → sessions q ≡ Some t → IsInTime p c.wires (course_of t)

pub others_by : {A : Type 0} (p : Paging A) (f : ℕ → Session A → Session A) (v : View A) (k : ℕ) →
    ((n q : ℕ) (c : Conn A) (s : Session A) → v.here ≡ Some n → k ≢ n → v.conns n ≡ Some c → carries c ≡ Some q → v.sessions q ≡ Some s → IsInTime p c.wires (course_of s) → IsInTime p c.wires (course_of (f q s))) → TimeKept p v → Others p v (alter f v.sessions) k
others_by p f v k keeps time n q c t here ne found carried is =
    let w = was f v.sessions q t is in
    subst (λ x. IsInTime p c.wires (course_of x)) w.2 (keeps n q c w.0 here ne found carried w.1 (time n q c w.0 here found carried w.1))

pub others_same : {A : Type 0} (p : Paging A) (v : View A) (k : ℕ) → TimeKept p v → Others p v v.sessions k
others_same p v k time n q c t here ne found carried is = time n q c t here found carried is

pub no_others : {A : Type 0} (p : Paging A) (v : View A) (sessions : Table (Session A)) (k : ℕ) → v.here ≡ Some k → Others p v sessions k
no_others p v sessions k here_k n q c t here ne found carried is = absurd (ne (some_same k n (sym here_k ∙ here)))

abbrev pub This : {A : Type 0} → Paging A → View A → Table (Session A) → ℕ → Conn A → Type 0
This {A = A} p v sessions k new = (q : ℕ) (t : Session A) → v.here ≡ Some k → carries new ≡ Some q → sessions q ≡ Some t → IsInTime p new.wires (course_of t)

-- a connection changes
pub time_with : {A : Type 0} (p : Paging A) (v : View A) (k : ℕ) (new : Conn A) (row : Option (Row A)) (own : Option (Own A)) (epoch : ℕ) (sessions : Table (Session A)) (free : ℕ) → Others p v sessions k → This p v sessions k new →
    TimeKept p (record v { conns = with_at k new v.conns; row = row; own = own; epoch = epoch; sessions = sessions; free = free })
time_with {A = A} p v k new row own epoch sessions free others this n q c t here found carried is = by (entry k new v.conns n c found)
  where
    by : Entry k new v.conns n c → IsInTime p c.wires (course_of t)
    by (New same one) = subst (λ (x : Conn A). IsInTime p x.wires (course_of t)) one (this q t (here ∙ ap Some (sym same)) (ap carries one ∙ carried) is)
    by (Old ne there) = others n q c t here ne there carried is

-- one that carries no session now, or that the client left

pub bare_this : {A : Type 0} (p : Paging A) (v : View A) (sessions : Table (Session A)) (k : ℕ) (new : Conn A) → carries new ≡ None → This p v sessions k new
bare_this p v sessions k new bare q t here carried is = absurd (let no_way : ⊥ = cc in no_way)

pub left_this : {A : Type 0} (p : Paging A) (v : View A) (sessions : Table (Session A)) (k : ℕ) (new : Conn A) → has v.here k ≡ false → This p v sessions k new
left_this p v sessions k new left q t here carried is = absurd (let works : has v.here k ≡ true = is_has v.here k here in let no_way : ⊥ = cc in no_way)

-- where the client's connection flows and carries a session, the server has that one there
pub flowing_row : {A : Type 0} (v : View A) (k p : ℕ) (c : Conn A) → LinkKept v → v.conns k ≡ Some c → carries c ≡ Some p → is_flowing c.wires ≡ true → (r : Row A) × (v.row ≡ Some r) × (r.number ≡ p) × (r.on ≡ Some k)
flowing_row {A = A} v k p c kept is carried flows =
    let old : ConnKept v k c = kept.conns k c is in
    let f : (has v.here k ≡ true) × (c.ending ≡ Stands) × (c.gone ≡ false) = old.piped.flowing flows in
    old.attached p (carried_holds old.stage c p old.at carried f.1 f.2)

-- the server has no session on two connections
pub not_flowing : {A C : Type 0} (v : View A) (k n p : ℕ) (c : Conn A) (r : Row A) → LinkKept v → v.row ≡ Some r → r.on ≡ Some k → k ≢ n → v.conns n ≡ Some c → carries c ≡ Some p → is_flowing c.wires ≡ true → C
not_flowing {A = A} v k n p c r kept is_row on ne is carried flows =
    let a = flowing_row v n p c kept is carried flows in
    let on_n : r.on ≡ Some n = subst (λ (x : Row A). x.on ≡ Some n) (some_one v.row a.0 r a.1 is_row) a.3 in
    absurd (ne (some_same k n (sym on ∙ on_n)))
