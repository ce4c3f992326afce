-- How long the client's queue grows, where it asks for a history page by page.
use Rattle.std.specs.Prelude.{◌≡◌, ℕ, ◌+◌, ◌≤◌, Bool, true, false, List, [], ◌∷◌, length, take, Some}
use Rattle.sim_2_links.specs.Words.{St, Req, Ack, UpWord, Up, DownWord, Resumed, Down}
use Rattle.sim_2_links.specs.Wires.{Wires, is_flowing, up_words, down_words}
use Rattle.sim_2_links.specs.Views.{Session, Row, Own, View}
use Rattle.sim_2_links.specs.Machine.{Puts, Queues, Serves, Keeps, nothing_yet}
use Rattle.sim_2_links.specs.Covers.{PromptMove, Does, Says, PromptMoves}

-- which stanzas ask for a page of a history, and which end one (XEP-0313, section 4); and how many stanzas may wait in
-- the client's queue before it takes no more of its user's
pub record Paging (A : Type 0) : Type 0 where
  pub asks : A → Bool
  pub ends : A → Bool
  pub most : ℕ

abbrev pub one_if : Bool → ℕ
one_if true = 1
one_if false = 0

-- how many of the stanzas are such
abbrev pub many : {A : Type 0} → (A → Bool) → List A → ℕ
many test [] = 0
many test (z ∷ zs) = one_if (test z) + many test zs

-- what the client put in a session and the server handled of it, how much is acknowledged, and what the client handled
pub record Course (A : Type 0) : Type 0 where
  pub put : List A
  pub got : List A
  pub acked : ℕ
  pub heard : List A

abbrev pub course_of : {A : Type 0} → Session A → Course A
course_of s = record { put = s.up.put; got = s.up.got; acked = s.up.acked; heard = s.down.got }

-- When an end puts a stanza of a session. The client asks for a page where each page for which it asked before has come
-- to its end; it puts any other stanza while fewer than so many wait.
pub record MayPut {A : Type 0} (p : Paging A) (v : View A) (z : A) : Type 0 where
  pub room : p.asks z ≡ false → (o : Own A) → v.own ≡ Some o → length o.queue + 1 ≤ p.most
  pub ended : p.asks z ≡ true → (o : Own A) (s : Session A) → v.own ≡ Some o → v.sessions o.number ≡ Some s → many p.asks s.up.put ≤ many p.ends s.down.got

-- The server ends a page where it handled a request that has none yet.
abbrev pub MayServe : {A : Type 0} → Paging A → View A → A → Type 0
MayServe {A = A} p v z = p.ends z ≡ true → (r : Row A) (s : Session A) → v.row ≡ Some r → v.sessions r.number ≡ Some s → many p.ends s.down.put + 1 ≤ many p.asks s.up.got

abbrev pub MayPage : {A : Type 0} → Paging A → PromptMove A → View A → Type 0
MayPage p (Says k z) v = MayPut p v z
MayPage p (Does (Puts k z)) v = MayPut p v z
MayPage p (Does (Queues z)) v = MayPut p v z
MayPage p (Does (Serves k z)) v = MayServe p v z
MayPage p (Does (Keeps z)) v = MayServe p v z
MayPage p _ v = Unit {0}

-- behind a request for a page the client puts one for a count at once
abbrev pub PagingMoves : {A : Type 0} → Paging A → PromptMove A → View A → View A → Type 0
PagingMoves p move v next = MayPage p move v × PromptMoves p.asks move v next

abbrev pub PagingReaches : {A : Type 0} → Paging A → List (PromptMove A) → View A → View A → Type 0
PagingReaches p [] v last = last ≡ v
PagingReaches {A = A} p (move ∷ moves) v last = (next : View A) × PagingMoves p move v next × PagingReaches p moves next last

-- some such moves lead to the view from the beginning
pub record PagingReached {A : Type 0} (p : Paging A) (v : View A) : Type 0 where
  pub moves : List (PromptMove A)
  pub reaches : PagingReaches p moves nothing_yet v

-- What is still to come. Behind a word that the client reads so many of its requests are acknowledged, and so many
-- pages have come to their ends; it reads an end only where the requests of all pages that ended before are acknowledged.
abbrev pub covered_at : {A : Type 0} → Paging A → List A → ℕ → DownWord A → ℕ
covered_at p put m (Down (Ack n)) = many p.asks (take n put)
covered_at p put m (Resumed q n) = many p.asks (take n put)
covered_at p put m _ = m

abbrev pub ended_at : {A : Type 0} → Paging A → DownWord A → ℕ
ended_at p (Down (St z)) = one_if (p.ends z)
ended_at p _ = 0

abbrev pub IsReadInTime : {A : Type 0} → Paging A → ℕ → ℕ → DownWord A → Type 0
IsReadInTime p m e (Down (St z)) = p.ends z ≡ true → e ≤ m
IsReadInTime p m e _ = Unit {0}

abbrev pub AreReadInTime : {A : Type 0} → Paging A → List A → ℕ → ℕ → List (DownWord A) → Type 0
AreReadInTime p put m e [] = Unit {0}
AreReadInTime p put m e (w ∷ ws) = IsReadInTime p m e w × AreReadInTime p put (covered_at p put m w) (e + ended_at p w) ws

-- so many are acknowledged behind all words that are under way
abbrev pub covered : {A : Type 0} → Paging A → List A → ℕ → List (DownWord A) → ℕ
covered p put m [] = m
covered p put m (w ∷ ws) = covered p put (covered_at p put m w) ws

-- Behind a word that the server takes so many requests will be acknowledged by what is under way, and so many were
-- handled; it takes a request only where all that it handled before will be.
abbrev pub covered_up : {A : Type 0} → ℕ → ℕ → UpWord A → ℕ
covered_up m h (Up Req) = h
covered_up m h _ = m

abbrev pub asked_at : {A : Type 0} → Paging A → UpWord A → ℕ
asked_at p (Up (St z)) = one_if (p.asks z)
asked_at p _ = 0

abbrev pub IsTakenInTime : {A : Type 0} → Paging A → ℕ → ℕ → UpWord A → Type 0
IsTakenInTime p m h (Up (St z)) = p.asks z ≡ true → h ≤ m
IsTakenInTime p m h _ = Unit {0}

abbrev pub AreTakenInTime : {A : Type 0} → Paging A → ℕ → ℕ → List (UpWord A) → Type 0
AreTakenInTime p m h [] = Unit {0}
AreTakenInTime p m h (w ∷ ws) = IsTakenInTime p m h w × AreTakenInTime p (covered_up m h w) (h + asked_at p w) ws

abbrev pub all_asked : {A : Type 0} → Paging A → List (UpWord A) → ℕ
all_asked p [] = 0
all_asked p (w ∷ ws) = asked_at p w + all_asked p ws

-- so many will be acknowledged once the server has taken all words
abbrev pub covered_in : {A : Type 0} → Paging A → ℕ → ℕ → List (UpWord A) → ℕ
covered_in p m h [] = m
covered_in p m h (w ∷ ws) = covered_in p (covered_up m h w) (h + asked_at p w) ws

-- how many of the client's requests are acknowledged, also behind all that is under way to it
abbrev pub asked_now : {A : Type 0} → Paging A → Course A → ℕ
asked_now p t = many p.asks (take t.acked t.put)

abbrev pub asked_then : {A : Type 0} → Paging A → Wires A → Course A → ℕ
asked_then p x t = covered p t.put (asked_now p t) (down_words x)

-- on the connection that the client works on: the ends of pages come in time, and where it flows the requests do; at
-- most one request was handled that no count under way acknowledges
pub record IsNearInTime {A : Type 0} (p : Paging A) (x : Wires A) (t : Course A) : Type 0 where
  pub read : AreReadInTime p t.put (asked_now p t) (many p.ends t.heard) (down_words x)
  pub taken : is_flowing x ≡ true → AreTakenInTime p (asked_then p x t) (many p.asks t.got) (up_words x)
  pub handled : is_flowing x ≡ true → many p.asks t.got ≤ asked_then p x t + 1

-- and all requests under way will be acknowledged
pub record IsInTime {A : Type 0} (p : Paging A) (x : Wires A) (t : Course A) : Type 0 where
  pub near : IsNearInTime p x t
  pub last : is_flowing x ≡ true → many p.asks t.got + all_asked p (up_words x) ≤ covered_in p (asked_then p x t) (many p.asks t.got) (up_words x)

-- The queue has no more stanzas than its user may put, and the requests in it. These are at most two, of which at most
-- one is of a page that ended.
pub record IsShort {A : Type 0} (p : Paging A) (o : Own A) (s : Session A) : Type 0 where
  pub queue : length o.queue ≤ p.most + many p.asks o.queue
  pub requests : many p.asks o.queue ≤ 2
  pub over : many p.ends s.down.got ≤ many p.asks (take o.acked s.up.put) + 1
  pub bound : length o.queue ≤ p.most + 2
