-- Which stanzas moves of the links put and handle, and what becomes of the client's session: in their order. What else they
-- do is no label. And with which of these stanzas the client puts a request for a count.
use Rattle.std.specs.Prelude.{◌≡◌, ◌⊎◌, ℕ, Bool, true, false, List, [], ◌∷◌, ◌++◌, map}
use Rattle.sim_3_items.specs.Ups.{up_stanza}
use Rattle.sim_2_links.specs.Machine.{Forgets, Keeps, LinkMove, Puts, Queues, ReadsBound, ReadsCount, ReadsEnabled, ReadsFailed, ReadsResumed, ReadsStanza, Requests, Serves, TakesStanza}
use Rattle.sim_1_applications.specs.Stanzas.{Up}
use Rattle.sim_1_applications.specs.Stanzas.Up.{Message, Query}
use Rattle.xml_writer.specs.Items.{ItemOut}

pub data Label (A : Type 0) : Type 0 where
  -- the client puts it, and the server handles it
  Says : A → Label A
  Takes : A → Label A
  -- the server puts it, and the client handles it
  Gives : A → Label A
  Reads : A → Label A
  -- the client reads that a session was bound, and that it is counted (RFC 6120, section 7; XEP-0198, section 3)
  Names : Label A
  Enters : Label A
  -- it learns how many of its stanzas were handled (XEP-0198, section 4)
  Learns : Label A
  -- it gives its session up, where it has one
  Drops : Label A

abbrev pub label_of : {A : Type 0} → LinkMove A → List (Label A)
label_of (Puts k z) = Says z ∷ []
label_of (Queues z) = Says z ∷ []
label_of (TakesStanza k z) = Takes z ∷ []
label_of (Serves k z) = Gives z ∷ []
label_of (Keeps z) = Gives z ∷ []
label_of (ReadsStanza k z) = Reads z ∷ []
label_of (ReadsBound k m) = Names ∷ []
label_of (ReadsEnabled k m) = Enters ∷ []
label_of (ReadsCount k h) = Learns ∷ []
label_of (ReadsResumed k) = Learns ∷ []
label_of (ReadsFailed k) = Drops ∷ []
label_of Forgets = Drops ∷ []
label_of _ = []

abbrev pub labels_of : {A : Type 0} → List (LinkMove A) → List (Label A)
labels_of [] = []
labels_of (move ∷ moves) = label_of move ++ labels_of moves

abbrev pub gives_all : {A : Type 0} → List A → List (Label A)
gives_all zs = map Gives zs

abbrev pub says_all : {A : Type 0} → List A → List (Label A)
says_all zs = map Says zs

-- the client says nothing
abbrev pub SaysNothing : {A : Type 0} → List (Label A) → Type 0
SaysNothing [] = Unit {0}
SaysNothing (Says z ∷ labels) = ⊥
SaysNothing (_ ∷ labels) = SaysNothing labels

-- ---- stanzas that are awaited

-- a message, or a request for a page
abbrev pub is_awaited : Up → Bool
is_awaited (Message m) = true
is_awaited (Query r) = true
is_awaited _ = false

abbrev pub awaits : ItemOut → Bool
awaits z = is_awaited (up_stanza z)

-- the first of the moves is a request on this connection
abbrev pub IsAskedAt : ℕ → List (LinkMove ItemOut) → Type 0
IsAskedAt k moves = (rest : List (LinkMove ItemOut)) × (moves ≡ Requests k ∷ rest)

-- behind such a stanza that goes out the client puts a request at once
abbrev pub IsPromptBefore : List (LinkMove ItemOut) → LinkMove ItemOut → Type 0
IsPromptBefore moves (Puts k z) = (awaits z ≡ false) ⊎ IsAskedAt k moves
IsPromptBefore moves _ = Unit {0}

abbrev pub ArePrompt : List (LinkMove ItemOut) → Type 0
ArePrompt [] = Unit {0}
ArePrompt (move ∷ moves) = IsPromptBefore moves move × ArePrompt moves
