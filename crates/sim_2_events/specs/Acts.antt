-- Each event that the links tell, as an act of the two applications with its premise, and as what it does to the lists.
use Rattle.std.specs.Prelude.{◌≡◌, ℕ, true, List, [], ◌∷◌, Option, None, Some}
use Rattle.sim_2_links.specs.Views.{has}
use Rattle.sim_2_links.specs.Events.{Seen, LinkEvent, Bound, Named, Counted, Known, Ended, Dropped, Said, Handled, Served, Heard, Learned, after}
use Rattle.sim_1_applications.specs.Stanzas.{Up, Down}
use Rattle.sim_1_applications.specs.Devices.{Sessions, Device}
use Rattle.sim_1_applications.specs.Events.{Act, May, binds, reads_bound, counts, end_row, goes_offline, put_up, put_down, moved_up, moved_down, acknowledged}
use Rattle.sim_1_applications.specs.Events.Act.{Bind, ReadBound, Enable, ReadEnabled, End, Drop, Acknowledge, ServerHandles, ClientHandles}
use Rattle.sim_2_events.specs.Lists.{Stanzas, knows, IsCounting}

-- the act may happen at each device that has these sessions
abbrev pub MayAct : Act → Sessions → Type 0
MayAct act d = (w : Device) → w.sessions ≡ d → May act w

-- The first event of an act: the client's first two stanzas, the request that it puts as it takes the end of a page, and
-- what the server puts as it handles a stanza are events of their own (`Said`, `Served`), and so is the end of a session
-- whose queue is full.
abbrev pub IsAct : {A : Type 0} → Stanzas A → LinkEvent A → Seen A → Sessions → Sessions → Type 0
IsAct r (Bound m) v d next = MayAct Bind d × (next ≡ binds d)
IsAct r (Named m) v d next = MayAct (ReadBound (has v.live m)) d × (next ≡ reads_bound (has v.live m) d)
IsAct r (Counted p) v d next = MayAct Enable d × (next ≡ counts d)
IsAct r (Known p) v d next = MayAct ReadEnabled d × (next ≡ knows d)
IsAct r (Ended p) v d next = MayAct End d × (next ≡ end_row d)
IsAct r (Dropped p) v d next = MayAct Drop d × (next ≡ goes_offline d)
IsAct r (Said p z) v d next = (d.online ≡ true) × (next ≡ put_up (r.up z) d)
IsAct r (Handled p z) v d next = (rest : List Up) × (d.now.up_rest ≡ r.up z ∷ rest) × ((fits : ℕ) (full : List ℕ) → MayAct (ServerHandles fits full) d) × (next ≡ moved_up (r.up z) rest d)
IsAct r (Served p z) v d next = IsCounting d × (next ≡ put_down (r.down z ∷ []) d)
IsAct r (Heard p z) v d next = (rest : List Down) × (d.now.down_rest ≡ r.down z ∷ rest) × MayAct ClientHandles d × (next ≡ moved_down (r.down z) rest d)
IsAct r (Learned p n) v d next = MayAct (Acknowledge n) d × (next ≡ acknowledged n d)

-- nothing happens, or one event does
abbrev pub AreActs : {A : Type 0} → Stanzas A → Option (LinkEvent A) → Seen A → Sessions → Sessions → Type 0
AreActs r None v d next = next ≡ d
AreActs r (Some e) v d next = IsAct r e v d next

-- the acts of these events come, one after the other, and lead from the one to the other
abbrev pub ActsLead : {A : Type 0} → Stanzas A → List (LinkEvent A) → Seen A → Sessions → Sessions → Type 0
ActsLead r [] v d last = last ≡ d
ActsLead r (e ∷ es) v d last = (next : Sessions) × IsAct r e v d next × ActsLead r es (after e v) next last
