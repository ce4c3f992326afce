-- Labels of a device's sessions that keep its links in time (`PagingReached` of `sim_2_links`): the user's stanzas are
-- put while few wait, the client asks for a page where those before have come to their ends, and the server ends only
-- pages that were asked for.
use Rattle.std.specs.Prelude.{◌+◌, ◌≤◌, Bool, true, false, List, [], ◌∷◌, ◌++◌, drop, length}
use Rattle.sim_3_items.specs.Labels.{Gives, Label, Names, Reads, Says, Takes}
use Rattle.sim_3_items.specs.Downs.{down_stanza}
use Rattle.sim_3_items.specs.Ups.{up_stanza}
use Rattle.sim_2_links.specs.Paging.{Paging, many}
use Rattle.sim_1_applications.specs.Devices.{Session, fresh, up_put}
use Rattle.sim_1_applications.specs.Stanzas.{Down, Fin, NotFound, Query, Up}
use Rattle.xml_writer.specs.Items.{ItemOut}

-- ---- requests for pages, and their ends (XEP-0313, section 4)

abbrev pub is_query : Up → Bool
is_query (Query r) = true
is_query _ = false

abbrev pub is_end : Down → Bool
is_end (Fin q complete last count) = true
is_end (NotFound q) = true
is_end _ = false

-- so many of its user's stanzas may wait
abbrev pub paging_here : Paging ItemOut
paging_here = record { asks = λ z. is_query (up_stanza z); ends = λ z. is_end (down_stanza z); most = 1000 }

-- ---- when a stanza is put

-- by the client: the user's while few wait; a request where each page that was asked for in this session has ended
abbrev pub MaySay : Up → Session → Type 0
MaySay (Query r) s = many is_query (up_put s) ≤ many is_end s.down_got
MaySay x s = length (drop s.acked (up_put s)) + 1 ≤ 1000

-- by the server: an end where a request is without one
abbrev pub MayEnd : Session → Type 0
MayEnd s = many is_end (s.down_got ++ s.down_rest) + 1 ≤ many is_query s.up_got

abbrev pub MayGive : Down → Session → Type 0
MayGive (Fin q complete last count) s = MayEnd s
MayGive (NotFound q) s = MayEnd s
MayGive x s = Unit {0}

-- ---- labels, one behind the other, of the present session

abbrev pub taken_by : Up → Session → Session
taken_by x s = record s { up_got = s.up_got ++ x ∷ []; up_rest = drop 1 s.up_rest }

abbrev pub read_by : Down → Session → Session
read_by x s = record s { down_got = s.down_got ++ x ∷ []; down_rest = drop 1 s.down_rest }

abbrev pub AreInTime : List (Label ItemOut) → Session → Type 0
AreInTime [] s = Unit {0}
AreInTime (Says z ∷ ds) s = MaySay (up_stanza z) s × AreInTime ds (record s { up_rest = s.up_rest ++ up_stanza z ∷ [] })
AreInTime (Takes z ∷ ds) s = AreInTime ds (taken_by (up_stanza z) s)
AreInTime (Gives z ∷ ds) s = MayGive (down_stanza z) s × AreInTime ds (record s { down_rest = s.down_rest ++ down_stanza z ∷ [] })
AreInTime (Reads z ∷ ds) s = AreInTime ds (read_by (down_stanza z) s)
AreInTime (Names ∷ ds) s = AreInTime ds fresh
AreInTime (x ∷ ds) s = AreInTime ds s
