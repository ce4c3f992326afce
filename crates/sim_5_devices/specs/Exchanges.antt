-- A catch-up over a session (XEP-0313, section 4; XEP-0059): the client's own requests, what the server's row sends for each,
-- and what the client's rows make of that.
use Rattle.std.specs.Prelude.{◌≡◌, ℕ, zero, suc, ◌+◌, ◌-◌, ◌<◌, ◌≤◌, ◌^◌, ◌⊎◌, nat_eq, nat_le, min, false, List, [], ◌∷◌, ◌++◌, Option, Some, None, IsSome, map, if◌then◌else◌}
use Rattle.mam_archive.specs.Ids.{id_of}
use Rattle.mam_log.specs.LogPages.{ids_of, last_id}
use Rattle.mam_log.specs.Views.{LogView, is_among}
use Rattle.mam_log.specs.declared.tile.Tile.{Tile}
use Rattle.mam_pages.specs.Spans.{IsNumbered, numbers_after}
use Rattle.sm_outbox.specs.Sessions.{SessionView}
use Rattle.sm_outbox.specs.Waiting.{is_full}
use Rattle.sm_live.specs.declared.told.SessionInfo.{SessionInfo}
use Rattle.im_requests.specs.Messages.{page_item, queryid_text}
use Rattle.im_stanza.specs.Readings.{stanza_of}
use Rattle.srv_state.specs.State.{Kept, ServerState, archive_at, bare_address, session_address}
use Rattle.srv_state.specs.Steps.{Act, Send}
use Rattle.srv_core.specs.Stanzas.{handling}
use Rattle.cl_core.specs.Steps.{items_run}
use Rattle.cl_handlers.specs.Clients.{ClientStep}
use Rattle.cl_handlers.specs.Speech.{in_items}
use Rattle.cl_handlers.specs.declared.phase.Phase.TheVariants.{Online}
use Rattle.cmd_direct.specs.Direct.{as_logged}
use Rattle.law_client.specs.CatchUps.{FollowFrom}
use Rattle.sim_1_applications.specs.Reported.{entries_at}
use Rattle.sim_3_items.specs.ItemWorlds.{itself, read_of}
use Rattle.sim_5_devices.specs.Plain.{IsPlain}
use Rattle.xml_writer.specs.Items.{Closing, ItemOut, Opening, Whole}

-- ---- one answer

-- what goes to the session with a number
abbrev pub sent_by : ℕ → Act ItemOut → List ItemOut
sent_by n (Send m z) = if nat_eq m n then z ∷ [] else []
sent_by n _ = []

abbrev pub all_sent : ℕ → List (Act ItemOut) → List ItemOut
all_sent n [] = []
all_sent n (act ∷ acts) = sent_by n act ++ all_sent n acts

-- what the server's row on a stanza of the session sends to that session
abbrev pub answers_to : ItemOut → SessionInfo → ServerState ItemOut → List ItemOut
answers_to (Whole e) t h = all_sent t.number (handling itself (stanza_of e) t h)
answers_to (Opening header) t h = []
answers_to Closing t h = []

-- the client takes them, in order
abbrev pub taken : ClientStep ItemOut ItemOut → List ItemOut → ClientStep ItemOut ItemOut
taken t zs = items_run in_items t (map read_of zs)

-- the stanza that the client put last, of those that wait in its session
abbrev pub last_of : List ItemOut → Option ItemOut
last_of [] = None
last_of (z ∷ []) = Some z
last_of (z ∷ y ∷ zs) = last_of (y ∷ zs)

abbrev pub last_put : Option (SessionView ItemOut) → Option ItemOut
last_put None = None
last_put (Some s) = last_of s.waiting.queue

-- ---- who they are

-- The server's session of the client: its addresses are the client's own, and the archive of its account keeps these entries.
pub record Serves (bare full : List ℕ) (kept : Kept) (t : SessionInfo) (h : ServerState ItemOut) : Type 0 where
  pub archive : archive_at t.account h ≡ Some kept
  pub bare_is : bare_address t.account h ≡ bare
  pub full_is : session_address t.number h ≡ full

-- a session stands that has place for a stanza more
pub record HasPlace (t : ClientStep ItemOut ItemOut) : Type 0 where
  pub session : SessionView ItemOut
  pub stands : t.client.session ≡ Some session
  pub position : is_full session.waiting ≡ false

-- The archive's entries are numbered from the first to the last, and are read as they are.
pub record IsArchive (first last : ℕ) (kept : Kept) : Type 0 where
  pub numbered : IsNumbered first last kept.entries
  pub fits : last < 2 ^ 64
  pub plain : IsPlain kept.entries

-- those that the log lacks are the ones behind this number
pub record Lacks (first last base : ℕ) (log : LogView) : Type 0 where
  pub follow : FollowFrom first last (last_id log.entries) base
  pub unlogged : (k : ℕ) → base < k → k ≤ last → is_among (id_of k) (ids_of log.entries) ≡ false

-- ---- a request

-- The client is online, and has asked by this stanza for the page behind its log's last entry.
pub record HasAsked (bare : List ℕ) (most : ℕ) (z : ItemOut) (t : ClientStep ItemOut ItemOut) : Type 0 where
  pub bare_is : t.client.account.bare ≡ bare
  pub online : t.client.phase ≡ Online
  pub page : t.client.log.page ≡ Some (record { queryid = queryid_text t.client.pages; max = most; after = last_id t.client.log.entries; results = [] })
  pub stanza : z ≡ page_item (queryid_text t.client.pages) (last_id t.client.log.entries) most

-- Between two answers the client may take other items, as counts, and the server may do other things: the log stays, and
-- the session has place still.
pub record Between (t u : ClientStep ItemOut ItemOut) : Type 0 where
  pub account : u.client.account ≡ t.client.account
  pub log : u.client.log ≡ t.client.log
  pub pages : u.client.pages ≡ t.client.pages
  pub online : u.client.phase ≡ Online
  pub position : HasPlace u

-- ---- all of them

-- So many answers lead from the request to the end of the catch-up: the server's row answers the stanza, and the client
-- takes what it sends. Then no page is open, and that is the end; or the client has put the next request, and goes on.
abbrev pub TakesAnswers : List ℕ → List ℕ → Kept → ℕ → ItemOut → ClientStep ItemOut ItemOut → ClientStep ItemOut ItemOut → Type 0
TakesAnswers bare full kept zero z t u = ⊥
TakesAnswers bare full kept (suc n) z t u =
    (told : SessionInfo) × (h : ServerState ItemOut) × (w : ClientStep ItemOut ItemOut) × Serves bare full kept told h × (w ≡ taken t (answers_to z told h))
    × (((w.client.log.page ≡ None) × (n ≡ 0) × (u ≡ w))
    ⊎ ((y : ItemOut) × (x : ClientStep ItemOut ItemOut) × IsSome w.client.log.page × (last_put w.client.session ≡ Some y) × Between w x × TakesAnswers bare full kept n y x u))

-- the tiles of so many pages behind a number, each of which says how many entries the archive has
abbrev pub tiles_behind : ℕ → ℕ → ℕ → ℕ → Option (List ℕ) → ℕ → List Tile
tiles_behind zero all last most after base = []
tiles_behind (suc n) all last most after base =
    record { after = after; count = min (last - base) most; complete = nat_le (last - base) most; total = all }
    ∷ tiles_behind n all last most (Some (id_of (base + most))) (base + most)

-- The log has the entries that it lacked, behind those that it had, in so many pages, and none is open.
pub record IsCaughtUp (first last base most n : ℕ) (kept : Kept) (old new : LogView) : Type 0 where
  pub entries : new.entries ≡ old.entries ++ map as_logged (entries_at kept.entries (numbers_after base (last - base)))
  pub tiles : new.tiles ≡ old.tiles ++ tiles_behind n (last - (first - 1)) last most (last_id old.entries) base
  pub page : new.page ≡ None
