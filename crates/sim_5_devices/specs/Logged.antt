-- A client that is online beside the reading of the applications, and what it does on a stanza of the server.
use Rattle.std.specs.Prelude.{◌≡◌, ℕ, ◌+◌, ◌<◌, ◌^◌, min, true, false, List, [], ◌∷◌, Option, Some, None}
use Rattle.std.specs.Option.{IfSome, option_map_or}
use Rattle.mam_archive.specs.Entries.{EntryView}
use Rattle.cl_handlers.specs.Clients.{ClientStep}
use Rattle.cl_handlers.specs.declared.phase.Phase.TheVariants.{Apart, Online}
use Rattle.sim_3_items.specs.Labels.{Reads, says_all}
use Rattle.sim_3_items.specs.Reading.{noted}
use Rattle.sim_3_items.specs.Meant.{Fits, requested}
use Rattle.sim_3_items.specs.ItemWorlds.{ItemDevice}
use Rattle.sim_5_devices.specs.Shown.{IsReadingGiven, LogRepresents}
use Rattle.sm_outbox.specs.Sessions.{SessionView, with_waiting}
use Rattle.sm_outbox.specs.Waiting.{Waiting, counted_in, is_full, queued}
use Rattle.cmd_report.specs.Addresses.{bare_address}
use Rattle.cmd_schedule.specs.Contents.{Owned}
use Rattle.cmd_schedule.specs.Grammar.{is_name}
use Rattle.sim_3_items.specs.Built.{IsUpAs}
use Rattle.sim_1_applications.specs.Devices.{OpenPage, Reading}
use Rattle.sim_1_applications.specs.Events.{Around, Reaction}
use Rattle.sim_1_applications.specs.Stanzas.{Down, Fin, Query, Request}
use Rattle.xml_writer.specs.Items.{ItemOut}

-- ---- before the stanza

-- The device has names of a schedule, and its client is online in a session. The client's log shows the reading, and
-- pages have numbers of 64 bits.
pub record IsOnline (o : Owned) (keep : ℕ) (history : List EntryView) (d : ItemDevice) (s : SessionView ItemOut) (b : Reading) : Type 0 where
  pub account_named : is_name o.account ≡ true
  pub device_named : is_name o.device ≡ true
  pub bare : d.client.account.bare ≡ bare_address o.account
  pub online : d.client.phase ≡ Online
  pub session : d.client.session ≡ Some s
  pub log : LogRepresents keep history d.client.log b
  pub given : IsReadingGiven history b
  pub pages : d.client.pages ≡ b.asked
  pub more : b.asked + 1 < 2 ^ 64
  pub most : IfSome b.page (λ page. Fits page.max)

-- a session that has to put a request has place for it
abbrev pub HasRoomFor : SessionView ItemOut → Option Request → Type 0
HasRoomFor s request = IfSome request (λ r. is_full s.waiting ≡ false)

-- the end of a page tells how many entries the archive kept when it answered, or keeps, where it isn't known when that was
abbrev pub IsCountOf : ℕ → Around → OpenPage → ℕ → Type 0
IsCountOf keep a page count = count ≡ min (option_map_or (λ answer. answer.last) page.answer a.last) keep

abbrev pub IsCounted : ℕ → Around → Option OpenPage → Down → Type 0
IsCounted keep a (Some page) (Fin q complete last count) = IsCountOf keep a page count
IsCounted keep a _ _ = Unit {0}

-- ---- behind it

-- the request of a reaction, as it is put
abbrev pub puts_of : Option Request → List ItemOut
puts_of None = []
puts_of (Some r) = requested r ∷ []

-- a stanza more is counted, and the request waits
abbrev pub waits_after : Waiting ItemOut → Option Request → Waiting ItemOut
waits_after w None = counted_in w
waits_after w (Some r) = queued (counted_in w) (requested r) false

pub record IsReadAs (o : Owned) (keep : ℕ) (history : List EntryView) (d : ItemDevice) (s : SessionView ItemOut) (z : ItemOut) (x : Reaction) (t : ClientStep ItemOut ItemOut) : Type 0 where
  -- the log shows the reading of the reaction, whose pages are those that were asked for
  pub log : LogRepresents keep history t.client.log x.reading
  pub given : IsReadingGiven history x.reading
  pub pages : t.client.pages ≡ x.reading.asked
  -- what else the client has it has still
  pub account : t.client.account ≡ d.client.account
  pub said : t.client.said ≡ d.client.said
  pub epoch : t.client.epoch ≡ d.client.epoch
  pub n : t.client.n ≡ d.client.n
  pub phase : t.client.phase ≡ Online
  pub session : t.client.session ≡ Some (with_waiting s (waits_after s.waiting x.request))
  -- it read the stanza, and then put the request
  pub noted : noted t.out.notes ≡ Reads z ∷ says_all (puts_of x.request)
  pub request : IfSome x.request (λ r. IsUpAs o (Query r) (requested r))

-- What a client does that has to put a request, and as many stanzas wait in its session as may: it leaves the connection,
-- and keeps the session. Its log shows the reading of the reaction, but that no page is open.
pub record IsLeftAs (keep : ℕ) (history : List EntryView) (d : ItemDevice) (s : SessionView ItemOut) (z : ItemOut) (x : Reaction) (t : ClientStep ItemOut ItemOut) : Type 0 where
  pub log : LogRepresents keep history t.client.log (record x.reading { page = None })
  pub given : IsReadingGiven history (record x.reading { page = None })
  pub account : t.client.account ≡ d.client.account
  pub said : t.client.said ≡ d.client.said
  pub epoch : t.client.epoch ≡ d.client.epoch
  pub n : t.client.n ≡ d.client.n
  pub pages : t.client.pages ≡ d.client.pages
  pub phase : t.client.phase ≡ Apart
  pub session : t.client.session ≡ Some (with_waiting s (counted_in s.waiting))
  pub noted : noted t.out.notes ≡ Reads z ∷ []
