-- What the server does, to the submissions of a client's sessions, and to the reading of its log.
use Rattle.std.proofs.Common.{◌≡◌, ℕ, ◌==◌, Bool, true, false, List, [], ◌∷◌, ◌++◌, Option, Some, None, map, drop, length, refl, sym, ap, ap₂, subst, ◌∙◌, append_assoc, if◌then◌else◌}
use Rattle.std.specs.Option.{option_map}
use Rattle.mam_archive.specs.Entries.{EntryView}
use Rattle.cl_handlers.specs.Clients.{ClientView}
use Rattle.mam_log.specs.Views.{LogView}
use Rattle.sim_5_devices.specs.Shown.{AreGiven, ArePageGiven, IsReadingGiven, LogRepresents, page_shown}
use Rattle.sm_outbox.specs.Sessions.{SessionView}
use Rattle.sm_outbox.specs.Submissions.{SaidView}
use Rattle.sim_3_items.specs.Submitted.{IsWaiting, SubmissionsRepresent, is_message, outstanding}
use Rattle.cmd_report.specs.declared.report.SaidMark.TheVariants.{Undecided, Waiting}
use Rattle.std.specs.List.{flat_map}
use Rattle.sim_1_applications.specs.Answers.{page_answer_of}
use Rattle.sim_1_applications.specs.Devices.{Device, OpenPage, Reading, Sessions, Take}
use Rattle.sim_1_applications.specs.Events.{Act, Around, Bind, Enable, End, ServerHandles, answered, hear, hear_all, hears_of, is_number_among, own, reading_served, served, told}
use Rattle.sim_1_applications.specs.Events as events
use Rattle.sim_1_applications.specs.Stanzas.{Carbons, Message, Presence, Query, Request, Up}
use Rattle.sim_1_applications.specs.Reported.{mark_of, said_among, said_in}
use Rattle.sim_5_devices.proofs.Lines.{lines_as}
use Rattle.sim_5_devices.specs.Told.{IsOfServer, SameUps}
use Rattle.xml_writer.specs.Items.{ItemOut}

-- ---- submissions

same_waits : (o : Option (SessionView ItemOut)) (said : SaidView) (d e : Sessions) → outstanding e ≡ outstanding d → IsWaiting o said d → IsWaiting o said e
same_waits None said d e same waits = waits
same_waits (Some s) said d e same waits = (waits.0 ∙ ap (lines_as Waiting) (sym same), waits.1 ∙ ap (map is_message) (sym same))

pub same_told : (c : ClientView ItemOut) (d e : Sessions) → SameUps d e → SubmissionsRepresent c d → SubmissionsRepresent c e
same_told c d e same represents = record {
  epoch = represents.epoch ∙ sym (ap (λ past. length past) same.past);
  n = represents.n ∙ sym same.n;
  online = same.online ∙ represents.online;
  said = represents.said ∙ (λ i. flat_map (said_in Undecided) (sym same.past i) ++ said_among (sym same.acked i) (mark_of (sym same.online i)) (sym same.put i));
  waiting = same_waits c.session c.said d e (ap₂ drop same.acked same.put) represents.waiting;
}

-- the next stanza is handled
served_same : (a : Around) (fits : ℕ) (zs : List Up) (x : Device) → x.sessions.now.up_rest ≡ zs → SameUps x.sessions (served a fits zs x).sessions
served_same a fits [] x is = record { past = refl; n = refl; online = refl; acked = refl; put = refl }
served_same a fits (z ∷ rest) x is = record {
  past = refl;
  n = refl;
  online = refl;
  acked = refl;
  put = append_assoc x.sessions.now.up_got (z ∷ []) rest ∙ ap (λ zs. x.sessions.now.up_got ++ zs) (sym is);
}

acts_same : (a : Around) (act : Act) (x : Device) → IsOfServer act → SameUps x.sessions (own a act x).sessions
acts_same a Bind x is = record { past = refl; n = refl; online = refl; acked = refl; put = refl }
acts_same a Enable x is = record { past = refl; n = refl; online = refl; acked = refl; put = refl }
acts_same a End x is = record { past = refl; n = refl; online = refl; acked = refl; put = refl }
acts_same a (ServerHandles fits full) x is = served_same a fits x.sessions.now.up_rest x refl
acts_same a (events.ReadBound live) x is = absurd is
acts_same a events.ReadEnabled x is = absurd is
acts_same a events.Drop x is = absurd is
acts_same a (events.Acknowledge n) x is = absurd is
acts_same a (events.Say to text private) x is = absurd is
acts_same a (events.CatchUp max) x is = absurd is
acts_same a events.ClientHandles x is = absurd is

pub acts_told : (c : ClientView ItemOut) (a : Around) (act : Act) (x : Device) → IsOfServer act → SubmissionsRepresent c x.sessions → SubmissionsRepresent c (own a act x).sessions
acts_told c a act x is represents = same_told c x.sessions (own a act x).sessions (acts_same a act x is) represents

-- takes are heard of
hear_same : (takes : List Take) (full : List ℕ) (t : Take) (j : ℕ) (x : Device) → SameUps x.sessions (hear takes full t j x).sessions
hear_same takes full t j x = record { past = refl; n = refl; online = refl; acked = refl; put = refl }

pub hears_told : (c : ClientView ItemOut) (takes new : List Take) (full : List ℕ) (j : ℕ) (x : Device) → SubmissionsRepresent c x.sessions → SubmissionsRepresent c (hear_all takes full new j x).sessions
hears_told c takes [] full j x represents = represents
hears_told c takes (t ∷ new) full j x represents = hears_told c takes new full j (hear takes full t j x) (same_told c x.sessions (hear takes full t j x).sessions (hear_same takes full t j x) represents)

-- ---- the reading

pub hears_nothing : (takes new : List Take) (full : List ℕ) (j : ℕ) (x : Device) → (hear_all takes full new j x).reading ≡ x.reading
hears_nothing takes [] full j x = refl
hears_nothing takes (t ∷ new) full j x = hears_nothing takes new full j (hear takes full t j x)

module _ (keep : ℕ) (history : List EntryView) (log : LogView) where
  abbrev Read : Reading → Type 0
  Read b = LogRepresents keep history log b × IsReadingGiven history b

  -- an answer is no part of what is shown of a page
  answer_unseen : (a : Around) (r : Request) (page : OpenPage) → (page_shown history (answered a r page) ≡ page_shown history page) × ((answered a r page).results ≡ page.results)
  answer_unseen a r page = by (page.number == r.number)
    where
      given : OpenPage
      given = record page { answer = Some (record { first = a.first; last = a.last; rest = page_answer_of a.first a.last r }) }

      by : (b : Bool) → (page_shown history (if b then given else page) ≡ page_shown history page) × ((if b then given else page).results ≡ page.results)
      by true = (refl, refl)
      by false = (refl, refl)

  page_unseen : (a : Around) (r : Request) (o : Option OpenPage) → ArePageGiven history o
      → (option_map (page_shown history) (option_map (answered a r) o) ≡ option_map (page_shown history) o) × ArePageGiven history (option_map (answered a r) o)
  page_unseen a r None given = (refl, tt)
  page_unseen a r (Some page) given =
      let same = answer_unseen a r page in
      (ap (λ p. Some p) same.0, subst (λ ns. AreGiven history ns) (sym same.1) given)

  served_read : (a : Around) (z : Up) (b : Reading) → Read b → Read (reading_served a z b)
  served_read a Carbons b read = read
  served_read a Presence b read = read
  served_read a (Message m) b read = read
  served_read a (Query r) b read =
      let same = page_unseen a r b.page read.1.page in (
        record { entries = read.0.entries; tiles = read.0.tiles; page = read.0.page ∙ sym same.0; held = read.0.held },
        record { logged = read.1.logged; page = same.1; held = read.1.held },
      )

  handled_read : (a : Around) (fits : ℕ) (zs : List Up) (x : Device) → Read x.reading → Read (served a fits zs x).reading
  handled_read a fits [] x read = read
  handled_read a fits (z ∷ rest) x read = served_read a z x.reading read

  pub acts_read : (a : Around) (act : Act) (x : Device) → IsOfServer act → Read x.reading → Read (own a act x).reading
  acts_read a Bind x is read = read
  acts_read a Enable x is read = read
  acts_read a End x is read = read
  acts_read a (ServerHandles fits full) x is read = handled_read a fits x.sessions.now.up_rest x read
  acts_read a (events.ReadBound live) x is read = absurd is
  acts_read a events.ReadEnabled x is read = absurd is
  acts_read a events.Drop x is read = absurd is
  acts_read a (events.Acknowledge n) x is read = absurd is
  acts_read a (events.Say to text private) x is read = absurd is
  acts_read a (events.CatchUp max) x is read = absurd is
  acts_read a events.ClientHandles x is read = absurd is
