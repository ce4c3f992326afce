-- Histories whose entries are read as they are.
use Rattle.std.specs.Prelude.{◌≡◌, ◌≤◌, true, List}
use Rattle.std.specs.List.{AllByRecursion}
use Rattle.mam_archive.specs.Entries.{EntryView}
use Rattle.sim_3_items.specs.Meant.{IsEntryNumber}
use Rattle.law_payloads.specs.AsRead.{last_moment}
use Rattle.cmd_schedule.specs.Contents.{Owned}
use Rattle.cmd_schedule.specs.Grammar.{is_name}
use Rattle.sim_1_applications.specs.Devices.{Take}
use Rattle.sim_1_applications.specs.Reported.{name_at}
use Rattle.im_stanza.specs.Written.{IsNormal, unless_empty}

-- It has a number of 64 bits, its moment has a stamp (XEP-0082), and its addresses are in normal form (RFC 7622). Its ids
-- and its bodies may be any.
pub record IsPlainEntry (e : EntryView) : Type 0 where
  pub number : IsEntryNumber e.number
  pub moment : e.stamp ≤ last_moment
  pub sender : IsNormal (unless_empty e.from)
  pub addressee : IsNormal (unless_empty e.to)

abbrev pub IsPlain : List EntryView → Type 0
IsPlain history = AllByRecursion IsPlainEntry history

-- a message that was taken of a device, between accounts, at a moment that has a stamp; all are named as in a schedule
pub record IsNamedTake (owned : List Owned) (t : Take) : Type 0 where
  pub account : is_name t.account ≡ true
  pub device : is_name (name_at owned t.device) ≡ true
  pub to : is_name t.said.to ≡ true
  pub moment : t.moment ≤ last_moment
