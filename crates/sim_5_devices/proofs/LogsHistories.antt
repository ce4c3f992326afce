-- Histories of takes have plain entries.
use Rattle.std.proofs.Common.{◌≡◌, ℕ, ◌+◌, ◌≤◌, ◌<◌, ◌^◌, Bool, true, false, if◌then◌else◌, List, [], ◌∷◌, length, map, filter, Ok, arith}
use Rattle.std.specs.List.{AllByRecursion}
use Rattle.im_jid.specs.Normal.{normal}
use Rattle.cmd_report.specs.Addresses.{bare_address, full_address}
use Rattle.cmd_report.specs.Takes.{Take as Told, concerns, entry_of, numbered_from}
use Rattle.cmd_schedule.specs.Contents.{Owned}
use Rattle.sim_1_applications.specs.Devices.{Take}
use Rattle.sim_1_applications.specs.Reported.{history_at, name_at, take_of}
use Rattle.im_stanza.specs.Written.{IsNormal, unless_empty}
use Rattle.sim_5_devices.proofs.Names.{bare_normal}
use Rattle.sim_5_devices.specs.Plain.{IsNamedTake, IsPlain}
use Rattle.sim_3_items.proofs.FullAddresses.{full_normal}

normal_there : (t : List ℕ) → normal t ≡ Ok t → IsNormal (unless_empty t)
normal_there [] is = tt
normal_there (c ∷ cs) is = is

module _ (owned : List Owned) (account : List ℕ) where
  abbrev entries_from : ℕ → List Told → Type 0
  entries_from n takes = IsPlain (numbered_from n (map entry_of takes))

  plain_from : (n : ℕ) (takes : List Take) → 1 ≤ n → n + length takes ≤ 2 ^ 64 → AllByRecursion (IsNamedTake owned) takes → entries_from n (filter (concerns account) (map (take_of owned) takes))
  plain_from n [] some few all = tt
  plain_from n (t ∷ takes) some few all =
      by (concerns account (take_of owned t)) (plain_from (n + 1) takes (omega (arith, some)) (omega (arith, few)) all.1) (plain_from n takes some (omega (arith, few)) all.1)
    where
      by : (here : Bool) → entries_from (n + 1) (filter (concerns account) (map (take_of owned) takes)) → entries_from n (filter (concerns account) (map (take_of owned) takes))
          → entries_from n (if here then take_of owned t ∷ filter (concerns account) (map (take_of owned) takes) else filter (concerns account) (map (take_of owned) takes))
      by true one none = (
        record {
          number = record { some = some; fits = omega (arith, few) };
          moment = all.0.moment;
          sender = normal_there (full_address t.account (name_at owned t.device)) (full_normal t.account (name_at owned t.device) all.0.account all.0.device);
          addressee = normal_there (bare_address t.said.to) (bare_normal t.said.to all.0.to);
        },
        one,
      )
      by false one none = none

pub history_plain : (owned : List Owned) (takes : List Take) (account : List ℕ) → AllByRecursion (IsNamedTake owned) takes → length takes < 2 ^ 64 → IsPlain (history_at owned takes account)
history_plain owned takes account all few = plain_from owned account 1 takes (omega arith) (omega (arith, few)) all
