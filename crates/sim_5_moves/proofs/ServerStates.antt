-- What a server that runs has of a device and its account.
use Rattle.std.proofs.Common.{◌≡◌, ℕ, ◌-◌, ◌≤◌, min, List, ◌∷◌, ◌++◌, length, refl, sym, ap, subst, ◌∙◌, arith}
use Rattle.std.proofs.lemmas.List.{length-drop}
use Rattle.std.specs.Option.{option_map}
use Rattle.mam_archive.proofs.Newest.{kept_again}
use Rattle.mam_archive.proofs.NumberedEntries.{numbered_following}
use Rattle.mam_archive.specs.Entries.{AreKept, EntryView, newest}
use Rattle.srv_state.specs.State.{Kept, ServerState, address_shown, session_address, shown_of}
use Rattle.srv_state.specs.State as context
use Rattle.sim_5_moves.specs.Around.{IsArchiveKept, IsAround}
use Rattle.sm_live.specs.Sessions.{Session, told}
use Rattle.sim_5_moves.specs.Replied.{IsSessionOf, around_of}
use Rattle.cmd_report.specs.Addresses.{bare_address, full_address}
use Rattle.cmd_schedule.specs.Contents.{Owned}
use Rattle.sim_3_items.specs.Served.{ServerSimulates}
use Rattle.sim_1_applications.specs.Devices.{Take, last_of}
use Rattle.sim_1_applications.proofs.Rendered.{history_few, history_follows, history_long}
use Rattle.sim_1_applications.specs.Reported.{history_at}
use Rattle.xml_writer.specs.Items.{ItemOut}
use Rattle.sim_5_moves.proofs.Positions.{bare_is}

-- ---- archives

module _ (keep : ℕ) (owned : List Owned) (takes : List Take) (account : List ℕ) (some : 1 ≤ keep) (few : length takes ≤ 4294967295) where
  abbrev pub history : List EntryView
  history = history_at owned takes account

  pub history_kept : AreKept keep (length history) (newest keep history)
  history_kept =
      kept_again keep (length history) history some (numbered_following 1 (length history) history (history_follows owned takes account) (omega arith)) (omega arith)
      (omega (arith, few, history_few owned takes account)) (λ none. none)

  newest_many : length (newest keep history) ≡ min (length history) keep
  newest_many = let long = length-drop (length history - keep) history in omega (arith, long)

  pub kept_is : (kept : Kept) → kept.entries ≡ newest keep history → IsArchiveKept keep (last_of takes account) kept
  kept_is kept is =
      let long = history_long owned takes account in
      record {
        entries = subst (λ last. AreKept keep last kept.entries) long (subst (AreKept keep (length history)) (sym is) history_kept);
        many = ap length is ∙ newest_many ∙ ap (λ n. min n keep) long;
      }

-- ---- addresses

module _ (keep : ℕ) (owned : List Owned) (names : List (List ℕ)) (takes : List Take) (h : ServerState ItemOut) (runs : ServerSimulates keep owned names takes h) where
  module _ (o : Owned) (s : Session ItemOut) (session : IsSessionOf o names h s) where
    pub own_bare : context.bare_address s.shown.account h ≡ bare_address o.account
    own_bare = bare_is names h runs.configured s.shown.account o.account session.account

    pub own_full : session_address s.shown.number h ≡ full_address o.account o.device
    own_full =
        ap (λ found. address_shown (option_map shown_of found) h) session.there
        ∙ (λ i. own_bare i ++ 47 ∷ session.resource i)

    abbrev pub around : 1 ≤ keep → length takes ≤ 4294967295 → IsAround (around_of keep names takes o.account) (told s) h
    around some few = record {
      kept = record { owner = bare_address o.account; keep = keep; last = length (history_at owned takes o.account); entries = newest keep (history_at owned takes o.account) };
      there = runs.archives s.shown.account o.account session.account;
      most = keep;
      keeps = kept_is keep owned takes o.account some few _ refl;
      oldest = refl;
    }
