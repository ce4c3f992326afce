-- The archives behind a submission are those of the takes, with the one that is taken now.
use Rattle.std.proofs.Common.{◌≡◌, ℕ, ◌+◌, ◌==◌, ◌||◌, Bool, true, false, cond, List, [], ◌∷◌, ◌++◌, Option, Some, None, length, map, unwrap_or, refl, sym, ap, ap₂, ◌∙◌}
use Rattle.std.proofs.lemmas.List.{append-nil, length_push, map_push}
use Rattle.std.specs.List.{slice_get}
use Rattle.std.specs.Option.{option_map}
use Rattle.std.specs.Str.{bytes_eq}
use Rattle.mam_archive.specs.Entries.{EntryView, newest, numbered}
use Rattle.srv_state.specs.State.{Kept, Out, ServerState, archive_at}
use Rattle.sm_live.specs.Sessions.{Session}
use Rattle.sim_5_moves.proofs.Booked.{IsBooked}
use Rattle.sim_5_moves.proofs.Marked.{taken_of}
use Rattle.sim_5_moves.proofs.TakenEntries.{entry_now, entry_same, take_now}
use Rattle.sim_5_moves.specs.Submits.{Submits}
use Rattle.cmd_report.proofs.TakenArchives.{archive_push}
use Rattle.cmd_report.specs.Addresses.{bare_address}
use Rattle.cmd_report.specs.Takes as report
use Rattle.cmd_report.specs.Takes.{archive_of}
use Rattle.cmd_schedule.specs.Contents.{Owned}
use Rattle.cmd_schedule.specs.Grammar.{is_name}
use Rattle.sim_3_items.specs.Served.{ArchivesRepresent}
use Rattle.sim_1_applications.specs.Devices.{Take}
use Rattle.sim_1_applications.specs.Stanzas.{Submission}
use Rattle.sim_1_applications.specs.Reported.{history_at, take_of}
use Rattle.law_server.proofs.ArchiveEntries.{gets_nothing}
use Rattle.law_server.specs.Taken as server
use Rattle.law_server.specs.Taken.{Taken, all_appended, entries_for}
use Rattle.xml_trees.specs.Trees.{Elem}
use Rattle.cmd_world.proofs.Declares.{names_from}
use Rattle.sim_3_images.proofs.AccountNames.{named, same_account}
use Rattle.sim_3_images.proofs.AppendedEntries.{newest_after}
use Rattle.xml_writer.specs.Items.{ItemOut}

-- an account's archive with this history
abbrev pub kept_as : ℕ → List ℕ → List EntryView → Kept
kept_as keep name history = record { owner = bare_address name; keep = keep; last = length history; entries = newest keep history }

-- one entry more, or none
one_more : (keep : ℕ) (name : List ℕ) (history : List EntryView) (t : Taken) (c : Bool) →
    all_appended (map (λ (x : Taken). x.entry) (cond c (t ∷ []) [])) (kept_as keep name history)
    ≡ kept_as keep name (cond c (history ++ numbered (length history + 1) t.entry ∷ []) history)
one_more keep name history t true =
    let entry = numbered (length history + 1) t.entry in
    let long : length history + 1 ≡ length (history ++ entry ∷ []) = sym (length_push history entry) in
    let kept : newest keep (newest keep history ++ entry ∷ []) ≡ newest keep (history ++ entry ∷ []) = newest_after keep history (entry ∷ []) in
    λ i. record { owner = bare_address name; keep = keep; last = long i; entries = kept i }
one_more keep name history t false = refl

module _ {keep : ℕ} {owned : List Owned} {names : List (List ℕ)} {takes : List Take} {h : ServerState ItemOut} {i : ℕ} {o : Owned} {s : Session ItemOut} {m : Submission} {e : Elem} (x : Submits keep owned names takes h i o s m e) where
  pub is_named : (position : ℕ) (name : List ℕ) → slice_get names position ≡ Some name → is_name name ≡ true
  is_named position name at = named names position name (names_from [] names x.declared.accounts) at

  -- accounts are the same by their places and by their names
  pub same_name : (position other : ℕ) (name others : List ℕ) → slice_get names position ≡ Some name → slice_get names other ≡ Some others → (other == position) ≡ bytes_eq name others
  same_name position other name others at there =
      same_account names position other name x.declared.accounts (is_named position name at) at ∙ ap (λ (p : Option (List ℕ)). bytes_eq name (unwrap_or p [])) there

  module _ (account : ℕ) (at : slice_get names account ≡ Some m.to) where
    abbrev pub taken_here : Taken
    taken_here = taken_of s.shown.account account (entry_now h o s m account)

    abbrev take_here : report.Take
    take_here = take_of owned (take_now h i o m)

    pub concerned : (position : ℕ) (name : List ℕ) → slice_get names position ≡ Some name → server.concerns position taken_here ≡ report.concerns name take_here
    concerned position name there =
        ap₂ (λ a b. a || b) (same_name position s.shown.account name o.account there x.session.account) (same_name position account name m.to there at)

    history_more : (name : List ℕ) →
        history_at owned (takes ++ take_now h i o m ∷ []) name
        ≡ cond (report.concerns name take_here) (history_at owned takes name ++ numbered (length (history_at owned takes name) + 1) (report.entry_of take_here) ∷ []) (history_at owned takes name)
    history_more name = ap (archive_of name) (map_push (take_of owned) takes (take_now h i o m)) ∙ archive_push name (map (take_of owned) takes) take_here

    pub archives_more : (h2 : ServerState ItemOut) (outs : List (Out ItemOut)) → IsBooked h (Some taken_here) h2 outs → ArchivesRepresent keep owned names (takes ++ take_now h i o m ∷ []) h2
    archives_more h2 outs is position name there =
        let history = history_at owned takes name in
        let entry = entry_same x account in
        is.archives position
        ∙ ap (option_map (all_appended (entries_for position (taken_here ∷ [])))) (x.runs.archives position name there)
        ∙ ap Some (
        ap (λ c. all_appended (map (λ (y : Taken). y.entry) (cond c (taken_here ∷ []) [])) (kept_as keep name history)) (concerned position name there)
        ∙ one_more keep name history taken_here (report.concerns name take_here)
        ∙ ap (λ en. kept_as keep name (cond (report.concerns name take_here) (history ++ numbered (length history + 1) en ∷ []) history)) entry
        ∙ ap (kept_as keep name) (sym (history_more name))
        )

  -- nothing is taken
  pub archives_same : (h2 : ServerState ItemOut) (outs : List (Out ItemOut)) → IsBooked h None h2 outs → ArchivesRepresent keep owned names (takes ++ []) h2
  archives_same h2 outs is position name there =
      is.archives position ∙ gets_nothing (archive_at position h) ∙ x.runs.archives position name there
      ∙ ap (λ ts. Some (kept_as keep name (history_at owned ts name))) (sym (append-nil takes))
