-- Entries have the stamps of moments that have been.
use Rattle.std.proofs.Common.{◌≡◌, ◌≤◌, ℕ, zero, suc, ◌+◌, ◌-◌, max, List, [], ◌∷◌, ◌++◌, Option, Some, None, drop, length, map, refl, sym, ap, subst, ◌∙◌, le_trans, le_refl}
use Rattle.std.proofs.Math.Nat.{le-max_left, le-max_right, max-eq_left}
use Rattle.std.specs.Prelude.{IfSome}
use Rattle.std.specs.List.{filter, slice_get}
use Rattle.std.specs.Option.{option_map}
use Rattle.base_lemmas.proofs.Lists.{AllByRecursion-weaker}
use Rattle.law_restart.specs.Standing.{AreStampedBy}
use Rattle.law_server.proofs.Seats.{all_kept, all_mapped}
use Rattle.law_server.specs.Taken.{HasTaken, Taken, all_appended, concerns, entries_for}
use Rattle.mam_archive.specs.Entries.{EntryView, numbered}
use Rattle.srv_core.proofs.Restarts.{greatest-append}
use Rattle.srv_core.specs.Configs.{archives_of}
use Rattle.srv_core.specs.Restarts.{greatest, stamp_of, stamps_in, stamps_of}
use Rattle.srv_login.specs.declared.account.Account.{Account}
use Rattle.srv_state.specs.State.{Kept, Step, archive_at}
use Rattle.srv_state.specs.Steps.{appended}

abbrev IsStampedBy : ℕ → EntryView → Type 0
IsStampedBy now e = e.stamp ≤ now

-- the archive of an account, where there is one
abbrev pub IsStamped : ℕ → Option Kept → Type 0
IsStamped now o = IfSome o (λ (kept : Kept). AreStampedBy now kept.entries)

-- ---- entries come

all_behind : (now n : ℕ) (es : List EntryView) → AreStampedBy now es → AreStampedBy now (drop n es)
all_behind now zero [] all = tt
all_behind now zero (e ∷ es) all = all
all_behind now (suc n) [] all = tt
all_behind now (suc n) (e ∷ es) all = all_behind now n es all.1

one_more : (now : ℕ) (es : List EntryView) (e : EntryView) → AreStampedBy now es → e.stamp ≤ now → AreStampedBy now (es ++ e ∷ [])
one_more now [] e all is = (is, tt)
one_more now (x ∷ es) e all is = (all.0, one_more now es e all.1 is)

stamped_appended : (now : ℕ) (e : EntryView) (kept : Kept) → e.stamp ≤ now → AreStampedBy now kept.entries → AreStampedBy now (appended e kept).entries
stamped_appended now e kept is all =
    let more = kept.entries ++ numbered (kept.last + 1) e ∷ [] in
    all_behind now (length more - kept.keep) more (one_more now kept.entries (numbered (kept.last + 1) e) all is)

all_stamped : (now : ℕ) (es : List EntryView) (kept : Kept) → AreStampedBy now es → AreStampedBy now kept.entries → AreStampedBy now (all_appended es kept).entries
all_stamped now [] kept are all = all
all_stamped now (e ∷ es) kept are all = all_stamped now es (appended e kept) are.1 (stamped_appended now e kept are.0 all)

stamped_mapped : (now : ℕ) (es : List EntryView) (o : Option Kept) → AreStampedBy now es → IsStamped now o → IsStamped now (option_map (all_appended es) o)
stamped_mapped now es None are is = tt
stamped_mapped now es (Some kept) are is = all_stamped now es kept are is

pub stamped_taken : {A : Type 0} (takes : List Taken) (s u : Step A) → HasTaken takes s u → ((account : ℕ) → IsStamped s.server_state.moment (archive_at account s.server_state)) → (account : ℕ) → IsStamped u.server_state.moment (archive_at account u.server_state)
stamped_taken takes s u has was account =
    let now = s.server_state.moment in
    let are : AreStampedBy now (entries_for account takes) =
    all_mapped (λ (t : Taken). t.entry.stamp ≡ now) (IsStampedBy now) (λ (t : Taken). t.entry) (λ t same. subst (λ (m : ℕ). m ≤ now) (sym same) (le_refl now)) (filter (concerns account) takes)
    (all_kept (λ (t : Taken). t.entry.stamp ≡ now) (concerns account) takes has.stamps) in
    subst (λ (m : ℕ). IsStamped m (archive_at account u.server_state)) (sym has.moment)
    (subst (IsStamped now) (sym (has.archives account)) (stamped_mapped now (entries_for account takes) (archive_at account s.server_state) are (was account)))

-- ---- moments pass

pub stamped_later : (now later : ℕ) (o : Option Kept) → now ≤ later → IsStamped now o → IsStamped later o
stamped_later now later None le is = tt
stamped_later now later (Some kept) le is = AllByRecursion-weaker (IsStampedBy now) (IsStampedBy later) (λ e was. le_trans was le) kept.entries is

-- ---- a server starts

at_least : (now : ℕ) (stamps : List ℕ) → now ≤ greatest now stamps
at_least now [] = le_refl now
at_least now (x ∷ stamps) = le_trans (le-max_left now x) (at_least (max now x) stamps)

stamped_by_greatest : (now later : ℕ) (es : List EntryView) → greatest now (map stamp_of es) ≤ later → AreStampedBy later es
stamped_by_greatest now later [] le = tt
stamped_by_greatest now later (e ∷ es) le = (le_trans (le-max_right now e.stamp) (le_trans (at_least (max now e.stamp) (map stamp_of es)) le), stamped_by_greatest (max now e.stamp) later es le)

pub stamped_first : (now : ℕ) (archives : List Kept) (account : ℕ) → IsStamped (greatest now (stamps_of archives)) (slice_get archives account)
stamped_first now [] account = tt
stamped_first now (a ∷ archives) zero =
    let first = greatest now (stamps_in a) in
    stamped_by_greatest now (greatest now (stamps_of (a ∷ archives))) a.entries
    (subst (λ (n : ℕ). first ≤ n) (sym (greatest-append now (stamps_in a) (stamps_of archives))) (at_least first (stamps_of archives)))
stamped_first now (a ∷ archives) (suc account) =
    subst (λ (n : ℕ). IsStamped n (slice_get archives account)) (sym (greatest-append now (stamps_in a) (stamps_of archives))) (stamped_first (greatest now (stamps_in a)) archives account)

-- ---- none is later

-- stamps that are not later than a moment don't move it
within_moment : (now : ℕ) (es : List EntryView) → AreStampedBy now es → greatest now (map stamp_of es) ≡ now
within_moment now [] all = refl
within_moment now (e ∷ es) all = ap (λ (n : ℕ). greatest n (map stamp_of es)) (max-eq_left all.0) ∙ within_moment now es all.1

pub none_later : (now : ℕ) (archives : List Kept) → ((account : ℕ) → IsStamped now (slice_get archives account)) → greatest now (stamps_of archives) ≡ now
none_later now [] all = refl
none_later now (a ∷ archives) all =
    greatest-append now (stamps_in a) (stamps_of archives) ∙ ap (λ (n : ℕ). greatest n (stamps_of archives)) (within_moment now a.entries (all zero)) ∙ none_later now archives (λ account. all (suc account))

pub no_stamps : (domain : List ℕ) (keep : ℕ) (accounts : List Account) → stamps_of (archives_of domain keep accounts) ≡ []
no_stamps domain keep [] = refl
no_stamps domain keep (a ∷ accounts) = no_stamps domain keep accounts
