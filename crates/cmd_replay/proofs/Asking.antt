-- What an archive answers to a log: the page behind its last entry or, where that one was purged, the page from the first
-- entry that it keeps on.
use Rattle.std.proofs.Common.{◌≡◌, ℕ, zero, suc, ◌≤◌, Bool, true, false, cond, leb, List, Some, None, refl, sym, ap, ◌∙◌, arith, inl, inr}
use Rattle.std.proofs.lemmas.Bool.{cases_lt, false≢true, le-leb, leb-true, lt-leb}
use Rattle.std.proofs.lemmas.Option.{none-some, same_Some}
use Rattle.mam_archive.specs.Entries.{AreKept, EntryView}
use Rattle.mam_archive.specs.Ids.{id_of}
use Rattle.cmd_direct.proofs.NextPages.{id_after, page_after_kept, page_after_purged, page_of_first}
use Rattle.cmd_direct.specs.Direct.{query_after}
use Rattle.cmd_direct.specs.NextPages.{cut_at, is_purged, last_logged, purged}
use Rattle.mam_log.specs.LogPages.{last_id}
use Rattle.mam_log.specs.declared.log_entry.LogEntry.{LogEntry}
use Rattle.mam_pages.specs.Cuts.{CutView}
use Rattle.mam_pages.specs.Kept.{kept_by}
use Rattle.mam_pages.specs.PageOf.{page_of}
use Rattle.cmd_replay.proofs.InOrder.{last_id_is, last_within}
use Rattle.cmd_replay.specs.Turns.{IsInOrder}

following : (keep n last most : ℕ) (owner : List ℕ) (kept : List EntryView) → AreKept keep last kept → most ≤ 100 → n ≤ last →
    page_of (kept_by owner kept) (query_after (id_after n) most) ≡ cond (is_purged n last kept) None (Some (cut_at n most last kept))
following keep zero last most owner kept known cap within = page_of_first zero last most owner kept cap (omega arith)
following keep (suc n) last most owner kept known cap within =
    elim (cases_lt (purged last kept) (suc n)) [
      | inl new ↦
          let test : leb (suc n) (purged last kept) ≡ false = lt-leb (suc n) (purged last kept) new in
          page_after_kept keep (suc n) last most owner kept known cap new within ∙ rw test refl
      | inr old ↦
          let test : leb (suc n) (purged last kept) ≡ true = le-leb (suc n) (purged last kept) (omega arith) in
          page_after_purged keep (suc n) last most owner kept known (omega arith) (omega arith) ∙ rw test refl
    ]

-- the answer behind a log's last entry
pub answer_after : (keep last most : ℕ) (owner : List ℕ) (kept : List EntryView) (logged : List LogEntry) → AreKept keep last kept → most ≤ 100 → IsInOrder last logged →
    page_of (kept_by owner kept) (query_after (last_id logged) most) ≡ cond (is_purged (last_logged logged) last kept) None (Some (cut_at (last_logged logged) most last kept))
answer_after keep last most owner kept logged known cap order =
    ap (λ id. page_of (kept_by owner kept) (query_after id most)) (last_id_is last logged order)
    ∙ following keep (last_logged logged) last most owner kept known cap (last_within last logged order)

found : (b : Bool) (cut answer : CutView) → cond b None (Some cut) ≡ Some answer → (answer ≡ cut) × (false ≡ b)
found true cut answer is = absurd (none-some answer is)
found false cut answer is = (sym (same_Some cut answer is), refl)

missing : (b : Bool) (cut : CutView) → cond b None (Some cut) ≡ None → b ≡ true
missing true cut is = refl
missing false cut is = absurd (none-some cut (sym is))

pub page_found : (keep last most : ℕ) (owner : List ℕ) (kept : List EntryView) (logged : List LogEntry) (cut : CutView) → AreKept keep last kept → most ≤ 100 → IsInOrder last logged →
    page_of (kept_by owner kept) (query_after (last_id logged) most) ≡ Some cut →
    (cut ≡ cut_at (last_logged logged) most last kept) × (false ≡ is_purged (last_logged logged) last kept)
page_found keep last most owner kept logged cut known cap order is =
    found (is_purged (last_logged logged) last kept) (cut_at (last_logged logged) most last kept) cut (sym (answer_after keep last most owner kept logged known cap order) ∙ is)

pub position_purged : (keep last most : ℕ) (owner : List ℕ) (kept : List EntryView) (logged : List LogEntry) → AreKept keep last kept → most ≤ 100 → IsInOrder last logged →
    page_of (kept_by owner kept) (query_after (last_id logged) most) ≡ None → is_purged (last_logged logged) last kept ≡ true
position_purged keep last most owner kept logged known cap order is =
    missing (is_purged (last_logged logged) last kept) (cut_at (last_logged logged) most last kept) (sym (answer_after keep last most owner kept logged known cap order) ∙ is)

purged_low : (n last : ℕ) (kept : List EntryView) → is_purged n last kept ≡ true → (1 ≤ n) × (n ≤ purged last kept)
purged_low zero last kept is = absurd (false≢true is)
purged_low (suc n) last kept is = (omega arith, leb-true (suc n) (purged last kept) is)

-- then the page is asked for anew
pub page_anew : (keep last most : ℕ) (owner : List ℕ) (kept : List EntryView) (logged : List LogEntry) → most ≤ 100 →
    is_purged (last_logged logged) last kept ≡ true → page_of (kept_by owner kept) (query_after None most) ≡ Some (cut_at (last_logged logged) most last kept)
page_anew keep last most owner kept logged cap is =
    page_of_first (last_logged logged) last most owner kept cap (purged_low (last_logged logged) last kept is).1

-- and the log has an entry
named : (n : ℕ) → 1 ≤ n → id_after n ≡ Some (id_of n)
named zero some = absurd (omega arith)
named (suc n) some = refl

pub purged_named : (last : ℕ) (kept : List EntryView) (logged : List LogEntry) → IsInOrder last logged → is_purged (last_logged logged) last kept ≡ true →
    last_id logged ≡ Some (id_of (last_logged logged))
purged_named last kept logged order is = last_id_is last logged order ∙ named (last_logged logged) (purged_low (last_logged logged) last kept is).0
