-- The logs of turns: what is so of each part of a row is so of items and calls.
use Rattle.std.proofs.Common.{◌≡◌, ◌<◌, ℕ, true, false, ◌&&◌, List, [], ◌∷◌, ◌++◌, Option, Some, None, length, is_none, inl, inr, arith, refl, sym, ap, ap₂, subst, ◌∙◌}
use Rattle.std.proofs.lemmas.Bool.{false≢true, lt-ltb}
use Rattle.std.specs.Prelude.{nat_lt}
use Rattle.law_client.proofs.GrownLogs.{grew_by, grew_on, same_grew}
use Rattle.law_client.proofs.KeptLogs.{begun_kept, kept_by}
use Rattle.law_client.proofs.LogParts.{LogPart, breaks_off}
use Rattle.law_client.proofs.Parts.{IsLaw, Part, acks, bound, drops_binding, drops_left, enabled, goes_free, goes_with, goes_without, handled, logs, numbers, opens, outs, states, submits, waits}
use Rattle.law_client.specs.Logs.{FollowUnbroken, GrewByPages, IsLogKept}
use Rattle.cl_handlers.specs.Clients.{ClientStep}
use Rattle.cl_handlers.specs.Speech.{Speech}
use Rattle.mam_log.specs.LogPages.{FollowsOn, IsAfter, LogPage, last_id}
use Rattle.mam_log.specs.Views.{LogView, with_begun}
use Rattle.mam_log.specs.declared.log_entry.LogEntry.{LogEntry}

-- ---- what a part does to the log

data Change (old new : LogView) : Type 0 where
  none : new ≡ old → Change old new
  part : LogPart old new → Change old new
  begun : (queryid : List ℕ) (max : ℕ) → new ≡ with_begun old queryid max → Change old new

abbrev log_in : {A X : Type 0} → ClientStep A X → LogView
log_in t = t.client.log

changed : {A X : Type 0} {speech : Speech A X} (t u : ClientStep A X) → Part speech t u → Change t.client.log u.client.log
changed t u (outs is notes) = none (ap (λ c. c.log) is)
changed t u (states s at is) = none (ap log_in is)
changed t u (goes_free p needs binds is) = none (ap log_in is)
changed t u (goes_with p binds some is) = none (ap log_in is)
changed t u (goes_without p needs empty is) = none (ap log_in is)
changed t u (bound at is) = none (ap log_in is)
changed t u (enabled previd at is) = none (ap log_in is)
changed t u (drops_left is) = part (breaks_off (ap log_in is))
changed t u (drops_binding is) = part (breaks_off (ap log_in is))
changed t u (waits s stanza at position is) = none (ap log_in is)
changed t u (submits s said at position is) = none (ap log_in is)
changed t u (acks s h at low is) = none (ap log_in is)
changed t u (handled s e at is) = none (ap log_in is)
changed t u (logs log by is) = part (subst (LogPart t.client.log) (sym (ap log_in is)) by)
changed t u (opens s queryid max at is) = begun queryid max (ap log_in is)
changed t u (numbers number is) = none (ap log_in is)

-- ---- logs are kept

abbrev KeepsLog : {A X : Type 0} → ClientStep A X → ClientStep A X → Type 0
KeepsLog t u = IsLogKept t.client.log → IsLogKept u.client.log

kept_over : (old new : LogView) → Change old new → IsLogKept old → IsLogKept new
kept_over old new (none is) h = subst IsLogKept (sym is) h
kept_over old new (part by) h = kept_by old new by h
kept_over old new (begun queryid max is) h = subst IsLogKept (sym is) (begun_kept old queryid max h)

pub kept_law : {A X : Type 0} (speech : Speech A X) → IsLaw speech KeepsLog
kept_law speech = record { stays = λ t h. h; joins = λ t u v first rest h. rest (first h); parts = λ t u one h. kept_over t.client.log u.client.log (changed t u one) h }

-- ---- logs grow by pages

abbrev GrowsLog : {A X : Type 0} → ClientStep A X → ClientStep A X → Type 0
GrowsLog t u = GrewByPages t.client.log u.client.log

grew_over : (old new : LogView) → Change old new → GrewByPages old new
grew_over old new (none is) = same_grew old new (ap (λ (l : LogView). l.entries) is) (ap (λ (l : LogView). l.tiles) is)
grew_over old new (part by) = grew_by old new by
grew_over old new (begun queryid max is) = same_grew old new (ap (λ (l : LogView). l.entries) is) (ap (λ (l : LogView). l.tiles) is)

pub grown_law : {A X : Type 0} (speech : Speech A X) → IsLaw speech GrowsLog
grown_law speech = record {
  stays = λ t. same_grew t.client.log t.client.log refl refl;
  joins = λ t u v first rest. grew_on t.client.log u.client.log v.client.log first rest;
  parts = λ t u one. grew_over t.client.log u.client.log (changed t u one);
}

-- ---- breaks

both_above : (m n : ℕ) → 0 < m → 0 < n → (nat_lt 0 m && nat_lt 0 n) ≡ false → ⊥
both_above m n first second whole =
    let one : nat_lt 0 m ≡ true = lt-ltb 0 m first in
    let two : nat_lt 0 n ≡ true = lt-ltb 0 n second in
    false≢true (sym whole ∙ ap₂ (λ x y. x && y) one two)

-- a page that was asked for anew, doesn't break the log and has an entry is the first that has one
first_of : (before : List LogEntry) (count : ℕ) (after : Option (List ℕ)) → after ≡ None → (is_none after && (nat_lt 0 (length before) && nat_lt 0 count)) ≡ false → 0 < count → after ≡ last_id before
first_of [] count after anew whole some = anew
first_of (e ∷ es) count None anew whole some = absurd (both_above (length (e ∷ es)) count (omega arith) some whole)
first_of (e ∷ es) count (Some id) anew whole some = absurd (cc anew)

after_last : (before : List LogEntry) (count : ℕ) (after : Option (List ℕ)) → IsAfter before after → (is_none after && (nat_lt 0 (length before) && nat_lt 0 count)) ≡ false → 0 < count → after ≡ last_id before
after_last before count after (inl anew) whole some = first_of before count after anew whole some
after_last before count after (inr last) whole some = last

pub follow_unbroken : (before : List LogEntry) (pages : List LogPage) → FollowsOn before pages → FollowUnbroken before pages
follow_unbroken before [] h = tt
follow_unbroken before (page ∷ pages) h =
    (λ whole some. after_last before (length page.entries) page.after h.0 whole some, follow_unbroken (before ++ page.entries) pages h.2)
