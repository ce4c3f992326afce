-- The lines of a log's entries, a page more.
use Rattle.std.proofs.Common.{◌≡◌, ℕ, zero, suc, ◌+◌, ◌^◌, ◌-◌, min, Bool, List, [], ◌∷◌, ◌++◌, drop, take, nat_lt, refl, ap, sym, ◌∙◌, append_assoc, arith}
use Rattle.std.specs.Prelude.{◌&&◌, is_none}
use Rattle.std.proofs.lemmas.Bool.{lt-ltb}
use Rattle.mam_log.specs.declared.log_entry.LogEntry.{LogEntry}
use Rattle.mam_log.specs.declared.tile.Tile.{Tile}
use Rattle.cmd_sync.specs.Texts.{entries_text, logged_page_text}
use Rattle.cmd_report.specs.Lines.{is_break}

same_some : (m n : ℕ) → (m ≡ 0 → n ≡ 0) → (n ≡ 0 → m ≡ 0) → nat_lt 0 m ≡ nat_lt 0 n
same_some zero zero there back = refl
same_some zero (suc n) there back = absurd (omega (arith, there refl))
same_some (suc m) zero there back = absurd (omega (arith, back refl))
same_some (suc m) (suc n) there back = lt-ltb 0 (suc m) (omega arith) ∙ sym (lt-ltb 0 (suc n) (omega arith))

-- whether anything was logged before is all that matters of what was
entries-same : (m n : ℕ) → (m ≡ 0 → n ≡ 0) → (n ≡ 0 → m ≡ 0) → (tiles : List Tile) (entries : List LogEntry) → entries_text m tiles entries ≡ entries_text n tiles entries
entries-same m n there back [] entries = refl
entries-same m n there back (tile ∷ tiles) entries =
    let head = ap (λ (b : Bool). logged_page_text (is_none tile.after && b) (take tile.count entries)) (same_some m n there back) in
    let rest =
    entries-same (m + tile.count) (n + tile.count)
    (λ e. let none : n ≡ 0 = there (omega (arith, e)) in omega (arith, e, none))
    (λ e. let none : m ≡ 0 = back (omega (arith, e)) in omega (arith, e, none))
    tiles (drop tile.count entries) in
    cc (head, rest)

-- a page more, where `after` is how many entries stand before the next one, or the most that can be counted
pub entries_step : (out whole : List ℕ) (n after : ℕ) (tile : Tile) (tiles : List Tile) (entries : List LogEntry)
    → after ≡ min (n + tile.count) (2 ^ 64 - 1)
    → out ++ entries_text n (tile ∷ tiles) entries ≡ whole
    → (out ++ logged_page_text (is_break n tile.after) (take tile.count entries)) ++ entries_text after tiles (drop tile.count entries) ≡ whole
entries_step out whole n after tile tiles entries counted was =
    let same = entries-same after (n + tile.count) (λ e. omega (arith, counted, e)) (λ e. omega (arith, counted, e)) tiles (drop tile.count entries) in
    ap (λ rest. (out ++ logged_page_text (is_break n tile.after) (take tile.count entries)) ++ rest) same
    ∙ append_assoc out (logged_page_text (is_break n tile.after) (take tile.count entries)) (entries_text (n + tile.count) tiles (drop tile.count entries)) ∙ was
