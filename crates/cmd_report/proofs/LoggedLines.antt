-- The lines of a log, page by page.
use Rattle.std.proofs.Common.{◌≡◌, ℕ, zero, suc, ◌+◌, ◌-◌, ◌^◌, ◌<◌, min, Bool, false, List, [], ◌∷◌, ◌++◌, drop, length, map, take, nat_lt, refl, ap, sym, ◌∙◌, append_assoc, arith}
use Rattle.std.proofs.lemmas.Bool.{lt-ltb}
use Rattle.std.proofs.Math.Seq.{drop-append_seam, take-append_seam}
use Rattle.std.specs.Prelude.{◌&&◌, is_none}
use Rattle.mam_log.specs.LogPages.{LogPage, log_of, tile_of}
use Rattle.mam_log.specs.declared.log_entry.LogEntry.{LogEntry}
use Rattle.mam_log.specs.declared.tile.Tile.{Tile}
use Rattle.cmd_report.specs.Lines.{is_break, logged_after, logged_by, logged_from, logged_line}
use Rattle.cmd_report.specs.declared.report.LoggedLine.{LoggedLine}

pub logged_after-false : (ls : List LogEntry) → logged_after false ls ≡ map (logged_line false) ls
logged_after-false [] = refl
logged_after-false (l ∷ ls) = refl

-- an entry of a page more, behind i
pub page_step : (count i : ℕ) (lines whole : List LoggedLine) (broken : Bool) (l : LogEntry) (ls : List LogEntry) → i < count
    → lines ++ logged_after broken (take (count - i) (l ∷ ls)) ≡ whole
    → (lines ++ logged_line broken l ∷ []) ++ logged_after false (take (count - (i + 1)) ls) ≡ whole
page_step count i lines whole broken l ls within was =
    let left : count - i ≡ suc (count - (i + 1)) = omega (arith, within) in
    let now : lines ++ logged_line broken l ∷ map (logged_line false) (take (count - (i + 1)) ls) ≡ whole = rw left at was in
    ap (λ rest. (lines ++ logged_line broken l ∷ []) ++ rest) (logged_after-false (take (count - (i + 1)) ls))
    ∙ append_assoc lines (logged_line broken l ∷ []) (map (logged_line false) (take (count - (i + 1)) ls)) ∙ now

pub rest_step : (count i : ℕ) (whole : List LogEntry) (l : LogEntry) (ls : List LogEntry) → i < count
    → drop (count - i) (l ∷ ls) ≡ whole → drop (count - (i + 1)) ls ≡ whole
rest_step count i whole l ls within was =
    let left : count - i ≡ suc (count - (i + 1)) = omega (arith, within) in
    rw left at was

same_some : (m n : ℕ) → (m ≡ 0 → n ≡ 0) → (n ≡ 0 → m ≡ 0) → nat_lt 0 m ≡ nat_lt 0 n
same_some zero zero there back = refl
same_some zero (suc n) there back = absurd (omega (arith, there refl))
same_some (suc m) zero there back = absurd (omega (arith, back refl))
same_some (suc m) (suc n) there back = lt-ltb 0 (suc m) (omega arith) ∙ sym (lt-ltb 0 (suc n) (omega arith))

-- whether anything was logged before is all that matters of what was
pub logged_by-same : (m n : ℕ) → (m ≡ 0 → n ≡ 0) → (n ≡ 0 → m ≡ 0) → (tiles : List Tile) (entries : List LogEntry) → logged_by m tiles entries ≡ logged_by n tiles entries
logged_by-same m n there back [] entries = refl
logged_by-same m n there back (tile ∷ tiles) entries =
    let head = ap (λ (b : Bool). logged_after (is_none tile.after && b) (take tile.count entries)) (same_some m n there back) in
    let rest =
    logged_by-same (m + tile.count) (n + tile.count)
    (λ e. let none : n ≡ 0 = there (omega (arith, e)) in omega (arith, e, none))
    (λ e. let none : m ≡ 0 = back (omega (arith, e)) in omega (arith, e, none))
    tiles (drop tile.count entries) in
    cc (head, rest)

-- a page more, where `after` is how many entries stand before the next one, or the most that can be counted
pub pages_step : (lines whole : List LoggedLine) (n after : ℕ) (tile : Tile) (tiles : List Tile) (entries : List LogEntry)
    → after ≡ min (n + tile.count) (2 ^ 64 - 1)
    → lines ++ logged_by n (tile ∷ tiles) entries ≡ whole
    → (lines ++ logged_after (is_break n tile.after) (take tile.count entries)) ++ logged_by after tiles (drop tile.count entries) ≡ whole
pages_step lines whole n after tile tiles entries counted was =
    let same = logged_by-same after (n + tile.count) (λ e. omega (arith, counted, e)) (λ e. omega (arith, counted, e)) tiles (drop tile.count entries) in
    ap (λ rest. (lines ++ logged_after (is_break n tile.after) (take tile.count entries)) ++ rest) same
    ∙ append_assoc lines (logged_after (is_break n tile.after) (take tile.count entries)) (logged_by (n + tile.count) tiles (drop tile.count entries)) ∙ was

-- what is kept of the pages gives the lines of the pages
pub logged_by-pages : (n : ℕ) (pages : List LogPage) → logged_by n (map tile_of pages) (log_of pages) ≡ logged_from n pages
logged_by-pages n [] = refl
logged_by-pages n (page ∷ pages) =
    rw (take-append_seam page.entries (log_of pages), drop-append_seam page.entries (log_of pages))
    (ap (λ ls. logged_after (is_break n page.after) page.entries ++ ls) (logged_by-pages (n + length page.entries) pages))
