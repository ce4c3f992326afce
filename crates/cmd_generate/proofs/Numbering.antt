-- Steps in lines that are numbered, and rows of them.
use Rattle.std.proofs.Common.{◌≡◌, ℕ, zero, suc, ◌+◌, ◌-◌, ◌<◌, List, [], ◌∷◌, ◌++◌, length, map, refl, sym, ap, ◌∙◌, append_assoc, arith}
use Rattle.std.proofs.lemmas.List.{append-nil, length-map, map_push}
use Rattle.cmd_generate.specs.Draws.{Drawn}
use Rattle.cmd_generate.specs.Generated.{dials_with, drawn_line, drawn_lines, lines_from, row_step, row_steps}
use Rattle.cmd_generate.specs.declared.rows.Row.{Row}
use Rattle.cmd_schedule.specs.Schedules.{wire_steps_of}
use Rattle.cmd_schedule.specs.declared.schedule.WireLine.{WireLine}
use Rattle.cmd_schedule.specs.declared.schedule.WireStep.{WireStep}

abbrev line_at : ℕ → WireStep → WireLine
line_at n step = record { number = n; step = step }

lines_push : (n : ℕ) (steps : List WireStep) (step : WireStep) → lines_from n (steps ++ step ∷ []) ≡ lines_from n steps ++ line_at (length steps + n) step ∷ []
lines_push n [] step = ap (λ (k : ℕ). line_at k step ∷ []) (omega arith)
lines_push n (first ∷ steps) step =
    let number : length steps + (n + 1) ≡ suc (length steps) + n = omega arith in
    ap (λ (ls : List WireLine). line_at n first ∷ ls) (lines_push (n + 1) steps step ∙ ap (λ (k : ℕ). lines_from (n + 1) steps ++ line_at k step ∷ []) number)

pub pushed_steps : (lines : List WireLine) (line : WireLine) → wire_steps_of (lines ++ line ∷ []) ≡ wire_steps_of lines ++ line.step ∷ []
pushed_steps lines line = map_push (λ (l : WireLine). l.step) lines line

pub pushed_lines : (lines : List WireLine) (line : WireLine) → lines ≡ lines_from 2 (wire_steps_of lines) → line.number ≡ length lines + 2
    → lines ++ line ∷ [] ≡ lines_from 2 (wire_steps_of (lines ++ line ∷ []))
pushed_lines lines line are number =
    let size : length (wire_steps_of lines) + 2 ≡ line.number = omega (arith, length-map lines (λ (l : WireLine). l.step), number) in
    sym (ap (lines_from 2) (pushed_steps lines line) ∙ lines_push 2 (wire_steps_of lines) line.step
    ∙ ap (λ (k : ℕ). lines_from 2 (wire_steps_of lines) ++ line_at k line.step ∷ []) size
    ∙ ap (λ (ls : List WireLine). ls ++ line ∷ []) (sym are))

-- ---- a row

pub row_more : (row : Row) (count i : ℕ) → i < count → row_steps row (count - i) i ≡ row_step row i ∷ row_steps row (count - (i + 1)) (i + 1)
row_more row count i within = let more : count - i ≡ suc (count - (i + 1)) = omega arith in ap (λ (n : ℕ). row_steps row n i) more

pub row_done : (row : Row) (count i : ℕ) (steps total : List WireStep) → count - i ≡ 0 → steps ++ row_steps row (count - i) i ≡ total → steps ≡ total
row_done row count i steps total none is = sym (append-nil steps) ∙ ap (λ (n : ℕ). steps ++ row_steps row n i) (sym none) ∙ is

pub row_next : (row : Row) (count i : ℕ) (steps total : List WireStep) (step : WireStep) → i < count → step ≡ row_step row i → steps ++ row_steps row (count - i) i ≡ total
    → (steps ++ step ∷ []) ++ row_steps row (count - (i + 1)) (i + 1) ≡ total
row_next row count i steps total step within made is =
    append_assoc steps (step ∷ []) (row_steps row (count - (i + 1)) (i + 1))
    ∙ ap (λ (s : WireStep). steps ++ s ∷ row_steps row (count - (i + 1)) (i + 1)) made
    ∙ ap (λ (ss : List WireStep). steps ++ ss) (sym (row_more row count i within)) ∙ is

-- ---- drawn lines

pub drawn_next : (size i dials state : ℕ) (steps total : List WireStep) (step : WireStep) (further : ℕ) → i < size
    → drawn_line i dials state ≡ record { value = step; state = further } → steps ++ drawn_lines (size - i) i dials state ≡ total
    → (steps ++ step ∷ []) ++ drawn_lines (size - (i + 1)) (i + 1) (dials_with step dials) further ≡ total
drawn_next size i dials state steps total step further within made is =
    let more : size - i ≡ suc (size - (i + 1)) = omega arith in
    append_assoc steps (step ∷ []) (drawn_lines (size - (i + 1)) (i + 1) (dials_with step dials) further)
    ∙ ap (λ (line : Drawn WireStep). steps ++ line.value ∷ drawn_lines (size - (i + 1)) (i + 1) (dials_with line.value dials) line.state) (sym made)
    ∙ ap (λ (n : ℕ). steps ++ drawn_lines n i dials state) (sym more) ∙ is

pub drawn_done : (size i dials state : ℕ) (steps total : List WireStep) → size - i ≡ 0 → steps ++ drawn_lines (size - i) i dials state ≡ total → steps ≡ total
drawn_done size i dials state steps total none is = sym (append-nil steps) ∙ ap (λ (n : ℕ). steps ++ drawn_lines n i dials state) (sym none) ∙ is
