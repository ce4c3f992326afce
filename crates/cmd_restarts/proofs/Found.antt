-- What is read is a file of restarts: the lines of a text, written as a schedule has them, are read as that schedule's lines.
use Rattle.std.proofs.Common.{◌≡◌, ◌⊎◌, ℕ, zero, suc, ◌+◌, ◌<◌, ◌==◌, Bool, true, false, cond, true≢false, List, [], ◌∷◌, ◌++◌, Option, Some, None, Result, Ok, Err, IfOk, codes, length, map, refl, sym, ap, subst, ◌∙◌, append_assoc, inl, inr, arith}
use Rattle.std.proofs.lemmas.Bool.{cases_Bool, eqb-false, eq-eqb, ne_eqb}
use Rattle.std.proofs.lemmas.List.{append-nil, length-append}
use Rattle.std.proofs.lemmas.Option.{same_Some}
use Rattle.std.specs.Prelude.{◌&&◌, nat_le}
use Rattle.std.specs.Str.{bytes_eq, is_utf8}
use Rattle.cmd_restarts.specs.Files.{FileView, file_of, is_restart, number_if, numbers_of, read_below, read_pieces, reading_restarts, text_as_schedule}
use Rattle.cmd_restarts.specs.RestartFiles.{ArePauses, IsRestartFile, is_next}
use Rattle.cmd_rewriting.specs.Headings.{ending_of, heading_as_schedule, heading_by, heading_of, heading_where, wire_of, with_rest}
use Rattle.cmd_schedule.proofs.Again.{lacks_append, plain_from_all}
use Rattle.cmd_schedule.proofs.BothKinds.{reading_found}
use Rattle.cmd_schedule.proofs.Found.{bind_ok, gate, ok_is}
use Rattle.cmd_schedule.proofs.Words.{Lacks, Lacks-tail, piece_after, piece_all}
use Rattle.cmd_schedule.specs.Reading as direct
use Rattle.cmd_schedule.specs.Reading.{Cut, Piece, as_heading, cut_of, either, joined, pieces_of, read_header, read_heading, read_lines}
use Rattle.cmd_schedule.specs.Grammar.{nothing_declared}
use Rattle.cmd_schedule.specs.Schedules.{WireView}
use Rattle.cmd_schedule.specs.WireGrammar.{WireAbove, above_by, nothing_above}
use Rattle.cmd_schedule.specs.WireReading as wire
use Rattle.cmd_schedule.specs.WireReading.{as_direct, as_wire, reading, read_kind, read_wire_line, read_wire_lines, with_wire_front}
use Rattle.cmd_schedule.specs.declared.fault.LineWhy.{LineWhy}
use Rattle.cmd_schedule.specs.declared.fault.LineWhy.TheVariants as why
use Rattle.cmd_schedule.specs.declared.fault.ScheduleFault.{ScheduleFault}
use Rattle.cmd_schedule.specs.declared.fault.ScheduleFault.TheVariants.{BadLine, NoMemory}
use Rattle.cmd_schedule.specs.declared.heading.Heading.{Heading}
use Rattle.cmd_schedule.specs.declared.schedule.Line.{Line}
use Rattle.cmd_schedule.specs.declared.schedule.Schedule.{Schedule}
use Rattle.cmd_schedule.specs.declared.schedule.Schedule.TheVariants.{Direct, Wire}
use Rattle.cmd_schedule.specs.declared.schedule.Step.TheVariants.{Tick}
use Rattle.cmd_schedule.specs.declared.schedule.Version.{Version}
use Rattle.cmd_schedule.specs.declared.schedule.WireLine.{WireLine}
use Rattle.cmd_schedule.specs.declared.schedule.WireStep.{WireStep}
use Rattle.cmd_schedule.specs.declared.schedule.WireStep.TheVariants.{Common}

-- ---- the lines of a text have no LF, and only the last may lack its own

abbrev IsCut : List Piece → Type 0
IsCut [] = Unit {0}
IsCut (p ∷ ps) = Lacks 10 p.bytes × (p.ended ≡ false → (0 < length p.bytes) × (ps ≡ [])) × IsCut ps

lacks_none : Lacks 10 []
lacks_none i lt = absurd (omega arith)

lacks_more : (b : ℕ) (bytes : List ℕ) → (b == 10) ≡ false → Lacks 10 bytes → Lacks 10 (b ∷ bytes)
lacks_more b bytes other lacks zero lt = eqb-false b 10 other
lacks_more b bytes other lacks (suc i) lt = lacks i (omega arith)

joined_cut : (b : ℕ) (ps : List Piece) → (b == 10) ≡ false → IsCut ps → IsCut (joined b ps)
joined_cut b [] other cut = (lacks_more b [] other lacks_none, λ e. (omega arith, refl), tt)
joined_cut b (p ∷ ps) other cut = (lacks_more b p.bytes other cut.0, λ e. (omega arith, (cut.1 e).1), cut.2)

pieces_cut : (text : List ℕ) → IsCut (pieces_of text)
pieces_cut [] = tt
pieces_cut (b ∷ bs) =
    elim (cases_Bool (b == 10)) [
      | inl here ↦ rw here (lacks_none, λ e. absurd (true≢false e), pieces_cut bs)
      | inr other ↦ rw other (joined_cut b (pieces_of bs) other (pieces_cut bs))
    ]

-- ---- lines as a schedule has them

abbrev as_written : Piece → Piece
as_written p = record { bytes = cond (is_restart p) (codes "tick 300000") p.bytes; ended = p.ended }

lacks_either : (b : Bool) (xs ys : List ℕ) → Lacks 10 xs → Lacks 10 ys → Lacks 10 (cond b xs ys)
lacks_either true xs ys hx hy = hx
lacks_either false xs ys hx hy = hy

some_either : (b : Bool) (xs ys : List ℕ) → 0 < length xs → 0 < length ys → 0 < length (cond b xs ys)
some_either true xs ys hx hy = hx
some_either false xs ys hx hy = hy

-- a line, and what follows it
piece_more : (bytes : List ℕ) (ended : Bool) (rest : List ℕ) (qs : List Piece) → Lacks 10 bytes → (ended ≡ false → (0 < length bytes) × (rest ≡ []) × (qs ≡ [])) → pieces_of rest ≡ qs
    → pieces_of ((bytes ++ ending_of ended) ++ rest) ≡ record { bytes = bytes; ended = ended } ∷ qs
piece_more bytes true rest qs lacks last is =
    ap pieces_of (append_assoc bytes (10 ∷ []) rest) ∙ piece_after bytes rest lacks ∙ ap (λ (ps : List Piece). record { bytes = bytes; ended = true } ∷ ps) is
piece_more bytes false rest qs lacks last is =
    let end = last refl in
    ap (λ (more : List ℕ). pieces_of ((bytes ++ []) ++ more)) end.1 ∙ ap pieces_of (append-nil (bytes ++ []) ∙ append-nil bytes) ∙ piece_all bytes end.0 lacks
    ∙ ap (λ (ps : List Piece). record { bytes = bytes; ended = false } ∷ ps) (sym end.2)

pieces_again : (ps : List Piece) → IsCut ps → pieces_of (text_as_schedule ps) ≡ map as_written ps
pieces_again [] cut = refl
pieces_again (p ∷ ps) cut =
    piece_more (cond (is_restart p) (codes "tick 300000") p.bytes) p.ended (text_as_schedule ps) (map as_written ps)
    (lacks_either (is_restart p) (codes "tick 300000") p.bytes (plain_from_all (codes "tick 300000") refl).lacks cut.0)
    (λ e. (
      some_either (is_restart p) (codes "tick 300000") p.bytes (omega arith) (cut.1 e).0,
      ap text_as_schedule (cut.1 e).1,
      ap (map as_written) (cut.1 e).1,
    ))
    (pieces_again ps cut.2)

-- ---- line 1

rest_lacks : (bytes rest : List ℕ) → Lacks 10 bytes → (cut_of bytes).rest ≡ Some rest → Lacks 10 rest
rest_lacks [] rest lacks e = absurd cc
rest_lacks (b ∷ bs) rest lacks e =
    elim (cases_Bool (b == 32)) [
      | inl here ↦ (let same : Some bs ≡ Some rest = rw here at e in subst (Lacks 10) (same_Some bs rest same) (Lacks-tail 10 b bs lacks))
      | inr other ↦ rest_lacks bs rest (Lacks-tail 10 b bs lacks) (rw other at e)
    ]

with_lacks : (word : List ℕ) (o : Option (List ℕ)) → Lacks 10 word → ((rest : List ℕ) → o ≡ Some rest → Lacks 10 rest) → Lacks 10 (with_rest word o)
with_lacks word None lacks rest = lacks
with_lacks word (Some more) lacks rest = lacks_append 10 word (32 ∷ more) lacks (lacks_more 32 more refl (rest more refl))

by_lacks : (words : List ℕ) (h : List ℕ) → Lacks 10 words → heading_by (cut_of words) ≡ Some h → Lacks 10 h
by_lacks words h lacks e =
    elim (cases_Bool (bytes_eq (cut_of words).front (codes "1"))) [
      | inl here ↦ (
          let same : Some (with_rest (codes "xmpp-schedule 2 wire") (cut_of words).rest) ≡ Some h = rw here at e in
          subst (Lacks 10) (same_Some (with_rest (codes "xmpp-schedule 2 wire") (cut_of words).rest) h same)
          (with_lacks (codes "xmpp-schedule 2 wire") (cut_of words).rest (plain_from_all (codes "xmpp-schedule 2 wire") refl).lacks (λ rest is. rest_lacks words rest lacks is))
          )
      | inr other ↦ (let none : None ≡ Some h = rw other at e in absurd cc)
    ]

where_lacks : (o : Option (List ℕ)) (h : List ℕ) → ((rest : List ℕ) → o ≡ Some rest → Lacks 10 rest) → heading_where o ≡ Some h → Lacks 10 h
where_lacks None h rest e = absurd cc
where_lacks (Some words) h rest e = by_lacks words h (rest words refl) e

heading_lacks : (name line h : List ℕ) → Lacks 10 line → heading_as_schedule name line ≡ Some h → Lacks 10 h
heading_lacks name line h lacks e =
    elim (cases_Bool (is_utf8 line)) [
      | inl spelled ↦ of_words (rw spelled at e)
      | inr bad ↦ (let none : None ≡ Some h = rw bad at e in absurd cc)
    ]
  where
    of_words : heading_of name (cut_of line) ≡ Some h → Lacks 10 h
    of_words e =
        elim (cases_Bool (bytes_eq (cut_of line).front name)) [
          | inl here ↦ where_lacks (cut_of line).rest h (λ rest is. rest_lacks line rest lacks is) (rw here at e)
          | inr other ↦ (let none : None ≡ Some h = rw other at e in absurd cc)
        ]

-- ---- lines that are read

-- one line was read, and then those after it
record IsLineRead (r : Result WireStep LineWhy) (n : ℕ) (more : WireStep → Result (List WireLine) ScheduleFault) (lines : List WireLine) : Type 0 where
  step : WireStep
  rest : List WireLine
  read : r ≡ Ok step
  others : more step ≡ Ok rest
  whole : record { number = n; step = step } ∷ rest ≡ lines

line_read : (r : Result WireStep LineWhy) (n : ℕ) (more : WireStep → Result (List WireLine) ScheduleFault) (lines : List WireLine)
    → either (λ step. with_wire_front (record { number = n; step = step }) (more step)) (λ reason. Err (BadLine n reason)) r ≡ Ok lines → IsLineRead r n more lines
line_read (Err reason) n more lines e = absurd cc
line_read (Ok step) n more lines e = by (more step) refl
  where
    by : (o : Result (List WireLine) ScheduleFault) → more step ≡ o → IsLineRead (Ok step) n more lines
    by (Ok rest) others = record { step = step; rest = rest; read = refl; others = others; whole = (let is : with_wire_front (record { number = n; step = step }) (Ok rest) ≡ Ok lines = rw others at e in cc) }
    by (Err fault) others = (let is : with_wire_front (record { number = n; step = step }) (Err fault) ≡ Ok lines = rw others at e in absurd cc)

tick_read : (above : WireAbove) (n : ℕ) (ended : Bool) (step : WireStep) → read_wire_line above n (record { bytes = codes "tick 300000"; ended = ended }) ≡ Ok step → step ≡ Common (Tick 300000)
unfolding read_wire_line wire.read_wire_words wire.read_moves wire.read_common direct.read_words direct.read_tick
tick_read above n ended step e =
    let a = gate (ended && is_utf8 (codes "tick 300000")) why.Ending _ step e in
    let b = gate (nat_le n 100000) why.Many _ step a.1 in
    sym (ok_is (Common (Tick 300000)) step b.1)

-- no later line has the number of this one
none_next : (n m : ℕ) (ps : List Piece) → n < m → is_next n (numbers_of m ps) ≡ false
none_next n m [] later = refl
none_next n m (p ∷ ps) later =
    elim (cases_Bool (is_restart p)) [
      | inl here ↦ rw here (ne_eqb m n (λ (e : m ≡ n). omega (arith, later, e)))
      | inr other ↦ rw other (none_next n (m + 1) ps (omega (arith, later)))
    ]

abbrev restarts_above : Bool → ℕ → List ℕ → List ℕ
restarts_above is n later = number_if is n ++ later

-- a line, and those after it
pauses_more : (is : Bool) (n : ℕ) (step : WireStep) (later : List ℕ) (rest : List WireLine) → (is ≡ true → step ≡ Common (Tick 300000)) → is_next n later ≡ false → ArePauses later rest
    → ArePauses (restarts_above is n later) (record { number = n; step = step } ∷ rest)
pauses_more true n step later rest pause none more = (let same = eq-eqb n n refl in rw same (pause refl, more))
pauses_more false n step later rest pause none more = rw none (tt, more)

pauses_read : (above : WireAbove) (n : ℕ) (ps : List Piece) (lines : List WireLine) → read_wire_lines above n (map as_written ps) ≡ Ok lines → ArePauses (numbers_of n ps) lines
pauses_read above n [] [] e = refl
pauses_read above n [] (line ∷ lines) e = absurd cc
pauses_read above n (p ∷ ps) lines e =
    let a = line_read (read_wire_line above n (as_written p)) n (λ step. read_wire_lines (above_by step above) (n + 1) (map as_written ps)) lines e in
    let rest = pauses_read (above_by a.step above) (n + 1) ps a.rest a.others in
    let pause : is_restart p ≡ true → a.step ≡ Common (Tick 300000) =
    λ is. tick_read above n p.ended a.step (ap (λ (bytes : List ℕ). read_wire_line above n (record { bytes = bytes; ended = p.ended })) (sym (chosen (is_restart p) is)) ∙ a.read) in
    subst (ArePauses (numbers_of n (p ∷ ps))) a.whole (pauses_more (is_restart p) n a.step (numbers_of (n + 1) ps) a.rest pause (none_next n (n + 1) ps (omega arith)) rest)
  where
    chosen : (is : Bool) → is ≡ true → cond is (codes "tick 300000") p.bytes ≡ codes "tick 300000"
    chosen true e = refl
    chosen false e = absurd (true≢false (sym e))

-- ---- a text

wire_ok : (version : Version) (r : Result (List WireLine) ScheduleFault) (s : WireView) → as_wire version r ≡ Ok (Wire s) → r ≡ Ok s.lines
wire_ok version (Ok lines) s e = cc
wire_ok version (Err d) s e = absurd cc

no_direct : (version : Version) (r : Result (List Line) ScheduleFault) (s : WireView) → as_direct version r ≡ Ok (Wire s) → ⊥
no_direct version (Ok lines) s e = cc
no_direct version (Err d) s e = cc

kind_ok : (version : Version) (is_wire : Bool) (ps : List Piece) (s : WireView) → read_kind version is_wire ps ≡ Ok (Wire s) → read_wire_lines nothing_above 2 ps ≡ Ok s.lines
kind_ok version true ps s e = wire_ok version (read_wire_lines nothing_above 2 ps) s e
kind_ok version false ps s e = absurd (no_direct version (read_lines nothing_declared 2 ps) s e)

-- the lines of a wire schedule that was read, below its line 1
read_ok : (r : Result (Heading × List Piece) LineWhy) (s : WireView) → wire.read_below r ≡ Ok (Wire s) → (begun : Heading × List Piece) × (r ≡ Ok begun) × (read_wire_lines nothing_above 2 begun.1 ≡ Ok s.lines)
read_ok (Ok begun) s e = (begun, refl, kind_ok begun.0.version begun.0.wire begun.1 s e)
read_ok (Err reason) s e = absurd cc

header_ok : (bytes : List ℕ) (ended : Bool) (ps : List Piece) (begun : Heading × List Piece) → read_header (record { bytes = bytes; ended = ended } ∷ ps) ≡ Ok begun → ps ≡ begun.1
header_ok bytes ended ps begun e =
    let a = bind_ok (as_heading (read_heading bytes)) _ begun e in
    let c = gate ended why.Ending _ begun a.2 in
    ap (λ (x : Heading × List Piece). x.1) (ok_is (a.0, ps) begun c.1)

wire_is : (r : Result Schedule ScheduleFault) (s : WireView) → wire_of r ≡ Ok s → r ≡ Ok (Wire s)
wire_is (Ok (Direct d)) s e = absurd cc
wire_is (Ok (Wire w)) s e = cc
wire_is (Err d) s e = absurd cc

-- the lines after line 1 of the text that is written of a file
lines_read : (h : List ℕ) (ended : Bool) (ps : List Piece) (s : WireView) → Lacks 10 h → 0 < length h → IsCut ps → (ended ≡ false → ps ≡ []) → reading (h ++ ending_of ended ++ text_as_schedule ps) ≡ Ok (Wire s)
    → read_wire_lines nothing_above 2 (map as_written ps) ≡ Ok s.lines
unfolding reading
lines_read h ended ps s lacks some cut last e =
    let a = read_ok (read_header (pieces_of (h ++ ending_of ended ++ text_as_schedule ps))) s e in
    let pieces : pieces_of (h ++ ending_of ended ++ text_as_schedule ps) ≡ record { bytes = h; ended = ended } ∷ map as_written ps =
    piece_more h ended (text_as_schedule ps) (map as_written ps) lacks (λ is. (some, ap text_as_schedule (last is), ap (map as_written) (last is))) (pieces_again ps cut) in
    let begun : read_header (record { bytes = h; ended = ended } ∷ map as_written ps) ≡ Ok a.0 = ap read_header (sym pieces) ∙ a.1 in
    let rest : map as_written ps ≡ a.0.1 = header_ok h ended (map as_written ps) a.0 begun in
    ap (read_wire_lines nothing_above 2) rest ∙ a.2

some_heading : (name : List ℕ) (line h : List ℕ) → heading_as_schedule name line ≡ Some h → 0 < length h
some_heading name line h e =
    elim (cases_Bool (is_utf8 line)) [
      | inl spelled ↦ of_words (rw spelled at e)
      | inr bad ↦ (let none : None ≡ Some h = rw bad at e in absurd cc)
    ]
  where
    longer : (word : List ℕ) (o : Option (List ℕ)) → 0 < length word → 0 < length (with_rest word o)
    longer word None some = some
    longer word (Some rest) some = (let whole = length-append word (32 ∷ rest) in omega (arith, some, whole))

    by_words : (words : List ℕ) → heading_by (cut_of words) ≡ Some h → 0 < length h
    by_words words e =
        elim (cases_Bool (bytes_eq (cut_of words).front (codes "1"))) [
          | inl here ↦ (
              let same : Some (with_rest (codes "xmpp-schedule 2 wire") (cut_of words).rest) ≡ Some h = rw here at e in
              subst (λ (x : List ℕ). 0 < length x) (same_Some (with_rest (codes "xmpp-schedule 2 wire") (cut_of words).rest) h same) (longer (codes "xmpp-schedule 2 wire") (cut_of words).rest (omega arith))
              )
          | inr other ↦ (let none : None ≡ Some h = rw other at e in absurd cc)
        ]

    of_rest : (o : Option (List ℕ)) → heading_where o ≡ Some h → 0 < length h
    of_rest None e = absurd cc
    of_rest (Some words) e = by_words words e

    of_words : heading_of name (cut_of line) ≡ Some h → 0 < length h
    of_words e =
        elim (cases_Bool (bytes_eq (cut_of line).front name)) [
          | inl here ↦ of_rest (cut_of line).rest (rw here at e)
          | inr other ↦ (let none : None ≡ Some h = rw other at e in absurd cc)
        ]

-- ---- a file

abbrev file_read : FileView → Result FileView ScheduleFault
file_read f = Ok f

file_is : (f g : FileView) → file_read f ≡ file_read g → f ≡ g
file_is f g e = cc

file_ok : (ps : List Piece) (r : Result WireView ScheduleFault) (f : FileView) → file_of ps r ≡ Ok f → (r ≡ Ok f.schedule) × (f.restarts ≡ numbers_of 2 ps)
file_ok ps (Ok schedule) f e =
    let same = file_is (record { schedule = schedule; restarts = numbers_of 2 ps }) f e in
    (ap (λ (g : FileView). wire_read g.schedule) same, sym (ap (λ (g : FileView). g.restarts) same))
  where
    wire_read : WireView → Result WireView ScheduleFault
    wire_read s = Ok s
file_ok ps (Err d) f e = absurd cc

below_found : (o : Option (List ℕ)) (ended : Bool) (ps : List Piece) (f : FileView) → ((h : List ℕ) → o ≡ Some h → Lacks 10 h × (0 < length h)) → IsCut ps → (ended ≡ false → ps ≡ []) → read_below o ended ps ≡ Ok f → IsRestartFile f
below_found None ended ps f heading cut last e = absurd cc
below_found (Some h) ended ps f heading cut last e =
    let text = h ++ ending_of ended ++ text_as_schedule ps in
    let read = file_ok ps (wire_of (reading text)) f e in
    let is : reading text ≡ Ok (Wire f.schedule) = wire_is (reading text) f.schedule read.0 in
    let lines = lines_read h ended ps f.schedule (heading h refl).0 (heading h refl).1 cut last is in
    record {
      schedule = (reading_found text (Wire f.schedule) is).0;
      restarts = subst (λ restarts. ArePauses restarts f.schedule.lines) (sym read.1) (pauses_read nothing_above 2 ps f.schedule.lines lines);
    }

pieces_found : (ps : List Piece) (f : FileView) → IsCut ps → read_pieces ps ≡ Ok f → IsRestartFile f
pieces_found [] f cut e = absurd cc
pieces_found (p ∷ ps) f cut e =
    let name = codes "xmpp-restarts" in
    below_found (heading_as_schedule name p.bytes) p.ended ps f (λ h is. (heading_lacks name p.bytes h cut.0 is, some_heading name p.bytes h is)) cut.2 (λ is. (cut.1 is).1) e

text_found : (text : List ℕ) (f : FileView) → reading_restarts text ≡ Ok f → IsRestartFile f
unfolding reading_restarts
text_found text f e = pieces_found (pieces_of text) f (pieces_cut text) e

pub found_of : (text : List ℕ) (r : Result FileView ScheduleFault) → (r ≡ Err NoMemory) ⊎ (r ≡ reading_restarts text) → IfOk r IsRestartFile
found_of text (Ok f) (inl e) = absurd cc
found_of text (Ok f) (inr e) = text_found text f (sym e)
found_of text (Err d) given = tt
