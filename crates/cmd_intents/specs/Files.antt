-- A file of intents, and its reading: the text is a schedule's but for line 1 and the words `intent` and `resolve`.
use Rattle.std.specs.Prelude.{ℕ, ◌+◌, ◌≤◌, nat_lt, Bool, true, false, not, ◌&&◌, List, [], ◌∷◌, ◌++◌, Option, Some, None, Result, Ok, Err, codes, length, if◌then◌else◌}
use Rattle.std.specs.Str.{bytes_eq, is_utf8}
use Rattle.cmd_schedule.specs.Reading.{Cut, Piece, cut_of, pieces_of}
use Rattle.cmd_schedule.specs.Schedules.{WireView}
use Rattle.cmd_schedule.specs.WireGrammar.{IsWireSchedule}
use Rattle.cmd_schedule.specs.WireReading.{reading}
use Rattle.cmd_schedule.specs.declared.fault.ScheduleFault.{ScheduleFault}
use Rattle.cmd_schedule.specs.declared.fault.ScheduleFault.TheVariants.{BadLine}
use Rattle.cmd_schedule.specs.declared.schedule.Schedule.{Schedule}
use Rattle.cmd_schedule.specs.declared.schedule.Schedule.TheVariants.{Direct, Wire}
use Rattle.cmd_schedule.specs.declared.fault.LineWhy.TheVariants as why
use Rattle.cmd_intents.specs.declared.rewriting.LineKind.{LineKind}
use Rattle.cmd_intents.specs.declared.rewriting.LineKind.TheVariants.{Plain, Intent, Resolve}
use Rattle.cmd_intents.specs.declared.rewriting.TheConstants.{MOST_LINES}

-- the schedule that a file is, and the numbers of its intent lines and of its resolve lines, ascending
pub record FileView : Type 0 where
  pub schedule : WireView
  pub intents : List ℕ
  pub resolves : List ℕ

-- it is a file: the schedule is one of the grammar, and there aren't too many lines of either kind
pub record IsIntentFile (f : FileView) : Type 0 where
  pub schedule : IsWireSchedule f.schedule
  pub intents : length f.intents ≤ MOST_LINES
  pub resolves : length f.resolves ≤ MOST_LINES

-- ---- one line

abbrev pub kind_of : List ℕ → LineKind
kind_of word = if bytes_eq word (codes "intent") then Intent else (if bytes_eq word (codes "resolve") then Resolve else Plain)

-- by its first word; a line that isn't ended, or isn't UTF-8, has none
abbrev pub kind_of_line : Piece → LineKind
kind_of_line p = if p.ended && is_utf8 p.bytes then kind_of (cut_of p.bytes).front else Plain

-- a word, and what follows the space after it, where there is one
abbrev pub with_rest : List ℕ → Option (List ℕ) → List ℕ
with_rest word None = word
with_rest word (Some rest) = word ++ 32 ∷ rest

abbrev pub line_by : LineKind → List ℕ → List ℕ
line_by Plain line = line
line_by Intent line = with_rest (codes "say") (cut_of line).rest
line_by Resolve line = with_rest (codes "catchup") (cut_of line).rest

abbrev pub ending_of : Bool → List ℕ
ending_of ended = if ended then 10 ∷ [] else []

-- the line as a schedule has it: `say` in place of `intent`, and `catchup` in place of `resolve`
abbrev pub line_as_schedule : Piece → List ℕ
line_as_schedule p = line_by (kind_of_line p) p.bytes ++ ending_of p.ended

-- what stands after `xmpp-intents 1` in line 1 stands after `xmpp-schedule 2 wire`
abbrev pub heading_by : Cut → Option (List ℕ)
heading_by words = if bytes_eq words.front (codes "1") then Some (with_rest (codes "xmpp-schedule 2 wire") words.rest) else None

abbrev pub heading_where : Option (List ℕ) → Option (List ℕ)
heading_where None = None
heading_where (Some rest) = heading_by (cut_of rest)

abbrev pub heading_of : Cut → Option (List ℕ)
heading_of words = if bytes_eq words.front (codes "xmpp-intents") then heading_where words.rest else None

-- line 1 as a schedule has it. There is none where it isn't a file's of intents
abbrev pub heading_as_schedule : List ℕ → Option (List ℕ)
heading_as_schedule line = if is_utf8 line then heading_of (cut_of line) else None

-- ---- the bound on intent lines and on resolve lines

-- so many stand above, and the line is one too many
abbrev pub is_beyond : ℕ → ℕ → LineKind → Bool
is_beyond intents resolves Plain = false
is_beyond intents resolves Intent = not (nat_lt intents MOST_LINES)
is_beyond intents resolves Resolve = not (nat_lt resolves MOST_LINES)

abbrev pub one_more_intent : LineKind → ℕ → ℕ
one_more_intent Intent n = n + 1
one_more_intent _ n = n

abbrev pub one_more_resolve : LineKind → ℕ → ℕ
one_more_resolve Resolve n = n + 1
one_more_resolve _ n = n

-- the lines above the first one that is one too many
abbrev pub within : ℕ → ℕ → List Piece → List Piece
within intents resolves [] = []
within intents resolves (p ∷ ps) =
    if is_beyond intents resolves (kind_of_line p) then []
    else p ∷ within (one_more_intent (kind_of_line p) intents) (one_more_resolve (kind_of_line p) resolves) ps

-- that line, and what follows it
abbrev pub beyond : ℕ → ℕ → List Piece → List Piece
beyond intents resolves [] = []
beyond intents resolves (p ∷ ps) =
    if is_beyond intents resolves (kind_of_line p) then p ∷ ps
    else beyond (one_more_intent (kind_of_line p) intents) (one_more_resolve (kind_of_line p) resolves) ps

-- ---- lines

abbrev pub text_as_schedule : List Piece → List ℕ
text_as_schedule [] = []
text_as_schedule (p ∷ ps) = line_as_schedule p ++ text_as_schedule ps

abbrev pub number_if : Bool → ℕ → List ℕ
number_if is n = if is then n ∷ [] else []

abbrev pub is_intent : LineKind → Bool
is_intent Intent = true
is_intent _ = false

abbrev pub is_resolve : LineKind → Bool
is_resolve Resolve = true
is_resolve _ = false

-- the numbers of the lines of a kind, of which the first one has number n
abbrev pub numbers_of : (LineKind → Bool) → ℕ → List Piece → List ℕ
numbers_of is n [] = []
numbers_of is n (p ∷ ps) = number_if (is (kind_of_line p)) n ++ numbers_of is (n + 1) ps

-- ---- a text

-- the line that is one too many is the bad one
abbrev pub judged : FileView → ℕ → List Piece → Result FileView ScheduleFault
judged file n [] = Ok file
judged file n (p ∷ ps) = Err (BadLine n why.Many)

abbrev pub file_of : List Piece → List Piece → Result Schedule ScheduleFault → Result FileView ScheduleFault
file_of above rest (Err fault) = Err fault
file_of above rest (Ok (Direct schedule)) = Err (BadLine 1 why.Header)
file_of above rest (Ok (Wire schedule)) =
    judged (record { schedule = schedule; intents = numbers_of is_intent 2 above; resolves = numbers_of is_resolve 2 above }) (2 + length above) rest

abbrev pub read_below : Option (List ℕ) → Bool → List Piece → Result FileView ScheduleFault
read_below None ended pieces = Err (BadLine 1 why.Header)
read_below (Some heading) ended pieces =
    file_of (within 0 0 pieces) (beyond 0 0 pieces) (reading (heading ++ ending_of ended ++ text_as_schedule (within 0 0 pieces)))

abbrev pub read_pieces : List Piece → Result FileView ScheduleFault
read_pieces [] = Err (BadLine 1 why.Header)
read_pieces (p ∷ ps) = read_below (heading_as_schedule p.bytes) p.ended ps

-- What reading a text answers, where memory doesn't run out: of the lines above one that is one too many the schedule that
-- they are, or its first bad line with its first reason; and where these are good, that line.
unfoldable pub reading_intents : List ℕ → Result FileView ScheduleFault
reading_intents text = read_pieces (pieces_of text)
