-- What reading a text answers: the script that it says, or the first bad line with its first reason.
use Rattle.std.specs.Prelude.{ℕ, ◌+◌, Bool, ◌&&◌, List, [], ◌∷◌, Option, Result, Ok, Err, codes, if◌then◌else◌}
use Rattle.std.specs.Str.{bytes_eq, is_utf8}
use Rattle.im_jid.specs.Normal.{normal}
use Rattle.im_jid.specs.declared.fault.JidFault.{JidFault}
use Rattle.cmd_schedule.specs.Grammar.{is_text}
use Rattle.cmd_schedule.specs.Reading.{Cut, Piece, cut_of, either, last_field, next_field, number_within, pieces_of, rest_field, wants, ◌>>=◌}
use Rattle.cmd_schedule.specs.declared.fault.LineWhy.{LineWhy}
use Rattle.cmd_schedule.specs.declared.fault.LineWhy.TheVariants as why
use Rattle.cmd_sync.specs.Scripts.{ScriptView, is_account, is_password, is_resource}
use Rattle.cmd_sync.specs.declared.script_fault.ScriptFault.{ScriptFault}
use Rattle.cmd_sync.specs.declared.script_fault.ScriptFault.TheVariants.{BadLine}
use Rattle.cmd_sync.specs.declared.script.Step.{Step}
use Rattle.cmd_sync.specs.declared.script.Step.TheVariants.{Say, CatchUp}
use Rattle.cmd_sync.specs.declared.script.User.{User}

-- ---- one line

-- line 1: right as it stands, it must be ended
unfoldable pub read_first : Piece → Result Bool LineWhy
read_first piece = do
  known ← wants (bytes_eq piece.bytes (codes "xmpp-sync 1")) why.Header
  wants piece.ended why.Ending

-- what follows the first word of a line, which must be this word
unfoldable pub fields_after : List ℕ → Piece → Result (Option (List ℕ)) LineWhy
fields_after word piece = do
  ended ← wants (piece.ended && is_utf8 piece.bytes) why.Ending
  named ← wants (bytes_eq (cut_of piece.bytes).front word) why.Word
  Ok (cut_of piece.bytes).rest

abbrev pub addressed : Result (List ℕ) JidFault → Result (List ℕ) LineWhy
addressed (Ok address) = Ok address
addressed (Err fault) = Err why.Name

-- the address that a field spells, in normal form
abbrev pub address_in : List ℕ → Result (List ℕ) LineWhy
address_in field = addressed (normal field)

-- who logs in
unfoldable pub read_user : Piece → Result User LineWhy
read_user piece = do
  fields ← fields_after (codes "account") piece
  field ← next_field fields
  password ← next_field field.rest
  resource ← last_field password.rest
  address ← address_in field.front
  bare ← wants (is_account address) why.Name
  spelled ← wants (is_password password.front) why.Text
  named ← wants (is_resource resource) why.Name
  Ok (record { address = address; password = password.front; resource = resource })

unfoldable pub read_say : Option (List ℕ) → Result Step LineWhy
read_say fields = do
  field ← next_field fields
  text ← rest_field field.rest
  to ← address_in field.front
  spelled ← wants (is_text text) why.Text
  Ok (Say to text)

unfoldable pub read_catch_up : Option (List ℕ) → Result Step LineWhy
read_catch_up fields = do
  field ← last_field fields
  max ← number_within 1 100 field
  Ok (CatchUp max)

-- a step, by the first word
unfoldable pub read_words : Cut → Result Step LineWhy
read_words words =
    if bytes_eq words.front (codes "say") then read_say words.rest
    else (if bytes_eq words.front (codes "catchup") then read_catch_up words.rest
    else Err why.Word)

unfoldable pub read_step : Piece → Result Step LineWhy
read_step piece = do
  ended ← wants (piece.ended && is_utf8 piece.bytes) why.Ending
  read_words (cut_of piece.bytes)

-- ---- the lines

-- what the next line says, and the lines behind it; where there is none, this reason
abbrev pub with_next : {A : Type 0} → (Piece → Result A LineWhy) → LineWhy → List Piece → Result (A × List Piece) LineWhy
with_next read missing [] = Err missing
with_next read missing (piece ∷ pieces) = either (λ x. Ok (x, pieces)) (λ reason. Err reason) (read piece)

abbrev pub with_step : Step → Result (List Step) ScriptFault → Result (List Step) ScriptFault
with_step step (Ok steps) = Ok (step ∷ steps)
with_step step (Err e) = Err e

-- the steps from line n on
abbrev pub read_steps : ℕ → List Piece → Result (List Step) ScriptFault
read_steps n [] = Ok []
read_steps n (piece ∷ pieces) =
    either
    (λ step. with_step step (read_steps (n + 1) pieces))
    (λ reason. Err (BadLine n reason))
    (read_step piece)

abbrev pub as_script : User → Result (List Step) ScriptFault → Result ScriptView ScriptFault
as_script user (Ok steps) = Ok (record { user = user; steps = steps })
as_script user (Err e) = Err e

-- from line 2 on; a line that must say who logs in and is missing is another word's
abbrev pub read_below : List Piece → Result ScriptView ScriptFault
read_below pieces =
    either
    (λ begun. as_script begun.0 (read_steps 3 begun.1))
    (λ reason. Err (BadLine 2 reason))
    (with_next read_user why.Word pieces)

-- what reading a text answers, where memory doesn't run out
unfoldable pub script_reading : List ℕ → Result ScriptView ScriptFault
script_reading text =
    either
    (λ begun. read_below begun.1)
    (λ reason. Err (BadLine 1 reason))
    (with_next read_first why.Header (pieces_of text))
