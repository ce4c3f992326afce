-- What is done again from a journal: the input that a journal makes behind its accounts file, and the answer to it.
use Rattle.std.specs.Prelude.{◌≡◌, ℕ, ◌≤◌, Bool, false, List, [], ◌∷◌, ◌++◌, codes, if◌then◌else◌}
use Rattle.std.specs.List.{flat_map, list_any}
use Rattle.srv_state.specs.State.{is_number}
use Rattle.cmd_journal.specs.Journals.{EventView, Gone, InputView, Piece, Says, events_text, journal_header, mark}
use Rattle.cmd_journal.specs.Texts.{NamedView, OutputView, Put, Shut, output_text}
use Rattle.cmd_rerun.specs.Reruns.{rerun_of}
use Rattle.cmd_schedule.specs.declared.schedule.Version.{Version}
use Rattle.cmd_rerun.specs.Journaling.{ending_text}

-- an accounts file, the line `%%`, and a journal as it is
abbrev pub rerun_input : List ℕ → List ℕ → List ℕ
rerun_input accounts journal = accounts ++ (mark ++ 10 ∷ journal)

-- what `rerun_bytes` says of the text that it answers
abbrev pub IsRerunOf : List ℕ → List ℕ → Type 0
IsRerunOf bytes text = (input : InputView) × Says bytes input × (text ≡ rerun_of input)

-- ---- the archives

-- behind the lines of the journal's events, and behind the lines of what was put out again, stand the same archives
pub record EndsAlike (journal again : List ℕ) : Type 0 where
  pub version : Version
  pub events : List EventView
  pub lines : List OutputView
  pub archives : List NamedView
  pub journal_is : journal ≡ journal_header version ++ 10 ∷ (events_text events ++ ending_text version archives)
  pub again_is : again ≡ codes "xmpp-rerun 1" ++ 10 ∷ (flat_map output_text lines ++ ending_text version archives)

-- ---- what events and lines say of one connection

-- what a piece of connection k brought
abbrev pub in_bytes : ℕ → EventView → List ℕ
in_bytes k (Piece j moment bytes) = if is_number k j then bytes else []
in_bytes k event = []

-- all that its pieces brought
abbrev pub bytes_in : ℕ → List EventView → List ℕ
bytes_in k events = flat_map (in_bytes k) events

abbrev pub is_gone : ℕ → EventView → Bool
is_gone k (Gone j moment) = is_number k j
is_gone k event = false

-- these say that connection k is gone
abbrev pub leaves : ℕ → List EventView → Bool
leaves k events = list_any (is_gone k) events

-- the bytes of a line `out`, where it is of connection k
abbrev pub out_bytes : ℕ → OutputView → List ℕ
out_bytes k (Put j bytes) = if is_number k j then bytes else []
out_bytes k (Shut j) = []

-- the bytes of its lines `out`, joined
abbrev pub bytes_out : ℕ → List OutputView → List ℕ
bytes_out k lines = flat_map (out_bytes k) lines

abbrev pub is_shut_line : ℕ → OutputView → Bool
is_shut_line k (Put j bytes) = false
is_shut_line k (Shut j) = is_number k j

-- one is the line `shut` of connection k
abbrev pub shuts : ℕ → List OutputView → Bool
shuts k lines = list_any (is_shut_line k) lines

-- the line is of one of the first n connections
abbrev pub IsWithin : ℕ → OutputView → Type 0
IsWithin n (Put k bytes) = (1 ≤ k) × (k ≤ n)
IsWithin n (Shut k) = (1 ≤ k) × (k ≤ n)
