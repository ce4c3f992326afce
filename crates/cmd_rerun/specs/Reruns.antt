-- What a run that is done again gives: the server's core begins with the accounts of a file, takes the events of a journal
-- in order, and what it put out and its archives are the text.
use Rattle.std.specs.Prelude.{◌≡◌, ℕ, Bool, List, [], ◌∷◌, ◌++◌, Option, Some, None, map}
use Rattle.std.specs.List.{flat_map}
use Rattle.srv_state.specs.Seen.{outs_of}
use Rattle.srv_state.specs.State as context
use Rattle.srv_state.specs.State.{Kept, Out, Step, conn_at}
use Rattle.srv_state.specs.declared.output.Output.{Output}
use Rattle.cmd_journal.specs.AccountsFiles.{AccountsView, is_password}
use Rattle.cmd_journal.specs.Journals.{Connect, EventView, Gone, InputView, Piece, Says}
use Rattle.cmd_journal.specs.declared.accounts_file.Registration.{Registration}
use Rattle.cmd_journal.specs.Texts.{NamedView, OutputView, Put, Shut, rerun_text}
use Rattle.srv_login.specs.Accounts.{account_of}
use Rattle.srv_login.specs.declared.account.Account.{Account}
use Rattle.cmd_schedule.specs.Schedules.{keep_of}
use Rattle.srv_core.specs.Configs.{at_start}
use Rattle.srv_core.specs.Events.{Whole, after_bytes, after_connect, after_gone, dropped, fed, framer_at, news, whole}
use Rattle.xml_writer.specs.Items.{written_item}

-- a server, and what it has put out
pub record Run : Type 0 where
  pub server : Whole (List ℕ)
  pub outs : List (Out (List ℕ))

abbrev pub run_of : Whole (List ℕ) → List Output → Run
run_of server outputs = record { server = server; outs = outs_of outputs }

-- ---- the start

-- the account of a line, with the credentials that are made of its password
abbrev pub account_at : List ℕ → Registration → Account
account_at domain r = account_of r.name domain r.password

abbrev pub accounts_at : List ℕ → List Registration → List Account
accounts_at domain rs = map (account_at domain) rs

-- a server of the file's accounts, without connections, that has put out nothing
abbrev pub run_at_start : AccountsView → Run
run_at_start file = record { server = at_start file.domain (accounts_at file.domain file.accounts) (keep_of file.version); outs = [] }

-- ---- events

-- The items of a piece did this. The framer of the connection is the one that took the piece, and connections that were shut
-- have none.
abbrev pub run_after : ℕ → List ℕ → Run → Step (List ℕ) → Run
run_after k bytes r done = record {
  server = whole done.server_state (dropped (news r.outs done.outs) (fed k bytes (framer_at k r.server.framers) r.server.framers));
  outs = done.outs;
}

-- what one event makes of a server, and of what it has put out
abbrev pub after_event : EventView → Run → Run
after_event (Connect k now entropy) r = record r { server = after_connect k entropy now r.server }
after_event (Piece k now bytes) r = run_after k bytes r (after_bytes written_item k bytes now r.server r.outs)
after_event (Gone k now) r = record r { server = after_gone k now r.server }

-- all of them, in order
abbrev pub after_events : List EventView → Run → Run
after_events [] r = r
after_events (event ∷ events) r = after_events events (after_event event r)

-- ---- the text

-- what was put out, as a line has it; of a message that was archived there is none
abbrev pub line_of : Out (List ℕ) → List OutputView
line_of (context.Put k bytes) = Put k bytes ∷ []
line_of (context.Shut k) = Shut k ∷ []
line_of (context.Took from to origin) = []

abbrev pub lines_of : List (Out (List ℕ)) → List OutputView
lines_of outs = flat_map line_of outs

-- an account's archive, where it has one
abbrev pub named_kept : List ℕ → Option Kept → List NamedView
named_kept name None = []
named_kept name (Some kept) = record { name = name; last = kept.last; entries = kept.entries } ∷ []

-- the archives, each under the name of its account
abbrev pub named_archives : List Registration → List Kept → List NamedView
named_archives [] archives = []
named_archives (r ∷ rs) [] = []
named_archives (r ∷ rs) (kept ∷ archives) = named_kept r.name (Some kept) ++ named_archives rs archives

-- those in the end
abbrev pub archives_after : InputView → List NamedView
archives_after input = named_archives input.accounts.accounts (after_events input.events (run_at_start input.accounts)).server.server_state.archives

abbrev pub text_of_run : AccountsView → Run → List ℕ
text_of_run file r = rerun_text file.version (lines_of r.outs) (named_archives file.accounts r.server.server_state.archives)

-- the text of the run that this is the input of
unfoldable pub rerun_of : InputView → List ℕ
rerun_of input = text_of_run input.accounts (after_events input.events (run_at_start input.accounts))

-- the text says what some run is done again from
abbrev pub SaysRun : List ℕ → Type 0
SaysRun text = (input : InputView) × Says text input

-- ---- what is asked of accounts and events

-- the password of a line is one that an accounts file may have
abbrev pub has_password : Registration → Bool
has_password r = is_password r.password

-- a connection that comes has a number that no connection has
abbrev pub IsFresh : EventView → Whole (List ℕ) → Type 0
IsFresh (Connect k now entropy) w = (conn_at k w.server_state ≡ None) × (framer_at k w.framers ≡ None)
IsFresh event w = Unit {0}

-- so do all of these events, one after another
abbrev pub AreFresh : List EventView → Run → Type 0
AreFresh [] r = Unit {0}
AreFresh (event ∷ events) r = IsFresh event r.server × AreFresh events (after_event event r)
