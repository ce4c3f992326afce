-- Accounts that are read one after the other.
use Rattle.std.proofs.Common.{◌≡◌, ℕ, ◌+◌, true, false, List, [], ◌∷◌, ◌++◌, Result, Ok, Err, refl, sym, ap, ◌∙◌, append_assoc}
use Rattle.std.proofs.lemmas.List.{append-nil}
use Rattle.cmd_journal.specs.LineReading.{read_registration}
use Rattle.cmd_journal.specs.Reading.{Accounts, at_end, is_mark, read_registrations, with_account}
use Rattle.cmd_journal.specs.declared.accounts_file.Registration.{Registration}
use Rattle.cmd_journal.specs.declared.accounts_reading.Behind.{Behind}
use Rattle.cmd_journal.specs.declared.fault.InputFault.{InputFault}
use Rattle.cmd_journal.specs.declared.fault.InputFault.TheVariants.{BadLine}
use Rattle.cmd_schedule.specs.Reading.{Piece, pieces_of}
use Rattle.cmd_schedule.specs.declared.fault.LineWhy.{LineWhy}

-- what was read before, and what is still read
abbrev pub with_accounts : List Registration → Result Accounts InputFault → Result Accounts InputFault
with_accounts front (Ok read) = Ok (record read { accounts = front ++ read.accounts })
with_accounts front (Err e) = Err e

regroup : (front : List Registration) (r : Registration) (read : Result Accounts InputFault) → with_accounts front (with_account r read) ≡ with_accounts (front ++ r ∷ []) read
regroup front r (Ok read) = ap (λ (all : List Registration). Ok (record read { accounts = all })) (simp append_assoc)
regroup front r (Err e) = refl

account_goes_on : (front : List Registration) (following : Behind) (above : List (List ℕ)) (n : ℕ) (piece : Piece) (pieces : List Piece) (r : Registration) → is_mark following piece ≡ false → read_registration above piece ≡ Ok r
    → with_accounts front (read_registrations following above n (piece ∷ pieces)) ≡ with_accounts (front ++ r ∷ []) (read_registrations following (above ++ r.name ∷ []) (n + 1) pieces)
account_goes_on front following above n piece pieces r other h = rw (other, h) (regroup front r (read_registrations following (above ++ r.name ∷ []) (n + 1) pieces))

-- a bad line
pub accounts_stop : (front : List Registration) (following : Behind) (above : List (List ℕ)) (n : ℕ) (text rest : List ℕ) (piece : Piece) (reason : LineWhy) (total : Result Accounts InputFault)
    → pieces_of text ≡ piece ∷ pieces_of rest → is_mark following piece ≡ false → read_registration above piece ≡ Err reason
    → with_accounts front (read_registrations following above n (pieces_of text)) ≡ total → total ≡ Err (BadLine n reason)
accounts_stop front following above n text rest piece reason total parts other read so_far =
    sym so_far ∙ ap (λ (ps : List Piece). with_accounts front (read_registrations following above n ps)) parts ∙ rw (other, read) refl

-- the line at which the accounts end
pub accounts_end : (front : List Registration) (following : Behind) (above : List (List ℕ)) (n : ℕ) (text rest : List ℕ) (piece : Piece) (total : Result Accounts InputFault)
    → pieces_of text ≡ piece ∷ pieces_of rest → is_mark following piece ≡ true
    → with_accounts front (read_registrations following above n (pieces_of text)) ≡ total → total ≡ Ok (record { accounts = front; next = n + 1; rest = pieces_of rest })
accounts_end front following above n text rest piece total parts mark so_far =
    sym so_far ∙ ap (λ (ps : List Piece). with_accounts front (read_registrations following above n ps)) parts
    ∙ rw mark (ap (λ (all : List Registration). Ok (record { accounts = all; next = n + 1; rest = pieces_of rest })) (append-nil front))

-- where the lines end
pub accounts_done : (front : List Registration) (following : Behind) (above : List (List ℕ)) (n : ℕ) (total : Result Accounts InputFault)
    → with_accounts front (read_registrations following above n []) ≡ total → total ≡ with_accounts front (at_end following n)
accounts_done front following above n total so_far = sym so_far

-- one account of the text is read
pub next_account : (before now : List Registration) (following : Behind) (above after : List (List ℕ)) (n : ℕ) (text rest : List ℕ) (piece : Piece) (r : Registration) (total : Result Accounts InputFault)
    → pieces_of text ≡ piece ∷ pieces_of rest → is_mark following piece ≡ false → read_registration above piece ≡ Ok r → now ≡ before ++ r ∷ [] → after ≡ above ++ r.name ∷ []
    → with_accounts before (read_registrations following above n (pieces_of text)) ≡ total → with_accounts now (read_registrations following after (n + 1) (pieces_of rest)) ≡ total
next_account before now following above after n text rest piece r total parts other read pushed named so_far =
    rw (pushed, named)
    (sym (account_goes_on before following above n piece (pieces_of rest) r other read)
    ∙ ap (λ (ps : List Piece). with_accounts before (read_registrations following above n ps)) (sym parts) ∙ so_far)
