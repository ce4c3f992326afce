-- What is written is read as what it says.
use Rattle.std.proofs.Common.{◌≡◌, ℕ, ◌+◌, ◌≤◌, true, false, List, [], ◌∷◌, ◌++◌, length, Some, None, Result, Ok, refl, ap, ◌∙◌, inl, inr, arith, codes, append_assoc}
use Rattle.std.specs.Prelude.{not, nat_lt, nat_le, ◌==◌}
use Rattle.std.specs.Fmt.{decimal}
use Rattle.std.specs.Str.{is_utf8}
use Rattle.std.proofs.lemmas.Bool.{and_parts, eqb-true, leb-true}
use Rattle.std.proofs.lemmas.List.{append-nil}
use Rattle.std.proofs.lemmas.List.Concat.{flat_map-cons}
use Rattle.std.proofs.lemmas.Str.{is_utf8-from_IsUtf8}
use Rattle.hex.specs.Hex.{encode_lower}
use Rattle.base_io.specs.Names.{is_among}
use Rattle.cmd_journal.proofs.HexFields.{bytes_again, entropy_again}
use Rattle.cmd_journal.proofs.Words.{IsPlain, IsWord, domain_word, hex_word, lacks_from_all, last_again, name_word, next_again, number_word, password_word, plain_after, plain_append, plain_from_all}
use Rattle.cmd_journal.specs.AccountsFiles.{AccountsView, AreRegistered, IsAccountsFile, accounts_text, domain_text, is_account_name, is_domain, is_password, may_register, preamble_text, registration_text, registrations_text}
use Rattle.cmd_journal.specs.Journals.{EventView, Connect, Piece, Gone, AreEvents, InputView, MayFollow, Says, are_bytes, begun_last, ends_events, event_text, events_text, is_connection, is_moment, journal_header, mark, may_happen}
use Rattle.cmd_journal.specs.LineReading.{connection_in, fields_after, moment_in, read_connect, read_domain, read_event, read_first, read_gone, read_journal_header, read_keep, read_piece, read_registration, read_words}
use Rattle.cmd_journal.specs.Reading.{PreambleView, accounts_reading, is_mark, read_events, read_file, read_preamble, read_registrations, read_version, rerun_reading}
use Rattle.cmd_journal.specs.declared.accounts_file.Registration.{Registration}
use Rattle.cmd_journal.specs.declared.accounts_reading.Behind.{Behind}
use Rattle.cmd_journal.specs.declared.accounts_reading.Behind.TheVariants.{Nothing, Journal}
use Rattle.cmd_journal.specs.declared.event.TheConstants.{LAST_CONNECTION}
use Rattle.cmd_journal.specs.declared.fault.InputFault.{InputFault}
use Rattle.cmd_schedule.proofs.Numbers.{number_again}
use Rattle.cmd_schedule.proofs.Words.{Lacks, piece_after}
use Rattle.cmd_schedule.specs.Grammar.{may_keep}
use Rattle.cmd_schedule.specs.Reading.{cut_of, not_empty, pieces_of}
use Rattle.cmd_schedule.specs.declared.schedule.TheConstants.{MOST_KEPT}
use Rattle.cmd_schedule.specs.declared.schedule.Version.{Version}
use Rattle.cmd_schedule.specs.declared.schedule.Version.TheVariants.{One, Two}
use Rattle.im_stamp.specs.declared.stamp_writing.TheConstants.{LAST_MOMENT}
use Rattle.cmd_schedule.specs.Reading as lines

-- a line that is ended
abbrev pub line : List ℕ → lines.Piece
line text = record { bytes = text; ended = true }

utf8_plain : (text : List ℕ) → IsPlain text → is_utf8 text ≡ true
utf8_plain text h = is_utf8-from_IsUtf8 text h.spelled

-- ---- an accounts file, line by line

record IsDomainAgain (name : List ℕ) : Type 0 where
  read : read_domain (line (domain_text name)) ≡ Ok name
  plain : IsPlain (domain_text name)

domain_again : (name : List ℕ) → is_domain name ≡ true → IsDomainAgain name
unfolding read_domain fields_after
domain_again name h =
    let word = domain_word name h in
    let plain = plain_append (codes "domain ") name (plain_from_all (codes "domain ") refl) word.plain in
    record { read = rw (utf8_plain (domain_text name) plain, last_again name word, h) refl; plain = plain }

abbrev keep_line : ℕ → List ℕ
keep_line keep = codes "keep " ++ decimal keep

record IsKeepAgain (keep : ℕ) : Type 0 where
  read : read_keep (line (keep_line keep)) ≡ Ok keep
  plain : IsPlain (keep_line keep)

keep_again : (keep : ℕ) → may_keep (Two keep) ≡ true → IsKeepAgain keep
unfolding read_keep fields_after
keep_again keep h =
    let parts = and_parts (nat_le 1 keep) (nat_le keep MOST_KEPT) h in
    let high : keep ≤ MOST_KEPT = leb-true keep MOST_KEPT parts.1 in
    let number = number_again 1 MOST_KEPT keep (leb-true 1 keep parts.0) high (omega arith) in
    let word = number_word keep (omega (arith, high)) in
    let plain = plain_append (codes "keep ") (decimal keep) (plain_from_all (codes "keep ") refl) word.plain in
    record { read = rw (utf8_plain (keep_line keep) plain, last_again (decimal keep) word) number; plain = plain }

record IsRegisteredAgain (above : List (List ℕ)) (r : Registration) : Type 0 where
  read : read_registration above (line (registration_text r)) ≡ Ok r
  plain : IsPlain (registration_text r)

registration_again : (above : List (List ℕ)) (r : Registration) → may_register above r ≡ true → IsRegisteredAgain above r
unfolding read_registration fields_after
registration_again above r h =
    let outer = and_parts _ (is_password r.password) h in
    let inner = and_parts (is_account_name r.name) (not (is_among r.name above)) outer.0 in
    let name = name_word r.name inner.0 in
    let password = password_word r.password outer.1 in
    let plain : IsPlain (registration_text r) =
    plain_append (codes "account ") (r.name ++ 32 ∷ r.password) (plain_from_all (codes "account ") refl) (plain_after r.name r.password name.plain password.plain) in
    record {
      read = rw (utf8_plain (registration_text r) plain, next_again r.name r.password name, last_again r.password password, inner.0, inner.1, outer.1) refl;
      plain = plain;
    }

-- ---- lines of a text

line_cut : (text rest : List ℕ) → Lacks 10 text → pieces_of (text ++ 10 ∷ rest) ≡ line text ∷ pieces_of rest
line_cut text rest h = piece_after text rest h

-- the same, where the line's end stands with the line
line_cut_end : (text rest : List ℕ) → Lacks 10 text → pieces_of ((text ++ 10 ∷ []) ++ rest) ≡ line text ∷ pieces_of rest
line_cut_end text rest h = ap pieces_of (append_assoc text (10 ∷ []) rest) ∙ line_cut text rest h

abbrev ok : {A : Type 0} → A → Result A InputFault
ok x = Ok x

-- the lines above the accounts are read
abbrev preamble : Version → List ℕ → ℕ → List lines.Piece → PreambleView
preamble version domain next rest = record { version = version; domain = domain; next = next; rest = rest }

one_again : (following : Behind) (domain : List ℕ) (rest : List lines.Piece) → read_domain (line (domain_text domain)) ≡ Ok domain
    → read_preamble following (line (codes "xmpp-accounts 1") ∷ line (domain_text domain) ∷ rest) ≡ Ok (preamble One domain 3 rest)
unfolding read_preamble read_version read_first
one_again following domain rest named = rw named refl

two_again : (following : Behind) (domain : List ℕ) (keep : ℕ) (rest : List lines.Piece) → read_domain (line (domain_text domain)) ≡ Ok domain → read_keep (line (keep_line keep)) ≡ Ok keep
    → read_preamble following (line (codes "xmpp-accounts 2") ∷ line (domain_text domain) ∷ line (keep_line keep) ∷ rest) ≡ Ok (preamble (Two keep) domain 4 rest)
unfolding read_preamble read_version read_first
two_again following domain keep rest named kept = rw (named, kept) refl

preamble_again : (following : Behind) (version : Version) (domain rest : List ℕ) → may_keep version ≡ true → is_domain domain ≡ true → (next : ℕ) × (read_preamble following (pieces_of (preamble_text version domain ++ rest)) ≡ Ok (preamble version domain next (pieces_of rest)))
preamble_again following One domain rest keeps named =
    let again = domain_again domain named in
    let second : pieces_of ((domain_text domain ++ 10 ∷ []) ++ rest) ≡ line (domain_text domain) ∷ pieces_of rest = line_cut_end (domain_text domain) rest again.plain.lacks in
    let first : pieces_of (preamble_text One domain ++ rest) ≡ line (codes "xmpp-accounts 1") ∷ pieces_of ((domain_text domain ++ 10 ∷ []) ++ rest) =
    line_cut (codes "xmpp-accounts 1") ((domain_text domain ++ 10 ∷ []) ++ rest) (plain_from_all (codes "xmpp-accounts 1") refl).lacks in
    let all = first ∙ ap (λ (ps : List lines.Piece). line (codes "xmpp-accounts 1") ∷ ps) second in
    (3, ap (λ (ps : List lines.Piece). read_preamble following ps) all ∙ one_again following domain (pieces_of rest) again.read)
preamble_again following (Two keep) domain rest keeps named =
    let again = domain_again domain named in
    let kept = keep_again keep keeps in
    let below : List ℕ = (keep_line keep ++ 10 ∷ []) ++ rest in
    let third : pieces_of below ≡ line (keep_line keep) ∷ pieces_of rest = line_cut_end (keep_line keep) rest kept.plain.lacks in
    let second : pieces_of (domain_text domain ++ 10 ∷ below) ≡ line (domain_text domain) ∷ pieces_of below = line_cut (domain_text domain) below again.plain.lacks in
    let first : pieces_of (codes "xmpp-accounts 2" ++ 10 ∷ (domain_text domain ++ 10 ∷ below)) ≡ line (codes "xmpp-accounts 2") ∷ pieces_of (domain_text domain ++ 10 ∷ below) =
    line_cut (codes "xmpp-accounts 2") (domain_text domain ++ 10 ∷ below) (plain_from_all (codes "xmpp-accounts 2") refl).lacks in
    let regrouped : preamble_text (Two keep) domain ++ rest ≡ codes "xmpp-accounts 2" ++ 10 ∷ (domain_text domain ++ 10 ∷ below) =
    ap (λ xs. codes "xmpp-accounts 2" ++ 10 ∷ xs) (append_assoc (domain_text domain) (10 ∷ (keep_line keep ++ 10 ∷ [])) rest) in
    let all = ap pieces_of regrouped ∙ first ∙ ap (λ (ps : List lines.Piece). line (codes "xmpp-accounts 2") ∷ ps) (second ∙ ap (λ (ps : List lines.Piece). line (domain_text domain) ∷ ps) third) in
    (4, ap (λ (ps : List lines.Piece). read_preamble following ps) all ∙ two_again following domain keep (pieces_of rest) again.read kept.read)

-- no account's line is the line at which the accounts end
not_mark : (following : Behind) (r : Registration) → is_mark following (line (registration_text r)) ≡ false
not_mark Nothing r = refl
not_mark Journal r = refl

-- accounts are read, where what stands behind them is
registrations_again : (following : Behind) (above : List (List ℕ)) (n next : ℕ) (accounts : List Registration) (rest : List ℕ) (left : List lines.Piece) → AreRegistered above accounts
    → ((names : List (List ℕ)) (m : ℕ) → m ≡ n + length accounts → read_registrations following names m (pieces_of rest) ≡ Ok (record { accounts = []; next = next; rest = left }))
    → read_registrations following above n (pieces_of (registrations_text accounts ++ rest)) ≡ Ok (record { accounts = accounts; next = next; rest = left })
registrations_again following above n next [] rest left right ends = ends above n (omega arith)
registrations_again following above n next (r ∷ rs) rest left right ends =
    let again = registration_again above r right.0 in
    let others = registrations_again following (above ++ r.name ∷ []) (n + 1) next rs rest left right.1 (λ names m is. ends names m (omega (arith, is))) in
    let text : List ℕ = registration_text r ++ 10 ∷ [] in
    let regrouped : registrations_text (r ∷ rs) ++ rest ≡ text ++ (registrations_text rs ++ rest) =
    ap (λ xs. xs ++ rest) (flat_map-cons (λ (x : Registration). registration_text x ++ 10 ∷ []) r rs) ∙ append_assoc text (registrations_text rs) rest in
    let cut : pieces_of (registrations_text (r ∷ rs) ++ rest) ≡ line (registration_text r) ∷ pieces_of (registrations_text rs ++ rest) =
    ap pieces_of regrouped ∙ line_cut_end (registration_text r) (registrations_text rs ++ rest) again.plain.lacks in
    rw (cut, not_mark following r, again.read, others) refl

pub accounts_again : (file : AccountsView) → IsAccountsFile file → accounts_reading (accounts_text file) ≡ Ok file
unfolding accounts_reading read_file
accounts_again file h =
    let above = preamble_again Nothing file.version file.domain (registrations_text file.accounts) h.keeps h.domain in
    let whole : pieces_of (registrations_text file.accounts ++ []) ≡ pieces_of (registrations_text file.accounts) = ap pieces_of (append-nil (registrations_text file.accounts)) in
    let read = registrations_again Nothing [] above.0 (above.0 + length file.accounts) file.accounts [] [] h.accounts (λ names m is. rw is refl) in
    rw (above.1, rw whole at read) refl

-- ---- an event

record IsNumberAgain (n : ℕ) : Type 0 where
  read : connection_in (decimal n) ≡ Ok n
  word : IsWord (decimal n)

connection_again : (n : ℕ) → is_connection n ≡ true → IsNumberAgain n
connection_again n h =
    let parts = and_parts (nat_le 1 n) (nat_le n LAST_CONNECTION) h in
    let high : n ≤ LAST_CONNECTION = leb-true n LAST_CONNECTION parts.1 in
    record { read = number_again 1 LAST_CONNECTION n (leb-true 1 n parts.0) high (omega arith); word = number_word n (omega (arith, high)) }

record IsMomentAgain (n : ℕ) : Type 0 where
  read : moment_in (decimal n) ≡ Ok n
  word : IsWord (decimal n)

moment_again : (n : ℕ) → is_moment n ≡ true → IsMomentAgain n
moment_again n h =
    let high : n ≤ LAST_MOMENT = leb-true n LAST_MOMENT h in
    record { read = number_again 0 LAST_MOMENT n (omega arith) high (omega arith); word = number_word n (omega (arith, high)) }

-- three fields, as they are read
three : (word a b c : List ℕ) → (word ++ a ++ 32 ∷ b ++ 32 ∷ c) ≡ word ++ (a ++ 32 ∷ (b ++ 32 ∷ c))
three word a b c = simp append_assoc

two : (word a b : List ℕ) → (word ++ a ++ 32 ∷ b) ≡ word ++ (a ++ 32 ∷ b)
two word a b = simp append_assoc

record IsEventAgain (last : ℕ) (event : EventView) : Type 0 where
  read : read_words last (cut_of (event_text event)) ≡ Ok event
  plain : IsPlain (event_text event)
  goes_on : ends_events (cut_of (event_text event)).front ≡ false

some_24 : (bytes : List ℕ) → length bytes ≡ 24 → not_empty bytes ≡ true
some_24 [] h = absurd (omega (arith, h))
some_24 (b ∷ bytes) h = refl

connect_again : (last k now : ℕ) (bytes : List ℕ) → may_happen last (Connect k now bytes) ≡ true → IsEventAgain last (Connect k now bytes)
unfolding read_words read_connect
connect_again last k now bytes h =
    let p = and_parts _ (are_bytes bytes) h in
    let q = and_parts _ (length bytes == 24) p.0 in
    let r = and_parts _ (is_moment now) q.0 in
    let s = and_parts (is_connection k) (nat_lt last k) r.0 in
    let size : length bytes ≡ 24 = eqb-true (length bytes) 24 q.1 in
    let number = connection_again k s.0 in
    let moment = moment_again now r.1 in
    let field = hex_word bytes (some_24 bytes size) p.1 in
    let fields : List ℕ = decimal k ++ 32 ∷ (decimal now ++ 32 ∷ encode_lower bytes) in
    let is : event_text (Connect k now bytes) ≡ codes "connect " ++ fields = three (codes "connect ") (decimal k) (decimal now) (encode_lower bytes) in
    record {
      read = ap (λ (xs : List ℕ). read_words last (cut_of xs)) is ∙ rw (
        next_again (decimal k) (decimal now ++ 32 ∷ encode_lower bytes) number.word,
        next_again (decimal now) (encode_lower bytes) moment.word,
        last_again (encode_lower bytes) field,
        number.read,
        s.1,
        moment.read,
        entropy_again bytes p.1 size,
      ) refl;
      plain = rw is (plain_append (codes "connect ") fields (plain_from_all (codes "connect ") refl) (plain_after (decimal k) _ number.word.plain (plain_after (decimal now) _ moment.word.plain field.plain)));
      goes_on = ap (λ (xs : List ℕ). ends_events (cut_of xs).front) is;
    }

piece_again : (last k now : ℕ) (bytes : List ℕ) → may_happen last (Piece k now bytes) ≡ true → IsEventAgain last (Piece k now bytes)
unfolding read_words read_piece
piece_again last k now bytes h =
    let p = and_parts _ (are_bytes bytes) h in
    let q = and_parts _ (not_empty bytes) p.0 in
    let r = and_parts (is_connection k) (is_moment now) q.0 in
    let number = connection_again k r.0 in
    let moment = moment_again now r.1 in
    let field = hex_word bytes q.1 p.1 in
    let fields : List ℕ = decimal k ++ 32 ∷ (decimal now ++ 32 ∷ encode_lower bytes) in
    let is : event_text (Piece k now bytes) ≡ codes "piece " ++ fields = three (codes "piece ") (decimal k) (decimal now) (encode_lower bytes) in
    record {
      read = ap (λ (xs : List ℕ). read_words last (cut_of xs)) is ∙ rw (
        next_again (decimal k) (decimal now ++ 32 ∷ encode_lower bytes) number.word,
        next_again (decimal now) (encode_lower bytes) moment.word,
        last_again (encode_lower bytes) field,
        number.read,
        moment.read,
        bytes_again bytes p.1,
      ) refl;
      plain = rw is (plain_append (codes "piece ") fields (plain_from_all (codes "piece ") refl) (plain_after (decimal k) _ number.word.plain (plain_after (decimal now) _ moment.word.plain field.plain)));
      goes_on = ap (λ (xs : List ℕ). ends_events (cut_of xs).front) is;
    }

gone_again : (last k now : ℕ) → may_happen last (Gone k now) ≡ true → IsEventAgain last (Gone k now)
unfolding read_words read_gone
gone_again last k now h =
    let r = and_parts (is_connection k) (is_moment now) h in
    let number = connection_again k r.0 in
    let moment = moment_again now r.1 in
    let fields : List ℕ = decimal k ++ 32 ∷ decimal now in
    let is : event_text (Gone k now) ≡ codes "gone " ++ fields = two (codes "gone ") (decimal k) (decimal now) in
    record {
      read = ap (λ (xs : List ℕ). read_words last (cut_of xs)) is ∙ rw (next_again (decimal k) (decimal now) number.word, last_again (decimal now) moment.word, number.read, moment.read) refl;
      plain = rw is (plain_append (codes "gone ") fields (plain_from_all (codes "gone ") refl) (plain_after (decimal k) _ number.word.plain moment.word.plain));
      goes_on = ap (λ (xs : List ℕ). ends_events (cut_of xs).front) is;
    }

event_again : (last : ℕ) (event : EventView) → may_happen last event ≡ true → IsEventAgain last event
event_again last (Connect k now bytes) h = connect_again last k now bytes h
event_again last (Piece k now bytes) h = piece_again last k now bytes h
event_again last (Gone k now) h = gone_again last k now h

pub event_read : (last : ℕ) (event : EventView) → may_happen last event ≡ true → read_event last (line (event_text event)) ≡ Ok (Some event)
unfolding read_event
event_read last event h =
    let again = event_again last event h in
    rw (utf8_plain (event_text event) again.plain, again.goes_on, again.read) refl

-- ---- events

ends_read : (last : ℕ) (text : List ℕ) → is_utf8 text ≡ true → ends_events (cut_of text).front ≡ true → read_event last (line text) ≡ Ok None
unfolding read_event
ends_read last text spelled ends = rw (spelled, ends) refl

follow_read : (last n : ℕ) (rest : List ℕ) → MayFollow rest → read_events last n (pieces_of rest) ≡ Ok []
follow_read last n rest (inl none) = rw none refl
follow_read last n rest (inr following) =
    let lacks : Lacks 10 following.line = lacks_from_all (λ b. not (b == 10)) 10 following.line refl following.one_line in
    let cut : pieces_of rest ≡ line following.line ∷ pieces_of following.rest = ap pieces_of following.whole ∙ line_cut following.line following.rest lacks in
    rw (cut, ends_read last following.line following.spelled following.ends) refl

events_again : (last n : ℕ) (events : List EventView) (rest : List ℕ) → AreEvents last events → MayFollow rest → read_events last n (pieces_of (events_text events ++ rest)) ≡ Ok events
events_again last n [] rest right follow = follow_read last n rest follow
events_again last n (event ∷ events) rest right follow =
    let others = events_again (begun_last last event) (n + 1) events rest right.1 follow in
    let text : List ℕ = event_text event ++ 10 ∷ [] in
    let regrouped : events_text (event ∷ events) ++ rest ≡ text ++ (events_text events ++ rest) =
    ap (λ xs. xs ++ rest) (flat_map-cons (λ (x : EventView). event_text x ++ 10 ∷ []) event events) ∙ append_assoc text (events_text events) rest in
    let cut : pieces_of (events_text (event ∷ events) ++ rest) ≡ line (event_text event) ∷ pieces_of (events_text events ++ rest) =
    ap pieces_of regrouped ∙ line_cut_end (event_text event) (events_text events ++ rest) (event_again last event right.0).plain.lacks in
    rw (cut, event_read last event right.0, others) refl

-- ---- the whole

header_lacks : (version : Version) → Lacks 10 (journal_header version)
header_lacks One = (plain_from_all (codes "xmpp-journal 1") refl).lacks
header_lacks (Two keep) = (plain_from_all (codes "xmpp-journal 2") refl).lacks

header_read : (version : Version) → read_journal_header version (line (journal_header version)) ≡ Ok true
unfolding read_journal_header
header_read One = refl
header_read (Two keep) = refl

mark_read : (names : List (List ℕ)) (m : ℕ) (rest : List ℕ) → read_registrations Journal names m (pieces_of (mark ++ 10 ∷ rest)) ≡ Ok (record { accounts = []; next = m + 1; rest = pieces_of rest })
mark_read names m rest = ap (λ (ps : List lines.Piece). read_registrations Journal names m ps) (line_cut mark rest (plain_from_all mark refl).lacks)

pub rerun_again : (text : List ℕ) (input : InputView) → Says text input → rerun_reading text ≡ Ok input
unfolding rerun_reading read_file
rerun_again text input h =
    let file : AccountsView = input.accounts in
    let header : List ℕ = journal_header file.version in
    let below : List ℕ = events_text input.events ++ h.rest in
    let journal : List ℕ = mark ++ 10 ∷ (header ++ 10 ∷ below) in
    let above = preamble_again Journal file.version file.domain (registrations_text file.accounts ++ journal) h.right.accounts.keeps h.right.accounts.domain in
    let read = registrations_again Journal [] above.0 (above.0 + length file.accounts + 1) file.accounts journal (pieces_of (header ++ 10 ∷ below)) h.right.accounts.accounts
    (λ names m is. mark_read names m (header ++ 10 ∷ below) ∙ ap (λ k. ok (record { accounts = []; next = k + 1; rest = pieces_of (header ++ 10 ∷ below) })) is) in
    let cut = line_cut header below (header_lacks file.version) in
    let events = events_again 0 (above.0 + length file.accounts + 1 + 1) input.events h.rest h.right.events h.follows in
    let regrouped : text ≡ preamble_text file.version file.domain ++ (registrations_text file.accounts ++ journal) = h.whole ∙ regroup (preamble_text file.version file.domain) (registrations_text file.accounts) mark header (events_text input.events) h.rest in
    rw (regrouped, above.1, read, cut, header_read file.version, events) refl
  where
    regroup : (a b m h e r : List ℕ) → (a ++ b ++ (m ++ 10 ∷ (h ++ 10 ∷ e))) ++ r ≡ a ++ (b ++ (m ++ 10 ∷ (h ++ 10 ∷ (e ++ r))))
    regroup a b m h e r = simp append_assoc
