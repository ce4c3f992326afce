-- What is read is right, and the text is its text.
use Rattle.std.proofs.Common.{◌≡◌, ℕ, ◌+◌, Bool, true, false, cond, eqb, List, [], ◌∷◌, ◌++◌, length, Option, Some, None, Result, Ok, Err, refl, sym, ap, subst, ◌∙◌, inl, inr, codes, append_assoc, arith}
use Rattle.std.specs.Prelude.{not, ◌&&◌, ◌||◌, ◌⊎◌, IsTrue, nat_lt, ◌==◌}
use Rattle.std.specs.Fmt.{decimal}
use Rattle.std.specs.List.{AllByRecursion, list_all}
use Rattle.std.specs.Str.{bytes_eq, is_utf8}
use Rattle.std.proofs.lemmas.Bool.{and_parts, and_from, cases_Bool, eqb-true, eq-eqb, le-leb}
use Rattle.std.proofs.lemmas.List.{append-nil}
use Rattle.std.proofs.lemmas.List.Concat.{flat_map-cons}
use Rattle.std.proofs.lemmas.Slice.Eq.{bytes_eq-Decides}
use Rattle.hex.specs.Hex.{encode_lower}
use Rattle.base_io.specs.Names.{is_among}
use Rattle.cmd_journal.proofs.ReadFields.{bind_ok, gate, done, ok_is, chosen, with_rest, cut_back, next_is, last_is, last_some, line_is}
use Rattle.cmd_journal.proofs.HexFields.{bytes_found, entropy_found, some_bytes}
use Rattle.cmd_journal.specs.AccountsFiles.{AccountsView, AreRegistered, IsAccountsFile, accounts_text, domain_text, is_account_name, is_domain, is_password, may_register, preamble_text, registration_text, registrations_text}
use Rattle.cmd_journal.specs.Journals.{EventView, Connect, Piece, Gone, AreEvents, InputView, MayFollow, Says, begun_last, ends_events, event_text, events_text, input_text, is_connection, is_moment, journal_header, mark, may_happen}
use Rattle.cmd_journal.specs.LineReading.{as_some, bytes_in, connection_in, entropy_in, fields_after, moment_in, read_connect, read_domain, read_event, read_first, read_gone, read_journal_header, read_keep, read_piece, read_registration, read_words}
use Rattle.cmd_journal.specs.Reading.{Accounts, BegunView, PreambleView, accounts_reading, at_end, at_line, if_event, is_mark, missing_line, read_events, read_file, read_preamble, read_registrations, read_version, rerun_reading, with_account, with_event, with_next, ◌>>=◌}
use Rattle.cmd_journal.specs.declared.accounts_file.Registration.{Registration}
use Rattle.cmd_journal.specs.declared.accounts_reading.Behind.{Behind}
use Rattle.cmd_journal.specs.declared.accounts_reading.Behind.TheVariants.{Nothing, Journal}
use Rattle.cmd_journal.specs.declared.event.TheConstants.{LAST_CONNECTION}
use Rattle.cmd_journal.specs.declared.fault.InputFault.{InputFault}
use Rattle.cmd_journal.specs.declared.fault.InputFault.TheVariants.{BadLine}
use Rattle.cmd_schedule.proofs.Numbers.{number_found}
use Rattle.cmd_schedule.specs.Grammar.{may_keep}
use Rattle.cmd_schedule.specs.Reading.{Cut, cut_of, either, joined, last_field, next_field, not_empty, pieces_of}
use Rattle.cmd_schedule.specs.declared.fault.LineWhy.{LineWhy}
use Rattle.cmd_schedule.specs.declared.schedule.TheConstants.{MOST_KEPT}
use Rattle.cmd_schedule.specs.declared.schedule.Version.{Version}
use Rattle.cmd_schedule.specs.declared.schedule.Version.TheVariants.{One, Two}
use Rattle.im_stamp.specs.declared.stamp_writing.TheConstants.{LAST_MOMENT}
use Rattle.cmd_schedule.specs.Reading as lines
use Rattle.cmd_schedule.specs.declared.fault.LineWhy.TheVariants as why

-- ---- steps over lines that did not fail

step_ok : {A B : Type 0} (r : Result A InputFault) (f : A → Result B InputFault) (y : B) → (r >>= f) ≡ Ok y → (x : A) × (r ≡ Ok x) × (f x ≡ Ok y)
step_ok (Ok x) f y e = (x, refl, e)
step_ok (Err d) f y e = absurd cc

abbrev got : {A : Type 0} → A → Result A InputFault
got x = Ok x

got_is : {A : Type 0} (x y : A) → got x ≡ got y → x ≡ y
got_is x y e = cc

at_line_ok : {A : Type 0} (n : ℕ) (r : Result A LineWhy) (x : A) → at_line n r ≡ Ok x → r ≡ Ok x
at_line_ok n (Ok y) x e = cc
at_line_ok n (Err reason) x e = absurd cc

either_ok : {A B : Type 0} (r : Result A LineWhy) (f : A → Result B InputFault) (n : ℕ) (y : B) → either f (λ reason. Err (BadLine n reason)) r ≡ Ok y → (x : A) × (r ≡ Ok x) × (f x ≡ Ok y)
either_ok (Ok x) f n y e = (x, refl, e)
either_ok (Err reason) f n y e = absurd cc

-- a line was read, and the lines behind it are left
record HasNext {A : Type 0} (read : lines.Piece → Result A LineWhy) (pieces : List lines.Piece) (y : A × List lines.Piece) : Type 0 where
  piece : lines.Piece
  whole : pieces ≡ piece ∷ y.1
  told : read piece ≡ Ok y.0

either_next : {A : Type 0} (r : Result A LineWhy) (pieces : List lines.Piece) (y : A × List lines.Piece) → either (λ x. done (x, pieces)) (λ reason. Err reason) r ≡ Ok y → (r ≡ Ok y.0) × (pieces ≡ y.1)
either_next {A} (Ok x) pieces y e =
    let same : (x, pieces) ≡ y = ok_is (x, pieces) y e in
    (ap (λ (p : A × List lines.Piece). done p.0) same, ap (λ (p : A × List lines.Piece). p.1) same)
either_next (Err reason) pieces y e = absurd cc

next_ok : {A : Type 0} (read : lines.Piece → Result A LineWhy) (missing : LineWhy) (pieces : List lines.Piece) (y : A × List lines.Piece) → with_next read missing pieces ≡ Ok y → HasNext read pieces y
next_ok read missing [] y e = absurd cc
next_ok read missing (piece ∷ pieces) y e =
    let both = either_next (read piece) pieces y e in
    record { piece = piece; whole = ap (λ (ps : List lines.Piece). piece ∷ ps) both.1; told = both.0 }

-- ---- lines and their text

abbrev pub text_of_piece : lines.Piece → List ℕ → List ℕ
text_of_piece piece rest = piece.bytes ++ cond piece.ended (10 ∷ rest) rest

abbrev pub text_of_pieces : List lines.Piece → List ℕ
text_of_pieces [] = []
text_of_pieces (piece ∷ pieces) = text_of_piece piece (text_of_pieces pieces)

joined_back : (b : ℕ) (pieces : List lines.Piece) → text_of_pieces (joined b pieces) ≡ b ∷ text_of_pieces pieces
joined_back b [] = refl
joined_back b (piece ∷ pieces) = refl

pieces_back : (text : List ℕ) → text_of_pieces (pieces_of text) ≡ text
pieces_back [] = refl
pieces_back (b ∷ bs) =
    elim (cases_Bool (eqb b 10)) [
      | inl e ↦ rw e (ap (λ (xs : List ℕ). 10 ∷ xs) (pieces_back bs) ∙ ap (λ (x : ℕ). x ∷ bs) (sym (eqb-true b 10 e)))
      | inr e ↦ rw e (joined_back b (pieces_of bs) ∙ ap (λ (xs : List ℕ). b ∷ xs) (pieces_back bs))
    ]

ended_text : (piece : lines.Piece) (text rest : List ℕ) → piece.ended ≡ true → piece.bytes ≡ text → text_of_piece piece rest ≡ text ++ 10 ∷ rest
ended_text piece text rest e is = rw (e, is) refl

-- no line has an LF
abbrev is_one_line : List ℕ → Bool
is_one_line line = list_all (λ b. not (b == 10)) line

abbrev AreOneLine : List lines.Piece → Type 0
AreOneLine pieces = AllByRecursion (λ piece. is_one_line piece.bytes ≡ true) pieces

one_line-joined : (b : ℕ) (pieces : List lines.Piece) → eqb b 10 ≡ false → AreOneLine pieces → AreOneLine (joined b pieces)
one_line-joined b [] other all = (rw other refl, tt)
one_line-joined b (piece ∷ pieces) other all = (rw other all.0, all.1)

one_line-pieces : (text : List ℕ) → AreOneLine (pieces_of text)
one_line-pieces [] = tt
one_line-pieces (b ∷ bs) =
    elim (cases_Bool (eqb b 10)) [
      | inl e ↦ rw e (refl, one_line-pieces bs)
      | inr e ↦ rw e (one_line-joined b (pieces_of bs) e (one_line-pieces bs))
    ]

-- ---- an accounts file, line by line

-- a line that was read has this text
abbrev IsText : lines.Piece → List ℕ → Type 0
IsText piece text = (piece.ended ≡ true) × (piece.bytes ≡ text)

abbrev first_text : Bool → List ℕ
first_text true = codes "xmpp-accounts 2"
first_text false = codes "xmpp-accounts 1"

first_is : (bytes : List ℕ) (one two : Bool) → bytes_eq bytes (codes "xmpp-accounts 1") ≡ one → bytes_eq bytes (codes "xmpp-accounts 2") ≡ two → (one || two) ≡ true → bytes ≡ first_text two
first_is bytes true true e f h = (bytes_eq-Decides bytes (codes "xmpp-accounts 2")).0 f
first_is bytes false true e f h = (bytes_eq-Decides bytes (codes "xmpp-accounts 2")).0 f
first_is bytes true false e f h = (bytes_eq-Decides bytes (codes "xmpp-accounts 1")).0 e
first_is bytes false false e f h = absurd cc

first_found : (piece : lines.Piece) (two : Bool) → read_first piece ≡ Ok two → IsText piece (first_text two)
unfolding read_first
first_found piece two e =
    let a = gate (bytes_eq piece.bytes (codes "xmpp-accounts 1") || bytes_eq piece.bytes (codes "xmpp-accounts 2")) why.Header _ two e in
    let b = gate piece.ended why.Ending _ two a.1 in
    let is : bytes_eq piece.bytes (codes "xmpp-accounts 2") ≡ two = ok_is _ two b.1 in
    (b.0, first_is piece.bytes (bytes_eq piece.bytes (codes "xmpp-accounts 1")) two refl is (ap (λ t. bytes_eq piece.bytes (codes "xmpp-accounts 1") || t) (sym is) ∙ a.0))

with_field : (word field : List ℕ) (fields : Option (List ℕ)) → fields ≡ Some field → with_rest word fields ≡ word ++ 32 ∷ field
with_field word field fields is = rw is refl

domain_found : (piece : lines.Piece) (name : List ℕ) → read_domain piece ≡ Ok name → IsText piece (domain_text name) × IsTrue (is_domain name)
unfolding read_domain
domain_found piece name e =
    let a = bind_ok (fields_after (codes "domain") piece) _ name e in
    let b = bind_ok (last_field a.0) _ name a.2 in
    let c = gate (is_domain b.0) why.Name _ name b.2 in
    let line = line_is (codes "domain") piece a.0 a.1 in
    subst (λ (n : List ℕ). IsText piece (domain_text n) × IsTrue (is_domain n)) (ok_is b.0 name c.1)
    ((line.ended, line.whole ∙ with_field (codes "domain") b.0 a.0 (last_is a.0 b.0 b.1)), c.0)

keep_found : (piece : lines.Piece) (keep : ℕ) → read_keep piece ≡ Ok keep → IsText piece (codes "keep " ++ decimal keep) × IsTrue (may_keep (Two keep))
unfolding read_keep
keep_found piece keep e =
    let a = bind_ok (fields_after (codes "keep") piece) _ keep e in
    let b = bind_ok (last_field a.0) _ keep a.2 in
    let n = number_found 1 MOST_KEPT b.0 keep (omega arith) b.2 in
    let line = line_is (codes "keep") piece a.0 a.1 in (
      (line.ended, line.whole ∙ with_field (codes "keep") b.0 a.0 (last_is a.0 b.0 b.1) ∙ ap (λ xs. codes "keep " ++ xs) n.2),
      and_from _ _ (le-leb 1 keep n.0) (le-leb keep MOST_KEPT n.1),
    )

with_two : (word one two : List ℕ) (fields rest : Option (List ℕ)) → fields ≡ Some (with_rest one rest) → rest ≡ Some two → with_rest word fields ≡ word ++ 32 ∷ (one ++ 32 ∷ two)
with_two word one two fields rest is after = rw (is, after) refl

registration_found : (above : List (List ℕ)) (piece : lines.Piece) (r : Registration) → read_registration above piece ≡ Ok r → IsText piece (registration_text r) × IsTrue (may_register above r)
unfolding read_registration
registration_found above piece r e =
    let a = bind_ok (fields_after (codes "account") piece) _ r e in
    let b = bind_ok (next_field a.0) _ r a.2 in
    let l = bind_ok (last_field b.0.rest) _ r b.2 in
    let c = gate (is_account_name b.0.front) why.Name _ r l.2 in
    let d = gate (not (is_among b.0.front above)) why.Twice _ r c.1 in
    let k = gate (is_password l.0) why.Text _ r d.1 in
    let line = line_is (codes "account") piece a.0 a.1 in
    let text = with_two (codes "account") b.0.front l.0 a.0 b.0.rest (next_is a.0 b.0 b.1) (last_is b.0.rest l.0 l.1) in
    subst (λ (x : Registration). IsText piece (registration_text x) × IsTrue (may_register above x)) (ok_is _ r k.1)
    ((line.ended, line.whole ∙ text), and_from _ _ (and_from _ _ c.0 d.0) k.0)

-- ---- the lines above the accounts

-- the lines are those of this, and then come others
record Stands (pieces : List lines.Piece) (text : List ℕ) (rest : List lines.Piece) : Type 0 where
  whole : text_of_pieces pieces ≡ text ++ text_of_pieces rest
  one_line : AreOneLine pieces → AreOneLine rest

one_stands : (pieces rest : List lines.Piece) (piece : lines.Piece) (text : List ℕ) → pieces ≡ piece ∷ rest → IsText piece text → Stands pieces (text ++ 10 ∷ []) rest
one_stands pieces rest piece text is read = record {
  whole = ap text_of_pieces is ∙ ended_text piece text (text_of_pieces rest) read.0 read.1 ∙ sym (append_assoc text (10 ∷ []) (text_of_pieces rest));
  one_line = λ all. (subst AreOneLine is all).1;
}

then_stands : (pieces middle rest : List lines.Piece) (one two : List ℕ) → Stands pieces one middle → Stands middle two rest → Stands pieces (one ++ two) rest
then_stands pieces middle rest one two first second = record {
  whole = first.whole ∙ ap (λ xs. one ++ xs) second.whole ∙ sym (append_assoc one two (text_of_pieces rest));
  one_line = λ all. second.one_line (first.one_line all);
}

none_stands : (pieces : List lines.Piece) → Stands pieces [] pieces
none_stands pieces = record { whole = refl; one_line = λ all. all }

abbrev keep_text : Version → List ℕ
keep_text One = []
keep_text (Two keep) = codes "keep " ++ decimal keep ++ 10 ∷ []

abbrev is_two : Version → Bool
is_two One = false
is_two (Two keep) = true

-- what is above the accounts behind the domain's line
record IsVersion (has_keep : Bool) (name : List ℕ) (pieces : List lines.Piece) (above : PreambleView) : Type 0 where
  keeps : IsTrue (may_keep above.version)
  domain : name ≡ above.domain
  stands : Stands pieces (keep_text above.version) above.rest
  two : has_keep ≡ is_two above.version

version_found : (following : Behind) (two : Bool) (domain : List ℕ) (pieces : List lines.Piece) (above : PreambleView) → read_version following two domain pieces ≡ Ok above → IsVersion two domain pieces above
unfolding read_version
version_found following false domain pieces above e =
    subst (λ (p : PreambleView). IsVersion false domain pieces p) (got_is _ above e)
    (record { keeps = refl; domain = refl; stands = none_stands pieces; two = refl })
version_found following true domain pieces above e =
    let a = step_ok (at_line 3 (with_next read_keep (missing_line following) pieces)) _ above e in
    let next = next_ok read_keep (missing_line following) pieces a.0 (at_line_ok 3 (with_next read_keep (missing_line following) pieces) a.0 a.1) in
    let keep = keep_found next.piece a.0.0 next.told in
    subst (λ (p : PreambleView). IsVersion true domain pieces p) (got_is _ above a.2)
    (record { keeps = keep.1; domain = refl; stands = one_stands pieces a.0.1 next.piece (codes "keep " ++ decimal a.0.0) next.whole keep.0; two = refl })

preamble_is : (version : Version) (domain : List ℕ) → (first_text (is_two version) ++ 10 ∷ []) ++ ((domain_text domain ++ 10 ∷ []) ++ keep_text version) ≡ preamble_text version domain
preamble_is One domain = ap (λ xs. codes "xmpp-accounts 1" ++ 10 ∷ xs) (append-nil (domain_text domain ++ 10 ∷ []))
preamble_is (Two keep) domain = ap (λ xs. codes "xmpp-accounts 2" ++ 10 ∷ xs) (append_assoc (domain_text domain) (10 ∷ []) (keep_text (Two keep)))

record IsPreamble (pieces : List lines.Piece) (above : PreambleView) : Type 0 where
  keeps : IsTrue (may_keep above.version)
  domain : IsTrue (is_domain above.domain)
  stands : Stands pieces (preamble_text above.version above.domain) above.rest

preamble_found : (following : Behind) (pieces : List lines.Piece) (above : PreambleView) → read_preamble following pieces ≡ Ok above → IsPreamble pieces above
unfolding read_preamble
preamble_found following pieces above e =
    let a = step_ok (at_line 1 (with_next read_first why.Header pieces)) _ above e in
    let first = next_ok read_first why.Header pieces a.0 (at_line_ok 1 (with_next read_first why.Header pieces) a.0 a.1) in
    let b = step_ok (at_line 2 (with_next read_domain (missing_line following) a.0.1)) _ above a.2 in
    let named = next_ok read_domain (missing_line following) a.0.1 b.0 (at_line_ok 2 (with_next read_domain (missing_line following) a.0.1) b.0 b.1) in
    let version = version_found following a.0.0 b.0.0 b.0.1 above b.2 in
    let is_first : IsText first.piece (first_text (is_two above.version)) = subst (λ two. IsText first.piece (first_text two)) version.two (first_found first.piece a.0.0 first.told) in
    let domain = domain_found named.piece b.0.0 named.told in
    let is_domain_line : IsText named.piece (domain_text above.domain) = subst (λ name. IsText named.piece (domain_text name)) version.domain domain.0 in
    let all = then_stands pieces a.0.1 above.rest (first_text (is_two above.version) ++ 10 ∷ []) ((domain_text above.domain ++ 10 ∷ []) ++ keep_text above.version)
    (one_stands pieces a.0.1 first.piece (first_text (is_two above.version)) first.whole is_first)
    (then_stands a.0.1 b.0.1 above.rest (domain_text above.domain ++ 10 ∷ []) (keep_text above.version)
    (one_stands a.0.1 b.0.1 named.piece (domain_text above.domain) named.whole is_domain_line) version.stands) in
    record {
      keeps = version.keeps;
      domain = subst (λ name. IsTrue (is_domain name)) version.domain domain.1;
      stands = subst (λ text. Stands pieces text above.rest) (preamble_is above.version above.domain) all;
    }

-- ---- accounts

-- what stands behind the accounts, where they end so
abbrev end_text : Behind → List ℕ
end_text Nothing = []
end_text Journal = mark ++ 10 ∷ []

abbrev Ends : Behind → List lines.Piece → Type 0
Ends Nothing rest = rest ≡ []
Ends Journal rest = Unit {0}

record AreFound (following : Behind) (above : List (List ℕ)) (pieces : List lines.Piece) (read : Accounts) : Type 0 where
  right : AreRegistered above read.accounts
  stands : Stands pieces (registrations_text read.accounts ++ end_text following) read.rest
  ends : Ends following read.rest

account_ok : (r : Registration) (read : Result Accounts InputFault) (all : Accounts) → with_account r read ≡ Ok all → (rest : Accounts) × (read ≡ Ok rest) × (record rest { accounts = r ∷ rest.accounts } ≡ all)
account_ok r (Ok rest) all e = (rest, refl, got_is _ all e)
account_ok r (Err d) all e = absurd cc

end_found : (following : Behind) (above : List (List ℕ)) (n : ℕ) (read : Accounts) → at_end following n ≡ Ok read → AreFound following above [] read
end_found Nothing above n read e =
    subst (λ (x : Accounts). AreFound Nothing above [] x) (got_is _ read e)
    (record { right = tt; stands = none_stands []; ends = refl })
end_found Journal above n read e = absurd cc

mark_found : (following : Behind) (above : List (List ℕ)) (piece : lines.Piece) (pieces : List lines.Piece) (n : ℕ) → is_mark following piece ≡ true
    → AreFound following above (piece ∷ pieces) (record { accounts = []; next = n; rest = pieces })
mark_found Nothing above piece pieces n h = absurd cc
mark_found Journal above piece pieces n h =
    let parts = and_parts piece.ended (bytes_eq piece.bytes mark) h in
    record { right = tt; stands = one_stands (piece ∷ pieces) pieces piece mark refl (parts.0, (bytes_eq-Decides piece.bytes mark).0 parts.1); ends = tt }

if_mark : (b : Bool) (x : Accounts) (y : Result Accounts InputFault) (z : Accounts) → cond b (got x) y ≡ Ok z → ((b ≡ true) × (x ≡ z)) ⊎ ((b ≡ false) × (y ≡ Ok z))
if_mark true x y z e = inl (refl, got_is x z e)
if_mark false x y z e = inr (refl, e)

registrations_found : (following : Behind) (above : List (List ℕ)) (n : ℕ) (pieces : List lines.Piece) (read : Accounts) → read_registrations following above n pieces ≡ Ok read → AreFound following above pieces read
registrations_found following above n [] read e = end_found following above n read e
registrations_found following above n (piece ∷ pieces) read e =
    elim (if_mark (is_mark following piece) (record { accounts = []; next = n + 1; rest = pieces }) _ read e) [
      | inl ends ↦ subst (λ (x : Accounts). AreFound following above (piece ∷ pieces) x) ends.1 (mark_found following above piece pieces (n + 1) ends.0)
      | inr goes_on ↦
          let a = either_ok (read_registration above piece) _ n read goes_on.1 in
          let b = account_ok a.0 (read_registrations following (above ++ a.0.name ∷ []) (n + 1) pieces) read a.2 in
          let one = registration_found above piece a.0 a.1 in
          let others = registrations_found following (above ++ a.0.name ∷ []) (n + 1) pieces b.0 b.1 in
          let text : List ℕ = registration_text a.0 ++ 10 ∷ [] in
          let stands = then_stands (piece ∷ pieces) pieces b.0.rest text (registrations_text b.0.accounts ++ end_text following)
          (one_stands (piece ∷ pieces) pieces piece (registration_text a.0) refl one.0) others.stands in
          let regrouped : text ++ (registrations_text b.0.accounts ++ end_text following) ≡ registrations_text (a.0 ∷ b.0.accounts) ++ end_text following =
          sym (append_assoc text (registrations_text b.0.accounts) (end_text following)) ∙ ap (λ xs. xs ++ end_text following) (sym (flat_map-cons (λ (r : Registration). registration_text r ++ 10 ∷ []) a.0 b.0.accounts)) in
          subst (λ (x : Accounts). AreFound following above (piece ∷ pieces) x) b.2
          (record { right = (one.1, others.right); stands = subst (λ xs. Stands (piece ∷ pieces) xs b.0.rest) regrouped stands; ends = others.ends })
    ]

record IsFile (following : Behind) (pieces : List lines.Piece) (begun : BegunView) : Type 0 where
  right : IsAccountsFile begun.file
  stands : Stands pieces (accounts_text begun.file ++ end_text following) begun.rest
  ends : Ends following begun.rest

file_found : (following : Behind) (pieces : List lines.Piece) (begun : BegunView) → read_file following pieces ≡ Ok begun → IsFile following pieces begun
unfolding read_file
file_found following pieces begun e =
    let a = step_ok (read_preamble following pieces) _ begun e in
    let b = step_ok (read_registrations following [] a.0.next a.0.rest) _ begun a.2 in
    let above = preamble_found following pieces a.0 a.1 in
    let read = registrations_found following [] a.0.next a.0.rest b.0 b.1 in
    let stands = then_stands pieces a.0.rest b.0.rest (preamble_text a.0.version a.0.domain) (registrations_text b.0.accounts ++ end_text following) above.stands read.stands in
    subst (λ (x : BegunView). IsFile following pieces x) (got_is _ begun b.2)
    (record {
      right = record { keeps = above.keeps; domain = above.domain; accounts = read.right };
      stands = subst (λ xs. Stands pieces xs b.0.rest) (sym (append_assoc (preamble_text a.0.version a.0.domain) (registrations_text b.0.accounts) (end_text following))) stands;
      ends = read.ends;
    })

pub accounts_found : (text : List ℕ) (file : AccountsView) → accounts_reading text ≡ Ok file → IsAccountsFile file × (text ≡ accounts_text file)
unfolding accounts_reading
accounts_found text file e =
    let a = step_ok (read_file Nothing (pieces_of text)) _ file e in
    let found = file_found Nothing (pieces_of text) a.0 a.1 in
    let none : text_of_pieces a.0.rest ≡ [] = ap text_of_pieces found.ends in
    let whole : text ≡ accounts_text a.0.file =
    sym (pieces_back text) ∙ found.stands.whole ∙ ap (λ xs. (accounts_text a.0.file ++ []) ++ xs) none ∙ append-nil (accounts_text a.0.file ++ []) ∙ append-nil (accounts_text a.0.file) in
    subst (λ (f : AccountsView). IsAccountsFile f × (text ≡ accounts_text f)) (got_is a.0.file file a.2) (found.right, whole)

-- ---- an event

-- the event may follow, and the line of this first word and these fields is its text
abbrev IsEvent : ℕ → List ℕ → Option (List ℕ) → EventView → Type 0
IsEvent last word fields event = IsTrue (may_happen last event) × (event_text event ≡ with_rest word fields)

connection_found : (field : List ℕ) (n : ℕ) → connection_in field ≡ Ok n → IsTrue (is_connection n) × (field ≡ decimal n)
connection_found field n e =
    let f = number_found 1 LAST_CONNECTION field n (omega arith) e in
    (and_from _ _ (le-leb 1 n f.0) (le-leb n LAST_CONNECTION f.1), f.2)

moment_found : (field : List ℕ) (n : ℕ) → moment_in field ≡ Ok n → IsTrue (is_moment n) × (field ≡ decimal n)
moment_found field n e =
    let f = number_found 0 LAST_MOMENT field n (omega arith) e in
    (le-leb n LAST_MOMENT f.1, f.2)

-- the text of three fields behind a word
three : (word one two last : List ℕ) (fields rest more : Option (List ℕ)) → fields ≡ Some (with_rest one rest) → rest ≡ Some (with_rest two more) → more ≡ Some last
    → with_rest word fields ≡ word ++ 32 ∷ (one ++ 32 ∷ (two ++ 32 ∷ last))
three word one two last fields rest more is after then = rw (is, after, then) refl

-- three fields of an event, as they are written
written_three : (word one two last a b c : List ℕ) → one ≡ a → two ≡ b → last ≡ c → (word ++ 32 ∷ []) ++ a ++ 32 ∷ b ++ 32 ∷ c ≡ word ++ 32 ∷ (one ++ 32 ∷ (two ++ 32 ∷ last))
written_three word one two last a b c e f g =
    rw (e, f, g) (regroup word a b c)
  where
    regroup : (word a b c : List ℕ) → (word ++ 32 ∷ []) ++ a ++ 32 ∷ b ++ 32 ∷ c ≡ word ++ 32 ∷ (a ++ 32 ∷ (b ++ 32 ∷ c))
    regroup word a b c = simp append_assoc

written_two : (word one last a b : List ℕ) → one ≡ a → last ≡ b → (word ++ 32 ∷ []) ++ a ++ 32 ∷ b ≡ word ++ 32 ∷ (one ++ 32 ∷ last)
written_two word one last a b e f = rw (e, f) (regroup word a b)
  where
    regroup : (word a b : List ℕ) → (word ++ 32 ∷ []) ++ a ++ 32 ∷ b ≡ word ++ 32 ∷ (a ++ 32 ∷ b)
    regroup word a b = simp append_assoc

connect_found : (last : ℕ) (fields : Option (List ℕ)) (event : EventView) → read_connect last fields ≡ Ok event → IsEvent last (codes "connect") fields event
unfolding read_connect
connect_found last fields event e =
    let a = bind_ok (next_field fields) _ event e in
    let b = bind_ok (next_field a.0.rest) _ event a.2 in
    let l = bind_ok (last_field b.0.rest) _ event b.2 in
    let k = bind_ok (connection_in a.0.front) _ event l.2 in
    let t = gate (nat_lt last k.0) why.Twice _ event k.2 in
    let m = bind_ok (moment_in b.0.front) _ event t.1 in
    let h = bind_ok (entropy_in l.0) _ event m.2 in
    let number = connection_found a.0.front k.0 k.1 in
    let moment = moment_found b.0.front m.0 m.1 in
    let entropy = entropy_found l.0 h.0 h.1 in
    let text = three (codes "connect") a.0.front b.0.front l.0 fields a.0.rest b.0.rest (next_is fields a.0 a.1) (next_is a.0.rest b.0 b.1) (last_is b.0.rest l.0 l.1) in
    subst (λ (x : EventView). IsEvent last (codes "connect") fields x) (ok_is (Connect k.0 m.0 h.0) event h.2) (
      and_from _ _ (and_from _ _ (and_from _ _ (and_from _ _ number.0 t.0) moment.0) (eq-eqb (length h.0) 24 entropy.2)) entropy.1,
      written_three (codes "connect") a.0.front b.0.front l.0 (decimal k.0) (decimal m.0) (encode_lower h.0) number.1 moment.1 entropy.0 ∙ sym text,
    )

piece_found : (last : ℕ) (fields : Option (List ℕ)) (event : EventView) → read_piece fields ≡ Ok event → IsEvent last (codes "piece") fields event
unfolding read_piece
piece_found last fields event e =
    let a = bind_ok (next_field fields) _ event e in
    let b = bind_ok (next_field a.0.rest) _ event a.2 in
    let l = bind_ok (last_field b.0.rest) _ event b.2 in
    let k = bind_ok (connection_in a.0.front) _ event l.2 in
    let m = bind_ok (moment_in b.0.front) _ event k.2 in
    let h = bind_ok (bytes_in l.0) _ event m.2 in
    let number = connection_found a.0.front k.0 k.1 in
    let moment = moment_found b.0.front m.0 m.1 in
    let bytes = bytes_found l.0 h.0 h.1 in
    let some = some_bytes h.0 (ap not_empty (sym bytes.0) ∙ last_some b.0.rest l.0 l.1) in
    let text = three (codes "piece") a.0.front b.0.front l.0 fields a.0.rest b.0.rest (next_is fields a.0 a.1) (next_is a.0.rest b.0 b.1) (last_is b.0.rest l.0 l.1) in
    subst (λ (x : EventView). IsEvent last (codes "piece") fields x) (ok_is (Piece k.0 m.0 h.0) event h.2) (
      and_from _ _ (and_from _ _ (and_from _ _ number.0 moment.0) some) bytes.1,
      written_three (codes "piece") a.0.front b.0.front l.0 (decimal k.0) (decimal m.0) (encode_lower h.0) number.1 moment.1 bytes.0 ∙ sym text,
    )

gone_found : (last : ℕ) (fields : Option (List ℕ)) (event : EventView) → read_gone fields ≡ Ok event → IsEvent last (codes "gone") fields event
unfolding read_gone
gone_found last fields event e =
    let a = bind_ok (next_field fields) _ event e in
    let l = bind_ok (last_field a.0.rest) _ event a.2 in
    let k = bind_ok (connection_in a.0.front) _ event l.2 in
    let m = bind_ok (moment_in l.0) _ event k.2 in
    let number = connection_found a.0.front k.0 k.1 in
    let moment = moment_found l.0 m.0 m.1 in
    let text = with_two (codes "gone") a.0.front l.0 fields a.0.rest (next_is fields a.0 a.1) (last_is a.0.rest l.0 l.1) in
    subst (λ (x : EventView). IsEvent last (codes "gone") fields x) (ok_is (Gone k.0 m.0) event m.2)
    (and_from _ _ number.0 moment.0, written_two (codes "gone") a.0.front l.0 (decimal k.0) (decimal m.0) number.1 moment.1 ∙ sym text)

-- the first word is the one that was compared
at_word : (last : ℕ) (word front : List ℕ) (rest : Option (List ℕ)) (event : EventView) → bytes_eq front word ≡ true → IsEvent last word rest event → IsEvent last front rest event
at_word last word front rest event same is = subst (λ (w : List ℕ). IsEvent last w rest event) (sym ((bytes_eq-Decides front word).0 same)) is

words_found : (last : ℕ) (words : Cut) (event : EventView) → read_words last words ≡ Ok event → IsEvent last words.front words.rest event
unfolding read_words
words_found last words event e =
    elim (chosen (bytes_eq words.front (codes "connect")) (read_connect last words.rest) _ event e) [
      | inl p ↦ at_word last (codes "connect") words.front words.rest event p.0 (connect_found last words.rest event p.1)
      | inr p ↦ elim (chosen (bytes_eq words.front (codes "piece")) (read_piece words.rest) _ event p.1) [
        | inl q ↦ at_word last (codes "piece") words.front words.rest event q.0 (piece_found last words.rest event q.1)
        | inr q ↦ elim (chosen (bytes_eq words.front (codes "gone")) (read_gone words.rest) _ event q.1) [
          | inl r ↦ at_word last (codes "gone") words.front words.rest event r.0 (gone_found last words.rest event r.1)
          | inr r ↦ absurd cc
        ]
      ]
    ]

as_some_ok : (r : Result EventView LineWhy) (event : Option EventView) → as_some r ≡ Ok event → (x : EventView) × (r ≡ Ok x) × (Some x ≡ event)
as_some_ok (Ok x) event e = (x, refl, ok_is (Some x) event e)
as_some_ok (Err reason) event e = absurd cc

-- a line that was read: an event's, or one behind the events
record IsSpelled (piece : lines.Piece) : Type 0 where
  ended : piece.ended ≡ true
  utf8 : is_utf8 piece.bytes ≡ true

abbrev Tells : ℕ → lines.Piece → Option EventView → Type 0
Tells last piece (Some event) = IsTrue (may_happen last event) × (piece.bytes ≡ event_text event)
Tells last piece None = ends_events (cut_of piece.bytes).front ≡ true

event_found : (last : ℕ) (piece : lines.Piece) (event : Option EventView) → read_event last piece ≡ Ok event → IsSpelled piece × Tells last piece event
unfolding read_event
event_found last piece event e =
    let a = gate (piece.ended && is_utf8 piece.bytes) why.Ending _ event e in
    let parts = and_parts piece.ended (is_utf8 piece.bytes) a.0 in (
      record { ended = parts.0; utf8 = parts.1 },
      elim (chosen (ends_events (cut_of piece.bytes).front) (done None) _ event a.1) [
        | inl p ↦ subst (λ (x : Option EventView). Tells last piece x) (ok_is None event p.1) p.0
        | inr p ↦
            let s = as_some_ok (read_words last (cut_of piece.bytes)) event p.1 in
            let w = words_found last (cut_of piece.bytes) s.0 s.1 in
            subst (λ (x : Option EventView). Tells last piece x) s.2 (w.0, sym (w.1 ∙ cut_back piece.bytes))
      ],
    )

-- ---- events

abbrev Follow : List lines.Piece → Type 0
Follow rest = MayFollow (text_of_pieces rest)

record AreEventsOf (last : ℕ) (pieces : List lines.Piece) (events : List EventView) : Type 0 where
  rest : List lines.Piece
  right : AreEvents last events
  stands : text_of_pieces pieces ≡ events_text events ++ text_of_pieces rest
  follow : Follow rest

after_events : (piece : lines.Piece) (pieces : List lines.Piece) → IsSpelled piece → is_one_line piece.bytes ≡ true → ends_events (cut_of piece.bytes).front ≡ true → Follow (piece ∷ pieces)
after_events piece pieces is line ends =
    inr (record { line = piece.bytes; rest = text_of_pieces pieces; whole = ended_text piece piece.bytes (text_of_pieces pieces) is.ended refl; one_line = line; spelled = is.utf8; ends = ends })

event_ok : (event : EventView) (r : Result (List EventView) InputFault) (events : List EventView) → with_event event r ≡ Ok events → (rest : List EventView) × (r ≡ Ok rest) × (event ∷ rest ≡ events)
event_ok event (Ok rest) events e = (rest, refl, got_is (event ∷ rest) events e)
event_ok event (Err d) events e = absurd cc

abbrev FindsEvents : ℕ → ℕ → List lines.Piece → Type 0
FindsEvents last n pieces = (events : List EventView) → read_events last n pieces ≡ Ok events → AreEventsOf last pieces events

one_found : (last n : ℕ) (piece : lines.Piece) (pieces : List lines.Piece) (events : List EventView) (event : Option EventView) → is_one_line piece.bytes ≡ true → ((x : EventView) → FindsEvents (begun_last last x) (n + 1) pieces)
    → read_event last piece ≡ Ok event
    → if_event (λ x. with_event x (read_events (begun_last last x) (n + 1) pieces)) (Ok []) event ≡ Ok events → AreEventsOf last (piece ∷ pieces) events
one_found last n piece pieces events None line finds told e =
    let is = event_found last piece None told in
    subst (λ (es : List EventView). AreEventsOf last (piece ∷ pieces) es) (got_is [] events e)
    (record { rest = piece ∷ pieces; right = tt; stands = refl; follow = after_events piece pieces is.0 line is.1 })
one_found last n piece pieces events (Some event) line finds told e =
    let is = event_found last piece (Some event) told in
    let b = event_ok event (read_events (begun_last last event) (n + 1) pieces) events e in
    let others = finds event b.0 b.1 in
    let text : List ℕ = event_text event ++ 10 ∷ [] in
    let whole : text_of_pieces (piece ∷ pieces) ≡ events_text (event ∷ b.0) ++ text_of_pieces others.rest =
    ended_text piece (event_text event) (text_of_pieces pieces) is.0.ended is.1.1
    ∙ ap (λ xs. event_text event ++ 10 ∷ xs) others.stands
    ∙ sym (append_assoc (event_text event) (10 ∷ []) (events_text b.0 ++ text_of_pieces others.rest))
    ∙ sym (append_assoc text (events_text b.0) (text_of_pieces others.rest))
    ∙ ap (λ xs. xs ++ text_of_pieces others.rest) (sym (flat_map-cons (λ (x : EventView). event_text x ++ 10 ∷ []) event b.0)) in
    subst (λ (es : List EventView). AreEventsOf last (piece ∷ pieces) es) b.2
    (record { rest = others.rest; right = (is.1.0, others.right); stands = whole; follow = others.follow })

events_found : (last n : ℕ) (pieces : List lines.Piece) → AreOneLine pieces → FindsEvents last n pieces
events_found last n [] all events e =
    subst (λ (es : List EventView). AreEventsOf last [] es) (got_is [] events e)
    (record { rest = []; right = tt; stands = refl; follow = inl refl })
events_found last n (piece ∷ pieces) all events e =
    let a = either_ok (read_event last piece) _ n events e in
    one_found last n piece pieces events a.0 all.0 (λ x. events_found (begun_last last x) (n + 1) pieces all.1) a.1 a.2

header_found : (version : Version) (piece : lines.Piece) (known : Bool) → read_journal_header version piece ≡ Ok known → IsText piece (journal_header version)
unfolding read_journal_header
header_found version piece known e =
    let a = gate (bytes_eq piece.bytes (journal_header version)) why.Header _ known e in
    let b = whole_of piece.ended known a.1 in
    (b, (bytes_eq-Decides piece.bytes (journal_header version)).0 a.0)
  where
    whole_of : (ended known : Bool) → lines.wants ended why.Ending ≡ Ok known → ended ≡ true
    whole_of true known h = refl
    whole_of false known h = absurd cc

input_is : (front mark_text header events rest : List ℕ) → ((front ++ mark_text) ++ header) ++ (events ++ rest) ≡ (front ++ (mark_text ++ (header ++ events))) ++ rest
input_is front mark_text header events rest = simp append_assoc

pub rerun_found : (text : List ℕ) (input : InputView) → rerun_reading text ≡ Ok input → Says text input
unfolding rerun_reading
rerun_found text input e =
    let a = step_ok (read_file Journal (pieces_of text)) _ input e in
    let b = step_ok (at_line a.0.next (with_next (read_journal_header a.0.file.version) why.Header a.0.rest)) _ input a.2 in
    let c = step_ok (read_events 0 (a.0.next + 1) b.0.1) _ input b.2 in
    let file = file_found Journal (pieces_of text) a.0 a.1 in
    let next = next_ok (read_journal_header a.0.file.version) why.Header a.0.rest b.0 (at_line_ok a.0.next (with_next (read_journal_header a.0.file.version) why.Header a.0.rest) b.0 b.1) in
    let header : List ℕ = journal_header a.0.file.version in
    let stands = then_stands (pieces_of text) a.0.rest b.0.1 (accounts_text a.0.file ++ (mark ++ 10 ∷ [])) (header ++ 10 ∷ []) file.stands
    (one_stands a.0.rest b.0.1 next.piece header next.whole (header_found a.0.file.version next.piece b.0.0 next.told)) in
    let events = events_found 0 (a.0.next + 1) b.0.1 (stands.one_line (one_line-pieces text)) c.0 c.1 in
    let rest : List ℕ = text_of_pieces events.rest in
    let told : text ≡ input_text (record { accounts = a.0.file; events = c.0 }) ++ rest =
    sym (pieces_back text) ∙ stands.whole ∙ ap (λ xs. ((accounts_text a.0.file ++ (mark ++ 10 ∷ [])) ++ (header ++ 10 ∷ [])) ++ xs) events.stands
    ∙ input_is (accounts_text a.0.file) (mark ++ 10 ∷ []) (header ++ 10 ∷ []) (events_text c.0) rest
    ∙ ap (λ xs. (accounts_text a.0.file ++ (mark ++ 10 ∷ xs)) ++ rest) (append_assoc header (10 ∷ []) (events_text c.0)) in
    subst (λ (x : InputView). Says text x) (got_is _ input c.2)
    (record { rest = rest; right = record { accounts = file.right; events = events.right }; whole = told; follows = events.follow })
