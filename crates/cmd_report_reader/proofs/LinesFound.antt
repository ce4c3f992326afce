-- What a line is read as is what it says.
use Rattle.std.proofs.Common.{◌≡◌, ℕ, Bool, true, false, List, [], ◌∷◌, ◌++◌, Option, Some, None, Result, Ok, Err, refl, sym, ap, subst, ◌∙◌, inl, inr, codes, append_assoc, arith}
use Rattle.std.proofs.lemmas.List.{append-nil}
use Rattle.std.proofs.lemmas.Slice.Eq.{bytes_eq-Decides}
use Rattle.std.specs.Fmt.{decimal}
use Rattle.std.specs.Str.{bytes_eq}
use Rattle.base_lemmas.proofs.Conditions.{by_test}
use Rattle.cmd_report.specs.EntryLines.{EntryLineView}
use Rattle.cmd_report.specs.ReportText.{account_text, after_text, conn_end_text, conn_text, device_text, entry_text, fields_text, held_text, last_text, mark_text, moment_text, page_text, refused_text, refused_why_text, said_text, settled_text, take_text, total_text, underway_text}
use Rattle.cmd_report.specs.Reports.{AccountView, DeviceView}
use Rattle.cmd_report.specs.declared.report.ConnEnd.{ConnEnd}
use Rattle.cmd_report.specs.declared.report.ConnEnd.TheVariants.{Cut as CutOff, Left, Shut, Open}
use Rattle.cmd_report.specs.declared.report.ConnLine.{ConnLine}
use Rattle.cmd_report.specs.declared.report.HeldLine.{HeldLine}
use Rattle.cmd_report.specs.declared.report.PageLine.{PageLine}
use Rattle.cmd_report.specs.declared.report.RefusedLine.{RefusedLine}
use Rattle.cmd_report.specs.declared.report.RefusedWhy.{RefusedWhy}
use Rattle.cmd_report.specs.declared.report.RefusedWhy.TheVariants.{NotBound, OutboxFull, Underway as IsUnderway}
use Rattle.cmd_report.specs.declared.report.SaidLine.{SaidLine}
use Rattle.cmd_report.specs.declared.report.SaidMark.{SaidMark}
use Rattle.cmd_report.specs.declared.report.SaidMark.TheVariants.{Acknowledged, Waiting, Undecided}
use Rattle.cmd_report.specs.declared.report.TakeLine.{TakeLine}
use Rattle.cmd_report.specs.declared.report.UnderwayLine.{UnderwayLine}
use Rattle.cmd_report_reader.proofs.Joined.{alone2, alone3, alone5, alone6, alone7, alone_account, alone_device, alone_take}
use Rattle.cmd_report_reader.specs.LineReading.{number_in, read_account, read_after, read_bare, read_complete, read_conn, read_conn_end, read_counts, read_device, read_entry, read_held, read_mark, read_page, read_part, read_pipes, read_refused, read_refused_why, read_said, read_settled, read_take, read_told, read_total, read_underway, read_words, says_more}
use Rattle.cmd_report_reader.specs.declared.line.DevicePart.{DevicePart}
use Rattle.cmd_report_reader.specs.declared.line.DevicePart.TheVariants.{Said, Refused, Page, Underway, Logged, Held}
use Rattle.cmd_report_reader.specs.declared.line.ReportLine.{ReportLine}
use Rattle.cmd_report_reader.specs.declared.line.ReportLine.TheVariants.{Take, Account, Entry, Conn, Device, Part, Break, End}
use Rattle.cmd_report_reader.specs.declared.line_reading.Pipes.{Pipes}
use Rattle.cmd_schedule.specs.Reading.{Cut, last_field, next_field, not_empty, rest_field}
use Rattle.cmd_schedule.specs.declared.fault.LineWhy.{LineWhy}
use Rattle.cmd_schedule.specs.declared.schedule.Version.{Version}
use Rattle.cmd_schedule.specs.declared.schedule.Version.TheVariants.{One, Two}
use Rattle.cmd_schedule.proofs.Found.{bind_ok, chosen, done, gate, kept, last_is, next_is, ok_is, with_rest}
use Rattle.cmd_schedule.proofs.Numbers.{number_found}
use Rattle.cmd_schedule.specs.declared.fault.LineWhy.TheVariants as why

numeral_found : (field : List ℕ) (n : ℕ) → number_in field ≡ Ok n → field ≡ decimal n
numeral_found field n e = (number_found 0 18446744073709551615 field n (omega arith) e).2

rest_is : (fields : Option (List ℕ)) (field : List ℕ) → rest_field fields ≡ Ok field → fields ≡ Some field
rest_is None field e = absurd cc
rest_is (Some bytes) field e = ap (λ (xs : List ℕ). Some xs) (kept (not_empty bytes) bytes field why.Shape e).1

-- the word is this one
is_word : (word other : List ℕ) → bytes_eq word other ≡ true → word ≡ other
is_word word other e = (bytes_eq-Decides word other).0 e

-- ---- takes

abbrev Tells : Option (List ℕ) → List ℕ × Option ℕ → Type 0
Tells fields told = fields ≡ Some (told.0 ++ moment_text told.1)

told_two : (account field : List ℕ) (moment : ℕ) (fields rest : Option (List ℕ)) → fields ≡ Some (with_rest account rest) → rest ≡ Some field → field ≡ decimal moment → Tells fields (account, Some moment)
told_two account field moment fields rest a b c = rw (a, b, c) refl

told_one : (account : List ℕ) (fields : Option (List ℕ)) → fields ≡ Some account → Tells fields (account, None)
told_one account fields a = a ∙ ap (λ (xs : List ℕ). Some xs) (sym (append-nil account))

told_found : (version : Version) (fields : Option (List ℕ)) (told : List ℕ × Option ℕ) → read_told version fields ≡ Ok told → Tells fields told
unfolding read_told
told_found One fields told e =
    let a = bind_ok (last_field fields) _ told e in
    subst (Tells fields) (ok_is (a.0, None) told a.2) (told_one a.0 fields (last_is fields a.0 a.1))
told_found (Two keep) fields told e =
    let a = bind_ok (next_field fields) _ told e in
    let b = bind_ok (last_field a.0.rest) _ told a.2 in
    let c = bind_ok (number_in b.0) _ told b.2 in
    subst (Tells fields) (ok_is (a.0.front, Some c.0) told c.2)
    (told_two a.0.front b.0 c.0 fields a.0.rest (next_is fields a.0 a.1) (last_is a.0.rest b.0 b.1) (numeral_found b.0 c.0 c.1))

take_says : (device first second account : List ℕ) (epoch n : ℕ) (moment : Option ℕ) (fields r s t : Option (List ℕ)) → fields ≡ Some (with_rest device r) → r ≡ Some (with_rest first s) → s ≡ Some (with_rest second t)
    → Tells t (account, moment) → first ≡ decimal epoch → second ≡ decimal n
    → with_rest (codes "take") fields ++ 10 ∷ [] ≡ take_text (record { device = device; epoch = epoch; n = n; account = account; moment = moment })
take_says device first second account epoch n moment fields r s t a b c d e f =
    rw (a, b, c, d, e, f) (alone_take (codes "take ") device (decimal epoch) (decimal n) account (moment_text moment))

take_found : (version : Version) (fields : Option (List ℕ)) (line : TakeLine) → read_take version fields ≡ Ok line → with_rest (codes "take") fields ++ 10 ∷ [] ≡ take_text line
unfolding read_take
take_found version fields line e =
    let a = bind_ok (next_field fields) _ line e in
    let b = bind_ok (next_field a.0.rest) _ line a.2 in
    let c = bind_ok (next_field b.0.rest) _ line b.2 in
    let d = bind_ok (read_told version c.0.rest) _ line c.2 in
    let f = bind_ok (number_in b.0.front) _ line d.2 in
    let g = bind_ok (number_in c.0.front) _ line f.2 in
    subst (λ (l : TakeLine). with_rest (codes "take") fields ++ 10 ∷ [] ≡ take_text l)
    (ok_is (record { device = a.0.front; epoch = f.0; n = g.0; account = d.0.0; moment = d.0.1 }) line g.2)
    (take_says a.0.front b.0.front c.0.front d.0.0 f.0 g.0 d.0.1 fields a.0.rest b.0.rest c.0.rest (next_is fields a.0 a.1) (next_is a.0.rest b.0 b.1) (next_is b.0.rest c.0 c.1)
    (told_found version c.0.rest d.0 d.1) (numeral_found b.0.front f.0 f.1) (numeral_found c.0.front g.0 g.1))

-- ---- accounts

abbrev Counts : Version → Option (List ℕ) → ℕ × ℕ → Type 0
Counts version fields counts = fields ≡ Some (decimal counts.0 ++ last_text version counts.1)

counts_one : (field : List ℕ) (count : ℕ) (fields : Option (List ℕ)) → fields ≡ Some field → field ≡ decimal count → Counts One fields (count, count)
counts_one field count fields a b = a ∙ ap (λ (xs : List ℕ). Some xs) (b ∙ sym (append-nil (decimal count)))

counts_two : (keep : ℕ) (first second : List ℕ) (count last : ℕ) (fields rest : Option (List ℕ)) → fields ≡ Some (with_rest first rest) → rest ≡ Some second → first ≡ decimal count → second ≡ decimal last → Counts (Two keep) fields (count, last)
counts_two keep first second count last fields rest a b c d = rw (a, b, c, d) refl

counts_found : (version : Version) (fields : Option (List ℕ)) (counts : ℕ × ℕ) → read_counts version fields ≡ Ok counts → Counts version fields counts
unfolding read_counts
counts_found One fields counts e =
    let a = bind_ok (last_field fields) _ counts e in
    let b = bind_ok (number_in a.0) _ counts a.2 in
    subst (Counts One fields) (ok_is (b.0, b.0) counts b.2) (counts_one a.0 b.0 fields (last_is fields a.0 a.1) (numeral_found a.0 b.0 b.1))
counts_found (Two keep) fields counts e =
    let a = bind_ok (next_field fields) _ counts e in
    let b = bind_ok (last_field a.0.rest) _ counts a.2 in
    let c = bind_ok (number_in a.0.front) _ counts b.2 in
    let d = bind_ok (number_in b.0) _ counts c.2 in
    subst (Counts (Two keep) fields) (ok_is (c.0, d.0) counts d.2)
    (counts_two keep a.0.front b.0 c.0 d.0 fields a.0.rest (next_is fields a.0 a.1) (last_is a.0.rest b.0 b.1) (numeral_found a.0.front c.0 c.1) (numeral_found b.0 d.0 d.1))

account_says : (version : Version) (name : List ℕ) (count last : ℕ) (fields rest : Option (List ℕ)) → fields ≡ Some (with_rest name rest) → Counts version rest (count, last)
    → with_rest (codes "account") fields ++ 10 ∷ [] ≡ account_text version (record { name = name; count = count; last = last; entries = [] })
account_says version name count last fields rest a b = rw (a, b) (alone_account (codes "account ") name (decimal count) (last_text version last))

account_found : (version : Version) (fields : Option (List ℕ)) (line : AccountView) → read_account version fields ≡ Ok line → with_rest (codes "account") fields ++ 10 ∷ [] ≡ account_text version line
unfolding read_account
account_found version fields line e =
    let a = bind_ok (next_field fields) _ line e in
    let b = bind_ok (read_counts version a.0.rest) _ line a.2 in
    subst (λ (l : AccountView). with_rest (codes "account") fields ++ 10 ∷ [] ≡ account_text version l)
    (ok_is (record { name = a.0.front; count = b.0.0; last = b.0.1; entries = [] }) line b.2)
    (account_says version a.0.front b.0.0 b.0.1 fields a.0.rest (next_is fields a.0 a.1) (counts_found version a.0.rest b.0 b.1))

-- ---- entries

abbrev Enters : Option (List ℕ) → EntryLineView → Type 0
Enters fields line = (word : List ℕ) → with_rest word fields ++ 10 ∷ [] ≡ word ++ 32 ∷ fields_text line

entry_says : (id field from to origin text : List ℕ) (stamp : ℕ) (fields r s t u v : Option (List ℕ)) → fields ≡ Some (with_rest id r) → r ≡ Some (with_rest field s) → s ≡ Some (with_rest from t) → t ≡ Some (with_rest to u) → u ≡ Some (with_rest origin v)
    → v ≡ Some text → field ≡ decimal stamp → Enters fields (record { id = id; stamp = stamp; from = from; to = to; origin = origin; text = text })
entry_says id field from to origin text stamp fields r s t u v a b c d e f g word = rw (a, b, c, d, e, f, g) (alone6 word id (decimal stamp) from to origin text)

entry_found : (fields : Option (List ℕ)) (line : EntryLineView) → read_entry fields ≡ Ok line → Enters fields line
unfolding read_entry
entry_found fields line e =
    let a = bind_ok (next_field fields) _ line e in
    let b = bind_ok (next_field a.0.rest) _ line a.2 in
    let c = bind_ok (next_field b.0.rest) _ line b.2 in
    let d = bind_ok (next_field c.0.rest) _ line c.2 in
    let f = bind_ok (next_field d.0.rest) _ line d.2 in
    let g = bind_ok (rest_field f.0.rest) _ line f.2 in
    let h = bind_ok (number_in b.0.front) _ line g.2 in
    subst (Enters fields) (ok_is (record { id = a.0.front; stamp = h.0; from = c.0.front; to = d.0.front; origin = f.0.front; text = g.0 }) line h.2)
    (entry_says a.0.front b.0.front c.0.front d.0.front f.0.front g.0 h.0 fields a.0.rest b.0.rest c.0.rest d.0.rest f.0.rest
    (next_is fields a.0 a.1) (next_is a.0.rest b.0 b.1) (next_is b.0.rest c.0 c.1) (next_is c.0.rest d.0 d.1) (next_is d.0.rest f.0 f.1) (rest_is f.0.rest g.0 g.1) (numeral_found b.0.front h.0 h.1))

-- ---- connections

conn_end_found : (word : List ℕ) (ended : ConnEnd) → read_conn_end word ≡ Ok ended → word ≡ conn_end_text ended
unfolding read_conn_end
conn_end_found word ended e =
    elim (chosen (bytes_eq word (codes "cut")) (done CutOff) _ ended e) [
      | inl p ↦ is_word word (codes "cut") p.0 ∙ ap conn_end_text (ok_is CutOff ended p.1)
      | inr p ↦ elim (chosen (bytes_eq word (codes "left")) (done Left) _ ended p.1) [
        | inl q ↦ is_word word (codes "left") q.0 ∙ ap conn_end_text (ok_is Left ended q.1)
        | inr q ↦ elim (chosen (bytes_eq word (codes "shut")) (done Shut) _ ended q.1) [
          | inl r ↦ is_word word (codes "shut") r.0 ∙ ap conn_end_text (ok_is Shut ended r.1)
          | inr r ↦ elim (chosen (bytes_eq word (codes "open")) (done Open) _ ended r.1) [
            | inl s ↦ is_word word (codes "open") s.0 ∙ ap conn_end_text (ok_is Open ended s.1)
            | inr s ↦ absurd cc
          ]
        ]
      ]
    ]

abbrev pipes_text : Pipes → List ℕ
pipes_text p = decimal p.upput ++ 32 ∷ (decimal p.uptaken ++ 32 ∷ (decimal p.downput ++ 32 ∷ (decimal p.downtaken ++ 32 ∷ conn_end_text p.end)))

pipes_says : (first second third fourth last : List ℕ) (pipes : Pipes) (fields r s t u : Option (List ℕ)) → fields ≡ Some (with_rest first r) → r ≡ Some (with_rest second s) → s ≡ Some (with_rest third t)
    → t ≡ Some (with_rest fourth u) → u ≡ Some last → first ≡ decimal pipes.upput → second ≡ decimal pipes.uptaken → third ≡ decimal pipes.downput → fourth ≡ decimal pipes.downtaken → last ≡ conn_end_text pipes.end
    → fields ≡ Some (pipes_text pipes)
pipes_says first second third fourth last pipes fields r s t u a b c d e f g h i j = rw (a, b, c, d, e, f, g, h, i, j) refl

pipes_found : (fields : Option (List ℕ)) (pipes : Pipes) → read_pipes fields ≡ Ok pipes → fields ≡ Some (pipes_text pipes)
unfolding read_pipes
pipes_found fields pipes e =
    let a = bind_ok (next_field fields) _ pipes e in
    let b = bind_ok (next_field a.0.rest) _ pipes a.2 in
    let c = bind_ok (next_field b.0.rest) _ pipes b.2 in
    let d = bind_ok (next_field c.0.rest) _ pipes c.2 in
    let f = bind_ok (last_field d.0.rest) _ pipes d.2 in
    let upput = bind_ok (number_in a.0.front) _ pipes f.2 in
    let uptaken = bind_ok (number_in b.0.front) _ pipes upput.2 in
    let downput = bind_ok (number_in c.0.front) _ pipes uptaken.2 in
    let downtaken = bind_ok (number_in d.0.front) _ pipes downput.2 in
    let ended = bind_ok (read_conn_end f.0) _ pipes downtaken.2 in
    let is = ok_is (record { upput = upput.0; uptaken = uptaken.0; downput = downput.0; downtaken = downtaken.0; end = ended.0 }) pipes ended.2 in
    subst (λ (p : Pipes). fields ≡ Some (pipes_text p)) is
    (pipes_says a.0.front b.0.front c.0.front d.0.front f.0 (record { upput = upput.0; uptaken = uptaken.0; downput = downput.0; downtaken = downtaken.0; end = ended.0 }) fields a.0.rest b.0.rest c.0.rest d.0.rest
    (next_is fields a.0 a.1) (next_is a.0.rest b.0 b.1) (next_is b.0.rest c.0 c.1) (next_is c.0.rest d.0 d.1) (last_is d.0.rest f.0 f.1)
    (numeral_found a.0.front upput.0 upput.1) (numeral_found b.0.front uptaken.0 uptaken.1) (numeral_found c.0.front downput.0 downput.1) (numeral_found d.0.front downtaken.0 downtaken.1) (conn_end_found f.0 ended.0 ended.1))

conn_says : (field device : List ℕ) (k : ℕ) (pipes : Pipes) (fields r s : Option (List ℕ)) → fields ≡ Some (with_rest field r) → r ≡ Some (with_rest device s) → s ≡ Some (pipes_text pipes) → field ≡ decimal k
    → with_rest (codes "conn") fields ++ 10 ∷ []
    ≡ conn_text (record { k = k; device = device; upput = pipes.upput; uptaken = pipes.uptaken; downput = pipes.downput; downtaken = pipes.downtaken; end = pipes.end })
conn_says field device k pipes fields r s a b c d =
    rw (a, b, c, d) (alone7 (codes "conn ") (decimal k) device (decimal pipes.upput) (decimal pipes.uptaken) (decimal pipes.downput) (decimal pipes.downtaken) (conn_end_text pipes.end))

conn_found : (fields : Option (List ℕ)) (line : ConnLine) → read_conn fields ≡ Ok line → with_rest (codes "conn") fields ++ 10 ∷ [] ≡ conn_text line
unfolding read_conn
conn_found fields line e =
    let a = bind_ok (next_field fields) _ line e in
    let b = bind_ok (next_field a.0.rest) _ line a.2 in
    let c = bind_ok (read_pipes b.0.rest) _ line b.2 in
    let d = bind_ok (number_in a.0.front) _ line c.2 in
    subst (λ (l : ConnLine). with_rest (codes "conn") fields ++ 10 ∷ [] ≡ conn_text l)
    (ok_is (record { k = d.0; device = b.0.front; upput = c.0.upput; uptaken = c.0.uptaken; downput = c.0.downput; downtaken = c.0.downtaken; end = c.0.end }) line d.2)
    (conn_says a.0.front b.0.front d.0 c.0 fields a.0.rest b.0.rest (next_is fields a.0 a.1) (next_is a.0.rest b.0 b.1) (pipes_found b.0.rest c.0 c.1) (numeral_found a.0.front d.0 d.1))

-- ---- devices

settled_found : (word : List ℕ) (settled : Bool) → read_settled word ≡ Ok settled → word ≡ settled_text settled
unfolding read_settled
settled_found word settled e =
    elim (chosen (bytes_eq word (codes "yes")) (done true) _ settled e) [
      | inl p ↦ is_word word (codes "yes") p.0 ∙ ap settled_text (ok_is true settled p.1)
      | inr p ↦ elim (chosen (bytes_eq word (codes "no")) (done false) _ settled p.1) [
        | inl q ↦ is_word word (codes "no") q.0 ∙ ap settled_text (ok_is false settled q.1)
        | inr q ↦ absurd cc
      ]
    ]

abbrev begun : List ℕ → List ℕ → ℕ → Bool → DeviceView
begun name account epoch settled = record {
  name = name;
  account = account;
  epoch = epoch;
  settled = settled;
  said = [];
  refused = [];
  pages = [];
  underway = [];
  logged = [];
  held = [];
}

device_says : (name account first second : List ℕ) (epoch : ℕ) (settled : Bool) (fields r s t : Option (List ℕ)) → fields ≡ Some (with_rest name r) → r ≡ Some (with_rest account s) → s ≡ Some (with_rest first t) → t ≡ Some second
    → first ≡ decimal epoch → second ≡ settled_text settled → with_rest (codes "device") fields ++ 10 ∷ [] ≡ device_text (begun name account epoch settled)
device_says name account first second epoch settled fields r s t a b c d e f =
    rw (a, b, c, d, e, f) (alone_device (codes "device ") name account (decimal epoch) (settled_text settled))

device_found : (fields : Option (List ℕ)) (line : DeviceView) → read_device fields ≡ Ok line → with_rest (codes "device") fields ++ 10 ∷ [] ≡ device_text line
unfolding read_device
device_found fields line e =
    let a = bind_ok (next_field fields) _ line e in
    let b = bind_ok (next_field a.0.rest) _ line a.2 in
    let c = bind_ok (next_field b.0.rest) _ line b.2 in
    let d = bind_ok (last_field c.0.rest) _ line c.2 in
    let f = bind_ok (number_in c.0.front) _ line d.2 in
    let g = bind_ok (read_settled d.0) _ line f.2 in
    subst (λ (l : DeviceView). with_rest (codes "device") fields ++ 10 ∷ [] ≡ device_text l) (ok_is (begun a.0.front b.0.front f.0 g.0) line g.2)
    (device_says a.0.front b.0.front c.0.front d.0 f.0 g.0 fields a.0.rest b.0.rest c.0.rest (next_is fields a.0 a.1) (next_is a.0.rest b.0 b.1) (next_is b.0.rest c.0 c.1) (last_is c.0.rest d.0 d.1)
    (numeral_found c.0.front f.0 f.1) (settled_found d.0 g.0 g.1))

-- ---- said

mark_found : (word : List ℕ) (mark : SaidMark) → read_mark word ≡ Ok mark → word ≡ mark_text mark
unfolding read_mark
mark_found word mark e =
    elim (chosen (bytes_eq word (codes "acknowledged")) (done Acknowledged) _ mark e) [
      | inl p ↦ is_word word (codes "acknowledged") p.0 ∙ ap mark_text (ok_is Acknowledged mark p.1)
      | inr p ↦ elim (chosen (bytes_eq word (codes "waiting")) (done Waiting) _ mark p.1) [
        | inl q ↦ is_word word (codes "waiting") q.0 ∙ ap mark_text (ok_is Waiting mark q.1)
        | inr q ↦ elim (chosen (bytes_eq word (codes "undecided")) (done Undecided) _ mark q.1) [
          | inl r ↦ is_word word (codes "undecided") r.0 ∙ ap mark_text (ok_is Undecided mark r.1)
          | inr r ↦ absurd cc
        ]
      ]
    ]

said_says : (first second third to text : List ℕ) (epoch n : ℕ) (state : SaidMark) (fields r s t u : Option (List ℕ)) → fields ≡ Some (with_rest first r) → r ≡ Some (with_rest second s) → s ≡ Some (with_rest third t) → t ≡ Some (with_rest to u) → u ≡ Some text
    → first ≡ decimal epoch → second ≡ decimal n → third ≡ mark_text state
    → with_rest (codes "said") fields ++ 10 ∷ [] ≡ said_text (record { epoch = epoch; n = n; state = state; to = to; text = text })
said_says first second third to text epoch n state fields r s t u a b c d e f g h =
    rw (a, b, c, d, e, f, g, h) (alone5 (codes "said ") (decimal epoch) (decimal n) (mark_text state) to text)

said_found : (fields : Option (List ℕ)) (line : SaidLine) → read_said fields ≡ Ok line → with_rest (codes "said") fields ++ 10 ∷ [] ≡ said_text line
unfolding read_said
said_found fields line e =
    let a = bind_ok (next_field fields) _ line e in
    let b = bind_ok (next_field a.0.rest) _ line a.2 in
    let c = bind_ok (next_field b.0.rest) _ line b.2 in
    let d = bind_ok (next_field c.0.rest) _ line c.2 in
    let f = bind_ok (rest_field d.0.rest) _ line d.2 in
    let g = bind_ok (number_in a.0.front) _ line f.2 in
    let h = bind_ok (number_in b.0.front) _ line g.2 in
    let k = bind_ok (read_mark c.0.front) _ line h.2 in
    subst (λ (l : SaidLine). with_rest (codes "said") fields ++ 10 ∷ [] ≡ said_text l) (ok_is (record { epoch = g.0; n = h.0; state = k.0; to = d.0.front; text = f.0 }) line k.2)
    (said_says a.0.front b.0.front c.0.front d.0.front f.0 g.0 h.0 k.0 fields a.0.rest b.0.rest c.0.rest d.0.rest (next_is fields a.0 a.1) (next_is a.0.rest b.0 b.1) (next_is b.0.rest c.0 c.1) (next_is c.0.rest d.0 d.1) (rest_is d.0.rest f.0 f.1)
    (numeral_found a.0.front g.0 g.1) (numeral_found b.0.front h.0 h.1) (mark_found c.0.front k.0 k.1))

-- ---- refused

refused_why_found : (word : List ℕ) (reason : RefusedWhy) → read_refused_why word ≡ Ok reason → word ≡ refused_why_text reason
unfolding read_refused_why
refused_why_found word reason e =
    elim (chosen (bytes_eq word (codes "NotBound")) (done NotBound) _ reason e) [
      | inl p ↦ is_word word (codes "NotBound") p.0 ∙ ap refused_why_text (ok_is NotBound reason p.1)
      | inr p ↦ elim (chosen (bytes_eq word (codes "OutboxFull")) (done OutboxFull) _ reason p.1) [
        | inl q ↦ is_word word (codes "OutboxFull") q.0 ∙ ap refused_why_text (ok_is OutboxFull reason q.1)
        | inr q ↦ elim (chosen (bytes_eq word (codes "Underway")) (done IsUnderway) _ reason q.1) [
          | inl r ↦ is_word word (codes "Underway") r.0 ∙ ap refused_why_text (ok_is IsUnderway reason r.1)
          | inr r ↦ absurd cc
        ]
      ]
    ]

refused_says : (first second : List ℕ) (line : ℕ) (reason : RefusedWhy) (fields r : Option (List ℕ)) → fields ≡ Some (with_rest first r) → r ≡ Some second → first ≡ decimal line → second ≡ refused_why_text reason
    → with_rest (codes "refused") fields ++ 10 ∷ [] ≡ refused_text (record { line = line; why = reason })
refused_says first second line reason fields r a b c d = rw (a, b, c, d) (alone2 (codes "refused ") (decimal line) (refused_why_text reason))

refused_found : (fields : Option (List ℕ)) (line : RefusedLine) → read_refused fields ≡ Ok line → with_rest (codes "refused") fields ++ 10 ∷ [] ≡ refused_text line
unfolding read_refused
refused_found fields line e =
    let a = bind_ok (next_field fields) _ line e in
    let b = bind_ok (last_field a.0.rest) _ line a.2 in
    let c = bind_ok (number_in a.0.front) _ line b.2 in
    let d = bind_ok (read_refused_why b.0) _ line c.2 in
    subst (λ (l : RefusedLine). with_rest (codes "refused") fields ++ 10 ∷ [] ≡ refused_text l) (ok_is (record { line = c.0; why = d.0 }) line d.2)
    (refused_says a.0.front b.0 c.0 d.0 fields a.0.rest (next_is fields a.0 a.1) (last_is a.0.rest b.0 b.1) (numeral_found a.0.front c.0 c.1) (refused_why_found b.0 d.0 d.1))

-- ---- pages

after_found : (word : List ℕ) → word ≡ after_text (read_after word)
after_found word = by_test (bytes_eq word (codes "-")) (λ e. rw e (is_word word (codes "-") e)) (λ e. rw e refl)

complete_says : (mark field : List ℕ) (total : ℕ) (fields rest : Option (List ℕ)) → fields ≡ Some (with_rest mark rest) → rest ≡ Some field → mark ≡ codes "complete" → field ≡ decimal total → fields ≡ Some (total_text (Some total))
complete_says mark field total fields rest a b c d = rw (a, b, c, d) refl

complete_found : (fields : Option (List ℕ)) (total : Option ℕ) → read_complete fields ≡ Ok total → fields ≡ Some (total_text total)
unfolding read_complete
complete_found fields total e =
    let a = bind_ok (next_field fields) _ total e in
    let b = bind_ok (last_field a.0.rest) _ total a.2 in
    let c = gate (bytes_eq a.0.front (codes "complete")) why.Word _ total b.2 in
    let d = bind_ok (number_in b.0) _ total c.1 in
    subst (λ (t : Option ℕ). fields ≡ Some (total_text t)) (ok_is (Some d.0) total d.2)
    (complete_says a.0.front b.0 d.0 fields a.0.rest (next_is fields a.0 a.1) (last_is a.0.rest b.0 b.1) (is_word a.0.front (codes "complete") c.0) (numeral_found b.0 d.0 d.1))

more_found : (fields : Option (List ℕ)) → says_more fields ≡ true → fields ≡ Some (total_text None)
more_found None e = absurd cc
more_found (Some bytes) e = ap (λ (xs : List ℕ). Some xs) (is_word bytes (codes "more") e)

total_found : (fields : Option (List ℕ)) (total : Option ℕ) → read_total fields ≡ Ok total → fields ≡ Some (total_text total)
unfolding read_total
total_found fields total e =
    elim (chosen (says_more fields) (done None) (read_complete fields) total e) [
      | inl p ↦ more_found fields p.0 ∙ ap (λ (t : Option ℕ). Some (total_text t)) (ok_is None total p.1)
      | inr p ↦ complete_found fields total p.1
    ]

page_says : (after field : List ℕ) (count : ℕ) (total : Option ℕ) (fields r s : Option (List ℕ)) → fields ≡ Some (with_rest after r) → r ≡ Some (with_rest field s) → s ≡ Some (total_text total) → field ≡ decimal count → after ≡ after_text (read_after after)
    → with_rest (codes "page") fields ++ 10 ∷ [] ≡ page_text (record { after = read_after after; count = count; total = total })
page_says after field count total fields r s a b c d e =
    let told : (codes "page " ++ (after_text (read_after after) ++ 32 ∷ (decimal count ++ 32 ∷ total_text total))) ++ 10 ∷ [] ≡ page_text (record { after = read_after after; count = count; total = total }) =
    alone3 (codes "page ") (after_text (read_after after)) (decimal count) (total_text total) in
    rw (a, b, c, d) (ap (λ (xs : List ℕ). (codes "page " ++ (xs ++ 32 ∷ (decimal count ++ 32 ∷ total_text total))) ++ 10 ∷ []) e ∙ told)

page_found : (fields : Option (List ℕ)) (line : PageLine) → read_page fields ≡ Ok line → with_rest (codes "page") fields ++ 10 ∷ [] ≡ page_text line
unfolding read_page
page_found fields line e =
    let a = bind_ok (next_field fields) _ line e in
    let b = bind_ok (next_field a.0.rest) _ line a.2 in
    let c = bind_ok (read_total b.0.rest) _ line b.2 in
    let d = bind_ok (number_in b.0.front) _ line c.2 in
    subst (λ (l : PageLine). with_rest (codes "page") fields ++ 10 ∷ [] ≡ page_text l) (ok_is (record { after = read_after a.0.front; count = d.0; total = c.0 }) line d.2)
    (page_says a.0.front b.0.front d.0 c.0 fields a.0.rest b.0.rest (next_is fields a.0 a.1) (next_is a.0.rest b.0 b.1) (total_found b.0.rest c.0 c.1) (numeral_found b.0.front d.0 d.1) (after_found a.0.front))

-- ---- the page under way, and held messages

underway_says : (queryid field : List ℕ) (got : ℕ) (fields r : Option (List ℕ)) → fields ≡ Some (with_rest queryid r) → r ≡ Some field → field ≡ decimal got
    → with_rest (codes "underway") fields ++ 10 ∷ [] ≡ underway_text (record { queryid = queryid; got = got })
underway_says queryid field got fields r a b c = rw (a, b, c) (alone2 (codes "underway ") queryid (decimal got))

underway_found : (fields : Option (List ℕ)) (line : UnderwayLine) → read_underway fields ≡ Ok line → with_rest (codes "underway") fields ++ 10 ∷ [] ≡ underway_text line
unfolding read_underway
underway_found fields line e =
    let a = bind_ok (next_field fields) _ line e in
    let b = bind_ok (last_field a.0.rest) _ line a.2 in
    let c = bind_ok (number_in b.0) _ line b.2 in
    subst (λ (l : UnderwayLine). with_rest (codes "underway") fields ++ 10 ∷ [] ≡ underway_text l) (ok_is (record { queryid = a.0.front; got = c.0 }) line c.2)
    (underway_says a.0.front b.0 c.0 fields a.0.rest (next_is fields a.0 a.1) (last_is a.0.rest b.0 b.1) (numeral_found b.0 c.0 c.1))

held_says : (id : List ℕ) (fields : Option (List ℕ)) → fields ≡ Some id → with_rest (codes "held") fields ++ 10 ∷ [] ≡ held_text (record { id = id })
held_says id fields a = rw a refl

held_found : (fields : Option (List ℕ)) (line : HeldLine) → read_held fields ≡ Ok line → with_rest (codes "held") fields ++ 10 ∷ [] ≡ held_text line
unfolding read_held
held_found fields line e =
    let a = bind_ok (last_field fields) _ line e in
    subst (λ (l : HeldLine). with_rest (codes "held") fields ++ 10 ∷ [] ≡ held_text l) (ok_is (record { id = a.0 }) line a.2) (held_says a.0 fields (last_is fields a.0 a.1))

-- ---- by the first word

abbrev pub part_text : DevicePart → List ℕ
part_text (Said line) = said_text line
part_text (Refused line) = refused_text line
part_text (Page line) = page_text line
part_text (Underway line) = underway_text line
part_text (Logged line) = codes "logged " ++ fields_text line
part_text (Held line) = held_text line

-- the text of a line
abbrev pub line_text : Version → ReportLine → List ℕ
line_text version (Take line) = take_text line
line_text version (Account line) = account_text version line
line_text version (Entry line) = entry_text line
line_text version (Conn line) = conn_text line
line_text version (Device line) = device_text line
line_text version (Part part) = part_text part
line_text version Break = codes "break" ++ 10 ∷ []
line_text version End = codes "end" ++ 10 ∷ []

abbrev SaysPart : List ℕ → Option (List ℕ) → DevicePart → Type 0
SaysPart front rest part = with_rest front rest ++ 10 ∷ [] ≡ part_text part

at_part : (word front : List ℕ) (rest : Option (List ℕ)) (part : DevicePart) → bytes_eq front word ≡ true → SaysPart word rest part → SaysPart front rest part
at_part word front rest part same says = subst (λ (w : List ℕ). SaysPart w rest part) (sym (is_word front word same)) says

part_found : (words : Cut) (part : DevicePart) → read_part words ≡ Ok part → SaysPart words.front words.rest part
unfolding read_part
part_found words part e =
    let front = words.front in
    let rest = words.rest in
    elim (chosen (bytes_eq front (codes "said")) _ _ part e) [
      | inl p ↦ let a = bind_ok (read_said rest) _ part p.1 in at_part (codes "said") front rest part p.0 (said_found rest a.0 a.1 ∙ ap part_text (ok_is (Said a.0) part a.2))
      | inr p ↦ elim (chosen (bytes_eq front (codes "refused")) _ _ part p.1) [
        | inl q ↦ let a = bind_ok (read_refused rest) _ part q.1 in at_part (codes "refused") front rest part q.0 (refused_found rest a.0 a.1 ∙ ap part_text (ok_is (Refused a.0) part a.2))
        | inr q ↦ elim (chosen (bytes_eq front (codes "page")) _ _ part q.1) [
          | inl r ↦ let a = bind_ok (read_page rest) _ part r.1 in at_part (codes "page") front rest part r.0 (page_found rest a.0 a.1 ∙ ap part_text (ok_is (Page a.0) part a.2))
          | inr r ↦ elim (chosen (bytes_eq front (codes "underway")) _ _ part r.1) [
            | inl s ↦ let a = bind_ok (read_underway rest) _ part s.1 in at_part (codes "underway") front rest part s.0 (underway_found rest a.0 a.1 ∙ ap part_text (ok_is (Underway a.0) part a.2))
            | inr s ↦ elim (chosen (bytes_eq front (codes "logged")) _ _ part s.1) [
              | inl t ↦ let a = bind_ok (read_entry rest) _ part t.1 in at_part (codes "logged") front rest part t.0 (entry_found rest a.0 a.1 (codes "logged") ∙ ap part_text (ok_is (Logged a.0) part a.2))
              | inr t ↦ elim (chosen (bytes_eq front (codes "held")) _ (Err why.Word) part t.1) [
                | inl u ↦ let a = bind_ok (read_held rest) _ part u.1 in at_part (codes "held") front rest part u.0 (held_found rest a.0 a.1 ∙ ap part_text (ok_is (Held a.0) part a.2))
                | inr u ↦ absurd cc
              ]
            ]
          ]
        ]
      ]
    ]

abbrev pub Says : Version → List ℕ → Option (List ℕ) → ReportLine → Type 0
Says version front rest line = with_rest front rest ++ 10 ∷ [] ≡ line_text version line

at_word : (version : Version) (word front : List ℕ) (rest : Option (List ℕ)) (line : ReportLine) → bytes_eq front word ≡ true → Says version word rest line → Says version front rest line
at_word version word front rest line same says = subst (λ (w : List ℕ). Says version w rest line) (sym (is_word front word same)) says

bare_found : (rest : Option (List ℕ)) (line read : ReportLine) → read_bare rest line ≡ Ok read → (rest ≡ None) × (line ≡ read)
unfolding read_bare
bare_found None line read e = (refl, ok_is line read e)
bare_found (Some fields) line read e = absurd cc

break_says : (version : Version) (rest : Option (List ℕ)) (line : ReportLine) → (rest ≡ None) × (Break ≡ line) → Says version (codes "break") rest line
break_says version rest line h = rw h.0 (ap (line_text version) h.1)

end_says : (version : Version) (rest : Option (List ℕ)) (line : ReportLine) → (rest ≡ None) × (End ≡ line) → Says version (codes "end") rest line
end_says version rest line h = rw h.0 (ap (line_text version) h.1)

pub words_found : (version : Version) (words : Cut) (line : ReportLine) → read_words version words ≡ Ok line → Says version words.front words.rest line
unfolding read_words
words_found version words line e =
    let front = words.front in
    let rest = words.rest in
    let text = line_text version in
    elim (chosen (bytes_eq front (codes "take")) _ _ line e) [
      | inl p ↦ let a = bind_ok (read_take version rest) _ line p.1 in at_word version (codes "take") front rest line p.0 (take_found version rest a.0 a.1 ∙ ap text (ok_is (Take a.0) line a.2))
      | inr p ↦ elim (chosen (bytes_eq front (codes "account")) _ _ line p.1) [
        | inl q ↦ let a = bind_ok (read_account version rest) _ line q.1 in at_word version (codes "account") front rest line q.0 (account_found version rest a.0 a.1 ∙ ap text (ok_is (Account a.0) line a.2))
        | inr q ↦ elim (chosen (bytes_eq front (codes "entry")) _ _ line q.1) [
          | inl r ↦ let a = bind_ok (read_entry rest) _ line r.1 in at_word version (codes "entry") front rest line r.0 (entry_found rest a.0 a.1 (codes "entry") ∙ ap text (ok_is (Entry a.0) line a.2))
          | inr r ↦ elim (chosen (bytes_eq front (codes "conn")) _ _ line r.1) [
            | inl s ↦ let a = bind_ok (read_conn rest) _ line s.1 in at_word version (codes "conn") front rest line s.0 (conn_found rest a.0 a.1 ∙ ap text (ok_is (Conn a.0) line a.2))
            | inr s ↦ elim (chosen (bytes_eq front (codes "device")) _ _ line s.1) [
              | inl t ↦ let a = bind_ok (read_device rest) _ line t.1 in at_word version (codes "device") front rest line t.0 (device_found rest a.0 a.1 ∙ ap text (ok_is (Device a.0) line a.2))
              | inr t ↦ elim (chosen (bytes_eq front (codes "break")) _ _ line t.1) [
                | inl u ↦ at_word version (codes "break") front rest line u.0 (break_says version rest line (bare_found rest Break line u.1))
                | inr u ↦ elim (chosen (bytes_eq front (codes "end")) _ _ line u.1) [
                  | inl v ↦ at_word version (codes "end") front rest line v.0 (end_says version rest line (bare_found rest End line v.1))
                  | inr v ↦ let a = bind_ok (read_part words) _ line v.1 in part_found words a.0 a.1 ∙ ap text (ok_is (Part a.0) line a.2)
                ]
              ]
            ]
          ]
        ]
      ]
    ]
