-- The lines of a report that stand by themselves are read as what they say.
use Rattle.std.proofs.Common.{◌≡◌, ℕ, true, false, List, [], ◌∷◌, ◌++◌, Option, Some, None, Ok, refl, sym, ap, ◌∙◌, codes, append_assoc}
use Rattle.std.specs.Fmt.{decimal}
use Rattle.std.specs.Prelude.{Bool, IfSome, is_some}
use Rattle.std.proofs.lemmas.Bool.{false≢true}
use Rattle.std.proofs.lemmas.List.{append-nil}
use Rattle.cmd_report.specs.EntryLines.{EntryLineView}
use Rattle.cmd_report.specs.LawfulRuns.{tells_moments}
use Rattle.cmd_report.specs.ReportText.{conn_end_text, conn_text, entry_text, last_text, moment_text, settled_text, take_text}
use Rattle.cmd_report.specs.Reports.{AccountView, DeviceView}
use Rattle.cmd_report.specs.declared.report.ConnEnd.{ConnEnd}
use Rattle.cmd_report.specs.declared.report.ConnEnd.TheVariants.{Cut as CutOff, Left, Shut, Open}
use Rattle.cmd_report.specs.declared.report.ConnLine.{ConnLine}
use Rattle.cmd_report.specs.declared.report.TakeLine.{TakeLine}
use Rattle.cmd_report_reader.proofs.Joined.{join4, join7, join_account, join_take, join_take_right}
use Rattle.cmd_report_reader.proofs.FieldWords.{IsNumeral, field_word, numeral, printable_word, spaced}
use Rattle.cmd_report_reader.proofs.Parts.{IsAgain, entry_fields, entry_plain, entry_read, entry_split}
use Rattle.cmd_report_reader.specs.LineReading.{read_account, read_bare, read_conn, read_conn_end, read_counts, read_device, read_pipes, read_settled, read_take, read_told, read_words}
use Rattle.cmd_report_reader.specs.Readable.{IsConn, IsEntry, IsField, IsLast, IsNumber, IsTake}
use Rattle.cmd_report_reader.specs.declared.line.ReportLine.{ReportLine}
use Rattle.cmd_report_reader.specs.declared.line.ReportLine.TheVariants.{Take, Account, Entry, Conn, Device, Break, End}
use Rattle.cmd_schedule.specs.Reading.{cut_of}
use Rattle.cmd_schedule.specs.declared.schedule.Version.{Version}
use Rattle.cmd_schedule.specs.declared.schedule.Version.TheVariants.{One, Two}
use Rattle.cmd_schedule.proofs.Again.{IsPlain, IsWord, last_again, next_again, plain_append, plain_from_all}

-- ---- takes

abbrev pub told_fields : List ℕ → Option ℕ → List ℕ
told_fields account None = account
told_fields account (Some moment) = account ++ 32 ∷ decimal moment

abbrev pub take_fields : TakeLine → List ℕ
take_fields t = t.device ++ 32 ∷ (decimal t.epoch ++ 32 ∷ (decimal t.n ++ 32 ∷ told_fields t.account t.moment))

told_read : (version : Version) (account : List ℕ) (moment : Option ℕ) → IsField account → is_some moment ≡ tells_moments version → IfSome moment IsNumber
    → read_told version (Some (told_fields account moment)) ≡ Ok (account, moment)
unfolding read_told
told_read One account None field told number = rw (last_again account (field_word account field)) refl
told_read One account (Some moment) field told number = absurd (false≢true (sym told))
told_read (Two keep) account None field told number = absurd (false≢true told)
told_read (Two keep) account (Some moment) field told number =
    let m = numeral moment number in
    rw (next_again account (decimal moment) (field_word account field), last_again (decimal moment) m.word, m.read) refl

told_plain : (account : List ℕ) (moment : Option ℕ) → IsField account → IfSome moment IsNumber → IsPlain (told_fields account moment)
told_plain account None field number = (field_word account field).plain
told_plain account (Some moment) field number = spaced account (decimal moment) (field_word account field).plain (numeral moment number).word.plain

take_read : (version : Version) (t : TakeLine) → IsTake version t → read_words version (cut_of (codes "take " ++ take_fields t)) ≡ Ok (Take t)
unfolding read_words read_take
take_read version t h =
    let epoch = numeral t.epoch h.epoch in
    let n = numeral t.n h.n in
    rw (
      next_again t.device (decimal t.epoch ++ 32 ∷ (decimal t.n ++ 32 ∷ told_fields t.account t.moment)) (field_word t.device h.device),
      next_again (decimal t.epoch) (decimal t.n ++ 32 ∷ told_fields t.account t.moment) epoch.word,
      next_again (decimal t.n) (told_fields t.account t.moment) n.word,
      told_read version t.account t.moment h.account h.told h.moment,
      epoch.read,
      n.read,
    ) refl

pub take_again : (version : Version) (t : TakeLine) → IsTake version t → IsAgain version (Take t) (codes "take " ++ take_fields t)
take_again version t h = record {
  read = take_read version t h;
  plain = plain_append (codes "take ") (take_fields t) (plain_from_all (codes "take ") refl)
      (spaced t.device _ (field_word t.device h.device).plain (spaced (decimal t.epoch) _ (numeral t.epoch h.epoch).word.plain
      (spaced (decimal t.n) _ (numeral t.n h.n).word.plain (told_plain t.account t.moment h.account h.moment))));
}

told_split : (account : List ℕ) (moment : Option ℕ) (rest : List ℕ) → (account ++ moment_text moment) ++ 10 ∷ rest ≡ told_fields account moment ++ 10 ∷ rest
told_split account None rest = append_assoc account [] (10 ∷ rest)
told_split account (Some moment) rest = refl

pub take_split : (t : TakeLine) (rest : List ℕ) → take_text t ++ rest ≡ (codes "take " ++ take_fields t) ++ 10 ∷ rest
take_split t rest =
    let last = told_split t.account t.moment rest in
    join_take (codes "take ") t.device (decimal t.epoch) (decimal t.n) t.account (moment_text t.moment) rest
    ∙ ap (λ (xs : List ℕ). codes "take " ++ (t.device ++ 32 ∷ (decimal t.epoch ++ 32 ∷ (decimal t.n ++ 32 ∷ xs)))) last
    ∙ join_take_right (codes "take ") t.device (decimal t.epoch) (decimal t.n) (told_fields t.account t.moment) rest

-- ---- accounts

abbrev pub counts_fields : Version → ℕ → ℕ → List ℕ
counts_fields One count last = decimal count
counts_fields (Two keep) count last = decimal count ++ 32 ∷ decimal last

-- an account without its entries
abbrev pub named : List ℕ → ℕ → ℕ → AccountView
named name count last = record { name = name; count = count; last = last; entries = [] }

counts_read : (version : Version) (count last : ℕ) → IsNumber count → IsLast version count last → read_counts version (Some (counts_fields version count last)) ≡ Ok (count, last)
unfolding read_counts
counts_read One count last number is = let c = numeral count number in rw (last_again (decimal count) c.word, c.read, is) refl
counts_read (Two keep) count last number is =
    let c = numeral count number in
    let l = numeral last is in
    rw (next_again (decimal count) (decimal last) c.word, last_again (decimal last) l.word, c.read, l.read) refl

counts_plain : (version : Version) (count last : ℕ) → IsNumber count → IsLast version count last → IsPlain (counts_fields version count last)
counts_plain One count last number is = (numeral count number).word.plain
counts_plain (Two keep) count last number is = spaced (decimal count) (decimal last) (numeral count number).word.plain (numeral last is).word.plain

account_read : (version : Version) (name : List ℕ) (count last : ℕ) → IsField name → IsNumber count → IsLast version count last
    → read_words version (cut_of (codes "account " ++ (name ++ 32 ∷ counts_fields version count last))) ≡ Ok (Account (named name count last))
unfolding read_words read_account
account_read version name count last field number is =
    rw (next_again name (counts_fields version count last) (field_word name field), counts_read version count last number is) refl

pub account_again : (version : Version) (name : List ℕ) (count last : ℕ) → IsField name → IsNumber count → IsLast version count last
    → IsAgain version (Account (named name count last)) (codes "account " ++ (name ++ 32 ∷ counts_fields version count last))
account_again version name count last field number is = record {
  read = account_read version name count last field number is;
  plain = plain_append (codes "account ") _ (plain_from_all (codes "account ") refl)
      (spaced name _ (field_word name field).plain (counts_plain version count last number is));
}

-- the text of an account's own line
abbrev pub account_line : Version → List ℕ → ℕ → ℕ → List ℕ
account_line version name count last = codes "account " ++ name ++ 32 ∷ decimal count ++ last_text version last

pub account_split : (version : Version) (name : List ℕ) (count last : ℕ) (rest : List ℕ) →
    account_line version name count last ++ 10 ∷ rest ≡ (codes "account " ++ (name ++ 32 ∷ counts_fields version count last)) ++ 10 ∷ rest
account_split One name count last rest =
    join_account (codes "account ") name (decimal count) [] rest ∙ ap (λ (xs : List ℕ). (codes "account " ++ (name ++ 32 ∷ xs)) ++ 10 ∷ rest) (append-nil (decimal count))
account_split (Two keep) name count last rest = join_account (codes "account ") name (decimal count) (32 ∷ decimal last) rest

-- ---- entries

entry_line_read : (version : Version) (e : EntryLineView) → IsEntry e → read_words version (cut_of (codes "entry " ++ entry_fields e)) ≡ Ok (Entry e)
unfolding read_words
entry_line_read version e h = rw (entry_read e h) refl

pub entry_again : (version : Version) (e : EntryLineView) → IsEntry e → IsAgain version (Entry e) (codes "entry " ++ entry_fields e)
entry_again version e h = record {
  read = entry_line_read version e h;
  plain = plain_append (codes "entry ") (entry_fields e) (plain_from_all (codes "entry ") refl) (entry_plain e h);
}

pub entry_line_split : (e : EntryLineView) (rest : List ℕ) → entry_text e ++ rest ≡ (codes "entry " ++ entry_fields e) ++ 10 ∷ rest
entry_line_split e rest = ap (λ (xs : List ℕ). codes "entry " ++ xs) (entry_split e rest)

-- ---- connections

abbrev pub conn_fields : ConnLine → List ℕ
conn_fields c =
    decimal c.k ++ 32 ∷ (c.device ++ 32 ∷ (decimal c.upput ++ 32 ∷ (decimal c.uptaken ++ 32 ∷ (decimal c.downput ++ 32 ∷ (decimal c.downtaken ++ 32 ∷ conn_end_text c.end)))))

conn_end_word : (ended : ConnEnd) → IsWord (conn_end_text ended)
conn_end_word CutOff = printable_word (codes "cut") refl refl
conn_end_word Left = printable_word (codes "left") refl refl
conn_end_word Shut = printable_word (codes "shut") refl refl
conn_end_word Open = printable_word (codes "open") refl refl

conn_end_again : (ended : ConnEnd) → read_conn_end (conn_end_text ended) ≡ Ok ended
unfolding read_conn_end
conn_end_again CutOff = refl
conn_end_again Left = refl
conn_end_again Shut = refl
conn_end_again Open = refl

abbrev pipes_fields : ConnLine → List ℕ
pipes_fields c = decimal c.upput ++ 32 ∷ (decimal c.uptaken ++ 32 ∷ (decimal c.downput ++ 32 ∷ (decimal c.downtaken ++ 32 ∷ conn_end_text c.end)))

pipes_read : (c : ConnLine) → IsConn c → read_pipes (Some (pipes_fields c)) ≡ Ok (record { upput = c.upput; uptaken = c.uptaken; downput = c.downput; downtaken = c.downtaken; end = c.end })
unfolding read_pipes
pipes_read c h =
    let upput = numeral c.upput h.upput in
    let uptaken = numeral c.uptaken h.uptaken in
    let downput = numeral c.downput h.downput in
    let downtaken = numeral c.downtaken h.downtaken in
    rw (
      next_again (decimal c.upput) (decimal c.uptaken ++ 32 ∷ (decimal c.downput ++ 32 ∷ (decimal c.downtaken ++ 32 ∷ conn_end_text c.end))) upput.word,
      next_again (decimal c.uptaken) (decimal c.downput ++ 32 ∷ (decimal c.downtaken ++ 32 ∷ conn_end_text c.end)) uptaken.word,
      next_again (decimal c.downput) (decimal c.downtaken ++ 32 ∷ conn_end_text c.end) downput.word,
      next_again (decimal c.downtaken) (conn_end_text c.end) downtaken.word,
      last_again (conn_end_text c.end) (conn_end_word c.end),
      upput.read,
      uptaken.read,
      downput.read,
      downtaken.read,
      conn_end_again c.end,
    ) refl

conn_read : (version : Version) (c : ConnLine) → IsConn c → read_words version (cut_of (codes "conn " ++ conn_fields c)) ≡ Ok (Conn c)
unfolding read_words read_conn
conn_read version c h =
    let k = numeral c.k h.k in
    rw (
      next_again (decimal c.k) (c.device ++ 32 ∷ pipes_fields c) k.word,
      next_again c.device (pipes_fields c) (field_word c.device h.device),
      pipes_read c h,
      k.read,
    ) refl

pub conn_again : (version : Version) (c : ConnLine) → IsConn c → IsAgain version (Conn c) (codes "conn " ++ conn_fields c)
conn_again version c h = record {
  read = conn_read version c h;
  plain = plain_append (codes "conn ") (conn_fields c) (plain_from_all (codes "conn ") refl)
      (spaced (decimal c.k) _ (numeral c.k h.k).word.plain (spaced c.device _ (field_word c.device h.device).plain
      (spaced (decimal c.upput) _ (numeral c.upput h.upput).word.plain (spaced (decimal c.uptaken) _ (numeral c.uptaken h.uptaken).word.plain
      (spaced (decimal c.downput) _ (numeral c.downput h.downput).word.plain (spaced (decimal c.downtaken) _ (numeral c.downtaken h.downtaken).word.plain
      (conn_end_word c.end).plain))))));
}

pub conn_split : (c : ConnLine) (rest : List ℕ) → conn_text c ++ rest ≡ (codes "conn " ++ conn_fields c) ++ 10 ∷ rest
conn_split c rest =
    join7 (codes "conn ") (decimal c.k) c.device (decimal c.upput) (decimal c.uptaken) (decimal c.downput) (decimal c.downtaken) (conn_end_text c.end) rest

-- ---- devices

abbrev pub device_fields : List ℕ → List ℕ → ℕ → Bool → List ℕ
device_fields name account epoch settled = name ++ 32 ∷ (account ++ 32 ∷ (decimal epoch ++ 32 ∷ settled_text settled))

-- a device with nothing of it but its own line
abbrev pub begun : List ℕ → List ℕ → ℕ → Bool → DeviceView
begun name account epoch settled = record {
  name = name;
  account = account;
  epoch = epoch;
  settled = settled;
  said = [];
  refused = [];
  pages = [];
  underway = [];
  logged = [];
  held = [];
}

settled_word : (settled : Bool) → IsWord (settled_text settled)
settled_word true = printable_word (codes "yes") refl refl
settled_word false = printable_word (codes "no") refl refl

settled_again : (settled : Bool) → read_settled (settled_text settled) ≡ Ok settled
unfolding read_settled
settled_again true = refl
settled_again false = refl

device_read : (version : Version) (name account : List ℕ) (epoch : ℕ) (settled : Bool) → IsField name → IsField account → IsNumber epoch
    → read_words version (cut_of (codes "device " ++ device_fields name account epoch settled)) ≡ Ok (Device (begun name account epoch settled))
unfolding read_words read_device
device_read version name account epoch settled hn ha he =
    let number = numeral epoch he in
    rw (
      next_again name (account ++ 32 ∷ (decimal epoch ++ 32 ∷ settled_text settled)) (field_word name hn),
      next_again account (decimal epoch ++ 32 ∷ settled_text settled) (field_word account ha),
      next_again (decimal epoch) (settled_text settled) number.word,
      last_again (settled_text settled) (settled_word settled),
      number.read,
      settled_again settled,
    ) refl

pub device_again : (version : Version) (name account : List ℕ) (epoch : ℕ) (settled : Bool) → IsField name → IsField account → IsNumber epoch
    → IsAgain version (Device (begun name account epoch settled)) (codes "device " ++ device_fields name account epoch settled)
device_again version name account epoch settled hn ha he = record {
  read = device_read version name account epoch settled hn ha he;
  plain = plain_append (codes "device ") _ (plain_from_all (codes "device ") refl)
      (spaced name _ (field_word name hn).plain (spaced account _ (field_word account ha).plain
      (spaced (decimal epoch) _ (numeral epoch he).word.plain (settled_word settled).plain)));
}

-- the text of a device's own line
abbrev pub device_line : List ℕ → List ℕ → ℕ → Bool → List ℕ
device_line name account epoch settled = codes "device " ++ name ++ 32 ∷ account ++ 32 ∷ decimal epoch ++ 32 ∷ settled_text settled

pub device_split : (name account : List ℕ) (epoch : ℕ) (settled : Bool) (rest : List ℕ) →
    device_line name account epoch settled ++ 10 ∷ rest ≡ (codes "device " ++ device_fields name account epoch settled) ++ 10 ∷ rest
device_split name account epoch settled rest = join4 (codes "device ") name account (decimal epoch) (settled_text settled) rest

-- ---- lines of one word

pub break_again : (version : Version) → IsAgain version Break (codes "break")
unfolding read_words read_bare
break_again version = record { read = refl; plain = plain_from_all (codes "break") refl }

pub end_again : (version : Version) → IsAgain version End (codes "end")
unfolding read_words read_bare
end_again version = record { read = refl; plain = plain_from_all (codes "end") refl }
