-- The lines below a device's are read as what they say.
use Rattle.std.proofs.Common.{◌≡◌, ℕ, true, List, [], ◌∷◌, ◌++◌, Option, Some, None, Ok, refl, codes, append_assoc}
use Rattle.std.specs.Fmt.{decimal}
use Rattle.std.specs.Prelude.{IfSome}
use Rattle.base_lemmas.proofs.Bytes.{bytes_eq-from_other}
use Rattle.cmd_report.specs.EntryLines.{EntryLineView}
use Rattle.cmd_report.specs.ReportText.{after_text, fields_text, held_text, mark_text, page_text, refused_text, refused_why_text, said_text, total_text, underway_text}
use Rattle.cmd_report.specs.declared.report.HeldLine.{HeldLine}
use Rattle.cmd_report.specs.declared.report.PageLine.{PageLine}
use Rattle.cmd_report.specs.declared.report.RefusedLine.{RefusedLine}
use Rattle.cmd_report.specs.declared.report.RefusedWhy.{RefusedWhy}
use Rattle.cmd_report.specs.declared.report.RefusedWhy.TheVariants.{NotBound, OutboxFull, Underway as StillUnderway}
use Rattle.cmd_report.specs.declared.report.SaidLine.{SaidLine}
use Rattle.cmd_report.specs.declared.report.SaidMark.{SaidMark}
use Rattle.cmd_report.specs.declared.report.SaidMark.TheVariants.{Acknowledged, Waiting, Undecided}
use Rattle.cmd_report.specs.declared.report.UnderwayLine.{UnderwayLine}
use Rattle.cmd_report_reader.proofs.Joined.{join1, join2, join3, join5, join6}
use Rattle.cmd_report_reader.proofs.FieldWords.{IsNumeral, field_word, line_plain, line_some, numeral, printable_word, spaced}
use Rattle.cmd_report_reader.specs.LineReading.{read_after, read_complete, read_entry, read_held, read_mark, read_page, read_part, read_refused, read_refused_why, read_said, read_total, read_underway, read_words}
use Rattle.cmd_report_reader.specs.Readable.{IsEntry, IsField, IsId, IsNumber, IsPage, IsSaid, IsUnderway}
use Rattle.cmd_report_reader.specs.declared.line.DevicePart.{DevicePart}
use Rattle.cmd_report_reader.specs.declared.line.DevicePart.TheVariants.{Said, Refused, Page, Underway, Logged, Held}
use Rattle.cmd_report_reader.specs.declared.line.ReportLine.{ReportLine}
use Rattle.cmd_report_reader.specs.declared.line.ReportLine.TheVariants.{Part}
use Rattle.cmd_schedule.specs.Reading.{cut_of, not_empty, rest_field}
use Rattle.cmd_schedule.specs.declared.schedule.Version.{Version}
use Rattle.cmd_schedule.proofs.Again.{IsPlain, IsWord, last_again, next_again, plain_append, plain_from_all}

-- a line is read as what it says
pub record IsAgain (version : Version) (line : ReportLine) (bytes : List ℕ) : Type 0 where
  pub read : read_words version (cut_of bytes) ≡ Ok line
  pub plain : IsPlain bytes

pub rest_again : (text : List ℕ) → not_empty text ≡ true → rest_field (Some text) ≡ Ok text
rest_again text h = rw h refl

-- ---- said

abbrev pub said_fields : SaidLine → List ℕ
said_fields s = decimal s.epoch ++ 32 ∷ (decimal s.n ++ 32 ∷ (mark_text s.state ++ 32 ∷ (s.to ++ 32 ∷ s.text)))

pub mark_word : (mark : SaidMark) → IsWord (mark_text mark)
mark_word Acknowledged = printable_word (codes "acknowledged") refl refl
mark_word Waiting = printable_word (codes "waiting") refl refl
mark_word Undecided = printable_word (codes "undecided") refl refl

mark_again : (mark : SaidMark) → read_mark (mark_text mark) ≡ Ok mark
unfolding read_mark
mark_again Acknowledged = refl
mark_again Waiting = refl
mark_again Undecided = refl

said_read : (version : Version) (s : SaidLine) → IsSaid s → read_words version (cut_of (codes "said " ++ said_fields s)) ≡ Ok (Part (Said s))
unfolding read_words read_part read_said
said_read version s h =
    let epoch = numeral s.epoch h.epoch in
    let n = numeral s.n h.n in
    rw (
      next_again (decimal s.epoch) (decimal s.n ++ 32 ∷ (mark_text s.state ++ 32 ∷ (s.to ++ 32 ∷ s.text))) epoch.word,
      next_again (decimal s.n) (mark_text s.state ++ 32 ∷ (s.to ++ 32 ∷ s.text)) n.word,
      next_again (mark_text s.state) (s.to ++ 32 ∷ s.text) (mark_word s.state),
      next_again s.to s.text (field_word s.to h.to),
      rest_again s.text (line_some s.text h.text),
      epoch.read,
      n.read,
      mark_again s.state,
    ) refl

pub said_again : (version : Version) (s : SaidLine) → IsSaid s → IsAgain version (Part (Said s)) (codes "said " ++ said_fields s)
said_again version s h = record {
  read = said_read version s h;
  plain = plain_append (codes "said ") (said_fields s) (plain_from_all (codes "said ") refl)
      (spaced (decimal s.epoch) _ (numeral s.epoch h.epoch).word.plain (spaced (decimal s.n) _ (numeral s.n h.n).word.plain
      (spaced (mark_text s.state) _ (mark_word s.state).plain (spaced s.to s.text (field_word s.to h.to).plain (line_plain s.text h.text)))));
}

pub said_split : (s : SaidLine) (rest : List ℕ) → said_text s ++ rest ≡ (codes "said " ++ said_fields s) ++ 10 ∷ rest
said_split s rest = join5 (codes "said ") (decimal s.epoch) (decimal s.n) (mark_text s.state) s.to s.text rest

-- ---- refused

abbrev pub refused_fields : RefusedLine → List ℕ
refused_fields r = decimal r.line ++ 32 ∷ refused_why_text r.why

pub refused_why_word : (reason : RefusedWhy) → IsWord (refused_why_text reason)
refused_why_word NotBound = printable_word (codes "NotBound") refl refl
refused_why_word OutboxFull = printable_word (codes "OutboxFull") refl refl
refused_why_word StillUnderway = printable_word (codes "Underway") refl refl

refused_why_again : (reason : RefusedWhy) → read_refused_why (refused_why_text reason) ≡ Ok reason
unfolding read_refused_why
refused_why_again NotBound = refl
refused_why_again OutboxFull = refl
refused_why_again StillUnderway = refl

refused_read : (version : Version) (r : RefusedLine) → IsNumber r.line → read_words version (cut_of (codes "refused " ++ refused_fields r)) ≡ Ok (Part (Refused r))
unfolding read_words read_part read_refused
refused_read version r h =
    let line = numeral r.line h in
    rw (next_again (decimal r.line) (refused_why_text r.why) line.word, last_again (refused_why_text r.why) (refused_why_word r.why), line.read, refused_why_again r.why) refl

pub refused_again : (version : Version) (r : RefusedLine) → IsNumber r.line → IsAgain version (Part (Refused r)) (codes "refused " ++ refused_fields r)
refused_again version r h = record {
  read = refused_read version r h;
  plain = plain_append (codes "refused ") (refused_fields r) (plain_from_all (codes "refused ") refl)
      (spaced (decimal r.line) (refused_why_text r.why) (numeral r.line h).word.plain (refused_why_word r.why).plain);
}

pub refused_split : (r : RefusedLine) (rest : List ℕ) → refused_text r ++ rest ≡ (codes "refused " ++ refused_fields r) ++ 10 ∷ rest
refused_split r rest = join2 (codes "refused ") (decimal r.line) (refused_why_text r.why) rest

-- ---- pages

abbrev pub page_fields : PageLine → List ℕ
page_fields p = after_text p.after ++ 32 ∷ (decimal p.count ++ 32 ∷ total_text p.total)

after_word : (after : Option (List ℕ)) → IfSome after IsId → IsWord (after_text after)
after_word None h = printable_word (codes "-") refl refl
after_word (Some id) h = field_word id h.field

after_again : (after : Option (List ℕ)) → IfSome after IsId → read_after (after_text after) ≡ after
after_again None h = refl
after_again (Some id) h = rw (bytes_eq-from_other id (codes "-") h.other) refl

total_plain : (total : Option ℕ) → IfSome total IsNumber → IsPlain (total_text total)
total_plain None h = plain_from_all (codes "more") refl
total_plain (Some total) h = plain_append (codes "complete ") (decimal total) (plain_from_all (codes "complete ") refl) (numeral total h).word.plain

total_again : (total : Option ℕ) → IfSome total IsNumber → read_total (Some (total_text total)) ≡ Ok total
unfolding read_total read_complete
total_again None h = refl
total_again (Some total) h = let number = numeral total h in rw (last_again (decimal total) number.word, number.read) refl

page_read : (version : Version) (p : PageLine) → IsPage p → read_words version (cut_of (codes "page " ++ page_fields p)) ≡ Ok (Part (Page p))
unfolding read_words read_part read_page
page_read version p h =
    let count = numeral p.count h.count in
    rw (
      next_again (after_text p.after) (decimal p.count ++ 32 ∷ total_text p.total) (after_word p.after h.after),
      next_again (decimal p.count) (total_text p.total) count.word,
      total_again p.total h.total,
      count.read,
      after_again p.after h.after,
    ) refl

pub page_again : (version : Version) (p : PageLine) → IsPage p → IsAgain version (Part (Page p)) (codes "page " ++ page_fields p)
page_again version p h = record {
  read = page_read version p h;
  plain = plain_append (codes "page ") (page_fields p) (plain_from_all (codes "page ") refl)
      (spaced (after_text p.after) _ (after_word p.after h.after).plain (spaced (decimal p.count) _ (numeral p.count h.count).word.plain (total_plain p.total h.total)));
}

pub page_split : (p : PageLine) (rest : List ℕ) → page_text p ++ rest ≡ (codes "page " ++ page_fields p) ++ 10 ∷ rest
page_split p rest = join3 (codes "page ") (after_text p.after) (decimal p.count) (total_text p.total) rest

-- ---- the page under way

abbrev pub underway_fields : UnderwayLine → List ℕ
underway_fields u = u.queryid ++ 32 ∷ decimal u.got

underway_read : (version : Version) (u : UnderwayLine) → IsUnderway u → read_words version (cut_of (codes "underway " ++ underway_fields u)) ≡ Ok (Part (Underway u))
unfolding read_words read_part read_underway
underway_read version u h =
    let got = numeral u.got h.got in
    rw (next_again u.queryid (decimal u.got) (field_word u.queryid h.queryid), last_again (decimal u.got) got.word, got.read) refl

pub underway_again : (version : Version) (u : UnderwayLine) → IsUnderway u → IsAgain version (Part (Underway u)) (codes "underway " ++ underway_fields u)
underway_again version u h = record {
  read = underway_read version u h;
  plain = plain_append (codes "underway ") (underway_fields u) (plain_from_all (codes "underway ") refl)
      (spaced u.queryid (decimal u.got) (field_word u.queryid h.queryid).plain (numeral u.got h.got).word.plain);
}

pub underway_split : (u : UnderwayLine) (rest : List ℕ) → underway_text u ++ rest ≡ (codes "underway " ++ underway_fields u) ++ 10 ∷ rest
underway_split u rest = join2 (codes "underway ") u.queryid (decimal u.got) rest

-- ---- entries

abbrev pub entry_fields : EntryLineView → List ℕ
entry_fields e = e.id ++ 32 ∷ (decimal e.stamp ++ 32 ∷ (e.from ++ 32 ∷ (e.to ++ 32 ∷ (e.origin ++ 32 ∷ e.text))))

pub entry_read : (e : EntryLineView) → IsEntry e → read_entry (Some (entry_fields e)) ≡ Ok e
unfolding read_entry
entry_read e h =
    let stamp = numeral e.stamp h.stamp in
    rw (
      next_again e.id (decimal e.stamp ++ 32 ∷ (e.from ++ 32 ∷ (e.to ++ 32 ∷ (e.origin ++ 32 ∷ e.text)))) (field_word e.id h.id),
      next_again (decimal e.stamp) (e.from ++ 32 ∷ (e.to ++ 32 ∷ (e.origin ++ 32 ∷ e.text))) stamp.word,
      next_again e.from (e.to ++ 32 ∷ (e.origin ++ 32 ∷ e.text)) (field_word e.from h.from),
      next_again e.to (e.origin ++ 32 ∷ e.text) (field_word e.to h.to),
      next_again e.origin e.text (field_word e.origin h.origin),
      rest_again e.text (line_some e.text h.text),
      stamp.read,
    ) refl

pub entry_plain : (e : EntryLineView) → IsEntry e → IsPlain (entry_fields e)
entry_plain e h =
    spaced e.id _ (field_word e.id h.id).plain (spaced (decimal e.stamp) _ (numeral e.stamp h.stamp).word.plain
    (spaced e.from _ (field_word e.from h.from).plain (spaced e.to _ (field_word e.to h.to).plain
    (spaced e.origin e.text (field_word e.origin h.origin).plain (line_plain e.text h.text)))))

pub entry_split : (e : EntryLineView) (rest : List ℕ) → fields_text e ++ rest ≡ entry_fields e ++ 10 ∷ rest
entry_split e rest = join6 e.id (decimal e.stamp) e.from e.to e.origin e.text rest

logged_read : (version : Version) (e : EntryLineView) → IsEntry e → read_words version (cut_of (codes "logged " ++ entry_fields e)) ≡ Ok (Part (Logged e))
unfolding read_words read_part
logged_read version e h = rw (entry_read e h) refl

pub logged_again : (version : Version) (e : EntryLineView) → IsEntry e → IsAgain version (Part (Logged e)) (codes "logged " ++ entry_fields e)
logged_again version e h = record {
  read = logged_read version e h;
  plain = plain_append (codes "logged ") (entry_fields e) (plain_from_all (codes "logged ") refl) (entry_plain e h);
}

-- ---- held

held_read : (version : Version) (h : HeldLine) → IsField h.id → read_words version (cut_of (codes "held " ++ h.id)) ≡ Ok (Part (Held h))
unfolding read_words read_part read_held
held_read version h is = rw (last_again h.id (field_word h.id is)) refl

pub held_again : (version : Version) (h : HeldLine) → IsField h.id → IsAgain version (Part (Held h)) (codes "held " ++ h.id)
held_again version h is = record {
  read = held_read version h is;
  plain = plain_append (codes "held ") h.id (plain_from_all (codes "held ") refl) (field_word h.id is).plain;
}

pub held_split : (h : HeldLine) (rest : List ℕ) → held_text h ++ rest ≡ (codes "held " ++ h.id) ++ 10 ∷ rest
held_split h rest = join1 (codes "held ") h.id rest
