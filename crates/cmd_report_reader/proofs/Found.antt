-- A report that was read is the one that the text tells.
use Rattle.std.proofs.Common.{◌≡◌, ℕ, ◌+◌, Bool, true, false, List, [], ◌∷◌, ◌++◌, Option, Some, None, Result, Ok, Err, refl, sym, ap, subst, ◌∙◌, inl, inr, codes, append_assoc, arith}
use Rattle.std.proofs.lemmas.Bool.{and_parts}
use Rattle.std.proofs.lemmas.List.{append-nil}
use Rattle.std.proofs.lemmas.Option.{same_Some}
use Rattle.std.proofs.lemmas.Slice.Eq.{bytes_eq-Decides}
use Rattle.std.specs.Fmt.{decimal}
use Rattle.std.specs.Prelude.{not}
use Rattle.std.specs.Str.{bytes_eq, is_utf8}
use Rattle.cmd_report.specs.ReportText.{header_text, text_of}
use Rattle.cmd_report.specs.Reports.{ReportView}
use Rattle.cmd_report_reader.proofs.Joined.{cons_append}
use Rattle.cmd_report_reader.proofs.Added.{line_added, not_true, told_text}
use Rattle.cmd_report_reader.proofs.LinesFound.{line_text, words_found}
use Rattle.cmd_report_reader.specs.LineReading.{read_words}
use Rattle.cmd_report_reader.specs.Reading.{at_line, read_first, read_heading, read_lines, read_next, read_one, read_pieces, read_two, read_version, report_reading, spelled}
use Rattle.cmd_report_reader.specs.SoFar.{SoFarView, add_line, nothing_told, report_of, whole_report}
use Rattle.cmd_report_reader.specs.declared.line.ReportLine.{ReportLine}
use Rattle.cmd_schedule.specs.Grammar.{mode_text}
use Rattle.cmd_schedule.specs.Reading.{Cut, Piece, cut_of, either, last_field, next_field, number_within, pieces_of, read_mode}
use Rattle.cmd_schedule.specs.declared.fault.LineWhy.{LineWhy}
use Rattle.cmd_schedule.specs.declared.fault.ScheduleFault.{ScheduleFault}
use Rattle.cmd_schedule.specs.declared.fault.ScheduleFault.TheVariants.{BadLine}
use Rattle.cmd_schedule.specs.declared.schedule.TheConstants.{MOST_KEPT}
use Rattle.cmd_schedule.specs.declared.schedule.Version.{Version}
use Rattle.cmd_schedule.specs.declared.schedule.Version.TheVariants.{One, Two}
use Rattle.cmd_schedule.proofs.Found.{bind_ok, chosen, cut_back, done, ended_text, gate, last_is, next_is, ok_is, pieces_back, text_of_piece, text_of_pieces, with_rest}
use Rattle.cmd_schedule.proofs.Numbers.{number_found}
use Rattle.cmd_schedule.specs.declared.fault.LineWhy.TheVariants as why

-- ---- line 1

mode_found : (word : List ℕ) (wire : Bool) → read_mode word ≡ Ok wire → word ≡ mode_text wire
unfolding read_mode
mode_found word wire e =
    elim (chosen (bytes_eq word (codes "wire")) (done true) _ wire e) [
      | inl p ↦ (bytes_eq-Decides word (codes "wire")).0 p.0 ∙ ap (λ (w : Bool). mode_text w) (ok_is true wire p.1)
      | inr p ↦ elim (chosen (bytes_eq word (codes "direct")) (done false) (Err why.Header) wire p.1) [
        | inl q ↦ (bytes_eq-Decides word (codes "direct")).0 q.0 ∙ ap (λ (w : Bool). mode_text w) (ok_is false wire q.1)
        | inr q ↦ absurd cc
      ]
    ]

-- the line of this version and these fields tells this
record Begins (version : List ℕ) (fields : Option (List ℕ)) (s : SoFarView) : Type 0 where
  text : header_text s.version s.wire ≡ codes "xmpp-report " ++ with_rest version fields
  bare : told_text s ≡ header_text s.version s.wire ++ 10 ∷ []
  going : s.ended ≡ false

bare_text : (version : Version) (wire : Bool) → told_text (nothing_told version wire) ≡ header_text version wire ++ 10 ∷ []
bare_text version wire = simp append-nil

one_begins : (mode : List ℕ) (wire : Bool) (fields : Option (List ℕ)) → fields ≡ Some mode → mode ≡ mode_text wire → Begins (codes "1") fields (nothing_told One wire)
one_begins mode wire fields is said = record { text = rw (is, said) refl; bare = bare_text One wire; going = refl }

one_found : (fields : Option (List ℕ)) (s : SoFarView) → read_one fields ≡ Ok s → Begins (codes "1") fields s
unfolding read_one
one_found fields s e =
    let l = bind_ok (last_field fields) _ s e in
    let m = bind_ok (read_mode l.0) _ s l.2 in
    subst (λ (h : SoFarView). Begins (codes "1") fields h) (ok_is (nothing_told One m.0) s m.2)
    (one_begins l.0 m.0 fields (last_is fields l.0 l.1) (mode_found l.0 m.0 m.1))

two_begins : (mode field : List ℕ) (wire : Bool) (keep : ℕ) (fields rest : Option (List ℕ)) → fields ≡ Some (with_rest mode rest) → rest ≡ Some field → mode ≡ mode_text wire → field ≡ decimal keep
    → Begins (codes "2") fields (nothing_told (Two keep) wire)
two_begins mode field wire keep fields rest is after said number = record { text = rw (is, after, said, number) refl; bare = bare_text (Two keep) wire; going = refl }

two_found : (fields : Option (List ℕ)) (s : SoFarView) → read_two fields ≡ Ok s → Begins (codes "2") fields s
unfolding read_two
two_found fields s e =
    let a = bind_ok (next_field fields) _ s e in
    let l = bind_ok (last_field a.0.rest) _ s a.2 in
    let m = bind_ok (read_mode a.0.front) _ s l.2 in
    let k = bind_ok (number_within 1 MOST_KEPT l.0) _ s m.2 in
    let n = number_found 1 MOST_KEPT l.0 k.0 (omega arith) k.1 in
    subst (λ (h : SoFarView). Begins (codes "2") fields h) (ok_is (nothing_told (Two k.0) m.0) s k.2)
    (two_begins a.0.front l.0 m.0 k.0 fields a.0.rest (next_is fields a.0 a.1) (last_is a.0.rest l.0 l.1) (mode_found a.0.front m.0 m.1) n.2)

at_version : (word front : List ℕ) (rest : Option (List ℕ)) (s : SoFarView) → bytes_eq front word ≡ true → Begins word rest s → Begins front rest s
at_version word front rest s same begins = subst (λ (w : List ℕ). Begins w rest s) (sym ((bytes_eq-Decides front word).0 same)) begins

version_found : (words : Cut) (s : SoFarView) → read_version words ≡ Ok s → Begins words.front words.rest s
unfolding read_version
version_found words s e =
    elim (chosen (bytes_eq words.front (codes "1")) (read_one words.rest) _ s e) [
      | inl p ↦ at_version (codes "1") words.front words.rest s p.0 (one_found words.rest s p.1)
      | inr p ↦ elim (chosen (bytes_eq words.front (codes "2")) (read_two words.rest) (Err why.Header) s p.1) [
        | inl q ↦ at_version (codes "2") words.front words.rest s q.0 (two_found words.rest s q.1)
        | inr q ↦ absurd cc
      ]
    ]

-- the line tells this
record IsBegun (line : List ℕ) (s : SoFarView) : Type 0 where
  text : told_text s ≡ line ++ 10 ∷ []
  going : s.ended ≡ false

after_name : (name : List ℕ) (rest : Option (List ℕ)) (after : List ℕ) → name ≡ codes "xmpp-report" → rest ≡ Some after → with_rest name rest ≡ codes "xmpp-report " ++ after
after_name name rest after is then = rw (is, then) refl

heading_found : (line : List ℕ) (s : SoFarView) → read_heading line ≡ Ok s → IsBegun line s
unfolding read_heading
heading_found line s e =
    let b = bind_ok (next_field (Some line)) _ s e in
    let c = gate (bytes_eq b.0.front (codes "xmpp-report")) why.Header _ s b.2 in
    let d = bind_ok (next_field b.0.rest) _ s c.1 in
    let v = version_found d.0 s d.2 in
    let name = (bytes_eq-Decides b.0.front (codes "xmpp-report")).0 c.0 in
    let whole : line ≡ with_rest b.0.front b.0.rest = same_Some line (with_rest b.0.front b.0.rest) (next_is (Some line) b.0 b.1) in
    let header : line ≡ header_text s.version s.wire = whole ∙ after_name b.0.front b.0.rest (with_rest d.0.front d.0.rest) name (next_is b.0.rest d.0 d.1) ∙ sym v.text in
    record { text = v.bare ∙ ap (λ (xs : List ℕ). xs ++ 10 ∷ []) (sym header); going = v.going }

-- ---- the lines behind it

either_ok : {A : Type 0} (r : Result A LineWhy) (f : A → Result ReportView ScheduleFault) (n : ℕ) (report : ReportView) → either f (λ reason. Err (BadLine n reason)) r ≡ Ok report → (x : A) × (r ≡ Ok x) × (f x ≡ Ok report)
either_ok (Ok x) f n report e = (x, refl, e)
either_ok (Err reason) f n report e = absurd cc

line_ok : (n : ℕ) (r : Result ReportView LineWhy) (report : ReportView) → at_line n r ≡ Ok report → r ≡ Ok report
line_ok n (Ok x) report e = cc
line_ok n (Err reason) report e = absurd cc

-- a line adds its text
abbrev AddsPiece : SoFarView → SoFarView → Piece → Type 0
AddsPiece s further piece = (rest : List ℕ) → told_text further ++ rest ≡ told_text s ++ text_of_piece piece rest

adds_piece : (s further : SoFarView) (piece : Piece) (line : List ℕ) → piece.ended ≡ true → piece.bytes ++ 10 ∷ [] ≡ line → told_text further ≡ told_text s ++ line → AddsPiece s further piece
adds_piece s further piece line ended is added rest =
    let here : text_of_piece piece rest ≡ piece.bytes ++ 10 ∷ rest = ended_text piece piece.bytes rest ended refl in
    let apart : piece.bytes ++ 10 ∷ rest ≡ line ++ rest = sym (append_assoc piece.bytes (10 ∷ []) rest) ∙ ap (λ (xs : List ℕ). xs ++ rest) is in
    ap (λ (xs : List ℕ). xs ++ rest) added ∙ append_assoc (told_text s) line rest ∙ ap (λ (xs : List ℕ). told_text s ++ xs) (sym (here ∙ apart))

next_found : (s further : SoFarView) (piece : Piece) → read_next s piece ≡ Ok further → AddsPiece s further piece
unfolding read_next
next_found s further piece e =
    let a = gate (spelled piece) why.Ending _ further e in
    let b = gate (not s.ended) why.Word _ further a.1 in
    let c = bind_ok (read_words s.version (cut_of piece.bytes)) _ further b.1 in
    let added = line_added s further c.0 (not_true s.ended b.0) c.2 in
    let says = words_found s.version (cut_of piece.bytes) c.0 c.1 in
    adds_piece s further piece (line_text s.version c.0) (and_parts piece.ended (is_utf8 piece.bytes) a.0).0
    (ap (λ (xs : List ℕ). xs ++ 10 ∷ []) (sym (cut_back piece.bytes)) ∙ says) added.text

whole_found : (s : SoFarView) (report : ReportView) → whole_report s ≡ Ok report → text_of report ≡ told_text s
unfolding whole_report text_of
whole_found s report e =
    let a = gate s.ended why.Ending _ report e in
    subst (λ (r : ReportView). text_of r ≡ told_text s) (ok_is (report_of s) report a.1) (rw a.0 (simp (append_assoc, cons_append)))

lines_found : (n : ℕ) (s : SoFarView) (pieces : List Piece) (report : ReportView) → read_lines n s pieces ≡ Ok report → text_of report ≡ told_text s ++ text_of_pieces pieces
lines_found n s [] report e = whole_found s report (line_ok n (whole_report s) report e) ∙ sym (append-nil (told_text s))
lines_found n s (piece ∷ pieces) report e =
    let a = either_ok (read_next s piece) _ n report e in
    lines_found (n + 1) a.0 pieces report a.2 ∙ next_found s a.0 piece a.1 (text_of_pieces pieces)

first_found : (piece : Piece) (s : SoFarView) → read_first piece ≡ Ok s → (rest : List ℕ) → told_text s ++ rest ≡ text_of_piece piece rest
unfolding read_first
first_found piece s e rest =
    let a = gate (spelled piece) why.Ending _ s e in
    let h = heading_found piece.bytes s a.1 in
    ap (λ (xs : List ℕ). xs ++ rest) h.text ∙ append_assoc piece.bytes (10 ∷ []) rest
    ∙ sym (ended_text piece piece.bytes rest (and_parts piece.ended (is_utf8 piece.bytes) a.0).0 refl)

pieces_found : (pieces : List Piece) (report : ReportView) → read_pieces pieces ≡ Ok report → text_of report ≡ text_of_pieces pieces
pieces_found [] report e = absurd cc
pieces_found (piece ∷ pieces) report e =
    let a = either_ok (read_first piece) _ 1 report e in
    lines_found 2 a.0 pieces report a.2 ∙ first_found piece a.0 a.1 (text_of_pieces pieces)

pub report_found : (text : List ℕ) (report : ReportView) → report_reading text ≡ Ok report → text ≡ text_of report
unfolding report_reading
report_found text report e = sym (pieces_found (pieces_of text) report e ∙ pieces_back text)
