-- Line 1 is read as what it says, and what it may say is read again.
use Rattle.std.proofs.Common.{◌≡◌, ℕ, ◌≤◌, Bool, true, false, List, [], ◌∷◌, ◌++◌, Option, Some, Result, Ok, Err, refl, sym, ap, subst, ◌∙◌, inl, inr, codes, arith}
use Rattle.std.specs.Prelude.{IsTrue, nat_le}
use Rattle.std.specs.Fmt.{decimal}
use Rattle.std.specs.Str.{bytes_eq, is_utf8}
use Rattle.std.proofs.lemmas.Bool.{and_from, and_parts, leb-true, le-leb}
use Rattle.std.proofs.lemmas.Option.{same_Some}
use Rattle.std.proofs.lemmas.Slice.Eq.{bytes_eq-Decides}
use Rattle.std.proofs.lemmas.Str.{is_utf8-from_IsUtf8}
use Rattle.cmd_schedule.specs.Grammar.{header_text, may_keep, mode_text}
use Rattle.cmd_schedule.specs.Reading.{Cut, Piece, as_heading, last_field, next_field, number_within, read_header, read_heading, read_mode, read_one, read_two, read_version}
use Rattle.cmd_schedule.specs.declared.fault.LineWhy.{LineWhy}
use Rattle.cmd_schedule.specs.declared.heading.Heading.{Heading}
use Rattle.cmd_schedule.specs.declared.schedule.TheConstants.{MOST_KEPT}
use Rattle.cmd_schedule.specs.declared.schedule.Version.{Version}
use Rattle.cmd_schedule.specs.declared.schedule.Version.TheVariants.{One, Two}
use Rattle.cmd_schedule.proofs.Again.{IsPlain, digits_word, last_again, plain_append, plain_from_all}
use Rattle.cmd_schedule.proofs.Found.{bind_ok, chosen, done, ended_text, gate, last_is, next_is, ok_is, text_of_pieces, with_rest}
use Rattle.cmd_schedule.proofs.Numbers.{decimal_number, number_again, number_found}
use Rattle.cmd_schedule.proofs.Words.{Lacks}
use Rattle.cmd_schedule.specs.declared.fault.LineWhy.TheVariants as why

-- ---- what line 1 is read as

-- its archives may keep so many, and the line of this version and these fields is its text
abbrev Begins : List ℕ → Option (List ℕ) → Heading → Type 0
Begins version fields heading = IsTrue (may_keep heading.version) × (header_text heading.version heading.wire ≡ codes "xmpp-schedule " ++ with_rest version fields)

mode_found : (word : List ℕ) (wire : Bool) → read_mode word ≡ Ok wire → word ≡ mode_text wire
unfolding read_mode
mode_found word wire e =
    elim (chosen (bytes_eq word (codes "wire")) (done true) _ wire e) [
      | inl p ↦ (bytes_eq-Decides word (codes "wire")).0 p.0 ∙ ap (λ (w : Bool). mode_text w) (ok_is true wire p.1)
      | inr p ↦ elim (chosen (bytes_eq word (codes "direct")) (done false) (Err why.Header) wire p.1) [
        | inl q ↦ (bytes_eq-Decides word (codes "direct")).0 q.0 ∙ ap (λ (w : Bool). mode_text w) (ok_is false wire q.1)
        | inr q ↦ absurd cc
      ]
    ]

abbrev pub headed : Version → Bool → Heading
headed version wire = record { version = version; wire = wire }

one_begins : (mode : List ℕ) (wire : Bool) (fields : Option (List ℕ)) → fields ≡ Some mode → mode ≡ mode_text wire → Begins (codes "1") fields (headed One wire)
one_begins mode wire fields is said = (refl, rw (is, said) refl)

one_found : (fields : Option (List ℕ)) (heading : Heading) → read_one fields ≡ Ok heading → Begins (codes "1") fields heading
unfolding read_one
one_found fields heading e =
    let l = bind_ok (last_field fields) _ heading e in
    let m = bind_ok (read_mode l.0) _ heading l.2 in
    subst (λ (h : Heading). Begins (codes "1") fields h) (ok_is (headed One m.0) heading m.2)
    (one_begins l.0 m.0 fields (last_is fields l.0 l.1) (mode_found l.0 m.0 m.1))

two_begins : (mode field : List ℕ) (wire : Bool) (keep : ℕ) (fields rest : Option (List ℕ)) → 1 ≤ keep → keep ≤ MOST_KEPT
    → fields ≡ Some (with_rest mode rest) → rest ≡ Some field → mode ≡ mode_text wire → field ≡ decimal keep → Begins (codes "2") fields (headed (Two keep) wire)
two_begins mode field wire keep fields rest low high is after said number = (and_from _ _ (le-leb 1 keep low) (le-leb keep MOST_KEPT high), rw (is, after, said, number) refl)

two_found : (fields : Option (List ℕ)) (heading : Heading) → read_two fields ≡ Ok heading → Begins (codes "2") fields heading
unfolding read_two
two_found fields heading e =
    let a = bind_ok (next_field fields) _ heading e in
    let l = bind_ok (last_field a.0.rest) _ heading a.2 in
    let m = bind_ok (read_mode a.0.front) _ heading l.2 in
    let k = bind_ok (number_within 1 MOST_KEPT l.0) _ heading m.2 in
    let n = number_found 1 MOST_KEPT l.0 k.0 (omega arith) k.1 in
    subst (λ (h : Heading). Begins (codes "2") fields h) (ok_is (headed (Two k.0) m.0) heading k.2)
    (two_begins a.0.front l.0 m.0 k.0 fields a.0.rest n.0 n.1 (next_is fields a.0 a.1) (last_is a.0.rest l.0 l.1) (mode_found a.0.front m.0 m.1) n.2)

at_version : (word front : List ℕ) (rest : Option (List ℕ)) (heading : Heading) → bytes_eq front word ≡ true → Begins word rest heading → Begins front rest heading
at_version word front rest heading same begins = subst (λ (w : List ℕ). Begins w rest heading) (sym ((bytes_eq-Decides front word).0 same)) begins

version_found : (words : Cut) (heading : Heading) → read_version words ≡ Ok heading → Begins words.front words.rest heading
unfolding read_version
version_found words heading e =
    elim (chosen (bytes_eq words.front (codes "1")) (read_one words.rest) _ heading e) [
      | inl p ↦ at_version (codes "1") words.front words.rest heading p.0 (one_found words.rest heading p.1)
      | inr p ↦ elim (chosen (bytes_eq words.front (codes "2")) (read_two words.rest) (Err why.Header) heading p.1) [
        | inl q ↦ at_version (codes "2") words.front words.rest heading q.0 (two_found words.rest heading q.1)
        | inr q ↦ absurd cc
      ]
    ]

-- a line that says this is its text
record IsHeading (line : List ℕ) (heading : Heading) : Type 0 where
  keeps : IsTrue (may_keep heading.version)
  spelled : line ≡ header_text heading.version heading.wire

after_name : (name : List ℕ) (rest : Option (List ℕ)) (after : List ℕ) → name ≡ codes "xmpp-schedule" → rest ≡ Some after → with_rest name rest ≡ codes "xmpp-schedule " ++ after
after_name name rest after is then = rw (is, then) refl

heading_found : (line : List ℕ) (heading : Heading) → read_heading line ≡ Ok heading → IsHeading line heading
unfolding read_heading
heading_found line heading e =
    let a = gate (is_utf8 line) why.Ending _ heading e in
    let b = bind_ok (next_field (Some line)) _ heading a.1 in
    let c = gate (bytes_eq b.0.front (codes "xmpp-schedule")) why.Header _ heading b.2 in
    let d = bind_ok (next_field b.0.rest) _ heading c.1 in
    let v = version_found d.0 heading d.2 in
    let name = (bytes_eq-Decides b.0.front (codes "xmpp-schedule")).0 c.0 in
    let whole : line ≡ with_rest b.0.front b.0.rest = same_Some line (with_rest b.0.front b.0.rest) (next_is (Some line) b.0 b.1) in
    record {
      keeps = v.0;
      spelled = whole ∙ after_name b.0.front b.0.rest (with_rest d.0.front d.0.rest) name (next_is b.0.rest d.0 d.1) ∙ sym v.1;
    }

as_heading_ok : (r : Result Heading LineWhy) (heading : Heading) → as_heading r ≡ Ok heading → r ≡ Ok heading
as_heading_ok (Ok other) heading e = e
as_heading_ok (Err reason) heading e = absurd cc

-- what line 1 begins, and the text of the lines
pub record HasBegun (pieces : List Piece) (begun : Heading × List Piece) : Type 0 where
  pub keeps : IsTrue (may_keep begun.0.version)
  pub spelled : text_of_pieces pieces ≡ header_text begun.0.version begun.0.wire ++ 10 ∷ text_of_pieces begun.1

pub header_found : (pieces : List Piece) (begun : Heading × List Piece) → read_header pieces ≡ Ok begun → HasBegun pieces begun
header_found [] begun e = absurd cc
header_found (piece ∷ pieces) begun e =
    let a = bind_ok (as_heading (read_heading piece.bytes)) _ begun e in
    let c = gate piece.ended why.Ending _ begun a.2 in
    let h = heading_found piece.bytes a.0 (as_heading_ok (read_heading piece.bytes) a.0 a.1) in
    subst (λ (x : Heading × List Piece). HasBegun (piece ∷ pieces) x) (ok_is (a.0, pieces) begun c.1)
    (record { keeps = h.keeps; spelled = ended_text piece (header_text a.0.version a.0.wire) (text_of_pieces pieces) c.0 h.spelled })

-- ---- line 1 is read again

-- line 1 is read again
pub record IsHeaded (version : Version) (wire : Bool) : Type 0 where
  pub read : read_heading (header_text version wire) ≡ Ok (headed version wire)
  pub lacks : Lacks 10 (header_text version wire)

pub heading_again : (version : Version) (wire : Bool) → may_keep version ≡ true → IsHeaded version wire
unfolding read_heading read_version read_one read_two read_mode
heading_again One false h =
    let plain = plain_from_all (codes "xmpp-schedule 1 direct") refl in
    record { read = rw (is_utf8-from_IsUtf8 (codes "xmpp-schedule 1 direct") plain.spelled) refl; lacks = plain.lacks }
heading_again One true h =
    let plain = plain_from_all (codes "xmpp-schedule 1 wire") refl in
    record { read = rw (is_utf8-from_IsUtf8 (codes "xmpp-schedule 1 wire") plain.spelled) refl; lacks = plain.lacks }
heading_again (Two keep) false h =
    let parts = and_parts (nat_le 1 keep) (nat_le keep MOST_KEPT) h in
    let high : keep ≤ MOST_KEPT = leb-true keep MOST_KEPT parts.1 in
    let number = number_again 1 MOST_KEPT keep (leb-true 1 keep parts.0) high (omega arith) in
    let field = digits_word (decimal keep) (decimal_number keep (omega arith)) in
    let plain : IsPlain (codes "xmpp-schedule 2 direct " ++ decimal keep) =
    plain_append (codes "xmpp-schedule 2 direct ") (decimal keep) (plain_from_all (codes "xmpp-schedule 2 direct ") refl) field.plain in
    record {
      read = rw (is_utf8-from_IsUtf8 (header_text (Two keep) false) plain.spelled, last_again (decimal keep) field, number) refl;
      lacks = plain.lacks;
    }
heading_again (Two keep) true h =
    let parts = and_parts (nat_le 1 keep) (nat_le keep MOST_KEPT) h in
    let high : keep ≤ MOST_KEPT = leb-true keep MOST_KEPT parts.1 in
    let number = number_again 1 MOST_KEPT keep (leb-true 1 keep parts.0) high (omega arith) in
    let field = digits_word (decimal keep) (decimal_number keep (omega arith)) in
    let plain : IsPlain (codes "xmpp-schedule 2 wire " ++ decimal keep) =
    plain_append (codes "xmpp-schedule 2 wire ") (decimal keep) (plain_from_all (codes "xmpp-schedule 2 wire ") refl) field.plain in
    record {
      read = rw (is_utf8-from_IsUtf8 (header_text (Two keep) true) plain.spelled, last_again (decimal keep) field, number) refl;
      lacks = plain.lacks;
    }
