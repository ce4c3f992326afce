-- Line 1 of a report is read as what it says, and what it may say is read again.
use Rattle.std.proofs.Common.{◌≡◌, ℕ, ◌≤◌, Bool, true, false, List, [], ◌∷◌, ◌++◌, Option, Some, Result, Ok, Err, refl, sym, ap, subst, ◌∙◌, inl, inr, codes, arith}
use Rattle.std.specs.Prelude.{IsTrue, nat_le}
use Rattle.std.specs.Fmt.{decimal}
use Rattle.std.specs.Str.{bytes_eq}
use Rattle.std.proofs.lemmas.Bool.{and_from, and_parts, leb-true, le-leb}
use Rattle.std.proofs.lemmas.Option.{same_Some}
use Rattle.std.proofs.lemmas.Slice.Eq.{bytes_eq-Decides}
use Rattle.cmd_report.specs.ReportText.{header_text}
use Rattle.cmd_report_reader.specs.Reading.{read_heading, read_one, read_two, read_version}
use Rattle.cmd_report_reader.specs.SoFar.{SoFarView, nothing_told}
use Rattle.cmd_schedule.specs.Grammar.{may_keep, mode_text}
use Rattle.cmd_schedule.specs.Reading.{Cut, last_field, next_field, number_within, read_mode}
use Rattle.cmd_schedule.specs.declared.fault.LineWhy.{LineWhy}
use Rattle.cmd_schedule.specs.declared.schedule.TheConstants.{MOST_KEPT}
use Rattle.cmd_schedule.specs.declared.schedule.Version.{Version}
use Rattle.cmd_schedule.specs.declared.schedule.Version.TheVariants.{One, Two}
use Rattle.cmd_schedule.proofs.Again.{IsPlain, digits_word, last_again, plain_append, plain_from_all}
use Rattle.cmd_schedule.proofs.Found.{bind_ok, chosen, done, gate, last_is, next_is, ok_is, with_rest}
use Rattle.cmd_schedule.proofs.Numbers.{decimal_number, number_again, number_found}
use Rattle.cmd_schedule.specs.declared.fault.LineWhy.TheVariants as why

-- ---- line 1 is read again

pub record IsHeaded (version : Version) (wire : Bool) : Type 0 where
  pub read : read_heading (header_text version wire) ≡ Ok (nothing_told version wire)
  pub plain : IsPlain (header_text version wire)

pub heading_again : (version : Version) (wire : Bool) → may_keep version ≡ true → IsHeaded version wire
unfolding read_heading read_version read_one read_two read_mode
heading_again One false h = record { read = refl; plain = plain_from_all (codes "xmpp-report 1 direct") refl }
heading_again One true h = record { read = refl; plain = plain_from_all (codes "xmpp-report 1 wire") refl }
heading_again (Two keep) false h =
    let parts = and_parts (nat_le 1 keep) (nat_le keep MOST_KEPT) h in
    let high : keep ≤ MOST_KEPT = leb-true keep MOST_KEPT parts.1 in
    let number = number_again 1 MOST_KEPT keep (leb-true 1 keep parts.0) high (omega arith) in
    let field = digits_word (decimal keep) (decimal_number keep (omega arith)) in
    record {
      read = rw (last_again (decimal keep) field, number) refl;
      plain = plain_append (codes "xmpp-report 2 direct ") (decimal keep) (plain_from_all (codes "xmpp-report 2 direct ") refl) field.plain;
    }
heading_again (Two keep) true h =
    let parts = and_parts (nat_le 1 keep) (nat_le keep MOST_KEPT) h in
    let high : keep ≤ MOST_KEPT = leb-true keep MOST_KEPT parts.1 in
    let number = number_again 1 MOST_KEPT keep (leb-true 1 keep parts.0) high (omega arith) in
    let field = digits_word (decimal keep) (decimal_number keep (omega arith)) in
    record {
      read = rw (last_again (decimal keep) field, number) refl;
      plain = plain_append (codes "xmpp-report 2 wire ") (decimal keep) (plain_from_all (codes "xmpp-report 2 wire ") refl) field.plain;
    }
