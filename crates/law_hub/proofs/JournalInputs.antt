-- A journal behind its accounts file is the input of a rerun.
use Rattle.std.proofs.Common.{◌≡◌, ℕ, zero, suc, ◌/◌, ◌%◌, Bool, true, false, List, [], ◌∷◌, ◌++◌, length, Result, Ok, Err, ap, refl, ◌∙◌, append_assoc, codes, arith}
use Rattle.std.proofs.lemmas.Bool.{and_from, and_parts, cond_both, false≢true}
use Rattle.std.proofs.lemmas.Bool.Decides.{nat_tests}
use Rattle.std.proofs.lemmas.List.Concat.{flat_map-cons}
use Rattle.std.proofs.lemmas.Slice.Eq.{bytes_eq-Decides}
use Rattle.std.proofs.lemmas.Str.{is_utf8-from_IsUtf8}
use Rattle.std.specs.Fmt.{decimal, digit_glyph, digits, digits_onto}
use Rattle.std.specs.List.{flat_map, list_all}
use Rattle.std.specs.Prelude.{IsTrue, not, ◌==◌, ◌&&◌, nat_lt, nat_le}
use Rattle.base_lemmas.proofs.Lists.{list_all-weaker}
use Rattle.srv_state.specs.State.{Kept}
use Rattle.base_io.specs.Names.{is_among}
use Rattle.im_jid.proofs.PartForms.{local_form_ok}
use Rattle.im_jid.specs.Forms.{is_local_byte, local_form}
use Rattle.im_jid.specs.declared.fault.JidFault.{JidFault}
use Rattle.cmd_journal.specs.AccountsFiles.{AccountsView, AreRegistered, accounts_text, is_account_name, is_form, is_password, may_register}
use Rattle.cmd_journal.specs.Journals.{EventView, IsAfterEvents, events_text, journal_header, mark}
use Rattle.cmd_journal.specs.declared.accounts_file.Registration.{Registration}
use Rattle.cmd_journal.specs.Texts.{NamedView, archive_text, plain_entry_text}
use Rattle.cmd_rerun.specs.Reruns.{archives_after, named_archives}
use Rattle.cmd_report.specs.ReportText.{last_text}
use Rattle.cmd_schedule.proofs.Again.{plain_from_all}
use Rattle.cmd_schedule.specs.declared.schedule.Version.{Version}
use Rattle.cmd_schedule.specs.declared.schedule.Version.TheVariants.{One, Two}
use Rattle.cmd_rerun.specs.Journaling.{ending_text, journal_text}
use Rattle.law_hub.specs.Again.{rerun_input}

-- ---- printable bytes

abbrev is_print : ℕ → Bool
is_print c = nat_le 32 c && nat_lt c 128

abbrev IsPrint : List ℕ → Type 0
IsPrint bytes = list_all is_print bytes ≡ true

print_both : (a b : List ℕ) → IsPrint a → IsPrint b → IsPrint (a ++ b)
print_both [] b p q = q
print_both (c ∷ a) b p q = let parts = and_parts (is_print c) (list_all is_print a) p in and_from (is_print c) (list_all is_print (a ++ b)) parts.0 (print_both a b parts.1 q)

glyph_print : (n : ℕ) → is_print (digit_glyph false (n % 10)) ≡ true
glyph_print n = grind (arith, nat_tests)

onto_print : (k n : ℕ) (acc : List ℕ) → IsPrint acc → IsPrint (digits_onto k 10 false n acc)
onto_print zero n acc all = all
onto_print (suc k) n acc all =
    let digit = digit_glyph false (n % 10) in
    let more : IsPrint (digit ∷ acc) = and_from (is_print digit) (list_all is_print acc) (glyph_print n) all in
    cond_both (n / 10 == 0) (digit ∷ acc) (digits_onto k 10 false (n / 10) (digit ∷ acc)) IsPrint (λ e. more) (λ e. onto_print k (n / 10) (digit ∷ acc) more)

decimal_print : (n : ℕ) → IsPrint (decimal n)
unfolding digits
decimal_print n = onto_print 64 n [] refl

last_print : (version : Version) (last : ℕ) → IsPrint (last_text version last)
last_print One last = refl
last_print (Two keep) last = decimal_print last

own_form : (form : Result (List ℕ) JidFault) (text : List ℕ) → is_form form text ≡ true → form ≡ Ok text
own_form (Ok other) text h = ap Ok ((bytes_eq-Decides other text).0 h)
own_form (Err fault) text h = absurd (false≢true h)

local_byte : (b : ℕ) → is_local_byte b ≡ true → is_print b ≡ true
local_byte b e = grind (arith, nat_tests)

name_print : (name : List ℕ) → is_account_name name ≡ true → IsPrint name
name_print name h = list_all-weaker is_local_byte is_print local_byte name (local_form_ok name name (own_form (local_form name) name h)).valid

-- ---- the line behind the events

one_line : (bytes : List ℕ) → IsPrint bytes → IsTrue (list_all (λ b. not (b == 10)) bytes)
one_line bytes h = list_all-weaker is_print (λ b. not (b == 10)) (λ c e. grind (arith, nat_tests)) bytes h

abbrev account_line : Version → NamedView → List ℕ
account_line version a = codes "account " ++ (a.name ++ 32 ∷ (decimal (length a.entries) ++ last_text version a.last))

account_print : (version : Version) (a : NamedView) → IsPrint a.name → IsPrint (account_line version a)
account_print version a name =
    let count = decimal (length a.entries) in
    let last = last_text version a.last in
    print_both (codes "account ") (a.name ++ 32 ∷ (count ++ last)) refl
    (print_both a.name (32 ∷ (count ++ last)) name (print_both (32 ∷ []) (count ++ last) refl (print_both count last (decimal_print (length a.entries)) (last_print version a.last))))

account_cut : (version : Version) (a : NamedView) (archives : List NamedView)
    → ending_text version (a ∷ archives) ≡ account_line version a ++ 10 ∷ (flat_map plain_entry_text a.entries ++ ending_text version archives)
account_cut version a archives =
    ap (λ l. l ++ codes "end" ++ 10 ∷ []) (flat_map-cons (archive_text version) a archives)
    ∙ regroup (codes "account ") a.name (32 ∷ []) (decimal (length a.entries)) (last_text version a.last) (10 ∷ []) (flat_map plain_entry_text a.entries) (flat_map (archive_text version) archives) (codes "end") (10 ∷ [])
  where
    regroup : (w n s d l f e r t u : List ℕ) → (w ++ n ++ (s ++ d) ++ l ++ (f ++ e)) ++ r ++ t ++ u ≡ (w ++ (n ++ (s ++ (d ++ l)))) ++ (f ++ (e ++ ((r ++ t) ++ u)))
    regroup w n s d l f e r t u = simp append_assoc

account_after : (version : Version) (a : NamedView) (archives : List NamedView) → IsPrint a.name → IsAfterEvents (ending_text version (a ∷ archives))
account_after version a archives name =
    let print = account_print version a name in
    record {
      line = account_line version a;
      rest = flat_map plain_entry_text a.entries ++ ending_text version archives;
      whole = account_cut version a archives;
      one_line = one_line (account_line version a) print;
      spelled = is_utf8-from_IsUtf8 (account_line version a) (plain_from_all (account_line version a) print).spelled;
      ends = refl;
    }

end_after : (version : Version) → IsAfterEvents (ending_text version [])
end_after version = record { line = codes "end"; rest = []; whole = refl; one_line = refl; spelled = is_utf8-from_IsUtf8 (codes "end") (plain_from_all (codes "end") refl).spelled; ends = refl }

registered_print : (above : List (List ℕ)) (r : Registration) → IsTrue (may_register above r) → IsPrint r.name
registered_print above r may =
    let outer = and_parts (is_account_name r.name && not (is_among r.name above)) (is_password r.password) may in
    name_print r.name (and_parts (is_account_name r.name) (not (is_among r.name above)) outer.0).0

pub ending_after : (version : Version) (above : List (List ℕ)) (rs : List Registration) (archives : List Kept) → AreRegistered above rs → IsAfterEvents (ending_text version (named_archives rs archives))
ending_after version above [] archives are = end_after version
ending_after version above (r ∷ rs) [] are = end_after version
ending_after version above (r ∷ rs) (kept ∷ archives) are =
    account_after version (record { name = r.name; last = kept.last; entries = kept.entries }) (named_archives rs archives) (registered_print above r are.0)

-- ---- the whole

pub input_is : (file : AccountsView) (events : List EventView)
    → rerun_input (accounts_text file) (journal_text file events)
    ≡ (accounts_text file ++ (mark ++ 10 ∷ (journal_header file.version ++ 10 ∷ events_text events))) ++ ending_text file.version (archives_after (record { accounts = file; events = events }))
unfolding journal_text
input_is file events = regroup (accounts_text file) mark (journal_header file.version) (events_text events) (ending_text file.version (archives_after (record { accounts = file; events = events })))
  where
    regroup : (a m h e r : List ℕ) → a ++ (m ++ 10 ∷ (h ++ 10 ∷ (e ++ r))) ≡ (a ++ (m ++ 10 ∷ (h ++ 10 ∷ e))) ++ r
    regroup a m h e r = simp append_assoc
