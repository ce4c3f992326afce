-- The text of a report is read as that report.
use Rattle.std.proofs.Common.{◌≡◌, ℕ, ◌+◌, ◌≤◌, Bool, true, false, List, [], ◌∷◌, ◌++◌, Option, Some, None, Result, Ok, refl, sym, ap, subst, ◌∙◌, codes, append_assoc, arith}
use Rattle.std.proofs.lemmas.List.{append-nil}
use Rattle.std.proofs.lemmas.List.Concat.{flat_map-cons}
use Rattle.std.proofs.lemmas.Str.{is_utf8-from_IsUtf8}
use Rattle.std.specs.Fmt.{decimal}
use Rattle.std.specs.List.{AllByRecursion, flat_map}
use Rattle.std.specs.Prelude.{not, option_to_list}
use Rattle.cmd_report.specs.EntryLines.{EntryLineView}
use Rattle.cmd_report.specs.ReportText.{account_text, break_text, conn_text, device_text, entry_text, fields_text, header_text, held_text, last_text, logged_text, page_text, refused_text, said_text, settled_text, take_text, text_of, underway_text}
use Rattle.cmd_report.specs.Reports.{AccountView, DeviceView, ReportView}
use Rattle.cmd_report.specs.declared.report.ConnLine.{ConnLine}
use Rattle.cmd_report.specs.declared.report.HeldLine.{HeldLine}
use Rattle.cmd_report.specs.declared.report.LoggedLine.{LoggedLine}
use Rattle.cmd_report.specs.declared.report.PageLine.{PageLine}
use Rattle.cmd_report.specs.declared.report.RefusedLine.{RefusedLine}
use Rattle.cmd_report.specs.declared.report.SaidLine.{SaidLine}
use Rattle.cmd_report.specs.declared.report.TakeLine.{TakeLine}
use Rattle.cmd_report.specs.declared.report.UnderwayLine.{UnderwayLine}
use Rattle.cmd_report_reader.proofs.Joined.{below_account, below_device, cons_append}
use Rattle.cmd_report_reader.proofs.Headings.{IsHeaded, heading_again}
use Rattle.cmd_report_reader.proofs.Lines.{account_again, account_line, account_split, begun, break_again, conn_again, conn_split, device_again, device_line, device_split, end_again, entry_again, entry_line_split, named, take_again, take_split}
use Rattle.cmd_report_reader.proofs.Parts.{IsAgain, entry_split, held_again, held_split, logged_again, page_again, page_split, refused_again, refused_split, said_again, said_split, underway_again, underway_split}
use Rattle.cmd_report_reader.specs.Readable.{IsAccount, IsConn, IsDevice, IsEntry, IsField, IsNumber, IsPage, IsReadable, IsSaid, IsTake, IsUnderway}
use Rattle.cmd_report_reader.specs.Reading.{at_line, read_first, read_lines, read_next, report_reading}
use Rattle.cmd_report_reader.specs.SoFar.{SoFarView, add_account, add_break, add_broken, add_conn, add_device, add_end, add_entry, add_line, add_logged, add_page, add_part, add_refused, add_said, add_take, add_unbroken, add_underway, nothing_told, report_of, whole_report}
use Rattle.cmd_report_reader.specs.declared.line.DevicePart.TheVariants.{Said, Refused, Page, Underway, Logged, Held}
use Rattle.cmd_report_reader.specs.declared.line.ReportLine.{ReportLine}
use Rattle.cmd_report_reader.specs.declared.line.ReportLine.TheVariants.{Take, Account, Entry, Conn, Device, Part, Break, End}
use Rattle.cmd_schedule.specs.Reading.{Piece, pieces_of, wants}
use Rattle.cmd_schedule.specs.declared.fault.LineWhy.TheVariants as why
use Rattle.cmd_schedule.specs.declared.fault.ScheduleFault.{ScheduleFault}
use Rattle.cmd_schedule.specs.declared.schedule.Version.{Version}
use Rattle.cmd_schedule.proofs.Words.{piece_after}

-- from here on, whatever the line's number, this text is read as the rest of this report
abbrev Reads : SoFarView → List ℕ → ReportView → Type 0
Reads so_far text report = (n : ℕ) → read_lines n so_far (pieces_of text) ≡ Ok report

next_again : (so_far further : SoFarView) (line : ReportLine) (bytes : List ℕ) → so_far.ended ≡ false → IsAgain so_far.version line bytes → add_line so_far line ≡ Ok further
    → read_next so_far (record { bytes = bytes; ended = true }) ≡ Ok further
unfolding read_next
next_again so_far further line bytes going again added =
    let what_follows : wants (not so_far.ended) why.Word ≡ Ok true = rw going refl in
    rw (is_utf8-from_IsUtf8 bytes again.plain.spelled, what_follows, again.read) added

-- one line more
step : (so_far further : SoFarView) (line : ReportLine) (bytes text rest : List ℕ) (report : ReportView) → text ≡ bytes ++ 10 ∷ rest
    → so_far.ended ≡ false → IsAgain so_far.version line bytes → add_line so_far line ≡ Ok further → Reads further rest report → Reads so_far text report
step so_far further line bytes text rest report is going again added reads n =
    let parts : pieces_of text ≡ record { bytes = bytes; ended = true } ∷ pieces_of rest = ap pieces_of is ∙ piece_after bytes rest again.plain.lacks in
    rw (parts, next_again so_far further line bytes going again added) (reads (n + 1))

-- lines of one kind, each of which adds to one list
module _ {A : Type 0} where
  each : (text : A → List ℕ) (told : List A → SoFarView) (P : A → Type 0) (report : ReportView)
      → ((before : List A) (x : A) (rest : List ℕ) → P x → Reads (told (before ++ x ∷ [])) rest report → Reads (told before) (text x ++ rest) report)
      → (before xs : List A) (rest : List ℕ) → AllByRecursion P xs → Reads (told (before ++ xs)) rest report → Reads (told before) (flat_map text xs ++ rest) report
  each text told P report one before [] rest all reads = subst (λ (ys : List A). Reads (told ys) rest report) (append-nil before) reads
  each text told P report one before (x ∷ xs) rest all reads =
      let later : Reads (told ((before ++ x ∷ []) ++ xs)) rest report = subst (λ (ys : List A). Reads (told ys) rest report) (sym (append_assoc before (x ∷ []) xs)) reads in
      let what_follows = one before x (flat_map text xs ++ rest) all.0 (each text told P report one (before ++ x ∷ []) xs rest all.1 later) in
      let whole : flat_map text (x ∷ xs) ++ rest ≡ text x ++ (flat_map text xs ++ rest) = ap (λ (ys : List ℕ). ys ++ rest) (flat_map-cons text x xs) ∙ append_assoc (text x) (flat_map text xs) rest in
      subst (λ (ys : List ℕ). Reads (told before) ys report) (sym whole) what_follows

-- ---- devices

-- what precedes the lines of a device
record Above : Type 0 where
  version : Version
  wire : Bool
  takes : List TakeLine
  accounts : List AccountView
  account : Option AccountView
  conns : List ConnLine

abbrev at_device : Above → List DeviceView → Option DeviceView → SoFarView
at_device above devices device = record {
  version = above.version;
  wire = above.wire;
  takes = above.takes;
  accounts = above.accounts;
  account = above.account;
  conns = above.conns;
  devices = devices;
  device = device;
  broken = false;
  ended = false;
}

one_said : (above : Above) (devices : List DeviceView) (d : DeviceView) (report : ReportView) (before : List SaidLine) (x : SaidLine) (rest : List ℕ) → d.refused ≡ [] → d.pages ≡ [] → d.underway ≡ [] → d.logged ≡ [] → d.held ≡ []
    → IsSaid x → Reads (at_device above devices (Some (record d { said = before ++ x ∷ [] }))) rest report → Reads (at_device above devices (Some (record d { said = before }))) (said_text x ++ rest) report
unfolding add_line add_part add_unbroken add_said
one_said above devices d report before x rest a b c e f h reads =
    step (at_device above devices (Some (record d { said = before }))) (at_device above devices (Some (record d { said = before ++ x ∷ [] }))) (Part (Said x)) _ _ rest report
    (said_split x rest) refl (said_again above.version x h) (rw (a, b, c, e, f) refl) reads

one_refused : (above : Above) (devices : List DeviceView) (d : DeviceView) (report : ReportView) (before : List RefusedLine) (x : RefusedLine) (rest : List ℕ) → d.pages ≡ [] → d.underway ≡ [] → d.logged ≡ [] → d.held ≡ []
    → IsNumber x.line → Reads (at_device above devices (Some (record d { refused = before ++ x ∷ [] }))) rest report → Reads (at_device above devices (Some (record d { refused = before }))) (refused_text x ++ rest) report
unfolding add_line add_part add_unbroken add_refused
one_refused above devices d report before x rest b c e f h reads =
    step (at_device above devices (Some (record d { refused = before }))) (at_device above devices (Some (record d { refused = before ++ x ∷ [] }))) (Part (Refused x)) _ _ rest report
    (refused_split x rest) refl (refused_again above.version x h) (rw (b, c, e, f) refl) reads

one_page : (above : Above) (devices : List DeviceView) (d : DeviceView) (report : ReportView) (before : List PageLine) (x : PageLine) (rest : List ℕ) → d.underway ≡ [] → d.logged ≡ [] → d.held ≡ []
    → IsPage x → Reads (at_device above devices (Some (record d { pages = before ++ x ∷ [] }))) rest report → Reads (at_device above devices (Some (record d { pages = before }))) (page_text x ++ rest) report
unfolding add_line add_part add_unbroken add_page
one_page above devices d report before x rest c e f h reads =
    step (at_device above devices (Some (record d { pages = before }))) (at_device above devices (Some (record d { pages = before ++ x ∷ [] }))) (Part (Page x)) _ _ rest report
    (page_split x rest) refl (page_again above.version x h) (rw (c, e, f) refl) reads

one_underway : (above : Above) (devices : List DeviceView) (d : DeviceView) (report : ReportView) (before : List UnderwayLine) (x : UnderwayLine) (rest : List ℕ) → d.logged ≡ [] → d.held ≡ []
    → IsUnderway x → Reads (at_device above devices (Some (record d { underway = before ++ x ∷ [] }))) rest report → Reads (at_device above devices (Some (record d { underway = before }))) (underway_text x ++ rest) report
unfolding add_line add_part add_unbroken add_underway
one_underway above devices d report before x rest e f h reads =
    step (at_device above devices (Some (record d { underway = before }))) (at_device above devices (Some (record d { underway = before ++ x ∷ [] }))) (Part (Underway x)) _ _ rest report
    (underway_split x rest) refl (underway_again above.version x h) (rw (e, f) refl) reads

-- behind a break
abbrev broken_device : Above → List DeviceView → DeviceView → SoFarView
broken_device above devices device = record (at_device above devices (Some device)) { broken = true }

abbrev logged_of : EntryLineView → Bool → LoggedLine
logged_of entry broken = record { entry = entry; broken = broken }

broken_entry : (above : Above) (devices : List DeviceView) (d : DeviceView) (report : ReportView) (before : List LoggedLine) (e : EntryLineView) (rest : List ℕ) → d.held ≡ []
    → IsEntry e → Reads (at_device above devices (Some (record d { logged = before ++ logged_of e true ∷ [] }))) rest report
    → Reads (broken_device above devices (record d { logged = before })) ((codes "logged " ++ fields_text e) ++ rest) report
unfolding add_line add_part add_broken add_logged
broken_entry above devices d report before e rest f h reads =
    step (broken_device above devices (record d { logged = before })) (at_device above devices (Some (record d { logged = before ++ logged_of e true ∷ [] }))) (Part (Logged e)) _ _ rest report
    (ap (λ (xs : List ℕ). codes "logged " ++ xs) (entry_split e rest)) refl (logged_again above.version e h) (rw f refl) reads

one_break : (above : Above) (devices : List DeviceView) (d : DeviceView) (report : ReportView) (rest : List ℕ) → d.held ≡ []
    → Reads (broken_device above devices d) rest report → Reads (at_device above devices (Some d)) (codes "break" ++ 10 ∷ rest) report
unfolding add_line add_break
one_break above devices d report rest f reads =
    step (at_device above devices (Some d)) (broken_device above devices d) Break (codes "break") _ rest report refl refl (break_again above.version) (rw f refl) reads

unbroken_entry : (above : Above) (devices : List DeviceView) (d : DeviceView) (report : ReportView) (before : List LoggedLine) (e : EntryLineView) (rest : List ℕ) → d.held ≡ []
    → IsEntry e → Reads (at_device above devices (Some (record d { logged = before ++ logged_of e false ∷ [] }))) rest report
    → Reads (at_device above devices (Some (record d { logged = before }))) ((codes "logged " ++ fields_text e) ++ rest) report
unfolding add_line add_part add_unbroken add_logged
unbroken_entry above devices d report before e rest f h reads =
    step (at_device above devices (Some (record d { logged = before }))) (at_device above devices (Some (record d { logged = before ++ logged_of e false ∷ [] }))) (Part (Logged e)) _ _ rest report
    (ap (λ (xs : List ℕ). codes "logged " ++ xs) (entry_split e rest)) refl (logged_again above.version e h) (rw f refl) reads

logged_line : (above : Above) (devices : List DeviceView) (d : DeviceView) (report : ReportView) (before : List LoggedLine) (e : EntryLineView) (broken : Bool) (rest : List ℕ) → d.held ≡ []
    → IsEntry e → Reads (at_device above devices (Some (record d { logged = before ++ logged_of e broken ∷ [] }))) rest report
    → Reads (at_device above devices (Some (record d { logged = before }))) (logged_text (logged_of e broken) ++ rest) report
logged_line above devices d report before e false rest f h reads = unbroken_entry above devices d report before e rest f h reads
logged_line above devices d report before e true rest f h reads =
    one_break above devices (record d { logged = before }) report ((codes "logged " ++ fields_text e) ++ rest) f (broken_entry above devices d report before e rest f h reads)

one_logged : (above : Above) (devices : List DeviceView) (d : DeviceView) (report : ReportView) (before : List LoggedLine) (x : LoggedLine) (rest : List ℕ) → d.held ≡ []
    → IsEntry x.entry → Reads (at_device above devices (Some (record d { logged = before ++ x ∷ [] }))) rest report → Reads (at_device above devices (Some (record d { logged = before }))) (logged_text x ++ rest) report
one_logged above devices d report before x rest f h reads = logged_line above devices d report before x.entry x.broken rest f h reads

one_held : (above : Above) (devices : List DeviceView) (d : DeviceView) (report : ReportView) (before : List HeldLine) (x : HeldLine) (rest : List ℕ)
    → IsField x.id → Reads (at_device above devices (Some (record d { held = before ++ x ∷ [] }))) rest report → Reads (at_device above devices (Some (record d { held = before }))) (held_text x ++ rest) report
unfolding add_line add_part add_unbroken
one_held above devices d report before x rest h reads =
    step (at_device above devices (Some (record d { held = before }))) (at_device above devices (Some (record d { held = before ++ x ∷ [] }))) (Part (Held x)) _ _ rest report
    (held_split x rest) refl (held_again above.version x h) refl reads

-- the lines of a device behind its own
abbrev parts_text : DeviceView → List ℕ → List ℕ
parts_text d rest =
    flat_map said_text d.said ++ (flat_map refused_text d.refused ++ (flat_map page_text d.pages
    ++ (flat_map underway_text d.underway ++ (flat_map logged_text d.logged ++ (flat_map held_text d.held ++ rest)))))

abbrev begun_of : DeviceView → DeviceView
begun_of d = begun d.name d.account d.epoch d.settled

parts_again : (above : Above) (devices : List DeviceView) (d : DeviceView) (report : ReportView) (rest : List ℕ) → IsDevice d → Reads (at_device above devices (Some d)) rest report
    → Reads (at_device above devices (Some (begun_of d))) (parts_text d rest) report
parts_again above devices d report rest h reads =
    let b = begun_of d in
    let with_said = record b { said = d.said } in
    let with_refused = record with_said { refused = d.refused } in
    let with_pages = record with_refused { pages = d.pages } in
    let with_underway = record with_pages { underway = d.underway } in
    let with_logged = record with_underway { logged = d.logged } in
    let state : DeviceView → SoFarView = λ v. at_device above devices (Some v) in
    let held = each held_text (λ xs. state (record with_logged { held = xs })) (λ x. IsField x.id) report (λ before x more p r. one_held above devices with_logged report before x more p r) [] d.held rest h.held reads in
    let logged = each logged_text (λ xs. state (record with_underway { logged = xs })) (λ x. IsEntry x.entry) report (λ before x more p r. one_logged above devices with_underway report before x more refl p r) [] d.logged _ h.logged held in
    let underway = each underway_text (λ xs. state (record with_pages { underway = xs })) IsUnderway report (λ before x more p r. one_underway above devices with_pages report before x more refl refl p r) [] d.underway _ h.underway logged in
    let pages = each page_text (λ xs. state (record with_refused { pages = xs })) IsPage report (λ before x more p r. one_page above devices with_refused report before x more refl refl refl p r) [] d.pages _ h.pages underway in
    let refused = each refused_text (λ xs. state (record with_said { refused = xs })) (λ x. IsNumber x.line) report (λ before x more p r. one_refused above devices with_said report before x more refl refl refl refl p r) [] d.refused _ h.refused pages in
    each said_text (λ xs. state (record b { said = xs })) IsSaid report (λ before x more p r. one_said above devices b report before x more refl refl refl refl refl p r) [] d.said _ h.said refused

device_begins : (above : Above) (devices : List DeviceView) (device : Option DeviceView) (d : DeviceView) (report : ReportView) (rest : List ℕ) → IsDevice d
    → Reads (at_device above (devices ++ option_to_list device) (Some (begun_of d))) rest report
    → Reads (at_device above devices device) (device_line d.name d.account d.epoch d.settled ++ 10 ∷ rest) report
unfolding add_line add_device
device_begins above devices device d report rest h reads =
    step (at_device above devices device) (at_device above (devices ++ option_to_list device) (Some (begun_of d))) (Device (begun_of d)) _ _ rest report
    (device_split d.name d.account d.epoch d.settled rest) refl (device_again above.version d.name d.account d.epoch d.settled h.name h.account h.epoch) refl reads

device_apart : (d : DeviceView) (rest : List ℕ) → device_text d ++ rest ≡ device_line d.name d.account d.epoch d.settled ++ 10 ∷ parts_text d rest
device_apart d rest =
    below_device (device_line d.name d.account d.epoch d.settled) (flat_map said_text d.said) (flat_map refused_text d.refused) (flat_map page_text d.pages) (flat_map underway_text d.underway) (flat_map logged_text d.logged) (flat_map held_text d.held) rest

devices_again : (above : Above) (ds devices : List DeviceView) (device : Option DeviceView) (report : ReportView) (rest : List ℕ) → AllByRecursion IsDevice ds
    → ((closed : List DeviceView) (going : Option DeviceView) → closed ++ option_to_list going ≡ (devices ++ option_to_list device) ++ ds → Reads (at_device above closed going) rest report)
    → Reads (at_device above devices device) (flat_map device_text ds ++ rest) report
devices_again above [] devices device report rest all reads = reads devices device (sym (append-nil (devices ++ option_to_list device)))
devices_again above (d ∷ ds) devices device report rest all reads =
    let others = devices_again above ds (devices ++ option_to_list device) (Some d) report rest all.1
    (λ closed going is. reads closed going (is ∙ append_assoc (devices ++ option_to_list device) (d ∷ []) ds)) in
    let here = device_begins above devices device d report _ all.0 (parts_again above (devices ++ option_to_list device) d report (flat_map device_text ds ++ rest) all.0 others) in
    let whole : flat_map device_text (d ∷ ds) ++ rest ≡ device_line d.name d.account d.epoch d.settled ++ 10 ∷ parts_text d (flat_map device_text ds ++ rest) =
    ap (λ (ys : List ℕ). ys ++ rest) (flat_map-cons device_text d ds) ∙ append_assoc (device_text d) (flat_map device_text ds) rest ∙ device_apart d (flat_map device_text ds ++ rest) in
    subst (λ (ys : List ℕ). Reads (at_device above devices device) ys report) (sym whole) here

-- ---- accounts

-- what precedes the lines of an account
abbrev at_account : Version → Bool → List TakeLine → List AccountView → Option AccountView → SoFarView
at_account version wire takes accounts account = record (nothing_told version wire) { takes = takes; accounts = accounts; account = account }

one_entry : (version : Version) (wire : Bool) (takes : List TakeLine) (accounts : List AccountView) (a : AccountView) (report : ReportView) (before : List EntryLineView) (x : EntryLineView) (rest : List ℕ)
    → IsEntry x → Reads (at_account version wire takes accounts (Some (record a { entries = before ++ x ∷ [] }))) rest report
    → Reads (at_account version wire takes accounts (Some (record a { entries = before }))) (entry_text x ++ rest) report
unfolding add_line add_entry
one_entry version wire takes accounts a report before x rest h reads =
    step (at_account version wire takes accounts (Some (record a { entries = before }))) (at_account version wire takes accounts (Some (record a { entries = before ++ x ∷ [] }))) (Entry x) _ _ rest report
    (entry_line_split x rest) refl (entry_again version x h) refl reads

account_begins : (version : Version) (wire : Bool) (takes : List TakeLine) (accounts : List AccountView) (account : Option AccountView) (a : AccountView) (report : ReportView) (rest : List ℕ) → IsAccount version a
    → Reads (at_account version wire takes (accounts ++ option_to_list account) (Some (named a.name a.count a.last))) rest report
    → Reads (at_account version wire takes accounts account) (account_line version a.name a.count a.last ++ 10 ∷ rest) report
unfolding add_line add_account
account_begins version wire takes accounts account a report rest h reads =
    step (at_account version wire takes accounts account) (at_account version wire takes (accounts ++ option_to_list account) (Some (named a.name a.count a.last))) (Account (named a.name a.count a.last)) _ _ rest report
    (account_split version a.name a.count a.last rest) refl (account_again version a.name a.count a.last h.name h.count h.last) refl reads

account_apart : (version : Version) (a : AccountView) (rest : List ℕ) → account_text version a ++ rest ≡ account_line version a.name a.count a.last ++ 10 ∷ (flat_map entry_text a.entries ++ rest)
account_apart version a rest = below_account (codes "account ") a.name (decimal a.count) (last_text version a.last) (flat_map entry_text a.entries) rest

accounts_again : (version : Version) (wire : Bool) (takes : List TakeLine) (following accounts : List AccountView) (account : Option AccountView) (report : ReportView) (rest : List ℕ) → AllByRecursion (IsAccount version) following
    → ((closed : List AccountView) (going : Option AccountView) → closed ++ option_to_list going ≡ (accounts ++ option_to_list account) ++ following → Reads (at_account version wire takes closed going) rest report)
    → Reads (at_account version wire takes accounts account) (flat_map (account_text version) following ++ rest) report
accounts_again version wire takes [] accounts account report rest all reads = reads accounts account (sym (append-nil (accounts ++ option_to_list account)))
accounts_again version wire takes (a ∷ following) accounts account report rest all reads =
    let before = accounts ++ option_to_list account in
    let others = accounts_again version wire takes following before (Some a) report rest all.1
    (λ closed going is. reads closed going (is ∙ append_assoc before (a ∷ []) following)) in
    let entries = each entry_text (λ xs. at_account version wire takes before (Some (record a { entries = xs }))) IsEntry report
    (λ earlier x more p r. one_entry version wire takes before a report earlier x more p r) [] a.entries (flat_map (account_text version) following ++ rest) all.0.entries others in
    let here = account_begins version wire takes accounts account a report _ all.0 entries in
    let whole : flat_map (account_text version) (a ∷ following) ++ rest ≡ account_line version a.name a.count a.last ++ 10 ∷ (flat_map entry_text a.entries ++ (flat_map (account_text version) following ++ rest)) =
    ap (λ (ys : List ℕ). ys ++ rest) (flat_map-cons (account_text version) a following) ∙ append_assoc (account_text version a) (flat_map (account_text version) following) rest
    ∙ account_apart version a (flat_map (account_text version) following ++ rest) in
    subst (λ (ys : List ℕ). Reads (at_account version wire takes accounts account) ys report) (sym whole) here

-- ---- takes, connections and the end

one_take : (version : Version) (wire : Bool) (report : ReportView) (before : List TakeLine) (x : TakeLine) (rest : List ℕ)
    → IsTake version x → Reads (record (nothing_told version wire) { takes = before ++ x ∷ [] }) rest report → Reads (record (nothing_told version wire) { takes = before }) (take_text x ++ rest) report
unfolding add_line add_take
one_take version wire report before x rest h reads =
    step (record (nothing_told version wire) { takes = before }) (record (nothing_told version wire) { takes = before ++ x ∷ [] }) (Take x) _ _ rest report
    (take_split x rest) refl (take_again version x h) refl reads

abbrev above_of : Version → Bool → List TakeLine → List AccountView → Option AccountView → List ConnLine → Above
above_of version wire takes accounts account conns = record { version = version; wire = wire; takes = takes; accounts = accounts; account = account; conns = conns }

one_conn : (version : Version) (wire : Bool) (takes : List TakeLine) (accounts : List AccountView) (account : Option AccountView) (report : ReportView) (before : List ConnLine) (x : ConnLine) (rest : List ℕ)
    → IsConn x → Reads (at_device (above_of version wire takes accounts account (before ++ x ∷ [])) [] None) rest report → Reads (at_device (above_of version wire takes accounts account before) [] None) (conn_text x ++ rest) report
unfolding add_line add_conn
one_conn version wire takes accounts account report before x rest h reads =
    step (at_device (above_of version wire takes accounts account before) [] None) (at_device (above_of version wire takes accounts account (before ++ x ∷ [])) [] None) (Conn x) _ _ rest report
    (conn_split x rest) refl (conn_again version x h) refl reads

all_again : (so_far : SoFarView) (report : ReportView) → so_far.ended ≡ true → report_of so_far ≡ report → Reads so_far [] report
unfolding whole_report
all_again so_far report ended is n = rw ended (ap (λ (r : ReportView). at_line n (Ok r)) is)

ends_again : (so_far : SoFarView) (report : ReportView) → so_far.broken ≡ false → so_far.ended ≡ false → report_of so_far ≡ report → Reads so_far (codes "end" ++ 10 ∷ []) report
unfolding add_line add_end
ends_again so_far report whole going is =
    step so_far (record so_far { ended = true }) End (codes "end") _ [] report refl going (end_again so_far.version) (rw whole refl) (all_again (record so_far { ended = true }) report refl is)

-- the lines behind line 1
abbrev lines_text : ReportView → List ℕ
lines_text r =
    flat_map take_text r.takes ++ (flat_map (account_text r.version) r.accounts ++ (flat_map conn_text r.conns ++ (flat_map device_text r.devices ++ (codes "end" ++ 10 ∷ []))))

same_report : (r : ReportView) (accounts : List AccountView) (devices : List DeviceView) → accounts ≡ r.accounts → devices ≡ r.devices
    → record { version = r.version; wire = r.wire; takes = r.takes; accounts = accounts; conns = r.conns; devices = devices } ≡ r
same_report r accounts devices a d = rw (a, d) refl

lines_again : (r : ReportView) → IsReadable r → Reads (nothing_told r.version r.wire) (lines_text r) r
lines_again r h =
    let ends = λ (closed : List AccountView) (going : Option AccountView) (is : closed ++ option_to_list going ≡ r.accounts) (done : List DeviceView) (last : Option DeviceView) (all : done ++ option_to_list last ≡ r.devices).
    ends_again (at_device (above_of r.version r.wire r.takes closed going r.conns) done last) r refl refl (same_report r (closed ++ option_to_list going) (done ++ option_to_list last) is all) in
    let devices = λ (closed : List AccountView) (going : Option AccountView) (is : closed ++ option_to_list going ≡ r.accounts).
    devices_again (above_of r.version r.wire r.takes closed going r.conns) r.devices [] None r (codes "end" ++ 10 ∷ []) h.devices (ends closed going is) in
    let conns = λ (closed : List AccountView) (going : Option AccountView) (is : closed ++ option_to_list going ≡ r.accounts).
    each conn_text (λ xs. at_device (above_of r.version r.wire r.takes closed going xs) [] None) IsConn r (λ before x more p q. one_conn r.version r.wire r.takes closed going r before x more p q) [] r.conns _ h.conns (devices closed going is) in
    let accounts = accounts_again r.version r.wire r.takes r.accounts [] None r _ h.accounts conns in
    each take_text (λ xs. record (nothing_told r.version r.wire) { takes = xs }) (IsTake r.version) r (λ before x more p q. one_take r.version r.wire r before x more p q) [] r.takes _ h.takes accounts

text_apart : (r : ReportView) → text_of r ≡ header_text r.version r.wire ++ 10 ∷ lines_text r
unfolding text_of
text_apart r = simp (append_assoc, cons_append)

first_again : (version : Version) (wire : Bool) → IsHeaded version wire → read_first (record { bytes = header_text version wire; ended = true }) ≡ Ok (nothing_told version wire)
unfolding read_first
first_again version wire h = rw (is_utf8-from_IsUtf8 (header_text version wire) h.plain.spelled) h.read

pub report_again : (r : ReportView) → IsReadable r → report_reading (text_of r) ≡ Ok r
unfolding report_reading
report_again r h =
    let headed = heading_again r.version r.wire h.keeps in
    let parts : pieces_of (text_of r) ≡ record { bytes = header_text r.version r.wire; ended = true } ∷ pieces_of (lines_text r) =
    ap pieces_of (text_apart r) ∙ piece_after (header_text r.version r.wire) (lines_text r) headed.plain.lacks in
    rw (parts, first_again r.version r.wire headed) (lines_again r h 2)
