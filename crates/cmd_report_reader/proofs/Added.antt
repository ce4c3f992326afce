-- What a line adds to what is told so far is its text.
use Rattle.std.proofs.Common.{◌≡◌, ℕ, ◌+◌, Bool, true, false, List, [], ◌∷◌, ◌++◌, Option, Some, None, Result, Ok, Err, refl, sym, ap, subst, ◌∙◌, codes, append_assoc}
use Rattle.std.proofs.lemmas.Bool.{and_parts}
use Rattle.std.proofs.lemmas.List.{append-nil}
use Rattle.std.proofs.lemmas.List.Concat.{flat_map-append}
use Rattle.std.specs.Fmt.{decimal}
use Rattle.std.specs.List.{flat_map}
use Rattle.std.specs.Prelude.{◌&&◌, is_none, not, option_to_list}
use Rattle.cmd_report.specs.EntryLines.{EntryLineView}
use Rattle.cmd_report.specs.ReportText.{account_text, break_text, conn_text, device_text, entry_text, fields_text, header_text, held_text, last_text, logged_text, page_text, refused_text, said_text, settled_text, take_text, underway_text}
use Rattle.cmd_report.specs.Reports.{AccountView, DeviceView, ReportView}
use Rattle.cmd_report.specs.declared.report.ConnLine.{ConnLine}
use Rattle.cmd_report.specs.declared.report.HeldLine.{HeldLine}
use Rattle.cmd_report.specs.declared.report.LoggedLine.{LoggedLine}
use Rattle.cmd_report.specs.declared.report.PageLine.{PageLine}
use Rattle.cmd_report.specs.declared.report.RefusedLine.{RefusedLine}
use Rattle.cmd_report.specs.declared.report.SaidLine.{SaidLine}
use Rattle.cmd_report.specs.declared.report.TakeLine.{TakeLine}
use Rattle.cmd_report.specs.declared.report.UnderwayLine.{UnderwayLine}
use Rattle.cmd_report_reader.proofs.Joined.{cons_append, more_entries, more_entry, more_held, more_logged, more_page, more_part, more_refused, more_said, more_underway}
use Rattle.cmd_report_reader.proofs.LinesFound.{line_text, part_text}
use Rattle.cmd_report_reader.specs.SoFar.{SoFarView, add_account, add_break, add_broken, add_conn, add_device, add_end, add_entry, add_held, add_line, add_logged, add_page, add_part, add_refused, add_said, add_take, add_to_device, add_unbroken, add_underway, device_may_break, is_empty, may_break, no_account, no_conn, no_device, no_held, no_logged, no_page, no_refused, no_underway, report_of, told, with_entry}
use Rattle.cmd_report_reader.specs.declared.line.DevicePart.{DevicePart}
use Rattle.cmd_report_reader.specs.declared.line.DevicePart.TheVariants.{Said, Refused, Page, Underway, Logged, Held}
use Rattle.cmd_report_reader.specs.declared.line.ReportLine.{ReportLine}
use Rattle.cmd_report_reader.specs.declared.line.ReportLine.TheVariants.{Take, Account, Entry, Conn, Device, Part, Break, End}
use Rattle.cmd_schedule.specs.declared.fault.LineWhy.{LineWhy}
use Rattle.cmd_schedule.specs.declared.schedule.Version.{Version}
use Rattle.cmd_schedule.proofs.Found.{bind_ok, done, gate, ok_is}
use Rattle.cmd_schedule.specs.declared.fault.LineWhy.TheVariants as why

-- ---- nothing there

module _ {A : Type 0} where
  empty_is : (xs : List A) → is_empty xs ≡ true → xs ≡ []
  empty_is [] e = refl
  empty_is (x ∷ xs) e = absurd cc

  none_is : (o : Option A) → is_none o ≡ true → o ≡ None
  none_is None e = refl
  none_is (Some x) e = absurd cc

  told_is : (o : Option A) (x : A) → told o ≡ Ok x → o ≡ Some x
  told_is None x e = absurd cc
  told_is (Some y) x e = ap (λ (z : A). Some z) (ok_is y x e)

pub not_true : (b : Bool) → not b ≡ true → b ≡ false
not_true true e = absurd cc
not_true false e = refl

-- ---- the lines of a device

record NoHeld (d : DeviceView) : Type 0 where
  held : d.held ≡ []

record NoLogged (d : DeviceView) : Type 0 where
  logged : d.logged ≡ []
  held : d.held ≡ []

record NoUnderway (d : DeviceView) : Type 0 where
  underway : d.underway ≡ []
  logged : d.logged ≡ []
  held : d.held ≡ []

record NoPage (d : DeviceView) : Type 0 where
  pages : d.pages ≡ []
  underway : d.underway ≡ []
  logged : d.logged ≡ []
  held : d.held ≡ []

record NoRefused (d : DeviceView) : Type 0 where
  refused : d.refused ≡ []
  pages : d.pages ≡ []
  underway : d.underway ≡ []
  logged : d.logged ≡ []
  held : d.held ≡ []

logged_none : (d : DeviceView) → no_logged d ≡ true → NoLogged d
logged_none d e = let p = and_parts (is_empty d.logged) (no_held d) e in record { logged = empty_is d.logged p.0; held = empty_is d.held p.1 }

underway_none : (d : DeviceView) → no_underway d ≡ true → NoUnderway d
underway_none d e =
    let p = and_parts (is_empty d.underway) (no_logged d) e in
    let l = logged_none d p.1 in
    record { underway = empty_is d.underway p.0; logged = l.logged; held = l.held }

page_none : (d : DeviceView) → no_page d ≡ true → NoPage d
page_none d e =
    let p = and_parts (is_empty d.pages) (no_underway d) e in
    let l = underway_none d p.1 in
    record { pages = empty_is d.pages p.0; underway = l.underway; logged = l.logged; held = l.held }

refused_none : (d : DeviceView) → no_refused d ≡ true → NoRefused d
refused_none d e =
    let p = and_parts (is_empty d.refused) (no_page d) e in
    let l = page_none d p.1 in
    record { refused = empty_is d.refused p.0; pages = l.pages; underway = l.underway; logged = l.logged; held = l.held }

-- the text of lines with one line more
more : {A : Type 0} (text : A → List ℕ) (xs : List A) (x : A) → flat_map text (xs ++ x ∷ []) ≡ flat_map text xs ++ text x
more text xs x = flat_map-append text xs (x ∷ []) ∙ ap (λ (ys : List ℕ). flat_map text xs ++ ys) (append-nil (text x))

-- a device's own line
abbrev own_line : DeviceView → List ℕ
own_line d = codes "device " ++ d.name ++ 32 ∷ d.account ++ 32 ∷ decimal d.epoch ++ 32 ∷ settled_text d.settled

-- a line that adds this text to a device's
abbrev AddsToDevice : DeviceView → DeviceView → List ℕ → Type 0
AddsToDevice d further text = device_text further ≡ device_text d ++ text

said_added : (d further : DeviceView) (x : SaidLine) → add_said d x ≡ Ok further → AddsToDevice d further (said_text x)
unfolding add_said
said_added d further x e =
    let a = gate (no_refused d) why.Word _ further e in
    let n = refused_none d a.0 in
    subst (λ (v : DeviceView). AddsToDevice d v (said_text x)) (ok_is (record d { said = d.said ++ x ∷ [] }) further a.1)
    (rw (n.refused, n.pages, n.underway, n.logged, n.held, more said_text d.said x) (more_said (own_line d) (flat_map said_text d.said) (said_text x)))

refused_added : (d further : DeviceView) (x : RefusedLine) → add_refused d x ≡ Ok further → AddsToDevice d further (refused_text x)
unfolding add_refused
refused_added d further x e =
    let a = gate (no_page d) why.Word _ further e in
    let n = page_none d a.0 in
    subst (λ (v : DeviceView). AddsToDevice d v (refused_text x)) (ok_is (record d { refused = d.refused ++ x ∷ [] }) further a.1)
    (rw (n.pages, n.underway, n.logged, n.held, more refused_text d.refused x) (more_refused (own_line d) (flat_map said_text d.said) (flat_map refused_text d.refused) (refused_text x)))

page_added : (d further : DeviceView) (x : PageLine) → add_page d x ≡ Ok further → AddsToDevice d further (page_text x)
unfolding add_page
page_added d further x e =
    let a = gate (no_underway d) why.Word _ further e in
    let n = underway_none d a.0 in
    subst (λ (v : DeviceView). AddsToDevice d v (page_text x)) (ok_is (record d { pages = d.pages ++ x ∷ [] }) further a.1)
    (rw (n.underway, n.logged, n.held, more page_text d.pages x)
    (more_page (own_line d) (flat_map said_text d.said) (flat_map refused_text d.refused) (flat_map page_text d.pages) (page_text x)))

underway_added : (d further : DeviceView) (x : UnderwayLine) → add_underway d x ≡ Ok further → AddsToDevice d further (underway_text x)
unfolding add_underway
underway_added d further x e =
    let a = gate (no_logged d) why.Word _ further e in
    let n = logged_none d a.0 in
    subst (λ (v : DeviceView). AddsToDevice d v (underway_text x)) (ok_is (record d { underway = d.underway ++ x ∷ [] }) further a.1)
    (rw (n.logged, n.held, more underway_text d.underway x)
    (more_underway (own_line d) (flat_map said_text d.said) (flat_map refused_text d.refused) (flat_map page_text d.pages) (flat_map underway_text d.underway) (underway_text x)))

logged_added : (d further : DeviceView) (x : LoggedLine) → add_logged d x ≡ Ok further → AddsToDevice d further (logged_text x)
unfolding add_logged
logged_added d further x e =
    let a = gate (no_held d) why.Word _ further e in
    let n = empty_is d.held a.0 in
    subst (λ (v : DeviceView). AddsToDevice d v (logged_text x)) (ok_is (record d { logged = d.logged ++ x ∷ [] }) further a.1)
    (rw (n, more logged_text d.logged x)
    (more_logged (own_line d) (flat_map said_text d.said) (flat_map refused_text d.refused) (flat_map page_text d.pages) (flat_map underway_text d.underway) (flat_map logged_text d.logged) (logged_text x)))

held_added : (d : DeviceView) (x : HeldLine) → AddsToDevice d (add_held d x) (held_text x)
held_added d x =
    rw (more held_text d.held x)
    (more_held (own_line d) (flat_map said_text d.said) (flat_map refused_text d.refused) (flat_map page_text d.pages) (flat_map underway_text d.underway) (flat_map logged_text d.logged) (flat_map held_text d.held) (held_text x))

unbroken_added : (d further : DeviceView) (part : DevicePart) → add_unbroken d part ≡ Ok further → AddsToDevice d further (part_text part)
unfolding add_unbroken
unbroken_added d further (Said x) e = said_added d further x e
unbroken_added d further (Refused x) e = refused_added d further x e
unbroken_added d further (Page x) e = page_added d further x e
unbroken_added d further (Underway x) e = underway_added d further x e
unbroken_added d further (Logged x) e = logged_added d further (record { entry = x; broken = false }) e
unbroken_added d further (Held x) e = subst (λ (v : DeviceView). AddsToDevice d v (held_text x)) (ok_is (add_held d x) further e) (held_added d x)

broken_added : (d further : DeviceView) (part : DevicePart) → add_broken d part ≡ Ok further → AddsToDevice d further (break_text true ++ part_text part)
unfolding add_broken
broken_added d further (Logged x) e = logged_added d further (record { entry = x; broken = true }) e
broken_added d further (Said x) e = absurd cc
broken_added d further (Refused x) e = absurd cc
broken_added d further (Page x) e = absurd cc
broken_added d further (Underway x) e = absurd cc
broken_added d further (Held x) e = absurd cc

device_added : (broken : Bool) (d further : DeviceView) (part : DevicePart) → add_to_device broken d part ≡ Ok further → AddsToDevice d further (break_text broken ++ part_text part)
device_added true d further part e = broken_added d further part e
device_added false d further part e = unbroken_added d further part e

-- ---- all lines

-- the text of what is told so far, of a report whose last line hasn't come
abbrev pub front_text : ReportView → List ℕ
front_text r =
    header_text r.version r.wire ++ 10 ∷ flat_map take_text r.takes ++ flat_map (account_text r.version) r.accounts ++ flat_map conn_text r.conns
    ++ flat_map device_text r.devices

abbrev pub tail_text : Bool → Bool → List ℕ
tail_text true broken = codes "end" ++ 10 ∷ []
tail_text false broken = break_text broken

abbrev pub told_text : SoFarView → List ℕ
told_text s = front_text (report_of s) ++ tail_text s.ended s.broken

-- a line adds its text
pub record Adds (s further : SoFarView) (line : ReportLine) : Type 0 where
  pub text : told_text further ≡ told_text s ++ line_text s.version line
  pub version : further.version ≡ s.version

record NoDevice (s : SoFarView) : Type 0 where
  broken : s.broken ≡ false
  device : s.device ≡ None
  devices : s.devices ≡ []

device_none : (s : SoFarView) → no_device s ≡ true → NoDevice s
device_none s e =
    let p = and_parts (not s.broken && is_none s.device) (is_empty s.devices) e in
    let q = and_parts (not s.broken) (is_none s.device) p.0 in
    record { broken = not_true s.broken q.0; device = none_is s.device q.1; devices = empty_is s.devices p.1 }

record NoConn (s : SoFarView) : Type 0 where
  conns : s.conns ≡ []
  later : NoDevice s

conn_none : (s : SoFarView) → no_conn s ≡ true → NoConn s
conn_none s e = let p = and_parts (is_empty s.conns) (no_device s) e in record { conns = empty_is s.conns p.0; later = device_none s p.1 }

record NoAccount (s : SoFarView) : Type 0 where
  account : s.account ≡ None
  accounts : s.accounts ≡ []
  later : NoConn s

account_none : (s : SoFarView) → no_account s ≡ true → NoAccount s
account_none s e =
    let p = and_parts (is_none s.account && is_empty s.accounts) (no_conn s) e in
    let q = and_parts (is_none s.account) (is_empty s.accounts) p.0 in
    record { account = none_is s.account q.0; accounts = empty_is s.accounts q.1; later = conn_none s p.1 }

take_added : (s further : SoFarView) (x : TakeLine) → s.ended ≡ false → add_take s x ≡ Ok further → Adds s further (Take x)
unfolding add_take
take_added s further x going e =
    let a = gate (no_account s) why.Word _ further e in
    let n = account_none s a.0 in
    subst (λ (v : SoFarView). Adds s v (Take x)) (ok_is (record s { takes = s.takes ++ x ∷ [] }) further a.1)
    (record {
      text = rw (going, n.account, n.accounts, n.later.conns, n.later.later.broken, n.later.later.device, n.later.later.devices, more take_text s.takes x) (simp (append_assoc, cons_append, append-nil));
      version = refl;
    })

account_added : (s further : SoFarView) (x : AccountView) → s.ended ≡ false → add_account s x ≡ Ok further → Adds s further (Account x)
unfolding add_account
account_added s further x going e =
    let a = gate (no_conn s) why.Word _ further e in
    let n = conn_none s a.0 in
    subst (λ (v : SoFarView). Adds s v (Account x)) (ok_is (record s { accounts = s.accounts ++ option_to_list s.account; account = Some x }) further a.1)
    (record {
      text = rw (going, n.conns, n.later.broken, n.later.device, n.later.devices, more (account_text s.version) (s.accounts ++ option_to_list s.account) x) (simp (append_assoc, cons_append, append-nil));
      version = refl;
    })

entry_more : (version : Version) (a : AccountView) (x : EntryLineView) → account_text version (with_entry a x) ≡ account_text version a ++ entry_text x
entry_more version a x =
    rw (more entry_text a.entries x) (more_entries (codes "account ") a.name (decimal a.count) (last_text version a.last) (flat_map entry_text a.entries) (entry_text x))

entry_says : (s : SoFarView) (x : EntryLineView) (a : AccountView) → s.ended ≡ false → s.account ≡ Some a → NoConn s → Adds s (record s { account = Some (with_entry a x) }) (Entry x)
entry_says s x a going is n = record {
  text = rw (
    going,
    is,
    n.conns,
    n.later.broken,
    n.later.device,
    n.later.devices,
    more (account_text s.version) s.accounts a,
    more (account_text s.version) s.accounts (with_entry a x),
    entry_more s.version a x,
  ) (more_entry (header_text s.version s.wire) (flat_map take_text s.takes) (flat_map (account_text s.version) s.accounts) (account_text s.version a) (entry_text x));
  version = refl;
}

entry_added : (s further : SoFarView) (x : EntryLineView) → s.ended ≡ false → add_entry s x ≡ Ok further → Adds s further (Entry x)
unfolding add_entry
entry_added s further x going e =
    let a = gate (no_conn s) why.Word _ further e in
    let b = bind_ok (told s.account) _ further a.1 in
    subst (λ (v : SoFarView). Adds s v (Entry x)) (ok_is (record s { account = Some (with_entry b.0 x) }) further b.2)
    (entry_says s x b.0 going (told_is s.account b.0 b.1) (conn_none s a.0))

conn_added : (s further : SoFarView) (x : ConnLine) → s.ended ≡ false → add_conn s x ≡ Ok further → Adds s further (Conn x)
unfolding add_conn
conn_added s further x going e =
    let a = gate (no_device s) why.Word _ further e in
    let n = device_none s a.0 in
    subst (λ (v : SoFarView). Adds s v (Conn x)) (ok_is (record s { conns = s.conns ++ x ∷ [] }) further a.1)
    (record {
      text = rw (going, n.broken, n.device, n.devices, more conn_text s.conns x) (simp (append_assoc, cons_append, append-nil));
      version = refl;
    })

begun_added : (s further : SoFarView) (x : DeviceView) → s.ended ≡ false → add_device s x ≡ Ok further → Adds s further (Device x)
unfolding add_device
begun_added s further x going e =
    let a = gate (not s.broken) why.Word _ further e in
    let whole = not_true s.broken a.0 in
    subst (λ (v : SoFarView). Adds s v (Device x)) (ok_is (record s { devices = s.devices ++ option_to_list s.device; device = Some x }) further a.1)
    (record {
      text = rw (going, whole, more device_text (s.devices ++ option_to_list s.device) x) (simp (append_assoc, cons_append, append-nil));
      version = refl;
    })

part_says : (s : SoFarView) (part : DevicePart) (d further : DeviceView) → s.ended ≡ false → s.device ≡ Some d → AddsToDevice d further (break_text s.broken ++ part_text part)
    → Adds s (record s { device = Some further; broken = false }) (Part part)
part_says s part d further going is added = record {
  text = rw (going, is, more device_text s.devices d, more device_text s.devices further, added)
      (more_part (header_text s.version s.wire) (flat_map take_text s.takes) (flat_map (account_text s.version) (s.accounts ++ option_to_list s.account)) (flat_map conn_text s.conns)
      (flat_map device_text s.devices) (device_text d) (break_text s.broken) (part_text part));
  version = refl;
}

part_added : (s further : SoFarView) (part : DevicePart) → s.ended ≡ false → add_part s part ≡ Ok further → Adds s further (Part part)
unfolding add_part
part_added s further part going e =
    let a = bind_ok (told s.device) _ further e in
    let b = bind_ok (add_to_device s.broken a.0 part) _ further a.2 in
    subst (λ (v : SoFarView). Adds s v (Part part)) (ok_is (record s { device = Some b.0; broken = false }) further b.2)
    (part_says s part a.0 b.0 going (told_is s.device a.0 a.1) (device_added s.broken a.0 b.0 part b.1))

whole_before : (broken : Bool) (device : Option DeviceView) → device_may_break broken device ≡ true → broken ≡ false
whole_before broken None e = absurd cc
whole_before broken (Some device) e = not_true broken (and_parts (not broken) (no_held device) e).0

break_added : (s further : SoFarView) → s.ended ≡ false → add_break s ≡ Ok further → Adds s further Break
unfolding add_break
break_added s further going e =
    let b = gate (may_break s) why.Word _ further e in
    let whole = whole_before s.broken s.device b.0 in
    subst (λ (v : SoFarView). Adds s v Break) (ok_is (record s { broken = true }) further b.1)
    (record { text = rw (going, whole) (simp (append_assoc, cons_append, append-nil)); version = refl })

end_added : (s further : SoFarView) → s.ended ≡ false → add_end s ≡ Ok further → Adds s further End
unfolding add_end
end_added s further going e =
    let a = gate (not s.broken) why.Word _ further e in
    let whole = not_true s.broken a.0 in
    subst (λ (v : SoFarView). Adds s v End) (ok_is (record s { ended = true }) further a.1)
    (record { text = rw (going, whole) (simp (append_assoc, cons_append, append-nil)); version = refl })

pub line_added : (s further : SoFarView) (line : ReportLine) → s.ended ≡ false → add_line s line ≡ Ok further → Adds s further line
unfolding add_line
line_added s further (Take x) going e = take_added s further x going e
line_added s further (Account x) going e = account_added s further x going e
line_added s further (Entry x) going e = entry_added s further x going e
line_added s further (Conn x) going e = conn_added s further x going e
line_added s further (Device x) going e = begun_added s further x going e
line_added s further (Part part) going e = part_added s further part going e
line_added s further Break going e = break_added s further going e
line_added s further End going e = end_added s further going e
