-- What is known of a run's last state, beside its report.
use Rattle.std.proofs.Common.{◌≡◌, ℕ, ◌<◌, ◌≤◌, ◌==◌, Bool, true, false, cond, List, [], ◌∷◌, ◌++◌, Some, length, map, refl, sym, ap, ◌∙◌, subst, arith, append_assoc}
use Rattle.std.proofs.lemmas.Bool.{eq-eqb}
use Rattle.std.specs.List.{AllByRecursion, filter, flat_map, slice_get}
use Rattle.std.specs.Prelude.{◌&&◌, ◌||◌}
use Rattle.std.specs.Str.{bytes_eq}
use Rattle.mam_archive.proofs.NumberedEntries.{at_position}
use Rattle.base_lemmas.proofs.Lists.{AllByRecursion-weaker}
use Rattle.cmd_report.specs.Lawful.{device_named, is_taken}
use Rattle.cmd_report.specs.Lines.{take_line}
use Rattle.cmd_report.specs.Reports.{DeviceView, ReportView}
use Rattle.cmd_report.specs.declared.report.SaidMark.{SaidMark}
use Rattle.cmd_report.specs.declared.report.TakeLine.{TakeLine}
use Rattle.cmd_schedule.proofs.Lists.{all_append, all_filter, all_front}
use Rattle.cmd_schedule.specs.Contents.{Owned}
use Rattle.cmd_schedule.specs.declared.schedule.Version.{Version}
use Rattle.sim_1_applications.proofs.Numbered.{messages_append}
use Rattle.sim_1_applications.proofs.TakenOnes.{is_taken_of}
use Rattle.sim_1_applications.specs.Devices as sessions
use Rattle.sim_1_applications.specs.Devices.{Session, Sessions, up_put}
use Rattle.sim_1_applications.specs.Kept.{Read, Taken, accepted, handled, is_of, said_in}
use Rattle.sim_1_applications.specs.Events.{is_among}
use Rattle.sim_1_applications.specs.Stanzas.{Submission, messages}
use Rattle.sim_1_applications.proofs.Owners.{Differ, line_of, name_is, name_tells, names_of}
use Rattle.sim_1_applications.proofs.SaidLines.{IsFound, said_found}
use Rattle.sim_1_applications.specs.Reported.{AreDeviceLines, history_at, name_at, said_line, said_of, take_of}
use Rattle.sim_1_applications.proofs.Stamps.{all_both as all_two}

pub record Ground (keep : ℕ) (version : Version) (owned : List Owned) (accounts : List (List ℕ)) (w : sessions.AppWorld) (report : ReportView) : Type 0 where
  pub some : 1 ≤ keep
  pub few : length w.takes ≤ 4294967295
  pub differ : Differ (names_of owned)
  pub taken : Taken w
  pub read : Read w
  pub keeps : w.keep ≡ keep
  pub exist : w.accounts ≡ accounts
  pub many : length w.devices ≡ length owned
  pub homes : (i : ℕ) (o : Owned) (d : sessions.Device) → slice_get owned i ≡ Some o → slice_get w.devices i ≡ Some d → d.account ≡ o.account
  pub takes : report.takes ≡ map (take_line version) (map (take_of owned) w.takes)
  pub devices : AreDeviceLines keep (history_at owned w.takes) owned w.devices report.devices

-- Takes by devices.

pub by_device : (P : ℕ → sessions.Take → Type 0) (many : ℕ) (takes : List sessions.Take) → ((i : ℕ) → i < many → AllByRecursion (P i) (filter (is_of i) takes)) →
    AllByRecursion (λ t. t.device < many) takes → AllByRecursion (λ t. P t.device t) takes
by_device P many [] each within = tt
by_device P many (t ∷ takes) each within =
    let mine : AllByRecursion (P t.device) (filter (is_of t.device) (t ∷ takes)) = each t.device within.0 in
    let hit : (t.device == t.device) ≡ true = eq-eqb t.device t.device refl in
    let first : AllByRecursion (P t.device) (t ∷ filter (is_of t.device) takes) = subst (λ b. AllByRecursion (P t.device) (cond b (t ∷ filter (is_of t.device) takes) (filter (is_of t.device) takes))) hit mine in
    (first.0, by_device P many takes (λ i low. rest i (t.device == i) (each i low)) within.1)
  where
    rest : (i : ℕ) (b : Bool) → AllByRecursion (P i) (cond b (t ∷ filter (is_of i) takes) (filter (is_of i) takes)) → AllByRecursion (P i) (filter (is_of i) takes)
    rest i true all = all.1
    rest i false all = all

unsaid : (Q : Submission → Type 0) (ts : List sessions.Take) → AllByRecursion Q (map said_in ts) → AllByRecursion (λ t. Q t.said) ts
unsaid Q [] all = tt
unsaid Q (t ∷ ts) all = (all.0, unsaid Q ts all.1)

-- what holds of all that was put holds of all that was accepted
accepted_has : (Q : Submission → Type 0) (accounts : List (List ℕ)) (s : Session) → AllByRecursion Q (messages (up_put s)) → AllByRecursion Q (accepted accounts s)
accepted_has Q accounts s all =
    all_filter Q (λ m. is_among m.to accounts) (messages s.up_got) (all_front Q (messages s.up_got) (messages s.up_rest) (subst (AllByRecursion Q) (messages_append s.up_got s.up_rest) all))

handled_has : (Q : Submission → Type 0) (accounts : List (List ℕ)) (past : List Session) (now : Session) → AllByRecursion (λ t. AllByRecursion Q (messages (up_put t))) (past ++ now ∷ []) →
    AllByRecursion Q (flat_map (accepted accounts) past ++ accepted accounts now)
handled_has Q accounts [] now all = accepted_has Q accounts now all.0
handled_has Q accounts (s ∷ past) now all =
    subst (AllByRecursion Q) (sym (append_assoc (accepted accounts s) (flat_map (accepted accounts) past) (accepted accounts now)))
    (all_append Q (accepted accounts s) (flat_map (accepted accounts) past ++ accepted accounts now) (accepted_has Q accounts s all.0) (handled_has Q accounts past now all.1))

-- the line of a take's device, in which its message is found
pub record IsTakeLine (owned : List Owned) (report : ReportView) (i : ℕ) (t : sessions.Take) : Type 0 where
  pub line : DeviceView
  pub named : device_named (name_at owned i) report.devices ≡ Some line
  pub account : line.account ≡ t.account
  pub found : IsFound line.said t.said

device_takes : (keep : ℕ) (version : Version) (owned : List Owned) (accounts : List (List ℕ)) (w : sessions.AppWorld) (report : ReportView) → Ground keep version owned accounts w report →
    (i : ℕ) → i < length owned → AllByRecursion (IsTakeLine owned report i) (filter (is_of i) w.takes)
device_takes keep version owned accounts w report g i within =
    let owner = at_position i owned within in
    let line = line_of keep (history_at owned w.takes) owned w.devices report.devices i owner.0 g.differ g.devices owner.1 in
    let known = g.taken.devices i line.d line.device in
    let named : device_named (name_at owned i) report.devices ≡ Some line.line = ap (λ name. device_named name report.devices) (name_is owned i owner.0 owner.1) ∙ line.named in
    let found : AllByRecursion (IsFound (said_of line.d.sessions)) (handled w.accounts line.d.sessions) =
    handled_has (IsFound (said_of line.d.sessions)) w.accounts line.d.sessions.past line.d.sessions.now (said_found line.d.sessions known.sessions) in
    all_two (λ t. t.account ≡ line.d.account) (λ t. IsFound (said_of line.d.sessions) t.said) (IsTakeLine owned report i)
    (λ t home is. record {
      line = line.line;
      named = named;
      account = line.is.account ∙ sym (g.homes i owner.0 line.d owner.1 line.device) ∙ sym home;
      found = subst (λ lines. IsFound lines t.said) (sym line.is.said) is;
    })
    (filter (is_of i) w.takes) known.takes.home
    (unsaid (IsFound (said_of line.d.sessions)) (filter (is_of i) w.takes) (subst (AllByRecursion (IsFound (said_of line.d.sessions))) (sym known.takes.are) found))

pub takes_within : (keep : ℕ) (version : Version) (owned : List Owned) (accounts : List (List ℕ)) (w : sessions.AppWorld) (report : ReportView) → Ground keep version owned accounts w report →
    AllByRecursion (λ t. t.device < length owned) w.takes
takes_within keep version owned accounts w report g =
    AllByRecursion-weaker _ (λ t. t.device < length owned) (λ t is. let low = is.device in let same = g.many in omega arith) w.takes g.taken.placed

-- each take has a line of its device
pub take_lines : (keep : ℕ) (version : Version) (owned : List Owned) (accounts : List (List ℕ)) (w : sessions.AppWorld) (report : ReportView) → Ground keep version owned accounts w report →
    AllByRecursion (λ t. IsTakeLine owned report t.device t) w.takes
take_lines keep version owned accounts w report g =
    by_device (IsTakeLine owned report) (length owned) w.takes (device_takes keep version owned accounts w report g) (takes_within keep version owned accounts w report g)

-- The report's lines of one device.

abbrev pub line_by : Version → List Owned → sessions.Take → TakeLine
line_by version owned t = take_line version (take_of owned t)

pub lines_of_device : (version : Version) (owned : List Owned) (i : ℕ) (o : Owned) (takes : List sessions.Take) → Differ (names_of owned) → slice_get owned i ≡ Some o → AllByRecursion (λ t. t.device < length owned) takes →
    filter (λ l. bytes_eq o.device l.device) (map (take_line version) (map (take_of owned) takes)) ≡ map (take_line version) (map (take_of owned) (filter (is_of i) takes))
lines_of_device version owned i o [] differ at within = refl
lines_of_device version owned i o (t ∷ takes) differ at within =
    ap (λ b. cond b (line_by version owned t ∷ filter (λ l. bytes_eq o.device l.device) (map (take_line version) (map (take_of owned) takes))) (filter (λ l. bytes_eq o.device l.device) (map (take_line version) (map (take_of owned) takes))))
    (name_tells owned i t.device o differ at within.0)
    ∙ chosen (t.device == i) (lines_of_device version owned i o takes differ at within.1)
  where
    chosen : (b : Bool) → filter (λ l. bytes_eq o.device l.device) (map (take_line version) (map (take_of owned) takes)) ≡ map (take_line version) (map (take_of owned) (filter (is_of i) takes)) →
        cond b (line_by version owned t ∷ filter (λ l. bytes_eq o.device l.device) (map (take_line version) (map (take_of owned) takes))) (filter (λ l. bytes_eq o.device l.device) (map (take_line version) (map (take_of owned) takes)))
        ≡ map (take_line version) (map (take_of owned) (cond b (t ∷ filter (is_of i) takes) (filter (is_of i) takes)))
    chosen true same = ap (λ ls. line_by version owned t ∷ ls) same
    chosen false same = same

-- the report says of a message what the takes say
pub taken_same : (version : Version) (owned : List Owned) (i : ℕ) (o : Owned) (mark : SaidMark) (m : Submission) (takes : List sessions.Take) → Differ (names_of owned) → slice_get owned i ≡ Some o →
    AllByRecursion (λ t. t.device < length owned) takes → is_taken (map (take_line version) (map (take_of owned) takes)) o.device (said_line mark m) ≡ is_taken_of i m takes
taken_same version owned i o mark m [] differ at within = refl
taken_same version owned i o mark m (t ∷ takes) differ at within =
    ap (λ b. (b && t.said.epoch == m.epoch && t.said.n == m.n) || is_taken (map (take_line version) (map (take_of owned) takes)) o.device (said_line mark m)) (name_tells owned i t.device o differ at within.0)
    ∙ ap (λ r. (t.device == i && t.said.epoch == m.epoch && t.said.n == m.n) || r) (taken_same version owned i o mark m takes differ at within.1)
    ∙ ap (λ b. b || is_taken_of i m takes) (joined (t.device == i) (t.said.epoch == m.epoch) (t.said.n == m.n))
  where
    joined : (a b c : Bool) → (a && b && c) ≡ (a && (b && c))
    joined true b c = refl
    joined false b c = refl
