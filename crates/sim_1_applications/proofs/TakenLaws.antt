-- Laws 1 to 3 of reports of version 2.
use Rattle.std.proofs.Common.{◌≡◌, ◌≢◌, ℕ, ◌+◌, ◌<◌, ◌≤◌, true, false, List, [], ◌∷◌, ◌++◌, Some, IsTrue, length, map, refl, sym, ap, ◌∙◌, subst, arith}
use Rattle.std.proofs.lemmas.Bool.{false≢true}
use Rattle.std.specs.List.{AllByRecursion, filter, flat_map, slice_get}
use Rattle.std.specs.List.Sorted.{IsNonDecreasing}
use Rattle.std.specs.Str.{bytes_eq}
use Rattle.base_lemmas.proofs.Lists.{AllByRecursion-weaker}
use Rattle.cmd_direct.proofs.LawLists.{pairs_not_falling}
use Rattle.cmd_direct.proofs.TurnRuns.{all_positions}
use Rattle.base_io.specs.Names.{is_among}
use Rattle.cmd_report.proofs.Pairs.{pairs_by_first, pairs_map}
use Rattle.cmd_report.specs.Lawful.{AreSubmissions, EachPair, IsAcknowledgedFirst, IsOfSubmission, IsSettledRight, IsSubmittedTo, IsTakenFirst, Precedes, device_named, is_taken, submission, take_named, text_named}
use Rattle.cmd_report.specs.LawfulRuns.{moment_of, timed_take}
use Rattle.cmd_report.specs.Lines.{take_line}
use Rattle.cmd_report.specs.Reports.{DeviceView, ReportView}
use Rattle.cmd_report.specs.Takes.{Take}
use Rattle.cmd_report.specs.declared.report.SaidLine.{SaidLine}
use Rattle.cmd_report.specs.declared.report.SaidMark.{SaidMark}
use Rattle.cmd_report.specs.declared.report.SaidMark.TheVariants.{Acknowledged, Undecided, Waiting}
use Rattle.cmd_report.specs.declared.report.TakeLine.{TakeLine}
use Rattle.cmd_schedule.proofs.Lists.{all_append, all_map, all_of, map-map, map_same}
use Rattle.cmd_schedule.specs.Contents.{Owned, accounts_of, is_account}
use Rattle.cmd_schedule.specs.Schedules.{ScheduleView, steps_of}
use Rattle.cmd_schedule.specs.declared.schedule.Version.{Version}
use Rattle.cmd_schedule.specs.declared.schedule.Version.TheVariants.{Two}
use Rattle.sim_1_applications.proofs.Follow.{settled}
use Rattle.sim_1_applications.proofs.Orders.{once_in_order}
use Rattle.sim_1_applications.proofs.TakenOnes.{IsSorted, is_taken_of, sessions_sorted}
use Rattle.sim_1_applications.specs.Devices as sessions
use Rattle.sim_1_applications.specs.Devices.{Session, Sessions, epoch_of, first_of, last_of, up_put}
use Rattle.sim_1_applications.specs.Kept.{AreMoments, IsNumbered, SessionsKept, is_of, said_in}
use Rattle.sim_1_applications.specs.Laws as machine
use Rattle.sim_1_applications.specs.Stanzas.{messages}
use Rattle.sim_1_applications.proofs.Ground.{Ground, IsTakeLine, lines_of_device, line_by, take_lines, takes_within, taken_same}
use Rattle.sim_1_applications.proofs.Owners.{Differ, LineAt, line_at, names_of}
use Rattle.sim_1_applications.proofs.SaidLines.{Nothing, acknowledged_first, all_acknowledged, all_said, all_unsaid, each_nothing, each_of, past_below, pairs_append, said_all, said_epochs, said_numbered, said_pairs, said_parts}
use Rattle.sim_1_applications.specs.Reported.{IsAtRest, history_at, mark_of, name_at, said_among, said_in as lines_in, said_line, said_of, take_of, underway_of}

-- what holds of each device's line, with its place
pub each_device : (P : DeviceView → Type 0) (keep : ℕ) (version : Version) (owned : List Owned) (accounts : List (List ℕ)) (w : sessions.AppWorld) (report : ReportView) → Ground keep version owned accounts w report →
    ((i : ℕ) (line : DeviceView) → LineAt keep (history_at owned w.takes) owned w.devices i line → P line) → AllByRecursion P report.devices
each_device P keep version owned accounts w report g each =
    all_positions P report.devices (λ i line at. each i line (line_at keep (history_at owned w.takes) owned w.devices report.devices i line g.devices at))

-- Law 1.

submitted_one : (version : Version) (owned : List Owned) (report : ReportView) (t : sessions.Take) → IsTakeLine owned report t.device t →
    IsOfSubmission (line_by version owned t) (device_named (name_at owned t.device) report.devices)
submitted_one version owned report t is =
    subst (IsOfSubmission (line_by version owned t)) (sym is.named) (subst (IsSubmittedTo t.said.to) (sym is.found.1) refl)

pub takes_submitted : (keep : ℕ) (version : Version) (owned : List Owned) (accounts : List (List ℕ)) (w : sessions.AppWorld) (report : ReportView) → Ground keep version owned accounts w report →
    AllByRecursion (λ line. IsOfSubmission line (device_named line.device report.devices)) report.takes
takes_submitted keep version owned accounts w report g =
    subst (AllByRecursion (λ line. IsOfSubmission line (device_named line.device report.devices))) (sym g.takes)
    (all_map (λ line. IsOfSubmission line (device_named line.device report.devices)) (take_line version) (map (take_of owned) w.takes)
    (all_map (λ t. IsOfSubmission (take_line version t) (device_named t.device report.devices)) (take_of owned) w.takes
    (AllByRecursion-weaker (λ t. IsTakeLine owned report t.device t) (λ t. IsOfSubmission (line_by version owned t) (device_named (name_at owned t.device) report.devices))
    (submitted_one version owned report) w.takes (take_lines keep version owned accounts w report g))))

pub takes_exist : (keep : ℕ) (version : Version) (owned : List Owned) (accounts : List (List ℕ)) (w : sessions.AppWorld) (report : ReportView) → Ground keep version owned accounts w report →
    AllByRecursion (λ line. is_among line.account accounts ≡ true) report.takes
takes_exist keep version owned accounts w report g =
    subst (AllByRecursion (λ line. is_among line.account accounts ≡ true)) (sym g.takes)
    (all_map (λ line. is_among line.account accounts ≡ true) (take_line version) (map (take_of owned) w.takes)
    (all_map (λ t. is_among t.to accounts ≡ true) (take_of owned) w.takes
    (AllByRecursion-weaker _ (λ t. is_among t.said.to accounts ≡ true) (λ t is. ap (is_among t.said.to) (sym g.exist) ∙ is.exists) w.takes g.taken.placed)))

-- the takes that the lines name are the takes, but for moments that aren't told
named_back : (owned : List Owned) (report : ReportView) (version : Version) (t : sessions.Take) → IsTakeLine owned report t.device t →
    take_named (line_by version owned t) (device_named (name_at owned t.device) report.devices) ≡ record (take_of owned t) { moment = 0 }
named_back owned report version t is =
    ap (take_named (line_by version owned t)) is.named
    ∙ ap (λ account. record { device = name_at owned t.device; account = account; epoch = t.said.epoch; n = t.said.n; to = t.said.to; text = text_named (submission t.said.epoch t.said.n is.line.said); moment = 0 }) is.account
    ∙ ap (λ said. record { device = name_at owned t.device; account = t.account; epoch = t.said.epoch; n = t.said.n; to = t.said.to; text = text_named said; moment = 0 }) is.found.1

timed_back : (keep : ℕ) (owned : List Owned) (report : ReportView) (t : sessions.Take) → IsTakeLine owned report t.device t → timed_take report (line_by (Two keep) owned t) ≡ take_of owned t
timed_back keep owned report t is = ap (λ (take : Take). record take { moment = t.moment }) (named_back owned report (Two keep) t is)

pub history_is : (keep : ℕ) (owned : List Owned) (accounts : List (List ℕ)) (w : sessions.AppWorld) (report : ReportView) → Ground keep (Two keep) owned accounts w report →
    map (timed_take report) report.takes ≡ map (take_of owned) w.takes
history_is keep owned accounts w report g =
    ap (map (timed_take report)) g.takes
    ∙ map-map (take_line (Two keep)) (timed_take report) (map (take_of owned) w.takes)
    ∙ map-map (take_of owned) (λ t. timed_take report (take_line (Two keep) t)) w.takes
    ∙ map_same (λ t. timed_take report (line_by (Two keep) owned t)) (take_of owned) w.takes
    (AllByRecursion-weaker (λ t. IsTakeLine owned report t.device t) (λ t. timed_take report (line_by (Two keep) owned t) ≡ take_of owned t) (timed_back keep owned report) w.takes (take_lines keep (Two keep) owned accounts w report g))

-- moments
pub moments_from : (low now : ℕ) (ts : List sessions.Take) → AreMoments low now ts → AllByRecursion (λ t. low ≤ t.moment) ts × EachPair (λ (a b : sessions.Take). a.moment ≤ b.moment) ts
moments_from low now [] known = (tt, tt)
moments_from low now (t ∷ ts) known =
    let rest = moments_from t.moment now ts known.1 in
    ((known.0, AllByRecursion-weaker (λ u. t.moment ≤ u.moment) (λ u. low ≤ u.moment) (λ u is. let first = known.0 in omega arith) ts rest.0), rest)

pub moments_rise : (keep : ℕ) (owned : List Owned) (accounts : List (List ℕ)) (w : sessions.AppWorld) (report : ReportView) → Ground keep (Two keep) owned accounts w report →
    IsNonDecreasing (map moment_of report.takes)
moments_rise keep owned accounts w report g =
    subst (λ lines. IsNonDecreasing (map moment_of lines)) (sym g.takes)
    (pairs_not_falling (map moment_of (map (take_line (Two keep)) (map (take_of owned) w.takes)))
    (pairs_map (λ x y. x ≤ y) moment_of (map (take_line (Two keep)) (map (take_of owned) w.takes))
    (pairs_map (λ (a b : TakeLine). moment_of a ≤ moment_of b) (take_line (Two keep)) (map (take_of owned) w.takes)
    (pairs_map (λ (a b : Take). a.moment ≤ b.moment) (take_of owned) w.takes (moments_from 0 w.clock w.takes g.taken.moments).1))))

pub device_numbered : (keep : ℕ) (version : Version) (owned : List Owned) (accounts : List (List ℕ)) (w : sessions.AppWorld) (report : ReportView) → Ground keep version owned accounts w report →
    AllByRecursion (λ d. AreSubmissions d.said) report.devices
device_numbered keep version owned accounts w report g =
    each_device (λ d. AreSubmissions d.said) keep version owned accounts w report g
    (λ i line at. subst AreSubmissions (sym at.is.said) (said_numbered at.d.sessions (g.taken.devices i at.d at.device).sessions))

pub device_epochs : (keep : ℕ) (version : Version) (owned : List Owned) (accounts : List (List ℕ)) (w : sessions.AppWorld) (report : ReportView) → Ground keep version owned accounts w report →
    AllByRecursion (λ d. AllByRecursion (λ said. (1 ≤ said.epoch) × (said.epoch ≤ d.epoch)) d.said) report.devices
device_epochs keep version owned accounts w report g =
    each_device (λ d. AllByRecursion (λ said. (1 ≤ said.epoch) × (said.epoch ≤ d.epoch)) d.said) keep version owned accounts w report g
    (λ i line at. subst (λ lines. AllByRecursion (λ said. (1 ≤ said.epoch) × (said.epoch ≤ line.epoch)) lines) (sym at.is.said)
    (subst (λ e. AllByRecursion (λ said. (1 ≤ said.epoch) × (said.epoch ≤ e)) (said_of at.d.sessions)) (sym at.is.epoch) (said_epochs at.d.sessions (g.taken.devices i at.d at.device).sessions)))

-- Law 2.

rise_first : (version : Version) (owned : List Owned) (t : sessions.Take) (ts : List sessions.Take) → AllByRecursion (machine.Precedes t.said) (map said_in ts) →
    AllByRecursion (Precedes (line_by version owned t)) (map (take_line version) (map (take_of owned) ts))
rise_first version owned t [] all = tt
rise_first version owned t (u ∷ ts) all = (all.0, rise_first version owned t ts all.1)

rise_all : (version : Version) (owned : List Owned) (ts : List sessions.Take) → machine.EachPair machine.Precedes (map said_in ts) → EachPair Precedes (map (take_line version) (map (take_of owned) ts))
rise_all version owned [] pairs = tt
rise_all version owned (t ∷ ts) pairs = (rise_first version owned t ts pairs.0, rise_all version owned ts pairs.1)

pub takes_rise : (keep : ℕ) (version : Version) (owned : List Owned) (accounts : List (List ℕ)) (w : sessions.AppWorld) (report : ReportView) → Ground keep version owned accounts w report →
    AllByRecursion (λ d. EachPair Precedes (filter (λ t. bytes_eq d.name t.device) report.takes)) report.devices
takes_rise keep version owned accounts w report g =
    each_device (λ d. EachPair Precedes (filter (λ t. bytes_eq d.name t.device) report.takes)) keep version owned accounts w report g
    (λ i line at. subst (λ name. EachPair Precedes (filter (λ t. bytes_eq name t.device) report.takes)) (sym at.is.name)
    (subst (λ takes. EachPair Precedes (filter (λ t. bytes_eq at.o.device t.device) takes)) (sym g.takes)
    (subst (EachPair Precedes) (sym (lines_of_device version owned i at.o w.takes g.differ at.owner (takes_within keep version owned accounts w report g)))
    (rise_all version owned (filter (is_of i) w.takes) (once_in_order w g.taken i at.d at.device).rise))))

-- of a session, what the report says of what was handled and of what wasn't
abbrev IsReported : List (List ℕ) → List TakeLine → List ℕ → SaidLine → Type 0
IsReported accounts takes device said = is_among said.to accounts ≡ true → is_taken takes device said ≡ true

abbrev IsUnreported : List TakeLine → List ℕ → SaidLine → Type 0
IsUnreported takes device said = is_taken takes device said ≡ false

record Halves (accounts : List (List ℕ)) (takes : List TakeLine) (device : List ℕ) (mark : SaidMark) (s : Session) : Type 0 where
  parts : lines_in mark s ≡ said_among s.acked mark s.up_got ++ said_among 0 mark s.up_rest
  got : AllByRecursion (IsReported accounts takes device) (said_among s.acked mark s.up_got)
  rest : AllByRecursion (IsUnreported takes device) (said_among 0 mark s.up_rest)

halves : (version : Version) (owned : List Owned) (accounts : List (List ℕ)) (takes : List sessions.Take) (i : ℕ) (o : Owned) (differ : Differ (names_of owned)) (owner : slice_get owned i ≡ Some o) (within : AllByRecursion (λ t. t.device < length owned) takes)
    (e : ℕ) (mark : SaidMark) (s : Session) → IsNumbered e s → IsSorted accounts takes i s → Halves accounts (map (take_line version) (map (take_of owned) takes)) o.device mark s
halves version owned accounts takes i o differ owner within e mark s known sorted =
    let lines = map (take_line version) (map (take_of owned) takes) in
    record {
      parts = said_parts mark s known.is_session.acked;
      got = all_said (IsReported accounts lines o.device) s.acked mark s.up_got
          (AllByRecursion-weaker (λ m. is_among m.to accounts ≡ true → is_taken_of i m takes ≡ true) (λ m. (other : SaidMark) → IsReported accounts lines o.device (said_line other m))
          (λ m is other exists. taken_same version owned i o other m takes differ owner within ∙ is exists) (messages s.up_got) sorted.got);
      rest = all_unsaid (IsUnreported lines o.device) mark s.up_rest
          (AllByRecursion-weaker (λ m. is_taken_of i m takes ≡ false) (λ m. IsUnreported lines o.device (said_line mark m))
          (λ m is. taken_same version owned i o mark m takes differ owner within ∙ is) (messages s.up_rest) sorted.rest);
    }

-- pairs of which the second isn't taken
pairs_by_second : (Q : SaidLine → Type 0) (R : SaidLine → SaidLine → Type 0) → ((x y : SaidLine) → Q y → R x y) → (xs : List SaidLine) → AllByRecursion Q xs → EachPair R xs
pairs_by_second Q R each [] all = tt
pairs_by_second Q R each (x ∷ xs) all = (AllByRecursion-weaker Q (R x) (λ y is. each x y is) xs all.1, pairs_by_second Q R each xs all.1)

gapless_session : (schedule : ScheduleView) (takes : List TakeLine) (device : List ℕ) (mark : SaidMark) (s : Session) → Halves (accounts_of (steps_of schedule.lines)) takes device mark s →
    EachPair (IsTakenFirst schedule takes device) (lines_in mark s)
gapless_session schedule takes device mark s h =
    let accounts = accounts_of (steps_of schedule.lines) in
    let first : (x y : SaidLine) → IsReported accounts takes device x → IsTakenFirst schedule takes device x y = λ x y is same exists later. is exists in
    let second : (x y : SaidLine) → IsUnreported takes device y → IsTakenFirst schedule takes device x y = λ x y is same exists later. absurd (false≢true (sym is ∙ later)) in
    let got = said_among s.acked mark s.up_got in
    let rest = said_among 0 mark s.up_rest in
    subst (EachPair (IsTakenFirst schedule takes device)) (sym h.parts)
    (pairs_append (IsTakenFirst schedule takes device) got rest
    (pairs_by_first (IsReported accounts takes device) (IsTakenFirst schedule takes device) first got h.got)
    (pairs_by_second (IsUnreported takes device) (IsTakenFirst schedule takes device) second rest h.rest)
    (AllByRecursion-weaker (IsReported accounts takes device) (λ x. AllByRecursion (IsTakenFirst schedule takes device x) rest)
    (λ x is. AllByRecursion-weaker (IsUnreported takes device) (IsTakenFirst schedule takes device x) (λ y none. first x y is) rest h.rest) got h.got))

abbrev Sorted : List (List ℕ) → List sessions.Take → ℕ → ℕ → Session → Type 0
Sorted accounts takes i e s = IsSorted accounts takes i s

pub device_gapless : (keep : ℕ) (version : Version) (schedule : ScheduleView) (owned : List Owned) (w : sessions.AppWorld) (report : ReportView) → Ground keep version owned (accounts_of (steps_of schedule.lines)) w report →
    AllByRecursion (λ d. EachPair (IsTakenFirst schedule report.takes d.name) d.said) report.devices
device_gapless keep version schedule owned w report g =
    let accounts = accounts_of (steps_of schedule.lines) in
    let within = takes_within keep version owned accounts w report g in
    each_device (λ d. EachPair (IsTakenFirst schedule report.takes d.name) d.said) keep version owned accounts w report g
    (λ i line at.
    let lines = map (take_line version) (map (take_of owned) w.takes) in
    let known = g.taken.devices i at.d at.device in
    let sorted = subst (λ a. AllByRecursion (IsSorted a w.takes i) (at.d.sessions.past ++ at.d.sessions.now ∷ [])) g.exist (sessions_sorted w.accounts w.takes i at.d.sessions known.sessions known.takes.are) in
    let parts = each_of (IsSorted accounts w.takes i) 0 at.d.sessions.past at.d.sessions.now sorted in
    subst (λ said. EachPair (IsTakenFirst schedule report.takes line.name) said) (sym at.is.said)
    (subst (λ name. EachPair (IsTakenFirst schedule report.takes name) (said_of at.d.sessions)) (sym at.is.name)
    (subst (λ takes. EachPair (IsTakenFirst schedule takes at.o.device) (said_of at.d.sessions)) (sym g.takes)
    (said_pairs (Sorted accounts w.takes i) (IsTakenFirst schedule lines at.o.device)
    (record {
      within = λ e mark s one is. gapless_session schedule lines at.o.device mark s (halves version owned accounts w.takes i at.o g.differ at.owner within e mark s one is);
      across = λ a b low same. absurd (omega arith);
    })
    at.d.sessions known.sessions parts.0 parts.1))))

-- Law 3.

abbrev IsKnown : ScheduleView → List ℕ → List TakeLine → SaidLine → Type 0
IsKnown schedule device takes said = said.state ≡ Acknowledged → IsTrue (is_account schedule said.to) → IsTrue (is_taken takes device said)

known_session : (schedule : ScheduleView) (takes : List TakeLine) (device : List ℕ) (mark : SaidMark) (s : Session) → mark ≢ Acknowledged → Halves (accounts_of (steps_of schedule.lines)) takes device mark s →
    AllByRecursion (IsKnown schedule device takes) (lines_in mark s)
known_session schedule takes device mark s not h =
    subst (AllByRecursion (IsKnown schedule device takes)) (sym h.parts)
    (all_append (IsKnown schedule device takes) (said_among s.acked mark s.up_got) (said_among 0 mark s.up_rest)
    (AllByRecursion-weaker (IsReported (accounts_of (steps_of schedule.lines)) takes device) (IsKnown schedule device takes) (λ said is state exists. is exists) (said_among s.acked mark s.up_got) h.got)
    (all_unsaid (IsKnown schedule device takes) mark s.up_rest (all_of (λ m. IsKnown schedule device takes (said_line mark m)) (λ m state. absurd (not state)) (messages s.up_rest))))

pub device_acknowledged : (keep : ℕ) (version : Version) (schedule : ScheduleView) (owned : List Owned) (w : sessions.AppWorld) (report : ReportView) → Ground keep version owned (accounts_of (steps_of schedule.lines)) w report →
    AllByRecursion (λ d. AllByRecursion (λ said. said.state ≡ Acknowledged → IsTrue (is_account schedule said.to) → IsTrue (is_taken report.takes d.name said)) d.said) report.devices
device_acknowledged keep version schedule owned w report g =
    let accounts = accounts_of (steps_of schedule.lines) in
    let within = takes_within keep version owned accounts w report g in
    each_device (λ d. AllByRecursion (λ said. said.state ≡ Acknowledged → IsTrue (is_account schedule said.to) → IsTrue (is_taken report.takes d.name said)) d.said) keep version owned accounts w report g
    (λ i line at.
    let lines = map (take_line version) (map (take_of owned) w.takes) in
    let known = g.taken.devices i at.d at.device in
    let sorted = subst (λ a. AllByRecursion (IsSorted a w.takes i) (at.d.sessions.past ++ at.d.sessions.now ∷ [])) g.exist (sessions_sorted w.accounts w.takes i at.d.sessions known.sessions known.takes.are) in
    let parts = each_of (IsSorted accounts w.takes i) 0 at.d.sessions.past at.d.sessions.now sorted in
    subst (λ said. AllByRecursion (IsKnown schedule line.name report.takes) said) (sym at.is.said)
    (subst (λ name. AllByRecursion (IsKnown schedule name report.takes) (said_of at.d.sessions)) (sym at.is.name)
    (subst (λ takes. AllByRecursion (IsKnown schedule at.o.device takes) (said_of at.d.sessions)) (sym g.takes)
    (said_all (Sorted accounts w.takes i) (IsKnown schedule at.o.device lines)
    (λ e mark s not one is. known_session schedule lines at.o.device mark s not (halves version owned accounts w.takes i at.o g.differ at.owner within e mark s one is))
    at.d.sessions known.sessions parts.0 parts.1))))

pub device_first : (keep : ℕ) (version : Version) (owned : List Owned) (accounts : List (List ℕ)) (w : sessions.AppWorld) (report : ReportView) → Ground keep version owned accounts w report →
    AllByRecursion (λ d. EachPair IsAcknowledgedFirst d.said) report.devices
device_first keep version owned accounts w report g =
    each_device (λ d. EachPair IsAcknowledgedFirst d.said) keep version owned accounts w report g
    (λ i line at. subst (EachPair IsAcknowledgedFirst) (sym at.is.said)
    (said_pairs Nothing IsAcknowledgedFirst
    (record { within = λ e mark s one is. weaker (lines_in mark s) (acknowledged_first s.acked mark (up_put s)); across = λ a b low same. absurd (omega arith) })
    at.d.sessions (g.taken.devices i at.d at.device).sessions (each_nothing 0 at.d.sessions.past) tt))
  where
    weaker : (xs : List SaidLine) → EachPair (λ a b. b.state ≡ Acknowledged → a.state ≡ Acknowledged) xs → EachPair IsAcknowledgedFirst xs
    weaker [] pairs = tt
    weaker (x ∷ xs) pairs =
        (AllByRecursion-weaker (λ b. b.state ≡ Acknowledged → x.state ≡ Acknowledged) (IsAcknowledgedFirst x) (λ b is same state. is state) xs pairs.0, weaker xs pairs.1)

rest_lines : (s : Sessions) (kept : SessionsKept s) → IsAtRest s → AllByRecursion (λ l. (l.state ≢ Waiting) × (l.epoch ≡ epoch_of s → l.state ≡ Acknowledged)) (said_of s)
rest_lines s kept rest =
    all_append (λ l. (l.state ≢ Waiting) × (l.epoch ≡ epoch_of s → l.state ≡ Acknowledged)) (flat_map (lines_in Undecided) s.past) (lines_in (mark_of s.online) s.now)
    (AllByRecursion-weaker (λ l. (l.epoch < 0 + length s.past) × (l.state ≢ Waiting)) (λ l. (l.state ≢ Waiting) × (l.epoch ≡ epoch_of s → l.state ≡ Acknowledged))
    (λ l is. (is.1, λ same. absurd (let low = is.0 in omega arith))) (flat_map (lines_in Undecided) s.past) (past_below 0 s.past kept.past))
    (AllByRecursion-weaker (λ l. l.state ≡ Acknowledged) (λ l. (l.state ≢ Waiting) × (l.epoch ≡ epoch_of s → l.state ≡ Acknowledged))
    (λ l is. (λ waits. let bad : ⊥ = cc in bad, λ same. is)) (lines_in (mark_of s.online) s.now) (all_acknowledged s.now.acked (mark_of s.online) (up_put s.now) rest.acknowledged))

pub device_settled : (keep : ℕ) (version : Version) (owned : List Owned) (accounts : List (List ℕ)) (w : sessions.AppWorld) (report : ReportView) → Ground keep version owned accounts w report →
    AllByRecursion (λ d. IsTrue d.settled → IsSettledRight d) report.devices
device_settled keep version owned accounts w report g =
    each_device (λ d. IsTrue d.settled → IsSettledRight d) keep version owned accounts w report g
    (λ i line at is.
    let rest = at.is.settled is in
    let page = (g.read.devices i at.d at.device).page in
    let lines = rest_lines at.d.sessions (g.taken.devices i at.d at.device).sessions rest in
    record {
      nothing_waits = subst (AllByRecursion (λ said. said.state ≢ Waiting)) (sym at.is.said)
          (AllByRecursion-weaker (λ l. (l.state ≢ Waiting) × (l.epoch ≡ epoch_of at.d.sessions → l.state ≡ Acknowledged)) (λ said. said.state ≢ Waiting) (λ l known. known.0) (said_of at.d.sessions) lines);
      nothing_underway = at.is.underway
          ∙ ap underway_of (settled w.keep (first_of w.keep (last_of w.takes at.d.account)) (last_of w.takes at.d.account) at.d page rest.online rest.row rest.up rest.down);
      present_epoch = subst (AllByRecursion (λ said. said.epoch ≡ line.epoch → said.state ≡ Acknowledged)) (sym at.is.said)
          (AllByRecursion-weaker (λ l. (l.state ≢ Waiting) × (l.epoch ≡ epoch_of at.d.sessions → l.state ≡ Acknowledged)) (λ said. said.epoch ≡ line.epoch → said.state ≡ Acknowledged)
          (λ l known same. known.1 (same ∙ at.is.epoch)) (said_of at.d.sessions) lines);
    })
