-- What each world of a schedule keeps: its take lines are those of the messages that its server took, and the archives have
-- got the entries of these.
use Rattle.std.proofs.Common.{◌≡◌, ◌≤◌, ℕ, max, List, [], ◌∷◌, ◌++◌, append-nil, append_assoc, map, refl, sym, ap, ap₂, ◌∙◌, arith}
use Rattle.std.proofs.lemmas.List.{map-append}
use Rattle.std.specs.List.{AllByRecursion}
use Rattle.std.specs.Option.{option_map}
use Rattle.base_lemmas.proofs.Lists.{AllByRecursion-weaker}
use Rattle.srv_state.specs.Moments.{at_moment, gone_at, with_fresh}
use Rattle.srv_state.specs.State.{Out, Put, ServerState, Shut, Step, Took, archive_at}
use Rattle.cmd_report.specs.Lawful.{EachPair}
use Rattle.cmd_report.specs.declared.report.TakeLine.{TakeLine}
use Rattle.cmd_schedule.specs.declared.schedule.Version.{Version}
use Rattle.srv_core.specs.Events.{begun}
use Rattle.law_server.proofs.ArchiveEntries.{gets_both}
use Rattle.law_server.proofs.PieceTakes.{all_both, from_before, to_before}
use Rattle.law_server.proofs.SoundEvents.{sound_at_moment, sound_fresh, sound_gone}
use Rattle.law_server.specs.Sound.{IsSound}
use Rattle.law_server.specs.Taken.{HasTaken, IsFromSender, IsTo, Taken, all_appended, entries_for, takes_reported, told}
use Rattle.cmd_network.specs.Takes.{take_reported}
use Rattle.cmd_world.specs.Effects.{Effects, all_emitted, emitted}
use Rattle.cmd_world.specs.Worlds.{ByteWorld}

-- ---- lines

-- the lines that outputs make
abbrev pub lines_told : Version → ℕ → List (Out (List ℕ)) → List TakeLine
lines_told version moment [] = []
lines_told version moment (Put k bytes ∷ outs) = lines_told version moment outs
lines_told version moment (Shut k ∷ outs) = lines_told version moment outs
lines_told version moment (Took from to origin ∷ outs) = take_reported version moment from to origin ∷ lines_told version moment outs

pub emitted_lines : (version : Version) (moment : ℕ) (outs : List (Out (List ℕ))) (e : Effects) → (all_emitted version moment outs e).takes ≡ e.takes ++ lines_told version moment outs
emitted_lines version moment [] e = sym (append-nil e.takes)
emitted_lines version moment (Put k bytes ∷ outs) e = emitted_lines version moment outs (emitted version moment (Put k bytes) e)
emitted_lines version moment (Shut k ∷ outs) e = emitted_lines version moment outs (emitted version moment (Shut k) e)
emitted_lines version moment (Took from to origin ∷ outs) e =
    emitted_lines version moment outs (emitted version moment (Took from to origin) e)
    ∙ append_assoc e.takes (take_reported version moment from to origin ∷ []) (lines_told version moment outs)

told_alone : (version : Version) (moment : ℕ) (outs : List (Out (List ℕ))) → lines_told version moment outs ≡ lines_told version moment (takes_reported outs)
told_alone version moment [] = refl
told_alone version moment (Put k bytes ∷ outs) = told_alone version moment outs
told_alone version moment (Shut k ∷ outs) = told_alone version moment outs
told_alone version moment (Took from to origin ∷ outs) = ap (λ lines. take_reported version moment from to origin ∷ lines) (told_alone version moment outs)

-- the line of a message
abbrev pub line_at : Version → Taken → TakeLine
line_at version t = take_reported version t.entry.stamp t.entry.from t.entry.to t.entry.origin

lines_at : (version : Version) (moment : ℕ) (takes : List Taken) → AllByRecursion (λ (t : Taken). t.entry.stamp ≡ moment) takes → lines_told version moment (map told takes) ≡ map (line_at version) takes
lines_at version moment [] stamps = refl
lines_at version moment (t ∷ takes) stamps =
    ap₂ (λ (m : ℕ) (lines : List TakeLine). take_reported version m t.entry.from t.entry.to t.entry.origin ∷ lines) (sym stamps.0) (lines_at version moment takes stamps.1)

-- ---- what is kept

-- The version and the names are those of the schedule, and the server is what the first one became.
pub record Booked (start : Version) (names : List (List ℕ)) (first : ServerState (List ℕ)) (version : Version) (accounts : List (List ℕ)) (moment : ℕ) (server_state : ServerState (List ℕ)) (lines : List TakeLine) : Type 0 where
  pub takes : List Taken
  pub lines_are : lines ≡ map (line_at version) takes
  pub archives : (position : ℕ) → archive_at position server_state ≡ option_map (all_appended (entries_for position takes)) (archive_at position first)
  pub addressees : AllByRecursion (IsTo first) takes
  pub senders : AllByRecursion (IsFromSender first) takes
  pub sound : IsSound server_state
  pub past : AllByRecursion (λ (t : Taken). t.entry.stamp ≤ moment) takes
  pub order : EachPair (λ (t u : Taken). t.entry.stamp ≤ u.entry.stamp) takes
  pub domain : server_state.domain ≡ first.domain
  pub accounts_are : server_state.accounts ≡ first.accounts
  pub early : server_state.moment ≤ moment
  pub version_is : version ≡ start
  pub names_are : accounts ≡ names

abbrev pub IsBooked : Version → List (List ℕ) → ServerState (List ℕ) → ByteWorld → Type 0
IsBooked start names first w = Booked start names first w.version w.accounts w.moment w.server.server_state w.takes

later_is : (a b : ℕ) → a ≤ b → max a b ≡ b
later_is a b le = omega (arith, le)

-- the clock moves on
pub booked_later : (start : Version) (names : List (List ℕ)) (first : ServerState (List ℕ)) (version : Version) (accounts : List (List ℕ)) (moment now : ℕ) (server_state : ServerState (List ℕ)) (lines : List TakeLine)
    → moment ≤ now → Booked start names first version accounts moment server_state lines → Booked start names first version accounts now (at_moment now server_state) lines
booked_later start names first version accounts moment now server_state lines later is = record {
  takes = is.takes;
  lines_are = is.lines_are;
  archives = is.archives;
  addressees = is.addressees;
  senders = is.senders;
  sound = sound_at_moment now server_state is.sound;
  past = AllByRecursion-weaker (λ (t : Taken). t.entry.stamp ≤ moment) (λ (t : Taken). t.entry.stamp ≤ now) (λ t early. omega (arith, early, later)) is.takes is.past;
  order = is.order;
  domain = is.domain;
  accounts_are = is.accounts_are;
  early = (let same = later_is server_state.moment now (omega (arith, later, is.early)) in omega (arith, same));
  version_is = is.version_is;
  names_are = is.names_are;
}

-- a connection comes
pub booked_fresh : (start : Version) (names : List (List ℕ)) (first : ServerState (List ℕ)) (version : Version) (accounts : List (List ℕ)) (moment k : ℕ) (entropy : List ℕ) (server_state : ServerState (List ℕ)) (lines : List TakeLine)
    → Booked start names first version accounts moment server_state lines → Booked start names first version accounts moment (with_fresh k entropy server_state) lines
booked_fresh start names first version accounts moment k entropy server_state lines is = record {
  takes = is.takes;
  lines_are = is.lines_are;
  archives = is.archives;
  addressees = is.addressees;
  senders = is.senders;
  sound = sound_fresh k entropy server_state is.sound;
  past = is.past;
  order = is.order;
  domain = is.domain;
  accounts_are = is.accounts_are;
  early = is.early;
  version_is = is.version_is;
  names_are = is.names_are;
}

-- and goes
pub booked_gone : (start : Version) (names : List (List ℕ)) (first : ServerState (List ℕ)) (version : Version) (accounts : List (List ℕ)) (moment k : ℕ) (server_state : ServerState (List ℕ)) (lines : List TakeLine)
    → Booked start names first version accounts moment server_state lines → Booked start names first version accounts moment (gone_at k server_state) lines
booked_gone start names first version accounts moment k server_state lines is = record {
  takes = is.takes;
  lines_are = is.lines_are;
  archives = is.archives;
  addressees = is.addressees;
  senders = is.senders;
  sound = sound_gone k server_state is.sound;
  past = is.past;
  order = is.order;
  domain = is.domain;
  accounts_are = is.accounts_are;
  early = is.early;
  version_is = is.version_is;
  names_are = is.names_are;
}

-- messages that were taken at this moment, behind others
no_later_than : (moment : ℕ) (t : Taken) (us : List Taken) → t.entry.stamp ≤ moment → AllByRecursion (λ (u : Taken). u.entry.stamp ≡ moment) us → AllByRecursion (λ (u : Taken). t.entry.stamp ≤ u.entry.stamp) us
no_later_than moment t us early stamps =
    AllByRecursion-weaker (λ (u : Taken). u.entry.stamp ≡ moment) (λ (u : Taken). t.entry.stamp ≤ u.entry.stamp) (λ u stamp. omega (arith, early, stamp)) us stamps

in_order : (moment : ℕ) (ts us : List Taken) → AllByRecursion (λ (t : Taken). t.entry.stamp ≤ moment) ts → EachPair (λ (t u : Taken). t.entry.stamp ≤ u.entry.stamp) ts → AllByRecursion (λ (t : Taken). t.entry.stamp ≡ moment) us
    → EachPair (λ (t u : Taken). t.entry.stamp ≤ u.entry.stamp) (ts ++ us)
in_order moment [] [] past order stamps = tt
in_order moment [] (u ∷ us) past order stamps = (let now = stamps.0 in no_later_than moment u us (omega (arith, now)) stamps.1, in_order moment [] us tt tt stamps.1)
in_order moment (t ∷ ts) us past order stamps =
    (all_both (λ (u : Taken). t.entry.stamp ≤ u.entry.stamp) ts us order.0 (no_later_than moment t us past.0 stamps), in_order moment ts us past.1 order.1 stamps)

-- it brings bytes
pub booked_more : (start : Version) (names : List (List ℕ)) (first : ServerState (List ℕ)) (version : Version) (accounts : List (List ℕ)) (moment : ℕ) (server_state : ServerState (List ℕ)) (lines : List TakeLine) (done : Step (List ℕ)) (more : List Taken)
    → Booked start names first version accounts moment server_state lines → HasTaken more (begun moment server_state []) done → Booked start names first version accounts moment done.server_state (lines ++ lines_told version moment done.outs)
booked_more start names first version accounts moment server_state lines done more is has =
    let now = at_moment moment server_state in
    let same : max server_state.moment moment ≡ moment = later_is server_state.moment moment is.early in
    let stamps : AllByRecursion (λ (t : Taken). t.entry.stamp ≡ moment) more =
    AllByRecursion-weaker (λ (t : Taken). t.entry.stamp ≡ now.moment) (λ (t : Taken). t.entry.stamp ≡ moment) (λ t stamp. stamp ∙ same) more has.stamps in
    let new_lines : lines_told version moment done.outs ≡ map (line_at version) more =
    told_alone version moment done.outs ∙ ap (lines_told version moment) has.tells ∙ lines_at version moment more stamps in
    record {
      takes = is.takes ++ more;
      lines_are = ap₂ (λ (x y : List TakeLine). x ++ y) is.lines_are new_lines ∙ sym (map-append (line_at version) is.takes more);
      archives = λ position. has.archives position ∙ ap (option_map (all_appended (entries_for position more))) (is.archives position) ∙ gets_both position is.takes more (archive_at position first);
      addressees = all_both (IsTo first) is.takes more is.addressees (AllByRecursion-weaker (IsTo now) (IsTo first) (to_before now first is.domain is.accounts_are) more has.addressees);
      senders = all_both (IsFromSender first) is.takes more is.senders
          (AllByRecursion-weaker (IsFromSender now) (IsFromSender first) (from_before now first is.domain is.accounts_are) more (has.senders (sound_at_moment moment server_state is.sound)));
      sound = has.sound (sound_at_moment moment server_state is.sound);
      past = all_both (λ (t : Taken). t.entry.stamp ≤ moment) is.takes more is.past (AllByRecursion-weaker (λ (t : Taken). t.entry.stamp ≡ moment) (λ (t : Taken). t.entry.stamp ≤ moment) (λ t stamp. omega (arith, stamp)) more stamps);
      order = in_order moment is.takes more is.past is.order stamps;
      domain = has.domain ∙ is.domain;
      accounts_are = has.accounts ∙ is.accounts_are;
      early = (let all = has.moment in omega (arith, all, same));
      version_is = is.version_is;
      names_are = is.names_are;
    }
