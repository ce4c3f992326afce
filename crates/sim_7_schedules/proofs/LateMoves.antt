-- Items that are handed to the server on a connection on which it has no session, one after another.
use Rattle.std.proofs.Common.{◌≡◌, ℕ, zero, suc, ◌+◌, ◌==◌, max, Bool, true, false, List, [], ◌∷◌, ◌++◌, Option, Some, None, drop, map, append-nil, refl, sym, ap, subst, ◌∙◌, ◌⊎◌, inl, inr, not, if◌then◌else◌}
use Rattle.std.proofs.lemmas.Bool.{cases_Bool}
use Rattle.std.specs.List.{AllByRecursion, filter, slice_get}
use Rattle.srv_state.specs.Moments.{at_moment, gone_at}
use Rattle.srv_state.specs.State.{Kept, Step}
use Rattle.sim_3_items.specs.Identities.{Identity}
use Rattle.sim_3_items.specs.Pipes.{by_number}
use Rattle.sim_3_items.specs.WordItems.{up_item}
use Rattle.sim_3_images.specs.Devices.{identity_at}
use Rattle.sim_3_images.specs.ItemRuns.{moved_where, ups}
use Rattle.sim_3_items.specs.ItemMoves.{Up, UpEnd, all_moved, moved, reported_up, served_by, served_first, served_item, takes_reported}
use Rattle.sim_3_items.specs.ItemPipes.{ItemWire, handed_up, is_end_due, up_end_reported}
use Rattle.sim_3_items.specs.ItemWorlds.{ItemWorld, Take}
use Rattle.sim_2_links.specs.Stages.{Conn}
use Rattle.sim_2_links.specs.Words.{Auth, Bind, Enable, Foot, Hdr, Resp, ResumeAt, Up as UpTraffic, UpWord}
use Rattle.sim_4_links_follow.proofs.Changes.{under_position}
use Rattle.sim_4_links_follow.proofs.CutPipes.{conn_of}
use Rattle.sim_3_images.proofs.RuleKept.{seat_is, seat_of}
use Rattle.sim_4_links_follow.proofs.Removed.{seat_left}
use Rattle.sim_4_links_follow.specs.Steps.{ItemGoesUp}
use Rattle.sim_4_links_follow.specs.Taking.{on_item}
use Rattle.sm_live.specs.Sessions.{Session, is_expired, lost, parked, session_at, unexpired, with_session, without}
use Rattle.sim_5_moves.proofs.Goes.{device_of, goes_up}
use Rattle.sim_5_moves.proofs.WordsRunWords.{word_silent}
use Rattle.sim_5_moves.specs.Running.{DeviceSimulates, IsOwned, MoveSimulates, WorldSimulates, names_of}
use Rattle.sim_5_moves.specs.WordsRunWords.{IsSilent}
use Rattle.cmd_schedule.specs.Contents.{Owned}
use Rattle.cmd_schedule.specs.Schedules.{WireView}
use Rattle.cmd_schedule.specs.LineLists.{IsLineList}
use Rattle.sim_1_applications.specs.Devices.{AppWorld}
use Rattle.sim_1_applications.specs.Runs.{owned_of}
use Rattle.sim_7_schedules.proofs.LatePipes.{IsLeft, at_here, emitted_left}
use Rattle.sim_7_schedules.proofs.Moves.{each_runs, small}
use Rattle.sim_7_schedules.proofs.OtherSessions.{NotOf, Spares, all_left, changed_others, is_other, not_of, others, without_others}
use Rattle.sim_7_schedules.proofs.WordsOutside.{IsDone, closes, done_after, items_are, outside}
use Rattle.sim_7_schedules.proofs.WordsSparing.{IsOutside, word_spares}
use Rattle.sim_7_schedules.specs.Simulation.{bounds}
use Rattle.cmd_network.specs.Positions.{changed_at}
use Rattle.xml_writer.specs.Items.{Closing, ItemOut}

silent : (word : UpWord ItemOut) → IsOutside word → IsSilent word
silent Hdr is = tt
silent Auth is = tt
silent Resp is = tt
silent (ResumeAt q n) is = tt
silent Bind is = tt
silent Enable is = absurd is
silent (UpTraffic t) is = absurd is
silent Foot is = tt

-- those that pass pass
pub passes : {A : Type 0} (q : A → Bool) (xs : List A) → AllByRecursion (λ x. q x ≡ true) (filter q xs)
passes q [] = tt
passes q (x ∷ xs) =
    elim (cases_Bool (q x)) [
      | inl here ↦ let both : AllByRecursion (λ y. q y ≡ true) (x ∷ filter q xs) = (here, passes q xs) in rw here both
      | inr other ↦ rw other (passes q xs)
    ]

module _ (schedule : WireView) (right : IsLineList schedule) (d : ℕ) (o : Owned) (owned : IsOwned schedule d o) (position m : ℕ) where
  abbrev who : Identity
  who = identity_at schedule d o

  abbrev pub theirs : List (Session ItemOut) → List (Session ItemOut)
  theirs ss = others who.account who.resource ss

  module _ (archives : List Kept) (left : List (Session ItemOut)) (takes : List Take) where
    -- what is kept, and what is under way
    pub record IsLate (w : ItemWorld) : Type 0 where
      pub wire : ItemWire
      pub there : slice_get w.wires position ≡ Some wire
      pub of : wire.device ≡ d
      pub archived : w.server.archives ≡ archives
      pub spared : theirs w.server.sessions ≡ left
      pub taken : w.takes ≡ takes
      pub moment : w.moment ≡ m
      pub free : (session_at (position + 1) w.server.sessions ≡ None) ⊎ IsDone wire.up.items

    -- ---- an item

    module _ (says : ℕ) (w : ItemWorld) (x : AppWorld) (runs : WorldSimulates schedule bounds says w x) (late : IsLate w) where
      abbrev old : DeviceSimulates schedule w x d o
      old = runs.simulation.devices d o owned

      module _ (i : ItemOut) (items : List ItemOut) (pipe : late.wire.up.items ≡ i ∷ items) where
        g : ItemGoesUp who old.logins w old.view position late.wire i
        g = goes_up schedule bounds small says w x runs position late.wire i items late.there pipe d o old late.of

        abbrev step : Step ItemOut
        step = on_item (position + 1) i w.server

        abbrev after : ItemWorld
        after = served_item position i w

        is_after : moved (Up position) w ≡ after
        is_after = ap (λ e. served_by position e w) late.there ∙ ap (λ l. served_first position l w) pipe

        abbrev Fits : Type 0
        Fits = IsOutside g.has.word × IsDone items

        abbrev after_it : List ItemOut
        after_it = map (up_item who (old.logins (position + 1))) g.has.first.rest

        its_items : late.wire.up.items ≡ up_item who (old.logins (position + 1)) g.has.word ∷ after_it
        its_items = ap (λ (u : ItemWire). u.up.items) (sym g.has.same) ∙ items_are who old.logins w.server (by_number w.wires) old.view (position + 1) g.has.word g.has.first

        items_after : after_it ≡ items
        items_after = let same = sym its_items ∙ pipe in cc

        fits_by : (session_at (position + 1) w.server.sessions ≡ None) ⊎ IsDone late.wire.up.items → Fits
        fits_by (inl none) =
            let out = outside who old.logins w.server (by_number w.wires) old.view (position + 1) g.has.word g.has.first none in
            (out.0, subst IsDone items_after (done_after who (old.logins (position + 1)) g.has.first.rest out.1))
        fits_by (inr (inl none)) = absurd (let no_way : ⊥ = cc in no_way)
        fits_by (inr (inr foot)) =
            let same = sym pipe ∙ foot in
            let first : i ≡ Closing = cc in
            let none : items ≡ [] = cc in
            (closes who old.logins w.server (by_number w.wires) old.view (position + 1) g.has.word g.has.first (g.has.is ∙ first), inl none)

        fits : Fits
        fits = fits_by late.free

        spares : Spares who.account who.resource w.server step
        spares =
            subst (λ y. Spares who.account who.resource w.server (on_item (position + 1) y w.server)) g.has.is
            (word_spares who old.logins w.server (by_number w.wires) old.view (position + 1) g.has.word fits.0 g.has.first)

        nothing_told : takes_reported w.moment step.outs ≡ []
        nothing_told =
            subst (λ y. takes_reported w.moment (on_item (position + 1) y w.server).outs ≡ []) g.has.is
            (word_silent who old.logins w.server (by_number w.wires) old.view (position + 1) (owned_of schedule) (names_of schedule) o (device_of schedule right d o owned) w.moment g.has.word (silent g.has.word fits.0) g.has.first)

        goes_left : IsLeft (handed_up late.wire) after.wires position
        goes_left = emitted_left step.outs position (changed_at position handed_up w.wires) (handed_up late.wire) (at_here handed_up position w.wires late.wire late.there)

        done : IsDone goes_left.wire.up.items
        done = go goes_left.up
          where
            go : (goes_left.wire.up.items ≡ drop 1 late.wire.up.items) ⊎ (goes_left.wire.up.items ≡ []) → IsDone goes_left.wire.up.items
            go (inl same) = subst IsDone (sym (same ∙ ap (drop 1) pipe)) fits.1
            go (inr none) = inl none

        item_late : IsLate (moved (Up position) w)
        item_late = subst IsLate (sym is_after) (record {
          wire = goes_left.wire;
          there = goes_left.there;
          of = goes_left.device ∙ late.of;
          archived = spares.archives ∙ late.archived;
          spared = spares.others ∙ late.spared;
          taken = ap (λ l. w.takes ++ l) nothing_told ∙ append-nil w.takes ∙ late.taken;
          moment = late.moment;
          free = inr done;
        })

      by_items : (items : List ItemOut) → late.wire.up.items ≡ items → IsLate (moved (Up position) w)
      by_items [] none = subst IsLate (sym (ap (λ e. served_by position e w) late.there ∙ ap (λ l. served_first position l w) none)) late
      by_items (i ∷ items) pipe = item_late i items pipe

      abbrev up_late : IsLate (moved (Up position) w)
      up_late = by_items late.wire.up.items refl

    -- ---- items

    pub record Goes (w : ItemWorld) : Type 0 where
      pub says : ℕ
      pub beside : AppWorld
      pub runs : WorldSimulates schedule bounds says w beside
      pub late : IsLate w

    pub ups_late : (n : ℕ) (w : ItemWorld) → Goes w → Goes (all_moved (ups position n) w)
    ups_late zero w goes = goes
    ups_late (suc n) w goes =
        let move : MoveSimulates schedule bounds goes.says (Up position) w goes.beside goes.runs = each_runs schedule right (Up position) goes.says w goes.beside tt goes.runs tt in
        ups_late n (moved (Up position) w) (record { says = _; beside = move.next; runs = move.runs; late = up_late goes.says w goes.beside goes.runs goes.late })

    -- ---- what the server has as time passes

    abbrev pub on_time : Session ItemOut → Bool
    on_time t = not (is_expired (max m m) t)

    -- ---- the end

    module _ (w : ItemWorld) (goes : Goes w) where
      abbrev at_end : DeviceSimulates schedule w goes.beside d o
      at_end = goes.runs.simulation.devices d o owned

      abbrev later : List (Session ItemOut)
      later = unexpired (max w.server.moment w.moment) w.server.sessions

      its_conn : (c : Conn ItemOut) × (at_end.view.conns (position + 1) ≡ Some c)
      its_conn = conn_of who at_end.logins (by_number w.wires) at_end.view (position + 1) goes.late.wire at_end.represents.pipes (under_position position w.wires ∙ goes.late.there) goes.late.of

      seated : (s : Session ItemOut) → session_at (position + 1) later ≡ Some s → NotOf who.account who.resource s.shown.number later
      seated s at =
          let rule = at_end.represents.server.server_state.sessions in
          let was = seat_left (λ t. not (is_expired (max w.server.moment w.moment) t)) (position + 1) w.server.next w.server.sessions s rule at in
          let seat = seat_of w.server.next (position + 1) w.server.sessions s rule was.0 (seat_is s.shown.conn (position + 1) was.1) in
          all_left (is_other who.account who.resource) (λ t. (t.shown.number == s.shown.number) ≡ false) (λ t. not (is_expired (max w.server.moment w.moment) t)) w.server.sessions
          (not_of who.account who.resource w.server rule s was.0 (at_end.represents.server.seated (position + 1) its_conn.0 s its_conn.1 seat))

      lost_theirs : (now : ℕ) (found : Option (Session ItemOut)) → session_at (position + 1) later ≡ found → theirs (lost now found later) ≡ theirs later
      lost_theirs now None is = refl
      lost_theirs now (Some s) is = either s.shown.resumable
        where
          either : (b : Bool) → theirs (if b then with_session s.shown.number (parked now) later else without s.shown.number later) ≡ theirs later
          either true = changed_others who.account who.resource s.shown.number (parked now) (λ t. refl) later (seated s is)
          either false = without_others who.account who.resource s.shown.number later (seated s is)

      moments : max w.server.moment w.moment ≡ max m m
      moments = ap (λ n. max n w.moment) (goes.runs.simulation.now ∙ goes.late.moment) ∙ ap (λ n. max m n) goes.late.moment

      -- with those that are on time
      pub record IsOver (next : ItemWorld) : Type 0 where
        pub archived : next.server.archives ≡ archives
        pub spared : (theirs next.server.sessions ≡ left) ⊎ (theirs next.server.sessions ≡ theirs (filter on_time w.server.sessions))
        pub taken : next.takes ≡ takes

      over_so : IsOver w
      over_so = record { archived = goes.late.archived; spared = inl goes.late.spared; taken = goes.late.taken }

      told_so : (b : Bool) → IsOver (if b then record w { server = gone_at (position + 1) (at_moment w.moment w.server); wires = changed_at position up_end_reported w.wires } else w)
      told_so false = over_so
      told_so true = record {
        archived = goes.late.archived;
        spared = inr (lost_theirs (max w.server.moment w.moment) (session_at (position + 1) later) refl ∙ ap (λ n. theirs (unexpired n w.server.sessions)) moments);
        taken = goes.late.taken;
      }

      pub end_over : IsOver (moved (UpEnd position) w)
      end_over = subst IsOver (sym (ap (λ e. reported_up position e w) goes.late.there)) (told_so (is_end_due goes.late.wire.up))

      pub over_where : (ended : Bool) → IsOver (all_moved (moved_where (UpEnd position) ended) w)
      over_where true = end_over
      over_where false = over_so
