-- A stanza by which no message is taken, amid drifts, is an event of the world of the applications.
use Rattle.std.proofs.Common.{◌≡◌, ◌≢◌, ℕ, zero, suc, ◌<◌, ◌==◌, Bool, true, false, List, [], ◌∷◌, ◌++◌, Some, length, take, refl, sym, ap, ap₂, subst, ◌∙◌, arith, inl, inr, if◌then◌else◌}
use Rattle.std.proofs.Math.Seq.{take-append_seam}
use Rattle.std.proofs.lemmas.Bool.{cases_Bool, eq-eqb, eqb-true, false≢true, lt-ltb, ltb-true}
use Rattle.std.proofs.lemmas.List.{length-append, take_all}
use Rattle.std.proofs.lemmas.Option.{same_Some}
use Rattle.std.specs.List.{slice_get, slice_set}
use Rattle.std.specs.Prelude.{nat_lt}
use Rattle.sim_2_events.specs.Lists.{IsCounting}
use Rattle.sim_5_devices.proofs.AllSessionSteps.{all_session_step, reaches_both, session_steps_silent, spoken_both}
use Rattle.sim_5_devices.proofs.Sorted.{enable_at, enable_may, with_sessions}
use Rattle.sim_5_devices.proofs.Worlds.{acted_alone, session_steps_reach, set_here}
use Rattle.sim_5_devices.specs.Labels.{AllStep, Binds, Counts, Ends, HasSessionSteps, IsTakenAtOnce, SessionStep, SessionSteps, session_step_events, session_stepped, with_device}
use Rattle.sim_4_links_follow.proofs.Numbered.{set_elsewhere}
use Rattle.sim_1_applications.specs.Devices.{AppWorld, Device, Sessions, epoch_of}
use Rattle.sim_1_applications.specs.Devices.Row.{NoRow, Present}
use Rattle.sim_1_applications.specs.Devices.Stage.{Named}
use Rattle.sim_1_applications.specs.Events.{Act, At, Reaches, around, end_row, flagged, give, made_served, moved_up, own, put_down, reading_served, reply, served, taken_by, taking, ServerHandles}
use Rattle.sim_1_applications.specs.Stanzas.{Down, Up}
use Rattle.sim_1_applications.specs.Stanzas.Up.{Carbons, Message, Presence, Query}
use Rattle.sim_5_moves.specs.Handled.{AreHandled, IsRepliedTo, served_as}

-- ---- drifts

-- of a session whose flags are altered
session_steps_flagged : (z : Up) (xs : List SessionStep) (d last : Sessions) → SessionSteps xs d last → SessionSteps xs (flagged z d) (flagged z last)
session_steps_flagged z [] d last same = ap (flagged z) same
session_steps_flagged z (Binds ∷ xs) d last by = ((λ w same. tt), session_steps_flagged z xs (session_stepped Binds d) last by.1)
session_steps_flagged z (Counts ∷ xs) d last by = (enable_may (flagged z d) (enable_at d by.0), session_steps_flagged z xs (session_stepped Counts d) last by.1)
session_steps_flagged z (Ends ∷ xs) d last by = ((λ w same. tt), session_steps_flagged z xs (session_stepped Ends d) last by.1)

-- of one that ended before
pub session_steps_ended : (xs : List SessionStep) (d last : Sessions) → d.row ≡ Present → d.now.stage ≢ Named → last.row ≡ NoRow → SessionSteps xs d last → SessionSteps xs (end_row d) last
session_steps_ended [] d last here counted none same = absurd (let row : NoRow ≡ Present = sym none ∙ ap (λ (s : Sessions). s.row) same ∙ here in let no_way : ⊥ = cc in no_way)
session_steps_ended (Binds ∷ xs) d last here counted none by = ((λ w same. tt), by.1)
session_steps_ended (Counts ∷ xs) d last here counted none by = absurd (counted (enable_at d by.0).1)
session_steps_ended (Ends ∷ xs) d last here counted none by = ((λ w same. tt), by.1)

epoch_stays : (xs : List SessionStep) (d last : Sessions) → SessionSteps xs d last → epoch_of last ≡ epoch_of d
epoch_stays [] d last same = ap epoch_of same
epoch_stays (Binds ∷ xs) d last by = epoch_stays xs (session_stepped Binds d) last by.1
epoch_stays (Counts ∷ xs) d last by = epoch_stays xs (session_stepped Counts d) last by.1
epoch_stays (Ends ∷ xs) d last by = epoch_stays xs (session_stepped Ends d) last by.1

-- ---- lists

pub set_long : {T : Type 0} (l : List T) (i : ℕ) (x : T) → length (slice_set l i x) ≡ length l
set_long [] i x = refl
set_long (y ∷ l) zero x = refl
set_long (y ∷ l) (suc i) x = ap suc (set_long l i x)

-- ---- what is given

row_where : (b : Bool) (s : Sessions) → Sessions
row_where b s = record s { row = if b then NoRow else s.row }

give_all : (zs : List Down) (s : Sessions) → give (length zs) zs s ≡ put_down zs s
give_all zs s =
    let whole : take (length zs) zs ≡ zs = take_all (length zs) zs (omega arith) in
    (λ k. let t : Sessions = record (put_down (whole k) s) { row = if nat_lt (length zs) (length zs) then NoRow else s.row } in t)
    ∙ ap (λ b. let t : Sessions = record (put_down zs s) { row = if b then NoRow else s.row } in t) (never (length zs))
  where
    never : (n : ℕ) → nat_lt n n ≡ false
    never n = elim (cases_Bool (nat_lt n n)) [ inl is ↦ absurd (let less : n < n = ltb-true n n is in omega (arith, less)) | inr is ↦ is ]

give_some : (given : List Down) (missing : Down) (more : List Down) (s : Sessions) → give (length given) (given ++ missing ∷ more) s ≡ end_row (put_down given s)
give_some given missing more s =
    let long = length-append given (missing ∷ more) in
    let few : nat_lt (length given) (length (given ++ missing ∷ more)) ≡ true = lt-ltb (length given) (length (given ++ missing ∷ more)) (omega (arith, long)) in
    λ k. let t : Sessions = record (put_down (take-append_seam given (missing ∷ more) k) s) { row = if few k then NoRow else s.row } in t

taking_first : (accounts : List (List ℕ)) (moment i : ℕ) (account : List ℕ) (z : Up) (rest : List Up) → taking accounts moment i account (z ∷ rest) ≡ taking accounts moment i account (z ∷ [])
taking_first accounts moment i account Carbons rest = refl
taking_first accounts moment i account Presence rest = refl
taking_first accounts moment i account (Message m) rest = refl
taking_first accounts moment i account (Query r) rest = refl

module _ (Is : ℕ → Device → Sessions → Type 0) (x : AppWorld) (i : ℕ) (d : Device) (z : Up) (last : Sessions) (there : slice_get x.devices i ≡ Some d) (none : taking x.accounts x.clock i d.account (z ∷ []) ≡ []) (is : IsRepliedTo (reply (around x d) z) z d.sessions last)
    (others : (j : ℕ) (e : Device) → slice_get x.devices j ≡ Some e → j ≢ i → (o : HasSessionSteps e) × Is j e o.last) where
  abbrev once : IsTakenAtOnce z is.given d.sessions last
  once = is.once

  abbrev rest : List Up
  rest = once.taken.rest

  abbrev zs : List Down
  zs = reply (around x d) z

  record IsBefore (j : ℕ) (e : Device) (l : Sessions) : Type 0 where
    own : j ≡ i → l ≡ once.there
    other : j ≢ i → Is j e l

  each_before : (j : ℕ) (e : Device) → slice_get x.devices j ≡ Some e → (o : HasSessionSteps e) × IsBefore j e o.last
  each_before j e at = elim (cases_Bool (j == i)) [
    | inl here ↦
        let position : j ≡ i = eqb-true j i here in
        let device : d ≡ e = same_Some d e (sym there ∙ ap (slice_get x.devices) (sym position) ∙ at) in
        subst (λ (y : Device). (o : HasSessionSteps y) × IsBefore j y o.last) device
        (record { session_steps = once.before; last = once.there; leads = once.session_steps }, record { own = λ same. refl; other = λ apart. absurd (apart position) })
    | inr differs ↦
        let apart : j ≢ i = λ same. false≢true (sym differs ∙ eq-eqb j i same) in
        let o = others j e at apart in
        (o.0, record { own = λ same. absurd (apart same); other = λ other. o.1 })
  ]

  before : AllStep IsBefore x
  before = all_session_step IsBefore x each_before

  abbrev mid_world : AppWorld
  mid_world = record x { devices = before.devices }

  abbrev own_before : Device
  own_before = record d { sessions = once.there }

  own_there : slice_get before.devices i ≡ Some own_before
  own_there = (let it = before.each i d there in it.2 ∙ ap (λ l. Some (record d { sessions = l })) (it.1.own refl))

  -- ---- the event

  abbrev act : Act
  act = ServerHandles (length is.given) []

  nothing_taken : taken_by x.accounts x.clock i own_before act ≡ []
  nothing_taken = ap (taking x.accounts x.clock i d.account) once.taken.first ∙ taking_first x.accounts x.clock i d.account z rest ∙ none

  -- the device behind it, with these sessions
  abbrev own_with : Sessions → Device
  own_with l = record d { sessions = l; reading = reading_served (around x d) z d.reading; made = made_served (around x d) (epoch_of d.sessions) z d.made }

  abbrev handled : Sessions
  handled = give (length is.given) zs (flagged z (moved_up z rest once.there))

  own_handled : own (around mid_world own_before) act own_before ≡ own_with handled
  own_handled =
      ap (λ l. served (around x d) (length is.given) l own_before) once.taken.first
      ∙ ap (λ n. let y : Device = record d { sessions = handled; reading = reading_served (around x d) z d.reading; made = made_served (around x d) n z d.made } in y) (epoch_stays once.before d.sessions once.there once.session_steps)

  abbrev next_world : AppWorld
  next_world = with_device i (own_with handled) mid_world

  event_leads : Reaches (At i act ∷ []) mid_world next_world
  event_leads = (
    next_world,
    (
      own_before,
      own_there,
      once.taken.may (length is.given) [] own_before refl,
      sym (acted_alone mid_world i act own_before own_there nothing_taken ∙ ap (λ y. with_device i y mid_world) own_handled),
    ),
    refl,
  )

  -- ---- behind it

  counts : IsCounting once.next
  counts = (let may = once.taken.may 0 [] (with_sessions once.there) refl in subst IsCounting (sym once.taken.is) (may.0, may.1))

  rests : SessionSteps once.following handled (flagged z last)
  rests =
      let next_is : once.next ≡ moved_up z rest once.there = once.taken.is in
      let flags : SessionSteps once.following (flagged z (put_down is.given once.next)) (flagged z last) = session_steps_flagged z once.following (put_down is.given once.next) last once.rests in
      let moved : flagged z (put_down is.given once.next) ≡ put_down is.given (flagged z (moved_up z rest once.there)) = ap (λ s. put_down is.given (flagged z s)) next_is in
      let along = subst (λ s. SessionSteps once.following s (flagged z last)) moved flags in
      elim is.whole [
        | inl whole ↦
            subst (λ s. SessionSteps once.following s (flagged z last))
            (ap (λ l. put_down l (flagged z (moved_up z rest once.there))) whole ∙ sym (give_all zs (flagged z (moved_up z rest once.there))) ∙ ap (λ l. give (length l) zs (flagged z (moved_up z rest once.there))) (sym whole)) along
        | inr short ↦
            subst (λ s. SessionSteps once.following s (flagged z last))
            (sym (ap (λ l. give (length is.given) l (flagged z (moved_up z rest once.there))) short.2 ∙ give_some is.given short.0 short.1 (flagged z (moved_up z rest once.there))))
            (session_steps_ended once.following (put_down is.given (flagged z (moved_up z rest once.there))) (flagged z last) (ap (λ (s : Sessions). s.row) (sym next_is) ∙ counts.0)
            (subst (λ (s : Sessions). s.now.stage ≢ Named) next_is counts.1) short.3 along)
      ]

  abbrev final : AppWorld
  final = with_device i (own_with (flagged z last)) next_world

  next_here : slice_get next_world.devices i ≡ Some (own_with handled)
  next_here = set_here before.devices i own_before (own_with handled) own_there

  rests_lead : Reaches (session_step_events i once.following) next_world final
  rests_lead = session_steps_reach once.following next_world i (own_with handled) (flagged z last) next_here rests

  pub reply_handled : AreHandled Is x i (served_as (around x d) z last d) x.takes
  reply_handled =
      let following = session_step_events i once.following in
      record {
        events = before.events ++ ((At i act ∷ []) ++ following);
        devices = final.devices;
        reaches = reaches_both before.events ((At i act ∷ []) ++ following) x mid_world final before.reaches (reaches_both (At i act ∷ []) following mid_world next_world final event_leads rests_lead);
        silent = spoken_both before.events ((At i act ∷ []) ++ following) ∙ ap₂ (λ a b. a ++ b) before.silent (session_steps_silent i once.following);
        here = set_here next_world.devices i (own_with handled) (own_with (flagged z last)) next_here;
        each = λ j e at apart.
            let it = before.each j e at in (
              it.0,
              it.1.other apart,
              set_elsewhere next_world.devices i j (own_with (flagged z last)) apart ∙ set_elsewhere before.devices i j (own_with handled) apart ∙ it.2,
            );
        many = set_long next_world.devices i (own_with (flagged z last)) ∙ set_long before.devices i (own_with handled) ∙ before.many;
      }
