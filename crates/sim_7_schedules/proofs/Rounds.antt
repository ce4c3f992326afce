-- In a pass, and in each round of a run, a device asks for one page at most.
use Rattle.std.proofs.Common.{◌≡◌, ◌⊎◌, ℕ, zero, suc, ◌+◌, ◌≤◌, Bool, true, false, List, [], ◌++◌, Some, length, refl, sym, ap, ◌∙◌, subst, arith, inl, inr}
use Rattle.std.proofs.lemmas.Bool.{cases_eq}
use Rattle.std.proofs.lemmas.List.Concat.{flat_map-append}
use Rattle.std.proofs.lemmas.Option.{same_Some}
use Rattle.std.specs.List.{slice_get}
use Rattle.sim_5_devices.proofs.AllSessionSteps.{reaches_both}
use Rattle.sim_3_images.specs.ItemRuns.{AreServedUps, downs, moved_where, ups}
use Rattle.sim_3_images.specs.Fitting.{MayItem}
use Rattle.sim_3_images.specs.Notes.{item_notes}
use Rattle.sim_3_items.specs.Labels.{labels_of}
use Rattle.sim_3_items.specs.ItemMoves.{ItemMove, Down, DownEnd, Tick, Up, UpEnd, all_moved, moved}
use Rattle.sim_3_items.specs.ItemPipes.{ItemWire}
use Rattle.sim_3_items.specs.ItemWorlds.{ItemWorld}
use Rattle.cmd_schedule.specs.Schedules.{WireView}
use Rattle.sim_1_applications.specs.Counts.{IsUnanswered}
use Rattle.sim_1_applications.proofs.Said.{was_there}
use Rattle.sim_1_applications.specs.Devices.{AppWorld, Device}
use Rattle.sim_1_applications.specs.Events.{AppEvent, Reaches}
use Rattle.sim_1_applications.specs.Histories.{Spoken, spoken_by, spoken_in}
use Rattle.sim_5_moves.specs.Running.{IsAskedBy, IsAskedOnce, IsInBounds, MoveSimulates, spoken_by_move}
use Rattle.sim_7_schedules.proofs.Leading.{Telling, WorldFrom, are_told, leads_both, retold, then_told, told_along, told_by, told_joined, untold}
use Rattle.sim_7_schedules.specs.Simulation.{EachMoveSimulates, Views, bounds, views_of}
use Rattle.sim_7_schedules.proofs.Positions.{MakesNone, here_at, here_of, up_makes, up_end_makes, tick_makes, down_makes, down_end_makes}
use Rattle.law_payloads.specs.AsRead.{last_moment}
use Rattle.sim_7_schedules.proofs.Wires.{down_moment}
use Rattle.sim_7_schedules.proofs.Positions as positions
use Rattle.sim_3_images.proofs.UpMoves.{moved_joined}

-- ---- states

-- each device has asked for so many pages at most
abbrev pub AtMost : ℕ → AppWorld → Type 0
AtMost n x = (i : ℕ) (d : Device) → slice_get x.devices i ≡ Some d → d.reading.asked ≤ n

-- or for so many as `top`, where its connection was passed already
abbrev pub IsInRound : ℕ → ℕ → ℕ → ItemWorld → AppWorld → Type 0
IsInRound top n position w x = (i : ℕ) (d : Device) → slice_get x.devices i ≡ Some d → (d.reading.asked ≤ top) × ((h : ℕ) → here_at i w ≡ Some h → position ≤ h → d.reading.asked ≤ n)

-- while items of one are handed over
pub record IsHanded (n position : ℕ) (w : ItemWorld) (i : ℕ) (d : Device) : Type 0 where
  pub most : d.reading.asked ≤ n + 1
  pub here : here_at i w ≡ Some position → (d.reading.asked ≤ n) ⊎ IsUnanswered d
  pub later : (h : ℕ) → here_at i w ≡ Some h → position + 1 ≤ h → d.reading.asked ≤ n

abbrev pub AreHanded : ℕ → ℕ → ItemWorld → AppWorld → Type 0
AreHanded n position w x = (i : ℕ) (d : Device) → slice_get x.devices i ≡ Some d → IsHanded n position w i d

pub round_of : (n position : ℕ) (w : ItemWorld) (x : AppWorld) → AtMost n x → IsInRound (n + 1) n position w x
round_of n position w x most i d at = let low = most i d at in (omega arith, λ h here above. low)

-- while nothing is handed to devices none of them asks for more
pub even_of : (n position : ℕ) (w : ItemWorld) (x : AppWorld) → AtMost n x → IsInRound n n position w x
even_of n position w x most i d at = (most i d at, λ h here above. most i d at)

pub handed_of : (n position : ℕ) (w : ItemWorld) (x : AppWorld) → IsInRound (n + 1) n position w x → AreHanded n position w x
handed_of n position w x round i d at =
    let known = round i d at in
    record { most = known.0; here = λ here. inl (known.1 position here (omega arith)); later = λ h here above. known.1 h here (omega arith) }

pub round_after : (n position : ℕ) (w : ItemWorld) (x : AppWorld) → AreHanded n position w x → IsInRound (n + 1) n (position + 1) w x
round_after n position w x handed i d at = let known = handed i d at in (known.most, known.later)

pub most_after : (top n position : ℕ) (w : ItemWorld) (x : AppWorld) → IsInRound top n position w x → AtMost top x
most_after top n position w x round i d at = (round i d at).0

-- ---- events, silently

-- Events lead on, by which nobody says anything.
pub record Goes (schedule : WireView) (from : Views schedule) (told : Telling) (says : ℕ) (w2 : ItemWorld) (x : AppWorld) (Post : AppWorld → Type 0) : Type 0 where
  pub events : List AppEvent
  pub next : AppWorld
  pub led : Reaches events x next
  pub silent : spoken_in events ≡ []
  pub post : Post next
  pub runs : WorldFrom schedule from told says w2 next

pub stays : (schedule : WireView) (from : Views schedule) (told : Telling) (says : ℕ) (w2 : ItemWorld) (x : AppWorld) (Post : AppWorld → Type 0) → WorldFrom schedule from told says w2 x → Post x → Goes schedule from told says w2 x Post
stays schedule from told says w2 x Post runs post = record { events = []; next = x; led = refl; silent = refl; post = post; runs = runs }

pub then : (schedule : WireView) (from : Views schedule) (told more : Telling) (says : ℕ) (w1 w2 : ItemWorld) (x : AppWorld) (Mid Post : AppWorld → Type 0) → Goes schedule from told says w1 x Mid →
    ((y : AppWorld) → WorldFrom schedule from told says w1 y → Mid y → Goes schedule from more says w2 y Post) → Goes schedule from more says w2 x Post
then schedule from told more says w1 w2 x Mid Post first second =
    let rest = second first.next first.runs first.post in
    record {
      events = first.events ++ rest.events;
      next = rest.next;
      led = reaches_both first.events rest.events x first.next rest.next first.led rest.led;
      silent = flat_map-append spoken_by first.events rest.events ∙ ap (λ l. l ++ spoken_in rest.events) first.silent ∙ rest.silent;
      post = rest.post;
      runs = rest.runs;
    }

-- a move by which nothing is said
pub of_move : (schedule : WireView) (from : Views schedule) (told : Telling) (says : ℕ) (m : ItemMove) (w : ItemWorld) (x : AppWorld) (Post : AppWorld → Type 0) (before : WorldFrom schedule from told says w x) → MoveSimulates schedule bounds says m w x before.world → spoken_by_move m w ≡ [] →
    ((next : AppWorld) → ((i : ℕ) (d e : Device) → slice_get x.devices i ≡ Some d → slice_get next.devices i ≡ Some e → IsAskedBy m w i d e) → ((i : ℕ) (e : Device) → slice_get next.devices i ≡ Some e → (d : Device) × (slice_get x.devices i ≡ Some d)) → Post next) →
    Goes schedule from (then_told told m w) says (moved m w) x Post
of_move schedule from told says m w x Post before r none post = record {
  events = r.events;
  next = r.next;
  led = r.reaches;
  silent = r.spoken ∙ none;
  post = post r.next r.asked (λ i e at. was_there r.events x r.next i e r.reaches at);
  runs = subst (λ k. WorldFrom schedule from (then_told told m w) k (moved m w) r.next) (ap (λ (l : List Spoken). says + length l) none ∙ (let same : says + 0 ≡ says = omega arith in same)) (record { world = r.runs; leads = λ i o is. let l = r.links i o is in leads_both (told i) (told_by m w i) (from i o is) (views_of before.world i o is) (views_of r.runs i o is) (before.leads i o is) (l.0, l.1, are_told m w i (labels_of l.0) l.2) });
}

-- ---- moves of a connection

module _ (schedule : WireView) (each : EachMoveSimulates schedule) (from : Views schedule) where
  -- a move that leaves what was asked, and makes no connection
  quiet : (told : Telling) (says : ℕ) (m : ItemMove) (w : ItemWorld) (x : AppWorld) (top n position : ℕ) → MayItem m → spoken_by_move m w ≡ [] → IsInBounds bounds says m w x → MakesNone w (moved m w) →
      ((i : ℕ) (d e : Device) → IsAskedBy m w i d e → e.reading.asked ≡ d.reading.asked) → WorldFrom schedule from told says w x → IsInRound top n position w x → Goes schedule from (then_told told m w) says (moved m w) x (IsInRound top n position (moved m w))
  quiet told says m w x top n position may none within makes same runs round =
      of_move schedule from told says m w x (IsInRound top n position (moved m w)) runs (each m says w x may runs.world within) none (λ next asked was i e at.
      let d = was i e at in
      let is = same i d.0 e (asked i d.0 e d.1 at) in
      let known = round i d.0 d.1 in
      ((let most = known.0 in omega arith), λ h here above. let low = known.1 h (makes i h here) above in omega arith))

  up_goes : (told : Telling) (says position : ℕ) (w : ItemWorld) (x : AppWorld) (top n p : ℕ) → WorldFrom schedule from told says w x → IsInRound top n p w x → Goes schedule from (then_told told (Up position) w) says (moved (Up position) w) x (IsInRound top n p (moved (Up position) w))
  up_goes told says position w x top n p runs round = quiet told says (Up position) w x top n p tt refl tt (up_makes position w) (λ i d e same. same) runs round

  up_end_goes : (told : Telling) (says position : ℕ) (w : ItemWorld) (x : AppWorld) (top n p : ℕ) → WorldFrom schedule from told says w x → IsInRound top n p w x → Goes schedule from (then_told told (UpEnd position) w) says (moved (UpEnd position) w) x (IsInRound top n p (moved (UpEnd position) w))
  up_end_goes told says position w x top n p runs round = quiet told says (UpEnd position) w x top n p tt refl tt (up_end_makes position w) (λ i d e same. same) runs round

  tick_goes : (told : Telling) (says ms : ℕ) (w : ItemWorld) (x : AppWorld) (top n p : ℕ) → WorldFrom schedule from told says w x → IsInRound top n p w x → Goes schedule from (then_told told (Tick ms) w) says (moved (Tick ms) w) x (IsInRound top n p (moved (Tick ms) w))
  tick_goes told says ms w x top n p runs round = quiet told says (Tick ms) w x top n p tt refl tt (tick_makes ms w) (λ i d e same. same) runs round

  down_end_goes : (told : Telling) (says position : ℕ) (w : ItemWorld) (x : AppWorld) (top n p : ℕ) → WorldFrom schedule from told says w x → IsInRound top n p w x → Goes schedule from (then_told told (DownEnd position) w) says (moved (DownEnd position) w) x (IsInRound top n p (moved (DownEnd position) w))
  down_end_goes told says position w x top n p runs round = quiet told says (DownEnd position) w x top n p tt refl tt (down_end_makes position w) (λ i d e same. same) runs round

  -- so many items go to the server
  ups_go : (told : Telling) (says position count : ℕ) (w : ItemWorld) (x : AppWorld) (top n p : ℕ) → WorldFrom schedule from told says w x → IsInRound top n p w x →
      Goes schedule from (told_along (ups position count) w told) says (all_moved (ups position count) w) x (IsInRound top n p (all_moved (ups position count) w))
  ups_go told says position zero w x top n p runs round = stays schedule from told says w x (IsInRound top n p w) runs round
  ups_go told says position (suc count) w x top n p runs round =
      then schedule from (then_told told (Up position) w) (told_along (ups position count) (moved (Up position) w) (then_told told (Up position) w)) says (moved (Up position) w) (all_moved (ups position count) (moved (Up position) w)) x
      (IsInRound top n p (moved (Up position) w)) _ (up_goes told says position w x top n p runs round)
      (λ y here mid. ups_go (then_told told (Up position) w) says position count (moved (Up position) w) y top n p here mid)

  served_goes : (told : Telling) (says position : ℕ) (first : List ItemMove) (w : ItemWorld) (x : AppWorld) (top n p : ℕ) → AreServedUps position first → WorldFrom schedule from told says w x → IsInRound top n p w x →
      Goes schedule from (told_along first w told) says (all_moved first w) x (IsInRound top n p (all_moved first w))
  served_goes told says position first w x top n p (inl none) runs round =
      subst (λ ms. Goes schedule from (told_along ms w told) says (all_moved ms w) x (IsInRound top n p (all_moved ms w))) (sym none) (stays schedule from told says w x (IsInRound top n p w) runs round)
  served_goes told says position first w x top n p (inr some) runs round =
      subst (λ ms. Goes schedule from (told_along ms w told) says (all_moved ms w) x (IsInRound top n p (all_moved ms w))) (sym some.1)
      (then schedule from (then_told told (Tick 0) w) (told_along (ups position some.0) (moved (Tick 0) w) (then_told told (Tick 0) w)) says (moved (Tick 0) w) (all_moved (ups position some.0) (moved (Tick 0) w)) x
      (IsInRound top n p (moved (Tick 0) w)) _ (tick_goes told says 0 w x top n p runs round)
      (λ y here mid. ups_go (then_told told (Tick 0) w) says position some.0 (moved (Tick 0) w) y top n p here mid))

  pub up_line : (told : Telling) (says position : ℕ) (first : List ItemMove) (ended : Bool) (w : ItemWorld) (x : AppWorld) (top n p : ℕ) → AreServedUps position first → WorldFrom schedule from told says w x → IsInRound top n p w x →
      Goes schedule from (told_along (first ++ moved_where (UpEnd position) ended) w told) says (all_moved (first ++ moved_where (UpEnd position) ended) w) x (IsInRound top n p (all_moved (first ++ moved_where (UpEnd position) ended) w))
  up_line told says position first ended w x top n p is runs round =
      subst (λ (t : Telling). Goes schedule from t says (all_moved (first ++ moved_where (UpEnd position) ended) w) x (IsInRound top n p (all_moved (first ++ moved_where (UpEnd position) ended) w)))
      (sym (told_joined first (moved_where (UpEnd position) ended) w told))
      (subst (λ v. Goes schedule from (told_along (moved_where (UpEnd position) ended) (all_moved first w) (told_along first w told)) says v x (IsInRound top n p v)) (sym (moved_joined first (moved_where (UpEnd position) ended) w))
      (then schedule from (told_along first w told) (told_along (moved_where (UpEnd position) ended) (all_moved first w) (told_along first w told)) says (all_moved first w) (all_moved (moved_where (UpEnd position) ended) (all_moved first w)) x
      (IsInRound top n p (all_moved first w)) _ (served_goes told says position first w x top n p is runs round)
      (λ y here mid. by ended (told_along first w told) (all_moved first w) y here mid)))
    where
      by : (b : Bool) (t : Telling) (v : ItemWorld) (y : AppWorld) → WorldFrom schedule from t says v y → IsInRound top n p v y → Goes schedule from (told_along (moved_where (UpEnd position) b) v t) says (all_moved (moved_where (UpEnd position) b) v) y (IsInRound top n p (all_moved (moved_where (UpEnd position) b) v))
      by true t v y here mid = up_end_goes t says position v y top n p here mid
      by false t v y here mid = stays schedule from t says v y (IsInRound top n p v) here mid

  -- one item goes to a device
  down_goes : (told : Telling) (says position : ℕ) (w : ItemWorld) (x : AppWorld) (n : ℕ) → n ≤ 10100000 → w.moment ≤ last_moment → WorldFrom schedule from told says w x → AreHanded n position w x →
      Goes schedule from (then_told told (Down position) w) says (moved (Down position) w) x (AreHanded n position (moved (Down position) w))
  down_goes told says position w x n few timely runs handed = by (positions.reaches position w)
    where
      by : positions.Reaches position w → Goes schedule from (then_told told (Down position) w) says (moved (Down position) w) x (AreHanded n position (moved (Down position) w))
      by (positions.Nobody none silent) =
          subst (λ v. Goes schedule from (then_told told (Down position) w) says v x (AreHanded n position v)) (sym none)
          (stays schedule from (then_told told (Down position) w) says w x (AreHanded n position w)
          (retold schedule from told (then_told told (Down position) w) says w x (λ i. untold (told i) (item_notes (Down position) w i) [] [] (silent i) refl refl) runs) handed)
      by (positions.Device wire d at found is_here) =
          of_move schedule from told says (Down position) w x (AreHanded n position (moved (Down position) w)) runs (each (Down position) says w x tt runs.world within) refl (λ next asked was i e there.
          let old = was i e there in
          let known = handed i old.0 old.1 in
          let once = asked i old.0 e old.1 there in
          elim (cases_eq wire.device i) [
            | inl same ↦
                let here : here_at i w ≡ Some position = ap (λ k. here_at k w) (sym same) ∙ ap here_of found ∙ is_here in
                this i old.0 e known once.0 here
            | inr other ↦ let both = once.1 wire at other in another i old.0 e known both.0 both.1
          ])
        where
          within : IsInBounds bounds says (Down position) w x
          within = (
            λ wire2 dev at2 there.
                let same : wire2 ≡ wire = same_Some wire2 wire (sym at2 ∙ at) in
                let here : here_at wire2.device w ≡ Some position = ap (λ (y : ItemWire). here_at y.device w) same ∙ ap here_of found ∙ is_here in
                elim ((handed wire2.device dev there).here here) [ inl low ↦ inl (omega arith) | inr none ↦ inr none ],
            timely,
          )

          this : (i : ℕ) (o e : Device) → IsHanded n position w i o → IsAskedOnce o e → here_at i w ≡ Some position → IsHanded n position (moved (Down position) w) i e
          this i o e known once here = record {
            most = elim (known.here here) [
              | inl low ↦ elim once.1 [ inl same ↦ omega arith | inr more ↦ let one = more.0 in omega arith ]
              | inr none ↦ let same = (once.0 none).0 in let most = known.most in omega arith
            ];
            here = λ still. elim (known.here here) [
              | inl low ↦ elim once.1 [ inl same ↦ inl (omega arith) | inr more ↦ inr more.1 ]
              | inr none ↦ inr (once.0 none).1
            ];
            later = λ h still above.
                let position_is : position ≡ h = same_Some position h (sym here ∙ down_makes position w i h still) in
                absurd (omega arith);
          }

          another : (i : ℕ) (o e : Device) → IsHanded n position w i o → e.reading.asked ≡ o.reading.asked → (IsUnanswered o → IsUnanswered e) → IsHanded n position (moved (Down position) w) i e
          another i o e known same none = record {
            most = let most = known.most in omega arith;
            here = λ still. elim (known.here (down_makes position w i position still)) [ inl low ↦ inl (omega arith) | inr was ↦ inr (none was) ];
            later = λ h still above. let low = known.later h (down_makes position w i h still) above in omega arith;
          }

  downs_go : (told : Telling) (says position count : ℕ) (w : ItemWorld) (x : AppWorld) (n : ℕ) → n ≤ 10100000 → w.moment ≤ last_moment → WorldFrom schedule from told says w x → AreHanded n position w x →
      Goes schedule from (told_along (downs position count) w told) says (all_moved (downs position count) w) x (AreHanded n position (all_moved (downs position count) w))
  downs_go told says position zero w x n few timely runs handed = stays schedule from told says w x (AreHanded n position w) runs handed
  downs_go told says position (suc count) w x n few timely runs handed =
      then schedule from (then_told told (Down position) w) (told_along (downs position count) (moved (Down position) w) (then_told told (Down position) w)) says (moved (Down position) w) (all_moved (downs position count) (moved (Down position) w)) x
      (AreHanded n position (moved (Down position) w)) _ (down_goes told says position w x n few timely runs handed)
      (λ y here mid. downs_go (then_told told (Down position) w) says position count (moved (Down position) w) y n few (subst (λ k. k ≤ last_moment) (sym (down_moment position w)) timely) here mid)

  -- all that is handed to the device of a connection
  pub down_line : (told : Telling) (says position count : ℕ) (ended : Bool) (w : ItemWorld) (x : AppWorld) (n : ℕ) → n ≤ 10100000 → w.moment ≤ last_moment → WorldFrom schedule from told says w x → IsInRound (n + 1) n position w x →
      Goes schedule from (told_along (downs position count ++ moved_where (DownEnd position) ended) w told) says (all_moved (downs position count ++ moved_where (DownEnd position) ended) w) x (IsInRound (n + 1) n (position + 1) (all_moved (downs position count ++ moved_where (DownEnd position) ended) w))
  down_line told says position count ended w x n few timely runs round =
      subst (λ (t : Telling). Goes schedule from t says (all_moved (downs position count ++ moved_where (DownEnd position) ended) w) x (IsInRound (n + 1) n (position + 1) (all_moved (downs position count ++ moved_where (DownEnd position) ended) w)))
      (sym (told_joined (downs position count) (moved_where (DownEnd position) ended) w told))
      (subst (λ v. Goes schedule from (told_along (moved_where (DownEnd position) ended) (all_moved (downs position count) w) (told_along (downs position count) w told)) says v x (IsInRound (n + 1) n (position + 1) v))
      (sym (moved_joined (downs position count) (moved_where (DownEnd position) ended) w))
      (then schedule from (told_along (downs position count) w told) (told_along (moved_where (DownEnd position) ended) (all_moved (downs position count) w) (told_along (downs position count) w told)) says (all_moved (downs position count) w)
      (all_moved (moved_where (DownEnd position) ended) (all_moved (downs position count) w)) x (AreHanded n position (all_moved (downs position count) w)) _
      (downs_go told says position count w x n few timely runs (handed_of n position w x round))
      (λ y here mid. by ended (told_along (downs position count) w told) (all_moved (downs position count) w) y here (round_after n position (all_moved (downs position count) w) y mid))))
    where
      by : (b : Bool) (t : Telling) (v : ItemWorld) (y : AppWorld) → WorldFrom schedule from t says v y → IsInRound (n + 1) n (position + 1) v y →
          Goes schedule from (told_along (moved_where (DownEnd position) b) v t) says (all_moved (moved_where (DownEnd position) b) v) y (IsInRound (n + 1) n (position + 1) (all_moved (moved_where (DownEnd position) b) v))
      by true t v y here mid = down_end_goes t says position v y (n + 1) n (position + 1) here mid
      by false t v y here mid = stays schedule from t says v y (IsInRound (n + 1) n (position + 1) v) here mid
