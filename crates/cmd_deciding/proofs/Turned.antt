-- A resolve line by turns, and an intent line as a submission: the lines of the run that these are.
use Rattle.std.proofs.Common.{◌≡◌, ◌+◌, ◌≤◌, ℕ, zero, suc, Bool, true, false, cond, List, [], ◌∷◌, ◌++◌, Option, Some, None, length, refl, sym, ap, subst, ◌∙◌, add-one, length-append}
use Rattle.std.specs.Option.{option_and_then, option_map, option_map_or}
use Rattle.std.specs.Prelude.{slice_get}
use Rattle.base_io.specs.Names.{position_of}
use Rattle.cl_intents.specs.Intents.{IntentsView, intent_under, new_intent, with_intent}
use Rattle.cl_intents.specs.declared.intents.Intent.{Intent as OneIntent}
use Rattle.cl_intents.specs.declared.intents.Next.{Next}
use Rattle.cl_intents.specs.declared.intents.Next.TheVariants as next
use Rattle.cl_intents.specs.declared.intents.Try.{Try}
use Rattle.cmd_network.specs.Devices.{DeviceState}
use Rattle.cmd_network.specs.Positions.{changed_at}
use Rattle.cmd_schedule.specs.declared.schedule.Step.TheVariants.{Say as SayStep, Catchup}
use Rattle.cmd_schedule.specs.declared.schedule.WireLine.{WireLine}
use Rattle.cmd_schedule.specs.declared.schedule.WireStep.{WireStep}
use Rattle.cmd_schedule.specs.declared.schedule.WireStep.TheVariants.{Common}
use Rattle.cmd_world.specs.Standing.{MayStep}
use Rattle.cmd_world.specs.Lines.{move_of}
use Rattle.cmd_world.specs.Moves.{CatchUp, Say, all_moved, moved, said_by}
use Rattle.cmd_world.specs.Worlds.{ByteWorld}
use Rattle.cmd_resolving.specs.Expansion.{Asked, RunLine, asked_by_intent, asked_by_resolve, intent_of, resolve_of, Submitted, Watching, all_done, begun, catch_up_line, count_at, done, first_submission, gone_by, intent_in, is_try, looked_at, next_at, noted_try, resolved, say_line, submission, submission_and_on, try_at, try_of, wanted}
use Rattle.cmd_deciding.specs.Turns.{caught_up, goes_on, goes_on_by, is_accepted_where, new_submitted, said_for, submitted, submitted_for, submitted_where, turned, turned_by, turns}
use Rattle.cmd_deciding.proofs.Changed.{got_behind, got_changed}

-- ---- names stay

names_said : (index line : ℕ) (to text : List ℕ) (o : Option DeviceState) (w : ByteWorld) → (said_by index line to text false o w).names ≡ w.names
names_said index line to text None w = refl
names_said index line to text (Some d) w = refl

names_noted : (at : Submitted) (o : Option Try) (s : Watching) → (noted_try at o s).world.names ≡ s.world.names
names_noted at None s = refl
names_noted at (Some t) s = refl

names_submitted : (number index k : ℕ) (o : Option OneIntent) (s : Watching) → (submitted_where number index k o s).world.names ≡ s.world.names
names_submitted number index k None s = refl
names_submitted number index k (Some i) s =
    names_noted (submitted_for index k) (try_at i.text (slice_get s.world.devices index)) (said_for number index i s)
    ∙ names_said index number i.to i.text (slice_get s.world.devices index) s.world

-- ---- a submission

-- the line of the device at an index is its submission
submission_is : (number index k : ℕ) (device to text : List ℕ) (i : OneIntent) (s : Watching) → to ≡ i.to → text ≡ i.text → position_of device s.world.names ≡ Some index →
    done (submission (say_line number device to text) index k) s ≡ submitted_where number index k (Some i) s
submission_is number index k device to text i s to_is text_is at =
    ap (λ o. noted_try (submitted_for index k) (try_at text (slice_get s.world.devices index)) (looked_at (all_moved (move_of (λ position. Say position number to text false) o) s.world) s.intents)) at
    ∙ ap (λ x. noted_try (submitted_for index k) (try_at text (slice_get s.world.devices index)) (looked_at (moved (Say index number x text false) s.world) s.intents)) to_is
    ∙ ap (λ x. noted_try (submitted_for index k) (try_at x (slice_get s.world.devices index)) (looked_at (moved (Say index number i.to x false) s.world) s.intents)) text_is

-- ---- a resolve line

module _ (number : ℕ) (device : List ℕ) (index most : ℕ) where
  -- after a submission
  after_submission : (left k : ℕ) (i : OneIntent) (s : Watching) (b : Bool) → position_of device s.world.names ≡ Some index →
      ((after : Watching) → position_of device after.world.names ≡ Some index → all_done (resolved left number device index most after) after ≡ turns left number index most after) →
      all_done (cond b (resolved left number device index most (done (submission (say_line number device i.to i.text) index k) s)) []) (done (submission (say_line number device i.to i.text) index k) s)
      ≡ cond b (turns left number index most (submitted_where number index k (Some i) s)) (submitted_where number index k (Some i) s)
  after_submission left k i s true at rest =
      ap (λ after. all_done (resolved left number device index most after) after) (submission_is number index k device i.to i.text i s refl refl at)
      ∙ rest (submitted_where number index k (Some i) s) (ap (position_of device) (names_submitted number index k (Some i) s) ∙ at)
  after_submission left k i s false at rest = submission_is number index k device i.to i.text i s refl refl at

  by_intent : (left k : ℕ) (o : Option OneIntent) (s : Watching) → position_of device s.world.names ≡ Some index →
      ((after : Watching) → position_of device after.world.names ≡ Some index → all_done (resolved left number device index most after) after ≡ turns left number index most after) →
      all_done (submission_and_on number device index (resolved left number device index most) s k o) s
      ≡ cond (is_accepted_where index o s) (turns left number index most (submitted_where number index k o s)) (submitted_where number index k o s)
  by_intent left k None s at rest = refl
  by_intent left k (Some i) s at rest = after_submission left k i s (is_try (try_at i.text (slice_get s.world.devices index))) at rest

  by_next : (left : ℕ) (x : Next) (s : Watching) → position_of device s.world.names ≡ Some index →
      ((after : Watching) → position_of device after.world.names ≡ Some index → all_done (resolved left number device index most after) after ≡ turns left number index most after) →
      all_done (wanted number device index most (resolved left number device index most) s x) s
      ≡ cond (goes_on_by index x s) (turns left number index most (turned_by number index most x s)) (turned_by number index most x s)
  by_next left (next.Submit k) s at rest = by_intent left k (intent_in index k s.intents) s at rest
  by_next left next.CatchUp s at rest = ap (λ o. looked_at (all_moved (move_of (λ position. CatchUp position number most) o) s.world) s.intents) at
  by_next left next.Rest s at rest = refl

  pub resolved_by_turns : (left : ℕ) (s : Watching) → position_of device s.world.names ≡ Some index → all_done (resolved left number device index most s) s ≡ turns left number index most s
  resolved_by_turns zero s at = refl
  resolved_by_turns (suc left) s at = by_next left (next_at index s) s at (λ after there. resolved_by_turns left after there)

-- ---- a turn of so many that are left

pub turn_more : (left number index most : ℕ) (s after due : Watching) → goes_on index s ≡ true → after ≡ turned number index most s → turns (suc left) number index most s ≡ due → turns left number index most after ≡ due
turn_more left number index most s after due goes is was =
    ap (turns left number index most) is
    ∙ sym (ap (λ b. cond b (turns left number index most (turned number index most s)) (turned number index most s)) goes) ∙ was

pub turn_last : (left number index most : ℕ) (s after due : Watching) → goes_on index s ≡ false → after ≡ turned number index most s → turns (suc left) number index most s ≡ due → after ≡ due
turn_last left number index most s after due goes is was =
    is ∙ sym (ap (λ b. cond b (turns left number index most (turned number index most s)) (turned number index most s)) goes) ∙ was

-- ---- an intent line

by_new : (line : WireLine) (device to text : List ℕ) (index : ℕ) (s after : Watching) (o : Option IntentsView) → position_of device s.world.names ≡ Some index → after ≡ begun (Asked.NewIntent index to text) s →
    slice_get s.intents index ≡ o → line ≡ say_line line.number device to text →
    all_done (first_submission line index (option_map (with_intent to text) o)) after
    ≡ submitted_where line.number index (option_map_or (λ (v : IntentsView). length v.intents) (option_map (with_intent to text) o) 0)
    (option_and_then (λ (v : IntentsView). intent_under (option_map_or (λ (v : IntentsView). length v.intents) (option_map (with_intent to text) o) 0) v.intents) (option_map (with_intent to text) o)) after
by_new line device to text index s after None at is there line_is = refl
by_new line device to text index s after (Some v) at is there line_is =
    let k = length (v.intents ++ new_intent to text ∷ []) in
    let names : position_of device after.world.names ≡ Some index = ap (λ (t : Watching). position_of device t.world.names) is ∙ at in
    ap (λ l. done (submission l index k) after) line_is
    ∙ submission_is line.number index k device to text (new_intent to text) after refl refl names
    ∙ ap (λ o. submitted_where line.number index k o after) (sym (newest v.intents))
  where
    newest : (is : List OneIntent) → intent_under (length (is ++ new_intent to text ∷ [])) (is ++ new_intent to text ∷ []) ≡ Some (new_intent to text)
    newest is = ap (λ n. intent_under n (is ++ new_intent to text ∷ [])) (length-append is (new_intent to text ∷ []) ∙ add-one (length is)) ∙ got_behind is [] (new_intent to text)

pub intent_line : (line : WireLine) (device to text : List ℕ) (index : ℕ) (s : Watching) → line.step ≡ Common (SayStep device to text) → position_of device s.world.names ≡ Some index →
    gone_by (Asked.NewIntent index to text) line s ≡ new_submitted line.number index to text s
intent_line line device to text index s is at =
    let after = begun (Asked.NewIntent index to text) s in
    let got = got_changed (with_intent to text) index s.intents in
    let line_is : line ≡ say_line line.number device to text = ap (λ st. record { number = line.number; step = st }) is in
    ap (λ o. all_done (first_submission line index o) after) got
    ∙ by_new line device to text index s after (slice_get s.intents index) at refl refl line_is
    ∙ ap (λ o. submitted_where line.number index (option_map_or (λ (v : IntentsView). length v.intents) o 0)
    (option_and_then (λ (v : IntentsView). intent_under (option_map_or (λ (v : IntentsView). length v.intents) o 0) v.intents) o) after) (sym got)

-- ---- lines of users

-- a message that is an intent, of a device that is there, or isn't
pub message_gone : (line : WireLine) (device to text : List ℕ) (index : ℕ) (s : Watching) → line.step ≡ Common (SayStep device to text) → position_of device s.world.names ≡ Some index →
    gone_by (asked_by_intent s.world.names (Common (SayStep device to text))) line s ≡ new_submitted line.number index to text s
message_gone line device to text index s is at = ap (λ o. gone_by (intent_of to text o) line s) at ∙ intent_line line device to text index s is at

pub message_nowhere : (line : WireLine) (device to text : List ℕ) (s : Watching) → position_of device s.world.names ≡ None → gone_by (asked_by_intent s.world.names (Common (SayStep device to text))) line s ≡ s
message_nowhere line device to text s nowhere = ap (λ o. gone_by (intent_of to text o) line s) nowhere

-- a request to resolve
pub request_gone : (line : WireLine) (device : List ℕ) (most index : ℕ) (s : Watching) → position_of device s.world.names ≡ Some index →
    gone_by (asked_by_resolve s.world.names (Common (Catchup device most))) line s ≡ turns (count_at index s.intents + 1) line.number index most s
request_gone line device most index s at = ap (λ o. gone_by (resolve_of device most o) line s) at ∙ resolved_by_turns line.number device index most (count_at index s.intents + 1) s at

pub request_nowhere : (line : WireLine) (device : List ℕ) (most : ℕ) (s : Watching) → position_of device s.world.names ≡ None → gone_by (asked_by_resolve s.world.names (Common (Catchup device most))) line s ≡ s
request_nowhere line device most s nowhere = ap (λ o. gone_by (resolve_of device most o) line s) nowhere

pub most_by_line : (step : WireStep) (device : List ℕ) (most : ℕ) (w : ByteWorld) → MayStep step w → step ≡ Common (Catchup device most) → (1 ≤ most) × (most ≤ 100)
most_by_line step device most w may is = subst (λ st. MayStep st w) is may
