-- A submission that a client accepts is the first one after those that there were before.
use Rattle.std.proofs.Common.{◌≡◌, ◌+◌, ℕ, Bool, true, false, cond, List, [], ◌∷◌, ◌++◌, Option, Some, None, Result, Ok, Err, length, refl, sym, ap, ◌∙◌, append_assoc, le_refl}
use Rattle.std.specs.Option.{option_map}
use Rattle.std.specs.Prelude.{nat_le, slice_get}
use Rattle.std.proofs.lemmas.Option.{slice_get_past}
use Rattle.cl_core.specs.UserCalls.{is_bad_text, outbox_bound, say_answer, say_in, says, submission_of, submits}
use Rattle.cl_core.specs.declared.faults.SayFault.{SayFault}
use Rattle.cl_core.specs.declared.faults.SayFault.TheVariants as say
use Rattle.cl_handlers.specs.Clients.{ClientStep, ClientView}
use Rattle.cl_handlers.specs.Speech.{Speech, in_bytes}
use Rattle.cl_intents.specs.declared.intents.Intent.{Intent as OneIntent}
use Rattle.cl_intents.specs.declared.intents.Try.{Try}
use Rattle.cmd_network.specs.Devices.{DeviceState, after_client_step, say_refused, says_by, says_to, silent_client_step, spoken}
use Rattle.cmd_report.specs.Addresses.{bare_address}
use Rattle.cmd_world.specs.Moves.{Say, moved, said_by}
use Rattle.cmd_world.specs.Worlds.{ByteWorld}
use Rattle.sm_outbox.specs.Sessions.{SessionView}
use Rattle.sm_outbox.specs.Submissions.{all_said, next_number, said_of, with_said}
use Rattle.sm_outbox.specs.declared.said.Said.{Said}
use Rattle.cmd_resolving.specs.Expansion.{Watching, intent_in, is_try, looked_at, noted_try, try_at, try_by}
use Rattle.cmd_deciding.specs.Turns.{before_of, is_accepted, is_accepted_where, said_for, submitted, submitted_for, submitted_where, try_in, try_of_said, try_since}
use Rattle.cmd_deciding.specs.declared.submitting.Before.{Before}
use Rattle.cmd_deciding.proofs.Changed.{got_behind, set_here}

-- a refused one leaves the client
same_client : (line : ℕ) (fault : SayFault) (d : DeviceState) → (say_refused line fault d).client ≡ d.client
same_client line say.NotBound d = refl
same_client line say.OutboxFull d = refl
same_client line say.BadText d = refl
same_client line say.NoMemory d = refl

-- one that is accepted stands behind those that there were
new_said : (settled waiting : List Said) (one : Said) → slice_get (settled ++ (waiting ++ one ∷ [])) (length (settled ++ waiting)) ≡ Some one
new_said settled waiting one = ap (λ l. slice_get l (length (settled ++ waiting))) (sym (append_assoc settled waiting (one ∷ []))) ∙ got_behind (settled ++ waiting) [] one

-- in a session, whatever is put
says_said : {A X : Type 0} (speech : Speech A X) (t : ClientStep A X) (s : SessionView A) (to text : List ℕ) (private : Bool) → t.client.session ≡ Some s →
    (says speech t to text private).client.said ≡ with_said t.client.said (said_of t.client.epoch t.client.n to text private)
says_said speech t s to text private in_it =
    ap (λ o. (submits speech t o (speech.say (submission_of t.client to text private)) (said_of t.client.epoch t.client.n to text private)).client.said) in_it

module _ (line : ℕ) (to text : List ℕ) (d : DeviceState) where
  abbrev c : ClientView (List ℕ)
  c = d.client.client

  abbrev after : Result ℕ SayFault → DeviceState
  after r = (says_by line to text false r d).device

  -- in a session
  by_session : (o : Option (SessionView (List ℕ))) (n : ℕ) → c.session ≡ o → say_in c o ≡ Ok n → try_in (before_of d) (after (Ok n)) ≡ try_by c (Ok n)
  by_session None n in_it answers = absurd (let err : Err say.NotBound ≡ Ok n = answers in let bad : ⊥ = cc in bad)
  by_session (Some s) n in_it answers = by_place (nat_le outbox_bound (length s.waiting.queue)) answers
    where
      one : Said
      one = said_of c.epoch c.n to text false

      stands : try_in (before_of d) (after (Ok n)) ≡ Some (record { epoch = c.epoch; n = next_number c.n; logged = length c.log.entries })
      stands =
          ap (λ all. try_of_said (length c.log.entries) (slice_get (all_said all) (length (all_said c.said)))) (says_said in_bytes (silent_client_step d.client) s to text false in_it)
          ∙ ap (try_of_said (length c.log.entries)) (new_said c.said.settled c.said.waiting one)

      by_place : (b : Bool) → cond b (Err say.OutboxFull) (Ok (next_number c.n)) ≡ Ok n → try_in (before_of d) (after (Ok n)) ≡ try_by c (Ok n)
      by_place true is = absurd (let err : Err say.OutboxFull ≡ Ok n = is in let bad : ⊥ = cc in bad)
      by_place false is = (let ok : Ok (next_number c.n) ≡ Ok n = is in let same : next_number c.n ≡ n = cc in stands ∙ ap (λ m. Some (record { epoch = c.epoch; n = m; logged = length c.log.entries })) same)

  by_text : (b : Bool) (n : ℕ) → cond b (Err say.BadText) (say_in c c.session) ≡ Ok n → try_in (before_of d) (after (Ok n)) ≡ try_by c (Ok n)
  by_text true n answers = absurd (let err : Err say.BadText ≡ Ok n = answers in let bad : ⊥ = cc in bad)
  by_text false n answers = by_session c.session n refl answers

  by_answer : (r : Result ℕ SayFault) → say_answer c text ≡ r → try_in (before_of d) (after r) ≡ try_by c r
  by_answer (Err fault) answers =
      ap (λ (f : DeviceState). try_in (before_of d) f) (ap (λ k. record (say_refused line fault d) { client = k }) (same_client line fault d))
      ∙ ap (try_of_said (length c.log.entries)) (slice_get_past (all_said c.said) (length (all_said c.said)) (le_refl (length (all_said c.said))))
  by_answer (Ok n) answers = by_text (is_bad_text text) n answers

-- of the device at an index, where there is one
by_device : (index line : ℕ) (to text : List ℕ) (o : Option DeviceState) (w : ByteWorld) → slice_get w.devices index ≡ o →
    try_since (option_map before_of o) (slice_get (said_by index line to text false o w).devices index) ≡ try_at text o
by_device index line to text None w there = refl
by_device index line to text (Some d) w there =
    ap (try_since (Some (before_of d))) (set_here w.devices index d (says_to line (bare_address to) text false d).device there)
    ∙ by_answer line (bare_address to) text d (say_answer d.client.client text) refl

pub tried : (index line : ℕ) (to text : List ℕ) (w : ByteWorld) →
    try_since (option_map before_of (slice_get w.devices index)) (slice_get (moved (Say index line to text false) w).devices index) ≡ try_at text (slice_get w.devices index)
tried index line to text w = by_device index line to text (slice_get w.devices index) w refl

-- a submission by its steps
pub submitted_by_steps : (number index k : ℕ) (s : Watching) (i : OneIntent) (to text : List ℕ) (before : Option Before) (w : ByteWorld) (seen : Watching) (t : Option Try) →
    intent_in index k s.intents ≡ Some i → to ≡ i.to → text ≡ i.text → before ≡ option_map before_of (slice_get s.world.devices index) → w ≡ moved (Say index number to text false) s.world →
    seen ≡ looked_at w s.intents → t ≡ try_since before (slice_get seen.world.devices index) → noted_try (submitted_for index k) t seen ≡ submitted number index k s
submitted_by_steps number index k s i to text before w seen t there to_is text_is before_is said looked noted =
    let world : seen.world ≡ moved (Say index number to text false) s.world = ap (λ (r : Watching). r.world) looked ∙ said in
    let try_is : t ≡ try_at i.text (slice_get s.world.devices index) =
    noted ∙ ap (λ (v : ByteWorld). try_since before (slice_get v.devices index)) world
    ∙ ap (λ b. try_since b (slice_get (moved (Say index number to text false) s.world).devices index)) before_is
    ∙ tried index number to text s.world ∙ ap (λ x. try_at x (slice_get s.world.devices index)) text_is in
    let seen_is : seen ≡ said_for number index i s =
    looked ∙ ap (λ v. looked_at v s.intents) said
    ∙ ap (λ x. looked_at (moved (Say index number x text false) s.world) s.intents) to_is
    ∙ ap (λ x. looked_at (moved (Say index number i.to x false) s.world) s.intents) text_is in
    ap (λ o. noted_try (submitted_for index k) o seen) try_is
    ∙ ap (noted_try (submitted_for index k) (try_at i.text (slice_get s.world.devices index))) seen_is
    ∙ ap (λ o. submitted_where number index k o s) (sym there)

pub accepted_by_steps : (number index k : ℕ) (s : Watching) (i : OneIntent) (to text : List ℕ) (before : Option Before) (w : ByteWorld) (seen : Watching) (t : Option Try) →
    intent_in index k s.intents ≡ Some i → to ≡ i.to → text ≡ i.text → before ≡ option_map before_of (slice_get s.world.devices index) → w ≡ moved (Say index number to text false) s.world →
    seen ≡ looked_at w s.intents → t ≡ try_since before (slice_get seen.world.devices index) → is_try t ≡ is_accepted index k s
accepted_by_steps number index k s i to text before w seen t there to_is text_is before_is said looked noted =
    let world : seen.world ≡ moved (Say index number to text false) s.world = ap (λ (r : Watching). r.world) looked ∙ said in
    ap is_try
    (noted ∙ ap (λ (v : ByteWorld). try_since before (slice_get v.devices index)) world
    ∙ ap (λ b. try_since b (slice_get (moved (Say index number to text false) s.world).devices index)) before_is
    ∙ tried index number to text s.world ∙ ap (λ x. try_at x (slice_get s.world.devices index)) text_is)
    ∙ ap (λ o. is_accepted_where index o s) (sym there)

-- no such intent
pub nothing_submitted : (number index k : ℕ) (s : Watching) → intent_in index k s.intents ≡ None → submitted number index k s ≡ s
nothing_submitted number index k s nowhere = ap (λ o. submitted_where number index k o s) nowhere

pub nothing_accepted : (index k : ℕ) (s : Watching) → intent_in index k s.intents ≡ None → is_accepted index k s ≡ false
nothing_accepted index k s nowhere = ap (λ o. is_accepted_where index o s) nowhere
