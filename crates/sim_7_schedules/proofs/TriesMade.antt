-- A line that submits a message: what the client has behind it.
use Rattle.std.proofs.Common.{◌≡◌, ℕ, zero, suc, Bool, true, false, cond, List, [], ◌∷◌, Option, Some, None, Result, Ok, Err, length, refl, sym, ap, ◌∙◌, subst}
use Rattle.std.proofs.lemmas.Option.{none-some, same_Some}
use Rattle.std.specs.List.{slice_get}
use Rattle.std.specs.Prelude.{nat_le, slice_set}
use Rattle.base_io.specs.Names.{position_of}
use Rattle.cl_core.specs.UserCalls.{is_bad_text, outbox_bound, say_answer, say_in, submission_of, submits}
use Rattle.cl_core.specs.declared.faults.SayFault.{SayFault}
use Rattle.cl_core.specs.declared.faults.SayFault.TheVariants as fault
use Rattle.cl_handlers.specs.Clients.{ClientView}
use Rattle.cl_handlers.specs.Speech.{in_bytes}
use Rattle.cl_intents.specs.declared.intents.Try.{Try}
use Rattle.cmd_network.specs.Devices.{DeviceState, says_by, says_to, silent_client_step}
use Rattle.cmd_report.specs.Addresses.{bare_address}
use Rattle.cmd_resolving.specs.Expansion.{text_in, try_at, try_by, try_of}
use Rattle.cmd_schedule.specs.declared.schedule.Step.TheVariants as step
use Rattle.cmd_schedule.specs.declared.schedule.WireLine.{WireLine}
use Rattle.cmd_schedule.specs.declared.schedule.WireStep.TheVariants as wire
use Rattle.cmd_world.specs.Lines.{move_of, step_moves, stepped}
use Rattle.cmd_world.specs.Moves as moves
use Rattle.cmd_world.specs.Moves.{all_moved, said_by}
use Rattle.cmd_world.specs.Worlds.{ByteWorld}
use Rattle.sm_outbox.specs.Sessions.{SessionView}
use Rattle.sm_outbox.specs.Submissions.{next_number, said_of}

-- ---- a client

-- the client's epoch stays, and its number is that of the submission
pub record HasSaid (c d : ClientView (List ℕ)) (n : ℕ) : Type 0 where
  pub epoch : d.epoch ≡ c.epoch
  pub number : d.n ≡ n

record IsAccepted (c : ClientView (List ℕ)) (n : ℕ) : Type 0 where
  session : SessionView (List ℕ)
  has : c.session ≡ Some session
  next : n ≡ next_number c.n

same_Ok : {E T : Type 0} (a b : T) → (let r : Result T E = Ok a in r) ≡ Ok b → a ≡ b
same_Ok a b is = cc

module _ (c : ClientView (List ℕ)) (text : List ℕ) (n : ℕ) where
  by_full : (s : SessionView (List ℕ)) → c.session ≡ Some s → (b : Bool) → cond b (Err fault.OutboxFull) (Ok (next_number c.n)) ≡ Ok n → IsAccepted c n
  by_full s has true full = absurd (let bad : ⊥ = cc in bad)
  by_full s has false said = record { session = s; has = has; next = sym (same_Ok (next_number c.n) n said) }

  by_session : (o : Option (SessionView (List ℕ))) → c.session ≡ o → say_in c o ≡ Ok n → IsAccepted c n
  by_session None has none = absurd (let bad : ⊥ = cc in bad)
  by_session (Some s) has some = by_full s has (nat_le outbox_bound (length s.waiting.queue)) some

  by_text : (b : Bool) → cond b (Err fault.BadText) (say_in c c.session) ≡ Ok n → IsAccepted c n
  by_text true bad_text = absurd (let bad : ⊥ = cc in bad)
  by_text false good = by_session c.session refl good

  accepted : say_answer c text ≡ Ok n → IsAccepted c n
  accepted is = by_text (is_bad_text text) is

-- ---- its device

module _ (line : ℕ) (address text : List ℕ) (d : DeviceState) (n : ℕ) (is : say_answer d.client.client text ≡ Ok n) where
  made_in : (o : Option (SessionView (List ℕ))) (s : SessionView (List ℕ)) → o ≡ Some s → n ≡ next_number d.client.client.n
      → HasSaid d.client.client (submits in_bytes (silent_client_step d.client) o (in_bytes.say (submission_of d.client.client address text false)) (said_of d.client.client.epoch d.client.client.n address text false)).client n
  made_in None s has next = absurd (none-some s has)
  made_in (Some u) s has next = record { epoch = refl; number = sym next }

  said_device : HasSaid d.client.client (says_to line address text false d).device.client.client n
  said_device =
      let a = accepted d.client.client text n is in
      subst (λ r. HasSaid d.client.client (says_by line address text false r d).device.client.client n) (sym is) (made_in d.client.client.session a.session a.has a.next)

-- ---- a line

set_there : {A : Type 0} (xs : List A) (k : ℕ) (x y : A) → slice_get xs k ≡ Some x → slice_get (slice_set xs k y) k ≡ Some y
set_there [] k x y is = absurd (none-some x is)
set_there (z ∷ xs) zero x y is = refl
set_there (z ∷ xs) (suc k) x y is = set_there xs k x y is

-- the try that a line makes, and the client behind it
pub record IsMade (line : WireLine) (i : ℕ) (W : ByteWorld) (d : DeviceState) (t : Try) : Type 0 where
  pub epoch : t.epoch ≡ d.client.client.epoch
  pub n : t.n ≡ next_number d.client.client.n
  pub logged : t.logged ≡ length d.client.client.log.entries
  pub after : DeviceState
  pub there : slice_get (stepped line W).devices i ≡ Some after
  pub said : HasSaid d.client.client after.client.client t.n

module _ (line : WireLine) (name to text : List ℕ) (says : line.step ≡ wire.Common (step.Say name to text)) (i : ℕ) (W : ByteWorld) (named : position_of name W.names ≡ Some i) (d : DeviceState) (there : slice_get W.devices i ≡ Some d) where
  moved_so : (stepped line W).devices ≡ slice_set W.devices i (says_to line.number (bare_address to) text false d).device
  moved_so =
      ap (λ st. (all_moved (step_moves W.names (length W.wires) line.number st) W).devices) says
      ∙ ap (λ o. (all_moved (move_of (λ position. moves.Say position line.number to text false) o) W).devices) named
      ∙ ap (λ o. (said_by i line.number to text false o W).devices) there

  by_answer : (t : Try) (r : Result ℕ SayFault) → say_answer d.client.client text ≡ r → try_by d.client.client r ≡ Some t → IsMade line i W d t
  by_answer t (Err fault) is none = absurd (none-some t none)
  by_answer t (Ok n) is some =
      let same : record { epoch = d.client.client.epoch; n = n; logged = length d.client.client.log.entries } ≡ t = same_Some _ t some in
      let after = (says_to line.number (bare_address to) text false d).device in
      subst (IsMade line i W d) same (record {
        epoch = refl;
        n = (accepted d.client.client text n is).next;
        logged = refl;
        after = after;
        there = ap (λ ds. slice_get ds i) moved_so ∙ set_there W.devices i d after there;
        said = said_device line.number (bare_address to) text d n is;
      })

  pub try_made : (t : Try) → try_of line i W ≡ Some t → IsMade line i W d t
  try_made t is =
      by_answer t (say_answer d.client.client text) refl
      (sym (ap (λ st. try_at (text_in st) (slice_get W.devices i)) says ∙ ap (try_at text) there) ∙ is)
