-- What a client answers to its user, and what a device does of it.
use Rattle.std.proofs.Common.{◌≡◌, ◌⊎◌, ℕ, Bool, List, [], Option, Result, Ok, Err, ap, inl, inr, sym, ◌∙◌}
use Rattle.std.proofs.lemmas.Result.{on_ok_weaker}
use Rattle.std.specs.Prelude.{OnOk}
use Rattle.cl_core.specs.Feeds.{Fed}
use Rattle.cl_core.specs.UserCalls.{catch_up_answer, catches_up, say_answer, says}
use Rattle.cl_core.specs.Values.{ClientValue, client_step_in, fed_of}
use Rattle.cl_core.specs.declared.faults.CatchUpStart.{CatchUpStart}
use Rattle.cl_core.specs.declared.faults.SayFault.{SayFault}
use Rattle.cl_handlers.specs.Clients.{ClientStep, ClientView}
use Rattle.cl_handlers.specs.Speech.{in_bytes}
use Rattle.cl_handlers.specs.declared.events.ClientOut.{ClientOut}
use Rattle.cmd_network.specs.Devices.{DeviceState, Spoken, after_client_step, catch_up_refused, catches_up_by, catches_up_on, refuses, says_by, says_to, say_refused, silent, silent_client_step, spoken}
use Rattle.xml_framer.specs.States.{State}
use Rattle.cmd_report.specs.declared.report.RefusedWhy.{RefusedWhy}

abbrev T : Type 0
T = ClientStep (List ℕ) ℕ

-- unless memory ran out, the answer is what the client's table says
pub told : {A E : Type 0} (result answer : Result A E) (none : E) → (result ≡ Err none) ⊎ (result ≡ answer) → (result ≡ Err none → ⊥) → answer ≡ result
told result answer none (inl is) other = absurd (other is)
told result answer none (inr is) other = sym is

-- ---- a client that did as it was asked

abbrev with_parts : DeviceState → Option State → T → Spoken
with_parts d framer t = spoken (record d { client = record { framer = framer; client = t.client } }) t.out.put

taken : (d : DeviceState) (new : ClientValue) (out : ClientOut) (t : T) → client_step_in new out ≡ t → new.framer ≡ d.client.framer
    → with_parts d new.framer (client_step_in new out) ≡ after_client_step t d
taken d new out t is same = ap (λ (framer : Option State). with_parts d framer (client_step_in new out)) same ∙ ap (λ (u : T). with_parts d d.client.framer u) is

silent_first : (c : ClientValue) (out : ClientOut) → fed_of c out ≡ silent c → client_step_in c out ≡ silent_client_step c
silent_first c out quiet = ap (λ (f : Fed (List ℕ) ℕ). f.turn) quiet

pub says_taken : (line n : ℕ) (to text : List ℕ) (private : Bool) (d : DeviceState) (new : ClientValue) (before after : ClientOut)
    → fed_of d.client before ≡ silent d.client → say_answer d.client.client text ≡ Ok n
    → client_step_in new after ≡ says in_bytes (client_step_in d.client before) to text private → new.framer ≡ d.client.framer
    → spoken (record d { client = new }) after.bytes.items ≡ says_to line to text private d
says_taken line n to text private d new before after quiet answer is same =
    taken d new after (says in_bytes (silent_client_step d.client) to text private)
    (is ∙ ap (λ (t : T). says in_bytes t to text private) (silent_first d.client before quiet)) same
    ∙ sym (ap (λ (r : Result ℕ SayFault). says_by line to text private r d) answer)

pub catches_up_taken : (line most : ℕ) (d : DeviceState) (new : ClientValue) (before after : ClientOut) (done : Unit {0})
    → fed_of d.client before ≡ silent d.client → catch_up_answer d.client.client ≡ Ok done
    → client_step_in new after ≡ catches_up in_bytes (client_step_in d.client before) most → new.framer ≡ d.client.framer
    → spoken (record d { client = new }) after.bytes.items ≡ catches_up_on line most d
catches_up_taken line most d new before after done quiet answer is same =
    taken d new after (catches_up in_bytes (silent_client_step d.client) most)
    (is ∙ ap (λ (t : T). catches_up in_bytes t most) (silent_first d.client before quiet)) same
    ∙ sym (ap (λ (r : Result (Unit {0}) CatchUpStart). catches_up_by line most r d) answer)

-- ---- a client that refused

pub says_refused : (line : ℕ) (to text : List ℕ) (private : Bool) (d : DeviceState) (fault : SayFault) → say_answer d.client.client text ≡ Err fault
    → spoken (say_refused line fault d) [] ≡ says_to line to text private d
says_refused line to text private d fault answer = sym (ap (λ (r : Result ℕ SayFault). says_by line to text private r d) answer)

pub catches_up_refused : (line most : ℕ) (d : DeviceState) (fault : CatchUpStart) → catch_up_answer d.client.client ≡ Err fault
    → spoken (catch_up_refused line fault d) [] ≡ catches_up_on line most d
catches_up_refused line most d fault answer = sym (ap (λ (r : Result (Unit {0}) CatchUpStart). catches_up_by line most r d) answer)

abbrev pub parts : Option State → ClientView (List ℕ) → ClientValue
parts framer client = record { framer = framer; client = client }

-- it is as it was
pub still : (old new : ClientValue) (before after : ClientOut) → client_step_in new after ≡ client_step_in old before → new.framer ≡ old.framer → parts new.framer new.client ≡ old
still old new before after is same =
    ap (λ (framer : Option State). parts framer new.client) same ∙ ap (λ (t : T). parts old.framer t.client) is

-- and nothing was put
pub still_put : (old new : ClientValue) (before after : ClientOut) → fed_of old before ≡ silent old → client_step_in new after ≡ client_step_in old before → after.bytes.items ≡ []
still_put old new before after quiet is = ap (λ (t : T). t.out.put) (is ∙ silent_first old before quiet)

always : {A E P : Type 0} (r : Result A E) → P → OnOk r P
always (Ok done) p = p
always (Err fault) p = tt

-- the line is noted down
pub refused_device : {A E : Type 0} (r : Result A E) (d now : DeviceState) (new : ClientValue) (line : ℕ) (why : RefusedWhy) (s : Spoken)
    → new ≡ d.client → spoken (refuses line why d) [] ≡ s → OnOk r (now ≡ refuses line why (record d { client = new })) → OnOk r (now ≡ s.device)
refused_device r d now new line why s same is noted =
    on_ok_weaker r (λ h. h ∙ ap (λ (c : ClientValue). refuses line why (record d { client = c })) same ∙ ap (λ (u : Spoken). u.device) is) noted

pub refused_put : {A E : Type 0} (r : Result A E) (d : DeviceState) (put : List ℕ) (s : Spoken) → put ≡ [] → spoken d [] ≡ s → OnOk r (put ≡ s.put)
refused_put r d put s none is = always r (none ∙ ap (λ (u : Spoken). u.put) is)
