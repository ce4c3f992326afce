-- The devices that a wire schedule declares: each has a name of its own, and its account is declared.
use Rattle.std.proofs.Common.{◌≡◌, ℕ, zero, suc, true, false, not, ◌&&◌, List, [], ◌∷◌, ◌++◌, length, Some, refl, sym, ap, subst, append_assoc, ◌∙◌}
use Rattle.std.proofs.lemmas.Bool.{and_parts, false≢true, not-true, or_left, or_parts}
use Rattle.std.proofs.lemmas.List.Folds.{list_any-append}
use Rattle.std.proofs.lemmas.Option.{none-some, same_Some}
use Rattle.std.specs.List.{flat_map, slice_get}
use Rattle.std.specs.Prelude.{IsTrue, nat_lt}
use Rattle.std.specs.Str.{bytes_eq}
use Rattle.base_io.specs.Names.{is_among}
use Rattle.sim_3_images.proofs.Starts.{named_among}
use Rattle.cmd_schedule.specs.Contents.{Owned, accounts_of, owned_in}
use Rattle.cmd_schedule.specs.Grammar.{is_name}
use Rattle.cmd_schedule.specs.Schedules.{WireView, common_at, steps_of, wire_steps_of}
use Rattle.cmd_schedule.specs.LineLists.{IsLineList}
use Rattle.cmd_schedule.specs.WireGrammar.{AreRunnable, WireAbove, above_by, may_run, nothing_above}
use Rattle.cmd_schedule.specs.declared.schedule.Line.{Line}
use Rattle.cmd_schedule.specs.declared.schedule.Step.TheVariants as step
use Rattle.cmd_schedule.specs.declared.schedule.WireLine.{WireLine}
use Rattle.cmd_schedule.specs.declared.schedule.WireStep.{WireStep}
use Rattle.cmd_schedule.specs.declared.schedule.WireStep.TheVariants as wire
use Rattle.cmd_world.proofs.Declares.{are_accounts, are_names}
use Rattle.cmd_world.proofs.Traces.{may_run_all}
use Rattle.cmd_world.specs.Histories.{common_steps}
use Rattle.sim_3_images.proofs.AccountNames.{among_last}

-- ---- among these accounts, and behind devices of these names

pub record IsOwned (accounts before : List (List ℕ)) (o : Owned) : Type 0 where
  pub named : is_name o.device ≡ true
  pub owned : is_among o.account accounts ≡ true
  pub new : is_among o.device before ≡ false

abbrev AreOwned : List (List ℕ) → List (List ℕ) → List Owned → Type 0
AreOwned accounts before [] = Unit {0}
AreOwned accounts before (o ∷ os) = IsOwned accounts before o × AreOwned accounts (before ++ o.device ∷ []) os

abbrev lines_of : List WireLine → List Line
lines_of lines = flat_map (λ (line : WireLine). common_at line.number line.step) lines

abbrev Rest : WireAbove → List Line → Type 0
Rest above rest = AreOwned (above.names.accounts ++ accounts_of (steps_of rest)) above.names.devices (owned_in (steps_of rest))

new_device : (above : WireAbove) (name account : List ℕ) (more : List (List ℕ)) → IsTrue (may_run above (wire.Common (step.Device name account)))
    → IsOwned (above.names.accounts ++ more) above.names.devices (record { device = name; account = account })
new_device above name account more may =
    let a = and_parts (nat_lt (length above.names.devices) 100 && is_name name && not (is_among name above.names.devices)) (is_among account above.names.accounts) may in
    let b = and_parts (nat_lt (length above.names.devices) 100 && is_name name) (not (is_among name above.names.devices)) a.0 in
    let c = and_parts (nat_lt (length above.names.devices) 100) (is_name name) b.0 in
    record {
      named = c.1;
      owned = list_any-append (λ other. bytes_eq account other) above.names.accounts more ∙ or_left (is_among account above.names.accounts) (is_among account more) a.1;
      new = not-true (is_among name above.names.devices) b.1;
    }

more : (n : ℕ) (s : WireStep) (above : WireAbove) (rest : List Line) → IsTrue (may_run above s) → Rest (above_by s above) rest → Rest above (common_at n s ++ rest)
more n (wire.Common (step.Account name)) above rest may are =
    subst (λ all. AreOwned all above.names.devices (owned_in (steps_of rest))) (append_assoc above.names.accounts (name ∷ []) (accounts_of (steps_of rest))) are
more n (wire.Common (step.Device name account)) above rest may are = (new_device above name account (accounts_of (steps_of rest)) may, are)
more n (wire.Common (step.Say device to text)) above rest may are = are
more n (wire.Common (step.Private device to text)) above rest may are = are
more n (wire.Common (step.Catchup device most)) above rest may are = are
more n (wire.Common (step.Tick ms)) above rest may are = are
more n (wire.Dial device) above rest may are = are
more n (wire.Forget device) above rest may are = are
more n (wire.Close device) above rest may are = are
more n (wire.Up k count) above rest may are = are
more n (wire.Down k count) above rest may are = are
more n (wire.Cut k up down) above rest may are = are
more n (wire.Pass k times) above rest may are = are
more n (wire.Run times) above rest may are = are

all_owned : (lines : List WireLine) (above : WireAbove) → AreRunnable above (wire_steps_of lines) → Rest above (lines_of lines)
all_owned [] above run = tt
all_owned (line ∷ lines) above run = more line.number line.step above (lines_of lines) run.0 (all_owned lines (above_by line.step above) run.1)

of_schedule : (schedule : WireView) → IsLineList schedule → AreOwned (accounts_of (common_steps schedule)) [] (owned_in (common_steps schedule))
of_schedule schedule is = all_owned schedule.lines nothing_above (may_run_all schedule is)

-- ---- one of them

one_owned : (accounts before : List (List ℕ)) (os : List Owned) (position : ℕ) (o : Owned) → AreOwned accounts before os → slice_get os position ≡ Some o → (is_name o.device ≡ true) × (is_among o.account accounts ≡ true)
one_owned accounts before [] position o are is = absurd (none-some o is)
one_owned accounts before (x ∷ os) zero o are is = subst (λ y. (is_name y.device ≡ true) × (is_among y.account accounts ≡ true)) (same_Some x o is) (are.0.named, are.0.owned)
one_owned accounts before (x ∷ os) (suc position) o are is = one_owned accounts (before ++ x.device ∷ []) os position o are.1 is

pub record IsDeclared (accounts : List (List ℕ)) (o : Owned) : Type 0 where
  pub device : is_name o.device ≡ true
  pub account : is_name o.account ≡ true
  pub among : is_among o.account accounts ≡ true

pub declared : (schedule : WireView) (position : ℕ) (o : Owned) → IsLineList schedule → slice_get (owned_in (common_steps schedule)) position ≡ Some o → IsDeclared (accounts_of (common_steps schedule)) o
declared schedule position o is there =
    let one = one_owned (accounts_of (common_steps schedule)) [] (owned_in (common_steps schedule)) position o (of_schedule schedule is) there in
    let names = are_names (accounts_of (common_steps schedule)) (are_accounts schedule (may_run_all schedule is)) in
    record { device = one.0; account = named_among o.account (accounts_of (common_steps schedule)) names one.1; among = one.1 }

-- ---- two of them

after_new : (accounts before : List (List ℕ)) (os : List Owned) (position : ℕ) (o : Owned) → AreOwned accounts before os → slice_get os position ≡ Some o → is_among o.device before ≡ false
after_new accounts before [] position o are is = absurd (none-some o is)
after_new accounts before (x ∷ os) zero o are is = subst (λ y. is_among y.device before ≡ false) (same_Some x o is) are.0.new
after_new accounts before (x ∷ os) (suc position) o are is =
    let later : is_among o.device (before ++ x.device ∷ []) ≡ false = after_new accounts (before ++ x.device ∷ []) os position o are.1 is in
    (or_parts (is_among o.device before) (is_among o.device (x.device ∷ [])) (sym (list_any-append (λ other. bytes_eq o.device other) before (x.device ∷ [])) ∙ later)).0

-- the first device, and a later one of the same name
not_later : (accounts before : List (List ℕ)) (x : Owned) (os : List Owned) (position : ℕ) (o r : Owned) → AreOwned accounts (before ++ x.device ∷ []) os → Some x ≡ Some o → slice_get os position ≡ Some r → o.device ≡ r.device → ⊥
not_later accounts before x os position o r are is there same =
    false≢true (sym (after_new accounts (before ++ x.device ∷ []) os position r are there)
    ∙ subst (λ n. is_among n (before ++ x.device ∷ []) ≡ true) (ap (λ (y : Owned). y.device) (same_Some x o is) ∙ same) (among_last x.device before))

one_position : (accounts before : List (List ℕ)) (os : List Owned) (p q : ℕ) (o r : Owned) → AreOwned accounts before os → slice_get os p ≡ Some o → slice_get os q ≡ Some r → o.device ≡ r.device → p ≡ q
one_position accounts before [] p q o r are at_p at_q same = absurd (none-some o at_p)
one_position accounts before (x ∷ os) zero zero o r are at_p at_q same = refl
one_position accounts before (x ∷ os) zero (suc q) o r are at_p at_q same = absurd (not_later accounts before x os q o r are.1 at_p at_q same)
one_position accounts before (x ∷ os) (suc p) zero o r are at_p at_q same = absurd (not_later accounts before x os p r o are.1 at_q at_p (sym same))
one_position accounts before (x ∷ os) (suc p) (suc q) o r are at_p at_q same = ap suc (one_position accounts (before ++ x.device ∷ []) os p q o r are.1 at_p at_q same)

pub one_name : (schedule : WireView) (p q : ℕ) (o r : Owned) → IsLineList schedule → slice_get (owned_in (common_steps schedule)) p ≡ Some o → slice_get (owned_in (common_steps schedule)) q ≡ Some r
    → o.device ≡ r.device → p ≡ q
one_name schedule p q o r is at_p at_q same = one_position (accounts_of (common_steps schedule)) [] (owned_in (common_steps schedule)) p q o r (of_schedule schedule is) at_p at_q same
