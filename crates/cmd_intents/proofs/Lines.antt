-- Lines that are written one after the other.
use Rattle.std.proofs.Common.{◌≡◌, ℕ, ◌+◌, Bool, true, false, List, [], ◌∷◌, ◌++◌, Some, Result, Ok, Err, length, refl, sym, ap, ap₂, ◌∙◌, append_assoc, arith}
use Rattle.std.proofs.lemmas.List.{append-nil, length-append}
use Rattle.cmd_schedule.specs.Reading.{Piece}
use Rattle.cmd_schedule.specs.Schedules.{ScheduleView, WireView}
use Rattle.cmd_schedule.specs.WireReading.{reading}
use Rattle.cmd_schedule.specs.declared.fault.LineWhy.TheVariants as why
use Rattle.cmd_schedule.specs.declared.fault.ScheduleFault.{ScheduleFault}
use Rattle.cmd_schedule.specs.declared.fault.ScheduleFault.TheVariants.{BadLine}
use Rattle.cmd_schedule.specs.declared.schedule.Schedule.{Schedule}
use Rattle.cmd_schedule.specs.declared.schedule.Schedule.TheVariants.{Direct, Wire}
use Rattle.cmd_intents.specs.Files.{beyond, ending_of, file_of, is_beyond, is_intent, is_resolve, judged, kind_of_line, line_as_schedule, number_if, numbers_of, one_more_intent, one_more_resolve, read_below, text_as_schedule, within}
use Rattle.cmd_intents.specs.Rewritten.{IsRewritten}
use Rattle.cmd_intents.specs.declared.reading.Rewritten.{Rewritten}
use Rattle.cmd_intents.specs.declared.rewriting.LineKind.{LineKind}
use Rattle.cmd_intents.specs.declared.rewriting.LineKind.TheVariants.{Plain, Intent, Resolve}

pub nothing_more : (so_far : Rewritten) → IsRewritten so_far [] so_far
nothing_more so_far = record {
  text = sym (append-nil so_far.text.items);
  next = omega arith;
  intents = sym (append-nil so_far.intents.items);
  resolves = sym (append-nil so_far.resolves.items);
}

-- one line was written, and noted down
pub record IsOneMore (before : Rewritten) (p : Piece) (after : Rewritten) : Type 0 where
  pub text : after.text.items ≡ before.text.items ++ line_as_schedule p
  pub next : after.next ≡ before.next + 1
  pub intents : after.intents.items ≡ before.intents.items ++ number_if (is_intent (kind_of_line p)) before.next
  pub resolves : after.resolves.items ≡ before.resolves.items ++ number_if (is_resolve (kind_of_line p)) before.next

numbered : (is : LineKind → Bool) (before now after : List ℕ) (m n : ℕ) (p : Piece) (lines : List Piece) → now ≡ before ++ number_if (is (kind_of_line p)) m → n ≡ m + 1 →
    after ≡ now ++ numbers_of is n lines → after ≡ before ++ numbers_of is m (p ∷ lines)
numbered is before now after m n p lines noted next more =
    let first = number_if (is (kind_of_line p)) m in
    more ∙ ap (λ l. l ++ numbers_of is n lines) noted ∙ append_assoc before first (numbers_of is n lines)
    ∙ ap (λ k. before ++ (first ++ numbers_of is k lines)) next

pub one_more : (before now after : Rewritten) (p : Piece) (lines : List Piece) → IsOneMore before p now → IsRewritten now lines after → IsRewritten before (p ∷ lines) after
one_more before now after p lines one more =
    record {
      text = more.text ∙ ap (λ l. l ++ text_as_schedule lines) one.text ∙ append_assoc before.text.items (line_as_schedule p) (text_as_schedule lines);
      next = (let first = one.next in let rest = more.next in omega arith);
      intents = numbered is_intent before.intents.items now.intents.items after.intents.items before.next now.next p lines one.intents one.next more.intents;
      resolves = numbered is_resolve before.resolves.items now.resolves.items after.resolves.items before.next now.next p lines one.resolves one.next more.resolves;
    }

-- ---- counts

counted_intent : (kind : LineKind) (n : ℕ) (items : List ℕ) → length (items ++ number_if (is_intent kind) n) ≡ one_more_intent kind (length items)
counted_intent Plain n items = ap length (append-nil items)
counted_intent Intent n items = (let e = length-append items (n ∷ []) in omega arith)
counted_intent Resolve n items = ap length (append-nil items)

counted_resolve : (kind : LineKind) (n : ℕ) (items : List ℕ) → length (items ++ number_if (is_resolve kind) n) ≡ one_more_resolve kind (length items)
counted_resolve Plain n items = ap length (append-nil items)
counted_resolve Intent n items = ap length (append-nil items)
counted_resolve Resolve n items = (let e = length-append items (n ∷ []) in omega arith)

module _ (before now : Rewritten) (p : Piece) (ps : List Piece) (one : IsOneMore before p now) (fits : is_beyond (length before.intents.items) (length before.resolves.items) (kind_of_line p) ≡ false) where
  intents_are : length now.intents.items ≡ one_more_intent (kind_of_line p) (length before.intents.items)
  intents_are = ap length one.intents ∙ counted_intent (kind_of_line p) before.next before.intents.items

  resolves_are : length now.resolves.items ≡ one_more_resolve (kind_of_line p) (length before.resolves.items)
  resolves_are = ap length one.resolves ∙ counted_resolve (kind_of_line p) before.next before.resolves.items

  pub within_next : within (length before.intents.items) (length before.resolves.items) (p ∷ ps) ≡ p ∷ within (length now.intents.items) (length now.resolves.items) ps
  within_next = rw (fits, intents_are, resolves_are) refl

  pub beyond_next : beyond (length before.intents.items) (length before.resolves.items) (p ∷ ps) ≡ beyond (length now.intents.items) (length now.resolves.items) ps
  beyond_next = rw (fits, intents_are, resolves_are) refl

module _ (i r : ℕ) (p : Piece) (ps : List Piece) (stops : is_beyond i r (kind_of_line p) ≡ true) where
  pub within_stops : within i r (p ∷ ps) ≡ []
  within_stops = rw stops refl

  pub beyond_stops : beyond i r (p ∷ ps) ≡ p ∷ ps
  beyond_stops = rw stops refl

-- ---- all lines

module _ (heading : List ℕ) (ended : Bool) (pieces : List Piece) (start last : Rewritten) (text : start.text.items ≡ heading ++ ending_of ended) (next : start.next ≡ 2)
    (no_intents : start.intents.items ≡ []) (no_resolves : start.resolves.items ≡ [])
    (written : IsRewritten start (within (length start.intents.items) (length start.resolves.items) pieces) last) where
  within_is : within (length start.intents.items) (length start.resolves.items) pieces ≡ within 0 0 pieces
  within_is = ap₂ (λ i r. within i r pieces) (ap length no_intents) (ap length no_resolves)

  beyond_is : beyond (length start.intents.items) (length start.resolves.items) pieces ≡ beyond 0 0 pieces
  beyond_is = ap₂ (λ i r. beyond i r pieces) (ap length no_intents) (ap length no_resolves)

  text_is : last.text.items ≡ heading ++ ending_of ended ++ text_as_schedule (within 0 0 pieces)
  text_is = written.text ∙ ap₂ (λ t ls. t ++ text_as_schedule ls) text within_is

  next_is : last.next ≡ 2 + length (within 0 0 pieces)
  next_is = written.next ∙ ap₂ (λ n ls. n + length ls) next within_is

  numbers_are : (is : LineKind → Bool) (before after : List ℕ) → before ≡ [] → after ≡ before ++ numbers_of is start.next (within (length start.intents.items) (length start.resolves.items) pieces) →
      after ≡ numbers_of is 2 (within 0 0 pieces)
  numbers_are is before after none more =
      more ∙ ap (λ l. l ++ numbers_of is start.next (within (length start.intents.items) (length start.resolves.items) pieces)) none ∙ ap₂ (numbers_of is) next within_is

  below_is : (read : Result Schedule ScheduleFault) → read ≡ reading last.text.items → file_of (within 0 0 pieces) (beyond 0 0 pieces) read ≡ read_below (Some heading) ended pieces
  below_is read is = ap (file_of (within 0 0 pieces) (beyond 0 0 pieces)) (is ∙ ap reading text_is)

  pub bad_read : (read : Result Schedule ScheduleFault) (e : ScheduleFault) → read ≡ reading last.text.items → read ≡ Err e → Err e ≡ read_below (Some heading) ended pieces
  bad_read read e is bad = ap (file_of (within 0 0 pieces) (beyond 0 0 pieces)) (sym bad) ∙ below_is read is

  pub direct_read : (read : Result Schedule ScheduleFault) (s : ScheduleView) → read ≡ reading last.text.items → read ≡ Ok (Direct s) → Err (BadLine 1 why.Header) ≡ read_below (Some heading) ended pieces
  direct_read read s is direct = ap (file_of (within 0 0 pieces) (beyond 0 0 pieces)) (sym direct) ∙ below_is read is

  pub wire_read : (read : Result Schedule ScheduleFault) (s : WireView) (rest : List Piece) → read ≡ reading last.text.items → read ≡ Ok (Wire s) →
      rest ≡ beyond (length start.intents.items) (length start.resolves.items) pieces →
      judged (record { schedule = s; intents = last.intents.items; resolves = last.resolves.items }) last.next rest ≡ read_below (Some heading) ended pieces
  wire_read read s rest is wire left =
      ap₂ (λ i r. judged (record { schedule = s; intents = i; resolves = r }) last.next rest)
      (numbers_are is_intent start.intents.items last.intents.items no_intents written.intents) (numbers_are is_resolve start.resolves.items last.resolves.items no_resolves written.resolves)
      ∙ ap₂ (judged (record { schedule = s; intents = numbers_of is_intent 2 (within 0 0 pieces); resolves = numbers_of is_resolve 2 (within 0 0 pieces) })) next_is (left ∙ beyond_is)
      ∙ ap (file_of (within 0 0 pieces) (beyond 0 0 pieces)) (sym wire)
      ∙ below_is read is
