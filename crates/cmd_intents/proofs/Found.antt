-- What reading gives is a file of intents.
use Rattle.std.proofs.Common.{◌≡◌, ℕ, ◌+◌, ◌≤◌, Bool, true, false, List, [], ◌∷◌, ◌++◌, Option, Some, None, Result, Ok, Err, length, refl, sym, inl, inr, arith}
use Rattle.std.specs.Prelude.{◌⊎◌, IfOk, nat_lt}
use Rattle.std.proofs.lemmas.Bool.{ltb-true}
use Rattle.cmd_schedule.proofs.BothKinds.{reading_found}
use Rattle.cmd_schedule.specs.Reading.{Piece, pieces_of}
use Rattle.cmd_schedule.specs.WireReading.{reading}
use Rattle.cmd_schedule.specs.declared.fault.ScheduleFault.{ScheduleFault}
use Rattle.cmd_schedule.specs.declared.fault.ScheduleFault.TheVariants as faults
use Rattle.cmd_schedule.specs.declared.schedule.Schedule.{Schedule}
use Rattle.cmd_schedule.specs.declared.schedule.Schedule.TheVariants.{Direct, Wire}
use Rattle.cmd_intents.specs.Files.{FileView, IsIntentFile, beyond, ending_of, file_of, heading_as_schedule, is_intent, is_resolve, judged, kind_of_line, numbers_of, read_below, read_pieces, reading_intents, text_as_schedule, within}
use Rattle.cmd_intents.specs.declared.rewriting.LineKind.{LineKind}
use Rattle.cmd_intents.specs.declared.rewriting.LineKind.TheVariants.{Plain, Intent, Resolve}
use Rattle.cmd_intents.specs.declared.rewriting.TheConstants.{MOST_LINES}

-- ---- how many lines of a kind there are

-- one line more, where the lines after it are few
module _ (p : Piece) (ps : List Piece) (n i r : ℕ) where
  more_intents : ((j q : ℕ) → j ≤ MOST_LINES → j + length (numbers_of is_intent (n + 1) (within j q ps)) ≤ MOST_LINES) → i ≤ MOST_LINES → i + length (numbers_of is_intent n (within i r (p ∷ ps))) ≤ MOST_LINES
  more_intents more few = by_kind (kind_of_line p) refl
    where
      by_kind : (k : LineKind) → kind_of_line p ≡ k → i + length (numbers_of is_intent n (within i r (p ∷ ps))) ≤ MOST_LINES
      by_kind Plain is = rw (is, is) (more i r few)
      by_kind Intent is = by_room (nat_lt i MOST_LINES) refl
        where
          by_room : (b : Bool) → nat_lt i MOST_LINES ≡ b → i + length (numbers_of is_intent n (within i r (p ∷ ps))) ≤ MOST_LINES
          by_room true low = rw (is, low, is) (let rest = more (i + 1) r (omega (arith, ltb-true i MOST_LINES low)) in omega (arith, rest))
          by_room false high = rw (is, high) (omega (arith, few))
      by_kind Resolve is = by_room (nat_lt r MOST_LINES) refl
        where
          by_room : (b : Bool) → nat_lt r MOST_LINES ≡ b → i + length (numbers_of is_intent n (within i r (p ∷ ps))) ≤ MOST_LINES
          by_room true low = rw (is, low, is) (more i (r + 1) few)
          by_room false high = rw (is, high) (omega (arith, few))

  more_resolves : ((j q : ℕ) → q ≤ MOST_LINES → q + length (numbers_of is_resolve (n + 1) (within j q ps)) ≤ MOST_LINES) → r ≤ MOST_LINES → r + length (numbers_of is_resolve n (within i r (p ∷ ps))) ≤ MOST_LINES
  more_resolves more few = by_kind (kind_of_line p) refl
    where
      by_kind : (k : LineKind) → kind_of_line p ≡ k → r + length (numbers_of is_resolve n (within i r (p ∷ ps))) ≤ MOST_LINES
      by_kind Plain is = rw (is, is) (more i r few)
      by_kind Intent is = by_room (nat_lt i MOST_LINES) refl
        where
          by_room : (b : Bool) → nat_lt i MOST_LINES ≡ b → r + length (numbers_of is_resolve n (within i r (p ∷ ps))) ≤ MOST_LINES
          by_room true low = rw (is, low, is) (more (i + 1) r few)
          by_room false high = rw (is, high) (omega (arith, few))
      by_kind Resolve is = by_room (nat_lt r MOST_LINES) refl
        where
          by_room : (b : Bool) → nat_lt r MOST_LINES ≡ b → r + length (numbers_of is_resolve n (within i r (p ∷ ps))) ≤ MOST_LINES
          by_room true low = rw (is, low, is) (let rest = more i (r + 1) (omega (arith, ltb-true r MOST_LINES low)) in omega (arith, rest))
          by_room false high = rw (is, high) (omega (arith, few))

few_intents : (ps : List Piece) (n i r : ℕ) → i ≤ MOST_LINES → i + length (numbers_of is_intent n (within i r ps)) ≤ MOST_LINES
few_intents [] n i r few = omega (arith, few)
few_intents (p ∷ ps) n i r few = more_intents p ps n i r (λ j q low. few_intents ps (n + 1) j q low) few

few_resolves : (ps : List Piece) (n i r : ℕ) → r ≤ MOST_LINES → r + length (numbers_of is_resolve n (within i r ps)) ≤ MOST_LINES
few_resolves [] n i r few = omega (arith, few)
few_resolves (p ∷ ps) n i r few = more_resolves p ps n i r (λ j q low. few_resolves ps (n + 1) j q low) few

-- ---- a file

abbrev gives : FileView → Result FileView ScheduleFault
gives f = Ok f

abbrev refuses : ScheduleFault → Result FileView ScheduleFault
refuses e = Err e

same_file : (f g : FileView) → gives f ≡ gives g → f ≡ g
same_file f g e = cc

no_file : (e : ScheduleFault) (f : FileView) → refuses e ≡ gives f → ⊥
no_file e f is = cc

judged_file : (file f : FileView) (n : ℕ) (rest : List Piece) → judged file n rest ≡ gives f → IsIntentFile file → IsIntentFile f
judged_file file f n [] is right = rw (sym (same_file file f is)) right
judged_file file f n (p ∷ rest) is right = absurd (no_file (faults.BadLine n _) f is)

file_found : (text : List ℕ) (ps rest : List Piece) (read : Result Schedule ScheduleFault) (f : FileView) → reading text ≡ read → file_of (within 0 0 ps) rest read ≡ gives f → IsIntentFile f
file_found text ps rest (Err e) f read is = absurd (no_file e f is)
file_found text ps rest (Ok (Direct s)) f read is = absurd (no_file _ f is)
file_found text ps rest (Ok (Wire s)) f read is =
    judged_file (record { schedule = s; intents = numbers_of is_intent 2 (within 0 0 ps); resolves = numbers_of is_resolve 2 (within 0 0 ps) }) f (2 + length (within 0 0 ps)) rest is
    (record {
      schedule = (reading_found text (Wire s) read).0;
      intents = (let few = few_intents ps 2 0 0 (omega arith) in omega (arith, few));
      resolves = (let few = few_resolves ps 2 0 0 (omega arith) in omega (arith, few));
    })

below_found : (heading : Option (List ℕ)) (ended : Bool) (ps : List Piece) (f : FileView) → read_below heading ended ps ≡ gives f → IsIntentFile f
below_found None ended ps f is = absurd (no_file _ f is)
below_found (Some heading) ended ps f is =
    let text = heading ++ ending_of ended ++ text_as_schedule (within 0 0 ps) in
    file_found text ps (beyond 0 0 ps) (reading text) f refl is

pieces_found : (ps : List Piece) (f : FileView) → read_pieces ps ≡ gives f → IsIntentFile f
pieces_found [] f is = absurd (no_file _ f is)
pieces_found (p ∷ ps) f is = below_found (heading_as_schedule p.bytes) p.ended ps f is

reading_intents_found : (text : List ℕ) (f : FileView) → reading_intents text ≡ gives f → IsIntentFile f
unfolding reading_intents
reading_intents_found text f is = pieces_found (pieces_of text) f is

pub found_of : (text : List ℕ) (r : Result FileView ScheduleFault) → (r ≡ refuses faults.NoMemory) ⊎ (r ≡ reading_intents text) → IfOk r IsIntentFile
found_of text (Ok f) (inl e) = absurd (no_file faults.NoMemory f (sym e))
found_of text (Ok f) (inr e) = reading_intents_found text f (sym e)
found_of text (Err e) given = tt
