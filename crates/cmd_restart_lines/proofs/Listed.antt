-- The lines that a file stands for are a list of lines within the bounds of such lists.
use Rattle.std.proofs.Common.{◌≡◌, ℕ, zero, suc, ◌+◌, ◌*◌, ◌<◌, ◌≤◌, ◌^◌, Bool, true, false, List, [], ◌∷◌, ◌++◌, append_assoc, length, le-leb, refl, sym, ap, subst, ◌∙◌, length-append, arith}
use Rattle.std.proofs.lemmas.Bool.{and_from, ltb-true}
use Rattle.std.specs.Prelude.{IsTrue, ◌&&◌, nat_le}
use Rattle.cmd_restarts.specs.Files.{FileView}
use Rattle.cmd_restarts.specs.RestartFiles.{ArePauses, IsPause, IsRestartFile, is_next, without_next}
use Rattle.cmd_schedule.proofs.LineLists.{counted_one, listed}
use Rattle.cmd_schedule.specs.LineLists.{AreListed, IsLineList, counted_in, ticked_in, ticked_of}
use Rattle.cmd_schedule.specs.WireGrammar.{AreWireLines, WireAbove, above_by, are_few, is_made, may_run, nothing_above}
use Rattle.cmd_schedule.specs.declared.schedule.Count.TheVariants.{All}
use Rattle.cmd_schedule.specs.declared.schedule.Step.TheVariants.{Tick}
use Rattle.cmd_schedule.specs.declared.schedule.TheConstants.{MOST_DIALS}
use Rattle.cmd_schedule.specs.declared.schedule.WireLine.{WireLine}
use Rattle.cmd_schedule.specs.declared.schedule.WireStep.{WireStep}
use Rattle.cmd_schedule.specs.declared.schedule.WireStep.TheVariants as wire
use Rattle.cmd_restart_lines.specs.RestartLines.{as_schedule, expand, line_at, lines_cutting, lines_cutting_all, lines_from, lines_of, with_dial}

-- ---- what lists of lines come to, one behind the other

counted_append : (xs ys : List WireLine) → counted_in (xs ++ ys) ≡ counted_in xs + counted_in ys
counted_append [] ys = omega arith
counted_append (x ∷ xs) ys = (let rest = counted_append xs ys in omega (arith, rest))

ticked_append : (xs ys : List WireLine) → ticked_in (xs ++ ys) ≡ ticked_in xs + ticked_in ys
ticked_append [] ys = omega arith
ticked_append (x ∷ xs) ys = (let rest = ticked_append xs ys in omega (arith, rest))

-- ---- connections that are cut

made : (above : WireAbove) (k : ℕ) → 1 ≤ k → k ≤ above.dials → IsTrue (is_made above k)
made above k low high = and_from (nat_le 1 k) (nat_le k above.dials) (le-leb 1 k low) (le-leb k above.dials high)

cut_may : (above : WireAbove) (k : ℕ) → 1 ≤ k → k ≤ above.dials → IsTrue (may_run above (wire.Cut k 0 0))
cut_may above k low high = and_from (is_made above k && true) true (and_from (is_made above k) true (made above k low high) refl) refl

up_may : (above : WireAbove) (k : ℕ) → 1 ≤ k → k ≤ above.dials → IsTrue (may_run above (wire.Up k All))
up_may above k low high = and_from (is_made above k) true (made above k low high) refl

cutting_listed : (above : WireAbove) (number k : ℕ) (ys : List WireLine) → number < 2 ^ 32 → k ≤ above.dials → AreListed above ys → AreListed above (lines_cutting_all number k ++ ys)
cutting_listed above number zero ys small few are = are
cutting_listed above number (suc k) ys small few are =
    let one : 1 ≤ suc k = omega arith in
    let rest : AreListed above (lines_cutting number (suc k) ++ ys) = (small, cut_may above (suc k) one few, refl, (small, up_may above (suc k) one few, refl, are)) in
    subst (AreListed above) (sym (append_assoc (lines_cutting_all number k) (lines_cutting number (suc k)) ys)) (cutting_listed above number k (lines_cutting number (suc k) ++ ys) small (omega (arith, few)) rest)

cutting_long : (number k : ℕ) → length (lines_cutting_all number k) ≡ k + k
cutting_long number zero = refl
cutting_long number (suc k) = (let joined = length-append (lines_cutting_all number k) (lines_cutting number (suc k)) in let rest = cutting_long number k in omega (arith, joined, rest))

cutting_uncounted : (number k : ℕ) → counted_in (lines_cutting_all number k) ≡ 0
cutting_uncounted number zero = refl
cutting_uncounted number (suc k) = (let joined = counted_append (lines_cutting_all number k) (lines_cutting number (suc k)) in let rest = cutting_uncounted number k in omega (arith, joined, rest))

cutting_ticks_not : (number k : ℕ) → ticked_in (lines_cutting_all number k) ≡ 0
cutting_ticks_not number zero = refl
cutting_ticks_not number (suc k) = (let joined = ticked_append (lines_cutting_all number k) (lines_cutting number (suc k)) in let rest = cutting_ticks_not number k in omega (arith, joined, rest))

-- ---- how many connections there are

pub dials_same : (s : WireStep) (above : WireAbove) → (above_by s above).dials ≡ with_dial s above.dials
dials_same (wire.Common s) above = refl
dials_same (wire.Dial device) above = refl
dials_same (wire.Forget device) above = refl
dials_same (wire.Close device) above = refl
dials_same (wire.Up k count) above = refl
dials_same (wire.Down k count) above = refl
dials_same (wire.Cut k up down) above = refl
dials_same (wire.Pass k times) above = refl
dials_same (wire.Run times) above = refl

pub dials_few : (s : WireStep) (above : WireAbove) → IsTrue (are_few above s) → above.dials ≤ 10000 → (above_by s above).dials ≤ 10000
dials_few (wire.Common s) above are few = few
dials_few (wire.Dial device) above are few = (let below : above.dials < 10000 = ltb-true above.dials MOST_DIALS are in omega (arith, below))
dials_few (wire.Forget device) above are few = few
dials_few (wire.Close device) above are few = few
dials_few (wire.Up k count) above are few = few
dials_few (wire.Down k count) above are few = few
dials_few (wire.Cut k up down) above are few = few
dials_few (wire.Pass k times) above are few = few
dials_few (wire.Run times) above are few = few

-- ---- a line

-- The lines are listed, they are few, and they tick no more. What stands after them stands where it stood.
record IsListed (above : WireAbove) (line : WireLine) (first : List WireLine) : Type 0 where
  listed : (ys : List WireLine) → AreListed (above_by line.step above) ys → AreListed above (first ++ ys)
  short : length first ≤ 20001
  counted : counted_in first ≤ 1
  ticked : ticked_in first ≤ ticked_of line.step

line_listed : (is : Bool) (above : WireAbove) (line : WireLine) → line.number < 2 ^ 32 → IsTrue (may_run above line.step) → IsTrue (are_few above line.step) → above.dials ≤ 10000 → IsPause is line.step
    → IsListed above line (lines_of is above.dials line)
line_listed false above line small may fits few pause =
    let one = counted_one line.step in
    record { listed = λ ys are. (small, may, fits, are); short = omega arith; counted = omega (arith, one); ticked = omega arith }
line_listed true above line small may fits few pause =
    let number = line.number in
    let cuts = lines_cutting_all number above.dials in
    let last = line_at number (wire.Common (Tick 300000)) ∷ [] in
    let long = cutting_long number above.dials in
    let whole = length-append cuts last in
    let ticks : ticked_of line.step ≡ 300000 = ap ticked_of pause in
    let ticked = ticked_append cuts last in
    let none = cutting_ticks_not number above.dials in
    let counted = counted_append cuts last in
    let uncounted = cutting_uncounted number above.dials in
    record {
      listed = λ ys are.
          let same : AreListed above ys = subst (λ s. AreListed (above_by s above) ys) pause are in
          subst (AreListed above) (sym (append_assoc cuts last ys)) (cutting_listed above number above.dials (last ++ ys) small (omega arith) (small, refl, refl, same));
      short = omega (arith, whole, long, few);
      counted = omega (arith, counted, uncounted);
      ticked = omega (arith, ticks, ticked, none);
    }

-- ---- lines

record AreAllListed (above : WireAbove) (dialed : ℕ) (restarts : List ℕ) (lines : List WireLine) : Type 0 where
  all : AreListed above (lines_from dialed restarts lines)
  short : length (lines_from dialed restarts lines) ≤ 20001 * length lines
  counted : counted_in (lines_from dialed restarts lines) ≤ length lines
  ticked : ticked_in (lines_from dialed restarts lines) ≤ ticked_in lines

one_more : (above : WireAbove) (line : WireLine) (lines first later : List WireLine) → IsListed above line first → AreListed (above_by line.step above) later → length later ≤ 20001 * length lines → counted_in later ≤ length lines
    → ticked_in later ≤ ticked_in lines
    → AreListed above (first ++ later) × (length (first ++ later) ≤ 20001 * length (line ∷ lines)) × (counted_in (first ++ later) ≤ length (line ∷ lines)) × (ticked_in (first ++ later) ≤ ticked_in (line ∷ lines))
one_more above line lines first later one are long counted ticked =
    let joined = length-append first later in
    let counts = counted_append first later in
    let ticks = ticked_append first later in
    let short = one.short in
    let few = one.counted in
    let ticks_few = one.ticked in (
      one.listed later are,
      omega (arith, joined, short, long),
      omega (arith, counts, few, counted),
      omega (arith, ticks, ticks_few, ticked),
    )

all_listed : (lines : List WireLine) (above : WireAbove) (n dialed : ℕ) (restarts : List ℕ) → above.dials ≡ dialed → above.dials ≤ 10000 → n ≤ 100001 → AreWireLines above n lines → ArePauses restarts lines
    → AreAllListed above dialed restarts lines
all_listed [] above n dialed restarts same few low are pauses = record { all = tt; short = omega arith; counted = omega arith; ticked = omega arith }
all_listed (line ∷ lines) above n dialed restarts same few low are pauses =
    let is = is_next line.number restarts in
    let first : IsListed above line (lines_of is dialed line) =
    subst (λ d. IsListed above line (lines_of is d line)) same (line_listed is above line (omega (arith, are.0, are.1)) are.2 are.3 few pauses.0) in
    let rest =
    all_listed lines (above_by line.step above) (n + 1) (with_dial line.step dialed) (without_next is restarts) (dials_same line.step above ∙ ap (with_dial line.step) same) (dials_few line.step above are.3 few) (omega (arith, are.1)) are.4
    pauses.1 in
    let more = one_more above line lines (lines_of is dialed line) (lines_from (with_dial line.step dialed) (without_next is restarts) lines) first rest.all rest.short rest.counted rest.ticked in
    record { all = more.0; short = more.1; counted = more.2; ticked = more.3 }

-- ---- a file

lines_short : (above : WireAbove) (n : ℕ) (lines : List WireLine) → n ≤ 100001 → AreWireLines above n lines → length lines + n ≤ 100001
lines_short above n [] low are = omega (arith, low)
lines_short above n (line ∷ lines) low are = (let rest = lines_short (above_by line.step above) (n + 1) lines (omega (arith, are.1)) are.4 in omega (arith, rest))

pub file_listed : (f : FileView) → IsRestartFile f → IsLineList (as_schedule f)
unfolding expand
file_listed f is =
    let lines = f.schedule.lines in
    let all = all_listed lines nothing_above 2 0 f.restarts refl (omega arith) (omega arith) is.schedule.lines is.restarts in
    let few = lines_short nothing_above 2 lines (omega arith) is.schedule.lines in
    let whole = (listed f.schedule is.schedule).ticked in
    let short = all.short in
    let counted = all.counted in
    let ticked = all.ticked in
    record {
      keeps = is.schedule.keeps;
      lines = all.all;
      few = omega (arith, few, short);
      counted = omega (arith, few, counted);
      ticked = omega (arith, ticked, whole);
    }
