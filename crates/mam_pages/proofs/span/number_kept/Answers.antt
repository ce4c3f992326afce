use Rattle.std.proofs.Common.{rules, ◌≡◌, ◌≢◌, ◌≤◌, ◌<◌, ◌^◌, ℕ, ◌-◌, List, Some, None, sym, ap, ◌∙◌, arith}
use Rattle.std.specs.Option.{option_map}
use Rattle.mam_archive.specs.Entries.{EntryView}
use Rattle.mam_archive.specs.Ids.{id_of}
use Rattle.mam_pages.proofs.Placed.{IdsDiffer, find_kept, find_lost, placed}
use Rattle.mam_pages.specs.PageOf.{entry_of_id}
use Rattle.mam_pages.specs.Spans.{IsNumbered, number_of_entry}
use Rattle.mam_pages.proofs.span.number_kept.Goals.{then-number-first-via-then-number-first, then-number-first-via-else-number-first+then-last-number}
use Rattle.mam_pages.proofs.span.number_kept.Goals as goal

-- an id that is no number's, or the number's of no entry
lost : (id : List ℕ) (first last : ℕ) → last < 2 ^ 64 → ((m : ℕ) → 1 ≤ m → m < 2 ^ 64 → first ≤ m → m ≤ last → id ≢ id_of m) →
    (es : List EntryView) → IsNumbered first last es → option_map number_of_entry (entry_of_id id es) ≡ None
lost id first last few unknown es known =
    let at = placed first last es known in
    ap (option_map number_of_entry)
    (find_lost id (first - 1) es at.1.follow (λ m above below. unknown m (omega arith) (omega (arith, at.1.end)) (omega (arith, at.0)) (omega (arith, at.1.end))))

outside : (id : List ℕ) (first last n : ℕ) → last < 2 ^ 64 → n < 2 ^ 64 → IdsDiffer → id ≡ id_of n → (first ≤ n → last < n) →
    (es : List EntryView) → IsNumbered first last es → option_map number_of_entry (entry_of_id id es) ≡ None
outside id first last n few fits differ is out es known =
    lost id first last few (λ m low fits' above below same.
    let one : n ≡ m = differ n m fits fits' (sym is ∙ same) in
    let past : last < n = out (omega (arith, one)) in
    omega (arith, one)) es known

-- the id of an entry's number
kept : (id : List ℕ) (first last n : ℕ) → last < 2 ^ 64 → IdsDiffer → id ≡ id_of n → first ≤ n → n ≤ last →
    (es : List EntryView) → IsNumbered first last es → option_map number_of_entry (entry_of_id id es) ≡ Some n
kept id first last n few differ is above below es known =
    let at = placed first last es known in
    rw is (find_kept n (first - 1) es differ at.1.follow (omega (arith, at.1.end)) (omega (arith, at.0)) (omega (arith, at.1.end)))

pub returns-in_err-number-clause-number : goal.returns-in_err-number-clause-number
returns-in_err-number-clause-number c es known =
    lost c.args.id.now c.args.first c.args.last c.ranges.last.fits (λ m low fits above below. c.in_err-number.ensures.none m low fits) es known ∙ sym c.from_residual.ensures

pub returns-then-number-first-clause-number : goal.returns-then-number-first-clause-number
returns-then-number-first-clause-number c =
    let found = c.in_ok-number.ensures.found in
    elim c.then-number-first.branch [
      | then-number-first-via-then-number-first w ↦
          outside c.args.id.now c.args.first c.args.last c.in_ok-number.number c.ranges.last.fits (omega (arith, w.if-number-first.true, c.ranges.first.fits)) c.ids_differ.ensures found.1 (λ above. omega (arith, w.if-number-first.true))
      | then-number-first-via-else-number-first+then-last-number w ↦
          outside c.args.id.now c.args.first c.args.last c.in_ok-number.number c.ranges.last.fits (search rules) c.ids_differ.ensures found.1 (λ above. w.if-last-number.true)
    ]

pub returns-clause-number : goal.returns-clause-number
returns-clause-number c =
    kept c.args.id.now c.args.first c.args.last c.in_ok-number.number c.ranges.last.fits c.ids_differ.ensures c.in_ok-number.ensures.found.1 c.if-number-first.false c.if-last-number.false
