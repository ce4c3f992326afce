-- A framer that stands for bytes, over a piece behind them.
use Rattle.std.proofs.Common.{◌≡◌, ℕ, List, [], ◌++◌, Some, None, Result, Ok, Err, OnOk, IfErr, length, drop, refl, sym, ap, subst, ◌∙◌, append_assoc}
use Rattle.std.proofs.Math.Seq.{drop-append_seam, drop-length}
use Rattle.xml_framer.proofs.ItemsBefore.{given_before}
use Rattle.xml_framer.proofs.Pieces.{run_append, stays}
use Rattle.xml_framer.specs.Machine.{IsFault, IsFrontOf, part_of, run}
use Rattle.xml_framer.specs.Readings.{HasTaken, IsReadBy, Stands, fault_of, framed, items_after, items_of, part_at}
use Rattle.xml_framer.specs.States.{State, from_start, turn}
use Rattle.xml_framer.specs.declared.fault.Fault.{Fault}
use Rattle.xml_framer.specs.declared.fault.FeedFault.{FeedFault}
use Rattle.xml_framer.specs.declared.fault.FeedFault.TheVariants as feed
use Rattle.xml_framer.specs.declared.items.Item.{Item}
use Rattle.xml_framer.specs.declared.limits.Limits.{Limits}

pub framed_more : (limits : Limits) (bytes piece : List ℕ) → framed limits (bytes ++ piece) ≡ run (framed limits bytes) piece
unfolding framed
framed_more limits bytes piece = run_append (turn (from_start limits) []) bytes piece

-- more bytes leave the machine where a run from its state leaves it, and add the items of that run
framed_after : (limits : Limits) (bytes piece : List ℕ) → let s = (framed limits bytes).state in framed limits (bytes ++ piece) ≡ turn (run (turn s []) piece).state (items_of limits bytes ++ (run (turn s []) piece).items)
framed_after limits bytes piece = framed_more limits bytes piece ∙ given_before (framed limits bytes).state (items_of limits bytes) piece

after_is : (limits : Limits) (bytes piece : List ℕ) → items_after limits bytes piece ≡ (run (turn (framed limits bytes).state []) piece).items
after_is limits bytes piece =
    let given = (run (turn (framed limits bytes).state []) piece).items in
    ap (λ t. drop (length (items_of limits bytes)) t.items) (framed_after limits bytes piece) ∙ drop-append_seam (items_of limits bytes) given

pub items_split : (limits : Limits) (bytes piece : List ℕ) → items_of limits (bytes ++ piece) ≡ items_of limits bytes ++ items_after limits bytes piece
items_split limits bytes piece = ap (λ t. t.items) (framed_after limits bytes piece) ∙ ap (λ more. items_of limits bytes ++ more) (sym (after_is limits bytes piece))

pub pieces_joined : (limits : Limits) (bytes a b : List ℕ) → items_after limits bytes (a ++ b) ≡ items_after limits bytes a ++ items_after limits (bytes ++ a) b
pieces_joined limits bytes a b =
    let before = items_of limits bytes in
    let first = items_after limits bytes a in
    let second = items_after limits (bytes ++ a) b in
    let apart : items_of limits ((bytes ++ a) ++ b) ≡ before ++ (first ++ second) = items_split limits (bytes ++ a) b ∙ (ap (λ all. all ++ second) (items_split limits bytes a) ∙ append_assoc before first second) in
    ap (λ all. drop (length before) (items_of limits all)) (sym (append_assoc bytes a b)) ∙ (ap (drop (length before)) apart ∙ drop-append_seam before (first ++ second))

pub nothing_after : (limits : Limits) (bytes piece : List ℕ) (f : Fault) → fault_of limits bytes ≡ Some f → (fault_of limits (bytes ++ piece) ≡ Some f) × (items_after limits bytes piece ≡ [])
nothing_after limits bytes piece f faulty =
    let same : framed limits (bytes ++ piece) ≡ framed limits bytes = framed_more limits bytes piece ∙ stays (framed limits bytes) piece f faulty in
    (ap (λ t. t.state.fault) same ∙ faulty, ap (λ t. drop (length (items_of limits bytes)) t.items) same ∙ drop-length (items_of limits bytes))

pub nothing_given : (limits : Limits) → (items_of limits [] ≡ []) × (fault_of limits [] ≡ None) × (part_at limits [] ≡ None)
unfolding framed part_of
nothing_given limits = (refl, refl, refl)

-- a run over a piece from where some bytes leave the machine, behind other items
run_is : (s : State) (items : List Item) (limits : Limits) (bytes piece : List ℕ) → Stands s limits bytes → run (turn s items) piece ≡ turn (framed limits (bytes ++ piece)).state (items ++ items_after limits bytes piece)
run_is s items limits bytes piece stands =
    ap (λ u. run (turn u items) piece) stands.state_is ∙ (given_before (framed limits bytes).state items piece
    ∙ ap (λ more. turn (run (turn (framed limits bytes).state []) piece).state (items ++ more)) (sym (after_is limits bytes piece))
    ∙ ap (λ t. turn t.state (items ++ items_after limits bytes piece)) (sym (framed_after limits bytes piece)))

-- items that are the first of a run's are the first of those due
pub due_after : (s : State) (items all : List Item) (limits : Limits) (bytes piece : List ℕ) → IsFrontOf all (run (turn s items) piece).items → Stands s limits bytes → IsFrontOf all (items ++ items_after limits bytes piece)
due_after s items all limits bytes piece due stands = subst (λ t. IsFrontOf all t.items) (run_is s items limits bytes piece stands) due

-- a framer that did what the machine does over a piece, and told its fault
pub read_by : (result : Result (Unit {0}) FeedFault) (old new : State) (items all : List Item) (limits : Limits) (bytes piece : List ℕ) → OnOk result (new.fault ≡ None) → IfErr result (λ e. IsFault e new.fault) → turn new all ≡ run (turn old items) piece → Stands old limits bytes → IsReadBy result limits bytes piece items new all
read_by result old new items all limits bytes piece none some same stands = told result none some where
  whole : turn new all ≡ turn (framed limits (bytes ++ piece)).state (items ++ items_after limits bytes piece)
  whole = same ∙ run_is old items limits bytes piece stands

  state : new ≡ (framed limits (bytes ++ piece)).state
  state = ap (λ t. t.state) whole

  taken : HasTaken limits bytes piece items new all
  taken = record { stands = record { state_is = state }; items_are = ap (λ t. t.items) whole }

  told : (answer : Result (Unit {0}) FeedFault) → OnOk answer (new.fault ≡ None) → IfErr answer (λ e. IsFault e new.fault) → IsReadBy answer limits bytes piece items new all
  told (Ok u) bounded faulty = (taken, sym (ap (λ s. s.fault) state) ∙ bounded)
  told (Err (feed.Fault f)) bounded faulty = (taken, sym (ap (λ s. s.fault) state) ∙ faulty)
  told (Err feed.NoMemory) bounded faulty = absurd faulty
