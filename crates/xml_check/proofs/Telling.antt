-- What is told of items and pieces, one after another.
use Rattle.std.proofs.Common.{◌≡◌, ℕ, Bool, true, false, List, [], ◌∷◌, ◌++◌, Option, Some, Result, Ok, Err, IfOk, refl, sym, ap, subst, ◌∙◌, append_assoc, codes}
use Rattle.xml_check.specs.Checked.{Told, told, told_after, told_item, told_items, told_last, told_turn, wrong_with}
use Rattle.xml_check.specs.Lines.{fault_line, item_line, strange_at, why_name}
use Rattle.xml_check.specs.Pieces.{IsToldOf, or_rest, or_strange, told_from, told_with}
use Rattle.xml_framer.specs.Machine.{HasFault, run}
use Rattle.xml_framer.specs.Limits.{server_limits}
use Rattle.xml_framer.specs.States.{State, Turn, from_start, turn}
use Rattle.xml_framer.specs.declared.limits.Limits.{Limits}
use Rattle.xml_framer.specs.declared.fault.Fault.{Fault}
use Rattle.xml_framer.specs.declared.fault.FeedFault.{FeedFault}
use Rattle.xml_framer.specs.declared.fault.FeedFault.TheVariants as feed
use Rattle.xml_framer.specs.declared.items.Item.{Item}

pub after_append : (a b : List ℕ) (r : Told) → told_after (a ++ b) r ≡ told_after a (told_after b r)
after_append a b r = ap (λ text. record { text = text; sound = r.sound }) (append_assoc a b r.text)

pub items_append : (a b : List Item) (last : Told) → told_items (a ++ b) last ≡ told_items a (told_items b last)
items_append [] b last = refl
items_append (i ∷ more) b last = ap (told_item (strange_at i) (item_line i)) (items_append more b last)

-- the laws of a run that pieces need
abbrev pub Pieces : Type 0
Pieces = (t : Turn) (a b : List ℕ) → run t (a ++ b) ≡ run (run t a) b

abbrev pub Behind : Type 0
Behind = (s : State) (items : List Item) (bs : List ℕ) → run (turn s items) bs ≡ turn (run (turn s []) bs).state (items ++ (run (turn s []) bs).items)

-- a piece without a fault: its items, and then what is told of the rest
pub sound_piece : Pieces → Behind → (old new : State) (items : List Item) (piece rest : List ℕ) → turn new items ≡ run (turn old []) piece
    → told_from old (piece ++ rest) ≡ told_items items (told_from new rest)
sound_piece pieces following old new items piece rest done =
    let apart : run (turn old []) (piece ++ rest) ≡ run (turn new items) rest = pieces (turn old []) piece rest ∙ ap (λ t. run t rest) (sym done) in
    let after = run (turn new []) rest in
    ap told_turn (apart ∙ following new items rest) ∙ items_append items after.items (told_last after.state)

abbrev pub Stays : Type 0
Stays = (t : Turn) (bs : List ℕ) (f : Fault) → t.state.fault ≡ Some f → run t bs ≡ t

-- a piece with a fault: its items and the fault
told_last_fault : (s : State) (fault : Fault) → s.fault ≡ Some fault → told_last s ≡ wrong_with (fault_line fault.at (why_name fault.why))
unfolding told_last
told_last_fault s fault e = rw (e) refl

fault_piece : Pieces → Stays → (old new : State) (items : List Item) (piece rest : List ℕ) (fault : Fault) → turn new items ≡ run (turn old []) piece → new.fault ≡ Some fault
    → told_from old (piece ++ rest) ≡ told_items items (wrong_with (fault_line fault.at (why_name fault.why)))
fault_piece pieces stays old new items piece rest fault done e =
    let apart : run (turn old []) (piece ++ rest) ≡ run (turn new items) rest = pieces (turn old []) piece rest ∙ ap (λ t. run t rest) (sym done) in
    ap told_turn (apart ∙ stays (turn new items) rest fault e) ∙ ap (told_items items) (told_last_fault new fault e)

pub sound_told : {E : Type 0} (result : Result Bool E) (old new : State) (given items slice : List Item) (piece before text : List ℕ)
    → Pieces → Behind → given ≡ [] → slice ≡ items → turn new items ≡ run (turn old given) piece
    → IfOk result (λ over. (rest : Told) → told_after before (told_items slice rest) ≡ or_rest over text rest)
    → IfOk result (λ over. IsToldOf over old new piece before text)
sound_told (Ok over) old new given items slice piece before text pieces following none same done told = λ rest.
    let begun : turn new items ≡ run (turn old []) piece = subst (λ g. turn new items ≡ run (turn old g) piece) none done in
    let all : told_from old (piece ++ rest) ≡ told_items slice (told_from new rest) =
    sound_piece pieces following old new items piece rest begun ∙ ap (λ is. told_items is (told_from new rest)) (sym same) in
    ap (told_after before) all ∙ told (told_from new rest)
sound_told (Err _) old new given items slice piece before text pieces following none same done told = tt

pub fault_told : (old new : State) (given items slice : List Item) (piece before text : List ℕ) (fault : Fault)
    → Pieces → Stays → given ≡ [] → slice ≡ items → turn new items ≡ run (turn old given) piece → new.fault ≡ Some fault
    → wrong_with text ≡ told_after before (told_items slice (wrong_with (fault_line fault.at (why_name fault.why))))
    → (rest : List ℕ) → told_after before (told_from old (piece ++ rest)) ≡ wrong_with text
fault_told old new given items slice piece before text fault pieces stays none same done e told rest =
    let begun : turn new items ≡ run (turn old []) piece = subst (λ g. turn new items ≡ run (turn old g) piece) none done in
    let line = wrong_with (fault_line fault.at (why_name fault.why)) in
    let all : told_from old (piece ++ rest) ≡ told_items slice line =
    fault_piece pieces stays old new items piece rest fault begun e ∙ ap (λ is. told_items is line) (sym same) in
    ap (told_after before) all ∙ sym told

-- what is told from the start is what is told of all
begun_told : (start : State) (limits : Limits) (before input : List ℕ) → start ≡ from_start limits → limits ≡ server_limits → before ≡ []
    → told_after before (told_from start input) ≡ told input
unfolding told
begun_told start limits before input e server none =
    ap (λ b. told_after b (told_from start input)) none ∙ ap (λ s. told_from s input) (e ∙ ap from_start server)

pub over_told : (over : Bool) (start last : State) (limits : Limits) (before input text : List ℕ) → start ≡ from_start limits → limits ≡ server_limits → before ≡ []
    → over ≡ true → told_after before (told_from start input) ≡ or_rest over text (told_last last) → told_with text false ≡ told input
over_told over start last limits before input text e server none is told =
    sym (told ∙ ap (λ o. or_rest o text (told_last last)) is) ∙ begun_told start limits before input e server none

pub end_told : (over sound : Bool) (start last : State) (limits : Limits) (before input text all : List ℕ) → start ≡ from_start limits → limits ≡ server_limits → before ≡ []
    → over ≡ false → told_after before (told_from start input) ≡ or_rest over text (told_last last)
    → told_with all sound ≡ told_after text (told_last last) → told_with all sound ≡ told input
end_told over sound start last limits before input text all e server none is told ends =
    ends ∙ (sym (told ∙ ap (λ o. or_rest o text (told_last last)) is) ∙ begun_told start limits before input e server none)

-- the fault that a call answers
pub fault_of : (answer : FeedFault) (fault : Fault) (old new : Turn) (bytes : List ℕ) → answer ≡ feed.Fault fault → HasFault answer old new bytes
    → (new ≡ run old bytes) × (new.state.fault ≡ Some fault)
fault_of answer fault old new bytes is has = subst (λ a. HasFault a old new bytes) is has

-- a strange header is told in place of what comes behind it
pub strange_told : (strange : Option ℕ) (at : ℕ) (before text new : List ℕ) (items : List Item) (last : Told) → strange ≡ Some at
    → ((rest : Told) → told_after before (told_items items rest) ≡ told_after text (or_strange strange rest))
    → new ≡ text ++ fault_line at (codes "InvalidNamespace") → wrong_with new ≡ told_after before (told_items items last)
strange_told strange at before text new items last is told written =
    ap wrong_with written ∙ sym (told last ∙ ap (λ s. told_after text (or_strange s last)) is)
