-- Of the first bytes of a written stream the items are read of which all bytes are there.
use Rattle.std.proofs.Common.{◌≡◌, ℕ, zero, suc, ◌+◌, ◌-◌, ◌<◌, ◌^◌, leb, true, false, List, [], ◌∷◌, ◌++◌, None, codes, length, take, drop, refl, sym, ap, subst, ◌∙◌, ⊎_elim, arith, append_assoc, append-nil, length-append}
use Rattle.std.proofs.Math.Seq.{take-append-add}
use Rattle.std.proofs.lemmas.Bool.{cases_Bool, cond-true, cond-false}
use Rattle.std.proofs.lemmas.Bool.Decides.{nat_tests}
use Rattle.std.proofs.lemmas.List.{take-append-drop, take-append-le}
use Rattle.std.proofs.lemmas.List.Elements.{recursion_from_All}
use Rattle.std.specs.List.{All, AllByRecursion}
use Rattle.xml_framer.proofs.Pieces.{run_append}
use Rattle.xml_framer.specs.Machine.{run}
use Rattle.xml_framer.specs.States.{State, Turn, from_start, turn}
use Rattle.xml_framer.specs.declared.items.Item.{Item}
use Rattle.xml_framer.specs.declared.items.Item.TheVariants as item
use Rattle.xml_framer.specs.declared.limits.Limits.{Limits}
use Rattle.xml_framer.specs.declared.states.Phase.{Phase}
use Rattle.xml_framer.specs.declared.states.Phase.TheVariants as phase
use Rattle.law_xml.specs.Spells.{as_written, placed, written_scope}
use Rattle.law_xml.specs.Standing.{Gives, StandsOutside}
use Rattle.law_xml.specs.Streams.{position_of}
use Rattle.law_xml.specs.WrittenStreams.{ItemFits, MayFollow, MayStand, phase_after, read_item, read_items, whole_items, written_item, written_items}
use Rattle.law_xml.proofs.RunPositions.{no_fault_before}
use Rattle.law_xml.proofs.StreamRuns.{position_there, stands_first}
use Rattle.law_xml.proofs.WrittenFits.{written_element_is_read}
use Rattle.law_xml.proofs.WrittenHeaders.{first_header_is_read, footer_is_read, next_header_is_read}
use Rattle.law_xml.proofs.WrittenRuns.{AreLimits, IsAfterHeader, is_after}

-- ---- one item

abbrev read_at : ℕ → Item → Item
read_at position (item.Header at h) = item.Header position (as_written h)
read_at position (item.Element e) = item.Element e
read_at position item.Footer = item.Footer

placed_there : (position : ℕ) (i : Item) → placed position (read_at position i) ≡ read_at position i
placed_there position (item.Header at h) = refl
placed_there position (item.Element e) = refl
placed_there position item.Footer = refl

read_there : (offset : ℕ) (i : Item) → read_at (position_of offset) i ≡ read_item offset i
read_there offset (item.Header at h) = refl
read_there offset (item.Element e) = refl
read_there offset item.Footer = refl

abbrev GivesItem : State → List Item → Item → Type 0
GivesItem s said i = Gives s said (written_item i) (read_at s.positions.at i) (phase_after i) written_scope (codes "stream:stream")

first_item : (s : State) (said : List Item) (i : Item) → StandsOutside s phase.First [] [] → MayStand phase.First i → ItemFits s.limits i → GivesItem s said i
first_item s said (item.Header at h) stands may fits = first_header_is_read s said [] [] h fits.0 fits.1 stands
first_item s said (item.Element e) stands may fits = absurd may
first_item s said item.Footer stands may fits = absurd may

between : (s : State) (said : List Item) (i : Item) → AreLimits s.limits → StandsOutside s phase.Between written_scope (codes "stream:stream") → ItemFits s.limits i → GivesItem s said i
between s said (item.Header at h) limited stands fits = next_header_is_read s said written_scope (codes "stream:stream") h fits.0 fits.1 limited.few limited.short stands
between s said (item.Element e) limited stands fits = written_element_is_read s said e fits.0 fits.1 fits.2 stands
between s said item.Footer limited stands fits = footer_is_read s said written_scope stands

next_item : (s : State) (said : List Item) (p : Phase) (i : Item) → AreLimits s.limits → IsAfterHeader p → StandsOutside s p written_scope (codes "stream:stream") → MayStand p i → ItemFits s.limits i → GivesItem s said i
next_item s said phase.First i limited after stands may fits = absurd after
next_item s said phase.FirstDeclared i limited after stands may fits = absurd may
next_item s said phase.Between i limited after stands may fits = between s said i limited stands fits
next_item s said phase.Declared i limited after stands may fits = absurd may
next_item s said phase.Ended i limited after stands may fits = absurd may

-- ---- the first bytes

-- these bytes give these items more, and no fault
record Gave (s : State) (said : List Item) (bytes : List ℕ) (more : List Item) : Type 0 where
  items : (run (turn s said) bytes).items ≡ said ++ more
  no_fault : (run (turn s said) bytes).state.fault ≡ None

nothing_more : (s : State) (said : List Item) → s.fault ≡ None → Gave s said [] []
nothing_more s said none = record { items = sym (append-nil said); no_fault = none }

-- before the last byte of an item nothing is given
before_last : (s : State) (said : List Item) (bytes : List ℕ) (i : Item) (p : Phase) (g : Gives s said bytes i p written_scope (codes "stream:stream")) (n : ℕ) → n < length bytes → Gave s said (take n bytes) []
before_last s said bytes i p g n less =
    let whole : run (run (turn s said) (take n bytes)) (drop n bytes) ≡ turn g.following (said ++ placed s.positions.at i ∷ []) =
    sym (run_append (turn s said) (take n bytes) (drop n bytes)) ∙ ap (run (turn s said)) (take-append-drop n bytes) ∙ g.run_is in
    record {
      items = g.none_before n less ∙ sym (append-nil said);
      no_fault = no_fault_before (run (turn s said) (take n bytes)) (drop n bytes) (ap (λ (t : Turn). t.state.fault) whole ∙ g.stands.no_fault);
    }

-- an item, and then what the bytes after it give
after_item : (s t : State) (said : List Item) (first rest : List ℕ) (i : Item) (more : List Item) → run (turn s said) first ≡ turn t (said ++ i ∷ []) → Gave t (said ++ i ∷ []) rest more → Gave s said (first ++ rest) (i ∷ more)
after_item s t said first rest i more runs h =
    let whole : run (turn s said) (first ++ rest) ≡ run (turn t (said ++ i ∷ [])) rest = run_append (turn s said) first rest ∙ ap (λ u. run u rest) runs in
    record {
      items = ap (λ (u : Turn). u.items) whole ∙ h.items ∙ append_assoc said (i ∷ []) more;
      no_fault = ap (λ (u : Turn). u.state.fault) whole ∙ h.no_fault;
    }

-- an item in whole, or its first bytes
abbrev Pieces : State → List Item → ℕ → List Item → ℕ → Type 0
Pieces s said offset items n = Gave s said (take n (written_items items)) (read_items offset (whole_items n items))

one_more : (s : State) (said : List Item) (offset : ℕ) (i : Item) (more : List Item) (n : ℕ) → s.positions.at ≡ position_of offset → (g : GivesItem s said i)
    → ((t : State) (items : List Item) (k : ℕ) → StandsOutside t (phase_after i) written_scope (codes "stream:stream") → t.limits ≡ s.limits → t.positions.at ≡ position_of (offset + length (written_item i))
    → Pieces t items (offset + length (written_item i)) more k)
    → Pieces s said offset (i ∷ more) n
one_more s said offset i more n at g others =
    let w = written_item i in
    let rest = written_items more in
    let item_is : placed s.positions.at (read_at s.positions.at i) ≡ read_item offset i = placed_there s.positions.at i ∙ ap (λ m. read_at m i) at ∙ read_there offset i in
    let runs : run (turn s said) w ≡ turn g.following (said ++ read_item offset i ∷ []) = g.run_is ∙ ap (λ j. turn g.following (said ++ j ∷ [])) item_is in
    ⊎_elim
    (λ (fits : leb (length w) n ≡ true).
    let k = n - length w in
    let sum : n ≡ length w + (n - length w) = grind (arith, nat_tests) in
    let bytes_are : take n (w ++ rest) ≡ w ++ take k rest = ap (λ m. take m (w ++ rest)) sum ∙ take-append-add w rest k in
    let there = position_there s g.following said (said ++ read_item offset i ∷ []) w offset at runs g.stands.no_fault in
    let after = others g.following (said ++ read_item offset i ∷ []) k g.stands g.same_limits there in
    let items_are : whole_items n (i ∷ more) ≡ i ∷ whole_items k more = cond-true (leb (length w) n) (i ∷ whole_items k more) [] fits in
    subst (λ l. Gave s said (take n (w ++ rest)) (read_items offset l)) (sym items_are)
    (subst (λ l. Gave s said l (read_items offset (i ∷ whole_items k more))) (sym bytes_are)
    (after_item s g.following said w (take k rest) (read_item offset i) (read_items (offset + length w) (whole_items k more)) runs after)))
    (λ (cut : leb (length w) n ≡ false).
    let less : n < length w = grind (arith, nat_tests) in
    let bytes_are : take n (w ++ rest) ≡ take n w = take-append-le n w rest (omega (arith, less)) in
    let items_are : whole_items n (i ∷ more) ≡ [] = cond-false (leb (length w) n) (i ∷ whole_items (n - length w) more) [] cut in
    subst (λ l. Gave s said (take n (w ++ rest)) (read_items offset l)) (sym items_are)
    (subst (λ l. Gave s said l []) (sym bytes_are) (before_last s said w (read_at s.positions.at i) (phase_after i) g n less)))
    (cases_Bool (leb (length w) n))

none_taken : (n : ℕ) → take {A = ℕ} n [] ≡ []
none_taken zero = refl
none_taken (suc n) = refl

pieces_from : (limits : Limits) (p : Phase) (s : State) (said : List Item) (offset : ℕ) (items : List Item) (n : ℕ) → AreLimits limits → IsAfterHeader p → s.limits ≡ limits
    → StandsOutside s p written_scope (codes "stream:stream") → s.positions.at ≡ position_of offset → MayFollow p items → AllByRecursion (ItemFits limits) items → Pieces s said offset items n
pieces_from limits p s said offset [] n limited after same stands at may fits = subst (λ l. Gave s said l []) (sym (none_taken n)) (nothing_more s said stands.no_fault)
pieces_from limits p s said offset (i ∷ more) n limited after same stands at may fits =
    one_more s said offset i more n at
    (next_item s said p i (subst AreLimits (sym same) limited) after stands may.0 (subst (λ l. ItemFits l i) (sym same) fits.0))
    (λ t items k there limits_are at_position. pieces_from limits (phase_after i) t items (offset + length (written_item i)) more k limited (is_after i) (limits_are ∙ same) there at_position may.1 fits.1)

all_pieces : (limits : Limits) (items : List Item) (n : ℕ) → AreLimits limits → MayFollow phase.First items → AllByRecursion (ItemFits limits) items → Pieces (from_start limits) [] 0 items n
all_pieces limits [] n limited may fits = subst (λ l. Gave (from_start limits) [] l []) (sym (none_taken n)) (nothing_more (from_start limits) [] refl)
all_pieces limits (i ∷ more) n limited may fits =
    one_more (from_start limits) [] 0 i more n refl (first_item (from_start limits) [] i (stands_first limits) may.0 fits.0)
    (λ t items k there limits_are at_position. pieces_from limits (phase_after i) t items (0 + length (written_item i)) more k limited (is_after i) limits_are there at_position may.1 fits.1)

pub pieces_are_read : (limits : Limits) (items : List Item) (n : ℕ) → limits.attributes < 2 ^ 32 → limits.namespace_bytes < 2 ^ 32 → MayFollow phase.First items → All (ItemFits limits) items
    → ((run (turn (from_start limits) []) (take n (written_items items))).items ≡ read_items 0 (whole_items n items)) × ((run (turn (from_start limits) []) (take n (written_items items))).state.fault ≡ None)
pieces_are_read limits items n few short may fits =
    let g = all_pieces limits items n (record { few = few; short = short }) may (recursion_from_All (ItemFits limits) items fits) in
    (g.items, g.no_fault)

-- ---- which items are whole

rest_of_length : (a b k : ℕ) → (a + b + k) - a ≡ b + k
rest_of_length a b k = omega arith

is_within : (a b k : ℕ) → leb a (a + b + k) ≡ true
is_within a b k = grind (arith, nat_tests)

is_beyond : (a k : ℕ) → k < a → leb a (0 + k) ≡ false
is_beyond a k less = grind (arith, nat_tests)

whole_first : (i : Item) (more others : List Item) (k : ℕ) → whole_items (length (written_items more) + k) others ≡ more → whole_items (length (written_items (i ∷ more)) + k) (i ∷ others) ≡ i ∷ more
whole_first i more others k is =
    let a = length (written_item i) in
    let b = length (written_items more) in
    ap (λ n. whole_items (n + k) (i ∷ others)) (length-append (written_item i) (written_items more))
    ∙ cond-true (leb a (a + b + k)) (i ∷ whole_items ((a + b + k) - a) others) [] (is_within a b k)
    ∙ ap (λ n. i ∷ whole_items n others) (rest_of_length a b k)
    ∙ ap (λ l. i ∷ l) is

-- those before the item in which the bytes end
pub whole_before : (done : List Item) (i : Item) (more : List Item) (k : ℕ) → k < length (written_item i) → whole_items (length (written_items done) + k) (done ++ i ∷ more) ≡ done
whole_before [] i more k less = cond-false (leb (length (written_item i)) (0 + k)) (i ∷ whole_items (0 + k - length (written_item i)) more) [] (is_beyond (length (written_item i)) k less)
whole_before (j ∷ done) i more k less = whole_first j done (done ++ i ∷ more) k (whole_before done i more k less)

-- all of them, where all bytes are there
pub whole_all : (items : List Item) (k : ℕ) → whole_items (length (written_items items) + k) items ≡ items
whole_all [] k = refl
whole_all (i ∷ more) k = whole_first i more more k (whole_all more k)
