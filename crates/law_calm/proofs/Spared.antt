-- Where the server has in the end a session that it had before, it ended none of the device meanwhile.
use Rattle.std.proofs.Common.{◌≡◌, ◌⊎◌, ℕ, zero, suc, List, [], ◌∷◌, refl, sym, ap, ◌∙◌, subst, inl, inr, Option, None, Some}
use Rattle.sim_2_links.proofs.CutLinks.{some_one}
use Rattle.sim_2_links.proofs.Onward.{move_goes}
use Rattle.sim_2_links.proofs.Reached.{move_keeps}
use Rattle.sim_2_links.specs.Views.{View, Session, Row}
use Rattle.sim_2_links.specs.Links.{LinkKept}
use Rattle.sim_2_links.specs.Onward.{AreOnward}
use Rattle.sim_2_links.specs.Machine.{LinkMove, Cuts, Dials, LetsGo, Foots, Forgets, Puts, Queues, Requests, ReadsHand, AsksToResume, AsksToBind, ReadsFailed, ReadsResumed, ReadsBound, ReadsEnabled, ReadsStanza, ReadsRequest, ReadsCount, TakesHand, TakesResume, TakesLateResume, TakesStrangeResume, TakesHighResume, TakesBind, TakesEnable, TakesStanza, TakesRequest, TakesCount, TakesFoot, Parks, Hears, HearsEarly, Detaches, Shuts, EndsRow, Serves, Keeps, Demands, LinkMoves}
use Rattle.law_calm.proofs.Calm.{IsCalm}
use Rattle.law_calm.proofs.Staying.{IsCalmAnd}
use Rattle.law_calm.specs.Rounds.{IsAny, Leads, Goes, IsRound, AreRounds}

-- The connection is left alone, and the server ends no session of the device: none expires, none has a full queue, and it
-- takes no late word by which one ends.
abbrev pub IsSparing : {A : Type 0} → ℕ → LinkMove A → Type 0
IsSparing k (TakesBind j m) = ⊥
IsSparing k (TakesHighResume j) = ⊥
IsSparing k (HearsEarly j) = ⊥
IsSparing k (Shuts j ending) = ⊥
IsSparing k EndsRow = ⊥
IsSparing k move = IsCalm k move

-- ---- what each move makes of the server's session

-- it is as it was, or it is the same session; it ends; or one begins that never was
data RowStep {A : Type 0} (v next : View A) : Type 0 where
  Same : next.row ≡ v.row → RowStep v next
  Turned : (old new : Row A) → v.row ≡ Some old → next.row ≡ Some new → new.number ≡ old.number → RowStep v next
  Ended : next.row ≡ None → RowStep v next
  Begun : (new : Row A) → v.row ≡ None → next.row ≡ Some new → v.sessions new.number ≡ None → RowStep v next

abbrev row_of : {A : Type 0} (v : View A) → Option (Row A)
row_of v = v.row

row_step : {A : Type 0} (move : LinkMove A) (v next : View A) → LinkMoves move v next → RowStep v next
row_step (Cuts j a b) v next m = Same (ap row_of m.gives)
row_step (Dials j) v next m = Same (ap row_of m.gives)
row_step (LetsGo j) v next m = Same (ap row_of m.gives)
row_step (Foots j) v next m = Same (ap row_of m.gives)
row_step Forgets v next m = Same (ap row_of m.gives)
row_step (Puts j z) v next m = Same (ap row_of m.gives)
row_step (Queues z) v next m = Same (ap row_of m.gives)
row_step (Requests j) v next m = Same (ap row_of m.gives)
row_step (ReadsHand j) v next m = Same (ap row_of m.gives)
row_step (AsksToResume j) v next m = Same (ap row_of m.gives)
row_step (AsksToBind j) v next m = Same (ap row_of m.gives)
row_step (ReadsFailed j) v next m = Same (ap row_of m.gives)
row_step (ReadsResumed j) v next m = Same (ap row_of m.gives)
row_step (ReadsBound j n) v next m = Same (ap row_of m.gives)
row_step (ReadsEnabled j n) v next m = Same (ap row_of m.gives)
row_step (ReadsStanza j z) v next m = Same (ap row_of m.gives)
row_step (ReadsRequest j) v next m = Same (ap row_of m.gives)
row_step (ReadsCount j h) v next m = Same (ap row_of m.gives)
row_step (TakesHand j) v next m = Same (ap row_of m.gives)
row_step (TakesResume j) v next m = Turned m.row _ m.is_row (ap row_of m.gives) refl
row_step (TakesLateResume j) v next m = Turned m.row _ m.is_row (ap row_of m.gives) refl
row_step (TakesStrangeResume j) v next m = Same (ap row_of m.gives)
row_step (TakesHighResume j) v next m = Ended (ap row_of m.gives)
row_step (TakesBind j n) v next m = Begun _ m.none (ap row_of m.gives) m.fresh
row_step (TakesEnable j) v next m = Turned m.row _ m.is_row (ap row_of m.gives) refl
row_step (TakesStanza j z) v next m = Turned m.row _ m.is_row (ap row_of m.gives) refl
row_step (TakesRequest j) v next m = Same (ap row_of m.gives)
row_step (TakesCount j h) v next m = Turned m.row _ m.is_row (ap row_of m.gives) refl
row_step (TakesFoot j) v next m = Same (ap row_of m.gives)
row_step (Parks j) v next m = Turned m.row _ m.is_row (ap row_of m.gives) refl
row_step (Hears j) v next m = Same (ap row_of m.gives)
row_step (HearsEarly j) v next m = Ended (ap row_of m.gives)
row_step (Detaches j ending) v next m = Turned m.row _ m.is_row (ap row_of m.gives) refl
row_step (Shuts j ending) v next m = Ended (ap row_of m.gives)
row_step EndsRow v next m = Ended (ap row_of m.gives)
row_step (Serves j z) v next m = Turned m.row _ m.is_row (ap row_of m.gives) refl
row_step (Keeps z) v next m = Turned m.row _ m.is_row (ap row_of m.gives) refl
row_step (Demands j) v next m = Same (ap row_of m.gives)

-- ---- a session that is the server's, and one that was

abbrev pub RowIs : {A : Type 0} → ℕ → View A → Type 0
RowIs {A = A} number v = (r : Row A) × (v.row ≡ Some r) × (r.number ≡ number)

record Lost {A : Type 0} (number : ℕ) (v : View A) : Type 0 where
  session : Session A
  was : v.sessions number ≡ Some session
  other : (r : Row A) → v.row ≡ Some r → r.number ≡ number → ⊥

never_again : {A : Type 0} (number : ℕ) (v next : View A) → RowStep v next → Lost number v → (r : Row A) → next.row ≡ Some r → r.number ≡ number → ⊥
never_again number v next (Same same) lost r is e = lost.other r (sym same ∙ is) e
never_again {A = A} number v next (Turned old new was now same) lost r is e =
    let one : new ≡ r = some_one next.row new r now is in
    lost.other old was (sym same ∙ ap (λ (x : Row A). x.number) one ∙ e)
never_again number v next (Ended none) lost r is e = let no_way : ⊥ = cc in no_way
never_again {A = A} number v next (Begun new none now fresh) lost r is e =
    let one : new ≡ r = some_one next.row new r now is in
    let no : v.sessions number ≡ None = subst (λ x. v.sessions x ≡ None) (ap (λ (x : Row A). x.number) one ∙ e) fresh in
    let was = lost.was in
    let no_way : ⊥ = cc in no_way

lost_on : {A : Type 0} (number : ℕ) (move : LinkMove A) (v next : View A) → LinkMoves move v next → LinkKept v → Lost number v → Lost number next
lost_on number move v next made kept lost =
    let there = move_goes move v next made kept number lost.session lost.was in
    record { session = there.0; was = there.1; other = never_again number v next (row_step move v next made) lost }

by_step : {A : Type 0} (number : ℕ) (v next : View A) → RowStep v next → AreOnward v.sessions next.sessions → LinkKept v → RowIs number v → RowIs number next ⊎ Lost number next
by_step number v next (Same same) on kept (r, is, e) = inl (r, same ∙ is, e)
by_step {A = A} number v next (Turned old new was now same) on kept (r, is, e) =
    let one : old ≡ r = some_one v.row old r was is in
    inl (new, now, same ∙ ap (λ (x : Row A). x.number) one ∙ e)
by_step {A = A} number v next (Ended none) on kept (r, is, e) =
    let row = kept.row r is in
    let there = on number row.session (subst (λ x. v.sessions x ≡ Some row.session) e row.is) in
    inr (record { session = there.0; was = there.1; other = λ s now same. let no_way : ⊥ = cc in no_way })
by_step number v next (Begun new none now fresh) on kept (r, is, e) = absurd (let no_way : ⊥ = cc in no_way)

row_on : {A : Type 0} (number : ℕ) (move : LinkMove A) (v next : View A) → LinkMoves move v next → LinkKept v → RowIs number v → RowIs number next ⊎ Lost number next
row_on number move v next made kept is = by_step number v next (row_step move v next made) (move_goes move v next made kept) kept is

spares : {A : Type 0} (k number : ℕ) (move : LinkMove A) (v next : View A) → LinkMoves move v next → RowIs number v → RowIs number next → IsCalm k move → IsSparing k move
spares k number (TakesBind j n) v next m (r, is, e) after calm = let none = m.none in let no_way : ⊥ = cc in no_way
spares {A = A} k number (TakesHighResume j) v next m before (r, is, e) calm = let none : next.row ≡ None = ap row_of m.gives in let no_way : ⊥ = cc in no_way
spares {A = A} k number (HearsEarly j) v next m before (r, is, e) calm = let none : next.row ≡ None = ap row_of m.gives in let no_way : ⊥ = cc in no_way
spares {A = A} k number (Shuts j ending) v next m before (r, is, e) calm = let none : next.row ≡ None = ap row_of m.gives in let no_way : ⊥ = cc in no_way
spares {A = A} k number EndsRow v next m before (r, is, e) calm = let none : next.row ≡ None = ap row_of m.gives in let no_way : ⊥ = cc in no_way
spares k number _ v next m before after calm = calm

-- ---- along moves, one after another

lost_along : {A : Type 0} (kind : LinkMove A → Type 0) (number : ℕ) (moves : List (LinkMove A)) (v last : View A) → Leads kind moves v last → LinkKept v → Lost number v → LinkKept last × Lost number last
lost_along kind number [] v last same kept lost = subst (λ x. LinkKept x × Lost number x) (sym same) (kept, lost)
lost_along kind number (move ∷ moves) v last (next, ok, made, more) kept lost = lost_along kind number moves next last more (move_keeps move v next made kept) (lost_on number move v next made kept lost)

row_along : {A : Type 0} (kind : LinkMove A → Type 0) (number : ℕ) (moves : List (LinkMove A)) (v last : View A) → Leads kind moves v last → LinkKept v → RowIs number v → LinkKept last × (RowIs number last ⊎ Lost number last)
row_along kind number [] v last same kept is = subst (λ x. LinkKept x × (RowIs number x ⊎ Lost number x)) (sym same) (kept, inl is)
row_along kind number (move ∷ moves) v last (next, ok, made, more) kept is =
    let then = move_keeps move v next made kept in
    elim (row_on number move v next made kept is) [
      | inl now ↦ row_along kind number moves next last more then now
      | inr lost ↦ let end = lost_along kind number moves next last more then lost in (end.0, inr end.1)
    ]

not_lost : {A : Type 0} (number : ℕ) (v : View A) → RowIs number v → Lost number v → ⊥
not_lost number v (r, is, e) lost = lost.other r is e

spared_leads : {A : Type 0} (k number : ℕ) (moves : List (LinkMove A)) (v last : View A) → Leads (IsCalmAnd IsAny k) moves v last → LinkKept v → RowIs number v → RowIs number last → Leads (IsSparing k) moves v last
spared_leads k number [] v last same kept is at = same
spared_leads k number (move ∷ moves) v last (next, ok, made, more) kept is at =
    let then = move_keeps move v next made kept in
    elim (row_on number move v next made kept is) [
      | inl now ↦ (next, spares k number move v next made is now ok.1, made, spared_leads k number moves next last more then now at)
      | inr lost ↦ absurd (not_lost number last at (lost_along (IsCalmAnd IsAny k) number moves next last more then lost).1)
    ]

spared_goes : {A : Type 0} (k number : ℕ) (v last : View A) → Goes (IsCalmAnd IsAny k) v last → LinkKept v → RowIs number v → RowIs number last → Goes (IsSparing k) v last
spared_goes k number v last goes kept is at = record { moves = goes.moves; leads = spared_leads k number goes.moves v last goes.leads kept is at }

-- ---- rounds

abbrev IsOrWas : {A : Type 0} → ℕ → View A → Type 0
IsOrWas number v = LinkKept v × (RowIs number v ⊎ Lost number v)

going : {A : Type 0} (kind : LinkMove A → Type 0) (number : ℕ) (v last : View A) → Goes kind v last → IsOrWas number v → IsOrWas number last
going kind number v last goes (kept, inl is) = row_along kind number goes.moves v last goes.leads kept is
going kind number v last goes (kept, inr lost) = let end = lost_along kind number goes.moves v last goes.leads kept lost in (end.0, inr end.1)

in_round : {A : Type 0} (kind : LinkMove A → Type 0) (k number : ℕ) (v last : View A) → IsRound kind k v last → IsOrWas number v → IsOrWas number last
in_round kind k number v last round it = going kind number round.read last round.rest (going kind number round.taken round.read round.down (going kind number v round.taken round.up it))

lost_going : {A : Type 0} (kind : LinkMove A → Type 0) (number : ℕ) (v last : View A) → Goes kind v last → LinkKept v × Lost number v → LinkKept last × Lost number last
lost_going kind number v last goes (kept, lost) = lost_along kind number goes.moves v last goes.leads kept lost

lost_round : {A : Type 0} (kind : LinkMove A → Type 0) (k number : ℕ) (v last : View A) → IsRound kind k v last → LinkKept v × Lost number v → LinkKept last × Lost number last
lost_round kind k number v last round it = lost_going kind number round.read last round.rest (lost_going kind number round.taken round.read round.down (lost_going kind number v round.taken round.up it))

lost_rounds : {A : Type 0} (kind : LinkMove A → Type 0) (k number n : ℕ) (v last : View A) → AreRounds kind k n v last → LinkKept v × Lost number v → LinkKept last × Lost number last
lost_rounds kind k number zero v last same it = subst (λ x. LinkKept x × Lost number x) (sym same) it
lost_rounds kind k number (suc n) v last (next, round, more) it = lost_rounds kind k number n next last more (lost_round kind k number v next round it)

spared_round : {A : Type 0} (k number : ℕ) (v last : View A) → IsRound (IsCalmAnd IsAny k) k v last → LinkKept v → RowIs number v → RowIs number last → IsRound (IsSparing k) k v last
spared_round {A = A} k number v last round kept is at = record {
  taken = round.taken;
  up = spared_goes k number v round.taken round.up kept is at_taken;
  up_empty = round.up_empty;
  read = round.read;
  down = spared_goes k number round.taken round.read round.down taken.0 at_taken at_read;
  down_empty = round.down_empty;
  rest = spared_goes k number round.read last round.rest read.0 at_read at;
}
  where
    taken : IsOrWas number round.taken
    taken = going (IsCalmAnd IsAny k) number v round.taken round.up (kept, inl is)

    read : IsOrWas number round.read
    read = going (IsCalmAnd IsAny k) number round.taken round.read round.down taken

    at_read : RowIs number round.read
    at_read = elim read.1 [ inl now ↦ now | inr lost ↦ absurd (not_lost number last at (lost_going (IsCalmAnd IsAny k) number round.read last round.rest (read.0, lost)).1) ]

    at_taken : RowIs number round.taken
    at_taken = elim taken.1 [ inl now ↦ now | inr lost ↦ absurd (not_lost number round.read at_read (lost_going (IsCalmAnd IsAny k) number round.taken round.read round.down (taken.0, lost)).1) ]

pub spared_rounds : {A : Type 0} (k number n : ℕ) (v last : View A) → AreRounds (IsCalmAnd IsAny k) k n v last → LinkKept v → RowIs number v → RowIs number last → AreRounds (IsSparing k) k n v last
spared_rounds k number zero v last same kept is at = same
spared_rounds {A = A} k number (suc n) v last (next, round, more) kept is at =
    let then : IsOrWas number next = in_round (IsCalmAnd IsAny k) k number v next round (kept, inl is) in
    let now : RowIs number next = elim then.1 [ inl here ↦ here | inr lost ↦ absurd (not_lost number last at (lost_rounds (IsCalmAnd IsAny k) k number n next last more (then.0, lost)).1) ] in
    (next, spared_round k number v next round kept is now, spared_rounds k number n next last more then.0 now at)
