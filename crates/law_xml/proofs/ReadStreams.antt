-- What is read is spelled so: each byte keeps what is known of a stream.
use Rattle.std.proofs.Common.{◌≡◌, ℕ, ◌+◌, ◌<◌, ◌≤◌, ◌^◌, Bool, true, false, not, ◌||◌, ◌==◌, arith, if◌then◌else◌, List, [], ◌∷◌, ◌++◌, Option, Some, None, refl, sym, ap, subst, ◌∙◌, append_assoc, append-nil}
use Rattle.std.proofs.lemmas.Bool.{cond_both, not-false, or_parts, true≢false}
use Rattle.std.proofs.lemmas.Bool.Decides.{nat_tests}
use Rattle.std.specs.Option.{is_some}
use Rattle.std.specs.Prelude.{nat_le, nat_lt}
use Rattle.xml_tokens.specs.Tags.{is_empty}
use Rattle.xml_tokens.specs.Utf8.{continues}
use Rattle.law_xml.proofs.ReadInside.{inside_byte}
use Rattle.law_xml.proofs.ReadOutside.{outside_byte}
use Rattle.law_xml.proofs.ReadSoFar.{After, Explained, Hand, Kept, Read, in_force}
use Rattle.xml_framer.specs.Machine.{behind_byte, goes_on, is_too_long, part_of, run, shows_unlimited, step, taken, taken_in}
use Rattle.xml_framer.specs.States.{OpenElement, State, Turn, counted, fails, from_start, is_opening, is_text, moved, next_position, token_position, turn}
use Rattle.law_xml.proofs.WithinParts.{StreamIn}
use Rattle.law_xml.specs.StreamLimits.{IsStreamWithin}
use Rattle.law_xml.specs.Streams.{InForce, IsStream, StreamTo, nothing}
use Rattle.xml_framer.specs.declared.fault.Fault.{Fault}
use Rattle.xml_framer.specs.declared.fault.Why.{Why}
use Rattle.xml_framer.specs.declared.fault.Why.TheVariants as why
use Rattle.xml_framer.specs.declared.items.Item.{Item}
use Rattle.xml_framer.specs.declared.limits.Limits.{Limits}
use Rattle.xml_framer.specs.declared.states.Mode.{Mode}
use Rattle.xml_framer.specs.declared.states.Mode.TheVariants as mode
use Rattle.xml_framer.specs.declared.states.Phase.TheVariants as phase
use Rattle.law_xml.proofs.OffsetSteps.{none_some as no_fault}
use Rattle.xml_framer.proofs.PlainTags.{never as none_shown}
use Rattle.std.proofs.Math.Bool.{and-true}

-- a state of which this element and this token are in hand
abbrev with_hand : State → Option OpenElement → Mode → State
with_hand s o m = record s { here = o; lexical = record s.lexical { mode = m } }

-- there is room for the byte, which is counted
abbrev HasRoom : State → ℕ → ℕ → Type 0
HasRoom s used b = s.limits.bytes < 2 ^ 64 → 0 < used → shows_unlimited s b ≡ false → (used + 1 ≤ s.limits.bytes) × (s.positions.used ≡ used + 1)

byte : (given : Limits) (s : State) (items : List Item) (b : ℕ) (bytes : List ℕ) (used : ℕ) → Kept given s.positions.at s.lexical.spent s.limits bytes → continues s.pending b ≡ true → (used ≡ 0 → s.positions.used ≡ 0)
    → (o : Option OpenElement) (m : Mode) → HasRoom (with_hand s o m) used b → Hand o m (with_hand s o m) used items bytes → After given b bytes (taken_in m (turn (with_hand s o m) items) b)
byte given s items b bytes used k c idle None m room h = outside_byte given s items b bytes used k c idle h.0 m room h.1
byte given s items b bytes used k c idle (Some o) m room h = inside_byte given s o items b bytes h.0 used k c (λ few p. room few p (none_shown (is_opening m))) h.1 m h.2

below : (least n : ℕ) → nat_le least n ≡ false → n < least
below least n e = grind (arith, nat_tests)

some_used : (n : ℕ) → 0 < n → (nat_lt 0 n ≡ true) × ((n == 0) ≡ false)
some_used n p = (grind (arith, nat_tests), grind (arith, nat_tests))

has_room : (s : State) (b : ℕ) → is_too_long s b ≡ false → s.limits.bytes < 2 ^ 64 → 0 < s.positions.used → shows_unlimited s b ≡ false
    → (s.positions.used + 1 ≤ s.limits.bytes) × ((counted s).positions.used ≡ s.positions.used + 1)
unfolding is_too_long
has_room s b near few p limited =
    let some = some_used s.positions.used p in
    let less = below s.limits.bytes s.positions.used (sym (and-true (nat_le s.limits.bytes s.positions.used)) ∙ rw (some.0, limited) at near) in
    let next : next_position s.positions.used ≡ s.positions.used + 1 = omega (arith, few, less) in
    let is : (counted s).positions.used ≡ next_position s.positions.used = rw some.1 refl in
    (omega (arith, less), is ∙ next)

failed : (given : Limits) (t : Turn) (at : ℕ) (w : Why) (b : ℕ) (bytes : List ℕ) → Explained given (moved t (fails t.state at w)) (bytes ++ b ∷ [])
failed given t at w b bytes none = absurd (no_fault (record { at = at; why = w }) none)

-- to count the byte changes nothing of it
counted_hand : (o : Option OpenElement) (m : Mode) (s : State) (used : ℕ) (items : List Item) (bytes : List ℕ) → Hand o m s used items bytes → Hand o m (counted s) used items bytes
counted_hand None mode.Text s used items bytes h = h
counted_hand None mode.Reference s used items bytes h = h
counted_hand None mode.Opening s used items bytes h = h
counted_hand None mode.Bang s used items bytes h = h
counted_hand None mode.Question s used items bytes h = h
counted_hand None mode.Declaration s used items bytes h = h
counted_hand None mode.Tag s used items bytes h = h
counted_hand None mode.Footer s used items bytes h = h
counted_hand None mode.Section s used items bytes h = h
counted_hand (Some o) mode.Text s used items bytes h = h
counted_hand (Some o) mode.Reference s used items bytes h = h
counted_hand (Some o) mode.Opening s used items bytes h = h
counted_hand (Some o) mode.Bang s used items bytes h = h
counted_hand (Some o) mode.Question s used items bytes h = h
counted_hand (Some o) mode.Declaration s used items bytes h = h
counted_hand (Some o) mode.Tag s used items bytes h = h
counted_hand (Some o) mode.Footer s used items bytes h = h
counted_hand (Some o) mode.Section s used items bytes h = h

taken_byte : (given : Limits) (t : Turn) (b : ℕ) (bytes : List ℕ) → Read given t bytes → is_too_long t.state b ≡ false → continues t.state.pending b ≡ true
    → After given b bytes (taken (moved t (counted t.state)) b)
unfolding taken
taken_byte given t b bytes h near c =
    byte given (counted t.state) t.items b bytes t.state.positions.used h.kept c (λ e. rw e refl) t.state.here t.state.lexical.mode (has_room t.state b near)
    (counted_hand t.state.here t.state.lexical.mode t.state t.state.positions.used t.items bytes h.hand)

goes : (given : Limits) (t : Turn) (b : ℕ) (bytes : List ℕ) → Read given t bytes → Explained given (goes_on t b) (bytes ++ b ∷ [])
unfolding goes_on
goes given t b bytes h =
    let E = λ (u : Turn). Explained given u (bytes ++ b ∷ []) in
    let long = moved t (fails t.state t.state.positions.item_at why.TooLong) in
    let broken = moved t (fails t.state (token_position t.state) why.Encoding) in
    let on = behind_byte (taken (moved t (counted t.state)) b) b in
    cond_both (is_too_long t.state b) long (if not (continues t.state.pending b) then broken else on) E (λ e. failed given t _ _ b bytes)
    (λ e. cond_both (not (continues t.state.pending b)) broken on E (λ f. failed given t _ _ b bytes) (λ f. taken_byte given t b bytes h e (not-false (continues t.state.pending b) f)))

pub none_there : (o : Option Fault) → is_some o ≡ false → o ≡ None
none_there None e = refl
none_there (Some f) e = absurd (true≢false e)

fault_there : (o : Option Fault) → is_some o ≡ true → o ≡ None → ⊥
fault_there o e none = true≢false (sym e ∙ ap is_some none)

pub stepped : (given : Limits) (t : Turn) (b : ℕ) (bytes : List ℕ) → Explained given t bytes → Explained given (step t b) (bytes ++ b ∷ [])
stepped given t b bytes h =
    cond_both (is_some t.state.fault) t (goes_on t b) (λ u. Explained given u (bytes ++ b ∷ []))
    (λ e none. absurd (fault_there t.state.fault e none)) (λ e. goes given t b bytes (h (none_there t.state.fault e)))

ran : (given : Limits) (bs : List ℕ) (t : Turn) (bytes : List ℕ) → Explained given t bytes → Explained given (run t bs) (bytes ++ bs)
ran given [] t bytes h = subst (Explained given t) (sym (append-nil bytes)) h
ran given (b ∷ bs) t bytes h = subst (Explained given (run (step t b) bs)) (append_assoc bytes (b ∷ []) bs) (ran given bs (step t b) (bytes ++ b ∷ []) (stepped given t b bytes h))

pub begins : (limits : Limits) → limits.attributes < 2 ^ 32 → limits.namespace_bytes < 2 ^ 32 → Explained limits (turn (from_start limits) []) []
begins limits few short none = record {
  kept = record { at_is = refl; not_spent = refl; limits_are = refl; few_attributes = few; short_namespaces = short };
  hand = (refl, (refl, refl, λ p. (nothing (in_force phase.First [] []) [] [] refl refl refl refl refl, λ f. tt)));
}

-- nothing is unfinished
ended_hand : (o : Option OpenElement) (m : Mode) (s : State) (used : ℕ) (items : List Item) (bytes : List ℕ) → is_some o ≡ false → not (is_text m) ≡ false → s.pending ≡ [] → Hand o m s used items bytes → StreamIn s.limits (in_force s.lexical.phase s.scopes s.name) bytes items
ended_hand (Some o) m s used items bytes e f none h = absurd (true≢false e)
ended_hand None mode.Text s used items bytes e f none h = h.1.2 none
ended_hand None mode.Reference s used items bytes e f none h = absurd (true≢false f)
ended_hand None mode.Opening s used items bytes e f none h = absurd (true≢false f)
ended_hand None mode.Bang s used items bytes e f none h = absurd (true≢false f)
ended_hand None mode.Question s used items bytes e f none h = absurd (true≢false f)
ended_hand None mode.Declaration s used items bytes e f none h = absurd (true≢false f)
ended_hand None mode.Tag s used items bytes e f none h = absurd (true≢false f)
ended_hand None mode.Footer s used items bytes e f none h = absurd (true≢false f)
ended_hand None mode.Section s used items bytes e f none h = absurd (true≢false f)

nothing_left : (xs : List ℕ) → not (is_empty xs) ≡ false → xs ≡ []
nothing_left [] e = refl
nothing_left (x ∷ xs) e = absurd (true≢false e)

some_position : (n : ℕ) → Some n ≡ None → ⊥
some_position n e = cc

pub is_within : (given : Limits) (s : State) (items : List Item) (bytes : List ℕ) → s.fault ≡ None → part_of s ≡ None → Read given (turn s items) bytes → (now : InForce) × StreamIn s.limits now bytes items
unfolding part_of
is_within given s items bytes none part h =
    let open_here = is_some s.here || (not (is_text s.lexical.mode) || not (is_empty s.pending)) in
    let position : (if open_here then Some s.positions.item_at else None) ≡ None = rw (none, h.kept.not_spent) at part in
    let whole = closed open_here s.positions.item_at position in
    let p = or_parts (is_some s.here) _ whole in
    let q = or_parts (not (is_text s.lexical.mode)) (not (is_empty s.pending)) p.1 in
    (in_force s.lexical.phase s.scopes s.name, ended_hand s.here s.lexical.mode s s.positions.used items bytes p.0 q.0 (nothing_left s.pending q.1) h.hand)
  where
    closed : (b : Bool) (n : ℕ) → (if b then Some n else None) ≡ None → b ≡ false
    closed true n e = absurd (some_position n e)
    closed false n e = refl

pub is_whole : (given : Limits) (s : State) (items : List Item) (bytes : List ℕ) → s.fault ≡ None → part_of s ≡ None → Read given (turn s items) bytes → IsStream bytes items
is_whole given s items bytes none part h = let w = is_within given s items bytes none part h in (w.0, w.1.0)

abbrev following : Limits → List ℕ → Turn
following limits bytes = run (turn (from_start limits) []) bytes

pub what_is_read : (limits : Limits) (bytes : List ℕ) → limits.attributes < 2 ^ 32 → limits.namespace_bytes < 2 ^ 32
    → (following limits bytes).state.fault ≡ None → part_of (following limits bytes).state ≡ None → IsStream bytes (following limits bytes).items
what_is_read limits bytes few short none part =
    let end = following limits bytes in
    is_whole limits end.state end.items bytes none part (ran limits bytes (turn (from_start limits) []) [] (begins limits few short) none)

pub what_is_within : (limits : Limits) (bytes : List ℕ) → limits.bytes < 2 ^ 64 → limits.attributes < 2 ^ 32 → limits.namespace_bytes < 2 ^ 32
    → (following limits bytes).state.fault ≡ None → part_of (following limits bytes).state ≡ None
    → (now : InForce) × (stream : StreamTo now bytes (following limits bytes).items) × IsStreamWithin limits now bytes (following limits bytes).items stream
what_is_within limits bytes few_bytes few short none part =
    let end = following limits bytes in
    let read = ran limits bytes (turn (from_start limits) []) [] (begins limits few short) none in
    let w = is_within limits end.state end.items bytes none part read in
    let same = read.kept.limits_are in
    (w.0, w.1.0, subst (λ l. IsStreamWithin l w.0 bytes end.items w.1.0) same (w.1.1 (rw same few_bytes)))
