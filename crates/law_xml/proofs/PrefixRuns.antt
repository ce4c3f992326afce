-- What the bytes of a prefix are, whatever follows them.
use Rattle.std.proofs.Common.{◌≡◌, ℕ, ◌<◌, ◌≤◌, ◌^◌, ◌⊎◌, ⊎_elim, true, false, true≢false, not, ◌||◌, ◌&&◌, List, [], ◌∷◌, ◌++◌, length, length-append, take, Option, Some, None, refl, sym, ap, subst, ◌∙◌, append_assoc, append-nil, arith}
use Rattle.std.proofs.lemmas.Bool.{and_parts, cases_Bool, cases_lt, ltb-true}
use Rattle.std.proofs.Math.Seq.{take-append_seam}
use Rattle.std.proofs.lemmas.List.{take-append-le, take_all}
use Rattle.std.specs.Option.{is_some}
use Rattle.xml_tokens.specs.Tags.{is_empty}
use Rattle.xml_framer.proofs.Pieces.{run_append}
use Rattle.law_xml.proofs.CountLaws.{takes}
use Rattle.law_xml.proofs.FaultLaws.{goes, long}
use Rattle.law_xml.proofs.PrefixSteps.{IsFirst, Keeps, begins_from, first_from, has_part, keeps_on}
use Rattle.law_xml.proofs.ReadSoFar.{Hand, Read}
use Rattle.law_xml.proofs.ReadStreams.{begins, is_within, stepped}
use Rattle.law_xml.proofs.RunPositions.{no_fault_before}
use Rattle.law_xml.proofs.StreamRuns.{stream_read}
use Rattle.law_xml.proofs.WithinParts.{StreamIn}
use Rattle.xml_framer.specs.Machine.{is_too_long, part_of, run, step, taken_in}
use Rattle.xml_framer.specs.States.{OpenElement, State, Turn, counted, from_start, is_text, moved, turn}
use Rattle.law_xml.specs.FaultRows.{Decides, Takes, is_outer}
use Rattle.law_xml.specs.Prefixes.{BeginsSo, IsPrefix}
use Rattle.law_xml.specs.StreamLimits.{IsStreamWithin}
use Rattle.law_xml.specs.Streams.{InForce, StreamTo, position_of}
use Rattle.xml_framer.specs.declared.items.Item.{Item}
use Rattle.xml_framer.specs.declared.fault.Why.TheVariants as why
use Rattle.xml_framer.specs.declared.limits.Limits.{Limits}
use Rattle.xml_framer.specs.declared.states.Mode.{Mode}
use Rattle.xml_framer.specs.declared.states.Mode.TheVariants as mode
use Rattle.law_xml.proofs.OffsetTags.{some_more}

pub none_too_soon : (limits : Limits) (bytes more : List ℕ) (now : InForce) (items : List Item) (stream : StreamTo now (bytes ++ more) items)
    → is_some (run (turn (from_start limits) []) bytes).state.fault ≡ true → ¬ (IsStreamWithin limits now (bytes ++ more) items stream)
none_too_soon limits bytes more now items stream faulty within =
    let r = stream_read limits now (bytes ++ more) items stream within in
    let first = run (turn (from_start limits) []) bytes in
    let whole : run first more ≡ turn r.following items = sym (run_append (turn (from_start limits) []) bytes more) ∙ r.run_is in
    let none = no_fault_before first more (ap (λ (u : Turn). u.state.fault) whole ∙ r.stands.no_fault) in
    true≢false (sym faulty ∙ ap is_some none)

-- ---- what is unfinished

abbrev pub HasPart : Turn → Type 0
HasPart t = has_part t.state t.state.pending ≡ true

abbrev pub IsWhole : Turn → Type 0
IsWhole t = has_part t.state t.state.pending ≡ false

abbrev pub following : Limits → List ℕ → Turn
following limits bytes = run (turn (from_start limits) []) bytes

-- a stream of the items within the limits
abbrev pub Reads : Limits → List ℕ → List Item → Type 0
Reads given bytes items = (now : InForce) × StreamIn given now bytes items

-- a stream of the items, and what is unfinished after it
pub record Part (given : Limits) (t : Turn) (bytes : List ℕ) : Type 0 where
  pub done : List ℕ
  pub hand : List ℕ
  pub bytes_are : bytes ≡ done ++ hand
  pub some : is_empty hand ≡ false
  pub begins_so : BeginsSo hand
  pub stream : Reads given done t.items
  pub at : t.state.positions.item_at ≡ position_of (length done)
  pub last : (n : ℕ) → n ≤ length bytes → IsWhole (following given (take n bytes)) → n ≤ length done

pub record Known (given : Limits) (t : Turn) (bytes : List ℕ) : Type 0 where
  pub from : following given bytes ≡ t
  pub read : Read given t bytes
  pub part : has_part t.state t.state.pending ≡ true → Part given t bytes

stands_there : (o : Option OpenElement) (m : Mode) (s : State) (items : List Item) (bytes : List ℕ) (used : ℕ) → Hand o m s used items bytes → not (is_some o && is_outer m) ≡ true
stands_there None m s items bytes used h = refl
stands_there (Some o) mode.Text s items bytes used h = refl
stands_there (Some o) mode.Reference s items bytes used h = refl
stands_there (Some o) mode.Opening s items bytes used h = refl
stands_there (Some o) mode.Bang s items bytes used h = refl
stands_there (Some o) mode.Question s items bytes used h = absurd h.2
stands_there (Some o) mode.Declaration s items bytes used h = absurd h.2
stands_there (Some o) mode.Tag s items bytes used h = refl
stands_there (Some o) mode.Footer s items bytes used h = absurd h.2
stands_there (Some o) mode.Section s items bytes used h = refl

-- nothing is unfinished
whole_there : (given : Limits) (t : Turn) (bytes : List ℕ) → t.state.fault ≡ None → has_part t.state t.state.pending ≡ false → Read given t bytes → Reads given bytes t.items
unfolding part_of
whole_there given t bytes none whole read =
    let w = is_within given t.state t.items bytes none (no_part t.state none read.kept.not_spent whole) read in
    (w.0, subst (λ l. StreamIn l w.0 bytes t.items) read.kept.limits_are w.1)
  where
    no_part : (s : State) → s.fault ≡ None → s.lexical.spent ≡ false → has_part s s.pending ≡ false → part_of s ≡ None
    no_part s none spent whole = rw (none, spent, whole) refl

begins_more : (hand : List ℕ) (b : ℕ) → is_empty hand ≡ false → BeginsSo hand → BeginsSo (hand ++ b ∷ [])
begins_more [] b some h = absurd (true≢false some)
begins_more (x ∷ xs) b some h = h

module _ (t : Turn) (b : ℕ) (bytes : List ℕ) (given : Limits) (h : Known given t bytes) (none : (step t b).state.fault ≡ None) where
  before : t.state.fault ≡ None
  before = no_fault_before t (b ∷ []) none

  takes_it : Takes t.state t.state.lexical.mode b
  takes_it = takes t b none

  -- the items and the offset of what is unfinished, from what is known of the byte
  after : (n : ℕ) → Keeps b n t (taken_in t.state.lexical.mode (moved t (counted t.state)) b) → has_part (step t b).state (step t b).state.pending ≡ true
      → ((step t b).items ≡ t.items) × ((step t b).state.positions.item_at ≡ n)
  after n keeps part =
      let is = goes t t.state.lexical.mode b takes_it in
      let there = keeps (subst (λ u. has_part u.state u.state.pending ≡ true) is part) in
      (ap (λ u. u.items) is ∙ there.0, ap (λ u. u.state.positions.item_at) is ∙ there.1)

  first : IsFirst b (taken_in t.state.lexical.mode (moved t (counted t.state)) b).state → has_part (step t b).state (step t b).state.pending ≡ true → (b ≡ 60) ⊎ (128 ≤ b)
  first is_first part = is_first (subst (λ u. has_part u.state u.state.pending ≡ true) (goes t t.state.lexical.mode b takes_it) part)

  from_after : following given (bytes ++ b ∷ []) ≡ step t b
  from_after = run_append (turn (from_start given) []) bytes (b ∷ []) ∙ ap (λ (u : Turn). run u (b ∷ [])) h.from

  -- nothing is unfinished only before the byte
  last_before : HasPart (step t b) → (n : ℕ) → n ≤ length (bytes ++ b ∷ []) → IsWhole (following given (take n (bytes ++ b ∷ []))) → n ≤ length bytes
  last_before part n le whole =
      ⊎_elim
      (λ (large : length bytes < n).
      let long = length-append bytes (b ∷ []) in
      let all : take n (bytes ++ b ∷ []) ≡ bytes ++ b ∷ [] = take_all n (bytes ++ b ∷ []) (omega (arith, long, large)) in
      let there : IsWhole (step t b) = subst IsWhole (ap (following given) all ∙ from_after) whole in
      absurd (true≢false (sym part ∙ there)))
      (λ (small : n ≤ length bytes). small) (cases_lt (length bytes) n)

  same_before : (n : ℕ) → n ≤ length bytes → IsWhole (following given (take n (bytes ++ b ∷ []))) → IsWhole (following given (take n bytes))
  same_before n small whole = subst (λ l. IsWhole (following given l)) (take-append-le n bytes (b ∷ []) small) whole

  part_after : has_part (step t b).state (step t b).state.pending ≡ true → Part given (step t b) (bytes ++ b ∷ [])
  part_after part =
      ⊎_elim
      (λ (open_before : has_part t.state t.state.pending ≡ true).
      let was = h.part open_before in
      let stands = stands_there t.state.here t.state.lexical.mode t.state t.items bytes t.state.positions.used h.read.hand in
      let there = after t.state.positions.item_at (keeps_on t.state.lexical.mode (moved t (counted t.state)) b refl takes_it.is_text stands open_before) part in
      record {
        done = was.done;
        hand = was.hand ++ b ∷ [];
        bytes_are = ap (λ l. l ++ b ∷ []) was.bytes_are ∙ append_assoc was.done was.hand (b ∷ []);
        some = some_more was.hand b;
        begins_so = begins_more was.hand b was.some was.begins_so;
        stream = subst (Reads given was.done) (sym there.0) was.stream;
        at = there.1 ∙ was.at;
        last = λ n le w. let small = last_before part n le w in was.last n small (same_before n small w);
      })
      (λ (whole : has_part t.state t.state.pending ≡ false).
      let there = after t.state.positions.at (begins_from t.state.here t.state.lexical.mode t.state.pending (moved t (counted t.state)) b whole takes_it.is_text) part in
      record {
        done = bytes;
        hand = b ∷ [];
        bytes_are = refl;
        some = refl;
        begins_so = first (first_from t.state.here t.state.lexical.mode t.state.pending (moved t (counted t.state)) b whole takes_it.is_text) part;
        stream = subst (Reads given bytes) (sym there.0) (whole_there given t bytes before whole h.read);
        at = there.1 ∙ h.read.kept.at_is;
        last = last_before part;
      })
      (cases_Bool (has_part t.state t.state.pending))

  known_after : Known given (step t b) (bytes ++ b ∷ [])
  known_after = record { from = from_after; read = stepped given t b bytes (λ e. h.read) none; part = part_after }

known_run : (given : Limits) (bs : List ℕ) (t : Turn) (bytes : List ℕ) → Known given t bytes → (run t bs).state.fault ≡ None → Known given (run t bs) (bytes ++ bs)
known_run given [] t bytes h none = subst (Known given t) (sym (append-nil bytes)) h
known_run given (b ∷ bs) t bytes h none =
    subst (Known given (run (step t b) bs)) (append_assoc bytes (b ∷ []) bs) (known_run given bs (step t b) (bytes ++ b ∷ []) (known_after t b bytes given h (no_fault_before (step t b) bs none)) none)

pub known_first : (limits : Limits) (bytes : List ℕ) → limits.attributes < 2 ^ 32 → limits.namespace_bytes < 2 ^ 32 → (run (turn (from_start limits) []) bytes).state.fault ≡ None
    → Known limits (run (turn (from_start limits) []) bytes) bytes
known_first limits bytes few short none =
    known_run limits bytes (turn (from_start limits) []) [] (record { from = refl; read = begins limits few short refl; part = λ e. absurd (true≢false (sym e)) }) none

-- no more is a stream within the limits
whole_front : (given : Limits) (bytes : List ℕ) (now : InForce) (front rest : List ℕ) (said : List Item) (more : StreamTo now front said) → bytes ≡ front ++ rest → IsStreamWithin given now front said more
    → (length front ≤ length bytes) × IsWhole (following given (take (length front) bytes))
whole_front given bytes now front rest said more are within =
    let r = stream_read given now front said more within in
    let n = ap length are ∙ length-append front rest in
    let taken : take (length front) bytes ≡ front = ap (take (length front)) are ∙ take-append_seam front rest in
    let there : IsWhole (turn r.following said) = rw (r.stands.outside, r.stands.text, r.stands.no_pending) refl in
    (omega (arith, n), subst IsWhole (sym (ap (following given) taken ∙ r.run_is)) there)

is_prefix : (given : Limits) (t : Turn) (bytes : List ℕ) → t.state.fault ≡ None → Known given t bytes → IsPrefix given bytes t.items (part_of t.state)
unfolding part_of
is_prefix given t bytes none h =
    let s = t.state in
    ⊎_elim
    (λ (part : has_part s s.pending ≡ true).
    let p = h.part part in
    record {
      done = p.done;
      hand = p.hand;
      now = p.stream.0;
      bytes_are = p.bytes_are;
      stream = p.stream.1.0;
      within = p.stream.1.1;
      begins = p.begins_so;
      longest = λ other front rest said more are within. let w = whole_front given bytes other front rest said more are within in p.last (length front) w.0 w.1;
      part_is = rw (none, h.read.kept.not_spent, part, p.some) (ap Some p.at);
    })
    (λ (whole : has_part s s.pending ≡ false).
    let r = whole_there given t bytes none whole h.read in
    record {
      done = bytes;
      hand = [];
      now = r.0;
      bytes_are = sym (append-nil bytes);
      stream = r.1.0;
      within = r.1.1;
      begins = tt;
      longest = λ other front rest said more are within. (whole_front given bytes other front rest said more are within).0;
      part_is = rw (none, h.read.kept.not_spent, whole) refl;
    })
    (cases_Bool (has_part s s.pending))

pub prefix_known : (limits : Limits) (bytes : List ℕ) → limits.attributes < 2 ^ 32 → limits.namespace_bytes < 2 ^ 32
    → (run (turn (from_start limits) []) bytes).state.fault ≡ None → IsPrefix limits bytes (run (turn (from_start limits) []) bytes).items (part_of (run (turn (from_start limits) []) bytes).state)
prefix_known limits bytes few short none = is_prefix limits (run (turn (from_start limits) []) bytes) bytes none (known_first limits bytes few short none)

-- ---- what is too long

-- what is counted is unfinished
used_part : (o : Option OpenElement) (m : Mode) (s : State) (used : ℕ) (items : List Item) (bytes held : List ℕ) → Hand o m s used items bytes → 0 < used
    → (is_some o || (not (is_text m) || not (is_empty held))) ≡ true
used_part (Some o) m s used items bytes held h some = refl
used_part None mode.Text s used items bytes held h some = let idle = h.1.1 in absurd (omega (arith, idle, some))
used_part None mode.Reference s used items bytes held h some = refl
used_part None mode.Opening s used items bytes held h some = refl
used_part None mode.Bang s used items bytes held h some = refl
used_part None mode.Question s used items bytes held h some = refl
used_part None mode.Declaration s used items bytes held h some = refl
used_part None mode.Tag s used items bytes held h some = refl
used_part None mode.Footer s used items bytes held h some = refl
used_part None mode.Section s used items bytes held h some = refl

long_used : (s : State) (b : ℕ) → is_too_long s b ≡ true → 0 < s.positions.used
unfolding is_too_long
long_used s b e = ltb-true 0 s.positions.used (and_parts _ _ e).0

long_after : (given : Limits) (t : Turn) (b : ℕ) (bytes : List ℕ) → t.state.fault ≡ None → Known given t bytes → is_too_long t.state b ≡ true
    → (n : ℕ) × (part_of t.state ≡ Some n) × Decides t b n why.TooLong
unfolding part_of
long_after given t b bytes none h far =
    let s = t.state in
    let part = used_part s.here s.lexical.mode s s.positions.used t.items bytes s.pending h.read.hand (long_used s b far) in
    (s.positions.item_at, rw (none, h.read.kept.not_spent, part) refl, long t b none far)

pub long_told : (limits : Limits) (bytes : List ℕ) (b : ℕ) → limits.attributes < 2 ^ 32 → limits.namespace_bytes < 2 ^ 32 → (run (turn (from_start limits) []) bytes).state.fault ≡ None
    → is_too_long (run (turn (from_start limits) []) bytes).state b ≡ true
    → (n : ℕ) × (part_of (run (turn (from_start limits) []) bytes).state ≡ Some n) × Decides (run (turn (from_start limits) []) bytes) b n why.TooLong
long_told limits bytes b few short none = long_after limits (run (turn (from_start limits) []) bytes) b bytes none (known_first limits bytes few short none)
