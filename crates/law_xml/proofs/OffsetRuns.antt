-- The offset of each fault is that of its token.
use Rattle.std.proofs.Common.{◌≡◌, ◌≢◌, ℕ, ◌<◌, ◌⊎◌, inl, inr, ⊎_elim, Bool, true, false, not, ◌&&◌, ◌==◌, if◌then◌else◌, List, [], ◌∷◌, ◌++◌, length, length-append, Some, None, refl, sym, ap, subst, ◌∙◌, append_assoc, append-nil, arith}
use Rattle.std.proofs.lemmas.Bool.{and_from, cases_Bool, eqb-true, false≢true, true≢false}
use Rattle.std.proofs.lemmas.List.Folds.{list_all-append}
use Rattle.std.proofs.lemmas.Option.{same_Some}
use Rattle.std.specs.Option.{is_some}
use Rattle.xml_tokens.specs.Utf8.{continues, held_after}
use Rattle.law_xml.proofs.CountLaws.{takes}
use Rattle.law_xml.proofs.FaultLaws.{broken, goes, long, run_position}
use Rattle.law_xml.proofs.OffsetMarks.{Mark, begins_after, counted_after, is_open, mark_after, same_count}
use Rattle.law_xml.proofs.OffsetSteps.{text_goes, token_goes}
use Rattle.law_xml.proofs.OffsetTags.{Spot, first_spot, named_there, quote_after_text, spot_after}
use Rattle.law_xml.proofs.ReadCharacters.{ascii_alone, ascii_continues}
use Rattle.law_xml.proofs.TextFronts.{counted-append, counted_behind}
use Rattle.law_xml.proofs.RunPositions.{no_fault_before, taken_at, taken_pending}
use Rattle.xml_framer.specs.Machine.{is_too_long, passed, run, step, taken_in}
use Rattle.xml_framer.specs.States.{State, Turn, counted, from_start, in_run, is_text, moved, next_position, run_begun, token_position, turn}
use Rattle.xml_framer.specs.TextSteps.{brackets_after}
use Rattle.law_xml.specs.FaultRows as rows
use Rattle.law_xml.specs.Offsets.{AreBefore, AreTokens, IsAtToken, IsRun, IsWhole, a_markup, a_reference, a_text, character_left, first_of, is_no_markup, is_reference, no_token, one_more}
use Rattle.law_xml.specs.Streams.{position_of}
use Rattle.xml_framer.specs.declared.fault.Fault.{Fault}
use Rattle.xml_framer.specs.declared.fault.Why.TheVariants as why
use Rattle.xml_framer.specs.declared.limits.Limits.{Limits}
use Rattle.xml_framer.specs.declared.states.Mode.{Mode}
use Rattle.xml_framer.specs.declared.states.Mode.TheVariants as mode

-- a text in hand, the character that it leaves unfinished and, in an element, the `]` that it ends in
pub record InText (at : ℕ) (held : List ℕ) (inner : Bool) (brackets : ℕ) (bytes : List ℕ) : Type 0 where
  pub before : List ℕ
  pub token : List ℕ
  pub bytes_are : bytes ≡ before ++ token
  pub at_is : at ≡ position_of (length before)
  pub after : AreTokens before
  pub plain : IsRun token
  pub left : held ≡ character_left [] token
  pub counts : inner ≡ true → held ≡ [] → brackets ≡ counted_behind 0 token

-- a token in hand, as a state has it
pub record InToken (s : State) (bytes : List ℕ) : Type 0 where
  pub before : List ℕ
  pub more : List ℕ
  pub bytes_are : bytes ≡ before ++ first_of s.lexical.mode ∷ more
  pub at_is : s.positions.token_at ≡ position_of (length before)
  pub ahead : AreBefore before
  pub spot : Spot s.lexical.mode s.lexical.quote more
  pub mark : Mark s.lexical.mode s more

pub record Known (s : State) (bytes : List ℕ) : Type 0 where
  pub at : s.positions.at ≡ position_of (length bytes)
  pub between : is_text s.lexical.mode ≡ true → s.lexical.in_run ≡ false → AreTokens bytes × (s.pending ≡ [])
  pub running : is_text s.lexical.mode ≡ true → s.lexical.in_run ≡ true → InText s.positions.token_at s.pending (is_some s.here) s.lexical.brackets bytes
  pub token : is_text s.lexical.mode ≡ false → InToken s bytes
  pub quiet : is_text s.lexical.mode ≡ true → (s.lexical.quote ≡ None) × (s.token ≡ [])

next_offset : (at : ℕ) (bytes : List ℕ) (b : ℕ) → at ≡ position_of (length bytes) → next_position at ≡ position_of (length (bytes ++ b ∷ []))
next_offset at bytes b h = let n = length-append bytes (b ∷ []) in rw n (omega (arith, h))

left_more : (held xs : List ℕ) (b : ℕ) → character_left held (xs ++ b ∷ []) ≡ held_after (character_left held xs) b
left_more held [] b = refl
left_more held (x ∷ xs) b = left_more (held_after held x) xs b

text_more : (at : ℕ) (held bytes : List ℕ) (inner more : Bool) (n m b : ℕ) → continues held b ≡ true → (more ≡ true → (inner ≡ true) × (held_after held b ≡ [] → m ≡ brackets_after n b)) → is_no_markup b ≡ true → InText at held inner n bytes
    → InText at (held_after held b) more m (bytes ++ b ∷ [])
text_more at held bytes inner more n m b c grows plain h = record {
  before = h.before;
  token = h.token ++ b ∷ [];
  bytes_are = ap (λ l. l ++ b ∷ []) h.bytes_are ∙ append_assoc h.before h.token (b ∷ []);
  at_is = h.at_is;
  after = h.after;
  plain = list_all-append is_no_markup h.token (b ∷ []) ∙ and_from _ _ h.plain (and_from _ _ plain refl);
  left = ap (λ l. held_after l b) h.left ∙ sym (left_more [] h.token b);
  counts = λ e none. let g = grows e in g.1 none ∙ (same_count held n (counted_behind 0 h.token) b c (h.counts g.0) ∙ sym (counted-append 0 h.token (b ∷ [])));
}

first_low : (m : Mode) → first_of m < 128
first_low m = low (is_reference m)
  where
    low : (r : Bool) → (if r then 38 else 60) < 128
    low true = omega arith
    low false = omega arith

plain_byte : (b : ℕ) → (b == 60) ≡ false → (b == 38) ≡ false → is_no_markup b ≡ true
plain_byte b e f = rw (e, f) refl

-- `<` and `&` are ASCII
markup_low : (b : ℕ) → is_no_markup b ≡ false → b < 128
markup_low b e =
    ⊎_elim (λ (f : (b == 60) ≡ true). let is = eqb-true b 60 f in omega (arith, is))
    (λ (f : (b == 60) ≡ false). ⊎_elim (λ (g : (b == 38) ≡ true). let is = eqb-true b 38 g in omega (arith, is))
    (λ (g : (b == 38) ≡ false). absurd (true≢false (sym (plain_byte b f g) ∙ e))) (cases_Bool (b == 38))) (cases_Bool (b == 60))

whole_after : (before first_and token bytes : List ℕ) (b : ℕ) → AreBefore before → bytes ≡ before ++ first_and → token ≡ first_and ++ b ∷ [] → IsWhole token → AreTokens (bytes ++ b ∷ [])
whole_after before first_and token bytes b ahead are is whole =
    one_more (bytes ++ b ∷ []) ahead.front ahead.text token ahead.tokens ahead.is_run whole
    (ap (λ l. l ++ b ∷ []) are ∙ append_assoc before first_and (b ∷ []) ∙ ap (λ l. before ++ l) (sym is) ∙ ap (λ l. l ++ token) ahead.before_is ∙ append_assoc ahead.front ahead.text token)

module _ (t : Turn) (b : ℕ) (bytes : List ℕ) (h : Known t.state bytes) where
  abbrev s : State
  s = t.state

  -- the state that the byte leads to, before it is passed
  abbrev u : State
  u = (taken_in s.lexical.mode (moved t (counted s)) b).state

  abbrev run_at : ℕ
  run_at = (in_run (counted s)).positions.token_at

  offset : next_position u.positions.at ≡ position_of (length (bytes ++ b ∷ []))
  offset = next_offset u.positions.at bytes b (taken_at s.lexical.mode (moved t (counted s)) b ∙ h.at)

  held : u.pending ≡ s.pending
  held = taken_pending s.lexical.mode (moved t (counted s)) b

  -- the text that the byte belongs to
  in_text_now : (x : Bool) → s.lexical.in_run ≡ x → is_text s.lexical.mode ≡ true → is_no_markup b ≡ true → continues s.pending b ≡ true
      → (is_some u.here ≡ true → (is_some s.here ≡ true) × (held_after s.pending b ≡ [] → u.lexical.brackets ≡ brackets_after (if x then s.lexical.brackets else 0) b))
      → InText (if x then counted s else run_begun (counted s)).positions.token_at (held_after s.pending b) (is_some u.here) u.lexical.brackets (bytes ++ b ∷ [])
  in_text_now true is text plain c grows = text_more s.positions.token_at s.pending bytes (is_some s.here) (is_some u.here) s.lexical.brackets u.lexical.brackets b c grows plain (h.running text is)
  in_text_now false is text plain c grows =
      let k = h.between text is in
      record {
        before = bytes;
        token = b ∷ [];
        bytes_are = refl;
        at_is = h.at;
        after = k.0;
        plain = and_from _ _ plain refl;
        left = ap (λ l. held_after l b) k.1;
        counts = λ e none. (grows e).1 none;
      }

  -- what stands before a token that begins with the byte
  ahead_now : (c : Bool) → s.lexical.in_run ≡ c → is_text s.lexical.mode ≡ true → s.pending ≡ [] → AreBefore bytes
  ahead_now true is text none = let k = h.running text is in record { front = k.before; text = k.token; tokens = k.after; is_run = k.plain; whole = sym k.left ∙ none; before_is = k.bytes_are }
  ahead_now false is text none = record { front = bytes; text = []; tokens = (h.between text is).0; is_run = refl; whole = refl; before_is = sym (append-nil bytes) }

  abbrev More : State → Type 0
  More v = Known v (bytes ++ b ∷ [])

  text_after : s.fault ≡ None → continues s.pending b ≡ true → u.fault ≡ None → is_text s.lexical.mode ≡ true → More (passed u b)
  text_after before c none text =
      let taken = text_goes s.lexical.mode (moved t (counted s)) b refl before text in
      let same = quote_after_text s.lexical.mode (moved t (counted s)) b text in
      let was = h.quiet text in
      let new = begins_after s.lexical.mode (moved t (counted s)) b refl text was.1 in
      record {
        at = offset;
        between = λ e i. absurd (false≢true (sym i ∙ (taken.goes none e).1));
        running = λ e i.
            let g = taken.goes none e in
            let grows = λ (inner : is_some u.here ≡ true). counted_after s.lexical.mode (moved t (counted s)) b text c none e inner in
            subst (λ n. InText n (held_after u.pending b) (is_some u.here) u.lexical.brackets (bytes ++ b ∷ [])) (sym g.0)
            (subst (λ l. InText run_at (held_after l b) (is_some u.here) u.lexical.brackets (bytes ++ b ∷ [])) (sym held) (in_text_now s.lexical.in_run refl text g.2 c grows));
        token = λ e.
            let g = taken.begins e in
            let low = first_low u.lexical.mode in
            let is = g.1 in
            let empty = (ascii_alone s.pending b (omega (arith, is, low)) c).0 in
            record {
              before = bytes;
              more = [];
              bytes_are = ap (λ d. bytes ++ d ∷ []) g.1;
              at_is = g.0 ∙ h.at;
              ahead = ahead_now s.lexical.in_run refl text empty;
              spot = first_spot u.lexical.mode u.lexical.quote g.2 (same ∙ was.0);
              mark = new.mark e;
            };
        quiet = λ e. (same ∙ was.0, new.none e);
      }

  token_after : s.fault ≡ None → continues s.pending b ≡ true → u.fault ≡ None → is_text s.lexical.mode ≡ false → More (passed u b)
  token_after before c after_none no_text =
      let taken = token_goes s.lexical.mode (moved t (counted s)) b refl before no_text in
      let k = h.token no_text in
      let marks = mark_after s.lexical.mode (moved t (counted s)) b k.more refl no_text c k.spot (counted_mark s.lexical.mode k.more k.mark) in
      record {
        at = offset;
        between = λ e i. (
          whole_after k.before (first_of s.lexical.mode ∷ k.more) _ bytes b k.ahead k.bytes_are refl (marks.ends e after_none).0,
          ap (λ l. held_after l b) held ∙ last_held (taken.ends e).1,
        );
        running = λ e i. absurd (false≢true (sym (taken.ends e).0 ∙ i));
        token = λ e.
            let first_same = ap (λ (r : Bool). if r then 38 else 60) (sym (taken.goes e)) in
            record {
              before = k.before;
              more = k.more ++ b ∷ [];
              bytes_are = ap (λ l. l ++ b ∷ []) k.bytes_are ∙ append_assoc k.before (first_of s.lexical.mode ∷ k.more) (b ∷ []) ∙ ap (λ d. k.before ++ d ∷ (k.more ++ b ∷ [])) first_same;
              at_is = taken.token_at ∙ k.at_is;
              ahead = k.ahead;
              spot = spot_after s.lexical.mode (moved t (counted s)) b k.more refl before no_text k.spot e after_none;
              mark = marks.goes e after_none;
            };
        quiet = λ e. (taken.quiet e, (marks.ends e after_none).1);
      }
    where
      -- to count the byte changes nothing of it
      counted_mark : (m : Mode) (more : List ℕ) → Mark m s more → Mark m (counted s) more
      counted_mark mode.Text more x = x
      counted_mark mode.Reference more x = x
      counted_mark mode.Opening more x = x
      counted_mark mode.Bang more x = x
      counted_mark mode.Question more x = x
      counted_mark mode.Declaration more x = x
      counted_mark mode.Tag more x = x
      counted_mark mode.Footer more x = x
      counted_mark mode.Section more x = x

      last_held : (b ≡ 62) ⊎ (b ≡ 59) → held_after s.pending b ≡ []
      last_held last = ⊎_elim (λ is. (ascii_alone s.pending b (omega (arith, is)) c).1) (λ is. (ascii_alone s.pending b (omega (arith, is)) c).1) last

  known_after : (step t b).state.fault ≡ None → More (step t b).state
  known_after none =
      let takes_it = takes t b none in
      let is = goes t s.lexical.mode b takes_it in
      let after_none : u.fault ≡ None = ap (λ (v : Turn). v.state.fault) (sym is) ∙ none in
      let after : More (passed u b) =
      ⊎_elim (λ (text : is_text s.lexical.mode ≡ true). text_after takes_it.no_fault takes_it.is_text after_none text)
      (λ (no_text : is_text s.lexical.mode ≡ false). token_after takes_it.no_fault takes_it.is_text after_none no_text) (cases_Bool (is_text s.lexical.mode)) in
      subst (λ (v : Turn). More v.state) (sym is) after

  -- ---- a fault

  at_run : (c : Bool) → s.lexical.in_run ≡ c → is_text s.lexical.mode ≡ true → (is_no_markup b ≡ true) ⊎ (s.pending ≢ []) → IsAtToken bytes b (if c then counted s else run_begun (counted s)).positions.token_at
  at_run true is text other =
      let k = h.running text is in
      let belongs = ⊎_elim (λ (e : is_no_markup b ≡ true). inl e) (λ (some : s.pending ≢ []). inr (λ e. some (k.left ∙ e))) other in
      record { before = k.before; token = k.token; bytes_are = k.bytes_are; at_is = k.at_is; is_token = a_text k.before k.token b k.after k.plain belongs }
  at_run false is text other =
      let k = h.between text is in
      let belongs = ⊎_elim (λ (e : is_no_markup b ≡ true). inl e) (λ (some : s.pending ≢ []). absurd (some k.1)) other in
      record { before = bytes; token = []; bytes_are = sym (append-nil bytes); at_is = h.at; is_token = a_text bytes [] b k.0 refl belongs }

  at_first : (r : Bool) → is_reference s.lexical.mode ≡ r → is_text s.lexical.mode ≡ false → InToken s bytes → IsAtToken bytes b s.positions.token_at
  at_first true e no_text k =
      let first = ap (λ (x : Bool). k.before ++ (if x then 38 else 60) ∷ k.more) e in
      record {
        before = k.before;
        token = 38 ∷ k.more;
        bytes_are = k.bytes_are ∙ first;
        at_is = k.at_is;
        is_token = a_reference k.before (38 ∷ k.more) b (k.more ++ b ∷ []) k.ahead refl (named_there s.lexical.mode s.lexical.quote k.more k.spot e);
      }
  at_first false e no_text k =
      let first = ap (λ (x : Bool). k.before ++ (if x then 38 else 60) ∷ k.more) e in
      record {
        before = k.before;
        token = 60 ∷ k.more;
        bytes_are = k.bytes_are ∙ first;
        at_is = k.at_is;
        is_token = a_markup k.before (60 ∷ k.more) b k.more k.ahead refl (is_open s.lexical.mode s k.more no_text e k.spot k.mark);
      }

  at_token : is_text s.lexical.mode ≡ false → IsAtToken bytes b s.positions.token_at
  at_token no_text = at_first (is_reference s.lexical.mode) refl no_text (h.token no_text)

  at_reference : is_text s.lexical.mode ≡ true → continues s.pending b ≡ true → b ≡ 38 → IsAtToken bytes b s.positions.at
  at_reference text c is =
      let none = (ascii_alone s.pending b (omega (arith, is)) c).0 in
      record {
        before = bytes;
        token = [];
        bytes_are = sym (append-nil bytes);
        at_is = h.at;
        is_token = a_reference bytes [] b [] (ahead_now s.lexical.in_run refl text none) (ap (λ d. d ∷ []) is) refl;
      }

  -- a byte that breaks a character is no markup, or a character is in hand
  breaks : continues s.pending b ≡ false → (is_no_markup b ≡ true) ⊎ (s.pending ≢ [])
  breaks bad =
      ⊎_elim (λ (e : is_no_markup b ≡ true). inl e)
      (λ (e : is_no_markup b ≡ false). inr (λ none. true≢false (sym (ascii_continues b (markup_low b e)) ∙ (ap (λ l. continues l b) (sym none) ∙ bad)))) (cases_Bool (is_no_markup b))

  -- the place of a byte that breaks a character
  at_position : (text run : Bool) → is_text s.lexical.mode ≡ text → s.lexical.in_run ≡ run → continues s.pending b ≡ false → IsAtToken bytes b (if text && not run then s.positions.at else s.positions.token_at)
  at_position true true e i bad = at_run true i e (breaks bad)
  at_position true false e i bad = at_run false i e (breaks bad)
  at_position false run e i bad = at_token e

  here : (f : Fault) (n : ℕ) → f.at ≡ n → IsAtToken bytes b n → IsAtToken bytes b f.at
  here f n e k = subst (IsAtToken bytes b) (sym e) k

  taken_fault : (f : Fault) → rows.Takes s s.lexical.mode b → (step t b).state.fault ≡ Some f → IsAtToken bytes b f.at
  taken_fault f takes_it is =
      let there : u.fault ≡ Some f = ap (λ (v : Turn). v.state.fault) (sym (goes t s.lexical.mode b takes_it)) ∙ is in
      ⊎_elim
      (λ (text : is_text s.lexical.mode ≡ true).
      let taken = text_goes s.lexical.mode (moved t (counted s)) b refl takes_it.no_fault text in
      ⊎_elim (λ (p : (f.at ≡ run_at) × (is_no_markup b ≡ true)). here f run_at p.0 (at_run s.lexical.in_run refl text (inl p.1)))
      (λ (p : (f.at ≡ s.positions.at) × (b ≡ 38)). here f s.positions.at p.0 (at_reference text takes_it.is_text p.1)) (taken.fault f there))
      (λ (no_text : is_text s.lexical.mode ≡ false).
      let taken = token_goes s.lexical.mode (moved t (counted s)) b refl takes_it.no_fault no_text in
      here f s.positions.token_at (taken.fault f there) (at_token no_text))
      (cases_Bool (is_text s.lexical.mode))

  fault_there : (f : Fault) → s.fault ≡ None → (step t b).state.fault ≡ Some f → f.why ≢ why.TooLong → IsAtToken bytes b f.at
  fault_there f before is other =
      ⊎_elim
      (λ (far : is_too_long s b ≡ true). absurd (other (ap (λ (g : Fault). g.why) (sym (same_Some _ f (sym (long t b before far) ∙ is))))))
      (λ (near : is_too_long s b ≡ false).
      ⊎_elim (λ (good : continues s.pending b ≡ true). taken_fault f (record { no_fault = before; mode_is = refl; short = near; is_text = good }) is)
      (λ (bad : continues s.pending b ≡ false).
      here f (token_position s) (ap (λ (g : Fault). g.at) (sym (same_Some _ f (sym (broken t b before near bad) ∙ is)))) (at_position (is_text s.lexical.mode) s.lexical.in_run refl refl bad))
      (cases_Bool (continues s.pending b)))
      (cases_Bool (is_too_long s b))

known_run : (bs : List ℕ) (t : Turn) (bytes : List ℕ) → Known t.state bytes → (run t bs).state.fault ≡ None → Known (run t bs).state (bytes ++ bs)
known_run [] t bytes h none = subst (Known t.state) (sym (append-nil bytes)) h
known_run (b ∷ bs) t bytes h none =
    subst (Known (run (step t b) bs).state) (append_assoc bytes (b ∷ []) bs) (known_run bs (step t b) (bytes ++ b ∷ []) (known_after t b bytes h (no_fault_before (step t b) bs none)) none)

known_first : (limits : Limits) → Known (from_start limits) []
known_first limits = record { at = refl; between = λ e i. (no_token [] refl, refl); running = λ e i. absurd (false≢true i); token = λ e. absurd (false≢true (sym e)); quiet = λ e. (refl, refl) }

-- what is known of the token in hand after bytes without a fault
pub known_of : (limits : Limits) (bytes : List ℕ) → (run (turn (from_start limits) []) bytes).state.fault ≡ None → Known (run (turn (from_start limits) []) bytes).state bytes
known_of limits bytes none = known_run bytes (turn (from_start limits) []) [] (known_first limits) none

pub fault_at_token : (limits : Limits) (bytes : List ℕ) (b : ℕ) (f : Fault) → (run (turn (from_start limits) []) bytes).state.fault ≡ None
    → (step (run (turn (from_start limits) []) bytes) b).state.fault ≡ Some f → f.why ≢ why.TooLong → IsAtToken bytes b f.at
fault_at_token limits bytes b f none is other =
    let start = turn (from_start limits) [] in fault_there (run start bytes) b bytes (known_run bytes start [] (known_first limits) none) f none is other

pub position_after_bytes : (limits : Limits) (bytes : List ℕ) → (run (turn (from_start limits) []) bytes).state.fault ≡ None → (run (turn (from_start limits) []) bytes).state.positions.at ≡ position_of (length bytes)
position_after_bytes limits bytes none = (known_run bytes (turn (from_start limits) []) [] (known_first limits) none).at

-- ---- a byte and the offset of its token

pub begins : (t : Turn) (b : ℕ) → rows.Takes t.state mode.Text b → is_text (step t b).state.lexical.mode ≡ false
    → ((step t b).state.positions.token_at ≡ t.state.positions.at) × (b ≡ first_of (step t b).state.lexical.mode)
begins t b h e =
    let is = goes t mode.Text b h in
    let all = (text_goes mode.Text (moved t (counted t.state)) b h.mode_is h.no_fault refl).begins (subst (λ (v : Turn). is_text v.state.lexical.mode ≡ false) is e) in
    subst (λ (v : Turn). (v.state.positions.token_at ≡ t.state.positions.at) × (b ≡ first_of v.state.lexical.mode)) (sym is) (all.0, all.1)

pub goes_on : (t : Turn) (m : Mode) (b : ℕ) → rows.Takes t.state m b → is_text m ≡ false → (step t b).state.positions.token_at ≡ t.state.positions.token_at
goes_on t m b h no_text =
    ap (λ (v : Turn). v.state.positions.token_at) (goes t m b h) ∙ (token_goes m (moved t (counted t.state)) b h.mode_is h.no_fault no_text).token_at

runs : (t : Turn) (b : ℕ) → rows.Takes t.state mode.Text b → (step t b).state.fault ≡ None → is_text (step t b).state.lexical.mode ≡ true
    → ((step t b).state.positions.token_at ≡ (in_run t.state).positions.token_at) × ((step t b).state.lexical.in_run ≡ true)
runs t b h none e =
    let is = goes t mode.Text b h in
    let taken = text_goes mode.Text (moved t (counted t.state)) b h.mode_is h.no_fault refl in
    let g = taken.goes (ap (λ (v : Turn). v.state.fault) (sym is) ∙ none) (subst (λ (v : Turn). is_text v.state.lexical.mode ≡ true) is e) in
    (ap (λ (v : Turn). v.state.positions.token_at) is ∙ (g.0 ∙ run_position t.state.lexical.in_run t.state), ap (λ (v : Turn). v.state.lexical.in_run) is ∙ g.1)

pub run_begins : (t : Turn) (b : ℕ) → rows.Takes t.state mode.Text b → t.state.lexical.in_run ≡ false → (step t b).state.fault ≡ None → is_text (step t b).state.lexical.mode ≡ true
    → ((step t b).state.positions.token_at ≡ t.state.positions.at) × ((step t b).state.lexical.in_run ≡ true)
run_begins t b h first none e =
    let r = runs t b h none e in let is : (in_run t.state).positions.token_at ≡ t.state.positions.at = rw first refl in (r.0 ∙ is, r.1)

pub run_goes_on : (t : Turn) (b : ℕ) → rows.Takes t.state mode.Text b → t.state.lexical.in_run ≡ true → (step t b).state.fault ≡ None → is_text (step t b).state.lexical.mode ≡ true
    → ((step t b).state.positions.token_at ≡ t.state.positions.token_at) × ((step t b).state.lexical.in_run ≡ true)
run_goes_on t b h on none e =
    let r = runs t b h none e in let is : (in_run t.state).positions.token_at ≡ t.state.positions.token_at = rw on refl in (r.0 ∙ is, r.1)
