-- The machine's way over bytes that break nothing: the room that the byte limit leaves, what stays the same, and the
-- states between.
use Rattle.std.proofs.Common.{◌≡◌, ℕ, suc, ◌+◌, ◌-◌, ◌^◌, ◌<◌, ◌≤◌, ◌⊎◌, inl, inr, ⊎_elim, min, true, false, cond, eqb, leb, List, [], ◌∷◌, ◌++◌, Some, None, length, refl, sym, ap, subst, ◌∙◌, arith, length-append}
use Rattle.std.proofs.lemmas.Bool.{cases_Bool, and_left, and_right, lt-leb}
use Rattle.std.specs.Option.{is_some}
use Rattle.xml_tokens.specs.Utf8.{utf8_next}
use Rattle.xml_framer.proofs.Pieces.{run_append}
use Rattle.law_xml.proofs.Quiet.{AreAlike, HasRoom}
use Rattle.law_xml.specs.FaultRows.{Takes}
use Rattle.xml_framer.specs.Machine.{is_too_long, passed, run, step}
use Rattle.xml_framer.specs.States.{State, counted, gathered, turn}
use Rattle.xml_framer.specs.declared.items.Item.{Item}
use Rattle.xml_framer.specs.declared.limits.Limits.{Limits}
use Rattle.xml_framer.specs.declared.states.Mode.{Mode}
pub use Rattle.law_xml.proofs.TagRuns.{alike_after as alike_then}

-- ---- room

-- A count is within the limit for this many bytes more: nothing is counted, the count stays below the limit, or the limit
-- is past all numbers that are counted.
abbrev pub LeavesRoom : ℕ → ℕ → ℕ → Type 0
LeavesRoom used most n = (used ≡ 0) ⊎ ((used + n ≤ most) ⊎ ((used < 2 ^ 64) × (2 ^ 64 ≤ most)))

abbrev pub Room : State → ℕ → Type 0
Room s n = LeavesRoom s.positions.used s.limits.bytes n

pub room : (s : State) (bytes : List ℕ) → s.positions.used < 2 ^ 64 → HasRoom s bytes → Room s (length bytes)
room s bytes low h = ⊎_elim (λ below. inr (inl below)) (λ large. inr (inr (low, large))) h

-- the count behind a byte
abbrev pub one_more : ℕ → ℕ
one_more used = cond (eqb used 0) 0 (min (used + 1) (2 ^ 64 - 1))

one_more_up : (used : ℕ) → one_more used ≤ used + 1
one_more_up used =
    ⊎_elim (λ (none : eqb used 0 ≡ true). rw none (omega arith)) (λ (some : eqb used 0 ≡ false). rw some (omega arith)) (cases_Bool (eqb used 0))

pub one_more_low : (used : ℕ) → one_more used < 2 ^ 64
one_more_low used =
    ⊎_elim (λ (none : eqb used 0 ≡ true). rw none (omega arith)) (λ (some : eqb used 0 ≡ false). rw some (omega arith)) (cases_Bool (eqb used 0))

-- with room for a byte, it isn't past the limit
pub short : (s : State) (b n : ℕ) → Room s (suc n) → is_too_long s b ≡ false
unfolding is_too_long
short s b n h =
    ⊎_elim (λ (none : s.positions.used ≡ 0). rw none refl)
    (λ more. and_right _ _ (and_left (leb s.limits.bytes s.positions.used) _ (lt-leb s.limits.bytes s.positions.used (⊎_elim (λ below. omega (arith, below)) (λ large. let low = large.0 in let high = large.1 in omega (arith, low, high)) more))))
    h

-- ---- what stays the same

-- behind this many bytes
pub record Kept (s t : State) (n : ℕ) : Type 0 where
  pub alike : AreAlike s t
  pub item_at : t.positions.item_at ≡ s.positions.item_at
  pub used : t.positions.used ≤ s.positions.used + n
  pub counted : s.positions.used < 2 ^ 64 → t.positions.used < 2 ^ 64
  pub uncounted : s.positions.used ≡ 0 → t.positions.used ≡ 0

pub alike_same : (s : State) → AreAlike s s
alike_same s = record { limits = refl; here = refl; below = refl; scopes = refl; name = refl; phase = refl; spent = refl }

pub kept_none : (s : State) → Kept s s 0
kept_none s = record { alike = alike_same s; item_at = refl; used = omega arith; counted = λ h. h; uncounted = λ h. h }

pub kept_one : (s t : State) → AreAlike s t → t.positions.item_at ≡ s.positions.item_at → t.positions.used ≡ one_more s.positions.used → Kept s t 1
kept_one s t a at used = record {
  alike = a;
  item_at = at;
  used = subst (λ n. n ≤ s.positions.used + 1) (sym used) (one_more_up s.positions.used);
  counted = λ h. subst (λ n. n < 2 ^ 64) (sym used) (one_more_low s.positions.used);
  uncounted = λ none. used ∙ ap one_more none;
}

pub kept_then : (s t u : State) (m n k : ℕ) → m + n ≡ k → Kept s t m → Kept t u n → Kept s u k
kept_then s t u m n k e a b = record {
  alike = alike_then s t u a.alike b.alike;
  item_at = b.item_at ∙ a.item_at;
  used = let first = a.used in let second = b.used in omega (arith, e, first, second);
  counted = λ h. b.counted (a.counted h);
  uncounted = λ h. b.uncounted (a.uncounted h);
}

pub kept_room : (s t : State) (m n k : ℕ) → m + n ≡ k → Kept s t m → Room s k → Room t n
kept_room s t m n k e h r =
    ⊎_elim (λ none. inl (h.uncounted none))
    (λ more. inr (⊎_elim (λ below. inl (let same = ap (λ (l : Limits). l.bytes) h.alike.limits in let used = h.used in omega (arith, e, same, used, below)))
    (λ large. inr (h.counted large.0, let same = ap (λ (l : Limits). l.bytes) h.alike.limits in let high = large.1 in omega (arith, same, high))) more))
    r

pub first_room : (s : State) (m n : ℕ) → Room s (m + n) → Room s m
first_room s m n h = ⊎_elim (λ none. inl none) (λ more. inr (⊎_elim (λ below. inl (omega (arith, below))) (λ large. inr large) more)) h

-- ---- the way over bytes

-- these bytes lead from one state to another, and give no item
pub record Goes (s : State) (items : List Item) (bytes : List ℕ) (P : State → Type 0) : Type 0 where
  pub state : State
  pub runs : run (turn s items) bytes ≡ turn state items
  pub kept : Kept s state (length bytes)
  pub holds : P state

pub goes_none : (s : State) (items : List Item) (P : State → Type 0) → P s → Goes s items [] P
goes_none s items P h = record { state = s; runs = refl; kept = kept_none s; holds = h }

-- one byte and then others
pub goes_first : (s u : State) (items : List Item) (b : ℕ) (bs : List ℕ) (P : State → Type 0) → step (turn s items) b ≡ turn u items → Kept s u 1 → Goes u items bs P → Goes s items (b ∷ bs) P
goes_first s u items b bs P e k g = record {
  state = g.state;
  runs = ap (λ t. run t bs) e ∙ g.runs;
  kept = kept_then s u g.state 1 (length bs) (length (b ∷ bs)) (omega arith) k g.kept;
  holds = g.holds;
}

pub goes_one : (s u : State) (items : List Item) (b : ℕ) (P : State → Type 0) → step (turn s items) b ≡ turn u items → Kept s u 1 → P u → Goes s items (b ∷ []) P
goes_one s u items b P e k h = goes_first s u items b [] P e k (goes_none u items P h)

-- some bytes and then others
pub goes_then : (s : State) (items : List Item) (xs ys : List ℕ) (P Q : State → Type 0) → Goes s items xs P → ((t : State) → Kept s t (length xs) → P t → Goes t items ys Q) → Goes s items (xs ++ ys) Q
goes_then s items xs ys P Q g more =
    let h = more g.state g.kept g.holds in
    record {
      state = h.state;
      runs = run_append (turn s items) xs ys ∙ ap (λ t. run t ys) g.runs ∙ h.runs;
      kept = kept_then s g.state h.state (length xs) (length ys) (length (xs ++ ys)) (sym (length-append xs ys)) g.kept h.kept;
      holds = h.holds;
    }

-- ---- a byte

pub takes : (s : State) (m : Mode) (b n : ℕ) (next : List ℕ) → s.fault ≡ None → s.lexical.mode ≡ m → Room s (suc n) → utf8_next s.pending b ≡ Some next → Takes s m b
takes s m b n next no_fault is r e = record { no_fault = no_fault; mode_is = is; short = short s b n r; is_text = ap is_some e }

-- a token of this kind is in hand, with the bytes of a character and a text before it
pub record InToken (s : State) (m : Mode) (token held chars : List ℕ) : Type 0 where
  pub no_fault : s.fault ≡ None
  pub mode_is : s.lexical.mode ≡ m
  pub token_is : s.token ≡ token
  pub pending_is : s.pending ≡ held
  pub no_quote : s.lexical.quote ≡ None
  pub not_spoiled : s.lexical.spoiled ≡ false
  pub chars_are : s.chars ≡ chars
  pub counted : s.positions.used < 2 ^ 64

-- a byte more in the token
pub in_token_more : (s : State) (m : Mode) (token held chars : List ℕ) (b : ℕ) (next : List ℕ) → InToken s m token held chars → utf8_next held b ≡ Some next
    → InToken (passed (gathered (counted s) b) b) m (token ++ b ∷ []) next chars
in_token_more s m token held chars b next h e = record {
  no_fault = h.no_fault;
  mode_is = h.mode_is;
  token_is = ap (λ l. l ++ b ∷ []) h.token_is;
  pending_is = rw (h.pending_is, e) refl;
  no_quote = h.no_quote;
  not_spoiled = h.not_spoiled;
  chars_are = h.chars_are;
  counted = one_more_low s.positions.used;
}

-- what stays the same where a byte is only added to the token
pub gathered_kept : (s : State) (b : ℕ) → Kept s (passed (gathered (counted s) b) b) 1
gathered_kept s b = kept_one s (passed (gathered (counted s) b) b) (record { limits = refl; here = refl; below = refl; scopes = refl; name = refl; phase = refl; spent = refl }) refl refl
