-- Plain bytes of a text, one after another, are taken as all at once are.
use Rattle.std.proofs.Common.{◌≡◌, ℕ, zero, suc, ◌+◌, ◌-◌, ◌^◌, ◌<◌, ◌≤◌, min, ⊎_elim, Bool, true, false, true≢false, not, ◌&&◌, ◌||◌, ◌==◌, ltb, leb, unwrap_or, List, [], ◌∷◌, ◌++◌, Option, Some, None, length, take, refl, sym, ap, subst, ◌∙◌, arith, append_assoc, append-nil, if◌then◌else◌}
use Rattle.std.proofs.lemmas.Bool.{cases_Bool, and_parts, and_from, eqb-true, ltb-true, not-false, not-true, or_parts}
use Rattle.std.proofs.lemmas.Bool.Decides.{nat_tests}
use Rattle.std.proofs.lemmas.List.Folds.{list_all-append}
use Rattle.std.proofs.lemmas.List.{take-take}
use Rattle.std.specs.List.{list_all, prefix_len}
use Rattle.std.specs.Option.{is_some, option_and_then}
use Rattle.std.specs.Str.{IsUtf8}
use Rattle.xml_tokens.proofs.Splits as splits
use Rattle.xml_tokens.proofs.Utf8Runs.{text_runs}
use Rattle.xml_tokens.specs.Characters.{is_control}
use Rattle.xml_tokens.specs.Tags.{is_empty}
use Rattle.xml_tokens.specs.Utf8.{is_lead, is_second, is_tail, continues, ends_forbidden_character, is_nothing, utf8_next, utf8_run}
use Rattle.xml_framer.specs.Machine.{goes_on, is_too_long, run, step, taken}
use Rattle.xml_framer.specs.ManyBytes.{LeavesRoom, TakesRun, is_plain, position_after, takes_text, text_taken, used_after}
use Rattle.xml_framer.specs.States.{State, Turn, is_text, moved, next_position, run_begun, turn}
use Rattle.xml_framer.specs.TextSteps.{in_text, inside, text_inside}
use Rattle.xml_framer.specs.declared.items.Item.{Item}
use Rattle.xml_framer.specs.declared.states.Lexical.{Lexical}
use Rattle.xml_framer.specs.declared.states.Mode.{Mode}
use Rattle.xml_framer.specs.declared.states.Mode.TheVariants as mode
pub use Rattle.xml_tokens.proofs.TagWords.{none-from_is_empty as empty_is}

-- ---- what a plain byte is not

record Plain (b : ℕ) : Type 0 where
  less : (b == 60) ≡ false
  and : (b == 38) ≡ false
  bracket : (b == 93) ≡ false
  return : (b == 13) ≡ false
  lead : (b == 239) ≡ false
  control : is_control b ≡ false

plain_is : (b : ℕ) → is_plain b ≡ true → Plain b
plain_is b h =
    let less = and_parts (not (b == 60)) _ h in
    let and = and_parts (not (b == 38)) _ less.1 in
    let greater = and_parts (not (b == 62)) _ and.1 in
    let bracket = and_parts (not (b == 93)) _ greater.1 in
    let return = and_parts (not (b == 13)) _ bracket.1 in
    let lead = and_parts (not (b == 239)) _ return.1 in
    record { less = not-true _ less.0; and = not-true _ and.0; bracket = not-true _ bracket.0; return = not-true _ return.0; lead = not-true _ lead.0; control = not-true _ lead.1 }

-- ---- room

pub short : (s : State) (b n : ℕ) → 0 < n → LeavesRoom s n → is_too_long s b ≡ false
unfolding is_too_long
short s b n some room =
    ⊎_elim
    (λ (counts : ltb 0 s.positions.used ≡ true).
    let within = room (ltb-true 0 s.positions.used counts) in
    let below : leb s.limits.bytes s.positions.used ≡ false = grind (arith, nat_tests) in
    rw (counts, below) refl)
    (λ (nothing : ltb 0 s.positions.used ≡ false). rw nothing refl)
    (cases_Bool (ltb 0 s.positions.used))

abbrev pub used_next : ℕ → ℕ
used_next used = if used == 0 then 0 else next_position used

next_le : (n : ℕ) → next_position n ≤ n + 1
next_le n = omega arith

pub room_after : (used limit n : ℕ) → (0 < used → n + 1 ≤ limit - used) → 0 < used_next used → n ≤ limit - used_next used
room_after used limit n room counts = ⊎_elim
    (λ (none : (used == 0) ≡ true). absurd (grind (arith, nat_tests)))
    (λ (some : (used == 0) ≡ false). grind (arith, nat_tests, next_le used))
    (cases_Bool (used == 0))

-- ---- a byte of a run

-- a state in a run that doesn't end in a carriage return or a `]`
abbrev pub running : State → ℕ → ℕ → List ℕ → List ℕ → State
running s at used chars held = record s {
  positions = record s.positions { at = at; used = used };
  lexical = record s.lexical { mode = mode.Text; in_run = true; returned = false; brackets = 0 };
  pending = held;
  chars = chars;
  fault = None;
}

character_ends : (t : Turn) (s : State) (at used : ℕ) (cs held : List ℕ) (b : ℕ) → Plain b → is_some s.here ≡ true → is_too_long (running s at used cs held) b ≡ false
    → ends_forbidden_character held b ≡ false → utf8_next held b ≡ Some []
    → step (moved t (running s at used cs held)) b ≡ moved t (running s (next_position at) (used_next used) (cs ++ (held ++ b ∷ [])) [])
unfolding goes_on taken in_text inside text_inside
character_ends t s at used cs held b plain inner long sound next =
    rw (long, next, inner, plain.less, plain.and, sound, plain.return, plain.bracket, next) refl

character_goes_on : (t : Turn) (s : State) (at used : ℕ) (cs held : List ℕ) (b x : ℕ) (xs : List ℕ) → Plain b → is_some s.here ≡ true → is_too_long (running s at used cs held) b ≡ false
    → utf8_next held b ≡ Some (x ∷ xs)
    → step (moved t (running s at used cs held)) b ≡ moved t (running s (next_position at) (used_next used) cs (x ∷ xs))
unfolding goes_on taken in_text inside text_inside
character_goes_on t s at used cs held b x xs plain inner long next =
    rw (long, next, inner, plain.less, plain.and, next) refl

-- ---- the character in hand

not_forbidden : (held : List ℕ) (b : ℕ) → list_all is_plain held ≡ true → Plain b → ends_forbidden_character held b ≡ false
not_forbidden [] b h plain = rw plain.control refl
not_forbidden (x ∷ []) b h plain = rw plain.control refl
not_forbidden (x ∷ y ∷ []) b h plain = let p = plain_is x (and_parts (is_plain x) _ h).0 in rw (plain.control, p.lead) refl
not_forbidden (x ∷ y ∷ z ∷ more) b h plain = rw plain.control refl

some_same : (a b : List ℕ) → Some a ≡ Some b → a ≡ b
some_same a b e = ap (λ o. unwrap_or o a) e

none_of_more : {A : Type 0} (x : ℕ) (xs : List ℕ) → Some [] ≡ Some (x ∷ xs) → A
none_of_more x xs e = absurd (true≢false (ap (λ o. is_nothing o) e))

no_some : {A : Type 0} (xs : List ℕ) → None ≡ Some xs → A
no_some xs e = absurd (true≢false (sym (ap (λ o. is_some o) e)))

first_goes_on : (low lead : Bool) (b x : ℕ) (xs : List ℕ) → (if low then Some [] else (if lead then Some (b ∷ []) else None)) ≡ Some (x ∷ xs) → (x ∷ xs) ≡ b ∷ []
first_goes_on true lead b x xs e = none_of_more x xs e
first_goes_on false true b x xs e = sym (some_same (b ∷ []) (x ∷ xs) e)
first_goes_on false false b x xs e = no_some (x ∷ xs) e

later_goes_on : (follows last : Bool) (more : List ℕ) (x : ℕ) (xs : List ℕ) → (if follows then (if last then Some [] else Some more) else None) ≡ Some (x ∷ xs) → (x ∷ xs) ≡ more
later_goes_on true true more x xs e = none_of_more x xs e
later_goes_on true false more x xs e = sym (some_same more (x ∷ xs) e)
later_goes_on false last more x xs e = no_some (x ∷ xs) e

last_ends : {A : Type 0} (follows : Bool) (x : ℕ) (xs : List ℕ) → (if follows then Some [] else None) ≡ Some (x ∷ xs) → A
last_ends true x xs e = none_of_more x xs e
last_ends false x xs e = no_some (x ∷ xs) e

-- what is in hand behind a byte that ends no character
held_more : (held : List ℕ) (b x : ℕ) (xs : List ℕ) → utf8_next held b ≡ Some (x ∷ xs) → (x ∷ xs) ≡ held ++ b ∷ []
unfolding utf8_next
held_more [] b x xs e = first_goes_on (ltb b 128) (is_lead b) b x xs e
held_more (p ∷ []) b x xs e = later_goes_on (is_second p b) (ltb p 224) (p ∷ b ∷ []) x xs e
held_more (p ∷ q ∷ []) b x xs e = later_goes_on (is_tail b) (ltb p 240) (p ∷ q ∷ b ∷ []) x xs e
held_more (p ∷ q ∷ r ∷ more) b x xs e = last_ends (is_tail b) x xs e

-- ---- a run

abbrev Goes : Turn → State → List ℕ → Type 0
Goes t s bs = (at used : ℕ) (cs held : List ℕ) → (0 < used → length bs ≤ s.limits.bytes - used)
    → list_all is_plain held ≡ true → list_all is_plain bs ≡ true → utf8_run held bs ≡ Some []
    → run (moved t (running s at used cs held)) bs ≡ moved t (running s (position_after bs at) (used_after bs used) (cs ++ (held ++ bs)) [])

module _ (t : Turn) (s : State) (inner : is_some s.here ≡ true) where
  goes_by : (next : Option (List ℕ)) (b : ℕ) (bs : List ℕ) (at used : ℕ) (cs held : List ℕ) → (0 < used → length bs + 1 ≤ s.limits.bytes - used)
      → list_all is_plain held ≡ true → list_all is_plain (b ∷ bs) ≡ true → utf8_next held b ≡ next → option_and_then (λ h. utf8_run h bs) next ≡ Some [] → Goes t s bs
      → run (step (moved t (running s at used cs held)) b) bs ≡ moved t (running s (position_after (b ∷ bs) at) (used_after (b ∷ bs) used) (cs ++ (held ++ b ∷ bs)) [])
  goes_by None b bs at used cs held room whole plain next text again = no_some [] text
  goes_by (Some []) b bs at used cs held room whole plain next text again =
      let parts = and_parts (is_plain b) (list_all is_plain bs) plain in
      let p = plain_is b parts.0 in
      let long = short (running s at used cs held) b (length bs + 1) (omega arith) room in
      let chars : (cs ++ (held ++ b ∷ [])) ++ bs ≡ cs ++ (held ++ b ∷ bs) = append_assoc cs (held ++ b ∷ []) bs ∙ ap (λ l. cs ++ l) (append_assoc held (b ∷ []) bs) in
      ap (λ u. run u bs) (character_ends t s at used cs held b p inner long (not_forbidden held b whole p) next)
      ∙ (again (next_position at) (used_next used) (cs ++ (held ++ b ∷ [])) [] (room_after used s.limits.bytes (length bs) room) refl parts.1 text
      ∙ ap (λ l. moved t (running s (position_after (b ∷ bs) at) (used_after (b ∷ bs) used) l [])) chars)
  goes_by (Some (x ∷ xs)) b bs at used cs held room whole plain next text again =
      let parts = and_parts (is_plain b) (list_all is_plain bs) plain in
      let p = plain_is b parts.0 in
      let long = short (running s at used cs held) b (length bs + 1) (omega arith) room in
      let more = held_more held b x xs next in
      let kept : list_all is_plain (x ∷ xs) ≡ true = subst (λ l. list_all is_plain l ≡ true) (sym more) (list_all-append is_plain held (b ∷ []) ∙ and_from _ _ whole (and_from _ _ parts.0 refl)) in
      let chars : cs ++ ((x ∷ xs) ++ bs) ≡ cs ++ (held ++ b ∷ bs) = ap (λ l. cs ++ (l ++ bs)) more ∙ ap (λ l. cs ++ l) (append_assoc held (b ∷ []) bs) in
      ap (λ u. run u bs) (character_goes_on t s at used cs held b x xs p inner long next)
      ∙ (again (next_position at) (used_next used) cs (x ∷ xs) (room_after used s.limits.bytes (length bs) room) kept parts.1 text
      ∙ ap (λ l. moved t (running s (position_after (b ∷ bs) at) (used_after (b ∷ bs) used) l [])) chars)

  goes : (bs : List ℕ) → Goes t s bs
  goes [] at used cs held room whole plain text =
      let none = some_same held [] text in
      ap (λ h. moved t (running s at used cs h)) none ∙ ap (λ c. moved t (running s at used c [])) (sym (append-nil cs) ∙ ap (λ h. cs ++ (h ++ [])) (sym none))
  goes (b ∷ bs) at used cs held room whole plain text =
      goes_by (utf8_next held b) b bs at used cs held (λ counts. omega (arith, room counts)) whole plain refl text (goes bs)

-- ---- from where a text may be taken

pub none_is : {A : Type 0} (o : Option A) → is_some o ≡ false → o ≡ None
none_is None e = refl
none_is (Some x) e = absurd (true≢false e)

text_is : (m : Mode) → is_text m ≡ true → m ≡ mode.Text
text_is mode.Text e = refl
text_is m e = absurd (true≢false (sym e))

pub record TakesText (s : State) : Type 0 where
  pub no_fault : s.fault ≡ None
  pub text : s.lexical.mode ≡ mode.Text
  pub inner : is_some s.here ≡ true
  pub no_pending : s.pending ≡ []
  pub settled : (s.lexical.in_run && (s.lexical.returned || not (s.lexical.brackets == 0))) ≡ false

pub takes_is : (s : State) → takes_text s ≡ true → TakesText s
takes_is s h =
    let fault = and_parts (not (is_some s.fault)) _ h in
    let text = and_parts (is_text s.lexical.mode) _ fault.1 in
    let inner = and_parts (is_some s.here) _ text.1 in
    let pending = and_parts (is_empty s.pending) _ inner.1 in
    record { no_fault = none_is s.fault (not-true _ fault.0); text = text_is s.lexical.mode text.0; inner = inner.0; no_pending = empty_is s.pending pending.0; settled = not-true _ pending.1 }

record Settled (l : Lexical) : Type 0 where
  runs : l.in_run ≡ true
  not_returned : l.returned ≡ false
  no_bracket : l.brackets ≡ 0

lexical_same : (l : Lexical) → l.mode ≡ mode.Text → Settled l → record l { mode = mode.Text; in_run = true; returned = false; brackets = 0 } ≡ l
lexical_same l text h =
    ap (λ m. record l { mode = m; in_run = true; returned = false; brackets = 0 }) (sym text)
    ∙ (ap (λ r. record l { in_run = r; returned = false; brackets = 0 }) (sym h.runs)
    ∙ (ap (λ r. record l { returned = r; brackets = 0 }) (sym h.not_returned) ∙ ap (λ n. record l { brackets = n }) (sym h.no_bracket)))

running_same : (s : State) → TakesText s → Settled s.lexical → (at used : ℕ) (cs : List ℕ) → running s at used cs [] ≡ record s { positions = record s.positions { at = at; used = used }; chars = cs }
running_same s h settled at used cs =
    let positions = record s.positions { at = at; used = used } in
    ap (λ l. record s { positions = positions; lexical = l; pending = []; chars = cs; fault = None }) (lexical_same s.lexical h.text settled)
    ∙ (ap (λ p. record s { positions = positions; pending = p; chars = cs; fault = None }) (sym h.no_pending) ∙ ap (λ f. record s { positions = positions; chars = cs; fault = f }) (sym h.no_fault))

-- a run that has begun
goes_on_so : (t : Turn) (bs : List ℕ) → TakesText t.state → Settled t.state.lexical → LeavesRoom t.state (length bs) → list_all is_plain bs ≡ true → utf8_run [] bs ≡ Some []
    → run t bs ≡ moved t (text_taken t.state bs)
goes_on_so t bs h settled room plain text =
    let s = t.state in
    let same = running_same s h settled in
    let taken : record s { positions = record s.positions { at = position_after bs s.positions.at; used = used_after bs s.positions.used }; chars = s.chars ++ bs } ≡ text_taken s bs = rw settled.runs refl in
    ap (λ u. run (moved t u) bs) (sym (same s.positions.at s.positions.used s.chars))
    ∙ (goes t s h.inner bs s.positions.at s.positions.used s.chars [] room refl plain text
    ∙ ap (moved t) (same (position_after bs s.positions.at) (used_after bs s.positions.used) (s.chars ++ bs) ∙ taken))

-- a state in which no run has begun
abbrev fresh : State → State
fresh s = record s { lexical = record s.lexical { mode = mode.Text; in_run = false }; pending = []; fault = None }

fresh_same : (s : State) → TakesText s → s.lexical.in_run ≡ false → fresh s ≡ s
fresh_same s h none =
    ap (λ m. record s { lexical = record s.lexical { mode = m; in_run = false }; pending = []; fault = None }) (sym h.text)
    ∙ (ap (λ r. record s { lexical = record s.lexical { in_run = r }; pending = []; fault = None }) (sym none)
    ∙ (ap (λ p. record s { pending = p; fault = None }) (sym h.no_pending) ∙ ap (λ f. record s { fault = f }) (sym h.no_fault)))

-- a first plain byte begins a run
begins : (t : Turn) (s : State) (b : ℕ) → Plain b → is_some s.here ≡ true → is_too_long (fresh s) b ≡ false → is_too_long (run_begun (fresh s)) b ≡ false → continues [] b ≡ true
    → step (moved t (fresh s)) b ≡ step (moved t (run_begun (fresh s))) b
unfolding goes_on taken in_text inside text_inside
begins t s b plain inner long begun text = rw (long, begun, text, inner, plain.less, plain.and) refl

has_next : (next : Option (List ℕ)) (bs : List ℕ) → option_and_then (λ h. utf8_run h bs) next ≡ Some [] → is_some next ≡ true
has_next None bs e = no_some [] e
has_next (Some h) bs e = refl

settled_when : (l : Lexical) → l.in_run ≡ true → (l.in_run && (l.returned || not (l.brackets == 0))) ≡ false → Settled l
settled_when l runs h =
    let parts = or_parts l.returned (not (l.brackets == 0)) (ap (λ r. r && (l.returned || not (l.brackets == 0))) (sym runs) ∙ h) in
    record { runs = runs; not_returned = parts.0; no_bracket = eqb-true l.brackets 0 (not-false _ parts.1) }

pub text_goes : (t : Turn) (b : ℕ) (bs : List ℕ) → takes_text t.state ≡ true → LeavesRoom t.state (length bs + 1) → list_all is_plain (b ∷ bs) ≡ true → IsUtf8 (b ∷ bs)
    → run t (b ∷ bs) ≡ moved t (text_taken t.state (b ∷ bs))
text_goes t b bs takes room plain text = ⊎_elim
    (λ (runs : t.state.lexical.in_run ≡ true).
    goes_on_so t (b ∷ bs) h (settled_when t.state.lexical runs h.settled) (λ counts. omega (arith, room counts)) plain characters)
    (λ (none : t.state.lexical.in_run ≡ false).
    let f = fresh t.state in
    let same = fresh_same t.state h none in
    let r = moved t (run_begun f) in
    let p = plain_is b (and_parts (is_plain b) (list_all is_plain bs) plain).0 in
    let also : TakesText r.state = record { no_fault = refl; text = refl; inner = h.inner; no_pending = refl; settled = refl } in
    ap (λ u. run (moved t u) (b ∷ bs)) (sym same)
    ∙ (ap (λ u. run u bs) (begins t t.state b p h.inner (short f b (length bs + 1) (omega arith) room) (short r.state b (length bs + 1) (omega arith) room) (has_next (utf8_next [] b) bs characters))
    ∙ (goes_on_so r (b ∷ bs) also (record { runs = refl; not_returned = refl; no_bracket = refl }) (λ counts. omega (arith, room counts)) plain characters
    ∙ ap (λ u. moved t (text_taken u (b ∷ bs))) same)))
    (cases_Bool t.state.lexical.in_run)
  where
    h : TakesText t.state
    h = takes_is t.state takes

    characters : utf8_run [] (b ∷ bs) ≡ Some []
    characters = text_runs (b ∷ bs) text

-- ---- what is told of a call

part_of_part : (within part bytes : List ℕ) → within ≡ take (length within) bytes → part ≡ take (length part) within → length part ≤ length within → part ≡ take (length part) bytes
part_of_part within part bytes is_front part_is few = part_is ∙ (ap (take (length part)) is_front ∙ take-take (length part) (length within) bytes few)

first_taken : (s : State) (bytes text : List ℕ) → takes_text s ≡ true → text ≡ take (length text) bytes → length text ≤ length bytes → 0 < length text → LeavesRoom s (length text)
    → list_all is_plain text ≡ true → IsUtf8 text → TakesRun s (text_taken s text) bytes (length text)
first_taken s bytes [] takes front bound some room plain text = absurd (omega arith)
first_taken s bytes (b ∷ bs) takes front bound some room plain text = record {
  bound = bound;
  done = λ items. sym (ap (run (turn s items)) (sym front) ∙ text_goes (turn s items) b bs takes (λ counts. omega (arith, room counts)) plain text);
}

pub text_run_taken : (s new : State) (bytes within text : List ℕ) → takes_text s ≡ true → within ≡ take (length within) bytes → length within ≤ length bytes
    → text ≡ take (length text) within → length text ≤ length within → 0 < length text → LeavesRoom s (length within) → list_all is_plain text ≡ true → IsUtf8 text → new ≡ text_taken s text
    → TakesRun s new bytes (length text)
text_run_taken s new bytes within text takes is_front bound text_is few some room plain characters new_is =
    subst (λ u. TakesRun s u bytes (length text)) (sym new_is)
    (first_taken s bytes text takes (part_of_part within text bytes is_front text_is few) (omega arith) some (λ counts. omega (arith, room counts)) plain characters)

pub none_taken : (old new : State) (items : List Item) (bytes : List ℕ) (n : ℕ) → TakesRun old new bytes n → n ≤ 0 → turn new items ≡ turn old items
none_taken old new items bytes n h none = let zero_is : n ≡ 0 = omega arith in h.done items ∙ ap (λ k. run (turn old items) (take k bytes)) zero_is

-- ---- places

pub position_is : (bs : List ℕ) (position : ℕ) → position < 2 ^ 64 → position_after bs position ≡ min (position + length bs) (2 ^ 64 - 1)
position_is [] position h = omega arith
position_is (b ∷ bs) position h = position_is bs (next_position position) (omega arith) ∙ omega arith

pub none_used : (bs : List ℕ) → used_after bs 0 ≡ 0
none_used [] = refl
none_used (b ∷ bs) = none_used bs

next_used : (used : ℕ) → (used == 0) ≡ false → (next_position used == 0) ≡ false
next_used used some = grind (arith, nat_tests)

pub used_is : (bs : List ℕ) (used : ℕ) → (used == 0) ≡ false → used_after bs used ≡ position_after bs used
used_is [] used some = refl
used_is (b ∷ bs) used some = rw some (used_is bs (next_position used) (next_used used some))

-- ---- scans

pub prefix_within : (bs : List ℕ) → prefix_len is_plain bs ≤ length bs
prefix_within bs = splits.prefix_within is_plain bs

pub prefix_plain : (bs : List ℕ) → list_all is_plain (take (prefix_len is_plain bs) bs) ≡ true
prefix_plain bs = ap (list_all is_plain) (splits.take_prefix is_plain bs) ∙ splits.front_passes is_plain bs

pub fewer_plain : (n : ℕ) (bs : List ℕ) → list_all is_plain bs ≡ true → list_all is_plain (take n bs) ≡ true
fewer_plain zero bs h = refl
fewer_plain (suc n) [] h = refl
fewer_plain (suc n) (b ∷ bs) h = let p = and_parts (is_plain b) (list_all is_plain bs) h in and_from _ _ p.0 (fewer_plain n bs p.1)
