-- Bytes of a tag, one after another, are taken as all at once are.
use Rattle.std.proofs.Common.{◌≡◌, ℕ, ◌+◌, ◌-◌, ◌<◌, ◌≤◌, ltb, Bool, true, false, true≢false, not, ◌&&◌, ◌==◌, List, [], ◌∷◌, ◌++◌, Option, Some, None, length, take, drop, get_or, subst, refl, sym, ap, ◌∙◌, arith, append_assoc, append-nil}
use Rattle.std.proofs.lemmas.Bool.{and_parts, and_from, not-true}
use Rattle.std.proofs.lemmas.List.{length-drop, length-take-le, take-take, take_more, take_rest}
use Rattle.std.proofs.Math.Seq.{take-add}
use Rattle.std.specs.List.{list_all, prefix_len}
use Rattle.std.specs.Option.{is_some}
use Rattle.xml_tokens.proofs.Splits as splits
use Rattle.xml_tokens.specs.Tags.{quote_behind}
use Rattle.xml_tokens.specs.Utf8.{utf8_next}
use Rattle.xml_framer.proofs.PlainTexts.{empty_is, none_is, room_after, short, used_next}
use Rattle.xml_framer.specs.Machine.{goes_on, is_too_long, run, step, taken}
use Rattle.xml_framer.specs.ManyBytes.{GoesOnTo, KeepsQuote, LeavesRoom, TakesRun, is_quoted, is_unquoted, go_on_in, goes_on_in, is_tag, position_after, quote_after, tag_taken, takes_tag, used_after}
use Rattle.xml_framer.specs.States.{State, Turn, moved, next_position, turn}
use Rattle.xml_framer.specs.TagSteps.{in_tag}
use Rattle.xml_framer.specs.declared.states.Mode.{Mode}
use Rattle.xml_framer.specs.declared.states.Mode.TheVariants as mode

-- a state in a tag
abbrev pub tagging : State → ℕ → ℕ → List ℕ → Option ℕ → State
tagging s at used token quote = record s {
  positions = record s.positions { at = at; used = used };
  lexical = record s.lexical { mode = mode.Tag; quote = quote };
  token = token;
  pending = [];
  fault = None;
}

pub byte_goes : (t : Turn) (s : State) (at used : ℕ) (token : List ℕ) (quote : Option ℕ) (b : ℕ) → is_too_long (tagging s at used token quote) b ≡ false → ltb b 128 ≡ true
    → (b == 62 && not (is_some quote)) ≡ false → step (moved t (tagging s at used token quote)) b ≡ moved t (tagging s (next_position at) (used_next used) (token ++ b ∷ []) (quote_behind quote b))
unfolding goes_on taken in_tag utf8_next
byte_goes t s at used token quote b long low inside = rw (long, low, inside, low) refl

goes : (t : Turn) (s : State) (bs : List ℕ) (at used : ℕ) (token : List ℕ) (quote : Option ℕ) → (0 < used → length bs ≤ s.limits.bytes - used) → go_on_in quote bs ≡ true
    → run (moved t (tagging s at used token quote)) bs ≡ moved t (tagging s (position_after bs at) (used_after bs used) (token ++ bs) (quote_after quote bs))
goes t s [] at used token quote room inside = ap (λ l. moved t (tagging s at used l quote)) (sym (append-nil token))
goes t s (b ∷ bs) at used token quote room inside =
    let parts = and_parts (goes_on_in quote b) (go_on_in (quote_behind quote b) bs) inside in
    let here = and_parts (ltb b 128) _ parts.0 in
    let left : 0 < used → length bs + 1 ≤ s.limits.bytes - used = λ counts. omega (arith, room counts) in
    let long = short (tagging s at used token quote) b (length bs + 1) (omega arith) left in
    ap (λ u. run u bs) (byte_goes t s at used token quote b long here.0 (not-true _ here.1))
    ∙ (goes t s bs (next_position at) (used_next used) (token ++ b ∷ []) (quote_behind quote b) (room_after used s.limits.bytes (length bs) left) parts.1
    ∙ ap (λ l. moved t (tagging s (position_after (b ∷ bs) at) (used_after (b ∷ bs) used) l (quote_after quote (b ∷ bs)))) (append_assoc token (b ∷ []) bs))

tag_is : (m : Mode) → is_tag m ≡ true → m ≡ mode.Tag
tag_is mode.Tag e = refl
tag_is m e = absurd (true≢false (sym e))

pub record TakesTag (s : State) : Type 0 where
  pub no_fault : s.fault ≡ None
  pub tag : s.lexical.mode ≡ mode.Tag
  pub no_pending : s.pending ≡ []

takes_is : (s : State) → takes_tag s ≡ true → TakesTag s
takes_is s h =
    let fault = and_parts (not (is_some s.fault)) _ h in
    let tag = and_parts (is_tag s.lexical.mode) _ fault.1 in
    record { no_fault = none_is s.fault (not-true _ fault.0); tag = tag_is s.lexical.mode tag.0; no_pending = empty_is s.pending tag.1 }

pub tagging_same : (s : State) → TakesTag s → (at used : ℕ) (token : List ℕ) (quote : Option ℕ)
    → tagging s at used token quote ≡ record s { positions = record s.positions { at = at; used = used }; lexical = record s.lexical { quote = quote }; token = token }
tagging_same s h at used token quote =
    let positions = record s.positions { at = at; used = used } in
    let lexical = record s.lexical { quote = quote } in
    ap (λ m. record s { positions = positions; lexical = record lexical { mode = m }; token = token; pending = []; fault = None }) (sym h.tag)
    ∙ (ap (λ p. record s { positions = positions; lexical = lexical; token = token; pending = p; fault = None }) (sym h.no_pending)
    ∙ ap (λ f. record s { positions = positions; lexical = lexical; token = token; fault = f }) (sym h.no_fault))

tag_goes : (t : Turn) (bs : List ℕ) → takes_tag t.state ≡ true → LeavesRoom t.state (length bs) → go_on_in t.state.lexical.quote bs ≡ true → run t bs ≡ moved t (tag_taken t.state bs)
tag_goes t bs takes room inside =
    let s = t.state in
    let same = tagging_same s (takes_is s takes) in
    ap (λ u. run (moved t u) bs) (sym (same s.positions.at s.positions.used s.token s.lexical.quote))
    ∙ (goes t s bs s.positions.at s.positions.used s.token s.lexical.quote room inside
    ∙ ap (moved t) (same (position_after bs s.positions.at) (used_after bs s.positions.used) (s.token ++ bs) (quote_after s.lexical.quote bs)))

pub tag_run_taken : (s new : State) (bytes within front : List ℕ) (n : ℕ) → takes_tag s ≡ true → within ≡ take (length within) bytes → length within ≤ length bytes → front ≡ take n within
    → n ≤ length within → LeavesRoom s (length within) → go_on_in s.lexical.quote front ≡ true → new ≡ tag_taken s front → TakesRun s new bytes n
tag_run_taken s new bytes within front n takes is_front bound front_is few room inside new_is =
    let len : length front ≡ n = ap length front_is ∙ length-take-le n within few in
    let front_of : front ≡ take n bytes = front_is ∙ (ap (take n) is_front ∙ take-take n (length within) bytes few) in
    record {
      bound = omega arith;
      done = λ items.
          ap (λ u. turn u items) new_is
          ∙ sym (ap (run (turn s items)) (sym front_of) ∙ tag_goes (turn s items) front takes (λ counts. omega (arith, room counts, len)) inside);
    }

-- ---- a scan

and_last : (x : Bool) → (x && true) ≡ x
and_last true = refl
and_last false = refl

pub never : (x : Bool) → (x && false) ≡ false
never true = refl
never false = refl

and_again : (x y z : Bool) → (x && (y && z)) ≡ ((x && y) && z)
and_again true y z = refl
and_again false y z = refl

pub go_on_more : (quote : Option ℕ) (bs : List ℕ) (b : ℕ) → go_on_in quote (bs ++ b ∷ []) ≡ (go_on_in quote bs && goes_on_in (quote_after quote bs) b)
go_on_more quote [] b = and_last (goes_on_in quote b)
go_on_more quote (x ∷ xs) b = ap (λ r. goes_on_in quote x && r) (go_on_more (quote_behind quote x) xs b) ∙ and_again (goes_on_in quote x) (go_on_in (quote_behind quote x) xs) (goes_on_in (quote_after (quote_behind quote x) xs) b)

pub quote_more : (quote : Option ℕ) (bs : List ℕ) (b : ℕ) → quote_after quote (bs ++ b ∷ []) ≡ quote_behind (quote_after quote bs) b
quote_more quote [] b = refl
quote_more quote (x ∷ xs) b = quote_more (quote_behind quote x) xs b

pub go_on_append : (quote : Option ℕ) (xs ys : List ℕ) → go_on_in quote (xs ++ ys) ≡ (go_on_in quote xs && go_on_in (quote_after quote xs) ys)
go_on_append quote [] ys = refl
go_on_append quote (x ∷ xs) ys =
    ap (λ r. goes_on_in quote x && r) (go_on_append (quote_behind quote x) xs ys) ∙ and_again (goes_on_in quote x) (go_on_in (quote_behind quote x) xs) (go_on_in (quote_after (quote_behind quote x) xs) ys)

pub quote_append : (quote : Option ℕ) (xs ys : List ℕ) → quote_after quote (xs ++ ys) ≡ quote_after (quote_after quote xs) ys
quote_append quote [] ys = refl
quote_append quote (x ∷ xs) ys = quote_append (quote_behind quote x) xs ys

-- bytes that go on, and then more of them
goes_further : (quote now next : Option ℕ) (bs : List ℕ) (d n : ℕ) → GoesOnTo quote bs d now → GoesOnTo now (drop d bs) n next → GoesOnTo quote bs (d + n) next
goes_further quote now next bs d n h more =
    let apart : take (d + n) bs ≡ take d bs ++ take n (drop d bs) = take-add d n bs in
    let bound = more.bound in
    let within = h.bound in
    record {
      bound = omega (arith, length-drop d bs);
      inside = ap (go_on_in quote) apart ∙ (go_on_append quote (take d bs) (take n (drop d bs)) ∙ and_from _ _ h.inside (ap (λ q. go_on_in q (take n (drop d bs))) (sym h.after_is) ∙ more.inside));
      after_is = more.after_is ∙ (ap (λ q. quote_after q (take n (drop d bs))) h.after_is ∙ (sym (quote_append quote (take d bs) (take n (drop d bs))) ∙ ap (quote_after quote) (sym apart)));
    }

-- the rest of a slice is seen as a part of it
pub goes_on_after : (quote now next : Option ℕ) (bs : List ℕ) (d n : ℕ) → GoesOnTo quote bs d now → GoesOnTo now (take (length bs - d) (drop d bs)) n next → GoesOnTo quote bs (d + n) next
goes_on_after quote now next bs d n h more = goes_further quote now next bs d n h (subst (λ r. GoesOnTo now r n next) (take_rest bs d) more)

pub one_further : (quote next : Option ℕ) (bs : List ℕ) (n b : ℕ) → KeepsQuote quote bs n → n < length bs → b ≡ get_or bs n 0 → goes_on_in quote b ≡ true → next ≡ quote_behind quote b → GoesOnTo quote bs (n + 1) next
one_further quote next bs n b h within is on following =
    let more : take (n + 1) bs ≡ take n bs ++ b ∷ [] = take_more bs n 0 within ∙ ap (λ x. take n bs ++ x ∷ []) (sym is) in
    record {
      bound = omega arith;
      inside = ap (go_on_in quote) more ∙ (go_on_more quote (take n bs) b ∙ and_from _ _ h.inside (ap (λ q. goes_on_in q b) (sym h.after_is) ∙ on));
      after_is = following ∙ (ap (λ q. quote_behind q b) h.after_is ∙ (sym (quote_more quote (take n bs) b) ∙ ap (quote_after quote) (sym more)));
    }

pub goes_nowhere : (quote : Option ℕ) (bs : List ℕ) → GoesOnTo quote bs 0 quote
goes_nowhere quote bs = record { bound = omega arith; inside = refl; after_is = refl }

-- ---- bytes that leave the open quote as it is

pub record Unquoted (b : ℕ) : Type 0 where
  pub on : goes_on_in None b ≡ true
  pub none : quote_behind None b ≡ None

pub unquoted_is : (b : ℕ) → is_unquoted b ≡ true → Unquoted b
unquoted_is b h =
    let low = and_parts (ltb b 128) _ h in
    let greater = and_parts (not (b == 62)) _ low.1 in
    let double = and_parts (not (b == 34)) _ greater.1 in
    let no_greater = not-true _ greater.0 in
    let no_double = not-true _ double.0 in
    let no_single = not-true _ double.1 in
    record { on = rw (low.0, no_greater) refl; none = rw (no_double, no_single) refl }

unquoted_on : (bs : List ℕ) → list_all is_unquoted bs ≡ true → (go_on_in None bs ≡ true) × (None ≡ quote_after None bs)
unquoted_on [] h = (refl, refl)
unquoted_on (b ∷ bs) h =
    let parts = and_parts (is_unquoted b) (list_all is_unquoted bs) h in
    let u = unquoted_is b parts.0 in
    let more = unquoted_on bs parts.1 in
    (and_from _ _ u.on (ap (λ q. go_on_in q bs) u.none ∙ more.0), more.1 ∙ ap (λ q. quote_after q bs) (sym u.none))

quoted_on : (quote : ℕ) (bs : List ℕ) → list_all (is_quoted quote) bs ≡ true → (go_on_in (Some quote) bs ≡ true) × (Some quote ≡ quote_after (Some quote) bs)
quoted_on quote [] h = (refl, refl)
quoted_on quote (b ∷ bs) h =
    let parts = and_parts (is_quoted quote b) (list_all (is_quoted quote) bs) h in
    let low = and_parts (ltb b 128) _ parts.0 in
    let other = not-true _ low.1 in
    let on : goes_on_in (Some quote) b ≡ true = and_from _ _ low.0 (ap not (never (b == 62))) in
    let same : quote_behind (Some quote) b ≡ Some quote = rw other refl in
    let more = quoted_on quote bs parts.1 in
    (and_from _ _ on (ap (λ q. go_on_in q bs) same ∙ more.0), more.1 ∙ ap (λ q. quote_after q bs) (sym same))

pub unquoted_front : (bs : List ℕ) → KeepsQuote None bs (prefix_len is_unquoted bs)
unquoted_front bs =
    let on = unquoted_on (take (prefix_len is_unquoted bs) bs) (ap (list_all is_unquoted) (splits.take_prefix is_unquoted bs) ∙ splits.front_passes is_unquoted bs) in
    record { bound = splits.prefix_within is_unquoted bs; inside = on.0; after_is = on.1 }

pub quoted_front : (quote : ℕ) (bs : List ℕ) → KeepsQuote (Some quote) bs (prefix_len (is_quoted quote) bs)
quoted_front quote bs =
    let p = is_quoted quote in
    let on = quoted_on quote (take (prefix_len p bs) bs) (ap (list_all p) (splits.take_prefix p bs) ∙ splits.front_passes p bs) in
    record { bound = splits.prefix_within p bs; inside = on.0; after_is = on.1 }
