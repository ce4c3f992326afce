-- A tag in an element from its `<` on: its bytes are taken as those of a tag that has begun are.
use Rattle.std.proofs.Common.{◌≡◌, ℕ, zero, suc, ◌-◌, ◌<◌, ◌≤◌, ltb, true, false, true≢false, not, ◌==◌, List, [], ◌∷◌, ◌++◌, Option, None, length, take, refl, sym, ap, ◌∙◌, arith}
use Rattle.std.proofs.lemmas.Bool.{and_parts, and_from, eqb-true, not-true}
use Rattle.std.proofs.lemmas.List.{take-take}
use Rattle.std.specs.Option.{is_some}
use Rattle.xml_tokens.specs.Tags.{quote_behind}
use Rattle.xml_tokens.specs.Utf8.{utf8_next}
use Rattle.xml_framer.proofs.PlainTags.{byte_goes, never, tag_run_taken, tagging, tagging_same, unquoted_is}
use Rattle.xml_framer.proofs.PlainTexts.{none_is, room_after, short, takes_is, used_next}
use Rattle.xml_framer.specs.Machine.{goes_on, is_too_long, run, step, taken}
use Rattle.xml_framer.specs.ManyBytes.{GoesOnTo, LeavesRoom, TakesRun, begins_tag, go_on_in, goes_on_in, is_unquoted, opens_tag, tag_taken, takes_opening, takes_tag}
use Rattle.xml_framer.specs.States.{State, Turn, moved, next_position, token_begun, turn}
use Rattle.xml_framer.specs.TagSteps.{in_opening, in_tag}
use Rattle.xml_framer.specs.TextSteps.{in_text, inside}
use Rattle.xml_framer.specs.declared.states.Mode.TheVariants as mode

-- ---- the first byte of a tag

record Opens (b : ℕ) : Type 0 where
  on : goes_on_in None b ≡ true
  none : quote_behind None b ≡ None
  low : ltb b 128 ≡ true
  greater : (b == 62) ≡ false
  bang : (b == 33) ≡ false
  question : (b == 63) ≡ false

opens_is : (b : ℕ) → opens_tag b ≡ true → Opens b
opens_is b h =
    let parts = and_parts (is_unquoted b) _ h in
    let others = and_parts (not (b == 33)) _ parts.1 in
    let low = and_parts (ltb b 128) _ parts.0 in
    let greater = and_parts (not (b == 62)) _ low.1 in
    let u = unquoted_is b parts.0 in
    record { on = u.on; none = u.none; low = low.0; greater = not-true _ greater.0; bang = not-true _ others.0; question = not-true _ others.1 }

pub two_there : (bs : List ℕ) → begins_tag bs ≡ true → 2 ≤ length bs
two_there [] h = absurd (true≢false (sym h))
two_there (a ∷ []) h = absurd (true≢false (sym h))
two_there (a ∷ b ∷ bs) h = omega arith

-- no quote is open behind the first two bytes
pub opened : (bs : List ℕ) → begins_tag bs ≡ true → GoesOnTo None bs 2 None
opened [] h = absurd (true≢false (sym h))
opened (a ∷ []) h = absurd (true≢false (sym h))
opened (a ∷ b ∷ bs) h =
    let parts = and_parts (a == 60) _ h in
    let less = eqb-true a 60 parts.0 in
    let o = opens_is b parts.1 in
    record { bound = omega arith; inside = rw less (and_from _ _ o.on refl); after_is = rw less (sym o.none) }

-- ---- the first two bytes

-- a state between tags, and with a `<` alone in hand
abbrev between_tags : State → State
between_tags s = record s { lexical = record s.lexical { mode = mode.Text; quote = None }; pending = []; fault = None }

abbrev opening : State → State
opening s = record s {
  positions = record s.positions { token_at = s.positions.at; at = next_position s.positions.at; used = used_next s.positions.used };
  lexical = record s.lexical { mode = mode.Opening; quote = None; in_run = false; returned = false; brackets = 0 };
  token = s.token ++ 60 ∷ [];
  pending = [];
  fault = None;
}

between_same : (s : State) → s.lexical.mode ≡ mode.Text → s.lexical.quote ≡ None → s.pending ≡ [] → s.fault ≡ None → between_tags s ≡ s
between_same s text quote pending fault =
    ap (λ m. record s { lexical = record s.lexical { mode = m; quote = None }; pending = []; fault = None }) (sym text)
    ∙ (ap (λ q. record s { lexical = record s.lexical { quote = q }; pending = []; fault = None }) (sym quote)
    ∙ (ap (λ p. record s { pending = p; fault = None }) (sym pending) ∙ ap (λ f. record s { fault = f }) (sym fault)))

less_opens : (t : Turn) (s : State) → is_some s.here ≡ true → is_too_long (between_tags s) 60 ≡ false → step (moved t (between_tags s)) 60 ≡ moved t (opening s)
unfolding goes_on taken in_text inside utf8_next
less_opens t s inner long = rw (long, inner) refl

byte_opens : (t : Turn) (s : State) (b : ℕ) → Opens b → is_some s.here ≡ true → is_too_long (opening s) b ≡ false
    → step (moved t (opening s)) b ≡ moved t (tagging (token_begun s mode.Tag) (next_position (next_position s.positions.at)) (used_next (used_next s.positions.used)) ((s.token ++ 60 ∷ []) ++ b ∷ []) (quote_behind None b))
unfolding goes_on taken in_opening in_tag utf8_next
byte_opens t s b o inner long = rw (long, o.low, o.bang, o.question, inner, never (b == 47), o.greater, o.low) refl

-- where a tag has begun, both bytes lead to the same
both_go : (t : Turn) (s : State) (b : ℕ) → Opens b → (0 < s.positions.used → 2 ≤ s.limits.bytes - s.positions.used)
    → step (step (moved t (tagging (token_begun s mode.Tag) s.positions.at s.positions.used s.token None)) 60) b
    ≡ moved t (tagging (token_begun s mode.Tag) (next_position (next_position s.positions.at)) (used_next (used_next s.positions.used)) ((s.token ++ 60 ∷ []) ++ b ∷ []) (quote_behind None b))
both_go t s b o room =
    let begun = token_begun s mode.Tag in
    let first = short (tagging begun s.positions.at s.positions.used s.token None) 60 2 (omega arith) room in
    let left : 0 < used_next s.positions.used → 1 ≤ s.limits.bytes - used_next s.positions.used = room_after s.positions.used s.limits.bytes 1 room in
    let second = short (tagging begun (next_position s.positions.at) (used_next s.positions.used) (s.token ++ 60 ∷ []) None) b 1 (omega arith) left in
    ap (λ u. step u b) (byte_goes t begun s.positions.at s.positions.used s.token None 60 first refl refl)
    ∙ byte_goes t begun (next_position s.positions.at) (used_next s.positions.used) (s.token ++ 60 ∷ []) None b second o.low (rw o.greater refl)

both_open : (t : Turn) (s : State) (b : ℕ) → Opens b → is_some s.here ≡ true → (0 < s.positions.used → 2 ≤ s.limits.bytes - s.positions.used)
    → step (step (moved t (between_tags s)) 60) b ≡ step (step (moved t (tagging (token_begun s mode.Tag) s.positions.at s.positions.used s.token None)) 60) b
both_open t s b o inner room =
    let first = short (between_tags s) 60 2 (omega arith) room in
    let left : 0 < used_next s.positions.used → 1 ≤ s.limits.bytes - used_next s.positions.used = room_after s.positions.used s.limits.bytes 1 room in
    let second = short (opening s) b 1 (omega arith) left in
    ap (λ u. step u b) (less_opens t s inner first) ∙ (byte_opens t s b o inner second ∙ sym (both_go t s b o room))

record TakesOpening (s : State) : Type 0 where
  inner : is_some s.here ≡ true
  quote : s.lexical.quote ≡ None
  tags : takes_tag (token_begun s mode.Tag) ≡ true
  between : between_tags s ≡ s
  begun : tagging (token_begun s mode.Tag) s.positions.at s.positions.used s.token None ≡ token_begun s mode.Tag

opening_is : (s : State) → takes_opening s ≡ true → TakesOpening s
opening_is s h =
    let parts = and_parts _ (not (is_some s.lexical.quote)) h in
    let text = takes_is s parts.0 in
    let quote = none_is s.lexical.quote (not-true _ parts.1) in
    record {
      inner = text.inner;
      quote = quote;
      tags = rw (text.no_fault, text.no_pending) refl;
      between = between_same s text.text quote text.no_pending text.no_fault;
      begun = ap (λ q. tagging (token_begun s mode.Tag) s.positions.at s.positions.used s.token q) (sym quote)
          ∙ tagging_same (token_begun s mode.Tag) (record { no_fault = text.no_fault; tag = refl; no_pending = text.no_pending }) s.positions.at s.positions.used s.token s.lexical.quote;
    }

opens : (t : Turn) (b : ℕ) (bs : List ℕ) → takes_opening t.state ≡ true → opens_tag b ≡ true → LeavesRoom t.state 2 → run t (60 ∷ b ∷ bs) ≡ run (moved t (token_begun t.state mode.Tag)) (60 ∷ b ∷ bs)
opens t b bs takes h room =
    let o = opening_is t.state takes in
    ap (λ u. run (moved t u) (60 ∷ b ∷ bs)) (sym o.between)
    ∙ (ap (λ u. run u bs) (both_open t t.state b (opens_is b h) o.inner room)
    ∙ ap (λ u. run (moved t u) (60 ∷ b ∷ bs)) o.begun)

-- ---- what is told of a call

front_opens : (t : Turn) (within : List ℕ) (n : ℕ) → takes_opening t.state ≡ true → begins_tag within ≡ true → 2 ≤ n → LeavesRoom t.state (length within)
    → run t (take n within) ≡ run (moved t (token_begun t.state mode.Tag)) (take n within)
front_opens t [] n takes begins both room = absurd (true≢false (sym begins))
front_opens t (a ∷ []) n takes begins both room = absurd (true≢false (sym begins))
front_opens t (a ∷ b ∷ bs) zero takes begins both room = absurd (omega (arith, both))
front_opens t (a ∷ b ∷ bs) (suc zero) takes begins both room = absurd (omega (arith, both))
front_opens t (a ∷ b ∷ bs) (suc (suc m)) takes begins both room =
    let parts = and_parts (a == 60) _ begins in
    let less = eqb-true a 60 parts.0 in
    rw less (opens t b (take m bs) takes parts.1 (λ counts. omega (arith, room counts)))

-- a run from where a tag has begun, over bytes that begin one, is a run from before its `<`
opening_taken : (s new : State) (bytes within : List ℕ) (n : ℕ) → takes_opening s ≡ true → begins_tag within ≡ true → within ≡ take (length within) bytes → n ≤ length within → 2 ≤ n
    → LeavesRoom s (length within) → TakesRun (token_begun s mode.Tag) new bytes n → TakesRun s new bytes n
opening_taken s new bytes within n takes begins is_front few both room h =
    let front_of : take n within ≡ take n bytes = ap (take n) is_front ∙ take-take n (length within) bytes few in
    record {
      bound = h.bound;
      done = λ items.
          h.done items
          ∙ (ap (run (turn (token_begun s mode.Tag) items)) (sym front_of)
          ∙ (sym (front_opens (turn s items) within n takes begins both room) ∙ ap (run (turn s items)) front_of));
    }

pub opening_run : (s new : State) (quote : Option ℕ) (bytes within : List ℕ) (n : ℕ) → takes_opening s ≡ true → begins_tag within ≡ true → within ≡ take (length within) bytes
    → length within ≤ length bytes → LeavesRoom s (length within) → GoesOnTo None within n quote → 2 ≤ n → new ≡ tag_taken (token_begun s mode.Tag) (take n within) → TakesRun s new bytes n
opening_run s new quote bytes within n takes begins is_front bound room goes both new_is =
    let o = opening_is s takes in
    opening_taken s new bytes within n takes begins is_front goes.bound both room
    (tag_run_taken (token_begun s mode.Tag) new bytes within (take n within) n o.tags is_front bound refl goes.bound room
    (ap (λ q. go_on_in q (take n within)) o.quote ∙ goes.inside) new_is)
