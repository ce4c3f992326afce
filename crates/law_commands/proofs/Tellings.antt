-- What `check` tells is the grammar's.
use Rattle.std.proofs.Common.{◌≡◌, ℕ, ◌+◌, ◌<◌, ◌^◌, ◌⊎◌, ◌↔◌, inl, inr, true, false, List, [], ◌∷◌, ◌++◌, Option, Some, None, if◌then◌else◌, length, refl, sym, ap, subst, ◌∙◌, arith, append_assoc, append-nil}
use Rattle.std.proofs.lemmas.Bool.{false≢true}
use Rattle.std.proofs.lemmas.Option.{none-some}
use Rattle.std.specs.List.{AllByRecursion}
use Rattle.law_commands.proofs.FaultGives.{step_apart}
use Rattle.law_commands.specs.Checks.{AreFaultless, HasFirstFault, IsClientStream, IsToldOf, faulty, unfinished, whole}
use Rattle.law_xml.specs.AllRows.{FaultRow}
use Rattle.law_xml.specs.Prefixes.{IsPrefix}
use Rattle.law_xml.specs.StreamLimits.{IsStreamWithin}
use Rattle.law_xml.specs.Streams.{InForce, StreamTo, position_of}
use Rattle.law_xml.proofs.LongRowLaws.{same_front}
use Rattle.xml_check.specs.Checked.{Told, sound_with, told, told_fault, told_item, told_items, told_last, told_turn, wrong_with}
use Rattle.xml_check.specs.Lines.{end_line, fault_line, item_line, strange_at, truncated_line, why_name}
use Rattle.xml_framer.specs.Limits.{server_limits}
use Rattle.xml_framer.specs.Machine.{part_of, run}
use Rattle.xml_framer.specs.Readings.{fault_of, framed, items_of, part_at}
use Rattle.xml_framer.specs.States.{State, Turn, from_start, turn}
use Rattle.xml_framer.specs.declared.fault.Fault.{Fault}
use Rattle.xml_framer.specs.declared.fault.Why.{Why}
use Rattle.xml_framer.specs.declared.items.Item.{Item}
use Rattle.xml_framer.specs.declared.limits.Limits.{Limits}
use Rattle.xml_tokens.specs.Tags.{is_empty}

-- ---- what is known of the machine and of the grammar

abbrev pub Pieces : Type 0
Pieces = (t : Turn) (a b : List ℕ) → run t (a ++ b) ≡ run (run t a) b

abbrev pub Stays : Type 0
Stays = (t : Turn) (bs : List ℕ) (f : Fault) → t.state.fault ≡ Some f → run t bs ≡ t

abbrev pub Prefixes : Limits → Type 0
Prefixes limits = (bytes : List ℕ) → let end = run (turn (from_start limits) []) bytes in (end.state.fault ≡ None → IsPrefix limits bytes end.items (part_of end.state))

abbrev pub Wholes : Limits → Type 0
Wholes limits = (bytes : List ℕ) → ((fault_of limits bytes ≡ None) × (part_at limits bytes ≡ None))
    ↔ ((now : InForce) × (items : List Item) × (stream : StreamTo now bytes items) × IsStreamWithin limits now bytes items stream)

abbrev pub Gives : Limits → Type 0
Gives limits = (bytes : List ℕ) (now : InForce) (items : List Item) (stream : StreamTo now bytes items) → IsStreamWithin limits now bytes items stream → items_of limits bytes ≡ items

abbrev pub Rows : Limits → Type 0
Rows limits = (bytes : List ℕ) (b at : ℕ) (w : Why) → fault_of limits bytes ≡ None
    → (fault_of limits (bytes ++ b ∷ []) ≡ Some (record { at = at; why = w })) ↔ FaultRow limits bytes b at w

-- ---- options and lists

known : {A : Type 0} (o : Option A) → (o ≡ None) ⊎ ((x : A) × (o ≡ Some x))
known None = inl refl
known (Some x) = inr (x, refl)

-- ---- what is told of items

wrong_item : (o : Option ℕ) (line : List ℕ) (rest : Told) → rest.sound ≡ false → (told_item o line rest).sound ≡ false
wrong_item None line rest is = is
wrong_item (Some at) line rest is = refl

wrong_items : (items : List Item) (text : List ℕ) → (told_items items (wrong_with text)).sound ≡ false
wrong_items [] text = refl
wrong_items (i ∷ more) text = wrong_item (strange_at i) (item_line i) (told_items more (wrong_with text)) (wrong_items more text)

sound_item : (o : Option ℕ) (line : List ℕ) (rest : Told) → (told_item o line rest).sound ≡ true → (o ≡ None) × (rest.sound ≡ true)
sound_item None line rest is = (refl, is)
sound_item (Some at) line rest is = absurd (false≢true is)

sound_items : (items : List Item) (text : List ℕ) → (told_items items (sound_with text)).sound ≡ true → AllByRecursion (λ i. strange_at i ≡ None) items
sound_items [] text is = tt
sound_items (i ∷ more) text is =
    let one = sound_item (strange_at i) (item_line i) (told_items more (sound_with text)) is in (one.0, sound_items more text one.1)

items_sound : (items : List Item) (text : List ℕ) → AllByRecursion (λ i. strange_at i ≡ None) items → (told_items items (sound_with text)).sound ≡ true
items_sound [] text all = refl
items_sound (i ∷ more) text all = ap (λ o. (told_item o (item_line i) (told_items more (sound_with text))).sound) all.0 ∙ items_sound more text all.1

-- what is told behind all items
last_is : (s : State) (fault : Option Fault) (part : Option ℕ) → s.fault ≡ fault → part_of s ≡ part → told_last s ≡ told_fault fault part
unfolding told_last
last_is s fault part f p = ap (λ o. told_fault o (part_of s)) f ∙ ap (told_fault fault) p

module _ (limits : Limits) (counted : limits.bytes < 2 ^ 64) (pieces : Pieces) (stays : Stays) (prefixes : Prefixes limits) (wholes : Wholes limits) (gives : Gives limits) (rows : Rows limits) where
  -- ---- faults

  following : (a b : List ℕ) → framed limits (a ++ b) ≡ run (framed limits a) b
  unfolding framed
  following a b = pieces (turn (from_start limits) []) a b

  stayed : (a b : List ℕ) (f : Fault) → fault_of limits a ≡ Some f → framed limits (a ++ b) ≡ framed limits a
  stayed a b f e = following a b ∙ stays (framed limits a) b f e

  at_first : fault_of limits [] ≡ None
  unfolding framed
  at_first = refl

  before : (a b : List ℕ) → fault_of limits (a ++ b) ≡ None → fault_of limits a ≡ None
  before a b none =
      elim (known (fault_of limits a)) [
        | inl early ↦ early
        | inr (f, is) ↦ absurd (none-some f (sym none ∙ (ap (λ (t : Turn). t.state.fault) (stayed a b f is) ∙ is)))
      ]

  faultless : (bytes : List ℕ) → fault_of limits bytes ≡ None → AreFaultless limits bytes
  faultless bytes none front rest b at w is row =
      let all : fault_of limits (front ++ b ∷ rest) ≡ None = subst (λ bs. fault_of limits bs ≡ None) is none in
      let next = before (front ++ b ∷ []) rest (subst (λ bs. fault_of limits bs ≡ None) (sym (append_assoc front (b ∷ []) rest)) all) in
      none-some (record { at = at; why = w }) (sym next ∙ (rows front b at w (before front (b ∷ rest) all)).1 row)

  one_more : (front rest : List ℕ) (b : ℕ) → fault_of limits front ≡ None → AreFaultless limits (front ++ b ∷ rest) → fault_of limits (front ++ b ∷ []) ≡ None
  one_more front rest b none all =
      elim (known (fault_of limits (front ++ b ∷ []))) [
        | inl next ↦ next
        | inr (f, is) ↦ absurd (all front rest b f.at f.why refl ((rows front b f.at f.why none).0 is))
      ]

  no_fault : (front rest : List ℕ) → fault_of limits front ≡ None → AreFaultless limits (front ++ rest) → fault_of limits (front ++ rest) ≡ None
  no_fault front [] none all = subst (λ bs. fault_of limits bs ≡ None) (sym (append-nil front)) none
  no_fault front (b ∷ rest) none all =
      let same = append_assoc front (b ∷ []) rest in
      subst (λ bs. fault_of limits bs ≡ None) same (no_fault (front ++ b ∷ []) rest (one_more front rest b none all) (subst (AreFaultless limits) (sym same) all))

  without_fault : (bytes : List ℕ) → AreFaultless limits bytes → fault_of limits bytes ≡ None
  without_fault bytes all = no_fault [] bytes at_first all

  record IsFirst (bytes : List ℕ) (f : Fault) : Type 0 where
    front : List ℕ
    byte : ℕ
    rest : List ℕ
    bytes_are : bytes ≡ front ++ byte ∷ rest
    none : fault_of limits front ≡ None
    some : fault_of limits (front ++ byte ∷ []) ≡ Some f

  first : (front rest : List ℕ) (f : Fault) → fault_of limits front ≡ None → fault_of limits (front ++ rest) ≡ Some f → IsFirst (front ++ rest) f
  first front [] f none some = absurd (none-some f (sym none ∙ subst (λ bs. fault_of limits bs ≡ Some f) (append-nil front) some))
  first front (b ∷ rest) f none some =
      let same = append_assoc front (b ∷ []) rest in
      let all : fault_of limits ((front ++ b ∷ []) ++ rest) ≡ Some f = subst (λ bs. fault_of limits bs ≡ Some f) (sym same) some in
      elim (known (fault_of limits (front ++ b ∷ []))) [
        | inl next ↦ subst (λ bs. IsFirst bs f) same (first (front ++ b ∷ []) rest f next all)
        | inr (g, is) ↦ record {
          front = front;
          byte = b;
          rest = rest;
          bytes_are = refl;
          none = none;
          some = ap (λ (t : Turn). t.state.fault) (sym (stayed (front ++ b ∷ []) rest g is)) ∙ all;
        }
      ]

  -- the byte that decides the fault gives no item, and no more come
  items_stay : (front rest : List ℕ) (b : ℕ) (f : Fault) → fault_of limits front ≡ None → fault_of limits (front ++ b ∷ []) ≡ Some f → items_of limits (front ++ b ∷ rest) ≡ items_of limits front
  items_stay front rest b f none some =
      let stepped = following front (b ∷ []) in
      let over = ap (λ (t : Turn). t.items) (ap (framed limits) (sym (append_assoc front (b ∷ []) rest)) ∙ stayed (front ++ b ∷ []) rest f some) in
      elim (step_apart (framed limits front) b none) [
        | inl same ↦ over ∙ (ap (λ (t : Turn). t.items) stepped ∙ same)
        | inr calm ↦ absurd (none-some f (sym calm ∙ (ap (λ (t : Turn). t.state.fault) (sym stepped) ∙ some)))
      ]

  fault_stays : (front rest : List ℕ) (b : ℕ) (f : Fault) → fault_of limits (front ++ b ∷ []) ≡ Some f → fault_of limits (front ++ b ∷ rest) ≡ Some f
  fault_stays front rest b f some =
      ap (λ (t : Turn). t.state.fault) (ap (framed limits) (sym (append_assoc front (b ∷ []) rest)) ∙ stayed (front ++ b ∷ []) rest f some) ∙ some

  -- ---- streams and what is unfinished

  prefix_of : (bytes : List ℕ) → fault_of limits bytes ≡ None → IsPrefix limits bytes (items_of limits bytes) (part_at limits bytes)
  unfolding framed
  prefix_of bytes none = prefixes bytes none

  one_prefix : (bytes : List ℕ) (items others : List Item) (part other : Option ℕ) → IsPrefix limits bytes items part → IsPrefix limits bytes others other → (items ≡ others) × (part ≡ other)
  one_prefix bytes items others part other p q =
      let low = q.longest p.now p.done p.hand items p.stream p.bytes_are (p.within counted) in
      let high = p.longest q.now q.done q.hand others q.stream q.bytes_are (q.within counted) in
      let fronts = same_front p.done p.hand q.done q.hand (sym p.bytes_are ∙ q.bytes_are) (omega (arith, low, high)) in (
        sym (gives p.done p.now items p.stream (p.within counted)) ∙ (ap (items_of limits) fronts.0 ∙ gives q.done q.now others q.stream (q.within counted)),
        p.part_is ∙ (ap (λ hand. if is_empty hand then None else Some (position_of (length p.done))) fronts.1 ∙ ap (λ (done : List ℕ). if is_empty q.hand then None else Some (position_of (length done))) fronts.0) ∙ sym q.part_is,
      )

  -- ---- what is told

  abbrev Telling : List ℕ → Told
  Telling bytes = told_turn (framed limits bytes)

  telling : (bytes : List ℕ) (items : List Item) (fault : Option Fault) (part : Option ℕ) → items_of limits bytes ≡ items → fault_of limits bytes ≡ fault → part_at limits bytes ≡ part
      → Telling bytes ≡ told_items items (told_fault fault part)
  telling bytes items fault part is f p =
      ap (told_items (items_of limits bytes)) (last_is (framed limits bytes).state fault part f p) ∙ ap (λ is. told_items is (told_fault fault part)) is

  first_fault : (bytes : List ℕ) (f : Fault) → fault_of limits bytes ≡ Some f → HasFirstFault limits bytes (items_of limits bytes) f.at f.why
  first_fault bytes f some =
      let one = first [] bytes f at_first some in
      let items = items_stay one.front one.rest one.byte f one.none one.some in
      record {
        front = one.front;
        byte = one.byte;
        rest = one.rest;
        bytes_are = one.bytes_are;
        faultless = faultless one.front one.none;
        part = part_at limits one.front;
        prefix = subst (λ is. IsPrefix limits one.front is (part_at limits one.front)) (sym items ∙ ap (items_of limits) (sym one.bytes_are)) (prefix_of one.front one.none);
        decided = (rows one.front one.byte f.at f.why one.none).0 one.some;
      }

  pub is_told : (bytes : List ℕ) → IsToldOf limits bytes (Telling bytes)
  is_told bytes =
      elim (known (fault_of limits bytes)) [
        | inl none ↦
            elim (known (part_at limits bytes)) [
              | inl no_part ↦ (
                  let w = (wholes bytes).0 (none, no_part) in
                  whole limits bytes (Telling bytes) w.0 w.1 w.2 w.3 (telling bytes w.1 None None (gives bytes w.0 w.1 w.2 w.3) none no_part))
              | inr (at, is) ↦
                  unfinished limits bytes (Telling bytes) (items_of limits bytes) at (faultless bytes none) (subst (IsPrefix limits bytes (items_of limits bytes)) is (prefix_of bytes none))
                  (telling bytes (items_of limits bytes) None (Some at) refl none is)
            ]
        | inr (f, some) ↦
            faulty limits bytes (Telling bytes) (items_of limits bytes) f.at f.why (first_fault bytes f some)
            (telling bytes (items_of limits bytes) (Some f) (part_at limits bytes) refl some refl)
      ]

  pub told_alone : (bytes : List ℕ) (t : Told) → IsToldOf limits bytes t → t ≡ Telling bytes
  told_alone bytes t (whole _ _ _ now items stream within t_is) =
      let calm = (wholes bytes).1 (now, items, stream, within) in
      t_is ∙ sym (telling bytes items None None (gives bytes now items stream within) calm.0 calm.1)
  told_alone bytes t (unfinished _ _ _ items at all prefix t_is) =
      let none = without_fault bytes all in
      let same = one_prefix bytes (items_of limits bytes) items (part_at limits bytes) (Some at) (prefix_of bytes none) prefix in
      t_is ∙ sym (telling bytes items None (Some at) same.0 none same.1)
  told_alone bytes t (faulty _ _ _ items at w one t_is) =
      let none = without_fault one.front one.faultless in
      let f : Fault = record { at = at; why = w } in
      let some = (rows one.front one.byte at w none).1 one.decided in
      let same = one_prefix one.front (items_of limits one.front) items (part_at limits one.front) one.part (prefix_of one.front none) one.prefix in
      let is = ap (items_of limits) one.bytes_are ∙ (items_stay one.front one.rest one.byte f none some ∙ same.0) in
      let there = ap (fault_of limits) one.bytes_are ∙ fault_stays one.front one.rest one.byte f some in
      t_is ∙ sym (telling bytes items (Some f) (part_at limits bytes) is there refl)

  sound_stream : (bytes : List ℕ) (t : Told) → IsToldOf limits bytes t → t.sound ≡ true → IsClientStream limits bytes
  sound_stream bytes t (whole _ _ _ now items stream within t_is) sound =
      (now, items, stream, within, sound_items items end_line (ap (λ (u : Told). u.sound) (sym t_is) ∙ sound))
  sound_stream bytes t (unfinished _ _ _ items at all prefix t_is) sound =
      absurd (false≢true (sym (wrong_items items (truncated_line at)) ∙ (ap (λ (u : Told). u.sound) (sym t_is) ∙ sound)))
  sound_stream bytes t (faulty _ _ _ items at w one t_is) sound =
      absurd (false≢true (sym (wrong_items items (fault_line at (why_name w))) ∙ (ap (λ (u : Told). u.sound) (sym t_is) ∙ sound)))

  pub soundly : (bytes : List ℕ) → ((Telling bytes).sound ≡ true) ↔ IsClientStream limits bytes
  soundly bytes = (
    sound_stream bytes (Telling bytes) (is_told bytes),
    λ h.
        let calm = (wholes bytes).1 (h.0, h.1, h.2, h.3) in
        ap (λ (t : Told). t.sound) (telling bytes h.1 None None (gives bytes h.0 h.1 h.2 h.3) calm.0 calm.1) ∙ items_sound h.1 end_line h.4,
  )

-- ---- under the limits of a server

told_is : (bytes : List ℕ) → told bytes ≡ told_turn (framed server_limits bytes)
unfolding told framed
told_is bytes = refl

pub under_limits : Pieces → Stays → Prefixes server_limits → Wholes server_limits → Gives server_limits → Rows server_limits
    → ((bytes : List ℕ) → IsToldOf server_limits bytes (told bytes)) × ((bytes : List ℕ) (t : Told) → IsToldOf server_limits bytes t → t ≡ told bytes)
    × ((bytes : List ℕ) → ((told bytes).sound ≡ true) ↔ IsClientStream server_limits bytes)
under_limits pieces stays prefixes wholes gives rows = (
  λ bytes. subst (IsToldOf server_limits bytes) (sym (told_is bytes)) (is_told server_limits (omega arith) pieces stays prefixes wholes gives rows bytes),
  λ bytes t of. told_alone server_limits (omega arith) pieces stays prefixes wholes gives rows bytes t of ∙ sym (told_is bytes),
  λ bytes. subst (λ (t : Told). (t.sound ≡ true) ↔ IsClientStream server_limits bytes) (sym (told_is bytes)) (soundly server_limits (omega arith) pieces stays prefixes wholes gives rows bytes),
)
