-- No spelling of an element or an item begins the spelling of another, and each list of bytes spells one at most.
use Rattle.std.proofs.Common.{◌≡◌, ℕ, ◌+◌, ◌≤◌, true, List, [], ◌∷◌, ◌++◌, Ok, Result, length, map, refl, sym, ap, subst, ◌∙◌, arith, append_assoc, append-nil}
use Rattle.std.proofs.lemmas.Bool.{false≢true}
use Rattle.std.proofs.lemmas.List.{append_cancel_left}
use Rattle.std.proofs.lemmas.List.Elements.{All-from_recursion}
use Rattle.std.specs.List.{AllByRecursion}
use Rattle.xml_tokens.specs.Spelling.{spelled_value}
use Rattle.xml_tokens.specs.Tags as tokens
use Rattle.xml_tokens.specs.Characters.{is_name_start}
use Rattle.xml_tokens.specs.Tags.{end_tag, start_tag}
use Rattle.xml_names.proofs.StartLaws as laws
use Rattle.xml_names.specs.Grammar.{IsShort, IsStart}
use Rattle.xml_names.specs.Headers.{header_of}
use Rattle.xml_names.specs.Scopes.{Scope}
use Rattle.xml_names.specs.Starts.{Tag, start_of}
use Rattle.xml_names.specs.declared.fault.StartWhy.{StartWhy}
use Rattle.xml_names.specs.declared.headers.Header.{Header}
use Rattle.xml_names.specs.declared.limits.TagLimits.{TagLimits}
use Rattle.xml_trees.proofs.AttributeOrder.{one_IsAttrsOf}
use Rattle.xml_framer.specs.Expanded.{attribute_of}
use Rattle.law_xml.proofs.OneText.{one_text}
use Rattle.law_xml.proofs.TagEnds.{BeginsEnd, BeginsStart, end_begins, one_tag, start_begins, start_no_exclamation, start_no_slash}
use Rattle.law_xml.specs.Spells.{IsBegun, IsSameItem, Spells, SpellsContent, SpellsItem, SpellsNextHeader, SpellsTop, a_footer, a_header, an_element, empty, filled, placed, text_alone, with_element}
use Rattle.law_xml.specs.Texts.{IsText}
use Rattle.xml_trees.specs.Tidied.{text_node}
use Rattle.xml_trees.specs.Trees.{Elem, element, Nodes, no_nodes, child, joined, name_of, namespace_of}
use Rattle.xml_framer.specs.declared.items.Item.{Item}
use Rattle.xml_framer.specs.declared.items.Item.TheVariants as item

-- ---- what one list says as a start tag in a scope is one tag

-- a limit that no declared namespace is past
longest : Scope → ℕ
longest [] = 0
longest (b ∷ bs) = length (spelled_value b.ns) + longest bs

all_short : (bs : Scope) (most : ℕ) → longest bs ≤ most → AllByRecursion (IsShort most) bs
unfolding longest
all_short [] most h = tt
all_short (b ∷ bs) most h = (omega (arith, h), all_short bs most (omega (arith, h)))

abbrev start_as : Tag → Result Tag StartWhy
start_as t = Ok t

same_start : (t u : Tag) → start_as t ≡ start_as u → t ≡ u
same_start t u e = cc

one_start : (scope : Scope) (bytes : List ℕ) (xs ys : List tokens.Attribute) (t u : Tag) → IsStart scope bytes xs t → IsStart scope bytes ys u → t ≡ u
one_start scope bytes xs ys t u p q =
    let most = longest t.bindings + longest u.bindings in
    let limits : TagLimits = record { attributes = length xs + length ys; namespace_bytes = most } in
    let first : start_of limits scope bytes ≡ Ok t =
    (laws.read limits scope bytes t).1 (xs, p, (omega arith, All-from_recursion (IsShort most) t.bindings (all_short t.bindings most (omega arith)))) in
    let other : start_of limits scope bytes ≡ Ok u =
    (laws.read limits scope bytes u).1 (ys, q, (omega arith, All-from_recursion (IsShort most) u.bindings (all_short u.bindings most (omega arith)))) in
    same_start t u (sym first ∙ other)

record Same (a b : List ℕ) (t u : Tag) : Type 0 where
  bytes : a ≡ b
  tags : t ≡ u

-- two start tags that begin one list are one, and say one tag
same_tags : (scope : Scope) (a b x y : List ℕ) (xs ys : List tokens.Attribute) (t u : Tag) → IsStart scope a xs t → IsStart scope b ys u → a ++ x ≡ b ++ y → Same a b t u
same_tags scope a b x y xs ys t u p q e =
    let bytes = one_tag a b x y (start_tag t.spelled xs t.empty) (start_tag u.spelled ys u.empty) p.spelled q.spelled e in
    record { bytes = bytes; tags = one_start scope b xs ys t u (subst (λ l. IsStart scope l xs t) bytes p) q }

-- ---- the element that a tag begins is one

one_begun : (t u : Tag) (ks ls : Nodes) (e f : Elem) → t ≡ u → ks ≡ ls → IsBegun t ks e → IsBegun u ls f → e ≡ f
one_begun t u ks ls e f tags kids p q =
    let moved : IsBegun u ks e = subst (λ v. IsBegun v ks e) tags p in
    let attributes = one_IsAttrsOf (map attribute_of u.attributes) moved.attributes q.attributes moved.sorted q.sorted in
    moved.is ∙ ((λ i. element u.ns u.name (attributes i) (kids i)) ∙ sym q.is)

-- ---- an element begins with a start tag

record Opens (scope : Scope) (bytes : List ℕ) (e : Elem) : Type 0 where
  start : List ℕ
  raw : List tokens.Attribute
  tag : Tag
  rest : List ℕ
  is : IsStart scope start raw tag
  bytes_are : bytes ≡ start ++ rest
  namespace_is : namespace_of e ≡ tag.ns
  name_is : name_of e ≡ tag.name

opens : (scope : Scope) (bytes : List ℕ) (e : Elem) → Spells scope bytes e → Opens scope bytes e
opens scope bytes e (empty _ _ _ raw t is ends begun) =
    record { start = bytes; raw = raw; tag = t; rest = []; is = is; bytes_are = sym (append-nil bytes); namespace_is = ap namespace_of begun.is; name_is = ap name_of begun.is }
opens scope bytes e (filled _ _ _ raw t start inside close kids is goes content closes bytes_are begun) =
    record { start = start; raw = raw; tag = t; rest = inside ++ close; is = is; bytes_are = bytes_are; namespace_is = ap namespace_of begun.is; name_is = ap name_of begun.is }

begins : (scope : Scope) (bytes : List ℕ) (e : Elem) → Spells scope bytes e → BeginsStart bytes
begins scope bytes e h =
    let o = opens scope bytes e h in
    let b = start_begins o.start o.tag.spelled o.raw o.tag.empty o.is.spelled in
    record { second = b.second; rest = b.rest ++ o.rest; bytes_are = o.bytes_are ∙ ap (λ l. l ++ o.rest) b.bytes_are; starts = b.starts }

slash_no_exclamation : ◌≡◌ {A = ℕ} 47 33 → ⊥
slash_no_exclamation e = omega (arith, e)

three : (bytes a b c x : List ℕ) → bytes ≡ a ++ (b ++ c) → bytes ++ x ≡ a ++ (b ++ (c ++ x))
three bytes a b c x is = ap (λ l. l ++ x) is ∙ (append_assoc a (b ++ c) x ∙ ap (λ l. a ++ l) (append_assoc b c x))

cancelled : (a b x y : List ℕ) → a ≡ b → a ++ x ≡ b ++ y → x ≡ y
cancelled a b x y same e = append_cancel_left b x y (ap (λ l. l ++ x) (sym same) ∙ e)

before_start : (bytes front middle rest after : List ℕ) (b : BeginsStart middle) → bytes ≡ front ++ (middle ++ rest) → bytes ++ after ≡ front ++ (60 ∷ b.second ∷ (b.rest ++ (rest ++ after)))
before_start bytes front middle rest after b is = three bytes front middle rest after is ∙ ap (λ l. front ++ (l ++ (rest ++ after))) b.bytes_are

before_end : (inside close after : List ℕ) (c : BeginsEnd close) → inside ++ (close ++ after) ≡ inside ++ (60 ∷ 47 ∷ (c.rest ++ after))
before_end inside close after c = ap (λ l. inside ++ (l ++ after)) c.bytes_are

-- a text in front of a start tag is none in front of an end tag
no_start : (a says front other x y : List ℕ) (b : ℕ) → IsText a says → IsText front other → is_name_start b ≡ true → a ++ (60 ∷ 47 ∷ x) ≡ front ++ (60 ∷ b ∷ y) → ⊥
no_start a says front other x y b p q starts e =
    let same = one_text a says front other 47 b x y p q slash_no_exclamation (start_no_exclamation b starts) e in
    let following : 60 ∷ 47 ∷ x ≡ 60 ∷ b ∷ y = cancelled a front (60 ∷ 47 ∷ x) (60 ∷ b ∷ y) same.0 e in
    let second : b ≡ 47 = cc in
    start_no_slash b starts second

-- ---- elements, and what they contain

mutual
  pub one_element : (scope : Scope) (a : List ℕ) (e : Elem) → Spells scope a e → (b : List ℕ) (f : Elem) (x y : List ℕ) → Spells scope b f → a ++ x ≡ b ++ y → (a ≡ b) × (e ≡ f)
  one_element scope a e (empty _ _ _ raw t is ends begun) b f x y (empty _ _ _ raw' t' is' ends' begun') same =
      let tags = same_tags scope a b x y raw raw' t t' is is' same in
      (tags.bytes, one_begun t t' no_nodes no_nodes e f tags.tags refl begun begun')
  one_element scope a e (empty _ _ _ raw t is ends begun) b f x y (filled _ _ _ raw' t' start' inside' close' kids' is' goes' content' closes' bytes' begun') same =
      let whole : b ++ y ≡ start' ++ (inside' ++ (close' ++ y)) = three b start' inside' close' y bytes' in
      let tags = same_tags scope a start' x (inside' ++ (close' ++ y)) raw raw' t t' is is' (same ∙ whole) in
      absurd (false≢true (sym goes' ∙ (ap (λ (u : Tag). u.empty) (sym tags.tags) ∙ ends)))
  one_element scope a e (filled _ _ _ raw t start inside close kids is goes content closes bytes begun) b f x y (empty _ _ _ raw' t' is' ends' begun') same =
      let whole : a ++ x ≡ start ++ (inside ++ (close ++ x)) = three a start inside close x bytes in
      let tags = same_tags scope start b (inside ++ (close ++ x)) y raw raw' t t' is is' (sym whole ∙ same) in
      absurd (false≢true (sym goes ∙ (ap (λ (u : Tag). u.empty) tags.tags ∙ ends')))
  one_element scope a e (filled _ _ _ raw t start inside close kids is goes content closes bytes begun) b f x y (filled _ _ _ raw' t' start' inside' close' kids' is' goes' content' closes' bytes' begun') same =
      let whole : start ++ (inside ++ (close ++ x)) ≡ start' ++ (inside' ++ (close' ++ y)) = sym (three a start inside close x bytes) ∙ (same ∙ three b start' inside' close' y bytes') in
      let tags = same_tags scope start start' (inside ++ (close ++ x)) (inside' ++ (close' ++ y)) raw raw' t t' is is' whole in
      let following = cancelled start start' (inside ++ (close ++ x)) (inside' ++ (close' ++ y)) tags.bytes whole in
      let c = end_begins close t.spelled closes in
      let c' = end_begins close' t'.spelled closes' in
      let moved : SpellsContent (t.bindings ++ scope) inside' kids' = subst (λ (u : Tag). SpellsContent (u.bindings ++ scope) inside' kids') (sym tags.tags) content' in
      let contents = one_content (t.bindings ++ scope) inside kids content inside' kids' (c.rest ++ x) (c'.rest ++ y) moved
      (sym (before_end inside close x c) ∙ (following ∙ before_end inside' close' y c')) in
      let left = cancelled inside inside' (close ++ x) (close' ++ y) contents.0 following in
      let closed = one_tag close close' x y (end_tag t.spelled) (end_tag t'.spelled) closes closes' left in
      (bytes ∙ ((λ i. tags.bytes i ++ (contents.0 i ++ closed i)) ∙ sym bytes'), one_begun t t' kids kids' e f tags.tags contents.1 begun begun')

  pub one_content : (scope : Scope) (a : List ℕ) (ks : Nodes) → SpellsContent scope a ks → (b : List ℕ) (ls : Nodes) (x y : List ℕ) → SpellsContent scope b ls
      → a ++ (60 ∷ 47 ∷ x) ≡ b ++ (60 ∷ 47 ∷ y) → (a ≡ b) × (ks ≡ ls)
  one_content scope a ks (text_alone _ _ _ says text kids) b ls x y (text_alone _ _ _ says' text' kids') same =
      let one = one_text a says b says' 47 47 x y text text' slash_no_exclamation slash_no_exclamation same in
      (one.0, kids ∙ (ap text_node one.1 ∙ sym kids'))
  one_content scope a ks (text_alone _ _ _ says text kids) b ls x y (with_element _ _ _ front' says' middle' rest' e' more' text' spelled' content' bytes' kids') same =
      let start = begins scope middle' e' spelled' in
      absurd (no_start a says front' says' x _ start.second text text' start.starts (same ∙ before_start b front' middle' rest' (60 ∷ 47 ∷ y) start bytes'))
  one_content scope a ks (with_element _ _ _ front says middle rest e more text spelled content bytes kids) b ls x y (text_alone _ _ _ says' text' kids') same =
      let start = begins scope middle e spelled in
      absurd (no_start b says' front says y _ start.second text' text start.starts (sym same ∙ before_start a front middle rest (60 ∷ 47 ∷ x) start bytes))
  one_content scope a ks (with_element _ _ _ front says middle rest e more text spelled content bytes kids) b ls x y (with_element _ _ _ front' says' middle' rest' e' more' text' spelled' content' bytes' kids') same =
      let u = 60 ∷ 47 ∷ x in
      let v = 60 ∷ 47 ∷ y in
      let start = begins scope middle e spelled in
      let start' = begins scope middle' e' spelled' in
      let texts = one_text front says front' says' start.second start'.second (start.rest ++ (rest ++ u)) (start'.rest ++ (rest' ++ v)) text text' (start_no_exclamation start.second start.starts) (start_no_exclamation start'.second start'.starts)
      (sym (before_start a front middle rest u start bytes) ∙ (same ∙ before_start b front' middle' rest' v start' bytes')) in
      let following = cancelled front front' (middle ++ (rest ++ u)) (middle' ++ (rest' ++ v)) texts.0 (sym (three a front middle rest u bytes) ∙ (same ∙ three b front' middle' rest' v bytes')) in
      let elements = one_element scope middle e spelled middle' e' (rest ++ u) (rest' ++ v) spelled' following in
      let left = cancelled middle middle' (rest ++ u) (rest' ++ v) elements.0 following in
      let rests = one_content scope rest more content rest' more' x y content' left in
      (bytes ∙ ((λ i. texts.0 i ++ (elements.0 i ++ rests.0 i)) ∙ sym bytes'), kids ∙ ((λ i. joined (text_node (texts.1 i)) (child (elements.1 i) (rests.1 i))) ∙ sym kids'))

-- ---- no spelling begins another

nothing_more : (a more : List ℕ) → a ≡ a ++ more → more ≡ []
nothing_more a more e = sym (append_cancel_left a [] more (append-nil a ∙ e))

with_nothing : (a b more : List ℕ) → b ≡ a ++ more → a ++ more ≡ b ++ []
with_nothing a b more e = sym (append-nil b ∙ e)

none_left : (a b more : List ℕ) → a ≡ b → b ≡ a ++ more → more ≡ []
none_left a b more same e = nothing_more a more (same ∙ e)

pub elements_are_one : (scope : Scope) (a b more : List ℕ) (e f : Elem) → Spells scope a e → Spells scope b f → b ≡ a ++ more → (more ≡ []) × (e ≡ f)
elements_are_one scope a b more e f p q is =
    let one = one_element scope a e p b f more [] q (with_nothing a b more is) in
    (none_left a b more one.0 is, one.1)

-- ---- items

begins_top : (scope : Scope) (a : List ℕ) (e : Elem) → SpellsTop scope a e → BeginsStart a
begins_top scope a e h = begins scope a e h.spelled

begins_header : (scope : Scope) (a next : List ℕ) (inner : Scope) (h : Header) → SpellsNextHeader scope a next inner h → BeginsStart a
begins_header scope a next inner h p = start_begins a p.tag.spelled p.raw p.tag.empty p.start.spelled

start_no_end : (a b x y : List ℕ) → BeginsStart a → BeginsEnd b → a ++ x ≡ b ++ y → ⊥
start_no_end a b x y s t e =
    let heads : 60 ∷ s.second ∷ (s.rest ++ x) ≡ 60 ∷ 47 ∷ (t.rest ++ y) = sym (ap (λ l. l ++ x) s.bytes_are) ∙ (e ∙ ap (λ l. l ++ y) t.bytes_are) in
    let second : s.second ≡ 47 = cc in
    start_no_slash s.second s.starts second

header_no_element : (scope : Scope) (a b x y next : List ℕ) (inner : Scope) (h : Header) (e : Elem) → SpellsNextHeader scope a next inner h → SpellsTop scope b e → a ++ x ≡ b ++ y → ⊥
header_no_element scope a b x y next inner h e p q same =
    let o = opens scope b e q.spelled in
    let whole : b ++ y ≡ o.start ++ (o.rest ++ y) = ap (λ l. l ++ y) o.bytes_are ∙ append_assoc o.start o.rest y in
    let tags = same_tags scope a o.start x (o.rest ++ y) p.raw o.raw p.tag o.tag p.start o.is (same ∙ whole) in
    q.no_header (o.namespace_is ∙ (ap (λ (t : Tag). t.ns) (sym tags.tags) ∙ p.named.0), o.name_is ∙ (ap (λ (t : Tag). t.name) (sym tags.tags) ∙ p.named.1))

one_header : (scope : Scope) (a b x y next other : List ℕ) (inner innermost : Scope) (h g : Header) → SpellsNextHeader scope a next inner h → SpellsNextHeader scope b other innermost g → a ++ x ≡ b ++ y → (a ≡ b) × (h ≡ g)
one_header scope a b x y next other inner innermost h g p q same =
    let left = p.spelled in
    let right = q.spelled in
    let tags = same_tags [] a b x y left.raw right.raw left.tag right.tag left.start right.start same in
    (tags.bytes, left.says ∙ (ap header_of tags.tags ∙ sym right.says))

one_item : (scope : Scope) (name a : List ℕ) (i : Item) → SpellsItem scope name a i → (b : List ℕ) (j : Item) (x y : List ℕ) → SpellsItem scope name b j → a ++ x ≡ b ++ y → (a ≡ b) × IsSameItem i j
one_item scope name a i (a_header _ _ _ _ next inner at h p is) b j x y (a_header _ _ _ _ next' inner' at' h' p' is') same =
    let one = one_header scope a b x y next next' inner inner' h h' p p' same in
    (one.0, ap (placed 0) is ∙ (ap (λ h. item.Header 0 h) one.1 ∙ sym (ap (placed 0) is')))
one_item scope name a i (a_header _ _ _ _ next inner at h p is) b j x y (an_element _ _ _ _ e q is') same =
    absurd (header_no_element scope a b x y next inner h e p q same)
one_item scope name a i (a_header _ _ _ _ next inner at h p is) b j x y (a_footer _ _ _ _ q is') same =
    absurd (start_no_end a b x y (begins_header scope a next inner h p) (end_begins b name q) same)
one_item scope name a i (an_element _ _ _ _ e p is) b j x y (a_header _ _ _ _ next inner at h q is') same =
    absurd (header_no_element scope b a y x next inner h e q p (sym same))
one_item scope name a i (an_element _ _ _ _ e p is) b j x y (an_element _ _ _ _ f q is') same =
    let one = one_element scope a e p.spelled b f x y q.spelled same in
    (one.0, ap (placed 0) is ∙ (ap (λ e. item.Element e) one.1 ∙ sym (ap (placed 0) is')))
one_item scope name a i (an_element _ _ _ _ e p is) b j x y (a_footer _ _ _ _ q is') same =
    absurd (start_no_end a b x y (begins_top scope a e p) (end_begins b name q) same)
one_item scope name a i (a_footer _ _ _ _ p is) b j x y (a_header _ _ _ _ next inner at h q is') same =
    absurd (start_no_end b a y x (begins_header scope b next inner h q) (end_begins a name p) (sym same))
one_item scope name a i (a_footer _ _ _ _ p is) b j x y (an_element _ _ _ _ e q is') same =
    absurd (start_no_end b a y x (begins_top scope b e q) (end_begins a name p) (sym same))
one_item scope name a i (a_footer _ _ _ _ p is) b j x y (a_footer _ _ _ _ q is') same =
    (one_tag a b x y (end_tag name) (end_tag name) p q same, ap (placed 0) is ∙ sym (ap (placed 0) is'))

pub items_are_one : (scope : Scope) (name a b more : List ℕ) (i j : Item) → SpellsItem scope name a i → SpellsItem scope name b j → b ≡ a ++ more → (more ≡ []) × IsSameItem i j
items_are_one scope name a b more i j p q is =
    let one = one_item scope name a i p b j more [] q (with_nothing a b more is) in
    (none_left a b more one.0 is, one.1)
