-- No text of an element that a framer gave is longer than the element's bytes.
use Rattle.std.proofs.Common.{◌≡◌, ℕ, ◌+◌, ◌≤◌, ◌==◌, Bool, true, false, ◌&&◌, List, [], ◌∷◌, ◌++◌, map, codes, bytes_eq, Option, Some, None, length, encode_utf8, refl, sym, ap, subst, ◌∙◌, inl, inr, arith, length-append}
use Rattle.std.proofs.lemmas.Bool.{cases_Bool}
use Rattle.std.proofs.lemmas.List.{length-map}
use Rattle.std.proofs.lemmas.List.Elements.{recursion_from_All}
use Rattle.std.proofs.lemmas.Option.{same_Some}
use Rattle.std.proofs.lemmas.Slice.Eq.{bytes_eq-Decides}
use Rattle.std.proofs.lemmas.Str.{len_utf8_bounds, length-encode}
use Rattle.std.specs.List.{AllByRecursion, AllZip}
use Rattle.std.specs.Option.{option_map}
use Rattle.xml_framer.proofs.ItemsBefore.{given_before}
use Rattle.xml_framer.proofs.Pieces.{run_append}
use Rattle.xml_framer.specs.Expanded.{attribute_of}
use Rattle.xml_framer.specs.Limits.{server_limits}
use Rattle.xml_framer.specs.Machine.{run}
use Rattle.xml_framer.specs.States.{Turn, from_start, turn}
use Rattle.xml_framer.specs.declared.items.Item.{Item}
use Rattle.xml_framer.specs.declared.items.Item.TheVariants as item
use Rattle.law_xml.proofs.GivenItems.{given_can_pass, given_plain}
use Rattle.law_xml.proofs.PlainElements.{append_each}
use Rattle.law_xml.proofs.PrefixRuns.{prefix_known}
use Rattle.law_xml.specs.PlainItems.{IsPlainItem}
use Rattle.law_xml.specs.Spells.{IsBegun, Spells, SpellsContent, empty, filled, text_alone, with_element}
use Rattle.law_xml.specs.StreamLimits.{IsStreamWithin}
use Rattle.law_xml.specs.Streams as streams
use Rattle.law_xml.specs.Streams.{InForce, StreamTo, declared, ended, headed, headed_and_ended, nothing, white_space}
use Rattle.law_xml.specs.Texts as texts
use Rattle.law_xml.specs.Texts.{SpellsText}
use Rattle.law_xml.specs.WrittenStreams.{CanPass}
use Rattle.xml_names.specs.Declarations.{declared_prefix, others_of, unless_binding}
use Rattle.xml_names.specs.Grammar.{IsExpanded, IsStart}
use Rattle.xml_names.specs.Scopes.{Scope}
use Rattle.xml_names.specs.Starts.{Tag}
use Rattle.xml_names.specs.declared.expansion.ExpandedAttribute.{ExpandedAttribute}
use Rattle.srv_core.specs.Events.{turn_of}
use Rattle.law_limits.specs.Keeps.{Comes, IsShort, stanza_limits}
use Rattle.xml_tokens.specs.Characters.{is_name}
use Rattle.xml_tokens.specs.Lines.{line_ends, line_ends_after}
use Rattle.xml_tokens.specs.References.{entity_reference, referred}
use Rattle.xml_tokens.specs.Tags as tokens
use Rattle.xml_tokens.specs.Tags.{AreAttributes, IsAttribute}
use Rattle.xml_tokens.specs.ValueGrammar as values
use Rattle.xml_tokens.specs.ValueGrammar.{SpellsValue, space_of, spaces}
use Rattle.xml_tokens.specs.declared.references.Reference.TheVariants.{Character, Malformed, Unknown}
use Rattle.xml_trees.proofs.TidyReads.{text_of-text_node}
use Rattle.xml_trees.specs.Attributes.{Attribute, found, has_name}
use Rattle.xml_trees.specs.Readers.{text_of}
use Rattle.xml_trees.specs.Tidied.{text_node}
use Rattle.xml_trees.specs.Trees.{Elem, Nodes, child, joined, no_nodes}

-- ---- what bytes say is no longer than they are

lines_shorter : (r : Bool) (bs : List ℕ) → length (line_ends_after r bs) ≤ length bs
lines_shorter r [] = omega arith
lines_shorter r (b ∷ bs) =
    let after = lines_shorter true bs in
    let before = lines_shorter false bs in
    elim (cases_Bool (b == 13)) [
      | inl e ↦ rw e (omega (arith, after))
      | inr e ↦ elim (cases_Bool (r && b == 10)) [ inl x ↦ rw (e, x) (omega (arith, before)) | inr x ↦ rw (e, x) (omega (arith, before)) ]
    ]

other_length : (s t : List ℕ) → (length s ≡ length t → ⊥) → bytes_eq s t ≡ false
other_length s t apart = elim (cases_Bool (bytes_eq s t)) [ inl e ↦ absurd (apart (ap length ((bytes_eq-Decides s t).0 e))) | inr e ↦ e ]

no_entity : (b c : ℕ) → entity_reference (b ∷ []) ≡ Character c → ⊥
no_entity b c is =
    let amp = other_length (b ∷ []) (codes "amp") (λ e. omega (arith, e)) in
    let lt = other_length (b ∷ []) (codes "lt") (λ e. omega (arith, e)) in
    let gt = other_length (b ∷ []) (codes "gt") (λ e. omega (arith, e)) in
    let quot = other_length (b ∷ []) (codes "quot") (λ e. omega (arith, e)) in
    elim (cases_Bool (is_name (b ∷ []))) [
      | inl e ↦ let never : Unknown ≡ Character c = rw (amp, lt, gt, quot, e) at is in cc
      | inr e ↦ let never : Malformed ≡ Character c = rw (amp, lt, gt, quot, e) at is in cc
    ]

referred_long : (name : List ℕ) (c : ℕ) → referred name ≡ Character c → 2 ≤ length name
unfolding referred
referred_long [] c is = absurd cc
referred_long (b ∷ []) c is =
    elim (cases_Bool (b == 35)) [
      | inl e ↦ let never : Malformed ≡ Character c = rw e at is in absurd cc
      | inr e ↦ absurd (no_entity b c (rw e at is))
    ]
referred_long (b ∷ d ∷ more) c is = omega arith

character_short : (name : List ℕ) (c : ℕ) → referred name ≡ Character c → length (encode_utf8 c) ≤ length name + 2
character_short name c is =
    let two = referred_long name c is in
    let four = (len_utf8_bounds c).1 in
    let long = length-encode c in
    omega (arith, two, four, long)

value_shorter : (raw says : List ℕ) → SpellsValue raw says → length says ≤ length raw
value_shorter raw says (values.data_alone _ _ d is) = let lines = lines_shorter false raw in omega (arith, lines, ap length is, length-map (line_ends raw) space_of)
value_shorter raw says (values.with_reference _ _ plain name rest more c d ref spelled bytes_are says_is) =
    let ih = value_shorter rest more spelled in
    let one = character_short name c ref in
    let lines = lines_shorter false plain in
    omega (
      arith,
      ih,
      one,
      lines,
      ap length bytes_are,
      ap length says_is,
      length-map (line_ends plain) space_of,
      length-append plain (38 ∷ (name ++ (59 ∷ rest))),
      length-append name (59 ∷ rest),
      length-append (spaces (line_ends plain)) (encode_utf8 c ++ more),
      length-append (encode_utf8 c) more,
    )

text_shorter : (raw says : List ℕ) → SpellsText raw says → length says ≤ length raw
text_shorter raw says (texts.data_alone _ _ d is) = let lines = lines_shorter false raw in omega (arith, lines, ap length is)
text_shorter raw says (texts.with_reference _ _ plain name rest more c d ref spelled bytes_are says_is) =
    let ih = text_shorter rest more spelled in
    let one = character_short name c ref in
    let lines = lines_shorter false plain in
    omega (
      arith,
      ih,
      one,
      lines,
      ap length bytes_are,
      ap length says_is,
      length-append plain (38 ∷ (name ++ (59 ∷ rest))),
      length-append name (59 ∷ rest),
      length-append (line_ends plain) (encode_utf8 c ++ more),
      length-append (encode_utf8 c) more,
    )
text_shorter raw says (texts.with_section _ _ plain inside rest more d none spelled bytes_are says_is) =
    let ih = text_shorter rest more spelled in
    let lines = lines_shorter false plain in
    let held = lines_shorter false inside in
    omega (
      arith,
      ih,
      lines,
      held,
      ap length bytes_are,
      ap length says_is,
      length-append plain (codes "<![CDATA[" ++ (inside ++ (codes "]]>" ++ rest))),
      length-append (codes "<![CDATA[") (inside ++ (codes "]]>" ++ rest)),
      length-append inside (codes "]]>" ++ rest),
      length-append (codes "]]>") rest,
      length-append (line_ends plain) (line_ends inside ++ more),
      length-append (line_ends inside) more,
    )

-- ---- attributes

each_wider : (m n : ℕ) (xs : List tokens.Attribute) → m ≤ n → AllByRecursion (λ (a : tokens.Attribute). length a.value ≤ m) xs → AllByRecursion (λ (a : tokens.Attribute). length a.value ≤ n) xs
each_wider m n [] wide h = tt
each_wider m n (a ∷ more) wide h = (let first = h.0 in omega (arith, first, wide), each_wider m n more wide h.1)

attributes_short : (xs : List tokens.Attribute) (bytes rest : List ℕ) → AreAttributes bytes xs rest → AllByRecursion (λ (a : tokens.Attribute). length a.value ≤ length bytes) xs
attributes_short [] bytes rest h = tt
attributes_short (a ∷ more) bytes rest h =
    let next = h.0 in
    let raw = h.1.0 in
    let spelled = h.1.1 in
    let value = value_shorter raw a.value h.1.2.spelled in
    let following = spelled.after ++ (spelled.quote ∷ (raw ++ (spelled.quote ∷ next))) in
    let whole = ap length spelled.bytes_are in
    let a1 = length-append spelled.space (a.name ++ (spelled.before ++ (61 ∷ following))) in
    let a2 = length-append a.name (spelled.before ++ (61 ∷ following)) in
    let a3 = length-append spelled.before (61 ∷ following) in
    let a4 = length-append spelled.after (spelled.quote ∷ (raw ++ (spelled.quote ∷ next))) in
    let a5 = length-append raw (spelled.quote ∷ next) in
    (omega (arith, value, whole, a1, a2, a3, a4, a5), each_wider (length next) (length bytes) more (omega (arith, whole, a1, a2, a3, a4, a5)) (attributes_short more next rest h.2))

one_other : (n : ℕ) (o : Option (List ℕ)) (a : tokens.Attribute) (more : List tokens.Attribute) → length a.value ≤ n → AllByRecursion (λ (x : tokens.Attribute). length x.value ≤ n) more → AllByRecursion (λ (x : tokens.Attribute). length x.value ≤ n) (unless_binding o a more)
one_other n None a more h k = (h, k)
one_other n (Some p) a more h k = k

others_short : (n : ℕ) (xs : List tokens.Attribute) → AllByRecursion (λ (x : tokens.Attribute). length x.value ≤ n) xs → AllByRecursion (λ (x : tokens.Attribute). length x.value ≤ n) (others_of xs)
others_short n [] h = tt
others_short n (a ∷ more) h = one_other n (declared_prefix a.name) a (others_of more) h.0 (others_short n more h.1)

expanded_short : (n : ℕ) (scope : Scope) (xs : List tokens.Attribute) (es : List ExpandedAttribute) → AllZip (IsExpanded scope) xs es → AllByRecursion (λ (x : tokens.Attribute). length x.value ≤ n) xs
    → AllByRecursion (λ (x : ExpandedAttribute). length x.value ≤ n) es
expanded_short n scope [] [] z h = tt
expanded_short n scope [] (e ∷ es) z h = absurd z
expanded_short n scope (x ∷ xs) [] z h = absurd z
expanded_short n scope (x ∷ xs) (e ∷ es) z h = (let first = h.0 in let same = ap length z.0.3 in omega (arith, first, same), expanded_short n scope xs es z.1 h.1)

found_short : (n : ℕ) (ns name : List ℕ) (es : List ExpandedAttribute) (v : List ℕ) → AllByRecursion (λ (x : ExpandedAttribute). length x.value ≤ n) es
    → option_map (λ (a : Attribute). a.value) (found ns name (map attribute_of es)) ≡ Some v → length v ≤ n
found_short n ns name [] v h is = absurd cc
found_short n ns name (e ∷ es) v h is =
    elim (cases_Bool (has_name ns name (attribute_of e))) [
      | inl here ↦ let same = same_Some e.value v (rw here at is) in subst (λ x. length x ≤ n) same h.0
      | inr other ↦ found_short n ns name es v h.1 (rw other at is)
    ]

start_short : (scope : Scope) (bytes : List ℕ) (raw : List tokens.Attribute) (t : Tag) → IsStart scope bytes raw t → (ns name v : List ℕ) → option_map (λ (a : Attribute). a.value) (found ns name (map attribute_of t.attributes)) ≡ Some v
    → length v ≤ length bytes
start_short scope bytes raw t start ns name v is =
    let spelled = start.spelled in
    let each = attributes_short raw spelled.inside _ spelled.inside_is in
    let few =
    found_short (length spelled.inside) ns name t.attributes v (expanded_short (length spelled.inside) (t.bindings ++ scope) (others_of raw) t.attributes start.others (others_short (length spelled.inside) raw each)) is in
    omega (arith, few, ap length spelled.bytes_are, length-append t.spelled spelled.inside)

-- ---- elements

text_before : (says : List ℕ) (e : Elem) (more : Nodes) → text_of (joined (text_node says) (child e more)) ≡ says ++ text_of more
text_before [] e more = refl
text_before (c ∷ cs) e more = refl

content_short : (scope : Scope) (bytes : List ℕ) (kids : Nodes) → SpellsContent scope bytes kids → length (text_of kids) ≤ length bytes
content_short scope bytes kids (text_alone _ _ _ says is_text kids_are) =
    let one = text_shorter bytes says is_text.spelled in
    omega (arith, one, ap (λ ks. length (text_of ks)) kids_are, ap length (text_of-text_node says))
content_short scope bytes kids (with_element _ _ _ front says middle rest e more is_text spelled content bytes_are kids_are) =
    let one = text_shorter front says is_text.spelled in
    let ih = content_short scope rest more content in
    omega (
      arith,
      one,
      ih,
      ap (λ ks. length (text_of ks)) kids_are,
      ap length (text_before says e more),
      length-append says (text_of more),
      ap length bytes_are,
      length-append front (middle ++ rest),
      length-append middle rest,
    )

begun_short : (n : ℕ) (t : Tag) (kids : Nodes) (e : Elem) → IsBegun t kids e → ((ns name v : List ℕ) → option_map (λ (a : Attribute). a.value) (found ns name (map attribute_of t.attributes)) ≡ Some v → length v ≤ n) → n ≤ 65536
    → length (text_of kids) ≤ 65536 → IsShort e
begun_short n t kids e begun each few content =
    subst IsShort (sym begun.is)
    (record {
      attribute = λ name v is. let short = each [] name v (ap (option_map (λ (a : Attribute). a.value)) (sym (begun.sorted.firsts [] name)) ∙ is) in omega (arith, short, few);
      content = content;
    })

top_short : (scope : Scope) (bytes : List ℕ) (e : Elem) → Spells scope bytes e → length bytes ≤ 65536 → IsShort e
top_short scope bytes e (empty _ _ _ raw t start is_empty begun) few = begun_short (length bytes) t no_nodes e begun (start_short scope bytes raw t start) few (omega arith)
top_short scope bytes e (filled _ _ _ raw t front inside close kids start not_empty content end bytes_are begun) few =
    let whole = ap length bytes_are in
    let a1 = length-append front (inside ++ close) in
    let a2 = length-append inside close in
    let said = content_short (t.bindings ++ scope) inside kids content in
    begun_short (length front) t kids e begun (start_short scope front raw t start) (omega (arith, whole, a1, few)) (omega (arith, whole, a1, a2, few, said))

-- ---- streams

abbrev ShortItem : Item → Type 0
ShortItem (item.Header at h) = Unit {0}
ShortItem (item.Element e) = IsShort e
ShortItem item.Footer = Unit {0}

more_items : (items given more : List Item) → items ≡ given ++ more → AllByRecursion ShortItem given → AllByRecursion ShortItem more → AllByRecursion ShortItem items
more_items items given more are h k = subst (AllByRecursion ShortItem) (sym are) (append_each ShortItem given more h k)

short_so_far : (now : InForce) (bytes : List ℕ) (items : List Item) (s : StreamTo now bytes items) → IsStreamWithin server_limits now bytes items s → AllByRecursion ShortItem items
short_so_far now bytes items (nothing _ _ _ is_first no_scope no_name no_bytes no_items) within = subst (AllByRecursion ShortItem) (sym no_items) tt
short_so_far now bytes items (white_space _ _ _ front space so_far white bytes_are) within = short_so_far now front items so_far within
short_so_far now bytes items (declared _ _ _ before front tag so_far phases scope_is name_is good bytes_are) within = short_so_far before front items so_far within.0
short_so_far now bytes items (headed _ _ _ before front tag given h so_far spelled phase_is bytes_are items_are) within = more_items items given _ items_are (short_so_far before front given so_far within.0) (tt, tt)
short_so_far now bytes items (headed_and_ended _ _ _ before front tag given h so_far spelled phase_is bytes_are items_are) within =
    more_items items given _ items_are (short_so_far before front given so_far within.0) (tt, (tt, tt))
short_so_far now bytes items (streams.with_element _ _ _ front inside given e so_far phase_is spelled bytes_are items_are) within =
    more_items items given _ items_are (short_so_far now front given so_far within.0) (top_short now.scope inside e spelled.spelled within.1.short, tt)
short_so_far now bytes items (ended _ _ _ before front tag given so_far was_between spelled phase_is scope_is name_is bytes_are items_are) within =
    more_items items given _ items_are (short_so_far before front given so_far within) (tt, tt)

all_come : (items : List Item) → AllByRecursion IsPlainItem items → AllByRecursion (CanPass stanza_limits) items → AllByRecursion ShortItem items → AllByRecursion Comes items
all_come [] h k l = tt
all_come (item.Header at x ∷ more) h k l = (tt, all_come more h.1 k.1 l.1)
all_come (item.Element e ∷ more) h k l = ((h.0, k.0, l.0), all_come more h.1 k.1 l.1)
all_come (item.Footer ∷ more) h k l = (tt, all_come more h.1 k.1 l.1)

-- what a framer with a server's limits gave, as long as there is no fault
pub given_come : (bytes : List ℕ) → (run (turn (from_start server_limits) []) bytes).state.fault ≡ None → AllByRecursion Comes (run (turn (from_start server_limits) []) bytes).items
given_come bytes none =
    let end = run (turn (from_start server_limits) []) bytes in
    let known = prefix_known server_limits bytes (omega arith) (omega arith) none in
    all_come end.items (recursion_from_All IsPlainItem end.items (given_plain server_limits bytes (omega arith) (omega arith) none))
    (recursion_from_All (CanPass stanza_limits) end.items (given_can_pass server_limits stanza_limits bytes (omega arith) (omega arith) (omega arith) (omega arith) (omega arith) (omega arith) none))
    (short_so_far known.now known.done end.items known.stream (known.within (omega arith)))

-- ---- pieces

each_after : (xs ys : List Item) → AllByRecursion Comes (xs ++ ys) → AllByRecursion Comes ys
each_after [] ys h = h
each_after (x ∷ xs) ys h = each_after xs ys h.1

-- the same of a piece behind bytes before it
pub piece_comes : (before piece : List ℕ) → (run (turn (from_start server_limits) []) (before ++ piece)).state.fault ≡ None → AllByRecursion Comes (turn_of piece (run (turn (from_start server_limits) []) before).state).items
piece_comes before piece none =
    let first = run (turn (from_start server_limits) []) before in
    let whole = run (turn (from_start server_limits) []) (before ++ piece) in
    let joined : whole ≡ turn (turn_of piece first.state).state (first.items ++ (turn_of piece first.state).items) =
    run_append (turn (from_start server_limits) []) before piece ∙ given_before first.state first.items piece in
    each_after first.items (turn_of piece first.state).items (subst (AllByRecursion Comes) (ap (λ (t : Turn). t.items) joined) (given_come (before ++ piece) none))
