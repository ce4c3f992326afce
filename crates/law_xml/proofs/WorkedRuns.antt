-- The machine, evaluated at short streams that were worked out beforehand.
use Rattle.std.proofs.Common.{◌≡◌, ℕ, ◌+◌, true, false, List, [], ◌∷◌, ◌++◌, Some, None, Ok, refl, ap, ◌∙◌, codes}
use Rattle.std.specs.Str.{is_utf8, chars}
use lib.Utf8.{encode}
use Rattle.xml_tokens.specs.Characters.{are_characters}
use Rattle.xml_tokens.specs.Spelling.{text_byte, value_byte}
use Rattle.xml_tokens.specs.Tags.{tag_of, end_at, start_at, inside_of, spelled_at, is_qualified}
use Rattle.xml_tokens.specs.Utf8.{utf8_next}
use Rattle.xml_tokens.specs.Values.{value_of}
use Rattle.xml_names.specs.Declarations.{declared_prefix, may_declare}
use Rattle.xml_names.specs.Expansion.{attribute_ns, element_ns, expanded_name}
use Rattle.xml_names.specs.Ends.{end_of}
use Rattle.xml_names.specs.Names.{local_of, prefix_of}
use Rattle.xml_names.specs.Scopes.{Scope, bound}
use Rattle.xml_names.specs.Starts.{Tag, attributes_in, or_fault, parted_tag, past_limits, start_of}
use Rattle.xml_names.specs.declared.headers.Header.{Header}
use Rattle.xml_names.specs.declared.limits.TagLimits.{TagLimits}
use Rattle.xml_framer.proofs.Pieces.{run_append}
use Rattle.xml_framer.specs.Machine.{goes_on, is_too_long, run, taken}
use Rattle.law_xml.specs.Spells.{bind}
use Rattle.xml_framer.specs.States.{State, from_start, turn}
use Rattle.xml_framer.specs.TagSteps.{begun, footer_closes, header_tag, in_footer, in_opening, in_tag, is_header, largest_limits, leaf, level, misplaced, tag_closes, tag_inside, tag_limits, tag_outside}
use Rattle.xml_framer.specs.TextSteps.{between, in_text, inside, text_outside}
use Rattle.xml_framer.specs.declared.fault.Why.TheVariants as why
use Rattle.xml_framer.specs.declared.items.Item.{Item}
use Rattle.xml_framer.specs.declared.items.Item.TheVariants as item
use Rattle.xml_trees.specs.Trees.{element, no_nodes}
use Rattle.xml_framer.specs.declared.limits.Limits.{Limits}
use Rattle.xml_framer.specs.declared.states.Mode.{Mode}
use Rattle.xml_framer.specs.declared.states.Mode.TheVariants as mode
use Rattle.xml_framer.specs.declared.states.Phase.{Phase}
use Rattle.xml_framer.specs.declared.states.Phase.TheVariants as phase

abbrev limits : Limits
limits = record { bytes = 99; depth = 1; attributes = 2; namespace_bytes = 9 }

abbrev first : State
first = from_start limits

-- between tokens: the last one began at a place, and this is the next byte's place
abbrev stands : State → ℕ → ℕ → State
stands s begun next = record s { positions = record { at = next; item_at = begun; token_at = begun; used = 0 } }

-- in a token outside elements: of so many bytes, counted or not, these are kept
abbrev has_in_hand : State → Mode → ℕ → ℕ → ℕ → List ℕ → State
has_in_hand s m begun next counted token = record s {
  positions = record { at = next; item_at = begun; token_at = begun; used = counted };
  lexical = record s.lexical { mode = m };
  token = token;
}

-- ---- a header

abbrev header_tag_bytes : List ℕ
header_tag_bytes = codes "<s xmlns='a' to='b'>"

abbrev header_tag_says : Tag
header_tag_says = record { spelled = codes "s"; ns = codes "a"; name = codes "s"; attributes = record { ns = []; name = codes "to"; value = codes "b" } ∷ []; bindings = bind [] (codes "a") ∷ []; empty = false }

header_tag_is : start_of (tag_limits limits) [] header_tag_bytes ≡ Ok header_tag_says
unfolding start_of parted_tag attributes_in past_limits element_ns attribute_ns expanded_name bound prefix_of local_of declared_prefix may_declare tag_of start_at inside_of spelled_at is_qualified value_of are_characters is_utf8 chars encode value_byte text_byte
header_tag_is = refl

abbrev header_says : Header
header_says = record { ns = codes "a"; name = codes "s"; content = codes "a"; to = Some (codes "b"); from = None; id = None; version = None; lang = None }

-- behind it: its name and what it declares are known
abbrev headed : Phase → State
headed p = record first { lexical = record first.lexical { phase = p }; scopes = (bind [] (codes "a") ∷ []) ∷ []; name = codes "s" }

header_gathers : run (turn first []) (codes "<s xmlns='a' to='b'") ≡ turn (has_in_hand first mode.Tag 0 19 19 (codes "<s xmlns='a' to='b'")) []
unfolding goes_on taken is_too_long utf8_next in_text between in_opening in_tag
header_gathers = refl

header_ends : run (turn (has_in_hand first mode.Tag 0 19 19 (codes "<s xmlns='a' to='b'")) []) (codes ">") ≡ turn (stands (headed phase.Between) 0 20) (item.Header 0 header_says ∷ [])
unfolding goes_on taken is_too_long utf8_next in_tag tag_closes tag_outside header_tag
header_ends = rw header_tag_is refl

header_is_given : run (turn first []) header_tag_bytes ≡ turn (stands (headed phase.Between) 0 20) (item.Header 0 header_says ∷ [])
header_is_given = run_append (turn first []) (codes "<s xmlns='a' to='b'") (codes ">") ∙ ap (λ t. run t (codes ">")) header_gathers ∙ header_ends

-- ---- its footer

end_tag_is : end_of (codes "</s>") ≡ Some (codes "s")
unfolding end_of tag_of end_at is_qualified are_characters is_utf8 chars encode
end_tag_is = refl

-- white space behind the name is not kept
footer_gathers : (items : List Item) → run (turn (stands (headed phase.Between) 0 20) items) (codes "</s ") ≡ turn (has_in_hand (headed phase.Between) mode.Footer 20 24 0 (codes "</s")) items
unfolding goes_on taken is_too_long utf8_next in_text between in_opening in_footer
footer_gathers items = refl

footer_ends : (items : List Item) → run (turn (has_in_hand (headed phase.Between) mode.Footer 20 24 0 (codes "</s")) items) (codes ">") ≡ turn (stands (headed phase.Ended) 20 25) (items ++ item.Footer ∷ [])
unfolding goes_on taken is_too_long utf8_next in_footer footer_closes
footer_ends items = rw end_tag_is refl

footer_is_given : (items : List Item) → run (turn (stands (headed phase.Between) 0 20) items) (codes "</s >") ≡ turn (stands (headed phase.Ended) 20 25) (items ++ item.Footer ∷ [])
footer_is_given items = run_append (turn (stands (headed phase.Between) 0 20) items) (codes "</s ") (codes ">") ∙ ap (λ t. run t (codes ">")) (footer_gathers items) ∙ footer_ends items

stream_is_read : run (turn first []) (codes "<s xmlns='a' to='b'></s >") ≡ turn (stands (headed phase.Ended) 20 25) (item.Header 0 header_says ∷ item.Footer ∷ [])
stream_is_read = run_append (turn first []) header_tag_bytes (codes "</s >") ∙ ap (λ t. run t (codes "</s >")) header_is_given ∙ footer_is_given (item.Header 0 header_says ∷ [])

-- ---- the tag of an empty element as a header gives the footer too

abbrev empty_tag_says : Tag
empty_tag_says = record { spelled = codes "s"; ns = []; name = codes "s"; attributes = []; bindings = []; empty = true }

empty_tag_is : start_of (tag_limits limits) [] (codes "<s/>") ≡ Ok empty_tag_says
unfolding start_of parted_tag attributes_in past_limits element_ns bound prefix_of local_of tag_of start_at inside_of spelled_at is_qualified are_characters is_utf8 chars encode
empty_tag_is = refl

abbrev empty_says : Header
empty_says = record { ns = []; name = codes "s"; content = []; to = None; from = None; id = None; version = None; lang = None }

abbrev ended : State
ended = record first { lexical = record first.lexical { phase = phase.Ended }; scopes = [] ∷ []; name = codes "s" }

empty_gathers : run (turn first []) (codes "<s/") ≡ turn (has_in_hand first mode.Tag 0 3 3 (codes "<s/")) []
unfolding goes_on taken is_too_long utf8_next in_text between in_opening in_tag
empty_gathers = refl

empty_ends : run (turn (has_in_hand first mode.Tag 0 3 3 (codes "<s/")) []) (codes ">") ≡ turn (stands ended 0 4) (item.Header 0 empty_says ∷ item.Footer ∷ [])
unfolding goes_on taken is_too_long utf8_next in_tag tag_closes tag_outside header_tag
empty_ends = rw empty_tag_is refl

empty_header_is_given : run (turn first []) (codes "<s/>") ≡ turn (stands ended 0 4) (item.Header 0 empty_says ∷ item.Footer ∷ [])
empty_header_is_given = run_append (turn first []) (codes "<s/") (codes ">") ∙ ap (λ t. run t (codes ">")) empty_gathers ∙ empty_ends

-- ---- behind the header an element is given, and one inside it is too deep here

abbrev scope : Scope
scope = bind [] (codes "a") ∷ []

abbrev leaf_says : Tag
leaf_says = record { spelled = codes "c"; ns = codes "a"; name = codes "c"; attributes = []; bindings = []; empty = true }

leaf_is : (l : TagLimits) → start_of l scope (codes "<c/>") ≡ or_fault (past_limits l 0 []) leaf_says
unfolding start_of parted_tag attributes_in element_ns bound prefix_of local_of tag_of start_at inside_of spelled_at is_qualified are_characters is_utf8 chars encode
leaf_is l = refl

leaf_gathers : (items : List Item) → run (turn (stands (headed phase.Between) 0 20) items) (codes "<c/") ≡ turn (has_in_hand (headed phase.Between) mode.Tag 20 23 3 (codes "<c/")) items
unfolding goes_on taken is_too_long utf8_next in_text between in_opening in_tag
leaf_gathers items = refl

leaf_ends : (items : List Item) → run (turn (has_in_hand (headed phase.Between) mode.Tag 20 23 3 (codes "<c/")) items) (codes ">") ≡ turn (stands (headed phase.Between) 20 24) (items ++ item.Element (element (codes "a") (codes "c") [] no_nodes) ∷ [])
unfolding goes_on taken is_too_long utf8_next in_tag tag_closes tag_outside is_header begun leaf past_limits
leaf_ends items = rw (leaf_is largest_limits, leaf_is (tag_limits limits)) refl

leaf_is_given : (items : List Item) → run (turn (stands (headed phase.Between) 0 20) items) (codes "<c/>") ≡ turn (stands (headed phase.Between) 20 24) (items ++ item.Element (element (codes "a") (codes "c") [] no_nodes) ∷ [])
leaf_is_given items = run_append (turn (stands (headed phase.Between) 0 20) items) (codes "<c/") (codes ">") ∙ ap (λ t. run t (codes ">")) (leaf_gathers items) ∙ leaf_ends items

abbrev start_says : Tag
start_says = record { spelled = codes "b"; ns = codes "a"; name = codes "b"; attributes = []; bindings = []; empty = false }

start_is : (l : TagLimits) → start_of l scope (codes "<b>") ≡ or_fault (past_limits l 0 []) start_says
unfolding start_of parted_tag attributes_in element_ns bound prefix_of local_of tag_of start_at inside_of spelled_at is_qualified are_characters is_utf8 chars encode
start_is l = refl

-- `<b>` is open
abbrev begun_element : ℕ → State
begun_element n = record (headed phase.Between) {
  positions = record { at = 20 + n; item_at = 20; token_at = 20; used = n };
  here = Some (record { spelled = codes "b"; element = element (codes "a") (codes "b") [] no_nodes });
  scopes = [] ∷ scope ∷ [];
}

start_gathers : (items : List Item) → run (turn (stands (headed phase.Between) 0 20) items) (codes "<b") ≡ turn (has_in_hand (headed phase.Between) mode.Tag 20 22 2 (codes "<b")) items
unfolding goes_on taken is_too_long utf8_next in_text between in_opening in_tag
start_gathers items = refl

start_ends : (items : List Item) → run (turn (has_in_hand (headed phase.Between) mode.Tag 20 22 2 (codes "<b")) items) (codes ">") ≡ turn (begun_element 3) items
unfolding goes_on taken is_too_long utf8_next in_tag tag_closes tag_outside is_header begun level past_limits
start_ends items = rw (start_is largest_limits, start_is (tag_limits limits)) refl

-- a tag in it is in hand
abbrev inner_in_hand : ℕ → ℕ → List ℕ → State
inner_in_hand next counted token = record (begun_element 3) {
  positions = record { at = next; item_at = 20; token_at = 23; used = counted };
  lexical = record first.lexical { phase = phase.Between; mode = mode.Tag };
  token = token;
}

inner_gathers : (items : List Item) → run (turn (begun_element 3) items) (codes "<c/") ≡ turn (inner_in_hand 26 6 (codes "<c/")) items
unfolding goes_on taken is_too_long utf8_next in_text inside in_opening in_tag
inner_gathers items = refl

inner_is_too_deep : (items : List Item) → (run (turn (inner_in_hand 26 6 (codes "<c/")) items) (codes ">")).state.fault ≡ Some (record { at = 23; why = why.TooDeep })
unfolding goes_on taken is_too_long utf8_next in_tag tag_closes tag_inside begun past_limits
inner_is_too_deep items = rw (leaf_is (tag_limits limits)) refl

too_deep_is_told : (items : List Item) → (run (turn (stands (headed phase.Between) 0 20) items) (codes "<b><c/>")).state.fault ≡ Some (record { at = 23; why = why.TooDeep })
too_deep_is_told items =
    ap (λ t. t.state.fault)
    (run_append (turn (stands (headed phase.Between) 0 20) items) (codes "<b") (codes "><c/>") ∙ ap (λ t. run t (codes "><c/>")) (start_gathers items)
    ∙ run_append (turn (has_in_hand (headed phase.Between) mode.Tag 20 22 2 (codes "<b")) items) (codes ">") (codes "<c/>") ∙ ap (λ t. run t (codes "<c/>")) (start_ends items)
    ∙ run_append (turn (begun_element 3) items) (codes "<c/") (codes ">") ∙ ap (λ t. run t (codes ">")) (inner_gathers items))
    ∙ inner_is_too_deep items

-- ---- behind the footer no tag may stand

late_gathers : (items : List Item) → run (turn (stands (headed phase.Ended) 20 25) items) (codes " <b") ≡ turn (has_in_hand (headed phase.Ended) mode.Tag 26 28 2 (codes "<b")) items
unfolding goes_on taken is_too_long utf8_next in_text between text_outside in_opening in_tag
late_gathers items = refl

late_tag_is_refused : (items : List Item) → (run (turn (has_in_hand (headed phase.Ended) mode.Tag 26 28 2 (codes "<b")) items) (codes ">")).state.fault ≡ Some (record { at = 26; why = why.NotWellFormed })
unfolding goes_on taken is_too_long utf8_next in_tag tag_closes tag_outside misplaced past_limits
late_tag_is_refused items = rw (start_is (tag_limits limits)) refl

late_tag_is_told : (items : List Item) → (run (turn (stands (headed phase.Ended) 20 25) items) (codes " <b>")).state.fault ≡ Some (record { at = 26; why = why.NotWellFormed })
late_tag_is_told items =
    ap (λ t. t.state.fault) (run_append (turn (stands (headed phase.Ended) 20 25) items) (codes " <b") (codes ">") ∙ ap (λ t. run t (codes ">")) (late_gathers items)) ∙ late_tag_is_refused items
