-- Tags (XML 1.0, section 3.1; Namespaces in XML 1.0; RFC 6120, sections 4.2 to 4.4 and 4.8): what a whole tag comes to,
-- at the `>` that ends it.
use Rattle.std.specs.Prelude.{ℕ, ◌+◌, nat_lt, Bool, true, false, not, ◌&&◌, ◌||◌, ◌==◌, if◌then◌else◌, List, [], ◌∷◌, ◌++◌, Option, Some, None, Result, Ok, Err, map, length}
use Rattle.std.specs.Option.{is_some}
use Rattle.std.specs.Str.{bytes_eq}
use Rattle.xml_tokens.specs.Characters.{is_white}
use Rattle.xml_tokens.specs.Tags.{is_end, is_quote, quote_behind}
use Rattle.xml_names.specs.Ends.{end_of}
use Rattle.xml_names.specs.Headers.{header_of, opens_stream}
use Rattle.xml_names.specs.Scopes.{Scope}
use Rattle.xml_names.specs.Starts.{Tag, start_of}
use Rattle.xml_names.specs.declared.headers.Header.{Header}
use Rattle.xml_names.specs.declared.fault.StartWhy.{StartWhy}
use Rattle.xml_names.specs.declared.fault.StartWhy.TheVariants as start
use Rattle.xml_names.specs.declared.limits.TagLimits.{TagLimits}
use Rattle.xml_trees.specs.Attributes.{sorted_attributes}
use Rattle.xml_framer.specs.Expanded.{attribute_of}
use Rattle.xml_framer.specs.MarkupSteps.{in_phase}
use Rattle.xml_framer.specs.States.{OpenElement, State, Turn, gathered, gathered_in, gives, item_ended, may_declare, moved, open_count, token_ended, token_fails, turn, with_more, with_text}
pub use Rattle.xml_open.specs.Nested.{covered, first_of, rest_of}
use Rattle.xml_trees.specs.Tidied.{tidied}
use Rattle.xml_trees.specs.Trees.{Elem, element, no_nodes, child}
use Rattle.xml_framer.specs.declared.fault.Why.{Why}
use Rattle.xml_framer.specs.declared.fault.Why.TheVariants as why
use Rattle.xml_framer.specs.declared.items.Item.{Item}
use Rattle.xml_framer.specs.declared.items.Item.TheVariants as item
use Rattle.xml_framer.specs.declared.limits.Limits.{Limits}
use Rattle.xml_framer.specs.declared.states.Mode.TheVariants as mode
use Rattle.xml_framer.specs.declared.states.Phase.{Phase}
use Rattle.xml_framer.specs.declared.states.Phase.TheVariants as phase

-- ---- what a tag is read with

abbrev pub tag_limits : Limits → TagLimits
tag_limits l = record { attributes = l.attributes; namespace_bytes = l.namespace_bytes }

-- the largest limits that there are
abbrev pub largest_limits : TagLimits
largest_limits = record { attributes = 4294967295; namespace_bytes = 4294967295 }

-- the scope inside elements, the innermost first
abbrev pub scope_in : List Scope → Scope
scope_in [] = []
scope_in (own ∷ outer) = own ++ scope_in outer

abbrev pub outer_scopes : List Scope → List Scope
outer_scopes [] = []
outer_scopes (own ∷ outer) = outer

-- the tag in hand, inside the scope in force
abbrev pub tag_here : State → Result Tag StartWhy
tag_here s = start_of (tag_limits s.limits) (scope_in s.scopes) s.token

-- the tag in hand as that of a header, which begins scopes anew
abbrev pub tag_anew : State → Result Tag StartWhy
tag_anew s = start_of (tag_limits s.limits) [] s.token

abbrev pub says_stream : Result Tag StartWhy → Bool
says_stream (Ok t) = opens_stream t
says_stream (Err fault) = false

-- Behind a header, the tag in hand is that of another by the scope in force with its own declarations, also where it is
-- past the limits.
unfoldable pub is_header : State → Bool
is_header s = says_stream (start_of largest_limits (scope_in s.scopes) s.token)

-- ---- elements

-- the element that a start tag begins, its attributes in the order of a tree
abbrev pub element_from : Tag → Elem
element_from t = element t.ns t.name (sorted_attributes (map attribute_of t.attributes)) no_nodes

abbrev pub text_joined : Option OpenElement → List ℕ → Option OpenElement
text_joined None chars = None
text_joined (Some o) chars = Some (with_text o chars)

-- the text in hand joins the innermost open element
abbrev pub joined_text : State → State
joined_text s = record s { here = text_joined s.here s.chars; chars = [] }

-- a whole element becomes a child of the innermost open one, or is given
abbrev pub added_to : Option OpenElement → Turn → Elem → Turn
added_to None t e = gives (item_ended t.state) t.items (item.Element (tidied e))
added_to (Some o) t e = moved t (token_ended (record t.state { here = Some (with_more o (child e no_nodes)) }))

abbrev pub added : Turn → Elem → Turn
added t e = added_to t.state.here t e

-- the tag of an empty element
unfoldable pub leaf : Turn → Tag → Turn
leaf t tag = added (moved t (joined_text t.state)) (element_from tag)

abbrev pub deeper : State → Tag → State
deeper s tag = record s {
  here = Some (record { spelled = tag.spelled; element = element_from tag });
  below = covered s.here s.below;
  scopes = tag.bindings ∷ s.scopes;
}

-- a start tag begins an element inside the one that was the innermost
unfoldable pub level : State → Tag → State
level s tag = token_ended (deeper (joined_text s) tag)

abbrev pub is_too_deep : State → Bool
is_too_deep s = nat_lt s.limits.depth (open_count s + 1)

-- of what a well-formed tag is past, the depth is told first
abbrev pub past : State → Why → Why
past s other = if is_too_deep s then why.TooDeep else other

abbrev pub start_why : State → StartWhy → Why
start_why s start.Restricted = why.Restricted
start_why s start.NotWellFormed = why.NotWellFormed
start_why s start.TooManyAttributes = past s why.TooManyAttributes
start_why s start.LongNamespace = past s why.LongNamespace

unfoldable pub begun : Turn → Tag → Turn
begun t tag =
    if is_too_deep t.state then moved t (token_fails t.state why.TooDeep)
    else (if tag.empty then leaf t tag else moved t (level t.state tag))

abbrev pub starts : Turn → Result Tag StartWhy → Turn
starts t (Ok tag) = begun t tag
starts t (Err fault) = moved t (token_fails t.state (start_why t.state fault))

-- the innermost open element leaves
abbrev pub shallower : State → State
shallower s = record s { here = first_of s.below; below = rest_of s.below; scopes = outer_scopes s.scopes }

abbrev pub closed_open : Option OpenElement → Turn → Turn
closed_open None t = t
closed_open (Some o) t = added (moved t (shallower t.state)) o.element

abbrev pub closed_joined : Turn → Turn
closed_joined t = closed_open t.state.here t

-- the innermost open element is whole
unfoldable pub closed : Turn → Turn
closed t = closed_joined (moved t (joined_text t.state))

abbrev pub is_spelled : Option OpenElement → Option (List ℕ) → Bool
is_spelled None name = false
is_spelled (Some o) None = false
is_spelled (Some o) (Some name) = bytes_eq name o.spelled

-- an end tag has the name of the start tag (3, Element Type Match)
unfoldable pub ends : Turn → Turn
ends t = if is_spelled t.state.here (end_of t.state.token) then closed t else moved t (token_fails t.state why.NotWellFormed)

unfoldable pub tag_inside : Turn → Turn
tag_inside t = if is_end t.state.token then ends t else starts t (tag_here t.state)

-- ---- headers

abbrev pub phase_behind : Bool → Phase
phase_behind true = phase.Ended
phase_behind false = phase.Between

abbrev pub headed : State → Tag → State
headed s tag = in_phase (item_ended (record s { scopes = tag.bindings ∷ []; name = tag.spelled })) (phase_behind tag.empty)

-- the items of a header's tag: that of an empty element is the footer besides
abbrev pub header_items : ℕ → Header → Bool → List Item
header_items at header empty = if empty then item.Header at header ∷ item.Footer ∷ [] else item.Header at header ∷ []

abbrev pub header_why : StartWhy → Why
header_why start.Restricted = why.Restricted
header_why start.NotWellFormed = why.NotWellFormed
header_why start.TooManyAttributes = why.TooManyAttributes
header_why start.LongNamespace = why.LongNamespace

abbrev pub headed_turn : Turn → Tag → Turn
headed_turn t tag = turn (headed t.state tag) (t.items ++ header_items t.state.positions.token_at (header_of tag) tag.empty)

abbrev pub heads : Turn → Result Tag StartWhy → Turn
heads t (Ok tag) = headed_turn t tag
heads t (Err fault) = moved t (token_fails t.state (header_why fault))

-- a tag that may not stand there
abbrev pub misplaced_why : Result Tag StartWhy → Why
misplaced_why (Err start.Restricted) = why.Restricted
misplaced_why r = why.NotWellFormed

unfoldable pub misplaced : Turn → Turn
misplaced t = moved t (token_fails t.state (misplaced_why (tag_here t.state)))

unfoldable pub header_tag : Turn → Turn
header_tag t = heads t (tag_anew t.state)

-- The first tag is a header, whatever its name. Behind a declaration only a header may stand, and behind the footer no
-- tag.
abbrev pub tag_in : Phase → Turn → Turn
tag_in phase.First t = header_tag t
tag_in phase.FirstDeclared t = header_tag t
tag_in phase.Between t = if is_header t.state then header_tag t else starts t (tag_here t.state)
tag_in phase.Declared t = if is_header t.state then header_tag t else misplaced t
tag_in phase.Ended t = misplaced t

unfoldable pub tag_outside : Turn → Turn
tag_outside t = tag_in t.state.lexical.phase t

-- ---- a byte of a tag

unfoldable pub tag_closes : Turn → Turn
tag_closes t = if is_some t.state.here then tag_inside t else tag_outside t

abbrev pub tag_gathered : State → ℕ → State
tag_gathered s b = record (gathered_in s mode.Tag b) { lexical = record s.lexical { mode = mode.Tag; quote = quote_behind s.lexical.quote b } }

-- a tag ends at the first `>` outside quotes
unfoldable pub in_tag : Turn → ℕ → Turn
in_tag t b =
    if b == 62 && not (is_some t.state.lexical.quote) then tag_closes (moved t (gathered t.state b))
    else moved t (tag_gathered t.state b)

-- ---- an end tag outside elements

-- It has no limit, and so no more of it is kept than the footer's end tag has up to its name. Behind that only white
-- space may stand.
abbrev pub footer_gathered : State → ℕ → State
footer_gathered s b =
    if is_some s.lexical.quote || is_quote b
    then record s { lexical = record s.lexical { quote = quote_behind s.lexical.quote b; spoiled = true } }
    else (if nat_lt (length s.token) (length s.name + 2) then gathered s b
    else (if is_white b then s else record s { lexical = record s.lexical { spoiled = true } }))

abbrev pub is_between : Phase → Bool
is_between phase.Between = true
is_between p = false

abbrev pub is_name_of : Option (List ℕ) → List ℕ → Bool
is_name_of None name = false
is_name_of (Some n) name = bytes_eq n name

-- the footer's end tag has the last header's name
abbrev pub ends_stream : State → Bool
ends_stream s = not s.lexical.spoiled && (is_between s.lexical.phase && is_name_of (end_of s.token) s.name)

unfoldable pub footer_closes : Turn → Turn
footer_closes t =
    if ends_stream t.state then gives (in_phase (item_ended t.state) phase.Ended) t.items item.Footer
    else moved t (token_fails t.state why.NotWellFormed)

unfoldable pub in_footer : Turn → ℕ → Turn
in_footer t b =
    if b == 62 && not (is_some t.state.lexical.quote) then footer_closes (moved t (gathered t.state b))
    else moved t (footer_gathered t.state b)

-- ---- the byte behind `<`

-- what has no limit outside elements: `<!`, `<?` where no declaration may stand, and an end tag
abbrev pub unlimited : State → State
unlimited s = if is_some s.here then s else record s { positions = record s.positions { used = 0 } }

unfoldable pub in_opening : Turn → ℕ → Turn
in_opening t b =
    if b == 33 then moved t (gathered_in (unlimited t.state) mode.Bang b)
    else (if b == 63 then moved t (if may_declare t.state then gathered_in t.state mode.Question b else token_fails t.state why.Restricted)
    else (if b == 47 && not (is_some t.state.here) then moved t (gathered_in (unlimited t.state) mode.Footer b)
    else in_tag t b))
