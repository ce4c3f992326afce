-- Bytes cut inside each kind of token, worked out beforehand: a declaration, a header, a start tag, a text, a
-- reference, an end tag.
use Rattle.std.proofs.Common.{◌≡◌, ℕ, ◌<◌, true, false, arith, inr, length, take, List, [], ◌∷◌, ◌++◌, None, Ok, Some, codes, length-append, refl, sym, ap, subst, ◌∙◌}
use Rattle.std.specs.Str.{is_utf8, chars}
use lib.Utf8.{encode}
use Rattle.xml_tokens.specs.Characters.{are_characters}
use Rattle.xml_tokens.specs.Declarations.{declaration_of, has_other, is_good, is_utf8_label}
use Rattle.xml_tokens.specs.References.{reference_goes_on, referred}
use Rattle.xml_tokens.specs.Spelling.{text_byte, value_byte}
use Rattle.xml_tokens.specs.Tags.{end_at, inside_of, is_qualified, spelled_at, start_at, tag_of}
use Rattle.xml_tokens.specs.Utf8.{utf8_next}
use Rattle.xml_tokens.specs.Values.{value_of}
use Rattle.xml_tokens.specs.declared.declarations.Declaration.TheVariants as good
use Rattle.xml_names.specs.Declarations.{declared_prefix, may_declare}
use Rattle.xml_names.specs.Ends.{end_of}
use Rattle.xml_names.specs.Expansion.{attribute_ns, element_ns, expanded_name}
use Rattle.xml_names.specs.Names.{local_of, prefix_of}
use Rattle.xml_names.specs.Scopes.{Scope, bound}
use Rattle.xml_names.specs.Starts.{Tag, attributes_in, or_fault, parted_tag, past_limits, start_of}
use Rattle.xml_names.specs.declared.headers.Header.{Header}
use Rattle.xml_names.specs.declared.limits.TagLimits.{TagLimits}
use Rattle.xml_names.specs.declared.scopes.Binding.{Binding}
use Rattle.xml_framer.proofs.Pieces.{run_append}
use Rattle.xml_framer.specs.Machine.{goes_on, is_too_long, run, taken}
use Rattle.xml_framer.specs.MarkupSteps.{in_declaration, in_question}
use Rattle.xml_framer.specs.States.{State, Turn, from_start, turn}
use Rattle.xml_framer.specs.TagSteps.{begun, closed, ends, header_tag, in_opening, in_tag, is_header, largest_limits, level, tag_closes, tag_inside, tag_limits, tag_outside}
use Rattle.xml_framer.specs.TextSteps.{between, in_reference, in_text, inside, text_inside}
use Rattle.xml_framer.specs.declared.items.Item.{Item}
use Rattle.xml_framer.specs.declared.items.Item.TheVariants as item
use Rattle.xml_framer.specs.declared.limits.Limits.{Limits}
use Rattle.xml_framer.specs.declared.states.Mode.TheVariants as mode
use Rattle.xml_framer.specs.declared.states.Phase.TheVariants as phase
use Rattle.xml_trees.specs.Trees.{element, no_nodes, text}
use Rattle.net_pipes.specs.Pipes.{Pipe, cut_to, empty_pipe, entered}
use Rattle.law_xml.specs.Carries.{Carries}
use Rattle.law_xml.specs.Items.{GivesOne, IsFront, no_more, one_more}
use Rattle.law_xml.proofs.PipeLaws.{gives_all}
use Rattle.law_xml.proofs.RestRuns.{by_last_byte, front_of, with_declaration}

abbrev limits : Limits
limits = record { bytes = 99; depth = 1; attributes = 2; namespace_bytes = 9 }

abbrev first : State
first = from_start limits

abbrev declares : Binding
declares = record { prefix = []; ns = codes "a" }

-- ---- a header

abbrev in_header : State
in_header = record first { positions = record { at = 12; item_at = 0; token_at = 0; used = 12 }; lexical = record first.lexical { mode = mode.Tag }; token = codes "<s xmlns='a'" }

abbrev header_says : Tag
header_says = record { spelled = codes "s"; ns = codes "a"; name = codes "s"; attributes = []; bindings = declares ∷ []; empty = false }

abbrev header : Header
header = record { ns = codes "a"; name = codes "s"; content = codes "a"; to = None; from = None; id = None; version = None; lang = None }

abbrev headed : State
headed = record first {
  positions = record { at = 13; item_at = 0; token_at = 0; used = 0 };
  lexical = record first.lexical { phase = phase.Between };
  scopes = (declares ∷ []) ∷ [];
  name = codes "s";
}

header_is : start_of (tag_limits limits) [] (codes "<s xmlns='a'>") ≡ Ok header_says
unfolding start_of parted_tag attributes_in past_limits element_ns attribute_ns expanded_name bound prefix_of local_of declared_prefix may_declare tag_of start_at inside_of spelled_at is_qualified value_of are_characters is_utf8 chars encode value_byte text_byte
header_is = refl

-- cut in the header nothing is given
header_cut : run (turn first []) (codes "<s xmlns='a'") ≡ turn in_header []
unfolding goes_on taken is_too_long utf8_next in_text between in_opening in_tag
header_cut = refl

header_ends : run (turn in_header []) (codes ">") ≡ turn headed (item.Header 0 header ∷ [])
unfolding goes_on taken is_too_long utf8_next in_tag tag_closes tag_outside header_tag
header_ends = rw header_is refl

header_gives : GivesOne first (codes "<s xmlns='a'>") (item.Header 0 header) headed
header_gives =
    by_last_byte first (codes "<s xmlns='a'") 62 (item.Header 0 header) headed
    (run_append (turn first []) (codes "<s xmlns='a'") (codes ">") ∙ ap (λ t. run t (codes ">")) header_cut ∙ header_ends)
    (ap (λ (t : Turn). t.items) header_cut) refl

-- ---- a declaration before it

abbrev in_declaration_bytes : State
in_declaration_bytes = record first { positions = record { at = 14; item_at = 0; token_at = 0; used = 14 }; lexical = record first.lexical { mode = mode.Declaration }; token = codes "<?xml version=" }

-- cut in the declaration nothing is given
declaration_cut : run (turn first []) (codes "<?xml version=") ≡ turn in_declaration_bytes []
unfolding goes_on taken is_too_long utf8_next in_text between in_opening in_question in_declaration
declaration_cut = refl

abbrev declared : State
declared = record first { positions = record { at = 21; item_at = 0; token_at = 0; used = 0 }; lexical = record first.lexical { phase = phase.FirstDeclared } }

declaration_is : declaration_of (codes "<?xml version='1.0'?>") ≡ good.Good
unfolding declaration_of has_other is_good is_utf8_label spelled_at is_qualified are_characters is_utf8 chars encode
declaration_is = refl

declaration_last : run (turn in_declaration_bytes []) (codes "'1.0'?>") ≡ turn declared []
unfolding goes_on taken is_too_long utf8_next in_declaration
declaration_last = rw declaration_is refl

declaration_gives_none : run (turn first []) (codes "<?xml version='1.0'?>") ≡ turn declared []
declaration_gives_none = run_append (turn first []) (codes "<?xml version=") (codes "'1.0'?>") ∙ ap (λ t. run t (codes "'1.0'?>")) declaration_cut ∙ declaration_last

-- whatever item the bytes behind it are, the declaration and these are that one item
with_it : (bytes : List ℕ) (i : Item) (t : State) → GivesOne declared bytes i t → GivesOne first (codes "<?xml version='1.0'?>" ++ bytes) i t
with_it bytes i t g = with_declaration first declared t (codes "<?xml version='1.0'?>") bytes i declaration_gives_none g

-- so what is cut in the declaration is a front of that item
in_the_declaration : (bytes : List ℕ) (i : Item) (t : State) → GivesOne declared bytes i t → IsFront first (codes "<?xml version=")
in_the_declaration bytes i t g = front_of first (codes "<?xml version=") (codes "'1.0'?>" ++ bytes) i t (with_it bytes i t g) (omega (arith, length-append (codes "'1.0'?>") bytes))

-- ---- an element

abbrev scope : Scope
scope = declares ∷ []

abbrev start_says : Tag
start_says = record { spelled = codes "b"; ns = codes "a"; name = codes "b"; attributes = []; bindings = []; empty = false }

start_is : (l : TagLimits) → start_of l scope (codes "<b>") ≡ or_fault (past_limits l 0 []) start_says
unfolding start_of parted_tag attributes_in element_ns bound prefix_of local_of tag_of start_at inside_of spelled_at is_qualified are_characters is_utf8 chars encode
start_is l = refl

abbrev in_start_tag : State
in_start_tag = record headed { positions = record { at = 15; item_at = 13; token_at = 13; used = 2 }; lexical = record headed.lexical { mode = mode.Tag }; token = codes "<b" }

-- `<b>` is open
abbrev opened : State
opened = record headed {
  positions = record { at = 16; item_at = 13; token_at = 13; used = 3 };
  here = Some (record { spelled = codes "b"; element = element (codes "a") (codes "b") [] no_nodes });
  scopes = [] ∷ scope ∷ [];
}

start_tag_cut : run (turn headed []) (codes "<b") ≡ turn in_start_tag []
unfolding goes_on taken is_too_long utf8_next in_text between in_opening in_tag
start_tag_cut = refl

start_tag_ends : run (turn in_start_tag []) (codes ">") ≡ turn opened []
unfolding goes_on taken is_too_long utf8_next in_tag tag_closes tag_outside is_header begun level past_limits
start_tag_ends = rw (start_is largest_limits, start_is (tag_limits limits)) refl

abbrev in_words : State
in_words = record opened {
  positions = record { at = 17; item_at = 13; token_at = 16; used = 4 };
  lexical = record opened.lexical { in_run = true };
  chars = codes "x";
}

text_cut : run (turn opened []) (codes "x") ≡ turn in_words []
unfolding goes_on taken is_too_long utf8_next in_text inside text_inside
text_cut = refl

abbrev in_entity : State
in_entity = record opened {
  positions = record { at = 20; item_at = 13; token_at = 17; used = 7 };
  lexical = record opened.lexical { mode = mode.Reference };
  token = codes "am";
  chars = codes "x";
}

reference_cut : run (turn in_words []) (codes "&am") ≡ turn in_entity []
unfolding goes_on taken is_too_long utf8_next in_text inside in_reference reference_goes_on
reference_cut = refl

abbrev in_end_tag : State
in_end_tag = record opened {
  positions = record { at = 25; item_at = 13; token_at = 22; used = 12 };
  lexical = record opened.lexical { mode = mode.Tag };
  token = codes "</b";
  chars = codes "x&";
}

end_tag_cut : run (turn in_entity []) (codes "p;</b") ≡ turn in_end_tag []
unfolding goes_on taken is_too_long utf8_next in_text inside in_reference reference_goes_on referred in_opening in_tag encode
end_tag_cut = refl

end_tag_is : end_of (codes "</b>") ≡ Some (codes "b")
unfolding end_of tag_of end_at is_qualified are_characters is_utf8 chars encode
end_tag_is = refl

abbrev says : Item
says = item.Element (element (codes "a") (codes "b") [] (text (codes "x&") no_nodes))

abbrev following : State
following = record headed { positions = record { at = 26; item_at = 13; token_at = 22; used = 0 } }

end_tag_ends : run (turn in_end_tag []) (codes ">") ≡ turn following (says ∷ [])
unfolding goes_on taken is_too_long utf8_next in_tag tag_closes tag_inside ends closed
end_tag_ends = rw end_tag_is refl

-- each cut of the element gives nothing
to_text : run (turn headed []) (codes "<b>x") ≡ turn in_words []
to_text =
    run_append (turn headed []) (codes "<b") (codes ">x") ∙ ap (λ t. run t (codes ">x")) start_tag_cut
    ∙ run_append (turn in_start_tag []) (codes ">") (codes "x") ∙ ap (λ t. run t (codes "x")) start_tag_ends ∙ text_cut

to_reference : run (turn headed []) (codes "<b>x&am") ≡ turn in_entity []
to_reference = run_append (turn headed []) (codes "<b>x") (codes "&am") ∙ ap (λ t. run t (codes "&am")) to_text ∙ reference_cut

to_end_tag : run (turn headed []) (codes "<b>x&amp;</b") ≡ turn in_end_tag []
to_end_tag = run_append (turn headed []) (codes "<b>x&am") (codes "p;</b") ∙ ap (λ t. run t (codes "p;</b")) to_reference ∙ end_tag_cut

element_gives : GivesOne headed (codes "<b>x&amp;</b>") says following
element_gives =
    by_last_byte headed (codes "<b>x&amp;</b") 62 says following
    (run_append (turn headed []) (codes "<b>x&amp;</b") (codes ">") ∙ ap (λ t. run t (codes ">")) to_end_tag ∙ end_tag_ends)
    (ap (λ (t : Turn). t.items) to_end_tag) refl

-- ---- a pipe with both

abbrev pipe : Pipe
pipe = entered (codes "<s xmlns='a'><b>x&amp;</b>") empty_pipe

both : Carries first [] pipe (item.Header 0 header ∷ says ∷ []) following
both = record {
  no_fault = refl;
  none_given = refl;
  are_items = one_more false first pipe.bytes (item.Header 0 header ∷ says ∷ []) following (codes "<s xmlns='a'>") (codes "<b>x&amp;</b>") (item.Header 0 header) (says ∷ []) headed header_gives
      (one_more false headed (codes "<b>x&amp;</b>") (says ∷ []) following (codes "<b>x&amp;</b>") [] says [] following element_gives (no_more false following [] [] following refl refl refl) refl refl) refl refl;
}

in_the_header : Carries first [] (cut_to 12 pipe) [] first
in_the_header = record {
  no_fault = refl;
  none_given = refl;
  are_items = no_more true first (codes "<s xmlns='a'") [] first (inr (front_of first (codes "<s xmlns='a'") (codes ">") (item.Header 0 header) headed header_gives (omega arith))) refl refl;
}

in_the_element : (n : ℕ) (front more : List ℕ) → take n pipe.bytes ≡ codes "<s xmlns='a'>" ++ front → codes "<b>x&amp;</b>" ≡ front ++ more → 0 < length more
    → Carries first [] (cut_to n pipe) (item.Header 0 header ∷ []) headed
in_the_element n front more kept all some = record {
  no_fault = refl;
  none_given = refl;
  are_items = one_more true first (take n pipe.bytes) (item.Header 0 header ∷ []) headed (codes "<s xmlns='a'>") front (item.Header 0 header) [] headed header_gives
      (no_more true headed front [] headed (inr (front_of headed front more says following (subst (λ l. GivesOne headed l says following) all element_gives) some)) refl refl) kept refl;
}

in_the_start_tag : Carries first [] (cut_to 15 pipe) (item.Header 0 header ∷ []) headed
in_the_start_tag = in_the_element 15 (codes "<b") (codes ">x&amp;</b>") refl refl (omega arith)

in_the_text : Carries first [] (cut_to 17 pipe) (item.Header 0 header ∷ []) headed
in_the_text = in_the_element 17 (codes "<b>x") (codes "&amp;</b>") refl refl (omega arith)

in_the_reference : Carries first [] (cut_to 20 pipe) (item.Header 0 header ∷ []) headed
in_the_reference = in_the_element 20 (codes "<b>x&am") (codes "p;</b>") refl refl (omega arith)

in_the_end_tag : Carries first [] (cut_to 25 pipe) (item.Header 0 header ∷ []) headed
in_the_end_tag = in_the_element 25 (codes "<b>x&amp;</b") (codes ">") refl refl (omega arith)

-- a pipe that was cut before the last byte of the element doesn't carry it
last_byte : (t : State) → Carries first [] (cut_to 25 pipe) (item.Header 0 header ∷ says ∷ []) t → ⊥
last_byte t c =
    let g = gives_all first [] (cut_to 25 pipe) (item.Header 0 header ∷ says ∷ []) t c in
    let h = gives_all first [] (cut_to 25 pipe) (item.Header 0 header ∷ []) headed in_the_end_tag in
    two_or_one (item.Header 0 header) says (ap (λ (u : Turn). u.items) (sym (g.run_is []) ∙ h.run_is []))
  where
    two_or_one : (i j : Item) → i ∷ j ∷ [] ≡ i ∷ [] → ⊥
    two_or_one i j e = cc
