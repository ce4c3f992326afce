-- The definitions, evaluated at values that were worked out beforehand: what Python's expat tells of the same tags.
use Rattle.std.proofs.Common.{◌≡◌, ℕ, true, false, List, [], ◌∷◌, Some, None, Ok, Err, refl, codes}
use Rattle.std.specs.Str.{is_utf8, chars}
use lib.Utf8.{encode}
use Rattle.xml_tokens.specs.Characters.{are_characters}
use Rattle.xml_tokens.specs.Spelling.{text_byte, value_byte}
use Rattle.xml_tokens.specs.Tags.{tag_of, start_at, inside_of, spelled_at, is_qualified}
use Rattle.xml_tokens.specs.Values.{value_of}
use Rattle.xml_names.specs.Declarations.{declared_prefix, may_declare}
use Rattle.xml_names.specs.Expansion.{attribute_ns, element_ns, expanded_name}
use Rattle.xml_names.specs.Names.{local_of, prefix_of}
use Rattle.xml_names.specs.Scopes.{Scope, bound, xml_namespace, xmlns_namespace}
use Rattle.xml_names.specs.Starts.{attributes_in, parted_tag, past_limits, start_of}
use Rattle.xml_names.specs.declared.fault.StartWhy.TheVariants as fault
use Rattle.xml_names.specs.declared.limits.TagLimits.{TagLimits}
use Rattle.xml_names.specs.declared.scopes.Binding.{Binding}

abbrev bind : List ℕ → List ℕ → Binding
bind prefix ns = record { prefix = prefix; ns = ns }

-- inside `<r xmlns='d' xmlns:p='u' xmlns:q='u'><s xmlns:p='v'>`
abbrev inside : Scope
inside = bind (codes "p") (codes "v") ∷ bind [] (codes "d") ∷ bind (codes "p") (codes "u") ∷ bind (codes "q") (codes "u") ∷ []

abbrev limits : TagLimits
limits = record { attributes = 2; namespace_bytes = 4 }

innermost : bound inside (codes "p") ≡ Some (codes "v")
unfolding bound
innermost = refl

always : bound [] (codes "xml") ≡ Some xml_namespace
unfolding bound
always = refl

unbound : bound inside (codes "z") ≡ None
unfolding bound
unbound = refl

prefix : prefix_of (codes "p:a") ≡ codes "p"
unfolding prefix_of
prefix = refl

local : local_of (codes "p:a") ≡ codes "a"
unfolding local_of
local = refl

declares_p : declared_prefix (codes "xmlns:p") ≡ Some (codes "p")
unfolding declared_prefix prefix_of local_of
declares_p = refl

declares_the_default : declared_prefix (codes "xmlns") ≡ Some []
unfolding declared_prefix
declares_the_default = refl

declares_nothing : declared_prefix (codes "xml:lang") ≡ None
unfolding declared_prefix prefix_of
declares_nothing = refl

its_own_name : may_declare (bind (codes "xml") xml_namespace) ≡ true
unfolding may_declare
its_own_name = refl

another_name : may_declare (bind (codes "xml") (codes "n")) ≡ false
unfolding may_declare
another_name = refl

as_default : may_declare (bind [] xml_namespace) ≡ false
unfolding may_declare
as_default = refl

undeclared_prefix : may_declare (bind (codes "p") []) ≡ false
unfolding may_declare
undeclared_prefix = refl

undeclared_default : may_declare (bind [] []) ≡ true
unfolding may_declare
undeclared_default = refl

declared_xmlns : may_declare (bind (codes "xmlns") xmlns_namespace) ≡ false
unfolding may_declare
declared_xmlns = refl

element_by_default : element_ns inside [] ≡ Some (codes "d")
unfolding element_ns bound
element_by_default = refl

attribute_in_none : attribute_ns inside [] ≡ Some []
unfolding attribute_ns
attribute_in_none = refl

a_start : start_of limits inside (codes "<q:a p:b='1'>")
    ≡ Ok (record { spelled = codes "q:a"; ns = codes "u"; name = codes "a"; attributes = record { ns = codes "v"; name = codes "b"; value = codes "1" } ∷ []; bindings = []; empty = false })
unfolding start_of parted_tag attributes_in past_limits element_ns attribute_ns expanded_name bound prefix_of local_of declared_prefix may_declare tag_of start_at inside_of spelled_at is_qualified value_of are_characters is_utf8 chars encode
a_start = refl

equal_names : start_of limits inside (codes "<a xmlns:p='u' q:b='1' p:b='2'/>") ≡ Err fault.NotWellFormed
unfolding start_of parted_tag attributes_in past_limits element_ns attribute_ns expanded_name bound prefix_of local_of declared_prefix may_declare tag_of start_at inside_of spelled_at is_qualified value_of are_characters is_utf8 chars encode
equal_names = refl

too_many : start_of limits inside (codes "<a xmlns='abcde' b='' c=''/>") ≡ Err fault.TooManyAttributes
unfolding start_of parted_tag attributes_in past_limits element_ns attribute_ns expanded_name bound prefix_of local_of declared_prefix may_declare tag_of start_at inside_of spelled_at is_qualified value_of are_characters is_utf8 chars encode
too_many = refl

too_long : start_of limits inside (codes "<a xmlns='>>'/>") ≡ Err fault.LongNamespace
unfolding start_of parted_tag attributes_in past_limits element_ns attribute_ns expanded_name bound prefix_of local_of declared_prefix may_declare tag_of start_at inside_of spelled_at is_qualified value_of are_characters is_utf8 chars encode text_byte value_byte
too_long = refl
