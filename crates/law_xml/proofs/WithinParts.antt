-- Spellings and streams within the limits, part by part.
use Rattle.std.proofs.Common.{◌≡◌, ℕ, ◌+◌, ◌^◌, ◌<◌, ◌≤◌, true, false, List, [], ◌∷◌, ◌++◌, length, length-append, max, refl, ap, ◌∙◌, arith}
use Rattle.xml_tokens.specs.Tags as tokens
use Rattle.xml_tokens.specs.Tags.{IsTag, end_tag}
use Rattle.xml_names.specs.Grammar.{IsStart, IsWithin}
use Rattle.xml_names.specs.Scopes.{Scope}
use Rattle.xml_names.specs.Starts.{Tag}
use Rattle.xml_trees.specs.Tidied.{text_node}
use Rattle.xml_trees.specs.Trees.{Elem, Nodes, child, depth, depth_below, element, joined, no_nodes, text, with_nodes}
use Rattle.law_xml.specs.Spells.{IsBegun, Spells, SpellsContent, empty, filled, text_alone, with_element}
use Rattle.law_xml.specs.StreamLimits.{IsStreamWithin}
use Rattle.law_xml.specs.Streams.{InForce, StreamTo}
use Rattle.law_xml.specs.Texts.{IsText}
use Rattle.law_xml.specs.Within.{AreTagsWithin, AreTagsWithinContent}
use Rattle.xml_framer.specs.States.{OpenElement}
use Rattle.xml_framer.specs.TagSteps.{tag_limits}
use Rattle.xml_framer.specs.declared.items.Item.{Item}
use Rattle.xml_framer.specs.declared.limits.Limits.{Limits}

abbrev pub SpellsIn : Limits → Scope → List ℕ → Elem → Type 0
SpellsIn limits scope bytes e = (s : Spells scope bytes e) × AreTagsWithin (tag_limits limits) scope bytes e s

abbrev pub ContentIn : Limits → Scope → List ℕ → Nodes → Type 0
ContentIn limits scope bytes kids = (s : SpellsContent scope bytes kids) × AreTagsWithinContent (tag_limits limits) scope bytes kids s

-- The limit on bytes is a number of 64 bits, where it's asked.
abbrev pub StreamIn : Limits → InForce → List ℕ → List Item → Type 0
StreamIn limits now bytes items = (s : StreamTo now bytes items) × (limits.bytes < 2 ^ 64 → IsStreamWithin limits now bytes items s)

pub text_in : (limits : Limits) (scope : Scope) (bytes : List ℕ) (kids : Nodes) (says : List ℕ) → IsText bytes says → kids ≡ text_node says → ContentIn limits scope bytes kids
text_in limits scope bytes kids says t are = (text_alone scope bytes kids says t are, tt)

pub element_in : (limits : Limits) (scope : Scope) (bytes : List ℕ) (kids : Nodes) (front says middle rest : List ℕ) (e : Elem) (more : Nodes)
    → IsText front says → SpellsIn limits scope middle e → ContentIn limits scope rest more → bytes ≡ front ++ (middle ++ rest) → kids ≡ joined (text_node says) (child e more) → ContentIn limits scope bytes kids
element_in limits scope bytes kids front says middle rest e more t inner outer are kids_are =
    (with_element scope bytes kids front says middle rest e more t inner.0 outer.0 are kids_are, (inner.1, outer.1))

pub empty_in : (limits : Limits) (scope : Scope) (bytes : List ℕ) (e : Elem) (raw : List tokens.Attribute) (t : Tag)
    → IsStart scope bytes raw t → IsWithin (tag_limits limits) raw t → t.empty ≡ true → IsBegun t no_nodes e → SpellsIn limits scope bytes e
empty_in limits scope bytes e raw t start within is_empty begun = (empty scope bytes e raw t start is_empty begun, within)

pub filled_in : (limits : Limits) (scope : Scope) (bytes : List ℕ) (e : Elem) (raw : List tokens.Attribute) (t : Tag) (start inside close : List ℕ) (kids : Nodes)
    → IsStart scope start raw t → IsWithin (tag_limits limits) raw t → t.empty ≡ false → ContentIn limits (t.bindings ++ scope) inside kids → IsTag close (end_tag t.spelled)
    → bytes ≡ start ++ (inside ++ close) → IsBegun t kids e → SpellsIn limits scope bytes e
filled_in limits scope bytes e raw t start inside close kids is_start within not_empty content end are begun =
    (filled scope bytes e raw t start inside close kids is_start not_empty content.0 end are begun, (within, content.1))

-- ---- how deep the open elements are

-- each open element is so deep that its own level is within the limit
abbrev pub AreShallow : ℕ → OpenElement → List OpenElement → Type 0
AreShallow most o [] = depth o.element ≤ most
AreShallow most o (p ∷ ps) = (depth o.element + length (p ∷ ps) ≤ most) × AreShallow most p ps

pub depth_joined : (k : Nodes) (e : Elem) → depth_below (joined k (child e no_nodes)) ≡ max (depth_below k) (depth e)
depth_joined no_nodes e = omega arith
depth_joined (child f rest) e = let h = depth_joined rest e in omega (arith, h)
depth_joined (text t rest) e = depth_joined rest e

pub depth_more : (o e : Elem) → depth (with_nodes o (child e no_nodes)) ≡ max (depth o) (depth e + 1)
depth_more (element ns name attrs kids) e = let h = depth_joined kids e in omega (arith, h)

text_below : (k : Nodes) (says : List ℕ) → depth_below (joined k (text_node says)) ≡ depth_below k
text_below no_nodes [] = refl
text_below no_nodes (c ∷ cs) = refl
text_below (child f rest) says = let h = text_below rest says in omega (arith, h)
text_below (text t rest) says = text_below rest says

pub depth_text : (o : Elem) (says : List ℕ) → depth (with_nodes o (text_node says)) ≡ depth o
depth_text (element ns name attrs kids) says = ap (λ n. n + 1) (text_below kids says)

-- ---- how many bytes are in hand

-- so many bytes are in hand after those that are done
abbrev pub IsCounted : ℕ → List ℕ → List ℕ → Type 0
IsCounted used done bytes = (0 < used) × (used + length done ≡ length bytes)

pub counted_more : (used next : ℕ) (done bytes : List ℕ) (b : ℕ) → next ≡ used + 1 → IsCounted used done bytes → IsCounted next done (bytes ++ b ∷ [])
counted_more used next done bytes b is h = let n = length-append bytes (b ∷ []) in let sum = h.1 in (omega (arith, is), omega (arith, is, sum, n))

-- how long what is in hand is
pub counted_length : (used : ℕ) (done bytes hand : List ℕ) → IsCounted used done bytes → bytes ≡ done ++ hand → length hand ≡ used
counted_length used done bytes hand h are = let n = ap length are ∙ length-append done hand in let sum = h.1 in omega (arith, n, sum)

pub shallow_own : (most : ℕ) (o : OpenElement) (below : List OpenElement) → AreShallow most o below → depth o.element + length below ≤ most
shallow_own most o [] h = omega (arith, h)
shallow_own most o (p ∷ ps) h = h.0

pub shallow_with : (most : ℕ) (o p : OpenElement) (below : List OpenElement) → AreShallow most o below → depth p.element + length below ≤ most → AreShallow most p below
shallow_with most o p [] h deep = omega (arith, deep)
shallow_with most o p (q ∷ qs) h deep = (deep, h.1)
