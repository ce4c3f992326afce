-- What is written for a plain header that fits, and the footer, are read as they are.
use Rattle.std.proofs.Common.{◌≡◌, ℕ, ◌+◌, ◌≤◌, ◌<◌, ◌^◌, List, ◌++◌, codes, Option, Some, None, length, refl, sym, subst, ◌∙◌, arith}
use Rattle.std.proofs.lemmas.List.Elements.{All-from_recursion}
use Rattle.xml_tokens.specs.Tags as tokens
use Rattle.xml_names.specs.Grammar.{IsShort, IsWithin}
use Rattle.xml_names.specs.Scopes.{Scope}
use Rattle.xml_names.specs.declared.headers.Header.{Header}
use Rattle.xml_framer.specs.States.{State}
use Rattle.xml_framer.specs.TagSteps.{tag_limits}
use Rattle.xml_framer.specs.declared.items.Item.{Item}
use Rattle.xml_framer.specs.declared.items.Item.TheVariants as item
use Rattle.xml_framer.specs.declared.limits.Limits.{Limits}
use Rattle.xml_framer.specs.declared.states.Phase.TheVariants as phase
use Rattle.xml_writer.specs.Canon.{written_footer, written_header}
use Rattle.law_xml.specs.Fitting.{HeaderFits, given_count, header_count}
use Rattle.law_xml.specs.Plain.{IsPlainHeader}
use Rattle.law_xml.specs.Spells.{SpellsNextHeader, a_header, as_written, written_scope}
use Rattle.law_xml.specs.Standing.{Gives, StandsOutside}
use Rattle.law_xml.specs.Within.{IsHeadWithin, IsHeaderWithin, IsNextHeaderWithin}
use Rattle.law_xml.proofs.HeaderLaws.{all, declarations, footer_spelled, from_id, from_lang, from_to, from_version, given, header_by, header_start, header_tag}
use Rattle.law_xml.proofs.ItemRuns.{declared_gives, first_declared_gives, first_gives, footer_gives, item_gives}

given_length : (name : List ℕ) (o : Option (List ℕ)) (rest : List tokens.Attribute) (n : ℕ) → length rest ≡ n → length (given name o ++ rest) ≡ given_count o + n
given_length name None rest n e = e ∙ omega arith
given_length name (Some value) rest n e = omega (arith, e)

count_is : (h : Header) → length (all h) ≡ header_count h
count_is h =
    given_length (codes "from") h.from (from_id h) _
    (given_length (codes "id") h.id (from_to h) _
    (given_length (codes "to") h.to (from_version h) _
    (given_length (codes "version") h.version (from_lang h) _
    (given_length (codes "xml:lang") h.lang declarations 2 refl))))

tag_fits : (limits : Limits) (h : Header) → HeaderFits limits h → IsWithin (tag_limits limits) (all h) (header_tag h)
tag_fits limits h fits =
    (subst (λ n. n ≤ limits.attributes) (sym (count_is h)) fits.attributes, All-from_recursion (IsShort limits.namespace_bytes) written_scope fits.declared)

head_within : (limits : Limits) (h : Header) → HeaderFits limits h → IsHeadWithin limits (written_header h) (all h) (header_tag h)
head_within limits h fits = record { short = fits.short; tag = tag_fits limits h fits }

pub header_within : (limits : Limits) (h : Header) (p : IsPlainHeader h) → HeaderFits limits h → IsHeaderWithin limits (written_header h) (codes "stream:stream") written_scope (as_written h) (header_by h p)
header_within limits h p fits = head_within limits h fits

abbrev pub next_header_by : (scope : Scope) (h : Header) → IsPlainHeader h → SpellsNextHeader scope (written_header h) (codes "stream:stream") written_scope (as_written h)
next_header_by scope h p = record { spelled = header_by h p; raw = all h; tag = header_tag h; start = header_start scope h p; named = (refl, refl) }

pub next_header_within : (limits : Limits) (scope : Scope) (h : Header) (p : IsPlainHeader h) → HeaderFits limits h → limits.attributes < 2 ^ 32 → limits.namespace_bytes < 2 ^ 32
    → IsNextHeaderWithin limits scope (written_header h) (codes "stream:stream") written_scope (as_written h) (next_header_by scope h p)
next_header_within limits scope h p fits few short = record { head = head_within limits h fits; attributes_fit = few; names_fit = short }

abbrev pub GivesHeader : State → List Item → Header → Type 0
GivesHeader s items h = Gives s items (written_header h) (item.Header s.positions.at (as_written h)) phase.Between written_scope (codes "stream:stream")

pub first_header_is_read : (s : State) (items : List Item) (scope : Scope) (name : List ℕ) (h : Header) → IsPlainHeader h → HeaderFits s.limits h → StandsOutside s phase.First scope name → GivesHeader s items h
first_header_is_read s items scope name h p fits stands =
    first_gives s items scope written_scope name (codes "stream:stream") (written_header h) (as_written h) (header_by h p) stands (header_within s.limits h p fits)

pub first_declared_header_is_read : (s : State) (items : List Item) (scope : Scope) (name : List ℕ) (h : Header) → IsPlainHeader h → HeaderFits s.limits h → StandsOutside s phase.FirstDeclared scope name → GivesHeader s items h
first_declared_header_is_read s items scope name h p fits stands =
    first_declared_gives s items scope written_scope name (codes "stream:stream") (written_header h) (as_written h) (header_by h p) stands (header_within s.limits h p fits)

pub next_header_is_read : (s : State) (items : List Item) (scope : Scope) (name : List ℕ) (h : Header) → IsPlainHeader h → HeaderFits s.limits h → s.limits.attributes < 2 ^ 32 → s.limits.namespace_bytes < 2 ^ 32
    → StandsOutside s phase.Between scope name → GivesHeader s items h
next_header_is_read s items scope name h p fits few short stands =
    let i = item.Header s.positions.at (as_written h) in
    item_gives s items scope name (written_header h) i
    (a_header scope name (written_header h) i (codes "stream:stream") written_scope s.positions.at (as_written h) (next_header_by scope h p) refl)
    stands (next_header_within s.limits scope h p fits few short)

pub declared_header_is_read : (s : State) (items : List Item) (scope : Scope) (name : List ℕ) (h : Header) → IsPlainHeader h → HeaderFits s.limits h → s.limits.attributes < 2 ^ 32 → s.limits.namespace_bytes < 2 ^ 32
    → StandsOutside s phase.Declared scope name → GivesHeader s items h
declared_header_is_read s items scope name h p fits few short stands =
    declared_gives s items scope written_scope name (codes "stream:stream") (written_header h) (as_written h) (next_header_by scope h p) stands (next_header_within s.limits scope h p fits few short)

pub footer_is_read : (s : State) (items : List Item) (scope : Scope) → StandsOutside s phase.Between scope (codes "stream:stream")
    → Gives s items written_footer item.Footer phase.Ended scope (codes "stream:stream")
footer_is_read s items scope stands = footer_gives s items scope (codes "stream:stream") written_footer item.Footer footer_spelled stands refl
