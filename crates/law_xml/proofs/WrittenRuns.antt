-- A written stream is read as its items.
use Rattle.std.proofs.Common.{◌≡◌, ℕ, ◌+◌, ◌<◌, ◌^◌, List, [], ◌∷◌, ◌++◌, None, length, refl, sym, ap, subst, ◌∙◌, append_assoc, append-nil, length-append}
use Rattle.std.proofs.lemmas.List.Elements.{recursion_from_All}
use Rattle.std.specs.List.{All, AllByRecursion}
use Rattle.xml_framer.specs.Machine.{part_of, run}
use Rattle.xml_framer.specs.States.{Turn, from_start, turn}
use Rattle.xml_framer.specs.declared.items.Item.{Item}
use Rattle.xml_framer.specs.declared.items.Item.TheVariants as item
use Rattle.xml_framer.specs.declared.limits.Limits.{Limits}
use Rattle.xml_framer.specs.declared.states.Phase.{Phase}
use Rattle.xml_framer.specs.declared.states.Phase.TheVariants as phase
use Rattle.xml_writer.specs.Canon.{canon, written_footer, written_header}
use Rattle.law_xml.specs.Spells.{as_written, written_scope}
use Rattle.law_xml.specs.StreamLimits.{IsReadAs, IsStreamWithin}
use Rattle.law_xml.specs.Streams.{InForce, IsStream, StreamTo, ended, headed, nothing, position_of, with_element}
use Rattle.law_xml.specs.WrittenStreams.{ItemFits, MayFollow, MayStand, at_start, in_force, now_after, phase_after, read_item, read_items, written_item, written_items}
use Rattle.law_xml.proofs.CanonLaws.{in_header}
use Rattle.law_xml.proofs.HeaderLaws.{footer_spelled, header_by}
use Rattle.law_xml.proofs.StreamRuns.{stream_read}
use Rattle.law_xml.proofs.WrittenFits.{top_within}
use Rattle.law_xml.proofs.WrittenHeaders.{header_within, next_header_by, next_header_within}

-- the ranges of the limits of a tag
pub record AreLimits (limits : Limits) : Type 0 where
  pub few : limits.attributes < 2 ^ 32
  pub short : limits.namespace_bytes < 2 ^ 32

-- a stream so far, within the limits
record SoFar (limits : Limits) (now : InForce) (bytes : List ℕ) (said : List Item) : Type 0 where
  stream : StreamTo now bytes said
  within : IsStreamWithin limits now bytes said stream

abbrev Grown : Limits → Item → List ℕ → List Item → Type 0
Grown limits i bytes said = SoFar limits (in_force (phase_after i)) (bytes ++ written_item i) (said ++ read_item (length bytes) i ∷ [])

started : (limits : Limits) → SoFar limits at_start [] []
started limits = record { stream = nothing at_start [] [] refl refl refl refl refl; within = tt }

first_item : (limits : Limits) (bytes : List ℕ) (said : List Item) (i : Item) → SoFar limits at_start bytes said → MayStand phase.First i → ItemFits limits i → Grown limits i bytes said
first_item limits bytes said (item.Header at h) s may fits =
    record {
      stream = headed (in_force phase.Between) (bytes ++ written_header h) (said ++ item.Header (position_of (length bytes)) (as_written h) ∷ []) at_start bytes (written_header h) said (as_written h)
          s.stream (header_by h fits.0) refl refl refl;
      within = (s.within, header_within limits h fits.0 fits.1);
    }
first_item limits bytes said (item.Element e) s may fits = absurd may
first_item limits bytes said item.Footer s may fits = absurd may

between : (limits : Limits) (bytes : List ℕ) (said : List Item) (i : Item) → AreLimits limits → SoFar limits (in_force phase.Between) bytes said → ItemFits limits i → Grown limits i bytes said
between limits bytes said (item.Header at h) limited s fits =
    record {
      stream = headed (in_force phase.Between) (bytes ++ written_header h) (said ++ item.Header (position_of (length bytes)) (as_written h) ∷ []) (in_force phase.Between) bytes (written_header h) said (as_written h)
          s.stream (next_header_by written_scope h fits.0) refl refl refl;
      within = (s.within, next_header_within limits written_scope h fits.0 fits.1 limited.few limited.short);
    }
between limits bytes said (item.Element e) limited s fits =
    let r = top_within limits written_scope e in_header fits.0 fits.1 fits.2 in
    record {
      stream = with_element (in_force phase.Between) (bytes ++ canon e) (said ++ item.Element e ∷ []) bytes (canon e) said e s.stream refl r.spelled refl refl;
      within = (s.within, r.within);
    }
between limits bytes said item.Footer limited s fits =
    record {
      stream = ended (in_force phase.Ended) (bytes ++ written_footer) (said ++ item.Footer ∷ []) (in_force phase.Between) bytes written_footer said s.stream refl footer_spelled refl refl refl refl refl;
      within = s.within;
    }

-- a first header was there
abbrev pub IsAfterHeader : Phase → Type 0
IsAfterHeader phase.First = ⊥
IsAfterHeader phase.FirstDeclared = ⊥
IsAfterHeader phase.Between = Unit {0}
IsAfterHeader phase.Declared = Unit {0}
IsAfterHeader phase.Ended = Unit {0}

next_item : (limits : Limits) (p : Phase) (bytes : List ℕ) (said : List Item) (i : Item) → AreLimits limits → IsAfterHeader p → SoFar limits (in_force p) bytes said → MayStand p i → ItemFits limits i
    → Grown limits i bytes said
next_item limits phase.First bytes said i limited after s may fits = absurd after
next_item limits phase.FirstDeclared bytes said i limited after s may fits = absurd may
next_item limits phase.Between bytes said i limited after s may fits = between limits bytes said i limited s fits
next_item limits phase.Declared bytes said i limited after s may fits = absurd may
next_item limits phase.Ended bytes said i limited after s may fits = absurd may

pub is_after : (i : Item) → IsAfterHeader (phase_after i)
is_after (item.Header at h) = tt
is_after (item.Element e) = tt
is_after item.Footer = tt

-- one item, and then the others
more_items : (said : List Item) (bytes : List ℕ) (i : Item) (more : List Item) → (said ++ read_item (length bytes) i ∷ []) ++ read_items (length (bytes ++ written_item i)) more ≡ said ++ read_items (length bytes) (i ∷ more)
more_items said bytes i more =
    ap (λ n. (said ++ read_item (length bytes) i ∷ []) ++ read_items n more) (length-append bytes (written_item i))
    ∙ append_assoc said (read_item (length bytes) i ∷ []) (read_items (length bytes + length (written_item i)) more)

moved : (limits : Limits) (now : InForce) (bytes others : List ℕ) (said items : List Item) → bytes ≡ others → said ≡ items → SoFar limits now bytes said → SoFar limits now others items
moved limits now bytes others said items same are s = subst (λ l. SoFar limits now l items) same (subst (SoFar limits now bytes) are s)

items_from : (limits : Limits) (p : Phase) (bytes : List ℕ) (said items : List Item) → AreLimits limits → IsAfterHeader p → SoFar limits (in_force p) bytes said → MayFollow p items
    → AllByRecursion (ItemFits limits) items → SoFar limits (now_after (in_force p) items) (bytes ++ written_items items) (said ++ read_items (length bytes) items)
items_from limits p bytes said [] limited after s may fits = moved limits (in_force p) bytes (bytes ++ []) said (said ++ []) (sym (append-nil bytes)) (sym (append-nil said)) s
items_from limits p bytes said (i ∷ more) limited after s may fits =
    let one = next_item limits p bytes said i limited after s may.0 fits.0 in
    let now = now_after (in_force (phase_after i)) more in
    let rest = items_from limits (phase_after i) (bytes ++ written_item i) (said ++ read_item (length bytes) i ∷ []) more limited (is_after i) one may.1 fits.1 in
    moved limits now ((bytes ++ written_item i) ++ written_items more) (bytes ++ written_items (i ∷ more))
    ((said ++ read_item (length bytes) i ∷ []) ++ read_items (length (bytes ++ written_item i)) more) (said ++ read_items (length bytes) (i ∷ more))
    (append_assoc bytes (written_item i) (written_items more)) (more_items said bytes i more) rest

whole_stream : (limits : Limits) (items : List Item) → AreLimits limits → MayFollow phase.First items → AllByRecursion (ItemFits limits) items
    → SoFar limits (now_after at_start items) (written_items items) (read_items 0 items)
whole_stream limits [] limited may fits = started limits
whole_stream limits (i ∷ more) limited may fits =
    let one = first_item limits [] [] i (started limits) may.0 fits.0 in
    let now = now_after (in_force (phase_after i)) more in
    let rest = items_from limits (phase_after i) (written_item i) (read_item 0 i ∷ []) more limited (is_after i) one may.1 fits.1 in
    moved limits now (written_item i ++ written_items more) (written_items (i ∷ more)) (read_item 0 i ∷ read_items (length (written_item i)) more) (read_items 0 (i ∷ more)) refl (more_items [] [] i more) rest

pub items_are_spelled : (limits : Limits) (items : List Item) → limits.attributes < 2 ^ 32 → limits.namespace_bytes < 2 ^ 32 → MayFollow phase.First items → All (ItemFits limits) items
    → IsStream (written_items items) (read_items 0 items)
items_are_spelled limits items few short may fits =
    (now_after at_start items, (whole_stream limits items (record { few = few; short = short }) may (recursion_from_All (ItemFits limits) items fits)).stream)

pub items_are_read : (limits : Limits) (items : List Item) → limits.attributes < 2 ^ 32 → limits.namespace_bytes < 2 ^ 32 → MayFollow phase.First items → All (ItemFits limits) items
    → IsReadAs limits (now_after at_start items) (written_items items) (read_items 0 items)
items_are_read limits items few short may fits =
    let s = whole_stream limits items (record { few = few; short = short }) may (recursion_from_All (ItemFits limits) items fits) in
    stream_read limits (now_after at_start items) (written_items items) (read_items 0 items) s.stream s.within

-- the end of the run
pub run_gives : (limits : Limits) (items : List Item) → limits.attributes < 2 ^ 32 → limits.namespace_bytes < 2 ^ 32 → MayFollow phase.First items → All (ItemFits limits) items
    → ((run (turn (from_start limits) []) (written_items items)).items ≡ read_items 0 items) × ((run (turn (from_start limits) []) (written_items items)).state.fault ≡ None)
    × (part_of (run (turn (from_start limits) []) (written_items items)).state ≡ None)
run_gives limits items few short may fits =
    let r = items_are_read limits items few short may fits in
    (ap (λ (t : Turn). t.items) r.run_is, ap (λ (t : Turn). t.state.fault) r.run_is ∙ r.stands.no_fault, ap (λ (t : Turn). part_of t.state) r.run_is ∙ r.no_part)
