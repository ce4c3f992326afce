-- What is kept of the message of a result is the entry.
use Rattle.std.proofs.Common.{◌≡◌, ℕ, Bool, true, false, List, [], ◌∷◌, Option, Some, None, filter, map, unwrap_or, codes, refl, sym, ap, ◌∙◌}
use Rattle.mam_archive.specs.Entries.{EntryView}
use Rattle.mam_archive.specs.declared.entry.Body.{Body}
use Rattle.im_extensions.specs.Given.{origin_of}
use Rattle.im_forwarding.specs.Results.{archived_kind, archived_message, body_elem, entry_nodes, origin_node}
use Rattle.im_messages.specs.Bodies.{bodies_of, body_of, is_body}
use Rattle.im_messages.specs.Entries.{entry_of, is_normal}
use Rattle.im_stanza.specs.Written.{unless_empty}
use Rattle.xml_trees.proofs.TidyReads.{text_of-text_node}
use Rattle.xml_trees.specs.Readers.{elements_of}

empty_again : (t : List ℕ) → unwrap_or (unless_empty t) [] ≡ t
empty_again [] = refl
empty_again (c ∷ cs) = refl

kind_again : (normal : Bool) → is_normal (archived_kind normal) ≡ normal
kind_again true = refl
kind_again false = refl

spoken : List ℕ → List ℕ → Body
spoken lang said = record { lang = lang; text = said }

body_again : (lang said : List ℕ) → body_of (body_elem (spoken lang said)) ≡ spoken lang said
unfolding spoken
body_again [] said = ap (λ t. spoken [] t) (text_of-text_node said)
body_again (c ∷ cs) said = ap (λ t. spoken (c ∷ cs) t) (text_of-text_node said)

no_body : (origin : List ℕ) → bodies_of (origin_node origin) ≡ []
no_body [] = refl
no_body (c ∷ cs) = refl

bodies_again : (bodies : List Body) (origin : List ℕ) → bodies_of (entry_nodes bodies origin) ≡ bodies
unfolding spoken
bodies_again [] origin = no_body origin
bodies_again (b ∷ bs) origin = λ i. body_again b.lang b.text i ∷ bodies_again bs origin i

origin_only : (origin : List ℕ) → unwrap_or (origin_of (origin_node origin)) [] ≡ origin
origin_only [] = refl
origin_only (c ∷ cs) = refl

origin_again : (bodies : List Body) (origin : List ℕ) → unwrap_or (origin_of (entry_nodes bodies origin)) [] ≡ origin
origin_again [] origin = origin_only origin
origin_again (b ∷ bs) origin = origin_again bs origin

pub entry_again : (e : EntryView) → entry_of e.number e.stamp (archived_message e) ≡ e
entry_again e i =
    record {
      number = e.number;
      stamp = e.stamp;
      from = empty_again e.from i;
      to = empty_again e.to i;
      normal = kind_again e.normal i;
      id = e.id;
      origin = origin_again e.bodies e.origin i;
      bodies = bodies_again e.bodies e.origin i;
    }
