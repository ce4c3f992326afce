-- A request for a page is read as a query of the archive.
use Rattle.std.proofs.Common.{◌≡◌, ℕ, ◌^◌, ◌<◌, List, [], ◌∷◌, Option, Some, None, Result, Ok, option_map, codes, decimal, refl, ap, ◌∙◌, arith}
use Rattle.cmd_direct.specs.Direct.{query_after}
use Rattle.im_forwarding.specs.Queries.{query_asked, query_judged}
use Rattle.im_mam.specs.ArchiveQuery.{max_in, position_in}
use Rattle.im_mam.specs.Readings.{mam_query_read, with_field}
use Rattle.im_mam.specs.declared.archive_query.MamQuery.{MamQuery}
use Rattle.mam_pages.specs.declared.query.PagePosition.{PagePosition}
use Rattle.mam_pages.specs.declared.query.PagePosition.TheVariants.{After}
use Rattle.im_payload.proofs.Numbers.{written_number}
use Rattle.im_payload.specs.Shapes.{attr_or_empty, number_below}
use Rattle.im_payload.specs.declared.fault.ExtFault.{ExtFault}
use Rattle.im_payload.specs.declared.fault.Field.TheVariants as field
use Rattle.im_requests.specs.Messages.{page_elem, position_after}
use Rattle.xml_trees.proofs.TidyReads.{text_of-text_node}

-- from the place, the number of entries and the id
abbrev read_with : Option PagePosition → Option (Option ℕ) → List ℕ → Result MamQuery ExtFault
read_with position max queryid =
    with_field position field.PagePosition (λ p. with_field max field.Max (λ m. Ok (record { queryid = queryid; query = record { peer = None; start = None; end = None; position = p; max = m } })))

module _ (queryid : List ℕ) (max : ℕ) (low : max < 2 ^ 32) where
  read_of : (after : Option (List ℕ)) → mam_query_read (page_elem queryid after max)
      ≡ read_with (position_in (page_elem queryid after max)) (max_in (page_elem queryid after max)) (attr_or_empty (codes "queryid") (page_elem queryid after max))
  read_of None = refl
  read_of (Some id) = refl

  position_again : (after : Option (List ℕ)) → position_in (page_elem queryid after max) ≡ Some (position_after after)
  position_again None = refl
  position_again (Some id) = ap (λ t. Some (After t)) (text_of-text_node id)

  number_again : option_map Some (number_below (2 ^ 32) (decimal max)) ≡ Some (Some max)
  number_again = ap (option_map Some) (written_number (2 ^ 32) max (omega arith) low)

  max_again : (after : Option (List ℕ)) → max_in (page_elem queryid after max) ≡ Some (Some max)
  max_again None = ap (λ t. option_map Some (number_below (2 ^ 32) t)) (text_of-text_node (decimal max)) ∙ number_again
  max_again (Some id) = ap (λ t. option_map Some (number_below (2 ^ 32) t)) (text_of-text_node (decimal max)) ∙ number_again

  id_again : (after : Option (List ℕ)) → attr_or_empty (codes "queryid") (page_elem queryid after max) ≡ queryid
  id_again after = in_attrs queryid
    where
      in_attrs : (t : List ℕ) → attr_or_empty (codes "queryid") (page_elem t after max) ≡ t
      in_attrs [] = refl
      in_attrs (c ∷ cs) = refl

  again : (after : Option (List ℕ)) → mam_query_read (page_elem queryid after max) ≡ read_with (Some (position_after after)) (Some (Some max)) queryid
  again after = read_of after ∙ (λ i. read_with (position_again after i) (max_again after i) (id_again after i))

  pub query_read : (after : Option (List ℕ)) → query_asked (page_elem queryid after max) ≡ Ok (record { queryid = queryid; query = query_after after max })
  query_read None = ap query_judged (again None)
  query_read (Some id) = ap query_judged (again (Some id))
