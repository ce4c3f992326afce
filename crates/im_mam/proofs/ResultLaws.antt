-- Archived messages: what is read is exact, and what is written is a tree and read back.
use Rattle.std.proofs.Common.{◌≡◌, ℕ, true, List, [], ◌∷◌, Option, Some, None, IsSome, is_some, codes, refl, sym, ap, ◌∙◌, subst}
use Rattle.im_payload.proofs.CheckLemmas.{right_refused, right_value, same_value}
use Rattle.im_extensions.proofs.ForwardingLaws.{forwards_one, forwards_right, inside_again, written_stays}
use Rattle.im_mam.specs.ArchiveAnswers.{IsMamResult, WritesMamResult, is_result, result_checks, result_elem}
use Rattle.im_payload.specs.Names.{archive}
use Rattle.im_payload.specs.Checks.{IsExactBy, IsFirstWrong, first_wrong}
use Rattle.im_payload.specs.Faults.{IsFault}
use Rattle.im_extensions.specs.Forwarding.{Forwards, forward_checks, is_forwarded, the_forwarded}
use Rattle.im_payload.specs.Shapes.{attr_or_empty}
use Rattle.im_stanza.specs.Stanzas.{attr_named}
use Rattle.im_mam.specs.declared.archive_answers.MamResult.{MamResult}
use Rattle.im_payload.specs.declared.fault.ExtFault.{ExtFault}
use Rattle.im_payload.specs.declared.fault.ExtFault.TheVariants.{NotThis, Bad, NoMemory}
use Rattle.im_payload.specs.declared.fault.Field.TheVariants as field
use Rattle.xml_trees.specs.Attributes.{attribute, sorted_attributes}
use Rattle.xml_trees.specs.Tidied.{tidied}
use Rattle.xml_trees.specs.Trees.{Elem, IsTree, element, no_nodes, child}
use Rattle.im_stanza.specs.Written.{attr_where, unless_empty}

attrs_stay : (queryid id : List ℕ) → sorted_attributes (attribute [] (codes "id") id ∷ attr_where [] (codes "queryid") (unless_empty queryid)) ≡ attribute [] (codes "id") id ∷ attr_where [] (codes "queryid") (unless_empty queryid)
attrs_stay [] id = refl
attrs_stay (c ∷ cs) id = refl

result_stays : (v : MamResult) (e : Elem) → WritesMamResult v e → tidied e ≡ e
result_stays v e w =
    ap tidied w.shape ∙ (λ i. element archive (codes "result") (attrs_stay v.queryid v.id i) (child (written_stays v.forwarded w.forwarded w.forwarded_is i) no_nodes)) ∙ sym w.shape

pub result_tree : (v : MamResult) (e tree : Elem) → WritesMamResult v e → tree ≡ tidied e → WritesMamResult v tree
result_tree v e tree w is = subst (WritesMamResult v) (sym (is ∙ result_stays v e w)) w

queryid_again : (queryid id : List ℕ) (f : Elem) → queryid ≡ attr_or_empty (codes "queryid") (result_elem queryid id f)
queryid_again [] id f = refl
queryid_again (c ∷ cs) id f = refl

result_holds : (queryid id : List ℕ) (f : Elem) → is_forwarded f ≡ true → the_forwarded (result_elem queryid id f) ≡ f
result_holds queryid id f named = rw named refl

result_back : (e written : Elem) (v : MamResult) → IsTree e → IsMamResult e v → WritesMamResult v written → IsMamResult written v
result_back e written v tree is w =
    let named = ap is_forwarded w.forwarded_is.shape in
    let holds = inside_again None e w.forwarded v.forwarded (λ n none. absurd (let p = none in cc)) tree is.inside w.forwarded_is in
    subst (λ t. IsMamResult t v) (sym w.shape) (record {
      named = refl;
      queryid = queryid_again v.queryid v.id w.forwarded;
      id = refl;
      inside = subst (λ f. Forwards None f v.forwarded) (sym (result_holds v.queryid v.id w.forwarded named)) holds;
    })

pub result_exact : IsExactBy is_result result_checks IsMamResult WritesMamResult
result_exact = record {
  one = λ e v w a b i. record { queryid = (a.queryid ∙ sym b.queryid) i; id = same_value v.id w.id (sym a.id ∙ b.id) i; forwarded = forwards_one None (the_forwarded e) v.forwarded w.forwarded a.inside b.inside i };
  refused = λ e v fault is. right_refused (is_result e) (result_checks e) fault is.named (right_value (attr_named (codes "id") e) v.id field.Id (forward_checks None (the_forwarded e)) is.id (forwards_right None (the_forwarded e) v.forwarded is.inside));
  read_back = result_back;
}

-- the forwarded message is judged behind the id
pub inside_fault : (e : Elem) (fault : ExtFault) → is_result e ≡ true → IsSome (attr_named (codes "id") e) → IsFault true (IsFirstWrong (forward_checks None (the_forwarded e))) fault → IsFault (is_result e) (IsFirstWrong (result_checks e)) fault
inside_fault e NotThis named there wrong = absurd (let p = wrong in cc)
inside_fault e (Bad f) named there wrong = (named, following (attr_named (codes "id") e) there ∙ wrong.1)
  where
    following : (given : Option (List ℕ)) → IsSome given → first_wrong ((is_some given, field.Id) ∷ forward_checks None (the_forwarded e)) ≡ first_wrong (forward_checks None (the_forwarded e))
    following None there = absurd (let p = there in cc)
    following (Some id) there = refl
inside_fault e NoMemory named there wrong = tt
