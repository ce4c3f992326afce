-- Resource binding: what is read is exact, and what is written is a tree and read back.
use Rattle.std.proofs.Common.{◌≡◌, ℕ, List, [], ◌∷◌, Option, Some, None, Ok, codes, refl, sym, ap, ◌∙◌, append-nil}
use Rattle.im_payload.proofs.FaultLemmas.{for_memory, nothing_first, nothing_lacks, one_field}
use Rattle.im_extensions.specs.Bind.{BindResultLacks, IsBindRequest, IsBindResult, IsNoAddress, bind_request_elem, bind_result_elem, is_bind}
use Rattle.im_payload.specs.Faults.{IsExact, LacksNothing}
use Rattle.im_payload.specs.Names.{binding}
use Rattle.im_payload.specs.Shapes.{child_text, child_text_or_empty}
use Rattle.im_payload.specs.Writing.{text_child, text_child_where}
use Rattle.im_extensions.specs.declared.bind.BindRequest.{BindRequest}
use Rattle.im_extensions.specs.declared.bind.BindResult.{BindResult}
use Rattle.im_payload.specs.declared.fault.Field.{Field}
use Rattle.im_payload.specs.declared.fault.Field.TheVariants.{Jid}
use Rattle.xml_trees.specs.Tidied.{tidied}
use Rattle.xml_trees.specs.Trees.{Elem, element}
use Rattle.im_jid.specs.Normal.{normal}

abbrev request_with : List ℕ → Elem
request_with resource = element binding (codes "bind") [] (text_child_where binding (codes "resource") resource)

request_stays : (resource : List ℕ) → tidied (request_with resource) ≡ request_with resource
request_stays [] = refl
request_stays (c ∷ cs) = refl

pub bind_request_stays : (v : BindRequest) → tidied (bind_request_elem v) ≡ bind_request_elem v
bind_request_stays v = request_stays v.resource

resource_again : (resource : List ℕ) → child_text_or_empty binding (codes "resource") (request_with resource) ≡ resource
resource_again [] = refl
resource_again (c ∷ cs) = append-nil (c ∷ cs)

pub bind_request_exact : IsExact is_bind (λ e. LacksNothing) IsBindRequest bind_request_elem
bind_request_exact = record {
  one = λ e v w a b i. record { resource = (a.resource ∙ sym b.resource) i };
  refused = λ e v fault is. for_memory _ _ fault is.named nothing_lacks;
  first = λ e. nothing_first;
  read_back = λ e v is. record { named = refl; resource = sym (resource_again v.resource) };
}

abbrev result_with : List ℕ → Elem
result_with jid = element binding (codes "bind") [] (text_child binding (codes "jid") jid)

result_stays : (jid : List ℕ) → tidied (result_with jid) ≡ result_with jid
result_stays [] = refl
result_stays (c ∷ cs) = refl

pub bind_result_stays : (v : BindResult) → tidied (bind_result_elem v) ≡ bind_result_elem v
bind_result_stays v = result_stays v.jid

jid_again : (jid : List ℕ) → child_text binding (codes "jid") (result_with jid) ≡ Some jid
jid_again [] = refl
jid_again (c ∷ cs) = ap Some (append-nil (c ∷ cs))

-- two addresses of one text are one
one_address : (a b x y : List ℕ) → Some a ≡ Some b → normal a ≡ Ok x → normal b ≡ Ok y → x ≡ y
one_address a b x y same at_a at_b = let texts : a ≡ b = cc same in let both = sym at_a ∙ ap normal texts ∙ at_b in cc both

jid_alone : (e : Elem) (f : Field) → BindResultLacks e f → f ≡ Jid
jid_alone e Jid lacks = refl
jid_alone e _ lacks = absurd lacks

has_address : (o : Option (List ℕ)) (spelled jid : List ℕ) → o ≡ Some spelled → normal spelled ≡ Ok jid → IsNoAddress o → ⊥
has_address None spelled jid there is none = cc there
has_address (Some text) spelled jid there is none = let texts : text ≡ spelled = cc there in let both = sym none.1 ∙ ap normal texts ∙ is in cc both

result_right : (e : Elem) (v : BindResult) (f : Field) → IsBindResult e v → BindResultLacks e f → ⊥
result_right e v Jid is lacks = has_address (child_text binding (codes "jid") e) is.spelled v.jid is.there is.jid lacks
result_right e v _ is lacks = lacks

pub bind_result_exact : IsExact is_bind BindResultLacks IsBindResult bind_result_elem
bind_result_exact = record {
  one = λ e v w a b i. record { jid = one_address a.spelled b.spelled v.jid w.jid (sym a.there ∙ b.there) a.jid b.jid i };
  refused = λ e v fault is. for_memory _ _ fault is.named (λ f. result_right e v f is);
  first = λ e. one_field _ Jid (jid_alone e);
  read_back = λ e v is. record { named = refl; spelled = v.jid; there = jid_again v.jid; jid = is.stays; stays = is.stays };
}
