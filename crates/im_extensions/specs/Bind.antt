-- Resource binding (RFC 6120, section 7).
use Rattle.std.specs.Prelude.{◌≡◌, ℕ, Bool, true, List, [], Option, Some, None, Ok, Err, codes}
use Rattle.im_payload.specs.Names.{binding}
use Rattle.im_payload.specs.Shapes.{child_text, child_text_or_empty}
use Rattle.im_payload.specs.Writing.{text_child, text_child_where}
use Rattle.im_extensions.specs.declared.bind.BindRequest.{BindRequest}
use Rattle.im_extensions.specs.declared.bind.BindResult.{BindResult}
use Rattle.im_payload.specs.declared.fault.Field.{Field}
use Rattle.im_payload.specs.declared.fault.Field.TheVariants.{Jid}
use Rattle.xml_trees.specs.Readers.{is_named}
use Rattle.xml_trees.specs.Trees.{Elem, element}
use Rattle.im_jid.specs.Normal.{normal}
use Rattle.im_jid.specs.declared.fault.JidFault.{JidFault}

abbrev pub is_bind : Elem → Bool
is_bind e = is_named binding (codes "bind") e

-- what a client asks for (sections 7.6 and 7.7): a resource, empty where it leaves the choice to the server
pub record IsBindRequest (e : Elem) (v : BindRequest) : Type 0 where
  pub named : is_bind e ≡ true
  pub resource : v.resource ≡ child_text_or_empty binding (codes "resource") e

abbrev pub bind_request_elem : BindRequest → Elem
bind_request_elem v = element binding (codes "bind") [] (text_child_where binding (codes "resource") v.resource)

-- what the server answers: the address in normal form, which stays as it is, of the text directly in the first child `jid`
pub record IsBindResult (e : Elem) (v : BindResult) : Type 0 where
  pub named : is_bind e ≡ true
  pub spelled : List ℕ
  pub there : child_text binding (codes "jid") e ≡ Some spelled
  pub jid : normal spelled ≡ Ok v.jid
  pub stays : normal v.jid ≡ Ok v.jid

-- there is no such child, or its text is no address
abbrev pub IsNoAddress : Option (List ℕ) → Type 0
IsNoAddress None = Unit {0}
IsNoAddress (Some spelled) = (why : JidFault) × (normal spelled ≡ Err why)

abbrev pub BindResultLacks : Elem → Field → Type 0
BindResultLacks e Jid = IsNoAddress (child_text binding (codes "jid") e)
BindResultLacks e _ = ⊥

abbrev pub bind_result_elem : BindResult → Elem
bind_result_elem v = element binding (codes "bind") [] (text_child binding (codes "jid") v.jid)
