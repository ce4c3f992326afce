-- What the server reads of a binding (RFC 6120, section 7), and what it answers.
use Rattle.std.proofs.Common.{◌≡◌, ◌≢◌, ℕ, List, [], ◌∷◌, ◌++◌, None, Ok, codes, refl, ap, ◌∙◌}
use Rattle.std.proofs.lemmas.List.{append-nil}
use Rattle.srv_state.specs.State.{ServerState, full_address, name_of}
use Rattle.srv_state.specs.Words.{is_long, word_of}
use Rattle.srv_state.specs.declared.word.Word.TheVariants as word
use Rattle.sim_3_items.specs.Identities.{Identity, full_of}
use Rattle.sim_3_items.specs.Servers.{IsDeviceServed}
use Rattle.im_extensions.specs.Bind.{bind_request_elem}
use Rattle.im_jid.specs.Forms.{resource_form}
use Rattle.srv_login.specs.Accounts.{bare_text}
use Rattle.im_requests.specs.Sessions.{setting_elem}
use Rattle.srv_handlers.specs.Bindings.{asked_resource, chosen}
use Rattle.im_stanza.specs.Readings.{stanza_of}
use Rattle.im_stanza.specs.Views.{IqView}
use Rattle.im_stanza.specs.declared.kinds.IqKind.TheVariants.{Set}
use Rattle.im_stanza.specs.declared.stanzas.Stanza.TheVariants.{Iq}
use Rattle.xml_trees.specs.Trees.{Elem, child, no_nodes}
use Rattle.xml_writer.specs.Items.{ItemOut}

abbrev pub bind_elem : List ℕ → Elem
bind_elem resource = setting_elem (codes "bind") (child (bind_request_elem (record { resource = resource })) no_nodes)

abbrev pub bind_iq : List ℕ → IqView
bind_iq resource = record { from = None; to = None; id = codes "bind"; kind = Set; payload = child (bind_request_elem (record { resource = resource })) no_nodes }

pub bind_word : (resource : List ℕ) → word_of (bind_elem resource) ≡ word.Stanza (is_long (bind_elem resource)) (stanza_of (bind_elem resource))
unfolding word_of
bind_word resource = refl

pub bind_read : (resource : List ℕ) → stanza_of (bind_elem resource) ≡ Ok (Iq (bind_iq resource))
bind_read resource = refl

pub resource_asked : (resource : List ℕ) → asked_resource (bind_request_elem (record { resource = resource })) ≡ resource
resource_asked [] = refl
resource_asked (b ∷ bs) = append-nil (b ∷ bs)

pub resource_chosen : (number : ℕ) (resource : List ℕ) → resource ≢ [] → resource_form resource ≡ Ok resource → chosen number resource ≡ Ok resource
resource_chosen number [] some form = absurd (some refl)
resource_chosen number (b ∷ bs) some form = form

pub address_is : (who : Identity) (h : ServerState ItemOut) → IsDeviceServed who h → full_address who.account who.resource h ≡ full_of who
address_is who h served =
    ap (λ o. bare_text (name_of o) h.domain ++ 47 ∷ who.resource) served.account ∙ ap (λ d. bare_text who.name d ++ 47 ∷ who.resource) served.domain
