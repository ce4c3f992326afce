-- The stanzas with which a session begins, the switch of carbons and the presence, are for the server.
use Rattle.std.proofs.Common.{◌≡◌, true, false, [], None, codes, pos, refl}
use Rattle.srv_state.specs.Words.{is_long}
use Rattle.sim_3_items.specs.Counted.{IsForServer}
use Rattle.im_extensions.specs.Requests.{carbons_switch_elem}
use Rattle.im_requests.specs.Sessions.{available_item, carbons_item, setting_elem}
use Rattle.im_stanza.specs.Written.{presence_elem}
use Rattle.im_stanza.specs.declared.kinds.PresenceKind.TheVariants.{Available}
use Rattle.xml_tokens.specs.Spelling.{text_byte, value_byte}
use Rattle.xml_trees.specs.Trees.{Elem, child, no_nodes}
use Rattle.xml_writer.specs.Canon.{assignment, declared_default, default_inside, spelled_attribute, spelled_name}

abbrev switch : Elem
switch = setting_elem (codes "carbons") (child (carbons_switch_elem (record { on = true })) no_nodes)

abbrev presence : Elem
presence = presence_elem (record { from = None; to = None; id = []; kind = Available; priority = pos 0 })

switch_short : is_long switch ≡ false
unfolding spelled_name declared_default spelled_attribute assignment value_byte text_byte default_inside
switch_short = refl

presence_short : is_long presence ≡ false
unfolding spelled_name declared_default spelled_attribute assignment value_byte text_byte default_inside
presence_short = refl

pub carbons_is : IsForServer carbons_item
carbons_is = record { elem = switch; whole = refl; stanza = refl; short = switch_short; bare = tt; fair = λ t h. refl }

pub available_is : IsForServer available_item
available_is = record { elem = presence; whole = refl; stanza = refl; short = presence_short; bare = tt; fair = λ t h. refl }
