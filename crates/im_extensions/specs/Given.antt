-- What a server and a client ask of a message's payload: ids (XEP-0359) and whether it is private (XEP-0280, section 6).
use Rattle.std.specs.Prelude.{ℕ, Bool, ◌&&◌, List, [], Option, codes, is_some, unwrap_or}
use Rattle.std.specs.Option.{option_and_then}
use Rattle.im_extensions.specs.Ids.{is_stanza_id}
use Rattle.im_jid.specs.Cuts.{bare_of}
use Rattle.im_jid.specs.Normal.{normal}
use Rattle.im_jid.specs.Spellings.{is_form, spells_account}
use Rattle.im_payload.specs.Names.{carbons, stanza_ids}
use Rattle.im_stanza.specs.Stanzas.{attr_named}
use Rattle.xml_trees.specs.Readers.{first_named}
use Rattle.xml_trees.specs.Trees.{Elem, Nodes}

-- the address of the one who gave an id, as it is written, empty where it is absent
abbrev pub giver_of : Elem → List ℕ
giver_of e = unwrap_or (attr_named (codes "by") e) []

-- a `stanza-id`, with or without an id, that a client may take for one that this account gave
abbrev pub is_given_by : List ℕ → Elem → Bool
is_given_by account e = is_stanza_id e && spells_account account (giver_of e)

-- the same of an account's address by RFC 7622 alone: the text before the first `/` has the account's as its normal form
abbrev pub is_read_as_given_by : List ℕ → Elem → Bool
is_read_as_given_by account e = is_stanza_id e && is_form (bare_of account) (normal (bare_of (giver_of e)))

-- the id of the first `origin-id`, where it has one
abbrev pub origin_of : Nodes → Option (List ℕ)
origin_of payload = option_and_then (attr_named (codes "id")) (first_named stanza_ids (codes "origin-id") payload)

-- there is a `private`
abbrev pub is_private : Nodes → Bool
is_private payload = is_some (first_named carbons (codes "private") payload)
