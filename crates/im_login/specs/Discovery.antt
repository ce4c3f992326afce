-- The answers of service discovery (XEP-0030, sections 3.1 and 4.1).
use Rattle.std.specs.Prelude.{ℕ, List, [], ◌∷◌, codes}
use Rattle.std.specs.Borrow.{Bor}
use Rattle.im_login.specs.declared.discovery.Identity.{Identity}
use Rattle.im_payload.specs.Names.{archive, carbons, disco_info, disco_items, pings, stanza_ids}
use Rattle.im_stanza.specs.Written.{attr_where, unless_empty}
use Rattle.xml_trees.specs.Attributes.{attribute}
use Rattle.xml_trees.specs.Trees.{Elem, element, Nodes, no_nodes, child, joined}

-- an identity: its category and its type
abbrev pub Told : Type 0
Told = List ℕ × List ℕ

abbrev pub shown : Identity → Told
shown i = (i.category.now, i.kind.now)

abbrev pub word : Bor (List ℕ) → List ℕ
word w = w.now

abbrev pub identity_elem : Told → Elem
identity_elem told = element disco_info (codes "identity") (attribute [] (codes "category") told.0 ∷ attribute [] (codes "type") told.1 ∷ []) no_nodes

abbrev pub feature_elem : List ℕ → Elem
feature_elem namespace = element disco_info (codes "feature") (attribute [] (codes "var") namespace ∷ []) no_nodes

abbrev pub identity_elems : List Told → Nodes
identity_elems [] = no_nodes
identity_elems (told ∷ more) = child (identity_elem told) (identity_elems more)

abbrev pub feature_elems : List (List ℕ) → Nodes
feature_elems [] = no_nodes
feature_elems (namespace ∷ more) = child (feature_elem namespace) (feature_elems more)

-- what an entity is, and then what it can do
abbrev pub disco_info_elem : List Told → List (List ℕ) → Elem
disco_info_elem identities features = element disco_info (codes "query") [] (joined (identity_elems identities) (feature_elems features))

-- that there are no items: of the node that was asked for, which is empty where none was
abbrev pub disco_items_elem : List ℕ → Elem
disco_items_elem node = element disco_items (codes "query") (attr_where [] (codes "node") (unless_empty node)) no_nodes

-- ---- what a server says of itself and of an account

abbrev pub server : Told
server = (codes "server", codes "im")

abbrev pub account : Told
account = (codes "account", codes "registered")

abbrev pub server_features : List (List ℕ)
server_features = disco_info ∷ disco_items ∷ carbons ∷ archive ∷ pings ∷ stanza_ids ∷ []
