-- The message in which an archive sends what answers a query (XEP-0313, section 4.2).
use Rattle.std.specs.Prelude.{ℕ, List, Some, None, codes}
use Rattle.im_stanza.specs.Names.{client_ns}
use Rattle.im_stanza.specs.Written.{attrs_written}
use Rattle.xml_trees.specs.Trees.{Elem, element, no_nodes, child}

-- From an account's archive to the one that asked, with the archived message alone in it. It has no `type`, no id and no
-- language: those of the archived message stand in that.
abbrev pub archived_elem : List ℕ → List ℕ → Elem → Elem
archived_elem from to result = element client_ns (codes "message") (attrs_written (Some from) None (Some to) None None) (child result no_nodes)
