-- Ids that only an archive gives (XEP-0359, section 5).
use Rattle.std.specs.Prelude.{ℕ, List, if◌then◌else◌}
use Rattle.im_extensions.specs.Given.{is_given_by}
use Rattle.xml_trees.specs.Trees.{Nodes, no_nodes, child, text}

-- the payload without the ids that a client may take for ones that the account gave
abbrev pub without_ids : List ℕ → Nodes → Nodes
without_ids account no_nodes = no_nodes
without_ids account (child e rest) = if is_given_by account e then without_ids account rest else child e (without_ids account rest)
without_ids account (text t rest) = text t (without_ids account rest)
