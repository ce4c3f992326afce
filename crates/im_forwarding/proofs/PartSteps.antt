-- Messages as they are written, part by part.
use Rattle.std.proofs.Common.{◌≡◌, ℕ, true, false, Bool, ◌&&◌, List, [], ◌∷◌, ◌++◌, Option, Some, None, length, refl, sym, ap, ◌∙◌, append_assoc, append-nil, codes}
use Rattle.std.specs.Prelude.{◌==◌}
use Rattle.im_extensions.specs.Carbons.{carbon_elem, carbon_name}
use Rattle.im_extensions.specs.Forwarding.{delay_elem, forwarded_elem}
use Rattle.im_payload.specs.Names.{archive, carbons, forwarding}
use Rattle.im_stanza.specs.Names.{client_ns}
use Rattle.xml_trees.specs.Attributes.{Attribute}
use Rattle.xml_trees.specs.Trees.{Elem, element, Nodes, no_nodes, child}
use Rattle.xml_writer.proofs.PartLaws.{in_parts}
use Rattle.xml_writer.specs.Canon.{canon, default_inside, has_nothing, written, written_end_tag, written_nodes, written_start_tag}

pub one_written : (default : List ℕ) (e : Elem) → written_nodes default (child e no_nodes) ≡ written default e
one_written default e = append-nil (written default e)

-- ---- parts one after the other

pub two_parts : (o0 o1 o2 a b : List ℕ) → o1 ≡ o0 ++ a → o2 ≡ o1 ++ b → o2 ≡ o0 ++ (a ++ b)
two_parts o0 o1 o2 a b first second = rw (second, first) (append_assoc o0 a b)

pub three_parts : (o0 o1 o2 o3 a b c : List ℕ) → o1 ≡ o0 ++ a → o2 ≡ o1 ++ b → o3 ≡ o2 ++ c → o3 ≡ o0 ++ (a ++ (b ++ c))
three_parts o0 o1 o2 o3 a b c first second third = two_parts o0 o1 o3 a (b ++ c) first (two_parts o1 o2 o3 b c second third)

pub four_parts : (o0 o1 o2 o3 o4 a b c d : List ℕ) → o1 ≡ o0 ++ a → o2 ≡ o1 ++ b → o3 ≡ o2 ++ c → o4 ≡ o3 ++ d → o4 ≡ o0 ++ (a ++ (b ++ (c ++ d)))
four_parts o0 o1 o2 o3 o4 a b c d first second third fourth = two_parts o0 o1 o4 a (b ++ (c ++ d)) first (three_parts o1 o2 o3 o4 b c d second third fourth)

-- ---- elements in one another

-- an element of a namespace without a prefix around one element
pub around_one : (default ns name : List ℕ) (attrs : List Attribute) (e : Elem) → default_inside default ns ≡ ns
    → written default (element ns name attrs (child e no_nodes)) ≡ written_start_tag default ns name attrs ++ (written ns e ++ written_end_tag ns name)
around_one default ns name attrs e inside =
    in_parts default ns name attrs (child e no_nodes) refl
    ∙ ap (λ d. written_start_tag default ns name attrs ++ (written_nodes d (child e no_nodes) ++ written_end_tag ns name)) inside
    ∙ ap (λ l. written_start_tag default ns name attrs ++ (l ++ written_end_tag ns name)) (one_written ns e)

pub client_inside : (default : List ℕ) → default_inside default client_ns ≡ client_ns
unfolding default_inside
client_inside default = refl

carbons_inside : (default : List ℕ) → default_inside default carbons ≡ carbons
unfolding default_inside
carbons_inside default = refl

archive_inside : (default : List ℕ) → default_inside default archive ≡ archive
unfolding default_inside
archive_inside default = refl

forwarding_inside : (default : List ℕ) → default_inside default forwarding ≡ forwarding
unfolding default_inside
forwarding_inside default = refl

-- a message around one element
pub around_in_message : (attrs : List Attribute) (e : Elem)
    → canon (element client_ns (codes "message") attrs (child e no_nodes)) ≡ written_start_tag client_ns client_ns (codes "message") attrs ++ (written client_ns e ++ written_end_tag client_ns (codes "message"))
around_in_message attrs e = around_one client_ns client_ns (codes "message") attrs e (client_inside client_ns)

-- a message around nodes
pub message_in_parts : (default : List ℕ) (attrs : List Attribute) (kids : Nodes) → has_nothing kids ≡ false
    → written default (element client_ns (codes "message") attrs kids) ≡ written_start_tag default client_ns (codes "message") attrs ++ (written_nodes client_ns kids ++ written_end_tag client_ns (codes "message"))
message_in_parts default attrs kids some =
    in_parts default client_ns (codes "message") attrs kids some
    ∙ ap (λ d. written_start_tag default client_ns (codes "message") attrs ++ (written_nodes d kids ++ written_end_tag client_ns (codes "message"))) (client_inside default)

-- what is forwarded: its start tag with the delay, the message and its end tag
pub forwarded_in_parts : (default stamp : List ℕ) (message : Elem)
    → written default (forwarded_elem stamp message)
    ≡ (written_start_tag default forwarding (codes "forwarded") [] ++ written forwarding (delay_elem stamp)) ++ (written forwarding message ++ written_end_tag forwarding (codes "forwarded"))
forwarded_in_parts default stamp message =
    let start = written_start_tag default forwarding (codes "forwarded") [] in
    let delay = written forwarding (delay_elem stamp) in
    let end = written_end_tag forwarding (codes "forwarded") in
    let inside = child (delay_elem stamp) (child message no_nodes) in
    in_parts default forwarding (codes "forwarded") [] inside refl
    ∙ ap (λ d. start ++ (written_nodes d inside ++ end)) (forwarding_inside default)
    ∙ ap (λ l. start ++ ((delay ++ l) ++ end)) (one_written forwarding message)
    ∙ ap (λ l. start ++ l) (append_assoc delay (written forwarding message) end)
    ∙ sym (append_assoc start delay (written forwarding message ++ end))

-- a `forwarded` in an element of one of these two namespaces: all parts one after the other
pub forwards_in : (ns name stamp : List ℕ) (attrs : List Attribute) (message : Elem) → default_inside client_ns ns ≡ ns
    → written client_ns (element ns name attrs (child (forwarded_elem stamp message) no_nodes))
    ≡ written_start_tag client_ns ns name attrs
    ++ ((written_start_tag ns forwarding (codes "forwarded") [] ++ written forwarding (delay_elem stamp))
    ++ (written forwarding message ++ (written_end_tag forwarding (codes "forwarded") ++ written_end_tag ns name)))
forwards_in ns name stamp attrs message inside =
    let start = written_start_tag client_ns ns name attrs in
    let front = written_start_tag ns forwarding (codes "forwarded") [] ++ written forwarding (delay_elem stamp) in
    let end = written_end_tag forwarding (codes "forwarded") in
    around_one client_ns ns name attrs (forwarded_elem stamp message) inside
    ∙ ap (λ l. start ++ (l ++ written_end_tag ns name)) (forwarded_in_parts ns stamp message)
    ∙ ap (λ l. start ++ l)
    (append_assoc front (written forwarding message ++ end) (written_end_tag ns name) ∙ ap (λ l. front ++ l) (append_assoc (written forwarding message) end (written_end_tag ns name)))

pub five_parts : (o0 o1 o2 o3 o4 o5 a b c d e : List ℕ) → o1 ≡ o0 ++ a → o2 ≡ o1 ++ b → o3 ≡ o2 ++ c → o4 ≡ o3 ++ d → o5 ≡ o4 ++ e → o5 ≡ o0 ++ (a ++ (b ++ (c ++ (d ++ e))))
five_parts o0 o1 o2 o3 o4 o5 a b c d e first second third fourth fifth = two_parts o0 o1 o5 a (b ++ (c ++ (d ++ e))) first (four_parts o1 o2 o3 o4 o5 b c d e second third fourth fifth)

-- a copy's inside, and a result
pub carbon_in_parts : (sent : Bool) (stamp : List ℕ) (message : Elem)
    → written client_ns (carbon_elem sent (forwarded_elem stamp message))
    ≡ written_start_tag client_ns carbons (carbon_name sent) []
    ++ ((written_start_tag carbons forwarding (codes "forwarded") [] ++ written forwarding (delay_elem stamp))
    ++ (written forwarding message ++ (written_end_tag forwarding (codes "forwarded") ++ written_end_tag carbons (carbon_name sent))))
carbon_in_parts sent stamp message = forwards_in carbons (carbon_name sent) stamp [] message (carbons_inside client_ns)

pub result_in_parts : (stamp : List ℕ) (attrs : List Attribute) (message : Elem)
    → written client_ns (element archive (codes "result") attrs (child (forwarded_elem stamp message) no_nodes))
    ≡ written_start_tag client_ns archive (codes "result") attrs
    ++ ((written_start_tag archive forwarding (codes "forwarded") [] ++ written forwarding (delay_elem stamp))
    ++ (written forwarding message ++ (written_end_tag forwarding (codes "forwarded") ++ written_end_tag archive (codes "result"))))
result_in_parts stamp attrs message = forwards_in archive (codes "result") stamp attrs message (archive_inside client_ns)
