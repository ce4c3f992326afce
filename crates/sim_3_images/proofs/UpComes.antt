-- What fits into a server's limits comes so as a server of items wants it.
use Rattle.std.proofs.Common.{◌≡◌, ℕ, zero, suc, ◌≤◌, ◌<◌, ◌==◌, Bool, true, false, List, [], ◌∷◌, cond, length, refl, ap, arith, length-append}
use Rattle.std.proofs.lemmas.Bool.{and_from}
use Rattle.std.proofs.lemmas.Bool.Decides.{nat_tests}
use Rattle.std.specs.Int.{byte_at, bytes_high_first}
use Rattle.std.specs.List.{list_all}
use Rattle.std.specs.Prelude.{nat_lt}
use Rattle.xml_framer.specs.Limits.{server_limits}
use Rattle.xml_framer.specs.TagSteps.{tag_limits}
use Rattle.law_xml.specs.Fitting.{Fits, NodesFit, TagFits, TagsFit}
use Rattle.sim_3_items.specs.ItemWorlds.{read_of}
use Rattle.law_limits.proofs.StartKept.{byte_at_small}
use Rattle.law_limits.specs.Keeps.{Comes, IsDrawn, IsShort, stanza_limits}
use Rattle.law_limits.proofs.ElementSizes.{nodes_within, text_of_size, value_and_nodes}
use Rattle.law_limits.proofs.TextSizes.{text_no_longer}
use Rattle.law_limits.specs.Elements.{element_size}
use Rattle.law_limits.specs.Texts.{text_size, value_size}
use Rattle.im_stanza.specs.Names.{client_ns}
use Rattle.xml_tokens.specs.Spelling.{spelled_text, text_byte}
use Rattle.xml_trees.specs.Attributes.{Attribute}
use Rattle.xml_trees.specs.Readers.{text_of}
use Rattle.xml_trees.specs.Trees.{Elem, Nodes, child, element, namespace_of, no_nodes, nodes_of, text}
use Rattle.cmd_world.specs.Worlds.{server_entropy}
use Rattle.xml_writer.specs.Canon.{client_namespace, default_inside}
use Rattle.xml_writer.specs.Items.{Closing, ItemOut, Opening, Whole}
use Rattle.law_xml.specs.Puts.{OutFits}

-- ---- the limits of a stanza are wider

few_wider : (default ns : List ℕ) (attrs : List Attribute) → TagFits (tag_limits server_limits) default ns attrs → TagFits (tag_limits stanza_limits) default ns attrs
few_wider default ns attrs h = let few = h.attributes in record { attributes = omega (arith, few); declared = h.declared; prefixed = h.prefixed }

mutual
  tags_wider : (default : List ℕ) (e : Elem) → TagsFit (tag_limits server_limits) default e → TagsFit (tag_limits stanza_limits) default e
  tags_wider default (element ns name attrs kids) h = (few_wider default ns attrs h.0, nodes_wider (default_inside default ns) kids h.1)

  nodes_wider : (default : List ℕ) (ks : Nodes) → NodesFit (tag_limits server_limits) default ks → NodesFit (tag_limits stanza_limits) default ks
  nodes_wider default no_nodes h = tt
  nodes_wider default (child e rest) h = (tags_wider default e h.0, nodes_wider default rest h.1)
  nodes_wider default (text t rest) h = nodes_wider default rest h

-- ---- texts are no longer than they are written

either_some : (b : Bool) (xs ys : List ℕ) → 1 ≤ length xs → 1 ≤ length ys → 1 ≤ length (cond b xs ys)
either_some true xs ys h k = h
either_some false xs ys h k = k

byte_some : (b : ℕ) → 1 ≤ length (text_byte b)
unfolding text_byte
byte_some b =
    either_some (b == 38) _ _ (omega arith) (either_some (b == 60) _ _ (omega arith) (either_some (b == 62) _ _ (omega arith) (either_some (b == 13) _ _ (omega arith) (omega arith))))

pub text_long : (t : List ℕ) → length t ≤ text_size t
unfolding text_size
text_long [] = omega arith
text_long (b ∷ t) = let first = byte_some b in let rest = text_long t in omega (arith, first, rest, length-append (text_byte b) (spelled_text t))

value_long : (t : List ℕ) → length t ≤ value_size t
value_long t = let some = text_long t in let more = text_no_longer t in omega (arith, some, more)

short_size : (e : Elem) → Fits server_limits e → element_size client_ns e ≤ 65536
unfolding element_size
short_size e h = h.short

is_short : (e : Elem) → Fits server_limits e → IsShort e
is_short e h =
    let most = short_size e h in
    let held = text_of_size (default_inside client_ns (namespace_of e)) (nodes_of e) in
    let inside = nodes_within client_ns e in
    let long = text_long (text_of (nodes_of e)) in
    record {
      attribute = λ name value is.
          let size = value_and_nodes client_ns [] name e value is in
          let some = value_long value in
          omega (arith, most, size, some);
      content = omega (arith, most, held, inside, long);
    }

-- ---- what fits comes

fits_wider : (e : Elem) → Fits server_limits e → Fits stanza_limits e
fits_wider e h = let short = h.short in let shallow = h.shallow in record { short = omega (arith, short); shallow = shallow; tags = tags_wider client_namespace e h.tags }

pub up_comes : (i : ItemOut) → OutFits server_limits i → Comes (read_of i)
up_comes (Opening h) fits = tt
up_comes (Whole e) fits = (fits.1, (λ short. (fits.0, fits.1, fits_wider e fits.2)), is_short e fits.2)
up_comes Closing fits = tt

-- ---- what is drawn for a connection

small_is : (b : ℕ) → b < 256 → nat_lt b 256 ≡ true
small_is b h = grind (arith, nat_tests)

bytes_small : (k n : ℕ) → list_all (λ b. nat_lt b 256) (bytes_high_first k n) ≡ true
bytes_small zero n = refl
bytes_small (suc k) n = and_from _ _ (small_is (byte_at k n) (byte_at_small k n)) (bytes_small k n)

bytes_many : (k n : ℕ) → length (bytes_high_first k n) ≡ k
bytes_many zero n = refl
bytes_many (suc k) n = ap suc (bytes_many k n)

pub drawn : (k : ℕ) → IsDrawn (server_entropy k)
drawn k =
    let many = bytes_many 8 k in
    record { short = omega (arith, many); bytes = bytes_small 8 k }
