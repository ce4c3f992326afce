-- A message's payload, evaluated.
use Rattle.std.proofs.Common.{◌≡◌, ℕ, true, false, List, [], ◌∷◌, Ok, codes, refl}
use Rattle.mam_archive.specs.declared.entry.Body.{Body}
use Rattle.im_extensions.specs.Given.{is_given_by}
use Rattle.im_jid.proofs.PlainParts.{domain_form-plain}
use Rattle.im_jid.proofs.SpellingLaws.{given_ascii, local_key-ascii, own_spelling, read_spelling}
use Rattle.im_jid.specs.Forms.{domain_form}
use Rattle.im_messages.specs.Bodies.{bodies_of}
use Rattle.im_messages.specs.Ids.{without_ids}
use Rattle.im_payload.specs.Names.{stanza_ids}
use Rattle.im_stanza.specs.Names.{client_ns, xml_ns}
use Rattle.xml_trees.specs.Attributes.{attribute}
use Rattle.xml_trees.specs.Trees.{Elem, element, Nodes, no_nodes, child, text}

-- an id given by an account, one without an `id` in another spelling of its address, and one that another account gave
own : Elem
own = element stanza_ids (codes "stanza-id") (attribute [] (codes "by") (codes "a@b") ∷ attribute [] (codes "id") (codes "1") ∷ []) no_nodes

spelled : Elem
spelled = element stanza_ids (codes "stanza-id") (attribute [] (codes "by") (codes "A@b/x") ∷ []) no_nodes

other : Elem
other = element stanza_ids (codes "stanza-id") (attribute [] (codes "by") (codes "c@b") ∷ []) no_nodes

domain_is : domain_form (codes "b") ≡ Ok (codes "b")
domain_is = domain_form-plain (codes "b") refl refl

own_given : is_given_by (codes "a@b") own ≡ true
unfolding own
own_given = own_spelling (codes "a@b") (rw domain_is refl)

spelled_given : is_given_by (codes "a@b") spelled ≡ true
unfolding spelled
spelled_given = read_spelling (codes "a@b") (codes "A@b/x") (rw domain_is refl)

other_kept : is_given_by (codes "a@b") other ≡ false
unfolding other
other_kept = rw (domain_is, local_key-ascii (codes "c") (given_ascii (codes "c") refl), local_key-ascii (codes "a") (given_ascii (codes "a") refl)) refl

own_are_gone : without_ids (codes "a@b") (child own (text (codes "x") (child other (child spelled no_nodes)))) ≡ text (codes "x") (child other no_nodes)
own_are_gone = rw (own_given, other_kept, spelled_given) refl

-- a body in a language with an element in it, one without, and a body of another namespace
czech : Elem
czech = element client_ns (codes "body") (attribute xml_ns (codes "lang") (codes "cs") ∷ []) (text (codes "a") (child other (text (codes "b") no_nodes)))

plain : Elem
plain = element client_ns (codes "body") [] (text (codes "c") no_nodes)

page : Elem
page = element (codes "http://www.w3.org/1999/xhtml") (codes "body") [] (text (codes "d") no_nodes)

spoken : List ℕ → List ℕ → Body
spoken lang said = record { lang = lang; text = said }

two_bodies : bodies_of (child czech (text (codes "x") (child page (child plain no_nodes)))) ≡ spoken (codes "cs") (codes "ab") ∷ spoken [] (codes "c") ∷ []
unfolding other czech plain page spoken
two_bodies = refl
