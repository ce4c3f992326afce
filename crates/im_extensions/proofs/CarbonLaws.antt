-- Carbons: what is read is exact, and what is written is a tree and read back.
use Rattle.std.proofs.Common.{◌≡◌, ℕ, ◌≤◌, Bool, true, false, [], Some, refl, sym, ap, ◌∙◌, subst, arith}
use Rattle.im_payload.proofs.CheckLemmas.{right_refused, same_value}
use Rattle.im_extensions.proofs.ForwardingLaws.{forwards_one, forwards_right, inside_again, written_stays}
use Rattle.im_extensions.specs.Carbons.{IsCarbon, WritesCarbon, carbon_checks, carbon_elem, carbon_name, is_carbon, is_sent}
use Rattle.im_payload.specs.Checks.{IsExactBy}
use Rattle.im_extensions.specs.Forwarding.{Forwards, is_forwarded, the_forwarded}
use Rattle.im_payload.specs.Names.{carbons}
use Rattle.im_extensions.specs.declared.carbons.Carbon.{Carbon}
use Rattle.xml_trees.specs.Tidied.{tidied}
use Rattle.xml_trees.specs.Trees.{Elem, IsTree, element, no_nodes, child}

carbon_stays : (v : Carbon) (e : Elem) → WritesCarbon v e → tidied e ≡ e
carbon_stays v e w = ap tidied w.shape ∙ ap (λ f. element carbons (carbon_name v.sent) [] (child f no_nodes)) (written_stays v.forwarded w.forwarded w.forwarded_is) ∙ sym w.shape

pub carbon_tree : (v : Carbon) (e tree : Elem) → WritesCarbon v e → tree ≡ tidied e → WritesCarbon v tree
carbon_tree v e tree w is = subst (WritesCarbon v) (sym (is ∙ carbon_stays v e w)) w

-- the moment of an absent delay is not past the last
zero_low : (n : ℕ) → Some 0 ≡ Some n → n ≤ 253402207200000
zero_low n is = let same : 0 ≡ n = same_value 0 n is in omega (arith, same)

carbon_named : (sent : Bool) (f : Elem) → is_carbon (carbon_elem sent f) ≡ true
carbon_named true f = refl
carbon_named false f = refl

carbon_sent : (sent : Bool) (f : Elem) → sent ≡ is_sent (carbon_elem sent f)
carbon_sent true f = refl
carbon_sent false f = refl

carbon_holds : (sent : Bool) (f : Elem) → is_forwarded f ≡ true → the_forwarded (carbon_elem sent f) ≡ f
carbon_holds sent f named = rw named refl

carbon_back : (e written : Elem) (v : Carbon) → IsTree e → IsCarbon e v → WritesCarbon v written → IsCarbon written v
carbon_back e written v tree is w =
    let named = ap is_forwarded w.forwarded_is.shape in
    let holds = inside_again (Some 0) e w.forwarded v.forwarded zero_low tree is.inside w.forwarded_is in
    subst (λ t. IsCarbon t v) (sym w.shape) (record {
      named = carbon_named v.sent w.forwarded;
      sent = carbon_sent v.sent w.forwarded;
      inside = subst (λ f. Forwards (Some 0) f v.forwarded) (sym (carbon_holds v.sent w.forwarded named)) holds;
    })

pub carbon_exact : IsExactBy is_carbon carbon_checks IsCarbon WritesCarbon
carbon_exact = record {
  one = λ e v w a b i. record { sent = (a.sent ∙ sym b.sent) i; forwarded = forwards_one (Some 0) (the_forwarded e) v.forwarded w.forwarded a.inside b.inside i };
  refused = λ e v fault is. right_refused (is_carbon e) (carbon_checks e) fault is.named (forwards_right (Some 0) (the_forwarded e) v.forwarded is.inside);
  read_back = carbon_back;
}
