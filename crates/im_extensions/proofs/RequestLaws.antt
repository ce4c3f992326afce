-- Bare elements and the switch of carbons: what is read is exact, and what is written is read back.
use Rattle.std.proofs.Common.{◌≡◌, ◌&&◌, ◌||◌, ℕ, Bool, true, false, cond, List, length, codes, refl, sym, ap, ◌∙◌, arith}
use Rattle.im_payload.proofs.FaultLemmas.{for_memory, nothing_first, nothing_lacks}
use Rattle.im_payload.specs.Bare.{bare}
use Rattle.im_payload.specs.Faults.{IsExact, IsFault, LacksNothing}
use Rattle.im_payload.specs.Names.{carbons}
use Rattle.im_extensions.specs.Requests.{IsCarbonsSwitch, carbons_switch_elem, is_switch, switch_name}
use Rattle.im_payload.specs.declared.fault.ExtFault.{ExtFault}
use Rattle.im_payload.specs.declared.fault.ExtFault.TheVariants.{NoMemory}
use Rattle.xml_trees.specs.Readers.{is_named}
use Rattle.xml_trees.specs.Trees.{Elem, name_of}
use Rattle.im_stanza.proofs.KindLemmas.{equal_bytes, same_bytes}

pub bare_refused : (ns name : List ℕ) (e : Elem) (fault : ExtFault) → is_named ns name e ≡ true → IsFault (is_named ns name e) LacksNothing fault → fault ≡ NoMemory
bare_refused ns name e fault named = for_memory _ _ fault named nothing_lacks

either : (x y : Bool) → (b : Bool) → cond b x y ≡ true → (x || y) ≡ true
either true y b h = refl
either false y true h = absurd (cc h)
either false true b h = refl
either false false false h = absurd (cc h)

named_switch : (e : Elem) (b : Bool) → is_named carbons (switch_name b) e ≡ true → is_switch e ≡ true
named_switch e true h = either (is_named carbons (codes "enable") e) (is_named carbons (codes "disable") e) true h
named_switch e false h = either (is_named carbons (codes "enable") e) (is_named carbons (codes "disable") e) false h

and_right : (x y : Bool) → (x && y) ≡ true → y ≡ true
and_right true y h = h
and_right false y h = absurd (cc h)

named_so : (name : List ℕ) (e : Elem) → is_named carbons name e ≡ true → name_of e ≡ name
named_so name e h = same_bytes (name_of e) name (and_right _ _ h)

-- an element has one name
pub two_names : (e : Elem) → is_named carbons (codes "enable") e ≡ true → is_named carbons (codes "disable") e ≡ true → ⊥
two_names e p q =
    let same : codes "enable" ≡ codes "disable" = sym (named_so (codes "enable") e p) ∙ named_so (codes "disable") e q in
    omega (arith, ap length same)

one_name : (e : Elem) (a b : Bool) → is_named carbons (switch_name a) e ≡ true → is_named carbons (switch_name b) e ≡ true → a ≡ b
one_name e true true p q = refl
one_name e true false p q = absurd (two_names e p q)
one_name e false true p q = absurd (two_names e q p)
one_name e false false p q = refl

switch_again : (b : Bool) → is_named carbons (switch_name b) (carbons_switch_elem (record { on = b })) ≡ true
switch_again true = refl
switch_again false = refl

pub carbons_switch_exact : IsExact is_switch (λ e. LacksNothing) IsCarbonsSwitch carbons_switch_elem
carbons_switch_exact = record {
  one = λ e v w a b i. record { on = one_name e v.on w.on a b i };
  refused = λ e v fault is. for_memory _ _ fault (named_switch e v.on is) nothing_lacks;
  first = λ e. nothing_first;
  read_back = λ e v is. switch_again v.on;
}

pub bare_again : (ns name : List ℕ) → is_named ns name (bare ns name) ≡ true
bare_again ns name = let a = equal_bytes ns ns refl in let b = equal_bytes name name refl in rw (a, b) refl
