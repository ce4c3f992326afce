-- One output more in the bundles of connections, and one bundle less.
use Rattle.std.proofs.Common.{◌≡◌, ℕ, ◌⊎◌, inl, inr, ⊎_elim, Bool, true, false, true≢false, ◌||◌, List, [], ◌∷◌, ◌++◌, ◌<◌, length, Some, None, append-nil, append_assoc, ap, refl, subst, sym, ◌∙◌, cond, arith}
use Rattle.std.specs.BTreeMap.{BTreeMap, Updates, get}
use Rattle.std.specs.Map.{lookup}
use Rattle.std.specs.Ordering.{nat_cmp}
use Rattle.std.proofs.lemmas.Bool.{cases_eq}
use Rattle.std.proofs.lemmas.List.{map-append}
use Rattle.std.proofs.lemmas.List.Folds.{list_any-append}
use Rattle.srv_state.specs.Seen.{out_of, outs_of}
use Rattle.srv_state.specs.State.{Out, Took, is_number}
use Rattle.srv_state.specs.declared.output.Output.{Output}
use Rattle.net_hub.proofs.Numbers.{other_number, same_number}
use Rattle.net_hub.specs.Bundles.{AreJoined, AreJoinedYet, IsShutFor, bytes_for, bytes_in, is_shut, shut_for, shuts}
use Rattle.net_hub.specs.Puts.{bytes_put, put_for}
use Rattle.net_hub.specs.declared.bundle.Bundle.{Bundle}

put_more : (k : ℕ) (done : List (Out (List ℕ))) (o : Out (List ℕ)) → put_for k (done ++ o ∷ []) ≡ put_for k done ++ bytes_put k o
put_more k [] o = append-nil (bytes_put k o)
put_more k (d ∷ ds) o = ap (λ l. bytes_put k d ++ l) (put_more k ds o) ∙ sym (append_assoc (bytes_put k d) (put_for k ds) (bytes_put k o))

or_false : (b : Bool) → (b || false) ≡ b
or_false true = refl
or_false false = refl

shut_more : (k : ℕ) (done : List (Out (List ℕ))) (o : Out (List ℕ)) → shut_for k (done ++ o ∷ []) ≡ (shut_for k done || shuts k o)
shut_more k done o = list_any-append (shuts k) done (o ∷ []) ∙ ap (λ b. shut_for k done || b) (or_false (shuts k o))

-- an output that is for no connection
pub for_none : (bundles : BTreeMap ℕ Bundle) (from to origin : List ℕ) (outs : List (Out (List ℕ))) → AreJoined bundles outs → AreJoined bundles (outs ++ Took from to origin ∷ [])
for_none bundles from to origin outs are k =
    let o : Out (List ℕ) = Took from to origin in (
      (are k).0 ∙ sym (put_more k outs o ∙ append-nil (put_for k outs)),
      (are k).1 ∙ sym (shut_more k outs o ∙ or_false (shut_for k outs)),
    )

-- at first
pub none_joined : (bundles : BTreeMap ℕ Bundle) (all : List Output) → bundles.entries ≡ [] → AreJoinedYet all all bundles
none_joined bundles all empty = record {
  done = [];
  whole = refl;
  joined = λ k. let none = ap (λ (es : List (ℕ × Bundle)). lookup (is_number k) es) empty in (ap bytes_in none, ap is_shut none);
}

-- the next output
pub joined_next : (all left next : List Output) (o : Output) (old new : BTreeMap ℕ Bundle) → AreJoinedYet all left old → left ≡ o ∷ next
    → ((outs : List (Out (List ℕ))) → AreJoined old outs → AreJoined new (outs ++ out_of o ∷ [])) → AreJoinedYet all next new
joined_next all left next o old new yet is adds = record {
  done = yet.done ++ o ∷ [];
  whole = yet.whole ∙ ap (λ l. yet.done ++ l) is ∙ sym (append_assoc yet.done (o ∷ []) next);
  joined = subst (AreJoined new) (sym (map-append out_of yet.done (o ∷ []))) (adds (outs_of yet.done) yet.joined);
}

pub nothing_left : (left : List Output) → length left ≡ 0 → left ≡ []
nothing_left [] none = refl
nothing_left (o ∷ os) none = absurd (omega (arith, none))

-- and the last
pub all_joined : (all left given : List Output) (bundles : BTreeMap ℕ Bundle) → AreJoinedYet all left bundles → left ≡ [] → all ≡ given → AreJoined bundles (outs_of given)
all_joined all left given bundles yet none is =
    subst (λ os. AreJoined bundles (outs_of os)) (sym (yet.whole ∙ ap (λ l. yet.done ++ l) none ∙ append-nil yet.done) ∙ is) yet.joined

module _ (old new : BTreeMap ℕ Bundle) (conn : ℕ) (b : Bundle) (there : get nat_cmp old conn ≡ Some b) (leaves : Updates nat_cmp old new conn None) where
  -- one bundle leaves, and its bytes are sent
  pub one_less : (done all : ℕ → List ℕ) → ((k : ℕ) → done k ++ bytes_for k old ≡ all k) → (k : ℕ) → (done k ++ cond (is_number k conn) b.bytes.items []) ++ bytes_for k new ≡ all k
  one_less done all are k = ⊎_elim
      (λ (e : k ≡ conn).
      subst (λ j. (done j ++ cond (is_number j conn) b.bytes.items []) ++ bytes_for j new ≡ all j) (sym e)
      (ap (λ o. (done conn ++ cond (is_number conn conn) b.bytes.items []) ++ bytes_in o) leaves.1 ∙ append-nil (done conn ++ cond (is_number conn conn) b.bytes.items [])
      ∙ ap (λ s. done conn ++ cond s b.bytes.items []) (same_number conn conn refl) ∙ ap (λ o. done conn ++ bytes_in o) (sym there) ∙ are conn))
      (λ (e : k ≡ conn → ⊥).
      ap (λ s. (done k ++ cond s b.bytes.items []) ++ bytes_for k new) (other_number k conn e) ∙ ap (λ l. l ++ bytes_for k new) (append-nil (done k))
      ∙ ap (λ o. done k ++ bytes_in o) (leaves.2 k (other_number conn k (λ is. e (sym is)))) ∙ are k)
      (cases_eq k conn)

  -- who is shut by a bundle that is left, or was shut, is so still
  pub shut_or_left : (Was Is : Type 0) (k : ℕ) → (b.shut ≡ true → k ≡ conn → Is) → (Was → Is) → IsShutFor k old ⊎ Was → IsShutFor k new ⊎ Is
  shut_or_left Was Is k shuts stays = ⊎_elim
      (λ (h : IsShutFor k old). ⊎_elim
      (λ (e : k ≡ conn). inr (shuts (sym (ap is_shut there) ∙ ap (λ j. is_shut (get nat_cmp old j)) (sym e) ∙ h) e))
      (λ (e : k ≡ conn → ⊥). inl (ap is_shut (leaves.2 k (other_number conn k (λ is. e (sym is)))) ∙ h))
      (cases_eq k conn))
      (λ (w : Was). inr (stays w))

no_entries : (es : List (ℕ × Bundle)) → (0 < length es → false ≡ true) → es ≡ []
no_entries [] none = refl
no_entries (e ∷ es) none = absurd (true≢false (sym (none (omega arith))))

-- no bundle is left
pub none_left : (left : BTreeMap ℕ Bundle) → (0 < length left.entries → false ≡ true) → (k : ℕ) → get nat_cmp left k ≡ None
none_left left none k = ap (λ (es : List (ℕ × Bundle)). lookup (is_number k) es) (no_entries left.entries none)
