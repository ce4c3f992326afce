-- What small steps of the server put out on the connections of a device, and what joins the queue of its session.
use Rattle.std.proofs.Common.{◌≡◌, ◌≢◌, ℕ, ◌&&◌, ◌||◌, Bool, true, false, cond, List, [], ◌∷◌, ◌++◌, Option, Some, None, codes, nat_eq, refl, sym, ap, ap₂, subst, ◌∙◌, append_assoc, append-nil, inl, inr}
use Rattle.std.proofs.lemmas.Bool.{and_parts, cases_Bool}
use Rattle.std.specs.Str.{bytes_eq}
use Rattle.base_lemmas.proofs.Bytes.{same-from_bytes_eq}
use Rattle.im_replies.specs.Management.{request_item}
use Rattle.im_replies.specs.Streams.{error_item}
use Rattle.im_replies.specs.declared.conditions.StreamCondition.TheVariants.{ResourceConstraint}
use Rattle.im_stanza.specs.Names.{client_ns}
use Rattle.sim_2_links.proofs.Entries.{other_number, same_number}
use Rattle.sim_2_links.specs.Links.{IsPlaced, LinkKept}
use Rattle.sim_2_links.specs.Stages.{Conn}
use Rattle.sim_2_links.specs.Views.{Row, View, has}
use Rattle.sim_3_images.proofs.ItemsServed.{both_either, nothing_either}
use Rattle.sim_3_images.specs.Puts.{begins_stanza, is_put_as_stanza, puts_on}
use Rattle.sim_3_items.specs.Counted.{IsForClient}
use Rattle.sim_3_items.specs.Frames.{KeepsClient}
use Rattle.sim_4_links_follow.proofs.Shuts.{shuts_at}
use Rattle.sim_4_links_follow.specs.Given.{HasJoined, IsGiven, IsTold, IsToldOn}
use Rattle.srv_state.specs.State.{Out, Put, Shut, Took}
use Rattle.srv_state.specs.Steps.{Act}
use Rattle.srv_state.specs.Words.{is_stanza}
use Rattle.xml_trees.specs.Attributes.{Attribute}
use Rattle.xml_trees.specs.Readers.{is_named}
use Rattle.xml_trees.specs.Trees.{Elem, Nodes, element}
use Rattle.xml_writer.specs.Canon.{canon, spelled_name}
use Rattle.xml_writer.specs.Items.{Closing, ItemOut}

-- ---- how items begin

message_begins : (attrs : List Attribute) (kids : Nodes) → begins_stanza (canon (element client_ns (codes "message") attrs kids)) ≡ true
unfolding spelled_name
message_begins attrs kids = refl

presence_begins : (attrs : List Attribute) (kids : Nodes) → begins_stanza (canon (element client_ns (codes "presence") attrs kids)) ≡ true
unfolding spelled_name
presence_begins attrs kids = refl

iq_begins : (attrs : List Attribute) (kids : Nodes) → begins_stanza (canon (element client_ns (codes "iq") attrs kids)) ≡ true
unfolding spelled_name
iq_begins attrs kids = refl

named_begins : (name : List ℕ) → ((attrs : List Attribute) (kids : Nodes) → begins_stanza (canon (element client_ns name attrs kids)) ≡ true) → (e : Elem) → is_named client_ns name e ≡ true → begins_stanza (canon e) ≡ true
named_begins name begins (element ns other attrs kids) is =
    let both = and_parts (bytes_eq ns client_ns) (bytes_eq other name) is in
    subst (λ n. begins_stanza (canon (element n other attrs kids)) ≡ true) (sym (same-from_bytes_eq ns client_ns both.0))
    (subst (λ m. begins_stanza (canon (element client_ns m attrs kids)) ≡ true) (sym (same-from_bytes_eq other name both.1)) (begins attrs kids))

-- of three the last one
last_of : (a b c : Bool) → a || (b || c) ≡ true → a ≡ false → b ≡ false → c ≡ true
last_of true b c some first second = absurd (let no_way : ⊥ = cc in no_way)
last_of false true c some first second = absurd (let no_way : ⊥ = cc in no_way)
last_of false false c some first second = some

stanza_begins : (e : Elem) → is_stanza e ≡ true → begins_stanza (canon e) ≡ true
stanza_begins e is = elim (cases_Bool (is_named client_ns (codes "message") e)) [
  | inl message ↦ named_begins (codes "message") message_begins e message
  | inr none ↦ elim (cases_Bool (is_named client_ns (codes "presence") e)) [
    | inl presence ↦ named_begins (codes "presence") presence_begins e presence
    | inr neither ↦ named_begins (codes "iq") iq_begins e (last_of (is_named client_ns (codes "message") e) (is_named client_ns (codes "presence") e) (is_named client_ns (codes "iq") e) is none neither)
  ]
]

-- one that the client counts does so as a stanza does
pub client_begins : (z : ItemOut) → IsForClient z → is_put_as_stanza z ≡ true
client_begins z is = ap is_put_as_stanza is.whole ∙ stanza_begins is.elem is.stanza

-- a request, an error of the stream and a footer do not
pub request_begins : is_put_as_stanza request_item ≡ false
unfolding spelled_name
request_begins = refl

error_begins : is_put_as_stanza (error_item ResourceConstraint) ≡ false
unfolding spelled_name
error_begins = refl

footer_begins : is_put_as_stanza Closing ≡ false
footer_begins = refl

-- ---- what is put out

pub puts_joined : (k : ℕ) (outs more : List (Out ItemOut)) → puts_on is_put_as_stanza k (outs ++ more) ≡ puts_on is_put_as_stanza k outs ++ puts_on is_put_as_stanza k more
puts_joined k [] more = refl
puts_joined k (Put j z ∷ outs) more =
    ap (λ l. cond (nat_eq j k && is_put_as_stanza z) (z ∷ []) [] ++ l) (puts_joined k outs more)
    ∙ sym (append_assoc (cond (nat_eq j k && is_put_as_stanza z) (z ∷ []) []) (puts_on is_put_as_stanza k outs) (puts_on is_put_as_stanza k more))
puts_joined k (Shut j ∷ outs) more = puts_joined k outs more
puts_joined k (Took from to origin ∷ outs) more = puts_joined k outs more

-- nothing of it is a stanza on this connection
abbrev pub IsQuiet : ℕ → List (Out ItemOut) → Type 0
IsQuiet k outs = puts_on is_put_as_stanza k outs ≡ []

pub quiet_more : (k : ℕ) (outs more : List (Out ItemOut)) → IsQuiet k more → puts_on is_put_as_stanza k (outs ++ more) ≡ puts_on is_put_as_stanza k outs
quiet_more k outs more quiet = puts_joined k outs more ∙ ap (λ l. puts_on is_put_as_stanza k outs ++ l) quiet ∙ append-nil (puts_on is_put_as_stanza k outs)

never : (b : Bool) (z : ItemOut) → cond (b && false) (z ∷ []) [] ++ [] ≡ []
never true z = refl
never false z = refl

quiet_item : (j k : ℕ) (z : ItemOut) → is_put_as_stanza z ≡ false → IsQuiet k (Put j z ∷ [])
quiet_item j k z other = ap (λ b. cond (nat_eq j k && b) (z ∷ []) [] ++ []) other ∙ never (nat_eq j k) z

pub quiet_elsewhere : (j k : ℕ) (z : ItemOut) → j ≢ k → IsQuiet k (Put j z ∷ [])
quiet_elsewhere j k z apart = ap (λ b. cond (b && is_put_as_stanza z) (z ∷ []) [] ++ []) (other_number j k apart)

pub quiet_request : (j k : ℕ) → IsQuiet k (Put j request_item ∷ [])
quiet_request j k = quiet_item j k request_item request_begins

pub quiet_shuts : (j k : ℕ) → IsQuiet k (shuts_at j (error_item ResourceConstraint ∷ Closing ∷ []))
quiet_shuts j k =
    puts_joined k (Put j (error_item ResourceConstraint) ∷ []) (Put j Closing ∷ Shut j ∷ [])
    ∙ ap₂ (λ a b. a ++ b) (quiet_item j k (error_item ResourceConstraint) error_begins) (quiet_item j k Closing footer_begins)

-- ---- what is given to a device

-- on a connection all of it, where the session is on that one
abbrev pub given_on : ℕ → Option (Row ItemOut) → List ItemOut → List ItemOut
given_on k None given = []
given_on k (Some r) given = cond (has r.on k) given []

pub none_given_on : (k : ℕ) (row : Option (Row ItemOut)) → given_on k row [] ≡ []
none_given_on k None = refl
none_given_on k (Some r) = nothing_either (has r.on k)

abbrev pub PutsOut : View ItemOut → Option (Row ItemOut) → List ItemOut → List (Out ItemOut) → List (Out ItemOut) → Type 0
PutsOut v row given first last = (k : ℕ) (c : Conn ItemOut) → v.conns k ≡ Some c → puts_on is_put_as_stanza k last ≡ puts_on is_put_as_stanza k first ++ given_on k row given

-- and it joined the queue of the session, where that lives on
abbrev pub Joins : Option (Row ItemOut) → List ItemOut → Option (Row ItemOut) → Type 0
Joins None given next = Unit {0}
Joins (Some r) given None = Unit {0}
Joins (Some r) given (Some q) = (q.on ≡ r.on) × (q.queue ≡ r.queue ++ given)

pub record Tells (v : View ItemOut) (given : List ItemOut) (first last : List (Out ItemOut)) (next : Option (Row ItemOut)) : Type 0 where
  pub outs : PutsOut v v.row given first last
  pub joins : Joins v.row given next

-- ---- nothing is given

joins_nothing : (o : Option (Row ItemOut)) → Joins o [] o
joins_nothing None = tt
joins_nothing (Some r) = (refl, sym (append-nil r.queue))

pub quiet_puts : (v : View ItemOut) (first last : List (Out ItemOut)) → ((k : ℕ) (c : Conn ItemOut) → v.conns k ≡ Some c → puts_on is_put_as_stanza k last ≡ puts_on is_put_as_stanza k first) → PutsOut v v.row [] first last
quiet_puts v first last quiet k c is =
    quiet k c is ∙ sym (append-nil (puts_on is_put_as_stanza k first)) ∙ ap (λ l. puts_on is_put_as_stanza k first ++ l) (sym (none_given_on k v.row))

pub still_tells : (v : View ItemOut) (first last : List (Out ItemOut)) → ((k : ℕ) (c : Conn ItemOut) → v.conns k ≡ Some c → puts_on is_put_as_stanza k last ≡ puts_on is_put_as_stanza k first) → Tells v [] first last v.row
still_tells v first last quiet = record { outs = quiet_puts v first last quiet; joins = joins_nothing v.row }

-- ---- a stanza more

-- where the session is parked nothing goes out
pub parked_puts : (v : View ItemOut) (r : Row ItemOut) (given : List ItemOut) (outs : List (Out ItemOut)) → v.row ≡ Some r → r.on ≡ None → PutsOut v v.row given outs outs
parked_puts v r given outs is off k c at =
    sym (append-nil (puts_on is_put_as_stanza k outs)) ∙ ap (λ l. puts_on is_put_as_stanza k outs ++ l) (sym (ap (λ o. given_on k o given) is ∙ ap (λ o. cond (has o k) given []) off))

both_so : (b : Bool) (z : ItemOut) → cond (b && true) (z ∷ []) [] ≡ cond b (z ∷ []) []
both_so true z = refl
both_so false z = refl

-- where it is on a connection it goes out there
pub attached_puts : (v : View ItemOut) (r : Row ItemOut) (j : ℕ) (z : ItemOut) (outs : List (Out ItemOut)) → v.row ≡ Some r → r.on ≡ Some j → is_put_as_stanza z ≡ true → PutsOut v v.row (z ∷ []) outs (outs ++ Put j z ∷ [])
attached_puts v r j z outs is on stanza k c at =
    puts_joined k outs (Put j z ∷ [])
    ∙ ap (λ l. puts_on is_put_as_stanza k outs ++ l)
    (append-nil (cond (nat_eq j k && is_put_as_stanza z) (z ∷ []) []) ∙ ap (λ b. cond (nat_eq j k && b) (z ∷ []) []) stanza ∙ both_so (nat_eq j k) z
    ∙ sym (ap (λ o. given_on k o (z ∷ [])) is ∙ ap (λ o. cond (has o k) (z ∷ []) []) on))

pub then_quiet : (v : View ItemOut) (given : List ItemOut) (first last more : List (Out ItemOut)) → ((k : ℕ) → IsQuiet k more) → PutsOut v v.row given first last → PutsOut v v.row given first (last ++ more)
then_quiet v given first last more quiet puts k c at = quiet_more k last more (quiet k) ∙ puts k c at

pub joins_one : (o : Option (Row ItemOut)) (r : Row ItemOut) (z : ItemOut) → o ≡ Some r → Joins o (z ∷ []) (Some (record r { queue = r.queue ++ z ∷ [] }))
joins_one o r z is = subst (λ p. Joins p (z ∷ []) (Some (record r { queue = r.queue ++ z ∷ [] }))) (sym is) (refl, refl)

pub joins_ended : (o : Option (Row ItemOut)) (given : List ItemOut) → Joins o given None
joins_ended None given = tt
joins_ended (Some r) given = tt

-- ---- one behind the other

pub given_to_none : (acts : List (Act ItemOut)) (given : List ItemOut) (o next : Option (Row ItemOut)) → IsGiven acts given o next → o ≡ None → (given ≡ []) × (next ≡ None)
given_to_none acts given None next is none = is
given_to_none acts given (Some r) next is none = absurd (let no_way : ⊥ = cc in no_way)

pub still_there : (a b : Option (Conn ItemOut)) → KeepsClient a b → (c : Conn ItemOut) → a ≡ Some c → (d : Conn ItemOut) × (b ≡ Some d)
still_there None b keeps c is = absurd (let no_way : ⊥ = cc in no_way)
still_there (Some a) None keeps c is = absurd keeps
still_there (Some a) (Some d) keeps c is = (d, refl)

abbrev EndsWith : Option (Row ItemOut) → List ItemOut → Option (Row ItemOut) → Type 0
EndsWith o given next = o ≡ None → (given ≡ []) × (next ≡ None)

on_both : (k : ℕ) (o p : Option (Row ItemOut)) (some more : List ItemOut) → EndsWith o some p → (p ≡ None → more ≡ []) → Joins o some p → given_on k o some ++ given_on k p more ≡ given_on k o (some ++ more)
on_both k None None some more gone none joins = refl
on_both k None (Some q) some more gone none joins = absurd (let behind = (gone refl).1 in let no_way : ⊥ = cc in no_way)
on_both k (Some r) None some more gone none joins =
    append-nil (cond (has r.on k) some []) ∙ ap (λ l. cond (has r.on k) l []) (sym (append-nil some) ∙ ap (λ l. some ++ l) (sym (none refl)))
on_both k (Some r) (Some q) some more gone none joins = ap (λ o. cond (has r.on k) some [] ++ cond (has o k) more []) joins.0 ∙ both_either (has r.on k) some more

joins_both : (o p q : Option (Row ItemOut)) (some more : List ItemOut) → (p ≡ None → q ≡ None) → Joins o some p → Joins p more q → Joins o (some ++ more) q
joins_both None p q some more ended first rest = tt
joins_both (Some r) p None some more ended first rest = tt
joins_both (Some r) None (Some t) some more ended first rest = absurd (let behind = ended refl in let no_way : ⊥ = cc in no_way)
joins_both (Some r) (Some s) (Some t) some more ended first rest = (rest.0 ∙ first.0, rest.1 ∙ ap (λ l. l ++ more) first.1 ∙ append_assoc r.queue some more)

pub both_tell : (v mid : View ItemOut) (some more : List ItemOut) (first middle last : List (Out ItemOut)) (next : Option (Row ItemOut)) → ((k : ℕ) → KeepsClient (v.conns k) (mid.conns k)) → EndsWith v.row some mid.row → EndsWith mid.row more next
    → Tells v some first middle mid.row → Tells mid more middle last next → Tells v (some ++ more) first last next
both_tell v mid some more first middle last next keeps gone ended one rest = record {
  outs = λ k c is.
      let there = still_there (v.conns k) (mid.conns k) (keeps k) c is in
      rest.outs k there.0 there.1 ∙ ap (λ l. l ++ given_on k mid.row more) (one.outs k c is) ∙ append_assoc (puts_on is_put_as_stanza k first) (given_on k v.row some) (given_on k mid.row more)
      ∙ ap (λ l. puts_on is_put_as_stanza k first ++ l) (on_both k v.row mid.row some more gone (λ none. (ended none).0) one.joins);
  joins = joins_both v.row mid.row next some more (λ none. (ended none).1) one.joins rest.joins;
}

-- ---- what is told of the session

joined_so : (r : Row ItemOut) (given : List ItemOut) (next : Option (Row ItemOut)) → Joins (Some r) given next → HasJoined r given next
joined_so r given None joins = tt
joined_so r given (Some q) joins = joins.1

pub told_from : (v : View ItemOut) (given : List ItemOut) (outs : List (Out ItemOut)) (next : Option (Row ItemOut)) → LinkKept v → Tells v given [] outs next → IsTold v.row outs given next
told_from v given outs next kept tells = go v.row refl
  where
    on : (r : Row ItemOut) → v.row ≡ Some r → (o : Option ℕ) → r.on ≡ o → IsToldOn r o outs given next
    on r is None off = joined_so r given next (subst (λ o. Joins o given next) is tells.joins)
    on r is (Some k) at =
        let there = subst (IsPlaced v.conns r (kept.row r is).session) at (kept.row r is).placed in
        sym (tells.outs k there.0 there.1 ∙ ap (λ o. given_on k o given) is ∙ ap (λ o. cond (has o k) given []) at ∙ ap (λ b. cond b given []) (same_number k))

    go : (o : Option (Row ItemOut)) → v.row ≡ o → IsTold o outs given next
    go None is = tt
    go (Some r) is = on r is r.on refl

-- a row of which more is handled
pub told_alike : (r : Row ItemOut) (handled : ℕ) (outs : List (Out ItemOut)) (given : List ItemOut) (next : Option (Row ItemOut)) → IsTold (Some (record r { handled = handled })) outs given next → IsTold (Some r) outs given next
told_alike r handled outs given next told = by r.on told
  where
    joined : (q : Option (Row ItemOut)) → HasJoined (record r { handled = handled }) given q → HasJoined r given q
    joined None has_joined = tt
    joined (Some q) has_joined = has_joined

    by : (o : Option ℕ) → IsToldOn (record r { handled = handled }) o outs given next → IsToldOn r o outs given next
    by (Some k) is = is
    by None is = joined next is
