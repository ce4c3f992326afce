-- What is kept of a payload, as it is written.
use Rattle.std.proofs.Common.{◌≡◌, true≢false, ℕ, Bool, true, false, ◌&&◌, eqb, List, [], ◌∷◌, ◌++◌, Option, Some, None, length, ⊎_elim, refl, sym, ap, ◌∙◌, append_assoc, append-nil, arith, codes}
use Rattle.std.proofs.lemmas.Bool.{cases_Bool, eqb-true}
use Rattle.std.specs.Prelude.{◌==◌, cond, is_some}
use Rattle.std.proofs.lemmas.Grind.{flat_map-append}
use Rattle.im_extensions.specs.Given.{is_given_by}
use Rattle.im_forwarding.specs.Parts.{kept_text, says_nothing}
use Rattle.im_forwarding.proofs.PartSteps.{message_in_parts}
use Rattle.im_forwarding.specs.Passed.{id_node, passed_elem, passed_nodes}
use Rattle.im_messages.specs.Ids.{without_ids}
use Rattle.im_stanza.specs.Kinds.{message_type}
use Rattle.im_stanza.specs.Names.{client_ns}
use Rattle.im_stanza.specs.Views.{MessageView}
use Rattle.im_stanza.specs.Written.{attrs_written, message_elem, unless_empty}
use Rattle.xml_tokens.specs.Spelling.{spelled_text, text_byte}
use Rattle.xml_trees.specs.Attributes.{Attribute}
use Rattle.xml_trees.specs.Tidied.{text_node, texts_joined}
use Rattle.xml_trees.specs.Trees.{Elem, Nodes, no_nodes, child, text, joined}
use Rattle.xml_writer.proofs.PartLaws.{nodes_in_parts}
use Rattle.xml_writer.specs.Canon.{has_nothing, written, written_end_tag, written_nodes, written_start_tag}

-- ---- nodes of two lists, one after the other

child_kept : (by : List ℕ) (e : Elem) (given : Bool) (rest more : Nodes) → cond given (joined rest more) (child e (joined rest more)) ≡ joined (cond given rest (child e rest)) more
child_kept by e true rest more = refl
child_kept by e false rest more = refl

pub kept_joined : (by : List ℕ) (front back : Nodes) → without_ids by (joined front back) ≡ joined (without_ids by front) (without_ids by back)
kept_joined by no_nodes back = refl
kept_joined by (child e rest) back =
    ap (λ n. cond (is_given_by by e) n (child e n)) (kept_joined by rest back) ∙ child_kept by e (is_given_by by e) (without_ids by rest) (without_ids by back)
kept_joined by (text t rest) back = ap (text t) (kept_joined by rest back)

pub kept_text_joined : (by : List ℕ) (front back : Nodes) → kept_text by (joined front back) ≡ kept_text by front ++ kept_text by back
kept_text_joined by front back = ap (written_nodes client_ns) (kept_joined by front back) ∙ nodes_in_parts client_ns (without_ids by front) (without_ids by back)

and_assoc : (a b c : Bool) → (a && b) && c ≡ a && (b && c)
and_assoc true b c = refl
and_assoc false b c = refl

says_joined : (front back : Nodes) → says_nothing (joined front back) ≡ says_nothing front && says_nothing back
says_joined no_nodes back = refl
says_joined (child e rest) back = refl
says_joined (text t rest) back = ap (λ b. (length t == 0) && b) (says_joined rest back) ∙ sym (and_assoc (length t == 0) (says_nothing rest) (says_nothing back))

pub kept_says : (by : List ℕ) (front back : Nodes) → says_nothing (without_ids by (joined front back)) ≡ says_nothing (without_ids by front) && says_nothing (without_ids by back)
kept_says by front back = ap says_nothing (kept_joined by front back) ∙ says_joined (without_ids by front) (without_ids by back)

-- ---- texts that adjoin are written as one

spelled_node : (d run : List ℕ) → written_nodes d (text_node run) ≡ spelled_text run
spelled_node d [] = refl
spelled_node d (c ∷ cs) = append-nil (spelled_text (c ∷ cs))

pub joined_written : (d run : List ℕ) (ks : Nodes) → written_nodes d (texts_joined run ks) ≡ spelled_text run ++ written_nodes d ks
joined_written d run no_nodes = spelled_node d run ∙ sym (append-nil (spelled_text run))
joined_written d run (child e rest) =
    nodes_in_parts d (text_node run) (child e (texts_joined [] rest)) ∙ ap (λ l. l ++ (written d e ++ written_nodes d (texts_joined [] rest))) (spelled_node d run)
    ∙ ap (λ l. spelled_text run ++ (written d e ++ l)) (joined_written d [] rest)
joined_written d run (text t rest) =
    joined_written d (run ++ t) rest ∙ ap (λ l. l ++ written_nodes d rest) (flat_map-append text_byte run t) ∙ append_assoc (spelled_text run) (spelled_text t) (written_nodes d rest)

-- what is passed on is written as what is kept, and then the archive's id
pub passed_written : (by : List ℕ) (number : Option ℕ) (payload : Nodes) → written_nodes client_ns (passed_nodes by number payload) ≡ kept_text by payload ++ written_nodes client_ns (id_node by number)
passed_written by number payload =
    nodes_in_parts client_ns (texts_joined [] (without_ids by payload)) (id_node by number)
    ∙ ap (λ l. l ++ written_nodes client_ns (id_node by number)) (joined_written client_ns [] (without_ids by payload))

-- ---- where nothing is inside

pub some_length : {A : Type 0} (x : A) (xs : List A) → (length (x ∷ xs) == 0) ≡ false
some_length x xs =
    ⊎_elim (λ (none : eqb (length (x ∷ xs)) 0 ≡ true). absurd (let zero_is : length (x ∷ xs) ≡ 0 = eqb-true (length (x ∷ xs)) 0 none in omega (arith, zero_is)))
    (λ (some : eqb (length (x ∷ xs)) 0 ≡ false). some)
    (cases_Bool (eqb (length (x ∷ xs)) 0))

empty_both : (run t : List ℕ) → (length (run ++ t) == 0) ≡ (length run == 0) && (length t == 0)
empty_both [] t = refl
empty_both (c ∷ cs) t = some_length c (cs ++ t) ∙ sym (ap (λ b. b && (length t == 0)) (some_length c cs))

nothing_after : (run : List ℕ) (e : Elem) (rest : Nodes) → has_nothing (joined (text_node run) (child e rest)) ≡ (length run == 0) && false
nothing_after [] e rest = refl
nothing_after (c ∷ cs) e rest = sym (ap (λ b. b && false) (some_length c cs))

nothing_in_text : (run : List ℕ) → has_nothing (text_node run) ≡ (length run == 0) && true
nothing_in_text [] = refl
nothing_in_text (c ∷ cs) = sym (ap (λ b. b && true) (some_length c cs))

nothing_joined : (run : List ℕ) (ks : Nodes) → has_nothing (texts_joined run ks) ≡ (length run == 0) && says_nothing ks
nothing_joined run no_nodes = nothing_in_text run
nothing_joined run (child e rest) = nothing_after run e (texts_joined [] rest)
nothing_joined run (text t rest) =
    nothing_joined (run ++ t) rest ∙ ap (λ b. b && says_nothing rest) (empty_both run t) ∙ and_assoc (length run == 0) (length t == 0) (says_nothing rest)

nothing_in_both : (front back : Nodes) → has_nothing (joined front back) ≡ has_nothing front && has_nothing back
nothing_in_both no_nodes back = refl
nothing_in_both (child e rest) back = refl
nothing_in_both (text t rest) back = refl

pub no_number : (by : List ℕ) (payload : Nodes) → has_nothing (passed_nodes by None payload) ≡ says_nothing (without_ids by payload)
no_number by payload = nothing_in_both (texts_joined [] (without_ids by payload)) no_nodes ∙ and_true (has_nothing (texts_joined [] (without_ids by payload))) ∙ nothing_joined [] (without_ids by payload)
  where
    and_true : (b : Bool) → b && true ≡ b
    and_true true = refl
    and_true false = refl

pub with_number : (by : List ℕ) (number : ℕ) (payload : Nodes) → has_nothing (passed_nodes by (Some number) payload) ≡ false
with_number by number payload = nothing_in_both (texts_joined [] (without_ids by payload)) (id_node by (Some number)) ∙ and_false (has_nothing (texts_joined [] (without_ids by payload)))
  where
    and_false : (b : Bool) → b && false ≡ false
    and_false true = refl
    and_false false = refl

pub nothing_is : (ks : Nodes) → has_nothing ks ≡ true → ks ≡ no_nodes
nothing_is no_nodes none = refl
nothing_is (child e rest) none = absurd (let p = none in cc)
nothing_is (text t rest) none = absurd (let p = none in cc)

-- a message is written as one with nothing inside exactly where no number is given and nothing is kept
pub none_given : (by : List ℕ) (number : Option ℕ) (payload : Nodes) → is_some number ≡ false → says_nothing (without_ids by payload) ≡ has_nothing (passed_nodes by number payload)
none_given by None payload none = sym (no_number by payload)
none_given by (Some number) payload none = absurd (true≢false none)

pub some_given : (by : List ℕ) (number : Option ℕ) (payload : Nodes) → is_some number ≡ true → false ≡ has_nothing (passed_nodes by number payload)
some_given by None payload some = absurd (true≢false (sym some))
some_given by (Some number) payload some = sym (with_number by number payload)

-- ---- a message that is passed on

pub nothing_passed : (by : List ℕ) (number : Option ℕ) (m : MessageView) → has_nothing (passed_nodes by number m.payload) ≡ true → passed_elem by number m ≡ message_elem (record m { payload = no_nodes })
nothing_passed by number m none = ap (λ (ks : Nodes). message_elem (record m { payload = ks })) (nothing_is (passed_nodes by number m.payload) none)

-- the attributes of a message
abbrev pub attrs_of : MessageView → List Attribute
attrs_of m = attrs_written m.from (unless_empty m.id) m.to (Some (message_type m.kind)) (unless_empty m.lang)

pub passed_in_parts : (default by : List ℕ) (number : Option ℕ) (m : MessageView) → has_nothing (passed_nodes by number m.payload) ≡ false
    → written default (passed_elem by number m)
    ≡ written_start_tag default client_ns (codes "message") (attrs_of m)
    ++ (kept_text by m.payload ++ (written_nodes client_ns (id_node by number) ++ written_end_tag client_ns (codes "message")))
passed_in_parts default by number m some =
    let start = written_start_tag default client_ns (codes "message") (attrs_of m) in
    let end = written_end_tag client_ns (codes "message") in
    message_in_parts default (attrs_of m) (passed_nodes by number m.payload) some
    ∙ ap (λ l. start ++ (l ++ end)) (passed_written by number m.payload)
    ∙ ap (λ l. start ++ l) (append_assoc (kept_text by m.payload) (written_nodes client_ns (id_node by number)) end)
