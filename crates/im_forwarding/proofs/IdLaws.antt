-- Only an account's archive gives ids in the account's name.
use Rattle.std.proofs.Common.{◌≡◌, ℕ, Bool, true, false, List, [], ◌∷◌, ◌++◌, Option, Some, None, Result, Ok, Err, filter, refl, sym, ap, ◌∙◌, true≢false, inl, inr}
use Rattle.std.proofs.lemmas.Bool.{and_from, and_parts, cases_Bool}
use Rattle.std.proofs.lemmas.List.Elements.{filter-append}
use Rattle.std.proofs.lemmas.Slice.Eq.{bytes_eq-Decides}
use Rattle.std.specs.Prelude.{cond}
use Rattle.mam_archive.specs.Ids.{id_of}
use Rattle.im_extensions.specs.Given.{giver_of, is_given_by, is_read_as_given_by}
use Rattle.im_extensions.specs.Ids.{is_stanza_id, stanza_id_elem}
use Rattle.im_forwarding.specs.Passed.{id_node, passed_nodes}
use Rattle.im_jid.proofs.NormalAgain.{bare_stays}
use Rattle.im_jid.proofs.SpellingLaws.{own_spelling, read_spelling}
use Rattle.im_jid.specs.Cuts.{bare_of}
use Rattle.im_jid.specs.Normal.{normal}
use Rattle.im_jid.specs.Spellings.{is_form}
use Rattle.im_jid.specs.declared.fault.JidFault.{JidFault}
use Rattle.im_messages.specs.Ids.{without_ids}
use Rattle.xml_trees.proofs.TidyReads.{elements_of-joined}
use Rattle.xml_trees.specs.Readers.{elements_of}
use Rattle.xml_trees.specs.Tidied.{text_node, texts_joined}
use Rattle.xml_trees.specs.Trees.{Elem, Nodes, no_nodes, child, text, joined}

-- joining texts leaves the elements
elements_of_text : (run : List ℕ) (more : Nodes) → elements_of (joined (text_node run) more) ≡ elements_of more
elements_of_text [] more = refl
elements_of_text (c ∷ cs) more = refl

no_elements : (run : List ℕ) → elements_of (text_node run) ≡ []
no_elements [] = refl
no_elements (c ∷ cs) = refl

elements_stay : (run : List ℕ) (ks : Nodes) → elements_of (texts_joined run ks) ≡ elements_of ks
elements_stay run no_nodes = no_elements run
elements_stay run (child e rest) = elements_of_text run (child e (texts_joined [] rest)) ∙ ap (λ es. e ∷ es) (elements_stay [] rest)
elements_stay run (text t rest) = elements_stay (run ++ t) rest

-- of what is kept the account gave none
first_kept : (by : List ℕ) (given : Bool) (e : Elem) (kept : Nodes) → is_given_by by e ≡ given → filter (is_given_by by) (elements_of kept) ≡ [] → filter (is_given_by by) (elements_of (cond given kept (child e kept))) ≡ []
first_kept by true e kept is none = none
first_kept by false e kept is none =
    let rest = filter (is_given_by by) (elements_of kept) in
    ap (λ b. cond b (e ∷ rest) rest) is ∙ none

none_kept : (by : List ℕ) (ks : Nodes) → filter (is_given_by by) (elements_of (without_ids by ks)) ≡ []
none_kept by no_nodes = refl
none_kept by (child e rest) = first_kept by (is_given_by by e) e (without_ids by rest) refl (none_kept by rest)
none_kept by (text t rest) = none_kept by rest

same : (by : List ℕ) (number : ℕ) → normal by ≡ Ok by → is_given_by by (stanza_id_elem (record { id = id_of number; by = by })) ≡ true
same by number is = own_spelling by is

id_given : (by : List ℕ) (number : Option ℕ) → normal by ≡ Ok by → filter (is_given_by by) (elements_of (id_node by number)) ≡ elements_of (id_node by number)
id_given by None is = refl
id_given by (Some number) is =
    let id = stanza_id_elem (record { id = id_of number; by = by }) in
    ap (λ b. cond b (id ∷ []) []) (same by number is)

-- what is passed on is what is kept and the archive's id, whatever is asked of an element
split : (asked : Elem → Bool) (by : List ℕ) (number : Option ℕ) (payload : Nodes)
    → filter asked (elements_of (passed_nodes by number payload)) ≡ filter asked (elements_of (without_ids by payload)) ++ filter asked (elements_of (id_node by number))
split asked by number payload =
    let kept = texts_joined [] (without_ids by payload) in
    ap (filter asked) (elements_of-joined kept (id_node by number))
    ∙ filter-append asked (elements_of kept) (elements_of (id_node by number))
    ∙ ap (λ es. filter asked es ++ filter asked (elements_of (id_node by number))) (elements_stay [] (without_ids by payload))

pub only_its_own : (by : List ℕ) (number : Option ℕ) (payload : Nodes) → normal by ≡ Ok by → filter (is_given_by by) (elements_of (passed_nodes by number payload)) ≡ elements_of (id_node by number)
only_its_own by number payload is =
    split (is_given_by by) by number payload
    ∙ ap (λ es. es ++ filter (is_given_by by) (elements_of (id_node by number))) (none_kept by payload)
    ∙ id_given by number is

-- ---- the same by RFC 7622 alone

form_is : (domain : List ℕ) (form : Result (List ℕ) JidFault) → is_form domain form ≡ true → form ≡ Ok domain
form_is domain (Ok given) same = ap Ok ((bytes_eq-Decides given domain).0 same)
form_is domain (Err e) same = cc

-- what reads as an id by the account is taken for one
read_given : (by : List ℕ) (e : Elem) → is_read_as_given_by by e ≡ true → is_given_by by e ≡ true
read_given by e read =
    let parts = and_parts (is_stanza_id e) (is_form (bare_of by) (normal (bare_of (giver_of e)))) read in
    and_from (is_stanza_id e) _ parts.0 (read_spelling by (giver_of e) (form_is (bare_of by) (normal (bare_of (giver_of e))) parts.1))

unread : (by : List ℕ) (e : Elem) → is_given_by by e ≡ false → is_read_as_given_by by e ≡ false
unread by e other = elim (cases_Bool (is_read_as_given_by by e)) [ inl read ↦ absurd (true≢false (sym (read_given by e read) ∙ other)) | inr none ↦ none ]

first_unread : (by : List ℕ) (given : Bool) (e : Elem) (kept : Nodes) → is_given_by by e ≡ given → filter (is_read_as_given_by by) (elements_of kept) ≡ [] → filter (is_read_as_given_by by) (elements_of (cond given kept (child e kept))) ≡ []
first_unread by true e kept is none = none
first_unread by false e kept is none =
    let rest = filter (is_read_as_given_by by) (elements_of kept) in
    ap (λ b. cond b (e ∷ rest) rest) (unread by e is) ∙ none

none_read : (by : List ℕ) (ks : Nodes) → filter (is_read_as_given_by by) (elements_of (without_ids by ks)) ≡ []
none_read by no_nodes = refl
none_read by (child e rest) = first_unread by (is_given_by by e) e (without_ids by rest) refl (none_read by rest)
none_read by (text t rest) = none_read by rest

same_read : (by : List ℕ) (number : ℕ) → normal by ≡ Ok by → is_read_as_given_by by (stanza_id_elem (record { id = id_of number; by = by })) ≡ true
same_read by number is = rw (bare_stays by is) ((bytes_eq-Decides (bare_of by) (bare_of by)).1 refl)

id_read : (by : List ℕ) (number : Option ℕ) → normal by ≡ Ok by → filter (is_read_as_given_by by) (elements_of (id_node by number)) ≡ elements_of (id_node by number)
id_read by None is = refl
id_read by (Some number) is =
    let id = stanza_id_elem (record { id = id_of number; by = by }) in
    ap (λ b. cond b (id ∷ []) []) (same_read by number is)

pub only_its_own_read : (by : List ℕ) (number : Option ℕ) (payload : Nodes) → normal by ≡ Ok by → filter (is_read_as_given_by by) (elements_of (passed_nodes by number payload)) ≡ elements_of (id_node by number)
only_its_own_read by number payload is =
    split (is_read_as_given_by by) by number payload
    ∙ ap (λ es. es ++ filter (is_read_as_given_by by) (elements_of (id_node by number))) (none_read by payload)
    ∙ id_read by number is
