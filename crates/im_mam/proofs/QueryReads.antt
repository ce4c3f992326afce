-- What is read of a query is what the function of its element answers.
use Rattle.std.proofs.Common.{◌≡◌, Bool, true, false, Option, Some, None, is_none, is_some, List, [], ◌∷◌, Result, Ok, Err, IfOk, IfErr, codes, refl, sym, ap, ◌∙◌}
use Rattle.im_mam.specs.ArchiveQuery.{IsMamQuery, has_known_fields, is_for_archive, is_query, max_in, optional_address, optional_moment, position_in, query_checks}
use Rattle.im_mam.specs.DataForms.{field_value, form_of}
use Rattle.im_mam.specs.Readings.{filters_read, if_right, limits_read, mam_query_read, query_with, with_field}
use Rattle.im_mam.specs.ResultSets.{set_child}
use Rattle.im_mam.specs.declared.archive_query.MamQuery.{MamQuery}
use Rattle.im_payload.specs.Checks.{Check, IsFirstWrong, first_wrong}
use Rattle.im_payload.specs.Faults.{IsFault}
use Rattle.im_payload.specs.Readings.{Reads, where_this}
use Rattle.im_payload.specs.declared.fault.ExtFault.{ExtFault}
use Rattle.im_payload.specs.declared.fault.ExtFault.TheVariants.{NotThis, Bad, NoMemory}
use Rattle.im_payload.specs.declared.fault.Field.{Field}
use Rattle.im_payload.specs.declared.fault.Field.TheVariants as field
use Rattle.xml_trees.specs.Trees.{Elem}

-- ---- of a right element the value

this_one : {V : Type 0} (b : Bool) (read : Result V ExtFault) → b ≡ true → where_this b read ≡ read
this_one true read is = refl
this_one false read is = absurd (let p = is in cc)

passes : {V : Type 0} (b : Bool) (f : Field) (read : Result V ExtFault) → b ≡ true → if_right b f read ≡ read
passes true f read is = refl
passes false f read is = absurd (let p = is in cc)

has : {A V : Type 0} (o : Option A) (x : A) (f : Field) (read : A → Result V ExtFault) → o ≡ Some x → with_field o f read ≡ read x
has o x f read is = ap (λ given. with_field given f read) is

limits_right : (e : Elem) (v : MamQuery) → IsMamQuery e v → limits_read e v.query.peer v.query.start v.query.end ≡ Ok v
limits_right e v is =
    has (position_in e) v.query.position _ _ is.limited.position_is
    ∙ has (max_in e) v.query.max _ _ is.limited.max_is
    ∙ passes (is_none (set_child (codes "index") e)) _ _ is.limited.no_index
    ∙ (λ i. Ok (record { queryid = sym is.queryid i; query = v.query }))

query_right : (e : Elem) (v : MamQuery) → IsMamQuery e v → mam_query_read e ≡ Ok v
query_right e v is =
    this_one (is_query e) (filters_read e) is.named
    ∙ passes (is_for_archive (form_of e)) _ _ is.filtered.for_archive
    ∙ passes (has_known_fields (form_of e)) _ _ is.filtered.known
    ∙ has (optional_address (field_value (codes "with") e)) v.query.peer _ _ is.filtered.peer_is
    ∙ has (optional_moment (field_value (codes "start") e)) v.query.start _ _ is.filtered.start_is
    ∙ has (optional_moment (field_value (codes "end") e)) v.query.end _ _ is.filtered.end_is
    ∙ limits_right e v is

-- ---- of another the first field that is wrong

-- the answer is the first field that is wrong, where one is
abbrev Judges : {V : Type 0} → List Check → Result V ExtFault → Type 0
Judges checks read = (f : Field) → first_wrong checks ≡ Some f → read ≡ Err (Bad f)

nothing_wrong : {V : Type 0} (read : Result V ExtFault) → Judges [] read
nothing_wrong read f wrong = absurd (let p = wrong in cc)

abbrev bad : (V : Type 0) → Field → Result V ExtFault
bad V f = Err (Bad f)

wrong_so : {V : Type 0} (g f : Field) → Some g ≡ Some f → bad V g ≡ bad V f
wrong_so {V} g f same = let field : g ≡ f = let p = same in cc in ap (bad V) field

judged_if : {V : Type 0} (b : Bool) (g : Field) (rest : List Check) (read : Result V ExtFault) → Judges rest read → Judges ((b, g) ∷ rest) (if_right b g read)
judged_if true g rest read judges f wrong = judges f wrong
judged_if false g rest read judges f wrong = wrong_so g f wrong

judged_with : {A V : Type 0} (o : Option A) (g : Field) (rest : List Check) (read : A → Result V ExtFault) → ((x : A) → Judges rest (read x)) → Judges ((is_some o, g) ∷ rest) (with_field o g read)
judged_with None g rest read judges f wrong = wrong_so g f wrong
judged_with (Some x) g rest read judges f wrong = judges x f wrong

query_wrong : (e : Elem) → Judges (query_checks e) (filters_read e)
query_wrong e =
    let index = (is_none (set_child (codes "index") e), field.UnknownField) ∷ [] in
    let maxes = (is_some (max_in e), field.Max) ∷ index in
    let positions = (is_some (position_in e), field.PagePosition) ∷ maxes in
    let ends = (is_some (optional_moment (field_value (codes "end") e)), field.End) ∷ positions in
    let starts = (is_some (optional_moment (field_value (codes "start") e)), field.Start) ∷ ends in
    let peers = (is_some (optional_address (field_value (codes "with") e)), field.Peer) ∷ starts in
    let others = (has_known_fields (form_of e), field.UnknownField) ∷ peers in
    judged_if (is_for_archive (form_of e)) field.FormType others _ (judged_if (has_known_fields (form_of e)) field.UnknownField peers _
    (judged_with (optional_address (field_value (codes "with") e)) field.Peer starts _ (λ peer.
    judged_with (optional_moment (field_value (codes "start") e)) field.Start ends _ (λ start.
    judged_with (optional_moment (field_value (codes "end") e)) field.End positions _ (λ end.
    judged_with (position_in e) field.PagePosition maxes _ (λ position. judged_with (max_in e) field.Max index _ (λ max.
    judged_if (is_none (set_child (codes "index") e)) field.UnknownField [] _ (nothing_wrong (Ok (query_with e peer start end position max))))))))))

-- ---- so the relation and the checks say what is read

pub query_reads : (e : Elem) (result : Result MamQuery ExtFault) → IfOk result (λ v. IsMamQuery e v) → IfErr result (IsFault (is_query e) (IsFirstWrong (query_checks e))) → Reads result (mam_query_read e)
query_reads e (Ok v) ok err = query_right e v ok
query_reads e (Err NotThis) ok err = ap (λ b. where_this b (filters_read e)) err
query_reads e (Err (Bad f)) ok err = this_one (is_query e) (filters_read e) err.0 ∙ query_wrong e f err.1
query_reads e (Err NoMemory) ok err = tt
