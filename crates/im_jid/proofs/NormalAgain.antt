-- What is in normal form stays as it is: its cuts find its parts, and each part is its own normal form.
use Rattle.std.proofs.Common.{◌≡◌, ℕ, ◌+◌, ◌<◌, true, false, not, ◌&&◌, nat_lt, List, [], ◌∷◌, ◌++◌, length, Option, Some, None, Ok, Err, Result, IsAscii, IsUtf8, refl, sym, ap, subst, ◌∙◌, inl, inr, append_assoc, length-append, arith, ltb-true, eqb-true, lit<, get_or}
use Rattle.std.specs.Char.{is_ascii_uppercase}
use Rattle.std.specs.List.{list_all, list_any, AllPass}
use Rattle.std.specs.Prelude.{IfSome}
use Rattle.std.specs.Result.{IsErr, IsErrAnd}
use Rattle.std.proofs.lemmas.Bool.{cases_Bool, and_from, and_parts, or_parts, not_from_false}
use Rattle.std.proofs.lemmas.List.{append-nil}
use Rattle.std.proofs.lemmas.List.Folds.{list_any-append}
use Rattle.std.proofs.lemmas.List.Sums.{AllPass-from_list_all, passes_at_first}
use Rattle.std.proofs.lemmas.Result.{err_from_is_err_and}
use Rattle.std.proofs.lemmas.Str.{IsUtf8-nil, IsUtf8-append, IsUtf8-from_ascii, IsUtf8-drop, IsCharBoundary-after_ascii}
use Rattle.std.proofs.lemmas.Str.Ascii.{IsAscii-nil, IsAscii-cons}
use Rattle.im_jid.specs.declared.fault.JidFault.{JidFault}
use Rattle.im_jid.specs.declared.fault.JidFault.TheVariants.{Empty, BadLocal, BadDomain, BadResource, TooLong, NoMemory}
use Rattle.im_jid.specs.Answers.{Answers, Appends}
use Rattle.im_jid.specs.Cuts.{is_slash, bare_len, bare_of, resource_of, domain_start, local_of_bare, domain_of_bare, local_of, domain_of}
use Rattle.im_jid.specs.Forms.{is_local_byte, local_form, domain_form, resource_form}
use Rattle.im_jid.specs.Indexed.{IsIndexed}
use Rattle.im_jid.specs.Normal.{joined, followed_by_at, after_slash, local_front, resource_back, normal, IsPartLength, IsAddress, local_text, resource_text, address_text as whole, AreNormalParts, IsJoined}
use Rattle.im_jid.proofs.CutLemmas.{before_first_uncut, cut_full, cut_bare, cut_local, cut_domain}
use Rattle.im_jid.proofs.TextCuts.{bare_size}
use Rattle.im_jid.proofs.PartForms.{resource_form_utf8, IsLocalForm, local_form_ok, local_form_again, local_uncut, local_ascii, IsDomainForm, domain_form_ok, domain_form_again, domain_uncut, domain_ascii, IsResourceForm, resource_form_ok, resource_form_again}

-- the parts of a text, each in normal form
record AreParts (local : Option (List ℕ)) (domain : List ℕ) (resource : Option (List ℕ)) : Type 0 where
  local_form : IfSome local IsLocalForm
  domain_form : IsDomainForm domain
  resource_form : IfSome resource IsResourceForm

-- ---- the bare text

pub record IsBareCut (local : Option (List ℕ)) (domain : List ℕ) : Type 0 where
  pub uncut : list_any is_slash (local_text local ++ domain) ≡ false
  pub start : domain_start (local_text local ++ domain) ≡ length (local_text local)
  pub front : local_of_bare (local_text local ++ domain) ≡ local
  pub back : domain_of_bare (local_text local ++ domain) ≡ domain

pub bare_cut : (local : Option (List ℕ)) (domain : List ℕ) → IfSome local IsLocalForm → IsDomainForm domain → IsBareCut local domain
bare_cut None domain l d =
    let none = domain_uncut domain d in
    let cut = cut_domain domain none.1 in
    record { uncut = none.0; start = cut.start; front = cut.front; back = cut.back }
bare_cut (Some part) domain l d =
    let none = local_uncut part l.valid in
    let cut = cut_local part domain none.1 in
    let same : part ++ 64 ∷ [] ++ domain ≡ part ++ 64 ∷ domain = append_assoc part (64 ∷ []) domain in
    record {
      uncut = rw (same, list_any-append, none.0) (domain_uncut domain d).0;
      start = rw same (cut.start ∙ sym (length-append part (64 ∷ [])));
      front = rw same cut.front;
      back = rw same cut.back;
    }

-- ---- the whole text

record IsWholeCut (local : Option (List ℕ)) (domain : List ℕ) (resource : Option (List ℕ)) : Type 0 where
  len : bare_len (whole local domain resource) ≡ length (local_text local ++ domain)
  front : bare_of (whole local domain resource) ≡ local_text local ++ domain
  back : resource_of (whole local domain resource) ≡ resource

whole_cut : (local : Option (List ℕ)) (domain : List ℕ) (resource : Option (List ℕ)) → list_any is_slash (local_text local ++ domain) ≡ false → IsWholeCut local domain resource
whole_cut local domain None uncut =
    let same = append-nil (local_text local ++ domain) in
    let cut = cut_bare (local_text local ++ domain) uncut in
    record { len = rw same cut.len; front = rw same cut.front; back = rw same cut.back }
whole_cut local domain (Some part) uncut =
    let cut = cut_full (local_text local ++ domain) part uncut in
    record { len = cut.len; front = cut.front; back = cut.back }

local_again : (local : Option (List ℕ)) → IfSome local IsLocalForm → local_front local ≡ Ok (local_text local)
local_again None h = refl
local_again (Some part) h = rw (local_form_again part h) refl

resource_again : (resource : Option (List ℕ)) → IfSome resource IsResourceForm → resource_back resource ≡ Ok (resource_text resource)
resource_again None h = refl
resource_again (Some part) h = rw (resource_form_again part h) refl

whole_again : (local : Option (List ℕ)) (domain : List ℕ) (resource : Option (List ℕ)) → AreParts local domain resource → normal (whole local domain resource) ≡ Ok (whole local domain resource)
whole_again local domain resource h =
    let bare = bare_cut local domain h.local_form h.domain_form in
    let cut = whole_cut local domain resource bare.uncut in
    rw (cut.front, cut.back, bare.front, bare.back, local_again local h.local_form, domain_form_again domain h.domain_form, resource_again resource h.resource_form) refl

-- ---- where a normal form comes from

-- a normal form, as the texts of its parts
pub record IsFrom (text out : List ℕ) : Type 0 where
  pub local : List ℕ
  pub domain : List ℕ
  pub resource : List ℕ
  pub local_is : local_front (local_of text) ≡ Ok local
  pub domain_is : domain_form (domain_of text) ≡ Ok domain
  pub resource_is : resource_back (resource_of text) ≡ Ok resource
  pub joined_is : local ++ domain ++ resource ≡ out

pub joined_from : (text out : List ℕ) (local domain resource : Result (List ℕ) JidFault) → local_front (local_of text) ≡ local → domain_form (domain_of text) ≡ domain → resource_back (resource_of text) ≡ resource → joined local domain resource ≡ Ok out → IsFrom text out
joined_from text out (Err e) domain resource l d r is = cc
joined_from text out (Ok local) (Err e) resource l d r is = cc
joined_from text out (Ok local) (Ok domain) (Err e) l d r is = cc
joined_from text out (Ok local) (Ok domain) (Ok resource) l d r is =
    record { local = local; domain = domain; resource = resource; local_is = l; domain_is = d; resource_is = r; joined_is = cc }

-- a local part in normal form with its `@`, or nothing
record IsLocalText (text : List ℕ) : Type 0 where
  part : Option (List ℕ)
  form : IfSome part IsLocalForm
  is : local_text part ≡ text

record IsResourceText (text : List ℕ) : Type 0 where
  part : Option (List ℕ)
  form : IfSome part IsResourceForm
  is : resource_text part ≡ text

followed_from : (given out : List ℕ) (form : Result (List ℕ) JidFault) → local_form given ≡ form → followed_by_at form ≡ Ok out → IsLocalText out
followed_from given out (Err e) f is = cc
followed_from given out (Ok part) f is = record { part = Some part; form = local_form_ok given part f; is = cc }

local_text_from : (given : Option (List ℕ)) (out : List ℕ) → local_front given ≡ Ok out → IsLocalText out
local_text_from None out is = record { part = None; form = tt; is = cc }
local_text_from (Some given) out is = followed_from given out (local_form given) refl is

after_from : (given out : List ℕ) (form : Result (List ℕ) JidFault) → IsUtf8 given → resource_form given ≡ form → after_slash form ≡ Ok out → IsResourceText out
after_from given out (Err e) utf8 f is = cc
after_from given out (Ok part) utf8 f is = record { part = Some part; form = resource_form_ok given part utf8 f; is = cc }

resource_text_from : (given : Option (List ℕ)) (out : List ℕ) → IfSome given IsUtf8 → resource_back given ≡ Ok out → IsResourceText out
resource_text_from None out utf8 is = record { part = None; form = tt; is = cc }
resource_text_from (Some given) out utf8 is = after_from given out (resource_form given) utf8 refl is

-- what stands behind the first `/` of a text is a text
resource_utf8 : (text : List ℕ) → IsUtf8 text → IfSome (resource_of text) IsUtf8
resource_utf8 text utf8 =
    elim (cases_Bool (nat_lt (bare_len text) (length text))) [
      | inl there ↦
          let lt : bare_len text < length text = ltb-true _ _ there in
          let slash : get_or text (bare_len text) 0 ≡ 47 = eqb-true _ _ (passes_at_first is_slash text 0 lt) in
          let cut = IsCharBoundary-after_ascii text (bare_len text) utf8 lt (omega arith) in
          rw there (IsUtf8-drop text (bare_len text + 1) utf8 cut)
      | inr none ↦ rw none tt
    ]

-- a text whose parts are in normal form
record IsWhole (out : List ℕ) : Type 0 where
  local : Option (List ℕ)
  domain : List ℕ
  resource : Option (List ℕ)
  parts : AreParts local domain resource
  is : whole local domain resource ≡ out

whole_from : (text out : List ℕ) → IsUtf8 text → IsFrom text out → IsWhole out
whole_from text out utf8 h =
    let l = local_text_from (local_of text) h.local h.local_is in
    let r = resource_text_from (resource_of text) h.resource (resource_utf8 text utf8) h.resource_is in
    record {
      local = l.part;
      domain = h.domain;
      resource = r.part;
      parts = record { local_form = l.form; domain_form = domain_form_ok (domain_of text) h.domain h.domain_is; resource_form = r.form };
      is = rw (l.is, r.is) h.joined_is;
    }

is_whole : (text out : List ℕ) → IsUtf8 text → normal text ≡ Ok out → IsWhole out
is_whole text out utf8 is = whole_from text out utf8 (joined_from text out _ _ _ refl refl refl is)

pub normal_again : (text out : List ℕ) → IsUtf8 text → normal text ≡ Ok out → normal out ≡ Ok out
normal_again text out utf8 is =
    let h = is_whole text out utf8 is in subst (λ t. normal t ≡ Ok t) h.is (whole_again h.local h.domain h.resource h.parts)

bare_again : (local : Option (List ℕ)) (domain : List ℕ) (resource : Option (List ℕ)) → AreParts local domain resource → normal (bare_of (whole local domain resource)) ≡ Ok (bare_of (whole local domain resource))
bare_again local domain resource h =
    let bare = bare_cut local domain h.local_form h.domain_form in
    let cut = whole_cut local domain resource bare.uncut in
    let same : whole local domain None ≡ bare_of (whole local domain resource) = append-nil (local_text local ++ domain) ∙ sym cut.front in
    subst (λ t. normal t ≡ Ok t) same
    (whole_again local domain None (record { local_form = h.local_form; domain_form = h.domain_form; resource_form = tt }))

pub normal_bare : (text out : List ℕ) → IsUtf8 text → normal text ≡ Ok out → normal (bare_of out) ≡ Ok (bare_of out)
normal_bare text out utf8 is =
    let h = is_whole text out utf8 is in
    subst (λ t. normal (bare_of t) ≡ Ok (bare_of t)) h.is (bare_again h.local h.domain h.resource h.parts)

at_ascii : IsAscii (64 ∷ [])
at_ascii = IsAscii-cons 64 [] (lit< tt) IsAscii-nil

slash_ascii : IsAscii (47 ∷ [])
slash_ascii = IsAscii-cons 47 [] (lit< tt) IsAscii-nil

local_utf8 : (local : Option (List ℕ)) → IfSome local IsLocalForm → IsUtf8 (local_text local)
local_utf8 None h = IsUtf8-nil
local_utf8 (Some part) h = IsUtf8-append part (64 ∷ []) (IsUtf8-from_ascii part (local_ascii part h)) (IsUtf8-from_ascii (64 ∷ []) at_ascii)

resource_text_utf8 : (resource : Option (List ℕ)) → IfSome resource IsResourceForm → IsUtf8 (resource_text resource)
resource_text_utf8 None h = IsUtf8-nil
resource_text_utf8 (Some part) h = IsUtf8-append (47 ∷ []) part (IsUtf8-from_ascii (47 ∷ []) slash_ascii) h.utf8

whole_utf8 : (local : Option (List ℕ)) (domain : List ℕ) (resource : Option (List ℕ)) → AreParts local domain resource → IsUtf8 (whole local domain resource)
whole_utf8 local domain resource h =
    IsUtf8-append (local_text local ++ domain) (resource_text resource)
    (IsUtf8-append (local_text local) domain (local_utf8 local h.local_form) (IsUtf8-from_ascii domain (domain_ascii domain h.domain_form)))
    (resource_text_utf8 resource h.resource_form)

pub normal_utf8 : (text out : List ℕ) → IsUtf8 text → normal text ≡ Ok out → IsUtf8 out
normal_utf8 text out utf8 is =
    let h = is_whole text out utf8 is in subst IsUtf8 h.is (whole_utf8 h.local h.domain h.resource h.parts)

local_size : (local : Option (List ℕ)) → IfSome local IsLocalForm → IfSome local IsPartLength
local_size None h = tt
local_size (Some part) h = h.size

resource_size : (resource : Option (List ℕ)) → IfSome resource IsResourceForm → IfSome resource IsPartLength
resource_size None h = tt
resource_size (Some part) h = h.size

lower_bytes : (part : List ℕ) → list_all is_local_byte part ≡ true → list_any is_ascii_uppercase part ≡ false → list_all (λ b. is_local_byte b && not (is_ascii_uppercase b)) part ≡ true
lower_bytes [] valid lower = refl
lower_bytes (b ∷ part) valid lower =
    let v = and_parts (is_local_byte b) (list_all is_local_byte part) valid in
    let l = or_parts (is_ascii_uppercase b) (list_any is_ascii_uppercase part) lower in
    and_from _ _ (and_from _ _ v.0 (not_from_false _ l.0)) (lower_bytes part v.1 l.1)

local_lower : (local : Option (List ℕ)) → IfSome local IsLocalForm → IfSome local (AllPass (λ b. is_local_byte b && not (is_ascii_uppercase b)))
local_lower None h = tt
local_lower (Some part) h = AllPass-from_list_all _ part (lower_bytes part h.valid h.lower)

whole_address : (local : Option (List ℕ)) (domain : List ℕ) (resource : Option (List ℕ)) → AreParts local domain resource → IsAddress (whole local domain resource)
whole_address local domain resource h =
    let bare = bare_cut local domain h.local_form h.domain_form in
    let cut = whole_cut local domain resource bare.uncut in
    record {
      domain = rw (cut.front, bare.back) h.domain_form.size;
      local = rw (cut.front, bare.front) (local_size local h.local_form);
      lower_local = rw (cut.front, bare.front) (local_lower local h.local_form);
      resource = rw cut.back (resource_size resource h.resource_form);
    }

pub normal_address : (text out : List ℕ) → IsUtf8 text → normal text ≡ Ok out → IsAddress out
normal_address text out utf8 is =
    let h = is_whole text out utf8 is in subst IsAddress h.is (whole_address h.local h.domain h.resource h.parts)

-- ---- what `parse` keeps

pub normal_from : (text local domain resource : List ℕ) → local_front (local_of text) ≡ Ok local → domain_form (domain_of text) ≡ Ok domain → resource_back (resource_of text) ≡ Ok resource → normal text ≡ Ok (local ++ domain ++ resource)
normal_from text local domain resource l d r = rw (l, d, r) refl

indexed_whole : (text local domain resource : List ℕ) → IsUtf8 text → local_front (local_of text) ≡ Ok local → domain_form (domain_of text) ≡ Ok domain → resource_back (resource_of text) ≡ Ok resource → IsIndexed (local ++ domain ++ resource) (length local) (length (local ++ domain))
indexed_whole text local domain resource utf8 l d r =
    let again = normal_again text (local ++ domain ++ resource) utf8 (normal_from text local domain resource l d r) in
    let left = local_text_from (local_of text) local l in
    let right = resource_text_from (resource_of text) resource (resource_utf8 text utf8) r in
    let bare = bare_cut left.part domain left.form (domain_form_ok (domain_of text) domain d) in
    let cut = whole_cut left.part domain right.part bare.uncut in
    let front : bare_of (local ++ domain ++ resource) ≡ local ++ domain =
    rw (← left.is, ← right.is) cut.front in
    record {
      normal_form = again;
      domain = rw (front, ← left.is) (sym bare.start);
      bare = rw (← left.is, ← right.is) (sym cut.len);
    }

pub indexed_from : (text local domain resource out : List ℕ) (domain_at bare_end : ℕ) → IsUtf8 text → local_front (local_of text) ≡ Ok local → domain_form (domain_of text) ≡ Ok domain → resource_back (resource_of text) ≡ Ok resource → out ≡ local ++ domain ++ resource → domain_at ≡ length local → bare_end ≡ length (local ++ domain) → IsIndexed out domain_at bare_end
indexed_from text local domain resource out domain_at bare_end utf8 l d r whole starts ends =
    rw (whole, starts, ends) (indexed_whole text local domain resource utf8 l d r)

-- ---- parts that are put together

local_parts : (local : Option (List ℕ)) → IfSome local (λ part. local_form part ≡ Ok part) → IfSome local IsLocalForm
local_parts None h = h
local_parts (Some part) h = local_form_ok part part h

resource_parts : (resource : Option (List ℕ)) → IfSome resource (λ part. resource_form part ≡ Ok part) → IfSome resource IsResourceForm
resource_parts None h = h
resource_parts (Some part) h = resource_form_ok part part (resource_form_utf8 part part h) h

pub are_joined : (local : Option (List ℕ)) (domain : List ℕ) (resource : Option (List ℕ)) → AreNormalParts local domain resource → IsJoined local domain resource
are_joined local domain resource h =
    let parts : AreParts local domain resource =
    record { local_form = local_parts local h.local_stays; domain_form = domain_form_ok domain domain h.domain_stays; resource_form = resource_parts resource h.resource_stays } in
    let bare = bare_cut local domain parts.local_form parts.domain_form in
    let cut = whole_cut local domain resource bare.uncut in
    record {
      normal_form = whole_again local domain resource parts;
      local_is = rw cut.front bare.front;
      domain_is = rw cut.front bare.back;
      resource_is = cut.back;
      bare_is = cut.front;
    }

-- ---- a bare address, and one with a resource

resource_back_utf8 : (given : Option (List ℕ)) (out : List ℕ) → resource_back given ≡ Ok out → IsUtf8 out
resource_back_utf8 None out is =
    let same : [] ≡ out = cc in subst IsUtf8 same IsUtf8-nil
resource_back_utf8 (Some given) out is = by_form (resource_form given) refl is
  where
    by_form : (form : Result (List ℕ) JidFault) → resource_form given ≡ form → after_slash form ≡ Ok out → IsUtf8 out
    by_form (Err e) f is' = cc
    by_form (Ok part) f is' =
        let same : 47 ∷ part ≡ out = cc in
        subst IsUtf8 same (IsUtf8-append (47 ∷ []) part (IsUtf8-from_ascii (47 ∷ []) slash_ascii) (resource_form_utf8 given part f))

-- a normal form is UTF-8
pub normal_is_utf8 : (text out : List ℕ) → normal text ≡ Ok out → IsUtf8 out
normal_is_utf8 text out is =
    let h = joined_from text out _ _ _ refl refl refl is in
    let l = local_text_from (local_of text) h.local h.local_is in
    let domain = IsUtf8-from_ascii h.domain (domain_ascii h.domain (domain_form_ok (domain_of text) h.domain h.domain_is)) in
    let local = subst IsUtf8 l.is (local_utf8 l.part l.form) in
    subst IsUtf8 h.joined_is
    (IsUtf8-append (h.local ++ h.domain) h.resource (IsUtf8-append h.local h.domain local domain) (resource_back_utf8 (resource_of text) h.resource h.resource_is))

pub bare_stays : (text : List ℕ) → normal text ≡ Ok text → normal (bare_of text) ≡ Ok (bare_of text)
bare_stays text is = normal_bare text text (normal_is_utf8 text text is) is

pub indexed_bare : (text : List ℕ) (domain_at bare_end : ℕ) → IsIndexed text domain_at bare_end → IsIndexed (bare_of text) domain_at bare_end
indexed_bare text domain_at bare_end h =
    let cut = cut_bare (bare_of text) (before_first_uncut is_slash text) in
    record {
      normal_form = bare_stays text h.normal_form;
      domain = rw cut.front h.domain;
      bare = rw cut.len (h.bare ∙ sym (bare_size text));
    }

-- a bare text's parts, where it is in normal form
bare_joined : (bare : List ℕ) (local domain : Result (List ℕ) JidFault) (resource : Result (List ℕ) JidFault) → joined local domain (Ok []) ≡ Ok bare → joined local domain resource ≡ joined (Ok []) (Ok bare) resource
bare_joined bare (Err e) domain resource is = cc
bare_joined bare (Ok local) (Err e) resource is = cc
bare_joined bare (Ok local) (Ok domain) (Err e) is = refl
bare_joined bare (Ok local) (Ok domain) (Ok resource) is =
    let same : local ++ domain ++ [] ≡ bare = cc in
    let less : local ++ domain ≡ bare = sym (append-nil (local ++ domain)) ∙ same in
    ap (λ (t : List ℕ). Ok (t ++ resource)) less

-- a bare text in normal form with a resource
pub normal-with_resource : (text given : List ℕ) → normal (bare_of text) ≡ Ok (bare_of text) → normal (bare_of text ++ 47 ∷ given) ≡ joined (Ok []) (Ok (bare_of text)) (resource_back (Some given))
normal-with_resource text given is =
    let uncut = before_first_uncut is_slash text in
    let cut = cut_full (bare_of text) given uncut in
    let bare = cut_bare (bare_of text) uncut in
    let again : joined (local_front (local_of_bare (bare_of text))) (domain_form (domain_of_bare (bare_of text))) (Ok []) ≡ Ok (bare_of text) =
    rw (bare.front, bare.back) at is in
    rw (cut.front, cut.back) (bare_joined (bare_of text) _ _ (resource_back (Some given)) again)

pub with_resource_ok : (text given part : List ℕ) → normal (bare_of text) ≡ Ok (bare_of text) → resource_back (Some given) ≡ Ok part → normal (bare_of text ++ 47 ∷ given) ≡ Ok (bare_of text ++ part)
with_resource_ok text given part is resource =
    normal-with_resource text given is ∙ ap (joined (Ok []) (Ok (bare_of text))) resource

pub with_resource_err : (text given old new : List ℕ) (e : JidFault) (result : Result (List ℕ) JidFault) → IsErr result × IsErrAnd result (λ fault. fault ≡ e) → normal (bare_of text) ≡ Ok (bare_of text) → Appends old new (Err e) (resource_back (Some given)) → Answers {T = List ℕ} (λ jid. jid) result (normal (bare_of text ++ 47 ∷ given))
with_resource_err text given old new e result handed is h =
    let found = err_from_is_err_and result handed.1 in
    rw (found.1, found.2, normal-with_resource text given is) (by_fault e _ h)
  where
    by_fault : (e : JidFault) (answer : Result (List ℕ) JidFault) → Appends old new (Err e) answer → Answers {T = List ℕ} (λ jid. jid) (Err e) (joined (Ok []) (Ok (bare_of text)) answer)
    by_fault Empty answer h' = rw h' refl
    by_fault BadLocal answer h' = rw h' refl
    by_fault BadDomain answer h' = rw h' refl
    by_fault BadResource answer h' = rw h' refl
    by_fault TooLong answer h' = rw h' refl
    by_fault NoMemory answer h' = tt

slash_from : (given part : List ℕ) → resource_back (Some given) ≡ Ok part → (resource : List ℕ) × (47 ∷ resource ≡ part)
slash_from given part is = by_form (resource_form given) is
  where
    by_form : (form : Result (List ℕ) JidFault) → after_slash form ≡ Ok part → (resource : List ℕ) × (47 ∷ resource ≡ part)
    by_form (Err e) is' = cc
    by_form (Ok resource) is' = (resource, cc)

pub with_resource_indexed : (text given part : List ℕ) (domain_at bare_end : ℕ) → IsUtf8 given → IsIndexed text domain_at bare_end → resource_back (Some given) ≡ Ok part → IsIndexed (bare_of text ++ part) domain_at bare_end
with_resource_indexed text given part domain_at bare_end utf8 h is =
    let slash = slash_from given part is in
    let cut = cut_full (bare_of text) slash.0 (before_first_uncut is_slash text) in
    let bare = normal_is_utf8 (bare_of text) (bare_of text) (bare_stays text h.normal_form) in
    let whole_is = IsUtf8-append (bare_of text) (47 ∷ given) bare (IsUtf8-append (47 ∷ []) given (IsUtf8-from_ascii (47 ∷ []) slash_ascii) utf8) in
    record {
      normal_form = normal_again (bare_of text ++ 47 ∷ given) (bare_of text ++ part) whole_is (with_resource_ok text given part (bare_stays text h.normal_form) is);
      domain = rw (← slash.1, cut.front) h.domain;
      bare = rw (← slash.1, cut.len) (h.bare ∙ sym (bare_size text));
    }
