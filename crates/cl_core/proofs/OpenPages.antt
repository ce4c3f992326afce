-- The open page by the id of its query.
use Rattle.std.proofs.Common.{◌≡◌, ℕ, Bool, true, false, List, Option, Some, None, Result, Ok, IfSome, IsSome, is_some, ◌&&◌, refl, ap, sym, if◌then◌else◌, ◌∙◌}
use Rattle.std.specs.Option.{option_and_then, option_map}
use Rattle.std.specs.Str.{bytes_eq}
use Rattle.cl_handlers.specs.Clients.{ClientStep}
use Rattle.cl_handlers.specs.MessageRows.{is_own_or_absent, refuses}
use Rattle.cl_core.specs.PageRows.{answered_page, error_of_page, is_not_found, page_answered, restarts}
use Rattle.cl_handlers.specs.Speech.{in_bytes}
use Rattle.cl_handlers.specs.declared.events.CatchUpFault.TheVariants.{Refused}
use Rattle.mam_log.specs.Views.{OpenPage, page_for}
use Rattle.im_requests.specs.Messages.{page_text}
use Rattle.im_stanza.specs.Views.{IqView}
use Rattle.im_stanza.specs.declared.errors.StanzaError.{StanzaError}
use Rattle.im_stanza.specs.declared.fault.StanzaErrorFault.{StanzaErrorFault}

abbrev T : Type 0
T = ClientStep (List ℕ) ℕ

some_if : (c : Bool) (page : OpenPage) → c ≡ is_some (if c then Some page else None)
some_if true page = refl
some_if false page = refl

pub named_page : (o : Option OpenPage) (id queryid : List ℕ) (same : Bool) → Some queryid ≡ option_map (λ (page : OpenPage). page.queryid) o → same ≡ bytes_eq queryid id → same ≡ is_some (page_for id o)
named_page None id queryid same there is = absurd (cc there)
named_page (Some page) id queryid same there is =
    let named : queryid ≡ page.queryid = cc there in
    is ∙ ap (λ q. bytes_eq q id) named ∙ some_if (bytes_eq page.queryid id) page

pub no_page : (o : Option OpenPage) (id : List ℕ) → None ≡ option_map (λ (page : OpenPage). page.queryid) o → false ≡ is_some (page_for id o)
no_page None id none = refl
no_page (Some page) id none = absurd (cc none)

-- how many results it may have is known where it is open
pub none_closed : (o : Option OpenPage) (id : List ℕ) (page : OpenPage) → None ≡ option_map (λ (page : OpenPage). page.max) o → page_for id o ≡ Some page → ⊥
none_closed None id page none found = cc found
none_closed (Some other) id page none found = cc none

pub asked_most : (o : Option OpenPage) (queryid stanza : List ℕ) (after : Option (List ℕ)) (max : ℕ) → Some max ≡ option_map (λ (page : OpenPage). page.max) o → stanza ≡ page_text queryid after max
    → IfSome o (λ page. stanza ≡ page_text queryid after page.max)
asked_most None queryid stanza after max is text = absurd (cc is)
asked_most (Some page) queryid stanza after max is text = let same : max ≡ page.max = cc is in text ∙ ap (page_text queryid after) same

-- ---- an answer

pub other_id : (t : T) (q : IqView) (o : Option OpenPage) → is_some o ≡ false → t ≡ page_answered in_bytes t q o
other_id t q None none = refl
other_id t q (Some page) none = absurd (cc none)

pub other_sender : (t : T) (q : IqView) (o : Option OpenPage) → is_own_or_absent t.client.account.bare q.from ≡ false → t ≡ page_answered in_bytes t q o
other_sender t q None other = refl
other_sender t q (Some page) other = rw other refl

own_answer : (own : Bool) (t now answered : T) → own ≡ true → now ≡ answered → now ≡ (if own then answered else t)
own_answer true t now answered is done = done
own_answer false t now answered is done = absurd (cc is)

pub answer_taken : (t now : T) (q : IqView) (o : Option OpenPage) → is_some o ≡ true → is_own_or_absent t.client.account.bare q.from ≡ true
    → ((page : OpenPage) → o ≡ Some page → now ≡ answered_page in_bytes t q page q.kind) → now ≡ page_answered in_bytes t q o
answer_taken t now q None some own by = absurd (cc some)
answer_taken t now q (Some page) some own by =
    own_answer (is_own_or_absent t.client.account.bare q.from) t now (answered_page in_bytes t q page q.kind) own (by page refl)

-- ---- an error

-- the page that was asked for behind an entry has a place, and the first page has none
pub has_after : (o : Option OpenPage) (id : List ℕ) (page : OpenPage) → page_for id o ≡ Some page → is_some (option_and_then (λ (page : OpenPage). page.after) o) ≡ is_some page.after
has_after None id page found = absurd (cc found)
has_after (Some other) id page found = by (bytes_eq other.queryid id) found
  where
    by : (c : Bool) → (if c then Some other else None) ≡ Some page → is_some other.after ≡ is_some page.after
    by true is = let same : other ≡ page = cc is in ap (λ (p : OpenPage). is_some p.after) same
    by false is = absurd (cc is)

refused_row : (c : Bool) (a b now : T) → c ≡ false → now ≡ b → now ≡ (if c then a else b)
refused_row true a b now is done = absurd (cc is)
refused_row false a b now is done = done

pub kept_position : (t now : T) (o : Option OpenPage) (id : List ℕ) (page : OpenPage) (error : StanzaError) (read : Result StanzaError StanzaErrorFault) → page_for id o ≡ Some page → read ≡ Ok error
    → is_not_found error.condition ≡ true → is_some (option_and_then (λ (page : OpenPage). page.after) o) ≡ true
    → (IsSome page.after → now ≡ restarts in_bytes t t.client.session page.max) → now ≡ error_of_page in_bytes t page read
kept_position t now o id page error read found is missing there by =
    let after : is_some page.after ≡ true = sym (has_after o id page found) ∙ there in
    by_row (is_not_found error.condition) (is_some page.after) missing after ∙ ap (error_of_page in_bytes t page) (sym is)
  where
    by_row : (a b : Bool) → a ≡ true → b ≡ true → now ≡ (if a && b then restarts in_bytes t t.client.session page.max else refuses t (Refused error.condition))
    by_row true true e f = by (sym (has_after o id page found) ∙ there)
    by_row true false e f = absurd (cc f)
    by_row false b e f = absurd (cc e)

pub no_position : (t now : T) (o : Option OpenPage) (id : List ℕ) (page : OpenPage) (error : StanzaError) (read : Result StanzaError StanzaErrorFault) → page_for id o ≡ Some page → read ≡ Ok error
    → (is_not_found error.condition && is_some (option_and_then (λ (page : OpenPage). page.after) o)) ≡ false → now ≡ refuses t (Refused error.condition) → now ≡ error_of_page in_bytes t page read
no_position t now o id page error read found is other done =
    refused_row (is_not_found error.condition && is_some page.after) (restarts in_bytes t t.client.session page.max) (refuses t (Refused error.condition)) now
    (ap (λ b. is_not_found error.condition && b) (sym (has_after o id page found)) ∙ other) done
    ∙ ap (error_of_page in_bytes t page) (sym is)
