-- What spells a stream is read as its items.
use Rattle.std.proofs.Common.{◌≡◌, ℕ, ◌+◌, ◌≤◌, inl, inr, Bool, true, false, not, ◌&&◌, cond, List, [], ◌∷◌, ◌++◌, Option, None, length, zero-add, refl, sym, ap, subst, ◌∙◌, arith}
use Rattle.std.specs.Option.{is_some}
use Rattle.xml_tokens.specs.Declarations.{declaration_of}
use Rattle.xml_tokens.specs.Tags.{are_white}
use Rattle.xml_tokens.specs.declared.declarations.Declaration.TheVariants as declaration
use Rattle.xml_names.specs.Scopes.{Scope}
use Rattle.xml_names.specs.declared.headers.Header.{Header}
use Rattle.law_xml.proofs.DeclarationRuns.{HasDeclared, declaration_run}
use Rattle.law_xml.proofs.ElementStates.{split_run}
use Rattle.law_xml.proofs.ItemRuns.{HasHeaded, element_gives, footer_gives, head_read, may_head_next, quiet_there, room_there}
use Rattle.law_xml.proofs.Quiet.{HasSaid}
use Rattle.xml_framer.proofs.PlainTexts.{position_is}
use Rattle.law_xml.proofs.RunPositions.{run_position}
use Rattle.law_xml.proofs.TextRuns.{white_run}
use Rattle.xml_framer.specs.Machine.{part_of, run}
use Rattle.xml_framer.specs.ManyBytes.{position_after}
use Rattle.xml_framer.specs.MarkupSteps.{declared_phase}
use Rattle.law_xml.specs.Spells.{SpellsTop, placed}
use Rattle.law_xml.specs.Standing.{Gives, StandsOutside}
use Rattle.xml_framer.specs.States.{OpenElement, State, Turn, admits_declaration, from_start, may_declare, turn}
use Rattle.law_xml.specs.StreamLimits.{IsEmptyHeaderInWithin, IsHeaderInWithin, IsReadAs, IsStreamWithin}
use Rattle.law_xml.specs.Streams.{InForce, IsDeclared, SpellsEmptyHeaderIn, SpellsHeaderIn, StreamTo, declared, ended, headed, headed_and_ended, nothing, position_of, white_space, with_element}
use Rattle.xml_framer.specs.TagSteps.{header_items, phase_behind, scope_in}
use Rattle.xml_trees.specs.Trees.{Elem}
use Rattle.law_xml.specs.Within.{IsElementWithin}
use Rattle.xml_framer.specs.declared.items.Item.{Item}
use Rattle.xml_framer.specs.declared.items.Item.TheVariants as item
use Rattle.xml_framer.specs.declared.limits.Limits.{Limits}
use Rattle.xml_framer.specs.declared.states.Phase.{Phase}
use Rattle.xml_framer.specs.declared.states.Phase.TheVariants as phase

-- ---- white space

-- behind bytes that gave these items the framer stands outside elements
pub record IsAfter (s t : State) (before after : List Item) (bytes : List ℕ) (p : Phase) (scope : Scope) (name : List ℕ) : Type 0 where
  pub run_is : run (turn s before) bytes ≡ turn t after
  pub stands : StandsOutside t p scope name
  pub limits : t.limits ≡ s.limits

-- the place behind bytes that led there without a fault
pub position_there : (s t : State) (before after : List Item) (bytes : List ℕ) (offset : ℕ) → s.positions.at ≡ position_of offset → run (turn s before) bytes ≡ turn t after → t.fault ≡ None
    → t.positions.at ≡ position_of (offset + length bytes)
position_there s t before after bytes offset at runs none =
    ap (λ (u : Turn). u.state.positions.at) (sym runs) ∙ run_position bytes (turn s before) (ap (λ (u : Turn). u.state.fault) runs ∙ none)
    ∙ (ap (position_after bytes) at ∙ position_is bytes (position_of offset) (omega arith) ∙ omega arith)

white_read : (s : State) (before : List Item) (bytes : List ℕ) (p : Phase) (scope : Scope) (name : List ℕ) → StandsOutside s p scope name → are_white bytes ≡ true
    → (t : State) × IsAfter s t before before bytes p scope name
white_read s before bytes p scope name at white =
    let r = white_run s before bytes (quiet_there s p scope name at) (ap is_some at.outside) white in
    let t = r.0 in
    let said : HasSaid s t bytes [] = r.2 in
    let outside = said.alike.here ∙ at.outside in (
      t,
      record {
        run_is = r.1;
        stands = record {
          no_fault = said.quiet.no_fault;
          outside = outside;
          none_open = said.alike.below ∙ at.none_open;
          text = said.quiet.text;
          no_quote = said.quiet.no_quote;
          not_spoiled = said.quiet.not_spoiled;
          no_token = said.quiet.no_token;
          no_pending = said.quiet.no_pending;
          none_used = said.quiet.uncounted (ap is_some outside);
          phase_is = said.alike.phase ∙ at.phase_is;
          scope_is = ap scope_in said.alike.scopes ∙ at.scope_is;
          name_is = said.alike.name ∙ at.name_is;
        };
        limits = said.alike.limits;
      },
    )

-- ---- declarations

pub admits_first : (o : Option OpenElement) → o ≡ None → (p q : Phase) → p ≡ q → admits_declaration q ≡ true → (not (is_some o) && admits_declaration p) ≡ true
admits_first o none p q same admits = rw (none, same, admits) refl

declaration_read : (s : State) (before : List Item) (bytes : List ℕ) (p : Phase) (scope : Scope) (name : List ℕ) → StandsOutside s p scope name → admits_declaration p ≡ true → declaration_of bytes ≡ declaration.Good → length bytes ≤ s.limits.bytes
    → (t : State) × IsAfter s t before before bytes (declared_phase p) scope name
declaration_read s before bytes p scope name at admits good short =
    let may : may_declare s ≡ true = admits_first s.here at.outside s.lexical.phase p at.phase_is admits in
    let r = declaration_run s before bytes (quiet_there s p scope name at) may (room_there s bytes at.none_used short) good in
    let t = r.0 in
    let has : HasDeclared s t = r.2 in
    let quiet = has.fresh.quiet in
    let outside = has.here ∙ at.outside in (
      t,
      record {
        run_is = r.1;
        stands = record {
          no_fault = quiet.no_fault;
          outside = outside;
          none_open = has.below ∙ at.none_open;
          text = quiet.text;
          no_quote = quiet.no_quote;
          not_spoiled = quiet.not_spoiled;
          no_token = quiet.no_token;
          no_pending = quiet.no_pending;
          none_used = quiet.uncounted (ap is_some outside);
          phase_is = has.phase ∙ ap declared_phase at.phase_is;
          scope_is = ap scope_in has.scopes ∙ at.scope_is;
          name_is = has.name ∙ at.name_is;
        };
        limits = has.limits;
      },
    )

-- ---- headers

headed_there : (s : State) (before : List Item) (bytes : List ℕ) (h : Header) (ends : Bool) (inner : Scope) (next : List ℕ) (r : HasHeaded s before bytes h ends inner next)
    → IsAfter s r.following before (before ++ header_items s.positions.at h ends) bytes (phase_behind ends) inner next
headed_there s before bytes h ends inner next r = record { run_is = r.run_is; stands = r.stands; limits = r.same_limits }

-- behind the tag of a header, or of one that is a footer too
abbrev Heads : State → List Item → List ℕ → Header → Bool → Scope → List ℕ → Type 0
Heads s before bytes h ends inner next = (t : State) × IsAfter s t before (before ++ header_items s.positions.at h ends) bytes (phase_behind ends) inner next

header_in : (p : Phase) (s : State) (before : List Item) (scope inner : Scope) (name next bytes : List ℕ) (h : Header) (spelled : SpellsHeaderIn p scope bytes next inner h) → StandsOutside s p scope name
    → IsHeaderInWithin s.limits p scope bytes next inner h spelled → Heads s before bytes h false inner next
header_in phase.First s before scope inner name next bytes h n stands within =
    let r = head_read s before phase.First scope inner name next bytes h false n.raw n.tag n.start n.not_empty n.name_is n.scope_is n.says stands within (inl stands.phase_is) in
    (r.following, headed_there s before bytes h false inner next r)
header_in phase.FirstDeclared s before scope inner name next bytes h n stands within =
    let r = head_read s before phase.FirstDeclared scope inner name next bytes h false n.raw n.tag n.start n.not_empty n.name_is n.scope_is n.says stands within (inr (inl stands.phase_is)) in
    (r.following, headed_there s before bytes h false inner next r)
header_in phase.Between s before scope inner name next bytes h n stands within =
    let f = n.spelled in
    let may = may_head_next s phase.Between scope name bytes f.raw n.raw f.tag n.tag stands (inl stands.phase_is) f.start n.start n.named within in
    let r = head_read s before phase.Between scope inner name next bytes h false f.raw f.tag f.start f.not_empty f.name_is f.scope_is f.says stands within.head may in
    (r.following, headed_there s before bytes h false inner next r)
header_in phase.Declared s before scope inner name next bytes h n stands within =
    let f = n.spelled in
    let may = may_head_next s phase.Declared scope name bytes f.raw n.raw f.tag n.tag stands (inr stands.phase_is) f.start n.start n.named within in
    let r = head_read s before phase.Declared scope inner name next bytes h false f.raw f.tag f.start f.not_empty f.name_is f.scope_is f.says stands within.head may in
    (r.following, headed_there s before bytes h false inner next r)
header_in phase.Ended s before scope inner name next bytes h n stands within = absurd n

empty_header_in : (p : Phase) (s : State) (before : List Item) (scope inner : Scope) (name next bytes : List ℕ) (h : Header) (spelled : SpellsEmptyHeaderIn p scope bytes next inner h) → StandsOutside s p scope name
    → IsEmptyHeaderInWithin s.limits p scope bytes next inner h spelled → Heads s before bytes h true inner next
empty_header_in phase.First s before scope inner name next bytes h n stands within =
    let r = head_read s before phase.First scope inner name next bytes h true n.raw n.tag n.start n.is_empty n.name_is n.scope_is n.says stands within (inl stands.phase_is) in
    (r.following, headed_there s before bytes h true inner next r)
empty_header_in phase.FirstDeclared s before scope inner name next bytes h n stands within =
    let r = head_read s before phase.FirstDeclared scope inner name next bytes h true n.raw n.tag n.start n.is_empty n.name_is n.scope_is n.says stands within (inr (inl stands.phase_is)) in
    (r.following, headed_there s before bytes h true inner next r)
empty_header_in phase.Between s before scope inner name next bytes h n stands within =
    let f = n.spelled in
    let may = may_head_next s phase.Between scope name bytes f.raw n.raw f.tag n.tag stands (inl stands.phase_is) f.start n.start n.named within in
    let r = head_read s before phase.Between scope inner name next bytes h true f.raw f.tag f.start f.is_empty f.name_is f.scope_is f.says stands within.head may in
    (r.following, headed_there s before bytes h true inner next r)
empty_header_in phase.Declared s before scope inner name next bytes h n stands within =
    let f = n.spelled in
    let may = may_head_next s phase.Declared scope name bytes f.raw n.raw f.tag n.tag stands (inr stands.phase_is) f.start n.start n.named within in
    let r = head_read s before phase.Declared scope inner name next bytes h true f.raw f.tag f.start f.is_empty f.name_is f.scope_is f.says stands within.head may in
    (r.following, headed_there s before bytes h true inner next r)
empty_header_in phase.Ended s before scope inner name next bytes h n stands within = absurd n

either_none : (b : Bool) (o : Option ℕ) → o ≡ None → cond b o o ≡ None
either_none true o e = e
either_none false o e = e

no_part_there : (s : State) (p : Phase) (scope : Scope) (name : List ℕ) → StandsOutside s p scope name → part_of s ≡ None
unfolding part_of
no_part_there s p scope name at = rw (at.no_fault, at.outside, at.text, at.no_pending) (either_none s.lexical.spent None refl)

-- ---- a stream

pub stands_first : (limits : Limits) → StandsOutside (from_start limits) phase.First [] []
stands_first limits =
    record {
      no_fault = refl;
      outside = refl;
      none_open = refl;
      text = refl;
      no_quote = refl;
      not_spoiled = refl;
      no_token = refl;
      no_pending = refl;
      none_used = refl;
      phase_is = refl;
      scope_is = refl;
      name_is = refl;
    }

-- more bytes and items behind those of a stream
then_after : (s t u : State) (before after items all : List Item) (bytes a b : List ℕ) (p q : Phase) (scope inner : Scope) (name next : List ℕ) → bytes ≡ a ++ b → items ≡ all → IsAfter s t before after a p scope name
    → IsAfter t u after all b q inner next → IsAfter s u before items bytes q inner next
then_after s t u before after items all bytes a b p q scope inner name next are items_are first second =
    record {
      run_is = split_run (turn s before) (turn t after) (turn u all) bytes a b are first.run_is second.run_is ∙ ap (turn u) (sym items_are);
      stands = second.stands;
      limits = second.limits ∙ first.limits;
    }

gives_there : (s : State) (before : List Item) (bytes : List ℕ) (i : Item) (p : Phase) (scope : Scope) (name : List ℕ) (g : Gives s before bytes i p scope name)
    → IsAfter s g.following before (before ++ placed s.positions.at i ∷ []) bytes p scope name
gives_there s before bytes i p scope name g = record { run_is = g.run_is; stands = g.stands; limits = g.same_limits }

in_phase_of : (s : State) (p q : Phase) (scope inner : Scope) (name next : List ℕ) → p ≡ q → scope ≡ inner → name ≡ next → StandsOutside s p scope name → StandsOutside s q inner next
in_phase_of s p q scope inner name next phases scopes names h =
    record {
      no_fault = h.no_fault;
      outside = h.outside;
      none_open = h.none_open;
      text = h.text;
      no_quote = h.no_quote;
      not_spoiled = h.not_spoiled;
      no_token = h.no_token;
      no_pending = h.no_pending;
      none_used = h.none_used;
      phase_is = h.phase_is ∙ phases;
      scope_is = h.scope_is ∙ scopes;
      name_is = h.name_is ∙ names;
    }

after_in : (s t : State) (before after : List Item) (bytes : List ℕ) (p q : Phase) (scope inner : Scope) (name next : List ℕ) → p ≡ q → scope ≡ inner → name ≡ next → IsAfter s t before after bytes p scope name
    → IsAfter s t before after bytes q inner next
after_in s t before after bytes p q scope inner name next phases scopes names h =
    record { run_is = h.run_is; stands = in_phase_of t p q scope inner name next phases scopes names h.stands; limits = h.limits }

-- which phase a declaration stands in, and which it leads to
declares_in : (p q : Phase) → IsDeclared p q → (admits_declaration p ≡ true) × (declared_phase p ≡ q)
declares_in p q (inl (was, is)) = (ap admits_declaration was, ap declared_phase was ∙ sym is)
declares_in p q (inr (was, is)) = (ap admits_declaration was, ap declared_phase was ∙ sym is)

header_within : (s t : State) (p : Phase) (scope : Scope) (bytes name : List ℕ) (inner : Scope) (h : Header) (spelled : SpellsHeaderIn p scope bytes name inner h) → t.limits ≡ s.limits
    → IsHeaderInWithin s.limits p scope bytes name inner h spelled → IsHeaderInWithin t.limits p scope bytes name inner h spelled
header_within s t p scope bytes name inner h spelled same within = subst (λ l. IsHeaderInWithin l p scope bytes name inner h spelled) (sym same) within

empty_header_within : (s t : State) (p : Phase) (scope : Scope) (bytes name : List ℕ) (inner : Scope) (h : Header) (spelled : SpellsEmptyHeaderIn p scope bytes name inner h) → t.limits ≡ s.limits
    → IsEmptyHeaderInWithin s.limits p scope bytes name inner h spelled → IsEmptyHeaderInWithin t.limits p scope bytes name inner h spelled
empty_header_within s t p scope bytes name inner h spelled same within = subst (λ l. IsEmptyHeaderInWithin l p scope bytes name inner h spelled) (sym same) within

element_within : (s t : State) (scope : Scope) (bytes : List ℕ) (e : Elem) (spelled : SpellsTop scope bytes e) → t.limits ≡ s.limits → IsElementWithin s.limits scope bytes e spelled.spelled
    → IsElementWithin t.limits scope bytes e spelled.spelled
element_within s t scope bytes e spelled same within = subst (λ l. IsElementWithin l scope bytes e spelled.spelled) (sym same) within

-- a header has the place of its tag's first byte
header_at : (at position : ℕ) (h : Header) (ends : Bool) (given items : List Item) → at ≡ position → items ≡ given ++ header_items position h ends → items ≡ given ++ header_items at h ends
header_at at position h ends given items same are = are ∙ ap (λ n. given ++ header_items n h ends) (sym same)

abbrev pub Reads : Limits → InForce → List ℕ → List Item → Type 0
Reads limits now bytes items = (t : State) × IsAfter (from_start limits) t [] items bytes now.phase now.scope now.name

from_first : (limits : Limits) (front : List ℕ) (t : State) (items : List Item) (p : Phase) (scope : Scope) (name : List ℕ) → IsAfter (from_start limits) t [] items front p scope name
    → t.positions.at ≡ position_of (length front)
from_first limits front t items p scope name h =
    position_there (from_start limits) t [] items front 0 refl h.run_is h.stands.no_fault ∙ ap position_of (zero-add (length front))

pub stream_reads : (limits : Limits) (now : InForce) (bytes : List ℕ) (items : List Item) (stream : StreamTo now bytes items) → IsStreamWithin limits now bytes items stream → Reads limits now bytes items
stream_reads limits now bytes items (nothing _ _ _ is_first no_scope no_name no_bytes no_items) within = (
  from_start limits,
  record {
    run_is = ap (run (turn (from_start limits) [])) no_bytes ∙ ap (turn (from_start limits)) (sym no_items);
    stands = in_phase_of (from_start limits) phase.First now.phase [] now.scope [] now.name (sym is_first) (sym no_scope) (sym no_name) (stands_first limits);
    limits = refl;
  },
)
stream_reads limits now bytes items (white_space _ _ _ front space so_far white bytes_are) within =
    let r = stream_reads limits now front items so_far within in
    let more = white_read r.0 items space now.phase now.scope now.name r.1.stands white in
    (more.0, then_after (from_start limits) r.0 more.0 [] items items items bytes front space now.phase now.phase now.scope now.scope now.name now.name bytes_are refl r.1 more.1)
stream_reads limits now bytes items (declared _ _ _ before front tag so_far phases scope_is name_is good bytes_are) within =
    let s = from_start limits in
    let r = stream_reads limits before front items so_far within.0 in
    let there : IsAfter s r.0 [] items front before.phase before.scope before.name = r.1 in
    let phase_is = declares_in before.phase now.phase phases in
    let more = declaration_read r.0 items tag before.phase before.scope before.name there.stands phase_is.0 good (subst (λ l. length tag ≤ l.bytes) (sym there.limits) within.1) in
    let now_there = after_in r.0 more.0 items items tag (declared_phase before.phase) now.phase before.scope now.scope before.name now.name phase_is.1 (sym scope_is) (sym name_is) more.1 in
    (more.0, then_after s r.0 more.0 [] items items items bytes front tag before.phase now.phase before.scope now.scope before.name now.name bytes_are refl there now_there)
stream_reads limits now bytes items (headed _ _ _ before front tag given h so_far spelled phase_is bytes_are items_are) within =
    let s = from_start limits in
    let r = stream_reads limits before front given so_far within.0 in
    let t = r.0 in
    let there : IsAfter s t [] given front before.phase before.scope before.name = r.1 in
    let more =
    header_in before.phase t given before.scope now.scope before.name now.name tag h spelled there.stands
    (header_within s t before.phase before.scope tag now.name now.scope h spelled there.limits within.1) in
    let all = given ++ header_items t.positions.at h false in
    let now_there = after_in t more.0 given all tag phase.Between now.phase now.scope now.scope now.name now.name (sym phase_is) refl refl more.1 in
    let position = from_first limits front t given before.phase before.scope before.name there in (
      more.0,
      then_after s t more.0 [] given items all bytes front tag before.phase now.phase before.scope now.scope before.name now.name bytes_are
          (header_at t.positions.at (position_of (length front)) h false given items position items_are) there now_there,
    )
stream_reads limits now bytes items (headed_and_ended _ _ _ before front tag given h so_far spelled phase_is bytes_are items_are) within =
    let s = from_start limits in
    let r = stream_reads limits before front given so_far within.0 in
    let t = r.0 in
    let there : IsAfter s t [] given front before.phase before.scope before.name = r.1 in
    let more =
    empty_header_in before.phase t given before.scope now.scope before.name now.name tag h spelled there.stands
    (empty_header_within s t before.phase before.scope tag now.name now.scope h spelled there.limits within.1) in
    let all = given ++ header_items t.positions.at h true in
    let now_there = after_in t more.0 given all tag phase.Ended now.phase now.scope now.scope now.name now.name (sym phase_is) refl refl more.1 in
    let position = from_first limits front t given before.phase before.scope before.name there in (
      more.0,
      then_after s t more.0 [] given items all bytes front tag before.phase now.phase before.scope now.scope before.name now.name bytes_are
          (header_at t.positions.at (position_of (length front)) h true given items position items_are) there now_there,
    )
stream_reads limits now bytes items (with_element _ _ _ front inside given e so_far phase_is spelled bytes_are items_are) within =
    let s = from_start limits in
    let r = stream_reads limits now front given so_far within.0 in
    let t = r.0 in
    let there : IsAfter s t [] given front now.phase now.scope now.name = r.1 in
    let between = in_phase_of t now.phase phase.Between now.scope now.scope now.name now.name phase_is refl refl there.stands in
    let g = element_gives t given now.scope now.name inside e (item.Element e) spelled between (element_within s t now.scope inside e spelled there.limits within.1) refl in
    let all = given ++ item.Element e ∷ [] in
    let now_there =
    after_in t g.following given all inside phase.Between now.phase now.scope now.scope now.name now.name (sym phase_is) refl refl (gives_there t given inside (item.Element e) phase.Between now.scope now.name g) in
    (g.following, then_after s t g.following [] given items all bytes front inside now.phase now.phase now.scope now.scope now.name now.name bytes_are items_are there now_there)
stream_reads limits now bytes items (ended _ _ _ before front tag given so_far was_between spelled phase_is scope_is name_is bytes_are items_are) within =
    let s = from_start limits in
    let r = stream_reads limits before front given so_far within in
    let t = r.0 in
    let there : IsAfter s t [] given front before.phase before.scope before.name = r.1 in
    let between = in_phase_of t before.phase phase.Between before.scope before.scope before.name before.name was_between refl refl there.stands in
    let g = footer_gives t given before.scope before.name tag item.Footer spelled between refl in
    let all = given ++ item.Footer ∷ [] in
    let now_there =
    after_in t g.following given all tag phase.Ended now.phase before.scope now.scope before.name now.name (sym phase_is) (sym scope_is) (sym name_is)
    (gives_there t given tag item.Footer phase.Ended before.scope before.name g) in
    (g.following, then_after s t g.following [] given items all bytes front tag before.phase now.phase before.scope now.scope before.name now.name bytes_are items_are there now_there)

pub stream_read : (limits : Limits) (now : InForce) (bytes : List ℕ) (items : List Item) (stream : StreamTo now bytes items) → IsStreamWithin limits now bytes items stream → IsReadAs limits now bytes items
stream_read limits now bytes items stream within =
    let r = stream_reads limits now bytes items stream within in
    record {
      following = r.0;
      run_is = r.1.run_is;
      stands = r.1.stands;
      no_part = no_part_there r.0 now.phase now.scope now.name r.1.stands;
      position = from_first limits bytes r.0 items now.phase now.scope now.name r.1;
    }
