-- What an end puts enters as that item, a header with the declaration before it.
use Rattle.std.proofs.Common.{◌≡◌, ℕ, ◌<◌, ◌≤◌, ◌^◌, true, false, List, [], ◌++◌, codes, length, refl, sym, ap, subst, ◌∙◌, inl, arith}
use Rattle.std.specs.Option.{is_some}
use Rattle.xml_tokens.specs.Declarations.{declaration_of, has_other, is_good, is_utf8_label}
use Rattle.xml_tokens.specs.Tags.{is_qualified, spelled_at}
use Rattle.xml_tokens.specs.Characters.{are_characters}
use Rattle.xml_tokens.specs.declared.declarations.Declaration.TheVariants as good
use Rattle.std.specs.Str.{is_utf8, chars}
use lib.Utf8.{encode}
use Rattle.xml_names.specs.Scopes.{Scope}
use Rattle.xml_names.specs.declared.headers.Header.{Header}
use Rattle.xml_framer.specs.Machine.{run}
use Rattle.xml_framer.specs.MarkupSteps.{declared_phase}
use Rattle.xml_framer.specs.States.{State, admits_declaration, from_start, turn}
use Rattle.xml_framer.specs.TagSteps.{scope_in}
use Rattle.xml_framer.specs.declared.items.Item.{Item}
use Rattle.xml_framer.specs.declared.items.Item.TheVariants as item
use Rattle.xml_framer.specs.declared.limits.Limits.{Limits}
use Rattle.xml_framer.specs.declared.states.Phase.{Phase}
use Rattle.xml_framer.specs.declared.states.Phase.TheVariants as phase
use Rattle.xml_writer.specs.Canon.{written_header}
use Rattle.xml_writer.specs.Items.{Closing, ItemOut, Opening, Whole, declaration, written_item}
use Rattle.law_xml.specs.Fitting.{HeaderFits}
use Rattle.law_xml.specs.Plain.{IsPlainHeader}
use Rattle.law_xml.specs.Spells.{as_written, written_scope}
use Rattle.law_xml.specs.Standing.{Gives, StandsOutside}
use Rattle.law_xml.proofs.DeclarationRuns.{HasDeclared, declaration_run}
use Rattle.law_xml.proofs.WrittenFits.{written_element_is_read}
use Rattle.law_xml.proofs.WrittenHeaders.{declared_header_is_read, first_declared_header_is_read, footer_is_read}
use Rattle.net_pipes.specs.Pipes.{Pipe}
use Rattle.law_xml.specs.Carries.{Carries}
use Rattle.law_xml.proofs.RestRuns.{with_declaration}
use Rattle.law_xml.proofs.ReadLaws.{gives_one, one_enters, read_enters}
use Rattle.law_xml.specs.Puts.{HasPut, MayPut, OutFits, StandsAt}
use Rattle.law_xml.proofs.ItemRuns.{quiet_there as quiet}
use Rattle.law_xml.proofs.StreamRuns.{admits_first as admits}

is_good_one : declaration_of declaration ≡ good.Good
unfolding declaration_of has_other is_good is_utf8_label spelled_at is_qualified are_characters is_utf8 chars encode
is_good_one = refl

pub stands_first : (limits : Limits) → StandsAt (from_start limits) phase.First
stands_first limits =
    record { no_fault = refl; outside = refl; none_open = refl; text = refl; no_quote = refl; not_spoiled = refl; no_token = refl; no_pending = refl; none_used = refl; phase_is = refl; scope_is = refl; name_is = refl }

-- ---- the declaration

record Declared (t : State) (p : Phase) (scope : Scope) (name : List ℕ) : Type 0 where
  following : State
  run_is : run (turn t []) declaration ≡ turn following []
  stands : StandsOutside following (declared_phase p) scope name
  same_limits : following.limits ≡ t.limits

is_declared : (t : State) (p : Phase) (scope : Scope) (name : List ℕ) → StandsOutside t p scope name → admits_declaration p ≡ true → length declaration ≤ t.limits.bytes → Declared t p scope name
is_declared t p scope name at may short =
    let none = at.none_used in
    let r = declaration_run t [] declaration (quiet t p scope name at) (admits t.here at.outside t.lexical.phase p at.phase_is may) (inl (omega (arith, none, short))) is_good_one in
    let has : HasDeclared t r.0 = r.2 in
    let q = has.fresh.quiet in
    let outside = has.here ∙ at.outside in
    record {
      following = r.0;
      run_is = r.1;
      stands = record {
        no_fault = q.no_fault;
        outside = outside;
        none_open = has.below ∙ at.none_open;
        text = q.text;
        no_quote = q.no_quote;
        not_spoiled = q.not_spoiled;
        no_token = q.no_token;
        no_pending = q.no_pending;
        none_used = q.uncounted (ap is_some outside);
        phase_is = has.phase ∙ ap declared_phase at.phase_is;
        scope_is = ap scope_in has.scopes ∙ at.scope_is;
        name_is = has.name ∙ at.name_is;
      };
      same_limits = has.limits;
    }

-- ---- a header behind it

module _ (s : State) (part : List ℕ) (p : Pipe) (items : List Item) (t : State) (c : Carries s part p items t) (open_still : p.ended ≡ false) where
  header_enters : (before : Phase) (scope : Scope) (name : List ℕ) (h : Header) (d : Declared t before scope name)
      → Gives d.following [] (written_header h) (item.Header d.following.positions.at (as_written h)) phase.Between written_scope (codes "stream:stream") → HasPut s part p items t (Opening h)
  header_enters before scope name h d g =
      let bytes = written_header h in
      let i = item.Header d.following.positions.at (as_written h) in
      let one = with_declaration t d.following g.following declaration bytes i d.run_is (gives_one d.following bytes i phase.Between written_scope (codes "stream:stream") g) in
      record {
        at = d.following.positions.at;
        entered_as = one_enters s part p items t (declaration ++ bytes) i g.following phase.Between written_scope (codes "stream:stream") c open_still one g.stands (g.same_limits ∙ d.same_limits);
      }

  first_header : (h : Header) → StandsOutside t phase.First [] [] → IsPlainHeader h → HeaderFits t.limits h → length declaration ≤ t.limits.bytes → HasPut s part p items t (Opening h)
  first_header h at plain fits short =
      let d = is_declared t phase.First [] [] at refl short in
      header_enters phase.First [] [] h d (first_declared_header_is_read d.following [] [] [] h plain (subst (λ l. HeaderFits l h) (sym d.same_limits) fits) d.stands)

  next_header : (h : Header) → StandsOutside t phase.Between written_scope (codes "stream:stream") → IsPlainHeader h → HeaderFits t.limits h → length declaration ≤ t.limits.bytes
      → t.limits.attributes < 2 ^ 32 → t.limits.namespace_bytes < 2 ^ 32 → HasPut s part p items t (Opening h)
  next_header h at plain fits short few names =
      let d = is_declared t phase.Between written_scope (codes "stream:stream") at refl short in
      header_enters phase.Between written_scope (codes "stream:stream") h d
      (declared_header_is_read d.following [] written_scope (codes "stream:stream") h plain (subst (λ l. HeaderFits l h) (sym d.same_limits) fits)
      (subst (λ l. l.attributes < 2 ^ 32) (sym d.same_limits) few) (subst (λ l. l.namespace_bytes < 2 ^ 32) (sym d.same_limits) names) d.stands)

  between : (i : ItemOut) → StandsOutside t phase.Between written_scope (codes "stream:stream") → OutFits t.limits i → t.limits.attributes < 2 ^ 32 → t.limits.namespace_bytes < 2 ^ 32 → HasPut s part p items t i
  between (Opening h) at fits few names = next_header h at fits.0 fits.1 fits.2 few names
  between (Whole e) at fits few names =
      record { at = 0; entered_as = read_enters s part p items t (written_item (Whole e)) (item.Element e) phase.Between written_scope (codes "stream:stream") c open_still (written_element_is_read t [] e fits.0 fits.1 fits.2 at) }
  between Closing at fits few names =
      record { at = 0; entered_as = read_enters s part p items t (written_item Closing) item.Footer phase.Ended written_scope (codes "stream:stream") c open_still (footer_is_read t [] written_scope at) }

  pub put_enters : (now : Phase) (i : ItemOut) → StandsAt t now → MayPut now i → OutFits t.limits i → t.limits.attributes < 2 ^ 32 → t.limits.namespace_bytes < 2 ^ 32 → HasPut s part p items t i
  put_enters phase.First (Opening h) at may fits few names = first_header h at fits.0 fits.1 fits.2
  put_enters phase.First (Whole e) at may fits few names = absurd may
  put_enters phase.First Closing at may fits few names = absurd may
  put_enters phase.FirstDeclared i at may fits few names = absurd may
  put_enters phase.Between i at may fits few names = between i at fits few names
  put_enters phase.Declared i at may fits few names = absurd may
  put_enters phase.Ended i at may fits few names = absurd may
