-- Items enter one behind the other, and so all at once.
use Rattle.std.proofs.Common.{◌≡◌, ℕ, ◌<◌, ◌^◌, false, List, [], ◌∷◌, ◌++◌, codes, refl, sym, ap, ◌∙◌, subst, append_assoc, append-nil}
use Rattle.std.specs.List.{AllByRecursion, flat_map}
use Rattle.law_xml.specs.Carries.{Carries}
use Rattle.law_xml.specs.Items.{AreItems}
use Rattle.xml_framer.specs.States.{State}
use Rattle.xml_framer.specs.declared.items.Item.{Item}
use Rattle.xml_framer.specs.declared.limits.Limits.{Limits}
use Rattle.xml_framer.specs.declared.states.Phase.{Phase}
use Rattle.law_xml.specs.Spells.{written_scope}
use Rattle.law_xml.specs.Standing.{StandsOutside}
use Rattle.net_pipes.specs.Pipes.{Pipe, entered}
use Rattle.law_xml.specs.PutLists.{HavePut, MayAll}
use Rattle.xml_writer.specs.Items.{Closing, ItemOut, Opening, Whole, written_item}
use Rattle.law_xml.proofs.PutLaws.{put_enters}
use Rattle.law_xml.specs.Puts.{OutFits, StandsAt, phase_behind, read_out}

-- ---- pipes

-- what is carried is told by the bytes and the end mark
pub same_carries : (s : State) (part : List ℕ) (p q : Pipe) (items : List Item) (t : State) → p.bytes ≡ q.bytes → p.ended ≡ q.ended → Carries s part p items t → Carries s part q items t
same_carries s part p q items t bytes ended c = record {
  no_fault = c.no_fault;
  none_given = c.none_given;
  are_items = subst (λ e. AreItems e s (part ++ q.bytes) items t) ended (subst (λ b. AreItems p.ended s (part ++ b) items t) bytes c.are_items);
}

open_bytes : (p : Pipe) (more : List ℕ) → p.ended ≡ false → (entered more p).bytes ≡ p.bytes ++ more
open_bytes p more open_still = rw open_still refl

stays_open : (p : Pipe) (more : List ℕ) → p.ended ≡ false → (entered more p).ended ≡ false
stays_open p more open_still = rw open_still refl

-- ---- where the framer stands behind an item

pub stands_after : (i : ItemOut) (t : State) → StandsOutside t (phase_behind i) written_scope (codes "stream:stream") → StandsAt t (phase_behind i)
stands_after (Opening h) t at = at
stands_after (Whole e) t at = at
stands_after Closing t at = at

all_fit : (l m : Limits) (more : List ItemOut) → m ≡ l → AllByRecursion (OutFits l) more → AllByRecursion (OutFits m) more
all_fit l m more same fit = subst (λ k. AllByRecursion (OutFits k) more) (sym same) fit

-- ---- items, one behind the other

pub all_enter : (more : List ItemOut) (s : State) (part : List ℕ) (p : Pipe) (items : List Item) (t : State) (now : Phase) → Carries s part p items t → p.ended ≡ false
    → StandsAt t now → MayAll now more → AllByRecursion (OutFits t.limits) more → t.limits.attributes < 2 ^ 32 → t.limits.namespace_bytes < 2 ^ 32 → HavePut s part p items t now more
all_enter [] s part p items t now c open_still at may fit few names = record {
  read = [];
  are_read = tt;
  now = t;
  carries = subst (λ is. Carries s part (entered [] p) is t) (sym (append-nil items))
      (same_carries s part p (entered [] p) items t (sym (open_bytes p [] open_still ∙ append-nil p.bytes)) (open_still ∙ sym (stays_open p [] open_still)) c);
  stands = at;
  same_limits = refl;
}
all_enter (i ∷ rest) s part p items t now c open_still at may fit few names =
    let one = put_enters s part p items t c open_still now i at may.0 fit.0 few names in
    let has = one.entered_as in
    let bytes = written_item i in
    let next = entered bytes p in
    let still = stays_open p bytes open_still in
    let l = has.same_limits in
    let more = all_enter rest s part next (items ++ read_out one.at i ∷ []) has.now (phase_behind i) has.carries still (stands_after i has.now has.stands) may.1 (all_fit t.limits has.now.limits rest l fit.1)
    (subst (λ k. k.attributes < 2 ^ 32) (sym l) few) (subst (λ k. k.namespace_bytes < 2 ^ 32) (sym l) names) in
    let following = flat_map written_item rest in
    let whole = entered (bytes ++ following) p in
    let same_bytes = open_bytes next following still ∙ ap (λ b. b ++ following) (open_bytes p bytes open_still) ∙ append_assoc p.bytes bytes following ∙ sym (open_bytes p (bytes ++ following) open_still) in
    let same_end = stays_open next following still ∙ sym (stays_open p (bytes ++ following) open_still) in
    record {
      read = read_out one.at i ∷ more.read;
      are_read = (one.at, refl, more.are_read);
      now = more.now;
      carries = subst (λ is. Carries s part whole is more.now) (append_assoc items (read_out one.at i ∷ []) more.read)
          (same_carries s part (entered following next) whole _ more.now same_bytes same_end more.carries);
      stands = more.stands;
      same_limits = more.same_limits ∙ l;
    }
