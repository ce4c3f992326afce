-- Where the server awaits the first header of a connection, that comes next, or nothing comes any more.
use Rattle.std.proofs.Common.{◌≡◌, ℕ, zero, suc, ◌<◌, Bool, true, false, cond, List, [], ◌∷◌, ◌++◌, Option, Some, None, take, length, refl, sym, ap, subst, ◌∙◌, inl, inr, arith}
use Rattle.std.proofs.lemmas.Bool.{cases_eq}
use Rattle.std.proofs.lemmas.Option.{none-some, same_Some}
use Rattle.std.specs.List.{slice_get}
use Rattle.std.specs.Option.{option_map}
use Rattle.srv_state.specs.State.{Out, Put, ServerState, Shut, Took, is_number}
use Rattle.xml_framer.specs.declared.states.Phase.{Phase}
use Rattle.xml_framer.specs.declared.states.Phase.TheVariants as phase
use Rattle.sim_3_images.proofs.Lookups.{get_changed_other, get_changed_same}
use Rattle.sim_3_images.specs.EncodingsCores.{AreInOrder, IsInOrder, IsOpening, after_put, after_shut, writer_at}
use Rattle.sim_3_images.specs.WorldEncodings.{Begins, IsBegun}
use Rattle.sim_3_items.specs.ItemPipes.{ItemPipe, ItemWire, closed, cut_to, entered}
use Rattle.xml_names.specs.declared.headers.Header.{Header}
use Rattle.cmd_network.specs.Positions.{changed_at, changed_where}
use Rattle.cmd_world.specs.Worlds.{number_at}
use Rattle.xml_writer.specs.Items.{Closing, ItemOut, Opening, Whole}
use Rattle.law_xml.specs.Puts.{phase_behind}

-- ---- one pipe

pub closed_begun : (p : ItemPipe) → IsBegun p → IsBegun (closed p)
closed_begun p (inl h) = inl h
closed_begun p (inr over) = inr (over.0, refl)

cut_some : (n : ℕ) (p : ItemPipe) (h : Header) (rest : List ItemOut) → p.items ≡ Opening h ∷ rest → IsBegun (cut_to n p)
cut_some zero p h rest is = inr (refl, refl)
cut_some (suc n) p h rest is = inl (h, take n rest, ap (take (suc n)) is)

take_none : (n : ℕ) → take {A = ItemOut} n [] ≡ []
take_none zero = refl
take_none (suc n) = refl

pub cut_begun : (n : ℕ) (p : ItemPipe) → IsBegun p → IsBegun (cut_to n p)
cut_begun n p (inl h) = cut_some n p h.0 h.1 h.2
cut_begun n p (inr over) = inr (ap (take n) over.0 ∙ take_none n, refl)

pub entered_begun : (more : List ItemOut) (p : ItemPipe) → IsBegun p → IsBegun (entered more p)
entered_begun more p b = by p.ended refl b
  where
    by : (e : Bool) → p.ended ≡ e → IsBegun p → IsBegun (cond e p (record p { items = p.items ++ more }))
    by true is b = b
    by false is (inl h) = inl (h.0, h.1 ++ more, ap (λ l. l ++ more) h.2)
    by false is (inr over) = absurd (true_is_not (sym over.1 ∙ is))
      where
        true_is_not : true ≡ false → ⊥
        true_is_not e = cc

-- the first item that is handed over then
abbrev pub IsHeaded : List ItemOut → Type 0
IsHeaded [] = Unit {0}
IsHeaded (i ∷ l) = IsOpening i

headed_some : (n : ℕ) (l : List ItemOut) (h : Header) (rest : List ItemOut) → l ≡ Opening h ∷ rest → IsHeaded (take n l)
headed_some zero l h rest is = tt
headed_some (suc n) l h rest is = subst (λ x. IsHeaded (take (suc n) x)) (sym is) tt

pub begun_headed : (n : ℕ) (p : ItemPipe) → IsBegun p → IsHeaded (take n p.items)
begun_headed n p (inl h) = headed_some n p.items h.0 h.1 h.2
begun_headed n p (inr over) = subst IsHeaded (sym (ap (take n) over.0 ∙ take_none n)) tt

-- ---- connections

mapped_is : (g : ItemWire → ItemWire) (o : Option ItemWire) (p : ItemWire) → option_map g o ≡ Some p → (x : ItemWire) × (o ≡ Some x) × (g x ≡ p)
mapped_is g None p e = absurd (none-some p e)
mapped_is g (Some x) p e = (x, refl, same_Some (g x) p e)

-- one of them changes, and the server awaits no other first headers
pub begins_at : (ws : List ItemWire) (h h' : ServerState ItemOut) (q : ℕ) (g : ItemWire → ItemWire) → ((x : ItemWire) → IsBegun x.up → IsBegun (g x).up)
    → ((j : ℕ) → writer_at (number_at j) h' ≡ Some phase.First → writer_at (number_at j) h ≡ Some phase.First) → Begins ws h → Begins (changed_at q g ws) h'
begins_at ws h h' q g keeps same b position p found first = elim (cases_eq position q) [
  | inl here ↦
      let x = mapped_is g (slice_get ws q) p (sym (get_changed_same g ws q) ∙ ap (slice_get (changed_at q g ws)) (sym here) ∙ found) in
      subst (λ (y : ItemWire). IsBegun y.up) x.2 (keeps x.0 (b q x.0 x.1 (same q (ap (λ j. writer_at (number_at j) h') (sym here) ∙ first))))
  | inr other ↦ b position p (sym (get_changed_other g ws q position other) ∙ found) (same position first)
]

pub begins_where : (ws : List ItemWire) (h : ServerState ItemOut) (o : Option ℕ) (g : ItemWire → ItemWire) → ((x : ItemWire) → IsBegun x.up → IsBegun (g x).up) → Begins ws h → Begins (changed_where o g ws) h
begins_where ws h None g keeps b = b
begins_where ws h (Some q) g keeps b = begins_at ws h h q g keeps (λ j e. e) b

pub wire_there : (l : List ItemWire) (q : ℕ) → q < length l → (x : ItemWire) × (slice_get l q ≡ Some x)
wire_there [] q within = absurd (omega (arith, within))
wire_there (x ∷ l) zero within = (x, refl)
wire_there (x ∷ l) (suc q) within = wire_there l q (omega (arith, within))

-- ---- order

not_first : (i : ItemOut) → Some (phase_behind i) ≡ Some phase.First → ⊥
not_first (Opening h) e = cc
not_first (Whole e) is = cc
not_first Closing e = cc

-- a writer that stands before the first header did so before
pub first_before : (Fits : ItemOut → Type 0) (j : ℕ) (outs : List (Out ItemOut)) (now later : Option Phase) → AreInOrder Fits j now outs later → later ≡ Some phase.First → now ≡ Some phase.First
first_before Fits j [] now later order first = order ∙ first
first_before Fits j (Put k i ∷ outs) now later order first = by (λ n o. first_before Fits j outs n later o first) (is_number j k) now order.0 order.1
  where
    by : ((n : Option Phase) → AreInOrder Fits j n outs later → n ≡ Some phase.First) → (b : Bool) (now : Option Phase) → IsInOrder Fits b now i → AreInOrder Fits j (after_put b now i) outs later → now ≡ Some phase.First
    by more false now bounded rest = more now rest
    by more true None bad rest = absurd bad
    by more true (Some n) bounded rest = absurd (not_first i (more (Some (phase_behind i)) rest))
first_before Fits j (Shut k ∷ outs) now later order first = by (λ n o. first_before Fits j outs n later o first) (is_number j k) order
  where
    by : ((n : Option Phase) → AreInOrder Fits j n outs later → n ≡ Some phase.First) → (b : Bool) → AreInOrder Fits j (after_shut b now) outs later → now ≡ Some phase.First
    by more false rest = more now rest
    by more true rest = absurd (none-some phase.First (more None rest))
first_before Fits j (Took from to origin ∷ outs) now later order first = first_before Fits j outs now later order first
