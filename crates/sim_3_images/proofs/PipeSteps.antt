-- What each operation on a pipe makes of the image that it is of a pipe of items.
use Rattle.std.proofs.Common.{◌≡◌, ◌==◌, ◌&&◌, not, ℕ, Bool, true, false, true≢false, List, [], ◌∷◌, ◌++◌, Option, Some, length, take, drop, map, refl, sym, ap, subst, ◌∙◌, arith}
use Rattle.std.proofs.Math.Seq.{drop-append_seam, take-append_seam, take-nil}
use Rattle.std.proofs.lemmas.List.{drop-map, length-map, map-append, take-map}
use Rattle.std.proofs.lemmas.Bool.{and_parts}
use Rattle.std.proofs.lemmas.Bool.Decides.{nat_tests}
use Rattle.law_xml.proofs.PipeLaws.{closes, cuts, due_means_none, end_told, fresh, hands, open_without_bytes}
use Rattle.law_xml.proofs.PutRuns.{same_carries}
use Rattle.law_xml.specs.Carries.{held}
use Rattle.xml_framer.specs.Machine.{run}
use Rattle.xml_framer.specs.States.{State, turn, from_start}
use Rattle.xml_framer.specs.declared.items.Item.{Item}
use Rattle.xml_framer.specs.declared.limits.Limits.{Limits}
use Rattle.xml_framer.specs.declared.states.Phase.{Phase}
use Rattle.xml_framer.specs.declared.states.Phase.TheVariants as phase
use Rattle.law_xml.specs.Spells.{placed}
use Rattle.sim_3_items.specs.ItemPipes as items
use Rattle.sim_3_items.specs.ItemPipes.{ItemPipe}
use Rattle.sim_3_items.specs.ItemWorlds.{read_of}
use Rattle.net_pipes.specs.Pipes.{Pipe, closed, emptied, empty_pipe, is_end_due, with_end_reported}
use Rattle.xml_writer.specs.Items.{ItemOut}
use Rattle.sim_3_images.specs.PipeEncodings.{AreRead, Awaits, IsCarried, IsCut, IsHanded, PipeEncodes, Standing, over, standing}

-- ---- a pipe's counts are not looked at

carried_same : (limits : Limits) (writer : Option Phase) (reader : Option State) (b c : Pipe) (p : ItemPipe) → b.bytes ≡ c.bytes → b.ended ≡ c.ended
    → IsCarried limits writer reader b p → IsCarried limits writer reader c p
carried_same limits writer reader b c p bytes ended (over o) = over (record { no_bytes = sym bytes ∙ o.no_bytes; no_items = o.no_items; has_ended = sym ended ∙ o.has_ended })
carried_same limits writer reader b c p bytes ended (standing f is st) = standing f is (record {
  start = st.start;
  part = st.part;
  items = st.items;
  following = st.following;
  held_is = st.held_is;
  carries = same_carries st.start st.part b c st.items st.following bytes ended st.carries;
  read = st.read;
  awaits = λ e. st.awaits (ended ∙ e);
})

pub encodes_same : (limits : Limits) (writer : Option Phase) (reader : Option State) (b c : Pipe) (p : ItemPipe) → b.bytes ≡ c.bytes → b.ended ≡ c.ended → b.told ≡ c.told
    → PipeEncodes limits writer reader b p → PipeEncodes limits writer reader c p
encodes_same limits writer reader b c p bytes ended told i =
    record { ended = sym ended ∙ i.ended; told = sym told ∙ i.told; carried = carried_same limits writer reader b c p bytes ended i.carried }

-- ---- a pipe that begins

pub fresh_encodes : (limits : Limits) → PipeEncodes limits (Some phase.First) (Some (from_start limits)) empty_pipe items.empty_pipe
fresh_encodes limits = record {
  ended = refl;
  told = refl;
  carried = standing (from_start limits) refl (record {
    start = from_start limits;
    part = [];
    items = [];
    following = from_start limits;
    held_is = refl;
    carries = fresh (from_start limits) refl;
    read = refl;
    awaits = λ e. record {
      limits_are = refl;
      stands = record { no_fault = refl; outside = refl; none_open = refl; text = refl; no_quote = refl; not_spoiled = refl; no_token = refl; no_pending = refl; none_used = refl; phase_is = refl; scope_is = refl; name_is = refl };
    };
  });
}

-- ---- an end

not_open : (b : Bool) (T : Type 0) → b ≡ true → b ≡ false → T
not_open b T is not = absurd (true≢false (sym is ∙ not))

pub over_encodes : (limits : Limits) (writer : Option Phase) (reader : Option State) (b : Pipe) (p : ItemPipe) → b.told ≡ p.told → PipeEncodes limits writer reader (emptied b) (items.emptied p)
over_encodes limits writer reader b p told = record { ended = refl; told = told; carried = over (record { no_bytes = refl; no_items = refl; has_ended = refl }) }

closed_carried : (limits : Limits) (writer next : Option Phase) (reader : Option State) (b : Pipe) (p : ItemPipe) → IsCarried limits writer reader b p → IsCarried limits next reader (closed b) (items.closed p)
closed_carried limits writer next reader b p (over o) = over (record { no_bytes = o.no_bytes; no_items = o.no_items; has_ended = refl })
closed_carried limits writer next reader b p (standing f is st) = standing f is (record {
  start = st.start;
  part = st.part;
  items = st.items;
  following = st.following;
  held_is = st.held_is;
  carries = closes st.start st.part b st.items st.following st.carries;
  read = st.read;
  awaits = not_open true (Awaits limits next st.following) refl;
})

-- behind the end mark its writer stands anywhere
pub closed_encodes : (limits : Limits) (writer next : Option Phase) (reader : Option State) (b : Pipe) (p : ItemPipe) → PipeEncodes limits writer reader b p
    → PipeEncodes limits next reader (closed b) (items.closed p)
closed_encodes limits writer next reader b p i = record { ended = refl; told = i.told; carried = closed_carried limits writer next reader b p i.carried }

ended_carried : (limits : Limits) (writer next : Option Phase) (reader : Option State) (b : Pipe) (p : ItemPipe) → b.ended ≡ true → IsCarried limits writer reader b p → IsCarried limits next reader b p
ended_carried limits writer next reader b p e (over o) = over o
ended_carried limits writer next reader b p e (standing f is st) = standing f is (record {
  start = st.start;
  part = st.part;
  items = st.items;
  following = st.following;
  held_is = st.held_is;
  carries = st.carries;
  read = st.read;
  awaits = not_open b.ended (Awaits limits next st.following) e;
})

pub ended_encodes : (limits : Limits) (writer next : Option Phase) (reader : Option State) (b : Pipe) (p : ItemPipe) → b.ended ≡ true → PipeEncodes limits writer reader b p → PipeEncodes limits next reader b p
ended_encodes limits writer next reader b p e i = record { ended = i.ended; told = i.told; carried = ended_carried limits writer next reader b p e i.carried }

told_carried : (limits : Limits) (writer : Option Phase) (reader : Option State) (b : Pipe) (p : ItemPipe) → IsCarried limits writer reader b p → IsCarried limits writer reader (with_end_reported b) (items.with_end_reported p)
told_carried limits writer reader b p (over o) = over (record { no_bytes = o.no_bytes; no_items = o.no_items; has_ended = o.has_ended })
told_carried limits writer reader b p (standing f is st) = standing f is (record {
  start = st.start;
  part = st.part;
  items = st.items;
  following = st.following;
  held_is = st.held_is;
  carries = end_told st.start st.part b st.items st.following st.carries;
  read = st.read;
  awaits = st.awaits;
})

pub told_encodes : (limits : Limits) (writer : Option Phase) (reader : Option State) (b : Pipe) (p : ItemPipe) → PipeEncodes limits writer reader b p
    → PipeEncodes limits writer reader (with_end_reported b) (items.with_end_reported p)
told_encodes limits writer reader b p i = record { ended = i.ended; told = refl; carried = told_carried limits writer reader b p i.carried }

-- ---- what is lost

read_first : (first others : List Item) (outs : List ItemOut) → AreRead (first ++ others) outs → AreRead first (take (length first) outs)
read_first first others outs e =
    sym (take-append_seam (map (placed 0) first) (map (placed 0) others)) ∙ ap (λ n. take n (map (placed 0) first ++ map (placed 0) others)) (length-map first (placed 0))
    ∙ ap (take (length first)) (sym (map-append (placed 0) first others) ∙ e) ∙ take-map read_of (length first) outs

read_others : (first others : List Item) (outs : List ItemOut) → AreRead (first ++ others) outs → AreRead others (drop (length first) outs)
read_others first others outs e =
    sym (drop-append_seam (map (placed 0) first) (map (placed 0) others)) ∙ ap (λ n. drop n (map (placed 0) first ++ map (placed 0) others)) (length-map first (placed 0))
    ∙ ap (drop (length first)) (sym (map-append (placed 0) first others) ∙ e) ∙ drop-map read_of (length first) outs

cut_of : (limits : Limits) (writer next : Option Phase) (reader : Option State) (b : Pipe) (p : ItemPipe) (n : ℕ) → b.told ≡ p.told → IsCarried limits writer reader b p → IsCut limits writer next reader b p n
cut_of limits writer next reader b p n told (over o) = record {
  count = 0;
  encodes = record {
    ended = refl;
    told = told;
    carried = over (record { no_bytes = ap (take n) o.no_bytes ∙ take-nil n; no_items = refl; has_ended = refl });
  };
}
cut_of limits writer next reader b p n told (standing f is st) =
    let k = cuts st.start st.part b st.items st.following n st.carries in
    record {
      count = length k.first;
      encodes = record {
        ended = refl;
        told = told;
        carried = standing f is (record {
          start = st.start;
          part = st.part;
          items = k.first;
          following = k.now;
          held_is = st.held_is;
          carries = k.left;
          read = read_first k.first k.others p.items (ap (map (placed 0)) (sym k.items_are) ∙ st.read);
          awaits = not_open true (Awaits limits next k.now) refl;
        });
      };
    }

pub cut_encodes : (limits : Limits) (writer next : Option Phase) (reader : Option State) (b : Pipe) (p : ItemPipe) (n : ℕ) → PipeEncodes limits writer reader b p → IsCut limits writer next reader b p n
cut_encodes limits writer next reader b p n i = cut_of limits writer next reader b p n i.told i.carried

-- ---- what is handed over

pub handed_encodes : (limits : Limits) (writer : Option Phase) (f : State) (b : Pipe) (p : ItemPipe) (n : ℕ) → b.ended ≡ p.ended → b.told ≡ p.told → Standing limits writer f b p → IsHanded limits writer f b p n
handed_encodes limits writer f b p n ended told st =
    let h = hands st.start st.part b st.items st.following n st.carries in
    let all : AreRead (h.first ++ h.others) p.items = ap (map (placed 0)) (sym h.items_are) ∙ st.read in
    record {
      count = length h.first;
      first = h.first;
      now = held h.now h.kept;
      run_is = subst (λ s. run (turn s []) (take n b.bytes) ≡ turn (held h.now h.kept) h.first) (sym st.held_is) (h.run_is []);
      no_fault = h.no_fault;
      read = read_first h.first h.others p.items all;
      encodes = record {
        ended = ended;
        told = told;
        carried = standing (held h.now h.kept) refl (record {
          start = h.now;
          part = h.kept;
          items = h.others;
          following = st.following;
          held_is = refl;
          carries = h.left;
          read = read_others h.first h.others p.items all;
          awaits = st.awaits;
        });
      };
    }

-- ---- no bytes

no_cons : (i : Item) (l : List Item) → [] ≡ i ∷ l → ⊥
no_cons i l e = cc

no_outs : (outs : List ItemOut) → AreRead [] outs → outs ≡ []
no_outs [] e = refl
no_outs (i ∷ outs) e = absurd (no_cons (read_of i) (map read_of outs) e)

none_left : (limits : Limits) (writer : Option Phase) (f : State) (b : Pipe) (p : ItemPipe) (items_are : List Item) → AreRead items_are p.items → items_are ≡ [] → p.items ≡ []
none_left limits writer f b p l e none = no_outs p.items (subst (λ l. AreRead l p.items) none e)

-- where the end is due no item is left
pub due_encodes : (limits : Limits) (writer : Option Phase) (reader : Option State) (b : Pipe) (p : ItemPipe) → PipeEncodes limits writer reader b p → is_end_due b ≡ true → p.items ≡ []
due_encodes limits writer reader b p i due = elim i.carried [
  | over o ↦ o.no_items
  | standing f is st ↦ none_left limits writer f b p st.items st.read (due_means_none st.start st.part b st.items st.following st.carries due)
]

-- where a pipe without bytes has not ended no item is under way
pub empty_encodes : (limits : Limits) (writer : Option Phase) (reader : Option State) (b : Pipe) (p : ItemPipe) → PipeEncodes limits writer reader b p → b.ended ≡ false → b.bytes ≡ [] → p.items ≡ []
empty_encodes limits writer reader b p i open_still none = by i.carried
  where
    by : IsCarried limits writer reader b p → p.items ≡ []
    by (over o) = o.no_items
    by (standing f is st) = none_left limits writer f b p st.items st.read (open_without_bytes st.start st.part b st.items st.following st.carries open_still none).0

-- ---- an end that is due

pub record IsDue (b : Pipe) : Type 0 where
  pub no_bytes : b.bytes ≡ []
  pub has_ended : b.ended ≡ true
  pub not_told : b.told ≡ false

due_parts : (bytes : List ℕ) (ended told : Bool) → (length bytes == 0 && ended && not told) ≡ true → (bytes ≡ []) × (ended ≡ true) × (told ≡ false)
due_parts [] true false e = (refl, refl, refl)
due_parts [] true true e = absurd (true≢false (sym e))
due_parts [] false told e = absurd (true≢false (sym e))
due_parts (x ∷ bytes) ended told e = absurd (omega (arith, by e))
  where
    by : (length (x ∷ bytes) == 0 && ended && not told) ≡ true → length (x ∷ bytes) ≡ 0
    by e = grind (arith, nat_tests, and_parts)

pub is_due : (b : Pipe) → is_end_due b ≡ true → IsDue b
is_due b due = (let h = due_parts b.bytes b.ended b.told due in record { no_bytes = h.0; has_ended = h.1; not_told = h.2 })

pub items_due : (limits : Limits) (writer : Option Phase) (reader : Option State) (b : Pipe) (p : ItemPipe) → PipeEncodes limits writer reader b p → is_end_due b ≡ true → items.is_end_due p ≡ true
items_due limits writer reader b p i due =
    let d = is_due b due in
    let none = due_encodes limits writer reader b p i due in
    let ended = sym i.ended ∙ d.has_ended in
    let told = sym i.told ∙ d.not_told in
    rw (none, ended, told) refl

-- its reader needs no framer any more
pub due_told_encodes : (limits : Limits) (writer next : Option Phase) (reader other : Option State) (b : Pipe) (p : ItemPipe) → PipeEncodes limits writer reader b p → is_end_due b ≡ true
    → PipeEncodes limits next other (with_end_reported b) (items.with_end_reported p)
due_told_encodes limits writer next reader other b p i due =
    let d = is_due b due in
    record { ended = i.ended; told = refl; carried = over (record { no_bytes = d.no_bytes; no_items = due_encodes limits writer reader b p i due; has_ended = d.has_ended }) }
