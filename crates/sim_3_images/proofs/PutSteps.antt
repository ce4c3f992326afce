-- What is put enters a pipe of bytes as it enters the pipe of items.
use Rattle.std.proofs.Common.{◌≡◌, ℕ, ◌<◌, ◌^◌, Bool, true, false, List, [], ◌∷◌, ◌++◌, Option, Some, map, refl, sym, ap, subst, ◌∙◌, append_assoc, append-nil, cond, flat_map}
use Rattle.std.specs.List.{AllByRecursion}
use Rattle.std.proofs.lemmas.List.{map-append}
use Rattle.std.proofs.lemmas.Bool.{cond-false, cond-true}
use Rattle.xml_framer.specs.States.{State}
use Rattle.xml_framer.specs.declared.items.Item.{Item}
use Rattle.xml_framer.specs.declared.limits.Limits.{Limits}
use Rattle.xml_framer.specs.declared.states.Phase.{Phase}
use Rattle.xml_framer.specs.declared.states.Phase.TheVariants as phase
use Rattle.law_xml.specs.Spells.{placed}
use Rattle.sim_3_items.specs.ItemPipes as items
use Rattle.sim_3_items.specs.ItemPipes.{ItemPipe}
use Rattle.sim_3_items.specs.ItemWorlds.{read_of}
use Rattle.net_pipes.specs.Pipes.{Pipe, entered}
use Rattle.xml_writer.specs.Items.{Closing, ItemOut, Opening, Whole, written_item}
use Rattle.law_xml.proofs.PutLaws.{put_enters}
use Rattle.law_xml.proofs.PutRuns.{stands_after}
use Rattle.law_xml.specs.Puts.{MayPut, OutFits, phase_behind, read_out}
use Rattle.sim_3_images.specs.PipeEncodings.{AreRead, IsCarried, PipeEncodes, Standing, over, standing}
use Rattle.sim_3_images.proofs.PipeSteps.{encodes_same, ended_encodes}

-- ---- the fields of what entered

either_pipe : {T : Type 0} (f : Pipe → T) (e : Bool) (a b : Pipe) → f b ≡ f a → f (cond e a b) ≡ f a
either_pipe f true a b same = refl
either_pipe f false a b same = same

either_items : {T : Type 0} (f : ItemPipe → T) (e : Bool) (a b : ItemPipe) → f b ≡ f a → f (cond e a b) ≡ f a
either_items f true a b same = refl
either_items f false a b same = same

pub ended_entered : (more : List ℕ) (b : Pipe) → (entered more b).ended ≡ b.ended
ended_entered more b = either_pipe (λ p. p.ended) b.ended b (record b { bytes = b.bytes ++ more; put = (entered more (record b { ended = false })).put }) refl

pub told_entered : (more : List ℕ) (b : Pipe) → (entered more b).told ≡ b.told
told_entered more b = either_pipe (λ p. p.told) b.ended b (record b { bytes = b.bytes ++ more; put = (entered more (record b { ended = false })).put }) refl

pub bytes_entered : (more : List ℕ) (b : Pipe) → (entered more b).bytes ≡ cond b.ended b.bytes (b.bytes ++ more)
bytes_entered more b = by b.ended
  where
    by : (e : Bool) → (cond e b (record b { bytes = b.bytes ++ more; put = (entered more (record b { ended = false })).put })).bytes ≡ cond e b.bytes (b.bytes ++ more)
    by true = refl
    by false = refl

pub items_ended_entered : (more : List ItemOut) (p : ItemPipe) → (items.entered more p).ended ≡ p.ended
items_ended_entered more p = either_items (λ q. q.ended) p.ended p (record p { items = p.items ++ more }) refl

pub items_told_entered : (more : List ItemOut) (p : ItemPipe) → (items.entered more p).told ≡ p.told
items_told_entered more p = either_items (λ q. q.told) p.ended p (record p { items = p.items ++ more }) refl

-- ---- one thing

reads_out : (at : ℕ) (i : ItemOut) → placed 0 (read_out at i) ≡ read_of i
reads_out at (Opening h) = refl
reads_out at (Whole e) = refl
reads_out at Closing = refl

read_more : (at : ℕ) (items : List Item) (outs : List ItemOut) (i : ItemOut) → AreRead items outs → AreRead (items ++ read_out at i ∷ []) (outs ++ i ∷ [])
read_more at items outs i e =
    map-append (placed 0) items (read_out at i ∷ []) ∙ ap (λ l. l ++ placed 0 (read_out at i) ∷ []) e ∙ ap (λ x. map read_of outs ++ x ∷ []) (reads_out at i) ∙ sym (map-append read_of outs (i ∷ []))

pub nothing_entered : (p : ItemPipe) → items.entered [] p ≡ p
nothing_entered p = by p.ended
  where
    by : (e : Bool) → cond e p (record p { items = p.items ++ [] }) ≡ p
    by true = refl
    by false = ap (λ l. record p { items = l }) (append-nil p.items)

module _ (limits : Limits) (few : limits.attributes < 2 ^ 32) (names : limits.namespace_bytes < 2 ^ 32) where
  -- into an ended pipe nothing enters
  lost : (writer next : Option Phase) (reader : Option State) (b : Pipe) (p : ItemPipe) (bytes : List ℕ) (more : List ItemOut) → b.ended ≡ true → PipeEncodes limits writer reader b p
      → PipeEncodes limits next reader (entered bytes b) (items.entered more p)
  lost writer next reader b p bytes more e i =
      let same : entered bytes b ≡ b = cond-true b.ended b (record b { bytes = b.bytes ++ bytes; put = (entered bytes (record b { ended = false })).put }) e in
      let same_items : items.entered more p ≡ p = cond-true p.ended p (record p { items = p.items ++ more }) (sym i.ended ∙ e) in
      subst (λ x. PipeEncodes limits next reader x (items.entered more p)) (sym same) (subst (PipeEncodes limits next reader b) (sym same_items) (ended_encodes limits writer next reader b p e i))

  put_open : (f : State) (reader : Option State) → reader ≡ Some f → (now : Phase) (b : Pipe) (p : ItemPipe) (i : ItemOut) → b.ended ≡ false → b.ended ≡ p.ended → b.told ≡ p.told → MayPut now i → OutFits limits i
      → Standing limits (Some now) f b p → PipeEncodes limits (Some (phase_behind i)) reader (entered (written_item i) b) (items.entered (i ∷ []) p)
  put_open f reader is now b p i e ended told may fits st =
      let a = st.awaits e in
      let h = put_enters st.start st.part b st.items st.following st.carries e now i a.stands may (subst (λ l. OutFits l i) (sym a.limits_are) fits) (subst (λ l. l.attributes < 2 ^ 32) (sym a.limits_are) few) (subst (λ l. l.namespace_bytes < 2 ^ 32) (sym a.limits_are) names) in
      let in_items : items.entered (i ∷ []) p ≡ record p { items = p.items ++ i ∷ [] } = cond-false p.ended p (record p { items = p.items ++ i ∷ [] }) (sym ended ∙ e) in
      record {
        ended = ended_entered (written_item i) b ∙ ended ∙ sym (items_ended_entered (i ∷ []) p);
        told = told_entered (written_item i) b ∙ told ∙ sym (items_told_entered (i ∷ []) p);
        carried = standing f is (record {
          start = st.start;
          part = st.part;
          items = st.items ++ read_out h.at i ∷ [];
          following = h.entered_as.now;
          held_is = st.held_is;
          carries = h.entered_as.carries;
          read = subst (λ (q : ItemPipe). AreRead (st.items ++ read_out h.at i ∷ []) q.items) (sym in_items) (read_more h.at st.items p.items i st.read);
          awaits = λ _. record { limits_are = h.entered_as.same_limits ∙ a.limits_are; stands = stands_after i h.entered_as.now h.entered_as.stands };
        });
      }

  pub put_encodes : (now : Phase) (reader : Option State) (b : Pipe) (p : ItemPipe) (i : ItemOut) → MayPut now i → OutFits limits i → PipeEncodes limits (Some now) reader b p
      → PipeEncodes limits (Some (phase_behind i)) reader (entered (written_item i) b) (items.entered (i ∷ []) p)
  put_encodes now reader b p i may fits m = by b.ended refl m.carried
    where
      by : (e : Bool) → b.ended ≡ e → IsCarried limits (Some now) reader b p → PipeEncodes limits (Some (phase_behind i)) reader (entered (written_item i) b) (items.entered (i ∷ []) p)
      by true e c = lost (Some now) (Some (phase_behind i)) reader b p (written_item i) (i ∷ []) e m
      by false e (over o) = lost (Some now) (Some (phase_behind i)) reader b p (written_item i) (i ∷ []) o.has_ended m
      by false e (standing f is st) = put_open f reader is now b p i e m.ended m.told may fits st

  -- ---- things of which none is a footer, one behind another

  two_entered : (x y : List ℕ) (b : Pipe) → (entered y (entered x b)).bytes ≡ (entered (x ++ y) b).bytes
  two_entered x y b =
      bytes_entered y (entered x b) ∙ ap (λ e. cond e (entered x b).bytes ((entered x b).bytes ++ y)) (ended_entered x b) ∙ ap (λ l. cond b.ended l (l ++ y)) (bytes_entered x b) ∙ by b.ended
      ∙ sym (bytes_entered (x ++ y) b)
    where
      by : (e : Bool) → cond e (cond e b.bytes (b.bytes ++ x)) (cond e b.bytes (b.bytes ++ x) ++ y) ≡ cond e b.bytes (b.bytes ++ (x ++ y))
      by true = refl
      by false = append_assoc b.bytes x y

  two_items_entered : (i : ItemOut) (more : List ItemOut) (p : ItemPipe) → items.entered more (items.entered (i ∷ []) p) ≡ items.entered (i ∷ more) p
  two_items_entered i more p = by p.ended refl
    where
      by : (e : Bool) → p.ended ≡ e → items.entered more (items.entered (i ∷ []) p) ≡ items.entered (i ∷ more) p
      by true e = rw e refl
      by false e = rw e (ap (λ l. record { items = l; ended = false; told = p.told }) (append_assoc p.items (i ∷ []) more))

  no_bytes_entered : (b : Pipe) → b.bytes ≡ (entered [] b).bytes
  no_bytes_entered b = sym (bytes_entered [] b ∙ by b.ended)
    where
      by : (e : Bool) → cond e b.bytes (b.bytes ++ []) ≡ b.bytes
      by true = refl
      by false = append-nil b.bytes

  pub puts_encodes : (reader : Option State) (b : Pipe) (p : ItemPipe) (more : List ItemOut) → AllByRecursion (λ i. phase_behind i ≡ phase.Between) more → AllByRecursion (OutFits limits) more
      → PipeEncodes limits (Some phase.Between) reader b p → PipeEncodes limits (Some phase.Between) reader (entered (flat_map written_item more) b) (items.entered more p)
  puts_encodes reader b p [] between fit m =
      subst (PipeEncodes limits (Some phase.Between) reader (entered [] b)) (sym (nothing_entered p))
      (encodes_same limits (Some phase.Between) reader b (entered [] b) p (no_bytes_entered b) (sym (ended_entered [] b)) (sym (told_entered [] b)) m)
  puts_encodes reader b p (i ∷ more) between fit m =
      let bytes = written_item i in
      let rest = flat_map written_item more in
      let one = subst (λ n. PipeEncodes limits (Some n) reader (entered bytes b) (items.entered (i ∷ []) p)) between.0 (put_encodes phase.Between reader b p i (may i) fit.0 m) in
      let all = puts_encodes reader (entered bytes b) (items.entered (i ∷ []) p) more between.1 fit.1 one in
      subst (PipeEncodes limits (Some phase.Between) reader (entered (bytes ++ rest) b)) (two_items_entered i more p)
      (encodes_same limits (Some phase.Between) reader (entered rest (entered bytes b)) (entered (bytes ++ rest) b) (items.entered more (items.entered (i ∷ []) p)) (two_entered bytes rest b)
      (ended_entered rest (entered bytes b) ∙ ended_entered bytes b ∙ sym (ended_entered (bytes ++ rest) b)) (told_entered rest (entered bytes b) ∙ told_entered bytes b ∙ sym (told_entered (bytes ++ rest) b)) all)
    where
      may : (i : ItemOut) → MayPut phase.Between i
      may i = tt

  -- the same, and a footer behind them
  pub puts_last : (reader : Option State) (b : Pipe) (p : ItemPipe) (more : List ItemOut) → AllByRecursion (λ i. phase_behind i ≡ phase.Between) more → AllByRecursion (OutFits limits) (more ++ Closing ∷ [])
      → PipeEncodes limits (Some phase.Between) reader b p → PipeEncodes limits (Some phase.Ended) reader (entered (flat_map written_item (more ++ Closing ∷ [])) b) (items.entered (more ++ Closing ∷ []) p)
  puts_last reader b p [] between fit m =
      subst (λ l. PipeEncodes limits (Some phase.Ended) reader (entered l b) (items.entered (Closing ∷ []) p)) (sym (append-nil (written_item Closing))) (put_encodes phase.Between reader b p Closing tt fit.0 m)
  puts_last reader b p (i ∷ more) between fit m =
      let bytes = written_item i in
      let last = more ++ Closing ∷ [] in
      let rest = flat_map written_item last in
      let one = subst (λ n. PipeEncodes limits (Some n) reader (entered bytes b) (items.entered (i ∷ []) p)) between.0 (put_encodes phase.Between reader b p i tt fit.0 m) in
      let all = puts_last reader (entered bytes b) (items.entered (i ∷ []) p) more between.1 fit.1 one in
      subst (PipeEncodes limits (Some phase.Ended) reader (entered (bytes ++ rest) b)) (two_items_entered i last p)
      (encodes_same limits (Some phase.Ended) reader (entered rest (entered bytes b)) (entered (bytes ++ rest) b) (items.entered last (items.entered (i ∷ []) p)) (two_entered bytes rest b)
      (ended_entered rest (entered bytes b) ∙ ended_entered bytes b ∙ sym (ended_entered (bytes ++ rest) b)) (told_entered rest (entered bytes b) ∙ told_entered bytes b ∙ sym (told_entered (bytes ++ rest) b)) all)
