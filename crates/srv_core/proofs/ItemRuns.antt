-- The items of a piece take effect one after another, and where one of them can't, those before it did.
use Rattle.std.proofs.Common.{arith, length, append-nil, append_assoc, ◌≡◌, ℕ, List, [], ◌∷◌, ◌++◌, ap, sym, refl, ◌∙◌, None, Option}
use Rattle.xml_framer.specs.declared.items.Item.{Item}
use Rattle.std.specs.Option.{option_map}
use Rattle.srv_state.specs.State.{Step, conn_at}
use Rattle.srv_state.specs.Steps.{acted}
use Rattle.srv_state.specs.Streams.{standing_of}
use Rattle.srv_core.specs.Table.{after_item, after_items, at_open}
use Rattle.srv_core.specs.Taken.{HasTaken, Seen, Went}
use Rattle.srv_state.specs.declared.connection.Connection.{Connection}
use Rattle.xml_writer.specs.Items.{ItemOut, written_item}
pub use Rattle.xml_trees.proofs.AttributeOrder.{nothing_left}

pub items_append : {A : Type 0} (say : ItemOut → A) (k : ℕ) (a b : List Item) (s : Step A) → after_items say k (a ++ b) s ≡ after_items say k b (after_items say k a s)
items_append say k [] b s = refl
items_append say k (i ∷ is) b s = items_append say k is b (after_item say k i s)

pub went_on : (k : ℕ) (i : Item) (all left rest : List Item) (s t u : Seen) → Went k all left s t → left ≡ i ∷ rest → u ≡ after_item written_item k i t → Went k all rest s u
went_on k i all left rest s t u went is next = record {
  done = went.done ++ i ∷ [];
  whole = went.whole ∙ ap (λ l. went.done ++ l) is ∙ sym (append_assoc went.done (i ∷ []) rest);
  step = next ∙ ap (after_item written_item k i) went.step ∙ sym (items_append written_item k went.done (i ∷ []) s);
}

pub stopped : (k : ℕ) (all given left : List Item) (s t u : Seen) → Went k given left s t → all ≡ given → u ≡ t → HasTaken k all s u
stopped k all given left s t u went same stays = record {
  done = went.done;
  front = (left, same ∙ went.whole);
  step = stays ∙ went.step;
}

pub all_done : (k : ℕ) (all given left : List Item) (s t : Seen) → Went k given left s t → left ≡ [] → all ≡ given → t ≡ after_items written_item k all s
all_done k all given left s t went none same =
    went.step ∙ ap (λ l. after_items written_item k l s) (sym (append-nil went.done) ∙ ap (λ l. went.done ++ l) (sym none) ∙ sym went.whole ∙ sym same)

-- an item of a connection that isn't open
pub shut_stays : {A : Type 0} (say : ItemOut → A) (k : ℕ) (i : Item) (s : Step A) → conn_at k s.server_state ≡ None → after_item say k i s ≡ s
shut_stays say k i s none = ap (λ (o : Option Connection). acted say (at_open say k i (option_map standing_of o) s.server_state) s) none
