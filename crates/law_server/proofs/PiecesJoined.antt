-- What comes of two pieces is what comes of both in one.
use Rattle.std.proofs.Common.{◌≡◌, ℕ, false, List, [], ◌∷◌, ◌++◌, Option, Some, None, refl, sym, ap, ◌∙◌, inl, inr}
use Rattle.std.proofs.lemmas.Bool.{cases_Bool, false≢true}
use Rattle.std.specs.Option.{is_some, option_map}
use Rattle.srv_state.specs.State.{Step, conn_at}
use Rattle.srv_state.specs.Steps.{acted}
use Rattle.srv_state.specs.Streams.{standing_of}
use Rattle.srv_state.specs.declared.connection.Connection.{Connection}
use Rattle.xml_framer.proofs.ItemsBefore.{given_before}
use Rattle.xml_framer.proofs.Pieces.{run_append, stays}
use Rattle.xml_framer.specs.States.{State, turn}
use Rattle.xml_framer.specs.declared.fault.Fault.{Fault}
use Rattle.xml_framer.specs.declared.items.Item.{Item}
use Rattle.srv_core.proofs.ItemRuns.{items_append, shut_stays}
use Rattle.srv_core.specs.Events.{after_fault, after_turn, at_fault, at_piece, turn_of}
use Rattle.srv_core.specs.Table.{after_items}
use Rattle.srv_core.specs.Telling.{is_open}
use Rattle.law_server.specs.Pieces.{left_open}
use Rattle.xml_writer.specs.Items.{ItemOut}

turn_joined : (a b : List ℕ) (f : State) → turn_of (a ++ b) f ≡ turn (turn_of b (turn_of a f).state).state ((turn_of a f).items ++ (turn_of b (turn_of a f).state).items)
turn_joined a b f = run_append (turn f []) a b ∙ given_before (turn_of a f).state (turn_of a f).items b

is_none : {T : Type 0} (o : Option T) → is_some o ≡ false → o ≡ None
is_none None is = refl
is_none (Some x) is = absurd (false≢true (sym is))

-- a connection that isn't open

nothing_more : {A : Type 0} (say : ItemOut → A) (k : ℕ) (items : List Item) (s : Step A) → conn_at k s.server_state ≡ None → after_items say k items s ≡ s
nothing_more say k [] s none = refl
nothing_more say k (i ∷ items) s none = ap (after_items say k items) (shut_stays say k i s none) ∙ nothing_more say k items s none

no_fault : {A : Type 0} (say : ItemOut → A) (k : ℕ) (o : Option Fault) (s : Step A) → conn_at k s.server_state ≡ None → after_fault say k o s ≡ s
no_fault say k None s none = refl
no_fault say k (Some e) s none = ap (λ (c : Option Connection). acted say (at_fault say k e (option_map standing_of c) s.server_state) s) none

second : {A : Type 0} (say : ItemOut → A) (k : ℕ) (b : List ℕ) (f : State) (s : Step A) → after_turn say k (turn_of b f) s ≡ at_piece say k b (left_open k f s) s
second say k b f s =
    elim (cases_Bool (is_open k s)) [
      | inl still ↦ rw still refl
      | inr shut ↦
          let none = is_none (conn_at k s.server_state) shut in
          rw shut (ap (after_fault say k (turn_of b f).state.fault) (nothing_more say k (turn_of b f).items s none) ∙ no_fault say k (turn_of b f).state.fault s none)
    ]

pub joined : {A : Type 0} (say : ItemOut → A) (k : ℕ) (a b : List ℕ) (f : State) (s : Step A) → (turn_of a f).state.fault ≡ None
    → at_piece say k (a ++ b) (Some f) s ≡ at_piece say k b (left_open k (turn_of a f).state (at_piece say k a (Some f) s)) (at_piece say k a (Some f) s)
joined say k a b f s sound =
    let g = (turn_of a f).state in
    let u = after_items say k (turn_of a f).items s in
    let first : at_piece say k a (Some f) s ≡ u = ap (λ o. after_fault say k o u) sound in
    let whole : at_piece say k (a ++ b) (Some f) s ≡ after_turn say k (turn_of b g) u =
    ap (λ t. after_turn say k t s) (turn_joined a b f) ∙ ap (after_fault say k (turn_of b g).state.fault) (items_append say k (turn_of a f).items (turn_of b g).items s) in
    whole ∙ second say k b g u ∙ sym (ap (λ v. at_piece say k b (left_open k g v) v) first)

pub behind_fault : {A : Type 0} (say : ItemOut → A) (k : ℕ) (a b : List ℕ) (f : State) (e : Fault) (s : Step A) → (turn_of a f).state.fault ≡ Some e → at_piece say k (a ++ b) (Some f) s ≡ at_piece say k a (Some f) s
behind_fault say k a b f e s fault = ap (λ t. after_turn say k t s) (run_append (turn f []) a b ∙ stays (turn_of a f) b e fault)
