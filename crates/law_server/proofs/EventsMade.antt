-- What the clauses of a server's calls say of bytes is an event.
use Rattle.std.proofs.Common.{◌≡◌, ℕ, List, Option, Some, None, length, take, refl, sym, ap, ap₂, ◌∙◌}
use Rattle.srv_state.specs.Moments.{gone_at}
use Rattle.srv_state.specs.State.{Out, ServerState, is_number}
use Rattle.srv_core.specs.Events.{Framers, IsAfterBytes, Stops, Whole, after_bytes, begun, dropped, fed, framer_at, news, turn_of, whole}
use Rattle.srv_core.specs.Table.{after_items}
use Rattle.std.specs.Map.{remove_entry}
use Rattle.xml_framer.specs.States.{State}
use Rattle.law_server.specs.Events.{Bytes, Stop, after_event, left_at, run, stopped_in}
use Rattle.xml_writer.specs.Items.{ItemOut}
use Rattle.std.proofs.lemmas.List.{take_at}

-- a server whose parts are these
made : {A : Type 0} (new : Whole A) (new_outs : List (Out A)) (server_state : ServerState A) (framers : List (Out A) → Framers) (outs : List (Out A)) → new.server_state ≡ server_state → new_outs ≡ outs → new.framers ≡ framers new_outs
    → run new new_outs ≡ run (whole server_state (framers outs)) outs
made new new_outs server_state framers outs hall_is outs_are framers_are =
    ap₂ (λ h fs. run (whole h fs) new_outs) hall_is framers_are ∙ ap (λ os. run (whole server_state (framers os)) os) outs_are

pub taken : {A : Type 0} (say : ItemOut → A) (k : ℕ) (piece : List ℕ) (now : ℕ) (old : Whole A) (outs : List (Out A)) (new : Whole A) (new_outs : List (Out A))
    → IsAfterBytes say k piece now old outs new new_outs → run new new_outs ≡ after_event say (Bytes k piece now) (run old outs)
taken say k piece now old outs new new_outs is =
    let done = after_bytes say k piece now old outs in
    made new new_outs done.server_state (λ os. dropped (news outs os) (fed k piece (framer_at k old.framers) old.framers)) done.outs is.server_state is.outputs is.framers_are

stopped_at : {A : Type 0} (say : ItemOut → A) (k : ℕ) (piece : List ℕ) (now : ℕ) (o : Option State) (old : Whole A) (outs : List (Out A)) (new : Whole A) (new_outs : List (Out A))
    → Stops say k piece now o old outs new new_outs → (done : ℕ) × (run new new_outs ≡ stopped_in say k piece done now o (run old outs))
stopped_at say k piece now None old outs new new_outs is = absurd is
stopped_at say k piece now (Some f) old outs new new_outs is =
    let front : take (length is.done) (turn_of piece f).items ≡ is.done = ap (take (length is.done)) is.front.1 ∙ take_at is.done is.front.0 (length is.done) refl in
    let start = begun now old.server_state outs in
    let done = after_items say k is.done start in (
      length is.done,
      made new new_outs (gone_at k done.server_state) (λ os. dropped (news outs os) (remove_entry (is_number k) old.framers)) done.outs is.server_state is.outputs is.framers_are
          ∙ ap (λ items. left_at k (run old outs) (after_items say k items start)) (sym front),
    )

pub stopped : {A : Type 0} (say : ItemOut → A) (k : ℕ) (piece : List ℕ) (now : ℕ) (old : Whole A) (outs : List (Out A)) (new : Whole A) (new_outs : List (Out A))
    → Stops say k piece now (framer_at k old.framers) old outs new new_outs → (done : ℕ) × (run new new_outs ≡ after_event say (Stop k piece done now) (run old outs))
stopped say k piece now old outs new new_outs is = stopped_at say k piece now (framer_at k old.framers) old outs new new_outs is
