-- What an event makes of a server and its outputs.
use Rattle.std.proofs.Common.{◌≡◌, ℕ, List, [], ◌∷◌, ap, subst, sym, ◌∙◌}
use Rattle.srv_state.specs.Seen.{outs_of}
use Rattle.srv_state.specs.State.{Out, ServerState}
use Rattle.srv_state.specs.declared.output.Output.{Output}
use Rattle.cmd_journal.specs.AccountsFiles.{AccountsView}
use Rattle.cmd_journal.specs.Journals.{EventView, Piece}
use Rattle.cmd_rerun.specs.Reruns.{AreFresh, IsFresh, Run, after_event, after_events, run_at_start, run_of}
use Rattle.srv_core.specs.Events.{Framers, IsAfterBytes, Whole, after_bytes, dropped, fed, framer_at, news, whole}
use Rattle.xml_writer.specs.Items.{written_item}

abbrev made : ServerState (List ℕ) → Framers → List (Out (List ℕ)) → Run
made h framers outs = record { server = whole h framers; outs = outs }

run_is : (h i : ServerState (List ℕ)) (f g : Framers) (a b : List (Out (List ℕ))) → h ≡ i → f ≡ g → a ≡ b → made h f a ≡ made i g b
run_is h i f g a b p q r = ap (λ x. made x f a) p ∙ ap (λ x. made i x a) q ∙ ap (λ x. made i g x) r

-- the bytes of an event
pub piece_is : (k : ℕ) (bytes : List ℕ) (now : ℕ) (old new : Whole (List ℕ)) (outs new_outs : List Output) → IsAfterBytes written_item k bytes now old (outs_of outs) new (outs_of new_outs)
    → run_of new new_outs ≡ after_event (Piece k now bytes) (run_of old outs)
piece_is k bytes now old new outs new_outs is =
    let done = after_bytes written_item k bytes now old (outs_of outs) in
    run_is new.server_state done.server_state new.framers (dropped (news (outs_of outs) done.outs) (fed k bytes (framer_at k old.framers) old.framers)) (outs_of new_outs) done.outs
    is.server_state (is.framers_are ∙ ap (λ (o : List (Out (List ℕ))). dropped (news (outs_of outs) o) (fed k bytes (framer_at k old.framers) old.framers)) is.outputs) is.outputs

-- ---- one event after another

pub fresh_first : (event : EventView) (all rest : List EventView) (r : Run) → all ≡ event ∷ rest → AreFresh all r → IsFresh event r.server
fresh_first event all rest r is fresh = (subst (λ (es : List EventView). AreFresh es r) is fresh).0

pub fresh_on : (event : EventView) (all rest : List EventView) (r u : Run) → all ≡ event ∷ rest → u ≡ after_event event r → AreFresh all r → AreFresh rest u
fresh_on event all rest r u is next fresh = subst (λ (v : Run). AreFresh rest v) (sym next) (subst (λ (es : List EventView). AreFresh es r) is fresh).1

pub runs_on : (event : EventView) (all rest : List EventView) (r u due : Run) → all ≡ event ∷ rest → u ≡ after_event event r → after_events all r ≡ due → after_events rest u ≡ due
runs_on event all rest r u due is next was = ap (after_events rest) next ∙ ap (λ (es : List EventView). after_events es r) (sym is) ∙ was

-- ---- all events

pub whole_run : (file : AccountsView) (events : List EventView) (r : Run) (w : Whole (List ℕ)) (outputs : List Output) → r ≡ after_events events (run_of w outputs)
    → w ≡ (run_at_start file).server → outputs ≡ [] → r ≡ after_events events (run_at_start file)
whole_run file events r w outputs is begins none =
    is ∙ ap (after_events events) (ap (λ (v : Whole (List ℕ)). run_of v outputs) begins ∙ ap (λ (os : List Output). run_of (run_at_start file).server os) none)
