-- Events of bytes go through, and so do the relations of a server's clauses.
use Rattle.std.proofs.Common.{◌≡◌, ℕ, List, [], ◌∷◌, Option, Some, None, length, drop, refl, sym, ap, ◌∙◌}
use Rattle.std.proofs.lemmas.List.{drop-map, length-map}
use Rattle.srv_state.specs.Moments.{gone_at}
use Rattle.srv_state.specs.State.{Out, Put, ServerState, Shut, Step, Took, is_number}
use Rattle.srv_state.specs.Steps.{acted}
use Rattle.srv_state.specs.Streams.{standing_at}
use Rattle.srv_state.specs.declared.connection.Standing.{Standing}
use Rattle.xml_framer.specs.States as framing
use Rattle.xml_framer.specs.States.{Turn}
use Rattle.xml_framer.specs.declared.fault.Fault.{Fault}
use Rattle.xml_framer.specs.declared.items.Item.{Item}
use Rattle.std.specs.Map.{remove_entry}
use Rattle.srv_core.specs.Events.{Framers, IsAfterBytes, StopsAt, Whole, after_bytes, after_fault, after_turn, at_fault, at_piece, begun, dropped, fault_condition, fed, framer_at, news, turn_of}
use Rattle.srv_core.specs.Table.{after_item, after_items}
use Rattle.law_server.proofs.StepsRendered.{steps_by}
use Rattle.law_server.proofs.StreamsRendered.{ending_rendered}
use Rattle.law_server.proofs.TableRendered.{items_rendered}
use Rattle.law_server.specs.Rendered.{acts_rendered, out_rendered, outs_rendered, rendered, server_state_rendered, step_rendered}
use Rattle.law_server.proofs.MomentsRendered.{begun_rendered, gone_rendered}
use Rattle.law_server.specs.Encodings.{whole_rendered}
use Rattle.xml_writer.specs.Items.{ItemOut}

-- ---- bytes

pub item_rendered : {A B : Type 0} (f : A → B) (say : ItemOut → A) (k : ℕ) (i : Item) (s : Step A) → after_item (rendered f say) k i (step_rendered f s) ≡ step_rendered f (after_item say k i s)
item_rendered f say k i s = items_rendered f say k (i ∷ []) s

fault_acts : {A B : Type 0} (f : A → B) (say : ItemOut → A) (k : ℕ) (e : Fault) (o : Option Standing) (h : ServerState A) → at_fault (rendered f say) k e o (server_state_rendered f h) ≡ acts_rendered f (at_fault say k e o h)
fault_acts f say k e None h = refl
fault_acts f say k e (Some st) h = ending_rendered f say k (fault_condition e.why) st h

pub fault_rendered : {A B : Type 0} (f : A → B) (say : ItemOut → A) (k : ℕ) (o : Option Fault) (s : Step A) → after_fault (rendered f say) k o (step_rendered f s) ≡ step_rendered f (after_fault say k o s)
fault_rendered f say k None s = refl
fault_rendered f say k (Some e) s =
    ap (λ acts. acted (rendered f say) acts (step_rendered f s)) (fault_acts f say k e (standing_at k s.server_state) s.server_state) ∙ steps_by f say (at_fault say k e (standing_at k s.server_state) s.server_state) s

pub turn_rendered : {A B : Type 0} (f : A → B) (say : ItemOut → A) (k : ℕ) (t : Turn) (s : Step A) → after_turn (rendered f say) k t (step_rendered f s) ≡ step_rendered f (after_turn say k t s)
turn_rendered f say k t s = ap (after_fault (rendered f say) k t.state.fault) (items_rendered f say k t.items s) ∙ fault_rendered f say k t.state.fault (after_items say k t.items s)

pub piece_rendered : {A B : Type 0} (f : A → B) (say : ItemOut → A) (k : ℕ) (piece : List ℕ) (o : Option framing.State) (s : Step A) → at_piece (rendered f say) k piece o (step_rendered f s) ≡ step_rendered f (at_piece say k piece o s)
piece_rendered f say k piece None s = refl
piece_rendered f say k piece (Some t) s = turn_rendered f say k (turn_of piece t) s

pub bytes_rendered : {A B : Type 0} (f : A → B) (say : ItemOut → A) (k : ℕ) (piece : List ℕ) (now : ℕ) (w : Whole A) (outs : List (Out A)) →
    after_bytes (rendered f say) k piece now (whole_rendered f w) (outs_rendered f outs) ≡ step_rendered f (after_bytes say k piece now w outs)
bytes_rendered f say k piece now w outs =
    ap (at_piece (rendered f say) k piece (framer_at k w.framers)) (begun_rendered f now w.server_state outs) ∙ piece_rendered f say k piece (framer_at k w.framers) (begun now w.server_state outs)

-- ---- what came out

pub news_rendered : {A B : Type 0} (f : A → B) (old new : List (Out A)) → news (outs_rendered f old) (outs_rendered f new) ≡ outs_rendered f (news old new)
news_rendered f old new = ap (λ n. drop n (outs_rendered f new)) (length-map old (out_rendered f)) ∙ drop-map (out_rendered f) (length old) new

pub dropped_rendered : {A B : Type 0} (f : A → B) (outs : List (Out A)) (framers : Framers) → dropped (outs_rendered f outs) framers ≡ dropped outs framers
dropped_rendered f [] framers = refl
dropped_rendered f (Put k a ∷ outs) framers = dropped_rendered f outs framers
dropped_rendered f (Shut k ∷ outs) framers = dropped_rendered f outs (remove_entry (is_number k) framers)
dropped_rendered f (Took from to origin ∷ outs) framers = dropped_rendered f outs framers

pub news_dropped : {A B : Type 0} (f : A → B) (old new : List (Out A)) (framers : Framers) → dropped (news (outs_rendered f old) (outs_rendered f new)) framers ≡ dropped (news old new) framers
news_dropped f old new framers = ap (λ outs. dropped outs framers) (news_rendered f old new) ∙ dropped_rendered f (news old new) framers

-- ---- relations

pub after_rendered : {A B : Type 0} (f : A → B) (say : ItemOut → A) (k : ℕ) (piece : List ℕ) (now : ℕ) (old : Whole A) (outs : List (Out A)) (new : Whole A) (new_outs : List (Out A)) →
    IsAfterBytes say k piece now old outs new new_outs → IsAfterBytes (rendered f say) k piece now (whole_rendered f old) (outs_rendered f outs) (whole_rendered f new) (outs_rendered f new_outs)
after_rendered f say k piece now old outs new new_outs is =
    let same = bytes_rendered f say k piece now old outs in
    record {
      server_state = ap (server_state_rendered f) is.server_state ∙ sym (ap (λ s. s.server_state) same);
      outputs = ap (outs_rendered f) is.outputs ∙ sym (ap (λ s. s.outs) same);
      framers_are = is.framers_are ∙ sym (news_dropped f outs new_outs (fed k piece (framer_at k old.framers) old.framers));
    }

done_rendered : {A B : Type 0} (f : A → B) (say : ItemOut → A) (k : ℕ) (done : List Item) (now : ℕ) (h : ServerState A) (outs : List (Out A)) →
    after_items (rendered f say) k done (begun now (server_state_rendered f h) (outs_rendered f outs)) ≡ step_rendered f (after_items say k done (begun now h outs))
done_rendered f say k done now h outs = ap (after_items (rendered f say) k done) (begun_rendered f now h outs) ∙ items_rendered f say k done (begun now h outs)

pub stops_rendered : {A B : Type 0} (f : A → B) (say : ItemOut → A) (k : ℕ) (t : Turn) (now : ℕ) (old : Whole A) (outs : List (Out A)) (new : Whole A) (new_outs : List (Out A)) →
    StopsAt say k t now old outs new new_outs → StopsAt (rendered f say) k t now (whole_rendered f old) (outs_rendered f outs) (whole_rendered f new) (outs_rendered f new_outs)
stops_rendered f say k t now old outs new new_outs is =
    let same = done_rendered f say k is.done now old.server_state outs in
    record {
      done = is.done;
      front = is.front;
      server_state = ap (server_state_rendered f) is.server_state ∙ sym (ap (λ s. gone_at k s.server_state) same ∙ gone_rendered f k (after_items say k is.done (begun now old.server_state outs)).server_state);
      outputs = ap (outs_rendered f) is.outputs ∙ sym (ap (λ s. s.outs) same);
      framers_are = is.framers_are ∙ sym (news_dropped f outs new_outs (remove_entry (is_number k) old.framers));
    }
