-- What a server puts out comes behind what it put out before, and doesn't hang on that.
use Rattle.std.proofs.Common.{◌≡◌, ℕ, ◌==◌, not, Bool, true, false, List, [], ◌∷◌, ◌++◌, Option, Some, None, cond, refl, ap, ◌∙◌, append_assoc}
use Rattle.sm_acks.specs.declared.end.TheConstants.{MOST_UNACKNOWLEDGED}
use Rattle.srv_state.specs.State.{Out, Put, ServerState, Shut, Step, Took}
use Rattle.srv_state.specs.Steps as steps
use Rattle.srv_state.specs.Steps.{Act, act, acted, ask_where, in_sessions, is_due, overflow, part, part_where, put, put_where, queue, send_by_info, shut, told_out}
use Rattle.srv_state.specs.Streams.{standing_at}
use Rattle.xml_framer.specs.declared.items.Item.{Item}
use Rattle.sm_live.specs.Sessions.{info_of, waits, with_session, without}
use Rattle.sm_live.specs.declared.told.SessionInfo.{SessionInfo}
use Rattle.im_replies.specs.Management.{request_item}
use Rattle.im_replies.specs.Streams.{error_item}
use Rattle.im_replies.specs.declared.conditions.StreamCondition.TheVariants.{ResourceConstraint}
use Rattle.srv_core.specs.Table.{after_item, after_items, at_open}
use Rattle.xml_writer.specs.Items.{Closing, ItemOut}

abbrev pub following : {A : Type 0} → List (Out A) → Step A → Step A
following o s = record { server_state = s.server_state; outs = o ++ s.outs }

one_more : {A : Type 0} (o : List (Out A)) (s : Step A) (h : ServerState A) (x : Out A) → record { server_state = h; outs = (o ++ s.outs) ++ x ∷ [] } ≡ following o (record { server_state = h; outs = s.outs ++ x ∷ [] })
one_more o s h x = ap (λ l. record { server_state = h; outs = l }) (append_assoc o s.outs (x ∷ []))

put_after : {A : Type 0} (o : List (Out A)) (k : ℕ) (a : A) (s : Step A) → put k a (following o s) ≡ following o (put k a s)
put_after o k a s = one_more o s s.server_state (Put k a)

put_where_after : {A : Type 0} (o : List (Out A)) (k : Option ℕ) (a : A) (s : Step A) → put_where k a (following o s) ≡ following o (put_where k a s)
put_where_after o None a s = refl
put_where_after o (Some k) a s = put_after o k a s

shut_after : {A : Type 0} (o : List (Out A)) (k : ℕ) (s : Step A) → shut k (following o s) ≡ following o (shut k s)
shut_after o k s = one_more o s (shut k s).server_state (Shut k)

part_after : {A : Type 0} (o : List (Out A)) (say : ItemOut → A) (k : ℕ) (error : A) (s : Step A) → part say k error (following o s) ≡ following o (part say k error s)
part_after o say k error s =
    ap (λ u. shut k (put k (say Closing) u)) (put_after o k error s) ∙ ap (shut k) (put_after o k (say Closing) (put k error s)) ∙ shut_after o k (put k (say Closing) (put k error s))

part_where_after : {A : Type 0} (o : List (Out A)) (say : ItemOut → A) (k : Option ℕ) (error : A) (s : Step A) → part_where say k error (following o s) ≡ following o (part_where say k error s)
part_where_after o say None error s = refl
part_where_after o say (Some k) error s = part_after o say k error s

ask_where_after : {A : Type 0} (o : List (Out A)) (say : ItemOut → A) (n : ℕ) (k : Option ℕ) (due : Bool) (s : Step A) → ask_where say n k due (following o s) ≡ following o (ask_where say n k due s)
ask_where_after o say n k false s = refl
ask_where_after o say n None true s = refl
ask_where_after o say n (Some k) true s = one_more o s (ask_where say n (Some k) true s).server_state (Put k (say request_item))

queue_after : {A : Type 0} (o : List (Out A)) (say : ItemOut → A) (n : ℕ) (a : A) (t : SessionInfo) (s : Step A) → queue say n a t (following o s) ≡ following o (queue say n a t s)
queue_after o say n a t s =
    ap (ask_where say n t.conn (is_due t)) (put_where_after o t.conn a (in_sessions (with_session n (waits a)) s))
    ∙ ask_where_after o say n t.conn (is_due t) (put_where t.conn a (in_sessions (with_session n (waits a)) s))

send_after : {A : Type 0} (o : List (Out A)) (say : ItemOut → A) (n : ℕ) (a : A) (t : Option SessionInfo) (s : Step A) → send_by_info say n a t (following o s) ≡ following o (send_by_info say n a t s)
send_after o say n a None s = refl
send_after o say n a (Some t) s = uncounted t.counted
  where
    full : (e : Bool) → cond e (overflow say n t (following o s)) (queue say n a t (following o s)) ≡ following o (cond e (overflow say n t s) (queue say n a t s))
    full true = part_where_after o say t.conn (say (error_item ResourceConstraint)) (in_sessions (without n) s)
    full false = queue_after o say n a t s

    uncounted : (e : Bool) → cond (not e) (put_where t.conn a (following o s)) (cond (t.waiting == MOST_UNACKNOWLEDGED) (overflow say n t (following o s)) (queue say n a t (following o s)))
        ≡ following o (cond (not e) (put_where t.conn a s) (cond (t.waiting == MOST_UNACKNOWLEDGED) (overflow say n t s) (queue say n a t s)))
    uncounted false = put_where_after o t.conn a s
    uncounted true = full (t.waiting == MOST_UNACKNOWLEDGED)

act_after : {A : Type 0} (o : List (Out A)) (say : ItemOut → A) (a : Act A) (s : Step A) → act say a (following o s) ≡ following o (act say a s)
act_after o say (steps.Say k a) s = put_after o k a s
act_after o say (steps.Close k) s = shut_after o k s
act_after o say (steps.Enter k phase) s = refl
act_after o say (steps.Fail k left) s = refl
act_after o say (steps.Bind account resource k) s = refl
act_after o say (steps.Resume previd account h k) s = refl
act_after o say (steps.Enable n resume) s = refl
act_after o say (steps.Acknowledge n h) s = refl
act_after o say (steps.Ask n on) s = refl
act_after o say (steps.Handle n) s = refl
act_after o say (steps.Present n available priority) s = refl
act_after o say (steps.Copy n on) s = refl
act_after o say (steps.Send n a) s = send_after o say n a (info_of n s.server_state.sessions) s
act_after o say (steps.Archive account e) s = refl
act_after o say (steps.Tell from to origin) s = one_more o s s.server_state (Took from to origin)

acted_after : {A : Type 0} (o : List (Out A)) (say : ItemOut → A) (acts : List (Act A)) (s : Step A) → acted say acts (following o s) ≡ following o (acted say acts s)
acted_after o say [] s = refl
acted_after o say (a ∷ more) s = ap (acted say more) (act_after o say a s) ∙ acted_after o say more (act say a s)

pub item_after : {A : Type 0} (o : List (Out A)) (say : ItemOut → A) (k : ℕ) (i : Item) (s : Step A) → after_item say k i (following o s) ≡ following o (after_item say k i s)
item_after o say k i s = acted_after o say (at_open say k i (standing_at k s.server_state) s.server_state) s

pub items_after : {A : Type 0} (o : List (Out A)) (say : ItemOut → A) (k : ℕ) (items : List Item) (s : Step A) → after_items say k items (following o s) ≡ following o (after_items say k items s)
items_after o say k [] s = refl
items_after o say k (i ∷ items) s = ap (after_items say k items) (item_after o say k i s) ∙ items_after o say k items (after_item say k i s)
