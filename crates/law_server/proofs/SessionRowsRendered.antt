-- The rows on binding, acknowledgement and resumption go through.
use Rattle.std.proofs.Common.{◌≡◌, ℕ, nat_le, Bool, true, false, List, [], ◌∷◌, Option, Some, None, Result, Ok, Err, map, length, cond, refl, ap, ap₂, ◌∙◌}
use Rattle.std.proofs.lemmas.List.{length-map}
use Rattle.std.specs.Option.{option_map}
use Rattle.std.specs.Result.{result_ok}
use Rattle.sm_acks.specs.declared.end.TooHigh.{TooHigh as TooHighCount}
use Rattle.srv_state.specs.State.{ServerState, full_address}
use Rattle.srv_state.specs.Steps as steps
use Rattle.srv_state.specs.Steps.{Act}
use Rattle.srv_state.specs.Streams.{parting_where}
use Rattle.srv_state.specs.declared.limits.TheConstants.{ASKS_AT}
use Rattle.sm_live.specs.Sessions.{Session, ack_answer, ended_of, resume_answer, session_named, session_of, session_resumed}
use Rattle.sm_live.specs.declared.told.SessionInfo.{SessionInfo}
use Rattle.im_replies.specs.Management.{resumed_item}
use Rattle.im_replies.specs.Requests.{bound_item}
use Rattle.im_replies.specs.Streams.{error_item, too_high_item}
use Rattle.im_replies.specs.declared.conditions.StreamCondition.TheVariants.{Conflict}
use Rattle.sm_resumption.specs.declared.answers.Ended.{Ended}
use Rattle.sm_resumption.specs.declared.answers.ResumeFault.{ResumeFault}
use Rattle.sm_resumption.specs.declared.answers.ResumeFault.TheVariants.{TooHigh, UnknownPrevid}
use Rattle.sm_resumption.specs.declared.answers.ResumeOk.{ResumeOk}
use Rattle.law_server.proofs.SessionsRendered.{answer_rendered, ended_rendered, resent_rendered, resume_same, resumed_rendered}
use Rattle.law_server.specs.Rendered.{acts_rendered, rendered, server_state_rendered, session_rendered}
use Rattle.srv_handlers.specs.Bindings.{asked_resource, at_bind, binding_as, chosen, former_of}
use Rattle.srv_handlers.specs.Managements.{acknowledging, at_ack, at_enable, at_request}
use Rattle.srv_handlers.specs.Resumptions.{asking, at_resume, resent_where, resuming, saying}
use Rattle.xml_trees.specs.Trees.{Elem}
use Rattle.xml_writer.specs.Items.{Closing, ItemOut}

pub acts_either : {A B : Type 0} (f : A → B) (b : Bool) (x y : List (Act B)) (s t : List (Act A)) → x ≡ acts_rendered f s → y ≡ acts_rendered f t → cond b x y ≡ acts_rendered f (cond b s t)
acts_either f true x y s t here there = here
acts_either f false x y s t here there = there

parting_rendered : {A B : Type 0} (f : A → B) (say : ItemOut → A) (o : Option ℕ) (error : A) (more : List (Act A)) → parting_where (rendered f say) o (f error) (acts_rendered f more) ≡ acts_rendered f (parting_where say o error more)
parting_rendered f say None error more = refl
parting_rendered f say (Some k) error more = refl

-- ---- binding

binding_rendered : {A B : Type 0} (f : A → B) (say : ItemOut → A) (k account : ℕ) (id : List ℕ) (o : Option (List ℕ)) (h : ServerState A) → binding_as (rendered f say) k account id o (server_state_rendered f h) ≡ acts_rendered f (binding_as say k account id o h)
binding_rendered f say k account id None h = refl
binding_rendered f say k account id (Some resource) h =
    ap (λ (o : Option Ended). steps.Bind account resource k ∷ parting_where (rendered f say) (former_of o) (f (say (error_item Conflict))) (steps.Say k (f (say (bound_item id (full_address account resource h)))) ∷ [])) (ended_rendered f account resource h.sessions)
    ∙ ap (λ acts. steps.Bind account resource k ∷ acts)
    (parting_rendered f say (former_of (option_map ended_of (session_named account resource h.sessions))) (say (error_item Conflict)) (steps.Say k (say (bound_item id (full_address account resource h))) ∷ []))

pub bind_rendered : {A B : Type 0} (f : A → B) (say : ItemOut → A) (k account : ℕ) (id : List ℕ) (bind : Elem) (h : ServerState A) → at_bind (rendered f say) k account id bind (server_state_rendered f h) ≡ acts_rendered f (at_bind say k account id bind h)
bind_rendered f say k account id bind h = binding_rendered f say k account id (result_ok (chosen h.next (asked_resource bind))) h

-- ---- acknowledgement

pub enable_rendered : {A B : Type 0} (f : A → B) (say : ItemOut → A) (k : ℕ) (resume : Bool) (t : SessionInfo) → at_enable (rendered f say) k resume t ≡ acts_rendered f (at_enable say k resume t)
enable_rendered f say k resume t = acts_either f t.counted _ _ _ _ refl refl

pub request_rendered : {A B : Type 0} (f : A → B) (say : ItemOut → A) (k : ℕ) (t : SessionInfo) → at_request (rendered f say) k t ≡ acts_rendered f (at_request say k t)
request_rendered f say k t = acts_either f t.counted _ _ _ _ refl refl

acknowledging_rendered : {A B : Type 0} (f : A → B) (say : ItemOut → A) (k n h : ℕ) (o : Option (Result ℕ TooHighCount)) → acknowledging (rendered f say) k n h o ≡ acts_rendered f (acknowledging say k n h o)
acknowledging_rendered f say k n h None = refl
acknowledging_rendered f say k n h (Some (Ok more)) = refl
acknowledging_rendered f say k n h (Some (Err why)) = refl

pub ack_rendered : {A B : Type 0} (f : A → B) (say : ItemOut → A) (k h : ℕ) (t : SessionInfo) (server_state : ServerState A) → at_ack (rendered f say) k h t (server_state_rendered f server_state) ≡ acts_rendered f (at_ack say k h t server_state)
ack_rendered f say k h t server_state =
    acts_either f t.counted _ _ _ _
    (ap (acknowledging (rendered f say) k t.number h) (answer_rendered f h t.number server_state.sessions) ∙ acknowledging_rendered f say k t.number h (option_map (ack_answer h) (session_of t.number server_state.sessions)))
    refl

-- ---- resumption

saying_rendered : {A B : Type 0} (f : A → B) (k : ℕ) (items : List A) (more : List (Act A)) → saying k (map f items) (acts_rendered f more) ≡ acts_rendered f (saying k items more)
saying_rendered f k [] more = refl
saying_rendered f k (a ∷ items) more = ap (λ acts. steps.Say k (f a) ∷ acts) (saying_rendered f k items more)

asking_rendered : {A B : Type 0} (f : A → B) (say : ItemOut → A) (k n : ℕ) (due : Bool) → asking (rendered f say) k n due ≡ acts_rendered f (asking say k n due)
asking_rendered f say k n true = refl
asking_rendered f say k n false = refl

resent_same : {A B : Type 0} (f : A → B) (h : ℕ) (o : Option (Session A)) → resent_where h (option_map (session_rendered f) o) ≡ map f (resent_where h o)
resent_same f h None = refl
resent_same f h (Some s) = resent_rendered f h s

sayings_rendered : {A B : Type 0} (f : A → B) (say : ItemOut → A) (k n : ℕ) (waiting : List A) → saying k (map f waiting) (asking (rendered f say) k n (nat_le ASKS_AT (length (map f waiting)))) ≡ acts_rendered f (saying k waiting (asking say k n (nat_le ASKS_AT (length waiting))))
sayings_rendered f say k n waiting =
    ap (λ (m : ℕ). saying k (map f waiting) (asking (rendered f say) k n (nat_le ASKS_AT m))) (length-map waiting f)
    ∙ ap (saying k (map f waiting)) (asking_rendered f say k n (nat_le ASKS_AT (length waiting)))
    ∙ saying_rendered f k waiting (asking say k n (nat_le ASKS_AT (length waiting)))

resuming_rendered : {A B : Type 0} (f : A → B) (say : ItemOut → A) (k account : ℕ) (previd : List ℕ) (h : ℕ) (r : Result ResumeOk ResumeFault) (waiting : List A) → resuming (rendered f say) k account previd h r (map f waiting) ≡ acts_rendered f (resuming say k account previd h r waiting)
resuming_rendered f say k account previd h (Err UnknownPrevid) waiting = refl
resuming_rendered f say k account previd h (Err (TooHigh stated send_count former)) waiting =
    ap (λ acts. steps.Resume previd account h k ∷ steps.Say k (f (say (too_high_item stated send_count))) ∷ steps.Say k (f (say Closing)) ∷ steps.Close k ∷ acts) (parting_rendered f say former (say (error_item Conflict)) [])
resuming_rendered f say k account previd h (Ok resumed) waiting =
    ap (λ acts. steps.Resume previd account h k ∷ steps.Ask resumed.number false ∷ parting_where (rendered f say) resumed.former (f (say (error_item Conflict))) (steps.Say k (f (say (resumed_item resumed.number resumed.handled))) ∷ acts)) (sayings_rendered f say k resumed.number waiting)
    ∙ ap (λ acts. steps.Resume previd account h k ∷ steps.Ask resumed.number false ∷ acts)
    (parting_rendered f say resumed.former (say (error_item Conflict)) (steps.Say k (say (resumed_item resumed.number resumed.handled)) ∷ saying k waiting (asking say k resumed.number (nat_le ASKS_AT (length waiting)))))

pub resume_rendered : {A B : Type 0} (f : A → B) (say : ItemOut → A) (k account : ℕ) (previd : List ℕ) (h : ℕ) (server_state : ServerState A) → at_resume (rendered f say) k account previd h (server_state_rendered f server_state) ≡ acts_rendered f (at_resume say k account previd h server_state)
resume_rendered f say k account previd h server_state =
    let o = session_resumed previd account server_state.sessions in
    ap (λ p. resuming (rendered f say) k account previd h (resume_answer h p) (resent_where h p)) (resumed_rendered f previd account server_state.sessions)
    ∙ ap₂ (λ r waiting. resuming (rendered f say) k account previd h r waiting) (resume_same f h o) (resent_same f h o)
    ∙ resuming_rendered f say k account previd h (resume_answer h o) (resent_where h o)
