-- A script from its text to its answer.
use Rattle.std.proofs.Common.{◌≡◌, ℕ, ◌++◌, true, List, length, Option, Some, None, Result, Ok, Err, refl, sym, ap, ◌∙◌, inl, inr, arith}
use Rattle.std.specs.Prelude.{◌⊎◌, ◌&&◌, IfOk, IfErr, OnOk, IsOk, is_ok, is_some, is_none, nat_le, nat_lt}
use Rattle.std.specs.List.{list_all}
use Rattle.std.proofs.lemmas.Bool.{and_parts, and_from, false≢true}
use Rattle.std.proofs.lemmas.Bool.Decides.{nat_tests}
use Rattle.base_lemmas.proofs.Lists.{list_all-weaker}
use Rattle.cl_core.specs.Making.{made_by, made}
use Rattle.cl_core.specs.Values.{ClientValue}
use Rattle.cl_core.specs.declared.faults.ClientFault.{ClientFault}
use Rattle.im_jid.specs.Cuts.{local_of, resource_of}
use Rattle.im_jid.specs.Forms.{resource_form}
use Rattle.im_jid.specs.declared.fault.JidFault.{JidFault}
use Rattle.auth_scram.specs.Exchange.{is_plain, is_printable_ascii}
use Rattle.cmd_schedule.specs.declared.fault.LineWhy.{LineWhy}
use Rattle.cmd_sync.specs.ScriptReading.{script_reading}
use Rattle.cmd_sync.specs.Scripts.{ScriptView, is_account, is_password, is_password_byte, is_resource, may_log_in}
use Rattle.cmd_sync.specs.declared.script_fault.ScriptFault.{ScriptFault}
use Rattle.cmd_sync.specs.declared.script.User.{User}
use Rattle.cmd_sync.specs.declared.script.Step.{Step}
use Rattle.cmd_sync.specs.Courses.{CourseStep, begun}
use Rattle.cmd_sync.specs.Syncs.{IsBegun, IsRead, IsSynced, IsTold, IsUnread, IsUnrun, IsWhy}
use Rattle.cmd_sync.specs.Talks.{DialerView}
use Rattle.cmd_sync.specs.declared.sync_fault.SyncFault.{SyncFault}
use Rattle.cmd_sync.specs.declared.sync_fault.SyncFault.TheVariants.{BadLine, Link, Peer, Entropy, NoMemory}
use Rattle.cl_core.specs.declared.faults.ClientFault.TheVariants as want
use Rattle.cmd_sync.specs.declared.script_fault.ScriptFault.TheVariants as bad

-- ---- a client is made of who may log in

abbrev client_of : ClientValue → Result ClientValue ClientFault
client_of c = Ok c

abbrev no_client : ClientFault → Result ClientValue ClientFault
no_client fault = Err fault

printable : (b : ℕ) → is_password_byte b ≡ true → is_printable_ascii b ≡ true
printable b e = grind (arith, nat_tests)

plain : (text : List ℕ) → is_password text ≡ true → is_plain text ≡ true
plain text h =
    let outer = and_parts _ (list_all is_password_byte text) h in
    let inner = and_parts (nat_le 1 (length text)) (nat_le (length text) 100) outer.0 in
    let some : nat_lt 0 (length text) ≡ true = let one = inner.0 in grind (arith, nat_tests) in
    and_from (nat_lt 0 (length text)) _ some (list_all-weaker is_password_byte is_printable_ascii printable text outer.1)

not_made : (c : ClientValue) (fault : ClientFault) → client_of c ≡ no_client fault → ⊥
not_made c fault e = cc

made_bounded : (address : List ℕ) (l r : Option (List ℕ)) (password : List ℕ) (form : Result (List ℕ) JidFault) (fault : ClientFault) → is_some l && is_none r ≡ true → is_plain password ≡ true → is_ok form ≡ true
    → made_by address l r password form ≡ Err fault → ⊥
made_bounded address None r password form fault a p f e = false≢true a
made_bounded address (Some l) (Some r) password form fault a p f e = false≢true a
made_bounded address (Some l) None password (Err why) fault a p f e = false≢true f
made_bounded address (Some l) None password (Ok resource) fault a p f e = not_made _ fault (rw p at e)

pub made_of : (user : User) (fault : ClientFault) → may_log_in user ≡ true → made user.address user.password user.resource ≡ Err fault → ⊥
made_of user fault may e =
    let outer = and_parts (is_account user.address && is_password user.password) (is_resource user.resource) may in
    let inner = and_parts (is_account user.address) (is_password user.password) outer.0 in
    made_bounded user.address (local_of user.address) (resource_of user.address) user.password (resource_form user.resource) fault inner.0 (plain user.password inner.1) outer.1 e

same_refusal : (a b : ClientFault) → no_client a ≡ no_client b → a ≡ b
same_refusal a b e = cc

pub only_memory : (user : User) (fault : ClientFault) → may_log_in user ≡ true → (no_client fault ≡ no_client want.NoMemory) ⊎ (no_client fault ≡ made user.address user.password user.resource) → fault ≡ want.NoMemory
only_memory user fault may (inl e) = same_refusal fault want.NoMemory e
only_memory user fault may (inr e) = absurd (made_of user fault may (sym e))

-- ---- what was read

abbrev refusal : ScriptFault → Result ScriptView ScriptFault
refusal e = Err e

abbrev answer : ScriptView → Result ScriptView ScriptFault
answer s = Ok s

other : (a b : ScriptFault) → refusal a ≡ refusal b → a ≡ b
other a b e = cc

pub script_is : (text : List ℕ) (script : ScriptView) → (answer script ≡ refusal bad.NoMemory) ⊎ (answer script ≡ script_reading text) → script_reading text ≡ Ok script
script_is text script (inl e) = absurd cc
script_is text script (inr e) = sym e

memory_line : (line : ℕ) (reason : LineWhy) → bad.BadLine line reason ≡ bad.NoMemory → ⊥
memory_line line reason e = cc

pub bad_is : (text : List ℕ) (fault : ScriptFault) (line : ℕ) (reason : LineWhy) → fault ≡ bad.BadLine line reason → (refusal fault ≡ refusal bad.NoMemory) ⊎ (refusal fault ≡ script_reading text) → script_reading text ≡ refusal (bad.BadLine line reason)
bad_is text fault line reason is (inl e) = absurd (memory_line line reason (sym is ∙ other fault bad.NoMemory e))
bad_is text fault line reason is (inr e) = sym e ∙ ap (λ (f : ScriptFault). refusal f) is

pub script_ok : (text : List ℕ) (script : ScriptView) → script_reading text ≡ Ok script → IsOk (script_reading text)
script_ok text script e = rw e refl

-- ---- answers

pub on_ok : {A : Type 0} {P : Type 0} (r : Result A SyncFault) → P → OnOk r P
on_ok (Ok a) p = p
on_ok (Err fault) p = tt

pub synced_ok : {A : Type 0} (r : Result A SyncFault) (items : A → List ℕ) (text drawn_first drawn_now : List ℕ) (start : CourseStep) (old new : DialerView) → IsBegun text drawn_first drawn_now start → IfOk r (λ a. IsTold start old new (items a))
    → IfOk r (λ a. IsSynced text drawn_first drawn_now old new (items a))
synced_ok (Ok a) items text drawn_first drawn_now start old new begins told = record { start = start; begins = begins; told = told }
synced_ok (Err fault) items text drawn_first drawn_now start old new begins told = tt

why : (fault : SyncFault) (text drawn_first drawn_now : List ℕ) (before after : ℕ) (start : CourseStep) (old new : DialerView) → IsBegun text drawn_first drawn_now start → after ≡ before → IsUnrun fault start old new → IsWhy fault text drawn_first drawn_now before after old new
why (Peer failure) text drawn_first drawn_now before after start old new begins quiet e = (record { start = start; begins = begins; untold = e }, quiet)
why (Link failure) text drawn_first drawn_now before after start old new begins quiet e = (record { start = start; begins = begins; untold = e }, quiet)
why NoMemory text drawn_first drawn_now before after start old new begins quiet (inl same) = (inl same, quiet)
why NoMemory text drawn_first drawn_now before after start old new begins quiet (inr e) = (inr (record { start = start; begins = begins; untold = e }), quiet)
why (BadLine line reason) text drawn_first drawn_now before after start old new begins quiet e = absurd e
why Entropy text drawn_first drawn_now before after start old new begins quiet e = absurd e

pub synced_err : {A : Type 0} (r : Result A SyncFault) (text drawn_first drawn_now : List ℕ) (before after : ℕ) (start : CourseStep) (old new : DialerView) → IsBegun text drawn_first drawn_now start → after ≡ before
    → IfErr r (λ fault. IsUnrun fault start old new) → IfErr r (λ fault. IsWhy fault text drawn_first drawn_now before after old new)
synced_err (Ok a) text drawn_first drawn_now before after start old new begins quiet unrun = tt
synced_err (Err fault) text drawn_first drawn_now before after start old new begins quiet unrun = why fault text drawn_first drawn_now before after start old new begins quiet unrun

pub read_why : (fault : SyncFault) (text drawn_first drawn_now : List ℕ) (n : ℕ) (old : DialerView) → IsUnread fault text → IsWhy fault text drawn_first drawn_now n n old old
read_why (BadLine line reason) text drawn_first drawn_now n old e = (e, refl, refl)
read_why NoMemory text drawn_first drawn_now n old e = (inl refl, refl)
read_why (Peer failure) text drawn_first drawn_now n old e = absurd e
read_why (Link failure) text drawn_first drawn_now n old e = absurd e
read_why Entropy text drawn_first drawn_now n old e = absurd e

abbrev script_of : User → List Step → ScriptView
script_of account steps = record { user = account; steps = steps }

pub read_ok : (text : List ℕ) (account : User) (steps : List Step) → IsRead text account steps → IsOk (script_reading text)
read_ok text account steps e = script_ok text (script_of account steps) e.said

pub begins_so : (text drawn_first drawn_now : List ℕ) (account : User) (steps : List Step) (client : ClientValue) (entropy : List ℕ) → IsRead text account steps → made account.address account.password account.resource ≡ Ok client
    → drawn_now ≡ drawn_first ++ entropy → IsBegun text drawn_first drawn_now (begun client entropy steps)
begins_so text drawn_first drawn_now account steps client entropy read is told =
    record { script = script_of account steps; said = read.said; client = client; made_of = is; entropy = entropy; drawn = told; start_is = refl }
