-- What the private code goes by: a plan as the code has it, archives that have room, and what was made for an account.
use Rattle.std.specs.Prelude.{◌≡◌, ◌<◌, ◌≤◌, ℕ, Bool, List, [], ◌∷◌, ◌++◌, Option, Some, None, IfSome, map, slice_get, slice_set}
use Rattle.mam_archive.specs.Entries.{ArchiveView, EntryView}
use Rattle.mam_archive.specs.declared.archive.TheConstants.{GREATEST_NUMBER}
use Rattle.srv_state.specs.Seen.{kept_of}
use Rattle.srv_state.specs.State.{Kept, Out, ServerState, Step, bare_address}
use Rattle.srv_state.specs.Steps.{appended}
use Rattle.im_forwarding.specs.Copies.{copied_text}
use Rattle.im_forwarding.specs.Passed.{passed_text}
use Rattle.srv_handlers.specs.Messages.{copy_for, number_in}
use Rattle.srv_handlers.specs.declared.outgoing_stanzas.Made.{Made}
use Rattle.srv_route.specs.Routes.{PlanOf, Bounced, Routed}
use Rattle.srv_route.specs.declared.routes.Plan.{Plan}
use Rattle.srv_route.specs.declared.routes.Plan.TheVariants as plan
use Rattle.im_stanza.specs.Views.{MessageView}

-- ---- plans

abbrev pub plan_view : Plan → PlanOf ℕ
plan_view (plan.Bounced e) = Bounced e
plan_view (plan.Routed r) = Routed r

-- ---- archives

-- an account's archive, as it is seen among these
abbrev pub seen_at : ℕ → List ArchiveView → Option Kept
seen_at account archives = slice_get (map kept_of archives) account

-- an entry fits without further memory
abbrev pub HasRoom : ArchiveView → Type 0
HasRoom a = (1 ≤ a.spare) × (a.last < GREATEST_NUMBER)

-- it does in the account's archive, where there is one
abbrev pub HasRoomAt : ℕ → List ArchiveView → Type 0
HasRoomAt account archives = IfSome (slice_get archives account) HasRoom

-- the archives with an entry more in the account's
abbrev pub with_entry : EntryView → ℕ → Option Kept → List Kept → List Kept
with_entry e account None archives = archives
with_entry e account (Some kept) archives = slice_set archives account (appended e kept)

-- ---- outputs

abbrev pub after_out : {A : Type 0} → Out A → Step A → Step A
after_out o s = record s { outs = s.outs ++ o ∷ [] }

-- ---- what was made for the sessions of an account

-- the message itself
abbrev pub IsPassed : MessageView → List ℕ → ServerState (List ℕ) → Option Made → Type 0
IsPassed m accounts h None = Unit {0}
IsPassed m accounts h (Some made) = made.bytes.items ≡ passed_text (bare_address made.account h) (number_in made.account accounts h) m

-- what is inside its copies
abbrev pub IsInside : Bool → MessageView → List ℕ → ServerState (List ℕ) → Option Made → Type 0
IsInside sent m accounts h None = Unit {0}
IsInside sent m accounts h (Some made) = made.bytes.items ≡ copied_text (copy_for sent m accounts made.account h)
