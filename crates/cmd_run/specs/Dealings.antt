-- What clauses see of the outside before a call and behind it.
use Rattle.std.specs.Prelude.{◌≡◌, ◌⊎◌, ◌++◌, ◌∷◌, [], ℕ, List, Option, Some, None, IfSome, IsSomeAnd, MatchOption}
use Rattle.base_io.specs.Counts.{Quiet, counted}
use Rattle.net_hub.specs.Backs.{AreAfter}
use Rattle.net_hub.specs.Joined.{HasWorkers}
use Rattle.net_traits.specs.Links.{LinkView}
use Rattle.net_hub.specs.GivenLinks.{AreGivenBack}
use Rattle.cmd_sync.specs.Talks.{DialerView}
use Rattle.cmd_run.specs.declared.cause.Cause.{Cause}

-- how many of a door's calls failed, how many links it handed out, and those that were given back to it
pub record DoorView : Type 0 where
  pub faults : ℕ
  pub handed : ℕ
  pub given : List LinkView

-- a door and a dialer, the moments that the clock told so far and the random bytes that were drawn, how many drawings failed, how
-- many threads could not be started, how many were started, and the cause that was told last
pub record OutsideView : Type 0 where
  pub door : Option DoorView
  pub dialer : DialerView
  pub told : List ℕ
  pub drawn : List ℕ
  pub draws : ℕ
  pub starts : ℕ
  pub started : ℕ
  pub cause : Option Cause

-- the outside before a call, and behind it
pub record Dealings : Type 0 where
  pub before : OutsideView
  pub following : OutsideView

-- the same of a call by what it sees of the outside
abbrev pub dealings_of : {S : Type 0} → (S → OutsideView) → S → S → Dealings
dealings_of view old new = record { before = view old; following = view new }

-- this cause was told
abbrev pub HasTold : Cause → Dealings → Type 0
HasTold cause dealt = dealt.following.cause ≡ Some cause

-- a door, where there is one
abbrev pub door_view : {D : Type 0} → (D → ℕ) → (D → ℕ) → (D → List LinkView) → Option D → Option DoorView
door_view faults handed given None = None
door_view faults handed given (Some door) = Some (record { faults = faults door; handed = handed door; given = given door })

-- the door that there is neither failed nor stood at its end
abbrev pub IsQuietDoor : Dealings → Type 0
IsQuietDoor dealt = IfSome dealt.before.door (λ old. IfSome dealt.following.door (λ new. Quiet old.faults new.faults))

-- no call of the dialer and no link failed, and no link came back that had ended
pub record IsQuietDialer (dealt : Dealings) : Type 0 where
  pub faults : Quiet dealt.before.dialer.faults dealt.following.dialer.faults
  pub ends : Quiet dealt.before.dialer.ends dealt.following.dialer.ends

-- each link that the door handed out was given back to it, in order
abbrev pub AreBack : Dealings → Type 0
AreBack dealt = IsSomeAnd dealt.before.door (λ old. IsSomeAnd dealt.following.door (λ new. AreGivenBack old.handed new.handed old.given new.given))

-- the links that were given back to the door stand behind those that were there
abbrev pub AreKept : Dealings → Type 0
AreKept dealt = IfSome dealt.before.door (λ old. IfSome dealt.following.door (λ new. AreAfter old.given new.given))

-- Where the door is there still, no thread was started and no link given back to it; or an acceptor was started and joined, and
-- of each reader that was started the link was given back. Where it is not, no thread was started.
abbrev pub AreJoined : Dealings → Type 0
AreJoined dealt = IfSome dealt.before.door (λ old. MatchOption dealt.following.door (dealt.following.started ≡ dealt.before.started) (λ new.
    HasWorkers old.given new.given dealt.before.started dealt.following.started))

-- the dialer handed out a link, and got it back
pub record IsReturned (old new : DialerView) : Type 0 where
  pub link : LinkView
  pub given : new.given ≡ old.given ++ link ∷ []
  pub handed : new.handed ≡ counted old.handed

-- the dialer handed out none
pub record IsDialerKept (old new : DialerView) : Type 0 where
  pub given : new.given ≡ old.given
  pub handed : new.handed ≡ old.handed

-- the dialer handed out no link, or one that it got back
abbrev pub IsBack : Dealings → Type 0
IsBack dealt = IsDialerKept dealt.before.dialer dealt.following.dialer ⊎ IsReturned dealt.before.dialer dealt.following.dialer
