-- What is known of a talk over a link.
use Rattle.std.specs.Prelude.{◌≡◌, ◌⊎◌, ℕ, ◌<◌, true, List, [], ◌∷◌, ◌++◌, length}
use Rattle.std.specs.Io.KnownBytes.{Appends}
use Rattle.std.specs.List.{flat_map}
use Rattle.base_io.specs.Counts.{Rose, counted}
use Rattle.base_io.specs.Prefixes.{AppendsPrefix}
use Rattle.net_traits.specs.Links.{IsUnused, LinkView, counted_if, has_ended, has_failed}
use Rattle.cmd_sync.specs.Courses.{Course, CourseStep, is_awaiting, over, takes}
use Rattle.cmd_sync.specs.declared.failure.LinkFailure.{LinkFailure}
use Rattle.cmd_sync.specs.declared.failure.LinkFailure.TheVariants.{Dial, Read, Write, End}
use Rattle.cmd_sync.specs.declared.sync_fault.Stop.{Stop}
use Rattle.cmd_sync.specs.declared.sync_fault.Stop.TheVariants.{Link, NoMemory}

-- pieces, one behind the other
abbrev pub joined : List (List ℕ) → List ℕ
joined pieces = flat_map (λ piece. piece) pieces

-- no call of the link failed, and no end was found
pub record NothingFailed (old new : LinkView) : Type 0 where
  pub read_faults : new.read_faults ≡ old.read_faults
  pub write_faults : new.write_faults ≡ old.write_faults
  pub ends : new.ends ≡ old.ends

-- ---- one piece

-- it was read, and what is put over it went out
pub record IsRound (old new : LinkView) (before after : Course) : Type 0 where
  pub piece : List ℕ
  pub some : 0 < length piece
  pub read : Appends old.read new.read piece
  pub written : Appends old.written new.written (takes before piece).put
  pub course : after ≡ (takes before piece).course
  pub nothing_failed : NothingFailed old new

-- the count that tells of such a read
abbrev pub HasDried : LinkFailure → LinkView → LinkView → Type 0
HasDried Read old new = Rose old.read_faults new.read_faults
HasDried End old new = Rose old.ends new.ends
HasDried Dial old new = ⊥
HasDried Write old new = ⊥

-- a read failed, or found the end, which is told: nothing came, and nothing went out
pub record IsDry (failure : LinkFailure) (old new : LinkView) : Type 0 where
  pub read : Appends old.read new.read []
  pub written : new.written ≡ old.written
  pub write_faults : new.write_faults ≡ old.write_faults
  pub cause : HasDried failure old new

-- a piece was read, and a write failed: a prefix of what is put over it went out
pub record IsCut (old new : LinkView) (before : Course) : Type 0 where
  pub piece : List ℕ
  pub read : Appends old.read new.read piece
  pub written : AppendsPrefix old.written new.written (takes before piece).put
  pub cause : Rose old.write_faults new.write_faults

-- a piece was read, and memory ran out: nothing went out
pub record IsStuck (old new : LinkView) : Type 0 where
  pub piece : List ℕ
  pub read : Appends old.read new.read piece
  pub written : new.written ≡ old.written

abbrev pub RoundStops : Stop → LinkView → LinkView → Course → Type 0
RoundStops (Link Dial) old new before = ⊥
RoundStops (Link Read) old new before = IsDry Read old new
RoundStops (Link Write) old new before = IsCut old new before
RoundStops (Link End) old new before = IsDry End old new
RoundStops NoMemory old new before = IsStuck old new

-- ---- all pieces

-- these were read, and all that was put over them went out
pub record IsSpoken (start : CourseStep) (old new : LinkView) (now : Course) : Type 0 where
  pub pieces : List (List ℕ)
  pub read : Appends old.read new.read (joined pieces)
  pub written : Appends old.written new.written (over start pieces).put
  pub course : now ≡ (over start pieces).course
  pub nothing_failed : NothingFailed old new

-- a read failed, or found the end, which is told, before all was done
pub record IsSevered (failure : LinkFailure) (start : CourseStep) (old new : LinkView) : Type 0 where
  pub pieces : List (List ℕ)
  pub read : Appends old.read new.read (joined pieces)
  pub written : Appends old.written new.written (over start pieces).put
  pub awaited : is_awaiting (over start pieces).course.stage ≡ true
  pub write_faults : new.write_faults ≡ old.write_faults
  pub cause : HasDried failure old new

-- a write failed: a prefix went out
pub record IsUnsent (start : CourseStep) (old new : LinkView) : Type 0 where
  pub pieces : List (List ℕ)
  pub read : Appends old.read new.read (joined pieces)
  pub written : AppendsPrefix old.written new.written (over start pieces).put
  pub cause : Rose old.write_faults new.write_faults

-- memory ran out: a prefix went out
pub record IsStarved (start : CourseStep) (old new : LinkView) : Type 0 where
  pub pieces : List (List ℕ)
  pub read : Appends old.read new.read (joined pieces)
  pub written : AppendsPrefix old.written new.written (over start pieces).put

abbrev pub TalkStops : Stop → CourseStep → LinkView → LinkView → Type 0
TalkStops (Link Dial) start old new = ⊥
TalkStops (Link Read) start old new = IsSevered Read start old new
TalkStops (Link Write) start old new = IsUnsent start old new
TalkStops (Link End) start old new = IsSevered End start old new
TalkStops NoMemory start old new = IsStarved start old new

-- ---- the dialer

-- how many of its calls failed, how many links came back that were at their end, how many it handed out, and those that were
-- given back to it
pub record DialerView : Type 0 where
  pub faults : ℕ
  pub ends : ℕ
  pub handed : ℕ
  pub given : List LinkView

-- it handed out a link, and this is how it was given back
pub record IsLent (old new : DialerView) (first last : LinkView) : Type 0 where
  pub unused : IsUnused first
  pub given : new.given ≡ old.given ++ last ∷ []
  pub handed : new.handed ≡ counted old.handed
  pub faults : new.faults ≡ counted_if (has_failed last) old.faults
  pub ends : new.ends ≡ counted_if (has_ended last) old.ends

-- its call failed, and it handed out none
pub record IsUndialed (old new : DialerView) : Type 0 where
  pub given : new.given ≡ old.given
  pub handed : new.handed ≡ old.handed
  pub ends : new.ends ≡ old.ends
  pub cause : Rose old.faults new.faults

-- all was said over a link, and it was given back
pub record IsHeld (start : CourseStep) (old new : DialerView) (now : Course) : Type 0 where
  pub first : LinkView
  pub last : LinkView
  pub lent : IsLent old new first last
  pub spoken : IsSpoken start first last now

-- so it stopped over a link, which was given back
pub record IsBroken (stop : Stop) (start : CourseStep) (old new : DialerView) : Type 0 where
  pub first : LinkView
  pub last : LinkView
  pub lent : IsLent old new first last
  pub stopped : TalkStops stop start first last

abbrev pub CallStops : Stop → CourseStep → DialerView → DialerView → Type 0
CallStops (Link Dial) start old new = IsUndialed old new
CallStops (Link Read) start old new = IsBroken (Link Read) start old new
CallStops (Link Write) start old new = IsBroken (Link Write) start old new
CallStops (Link End) start old new = IsBroken (Link End) start old new
CallStops NoMemory start old new = (new ≡ old) ⊎ IsBroken NoMemory start old new
