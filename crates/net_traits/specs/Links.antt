-- What clauses see of a link, of what its calls do, and of links that were given back.
use Rattle.std.specs.Prelude.{◌≡◌, ℕ, ◌==◌, ◌||◌, nat_lt, Bool, false, not, ◌&&◌, List, [], length, Option, IfSome, Result, Ok, Err, if◌then◌else◌}
use Rattle.base_io.specs.Counts.{counted}

-- the bytes that were read from it and written to it, where they are told, how many reads and how many writes failed, and
-- how many reads found the end
pub record LinkView : Type 0 where
  pub read : Option (List ℕ)
  pub written : Option (List ℕ)
  pub read_faults : ℕ
  pub write_faults : ℕ
  pub ends : ℕ

-- nothing was read or written yet, and no call failed
pub record IsUnused (link : LinkView) : Type 0 where
  pub read : IfSome link.read (λ bytes. bytes ≡ [])
  pub written : IfSome link.written (λ bytes. bytes ≡ [])
  pub read_faults : link.read_faults ≡ 0
  pub write_faults : link.write_faults ≡ 0
  pub ends : link.ends ≡ 0

-- a read into this buffer found the end: it gave nothing where there was room
abbrev pub is_end : {E : Type 0} → Result ℕ E → List ℕ → Bool
is_end (Ok n) buf = n == 0 && nat_lt 0 (length buf)
is_end (Err e) buf = false

-- what is known of writes is as it was
pub record WritesStay (old new : LinkView) : Type 0 where
  pub written : new.written ≡ old.written
  pub write_faults : new.write_faults ≡ old.write_faults

-- what is known of reads is as it was
pub record ReadsStay (old new : LinkView) : Type 0 where
  pub read : new.read ≡ old.read
  pub read_faults : new.read_faults ≡ old.read_faults
  pub ends : new.ends ≡ old.ends

-- a count of failed calls of a link is not 0
abbrev pub has_failed : LinkView → Bool
has_failed link = not (link.read_faults == 0) || not (link.write_faults == 0)

-- the end of a link was found
abbrev pub has_ended : LinkView → Bool
has_ended link = not (link.ends == 0)

-- a count that is raised where something is so
abbrev pub counted_if : Bool → ℕ → ℕ
counted_if is n = if is then counted n else n
