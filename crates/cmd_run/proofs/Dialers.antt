-- A dialer that stays quiet handed out no link that failed or ended, and none stays out.
use Rattle.std.proofs.Common.{◌≡◌, true, false, Bool, List, ℕ, ◌+◌, ◌-◌, ◌^◌, ◌≤◌, min, subst, refl, inl, inr, arith}
use Rattle.std.proofs.lemmas.Bool.Decides.{nat_tests}
use Rattle.std.proofs.Math.Nat.{min-eq_left}
use Rattle.std.specs.Prelude.{◌==◌, ◌||◌, ◌⊎◌, not}
use Rattle.base_io.specs.Counts.{Rose, Quiet}
use Rattle.net_traits.specs.Links.{IsUnused, LinkView, counted_if, has_ended, has_failed}
use Rattle.cmd_sync.specs.Courses.{CourseStep}
use Rattle.cmd_sync.specs.Syncs.{IsUntold, IsWhy}
use Rattle.cmd_run.specs.Dealings.{IsDialerKept, IsReturned}
use Rattle.cmd_sync.specs.Talks.{DialerView, IsLent}
use Rattle.cmd_sync.specs.declared.failure.LinkFailure.{LinkFailure}
use Rattle.cmd_sync.specs.declared.failure.LinkFailure.TheVariants.{Dial, Read, Write, End}
use Rattle.cmd_sync.specs.declared.sync_fault.SyncFault.TheVariants.{Link}

-- a quiet count did not rise
pub not_risen : (before now : ℕ) → Quiet before now → ¬ (Rose before now)
not_risen before now quiet rose =
    let room : before + 1 ≤ 2 ^ 64 - 1 = omega (arith, quiet.room) in
    let least : min (before + 1) (2 ^ 64 - 1) ≡ before + 1 = min-eq_left room in
    omega (arith, subst (λ n. n ≤ now) least rose, quiet.same)

-- a count that rose from 0 is not 0
risen_some : (now : ℕ) → Rose 0 now → not (now == 0) ≡ true
risen_some now rose = grind (arith, nat_tests)

-- a count that was raised rose
raised : (is : Bool) (before now : ℕ) → is ≡ true → now ≡ counted_if is before → Rose before now
raised true before now e raise = omega (arith, raise)
raised false before now e raise = absurd cc

or_left : (a b : Bool) → a ≡ true → (a || b) ≡ true
or_left true b e = refl
or_left false b e = absurd cc

or_right : (a b : Bool) → b ≡ true → (a || b) ≡ true
or_right true b e = refl
or_right false b e = e

read_failed : (first last : LinkView) → IsUnused first → Rose first.read_faults last.read_faults → has_failed last ≡ true
read_failed first last unused rose = or_left _ _ (risen_some last.read_faults (subst (λ n. Rose n last.read_faults) unused.read_faults rose))

write_failed : (first last : LinkView) → IsUnused first → Rose first.write_faults last.write_faults → has_failed last ≡ true
write_failed first last unused rose = or_right _ _ (risen_some last.write_faults (subst (λ n. Rose n last.write_faults) unused.write_faults rose))

ended : (first last : LinkView) → IsUnused first → Rose first.ends last.ends → has_ended last ≡ true
ended first last unused rose = risen_some last.ends (subst (λ n. Rose n last.ends) unused.ends rose)

read_raised : (old new : DialerView) (first last : LinkView) → IsLent old new first last → Quiet old.faults new.faults → ¬ (Rose first.read_faults last.read_faults)
read_raised old new first last lent faults rose = not_risen old.faults new.faults faults (raised (has_failed last) old.faults new.faults (read_failed first last lent.unused rose) lent.faults)

write_raised : (old new : DialerView) (first last : LinkView) → IsLent old new first last → Quiet old.faults new.faults → ¬ (Rose first.write_faults last.write_faults)
write_raised old new first last lent faults rose = not_risen old.faults new.faults faults (raised (has_failed last) old.faults new.faults (write_failed first last lent.unused rose) lent.faults)

end_raised : (old new : DialerView) (first last : LinkView) → IsLent old new first last → Quiet old.ends new.ends → ¬ (Rose first.ends last.ends)
end_raised old new first last lent ends rose = not_risen old.ends new.ends ends (raised (has_ended last) old.ends new.ends (ended first last lent.unused rose) lent.ends)

pub link_not_quiet : (failure : LinkFailure) (start : CourseStep) (old new : DialerView) → Quiet old.faults new.faults → Quiet old.ends new.ends → ¬ (IsUntold (Link failure) start old new)
link_not_quiet Dial start old new faults ends undialed = not_risen old.faults new.faults faults undialed.cause
link_not_quiet Read start old new faults ends broken = read_raised old new broken.first broken.last broken.lent faults broken.stopped.cause
link_not_quiet Write start old new faults ends broken = write_raised old new broken.first broken.last broken.lent faults broken.stopped.cause
link_not_quiet End start old new faults ends broken = end_raised old new broken.first broken.last broken.lent ends broken.stopped.cause

link_back : (failure : LinkFailure) (start : CourseStep) (old new : DialerView) → IsUntold (Link failure) start old new → IsDialerKept old new ⊎ IsReturned old new
link_back Dial start old new undialed = inl (record { given = undialed.given; handed = undialed.handed })
link_back Read start old new broken = inr (record { link = broken.last; given = broken.lent.given; handed = broken.lent.handed })
link_back Write start old new broken = inr (record { link = broken.last; given = broken.lent.given; handed = broken.lent.handed })
link_back End start old new broken = inr (record { link = broken.last; given = broken.lent.given; handed = broken.lent.handed })

-- whichever call failed, a link that was handed out is back
pub sync_back : (failure : LinkFailure) (text drawn_first drawn_now : List ℕ) (before after : ℕ) (old new : DialerView) → IsWhy (Link failure) text drawn_first drawn_now before after old new → IsDialerKept old new ⊎ IsReturned old new
sync_back failure text drawn_first drawn_now before after old new why = link_back failure why.0.start old new why.0.untold
