-- Each word comes where the client expects it, and is read there.
use Rattle.std.proofs.Common.{◌≡◌, ℕ, ◌⊎◌, inl, inr, codes}
use Rattle.sim_3_items.specs.Identities.{Identity, Login}
use Rattle.sim_3_items.specs.Reading.{IsNextDown, IsRead}
use Rattle.sim_3_items.specs.ItemPipes.{ItemWire}
use Rattle.sim_3_items.specs.ItemWorlds.{ItemDevice}
use Rattle.sim_2_links.proofs.Expected.{expected_down}
use Rattle.sim_2_links.specs.Promises.{IsExpectedDown}
use Rattle.sim_2_links.specs.Views.{Table, View}
use Rattle.sim_2_links.specs.Words.{Ack, Bound, Chal, Conflict, Constraint, Down, DownWord, Enabled, End, Err, Failed, Feat, Head, Req, Resumed, Succ, TooHigh}
use Rattle.xml_writer.specs.Items.{ItemOut}
use Rattle.sim_4_links_follow.proofs.CountReads.{count_read, request_read}
use Rattle.sim_4_links_follow.proofs.EndReads.{error_read}
use Rattle.sim_4_links_follow.proofs.LoginReads.{challenge_read, features_follow, header_read, success_read}
use Rattle.sim_4_links_follow.proofs.SessionReads.{bound_read, enabled_read, failed_read, resumed_read}
use Rattle.sim_4_links_follow.proofs.Working.{kept_here}
use Rattle.sim_4_links_follow.specs.Reads.{IsOfCounts, IsOfEnd, IsOfLogin, IsOfSession}

-- a count that is too high is no reason of the other two
pub no_count : (TooHigh ≡ Conflict) ⊎ (TooHigh ≡ Constraint) → ⊥
no_count (inl e) = cc e
no_count (inr e) = cc e

module _ (who : Identity) (logins : ℕ → Login) (d : ItemDevice) (wires : Table ItemWire) (v : View ItemOut) (k : ℕ) where
  pub expected : (word : DownWord ItemOut) (p : IsNextDown who logins d wires v k word) → IsExpectedDown v p.conn.client word
  expected word p = expected_down v k p.conn word p.rest (kept_here who logins d wires v k word p) p.here p.is p.first

  pub login_read : (word : DownWord ItemOut) (p : IsNextDown who logins d wires v k word) → IsOfLogin word → IsRead who logins d wires v k p.conn p.wire word
  login_read Head p is = header_read who logins d wires v k p (expected Head p)
  login_read Feat p is = features_follow who logins d wires v k p (expected Feat p)
  login_read Chal p is = challenge_read who logins d wires v k p (expected Chal p)
  login_read Succ p is = success_read who logins d wires v k p (expected Succ p)
  login_read _ p is = absurd is

  pub session_read : (word : DownWord ItemOut) (p : IsNextDown who logins d wires v k word) → IsOfSession v word → IsRead who logins d wires v k p.conn p.wire word
  session_read Failed p is = let e = expected Failed p in failed_read who logins d wires v k p e.0 e.2
  session_read (Bound m) p low = bound_read who logins d wires v k m p (expected (Bound m) p).1 low
  session_read (Enabled m) p is = enabled_read who logins d wires v k m p (expected (Enabled m) p).1
  session_read (Resumed q h) p is = let e = expected (Resumed q h) p in resumed_read who logins d wires v k q h p e.0 e.1 e.2 e.3
  session_read _ p is = absurd is

  pub counts_read : (word : DownWord ItemOut) (p : IsNextDown who logins d wires v k word) → IsOfCounts word → IsRead who logins d wires v k p.conn p.wire word
  counts_read (Down Req) p is = let e = expected (Down Req) p in request_read who logins d wires v k p e.0 e.1 e.2
  counts_read (Down (Ack h)) p is = let e = expected (Down (Ack h)) p in count_read who logins d wires v k h p e.0 e.1 e.2
  counts_read _ p is = absurd is

  pub end_read : (word : DownWord ItemOut) (p : IsNextDown who logins d wires v k word) → IsOfEnd word → IsRead who logins d wires v k p.conn p.wire word
  end_read (Err Conflict) p is = error_read who logins d wires v k (Err Conflict) p (codes "conflict")
  end_read (Err Constraint) p is = error_read who logins d wires v k (Err Constraint) p (codes "resource-constraint")
  end_read (Err TooHigh) p is = absurd (no_count (expected (Err TooHigh) p))
  end_read End p is = absurd (expected End p)
  end_read _ p is = absurd is
