-- A resumption (XEP-0198, section 5): of a session that the server doesn't have, of one that is parked, and of one that is
-- on a connection; with a count that names a place in its queue, and with one that is behind.
use Rattle.std.proofs.Common.{◌≡◌, ℕ, [], Option, Some, None, refl, sym, subst, ◌⊎◌, inl, inr}
use Rattle.srv_state.specs.State.{ServerState}
use Rattle.sim_3_items.specs.Identities.{Identity, Login}
use Rattle.sim_3_items.specs.ItemPipes.{ItemWire}
use Rattle.sim_2_links.specs.Views.{Table, View}
use Rattle.sim_2_links.specs.Words.{ResumeAt}
use Rattle.sm_live.specs.Sessions.{Session, session_resumed}
use Rattle.sm_resumption.specs.Previds.{previd_of}
use Rattle.sim_4_links_follow.proofs.ResumeCounts.{IsAfter, IsPosition, count_so}
use Rattle.sim_4_links_follow.proofs.ResumeHigh.{high_follows, high_step}
use Rattle.sim_4_links_follow.proofs.ResumeOn.{after_follows, position_follows}
use Rattle.sim_4_links_follow.proofs.ResumeRows.{IsOwnSession, own_session}
use Rattle.sim_4_links_follow.proofs.ResumeTaken.{back_follows, back_step}
use Rattle.sim_4_links_follow.proofs.StrangeRows.{strange_follows}
use Rattle.sim_4_links_follow.specs.Taking.{AreCountable, IsFirst, IsTaken, StepFollows}
use Rattle.xml_writer.specs.Items.{ItemOut}

module _ (who : Identity) (logins : ℕ → Login) (h : ServerState ItemOut) (wires : Table ItemWire) (v : View ItemOut) (k q n : ℕ) (p : IsFirst who logins h wires v k (ResumeAt q n)) (countable : AreCountable v) where
  module _ (s : Session ItemOut) (found : session_resumed (previd_of q) who.account h.sessions ≡ Some s) where
    own : IsOwnSession who h v q s
    own = own_session who logins h wires v k q n p s found

    parked_follows : own.row.on ≡ None → IsPosition v k n own.row ⊎ IsAfter v k n own.row → IsTaken who logins h wires v k p.wire (ResumeAt q n)
    parked_follows parked (inl position) =
        subst (λ t. StepFollows who logins wires v k p.wire t []) (sym (back_step who logins h wires v k q n p s found own parked position.within)) (back_follows who logins h wires v k q n p s found own parked position.within position.here)
    parked_follows parked (inr following) =
        subst (λ t. StepFollows who logins wires v k p.wire t []) (sym (high_step who logins h wires v k q n p s found own following parked)) (high_follows who logins h wires v k q n p s found own following parked)

    on_follows : (f : ℕ) → own.row.on ≡ Some f → IsPosition v k n own.row ⊎ IsAfter v k n own.row → IsTaken who logins h wires v k p.wire (ResumeAt q n)
    on_follows f on (inl position) = position_follows who logins h wires v k q n p s found own f on position
    on_follows f on (inr following) = after_follows who logins h wires v k q n p s found own f on following

  pub resume_follows : IsTaken who logins h wires v k p.wire (ResumeAt q n)
  resume_follows = go (session_resumed (previd_of q) who.account h.sessions) refl
    where
      go : (o : Option (Session ItemOut)) → session_resumed (previd_of q) who.account h.sessions ≡ o → IsTaken who logins h wires v k p.wire (ResumeAt q n)
      go None strange = strange_follows who logins h wires v k q n p strange
      go (Some s) found = by_place (own s found).row.on refl
        where
          so : IsPosition v k n (own s found).row ⊎ IsAfter v k n (own s found).row
          so = count_so who logins h wires v k q n p countable s found (own s found)

          by_place : (o : Option ℕ) → (own s found).row.on ≡ o → IsTaken who logins h wires v k p.wire (ResumeAt q n)
          by_place None parked = parked_follows s found parked so
          by_place (Some f) on = on_follows s found f on so
