-- What waits can be answered still, as moments pass and connections go.
use Rattle.std.proofs.Common.{ℕ, Bool, true, false, List, Option, Some, None, cond}
use Rattle.std.specs.List.{AllByRecursion}
use Rattle.sim_3_images.specs.Relayable.{ServerStateAnswers, SessionAnswers}
use Rattle.srv_state.specs.Moments.{at_moment, gone_at}
use Rattle.srv_state.specs.State.{ServerState}
use Rattle.sm_live.specs.Sessions.{Session, lost, parked, session_at, with_session, without}
use Rattle.law_limits.proofs.Lists.{each_changed, each_filter}
use Rattle.xml_writer.specs.Items.{ItemOut}

pub moment_answers : (now : ℕ) (h : ServerState ItemOut) → ServerStateAnswers h → ServerStateAnswers (at_moment now h)
moment_answers now h k = each_filter SessionAnswers _ h.sessions k

pub either_sessions : (b : Bool) (x y : List (Session ItemOut)) → AllByRecursion SessionAnswers x → AllByRecursion SessionAnswers y → AllByRecursion SessionAnswers (cond b x y)
either_sessions true x y h k = h
either_sessions false x y h k = k

lost_answers : (now : ℕ) (o : Option (Session ItemOut)) (ss : List (Session ItemOut)) → AllByRecursion SessionAnswers ss → AllByRecursion SessionAnswers (lost now o ss)
lost_answers now None ss h = h
lost_answers now (Some s) ss h =
    either_sessions s.shown.resumable (with_session s.shown.number (parked now) ss) (without s.shown.number ss) (each_changed SessionAnswers _ (parked now) ss (λ t keeps. keeps) h) (each_filter SessionAnswers _ ss h)

pub gone_answers : (k : ℕ) (h : ServerState ItemOut) → ServerStateAnswers h → ServerStateAnswers (gone_at k h)
gone_answers k h keeps = lost_answers h.moment (session_at k h.sessions) h.sessions keeps
