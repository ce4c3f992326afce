-- Moments, connections that come and go, and pieces of bytes keep what a server keeps to.
use Rattle.std.proofs.Common.{ℕ, List, [], ◌∷◌, Option, Some, None, IfSome, Ordering, Less, Equal, Greater, refl}
use Rattle.std.specs.BTreeMap.{insert_entry}
use Rattle.std.specs.List.{AllByRecursion}
use Rattle.std.specs.Ordering.{match_ordering, nat_cmp}
use Rattle.srv_state.specs.Moments.{at_moment, fresh_conn, gone_at, with_fresh}
use Rattle.srv_state.specs.State.{Out, ServerState, Step, is_number}
use Rattle.srv_state.specs.declared.connection.Connection.{Connection}
use Rattle.xml_framer.specs.States as framing
use Rattle.xml_framer.specs.States.{Turn}
use Rattle.sm_live.specs.Sessions.{Session, lost, parked, session_at, with_session, without}
use Rattle.srv_core.specs.Events.{Whole, after_bytes, after_turn, at_piece, begun, framer_at, turn_of}
use Rattle.law_limits.proofs.Lists.{Values, each_filter, values_left}
use Rattle.law_limits.proofs.ServerStepsKept.{either_kept, session_changed, shown_kept}
use Rattle.law_limits.proofs.TableKept.{fault_kept, items_kept}
use Rattle.law_limits.specs.Keeps.{Comes, ConnectionKeeps, IsDrawn, OutIsRead, ServerKeeps, SessionKeeps, StepKeeps}
use Rattle.law_server.specs.Encodings.{itself}
use Rattle.xml_writer.specs.Items.{ItemOut}

-- ---- moments

pub moment_kept : (now : ℕ) (h : ServerState ItemOut) → ServerKeeps h → ServerKeeps (at_moment now h)
moment_kept now h k = record { domain = k.domain; accounts = k.accounts; archives = k.archives; sessions = each_filter SessionKeeps _ h.sessions k.sessions; conns = k.conns }

-- ---- connections

inserted_by : (k : ℕ) (c : Connection) (e : ℕ × Connection) (es rest : List (ℕ × Connection)) (o : Ordering) → ConnectionKeeps c → Values ConnectionKeeps (e ∷ es) → Values ConnectionKeeps rest
    → Values ConnectionKeeps (match_ordering o ((k, c) ∷ e ∷ es) ((e.0, c) ∷ es) (e ∷ rest))
inserted_by k c e es rest Less h each more = (h, each)
inserted_by k c e es rest Equal h each more = (h, each.1)
inserted_by k c e es rest Greater h each more = (each.0, more)

inserted : (k : ℕ) (c : Connection) (es : List (ℕ × Connection)) → ConnectionKeeps c → Values ConnectionKeeps es → Values ConnectionKeeps (insert_entry nat_cmp es k c)
inserted k c [] h each = (h, tt)
inserted k c (e ∷ es) h each = inserted_by k c e es (insert_entry nat_cmp es k c) (nat_cmp k e.0) h each (inserted k c es h each.1)

pub fresh_kept : (k : ℕ) (entropy : List ℕ) (h : ServerState ItemOut) → IsDrawn entropy → ServerKeeps h → ServerKeeps (with_fresh k entropy h)
fresh_kept k entropy h drawn keeps =
    record { domain = keeps.domain; accounts = keeps.accounts; archives = keeps.archives; sessions = keeps.sessions; conns = inserted k (fresh_conn entropy) h.conns drawn keeps.conns }

lost_kept : (now : ℕ) (o : Option (Session ItemOut)) (ss : List (Session ItemOut)) → AllByRecursion SessionKeeps ss → AllByRecursion SessionKeeps (lost now o ss)
lost_kept now None ss h = h
lost_kept now (Some s) ss h =
    either_kept s.shown.resumable (with_session s.shown.number (parked now) ss) (without s.shown.number ss)
    (session_changed s.shown.number (parked now) ss (λ t keeps. shown_kept t (parked now t) refl refl refl refl keeps) h) (each_filter SessionKeeps _ ss h)

pub gone_kept : (k : ℕ) (h : ServerState ItemOut) → ServerKeeps h → ServerKeeps (gone_at k h)
gone_kept k h keeps = record {
  domain = keeps.domain;
  accounts = keeps.accounts;
  archives = keeps.archives;
  sessions = lost_kept h.moment (session_at k h.sessions) h.sessions keeps.sessions;
  conns = values_left ConnectionKeeps (is_number k) h.conns keeps.conns;
}

-- ---- pieces of bytes

pub client_step_kept : (k : ℕ) (t : Turn) (s : Step ItemOut) → AllByRecursion Comes t.items → StepKeeps s → StepKeeps (after_turn itself k t s)
client_step_kept k t s come h = fault_kept k t.state.fault _ (items_kept k t.items s come h)

piece_kept : (k : ℕ) (piece : List ℕ) (o : Option framing.State) (s : Step ItemOut) → IfSome o (λ f. AllByRecursion Comes (turn_of piece f).items) → StepKeeps s → StepKeeps (at_piece itself k piece o s)
piece_kept k piece None s come h = h
piece_kept k piece (Some f) s come h = client_step_kept k (turn_of piece f) s come h

pub bytes_kept : (k : ℕ) (piece : List ℕ) (now : ℕ) (w : Whole ItemOut) (outs : List (Out ItemOut)) → IfSome (framer_at k w.framers) (λ f. AllByRecursion Comes (turn_of piece f).items) → ServerKeeps w.server_state → AllByRecursion OutIsRead outs
    → StepKeeps (after_bytes itself k piece now w outs)
bytes_kept k piece now w outs come h each = piece_kept k piece (framer_at k w.framers) (begun now w.server_state outs) come (record { server_state = moment_kept now w.server_state h; outs = each })
