-- Where wrong ends would come: views to which no moves lead.
use Rattle.std.specs.Prelude.{ℕ, true, false, [], ◌∷◌, None, Some}
use Rattle.sm_acks.specs.Delivery.{Direction, beginning}
use Rattle.sim_2_links.specs.Words.{St, Req, Up, Down, Resumed, Bound, Client, InBind, InResume, InOnline, AtSession}
use Rattle.sim_2_links.specs.Wires.{Wires, Flow, Stop}
use Rattle.sim_2_links.specs.Stages.{Stands, Conn}
use Rattle.sim_2_links.specs.Views.{View, Table, with_at, Session}

abbrev pub nothing : {B : Type 0} → Table B
nothing = λ n. None

-- a connection with its pipes, on which the server has session 1
abbrev pub with_one : Client → Wires ℕ → Conn ℕ
with_one client wires = record { client = client; phase = AtSession 1; wires = wires; ending = Stands; footed = false; gone = false }

-- a session that both ends know
abbrev pub known : Direction ℕ → Direction ℕ → Session ℕ
known up down = record { epoch = Some 1; counted = true; read = true; up = up; down = down }

-- The client put 10 and 11, and the server handled 10. The session is resumed with that count, and the client sends its
-- whole queue again.
abbrev pub sends_all_again : View ℕ
sends_all_again = record {
  here = Some 2;
  conns = with_at 2 (with_one (InOnline 1) (Flow (Up (St 10) ∷ Up (St 11) ∷ Up Req ∷ []) [])) nothing;
  row = Some (record { number = 1; on = Some 2; counted = true; acked = 0; handled = 1; queue = [] });
  own = Some (record { number = 1; acked = 1; handled = 0; queue = 11 ∷ [] });
  epoch = 1;
  sessions = with_at 1 (known (record { put = 10 ∷ 11 ∷ []; acked = 1; got = 10 ∷ []; way = 11 ∷ []; is_open = true; stated = 1 ∷ [] }) (record beginning { stated = 0 ∷ [] })) nothing;
  free = 2;
}

-- The server handled 10, and none of its own stanzas is acknowledged. In `resumed` it states the acknowledged count.
abbrev pub states_acknowledged : View ℕ
states_acknowledged = record {
  here = Some 2;
  conns = with_at 2 (with_one (InResume 1) (Flow [] (Resumed 1 0 ∷ []))) nothing;
  row = Some (record { number = 1; on = Some 2; counted = true; acked = 0; handled = 1; queue = [] });
  own = Some (record { number = 1; acked = 0; handled = 0; queue = 10 ∷ 11 ∷ [] });
  epoch = 1;
  sessions = with_at 1 (known (record { put = 10 ∷ 11 ∷ []; acked = 0; got = 10 ∷ []; way = []; is_open = false; stated = 0 ∷ [] }) (record beginning { stated = 0 ∷ [] })) nothing;
  free = 2;
}

-- The client handled 20 behind an old `resume` that states none. The server takes that word late, on a connection that
-- the client left, and resumes the session as though the client worked there.
abbrev pub resumes_late : View ℕ
resumes_late = record {
  here = None;
  conns = with_at 2 (with_one (InResume 1) (Stop [] [] [] (Resumed 1 0 ∷ Down (St 20) ∷ []))) nothing;
  row = Some (record { number = 1; on = Some 2; counted = true; acked = 0; handled = 0; queue = 20 ∷ [] });
  own = Some (record { number = 1; acked = 0; handled = 1; queue = [] });
  epoch = 1;
  sessions = with_at 1 (known (record beginning { is_open = false; stated = 0 ∷ [] }) (record { put = 20 ∷ []; acked = 1; got = 20 ∷ []; way = []; is_open = false; stated = 0 ∷ 1 ∷ [] })) nothing;
  free = 2;
}

-- A bind on connection 2 makes session 2, and leaves session 1 on connection 1, where the client is online with it.
abbrev pub binds_beside : View ℕ
binds_beside = record {
  here = Some 1;
  conns = with_at 2 (record { client = InBind; phase = AtSession 2; wires = Stop [] [] [] (Bound 2 ∷ []); ending = Stands; footed = false; gone = false }) (with_at 1 (with_one (InOnline 1) (Flow [] [])) nothing);
  row = Some (record { number = 2; on = Some 2; counted = false; acked = 0; handled = 0; queue = [] });
  own = Some (record { number = 1; acked = 0; handled = 0; queue = [] });
  epoch = 1;
  sessions = with_at 2 (record { epoch = None; counted = false; read = false; up = beginning; down = beginning }) (with_at 1 (known beginning beginning) nothing);
  free = 3;
}
