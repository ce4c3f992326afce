-- A1 to A3 under each of the things that happen to a device's sessions.
use Rattle.std.proofs.Common.{◌≡◌, ℕ, suc, ◌+◌, ◌≤◌, ◌≢◌, Bool, true, false, cond, List, [], ◌∷◌, ◌++◌, Option, Some, None, length, ltb, refl, sym, ap, ◌∙◌, subst, arith, append_assoc}
use Rattle.std.proofs.lemmas.List.{append-nil, length_push}
use Rattle.sim_1_applications.specs.Stanzas.{Submission, Request, Up, Down, messages}
use Rattle.sim_1_applications.specs.Stanzas.Up.{Carbons, Presence, Message}
use Rattle.sim_1_applications.specs.Devices.{Session, Sessions, Stage, Row, fresh, up_put, epoch_of, Device}
use Rattle.sim_1_applications.specs.Devices.Stage.{Named, Counted, Known}
use Rattle.sim_1_applications.specs.Devices.Row.{NoRow, Unread, Present}
use Rattle.sim_1_applications.specs.Events as events
use Rattle.sim_1_applications.specs.Kept.{AreNumbered, IsNumbered, ArePast, SessionsKept}
use Rattle.sim_1_applications.proofs.Numbered.{messages_append, numbered_push}

kept_binds : (s : Sessions) → SessionsKept s → SessionsKept (events.binds s)
kept_binds s kept = record {
  epochs = record { bound = omega arith; present = λ (e : Unread ≡ Present). absurd (let no : ⊥ = cc in no); online = kept.epochs.online };
  past = kept.past;
  now = kept.now;
  n = kept.n;
}

kept_end_row : (s : Sessions) → SessionsKept s → SessionsKept (events.end_row s)
kept_end_row s kept = record {
  epochs = record { bound = kept.epochs.bound; present = λ (e : NoRow ≡ Present). absurd (let no : ⊥ = cc in no); online = kept.epochs.online };
  past = kept.past;
  now = kept.now;
  n = kept.n;
}

pub fresh_session : (e : ℕ) → IsNumbered e fresh
fresh_session e = record {
  is_session = record {
    acked = omega arith;
    available = λ _. refl;
    carbons = λ _. refl;
    down_got = λ _. refl;
    down_rest = λ _. refl;
    up_got = λ _. refl;
    up_rest = λ _. refl;
  };
  zero = λ _. refl;
  numbers = tt;
}

pub past_push : (e : ℕ) (ss : List Session) (s : Session) → ArePast e ss → IsNumbered (e + length ss) s → ArePast e (ss ++ s ∷ [])
past_push e [] s known one = (subst (λ k. IsNumbered k s) (let same : e + 0 ≡ e = omega arith in same) one, tt)
past_push e (a ∷ ss) s known one =
    (known.0, past_push (suc e) ss s known.1 (subst (λ k. IsNumbered k s) (let same : e + suc (length ss) ≡ suc e + length ss = omega arith in same) one))

kept_reads_bound : (live : Bool) (s : Sessions) → (live ≡ false → s.row ≢ Present) → s.online ≡ false → SessionsKept s → SessionsKept (events.reads_bound live s)
kept_reads_bound live s row offline kept =
    let one = length_push s.past s.now in
    let low = kept.epochs.bound in
    record {
      epochs = record {
        bound = omega arith;
        present = λ _. omega arith;
        online = λ (e : s.online ≡ true). absurd (let no : ⊥ = cc in no);
      };
      past = past_push 0 s.past s.now kept.past (subst (λ k. IsNumbered k s.now) (let same : length s.past ≡ 0 + length s.past = omega arith in same) kept.now);
      now = fresh_session (length (s.past ++ s.now ∷ []));
      n = refl;
    }

kept_goes_offline : (s : Sessions) → SessionsKept s → SessionsKept (events.goes_offline s)
kept_goes_offline s kept = record {
  epochs = record { bound = kept.epochs.bound; present = kept.epochs.present; online = λ (e : false ≡ true). absurd (let no : ⊥ = cc in no) };
  past = kept.past;
  now = kept.now;
  n = kept.n;
}

kept_acknowledged : (n : ℕ) (s : Sessions) → n ≤ length s.now.up_got → SessionsKept s → SessionsKept (events.acknowledged n s)
kept_acknowledged n s high kept =
    let was = kept.now.is_session in
    record {
      epochs = record { bound = kept.epochs.bound; present = kept.epochs.present; online = kept.epochs.online };
      past = kept.past;
      now = record {
        is_session = record {
          acked = high;
          available = was.available;
          carbons = was.carbons;
          down_got = was.down_got;
          down_rest = was.down_rest;
          up_got = was.up_got;
          up_rest = was.up_rest;
        };
        zero = kept.now.zero;
        numbers = kept.now.numbers;
      };
      n = kept.n;
    }

kept_counts : (s : Sessions) → s.row ≡ Present → s.now.stage ≡ Named → SessionsKept s → SessionsKept (events.counts s)
kept_counts s row named kept =
    let was = kept.now.is_session in
    let unknown : s.now.stage ≢ Known = λ e. let no : ⊥ = cc in no in
    record {
      epochs = record { bound = kept.epochs.bound; present = kept.epochs.present; online = λ on. absurd (unknown (kept.epochs.online on)) };
      past = kept.past;
      now = record {
        is_session = record {
          acked = was.acked;
          available = λ (e : Counted ≡ Named). absurd (let no : ⊥ = cc in no);
          carbons = λ (e : Counted ≡ Named). absurd (let no : ⊥ = cc in no);
          down_got = λ (e : Counted ≡ Named). absurd (let no : ⊥ = cc in no);
          down_rest = λ (e : Counted ≡ Named). absurd (let no : ⊥ = cc in no);
          up_got = λ _. was.up_got unknown;
          up_rest = λ _. was.up_rest unknown;
        };
        zero = λ none. absurd (let above = kept.epochs.present row in omega arith);
        numbers = kept.now.numbers;
      };
      n = kept.n;
    }

-- the present session, changed, with the same messages; and a row that is no more than it was
kept_now : (s : Sessions) (row : Row) (t : Session) → (row ≡ Present → s.row ≡ Present) → t.stage ≡ s.now.stage → IsNumbered (epoch_of s) t →
    messages (up_put t) ≡ messages (up_put s.now) → SessionsKept s → SessionsKept (record s { now = t; row = row })
kept_now s row t was stage one same kept = record {
  epochs = record { bound = kept.epochs.bound; present = λ e. kept.epochs.present (was e); online = λ on. stage ∙ kept.epochs.online on };
  past = kept.past;
  now = one;
  n = kept.n ∙ ap length (sym same);
}

pub row_was : (b : Bool) (r : Row) → cond b NoRow r ≡ Present → r ≡ Present
row_was true r e = absurd (let is : NoRow ≡ Present = e in let no : ⊥ = cc in no)
row_was false r e = e

-- stanzas more go up
put_session : (e : ℕ) (zs : List Up) (s : Session) → s.stage ≡ Known → AreNumbered e 0 (messages (s.up_got ++ (s.up_rest ++ zs))) → IsNumbered e s →
    IsNumbered e (record s { up_rest = s.up_rest ++ zs })
put_session e zs s known numbers one =
    let was = one.is_session in
    record {
      is_session = record {
        acked = was.acked;
        available = was.available;
        carbons = was.carbons;
        down_got = was.down_got;
        down_rest = was.down_rest;
        up_got = was.up_got;
        up_rest = λ unknown. absurd (unknown known);
      };
      zero = one.zero;
      numbers = numbers;
    }

put_more : (zs : List Up) (s : Session) → messages (s.up_got ++ (s.up_rest ++ zs)) ≡ messages (up_put s) ++ messages zs
put_more zs s = ap messages (sym (append_assoc s.up_got s.up_rest zs)) ∙ messages_append (up_put s) zs

-- no message is among them
kept_put : (zs : List Up) (s : Sessions) → messages zs ≡ [] → s.now.stage ≡ Known → SessionsKept s → SessionsKept (events.put_all zs s)
kept_put zs s none known kept =
    let same : messages (s.now.up_got ++ (s.now.up_rest ++ zs)) ≡ messages (up_put s.now) =
    put_more zs s.now ∙ ap (λ ms. messages (up_put s.now) ++ ms) none ∙ append-nil (messages (up_put s.now)) in
    kept_now s s.row (record s.now { up_rest = s.now.up_rest ++ zs }) (λ e. e) refl
    (put_session (epoch_of s) zs s.now known (subst (AreNumbered (epoch_of s) 0) (sym same) kept.now.numbers) kept.now) same kept

kept_says : (to text : List ℕ) (private : Bool) (s : Sessions) → s.now.stage ≡ Known → SessionsKept s → SessionsKept (events.says to text private s)
kept_says to text private s known kept =
    let m : Submission = record { epoch = epoch_of s; n = s.n + 1; to = to; text = text; private = private } in
    let more : messages (s.now.up_got ++ (s.now.up_rest ++ Message m ∷ [])) ≡ messages (up_put s.now) ++ m ∷ [] = put_more (Message m ∷ []) s.now in
    let counted : s.n ≡ length (messages (up_put s.now)) = kept.n in
    let one = length_push (messages (up_put s.now)) m in
    let numbers : AreNumbered (epoch_of s) 0 (messages (up_put s.now) ++ m ∷ []) =
    numbered_push (epoch_of s) 0 (messages (up_put s.now)) m kept.now.numbers refl (let next : s.n + 1 ≡ 0 + length (messages (up_put s.now)) + 1 = omega arith in next) in
    record {
      epochs = record { bound = kept.epochs.bound; present = kept.epochs.present; online = kept.epochs.online };
      past = kept.past;
      now = put_session (epoch_of s) (Message m ∷ []) s.now known (subst (AreNumbered (epoch_of s) 0) (sym more) numbers) kept.now;
      n = (let next : s.n + 1 ≡ length (messages (up_put s.now) ++ m ∷ []) = omega arith in next) ∙ ap length (sym more);
    }

kept_goes_online : (s : Sessions) → s.now.stage ≡ Counted → SessionsKept s → SessionsKept (events.goes_online s)
kept_goes_online s counted kept =
    let was = kept.now.is_session in
    let known : Sessions = record s { online = true; now = record s.now { stage = Known } } in
    let first : SessionsKept known = record {
      epochs = record { bound = kept.epochs.bound; present = kept.epochs.present; online = λ _. refl };
      past = kept.past;
      now = record {
        is_session = record {
          acked = was.acked;
          available = λ (e : Known ≡ Named). absurd (let no : ⊥ = cc in no);
          carbons = λ (e : Known ≡ Named). absurd (let no : ⊥ = cc in no);
          down_got = λ (e : Known ≡ Named). absurd (let no : ⊥ = cc in no);
          down_rest = λ (e : Known ≡ Named). absurd (let no : ⊥ = cc in no);
          up_got = λ unknown. absurd (unknown refl);
          up_rest = λ unknown. absurd (unknown refl);
        };
        zero = λ none. absurd (let named = kept.now.zero none in let no : ⊥ = cc in no);
        numbers = kept.now.numbers;
      };
      n = kept.n;
    } in
    kept_put (Carbons ∷ Presence ∷ []) known refl refl first

-- the server handles the first of the rest
kept_moved_up : (z : Up) (rest : List Up) (s : Sessions) → s.now.up_rest ≡ z ∷ rest → SessionsKept s → SessionsKept (events.moved_up z rest s)
kept_moved_up z rest s split kept =
    let was = kept.now.is_session in
    let same : (s.now.up_got ++ z ∷ []) ++ rest ≡ up_put s.now = append_assoc s.now.up_got (z ∷ []) rest ∙ ap (λ zs. s.now.up_got ++ zs) (sym split) in
    let more = length_push s.now.up_got z in
    let known : s.now.stage ≢ Known → z ∷ rest ≡ [] = λ unknown. sym split ∙ was.up_rest unknown in
    kept_now s s.row (record s.now { up_got = s.now.up_got ++ z ∷ []; up_rest = rest }) (λ e. e) refl
    (record {
      is_session = record {
        acked = let low = was.acked in omega arith;
        available = was.available;
        carbons = was.carbons;
        down_got = was.down_got;
        down_rest = was.down_rest;
        up_got = λ unknown. absurd (let e = known unknown in let no : ⊥ = cc in no);
        up_rest = λ unknown. absurd (let e = known unknown in let no : ⊥ = cc in no);
      };
      zero = kept.now.zero;
      numbers = subst (λ zs. AreNumbered (epoch_of s) 0 (messages zs)) (sym same) kept.now.numbers;
    })
    (ap messages same) kept

-- on a session that the server counts flags may be set, and stanzas go down
kept_counted : (row : Row) (available carbons : Bool) (got rest : List Down) (s : Sessions) → (row ≡ Present → s.row ≡ Present) → s.now.stage ≢ Named → SessionsKept s →
    SessionsKept (record s { row = row; now = record s.now { available = available; carbons = carbons; down_got = got; down_rest = rest } })
kept_counted row available carbons got rest s was_row counted kept =
    let was = kept.now.is_session in
    kept_now s row (record s.now { available = available; carbons = carbons; down_got = got; down_rest = rest }) was_row refl
    (record {
      is_session = record {
        acked = was.acked;
        available = λ named. absurd (counted named);
        carbons = λ named. absurd (counted named);
        down_got = λ named. absurd (counted named);
        down_rest = λ named. absurd (counted named);
        up_got = was.up_got;
        up_rest = was.up_rest;
      };
      zero = kept.now.zero;
      numbers = kept.now.numbers;
    })
    refl kept

kept_give : (fits : ℕ) (zs : List Down) (z : Up) (s : Sessions) → s.now.stage ≢ Named → SessionsKept s → SessionsKept (events.give fits zs (events.flagged z s))
kept_give fits zs z s counted kept = kept_counted _ _ _ _ _ s (row_was (ltb fits (length zs)) s.row) counted kept

kept_moved_down : (z : Down) (rest : List Down) (s : Sessions) → s.now.stage ≢ Named → SessionsKept s → SessionsKept (events.moved_down z rest s)
kept_moved_down z rest s counted kept = kept_counted _ _ _ _ _ s (λ e. e) counted kept

-- what is heard: nothing where the session isn't counted
pub kept_told : (heard full : Bool) (number : ℕ) (s : Sessions) → (heard ≡ true → s.now.stage ≢ Named) → SessionsKept s → SessionsKept (events.told heard full number s)
kept_told true full number s counted kept = kept_counted _ _ _ _ _ s (row_was full s.row) (counted refl) kept
kept_told false full number s counted kept =
    let rest : s.now.down_rest ++ [] ≡ s.now.down_rest = append-nil s.now.down_rest in
    subst (λ zs. SessionsKept (record s { now = record s.now { down_rest = zs } })) (sym rest) kept

-- The acts.

kept_served : (a : events.Around) (fits : ℕ) (zs : List Up) (d : Device) → d.sessions.now.up_rest ≡ zs → d.sessions.now.stage ≢ Named →
    SessionsKept d.sessions → SessionsKept (events.served a fits zs d).sessions
kept_served a fits [] d split counted kept = kept
kept_served a fits (z ∷ rest) d split counted kept =
    kept_give fits (events.reply a z) z (events.moved_up z rest d.sessions) counted (kept_moved_up z rest d.sessions split kept)

pub no_message : (r : Option Request) → messages (events.queries r) ≡ []
no_message None = refl
no_message (Some r) = refl

known_counted : (s : Stage) → s ≡ Known → s ≢ Named
known_counted s known named = let no : ⊥ = cc in no

kept_read : (a : events.Around) (zs : List Down) (d : Device) → d.sessions.now.stage ≡ Known → SessionsKept d.sessions → SessionsKept (events.read a zs d).sessions
kept_read a [] d known kept = kept
kept_read a (z ∷ rest) d known kept =
    let request = (events.reads a z d.reading).request in
    kept_put (events.queries request) (events.moved_down z rest d.sessions) (no_message request) known
    (kept_moved_down z rest d.sessions (known_counted d.sessions.now.stage known) kept)

-- A1 to A3: an act keeps them of its own device.
pub sessions_own : (a : events.Around) (act : events.Act) (d : Device) → events.May act d → SessionsKept d.sessions → SessionsKept (events.own a act d).sessions
sessions_own a events.Act.Bind d may kept = kept_binds d.sessions kept
sessions_own a (events.Act.ReadBound true) d may kept = kept_reads_bound true d.sessions (λ (e : true ≡ false). absurd (let no : ⊥ = cc in no)) may.0 kept
sessions_own a (events.Act.ReadBound false) d may kept = kept_reads_bound false d.sessions (λ _. may.1) may.0 kept
sessions_own a events.Act.Enable d may kept = kept_counts d.sessions may.0 may.1 kept
sessions_own a events.Act.ReadEnabled d may kept = kept_goes_online d.sessions may.1 kept
sessions_own a events.Act.End d may kept = kept_end_row d.sessions kept
sessions_own a events.Act.Drop d may kept = kept_goes_offline d.sessions kept
sessions_own a (events.Act.Acknowledge n) d may kept = kept_acknowledged n d.sessions may.2 kept
sessions_own a (events.Act.Say to text private) d may kept = kept_says to text private d.sessions (kept.epochs.online may) kept
sessions_own a (events.Act.CatchUp max) d may kept = kept_put _ d.sessions refl (kept.epochs.online may.0) kept
sessions_own a (events.Act.ServerHandles fits full) d may kept = kept_served a fits d.sessions.now.up_rest d refl may.1 kept
sessions_own a events.Act.ClientHandles d may kept = kept_read a d.sessions.now.down_rest d (kept.epochs.online may.0) kept
