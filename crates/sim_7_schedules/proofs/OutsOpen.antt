-- What the server puts out shuts a connection only by a step that closes it, or where a queue is full.
use Rattle.std.proofs.Common.{◌≡◌, ◌⊎◌, ℕ, ◌==◌, Bool, true, false, cond, List, [], ◌∷◌, ◌++◌, Option, Some, None, length, nat_eq, not, refl, sym, ap, subst, ◌∙◌, inl, inr}
use Rattle.std.proofs.lemmas.Bool.{cases_eq, eqb-true}
use Rattle.std.specs.List.{AllByRecursion}
use Rattle.std.specs.Option.{option_map}
use Rattle.cmd_schedule.proofs.Lists.{all_append}
use Rattle.im_replies.specs.Management.{request_item}
use Rattle.im_replies.specs.Streams.{error_item}
use Rattle.im_replies.specs.declared.conditions.StreamCondition.TheVariants.{ResourceConstraint}
use Rattle.sim_2_links.proofs.Entries.{other_number}
use Rattle.sim_3_items.specs.ItemPipes as pipes
use Rattle.sim_3_items.specs.ItemPipes.{ItemWire}
use Rattle.sim_3_items.specs.ItemWorlds.{itself}
use Rattle.sim_3_items.specs.Sent.{sent_one, sent_under, where_it}
use Rattle.sm_acks.specs.declared.end.TheConstants.{MOST_UNACKNOWLEDGED}
use Rattle.sm_live.specs.Sessions.{Session, session_of, told, waits, with_session, without}
use Rattle.srv_state.specs.State.{Out, Put, Shut, Step, Took}
use Rattle.srv_state.specs.Steps as steps
use Rattle.srv_state.specs.Steps.{Act, act, acted, ask_where, in_sessions, is_due, overflow, part_where, put, put_where, queue, send_by_info, shut, told_out}
use Rattle.srv_state.specs.Streams.{parting_where}
use Rattle.xml_writer.specs.Items.{Closing, ItemOut}

-- ---- what is put out

abbrev pub IsNoShut : ℕ → Out ItemOut → Type 0
IsNoShut k (Shut j) = nat_eq j k ≡ false
IsNoShut k (Put j z) = Unit {0}
IsNoShut k (Took from to origin) = Unit {0}

abbrev pub AreNoShuts : ℕ → List (Out ItemOut) → Type 0
AreNoShuts k outs = AllByRecursion (IsNoShut k) outs

one_more : (k : ℕ) (outs : List (Out ItemOut)) (o : Out ItemOut) → AreNoShuts k outs → IsNoShut k o → AreNoShuts k (outs ++ o ∷ [])
one_more k outs o none one = all_append (IsNoShut k) outs (o ∷ []) none (one, tt)

-- a connection that isn't shut has the same on its way up, with the same end
pub record IsLeftUp (w u : ItemWire) : Type 0 where
  pub device : u.device ≡ w.device
  pub up : u.up ≡ w.up

put_same : (b : Bool) (z : ItemOut) (w : ItemWire) → IsLeftUp w (where_it b (pipes.put_down (z ∷ [])) w)
put_same true z w = record { device = refl; up = refl }
put_same false z w = record { device = refl; up = refl }

then_same : (w u t : ItemWire) → IsLeftUp w u → IsLeftUp u t → IsLeftUp w t
then_same w u t one two = record { device = two.device ∙ one.device; up = two.up ∙ one.up }

pub left_up : (k : ℕ) (outs : List (Out ItemOut)) (w : ItemWire) → AreNoShuts k outs → IsLeftUp w (sent_under k outs w)
left_up k [] w none = record { device = refl; up = refl }
left_up k (Put j z ∷ outs) w none = then_same w (sent_one k (Put j z) w) (sent_under k outs (sent_one k (Put j z) w)) (put_same (nat_eq j k) z w) (left_up k outs (sent_one k (Put j z) w) none.1)
left_up k (Shut j ∷ outs) w none = subst (λ u. IsLeftUp w (sent_under k outs u)) (sym (ap (λ b. where_it b pipes.shut w) none.0)) (left_up k outs w none.1)
left_up k (Took from to origin ∷ outs) w none = left_up k outs w none.1

-- ---- steps that send nothing

-- it closes no connection with this number, and sends to no session
abbrev pub IsMild : ℕ → Act ItemOut → Type 0
IsMild k (steps.Close j) = nat_eq j k ≡ false
IsMild k (steps.Send n z) = ⊥
IsMild k _ = Unit {0}

abbrev pub AreMild : ℕ → List (Act ItemOut) → Type 0
AreMild k acts = AllByRecursion (IsMild k) acts

pub mild_open : (k : ℕ) (acts : List (Act ItemOut)) → AreMild k acts → (s : Step ItemOut) → AreNoShuts k s.outs → AreNoShuts k (acted itself acts s).outs
mild_open k [] mild s none = none
mild_open k (steps.Say j z ∷ acts) mild s none = mild_open k acts mild.1 (put j z s) (one_more k s.outs (Put j z) none tt)
mild_open k (steps.Close j ∷ acts) mild s none = mild_open k acts mild.1 (shut j s) (one_more k s.outs (Shut j) none mild.0)
mild_open k (steps.Enter j phase ∷ acts) mild s none = mild_open k acts mild.1 (act itself (steps.Enter j phase) s) none
mild_open k (steps.Fail j left ∷ acts) mild s none = mild_open k acts mild.1 (act itself (steps.Fail j left) s) none
mild_open k (steps.Bind a r j ∷ acts) mild s none = mild_open k acts mild.1 (act itself (steps.Bind a r j) s) none
mild_open k (steps.Resume previd a n j ∷ acts) mild s none = mild_open k acts mild.1 (act itself (steps.Resume previd a n j) s) none
mild_open k (steps.Enable n resume ∷ acts) mild s none = mild_open k acts mild.1 (act itself (steps.Enable n resume) s) none
mild_open k (steps.Acknowledge n h ∷ acts) mild s none = mild_open k acts mild.1 (act itself (steps.Acknowledge n h) s) none
mild_open k (steps.Ask n on ∷ acts) mild s none = mild_open k acts mild.1 (act itself (steps.Ask n on) s) none
mild_open k (steps.Handle n ∷ acts) mild s none = mild_open k acts mild.1 (act itself (steps.Handle n) s) none
mild_open k (steps.Present n available priority ∷ acts) mild s none = mild_open k acts mild.1 (act itself (steps.Present n available priority) s) none
mild_open k (steps.Copy n on ∷ acts) mild s none = mild_open k acts mild.1 (act itself (steps.Copy n on) s) none
mild_open k (steps.Send n z ∷ acts) mild s none = absurd mild.0
mild_open k (steps.Archive a e ∷ acts) mild s none = mild_open k acts mild.1 (act itself (steps.Archive a e) s) none
mild_open k (steps.Tell from to origin ∷ acts) mild s none = mild_open k acts mild.1 (told_out from to origin s) (one_more k s.outs (Took from to origin) none tt)

-- a connection is told that its session went elsewhere: it is this one, or another
pub parting_mild : (k : ℕ) (o : Option ℕ) (error : ItemOut) (more : List (Act ItemOut)) → AreMild k more → AreMild k (parting_where itself o error more) ⊎ (o ≡ Some k)
parting_mild k None error more mild = inl mild
parting_mild k (Some j) error more mild =
    elim (cases_eq j k) [
      | inl same ↦ inr (ap Some same)
      | inr apart ↦ inl (tt, (tt, (other_number j k apart, mild)))
    ]

-- ---- steps that send stanzas

abbrev pub IsGiving : Act ItemOut → Type 0
IsGiving (steps.Send n z) = Unit {0}
IsGiving (steps.Handle n) = Unit {0}
IsGiving (steps.Present n available priority) = Unit {0}
IsGiving (steps.Copy n on) = Unit {0}
IsGiving (steps.Archive a e) = Unit {0}
IsGiving (steps.Tell from to origin) = Unit {0}
IsGiving _ = ⊥

-- the session with a number is on this connection, and as many of its stanzas wait as may
pub record IsFull (k n : ℕ) (s : Step ItemOut) : Type 0 where
  pub session : Session ItemOut
  pub there : session_of n s.server_state.sessions ≡ Some session
  pub on : session.shown.conn ≡ Some k
  pub counted : session.shown.counted ≡ true
  pub full : length session.waiting ≡ MOST_UNACKNOWLEDGED

-- one of the steps is a stanza to such a one
pub record FillsAt (k : ℕ) (acts : List (Act ItemOut)) (s : Step ItemOut) : Type 0 where
  pub front : List (Act ItemOut)
  pub number : ℕ
  pub stanza : ItemOut
  pub others : List (Act ItemOut)
  pub are : acts ≡ front ++ steps.Send number stanza ∷ others
  pub is_full : IsFull k number (acted itself front s)

module _ (k : ℕ) where
  put_where_open : (o : Option ℕ) (z : ItemOut) (s : Step ItemOut) → AreNoShuts k s.outs → AreNoShuts k (put_where o z s).outs
  put_where_open None z s none = none
  put_where_open (Some j) z s none = one_more k s.outs (Put j z) none tt

  ask_where_open : (n : ℕ) (o : Option ℕ) (due : Bool) (s : Step ItemOut) → AreNoShuts k s.outs → AreNoShuts k (ask_where itself n o due s).outs
  ask_where_open n o false s none = none
  ask_where_open n None true s none = none
  ask_where_open n (Some j) true s none = one_more k s.outs (Put j request_item) none tt

  part_where_open : (o : Option ℕ) (error : ItemOut) (s : Step ItemOut) → AreNoShuts k s.outs → AreNoShuts k (part_where itself o error s).outs ⊎ (o ≡ Some k)
  part_where_open None error s none = inl none
  part_where_open (Some j) error s none =
      elim (cases_eq j k) [
        | inl same ↦ inr (ap Some same)
        | inr apart ↦
            let one : AreNoShuts k (s.outs ++ Put j error ∷ []) = one_more k s.outs (Put j error) none tt in
            let two : AreNoShuts k ((s.outs ++ Put j error ∷ []) ++ Put j Closing ∷ []) = one_more k (s.outs ++ Put j error ∷ []) (Put j Closing) one tt in
            inl (one_more k ((s.outs ++ Put j error ∷ []) ++ Put j Closing ∷ []) (Shut j) two (other_number j k apart))
      ]

  module _ (n : ℕ) (z : ItemOut) (s : Step ItemOut) (none : AreNoShuts k s.outs) where
    abbrev Outcome : Step ItemOut → Type 0
    Outcome t = AreNoShuts k t.outs ⊎ IsFull k n s

    module _ (t : Session ItemOut) (there : session_of n s.server_state.sessions ≡ Some t) where
      counted_so : (full : Bool) → (length t.waiting == MOST_UNACKNOWLEDGED) ≡ full → t.shown.counted ≡ true → Outcome (cond full (overflow itself n (told t) s) (queue itself n z (told t) s))
      counted_so true full counted = by (part_where_open t.shown.conn (error_item ResourceConstraint) (in_sessions (without n) s) none)
        where
          by : AreNoShuts k (overflow itself n (told t) s).outs ⊎ (t.shown.conn ≡ Some k) → Outcome (overflow itself n (told t) s)
          by (inl stays) = inl stays
          by (inr on) = inr (record { session = t; there = there; on = on; counted = counted; full = eqb-true (length t.waiting) MOST_UNACKNOWLEDGED full })
      counted_so false full counted =
          inl (ask_where_open n t.shown.conn (is_due (told t)) (put_where t.shown.conn z (in_sessions (with_session n (waits z)) s)) (put_where_open t.shown.conn z (in_sessions (with_session n (waits z)) s) none))

      either : (counted : Bool) → t.shown.counted ≡ counted → Outcome (cond (not counted) (put_where t.shown.conn z s) (cond (length t.waiting == MOST_UNACKNOWLEDGED) (overflow itself n (told t) s) (queue itself n z (told t) s)))
      either true counted = counted_so (length t.waiting == MOST_UNACKNOWLEDGED) refl counted
      either false counted = inl (put_where_open t.shown.conn z s none)

    by_session : (o : Option (Session ItemOut)) → session_of n s.server_state.sessions ≡ o → Outcome (send_by_info itself n z (option_map told o) s)
    by_session None there = inl none
    by_session (Some t) there = either t there t.shown.counted refl

    send_open : Outcome (act itself (steps.Send n z) s)
    send_open = by_session (session_of n s.server_state.sessions) refl

  -- one step more stands before
  later : (a : Act ItemOut) (acts : List (Act ItemOut)) (s : Step ItemOut) → FillsAt k acts (act itself a s) → FillsAt k (a ∷ acts) s
  later a acts s f = record { front = a ∷ f.front; number = f.number; stanza = f.stanza; others = f.others; are = ap (λ l. a ∷ l) f.are; is_full = f.is_full }

  abbrev Given : List (Act ItemOut) → Step ItemOut → Type 0
  Given acts s = AreNoShuts k (acted itself acts s).outs ⊎ FillsAt k acts s

  goes_on : (a : Act ItemOut) (acts : List (Act ItemOut)) (s : Step ItemOut) → Given acts (act itself a s) → Given (a ∷ acts) s
  goes_on a acts s (inl done) = inl done
  goes_on a acts s (inr f) = inr (later a acts s f)

  pub given_open : (acts : List (Act ItemOut)) → AllByRecursion IsGiving acts → (s : Step ItemOut) → AreNoShuts k s.outs → AreNoShuts k (acted itself acts s).outs ⊎ FillsAt k acts s
  given_open [] giving s none = inl none
  given_open (steps.Send n z ∷ acts) giving s none =
      elim (send_open n z s none) [
        | inl stays ↦ goes_on (steps.Send n z) acts s (given_open acts giving.1 (act itself (steps.Send n z) s) stays)
        | inr full ↦ inr (record { front = []; number = n; stanza = z; others = acts; are = refl; is_full = full })
      ]
  given_open (steps.Handle n ∷ acts) giving s none = goes_on (steps.Handle n) acts s (given_open acts giving.1 (act itself (steps.Handle n) s) none)
  given_open (steps.Present n available priority ∷ acts) giving s none = goes_on (steps.Present n available priority) acts s (given_open acts giving.1 (act itself (steps.Present n available priority) s) none)
  given_open (steps.Copy n on ∷ acts) giving s none = goes_on (steps.Copy n on) acts s (given_open acts giving.1 (act itself (steps.Copy n on) s) none)
  given_open (steps.Archive a e ∷ acts) giving s none = goes_on (steps.Archive a e) acts s (given_open acts giving.1 (act itself (steps.Archive a e) s) none)
  given_open (steps.Tell from to origin ∷ acts) giving s none = goes_on (steps.Tell from to origin) acts s (given_open acts giving.1 (told_out from to origin s) (one_more k s.outs (Took from to origin) none tt))
  given_open (steps.Say j z ∷ acts) giving s none = absurd giving.0
  given_open (steps.Close j ∷ acts) giving s none = absurd giving.0
  given_open (steps.Enter j phase ∷ acts) giving s none = absurd giving.0
  given_open (steps.Fail j left ∷ acts) giving s none = absurd giving.0
  given_open (steps.Bind a r j ∷ acts) giving s none = absurd giving.0
  given_open (steps.Resume previd a n j ∷ acts) giving s none = absurd giving.0
  given_open (steps.Enable n resume ∷ acts) giving s none = absurd giving.0
  given_open (steps.Acknowledge n h ∷ acts) giving s none = absurd giving.0
  given_open (steps.Ask n on ∷ acts) giving s none = absurd giving.0
