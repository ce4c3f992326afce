-- The server can take each word that comes.
use Rattle.std.proofs.Common.{◌≡◌, ◌≢◌, ℕ, ◌+◌, ◌-◌, ◌≤◌, true, false, ◌&&◌, List, [], ◌∷◌, drop, map, refl, sym, ap, ◌∙◌, subst, arith, ◌⊎◌, inl, inr, Option, None, Some}
use Rattle.std.proofs.lemmas.Bool.{cases_Bool, cases_eq, leb-true, leb-false}
use Rattle.std.proofs.Math.Dec.{leb}
use Rattle.sim_2_links.proofs.Entries.{at_same, at_other, was, has_is}
use Rattle.sim_2_links.proofs.CutLinks.{some_one, some_same}
use Rattle.sim_2_links.proofs.Hands.{no_entry, up_words_down}
use Rattle.sim_2_links.proofs.Detached.{halted_up, first_whole}
use Rattle.sim_2_links.proofs.Resumption.{asks}
use Rattle.sim_2_links.proofs.Late.{late_if}
use Rattle.sim_2_links.proofs.Enabling.{enabled_if}
use Rattle.sim_2_links.proofs.Expected.{expected_up}
use Rattle.sim_2_links.specs.Words.{Traffic, St, Req, Ack, UpWord, Hdr, Auth, Resp, ResumeAt, Bind, Enable, Up, Foot, DownWord, Head, Feat, Chal, Succ, Failed, Resumed, Bound, Enabled, Down, Conflict, TooHigh, up_stanzas, Phase, Sasl, Challenge, Restart, Ready, AtSession}
use Rattle.sim_2_links.specs.Wires.{is_flowing, up_words, send_down, left_up}
use Rattle.sim_2_links.specs.Stages.{AsksResume, Goes, server_hand, Errs, Closes, tail_of, Conn}
use Rattle.sim_2_links.specs.Views.{with_at, alter, has, Session, Row, View, on_phase, session_on, carries}
use Rattle.sim_2_links.specs.SessionMoves.{shut, lost_if, unread, resumed_if}
use Rattle.sim_2_links.specs.LinkMoves.{handled_if, stated_if, acked_if}
use Rattle.sim_2_links.specs.Links.{IsAsked, IsPlaced, ConnKept, GoesUp, RowKept, LinkKept}
use Rattle.sim_2_links.specs.Numbers.{IsRising}
use Rattle.sim_2_links.specs.Machine.{LinkMove, TakesHand, TakesResume, TakesLateResume, TakesStrangeResume, TakesHighResume, TakesBind, TakesEnable, TakesStanza, TakesRequest, TakesCount, TakesFoot, Detaches, Shuts, EndsRow, LinkMoves}
use Rattle.sim_2_links.specs.Promises.{IsExpectedUp, IsTaken}

-- one move more before
after_move : {A : Type 0} (move : LinkMove A) (v mid : View A) (k : ℕ) (rest : List (UpWord A)) → LinkMoves move v mid → IsTaken mid k rest → IsTaken v k rest
after_move move v mid k rest by t = record { moves = move ∷ t.moves; next = t.next; reaches = (mid, by, t.reaches); conn = t.conn; is = t.is; taken = t.taken }

-- a move after which the word is taken
by_move : {A : Type 0} (move : LinkMove A) (v next : View A) (k : ℕ) (conn : Conn A) (rest : List (UpWord A)) → LinkMoves move v next → next.conns k ≡ Some conn → (up_words conn.wires ≡ rest) ⊎ (up_words conn.wires ≡ []) → IsTaken v k rest
by_move move v next k conn rest by is taken = record { moves = move ∷ []; next = next; reaches = (next, by, refl); conn = conn; is = is; taken = taken }

by_hand : {A : Type 0} (v : View A) (k : ℕ) (c : Conn A) (w : UpWord A) (rest : List (UpWord A)) (phase : Phase) (puts : List (DownWord A)) → v.conns k ≡ Some c → up_words c.wires ≡ w ∷ rest → server_hand c.phase w ≡ Goes phase puts → IsTaken v k rest
by_hand v k c w rest phase puts is first hand =
    let this : Conn _ = record c { phase = phase; wires = send_down puts (left_up rest c.wires) } in
    by_move (TakesHand k) v (record v { conns = with_at k this v.conns }) k this rest (record { conn = c; is = is; word = w; rest = rest; first = first; phase = phase; puts = puts; hand = hand; gives = refl })
    (at_same k this v.conns) (inl (up_words_down puts rest c.wires))

-- a session on another connection

other_conn : {A : Type 0} (v : View A) (k j : ℕ) (c : Conn A) (r : Row A) → LinkKept v → v.conns k ≡ Some c → c.phase ≡ Ready → v.row ≡ Some r → r.on ≡ Some j → (d : Conn A) × (v.conns j ≡ Some d) × (j ≢ k)
other_conn {A = A} v k j c r kept is ready is_row on =
    let row = kept.row r is_row in
    let placed : (d : Conn A) × (v.conns j ≡ Some d) × (session_on d ≡ Some r.number) × (row.session.counted ≡ true → GoesUp d row.session) = subst (λ o. IsPlaced v.conns r row.session o) on row.placed in (
      placed.0,
      placed.1,
      λ same.
          let one : placed.0 ≡ c = some_one (v.conns k) placed.0 c (subst (λ n. v.conns n ≡ Some placed.0) same placed.1) is in
          let held : session_on c ≡ Some r.number = subst (λ x. session_on x ≡ Some r.number) one placed.2 in
          no_entry r.number (sym (ap (λ x. on_phase x c.ending c.gone) ready) ∙ held),
    )

-- a bind

bind_free : {A : Type 0} (v : View A) (k : ℕ) (c : Conn A) (rest : List (UpWord A)) → v.conns k ≡ Some c → up_words c.wires ≡ Bind ∷ rest → c.phase ≡ Ready → v.row ≡ None → ((q : ℕ) (s : Session A) → v.sessions q ≡ Some s → q + 1 ≤ v.free) → IsTaken v k rest
bind_free {A = A} v k c rest is first ready none given =
    let this : Conn A = record c { phase = AtSession v.free; wires = send_down (Bound v.free ∷ []) (left_up rest c.wires) } in
    by_move (TakesBind k v.free) v (record v {
      conns = with_at k this v.conns;
      row = Some (record { number = v.free; on = Some k; counted = false; acked = 0; handled = 0; queue = [] });
      sessions = with_at v.free unread v.sessions;
      free = v.free + 1;
    }) k this rest (record { conn = c; is = is; rest = rest; first = first; phase = ready; none = none; fresh = fresh (v.sessions v.free) refl; rises = (let l : v.free ≤ v.free = omega arith in l); gives = refl })
    (at_same k this v.conns) (inl (up_words_down (Bound v.free ∷ []) rest c.wires))
  where
    fresh : (o : Option (Session A)) → v.sessions v.free ≡ o → v.sessions v.free ≡ None
    fresh None e = e
    fresh (Some s) e = let g = given v.free s e in absurd (let no_way : ⊥ = omega arith in no_way)

-- by the row that there is, and by the connection that it is on
abbrev ByRow : {A : Type 0} → View A → ℕ → List (UpWord A) → Type 0
ByRow {A = A} v k rest = (o : Option (Row A)) → v.row ≡ o → IsTaken v k rest

abbrev ByPlace : {A : Type 0} → Row A → View A → ℕ → List (UpWord A) → Type 0
ByPlace r v k rest = (o : Option ℕ) → r.on ≡ o → IsTaken v k rest

bind_taken : {A : Type 0} (v : View A) (k : ℕ) (c : Conn A) (rest : List (UpWord A)) → LinkKept v → IsRising v → v.conns k ≡ Some c → up_words c.wires ≡ Bind ∷ rest → c.phase ≡ Ready → IsTaken v k rest
bind_taken {A = A} v k c rest kept rising is first ready = by v.row refl
  where
    by : ByRow v k rest
    by None none = bind_free v k c rest is first ready none rising.given
    by (Some r) is_row = placed r.on refl
      where
        placed : ByPlace r v k rest
        placed None off =
            after_move EndsRow v (record v { row = None }) k rest (record { row = r; is_row = is_row; off = off; gives = refl }) (bind_free (record v { row = None }) k c rest is first ready refl rising.given)
        placed (Some j) on =
            let d = other_conn v k j c r kept is ready is_row on in
            elim (cases_Bool r.counted) [
              | inr uncounted ↦
                  let mid : View A = record v { conns = with_at j (shut (Errs Conflict) d.0) v.conns; row = None } in
                  after_move (Shuts j (Errs Conflict)) v (record v { conns = with_at j (shut (Errs Conflict) d.0) v.conns; row = None }) k rest
                  (record { conn = d.0; is = d.1; row = r; is_row = is_row; on = on; uncounted = uncounted; reason = tt; gives = refl })
                  (bind_free mid k c rest (at_other j (shut (Errs Conflict) d.0) v.conns k d.2 ∙ is) first ready refl rising.given)
              | inl counted ↦
                  let f : ℕ → Session A → Session A = λ q s. lost_if (has (Some r.number) q) (s.counted && (has v.here j && has (carries d.0) q)) s in
                  let mid : View A = record v { conns = with_at j (shut (Errs Conflict) d.0) v.conns; row = Some (record r { on = None }); sessions = alter f v.sessions } in
                  after_move (Detaches j (Errs Conflict)) v mid k rest (record { conn = d.0; is = d.1; row = r; is_row = is_row; on = on; counted = counted; reason = tt; gives = refl })
                  (after_move EndsRow mid (record mid { row = None }) k rest (record { row = record r { on = None }; is_row = refl; off = refl; gives = refl })
                  (bind_free (record mid { row = None }) k c rest (at_other j (shut (Errs Conflict) d.0) v.conns k d.2 ∙ is) first ready refl (λ q s found. let w = was f v.sessions q s found in rising.given q w.0 w.1)))
            ]

-- a resumption

resume_off : {A : Type 0} (v : View A) (k h : ℕ) (c : Conn A) (rest : List (UpWord A)) (r : Row A) → v.conns k ≡ Some c → up_words c.wires ≡ ResumeAt r.number h ∷ rest → v.row ≡ Some r → r.on ≡ None → r.counted ≡ true → IsTaken v k rest
resume_off {A = A} v k h c rest r is first is_row off counted = by (cases_Bool (has v.here k))
  where
    puts : List (DownWord A)
    puts = Resumed r.number r.handled ∷ map Down (map St (drop (h - r.acked) r.queue))

    this : Conn A
    this = record c { phase = AtSession r.number; wires = send_down (Resumed r.number r.handled ∷ map Down (map St (drop (h - r.acked) r.queue))) (left_up rest c.wires) }

    new : Row A
    new = record r { on = Some k; acked = h; queue = drop (h - r.acked) r.queue }

    by : (has v.here k ≡ true) ⊎ (has v.here k ≡ false) → IsTaken v k rest
    by (inl works) =
        by_move (TakesResume k) v (record v { conns = with_at k this v.conns; row = Some new; sessions = alter (λ q s. resumed_if (has (Some r.number) q) (is_flowing c.wires) s) v.sessions }) k this rest
        (record { conn = c; here = has_is v.here k works; is = is; h = h; row = r; is_row = is_row; off = off; counted = counted; rest = rest; first = first; gives = refl })
        (at_same k this v.conns) (inl (up_words_down puts rest c.wires))
    by (inr left) = elim (cases_Bool (leb r.acked h)) [
      | inl e ↦
          by_move (TakesLateResume k) v (record v { conns = with_at k this v.conns; row = Some new; sessions = alter (λ q s. late_if (has (Some r.number) q) h s) v.sessions }) k this rest
          (record { conn = c; left = left; is = is; h = h; row = r; is_row = is_row; off = off; counted = counted; low = leb-true r.acked h e; rest = rest; first = first; gives = refl })
          (at_same k this v.conns) (inl (up_words_down puts rest c.wires))
      | inr e ↦
          by_move (TakesHighResume k) v (record v { conns = with_at k (shut (Errs TooHigh) c) v.conns; row = None }) k (shut (Errs TooHigh) c) rest
          (record { conn = c; is = is; h = h; row = r; is_row = is_row; off = off; rest = rest; first = first; high = inl (let l = leb-false r.acked h e in let low : h + 1 ≤ r.acked = omega arith in low); gives = refl })
          (at_same k (shut (Errs TooHigh) c) v.conns) (inr (halted_up (tail_of (Errs TooHigh)) c.wires))
    ]

resume_taken : {A : Type 0} (v : View A) (k p h : ℕ) (c : Conn A) (rest : List (UpWord A)) → LinkKept v → v.conns k ≡ Some c → up_words c.wires ≡ ResumeAt p h ∷ rest → c.phase ≡ Ready → IsTaken v k rest
resume_taken {A = A} v k p h c rest kept is first ready = by v.row refl
  where
    old : ConnKept v k c
    old = kept.conns k c is

    strange : ((r : Row A) → v.row ≡ Some r → r.number ≡ p → ⊥) → IsTaken v k rest
    strange no_row =
        let this : Conn A = record c { wires = send_down (Failed ∷ []) (left_up rest c.wires) } in
        by_move (TakesStrangeResume k) v (record v { conns = with_at k this v.conns }) k this rest (record { conn = c; is = is; p = p; h = h; rest = rest; first = first; no_row = no_row; gives = refl })
        (at_same k this v.conns) (inl (up_words_down (Failed ∷ []) rest c.wires))

    asked : IsAsked v.sessions (AsksResume p h)
    asked =
        let whole = first_whole (ResumeAt p h) rest c.wires first in
        subst (λ s. IsAsked v.sessions s) (asks old.stage c.footed p h whole.0 (sym old.at.up ∙ whole.1)).is old.asked

    by : ByRow v k rest
    by None none = strange (λ r is_row same. no_entry r (sym none ∙ is_row))
    by (Some r) is_row = numbered (cases_eq r.number p)
      where
        numbered : (r.number ≡ p) ⊎ (r.number ≡ p → ⊥) → IsTaken v k rest
        numbered (inr ne) = strange (λ x found same. ne (ap (λ (y : Row A). y.number) (some_same r x (sym is_row ∙ found)) ∙ same))
        numbered (inl same) = placed r.on refl
          where
            row : RowKept v.conns v.sessions r
            row = kept.row r is_row

            counted : r.counted ≡ true
            counted =
                let one : asked.0 ≡ row.session = some_one (v.sessions p) asked.0 row.session asked.1 (subst (λ n. v.sessions n ≡ Some row.session) same row.is) in
                row.counted ∙ sym (ap (λ (x : Session A). x.counted) one) ∙ (kept.sessions p asked.0 asked.1).read asked.2

            mine : up_words c.wires ≡ ResumeAt r.number h ∷ rest
            mine = first ∙ ap (λ (n : ℕ). ResumeAt n h ∷ rest) (sym same)

            placed : ByPlace r v k rest
            placed None off = resume_off v k h c rest r is mine is_row off counted
            placed (Some j) on =
                let d = other_conn v k j c r kept is ready is_row on in
                let mid : View A = record v { conns = with_at j (shut (Errs Conflict) d.0) v.conns; row = Some (record r { on = None }); sessions = alter (λ q s. lost_if (has (Some r.number) q) (s.counted && (has v.here j && has (carries d.0) q)) s) v.sessions } in
                after_move (Detaches j (Errs Conflict)) v mid k rest (record { conn = d.0; is = d.1; row = r; is_row = is_row; on = on; counted = counted; reason = tt; gives = refl })
                (resume_off mid k h c rest (record r { on = None }) (at_other j (shut (Errs Conflict) d.0) v.conns k d.2 ∙ is) mine refl refl counted)

-- a footer

foot_taken : {A : Type 0} (v : View A) (k : ℕ) (c : Conn A) (rest : List (UpWord A)) → LinkKept v → v.conns k ≡ Some c → up_words c.wires ≡ Foot ∷ rest → IsTaken v k rest
foot_taken {A = A} v k c rest kept is first = by (session_on c) refl
  where
    empty : (up_words (shut Closes c).wires ≡ rest) ⊎ (up_words (shut Closes c).wires ≡ [])
    empty = inr (halted_up (tail_of Closes) c.wires)

    by : (o : Option ℕ) → session_on c ≡ o → IsTaken v k rest
    by None off = by_move (TakesFoot k) v (record v { conns = with_at k (shut Closes c) v.conns }) k (shut Closes c) rest (record { conn = c; is = is; off = off; rest = rest; first = first; gives = refl }) (at_same k (shut Closes c) v.conns) empty
    by (Some p) held =
        let a = (kept.conns k c is).attached p held in
        elim (cases_Bool a.0.counted) [
          | inr uncounted ↦
              by_move (Shuts k Closes) v (record v { conns = with_at k (shut Closes c) v.conns; row = None }) k (shut Closes c) rest
              (record { conn = c; is = is; row = a.0; is_row = a.1; on = a.3; uncounted = uncounted; reason = (rest, first); gives = refl }) (at_same k (shut Closes c) v.conns) empty
          | inl counted ↦
              let mid : View A = record v { conns = with_at k (shut Closes c) v.conns; row = Some (record a.0 { on = None }); sessions = alter (λ q s. lost_if (has (Some a.0.number) q) (s.counted && (has v.here k && has (carries c) q)) s) v.sessions } in
              after_move (Detaches k Closes) v mid k rest (record { conn = c; is = is; row = a.0; is_row = a.1; on = a.3; counted = counted; reason = (rest, first); gives = refl })
              (by_move EndsRow mid (record mid { row = None }) k (shut Closes c) rest (record { row = record a.0 { on = None }; is_row = refl; off = refl; gives = refl }) (at_same k (shut Closes c) v.conns) empty)
        ]

-- traffic

traffic_taken : {A : Type 0} (v : View A) (k : ℕ) (c : Conn A) (t : Traffic A) (rest : List (UpWord A)) (r : Row A) → v.conns k ≡ Some c → up_words c.wires ≡ Up t ∷ rest → v.row ≡ Some r → r.on ≡ Some k → r.counted ≡ true → IsTaken v k rest
traffic_taken {A = A} v k c (St z) rest r is first is_row on counted =
    let this : Conn A = record c { wires = send_down [] (left_up rest c.wires) } in
    by_move (TakesStanza k z) v (record v { conns = with_at k this v.conns; row = Some (record r { handled = r.handled + 1 }); sessions = alter (λ q s. handled_if (has (Some r.number) q) z (up_stanzas rest) s) v.sessions }) k this rest
    (record { conn = c; is = is; rest = rest; first = first; row = r; is_row = is_row; on = on; counted = counted; gives = refl }) (at_same k this v.conns) (inl (up_words_down [] rest c.wires))
traffic_taken {A = A} v k c Req rest r is first is_row on counted =
    let this : Conn A = record c { wires = send_down (Down (Ack r.handled) ∷ []) (left_up rest c.wires) } in
    by_move (TakesRequest k) v (record v { conns = with_at k this v.conns; sessions = alter (λ q s. stated_if (has (Some r.number) q) s) v.sessions }) k this rest
    (record { conn = c; is = is; rest = rest; first = first; row = r; is_row = is_row; on = on; counted = counted; gives = refl }) (at_same k this v.conns) (inl (up_words_down (Down (Ack r.handled) ∷ []) rest c.wires))
traffic_taken {A = A} v k c (Ack h) rest r is first is_row on counted =
    let this : Conn A = record c { wires = send_down [] (left_up rest c.wires) } in
    by_move (TakesCount k h) v (record v { conns = with_at k this v.conns; row = Some (record r { acked = h; queue = drop (h - r.acked) r.queue }); sessions = alter (λ q s. acked_if (has (Some r.number) q) h s) v.sessions }) k this rest
    (record { conn = c; is = is; rest = rest; first = first; row = r; is_row = is_row; on = on; counted = counted; gives = refl }) (at_same k this v.conns) (inl (up_words_down [] rest c.wires))

pub up_taken : {A : Type 0} (v : View A) (k : ℕ) (c : Conn A) (w : UpWord A) (rest : List (UpWord A)) → LinkKept v → IsRising v → v.conns k ≡ Some c → up_words c.wires ≡ w ∷ rest → IsTaken v k rest
up_taken {A = A} v k c w rest kept rising is first = by w first (expected_up v k c w rest kept is first)
  where
    by : (w : UpWord A) → up_words c.wires ≡ w ∷ rest → IsExpectedUp v k c.phase w → IsTaken v k rest
    by Hdr f (inl e) = by_hand v k c Hdr rest Sasl (Head ∷ Feat ∷ []) is f (ap (λ x. server_hand x Hdr) e)
    by Hdr f (inr e) = by_hand v k c Hdr rest Ready (Head ∷ Feat ∷ []) is f (ap (λ x. server_hand x Hdr) e)
    by Auth f e = by_hand v k c Auth rest Challenge (Chal ∷ []) is f (ap (λ x. server_hand x Auth) e)
    by Resp f e = by_hand v k c Resp rest Restart (Succ ∷ []) is f (ap (λ x. server_hand x Resp) e)
    by (ResumeAt p h) f e = resume_taken v k p h c rest kept is f e
    by Bind f e = bind_taken v k c rest kept rising is f e
    by Enable f (r, is_row, phase, on, uncounted) =
        let this : Conn A = record c { wires = send_down (Enabled r.number ∷ []) (left_up rest c.wires) } in
        by_move (TakesEnable k) v (record v { conns = with_at k this v.conns; row = Some (record r { counted = true }); sessions = alter (λ q s. enabled_if (has (Some r.number) q) (is_flowing c.wires) s) v.sessions }) k this rest
        (record { conn = c; is = is; rest = rest; first = f; row = r; is_row = is_row; on = on; uncounted = uncounted; gives = refl }) (at_same k this v.conns) (inl (up_words_down (Enabled r.number ∷ []) rest c.wires))
    by (Up t) f (r, is_row, phase, on, counted) = traffic_taken v k c t rest r is f is_row on counted
    by Foot f e = foot_taken v k c rest kept is f
