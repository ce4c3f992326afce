-- Words that are put and taken keep that ends and requests come in time.
use Rattle.std.proofs.Common.{◌≡◌, ℕ, ◌+◌, ◌≤◌, true, false, List, [], ◌∷◌, ◌++◌, take, refl, sym, ap, ◌∙◌, subst, arith, inl, inr}
use Rattle.std.proofs.lemmas.Bool.{cases_Bool}
use Rattle.std.proofs.lemmas.List.{append-nil}
use Rattle.sim_2_links.proofs.Tables.{cut_stops, cut_down_words}
use Rattle.sim_2_links.proofs.CutLinks.{not_true}
use Rattle.sim_2_links.proofs.Hands.{flow_down, up_words_down, down_words_stopped, flow_up}
use Rattle.sim_2_links.proofs.Detached.{halted}
use Rattle.sim_2_links.proofs.Heard.{down_words_up}
use Rattle.sim_2_links.proofs.Prompt.{flowing_up, flowing_up_left, flowing_down, flowing_down_left, same_down, same_up, same_flow_up, same_flow_down}
use Rattle.sim_2_links.proofs.Many.{none_where, many_later, all_ended, read_more, covered_more, read_front, read_later, covered_later, taken_higher, covered_higher, taken_more, covered_in_more, asked_more}
use Rattle.sim_2_links.specs.Words.{St, Req, Ack, UpWord, Up, DownWord, Err, End}
use Rattle.sim_2_links.specs.Wires.{Wires, Flow, Stop, is_flowing, up_words, down_words, send_up, send_down, left_up, left_down, cut, halt}
use Rattle.sim_2_links.specs.Stages.{Ending, Stands, Errs, Closes, tail_of}
use Rattle.sim_2_links.specs.Paging.{Paging, one_if, many, Course, covered_at, ended_at, AreReadInTime, covered, covered_up, asked_at, IsTakenInTime, AreTakenInTime, all_asked, covered_in, asked_now, asked_then, IsNearInTime, IsInTime}

abbrev pub IsRead : {A : Type 0} → Paging A → List (DownWord A) → Course A → Type 0
IsRead p ws t = AreReadInTime p t.put (asked_now p t) (many p.ends t.heard) ws

-- where nothing flows

pub stopped_in_time : {A : Type 0} (p : Paging A) (x : Wires A) (t : Course A) → is_flowing x ≡ false → IsRead p (down_words x) t → IsInTime p x t
stopped_in_time p x t stopped read = record {
  near = record { read = read; taken = λ e. absurd (not_true stopped e); handled = λ e. absurd (not_true stopped e) };
  last = λ e. absurd (not_true stopped e);
}

pub cut_in_time : {A : Type 0} (p : Paging A) (i j : ℕ) (x : Wires A) (t : Course A) → IsInTime p x t → IsInTime p (cut i j x) t
cut_in_time p i j x t a = stopped_in_time p (cut i j x) t (cut_stops i j x) (subst (λ ws. IsRead p ws t) (sym (cut_down_words i j x)) (read_front p t.put (asked_now p t) (many p.ends t.heard) j (down_words x) a.near.read))

shut_read : {A : Type 0} (p : Paging A) (put : List A) (m e : ℕ) (end : Ending) (x : Wires A) → AreReadInTime p put m e (down_words x) → AreReadInTime p put m e (down_words (halt (send_down (tail_of end) x)))
shut_read p put m e Stands (Flow us ds) a = subst (λ ws. AreReadInTime p put m e ws) (sym (append-nil ds)) a
shut_read p put m e (Errs cause) (Flow us ds) a = read_more p put m e (e + all_ended p ds) ds (Err cause ∷ End ∷ []) refl a (tt, (tt, tt))
shut_read p put m e Closes (Flow us ds) a = read_more p put m e (e + all_ended p ds) ds (End ∷ []) refl a (tt, tt)
shut_read p put m e end (Stop us ds lu ld) a = a

pub shut_in_time : {A : Type 0} (p : Paging A) (end : Ending) (x : Wires A) (t : Course A) → IsInTime p x t → IsInTime p (halt (send_down (tail_of end) x)) t
shut_in_time p end x t a = stopped_in_time p (halt (send_down (tail_of end) x)) t (halted (tail_of end) x) (shut_read p t.put (asked_now p t) (many p.ends t.heard) end x a.near.read)

-- the client reads a word, and puts these

abbrev pub IsQuietUp : {A : Type 0} → Paging A → List (UpWord A) → Type 0
IsQuietUp p ups = ((m h : ℕ) → AreTakenInTime p m h ups × (covered_in p m h ups ≡ m)) × (all_asked p ups ≡ 0)

pub none_quiet : {A : Type 0} (p : Paging A) → IsQuietUp p []
none_quiet p = (λ m h. (tt, refl), refl)

pub count_quiet : {A : Type 0} (p : Paging A) (n : ℕ) → IsQuietUp p (Up (Ack n) ∷ [])
count_quiet p n = (λ m h. ((tt, tt), refl), refl)

pub word_read : {A : Type 0} (p : Paging A) (x : Wires A) (t : Course A) (acked : ℕ) (heard : List A) (w : DownWord A) (rest : List (DownWord A)) (ups : List (UpWord A)) → down_words x ≡ w ∷ rest →
    many p.asks (take acked t.put) ≡ covered_at p t.put (asked_now p t) w → many p.ends heard ≡ many p.ends t.heard + ended_at p w → IsQuietUp p ups → IsInTime p x t → IsInTime p (send_up ups (left_down rest x)) (record t { acked = acked; heard = heard })
word_read {A = A} p x t acked heard w rest ups first is_acked is_heard quiet a = record {
  near = record {
    read = subst (λ ws. AreReadInTime p t.put (many p.asks (take acked t.put)) (many p.ends heard) ws) (sym (down_words_up ups rest x))
        (subst (λ n. AreReadInTime p t.put (many p.asks (take acked t.put)) n rest) (sym is_heard) (subst (λ n. AreReadInTime p t.put n (many p.ends t.heard + ended_at p w) rest) (sym is_acked) before.1));
    taken = λ e.
        let e' : is_flowing x ≡ true = sym (flow_up ups rest x) ∙ e in
        subst (λ ws. AreTakenInTime p (asked_then p y s) h ws) (sym (flowing_up_left ups rest x e')) (subst (λ n. AreTakenInTime p n h (up_words x ++ ups)) (sym then)
        (taken_more p (asked_then p x t) h (h + all_asked p (up_words x)) (up_words x) ups refl (a.near.taken e') (quiet.0 (covered_in p (asked_then p x t) h (up_words x)) (h + all_asked p (up_words x))).0));
    handled = λ e. subst (λ n. h ≤ n + 1) (sym then) (a.near.handled (sym (flow_up ups rest x) ∙ e));
  };
  last = λ e.
      let e' : is_flowing x ≡ true = sym (flow_up ups rest x) ∙ e in
      subst (λ ws. h + all_asked p ws ≤ covered_in p (asked_then p y s) h ws) (sym (flowing_up_left ups rest x e')) (subst (λ n. h + all_asked p (up_words x ++ ups) ≤ covered_in p n h (up_words x ++ ups)) (sym then) (more e'));
}
  where
    y : Wires A
    y = send_up ups (left_down rest x)

    s : Course A
    s = record t { acked = acked; heard = heard }

    h : ℕ
    h = many p.asks t.got

    before : AreReadInTime p t.put (asked_now p t) (many p.ends t.heard) (w ∷ rest)
    before = subst (λ ws. AreReadInTime p t.put (asked_now p t) (many p.ends t.heard) ws) first a.near.read

    then : asked_then p (send_up ups (left_down rest x)) (record t { acked = acked; heard = heard }) ≡ asked_then p x t
    then = ap (λ ws. covered p t.put (many p.asks (take acked t.put)) ws) (down_words_up ups rest x) ∙ ap (λ n. covered p t.put n rest) is_acked ∙ ap (λ ws. covered p t.put (asked_now p t) ws) (sym first)

    more : is_flowing x ≡ true → many p.asks t.got + all_asked p (up_words x ++ ups) ≤ covered_in p (asked_then p x t) (many p.asks t.got) (up_words x ++ ups)
    more e =
        let old = a.last e in
        let sum = asked_more p (up_words x) ups in
        let none = quiet.1 in
        let one = covered_in_more p (asked_then p x t) (many p.asks t.got) (many p.asks t.got + all_asked p (up_words x)) (up_words x) ups refl in
        let two = (quiet.0 (covered_in p (asked_then p x t) (many p.asks t.got) (up_words x)) (many p.asks t.got + all_asked p (up_words x))).1 in
        omega arith

-- the server takes a word, and puts these

taken_handled : {A : Type 0} (p : Paging A) (m h : ℕ) (w : UpWord A) → h ≤ m + 1 → IsTakenInTime p m h w → h + asked_at p w ≤ covered_up m h w + 1
taken_handled p m h (Up (St z)) low a = elim (cases_Bool (p.asks z)) [
  | inl e ↦ let one : one_if (p.asks z) ≡ 1 = ap one_if e in let b = a e in omega arith
  | inr e ↦ let none : one_if (p.asks z) ≡ 0 = ap one_if e in omega arith
]
taken_handled p m h (Up Req) low a = omega arith
taken_handled p m h (Up (Ack n)) low a = omega arith
taken_handled p m h _ low a = omega arith

pub word_taken : {A : Type 0} (p : Paging A) (x : Wires A) (t : Course A) (got : List A) (w : UpWord A) (rest : List (UpWord A)) (downs : List (DownWord A)) → up_words x ≡ w ∷ rest →
    (is_flowing x ≡ true → many p.asks got ≡ many p.asks t.got + asked_at p w) → ((m e : ℕ) → AreReadInTime p t.put m e downs) → (is_flowing x ≡ true → covered p t.put (asked_then p x t) downs ≡ covered_up (asked_then p x t) (many p.asks t.got) w) →
    IsInTime p x t → IsInTime p (send_down downs (left_up rest x)) (record t { got = got })
word_taken {A = A} p x t got w rest downs first is_got quiet puts a = record {
  near = record {
    read = elim (cases_Bool (is_flowing x)) [
      | inl e ↦ subst (λ ws. IsRead p ws t) (sym (flowing_down_left downs rest x e)) (read_more p t.put (asked_now p t) (many p.ends t.heard) (many p.ends t.heard + all_ended p (down_words x)) (down_words x) downs refl a.near.read (quiet (asked_then p x t) (many p.ends t.heard + all_ended p (down_words x))))
      | inr e ↦ subst (λ ws. IsRead p ws t) (sym (down_words_stopped downs rest x e)) a.near.read
    ];
    taken = λ e.
        let f : is_flowing x ≡ true = sym (flow_down downs rest x) ∙ e in
        subst (λ ws. AreTakenInTime p (asked_then p y t) (many p.asks got) ws) (sym (up_words_down downs rest x))
        (subst (λ n. AreTakenInTime p n (many p.asks got) rest) (sym (then f)) (subst (λ n. AreTakenInTime p (covered_up m h w) n rest) (sym (is_got f)) (before f).1));
    handled = λ e.
        let f : is_flowing x ≡ true = sym (flow_down downs rest x) ∙ e in
        subst (λ n. many p.asks got ≤ n + 1) (sym (then f)) (subst (λ n. n ≤ covered_up m h w + 1) (sym (is_got f)) (taken_handled p m h w (a.near.handled f) (before f).0));
  };
  last = λ e.
      let f : is_flowing x ≡ true = sym (flow_down downs rest x) ∙ e in
      subst (λ ws. many p.asks got + all_asked p ws ≤ covered_in p (asked_then p y t) (many p.asks got) ws) (sym (up_words_down downs rest x))
      (subst (λ n. many p.asks got + all_asked p rest ≤ covered_in p n (many p.asks got) rest) (sym (then f)) (subst (λ n. n + all_asked p rest ≤ covered_in p (covered_up m h w) n rest) (sym (is_got f)) (left f)));
}
  where
    y : Wires A
    y = send_down downs (left_up rest x)

    m : ℕ
    m = asked_then p x t

    h : ℕ
    h = many p.asks t.got

    before : is_flowing x ≡ true → AreTakenInTime p (asked_then p x t) (many p.asks t.got) (w ∷ rest)
    before f = subst (λ ws. AreTakenInTime p (asked_then p x t) (many p.asks t.got) ws) first (a.near.taken f)

    then : is_flowing x ≡ true → asked_then p (send_down downs (left_up rest x)) t ≡ covered_up (asked_then p x t) (many p.asks t.got) w
    then f = ap (λ ws. covered p t.put (asked_now p t) ws) (flowing_down_left downs rest x f) ∙ covered_more p t.put (asked_now p t) (down_words x) downs ∙ puts f

    left : is_flowing x ≡ true → many p.asks t.got + asked_at p w + all_asked p rest ≤ covered_in p (covered_up (asked_then p x t) (many p.asks t.got) w) (many p.asks t.got + asked_at p w) rest
    left f =
        let old : many p.asks t.got + all_asked p (w ∷ rest) ≤ covered_in p (asked_then p x t) (many p.asks t.got) (w ∷ rest) = subst (λ ws. many p.asks t.got + all_asked p ws ≤ covered_in p (asked_then p x t) (many p.asks t.got) ws) first (a.last f) in
        omega arith

-- the server puts these

pub word_put : {A : Type 0} (p : Paging A) (x : Wires A) (t : Course A) (w : DownWord A) →
    (is_flowing x ≡ true → AreReadInTime p t.put (asked_then p x t) (many p.ends t.heard + all_ended p (down_words x)) (w ∷ [])) → ((m : ℕ) → covered_at p t.put m w ≡ m) → IsInTime p x t → IsInTime p (send_down (w ∷ []) x) t
word_put {A = A} p x t w reads same a = record {
  near = record {
    read = elim (cases_Bool (is_flowing x)) [
      | inl e ↦ subst (λ ws. IsRead p ws t) (sym (flowing_down (w ∷ []) x e)) (read_more p t.put (asked_now p t) (many p.ends t.heard) (many p.ends t.heard + all_ended p (down_words x)) (down_words x) (w ∷ []) refl a.near.read (reads e))
      | inr e ↦ subst (λ ws. IsRead p ws t) (sym (stopped_down (w ∷ []) x e)) a.near.read
    ];
    taken = λ e.
        let f : is_flowing x ≡ true = sym (same_flow_down (w ∷ []) x) ∙ e in
        subst (λ ws. AreTakenInTime p (asked_then p y t) h ws) (sym (same_up (w ∷ []) x)) (subst (λ n. AreTakenInTime p n h (up_words x)) (sym (then f)) (a.near.taken f));
    handled = λ e. let f : is_flowing x ≡ true = sym (same_flow_down (w ∷ []) x) ∙ e in subst (λ n. h ≤ n + 1) (sym (then f)) (a.near.handled f);
  };
  last = λ e.
      let f : is_flowing x ≡ true = sym (same_flow_down (w ∷ []) x) ∙ e in
      subst (λ ws. h + all_asked p ws ≤ covered_in p (asked_then p y t) h ws) (sym (same_up (w ∷ []) x)) (subst (λ n. h + all_asked p (up_words x) ≤ covered_in p n h (up_words x)) (sym (then f)) (a.last f));
}
  where
    y : Wires A
    y = send_down (w ∷ []) x

    h : ℕ
    h = many p.asks t.got

    stopped_down : (ws : List (DownWord A)) (x : Wires A) → is_flowing x ≡ false → down_words (send_down ws x) ≡ down_words x
    stopped_down ws (Flow us ds) e = absurd (not_true e refl)
    stopped_down ws (Stop us ds lu ld) e = refl

    then : is_flowing x ≡ true → asked_then p (send_down (w ∷ []) x) t ≡ asked_then p x t
    then f = ap (λ ws. covered p t.put (asked_now p t) ws) (flowing_down (w ∷ []) x f) ∙ covered_more p t.put (asked_now p t) (down_words x) (w ∷ []) ∙ same (asked_then p x t)

-- the client puts a stanza

more_now : {A : Type 0} (p : Paging A) (t : Course A) (z : A) → asked_now p t ≤ asked_now p (record t { put = t.put ++ z ∷ [] })
more_now p t z = many_later p.asks t.acked t.put (z ∷ [])

more_then : {A : Type 0} (p : Paging A) (x : Wires A) (t : Course A) (z : A) → asked_then p x t ≤ asked_then p x (record t { put = t.put ++ z ∷ [] })
more_then p x t z = covered_later p t.put z (asked_now p t) (asked_now p (record t { put = t.put ++ z ∷ [] })) (down_words x) (more_now p t z)

pub queued_in_time : {A : Type 0} (p : Paging A) (x : Wires A) (t : Course A) (z : A) → IsInTime p x t → IsInTime p x (record t { put = t.put ++ z ∷ [] })
queued_in_time p x t z a = record {
  near = record {
    read = read_later p t.put z (asked_now p t) (asked_now p (record t { put = t.put ++ z ∷ [] })) (many p.ends t.heard) (down_words x) (more_now p t z) a.near.read;
    taken = λ e. taken_higher p (asked_then p x t) (asked_then p x (record t { put = t.put ++ z ∷ [] })) (many p.asks t.got) (up_words x) (more_then p x t z) (a.near.taken e);
    handled = λ e. let b = a.near.handled e in let c = more_then p x t z in omega arith;
  };
  last = λ e. let b = a.last e in let c = covered_higher p (asked_then p x t) (asked_then p x (record t { put = t.put ++ z ∷ [] })) (many p.asks t.got) (up_words x) (more_then p x t z) in omega arith;
}

same_then : {A : Type 0} (p : Paging A) (x : Wires A) (t : Course A) (ups : List (UpWord A)) → asked_then p (send_up ups x) t ≡ asked_then p x t
same_then p x t ups = ap (λ ws. covered p t.put (asked_now p t) ws) (same_down ups x)

up_more : {A : Type 0} (p : Paging A) (x : Wires A) (t : Course A) (ups : List (UpWord A)) → IsNearInTime p x t →
    (is_flowing x ≡ true → AreTakenInTime p (covered_in p (asked_then p x t) (many p.asks t.got) (up_words x)) (many p.asks t.got + all_asked p (up_words x)) ups) → IsNearInTime p (send_up ups x) t
up_more {A = A} p x t ups a more = record {
  read = subst (λ ws. IsRead p ws t) (sym (same_down ups x)) a.read;
  taken = λ e.
      let f : is_flowing x ≡ true = sym (same_flow_up ups x) ∙ e in
      subst (λ ws. AreTakenInTime p (asked_then p (send_up ups x) t) (many p.asks t.got) ws) (sym (flowing_up ups x f)) (subst (λ n. AreTakenInTime p n (many p.asks t.got) (up_words x ++ ups)) (sym (same_then p x t ups))
      (taken_more p (asked_then p x t) (many p.asks t.got) (many p.asks t.got + all_asked p (up_words x)) (up_words x) ups refl (a.taken f) (more f)));
  handled = λ e. subst (λ n. many p.asks t.got ≤ n + 1) (sym (same_then p x t ups)) (a.handled (sym (same_flow_up ups x) ∙ e));
}

-- also a request, where those before it will be acknowledged
pub put_near : {A : Type 0} (p : Paging A) (x : Wires A) (t : Course A) (z : A) → IsInTime p x t → IsNearInTime p (send_up (Up (St z) ∷ []) x) (record t { put = t.put ++ z ∷ [] })
put_near p x t z a = let b = queued_in_time p x t z a in up_more p x (record t { put = t.put ++ z ∷ [] }) (Up (St z) ∷ []) b.near (λ f. let c = b.last f in (λ it. c, tt))

-- a stanza that is no request
pub put_in_time : {A : Type 0} (p : Paging A) (x : Wires A) (t : Course A) (z : A) → p.asks z ≡ false → IsInTime p x t → IsInTime p (send_up (Up (St z) ∷ []) x) (record t { put = t.put ++ z ∷ [] })
put_in_time p x t z none a = let b = queued_in_time p x t z a in record {
  near = put_near p x t z a;
  last = λ e.
      let f : is_flowing x ≡ true = sym (same_flow_up (Up (St z) ∷ []) x) ∙ e in
      let s : Course _ = record t { put = t.put ++ z ∷ [] } in
      let h : ℕ = many p.asks t.got in
      subst (λ ws. many p.asks t.got + all_asked p ws ≤ covered_in p (asked_then p (send_up (Up (St z) ∷ []) x) (record t { put = t.put ++ z ∷ [] })) (many p.asks t.got) ws) (sym (flowing_up (Up (St z) ∷ []) x f))
      (subst (λ n. many p.asks t.got + all_asked p (up_words x ++ Up (St z) ∷ []) ≤ covered_in p n (many p.asks t.got) (up_words x ++ Up (St z) ∷ [])) (sym (same_then p x (record t { put = t.put ++ z ∷ [] }) (Up (St z) ∷ [])))
      (let old = b.last f in
      let zero = none_where (p.asks z) none in
      let sum = asked_more p (up_words x) (Up (St z) ∷ []) in
      let one = covered_in_more p (asked_then p x (record t { put = t.put ++ z ∷ [] })) (many p.asks t.got) (many p.asks t.got + all_asked p (up_words x)) (up_words x) (Up (St z) ∷ []) refl in
      omega arith));
}

-- a request for a count, by which all will be acknowledged
pub asked_in_time : {A : Type 0} (p : Paging A) (x : Wires A) (t : Course A) → IsNearInTime p x t → IsInTime p (send_up (Up Req ∷ []) x) t
asked_in_time p x t a = record {
  near = up_more p x t (Up Req ∷ []) a (λ f. (tt, tt));
  last = λ e.
      let f : is_flowing x ≡ true = sym (same_flow_up (Up Req ∷ []) x) ∙ e in
      subst (λ ws. many p.asks t.got + all_asked p ws ≤ covered_in p (asked_then p (send_up (Up Req ∷ []) x) t) (many p.asks t.got) ws) (sym (flowing_up (Up Req ∷ []) x f))
      (subst (λ n. many p.asks t.got + all_asked p (up_words x ++ Up Req ∷ []) ≤ covered_in p n (many p.asks t.got) (up_words x ++ Up Req ∷ [])) (sym (same_then p x t (Up Req ∷ [])))
      (let sum = asked_more p (up_words x) (Up Req ∷ []) in
      let one = covered_in_more p (asked_then p x t) (many p.asks t.got) (many p.asks t.got + all_asked p (up_words x)) (up_words x) (Up Req ∷ []) refl in
      omega arith));
}
