-- The words of traffic, puts and requests keep that the count is still to come.
use Rattle.std.proofs.Common.{◌≡◌, ℕ, ◌+◌, ◌-◌, ◌≤◌, Bool, true, false, List, [], ◌∷◌, ◌++◌, length, drop, refl, sym, ap, ◌∙◌, subst, arith, ◌⊎◌, inl, inr, Some}
use Rattle.std.proofs.lemmas.List.{append-nil, length-append, length_push}
use Rattle.sim_2_links.proofs.Entries.{same_number, was, is_has}
use Rattle.sim_2_links.proofs.CutLinks.{some_one, some_same}
use Rattle.sim_2_links.proofs.Hands.{flow_down, flow_up, up_words_down}
use Rattle.sim_2_links.proofs.Heard.{down_words_up}
use Rattle.sim_2_links.proofs.Puts.{putting}
use Rattle.sim_2_links.proofs.Putting.{serving}
use Rattle.sim_2_links.proofs.Serving.{sent_down}
use Rattle.sim_2_links.proofs.Promised.{down_count_within}
use Rattle.sim_2_links.proofs.ToCome.{drop_whole, none_behind, none_push, on_way_more, on_way_last, to_come_more, to_come_last}
use Rattle.sim_2_links.proofs.Covering.{unseen_by, unseen_same, server_covered, client_covered, together, CoversAfter}
use Rattle.sim_2_links.proofs.Prompt.{flowing_up, flowing_up_left, flowing_down, flowing_down_left, same_down, same_up, same_flow_up, same_flow_down, carry_over}
use Rattle.sim_2_links.specs.Words.{St, Req, Ack, up_stanzas, down_stanzas, UpWord, Up, Down}
use Rattle.sim_2_links.specs.Wires.{is_flowing, up_words, down_words, send_up, send_down, left_up, left_down}
use Rattle.sim_2_links.specs.Stages.{Conn}
use Rattle.sim_2_links.specs.Views.{alter, has, Session, Row, Own, View}
use Rattle.sim_2_links.specs.LinkMoves.{handled_if, IsUpStanza, stated_if, IsUpRequest, acked_if, IsUpCount, read_if, IsDownStanza, told_if, IsDownRequest, heard_if, IsDownCount}
use Rattle.sim_2_links.specs.SessionMoves.{IsClientPut}
use Rattle.sim_2_links.specs.PutMoves.{IsClientRequest, IsServerPut, IsServerRequest}
use Rattle.sim_2_links.specs.Links.{LinkKept}
use Rattle.sim_2_links.specs.Covers.{NoneAsks, IsOnWay, IsToCome, IsCoveredBy, IsCovered}

-- the server's puts

pub server_put_covered : {A : Type 0} (test : A → Bool) (k : ℕ) (z : A) (v next : View A) → IsServerPut k z v next → IsCovered test v → IsCovered test next
server_put_covered {A = A} test k z v next m covered = subst (IsCovered test) (sym m.gives) (server_covered test v k m.conn (sent_down m.conn (St z)) (Some (record m.row { queue = m.row.queue ++ z ∷ [] })) (alter f v.sessions) m.is refl (same_flow_down (Down (St z) ∷ []) m.conn.wires)
    (λ n c o t here ne found own online flows is. unseen_by v f (λ q s. refl) (λ q s. refl) o t own is)
    (λ o t here own online flows is. let u = unseen_by v f (λ q s. refl) (λ q s. refl) o t own is in (
      u.0,
      u.1,
      carry_over test m.conn (sent_down m.conn (St z)) o o u.0 t refl u.2
          (λ n e. subst (IsOnWay n) (sym (flowing_down (Down (St z) ∷ []) m.conn.wires flows)) (on_way_more n (down_words m.conn.wires) (Down (St z) ∷ []) e))
          (λ n e. inr (subst (λ (l : List A). IsToCome n (length l) (up_words (send_down (Down (St z) ∷ []) m.conn.wires))) (sym u.3) (subst (λ ws. IsToCome n (length u.0.up.got) ws) (sym (same_up (Down (St z) ∷ []) m.conn.wires)) e))),
    ))
    covered)
  where
    f : ℕ → Session A → Session A
    f = λ q s. serving (has (Some m.row.number) q) z s

pub server_request_covered : {A : Type 0} (test : A → Bool) (k : ℕ) (v next : View A) → IsServerRequest k v next → IsCovered test v → IsCovered test next
server_request_covered {A = A} test k v next m covered = subst (IsCovered test) (sym m.gives) (server_covered test v k m.conn (sent_down m.conn Req) v.row v.sessions m.is refl (same_flow_down (Down Req ∷ []) m.conn.wires)
    (λ n c o t here ne found own online flows is. unseen_same v o t own is)
    (λ o t here own online flows is. (
      t,
      is,
      carry_over test m.conn (sent_down m.conn Req) o o t t refl refl
          (λ n e. subst (IsOnWay n) (sym (flowing_down (Down Req ∷ []) m.conn.wires flows)) (on_way_more n (down_words m.conn.wires) (Down Req ∷ []) e))
          (λ n e. inr (subst (λ ws. IsToCome n (length t.up.got) ws) (sym (same_up (Down Req ∷ []) m.conn.wires)) e)),
    ))
    covered)

-- the server takes traffic

pub up_stanza_covered : {A : Type 0} (test : A → Bool) (k : ℕ) (z : A) (v next : View A) → IsUpStanza k z v next → LinkKept v → IsCovered test v → IsCovered test next
up_stanza_covered {A = A} test k z v next m kept covered = subst (IsCovered test) (sym m.gives) (server_covered test v k m.conn this (Some (record m.row { handled = m.row.handled + 1 })) (alter f v.sessions) m.is refl (flow_down [] m.rest m.conn.wires)
    (λ n c o t here ne found own online flows is.
    let g = together v n c o kept here found own online flows in
    let on_n : m.row.on ≡ Some n = subst (λ (x : Row A). x.on ≡ Some n) (some_one v.row g.1.row m.row g.1.is_row m.is_row) g.1.on in
    absurd (ne (some_same k n (sym m.on ∙ on_n))))
    (λ o t here own online flows is.
    let g = together v k m.conn o kept here m.is own online flows in
    let mine : m.row.number ≡ o.number = sym (ap (λ (x : Row A). x.number) (some_one v.row g.1.row m.row g.1.is_row m.is_row)) ∙ g.1.number in
    let w = was f v.sessions o.number t is in
    let got : t.up.got ≡ w.0.up.got ++ z ∷ [] = ap (λ (x : Session A). x.up.got) (sym w.2) ∙ grown o.number w.0 mine in (
      w.0,
      w.1,
      carry_over test m.conn this o o w.0 t refl (ap (λ (x : Session A). x.up.put) (sym w.2))
          (λ n e. subst (IsOnWay n) (sym (flowing_down_left [] m.rest m.conn.wires flows ∙ append-nil (down_words m.conn.wires))) e)
          (λ n e. inr (subst (λ (l : List A). IsToCome n (length l) (up_words (send_down [] (left_up m.rest m.conn.wires)))) (sym got)
          (subst (λ ws. IsToCome n (length (w.0.up.got ++ z ∷ [])) ws) (sym (up_words_down [] m.rest m.conn.wires))
          (subst (λ (l : ℕ). IsToCome n l m.rest) (more w.0) (subst (IsToCome n (length w.0.up.got)) m.first e))))),
    ))
    covered)
  where
    this : Conn A
    this = record m.conn { wires = send_down [] (left_up m.rest m.conn.wires) }

    f : ℕ → Session A → Session A
    f = λ q s. handled_if (has (Some m.row.number) q) z (up_stanzas m.rest) s

    grown : (q : ℕ) (s : Session A) → m.row.number ≡ q → (f q s).up.got ≡ s.up.got ++ z ∷ []
    grown q s same = rw (is_has (Some m.row.number) q (ap Some same)) refl

    more : (s : Session A) → length s.up.got + 1 ≡ length (s.up.got ++ z ∷ [])
    more s = let e = length_push s.up.got z in omega arith

pub up_request_covered : {A : Type 0} (test : A → Bool) (k : ℕ) (v next : View A) → IsUpRequest k v next → LinkKept v → IsCovered test v → IsCovered test next
up_request_covered {A = A} test k v next m kept covered = subst (IsCovered test) (sym m.gives) (server_covered test v k m.conn this v.row (alter f v.sessions) m.is refl (flow_down (Down (Ack m.row.handled) ∷ []) m.rest m.conn.wires)
    (λ n c o t here ne found own online flows is. unseen_by v f (λ q s. refl) (λ q s. refl) o t own is)
    (λ o t here own online flows is.
    let u = unseen_by v f (λ q s. refl) (λ q s. refl) o t own is in
    let g = together v k m.conn o kept here m.is own online flows in
    let same : g.0 ≡ u.0 = some_one (v.sessions o.number) g.0 u.0 g.1.session u.1 in
    let handled : m.row.handled ≡ length u.0.up.got = sym (ap (λ (x : Row A). x.handled) (some_one v.row g.1.row m.row g.1.is_row m.is_row)) ∙ g.1.handled ∙ ap (λ (x : Session A). length x.up.got) same in
    let down : down_words (send_down (Down (Ack m.row.handled) ∷ []) (left_up m.rest m.conn.wires)) ≡ down_words m.conn.wires ++ Down (Ack m.row.handled) ∷ [] = flowing_down_left (Down (Ack m.row.handled) ∷ []) m.rest m.conn.wires flows in (
      u.0,
      u.1,
      carry_over test m.conn this o o u.0 t refl u.2
          (λ n e. subst (IsOnWay n) (sym down) (on_way_more n (down_words m.conn.wires) (Down (Ack m.row.handled) ∷ []) e))
          (λ n e. asked n u.0 t u.3 handled down (subst (IsToCome n (length u.0.up.got)) m.first e)),
    ))
    covered)
  where
    this : Conn A
    this = record m.conn { wires = send_down (Down (Ack m.row.handled) ∷ []) (left_up m.rest m.conn.wires) }

    f : ℕ → Session A → Session A
    f = λ q s. stated_if (has (Some m.row.number) q) s

    asked : (n : ℕ) (s t : Session A) → t.up.got ≡ s.up.got → m.row.handled ≡ length s.up.got → down_words (send_down (Down (Ack m.row.handled) ∷ []) (left_up m.rest m.conn.wires)) ≡ down_words m.conn.wires ++ Down (Ack m.row.handled) ∷ [] →
        (length s.up.got ≡ n) ⊎ IsToCome n (length s.up.got) m.rest →
        IsOnWay n (down_words (send_down (Down (Ack m.row.handled) ∷ []) (left_up m.rest m.conn.wires))) ⊎ IsToCome n (length t.up.got) (up_words (send_down (Down (Ack m.row.handled) ∷ []) (left_up m.rest m.conn.wires)))
    asked n s t got handled down (inl e) = inl (subst (IsOnWay n) (sym down) (subst (λ (h : ℕ). IsOnWay h (down_words m.conn.wires ++ Down (Ack m.row.handled) ∷ [])) (handled ∙ e) (on_way_last m.row.handled (down_words m.conn.wires))))
    asked n s t got handled down (inr e) = inr (subst (λ (l : List A). IsToCome n (length l) (up_words (send_down (Down (Ack m.row.handled) ∷ []) (left_up m.rest m.conn.wires)))) (sym got)
        (subst (λ ws. IsToCome n (length s.up.got) ws) (sym (up_words_down (Down (Ack m.row.handled) ∷ []) m.rest m.conn.wires)) e))

pub up_count_covered : {A : Type 0} (test : A → Bool) (k h : ℕ) (v next : View A) → IsUpCount k h v next → IsCovered test v → IsCovered test next
up_count_covered {A = A} test k h v next m covered = subst (IsCovered test) (sym m.gives) (server_covered test v k m.conn this (Some (record m.row { acked = h; queue = drop (h - m.row.acked) m.row.queue })) (alter f v.sessions) m.is refl (flow_down [] m.rest m.conn.wires)
    (λ n c o t here ne found own online flows is. unseen_by v f (λ q s. refl) (λ q s. refl) o t own is)
    (λ o t here own online flows is.
    let u = unseen_by v f (λ q s. refl) (λ q s. refl) o t own is in (
      u.0,
      u.1,
      carry_over test m.conn this o o u.0 t refl u.2
          (λ n e. subst (IsOnWay n) (sym (flowing_down_left [] m.rest m.conn.wires flows ∙ append-nil (down_words m.conn.wires))) e)
          (λ n e. inr (subst (λ (l : List A). IsToCome n (length l) (up_words (send_down [] (left_up m.rest m.conn.wires)))) (sym u.3)
          (subst (λ ws. IsToCome n (length u.0.up.got) ws) (sym (up_words_down [] m.rest m.conn.wires)) (subst (IsToCome n (length u.0.up.got)) m.first e)))),
    ))
    covered)
  where
    this : Conn A
    this = record m.conn { wires = send_down [] (left_up m.rest m.conn.wires) }

    f : ℕ → Session A → Session A
    f = λ q s. acked_if (has (Some m.row.number) q) h s

-- the client's puts

pub client_put_covered : {A : Type 0} (test : A → Bool) (k : ℕ) (z : A) (v next : View A) → test z ≡ false → IsClientPut k z v next → IsCovered test v → IsCovered test next
client_put_covered {A = A} test k z v next quiet m covered = subst (IsCovered test) (sym m.gives) (client_covered test v k this (Some new) (alter f v.sessions) m.here
    (λ o t own online flows is.
    let same : new ≡ o = some_same new o own in
    subst (λ x. IsCoveredBy test this x t) same (mine t flows (subst (λ (x : Own A). alter f v.sessions x.number ≡ Some t) (sym same) is))))
  where
    this : Conn A
    this = record m.conn { wires = send_up (Up (St z) ∷ []) m.conn.wires }

    new : Own A
    new = record m.own { queue = m.own.queue ++ z ∷ [] }

    f : ℕ → Session A → Session A
    f = λ q s. putting (has (Some m.own.number) q) z s

    mine : (t : Session A) → is_flowing (send_up (Up (St z) ∷ []) m.conn.wires) ≡ true → alter f v.sessions m.own.number ≡ Some t → IsCoveredBy test this new t
    mine t flows is =
        let w = was f v.sessions m.own.number t is in
        let flows_old : is_flowing m.conn.wires ≡ true = sym (same_flow_up (Up (St z) ∷ []) m.conn.wires) ∙ flows in
        let g = covered k m.conn m.own w.0 m.here m.is m.is_own m.client flows_old w.1 in
        let put : t.up.put ≡ w.0.up.put ++ z ∷ [] = ap (λ (x : Session A). x.up.put) (sym w.2) ∙ rw same_number refl in
        let up : up_words (send_up (Up (St z) ∷ []) m.conn.wires) ≡ up_words m.conn.wires ++ Up (St z) ∷ [] = flowing_up (Up (St z) ∷ []) m.conn.wires flows_old in
        record {
          count = g.count;
          comes = elim g.comes [
            | inl e ↦ inl e
            | inr x ↦ inr (elim x [
              | inl e ↦ inl (subst (IsOnWay g.count) (sym (same_down (Up (St z) ∷ []) m.conn.wires)) e)
              | inr e ↦ inr (subst (λ (x : Session A). IsToCome g.count (length x.up.got) (up_words (send_up (Up (St z) ∷ []) m.conn.wires))) w.2 (subst (λ ws. IsToCome g.count (length w.0.up.got) ws) (sym up) (to_come_more g.count (length w.0.up.got) (up_words m.conn.wires) (Up (St z) ∷ []) e)))
            ])
          ];
          none = subst (λ (l : List A). NoneAsks test (drop g.count l)) (sym put) (none_push test g.count w.0.up.put z quiet g.none);
        }

-- a request covers all that was put
pub client_request_covered : {A : Type 0} (test : A → Bool) (k : ℕ) (v next : View A) → IsClientRequest k v next → LinkKept v → IsCovered test next
client_request_covered {A = A} test k v next m kept = subst (IsCovered test) (sym m.gives) (client_covered test v k this v.own v.sessions m.here
    (λ o t own online flows is.
    let flows_old : is_flowing m.conn.wires ≡ true = sym (same_flow_up (Up Req ∷ []) m.conn.wires) ∙ flows in
    let g = together v k m.conn o kept m.here m.is own online flows_old in
    let same : g.0 ≡ t = some_one (v.sessions o.number) g.0 t g.1.session is in
    let all : t.up.put ≡ t.up.got ++ up_stanzas (up_words m.conn.wires) = subst (λ (x : Session A). x.up.put ≡ x.up.got ++ up_stanzas (up_words m.conn.wires)) same g.1.all in
    record {
      count = length t.up.put;
      comes = inr (inr (subst (λ ws. IsToCome (length t.up.put) (length t.up.got) ws) (sym (flowing_up (Up Req ∷ []) m.conn.wires flows_old))
          (to_come_last (length t.up.put) (length t.up.got) (up_words m.conn.wires) (sym (ap length all ∙ length-append t.up.got (up_stanzas (up_words m.conn.wires)))))));
      none = subst (λ (l : List A). NoneAsks test l) (sym (drop_whole t.up.put)) tt;
    }))
  where
    this : Conn A
    this = record m.conn { wires = send_up (Up Req ∷ []) m.conn.wires }

-- the client takes traffic

pub down_stanza_covered : {A : Type 0} (test : A → Bool) (k : ℕ) (z : A) (v next : View A) → IsDownStanza k z v next → IsCovered test v → IsCovered test next
down_stanza_covered {A = A} test k z v next m covered = subst (IsCovered test) (sym m.gives) (client_covered test v k this (Some new) (alter f v.sessions) m.here
    (λ o t own online flows is.
    let same : new ≡ o = some_same new o own in
    subst (λ x. IsCoveredBy test this x t) same (mine t flows (subst (λ (x : Own A). alter f v.sessions x.number ≡ Some t) (sym same) is))))
  where
    this : Conn A
    this = record m.conn { wires = send_up [] (left_down m.rest m.conn.wires) }

    new : Own A
    new = record m.own { handled = m.own.handled + 1 }

    f : ℕ → Session A → Session A
    f = λ q s. read_if (has (Some m.own.number) q) z (down_stanzas m.rest) s

    mine : CoversAfter test this v f new
    mine t flows is =
        let w = was f v.sessions m.own.number t is in
        let flows_old : is_flowing m.conn.wires ≡ true = sym (flow_up [] m.rest m.conn.wires) ∙ flows in
        carry_over test m.conn this m.own new w.0 t refl (ap (λ (x : Session A). x.up.put) (sym w.2))
        (λ n e. subst (IsOnWay n) (sym (down_words_up [] m.rest m.conn.wires)) (subst (IsOnWay n) m.first e))
        (λ n e. inr (subst (λ (x : Session A). IsToCome n (length x.up.got) (up_words (send_up [] (left_down m.rest m.conn.wires)))) w.2 (subst (λ ws. IsToCome n (length w.0.up.got) ws) (sym (flowing_up_left [] m.rest m.conn.wires flows_old)) (to_come_more n (length w.0.up.got) (up_words m.conn.wires) [] e))))
        (covered k m.conn m.own w.0 m.here m.is m.is_own m.client flows_old w.1)

pub down_request_covered : {A : Type 0} (test : A → Bool) (k : ℕ) (v next : View A) → IsDownRequest k v next → IsCovered test v → IsCovered test next
down_request_covered {A = A} test k v next m covered = subst (IsCovered test) (sym m.gives) (client_covered test v k this v.own (alter f v.sessions) m.here
    (λ o t own online flows is.
    let u = unseen_by v f (λ q s. refl) (λ q s. refl) o t own is in
    let flows_old : is_flowing m.conn.wires ≡ true = sym (flow_up puts m.rest m.conn.wires) ∙ flows in
    carry_over test m.conn this o o u.0 t refl u.2
    (λ n e. subst (IsOnWay n) (sym (down_words_up puts m.rest m.conn.wires)) (subst (IsOnWay n) m.first e))
    (λ n e. inr (subst (λ (l : List A). IsToCome n (length l) (up_words (send_up (Up (Ack m.own.handled) ∷ []) (left_down m.rest m.conn.wires)))) (sym u.3) (subst (λ ws. IsToCome n (length u.0.up.got) ws) (sym (flowing_up_left puts m.rest m.conn.wires flows_old)) (to_come_more n (length u.0.up.got) (up_words m.conn.wires) puts e))))
    (covered k m.conn o u.0 m.here m.is own online flows_old u.1)))
  where
    puts : List (UpWord A)
    puts = Up (Ack m.own.handled) ∷ []

    this : Conn A
    this = record m.conn { wires = send_up (Up (Ack m.own.handled) ∷ []) (left_down m.rest m.conn.wires) }

    f : ℕ → Session A → Session A
    f = λ q s. told_if (has (Some m.own.number) q) s

pub down_count_covered : {A : Type 0} (test : A → Bool) (k h : ℕ) (v next : View A) → IsDownCount k h v next → LinkKept v → IsCovered test v → IsCovered test next
down_count_covered {A = A} test k h v next m kept covered = subst (IsCovered test) (sym m.gives) (client_covered test v k this (Some new) (alter f v.sessions) m.here
    (λ o t own online flows is.
    let same : new ≡ o = some_same new o own in
    subst (λ x. IsCoveredBy test this x t) same (mine t flows (subst (λ (x : Own A). alter f v.sessions x.number ≡ Some t) (sym same) is))))
  where
    this : Conn A
    this = record m.conn { wires = send_up [] (left_down m.rest m.conn.wires) }

    new : Own A
    new = record m.own { acked = h; queue = drop (h - m.own.acked) m.own.queue }

    f : ℕ → Session A → Session A
    f = λ q s. heard_if (has (Some m.own.number) q) h s

    mine : CoversAfter test this v f new
    mine t flows is =
        let w = was f v.sessions m.own.number t is in
        let flows_old : is_flowing m.conn.wires ≡ true = sym (flow_up [] m.rest m.conn.wires) ∙ flows in
        let g = covered k m.conn m.own w.0 m.here m.is m.is_own m.client flows_old w.1 in
        heard t w.0 w.2 flows_old g g.comes
      where
        heard : (t s : Session A) → f m.own.number s ≡ t → is_flowing m.conn.wires ≡ true → (g : IsCoveredBy test m.conn m.own s) →
            (g.count ≡ m.own.acked) ⊎ (IsOnWay g.count (down_words m.conn.wires) ⊎ IsToCome g.count (length s.up.got) (up_words m.conn.wires)) → IsCoveredBy test this new t
        heard t s e flows g (inl same) =
            let within = down_count_within v k h m.conn m.own m.rest kept m.here m.is m.is_own m.first in
            let low = within.low in
            let less : g.count ≤ h = omega arith in
            record { count = h; comes = inl refl; none = subst (λ (x : Session A). NoneAsks test (drop h x.up.put)) e (none_behind test g.count h s.up.put less g.none) }
        heard t s e flows g (inr (inl on)) = elim (first (subst (IsOnWay g.count) m.first on)) [
          | inl same ↦ record { count = h; comes = inl refl; none = subst (λ (x : Session A). NoneAsks test (drop h x.up.put)) e (subst (λ (n : ℕ). NoneAsks test (drop n s.up.put)) (sym same) g.none) }
          | inr later ↦ record { count = g.count; comes = inr (inl (subst (IsOnWay g.count) (sym (down_words_up [] m.rest m.conn.wires)) later)); none = subst (λ (x : Session A). NoneAsks test (drop g.count x.up.put)) e g.none }
        ]
          where
            first : (h ≡ g.count) ⊎ IsOnWay g.count m.rest → (h ≡ g.count) ⊎ IsOnWay g.count m.rest
            first x = x
        heard t s e flows g (inr (inr come)) = record {
          count = g.count;
          comes = inr (inr (subst (λ (x : Session A). IsToCome g.count (length x.up.got) (up_words (send_up [] (left_down m.rest m.conn.wires)))) e (subst (λ ws. IsToCome g.count (length s.up.got) ws) (sym (flowing_up_left [] m.rest m.conn.wires flows)) (to_come_more g.count (length s.up.got) (up_words m.conn.wires) [] come))));
          none = subst (λ (x : Session A). NoneAsks test (drop g.count x.up.put)) e g.none;
        }
