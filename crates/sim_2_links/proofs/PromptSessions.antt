-- A session that the client reads of keeps that the count is still to come; and what is settled.
use Rattle.std.proofs.Common.{◌≡◌, ℕ, ◌+◌, ◌-◌, Bool, true, List, [], ◌∷◌, ◌++◌, length, drop, map, refl, sym, ap, ◌∙◌, subst, arith, ◌⊎◌, inl, inr, Some}
use Rattle.std.proofs.lemmas.List.{append-nil, length-append}
use Rattle.sim_2_links.proofs.Entries.{same_number, at_same, was, is_has}
use Rattle.sim_2_links.proofs.Tables.{left_down_whole}
use Rattle.sim_2_links.proofs.CutLinks.{some_one, some_same}
use Rattle.sim_2_links.proofs.Counting.{up_stanzas_with}
use Rattle.sim_2_links.proofs.Hands.{flow_up}
use Rattle.sim_2_links.proofs.ReadResumed.{Reads, reads, up_none, resent_if, read_resumed_keeps}
use Rattle.sim_2_links.proofs.ReadEnabled.{EnabledFirst, reads_enabled, known_if}
use Rattle.sim_2_links.proofs.ToCome.{drop_whole, to_come_last}
use Rattle.sim_2_links.proofs.Covering.{client_covered, together}
use Rattle.sim_2_links.proofs.Prompt.{flowing_up_left}
use Rattle.sim_2_links.specs.Words.{St, Req, up_stanzas, Up, Resumed, Enabled, InOnline}
use Rattle.sim_2_links.specs.Wires.{is_flowing, up_words, down_whole, send_up, left_down}
use Rattle.sim_2_links.specs.Stages.{Enables, up_of, tail_of, foot_of, Conn}
use Rattle.sim_2_links.specs.Views.{with_at, alter, has, Session, Own, View}
use Rattle.sim_2_links.specs.SessionMoves.{again, IsReadResumed, IsReadEnabled}
use Rattle.sim_2_links.specs.Links.{FitsOwn, ConnKept, LinkKept}
use Rattle.sim_2_links.specs.Covers.{NoneAsks, IsToCome, IsCoveredBy, IsCovered}

sent_again : {A : Type 0} (zs : List A) → up_stanzas (map Up (map St zs)) ≡ zs
sent_again [] = refl
sent_again (z ∷ zs) = ap (λ l. z ∷ l) (sent_again zs)

-- what is sent again ends with a request, or is nothing
again_comes : {A : Type 0} (zs : List A) (got n : ℕ) → got + length zs ≡ n → (zs ≡ []) ⊎ IsToCome n got (again zs)
again_comes [] got n e = inl refl
again_comes (z ∷ zs) got n e = inr (to_come_last n got (map Up (map St (z ∷ zs))) (let same : length (up_stanzas (map Up (map St (z ∷ zs)))) ≡ length (z ∷ zs) = ap length (sent_again (z ∷ zs)) in let sum : got + length (up_stanzas (map Up (map St (z ∷ zs)))) ≡ n = omega arith in sum))

again_is : {A : Type 0} (zs : List A) → up_stanzas (again zs) ≡ zs
again_is [] = refl
again_is (z ∷ zs) = up_stanzas_with (map Up (map St (z ∷ zs))) (Up Req ∷ []) ∙ append-nil (up_stanzas (map Up (map St (z ∷ zs)))) ∙ sent_again (z ∷ zs)

pub read_resumed_covered : {A : Type 0} (test : A → Bool) (k : ℕ) (v next : View A) → IsReadResumed k v next → LinkKept v → IsCovered test next
read_resumed_covered {A = A} test k v next m kept = subst (IsCovered test) (sym m.gives) (client_covered test v k this (Some new) (alter f v.sessions) m.here
    (λ o t own online flows is.
    let same : new ≡ o = some_same new o own in
    subst (λ x. IsCoveredBy test this x t) same (mine t flows (subst (λ (x : Own A). alter f v.sessions x.number ≡ Some t) (sym same) is))))
  where
    queue : List A
    queue = drop (m.h - m.own.acked) m.own.queue

    this : Conn A
    this = record m.conn { client = InOnline m.own.number; wires = send_up (again (drop (m.h - m.own.acked) m.own.queue)) (left_down m.rest m.conn.wires) }

    new : Own A
    new = record m.own { acked = m.h; queue = drop (m.h - m.own.acked) m.own.queue }

    f : ℕ → Session A → Session A
    f = λ q s. resent_if (has (Some m.own.number) q) (is_flowing m.conn.wires) s

    after : View A
    after = record v { conns = with_at k this v.conns; own = Some new; sessions = alter f v.sessions }

    after_kept : LinkKept (record v { conns = with_at k this v.conns; own = Some new; sessions = alter f v.sessions })
    after_kept = subst LinkKept m.gives (read_resumed_keeps k v next m kept)

    old : ConnKept v k m.conn
    old = kept.conns k m.conn m.is

    empty_up : up_words m.conn.wires ≡ []
    empty_up =
        let r : Reads old.stage m.own.number m.h (tail_of m.conn.ending) (down_whole (left_down m.rest m.conn.wires)) =
        reads old.stage m.conn.ending m.own.number m.h (down_whole (left_down m.rest m.conn.wires)) (sym old.at.down ∙ left_down_whole (Resumed m.own.number m.h) m.rest m.conn.wires m.first)
        in
        up_none m.conn.wires (old.at.up ∙ ap (λ x. up_of x ++ foot_of m.conn.footed) r.is ∙ ap foot_of (old.piped.unfooted (is_has v.here k m.here)))

    mine : (t : Session A) → is_flowing (send_up (again (drop (m.h - m.own.acked) m.own.queue)) (left_down m.rest m.conn.wires)) ≡ true → alter f v.sessions m.own.number ≡ Some t → IsCoveredBy test this new t
    mine t flows is =
        let flows_old : is_flowing m.conn.wires ≡ true = sym (flow_up (again queue) m.rest m.conn.wires) ∙ flows in
        let w = was f v.sessions m.own.number t is in
        let g = together after k this new after_kept m.here (at_same k this v.conns) refl refl flows in
        let same : g.0 ≡ t = some_one (alter f v.sessions m.own.number) g.0 t g.1.session is in
        let up : up_words (send_up (again (drop (m.h - m.own.acked) m.own.queue)) (left_down m.rest m.conn.wires)) ≡ again queue = flowing_up_left (again queue) m.rest m.conn.wires flows_old ∙ ap (λ l. l ++ again queue) empty_up in
        let all : t.up.put ≡ t.up.got ++ queue = subst (λ (x : Session A). x.up.put ≡ x.up.got ++ up_stanzas (up_words (send_up (again (drop (m.h - m.own.acked) m.own.queue)) (left_down m.rest m.conn.wires)))) same g.1.all ∙ ap (λ l. t.up.got ++ l) (ap up_stanzas up ∙ again_is queue) in
        let acked : m.h ≡ t.up.acked = g.1.acked ∙ ap (λ (x : Session A). x.up.acked) same in
        let got : t.up.acked ≡ length t.up.got = ap (λ (x : Session A). x.up.acked) (sym w.2) ∙ count w.0 ∙ ap (λ (x : Session A). length x.up.got) w.2 in
        elim (again_comes queue (length t.up.got) (length t.up.put) (sym (ap length all ∙ length-append t.up.got queue))) [
          | inl none ↦
              let put : t.up.put ≡ t.up.got = all ∙ ap (λ l. t.up.got ++ l) none ∙ append-nil t.up.got in
              let nothing : drop m.h t.up.put ≡ [] = ap (λ (n : ℕ). drop n t.up.put) (acked ∙ got ∙ sym (ap length put)) ∙ drop_whole t.up.put in
              record { count = m.h; comes = inl refl; none = subst (λ (l : List A). NoneAsks test l) (sym nothing) tt }
          | inr come ↦ record {
            count = length t.up.put;
            comes = inr (inr (subst (λ ws. IsToCome (length t.up.put) (length t.up.got) ws) (sym up) come));
            none = subst (λ (l : List A). NoneAsks test l) (sym (drop_whole t.up.put)) tt;
          }
        ]
      where
        count : (s : Session A) → (f m.own.number s).up.acked ≡ length (f m.own.number s).up.got
        count s = rw same_number refl

pub read_enabled_covered : {A : Type 0} (test : A → Bool) (k number : ℕ) (v next : View A) → IsReadEnabled k number v next → LinkKept v → IsCovered test next
read_enabled_covered {A = A} test k number v next m kept = subst (IsCovered test) (sym m.gives) (client_covered test v k this (Some new) (alter f v.sessions) m.here
    (λ o t own online flows is.
    let same : new ≡ o = some_same new o own in
    subst (λ x. IsCoveredBy test this x t) same (mine t (subst (λ (x : Own A). alter f v.sessions x.number ≡ Some t) (sym same) is))))
  where
    this : Conn A
    this = record m.conn { client = InOnline number; wires = send_up [] (left_down m.rest m.conn.wires) }

    new : Own A
    new = record { number = number; acked = 0; handled = 0; queue = [] }

    f : ℕ → Session A → Session A
    f = λ q s. known_if (has (Some number) q) s

    old : ConnKept v k m.conn
    old = kept.conns k m.conn m.is

    r : EnabledFirst old.stage number (tail_of m.conn.ending) (down_whole (left_down m.rest m.conn.wires))
    r = reads_enabled old.stage m.conn.ending number (down_whole (left_down m.rest m.conn.wires)) (sym old.at.client ∙ m.client) (sym old.at.down ∙ left_down_whole (Enabled number) m.rest m.conn.wires m.first)

    mine : (t : Session A) → alter f v.sessions number ≡ Some t → IsCoveredBy test this new t
    mine t is =
        let w = was f v.sessions number t is in
        let fits : FitsOwn v.own v.epoch v.sessions (Enables number r.downs) = subst (λ x. FitsOwn v.own v.epoch v.sessions x) r.is (old.fits (is_has v.here k m.here)) in
        let same : fits.1.0 ≡ w.0 = some_one (v.sessions number) fits.1.0 w.0 fits.1.1 w.1 in
        let put : t.up.put ≡ [] = ap (λ (x : Session A). x.up.put) (sym w.2) ∙ ap (λ (x : Session A). x.up.put) (sym same) ∙ (kept.sessions number fits.1.0 fits.1.1).unread fits.1.4 in
        record { count = 0; comes = inl refl; none = subst (λ (l : List A). NoneAsks test l) (sym put) tt }
