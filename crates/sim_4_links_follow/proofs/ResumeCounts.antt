-- The count of a resumption (XEP-0198, section 5): it names a place in the queue, or it is behind the one acknowledged, on a
-- connection that the client left; then it is told as one that is too high.
use Rattle.std.proofs.Common.{◌≡◌, ℕ, ◌+◌, ◌-◌, ◌<◌, ◌≤◌, ◌^◌, ◌%◌, true, false, List, ◌++◌, Some, length, nat_lt, sym, ap, subst, ◌∙◌, ◌⊎◌, inl, inr, arith}
use Rattle.std.proofs.lemmas.Bool.{cases_Bool}
use Rattle.std.proofs.lemmas.Bool.Decides.{nat_tests}
use Rattle.std.proofs.lemmas.List.{length-append, length-drop}
use Rattle.std.proofs.lemmas.Option.{same_Some}
use Rattle.std.specs.List.{Contains}
use Rattle.sm_acks.proofs.Directions.{kept_reached}
use Rattle.sm_acks.specs.Counters.{ahead}
use Rattle.sm_acks.specs.Delivery.{Direction, Reached, queue_of}
use Rattle.srv_state.specs.State.{ServerState}
use Rattle.sim_3_items.specs.Identities.{Identity, Login}
use Rattle.sim_3_items.specs.Servers.{IsRow}
use Rattle.sim_3_items.specs.WordItems.{told_count}
use Rattle.sim_3_items.specs.ItemPipes.{ItemWire}
use Rattle.sim_2_links.proofs.Entries.{has_is}
use Rattle.sim_2_links.proofs.Promised.{resume_is_present}
use Rattle.sim_2_links.specs.Promises.{IsWithin}
use Rattle.sim_2_links.specs.Views.{Row, Table, View, has}
use Rattle.sim_2_links.specs.Views as links
use Rattle.sim_2_links.specs.Words.{ResumeAt}
use Rattle.sm_live.specs.Sessions.{Session, is_too_high, session_resumed}
use Rattle.sm_resumption.specs.Previds.{previd_of}
use Rattle.sim_4_links_follow.proofs.HandMoves.{kept_here}
use Rattle.sim_4_links_follow.proofs.ResumeRows.{IsOwnSession, old}
use Rattle.sim_4_links_follow.proofs.ResumeTaken.{first_word}
use Rattle.sim_4_links_follow.specs.Taking.{AreCountable, IsFirst}
use Rattle.xml_writer.specs.Items.{ItemOut}

within_stated : (d : Direction ItemOut) (acked n : ℕ) (queue : List ItemOut) → Reached d → acked ≡ d.acked → queue ≡ queue_of d → acked ≤ n → Contains d.stated n → IsWithin acked queue n
within_stated d acked n queue reached same is low stated =
    let k = kept_reached d reached in
    let top = k.stated n stated in
    let all = ap length k.front.1 in
    let a = length-append (d.got ++ d.way) k.front.0 in
    let b = length-append d.got d.way in
    let q : length queue ≡ length d.put - d.acked = ap length is ∙ length-drop d.acked d.put in
    record { low = low; high = omega arith }

-- what is acknowledged and what waits is what was put
all_put : (d : Direction ItemOut) (acked : ℕ) (queue : List ItemOut) → Reached d → acked ≡ d.acked → queue ≡ queue_of d → length d.put < 2 ^ 32 → acked + length queue < 2 ^ 32
all_put d acked queue reached same is few =
    let k = kept_reached d reached in
    let got = k.acked in
    let all = ap length k.front.1 in
    let a = length-append (d.got ++ d.way) k.front.0 in
    let b = length-append d.got d.way in
    let q : length queue ≡ length d.put - d.acked = ap length is ∙ length-drop d.acked d.put in
    omega arith

-- a count that is behind is far ahead modulo 2 ^ 32
after_ahead : (n a l : ℕ) → n + 1 ≤ a → a + l < 2 ^ 32 → l + 1 ≤ ahead (n % 2 ^ 32) (a % 2 ^ 32)
after_ahead n a l following few = omega arith

is_high : (q a : ℕ) → q + 1 ≤ a → nat_lt q a ≡ true
is_high q a above = grind (arith, nat_tests)

pub high_so : (r : Row ItemOut) (n : ℕ) (s : Session ItemOut) → IsRow r s → n + 1 ≤ r.acked → r.acked + length r.queue < 2 ^ 32 → is_too_high (told_count n) s ≡ true
high_so r n s is following few =
    let far : length r.queue + 1 ≤ ahead (told_count n) (told_count r.acked) = after_ahead n r.acked (length r.queue) following few in
    is_high (length s.waiting) (ahead (told_count n) s.acked)
    (subst (λ a. length s.waiting + 1 ≤ ahead (told_count n) a) (sym is.acked) (subst (λ q. length q + 1 ≤ ahead (told_count n) (told_count r.acked)) (sym is.waiting) far))

-- it names a place, on the connection that the client works on or late
pub record IsPosition (v : View ItemOut) (k n : ℕ) (r : Row ItemOut) : Type 0 where
  pub within : IsWithin r.acked r.queue n
  pub here : (v.here ≡ Some k) ⊎ ((has v.here k ≡ false) × (r.acked ≤ n))

-- it is behind
pub record IsAfter (v : View ItemOut) (k n : ℕ) (r : Row ItemOut) : Type 0 where
  pub left : has v.here k ≡ false
  pub following : n + 1 ≤ r.acked
  pub few : r.acked + length r.queue < 2 ^ 32

module _ (who : Identity) (logins : ℕ → Login) (h : ServerState ItemOut) (wires : Table ItemWire) (v : View ItemOut) (k q n : ℕ) (p : IsFirst who logins h wires v k (ResumeAt q n)) (countable : AreCountable v) (s : Session ItemOut)
    (found : session_resumed (previd_of q) who.account h.sessions ≡ Some s) (own : IsOwnSession who h v q s) where
  late_within : own.row.acked ≤ n → IsWithin own.row.acked own.row.queue n
  late_within low =
      let kept = kept_here who logins h wires v k (ResumeAt q n) p in
      let r = kept.row own.row own.is_row in
      let asked = old who logins h wires v k q n p s found in
      let same : r.session ≡ asked.session = same_Some r.session asked.session (sym r.is ∙ ap v.sessions (sym own.live.number ∙ own.number) ∙ asked.there) in
      let stated : Contains r.session.down.stated n = subst (λ (t : links.Session ItemOut). Contains t.down.stated n) (sym same) asked.stated in
      within_stated r.session.down own.row.acked n own.row.queue (kept.sessions own.row.number r.session r.is).down r.acked r.queue low stated

  few_put : own.row.acked + length own.row.queue < 2 ^ 32
  few_put =
      let kept = kept_here who logins h wires v k (ResumeAt q n) p in
      let r = kept.row own.row own.is_row in
      all_put r.session.down own.row.acked own.row.queue (kept.sessions own.row.number r.session r.is).down r.acked r.queue (countable.few own.row.number r.session r.is)

  pub count_so : IsPosition v k n own.row ⊎ IsAfter v k n own.row
  count_so =
      elim (cases_Bool (has v.here k)) [
        | inl works ↦
            let here : v.here ≡ Some k = has_is v.here k works in
            let present = resume_is_present v k n p.conn own.row p.rest (kept_here who logins h wires v k (ResumeAt q n) p) here p.is own.is_row (first_word who logins h wires v k q n p s found own) in
            inl (record { within = present.3; here = inl here })
        | inr left ↦ late left (cases_Bool (nat_lt n own.row.acked))
      ]
    where
      late : has v.here k ≡ false → (nat_lt n own.row.acked ≡ true) ⊎ (nat_lt n own.row.acked ≡ false) → IsPosition v k n own.row ⊎ IsAfter v k n own.row
      late left (inl following) = inr (record { left = left; following = grind (arith, nat_tests); few = few_put })
      late left (inr low) = let enough : own.row.acked ≤ n = grind (arith, nat_tests) in inl (record { within = late_within enough; here = inr (left, enough) })
