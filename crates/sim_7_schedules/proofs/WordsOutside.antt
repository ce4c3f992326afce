-- What is on its way up on a connection on which the server has no session: one word, and perhaps the footer behind it.
use Rattle.std.proofs.Common.{◌≡◌, ℕ, Bool, true, false, List, [], ◌∷◌, ◌++◌, None, Some, append-nil, map, refl, sym, ap, subst, ◌∙◌, ◌⊎◌, inl, inr}
use Rattle.std.proofs.lemmas.Option.{none-some}
use Rattle.srv_state.specs.State.{ServerState}
use Rattle.sim_3_items.specs.Counted.{IsForServer}
use Rattle.sim_3_items.specs.Identities.{Identity, Login}
use Rattle.sim_3_items.specs.WordItems.{up_item}
use Rattle.sim_3_items.specs.ItemPipes.{ItemWire}
use Rattle.sim_2_links.specs.Links.{IsBare}
use Rattle.sim_2_links.specs.Stages.{AsksBind, AsksEnable, AsksResume, Answers, Binds, Challenged, Enables, Greeted, Greets, Offered, Proves, Refused, Regreeted, Regreets, Reoffered, Resumes, Runs, Stage, Stands, Succeeded, foot_of, phase_of, up_of}
use Rattle.sim_2_links.specs.Views.{Table, View, on_phase, session_on}
use Rattle.sim_2_links.specs.Wires.{Flow, Stop, Wires, up_whole, up_words}
use Rattle.sim_2_links.specs.Words.{Ack, AtSession, Auth, Bind, Enable, Foot, Hdr, Req, Resp, ResumeAt, St, Up, UpWord}
use Rattle.sim_4_links_follow.proofs.Found.{found_on}
use Rattle.sim_4_links_follow.proofs.HandMoves.{kept_here, wire_here}
use Rattle.sim_4_links_follow.proofs.Servings.{live_of}
use Rattle.sim_4_links_follow.proofs.StanzaRows.{stanza_comes}
use Rattle.sim_4_links_follow.proofs.Standing.{stands_at}
use Rattle.sim_4_links_follow.specs.Taking.{IsFirst}
use Rattle.sm_live.specs.Sessions.{session_at}
use Rattle.sim_7_schedules.proofs.WordsSparing.{IsOutside}
use Rattle.xml_writer.specs.Items.{Closing, ItemOut}

-- ---- the table of the handshake

whole_rest : (ws : Wires ItemOut) (words : List (UpWord ItemOut)) → up_words ws ≡ words → (lost : List (UpWord ItemOut)) × (up_whole ws ≡ words ++ lost)
whole_rest (Flow us ds) words first = ([], first ∙ sym (append-nil words))
whole_rest (Stop us ds lu ld) words first = (lu, ap (λ l. l ++ lu) first)

no_more : (footed : Bool) (rest lost : List (UpWord ItemOut)) → rest ++ lost ≡ foot_of footed → IsBare rest
no_more footed [] lost e = inl refl
no_more false (r ∷ rest) lost e = absurd (let no_way : ⊥ = cc in no_way)
no_more true (r ∷ []) lost e = inr (let same : r ≡ Foot = cc in ap (λ w. w ∷ []) same)
no_more true (r ∷ q ∷ rest) lost e = absurd (let no_way : ⊥ = cc in no_way)

abbrev Outside : UpWord ItemOut → List (UpWord ItemOut) → Type 0
Outside word rest = IsOutside word × IsBare rest

foot_first : (footed : Bool) (word : UpWord ItemOut) (rest lost : List (UpWord ItemOut)) → word ∷ (rest ++ lost) ≡ foot_of footed → Outside word rest
foot_first false word rest lost e = absurd (let no_way : ⊥ = cc in no_way)
foot_first true word [] lost e = (let same : word ≡ Foot = cc in subst IsOutside (sym same) tt, inl refl)
foot_first true word (r ∷ rest) lost e = absurd (let no_way : ⊥ = cc in no_way)

word_first : (a : UpWord ItemOut) → IsOutside a → (footed : Bool) (word : UpWord ItemOut) (rest lost : List (UpWord ItemOut)) → word ∷ (rest ++ lost) ≡ a ∷ foot_of footed → Outside word rest
word_first a is footed word rest lost e =
    let same : word ≡ a = cc in
    let left : rest ++ lost ≡ foot_of footed = cc in
    (subst IsOutside (sym same) is, no_more footed rest lost left)

by_stage : (s : Stage ItemOut) (footed : Bool) (word : UpWord ItemOut) (rest lost : List (UpWord ItemOut)) → ((q : ℕ) → phase_of s ≡ AtSession q → ⊥) → word ∷ (rest ++ lost) ≡ up_of s ++ foot_of footed → Outside word rest
by_stage Greets footed word rest lost off e = word_first Hdr tt footed word rest lost e
by_stage Greeted footed word rest lost off e = foot_first footed word rest lost e
by_stage Offered footed word rest lost off e = foot_first footed word rest lost e
by_stage Proves footed word rest lost off e = word_first Auth tt footed word rest lost e
by_stage Challenged footed word rest lost off e = foot_first footed word rest lost e
by_stage Answers footed word rest lost off e = word_first Resp tt footed word rest lost e
by_stage Succeeded footed word rest lost off e = foot_first footed word rest lost e
by_stage Regreets footed word rest lost off e = word_first Hdr tt footed word rest lost e
by_stage Regreeted footed word rest lost off e = foot_first footed word rest lost e
by_stage Reoffered footed word rest lost off e = foot_first footed word rest lost e
by_stage (AsksResume p h) footed word rest lost off e = word_first (ResumeAt p h) tt footed word rest lost e
by_stage (Refused p) footed word rest lost off e = foot_first footed word rest lost e
by_stage (Resumes p h downs) footed word rest lost off e = absurd (off p refl)
by_stage AsksBind footed word rest lost off e = word_first Bind tt footed word rest lost e
by_stage (Binds m) footed word rest lost off e = absurd (off m refl)
by_stage (AsksEnable m) footed word rest lost off e = absurd (off m refl)
by_stage (Enables m downs) footed word rest lost off e = absurd (off m refl)
by_stage (Runs p ups downs) footed word rest lost off e = absurd (off p refl)

-- nothing, or the footer alone
abbrev pub IsDone : List ItemOut → Type 0
IsDone items = (items ≡ []) ⊎ (items ≡ Closing ∷ [])

module _ (who : Identity) (logins : ℕ → Login) (h : ServerState ItemOut) (wires : Table ItemWire) (v : View ItemOut) (k : ℕ) (word : UpWord ItemOut) (p : IsFirst who logins h wires v k word) where
  module _ (none : session_at k h.sessions ≡ None) where
    stands : (p.conn.ending ≡ Stands) × (p.conn.gone ≡ false)
    stands = stands_at v k p.conn (kept_here who logins h wires v k word p) p.is word p.rest p.first

    on : (q : ℕ) → p.conn.phase ≡ AtSession q → session_on p.conn ≡ Some q
    on q at = ap (λ f. on_phase f p.conn.ending p.conn.gone) at ∙ ap (λ e. on_phase (AtSession q) e p.conn.gone) stands.0 ∙ ap (λ g. on_phase (AtSession q) Stands g) stands.1

    off : (q : ℕ) → p.conn.phase ≡ AtSession q → ⊥
    off q at =
        let a = ((kept_here who logins h wires v k word p).conns k p.conn p.is).attached q (on q at) in
        let l = live_of who logins h v a.0 p.server a.1 in
        none-some l.session (sym none ∙ found_on h.next k who.account who.resource h.sessions l.session p.server.server_state.sessions l.named (l.row.conn ∙ a.3))

    pub outside : IsOutside word × IsBare p.rest
    outside =
        let conn = (kept_here who logins h wires v k word p).conns k p.conn p.is in
        let whole = whole_rest p.conn.wires (word ∷ p.rest) p.first in
        by_stage conn.stage p.conn.footed word p.rest whole.0 (λ q at. off q (conn.at.phase ∙ at)) (sym whole.1 ∙ conn.at.up)

  pub items_are : p.wire.up.items ≡ up_item who (logins k) word ∷ map (up_item who (logins k)) p.rest
  items_are = (wire_here who logins h wires v k word p).up ∙ ap (map (up_item who (logins k))) p.first

-- behind a word that comes there
pub done_after : (who : Identity) (x : Login) (rest : List (UpWord ItemOut)) → IsBare rest → IsDone (map (up_item who x) rest)
done_after who x rest (inl none) = inl (ap (map (up_item who x)) none)
done_after who x rest (inr foot) = inr (ap (map (up_item who x)) foot)

-- the footer is that of no other word
pub closes : (who : Identity) (logins : ℕ → Login) (h : ServerState ItemOut) (wires : Table ItemWire) (v : View ItemOut) (k : ℕ) (word : UpWord ItemOut) → IsFirst who logins h wires v k word → up_item who (logins k) word ≡ Closing → IsOutside word
closes who logins h wires v k Hdr p is = tt
closes who logins h wires v k Auth p is = tt
closes who logins h wires v k Resp p is = tt
closes who logins h wires v k (ResumeAt q n) p is = tt
closes who logins h wires v k Bind p is = tt
closes who logins h wires v k Enable p is = absurd (let no_way : ⊥ = cc in no_way)
closes who logins h wires v k (Up (St z)) p is =
    let stanza : IsForServer z = (stanza_comes who logins h wires v k z p).stanza in
    let whole = stanza.whole in
    absurd (let no_way : ⊥ = cc in no_way)
closes who logins h wires v k (Up Req) p is = absurd (let no_way : ⊥ = cc in no_way)
closes who logins h wires v k (Up (Ack n)) p is = absurd (let no_way : ⊥ = cc in no_way)
closes who logins h wires v k Foot p is = tt
