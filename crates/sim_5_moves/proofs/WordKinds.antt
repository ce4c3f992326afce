-- An item on its way up is that of a word but a stanza, whosever words are looked at.
use Rattle.std.proofs.Common.{◌≡◌, ℕ, true, List, [], sym, subst, ◌∙◌}
use Rattle.std.proofs.lemmas.Bool.{false≢true}
use Rattle.std.proofs.lemmas.Option.{none-some}
use Rattle.sim_4_links_follow.specs.Following.{WorldFollows}
use Rattle.srv_state.specs.State.{ServerState}
use Rattle.sim_3_items.specs.Counted.{IsForServer}
use Rattle.sim_3_items.specs.Labels.{Label}
use Rattle.sim_3_items.specs.Identities.{Identity, Login}
use Rattle.sim_3_items.specs.WordItems.{up_item}
use Rattle.sim_3_items.specs.ItemPipes.{ItemWire}
use Rattle.sim_3_items.specs.ItemWorlds.{ItemWorld}
use Rattle.sim_2_links.proofs.Expected.{expected_up}
use Rattle.sim_2_links.specs.Promises.{HasThere}
use Rattle.sim_2_links.specs.Views.{Table, View}
use Rattle.sim_2_links.specs.Words.{Ack, Auth, Bind, Enable, Foot, Hdr, Req, Resp, ResumeAt, St, Up as UpTraffic, UpWord}
use Rattle.sim_4_links_follow.proofs.HandMoves.{kept_here}
use Rattle.sim_4_links_follow.proofs.Sessions.{live, seat}
use Rattle.sim_4_links_follow.specs.Taking.{HasFirst, IsFirst}
use Rattle.sim_5_moves.proofs.WordsRunWords.{split_word}
use Rattle.sim_5_moves.specs.Coming.{IsNonStanza}
use Rattle.sim_4_links_follow.proofs.StanzaRows.{stanza_comes}
use Rattle.sim_5_moves.proofs.Fresh.{none_here}
use Rattle.sim_5_moves.proofs.Muted.{word_non_stanza}
use Rattle.sim_5_moves.specs.WordsRunWords.{IsSilent, IsUnbinding}
use Rattle.sim_4_links_follow.specs.Steps.{UpDoes}
use Rattle.xml_writer.specs.Items.{ItemOut, Whole}

-- what it does is no label
pub silent_does : (who whom : Identity) (logins : ℕ → Login) (position : ℕ) (w after : ItemWorld) (v : View ItemOut) (first : ItemOut → List (Label ItemOut)) (word : UpWord ItemOut) → IsSilent word → UpDoes who whom logins position w after v first word
    → WorldFollows whom logins after v []
silent_does who whom logins position w after v first Hdr is does = does
silent_does who whom logins position w after v first Auth is does = does
silent_does who whom logins position w after v first Resp is does = does
silent_does who whom logins position w after v first (ResumeAt p h) is does = does
silent_does who whom logins position w after v first Bind is does = does
silent_does who whom logins position w after v first Enable is does = does
silent_does who whom logins position w after v first (UpTraffic (St z)) is does = absurd is
silent_does who whom logins position w after v first (UpTraffic Req) is does = does
silent_does who whom logins position w after v first (UpTraffic (Ack n)) is does = does
silent_does who whom logins position w after v first Foot is does = does

-- no stanza is the item of another word that binds nothing
no_non_stanza : (who : Identity) (x : Login) (word : UpWord ItemOut) → IsUnbinding word → (z : ItemOut) → IsForServer z → up_item who x word ≡ z → ⊥
no_non_stanza who x word un z stanza same =
    let non_stanza : IsNonStanza (Whole stanza.elem) = subst IsNonStanza (same ∙ stanza.whole) (word_non_stanza who x word un) in
    false≢true (sym non_stanza ∙ stanza.stanza)

module _ (h : ServerState ItemOut) (wires : Table ItemWire) (k : ℕ) (who whom : Identity) (logins others : ℕ → Login) (v u : View ItemOut) where
  -- where a stanza comes is a session, and where a device binds there is none
  no_bind : (z : ItemOut) → IsFirst whom others h wires u k (UpTraffic (St z)) → IsFirst who logins h wires v k Bind → ⊥
  no_bind z p bind =
      let there : HasThere u k p.conn.phase true = expected_up u k p.conn (UpTraffic (St z)) p.rest (kept_here whom others h wires u k (UpTraffic (St z)) p) p.is p.first in
      none-some (live whom others h wires u k (UpTraffic (St z)) p true there).session
      (sym (none_here who logins h wires v k bind) ∙ seat whom others h wires u k (UpTraffic (St z)) p true there)

  module _ (wire : ItemWire) (i : ItemOut) (a : HasFirst who logins h wires v k wire i) (silent : IsSilent a.word) where
    no_stanza : (z : ItemOut) → z ≡ i → IsFirst whom others h wires u k (UpTraffic (St z)) → ⊥
    no_stanza z is p =
        split_word (λ word. up_item who (logins k) word ≡ i → IsFirst who logins h wires v k word → ⊥) (λ same bind. no_bind z p bind)
        (λ word un same first. no_non_stanza who (logins k) word un z (stanza_comes whom others h wires u k z p).stanza (same ∙ sym is)) a.word silent a.is a.first

    by_word : (word : UpWord ItemOut) → up_item whom (others k) word ≡ i → IsFirst whom others h wires u k word → IsSilent word
    by_word Hdr is p = tt
    by_word Auth is p = tt
    by_word Resp is p = tt
    by_word (ResumeAt q n) is p = tt
    by_word Bind is p = tt
    by_word Enable is p = tt
    by_word (UpTraffic (St z)) is p = no_stanza z is p
    by_word (UpTraffic Req) is p = tt
    by_word (UpTraffic (Ack n)) is p = tt
    by_word Foot is p = tt

    pub still_silent : (c : HasFirst whom others h wires u k wire i) → IsSilent c.word
    still_silent c = by_word c.word c.is c.first
