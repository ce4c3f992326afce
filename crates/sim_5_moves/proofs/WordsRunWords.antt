-- Each word that is no stanza.
use Rattle.std.proofs.Common.{◌≡◌, ℕ, List, []}
use Rattle.srv_state.specs.State.{ServerState}
use Rattle.sim_3_items.specs.Identities.{Identity, Login}
use Rattle.sim_3_items.specs.WordItems.{up_item}
use Rattle.sim_3_items.specs.ItemMoves.{takes_reported}
use Rattle.sim_3_items.specs.ItemPipes.{ItemWire}
use Rattle.sim_2_links.specs.Views.{Table, View}
use Rattle.sim_2_links.specs.Words.{Ack, Auth, Bind, Enable, Foot, Hdr, Req, Resp, ResumeAt, St, Up, UpWord}
use Rattle.cmd_schedule.specs.Contents.{Owned}
use Rattle.sim_4_links_follow.specs.Taking.{IsFirst, on_item}
use Rattle.sim_5_moves.proofs.Mutes.{non_stanza_flags, non_stanza_runs, non_stanza_silent}
use Rattle.sim_3_items.specs.Served.{FlagsRepresent, ServerSimulates}
use Rattle.sim_1_applications.specs.Devices.{Sessions, Take}
use Rattle.sim_5_moves.proofs.Bound.{bound_runs, bound_silent}
use Rattle.sim_5_moves.proofs.Muted.{word_non_stanza}
use Rattle.sim_5_moves.specs.WordsRunWords.{IsDeviceOf, IsSilent, IsUnbinding}
use Rattle.xml_writer.specs.Items.{ItemOut}

-- it binds, or not
pub split_word : (P : UpWord ItemOut → Type 0) → P Bind → ((word : UpWord ItemOut) → IsUnbinding word → P word) → (word : UpWord ItemOut) → IsSilent word → P word
split_word P bind other Hdr is = other Hdr tt
split_word P bind other Auth is = other Auth tt
split_word P bind other Resp is = other Resp tt
split_word P bind other (ResumeAt p h) is = other (ResumeAt p h) tt
split_word P bind other Bind is = bind
split_word P bind other Enable is = other Enable tt
split_word P bind other (Up (St z)) is = absurd is
split_word P bind other (Up Req) is = other (Up Req) tt
split_word P bind other (Up (Ack n)) is = other (Up (Ack n)) tt
split_word P bind other Foot is = other Foot tt

module _ (who : Identity) (logins : ℕ → Login) (h : ServerState ItemOut) (wires : Table ItemWire) (v : View ItemOut) (k : ℕ) (owned : List Owned) (names : List (List ℕ)) (o : Owned) (of : IsDeviceOf owned names who o) where
  pub word_runs : (keep : ℕ) (takes : List Take) → ServerSimulates keep owned names takes h → (word : UpWord ItemOut) → IsSilent word → IsFirst who logins h wires v k word → ServerSimulates keep owned names takes (on_item k (up_item who (logins k) word) h).server_state
  word_runs keep takes runs =
      split_word (λ word. IsFirst who logins h wires v k word → ServerSimulates keep owned names takes (on_item k (up_item who (logins k) word) h).server_state)
      (λ p. bound_runs who logins h wires v k p owned names o of keep takes runs)
      (λ word is p. non_stanza_runs h k (up_item who (logins k) word) (word_non_stanza who (logins k) word is) keep owned names takes runs)

  pub word_silent : (moment : ℕ) (word : UpWord ItemOut) → IsSilent word → IsFirst who logins h wires v k word → takes_reported moment (on_item k (up_item who (logins k) word) h).outs ≡ []
  word_silent moment =
      split_word (λ word. IsFirst who logins h wires v k word → takes_reported moment (on_item k (up_item who (logins k) word) h).outs ≡ [])
      (λ p. bound_silent who logins h wires v k p owned names o of moment) (λ word is p. non_stanza_silent h k (up_item who (logins k) word) (word_non_stanza who (logins k) word is) moment)

pub word_flags : (who : Identity) (logins : ℕ → Login) (h : ServerState ItemOut) (wires : Table ItemWire) (v : View ItemOut) (k : ℕ) (word : UpWord ItemOut) (account : ℕ) (resource : List ℕ) (d : Sessions)
    → IsFirst who logins h wires v k word → IsUnbinding word → FlagsRepresent account resource h d → FlagsRepresent account resource (on_item k (up_item who (logins k) word) h).server_state d
word_flags who logins h wires v k word account resource d p is represents = non_stanza_flags h k (up_item who (logins k) word) (word_non_stanza who (logins k) word is) account resource d p.server.server_state.sessions represents
