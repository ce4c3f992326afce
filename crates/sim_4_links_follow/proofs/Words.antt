-- Each word that is no stanza leaves other devices.
use Rattle.std.proofs.Common.{ℕ, inl, inr}
use Rattle.srv_state.specs.State.{ServerState}
use Rattle.sim_3_items.specs.Identities.{Identity, Login}
use Rattle.sim_3_items.specs.ItemPipes.{ItemWire}
use Rattle.sim_2_links.specs.Views.{Table, View}
use Rattle.sim_2_links.specs.Words.{Ack, Auth, Bind, Enable, Foot, Hdr, Req, Resp, ResumeAt, St, Up, UpWord}
use Rattle.sim_4_links_follow.proofs.Binds.{bind_stays}
use Rattle.sim_4_links_follow.proofs.Resumes.{resume_stays}
use Rattle.sim_4_links_follow.specs.OtherDevices.{HasRoom, IsNoStanza, IsOtherDevice}
use Rattle.sim_4_links_follow.proofs.OtherEnds.{own_word_stays}
use Rattle.sim_4_links_follow.specs.Taking.{IsFirst, IsLeft, IsOwnWord}
use Rattle.xml_writer.specs.Items.{ItemOut}

module _ (who whom : Identity) (logins others : ℕ → Login) (h : ServerState ItemOut) (wires : Table ItemWire) (v u : View ItemOut) (k : ℕ) where
  own_stays : (word : UpWord ItemOut) (p : IsFirst who logins h wires v k word) → IsOwnWord word → IsOtherDevice who whom others h wires u → IsLeft who whom logins others h wires u k p.wire word
  own_stays word p is beside = own_word_stays who whom logins others h wires v u k word p is beside.apart beside.server beside.pipes

  pub word_stays : (word : UpWord ItemOut) (p : IsFirst who logins h wires v k word) → IsNoStanza word → HasRoom word h → IsOtherDevice who whom others h wires u → IsLeft who whom logins others h wires u k p.wire word
  word_stays Hdr p none room beside = own_stays Hdr p (inl tt) beside
  word_stays Auth p none room beside = own_stays Auth p (inl tt) beside
  word_stays Resp p none room beside = own_stays Resp p (inl tt) beside
  word_stays (ResumeAt q n) p none room beside = resume_stays who whom logins others h wires v u k q n p beside
  word_stays Bind p none room beside = bind_stays who logins h wires v k p whom others u room beside
  word_stays Enable p none room beside = own_stays Enable p (inr tt) beside
  word_stays (Up (St z)) p none room beside = absurd none
  word_stays (Up Req) p none room beside = own_stays (Up Req) p (inr tt) beside
  word_stays (Up (Ack n)) p none room beside = own_stays (Up (Ack n)) p (inr tt) beside
  word_stays Foot p none room beside = own_stays Foot p tt beside
