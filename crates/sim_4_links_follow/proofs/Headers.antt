-- What comes on a connection before its header was put is a header.
use Rattle.std.proofs.Common.{◌≡◌, ℕ, Bool, false, List, ◌∷◌, ◌++◌, Some, refl, sym, ap, subst, ◌∙◌, ◌+◌, slice_get}
use Rattle.std.specs.Option.{option_map}
use Rattle.srv_state.specs.State.{ServerState}
use Rattle.sim_3_items.specs.Identities.{Identity, Login}
use Rattle.sim_3_items.specs.Pipes.{by_number}
use Rattle.sim_3_items.specs.Servers.{open_conn}
use Rattle.sim_3_items.specs.Represents.{Represents}
use Rattle.sim_3_items.specs.WordItems.{up_item}
use Rattle.xml_framer.specs.declared.states.Phase.TheVariants as framing
use Rattle.sim_3_images.specs.EncodingsCores.{IsOpening, MayCome, writer_at, writer_of}
use Rattle.sim_3_items.specs.ItemMoves.{Up}
use Rattle.sim_3_items.specs.ItemPipes.{ItemWire}
use Rattle.sim_3_items.specs.ItemWorlds.{ItemWorld}
use Rattle.sim_2_links.proofs.Reached.{link_kept}
use Rattle.sim_2_links.specs.Machine.{LinkReached}
use Rattle.sim_2_links.specs.Stages.{Ending, Greets, Stage, Stands, foot_of, phase_of, up_of}
use Rattle.sim_2_links.specs.Views.{Table, View}
use Rattle.sim_2_links.specs.Words.{AtSession, Challenge, Hdr, Phase, Ready, Restart, Sasl, Start, UpWord}
use Rattle.sim_4_links_follow.proofs.Standing.{whole_first}
use Rattle.sim_4_links_follow.specs.Taking.{HasFirst, IsFirst}
use Rattle.sim_4_links_follow.proofs.Ups.{item_is_word}
use Rattle.sim_4_links_follow.specs.Standing.{MayGoUp}
use Rattle.xml_writer.specs.Items.{ItemOut}

-- at the first row of the table the first word is the header
greets : {A : Type 0} (s : Stage A) (footed : Bool) (word : UpWord A) (more : List (UpWord A)) → phase_of s ≡ Start → up_of s ++ foot_of footed ≡ word ∷ more → Hdr ≡ word
greets Greets footed word more is first = let same : Hdr ≡ word = cc in same
greets _ footed word more is first = absurd (let no_way : ⊥ = cc in no_way)

-- only there the writer of a connection awaits its header
first_is_start : (who : Identity) (x : Login) (p : Phase) (e : Ending) (gone : Bool) → option_map writer_of (open_conn who x p e gone) ≡ Some framing.First → p ≡ Start
first_is_start who x Start e gone is = refl
first_is_start who x Sasl Stands false is = absurd (let no_way : ⊥ = cc in no_way)
first_is_start who x Challenge Stands false is = absurd (let no_way : ⊥ = cc in no_way)
first_is_start who x Restart Stands false is = absurd (let no_way : ⊥ = cc in no_way)
first_is_start who x Ready Stands false is = absurd (let no_way : ⊥ = cc in no_way)
first_is_start who x (AtSession p) Stands false is = absurd (let no_way : ⊥ = cc in no_way)
first_is_start who x _ _ _ is = absurd (let no_way : ⊥ = cc in no_way)

module _ (who : Identity) (logins : ℕ → Login) (h : ServerState ItemOut) (wires : Table ItemWire) (v : View ItemOut) (k : ℕ) where
  word_opens : (word : UpWord ItemOut) (p : IsFirst who logins h wires v k word) → writer_at k h ≡ Some framing.First → IsOpening (up_item who (logins k) word)
  word_opens word p first =
      let conn = (link_kept v p.reached).conns k p.conn p.is in
      let phase : p.conn.phase ≡ Start =
      first_is_start who (logins k) p.conn.phase p.conn.ending p.conn.gone (sym (ap (option_map writer_of) (p.server.conns k p.conn p.is)) ∙ first) in
      let whole = whole_first p.conn.wires word p.rest p.first in
      subst (λ x. IsOpening (up_item who (logins k) x)) (greets conn.stage p.conn.footed word whole.0 (sym conn.at.phase ∙ phase) (sym conn.at.up ∙ whole.1)) tt

  pub item_may_come : (w : ItemWire) (i : ItemOut) → HasFirst who logins h wires v k w i → MayCome (writer_at k h) i
  item_may_come w i has first = subst IsOpening has.is (word_opens has.word has.first first)

-- in a world, where the connection is one of the device's
pub item_may_go_up : (who : Identity) (logins : ℕ → Login) (w : ItemWorld) (v : View ItemOut) (position : ℕ) → Represents who logins w v → LinkReached v → ((wire : ItemWire) → slice_get w.wires position ≡ Some wire → wire.device ≡ who.position) → MayGoUp (Up position) w
item_may_go_up who logins w v position s reached its wire i items there first =
    item_may_come who logins w.server (by_number w.wires) v (position + 1) wire i (item_is_word who logins w v position wire i items s reached there (its wire there) first)
