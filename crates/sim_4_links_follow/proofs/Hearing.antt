-- One connection as the client takes a word from it, puts words, or leaves it.
use Rattle.std.proofs.Common.{◌≡◌, ℕ, not, List, [], ◌∷◌, length, map, take, refl, sym, ap, subst, ◌∙◌}
use Rattle.std.proofs.lemmas.List.Elements.{All-append, All-nil, All-tail}
use Rattle.std.specs.List.{All}
use Rattle.sim_3_items.specs.Counted.{IsForClient, IsForServer}
use Rattle.sim_3_items.specs.Identities.{Identity, Login}
use Rattle.sim_3_items.specs.Pipes.{IsWire}
use Rattle.sim_3_items.specs.WordItems.{down_item, is_after_login, up_item}
use Rattle.sim_3_images.proofs.ItemsHeard.{nothing_entered}
use Rattle.sim_3_images.proofs.PutSteps.{items_ended_entered, items_told_entered}
use Rattle.sim_3_items.specs.ItemPipes.{ItemPipe, ItemWire, closed, emptied, handed_down, left, put_up}
use Rattle.sim_2_links.proofs.Counting.{up_stanzas_with}
use Rattle.sim_2_links.proofs.CutLinks.{cut_conn}
use Rattle.sim_2_links.proofs.Prompt.{same_down, same_flow_up}
use Rattle.sim_2_links.proofs.Tables.{cut_down_words, cut_stops, cut_up_words}
use Rattle.sim_2_links.specs.Stages.{Conn}
use Rattle.sim_2_links.specs.Wires.{Flow, Stop, Wires, cut, down_words, left_down, send_up, up_words}
use Rattle.sim_2_links.specs.Words.{Ack, Bound, Chal, Client, Down, DownWord, Enabled, End, Err, Failed, Feat, Head, Req, Resumed, St, Succ, UpWord, down_stanzas, up_stanzas}
use Rattle.sim_4_links_follow.proofs.Flows.{handed_words, heard_flowing, put_heard, said_words, taken_down}
use Rattle.xml_writer.specs.Items.{ItemOut}

-- ---- stanzas among words

fewer_down : {A : Type 0} (P : A → Type 0) (word : DownWord A) (rest : List (DownWord A)) → All P (down_stanzas (word ∷ rest)) → All P (down_stanzas rest)
fewer_down P (Down (St z)) rest all = All-tail P z (down_stanzas rest) all
fewer_down P (Down Req) rest all = all
fewer_down P (Down (Ack n)) rest all = all
fewer_down P Head rest all = all
fewer_down P Feat rest all = all
fewer_down P Chal rest all = all
fewer_down P Succ rest all = all
fewer_down P Failed rest all = all
fewer_down P (Resumed p h) rest all = all
fewer_down P (Bound m) rest all = all
fewer_down P (Enabled m) rest all = all
fewer_down P (Err cause) rest all = all
fewer_down P End rest all = all

more_up : {A : Type 0} (P : A → Type 0) (puts : List (UpWord A)) (ws : Wires A) → All P (up_stanzas (up_words ws)) → All P (up_stanzas puts) → All P (up_stanzas (up_words (send_up puts ws)))
more_up P puts (Flow us ds) all more = subst (All P) (sym (up_stanzas_with us puts)) (All-append P (up_stanzas us) (up_stanzas puts) all more)
more_up P puts (Stop us ds lu ld) all more = all

-- ---- all words that are under way stay

take_all : {T : Type 0} (items : List T) → take (length items) items ≡ items
take_all [] = refl
take_all (item ∷ items) = ap (λ l. item ∷ l) (take_all items)

pub all_stay : {A : Type 0} (ws : Wires A) → up_words (cut (length (up_words ws)) 0 ws) ≡ up_words ws
all_stay ws = cut_up_words (length (up_words ws)) 0 ws ∙ take_all (up_words ws)

-- ---- the connection

module _ (who : Identity) (x : Login) (k : ℕ) (c : Conn ItemOut) (w : ItemWire) (is : IsWire who x k c w) where
  -- the client takes the first word, puts others, and comes to a state: the items that are left are those of their
  -- words also behind it
  pub wire_heard_as : (word : DownWord ItemOut) (rest : List (DownWord ItemOut)) (puts : List (UpWord ItemOut)) (client : Client) → down_words c.wires ≡ word ∷ rest
      → map (down_item who x k (is_after_login c.client)) rest ≡ map (down_item who x k (is_after_login client)) rest → All IsForServer (up_stanzas puts)
      → IsWire who x k (record c { client = client; wires = send_up puts (left_down rest c.wires) }) (put_up (map (up_item who x) puts) (handed_down w))
  wire_heard_as word rest puts client first same more =
      let f : UpWord ItemOut → ItemOut = up_item who x in
      let g : DownWord ItemOut → ItemOut = down_item who x k (is_after_login c.client) in
      let after : DownWord ItemOut → ItemOut = down_item who x k (is_after_login client) in
      record {
        of = is.of;
        login = is.login;
        up = said_words f puts c.wires w.up is.up is.up_ended ∙ ap (map f) (sym (put_heard rest puts c.wires));
        down = handed_words g word rest w.down (is.down ∙ ap (map g) first) ∙ same ∙ ap (map after) (sym (taken_down rest puts c.wires));
        up_ended = items_ended_entered (map f puts) w.up ∙ is.up_ended ∙ ap not (sym (heard_flowing rest puts c.wires));
        down_ended = is.down_ended ∙ ap not (sym (heard_flowing rest puts c.wires));
        gone = items_told_entered (map f puts) w.up ∙ is.gone;
        for_server =
            subst (λ ws. All IsForServer (up_stanzas ws)) (sym (put_heard rest puts c.wires))
            (more_up IsForServer puts c.wires is.for_server more);
        for_client =
            subst (λ ws. All IsForClient (down_stanzas ws)) (sym (taken_down rest puts c.wires))
            (fewer_down IsForClient word rest (subst (λ ws. All IsForClient (down_stanzas ws)) first is.for_client));
      }

  pub wire_heard : (word : DownWord ItemOut) (rest : List (DownWord ItemOut)) (puts : List (UpWord ItemOut)) (client : Client) → down_words c.wires ≡ word ∷ rest → is_after_login client ≡ is_after_login c.client
      → All IsForServer (up_stanzas puts) → IsWire who x k (record c { client = client; wires = send_up puts (left_down rest c.wires) }) (put_up (map (up_item who x) puts) (handed_down w))
  wire_heard word rest puts client first same more = wire_heard_as word rest puts client first (ap (λ b. map (down_item who x k b) rest) (sym same)) more

  -- it puts words
  pub wire_said : (puts : List (UpWord ItemOut)) → All IsForServer (up_stanzas puts) → IsWire who x k (record c { wires = send_up puts c.wires }) (put_up (map (up_item who x) puts) w)
  wire_said puts more =
      let f : UpWord ItemOut → ItemOut = up_item who x in
      let g : DownWord ItemOut → ItemOut = down_item who x k (is_after_login c.client) in
      record {
        of = is.of;
        login = is.login;
        up = said_words f puts c.wires w.up is.up is.up_ended;
        down = is.down ∙ ap (map g) (sym (same_down puts c.wires));
        up_ended = items_ended_entered (map f puts) w.up ∙ is.up_ended ∙ ap not (sym (same_flow_up puts c.wires));
        down_ended = is.down_ended ∙ ap not (sym (same_flow_up puts c.wires));
        gone = items_told_entered (map f puts) w.up ∙ is.gone;
        for_server = more_up IsForServer puts c.wires is.for_server more;
        for_client = subst (λ ws. All IsForClient (down_stanzas ws)) (sym (same_down puts c.wires)) is.for_client;
      }

  -- it leaves: what is on its way up stays, and all on its way down is lost
  pub wire_left : IsWire who x k (cut_conn (length (up_words c.wires)) 0 c) (left w)
  wire_left =
      let ws : Wires ItemOut = c.wires in
      record {
        of = is.of;
        login = is.login;
        up = is.up ∙ ap (map (up_item who x)) (sym (all_stay ws));
        down = ap (map (down_item who x k (is_after_login c.client))) (sym (cut_down_words (length (up_words ws)) 0 ws));
        up_ended = ap not (sym (cut_stops (length (up_words ws)) 0 ws));
        down_ended = ap not (sym (cut_stops (length (up_words ws)) 0 ws));
        gone = is.gone;
        for_server = subst (λ us. All IsForServer (up_stanzas us)) (sym (all_stay ws)) is.for_server;
        for_client = subst (λ ds. All IsForClient (down_stanzas ds)) (sym (cut_down_words (length (up_words ws)) 0 ws)) (All-nil IsForClient);
      }

-- where nothing is put, it is left as before the word was taken
pub left_silent : (w : ItemWire) → left (put_up [] (handed_down w)) ≡ left w
left_silent w = ap (λ (p : ItemPipe). record w { up = closed p; down = emptied w.down }) (nothing_entered w.up)
