-- One connection as the server takes a word from it, puts words, shuts it, or hears of its end.
use Rattle.std.proofs.Common.{◌≡◌, ℕ, true, not, List, [], ◌∷◌, map, refl, sym, ap, subst, ◌∙◌}
use Rattle.std.proofs.lemmas.List.Elements.{All-append, All-nil, All-tail}
use Rattle.std.specs.List.{All}
use Rattle.sim_3_items.specs.Counted.{IsForClient, IsForServer}
use Rattle.sim_3_items.specs.Identities.{Identity, Login}
use Rattle.sim_3_items.specs.Pipes.{IsWire}
use Rattle.sim_3_items.specs.WordItems.{down_item, is_after_login, up_item}
use Rattle.sim_3_images.proofs.PutSteps.{items_ended_entered}
use Rattle.sim_3_items.specs.ItemPipes.{ItemWire, handed_up, put_down, shut, up_end_reported}
use Rattle.sim_2_links.proofs.Counting.{down_stanzas_with}
use Rattle.sim_2_links.proofs.Prompt.{same_flow_down, same_up}
use Rattle.sim_2_links.specs.SessionMoves.{shut as shut_conn}
use Rattle.sim_2_links.specs.Stages.{Closes, Conn, Ending, Errs, Stands, tail_of}
use Rattle.sim_2_links.specs.Words.{Ack, Auth, Bind, DownWord, Enable, Foot, Hdr, Phase, Req, Resp, ResumeAt, St, Up, UpWord, down_stanzas, up_stanzas}
use Rattle.sim_2_links.specs.Wires.{Flow, Stop, Wires, down_words, left_up, send_down, up_words}
use Rattle.sim_4_links_follow.proofs.Flows.{halted, halted_down, halted_up, handed_words, put_taken, put_words, taken_flowing, taken_up}
use Rattle.xml_writer.specs.Items.{ItemOut}

-- ---- stanzas among words

fewer_up : {A : Type 0} (P : A → Type 0) (word : UpWord A) (rest : List (UpWord A)) → All P (up_stanzas (word ∷ rest)) → All P (up_stanzas rest)
fewer_up P (Up (St z)) rest all = All-tail P z (up_stanzas rest) all
fewer_up P (Up Req) rest all = all
fewer_up P (Up (Ack n)) rest all = all
fewer_up P Hdr rest all = all
fewer_up P Auth rest all = all
fewer_up P Resp rest all = all
fewer_up P (ResumeAt p h) rest all = all
fewer_up P Bind rest all = all
fewer_up P Enable rest all = all
fewer_up P Foot rest all = all

more_down : {A : Type 0} (P : A → Type 0) (puts : List (DownWord A)) (ws : Wires A) → All P (down_stanzas (down_words ws)) → All P (down_stanzas puts) → All P (down_stanzas (down_words (send_down puts ws)))
more_down P puts (Flow us ds) all more = subst (All P) (sym (down_stanzas_with ds puts)) (All-append P (down_stanzas ds) (down_stanzas puts) all more)
more_down P puts (Stop us ds lu ld) all more = all

no_stanza : {A : Type 0} (P : A → Type 0) (ending : Ending) → All P (down_stanzas {A = A} (tail_of ending))
no_stanza P Stands = All-nil P
no_stanza P (Errs cause) = All-nil P
no_stanza P Closes = All-nil P

-- ---- the connection

module _ (who : Identity) (x : Login) (k : ℕ) (c : Conn ItemOut) (w : ItemWire) (is : IsWire who x k c w) where
  -- the server takes the first word, and puts others
  pub wire_taken : (word : UpWord ItemOut) (rest : List (UpWord ItemOut)) (puts : List (DownWord ItemOut)) (p : Phase) → up_words c.wires ≡ word ∷ rest → All IsForClient (down_stanzas puts)
      → IsWire who x k (record c { phase = p; wires = send_down puts (left_up rest c.wires) }) (put_down (map (down_item who x k (is_after_login c.client)) puts) (handed_up w))
  wire_taken word rest puts p first more =
      let f : UpWord ItemOut → ItemOut = up_item who x in
      let g : DownWord ItemOut → ItemOut = down_item who x k (is_after_login c.client) in
      record {
        of = is.of;
        login = is.login;
        up = handed_words f word rest w.up (is.up ∙ ap (map f) first) ∙ ap (map f) (sym (taken_up rest puts c.wires));
        down = put_words g puts c.wires w.down is.down is.down_ended ∙ ap (map g) (sym (put_taken rest puts c.wires));
        up_ended = is.up_ended ∙ ap not (sym (taken_flowing rest puts c.wires));
        down_ended = items_ended_entered (map g puts) w.down ∙ is.down_ended ∙ ap not (sym (taken_flowing rest puts c.wires));
        gone = is.gone;
        for_server =
            subst (λ ws. All IsForServer (up_stanzas ws)) (sym (taken_up rest puts c.wires))
            (fewer_up IsForServer word rest (subst (λ ws. All IsForServer (up_stanzas ws)) first is.for_server));
        for_client =
            subst (λ ws. All IsForClient (down_stanzas ws)) (sym (put_taken rest puts c.wires))
            (more_down IsForClient puts c.wires is.for_client more);
      }

  -- it puts words
  pub wire_put : (puts : List (DownWord ItemOut)) → All IsForClient (down_stanzas puts)
      → IsWire who x k (record c { wires = send_down puts c.wires }) (put_down (map (down_item who x k (is_after_login c.client)) puts) w)
  wire_put puts more =
      let g : DownWord ItemOut → ItemOut = down_item who x k (is_after_login c.client) in
      record {
        of = is.of;
        login = is.login;
        up = is.up ∙ ap (map (up_item who x)) (sym (same_up puts c.wires));
        down = put_words g puts c.wires w.down is.down is.down_ended;
        up_ended = is.up_ended ∙ ap not (sym (same_flow_down puts c.wires));
        down_ended = items_ended_entered (map g puts) w.down ∙ is.down_ended ∙ ap not (sym (same_flow_down puts c.wires));
        gone = is.gone;
        for_server = subst (λ ws. All IsForServer (up_stanzas ws)) (sym (same_up puts c.wires)) is.for_server;
        for_client = more_down IsForClient puts c.wires is.for_client more;
      }

  -- it ends the stream, with these words, and shuts the connection
  pub wire_shut : (ending : Ending) → IsWire who x k (shut_conn ending c) (shut (put_down (map (down_item who x k (is_after_login c.client)) (tail_of ending)) w))
  wire_shut ending =
      let g : DownWord ItemOut → ItemOut = down_item who x k (is_after_login c.client) in
      let puts : List (DownWord ItemOut) = tail_of ending in
      let ws : Wires ItemOut = send_down puts c.wires in
      record {
        of = is.of;
        login = is.login;
        up = ap (map (up_item who x)) (sym (halted_up ws));
        down = put_words g puts c.wires w.down is.down is.down_ended ∙ ap (map g) (sym (halted_down ws));
        up_ended = ap not (sym (halted ws));
        down_ended = ap not (sym (halted ws));
        gone = is.gone;
        for_server = subst (λ us. All IsForServer (up_stanzas us)) (sym (halted_up ws)) (All-nil IsForServer);
        for_client = subst (λ ds. All IsForClient (down_stanzas ds)) (sym (halted_down ws)) (more_down IsForClient puts c.wires is.for_client (no_stanza IsForClient ending));
      }

  -- it hears of the end
  pub wire_gone : IsWire who x k (record c { gone = true }) (up_end_reported w)
  wire_gone = record {
    of = is.of;
    login = is.login;
    up = is.up;
    down = is.down;
    up_ended = is.up_ended;
    down_ended = is.down_ended;
    gone = refl;
    for_server = is.for_server;
    for_client = is.for_client;
  }

-- a connection that is shut has nothing on its way up, whether or not a word was taken before
pub shut_handed : (items : List ItemOut) (w : ItemWire) → shut (put_down items (handed_up w)) ≡ shut (put_down items w)
shut_handed items w = refl
