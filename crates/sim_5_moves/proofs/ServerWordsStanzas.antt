-- A stanza of a session is counted, and handled.
use Rattle.std.proofs.Common.{◌≡◌, ℕ, true, Some, ap, ◌∙◌, if◌then◌else◌}
use Rattle.std.specs.Option.{option_map}
use Rattle.srv_state.specs.State.{ServerState}
use Rattle.srv_state.specs.Steps.{acted}
use Rattle.srv_state.specs.Streams.{standing_of}
use Rattle.srv_state.specs.Words.{is_bad_management, is_long, is_stanza, management_word, word_of}
use Rattle.srv_state.specs.declared.word.Word.TheVariants as word
use Rattle.sim_3_items.specs.ItemMoves.{step_of}
use Rattle.sim_3_items.specs.ItemWorlds.{itself, read_of}
use Rattle.sm_live.specs.Sessions.{Session, told}
use Rattle.sim_5_moves.specs.Replied.{following}
use Rattle.srv_core.specs.Table.{at_open, at_word}
use Rattle.sim_5_moves.specs.Coming.{IsHandled, behind_item}
use Rattle.im_stanza.specs.Readings.{stanza_of}
use Rattle.srv_core.specs.Ready.{at_ready_or_bound}
use Rattle.srv_core.specs.Stanzas.{at_stanza, judging}
use Rattle.xml_trees.specs.Trees.{Elem}
use Rattle.xml_writer.specs.Items.{ItemOut, Whole}

stanza_word : (e : Elem) → is_stanza e ≡ true → word_of e ≡ word.Stanza (is_long e) (stanza_of e)
unfolding word_of
stanza_word e is = ap (λ b. if b then word.Stanza (is_long e) (stanza_of e) else (if is_bad_management e then word.BadField else management_word e)) is

pub handled_is : (k : ℕ) (e : Elem) (s : Session ItemOut) (h : ServerState ItemOut) → IsHandled k e s h → behind_item k (Whole e) h ≡ following e s h
handled_is k e s h is =
    let st = standing_of is.conn in
    let acts =
    ap (λ c. at_open itself k (read_of (Whole e)) (option_map standing_of c) h) is.open_one
    ∙ ap (λ g. at_word itself k (word_of e) g st h) is.ready
    ∙ ap (λ o. at_ready_or_bound itself k is.account (word_of e) (option_map told o) st h) is.seat
    ∙ ap (λ w. at_ready_or_bound itself k is.account w (Some (told s)) st h) (stanza_word e is.stanza)
    ∙ ap (λ long. at_stanza itself k long (stanza_of e) (told s) st h) is.short
    ∙ ap (λ condition. judging itself k (stanza_of e) (told s) st condition h) is.fair in
    ap (λ row. acted itself row (step_of h)) acts
