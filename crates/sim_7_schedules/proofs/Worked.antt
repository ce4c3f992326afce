-- What a client's notes and a server's outputs tell of its sessions, evaluated: it handles a stanza, is bound anew, handles
-- another one and puts one; and the server puts two stanzas, and a request behind them.
use Rattle.std.proofs.Common.{◌≡◌, ℕ, List, [], ◌∷◌, None, Some, codes, map, refl, ap, ◌∙◌}
use Rattle.cl_handlers.specs.Speech.{Counted, Epoch, Handled, Note, Put, Stated}
use Rattle.sim_3_images.specs.Puts.{begins_stanza, puts_on}
use Rattle.sim_7_schedules.specs.Courses.{IsNoted, before, handled_in, put_in}
use Rattle.sim_7_schedules.specs.Pairs.{Pair}
use Rattle.sm_acks.specs.Delivery.{beginning}
use Rattle.srv_state.specs.State.{Out, Put as PutOut, Shut}
use Rattle.xml_trees.specs.Trees.{Elem}
use Rattle.xml_writer.specs.Items.{ItemOut, Whole, written_item}

module _ (one two : Elem) (written : List ℕ) where
  abbrev notes : List (Note (List ℕ))
  notes = Handled one ∷ Stated 1 ∷ Epoch 2 ∷ Counted ∷ Handled two ∷ Put written ∷ []

  -- in the session that it had
  handled_before : handled_in 1 notes 1 ≡ Whole one ∷ []
  handled_before = refl

  put_before : put_in 1 notes 1 ≡ []
  put_before = refl

  -- in the new one
  handled_behind : handled_in 1 notes 2 ≡ Whole two ∷ []
  handled_behind = refl

  put_behind : put_in 1 notes 2 ≡ written ∷ []
  put_behind = refl

  -- in one that comes later
  handled_later : handled_in 1 notes 3 ≡ []
  handled_later = refl

-- ---- what a server puts out, of which the stanzas for one connection are looked for

abbrev outs : List (Out (List ℕ))
outs = PutOut 1 (codes "<message/>") ∷ PutOut 2 (codes "<message to='b'/>") ∷ PutOut 1 (codes "<iq id='1'/>") ∷ PutOut 1 (codes "<r xmlns='urn:xmpp:sm:3'/>") ∷ Shut 2 ∷ []

puts_here : puts_on begins_stanza 1 outs ≡ codes "<message/>" ∷ codes "<iq id='1'/>" ∷ []
puts_here = refl

puts_there : puts_on begins_stanza 2 outs ≡ codes "<message to='b'/>" ∷ []
puts_there = refl

puts_nowhere : puts_on begins_stanza 3 outs ≡ []
puts_nowhere = refl

-- ---- and a session in which just these were put

module _ (one two : ItemOut) where
  abbrev session : List ItemOut → Pair
  session put = record { epoch = Some 1; up = beginning; down = record beginning { put = put } }

  abbrev told : List (List ℕ)
  told = written_item one ∷ written_item two ∷ []

  both_put : IsNoted 1 [] [] told (before None) (session (one ∷ two ∷ [])) 1
  both_put = record { handled = refl; put = ([], refl, refl); taken = refl; sent = (one ∷ two ∷ [], refl, refl) }

  -- one that drops the second is no such session
  one_dropped : IsNoted 1 [] [] told (before None) (session (one ∷ [])) 1 → ⊥
  one_dropped is =
      let (more, joined, written) = is.sent in
      let same : written_item one ∷ [] ≡ told = ap (map written_item) joined ∙ written in
      let no_way : ⊥ = cc in no_way

  -- nor is one in which a stanza was put that no output tells
  one_untold : IsNoted 1 [] [] [] (before None) (session (one ∷ [])) 1 → ⊥
  one_untold is =
      let (more, joined, written) = is.sent in
      let same : written_item one ∷ [] ≡ [] = ap (map written_item) joined ∙ written in
      let no_way : ⊥ = cc in no_way
