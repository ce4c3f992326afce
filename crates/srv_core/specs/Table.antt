-- The table: what an item of a connection does, by where the connection stands.
use Rattle.std.specs.Prelude.{ℕ, List, [], ◌∷◌, Option, Some, None}
use Rattle.std.specs.Option.{option_map}
use Rattle.xml_framer.specs.declared.items.Item.{Item}
use Rattle.xml_framer.specs.declared.items.Item.TheVariants as item
use Rattle.sm_live.specs.Sessions.{session_at, told}
use Rattle.srv_state.specs.Logins.{at_challenge, at_login}
use Rattle.srv_core.specs.Ready.{at_ready_or_bound}
use Rattle.srv_state.specs.State.{ServerState, Step}
use Rattle.srv_state.specs.Steps.{Act, acted}
use Rattle.srv_state.specs.Streams.{at_any, at_header, closing, standing_at}
use Rattle.srv_state.specs.Words.{word_of}
use Rattle.srv_state.specs.declared.connection.Stage.{Stage}
use Rattle.srv_state.specs.declared.connection.Stage.TheVariants as stage
use Rattle.srv_state.specs.declared.connection.Standing.{Standing}
use Rattle.srv_state.specs.declared.word.Word.{Word}
use Rattle.xml_writer.specs.Items.{ItemOut}

abbrev pub at_word : {A : Type 0} → (ItemOut → A) → ℕ → Word → Stage → Standing → ServerState A → List (Act A)
at_word say k w stage.Login st h = at_login say k w st h
at_word say k w stage.Challenge st h = at_challenge say k w st h
at_word say k w (stage.Ready account) st h = at_ready_or_bound say k account w (option_map told (session_at k h.sessions)) st h
at_word say k w s st h = at_any say k w st h

abbrev pub at_item : {A : Type 0} → (ItemOut → A) → ℕ → Item → Standing → ServerState A → List (Act A)
at_item say k (item.Header at header) st h = at_header say k header st h
at_item say k (item.Element e) st h = at_word say k (word_of e) st.stage st h
at_item say k item.Footer st h = closing say k

-- an item of a connection does nothing where that isn't open
abbrev pub at_open : {A : Type 0} → (ItemOut → A) → ℕ → Item → Option Standing → ServerState A → List (Act A)
at_open say k i None h = []
at_open say k i (Some st) h = at_item say k i st h

abbrev pub after_item : {A : Type 0} → (ItemOut → A) → ℕ → Item → Step A → Step A
after_item say k i s = acted say (at_open say k i (standing_at k s.server_state) s.server_state) s

abbrev pub after_items : {A : Type 0} → (ItemOut → A) → ℕ → List Item → Step A → Step A
after_items say k [] s = s
after_items say k (i ∷ items) s = after_items say k items (after_item say k i s)
