-- The stanzas that the server reads, of bytes and of items, one after another.
use Rattle.std.proofs.Common.{◌≡◌, ℕ, zero, suc, ◌&&◌, Bool, true, false, cond, List, [], ◌∷◌, ◌++◌, Option, Some, None, map, is_some, refl, sym, ap, ap₂, ◌∙◌, append_assoc, append-nil}
use Rattle.std.specs.Option.{option_map}
use Rattle.law_server.proofs.EventsRendered.{item_rendered}
use Rattle.law_server.proofs.SessionsRendered.{at_rendered}
use Rattle.law_server.specs.Rendered.{server_state_rendered, session_rendered, step_rendered}
use Rattle.law_xml.specs.Spells.{placed}
use Rattle.sim_3_images.proofs.AfterOuts.{following, item_after}
use Rattle.sim_3_images.specs.ItemRuns.{downs, moved_where}
use Rattle.sim_3_images.specs.Reads.{all_item_reads, item_reads, read_along, read_here, read_where}
use Rattle.sim_3_items.specs.ItemMoves as items
use Rattle.sim_3_items.specs.ItemMoves.{ItemMove, all_moved, moved}
use Rattle.sim_3_items.specs.ItemWorlds.{ItemWorld, itself}
use Rattle.sm_live.specs.Sessions.{session_at}
use Rattle.srv_core.specs.Table.{after_item, at_open}
use Rattle.srv_state.specs.Steps.{acted}
use Rattle.srv_state.specs.Streams.{standing_at}
use Rattle.srv_state.specs.declared.connection.Standing.{Standing as ConnStanding}
use Rattle.srv_state.specs.State.{Out, ServerState, Step, conn_at}
use Rattle.srv_state.specs.Words.{is_stanza}
use Rattle.srv_state.specs.declared.connection.Connection.{Connection}
use Rattle.xml_framer.specs.declared.items.Item.{Item}
use Rattle.xml_framer.specs.declared.items.Item.TheVariants as item
use Rattle.xml_writer.specs.Items.{ItemOut, Whole, written_item}

-- ---- moves by which nothing goes up

pub reads_joined : (first second : List ItemMove) (v : ItemWorld) (i : ℕ) → all_item_reads (first ++ second) v i ≡ all_item_reads first v i ++ all_item_reads second (all_moved first v) i
reads_joined [] second v i = refl
reads_joined (m ∷ first) second v i =
    ap (λ l. item_reads m v i ++ l) (reads_joined first second (moved m v) i) ∙ sym (append_assoc (item_reads m v i) (all_item_reads first (moved m v) i) (all_item_reads second (all_moved first (moved m v)) i))

only_downs : (position count : ℕ) (v : ItemWorld) (i : ℕ) → all_item_reads (downs position count) v i ≡ []
only_downs position zero v i = refl
only_downs position (suc count) v i = only_downs position count (moved (items.Down position) v) i

pub downs_read : (position count : ℕ) (ended : Bool) (v : ItemWorld) (i : ℕ) → all_item_reads (downs position count ++ moved_where (items.DownEnd position) ended) v i ≡ []
downs_read position count ended v i = reads_joined (downs position count) (moved_where (items.DownEnd position) ended) v i ∙ ap₂ (λ a b. a ++ b) (only_downs position count v i) (by ended)
  where
    by : (b : Bool) → all_item_reads (moved_where (items.DownEnd position) b) (all_moved (downs position count) v) i ≡ []
    by true = refl
    by false = refl

-- nor by an end that is told to the server
pub up_end_read : (position : ℕ) (first : List ItemMove) (ended : Bool) (v : ItemWorld) (i : ℕ) → all_item_reads (first ++ moved_where (items.UpEnd position) ended) v i ≡ all_item_reads first v i
up_end_read position first ended v i = reads_joined first (moved_where (items.UpEnd position) ended) v i ∙ ap (λ l. all_item_reads first v i ++ l) (by ended) ∙ append-nil (all_item_reads first v i)
  where
    by : (b : Bool) → all_item_reads (moved_where (items.UpEnd position) b) (all_moved first v) i ≡ []
    by true = refl
    by false = refl

-- ---- what is put out is not looked at

pub read_following : {A : Type 0} (o : List (Out A)) (say : ItemOut → A) (k : ℕ) (l : List Item) (s : Step A) → read_along say k l (following o s) ≡ read_along say k l s
read_following o say k [] s = refl
read_following o say k (i ∷ l) s = ap (λ t. read_here k i s.server_state ++ read_along say k l t) (item_after o say k i s) ∙ ap (λ m. read_here k i s.server_state ++ m) (read_following o say k l (after_item say k i s))

-- ---- nor the place of a header

open_unplaced : {A : Type 0} (say : ItemOut → A) (k : ℕ) (i : Item) (o : Option ConnStanding) (h : ServerState A) → at_open say k i o h ≡ at_open say k (placed 0 i) o h
open_unplaced say k i None h = refl
open_unplaced say k (item.Header at header) (Some st) h = refl
open_unplaced say k (item.Element e) (Some st) h = refl
open_unplaced say k item.Footer (Some st) h = refl

pub item_unplaced : {A : Type 0} (say : ItemOut → A) (k : ℕ) (i : Item) (s : Step A) → after_item say k i s ≡ after_item say k (placed 0 i) s
item_unplaced say k i s = ap (λ acts. acted say acts s) (open_unplaced say k i (standing_at k s.server_state) s.server_state)

pub here_unplaced : {A : Type 0} (k : ℕ) (i : Item) (o : Option Connection) (h : ServerState A) → read_where o k i h ≡ read_where o k (placed 0 i) h
here_unplaced k i None h = refl
here_unplaced k (item.Header at header) (Some c) h = refl
here_unplaced k (item.Element e) (Some c) h = refl
here_unplaced k item.Footer (Some c) h = refl

pub read_unplaced : {A : Type 0} (say : ItemOut → A) (k : ℕ) (l : List Item) (s : Step A) → read_along say k l s ≡ read_along say k (map (placed 0) l) s
read_unplaced say k [] s = refl
read_unplaced say k (i ∷ l) s =
    ap₂ (λ a t. a ++ read_along say k l t) (here_unplaced k i (conn_at k s.server_state) s.server_state) (item_unplaced say k i s) ∙ ap (λ m. read_here k (placed 0 i) s.server_state ++ m) (read_unplaced say k l (after_item say k (placed 0 i) s))

-- ---- nor how things are written

some_rendered : {A B : Type 0} (f : A → B) (o : Option A) → is_some (option_map f o) ≡ is_some o
some_rendered f None = refl
some_rendered f (Some a) = refl

pub here_rendered : (k : ℕ) (i : Item) (o : Option Connection) (h : ServerState ItemOut) → read_where o k i (server_state_rendered written_item h) ≡ read_where o k i h
here_rendered k i None h = refl
here_rendered k (item.Header at header) (Some c) h = refl
here_rendered k item.Footer (Some c) h = refl
here_rendered k (item.Element e) (Some c) h =
    ap (λ b. cond (is_stanza e && b) (Whole e ∷ []) []) (ap is_some (at_rendered written_item k h.sessions) ∙ some_rendered (session_rendered written_item) (session_at k h.sessions))

pub read_rendered : (k : ℕ) (l : List Item) (s : Step ItemOut) → read_along written_item k l (step_rendered written_item s) ≡ read_along itself k l s
read_rendered k [] s = refl
read_rendered k (i ∷ l) s =
    ap₂ (λ a t. a ++ read_along written_item k l t) (here_rendered k i (conn_at k s.server_state) s.server_state) (item_rendered written_item itself k i s)
    ∙ ap (λ m. read_here k i s.server_state ++ m) (read_rendered k l (after_item itself k i s))
